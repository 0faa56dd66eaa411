-- HTML is read line by line, from its first line on.
use Rattle.mdblock_leaf_blocks.proofs.Prelude.{Bool, List, [], ap, append-nil, append_assoc, cond, drop, false, inl, inr, nat_le, refl, subst, suc, sym, take, true, ℕ, ◌++◌, ◌∙◌, ◌∷◌, ◌≡◌, Seat, end_after, HtmlFlow, HtmlFlowData, LineEnding, Point, Name, State, Retry, FlowAfter, HtmlFlowContinuationBefore, Given, Text, flow_byte, is_blank, is_line_feed, AreLines, IsReadAs, Line, bytes_of, text_of, Mark, leaf_marks, line_end, IsInLine, all_of, ending_of, line_text}
use Rattle.mdblock_leaf_blocks.proofs.Html.Checks.{blank_ahead}
use Rattle.mdblock_leaf_blocks.proofs.Html.Places.{inside, is_closed, through}
use Rattle.mdblock_leaf_blocks.proofs.Html.Reads.{BeginsAt, bare-line-read, before-begins, ends_here, enters, feed_in, goes-on, no-line-read, out, over_line, stops-at-end, stops-at-feed}
use Rattle.mdblock_leaf_blocks.proofs.Html.Steps.{Config, Kept, html_kept, kind_in}
use Rattle.mdblock_leaf_blocks.proofs.Lines.{AreRead as BlockRead, Fits, IsAt, cut-line, leaves, lines-behind, one-more, seats-split, text-in-line}

-- how many lines the block has, and whether it is open; each line is the last one, or not
module _ (kind : ℕ) where
  abbrev pub is_last : Line → List Line → Bool
  is_last line more = ends_here kind (text_of line) (all_of more)

  abbrev pub count : List Line → ℕ
  count [] = 0
  count (line ∷ more) = cond (is_last line more) 1 (suc (count more))

  abbrev pub stays_open : List Line → Bool
  stays_open [] = true
  stays_open (line ∷ more) = cond (is_last line more) false (stays_open more)

  fits-more : (is_open : Bool) (line : Line) (lines : List Line) → Fits is_open (line ∷ lines)
  fits-more true line lines = tt
  fits-more false line lines = tt

  pub fits : (lines : List Line) → Fits (stays_open lines) (take (count lines) lines)
  fits [] = tt
  fits (line ∷ more) = elim (is_last line more) as (λ e. Fits (cond e false (stays_open more)) (take (cond e 1 (suc (count more))) (line ∷ more))) [
    | true ↦ tt
    | false ↦ fits-more (stays_open more) line (take (count more) more)
  ]

module _ (g : Given) (t : Text) where
  abbrev pub ends : Point → List Mark
  ends p = leaves g (HtmlFlow ∷ []) p

  -- lines are read as the rest of the block, from a state in which these marks come before the data
  abbrev pub AreRead : Config → Name → Point → List Mark → (is_open : Bool) → (lines more : List Line) → Type 0
  AreRead = BlockRead g t html_kept (leaf_marks g.bytes HtmlFlowData) ends

  pub reads-as : (k : Config) (name : Name) (seats seats' rest rest' : List Seat) (marks marks' : List Mark) (to : State) → seats ≡ seats' → rest ≡ rest' → marks ≡ marks'
      → IsReadAs g t Kept k name seats rest marks to → IsReadAs g t Kept k name seats' rest' marks' to
  reads-as k name seats seats' rest rest' marks marks' to a b c h =
      subst (λ l. IsReadAs g t Kept k name l rest' marks' to) a (subst (λ r. IsReadAs g t Kept k name seats r marks' to) b (subst (λ m. IsReadAs g t Kept k name seats rest m to) c h))

  module _ (k : Config) (name : Name) (p : Point) (pre : List Mark) (line : Line) (s : Seat) (ss : List Seat) (text_is : line_text line ≡ s ∷ ss) where
    -- the last line, closed
    pub last-is-read : (rest : List Seat) (more : List Line) → ending_of line ++ all_of more ≡ rest
        → IsReadAs g t Kept k name (s ∷ ss) rest ((pre ++ enters g t s ∷ []) ++ out g t (end_after s.end ss)) (Retry FlowAfter) → AreRead k name p pre false (line ∷ []) more
    last-is-read rest more is h =
        reads-as k name (s ∷ ss) (line_text line) rest (ending_of line ++ all_of more) _
        (pre ++ ((leaf_marks g.bytes HtmlFlowData (line_text line) ++ []) ++ ends (end_after p (line_text line)))) (Retry FlowAfter) (sym text_is) (sym is)
        (append_assoc pre (enters g t s ∷ []) (out g t (end_after s.end ss))
        ∙ ap (λ l. pre ++ ((leaf_marks g.bytes HtmlFlowData l ++ []) ++ ends (end_after p l))) (sym text_is)) h

    -- the last line of all, open
    pub open-is-read : line ≡ s ∷ ss → ending_of line ≡ []
        → IsReadAs g t Kept k name (s ∷ ss) [] ((pre ++ enters g t s ∷ []) ++ out g t (end_after s.end ss)) (Retry FlowAfter) → AreRead k name p pre true (line ∷ []) []
    open-is-read is none h =
        let all : s ∷ ss ≡ line ++ [] = sym is ∙ sym (append-nil line) in
        reads-as k name (s ∷ ss) (line ++ []) [] [] _
        (pre ++ ((leaf_marks g.bytes HtmlFlowData (line_text line) ++ leaf_marks g.bytes LineEnding (ending_of line)) ++ ends (end_after p (line ++ [])))) (Retry FlowAfter) all refl
        (append_assoc pre (enters g t s ∷ []) (out g t (end_after s.end ss))
        ∙ ap (λ l. pre ++ ((leaf_marks g.bytes HtmlFlowData (s ∷ ss) ++ []) ++ ends (end_after p l))) all
        ∙ ap (λ l. pre ++ ((leaf_marks g.bytes HtmlFlowData l ++ []) ++ ends (end_after p (line ++ [])))) (sym text_is)
        ∙ ap (λ l. pre ++ ((leaf_marks g.bytes HtmlFlowData (line_text line) ++ leaf_marks g.bytes LineEnding l) ++ ends (end_after p (line ++ [])))) (sym none)) h

  module _ (kind : ℕ) where
    -- the block as it is from here, and what must be known before it
    abbrev pub BlockIsRead : Config → Name → Point → List Mark → List Line → Type 0
    BlockIsRead k name p pre lines = AreRead k name p pre (stays_open kind lines) (take (count kind lines) lines) (drop (count kind lines) lines)

    abbrev pub NotBlank : List Line → Type 0
    NotBlank lines = nat_le 6 kind ≡ true → blank_ahead (all_of lines) ≡ false

    abbrev pub FurtherAreRead : List Line → Type 0
    FurtherAreRead lines = (k : Config) (q : Point) → AreLines lines → IsAt t k q (all_of lines) → kind_in k ≡ kind → NotBlank lines → BlockIsRead k HtmlFlowContinuationBefore q [] lines

    not-blank : (line : Line) (more : List Line) → is_last kind line more ≡ false → NotBlank more
    not-blank line more goes long = subst (λ b. cond b (blank_ahead (all_of more)) (is_closed (through kind inside (text_of line))) ≡ false) long goes

    module _ (k : Config) (name : Name) (p : Point) (pre : List Mark) (line : Line) (more : List Line) (s : Seat) (ss : List Seat) (text_is : line_text line ≡ s ∷ ss) (are : AreLines (line ∷ more))
        (at : IsAt t k p (all_of (line ∷ more))) (is : kind_in k ≡ kind) (begins : BeginsAt g t k name (pre ++ enters g t s ∷ []) (all_of (line ∷ more))) where
      in_line : IsInLine (s ∷ ss)
      in_line = subst IsInLine text_is (text-in-line line)

      line_is : line ≡ (s ∷ ss) ++ ending_of line
      line_is = sym (cut-line line more are).whole ∙ ap (λ l. l ++ ending_of line) text_is

      ended : (e : Seat) → ending_of line ≡ e ∷ [] → e.byte ≡ 10 → FurtherAreRead more → BlockIsRead k name p pre (line ∷ more)
      ended e ending feed further =
          let words : line ≡ (s ∷ ss) ++ e ∷ [] = line_is ∙ ap (λ y. (s ∷ ss) ++ y) ending in
          let all_is : line ++ all_of more ≡ (s ∷ ss) ++ e ∷ all_of more = ap (λ l. l ++ all_of more) words ∙ append_assoc (s ∷ ss) (e ∷ []) (all_of more) in
          let placed = subst (IsAt t k p) all_is at in
          let begun = subst (BeginsAt g t k name (pre ++ enters g t s ∷ [])) all_is begins in
          let here = λ (b : Bool). subst (λ l. ends_here kind (bytes_of l) (all_of more) ≡ b) text_is in
          let n = λ (last : Bool). cond last 1 (suc (count kind more)) in
          elim (is_last kind line more) as (λ b. is_last kind line more ≡ b → AreRead k name p pre (cond b false (stays_open kind more)) (take (n b) (line ∷ more)) (drop (n b) (line ∷ more))) [
            | true ↦ λ last.
                last-is-read k name p pre line s ss text_is (e ∷ all_of more) more (ap (λ y. y ++ all_of more) ending)
                (stops-at-feed g t kind s ss in_line k p name (pre ++ enters g t s ∷ []) is e (all_of more) placed feed begun (here true last))
            | false ↦ λ goes.
                one-more g t html_kept (leaf_marks g.bytes HtmlFlowData) ends k name HtmlFlowContinuationBefore p pre (stays_open kind more) line (take (count kind more) more) (drop (count kind more) more) (all_of more) (fits kind more)
                (seats-split (stays_open kind more) (count kind more) more (lines-behind line more are)) at
                (λ _. reads-as k name ((s ∷ ss) ++ e ∷ []) line (all_of more) (all_of more) ((pre ++ enters g t s ∷ []) ++ over_line g t (end_after s.end ss) e) (pre ++ (leaf_marks g.bytes HtmlFlowData (line_text line) ++ line_end g.bytes line)) (Retry HtmlFlowContinuationBefore)
                (sym words) refl (append_assoc pre (enters g t s ∷ []) (over_line g t (end_after s.end ss) e) ∙ ap (λ l. pre ++ (leaf_marks g.bytes HtmlFlowData l ++ feed_in g t e)) (sym text_is)
                ∙ ap (λ y. pre ++ (leaf_marks g.bytes HtmlFlowData (line_text line) ++ leaf_marks g.bytes LineEnding y)) (sym ending))
                (goes-on g t kind s ss in_line k p name (pre ++ enters g t s ∷ []) is e (all_of more) placed feed begun (here false goes)))
                (λ k' q at' kept. further k' q (lines-behind line more are) at' (kept.kind ∙ is) (not-blank line more goes))
          ] refl

      alone : ending_of line ≡ [] → more ≡ [] → BlockIsRead k name p pre (line ∷ [])
      alone none last =
          let words : line ≡ s ∷ ss = line_is ∙ ap (λ y. (s ∷ ss) ++ y) none ∙ append-nil (s ∷ ss) in
          let all_is : line ++ all_of more ≡ (s ∷ ss) ++ [] = ap (λ l. l ++ all_of more) words ∙ ap (λ m. (s ∷ ss) ++ all_of m) last in
          let read = stops-at-end g t kind s ss in_line k p name (pre ++ enters g t s ∷ []) is (subst (IsAt t k p) all_is at) (subst (BeginsAt g t k name (pre ++ enters g t s ∷ [])) all_is begins) in
          elim (is_last kind line []) as (λ b. AreRead k name p pre (cond b false true) (take (cond b 1 (suc 0)) (line ∷ [])) (drop (cond b 1 (suc 0)) (line ∷ []))) [
            | true ↦ last-is-read k name p pre line s ss text_is [] [] (ap (λ y. y ++ []) none) read
            | false ↦ open-is-read k name p pre line s ss text_is words none read
          ]

      -- from a line with a byte on
      pub from-line : FurtherAreRead more → BlockIsRead k name p pre (line ∷ more)
      from-line further = elim (cut-line line more are).ends as (λ _. BlockIsRead k name p pre (line ∷ more)) [
        | inl with ↦ ended with.ending with.is with.feed further
        | inr without ↦ subst (λ more. BlockIsRead k name p pre (line ∷ more)) (sym without.last) (alone without.is without.last)
      ]

    -- a further line without a byte
    bare : (line : Line) (more : List Line) (k : Config) (q : Point) → AreLines (line ∷ more) → IsAt t k q (all_of (line ∷ more)) → kind_in k ≡ kind → NotBlank (line ∷ more) → line_text line ≡ []
        → (e : Seat) → ending_of line ≡ e ∷ [] → e.byte ≡ 10 → FurtherAreRead more → BlockIsRead k HtmlFlowContinuationBefore q [] (line ∷ more)
    bare line more k q are at is ready text_is e ending feed further =
        let line_is : line ≡ e ∷ [] = sym (cut-line line more are).whole ∙ ap (λ l. l ++ ending_of line) text_is ∙ ending in
        let blank : blank_ahead (line ++ all_of more) ≡ true =
        ap (λ l. blank_ahead (l ++ all_of more)) line_is ∙ ap (λ f. cond f true (cond (is_blank (flow_byte e.byte)) (blank_ahead (all_of more)) false)) (ap (λ n. is_line_feed (flow_byte n)) feed) in
        let goes : is_last kind line more ≡ false =
        elim (nat_le 6 kind) as (λ b. nat_le 6 kind ≡ b → cond b (blank_ahead (all_of more)) (is_closed (through kind inside (text_of line))) ≡ false) [
          | true ↦ λ long. absurd (let not_blank = ready long in cc)
          | false ↦ λ short. ap (λ l. is_closed (through kind inside (bytes_of l))) text_is
        ] refl in
        let n = λ (last : Bool). cond last 1 (suc (count kind more)) in
        subst (λ b. AreRead k HtmlFlowContinuationBefore q [] (cond b false (stays_open kind more)) (take (n b) (line ∷ more)) (drop (n b) (line ∷ more))) (sym goes)
        (one-more g t html_kept (leaf_marks g.bytes HtmlFlowData) ends k HtmlFlowContinuationBefore HtmlFlowContinuationBefore q [] (stays_open kind more) line (take (count kind more) more) (drop (count kind more) more) (all_of more) (fits kind more)
        (seats-split (stays_open kind more) (count kind more) more (lines-behind line more are)) at
        (λ _. reads-as k HtmlFlowContinuationBefore (e ∷ []) line (all_of more) (all_of more) (feed_in g t e) (leaf_marks g.bytes HtmlFlowData (line_text line) ++ line_end g.bytes line) (Retry HtmlFlowContinuationBefore) (sym line_is) refl
        (ap (λ y. leaf_marks g.bytes LineEnding y) (sym ending) ∙ ap (λ l. leaf_marks g.bytes HtmlFlowData l ++ line_end g.bytes line) (sym text_is)) (bare-line-read g t k q e (all_of more) feed (subst (λ l. IsAt t k q (l ++ all_of more)) line_is at)))
        (λ k' q' at' kept. further k' q' (lines-behind line more are) at' (kept.kind ∙ is) (not-blank line more goes)))

    -- further lines
    pub further-read : (lines : List Line) → FurtherAreRead lines
    further-read [] k q are at is ready = no-line-read g t k q at
    further-read (line ∷ more) k q are at is ready =
        elim (line_text line) as (λ l. line_text line ≡ l → BlockIsRead k HtmlFlowContinuationBefore q [] (line ∷ more)) [
          | [] ↦ λ text_is. elim (cut-line line more are).ends as (λ _. BlockIsRead k HtmlFlowContinuationBefore q [] (line ∷ more)) [
            | inl with ↦ bare line more k q are at is ready text_is with.ending with.is with.feed (further-read more)
            | inr without ↦ absurd (without.some text_is)
          ]
          | s ∷ ss ↦ λ text_is.
              let split : line ≡ (s ∷ ss) ++ ending_of line = sym (cut-line line more are).whole ∙ ap (λ l. l ++ ending_of line) text_is in
              let in_line : IsInLine (s ∷ ss) = subst IsInLine text_is (text-in-line line) in
              from-line k HtmlFlowContinuationBefore q [] line more s ss text_is are at is
              (subst (λ l. BeginsAt g t k HtmlFlowContinuationBefore (enters g t s ∷ []) (l ++ all_of more)) (sym split)
              (before-begins g t k q s ((ss ++ ending_of line) ++ all_of more) in_line.0 (subst (λ l. IsAt t k q (l ++ all_of more)) split at)))
              (further-read more)
        ] refl
