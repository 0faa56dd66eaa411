-- Lines of HTML are read: one that others follow, the last one, and one without a byte.
use Rattle.mdblock_leaf_blocks.proofs.Prelude.{Bool, List, None, Some, [], ap, append-nil, cond, false, nat_le, refl, subst, sym, true, ℕ, ◌++◌, ◌==◌, ◌∙◌, ◌∷◌, ◌≡◌, eqb-true, Seat, end_after, Enter, HtmlFlow, HtmlFlowData, LineEnding, Point, Name, Next, Retry, FlowAfter, FlowBlankLineAfter, HtmlFlowContinuation, HtmlFlowContinuationAfter, HtmlFlowContinuationBefore, HtmlFlowContinuationCdataInside, HtmlFlowContinuationClose, HtmlFlowContinuationCommentInside, HtmlFlowContinuationDeclarationInside, HtmlFlowContinuationRawEndTag, HtmlFlowContinuationRawTagOpen, HtmlFlowContinuationStart, HtmlFlowStart, with_local, Given, Text, FlowByte, closing, dash, flow_byte, greater, less, line_feed, question, IsReadAs, bytes_of, Mark, leaf_marks, IsInLine, LineEnds, event, consume, enter, exit, picked, row}
use Rattle.mdblock_leaf_blocks.proofs.Looks.ByteClasses.{feed-is}
use Rattle.mdblock_leaf_blocks.proofs.Html.Checks.{blank_ahead, read-looked}
use Rattle.mdblock_leaf_blocks.proofs.Html.Places.{Place, inside, dashed, bracketed, marked, opened, named, closed, from_inside, is_closed, through}
use Rattle.mdblock_leaf_blocks.proofs.Html.Steps.{Config, Kept, To, along, html_kept, kept-on, kept-same, kind_in, name_of}
use Rattle.mdblock_leaf_blocks.proofs.Lines.{IsAt, counted, leaves, line-over, reads-nothing, reads-on, row-ends, row-stays, row-takes-on, seen}

-- a line of this kind is behind the end of its block, if these bytes follow the line ending
abbrev pub ends_here : (kind : ℕ) → List ℕ → (behind : List Seat) → Bool
ends_here kind bytes behind = cond (nat_le 6 kind) (blank_ahead behind) (is_closed (through kind inside bytes))

closed-is : (p : Place) → is_closed p ≡ true → p ≡ closed
closed-is closed h = refl
closed-is p h = absurd (cc)

-- kinds 6 and 7 stay inside
other-kind : (kind i : ℕ) → nat_le 6 kind ≡ true → nat_le 6 i ≡ false → (kind == i) ≡ false
other-kind kind i long short = elim (kind == i) as (λ t. (kind == i) ≡ t → t ≡ false) [
  | true ↦ λ e. sym long ∙ ap (nat_le 6) (eqb-true kind i e) ∙ short
  | false ↦ λ e. refl
] refl

long-moves : (kind : ℕ) (c : FlowByte) → nat_le 6 kind ≡ true → from_inside kind c ≡ inside
long-moves kind less long = let e = other-kind kind 1 long refl in rw e refl
long-moves kind dash long = let e = other-kind kind 2 long refl in rw e refl
long-moves kind question long = let e = other-kind kind 3 long refl in rw e refl
long-moves kind greater long = let e = other-kind kind 4 long refl in rw e refl
long-moves kind closing long = let e = other-kind kind 5 long refl in rw e refl
long-moves kind c long = refl

long-stays : (kind : ℕ) (bs : List ℕ) → nat_le 6 kind ≡ true → through kind inside bs ≡ inside
long-stays kind [] long = refl
long-stays kind (b ∷ bs) long = ap (λ p. through kind p bs) (long-moves kind (flow_byte b) long) ∙ long-stays kind bs long

module _ (g : Given) (t : Text) where
  -- the marks at the end of the block, and at a line ending in it
  abbrev pub out : Point → List Mark
  out p = leaves g (HtmlFlowData ∷ HtmlFlow ∷ []) p

  abbrev pub feed_in : Seat → List Mark
  feed_in s = leaf_marks g.bytes LineEnding (s ∷ [])

  abbrev pub over_line : Point → Seat → List Mark
  over_line p s = leaves g (HtmlFlowData ∷ []) p ++ feed_in s

  -- what is read of HTML, and what leaves it
  abbrev Reads : Config → Name → (line rest : List Seat) → List Mark → Name → Type 0
  Reads k name line rest marks to = IsReadAs g t Kept k name line rest marks (Retry to)

  -- a line begins: data is entered, and the byte is read inside
  abbrev pub BeginsAt : Config → Name → List Mark → List Seat → Type 0
  BeginsAt k name pre l = Reads k name [] l pre HtmlFlowContinuation

  abbrev pub enters : Seat → Mark
  enters s = (event g.bytes Enter HtmlFlowData s.point, None)

  module _ (k : Config) (p : Point) where
    pub before-begins : (s : Seat) (rest : List Seat) → (s.byte == 10) ≡ false → IsAt t k p (s ∷ rest) → BeginsAt k HtmlFlowContinuationBefore (enters s ∷ []) (s ∷ rest)
    before-begins s rest in_line at =
        row-stays g t Kept k HtmlFlowContinuationBefore p (s ∷ rest) (Some (flow_byte s.byte)) (enter HtmlFlowData ∷ []) (Retry HtmlFlowContinuation) at refl
        (ap (λ b. picked (cond b (row (enter LineEnding ∷ consume ∷ exit LineEnding ∷ []) (Next HtmlFlowContinuationBefore)) (row (enter HtmlFlowData ∷ []) (Retry HtmlFlowContinuation))) g (seen g t Kept k HtmlFlowContinuationBefore p (s ∷ rest)) (counted k)) (feed-is s.byte ∙ in_line))
        tt refl refl (kept-same k.local)

    -- the first line, at a less-than sign, or behind white space
    pub line-begins : (s : Seat) (rest : List Seat) → s.byte ≡ 60 → IsAt t k p (s ∷ rest) → BeginsAt k FlowBlankLineAfter ((event g.bytes Enter HtmlFlow s.point, None) ∷ enters s ∷ []) (s ∷ rest)
    line-begins s rest is at = row-stays g t Kept k FlowBlankLineAfter p (s ∷ rest) (Some less) (enter HtmlFlow ∷ enter HtmlFlowData ∷ []) (Retry HtmlFlowContinuation) at (ap (λ b. Some (flow_byte b)) is) refl tt refl refl (kept-same k.local)

    pub start-begins : (s : Seat) (rest : List Seat) → s.byte ≡ 60 → IsAt t k p (s ∷ rest) → BeginsAt k HtmlFlowStart (leaves g (HtmlFlowData ∷ []) p ++ enters s ∷ []) (s ∷ rest)
    start-begins s rest is at = row-stays g t Kept k HtmlFlowStart p (s ∷ rest) (Some less) (exit HtmlFlowData ∷ enter HtmlFlowData ∷ []) (Retry HtmlFlowContinuation) at (ap (λ b. Some (flow_byte b)) is) refl tt refl refl (kept-same k.local)

    -- at a line ending
    module _ (s : Seat) (rest : List Seat) (feed : s.byte ≡ 10) (at : IsAt t k p (s ∷ rest)) where
      after-read : Reads k HtmlFlowContinuationAfter [] (s ∷ rest) (out p) FlowAfter
      after-read = row-ends g t html_kept HtmlFlowContinuationAfter (HtmlFlowData ∷ HtmlFlow ∷ []) FlowAfter k p (s ∷ rest) (Some line_feed) at (ap (λ b. Some (flow_byte b)) feed) (λ b. refl)

      start-read : Reads k HtmlFlowContinuationStart (s ∷ []) rest (over_line p s) HtmlFlowContinuationBefore
      start-read =
          row-takes-on g t Kept k HtmlFlowContinuationStart p s rest line_feed (exit HtmlFlowData ∷ enter LineEnding ∷ consume ∷ exit LineEnding ∷ []) HtmlFlowContinuationBefore at (ap flow_byte feed) refl tt refl (kept-same k.local)

      inside-read : nat_le 6 (kind_in k) ≡ false → Reads k HtmlFlowContinuation (s ∷ []) rest (over_line p s) HtmlFlowContinuationBefore
      inside-read short =
          row-takes-on g t Kept k HtmlFlowContinuation p s rest line_feed (exit HtmlFlowData ∷ enter LineEnding ∷ consume ∷ exit LineEnding ∷ []) HtmlFlowContinuationBefore at (ap flow_byte feed) (rw short refl) tt refl (kept-same k.local)

      -- a further line without a byte
      pub bare-line-read : Reads k HtmlFlowContinuationBefore (s ∷ []) rest (feed_in s) HtmlFlowContinuationBefore
      bare-line-read =
          row-takes-on g t Kept k HtmlFlowContinuationBefore p s rest line_feed (enter LineEnding ∷ consume ∷ exit LineEnding ∷ []) HtmlFlowContinuationBefore at (ap flow_byte feed) refl tt refl (kept-same k.local)

    -- the end of the text, before a further line and in one
    pub no-line-read : IsAt t k p [] → Reads k HtmlFlowContinuationBefore [] [] (leaves g (HtmlFlow ∷ []) p) FlowAfter
    no-line-read at = row-ends g t html_kept HtmlFlowContinuationBefore (HtmlFlow ∷ []) FlowAfter k p [] None at refl (λ b. refl)

    inside-ends : IsAt t k p [] → Reads k HtmlFlowContinuation [] [] (out p) FlowAfter
    inside-ends at = row-ends g t html_kept HtmlFlowContinuation (HtmlFlowData ∷ HtmlFlow ∷ []) FlowAfter k p [] None at refl (λ b. refl)

  -- at the end of a line the block ends if it is closed; else each place is left for the inside
  closed-ends : (k : Config) (p : Point) (l : List Seat) → LineEnds l → IsAt t k p l → Reads k HtmlFlowContinuationClose [] l (out p) FlowAfter
  closed-ends = line-over g t html_kept HtmlFlowContinuationClose (HtmlFlowData ∷ HtmlFlow ∷ []) FlowAfter (λ b. refl) (λ b. refl)

  falls : (place : Place) → is_closed place ≡ false → (k : Config) (p : Point) (l : List Seat) → LineEnds l → IsAt t k p l → Reads k (name_of place) [] l [] HtmlFlowContinuation
  falls inside still k p l ends at = reads-nothing g t Kept k HtmlFlowContinuation l at.waits (kept-same k.local)
  falls dashed still k p l ends at = line-over g t html_kept HtmlFlowContinuationCommentInside [] HtmlFlowContinuation (λ b. refl) (λ b. refl) k p l ends at
  falls bracketed still k p l ends at = line-over g t html_kept HtmlFlowContinuationCdataInside [] HtmlFlowContinuation (λ b. refl) (λ b. refl) k p l ends at
  falls marked still k p l ends at = line-over g t html_kept HtmlFlowContinuationDeclarationInside [] HtmlFlowContinuation (λ b. refl) (λ b. refl) k p l ends at
  falls opened still k p l ends at = line-over g t html_kept HtmlFlowContinuationRawTagOpen [] HtmlFlowContinuation (λ b. refl) (λ b. refl) k p l ends at
  falls (named n) still k p l ends at = line-over g t html_kept HtmlFlowContinuationRawEndTag [] HtmlFlowContinuation (λ b. refl) (λ b. refl) k p l ends at
  falls closed still k p l ends at = absurd (cc)

  -- and what is read from there
  falls-then : (place : Place) → is_closed place ≡ false → (k : Config) (p : Point) (line rest : List Seat) (marks : List Mark) (to : Name) → LineEnds (line ++ rest) → IsAt t k p (line ++ rest)
      → ((k' : Config) → IsAt t k' p (line ++ rest) → kind_in k' ≡ kind_in k → Reads k' HtmlFlowContinuation line rest marks to) → Reads k (name_of place) line rest marks to
  falls-then place still k p line rest marks to ends at h =
      reads-on g t Kept Kept Kept kept-on k p (name_of place) HtmlFlowContinuation [] line rest [] marks (Retry to) at (falls place still k p (line ++ rest) ends at) (λ k' at' kept. h k' at' kept.kind)

  text-ends : (place : Place) (k : Config) (p : Point) → IsAt t k p [] → Reads k (name_of place) [] [] (out p) FlowAfter
  text-ends closed k p at = closed-ends k p [] tt at
  text-ends place k p at = falls-then place refl k p [] [] (out p) FlowAfter tt at (λ k' at' same. inside-ends k' p at')

  -- A line with a byte, from where it begins
  module _ (kind : ℕ) (s : Seat) (ss : List Seat) (in_line : IsInLine (s ∷ ss)) (k : Config) (p : Point) (name : Name) (pre : List Mark) (is : kind_in k ≡ kind) where
    abbrev line : List Seat
    line = s ∷ ss

    abbrev q : Point
    q = end_after p line

    abbrev place : Place
    place = through kind inside (bytes_of line)

    words-then : (more rest : List Seat) (marks : List Mark) (to : Name) → IsAt t k p (line ++ (more ++ rest)) → BeginsAt k name pre (line ++ (more ++ rest))
        → ((k' : Config) → IsAt t k' q (more ++ rest) → kind_in k' ≡ kind → Reads k' (name_of place) more rest marks to) → Reads k name (line ++ more) rest (pre ++ marks) to
    words-then more rest marks to at begins h =
        reads-on g t (To place) Kept Kept (λ a b c x y. kept-on a b c x.0 y) k p name (name_of place) line more rest pre marks (Retry to) at
        (subst (λ m. IsReadAs g t (To place) k name line (more ++ rest) m (Retry (name_of place))) (append-nil pre)
        (reads-on g t Kept (To place) (To place) (λ a b c x y. (kept-on a b c x y.0, y.1)) k p name HtmlFlowContinuation [] line (more ++ rest) pre [] (Retry (name_of place)) at begins
        (λ k' at' kept. along g t kind line (more ++ rest) in_line inside k' p (kept.kind ∙ is) tt at')))
        (λ k' at' kept. h k' at' (kept.0.kind ∙ is))

    -- other lines follow it
    pub goes-on : (e : Seat) (rest : List Seat) → IsAt t k p (line ++ e ∷ rest) → e.byte ≡ 10 → BeginsAt k name pre (line ++ e ∷ rest) → ends_here kind (bytes_of line) rest ≡ false
        → Reads k name (line ++ e ∷ []) rest (pre ++ over_line q e) HtmlFlowContinuationBefore
    goes-on e rest at feed begins h =
        words-then (e ∷ []) rest (over_line q e) HtmlFlowContinuationBefore at begins
        (λ k' at' is'. (elim (nat_le 6 kind) as (λ l. nat_le 6 kind ≡ l → cond l (blank_ahead rest) (is_closed place) ≡ false → Reads k' (name_of place) (e ∷ []) rest (over_line q e) HtmlFlowContinuationBefore) [
          | true ↦ λ long ahead.
              subst (λ pl. Reads k' (name_of pl) (e ∷ []) rest (over_line q e) HtmlFlowContinuationBefore) (sym (long-stays kind (bytes_of line) long))
              (read-looked g t k' e rest at'.left at'.waits feed (ap (nat_le 6) is' ∙ long) (e ∷ []) rest (over_line q e) (Retry HtmlFlowContinuationBefore)
              (λ local kept. rw ahead (start-read (with_local k' local) q e rest feed (record { behind = at'.behind; left = at'.left; waits = at'.waits }))))
          | false ↦ λ short still. falls-then place still k' q (e ∷ []) rest (over_line q e) HtmlFlowContinuationBefore feed at' (λ k'' at'' same. inside-read k'' q e rest feed at'' (ap (nat_le 6) (same ∙ is') ∙ short))
        ]) refl h)

    -- or the block ends with it
    abbrev Stops : List Seat → Type 0
    Stops rest = Reads k name line rest (pre ++ out q) FlowAfter

    stops : (rest : List Seat) → IsAt t k p (line ++ rest) → BeginsAt k name pre (line ++ rest) → ((k' : Config) → IsAt t k' q rest → kind_in k' ≡ kind → Reads k' (name_of place) [] rest (out q) FlowAfter) → Stops rest
    stops rest at begins h = subst (λ l. Reads k name l rest (pre ++ out q) FlowAfter) (append-nil line) (words-then [] rest (out q) FlowAfter at begins h)

    pub stops-at-end : IsAt t k p (line ++ []) → BeginsAt k name pre (line ++ []) → Stops []
    stops-at-end at begins = stops [] at begins (λ k' at' is'. text-ends place k' q at')

    pub stops-at-feed : (e : Seat) (rest : List Seat) → IsAt t k p (line ++ e ∷ rest) → e.byte ≡ 10 → BeginsAt k name pre (line ++ e ∷ rest) → ends_here kind (bytes_of line) rest ≡ true → Stops (e ∷ rest)
    stops-at-feed e rest at feed begins h =
        stops (e ∷ rest) at begins
        (λ k' at' is'. (elim (nat_le 6 kind) as (λ l. nat_le 6 kind ≡ l → cond l (blank_ahead rest) (is_closed place) ≡ true → Reads k' (name_of place) [] (e ∷ rest) (out q) FlowAfter) [
          | true ↦ λ long ahead.
              subst (λ pl. Reads k' (name_of pl) [] (e ∷ rest) (out q) FlowAfter) (sym (long-stays kind (bytes_of line) long))
              (read-looked g t k' e rest at'.left at'.waits feed (ap (nat_le 6) is' ∙ long) [] (e ∷ rest) (out q) (Retry FlowAfter)
              (λ local kept. rw ahead (after-read (with_local k' local) q e rest feed (record { behind = at'.behind; left = at'.left; waits = at'.waits }))))
          | false ↦ λ short done. subst (λ pl. Reads k' (name_of pl) [] (e ∷ rest) (out q) FlowAfter) (sym (closed-is place done)) (closed-ends k' q (e ∷ rest) feed at')
        ]) refl h)
