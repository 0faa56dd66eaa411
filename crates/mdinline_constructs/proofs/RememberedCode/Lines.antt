-- Code spans whose further lines may begin with white space: how they are cut into pieces, and how a machine reads these.
use Rattle.mdinline_constructs.proofs.Prelude.{◌≡◌, ℕ, suc, ◌+◌, ◌<◌, ◌≤◌, ◌==◌, ◌∷◌, ◌++◌, [], List, true, false, cond, refl, sym, ◌∙◌, ap, subst, arith, take, drop, Option, Some, None, one-add, append-nil, append_assoc, drop-next, prefix_len, slice_get, Seat, Event, EventName, Exit, CodeText, CodeTextData, SpaceOrTab, LineEnding, Next, Retry, RawTextBetween, RawTextLineStart, RawTextLineWhite, Choice, Local, Given, Text, Byte, held, at-front, byte_of, end_or, event, leaf, counts, class_of, passes, row, enter, exit, consume, is_white, is_line_feed, bytes_of, TextByte, text_byte, line_feed, by-class, first_byte, goes-next, leaf-read, loops, passed, past, past-at, past-stops, shows, size_b, between_rows, remembering, EndsWith, HasRows, Leads, Plays, before_class, leads-seen, PlaysCodeSpans, code_line_rows, code_piece_at, code_piece_events, code_white_rows, Piece, line_break, data_run, piece_length}
use Rattle.mdconstructs_machines.proofs.LineReads.Rows.{line-ending-read}
use Rattle.mdinline_text_machine.proofs.CodeSpans.Cutting.{Cutting}
use Rattle.mdinline_text_machine.proofs.CodeSpans.Found.{Passes, passes-line, passes-plain}
use Rattle.mdinline_text_machine.proofs.CodeSpans.FoundParts.{plain-within, prefix-within}
use Rattle.mdinline_text_machine.proofs.CodeSpans.Parts.{Known, ReadsAs, ReadsPieces, count-within, enter_at, exit_at, in_code, line_after, line-feed-class, reads-data}
use Rattle.mdinline_text_machine.proofs.Plain.Stretches.{class-rows, passed-keeps, past-is, sees}
use Rattle.mdinline_text_machine.specs.CodeSpan.{is_backtick_or_line_feed}
use Rattle.mdinline_text_machine.specs.Bytes.{backticks}
use Rattle.mdinline_text_machine.specs.Parts.{plain_length}
use Rattle.mdinline_constructs.proofs.RememberedCode.Memory.{code_memory}
use Rattle.mdinline_constructs.proofs.WhiteSpaces.Classes.{white-class}

-- ---- the cut
pub code-piece-positive : (b : ℕ) (bs : List ℕ) → 0 < piece_length (code_piece_at (b ∷ bs))
code-piece-positive b bs = elim (b == 10) as (λ t. 0 < piece_length (cond t (line_break (prefix_len is_white bs)) (data_run (plain_length is_backtick_or_line_feed (b ∷ bs))))) [
  | true ↦ omega arith
  | false ↦ omega arith
]

pub code-piece-within : (b : ℕ) (bs : List ℕ) (n : ℕ) → piece_length (code_piece_at (b ∷ bs)) ≤ suc n → code_piece_at (take (suc n) (b ∷ bs)) ≡ code_piece_at (b ∷ bs)
code-piece-within b bs n h =
    elim (b == 10) as (λ t. piece_length (cond t (line_break (prefix_len is_white bs)) (data_run (plain_length is_backtick_or_line_feed (b ∷ bs)))) ≤ suc n
    → cond t (line_break (prefix_len is_white (take n bs))) (data_run (plain_length is_backtick_or_line_feed (take (suc n) (b ∷ bs))))
    ≡ cond t (line_break (prefix_len is_white bs)) (data_run (plain_length is_backtick_or_line_feed (b ∷ bs)))) [
      | true ↦ λ i. ap line_break (prefix-within is_white n bs (omega (arith, i)))
      | false ↦ λ i. ap data_run (plain-within is_backtick_or_line_feed (b ∷ bs) n i)
    ] h

pub code-piece-passes : (k : ℕ) → 0 < k → (b : ℕ) (bs : List ℕ) → (backticks (b ∷ bs) == k) ≡ false → Passes k false false (b ∷ bs) (piece_length (code_piece_at (b ∷ bs)))
code-piece-passes k some b bs h =
    elim (b == 10) as (λ t. (b == 10) ≡ t → Passes k false false (b ∷ bs) (piece_length (cond t (line_break (prefix_len is_white bs)) (data_run (plain_length is_backtick_or_line_feed (b ∷ bs)))))) [
      | true ↦ λ e. passes-line k some b bs e
      | false ↦ λ e. passes-plain k some b bs h
    ] refl

abbrev pub into_lines : Cutting
into_lines = record {
  Piece = Piece;
  front = code_piece_at;
  size = piece_length;
  events = code_piece_events;
  positive = code-piece-positive;
  within = code-piece-within;
  passes = code-piece-passes;
}

-- ---- the reading
-- the spans that are open in white space behind a line ending
abbrev in_white : List EventName
in_white = CodeText ∷ SpaceOrTab ∷ []

-- A machine that reads such lines
pub record PlaysCodeLines (g : Given) (text : Text) (m : Plays g text) : Type 0 where
  pub line : HasRows g text m.step RawTextLineStart code_line_rows
  pub white : HasRows g text m.step RawTextLineWhite code_white_rows

module _ {R D : Type 0} (before : Option TextByte) where
  -- no white space waits
  pub line-other : (o : Option ℕ) → passes is_white o ≡ false → code_line_rows {R = R} {D = D} before (class_of text_byte o) ≡ row [] (Retry RawTextBetween)
  line-other None h = refl
  line-other (Some b) h =
      by-class (λ w. code_line_rows {R = R} {D = D} before (Some w) ≡ row [] (Retry RawTextBetween)) b
      (λ e. refl) (λ e. refl) (λ e. refl) (λ e. refl) (λ e. refl) (λ e. refl) (λ e. refl) (λ e f. refl) (λ e. refl) (λ e. refl) (λ e. absurd (cc)) (λ o e. refl) (λ o e. refl) (λ o n e. refl)

  pub white-other : (o : Option ℕ) → passes is_white o ≡ false → code_white_rows {R = R} {D = D} before (class_of text_byte o) ≡ row (exit SpaceOrTab ∷ []) (Retry RawTextBetween)
  white-other None h = refl
  white-other (Some b) h =
      by-class (λ w. code_white_rows {R = R} {D = D} before (Some w) ≡ row (exit SpaceOrTab ∷ []) (Retry RawTextBetween)) b
      (λ e. refl) (λ e. refl) (λ e. refl) (λ e. refl) (λ e. refl) (λ e. refl) (λ e. refl) (λ e f. refl) (λ e. refl) (λ e. refl) (λ e. absurd (cc)) (λ o e. refl) (λ o e. refl) (λ o n e. refl)

module _ (g : Given) (text : Text) (m : Plays g text) (lines : PlaysCodeLines g text m) (cs : List Choice) where
  -- behind a line ending, from these bytes on
  abbrev OverWhite : List Seat → (q q' : ℕ) → List Event → Local Unit Unit → Type 0
  OverWhite l q q' events local =
      Leads g text m (shows l in_code q events local) cs (Retry RawTextLineStart)
      (shows (past is_white l) in_code q' (events ++ leaf g.bytes SpaceOrTab (take (prefix_len is_white (bytes_of l)) l)) (counts (passed is_white counts l local))) cs (Retry RawTextBetween)

  -- where no white space is
  no-white : (l : List Seat) (q q' : ℕ) (events : List Event) (local : Local Unit Unit) → drop q text.seats ≡ l → passes is_white (first_byte l) ≡ false → q' ≡ q
      → Leads g text m (shows l in_code q events local) cs (Retry RawTextLineStart) (shows l in_code q' (events ++ []) (counts local)) cs (Retry RawTextBetween)
  no-white l q q' events local at none same es h =
      leads-seen g text m code_line_rows (shows l in_code q events local) cs RawTextLineStart es (sees g text m l q at) (line-other (before_class g text q) (first_byte l) none) (lines.line _)
      (subst (λ e. EndsWith g text m (shows l in_code q e (counts local)) cs (Retry RawTextBetween) es) (append-nil events)
      (subst (λ p. EndsWith g text m (shows l in_code p (events ++ []) (counts local)) cs (Retry RawTextBetween) es) same h))

  -- where some is
  some-white : (s : Seat) (ss : List Seat) (q q' : ℕ) (events : List Event) (local : Local Unit Unit) → drop q text.seats ≡ s ∷ ss → is_white s.byte ≡ true → let n = prefix_len is_white (bytes_of ss) in q' ≡ q + (1 + n)
      → Leads g text m (shows (s ∷ ss) in_code q events local) cs (Retry RawTextLineStart)
      (shows (past is_white ss) in_code q' (events ++ leaf g.bytes SpaceOrTab (take (1 + n) (s ∷ ss))) (counts (passed is_white counts ss (counts local)))) cs (Retry RawTextBetween)
  some-white s ss q q' events local at is where_to es h =
      let n = prefix_len is_white (bytes_of ss) in
      let begun = events ++ enter_at g text m SpaceOrTab q ∷ [] in
      let next = drop-next text.seats q s ss at in
      let place : q' ≡ q + 1 + n = omega (arith, where_to) in
      let rest = past is_white ss in
      let read = passed is_white counts ss (counts local) in
      let made : begun ++ exit_at g text m SpaceOrTab q' ∷ [] ≡ events ++ leaf g.bytes SpaceOrTab (take (1 + n) (s ∷ ss)) =
      append_assoc events (enter_at g text m SpaceOrTab q ∷ []) (exit_at g text m SpaceOrTab q' ∷ []) ∙ ap (λ p. events ++ enter_at g text m SpaceOrTab q ∷ exit_at g text m SpaceOrTab p ∷ []) where_to
      ∙ ap (λ l. events ++ l) (leaf-read text g.bytes SpaceOrTab (1 + n) q s ss at (omega arith) (omega (arith, count-within is_white ss))) in
      leads-seen g text m code_line_rows (shows (s ∷ ss) in_code q events local) cs RawTextLineStart es (ap byte_of (at-front text.seats q s ss at))
      (ap (λ w. code_line_rows {R = Unit} {D = Unit} (before_class g text q) (Some w)) (white-class s.byte is)) (lines.line _)
      (goes-next g text m ss in_white (q + 1) begun (counts local) cs RawTextLineWhite next es
      (loops g text m in_white cs RawTextLineWhite is_white counts
      (λ q ended events local s at is es.
      leads-seen g text m code_white_rows (held in_white q Byte ended events local) cs RawTextLineWhite es (ap byte_of at)
      (ap (λ w. code_white_rows {R = Unit} {D = Unit} (before_class g text q) (Some w)) (white-class s.byte is)) (lines.white _))
      ss (q + 1) q' begun (counts local) next place es
      (leads-seen g text m code_white_rows (shows rest in_white q' begun read) cs RawTextLineWhite es (sees g text m rest q' (past-at g text m is_white ss (q + 1) q' next place))
      (white-other (before_class g text q') (first_byte rest) (past-stops is_white ss)) (lines.white _)
      (subst (λ e. EndsWith g text m (shows rest in_code q' e (counts read)) cs (Retry RawTextBetween) es) (sym made) h))))

  over-white : (l : List Seat) (q q' : ℕ) (events : List Event) (local : Local Unit Unit) → drop q text.seats ≡ l → q' ≡ q + prefix_len is_white (bytes_of l) → OverWhite l q q' events local
  over-white [] q q' events local at is = no-white [] q q' events local at refl (omega (arith, is))
  over-white (s ∷ ss) q q' events local at is =
      let n = prefix_len is_white (bytes_of ss) in
      elim (is_white s.byte) as (λ t. is_white s.byte ≡ t → q' ≡ q + cond t (1 + n) 0
      → Leads g text m (shows (s ∷ ss) in_code q events local) cs (Retry RawTextLineStart)
      (shows (cond t (past is_white ss) (s ∷ ss)) in_code q' (events ++ leaf g.bytes SpaceOrTab (take (cond t (1 + n) 0) (s ∷ ss))) (counts (cond t (passed is_white counts ss (counts local)) local))) cs (Retry RawTextBetween)) [
        | true ↦ λ e i. some-white s ss q q' events local at e i
        | false ↦ λ e i. no-white (s ∷ ss) q q' events local at e (omega (arith, i))
      ] refl is

module _ (g : Given) (text : Text) (m : Plays g text) (c : PlaysCodeSpans g text m (remembering code_memory)) (lines : PlaysCodeLines g text m) (n : Known g text m (remembering code_memory)) (p : ℕ) (from : Local Unit Unit) where
  -- a line ending, with the white space behind it
  reads-line : (q : ℕ) (s : Seat) (ss : List Seat) (events : List Event) (local : Local Unit Unit) (cs : List Choice) → drop q text.seats ≡ s ∷ ss → is_line_feed s.byte ≡ true → n.inside p from q local
      → let w = prefix_len is_white (bytes_of ss) in
      ReadsAs g text m (remembering code_memory) c n p from q s ss events local cs (1 + w) (code_piece_events g.bytes (line_break w, take (1 + w) (s ∷ ss)))
  reads-line q s ss events local cs at feed inside =
      let w = prefix_len is_white (bytes_of ss) in
      let front = at-front text.seats q s ss at in
      let next = drop-next text.seats q s ss at in
      let line = leaf g.bytes LineEnding (s ∷ []) in
      let white = leaf g.bytes SpaceOrTab (take w ss) in
      let rows = between_rows (remembering code_memory) in
      let read = (events ++ enter_at g text m LineEnding q ∷ []) ++ event g.bytes Exit LineEnding (end_or text.end (slice_get text.seats q)) ∷ [] in
      let after = line_after ss local in
      let place : q + (1 + w) ≡ q + 1 + w = omega arith in
      let list : drop (1 + w) (s ∷ ss) ≡ past is_white ss = ap (λ k. drop k (s ∷ ss)) (one-add w) ∙ sym (past-is is_white ss) in
      let made : events ++ code_piece_events g.bytes (line_break w, take (1 + w) (s ∷ ss)) ≡ (events ++ line) ++ white =
      ap (λ k. events ++ code_piece_events g.bytes (line_break w, take k (s ∷ ss))) (one-add w) ∙ sym (append_assoc events line white) in (
        after,
        passed-keeps size_b counts (λ k. refl) is_white ss (counts local),
        n.white_line p from q local s ss at feed inside,
        λ es h.
            leads-seen g text m rows (held in_code q Byte false events local) cs RawTextBetween es (ap byte_of front) (class-rows g text m rows q s line_feed (line-feed-class s.byte feed)) (c.raw_text_between _)
            (goes-next g text m ss in_code (q + 1) read (counts local) cs RawTextLineStart next es
            (subst (λ e. EndsWith g text m (shows ss in_code (q + 1) e (counts local)) cs (Retry RawTextLineStart) es) (sym (line-ending-read g text events q s front))
            (over-white g text m lines cs ss (q + 1) (q + (1 + w)) (events ++ line) (counts local) next place es
            (subst (λ l. EndsWith g text m (shows l in_code (q + (1 + w)) ((events ++ line) ++ white) after) cs (Retry RawTextBetween) es) list
            (subst (λ e. EndsWith g text m (shows (drop (1 + w) (s ∷ ss)) in_code (q + (1 + w)) e after) cs (Retry RawTextBetween) es) made h))))),
      )

  pub reads-lines : ReadsPieces g text m (remembering code_memory) c n p from into_lines
  reads-lines q s ss events local cs at other short inside =
      let l = s ∷ ss in
      elim (is_line_feed s.byte) as (λ t. is_line_feed s.byte ≡ t → let a = cond t (line_break (prefix_len is_white (bytes_of ss))) (data_run (plain_length is_backtick_or_line_feed (bytes_of l))) in
      ReadsAs g text m (remembering code_memory) c n p from q s ss events local cs (piece_length a) (code_piece_events g.bytes (a, take (piece_length a) l))) [
        | true ↦ λ e. reads-line q s ss events local cs at e inside
        | false ↦ λ e. reads-data g text m (remembering code_memory) c n p from q s ss events local cs at e other short inside
      ] refl
