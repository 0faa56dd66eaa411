-- Ranks of setext headings: the first mark of an underline is the byte of the document at its place.
use Rattle.mddocument_laws.proofs.Prelude.{◌≡◌, ℕ, zero, suc, ◌+◌, ◌-◌, ◌≤◌, Bool, true, false, cond, List, [], ◌∷◌, ◌++◌, length, take, drop, Some, None, ◌⊎◌, inl, inr, refl, sym, ap, ◌∙◌, arith, eqb-true, drop-map, map-append, list_any-append, AllByRecursion, filter, list_any, prefix_len, ◌||◌, option_map, slice_get, slice_index, and-left, Constructs, Event, Name, Point, same_name, follows_cr, shown, Seat, begins_with_lf, in_tab, line_feed, other_byte, tab_width, virtual_from, is_white, ending_of, is_line_ending, line_text, lines_in, Line, bytes_of, setext_heading, text_of, Mark, body, last_end, leaf_marks, span_marks, underline_marks, white, begins_with, indent, is_far, is_underline_of_marks, underline_rank, unindented, byte_of_first, enters, from_first, ◌==◌, not}
use Rattle.std.proofs.lemmas.List.{append_assoc, length-append}
use Rattle.markdown_base.specs.declared.event.Name.TheVariants as name
use Rattle.mdconstructs_machines.specs.LineEvents.{joined}
use Rattle.mddocument_laws.proofs.Ranks.Told.{EntersNoUnderline, events_of, heading_events, rank_of_first}
use Rattle.mddocument_laws.proofs.Ranks.Signs.{plain}

abbrev test : Event → Bool
test e = enters name.HeadingSetextUnderlineSequence e

-- ---- events without underlines

passed : (xs ys : List Event) → list_any test xs ≡ false → from_first test (xs ++ ys) ≡ from_first test ys
passed [] ys h = refl
passed (e ∷ xs) ys h = by (passed xs ys) (test e) h
  where
    by : (list_any test xs ≡ false → from_first test (xs ++ ys) ≡ from_first test ys) → (b : Bool) → (b || list_any test xs) ≡ false → cond b (e ∷ (xs ++ ys)) (from_first test (xs ++ ys)) ≡ from_first test ys
    by more true h = absurd (cc)
    by more false h = more h

none-behind : (xs ys : List Event) → list_any test xs ≡ false → list_any test (xs ++ ys) ≡ list_any test ys
none-behind xs ys h = list_any-append test xs ys ∙ ap (λ b. b || list_any test ys) h

-- ---- bytes of a document

get-of : (bs : List ℕ) (i k : ℕ) → slice_index bs i ≡ suc k → slice_get bs i ≡ Some (suc k)
get-of [] i k h = absurd (cc)
get-of (b ∷ bs) zero k h = ap Some h
get-of (b ∷ bs) (suc i) k h = get-of bs i k h

module _ (bytes : List ℕ) where
  -- a mark of an underline is a byte of the document
  abbrev pub IsByte : Seat → Type 0
  IsByte s = (s.byte ≡ 61 → slice_index bytes s.point.index ≡ 61) × (s.byte ≡ 45 → slice_index bytes s.point.index ≡ 45)

  abbrev pub Bytes : List Seat → Type 0
  Bytes ss = AllByRecursion IsByte ss

  bytes-drop : (n : ℕ) (ss : List Seat) → Bytes ss → Bytes (drop n ss)
  bytes-drop zero ss h = h
  bytes-drop (suc n) [] h = tt
  bytes-drop (suc n) (s ∷ ss) h = bytes-drop n ss h.1

  bytes-filter : (p : Seat → Bool) (ss : List Seat) → Bytes ss → Bytes (filter p ss)
  bytes-filter p [] h = tt
  bytes-filter p (s ∷ ss) h = by (bytes-filter p ss h.1) (p s)
    where
      by : Bytes (filter p ss) → (b : Bool) → Bytes (cond b (s ∷ filter p ss) (filter p ss))
      by more true = (h.0, more)
      by more false = more

  bytes-tab : (byte n line column index vs : ℕ) (rest : List Seat) → (byte ≡ 61 → ⊥) → (byte ≡ 45 → ⊥) → Bytes rest → Bytes (in_tab byte n line column index vs ++ rest)
  bytes-tab byte zero line column index vs rest a b h = h
  bytes-tab byte (suc n) line column index vs rest a b h =
      (((λ e. absurd (a e)), (λ e. absurd (b e))), bytes-tab 32 n line (suc column) index (suc vs) rest (λ e. absurd (omega (arith, e))) (λ e. absurd (omega (arith, e))) h)

  pub bytes-virtual : (t line column index : ℕ) (bs : List ℕ) → ((k : ℕ) → slice_index bytes (index + k) ≡ slice_index bs k) → Bytes (virtual_from t line column index bs)
  bytes-virtual t line column index [] at = tt
  bytes-virtual t line column index (b ∷ bs) at =
      let more : (k : ℕ) → slice_index bytes (suc index + k) ≡ slice_index bs k = λ k. let z : suc index + k ≡ index + suc k = omega arith in ap (slice_index bytes) z ∙ at (suc k) in
      let here : slice_index bytes index ≡ b = let z : index ≡ index + 0 = omega arith in ap (slice_index bytes) z ∙ at 0 in
      by here (λ l c. bytes-virtual t l c (suc index) bs more) (b == 10) (b == 13) (begins_with_lf bs) (b == 9)
    where
      by : slice_index bytes index ≡ b → ((l c : ℕ) → Bytes (virtual_from t l c (suc index) bs)) → (p q r w : Bool)
          → Bytes
          (cond p (line_feed line column index ∷ virtual_from t (suc line) 1 (suc index) bs)
          (cond q (cond r (virtual_from t line column (suc index) bs) (line_feed line column index ∷ virtual_from t (suc line) 1 (suc index) bs))
          (cond w (in_tab 9 (tab_width t column) line column index 0 ++ virtual_from t line (column + tab_width t column) (suc index) bs)
          (other_byte b line column index ∷ virtual_from t line (suc column) (suc index) bs))))
      by here rest true q r w = (((λ e. absurd (omega (arith, e))), (λ e. absurd (omega (arith, e)))), rest (suc line) 1)
      by here rest false true true w = rest line column
      by here rest false true false w = (((λ e. absurd (omega (arith, e))), (λ e. absurd (omega (arith, e)))), rest (suc line) 1)
      by here rest false false r true =
          bytes-tab 9 (tab_width t column) line column index 0 (virtual_from t line (column + tab_width t column) (suc index) bs) (λ e. absurd (omega (arith, e))) (λ e. absurd (omega (arith, e)))
          (rest line (column + tab_width t column))
      by here rest false false r false = (((λ k. here ∙ k), (λ k. here ∙ k)), rest line (suc column))

  bytes-joined : (s : Seat) (lines : List Line) → IsByte s → AllByRecursion Bytes lines → AllByRecursion Bytes (joined s lines)
  bytes-joined s [] h all = ((h, tt), tt)
  bytes-joined s (line ∷ lines) h all = ((h, all.0), all.1)

  pub bytes-lines : (ss : List Seat) → Bytes ss → AllByRecursion Bytes (lines_in ss)
  bytes-lines [] h = tt
  bytes-lines (s ∷ ss) h = by (bytes-lines ss h.1) (is_line_ending s)
    where
      by : AllByRecursion Bytes (lines_in ss) → (b : Bool) → AllByRecursion Bytes (cond b ((s ∷ []) ∷ lines_in ss) (joined s (lines_in ss)))
      by more true = ((h.0, tt), more)
      by more false = bytes-joined s (lines_in ss) h.0 more

  -- ---- what is found of an underline

  none-leaf : (n : Name) (seats : List Seat) → same_name n name.HeadingSetextUnderlineSequence ≡ false → list_any test (events_of (leaf_marks bytes n seats)) ≡ false
  none-leaf n [] h = refl
  none-leaf n (s ∷ ss) h = ap (λ b. b || false) h

  none-end : (lines : List Line) → list_any test (events_of (last_end bytes lines)) ≡ false
  none-end [] = refl
  none-end (line ∷ []) = none-leaf name.LineEnding (ending_of line) refl
  none-end (line ∷ next ∷ lines) = none-end (next ∷ lines)

  none-text : (seats : List Seat) (inside : List Mark) → list_any test (events_of inside) ≡ false → list_any test (events_of (span_marks bytes name.HeadingSetextText seats inside)) ≡ false
  none-text [] inside h = h
  none-text (s ∷ ss) inside h = ap (list_any test) (map-append (λ (mark : Mark). mark.0) inside _) ∙ none-behind (events_of inside) _ h

  under : (s : Seat) (ss xs : List Seat) (y : Seat) (ys : List Seat) (a : List Mark) (z : List Event)
      → byte_of_first bytes (from_first test (events_of (span_marks bytes name.HeadingSetextUnderline (s ∷ ss) (white bytes xs ++ (leaf_marks bytes name.HeadingSetextUnderlineSequence (y ∷ ys) ++ a))) ++ z))
      ≡ slice_get bytes (shown bytes y.point).index
  under s ss [] y ys a z = refl
  under s ss (x ∷ xs) y ys a z = refl

  pub shown-index : (p : Point) (k : ℕ) → slice_index bytes p.index ≡ k → (k == 10) ≡ false → (shown bytes p).index ≡ p.index
  shown-index p k h other = plain (slice_index bytes p.index == 10) (follows_cr bytes p.index) (record { line = p.line; column = p.column; index = p.index - 1; vs = p.vs }) p (ap (λ b. b == 10) h ∙ other)

  -- the mark that an underline has
  module _ (mark k : ℕ) (is : mark ≡ suc k) (other : (mark == 10) ≡ false) (dark : is_white mark ≡ false) (written : (s : Seat) → IsByte s → s.byte ≡ mark → slice_index bytes s.point.index ≡ mark) where
    byte-under : (s : Seat) (ss xs zs : List Seat) (a : List Mark) (z : List Event) → Bytes zs → begins_with mark (bytes_of zs) ≡ true
        → byte_of_first bytes
        (from_first test
        (events_of
        (span_marks bytes name.HeadingSetextUnderline (s ∷ ss)
        (white bytes xs ++ (leaf_marks bytes name.HeadingSetextUnderlineSequence (take (prefix_len (λ c. not (is_white c)) (bytes_of zs)) zs) ++ a)))
        ++ z))
        ≡ Some mark
    byte-under s ss xs [] a z h b = absurd (cc)
    byte-under s ss xs (y ∷ ys) a z h b =
        let same : y.byte ≡ mark = eqb-true y.byte mark b in
        let at : slice_index bytes y.point.index ≡ mark = written y h.0 same in
        let n = prefix_len (λ c. not (is_white c)) (bytes_of ys) in
        let long : prefix_len (λ c. not (is_white c)) (bytes_of (y ∷ ys)) ≡ suc n =
        ap (λ c. cond (not (is_white c)) (1 + n) 0) same ∙ ap (λ c. cond (not c) (1 + n) 0) dark ∙ omega arith in
        let cut : take (prefix_len (λ c. not (is_white c)) (bytes_of (y ∷ ys))) (y ∷ ys) ≡ y ∷ take n ys = ap (λ m. take m (y ∷ ys)) long in
        ap
        (λ ws. byte_of_first bytes
        (from_first test
        (events_of (span_marks bytes name.HeadingSetextUnderline (s ∷ ss) (white bytes xs ++ (leaf_marks bytes name.HeadingSetextUnderlineSequence ws ++ a))) ++ z)))
        cut
        ∙ under s ss xs y (take n ys) a z ∙ ap (slice_get bytes) (shown-index y.point mark at other) ∙ get-of bytes y.point.index k (at ∙ is) ∙ ap Some (sym is)

    byte-of : (seats : List Seat) (z : List Event) → Bytes seats → begins_with mark (unindented (bytes_of seats)) ≡ true
        → byte_of_first bytes (from_first test (events_of (underline_marks bytes seats) ++ z)) ≡ Some mark
    byte-of [] z h b = absurd (cc)
    byte-of (s ∷ ss) z h b =
        let seats : List Seat = s ∷ ss in
        let t = bytes_of seats in
        let zs = drop (indent t) seats in
        let same : bytes_of zs ≡ unindented t = sym (drop-map (λ (r : Seat). r.byte) (indent t) seats) in
        let size : ℕ = prefix_len (λ c. not (is_white c)) (unindented t) in
        ap
        (λ n. byte_of_first bytes
        (from_first test
        (events_of
        (span_marks bytes name.HeadingSetextUnderline seats
        (white bytes (take (indent t) seats) ++ (leaf_marks bytes name.HeadingSetextUnderlineSequence (take n zs) ++ white bytes (drop (indent t + size) seats))))
        ++ z)))
        (ap (prefix_len (λ c. not (is_white c))) (sym same))
        ∙ byte-under s ss (take (indent t) seats) zs (white bytes (drop (indent t + size) seats)) z (bytes-drop (indent t) seats h) (ap (begins_with mark) same ∙ b)

    -- behind the text of a heading
    byte-behind : (texts : List Line) (inside : List Mark) (seats : List Seat) (c d : List Mark) (behind : List Event) → list_any test (events_of inside) ≡ false → Bytes seats
        → begins_with mark (unindented (bytes_of seats)) ≡ true
        → byte_of_first bytes
        (from_first test
        (events_of (((span_marks bytes name.HeadingSetextText (body texts) inside ++ (last_end bytes texts ++ underline_marks bytes seats)) ++ c) ++ d) ++ behind))
        ≡ Some mark
    byte-behind texts inside seats c d behind none h b =
        let f = λ (m : Mark). m.0 in
        let front = span_marks bytes name.HeadingSetextText (body texts) inside in
        let end = last_end bytes texts in
        let line = underline_marks bytes seats in
        let z : List Event = events_of c ++ (events_of d ++ behind) in
        let whole : events_of (((front ++ (end ++ line)) ++ c) ++ d) ++ behind ≡ events_of front ++ (events_of end ++ (events_of line ++ z)) =
        simp (map-append, append_assoc) refl in
        ap (λ es. byte_of_first bytes (from_first test es)) whole ∙ ap (byte_of_first bytes) (passed (events_of front) _ (none-text (body texts) inside none))
        ∙ ap (byte_of_first bytes) (passed (events_of end) _ (none-end texts)) ∙ byte-of seats z h b

  -- ---- the heading

  some-body : (texts : List Line) (underline : Line) → 1 ≤ length (line_text underline) → 1 ≤ length (body (texts ++ underline ∷ []))
  some-body [] underline h = h
  some-body (line ∷ []) underline h = let long = length-append line (line_text underline) in omega (arith, long, h)
  some-body (line ∷ next ∷ texts) underline h =
      let more = some-body (next ∷ texts) underline h in
      let long = length-append line (body ((next ∷ texts) ++ underline ∷ [])) in
      omega (arith, long, more)

  -- the mark is the document's too
  there : (given : List ℕ) (mark : ℕ) → ((i : ℕ) → slice_get bytes i ≡ Some mark → slice_get given i ≡ Some mark) → (es : List Event) → byte_of_first bytes es ≡ Some mark → byte_of_first given es ≡ Some mark
  there given mark same [] h = h
  there given mark same (e ∷ es) h = same e.point.index h

  in-span : (given : List ℕ) (mark rank : ℕ) (seats : List Seat) (inside d : List Mark) (behind : List Event) → 1 ≤ length seats → cond (mark == 61) 1 2 ≡ rank
      → ((c : List Mark) → byte_of_first given (from_first test (events_of ((inside ++ c) ++ d) ++ behind)) ≡ Some mark)
      → rank_of_first given (events_of (span_marks bytes name.HeadingSetext seats inside ++ d) ++ behind) ≡ Some rank
  in-span given mark rank [] inside d behind h q found = absurd (omega (arith, h))
  in-span given mark rank (s ∷ ss) inside d behind h q found = ap (option_map (λ (byte : ℕ). cond (byte == 61) 1 2)) (found _) ∙ ap Some q

  some-text : (mark : ℕ) (seats : List Seat) → begins_with mark (unindented (bytes_of seats)) ≡ true → 1 ≤ length seats
  some-text mark [] h = absurd (cc)
  some-text mark (s ∷ ss) h = omega arith

  module _ (on : Constructs) where
    -- what a rank says of the underline
    pub marks-of : (t : List ℕ) (rank : ℕ) (a b c : Bool) → cond a None (cond b (Some 1) (cond c (Some 2) None)) ≡ Some rank → ((rank ≡ 1) × (b ≡ true)) ⊎ ((rank ≡ 2) × (c ≡ true))
    marks-of t rank a b c h = grind arith

    pub underlined-ranks : (given : List ℕ) → ((i mark : ℕ) → (mark ≡ 61) ⊎ (mark ≡ 45) → slice_get bytes i ≡ Some mark → slice_get given i ≡ Some mark) → (texts : List Line) (underline : Line) (rank : ℕ) → Bytes underline → underline_rank on (text_of underline) ≡ Some rank
        → (text : List Seat → List Mark) (lines : List Line → List Mark) (behind : List Event) → EntersNoUnderline lines → rank_of_first given (heading_events bytes text lines (setext_heading rank texts underline) ++ behind) ≡ Some rank
    underlined-ranks given same texts underline rank h q text lines behind none =
        let seats = line_text underline in
        let t = text_of underline in
        let r = unindented t in
        let here : Bytes seats = bytes-filter (λ s. not (is_line_ending s)) underline h in
        elim (marks-of t rank (is_far on t || not on.heading_setext) (is_underline_of_marks 61 r) (is_underline_of_marks 45 r) q) [
          | inl m ↦ (
              let b : begins_with 61 r ≡ true = and-left (begins_with 61 r) _ m.1 in
              in-span given 61 rank (body (texts ++ underline ∷ [])) _ _ behind (some-body texts underline (some-text 61 seats b)) (sym m.0)
              (λ c. there given 61 (λ i. same i 61 (inl refl)) _ (byte-behind 61 60 refl refl refl (λ s i e. i.0 e) texts (lines texts) seats c _ behind (none texts) here b))
              )
          | inr m ↦ (
              let b : begins_with 45 r ≡ true = and-left (begins_with 45 r) _ m.1 in
              in-span given 45 rank (body (texts ++ underline ∷ [])) _ _ behind (some-body texts underline (some-text 45 seats b)) (sym m.0)
              (λ c. there given 45 (λ i. same i 45 (inr refl)) _ (byte-behind 45 44 refl refl refl (λ s i e. i.1 e) texts (lines texts) seats c _ behind (none texts) here b))
              )
        ]
