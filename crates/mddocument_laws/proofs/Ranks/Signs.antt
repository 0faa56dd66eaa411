-- Ranks of ATX headings: the number signs of a line stand side by side, so that the span of its opening sequence has as many bytes as there are.
use Rattle.mddocument_laws.proofs.Prelude.{◌≡◌, ℕ, zero, suc, ◌+◌, ◌-◌, ◌≤◌, Bool, true, false, cond, List, [], ◌∷◌, ◌++◌, length, take, drop, Some, refl, sym, ap, ◌∙◌, subst, arith, eqb-true, drop-map, take-map, AllByRecursion, ◌&&◌, slice_index, Event, Point, follows_cr, shown, Seat, begins_with_lf, end_after, in_tab, line_feed, other_byte, tab_width, virtual_from, is_line_ending, line_text, lines_in, Line, atx_heading, bytes_of, text_of, Mark, heading_around, leaf_marks, line_end, span_marks, white, indent, run, unindented, enters, from_first, size_of_first, ◌==◌, not}
use Rattle.mdinline_text_machine.proofs.CodeSpans.FoundParts.{prefix-within}
use Rattle.markdown_base.specs.declared.event.Name.TheVariants as name
use Rattle.mdconstructs_machines.specs.LineEvents.{joined}
use Rattle.mddocument_laws.proofs.Ranks.Told.{events_of, heading_events, rank_of_first}

-- ---- lists

take-in : {A : Type 0} (n k : ℕ) (xs : List A) → n ≤ k → take n (take k xs) ≡ take n xs
take-in zero k xs h = refl
take-in (suc n) zero xs h = absurd (omega (arith, h))
take-in (suc n) (suc k) [] h = refl
take-in (suc n) (suc k) (x ∷ xs) h = let less : n ≤ k = omega (arith, h) in ap (λ ys. x ∷ ys) (take-in n k xs less)

cut-in : {A : Type 0} (c n k : ℕ) (xs : List A) → c + n ≤ k → take n (drop c (take k xs)) ≡ take n (drop c xs)
cut-in zero n k xs h = take-in n k xs (omega (arith, h))
cut-in (suc c) n zero xs h = absurd (omega (arith, h))
cut-in (suc c) n (suc k) [] h = refl
cut-in (suc c) n (suc k) (x ∷ xs) h = cut-in c n k xs (omega (arith, h))

-- ---- number signs of a document

pub plain : (a b : Bool) (q p : Point) → a ≡ false → (cond (a && b) q p).index ≡ p.index
plain true b q p h = absurd (cc)
plain false b q p h = refl

plain-behind : (a b : Bool) (q p : Point) → b ≡ false → (cond (a && b) q p).index ≡ p.index
plain-behind true true q p h = absurd (cc)
plain-behind true false q p h = refl
plain-behind false b q p h = refl

module _ (bytes : List ℕ) where
  -- a number sign that comes next stands where this virtual byte ends
  abbrev pub Next : Seat → List Seat → Type 0
  Next s [] = Unit {0}
  Next s (r ∷ rs) = r.byte ≡ 35 → r.point.index ≡ s.end.index

  abbrev IsSign : Seat → List Seat → Type 0
  IsSign s ss = s.byte ≡ 35 → (slice_index bytes s.point.index ≡ 35) × (s.end.index ≡ suc s.point.index) × Next s ss

  -- each number sign is one of the document, and they stand side by side
  abbrev pub Laid : List Seat → Type 0
  Laid [] = Unit {0}
  Laid (s ∷ ss) = IsSign s ss × Laid ss

  laid-drop : (n : ℕ) (ss : List Seat) → Laid ss → Laid (drop n ss)
  laid-drop zero ss h = h
  laid-drop (suc n) [] h = tt
  laid-drop (suc n) (s ∷ ss) h = laid-drop n ss h.1

  next-take : (n : ℕ) (s : Seat) (ss : List Seat) → Next s ss → Next s (take n ss)
  next-take zero s ss h = tt
  next-take (suc n) s [] h = tt
  next-take (suc n) s (r ∷ rs) h = h

  laid-take : (n : ℕ) (ss : List Seat) → Laid ss → Laid (take n ss)
  laid-take zero ss h = tt
  laid-take (suc n) [] h = tt
  laid-take (suc n) (s ∷ ss) h = ((λ e. let r = h.0 e in (r.0, r.1, next-take n s ss r.2)), laid-take n ss h.1)

  abbrev AllSigns : List Seat → Type 0
  AllSigns [] = Unit {0}
  AllSigns (s ∷ ss) = (s.byte ≡ 35) × AllSigns ss

  -- the end of such signs
  ends : (y : Seat) (ys : List Seat) → Laid (y ∷ ys) → AllSigns (y ∷ ys) → ((end_after y.end ys).index ≡ suc (y.point.index + length ys)) × (slice_index bytes (y.point.index + length ys) ≡ 35)
  ends y [] h a =
      let r = h.0 a.0 in
      let one = r.1 in
      let z : y.point.index + 0 ≡ y.point.index = omega arith in
      (omega (arith, one), ap (slice_index bytes) z ∙ r.0)
  ends y (x ∷ ys) h a =
      let r = h.0 a.0 in
      let one = r.1 in
      let next : x.point.index ≡ y.end.index = r.2 a.1.0 in
      let more = ends x ys h.1 a.1 in
      let end = more.0 in
      let z : y.point.index + suc (length ys) ≡ x.point.index + length ys = omega (arith, one, next) in
      (omega (arith, one, next, end), ap (slice_index bytes) z ∙ more.1)

  pub shown-at : (p : Point) → slice_index bytes p.index ≡ 35 → (shown bytes p).index ≡ p.index
  shown-at p h = plain (slice_index bytes p.index == 10) (follows_cr bytes p.index) (record { line = p.line; column = p.column; index = p.index - 1; vs = p.vs }) p (ap (λ b. b == 10) h)

  shown-behind : (p : Point) (j : ℕ) → p.index ≡ suc j → slice_index bytes j ≡ 35 → (shown bytes p).index ≡ p.index
  shown-behind p j e h =
      plain-behind (slice_index bytes p.index == 10) (follows_cr bytes p.index) (record { line = p.line; column = p.column; index = p.index - 1; vs = p.vs }) p
      (ap (follows_cr bytes) e ∙ ap (λ b. b == 13) h)

  -- the bytes of their span are as many
  size : (y : Seat) (ys : List Seat) → Laid (y ∷ ys) → AllSigns (y ∷ ys) → (shown bytes (end_after y.end ys)).index - (shown bytes y.point).index ≡ suc (length ys)
  size y ys h a =
      let e = ends y ys h a in
      let first = shown-at y.point (h.0 a.0).0 in
      let last = shown-behind (end_after y.end ys) (y.point.index + length ys) e.0 e.1 in
      let end = e.0 in
      omega (arith, first, last, end)

  -- ---- what is found of a heading

  found-in : (xs : List Seat) (y : Seat) (ys : List Seat) (a b c d : List Mark) (behind : List Event)
      → size_of_first (from_first (enters name.HeadingAtxSequence) (events_of ((((white bytes xs ++ (leaf_marks bytes name.HeadingAtxSequence (y ∷ ys) ++ a)) ++ b) ++ c) ++ d) ++ behind))
      ≡ Some ((shown bytes (end_after y.end ys)).index - (shown bytes y.point).index)
  found-in [] y ys a b c d behind = refl
  found-in (x ∷ xs) y ys a b c d behind = refl

  found : (xs zs : List Seat) (n : ℕ) (a b c d : List Mark) (behind : List Event) → Laid zs → AllSigns zs → length zs ≡ n → 1 ≤ n
      → size_of_first (from_first (enters name.HeadingAtxSequence) (events_of ((((white bytes xs ++ (leaf_marks bytes name.HeadingAtxSequence zs ++ a)) ++ b) ++ c) ++ d) ++ behind)) ≡ Some n
  found xs [] n a b c d behind h s l m = absurd (omega (arith, l, m))
  found xs (y ∷ ys) n a b c d behind h s l m = found-in xs y ys a b c d behind ∙ ap Some (size y ys h s ∙ l)

  signs : (ss : List Seat) → AllSigns (take (run 35 (bytes_of ss)) ss) × (length (take (run 35 (bytes_of ss)) ss) ≡ run 35 (bytes_of ss))
  signs [] = (tt, refl)
  signs (s ∷ ss) = by (signs ss) (s.byte == 35) refl
    where
      by : AllSigns (take (run 35 (bytes_of ss)) ss) × (length (take (run 35 (bytes_of ss)) ss) ≡ run 35 (bytes_of ss)) → (b : Bool) → (s.byte == 35) ≡ b
          → AllSigns (take (cond b (1 + run 35 (bytes_of ss)) 0) (s ∷ ss)) × (length (take (cond b (1 + run 35 (bytes_of ss)) 0) (s ∷ ss)) ≡ cond b (1 + run 35 (bytes_of ss)) 0)
      by r true q =
          let z : suc (run 35 (bytes_of ss)) ≡ 1 + run 35 (bytes_of ss) = omega arith in
          let P : ℕ → Type 0 = λ n. AllSigns (take n (s ∷ ss)) × (length (take n (s ∷ ss)) ≡ n) in
          subst P z ((eqb-true s.byte 35 q, r.0), ap suc r.1)
      by r false q = (tt, refl)

  of-seats : (given : List ℕ) (read : List Seat → List Mark) (seats : List Seat) (d : List Mark) (behind : List Event) → Laid seats → 1 ≤ run 35 (unindented (bytes_of seats))
      → rank_of_first given (events_of (span_marks bytes name.HeadingAtx seats (heading_around bytes read seats) ++ d) ++ behind) ≡ Some (run 35 (unindented (bytes_of seats)))
  of-seats given read [] d behind h m = absurd (omega (arith, m))
  of-seats given read (s ∷ ss) d behind h m =
      let seats : List Seat = s ∷ ss in
      let t = bytes_of seats in
      let n = run 35 (unindented t) in
      let start = (indent t + n) + indent (drop (indent t + n) t) in
      let front = take start seats in
      let few : indent t ≤ start = omega arith in
      let within : indent t + n ≤ start = omega arith in
      let columns : indent (bytes_of front) ≡ indent t = ap indent (sym (take-map (λ (r : Seat). r.byte) start seats)) ∙ prefix-within _ start t few in
      let behind_white : List Seat = drop (indent t) seats in
      let same : bytes_of behind_white ≡ unindented t = sym (drop-map (λ (r : Seat). r.byte) (indent t) seats) in
      let zs : List Seat = take n (drop (indent (bytes_of front)) front) in
      let is : zs ≡ take (run 35 (bytes_of behind_white)) behind_white =
      ap (λ c. take n (drop c front)) columns ∙ cut-in (indent t) n start seats within ∙ ap (λ u. take (run 35 u) behind_white) (sym same) in
      let r = signs behind_white in
      found (take (indent (bytes_of front)) front) zs n _ _ _ d behind (laid-take n (drop (indent (bytes_of front)) front) (laid-drop (indent (bytes_of front)) front (laid-take start seats h)))
      (subst AllSigns (sym is) r.0) (ap length is ∙ r.1 ∙ ap (run 35) same) m

  pub ranked : (given : List ℕ) (read : List Seat → List Mark) (lines : List Line → List Mark) (line : Line) (behind : List Event) → Laid (line_text line) → 1 ≤ run 35 (unindented (text_of line))
      → rank_of_first given (heading_events bytes read lines (atx_heading line) ++ behind) ≡ Some (run 35 (unindented (text_of line)))
  ranked given read lines line behind h m = of-seats given read (line_text line) (line_end bytes line) behind h m

  -- ---- the virtual bytes of a document

  no : {b : ℕ} → (b == 10) ≡ true → b ≡ 35 → ⊥
  no {b} h e = let f : false ≡ true = ap (λ x. x == 10) (sym e) ∙ h in absurd (cc)

  next-in-tab : (s : Seat) (byte n line column index vs : ℕ) (rest : List Seat) → (byte ≡ 35 → ⊥) → 1 ≤ n → Next s (in_tab byte n line column index vs ++ rest)
  next-in-tab s byte zero line column index vs rest none h = absurd (omega (arith, h))
  next-in-tab s byte (suc n) line column index vs rest none h = λ e. absurd (none e)

  no-space : ◌≡◌ {A = ℕ} 32 35 → ⊥
  no-space e = absurd (omega (arith, e))

  no-tab : ◌≡◌ {A = ℕ} 9 35 → ⊥
  no-tab e = absurd (omega (arith, e))

  laid-tab : (byte n line column index vs : ℕ) (rest : List Seat) → (byte ≡ 35 → ⊥) → Laid rest → Laid (in_tab byte n line column index vs ++ rest)
  laid-tab byte zero line column index vs rest none h = h
  laid-tab byte (suc n) line column index vs rest none h = ((λ e. absurd (none e)), laid-tab 32 n line (suc column) index (suc vs) rest no-space h)

  pub wide : (t column : ℕ) → 1 ≤ t → 1 ≤ tab_width t column
  wide t column h = omega arith

  -- what begins with a line feed is no sign
  next-feed : (s : Seat) (t line column index : ℕ) (bs : List ℕ) → begins_with_lf bs ≡ true → Next s (virtual_from t line column index bs)
  next-feed s t line column index [] h = tt
  next-feed s t line column index (b ∷ bs) h = rw h (λ e. absurd (cc))

  next-virtual : (s : Seat) (t line column index : ℕ) (bs : List ℕ) → 1 ≤ t → s.end.index ≡ index → Next s (virtual_from t line column index bs)
  next-virtual s t line column index [] h e = tt
  next-virtual s t line column index (b ∷ bs) h e = by (b == 10) (b == 13) (begins_with_lf bs) (b == 9) refl
    where
      by : (p q r w : Bool) → begins_with_lf bs ≡ r
          → Next s
          (cond p (line_feed line column index ∷ virtual_from t (suc line) 1 (suc index) bs)
          (cond q (cond r (virtual_from t line column (suc index) bs) (line_feed line column index ∷ virtual_from t (suc line) 1 (suc index) bs))
          (cond w (in_tab 9 (tab_width t column) line column index 0 ++ virtual_from t line (column + tab_width t column) (suc index) bs)
          (other_byte b line column index ∷ virtual_from t line (suc column) (suc index) bs))))
      by true q r w l = λ k. absurd (cc)
      by false true true w l = next-feed s t line column (suc index) bs l
      by false true false w l = λ k. absurd (cc)
      by false false r true l = next-in-tab s 9 (tab_width t column) line column index 0 (virtual_from t line (column + tab_width t column) (suc index) bs) no-tab (wide t column h)
      by false false r false l = λ k. sym e

  pub laid-virtual : (t line column index : ℕ) (bs : List ℕ) → 1 ≤ t → ((k : ℕ) → slice_index bytes (index + k) ≡ slice_index bs k) → Laid (virtual_from t line column index bs)
  laid-virtual t line column index [] h at = tt
  laid-virtual t line column index (b ∷ bs) h at =
      let more : (k : ℕ) → slice_index bytes (suc index + k) ≡ slice_index bs k = λ k. let z : suc index + k ≡ index + suc k = omega arith in ap (slice_index bytes) z ∙ at (suc k) in
      let here : slice_index bytes index ≡ b = let z : index ≡ index + 0 = omega arith in ap (slice_index bytes) z ∙ at 0 in
      by here (λ l c. laid-virtual t l c (suc index) bs h more) (b == 10) (b == 13) (begins_with_lf bs) (b == 9)
    where
      by : slice_index bytes index ≡ b → ((l c : ℕ) → Laid (virtual_from t l c (suc index) bs)) → (p q r w : Bool)
          → Laid
          (cond p (line_feed line column index ∷ virtual_from t (suc line) 1 (suc index) bs)
          (cond q (cond r (virtual_from t line column (suc index) bs) (line_feed line column index ∷ virtual_from t (suc line) 1 (suc index) bs))
          (cond w (in_tab 9 (tab_width t column) line column index 0 ++ virtual_from t line (column + tab_width t column) (suc index) bs)
          (other_byte b line column index ∷ virtual_from t line (suc column) (suc index) bs))))
      by here rest true q r w = ((λ k. absurd (cc)), rest (suc line) 1)
      by here rest false true true w = rest line column
      by here rest false true false w = ((λ k. absurd (cc)), rest (suc line) 1)
      by here rest false false r true = laid-tab 9 (tab_width t column) line column index 0 (virtual_from t line (column + tab_width t column) (suc index) bs) no-tab (rest line (column + tab_width t column))
      by here rest false false r false = ((λ k. (here ∙ k, refl, next-virtual (other_byte b line column index) t line (suc column) (suc index) bs h refl)), rest line (suc column))

  -- ---- lines

  abbrev LaidLine : Line → Type 0
  LaidLine line = Laid (line_text line)

  -- the first line goes on from this virtual byte
  abbrev NextLine : Seat → List Line → Type 0
  NextLine s [] = Unit {0}
  NextLine s (line ∷ lines) = Next s (line_text line)

  text-of-other : (r : Seat) (line : Line) → is_line_ending r ≡ false → line_text (r ∷ line) ≡ r ∷ line_text line
  text-of-other r line q = ap (λ b. cond (not b) (r ∷ line_text line) (line_text line)) q

  text-of-ending : (r : Seat) → is_line_ending r ≡ true → line_text (r ∷ []) ≡ []
  text-of-ending r q = ap (λ b. cond (not b) (r ∷ []) []) q

  next-joined : (s r : Seat) (lines : List Line) (rs : List Seat) → is_line_ending r ≡ false → Next s (r ∷ rs) → NextLine s (joined r lines)
  next-joined s r [] rs q h = subst (Next s) (sym (text-of-other r [] q)) h
  next-joined s r (line ∷ lines) rs q h = subst (Next s) (sym (text-of-other r line q)) h

  next-line : (s : Seat) (ss : List Seat) → Next s ss → NextLine s (lines_in ss)
  next-line s [] h = tt
  next-line s (r ∷ rs) h = by (is_line_ending r) refl
    where
      by : (b : Bool) → is_line_ending r ≡ b → NextLine s (cond b ((r ∷ []) ∷ lines_in rs) (joined r (lines_in rs)))
      by true q = subst (Next s) (sym (text-of-ending r q)) tt
      by false q = next-joined s r (lines_in rs) rs q h

  laid-joined : (s : Seat) (lines : List Line) → is_line_ending s ≡ false → (s.byte ≡ 35 → (slice_index bytes s.point.index ≡ 35) × (s.end.index ≡ suc s.point.index)) → (s.byte ≡ 35 → NextLine s lines)
      → AllByRecursion LaidLine lines → AllByRecursion LaidLine (joined s lines)
  laid-joined s [] q one next h = (subst Laid (sym (text-of-other s [] q)) ((λ e. let r = one e in (r.0, r.1, tt)), tt), tt)
  laid-joined s (line ∷ lines) q one next h = (subst Laid (sym (text-of-other s line q)) ((λ e. let r = one e in (r.0, r.1, next e)), h.0), h.1)

  pub laid-lines : (ss : List Seat) → Laid ss → AllByRecursion LaidLine (lines_in ss)
  laid-lines [] h = tt
  laid-lines (s ∷ ss) h = by (laid-lines ss h.1) (is_line_ending s) refl
    where
      by : AllByRecursion LaidLine (lines_in ss) → (b : Bool) → is_line_ending s ≡ b → AllByRecursion LaidLine (cond b ((s ∷ []) ∷ lines_in ss) (joined s (lines_in ss)))
      by more true q = (subst Laid (sym (text-of-ending s q)) tt, more)
      by more false q = laid-joined s (lines_in ss) q (λ e. let r = h.0 e in (r.0, r.1)) (λ e. next-line s ss (h.0 e).2) more
