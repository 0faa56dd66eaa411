-- What is remembered of marks that do not end: it is right from a position of the text on, and a look that fails adds what is right.
use Rattle.mdinline_constructs.proofs.Prelude.{every-get, shown, stands_before, Seat, Point, get-dropped, shown-upto, AreInOrder, Follows, text-order, drop-order, Configuration, current_of, point_of, point_or, byte_of, Given, IsText, Text, at-front, none_upto, stopped_at, waits_at, Remembered, remembered, bytes_of, List, None, Option, Some, [], ap, arith, drop, false, inl, inr, refl, slice_get, subst, suc, sym, true, zero, ℕ, ◌+◌, ◌-◌, ◌<◌, ◌==◌, ◌∙◌, ◌∷◌, ◌≡◌, ◌≤◌, cases_lt, ltb-true, nat_tests, drop-drop}
use Rattle.mdinline_constructs.proofs.HtmlMarks.Fails.{NoneBegins}
use Rattle.mdinline_constructs.proofs.HtmlMarks.Known.{of_kind}
use Rattle.mdinline_constructs.proofs.HtmlMarks.Places.{Mark, mark_byte, of_cdata, of_comment, of_declaration, of_instruction}
use Rattle.mdinline_constructs.proofs.HtmlMarks.Rows.{known_upto, knows_of, opening_length}

module _ (text : Text) where
  -- no mark of a kind ends that begins at a position or behind it, before an index of the document
  abbrev pub NoneUpto : Mark → (p index : ℕ) → Type 0
  NoneUpto kind p index = (q : ℕ) (s : Seat) (ss : List Seat) → p ≤ q → drop q text.seats ≡ s ∷ ss → s.point.index < index → (s.byte == 60) ≡ true → of_kind kind (bytes_of ss) ≡ None

  -- What is remembered is right from a position on
  abbrev pub KnowsMarks : ℕ → Remembered → Type 0
  KnowsMarks p r = (kind : Mark) → NoneUpto kind p (known_upto kind r)

  -- so it is further on
  pub knows-later : (p q : ℕ) (r : Remembered) → p ≤ q → KnowsMarks p r → KnowsMarks q r
  knows-later p q r behind knows kind i s ss at here less begins = knows kind i s ss (omega (arith, behind, at)) here less begins

  -- where nothing is remembered it is right
  pub knows-nothing : (r : Remembered) → ((kind : Mark) → known_upto kind r ≡ 0) → KnowsMarks 0 r
  knows-nothing r none kind q s ss at here less begins = absurd (omega (arith, less, none kind))

-- the fields of marks are those of another memory
pub knows-same : (text : Text) (p : ℕ) (r r' : Remembered) → ((kind : Mark) → known_upto kind r' ≡ known_upto kind r) → KnowsMarks text p r → KnowsMarks text p r'
knows-same text p r r' same knows kind = subst (NoneUpto text kind p) (sym (same kind)) (knows kind)

-- the index up to which the kind of a look does not end that stops in front of these bytes
abbrev pub stop_index : Given → Text → List Seat → (q : ℕ) → ℕ
stop_index g text l q = stopped_at (current_of text q (waits_at l)) (shown g.bytes (point_of text q (waits_at l))).index

-- what holds of each field once one of them is written
pub written-known : (P : Mark → ℕ → Type 0) (kind : Mark) (i : ℕ) (k : Configuration Unit Unit) → P kind i → ((m : Mark) → P m (known_upto m (remembered k.local)))
    → (m : Mark) → P m (known_upto m (remembered (none_upto (mark_byte kind) i k)))
written-known P of_comment i k h old of_comment = h
written-known P of_comment i k h old of_instruction = old of_instruction
written-known P of_comment i k h old of_declaration = old of_declaration
written-known P of_comment i k h old of_cdata = old of_cdata
written-known P of_instruction i k h old of_comment = old of_comment
written-known P of_instruction i k h old of_instruction = h
written-known P of_instruction i k h old of_declaration = old of_declaration
written-known P of_instruction i k h old of_cdata = old of_cdata
written-known P of_declaration i k h old of_comment = old of_comment
written-known P of_declaration i k h old of_instruction = old of_instruction
written-known P of_declaration i k h old of_declaration = h
written-known P of_declaration i k h old of_cdata = old of_cdata
written-known P of_cdata i k h old of_comment = old of_comment
written-known P of_cdata i k h old of_instruction = old of_instruction
written-known P of_cdata i k h old of_declaration = old of_declaration
written-known P of_cdata i k h old of_cdata = h

-- ---- Indices grow from byte to byte
pub before-index : (p q : Point) → stands_before p q ≡ true → p.index ≤ q.index
before-index p q h = grind (arith, nat_tests)

upto-index : (p q : Point) → stands_before p q ≡ false → q.index ≤ p.index
upto-index p q h = grind (arith, nat_tests)

-- what is among the bytes at the front
pub begins-among : (kind : Mark) (l : List Seat) (n j : ℕ) (s : Seat) (ss : List Seat) → NoneBegins kind (bytes_of l) n → drop j l ≡ s ∷ ss → j < n → (s.byte == 60) ≡ true → of_kind kind (bytes_of ss) ≡ None
begins-among kind [] n zero s ss none here less begins = absurd (cc)
begins-among kind [] n (suc j) s ss none here less begins = absurd (cc)
begins-among kind (x ∷ xs) zero j s ss none here less begins = absurd (omega (arith, less))
begins-among kind (x ∷ xs) (suc n) zero s ss none here less begins =
    let same : x ≡ s = cc in
    let rest : xs ≡ ss = cc in
    subst (λ l. of_kind kind (bytes_of l) ≡ None) rest (none.0 (subst (λ (y : Seat). (y.byte == 60) ≡ true) (sym same) begins))
begins-among kind (x ∷ xs) (suc n) (suc j) s ss none here less begins = begins-among kind xs n j s ss none.1 here (omega (arith, less)) begins

module _ (g : Given) (text : Text) (is : IsText g text) where
  -- of a byte and one further on
  pub later-index : (p : ℕ) (s : Seat) (ss : List Seat) → drop p text.seats ≡ s ∷ ss → (j : ℕ) (r : Seat) → slice_get (s ∷ ss) j ≡ Some r → s.point.index ≤ r.point.index
  later-index p s ss here zero r at = let same : s ≡ r = cc in subst (λ (r : Seat). s.point.index ≤ r.point.index) same (omega arith)
  later-index p s ss here (suc j) r at =
      let order = subst (AreInOrder g.bytes) here (drop-order g.bytes text.seats p (text-order g text is).0) in
      before-index s.point r.point (every-get (Follows s) ss j r order.1 at).0

  -- what is known of the last byte of an opening mark is right of its first one
  pub known-opens : (p : ℕ) (r : Remembered) → KnowsMarks text p r → (s : Seat) (ss : List Seat) → drop p text.seats ≡ s ∷ ss → (s.byte == 60) ≡ true → (kind : Mark)
      → knows_of r kind (slice_get text.seats (p + opening_length kind)) ≡ true → of_kind kind (bytes_of ss) ≡ None
  known-opens p r knows s ss here begins kind known = by (slice_get text.seats (p + opening_length kind)) refl known
    where
      by : (o : Option Seat) → slice_get text.seats (p + opening_length kind) ≡ o → knows_of r kind o ≡ true → of_kind kind (bytes_of ss) ≡ None
      by None at known = absurd (cc)
      by (Some x) at known =
          let before : x.point.index < known_upto kind r = ltb-true x.point.index (known_upto kind r) known in
          let there : slice_get (s ∷ ss) (opening_length kind) ≡ Some x = ap (λ l. slice_get l (opening_length kind)) (sym here) ∙ get-dropped p text.seats (opening_length kind) ∙ at in
          let grows : s.point.index ≤ x.point.index = later-index p s ss here (opening_length kind) x there in
          knows kind p s ss (omega arith) here (omega (arith, before, grows)) begins

  -- A look that fails shows that none of its kind ends that begins before the place where it stops
  pub none-upto-stop : (kind : Mark) (p : ℕ) (s : Seat) (ss : List Seat) (over : ℕ) → drop p text.seats ≡ s ∷ ss → NoneBegins kind (bytes_of (s ∷ ss)) (suc over)
      → NoneUpto text kind p (stop_index g text (drop over ss) (p + 1 + over))
  none-upto-stop kind p s ss over here none q r rs at there less begins =
      let j = q - p in
      let place : p + j ≡ q = omega (arith, at) in
      let mine : drop j (s ∷ ss) ≡ r ∷ rs = sym (ap (drop j) here) ∙ drop-drop j p text.seats ∙ ap (λ q. drop q text.seats) place ∙ there in
      elim (cases_lt j (suc over)) [
        | inl within ↦ begins-among kind (s ∷ ss) (suc over) j r rs none mine within begins
        | inr past ↦
            let i = j - suc over in
            let whole : suc over + i ≡ j = omega (arith, past) in
            let behind : drop i (drop over ss) ≡ r ∷ rs = drop-drop i (suc over) (s ∷ ss) ∙ ap (λ n. drop n (s ∷ ss)) whole ∙ mine in
            let stop : drop (p + 1 + over) text.seats ≡ drop over ss =
            (let sum : p + suc over ≡ p + 1 + over = omega arith in ap (λ n. drop n text.seats) (sym sum)) ∙ sym (drop-drop (suc over) p text.seats) ∙ ap (drop (suc over)) here in
            absurd (stops-before (drop over ss) stop i behind less)
      ]
    where
      -- it stops in front of what is left there
      stops-before : (l : List Seat) → drop (p + 1 + over) text.seats ≡ l → (i : ℕ) → drop i l ≡ r ∷ rs → r.point.index < stop_index g text l (p + 1 + over) → ⊥
      stops-before [] stop zero behind less = absurd (cc)
      stops-before [] stop (suc i) behind less = absurd (cc)
      stops-before (x ∷ xs) stop i behind less =
          let q = p + 1 + over in
          let front = at-front text.seats q x xs stop in
          let index : stop_index g text (x ∷ xs) q ≡ (shown g.bytes x.point).index = ap (λ o. stopped_at (byte_of o) (shown g.bytes (point_or text.end o)).index) front in
          let least : (shown g.bytes x.point).index ≤ x.point.index = upto-index x.point (shown g.bytes x.point) (shown-upto 0 g.bytes x.point) in
          let grows : x.point.index ≤ r.point.index = later-index q x xs stop i r (at-front (x ∷ xs) i r rs behind) in
          omega (arith, less, index, least, grows)
