-- The backticks of a text are one byte each, and its virtual bytes are in order of their places.
use Rattle.markdown_tokenizer.proofs.Inside.Known.{not-before-index}
use Rattle.markdown_tokenizer.proofs.Positions.Moving.{first-same}
use Rattle.mdinline_text_machine.proofs.Prelude.{◌≡◌, ℕ, zero, suc, ◌+◌, ◌-◌, ◌<◌, ◌≤◌, ◌==◌, ◌&&◌, ◌||◌, ◌∷◌, ◌++◌, [], List, Bool, true, false, cond, refl, sym, ◌∙◌, ap, subst, arith, nat_lt, nat_tests, drop, filter, AllByRecursion, every-append, every-filter, every-get, drop-drop, at-front, Seat, Point, point, begins_with_lf, in_tab, tab_width, virtual, virtual_from, shown, denotes_same, in_range, is_backtick, Given, Text, Piece, pushed, passed, IsText, empty_text, followed_by, followed_by_all}
use Rattle.markdown_tokenizer.proofs.Positions.Chains.{shown-other}
use Rattle.markdown_tokenizer.proofs.Positions.Seats.{drop-first}
use Rattle.markdown_tokenizer.proofs.Positions.TextOrder.{AreInOrder, Follows, text-order}

-- behind a backtick is the next byte of the document, and it is shown at itself
abbrev pub IsOne : List ℕ → Seat → Type 0
IsOne bytes s = is_backtick s.byte ≡ true → (s.end.index ≡ suc s.point.index) × (shown bytes s.point ≡ s.point)

module _ (bytes : List ℕ) where
  ones-tab : (b n l c i v : ℕ) → is_backtick b ≡ false → AllByRecursion (IsOne bytes) (in_tab b n l c i v)
  ones-tab b zero l c i v other = tt
  ones-tab b (suc n) l c i v other = ((λ is. let no : true ≡ false = sym is ∙ other in absurd (cc)), ones-tab 32 n l (suc c) i (suc v) refl)

  one-other : (b l c i : ℕ) (bs : List ℕ) → drop i bytes ≡ b ∷ bs → is_backtick b ≡ true → (suc i ≡ suc i) × (shown bytes (point l c i 0) ≡ point l c i 0)
  one-other b l c i bs at is =
      (refl, shown-other bytes (point l c i 0) (λ ten. let b-ten : b ≡ 10 = sym (drop-first i bytes b bs at).1 ∙ ten in let no : is_backtick 10 ≡ true = subst (λ x. is_backtick x ≡ true) b-ten is in absurd (cc)))

  ones-from : (t l c i : ℕ) (bs : List ℕ) → drop i bytes ≡ bs → AllByRecursion (IsOne bytes) (virtual_from t l c i bs)
  ones-from t l c i [] at = tt
  ones-from t l c i (b ∷ bs) at =
      let next = (drop-first i bytes b bs at).2 in
      let feed : AllByRecursion (IsOne bytes) (record { byte = 10; point = point l c i 0; end = point (suc l) 1 (suc i) 0 } ∷ virtual_from t (suc l) 1 (suc i) bs) = ((λ is. absurd (cc)), ones-from t (suc l) 1 (suc i) bs next) in
      elim (b == 10) as (λ x. AllByRecursion (IsOne bytes) (cond x
      (record { byte = 10; point = point l c i 0; end = point (suc l) 1 (suc i) 0 } ∷ virtual_from t (suc l) 1 (suc i) bs)
      (cond (b == 13)
      (cond (begins_with_lf bs) (virtual_from t l c (suc i) bs) (record { byte = 10; point = point l c i 0; end = point (suc l) 1 (suc i) 0 } ∷ virtual_from t (suc l) 1 (suc i) bs))
      (cond (b == 9) (in_tab 9 (tab_width t c) l c i 0 ++ virtual_from t l (c + tab_width t c) (suc i) bs)
      (record { byte = b; point = point l c i 0; end = point l (suc c) (suc i) 0 } ∷ virtual_from t l (suc c) (suc i) bs))))) [
        | true ↦ feed
        | false ↦ elim (b == 13) as (λ x. AllByRecursion (IsOne bytes) (cond x
            (cond (begins_with_lf bs) (virtual_from t l c (suc i) bs) (record { byte = 10; point = point l c i 0; end = point (suc l) 1 (suc i) 0 } ∷ virtual_from t (suc l) 1 (suc i) bs))
            (cond (b == 9) (in_tab 9 (tab_width t c) l c i 0 ++ virtual_from t l (c + tab_width t c) (suc i) bs)
            (record { byte = b; point = point l c i 0; end = point l (suc c) (suc i) 0 } ∷ virtual_from t l (suc c) (suc i) bs)))) [
              | true ↦ elim (begins_with_lf bs) as (λ x. AllByRecursion (IsOne bytes) (cond x (virtual_from t l c (suc i) bs) (record { byte = 10; point = point l c i 0; end = point (suc l) 1 (suc i) 0 } ∷ virtual_from t (suc l) 1 (suc i) bs))) [
                | true ↦ ones-from t l c (suc i) bs next
                | false ↦ feed
              ]
              | false ↦ elim (b == 9) as (λ x. AllByRecursion (IsOne bytes) (cond x (in_tab 9 (tab_width t c) l c i 0 ++ virtual_from t l (c + tab_width t c) (suc i) bs)
                  (record { byte = b; point = point l c i 0; end = point l (suc c) (suc i) 0 } ∷ virtual_from t l (suc c) (suc i) bs))) [
                    | true ↦ every-append (IsOne bytes) (in_tab 9 (tab_width t c) l c i 0) (virtual_from t l (c + tab_width t c) (suc i) bs) (ones-tab 9 (tab_width t c) l c i 0 refl) (ones-from t l (c + tab_width t c) (suc i) bs next)
                    | false ↦ ((λ is. one-other b l c i bs at is), ones-from t l (suc c) (suc i) bs next)
                  ]
            ]
      ]

module _ (g : Given) where
  abbrev AreOnes : Text → Type 0
  AreOnes text = AllByRecursion (IsOne g.bytes) text.seats

  passed-ones : (b : Bool) (text : Text) (p : Point) → AreOnes text → AreOnes (cond b text (record text { end = p }))
  passed-ones true text p h = h
  passed-ones false text p h = h

  piece-ones : (text : Text) (piece : Piece) → AreOnes text → AreOnes (followed_by g text piece)
  piece-ones text (pushed from to) h =
      every-append (IsOne g.bytes) text.seats (filter (in_range from to) (virtual g.tab g.bytes)) h
      (every-filter (IsOne g.bytes) (in_range from to) (virtual g.tab g.bytes) (ones-from g.bytes g.tab 1 1 0 g.bytes refl))
  piece-ones text (passed p) h = passed-ones (denotes_same g.tab g.bytes p text.end) text p h

  pieces-ones : (text : Text) (pieces : List Piece) → AreOnes text → AreOnes (followed_by_all g text pieces)
  pieces-ones text [] h = h
  pieces-ones text (piece ∷ rest) h = pieces-ones (followed_by g text piece) rest (piece-ones text piece h)

-- so are those of a text
pub text-ones : (g : Given) (text : Text) → IsText g text → AllByRecursion (IsOne g.bytes) text.seats
text-ones g text is = subst (AreOnes g) (sym is.is) (pieces-ones g (empty_text text.start) is.pieces tt)

-- the index of what stands before another, or not before it
before-index : (i j m n : ℕ) → (nat_lt i m || ((i == m) && nat_lt j n)) ≡ true → i ≤ m
before-index i j m n h = grind (arith, nat_tests)

-- what is left of a list in order, and of one of which all have a property
pub drop-order : (bytes : List ℕ) (xs : List Seat) (i : ℕ) → AreInOrder bytes xs → AreInOrder bytes (drop i xs)
drop-order bytes [] zero h = h
drop-order bytes [] (suc i) h = h
drop-order bytes (x ∷ xs) zero h = h
drop-order bytes (x ∷ xs) (suc i) h = drop-order bytes xs i h.2

module _ (g : Given) (text : Text) (is : IsText g text) where
  -- a virtual byte further on comes after another
  follows : (q n : ℕ) (s t : Seat) (ss ts : List Seat) → drop q text.seats ≡ s ∷ ss → drop (q + suc n) text.seats ≡ t ∷ ts → Follows s t
  follows q n s t ss ts at at' =
      let ordered : AreInOrder g.bytes (s ∷ ss) = subst (AreInOrder g.bytes) at (drop-order g.bytes text.seats q (text-order g text is).0) in
      let behind : drop n ss ≡ t ∷ ts = ap (drop (suc n)) (sym at) ∙ drop-drop (suc n) q text.seats ∙ at' in
      every-get (Follows s) ss n t ordered.1 (at-front ss n t ts behind)

  -- Places are in order
  pub index-upto : (q r : ℕ) (s t : Seat) (ss ts : List Seat) → drop q text.seats ≡ s ∷ ss → drop r text.seats ≡ t ∷ ts → q ≤ r → s.point.index ≤ t.point.index
  index-upto q r s t ss ts at at' h = upto (r - q) refl
    where
      upto : (n : ℕ) → r - q ≡ n → s.point.index ≤ t.point.index
      upto zero e =
          let same : r ≡ q = omega (arith, e, h) in
          let first : s ≡ t = first-same s t ss ts (sym at ∙ ap (λ n. drop n text.seats) (sym same) ∙ at') in
          let equal : s.point.index ≡ t.point.index = ap (λ (x : Seat). x.point.index) first in
          omega (arith, equal)
      upto (suc n) e =
          let place : r ≡ q + suc n = omega (arith, e, h) in
          before-index s.point.index s.point.vs t.point.index t.point.vs (follows q n s t ss ts at (ap (λ n. drop n text.seats) (sym place) ∙ at')).0

  -- and behind a backtick they are greater
  pub index-behind : (q r : ℕ) (s t : Seat) (ss ts : List Seat) → drop q text.seats ≡ s ∷ ss → is_backtick s.byte ≡ true → drop r text.seats ≡ t ∷ ts → q < r → s.point.index < t.point.index
  index-behind q r s t ss ts at tick at' h =
      let n = r - suc q in
      let place : r ≡ q + suc n = omega (arith, h) in
      let one = every-get (IsOne g.bytes) text.seats q s (text-ones g text is) (at-front text.seats q s ss at) tick in
      let later = not-before-index t.point.index t.point.vs s.end.index s.end.vs (follows q n s t ss ts at (ap (λ n. drop n text.seats) (sym place) ∙ at')).1 in
      omega (arith, one.0, later)

  -- a backtick is shown at itself
  pub tick-shown : (q : ℕ) (s : Seat) (ss : List Seat) → drop q text.seats ≡ s ∷ ss → is_backtick s.byte ≡ true → shown g.bytes s.point ≡ s.point
  tick-shown q s ss at tick = (every-get (IsOne g.bytes) text.seats q s (text-ones g text is) (at-front text.seats q s ss at) tick).1
