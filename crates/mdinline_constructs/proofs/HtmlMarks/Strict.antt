-- A line ending of a text is shown behind all bytes before it: their indices are smaller.
use Rattle.markdown_tokenizer.proofs.Positions.Moving.{back-first}
use Rattle.mdinline_constructs.proofs.Prelude.{every-append, every-filter, denotes_same, follows_cr, in_range, shown, Seat, begins_with_lf, in_tab, other_byte, point, tab_width, virtual, virtual_from, drop-first, Follows, IsGood, Given, IsText, Text, empty_text, followed_by, followed_by_all, pushed, Point, AllByRecursion, filter, nat_lt, slice_index, ◌||◌, Bool, List, [], ap, arith, cond, drop, false, inl, inr, length, refl, subst, suc, sym, true, zero, ℕ, ◌&&◌, ◌++◌, ◌+◌, ◌-◌, ◌<◌, ◌==◌, ◌∙◌, ◌∷◌, ◌≡◌, ◌⊎◌, and_parts, cases_lt, eqb-true, nat_tests}
use Rattle.markdown_base.specs.Virtual.{line_feed}
use Rattle.markdown_tokenizer.specs.Text.{Piece, passed}

-- a seat: it begins in the document; a line ending is in no tab; and where it ends in a tab, the tab is
abbrev pub IsPlain : List ℕ → Seat → Type 0
IsPlain bytes s = (s.point.index < length bytes) × ((s.byte == 10) ≡ true → s.point.vs ≡ 0) × (0 < s.end.vs → slice_index bytes s.end.index ≡ 9)

module _ (t : ℕ) (bytes : List ℕ) where
  tab-plain : (byte n line column index vs : ℕ) → (byte == 10) ≡ false → index < length bytes → slice_index bytes index ≡ 9 → AllByRecursion (IsPlain bytes) (in_tab byte n line column index vs)
  tab-plain byte zero line column index vs other inside is = tt
  tab-plain byte (suc zero) line column index vs other inside is = ((inside, (λ e. absurd (let no : true ≡ false = sym e ∙ other in cc)), λ h. absurd (omega (arith, h))), tt)
  tab-plain byte (suc (suc n)) line column index vs other inside is =
      ((inside, (λ e. absurd (let no : true ≡ false = sym e ∙ other in cc)), λ h. is), tab-plain 32 (suc n) line (suc column) index (suc vs) refl inside is)

  all-plain : (bs : List ℕ) (line column index : ℕ) → drop index bytes ≡ bs → AllByRecursion (IsPlain bytes) (virtual_from t line column index bs)
  all-plain [] line column index at = tt
  all-plain (b ∷ bs) line column index at =
      let first = drop-first index bytes b bs at in
      let next : (l c : ℕ) → AllByRecursion (IsPlain bytes) (virtual_from t l c (suc index) bs) = λ l c. all-plain bs l c (suc index) first.2 in
      let ends : AllByRecursion (IsPlain bytes) (line_feed line column index ∷ virtual_from t (suc line) 1 (suc index) bs) = ((first.0, (λ e. refl), λ h. absurd (omega (arith, h))), next (suc line) 1) in
      elim (b == 10) as (λ x. (b == 10) ≡ x → AllByRecursion (IsPlain bytes) (cond x
      (line_feed line column index ∷ virtual_from t (suc line) 1 (suc index) bs)
      (cond (b == 13) (cond (begins_with_lf bs) (virtual_from t line column (suc index) bs) (line_feed line column index ∷ virtual_from t (suc line) 1 (suc index) bs))
      (cond (b == 9) (in_tab 9 (tab_width t column) line column index 0 ++ virtual_from t line (column + tab_width t column) (suc index) bs)
      (other_byte b line column index ∷ virtual_from t line (suc column) (suc index) bs))))) [
        | true ↦ λ e. ends
        | false ↦ λ other. elim (b == 13) as (λ x. AllByRecursion (IsPlain bytes) (cond x
            (cond (begins_with_lf bs) (virtual_from t line column (suc index) bs) (line_feed line column index ∷ virtual_from t (suc line) 1 (suc index) bs))
            (cond (b == 9) (in_tab 9 (tab_width t column) line column index 0 ++ virtual_from t line (column + tab_width t column) (suc index) bs)
            (other_byte b line column index ∷ virtual_from t line (suc column) (suc index) bs)))) [
              | true ↦ elim (begins_with_lf bs) as (λ x. AllByRecursion (IsPlain bytes) (cond x (virtual_from t line column (suc index) bs) (line_feed line column index ∷ virtual_from t (suc line) 1 (suc index) bs))) [
                | true ↦ next line column
                | false ↦ ends
              ]
              | false ↦ elim (b == 9) as (λ x. (b == 9) ≡ x → AllByRecursion (IsPlain bytes) (cond x (in_tab 9 (tab_width t column) line column index 0 ++ virtual_from t line (column + tab_width t column) (suc index) bs)
                  (other_byte b line column index ∷ virtual_from t line (suc column) (suc index) bs))) [
                    | true ↦ λ e.
                        every-append (IsPlain bytes) (in_tab 9 (tab_width t column) line column index 0) (virtual_from t line (column + tab_width t column) (suc index) bs)
                        (tab-plain 9 (tab_width t column) line column index 0 refl first.0 (first.1 ∙ eqb-true b 9 e)) (next line (column + tab_width t column))
                    | false ↦ λ e. ((first.0, (λ f. absurd (let no : true ≡ false = sym f ∙ other in cc)), λ h. absurd (omega (arith, h))), next line (suc column))
                  ] refl
            ]
      ] refl

-- what holds of all seats of the document holds of those of a text
module _ (g : Given) (P : Seat → Type 0) (all : AllByRecursion P (virtual g.tab g.bytes)) where
  pieces-all : (pieces : List Piece) (text : Text) → AllByRecursion P text.seats → AllByRecursion P (followed_by_all g text pieces).seats
  pieces-all [] text h = h
  pieces-all (pushed from to ∷ rest) text h =
      pieces-all rest (followed_by g text (pushed from to)) (every-append P text.seats (filter (in_range from to) (virtual g.tab g.bytes)) h (every-filter P (in_range from to) (virtual g.tab g.bytes) all))
  pieces-all (passed p ∷ rest) text h =
      pieces-all rest (followed_by g text (passed p))
      (elim (denotes_same g.tab g.bytes p text.end) as (λ (x : Bool). AllByRecursion P (cond x text (record text { end = p })).seats) [ true ↦ h | false ↦ h ])

  pub text-all : (text : Text) → IsText g text → AllByRecursion P text.seats
  text-all text is = subst (λ (t : Text). AllByRecursion P t.seats) (sym is.is) (pieces-all is.pieces (empty_text text.start) tt)

pub text-plain : (g : Given) (text : Text) → IsText g text → AllByRecursion (IsPlain g.bytes) text.seats
text-plain g text is = text-all g (IsPlain g.bytes) (all-plain g.tab g.bytes g.bytes 1 1 0 refl) text is

-- before a place that is in no tab: with a smaller index, or in a tab that ends there
begins-before : (i v j w : ℕ) → (nat_lt i j || ((i == j) && nat_lt v w)) ≡ true → (i < j) ⊎ ((i ≡ j) × (0 < w))
begins-before i v j w h = grind (arith, nat_tests)

ends-upto : (i w j : ℕ) → (nat_lt j i || ((j == i) && nat_lt 0 w)) ≡ false → (i < j) ⊎ ((i ≡ j) × (w ≡ 0))
ends-upto i w j h = grind (arith, nat_tests)

-- So a line ending is shown behind each byte before it
pub line-behind : (bytes : List ℕ) (s r : Seat) → IsGood bytes s → Follows s r → IsPlain bytes s → IsPlain bytes r → (r.byte == 10) ≡ true → s.point.index < (shown bytes r.point).index
line-behind bytes s r good follows plain line feed =
    let e = s.end in
    let i = r.point.index in
    let flat : r.point.vs ≡ 0 = line.1 feed in
    let upto : (nat_lt i e.index || ((i == e.index) && nat_lt 0 e.vs)) ≡ false = ap (λ v. nat_lt i e.index || ((i == e.index) && nat_lt v e.vs)) (sym flat) ∙ follows.1 in
    elim ((slice_index bytes i == 10) && follows_cr bytes i) as (λ t. ((slice_index bytes i == 10) && follows_cr bytes i) ≡ t
    → s.point.index < (cond t (record { line = r.point.line; column = r.point.column; index = i - 1; vs = r.point.vs }) r.point).index) [
      | true ↦ λ pair.
          let some : 0 < i = back-first bytes i (and_parts (slice_index bytes i == 10) (follows_cr bytes i) pair).1 in
          let cr : slice_index bytes (i - 1) ≡ 13 = behind-cr i (and_parts (slice_index bytes i == 10) (follows_cr bytes i) pair).1 in
          elim (ends-upto e.index e.vs i upto) [
            | inl less ↦ elim (begins-before s.point.index s.point.vs e.index e.vs good.0) [
              | inl early ↦ omega (arith, early, less)
              | inr (same, tab) ↦
                  let nine : slice_index bytes e.index ≡ 9 = plain.2 tab in
                  let apart : e.index ≡ i - 1 → ⊥ = λ at. (let moved : slice_index bytes (i - 1) ≡ 9 = ap (slice_index bytes) (sym at) ∙ nine in absurd (omega (arith, moved, cr))) in
                  under s.point.index e.index i same less apart
            ]
            | inr (at, w) ↦
                let moved : (shown bytes e).index ≡ i - 1 = ap (λ n. (cond ((slice_index bytes n == 10) && follows_cr bytes n) (record { line = e.line; column = e.column; index = n - 1; vs = e.vs }) (point e.line e.column n e.vs)).index) at
                ∙ ap (λ t. (cond t (point e.line e.column (i - 1) e.vs) (point e.line e.column i e.vs)).index) pair in
                let stays : (shown bytes e).index ≡ i = ap (λ (p : Point). p.index) good.1 ∙ at in
                absurd (omega (arith, moved, stays, some))
          ]
      | false ↦ λ pair. elim (ends-upto e.index e.vs i upto) [
        | inl less ↦ elim (begins-before s.point.index s.point.vs e.index e.vs good.0) [
          | inl early ↦ omega (arith, early, less)
          | inr (same, tab) ↦ omega (arith, same, less)
        ]
        | inr (at, w) ↦ elim (begins-before s.point.index s.point.vs e.index e.vs good.0) [
          | inl early ↦ omega (arith, early, at)
          | inr (same, tab) ↦ absurd (omega (arith, tab, w))
        ]
      ]
    ] refl
  where
    behind-cr : (i : ℕ) → follows_cr bytes i ≡ true → slice_index bytes (i - 1) ≡ 13
    behind-cr zero h = absurd (cc)
    behind-cr (suc i) h = let at : suc i - 1 ≡ i = omega arith in ap (slice_index bytes) at ∙ eqb-true (slice_index bytes i) 13 h

    under : (a b i : ℕ) → a ≡ b → b < i → (b ≡ i - 1 → ⊥) → a < i - 1
    under a b i same less apart = elim (cases_lt b (i - 1)) [
      | inl h ↦ omega (arith, h, same)
      | inr h ↦ absurd (apart (omega (arith, h, less)))
    ]
