-- What the test says that a tokenizer can be moved.
use Rattle.markdown_tokenizer.proofs.Prelude.{◌≡◌, ◌+◌, ◌*◌, ◌≤◌, ◌<◌, ◌==◌, ◌&&◌, ◌∙◌, ℕ, suc, List, length, Bool, true, false, not, cond, refl, sym, ap, arith, subst, take, slice_index, inl, inr, cases_lt, and_parts, false_from_ne_true, nat_lt, nat_tests, lt-ltb, mul-le-mul_right, Point, follows_cr, IsShown, ParseOptions, IsDocument, Inside, begins_pair, seen, IsSound, given_by}
use Rattle.std.specs.Prelude.{◌^◌}
use Rattle.std.proofs.lemmas.List.{get_or_past}
use Rattle.markdown_tokenizer.specs.Alike.{CanMove, bytes_up_to, is_at_cr_lf}
use Rattle.markdown_tokenizer.proofs.Inside.Fields.{bytes_within, end_within, tab_within, wide_of}
use Rattle.markdown_tokenizer.proofs.Inside.Steps.{end-place-in}
use Rattle.markdown_tokenizer.proofs.Positions.Points.{point_at-is}
use Rattle.markdown_tokenizer.proofs.Positions.Prefixes.{whole-test}

-- no CR LF is cut at an index
abbrev CutsNone : List ℕ → ℕ → Type 0
CutsNone bytes i = ((slice_index bytes i == 10) && follows_cr bytes i) ≡ false

-- a test that fails shows a place at itself
test-whole : (bytes : List ℕ) (p : Point) → ((slice_index bytes p.index == 10) && follows_cr bytes p.index) ≡ false → IsShown bytes p
test-whole bytes p e = rw e refl

-- a CR LF begins at a place exactly if one begins at its index
pair-there : (bytes : List ℕ) (p : Point) → begins_pair bytes p.index ≡ false → is_at_cr_lf bytes p ≡ false
pair-there bytes p e = false_from_ne_true (is_at_cr_lf bytes p) (λ both.
    let parts = and_parts (slice_index bytes p.index == 13) (slice_index bytes (p.index + 1) == 10) both in
    elim (cases_lt (p.index + 1) (length bytes)) [
      | inl less ↦ (let in_it = lt-ltb (p.index + 1) (length bytes) less in let no : true ≡ false = sym (ap (λ (w : Bool). w && ((slice_index bytes p.index == 13) && (slice_index bytes (p.index + 1) == 10))) in_it ∙ both) ∙ e in cc)
      | inr past ↦ (let none = get_or_past bytes (p.index + 1) 0 past in let no : (0 == 10) ≡ true = ap (λ (b : ℕ). b == 10) (sym none) ∙ parts.1 in cc)
    ])

there-pair : (bytes : List ℕ) (p : Point) → is_at_cr_lf bytes p ≡ false → begins_pair bytes p.index ≡ false
there-pair bytes p e = ap (λ (w : Bool). nat_lt (p.index + 1) (length bytes) && w) e ∙ (elim (nat_lt (p.index + 1) (length bytes)) as (λ b. (b && false) ≡ false) [ true ↦ refl | false ↦ refl ])

-- four tests, the last three of which fail
all-tests : (a b c d : Bool) → (((a && not b) && not c) && not d) ≡ true → (a ≡ true) × (b ≡ false) × (c ≡ false) × (d ≡ false)
all-tests true false false false e = (refl, refl, refl, refl)
all-tests false b c d e = absurd (cc)
all-tests true true c d e = absurd (cc)
all-tests true false true d e = absurd (cc)
all-tests true false false true e = absurd (cc)

module _ {M R D : Type 0} {same : R → R → Bool} (t : Inside M R D) (sound : IsSound same t) where
  end-index : ((end_within t).index ≡ t.end.0) × ((end_within t).vs ≡ t.end.1)
  end-index = let at = point_at-is (tab_within t) (bytes_within t) t.end (end_within t) sound.placed.end_at in (at.index, at.vs)

  needs-is : bytes_up_to (end_within t) ≡ cond (t.end.1 == 0) t.end.0 (suc t.end.0)
  needs-is = let index = end-index.0 in let vs = end-index.1 in rw (index, vs) refl

  -- the document has the bytes that the text's end needs
  pub needs-inside : cond (t.end.1 == 0) t.end.0 (suc t.end.0) ≤ length (bytes_within t)
  needs-inside =
      let bounds = (end-place-in t sound).bounds in let index = end-index.0 in let vs = end-index.1 in
      elim (t.end.1 == 0) as (λ b. (t.end.1 == 0) ≡ b → cond b t.end.0 (suc t.end.0) ≤ length (bytes_within t)) [
        | true ↦ λ e. omega (arith, bounds.inside, index)
        | false ↦ λ e. (let some : 0 < (end_within t).vs = (let v = vs in grind (arith, nat_tests)) in omega (arith, bounds.tab some, index))
      ] refl

  -- the index has a next one
  pub end-fits : t.end.0 + 1 < 2 ^ 64
  end-fits =
      let bounds = (end-place-in t sound).bounds in let index = end-index.0 in let limit = sound.placed.text.document.limit in
      let each : 1 * length (bytes_within t) ≤ tab_within t * length (bytes_within t) = mul-le-mul_right (length (bytes_within t)) (omega (arith, wide_of t sound)) in
      omega (arith, bounds.inside, index, limit, each)

  module _ (other : List ℕ) (options : ParseOptions) (same-options : options ≡ t.parse_state.now.options.now) (possible : IsDocument (given_by other options)) (result a b c d : Bool)
      (is : result ≡ (((a && not b) && not c) && not d)) (alike : (a ≡ true → take (cond (t.end.1 == 0) t.end.0 (suc t.end.0)) (bytes_within t) ≡ take (cond (t.end.1 == 0) t.end.0 (suc t.end.0)) other)
      × (take (cond (t.end.1 == 0) t.end.0 (suc t.end.0)) (bytes_within t) ≡ take (cond (t.end.1 == 0) t.end.0 (suc t.end.0)) other → a ≡ true))
      (here : b ≡ ((slice_index (bytes_within t) t.end.0 == 10) && follows_cr (bytes_within t) t.end.0)) (there : c ≡ ((slice_index other t.end.0 == 10) && follows_cr other t.end.0))
      (pair : d ≡ begins_pair (bytes_within t) t.end.0) where
    pub moves-if : result ≡ true → CanMove (seen t).given (given_by other options) (end_within t)
    moves-if e =
        let all = all-tests a b c d (sym is ∙ e) in let index = end-index.0 in let needs = needs-is in record {
          alike = record {
            options = sym same-options;
            bytes = subst (λ (n : ℕ). take n (bytes_within t) ≡ take n other) (sym needs) (alike.0 all.0);
            whole = (test-whole (bytes_within t) (end_within t) (subst (CutsNone (bytes_within t)) (sym index) (sym here ∙ all.1)), test-whole other (end_within t) (subst (CutsNone other) (sym index) (sym there ∙ all.2)));
            possible = possible;
          };
          apart = pair-there (bytes_within t) (end_within t) (subst (λ (i : ℕ). begins_pair (bytes_within t) i ≡ false) (sym index) (sym pair ∙ all.3));
        }

    pub moves-then : CanMove (seen t).given (given_by other options) (end_within t) → result ≡ true
    moves-then m =
        let index = end-index.0 in let needs = needs-is in
        let bytes : take (cond (t.end.1 == 0) t.end.0 (suc t.end.0)) (bytes_within t) ≡ take (cond (t.end.1 == 0) t.end.0 (suc t.end.0)) other = subst (λ (n : ℕ). take n (bytes_within t) ≡ take n other) needs m.alike.bytes in
        let first = alike.1 bytes in
        let second : b ≡ false = here ∙ subst (CutsNone (bytes_within t)) index (whole-test (bytes_within t) (end_within t) m.alike.whole.0) in
        let third : c ≡ false = there ∙ subst (CutsNone other) index (whole-test other (end_within t) m.alike.whole.1) in
        let fourth : d ≡ false = pair ∙ subst (λ (i : ℕ). begins_pair (bytes_within t) i ≡ false) index (there-pair (bytes_within t) (end_within t) m.apart) in
        rw (is, first, second, third, fourth) refl
