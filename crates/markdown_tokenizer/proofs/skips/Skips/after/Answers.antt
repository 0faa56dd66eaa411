use Rattle.markdown_tokenizer.proofs.Prelude.{◌≡◌, ◌≢◌, ℕ, zero, suc, ◌<◌, ◌≤◌, ◌==◌, ltb, true, false, List, ◌∷◌, length, get_or, Option, refl, sym, ap, ◌∙◌, arith, rules, inl, inr, cases_lt, IsNonDecreasingBy, IsPartitionPoint, None, Some, ltb-true, ltb-false, IsPartitionPoint-from_clause, IsPartitionedBy-ltb, unwrap_or, Point, skip_of, AreSorted}
use Rattle.std.proofs.lemmas.List.Elements.{All-from_recursion}
use Rattle.std.proofs.lemmas.List.Recursion.{found_at, found_nowhere}
use Rattle.std.proofs.lemmas.Bool.{eq-eqb, ne_eqb}
use Rattle.markdown_tokenizer.proofs.skips.Skips.after.Goals as goal

IsNonDecreasingBy-lines : (xs : List Point) → AreSorted xs → IsNonDecreasingBy (λ (p : Point). p.line) xs
IsNonDecreasingBy-lines (x ∷ xs) h zero (suc j) d l m = omega (arith, All-from_recursion (λ (p : Point). x.line < p.line) xs h.0 j d (omega arith))
IsNonDecreasingBy-lines (x ∷ xs) h (suc i) (suc j) d l m = IsNonDecreasingBy-lines xs h.1 i j d (omega arith) (omega arith)
IsNonDecreasingBy-lines xs h i j d l m = omega arith

-- the places in earlier lines come before the others
module _ (xs : List Point) (line i : ℕ) (h : AreSorted xs) (parted : IsPartitionPoint (λ (p : Point). ltb p.line line ≡ true) (λ (p : Point). ltb p.line line ≡ false) xs i) where
  here : (d : Point) → i < length xs → (get_or xs i d).line ≡ line → skip_of xs line ≡ Some (get_or xs i d)
  here d inside is = found_at (λ ys. skip_of ys line) (λ (p : Point). p.line == line) Some None refl (λ x ys. refl) xs i d inside
      (λ k less. ne_eqb (get_or xs k d).line line (λ e. omega (arith, ltb-true (get_or xs k d).line line (parted.0 k d (omega arith) less)))) (eq-eqb (get_or xs i d).line line is)

  nowhere : (d : Point) → (i < length xs → (get_or xs i d).line ≢ line) → skip_of xs line ≡ None
  nowhere d other = found_nowhere (λ ys. skip_of ys line) (λ (p : Point). p.line == line) Some None refl (λ x ys. refl) xs d
      (λ k inside. ne_eqb (get_or xs k d).line line (λ e. elim (cases_lt k i) [
        | inl less ↦ omega (arith, ltb-true (get_or xs k d).line line (parted.0 k d (omega arith) less))
        | inr more ↦
            let first : i < length xs = omega arith in
            let upto = IsNonDecreasingBy-lines xs h i k d more inside in
            let from = ltb-false (get_or xs i d).line line (parted.1 i d (omega arith) first) in
            other first (omega arith)
      ]))

pub returns-in-None : goal.returns-in-None
returns-in-None c =
    let xs = c.self.inside.places.items in
    let line = c.args.place.now.line in
    let i = c.partition_point-at.result in
    let p = IsPartitionPoint-from_clause (λ (p : Point). ltb p.line line) c.deref.result.now i c.partition_point-at.ensures.partitioned (IsPartitionedBy-ltb (λ (p : Point). p.line) c.deref.result.now line (rw c.deref.ensures.value (IsNonDecreasingBy-lines xs c.self.invariant))) (λ a r q k. search rules) in
    let past : length xs ≤ i = rw c.deref-2.ensures.value at c.in-None.ensures.lookup.3 in
    sym (ap (λ ys. unwrap_or (skip_of ys line) c.args.place.now) (sym c.self.view_is)
    ∙ ap (λ (o : Option Point). unwrap_or o c.args.place.now) (nowhere xs line i c.self.invariant (rw c.deref.ensures.value at p) c.args.place.now (λ inside. absurd (omega arith))))

pub returns-then-skip-line : goal.returns-then-skip-line
returns-then-skip-line c =
    let xs = c.self.inside.places.items in
    let line = c.args.place.now.line in
    let i = c.partition_point-at.result in
    let p = IsPartitionPoint-from_clause (λ (p : Point). ltb p.line line) c.deref.result.now i c.partition_point-at.ensures.partitioned (IsPartitionedBy-ltb (λ (p : Point). p.line) c.deref.result.now line (rw c.deref.ensures.value (IsNonDecreasingBy-lines xs c.self.invariant))) (λ a r q k. search rules) in
    let inside : i < length xs = rw c.deref-2.ensures.value at c.in-Some.ensures.lookup.3.0 in
    let told : c.in-Some.skip.now ≡ get_or xs i c.in-Some.skip.now = rw c.deref-2.ensures.value at (c.in-Some.ensures.lookup.3.1 c.in-Some.skip.now) in
    sym (ap (λ ys. unwrap_or (skip_of ys line) c.args.place.now) (sym c.self.view_is)
    ∙ ap (λ (o : Option Point). unwrap_or o c.args.place.now) (here xs line i c.self.invariant (rw c.deref.ensures.value at p) c.in-Some.skip.now inside
    (ap (λ (q : Point). q.line) (sym told) ∙ c.if-skip-line.true))
    ∙ sym told)

pub returns-else-skip-line : goal.returns-else-skip-line
returns-else-skip-line c =
    let xs = c.self.inside.places.items in
    let line = c.args.place.now.line in
    let i = c.partition_point-at.result in
    let p = IsPartitionPoint-from_clause (λ (p : Point). ltb p.line line) c.deref.result.now i c.partition_point-at.ensures.partitioned (IsPartitionedBy-ltb (λ (p : Point). p.line) c.deref.result.now line (rw c.deref.ensures.value (IsNonDecreasingBy-lines xs c.self.invariant))) (λ a r q k. search rules) in
    let told : c.in-Some.skip.now ≡ get_or xs i c.in-Some.skip.now = rw c.deref-2.ensures.value at (c.in-Some.ensures.lookup.3.1 c.in-Some.skip.now) in
    sym (ap (λ ys. unwrap_or (skip_of ys line) c.args.place.now) (sym c.self.view_is)
    ∙ ap (λ (o : Option Point). unwrap_or o c.args.place.now) (nowhere xs line i c.self.invariant (rw c.deref.ensures.value at p) c.in-Some.skip.now
    (λ inside e. c.if-skip-line.false (ap (λ (q : Point). q.line) told ∙ e))))
