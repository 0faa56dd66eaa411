use Rattle.mddocument.proofs.Prelude.{List, ◌≡◌, ◌∙◌, ap, arith, subst, sym, ℕ, same_Some, Some, point_at, IsTabSize, Point, found-place, FollowFrom}
use Rattle.mddocument.proofs.RangeReads.{place, place-at}
use Rattle.mddocument.proofs.ranges.read_from.Goals as goal

pub unreachable-requires-in_default-point_at : goal.unreachable-requires-in_default-point_at
unreachable-requires-in_default-point_at c =
    let tab : IsTabSize c.args.options.now.tab_size = rw c.in-Some.ensures.options at c.in-Some.parse_state.tab_size in
    let least = tab.0 in
    c.in_default-point_at.not-Some _ (c.point_at.ensures ∙ place-at c.args.options.now.tab_size c.args.bytes.now (omega (arith, least)) c.args.start c.requires.inside)

pub new-tokenizer-requires : goal.new-tokenizer-requires
new-tokenizer-requires c = record {
  place = rw (c.in-Some.ensures.bytes, c.in-Some.ensures.options) (found-place c.args.options.now.tab_size c.args.bytes.now (c.args.start, 0) c.in-Some-point_at.place (sym c.point_at.ensures ∙ c.in-Some-point_at.is));
}

-- the place that is found is that of the index
same-place : (t : ℕ) (bytes : List ℕ) (start : ℕ) (p : Point) → point_at t bytes (start, 0) ≡ Some (place t bytes start) → point_at t bytes (start, 0) ≡ Some p → place t bytes start ≡ p
same-place t bytes start p there found = same_Some (place t bytes start) p (sym there ∙ found)

pub push_ranges-read-requires-clause-place : goal.push_ranges-read-requires-clause-place
push_ranges-read-requires-clause-place c =
    let t = c.args.options.now.tab_size in let bytes = c.args.bytes.now in let p = c.in-Some-point_at.place in
    let tab : IsTabSize t = rw c.in-Some.ensures.options at c.in-Some.parse_state.tab_size in
    let least = tab.0 in
    let there = place-at t bytes (omega (arith, least)) c.args.start c.requires.inside in
    let same = same-place t bytes c.args.start p there (sym c.point_at.ensures ∙ c.in-Some-point_at.is) in
    rw (c.in-Some.ensures.bytes, c.in-Some.ensures.options) (ap (λ (i : ℕ). point_at t bytes (i, 0)) (sym (ap (λ (q : Point). q.index) same)) ∙ there ∙ ap (λ (q : Point). Some q) same)

pub push_ranges-read-requires-clause-ranges : goal.push_ranges-read-requires-clause-ranges
push_ranges-read-requires-clause-ranges c =
    let t = c.args.options.now.tab_size in let bytes = c.args.bytes.now in let p = c.in-Some-point_at.place in
    let tab : IsTabSize t = rw c.in-Some.ensures.options at c.in-Some.parse_state.tab_size in
    let least = tab.0 in
    let there = place-at t bytes (omega (arith, least)) c.args.start c.requires.inside in
    let same = same-place t bytes c.args.start p there (sym c.point_at.ensures ∙ c.in-Some-point_at.is) in
    rw c.in-Some.ensures.bytes (subst (λ (i : ℕ). FollowFrom bytes i c.args.ranges.now) (ap (λ (q : Point). q.index) same) c.requires.ranges)
