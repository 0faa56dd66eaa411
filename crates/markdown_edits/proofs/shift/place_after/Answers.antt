use Rattle.markdown_edits.proofs.Prelude.{◌≡◌, ℕ, ◌+◌, ◌-◌, ◌<◌, ◌≤◌, ◌^◌, true, false, leb, List, length, get_or, Some, refl, sym, ap, ◌∙◌, arith, rules, IsPartitionPoint, leb-true, leb-false, lt-ltb, le-ltb, get_or_default, IsPartitionPoint-from_clause, IsPartitionedBy-leb, place_by, AreShifts, Shift}
use Rattle.markdown_edits.proofs.Edits.Shifts.{IsNonDecreasingBy-shifts, place_at, place_by-front, place_by-row, row_fits}
use Rattle.markdown_edits.proofs.shift.place_after.Goals as goal
use Rattle.markdown_edits.proofs.shift.place_after.Goals.{After-partition_point-begun}

-- the rows that begin at or before an index are before the others
abbrev IsParted : List Shift → ℕ → ℕ → Type 0
IsParted ss n i = IsPartitionPoint (λ (s : Shift). leb s.index n ≡ true) (λ (s : Shift). leb s.index n ≡ false) ss i

-- the last of them decides the new place of the index
behind : (ss : List Shift) (n i : ℕ) (d : Shift) → (i ≡ 0 → ⊥) → i ≤ length ss → AreShifts n 0 ss → IsParted ss n i → place_by ss 0 0 n ≡ place_at (get_or ss (i - 1) d) n
behind ss n i d some l h p =
    let s : Shift = get_or ss (i - 1) d in
    let inside : i - 1 < length ss = omega arith in
    let begins : s.index ≤ n = leb-true s.index n (p.0 (i - 1) d (omega arith) (omega arith)) in
    place_by-row ss (i - 1) 0 0 n 0 s h inside (get_or_default ss (i - 1) d s inside) begins
    (λ e m. leb-false (get_or ss (i - 1 + 1) e).index n (p.1 (i - 1 + 1) e (omega arith) m))

-- the search returns the number of rows that begin at or before the index
parted : (c : After-partition_point-begun) → IsParted c.args.shifts.now c.args.index c.partition_point-begun.result
parted c = IsPartitionPoint-from_clause (λ (s : Shift). leb s.index c.args.index) c.args.shifts.now c.partition_point-begun.result c.partition_point-begun.ensures.partitioned
    (IsPartitionedBy-leb (λ s. s.index) c.args.shifts.now c.args.index (IsNonDecreasingBy-shifts c.args.shifts.now c.args.index 0 c.requires)) (λ a r q k. search rules)

pub returns-then-begun-eq0 : goal.returns-then-begun-eq0
returns-then-begun-eq0 c =
    let n = c.args.index in
    let p = parted (goal.at.returns-then-begun-eq0 c).After-partition_point-begun in
    let same : n - 0 + 0 ≡ n = omega arith in
    sym (place_by-front c.args.shifts.now 0 0 n (λ d l. leb-false (get_or c.args.shifts.now 0 d).index n (p.1 0 d (omega arith) l)) ∙ ap Some same)

abbrev no_shift : Shift
no_shift = record { index = 0; end = 0; removed = 0; added = 0 }

-- its sums fit
fits : (ss : List Shift) (n i : ℕ) → (i ≡ 0 → ⊥) → i ≤ length ss → AreShifts n 0 ss → ((get_or ss (i - 1) no_shift).removed ≤ (get_or ss (i - 1) no_shift).end) × (n + (get_or ss (i - 1) no_shift).added < 2 ^ 64)
fits ss n i some l h =
    let inside : i - 1 < length ss = omega arith in
    row_fits ss (i - 1) n 0 (get_or ss (i - 1) no_shift) h inside (get_or_default ss (i - 1) no_shift (get_or ss (i - 1) no_shift) inside)

pub overflow_sub-result : goal.overflow_sub-result
overflow_sub-result c = omega (arith, (fits c.args.shifts.now c.args.index c.partition_point-begun.result c.if-begun-eq0.false c.partition_point-begun.ensures.bound c.requires).0, c.if-index-last.false)

pub overflow_add-result : goal.overflow_add-result
overflow_add-result c = omega (arith, (fits c.args.shifts.now c.args.index c.partition_point-begun.result c.if-begun-eq0.false c.partition_point-begun.ensures.bound c.requires).1)

pub returns-then-index-last : goal.returns-then-index-last
returns-then-index-last c =
    let place = behind c.args.shifts.now c.args.index c.partition_point-begun.result no_shift c.if-begun-eq0.false c.partition_point-begun.ensures.bound c.requires (parted (goal.at.returns-then-index-last c).After-partition_point-begun) in
    rw (place, lt-ltb _ _ c.if-index-last.true) refl

pub returns-else-index-last : goal.returns-else-index-last
returns-else-index-last c =
    let place = behind c.args.shifts.now c.args.index c.partition_point-begun.result no_shift c.if-begun-eq0.false c.partition_point-begun.ensures.bound c.requires (parted (goal.at.returns-else-index-last c).After-partition_point-begun) in
    rw (place, le-ltb _ _ c.if-index-last.false) refl
