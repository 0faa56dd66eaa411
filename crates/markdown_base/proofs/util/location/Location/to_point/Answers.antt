use Rattle.markdown_base.proofs.Prelude.{rules, ◌≡◌, ◌≤◌, ◌<◌, suc, leb, true, false, arith, length, ◌-◌, subst, get_or_read, IsPartitionPoint, IsPartitionPoint-from_clause, IsPartitionedBy-leb}
use Rattle.markdown_base.proofs.LineLemmas.{Divides, some_line, starts_before, point_found}
use Rattle.markdown_base.proofs.util.location.Location.to_point.Goals as goal
use Rattle.markdown_base.proofs.util.location.Location.to_point.Goals.{After-partition_point-line}

-- the search returns the number of line starts that are not after the offset
divides : (c : After-partition_point-line) → IsPartitionPoint (λ y. leb y c.args.offset ≡ true) (λ y. leb y c.args.offset ≡ false) c.self.inside.starts.items c.partition_point-line.result
divides c =
    let found = rw c.deref.ensures.value at c.partition_point-line.ensures.partitioned in
    IsPartitionPoint-from_clause (λ y. leb y c.args.offset) c.self.inside.starts.items c.partition_point-line.result found
    (IsPartitionedBy-leb (λ y. y) c.self.inside.starts.items c.args.offset c.self.invariant.3) (λ a r q k. search rules)

pub overflow_sub-line : goal.overflow_sub-line
overflow_sub-line c = some_line c.self.inside.end c.args.offset c.self.inside.starts.items c.partition_point-line.result c.self.invariant (divides c)

pub overflow_sub-offset : goal.overflow_sub-offset
overflow_sub-offset c =
    let p = (goal.at.overflow_sub-offset c).After-partition_point-line in
    let n = c.partition_point-line.result in
    let xs = c.self.inside.starts.items in
    let least = some_line c.self.inside.end c.args.offset xs n c.self.invariant (divides p) in
    let within : n - 1 < length xs = omega (arith, rw c.deref.ensures.value at c.partition_point-line.ensures.bound) in
    let next : n ≡ suc (n - 1) = omega arith in
    omega (arith, (get_or_read xs (n - 1) _ within c.index.ensures 0), starts_before c.args.offset xs (n - 1) (subst (Divides c.args.offset xs) next (divides p)))

pub returns : goal.returns
returns c =
    let p = (goal.at.returns c).After-partition_point-line in
    let n = c.partition_point-line.result in
    let xs = c.self.inside.starts.items in
    let least = some_line c.self.inside.end c.args.offset xs n c.self.invariant (divides p) in
    let inside : n ≤ length xs = rw c.deref.ensures.value at c.partition_point-line.ensures.bound in
    let within : n - 1 < length xs = omega arith in
    let found = point_found c.self.inside.end c.args.offset xs n c.self.invariant c.if-offset-self.false inside (divides p) in
    record { point = rw (c.new.ensures, get_or_read xs (n - 1) _ within c.index.ensures 0, ← c.self.view_is) found }
