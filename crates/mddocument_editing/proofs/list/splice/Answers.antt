use Rattle.std.proofs.Common.{◌≡◌, ◌≤◌, ◌⊎◌, ◌+◌, ◌*◌, ◌-◌, ◌/◌, get_or, length, subst, ap, ◌∙◌, arith, inl, inr, length-take-le}
use Rattle.mddocument_editing.specs.Listed.{AreSums, block}
use Rattle.mddocument_editing.proofs.ListSums.{blocks-spliced, length-spliced}
use Rattle.mddocument_editing.proofs.list.splice.Goals as goal
use Rattle.mddocument_editing.proofs.list.splice.Goals.{After-as_slice}

-- how many sections there are then
now-many : (c : After-as_slice) → length c.splice_sections.new.sections.items ≡ c.len.result - (c.args.end - c.args.from) + c.len-many.result
now-many c =
    let xs = c.args.sections.now.items in
    let size = length-spliced xs c.args.read.items c.splice_sections.new.sections.items c.args.from c.args.end c.requires.order c.requires.within c.in_default.ensures.items in
    omega (arith, size, c.len.ensures, c.args.sections.now.ok.0, c.len-many.ensures, c.args.read.ok.0)

-- and how many blocks
now-blocks : (c : After-as_slice) → length c.truncate-2.new.self.items ≡ c.block_count-count.result
now-blocks c =
    let room : c.block_count-count.result ≤ length c.resize.new.self.items = omega (arith, c.in_ok-resize.ensures.len, c.resize.new.self.ok.0, c.max.ensures) in
    ap length c.truncate-2.ensures.items ∙ length-take-le c.block_count-count.result c.resize.new.self.items room

pub sum_again-requires-clause-few : goal.sum_again-requires-clause-few
sum_again-requires-clause-few c =
    let at = (goal.at.sum_again-requires-clause-few c).After-as_slice in
    omega (arith, now-many at, now-blocks at, c.block_count-count.ensures.few, ap length c.as_slice.ensures.value)

pub sum_again-requires-clause-order : goal.sum_again-requires-clause-order
sum_again-requires-clause-order c =
    let at = (goal.at.sum_again-requires-clause-order c).After-as_slice in
    let last = c.changed_to-to.ensures.all in
    elim last [ inl e ↦ omega (arith, e, now-many at, c.block_count-count.ensures.all, c.requires.order, c.requires.within, c.len.ensures, c.args.sections.now.ok.0) | inr s ↦ omega (arith, s.1, c.requires.order) ]

pub returns-clause-blocks : goal.returns-clause-blocks
returns-clause-blocks c =
    let at = (goal.at.returns-clause-blocks c).After-as_slice in
    let xs = c.args.sections.now.items in
    let ys = c.splice_sections.new.sections.items in
    let from = c.args.from in
    let end = c.args.end in
    let first = from / 256 in
    let to = c.changed_to-to.result in
    let count = c.block_count-count.result in
    let many : c.len-many.result ≡ length c.args.read.items = c.len-many.ensures ∙ c.args.read.ok.0 in
    blocks-spliced xs c.args.read.items ys from end c.requires.order c.requires.within c.in_default.ensures.items c.args.blocks.now.items c.truncate-2.new.self.items c.sum_again.new.blocks.items first to count
    c.requires.blocks (λ k d lt there. c.truncate-2.ensures.by_index k d lt ∙ c.resize.ensures.by_index.0 k d (omega (arith, lt, c.max.ensures)) (omega (arith, there, c.args.blocks.now.ok.0)))
    (omega arith) (c.sum_again.ensures.len ∙ now-blocks at) (omega (arith, now-many at, c.block_count-count.ensures.all)) (omega (arith, now-many at, c.block_count-count.ensures.few))
    (λ k d le lt. subst (λ l. AreSums (block k l) (get_or c.sum_again.new.blocks.items k d)) c.as_slice.ensures.value (c.sum_again.ensures.each k d le lt))
    c.sum_again.ensures.same (subst (λ n. (to ≡ count) ⊎ ((from + n ≡ end) × (end ≤ 256 * to))) many c.changed_to-to.ensures.all)
