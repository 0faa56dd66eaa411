use Rattle.std.proofs.Common.{◌+◌, ◌-◌, ℕ, List, drop, get_or, take, refl, sym, ap, ◌∙◌, subst, arith}
use Rattle.std.specs.Prelude.{None}
use Rattle.mdinline_labels.specs.declared.definitions.Definition.{Definition}
use Rattle.mdinline_labels.proofs.Fronts.{tail}
use Rattle.mdblock_definitions.specs.Labelled.{IsInText}
use Rattle.mdblock_definitions.proofs.DefinitionsWithin.{defined-more, next-definition}
use Rattle.mdblock_definitions.proofs.skeleton.define_labels.Goals as goal

abbrev empty : Definition
empty = record { label = record { from = 0; size = 0 }; destination = record { from = 0; size = 0 }; title = None; size = 0 }

pub loop-definition-init : goal.loop-definition-init
loop-definition-init g c = record { within = omega arith; turns = omega arith; left = c.requires; labels = λ label. refl }

pub slice_bounds-written_label-count : goal.slice_bounds-written_label-count
slice_bounds-written_label-count g c =
    let next = next-definition c.args.text.now c.args.defined.now c.loop-definition.definition-index c.loop-definition.next empty c.loop-definition-test.true c.loop-definition.invariant.left in
    omega (arith, next.more)

pub slice_bounds-written_label-start : goal.slice_bounds-written_label-start
slice_bounds-written_label-start g c =
    let next = next-definition c.args.text.now c.args.defined.now c.loop-definition.definition-index c.loop-definition.next empty c.loop-definition-test.true c.loop-definition.invariant.left in
    omega (arith, next.more)

pub written_label-requires : goal.written_label-requires
written_label-requires g c =
    let text = c.args.text.now in
    let from = c.loop-definition.next in
    let next = next-definition text c.args.defined.now c.loop-definition.definition-index from empty c.loop-definition-test.true c.loop-definition.invariant.left in
    subst (λ (l : List ℕ). IsInText l (get_or c.args.defined.now c.loop-definition.definition-index empty)) (sym (tail from text)) next.inside

pub overflow_add-next : goal.overflow_add-next
overflow_add-next g c =
    let next = next-definition c.args.text.now c.args.defined.now c.loop-definition.definition-index c.loop-definition.next empty c.loop-definition-test.true c.loop-definition.invariant.left in
    omega (arith, next.most)

pub overflow_add-next-in-loop-definition : goal.overflow_add-next-in-loop-definition
overflow_add-next-in-loop-definition g c =
    let next = next-definition c.args.text.now c.args.defined.now c.loop-definition.definition-index c.loop-definition.next empty c.loop-definition-test.true c.loop-definition.invariant.left in
    omega (arith, next.most)

pub loop-definition-preserved : goal.loop-definition-preserved
loop-definition-preserved g c =
    let text = c.args.text.now in
    let all = c.args.defined.now in
    let i = c.loop-definition.definition-index in
    let from = c.loop-definition.next in
    let d = get_or all i empty in
    let next = next-definition text all i from empty c.loop-definition-test.true c.loop-definition.invariant.left in
    record {
      within = next.most;
      turns = omega (arith, c.loop-definition.invariant.turns, c.add_one.ensures);
      left = next.left;
      labels = λ label.
          defined-more text all i from d c.loop-definition.labels c.define.new.self c.written_label.result.now _ label next
          (c.written_label.ensures ∙ ap (λ (l : List ℕ). take (d.label.size - 2) (drop (d.label.from + 1) l)) (tail from text)) (c.in_ok-define.ensures.defined label) (c.loop-definition.invariant.labels label);
    }
