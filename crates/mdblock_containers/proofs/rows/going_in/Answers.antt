use Rattle.std.proofs.Common.{◌≡◌, ◌<◌, ◌≤◌, ◌+◌, ℕ, List, length, take, map, get_or, sym, ap, subst, ◌∙◌, arith}
use Rattle.std.proofs.lemmas.List.{get_or-take, length-take-le, take-map}
use Rattle.markdown_base.proofs.Common.{every-take}
use Rattle.mdblock_lines.specs.Containers.{Container}
use Rattle.mdblock_containers.specs.declared.going.Open.{Open}
use Rattle.mdblock_containers.specs.Costs.{HasSize, HaveSizes}
use Rattle.mdblock_containers.specs.Over.{AreBefore, AreOver}
use Rattle.mdblock_containers.specs.Prefixes.{going_on, columns_of}
use Rattle.mdblock_containers.specs.Views.{open_of}
use Rattle.mdblock_containers.proofs.OverLemmas.{front_over, over_front}
use Rattle.mdblock_containers.proofs.rows.going_in.Goals as goal

pub returns : goal.returns
returns g c =
    let front = c.first_of.ensures ∙ ap (take c.args.before.now.depth) c.as_slice.ensures.value in
    let same : map open_of c.first_of.result.now ≡ take c.args.before.now.depth (map open_of c.args.before.now.stack.items) = ap (map open_of) front ∙ sym (take-map open_of c.args.before.now.depth c.args.before.now.stack.items) in
    let size = ap length front ∙ length-take-le c.args.before.now.depth c.args.before.now.stack.items c.requires.depth in
    record {
      many = c.going_on.ensures.many ∙ ap (λ (l : List Container). length (going_on l c.args.number c.args.t.now)) same;
      columns = c.going_on.ensures.columns ∙ ap (λ (l : List Container). columns_of (going_on l c.args.number c.args.t.now)) same;
      few = omega (arith, c.going_on.ensures.few, size);
      within = c.going_on.ensures.within;
      over = λ before.
          let few : c.going_on.result.many ≤ c.args.before.now.depth = omega (arith, c.going_on.ensures.few, size) in
          let began : AreBefore c.args.number c.first_of.result.now = λ k d w.
          subst (λ (o : Open). o.container.line < c.args.number) (sym (ap (λ (l : List Open). get_or l k d) front ∙ get_or-take c.args.before.now.depth c.args.before.now.stack.items k d (omega (arith, w, size)))) (before k d (omega (arith, w, size, c.requires.depth))) in
          over_front (c.args.number + 1) c.going_on.result.over c.going_on.result.many c.args.before.now.depth c.args.before.now.stack.items c.first_of.result.now front few (c.going_on.ensures.over began);
      turns = c.going_on.ensures.turns;
      full = c.going_on.ensures.full;
    }

pub going_on-requires : goal.going_on-requires
going_on-requires g c =
    let front = c.first_of.ensures ∙ ap (take c.args.before.now.depth) c.as_slice.ensures.value in
    let size : length c.first_of.result.now ≡ c.args.before.now.depth = ap length front ∙ length-take-le c.args.before.now.depth c.args.before.now.stack.items c.requires.depth in
    record {
      over = subst (λ (n : ℕ). AreOver c.args.number c.args.before.now.over n c.first_of.result.now) (sym size) (front_over c.args.number c.args.before.now.over c.args.before.now.depth c.args.before.now.depth c.args.before.now.stack.items c.first_of.result.now front (omega arith) c.requires.over);
      sizes = subst HaveSizes (sym (ap (map open_of) front ∙ sym (take-map open_of c.args.before.now.depth c.args.before.now.stack.items))) (every-take HasSize c.args.before.now.depth (map open_of c.args.before.now.stack.items) c.requires.sizes);
    }
