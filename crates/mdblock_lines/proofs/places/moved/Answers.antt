use Rattle.std.proofs.Common.{◌<◌, ◌∙◌, ap, sym, subst, length, arith}
use Rattle.markdown_base.specs.declared.event.Point.{Point}
use Rattle.mdblock_lines.specs.Lines.{next_place}
use Rattle.mdblock_lines.proofs.PlaceLemmas.{place_more, place_next}
use Rattle.mdblock_lines.proofs.places.moved.Goals as goal

pub loop-n-preserved : goal.loop-n-preserved
loop-n-preserved g c =
    let i = c.loop-n.invariant in
    let next = place_next c.args.tab c.args.bytes.now c.loop-n.p i.first in
    let same = c.next_place-p.ensures ∙ ap (λ t. next_place t c.args.bytes.now c.loop-n.p) c.get-tab_size.ensures.columns in
    record {
      here = place_more c.args.tab c.args.bytes.now c.args.place c.loop-n.p c.next_place-p.result c.loop-n.n i.here same;
      first = subst (λ (q : Point). q.vs < q.column) (sym same) next.0;
      column = ap (λ (q : Point). q.column) same ∙ next.1 ∙ omega (arith, i.column);
      turns = omega (arith, i.turns, c.add_one.ensures);
    }

pub next_place-p-requires-clause-inside : goal.next_place-p-requires-clause-inside
next_place-p-requires-clause-inside g c = subst (λ (q : Point). q.index < length c.args.bytes.now) (sym c.loop-n.invariant.here) (c.requires.inside c.loop-n.n (omega arith))
