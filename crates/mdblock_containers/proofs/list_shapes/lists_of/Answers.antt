use Rattle.std.proofs.Common.{◌≡◌, suc, ◌+◌, ◌-◌, ◌<◌, length, drop, get_or, List, ◌∷◌, sym, ap, ◌∙◌, subst, arith}
use Rattle.std.specs.Prelude.{reverse}
use Rattle.std.proofs.lemmas.List.{drop_more}
use Rattle.markdown_base.proofs.SliceLemmas.{filler}
use Rattle.mdblock_containers.specs.declared.list_shapes.Seen.{Seen}
use Rattle.mdblock_containers.specs.ListSeen.{AreSeen, all_seen, top_of}
use Rattle.mdblock_containers.specs.ListShapes.{shapes_from}
use Rattle.mdblock_containers.proofs.ListSeenLemmas.{seen_same, seen_step, seen_top, shapes_step}
use Rattle.mdblock_containers.proofs.list_shapes.lists_of.Goals as goal

pub loop-at-preserved : goal.loop-at-preserved
loop-at-preserved c =
    let bytes = c.args.bytes.now in
    let events = c.args.events.now in
    let at = c.loop-at.at - 1 in
    let e = get_or events at filler in
    let es = drop (at + 1) events in
    let ss = all_seen c.loop-at.stack in
    let inside : at < length events = omega arith in
    let first = drop_more events at filler inside in
    let same : at + 1 ≡ c.loop-at.at = omega arith in
    let next : suc at ≡ c.loop-at.at = omega arith in
    let seen = subst (λ n. AreSeen ss 0 (drop n events)) (sym same) c.loop-at.invariant.stack in
    record {
      lists =
          ap (shapes_from bytes at) first
          ∙ shapes_step e es bytes events at (top_of ss) (reverse c.loop-at.lists.items) first (seen_top ss 0 es seen)
          (ap (λ n. shapes_from bytes n es) next ∙ ap (λ n. shapes_from bytes c.loop-at.at (drop n events)) same ∙ c.loop-at.invariant.lists)
          ∙ sym c.in_ok-meet.ensures.lists;
      stack = seen_same _ _ _ first (subst (λ (l : List Seen). AreSeen l 0 (e ∷ es)) (sym c.in_ok-meet.ensures.stack) (seen_step e es ss seen));
      room = omega arith;
    }
