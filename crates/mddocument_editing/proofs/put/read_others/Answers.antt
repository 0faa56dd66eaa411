use Rattle.mddocument_editing.proofs.Prelude.{◌≡◌, ◌+◌, ◌-◌, length, take, drop, subst, sym, arith, length-drop, take_all, AllByRecursion, every-drop, every-take, part_events, AreReread, IsReadDocument, knows}
use Rattle.mddocument_editing.proofs.put.read_others.Goals as goal

pub read_side-requires-clause-read : goal.read_side-requires-clause-read
read_side-requires-clause-read c =
    let kept = c.args.kept.now in
    let P = IsReadDocument kept.options (knows kept.known) in
    every-take P c.args.from c.as_slice-sections.result.now (subst (AllByRecursion P) (sym c.as_slice-sections.ensures.value) c.requires.kept)

pub read_side-requires-2-clause-read : goal.read_side-requires-2-clause-read
read_side-requires-2-clause-read c =
    let kept = c.args.kept.now in
    let P = IsReadDocument kept.options (knows kept.known) in
    let xs = c.as_slice-sections.result.now in
    every-take P (length xs - c.args.end) (drop c.args.end xs) (every-drop P c.args.end xs (subst (AllByRecursion P) (sym c.as_slice-sections.ensures.value) c.requires.kept))

pub returns-clause-front : goal.returns-clause-front
returns-clause-front c =
    let kept = c.args.kept.now in
    subst (λ ss. AreReread (part_events kept.options (knows c.args.known.now)) 0 (take c.args.from ss) c.in_ok-front.front.items) c.as_slice-sections.ensures.value c.in_ok-front.ensures.others

pub returns-clause-behind : goal.returns-clause-behind
returns-clause-behind c =
    let kept = c.args.kept.now in
    let read_by = part_events kept.options (knows c.args.known.now) in
    let xs = kept.sections.items in
    let end = c.args.end in
    let new_to = c.args.from + length c.args.read.now in
    let rest : take (length xs - end) (drop end xs) ≡ drop end xs = take_all (length xs - end) (drop end xs) (omega (arith, length-drop end xs)) in
    subst (λ ys. AreReread read_by new_to ys c.in_ok-behind.behind.items) rest
    (subst (λ ss. AreReread read_by new_to (take (length ss - end) (drop end ss)) c.in_ok-behind.behind.items) c.as_slice-sections.ensures.value c.in_ok-behind.ensures.others)
