use Rattle.mddocument_editing.proofs.Prelude.{◌+◌, length, take, drop, subst, sym, part_events, every-drop, every-take, AreReread, IsRead, knows}
use Rattle.mddocument_editing.proofs.Rereads.{none-again}
use Rattle.mddocument_editing.proofs.put.tell_same.Goals as goal

pub tell_other-requires-clause-front : goal.tell_other-requires-clause-front
tell_other-requires-clause-front c =
    let kept = c.args.kept.now in
    let defined = knows kept.known in
    let front = take c.args.from kept.sections.items in
    subst (AreReread (part_events kept.options defined) 0 front) (sym c.new.ensures.items) (none-again kept.options defined 0 front (every-take (IsRead kept.options defined) c.args.from kept.sections.items c.requires.kept))

pub tell_other-requires-clause-behind : goal.tell_other-requires-clause-behind
tell_other-requires-clause-behind c =
    let kept = c.args.kept.now in
    let defined = knows kept.known in
    let behind = drop c.args.end kept.sections.items in
    let first = c.args.from + length c.args.read.now in
    subst (AreReread (part_events kept.options defined) first behind) (sym c.new-2.ensures.items) (none-again kept.options defined first behind (every-drop (IsRead kept.options defined) c.args.end kept.sections.items c.requires.kept))
