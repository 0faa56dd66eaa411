use Rattle.std.proofs.Common.{◌<◌, length, sym, ◌∙◌, arith}
use Rattle.std.specs.Prelude.{reverse}
use Rattle.mdblock_containers.specs.ListSeen.{all_seen, known_from}
use Rattle.mdblock_containers.proofs.ListSeenLemmas.{before_enter, before_exit, none_first, none_more, some_seen}
use Rattle.mdblock_containers.proofs.list_shapes.before_quiet.Goals as goal

pub returns-in-Exit : goal.returns-in-Exit
returns-in-Exit c =
    let stack = c.args.stack.now in
    let known = known_from (reverse stack.known.items) in
    let some : 0 < length stack.known.items = omega arith in
    let seen = some_seen stack.inside stack.known.items some in
    none_more stack.inside known ∙ sym (before_exit c.args.event.now c.requires (all_seen stack) (omega (arith, seen)) c.in-Exit.is)

pub returns-in-Enter : goal.returns-in-Enter
returns-in-Enter c =
    let stack = c.args.stack.now in
    let known = known_from (reverse stack.known.items) in
    let some : 0 < length stack.known.items = omega arith in
    let seen = some_seen stack.inside stack.known.items some in
    (none_first stack.inside known (omega arith)).1 ∙ sym (before_enter c.args.event.now c.requires (all_seen stack) (omega (arith, seen)) c.in-Enter.is)
