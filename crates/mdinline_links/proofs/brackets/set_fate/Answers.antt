use Rattle.std.proofs.Common.{◌<◌, ◌≤◌, length, rules}
use Rattle.mdinline_links.proofs.Places.{fate-past, fate-set}
use Rattle.mdinline_links.proofs.brackets.set_fate.Goals as goal

pub returns-then-index-len : goal.returns-then-index-len
returns-then-index-len c =
    let inside : c.args.index < length c.args.pieces.now.items = search rules in
    fate-set c.args.pieces.now.items c.args.index c.index_mut.result.now c.args.fate inside c.index_mut.ensures.value

pub returns-else-index-len : goal.returns-else-index-len
returns-else-index-len c =
    let past : length c.args.pieces.now.items ≤ c.args.index = search rules in
    fate-past c.args.pieces.now.items c.args.index c.args.fate past
