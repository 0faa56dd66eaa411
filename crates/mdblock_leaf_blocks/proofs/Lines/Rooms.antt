-- Counts have room for each virtual byte of a document.
use Rattle.markdown_base.proofs.SeatCounts.{virtual-length}
use Rattle.mdblock_leaf_blocks.proofs.Prelude.{◌+◌, ◌-◌, ◌*◌, ◌^◌, ◌<◌, ◌≤◌, length, arith, virtual, Given, IsDocument}

pub has-room : (g : Given) → IsDocument g → length (virtual g.tab g.bytes) < 2 ^ 64 - 1
has-room g is =
    let all : length (virtual g.tab g.bytes) ≤ g.tab * length g.bytes = virtual-length g.tab is.tab.0 g.bytes 1 1 0 in
    let limit : g.tab * length g.bytes + 1 < 2 ^ 64 = is.limit in
    omega (arith, all, limit)
