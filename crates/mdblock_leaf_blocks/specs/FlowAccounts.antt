-- Where the events of leaf blocks stand: no virtual byte is left out, and none is told twice.
use Rattle.std.specs.Prelude.{ℕ, List}
use Rattle.markdown_base.specs.declared.configuration.Constructs.{Constructs}
use Rattle.markdown_base.specs.Virtual.{Seat}
use Rattle.mdconstructs_machines.specs.Innermost.{AccountFor}
use Rattle.mdblock_leaf_blocks.specs.LeafEvents.{flow_events}

-- Each virtual byte is in exactly one innermost span of the events of leaf blocks
abbrev pub FlowAccounts : Type 0
FlowAccounts = (on : Constructs) (bytes : List ℕ) (seats : List Seat) → AccountFor (flow_events on bytes seats) bytes seats
