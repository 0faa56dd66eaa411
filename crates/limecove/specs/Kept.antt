-- What a box that is kept as its pointer owns.
use base.Fml.{Fml, ftrue}
use base.Stored.{Coded}
use denote.RattleType.{RattleType}
use denote.RawPtr.{Ptr}
use Rattle.std.specs.Prelude.{Option, Some, None}
use Rattle.std.specs.Box.Ownership.{box_owns}
use Rattle.std.specs.declared.vec.Vec.{Vec}
use Rattle.std.specs.contracts.vec.Vec as vec
use Rattle.std.specs.Global.{Global}
use Rattle.std.specs.contracts.alloc.Global as heap
use Rattle.std.specs.contracts.impls.GlobalAllocator.TheImpl.{ghosts}
use Rattle.markdown.specs.declared.event.Event.{Event}
use Rattle.markdown.specs.contracts.event.Event as event

-- a list of events, as a type
abbrev pub list_row : RattleType
list_row = vec.the_row event.the_row heap.the_row ghosts

abbrev pub list_code : Coded (Vec Event Global)
list_code = list_row.coded

-- the allocator of the program
abbrev pub global : Global
global = record { memory = record { seal = tt } }

-- the value of a box and its block at a pointer, or nothing
abbrev pub kept_owns : (R : RattleType) → Ptr → Option R.Denot → Fml
kept_owns R p None = ftrue
kept_owns R p (Some x) = box_owns (ghosts.dealloc_token global) R p x
