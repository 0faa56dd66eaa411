-- What a tokenizer becomes after a `&mut` to its events is returned.
use Rattle.std.specs.Borrow.{RattleType, Lends, Fml, MutBor}
use Rattle.std.specs.Prelude.{[]}
use Rattle.std.specs.Global.{Vec}
use Rattle.std.specs.declared.cmp.PartialEq.{Ghosts}
use Rattle.std.specs.contracts.alloc.Global as global
use Rattle.std.specs.contracts.vec.Vec as vec
use Rattle.std.specs.contracts.impls.GlobalAllocator.TheImpl.{ghosts}
use mir.Syntax.{named}
use Rattle.markdown_base.specs.declared.event.Event.{Event}
use Rattle.markdown_base.specs.contracts.event.Event as event
use Rattle.markdown_tokenizer.specs.contracts.tokenizer.Tokenizer.{the_row}
use Rattle.markdown_tokenizer.specs.Configuration.{TokenizerValue, at_configuration}
use Rattle.markdown_tokenizer.specs.Calls.{with_events}

-- a list of events, as the logic holds it
abbrev pub events_row : RattleType
events_row = vec.the_row event.the_row global.the_row ghosts

-- once the borrow r ends, the tokenizer has the events last written through r, and is otherwise as it was; r has the second lifetime of the
-- signature
abbrev pub LendsEvents : (M R D : RattleType) (same : Ghosts R.Denot) → MutBor (TokenizerValue M.Denot R.Denot D.Denot)
    → MutBor (Vec Event) → Fml
LendsEvents M R D same t r = Lends (the_row (record { mir = named 1; lft = [] }) M R D same) events_row t r (λ w. at_configuration t.now (with_events t.now.configuration w.items))
