-- How a machine reads on, in small steps: to come to an ending it is enough to come to it from further on. An ending says which events there
-- are, and how many calls were counted at most.
use Rattle.std.proofs.Common.{◌≡◌, ℕ, ◌-◌, ◌^◌, ◌≤◌, [], List, Bool, refl, drop, arith}
use Rattle.markdown_base.specs.declared.event.Event.{Event}
use Rattle.markdown_base.specs.declared.event.Name.{Name as EventName}
use Rattle.markdown_base.specs.declared.state.Name.{Name}
use Rattle.markdown_base.specs.declared.state.State.{State}
use Rattle.markdown_base.specs.declared.state.State.TheVariants.{Next, Retry, Ok}
use Rattle.markdown_base.specs.Virtual.{Seat}
use Rattle.markdown_tokenizer.specs.declared.waiting.Waits.TheVariants.{Nothing}
use Rattle.markdown_tokenizer.specs.Configuration.{Configuration, Local, Choice, Step}
use Rattle.markdown_tokenizer.specs.Sight.{Sight}
use Rattle.markdown_tokenizer.specs.Text.{Given, Text}
use Rattle.mdconstructs_machines.proofs.LineReads.Onward.{Ends, Goes, ended as ended-so, goes-next as next-so, held, shows}
use Rattle.mdconstructs_tables.specs.Tables.{counts}

-- how many calls were counted
abbrev pub spent : Local Unit Unit → ℕ
spent local = local.tokenize_state.size

-- the most that can be counted
abbrev pub most : ℕ
most = 2 ^ 64 - 1

-- What is asked of the end of a reading: these events, and at most so many calls counted
pub record Ending : Type 0 where
  pub events : List Event
  pub spent : ℕ

-- these events, with any number of calls
abbrev pub ending : List Event → Ending
ending events = record { events = events; spent = most }

pub counted-most : (local : Local Unit Unit) → spent (counts local) ≤ most
counted-most local = omega arith

-- what is asked of a configuration
abbrev pub as_asked : Ending → Configuration Unit Unit → Type 0
as_asked e k = (k.events ≡ e.events) × (spent k.local ≤ e.spent)

module _ (g : Given) (text : Text) (step : Sight → Configuration Unit Unit → Name → Step Unit Unit) where
  -- reading on ends in Ok, as is asked
  abbrev pub EndsWith : Configuration Unit Unit → List Choice → State → Ending → Type 0
  EndsWith k cs s e = Ends as_asked g text step k cs s e

  -- what the second ends with the first does too
  abbrev pub Leads : (k : Configuration Unit Unit) (cs : List Choice) (s : State) (k' : Configuration Unit Unit) (cs' : List Choice) (s' : State) → Type 0
  Leads k cs s k' cs' s' = Goes as_asked g text step k cs s k' cs' s'

  -- with nothing left to do it ends
  pub ended : (k : Configuration Unit Unit) (n : ℕ) → spent k.local ≤ n → EndsWith k [] Ok (record { events = k.events; spent = n })
  ended k n h = ended-so as_asked g text step k (record { events = k.events; spent = n }) (refl, h)

  -- a state that is to come is called with what is fed
  pub goes-next : (l : List Seat) (stack : List EventName) (p : ℕ) (ended : Bool) (events : List Event) (local : Local Unit Unit) (cs : List Choice) (name : Name) → drop p text.seats ≡ l
      → Leads (held stack p Nothing ended events local) cs (Next name) (shows l stack p ended events local) cs (Retry name)
  goes-next = next-so as_asked g text step
