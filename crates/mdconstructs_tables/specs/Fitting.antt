-- Tables that fit: no state is a misfit, and costs of the machine's own are enough for its calls.
use Rattle.std.specs.Prelude.{◌≡◌, ℕ, ◌≤◌, List, [], ◌∷◌, Bool, true, Option}
use Rattle.markdown_base.specs.declared.state.Name.{Name}
use Rattle.markdown_tokenizer.specs.Configuration.{Local}
use Rattle.markdown_tokenizer.specs.Text.{Text}
use Rattle.mdconstructs_tables.specs.Rows.{Cost, own, StateRows, Table}
use Rattle.mdconstructs_tables.specs.Misfits.{misfits}
use Rattle.mdconstructs_tables.specs.RowTest.{never}
use Rattle.mdconstructs_tables.specs.RowInvariant.{ArePaid}

-- a cost falls the more was read
abbrev pub Falls : (Text → ℕ → ℕ) → Type 0
Falls f = (text : Text) (p q : ℕ) → p ≤ q → f text q ≤ f text p

-- it is asked of a state only if it has a cost of its own, and is one of those that have to cost less later
abbrev pub and_falls : (asked : Bool) → Cost → Type 0 → Type 0
and_falls true (own f) other = Falls f × other
and_falls _ _ other = other

-- the states of `falling` cost less the more was read
abbrev pub AllFall : {W R D : Type 0} → (falling : Name → Bool) → List (StateRows W R D) → Type 0
AllFall falling [] = Unit {0}
AllFall falling (state ∷ states) = and_falls (falling state.name) state.cost (AllFall falling states)

module _ {W R D : Type 0} where
  -- the test names no state as a misfit
  abbrev pub HasNoMisfits : Table W R D → Type 0
  HasNoMisfits table = (previous current : Option W) → misfits table previous current ≡ []

-- what each call writes first leaves the place that is noted
abbrev pub KeepsNoted : {R D : Type 0} → (Local R D → Local R D) → Type 0
KeepsNoted {R} {D} first = (local : Local R D) → (first local).noted ≡ local.noted

-- A table fits: the test names no state as a misfit, the machine's own costs are enough for its calls, and what each call writes first leaves
-- the place that is noted. The states that are `early` end no choice with Ok where they are called. The states of `falling` cost less the more
-- was read.
pub record IsFitBy {W R D : Type 0} (table : Table W R D) (early : Name → Option W → Bool) (falling : Name → Bool) : Type 0 where
  pub fits : HasNoMisfits table
  pub paid : ArePaid table early table.states
  pub falls : AllFall falling table.states
  pub kept : KeepsNoted table.first

-- any state
abbrev pub every : Name → Bool
every name = true

-- choices may end with Ok at the place where they were made, and all states cost less later
abbrev pub IsFit : {W R D : Type 0} → Table W R D → Type 0
IsFit table = IsFitBy table never every
