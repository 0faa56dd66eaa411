-- Machines that refuse no document: no state returns a message, no choice goes on with one, and no resolver ends in one.
use Rattle.std.specs.Prelude.{◌≢◌, ◌||◌, ℕ, List, [], Bool, true, false, Option, filter, map}
use Rattle.std.specs.List.{list_any}
use Rattle.markdown_base.specs.declared.message.Message.{Message}
use Rattle.markdown_base.specs.declared.state.Name.{Name}
use Rattle.markdown_base.specs.declared.state.State.{State}
use Rattle.markdown_base.specs.declared.state.State.TheVariants.{Next, Error}
use Rattle.markdown_tokenizer.specs.Text.{Given, Text}
use Rattle.markdown_tokenizer.specs.Configuration.{Configuration}
use Rattle.markdown_tokenizer.specs.Reading.{Reading, EndsIn}
use Rattle.markdown_tokenizer.specs.Resolving.{refused}
use Rattle.markdown_tokenizer.specs.Rules.{Rules}
use Rattle.markdown_tokenizer.specs.Sight.{Sight}
use Rattle.mdconstructs_tables.specs.Rows.{Act, choose, Rows, row, when, StateRows, Table}

abbrev pub is_message : State → Bool
is_message (Error m) = true
is_message _ = false

module _ {R D : Type 0} where
  -- a choice goes on with a message
  abbrev pub act_refuses : Act R D → Bool
  act_refuses (choose kind ok nok) = is_message ok || is_message nok
  act_refuses _ = false

  abbrev pub rows_refuse : Rows R D → Bool
  rows_refuse (row acts answer) = is_message answer || list_any act_refuses acts
  rows_refuse (when test one other) = rows_refuse one || rows_refuse other

-- the names of the states that may refuse the document if this was read and this waits
abbrev pub refusing : {W R D : Type 0} → Table W R D → (previous current : Option W) → List Name
refusing {W} {R} {D} table b w = map (λ (state : StateRows W R D). state.name) (filter (λ state. rows_refuse (state.rows b w)) table.states)

-- These rules refuse no document: no reading ends in a message, whatever the text and the state with which it begins, and no resolver does
pub record RulesRefuseNothing {R D : Type 0} (rules : Given → Rules R D) : Type 0 where
  pub readings : (g : Given) (text : Text) (calls : ℕ) (k : Configuration R D) (name : Name) (r : Reading R D) (m : Message)
      → EndsIn g (rules g).step text calls k [] (Next name) r → r.answer ≢ Error m
  pub resolvers : (g : Given) (s : Sight) (k : Configuration R D) (r : R) (m : Message) → (rules g).resolver s k r ≢ refused m
