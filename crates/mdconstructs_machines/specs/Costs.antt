-- How many calls the machines take from their starts.
use Rattle.std.specs.Prelude.{◌≡◌, ℕ, List, [], ◌∷◌, Bool, Contains, length}
use Rattle.markdown_base.specs.declared.state.Name.{Name}
use Rattle.markdown_base.specs.declared.state.State.TheVariants.{Next}
use Rattle.markdown_tokenizer.specs.Text.{Given, Text}
use Rattle.markdown_tokenizer.specs.Configuration.{start_configuration}
use Rattle.markdown_tokenizer.specs.Rules.{Rules}

-- A machine starts only with this state, and from it takes at most this many calls on a text, by its number of virtual bytes
pub record StartsAt {R D : Type 0} (rules : Given → Rules R D) (start : Name) (calls : ℕ → ℕ) : Type 0 where
  pub starts : (g : Given) → (rules g).starts ≡ start ∷ []
  pub cost : (g : Given) (text : Text) (flag : Bool) → (rules g).cost text (start_configuration flag) [] (Next start) ≡ calls (length text.seats)

-- A machine starts with one of these states, and from this one takes at most this many calls on a text, by its number of virtual bytes
pub record StartsAmong {R D : Type 0} (rules : Given → Rules R D) (names : List Name) (start : Name) (calls : ℕ → ℕ) : Type 0 where
  pub starts : (g : Given) → (rules g).starts ≡ names
  pub among : Contains names start
  pub cost : (g : Given) (text : Text) (flag : Bool) → (rules g).cost text (start_configuration flag) [] (Next start) ≡ calls (length text.seats)
