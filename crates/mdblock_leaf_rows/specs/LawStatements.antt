-- What laws say of the machine of leaf blocks.
use Rattle.std.specs.Prelude.{ℕ, ◌≤◌, [], Bool, length}
use Rattle.markdown_base.specs.declared.state.Name.{Name}
use Rattle.markdown_base.specs.declared.state.State.TheVariants.{Next}
use Rattle.markdown_tokenizer.specs.Configuration.{start_configuration}
use Rattle.markdown_tokenizer.specs.Rules.{Rules}
use Rattle.markdown_tokenizer.specs.Text.{Given, Text}

-- from this start a machine takes at most this many calls on a text, by its number of virtual bytes
abbrev pub StartsWithin : {R D : Type 0} → (rules : Given → Rules R D) → (start : Name) → (calls : ℕ → ℕ) → Type 0
StartsWithin rules start calls = (g : Given) (text : Text) (flag : Bool) → (rules g).cost text (start_configuration flag) [] (Next start) ≤ calls (length text.seats)
