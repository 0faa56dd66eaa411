-- Definitions that states found.
use Rattle.std.specs.Prelude.{ℕ, List, [], ◌∷◌, ◌++◌}
use Rattle.markdown.specs.Configuration.{Configuration}
use Rattle.markdown.specs.Calls.{with_local}

-- one more definition was found
abbrev pub with_definition : {R D : Type 0} → Configuration R D → List ℕ → Configuration R D
with_definition k label = with_local k (record k.local { tokenize_state = record k.local.tokenize_state { definitions = k.local.tokenize_state.definitions ++ label ∷ [] } })
