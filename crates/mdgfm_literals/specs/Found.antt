-- Literals that are found, or none.
use Rattle.std.specs.Prelude.{ℕ, ◌==◌, cond, Option, Some, None}
use Rattle.markdown_base.specs.declared.event.Name.{Name}
use Rattle.mdgfm_literals.specs.declared.found.Found.{Found}

-- a literal of a name, if it has bytes
abbrev pub found : Name → (size : ℕ) → Option Found
found name size = cond (size == 0) None (Some (record { size = size; name = name }))

-- the first of two that is there
abbrev pub or_else : Option Found → Option Found → Option Found
or_else None other = other
or_else (Some f) other = Some f
