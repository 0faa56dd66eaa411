-- What it costs to find targets and definitions: turns of loops, each of which looks at an event.
use Rattle.std.specs.Prelude.{◌≡◌, ⊤, ℕ, ◌+◌, ◌*◌, ◌≤◌, true, false, cond, List, [], ◌∷◌, length, Option, None, Some}
use Rattle.std.specs.List.{list_any}
use Rattle.markdown_base.specs.declared.event.Event.{Event}
use Rattle.markdown_base.specs.declared.event.Name.TheVariants as name
use Rattle.mddocument_link_targets.specs.Spans.{enters, inside}

-- how many events are in a span, if it is there
abbrev pub size_of : Option (List Event) → ℕ
size_of None = 0
size_of (Some es) = length es

-- One turn for each event; and for each definition three for each event in it, and two more
abbrev pub cost_of_one : Event → (behind : List Event) → ℕ
cost_of_one e es = cond (enters name.Definition e) (3 * length (inside es) + 2) 0

abbrev pub definitions_cost : List Event → ℕ
definitions_cost [] = 0
definitions_cost (e ∷ es) = 1 + (cost_of_one e es + definitions_cost es)

-- no definition is in a definition
abbrev pub DefinitionsHoldNone : List Event → Type 0
DefinitionsHoldNone [] = ⊤
DefinitionsHoldNone (e ∷ es) = (enters name.Definition e ≡ true → list_any (enters name.Definition) (inside es) ≡ false) × DefinitionsHoldNone es

-- Then finding all takes at most four turns for each event
abbrev pub DefinitionsAreFoundInLinearTime : Type 0
DefinitionsAreFoundInLinearTime = (es : List Event) → DefinitionsHoldNone es → definitions_cost es ≤ 4 * length es
