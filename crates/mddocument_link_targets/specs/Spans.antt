-- Spans among events: what is in a span, by the events behind its enter, and what is behind it.
use Rattle.std.specs.Prelude.{◌≡◌, ℕ, zero, suc, ◌+◌, ◌&&◌, Bool, cond, List, [], ◌∷◌, ◌++◌, take, drop, Option, None, Some}
use Rattle.markdown_base.specs.declared.event.Event.{Event}
use Rattle.markdown_base.specs.declared.event.Kind.{Kind}
use Rattle.markdown_base.specs.declared.event.Kind.TheVariants.{Enter, Exit}
use Rattle.markdown_base.specs.declared.event.Name.{Name}
use Rattle.markdown_base.specs.Events.{IsBalanced, is_enter, same_name}

-- an event enters a span of this name
abbrev pub enters : Name → Event → Bool
enters name e = is_enter e.kind && same_name e.name name

-- How many events are in a span, by the events behind its enter: those up to its exit. The depth is how many spans in it are open
abbrev pub size_by : Kind → (depth : ℕ) → (rest : (depth : ℕ) → ℕ) → ℕ
size_by Enter depth rest = suc (rest (suc depth))
size_by Exit zero rest = 0
size_by Exit (suc depth) rest = suc (rest depth)

abbrev pub size_from : (depth : ℕ) → List Event → ℕ
size_from depth [] = 0
size_from depth (e ∷ es) = size_by e.kind depth (λ d. size_from d es)

-- what is in a span, and what is behind it, by the events behind its enter
abbrev pub inside : List Event → List Event
inside es = take (size_from 0 es) es

abbrev pub behind : List Event → List Event
behind es = drop (size_from 0 es + 1) es

-- what is in the first span of a name, if there is one
abbrev pub first_in : Name → List Event → Option (List Event)
first_in name [] = None
first_in name (e ∷ es) = cond (enters name e) (Some (inside es)) (first_in name es)

-- what is behind the first event, if it passes a test
abbrev pub behind_first : (Event → Bool) → List Event → Option (List Event)
behind_first test [] = None
behind_first test (e ∷ es) = cond (test e) (Some es) None

-- what is in the span that is entered at an index, if its enter passes a test
abbrev pub inside_at : (Event → Bool) → (at : ℕ) → List Event → Option (List Event)
inside_at test at events = elim (behind_first test (drop at events)) [ None ↦ None | Some es ↦ Some (inside es) ]

-- Law: in a span are the balanced events between its enter and its exit, and behind it those behind its exit
abbrev pub SpansEndAtTheirExits : Type 0
SpansEndAtTheirExits =
    (xs ys : List Event) (f : Event) → IsBalanced xs → f.kind ≡ Exit → (inside (xs ++ f ∷ ys) ≡ xs) × (behind (xs ++ f ∷ ys) ≡ ys)
