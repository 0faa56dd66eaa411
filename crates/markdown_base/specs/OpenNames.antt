-- Inner: the names that are open, by a stack. No public contract cites this file.
use Rattle.std.specs.Prelude.{List, [], ◌∷◌, Option, Some, None, if◌then◌else◌}
use Rattle.markdown_base.specs.declared.event.Event.{Event}
use Rattle.markdown_base.specs.declared.event.Kind.{Kind}
use Rattle.markdown_base.specs.declared.event.Kind.TheVariants.{Enter, Exit}
use Rattle.markdown_base.specs.declared.event.Name.{Name}
use Rattle.markdown_base.specs.Events.{same_name}

-- the names that are open after an event, the innermost first; None if it exits another name
abbrev pub names_after : Kind → Name → List Name → Option (List Name)
names_after Enter n st = Some (n ∷ st)
names_after Exit n [] = None
names_after Exit n (m ∷ st) = if same_name m n then Some st else None

-- the same after a list of events
abbrev pub names_after_all : Option (List Name) → List Event → Option (List Name)
names_after_all None es = None
names_after_all (Some st) [] = Some st
names_after_all (Some st) (e ∷ es) = names_after_all (names_after e.kind e.name st) es
