-- Events as the program prints them.
use Rattle.std.specs.Prelude.{ℕ, List, ◌++◌, codes, decimal}
use Rattle.std.specs.List.{flat_map}
use Rattle.markdown.specs.declared.event.Event.{Event}
use Rattle.markdown.specs.declared.event.Kind.{Kind}
use Rattle.markdown.specs.declared.event.Kind.TheVariants.{Enter, Exit}
use Rattle.markdown.specs.declared.event.Point.{Point}
use Rattle.markdown.specs.EventNames.{text_of}

-- the word of a kind
abbrev pub kind_text : Kind → List ℕ
kind_text Enter = codes "enter"
kind_text Exit = codes "exit"

-- what is printed of a point behind its line: `column (index+vs)`
abbrev pub printed_column : Point → List ℕ
printed_column point = decimal point.column ++ codes " (" ++ decimal point.index ++ codes "+" ++ decimal point.vs ++ codes ")"

-- a point as `line:column (index+vs)`
abbrev pub printed_point : Point → List ℕ
printed_point point = decimal point.line ++ codes ":" ++ printed_column point

-- the line of an event: kind, name and point, ended by a line feed
abbrev pub event_line : Event → List ℕ
event_line event = kind_text event.kind ++ codes " " ++ text_of event.name ++ codes " " ++ printed_point event.point ++ codes "\n"

-- events as they are printed: a line for each, in order
abbrev pub printed_events : List Event → List ℕ
printed_events events = flat_map event_line events
