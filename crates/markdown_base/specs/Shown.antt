-- How points, places and messages are shown.
use Rattle.std.specs.Prelude.{ℕ, List, [], ◌++◌, Option, None, Some, codes}
use Rattle.std.specs.Fmt.{decimal}
use Rattle.markdown_base.specs.declared.unist.Point.{Point}
use Rattle.markdown_base.specs.declared.unist.Position.{Position}
use Rattle.markdown_base.specs.declared.message.Place.{Place}
use Rattle.markdown_base.specs.declared.message.Place.TheVariants as place
use Rattle.markdown_base.specs.declared.message.Message.{Message}

-- a point of unist, as `line:column`
abbrev pub point_text : Point → List ℕ
point_text p = decimal p.line ++ codes ":" ++ decimal p.column

-- a position of unist, as `line:column-line:column`
abbrev pub position_text : Position → List ℕ
position_text p = point_text p.start ++ codes "-" ++ point_text p.end

-- the debugging text of a point: `line:column (offset)`
abbrev pub point_debug_text : Point → List ℕ
point_debug_text p = point_text p ++ codes " (" ++ decimal p.offset ++ codes ")"

-- the debugging text of a position: `line:column-line:column (offset-offset)`
abbrev pub position_debug_text : Position → List ℕ
position_debug_text p = position_text p ++ codes " (" ++ decimal p.start.offset ++ codes "-" ++ decimal p.end.offset ++ codes ")"

-- a place is shown as its point or its position
abbrev pub place_text : Place → List ℕ
place_text (place.Position p) = position_text p
place_text (place.Point p) = point_text p

-- what comes before a message's reason: its place and `: `, if it has one
abbrev pub place_prefix : Option Place → List ℕ
place_prefix None = []
place_prefix (Some p) = place_text p ++ codes ": "

-- a message is shown as its place, its reason, and the rule that the document breaks: `1:2: reason (source:rule)`
abbrev pub message_text : Message → List ℕ
message_text m = place_prefix m.place ++ m.reason ++ codes " (" ++ m.source ++ codes ":" ++ m.rule_id ++ codes ")"
