-- A document that can be edited, as a type.
use base.Stored.{Coded}
use denote.RattleType.{RattleType}
use Rattle.limecove.specs.declared.held.Held.{Held}
use Rattle.limecove.specs.contracts.held.Held as held

-- a document with the sections to which its last edit gave other events, as a type
abbrev pub held_row : RattleType
held_row = held.the_row

abbrev pub held_code : Coded Held
held_code = held_row.coded
