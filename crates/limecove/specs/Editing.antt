-- A document that a caller keeps between calls, and edits.
use Rattle.std.specs.Prelude.{◌≡◌, ℕ, List, [], ◌++◌, map, Option, Some, None, Result, cond, nat_eq, length, take, drop, option_map}
use Rattle.std.specs.declared.result.Result.TheVariants.{Ok, Err}
use Rattle.std.specs.Global.{Box}
use Rattle.std.specs.Option.{option_map_or}
use Rattle.mdconstructs.specs.declared.positions.Encoding.{Encoding}
use Rattle.mdconstructs.specs.declared.positions.Encoding.TheVariants.{Utf8, Utf16}
use Rattle.mdconstructs.specs.Divided.{Divided, bytes_of, events_between}
use Rattle.mdconstructs.specs.declared.edit.Other.{Other}
use Rattle.mdconstructs.specs.declared.edit.Why.{Why}
use Rattle.mdconstructs.specs.declared.edit.Why.TheVariants as why
use Rattle.mdconstructs.specs.Edits.{IsChange}
use Rattle.mdconstructs.specs.Lookups.{IsSectionAt, start_of}
use Rattle.mdconstructs.specs.Positions.{offset_of, position_of}
use Rattle.limecove.specs.declared.choose.TextOptions.{TextOptions}
use Rattle.limecove.specs.declared.document.Document.{Document}
use Rattle.limecove.specs.declared.edits.Changed.{Changed}
use Rattle.limecove.specs.declared.edits.Named.{Named}
use Rattle.limecove.specs.declared.edits.Place.{Place}
use Rattle.limecove.specs.declared.held.Held.{Held}
use Rattle.limecove.specs.declared.record.Record.{Record}
use Rattle.limecove.specs.Choices.{document_choice_of, parse_options_of}
use Rattle.limecove.specs.Records.{filled}

-- A document that is not open
abbrev pub IsNotOpen : Document → Type 0
IsNotOpen document = (document.is_open ≡ 0) × (document.kept.held ≡ None)

-- A document has these bytes, and is read with the constructs and the tab size of the options
pub record IsOf (options : TextOptions) (bytes : List ℕ) (d : Divided) : Type 0 where
  pub tab : ℕ
  pub chosen : document_choice_of options ≡ Ok tab
  pub are : bytes_of d ≡ bytes
  pub read : d.options ≡ parse_options_of options.constructs tab

-- What is kept was made of bytes: it has this many sections, and no edit read any again
pub record IsMade (options : TextOptions) (bytes : List ℕ) (n : ℕ) (held : Held) : Type 0 where
  pub is : IsOf options bytes held.sections
  pub count : n ≡ length held.sections.sections
  pub others : held.others.items ≡ []

-- bytes with others in the place of those from one up to another
abbrev pub replaced : (from to : ℕ) → (with : List ℕ) → List ℕ → List ℕ
replaced from to with bytes = take from bytes ++ (with ++ drop to bytes)

-- Bytes of a document were replaced, and this changed
pub record IsReplaced (from to : ℕ) (with : List ℕ) (old new : Held) (c : Changed) : Type 0 where
  pub bytes : bytes_of new.sections ≡ replaced from to with (bytes_of old.sections)
  pub options : new.sections.options ≡ old.sections.options
  pub change : IsChange old.sections new.sections (record { from = c.from; old_to = c.old_to; new_to = c.new_to; others = new.others })
  pub start : c.start ≡ start_of new.sections.sections c.from
  pub end : c.end ≡ start_of new.sections.sections c.new_to
  pub others : c.others ≡ length new.others.items

-- Bytes of an open document were replaced, and this changed; it has this many sections now
pub record IsEdited (from to : ℕ) (with : List ℕ) (c : Changed) (n : ℕ) (old new : Held) : Type 0 where
  pub edit : IsReplaced from to with old new c
  pub count : n ≡ length new.sections.sections

-- the index of the byte with which a section of a document starts; behind the last one it is the end, and without a document it is 0
abbrev pub start_in : Option Held → (section : ℕ) → ℕ
start_in held section = option_map_or (λ it. start_of it.sections.sections section) held 0

-- numbers after others were written over the first ones, as many as fit
abbrev pub written : List ℕ → List ℕ → List ℕ
written old numbers = take (length old) numbers ++ drop (length numbers) old

-- the number of why a section is named
abbrev pub why_number : Why → ℕ
why_number why.Events = 0
why_number why.Targets = 1

abbrev pub named_of : Other → Named
named_of other = record { section = other.section; why = why_number other.why }

-- what is named after these sections were written over the first of others, as many as fit
abbrev pub named_over : List Named → List Other → List Named
named_over old others = take (length old) (map named_of others) ++ drop (length others) old

-- the sections that the last edit did not replace and of which something is new
abbrev pub others_in : Option Held → List Other
others_in held = option_map_or (λ it. it.others.items) held []

-- the value of a box, if there is one
abbrev pub value_of : Option (Box Held) → Option Held
value_of found = option_map (λ held. held.value) found

-- why nothing is found in a document, as codes
abbrev pub no_such_bytes : ℕ
no_such_bytes = 9

abbrev pub not_open : ℕ
not_open = 10

-- the units that a number asks for: those of UTF-8, if it is 0
abbrev pub encoding_of : ℕ → Encoding
encoding_of utf16 = cond (nat_eq utf16 0) Utf8 Utf16

-- the place of a byte index in a document, or the code that says why there is none
abbrev pub place_in : Option Held → (utf16 byte : ℕ) → Result Place ℕ
place_in None utf16 byte = Err not_open
place_in (Some held) utf16 byte =
    option_map_or (λ p. Ok (record { line = p.line; character = p.character })) (position_of (encoding_of utf16) (bytes_of held.sections) byte) (Err no_such_bytes)

-- the byte index of a place in a document, or such a code
abbrev pub index_in : Option Held → (utf16 line character : ℕ) → Result ℕ ℕ
index_in None utf16 line character = Err not_open
index_in (Some held) utf16 line character =
    option_map_or Ok (offset_of (encoding_of utf16) (bytes_of held.sections) (record { line = line; character = character })) (Err no_such_bytes)

-- Records after events of the sections from one up to another were written over the first ones, as many as fit; there are this many
pub record HoldsSections (from to : ℕ) (n : ℕ) (old new : List Record) (held : Held) : Type 0 where
  pub records : new ≡ filled old (events_between held.sections from to)
  pub count : n ≡ length (events_between held.sections from to)

-- The section has the byte; it is the number of sections, if none has it, and 0 without a document
abbrev pub IsFoundAt : Option Held → (byte section : ℕ) → Type 0
IsFoundAt None byte section = section ≡ 0
IsFoundAt (Some held) byte section = IsSectionAt held.sections.sections byte section
