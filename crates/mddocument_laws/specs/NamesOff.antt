-- What is promised of names: a construct that is off leaves no span in a document, and what is left has names of the constructs that are on.
use Rattle.std.specs.Prelude.{◌≡◌, ℕ, All, Bool, Contains, List, false, true}
use Rattle.markdown_base.specs.declared.configuration.Constructs.{Constructs}
use Rattle.markdown_base.specs.declared.event.Event.{Event}
use Rattle.markdown_base.specs.declared.event.Name.{Name}
use Rattle.markdown_base.specs.Events.{same_name}
use Rattle.markdown_base.specs.Virtual.{Seat, virtual}
use Rattle.markdown_tokenizer.specs.Text.{Given, Text}
use Rattle.mdblock_leaf_blocks.specs.LeafEvents.{flow_events}
use Rattle.mdblock_definitions.specs.Skeleton.{skeleton}
use Rattle.mdinline_machine.specs.InlineEvents.{inline_events}
use Rattle.mdinline_link_strings.specs.StringItems.{string_seat_events}
use Rattle.mddocument.specs.DocumentEvents.{document_events}
use Rattle.mddocument_laws.specs.Names.{may_be_named}

-- Each event has a name that a document may have
abbrev pub AreNamed : Constructs → List Event → Type 0
AreNamed on events = All (λ e. may_be_named on e.name ≡ true) events

-- No event has this name
abbrev pub HaveNone : Name → List Event → Type 0
HaveNone name events = All (λ e. same_name e.name name ≡ false) events

-- So it is of leaf blocks, by any virtual bytes; of strings; and of containers and definitions
abbrev pub LeafBlocksAreNamed : Type 0
LeafBlocksAreNamed = (on : Constructs) (bytes : List ℕ) (seats : List Seat) → AreNamed on (flow_events on bytes seats)

abbrev pub StringsAreNamed : Type 0
StringsAreNamed = (on : Constructs) (bytes : List ℕ) (seats : List Seat) → AreNamed on (string_seat_events on bytes seats)

abbrev pub SkeletonsAreNamed : Type 0
SkeletonsAreNamed = (on : Constructs) (bytes : List ℕ) (seats : List Seat) → AreNamed on (skeleton on bytes seats)

-- labels are defined only where definitions are on
abbrev pub AreDefinedIfOn : (defined : List ℕ → Bool) → Constructs → Type 0
AreDefinedIfOn defined on = (label : List ℕ) → defined label ≡ true → on.definition ≡ true

-- virtual bytes are some of the document's, as those of each text of it are
abbrev pub AreOfDocument : Given → List Seat → Type 0
AreOfDocument g seats = All (Contains (virtual g.tab g.bytes)) seats

-- and of inline text of a document, by which labels are defined
abbrev pub InlinesAreNamed : Type 0
InlinesAreNamed = (defined : List ℕ → Bool) (g : Given) (text : Text) → AreDefinedIfOn defined g.options.constructs → AreOfDocument g text.seats
    → AreNamed g.options.constructs (inline_events defined g text)

-- Of any bytes, with any constructs and tab stops, the events have names of the constructs that are on
abbrev pub DocumentsAreNamed : Type 0
DocumentsAreNamed = (g : Given) → AreNamed g.options.constructs (document_events g)

-- So a name that these leave out stands at no event
abbrev pub OffIsLeftOut : Type 0
OffIsLeftOut = (g : Given) (name : Name) → may_be_named g.options.constructs name ≡ false → HaveNone name (document_events g)
