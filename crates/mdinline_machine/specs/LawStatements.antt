-- What is promised of inline text.
use Rattle.std.specs.Prelude.{◌≡◌, ℕ, ◌-◌, ◌^◌, ◌<◌, ◌≤◌, ◌==◌, ◌&&◌, ◌||◌, Bool, List, Option, Some, false, length, map, true}
use Rattle.markdown_base.specs.declared.configuration.Constructs.{Constructs}
use Rattle.markdown_base.specs.declared.event.Content.{Content}
use Rattle.markdown_base.specs.declared.event.Content.TheVariants.{String, Text as TextContent}
use Rattle.markdown_base.specs.declared.event.Event.{Event}
use Rattle.markdown_base.specs.declared.state.Name.{Name}
use Rattle.markdown_base.specs.declared.state.TheConstants.Name.{StringStart, TextStart}
use Rattle.markdown_children.specs.Reads.{IsSubtokenized}
use Rattle.markdown_children.specs.Ready.{IsReady}
use Rattle.markdown_tokenizer.specs.declared.subtokenize.Subresult.{Subresult}
use Rattle.markdown_tokenizer.specs.Engine.{IsRun, whole_text}
use Rattle.markdown_tokenizer.specs.Text.{Given, IsDocument}
use Rattle.mdinline_links.specs.Linked.{with_links}
use Rattle.mdinline_text_machine.specs.Bytes.{is_line_feed}
use Rattle.mdinline_text_machine.specs.ChainTexts.{AreReadBy, StaysReadyBy}
use Rattle.mdinline_text_machine.specs.Construct.{Found, Grammar, some_begins}
use Rattle.mdinline_text_machine.specs.TextBytes.{text_byte}
use Rattle.mdinline_machine.specs.Beginnings.{Beginning, beginnings, bracket_beginnings, is_first, is_first_on, marked_beginnings, punctuation_beginnings, run_beginnings}
use Rattle.mdinline_machine.specs.Brackets.{begins_bracket, is_of_bracket}
pub use Rattle.mdinline_machine.specs.InlineChains.{with_inlines, with_strings}
use Rattle.mdinline_machine.specs.InlineEvents.{ends_data, inline_events, marked_grammars, read_events}
use Rattle.mdinline_machine.specs.InlineRules.{inlines_rules}
use Rattle.mdinline_machine.specs.InlineTable.{inline_constructs}
use Rattle.mdinline_machine.specs.RunRows.{begins_run, is_delimiter}
use Rattle.mdinline_machine.specs.StringEvents.{string_events}

-- these are the events of a run of the machine, from the start of texts, which resolves
abbrev pub IsRunOfInlines : (defined : List ℕ → Bool) → Given → List Event → Type 0
IsRunOfInlines defined g events = (sub : Subresult) × IsRun g (inlines_rules defined) true TextStart events sub

-- For each document, a run that resolves returns the events with which its reading ends, with links, images and emphasis in place of their brackets and
-- delimiter runs
abbrev pub MakesLinks : Type 0
MakesLinks = (defined : List ℕ → Bool) (g : Given) (events : List Event) (sub : Subresult) → IsDocument g → (run : IsRun g (inlines_rules defined) true TextStart events sub)
    → events ≡ with_links g.options.gfm_strikethrough_single_tilde g.bytes run.result.configuration.events

-- For each document, a run that resolves returns the events of inline text; and one that does not, the events that are read
abbrev pub ReadsInlineText : Type 0
ReadsInlineText = (defined : List ℕ → Bool) (g : Given) (events : List Event) (sub : Subresult) → IsDocument g
    → (IsRun g (inlines_rules defined) true TextStart events sub → events ≡ inline_events defined g (whole_text g))
    × (IsRun g (inlines_rules defined) false TextStart events sub → events ≡ read_events defined g (whole_text g))

-- The machine makes that of each list whose chains of text can be read
abbrev pub ReadsChainsAsInlineText : Type 0
ReadsChainsAsInlineText = (defined : List ℕ → Bool) (g : Given) (events : List Event) → IsDocument g → IsReady g.tab g.bytes (Some TextContent) events → AreReadBy g events (inlines_rules defined) (with_inlines defined g events)

-- and leaves it ready for another content, if it was
abbrev pub StaysReadyAfterInlineText : Type 0
StaysReadyAfterInlineText = (defined : List ℕ → Bool) (g : Given) (events : List Event) → IsDocument g → IsReady g.tab g.bytes (Some TextContent) events → StaysReadyBy g events (inlines_rules defined)

-- For each document, a run from the start of strings, resolving or not, returns the events of a string
abbrev pub ReadsStrings : Type 0
ReadsStrings = (defined : List ℕ → Bool) (g : Given) (resolving : Bool) (events : List Event) (sub : Subresult) → IsDocument g → IsRun g (inlines_rules defined) resolving StringStart events sub
    → events ≡ string_events g (whole_text g)

-- The machine makes that of each list whose chains of strings can be read
abbrev pub ReadsChainsAsStrings : Type 0
ReadsChainsAsStrings = (defined : List ℕ → Bool) (g : Given) (events new : List Event) (sub : Subresult) → IsDocument g → IsReady g.tab g.bytes (Some String) events
    → IsSubtokenized g (inlines_rules defined) (Some String) events new sub → new ≡ with_strings g events

-- and leaves it ready for another content, if it was
abbrev pub StaysReadyAfterStrings : Type 0
StaysReadyAfterStrings = (defined : List ℕ → Bool) (g : Given) (events new : List Event) (sub : Subresult) (next : Option Content) → IsDocument g → IsReady g.tab g.bytes (Some String) events
    → IsReady g.tab g.bytes next events → IsSubtokenized g (inlines_rules defined) (Some String) events new sub → IsReady g.tab g.bytes next new

-- For each document, a run from a start makes at most so many calls, by how many virtual bytes there are, if so many can be counted
abbrev pub RunsWithin : Name → (calls : ℕ → ℕ) → Type 0
RunsWithin start calls = (defined : List ℕ → Bool) (g : Given) (resolving : Bool) (events : List Event) (sub : Subresult) → IsDocument g → (run : IsRun g (inlines_rules defined) resolving start events sub)
    → let most = calls (length (whole_text g).seats) in most < 2 ^ 64 - 1 → run.result.calls ≤ most

-- ---- one list says which bytes begin what

-- each byte of the list has its class
abbrev pub HaveTheirClasses : Type 0
HaveTheirClasses = map (λ (b : Beginning). text_byte b.byte) beginnings ≡ map (λ (b : Beginning). b.class) beginnings

-- the constructs with a mark are those of the list, in its order: each begins with its byte alone, and has its option
abbrev pub ConstructsAreListed : Type 0
ConstructsAreListed =
    (map (λ (c : Grammar Found). c.first) marked_grammars ≡ map (λ (b : Beginning) (byte : ℕ). byte == b.byte) marked_beginnings)
    × (map (λ (c : Grammar Found). c.on) marked_grammars ≡ map (λ (b : Beginning). b.on) marked_beginnings)

-- the machine tries constructs at their bytes, and at no others
abbrev pub AreTriedAtListed : Type 0
AreTriedAtListed = (byte : ℕ) → some_begins inline_constructs (text_byte byte) ≡ is_first marked_beginnings byte

-- delimiter runs begin with those bytes of the list whose option is on, and with no others
abbrev pub RunsAreListed : Type 0
RunsAreListed = (on : Constructs) (byte : ℕ) → (is_delimiter byte ≡ is_first run_beginnings byte) × (begins_run on byte ≡ is_first_on run_beginnings on byte)

-- so do brackets and ends
abbrev pub BracketsAreListed : Type 0
BracketsAreListed = (on : Constructs) (byte : ℕ) → (is_of_bracket byte ≡ is_first bracket_beginnings byte) × (begins_bracket on byte ≡ is_first_on bracket_beginnings on byte)

-- data ends at a byte that is a line ending, or that a mark of the list begins with, or something else of it that is on
abbrev pub DataEndsAtListed : Type 0
DataEndsAtListed = (on : Constructs) (byte : ℕ) → ends_data on byte ≡ (is_line_feed byte || (is_first marked_beginnings byte || is_first_on punctuation_beginnings on byte))

-- Without strikethrough runs begin with `*` and `_` alone, if attention is on: a tilde begins none, and data goes on over it
abbrev pub TildesAreData : Type 0
TildesAreData = (on : Constructs) → on.gfm_strikethrough ≡ false → ((byte : ℕ) → begins_run on byte ≡ (on.attention && ((byte == 42) || (byte == 95)))) × (ends_data on 126 ≡ false)
