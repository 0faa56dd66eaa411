-- The events that chains of text are read as, by `Text` and by `Paragraphs`: the text of a paragraph is what its lines have together.
use Rattle.std.specs.Prelude.{◌≡◌, ℕ, List, Option, Some, false, map}
use Rattle.markdown_base.specs.declared.event.Content.{Content}
use Rattle.markdown_base.specs.declared.event.Content.TheVariants as content
use Rattle.markdown_base.specs.declared.event.Event.{Event}
use Rattle.markdown_base.specs.declared.state.Name.{Name}
use Rattle.markdown_base.specs.Events.{IsVoidTight}
use Rattle.markdown_base.specs.Virtual.{virtual}
use Rattle.markdown_base.specs.declared.state.TheConstants.Name.{TextStart}
use Rattle.markdown_tokenizer.specs.declared.subtokenize.Subresult.{Subresult}
use Rattle.markdown_tokenizer.specs.AtPlaces.{AreAtPlaces}
use Rattle.markdown_tokenizer.specs.Engine.{IsRun}
use Rattle.markdown_tokenizer.specs.Rules.{Rules}
use Rattle.markdown_tokenizer.specs.Text.{Given, Text, IsDocument}
use Rattle.markdown_children.specs.Chains.{chain_of, fitting_starts}
use Rattle.markdown_children.specs.Children.{with_children}
use Rattle.markdown_children.specs.LawStatements.{NoneTorn}
use Rattle.markdown_children.specs.Ready.{IsReady}
use Rattle.markdown_children.specs.Reads.{text_of_chain, IsSubtokenized}
use Rattle.mdconstructs_machines.specs.LineEvents.{data_events}
use Rattle.mdconstructs_machines.specs.ParagraphEvents.{paragraph_events}
use Rattle.mdconstructs_tables.specs.Paragraphs.{paragraphs_rules}
pub use Rattle.mdinline_text_machine.specs.ReadChains.{chain_text, with_read}
use Rattle.mdinline_text_machine.specs.TextEvents.{text_events}
use Rattle.mdinline_text_machine.specs.TextRules.{text_rules}

-- these are the events of a run of the machine of texts, from its start of texts, without resolving
abbrev pub IsRunOfTexts : Given → List Event → Type 0
IsRunOfTexts g events = (sub : Subresult) × IsRun g text_rules false TextStart events sub

module _ (g : Given) (events : List Event) where
  -- the events of the text of the chain that begins at an index, as text and as data
  abbrev pub chain_events : ℕ → List Event
  chain_events c = text_events g (chain_text g events c)

  abbrev pub chain_data : ℕ → List Event
  chain_data c = data_events g.bytes (chain_text g events c).seats

  abbrev pub with_texts : List Event
  with_texts = with_read g events chain_events

  abbrev pub with_data : List Event
  with_data = with_read g events chain_data

  -- The void spans of the list are empty, and stay so with what the chains of text are read as: no chunks tear one
  pub record StaysTight (of_chain : ℕ → List Event) : Type 0 where
    pub old : IsVoidTight events
    pub none_torn : NoneTorn (Some content.Text) events (map of_chain (fitting_starts (Some content.Text) events))
    pub new : IsVoidTight (with_read g events of_chain)

  -- what a machine's rules make of the list
  abbrev pub AreReadBy : (Given → Rules Unit Unit) → List Event → Type 0
  AreReadBy rules list = (new : List Event) (sub : Subresult) → IsSubtokenized g rules (Some content.Text) events new sub → new ≡ list

  -- if the list is ready for a content, so is what a machine's rules make of it
  abbrev pub StaysReadyBy : (Given → Rules Unit Unit) → Type 0
  StaysReadyBy rules = (next : Option Content) (new : List Event) (sub : Subresult) → IsReady g.tab g.bytes next events
      → IsSubtokenized g rules (Some content.Text) events new sub → IsReady g.tab g.bytes next new

  -- if the events of the list stand at places, so do those that a machine's rules make of it
  abbrev pub AreReadAtPlaces : (Given → Rules Unit Unit) → Type 0
  AreReadAtPlaces rules = (new : List Event) (sub : Subresult) → IsSubtokenized g rules (Some content.Text) events new sub
      → AreAtPlaces g.tab g.bytes events → AreAtPlaces g.tab g.bytes new

  -- the machine of texts leaves the list with texts, and that of paragraphs the list with data
  abbrev pub AreReadAsTexts : Type 0
  AreReadAsTexts = AreReadBy text_rules with_texts

  abbrev pub AreReadAsData : Type 0
  AreReadAsData = AreReadBy paragraphs_rules with_data

-- the events of the paragraphs of a document
abbrev pub paragraphs_of : Given → List Event
paragraphs_of g = paragraph_events g.bytes (virtual g.tab g.bytes)

-- the events that the machine makes of a document from this start have chains of text that can be read
abbrev pub HasReadableChains : (Given → Rules Unit Unit) → Name → Type 0
HasReadableChains rules start = (g : Given) (events : List Event) (sub : Subresult) → IsDocument g → IsRun g rules false start events sub → IsReady g.tab g.bytes (Some content.Text) events
