-- Events as records of numbers.
use Rattle.std.specs.Prelude.{ℕ, ◌≡◌, Bool, true, false, List, ◌++◌, map, take, drop, length, unwrap_or}
use Rattle.std.specs.declared.result.Result.TheVariants.{Ok}
use Rattle.std.specs.Option.{option_and_then, option_map_or}
use Rattle.markdown_base.specs.declared.configuration.ParseOptions.{ParseOptions}
use Rattle.markdown.specs.declared.event.Content.{Content}
use Rattle.markdown.specs.declared.event.Content.TheVariants.{Flow, Content as ContentOfContent, String, Text}
use Rattle.markdown.specs.declared.event.Event.{Event}
use Rattle.markdown.specs.declared.event.Kind.{Kind}
use Rattle.markdown.specs.declared.event.Kind.TheVariants.{Enter, Exit}
use Rattle.markdown.specs.Engine.{whole_text}
use Rattle.mdconstructs.specs.ByteRanges.{text_events_in}
use Rattle.mdconstructs.specs.declared.choice.Choice.{Choice}
use Rattle.mdconstructs.specs.declared.choice.Which.TheVariants.{Document}
use Rattle.mdconstructs.specs.declared.ranges.ByteRange.{ByteRange}
use Rattle.mdconstructs.specs.Documents.{AreEventsOf, options_with}
use Rattle.mdconstructs.specs.TextEvents.{text_events}
use Rattle.mdgfm_documents.specs.Documents.{gfm_events}
use Rattle.limecove.specs.declared.choose.HtmlOptions.{HtmlOptions}
use Rattle.limecove.specs.declared.choose.Options.{Options}
use Rattle.limecove.specs.declared.choose.TextOptions.{TextOptions}
use Rattle.limecove.specs.declared.record.Record.{Record}
use Rattle.limecove.specs.Choices.{choice_of, constructs_of, has_rewritten, parse_options_of, text_choice_of, text_document}
use Rattle.limecove.specs.Names.{number_of}

-- the number of a kind
abbrev pub kind_number : Kind → ℕ
kind_number Enter = 0
kind_number Exit = 1

-- the number of what a chain is read as; 0 is left for an event that is not linked
abbrev pub content_number : Content → ℕ
content_number Flow = 1
content_number ContentOfContent = 2
content_number String = 3
content_number Text = 4

-- what a record has for an index of no event: `usize::MAX`
abbrev pub no_index : ℕ
no_index = 18446744073709551615

-- the record of an event
abbrev pub record_of : Event → Record
record_of event = record {
  kind = kind_number event.kind;
  content = option_map_or (λ link. content_number link.content) event.link 0;
  name = number_of event.name;
  line = event.point.line;
  column = event.point.column;
  index = event.point.index;
  vs = event.point.vs;
  previous = unwrap_or (option_and_then (λ link. link.previous) event.link) no_index;
  next = unwrap_or (option_and_then (λ link. link.next) event.link) no_index;
}

-- records after the records of events were written over the first ones, as many as fit
abbrev pub filled : List Record → List Event → List Record
filled old events = take (length old) (map record_of events) ++ drop (length events) old

-- Events are those of a document by a choice. If tables, literals, checks or footnotes are on, or one tilde is left out, they are those of the whole document with these
abbrev pub AreEventsBy : (with_these : Bool) → Choice → ParseOptions → List ℕ → List Event → Type 0
AreEventsBy false choice options bytes events = AreEventsOf choice.deep choice.machine options bytes events
AreEventsBy true choice options bytes events = events ≡ gfm_events options bytes

-- Options that choose something with tables, literals, checks, footnotes or without one tilde choose the machine of documents, with its texts
abbrev pub RewrittenAreDocuments : Type 0
RewrittenAreDocuments = (options : Options) (choice : Choice) → choice_of options ≡ Ok choice → has_rewritten options.constructs ≡ true → (choice.machine ≡ Document) × (choice.deep ≡ true)

-- Events that are this many, and that are those of a document, as the options choose them
pub record AreRead (options : Options) (bytes : List ℕ) (n : ℕ) (events : List Event) : Type 0 where
  pub choice : Choice
  pub chosen : choice_of options ≡ Ok choice
  pub are : AreEventsBy (has_rewritten options.constructs) choice (parse_options_of options.constructs choice.tab) bytes events
  pub count : n ≡ length events

-- Events that are this many, and that are those of a document, read as text with the constructs and the tab size of the options
pub record AreReadAsText (options : TextOptions) (bytes : List ℕ) (n : ℕ) (events : List Event) : Type 0 where
  pub tab : ℕ
  pub chosen : text_choice_of options ≡ Ok tab
  pub are : let g = text_document options.constructs tab bytes in events ≡ text_events g (whole_text g)
  pub count : n ≡ length events

-- Events that are this many, and that are those of ranges of a document, read as one text with the constructs and the tab size of the
-- options
pub record AreReadInRanges (options : TextOptions) (bytes : List ℕ) (ranges : List ByteRange) (n : ℕ) (events : List Event) : Type 0 where
  pub tab : ℕ
  pub chosen : text_choice_of options ≡ Ok tab
  pub are : events ≡ text_events_in (options_with (constructs_of options.constructs) tab) bytes ranges
  pub count : n ≡ length events

-- Records after the records of such events were written over the first ones
pub record HoldsEventsOf (options : Options) (bytes : List ℕ) (n : ℕ) (old new : List Record) : Type 0 where
  pub events : List Event
  pub read : AreRead options bytes n events
  pub written : new ≡ filled old events

-- Records after the records of such events of text were written over the first ones
pub record HoldsTextOf (options : TextOptions) (bytes : List ℕ) (n : ℕ) (old new : List Record) : Type 0 where
  pub events : List Event
  pub read : AreReadAsText options bytes n events
  pub written : new ≡ filled old events

-- Records after the records of such events of ranges were written over the first ones
pub record HoldsTextIn (options : TextOptions) (bytes : List ℕ) (ranges : List ByteRange) (n : ℕ) (old new : List Record) : Type 0 where
  pub events : List Event
  pub read : AreReadInRanges options bytes ranges n events
  pub written : new ≡ filled old events

-- a record with the number of each field
abbrev pub numbered : Record
numbered = record { kind = 1; content = 2; name = 3; line = 4; column = 5; index = 6; vs = 7; previous = 8; next = 9 }

-- the numbers of options, in fields of a record that are as wide
abbrev pub echoed : Options → Record
echoed options = record {
  kind = 0;
  content = 0;
  name = options.machine;
  line = options.size;
  column = options.tab_size;
  index = options.cut;
  vs = options.deep;
  previous = options.constructs;
  next = 0;
}

-- the numbers of options of text, in the same fields
abbrev pub echoed_text : TextOptions → Record
echoed_text options = record {
  kind = 0;
  content = 0;
  name = 0;
  line = options.size;
  column = options.tab_size;
  index = 0;
  vs = 0;
  previous = options.constructs;
  next = 0;
}

-- the numbers of options of HTML, in the same fields; what they let through is `next`
abbrev pub echoed_html : HtmlOptions → Record
echoed_html options = record {
  kind = 0;
  content = 0;
  name = 0;
  line = options.size;
  column = options.tab_size;
  index = 0;
  vs = 0;
  previous = options.constructs;
  next = options.allow;
}

-- the numbers of a range: where it begins as the line, and where it ends as the column
abbrev pub echoed_range : ByteRange → Record
echoed_range range = record {
  kind = 0;
  content = 0;
  name = 0;
  line = range.from;
  column = range.to;
  index = 0;
  vs = 0;
  previous = 0;
  next = 0;
}
