-- Brackets of links and images, and the tails behind them (CommonMark 0.31, 6.3 "Links", 6.4 "Images"), as they are read: which brackets wait is
-- a memory of the items that were read, as in the appendix "A parsing strategy". What is made of them is another definition (`with_links`). Neither
-- has states.
use Rattle.std.specs.Prelude.{ℕ, ◌+◌, ◌==◌, ◌&&◌, ◌||◌, not, Bool, true, false, cond, List, [], ◌∷◌, ◌++◌, length, map, take, drop, Option, Some, None, option_map}
use Rattle.std.specs.List.{between, flat_map, list_any}
use Rattle.std.specs.Option.{is_some, option_or}
use Rattle.markdown_base.specs.declared.configuration.Constructs.{Constructs}
use Rattle.markdown_base.specs.declared.event.Event.{Event}
use Rattle.markdown_base.specs.declared.event.Name.TheVariants.{LabelEnd, LabelImage, LabelImageMarker, LabelLink, LabelMarker, Reference, ReferenceMarker}
use Rattle.markdown_base.specs.Events.{same_name}
use Rattle.markdown_base.specs.Places.{shown}
use Rattle.markdown_base.specs.Virtual.{Seat}
use Rattle.mdinline_full_references.specs.FullReference.{full_reference_grammar, label_length}
use Rattle.mdinline_labels.specs.Labels.{is_label}
use Rattle.mdconstructs_machines.specs.Innermost.{innermost_spans}
use Rattle.mdinline_link_tails.specs.Resource.{in_marks, resource_grammar, string_events}
use Rattle.mdinline_text_machine.specs.Bytes.{has_byte_at}
use Rattle.mdinline_text_machine.specs.Construct.{BracketMark, Found, plain, opens, makes, fails, or_else}
use Rattle.mdinline_text_machine.specs.Parts.{leaf, span}

-- ---- the memory

-- A bracket that waits: whether it is of an image; whether it is inactive, as a link was made behind it; and how many events were read up to it, its own
-- among them. An inactive one makes nothing, so no link is in a link
pub record Bracket : Type 0 where
  pub image : Bool
  pub inactive : Bool
  pub count : ℕ

-- What is remembered of the items that were read: the brackets that wait, the last one first; the events so far; and the virtual bytes that are left
pub record Memory : Type 0 where
  pub waiting : List Bracket
  pub events : List Event
  pub ahead : List Seat

-- before the first item of these virtual bytes none waits
abbrev pub nothing_read : List Seat → Memory
nothing_read seats = record { waiting = []; events = []; ahead = seats }

-- a bracket before a link that was made: one of a link is inactive from then on
abbrev pub before_link : Bracket → Bracket
before_link b = record b { inactive = b.inactive || not b.image }

-- The brackets that wait behind an item, up to which so many events were read: a bracket does; the last one is taken away if something is made of it, or
-- if nothing is; and if that is a link, those before it hold one
abbrev pub waiting_behind : BracketMark → (count : ℕ) → List Bracket → List Bracket
waiting_behind plain count bs = bs
waiting_behind (opens image) count bs = record { image = image; inactive = false; count = count } ∷ bs
waiting_behind makes count [] = []
waiting_behind makes count (b ∷ bs) = cond b.image bs (map before_link bs)
waiting_behind fails count bs = drop 1 bs

-- the memory behind an item, whose events are these
abbrev pub behind_events : Memory → Found → List Event → Memory
behind_events m item events = record {
  waiting = waiting_behind item.mark (length (m.events ++ events)) m.waiting;
  events = m.events ++ events;
  ahead = drop item.size m.ahead;
}

-- the memory behind an item, in a document of these bytes
abbrev pub after_item : List ℕ → Memory → Found → Memory
after_item bytes m item = behind_events m item (item.events bytes (take item.size m.ahead))

-- ---- labels

-- the bytes of a document that the innermost spans of events stand for
abbrev pub spanned_bytes : List ℕ → List Event → List ℕ
spanned_bytes bytes events = flat_map (λ places. between places.0.index places.1.index bytes) (innermost_spans events)

-- the bytes of a document before the byte at the front of these virtual bytes
abbrev pub bytes_before : List ℕ → List Seat → List ℕ
bytes_before bytes [] = bytes
bytes_before bytes (s ∷ ss) = let place = shown bytes s.point in take place.index bytes

-- a bracket of a link or an image is among events
abbrev pub has_bracket : List Event → Bool
has_bracket events = list_any (λ e. same_name e.name LabelLink || same_name e.name LabelImage) events

-- which labels are defined, and the bytes of a document
module _ (defined : List ℕ → Bool) (bytes : List ℕ) where
  -- what these events stand for is a label, and is defined
  abbrev pub is_defined_label : List Event → Bool
  is_defined_label events = let label = spanned_bytes bytes events in is_label label && defined label

  -- So is what was read behind a bracket, if that is no bracket itself
  abbrev pub is_own_label : List Event → Bool
  is_own_label events = not (has_bracket events) && is_defined_label events

-- ---- the items

-- `[`, which waits. Its events: a label's bracket, and its mark
abbrev pub link_bracket : Found
link_bracket = record { size = 1; mark = opens false; events = λ bytes seats. span bytes LabelLink seats (leaf bytes LabelMarker seats) }

-- `![`, which waits. Its events: a label's bracket, and both marks
abbrev pub image_bracket : Found
image_bracket = record {
  size = 2;
  mark = opens true;
  events = λ bytes seats. span bytes LabelImage seats (leaf bytes LabelImageMarker (take 1 seats) ++ leaf bytes LabelMarker (drop 1 seats));
}

-- `]` that makes a link or an image, with this tail behind it. Its events: the end of the label, and those of the tail
abbrev pub label_end : (tail : Found) → Found
label_end tail = record {
  size = 1 + tail.size;
  mark = makes;
  events = λ bytes seats. span bytes LabelEnd (take 1 seats) (leaf bytes LabelMarker (take 1 seats)) ++ tail.events bytes (drop 1 seats);
}

-- `]` that takes the last bracket away, and makes nothing. Its events: a mark alone
abbrev pub lone_end : Found
lone_end = record { size = 1; mark = fails; events = λ bytes seats. leaf bytes LabelMarker seats }

-- `[]`, the tail of a collapsed reference. Its events: its brackets
abbrev pub collapsed_reference : Found
collapsed_reference = record { size = 2; mark = plain; events = λ bytes seats. in_marks bytes Reference ReferenceMarker [] seats }

-- the tail of a shortcut reference: nothing
abbrev pub no_tail : Found
no_tail = record { size = 0; mark = plain; events = λ bytes seats. [] }

-- the three bytes
abbrev pub is_open_bracket : ℕ → Bool
is_open_bracket byte = byte == 91

abbrev pub is_close_bracket : ℕ → Bool
is_close_bracket byte = byte == 93

abbrev pub is_exclamation : ℕ → Bool
is_exclamation byte = byte == 33

-- one of them
abbrev pub is_of_bracket : ℕ → Bool
is_of_bracket byte = is_open_bracket byte || (is_exclamation byte || is_close_bracket byte)

-- a text begins with `[]`
abbrev pub are_brackets : List ℕ → Bool
are_brackets text = has_byte_at text 0 is_open_bracket && has_byte_at text 1 is_close_bracket

-- the tail of a reference by its own label: `[]`, or nothing
abbrev pub own_tail : (behind : List ℕ) → Found
own_tail behind = cond (are_brackets behind) collapsed_reference no_tail

module _ (defined : List ℕ → Bool) (bytes : List ℕ) where
  -- a label behind the `]` at the front of these virtual bytes is wanted: it is defined. Its text begins with the third byte
  abbrev pub is_wanted_at : List Seat → (label : List ℕ) → Bool
  is_wanted_at ahead label =
      let text = drop 2 ahead in
      is_defined_label defined (bytes_before bytes (drop (length label) text)) (string_events bytes (take (length label) text))

  -- a bracket's own label is defined, at a `]` before which that was read
  abbrev pub own_is_defined : Bracket → Memory → Bool
  own_is_defined b m = is_own_label defined (bytes_before bytes m.ahead) (drop b.count m.events)

  -- The tail of a `]` with this text behind it, for a bracket that may make something: a resource; or a full reference; or if no label is there at all, that
  -- of a collapsed or a shortcut reference, by the bracket's own label
  abbrev pub tail_of : Bracket → Memory → (behind : List ℕ) → Option Found
  tail_of b m behind =
      option_or (resource_grammar.front behind)
      (option_or ((full_reference_grammar (is_wanted_at m.ahead)).front behind)
      (cond (not (is_some (label_length behind)) && own_is_defined b m) (Some (own_tail behind)) None))

  -- a `]` with this text behind it: if the last bracket that waits is active and has a tail, something is made; if not, nothing is
  abbrev pub end_of_last : Bracket → Memory → (behind : List ℕ) → Found
  end_of_last b m behind = cond b.inactive lone_end (or_else (option_map label_end (tail_of b m behind)) lone_end)

  -- a `]` that no bracket waits for is no end
  abbrev pub end_at : List Bracket → Memory → (behind : List ℕ) → Option Found
  end_at [] m behind = None
  end_at (b ∷ bs) m behind = Some (end_of_last b m behind)

module _ (on : Constructs) where
  -- the bytes that brackets and ends may begin with, if they are on
  abbrev pub begins_link : ℕ → Bool
  begins_link byte = on.label_start_link && is_open_bracket byte

  abbrev pub begins_image : ℕ → Bool
  begins_image byte = on.label_start_image && is_exclamation byte

  abbrev pub begins_end : ℕ → Bool
  begins_end byte = on.label_end && is_close_bracket byte

  -- one of them
  abbrev pub begins_bracket : ℕ → Bool
  begins_bracket byte = begins_link byte || (begins_image byte || begins_end byte)

  -- a bracket of an image is at the front of a text
  abbrev pub is_image_bracket : List ℕ → Bool
  is_image_bracket text = has_byte_at text 0 begins_image && has_byte_at text 1 is_open_bracket

  -- The bracket or the end at the front of a text, if one is there: by the labels that are defined, the document's bytes, and what is remembered
  abbrev pub bracket_at : (defined : List ℕ → Bool) → (bytes : List ℕ) → Memory → List ℕ → Option Found
  bracket_at defined bytes m text =
      cond (has_byte_at text 0 begins_link) (Some link_bracket)
      (cond (is_image_bracket text) (Some image_bracket)
      (cond (has_byte_at text 0 begins_end) (end_at defined bytes m.waiting m (drop 1 text)) None))
