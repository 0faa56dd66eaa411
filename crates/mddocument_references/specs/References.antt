-- References that nothing defines (CommonMark 0.31, 6.3 "Links": full, collapsed and shortcut reference links), by the events of a document.
--
-- A `[` or `![` that makes no link and no image, and a `]` that makes none, is left among the events as data of its own. A label that stands between
-- two that were left, with no bracket in it, was looked up; nothing was made, so nothing defines it. Code, HTML, autolinks and escapes are no data; so
-- brackets in them do not count.
use Rattle.std.specs.Prelude.{ℕ, ◌+◌, ◌&&◌, ◌||◌, not, Bool, false, cond, List, [], ◌∷◌, take, drop, Option, None, Some, is_some, option_and_then}
use Rattle.markdown_base.specs.declared.configuration.Constructs.{Constructs}
use Rattle.markdown_base.specs.declared.event.Event.{Event}
use Rattle.markdown_base.specs.declared.event.Name.{Name}
use Rattle.markdown_base.specs.declared.event.Name.TheVariants as name
use Rattle.markdown_base.specs.Events.{is_enter, same_name}
use Rattle.mdinline_labels.specs.Labels.{is_label}
use Rattle.mdinline_labels.specs.Tails.{begins_with, label_size}
use Rattle.mddocument_link_targets.specs.Spans.{enters}
use Rattle.mddocument_link_targets.specs.Strings.{as_written}
use Rattle.mddocument_references.specs.declared.references.Reference.{Reference}

-- ---- where inline text is

-- a span that holds inline text: that of a paragraph, of a heading, or of a link or an image
abbrev pub is_text : Name → Bool
is_text n = same_name n name.Paragraph || (same_name n name.HeadingAtxText || (same_name n name.HeadingSetextText || same_name n name.LabelText))

-- a span in inline text that holds other things too: labels and strings
abbrev pub is_link : Name → Bool
is_link n = same_name n name.Link || same_name n name.Image

-- inline text is behind an event: it enters one, or leaves a link or an image
abbrev pub is_in_text : (before : Bool) → Event → Bool
is_in_text before e = cond (is_link e.name) (not (is_enter e.kind)) (cond (is_text e.name) (is_enter e.kind) before)

-- ---- brackets that were left

-- a byte is at an index
abbrev pub has_byte : List ℕ → (index byte : ℕ) → Bool
has_byte bytes index byte = begins_with byte (drop index bytes)

-- a label in brackets is at the front of bytes
abbrev pub is_label_ahead : List ℕ → Bool
is_label_ahead bytes =
    begins_with 91 bytes && elim (label_size (drop 1 bytes)) [ None ↦ false | Some n ↦ is_label (take n (drop 1 bytes)) ]

-- bytes are a label that nothing defines, by which labels are defined
abbrev pub is_undefined : (defined : List ℕ → Bool) → List ℕ → Bool
is_undefined defined label = is_label label && not (defined label)

-- a reference, if there is one, in front of others
abbrev pub joined : Option Reference → List Reference → List Reference
joined None more = more
joined (Some reference) more = reference ∷ more

-- the constructs that are on, and the bytes of a document
module _ (on : Constructs) (bytes : List ℕ) where
  -- `[` was left
  abbrev pub opens_link : Event → Bool
  opens_link e = enters name.Data e && (on.label_start_link && has_byte bytes e.point.index 91)

  -- `![` was
  abbrev pub opens_image : Event → Bool
  opens_image e = enters name.Data e && (on.label_start_image && (has_byte bytes e.point.index 33 && has_byte bytes (e.point.index + 1) 91))

  -- `]` was
  abbrev pub closes : Event → Bool
  closes e = enters name.Data e && (on.label_end && has_byte bytes e.point.index 93)

  -- where the label begins, if one of the first two was left
  abbrev pub opened : Event → Option ℕ
  opened e = cond (opens_link e) (Some (e.point.index + 1)) (cond (opens_image e) (Some (e.point.index + 2)) None)

  -- no label goes over an event: a bracket was left, or a text or a link begins or ends
  abbrev pub bounds : Event → Bool
  bounds e = is_text e.name || (is_link e.name || (is_some (opened e) || closes e))

  -- how many events come before the first of these
  abbrev pub ahead : List Event → ℕ
  ahead [] = 0
  ahead (e ∷ es) = cond (bounds e) 0 (1 + ahead es)

  -- ---- references
  -- which labels are defined
  module _ (defined : List ℕ → Bool) where
    -- The reference with a label that begins at a place, by its events and those behind. A text in brackets with a label behind it is none: "a full
    -- reference link consists of a link text immediately followed by a link label", and what is between these brackets is looked up
    abbrev pub closed : (from : ℕ) → (label behind : List Event) → Option Reference
    closed from label [] = None
    closed from label (e ∷ es) =
        cond (closes e && (not (is_label_ahead (drop (e.point.index + 1) bytes)) && is_undefined defined (as_written bytes label))) (Some (record { from = from; to = e.point.index })) None

    -- the one that an event begins, by the events behind it
    abbrev pub begun : Event → List Event → Option Reference
    begun e es = option_and_then (λ from. closed from (take (ahead es) es) (drop (ahead es) es)) (opened e)

    -- those that events begin, if before them inline text is there, or is not
    abbrev pub undefined_from : (in_text : Bool) → List Event → List Reference
    undefined_from in_text [] = []
    undefined_from in_text (e ∷ es) = joined (cond in_text (begun e es) None) (undefined_from (is_in_text in_text e) es)

    -- The references among events of a document that nothing defines, in their order
    abbrev pub undefined_in : List Event → List Reference
    undefined_in events = undefined_from false events
