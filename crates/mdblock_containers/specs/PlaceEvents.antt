-- Events of containers by places: each span is over so many columns of a line from a place on.
use Rattle.std.specs.Prelude.{ℕ, ◌+◌, ◌-◌, ◌<◌, ◌^◌, ◌==◌, cond, List, [], ◌∷◌, ◌++◌, length, None}
use Rattle.markdown_base.specs.declared.event.Event.{Event}
use Rattle.markdown_base.specs.declared.event.Kind.{Kind}
use Rattle.markdown_base.specs.declared.event.Kind.TheVariants.{Enter, Exit}
use Rattle.markdown_base.specs.declared.event.Name.{Name}
use Rattle.markdown_base.specs.declared.event.Name.TheVariants as name
use Rattle.markdown_base.specs.declared.event.Point.{Point}
use Rattle.mdblock_leaf_blocks.specs.LineKinds.{indent}
use Rattle.mdblock_lines.specs.declared.containers.Container.{Container}
use Rattle.mdblock_lines.specs.declared.containers.ContainerKind.{ContainerKind}
use Rattle.mdblock_lines.specs.declared.containers.ContainerKind.TheVariants as kinds
use Rattle.mdblock_lines.specs.Lines.{place_after}

-- an event at a place, with no link
abbrev pub event_at : Kind → Name → Point → Event
event_at kind name place = record { kind = kind; name = name; point = place; link = None }

module _ (t : ℕ) (bytes : List ℕ) where
  -- A place in a line has so many virtual bytes of the line behind it
  pub record HasColumns (place : Point) (columns : ℕ) : Type 0 where
    pub inside : (k : ℕ) → k < columns → (place_after t bytes place k).index < length bytes
    pub first : place.vs < place.column
    pub room : place.column + columns < 2 ^ 64

  -- a span over so many columns, if there are any
  abbrev pub span_at : Name → Point → (columns : ℕ) → List Event
  span_at n place columns = cond (columns == 0) [] (event_at Enter n place ∷ event_at Exit n (place_after t bytes place columns) ∷ [])

  -- a prefix: white space, and a span in which these events are
  abbrev pub prefix_at : Name → Point → (white : ℕ) → (List Event) → Point → List Event
  prefix_at n place white inside end = span_at name.SpaceOrTab place white ++ (event_at Enter n (place_after t bytes place white) ∷ (inside ++ event_at Exit n end ∷ []))

  -- the prefix of a quote, by its virtual bytes: white space, the marker, and white space (CommonMark, 5.1)
  abbrev pub quote_prefix_at : Point → List ℕ → List Event
  quote_prefix_at place text =
      let n = indent text in
      let rest = length text - n - 1 in
      prefix_at name.BlockQuotePrefix place n
      (span_at name.BlockQuoteMarker (place_after t bytes place n) 1 ++ span_at name.SpaceOrTab (place_after t bytes place (n + 1)) rest)
      (place_after t bytes place (length text))

  -- the prefix with which a footnote definition begins: white space; its label in brackets, behind `^`; the colon, and white space
  abbrev pub footnote_label_at : (label : ℕ) → Point → List Event
  footnote_label_at label place =
      let named = place_after t bytes place (label + 2) in
      span_at name.GfmFootnoteDefinitionLabelMarker place 1
      ++ (span_at name.GfmFootnoteDefinitionMarker (place_after t bytes place 1) 1
      ++ ((event_at Enter name.GfmFootnoteDefinitionLabelString (place_after t bytes place 2)
      ∷ (span_at name.Data (place_after t bytes place 2) label ++ event_at Exit name.GfmFootnoteDefinitionLabelString named ∷ []))
      ++ span_at name.GfmFootnoteDefinitionLabelMarker named 1))

  abbrev pub footnote_prefix_at : (label : ℕ) → Point → List ℕ → List Event
  footnote_prefix_at label place text =
      let n = indent text in
      let rest = length text - n - label - 4 in
      prefix_at name.GfmFootnoteDefinitionPrefix place n
      ((event_at Enter name.GfmFootnoteDefinitionLabel (place_after t bytes place n)
      ∷ (footnote_label_at label (place_after t bytes place n) ++ event_at Exit name.GfmFootnoteDefinitionLabel (place_after t bytes place (n + label + 3)) ∷ []))
      ++ (span_at name.DefinitionMarker (place_after t bytes place (n + label + 3)) 1 ++ span_at name.SpaceOrTab (place_after t bytes place (n + label + 4)) rest))
      (place_after t bytes place (length text))

  -- the prefix with which an item begins: white space, digits, the marker, and white space (5.2)
  abbrev pub item_prefix_at : (digits : ℕ) → Point → List ℕ → List Event
  item_prefix_at digits place text =
      let n = indent text in
      let rest = length text - n - digits - 1 in
      prefix_at name.ListItemPrefix place n
      (span_at name.ListItemValue (place_after t bytes place n) digits
      ++ (span_at name.ListItemMarker (place_after t bytes place (n + digits)) 1 ++ span_at name.SpaceOrTab (place_after t bytes place (n + digits + 1)) rest))
      (place_after t bytes place (length text))

  -- the prefix with which a container of a kind goes on, and with which one begins
  abbrev pub going_prefix_places : ContainerKind → Point → List ℕ → List Event
  going_prefix_places kinds.Quote place text = quote_prefix_at place text
  going_prefix_places kinds.Item place text = span_at name.SpaceOrTab place (length text)
  going_prefix_places kinds.Footnote place text = span_at name.SpaceOrTab place (length text)

  abbrev pub begun_prefix_by : ContainerKind → Container → Point → List ℕ → List Event
  begun_prefix_by kinds.Quote c place text = quote_prefix_at place text
  begun_prefix_by kinds.Item c place text = item_prefix_at c.digits place text
  begun_prefix_by kinds.Footnote c place text = footnote_prefix_at c.label place text

  abbrev pub begun_prefix_places : Container → Point → List ℕ → List Event
  begun_prefix_places c place text = begun_prefix_by c.kind c place text
