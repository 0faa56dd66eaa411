-- The events of leaf blocks, with what their chains of texts and then of strings are read as, are those of leaf blocks with their texts; and so with inline text.
use Rattle.mddocument.proofs.Prelude.{[], ◌≡◌, ◌<◌, ◌∙◌, ℕ, Bool, List, map, refl, ap, arith, subst, sym, Event, Given, IsText, Point, Seat, None, Some, Content, point, content_at, fitting_starts, with_children, HaveNoLinks, Text, empty_text, shown, AcrossGap, Course, text-course, Mark, flow_events, linked_from, inline-alone, string-alone, string_seat_events, chain_text, with_read, InlinesAreRead, flow_read, inline_seat_events}
use Rattle.markdown_base.specs.declared.event.Content.TheVariants as content
use Rattle.mdinline_machine.specs.InlineRules.{no_labels}
use Rattle.mdinline_machine.specs.LawStatements.{with_inlines, with_strings}
use Rattle.mddocument.proofs.FlowTexts.BlockSegments.{all-segments, by_content, string-segments, text-segments}
use Rattle.mddocument.proofs.FlowTexts.ChainsRead.{texts-read}

-- a text with these virtual bytes
abbrev text_over : List Seat → Text
text_over seats = record (empty_text (point 1 1 0 0)) { seats = seats }

-- leaf blocks with their inline text, by which labels are defined
abbrev pub inlines_by : (defined : List ℕ → Bool) → Given → Text → List Event
inlines_by defined g text = let on = g.options.constructs in flow_read (inline_seat_events defined g.options g.bytes) (string_seat_events on g.bytes) on g.bytes text.seats

module _ (g : Given) (text : Text) (is : IsText g text) where
  some : 0 < g.tab
  some = let tab = is.document.tab.0 in omega (arith, tab)

  -- from where the text starts
  abbrev start : Point
  start = shown g.bytes text.start

  -- the course of its virtual bytes, however these are cut
  course-of : (seats : List Seat) → text.seats ≡ seats → Course AcrossGap g.tab g.bytes start seats
  course-of seats e = subst (Course AcrossGap g.tab g.bytes start) e (text-course g text is)

  -- the events of its leaf blocks
  abbrev flat : List Event
  flat = flow_events g.options.constructs g.bytes text.seats

  -- whatever texts and strings are read as, if it has no links
  flow-is-read : (texts strings : List Seat → List Event) → texts [] ≡ [] → strings [] ≡ [] → ((seats : List Seat) → HaveNoLinks (texts seats)) → ((seats : List Seat) → HaveNoLinks (strings seats))
      → let half = with_read g flat (λ c. texts (chain_text g flat c).seats) in
      with_children (Some content.String) half (map (λ c. strings (chain_text g half c).seats) (fitting_starts (Some content.String) half)) ≡ flow_read texts strings g.options.constructs g.bytes text.seats
  flow-is-read texts strings no_text no_string alone string_alone =
      let on = g.options.constructs in
      let h = text-segments g.bytes texts strings on text.seats in
      let k = string-segments g.bytes texts strings alone on text.seats in
      let with_strings : List Event → List Event = λ (half : List Event). with_children (Some content.String) half (map (λ c. strings (chain_text g half c).seats) (fitting_starts (Some content.String) half)) in
      let first = ap (λ (marks : List Mark). let events = linked_from 0 marks in with_read g events (λ c. texts (chain_text g events c).seats)) h.flat_is
      ∙ texts-read (Some content.Text) g (λ o. texts) (λ of. no_text) (λ of. alone) some h.segments h.good start (course-of _ h.seats_is) ∙ ap (linked_from 0) (sym h.deep_is) in
      ap with_strings first ∙ ap (λ (marks : List Mark). with_strings (linked_from 0 marks)) k.flat_is
      ∙ texts-read (Some content.String) g (λ o. strings) (λ of. no_string) (λ of. string_alone) some k.segments k.good start (course-of _ k.seats_is) ∙ ap (linked_from 0) (sym k.deep_is)

  -- and with what all their chains are read as at once, whatever texts and strings are read as
  all-is-read : (texts strings : List Seat → List Event) → texts [] ≡ [] → strings [] ≡ [] → ((seats : List Seat) → HaveNoLinks (texts seats)) → ((seats : List Seat) → HaveNoLinks (strings seats))
      → with_children None flat (map (λ c. by_content g.bytes texts strings (content_at flat c) (chain_text g flat c).seats) (fitting_starts None flat)) ≡ flow_read texts strings g.options.constructs g.bytes text.seats
  all-is-read texts strings no_text no_string alone string_alone =
      let reads = by_content g.bytes texts strings in
      let h = all-segments g.bytes texts strings g.options.constructs text.seats in
      ap (λ (marks : List Mark). let events = linked_from 0 marks in with_children None events (map (λ c. reads (content_at events c) (chain_text g events c).seats) (fitting_starts None events))) h.flat_is
      ∙ texts-read None g reads (λ of. none of) (λ of. links of) some h.segments h.good start (course-of _ h.seats_is) ∙ ap (linked_from 0) (sym h.deep_is)
    where
      none : (of : Content) → by_content g.bytes texts strings (Some of) [] ≡ []
      none content.Flow = no_text
      none content.Content = no_text
      none content.String = no_string
      none content.Text = no_text

      links : (of : Content) (seats : List Seat) → HaveNoLinks (by_content g.bytes texts strings (Some of) seats)
      links content.Flow = alone
      links content.Content = alone
      links content.String = string_alone
      links content.Text = alone

  -- inline text and strings, by which labels are defined: at once, and one behind the other
  module _ (defined : List ℕ → Bool) where
    pub all-inlines-are-read : let on = g.options.constructs in
        with_children None flat (map (λ c. by_content g.bytes (inline_seat_events defined g.options g.bytes) (string_seat_events on g.bytes) (content_at flat c) (chain_text g flat c).seats) (fitting_starts None flat)) ≡ inlines_by defined g text
    all-inlines-are-read =
        all-is-read (inline_seat_events defined g.options g.bytes) (string_seat_events g.options.constructs g.bytes) refl refl (λ seats. inline-alone defined g (text_over seats)) (λ seats. string-alone g (text_over seats))

    pub inlines-are-read-by : with_strings g (with_inlines defined g flat) ≡ inlines_by defined g text
    inlines-are-read-by =
        flow-is-read (inline_seat_events defined g.options g.bytes) (string_seat_events g.options.constructs g.bytes) refl refl (λ seats. inline-alone defined g (text_over seats)) (λ seats. string-alone g (text_over seats))

pub inlines-are-read : InlinesAreRead
inlines-are-read g text is = inlines-are-read-by g text is no_labels
