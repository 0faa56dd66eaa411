-- The machine of lines reads each line as a paragraph of data.
use Rattle.mdconstructs_machines.proofs.Prelude.{◌≡◌, ℕ, ◌+◌, ◌∷◌, ◌++◌, [], List, true, false, refl, sym, ◌∙◌, ap, subst, Some, None, slice_get, Event, Enter, Exit, Paragraph, Data, Point, Name, Next, Retry, Ok, FlowStart, ParagraphInside, Seat, Nothing, Byte, End, Given, Text, Configuration, Step, Sight, point_or, whole_text, line_events, lines_rules, paragraph_inside_rows, IsReadAs, event, span, leaf, line_ending, other, counts, EventName}
use Rattle.mdconstructs_machines.specs.Lines.{flow_start_rows}
use Rattle.mdconstructs_machines.proofs.LineReads.Reads.{ReadsLines, from-both}
use Rattle.mdconstructs_machines.proofs.LineReads.Rows.{leads-row, is-class, line-ending-read, two}
use Rattle.mdconstructs_machines.proofs.LineReads.Steps.{EndsWith, held, reads-from}

module _ (g : Given) (text : Text) where
  abbrev step : Sight → Configuration Unit Unit → Name → Step Unit Unit
  step = (lines_rules g).step

  -- the spans of a line
  abbrev in_line : List EventName
  in_line = Paragraph ∷ Data ∷ []

  -- a paragraph of data begins and ends with these events
  abbrev opening : Point → List Event
  opening place = event g.bytes Enter Paragraph place ∷ event g.bytes Enter Data place ∷ []

  abbrev closing : Point → List Event
  closing place = event g.bytes Exit Data place ∷ event g.bytes Exit Paragraph place ∷ []

  abbrev over : List Seat → List Event
  over seats = span g.bytes Paragraph seats (leaf g.bytes Data seats)

  opened : (p : ℕ) (s : Seat) (events : List Event) → slice_get text.seats p ≡ Some s
      → events ++ opening s.point
      ≡ (events ++ event g.bytes Enter Paragraph (point_or text.end (slice_get text.seats p)) ∷ []) ++ event g.bytes Enter Data (point_or text.end (slice_get text.seats p)) ∷ []
  opened p s events at = ap (λ o. events ++ opening (point_or text.end o)) (sym at) ∙ sym (two events _ _)

  reads-lines : ReadsLines g text step FlowStart ParagraphInside in_line opening closing
  reads-lines = record {
    at_end = λ p events local es h. leads-row g text step FlowStart flow_start_rows (λ k. refl) (held [] p End true events local) [] None refl es h;
    at_ending = λ p b events local s at e es h.
        leads-row g text step FlowStart flow_start_rows (λ k. refl) (held [] p Byte b events local) [] (Some line_ending) (is-class g text p s true at e) es
        (subst (λ l. EndsWith g text step (held [] (p + 1) Nothing false l (counts local)) [] (Next FlowStart) es) (sym (line-ending-read g text events p s at)) h);
    begins = λ p b events local s at e es h.
        leads-row g text step FlowStart flow_start_rows (λ k. refl) (held [] p Byte b events local) [] (Some other) (is-class g text p s false at e) es
        (subst (λ l. EndsWith g text step (held in_line p Byte b l (counts local)) [] (Retry ParagraphInside) es) (opened p s events at) h);
    ends_at_end = λ p events local es h.
        leads-row g text step ParagraphInside paragraph_inside_rows (λ k. refl) (held in_line p End true events local) [] None refl es
        (subst (λ l. EndsWith g text step (held [] p End true l (counts local)) [] Ok es) (sym (two events _ _)) h);
    ends_at_ending = λ p b events local s at e es h.
        leads-row g text step ParagraphInside paragraph_inside_rows (λ k. refl) (held in_line p Byte b events local) [] (Some line_ending) (is-class g text p s true at e) es
        (subst (λ l. EndsWith g text step (held [] p Byte b l (counts local)) [] (Retry FlowStart) es) (sym (two events _ _)) h);
    goes_on = λ p b events local s at e es h.
        leads-row g text step ParagraphInside paragraph_inside_rows (λ k. refl) (held in_line p Byte b events local) [] (Some other) (is-class g text p s false at e) es h;
  }

pub lines-read : IsReadAs lines_rules FlowStart line_events
lines-read = reads-from lines_rules FlowStart line_events (λ g local.
    let text = whole_text g in
    (from-both g text (lines_rules g).step FlowStart ParagraphInside (in_line g text) (opening g text) (closing g text) (reads-lines g text) (over g text)
    (record { none = refl; none_ends = refl; some = λ s ss. refl }) text.seats).0 0 false [] local refl)
