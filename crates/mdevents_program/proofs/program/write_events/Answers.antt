use Rattle.mdevents_program.proofs.Prelude.{ℕ, take, refl, Appends, Keeps-refl, IfErr-at_err, err_from_is_err_and, on_ok_weaker, printed_events, ArePrintedEvents}
use Rattle.mdevents_program.proofs.program.write_events.Given
use Rattle.mdevents_program.proofs.program.write_events.Goals as goal

module _ (g : Given.Over) (c : goal.After-drop-bytes-2 g) where
  -- what was read, and its events as they are printed
  made : ArePrintedEvents c.args.choice.now (g.R.Read.remaining c.args.reader.now) (g.R.Read.remaining c.read_to_end.new.reader) (printed_events c.in_ok-events.events.items)
  made = record {
    bytes = c.in_ok-bytes.bytes.items;
    read = record { all = c.in_ok-bytes.ensures.all; end = c.in_ok-bytes.ensures.end; within = c.in_ok-bytes.ensures.within };
    events = c.in_ok-events.events.items;
    are = rw c.as_slice.ensures.value at c.in_ok-events.ensures;
    lines = refl;
  }

pub returns-in_err-events-clause-nothing : goal.returns-in_err-events-clause-nothing
returns-in_err-events-clause-nothing g c =
    let (failure, is, same) = err_from_is_err_and c.from_residual-in_err-events.result c.from_residual-in_err-events.ensures.1 in
    rw is (λ _. Keeps-refl _)

pub returns-clause-written : goal.returns-clause-written
returns-clause-written g c = on_ok_weaker c.write_lines.result
    (λ written. record { text = printed_events c.in_ok-events.events.items; made = made g c; written = rw c.as_slice-2.ensures.value at written })
    c.write_lines.ensures.all

pub returns-clause-cut_short : goal.returns-clause-cut_short
returns-clause-cut_short g c = λ e.
    let (count, written) = IfErr-at_err (λ _. (count : ℕ) × Appends (g.W.Write.contents c.args.writer.now) (g.W.Write.contents c.write_lines.new.writer) (take count (printed_events c.in_ok-events.events.items))) e
    (rw c.as_slice-2.ensures.value at c.write_lines.ensures.failed) in
    record { text = printed_events c.in_ok-events.events.items; made = made g c; count = count; written = written }
