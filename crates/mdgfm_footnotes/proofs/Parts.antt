-- Calls of a document are those of its parts.
use Rattle.std.proofs.Common.{◌≡◌, ℕ, ◌++◌, Bool, true, false, cond, List, length, refl, sym, ap, ◌∙◌}
use Rattle.std.specs.Prelude.{map}
use Rattle.markdown_base.specs.declared.event.Event.{Event}
use Rattle.markdown_base.specs.Virtual.{point}
use Rattle.mdgfm_literals.specs.Laws.{further_event}
use Rattle.mdgfm_literals.proofs.Order.{pairs-go-all}
use Rattle.mdgfm_literals.proofs.Parts.{begins-further, events-stay, highest, same-link, slice-behind, slice-stays, up-to-highest}
use Rattle.mdgfm_footnotes.specs.CallEvents.{call_events_by, with_calls}
use Rattle.mdgfm_footnotes.specs.Laws.{BytesBehindDoNothing, CallsMove, CallsOfParts}
use Rattle.mdgfm_footnotes.proofs.Both.{with-calls-both}
use Rattle.mdgfm_footnotes.proofs.Further.{with-calls-on}

pub calls-move : CallsMove
calls-move noted options lines before bytes links events no_link = by options.constructs.gfm_label_start_footnote
  where
    go : List Event → List Event
    go = map (further_event links lines (length before))

    by : (t : Bool) → cond t (with_calls noted options.tab_size (before ++ bytes) (go events)) (go events) ≡ go (cond t (with_calls noted options.tab_size bytes events) events)
    by true = with-calls-on links no_link lines (length before) options.tab_size bytes (before ++ bytes) (highest events) (λ i j h. slice-behind before bytes i j) noted events (up-to-highest events)
    by false = refl

pub behind-nothing : BytesBehindDoNothing
behind-nothing noted options bytes behind events up = by options.constructs.gfm_label_start_footnote
  where
    by : (t : Bool) → cond t (with_calls noted options.tab_size (bytes ++ behind) events) events ≡ cond t (with_calls noted options.tab_size bytes events) events
    by true =
        ap (with_calls noted options.tab_size (bytes ++ behind)) (sym (events-stay events))
        ∙ with-calls-on same-link refl 0 0 options.tab_size bytes (bytes ++ behind) (length bytes) (slice-stays bytes behind) noted events up
        ∙ events-stay (with_calls noted options.tab_size bytes events)
    by false = refl

pub of-parts : CallsOfParts
of-parts noted options lines before bytes links xs ys no_link balanced plain up begins order =
    both options.constructs.gfm_label_start_footnote
    ∙ ap (λ (ts : List Event). ts ++ call_events_by noted options all there) (behind-nothing noted options before bytes xs up)
    ∙ ap (λ (ts : List Event). call_events_by noted options before xs ++ ts) (calls-move noted options lines before bytes links ys no_link)
  where
    all : List ℕ
    all = before ++ bytes

    there : List Event
    there = map (further_event links lines (length before)) ys

    both : (t : Bool) → cond t (with_calls noted options.tab_size all (xs ++ there)) (xs ++ there) ≡ cond t (with_calls noted options.tab_size all xs) xs ++ cond t (with_calls noted options.tab_size all there) there
    both true = with-calls-both options.tab_size all noted xs there balanced (pairs-go-all (point 1 1 0 0) (xs ++ there) refl refl order.0) (begins-further links lines (length before) ys begins) plain
    both false = refl
