use Rattle.mdevents_program.proofs.Prelude.{arith, ◌<◌, length-append, ◌≡◌, ◌≤◌, ◌++◌, ◌+◌, ◌∷◌, ℕ, List, [], length, take, drop, Option, refl, sym, subst, ◌∙◌, ap, append_assoc, append-nil, take-append-drop, Appends, Appends-nil, Appends-trans, flat_map-append, take_at, take_all, take_more, err_from_is_err_and, on_ok_weaker, on_err_weaker, Event, event_line, printed_events}
use Rattle.mdevents_program.proofs.write.write_lines.Goals as goal

-- what was written and a part of what waited are a beginning of all that these begin
beginning : (text waited rest all : List ℕ) (count : ℕ) → (text ++ waited) ++ rest ≡ all → take (length (text ++ take count waited)) all ≡ text ++ take count waited
beginning text waited rest all count e =
    let front = text ++ take count waited in
    let split : front ++ (drop count waited ++ rest) ≡ all =
    append_assoc text (take count waited) (drop count waited ++ rest) ∙ ap (λ x. text ++ x) (sym (append_assoc (take count waited) (drop count waited) rest) ∙ ap (λ x. x ++ rest) (take-append-drop count waited))
    ∙ sym (append_assoc text waited rest) ∙ e in
    ap (λ x. take (length front) x) (sym split) ∙ take_at front (drop count waited ++ rest) (length front) refl

-- the line of one more event
next-line : (events : List Event) (n : ℕ) (e : Event) → take (n + 1) events ≡ take n events ++ e ∷ [] → printed_events (take (n + 1) events) ≡ printed_events (take n events) ++ event_line e
next-line events n e more = ap printed_events more ∙ flat_map-append event_line (take n events) (e ∷ []) ∙ ap (λ x. printed_events (take n events) ++ x) (append-nil (event_line e))

-- a line comes after what still waits, if a part of that was written
joined : (text more waited left line all : List ℕ) → text ++ waited ≡ all → more ++ left ≡ waited → (text ++ more) ++ (left ++ line) ≡ all ++ line
joined text more waited left line all e f = sym (append_assoc (text ++ more) left line) ∙ ap (λ x. x ++ line) (append_assoc text more left ∙ ap (λ x. text ++ x) f ∙ e)

module _ (events : List Event) (n : ℕ) (a b c : Option (List ℕ)) (text waited : List ℕ) (first : Appends a b text) (e : text ++ waited ≡ printed_events (take n events)) where
  -- a writer that took a part of what waited has a beginning of all lines
  cut-short : (count : ℕ) → Appends b c (take count waited) → (count : ℕ) × Appends a c (take count (printed_events events))
  cut-short count second =
      let rest = printed_events (drop n events) in
      let split = ap (λ x. x ++ rest) e ∙ sym (flat_map-append event_line (take n events) (drop n events)) ∙ ap printed_events (take-append-drop n events) in
      let whole = beginning text waited rest (printed_events events) count split in
      (length (text ++ take count waited), subst (Appends a c) (sym whole) (Appends-trans a b c text (take count waited) first second))

  -- a writer that took what waited after the last event has all lines
  whole : length events ≤ n → Appends b c waited → Appends a c (printed_events events)
  whole last second = subst (Appends a c) (e ∙ ap printed_events (take_all n events last)) (Appends-trans a b c text waited first second)

-- if lines wait, they are of some event
some-event : (events : List Event) (text waited : List ℕ) → text ++ waited ≡ printed_events events → 0 < length waited → 0 < length events
some-event [] text waited e some = omega (arith, ap length e, length-append text waited, some)
some-event (event ∷ events) text waited e some = omega arith

pub loop-event-init : goal.loop-event-init
loop-event-init g c = ([], Appends-nil _, c.new-lines.ensures)

pub loop-event-preserved : goal.loop-event-preserved
loop-event-preserved g c =
    let (text, first, e) = c.loop-event.invariant in
    let (more, second, f) = c.in_ok-make_room.ensures.passed in
    let n = c.loop-event.event-index in let events = c.args.events.now in (
      text ++ more,
      Appends-trans _ _ _ text more first second,
      ap (λ x. (text ++ more) ++ x) c.push_line.ensures ∙ joined text more _ _ _ _ e f ∙ sym (next-line events n _ (take_more events n _ c.loop-event-test.true)),
    )

pub returns-in_err-make_room-clause-failed : goal.returns-in_err-make_room-clause-failed
returns-in_err-make_room-clause-failed g c =
    let (failure, is, same) = err_from_is_err_and c.from_residual.result c.from_residual.ensures.1 in
    let (text, first, e) = c.loop-event.invariant in
    let (count, second) = c.in_err-make_room.ensures.failed in
    rw is (cut-short c.args.events.now c.loop-event.event-index _ _ _ text _ first e count second)

pub returns : goal.returns
returns g c =
    let events = c.args.events.now in
    let (text, first, e) = c.loop-event.invariant in
    let same = ap (λ x. text ++ x) c.as_slice.ensures ∙ e in
    let all = same ∙ ap printed_events (take_all c.loop-event.event-index events c.loop-event-test.false) in record {
      all = on_ok_weaker c.write_all.result (whole events c.loop-event.event-index _ _ _ text _ first same c.loop-event-test.false) c.write_all.ensures.all;
      failed = on_err_weaker c.write_all.result (λ (count, second). cut-short events c.loop-event.event-index _ _ _ text _ first same count second) c.write_all.ensures.failed;
      cause = c.write_all.ensures.cause;
      asked = on_err_weaker c.write_all.result (λ some. some-event events text _ all some) c.write_all.ensures.asked;
    }
