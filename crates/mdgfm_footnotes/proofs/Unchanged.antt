-- What calls leave as it was: events without the option or without a definition, and their balance. And calls make few events.
use Rattle.std.proofs.Common.{◌≡◌, ℕ, zero, suc, ◌+◌, ◌-◌, ◌*◌, ◌≤◌, ◌++◌, Bool, true, false, cond, List, [], ◌∷◌, length, drop, take, Option, Some, None, refl, sym, ap, ◌∙◌, arith}
use Rattle.std.proofs.lemmas.Bool.{false≢true}
use Rattle.std.specs.List.{AllByRecursion, list_any}
use Rattle.std.specs.Prelude.{◌||◌, slice_range}
use Rattle.markdown_base.proofs.Facts.Bools.{cond-same}
use Rattle.markdown_base.specs.declared.configuration.ParseOptions.{ParseOptions}
use Rattle.markdown_base.specs.declared.event.Event.{Event}
use Rattle.markdown_base.specs.declared.event.Name.TheVariants.{GfmFootnoteCall, GfmFootnoteDefinitionLabelString}
use Rattle.markdown_base.specs.declared.event.Point.{Point}
use Rattle.markdown_base.specs.Events.{IsBalanced}
use Rattle.markdown_base.specs.Virtual.{point}
use Rattle.mdgfm_events.specs.Spans.{span_end, span_size}
use Rattle.mdgfm_literals.specs.declared.texts.Literal.{Literal}
use Rattle.mdgfm_literals.specs.LiteralEvents.{events_with}
use Rattle.mdgfm_literals.specs.Literals.{more_passed}
use Rattle.mdgfm_literals.specs.Stretches.{depth_behind, is_text, reach}
use Rattle.mdgfm_literals.proofs.Balance.{with-balanced}
use Rattle.mdgfm_literals.proofs.Below.{IsUpTo}
use Rattle.mdgfm_literals.proofs.EventSteps.{with-none}
use Rattle.mdgfm_literals.proofs.Few.{with-few}
use Rattle.mdgfm_literals.proofs.Fits.{Ascend}
use Rattle.mdgfm_literals.proofs.Order.{goes-rise, pairs-go-all}
use Rattle.mdgfm_footnotes.specs.CallEvents.{call_events_by, enters, is_one_of, labels_in, with_calls, with_insides}
use Rattle.mdgfm_footnotes.specs.Calls.{call_at, calls_from, calls_of, label_at}
use Rattle.mdgfm_footnotes.specs.Laws.{BalanceIsKept, EventsStayFew, NoDefinitionChangesNothing, OffChangesNothing}
use Rattle.mdgfm_footnotes.proofs.Insides.{insides-balanced, insides-few, insides-none}
use Rattle.mdgfm_footnotes.proofs.Places.{IsAt, calls-at, calls-rise, calls-up-to}

pub off-by : (noted : (label : List ℕ) → Bool) (options : ParseOptions) (bytes : List ℕ) (events : List Event) → options.constructs.gfm_label_start_footnote ≡ false
    → call_events_by noted options bytes events ≡ events
off-by noted options bytes events off = ap (λ b. cond b (with_calls noted options.tab_size bytes events) events) off

pub off-changes-nothing : OffChangesNothing
off-changes-nothing options bytes events = off-by (is_one_of (labels_in bytes events)) options bytes events

-- ---- if no label is defined

module _ (defined : (label : List ℕ) → Bool) (none : (label : List ℕ) → defined label ≡ false) where
  no-call : (text : List ℕ) → call_at defined text ≡ None
  no-call text = by (label_at text)
    where
      by : (o : Option ℕ) → elim o as (λ _. Option ℕ) [ None ↦ None | Some n ↦ cond (defined (take n (drop 2 text))) (Some (n + 3)) None ] ≡ None
      by None = refl
      by (Some n) = ap (λ b. cond b (Some (n + 3)) None) (none (take n (drop 2 text)))

  none-from : (skip at : ℕ) (text : List ℕ) → calls_from defined skip at text ≡ []
  none-from skip at [] = refl
  none-from (suc skip) at (b ∷ bs) = none-from skip (at + 1) bs
  none-from zero at (b ∷ bs) =
      ap (λ (o : Option ℕ). elim o as (λ _. List Literal) [
        | Some n ↦ record { from = at; to = at + n; name = GfmFootnoteCall } ∷ calls_from defined (n - 1) (at + 1) bs
        | None ↦ calls_from defined (more_passed (b ∷ bs)) (at + 1) bs
      ]) (no-call (b ∷ bs))
      ∙ none-from (more_passed (b ∷ bs)) (at + 1) bs

  none-of : (bytes : List ℕ) (depth skip : ℕ) (es : List Event) → calls_of defined bytes depth skip es ≡ []
  none-of bytes depth skip [] = refl
  none-of bytes depth (suc skip) (e ∷ es) = none-of bytes depth skip es
  none-of bytes depth zero (e ∷ es) =
      let r = reach (span_size 0 es) (span_end e.point 0 es).index es in
      by (is_text depth e) (calls_from defined 0 e.point.index (slice_range bytes e.point.index r.stop)) (none-from 0 e.point.index (slice_range bytes e.point.index r.stop))
      (none-of bytes depth r.size es) (none-of bytes (depth_behind depth e) 0 es)
    where
      by : {xs ys : List Literal} (t : Bool) (here : List Literal) → here ≡ [] → xs ≡ [] → ys ≡ [] → cond t (here ++ xs) ys ≡ []
      by {xs} true here h k l = ap (λ (ls : List Literal). ls ++ xs) h ∙ k
      by false here h k l = l

-- without a call events are as they were
pub called-none : (defined : (label : List ℕ) → Bool) (tab : ℕ) (bytes : List ℕ) (events : List Event) → calls_of defined bytes 0 0 events ≡ [] → with_calls defined tab bytes events ≡ events
called-none defined tab bytes events none =
    ap (λ calls. with_insides tab bytes calls (events_with tab bytes 0 0 (point 1 1 0 0) calls events)) none
    ∙ ap (with_insides tab bytes []) (with-none tab bytes 0 0 events)
    ∙ insides-none tab bytes events

pub nothing-noted : (noted : (label : List ℕ) → Bool) (options : ParseOptions) (bytes : List ℕ) (events : List Event) → ((label : List ℕ) → noted label ≡ false)
    → call_events_by noted options bytes events ≡ events
nothing-noted noted options bytes events none =
    let on = options.constructs.gfm_label_start_footnote in
    ap (λ es. cond on es events) (called-none noted options.tab_size bytes events (none-of noted none bytes 0 0 events)) ∙ cond-same on events

pub none-changes-nothing : NoDefinitionChangesNothing
none-changes-nothing options bytes events none = nothing-noted (is_one_of (labels_in bytes events)) options bytes events (λ label. ap (λ ls. is_one_of ls label) none)

-- no event enters the label of a definition, and then there is none; and the other way round
abbrev defines : Event → Bool
defines = enters GfmFootnoteDefinitionLabelString

pub none-defined : (bytes : List ℕ) (es : List Event) → list_any defines es ≡ false → labels_in bytes es ≡ []
none-defined bytes [] h = refl
none-defined bytes (e ∷ es) h = by (defines e) h (none-defined bytes es)
  where
    by : (t : Bool) → (t || list_any defines es) ≡ false → (list_any defines es ≡ false → labels_in bytes es ≡ [])
        → cond t (slice_range bytes e.point.index (span_end e.point 0 es).index ∷ labels_in bytes es) (labels_in bytes es) ≡ []
    by true h more = absurd (false≢true (sym h))
    by false h more = more h

pub defined-none : (bytes : List ℕ) (es : List Event) → labels_in bytes es ≡ [] → list_any defines es ≡ false
defined-none bytes [] h = refl
defined-none bytes (e ∷ es) h = by (defines e) h (defined-none bytes es)
  where
    by : (t : Bool) → cond t (slice_range bytes e.point.index (span_end e.point 0 es).index ∷ labels_in bytes es) (labels_in bytes es) ≡ [] → (labels_in bytes es ≡ [] → list_any defines es ≡ false)
        → (t || list_any defines es) ≡ false
    by true h more = absurd (cc)
    by false h more = more h

-- ---- balance

pub balance-by : (noted : (label : List ℕ) → Bool) (options : ParseOptions) (bytes : List ℕ) (events : List Event) → IsBalanced events → IsBalanced (call_events_by noted options bytes events)
balance-by noted options bytes events b = by options.constructs.gfm_label_start_footnote
  where
    calls : List Literal
    calls = calls_of noted bytes 0 0 events

    by : (t : Bool) → IsBalanced (cond t (with_calls noted options.tab_size bytes events) events)
    by true = insides-balanced options.tab_size bytes calls (events_with options.tab_size bytes 0 0 (point 1 1 0 0) calls events) (with-balanced options.tab_size bytes (point 1 1 0 0) calls events b)
    by false = b

pub balance-kept : BalanceIsKept
balance-kept options bytes events b = balance-by (is_one_of (labels_in bytes events)) options bytes events b

-- ---- calls are few

-- calls that rise up to an index have four bytes each
ascend-few : (bytes : List ℕ) (i most : ℕ) (ls : List Literal) → Ascend i ls → AllByRecursion (IsAt bytes) ls → AllByRecursion (IsUpTo most) ls → i ≤ most → i + 4 * length ls ≤ most
ascend-few bytes i most [] a at all h = let goal : i + 4 * 0 ≤ most = omega (arith, h) in goal
ascend-few bytes i most (l ∷ ls) a at all h =
    let more = ascend-few bytes l.to most ls a.2 at.1 all.1 all.0.1 in
    let low = a.0 in
    let long = at.0.long in
    let goal : i + 4 * suc (length ls) ≤ most = omega (arith, more, low, long) in
    goal

pub events-few : EventsStayFew
events-few options bytes events order inside = by options.constructs.gfm_label_start_footnote
  where
    start : Point
    start = point 1 1 0 0

    defined : (label : List ℕ) → Bool
    defined = is_one_of (labels_in bytes events)

    calls : List Literal
    calls = calls_of defined bytes 0 0 events

    called : List Event
    called = events_with options.tab_size bytes 0 0 start calls events

    by : (t : Bool) → length (cond t (with_calls defined options.tab_size bytes events) events) ≤ 3 * length events + 5 * length bytes
    by true =
        let rise = calls-rise defined bytes 0 0 0 events (goes-rise start events (pairs-go-all start events refl refl order.0)) in
        let many : 0 + 4 * length calls ≤ length bytes = ascend-few bytes 0 (length bytes) calls rise (calls-at defined bytes events) (calls-up-to defined bytes (length bytes) 0 0 events inside) (omega arith) in
        let few : length called ≤ 3 * length events + 4 * length calls = with-few options.tab_size bytes 0 0 start calls events in
        let all : length (with_insides options.tab_size bytes calls called) ≤ length called + 14 * length calls = insides-few options.tab_size bytes calls called in
        let goal : length (with_insides options.tab_size bytes calls called) ≤ 3 * length events + 5 * length bytes = omega (arith, many, few, all) in
        goal
    by false = let goal : length events ≤ 3 * length events + 5 * length bytes = omega arith in goal
