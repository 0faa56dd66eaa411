-- Which events enter delimiter runs, by the markers whose runs are on: each stands at such a marker.
use Rattle.std.proofs.Common.{◌≡◌, ℕ, List, ◌∷◌, Some, true, false, ap, ◌∙◌, subst, sym}
use Rattle.std.proofs.lemmas.Bool.{and_parts, false≢true}
use Rattle.std.specs.List.{AllByRecursion}
use Rattle.std.specs.Prelude.{slice_get}
use Rattle.markdown_base.proofs.Common.{every-map}
use Rattle.markdown_base.specs.declared.configuration.Constructs.{Constructs}
use Rattle.markdown_base.specs.declared.event.Event.{Event}
use Rattle.markdown_base.specs.declared.event.Name.TheVariants.{AttentionSequence}
use Rattle.markdown_base.specs.declared.event.Point.{Point}
use Rattle.markdown_base.specs.Events.{is_enter, same_name}
use Rattle.markdown_base.specs.Places.{shown}
use Rattle.markdown_base.specs.Virtual.{Seat}
use Rattle.mdinline_emphasis.specs.declared.pairs.Marker.{Marker}
use Rattle.mdinline_emphasis.specs.Runs.{marker_from}
use Rattle.mdinline_machine.specs.RunRows.{begins_run, is_delimiter, marker_is_on}
use Rattle.mdconstructs_machines.specs.Spans.{leaf}
use Rattle.mddocument.proofs.FlowTexts.InlineSteps.{Steps}
use Rattle.mddocument_laws.specs.Ranks.{enters}
use Rattle.mddocument_laws.proofs.Named.{Named}
use Rattle.mddocument_laws.proofs.SpanNames.{May, no-run}

module _ (on : Constructs) where
  -- runs of a marker are on
  abbrev pub IsMarkerOn : Marker → Type 0
  IsMarkerOn m = marker_is_on m on ≡ true

  module _ (bytes : List ℕ) where
    -- an event that enters a run stands at a marker whose runs are on
    abbrev pub MayRun : Event → Type 0
    MayRun e = enters AttentionSequence e ≡ true → IsMarkerOn (marker_from (slice_get bytes e.point.index))

    other-may : (e : Event) → same_name e.name AttentionSequence ≡ false → MayRun e
    other-may e o h = absurd (false≢true (sym o ∙ (and_parts (is_enter e.kind) (same_name e.name AttentionSequence) h).1))

    -- so it is of events with other names
    pub others-may : (es : List Event) → AllByRecursion (λ (e : Event). same_name e.name AttentionSequence ≡ false) es → AllByRecursion MayRun es
    others-may es h = every-map (λ (e : Event). same_name e.name AttentionSequence ≡ false) MayRun other-may es h

    pub named-may : (es : List Event) → Named (May on) es → AllByRecursion MayRun es
    named-may es h = every-map (λ (e : Event). May on e.name) MayRun (λ e p. other-may e (no-run on e.name p)) es h.all

    -- and of a run over virtual bytes that begin with such a marker
    pub run-may : (s : Seat) (ss : List Seat) → begins_run on s.byte ≡ true → Steps bytes s → AllByRecursion MayRun (leaf bytes AttentionSequence (s ∷ ss))
    run-may s ss begins steps =
        let b = and_parts (is_delimiter s.byte) (marker_is_on (marker_from (Some s.byte)) on) begins in
        let step = steps b.0 in
        let here : IsMarkerOn (marker_from (slice_get bytes (shown bytes s.point).index)) =
        subst (λ o. IsMarkerOn (marker_from o)) (sym (ap (λ (p : Point). slice_get bytes p.index) step.1 ∙ step.2)) b.1 in
        ((λ e. here), ((λ e. absurd (false≢true e)), tt))
