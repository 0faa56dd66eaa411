-- The label in a span is the first data in it.
use Rattle.std.proofs.Common.{◌≡◌, ℕ, suc, ◌-◌, ◌≤◌, List, [], ◌∷◌, drop, get_or, length, take, Some, ap, sym, refl, ◌∙◌, arith}
use Rattle.std.proofs.lemmas.List.{take_rest}
use Rattle.std.proofs.lemmas.Option.{none-some, same_Some}
use Rattle.std.specs.List.{slice_range}
use Rattle.std.specs.Prelude.{true, cond, slice_get}
use Rattle.markdown_base.specs.declared.event.Event.{Event}
use Rattle.markdown_base.specs.declared.event.Kind.{Kind}
use Rattle.markdown_base.specs.declared.event.Kind.TheVariants.{Enter, Exit}
use Rattle.markdown_base.specs.declared.event.Name.TheVariants as name
use Rattle.mdinline_labels.specs.Labels.{normalised}
use Rattle.mddocument_link_targets.proofs.SpanEnds.{at_enter, at_exit}
use Rattle.mddocument_link_targets.specs.Spans.{enters, size_from}
use Rattle.mdhtml_document.specs.Notes.{label_in}

-- the label in spans, of which so many are open
abbrev pub label_from : (bytes : List ℕ) → (depth : ℕ) → List Event → List ℕ
label_from bytes depth es = label_in bytes (take (size_from depth es) es)

module _ (bytes : List ℕ) where
  found-by : (k : Kind) (d : ℕ) (e f : Event) (fs : List Event) → f.kind ≡ k → enters name.Data e ≡ true
      → label_in bytes (e ∷ take (size_from (suc d) (f ∷ fs)) (f ∷ fs)) ≡ normalised (slice_range bytes e.point.index f.point.index)
  found-by Enter d e f fs h is =
      ap (λ n. label_in bytes (e ∷ take n (f ∷ fs))) (at_enter (suc d) f fs h)
      ∙ ap (λ b. cond b (normalised (slice_range bytes e.point.index f.point.index)) (label_in bytes (f ∷ take (size_from (suc (suc d)) fs) fs))) is
  found-by Exit d e f fs h is =
      ap (λ n. label_in bytes (e ∷ take n (f ∷ fs))) (at_exit d f fs h)
      ∙ ap (λ b. cond b (normalised (slice_range bytes e.point.index f.point.index)) (label_in bytes (f ∷ take (size_from d fs) fs))) is

  label-found : (d : ℕ) (e f : Event) (fs : List Event) → e.kind ≡ Enter → enters name.Data e ≡ true → label_from bytes d (e ∷ (f ∷ fs)) ≡ normalised (slice_range bytes e.point.index f.point.index)
  label-found d e f fs h is = ap (λ n. label_in bytes (take n (e ∷ (f ∷ fs)))) (at_enter d e (f ∷ fs) h) ∙ found-by f.kind d e f fs refl is

  -- an event that enters data, by the events from it on
  pub step-found : (d : ℕ) (filler : Event) (f : Event) (rest : List Event) → 1 ≤ length rest → (get_or rest 0 filler).kind ≡ Enter → enters name.Data (get_or rest 0 filler) ≡ true
      → Some f ≡ slice_get (take (length rest - 1) (drop 1 rest)) 0
      → label_from bytes d rest ≡ normalised (slice_range bytes (get_or rest 0 filler).point.index f.point.index)
  step-found d filler f [] some h is first = absurd (omega (arith, some))
  step-found d filler f (e ∷ []) some h is first = absurd (none-some f (sym (first ∙ ap (λ es. slice_get es 0) (take_rest (e ∷ []) 1))))
  step-found d filler f (e ∷ (g ∷ gs)) some h is first =
      let same : f ≡ g = same_Some f g (first ∙ ap (λ es. slice_get es 0) (take_rest (e ∷ (g ∷ gs)) 1)) in
      label-found d e g gs h is ∙ ap (λ (x : Event). normalised (slice_range bytes e.point.index x.point.index)) (sym same)
