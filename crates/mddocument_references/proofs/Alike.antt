-- Two sets that define the same labels leave the same references.
use Rattle.std.proofs.Common.{◌≡◌, ◌∙◌, ℕ, ◌+◌, Bool, List, [], ◌∷◌, refl, ap, cond}
use Rattle.std.specs.Prelude.{◌&&◌, not, drop, take, Option, None, Some, option_and_then}
use Rattle.markdown_base.specs.declared.configuration.Constructs.{Constructs}
use Rattle.markdown_base.specs.declared.event.Event.{Event}
use Rattle.mdinline_labels.specs.Labels.{is_label}
use Rattle.mddocument_link_targets.specs.Strings.{as_written}
use Rattle.mddocument_references.specs.References.{ahead, begun, closed, closes, is_in_text, is_label_ahead, joined, opened, undefined_from, undefined_in}

module _ (on : Constructs) (bytes : List ℕ) (defined others : List ℕ → Bool) (same : (label : List ℕ) → others label ≡ defined label) where
  closed-alike : (from : ℕ) (label behind : List Event) → closed on bytes others from label behind ≡ closed on bytes defined from label behind
  closed-alike from label [] = refl
  closed-alike from label (e ∷ es) =
      let text = as_written bytes label in
      ap (λ is. cond (closes on bytes e && (not (is_label_ahead (drop (e.point.index + 1) bytes)) && (is_label text && not is))) (Some (record { from = from; to = e.point.index })) None) (same text)

  opened-alike : (o : Option ℕ) (label behind : List Event) → option_and_then (λ from. closed on bytes others from label behind) o ≡ option_and_then (λ from. closed on bytes defined from label behind) o
  opened-alike None label behind = refl
  opened-alike (Some from) label behind = closed-alike from label behind

  from-alike : (in_text : Bool) (events : List Event) → undefined_from on bytes others in_text events ≡ undefined_from on bytes defined in_text events
  from-alike in_text [] = refl
  from-alike in_text (e ∷ es) =
      let size = ahead on bytes es in
      ap (λ one. joined (cond in_text one None) (undefined_from on bytes others (is_in_text in_text e) es)) (opened-alike (opened on bytes e) (take size es) (drop size es))
      ∙ ap (joined (cond in_text (begun on bytes defined e es) None)) (from-alike (is_in_text in_text e) es)

  pub undefined-alike : (events : List Event) → undefined_in on bytes others events ≡ undefined_in on bytes defined events
  undefined-alike events = from-alike _ events
