-- What spans keep holds of the events of a full reference.
use Rattle.std.proofs.Common.{◌≡◌, ℕ, ◌-◌, List, Bool, true, false, cond, Some, None, refl, subst, take, drop, length}
use Rattle.std.specs.Option.{option_and_then}
use Rattle.markdown_base.specs.declared.event.Event.{Event}
use Rattle.markdown_base.specs.declared.event.Name.TheVariants.{Reference, ReferenceMarker, ReferenceString}
use Rattle.mdinline_text_machine.proofs.Texts.Built.{IsBuilt, IsKeptBySpans, three}
use Rattle.mdinline_text_machine.specs.Construct.{Found}
use Rattle.mdinline_link_tails.proofs.Resources.Built.{lines-built}
use Rattle.mdinline_link_tails.specs.Resource.{string_events, unmarked}
use Rattle.mdinline_full_references.specs.FullReference.{full_reference, full_reference_grammar, label_length, label_string, label_text}

module _ (bytes : List ℕ) (P : List Event → Type 0) (kept : IsKeptBySpans bytes P) where
  -- the reference
  pub reference-built : (n : ℕ) → IsBuilt bytes P kept (full_reference n)
  reference-built n seats =
      let inside = unmarked bytes seats in
      let string = kept.around ReferenceString inside (string_events bytes inside) refl (lines-built bytes P kept inside) in
      kept.around Reference seats _ refl (three bytes P kept ReferenceMarker ReferenceMarker (take 1 seats) (drop (length seats - 1) seats) (label_string bytes inside) string)

  -- so of one that is found
  pub full-reference-built : (wanted : List ℕ → Bool) (text : List ℕ) (tail : Found) → (full_reference_grammar wanted).front text ≡ Some tail → IsBuilt bytes P kept tail
  full-reference-built wanted text tail is =
      elim (label_length text) as (λ o. option_and_then (λ n. cond (wanted (label_text n text)) (Some (full_reference n)) None) o ≡ Some tail → IsBuilt bytes P kept tail) [
        | None ↦ λ e. absurd (cc)
        | Some n ↦ elim (wanted (label_text n text)) as (λ t. cond t (Some (full_reference n)) None ≡ Some tail → IsBuilt bytes P kept tail) [
          | true ↦ λ e. (let same : full_reference n ≡ tail = cc in subst (IsBuilt bytes P kept) same (reference-built n))
          | false ↦ λ e. absurd (cc)
        ]
      ] is
