-- Links and images as they are made: one leads to a destination if its tail has a resource, and else to a label; if that is defined, the events of the link lead well.
use Rattle.mddocument_rules.proofs.Prelude.{◌≡◌, ◌∙◌, ℕ, Bool, true, cond, List, [], ◌∷◌, ◌++◌, None, Some, ap, and_parts, false≢true, refl, sym, ◌&&◌, Enter, Event, Exit, IsBalanced, IsBalanced-append, Run, empty, unlinked_event}
use Rattle.markdown_base.specs.declared.event.Name.TheVariants.{Image, Label, LabelImage, LabelText, Link, Resource, ReferenceString}
use Rattle.mdinline_labels.specs.Labels.{is_label, normalised}
use Rattle.mdinline_links.proofs.Kept.{AreParts as AreKeptParts, parts-emphasised}
use Rattle.mdinline_links.proofs.Leaves.{around-balanced, balanced-is-kept}
use Rattle.mdinline_links.specs.Between.{AreParts as ArePlaced}
use Rattle.mdinline_links.specs.Kept.{IsFresh}
use Rattle.mdinline_links.specs.Linked.{Part, around, emphasised_parts, events, is_named, label_text, last_place, made, run}
use Rattle.mdinline_links.specs.Places.{Anywhere}
use Rattle.mddocument_laws.proofs.Chosen.{AreOther}
use Rattle.mddocument_link_targets.specs.declared.targets.Target.{Target}
use Rattle.mddocument_link_targets.specs.declared.targets.Target.TheVariants as target
use Rattle.mddocument_link_targets.specs.Spans.{first_in}
use Rattle.mddocument_link_targets.specs.Strings.{as_written}
use Rattle.mddocument_link_targets.specs.Targets.{label_of, resource_parts, target_behind, target_in}
use Rattle.mddocument_rules.proofs.HeldParts.{Hold, inside-holds}
use Rattle.mddocument_rules.proofs.Leading.{Lead, LeadsWell, is_reference, lead-around, lead-both, lead-free, references-apart}
use Rattle.mddocument_rules.proofs.MadeTexts.{in-span, made-by-texts}
use Rattle.mddocument_rules.specs.LinkLaws.{EntersNone}

-- ---- what is made of balanced parts is balanced
module _ (Q : Type 0) (B : Q → List Event → Q → Type 0) (R : Q → Run → Q → Type 0) where
  parts-kept : (p q : Q) (ps : List Part) → ArePlaced Q B R p ps q → AreKeptParts Anywhere IsBalanced IsFresh balanced-is-kept ps
  parts-kept p q [] h = tt
  parts-kept p q (run r ∷ ps) h = (h.1.1, parts-kept h.0 q ps h.2)
  parts-kept p q (events es ∷ ps) h = (h.1.1, parts-kept h.0 q ps h.2)

  pub parts-balanced : (p q : Q) (ps : List Part) → ArePlaced Q B R p ps q → IsBalanced (emphasised_parts ps)
  parts-balanced p q ps h = parts-emphasised Anywhere IsBalanced IsFresh balanced-is-kept ps (parts-kept p q ps h)

text-balanced : (o f : Event) (os fs : List Event) (ps : List Part) → IsBalanced (emphasised_parts ps) → IsBalanced (label_text (o ∷ os) (f ∷ fs) ps)
text-balanced o f os fs [] b = empty
text-balanced o f os fs (p ∷ ps) b =
    let start = last_place o.point os in
    let text = emphasised_parts (p ∷ ps) in
    around-balanced LabelText start (last_place start text) text b

module _ (bytes : List ℕ) (defined : List ℕ → Bool) where
  abbrev pub Held : List Part → Type 0
  Held ps = Hold is_reference references-apart (Lead bytes defined) (lead-both bytes defined) (lead-free bytes defined) ps

  -- a bracket, the parts behind it, an end and a tail
  module _ (o f : Event) (os fs : List Event) (ps : List Part) (tail : List Event) (opens : IsBalanced (o ∷ os)) (closes : IsBalanced (f ∷ fs)) (text : IsBalanced (emphasised_parts ps)) (tail_is : IsBalanced tail) where
    abbrev pub own : List Event
    own = (o ∷ os) ++ (label_text (o ∷ os) (f ∷ fs) ps ++ f ∷ fs)

    abbrev pub in_link : List Event
    in_link = around Label own ++ tail

    own-balanced : IsBalanced own
    own-balanced = IsBalanced-append (o ∷ os) (label_text (o ∷ os) (f ∷ fs) ps ++ f ∷ fs) opens (IsBalanced-append (label_text (o ∷ os) (f ∷ fs) ps) (f ∷ fs) (text-balanced o f os fs ps text) closes)

    link-balanced : IsBalanced in_link
    link-balanced =
        let end = last_place o.point (os ++ (label_text (o ∷ os) (f ∷ fs) ps ++ f ∷ fs)) in
        IsBalanced-append (around Label own) tail (around-balanced Label o.point end own own-balanced) tail_is

    leads-to : target_in bytes in_link ≡ target_behind bytes own tail
    leads-to =
        let end = last_place o.point (os ++ (label_text (o ∷ os) (f ∷ fs) ps ++ f ∷ fs)) in
        let cut = in-span Label o.point end own tail own-balanced in
        λ i. target_behind bytes (cut.0 i) (cut.1 i)

    -- with a resource it leads to no label
    pub by-resource : (r : List Event) → first_in Resource tail ≡ Some r → LeadsWell bytes defined in_link
    by-resource r there label e =
        let leads : target_behind bytes own tail ≡ target.Parts (resource_parts bytes r) =
        ap (λ o. elim o as (λ _. Target) [ None ↦ target.Label (label_of bytes own tail) | Some r ↦ target.Parts (resource_parts bytes r) ]) there in
        absurd (let no : target.Parts (resource_parts bytes r) ≡ target.Label label = sym leads ∙ sym leads-to ∙ e in cc)

    -- else to a label
    to-label : (text : List ℕ) → target_in bytes in_link ≡ target.Label (normalised text) → defined text ≡ true → LeadsWell bytes defined in_link
    to-label text leads is label e = (text, (let same : label ≡ normalised text = (let both : target.Label label ≡ target.Label (normalised text) = sym e ∙ leads in cc) in same), is)

    pub by-label : (text : List ℕ) → target_behind bytes own tail ≡ target.Label (normalised text) → defined text ≡ true → LeadsWell bytes defined in_link
    by-label text leads is = to-label text (leads-to ∙ leads) is

    -- So the link leads well, if what is in it does
    pub made-leads : AreOther is_reference (o ∷ os) → AreOther is_reference (f ∷ fs) → AreOther is_reference tail → Held ps → LeadsWell bytes defined in_link → Lead bytes defined (made (o ∷ os) ps (f ∷ fs) tail)
    made-leads opener close tailed held leads =
        let name = cond (is_named LabelImage (o ∷ os)) Image Link in
        let whole = inside-holds is_reference references-apart (Lead bytes defined) (lead-both bytes defined) (lead-free bytes defined) (o ∷ os) ps (f ∷ fs) tail opener held close tailed in
        let more = os ++ (label_text (o ∷ os) (f ∷ fs) ps ++ f ∷ fs) in
        let end = last_place o.point more in
        lead-around bytes defined name (unlinked_event Enter Label o.point) ((own ++ unlinked_event Exit Label end ∷ []) ++ tail) refl link-balanced leads whole

  -- with neither a resource nor a label behind it, to its own text
  pub by-text : (o f : Event) (os fs : List Event) (ps : List Part) (tail : List Event) (opens : IsBalanced (o ∷ os)) (closes : IsBalanced (f ∷ fs)) (text : IsBalanced (emphasised_parts ps)) (tail_is : IsBalanced tail)
      → EntersNone LabelText (o ∷ os) → first_in Resource tail ≡ None → first_in ReferenceString tail ≡ None → (is_label (as_written bytes (emphasised_parts ps)) && defined (as_written bytes (emphasised_parts ps))) ≡ true
      → LeadsWell bytes defined (in_link o f os fs ps tail opens closes text tail_is)
  by-text o f os fs [] tail opens closes text tail_is none resource string is = absurd (false≢true is)
  by-text o f os fs (p ∷ ps) tail opens closes text tail_is none resource string is =
      let own = as_written bytes (emphasised_parts (p ∷ ps)) in
      to-label o f os fs (p ∷ ps) tail opens closes text tail_is own (made-by-texts bytes o os p ps f fs tail opens closes tail_is text none resource string) (and_parts (is_label own) (defined own) is).1
