-- Events that enter neither a link nor an image refer to nothing.
use Rattle.std.proofs.Common.{◌≡◌, ℕ, List, ◌∷◌, ap, sym, refl, ◌∙◌, arith}
use Rattle.std.proofs.lemmas.Bool.{or_parts}
use Rattle.std.specs.Prelude.{◌&&◌, ◌||◌, Bool, true, false}
use Rattle.markdown_base.specs.declared.event.Event.{Event}
use Rattle.markdown_base.specs.declared.event.Kind.{Kind}
use Rattle.markdown_base.specs.declared.event.Kind.TheVariants.{Enter, Exit}
use Rattle.markdown_base.specs.declared.event.Name.{Name}
use Rattle.markdown_base.specs.declared.event.Name.TheVariants as name
use Rattle.markdown_base.specs.Events.{is_enter, same_name}
use Rattle.mdhtml_document.specs.declared.names.Inline.TheVariants as inline
use Rattle.mdhtml_document.specs.Html.{referred}
use Rattle.mdhtml_document.specs.Names.{inline_of, inlines_by_name}
use Rattle.mdhtml_document.specs.Walks.{left, references_from}
use Rattle.mdhtml_document.proofs.AltFacts.{enter-references, exit-references}
use Rattle.mdhtml_document.proofs.Entered.{named-each}
use Rattle.mddocument_link_targets.specs.Spans.{inside}
use Rattle.mddocument_link_targets.specs.Targets.{enters_link}

no : {A : Type 0} (b : Bool) → b ≡ false → b ≡ true → A
no true h k = cc
no false h k = cc

module _ (bytes : List ℕ) (size : (label : List ℕ) → ℕ) where
  by-name : (n : Name) (es : List Event) → same_name n name.Link ≡ false → same_name n name.Image ≡ false
      → (referred bytes size (inline_of n) (inside es) 0 ≡ 0) × (left (inline_of n) es ≡ 0)
  by-name n es link image =
      named-each (λ i. (referred bytes size i (inside es) 0 ≡ 0) × (left i es ≡ 0)) inlines_by_name inline.Other n
      (λ _. (refl, refl), (λ _. (refl, refl), (λ _. (refl, refl), (λ _. (refl, refl), (λ _. (refl, refl), (λ _. (refl, refl), (λ _. (refl, refl), (λ _. (refl, refl), (λ _. (refl, refl), (λ _. (refl, refl), (λ _. (refl, refl), (λ _. (refl, refl), (λ _. (refl, refl), (λ _. (refl, refl), (λ h. no (same_name n name.Link) link h, (λ h. no (same_name n name.Image) image h, (λ _. (refl, refl), (λ _. (refl, refl), (λ _. (refl, refl), (λ _. (refl, refl), tt))))))))))))))))))))
      (refl, refl)

  by-kind : (k : Kind) (e : Event) (es : List Event) → e.kind ≡ k → enters_link e ≡ false → references_from bytes size 0 (e ∷ es) ≡ references_from bytes size 0 es
  by-kind Exit e es kind h = exit-references bytes size e es kind
  by-kind Enter e es kind h =
      let names : same_name e.name name.Link || same_name e.name name.Image ≡ false =
      sym (ap (λ k. (is_enter k && same_name e.name name.Link) || (is_enter k && same_name e.name name.Image)) kind) ∙ h
      in
      let others = or_parts (same_name e.name name.Link) (same_name e.name name.Image) names in
      let none = by-name e.name es others.0 others.1 in
      let whole = enter-references bytes size e es kind in
      let rest = ap (λ m. references_from bytes size m es) none.1 in
      let own = none.0 in
      omega (arith, whole, rest, own)

  pub unreferred : (e : Event) (es : List Event) → enters_link e ≡ false → references_from bytes size 0 (e ∷ es) ≡ references_from bytes size 0 es
  unreferred e es h = by-kind e.kind e es refl h
