-- A document's own events are no calls and no literals, so none is in its links.
use Rattle.std.proofs.Common.{◌≡◌, Bool, true, false, List, [], ◌∷◌, refl, sym, ap, ◌∙◌}
use Rattle.std.proofs.lemmas.Bool.{false≢true}
use Rattle.std.proofs.lemmas.List.Elements.{recursion_from_All}
use Rattle.std.specs.List.{AllByRecursion}
use Rattle.std.specs.Prelude.{◌||◌}
use Rattle.markdown_base.proofs.Balanced.{same_name-true}
use Rattle.markdown_base.proofs.Common.{every-map}
use Rattle.markdown_base.specs.declared.configuration.Constructs.{Constructs}
use Rattle.markdown_base.specs.declared.event.Event.{Event}
use Rattle.markdown_base.specs.declared.event.Name.{Name}
use Rattle.markdown_base.specs.declared.event.Name.TheVariants.{GfmFootnoteCall}
use Rattle.markdown_base.specs.Events.{same_name}
use Rattle.mddocument.specs.DocumentEvents.{document_events}
use Rattle.mddocument.specs.Documents.{document}
use Rattle.mddocument_laws.proofs.DocumentNames.{documents-named}
use Rattle.mddocument_laws.specs.Names.{may_be_named}
use Rattle.mdgfm_documents.proofs.LinksKept.{links-hold-none}
use Rattle.mdgfm_documents.specs.LinkLaws.{further_links}
use Rattle.mdgfm_literals.specs.Laws.{literal_names}
use Rattle.mdgfm_literals.specs.Stretches.{is_among}
use Rattle.mdgfm_sections.specs.LinkLaws.{NoneIsInLinks}

-- a name that a document may have is none of those that it may not have
none-among : (on : Constructs) (n : Name) (ms : List Name) → AllByRecursion (λ m. may_be_named on m ≡ false) ms → may_be_named on n ≡ true → is_among ms n ≡ false
none-among on n [] h k = refl
none-among on n (m ∷ ms) h k = by (same_name n m) refl (none-among on n ms h.1 k)
  where
    by : (t : Bool) → same_name n m ≡ t → is_among ms n ≡ false → (t || is_among ms n) ≡ false
    by true q more = absurd (false≢true (sym h.0 ∙ ap (may_be_named on) (sym (same_name-true n m q)) ∙ k))
    by false q more = more

pub none-is-in-links : NoneIsInLinks
none-is-in-links options bytes is =
    let g = document options bytes in
    let on = options.constructs in
    links-hold-none options bytes is
    (every-map (λ (e : Event). may_be_named on e.name ≡ true) (λ e. further_links e.name ≡ false)
    (λ e h. none-among on e.name (GfmFootnoteCall ∷ literal_names) (refl, (refl, (refl, (refl, (refl, (refl, tt)))))) h) (document_events g)
    (recursion_from_All (λ (e : Event). may_be_named on e.name ≡ true) (document_events g) (documents-named g)))
