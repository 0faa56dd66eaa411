-- A skeleton as it is written has the labels of a document's footnote definitions; without these it has none.
use Rattle.std.proofs.Common.{◌≡◌, ◌∙◌, ℕ, Bool, true, false, cond, List, [], ◌∷◌, ap, refl, sym, subst}
use Rattle.std.proofs.lemmas.Bool.{false_from_ne_true, false≢true}
use Rattle.std.specs.Prelude.{◌&&◌, slice_range}
use Rattle.markdown_base.proofs.Balanced.{same_name-true}
use Rattle.markdown_base.proofs.Common.{every-map}
use Rattle.markdown_base.specs.declared.configuration.ParseOptions.{ParseOptions}
use Rattle.markdown_base.specs.declared.event.Event.{Event}
use Rattle.markdown_base.specs.declared.event.Name.TheVariants.{GfmFootnoteDefinitionLabelString}
use Rattle.markdown_base.specs.Events.{is_enter}
use Rattle.markdown_base.specs.Virtual.{virtual}
use Rattle.mdblock_definitions.specs.Skeleton.{skeleton}
use Rattle.mdblock_text_lines.proofs.SectionsAreThose.{skeleton-is-that}
use Rattle.mddocument.specs.Documents.{document}
use Rattle.mddocument_laws.proofs.Chosen.{AreOther}
use Rattle.mddocument_laws.proofs.DocumentNames.{skeleton-inside}
use Rattle.mddocument_laws.proofs.Inside.{inside-may, stands_inside}
use Rattle.mddocument_laws.specs.Names.{may_be_named}
use Rattle.mdgfm_events.specs.Spans.{span_end}
use Rattle.mdgfm_footnotes.specs.CallEvents.{labels_in}
use Rattle.mdgfm_sections.proofs.NotesLabels.{is_note}
use Rattle.mdgfm_sections.specs.Notes.{notes_written}

pub skeleton-notes : (options : ParseOptions) (bytes : List ℕ) (events : List Event) → events ≡ skeleton options.constructs bytes (virtual options.tab_size bytes) → labels_in bytes events ≡ notes_written options bytes
skeleton-notes options bytes events is = ap (labels_in bytes) (is ∙ sym (skeleton-is-that (document options bytes)))

-- other events have none
none-noted : (bytes : List ℕ) (es : List Event) → AreOther is_note es → labels_in bytes es ≡ []
none-noted bytes [] h = refl
none-noted bytes (e ∷ es) h = ap (λ b. cond (is_enter e.kind && b) (label ∷ labels_in bytes es) (labels_in bytes es)) h.0 ∙ by (is_enter e.kind) ∙ none-noted bytes es h.1
  where
    label : List ℕ
    label = slice_range bytes e.point.index (span_end e.point 0 es).index

    by : (b : Bool) → cond (b && false) (label ∷ labels_in bytes es) (labels_in bytes es) ≡ labels_in bytes es
    by true = refl
    by false = refl

pub notes-off : (options : ParseOptions) (bytes : List ℕ) → options.constructs.gfm_footnote_definition ≡ false → notes_written options bytes ≡ []
notes-off options bytes off =
    let on = options.constructs in
    let es = skeleton on bytes (virtual options.tab_size bytes) in
    sym (skeleton-notes options bytes es refl)
    ∙ none-noted bytes es
    (every-map (λ (e : Event). stands_inside on e.name ≡ true) (λ (e : Event). is_note e.name ≡ false)
    (λ e may. false_from_ne_true (is_note e.name) (λ is. false≢true (sym off ∙ subst (λ n. may_be_named on n ≡ true) (same_name-true e.name GfmFootnoteDefinitionLabelString is) (inside-may on e.name may)))) es
    (skeleton-inside on bytes (virtual options.tab_size bytes)).all)
