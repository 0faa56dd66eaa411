-- The labels of footnote definitions of a document that is cut at rests are those of its parts.
use Rattle.std.proofs.Common.{◌≡◌, ◌∙◌, ℕ, ◌+◌, ◌≤◌, ◌++◌, Bool, true, false, cond, List, [], ◌∷◌, length, map, append-nil, ap, refl, sym, arith}
use Rattle.std.proofs.lemmas.Bool.{and_parts}
use Rattle.std.specs.Prelude.{◌&&◌, nat_le, slice_range}
use Rattle.markdown_base.proofs.Common.{every-map}
use Rattle.markdown_base.specs.declared.configuration.ParseOptions.{ParseOptions}
use Rattle.markdown_base.specs.declared.event.Event.{Event}
use Rattle.markdown_base.specs.declared.event.Name.TheVariants.{GfmFootnoteDefinitionLabelString}
use Rattle.markdown_base.specs.declared.event.Point.{Point}
use Rattle.markdown_tokenizer.specs.Text.{IsDocument}
use Rattle.mddocument.specs.Documents.{document}
use Rattle.mddocument_parts.proofs.BothDocuments.{document-events-of-both, no-events, rest-begins}
use Rattle.mddocument_parts.proofs.DocumentBytes.{document-first-line-tells}
use Rattle.mddocument_parts.proofs.DocumentParts.{behind-document, front-document}
use Rattle.mddocument_parts.proofs.Sections.{rest-ahead}
use Rattle.mddocument_parts.specs.BothDocuments.{events_by, is_rest}
use Rattle.mddocument_parts.specs.Moved.{line_endings, moved_event, moved_link}
use Rattle.mddocument_parts.specs.Sections.{are_sections_by, document_of}
use Rattle.mdgfm_documents.proofs.DocumentAhead.{document-inside}
use Rattle.mdgfm_documents.proofs.TasksAhead.{IsInside}
use Rattle.mdgfm_events.specs.Spans.{span_end}
use Rattle.mdgfm_footnotes.specs.CallEvents.{enters, labels_in}
use Rattle.mdgfm_literals.proofs.Below.{AreUpTo, end-below}
use Rattle.mdgfm_literals.proofs.Further.{end-on}
use Rattle.mdgfm_literals.proofs.Parts.{slice-behind, slice-stays}
use Rattle.mdgfm_sections.proofs.NotesLabels.{notes-both}
use Rattle.mdgfm_sections.proofs.NotesOfEvents.{events-balanced, notes-of-events}
use Rattle.mdgfm_sections.specs.Notes.{NotesOfSections, notes_written}

-- ---- any events

-- behind other bytes, further on, labels are the same
notes-moved : (a b : List ℕ) (lines events : ℕ) (es : List Event) → labels_in (a ++ b) (map (moved_event lines (length a) events) es) ≡ labels_in b es
notes-moved a b lines events [] = refl
notes-moved a b lines events (e ∷ es) =
    let i = e.point.index in
    let end = end-on (moved_link events) refl lines (length a) e.point 0 es in
    let there = ap (λ (p : Point). slice_range (a ++ b) (i + length a) p.index) end ∙ slice-behind a b i (span_end e.point 0 es).index in
    let more = notes-moved a b lines events es in
    (λ k. cond (enters GfmFootnoteDefinitionLabelString e) (there k ∷ more k) (more k))

-- bytes behind do nothing
notes-front : (a b : List ℕ) (es : List Event) → AreUpTo (length a) es → labels_in (a ++ b) es ≡ labels_in a es
notes-front a b [] h = refl
notes-front a b (e ∷ es) h =
    let i = e.point.index in
    let j = (span_end e.point 0 es).index in
    let first : i ≡ i + 0 = omega arith in
    let last : j ≡ j + 0 = omega arith in
    let there = ap (λ k. slice_range (a ++ b) k j) first ∙ ap (λ k. slice_range (a ++ b) (i + 0) k) last ∙ slice-stays a b i j (end-below (length a) e.point 0 es h.0 h.1) in
    let more = notes-front a b es h.1 in
    (λ k. cond (enters GfmFootnoteDefinitionLabelString e) (there k ∷ more k) (more k))

-- ---- documents
module _ (options : ParseOptions) where
  -- no label of a link is defined
  none : List ℕ → Bool
  none label = false

  abbrev read : List ℕ → List Event
  read = events_by options none

  within : (bytes : List ℕ) → IsDocument (document options bytes) → AreUpTo (length bytes) (read bytes)
  within bytes is = every-map (λ (e : Event). IsInside options.tab_size (length bytes) e.point) (λ (e : Event). e.point.index ≤ length bytes) (λ e h. h.0) (read bytes) (document-inside (document options bytes) is none)

  -- Those of both parts
  pub notes-of-both : (a b : List ℕ) → IsDocument (document options (a ++ b)) → is_rest options a b ≡ true → notes_written options (a ++ b) ≡ notes_written options a ++ notes_written options b
  notes-of-both a b is rest =
      let front = front-document options a b is in
      let behind = behind-document options a b is in
      let xs = read a in
      let ys = read b in
      let first = notes-front a b xs (within a front) ∙ notes-of-events options none a front in
      let second = notes-moved a b (line_endings a) (length xs) ys ∙ notes-of-events options none b behind in
      sym (notes-of-events options none (a ++ b) is)
      ∙ ap (labels_in (a ++ b)) (document-events-of-both none options a b is rest)
      ∙ notes-both (a ++ b) xs (map (moved_event (line_endings a) (length a) (length xs)) ys) (events-balanced options none a front)
      ∙ (λ k. first k ++ second k)

pub notes-of-sections : NotesOfSections
notes-of-sections options [] is h = sym (notes-of-events options (none options) [] is) ∙ ap (labels_in []) (no-events (none options) options)
notes-of-sections options (s ∷ []) is h = ap (notes_written options) (append-nil s) ∙ sym (append-nil (notes_written options s))
notes-of-sections options (s ∷ next ∷ more) is h =
    let behind = (and_parts (nat_le 1 (length s)) (is_rest options s next && are_sections_by (is_rest options) (next ∷ more)) h).1 in
    let both = and_parts (is_rest options s next) (are_sections_by (is_rest options) (next ∷ more)) behind in
    let rest = rest-ahead (is_rest options) (rest-begins options) (document-first-line-tells options.constructs options.tab_size) s next more both.0 both.1 in
    notes-of-both options s (document_of (next ∷ more)) is rest
    ∙ ap (λ l. notes_written options s ++ l) (notes-of-sections options (next ∷ more) (behind-document options s (document_of (next ∷ more)) is) both.1)
