-- What GFM adds to the sections of a document is what it adds to the document.
use Rattle.std.proofs.Common.{◌≡◌, ◌∙◌, ℕ, ◌++◌, Bool, true, false, cond, List, [], ◌∷◌, length, map, ap, refl, sym, append-nil}
use Rattle.std.proofs.lemmas.Bool.{and_parts}
use Rattle.std.specs.Prelude.{◌&&◌, nat_le}
use Rattle.markdown_base.specs.declared.configuration.ParseOptions.{ParseOptions}
use Rattle.markdown_base.specs.declared.event.Event.{Event}
use Rattle.markdown_base.specs.Virtual.{point}
use Rattle.mddocument_parts.proofs.BothDocuments.{no-events, rest-begins}
use Rattle.mddocument_parts.proofs.DocumentParts.{behind-document}
use Rattle.mddocument_parts.proofs.DocumentBytes.{document-first-line-tells}
use Rattle.mddocument_parts.proofs.Sections.{rest-ahead}
use Rattle.mddocument_parts.specs.BothDocuments.{is_rest}
use Rattle.mddocument_parts.specs.Moved.{line_endings, moved_event}
use Rattle.mddocument_parts.specs.Sections.{are_sections_by, document_of}
use Rattle.mdgfm_documents.specs.Documents.{with_gfm_by}
use Rattle.mdgfm_footnotes.specs.CallEvents.{call_events_by, with_calls}
use Rattle.mdgfm_literals.specs.LiteralEvents.{events_with as with_literals, literal_events}
use Rattle.mdgfm_literals.specs.Stretches.{literals_of}
use Rattle.mdgfm_tasks.specs.declared.awaited.Awaited.TheVariants.{Nothing}
use Rattle.mdgfm_tasks.specs.TaskEvents.{events_with as with_tasks, task_events}
use Rattle.mdgfm_sections.proofs.Documents.{gfm-of-both}
use Rattle.mdgfm_sections.specs.Parts.{GfmOfSections, gfm_events_by}

-- no events stay none
module _ (options : ParseOptions) (noted : (label : List ℕ) → Bool) where
  no-checks : task_events options [] [] ≡ []
  no-checks = by options.constructs.gfm_task_list_item
    where
      by : (t : Bool) → cond t (with_tasks options.tab_size [] 0 Nothing []) [] ≡ []
      by true = refl
      by false = refl

  no-calls : call_events_by noted options [] [] ≡ []
  no-calls = by options.constructs.gfm_label_start_footnote
    where
      by : (t : Bool) → cond t (with_calls noted options.tab_size [] []) [] ≡ []
      by true = refl
      by false = refl

  no-literals : literal_events options [] [] ≡ []
  no-literals = by options.constructs.gfm_autolink_literal
    where
      by : (t : Bool) → cond t (with_literals options.tab_size [] 0 0 (point 1 1 0 0) (literals_of [] true 0 0 []) []) [] ≡ []
      by true = refl
      by false = refl

  pub none-added : with_gfm_by noted options [] [] ≡ []
  none-added = ap (λ ts. literal_events options [] (call_events_by noted options [] ts)) no-checks ∙ ap (literal_events options []) no-calls ∙ no-literals

pub gfm-of-sections : GfmOfSections
gfm-of-sections options defined noted if_on [] is h = ap (with_gfm_by noted options []) (no-events defined options) ∙ none-added options noted
gfm-of-sections options defined noted if_on (s ∷ []) is h =
    ap (gfm_events_by options defined noted) (append-nil s) ∙ sym (append-nil (gfm_events_by options defined noted s))
gfm-of-sections options defined noted if_on (s ∷ next ∷ more) is h =
    let read = gfm_events_by options defined noted in
    let behind = (and_parts (nat_le 1 (length s)) (is_rest options s next && are_sections_by (is_rest options) (next ∷ more)) h).1 in
    let both = and_parts (is_rest options s next) (are_sections_by (is_rest options) (next ∷ more)) behind in
    let rest = rest-ahead (is_rest options) (rest-begins options) (document-first-line-tells options.constructs options.tab_size) s next more both.0 both.1 in
    gfm-of-both options defined noted if_on s (next ++ document_of more) is rest
    ∙ ap (λ (es : List Event). read s ++ map (moved_event (line_endings s) (length s) (length (read s))) es)
    (gfm-of-sections options defined noted if_on (next ∷ more) (behind-document options s (next ++ document_of more) is) both.1)
