-- The HTML of a document that is cut at a rest is that of its parts.
use Rattle.std.proofs.Common.{◌≡◌, ◌∙◌, ℕ, ◌++◌, Bool, true, false, List, [], ◌∷◌, length, ap, refl}
use Rattle.std.specs.Prelude.{◌==◌, ◌&&◌, ◌||◌, not}
use Rattle.markdown_base.specs.declared.configuration.ParseOptions.{ParseOptions}
use Rattle.markdown_base.specs.Events.{IsBalanced}
use Rattle.markdown_base.specs.Virtual.{begins_with_lf}
use Rattle.markdown_tokenizer.specs.Text.{IsDocument}
use Rattle.mdinline_link_strings.proofs.Kept.{strings_keep}
use Rattle.mddocument.proofs.InContainers.Skeletons.{skeleton-laws}
use Rattle.mddocument.proofs.InContainers.TextsFormed.{texts-orderly}
use Rattle.mddocument.specs.DocumentEvents.{document_texts_by}
use Rattle.mddocument.specs.Documents.{document}
use Rattle.mddocument_parts.proofs.BothDocuments.{document-events-of-both, rest-begins}
use Rattle.mddocument_parts.proofs.DocumentParts.{behind-document, front-document}
use Rattle.mddocument_parts.specs.BothDocuments.{events_by}
use Rattle.mddocument_parts.specs.Moved.{begins_line, line_endings, moved_link}
use Rattle.mdgfm_literals.specs.Laws.{end_line}
use Rattle.mdhtml_document.specs.Html.{html_by, uncalled}
use Rattle.mdhtml_laws.proofs.FurtherHtml.{html-of-sections}
use Rattle.mdhtml_laws.specs.DocumentSections.{HtmlOfDocumentSections}

either-ends : (a b c : Bool) → (a || (b && c)) ≡ true → (a || b) ≡ true
either-ends true b c h = refl
either-ends false true c h = refl
either-ends false false c h = h

begins-ends : (behind bytes : List ℕ) → begins_line behind bytes ≡ true → end_line bytes ≡ true
begins-ends behind [] h = refl
begins-ends behind (b ∷ []) h = either-ends (b == 10) (b == 13) (not (begins_with_lf behind)) h
begins-ends behind (b ∷ c ∷ cs) h = begins-ends behind (c ∷ cs) h

events-balanced : (options : ParseOptions) (defined : List ℕ → Bool) (bytes : List ℕ) → IsDocument (document options bytes) → IsBalanced (events_by options defined bytes)
events-balanced options defined bytes is =
    let g = document options bytes in (strings_keep options.constructs options.tab_size bytes (document_texts_by defined g)).0 (texts-orderly skeleton-laws g is defined).balanced

pub html-of-document-sections : HtmlOfDocumentSections
html-of-document-sections options defined lookup a b is rest stand marked =
    let parse = options.parse in
    let xs = events_by parse defined a in
    let ys = events_by parse defined b in
    ap (html_by options.compile (a ++ b) (uncalled lookup) parse.tab_size) (document-events-of-both defined parse a b is rest)
    ∙ html-of-sections options.compile lookup parse.tab_size (line_endings a) a b (moved_link (length xs)) xs ys (begins-ends b a (rest-begins parse a b rest))
    (events-balanced parse defined a (front-document parse a b is)) (events-balanced parse defined b (behind-document parse a b is)) stand marked
