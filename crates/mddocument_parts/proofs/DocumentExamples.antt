-- Documents with containers and definitions that are cut at a rest, and some that are not.
use Rattle.mddocument_parts.proofs.Prelude.{◌≡◌, ◌++◌, [], ◌∷◌, true, false, refl, codes, Constructs, lines_in, virtual}
use Rattle.mddocument_parts.specs.DocumentRests.{begins_at_document_rest, goes_on_behind}

abbrev on : Constructs
on = record { attention = true; autolink = true; block_quote = true; character_escape = true; character_reference = true; code_indented = true; code_fenced = true; code_text = true; definition = true; frontmatter = false; gfm_autolink_literal = false; gfm_footnote_definition = false; gfm_label_start_footnote = false; gfm_strikethrough = false; gfm_table = false; gfm_task_list_item = false; hard_break_escape = true; hard_break_trailing = true; heading_atx = true; heading_setext = true; html_flow = true; html_text = true; label_start_image = true; label_start_link = true; label_end = true; list_item = true; math_flow = false; math_text = false; mdx_esm = false; mdx_expression_flow = false; mdx_expression_text = false; mdx_jsx_flow = false; mdx_jsx_text = false; thematic_break = true }

-- behind a blank line that ends its containers a line begins at a rest
behind-quote : begins_at_document_rest on 4 (codes "> a" ++ 10 ∷ 10 ∷ []) (codes "# b") ≡ true
behind-quote = refl

behind-item : begins_at_document_rest on 4 (codes "- a" ++ 10 ∷ 10 ∷ []) (codes "b") ≡ true
behind-item = refl

other-list : begins_at_document_rest on 4 (codes "- a" ++ 10 ∷ 10 ∷ []) (codes "* b") ≡ true
other-list = refl

next-quote : begins_at_document_rest on 4 (codes "> ```" ++ 10 ∷ 10 ∷ []) (codes "> b") ≡ true
next-quote = refl

behind-definition : begins_at_document_rest on 4 (codes "[x]: /y" ++ 10 ∷ 10 ∷ []) (codes "b") ≡ true
behind-definition = refl

-- not one that goes on with a list or a container, nor one behind an open paragraph, also of definitions alone
same-list : begins_at_document_rest on 4 (codes "- a" ++ 10 ∷ 10 ∷ []) (codes "- b") ≡ false
same-list = refl

in-item : begins_at_document_rest on 4 (codes "- a" ++ 10 ∷ 10 ∷ []) (codes "  b") ≡ false
in-item = refl

lazy : begins_at_document_rest on 4 (codes "> a" ++ 10 ∷ []) (codes "b") ≡ false
lazy = refl

only-definitions : begins_at_document_rest on 4 (codes "[x]: /y" ++ 10 ∷ []) (codes "# b") ≡ false
only-definitions = refl

open-fence : begins_at_document_rest on 4 (codes "> ```" ++ 10 ∷ []) (codes "# b") ≡ false
open-fence = refl

-- a line goes on with the stretch of lines before it where no container is open
goes-on : goes_on_behind on (lines_in (virtual 4 (codes "# a" ++ 10 ∷ []))) (lines_in (virtual 4 (codes "b"))) ≡ true
goes-on = refl

is-cut : goes_on_behind on (lines_in (virtual 4 (codes "> # a" ++ 10 ∷ []))) (lines_in (virtual 4 (codes "b"))) ≡ false
is-cut = refl
