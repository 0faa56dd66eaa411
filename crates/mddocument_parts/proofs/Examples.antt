-- Documents that are cut at a rest, and some that are not.
use Rattle.mddocument_parts.proofs.Prelude.{◌≡◌, ◌++◌, [], ◌∷◌, true, false, refl, codes, Constructs, begins_at_rest, are_sections}

abbrev on : Constructs
on = record { attention = true; autolink = true; block_quote = true; character_escape = true; character_reference = true; code_indented = true; code_fenced = true; code_text = true; definition = true; frontmatter = false; gfm_autolink_literal = false; gfm_footnote_definition = false; gfm_label_start_footnote = false; gfm_strikethrough = false; gfm_table = false; gfm_task_list_item = false; hard_break_escape = true; hard_break_trailing = true; heading_atx = true; heading_setext = true; html_flow = true; html_text = true; label_start_image = true; label_start_link = true; label_end = true; list_item = true; math_flow = false; math_text = false; mdx_esm = false; mdx_expression_flow = false; mdx_expression_text = false; mdx_jsx_flow = false; mdx_jsx_text = false; thematic_break = true }

-- behind a blank line a heading, a paragraph or a fence begins at a rest
behind-blank : begins_at_rest on 4 (codes "a" ++ 10 ∷ 10 ∷ []) (codes "# b") ≡ true
behind-blank = refl

behind-closed-fence : begins_at_rest on 4 (codes "```" ++ 13 ∷ 10 ∷ codes "```" ++ 10 ∷ []) (codes "b") ≡ true
behind-closed-fence = refl

sections : are_sections on 4 ((codes "# a" ++ 10 ∷ []) ∷ (codes "b" ++ 13 ∷ 13 ∷ 10 ∷ []) ∷ (codes "<p>" ++ 10 ∷ 10 ∷ []) ∷ codes "c" ∷ []) ≡ true
sections = refl

-- behind a paragraph, an open fence or HTML that waits for a blank line nothing does
behind-paragraph : begins_at_rest on 4 (codes "a" ++ 10 ∷ []) (codes "# b") ≡ false
behind-paragraph = refl

behind-open-fence : begins_at_rest on 4 (codes "```" ++ 10 ∷ 10 ∷ []) (codes "# b") ≡ false
behind-open-fence = refl

behind-html : begins_at_rest on 4 (codes "<p>" ++ 10 ∷ []) (codes "# b") ≡ false
behind-html = refl

-- nor does a tab, a blank line, or the LF of a CR LF
tab-behind : begins_at_rest on 4 (codes "# a" ++ 10 ∷ []) (9 ∷ codes "b") ≡ false
tab-behind = refl

blank-behind : begins_at_rest on 4 (codes "# a" ++ 10 ∷ []) (10 ∷ codes "b") ≡ false
blank-behind = refl

torn : begins_at_rest on 4 (codes "# a" ++ 13 ∷ []) (10 ∷ codes "b") ≡ false
torn = refl
