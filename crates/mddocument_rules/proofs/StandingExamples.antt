-- Some lists of spans, and some documents, in which each span stands where it may or does not, by computation.
use Rattle.mddocument_rules.proofs.Prelude.{◌≡◌, ℕ, List, [], ◌∷◌, ◌++◌, Bool, true, false, None, refl, codes, Event, Enter, Exit, Name, point, Given, document_blocks, all_stand, is_outside_links, may_stand}
use Rattle.markdown_base.specs.declared.event.Name.TheVariants as name
use Rattle.markdown_base.specs.Presets.{default_parse_options, gfm_parse_options}
use Rattle.mddocument.specs.DocumentEvents.{document_events}

-- ---- spans written by hand
abbrev enter : Name → Event
enter n = record { kind = Enter; name = n; point = point 1 1 0 0; link = None }

abbrev exit : Name → Event
exit n = record { kind = Exit; name = n; point = point 1 1 0 0; link = None }

-- a span in another
abbrev in_span : (outer inner : Name) → List Event
in_span outer inner = enter outer ∷ enter inner ∷ exit inner ∷ exit outer ∷ []

-- an item stands in a list, and a paragraph does not
item-in-list : all_stand may_stand [] (in_span name.ListUnordered name.ListItem) ≡ true
item-in-list = refl

paragraph-in-list : all_stand may_stand [] (in_span name.ListOrdered name.Paragraph) ≡ false
paragraph-in-list = refl

-- a heading stands in a block quote, and not in a paragraph
heading-in-quote : all_stand may_stand [] (in_span name.BlockQuote name.HeadingAtx) ≡ true
heading-in-quote = refl

heading-in-paragraph : all_stand may_stand [] (in_span name.Paragraph name.HeadingAtx) ≡ false
heading-in-paragraph = refl

-- an item stands in nothing but a list
item-in-quote : all_stand may_stand [] (in_span name.BlockQuote name.ListItem) ≡ false
item-in-quote = refl

-- blocks stand in a footnote definition, which is one, and so stands in no paragraph
footnote-in-footnote : all_stand may_stand [] (in_span name.GfmFootnoteDefinition name.GfmFootnoteDefinition) ≡ true
footnote-in-footnote = refl

footnote-in-paragraph : all_stand may_stand [] (in_span name.Paragraph name.GfmFootnoteDefinition) ≡ false
footnote-in-paragraph = refl

-- strikethrough stands in a text, and not in a block quote itself
strikethrough-in-paragraph : all_stand may_stand [] (in_span name.Paragraph name.GfmStrikethrough) ≡ true
strikethrough-in-paragraph = refl

strikethrough-in-quote : all_stand may_stand [] (in_span name.BlockQuote name.GfmStrikethrough) ≡ false
strikethrough-in-quote = refl

-- a link stands in no link, however deep; an image does, and a link stands in an image
link-in-link : all_stand is_outside_links [] (enter name.Link ∷ (in_span name.Label name.Link ++ exit name.Link ∷ [])) ≡ false
link-in-link = refl

image-in-link : all_stand is_outside_links [] (in_span name.Link name.Image) ≡ true
image-in-link = refl

link-in-image : all_stand is_outside_links [] (in_span name.Image name.Link) ≡ true
link-in-image = refl

link-behind-link : all_stand is_outside_links [] (in_span name.Link name.Label ++ in_span name.Link name.Label) ≡ true
link-behind-link = refl

-- ---- documents
abbrev given : List ℕ → Given
given bytes = record { bytes = bytes; options = default_parse_options; tab = 4 }

abbrev stands : List ℕ → Bool
stands bytes = all_stand may_stand [] (document_blocks (given bytes))

-- two items, with a blank line between
list : stands (codes "- a\n\n- b\n") ≡ true
list = refl

-- a heading in a quote, and an ordered list behind it
quote : stands (codes "> # a\n\n1. b\n") ≡ true
quote = refl

-- a paragraph that goes on over the prefix of its quote
lines : stands (codes "> a\n> b") ≡ true
lines = refl

-- a list in a footnote definition, in a quote
footnote : all_stand may_stand [] (document_blocks (record { bytes = codes "> [^a]: - b\n>\n>     c"; options = gfm_parse_options; tab = 4 })) ≡ true
footnote = refl

-- the brackets around a link are text
outer-brackets : all_stand is_outside_links [] (document_events (given (codes "[[a](b)](c)"))) ≡ true
outer-brackets = refl

-- a link in an item, and code in a heading
text-in-item : all_stand may_stand [] (document_events (given (codes "- [a](b)\n\n# `c`"))) ≡ true
text-in-item = refl
