-- Lines that begin with two things, and documents with a construct on and off, by computation.
use Rattle.std.proofs.Common.{◌≡◌, ℕ, List, ◌∷◌, ◌++◌, Bool, true, false, refl}
use lib.Utf8.{encode}
use Rattle.std.specs.List.{list_any}
use Rattle.std.specs.Prelude.{codes}
use Rattle.std.specs.Str.{chars, is_utf8}
use Rattle.markdown_base.specs.declared.configuration.Constructs.{Constructs}
use Rattle.markdown_base.specs.declared.event.Name.{Name}
use Rattle.markdown_base.specs.declared.event.Name.TheVariants as name
use Rattle.markdown_base.specs.Events.{same_name}
use Rattle.markdown_base.specs.Presets.{default_constructs, default_parse_options}
use Rattle.mdinline_emphasis.specs.Unicode.{punctuation, white_space}
use Rattle.mdblock_leaf_blocks.specs.HtmlLines.{any_tag, begins, block_tag, raw}
use Rattle.mddocument.specs.DocumentEvents.{document_events}
use Rattle.mddocument_laws.specs.LineStarts.{dashes, line_break, list_item, starts}

-- ---- lines

-- a thematic break that could be a list item, one that could be an underline, and an underline that could be a list item
break-or-item : (starts line_break (codes "* * *") ≡ true) × (starts list_item (codes "* * *") ≡ true)
break-or-item = (refl, refl)

break-or-underline : (starts line_break (codes "---") ≡ true) × (starts dashes (codes "---") ≡ true)
break-or-underline = (refl, refl)

underline-or-item : (starts dashes (codes "-") ≡ true) × (starts list_item (codes "-") ≡ true)
underline-or-item = (refl, refl)

-- tags that are also any tag
raw-tag : (begins raw (codes "<pre>") ≡ true) × (begins any_tag (codes "<pre>") ≡ true)
raw-tag = (refl, refl)

named-tag : (begins block_tag (codes "</div>") ≡ true) × (begins any_tag (codes "</div>") ≡ true)
named-tag = (refl, refl)

-- ---- documents

-- a span of this name is in a document, with these constructs
abbrev has : Constructs → Name → List ℕ → Bool
has on n bytes =
    list_any (λ e. same_name e.name n) (document_events (record { bytes = bytes; options = record default_parse_options { constructs = on }; tab = 4 }))

abbrev on : Constructs
on = default_constructs

quote-on : has on name.BlockQuote (codes "> a") ≡ true
quote-on = refl

quote-off : has (record on { block_quote = false }) name.BlockQuote (codes "> a") ≡ false
quote-off = refl

heading-on : has on name.HeadingAtx (codes "# a") ≡ true
heading-on = refl

heading-off : has (record on { heading_atx = false }) name.HeadingAtx (codes "# a") ≡ false
heading-off = refl

-- lines of code are of indented code or of fenced code
code-on : has (record on { code_fenced = false }) name.CodeFlowChunk (codes "    a") ≡ true
code-on = refl

code-off : has (record on { code_fenced = false; code_indented = false }) name.CodeFlowChunk (codes "    a") ≡ false
code-off = refl

span-on : has on name.CodeText (codes "`a`") ≡ true
span-on = refl

span-off : has (record on { code_text = false }) name.CodeText (codes "`a`") ≡ false
span-off = refl

emphasis-off : has (record on { attention = false }) name.Emphasis (codes "*a*") ≡ false
emphasis-off = refl

-- a bracket is text where ends of labels are off
link-on : has on name.LabelLink (codes "[a](b)") ≡ true
link-on = refl

link-off : has (record on { label_end = false }) name.LabelLink (codes "[a](b)") ≡ false
link-off = refl

-- and definitions are lines of a paragraph, and their labels those of no reference, where they are off
definition-on : has on name.Definition (codes "[a]: b") ≡ true
definition-on = refl

definition-off : has (record on { definition = false }) name.Definition (codes "[a]: b") ≡ false
definition-off = refl

reference-off : has (record on { definition = false }) name.Reference (codes "[a][]" ++ 10 ∷ 10 ∷ codes "[a]: b") ≡ false
reference-off = refl

-- a footnote definition is one of a link where they are off; and where they are on, it has its colon though those are off
footnote-off : has on name.GfmFootnoteDefinition (codes "[^a]: b") ≡ false
footnote-off = refl

footnote-alone : has (record on { definition = false; gfm_footnote_definition = true }) name.DefinitionMarker (codes "[^a]: b") ≡ true
footnote-alone = refl

-- a tilde is text where strikethrough is off; and where it is on, emphasis may be off
strikethrough-off : has on name.GfmStrikethrough (codes "~a~") ≡ false
strikethrough-off = refl

strikethrough-alone : has (record on { attention = false; gfm_strikethrough = true }) name.GfmStrikethrough (codes "~a~") ≡ true
unfolding is_utf8 chars encode white_space punctuation
strikethrough-alone = refl
