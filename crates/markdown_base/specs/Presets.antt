-- The options of CommonMark, GFM and MDX, value by value.
use Rattle.std.specs.Prelude.{true, false, None}
use Rattle.markdown_base.specs.declared.configuration.Constructs.{Constructs}
use Rattle.markdown_base.specs.declared.configuration.CompileOptions.{CompileOptions}
use Rattle.markdown_base.specs.declared.configuration.Options.{Options}
use Rattle.markdown_base.specs.declared.configuration.ParseOptions.{ParseOptions}
use Rattle.markdown_base.specs.declared.util.line_ending.LineEnding.{LineEnding}
use Rattle.markdown_base.specs.declared.util.line_ending.LineEnding.TheVariants.{LineFeed}

-- the constructs of CommonMark
abbrev pub default_constructs : Constructs
default_constructs = record {
  attention = true;
  autolink = true;
  block_quote = true;
  character_escape = true;
  character_reference = true;
  code_indented = true;
  code_fenced = true;
  code_text = true;
  definition = true;
  frontmatter = false;
  gfm_autolink_literal = false;
  gfm_footnote_definition = false;
  gfm_label_start_footnote = false;
  gfm_strikethrough = false;
  gfm_table = false;
  gfm_task_list_item = false;
  hard_break_escape = true;
  hard_break_trailing = true;
  heading_atx = true;
  heading_setext = true;
  html_flow = true;
  html_text = true;
  label_start_image = true;
  label_start_link = true;
  label_end = true;
  list_item = true;
  math_flow = false;
  math_text = false;
  mdx_esm = false;
  mdx_expression_flow = false;
  mdx_expression_text = false;
  mdx_jsx_flow = false;
  mdx_jsx_text = false;
  thematic_break = true;
}

-- the constructs of GitHub flavored Markdown: CommonMark's and the six of GFM
abbrev pub gfm_constructs : Constructs
gfm_constructs = record default_constructs {
  gfm_autolink_literal = true;
  gfm_footnote_definition = true;
  gfm_label_start_footnote = true;
  gfm_strikethrough = true;
  gfm_table = true;
  gfm_task_list_item = true;
}

-- the constructs of MDX: CommonMark's without autolinks, indented code and HTML, and the five of MDX
abbrev pub mdx_constructs : Constructs
mdx_constructs = record default_constructs {
  autolink = false;
  code_indented = false;
  html_flow = false;
  html_text = false;
  mdx_esm = true;
  mdx_expression_flow = true;
  mdx_expression_text = true;
  mdx_jsx_flow = true;
  mdx_jsx_text = true;
}

-- how CommonMark is read
abbrev pub default_parse_options : ParseOptions
default_parse_options = record {
  constructs = default_constructs;
  gfm_strikethrough_single_tilde = true;
  math_text_single_dollar = true;
  tab_size = 4;
}

-- how GitHub flavored Markdown is read
abbrev pub gfm_parse_options : ParseOptions
gfm_parse_options = record default_parse_options { constructs = gfm_constructs }

-- how MDX is read
abbrev pub mdx_parse_options : ParseOptions
mdx_parse_options = record default_parse_options { constructs = mdx_constructs }

-- the line ending that is written if the document gives none
abbrev pub default_line_ending : LineEnding
default_line_ending = LineFeed

-- safe HTML in English, as CommonMark
abbrev pub default_compile_options : CompileOptions
default_compile_options = record {
  allow_any_img_src = false;
  allow_dangerous_html = false;
  allow_dangerous_protocol = false;
  default_line_ending = LineFeed;
  gfm_footnote_back_label = None;
  gfm_footnote_clobber_prefix = None;
  gfm_footnote_label_attributes = None;
  gfm_footnote_label_tag_name = None;
  gfm_footnote_label = None;
  gfm_task_list_item_checkable = false;
  gfm_tagfilter = false;
}

-- the same with GFM's filter of tags
abbrev pub gfm_compile_options : CompileOptions
gfm_compile_options = record default_compile_options { gfm_tagfilter = true }

-- both kinds of options for CommonMark
abbrev pub default_options : Options
default_options = record { parse = default_parse_options; compile = default_compile_options }

-- both kinds of options for GitHub flavored Markdown
abbrev pub gfm_options : Options
gfm_options = record { parse = gfm_parse_options; compile = gfm_compile_options }
