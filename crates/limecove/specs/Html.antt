-- HTML of a document, as options choose it.
use Rattle.std.specs.Prelude.{◌≡◌, ℕ, List, length}
use Rattle.std.specs.declared.result.Result.TheVariants.{Ok}
use Rattle.markdown_base.specs.declared.configuration.CompileOptions.{CompileOptions}
use Rattle.markdown_base.specs.declared.configuration.Options.{Options}
use Rattle.markdown_base.specs.Presets.{default_compile_options}
use Rattle.mdhtml_calls.specs.Document.{html_of_document}
use Rattle.limecove.specs.declared.choose.HtmlOptions.{HtmlOptions}
use Rattle.limecove.specs.Choices.{has_bit, html_choice_of, parse_options_of}
use Rattle.limecove.specs.Editing.{written}

-- CommonMark's options for HTML, but for what a sum of bits lets through, and whether it filters tags
abbrev pub compile_options_of : ℕ → CompileOptions
compile_options_of bits = record default_compile_options {
  allow_any_img_src = has_bit bits 4;
  allow_dangerous_html = has_bit bits 1;
  allow_dangerous_protocol = has_bit bits 2;
  gfm_tagfilter = has_bit bits 8;
}

-- how a document is read and made into HTML, with this tab size
abbrev pub options_of : HtmlOptions → (tab : ℕ) → Options
options_of options tab = record { parse = parse_options_of options.constructs tab; compile = compile_options_of options.allow }

-- HTML of a document, as the options choose it
pub record IsHtml (options : HtmlOptions) (bytes html : List ℕ) : Type 0 where
  pub tab : ℕ
  pub chosen : html_choice_of options ≡ Ok tab
  pub is : html ≡ html_of_document (options_of options tab) bytes

-- Bytes after those of such HTML, which are this many, were written over the first ones, as many as fit
pub record HoldsHtml (options : HtmlOptions) (bytes : List ℕ) (n : ℕ) (old new : List ℕ) : Type 0 where
  pub html : List ℕ
  pub made : IsHtml options bytes html
  pub count : n ≡ length html
  pub written : new ≡ written old html
