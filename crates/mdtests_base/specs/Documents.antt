-- Documents with a given tab size.
use Rattle.std.specs.Prelude.{ℕ, List}
use Rattle.markdown.specs.declared.configuration.ParseOptions.{ParseOptions}
use Rattle.markdown.specs.Presets.{default_parse_options}
use Rattle.markdown.specs.Engine.{given_by}
use Rattle.markdown.specs.Text.{Given}

-- the default options with tab stops at every `t` columns
abbrev pub options_in_tabs : (t : ℕ) → ParseOptions
options_in_tabs t = record default_parse_options { tab_size = t }

-- a document, read with these options
abbrev pub given_in_tabs : (t : ℕ) → List ℕ → Given
given_in_tabs t bytes = given_by bytes (options_in_tabs t)
