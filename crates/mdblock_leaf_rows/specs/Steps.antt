-- The step that rows make where a state is called.
use Rattle.markdown_tokenizer.specs.Configuration.{Step, TokenizerValue}
use Rattle.markdown_tokenizer.specs.Sight.{sight_of}
use Rattle.mdconstructs_tables.specs.Rows.{Rows, picked, step_of}

-- the step of the row that the tests of rows pick, of a tokenizer
abbrev pub rows_step : {M R D : Type 0} → Rows R D → TokenizerValue M R D → Step R D
rows_step rows t = step_of (picked rows t.given (sight_of t) t.configuration) (sight_of t) t.configuration
