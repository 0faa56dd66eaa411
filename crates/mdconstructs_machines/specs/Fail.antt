-- The machine that fails: it passes each byte, and refuses the document at a stated call.
use Rattle.std.specs.Prelude.{ℕ, ◌==◌, ◌∷◌, [], Option, Some, None}
use Rattle.markdown_base.specs.declared.state.TheConstants.Name.{TextStart}
use Rattle.markdown_base.specs.declared.state.State.TheVariants.{Next, Ok, Error}
use Rattle.markdown_tokenizer.specs.Text.{Given}
use Rattle.markdown_tokenizer.specs.Configuration.{Configuration, Local}
use Rattle.markdown_tokenizer.specs.Rules.{Rules}
use Rattle.markdown_tokenizer.specs.Plain.{plain}
use Rattle.mdconstructs_tables.specs.Rows.{consume, write, Rows, row, when, StateRows, calls, state, Table}
use Rattle.mdconstructs_tables.specs.RowInvariant.{table_rules}
use Rattle.mdconstructs_tables.specs.Tables.{LineByte, line_byte, counts}
use Rattle.mdconstructs_machines.specs.Messages.{refusal}

-- one more call is counted
abbrev pub counted : Configuration Unit Unit → Local Unit Unit
counted k = counts k.local

-- a byte is passed; at the end it returns Ok
abbrev pub pass_rows : (current : Option LineByte) → Rows Unit Unit
pass_rows None = row (write counted ∷ []) Ok
pass_rows (Some _) = row (write counted ∷ consume ∷ []) (Next TextStart)

-- the document is refused if this many calls were counted before this one
abbrev pub text_start_rows : ℕ → (previous current : Option LineByte) → Rows Unit Unit
text_start_rows at _ current = when (λ g s k. k.local.tokenize_state.size == at) (row (write counted ∷ []) (Error refusal)) (pass_rows current)

abbrev pub text_start : ℕ → StateRows LineByte Unit Unit
text_start at = state TextStart (text_start_rows at) [] (calls 1 1)

-- what a call writes before its row: nothing
abbrev pub as_it_was : Local Unit Unit → Local Unit Unit
as_it_was local = local

abbrev pub fail : ℕ → Table LineByte Unit Unit
fail at = record { class = line_byte; first = as_it_was; states = text_start at ∷ []; starts = TextStart ∷ [] }

-- its rules: it registers no resolver, makes no edit, and links nothing
abbrev pub fail_rules : ℕ → Given → Rules Unit Unit
fail_rules at g = plain (table_rules (fail at) g)
