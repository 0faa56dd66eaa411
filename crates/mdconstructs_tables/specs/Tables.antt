-- Classes of bytes and writes that the tables of machines have in common.
use Rattle.std.specs.Prelude.{ℕ, ◌+◌, ◌-◌, ◌^◌, ◌==◌, Bool, true, false, cond, min}
use Rattle.markdown_tokenizer.specs.Configuration.{Local}

-- The classes of bytes for machines that look at lines: a line ending, which is one virtual LF, or another
pub data LineByte : Type 0 where
  line_ending : LineByte
  other : LineByte

abbrev pub line_byte : ℕ → LineByte
line_byte byte = cond (byte == 10) line_ending other

-- a byte that is no line ending, and any byte
abbrev pub is_other : LineByte → Bool
is_other line_ending = false
is_other other = true

abbrev pub is_any : LineByte → Bool
is_any _ = true

-- one more call is counted in `size`, up to the greatest `usize`
abbrev pub counts : {R D : Type 0} → Local R D → Local R D
counts local = record local { tokenize_state = record local.tokenize_state { size = min (local.tokenize_state.size + 1) (2 ^ 64 - 1) } }
