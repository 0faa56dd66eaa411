-- Chunks of a paragraph, each linked to the chunk before.
use Rattle.std.specs.Prelude.{ℕ, ◌-◌, Bool, true, false, length}
use Rattle.markdown_tokenizer.specs.Text.{Given}
use Rattle.markdown_tokenizer.specs.Configuration.{Configuration, Local}
use Rattle.markdown_tokenizer.specs.Sight.{Sight}
use Rattle.markdown_tokenizer.specs.Calls.{linked}

-- a chunk came before in the paragraph
abbrev pub is_connected : {R D : Type 0} → Given → Sight → Configuration R D → Bool
is_connected g s k = k.local.tokenize_state.connect

-- no chunk came before in the paragraph
abbrev pub alone : {R D : Type 0} → Configuration R D → Local R D
alone k = record k.local { tokenize_state = record k.local.tokenize_state { connect = false } }

-- the index of the last event
abbrev pub last_event : {R D : Type 0} → Configuration R D → ℕ
last_event k = length k.events - 1

-- the index of the chunk that came before
abbrev pub chunk_before : {R D : Type 0} → Configuration R D → ℕ
chunk_before k = k.local.tokenize_state.start

-- the last event is the chunk that came before
abbrev pub connected : {R D : Type 0} → Configuration R D → Local R D
connected k = record k.local { tokenize_state = record k.local.tokenize_state { start = last_event k; connect = true } }

-- the chunk that the last event begins is linked to the previous chunk
abbrev pub chained : {R D : Type 0} → Configuration R D → Configuration R D
chained k = linked (chunk_before k) (last_event k) k
