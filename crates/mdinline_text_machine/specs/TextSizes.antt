-- The two sizes that states of constructs count in: of a backtick string that opens or of a scheme, and of a backtick string that may close.
use Rattle.std.specs.Prelude.{ℕ, ◌+◌, ◌-◌, ◌^◌, min}
use Rattle.markdown_tokenizer.specs.Configuration.{Configuration, Local}

-- one more, up to the greatest number that a size can have
abbrev pub more_than : ℕ → ℕ
more_than n = min (n + 1) (2 ^ 64 - 1)

-- the size of the opening backtick string, or of a scheme, is set
abbrev pub size_b_is : {R D : Type 0} → ℕ → Configuration R D → Local R D
size_b_is n k = record k.local { tokenize_state = record k.local.tokenize_state { size_b = n } }

-- the size of a backtick string that may close a code span is set
abbrev pub size_c_is : {R D : Type 0} → ℕ → Configuration R D → Local R D
size_c_is n k = record k.local { tokenize_state = record k.local.tokenize_state { size_c = n } }

-- the first size grows by one
abbrev pub size_b_grows : {R D : Type 0} → Configuration R D → Local R D
size_b_grows k = size_b_is (more_than k.local.tokenize_state.size_b) k

-- the second size grows by one
abbrev pub size_c_grows : {R D : Type 0} → Configuration R D → Local R D
size_c_grows k = size_c_is (more_than k.local.tokenize_state.size_c) k
