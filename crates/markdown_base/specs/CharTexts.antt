-- How messages show characters and bytes.
use Rattle.std.specs.Prelude.{ℕ, ◌-◌, ◌==◌, true, List, ◌∷◌, ◌++◌, length, replicate, codes, Option, Some, None, if◌then◌else◌}
use Rattle.std.specs.Fmt.{digits}
use Rattle.std.specs.Int.{is_in_range}

-- a number as a code point: `U+`, and at least four upper case hexadecimal digits
abbrev pub code_point : ℕ → List ℕ
code_point c = codes "U+" ++ (replicate (4 - length (digits 16 true c)) 48 ++ digits 16 true c)

-- visible ASCII between backticks (the backtick itself in a longer fence), then its code point in parentheses; for any other character only
-- the code point
abbrev pub shown_char : ℕ → List ℕ
shown_char c = if c == 96 then codes "`` ` `` (" ++ (code_point c ++ codes ")")
    else (if is_in_range 33 126 c then codes "`" ++ (c ∷ codes "` (" ++ (code_point c ++ codes ")")) else code_point c)

-- a character, or the end of the input
abbrev pub shown_char_opt : Option ℕ → List ℕ
shown_char_opt None = codes "end of file"
shown_char_opt (Some c) = codes "character " ++ shown_char c

-- a byte, or the end of the input
abbrev pub shown_byte_opt : Option ℕ → List ℕ
shown_byte_opt None = codes "end of file"
shown_byte_opt (Some b) = codes "byte " ++ shown_char b
