-- Labels of links (CommonMark, "Links"): what one is, and when two are the same.
use Rattle.std.specs.Prelude.{ℕ, ◌+◌, ◌==◌, ◌&&◌, ◌||◌, not, nat_le, nat_lt, Bool, true, false, cond, List, [], ◌∷◌, ◌++◌, map, flat_map, chars, encode_utf8_all}
use Rattle.std.specs.Char.{to_ascii_uppercase}
use Rattle.std.specs.Char.Unicode.ToLowercase.{to_lowercase}
use Rattle.std.specs.Char.Unicode.ToUppercase.{to_uppercase}
use Rattle.std.specs.Str.{is_utf8}

-- white space in a label: a space, a tab, or a part of a line ending
abbrev pub is_label_white : ℕ → Bool
is_label_white b = ((b == 32) || (b == 9)) || ((b == 10) || (b == 13))

-- a byte begins a character: it does not go on with one
abbrev pub begins_character : ℕ → Bool
begins_character b = nat_lt b 128 || nat_le 192 b

-- `[` or `]`
abbrev pub is_bracket : ℕ → Bool
is_bracket b = (b == 91) || (b == 93)

-- a backslash that is not hidden itself hides the byte behind it
abbrev pub hides : (hidden : Bool) → ℕ → Bool
hides hidden b = (b == 92) && not hidden

-- no bracket that is not hidden
abbrev pub has_no_bracket : (hidden : Bool) → List ℕ → Bool
has_no_bracket hidden [] = true
has_no_bracket hidden (b ∷ bs) = not (is_bracket b && not hidden) && has_no_bracket (hides hidden b) bs

-- how many characters begin
abbrev pub characters : List ℕ → ℕ
characters [] = 0
characters (b ∷ bs) = cond (begins_character b) 1 0 + characters bs

-- not all is white space
abbrev pub is_filled : List ℕ → Bool
is_filled [] = false
is_filled (b ∷ bs) = not (is_label_white b) || is_filled bs

-- What may stand between the brackets of a label
abbrev pub is_label : List ℕ → Bool
is_label bytes = has_no_bracket false bytes && (nat_le (characters bytes) 999 && is_filled bytes)

-- "For security reasons, the Unicode character U+0000 must be replaced with the REPLACEMENT CHARACTER (U+FFFD)" (CommonMark 0.31, 2.3)
abbrev pub shown_byte : ℕ → List ℕ
shown_byte b = cond (b == 0) (239 ∷ 191 ∷ 189 ∷ []) (b ∷ [])

-- white space collapsed: none at the ends, and one space for each stretch of it between; and U+FFFD in place of NUL. `begun`: a byte was written;
-- `apart`: white space came behind the last one
abbrev pub collapsed_behind : (begun apart : Bool) → List ℕ → List ℕ
collapsed_behind begun apart [] = []
collapsed_behind begun apart (b ∷ bs) =
    cond (is_label_white b) (collapsed_behind begun true bs)
    (cond (begun && apart) (32 ∷ (shown_byte b ++ collapsed_behind true false bs)) (shown_byte b ++ collapsed_behind true false bs))

abbrev pub collapsed : List ℕ → List ℕ
collapsed bytes = collapsed_behind false false bytes

-- What Unicode's case folding makes of a character, in upper case: upper case of its lower case. But `ı` (U+0131) stays, though its upper case is `I`
abbrev pub folded : ℕ → List ℕ
folded c = cond (c == 0x131) (c ∷ []) (flat_map to_uppercase (to_lowercase c))

-- a text with each character folded, as bytes
unfoldable pub folded_text : List ℕ → List ℕ
folded_text text = encode_utf8_all (flat_map folded (chars text))

-- The form by which labels are compared: white space collapsed and NUL replaced, then each character folded. Of bytes that are no UTF-8 only ASCII letters change
abbrev pub normalised : List ℕ → List ℕ
normalised bytes = let together = collapsed bytes in cond (is_utf8 together) (folded_text together) (map to_ascii_uppercase together)
