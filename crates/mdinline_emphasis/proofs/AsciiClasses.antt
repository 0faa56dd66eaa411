-- The classes of ASCII are those of std, but for U+0000: compared one by one.
use Rattle.mdinline_emphasis.proofs.Prelude.{◌≡◌, ℕ, Bool, true, cond, ap, ◌∙◌, refl, ◌==◌, ◌||◌, is_ascii_whitespace, is_ascii_punctuation, agree_below, agree_below_at, Whitespace, Punctuation, Other, in_ranges, shown_char, AsciiHasItsClasses}
use Rattle.mdinline_emphasis.specs.Unicode.{white_space, punctuation}

abbrev is_white : ℕ → Bool
is_white char = in_ranges white_space (shown_char char)

abbrev is_mark : ℕ → Bool
is_mark char = in_ranges punctuation (shown_char char)

abbrev ascii_mark : ℕ → Bool
ascii_mark char = (char == 0) || is_ascii_punctuation char

white-space : agree_below is_white is_ascii_whitespace 128 ≡ true
unfolding white_space
white-space = refl

marks : agree_below is_mark ascii_mark 128 ≡ true
unfolding punctuation
marks = refl

pub ascii-has-its-classes : AsciiHasItsClasses
ascii-has-its-classes c h =
    ap (λ b. cond b Whitespace (cond (is_mark c) Punctuation Other)) (agree_below_at is_white is_ascii_whitespace 128 c white-space h)
    ∙ ap (λ b. cond (is_ascii_whitespace c) Whitespace (cond b Punctuation Other)) (agree_below_at is_mark ascii_mark 128 c marks h)
