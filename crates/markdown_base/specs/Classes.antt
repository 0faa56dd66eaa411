-- The character at an index of a text's bytes, and classes of characters.
use Rattle.std.specs.Prelude.{◌≡◌, ℕ, Bool, true, false, cond, List, take, drop, slice_get, Option, Some, None, chars}
use Rattle.std.specs.List.{last_or}
use Rattle.std.specs.Char.{is_whitespace, is_ascii_punctuation}
use Rattle.markdown_base.specs.declared.util.char.Kind.{Kind}
use Rattle.markdown_base.specs.declared.util.char.Kind.TheVariants.{Whitespace, Punctuation, Other}

-- the last character of the bytes before an index
abbrev pub char_before : List ℕ → ℕ → Option ℕ
char_before bytes index = last_or None (chars (take index bytes))

-- the first character of the bytes from an index on
abbrev pub char_after : List ℕ → ℕ → Option ℕ
char_after bytes index = slice_get (chars (drop index bytes)) 0

-- the class of a character, if `answers` is what a predicate returns: Unicode's white space is white space; else ASCII punctuation is
-- punctuation; else the predicate returns true for punctuation (CommonMark, "Unicode whitespace character" and "Unicode punctuation
-- character")
pub record IsClassOf (answers : ℕ → Bool → Type 0) (c : ℕ) (kind : Kind) : Type 0 where
  pub white_space : is_whitespace c ≡ true → kind ≡ Whitespace
  pub ascii : is_whitespace c ≡ false → is_ascii_punctuation c ≡ true → kind ≡ Punctuation
  pub other : is_whitespace c ≡ false → is_ascii_punctuation c ≡ false → (answer : Bool) × answers c answer × (kind ≡ cond answer Punctuation Other)

-- the same; the start and the end of a text count as white space (CommonMark, "Emphasis and strong emphasis")
abbrev pub IsClassOfOpt : (ℕ → Bool → Type 0) → Option ℕ → Kind → Type 0
IsClassOfOpt answers None kind = kind ≡ Whitespace
IsClassOfOpt answers (Some c) kind = IsClassOf answers c kind

-- a predicate is a function: it returns at most one result for each character
abbrev pub IsFunction : (ℕ → Bool → Type 0) → Type 0
IsFunction answers = (c : ℕ) (one other : Bool) → answers c one → answers c other → one ≡ other
