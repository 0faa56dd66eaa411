-- The filter of tags (GFM 0.29, 6.11, "Disallowed Raw HTML"), as cmark-gfm has it: "Filtering is done by replacing the leading < with the entity &lt;". It is no
-- protection: other tags stay, and attributes that run scripts, and a browser ends names of tags by more bytes than these.
use Rattle.std.specs.List.{list_any}
use Rattle.std.specs.Prelude.{ℕ, ◌==◌, ◌&&◌, ◌||◌, Bool, true, false, cond, List, [], ◌∷◌, ◌++◌, codes, drop, length, take}
use Rattle.std.specs.Str.{str_eq_ignore_ascii_case}
use Rattle.markdown_base.specs.Texts.{tagfilter_names}

-- `>` is at the front of bytes
abbrev pub begins_close : List ℕ → Bool
begins_close [] = false
begins_close (b ∷ bs) = b == 62

-- the name of a tag ends in front of bytes: a space, a tab or a line feed comes, `>` or `/>`, or nothing more
abbrev pub ends_name : List ℕ → Bool
ends_name [] = true
ends_name (b ∷ bs) = (b == 32) || ((b == 9) || ((b == 10) || ((b == 62) || ((b == 47) && begins_close bs))))

-- a name is at the front of bytes, in any case, and ends there
abbrev pub is_named : (name bytes : List ℕ) → Bool
is_named name bs = str_eq_ignore_ascii_case (take (length name) bs) name && ends_name (drop (length name) bs)

-- the bytes of a tag from its name on, by those behind its `<`
abbrev pub from_name : List ℕ → List ℕ
from_name [] = []
from_name (b ∷ bs) = cond (b == 47) bs (b ∷ bs)

-- a tag that is filtered is at the front of HTML: it opens or closes an element of one of these names
abbrev pub is_filtered : List ℕ → Bool
is_filtered [] = false
is_filtered (b ∷ bs) = (b == 60) && list_any (λ name. is_named name (from_name bs)) tagfilter_names

-- what the first byte of HTML becomes
abbrev pub filtered_byte : ℕ → (behind : List ℕ) → List ℕ
filtered_byte b bs = cond (is_filtered (b ∷ bs)) (codes "&lt;") (b ∷ [])

-- HTML in lines of its own, in which each tag is filtered; and HTML within text, which is one tag, a comment or the like: only what it begins with is filtered
abbrev pub filtered : List ℕ → List ℕ
filtered [] = []
filtered (b ∷ bs) = filtered_byte b bs ++ filtered bs

abbrev pub first_filtered : List ℕ → List ℕ
first_filtered [] = []
first_filtered (b ∷ bs) = filtered_byte b bs ++ bs
