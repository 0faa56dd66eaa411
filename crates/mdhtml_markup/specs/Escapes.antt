-- Text in HTML: what stands for the bytes that HTML reads as marks.
use Rattle.std.specs.Prelude.{ℕ, ◌==◌, cond, List, [], ◌∷◌, codes}
use Rattle.std.specs.List.{flat_map}

-- U+FFFD in UTF-8: "For security reasons, the Unicode character U+0000 must be replaced with the REPLACEMENT CHARACTER (U+FFFD)" (CommonMark 0.31, 2.3)
abbrev pub replacement : List ℕ
replacement = 239 ∷ 191 ∷ 189 ∷ []

-- what is written of a byte of a text, or of a value in quotes
abbrev pub escaped_byte : ℕ → List ℕ
escaped_byte b =
    cond (b == 38) (codes "&amp;")
    (cond (b == 60) (codes "&lt;")
    (cond (b == 62) (codes "&gt;")
    (cond (b == 34) (codes "&quot;")
    (cond (b == 27) (codes "&#x1B;")
    (cond (b == 0) replacement (b ∷ []))))))

-- what is written of a text
abbrev pub escaped : List ℕ → List ℕ
escaped text = flat_map escaped_byte text

-- what is written of HTML that is to stay HTML
abbrev pub kept_byte : ℕ → List ℕ
kept_byte b = cond (b == 0) replacement (b ∷ [])

abbrev pub kept : List ℕ → List ℕ
kept html = flat_map kept_byte html
