-- What a reader reads of HTML: the text between its tags.
use Rattle.std.specs.Prelude.{ℕ, ◌==◌, not, Bool, true, false, cond, List, [], ◌∷◌, ◌++◌}
use Rattle.mdhtml_markup.specs.Escapes.{kept}
use Rattle.mdhtml_markup.specs.Pieces.{Close, Feed, Fresh, Kept, Open, Piece, Text, Void, is_fresh, written}
use Rattle.mdhtml_markup.specs.SafeHtml.{undone}

-- HTML without its tags: a tag is all from a `<` to the next `>`
abbrev pub untagged : (in_tag : Bool) → List ℕ → List ℕ
untagged in_tag [] = []
untagged true (b ∷ bs) = untagged (not (b == 62)) bs
untagged false (b ∷ bs) = cond (b == 60) (untagged true bs) (b ∷ untagged false bs)

-- with its entities undone
abbrev pub text_of : List ℕ → List ℕ
text_of h = undone (untagged false h)

-- What a piece says: a text, or a line feed. NUL is U+FFFD, as everywhere
abbrev pub said : (fresh : Bool) → Piece → List ℕ
said fresh (Open e attributes) = []
said fresh (Void e attributes) = []
said fresh (Close e) = []
said fresh (Text t) = kept t
said fresh (Kept h) = text_of (kept h)
said fresh Feed = 10 ∷ []
said fresh Fresh = cond fresh [] (10 ∷ [])

-- and all of them, one after another
abbrev pub said_from : (fresh : Bool) → List Piece → List ℕ
said_from fresh [] = []
said_from fresh (p ∷ ps) = said fresh p ++ said_from (is_fresh fresh (written fresh p)) ps
