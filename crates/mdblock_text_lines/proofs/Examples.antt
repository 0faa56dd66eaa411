-- Lines of documents that are text whatever they look like.
use Rattle.std.proofs.Common.{◌≡◌, ℕ, List, [], ◌∷◌, refl}
use Rattle.std.specs.Prelude.{codes}
use Rattle.markdown_base.specs.Presets.{default_constructs}
use Rattle.markdown_base.specs.Virtual.{virtual}
use Rattle.mdblock_text_lines.specs.DocumentBlocks.{text_lines}

abbrev texts_in : List ℕ → List ℕ
texts_in d = text_lines default_constructs (virtual 4 d)

-- a lazy underline, and a line directly behind a definition
lazy : texts_in (codes "> a\n===") ≡ 2 ∷ []
lazy = refl

behind : texts_in (codes "[a]: b\n---") ≡ 2 ∷ []
behind = refl

none : texts_in (codes "a\n---") ≡ []
none = refl
