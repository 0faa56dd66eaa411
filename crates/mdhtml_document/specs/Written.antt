-- Pieces behind bytes.
use Rattle.std.specs.Prelude.{ℕ, true, List, [], ◌∷◌, ◌++◌}
use Rattle.mdhtml_markup.specs.Pieces.{Piece, is_fresh, written}

-- bytes, and pieces behind them
abbrev pub after : (out : List ℕ) → List Piece → List ℕ
after out [] = out
after out (p ∷ ps) = after (out ++ written (is_fresh true out) p) ps
