-- Inner: costs of links: what the runs that are in no pair yet may cost, and the pieces that are to be written. No public contract cites
-- this file.
use Rattle.std.specs.Prelude.{ℕ, suc, ◌+◌, ◌*◌, List, [], ◌∷◌, length, map}
use Rattle.mdinline_emphasis.specs.Costs.{emphasis_a_run, ends_at, ends_of_pairs, markers_left}
use Rattle.mdinline_emphasis.specs.declared.pairs.Delimiters.{Delimiters}
use Rattle.mdinline_emphasis.specs.Emphasis.{Run}
use Rattle.mdinline_emphasis.specs.Searches.{as_run}
use Rattle.mdinline_links.specs.declared.brackets.Pieces.{Pieces}
use Rattle.mdinline_links.specs.declared.pieces.Fate.{Fate}
use Rattle.mdinline_links.specs.declared.pieces.Fate.TheVariants.{Paired}
use Rattle.mdinline_links.specs.declared.pieces.Piece.{Piece}

-- how many ends of pairs a span has: those at a run with its pairs
abbrev pub ends_in : Fate → ℕ
ends_in (Paired d) = ends_at (as_run d)
ends_in _ = 0

-- what it costs to write pieces: a turn for each, and one for each end of a pair
abbrev pub to_write : List Piece → ℕ
to_write [] = 0
to_write (p ∷ ps) = suc (ends_in p.fate + to_write ps)

-- what it may cost to pair some runs, to put each into its piece, and to write the ends of their pairs
abbrev pub pay : List Run → ℕ
pay rs = (emphasis_a_run * length rs + 3 * markers_left rs) + ends_of_pairs rs

-- what there is so far may cost yet: its runs, those that are left, and its pieces
abbrev pub to_pay : Pieces → List Delimiters → ℕ
to_pay all left = (pay (map as_run all.runs.items) + pay (map as_run left)) + to_write all.pieces.items
