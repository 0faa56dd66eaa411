-- Chunks among marks that edits rename. The edits move what the ends of their links lead to.
use Rattle.std.specs.Prelude.{◌≡◌, ◌≤◌, ℕ, ◌+◌, true, List, [], ◌∷◌, Some, None}
use Rattle.markdown_edits.specs.Edited.{edited}
use Rattle.mdblock_leaf_blocks.specs.LeafEvents.{linked_from}
use Rattle.mdblock_leaf_blocks.specs.ToldMarks.{ToldMark, as_it_is, under_names, before_edits, behind_edits, told_edits}

-- the first two marks are kept
abbrev pub TwoAreKept : List ToldMark → Type 0
TwoAreKept (as_it_is m ∷ as_it_is n ∷ ts) = Unit {0}
TwoAreKept _ = ⊥

-- Chunks stand behind so many kept marks: one that has a previous chunk has two of them before it, and one that has a next chunk has two behind
-- it. No other event is linked
abbrev pub ChunksStand : (kept : ℕ) → List ToldMark → Type 0
ChunksStand kept [] = Unit {0}
ChunksStand kept (as_it_is (e, None) ∷ ts) = (e.link ≡ None) × ChunksStand (kept + 1) ts
ChunksStand kept (as_it_is (e, Some chunk) ∷ ts) = (chunk.has_previous ≡ true → 2 ≤ kept) × (chunk.has_next ≡ true → TwoAreKept ts) × ChunksStand (kept + 1) ts
ChunksStand kept (under_names e names ∷ ts) = ChunksStand 0 ts

-- Edits make the events of the marks behind them from those of the marks before them
abbrev pub EditsGiveNames : Type 0
EditsGiveNames = (ts : List ToldMark) → ChunksStand 0 ts → edited (told_edits 0 ts) (linked_from 0 (before_edits ts)) ≡ linked_from 0 (behind_edits ts)
