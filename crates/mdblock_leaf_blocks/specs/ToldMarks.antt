-- Marks that edits rename: an event of setext headings is read under one name, and gets others at the underline's end.
use Rattle.std.specs.Prelude.{ℕ, ◌+◌, List, [], ◌∷◌, map, None}
use Rattle.std.specs.List.{flat_map}
use Rattle.markdown_base.specs.declared.event.Event.{Event}
use Rattle.markdown_base.specs.declared.event.Name.{Name}
use Rattle.markdown_edits.specs.Edits.{Edit, edit_at}
use Rattle.mdblock_leaf_rows.specs.HeadingEdits.{under}
use Rattle.mdblock_leaf_blocks.specs.LeafEvents.{Mark}

-- A mark, which is kept; or an event without a chunk, which gets these names in place of its own
pub data ToldMark : Type 0 where
  as_it_is : Mark → ToldMark
  under_names : Event → List Name → ToldMark

-- the marks before the edits, and behind them
abbrev pub mark_before : ToldMark → Mark
mark_before (as_it_is m) = m
mark_before (under_names e names) = (e, None)

abbrev pub marks_behind : ToldMark → List Mark
marks_behind (as_it_is m) = m ∷ []
marks_behind (under_names e names) = map (λ n. (under e n, None)) names

abbrev pub before_edits : List ToldMark → List Mark
before_edits ts = map mark_before ts

abbrev pub behind_edits : List ToldMark → List Mark
behind_edits ts = flat_map marks_behind ts

-- the edits, of events from an index on
abbrev pub told_edits : (index : ℕ) → List ToldMark → List Edit
told_edits i [] = []
told_edits i (as_it_is m ∷ ts) = told_edits (i + 1) ts
told_edits i (under_names e names ∷ ts) = edit_at i 1 (map (under e) names) ∷ told_edits (i + 1) ts
