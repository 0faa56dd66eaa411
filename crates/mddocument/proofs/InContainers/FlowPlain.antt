-- Leaf blocks have no cells.
use Rattle.std.proofs.Common.{◌≡◌, ℕ, ◌+◌, false, List, [], ◌∷◌, None, Some, refl}
use Rattle.std.specs.Prelude.{◌&&◌}
use Rattle.std.specs.List.{AllByRecursion}
use Rattle.markdown_base.specs.declared.configuration.Constructs.{Constructs}
use Rattle.markdown_base.specs.declared.event.Kind.{Kind}
use Rattle.markdown_base.specs.declared.event.Kind.TheVariants.{Enter, Exit}
use Rattle.markdown_base.specs.declared.event.Name.{Name}
use Rattle.markdown_base.specs.declared.event.Name.TheVariants as name
use Rattle.markdown_base.specs.Events.{is_enter, same_name}
use Rattle.markdown_base.specs.Virtual.{Seat}
use Rattle.mdconstructs_machines.specs.LineEvents.{lines_in}
use Rattle.mdblock_leaf_blocks.specs.BlockLines.{block_lines}
use Rattle.mdblock_leaf_blocks.specs.LeafBlocks.{LeafBlock, leaf_blocks}
use Rattle.mdblock_leaf_blocks.specs.LeafEvents.{Mark, flow_events, leaf_block_marks, leaf_blocks_marks, linked_from}
use Rattle.mdblock_table_marks.proofs.CellGaps.{no-cells-both}
use Rattle.mdblock_table_marks.proofs.NoCellMarks.{IsOther, data-none}
use Rattle.mdblock_table_marks.specs.CellPlaces.{NoCells}
use Rattle.mddocument.proofs.InContainers.CellsWoven.{ArePlain}
use Rattle.mddocument.proofs.Walks.BlockWalk.{all-may, block-are, block_names}
use Rattle.mddocument.proofs.Walks.InnerTexts.{AnySeat, any-each, any-lines}
use Rattle.mddocument.proofs.Walks.MarksWalk.{Walk, walk-of-marks}

pub other-plain : (k : Kind) (n : Name) → IsOther n → (is_enter k && same_name n name.GfmTableCellText) ≡ false
other-plain Enter n h = h
other-plain Exit n h = refl

no-cells : (i : ℕ) (ms : List Mark) → NoCells ms → ArePlain (linked_from i ms)
no-cells i [] h = tt
no-cells i ((e, None) ∷ ms) h = (h.0, no-cells (i + 1) ms h.1)
no-cells i ((e, Some k) ∷ ms) h = (h.0, no-cells (i + 1) ms h.1)

other-names : AllByRecursion IsOther block_names
other-names = (refl, (refl, (refl, (refl, (refl, (refl, (refl, (refl, (refl, (refl, (refl, (refl, (refl, (refl, (refl, (refl, (refl, (refl, (refl, tt)))))))))))))))))))

module _ (bytes : List ℕ) where
  walk : Walk bytes NoCells IsOther AnySeat
  walk = walk-of-marks bytes NoCells IsOther tt no-cells-both (λ k n place m. (other-plain k n m, tt)) refl refl refl

  one-block : (block : LeafBlock) → NoCells (leaf_block_marks bytes block)
  one-block block = block-are bytes NoCells IsOther AnySeat AnySeat walk (λ c seats q i. data-none bytes c seats) block (all-may IsOther other-names block) (any-each (block_lines block)) (any-lines (block_lines block))

  blocks : (bs : List LeafBlock) → NoCells (leaf_blocks_marks bytes bs)
  blocks [] = tt
  blocks (b ∷ bs) = no-cells-both (leaf_block_marks bytes b) (leaf_blocks_marks bytes bs) (one-block b) (blocks bs)

pub flow-plain : (on : Constructs) (bytes : List ℕ) (seats : List Seat) → ArePlain (flow_events on bytes seats)
flow-plain on bytes seats = no-cells 0 (leaf_blocks_marks bytes (leaf_blocks on (lines_in seats))) (blocks bytes (leaf_blocks on (lines_in seats)))
