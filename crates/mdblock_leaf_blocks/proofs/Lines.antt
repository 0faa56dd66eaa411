-- Lines, and how what is in them is read.
pub use Rattle.mdblock_leaf_blocks.proofs.Lines.Checks.{called-row, class-here, looks, read-checked, step-checked}
pub use Rattle.mdblock_leaf_blocks.proofs.Lines.Columns.{back_upto, front_upto, take-upto, upto-all, upto-blank, upto-in-line, upto-short, upto-stops, upto-white, upto-whole}
pub use Rattle.mdblock_leaf_blocks.proofs.Lines.Fronts.{Fails, all-back, all-front, all-with-front, back, back-fails, bytes-behind, drop-back, drop-bytes, front, front-all, front-back, is_dark, length-back, length-front, prefix-front, prefix-grows, prefix-parts, take-front}
pub use Rattle.mdblock_leaf_blocks.proofs.Lines.KindsOfLines.{IsPossible, fence_of, possible, says, underlined-is}
pub use Rattle.mdblock_leaf_blocks.proofs.Lines.Leading.{Leads, from-leads, read-leads, row-leads}
pub use Rattle.mdblock_leaf_blocks.proofs.Lines.LineCounts.{has-one-more, has-there, none-left, some-through, through-one-more, through-there, until-one-more, until-there}
pub use Rattle.mdblock_leaf_blocks.proofs.Lines.LineParts.{IsWhite, all-white, at-first, first-parts}
pub use Rattle.mdblock_leaf_blocks.proofs.Lines.LineReads.{IsAt, IsUnwritten, at-behind, behind-line, keeps-on, reads-end, reads-keeping, reads-nothing, reads-on, reads-parts, unwritten, unwritten-keeps, unwritten-on}
pub use Rattle.mdblock_leaf_blocks.proofs.Lines.Lines.{EndsWithIt, EndsWithout, all-of-split, body-and-text, body-with-ending, cut-line, has-first, in-line-alone, in-line-behind, in-line-ending, in-line-front, in-line-text, line-ending-is, line-text-is, line-with-it, lines-behind, lines-dropped, lines-in-are, lines-taken, seats-split, taken-are-whole, text-in-line, whole-before}
pub use Rattle.mdblock_leaf_blocks.proofs.Lines.LinesRead.{AreRead, Fits, one-more}
pub use Rattle.mdblock_leaf_blocks.proofs.Lines.Rooms.{has-room}
pub use Rattle.mdblock_leaf_blocks.proofs.Lines.RowReads.{ArePlain, ReadOnce, counted, row-stays, row-takes, row-takes-on, rows_of, seen, told, white-is-blank}
pub use Rattle.mdblock_leaf_blocks.proofs.Lines.RunReads.{Goes, Keeping, Reads, Runs, all-in-line, all_kept, byte-then, comes, edits_kept, fails-line, goes, goes-by, goes-line, is_in_line, leaves, line-over, line-runs, none-then, row-ends, run-ends, run-from, run-on, run-piece, then, then-ends, white-piece, white-runs}
pub use Rattle.mdblock_leaf_blocks.proofs.Lines.TestedKinds.{ends-as-seen, seen-is-tested, underline-kind, underlined-as-seen}
pub use Rattle.mdblock_leaf_blocks.proofs.Lines.WholeLines.{IsWhole, body-and-last, text-and-ending, whole-lines}
pub mod Checks
pub mod Columns
pub mod Fronts
pub mod KindsOfLines
pub mod Leading
pub mod LineCounts
pub mod LineParts
pub mod LineReads
pub mod Lines
pub mod LinesRead
pub mod Rooms
pub mod RowReads
pub mod RunReads
pub mod TestedKinds
pub mod WholeLines
