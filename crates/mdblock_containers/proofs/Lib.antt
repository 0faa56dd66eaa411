-- rows
pub mod DocumentRows
pub mod GoingLemmas
pub mod LineFacts
pub mod OverLemmas
mod PlainBytes
pub mod RowFacts
pub mod RowLemmas
pub mod RowReads
pub mod RowSpans
pub mod TextLemmas
-- ahead
pub mod AheadLemmas
-- writing
pub mod FrameFacts
pub mod FrameLemmas
pub mod OpenFrames
pub mod RunLemmas
pub mod SeatFacts
pub mod SeatLemmas
pub mod SpanLemmas
pub mod StoodLemmas
pub mod WritingLemmas
pub mod WrittenLemmas
-- lists
pub mod ListLemmas
pub mod ListNumbers
pub mod ListSeenLemmas
-- letters
pub mod Examples
pub mod LazyLemmas
pub mod LetterLemmas
pub mod LetterPlaces
pub mod PlainLetters
-- prefixes
pub mod AnySpans
pub mod PrefixLemmas
pub mod PrefixSpans
-- parts
pub mod EndLemmas
pub mod JoinLemmas
pub mod PartFacts
pub mod PartGoes
pub mod PartLemmas
pub mod PartSpans
pub mod PartWritten
pub mod Pieces
pub mod StretchLemmas
-- costs
pub mod ColumnLemmas
pub mod CostLemmas
pub mod PartCosts
-- skeleton
pub mod RestLemmas
-- whole skeletons
pub mod ChainLemmas
pub mod Innermost
pub mod SkeletonChains
pub mod SkeletonReady
pub mod TightMarks
