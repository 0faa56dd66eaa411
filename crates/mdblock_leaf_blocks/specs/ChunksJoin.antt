-- Chunks of text in the events of leaf blocks: each line's chunk stands before that of the next line, and in a document directly before it.
use Rattle.std.specs.Prelude.{◌≡◌, ◌⊎◌, ℕ, ◌+◌, false, List, None, Some, slice_get}
use Rattle.std.specs.List.{AllByRecursion}
use Rattle.markdown_base.specs.declared.event.Event.{Event}
use Rattle.markdown_base.specs.declared.event.Point.{Point}
use Rattle.markdown_base.specs.Places.{stands_before}
use Rattle.markdown_base.specs.Virtual.{virtual}
use Rattle.markdown_edits.specs.Links.{AreMutual, IsLinkedEnter, content_at, next_of}
use Rattle.markdown_tokenizer.specs.Text.{Given, Text, IsDocument, IsText}
use Rattle.mdblock_leaf_blocks.specs.LeafEvents.{flow_events}

-- the place of a chunk's exit is that of the chunk behind it
abbrev pub AtOnce : (exit behind : Point) → Type 0
AtOnce exit behind = behind ≡ exit

-- Or there is a gap between the two: it goes from the beginning of a line to a later place of that line, as the prefix of a container does
pub record AcrossGap (exit behind : Point) : Type 0 where
  pub forward : stands_before behind exit ≡ false
  pub in_line : (exit ≡ behind) ⊎ ((exit.column ≡ 1) × (behind.line ≡ exit.line))

-- how the place of an exit meets that of the chunk behind it
module _ (Meets : (exit behind : Point) → Type 0) where
  -- The chunk at an index is followed at once by its exit, and by the chunk at d, which is read as the same; and their places meet
  pub record IsDirectlyBehind (es : List Event) (k d : ℕ) : Type 0 where
    pub exit : Event
    pub behind : Event
    pub is : d ≡ k + 2
    pub exit_at : slice_get es (k + 1) ≡ Some exit
    pub behind_at : slice_get es d ≡ Some behind
    pub place : Meets exit.point behind.point
    pub content : content_at es d ≡ content_at es k

  -- Linked events begin chunks, each that has a next one is directly before it, and links are mutual
  pub record ChunksMeet (es : List Event) : Type 0 where
    pub each : AllByRecursion (λ (e : Event). (e.link ≡ None) ⊎ IsLinkedEnter e) es
    pub next : (k d : ℕ) → next_of es k ≡ Some d → IsDirectlyBehind es k d
    pub both_ways : AreMutual es

-- each begins where the one before it ends
abbrev pub ChunksJoin : List Event → Type 0
ChunksJoin es = ChunksMeet AtOnce es

-- So it is with the events of a document's leaf blocks
abbrev pub BlocksJoin : Type 0
BlocksJoin = (g : Given) → IsDocument g → ChunksJoin (flow_events g.options.constructs g.bytes (virtual g.tab g.bytes))

-- and with those of any text, but for its gaps
abbrev pub BlocksMeet : Type 0
BlocksMeet = (g : Given) (text : Text) → IsText g text → ChunksMeet AcrossGap (flow_events g.options.constructs g.bytes text.seats)
