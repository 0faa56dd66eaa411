-- The ranks of headings, as the events of a document tell them (CommonMark 0.31, 4.2 "ATX headings", 4.3 "Setext headings"). The definitions have no states.
use Rattle.std.specs.List.{flat_map}
use Rattle.std.specs.Prelude.{◌≡◌, ℕ, ◌-◌, ◌≤◌, ◌==◌, ◌&&◌, ◌||◌, All, Bool, IsSomeAnd, List, [], ◌∷◌, ◌++◌, Option, None, Some, cond, map, option_map, slice_get, true, ⊤}
use Rattle.markdown_base.specs.declared.event.Content.TheVariants.{Content}
use Rattle.markdown_base.specs.declared.event.Event.{Event}
use Rattle.markdown_base.specs.declared.event.Name.{Name}
use Rattle.markdown_base.specs.declared.event.Name.TheVariants as name
use Rattle.markdown_base.specs.Events.{is_enter, same_name}
use Rattle.markdown_tokenizer.specs.Text.{Given, IsDocument}
use Rattle.markdown_children.specs.Chains.{fitting_starts}
use Rattle.markdown_children.specs.Reads.{text_from}
use Rattle.mdconstructs_machines.specs.LineEvents.{lines_in}
use Rattle.mdblock_leaf_blocks.specs.LeafBlocks.{LeafBlock, atx_heading, leaf_blocks, setext_heading, text_of}
use Rattle.mdblock_leaf_blocks.specs.LineKinds.{run, unindented}
use Rattle.mdblock_definitions.specs.Blocks.{document_skeleton, shown_as_text}
use Rattle.mddocument.specs.DocumentEvents.{document_events}

-- ---- what events tell

-- an event enters a span of this name
abbrev pub enters : Name → Event → Bool
enters n e = is_enter e.kind && same_name e.name n

-- the events from the first on that passes a test
abbrev pub from_first : (Event → Bool) → List Event → List Event
from_first test [] = []
from_first test (e ∷ es) = cond (test e) (e ∷ es) (from_first test es)

-- how many bytes there are from the first event to the second
abbrev pub size_of_first : List Event → Option ℕ
size_of_first [] = None
size_of_first (e ∷ []) = None
size_of_first (e ∷ f ∷ es) = Some (f.point.index - e.point.index)

-- an event enters a heading
abbrev pub enters_heading : Event → Bool
enters_heading e = enters name.HeadingAtx e || enters name.HeadingSetext e

module _ (bytes : List ℕ) where
  -- the byte at the first event
  abbrev pub byte_of_first : List Event → Option ℕ
  byte_of_first [] = None
  byte_of_first (e ∷ es) = slice_get bytes e.point.index

  -- The rank of the heading that an event enters, by the events behind it. "The heading level is equal to the number of # characters in the opening
  -- sequence" (4.2); "The heading is a level 1 heading if = characters are used in the setext heading underline, and a level 2 heading if - characters
  -- are used" (4.3)
  abbrev pub rank_at : Event → (behind : List Event) → Option ℕ
  rank_at e es =
      cond (enters name.HeadingAtx e) (size_of_first (from_first (enters name.HeadingAtxSequence) es))
      (cond (enters name.HeadingSetext e) (option_map (λ byte. cond (byte == 61) 1 2) (byte_of_first (from_first (enters name.HeadingSetextUnderlineSequence) es))) None)

  -- the ranks of the headings that events enter, in order
  abbrev pub ranks_in : List Event → List (Option ℕ)
  ranks_in [] = []
  ranks_in (e ∷ es) = cond (enters_heading e) (rank_at e es ∷ ranks_in es) (ranks_in es)

-- ---- the headings of a document

-- the rank of a leaf block that is a heading: the number of `#` that its line begins with, behind white space, or that of its underline
abbrev pub rank_of : LeafBlock → List ℕ
rank_of (atx_heading line) = run 35 (unindented (text_of line)) ∷ []
rank_of (setext_heading rank lines underline) = rank ∷ []
rank_of _ = []

-- The leaf blocks of a document, in its containers: those of the text of each chain of its skeleton
abbrev pub leaf_blocks_of : Given → List LeafBlock
leaf_blocks_of g =
    let skeleton = document_skeleton g in
    flat_map (λ c. leaf_blocks g.options.constructs (lines_in (text_from (shown_as_text g) skeleton c).seats)) (fitting_starts (Some Content) skeleton)

-- a rank is from 1 to 6, and that of a setext heading 1 or 2
abbrev pub HasRank : LeafBlock → Type 0
HasRank (atx_heading line) = let signs = run 35 (unindented (text_of line)) in (1 ≤ signs) × (signs ≤ 6)
HasRank (setext_heading rank lines underline) = (1 ≤ rank) × (rank ≤ 2)
HasRank _ = ⊤

-- ---- what is promised

-- The events of each document tell the ranks of its headings, in order, whatever is in their texts and around them
abbrev pub HeadingsTellTheirRanks : Type 0
HeadingsTellTheirRanks = (g : Given) → IsDocument g → ranks_in g.bytes (document_events g) ≡ map Some (flat_map rank_of (leaf_blocks_of g))

abbrev pub HeadingsHaveRanks : Type 0
HeadingsHaveRanks = (g : Given) → IsDocument g → All HasRank (leaf_blocks_of g)

-- So what is behind each event that enters a heading tells a rank from 1 to 6
abbrev pub EachHeadingTellsItsRank : Type 0
EachHeadingTellsItsRank = (g : Given) → IsDocument g → (before behind : List Event) (e : Event) → document_events g ≡ before ++ e ∷ behind → enters_heading e ≡ true
    → IsSomeAnd (rank_at g.bytes e behind) (λ rank. (1 ≤ rank) × (rank ≤ 6))
