-- Where lines can be cut: at a rest the lines before it and the lines from it on are read apart, and are what they are together.
use Rattle.std.specs.Prelude.{◌≡◌, ◌&&◌, ◌||◌, not, Bool, true, false, List, [], ◌∷◌, ◌++◌, is_some}
use Rattle.markdown_base.specs.declared.configuration.Constructs.{Constructs}
use Rattle.mdblock_leaf_blocks.specs.HtmlLines.{waits_for_blank}
use Rattle.mdblock_leaf_blocks.specs.LeafBlocks.{Line, LeafBlock, paragraph, fenced_code, html_block, interrupts, leaf_blocks, text_of}
use Rattle.mdblock_leaf_blocks.specs.LineKinds.{LineKind, blank, indented, line_kind, underline_rank}

-- a line that is neither blank nor indented code. Where code is on, it has three columns of white space before it at most
abbrev pub begins_near : LineKind → Bool
begins_near blank = false
begins_near indented = false
begins_near _ = true

-- The constructs that are on
module _ (on : Constructs) where
  abbrev pub kind_of_line : Line → LineKind
  kind_of_line line = line_kind on (text_of line)

  -- a block that has all lines so far goes on with a line, which is neither blank nor indented code
  abbrev pub goes_on : LeafBlock → Line → Bool
  goes_on (paragraph lines) line = not (interrupts (kind_of_line line)) || is_some (underline_rank on (text_of line))
  goes_on (fenced_code f is_closed lines) line = not is_closed
  goes_on (html_block kind is_closed lines) line = not is_closed || waits_for_blank kind
  goes_on _ line = false

  -- it may go on with a line that is neither blank nor indented code
  abbrev pub is_open : LeafBlock → Bool
  is_open (paragraph lines) = true
  is_open (fenced_code f is_closed lines) = not is_closed
  is_open (html_block kind is_closed lines) = not is_closed || waits_for_blank kind
  is_open _ = false

  -- the last of blocks passes a test
  abbrev pub last_passes : (LeafBlock → Bool) → List LeafBlock → Bool
  last_passes test [] = false
  last_passes test (block ∷ []) = test block
  last_passes test (block ∷ blocks) = last_passes test blocks

  -- a leaf block is open behind lines
  abbrev pub is_open_behind : List Line → Bool
  is_open_behind lines = last_passes is_open (leaf_blocks on lines)

  -- A line is at a rest behind lines: no leaf block is open there, and it is neither blank nor indented code
  abbrev pub is_at_rest : List Line → Line → Bool
  is_at_rest before line = begins_near (kind_of_line line) && not (is_open_behind before)

  -- The wider rest: the last leaf block does not go on with the line
  abbrev pub is_at_wide_rest : List Line → Line → Bool
  is_at_wide_rest before line = begins_near (kind_of_line line) && not (last_passes (λ block. goes_on block line) (leaf_blocks on before))

-- At a rest leaf blocks are cut apart
abbrev pub RestsCutBlocks : Type 0
RestsCutBlocks = (on : Constructs) (before : List Line) (line : Line) (behind : List Line) → is_at_rest on before line ≡ true
    → leaf_blocks on (before ++ line ∷ behind) ≡ leaf_blocks on before ++ leaf_blocks on (line ∷ behind)

-- and at a wider rest
abbrev pub WideRestsCutBlocks : Type 0
WideRestsCutBlocks = (on : Constructs) (before : List Line) (line : Line) (behind : List Line) → is_at_wide_rest on before line ≡ true
    → leaf_blocks on (before ++ line ∷ behind) ≡ leaf_blocks on before ++ leaf_blocks on (line ∷ behind)

-- Behind a rest what comes before it is forgotten: later lines are at a rest or not, whatever it was
abbrev pub RestsForget : Type 0
RestsForget = (on : Constructs) (before : List Line) (line : Line) (behind : List Line) (next : Line) → is_at_rest on before line ≡ true
    → is_at_rest on (before ++ line ∷ behind) next ≡ is_at_rest on (line ∷ behind) next
