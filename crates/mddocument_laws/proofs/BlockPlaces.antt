-- The events of a leaf block stand where virtual bytes of its lines begin or end, as its spans are over parts of these.
use Rattle.mddocument_laws.proofs.Prelude.{◌≡◌, ℕ, zero, suc, ◌+◌, ◌⊎◌, List, [], ◌∷◌, ◌++◌, inl, inr, Some, None, Option, refl, ap, take, drop, length, All-contains_itself, All-from_recursion, recursion_from_All, AllByRecursion, Contains, every-append, every-drop, every-take, Constructs, Event, Name, shown, Seat, end_after, every-back, every-front, all_of, lines_in, block_lines, Line, LeafBlock, atx_heading, blank_line, block_of_kind, blocks_in, ends_text, further_code, lines_through, lines_until, text_of, underlined, fenced_code, leaf_blocks, paragraph, setext_heading, Chunk, Mark, chunk_span, flow_events, leaf_block_marks, leaf_blocks_marks, linked_from, LineKind, blank, closes, fence, heading, html, indented, line_kind, text, thematic_break, underline_rank}
use Rattle.mdblock_containers.proofs.PlainLetters.{lines_each}
use Rattle.markdown_base.specs.declared.event.Name.TheVariants as name
use Rattle.mddocument.proofs.Walks.BlockWalk.{MayBlock, block-are}
use Rattle.mddocument.proofs.Walks.InnerTexts.{AnySeat, any-lines}
use Rattle.mddocument.proofs.Walks.MarksWalk.{Walk}
use Rattle.mddocument_laws.specs.BlockPlaces.{BlocksStandInLines, LeafBlocksStandInTexts, StandsAtOne}

-- names do not matter
abbrev AnyName : Name → Type 0
AnyName n = Unit {0}

any-block : (block : LeafBlock) → MayBlock AnyName block
any-block (blank_line line) = tt
any-block (atx_heading line) = (tt, tt, tt)
any-block (paragraph lines) = tt
any-block (setext_heading rank lines underline) = (tt, tt, tt, tt)
any-block (fenced_code f is_closed lines) = record { code_fenced = tt; fence = tt; sequence = tt; info = tt; meta = tt; code = tt }
any-block block = (tt, tt)

module _ (bytes : List ℕ) (Q : Seat → Type 0) where
  -- an event stands where a virtual byte that is so begins or ends
  abbrev Stands : Event → Type 0
  Stands e = (s : Seat) × Q s × ((e.point ≡ shown bytes s.point) ⊎ (e.point ≡ shown bytes s.end))

  record Are (marks : List Mark) : Type 0 where
    all : AllByRecursion (λ m. Stands m.0) marks

  -- virtual bytes are so, and those of lines are
  abbrev Of : List Seat → Type 0
  Of seats = AllByRecursion Q seats

  -- ---- spans
  none : Are []
  none = record { all = tt }

  both : {xs ys : List Mark} → Are xs → Are ys → Are (xs ++ ys)
  both {xs} {ys} h k = record { all = every-append (λ m. Stands m.0) xs ys h.all k.all }

  last-end : (s : Seat) (ss : List Seat) → Q s → Of ss → (t : Seat) × Q t × (end_after s.end ss ≡ t.end)
  last-end s [] q h = (s, q, refl)
  last-end s (r ∷ rs) q h = last-end r rs h.0 h.1

  around : (chunk : Option Chunk) (n : Name) (seats : List Seat) (inside : List Mark) → Of seats → Are inside → Are (chunk_span bytes chunk n seats inside)
  around chunk n [] inside q h = h
  around chunk n (s ∷ ss) inside q h =
      let last = last-end s ss q.0 q.1 in
      record { all = ((s, q.0, inl refl), every-append (λ m. Stands m.0) inside _ h.all ((last.0, last.1, inr (ap (shown bytes) last.2)), tt)) }

  walk : Walk bytes Are AnyName Q
  walk = record {
    none = none;
    both = λ xs ys h k. both h k;
    over = λ n seats marks m q h. around None n seats marks q h;
    space = tt;
    line_ending = tt;
    blank_ending = tt;
  }

  in-block : (block : LeafBlock) → AllByRecursion Of (block_lines block) → Are (leaf_block_marks bytes block)
  in-block block q = block-are bytes Are AnyName Q AnySeat walk (λ c seats k i. around (Some c) name.Data seats [] k none) block (any-block block) q (any-lines (block_lines block))

-- the virtual bytes of lines are those of each line
each-line : (Q : Seat → Type 0) (lines : List Line) → AllByRecursion Q (all_of lines) → AllByRecursion (AllByRecursion Q) lines
each-line Q [] h = tt
each-line Q (line ∷ lines) h = (every-front Q line (all_of lines) h, each-line Q lines (every-back Q line (all_of lines) h))

-- Each event of a leaf block stands in the lines of the block
pub blocks-stand-in-lines : BlocksStandInLines
blocks-stand-in-lines bytes block =
    let seats = all_of (block_lines block) in
    let all : AllByRecursion (Contains seats) seats = recursion_from_All (Contains seats) seats (All-contains_itself seats) in
    let is = in-block bytes (Contains seats) block (each-line (Contains seats) (block_lines block) all) in
    All-from_recursion (λ (m : Mark). StandsAtOne bytes seats m.0) (leaf_block_marks bytes block) is.all

-- ---- the lines of a text's blocks are lines of the text
module _ (on : Constructs) (Q : Line → Type 0) where
  abbrev Lines : List Line → Type 0
  Lines lines = AllByRecursion Q lines

  some-lines : (n : ℕ) (lines : List Line) → Lines lines → Lines (take n lines)
  some-lines n lines h = every-take Q n lines h

  underlined-lines : (lines behind : List Line) → Lines lines → Lines behind → Lines (block_lines (underlined on lines behind).0)
  underlined-lines lines [] h k = h
  underlined-lines lines (next ∷ behind) h k = by (underline_rank on (text_of next))
    where
      by : (found : Option ℕ) → Lines (block_lines (let p : LeafBlock × ℕ = elim found [ None ↦ (paragraph lines, length lines) | Some rank ↦ (setext_heading rank lines next, suc (length lines)) ] in p.0))
      by None = h
      by (Some rank) = every-append Q lines (next ∷ []) h (k.0, tt)

  lines-of-kind : (kind : LineKind) (line : Line) (lines : List Line) → Lines (line ∷ lines) → Lines (block_lines (block_of_kind on kind line lines).0)
  lines-of-kind blank line lines h = (h.0, tt)
  lines-of-kind indented line lines h = some-lines (suc (further_code on lines)) (line ∷ lines) h
  lines-of-kind heading line lines h = (h.0, tt)
  lines-of-kind (fence f) line lines h = some-lines (suc (lines_through (closes on f) lines)) (line ∷ lines) h
  lines-of-kind (html kind) line lines h = some-lines _ (line ∷ lines) h
  lines-of-kind thematic_break line lines h = (h.0, tt)
  lines-of-kind text line lines h =
      let n = suc (lines_until (ends_text on) lines) in
      underlined-lines (take n (line ∷ lines)) (drop n (line ∷ lines)) (some-lines n (line ∷ lines) h) (every-drop Q n (line ∷ lines) h)

  lines-of-blocks : (bound : ℕ) (lines : List Line) → Lines lines → AllByRecursion (λ (b : LeafBlock). Lines (block_lines b)) (blocks_in on bound lines)
  lines-of-blocks zero lines h = tt
  lines-of-blocks (suc bound) [] h = tt
  lines-of-blocks (suc bound) (line ∷ lines) h =
      let kind = line_kind on (text_of line) in
      let n = (block_of_kind on kind line lines).1 in
      (lines-of-kind kind line lines h, lines-of-blocks bound (drop n (line ∷ lines)) (every-drop Q n (line ∷ lines) h))

module _ (bytes : List ℕ) (Q : Seat → Type 0) where
  all-in : (blocks : List LeafBlock) → AllByRecursion (λ (b : LeafBlock). AllByRecursion (AllByRecursion Q) (block_lines b)) blocks → Are bytes Q (leaf_blocks_marks bytes blocks)
  all-in [] h = none bytes Q
  all-in (block ∷ blocks) h = both bytes Q (in-block bytes Q block h.0) (all-in blocks h.1)

  linked-stand : (i : ℕ) (marks : List Mark) → AllByRecursion (λ (m : Mark). Stands bytes Q m.0) marks → AllByRecursion (Stands bytes Q) (linked_from i marks)
  linked-stand i [] h = tt
  linked-stand i ((e, None) ∷ marks) h = (h.0, linked-stand (i + 1) marks h.1)
  linked-stand i ((e, Some chunk) ∷ marks) h = (h.0, linked-stand (i + 1) marks h.1)

-- Each event of a text's leaf blocks stands in the text
pub leaf-blocks-stand-in-texts : LeafBlocksStandInTexts
leaf-blocks-stand-in-texts on bytes seats =
    let Q : Seat → Type 0 = Contains seats in
    let lines = lines_in seats in
    let of = lines_each Q seats (recursion_from_All (Contains seats) seats (All-contains_itself seats)) in
    let marks = all-in bytes Q (leaf_blocks on lines) (lines-of-blocks on (AllByRecursion Q) (length lines) lines of) in
    All-from_recursion (StandsAtOne bytes seats) (flow_events on bytes seats) (linked-stand bytes Q 0 (leaf_blocks_marks bytes (leaf_blocks on lines)) marks.all)
