-- Lines of paragraphs and of setext headings have text.
use Rattle.mdblock_leaf_blocks.proofs.Prelude.{◌≡◌, ℕ, zero, suc, ◌≤◌, List, [], ◌∷◌, true, false, cond, length, take, drop, Option, Some, None, refl, sym, ◌∙◌, subst, arith, ◌==◌, ◌&&◌, ◌||◌, ◌+◌, is_some, not, one-add, AllByRecursion, Constructs, Seat, joined, lines_in, Line, LeafBlock, paragraph, setext_heading, text_of, ends_text, interrupts, lines_until, underlined, content_at, block_of_kind, blocks_in, leaf_blocks, LineKind, indented, is_blank_line, is_thematic_break, is_far, kind_of_rest, indent, line_kind, underline_rank, unindented}
use Rattle.mdblock_leaf_blocks.specs.LineKinds.{blank, thematic_break, text}
use Rattle.mdblock_leaf_blocks.proofs.Lines.TestedKinds.{underline-kind}

-- a line that begins with a byte of text
abbrev pub StartsText : Line → Type 0
StartsText [] = ⊥
StartsText (s ∷ ss) = (s.byte == 10) ≡ false

-- the lines of a block that have chunks of text are such lines, and so is an below
abbrev pub IsFull : LeafBlock → Type 0
IsFull (paragraph lines) = AllByRecursion StartsText lines
IsFull (setext_heading rank lines below) = AllByRecursion StartsText lines × (1 ≤ length lines) × StartsText below
IsFull _ = Unit {0}

-- a line is blank, or begins with a byte of text
abbrev IsShaped : Line → Type 0
IsShaped line = is_blank_line (text_of line) ≡ false → StartsText line

shaped-joined : (s : Seat) (lines : List Line) → (s.byte == 10) ≡ false → AllByRecursion IsShaped lines → AllByRecursion IsShaped (joined s lines)
shaped-joined s [] h k = ((λ _. h), tt)
shaped-joined s (line ∷ lines) h k = ((λ _. h), k.1)

shaped-ending : (s : Seat) → (s.byte == 10) ≡ true → IsShaped (s ∷ [])
shaped-ending s h full = absurd (let both : true ≡ false = (let is : is_blank_line (text_of (s ∷ [])) ≡ true = rw h refl in sym is ∙ full) in cc)

pub shaped-lines : (seats : List Seat) → AllByRecursion IsShaped (lines_in seats)
shaped-lines [] = tt
shaped-lines (s ∷ ss) = elim (s.byte == 10) as (λ b. (s.byte == 10) ≡ b → AllByRecursion IsShaped (cond b ((s ∷ []) ∷ lines_in ss) (joined s (lines_in ss)))) [
  | true ↦ λ h. (shaped-ending s h, shaped-lines ss)
  | false ↦ λ h. shaped-joined s (lines_in ss) h (shaped-lines ss)
] refl

shaped-drop : (n : ℕ) (lines : List Line) → AllByRecursion IsShaped lines → AllByRecursion IsShaped (drop n lines)
shaped-drop zero lines h = h
shaped-drop (suc n) [] h = tt
shaped-drop (suc n) (line ∷ lines) h = shaped-drop n lines h.1

-- a kind of lines that are not blank
abbrev pub IsOfText : LineKind → Type 0
IsOfText blank = ⊥
IsOfText _ = Unit {0}

module _ (on : Constructs) where
  pub not-blank : (t : List ℕ) → IsOfText (line_kind on t) → is_blank_line t ≡ false
  not-blank t = elim (is_blank_line t) as (λ b. IsOfText (cond b blank (cond (is_far on t) indented (kind_of_rest on (indent t) (unindented t)))) → b ≡ false) [
    | true ↦ λ h. absurd h
    | false ↦ λ h. refl
  ]

  goes-on : (rank : Option ℕ) (k : LineKind) → (is_some rank || interrupts k) ≡ false → IsOfText k
  goes-on (Some rank) k h = absurd (cc)
  goes-on None blank h = absurd (cc)
  goes-on None k h = tt

  -- an underline is not blank
  ranked : (t : List ℕ) (rank : ℕ) → underline_rank on t ≡ Some rank → IsOfText (line_kind on t)
  ranked t rank is = subst IsOfText (sym (underline-kind on t rank is)) (elim (on.thematic_break && is_thematic_break (unindented t)) as (λ b. IsOfText (cond b thematic_break text)) [ true ↦ tt | false ↦ tt ])

  full-text : (lines : List Line) → AllByRecursion IsShaped lines → AllByRecursion StartsText (take (lines_until (ends_text on) lines) lines)
  full-text [] h = tt
  full-text (line ∷ lines) h = elim (ends_text on line) as (λ b. ends_text on line ≡ b → AllByRecursion StartsText (take (cond (not b) (1 + lines_until (ends_text on) lines) 0) (line ∷ lines))) [
    | true ↦ λ e. tt
    | false ↦ λ e. rw one-add (h.0 (not-blank (text_of line) (goes-on (underline_rank on (text_of line)) (line_kind on (text_of line)) e)), full-text lines h.1)
  ] refl

  full-underlined : (lines behind : List Line) → AllByRecursion StartsText lines → 1 ≤ length lines → AllByRecursion IsShaped behind → IsFull (underlined on lines behind).0
  full-underlined lines [] h some shaped = h
  full-underlined lines (next ∷ behind) h some shaped = by-rank (underline_rank on (text_of next)) refl
    where
      by-rank : (rank : Option ℕ) → underline_rank on (text_of next) ≡ rank
          → let u : LeafBlock × ℕ = elim rank [ None ↦ (paragraph lines, length lines) | Some rank ↦ (setext_heading rank lines next, suc (length lines)) ] in IsFull u.0
      by-rank None is = h
      by-rank (Some rank) is = (h, some, shaped.0 (not-blank (text_of next) (ranked (text_of next) rank is)))

  full-content : (line : Line) (lines : List Line) → StartsText line → AllByRecursion IsShaped lines → IsFull (content_at on (line ∷ lines)).0
  full-content line lines h shaped =
      let n = lines_until (ends_text on) lines in
      full-underlined (line ∷ take n lines) (drop n lines) (h, full-text lines shaped) (omega arith) (shaped-drop n lines shaped)

  full-block : (kind : LineKind) (line : Line) (lines : List Line) → (IsOfText kind → StartsText line) → AllByRecursion IsShaped lines → IsFull (block_of_kind on kind line lines).0
  full-block text line lines h shaped = full-content line lines (h tt) shaped
  full-block kind line lines h shaped = tt

  full-blocks : (bound : ℕ) (lines : List Line) → AllByRecursion IsShaped lines → AllByRecursion IsFull (blocks_in on bound lines)
  full-blocks zero lines h = tt
  full-blocks (suc bound) [] h = tt
  full-blocks (suc bound) (line ∷ lines) h =
      let kind = line_kind on (text_of line) in
      (full-block kind line lines (λ e. h.0 (not-blank (text_of line) e)) h.1, full-blocks bound (drop (block_of_kind on kind line lines).1 (line ∷ lines)) (shaped-drop (block_of_kind on kind line lines).1 (line ∷ lines) h))

  pub leaf-blocks-full : (seats : List Seat) → AllByRecursion IsFull (leaf_blocks on (lines_in seats))
  leaf-blocks-full seats = full-blocks (length (lines_in seats)) (lines_in seats) (shaped-lines seats)
