-- Texts of lines: their virtual bytes without the ending of the last one. In bytes that end a line they end before the last byte.
use Rattle.std.proofs.Common.{◌≡◌, ℕ, zero, suc, ◌+◌, ◌<◌, ◌==◌, ◌&&◌, ◌||◌, not, Bool, true, false, cond, List, [], ◌∷◌, ◌++◌, length, refl, sym, subst, arith}
use Rattle.std.specs.List.{AllByRecursion, flat_map}
use Rattle.markdown_base.specs.declared.configuration.Constructs.{Constructs}
use Rattle.markdown_base.proofs.Common.{every-append}
use Rattle.markdown_tokenizer.proofs.Positions.Order.{every-all}
use Rattle.markdown_base.specs.Virtual.{Seat, begins_with_lf, end_in_tab, in_tab, line_feed, other_byte, point, tab_width, virtual_from}
use Rattle.mdconstructs_machines.specs.LineEvents.{is_line_ending, joined, line_text, lines_in}
use Rattle.mdblock_leaf_blocks.proofs.Marks.Cuts.{leaf-blocks-lines}
use Rattle.mdblock_leaf_blocks.specs.BlockLines.{block_lines}
use Rattle.mdblock_leaf_blocks.specs.LeafBlocks.{LeafBlock, Line, leaf_blocks}
use Rattle.mdblock_leaf_blocks.specs.LeafEvents.{body}
pub use Rattle.mddocument.proofs.Walks.InnerTexts.{AnySeat, AreInner, AreTextLines, inner-text, texts-front}
use Rattle.mddocument.proofs.Walks.InnerTexts.{any-lines}
use Rattle.mddocument_parts.specs.Moved.{begins_line}
use Rattle.mddocument_parts.specs.ReadTexts.{StandsBefore}
use Rattle.mddocument_parts.proofs.Virtual.{step}

module _ (Inner : Seat → Type 0) where
  pub texts-back : (xs ys : List Line) → AreTextLines Inner (xs ++ ys) → AreTextLines Inner ys
  texts-back [] ys h = h
  texts-back (x ∷ []) [] h = tt
  texts-back (x ∷ []) (y ∷ ys) h = h.1
  texts-back (x ∷ next ∷ xs) ys h = texts-back (next ∷ xs) ys h.1

  pub inner-body : (lines : List Line) → AreTextLines Inner lines → AreInner Inner (body lines)
  inner-body [] h = tt
  inner-body (line ∷ []) h = h
  inner-body (line ∷ next ∷ lines) h = every-append Inner line (body (next ∷ lines)) h.0 (inner-body (next ∷ lines) h.1)

  of-blocks : (blocks : List LeafBlock) → AreTextLines Inner (flat_map block_lines blocks) → AllByRecursion (λ b. AreTextLines Inner (block_lines b)) blocks
  of-blocks [] h = tt
  of-blocks (b ∷ blocks) h = (texts-front Inner (block_lines b) (flat_map block_lines blocks) h, of-blocks blocks (texts-back (block_lines b) (flat_map block_lines blocks) h))

  -- so it is in the lines of each leaf block
  pub text-blocks : (on : Constructs) (lines : List Line) → AreTextLines Inner lines → AllByRecursion (λ b. AreTextLines Inner (block_lines b)) (leaf_blocks on lines)
  text-blocks on lines h = of-blocks (leaf_blocks on lines) (subst (AreTextLines Inner) (sym (leaf-blocks-lines on lines)) h)

  -- ---- of virtual bytes of which all are inner ones, but for a line ending at the end
  abbrev pub AreTextSeats : List Seat → Type 0
  AreTextSeats [] = Unit {0}
  AreTextSeats (s ∷ []) = is_line_ending s ≡ false → Inner s
  AreTextSeats (s ∷ next ∷ ss) = Inner s × AreTextSeats (next ∷ ss)

  behind-inner : (s : Seat) (ss : List Seat) → Inner s → AreTextSeats ss → AreTextSeats (s ∷ ss)
  behind-inner s [] h k = λ e. h
  behind-inner s (next ∷ ss) h k = (h, k)

  text-one : (s : Seat) → (is_line_ending s ≡ false → Inner s) → AreInner Inner (line_text (s ∷ []))
  text-one s h = elim (is_line_ending s) as (λ c. is_line_ending s ≡ c → AreInner Inner (cond (not c) (s ∷ []) [])) [ true ↦ λ e. tt | false ↦ λ e. (h e, tt) ] refl

  text-more : (s : Seat) (line : List Seat) → Inner s → AreInner Inner (line_text line) → AreInner Inner (line_text (s ∷ line))
  text-more s line h k = elim (is_line_ending s) as (λ c. AreInner Inner (cond (not c) (s ∷ line_text line) (line_text line))) [ true ↦ k | false ↦ (h, k) ]

  line-more : (s : Seat) (lines : List Line) → Inner s → AreTextLines Inner lines → AreTextLines Inner ((s ∷ []) ∷ lines)
  line-more s [] h k = text-more s [] h tt
  line-more s (line ∷ lines) h k = ((h, tt), k)

  joined-more : (s : Seat) (lines : List Line) → Inner s → AreTextLines Inner lines → AreTextLines Inner (joined s lines)
  joined-more s [] h k = text-more s [] h tt
  joined-more s (line ∷ []) h k = text-more s line h k
  joined-more s (line ∷ next ∷ lines) h k = ((h, k.0), k.1)

  pub lines-of-texts : (seats : List Seat) → AreTextSeats seats → AreTextLines Inner (lines_in seats)
  lines-of-texts [] h = tt
  lines-of-texts (s ∷ []) h = elim (is_line_ending s) as (λ c. AreTextLines Inner (cond c ((s ∷ []) ∷ []) ((s ∷ []) ∷ []))) [ true ↦ text-one s h | false ↦ text-one s h ]
  lines-of-texts (s ∷ next ∷ ss) h = by (is_line_ending s) (lines-of-texts (next ∷ ss) h.1)
    where
      by : (c : Bool) → AreTextLines Inner (lines_in (next ∷ ss)) → AreTextLines Inner (cond c ((s ∷ []) ∷ lines_in (next ∷ ss)) (joined s (lines_in (next ∷ ss))))
      by true k = line-more s (lines_in (next ∷ ss)) h.0 k
      by false k = joined-more s (lines_in (next ∷ ss)) h.0 k

-- ---- where all virtual bytes are inner ones
pub any-blocks : (blocks : List LeafBlock) → AllByRecursion (λ b. AreTextLines AnySeat (block_lines b)) blocks
any-blocks blocks = every-all (λ b. AreTextLines AnySeat (block_lines b)) (λ b. any-lines (block_lines b)) blocks

-- ---- virtual bytes of bytes that end a line
module _ (t n : ℕ) where
  tab-texts : (byte k line column index vs : ℕ) (ss : List Seat) → suc index < n → AreTextSeats (StandsBefore n) ss → AreTextSeats (StandsBefore n) (in_tab byte k line column index vs ++ ss)
  tab-texts byte zero line column index vs ss l h = h
  tab-texts byte (suc zero) line column index vs ss l h =
      let s : Seat = record { byte = byte; point = point line column index vs; end = end_in_tab 0 line column index vs } in
      let low : index < n = omega (arith, l) in
      behind-inner (StandsBefore n) s ss (low, l) h
  tab-texts byte (suc (suc k)) line column index vs ss l h =
      let s : Seat = record { byte = byte; point = point line column index vs; end = end_in_tab (suc k) line column index vs } in
      let low : index < n = omega (arith, l) in
      behind-inner (StandsBefore n) s (in_tab 32 (suc k) line (suc column) index (suc vs) ++ ss) (low, low) (tab-texts 32 (suc k) line (suc column) index (suc vs) ss l h)

  step-texts : (is_lf is_cr lf_comes is_tab : Bool) (x line column index : ℕ) (rest : ℕ → ℕ → ℕ → List Seat) → ((line column : ℕ) → AreTextSeats (StandsBefore n) (rest line column (suc index))) → suc index < n
      → AreTextSeats (StandsBefore n) (step is_lf is_cr lf_comes is_tab t x line column index rest)
  step-texts true is_cr lf_comes is_tab x line column index rest h l =
      let low : index < n = omega (arith, l) in
      behind-inner (StandsBefore n) (line_feed line column index) (rest (suc line) 1 (suc index)) (low, l) (h (suc line) 1)
  step-texts false true true is_tab x line column index rest h l = h line column
  step-texts false true false is_tab x line column index rest h l =
      let low : index < n = omega (arith, l) in
      behind-inner (StandsBefore n) (line_feed line column index) (rest (suc line) 1 (suc index)) (low, l) (h (suc line) 1)
  step-texts false false lf_comes true x line column index rest h l = tab-texts 9 (tab_width t column) line column index 0 (rest line (column + tab_width t column) (suc index)) l (h line (column + tab_width t column))
  step-texts false false lf_comes false x line column index rest h l =
      let low : index < n = omega (arith, l) in
      behind-inner (StandsBefore n) (other_byte x line column index) (rest line (suc column) (suc index)) (low, l) (h line (suc column))

  last-texts : (b : List ℕ) (x line column index : ℕ) → begins_line b (x ∷ []) ≡ true → AreTextSeats (StandsBefore n) (virtual_from t line column index (x ∷ []))
  last-texts b x line column index h = by (x == 10) (x == 13) (x == 9) h
    where
      by : (is_lf is_cr is_tab : Bool) → (is_lf || (is_cr && not (begins_with_lf b))) ≡ true → AreTextSeats (StandsBefore n) (step is_lf is_cr false is_tab t x line column index (λ line column index. []))
      by true is_cr is_tab h = λ e. absurd (cc)
      by false true is_tab h = λ e. absurd (cc)
      by false false is_tab h = absurd (cc)

  pub virtual-texts : (b a : List ℕ) (line column index : ℕ) → begins_line b a ≡ true → index + length a ≡ n → AreTextSeats (StandsBefore n) (virtual_from t line column index a)
  virtual-texts b [] line column index h e = tt
  virtual-texts b (x ∷ []) line column index h e = last-texts b x line column index h
  virtual-texts b (x ∷ y ∷ a) line column index h e =
      step-texts (x == 10) (x == 13) (begins_with_lf (y ∷ a)) (x == 9) x line column index (λ line column index. virtual_from t line column index (y ∷ a)) (λ line column. virtual-texts b (y ∷ a) line column (suc index) h (omega (arith, e)))
      (omega (arith, e))
