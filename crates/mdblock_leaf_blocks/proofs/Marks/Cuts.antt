-- Lines are cut into leaf blocks: each block is so many lines from the front, and one at least.
use Rattle.mdblock_leaf_blocks.proofs.Prelude.{◌≡◌, ℕ, zero, suc, ◌≤◌, List, [], ◌∷◌, ◌++◌, Bool, true, false, cond, not, length, take, drop, length-take, length-drop, Option, Some, None, refl, sym, ap, ◌∙◌, arith, ◌&&◌, nat_le, flat_map, take-append-drop, prefix_len-le-length, Constructs, LinesAreInBlocks, block_lines, HtmlKind, ends, waits_for_blank, Line, LeafBlock, paragraph, setext_heading, fenced_code, block_of_kind, blocks_in, content_at, ends_text, further_code, has_line, html_block_at, is_indented, lines_through, lines_until, text_of, underlined, LineKind, indented, closes, is_blank_line, line_kind, underline_rank}
use Rattle.mdblock_leaf_blocks.specs.LeafBlocks.{is_blank}
use Rattle.mdblock_leaf_blocks.specs.LineKinds.{fence, html, text}
use Rattle.mdblock_leaf_blocks.proofs.Lines.LineCounts.{some-through}
use Rattle.mdblock_leaf_blocks.proofs.Marks.FullBlocks.{IsOfText, not-blank}

-- fenced code that is closed has two lines
abbrev pub IsLong : LeafBlock → Type 0
IsLong (fenced_code f is_closed lines) = is_closed ≡ true → 2 ≤ length lines
IsLong _ = Unit {0}

-- a block is so many lines from the front, one at least, and no more than there are
pub record IsCut (block : LeafBlock) (n : ℕ) (all : List Line) : Type 0 where
  pub lines : block_lines block ≡ take n all
  pub some : 1 ≤ n
  pub within : n ≤ length all
  pub long : IsLong block

-- lines of text, by the rank of the underline behind them, if it is one: their leaf block, and how many lines that has
abbrev pub ranked : (lines : List Line) → (next : Line) → Option ℕ → LeafBlock × ℕ
ranked lines next rank = elim rank [ None ↦ (paragraph lines, length lines) | Some rank ↦ (setext_heading rank lines next, suc (length lines)) ]

one-more : (n : ℕ) (all : List Line) (next : Line) (behind : List Line) → drop n all ≡ next ∷ behind → take n all ++ next ∷ [] ≡ take (suc n) all
one-more zero [] next behind e = absurd (cc)
one-more zero (line ∷ all) next behind e = let same : line ≡ next = cc in ap (λ l. l ∷ []) (sym same)
one-more (suc n) [] next behind e = absurd (cc)
one-more (suc n) (line ∷ all) next behind e = ap (λ l. line ∷ l) (one-more n all next behind e)

more-there : (n : ℕ) (all : List Line) (next : Line) (behind : List Line) → drop n all ≡ next ∷ behind → suc n ≤ length all
more-there n all next behind e = let l = ap length e in omega (arith, l, length-drop n all)

module _ (on : Constructs) where
  cut-underlined : (n : ℕ) (all : List Line) → 1 ≤ n → n ≤ length all → (behind : List Line) → drop n all ≡ behind → let u = underlined on (take n all) behind in IsCut u.0 u.1 all
  cut-underlined n all some within behind e =
      let long : length (take n all) ≡ n = omega (arith, within, length-take n all) in
      let as_paragraph : IsCut (paragraph (take n all)) (length (take n all)) all = rw long (record { lines = refl; some = some; within = within; long = tt }) in
      by-next long as_paragraph behind e
    where
      by-rank : length (take n all) ≡ n → IsCut (paragraph (take n all)) (length (take n all)) all → (next : Line) (more : List Line) → drop n all ≡ next ∷ more → (rank : Option ℕ)
          → let u = ranked (take n all) next rank in IsCut u.0 u.1 all
      by-rank long as_paragraph next more e None = as_paragraph
      by-rank long as_paragraph next more e (Some rank) = record { lines = one-more n all next more e ∙ ap (λ m. take (suc m) all) (sym long); some = omega arith; within = rw long (more-there n all next more e); long = tt }

      by-next : length (take n all) ≡ n → IsCut (paragraph (take n all)) (length (take n all)) all → (behind : List Line) → drop n all ≡ behind → let u = underlined on (take n all) behind in IsCut u.0 u.1 all
      by-next long as_paragraph [] e = as_paragraph
      by-next long as_paragraph (next ∷ more) e = by-rank long as_paragraph next more e (underline_rank on (text_of next))

  cut-content : (line : Line) (lines : List Line) → let c = content_at on (line ∷ lines) in IsCut c.0 c.1 (line ∷ lines)
  cut-content line lines =
      let few = prefix_len-le-length (λ l. not (ends_text on l)) lines in
      let n = suc (lines_until (ends_text on) lines) in
      cut-underlined n (line ∷ lines) (omega arith) (omega (arith, few)) (drop n (line ∷ lines)) refl

  pub further-within : (lines : List Line) → further_code on lines ≤ length lines
  further-within [] = omega arith
  further-within (line ∷ lines) =
      let kind = line_kind on (text_of line) in
      let rest = further-within lines in
      elim (is_indented on kind) as (λ b. cond b (suc (further_code on lines)) (cond (is_blank on kind && nat_le 1 (further_code on lines)) (suc (further_code on lines)) 0) ≤ suc (length lines)) [
        | true ↦ omega (arith, rest)
        | false ↦ elim (is_blank on kind && nat_le 1 (further_code on lines)) as (λ b. cond b (suc (further_code on lines)) 0 ≤ suc (length lines)) [ true ↦ omega (arith, rest) | false ↦ omega arith ]
      ]

  closed-long : (test : List ℕ → Bool) (line : Line) (lines : List Line) → has_line test lines ≡ true → 2 ≤ length (take (suc (lines_through test lines)) (line ∷ lines))
  closed-long test line lines h = let some = some-through test lines h in omega (arith, some)

  cut-html : (kind : HtmlKind) (line : Line) (lines : List Line) → is_blank_line (text_of line) ≡ false → let c = html_block_at on kind (line ∷ lines) in IsCut c.0 c.1 (line ∷ lines)
  cut-html kind line lines full =
      let few = prefix_len-le-length (λ (l : Line). not (is_blank_line (text_of l))) (line ∷ lines) in
      record {
        lines = refl;
        some = elim (waits_for_blank kind) as (λ b. 1 ≤ cond b (lines_until (λ l. is_blank_line (text_of l)) (line ∷ lines)) (lines_through (ends kind) (line ∷ lines))) [
          | true ↦ rw full (omega arith)
          | false ↦ omega arith
        ];
        within = elim (waits_for_blank kind) as (λ b. cond b (lines_until (λ l. is_blank_line (text_of l)) (line ∷ lines)) (lines_through (ends kind) (line ∷ lines)) ≤ suc (length lines)) [
          | true ↦ few
          | false ↦ omega arith
        ];
        long = tt;
      }

  pub cut-block : (kind : LineKind) (line : Line) (lines : List Line) → (IsOfText kind → is_blank_line (text_of line) ≡ false) → let c = block_of_kind on kind line lines in IsCut c.0 c.1 (line ∷ lines)
  cut-block indented line lines full = let few = further-within lines in record { lines = refl; some = omega arith; within = omega (arith, few); long = tt }
  cut-block (fence f) line lines full = record { lines = refl; some = omega arith; within = omega arith; long = closed-long (closes on f) line lines }
  cut-block (html kind) line lines full = cut-html kind line lines (full tt)
  cut-block text line lines full = cut-content line lines
  cut-block kind line lines full = record { lines = refl; some = omega arith; within = omega arith; long = tt }

  -- the cut at the front of lines
  pub cut : (line : Line) (lines : List Line) → let c = block_of_kind on (line_kind on (text_of line)) line lines in IsCut c.0 c.1 (line ∷ lines)
  cut line lines = cut-block (line_kind on (text_of line)) line lines (λ e. not-blank on (text_of line) e)

  -- lines are the lines of the blocks that they are cut into
  blocks-lines : (bound : ℕ) (lines : List Line) → length lines ≤ bound → flat_map block_lines (blocks_in on bound lines) ≡ lines
  blocks-lines zero [] l = refl
  blocks-lines zero (line ∷ lines) l = absurd (omega (arith, l))
  blocks-lines (suc bound) [] l = refl
  blocks-lines (suc bound) (line ∷ lines) l =
      let all = line ∷ lines in
      let kind = line_kind on (text_of line) in
      let n = (block_of_kind on kind line lines).1 in
      let first = cut line lines in
      let some = first.some in
      let shorter : length (drop n all) ≤ bound = omega (arith, length-drop n all, some, l) in
      (λ i. first.lines i ++ blocks-lines bound (drop n all) shorter i) ∙ take-append-drop n all

-- Each line is in exactly one leaf block, in order
pub leaf-blocks-lines : LinesAreInBlocks
leaf-blocks-lines on lines = blocks-lines on (length lines) lines (omega arith)
