-- Moved lines are cut into the same leaf blocks, moved.
use Rattle.mddocument_parts.proofs.Prelude.{◌≡◌, ℕ, zero, suc, ◌+◌, ◌&&◌, ◌||◌, nat_le, nat_lt, List, [], ◌∷◌, Bool, cond, not, Option, Some, None, length, min, take, drop, refl, ap, ◌∙◌, is_some, map, drop-map, length-map, take-map, Constructs, HtmlKind, ends, waits_for_blank, Line, LeafBlock, paragraph, setext_heading, indented_code, fenced_code, html_block, block_of_kind, blocks_in, bytes_of, content_at, ends_text, interrupts, further_code, has_line, html_block_at, is_blank, is_indented, lines_through, lines_until, text_of, underlined, LineKind, blank, indented, heading, fence, html, thematic_break, text, closes, is_blank_line, line_kind, underline_rank, is_line_ending, line_text, BlocksMove, moved_block, moved_line, moved_lines, moved_seat, Seat}
use Rattle.mdblock_leaf_blocks.proofs.Marks.Cuts.{ranked}
use Rattle.mddocument_parts.proofs.Choices.{filter-mapped}

module _ (l n : ℕ) where
  abbrev ml : Line → Line
  ml line = moved_line l n line

  abbrev mls : List Line → List Line
  mls lines = moved_lines l n lines

  pub bytes-moved : (seats : List Seat) → bytes_of (ml seats) ≡ bytes_of seats
  bytes-moved [] = refl
  bytes-moved (s ∷ ss) = ap (λ t. s.byte ∷ t) (bytes-moved ss)

  pub line-text-moved : (line : Line) → line_text (ml line) ≡ ml (line_text line)
  line-text-moved line = filter-mapped (λ (s : Seat). not (is_line_ending s)) (λ (s : Seat). not (is_line_ending s)) (moved_seat l n) (λ s. refl) line

  pub text-moved : (line : Line) → text_of (ml line) ≡ text_of line
  text-moved line = ap bytes_of (line-text-moved line) ∙ bytes-moved (line_text line)

  module _ (test : List ℕ → Bool) where
    until-moved : (lines : List Line) → lines_until (λ line. test (text_of line)) (mls lines) ≡ lines_until (λ line. test (text_of line)) lines
    until-moved [] = refl
    until-moved (line ∷ lines) = let rest = until-moved lines in (λ i. cond (not (test (text-moved line i))) (1 + rest i) 0)

    through-moved : (lines : List Line) → lines_through test (mls lines) ≡ lines_through test lines
    through-moved lines = let u = until-moved lines in let m = length-map lines ml in (λ i. min (m i) (suc (u i)))

    has-moved : (lines : List Line) → has_line test (mls lines) ≡ has_line test lines
    has-moved lines = let u = until-moved lines in let m = length-map lines ml in (λ i. nat_lt (u i) (m i))

  taken-moved : (k j : ℕ) (lines : List Line) → k ≡ j → take k (mls lines) ≡ mls (take j lines)
  taken-moved k j lines e = ap (λ k. take k (mls lines)) e ∙ take-map ml j lines

  abbrev moved_cut : LeafBlock × ℕ → LeafBlock × ℕ
  moved_cut c = (moved_block l n c.0, c.1)

  module _ (on : Constructs) where
    kind-moved : (line : Line) → line_kind on (text_of (ml line)) ≡ line_kind on (text_of line)
    kind-moved line = ap (line_kind on) (text-moved line)

    further-moved : (lines : List Line) → further_code on (mls lines) ≡ further_code on lines
    further-moved [] = refl
    further-moved (line ∷ lines) = let k = kind-moved line in let f = further-moved lines in (λ i. cond (is_indented on (k i)) (suc (f i)) (cond (is_blank on (k i) && nat_le 1 (f i)) (suc (f i)) 0))

    underlined-moved : (lines behind : List Line) → underlined on (mls lines) (mls behind) ≡ moved_cut (underlined on lines behind)
    underlined-moved lines [] = let m = length-map lines ml in (λ i. (paragraph (mls lines), m i))
    underlined-moved lines (next ∷ behind) = by-rank (underline_rank on (text_of (ml next))) (underline_rank on (text_of next)) (ap (underline_rank on) (text-moved next))
      where
        same : (rank : Option ℕ) → ranked (mls lines) (ml next) rank ≡ moved_cut (ranked lines next rank)
        same None = let m = length-map lines ml in (λ i. (paragraph (mls lines), m i))
        same (Some rank) = let m = length-map lines ml in (λ i. (setext_heading rank (mls lines) (ml next), suc (m i)))

        by-rank : (k j : Option ℕ) → k ≡ j → ranked (mls lines) (ml next) k ≡ moved_cut (ranked lines next j)
        by-rank k j e = ap (ranked (mls lines) (ml next)) e ∙ same j

    content-moved : (line : Line) (lines : List Line) → content_at on (mls (line ∷ lines)) ≡ moved_cut (content_at on (line ∷ lines))
    content-moved line lines =
        let ends = ends_text on in
        let all = line ∷ lines in
        let k = suc (lines_until ends lines) in
        let u : suc (lines_until ends (mls lines)) ≡ k = ap suc (until-moved (λ t. is_some (underline_rank on t) || interrupts (line_kind on t)) lines) in
        let d : drop (suc (lines_until ends (mls lines))) (mls all) ≡ mls (drop k all) = ap (λ k. drop k (mls all)) u ∙ drop-map ml k all in
        (λ i. underlined on (taken-moved (suc (lines_until ends (mls lines))) k all u i) (d i)) ∙ underlined-moved (take k all) (drop k all)

    html-moved : (kind : HtmlKind) (all : List Line) → html_block_at on kind (mls all) ≡ moved_cut (html_block_at on kind all)
    html-moved kind all =
        let u : cond (waits_for_blank kind) (lines_until (λ line. is_blank_line (text_of line)) (mls all)) (lines_through (ends kind) (mls all)) ≡ cond (waits_for_blank kind) (lines_until (λ line. is_blank_line (text_of line)) all) (lines_through (ends kind) all)
        = (let v = until-moved is_blank_line all in let w = through-moved (ends kind) all in (λ i. cond (waits_for_blank kind) (v i) (w i))) in
        let t = taken-moved _ _ all u in
        let h = has-moved (ends kind) all in
        (λ i. (html_block kind (waits_for_blank kind || h i) (t i), u i))

    block-moved : (kind : LineKind) (line : Line) (lines : List Line) → block_of_kind on kind (ml line) (mls lines) ≡ moved_cut (block_of_kind on kind line lines)
    block-moved blank line lines = refl
    block-moved indented line lines =
        let u : suc (further_code on (mls lines)) ≡ suc (further_code on lines) = ap suc (further-moved lines) in
        let t = taken-moved _ _ (line ∷ lines) u in
        (λ i. (indented_code (t i), u i))
    block-moved heading line lines = refl
    block-moved (fence f) line lines =
        let u : suc (lines_through (closes on f) (mls lines)) ≡ suc (lines_through (closes on f) lines) = ap suc (through-moved (closes on f) lines) in
        let t = taken-moved _ _ (line ∷ lines) u in
        let h = has-moved (closes on f) lines in
        (λ i. (fenced_code f (h i) (t i), u i))
    block-moved (html kind) line lines = html-moved kind (line ∷ lines)
    block-moved thematic_break line lines = refl
    block-moved text line lines = content-moved line lines

    blocks-moved : (bound : ℕ) (lines : List Line) → blocks_in on bound (mls lines) ≡ map (moved_block l n) (blocks_in on bound lines)
    blocks-moved zero lines = refl
    blocks-moved (suc bound) [] = refl
    blocks-moved (suc bound) (line ∷ lines) =
        let all = line ∷ lines in
        let c = block_of_kind on (line_kind on (text_of line)) line lines in
        let same : block_of_kind on (line_kind on (text_of (ml line))) (ml line) (mls lines) ≡ moved_cut c = ap (λ k. block_of_kind on k (ml line) (mls lines)) (kind-moved line) ∙ block-moved (line_kind on (text_of line)) line lines in
        ap (λ d. d.0 ∷ blocks_in on bound (drop d.1 (mls all))) same
        ∙ ap (λ r. moved_block l n c.0 ∷ r) (ap (blocks_in on bound) (drop-map ml c.1 all) ∙ blocks-moved bound (drop c.1 all))

pub blocks-move : BlocksMove
blocks-move on l n lines = ap (λ b. blocks_in on b (mls l n lines)) (length-map lines (ml l n)) ∙ blocks-moved l n on (length lines) lines
