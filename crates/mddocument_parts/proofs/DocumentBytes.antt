-- Rests of documents, as bytes.
use Rattle.mddocument_parts.proofs.Prelude.{◌≡◌, ℕ, suc, ◌≤◌, ◌&&◌, List, [], ◌∷◌, ◌++◌, true, length, refl, sym, ap, ◌∙◌, subst, arith, map, append-nil, and-right, and-left, Constructs, Line, lines_in, begins_line, line_endings, moved_line, moved_lines, virtual}
use Rattle.mdblock_definitions.specs.Rows.{rows}
use Rattle.mddocument_parts.specs.DocumentRests.{DocumentFirstLineTells, DocumentRestsOfBoth, DocumentRowsOfBoth, first_at_document_rest, first_stays, goes_on_behind, is_at_document_rest, known_at_start, known_behind, moved_row}
use Rattle.mddocument_parts.proofs.DocumentRests.{anew-same, document-rests-forget, rows-of-both}
use Rattle.mddocument_parts.proofs.LineFronts.{line-ahead, line-behind, some-line}
use Rattle.mddocument_parts.proofs.MovedBlocks.{text-moved}
use Rattle.mddocument_parts.proofs.Virtual.{lines-are-counted, lines-of-both}

-- rows of lines, of which the second are moved by as many lines as there are first ones
rows-behind : (on : Constructs) (bytes n : ℕ) (before lines : List Line) → n ≡ length before → first_at_document_rest on before lines ≡ true
    → rows on (before ++ moved_lines n bytes lines) ≡ rows on before ++ map (moved_row n bytes) (first_stays (goes_on_behind on before lines) (rows on lines))
rows-behind on bytes n before [] e h = ap (rows on) (append-nil before) ∙ sym (append-nil (rows on before))
rows-behind on bytes n before (line ∷ lines) e h =
    let stays = goes_on_behind on before (line ∷ lines) in
    subst (λ m. rows on (before ++ moved_lines m bytes (line ∷ lines)) ≡ rows on before ++ map (moved_row m bytes) (first_stays stays (rows on (line ∷ lines)))) (sym e) (rows-of-both on bytes before line lines h)

module _ (t : ℕ) (a b : List ℕ) (begins : begins_line b a ≡ true) where
  abbrev before : List Line
  before = lines_in (virtual t a)

  abbrev behind : List Line
  behind = lines_in (virtual t b)

  pub counted : line_endings a ≡ length before
  counted = sym (lines-are-counted t a b begins)

  pub both-lines : lines_in (virtual t (a ++ b)) ≡ before ++ moved_lines (line_endings a) (length a) behind
  both-lines = lines-of-both t a b begins

pub document-rows-of-both : DocumentRowsOfBoth
document-rows-of-both on t a b h =
    let begins = and-left (begins_line b a) (first_at_document_rest on (lines_in (virtual t a)) (lines_in (virtual t b))) h in
    ap (rows on) (both-lines t a b begins)
    ∙ rows-behind on (length a) (line_endings a) (lines_in (virtual t a)) (lines_in (virtual t b)) (counted t a b begins) (and-right (begins_line b a) (first_at_document_rest on (lines_in (virtual t a)) (lines_in (virtual t b))) h)

-- ---- what comes behind does not matter
first-same : (on : Constructs) (before lines more : List Line) → 1 ≤ length lines → first_at_document_rest on before (lines ++ more) ≡ first_at_document_rest on before lines
first-same on before [] more some = absurd (omega (arith, some))
first-same on before (line ∷ lines) more some = refl

pub document-first-line-tells : DocumentFirstLineTells
document-first-line-tells on t a b c some ends begins =
    let before = lines_in (virtual t a) in
    let more = moved_lines (line_endings b) (length b) (lines_in (virtual t c)) in
    let first = ap (first_at_document_rest on before) (lines-of-both t b c ends) ∙ first-same on before (lines_in (virtual t b)) more (some-line t b c some ends) in
    let line = line-ahead a b c some in
    (λ i. line i && first i)

-- ---- what comes before is forgotten
first-forgets : (on : Constructs) (bytes n : ℕ) (before lines next : List Line) → n ≡ length before → 1 ≤ length lines → first_at_document_rest on before lines ≡ true
    → first_at_document_rest on (before ++ moved_lines n bytes lines) next ≡ first_at_document_rest on lines next
first-forgets on bytes n before [] next e some h = absurd (omega (arith, some))
first-forgets on bytes n before (line ∷ lines) [] e some h = refl
first-forgets on bytes n before (line ∷ lines) (other ∷ next) e some h =
    let all = before ++ moved_lines (length before) bytes (line ∷ lines) in
    ap (λ m. is_at_document_rest on (before ++ moved_lines m bytes (line ∷ lines)) other) e
    ∙ anew-same on (known_behind on (known_at_start on) 1 all) (suc (length all)) other (moved_line (length before) bytes other) (sym (text-moved (length before) bytes other))
    ∙ document-rests-forget on bytes before line lines other h

pub document-rests-of-both : DocumentRestsOfBoth
document-rests-of-both on t a b c rest some ends =
    let one = lines_in (virtual t a) in
    let two = lines_in (virtual t b) in
    let begins = and-left (begins_line b a) (first_at_document_rest on one two) rest in
    let first = ap (λ ls. first_at_document_rest on ls (lines_in (virtual t c))) (both-lines t a b begins)
    ∙ first-forgets on (length a) (line_endings a) one two (lines_in (virtual t c)) (counted t a b begins) (some-line t b c some ends) (and-right (begins_line b a) (first_at_document_rest on one two) rest) in
    let line = line-behind a b c some in
    (λ i. line i && first i)
