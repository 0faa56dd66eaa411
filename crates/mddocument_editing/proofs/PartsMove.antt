-- Places in the second part move, and those in the first stay.
use Rattle.mddocument_editing.proofs.Prelude.{◌≡◌, ℕ, ◌+◌, ◌-◌, ◌<◌, Bool, true, false, cond, List, ◌∷◌, [], ◌++◌, length, refl, sym, ap, ◌∙◌, arith, nat_le, Option, Some, None, add_assoc, drop-append_seam, nat_tests, length-append, slice_get-map, option_and_then, option_map, slice_get, slice_index, get-front, Encoding, Position, EndingsAdd, OffsetsMove, OffsetsStay, PositionsMove, PositionsStay, StartsLine, down, endings, character_in, index_in, line_of, starts, starts_up_to, text_at, map}
use Rattle.std.proofs.Common.{le-leb}
use Rattle.markdown_base.proofs.Facts.Lists.{get-dropped}
use Rattle.mddocument_editing.specs.Positions.{start_of}
use Rattle.mddocument_editing.proofs.LinesBack.{start-before}
use Rattle.mddocument_editing.proofs.PartStarts.{Before, endings-are, line-behind, seam-is, start-behind, starts-behind, starts-in, text-behind, text-in}

abbrev at : ℕ → ℕ → Position
at line character = record { line = line; character = character }

le-more : (m o n k : ℕ) → k ≡ m + n → nat_le (m + o) k ≡ nat_le o n
le-more m o n k h = grind (arith, nat_tests)

moved-some : (lines line : ℕ) (o : Option ℕ) → option_map (at (lines + line)) o ≡ option_map (down lines) (option_map (at line) o)
moved-some lines line None = refl
moved-some lines line (Some character) = refl

moved-in : (lines : ℕ) (b : Bool) (o : Option Position) → cond b (option_map (down lines) o) None ≡ option_map (down lines) (cond b o None)
moved-in lines true o = refl
moved-in lines false o = refl

pub positions-move : PositionsMove
positions-move encoding front part offset seam =
    let b = seam-is front part seam in
    let m = length front in
    let start = start_of part offset in
    let rest : m + offset - (m + start) ≡ offset - start = omega arith in
    let within = le-more m offset (length part) (length (front ++ part)) (length-append front part) in
    ap (λ x. cond x (option_map (at (line_of (front ++ part) (m + offset))) (character_in encoding (text_at (front ++ part) (start_of (front ++ part) (m + offset))) (m + offset - start_of (front ++ part) (m + offset)))) None) within
    ∙ ap (λ s. cond (nat_le offset (length part)) (option_map (at (line_of (front ++ part) (m + offset))) (character_in encoding (text_at (front ++ part) s) (m + offset - s))) None) (start-behind front part b offset)
    ∙ ap (λ l. cond (nat_le offset (length part)) (option_map (at l) (character_in encoding (text_at (front ++ part) (m + start)) (m + offset - (m + start)))) None) (line-behind front part b offset)
    ∙ ap (λ text. cond (nat_le offset (length part)) (option_map (at (endings front + line_of part offset)) (character_in encoding text (m + offset - (m + start)))) None) (text-behind front part start)
    ∙ ap (λ k. cond (nat_le offset (length part)) (option_map (at (endings front + line_of part offset)) (character_in encoding (text_at part start) k)) None) rest
    ∙ ap (λ o. cond (nat_le offset (length part)) o None) (moved-some (endings front) (line_of part offset) (character_in encoding (text_at part start) (offset - start)))
    ∙ moved-in (endings front) (nat_le offset (length part)) (option_map (at (line_of part offset)) (character_in encoding (text_at part start) (offset - start)))

-- ---- byte indices

sum-some : (m s : ℕ) (o : Option ℕ) → option_map (λ index. m + s + index) o ≡ option_map (λ offset. m + offset) (option_map (λ index. s + index) o)
sum-some m s None = refl
sum-some m s (Some index) = ap Some (add_assoc m s index)

module _ (encoding : Encoding) (front part : List ℕ) where
  -- the byte index in a line that starts in the second part
  line-index : (character : ℕ) (o : Option ℕ) → option_and_then (λ start. option_map (λ index. start + index) (index_in encoding (text_at (front ++ part) start) character)) (option_map (λ n. length front + n) o)
      ≡ option_map (λ offset. length front + offset) (option_and_then (λ start. option_map (λ index. start + index) (index_in encoding (text_at part start) character)) o)
  line-index character None = refl
  line-index character (Some start) =
      ap (λ text. option_map (λ index. length front + start + index) (index_in encoding text character)) (text-behind front part start)
      ∙ sum-some (length front) start (index_in encoding (text_at part start) character)

  -- the byte index in a line that starts in the first part
  line-stays : (character : ℕ) (o : Option ℕ) → StartsLine front part → ((start : ℕ) → o ≡ Some start → start < length front)
      → option_and_then (λ start. option_map (λ index. start + index) (index_in encoding (text_at (front ++ part) start) character)) o
      ≡ option_and_then (λ start. option_map (λ index. start + index) (index_in encoding (text_at front start) character)) o
  line-stays character None seam inside = refl
  line-stays character (Some start) seam inside =
      ap (λ text. option_map (λ index. start + index) (index_in encoding text character)) (text-in front part seam start (inside start refl))

  -- where all lines start
  starts-all : (b : Before front part) → starts (front ++ part) ≡ b.before ++ map (λ n. length front + n) (starts part)
  starts-all b = ap (starts_up_to (front ++ part)) (length-append front part) ∙ starts-behind front part b (length part)

pub offsets-move : OffsetsMove
offsets-move encoding front part position seam =
    let b = seam-is front part seam in
    let f : ℕ → ℕ = λ n. length front + n in
    let found =
    ap (λ xs. slice_get xs (endings front + position.line)) (starts-all encoding front part b)
    ∙ ap (λ k. slice_get (b.before ++ map f (starts part)) (k + position.line)) (endings-are front part b)
    ∙ sym (get-dropped (length b.before) (b.before ++ map f (starts part)) position.line) ∙ ap (λ l. slice_get l position.line) (drop-append_seam b.before (map f (starts part)))
    ∙ slice_get-map f (starts part) position.line
    in
    ap (λ o. option_and_then (λ start. option_map (λ index. start + index) (index_in encoding (text_at (front ++ part) start) position.character)) o) found
    ∙ line-index encoding front part position.character (slice_get (starts part) position.line)

pub endings-add : EndingsAdd
endings-add front part seam = ap (line_of (front ++ part)) (length-append front part) ∙ line-behind front part (seam-is front part seam) (length part)

pub positions-stay : PositionsStay
positions-stay encoding front part offset seam lt =
    let same = starts-in front part offset lt in
    let line : line_of (front ++ part) offset ≡ line_of front offset = ap (λ xs. length xs - 1) (sym same) in
    let first : start_of (front ++ part) offset ≡ start_of front offset = ap (λ xs. slice_index xs (length xs - 1)) (sym same) in
    let inside : start_of front offset < length front = omega (arith, start-before front offset (omega arith)) in
    let within : nat_le offset (length (front ++ part)) ≡ nat_le offset (length front) =
    le-leb offset (length (front ++ part)) (omega (arith, length-append front part)) ∙ sym (le-leb offset (length front) (omega arith))
    in
    ap (λ x. cond x (option_map (at (line_of (front ++ part) offset)) (character_in encoding (text_at (front ++ part) (start_of (front ++ part) offset)) (offset - start_of (front ++ part) offset))) None) within
    ∙ ap (λ s. cond (nat_le offset (length front)) (option_map (at (line_of (front ++ part) offset)) (character_in encoding (text_at (front ++ part) s) (offset - s))) None) first
    ∙ ap (λ l. cond (nat_le offset (length front)) (option_map (at l) (character_in encoding (text_at (front ++ part) (start_of front offset)) (offset - start_of front offset))) None) line
    ∙ ap (λ text. cond (nat_le offset (length front)) (option_map (at (line_of front offset)) (character_in encoding text (offset - start_of front offset))) None) (text-in front part seam (start_of front offset) inside)

pub offsets-stay : OffsetsStay
offsets-stay encoding front part position seam lt =
    let b = seam-is front part seam in
    let few : position.line < length b.before = omega (arith, endings-are front part b) in
    let all = ap (λ xs. slice_get xs position.line) (starts-all encoding front part b) ∙ get-front b.before (map (λ n. length front + n) (starts part)) position.line few in
    let first = ap (λ xs. slice_get xs position.line) b.in_front ∙ get-front b.before (length front ∷ []) position.line few in
    ap (λ o. option_and_then (λ start. option_map (λ index. start + index) (index_in encoding (text_at (front ++ part) start) position.character)) o) all
    ∙ line-stays encoding front part position.character (slice_get b.before position.line) seam (b.within position.line)
    ∙ ap (λ o. option_and_then (λ start. option_map (λ index. start + index) (index_in encoding (text_at front start) position.character)) o) (sym first)
