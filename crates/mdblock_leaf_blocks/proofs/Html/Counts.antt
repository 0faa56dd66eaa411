-- How many lines HTML has, as its definition says.
use Rattle.mdblock_leaf_blocks.proofs.Prelude.{◌≡◌, ℕ, suc, ◌+◌, List, [], ◌∷◌, ◌++◌, true, false, cond, not, refl, sym, ap, ◌∙◌, arith, nat_le, append_assoc, Seat, is_white, all_of, ending_of, line_text, flow_byte, is_blank, is_line_feed, AreLines, Line, bytes_of, has_line, lines_through, lines_until, text_of, is_blank_line, IsInLine, LineEnds, cond-and}
use Rattle.mdblock_leaf_blocks.proofs.Tags.HtmlNumbers.{ends_html}
use Rattle.mdblock_leaf_blocks.proofs.Html.Blocks.{count, is_last, stays_open}
use Rattle.mdblock_leaf_blocks.proofs.Html.Checks.{blank_ahead}
use Rattle.mdblock_leaf_blocks.proofs.Looks.ByteClasses.{blank-is, feed-is}
use Rattle.mdblock_leaf_blocks.proofs.Html.Places.{inside, is_closed, through}
use Rattle.mdblock_leaf_blocks.proofs.Lines.{first-parts, has-one-more, has-there, lines-behind, through-one-more, through-there}

-- ---- kinds 1 to 5
module _ (kind : ℕ) (short : nat_le 6 kind ≡ false) (ends : (t : List ℕ) → is_closed (through kind inside t) ≡ ends_html kind t) where
  last-is : (line : Line) (more : List Line) → is_last kind line more ≡ ends_html kind (text_of line)
  last-is line more = ap (λ b. cond b (blank_ahead (all_of more)) (is_closed (through kind inside (text_of line)))) short ∙ ends (text_of line)

  pub count-through : (lines : List Line) → count kind lines ≡ lines_through (ends_html kind) lines
  count-through [] = refl
  count-through (line ∷ more) =
      let test = ends_html kind in
      ap (λ b. cond b 1 (suc (count kind more))) (last-is line more)
      ∙ (elim (test (text_of line)) as (λ b. test (text_of line) ≡ b → cond b 1 (suc (count kind more)) ≡ lines_through test (line ∷ more)) [
        | true ↦ λ is. sym (through-there test line more is)
        | false ↦ λ is. ap suc (count-through more) ∙ sym (through-one-more test line more is)
      ] refl)

  pub open-is : (lines : List Line) → stays_open kind lines ≡ not (has_line (ends_html kind) lines)
  open-is [] = refl
  open-is (line ∷ more) =
      let test = ends_html kind in
      ap (λ b. cond b false (stays_open kind more)) (last-is line more)
      ∙ (elim (test (text_of line)) as (λ b. test (text_of line) ≡ b → cond b false (stays_open kind more) ≡ not (has_line test (line ∷ more))) [
        | true ↦ λ is. ap not (sym (has-there test line more is))
        | false ↦ λ is. open-is more ∙ ap not (sym (has-one-more test line more is))
      ] refl)

-- ---- kinds 6 and 7

-- a blank line comes
line-blank : (text rest : List Seat) → IsInLine text → LineEnds rest → blank_ahead (text ++ rest) ≡ is_blank_line (bytes_of text)
line-blank [] [] all ends = refl
line-blank [] (s ∷ ss) all ends = ap (λ f. cond f true (cond (is_blank (flow_byte s.byte)) (blank_ahead ss) false)) (ap (λ n. is_line_feed (flow_byte n)) ends)
line-blank (s ∷ ss) rest all ends =
    let other = all.0 in
    ap (λ f. cond f true (cond (is_blank (flow_byte s.byte)) (blank_ahead (ss ++ rest)) false)) (feed-is s.byte ∙ other)
    ∙ ap (λ w. cond w (blank_ahead (ss ++ rest)) false) (blank-is s.byte) ∙ ap (λ b. cond (is_white s.byte) b false) (line-blank ss rest all.1 ends)
    ∙ cond-and (is_white s.byte) (is_blank_line (bytes_of ss))

pub lines-blank : (line : Line) (more : List Line) → AreLines (line ∷ more) → blank_ahead (all_of (line ∷ more)) ≡ is_blank_line (text_of line)
lines-blank line more are =
    let parts = first-parts line more are in
    let words = line_text line in
    ap (λ l. blank_ahead (l ++ all_of more)) parts.is ∙ ap blank_ahead (append_assoc words (ending_of line) (all_of more))
    ∙ line-blank words (ending_of line ++ all_of more) parts.in_line parts.ends

module _ (kind : ℕ) (long : nat_le 6 kind ≡ true) where
  last-before : (line : Line) (more : List Line) → is_last kind line more ≡ blank_ahead (all_of more)
  last-before line more = ap (λ b. cond b (blank_ahead (all_of more)) (is_closed (through kind inside (text_of line)))) long

  abbrev until_blank : List Line → ℕ
  until_blank lines = lines_until (λ l. is_blank_line (text_of l)) lines

  counts-one : (line : Line) (n : ℕ) → is_blank_line (text_of line) ≡ false → cond (not (is_blank_line (text_of line))) (1 + n) 0 ≡ suc n
  counts-one line n solid = ap (λ b. cond (not b) (1 + n) 0) solid ∙ (let e : 1 + n ≡ suc n = omega arith in e)

  pub count-until : (line : Line) (more : List Line) → AreLines (line ∷ more) → is_blank_line (text_of line) ≡ false
      → (count kind (line ∷ more) ≡ until_blank (line ∷ more)) × (stays_open kind (line ∷ more) ≡ false)
  count-until line [] are solid = (
    ap (λ b. cond b 1 1) (last-before line []) ∙ sym (counts-one line 0 solid),
    ap (λ b. cond b false true) (last-before line []),
  )
  count-until line (next ∷ more) are solid =
      let behind = lines-behind line (next ∷ more) are in
      let blank = is_blank_line (text_of next) in
      let last : is_last kind line (next ∷ more) ≡ blank = last-before line (next ∷ more) ∙ lines-blank next more behind in
      let one = counts-one line (until_blank (next ∷ more)) solid in
      elim blank as (λ b. blank ≡ b → (count kind (line ∷ next ∷ more) ≡ until_blank (line ∷ next ∷ more)) × (stays_open kind (line ∷ next ∷ more) ≡ false)) [
        | true ↦ λ is. (
          ap (λ b. cond b 1 (suc (count kind (next ∷ more)))) (last ∙ is) ∙ sym (one ∙ ap (λ b. suc (cond (not b) (1 + until_blank more) 0)) is),
          ap (λ b. cond b false (stays_open kind (next ∷ more))) (last ∙ is),
        )
        | false ↦ λ is.
            let (more_are, shut) = count-until next more behind is in (
              ap (λ b. cond b 1 (suc (count kind (next ∷ more)))) (last ∙ is) ∙ ap suc more_are ∙ sym one,
              ap (λ b. cond b false (stays_open kind (next ∷ more))) (last ∙ is) ∙ shut,
            )
      ] refl
