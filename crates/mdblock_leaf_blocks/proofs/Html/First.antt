-- The first line of HTML: white space, which is data of its own, and the rest; and so HTML is read.
use Rattle.mdblock_leaf_blocks.proofs.Prelude.{Bool, List, None, [], ap, append-nil, append_assoc, cond, false, inl, inr, length, nat_le, refl, subst, sym, true, ℕ, ◌++◌, ◌∙◌, ◌∷◌, ◌≡◌, AllByRecursion, Seat, Enter, HtmlFlow, HtmlFlowData, Point, Retry, FlowBlankLineAfter, HtmlFlowStart, Given, Text, blank, AreLines, IsLine, IsReadAs, behind_block, block_seats, Line, bytes_of, text_of, Mark, body, indent, unindented, IsInLine, is_white, all_of, ending_of, line_text, event, consume, enter}
use Rattle.mdblock_leaf_blocks.proofs.Tags.HtmlNumbers.{html_at}
use Rattle.mdblock_leaf_blocks.proofs.Lines.{byte-then, run-on, white-runs, IsAt, IsWhite, back, cut-line, drop-bytes, front, front-all, front-back, in-line-behind, in-line-ending, in-line-text, prefix-front, row-takes-on, text-in-line, white-is-blank}
use Rattle.mdblock_leaf_blocks.proofs.Html.Blocks.{is_last}
use Rattle.mdblock_leaf_blocks.proofs.Html.Checks.{blank_ahead}
use Rattle.mdblock_leaf_blocks.proofs.Html.Ends.{html-begins}
use Rattle.mdblock_leaf_blocks.proofs.Html.Places.{from_inside, inside, is_closed, through}
use Rattle.mdblock_leaf_blocks.proofs.Html.Steps.{Config, Kept, html_kept}
use Rattle.mdblock_leaf_blocks.proofs.Lines.Lines.{whole-text, whole-ending}

-- ---- the parts of the line
-- white space, and a less-than sign
pub record First (line : Line) : Type 0 where
  pub white : List Seat
  pub sign : Seat
  pub words : List Seat
  pub text : line_text line ≡ white ++ sign ∷ words
  pub all_white : AllByRecursion IsWhite white
  pub less : sign.byte ≡ 60
  pub columns : indent (text_of line) ≡ length white

first-by : (line : Line) (rest : List Seat) (bytes : List ℕ) → back is_white (line_text line) ≡ rest → bytes_of rest ≡ 60 ∷ bytes → First line
first-by line [] bytes is behind = absurd (cc)
first-by line (s ∷ ss) bytes is behind = record {
  white = front is_white (line_text line);
  sign = s;
  words = ss;
  text = sym (front-back is_white (line_text line)) ∙ ap (λ l. front is_white (line_text line) ++ l) is;
  all_white = front-all is_white (line_text line);
  less = cc;
  columns = prefix-front is_white (line_text line);
}

pub first : (line : Line) → nat_le 1 (html_at (unindented (text_of line))) ≡ true → First line
first line some =
    let b = html-begins (unindented (text_of line)) some in first-by line (back is_white (line_text line)) b.rest refl (sym (drop-bytes is_white (line_text line)) ∙ b.is)

white-stays : (kind : ℕ) (white rest : List Seat) → AllByRecursion IsWhite white → through kind inside (bytes_of (white ++ rest)) ≡ through kind inside (bytes_of rest)
white-stays kind [] rest all = refl
white-stays kind (s ∷ ss) rest all = ap (λ c. through kind (from_inside kind c) (bytes_of (ss ++ rest))) (white-is-blank s.byte all.0) ∙ white-stays kind ss rest all.1

-- the line without the white space, before the same lines
module _ (line : Line) (more : List Line) (are : AreLines (line ∷ more)) (f : First line) where
  abbrev pub rest : Line
  rest = (f.sign ∷ f.words) ++ ending_of line

  in_line : IsInLine (f.sign ∷ f.words)
  in_line = in-line-behind f.white (f.sign ∷ f.words) (subst IsInLine f.text (text-in-line line))

  pub line-is : line ≡ f.white ++ rest
  line-is = sym (cut-line line more are).whole ∙ ap (λ l. l ++ ending_of line) f.text ∙ append_assoc f.white (f.sign ∷ f.words) (ending_of line)

  -- its parts
  record RestIs : Type 0 where
    text : line_text rest ≡ f.sign ∷ f.words
    ending : ending_of rest ≡ ending_of line
    lines : AreLines (rest ∷ more)

  whole-are : (more : List Line) → AreLines (line ∷ more) → IsLine rest → AreLines (rest ∷ more)
  whole-are [] are is = inl is
  whole-are (next ∷ more) are is = (is, are.1)

  rest-is : RestIs
  rest-is =
      let words = f.sign ∷ f.words in
      elim (cut-line line more are).ends as (λ _. RestIs) [
        | inl with ↦
            let text_is = whole-text words with.ending in_line with.feed in
            let ending_is = whole-ending words with.ending in_line with.feed in
            let same : rest ≡ words ++ with.ending ∷ [] = ap (λ y. words ++ y) with.is in
            record {
              text = ap line_text same ∙ text_is;
              ending = ap ending_of same ∙ ending_is ∙ sym with.is;
              lines = whole-are more are (record { text = words; ending = with.ending; is = same; in_line = in_line; ends = with.feed });
            }
        | inr without ↦
            let text_is = in-line-text words in_line in
            let ending_is = in-line-ending words in_line in
            let same : rest ≡ words = ap (λ y. words ++ y) without.is ∙ append-nil words in
            record {
              text = ap line_text same ∙ text_is;
              ending = ap ending_of same ∙ ending_is ∙ sym without.is;
              lines = subst (λ more. AreLines (rest ∷ more)) (sym without.last) (inr (subst IsInLine (sym same) in_line, λ e. absurd (cc)));
            }
      ]

  pub rest-text : line_text rest ≡ f.sign ∷ f.words
  rest-text = rest-is.text

  pub rest-are : AreLines (rest ∷ more)
  rest-are = rest-is.lines

  -- a block with the line, and one with the rest of it
  pub seats-are : (is_open : Bool) (lines : List Line) → block_seats is_open (line ∷ lines) ≡ f.white ++ block_seats is_open (rest ∷ lines)
  seats-are true lines = ap (λ l. l ++ all_of lines) line-is ∙ append_assoc f.white rest (all_of lines)
  seats-are false [] = f.text ∙ ap (λ l. f.white ++ l) (sym rest-is.text)
  seats-are false (next ∷ lines) = ap (λ l. l ++ body (next ∷ lines)) line-is ∙ append_assoc f.white rest (body (next ∷ lines))

  pub behind-is : (is_open : Bool) (lines more : List Line) → behind_block is_open (line ∷ lines) more ≡ behind_block is_open (rest ∷ lines) more
  behind-is true lines more = refl
  behind-is false [] more = ap (λ l. l ++ all_of more) (sym rest-is.ending)
  behind-is false (next ∷ lines) more = refl

  pub last-same : (kind : ℕ) → is_last kind rest more ≡ is_last kind line more
  last-same kind =
      let same : through kind inside (text_of rest) ≡ through kind inside (text_of line) =
      ap (λ l. through kind inside (bytes_of l)) rest-is.text ∙ sym (white-stays kind f.white (f.sign ∷ f.words) f.all_white) ∙ ap (λ l. through kind inside (bytes_of l)) (sym f.text) in
      ap (λ p. cond (nat_le 6 kind) (blank_ahead (all_of more)) (is_closed p)) same

-- ---- what is read
-- what begins there
abbrev pub white_marks : Given → Seat → List Mark
white_marks g s = (event g.bytes Enter HtmlFlow s.point, None) ∷ (event g.bytes Enter HtmlFlowData s.point, None) ∷ []

module _ (g : Given) (t : Text) where
  -- white space before HTML
  pub white-read : (k : Config) (p : Point) (s : Seat) (ss rest : List Seat) → AllByRecursion IsWhite (s ∷ ss) → k.local.tokenize_state.token_1 ≡ HtmlFlow → IsAt t k p ((s ∷ ss) ++ rest)
      → IsReadAs g t Kept k FlowBlankLineAfter (s ∷ ss) rest (white_marks g s) (Retry HtmlFlowStart)
  white-read k p s ss rest all kind at =
      byte-then g t html_kept k p FlowBlankLineAfter HtmlFlowStart HtmlFlowStart s ss rest (white_marks g s) [] at
      (row-takes-on g t Kept k FlowBlankLineAfter p s (ss ++ rest) blank (enter HtmlFlow ∷ enter HtmlFlowData ∷ consume ∷ []) HtmlFlowStart at (white-is-blank s.byte all.0) (rw kind refl) tt refl (html_kept.same k.local))
      (λ k' at' kept. run-on g t html_kept HtmlFlowStart is_white (white-runs HtmlFlowStart (λ b. refl)) ss rest all.1 k' s.end at')
