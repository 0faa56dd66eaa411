-- HTML is read, from its first line on.
use Rattle.mdblock_leaf_blocks.proofs.Prelude.{Bool, List, None, [], ap, append_assoc, cond, drop, false, length, nat_le, not, refl, subst, suc, sym, take, true, ℕ, ◌++◌, ◌||◌, ◌∙◌, ◌∷◌, ◌≡◌, drop-append_seam, take-append_seam, AllByRecursion, end-after-append, Seat, end_after, Enter, HtmlFlow, HtmlFlowData, Point, Name, Retry, FlowAfter, FlowBlankLineAfter, HtmlFlowStart, end_place, Given, Text, AreLines, HtmlIsRead, IsBlockRead, IsFound, IsReadAs, KeepsEdits, behind_block, block_seats, any_tag, block_tag, cdata, comment, declaration, instruction, raw, Line, has_line, lines_through, lines_until, text_of, Mark, body, html_marks, leaf_marks, lines_marks, span_marks, is_blank_line, html, all_of, ending_of, event}
use Rattle.mdblock_leaf_blocks.proofs.Tags.HtmlNumbers.{ends_html}
use Rattle.mdblock_leaf_blocks.proofs.Html.Blocks.{AreRead, count, from-line, further-read, is_last, reads-as, stays_open}
use Rattle.mdblock_leaf_blocks.proofs.Html.Counts.{count-through, count-until, open-is}
use Rattle.mdblock_leaf_blocks.proofs.Html.Ends.{ends-are, html-is}
use Rattle.mdblock_leaf_blocks.proofs.Html.First.{First, behind-is, first, last-same, line-is, rest, rest-are, rest-text, seats-are, white-read, white_marks}
use Rattle.mdblock_leaf_blocks.proofs.Html.Reads.{BeginsAt, enters, line-begins, start-begins}
use Rattle.mdblock_leaf_blocks.proofs.Html.Steps.{Config, Kept, kept-on, kind_in}
use Rattle.mdblock_leaf_blocks.proofs.Lines.{IsAt, IsWhite, leaves, reads-keeping, reads-on, seats-split}

abbrev begun : Given → Seat → List Mark
begun g s = (event g.bytes Enter HtmlFlow s.point, None) ∷ []

-- a first virtual byte
pub record HasFront (s : Seat) (seats : List Seat) : Type 0 where
  pub tail : List Seat
  pub is : seats ≡ s ∷ tail

module _ (g : Given) (line : Line) (more : List Line) (are : AreLines (line ∷ more)) (f : First line) where
  abbrev behind : Line
  behind = rest line more are f

  abbrev inner : Bool → List Line → List Mark
  inner is_open lines = lines_marks g.bytes (leaf_marks g.bytes HtmlFlowData) is_open lines

  -- the marks of the first line, apart from its white space
  marks-are : (is_open : Bool) (lines : List Line) → html_marks g.bytes is_open (line ∷ lines) ≡ leaf_marks g.bytes HtmlFlowData f.white ++ inner is_open (behind ∷ lines)
  marks-are is_open lines =
      let parts = λ (n : ℕ) (l : Line). leaf_marks g.bytes HtmlFlowData (take n l) ++ inner is_open (drop n l ∷ lines) in
      let n = length f.white in
      ap (λ n. parts n line) f.columns ∙ ap (parts n) (line-is line more are f)
      ∙ ap (λ l. leaf_marks g.bytes HtmlFlowData l ++ inner is_open (drop n (f.white ++ behind) ∷ lines)) (take-append_seam f.white behind)
      ∙ ap (λ l. leaf_marks g.bytes HtmlFlowData f.white ++ inner is_open (l ∷ lines)) (drop-append_seam f.white behind)

  -- the block begins with the sign
  seats-begin : (is_open : Bool) (lines : List Line) → HasFront f.sign (block_seats is_open (behind ∷ lines))
  seats-begin true lines = record { tail = (f.words ++ ending_of line) ++ all_of lines; is = refl }
  seats-begin false [] = record { tail = f.words; is = rest-text line more are f }
  seats-begin false (next ∷ lines) = record { tail = (f.words ++ ending_of line) ++ body (next ∷ lines); is = refl }

  abbrev ends : Point → List Mark
  ends p = leaves g (HtmlFlow ∷ []) p

  span-is : (p : Point) (s : Seat) (seats : List Seat) (inside : List Mark) → HasFront s seats
      → span_marks g.bytes HtmlFlow seats inside ≡ begun g s ++ (inside ++ ends (end_after p seats))
  span-is p s seats inside front =
      ap (λ l. span_marks g.bytes HtmlFlow l inside) front.is ∙ ap (λ l. begun g s ++ (inside ++ ends (end_after p l))) (sym front.is)

  -- as it is read: without white space in front, and with it
  marks-bare : (p : Point) (is_open : Bool) (lines : List Line) → f.white ≡ []
      → begun g f.sign ++ (inner is_open (behind ∷ lines) ++ ends (end_after p (block_seats is_open (behind ∷ lines))))
      ≡ span_marks g.bytes HtmlFlow (block_seats is_open (line ∷ lines)) (html_marks g.bytes is_open (line ∷ lines))
  marks-bare p is_open lines none =
      let seats = block_seats is_open (behind ∷ lines) in
      sym (ap (λ m. span_marks g.bytes HtmlFlow (block_seats is_open (line ∷ lines)) m) (marks-are is_open lines ∙ ap (λ l. leaf_marks g.bytes HtmlFlowData l ++ inner is_open (behind ∷ lines)) none)
      ∙ ap (λ l. span_marks g.bytes HtmlFlow l (inner is_open (behind ∷ lines))) (seats-are line more are f is_open lines ∙ ap (λ l. l ++ seats) none)
      ∙ span-is p f.sign seats (inner is_open (behind ∷ lines)) (seats-begin is_open lines))

  marks-white : (w : Seat) (ws : List Seat) (is_open : Bool) (lines : List Line) → f.white ≡ w ∷ ws
      → let p = end_after w.end ws in
      white_marks g w ++ (leaves g (HtmlFlowData ∷ []) p ++ (inner is_open (behind ∷ lines) ++ ends (end_after p (block_seats is_open (behind ∷ lines)))))
      ≡ span_marks g.bytes HtmlFlow (block_seats is_open (line ∷ lines)) (html_marks g.bytes is_open (line ∷ lines))
  marks-white w ws is_open lines is =
      let seats = block_seats is_open (behind ∷ lines) in
      let p = end_after w.end ws in
      ap (λ q. white_marks g w ++ (leaves g (HtmlFlowData ∷ []) p ++ (inner is_open (behind ∷ lines) ++ ends q))) (sym (end-after-append w.end ws seats))
      ∙ sym (ap (λ m. span_marks g.bytes HtmlFlow (block_seats is_open (line ∷ lines)) m) (marks-are is_open lines ∙ ap (λ l. leaf_marks g.bytes HtmlFlowData l ++ inner is_open (behind ∷ lines)) is)
      ∙ ap (λ l. span_marks g.bytes HtmlFlow l (leaf_marks g.bytes HtmlFlowData (w ∷ ws) ++ inner is_open (behind ∷ lines))) (seats-are line more are f is_open lines ∙ ap (λ l. l ++ seats) is))

module _ (g : Given) (t : Text) (kind : ℕ) (line : Line) (more : List Line) (are : AreLines (line ∷ more)) (f : First line) (k : Config) (p : Point) where
  abbrev left : Line
  left = rest line more are f

  abbrev n : Bool → ℕ
  n last = cond last 1 (suc (count kind more))

  abbrev is_open : Bool → Bool
  is_open last = cond last false (stays_open kind more)

  abbrev last : Bool
  last = is_last kind line more

  -- the block
  abbrev IsRead : (is_open : Bool) → (lines after : List Line) → Type 0
  IsRead is_open lines after =
      IsReadAs g t Kept k FlowBlankLineAfter (block_seats is_open lines) (behind_block is_open lines after) (span_marks g.bytes HtmlFlow (block_seats is_open lines) (html_marks g.bytes is_open lines)) (Retry FlowAfter)

  -- from behind the white space on
  rest-read : (k' : Config) (name : Name) (p' : Point) (pre : List Mark) → IsAt t k' p' (all_of (left ∷ more)) → kind_in k' ≡ kind → BeginsAt g t k' name (pre ++ enters g t f.sign ∷ []) (all_of (left ∷ more))
      → AreRead g t k' name p' pre (is_open last) (take (n last) (left ∷ more)) (drop (n last) (left ∷ more))
  rest-read k' name p' pre at is begins =
      subst (λ b. AreRead g t k' name p' pre (is_open b) (take (n b) (left ∷ more)) (drop (n b) (left ∷ more))) (last-same line more are f kind)
      (from-line g t kind k' name p' pre left more f.sign f.words (rest-text line more are f) (rest-are line more are f) at is begins (further-read g t kind more))

  -- without white space
  turn-bare : f.white ≡ [] → (b : Bool) (lines after : List Line) → AreRead g t k FlowBlankLineAfter p (begun g f.sign) b (left ∷ lines) after → IsRead b (line ∷ lines) after
  turn-bare none b lines after h =
      reads-as g t k FlowBlankLineAfter (block_seats b (left ∷ lines)) (block_seats b (line ∷ lines)) (behind_block b (left ∷ lines) after) (behind_block b (line ∷ lines) after) _
      (span_marks g.bytes HtmlFlow (block_seats b (line ∷ lines)) (html_marks g.bytes b (line ∷ lines))) (Retry FlowAfter)
      (sym (seats-are line more are f b lines ∙ ap (λ l. l ++ block_seats b (left ∷ lines)) none)) (sym (behind-is line more are f b lines after)) (marks-bare g line more are f p b lines none) h

  bare-read : f.white ≡ [] → IsAt t k p (all_of (line ∷ more)) → kind_in k ≡ kind → IsRead (is_open last) (take (n last) (line ∷ more)) (drop (n last) (line ∷ more))
  bare-read none at is =
      let same : all_of (line ∷ more) ≡ all_of (left ∷ more) = ap (λ l. l ++ all_of more) (line-is line more are f ∙ ap (λ w. w ++ left) none) in
      let at' = subst (IsAt t k p) same at in
      (elim last as (λ b. AreRead g t k FlowBlankLineAfter p (begun g f.sign) (is_open b) (take (n b) (left ∷ more)) (drop (n b) (left ∷ more)) → IsRead (is_open b) (take (n b) (line ∷ more)) (drop (n b) (line ∷ more))) [
        | true ↦ turn-bare none false [] more
        | false ↦ turn-bare none (stays_open kind more) (take (count kind more) more) (drop (count kind more) more)
      ]) (rest-read k FlowBlankLineAfter p (begun g f.sign) at' is (line-begins g t k p f.sign ((f.words ++ ending_of line) ++ all_of more) f.less at'))

  -- with it
  module _ (w : Seat) (ws : List Seat) (white_is : f.white ≡ w ∷ ws) where
    abbrev q : Point
    q = end_after w.end ws

    abbrev pre_white : List Mark
    pre_white = leaves g (HtmlFlowData ∷ []) q

    abbrev IsReadBehind : (b : Bool) → (lines after : List Line) → Type 0
    IsReadBehind b lines after =
        IsReadAs g t Kept k FlowBlankLineAfter ((w ∷ ws) ++ block_seats b lines) (behind_block b lines after)
        (white_marks g w ++ (pre_white ++ (lines_marks g.bytes (leaf_marks g.bytes HtmlFlowData) b lines ++ leaves g (HtmlFlow ∷ []) (end_after q (block_seats b lines))))) (Retry FlowAfter)

    turn-white : (b : Bool) (lines after : List Line) → IsReadBehind b (left ∷ lines) after → IsRead b (line ∷ lines) after
    turn-white b lines after h =
        reads-as g t k FlowBlankLineAfter ((w ∷ ws) ++ block_seats b (left ∷ lines)) (block_seats b (line ∷ lines)) (behind_block b (left ∷ lines) after) (behind_block b (line ∷ lines) after) _
        (span_marks g.bytes HtmlFlow (block_seats b (line ∷ lines)) (html_marks g.bytes b (line ∷ lines))) (Retry FlowAfter)
        (sym (seats-are line more are f b lines ∙ ap (λ l. l ++ block_seats b (left ∷ lines)) white_is)) (sym (behind-is line more are f b lines after)) (marks-white g line more are f w ws b lines white_is) h

    white-space-read : IsAt t k p (all_of (line ∷ more)) → kind_in k ≡ kind → k.local.tokenize_state.token_1 ≡ HtmlFlow → IsRead (is_open last) (take (n last) (line ∷ more)) (drop (n last) (line ∷ more))
    white-space-read at is token =
        let seats = block_seats (is_open last) (take (n last) (left ∷ more)) in
        let after = behind_block (is_open last) (take (n last) (left ∷ more)) (drop (n last) (left ∷ more)) in
        let split : seats ++ after ≡ all_of (left ∷ more) = seats-split (is_open last) (n last) (left ∷ more) (rest-are line more are f) in
        let same : all_of (line ∷ more) ≡ (w ∷ ws) ++ all_of (left ∷ more) =
        ap (λ l. l ++ all_of more) (line-is line more are f ∙ ap (λ w. w ++ left) white_is) ∙ append_assoc (w ∷ ws) left (all_of more) in
        let placed : IsAt t k p ((w ∷ ws) ++ (seats ++ after)) = subst (IsAt t k p) (same ∙ ap (λ l. (w ∷ ws) ++ l) (sym split)) at in
        let all_white = subst (AllByRecursion IsWhite) white_is f.all_white in
        (elim last as (λ b. IsReadBehind (is_open b) (take (n b) (left ∷ more)) (drop (n b) (left ∷ more)) → IsRead (is_open b) (take (n b) (line ∷ more)) (drop (n b) (line ∷ more))) [
          | true ↦ turn-white false [] more
          | false ↦ turn-white (stays_open kind more) (take (count kind more) more) (drop (count kind more) more)
        ])
        (reads-on g t Kept Kept Kept kept-on k p FlowBlankLineAfter HtmlFlowStart (w ∷ ws) seats after (white_marks g w) _ (Retry FlowAfter) placed
        (white-read g t k p w ws (seats ++ after) all_white token placed)
        (λ k' at' kept.
        let there = subst (IsAt t k' q) split at' in
        rest-read k' HtmlFlowStart q pre_white there (kept.kind ∙ is) (start-begins g t k' q f.sign ((f.words ++ ending_of line) ++ all_of more) f.less there)))

  block-read : IsAt t k p (all_of (line ∷ more)) → kind_in k ≡ kind → k.local.tokenize_state.token_1 ≡ HtmlFlow
      → IsRead (stays_open kind (line ∷ more)) (take (count kind (line ∷ more)) (line ∷ more)) (drop (count kind (line ∷ more)) (line ∷ more))
  block-read at is token = elim f.white as (λ l. f.white ≡ l → IsRead (is_open last) (take (n last) (line ∷ more)) (drop (n last) (line ∷ more))) [
    | [] ↦ λ none. bare-read none at is
    | w ∷ ws ↦ λ white. white-space-read w ws white at is token
  ] refl

-- by the number that was written down
html-read : (g : Given) (t : Text) (k : Config) (kind : ℕ) (line : Line) (more : List Line) → IsFound g t k (html kind) line more
    → let all = line ∷ more in
    let n = cond (nat_le 6 kind) (lines_until (λ l. is_blank_line (text_of l)) all) (lines_through (ends_html kind) all) in
    let is_open = not (nat_le 6 kind || has_line (ends_html kind) all) in
    IsBlockRead g t k FlowBlankLineAfter (take n all) (drop n all) HtmlFlow is_open (html_marks g.bytes is_open (take n all))
html-read g t k kind line more found =
    let all = line ∷ more in
    let are = found.here.are_lines in
    let h = html-is g.options.constructs (text_of line) kind found.is_kind in
    let f = first line (ap (nat_le 1) h.at ∙ h.some) in
    let r = block-read g t kind line more are f k (end_place t k.position) (record { behind = refl; left = found.here.at; waits = found.here.waits }) found.found.2 found.found.1 in
    let through = lines_through (ends_html kind) all in
    let until = lines_until (λ l. is_blank_line (text_of l)) all in
    let holds = has_line (ends_html kind) all in
    let (count_is, open_is) = counts kind line more are h.solid h.some in
    let long = nat_le 6 kind in
    let Goal = λ (m : ℕ) (b : Bool). IsReadAs g t KeepsEdits k FlowBlankLineAfter (block_seats b (take m all)) (behind_block b (take m all) (drop m all))
    (span_marks g.bytes HtmlFlow (block_seats b (take m all)) (html_marks g.bytes b (take m all))) (Retry FlowAfter) in
    subst (λ m. Goal m (not (long || holds))) count_is (subst (λ b. Goal (count kind all) b) open_is
    (reads-keeping g t Kept KeepsEdits (λ before after h. record { edits = h.edits; resolvers = h.resolvers }) k FlowBlankLineAfter _ _ _ (Retry FlowAfter) r))
  where
    counts : (kind : ℕ) (line : Line) (more : List Line) → AreLines (line ∷ more) → is_blank_line (text_of line) ≡ false → nat_le 1 kind ≡ true
        → let all = line ∷ more in
        (count kind all ≡ cond (nat_le 6 kind) (lines_until (λ l. is_blank_line (text_of l)) all) (lines_through (ends_html kind) all)) × (stays_open kind all ≡ not (nat_le 6 kind || has_line (ends_html kind) all))
    counts kind line more are solid some =
        let all = line ∷ more in
        elim (nat_le 6 kind) as (λ l. nat_le 6 kind ≡ l → (count kind all ≡ cond l (lines_until (λ l. is_blank_line (text_of l)) all) (lines_through (ends_html kind) all)) × (stays_open kind all ≡ not (l || has_line (ends_html kind) all))) [
          | true ↦ λ long. count-until kind long line more are solid
          | false ↦ λ short. let ends = ends-are kind short some in (count-through kind short ends all, open-is kind short ends all)
        ] refl

-- HTML of each kind is read
pub html-is-read : HtmlIsRead
html-is-read g t k raw line more found = html-read g t k 1 line more found
html-is-read g t k comment line more found = html-read g t k 2 line more found
html-is-read g t k instruction line more found = html-read g t k 3 line more found
html-is-read g t k declaration line more found = html-read g t k 4 line more found
html-is-read g t k cdata line more found = html-read g t k 5 line more found
html-is-read g t k block_tag line more found = html-read g t k 6 line more found
html-is-read g t k any_tag line more found = html-read g t k 7 line more found
