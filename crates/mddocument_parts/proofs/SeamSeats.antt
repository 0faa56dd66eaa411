-- The virtual bytes of a stretch that goes on over a rest, with the document's letters: those of both stretches, with what stands between them. Its leaf blocks are those of both.
use Rattle.std.proofs.Common.{Bool, List, [], ap, append-nil, append_assoc, arith, cond, drop, false, length, length-append, map, refl, subst, sym, take, true, zero, ℕ, suc, ◌++◌, ◌<◌, ◌∙◌, ◌∷◌, ◌≡◌, ◌≤◌}
use Rattle.std.proofs.lemmas.Bool.{false≢true}
use Rattle.std.proofs.lemmas.List.{drop-append-le, length-drop, drop-map, length-map, map-append, take-append-drop}
use Rattle.std.specs.List.{AllByRecursion}
use Rattle.markdown_base.proofs.Common.{every-drop}
use Rattle.markdown_base.specs.Virtual.{Seat, virtual}
use Rattle.markdown_base.specs.declared.configuration.Constructs.{Constructs}
use Rattle.markdown_tokenizer.proofs.Positions.Order.{every-back, every-front}
use Rattle.mdconstructs_machines.specs.LineEvents.{all_of, ending_of, line_text, lines_in}
use Rattle.mdconstructs_machines.proofs.BlockReads.Accounts.{lines-are-all}
use Rattle.mdblock_leaf_blocks.proofs.Lines.Lines.{all-of-append}
use Rattle.mdblock_leaf_blocks.proofs.Lines.WholeLines.{IsWhole, body-and-last, whole-behind}
use Rattle.mdblock_leaf_blocks.proofs.Marks.LeafSpans.{text-shorter}
use Rattle.mdblock_leaf_blocks.specs.BlocksRead.{block_seats, last_ending}
use Rattle.mdblock_leaf_blocks.specs.LeafBlocks.{Line}
use Rattle.mdblock_leaf_blocks.specs.LeafEvents.{body}
use Rattle.mdblock_containers.proofs.LetterPlaces.{places_kept}
use Rattle.mdblock_containers.proofs.PartGoes.{lines_end_behind, lines_end_front}
use Rattle.mdblock_containers.proofs.SeatFacts.{LineIs, LinesEnd, SeatEnds, document_lines, lines_end}
use Rattle.mdblock_containers.specs.Letters.{ArePlainFrom, lettered_seat, with_letters}
use Rattle.mdblock_containers.specs.Rows.{has_none}
use Rattle.mddocument_parts.proofs.LetteredBoth.{Keeps, all_lettered, block-behind, block-with-letters, blanks-with-letters, document-keeps, last-behind, last-with-letters, lettered, lines-with-letters, seats-keep, text-behind, text-with-letters}
use Rattle.mddocument_parts.proofs.NoUnderlines.{EndsBefore, marks_in, split-blocks}
use Rattle.mddocument_parts.proofs.WithoutContainers.CutOff.{lines-whole}
use Rattle.mddocument_parts.proofs.WithoutContainers.Leaves.{HasText, last_line}
use Rattle.mddocument_parts.specs.JoinedStretches.{marks_between}

-- the seats of lines, and of others behind them
seats-both : (is_held : Bool) (xs : List Line) (y : Line) (ys : List Line) → block_seats is_held (xs ++ (y ∷ ys)) ≡ all_of xs ++ block_seats is_held (y ∷ ys)
seats-both true xs y ys = all-of-append xs (y ∷ ys)
seats-both false [] y ys = refl
seats-both false (x ∷ []) y ys = ap (λ l. l ++ body (y ∷ ys)) (sym (append-nil x))
seats-both false (x ∷ next ∷ xs) y ys = ap (λ l. x ++ l) (seats-both false (next ∷ xs) y ys) ∙ sym (append_assoc x (all_of (next ∷ xs)) (body (y ∷ ys)))

seats-and-ending : (is_held : Bool) (ls : List Line) → AllByRecursion IsWhole ls → all_of ls ≡ block_seats is_held ls ++ cond is_held [] (last_ending ls)
seats-and-ending true ls w = sym (append-nil (all_of ls))
seats-and-ending false ls w = sym (body-and-last ls w)

line-some : (line : Line) → has_none line ≡ false → 0 < length line
line-some [] h = absurd (false≢true (sym h))
line-some (s ∷ line) h = omega arith

text-some : (line : Line) → HasText line → 0 < length (line_text line)
text-some line h = by (line_text line) refl
  where
    by : (l : Line) → line_text line ≡ l → 0 < length l
    by [] e = absurd (h (ap (map (λ (s : Seat). s.byte)) e))
    by (s ∷ l) e = omega arith

some-behind : (n : ℕ) (line : Line) → n < length line → has_none (drop n line) ≡ false
some-behind n [] l = absurd (omega (arith, l))
some-behind zero (s ∷ ss) l = refl
some-behind (suc n) (s ∷ ss) l = some-behind n ss (omega (arith, l))

first-ends : (x y : Line) (ls : List Line) → ending_of y ≡ ending_of x → LinesEnd (x ∷ ls) → LinesEnd (y ∷ ls)
first-ends x y [] e h = tt
first-ends x y (l ∷ ls) e h = (ap has_none e ∙ h.0, h.1)

module _ (on : Constructs) (t : ℕ) (bytes at : List ℕ) (plain : ArePlainFrom 0 at bytes) (above left : List Line) (q : Line) (more blanks : List Line) (r : Line) (behind : List Line) (n : ℕ) (is_held : Bool)
    (lines_are : lines_in (virtual t bytes) ≡ above ++ ((((q ∷ more) ++ blanks) ++ (r ∷ behind)) ++ left)) (few : n < length (line_text q)) where
  abbrev inner : List Line
  inner = ((q ∷ more) ++ blanks) ++ (r ∷ behind)

  abbrev pub first_seats : List Seat
  first_seats = drop n (block_seats false (q ∷ more))

  abbrev pub middle_seats : List Seat
  middle_seats = last_ending (q ∷ more) ++ all_of blanks

  abbrev pub second_seats : List Seat
  second_seats = block_seats is_held (r ∷ behind)

  abbrev pub seats_before : List Seat
  seats_before = all_of above ++ take n (block_seats false (q ∷ more))

  abbrev pub seats_after : List Seat
  seats_after = cond is_held [] (last_ending (r ∷ behind)) ++ all_of left

  -- ---- the lines
  are : AllByRecursion LineIs inner
  are = every-front LineIs inner left (every-back LineIs above (inner ++ left) (subst (AllByRecursion LineIs) lines_are (document_lines t bytes)))

  ends : LinesEnd inner
  ends = lines_end_front t bytes on inner left (lines_end_behind t bytes on above (inner ++ left) (subst LinesEnd lines_are (lines_end (virtual t bytes))))

  keep : AllByRecursion (AllByRecursion (Keeps at)) inner
  keep = every-front (AllByRecursion (Keeps at)) inner left (every-back (AllByRecursion (Keeps at)) above (inner ++ left) (subst (AllByRecursion (AllByRecursion (Keeps at))) lines_are (document-keeps at t bytes plain)))

  whole-q : IsWhole q
  whole-q = are.0.whole

  few-text : n ≤ length (line_text q)
  few-text = omega (arith, few)

  whole-first : AllByRecursion IsWhole (q ∷ more)
  whole-first = every-front IsWhole (q ∷ more) blanks (every-front IsWhole ((q ∷ more) ++ blanks) (r ∷ behind) (lines-whole inner are))

  whole-second : AllByRecursion IsWhole (r ∷ behind)
  whole-second = every-back IsWhole ((q ∷ more) ++ blanks) (r ∷ behind) (lines-whole inner are)

  few-body : (ls : List Line) → n < length (body (q ∷ ls))
  few-body [] = few
  few-body (l ∷ ls) = let size = text-shorter q whole-q in let both = length-append q (body (l ∷ ls)) in omega (arith, few, size, both)

  -- both stretches have virtual bytes
  pub first-some : 0 < length first_seats
  first-some = let less = few-body more in let size = length-drop n (block_seats false (q ∷ more)) in omega (arith, less, size)

  pub second-some : (is_held ≡ false → HasText (last_line (r ∷ behind))) → 0 < length second_seats
  second-some = by is_held behind
    where
      line : 0 < length r
      line = line-some r (every-back LineIs ((q ∷ more) ++ blanks) (r ∷ behind) are).0.some

      by : (held : Bool) (ls : List Line) → (held ≡ false → HasText (last_line (r ∷ ls))) → 0 < length (block_seats held (r ∷ ls))
      by true ls text = let both = length-append r (all_of ls) in omega (arith, line, both)
      by false [] text = text-some r (text refl)
      by false (l ∷ ls) text = let both = length-append r (body (l ∷ ls)) in omega (arith, line, both)

  front-of-all : all_of (((q ∷ more) ++ blanks)) ≡ block_seats false (q ∷ more) ++ middle_seats
  front-of-all =
      all-of-append (q ∷ more) blanks ∙ ap (λ l. l ++ all_of blanks) (seats-and-ending false (q ∷ more) whole-first)
      ∙ append_assoc (block_seats false (q ∷ more)) (last_ending (q ∷ more)) (all_of blanks)

  -- the chunk's virtual bytes are those of both, and what stands between them
  pub seats-are : drop n (block_seats is_held inner) ≡ first_seats ++ (middle_seats ++ second_seats)
  seats-are =
      ap (drop n) (seats-both is_held ((q ∷ more) ++ blanks) r behind ∙ ap (λ l. l ++ second_seats) front-of-all ∙ append_assoc (block_seats false (q ∷ more)) middle_seats second_seats)
      ∙ drop-append-le n (block_seats false (q ∷ more)) (middle_seats ++ second_seats) (let less = few-body more in omega (arith, less))

  pub whole-is : virtual t bytes ≡ seats_before ++ (first_seats ++ (middle_seats ++ (second_seats ++ seats_after)))
  whole-is =
      let front = block_seats false (q ∷ more) in
      let rest = middle_seats ++ (second_seats ++ seats_after) in
      let second : all_of (r ∷ behind) ++ all_of left ≡ second_seats ++ seats_after = ap (λ l. l ++ all_of left) (seats-and-ending is_held (r ∷ behind) whole-second) ∙ append_assoc second_seats (cond is_held [] (last_ending (r ∷ behind))) (all_of left) in
      let all : all_of (inner ++ left) ≡ front ++ rest =
      all-of-append inner left ∙ ap (λ l. l ++ all_of left) (all-of-append ((q ∷ more) ++ blanks) (r ∷ behind) ∙ ap (λ l. l ++ all_of (r ∷ behind)) front-of-all)
      ∙ append_assoc (front ++ middle_seats) (all_of (r ∷ behind)) (all_of left) ∙ ap (λ l. (front ++ middle_seats) ++ l) second ∙ append_assoc front middle_seats (second_seats ++ seats_after) in
      sym (lines-are-all (virtual t bytes)) ∙ ap all_of lines_are ∙ all-of-append above (inner ++ left) ∙ ap (λ l. all_of above ++ l) (all ∙ ap (λ l. l ++ rest) (sym (take-append-drop n front)))
      ∙ ap (λ l. all_of above ++ l) (append_assoc (take n front) first_seats rest) ∙ sym (append_assoc (all_of above) (take n front) (first_seats ++ rest))

  -- ---- with letters
  abbrev new : List ℕ
  new = with_letters at bytes

  abbrev pub first_line : Line
  first_line = lettered at (drop n q)

  abbrev rest_lines : List Line
  rest_lines = (more ++ blanks) ++ (r ∷ behind)

  letters-apart : (xs ys zs : List Line) → all_lettered at ((xs ++ ys) ++ zs) ≡ (all_lettered at xs ++ all_lettered at ys) ++ all_lettered at zs
  letters-apart xs ys zs = map-append (lettered at) (xs ++ ys) zs ∙ ap (λ l. l ++ all_lettered at zs) (map-append (lettered at) xs ys)

  new-lines : lines_in (virtual t new) ≡ all_lettered at above ++ (all_lettered at inner ++ all_lettered at left)
  new-lines =
      ap lines_in (places_kept t at bytes plain).seats ∙ lines-with-letters at (virtual t bytes) (seats-keep at t bytes plain) ∙ ap (all_lettered at) lines_are
      ∙ map-append (lettered at) above (inner ++ left) ∙ ap (λ l. all_lettered at above ++ l) (map-append (lettered at) inner left)

  new-are : AllByRecursion LineIs (all_lettered at inner)
  new-are = every-front LineIs (all_lettered at inner) (all_lettered at left) (every-back LineIs (all_lettered at above) (all_lettered at inner ++ all_lettered at left) (subst (AllByRecursion LineIs) new-lines (document_lines t new)))

  new-ends : LinesEnd (all_lettered at inner)
  new-ends = lines_end_front t bytes on (all_lettered at inner) (all_lettered at left) (lines_end_behind t bytes on (all_lettered at above) (all_lettered at inner ++ all_lettered at left) (subst LinesEnd new-lines (lines_end (virtual t new))))

  dropped : first_line ≡ drop n (lettered at q)
  dropped = sym (drop-map (lettered_seat at) n q)

  few-new : n ≤ length (line_text (lettered at q))
  few-new = let text = ap (λ (l : Line). length l) (text-with-letters at q keep.0) in let size = length-map (line_text q) (lettered_seat at) in omega (arith, few, text, size)

  first-is : LineIs first_line
  first-is =
      let is = new-are.0 in
      let size = text-shorter (lettered at q) is.whole in
      let text = ap (λ (l : Line). length l) (text-with-letters at q keep.0) in
      let same = length-map (line_text q) (lettered_seat at) in
      subst LineIs (sym dropped) (record { whole = whole-behind n (lettered at q) is.whole; ends = every-drop SeatEnds n (lettered at q) is.ends; some = some-behind n (lettered at q) (omega (arith, few, size, text, same)) })

  all-are : AllByRecursion LineIs (first_line ∷ all_lettered at rest_lines)
  all-are = (first-is, new-are.1)

  all-end : LinesEnd (first_line ∷ all_lettered at rest_lines)
  all-end = first-ends (lettered at q) first_line (all_lettered at rest_lines) (ap ending_of dropped ∙ (text-behind n (lettered at q) new-are.0.whole few-new).1) new-ends

  keep-dropped : AllByRecursion (AllByRecursion (Keeps at)) (drop n q ∷ rest_lines)
  keep-dropped = (every-drop (Keeps at) n q keep.0, keep.1)

  module _ (before : EndsBefore on (first_line ∷ all_lettered at more) (all_lettered at blanks) (lettered at r)) (text : is_held ≡ false → HasText (last_line (all_lettered at (r ∷ behind)))) where
    pub seats-split : marks_in on new (lettered at (first_seats ++ (middle_seats ++ second_seats)))
        ≡ marks_in on new (lettered at first_seats) ++ (marks_between bytes (q ∷ more) blanks ++ marks_in on new (lettered at second_seats))
    seats-split =
        let xs = first_line ∷ all_lettered at more in
        let bs = all_lettered at blanks in
        let apart : first_line ∷ all_lettered at rest_lines ≡ (xs ++ bs) ++ all_lettered at (r ∷ behind) = ap (λ l. first_line ∷ l) (letters-apart more blanks (r ∷ behind)) in
        let keep_more = every-front (AllByRecursion (Keeps at)) (drop n q ∷ more) blanks (every-front (AllByRecursion (Keeps at)) (drop n q ∷ (more ++ blanks)) (r ∷ behind) keep-dropped) in
        let keep_blanks = every-back (AllByRecursion (Keeps at)) (drop n q ∷ more) blanks (every-front (AllByRecursion (Keeps at)) (drop n q ∷ (more ++ blanks)) (r ∷ behind) keep-dropped) in
        let keep_behind = every-back (AllByRecursion (Keeps at)) (drop n q ∷ (more ++ blanks)) (r ∷ behind) keep-dropped in
        let all : block_seats is_held ((xs ++ bs) ++ all_lettered at (r ∷ behind)) ≡ lettered at (first_seats ++ (middle_seats ++ second_seats)) =
        ap (block_seats is_held) (sym apart) ∙ block-with-letters at is_held (drop n q ∷ rest_lines) keep-dropped ∙ ap (lettered at) (sym (block-behind n is_held q rest_lines whole-q few-text) ∙ seats-are) in
        let one : block_seats false xs ≡ lettered at first_seats = block-with-letters at false (drop n q ∷ more) keep_more ∙ ap (lettered at) (sym (block-behind n false q more whole-q few-text)) in
        let two : block_seats is_held (all_lettered at (r ∷ behind)) ≡ lettered at second_seats = block-with-letters at is_held (r ∷ behind) keep_behind in
        let between : marks_between new xs bs ≡ marks_between bytes (q ∷ more) blanks =
        (λ i. (last-with-letters at t bytes plain (drop n q ∷ more) keep_more ∙ last-behind n bytes q more whole-q few-text) i ++ blanks-with-letters at t bytes plain blanks keep_blanks i) in
        sym (ap (marks_in on new) all)
        ∙ split-blocks on new xs bs (lettered at r) (all_lettered at behind) is_held before (subst (AllByRecursion LineIs) apart all-are) (subst LinesEnd apart all-end) text
        ∙ (λ i. marks_in on new (one i) ++ (between i ++ marks_in on new (two i)))
