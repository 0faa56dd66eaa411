-- Fenced code is read as its definition says.
use Rattle.mdblock_leaf_blocks.proofs.Prelude.{⊎_elim, Bool, List, [], ap, append-nil, append_assoc, arith, drop, false, length, length-append, not, refl, subst, sym, take, true, ◌++◌, ◌-◌, ◌<◌, ◌==◌, ◌^◌, ◌∙◌, ◌∷◌, ◌≡◌, ◌≤◌, length-drop, length-map, prefix_len-le-length, end-after-append, Seat, end_after, EventName, CodeFenced, LineEnding, Point, Retry, FlowAfter, FlowBlankLineAfter, RawFlowAtNonLazyBreak, Configuration, end_place, Given, Text, FencedCodeIsRead, IsBlockRead, IsReadAs, KeepsEdits, behind_block, block_seats, Line, bytes_of, has_line, lines_through, text_of, Mark, code_fenced_marks, fence_marks, fenced_marks, leaf_marks, line_end, span_marks, Fence, closes, is_white, all_of, ending_of, line_text, waits_at}
use Rattle.mdblock_leaf_blocks.proofs.Fenced.Blocks.{AreReadBehind, behind-reads, joined-behind, joined-seats, text-ends}
use Rattle.mdblock_leaf_blocks.proofs.Fenced.First.{IsFence, first_point, into, kind-is-fence, opening-line}
use Rattle.mdblock_leaf_blocks.proofs.Fenced.Steps.{IsOfFence, IsRead, KeepsFence, fence_kept, of-fence-kept}
use Rattle.mdblock_leaf_blocks.proofs.Lines.{IsAt, cut-line, first-parts, goes, lines-behind, reads-keeping, reads-on, seats-split, some-through, text-in-line, then-ends}

-- a span over some bytes
span-is : (g : Given) (t : Text) (n : EventName) (p : Point) (seats : List Seat) (inside : List Mark) → 1 ≤ length seats → into g n (first_point p seats) ++ (inside ++ goes g t n (end_after p seats)) ≡ span_marks g.bytes n seats inside
span-is g t n p [] inside some = absurd (omega (arith, some))
span-is g t n p (s ∷ ss) inside some = refl

first-of : (p : Point) (l rest : List Seat) → 1 ≤ length l → first_point p (l ++ rest) ≡ first_point p l
first-of p [] rest some = absurd (omega (arith, some))
first-of p (s ∷ ss) rest some = refl

-- the marks of a block by those of its first line
first-marks : (g : Given) (f : Fence) (closed : Bool) (line : Line) (ours : List Line) → (closed ≡ true → 1 ≤ length ours)
    → code_fenced_marks g.bytes f closed (line ∷ ours) ≡ fence_marks g.bytes f.size (line_text line) ++ (line_end g.bytes line ++ fenced_marks g.bytes f closed ours)
first-marks g f true line [] some = absurd (let h = some refl in omega (arith, h))
first-marks g f false line [] some = ap (λ x. fence_marks g.bytes f.size (line_text line) ++ x) (sym (append-nil (line_end g.bytes line)))
first-marks g f closed line (next ∷ ours) some = refl

-- a line of a fence has a byte
has-mark : (f : Fence) (l : List Seat) → IsFence f (bytes_of l) → 1 ≤ length l
has-mark f [] h = absurd (let size = h.size in let three = h.three in omega (arith, size, three))
has-mark f (s ∷ ss) h = omega arith

module _ (g : Given) (t : Text) (f : Fence) (k : Configuration Unit Unit) (line : Line) (h : IsFence f (text_of line)) (room : length t.seats < 2 ^ 64 - 1) where
  abbrev text : List Seat
  text = line_text line

  abbrev here_point : Point
  here_point = end_place t k.position

  size-some : 1 ≤ f.size
  size-some = let three = h.three in omega (arith, three)

  -- the indentation is within the text
  indent-room : (rest : List Seat) → drop k.position t.seats ≡ text ++ rest → f.indent < 2 ^ 64 - 1
  indent-room rest at =
      let fits = prefix_len-le-length is_white (bytes_of text) in
      let same : length (bytes_of text) ≡ length text = length-map text (λ (s : Seat). s.byte) in
      let count : length t.seats - k.position ≡ length (text ++ rest) = sym (length-drop k.position t.seats) ∙ ap length at in
      let sum = length-append text rest in
      let is = h.indent_is in
      omega (arith, fits, same, count, sum, is, room)

  abbrev Opens : List Seat → Type 0
  Opens rest = IsRead g t k FlowBlankLineAfter text rest (into g CodeFenced (first_point here_point text) ++ fence_marks g.bytes f.size text) RawFlowAtNonLazyBreak

  -- it keeps edits
  kept-edits : (line rest : List Seat) (marks : List Mark) → IsRead g t k FlowBlankLineAfter line rest marks FlowAfter → IsReadAs g t KeepsEdits k FlowBlankLineAfter line rest marks (Retry FlowAfter)
  kept-edits line rest marks = reads-keeping g t KeepsFence KeepsEdits (λ a b h. record { edits = h.0; resolvers = h.1 }) k FlowBlankLineAfter line rest marks (Retry FlowAfter)

  -- the first line, and what comes behind its line ending
  with-lines : IsOfFence f k.local → (room_for : f.indent < 2 ^ 64 - 1) (e : Seat) → text ++ ending_of line ≡ line → ending_of line ≡ e ∷ [] → (ours behind : List Line) (closed : Bool) → (closed ≡ true → 1 ≤ length ours)
      → (let rest = e ∷ (block_seats (not closed) ours ++ behind_block (not closed) ours behind) in IsAt t k here_point (text ++ rest) → Opens rest → AreReadBehind g t f h.mark size-some room room_for e ours behind closed
      → IsBlockRead g t k FlowBlankLineAfter (line ∷ ours) behind CodeFenced (not closed) (code_fenced_marks g.bytes f closed (line ∷ ours)))
  with-lines fenced room_for e whole ends ours behind closed some here first further =
      let seats = block_seats (not closed) ours in
      let rest = behind_block (not closed) ours behind in
      let line_seats = text ++ (e ∷ seats) in
      let fm = fence_marks g.bytes f.size text in
      let begin = leaf_marks g.bytes LineEnding (e ∷ []) in
      let fenced_are = fenced_marks g.bytes f closed ours in
      let last = goes g t CodeFenced (end_after e.end seats) in
      let inside = code_fenced_marks g.bytes f closed (line ∷ ours) in
      let inside_is : fm ++ (begin ++ (fenced_are ++ last)) ≡ inside ++ last =
      ap (λ x. fm ++ x) (sym (append_assoc begin fenced_are last)) ∙ sym (append_assoc fm (begin ++ fenced_are) last) ∙ ap (λ x. (fm ++ (leaf_marks g.bytes LineEnding x ++ fenced_are)) ++ last) (sym ends) ∙ ap (λ x. x ++ last) (sym (first-marks g f closed line ours some)) in
      let some_text = has-mark f text h in
      let some_seats : 1 ≤ length line_seats = (let sum = length-append text (e ∷ seats) in omega (arith, sum, some_text)) in
      let marks_are : into g CodeFenced (first_point here_point text) ++ (fm ++ (begin ++ (fenced_are ++ last))) ≡ span_marks g.bytes CodeFenced line_seats inside =
      ap (λ x. into g CodeFenced (first_point here_point text) ++ x) inside_is ∙ ap (λ q. into g CodeFenced q ++ (inside ++ last)) (sym (first-of here_point text (e ∷ seats) some_text))
      ∙ ap (λ z. into g CodeFenced (first_point here_point line_seats) ++ (inside ++ goes g t CodeFenced z)) (sym (end-after-append here_point text (e ∷ seats))) ∙ span-is g t CodeFenced here_point line_seats inside some_seats in
      subst (λ r. IsReadAs g t KeepsEdits k FlowBlankLineAfter (block_seats (not closed) (line ∷ ours)) r (span_marks g.bytes CodeFenced (block_seats (not closed) (line ∷ ours)) inside) (Retry FlowAfter)) (sym (joined-behind line e whole ends closed ours behind some))
      (subst (λ x. IsReadAs g t KeepsEdits k FlowBlankLineAfter x rest (span_marks g.bytes CodeFenced x inside) (Retry FlowAfter)) (sym (joined-seats line e whole ends closed ours some))
      (subst (λ ms. IsReadAs g t KeepsEdits k FlowBlankLineAfter line_seats rest ms (Retry FlowAfter)) marks_are
      (kept-edits line_seats rest (into g CodeFenced (first_point here_point text) ++ (fm ++ (begin ++ (fenced_are ++ last))))
      (reads-on g t KeepsFence KeepsFence KeepsFence fence_kept.on k here_point FlowBlankLineAfter RawFlowAtNonLazyBreak text (e ∷ seats) rest (into g CodeFenced (first_point here_point text) ++ fm) (begin ++ (fenced_are ++ last)) (Retry FlowAfter) here first
      (λ k' there kept. further k' (end_after here_point text) (of-fence-kept f k.local k'.local kept fenced) there)))))

  -- or the text ends with it
  alone : text ++ ending_of line ≡ line → ending_of line ≡ [] → IsAt t k here_point (text ++ []) → Opens [] → (room_for : f.indent < 2 ^ 64 - 1)
      → IsBlockRead g t k FlowBlankLineAfter (line ∷ []) [] CodeFenced true (code_fenced_marks g.bytes f false (line ∷ []))
  alone whole none here first room_for =
      let fm = fence_marks g.bytes f.size text in
      let last = goes g t CodeFenced (end_after here_point text) in
      let inside = fm ++ line_end g.bytes line in
      let inside_is : fm ++ last ≡ inside ++ last = ap (λ x. x ++ last) (sym (append-nil fm) ∙ ap (λ x. fm ++ leaf_marks g.bytes LineEnding x) (sym none)) in
      let same : text ≡ line ++ [] = sym (append-nil text) ∙ ap (λ x. text ++ x) (sym none) ∙ whole ∙ sym (append-nil line) in
      let marks_are : into g CodeFenced (first_point here_point text) ++ (fm ++ last) ≡ span_marks g.bytes CodeFenced text inside =
      ap (λ x. into g CodeFenced (first_point here_point text) ++ x) inside_is ∙ span-is g t CodeFenced here_point text inside (has-mark f text h) in
      subst (λ x. IsReadAs g t KeepsEdits k FlowBlankLineAfter x [] (span_marks g.bytes CodeFenced x inside) (Retry FlowAfter)) same
      (subst (λ ms. IsReadAs g t KeepsEdits k FlowBlankLineAfter text [] ms (Retry FlowAfter)) marks_are
      (kept-edits text [] (into g CodeFenced (first_point here_point text) ++ (fm ++ last))
      (then-ends g t fence_kept k here_point FlowBlankLineAfter RawFlowAtNonLazyBreak FlowAfter text [] (into g CodeFenced (first_point here_point text) ++ fm) last here first
      (λ k' there kept. text-ends g t f h.mark size-some room room_for k' (end_after here_point text) there))))

pub fenced-code-read : FencedCodeIsRead
fenced-code-read g t k f line more found =
    let h = kind-is-fence g.options.constructs (text_of line) f found.is_kind in
    let are = found.here.are_lines in
    let cut = cut-line line more are in
    let test = closes g.options.constructs f in
    let l = line_text line in
    let split : all_of (line ∷ more) ≡ l ++ (ending_of line ++ all_of more) = ap (λ x. x ++ all_of more) (sym cut.whole) ∙ append_assoc l (ending_of line) (all_of more) in
    let at = found.here.at ∙ split in
    let room_for = indent-room g t f k line h found.here.room (ending_of line ++ all_of more) at in
    let some = size-some g t f k line h found.here.room in
    let here : IsAt t k (end_place t k.position) (l ++ (ending_of line ++ all_of more)) = record { behind = refl; left = at; waits = found.here.waits ∙ ap waits_at split } in
    let fenced : IsOfFence f k.local = (found.found.2, found.found.3, found.found.4) in
    let first = opening-line g t f h.mark l (ending_of line ++ all_of more) (text-in-line line) (first-parts line more are).ends h.size some k (end_place t k.position) found.found.1 fenced here in
    ⊎_elim
    (λ ends.
    let n = lines_through test more in
    let closed = has_line test more in
    let behind_are = lines-behind line more are in
    let rest_is : ending_of line ++ all_of more ≡ ends.ending ∷ (block_seats (not closed) (take n more) ++ behind_block (not closed) (take n more) (drop n more)) =
    ap (λ x. x ++ all_of more) ends.is ∙ ap (λ x. ends.ending ∷ x) (sym (seats-split (not closed) n more behind_are)) in
    with-lines g t f k line h found.here.room fenced room_for ends.ending cut.whole ends.is (take n more) (drop n more) closed (some-through test more)
    (subst (λ x. IsAt t k (end_place t k.position) (l ++ x)) rest_is here)
    (subst (λ x. IsRead g t k FlowBlankLineAfter l x (into g CodeFenced (first_point (end_place t k.position) l) ++ fence_marks g.bytes f.size l) RawFlowAtNonLazyBreak) rest_is first)
    (behind-reads g t f h.mark some found.here.room room_for more ends.ending (ap (λ b. b == 10) ends.feed) behind_are))
    (λ without.
    let nothing : ending_of line ++ all_of more ≡ [] = ap (λ x. x ++ all_of more) without.is ∙ ap all_of without.last in
    subst (λ m. IsBlockRead g t k FlowBlankLineAfter (line ∷ take (lines_through test m) m) (drop (lines_through test m) m) CodeFenced (not (has_line test m)) (code_fenced_marks g.bytes f (has_line test m) (line ∷ take (lines_through test m) m))) (sym without.last)
    (alone g t f k line h found.here.room cut.whole without.is
    (subst (λ x. IsAt t k (end_place t k.position) (l ++ x)) nothing here)
    (subst (λ x. IsRead g t k FlowBlankLineAfter l x (into g CodeFenced (first_point (end_place t k.position) l) ++ fence_marks g.bytes f.size l) RawFlowAtNonLazyBreak) nothing first) room_for)) cut.ends
