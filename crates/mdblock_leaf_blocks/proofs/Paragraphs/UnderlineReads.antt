-- Underlines of setext headings are read as their definition says, up to their end.
use Rattle.mdblock_leaf_blocks.proofs.Prelude.{Bool, List, Option, Some, [], ap, cond, drop, false, inl, inr, not, refl, subst, suc, sym, take, true, ℕ, ◌++◌, ◌+◌, ◌==◌, ◌∙◌, ◌∷◌, ◌≡◌, ◌⊎◌, and_parts, eqb-true, drop-drop, AllByRecursion, prefix_len, Seat, end_after, HeadingSetextUnderline, SpaceOrTab, Point, Name, Next, HeadingSetextAfter, HeadingSetextBefore, HeadingSetextInside, HeadingSetextStart, Configuration, Given, Text, FlowByte, blank, cased, dash, equals, flow_byte, is_blank, heading_setext_after_rows, heading_setext_start_rows, bytes_of, Mark, leaf_marks, underline_inside, white, begins_with, is_blank_line, is_underline_of_marks, run, unindented, LineEnds, is_white, Rows, class_of, consume, enter, picked, row}
use Rattle.markdown_base.specs.declared.event.Name.TheVariants.{HeadingSetextUnderlineSequence as Marks}
use Rattle.mdblock_leaf_rows.specs.FlowBytes.{is_underline}
use Rattle.mdblock_leaf_blocks.proofs.Lines.{Goes, IsAt, IsUnwritten, IsWhite, Reads, all-white, all_kept, back, comes, counted, drop-back, drop-bytes, fails-line, front, front-all, front-back, goes, goes-by, is_dark, row-takes-on, run-from, seen, take-front, then, unwritten, white-is-blank, white-piece}
use Rattle.mdblock_leaf_blocks.proofs.Looks.ByteClasses.{blank-is}
use Rattle.mdblock_leaf_blocks.proofs.Looks.LineTests.{run-grows}

-- ---- the definition, by what comes in front

module _ (bytes : List ℕ) where
  underline-pieces : (l : List Seat) → let r = back is_white l in
      underline_inside bytes l ≡ white bytes (front is_white l) ++ (leaf_marks bytes Marks (front is_dark r) ++ white bytes (back is_dark r))
  underline-pieces l =
      let r = back is_white l in
      let n = prefix_len is_white (bytes_of l) in
      let m = prefix_len is_dark (drop n (bytes_of l)) in
      let m_is : m ≡ prefix_len is_dark (bytes_of r) = ap (prefix_len is_dark) (drop-bytes is_white l) in
      ap (λ w. white bytes w ++ (leaf_marks bytes Marks (take m (drop n l)) ++ white bytes (drop (n + m) l))) (take-front is_white l)
      ∙ ap (λ d. white bytes (front is_white l) ++ (leaf_marks bytes Marks d ++ white bytes (drop (n + m) l)))
      (ap (λ i. take i (drop n l)) m_is ∙ ap (λ r. take (prefix_len is_dark (bytes_of (back is_white l))) r) (drop-back is_white l) ∙ take-front is_dark r)
      ∙ ap (λ v. white bytes (front is_white l) ++ (leaf_marks bytes Marks (front is_dark r) ++ white bytes v))
      (sym (drop-drop m n l) ∙ ap (drop m) (drop-back is_white l) ∙ ap (λ i. drop i r) m_is ∙ drop-back is_dark r)

abbrev IsMark : Seat → Type 0
IsMark s = is_underline (flow_byte s.byte) ≡ true

-- marks of one kind, and then only white space
abbrev AreMarksAndWhite : List Seat → Type 0
AreMarksAndWhite r = AllByRecursion IsMark (front is_dark r) × AllByRecursion IsWhite (back is_dark r)

marks-and-white : (mark : ℕ) → is_white mark ≡ false → is_underline (flow_byte mark) ≡ true → (r : List Seat) → is_blank_line (drop (run mark (bytes_of r)) (bytes_of r)) ≡ true → AreMarksAndWhite r
marks-and-white mark dark is [] h = (tt, tt)
marks-and-white mark dark is (s ∷ ss) h =
    let bs = bytes_of ss in
    elim (s.byte == mark) as (λ e. (s.byte == mark) ≡ e → is_blank_line (drop (cond e (suc (run mark bs)) 0) (s.byte ∷ bs)) ≡ true → AreMarksAndWhite (s ∷ ss)) [
      | true ↦ λ e h.
          let same = eqb-true s.byte mark e in
          let (marks, rest) = marks-and-white mark dark is ss h in
          let dark_here : is_white s.byte ≡ false = ap is_white same ∙ dark in
          subst (λ w. AllByRecursion IsMark (cond (not w) (s ∷ front is_dark ss) []) × AllByRecursion IsWhite (cond (not w) (back is_dark ss) (s ∷ ss))) (sym dark_here)
          ((ap (λ b. is_underline (flow_byte b)) same ∙ is, marks), rest)
      | false ↦ λ e h.
          let all = all-white (s ∷ ss) h in
          subst (λ w. AllByRecursion IsMark (cond (not w) (s ∷ front is_dark ss) []) × AllByRecursion IsWhite (cond (not w) (back is_dark ss) (s ∷ ss))) (sym all.0) (tt, all)
    ] refl (ap (λ n. is_blank_line (drop n (s.byte ∷ bs))) (sym (run-grows mark s.byte bs)) ∙ h)

-- what an underline's bytes are
pub record IsOfUnderline (l : List Seat) : Type 0 where
  pub first : Seat
  pub marks : List Seat
  pub are : front is_dark (back is_white l) ≡ first ∷ marks
  pub all : AllByRecursion IsMark (first ∷ marks)
  pub behind : AllByRecursion IsWhite (back is_dark (back is_white l))

of-marks : (mark : ℕ) → is_white mark ≡ false → is_underline (flow_byte mark) ≡ true → (l : List Seat) → is_underline_of_marks mark (unindented (bytes_of l)) ≡ true → IsOfUnderline l
of-marks mark dark is l h =
    let r = back is_white l in
    let here : is_underline_of_marks mark (bytes_of r) ≡ true = ap (is_underline_of_marks mark) (sym (drop-bytes is_white l)) ∙ h in
    let (begins, rest) = and_parts (begins_with mark (bytes_of r)) (is_blank_line (drop (run mark (bytes_of r)) (bytes_of r))) here in
    let (marks, behind) = marks-and-white mark dark is r rest in
    let (s, ss, are) = first-dark r begins in
    record { first = s; marks = ss; are = are; all = subst (λ d. AllByRecursion IsMark d) are marks; behind = behind }
  where
    first-dark : (r : List Seat) → begins_with mark (bytes_of r) ≡ true → (s : Seat) × (ss : List Seat) × (front is_dark r ≡ s ∷ ss)
    first-dark [] e = absurd (cc)
    first-dark (s ∷ ss) e = (s, front is_dark ss, ap (λ w. cond (not w) (s ∷ front is_dark ss) []) (ap is_white (eqb-true s.byte mark e) ∙ dark))

pub of-underline : (l : List Seat) → (is_underline_of_marks 61 (unindented (bytes_of l)) ≡ true) ⊎ (is_underline_of_marks 45 (unindented (bytes_of l)) ≡ true) → IsOfUnderline l
of-underline l (inl h) = of-marks 61 refl refl l h
of-underline l (inr h) = of-marks 45 refl refl l h

-- ---- rows at a mark
start-mark : (previous : Option FlowByte) (c : FlowByte) → is_underline c ≡ true
    → ◌≡◌ {A = Rows Unit Unit} (cased heading_setext_start_rows previous (Some c)) (row (enter HeadingSetextUnderline ∷ enter Marks ∷ consume ∷ []) (Next HeadingSetextInside))
start-mark previous dash h = refl
start-mark previous equals h = refl
start-mark previous c h = absurd (cc)

after-mark : (previous : Option FlowByte) (c : FlowByte) → is_underline c ≡ true → ◌≡◌ {A = Rows Unit Unit} (cased heading_setext_after_rows previous (Some c)) (row (enter Marks ∷ consume ∷ []) (Next HeadingSetextInside))
after-mark previous dash h = refl
after-mark previous equals h = refl
after-mark previous c h = absurd (cc)

-- the next byte, if there is one, is no mark
abbrev NoMark : List Seat → Type 0
NoMark [] = Unit {0}
NoMark (s ∷ ss) = is_underline (flow_byte s.byte) ≡ false

no-mark : (l rest : List Seat) → AllByRecursion IsWhite l → LineEnds rest → NoMark (l ++ rest)
no-mark [] [] h ends = tt
no-mark [] (s ∷ ss) h ends = ap (λ b. is_underline (flow_byte b)) ends
no-mark (s ∷ ss) rest h ends = ap is_underline (white-is-blank s.byte h.0)

mark-no-blank : (c : FlowByte) → is_underline c ≡ true → is_blank c ≡ false
mark-no-blank dash h = refl
mark-no-blank equals h = refl
mark-no-blank c h = absurd (cc)

white_goes : Goes HeadingSetextBefore is_white (SpaceOrTab ∷ []) HeadingSetextAfter
white_goes = goes-by HeadingSetextBefore (SpaceOrTab ∷ []) HeadingSetextAfter (λ b. refl) is_blank is_white (λ b c. refl) blank-is

abbrev is_mark : ℕ → Bool
is_mark b = is_underline (flow_byte b)

marks_go : Goes HeadingSetextInside is_mark (Marks ∷ []) HeadingSetextAfter
marks_go = goes-by HeadingSetextInside (Marks ∷ []) HeadingSetextAfter (λ b. refl) is_underline is_mark (λ b c. refl) (λ c. refl)

-- the first byte of a line
abbrev first_of : List Seat → Seat → Seat
first_of [] s = s
first_of (u ∷ us) s = u

first-is : (w : List Seat) (s : Seat) (more : List Seat) (u : Seat) (us : List Seat) → w ++ s ∷ more ≡ u ∷ us → first_of w s ≡ u
first-is [] s more u us is = cc
first-is (x ∷ w) s more u us is = cc

module _ (g : Given) (t : Text) where
  abbrev IsRead : Configuration Unit Unit → Name → (line rest : List Seat) → List Mark → Name → Type 0
  IsRead = Reads g t all_kept

  module _ (k : Configuration Unit Unit) (p : Point) where
    -- a piece begins
    marks-begin : (s : Seat) (rest : List Seat) → IsMark s → IsAt t k p (s ∷ rest) → IsRead k HeadingSetextAfter (s ∷ []) rest (comes g t Marks s) HeadingSetextInside
    marks-begin s rest mark at =
        let sight = seen g t IsUnwritten k HeadingSetextAfter p (s ∷ rest) in
        row-takes-on g t IsUnwritten k HeadingSetextAfter p s rest (flow_byte s.byte) (enter Marks ∷ consume ∷ []) HeadingSetextInside at refl
        (ap (λ r. picked r g sight (counted k)) (after-mark (class_of flow_byte sight.previous) (flow_byte s.byte) mark)) tt refl (unwritten k.local)

    -- the first byte of the line
    line-begins-white : (s : Seat) (rest : List Seat) → IsWhite s → IsAt t k p (s ∷ rest) → IsRead k HeadingSetextStart (s ∷ []) rest (comes g t HeadingSetextUnderline s ++ comes g t SpaceOrTab s) HeadingSetextBefore
    line-begins-white s rest white at =
        row-takes-on g t IsUnwritten k HeadingSetextStart p s rest blank (enter HeadingSetextUnderline ∷ enter SpaceOrTab ∷ consume ∷ []) HeadingSetextBefore at (white-is-blank s.byte white) refl tt refl (unwritten k.local)

    line-begins-marks : (s : Seat) (rest : List Seat) → IsMark s → IsAt t k p (s ∷ rest) → IsRead k HeadingSetextStart (s ∷ []) rest (comes g t HeadingSetextUnderline s ++ comes g t Marks s) HeadingSetextInside
    line-begins-marks s rest mark at =
        let sight = seen g t IsUnwritten k HeadingSetextStart p (s ∷ rest) in
        row-takes-on g t IsUnwritten k HeadingSetextStart p s rest (flow_byte s.byte) (enter HeadingSetextUnderline ∷ enter Marks ∷ consume ∷ []) HeadingSetextInside at refl
        (ap (λ r. picked r g sight (counted k)) (start-mark (class_of flow_byte sight.previous) (flow_byte s.byte) mark)) tt refl (unwritten k.local)

  -- marks, and white space behind them
  marks-and-rest : (from : Name) (first : List Mark) (s : Seat) (ss v : List Seat) → AllByRecursion IsMark (s ∷ ss) → AllByRecursion IsWhite v → (k : Configuration Unit Unit) (p : Point) (rest : List Seat) → LineEnds rest
      → IsAt t k p (((s ∷ ss) ++ v) ++ rest) → (IsAt t k p (s ∷ (ss ++ (v ++ rest))) → IsRead k from (s ∷ []) (ss ++ (v ++ rest)) first HeadingSetextInside)
      → IsRead k from ((s ∷ ss) ++ v) rest ((first ++ goes g t Marks (end_after s.end ss)) ++ white g.bytes v) HeadingSetextAfter
  marks-and-rest from first s ss v all behind k p rest ends at begins =
      then g t all_kept k p from HeadingSetextAfter HeadingSetextAfter (s ∷ ss) v ((s ∷ ss) ++ v) rest refl (first ++ goes g t Marks (end_after s.end ss)) (λ _. white g.bytes v) at
      (λ at'. run-from g t all_kept HeadingSetextInside (Marks ∷ []) HeadingSetextAfter is_mark marks_go from first s ss (v ++ rest) all.1 (no-mark v rest behind ends) k p at' (begins at'))
      (λ k' at' kept. white-piece g t all_kept HeadingSetextAfter HeadingSetextBefore white_goes (λ b. refl) v rest behind (fails-line is_white refl [] rest tt ends) k' (end_after p (s ∷ ss)) at')

  -- the line from its first byte on
  by-front : (w : List Seat) (s : Seat) (ss v : List Seat) → AllByRecursion IsWhite w → AllByRecursion IsMark (s ∷ ss) → AllByRecursion IsWhite v → (k : Configuration Unit Unit) (p : Point) (rest : List Seat) → LineEnds rest
      → let l = w ++ ((s ∷ ss) ++ v) in IsAt t k p (l ++ rest)
      → IsRead k HeadingSetextStart l rest (comes g t HeadingSetextUnderline (first_of w s) ++ (white g.bytes w ++ (leaf_marks g.bytes Marks (s ∷ ss) ++ white g.bytes v))) HeadingSetextAfter
  by-front [] s ss v whites marks behind k p rest ends at =
      marks-and-rest HeadingSetextStart (comes g t HeadingSetextUnderline s ++ comes g t Marks s) s ss v marks behind k p rest ends at (line-begins-marks k p s (ss ++ (v ++ rest)) marks.0)
  by-front (u ∷ us) s ss v whites marks behind k p rest ends at =
      let more = (s ∷ ss) ++ v in
      then g t all_kept k p HeadingSetextStart HeadingSetextAfter HeadingSetextAfter (u ∷ us) more ((u ∷ us) ++ more) rest refl (comes g t HeadingSetextUnderline u ++ white g.bytes (u ∷ us)) (λ _. leaf_marks g.bytes Marks (s ∷ ss) ++ white g.bytes v) at
      (λ at'. run-from g t all_kept HeadingSetextBefore (SpaceOrTab ∷ []) HeadingSetextAfter is_white white_goes HeadingSetextStart (comes g t HeadingSetextUnderline u ++ comes g t SpaceOrTab u) u us (more ++ rest) whites.1
      (sym (blank-is s.byte) ∙ mark-no-blank (flow_byte s.byte) marks.0) k p at' (line-begins-white k p u (us ++ (more ++ rest)) whites.0 at'))
      (λ k' at' kept. marks-and-rest HeadingSetextAfter (comes g t Marks s) s ss v marks behind k' (end_after p (u ∷ us)) rest ends at' (marks-begin k' (end_after p (u ∷ us)) s (ss ++ (v ++ rest)) marks.0))

  pub underline-read-from : (l : List Seat) (u : Seat) (us : List Seat) → l ≡ u ∷ us → IsOfUnderline l → (k : Configuration Unit Unit) (p : Point) (rest : List Seat) → LineEnds rest → IsAt t k p (l ++ rest)
      → IsRead k HeadingSetextStart l rest (comes g t HeadingSetextUnderline u ++ underline_inside g.bytes l) HeadingSetextAfter
  underline-read-from l u us is h k p rest ends at =
      let w = front is_white l in
      let v = back is_dark (back is_white l) in
      let split : w ++ ((h.first ∷ h.marks) ++ v) ≡ l = ap (λ d. w ++ (d ++ v)) (sym h.are) ∙ ap (λ r. w ++ r) (front-back is_dark (back is_white l)) ∙ front-back is_white l in
      let marks = λ (s : Seat) (inside : List Mark). comes g t HeadingSetextUnderline s ++ inside in
      let inside = white g.bytes w ++ (leaf_marks g.bytes Marks (h.first ∷ h.marks) ++ white g.bytes v) in
      let inside_is : inside ≡ underline_inside g.bytes l = ap (λ d. white g.bytes w ++ (leaf_marks g.bytes Marks d ++ white g.bytes v)) (sym h.are) ∙ sym (underline-pieces g.bytes l) in
      subst (λ m. IsRead k HeadingSetextStart l rest m HeadingSetextAfter) (ap (λ s. marks s inside) (first-is w h.first (h.marks ++ v) u us (split ∙ is)) ∙ ap (marks u) inside_is)
      (subst (λ l. IsRead k HeadingSetextStart l rest (marks (first_of w h.first) inside) HeadingSetextAfter) split
      (by-front w h.first h.marks v (front-all is_white l) h.all h.behind k p rest ends (subst (λ l. IsAt t k p (l ++ rest)) (sym split) at)))

pub underline-first : (l : List Seat) → IsOfUnderline l → (u : Seat) × (us : List Seat) × (l ≡ u ∷ us)
underline-first [] h = absurd (let wrong : [] ≡ h.first ∷ h.marks = h.are in cc)
underline-first (u ∷ us) h = (u, us, refl)
