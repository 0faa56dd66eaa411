-- The edits at the end of an underline are those that the told marks of its heading say.
use Rattle.mdblock_leaf_blocks.proofs.Prelude.{◌≡◌, ℕ, ◌+◌, ◌-◌, ◌<◌, List, [], ◌∷◌, ◌++◌, Some, None, length, map, sym, ap, ◌∙◌, arith, append_assoc, length-append, slice_get, AllByRecursion, length-map, map-append, Event, Edit, added_after, edit_at, slice_get-behind, renaming, under, with_names, added-last, below-more, Mark, linked_from, ToldMark, as_it_is, under_names, before_edits, mark_before, told_edits}
use Rattle.markdown_base.specs.declared.event.Name.{Name}
use Rattle.mdblock_leaf_blocks.proofs.Marks.MarkLists.{edits-append, kept-before, kept-edits, linked-append, linked-length}

-- the event of a mark, at its place
pub linked-there : (es : List Event) (xs : List Mark) (e : Event) (ys : List Mark) → slice_get (es ++ linked_from (length es) (xs ++ (e, None) ∷ ys)) (length es + length xs) ≡ Some e
linked-there es xs e ys =
    let i = length es in
    let front = linked_from i xs in
    let count : length xs ≡ length front + 0 = let same = linked-length i xs in omega (arith, same) in
    slice_get-behind es (linked_from i (xs ++ (e, None) ∷ ys)) (length xs)
    ∙ ap (λ l. slice_get l (length xs)) (linked-append i xs ((e, None) ∷ ys))
    ∙ ap (λ n. slice_get (front ++ linked_from (i + length xs) ((e, None) ∷ ys)) n) count
    ∙ slice_get-behind front (linked_from (i + length xs) ((e, None) ∷ ys)) 0

-- a heading: an event that gets names, marks, another, marks, and a last one
module _ (first second third : Event) (ones twos threes : List Name) (inside behind : List Mark) where
  abbrev pub heading : List ToldMark
  heading = under_names first ones ∷ (map as_it_is inside ++ under_names second twos ∷ (map as_it_is behind ++ under_names third threes ∷ []))

  abbrev pub heading_marks : List Mark
  heading_marks = (first, None) ∷ (inside ++ (second, None) ∷ (behind ++ (third, None) ∷ []))

  abbrev second_at : ℕ
  second_at = 1 + length inside

  abbrev third_at : ℕ
  third_at = second_at + 1 + length behind

  heading-edits : (i : ℕ) → told_edits i heading ≡ edit_at i 1 (map (under first) ones) ∷ edit_at (i + second_at) 1 (map (under second) twos) ∷ edit_at (i + third_at) 1 (map (under third) threes) ∷ []
  heading-edits i =
      let n = (i + 1) + length (map as_it_is inside) in
      let m = (n + 1) + length (map as_it_is behind) in
      let n_is : n ≡ i + second_at = let same = length-map inside as_it_is in omega (arith, same) in
      let m_is : m ≡ i + third_at = let same = length-map inside as_it_is in let more = length-map behind as_it_is in omega (arith, same, more) in
      let rest = map as_it_is behind ++ under_names third threes ∷ [] in
      ap (λ l. edit_at i 1 (map (under first) ones) ∷ l)
      (edits-append (i + 1) (map as_it_is inside) (under_names second twos ∷ rest)
      ∙ ap (λ l. l ++ told_edits n (under_names second twos ∷ rest)) (kept-edits (i + 1) inside)
      ∙ ap (λ l. edit_at n 1 (map (under second) twos) ∷ l) (edits-append (n + 1) (map as_it_is behind) (under_names third threes ∷ []) ∙ ap (λ l. l ++ edit_at m 1 (map (under third) threes) ∷ []) (kept-edits (n + 1) behind))
      ∙ ap (λ n'. edit_at n' 1 (map (under second) twos) ∷ edit_at m 1 (map (under third) threes) ∷ []) n_is
      ∙ ap (λ m'. edit_at (i + second_at) 1 (map (under second) twos) ∷ edit_at m' 1 (map (under third) threes) ∷ []) m_is)

  module _ (es : List Event) where
    abbrev all : List Event
    all = es ++ linked_from (length es) heading_marks

    abbrev i : ℕ
    i = length es

    first-there : slice_get all i ≡ Some first
    first-there = let none : i ≡ i + 0 = omega arith in ap (slice_get all) none ∙ linked-there es [] first (inside ++ (second, None) ∷ (behind ++ (third, None) ∷ []))

    second-there : slice_get all (i + second_at) ≡ Some second
    second-there =
        let xs : List Mark = (first, None) ∷ inside in
        let count : second_at ≡ length xs = omega arith in
        ap (λ n. slice_get all (i + n)) count ∙ linked-there es xs second (behind ++ (third, None) ∷ [])

    third-there : slice_get all (i + third_at) ≡ Some third
    third-there =
        let xs : List Mark = (first, None) ∷ (inside ++ (second, None) ∷ behind) in
        let count : third_at ≡ length xs = let n = length-append inside ((second, None) ∷ behind) in omega (arith, n) in
        let same : heading_marks ≡ xs ++ (third, None) ∷ [] = ap (λ l. (first, None) ∷ l) (sym (append_assoc inside ((second, None) ∷ behind) ((third, None) ∷ []))) in
        ap (λ l. slice_get (es ++ linked_from i l) (i + third_at)) same ∙ ap (λ n. slice_get (es ++ linked_from i (xs ++ (third, None) ∷ [])) (i + n)) count ∙ linked-there es xs third []

    pub last-is : length all - 1 ≡ i + third_at
    last-is =
        let n = length-append es (linked_from i heading_marks) in
        let m = linked-length i heading_marks in
        let k = length-append inside ((second, None) ∷ (behind ++ (third, None) ∷ [])) in
        let j = length-append behind ((third, None) ∷ []) in
        omega (arith, n, m, k, j)

    -- the three edits, added one after another behind those that wait
    pub heading-added : (edits : List Edit) (start last : ℕ) → AllByRecursion (λ (e : Edit). e.index < length es) edits → start ≡ i + second_at → last ≡ i + third_at
        → added_after (added_after (added_after edits (renaming all i ones)) (renaming all start twos)) (renaming all last threes) ≡ edits ++ told_edits i heading
    heading-added edits start last before start_is last_is =
        let one = edit_at i 1 (map (under first) ones) in
        let two = edit_at (i + second_at) 1 (map (under second) twos) in
        let three = edit_at (i + third_at) 1 (map (under third) threes) in
        let one_is : renaming all i ones ≡ one = ap (λ o. edit_at i 1 (with_names ones o)) first-there in
        let two_is : renaming all start twos ≡ two = ap (λ n. renaming all n twos) start_is ∙ ap (λ o. edit_at (i + second_at) 1 (with_names twos o)) second-there in
        let three_is : renaming all last threes ≡ three = ap (λ n. renaming all n threes) last_is ∙ ap (λ o. edit_at (i + third_at) 1 (with_names threes o)) third-there in
        let before_two = below-more edits i (i + second_at) (map (under first) ones) (omega arith) before in
        let before_three = below-more (edits ++ one ∷ []) (i + second_at) (i + third_at) (map (under second) twos) (omega arith) before_two in
        ap (λ d. added_after (added_after (added_after edits d) (renaming all start twos)) (renaming all last threes)) one_is
        ∙ ap (λ ds. added_after (added_after ds (renaming all start twos)) (renaming all last threes)) (added-last edits i (map (under first) ones) before)
        ∙ ap (λ d. added_after (added_after (edits ++ one ∷ []) d) (renaming all last threes)) two_is
        ∙ ap (λ ds. added_after ds (renaming all last threes)) (added-last (edits ++ one ∷ []) (i + second_at) (map (under second) twos) before_two)
        ∙ ap (added_after ((edits ++ one ∷ []) ++ two ∷ [])) three_is
        ∙ added-last ((edits ++ one ∷ []) ++ two ∷ []) (i + third_at) (map (under third) threes) before_three
        ∙ append_assoc (edits ++ one ∷ []) (two ∷ []) (three ∷ []) ∙ append_assoc edits (one ∷ []) (two ∷ three ∷ [])
        ∙ ap (λ l. edits ++ l) (sym (heading-edits i))

  -- the marks before the edits
  pub heading-before : before_edits heading ≡ heading_marks
  heading-before =
      let rest = map as_it_is behind ++ under_names third threes ∷ [] in
      ap (λ l. (first, None) ∷ l)
      (map-append mark_before (map as_it_is inside) (under_names second twos ∷ rest)
      ∙ ap (λ l. l ++ before_edits (under_names second twos ∷ rest)) (kept-before inside)
      ∙ ap (λ l. inside ++ (second, None) ∷ l) (map-append mark_before (map as_it_is behind) (under_names third threes ∷ []) ∙ ap (λ l. l ++ (third, None) ∷ []) (kept-before behind)))
