-- The first line of fenced code is read as its definition says.
use Rattle.mdblock_leaf_blocks.proofs.Prelude.{Bool, List, None, [], ap, append_assoc, arith, cond, drop, false, inl, inr, length, nat_le, not, refl, subst, sym, take, take-add, true, ℕ, ◌++◌, ◌+◌, ◌-◌, ◌==◌, ◌∙◌, ◌∷◌, ◌≡◌, ◌≤◌, and_parts, leb-true, drop-drop, drop-map, AllByRecursion, prefix_len, Seat, Constructs, Enter, EventName, CodeFenced, CodeFencedFence, CodeFencedFenceInfo, CodeFencedFenceSequence, Data, Point, FlowBlankLineAfter, RawFlowAtNonLazyBreak, Configuration, Given, Text, bytes_of, Mark, alone, chunk_span, fence_marks, leaf_marks, sequence_marks, span_marks, white, Fence, indent, is_fence_of, run, unindented, IsInLine, LineEnds, fence, seen_kind, is_white, event}
use Rattle.markdown_base.specs.declared.event.Content.TheVariants as content
use Rattle.mdblock_leaf_blocks.proofs.Blocks.HeadingParts.{sequence-parts}
use Rattle.mdblock_leaf_blocks.proofs.Fenced.Info.{info_marks, meta_marks}
use Rattle.mdblock_leaf_blocks.proofs.Fenced.Opening.{IsInfo, info_from, opening-reads, start_of}
use Rattle.mdblock_leaf_blocks.proofs.Fenced.Steps.{IsMark, IsOfFence, IsRead, all-words, mark-class, of-fence}
use Rattle.mdblock_leaf_blocks.proofs.Lines.{Fails, IsAt, all-back, all-front, back, back-fails, drop-back, drop-bytes, fails-line, fence_of, front, front-all, front-back, has-first, is_dark, length-front, says, take-front}

-- the parts of a fence's line: white space, marks, white space, a word, white space, and the rest
module _ (m : ℕ) where
  abbrev mark : ℕ → Bool
  mark b = b == m

  abbrev pub indented_by : List Seat → List Seat
  indented_by l = front is_white l

  abbrev marks_of : List Seat → List Seat
  marks_of l = front mark (back is_white l)

  abbrev behind_marks : List Seat → List Seat
  behind_marks l = back mark (back is_white l)

  abbrev white_before : List Seat → List Seat
  white_before l = front is_white (behind_marks l)

  abbrev info_at : List Seat → List Seat
  info_at l = back is_white (behind_marks l)

  abbrev word_of : List Seat → List Seat
  word_of l = front is_dark (info_at l)

  abbrev behind_word : List Seat → List Seat
  behind_word l = back is_dark (info_at l)

  abbrev white_behind : List Seat → List Seat
  white_behind l = front is_white (behind_word l)

  abbrev meta_of : List Seat → List Seat
  meta_of l = back is_white (behind_word l)

-- where a run is empty, and its bytes do not begin with what comes before runs, there is nothing
no-word : (l : List Seat) → Fails is_white l → front is_dark l ≡ [] → l ≡ []
no-word [] fails none = refl
no-word (s ∷ ss) fails none = absurd (let e : s ∷ front is_dark ss ≡ [] = sym (ap (λ b. cond (not b) (s ∷ front is_dark ss) []) fails) ∙ none in cc)

no-white : (l : List Seat) → Fails is_dark l → front is_white l ≡ [] → l ≡ []
no-white [] fails none = refl
no-white (s ∷ ss) fails none = elim (is_white s.byte) as (λ b. not b ≡ false → cond b (s ∷ front is_white ss) [] ≡ [] → s ∷ ss ≡ []) [
  | true ↦ λ e h. absurd (cc)
  | false ↦ λ e h. absurd (cc)
] fails none

module _ (test : ℕ → Bool) where
  -- a run from a place on
  pub back-from : (a : ℕ) (l l' : List Seat) → drop a l ≡ l' → drop (a + prefix_len test (drop a (bytes_of l))) l ≡ back test l'
  back-from a l l' h =
      let n = prefix_len test (drop a (bytes_of l)) in
      let same : n ≡ prefix_len test (bytes_of l') = ap (prefix_len test) (drop-map (λ (s : Seat). s.byte) a l ∙ ap bytes_of h) in
      sym (drop-drop n a l) ∙ ap (drop n) h ∙ ap (λ n. drop n l') same ∙ drop-back test l'

  pub front-from : (a : ℕ) (l l' : List Seat) → drop a l ≡ l' → take ((a + prefix_len test (drop a (bytes_of l))) - a) (drop a l) ≡ front test l'
  front-from a l l' h =
      let n = prefix_len test (drop a (bytes_of l)) in
      let same : n ≡ prefix_len test (bytes_of l') = ap (prefix_len test) (drop-map (λ (s : Seat). s.byte) a l ∙ ap bytes_of h) in
      let less : (a + n) - a ≡ n = omega arith in
      ap (λ i. take i (drop a l)) (less ∙ same) ∙ ap (take (prefix_len test (bytes_of l'))) h ∙ take-front test l'

module _ (g : Given) (t : Text) (f : Fence) (of : IsMark f.byte) (l rest : List Seat) (all : IsInLine l) (ends : LineEnds rest) where
  -- the parts behind the marks
  is-info : IsInfo g t f of (white_before f.byte l) (word_of f.byte l) (white_behind f.byte l) (meta_of f.byte l) rest
  is-info =
      let l2 = behind_marks f.byte l in
      let l3 = info_at f.byte l in
      let l4 = behind_word f.byte l in
      let in3 = all-back is_white _ l2 (all-back (mark f.byte) _ (back is_white l) (all-back is_white _ l all)) in
      let in4 = all-back is_dark _ l3 in3 in
      let whole3 : word_of f.byte l ++ (white_behind f.byte l ++ meta_of f.byte l) ≡ l3 = ap (λ x. word_of f.byte l ++ x) (front-back is_white l4) ∙ front-back is_dark l3 in
      record {
        white_before = front-all is_white l2;
        word = all-words (word_of f.byte l) (all-front is_dark _ l3 in3) (front-all is_dark l3);
        white_behind = front-all is_white l4;
        in_line = all-back is_white _ l4 in4;
        ends = ends;
        word_first = subst (λ x. Fails is_white (x ++ rest)) (sym whole3) (fails-line is_white refl l3 rest (back-fails is_white l2) ends);
        words_then = fails-line is_white refl (meta_of f.byte l) rest (back-fails is_white l4) ends;
        no_white = λ e. ap (back is_white) (no-white l4 (back-fails is_dark l3) e);
        no_word = λ e. front-back is_white l4 ∙ ap (back is_dark) (no-word l3 (back-fails is_white l2) e);
      }

  mark-no-white : (q b : List Seat) → AllByRecursion (λ (s : Seat). mark f.byte s.byte ≡ true) q → 1 ≤ length q → Fails is_white (q ++ b)
  mark-no-white [] b h some = absurd (omega (arith, some))
  mark-no-white (s ∷ q) b h some = (mark-class s.byte (of-fence f of s.byte h.0)).1

  -- The sequence of the fence, with the white space on both sides of it
  sequence-of-fence : (size : ℕ) → size ≡ run f.byte (unindented (bytes_of l)) → 1 ≤ size
      → let c = indent (bytes_of l) in
      let start = (c + size) + indent (drop (c + size) (bytes_of l)) in
      (drop (c + size) l ≡ behind_marks f.byte l)
      × (sequence_marks g.bytes CodeFencedFenceSequence size (take start l) ≡ white g.bytes (indented_by f.byte l) ++ (leaf_marks g.bytes CodeFencedFenceSequence (marks_of f.byte l) ++ white g.bytes (white_before f.byte l)))
  sequence-of-fence size is some =
      let c = indent (bytes_of l) in
      let n = indent (drop (c + size) (bytes_of l)) in
      let m = mark f.byte in
      let b = back is_white l in
      let u = indented_by f.byte l in
      let q = marks_of f.byte l in
      let l2 = behind_marks f.byte l in
      let v = white_before f.byte l in
      let size_is : size ≡ prefix_len m (bytes_of b) = is ∙ ap (run f.byte) (drop-bytes is_white l) in
      let signs : drop (c + size) l ≡ l2 = sym (drop-drop size c l) ∙ ap (drop size) (drop-back is_white l) ∙ ap (λ i. drop i b) size_is ∙ drop-back m b in
      let n_is : n ≡ prefix_len is_white (bytes_of l2) = ap indent (drop-map (λ (s : Seat). s.byte) (c + size) l ∙ ap bytes_of signs) in
      let two_parts : take (c + size) l ≡ u ++ q =
      take-add c size l ∙ ap (λ x. x ++ take size (drop c l)) (take-front is_white l) ∙ ap (λ x. u ++ x) (ap (take size) (drop-back is_white l) ∙ ap (λ i. take i b) size_is ∙ take-front m b) in
      let third : take n (drop (c + size) l) ≡ v = ap (take n) signs ∙ ap (λ i. take i l2) n_is ∙ take-front is_white l2 in
      let front_is : take ((c + size) + n) l ≡ u ++ (q ++ v) = take-add (c + size) n l ∙ ap (λ x. x ++ take n (drop (c + size) l)) two_parts ∙ ap (λ x. (u ++ q) ++ x) third ∙ append_assoc u q v in
      let count : length q ≡ size = length-front m b ∙ sym size_is in (
        signs,
        ap (sequence_marks g.bytes CodeFencedFenceSequence size) front_is ∙ ap (λ i. sequence_marks g.bytes CodeFencedFenceSequence i (u ++ (q ++ v))) (sym count)
            ∙ sequence-parts g.bytes CodeFencedFenceSequence u q v (front-all is_white l) (mark-no-white q v (front-all m b) (omega (arith, count, some))),
      )

  abbrev parts_inside : List Mark
  parts_inside =
      white g.bytes (indented_by f.byte l) ++ (leaf_marks g.bytes CodeFencedFenceSequence (marks_of f.byte l) ++ info_from g t f of (white_before f.byte l) (word_of f.byte l) (white_behind f.byte l) (meta_of f.byte l) rest is-info)

  fence-marks-are : (size : ℕ) → size ≡ run f.byte (unindented (bytes_of l)) → 1 ≤ size → fence_marks g.bytes size l ≡ span_marks g.bytes CodeFencedFence l parts_inside
  fence-marks-are size is some =
      let t' = bytes_of l in
      let signs = indent t' + size in
      let start = signs + indent (drop signs t') in
      let word = start + prefix_len is_dark (drop start t') in
      let behind = word + indent (drop word t') in
      let i = word_of f.byte l in
      let w = white_behind f.byte l in
      let m = meta_of f.byte l in
      let u = white g.bytes (indented_by f.byte l) in
      let q = leaf_marks g.bytes CodeFencedFenceSequence (marks_of f.byte l) in
      let v = white g.bytes (white_before f.byte l) in
      let first = sequence-of-fence size is some in
      let start_is = back-from is_white signs l (behind_marks f.byte l) first.0 in
      let word_is = back-from is_dark start l (info_at f.byte l) start_is in
      let of_info = λ (i : List Seat). span_marks g.bytes CodeFencedFenceInfo i (chunk_span g.bytes (alone content.String) Data i []) in
      let inside = λ (x : List Mark) (i w m : List Seat). x ++ (of_info i ++ (white g.bytes w ++ meta_marks g t m)) in
      ap (span_marks g.bytes CodeFencedFence l)
      (ap (λ x. inside x (take (word - start) (drop start l)) (take (behind - word) (drop word l)) (drop behind l)) first.1
      ∙ ap (λ i. inside (u ++ (q ++ v)) i (take (behind - word) (drop word l)) (drop behind l)) (front-from is_dark start l (info_at f.byte l) start_is)
      ∙ ap (λ w. inside (u ++ (q ++ v)) i w (drop behind l)) (front-from is_white word l (behind_word f.byte l) word_is)
      ∙ ap (λ m. inside (u ++ (q ++ v)) i w m) (back-from is_white word l (behind_word f.byte l) word_is)
      ∙ append_assoc u (q ++ v) (info_marks g t i w m) ∙ ap (λ x. u ++ x) (append_assoc q v (info_marks g t i w m)))

-- a line feed is no mark
mark-class-feed : (b : ℕ) → IsMark b → (10 == b) ≡ false
mark-class-feed b (inl e) = ap (λ n. 10 == n) e
mark-class-feed b (inr e) = ap (λ n. 10 == n) e

-- where bytes begin
abbrev pub first_point : Point → List Seat → Point
first_point p [] = p
first_point p (s ∷ ss) = s.point

begins-at : (p : Point) (u : List Seat) (s : Seat) (x : List Seat) → (start_of u s).point ≡ first_point p (u ++ s ∷ x)
begins-at p [] s x = refl
begins-at p (b ∷ u) s x = refl

-- a span begins at a place
abbrev pub into : Given → EventName → Point → List Mark
into g n p = (event g.bytes Enter n p, None) ∷ []

module _ (g : Given) (t : Text) (f : Fence) (of : IsMark f.byte) where
  pub opening-line : (l rest : List Seat) → IsInLine l → LineEnds rest → f.size ≡ run f.byte (unindented (bytes_of l)) → 1 ≤ f.size → (k : Configuration Unit Unit) (p : Point) → k.local.tokenize_state.token_1 ≡ CodeFenced
      → IsOfFence f k.local → IsAt t k p (l ++ rest) → IsRead g t k FlowBlankLineAfter l rest (into g CodeFenced (first_point p l) ++ fence_marks g.bytes f.size l) RawFlowAtNonLazyBreak
  opening-line l rest all ends size some k p kind fenced at =
      let b = back is_white l in
      let u = indented_by f.byte l in
      let v = white_before f.byte l in
      let i = word_of f.byte l in
      let w = white_behind f.byte l in
      let m = meta_of f.byte l in
      let l2 = behind_marks f.byte l in
      let count : length (marks_of f.byte l) ≡ f.size = length-front (mark f.byte) b ∙ sym (size ∙ ap (run f.byte) (drop-bytes is_white l)) in
      let (s, sq, is) = has-first (marks_of f.byte l) (omega (arith, count, some)) in
      let h = is-info g t f of l rest all ends in
      let info_is : v ++ (i ++ (w ++ m)) ≡ l2 = ap (λ x. v ++ x) (ap (λ x. i ++ x) (front-back is_white (behind_word f.byte l)) ∙ front-back is_dark (info_at f.byte l)) ∙ front-back is_white l2 in
      let whole : u ++ (s ∷ (sq ++ (v ++ (i ++ (w ++ m))))) ≡ l = ap (λ q. u ++ (q ++ (v ++ (i ++ (w ++ m))))) (sym is) ∙ ap (λ x. u ++ (marks_of f.byte l ++ x)) info_is ∙ ap (λ x. u ++ x) (front-back (mark f.byte) b) ∙ front-back is_white l in
      let inside = λ (q : List Seat). white g.bytes u ++ (leaf_marks g.bytes CodeFencedFenceSequence q ++ info_from g t f of v i w m rest h) in
      let marks = λ (q : Point) (l : List Seat) (inside : List Mark). into g CodeFenced q ++ span_marks g.bytes CodeFencedFence l inside in
      subst (λ ms. IsRead g t k FlowBlankLineAfter l rest ms RawFlowAtNonLazyBreak)
      (ap (λ q. marks q l (inside (s ∷ sq))) (begins-at p u s (sq ++ (v ++ (i ++ (w ++ m)))) ∙ ap (first_point p) whole) ∙ ap (λ q. marks (first_point p l) l (inside q)) (sym is)
      ∙ ap (λ ms. into g CodeFenced (first_point p l) ++ ms) (sym (fence-marks-are g t f of l rest all ends f.size size some)))
      (subst (λ l. IsAt t k p (l ++ rest) → IsRead g t k FlowBlankLineAfter l rest (marks (start_of u s).point l (inside (s ∷ sq))) RawFlowAtNonLazyBreak) whole
      (λ at. opening-reads g t f of v i w m rest h u s sq (front-all is_white l) (subst (AllByRecursion (λ (s : Seat). mark f.byte s.byte ≡ true)) is (front-all (mark f.byte) b))
      (subst (λ x. Fails (mark f.byte) (x ++ rest)) (sym info_is) (fails-line (mark f.byte) (mark-class-feed f.byte of) l2 rest (back-fails (mark f.byte) b) ends)) k p kind fenced at) at)

-- ---- what the kind of a line says of its fence
pub record IsFence (f : Fence) (t : List ℕ) : Type 0 where
  pub mark : IsMark f.byte
  pub size : f.size ≡ run f.byte (unindented t)
  pub three : 3 ≤ f.size
  pub indent_is : f.indent ≡ indent t

-- a fence of a byte
of-byte : (b : ℕ) (f : Fence) (t : List ℕ) → IsMark b → is_fence_of b (unindented t) ≡ true → f ≡ fence_of b (indent t) (unindented t) → IsFence f t
of-byte b f t mark is same =
    let three = (and_parts (nat_le 3 (run b (unindented t))) _ is).0 in
    subst (λ f. IsFence f t) (sym same) (record { mark = mark; size = refl; three = leb-true 3 (run b (unindented t)) three; indent_is = refl })

pub kind-is-fence : (on : Constructs) (t : List ℕ) (f : Fence) → seen_kind on t ≡ fence f → IsFence f t
kind-is-fence on t f h = elim (says on t h).1 [
  | inl e ↦ of-byte 96 f t (inl refl) e.1 e.0
  | inr e ↦ of-byte 126 f t (inr refl) e.1 e.0
]
