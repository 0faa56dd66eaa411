-- ATX headings in parts: the marks of a heading by its white space, its number signs and its text, and what comes behind the text.
use Rattle.mdblock_leaf_blocks.proofs.Prelude.{◌≡◌, ℕ, suc, ◌+◌, ◌-◌, ◌≤◌, ◌&&◌, List, [], ◌∷◌, ◌++◌, Bool, true, false, cond, length, reverse, refl, sym, ap, ◌∙◌, subst, arith, append_assoc, length-append, take, drop, drop-append-add, drop-append_seam, take-append_seam, and_from, and_parts, eqb-true, drop-drop, reverse-append, reverse-reverse, take-append-drop, length-map, list_all-append, AllByRecursion, drop-map, list_all, prefix_len, Seat, is_white, bytes_of, Mark, alone, chunk_span, heading_marks, leaf_marks, sequence_marks, span_marks, white, heading_text, indent, is_blank_line, run, trimmed, unindented}
use Rattle.markdown_base.specs.declared.event.Content.TheVariants as content
use Rattle.markdown_base.specs.declared.event.Name.{Name}
use Rattle.markdown_base.specs.declared.event.Name.TheVariants as name
use Rattle.mdblock_leaf_blocks.proofs.Lines.{Fails, IsWhite, all-back, all-white, back, back-fails, bytes-behind, drop-bytes, front, front-all, front-back, prefix-front, prefix-parts}
use Rattle.mdblock_leaf_blocks.proofs.Looks.HeadingTexts.{is_sign}

abbrev pub IsSign : Seat → Type 0
IsSign s = is_sign s.byte ≡ true

-- ---- what is behind the text of a heading
module _ (test : ℕ → Bool) where
  prefix-passes : (t : List ℕ) → list_all test (take (prefix_len test t) t) ≡ true
  prefix-passes [] = refl
  prefix-passes (b ∷ bs) =
      let e : 1 + prefix_len test bs ≡ suc (prefix_len test bs) = omega arith in
      ap (λ n. list_all test (take (cond (test b) n 0) (b ∷ bs))) e
      ∙ (elim (test b) as (λ c. test b ≡ c → list_all test (take (cond c (suc (prefix_len test bs)) 0) (b ∷ bs)) ≡ true) [
        | true ↦ λ e. and_from (test b) _ e (prefix-passes bs)
        | false ↦ λ e. refl
      ] refl)

  reverse-passes : (t : List ℕ) → list_all test t ≡ true → list_all test (reverse t) ≡ true
  reverse-passes [] h = refl
  reverse-passes (b ∷ bs) h =
      let (one, more) = and_parts (test b) (list_all test bs) h in
      ap (list_all test) (reverse-append (b ∷ []) bs) ∙ list_all-append test (reverse bs) (b ∷ [])
      ∙ and_from (list_all test (reverse bs)) (test b && true) (reverse-passes bs more) (and_from (test b) true one refl)

  -- bytes at the end that pass the test
  record Trims (t : List ℕ) : Type 0 where
    end : List ℕ
    is : t ≡ trimmed test t ++ end
    passes : list_all test end ≡ true

  trims : (t : List ℕ) → Trims t
  trims t =
      let r = reverse t in
      let n = prefix_len test r in
      record {
        end = reverse (take n r);
        is = sym (sym (reverse-append (take n r) (drop n r)) ∙ ap reverse (take-append-drop n r) ∙ reverse-reverse t);
        passes = reverse-passes (take n r) (prefix-passes r);
      }

-- white space, number signs and white space
record Closes (t text : List ℕ) : Type 0 where
  before : List ℕ
  signs : List ℕ
  behind : List ℕ
  is : t ≡ text ++ (before ++ (signs ++ behind))
  before_white : list_all is_white before ≡ true
  are_signs : list_all is_sign signs ≡ true
  behind_white : list_all is_white behind ≡ true

closes : (t : List ℕ) → Closes t (heading_text t)
closes t =
    let last = trims is_white t in
    let all = trimmed is_white t in
    let signs = trims is_sign all in
    let shorter = trimmed is_sign all in
    let first = trims is_white shorter in
    elim (is_blank_line (take 1 (reverse shorter))) as (λ w. Closes t (cond w (trimmed is_white shorter) all)) [
      | true ↦ record {
        before = first.end;
        signs = signs.end;
        behind = last.end;
        is =
            last.is ∙ ap (λ l. l ++ last.end) (signs.is ∙ ap (λ l. l ++ signs.end) first.is)
            ∙ append_assoc (trimmed is_white shorter ++ first.end) signs.end last.end ∙ append_assoc (trimmed is_white shorter) first.end (signs.end ++ last.end);
        before_white = first.passes;
        are_signs = signs.passes;
        behind_white = last.passes;
      }
      | false ↦ record { before = []; signs = []; behind = last.end; is = last.is; before_white = refl; are_signs = refl; behind_white = last.passes }
    ]

-- behind number signs
white-behind-signs : (signs behind : List ℕ) (l : List Seat) → bytes_of l ≡ signs ++ behind → list_all is_sign signs ≡ true → list_all is_white behind ≡ true → AllByRecursion IsWhite (back is_sign l)
white-behind-signs [] behind l is h k = all-back is_sign IsWhite l (all-white l (ap is_blank_line is ∙ k))
white-behind-signs (b ∷ bs) behind [] is h k = tt
white-behind-signs (b ∷ bs) behind (s ∷ ss) is h k =
    let first : s.byte ≡ b = cc in
    let more : bytes_of ss ≡ bs ++ behind = cc in
    let (one, others) = and_parts (is_sign b) (list_all is_sign bs) h in
    subst (λ c. AllByRecursion IsWhite (cond c (back is_sign ss) (s ∷ ss))) (sym (ap is_sign first ∙ one)) (white-behind-signs bs behind ss more others k)

white-behind : (before signs behind : List ℕ) (l : List Seat) → bytes_of l ≡ before ++ (signs ++ behind) → list_all is_white before ≡ true → list_all is_sign signs ≡ true → list_all is_white behind ≡ true
    → AllByRecursion IsWhite (back is_sign (back is_white l))
white-behind before signs behind [] is h i k = tt
white-behind [] [] behind (s ∷ ss) is h i k =
    let all = all-white (s ∷ ss) (ap is_blank_line is ∙ k) in all-back is_sign IsWhite (back is_white (s ∷ ss)) (all-back is_white IsWhite (s ∷ ss) all)
white-behind [] (b ∷ bs) behind (s ∷ ss) is h i k =
    let first : s.byte ≡ b = cc in
    let sign : s.byte ≡ 35 = eqb-true s.byte 35 (ap is_sign first ∙ (and_parts (is_sign b) (list_all is_sign bs) i).0) in
    subst (λ c. AllByRecursion IsWhite (back is_sign (cond c (back is_white ss) (s ∷ ss)))) (sym (ap is_white sign)) (white-behind-signs (b ∷ bs) behind (s ∷ ss) is i k)
white-behind (b ∷ bs) signs behind (s ∷ ss) is h i k =
    let first : s.byte ≡ b = cc in
    let more : bytes_of ss ≡ bs ++ (signs ++ behind) = cc in
    let (one, others) = and_parts (is_white b) (list_all is_white bs) h in
    subst (λ c. AllByRecursion IsWhite (back is_sign (cond c (back is_white ss) (s ∷ ss)))) (sym (ap is_white first ∙ one)) (white-behind bs signs behind ss more others i k)

-- The text of a heading, and behind it white space, number signs and white space
pub record TextIs (l : List Seat) : Type 0 where
  pub short : length (heading_text (bytes_of l)) ≤ length l
  pub closing : AllByRecursion IsWhite (back is_sign (back is_white (drop (length (heading_text (bytes_of l))) l)))

pub text-is : (l : List Seat) → TextIs l
text-is l =
    let t = bytes_of l in
    let text = heading_text t in
    let h = closes t in
    let n : length t ≡ length text + length (h.before ++ (h.signs ++ h.behind)) = ap length h.is ∙ length-append text (h.before ++ (h.signs ++ h.behind)) in
    let same : length t ≡ length l = length-map l (λ (s : Seat). s.byte) in
    record {
      short = omega (arith, n, same);
      closing =
          white-behind h.before h.signs h.behind (drop (length text) l)
          (sym (drop-map (λ (s : Seat). s.byte) (length text) l) ∙ ap (drop (length text)) h.is ∙ drop-append_seam text (h.before ++ (h.signs ++ h.behind))) h.before_white h.are_signs h.behind_white;
    }

-- ---- marks
module _ (bytes : List ℕ) where
  pub sequence-parts : (n : Name) (a b c : List Seat) → AllByRecursion IsWhite a → Fails is_white (b ++ c) → sequence_marks bytes n (length b) (a ++ (b ++ c)) ≡ white bytes a ++ (leaf_marks bytes n b ++ white bytes c)
  sequence-parts n a b c all fails =
      let l = a ++ (b ++ c) in
      let m = length b in
      ap (λ i. white bytes (take i l) ++ (leaf_marks bytes n (take m (drop i l)) ++ white bytes (drop (i + m) l))) (prefix-parts is_white a (b ++ c) all fails)
      ∙ ap (λ x. white bytes x ++ (leaf_marks bytes n (take m (drop (length a) l)) ++ white bytes (drop (length a + m) l))) (take-append_seam a (b ++ c))
      ∙ ap (λ x. white bytes a ++ (leaf_marks bytes n x ++ white bytes (drop (length a + m) l))) (ap (take m) (drop-append_seam a (b ++ c)) ∙ take-append_seam b c)
      ∙ ap (λ x. white bytes a ++ (leaf_marks bytes n b ++ white bytes x)) (drop-append-add a (b ++ c) m ∙ drop-append_seam b c)

  -- a sequence by its bytes in front
  pub sequence-fronts : (n : Name) (test : ℕ → Bool) (l : List Seat) → sequence_marks bytes n (prefix_len test (unindented (bytes_of l))) l
      ≡ white bytes (front is_white l) ++ (leaf_marks bytes n (front test (back is_white l)) ++ white bytes (back test (back is_white l)))
  sequence-fronts n test l =
      let a = front is_white l in
      let r = back is_white l in
      let b = front test r in
      let c = back test r in
      let whole : l ≡ a ++ (b ++ c) = sym (front-back is_white l) ∙ ap (λ x. a ++ x) (sym (front-back test r)) in
      ap (λ i. sequence_marks bytes n i l) (ap (prefix_len test) (drop-bytes is_white l) ∙ prefix-front test r)
      ∙ ap (sequence_marks bytes n (length b)) whole
      ∙ sequence-parts n a b c (front-all is_white l) (subst (Fails is_white) (sym (front-back test r)) (back-fails is_white l))

  -- the text, and what is behind it
  abbrev pub text_span : List Seat → List Mark
  text_span l = span_marks bytes name.HeadingAtxText l (chunk_span bytes (alone content.Text) name.Data l [])

  abbrev pub signs_behind : List Seat → List Mark
  signs_behind l = sequence_marks bytes name.HeadingAtxSequence (run 35 (unindented (bytes_of l))) l

  pub heading-parts : (a b c x : List Seat) → AllByRecursion IsWhite a → AllByRecursion IsSign b → Fails is_white (b ++ (c ++ x)) → Fails is_white (b ++ c) → AllByRecursion IsWhite c → Fails is_sign (c ++ x) → Fails is_white x
      → let n = length (heading_text (bytes_of x)) in
      heading_marks bytes (a ++ (b ++ (c ++ x))) ≡ (white bytes a ++ (leaf_marks bytes name.HeadingAtxSequence b ++ white bytes c)) ++ (text_span (take n x) ++ signs_behind (drop n x))
  heading-parts a b c x a_white b_signs first first' c_white second third =
      let l = a ++ (b ++ (c ++ x)) in
      let t = bytes_of l in
      let N = λ (i : ℕ). length (heading_text (drop i t)) in
      let G = λ (r i n : ℕ). sequence_marks bytes name.HeadingAtxSequence r (take i l)
      ++ (text_span (take ((i + n) - i) (drop i l)) ++ sequence_marks bytes name.HeadingAtxSequence (run 35 (unindented (drop (i + n) t))) (drop (i + n) l)) in
      let columns : indent t ≡ length a = prefix-parts is_white a (b ++ (c ++ x)) a_white first in
      let behind_a : drop (length a) t ≡ bytes_of (b ++ (c ++ x)) = bytes-behind a (b ++ (c ++ x)) in
      let size : run 35 (unindented t) ≡ length b = ap (λ i. run 35 (drop i t)) columns ∙ ap (run 35) behind_a ∙ prefix-parts is_sign b (c ++ x) b_signs second in
      let signs : indent t + run 35 (unindented t) ≡ length a + length b = ap (λ i. i + run 35 (unindented t)) columns ∙ ap (λ i. length a + i) size in
      let behind_b : drop (length a + length b) t ≡ bytes_of (c ++ x) = sym (drop-drop (length b) (length a) t) ∙ ap (drop (length b)) behind_a ∙ bytes-behind b (c ++ x) in
      let more : indent (drop (indent t + run 35 (unindented t)) t) ≡ length c = ap (λ i. indent (drop i t)) signs ∙ ap indent behind_b ∙ prefix-parts is_white c x c_white third in
      let A = (length a + length b) + length c in
      let start : (indent t + run 35 (unindented t)) + indent (drop (indent t + run 35 (unindented t)) t) ≡ A = ap (λ i. i + indent (drop (indent t + run 35 (unindented t)) t)) signs ∙ ap (λ i. (length a + length b) + i) more in
      let behind_c : drop A t ≡ bytes_of x = sym (drop-drop (length c) (length a + length b) t) ∙ ap (drop (length c)) behind_b ∙ bytes-behind c x in
      let n = length (heading_text (bytes_of x)) in
      let n_is : N A ≡ n = ap (λ u. length (heading_text u)) behind_c in
      let whole : l ≡ (a ++ (b ++ c)) ++ x = ap (λ u. a ++ u) (sym (append_assoc b c x)) ∙ sym (append_assoc a (b ++ c) x) in
      let long : A ≡ length (a ++ (b ++ c)) = let one = length-append a (b ++ c) in let two = length-append b c in omega (arith, one, two) in
      let taken : take A l ≡ a ++ (b ++ c) = ap (take A) whole ∙ ap (λ i. take i ((a ++ (b ++ c)) ++ x)) long ∙ take-append_seam (a ++ (b ++ c)) x in
      let left : drop A l ≡ x = ap (drop A) whole ∙ ap (λ i. drop i ((a ++ (b ++ c)) ++ x)) long ∙ drop-append_seam (a ++ (b ++ c)) x in
      let behind : drop (A + n) l ≡ drop n x = sym (drop-drop n A l) ∙ ap (drop n) left in
      let bytes_are : drop (A + n) t ≡ bytes_of (drop n x) = drop-map (λ (s : Seat). s.byte) (A + n) l ∙ ap bytes_of behind in
      let less : (A + n) - A ≡ n = omega arith in
      let S = name.HeadingAtxSequence in
      let begin = (indent t + run 35 (unindented t)) + indent (drop (indent t + run 35 (unindented t)) t) in
      ap (λ r. G r begin (N begin)) size ∙ ap (λ i. G (length b) i (N i)) start ∙ ap (λ m. G (length b) A m) n_is
      ∙ ap (λ u. sequence_marks bytes S (length b) u ++ (text_span (take ((A + n) - A) (drop A l)) ++ sequence_marks bytes S (run 35 (unindented (drop (A + n) t))) (drop (A + n) l))) taken
      ∙ ap (λ u. u ++ (text_span (take ((A + n) - A) (drop A l)) ++ sequence_marks bytes S (run 35 (unindented (drop (A + n) t))) (drop (A + n) l))) (sequence-parts S a b c a_white first')
      ∙ ap (λ u. (white bytes a ++ (leaf_marks bytes S b ++ white bytes c)) ++ (text_span u ++ sequence_marks bytes S (run 35 (unindented (drop (A + n) t))) (drop (A + n) l))) (ap (λ i. take i (drop A l)) less ∙ ap (take n) left)
      ∙ ap (λ u. (white bytes a ++ (leaf_marks bytes S b ++ white bytes c)) ++ (text_span (take n x) ++ sequence_marks bytes S (run 35 (unindented u)) (drop (A + n) l))) bytes_are
      ∙ ap (λ u. (white bytes a ++ (leaf_marks bytes S b ++ white bytes c)) ++ (text_span (take n x) ++ sequence_marks bytes S (run 35 (unindented (bytes_of (drop n x)))) u)) behind
