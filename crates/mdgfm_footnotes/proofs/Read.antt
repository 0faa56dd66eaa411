-- Each byte of a text is read once for a label.
use Rattle.std.proofs.Common.{◌≡◌, ℕ, zero, suc, ◌+◌, ◌-◌, ◌≤◌, Bool, true, false, cond, List, [], ◌∷◌, length, drop, take, Option, Some, None, refl, sym, ap, subst, ◌∙◌, arith, eqb-true}
use Rattle.std.proofs.lemmas.Bool.{and_parts, false≢true}
use Rattle.std.proofs.lemmas.List.{length-drop}
use Rattle.std.proofs.lemmas.Option.{none-some, same_Some}
use Rattle.std.specs.Char.{is_ascii_punctuation}
use Rattle.std.specs.Prelude.{◌==◌, ◌&&◌, nat_le}
use Rattle.mdblock_leaf_blocks.specs.LineWords.{begins_with, starts_with}
use Rattle.mdgfm_literals.specs.Bytes.{first_passes, is_escape}
use Rattle.mdgfm_literals.specs.Literals.{more_passed}
use Rattle.mdgfm_footnotes.specs.Calls.{call_at, is_in_call, label_size}
use Rattle.mdgfm_footnotes.specs.Laws.{LabelsAreReadOnce, label_read, read_from}

-- ---- where no bracket opens

other-start : (b : ℕ) (bs : List ℕ) → (91 == b) ≡ false → starts_with (91 ∷ 94 ∷ []) (b ∷ bs) ≡ false
other-start b bs h = ap (λ t. t && starts_with (94 ∷ []) bs) h

module _ (defined : (label : List ℕ) → Bool) where
  none-at : (text : List ℕ) → starts_with (91 ∷ 94 ∷ []) text ≡ false → call_at defined text ≡ None
  none-at text h =
      let n = label_size 0 (drop 2 text) in
      ap (λ (o : Option ℕ). elim o as (λ _. Option ℕ) [ None ↦ None | Some m ↦ cond (defined (take m (drop 2 text))) (Some (m + 3)) None ])
      (ap (λ t. cond (t && (nat_le 1 n && begins_with 93 (drop (n + 2) text))) (Some n) None) h)

  -- what is read from a byte on, by the call there
  abbrev by_call : ℕ → List ℕ → Option ℕ → ℕ
  by_call b bs o = label_read (b ∷ bs) + elim o as (λ _. ℕ) [ Some n ↦ read_from defined (n - 1) bs | None ↦ read_from defined (more_passed (b ∷ bs)) bs ]

  read-other : (b : ℕ) (bs : List ℕ) → starts_with (91 ∷ 94 ∷ []) (b ∷ bs) ≡ false → read_from defined 0 (b ∷ bs) ≡ read_from defined (more_passed (b ∷ bs)) bs
  read-other b bs h =
      let z : 0 + read_from defined (more_passed (b ∷ bs)) bs ≡ read_from defined (more_passed (b ∷ bs)) bs = omega arith in
      ap (by_call b bs) (none-at (b ∷ bs) h) ∙ ap (λ t. cond t (label_size 0 (drop 2 (b ∷ bs))) 0 + read_from defined (more_passed (b ∷ bs)) bs) h ∙ z

  read-skip : (skip : ℕ) (text : List ℕ) → read_from defined skip text ≡ read_from defined 0 (drop skip text)
  read-skip zero text = refl
  read-skip (suc skip) [] = refl
  read-skip (suc skip) (b ∷ bs) = read-skip skip bs

  no-open : (b : ℕ) → is_in_call b ≡ true → (91 == b) ≡ false
  no-open b h = by (91 == b) refl
    where
      by : (t : Bool) → (91 == b) ≡ t → t ≡ false
      by false q = refl
      by true q = absurd (false≢true (sym (ap (λ c. is_in_call c) (sym (eqb-true 91 b q))) ∙ h))

  no-escape : (b : ℕ) (bs : List ℕ) → is_escape (b ∷ bs) ≡ true → (91 == b) ≡ false
  no-escape b bs h =
      let slash : b ≡ 92 = eqb-true b 92 (and_parts (b == 92) (first_passes is_ascii_punctuation bs) h).0 in
      ap (λ c. 91 == c) slash

  -- over a label nothing is read
  read-over : (skip : ℕ) (text : List ℕ) → read_from defined skip text ≡ read_from defined 0 (drop (label_size skip text) text)
  read-over skip [] = refl
  read-over (suc skip) (b ∷ bs) = read-over skip bs ∙ ap (λ n. read_from defined 0 (drop n (b ∷ bs))) one
    where
      one : suc (label_size skip bs) ≡ label_size skip bs + 1
      one = omega arith
  read-over zero (b ∷ bs) = by (is_escape (b ∷ bs)) (is_in_call b) refl refl (read-over 1 bs) (read-over 0 bs)
    where
      on : (n m : ℕ) → more_passed (b ∷ bs) ≡ m → (91 == b) ≡ false → read_from defined m bs ≡ read_from defined 0 (drop n bs) → read_from defined 0 (b ∷ bs) ≡ read_from defined 0 (drop (n + 1) (b ∷ bs))
      on n m more other h =
          let one : suc n ≡ n + 1 = omega arith in
          read-other b bs (other-start b bs other) ∙ ap (λ k. read_from defined k bs) more ∙ h ∙ ap (λ k. read_from defined 0 (drop k (b ∷ bs))) one

      by : (t u : Bool) → is_escape (b ∷ bs) ≡ t → is_in_call b ≡ u → read_from defined 1 bs ≡ read_from defined 0 (drop (label_size 1 bs) bs)
          → read_from defined 0 bs ≡ read_from defined 0 (drop (label_size 0 bs) bs)
          → read_from defined 0 (b ∷ bs) ≡ read_from defined 0 (drop (cond t (label_size 1 bs + 1) (cond u (label_size 0 bs + 1) 0)) (b ∷ bs))
      by true u q r h k = on (label_size 1 bs) 1 (ap (λ t. cond t 1 0) q) (no-escape b bs q) h
      by false true q r h k = on (label_size 0 bs) 0 (ap (λ t. cond t 1 0) q) (no-open b r) k
      by false false q r h k = refl

  size-within : (skip : ℕ) (text : List ℕ) → label_size skip text ≤ length text
  size-within skip [] = omega arith
  size-within (suc skip) (b ∷ bs) = let more = size-within skip bs in omega (arith, more)
  size-within zero (b ∷ bs) = by (is_escape (b ∷ bs)) (is_in_call b) (size-within 1 bs) (size-within 0 bs)
    where
      by : (t u : Bool) → label_size 1 bs ≤ length bs → label_size 0 bs ≤ length bs → cond t (label_size 1 bs + 1) (cond u (label_size 0 bs + 1) 0) ≤ suc (length bs)
      by true u h k = omega (arith, h)
      by false true h k = omega (arith, k)
      by false false h k = omega arith

  -- a call is longer than its label
  call-size : (text : List ℕ) (n : ℕ) → call_at defined text ≡ Some n → n ≡ label_size 0 (drop 2 text) + 3
  call-size text n = by (starts_with (91 ∷ 94 ∷ []) text && (nat_le 1 m && begins_with 93 (drop (m + 2) text)))
    where
      m : ℕ
      m = label_size 0 (drop 2 text)

      two : (t : Bool) → cond t (Some (m + 3)) None ≡ Some n → n ≡ m + 3
      two true q = sym (same_Some (m + 3) n q)
      two false q = absurd (none-some n q)

      by : (t : Bool) → (elim (cond t (Some m) None) as (λ (_ : Option ℕ). Option ℕ) [ None ↦ None | Some k ↦ cond (defined (take k (drop 2 text))) (Some (k + 3)) None ]) ≡ Some n → n ≡ m + 3
      by true q = two (defined (take m (drop 2 text))) q
      by false q = absurd (none-some n q)

  -- at what may be a call
  open-most : (most : ℕ) (cs : List ℕ) → length cs ≤ most → ((text : List ℕ) → length text ≤ most → read_from defined 0 text ≤ length text) → read_from defined 0 (91 ∷ 94 ∷ cs) ≤ suc (suc (length cs))
  open-most most cs h inner = by (call_at defined (91 ∷ 94 ∷ cs)) refl
    where
      size : ℕ
      size = label_size 0 cs

      within : size ≤ length cs
      within = size-within 0 cs

      left : (n : ℕ) → read_from defined 0 (drop n cs) ≤ length cs - n
      left n =
          let long = length-drop n cs in
          let more = inner (drop n cs) (omega (arith, h, long)) in
          omega (arith, long, more)

      by : (o : Option ℕ) → call_at defined (91 ∷ 94 ∷ cs) ≡ o → by_call 91 (94 ∷ cs) o ≤ suc (suc (length cs))
      by None q =
          let next : read_from defined 0 (94 ∷ cs) ≡ read_from defined 0 cs = read-other 94 cs refl in
          let over : read_from defined 0 cs ≡ read_from defined 0 (drop size cs) = read-over 0 cs in
          let more = left size in
          let low = within in
          let goal : size + read_from defined 0 (94 ∷ cs) ≤ suc (suc (length cs)) = omega (arith, next, over, more, low) in
          goal
      by (Some n) q =
          let is : n ≡ size + 3 = call-size (91 ∷ 94 ∷ cs) n q in
          let less : n - 1 ≡ suc (size + 1) = omega (arith, is) in
          let over : read_from defined (n - 1) (94 ∷ cs) ≡ read_from defined 0 (drop (size + 1) cs) = ap (λ k. read_from defined k (94 ∷ cs)) less ∙ read-skip (size + 1) cs in
          let more = left (size + 1) in
          let low = within in
          let goal : size + read_from defined (n - 1) (94 ∷ cs) ≤ suc (suc (length cs)) = omega (arith, over, more, low) in
          goal

  front : (b : ℕ) (bs : List ℕ) → starts_with (91 ∷ 94 ∷ []) (b ∷ bs) ≡ true → (cs : List ℕ) × (b ∷ bs ≡ 91 ∷ 94 ∷ cs)
  front b [] h = absurd (false≢true (and_parts (91 == b) false h).1)
  front b (c ∷ cs) h =
      let first = and_parts (91 == b) ((94 == c) && true) h in
      let second = and_parts (94 == c) true first.1 in
      (cs, ap (λ x. x ∷ c ∷ cs) (sym (eqb-true 91 b first.0)) ∙ ap (λ x. 91 ∷ x ∷ cs) (sym (eqb-true 94 c second.0)))

  -- by how many bytes there are at most
  read-most : (most : ℕ) (text : List ℕ) → length text ≤ most → read_from defined 0 text ≤ length text
  read-most most [] h = omega arith
  read-most zero (b ∷ bs) h = absurd (omega (arith, h))
  read-most (suc most) (b ∷ bs) h = by (starts_with (91 ∷ 94 ∷ []) (b ∷ bs)) refl (λ text k. read-most most text k)
    where
      by : (t : Bool) → starts_with (91 ∷ 94 ∷ []) (b ∷ bs) ≡ t → ((text : List ℕ) → length text ≤ most → read_from defined 0 text ≤ length text) → read_from defined 0 (b ∷ bs) ≤ suc (length bs)
      by false q inner =
          let m = more_passed (b ∷ bs) in
          let long = length-drop m bs in
          let more = inner (drop m bs) (omega (arith, h, long)) in
          let is = read-other b bs q ∙ read-skip m bs in
          omega (arith, is, more, long)
      by true q inner =
          let there = front b bs q in
          let size : suc (length bs) ≡ suc (suc (length there.0)) = ap (λ (ts : List ℕ). length ts) there.1 in
          subst (λ (ts : List ℕ). read_from defined 0 ts ≤ length ts) (sym there.1) (open-most most there.0 (omega (arith, h, size)) inner)

pub labels-are-read-once : LabelsAreReadOnce
labels-are-read-once defined text = read-most defined (length text) text (omega arith)
