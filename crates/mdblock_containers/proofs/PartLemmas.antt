-- Lemmas on the containers in which a line stands.
use Rattle.std.proofs.Common.{◌≡◌, ◌⊎◌, inl, inr, ℕ, zero, suc, ◌+◌, ◌-◌, ◌<◌, ◌≤◌, min, Bool, true, false, cond, List, [], ◌∷◌, length, take, map, get_or, length-take, refl, sym, ap, ◌∙◌, arith}
use Rattle.std.specs.Prelude.{◌&&◌, max, nat_le, nat_lt, reverse}
use Rattle.std.proofs.Math.ListN.{get_or-map}
use Rattle.std.proofs.lemmas.Bool.{cases_lt, false≢true}
use Rattle.std.proofs.lemmas.Bool.Decides.{nat_tests}
use Rattle.std.proofs.lemmas.List.{get_or_default, get_or-take, length-map, length-reverse, length-take-le, map-append, reverse-append, reverse-reverse, take-map, take_all, take_more}
use Rattle.mdblock_lines.specs.Containers.{Container, footnote, quote, item}
use Rattle.mdblock_containers.specs.declared.going.Open.{Open}
use Rattle.mdblock_containers.specs.Over.{AreEarlier, is_earlier}
use Rattle.mdblock_containers.specs.Parts.{stands_in}
use Rattle.mdblock_containers.specs.Skeleton.{left_in}
use Rattle.mdblock_containers.specs.Views.{open_of}

-- open containers that began before
pub earlier_at : (stack : List Open) (number k : ℕ) (d : Open) → is_earlier number (get_or (map open_of stack) k (open_of d)) ≡ is_earlier number (open_of (get_or stack k d))
earlier_at stack number k d = ap (is_earlier number) (get_or-map open_of stack k d)

-- one item more
pub passed_more : (stack : List Open) (number n : ℕ) (d : Open) → 0 < n → n ≤ length stack → is_earlier number (open_of (get_or stack (n - 1) d)) ≡ true
    → AreEarlier number n (length stack) (map open_of stack) → AreEarlier number (n - 1) (length stack) (map open_of stack)
passed_more stack number n d some h e are k f a b = by (cases_lt k n)
  where
    by : (k < n) ⊎ (n ≤ k) → is_earlier number (get_or (map open_of stack) k f) ≡ true
    by (inr more) = are k f more b
    by (inl less) =
        let same : k ≡ n - 1 = omega (arith, a, less) in
        let size : k < length (map open_of stack) = omega (arith, b, length-map stack open_of) in
        ap (is_earlier number) (get_or_default (map open_of stack) k f (open_of d) size ∙ ap (λ j. get_or (map open_of stack) j (open_of d)) same) ∙ earlier_at stack number (n - 1) d ∙ e

module _ (stack : List Open) (many number : ℕ) (d : Open) where
  -- the first of the open containers, from the innermost on
  abbrev pub inner : ℕ → List Container
  inner n = reverse (map open_of (take n stack))

  pub inner_size : (n : ℕ) → n ≤ length stack → length (inner n) ≡ n
  inner_size n h = length-reverse (map open_of (take n stack)) ∙ length-map (take n stack) open_of ∙ length-take-le n stack h

  pub inner_more : (n : ℕ) → n < length stack → inner (n + 1) ≡ open_of (get_or stack n d) ∷ inner n
  inner_more n h = ap (λ (l : List Open). reverse (map open_of l)) (take_more stack n d h) ∙ ap reverse (map-append open_of (take n stack) (get_or stack n d ∷ [])) ∙ reverse-append (map open_of (take n stack)) (open_of (get_or stack n d) ∷ [])

  pub goes : (n : ℕ) → n < length stack → many ≤ n → is_earlier number (open_of (get_or stack n d)) ≡ true → left_in many number (inner (n + 1)) ≡ left_in many number (inner n)
  goes n h m e = ap (left_in many number) (inner_more n h) ∙ by (open_of (get_or stack n d)) e
    where
      le : nat_le many (length (inner n)) ≡ true
      le = let s : length (inner n) ≡ n = inner_size n (omega arith) in grind (arith, nat_tests)

      by : (c : Container) → is_earlier number c ≡ true → left_in many number (c ∷ inner n) ≡ left_in many number (inner n)
      by (quote q) e = absurd (false≢true e)
      by (item i) e = λ k. cond (le k && e k) (left_in many number (inner n)) (item i ∷ inner n)
      by (footnote f) e = λ k. cond (le k && e k) (left_in many number (inner n)) (footnote f ∷ inner n)

  pub stands_step : (n : ℕ) → many < n → n ≤ length stack → is_earlier number (open_of (get_or stack (n - 1) d)) ≡ true
      → left_in many number (reverse (map open_of (take n stack))) ≡ left_in many number (reverse (map open_of (take (n - 1) stack)))
  stands_step n m h e =
      let same : n ≡ (n - 1) + 1 = omega arith in
      ap (λ k. left_in many number (inner k)) same ∙ goes (n - 1) (omega arith) (omega arith) e

  -- all of some end
  pub skips : (j n : ℕ) → n + j ≤ length stack → many ≤ n → AreEarlier number n (length stack) (map open_of stack) → left_in many number (inner (n + j)) ≡ left_in many number (inner n)
  skips zero n h m are = let same : n + 0 ≡ n = omega arith in ap (λ k. left_in many number (inner k)) same
  skips (suc j) n h m are =
      let next : n + suc j ≡ (n + j) + 1 = omega arith in
      let here : n + j < length stack = omega arith in
      ap (λ k. left_in many number (inner k)) next ∙ goes (n + j) here (omega arith) (sym (earlier_at stack number (n + j) d) ∙ are (n + j) (open_of d) (omega arith) here) ∙ skips j n (omega arith) m are

  pub first_asked_is : (n passed : ℕ) → n ≡ min (length stack) (max passed many) → AreEarlier number passed (length stack) (map open_of stack)
      → (left_in many number (reverse (map open_of stack)) ≡ left_in many number (reverse (map open_of (take n stack)))) × AreEarlier number n (length stack) (map open_of stack)
  first_asked_is n passed e are = by (cases_lt n (length stack))
    where
      by : (n < length stack) ⊎ (length stack ≤ n) → (left_in many number (reverse (map open_of stack)) ≡ left_in many number (reverse (map open_of (take n stack)))) × AreEarlier number n (length stack) (map open_of stack)
      by (inr all) = (ap (λ (l : List Open). left_in many number (reverse (map open_of l))) (sym (take_all n stack all)), λ k f a b. absurd (omega (arith, all, a, b)))
      by (inl less) =
          let from : passed ≤ n = omega (arith, e, less) in
          let le : many ≤ n = omega (arith, e, less) in
          let rest : n + (length stack - n) ≡ length stack = omega (arith, less) in
          let later = λ (k : ℕ) (f : Container) (a : n ≤ k) (b : k < length stack). are k f (omega (arith, a, from)) b in (
            ap (λ (l : List Open). left_in many number (reverse (map open_of l))) (sym (take_all (length stack) stack (omega arith)) ∙ ap (λ k. take k stack) (sym rest)) ∙ skips (length stack - n) n (omega arith) le later,
            later,
          )

  -- where no more ends
  pub stops : (n : ℕ) → n < length stack → (many ≤ n → is_earlier number (open_of (get_or stack n d)) ≡ false) → left_in many number (inner (n + 1)) ≡ inner (n + 1)
  stops n h e = ap (left_in many number) (inner_more n h) ∙ by (open_of (get_or stack n d)) e ∙ sym (inner_more n h)
    where
      size : length (inner n) ≡ n
      size = inner_size n (omega arith)

      last : (c : Container) (a b : Bool) → (a && b) ≡ false → cond (a && b) (left_in many number (inner n)) (c ∷ inner n) ≡ c ∷ inner n
      last c a b q = ap (λ v. cond v (left_in many number (inner n)) (c ∷ inner n)) q

      both : (b : Bool) → (many ≤ n → b ≡ false) → (a : Bool) → nat_le many (length (inner n)) ≡ a → (a && b) ≡ false
      both b q true r = q (let s = size in grind (arith, nat_tests))
      both b q false r = refl

      by : (c : Container) → (many ≤ n → is_earlier number c ≡ false) → left_in many number (c ∷ inner n) ≡ c ∷ inner n
      by (quote q) h = refl
      by (item i) h = last (item i) (nat_le many (length (inner n))) (nat_lt i.line number) (both (nat_lt i.line number) h (nat_le many (length (inner n))) refl)
      by (footnote f) h = last (footnote f) (nat_le many (length (inner n))) (nat_lt f.line number) (both (nat_lt f.line number) h (nat_le many (length (inner n))) refl)

  pub stands_end : (is_blank : Bool) (n : ℕ) → is_blank ≡ true → n ≤ length stack → (many < n → is_earlier number (open_of (get_or stack (n - 1) d)) ≡ false)
      → left_in many number (reverse (map open_of stack)) ≡ left_in many number (reverse (map open_of (take n stack))) → take n (map open_of stack) ≡ stands_in is_blank many number (map open_of stack)
  stands_end is_blank zero b h e same =
      ap reverse (sym same) ∙ (λ k. cond (sym b k) (reverse (left_in many number (reverse (map open_of stack)))) (map open_of stack))
  stands_end is_blank (suc n) b h e same =
      let next : suc n ≡ n + 1 = omega arith in
      let back : suc n - 1 ≡ n = omega arith in
      let all : left_in many number (reverse (map open_of (take (suc n) stack))) ≡ reverse (map open_of (take (suc n) stack)) =
      ap (λ k. left_in many number (inner k)) next ∙ stops n (omega arith) (λ m. (λ k. is_earlier number (open_of (get_or stack (sym back k) d))) ∙ e (omega arith)) ∙ ap inner (sym next) in
      take-map open_of (suc n) stack ∙ sym (reverse-reverse (map open_of (take (suc n) stack))) ∙ ap reverse (sym (same ∙ all)) ∙ (λ k. cond (sym b k) (reverse (left_in many number (reverse (map open_of stack)))) (map open_of stack))

-- ---- what is known of items that began before

-- later lines
pub later_one : (number n : ℕ) (c : Container) → number ≤ n → is_earlier number c ≡ true → is_earlier n c ≡ true
later_one number n (quote q) h e = absurd (false≢true e)
later_one number n (item i) h e = grind (arith, nat_tests)
later_one number n (footnote f) h e = grind (arith, nat_tests)

pub earlier_later : (number n from to : ℕ) (stack : List Container) → number ≤ n → AreEarlier number from to stack → AreEarlier n from to stack
earlier_later number n from to stack h are k d a b = later_one number n (get_or stack k d) h (are k d a b)

-- the containers of the next line
pub passed_own : (number from to m all seen : ℕ) (old own : List Container) (b : Bool) → AreEarlier number from to old → (b ≡ true → own ≡ take m old) → length own ≤ all → seen ≡ cond (b && nat_le all to) from all
    → AreEarlier number seen (length own) own
passed_own number from to m all seen old own b are is few e = by b (nat_le all to) is refl e
  where
    by : (x y : Bool) → (x ≡ true → own ≡ take m old) → nat_le all to ≡ y → seen ≡ cond (x && y) from all → AreEarlier number seen (length own) own
    by true true h q s k d a w =
        let same = h refl in
        let size : length own ≡ min m (length old) = ap (λ (l : List Container). length l) same ∙ length-take m old in
        let le : all ≤ to = grind (arith, nat_tests) in
        ap (λ (l : List Container). is_earlier number (get_or l k d)) same ∙ ap (is_earlier number) (get_or-take m old k d (omega (arith, size, w))) ∙ are k d (omega (arith, s, a)) (omega (arith, le, few, w))
    by true false h q s k d a w = absurd (omega (arith, s, a, few, w))
    by false y h q s k d a w = absurd (omega (arith, s, a, few, w))

pub passed_next : (number stands all from to : ℕ) (own now : List Container) (a b : Bool) → own ≡ take all now → all ≤ length now → from ≡ cond (a && b) stands 0 → to ≡ cond (a && b) all 0 → (a ≡ true → AreEarlier number stands (length own) own)
    → AreEarlier number from to now
passed_next number stands all from to own now a b is few ef et h = by a b h ef et
  where
    by : (x y : Bool) → (x ≡ true → AreEarlier number stands (length own) own) → from ≡ cond (x && y) stands 0 → to ≡ cond (x && y) all 0 → AreEarlier number from to now
    by true true g p q k d f t =
        let size : length own ≡ min all (length now) = ap (λ (l : List Container). length l) is ∙ length-take all now in
        ap (is_earlier number) (sym (ap (λ (l : List Container). get_or l k d) is ∙ get_or-take all now k d (omega (arith, q, t)))) ∙ g refl k d (omega (arith, p, f)) (omega (arith, size, few, q, t))
    by true false g p q k d f t = absurd (omega (arith, q, t))
    by false y g p q k d f t = absurd (omega (arith, q, t))
