-- The lines of definitions, with which a paragraph begins: their text has the same definitions as that of the paragraph.
use Rattle.std.proofs.Common.{◌≡◌, ◌⊎◌, inl, inr, ℕ, suc, ◌+◌, ◌<◌, ◌≤◌, Bool, true, false, cond, List, [], ◌∷◌, ◌++◌, append-nil, arith, filter, length, length-append, refl, sym, ap, take, ◌∙◌}
use Rattle.std.specs.Prelude.{◌==◌}
use Rattle.std.specs.List.{prefix_len}
use Rattle.std.proofs.lemmas.List.Elements.{filter-append}
use Rattle.std.proofs.lemmas.List.{take_all}
use Rattle.markdown_base.specs.declared.configuration.Constructs.{Constructs}
use Rattle.mdblock_containers.specs.Rows.{Row, is_paragraph, rest_of}
use Rattle.mdblock_containers.proofs.DocumentRows.{take_of_take}
use Rattle.mdblock_leaf_blocks.specs.LeafBlocks.{text_of}
use Rattle.mdinline_labels.specs.Definitions.{definitions, rest}
use Rattle.mdblock_definitions.specs.Sections.{defined_in, lines_defined, lines_of, paragraph_of, text_in}
use Rattle.mdblock_definitions.proofs.SectionLemmas.{few-lines, no-ten, ten-back, tens, tens-in}
use Rattle.mdblock_definitions.proofs.Shorter.{definitions-shorter, left-begins}

pub tens-both : (xs ys : List ℕ) → tens (xs ++ ys) ≡ tens xs + tens ys
tens-both xs ys = ap (λ (l : List ℕ). length l) (filter-append (λ c. c == 10) xs ys) ∙ length-append (filter (λ c. c == 10) xs) (filter (λ c. c == 10) ys)

pub tens-rest : (r : Row) → tens (rest_of r) ≡ 0
tens-rest r = ap (λ (l : List ℕ). length l) (ten-back r.columns (text_of r.line) (no-ten r.line))

-- two ways to cut a text before a line ending: the first front has none
pub record Later (u v x w : List ℕ) : Type 0 where
  pub more : List ℕ
  pub front : x ≡ u ++ 10 ∷ more
  pub back : v ≡ more ++ 10 ∷ w

pub heads : (a b : ℕ) (xs ys : List ℕ) → a ∷ xs ≡ b ∷ ys → (a ≡ b) × (xs ≡ ys)
heads a b xs ys e = (cc, cc)

pub two-cuts : (u v x w : List ℕ) → tens u ≡ 0 → u ++ 10 ∷ v ≡ x ++ 10 ∷ w → ((x ≡ u) × (w ≡ v)) ⊎ Later u v x w
two-cuts [] v [] w none e = inl (refl, sym (heads 10 10 v w e).1)
two-cuts [] v (b ∷ x) w none e = let h = heads 10 b v (x ++ 10 ∷ w) e in inr (record { more = x; front = ap (λ c. c ∷ x) (sym h.0); back = h.1 })
two-cuts (a ∷ u) v [] w none e = let h = heads a 10 (u ++ 10 ∷ v) w e in absurd (omega (arith, none, ap (λ c. tens (c ∷ u)) (sym h.0)))
two-cuts (a ∷ u) v (b ∷ x) w none e =
    let h = heads a b (u ++ 10 ∷ v) (x ++ 10 ∷ w) e in
    elim (two-cuts u v x w (by (a == 10) none) h.1) [
      | inl same ↦ inl ((λ k. sym h.0 k ∷ same.0 k), same.1)
      | inr later ↦ inr (record { more = later.more; front = λ k. sym h.0 k ∷ later.front k; back = later.back })
    ]
  where
    by : (p : Bool) → length (cond p (a ∷ filter (λ c. c == 10) u) (filter (λ c. c == 10) u)) ≡ 0 → tens u ≡ 0
    by true k = absurd (omega (arith, k))
    by false k = k

-- a text up to a line ending is that of its first lines
pub front-lines : (rs : List Row) (x w : List ℕ) → text_in rs ≡ x ++ 10 ∷ w → (x ≡ text_in (take (tens x + 1) rs))
front-lines [] x w e = absurd (omega (arith, ap (λ (l : List ℕ). length l) e, length-append x (10 ∷ w)))
front-lines (r ∷ []) x w e = absurd (omega (arith, ap tens e, tens-both x (10 ∷ w), ap tens (append-nil (rest_of r)), tens-rest r))
front-lines (r ∷ q ∷ qs) x w e =
    elim (two-cuts (rest_of r) (text_in (q ∷ qs)) x w (tens-rest r) e) [
      | inl same ↦ let one : tens x + 1 ≡ 1 = omega (arith, ap tens same.0, tens-rest r) in same.0 ∙ sym (append-nil (rest_of r)) ∙ ap (λ n. text_in (take n (r ∷ q ∷ qs))) (sym one)
      | inr later ↦
          let next = front-lines (q ∷ qs) later.more w later.back in
          let on : tens x + 1 ≡ suc (suc (tens later.more)) = omega (arith, ap tens later.front, tens-both (rest_of r) (10 ∷ later.more), tens-rest r) in
          let one : tens later.more + 1 ≡ suc (tens later.more) = omega arith in
          later.front ∙ ap (λ l. rest_of r ++ 10 ∷ l) (next ∙ ap (λ n. text_in (take n (q ∷ qs))) one) ∙ ap (λ n. text_in (take n (r ∷ q ∷ qs))) (sym on)
    ]

pub lines-some : (text : List ℕ) → 0 < length text → lines_of text ≡ suc (tens text)
lines-some [] h = absurd (omega (arith, h))
lines-some (b ∷ bs) h = refl

-- all lines, if nothing is left
pub all-lines : (rs : List Row) → 1 ≤ lines_of (text_in rs) → take (lines_of (text_in rs)) rs ≡ rs
all-lines [] h = absurd (omega (arith, h))
all-lines (r ∷ rs) h = by (text_in (r ∷ rs)) (tens-in r rs) h
  where
    by : (text : List ℕ) → length (filter (λ c. c == 10) text) ≡ length rs → 1 ≤ lines_of text → take (lines_of text) (r ∷ rs) ≡ r ∷ rs
    by [] e k = absurd (omega (arith, k))
    by (b ∷ bs) e k = take_all (lines_of (b ∷ bs)) (r ∷ rs) (omega (arith, e))

-- The definitions of lines are in the first of them
pub lines-defined : (rs : List Row) → 1 ≤ lines_defined (text_in rs) → definitions (text_in (take (lines_defined (text_in rs)) rs)) ≡ definitions (text_in rs)
lines-defined rs h = by (rest (text_in rs)) refl
  where
    by : (w : List ℕ) → rest (text_in rs) ≡ w → definitions (text_in (take (lines_defined (text_in rs)) rs)) ≡ definitions (text_in rs)
    by [] e =
        let all : lines_defined (text_in rs) ≡ lines_of (text_in rs) = omega (arith, ap lines_of e) in
        ap (λ n. definitions (text_in (take n rs))) all ∙ ap (λ l. definitions (text_in l)) (all-lines rs (omega (arith, h, all)))
    by (b ∷ bs) e =
        let text = text_in rs in
        let some : 0 < length (rest text) = omega (arith, ap (λ (l : List ℕ). length l) e) in
        elim (left-begins (length text) text (omega arith) some) [
          | inl own ↦ absurd (omega (arith, h, ap lines_of own))
          | inr left ↦
              let w = rest text in
              let x = left.front in
              let more : 0 < length text = omega (arith, ap (λ (l : List ℕ). length l) left.is, length-append x (10 ∷ w)) in
              let count : lines_defined text ≡ tens x + 1 = omega (arith, lines-some text more, lines-some w some, ap tens left.is, tens-both x (10 ∷ w)) in
              ap (λ n. definitions (text_in (take n rs))) count ∙ ap definitions (sym (front-lines rs x w left.is)) ∙ (definitions-shorter w some (length x) x (omega arith) (ap rest (sym left.is))).0 ∙ ap definitions (sym left.is)
        ]

-- those of a paragraph are in the lines that have them
pub paragraph-defined : (on : Constructs) (rs : List Row) → 1 ≤ defined_in on rs → definitions (text_in (take (defined_in on rs) rs)) ≡ definitions (text_in (paragraph_of rs))
paragraph-defined on rs h = by on.definition refl h
  where
    few : (d : ℕ) → d ≤ length (paragraph_of rs) → take d (paragraph_of rs) ≡ take d rs
    few d k = take_of_take d (prefix_len (λ (r : Row). is_paragraph r.leaf) rs) rs k

    by : (b : Bool) → on.definition ≡ b → 1 ≤ cond b (lines_defined (text_in (paragraph_of rs))) 0 → definitions (text_in (take (cond on.definition (lines_defined (text_in (paragraph_of rs))) 0) rs)) ≡ definitions (text_in (paragraph_of rs))
    by false e k = absurd (omega (arith, k))
    by true e k =
        let n = lines_defined (text_in (paragraph_of rs)) in
        let small : n ≤ length (paragraph_of rs) = omega (arith, few-lines (paragraph_of rs)) in
        ap (λ (b : Bool). definitions (text_in (take (cond b n 0) rs))) e ∙ ap (λ l. definitions (text_in l)) (sym (few n small)) ∙ lines-defined (paragraph_of rs) k
