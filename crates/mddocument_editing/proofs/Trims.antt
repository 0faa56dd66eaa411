-- Lists with parts in the place of some of their elements, without those at either end that are as the elements there.
use Rattle.mddocument_editing.proofs.Prelude.{◌≡◌, ℕ, ◌+◌, ◌-◌, ◌≤◌, ◌<◌, List, [], ◌∷◌, ◌++◌, length, get_or, take, drop, sym, ap, ◌∙◌, subst, arith, append_assoc, drop_more, get_or-drop, get_or-map, get_or-take, length-drop, length-take-le, take-append-drop, take_more, Global, Vec, items_of, bytes_of_sections, AreTrimmed, StayBehind, StayInFront, Section}

-- one more stays in front
pub front-more : {X : Type 0} (xs ps : List X) (from n : ℕ) (d : X) → from + n < length xs → n < length ps → take (from + n) xs ≡ take from xs ++ take n ps → get_or ps n d ≡ get_or xs (from + n) d
    → take (from + (n + 1)) xs ≡ take from xs ++ take (n + 1) ps
front-more xs ps from n d lt few before is =
    let e : from + (n + 1) ≡ from + n + 1 = omega arith in
    ap (λ k. take k xs) e ∙ take_more xs (from + n) d lt ∙ ap (λ ys. ys ++ get_or xs (from + n) d ∷ []) before ∙ append_assoc (take from xs) (take n ps) (get_or xs (from + n) d ∷ [])
    ∙ ap (λ ys. take from xs ++ ys) (ap (λ y. take n ps ++ y ∷ []) (sym is) ∙ sym (take_more ps n d few))

-- one more stays behind
pub behind-more : {X : Type 0} (xs ps : List X) (end n : ℕ) (d : X) → end ≤ length xs → n < end → n < length ps → drop (end - n) xs ≡ drop (length ps - n) ps ++ drop end xs
    → get_or ps (length ps - n - 1) d ≡ get_or xs (end - n - 1) d → drop (end - (n + 1)) xs ≡ drop (length ps - (n + 1)) ps ++ drop end xs
behind-more xs ps end n d within some few before is =
    let at = end - n - 1 in
    let last = length ps - n - 1 in
    let e : end - (n + 1) ≡ at = omega arith in
    let f : length ps - (n + 1) ≡ last = omega arith in
    let g : at + 1 ≡ end - n = omega arith in
    let h : last + 1 ≡ length ps - n = omega arith in
    let lt : at < length xs = omega arith in
    let less : last < length ps = omega arith in
    ap (λ k. drop k xs) e ∙ drop_more xs at d lt ∙ ap (λ k. get_or xs at d ∷ drop k xs) g ∙ ap (λ ys. get_or xs at d ∷ ys) before
    ∙ ap (λ y. y ∷ (drop (length ps - n) ps ++ drop end xs)) (sym is) ∙ ap (λ k. get_or ps last d ∷ (drop k ps ++ drop end xs)) (sym h)
    ∙ ap (λ ys. ys ++ drop end xs) (sym (drop_more ps last d less)) ∙ ap (λ k. drop k ps ++ drop end xs) (sym f)

-- the bytes of a section, and of a part, by its number
pub section-at : (sections : List Section) (i : ℕ) (s : Section) → i < length sections → s ≡ get_or sections i s → get_or (bytes_of_sections sections) i [] ≡ s.part.bytes.items
section-at sections i s lt is = get_or-map (λ (section : Section). section.part.bytes.items) sections i s [] lt ∙ ap (λ (section : Section). section.part.bytes.items) (sym is)

pub part-at : (parts : List (Vec ℕ Global)) (i : ℕ) (p : Vec ℕ Global) → i < length parts → p ≡ get_or parts i p → get_or (items_of parts) i [] ≡ p.items
part-at parts i p lt is = get_or-map (λ (part : Vec ℕ Global). part.items) parts i p [] lt ∙ ap (λ (part : Vec ℕ Global). part.items) (sym is)

-- Some of the first parts stay, and then a few of the last
module _ (xs ps now : List (List ℕ)) (from end some few : ℕ) (within : end ≤ length xs) (front : StayInFront xs from end ps some) (back : StayBehind xs (from + some) end (drop some ps) few)
    (now-are : now ≡ take (length (drop some ps) - few) (drop some ps)) where
  abbrev left : List (List ℕ)
  left = drop some ps

  abbrev parts : List (List ℕ)
  parts = take (length left - few) left

  pub left-same : take (from + some) xs ++ (now ++ drop (end - few) xs) ≡ take from xs ++ (ps ++ drop end xs)
  left-same =
      let rest = drop end xs in
      ap (λ ys. take (from + some) xs ++ (ys ++ drop (end - few) xs)) now-are
      ∙ ap (λ ys. take (from + some) xs ++ ys)
      (ap (λ ys. parts ++ ys) back.same ∙ sym (append_assoc parts (drop (length left - few) left) rest) ∙ ap (λ ys. ys ++ rest) (take-append-drop (length left - few) left))
      ∙ ap (λ ys. ys ++ (left ++ rest)) front.same ∙ append_assoc (take from xs) (take some ps) (left ++ rest)
      ∙ ap (λ ys. take from xs ++ ys) (sym (append_assoc (take some ps) left rest) ∙ ap (λ ys. ys ++ rest) (take-append-drop some ps))

  pub left-order : from + some ≤ end - few
  left-order = omega (arith, back.few)

  pub left-within : end - few ≤ length xs
  left-within = omega (arith, within)

  are-trimmed : AreTrimmed xs (from + some) (end - few) parts
  are-trimmed =
      let sizes = length-drop some ps in
      let long : length parts ≡ length left - few = length-take-le (length left - few) left (omega arith) in
      record {
        first = λ lt more is.
            let e : some + 0 ≡ some = omega arith in
            front.next (omega (arith, lt)) (omega (arith, sizes, long, more))
            (sym (get_or-take (length left - few) left 0 [] (omega (arith, long, more)) ∙ get_or-drop some ps 0 [] ∙ ap (λ k. get_or ps k []) e) ∙ is);
        last = λ lt more is.
            let e : length parts - 1 ≡ length left - few - 1 = omega (arith, long) in
            back.next (omega (arith, lt)) (omega (arith, long, more))
            (sym (ap (λ k. get_or parts k []) e ∙ get_or-take (length left - few) left (length left - few - 1) [] (omega (arith, long, more))) ∙ is);
      }

  pub left-trimmed : AreTrimmed xs (from + some) (end - few) now
  left-trimmed = subst (AreTrimmed xs (from + some) (end - few)) (sym now-are) are-trimmed
