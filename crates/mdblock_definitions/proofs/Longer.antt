-- A text of definitions alone, and a line behind it that begins with neither a bracket nor a title: its definitions are the same, and the line is left.
use Rattle.std.proofs.Common.{◌≡◌, ◌⊎◌, inl, inr, ℕ, zero, suc, ◌+◌, ◌<◌, ◌≤◌, Bool, true, false, cond, List, [], ◌∷◌, ◌++◌, Option, Some, None, arith, drop, length, length-drop, refl, sym, ap, take, ◌∙◌}
use Rattle.std.specs.Prelude.{◌==◌, ◌&&◌, ◌||◌, nat_le}
use Rattle.std.specs.List.{prefix_len}
use Rattle.std.specs.Option.{is_some, option_and_then, option_map, option_or}
use Rattle.std.proofs.lemmas.Bool.{cases_lt, false≢true}
use Rattle.std.proofs.lemmas.List.{drop-append-le, drop-drop, drop_all, take-append-le}
use Rattle.std.proofs.lemmas.List.Sums.{prefix_len-le-length}
use Rattle.std.proofs.lemmas.Option.{cond_some, none-some, same_Some}
use Rattle.markdown_base.proofs.Common.{and-right}
use Rattle.markdown_base.proofs.Facts.Bools.{cond-same}
use Rattle.mdblock_containers.specs.Rows.{has_none}
use Rattle.mdinline_labels.specs.declared.definitions.Definition.{Definition}
use Rattle.mdinline_labels.specs.declared.definitions.Stretch.{Stretch}
use Rattle.mdinline_labels.specs.Definitions.{definition_at, destination_at, end, end_of, ended, label_at, line_left, rest, stretch_at, title_at, titled_or_not}
use Rattle.mdinline_labels.specs.Labels.{hides, is_label}
use Rattle.mdinline_labels.specs.Tails.{bare_behind, begins_title, begins_with, depth_behind, destination_size, enclosed_size, gap, is_plain, is_raw_end, is_white, label_size, line_ends, marked_size, one_more, raw_end, raw_size, title_end, title_size}
use Rattle.mdinline_labels.proofs.Fronts.{no-rest, rest-more}
use Rattle.mdinline_labels.proofs.GivenBack.{given-back}
use Rattle.mdinline_labels.proofs.Sizes.{marked-within, begins-some}
use Rattle.mdblock_definitions.proofs.DefinitionParts.{destination-inside, ended-inside, gap-inside, or-inside, title-ends}

-- ---- how far white space goes

abbrev gap_by : (z v : List ℕ) → ℕ
gap_by z v = cond (begins_with 10 v) (prefix_len is_white z + 1 + prefix_len is_white (drop (prefix_len is_white z + 1) z)) (prefix_len is_white z)

-- a title's mark in the next line is behind a line ending
gap-behind : (z : List ℕ) (n : ℕ) → line_left z ≡ Some n → begins_title (drop (gap z) z) ≡ true → n + 1 ≤ gap z
gap-behind z n left begins =
    let parts = cond_some (line_ends (drop (prefix_len is_white z) z)) (prefix_len is_white z) n left in
    by (drop (prefix_len is_white z) z) refl parts.0 parts.1
  where
    by : (v : List ℕ) → drop (prefix_len is_white z) z ≡ v → line_ends v ≡ true → prefix_len is_white z ≡ n → n + 1 ≤ gap z
    by [] is ends same = let none : begins_title (drop (gap z) z) ≡ false = ap (λ v. begins_title (drop (gap_by z v) z)) is ∙ ap begins_title is in absurd (false≢true (sym none ∙ begins))
    by (b ∷ bs) is ends same =
        let place : gap z ≡ prefix_len is_white z + 1 + prefix_len is_white (drop (prefix_len is_white z + 1) z) = ap (gap_by z) is ∙ ap (λ t. cond t (prefix_len is_white z + 1 + prefix_len is_white (drop (prefix_len is_white z + 1) z)) (prefix_len is_white z)) ends in
        omega (arith, place, same)

-- ---- a text with more lines

module _ (w : List ℕ) where
  raw-longer : (depth : ℕ) (hidden : Bool) (x : List ℕ) → raw_size depth hidden (x ++ 10 ∷ w) ≡ raw_size depth hidden x
  raw-longer depth hidden [] = refl
  raw-longer depth hidden (b ∷ bs) =
      ap (λ o. cond (is_raw_end depth hidden b) (raw_end depth) (cond (is_plain 40 hidden b && nat_le 32 depth) None (one_more o))) (raw-longer (depth_behind depth hidden b) (hides hidden b) bs)

  enclosed-longer : (hidden : Bool) (x : List ℕ) → enclosed_size hidden (x ++ 10 ∷ w) ≡ enclosed_size hidden x
  enclosed-longer hidden [] = refl
  enclosed-longer hidden (b ∷ bs) = ap (λ o. cond (is_plain 62 hidden b) (Some 0) (cond (is_plain 60 hidden b || (b == 10)) None (one_more o))) (enclosed-longer (hides hidden b) bs)

  pub destination-longer : (x : List ℕ) → destination_size (x ++ 10 ∷ w) ≡ destination_size x
  destination-longer [] = refl
  destination-longer (b ∷ bs) = λ k. cond (b == 60) (option_map (λ n. n + 2) (enclosed-longer false bs k)) (option_and_then (λ n. cond (n == 0) None (Some n)) (raw-longer 0 false (b ∷ bs) k))

  marked-longer : (first last : ℕ) (bare hidden : Bool) (x : List ℕ) → (marked_size first last bare hidden (x ++ 10 ∷ w) ≡ marked_size first last bare hidden x) ⊎ (marked_size first last bare hidden x ≡ None)
  marked-longer first last bare hidden [] = inr refl
  marked-longer first last bare hidden (b ∷ bs) =
      by (is_plain last hidden b) (is_plain first hidden b || (bare && (b == 10))) (marked_size first last (bare_behind bare b) (hides hidden b) (bs ++ 10 ∷ w)) (marked_size first last (bare_behind bare b) (hides hidden b) bs)
      (marked-longer first last (bare_behind bare b) (hides hidden b) bs)
    where
      by : (p q : Bool) (o r : Option ℕ) → (o ≡ r) ⊎ (r ≡ None) → (cond p (Some 0) (cond q None (one_more o)) ≡ cond p (Some 0) (cond q None (one_more r))) ⊎ (cond p (Some 0) (cond q None (one_more r)) ≡ None)
      by p q o r (inl e) = inl (ap (λ s. cond p (Some 0) (cond q None (one_more s))) e)
      by true q o r (inr e) = inl refl
      by false true o r (inr e) = inl refl
      by false false o r (inr e) = inr (ap one_more e)

  title-longer : (x : List ℕ) → (title_size (x ++ 10 ∷ w) ≡ title_size x) ⊎ ((title_size x ≡ None) × (begins_title x ≡ true))
  title-longer [] = inl refl
  title-longer (b ∷ bs) = by (title_end b) refl
    where
      at : (ys : List ℕ) (o : Option ℕ) → title_end b ≡ o → title_size (b ∷ ys) ≡ option_and_then (λ close. option_map (λ n. n + 2) (marked_size b close false false ys)) o
      at ys o e = ap (option_and_then (λ close. option_map (λ n. n + 2) (marked_size b close false false ys))) e

      by : (o : Option ℕ) → title_end b ≡ o → (title_size (b ∷ bs ++ 10 ∷ w) ≡ title_size (b ∷ bs)) ⊎ ((title_size (b ∷ bs) ≡ None) × (is_some (title_end b) ≡ true))
      by None e = inl (at (bs ++ 10 ∷ w) None e ∙ sym (at bs None e))
      by (Some close) e =
          elim (marked-longer b close false false bs) [
            | inl same ↦ inl (at (bs ++ 10 ∷ w) (Some close) e ∙ ap (option_map (λ n. n + 2)) same ∙ sym (at bs (Some close) e))
            | inr none ↦ inr (at bs (Some close) e ∙ ap (option_map (λ n. n + 2)) none, ap is_some e)
          ]

  pub white-longer : (x : List ℕ) → prefix_len is_white (x ++ 10 ∷ w) ≡ prefix_len is_white x
  white-longer [] = refl
  white-longer (b ∷ bs) = ap (λ n. cond (is_white b) (1 + n) 0) (white-longer bs)

  pub drop-longer : (n : ℕ) (x : List ℕ) → n ≤ length x → drop n (x ++ 10 ∷ w) ≡ drop n x ++ 10 ∷ w
  drop-longer n x h = drop-append-le n x (10 ∷ w) h

  pub begins-longer : (c : ℕ) (x : List ℕ) → (10 == c) ≡ false → begins_with c (x ++ 10 ∷ w) ≡ begins_with c x
  begins-longer c [] e = e
  begins-longer c (b ∷ bs) e = refl

  pub line-longer : (x : List ℕ) → line_left (x ++ 10 ∷ w) ≡ line_left x
  line-longer x =
      let n = prefix_len is_white x in
      ap (λ m. cond (line_ends (drop m (x ++ 10 ∷ w))) (Some m) None) (white-longer x)
      ∙ ap (λ (b : Bool). cond b (Some n) None) (ap line_ends (drop-longer n x (prefix_len-le-length is_white x)) ∙ ends (drop n x))
    where
      ends : (v : List ℕ) → line_ends (v ++ 10 ∷ w) ≡ line_ends v
      ends [] = refl
      ends (b ∷ bs) = refl

  abbrev gap_of : (n : ℕ) (v u : List ℕ) → ℕ
  gap_of n v u = cond (begins_with 10 v) (n + 1 + prefix_len is_white u) n

  -- white space goes on in the next line only if nothing else is left of the text
  pub gap-longer : (z : List ℕ) → (gap (z ++ 10 ∷ w) ≡ gap z) ⊎ ((drop (gap z) z ≡ []) × (gap (z ++ 10 ∷ w) ≡ length z + 1 + prefix_len is_white w))
  gap-longer z = by (drop (prefix_len is_white z) z) refl
    where
      few : prefix_len is_white z ≤ length z
      few = prefix_len-le-length is_white z

      step : gap (z ++ 10 ∷ w) ≡ gap_of (prefix_len is_white z) (drop (prefix_len is_white z) z ++ 10 ∷ w) (drop (prefix_len is_white z + 1) (z ++ 10 ∷ w))
      step =
          ap (λ m. gap_of m (drop m (z ++ 10 ∷ w)) (drop (m + 1) (z ++ 10 ∷ w))) (white-longer z)
          ∙ ap (λ v. gap_of (prefix_len is_white z) v (drop (prefix_len is_white z + 1) (z ++ 10 ∷ w))) (drop-longer (prefix_len is_white z) z few)

      by : (v : List ℕ) → drop (prefix_len is_white z) z ≡ v → (gap (z ++ 10 ∷ w) ≡ gap z) ⊎ ((drop (gap z) z ≡ []) × (gap (z ++ 10 ∷ w) ≡ length z + 1 + prefix_len is_white w))
      by [] is =
          let n = prefix_len is_white z in
          let none : drop (gap z) z ≡ [] = ap (λ v. drop (gap_of n v (drop (n + 1) z)) z) is ∙ is in
          let all : n ≡ length z = omega (arith, few, length-drop n z, ap (λ (l : List ℕ). length l) is) in
          let back : drop (n + 1) (z ++ 10 ∷ w) ≡ w = sym (drop-drop 1 n (z ++ 10 ∷ w)) ∙ ap (drop 1) (drop-longer n z few ∙ ap (λ v. v ++ 10 ∷ w) is) in
          let place : gap (z ++ 10 ∷ w) ≡ n + 1 + prefix_len is_white w = step ∙ ap (λ v. gap_of n (v ++ 10 ∷ w) (drop (n + 1) (z ++ 10 ∷ w))) is ∙ ap (λ u. n + 1 + prefix_len is_white u) back in
          inr (none, omega (arith, place, all))
      by (b ∷ bs) is =
          let n = prefix_len is_white z in
          let within : n + 1 ≤ length z = omega (arith, few, length-drop n z, ap (λ (l : List ℕ). length l) is) in
          inl
          (step
          ∙ ap (λ v. gap_of n (v ++ 10 ∷ w) (drop (n + 1) (z ++ 10 ∷ w))) is
          ∙ ap (λ m. cond (b == 10) (n + 1 + m) n) (ap (prefix_len is_white) (drop-longer (n + 1) z within) ∙ white-longer (drop (n + 1) z))
          ∙ ap (λ v. gap_of n v (drop (n + 1) z)) (sym is))

  -- ---- the parts of a definition

  abbrev pub test : (from : ℕ) → List ℕ → (n : ℕ) → Bool
  test from text n = is_label (take n (drop (from + 1) text)) && begins_with 58 (drop (from + n + 2) text)

  abbrev pub sized : (from : ℕ) → List ℕ → Option ℕ → Option Stretch
  sized from text o = option_and_then (λ n. cond (test from text n) (Some (stretch_at from (n + 2))) None) o

  abbrev pub label_by : List ℕ → (from : ℕ) → Option Stretch
  label_by text from = cond (begins_with 91 (drop from text)) (sized from text (label_size (drop (from + 1) text))) None

  abbrev pub destination_by : List ℕ → ℕ → Option Stretch
  destination_by text from = option_map (stretch_at from) (destination_size (drop from text))

  abbrev pub title_by : List ℕ → (at white : ℕ) → Option Stretch
  title_by text at white = cond (white == 0) None (option_map (stretch_at (at + white)) (title_size (drop (at + white) text)))

  abbrev pub by_destination : List ℕ → Stretch → Option Stretch → Option Definition
  by_destination text l o = option_and_then (λ de. titled_or_not text l de (title_at text (end de))) o

  abbrev pub by_label : List ℕ → Option Stretch → Option Definition
  by_label text o = option_and_then (λ l. by_destination text l (destination_at text (end l + 1))) o

  pub label-longer : (x : List ℕ) (s : Stretch) → label_at x ≡ Some s → (label_at (x ++ 10 ∷ w) ≡ Some s) × (end s < length x)
  label-longer x s e = by (begins_with 91 (drop (prefix_len is_white x) x)) refl
    where
      few : prefix_len is_white x ≤ length x
      few = prefix_len-le-length is_white x

      begun : begins_with 91 (drop (prefix_len is_white x) (x ++ 10 ∷ w)) ≡ begins_with 91 (drop (prefix_len is_white x) x)
      begun = ap (begins_with 91) (drop-longer (prefix_len is_white x) x few) ∙ begins-longer 91 (drop (prefix_len is_white x) x) refl

      two : begins_with 91 (drop (prefix_len is_white x) x) ≡ true → (o : Option ℕ) → label_size (drop ((prefix_len is_white x) + 1) x) ≡ o → (label_at (x ++ 10 ∷ w) ≡ Some s) × (end s < length x)
      two begins None size =
          let none : label_at x ≡ None = ap (λ (b : Bool). cond b (sized (prefix_len is_white x) x (label_size (drop ((prefix_len is_white x) + 1) x))) None) begins ∙ ap (sized (prefix_len is_white x) x) size in
          absurd (none-some s (sym none ∙ e))
      two begins (Some n) size =
          let some = begins-some 91 (drop (prefix_len is_white x) x) begins in
          let within : (prefix_len is_white x) + 1 ≤ length x = omega (arith, some, length-drop (prefix_len is_white x) x) in
          let less = marked-within 91 93 false false (drop ((prefix_len is_white x) + 1) x) n size in
          let far : (prefix_len is_white x) + n + 2 ≤ length x = omega (arith, less, length-drop ((prefix_len is_white x) + 1) x) in
          let is : label_at x ≡ cond (test (prefix_len is_white x) x n) (Some (stretch_at (prefix_len is_white x) (n + 2))) None = ap (λ (b : Bool). cond b (sized (prefix_len is_white x) x (label_size (drop ((prefix_len is_white x) + 1) x))) None) begins ∙ ap (sized (prefix_len is_white x) x) size in
          let parts = cond_some (test (prefix_len is_white x) x n) (stretch_at (prefix_len is_white x) (n + 2)) s (sym is ∙ e) in
          let colon = and-right (is_label (take n (drop ((prefix_len is_white x) + 1) x))) (begins_with 58 (drop ((prefix_len is_white x) + n + 2) x)) parts.0 in
          let behind = begins-some 58 (drop ((prefix_len is_white x) + n + 2) x) colon in
          let same : test (prefix_len is_white x) (x ++ 10 ∷ w) n ≡ test (prefix_len is_white x) x n =
          (λ k. is_label (take n (drop-longer ((prefix_len is_white x) + 1) x within k)) && begins_with 58 (drop-longer ((prefix_len is_white x) + n + 2) x far k))
          ∙ (λ k. is_label (take-append-le n (drop ((prefix_len is_white x) + 1) x) (10 ∷ w) (omega (arith, less)) k) && begins-longer 58 (drop ((prefix_len is_white x) + n + 2) x) refl k) in
          let sizes : label_size (drop ((prefix_len is_white x) + 1) (x ++ 10 ∷ w)) ≡ Some n =
          ap label_size (drop-longer ((prefix_len is_white x) + 1) x within)
          ∙ elim (marked-longer 91 93 false false (drop ((prefix_len is_white x) + 1) x)) as (λ _. label_size (drop ((prefix_len is_white x) + 1) x ++ 10 ∷ w) ≡ Some n) [ inl k ↦ k ∙ size | inr k ↦ absurd (none-some n (sym k ∙ size)) ] in
          let long : label_at (x ++ 10 ∷ w) ≡ label_at x =
          ap (label_by (x ++ 10 ∷ w)) (white-longer x)
          ∙ ap (λ (b : Bool). cond b (sized (prefix_len is_white x) (x ++ 10 ∷ w) (label_size (drop ((prefix_len is_white x) + 1) (x ++ 10 ∷ w)))) None) (begun ∙ begins)
          ∙ ap (sized (prefix_len is_white x) (x ++ 10 ∷ w)) sizes
          ∙ ap (λ (b : Bool). cond b (Some (stretch_at (prefix_len is_white x) (n + 2))) None) same
          ∙ sym is in
          let ends : end s ≡ (prefix_len is_white x) + (n + 2) = ap end (sym parts.1) in
          (long ∙ e, omega (arith, ends, behind, length-drop ((prefix_len is_white x) + n + 2) x))

      by : (b : Bool) → begins_with 91 (drop (prefix_len is_white x) x) ≡ b → (label_at (x ++ 10 ∷ w) ≡ Some s) × (end s < length x)
      by true begins = two begins (label_size (drop ((prefix_len is_white x) + 1) x)) refl
      by false begins = let none : label_at x ≡ None = ap (λ (b : Bool). cond b (sized (prefix_len is_white x) x (label_size (drop ((prefix_len is_white x) + 1) x))) None) begins in absurd (none-some s (sym none ∙ e))

  pub destination-at-longer : (x : List ℕ) (at : ℕ) (s : Stretch) → at ≤ length x → destination_at x at ≡ Some s → (destination_at (x ++ 10 ∷ w) at ≡ Some s) × (end s ≤ length x)
  destination-at-longer x at s h e = by (destination_size (drop (at + gap (drop at x)) x)) refl
    where
      some-same : (f : Stretch → ℕ) (p q : Stretch) → Some p ≡ Some q → f p ≡ f q
      some-same f p q e = ap f (same_Some p q e)

      within : (at + gap (drop at x)) ≤ length x
      within = omega (arith, h, gap-inside (drop at x), length-drop at x)

      by : (o : Option ℕ) → destination_size (drop (at + gap (drop at x)) x) ≡ o → (destination_at (x ++ 10 ∷ w) at ≡ Some s) × (end s ≤ length x)
      by None size = let none : destination_at x at ≡ None = ap (option_map (stretch_at (at + gap (drop at x)))) size in absurd (none-some s (sym none ∙ e))
      by (Some n) size =
          let less = destination-inside (drop (at + gap (drop at x)) x) n size in
          let is : destination_at x at ≡ Some (stretch_at (at + gap (drop at x)) n) = ap (option_map (stretch_at (at + gap (drop at x)))) size in
          let ends : (at + gap (drop at x)) + n ≡ end s = some-same end (stretch_at (at + gap (drop at x)) n) s (sym is ∙ e) in
          elim (gap-longer (drop at x)) [
            | inl same ↦ (
              ap (λ g. destination_by (x ++ 10 ∷ w) (at + g)) (ap gap (drop-longer at x h) ∙ same)
                  ∙ ap (option_map (stretch_at (at + gap (drop at x)))) (ap destination_size (drop-longer (at + gap (drop at x)) x within) ∙ destination-longer (drop (at + gap (drop at x)) x))
                  ∙ e,
              omega (arith, less, ends, length-drop (at + gap (drop at x)) x, within),
            )
            | inr none ↦ let nothing : destination_size (drop (at + gap (drop at x)) x) ≡ None = ap destination_size (sym (drop-drop (gap (drop at x)) at x) ∙ none.0) in absurd (none-some n (sym nothing ∙ size))
          ]

  module _ (no-title : title_size (drop (prefix_len is_white w) w) ≡ None) where
    title-at-longer : (x : List ℕ) (at : ℕ) → at ≤ length x → (title_at (x ++ 10 ∷ w) at ≡ title_at x at) ⊎ ((title_at x at ≡ None) × (begins_title (drop (at + gap (drop at x)) x) ≡ true))
    title-at-longer x at h =
        elim (gap-longer (drop at x)) [
          | inl same ↦ by (gap (drop at x) == 0) refl (ap gap (drop-longer at x h) ∙ same) (title-longer (drop (at + gap (drop at x)) x))
          | inr none ↦
              let white = length (drop at x) + 1 + prefix_len is_white w in
              let place : drop (at + white) (x ++ 10 ∷ w) ≡ drop (prefix_len is_white w) w =
              ap (λ k. drop k (x ++ 10 ∷ w)) (omega (arith, h, length-drop at x))
              ∙ sym (drop-drop (1 + prefix_len is_white w) (length x) (x ++ 10 ∷ w))
              ∙ ap (drop (1 + prefix_len is_white w)) (drop-longer (length x) x (omega arith) ∙ ap (λ v. v ++ 10 ∷ w) (drop_all (length x) x (omega arith)))
              ∙ one-more-drop in
              let long : title_at (x ++ 10 ∷ w) at ≡ None = ap (title_by (x ++ 10 ∷ w) at) (ap gap (drop-longer at x h) ∙ none.1) ∙ ap (λ o. cond (white == 0) None (option_map (stretch_at (at + white)) o)) (ap title_size place ∙ no-title) ∙ cond-same (white == 0) None in
              let short : title_at x at ≡ None =
              ap (λ o. cond (gap (drop at x) == 0) None (option_map (stretch_at (at + gap (drop at x))) o)) (ap title_size (sym (drop-drop (gap (drop at x)) at x) ∙ none.0)) ∙ cond-same (gap (drop at x) == 0) None in
              inl (long ∙ sym short)
        ]
      where
        one-more-drop : drop (1 + prefix_len is_white w) (10 ∷ w) ≡ drop (prefix_len is_white w) w
        one-more-drop = let on : 1 + prefix_len is_white w ≡ suc (prefix_len is_white w) = omega arith in λ k. drop (on k) (10 ∷ w)

        within : at + gap (drop at x) ≤ length x
        within = omega (arith, h, gap-inside (drop at x), length-drop at x)

        by : (b : Bool) → (gap (drop at x) == 0) ≡ b → gap (drop at (x ++ 10 ∷ w)) ≡ gap (drop at x)
            → (title_size (drop (at + gap (drop at x)) x ++ 10 ∷ w) ≡ title_size (drop (at + gap (drop at x)) x)) ⊎ ((title_size (drop (at + gap (drop at x)) x) ≡ None) × (begins_title (drop (at + gap (drop at x)) x) ≡ true))
            → (title_at (x ++ 10 ∷ w) at ≡ title_at x at) ⊎ ((title_at x at ≡ None) × (begins_title (drop (at + gap (drop at x)) x) ≡ true))
        by b e same (inl k) =
            let g = gap (drop at x) in
            inl (ap (title_by (x ++ 10 ∷ w) at) same ∙ ap (λ o. cond (g == 0) None (option_map (stretch_at (at + g)) o)) (ap title_size (drop-longer (at + g) x within) ∙ k))
        by b e same (inr k) =
            let g = gap (drop at x) in
            inr (ap (λ o. cond (g == 0) None (option_map (stretch_at (at + g)) o)) k.0 ∙ cond-same (g == 0) None, k.1)

    ended-longer : (x : List ℕ) (l de : Stretch) (t : Option Stretch) → end_of t de ≤ length x → ended (x ++ 10 ∷ w) l de t ≡ ended x l de t
    ended-longer x l de t h =
        let at = end_of t de in
        ap (λ o. option_map {T = ℕ} {U = Definition} (λ n. record { label = l; destination = de; title = t; size = at + n }) o) (ap line_left (drop-longer at x h) ∙ line-longer (drop at x))

    -- a definition of a text of definitions alone
    pub definition-longer : (x : List ℕ) (d : Definition) → rest x ≡ [] → 0 < length x → definition_at x ≡ Some d → (definition_at (x ++ 10 ∷ w) ≡ Some d) × (d.size ≤ length x)
    definition-longer x d used some e = one (label_at x) refl
      where
        -- its title would be given back
        not-given : {A : Type 0} (l de : Stretch) → end de ≤ length x → titled_or_not x l de None ≡ Some d → begins_title (drop (end de + gap (drop (end de) x)) x) ≡ true → A
        not-given l de h is begins =
            let alone : ended x l de None ≡ Some d = sym (either (ended x l de None)) ∙ is in
            let parts = ended-inside x l de None d alone h in
            let n = parts.1 in
            let gone : definition_at (drop (end de + n + 1) x) ≡ None = given-back x (end de) n parts.2 begins in
            let at : end de + n + 1 ≡ d.size + 1 = omega (arith, parts.3) in
            let left : drop (d.size + 1) x ≡ [] = sym (no-rest (drop (d.size + 1) x) (ap (λ k. definition_at (drop k x)) (sym at) ∙ gone)) ∙ sym (rest-more x d some e) ∙ used in
            let all = ap (λ (l : List ℕ). length l) left in
            let far = gap-behind (drop (end de) x) n parts.2 (ap begins_title (drop-drop (gap (drop (end de) x)) (end de) x) ∙ begins) in
            let mark = some-title (drop (end de + gap (drop (end de) x)) x) begins in
            absurd (omega (arith, all, far, mark, at, length-drop (d.size + 1) x, length-drop (end de + gap (drop (end de) x)) x))
          where
            either : (o : Option Definition) → option_or o o ≡ o
            either None = refl
            either (Some y) = refl

            some-title : (v : List ℕ) → begins_title v ≡ true → 0 < length v
            some-title [] q = absurd (false≢true q)
            some-title (b ∷ bs) q = omega arith

        three : (l de : Stretch) → end de ≤ length x → titled_or_not x l de (title_at x (end de)) ≡ Some d → (titled_or_not (x ++ 10 ∷ w) l de (title_at (x ++ 10 ∷ w) (end de)) ≡ Some d) × (d.size ≤ length x)
        three l de h is =
            elim (title-at-longer x (end de) h) [
              | inl same ↦
                  let t = title_at x (end de) in
                  let k = title-ends x de t h refl in (
                    ap (titled_or_not (x ++ 10 ∷ w) l de) same ∙ (λ i. option_or (ended-longer x l de t k i) (ended-longer x l de None h i)) ∙ is,
                    or-inside x d l de t h k is,
                  )
              | inr none ↦ not-given l de h (ap (titled_or_not x l de) (sym none.0) ∙ is) none.1
            ]

        two : (l : Stretch) → end l < length x → by_destination x l (destination_at x (end l + 1)) ≡ Some d → (o : Option Stretch) → destination_at x (end l + 1) ≡ o
            → (by_destination (x ++ 10 ∷ w) l (destination_at (x ++ 10 ∷ w) (end l + 1)) ≡ Some d) × (d.size ≤ length x)
        two l h is None same = absurd (none-some d (sym (ap (by_destination x l) same) ∙ is))
        two l h is (Some de) same =
            let long = destination-at-longer x (end l + 1) de (omega (arith, h)) same in
            let more = three l de long.1 (sym (ap (by_destination x l) same) ∙ is) in
            (ap (by_destination (x ++ 10 ∷ w) l) long.0 ∙ more.0, more.1)

        one : (o : Option Stretch) → label_at x ≡ o → (definition_at (x ++ 10 ∷ w) ≡ Some d) × (d.size ≤ length x)
        one None same = absurd (none-some d (sym (ap (by_label x) same) ∙ e))
        one (Some l) same =
            let long = label-longer x l same in
            let more = two l long.1 (sym (ap (by_label x) same) ∙ e) (destination_at x (end l + 1)) refl in
            (ap (by_label (x ++ 10 ∷ w)) long.0 ∙ more.0, more.1)

    -- a text of definitions alone is not of definitions alone with the line
    module _ (no-bracket : begins_with 91 (drop (prefix_len is_white w) w) ≡ false) (some-line : has_none w ≡ false) where
      pub line-is-left : (n : ℕ) (x : List ℕ) → length x ≤ n → rest x ≡ [] → has_none (rest (x ++ 10 ∷ w)) ≡ false
      line-is-left n [] h used = ap has_none (no-rest (10 ∷ w) refl)
      line-is-left zero (b ∷ bs) h used = absurd (omega (arith, h))
      line-is-left (suc n) (b ∷ bs) h used = by (λ y few none. line-is-left n y few none) (definition_at (b ∷ bs)) refl
        where
          some : 0 < length (b ∷ bs)
          some = omega arith

          by : ((y : List ℕ) → length y ≤ n → rest y ≡ [] → has_none (rest (y ++ 10 ∷ w)) ≡ false) → (o : Option Definition) → definition_at (b ∷ bs) ≡ o → has_none (rest ((b ∷ bs) ++ 10 ∷ w)) ≡ false
          by shorter None e = absurd (false≢true (ap has_none (sym (no-rest (b ∷ bs) e)) ∙ ap has_none used))
          by shorter (Some d) e =
              let x = b ∷ bs in
              let long = definition-longer x d used some e in
              let on = rest-more (x ++ 10 ∷ w) d (omega arith) long.0 in
              elim (cases_lt d.size (length x)) [
                | inl less ↦
                    ap has_none (on ∙ ap rest (drop-longer (d.size + 1) x (omega (arith, less))))
                    ∙ shorter (drop (d.size + 1) x) (omega (arith, h, length-drop (d.size + 1) x)) (sym (rest-more x d some e) ∙ used)
                | inr all ↦
                    let size : d.size + 1 ≡ length x + 1 = omega (arith, all, long.1) in
                    let behind : drop (d.size + 1) (x ++ 10 ∷ w) ≡ w =
                    ap (λ k. drop k (x ++ 10 ∷ w)) size ∙ sym (drop-drop 1 (length x) (x ++ 10 ∷ w)) ∙ ap (drop 1) (drop-longer (length x) x (omega arith) ∙ ap (λ v. v ++ 10 ∷ w) (drop_all (length x) x (omega arith))) in
                    ap has_none (on ∙ ap rest behind ∙ no-rest w (rw no-bracket refl)) ∙ some-line
              ]
