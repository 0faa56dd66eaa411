-- A text whose first lines are definitions, and these lines alone: they have the same definitions.
use Rattle.std.proofs.Common.{◌≡◌, ◌⊎◌, inl, inr, ℕ, zero, suc, ◌+◌, ◌<◌, ◌≤◌, Bool, true, false, cond, List, [], ◌∷◌, ◌++◌, Option, Some, None, append_assoc, arith, drop, length, length-append, length-drop, refl, subst, sym, ap, take, ◌∙◌}
use Rattle.std.specs.Prelude.{IfSome, ◌==◌, ◌&&◌, ◌||◌}
use Rattle.std.specs.List.{prefix_len}
use Rattle.std.specs.Option.{option_and_then, option_map, option_or}
use Rattle.std.proofs.lemmas.Bool.{cases_lt, eqb-true}
use Rattle.std.proofs.lemmas.List.{drop-drop, drop_all, nil_from_length, take-append-drop, take-append-le}
use Rattle.std.proofs.lemmas.List.Sums.{prefix_len-le-length}
use Rattle.std.proofs.lemmas.Option.{none-some, same_Some}
use Rattle.markdown_base.proofs.Facts.Bools.{cond-same}
use Rattle.mdinline_labels.specs.declared.definitions.Definition.{Definition}
use Rattle.mdinline_labels.specs.declared.definitions.Stretch.{Stretch}
use Rattle.mdinline_labels.specs.Definitions.{definition_at, definitions, destination_at, end, end_of, ended, label_at, line_left, rest, rest_from, stretch_at, title_at, titled_or_not}
use Rattle.mdinline_labels.specs.Labels.{hides, is_label}
use Rattle.mdinline_labels.specs.Tails.{bare_behind, begins_with, destination_size, gap, is_plain, is_white, label_size, line_ends, marked_size, one_more, title_end, title_size}
use Rattle.mdinline_labels.proofs.Fronts.{no-more, no-rest, one-more, rest-more}
use Rattle.mdinline_labels.proofs.Sizes.{marked-within, begins-some}
use Rattle.mdblock_definitions.proofs.DefinitionsWithin.{definition-within, title-within}
use Rattle.mdblock_definitions.specs.Labelled.{IsInText}
use Rattle.mdblock_definitions.proofs.DefinitionParts.{gap-inside}
use Rattle.mdblock_definitions.proofs.Longer.{begins-longer, destination-longer, destination_by, drop-longer, gap-longer, label_by, line-longer, sized, test, title_by, white-longer}

-- ---- the parts of a definition

module _ (w : List ℕ) where
  marked-shorter : (first last : ℕ) (bare hidden : Bool) (x : List ℕ)
      → (marked_size first last bare hidden (x ++ 10 ∷ w) ≡ marked_size first last bare hidden x) ⊎ ((marked_size first last bare hidden x ≡ None) × IfSome (marked_size first last bare hidden (x ++ 10 ∷ w)) (λ n. length x ≤ n))
  marked-shorter first last bare hidden [] = inr (refl, any (marked_size first last bare hidden (10 ∷ w)))
    where
      any : (o : Option ℕ) → IfSome o (λ n. 0 ≤ n)
      any None = tt
      any (Some n) = omega arith
  marked-shorter first last bare hidden (b ∷ bs) =
      by (is_plain last hidden b) (is_plain first hidden b || (bare && (b == 10))) (marked_size first last (bare_behind bare b) (hides hidden b) (bs ++ 10 ∷ w)) (marked_size first last (bare_behind bare b) (hides hidden b) bs)
      (marked-shorter first last (bare_behind bare b) (hides hidden b) bs)
    where
      by : (p q : Bool) (o r : Option ℕ) → (o ≡ r) ⊎ ((r ≡ None) × IfSome o (λ n. length bs ≤ n))
          → (cond p (Some 0) (cond q None (one_more o)) ≡ cond p (Some 0) (cond q None (one_more r))) ⊎ ((cond p (Some 0) (cond q None (one_more r)) ≡ None) × IfSome (cond p (Some 0) (cond q None (one_more o))) (λ n. suc (length bs) ≤ n))
      by p q o r (inl e) = inl (ap (λ s. cond p (Some 0) (cond q None (one_more s))) e)
      by true q o r (inr h) = inl refl
      by false true o r (inr h) = inl refl
      by false false None r (inr h) = inr (ap one_more h.0, tt)
      by false false (Some n) r (inr h) = inr (ap one_more h.0, omega (arith, h.1))

  title-shorter : (x : List ℕ) → (title_size (x ++ 10 ∷ w) ≡ title_size x) ⊎ ((title_size x ≡ None) × IfSome (title_size (x ++ 10 ∷ w)) (λ n. length x < n))
  title-shorter [] = inl refl
  title-shorter (b ∷ bs) = by (title_end b)
    where
      more : (o : Option ℕ) → IfSome o (λ n. length bs ≤ n) → IfSome (option_map (λ n. n + 2) o) (λ n. suc (length bs) < n)
      more None h = tt
      more (Some n) h = omega (arith, h)

      by : (e : Option ℕ) → let long = option_and_then (λ close. option_map (λ n. n + 2) (marked_size b close false false (bs ++ 10 ∷ w))) e in let short = option_and_then (λ close. option_map (λ n. n + 2) (marked_size b close false false bs)) e in
          (long ≡ short) ⊎ ((short ≡ None) × IfSome long (λ n. suc (length bs) < n))
      by None = inl refl
      by (Some close) =
          elim (marked-shorter b close false false bs) [
            | inl e ↦ inl (ap (option_map (λ n. n + 2)) e)
            | inr h ↦ inr (ap (option_map (λ n. n + 2)) h.0, more (marked_size b close false false (bs ++ 10 ∷ w)) h.1)
          ]

  -- ---- where they are

  module _ (x : List ℕ) where
    abbrev long : List ℕ
    long = x ++ 10 ∷ w

    -- what begins in a further line
    far-title : (b : Bool) (from : ℕ) (o : Option ℕ) → length x < from → IfSome (cond b None (option_map (stretch_at from) o)) (λ t. length x < end t)
    far-title true from o h = tt
    far-title false from None h = tt
    far-title false from (Some n) h = omega (arith, h)

    title-at-shorter : (at : ℕ) → at ≤ length x → (title_at long at ≡ title_at x at) ⊎ ((title_at x at ≡ None) × IfSome (title_at long at) (λ t. length x < end t))
    title-at-shorter at h =
        elim (gap-longer w (drop at x)) [
          | inl same ↦ near same (title-shorter (drop (at + gap (drop at x)) x))
          | inr none ↦
              let white = length (drop at x) + 1 + prefix_len is_white w in
              let is : title_at long at ≡ title_by w long at white = ap (title_by w long at) (ap gap (drop-longer w at x h) ∙ none.1) in
              let short : title_at x at ≡ None =
              ap (λ o. cond (gap (drop at x) == 0) None (option_map (stretch_at (at + gap (drop at x))) o)) (ap title_size (sym (drop-drop (gap (drop at x)) at x) ∙ none.0)) ∙ cond-same (gap (drop at x) == 0) None in
              inr (short, subst (λ (o : Option Stretch). IfSome o (λ t. length x < end t)) (sym is) (far-title (white == 0) (at + white) (title_size (drop (at + white) long)) (omega (arith, h, length-drop at x))))
        ]
      where
        within : at + gap (drop at x) ≤ length x
        within = omega (arith, h, gap-inside (drop at x), length-drop at x)

        far : (b : Bool) (o : Option ℕ) → IfSome o (λ n. length (drop (at + gap (drop at x)) x) < n) → IfSome (cond b None (option_map (stretch_at (at + gap (drop at x))) o)) (λ t. length x < end t)
        far true o k = tt
        far false None k = tt
        far false (Some n) k = omega (arith, k, within, length-drop (at + gap (drop at x)) x)

        near : gap (drop at x ++ 10 ∷ w) ≡ gap (drop at x)
            → (title_size (drop (at + gap (drop at x)) x ++ 10 ∷ w) ≡ title_size (drop (at + gap (drop at x)) x)) ⊎ ((title_size (drop (at + gap (drop at x)) x) ≡ None) × IfSome (title_size (drop (at + gap (drop at x)) x ++ 10 ∷ w)) (λ n. length (drop (at + gap (drop at x)) x) < n))
            → (title_at long at ≡ title_at x at) ⊎ ((title_at x at ≡ None) × IfSome (title_at long at) (λ t. length x < end t))
        near same k =
            let g = gap (drop at x) in
            let is : title_at long at ≡ cond (g == 0) None (option_map (stretch_at (at + g)) (title_size (drop (at + g) x ++ 10 ∷ w))) =
            ap (title_by w long at) (ap gap (drop-longer w at x h) ∙ same) ∙ ap (λ l. cond (g == 0) None (option_map (stretch_at (at + g)) (title_size l))) (drop-longer w (at + g) x within) in
            elim k [
              | inl e ↦ inl (is ∙ ap (λ o. cond (g == 0) None (option_map (stretch_at (at + g)) o)) e)
              | inr e ↦ inr (
                ap (λ o. cond (g == 0) None (option_map (stretch_at (at + g)) o)) e.0 ∙ cond-same (g == 0) None,
                subst (λ (o : Option Stretch). IfSome o (λ t. length x < end t)) (sym is) (far (g == 0) (title_size (drop (at + g) x ++ 10 ∷ w)) e.1),
              )
            ]

    destination-at-shorter : (at : ℕ) → at ≤ length x → (destination_at long at ≡ destination_at x at) ⊎ IfSome (destination_at long at) (λ s. length x < end s)
    destination-at-shorter at h =
        elim (gap-longer w (drop at x)) [
          | inl same ↦
              let g = gap (drop at x) in
              let within : at + g ≤ length x = omega (arith, h, gap-inside (drop at x), length-drop at x) in
              inl (ap (λ n. destination_by w long (at + n)) (ap gap (drop-longer w at x h) ∙ same) ∙ ap (option_map (stretch_at (at + g))) (ap destination_size (drop-longer w (at + g) x within) ∙ destination-longer w (drop (at + g) x)))
          | inr none ↦
              let white = length (drop at x) + 1 + prefix_len is_white w in
              let is : destination_at long at ≡ destination_by w long (at + white) = ap (λ n. destination_by w long (at + n)) (ap gap (drop-longer w at x h) ∙ none.1) in
              inr (subst (λ (o : Option Stretch). IfSome o (λ s. length x < end s)) (sym is) (far (at + white) (omega (arith, h, length-drop at x)) (destination_size (drop (at + white) long))))
        ]
      where
        far : (from : ℕ) → length x < from → (o : Option ℕ) → IfSome (option_map (stretch_at from) o) (λ s. length x < end s)
        far from k None = tt
        far from k (Some n) = omega (arith, k)

    label-shorter : (label_at long ≡ label_at x) ⊎ IfSome (label_at long) (λ s. length x < end s)
    label-shorter = by (begins_with 91 (drop p x)) refl
      where
        p : ℕ
        p = prefix_len is_white x

        few : p ≤ length x
        few = prefix_len-le-length is_white x

        begun : begins_with 91 (drop p long) ≡ begins_with 91 (drop p x)
        begun = ap (begins_with 91) (drop-longer w p x few) ∙ begins-longer w 91 (drop p x) refl

        at-long : (b : Bool) → begins_with 91 (drop p x) ≡ b → label_at long ≡ cond b (sized w p long (label_size (drop (p + 1) long))) None
        at-long b e = ap (label_by w long) (white-longer w x) ∙ ap (λ (c : Bool). cond c (sized w p long (label_size (drop (p + 1) long))) None) (begun ∙ e)

        at-short : (b : Bool) → begins_with 91 (drop p x) ≡ b → label_at x ≡ cond b (sized w p x (label_size (drop (p + 1) x))) None
        at-short b e = ap (λ (c : Bool). cond c (sized w p x (label_size (drop (p + 1) x))) None) e

        far : (n : ℕ) (b : Bool) → length x < p + (n + 2) → IfSome (cond b (Some (stretch_at p (n + 2))) None) (λ s. length x < end s)
        far n true h = h
        far n false h = tt

        one : p + 1 ≤ length x → (o : Option ℕ) → label_size (drop (p + 1) x) ≡ o → sized w p long o ≡ sized w p x o
        one within None e = refl
        one within (Some n) e =
            let less = marked-within 91 93 false false (drop (p + 1) x) n e in
            let near : p + n + 2 ≤ length x = omega (arith, less, length-drop (p + 1) x) in
            let same : test w p long n ≡ test w p x n =
            (λ k. is_label (take n (drop-longer w (p + 1) x within k)) && begins_with 58 (drop-longer w (p + n + 2) x near k))
            ∙ (λ k. is_label (take-append-le n (drop (p + 1) x) (10 ∷ w) (omega (arith, less)) k) && begins-longer w 58 (drop (p + n + 2) x) refl k) in
            ap (λ (b : Bool). cond b (Some (stretch_at p (n + 2))) None) same

        beyond : p + 1 ≤ length x → (o : Option ℕ) → IfSome o (λ n. length (drop (p + 1) x) ≤ n) → IfSome (sized w p long o) (λ s. length x < end s)
        beyond within None k = tt
        beyond within (Some n) k = far n (test w p long n) (omega (arith, k, within, length-drop (p + 1) x))

        by : (b : Bool) → begins_with 91 (drop p x) ≡ b → (label_at long ≡ label_at x) ⊎ IfSome (label_at long) (λ s. length x < end s)
        by false e = inl (at-long false e ∙ sym (at-short false e))
        by true e =
            let within : p + 1 ≤ length x = omega (arith, begins-some 91 (drop p x) e, length-drop p x) in
            let size = ap label_size (drop-longer w (p + 1) x within) in
            elim (marked-shorter 91 93 false false (drop (p + 1) x)) [
              | inl same ↦ inl (at-long true e ∙ ap (sized w p long) (size ∙ same) ∙ one within (label_size (drop (p + 1) x)) refl ∙ sym (at-short true e))
              | inr none ↦ inr (subst (λ (o : Option Stretch). IfSome o (λ s. length x < end s)) (sym (at-long true e ∙ ap (sized w p long) size)) (beyond within (label_size (drop (p + 1) x ++ 10 ∷ w)) none.1))
            ]

    -- ---- a definition

    ended-shorter : (l de : Stretch) (t : Option Stretch) → end_of t de ≤ length x → ended long l de t ≡ ended x l de t
    ended-shorter l de t h =
        let at = end_of t de in
        ap (λ o. option_map {T = ℕ} {U = Definition} (λ n. record { label = l; destination = de; title = t; size = at + n }) o) (ap line_left (drop-longer w at x h) ∙ line-longer w (drop at x))

    ended-far : (y : List ℕ) (l de : Stretch) (t : Option Stretch) (d : Definition) → ended y l de t ≡ Some d → end_of t de ≤ d.size
    ended-far y l de t d e = by (line_left (drop (end_of t de) y)) e
      where
        by : (o : Option ℕ) → option_map {T = ℕ} {U = Definition} (λ n. record { label = l; destination = de; title = t; size = end_of t de + n }) o ≡ Some d → end_of t de ≤ d.size
        by None k = absurd (none-some d k)
        by (Some n) k = omega (arith, ap (λ (c : Definition). c.size) (same_Some _ d k))

    module _ (d : Definition) (small : d.size ≤ length x) where
      -- with its title, or without
      titled-shorter : (l de : Stretch) → end de ≤ length x → titled_or_not long l de (title_at long (end de)) ≡ Some d → titled_or_not x l de (title_at x (end de)) ≡ Some d
      titled-shorter l de h e = by (title_at long (end de)) refl (ended long l de (title_at long (end de))) refl e
        where
          alone : ended long l de None ≡ ended x l de None
          alone = ended-shorter l de None h

          either : (o : Option Definition) → o ≡ Some d → option_or o o ≡ Some d
          either None k = k
          either (Some c) k = k

          found : (t : Option Stretch) → end_of t de ≤ length x → title_at x (end de) ≡ t → (c : Definition) → ended long l de t ≡ Some c → c ≡ d → titled_or_not x l de (title_at x (end de)) ≡ Some d
          found t near same c k q = ap (titled_or_not x l de) same ∙ ap (λ o. option_or o (ended x l de None)) (sym (ended-shorter l de t near) ∙ k) ∙ ap (λ y. Some y) q

          -- the title is none, or in the same lines
          with : (t : Option Stretch) (c : Definition) → title_at long (end de) ≡ t → ended long l de t ≡ Some c → c ≡ d → titled_or_not x l de (title_at x (end de)) ≡ Some d
          with None c is k q =
              elim (title-at-shorter (end de) h) [
                | inl same ↦ found None h (sym same ∙ is) c k q
                | inr none ↦ found None h none.0 c k q
              ]
          with (Some t) c is k q =
              let near : end t ≤ length x = omega (arith, ended-far long l de (Some t) c k, ap (λ (y : Definition). y.size) q, small) in
              elim (title-at-shorter (end de) h) [
                | inl same ↦ found (Some t) near (sym same ∙ is) c k q
                | inr none ↦ absurd (omega (arith, near, subst (λ (o : Option Stretch). IfSome o (λ s. length x < end s)) is none.1))
              ]

          -- it is given back
          without : (t : Option Stretch) → title_at long (end de) ≡ t → ended long l de t ≡ None → ended long l de None ≡ Some d → titled_or_not x l de (title_at x (end de)) ≡ Some d
          without t is k q =
              let last : ended x l de None ≡ Some d = sym alone ∙ q in
              elim (title-at-shorter (end de) h) [
                | inl same ↦ back t (sym same ∙ is) (subst (λ (o : Option Stretch). IfSome o (λ s. (end de ≤ s.from) × (end s ≤ length x))) (sym same ∙ is) (title-within x (end de) h)) k last
                | inr none ↦ ap (titled_or_not x l de) none.0 ∙ either (ended x l de None) last
              ]
            where
              back : (t : Option Stretch) → title_at x (end de) ≡ t → IfSome t (λ s. (end de ≤ s.from) × (end s ≤ length x)) → ended long l de t ≡ None → ended x l de None ≡ Some d → titled_or_not x l de (title_at x (end de)) ≡ Some d
              back None is few k last = ap (titled_or_not x l de) is ∙ either (ended x l de None) last
              back (Some t) is few k last = ap (titled_or_not x l de) is ∙ ap (λ o. option_or o (ended x l de None)) (sym (ended-shorter l de (Some t) few.1) ∙ k) ∙ last

          by : (t : Option Stretch) → title_at long (end de) ≡ t → (o : Option Definition) → ended long l de (title_at long (end de)) ≡ o → option_or o (ended long l de None) ≡ Some d → titled_or_not x l de (title_at x (end de)) ≡ Some d
          by t is None k q = without t is (ap (ended long l de) (sym is) ∙ k) q
          by t is (Some c) k q = with t c is (ap (ended long l de) (sym is) ∙ k) (same_Some c d q)

      -- it has its destination
      titled-far : (y : List ℕ) (l de : Stretch) (t : Option Stretch) → IfSome t (λ s. end de ≤ s.from) → titled_or_not y l de t ≡ Some d → end de ≤ d.size
      titled-far y l de t h e = by (ended y l de t) refl e
        where
          least : (t : Option Stretch) → IfSome t (λ s. end de ≤ s.from) → end de ≤ end_of t de
          least None h = omega arith
          least (Some s) h = omega (arith, h)

          by : (o : Option Definition) → ended y l de t ≡ o → option_or o (ended y l de None) ≡ Some d → end de ≤ d.size
          by None k q = ended-far y l de None d q
          by (Some c) k q = let same = same_Some c d q in omega (arith, ended-far y l de t c k, least t h, ap (λ (a : Definition). a.size) same)

      pub definition-shorter : definition_at long ≡ Some d → definition_at x ≡ Some d
      definition-shorter e = one (label_at long) refl e
        where
          title-later : (at : ℕ) → IfSome (title_at long at) (λ s. at ≤ s.from)
          title-later at = by (gap (drop at long) == 0) (title_size (drop (at + gap (drop at long)) long))
            where
              by : (b : Bool) (o : Option ℕ) → IfSome (cond b None (option_map (stretch_at (at + gap (drop at long))) o)) (λ s. at ≤ s.from)
              by true o = tt
              by false None = tt
              by false (Some n) = omega arith

          destination-later : (at : ℕ) → IfSome (destination_at long at) (λ s. at ≤ s.from)
          destination-later at = by (destination_size (drop (at + gap (drop at long)) long))
            where
              by : (o : Option ℕ) → IfSome (option_map (stretch_at (at + gap (drop at long))) o) (λ s. at ≤ s.from)
              by None = tt
              by (Some n) = omega arith

          two : (l : Stretch) → label_at long ≡ Some l → (o : Option Stretch) → destination_at long (end l + 1) ≡ o → option_and_then (λ de. titled_or_not long l de (title_at long (end de))) o ≡ Some d → definition_at x ≡ Some d
          two l is None at k = absurd (none-some d k)
          two l is (Some de) at k =
              let size = titled-far long l de (title_at long (end de)) (title-later (end de)) k in
              let later = subst (λ (o : Option Stretch). IfSome o (λ s. end l + 1 ≤ s.from)) at (destination-later (end l + 1)) in
              let near : end l + 1 ≤ length x = omega (arith, later, size, small) in
              let titled = titled-shorter l de (omega (arith, size, small)) k in
              let label : label_at x ≡ Some l = elim label-shorter [
                | inl same ↦ sym same ∙ is
                | inr far ↦ absurd (omega (arith, near, subst (λ (o : Option Stretch). IfSome o (λ s. length x < end s)) is far))
              ] in
              let destination : destination_at x (end l + 1) ≡ Some de = elim (destination-at-shorter (end l + 1) near) [
                | inl same ↦ sym same ∙ at
                | inr far ↦ absurd (omega (arith, size, small, subst (λ (o : Option Stretch). IfSome o (λ s. length x < end s)) at far))
              ] in
              ap (λ o. option_and_then (λ l. option_and_then (λ de. titled_or_not x l de (title_at x (end de))) (destination_at x (end l + 1))) o) label
              ∙ ap (λ o. option_and_then (λ de. titled_or_not x l de (title_at x (end de))) o) destination ∙ titled

          one : (o : Option Stretch) → label_at long ≡ o → option_and_then (λ l. option_and_then (λ de. titled_or_not long l de (title_at long (end de))) (destination_at long (end l + 1))) o ≡ Some d → definition_at x ≡ Some d
          one None is k = absurd (none-some d k)
          one (Some l) is k = two l is (destination_at long (end l + 1)) refl k

-- ---- all definitions

few-left : (skip : ℕ) (y : List ℕ) → length (rest_from skip y) ≤ length y
few-left skip [] = omega arith
few-left (suc skip) (b ∷ bs) = omega (arith, few-left skip bs)
few-left zero (b ∷ bs) = by (λ n. few-left n bs) (definition_at (b ∷ bs))
  where
    by : ((n : ℕ) → length (rest_from n bs) ≤ length bs) → (o : Option Definition) → length (elim o as (λ _. List ℕ) [ None ↦ b ∷ bs | Some d ↦ rest_from d.size bs ]) ≤ suc (length bs)
    by h None = omega arith
    by h (Some d) = omega (arith, h d.size)

-- what is its own rest has no definitions
none-left : (w : List ℕ) → rest w ≡ w → definitions w ≡ []
none-left w e = by (length w) refl (definition_at w) refl
  where
    by : (n : ℕ) → length w ≡ n → (o : Option Definition) → definition_at w ≡ o → definitions w ≡ []
    by n l None is = no-more w is
    by zero l (Some d) is = ap definitions (nil_from_length w l)
    by (suc n) l (Some d) is =
        let some : 0 < length w = omega (arith, l) in
        let same = ap (λ (l : List ℕ). length l) (sym e ∙ rest-more w d some is) in
        absurd (omega (arith, same, few-left 0 (drop (d.size + 1) w), length-drop (d.size + 1) w, some))

module _ (w : List ℕ) (some : 0 < length w) where
  abbrev Same : List ℕ → Type 0
  Same x = (definitions x ≡ definitions (x ++ 10 ∷ w)) × (rest x ≡ [])

  -- one definition, and those behind it
  same-step : (x : List ℕ) → rest (x ++ 10 ∷ w) ≡ w → ((v : List ℕ) → length v < length x → rest (v ++ 10 ∷ w) ≡ w → Same v) → Same x
  same-step x e shorter = by (definition_at (x ++ 10 ∷ w)) refl
    where
      size : length (x ++ 10 ∷ w) ≡ length x + suc (length w)
      size = length-append x (10 ∷ w)

      more : 0 < length (x ++ 10 ∷ w)
      more = omega (arith, size)

      step : (d : Definition) → (d.size < length x) ⊎ (length x ≤ d.size) → definition_at x ≡ Some d → 0 < length x → definition_at (x ++ 10 ∷ w) ≡ Some d → d.size ≤ length x → Same x
      step d (inl less) here begun is small =
          let place = drop-longer w (d.size + 1) x (omega (arith, less)) in
          let next = shorter (drop (d.size + 1) x) (omega (arith, begun, length-drop (d.size + 1) x)) (ap rest (sym place) ∙ sym (rest-more (x ++ 10 ∷ w) d more is) ∙ e) in
          (one-more x d begun here ∙ ap (λ ds. d ∷ ds) (next.0 ∙ ap definitions (sym place)) ∙ sym (one-more (x ++ 10 ∷ w) d more is), rest-more x d begun here ∙ next.1)
      step d (inr last) here begun is small =
          let on : d.size + 1 ≡ length x + 1 = omega (arith, last, small) in
          let place : drop (d.size + 1) (x ++ 10 ∷ w) ≡ w =
          ap (λ k. drop k (x ++ 10 ∷ w)) on ∙ sym (drop-drop 1 (length x) (x ++ 10 ∷ w)) ∙ ap (drop 1) (drop-longer w (length x) x (omega arith) ∙ ap (λ v. v ++ 10 ∷ w) (drop_all (length x) x (omega arith))) in
          let gone : drop (d.size + 1) x ≡ [] = drop_all (d.size + 1) x (omega (arith, last)) in
          let none = none-left w (ap rest (sym place) ∙ sym (rest-more (x ++ 10 ∷ w) d more is) ∙ e) in
          (one-more x d begun here ∙ ap (λ ds. d ∷ ds) (ap definitions gone ∙ sym none ∙ ap definitions (sym place)) ∙ sym (one-more (x ++ 10 ∷ w) d more is), rest-more x d begun here ∙ ap rest gone)

      by : (o : Option Definition) → definition_at (x ++ 10 ∷ w) ≡ o → Same x
      by None is = absurd (omega (arith, size, ap (λ (l : List ℕ). length l) (sym (no-rest (x ++ 10 ∷ w) is) ∙ e)))
      by (Some d) is =
          let few = few-left 0 (drop (d.size + 1) (x ++ 10 ∷ w)) in
          let small : d.size ≤ length x = omega (arith, few, ap (λ (l : List ℕ). length l) (sym (rest-more (x ++ 10 ∷ w) d more is) ∙ e), length-drop (d.size + 1) (x ++ 10 ∷ w), size, some) in
          let here = definition-shorter w x d small is in
          let inside = subst (λ (o : Option Definition). IfSome o (λ c. IsInText x c)) here (definition-within x) in
          step d (cases_lt d.size (length x)) here (omega (arith, inside.colon, inside.size)) is small

  -- The lines up to what is left of a text have its definitions, and nothing is left of them
  pub definitions-shorter : (n : ℕ) (x : List ℕ) → length x ≤ n → rest (x ++ 10 ∷ w) ≡ w → Same x
  definitions-shorter zero x h e = same-step x e (λ v less is. absurd (omega (arith, less, h)))
  definitions-shorter (suc n) x h e = same-step x e (λ v less is. definitions-shorter n v (omega (arith, less, h)) is)

-- ---- where what is left begins

-- behind a definition its line ends
pub line-ends-there : (y : List ℕ) → IfSome (definition_at y) (λ d. line_ends (drop d.size y) ≡ true)
line-ends-there y = one (label_at y)
  where
    left : (at : ℕ) → IfSome (line_left (drop at y)) (λ n. line_ends (drop (at + n) y) ≡ true)
    left at = by (line_ends (drop (prefix_len is_white (drop at y)) (drop at y))) refl
      where
        by : (b : Bool) → line_ends (drop (prefix_len is_white (drop at y)) (drop at y)) ≡ b → IfSome (cond b (Some (prefix_len is_white (drop at y))) None) (λ n. line_ends (drop (at + n) y) ≡ true)
        by true e = ap line_ends (sym (drop-drop (prefix_len is_white (drop at y)) at y)) ∙ e
        by false e = tt

    three : (l de : Stretch) (t : Option Stretch) → IfSome (ended y l de t) (λ d. line_ends (drop d.size y) ≡ true)
    three l de t = by (line_left (drop (end_of t de) y)) (left (end_of t de))
      where
        by : (o : Option ℕ) → IfSome o (λ n. line_ends (drop (end_of t de + n) y) ≡ true) → IfSome (option_map {T = ℕ} {U = Definition} (λ n. record { label = l; destination = de; title = t; size = end_of t de + n }) o) (λ d. line_ends (drop d.size y) ≡ true)
        by None k = tt
        by (Some n) k = k

    both : (l de : Stretch) (o : Option Definition) → IfSome o (λ d. line_ends (drop d.size y) ≡ true) → IfSome (option_or o (ended y l de None)) (λ d. line_ends (drop d.size y) ≡ true)
    both l de None k = three l de None
    both l de (Some d) k = k

    two : (l : Stretch) (o : Option Stretch) → IfSome (option_and_then (λ de. titled_or_not y l de (title_at y (end de))) o) (λ d. line_ends (drop d.size y) ≡ true)
    two l None = tt
    two l (Some de) = both l de (ended y l de (title_at y (end de))) (three l de (title_at y (end de)))

    one : (o : Option Stretch) → IfSome (option_and_then (λ l. option_and_then (λ de. titled_or_not y l de (title_at y (end de))) (destination_at y (end l + 1))) o) (λ d. line_ends (drop d.size y) ≡ true)
    one None = tt
    one (Some l) = two l (destination_at y (end l + 1))

-- What is left begins a line
pub record Left (y w : List ℕ) : Type 0 where
  pub front : List ℕ
  pub is : y ≡ front ++ 10 ∷ w

left-step : (y : List ℕ) → 0 < length (rest y) → ((v : List ℕ) → length v < length y → 0 < length (rest v) → (rest v ≡ v) ⊎ Left v (rest v)) → (rest y ≡ y) ⊎ Left y (rest y)
left-step y some shorter = by (definition_at y) refl (line-ends-there y)
  where
    begun : 0 < length y
    begun = omega (arith, some, few-left 0 y)

    ends : (d : Definition) → definition_at y ≡ Some d → (v : List ℕ) → drop d.size y ≡ v → line_ends v ≡ true → (rest y ≡ y) ⊎ Left y (rest y)
    ends d is [] e k =
        let gone : drop (d.size + 1) y ≡ [] = sym (drop-drop 1 d.size y) ∙ ap (drop 1) e in
        absurd (omega (arith, some, ap (λ (l : List ℕ). length l) (rest-more y d begun is ∙ ap rest gone)))
    ends d is (b ∷ bs) e k =
        let next : drop (d.size + 1) y ≡ bs = sym (drop-drop 1 d.size y) ∙ ap (drop 1) e in
        let same : rest y ≡ rest bs = rest-more y d begun is ∙ ap rest next in
        let whole : y ≡ take d.size y ++ 10 ∷ bs = sym (take-append-drop d.size y) ∙ ap (λ l. take d.size y ++ l) (e ∙ ap (λ c. c ∷ bs) (eqb-true b 10 k)) in
        elim (shorter bs (omega (arith, ap (λ (l : List ℕ). length l) e, length-drop d.size y)) (omega (arith, some, ap (λ (l : List ℕ). length l) same))) [
          | inl own ↦ inr (record { front = take d.size y; is = whole ∙ ap (λ l. take d.size y ++ 10 ∷ l) (sym own ∙ sym same) })
          | inr more ↦ inr (record {
            front = take d.size y ++ 10 ∷ more.front;
            is = whole ∙ ap (λ l. take d.size y ++ 10 ∷ l) (more.is ∙ ap (λ l. more.front ++ 10 ∷ l) (sym same)) ∙ sym (append_assoc (take d.size y) (10 ∷ more.front) (10 ∷ rest y));
          })
        ]

    by : (o : Option Definition) → definition_at y ≡ o → IfSome o (λ d. line_ends (drop d.size y) ≡ true) → (rest y ≡ y) ⊎ Left y (rest y)
    by None is k = inl (no-rest y is)
    by (Some d) is k = ends d is (drop d.size y) refl k

pub left-begins : (n : ℕ) (y : List ℕ) → length y ≤ n → 0 < length (rest y) → (rest y ≡ y) ⊎ Left y (rest y)
left-begins zero y h some = left-step y some (λ v less more. absurd (omega (arith, less, h)))
left-begins (suc n) y h some = left-step y some (λ v less more. left-begins n v (omega (arith, less, h)) more)
