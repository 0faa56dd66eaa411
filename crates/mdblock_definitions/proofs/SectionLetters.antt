-- Lemmas on what is read as a letter of the lines of a section.
use Rattle.std.proofs.Common.{◌≡◌, ℕ, ◌+◌, ◌*◌, ◌^◌, ◌<◌, Bool, true, false, cond, List, [], ◌∷◌, ◌++◌, length, drop, refl, sym, ap, ◌∙◌, subst, arith, append_assoc}
use Rattle.std.specs.Prelude.{◌&&◌, is_some}
use Rattle.std.specs.List.{flat_map}
use Rattle.std.proofs.lemmas.List.{drop-drop}
use Rattle.markdown_base.specs.declared.configuration.Constructs.{Constructs}
use Rattle.markdown_base.specs.declared.event.Point.{Point}
use Rattle.markdown_base.specs.Virtual.{point}
use Rattle.mdblock_leaf_blocks.specs.LineKinds.{indent, underline_rank}
use Rattle.mdblock_lines.specs.Lines.{line_bytes, place_after}
use Rattle.mdblock_containers.specs.declared.spans.RowAt.{RowAt}
use Rattle.mdblock_containers.specs.Letters.{lazy_underline}
use Rattle.mdblock_containers.specs.Rows.{Row}
use Rattle.mdblock_containers.proofs.LazyLemmas.{HasLeft, begin_index, lazy_behind, lazy_is, rest_is, the}
use Rattle.mdblock_definitions.specs.Sectioned.{AreFirst, IsFilled, letters_in}
use Rattle.mdblock_definitions.specs.Skeleton.{text_begin}

module _ (t : ℕ) (bytes : List ℕ) (some : 0 < t) (limit : t * length bytes + 1 < 2 ^ 64) (on : Constructs) where
  module _ (x : RowAt) (xs : List RowAt) (r : Row) (rs : List Row) (has : HasLeft t bytes (x ∷ xs) (r ∷ rs)) where
    abbrev here : List ℕ
    here = drop x.row.columns (line_bytes t x.span.number 1 x.span.start (drop x.span.start bytes))

    abbrev place : Point
    place = place_after t bytes (point x.span.number 1 x.span.start 0) (x.row.columns + indent (drop x.row.columns (line_bytes t x.span.number 1 x.span.start (drop x.span.start bytes))))

    -- where its text begins
    begin-is : IsFilled r → place.index ∷ [] ≡ text_begin r
    begin-is more =
        let row = the t bytes some limit on x xs r rs has in
        (λ i. (place_after t bytes (point x.span.number 1 x.span.start 0) (row.is.columns i + indent (rest_is t bytes some limit on x xs r rs has i))).index ∷ []) ∙ begin_index t bytes some limit on x xs r rs has more

    -- what is read as a letter of it
    pub letter-is : (b : Bool) → (b ≡ true → IsFilled r) → cond b (place.index ∷ []) (cond (x.row.is_lazy && is_some (underline_rank on here)) (place.index ∷ []) []) ≡ cond b (text_begin r) (lazy_underline on r)
    letter-is true h = begin-is (h refl)
    letter-is false h = lazy_is t bytes some limit on x xs r rs has

  -- the next of the first lines
  pub record FirstNext (x : RowAt) (xs : List RowAt) (all : List Row) (i : ℕ) : Type 0 where
    pub row : Row
    pub is : drop i all ≡ row ∷ drop (i + 1) all
    pub behind : List RowAt
    pub rest : List Row
    pub has : HasLeft t bytes (x ∷ (xs ++ behind)) (row ∷ (drop (i + 1) all ++ rest))
    pub next : AreFirst t bytes xs (drop (i + 1) all)

  pub first-next : (x : RowAt) (xs ys : List RowAt) (all : List Row) (i : ℕ) → ys ≡ x ∷ xs → AreFirst t bytes ys (drop i all) → FirstNext x xs all i
  first-next x xs ys all i e h = by (drop i all) refl (subst (λ (l : List RowAt). AreFirst t bytes l (drop i all)) e h)
    where
      by : (qs : List Row) → drop i all ≡ qs → AreFirst t bytes (x ∷ xs) qs → FirstNext x xs all i
      by [] d k = absurd (omega (arith, k.size))
      by (q ∷ qs) d k =
          let back : qs ≡ drop (i + 1) all = sym (ap (drop 1) d) ∙ drop-drop 1 i all in
          let has : HasLeft t bytes (x ∷ (xs ++ k.behind)) (q ∷ (qs ++ k.rest)) = record { stack = k.stack; left = k.left } in
          let more = lazy_behind t bytes some limit on x (xs ++ k.behind) q (qs ++ k.rest) has in
          let next : AreFirst t bytes xs qs = record { stack = more.stack; behind = k.behind; rest = k.rest; left = more.left; size = omega (arith, k.size) } in
          record {
            row = q;
            is = d ∙ ap (λ l. q ∷ l) back;
            behind = k.behind;
            rest = k.rest;
            has = subst (λ (l : List Row). HasLeft t bytes (x ∷ (xs ++ k.behind)) (q ∷ (l ++ k.rest))) back has;
            next = subst (AreFirst t bytes xs) back next;
          }

  -- one line more
  letters-behind : (rs : List Row) → letters_in on false rs ≡ flat_map (lazy_underline on) rs
  letters-behind [] = refl
  letters-behind (r ∷ rs) = refl

  pub letters-more : (b : Bool) (r : Row) (rs left : List Row) (old new letters all : List ℕ) → left ≡ r ∷ rs → letters ≡ cond b (text_begin r) (lazy_underline on r) → new ≡ old ++ letters → old ++ letters_in on b left ≡ all → new ++ letters_in on false rs ≡ all
  letters-more b r rs left old new letters all e f g h =
      ap (λ l. l ++ letters_in on false rs) (g ∙ ap (λ l. old ++ l) f) ∙ append_assoc old (cond b (text_begin r) (lazy_underline on r)) (letters_in on false rs)
      ∙ ap (λ l. old ++ (cond b (text_begin r) (lazy_underline on r) ++ l)) (letters-behind rs) ∙ ap (λ l. old ++ letters_in on b l) (sym e) ∙ h

pub none-left : (t : ℕ) (bytes : List ℕ) (qs : List Row) → AreFirst t bytes [] qs → qs ≡ []
none-left t bytes [] h = refl
none-left t bytes (q ∷ qs) h = absurd (omega (arith, h.size))
