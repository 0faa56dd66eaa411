-- Lemmas on walks over the parts of a list.
use Rattle.std.proofs.Common.{◌≡◌, ℕ, zero, suc, ◌<◌, Bool, true, false, cond, List, [], ◌∷◌, refl, sym, ap, ◌∙◌, arith}
use Rattle.std.specs.Prelude.{◌==◌, ◌&&◌, ◌||◌, not, filter, find, map, Option, Some}
use Rattle.std.specs.List.{list_any, take_while}
use Rattle.std.proofs.Math.Bool.{and-false, and-true}
use Rattle.std.proofs.lemmas.Bool.Decides.{nat_tests}
use Rattle.std.proofs.lemmas.List.Sums.{take_while-cons}
use Rattle.markdown_base.specs.declared.event.Event.{Event}
use Rattle.markdown_base.specs.declared.event.Kind.{Kind}
use Rattle.markdown_base.specs.declared.event.Kind.TheVariants.{Enter, Exit}
use Rattle.markdown_base.specs.declared.event.Name.{Name}
use Rattle.markdown_base.specs.declared.event.Point.{Point}
use Rattle.markdown_base.specs.Events.{same_name}
use Rattle.markdown_edits.specs.SpanWalks.{is_wanted}
use Rattle.mdblock_containers.specs.declared.lists.Known.{Known}
use Rattle.mdblock_containers.specs.declared.lists.Known.TheVariants.{Apart, Ended, Nothing}
use Rattle.mdblock_containers.specs.Lists.{Met, block_names, directly_by, directly_from, is_apart, is_apart_behind, is_blank_behind, is_spread}
use Rattle.mdblock_containers.specs.ListWalks.{apart_from, depth_next, depth_at, is_found, is_item, known_next, known_behind}

-- The parts of a span from an event on
module _ (e : Event) (es : List Event) where
  abbrev here : Met
  here = record { event = e; behind = es }

  abbrev rest : ℕ → List Met
  rest d = directly_from d es

  -- the event is of a span directly in it
  part_first : (d : ℕ) → depth_at e.kind d ≡ Some 0 → directly_from d (e ∷ es) ≡ here ∷ directly_from (depth_next e.kind 0) es
  part_first d h = by e.kind d h
    where
      by : (k : Kind) (d : ℕ) → depth_at k d ≡ Some 0 → directly_by k d here rest ≡ here ∷ rest (depth_next k 0)
      by Enter zero h = refl
      by Enter (suc d) h = let q : suc d ≡ 0 = cc in absurd (omega arith)
      by Exit zero h = absurd (cc)
      by Exit (suc zero) h = refl
      by Exit (suc (suc d)) h = let q : suc d ≡ 0 = cc in absurd (omega arith)

  -- the event is of a span further in
  part_passed : (d n : ℕ) → depth_at e.kind d ≡ Some n → 0 < n → directly_from d (e ∷ es) ≡ directly_from (depth_next e.kind n) es
  part_passed d n h m = by e.kind d h
    where
      by : (k : Kind) (d : ℕ) → depth_at k d ≡ Some n → directly_by k d here rest ≡ rest (depth_next k n)
      by Enter zero h = let q : 0 ≡ n = cc in absurd (omega arith)
      by Enter (suc d) h = let q : suc d ≡ n = cc in ap rest (omega arith)
      by Exit zero h = absurd (cc)
      by Exit (suc zero) h = let q : 0 ≡ n = cc in absurd (omega arith)
      by Exit (suc (suc d)) h = let q : suc d ≡ n = cc in ap rest q

-- Spans of some names with a blank line between them
module _ (names : List Name) where
  abbrev is_one : Event → Bool
  is_one f = is_wanted names f.name

  module _ (e : Event) (es : List Event) where
    -- before a span of the names is no further blank line
    behind_one : (end : Point) → is_one e ≡ true → is_apart_behind names end (e ∷ es) ≡ false
    behind_one end q =
        ap (λ (t : List Event). list_any is_one (e ∷ es) && list_any (is_blank_behind end) t) (take_while-cons (λ f. not (is_one f)) e es ∙ ap (λ w. cond (not w) (e ∷ take_while (λ f. not (is_one f)) es) []) q)
        ∙ and-false (list_any is_one (e ∷ es))

    behind_other : (end : Point) → is_one e ≡ false
        → is_apart_behind names end (e ∷ es) ≡ (list_any is_one es && (is_blank_behind end e || list_any (is_blank_behind end) (take_while (λ f. not (is_one f)) es)))
    behind_other end q =
        ap (λ (t : List Event). list_any is_one (e ∷ es) && list_any (is_blank_behind end) t) (take_while-cons (λ f. not (is_one f)) e es ∙ ap (λ w. cond (not w) (e ∷ take_while (λ f. not (is_one f)) es) []) q)
        ∙ ap (λ w. (w || list_any is_one es) && (is_blank_behind end e || list_any (is_blank_behind end) (take_while (λ f. not (is_one f)) es))) q

    -- what is known one event on, where the event is of a span of the names and where it is not
    next_one : (known : Known) → is_one e ≡ true → is_found names known e ≡ false → apart_from names known (e ∷ es) ≡ apart_from names (Ended e.point) es
    next_one Nothing q h = ap (λ w. (w && is_apart_behind names e.point es) || is_apart names es) q
    next_one (Ended end) q h =
        ap (λ b. b || is_apart names (e ∷ es)) (behind_one end q) ∙ ap (λ w. (w && is_apart_behind names e.point es) || is_apart names es) q
    next_one Apart q h = absurd (cc)

    other : is_one e ≡ false → is_apart names (e ∷ es) ≡ is_apart names es
    other q = ap (λ w. (w && is_apart_behind names e.point es) || is_apart names es) q

    next_other : (known : Known) → is_one e ≡ false → apart_from names known (e ∷ es) ≡ apart_from names (known_behind known e) es
    next_other Nothing q = other q
    next_other (Ended end) q = ap (λ b. b || is_apart names (e ∷ es)) (behind_other end q) ∙ ap (λ b. behind_it || b) (other q) ∙ by (is_blank_behind end e)
      where
        any : Bool
        any = list_any is_one es

        later : Bool
        later = list_any (is_blank_behind end) (take_while (λ f. not (is_one f)) es)

        behind_it : Bool
        behind_it = any && (is_blank_behind end e || later)

        by : (b : Bool) → ((any && (b || later)) || is_apart names es) ≡ apart_from names (cond b Apart (Ended end)) es
        by true = ap (λ a. a || is_apart names es) (and-true any)
        by false = refl
    next_other Apart q = ap (λ w. (w || list_any is_one es) || is_apart names (e ∷ es)) q ∙ ap (λ b. list_any is_one es || b) (other q)

    apart_next : (known : Known) → is_found names known e ≡ false → apart_from names known (e ∷ es) ≡ apart_from names (known_next names known e) es
    apart_next known h = by (is_one e) refl
      where
        after : Bool → Known
        after w = cond w (Ended e.point) (known_behind known e)

        by : (b : Bool) → is_one e ≡ b → apart_from names known (e ∷ es) ≡ apart_from names (after (is_one e)) es
        by true q = next_one known q h ∙ sym (ap (λ w. apart_from names (after w) es) q)
        by false q = next_other known q ∙ sym (ap (λ w. apart_from names (after w) es) q)

  -- The same of the parts of a span
  abbrev pub spread_from : Known → ℕ → List Event → Bool
  spread_from known d es = apart_from names known (map (λ m. m.event) (directly_from d es))

  module _ (e : Event) (es : List Event) (known : Known) (d n : ℕ) where
    spread_next : depth_at e.kind d ≡ Some n → n ≡ 0 → is_found names known e ≡ false
        → spread_from known d (e ∷ es) ≡ spread_from (known_next names known e) (depth_next e.kind n) es
    spread_next h z f =
        ap (λ ms. apart_from names known (map (λ m. m.event) ms)) (part_first e es d (h ∙ ap Some z))
        ∙ apart_next e (map (λ m. m.event) (directly_from (depth_next e.kind 0) es)) known f
        ∙ ap (λ v. spread_from (known_next names known e) (depth_next e.kind v) es) (sym z)

    spread_passes : depth_at e.kind d ≡ Some n → 0 < n → spread_from known d (e ∷ es) ≡ spread_from known (depth_next e.kind n) es
    spread_passes h m = ap (λ ms. apart_from names known (map (λ m. m.event) ms)) (part_passed e es d n h m)

  -- one event on, whether or not it is of a span directly in it
  pub spread_step : (e : Event) (es : List Event) (known : Known) (d n : ℕ) → depth_at e.kind d ≡ Some n → ((n == 0) && is_found names known e) ≡ false
      → spread_from known d (e ∷ es) ≡ spread_from (cond (n == 0) (known_next names known e) known) (depth_next e.kind n) es
  spread_step e es known d zero h f = spread_next e es known d 0 h refl f
  spread_step e es known d (suc n) h f =
      let q : (suc n == 0) ≡ false = grind (arith, nat_tests) in
      spread_passes e es known d (suc n) h (omega arith)
      ∙ sym (ap (λ b. spread_from (cond b (known_next names known e) known) (depth_next e.kind (suc n)) es) q)

-- Items with a blank line between two of their blocks
abbrev pub spread_items_from : ℕ → List Event → Bool
spread_items_from d es = list_any (λ item. is_spread block_names item.behind) (filter (λ m. is_item m.event) (directly_from d es))

-- The first span of a name
module _ (name : Name) where
  abbrev pub first_from : ℕ → List Event → Option Met
  first_from d es = find (λ m. same_name m.event.name name) (directly_from d es)
