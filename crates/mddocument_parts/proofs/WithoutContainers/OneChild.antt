-- A list with one chain, of one chunk: with a child in its place, whose links lead within the child, these lead as far on as the child stands.
use Rattle.mddocument_parts.proofs.Prelude.{◌≡◌, ℕ, suc, ◌+◌, ◌-◌, ◌<◌, ◌≤◌, List, [], ◌∷◌, ◌++◌, Bool, true, false, cond, length, take, drop, length-append, refl, sym, ap, ◌∙◌, subst, arith, map, map-append, AllByRecursion, Option, Some, None, Event, Mark, linked_from}
use Rattle.std.specs.Prelude.{slice_get, option_and_then, IfSome}
use Rattle.std.proofs.lemmas.Option.{slice_get_within}
use Rattle.markdown_base.specs.declared.event.Link.{Link}
use Rattle.markdown_base.specs.Events.{EachEnd, EndsBelow, relinked}
use Rattle.markdown_edits.proofs.Edits.FinalPlaces.{length-olds, or_after, place_in-append}
use Rattle.markdown_edits.proofs.Edits.Passes.{olds, woven-pass}
use Rattle.markdown_edits.proofs.Edits.Splices.{relinked-agree}
use Rattle.markdown_edits.specs.Links.{next_of, previous_of}
use Rattle.markdown_edits.specs.Woven.{AreApart, Change, Tagged, changed, of_child, place_in, placed, placed_end, placed_in, woven}
use Rattle.markdown_children.proofs.Parts.Placed.{place_in-child_in, place_in-child_olds}
use Rattle.markdown_children.proofs.Parts.Kept.{untagged-olds}
use Rattle.markdown_children.specs.Children.{part_changes, tagged_child}
use Rattle.mdblock_leaf_blocks.specs.ChunksJoin.{ChunksMeet}
use Rattle.mddocument.proofs.InContainers.Merged.{IsBare, bare-placed, bare-same}
use Rattle.mddocument_parts.proofs.Links.{LinkBack, back-more}
use Rattle.mddocument_parts.proofs.WithoutContainers.Stretch.{front-taken}
use Rattle.markdown_base.specs.declared.event.Point.{Point}

-- links that lead so far on
abbrev pub moved_on : ℕ → Event → Event
moved_on k e = relinked (λ n. Some (k + n)) e

pub placed-unlinked : (ts : List Tagged) (i : ℕ) (xs : List Event) → AllByRecursion IsBare xs → placed_in ts (olds i xs) ≡ xs
placed-unlinked ts i xs h = bare-placed ts (olds i xs) (subst (AllByRecursion IsBare) (sym (untagged-olds i xs)) h) ∙ untagged-olds i xs

placed-child : (ts : List Tagged) (k n : ℕ) → ((m : ℕ) → m < n → place_in (of_child k m) ts ≡ Some (k + m)) → (j : ℕ) (es : List Event) → AllByRecursion (EndsBelow n) es → placed_in ts (tagged_child k j es) ≡ map (moved_on k) es
placed-child ts k n places j [] h = refl
placed-child ts k n places j (e ∷ es) h = (λ i. relinked-agree (λ m. place_in (of_child k m) ts) (λ m. Some (k + m)) n e places h.0 i ∷ placed-child ts k n places (j + 1) es h.1 i)

module _ (front back child : List Event) (c x : Event) where
  abbrev all : List Event
  all = front ++ (c ∷ x ∷ back)

  abbrev k : ℕ
  k = length front

  abbrev changes : List Change
  changes = part_changes k 0 (k ∷ []) (child ∷ [])

  abbrev after : List Tagged
  after = olds 0 front ++ (tagged_child k 0 child ++ olds (k + 2) back)

  long : length all ≡ k + suc (suc (length back))
  long = length-append front (c ∷ x ∷ back)

  apart : AreApart 0 changes (0 + length all)
  apart = (omega arith, omega (arith, long))

  woven-is : woven changes 0 all ≡ after
  woven-is =
      let less : k - 0 ≡ k = omega arith in
      let more : k + 2 - 0 ≡ k + 2 = omega arith in
      let taken : take (k - 0) all ≡ front = ap (λ n. take n all) less ∙ front-taken k front (c ∷ x ∷ back) refl in
      let dropped : drop (k + 2 - 0) all ≡ back = ap (λ n. drop n all) more ∙ two front in
      woven-pass changes 0 all apart ∙ (λ i. olds 0 (taken i) ++ (tagged_child k 0 child ++ olds (k + 2) (dropped i)))
    where
      two : (front : List Event) → drop (length front + 2) (front ++ (c ∷ x ∷ back)) ≡ back
      two [] = refl
      two (e ∷ front) = let one : suc (length front) + 2 ≡ suc (length front + 2) = omega arith in ap (λ n. drop n (e ∷ front ++ (c ∷ x ∷ back))) one ∙ two front

  places : (m : ℕ) → m < length child → place_in (of_child k m) after ≡ Some (k + m)
  places m l =
      let rest = olds (k + 2) back in
      let least : m - 0 ≡ m = omega arith in
      let inside : place_in (of_child k m) (tagged_child k 0 child) ≡ Some m = place_in-child_in k m 0 child (omega arith) (omega (arith, l)) ∙ ap (λ n. Some n) least in
      place_in-append (of_child k m) (olds 0 front) (tagged_child k 0 child ++ rest)
      ∙ (λ i. or_after (length-olds 0 front i) (place_in-child_olds k m 0 front i) ((place_in-append (of_child k m) (tagged_child k 0 child) rest ∙ ap (λ o. or_after (length (tagged_child k 0 child)) o (place_in (of_child k m) rest)) inside) i))

  pub one-changed : AllByRecursion IsBare front → AllByRecursion IsBare back → AllByRecursion (EndsBelow (length child)) child → changed changes all ≡ front ++ (map (moved_on k) child ++ back)
  one-changed h g b =
      ap placed woven-is
      ∙ map-append (λ (u : Tagged). relinked (placed_end after u.identity) u.event) (olds 0 front) (tagged_child k 0 child ++ olds (k + 2) back)
      ∙ ap (λ r. placed_in after (olds 0 front) ++ r) (map-append (λ (u : Tagged). relinked (placed_end after u.identity) u.event) (tagged_child k 0 child) (olds (k + 2) back))
      ∙ (λ i. placed-unlinked after 0 front h i ++ (placed-child after k (length child) places 0 child b i ++ placed-unlinked after (k + 2) back g i))

-- ---- chunks that meet lead within their list
all-by-get : (P : Event → Type 0) (es : List Event) → ((i : ℕ) (e : Event) → slice_get es i ≡ Some e → P e) → AllByRecursion P es
all-by-get P [] h = tt
all-by-get P (e ∷ es) h = (h 0 e refl, all-by-get P es (λ i. h (suc i)))

module _ (Meets : (exit behind : Point) → Type 0) (es : List Event) (meet : ChunksMeet Meets es) where
  next-below : (i d : ℕ) → next_of es i ≡ Some d → (i < length es) × (d < length es)
  next-below i d e =
      let b = meet.next i d e in
      let within = slice_get_within es d b.behind b.behind_at in
      let is = b.is in
      (omega (arith, within, is), within)

  ends-of : (i : ℕ) (e : Event) → slice_get es i ≡ Some e → EndsBelow (length es) e
  ends-of i e at = by e.link refl
    where
      by-previous : (l : Link) → e.link ≡ Some l → (o : Option ℕ) → l.previous ≡ o → IfSome o (λ k. k < length es)
      by-previous l is None p = tt
      by-previous l is (Some d) p =
          let back : previous_of es i ≡ Some d = ap (λ (o : Option Event). option_and_then (λ (e : Event). option_and_then (λ (l : Link). l.previous) e.link) o) at ∙ ap (λ (o : Option Link). option_and_then (λ (l : Link). l.previous) o) is ∙ p in
          (next-below d i ((meet.both_ways d i).1 back)).0

      by-next : (l : Link) → e.link ≡ Some l → (o : Option ℕ) → l.next ≡ o → IfSome o (λ k. k < length es)
      by-next l is None p = tt
      by-next l is (Some d) p =
          let on : next_of es i ≡ Some d = ap (λ (o : Option Event). option_and_then (λ (e : Event). option_and_then (λ (l : Link). l.next) e.link) o) at ∙ ap (λ (o : Option Link). option_and_then (λ (l : Link). l.next) o) is ∙ p in
          (next-below i d on).1

      by : (o : Option Link) → e.link ≡ o → IfSome o (EachEnd (λ k. k < length es))
      by None is = tt
      by (Some l) is = (by-previous l is l.previous refl, by-next l is l.next refl)

  pub meet-below : AllByRecursion (EndsBelow (length es)) es
  meet-below = all-by-get (EndsBelow (length es)) es ends-of

-- ---- marks behind others
-- the event of a mark has no link of its own
abbrev pub IsFresh : Mark → Type 0
IsFresh m = m.0.link ≡ None

pub linked-on : (k : ℕ) (marks : List Mark) (i j : ℕ) → j ≡ i + k → LinkBack i marks → AllByRecursion IsFresh marks → linked_from j marks ≡ map (moved_on k) (linked_from i marks)
linked-on k [] i j e h f = refl
linked-on k ((v, None) ∷ marks) i j e h f =
    (λ d. sym (bare-same v f.0 (λ n. Some (k + n))) d ∷ linked-on k marks (i + 1) (j + 1) (omega (arith, e)) (back-more (suc i) (i + 1) marks (omega arith) h) f.1 d)
linked-on k ((v, Some chunk) ∷ marks) i j e h f =
    let before = earlier chunk.has_previous h.0 in
    let behind = later chunk.has_next in
    let rest = linked-on k marks (i + 1) (j + 1) (omega (arith, e)) (back-more (suc i) (i + 1) marks (omega arith) h.1) f.1 in
    (λ d. (let w : Event = record v { link = Some (record { previous = before d; next = behind d; content = chunk.content }) } in w) ∷ rest d)
  where
    on : Option ℕ → Option ℕ
    on o = option_and_then (λ n. Some (k + n)) o

    earlier : (b : Bool) → (b ≡ true → 2 ≤ i) → cond b (Some (j - 2)) None ≡ on (cond b (Some (i - 2)) None)
    earlier true h = let few = h refl in let same : j - 2 ≡ k + (i - 2) = omega (arith, e, few) in ap (λ n. Some n) same
    earlier false h = refl

    later : (b : Bool) → cond b (Some (j + 2)) None ≡ on (cond b (Some (i + 2)) None)
    later true = let same : j + 2 ≡ k + (i + 2) = omega (arith, e) in ap (λ n. Some n) same
    later false = refl
