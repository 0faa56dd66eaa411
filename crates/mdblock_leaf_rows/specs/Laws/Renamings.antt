-- Events that got other names by edits: how edits make them, and what stays.
use Rattle.std.proofs.Common.{◌≡◌, ℕ, suc, ◌+◌, ◌≤◌, List, [], ◌∷◌, ◌++◌, true, false, Option, Some, None, length, map, refl, sym, ap, ◌∙◌, subst, arith}
use Rattle.std.specs.Prelude.{slice_get, option_map, All, AllPairs}
use Rattle.std.specs.List.{AllByRecursion}
use Rattle.std.proofs.lemmas.List.Elements.{All-from_recursion, recursion_from_All}
use Rattle.std.proofs.lemmas.List.Kept.{AllPairs-cons}
use Rattle.std.proofs.lemmas.Option.{none-some, same_Some}
use Rattle.std.proofs.lemmas.List.{map-append}
use Rattle.markdown_base.proofs.Orders.{IsFirstExit, AreTight, tight-at}
use Rattle.markdown_base.proofs.Seats.{stands-self}
use Rattle.markdown_base.specs.declared.event.Event.{Event}
use Rattle.markdown_base.specs.declared.event.Kind.TheVariants.{Exit}
use Rattle.markdown_base.specs.declared.event.Link.{Link}
use Rattle.markdown_base.specs.declared.event.Name.{Name as EventName}
use Rattle.markdown_base.specs.declared.event.Point.{Point}
use Rattle.markdown_base.specs.Events.{is_void, unlinked, with_ends, IsVoidTight, IsBalanced}
use Rattle.markdown_base.specs.Places.{stands_before, IsPointOf, IsShown}
use Rattle.markdown_edits.specs.Edits.{Edit, edit_at, AreDisjoint}
use Rattle.markdown_edits.specs.Edited.{as_addition, as_change, edited}
use Rattle.markdown_edits.specs.Links.{next_of, previous_of}
use Rattle.markdown_edits.specs.Survivors.{AreNew}
use Rattle.markdown_edits.specs.Woven.{of_list, Tagged, as_listed, place_in, placed_in, woven}
use Rattle.markdown_base.specs.OpenNames.{names_after, names_after_all}
use Rattle.markdown_base.proofs.Balanced.{balanced_from_open, names_after_balanced}
use Rattle.markdown_edits.proofs.Edits.Passes.{AreApart, events_at-none, is_removed-none, woven-at}
use Rattle.markdown_edits.proofs.Edits.Splices.{AreApart-edits, HasNo-edits}
use Rattle.markdown_tokenizer.specs.Engine.{IsWellFormed}
use Rattle.markdown_tokenizer.specs.Resolving.{IsInShape}
use Rattle.markdown_tokenizer.specs.Text.{Given}
use Rattle.mdblock_leaf_rows.specs.Laws.EditedLinks.{AddNoLinks, still-on, still-back, mutual-inside}
use Rattle.mdblock_leaf_rows.specs.HeadingEdits.{under}
use Rattle.mdblock_leaf_rows.specs.Renamings.{Told, kept, renamed, old, new, edits_from, IsNotVoid, AreTold, SameOpen}

-- ---- the edits

later : (es : List Edit) (from to n : ℕ) → from ≤ to → AreDisjoint to es n → AreDisjoint from es n
later [] from to n l h = omega (arith, l, h)
later (e ∷ es) from to n l h = (omega (arith, l, h.0), h.1)

-- each ends before the next one begins
pub told-apart : (i n : ℕ) (ts : List Told) → i + length ts ≡ n → AreDisjoint i (edits_from i ts) n
told-apart i n [] e = omega (arith, e)
told-apart i n (kept x ∷ ts) e = later (edits_from (i + 1) ts) i (i + 1) n (omega arith) (told-apart (i + 1) n ts (omega (arith, e)))
told-apart i n (renamed x names ∷ ts) e = (omega arith, told-apart (i + 1) n ts (omega (arith, e)))

-- ---- the list after them, up to the ends of links

abbrev bare : Tagged → Event
bare t = unlinked t.event

bare-additions : (e : Event) (names : List EventName) → map bare (map as_addition (map (under e) names)) ≡ map (under e) names
bare-additions e [] = refl
bare-additions e (n ∷ names) = ap (λ es. under e n ∷ es) (bare-additions e names)

pub same-length : (xs : List Event) (ts : List Told) → map unlinked xs ≡ old ts → length xs ≡ length ts
same-length [] [] e = refl
same-length [] (t ∷ ts) e = absurd (cc)
same-length (x ∷ xs) [] e = absurd (cc)
same-length (x ∷ xs) (t ∷ ts) e = let rest : map unlinked xs ≡ old ts = cc in ap suc (same-length xs ts rest)

woven-told : (i : ℕ) (ts : List Told) (xs : List Event) → map unlinked xs ≡ old ts → map bare (woven (map as_change (edits_from i ts)) i xs) ≡ new ts
woven-told i [] [] e = refl
woven-told i [] (x ∷ xs) e = absurd (cc)
woven-told i (t ∷ ts) [] e = absurd (cc)
woven-told i (kept y ∷ ts) (x ∷ xs) e =
    let first : unlinked x ≡ y = cc in
    let rest : map unlinked xs ≡ old ts = cc in
    let n = i + 1 + length ts in
    let ws = map as_change (edits_from (i + 1) ts) in
    let apart : AreApart (i + 1) ws n = AreApart-edits (edits_from (i + 1) ts) (i + 1) n (told-apart (i + 1) n ts refl) in
    let one : woven ws i (x ∷ xs) ≡ as_listed i x ∷ woven ws (i + 1) xs = rw (events_at-none ws (i + 1) n i apart (omega arith), is_removed-none ws (i + 1) n i apart (omega arith)) refl in
    ap (map bare) one ∙ ap (λ l. unlinked x ∷ l) (woven-told (i + 1) ts xs rest) ∙ ap (λ z. z ∷ new ts) first
woven-told i (renamed y names ∷ ts) (x ∷ xs) e =
    let rest : map unlinked xs ≡ old ts = cc in
    let n = i + 1 + length ts in
    let ws = map as_change (edits_from (i + 1) ts) in
    let d = as_change (edit_at i 1 (map (under y) names)) in
    let apart : AreApart (i + 1) ws n = AreApart-edits (edits_from (i + 1) ts) (i + 1) n (told-apart (i + 1) n ts refl) in
    let one : woven (d ∷ ws) i (x ∷ xs) ≡ map as_addition (map (under y) names) ++ woven ws (i + 1) xs = woven-at d ws n 1 (x ∷ xs) apart refl (omega arith) in
    ap (map bare) one ∙ map-append bare (map as_addition (map (under y) names)) (woven ws (i + 1) xs)
    ∙ ap (λ l. l ++ map bare (woven ws (i + 1) xs)) (bare-additions y names) ∙ ap (λ l. map (under y) names ++ l) (woven-told (i + 1) ts xs rest)

-- links that are moved are no part of it
moved-link : (f : ℕ → Option ℕ) (o : Option Link) → option_map (with_ends (λ k. None)) (option_map (with_ends f) o) ≡ option_map (with_ends (λ k. None)) o
moved-link f o = grind arith

placed-bare : (ts us : List Tagged) → map unlinked (placed_in ts us) ≡ map bare us
placed-bare ts [] = refl
placed-bare ts (u ∷ us) = rw (placed-bare ts us) (ap (λ (o : Option Link). record u.event { link = o } ∷ map bare us) (moved-link _ u.event.link))

-- the edited list, up to the ends of its links
pub edited-told : (ts : List Told) (xs : List Event) → map unlinked xs ≡ old ts → map unlinked (edited (edits_from 0 ts) xs) ≡ new ts
edited-told ts xs e = placed-bare (woven (map as_change (edits_from 0 ts)) 0 xs) (woven (map as_change (edits_from 0 ts)) 0 xs) ∙ woven-told 0 ts xs e

-- ---- balance

names-bare : (o : Option (List EventName)) (xs : List Event) → names_after_all o (map unlinked xs) ≡ names_after_all o xs
names-bare None xs = refl
names-bare (Some st) [] = refl
names-bare (Some st) (x ∷ xs) = names-bare (names_after x.kind x.name st) xs

-- ---- points

-- what holds of the points of events, and of each with each later one
abbrev pub OnPoints : (Point → Type 0) → List Event → Type 0
OnPoints P xs = AllByRecursion (λ (e : Event). P e.point) xs

abbrev pub OnPairs : (Point → Point → Type 0) → List Event → Type 0
OnPairs R [] = Unit {0}
OnPairs R (x ∷ xs) = OnPoints (R x.point) xs × OnPairs R xs

points-bare : (P : Point → Type 0) (xs : List Event) → OnPoints P (map unlinked xs) → OnPoints P xs
points-bare P [] h = tt
points-bare P (x ∷ xs) h = (h.0, points-bare P xs h.1)

points-linked : (P : Point → Type 0) (xs : List Event) → OnPoints P xs → OnPoints P (map unlinked xs)
points-linked P [] h = tt
points-linked P (x ∷ xs) h = (h.0, points-linked P xs h.1)

pairs-bare : (R : Point → Point → Type 0) (xs : List Event) → OnPairs R (map unlinked xs) → OnPairs R xs
pairs-bare R [] h = tt
pairs-bare R (x ∷ xs) h = (points-bare (R x.point) xs h.0, pairs-bare R xs h.1)

pairs-linked : (R : Point → Point → Type 0) (xs : List Event) → OnPairs R xs → OnPairs R (map unlinked xs)
pairs-linked R [] h = tt
pairs-linked R (x ∷ xs) h = (points-linked (R x.point) xs h.0, pairs-linked R xs h.1)

points-two : (P : Point → Type 0) (xs ys : List Event) → OnPoints P xs → OnPoints P ys → OnPoints P (xs ++ ys)
points-two P [] ys h k = k
points-two P (x ∷ xs) ys h k = (h.0, points-two P xs ys h.1 k)

points-under : (P : Point → Type 0) (e : Event) (names : List EventName) → P e.point → OnPoints P (map (under e) names)
points-under P e [] h = tt
points-under P e (n ∷ names) h = (h, points-under P e names h)

points-told : (P : Point → Type 0) (ts : List Told) → OnPoints P (old ts) → OnPoints P (new ts)
points-told P [] h = tt
points-told P (kept e ∷ ts) h = (h.0, points-told P ts h.1)
points-told P (renamed e names ∷ ts) h = points-two P (map (under e) names) (new ts) (points-under P e names h.0) (points-told P ts h.1)

pairs-under : (R : Point → Point → Type 0) → ((p : Point) → R p p) → (e : Event) (names : List EventName) (ys : List Event) → OnPoints (R e.point) ys → OnPairs R ys → OnPairs R (map (under e) names ++ ys)
pairs-under R self e [] ys h k = k
pairs-under R self e (n ∷ names) ys h k = (points-two (R e.point) (map (under e) names) ys (points-under (R e.point) e names (self e.point)) h, pairs-under R self e names ys h k)

pairs-told : (R : Point → Point → Type 0) → ((p : Point) → R p p) → (ts : List Told) → OnPairs R (old ts) → OnPairs R (new ts)
pairs-told R self [] h = tt
pairs-told R self (kept e ∷ ts) h = (points-told (R e.point) ts h.0, pairs-told R self ts h.1)
pairs-told R self (renamed e names ∷ ts) h = pairs-under R self e names (new ts) (points-told (R e.point) ts h.0) (pairs-told R self ts h.1)

-- the same by indices
pairs-at : (R : Point → Point → Type 0) (xs : List Event) → OnPairs R xs → AllPairs (λ e f. R e.point f.point) xs
pairs-at R [] h = λ i j d less within. absurd (omega (arith, within))
pairs-at R (x ∷ xs) h = AllPairs-cons (λ (e f : Event). R e.point f.point) x xs (All-from_recursion (λ (e : Event). R x.point e.point) xs h.0) (pairs-at R xs h.1)

pairs-of : (R : Point → Point → Type 0) (xs : List Event) → AllPairs (λ e f. R e.point f.point) xs → OnPairs R xs
pairs-of R [] h = tt
pairs-of R (x ∷ xs) h = (
  recursion_from_All (λ (e : Event). R x.point e.point) xs (λ j d within. h 0 (suc j) d (omega arith) (omega (arith, within))),
  pairs-of R xs (λ i j d less within. h (suc i) (suc j) d (omega (arith, less)) (omega (arith, within))),
)

-- ---- void spans

tight-of : (xs : List Event) → IsVoidTight xs → AreTight xs
tight-of [] h = tt
tight-of (x ∷ xs) h = (
  λ enters void. first-of xs x (h 0 x refl enters void),
  tight-of xs (λ k e is enters void.
      let n : suc k + 1 ≡ suc (k + 1) = omega arith in
      let next = h (suc k) e is enters void in
      rw n at next),
)
  where
    first-of : (xs : List Event) (x : Event) → ((f : Event) × (slice_get (x ∷ xs) 1 ≡ Some f) × (f.kind ≡ Exit) × (f.name ≡ x.name)) → IsFirstExit x.name xs
    first-of [] x h = absurd (none-some h.0 h.1)
    first-of (y ∷ ys) x h = let same = same_Some y h.0 h.1 in subst (λ (z : Event). (z.kind ≡ Exit) × (z.name ≡ x.name)) (sym same) (h.2, h.3)

tight-bare : (xs : List Event) → AreTight (map unlinked xs) → AreTight xs
tight-bare [] h = tt
tight-bare (x ∷ []) h = h
tight-bare (x ∷ y ∷ xs) h = (h.0, tight-bare (y ∷ xs) h.1)

tight-linked : (xs : List Event) → AreTight xs → AreTight (map unlinked xs)
tight-linked [] h = tt
tight-linked (x ∷ []) h = h
tight-linked (x ∷ y ∷ xs) h = (h.0, tight-linked (y ∷ xs) h.1)

tight-under : (e : Event) (names : List EventName) (ys : List Event) → AllByRecursion (λ n. is_void n ≡ false) names → AreTight ys → AreTight (map (under e) names ++ ys)
tight-under e [] ys h k = k
tight-under e (n ∷ names) ys h k = ((λ enters void. absurd (let both : false ≡ true = sym h.0 ∙ void in cc)), tight-under e names ys h.1 k)

-- an exit of a void name that comes first still does
still-first : (n : EventName) (ts : List Told) → is_void n ≡ true → AllByRecursion IsNotVoid ts → IsFirstExit n (old ts) → IsFirstExit n (new ts)
still-first n [] void h first = first
still-first n (kept e ∷ ts) void h first = first
still-first n (renamed e names ∷ ts) void h first = absurd (let both : false ≡ true = sym h.0.0 ∙ ap is_void first.1 ∙ void in cc)

tight-told : (ts : List Told) → AllByRecursion IsNotVoid ts → AreTight (old ts) → AreTight (new ts)
tight-told [] h k = tt
tight-told (kept e ∷ ts) h k = ((λ enters void. still-first e.name ts void h.1 (k.0 enters void)), tight-told ts h.1 k.1)
tight-told (renamed e names ∷ ts) h k = tight-under e names (new ts) h.0.1 (tight-told ts h.1 k.1)

-- ---- links

additions-unlinked : (e : Event) (names : List EventName) → AllByRecursion (λ (t : Tagged). t.event.link ≡ None) (map as_addition (map (under e) names))
additions-unlinked e [] = tt
additions-unlinked e (n ∷ names) = (refl, additions-unlinked e names)

-- what the edits add has none
pub told-unlinked : (i : ℕ) (ts : List Told) → AddNoLinks (map as_change (edits_from i ts))
told-unlinked i [] = tt
told-unlinked i (kept e ∷ ts) = told-unlinked (i + 1) ts
told-unlinked i (renamed e names ∷ ts) = (additions-unlinked e names, told-unlinked (i + 1) ts)

zero-plus : (n : ℕ) → 0 + n ≡ n
zero-plus n = omega arith

-- ---- all of it

module _ (ts : List Told) (xs : List Event) (es : List Edit) (told : AreTold ts xs es) where
  after-is : map unlinked (edited es xs) ≡ new ts
  after-is = ap (λ ds. map unlinked (edited ds xs)) told.edits_are ∙ edited-told ts xs told.events_are

  -- they are balanced after the edits
  pub told-balanced : SameOpen ts → IsBalanced xs → IsBalanced (edited es xs)
  told-balanced same balanced =
      balanced_from_open (edited es xs)
      (sym (names-bare (Some []) (edited es xs)) ∙ ap (names_after_all (Some [])) after-is ∙ same ∙ ap (names_after_all (Some [])) (sym told.events_are) ∙ names-bare (Some []) xs
      ∙ names_after_balanced balanced [])

  points-after : (P : Point → Type 0) → All (λ e. P e.point) xs → All (λ e. P e.point) (edited es xs)
  points-after P h =
      let before = subst (OnPoints P) told.events_are (points-linked P xs (recursion_from_All (λ (e : Event). P e.point) xs h)) in
      All-from_recursion (λ (e : Event). P e.point) (edited es xs) (points-bare P (edited es xs) (subst (OnPoints P) (sym after-is) (points-told P ts before)))

  pairs-after : (R : Point → Point → Type 0) → ((p : Point) → R p p) → AllPairs (λ e f. R e.point f.point) xs → AllPairs (λ e f. R e.point f.point) (edited es xs)
  pairs-after R self h =
      let before = subst (OnPairs R) told.events_are (pairs-linked R xs (pairs-of R xs h)) in
      pairs-at R (edited es xs) (pairs-bare R (edited es xs) (subst (OnPairs R) (sym after-is) (pairs-told R self ts before)))

  tight-after : IsVoidTight xs → IsVoidTight (edited es xs)
  tight-after h =
      let before = subst AreTight told.events_are (tight-linked xs (tight-of xs h)) in
      tight-at (edited es xs) (tight-bare (edited es xs) (subst AreTight (sym after-is) (tight-told ts told.no_void before)))

  -- and well formed
  pub told-well-formed : (g : Given) → SameOpen ts → IsWellFormed g xs → IsWellFormed g (edited es xs)
  told-well-formed g same formed = record {
    balanced = told-balanced same formed.balanced;
    void_tight = tight-after formed.void_tight;
    at_places = points-after (IsPointOf g.tab g.bytes) formed.at_places;
    in_order = (pairs-after (λ p q. stands_before q p ≡ false) stands-self formed.in_order.0, points-after (IsShown g.bytes) formed.in_order.1);
  }

  -- the edits can be made
  pub told-edits-apart : AreDisjoint 0 es (length xs)
  told-edits-apart = subst (λ ds. AreDisjoint 0 ds (length xs)) (sym told.edits_are) (told-apart 0 (length xs) ts (ap (λ n. 0 + n) (sym (same-length xs ts told.events_are)) ∙ zero-plus (length xs)))

  additions-new : AreNew (map as_change es)
  additions-new n = All-from_recursion (λ w. place_in (of_list n) w.events ≡ None) (map as_change es) (HasNo-edits n es)

  -- and links stay mutual
  pub told-in-shape : SameOpen ts → IsBalanced xs → ((i j : ℕ) → next_of xs i ≡ Some j → previous_of xs j ≡ Some i) → ((i j : ℕ) → previous_of xs j ≡ Some i → next_of xs i ≡ Some j) → IsInShape (edited es xs)
  told-in-shape same balanced on back =
      let unlinked = subst (λ ds. AddNoLinks (map as_change ds)) (sym told.edits_are) (told-unlinked 0 ts) in
      let on_after = still-on (map as_change es) xs additions-new unlinked on in
      let back_after = still-back (map as_change es) xs additions-new unlinked back in
      record {
        balanced = told-balanced same balanced;
        inside = mutual-inside (edited es xs) on_after back_after;
        chained = λ i j. (on_after i j, back_after i j);
      }
