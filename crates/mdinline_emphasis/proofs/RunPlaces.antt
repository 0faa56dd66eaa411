-- The edits of runs, one by one, and that the runs of a list have room.
use Rattle.mdinline_emphasis.proofs.Prelude.{◌≡◌, ℕ, zero, suc, ◌+◌, ◌-◌, ◌<◌, ◌≤◌, Bool, cond, List, [], ◌∷◌, ◌++◌, Option, Some, inl, inr, map, take, drop, drop-cons, length, get_or, refl, sym, ap, ◌∙◌, subst, arith, ◌==◌, ◌&&◌, slice_get, cases_Bool, nat_tests, map-append, All-head, All-tail, take-suc, AreDisjoint, Event, Edit, edit_at, put_after, removal_at, Delimiters, Run, HasRoom, markers, standing, AreApart, AllHaveRoom, ArePlacesInside, in_place, edits_of, index_of, index_of_event, is_sequence, depth_after, run_at, runs_from, as_run}
use Rattle.mdinline_emphasis.proofs.RunEdits.{placed_from, placed-step, placed-within}
use Rattle.mdinline_emphasis.proofs.RunTexts.{HasRuns}

-- ---- one edit more, behind the others

abbrev AllBelow : ℕ → List Edit → Type 0
AllBelow n [] = Unit {0}
AllBelow n (e ∷ es) = (e.index < n) × AllBelow n es

put-behind : (es : List Edit) (d : Edit) → AllBelow d.index es → put_after es d ≡ es ++ d ∷ []
put-behind [] d h = refl
put-behind (e ∷ es) d h = grind (arith, nat_tests, h.0, put-behind es d h.1)

removes-none : (es : List Edit) (n : ℕ) → AllBelow n es → removal_at es n ≡ 0
removes-none [] n h = refl
removes-none (e ∷ es) n h = grind (arith, nat_tests, h.0, removes-none es n h.1)

-- the run at an index is behind those before it
behind-others : (ds : List Delimiters) (from i : ℕ) (d : Delimiters) → AreApart from (map index_of (map as_run ds)) → i < length ds → d ≡ get_or ds i d
    → AllBelow d.index (edits_of (map as_run (take i ds))) × (from ≤ d.index)
behind-others [] from i d h inside is = absurd (omega (arith, inside))
behind-others (x ∷ ds) from zero d h inside is = (tt, subst (λ (y : Delimiters). from ≤ y.index) (sym is) h.0)
behind-others (x ∷ ds) from (suc i) d h inside is =
    let rest = behind-others ds (x.index + 2) i d h.1 (omega (arith, inside)) is in
    ((omega (arith, rest.1), rest.0), omega (arith, h.0, rest.1))

module _ (ds : List Delimiters) (i : ℕ) (d : Delimiters) (inside : i < length ds) (is : d ≡ get_or ds i d) where
  pub fits-behind : AreApart 0 (map index_of (map as_run ds)) → removal_at (edits_of (map as_run (take i ds))) d.index ≡ 0
  fits-behind h = removes-none (edits_of (map as_run (take i ds))) d.index (behind-others ds 0 i d h inside is).0

  pub one-more : AreApart 0 (map index_of (map as_run ds)) → put_after (edits_of (map as_run (take i ds))) (edit_at d.index 2 (in_place (as_run d))) ≡ edits_of (map as_run (take (i + 1) ds))
  one-more h =
      put-behind (edits_of (map as_run (take i ds))) (edit_at d.index 2 (in_place (as_run d))) (behind-others ds 0 i d h inside is).0
      ∙ sym (map-append (λ r. edit_at r.index 2 (in_place r)) (map as_run (take i ds)) (as_run d ∷ []))
      ∙ ap edits_of (sym (map-append as_run (take i ds) (d ∷ [])))
      ∙ ap (λ y. edits_of (map as_run (take i ds ++ y ∷ []))) is
      ∙ ap (λ ys. edits_of (map as_run ys)) (sym (take-suc ds i d inside))
      ∙ ap (λ n. edits_of (map as_run (take n ds))) (let same : suc i ≡ i + 1 = omega arith in same)

  pub room-at : AllHaveRoom (map standing (map as_run ds)) → HasRoom (markers (as_run d)) d.start
  room-at h = subst (λ (y : Delimiters). HasRoom (markers (as_run y)) y.start) (sym is) (found ds i inside h)
    where
      found : (xs : List Delimiters) (n : ℕ) → n < length xs → AllHaveRoom (map standing (map as_run xs)) → HasRoom (markers (as_run (get_or xs n d))) (get_or xs n d).start
      found [] n lt all = absurd (omega (arith, lt))
      found (x ∷ xs) zero lt all = all.0
      found (x ∷ xs) (suc n) lt all = found xs n (omega (arith, lt)) all.1

  -- the runs from an index on begin with the one there
  run-next : map as_run (drop i ds) ≡ as_run d ∷ map as_run (drop (i + 1) ds)
  run-next =
      let same : suc i ≡ i + 1 = omega arith in
      ap (map as_run) (drop-cons ds i d inside)
      ∙ ap (λ y. as_run y ∷ map as_run (drop (suc i) ds)) (sym is)
      ∙ ap (λ n. as_run d ∷ map as_run (drop n ds)) same

  -- it begins behind what was placed, and it and the others end in the list
  pub run-within : (from n : ℕ) → AreDisjoint from (edits_of (map as_run (drop i ds))) n → (from ≤ d.index) × (d.index + 2 ≤ n) × AreDisjoint (d.index + 2) (edits_of (map as_run (drop (i + 1) ds))) n
  run-within from n h =
      let here = subst (λ rs. AreDisjoint from (edits_of rs) n) run-next h in
      (here.0, placed-within (map as_run (drop (i + 1) ds)) (d.index + 2) n here.1, here.1)

  -- with it, what was placed and what is left are still the whole
  pub run-placed : (from : ℕ) (out events whole : List Event) → from ≤ d.index → out ++ placed_from (map as_run (drop i ds)) from (drop from events) ≡ whole
      → ((out ++ take (d.index - from) (drop from events)) ++ in_place (as_run d)) ++ placed_from (map as_run (drop (i + 1) ds)) (d.index + 2) (drop (d.index + 2) events) ≡ whole
  run-placed from out events whole order h =
      placed-step out events (as_run d) (map as_run (drop (i + 1) ds)) from order ∙ ap (λ rs. out ++ placed_from rs from (drop from events)) (sym run-next) ∙ h

-- ---- the runs of a list

pub apart : (i : ℕ) (rs : List Run) (xs : List Event) → HasRuns i rs xs → AreApart i (map index_of rs)
apart i [] xs h = tt
apart i (r ∷ rs) xs h = (omega (arith, h.6), apart (r.index + 2) rs h.1 h.9)

room : (bytes : List ℕ) (e f : Event) → (e.point.index ≤ length bytes) × HasRoom (length bytes - e.point.index) e.point → f.point.index ≤ length bytes → HasRoom (0 + (f.point.index - e.point.index + 0)) e.point
room bytes e f h k = (omega (arith, h.1.0, k), omega (arith, h.1.1, k))

pub all-room : (one : Bool) (bytes : List ℕ) (ys : List Event) (i depth : ℕ) (before : Option ℕ) → ArePlacesInside bytes ys → AllHaveRoom (map standing (runs_from one bytes i depth before ys))
all-room one bytes [] i depth before h = tt
all-room one bytes (e ∷ []) i depth before h = tt
all-room one bytes (e ∷ f ∷ es) i depth before h =
    let Fit : Event → Type 0 = λ x. (x.point.index ≤ length bytes) × HasRoom (length bytes - x.point.index) x.point in
    let first = All-head Fit e (f ∷ es) h in
    let others = All-tail Fit e (f ∷ es) h in
    let second = All-head Fit f es others in
    elim (cases_Bool (depth == 0 && is_sequence e f)) [
      | inl b ↦
          subst (λ c. AllHaveRoom (map standing (cond c (run_at one bytes i e f before (index_of_event (slice_get es 0)) ∷ runs_from one bytes (i + 2) depth (Some f.point.index) es) (runs_from one bytes (i + 1) (depth_after e.kind depth) (Some e.point.index) (f ∷ es))))) (sym b)
          (room bytes e f first second.0, all-room one bytes es (i + 2) depth (Some f.point.index) (All-tail Fit f es others))
      | inr b ↦
          subst (λ c. AllHaveRoom (map standing (cond c (run_at one bytes i e f before (index_of_event (slice_get es 0)) ∷ runs_from one bytes (i + 2) depth (Some f.point.index) es) (runs_from one bytes (i + 1) (depth_after e.kind depth) (Some e.point.index) (f ∷ es))))) (sym b)
          (all-room one bytes (f ∷ es) (i + 1) (depth_after e.kind depth) (Some e.point.index) others)
    ]
