-- Links, images and emphasis leave each character reference whole.
use Rattle.mddocument_laws.proofs.Prelude.{◌≡◌, Bool, ℕ, List, [], ◌∷◌, ◌++◌, true, refl, inl, AllByRecursion, every-append, Event, Exit, Name, Point, Style, Run, closings, data_of, events_of_runs, later, markers_of_all, openings, paired, unlinked_event, runs_in, IsKept, is_made_of, as_data, spanning, with_links}
use Rattle.mdinline_links.proofs.Kept.{links-keep}
use Rattle.mddocument_laws.proofs.EmphasisEvents.{as-data-are, closings-are, data-are, openings-are}
use Rattle.mddocument_laws.proofs.LinkEvents.{AnyRun, IsOther as IsOtherName, any-runs, other-made, other-styles}
use Rattle.mddocument_laws.proofs.ReferenceSpans.{AreWhole, IsOther, others-whole, outside, spans-whole, whole-both}

-- what makes emphasis is no reference
closings-other : (p : Point) (ss : List Style) → AllByRecursion IsOther (closings p ss)
closings-other p ss = closings-are IsOther IsOtherName (λ e o. o) refl p ss (other-styles ss)

rest-other : (p : Point) (left : ℕ) (ss : List Style) → AllByRecursion IsOther (data_of p left ++ openings (later left p) ss)
rest-other p left ss =
    every-append IsOther (data_of p left) (openings (later left p) ss) (data-are IsOther IsOtherName (λ e o. o) refl p left)
    (openings-are IsOther IsOtherName (λ e o. o) refl (later left p) ss (other-styles ss))

module _ (Is : Event → List Event → Type 0) where
  abbrev Are : List Event → Type 0
  Are es = AreWhole Is es

  runs-whole : (texts : ℕ → List Event) → ((k : ℕ) → Are (texts k)) → (rs : List Run) → Are (events_of_runs texts rs)
  runs-whole texts h [] = refl
  runs-whole texts h (r ∷ rs) =
      let p = later (markers_of_all r.closed) r.start in
      let rest = data_of p r.left ++ openings (later r.left p) r.opened in
      whole-both Is ((texts r.index ++ closings r.start r.closed) ++ rest) (events_of_runs texts rs)
      (whole-both Is (texts r.index ++ closings r.start r.closed) rest (whole-both Is (texts r.index) (closings r.start r.closed) (h r.index) (others-whole Is (closings r.start r.closed) (closings-other r.start r.closed)))
      (others-whole Is rest (rest-other p r.left r.opened)))
      (runs-whole texts h rs)

  spanning-whole : (n : Name) (start end : Point) (es : List Event) → is_made_of n ≡ true → Are es → Are (spanning n start end es)
  spanning-whole n start end es made h = let o = other-made n made in let last = unlinked_event Exit n end ∷ [] in (outside, inl (o, refl), whole-both Is es last h (others-whole Is last (o, tt)))

  kept : IsKept (λ p. Unit {0}) Are AnyRun
  kept = record {
    places = λ e es h. (tt, tt);
    nothing = refl;
    together = whole-both Is;
    span_around = λ n start end es made p q h. spanning-whole n start end es made h;
    data_of_it = λ es h. others-whole Is (as_data es) (as-data-are IsOther IsOtherName (λ e o. o) refl es);
    emphasis = λ texts rs rest h fresh k. whole-both Is (events_of_runs texts (paired rs)) rest (runs-whole texts h (paired rs)) k;
  }

  -- If those of a list are whole, they are so with links
  pub links-whole : (one : Bool) (bytes : List ℕ) (es : List Event) → AreWhole Is es → AreWhole Is (with_links one bytes es)
  links-whole one bytes es h = links-keep (λ p. Unit {0}) Are AnyRun kept one bytes es (spans-whole Is _ es h) (any-runs (runs_in one bytes es))
