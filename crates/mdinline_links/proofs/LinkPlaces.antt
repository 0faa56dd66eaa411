-- The events of links, images and emphasis stand where the events before did, or in delimiter runs; so they stand inside the document.
use Rattle.std.proofs.Common.{◌+◌, ◌-◌, ◌≤◌, ◌==◌, ℕ, Bool, List, [], ◌∷◌, ◌++◌, true, false, cond, Option, Some, None, arith, length, map, subst, sym}
use Rattle.std.proofs.lemmas.List.Elements.{All-from_recursion, recursion_from_All}
use Rattle.std.specs.List.{AllByRecursion}
use Rattle.std.specs.Prelude.{◌&&◌, slice_get}
use Rattle.markdown_base.specs.declared.event.Event.{Event}
use Rattle.markdown_base.specs.declared.event.Kind.TheVariants.{Exit}
use Rattle.markdown_base.specs.declared.event.Point.{Point}
use Rattle.markdown_base.proofs.Common.{every-append}
use Rattle.mdinline_emphasis.proofs.PairsKeep.{pairs-keep}
use Rattle.mdinline_emphasis.specs.Emphasis.{Run, closings, events_of_runs, paired, run_events, tail_events, unlinked_event}
use Rattle.mdinline_emphasis.specs.Places.{HasRoom, Standing, markers, standing}
use Rattle.mdinline_emphasis.specs.Runs.{depth_after, index_of_event, is_sequence, run_at, runs_from, runs_in}
use Rattle.mdinline_links.proofs.Kept.{links-keep}
use Rattle.mdinline_links.proofs.Laid.{all-back, all-front}
use Rattle.mdinline_links.proofs.LinkOrder.{AllAt, last-at}
use Rattle.mdinline_links.proofs.RunOrder.{ordered-place}
use Rattle.mdinline_links.proofs.Spans.{spans-have}
use Rattle.mdinline_links.specs.Kept.{IsKept}
use Rattle.mdinline_links.specs.Laws.{LinksKeepPlaces}
use Rattle.mdinline_links.specs.Linked.{as_data, with_links}
use Rattle.mdinline_links.specs.Places.{AreSteps}

module _ (At : Point → Type 0) where
  abbrev EventAt : Event → Type 0
  EventAt e = At e.point

  -- each place of a run is one of these
  abbrev pub RunAt : Run → Type 0
  RunAt r = AreSteps At r.start (markers r)

  abbrev StandsAt : Standing → Type 0
  StandsAt s = AreSteps At s.start s.markers

  by-standing : (rs : List Run) → AllByRecursion RunAt rs → AllByRecursion StandsAt (map standing rs)
  by-standing [] h = tt
  by-standing (r ∷ rs) h = (h.0, by-standing rs h.1)

  runs-at : (texts : ℕ → List Event) (rs : List Run) (rest : List Event) → ((k : ℕ) → AllAt At (texts k)) → AllByRecursion StandsAt (map standing rs) → AllAt At rest → AllAt At (events_of_runs texts rs ++ rest)
  runs-at texts [] rest between stand h = h
  runs-at texts (r ∷ rs) rest between stand h =
      let place = (ordered-place At r stand.0).places in
      let close = closings r.start r.closed in
      let head = every-append EventAt (texts r.index) close (between r.index) (all-front EventAt close (tail_events r) place) in
      let here = every-append EventAt (texts r.index ++ close) (tail_events r) head (all-back EventAt close (tail_events r) place) in
      let more = runs-at texts rs rest between stand.1 h in
      every-append EventAt (run_events texts r ++ events_of_runs texts rs) rest
      (every-append EventAt (run_events texts r) (events_of_runs texts rs) here (all-front EventAt (events_of_runs texts rs) rest more)) h

  data-at : (es : List Event) → AllAt At es → AllAt At (as_data es)
  data-at [] h = tt
  data-at (e ∷ es) h = (h.0, (last-at At e.point es h.0 h.1, tt))

  at-is-kept : IsKept At (AllAt At) RunAt
  at-is-kept = record {
    places = λ e es h. (h.0, last-at At e.point es h.0 h.1);
    nothing = tt;
    together = every-append EventAt;
    span_around = λ name start end es n p q h. (p, every-append EventAt es (unlinked_event Exit name end ∷ []) h (q, tt));
    data_of_it = data-at;
    emphasis = λ texts rs rest between each behind.
        runs-at texts (paired rs) rest between (subst (AllByRecursion StandsAt) (sym (pairs-keep rs)) (by-standing rs each)) behind;
  }

  -- Links, images and emphasis stand at such places, if the events before did, and each place of a delimiter run is one
  pub links-at : (one : Bool) (bytes : List ℕ) (es : List Event) → AllAt At es → AllByRecursion RunAt (runs_in one bytes es) → AllAt At (with_links one bytes es)
  links-at one bytes es h each =
      links-keep At (AllAt At) RunAt at-is-kept one bytes es (spans-have (AllAt At) (λ xs ys k. (all-front EventAt xs ys k, all-back EventAt xs ys k)) (length es) es h) each

-- ---- places in the document

abbrev Inside : List ℕ → Point → Type 0
Inside bytes p = (p.index ≤ length bytes) × HasRoom (length bytes - p.index) p

steps-inside : (bytes : List ℕ) (p q : Point) → Inside bytes p → Inside bytes q → AreSteps (Inside bytes) p (0 + (q.index - p.index + 0))
steps-inside bytes p q h k n less = (omega (arith, h.0, k.0, less), (omega (arith, h.0, k.0, h.1.0, less), omega (arith, h.0, k.0, h.1.1, less)))

runs-inside : (one : Bool) (bytes : List ℕ) (i depth : ℕ) (before : Option ℕ) (es : List Event) → AllAt (Inside bytes) es → AllByRecursion (RunAt (Inside bytes)) (runs_from one bytes i depth before es)
runs-inside one bytes i depth before [] h = tt
runs-inside one bytes i depth before (e ∷ []) h = tt
runs-inside one bytes i depth before (e ∷ f ∷ es) h =
    elim (depth == 0 && is_sequence e f) as (λ t. AllByRecursion (RunAt (Inside bytes)) (cond t (run_at one bytes i e f before (index_of_event (slice_get es 0)) ∷ runs_from one bytes (i + 2) depth (Some f.point.index) es) (runs_from one bytes (i + 1) (depth_after e.kind depth) (Some e.point.index) (f ∷ es)))) [
      | true ↦ (steps-inside bytes e.point f.point h.0 h.1.0, runs-inside one bytes (i + 2) depth (Some f.point.index) es h.1.1)
      | false ↦ runs-inside one bytes (i + 1) (depth_after e.kind depth) (Some e.point.index) (f ∷ es) h.1
    ]

pub stay-inside : LinksKeepPlaces
stay-inside one bytes es h =
    let In : Event → Type 0 = λ e. Inside bytes e.point in
    let all = recursion_from_All In es h in
    All-from_recursion In (with_links one bytes es) (links-at (Inside bytes) one bytes es all (runs-inside one bytes 0 0 None es all))
