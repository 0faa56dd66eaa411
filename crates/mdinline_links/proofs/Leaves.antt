-- Links and images leave a balanced list balanced, and one without links without them, as emphasis does.
use Rattle.std.proofs.Common.{◌==◌, ◌+◌, ℕ, Bool, List, [], ◌∷◌, true, false, cond, Option, Some, None, refl}
use Rattle.std.specs.List.{AllByRecursion}
use Rattle.std.specs.Prelude.{◌&&◌, slice_get}
use Rattle.markdown_base.specs.declared.event.Event.{Event}
use Rattle.markdown_base.specs.declared.event.Kind.TheVariants.{Enter, Exit}
use Rattle.markdown_base.specs.declared.event.Name.{Name}
use Rattle.markdown_base.specs.declared.event.Name.TheVariants.{Data}
use Rattle.markdown_base.specs.declared.event.Point.{Point}
use Rattle.markdown_base.specs.Events.{IsBalanced, empty, span}
use Rattle.markdown_base.proofs.Balanced.{IsBalanced-append}
use Rattle.markdown_tokenizer.proofs.Readings.Plain.{no-links-append}
use Rattle.markdown_tokenizer.specs.Plain.{HaveNoLinks}
use Rattle.mdinline_emphasis.specs.Emphasis.{Run, unlinked_event, events_of_runs, paired}
use Rattle.mdinline_emphasis.specs.LawStatements.{AreFresh}
use Rattle.mdinline_emphasis.specs.Runs.{depth_after, index_of_event, is_sequence, run_at, runs_from}
use Rattle.mdinline_links.proofs.Kept.{links-keep}
use Rattle.mdinline_links.proofs.Spans.{spans-balanced, spans-unlinked}
use Rattle.mdinline_links.specs.Kept.{IsFresh, IsKept, LeavesNoLinks}
use Rattle.mdinline_links.specs.Places.{Anywhere}
use Rattle.mdinline_links.specs.Linked.{as_data, last_place, spanning, with_links}
use Rattle.mdinline_emphasis.proofs.Balance.{leaves-balanced}
use Rattle.mdinline_emphasis.proofs.RunEdits.{no-links-runs}

-- ---- the runs of a text are in no pair yet

pub runs-fresh : (one : Bool) (bytes : List ℕ) (i depth : ℕ) (before : Option ℕ) (es : List Event) → AllByRecursion IsFresh (runs_from one bytes i depth before es)
runs-fresh one bytes i depth before [] = tt
runs-fresh one bytes i depth before (e ∷ []) = tt
runs-fresh one bytes i depth before (e ∷ f ∷ es) =
    elim (depth == 0 && is_sequence e f) as (λ t. AllByRecursion IsFresh (cond t (run_at one bytes i e f before (index_of_event (slice_get es 0)) ∷ runs_from one bytes (i + 2) depth (Some f.point.index) es) (runs_from one bytes (i + 1) (depth_after e.kind depth) (Some e.point.index) (f ∷ es)))) [
      | true ↦ ((refl, refl), runs-fresh one bytes (i + 2) depth (Some f.point.index) es)
      | false ↦ runs-fresh one bytes (i + 1) (depth_after e.kind depth) (Some e.point.index) (f ∷ es)
    ]

are-fresh : (texts : ℕ → List Event) (rs : List Run) → ((k : ℕ) → IsBalanced (texts k)) → AllByRecursion IsFresh rs → AreFresh texts rs
are-fresh texts [] balanced h = tt
are-fresh texts (r ∷ rs) balanced h = (h.0.0, h.0.1, balanced r.index, are-fresh texts rs balanced h.1)

-- ---- balanced

pub around-balanced : (name : Name) (start end : Point) (es : List Event) → IsBalanced es → IsBalanced (spanning name start end es)
around-balanced name start end es h = span (unlinked_event Enter name start) (unlinked_event Exit name end) es [] refl refl refl refl h empty

pub data-balanced : (es : List Event) → IsBalanced (as_data es)
data-balanced [] = empty
data-balanced (e ∷ es) = around-balanced Data e.point (last_place e.point es) [] empty

pub balanced-is-kept : IsKept Anywhere IsBalanced IsFresh
balanced-is-kept = record {
  places = λ e es h. (tt, tt);
  nothing = empty;
  together = IsBalanced-append;
  span_around = λ name start end es n p q h. around-balanced name start end es h;
  data_of_it = λ es h. data-balanced es;
  emphasis = λ texts rs rest between fresh behind. leaves-balanced texts rs rest (are-fresh texts rs between fresh) behind;
}

pub links-balanced : (one : Bool) (bytes : List ℕ) (es : List Event) → IsBalanced es → IsBalanced (with_links one bytes es)
links-balanced one bytes es h = links-keep Anywhere IsBalanced IsFresh balanced-is-kept one bytes es (spans-balanced es h) (runs-fresh one bytes 0 0 None es)

-- ---- without links

data-unlinked : (es : List Event) → HaveNoLinks (as_data es)
data-unlinked [] = tt
data-unlinked (e ∷ es) = (refl, (refl, tt))

leaves-no-links : LeavesNoLinks
leaves-no-links texts rs rest h k = no-links-append (events_of_runs texts (paired rs)) rest (no-links-runs texts (paired rs) h) k

unlinked-is-kept : IsKept Anywhere HaveNoLinks IsFresh
unlinked-is-kept = record {
  places = λ e es h. (tt, tt);
  nothing = tt;
  together = no-links-append;
  span_around = λ name start end es n p q h. (refl, no-links-append es (unlinked_event Exit name end ∷ []) h (refl, tt));
  data_of_it = λ es h. data-unlinked es;
  emphasis = λ texts rs rest between fresh behind. leaves-no-links texts rs rest between behind;
}

pub links-unlinked : (one : Bool) (bytes : List ℕ) (es : List Event) → HaveNoLinks es → HaveNoLinks (with_links one bytes es)
links-unlinked one bytes es h = links-keep Anywhere HaveNoLinks IsFresh unlinked-is-kept one bytes es (spans-unlinked es h) (runs-fresh one bytes 0 0 None es)
