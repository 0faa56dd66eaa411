-- Links and images leave the exit of each void span behind its enter.
use Rattle.std.proofs.Common.{◌≡◌, ◌∙◌, ℕ, zero, suc, Bool, List, [], ◌∷◌, ◌++◌, true, false, Option, Some, None, ap, append_assoc, inl, inr, length, refl, subst, sym}
use Rattle.std.proofs.lemmas.Bool.{cases_Bool}
use Rattle.std.specs.List.{AllByRecursion}
use Rattle.std.specs.Prelude.{◌||◌}
use Rattle.markdown_base.proofs.Orders.{AreTight, tight-both}
use Rattle.markdown_base.specs.declared.event.Event.{Event}
use Rattle.markdown_base.specs.declared.event.Kind.TheVariants.{Enter, Exit}
use Rattle.markdown_base.specs.declared.event.Name.{Name}
use Rattle.markdown_base.specs.declared.event.Name.TheVariants.{Data, Image, Label, LabelText, Link}
use Rattle.markdown_base.specs.declared.event.Point.{Point}
use Rattle.markdown_base.specs.Events.{IsBalanced, is_void, same_name}
use Rattle.markdown_base.proofs.Balanced.{names_after_balanced, same_name-true}
use Rattle.markdown_base.specs.OpenNames.{names_after, names_after_all}
use Rattle.mdinline_emphasis.proofs.Markers.{inner-holds, outer-holds}
use Rattle.mdinline_emphasis.specs.declared.pairs.Style.{Style}
use Rattle.mdinline_emphasis.specs.Emphasis.{Run, closings, data_of, events_of_runs, inner_name, later, markers_of, markers_of_all, openings, outer_name, paired, run_events, sequence_name, unlinked_event}
use Rattle.mdinline_emphasis.specs.RunEdits.{in_place}
use Rattle.mdinline_links.proofs.Kept.{links-keep}
use Rattle.mdinline_links.proofs.Leaves.{runs-fresh}
use Rattle.mdinline_links.proofs.Spans.{span-closes, span-joins}
use Rattle.mdinline_links.specs.Kept.{IsFresh, IsKept, is_made_of}
use Rattle.mdinline_links.specs.Linked.{as_data, last_place, span_at, spanning, spans_in, with_links}
use Rattle.mdinline_links.specs.Places.{Anywhere}

-- ---- what comes in place of a run
tight-enter : (n : Name) (p : Point) (es : List Event) → is_void n ≡ false → AreTight es → AreTight (unlinked_event Enter n p ∷ es)
tight-enter n p es other h = ((λ enters void. let no : false ≡ true = sym other ∙ void in absurd (cc)), h)

tight-exit : (n : Name) (p : Point) (es : List Event) → AreTight es → AreTight (unlinked_event Exit n p ∷ es)
tight-exit n p es h = ((λ enters void. absurd (cc)), h)

tight-pair : (n : Name) (p q : Point) (es : List Event) → AreTight es → AreTight (unlinked_event Enter n p ∷ unlinked_event Exit n q ∷ es)
tight-pair n p q es h = ((λ enters void. (refl, refl)), tight-exit n q es h)

tight-closings : (p : Point) (ss : List Style) (es : List Event) → AreTight es → AreTight (closings p ss ++ es)
tight-closings p [] es h = h
tight-closings p (s ∷ ss) es h =
    let q = later (markers_of s) p in
    let more = closings q ss ++ es in
    let behind = unlinked_event Exit (outer_name s) q ∷ more in
    tight-exit (inner_name s) p (unlinked_event Enter (sequence_name s) p ∷ unlinked_event Exit (sequence_name s) q ∷ behind) (tight-pair (sequence_name s) p q behind (tight-exit (outer_name s) q more (tight-closings q ss es h)))

tight-openings : (p : Point) (ss : List Style) (es : List Event) → AreTight es → AreTight (openings p ss ++ es)
tight-openings p [] es h = h
tight-openings p (s ∷ ss) es h =
    let q = later (markers_of s) p in
    let more = openings q ss ++ es in
    let behind = unlinked_event Enter (inner_name s) q ∷ more in
    tight-enter (outer_name s) p (unlinked_event Enter (sequence_name s) p ∷ unlinked_event Exit (sequence_name s) q ∷ behind) (outer-holds s)
    (tight-pair (sequence_name s) p q behind (tight-enter (inner_name s) q more (inner-holds s) (tight-openings q ss es h)))

tight-data : (p : Point) (n : ℕ) (es : List Event) → AreTight es → AreTight (data_of p n ++ es)
tight-data p zero es h = h
tight-data p (suc n) es h = tight-pair Data p (later (suc n) p) es h

tight-place : (r : Run) (es : List Event) → AreTight es → AreTight (in_place r ++ es)
tight-place r es h =
    let p = later (markers_of_all r.closed) r.start in
    let q = later r.left p in
    let left = data_of p r.left in
    let opened = openings q r.opened in
    let same : closings r.start r.closed ++ (left ++ (opened ++ es)) ≡ in_place r ++ es =
    sym (append_assoc (closings r.start r.closed) (left ++ opened) es ∙ ap (λ l. closings r.start r.closed ++ l) (append_assoc left opened es)) in
    subst AreTight same (tight-closings r.start r.closed (left ++ (opened ++ es)) (tight-data p r.left (opened ++ es) (tight-openings q r.opened es h)))

tight-runs : (texts : ℕ → List Event) (rs : List Run) (rest : List Event) → ((k : ℕ) → AreTight (texts k)) → AreTight rest → AreTight (events_of_runs texts rs ++ rest)
tight-runs texts [] rest h k = k
tight-runs texts (r ∷ rs) rest h k =
    let text = texts r.index in
    let behind = events_of_runs texts rs ++ rest in
    let same : text ++ (in_place r ++ behind) ≡ (run_events texts r ++ events_of_runs texts rs) ++ rest = simp append_assoc in
    subst AreTight same (tight-both text (in_place r ++ behind) (h r.index) (tight-place r behind (tight-runs texts rs rest h k)))

-- ---- what links and images are made of
made-holds : (name : Name) → is_made_of name ≡ true → is_void name ≡ false
made-holds name h = elim (cases_Bool (same_name name Image)) [
  | inl a ↦ ap is_void (same_name-true name Image a)
  | inr a ↦ elim (cases_Bool (same_name name Label)) [
    | inl b ↦ ap is_void (same_name-true name Label b)
    | inr b ↦ elim (cases_Bool (same_name name LabelText)) [
      | inl c ↦ ap is_void (same_name-true name LabelText c)
      | inr c ↦ ap is_void (same_name-true name Link (sym ((λ i. a i || (b i || (c i || same_name name Link)))) ∙ h))
    ]
  ]
]

tight-spanning : (name : Name) (start end : Point) (es : List Event) → is_made_of name ≡ true → AreTight es → AreTight (spanning name start end es)
tight-spanning name start end es n h =
    let exit = unlinked_event Exit name end in
    tight-enter name start (es ++ exit ∷ []) (made-holds name n) (tight-both es (exit ∷ []) h (tight-exit name end [] tt))

tight-as-data : (es : List Event) → AreTight (as_data es)
tight-as-data [] = tt
tight-as-data (e ∷ es) = tight-pair Data e.point (last_place e.point es) [] tt

tight-is-kept : IsKept Anywhere AreTight IsFresh
tight-is-kept = record {
  places = λ e es h. (tt, tt);
  nothing = tt;
  together = tight-both;
  span_around = λ name start end es n p q h. tight-spanning name start end es n h;
  data_of_it = λ es h. tight-as-data es;
  emphasis = λ texts rs rest between fresh behind. tight-runs texts (paired rs) rest between behind;
}

-- ---- outermost spans
pub tight-back : (xs ys : List Event) → AreTight (xs ++ ys) → AreTight ys
tight-back [] ys h = h
tight-back (x ∷ xs) ys h = tight-back xs ys h.1

-- events that close all that is open end with no enter
pub tight-front : (o : Option (List Name)) (xs ys : List Event) → names_after_all o xs ≡ Some [] → AreTight (xs ++ ys) → AreTight xs
tight-front o [] ys n h = tt
tight-front None (x ∷ xs) ys n h = absurd (cc)
tight-front (Some st) (x ∷ []) ys n h = ((λ enters void. let ended : names_after_all (names_after Enter x.name st) [] ≡ Some [] = ap (λ k. names_after_all (names_after k x.name st) []) (sym enters) ∙ n in absurd (cc)), tt)
tight-front (Some st) (x ∷ y ∷ xs) ys n h = (h.0, tight-front (names_after x.kind x.name st) (y ∷ xs) ys n h.1)

spans-tight : (bound : ℕ) (es : List Event) → names_after_all (Some []) es ≡ Some [] → AreTight es → AllByRecursion AreTight (spans_in bound es)
spans-tight zero es n h = tt
spans-tight (suc bound) [] n h = tt
spans-tight (suc bound) (e ∷ es) n h =
    let p = span_at 0 (e ∷ es) in
    let closes = span-closes 0 (e ∷ es) [] refl n in
    let both = subst AreTight (sym (span-joins 0 (e ∷ es))) h in
    (tight-front (Some []) p.0 p.1 closes.0 both, spans-tight bound p.1 closes.1 (tight-back p.0 p.1 both))

pub links-tight : (one : Bool) (bytes : List ℕ) (es : List Event) → IsBalanced es → AreTight es → AreTight (with_links one bytes es)
links-tight one bytes es b h = links-keep Anywhere AreTight IsFresh tight-is-kept one bytes es (spans-tight (length es) es (names_after_balanced b []) h) (runs-fresh one bytes 0 0 None es)
