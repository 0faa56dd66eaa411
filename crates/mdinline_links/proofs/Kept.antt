-- What links leave: a property of lists of events that spans, data and emphasis keep is kept by links and images. So they leave a balanced list,
-- one without links, and one whose places are the document's.
use Rattle.std.proofs.Common.{◌≡◌, ◌==◌, ℕ, List, [], ◌∷◌, ◌++◌, Bool, true, false, cond, refl}
use Rattle.std.specs.List.{AllByRecursion}
use Rattle.markdown_base.specs.declared.event.Event.{Event}
use Rattle.markdown_base.specs.declared.event.Name.{Name}
use Rattle.markdown_base.specs.declared.event.Name.TheVariants.{Image, Label, LabelEnd, LabelImage, LabelMarker, LabelText, Link}
use Rattle.markdown_base.specs.declared.event.Point.{Point}
use Rattle.mdinline_emphasis.specs.Emphasis.{Run}
use Rattle.mdinline_emphasis.specs.Runs.{runs_in}
use Rattle.mdinline_links.specs.Kept.{IsKept, is_made_of}
use Rattle.mdinline_links.specs.Linked.{Part, run, events, Waiting, SoFar, runs_of_parts, text_before, text_behind, emphasised_parts, last_place, around, as_data, label_text, made, all_parts, is_named, is_bracket, is_tail, is_run, part_of, opened, failed, ended, added, taken, linked_from, outermost_spans, with_links}

module _ (P : Point → Type 0) (B : List Event → Type 0) (F : Run → Type 0) (kept : IsKept P B F) where
  abbrev pub IsPart : Part → Type 0
  IsPart (run r) = F r
  IsPart (events es) = B es

  abbrev pub AreParts : List Part → Type 0
  AreParts ps = AllByRecursion IsPart ps

  abbrev AreWaiting : List Waiting → Type 0
  AreWaiting [] = Unit {0}
  AreWaiting (w ∷ ws) = B w.opener × AreParts w.before × AreWaiting ws

  record IsSoFar (z : SoFar) : Type 0 where
    waits : AreWaiting z.waiting
    behind : AreParts z.behind
    fresh : AllByRecursion F z.runs

  pub parts-append : (ps qs : List Part) → AreParts ps → AreParts qs → AreParts (ps ++ qs)
  parts-append [] qs h k = k
  parts-append (p ∷ ps) qs h k = (h.0, parts-append ps qs h.1 k)

  fresh-runs : (ps : List Part) → AreParts ps → AllByRecursion F (runs_of_parts ps)
  fresh-runs [] h = tt
  fresh-runs (run r ∷ ps) h = (h.0, fresh-runs ps h.1)
  fresh-runs (events es ∷ ps) h = fresh-runs ps h.1

  text-before : (since : List Event) (ps : List Part) (index : ℕ) → B since → AreParts ps → B (text_before since ps index)
  text-before since [] index b h = kept.nothing
  text-before since (run r ∷ ps) index b h = elim (r.index == index) as (λ t. B (cond t since (text_before [] ps index))) [
    | true ↦ b
    | false ↦ text-before [] ps index kept.nothing h.1
  ]
  text-before since (events es ∷ ps) index b h = text-before (since ++ es) ps index (kept.together since es b h.0) h.1

  text-behind : (since : List Event) (ps : List Part) → B since → AreParts ps → B (text_behind since ps)
  text-behind since [] b h = b
  text-behind since (run r ∷ ps) b h = text-behind [] ps kept.nothing h.1
  text-behind since (events es ∷ ps) b h = text-behind (since ++ es) ps (kept.together since es b h.0) h.1

  pub parts-emphasised : (ps : List Part) → AreParts ps → B (emphasised_parts ps)
  parts-emphasised ps h = kept.emphasis (text_before [] ps) (runs_of_parts ps) (text_behind [] ps) (λ k. text-before [] ps k kept.nothing h) (fresh-runs ps h) (text-behind [] ps kept.nothing h)

  pub around-kept : (name : Name) (es : List Event) → is_made_of name ≡ true → B es → B (around name es)
  around-kept name [] n h = kept.nothing
  around-kept name (e ∷ es) n h = kept.span_around name e.point (last_place e.point es) (e ∷ es) n (kept.places e es h).0 (kept.places e es h).1 h

  text-ends : (p : Point) (es : List Event) → P p → B es → P (last_place p es)
  text-ends p [] at b = at
  text-ends p (e ∷ es) at b = (kept.places e es b).1

  pub label-text : (opener close : List Event) (ps : List Part) → B opener → B close → AreParts ps → B (label_text opener close ps)
  label-text [] close ps o c h = kept.nothing
  label-text (e ∷ es) [] ps o c h = kept.nothing
  label-text (e ∷ es) (f ∷ fs) [] o c h = kept.nothing
  label-text (e ∷ es) (f ∷ fs) (p ∷ ps) o c h =
      let start = last_place e.point es in
      let text = emphasised_parts (p ∷ ps) in
      let inside = parts-emphasised (p ∷ ps) h in
      let at = (kept.places e es o).1 in
      kept.span_around LabelText start (last_place start text) text refl at (text-ends start text at inside) inside

  pub whole-name : (b : Bool) → is_made_of (cond b Image Link) ≡ true
  whole-name true = refl
  whole-name false = refl

  is-made : (opener : List Event) (ps : List Part) (close tail : List Event) → B opener → AreParts ps → B close → B tail → B (made opener ps close tail)
  is-made opener ps close tail o t c l =
      let text = label_text opener close ps in
      let inside = kept.together text close (label-text opener close ps o c t) c in
      let label = around-kept Label (opener ++ (text ++ close)) refl (kept.together opener (text ++ close) o inside) in
      around-kept (cond (is_named LabelImage opener) Image Link) (around Label (opener ++ (text ++ close)) ++ tail) (whole-name (is_named LabelImage opener))
      (kept.together (around Label (opener ++ (text ++ close))) tail label l)

  pub parts-all : (ws : List Waiting) (behind : List Part) → AreWaiting ws → AreParts behind → AreParts (all_parts ws behind)
  parts-all [] behind h k = k
  parts-all (w ∷ ws) behind h k = parts-all ws (w.before ++ events (as_data w.opener) ∷ behind) h.2 (parts-append w.before (events (as_data w.opener) ∷ behind) h.1 (kept.data_of_it w.opener h.0, k))

  is-part : (span : List Event) (rs : List Run) → B span → AllByRecursion F rs → IsPart (part_of span rs).0 × AllByRecursion F (part_of span rs).1
  is-part span [] b h = (b, tt)
  is-part span (r ∷ rs) b h = elim (is_run span) as (λ t. let p : Part × List Run = cond t (run r, rs) (events span, r ∷ rs) in IsPart p.0 × AllByRecursion F p.1) [
    | true ↦ h
    | false ↦ (b, h)
  ]

  is-added : (span : List Event) (z : SoFar) → B span → IsSoFar z → IsSoFar (added span z)
  is-added span z b h =
      let p = is-part span z.runs b h.fresh in
      record { waits = h.waits; behind = parts-append z.behind ((part_of span z.runs).0 ∷ []) h.behind (p.0, tt); fresh = p.1 }

  is-failed : (span : List Event) (ws : List Waiting) (z : SoFar) → B span → AreWaiting ws → IsSoFar z → IsSoFar (failed span ws z)
  is-failed span [] z b w h = record { waits = h.waits; behind = parts-append z.behind (events (as_data span) ∷ []) h.behind (kept.data_of_it span b, tt); fresh = h.fresh }
  is-failed span (w ∷ ws) z b a h = record {
    waits = a.2;
    behind =
        parts-append w.before (events (as_data w.opener) ∷ (z.behind ++ events (as_data span) ∷ [])) a.1
        (kept.data_of_it w.opener a.0, parts-append z.behind (events (as_data span) ∷ []) h.behind (kept.data_of_it span b, tt));
    fresh = h.fresh;
  }

  is-ended : (span tail : List Event) (ws : List Waiting) (z : SoFar) → B span → B tail → AreWaiting ws → IsSoFar z → IsSoFar (ended span tail ws z)
  is-ended span tail [] z b l w h = record { waits = h.waits; behind = parts-append z.behind (events (span ++ tail) ∷ []) h.behind (kept.together span tail b l, tt); fresh = h.fresh }
  is-ended span tail (w ∷ ws) z b l a h = record {
    waits = a.2;
    behind =
        parts-append w.before (events (made w.opener z.behind span tail) ∷ []) a.1
        (is-made w.opener z.behind span tail a.0 h.behind b l, tt);
    fresh = h.fresh;
  }

  is-opened : (span : List Event) (z : SoFar) → B span → IsSoFar z → IsSoFar (opened span z)
  is-opened span z b h = record { waits = (b, h.behind, h.waits); behind = tt; fresh = h.fresh }

  is-taken : (span : List Event) (z : SoFar) → B span → IsSoFar z → IsSoFar (taken span z)
  is-taken span z b h = elim (is_bracket span) as (λ t. IsSoFar (cond t (opened span z) (cond (is_named LabelMarker span) (failed span z.waiting z) (added span z)))) [
    | true ↦ is-opened span z b h
    | false ↦ elim (is_named LabelMarker span) as (λ t. IsSoFar (cond t (failed span z.waiting z) (added span z))) [
      | true ↦ is-failed span z.waiting z b h.waits h
      | false ↦ is-added span z b h
    ]
  ]

  is-linked : (spans : List (List Event)) (z : SoFar) → AllByRecursion B spans → IsSoFar z → IsSoFar (linked_from z spans)
  is-linked [] z bs h = h
  is-linked (span ∷ []) z bs h = elim (is_named LabelEnd span) as (λ t. IsSoFar (cond t (ended span [] z.waiting z) (taken span z))) [
    | true ↦ is-ended span [] z.waiting z bs.0 kept.nothing h.waits h
    | false ↦ is-taken span z bs.0 h
  ]
  is-linked (span ∷ next ∷ spans) z bs h =
      elim (is_named LabelEnd span) as (λ t. IsSoFar (cond t (cond (is_tail next) (linked_from (ended span next z.waiting z) spans) (linked_from (ended span [] z.waiting z) (next ∷ spans))) (linked_from (taken span z) (next ∷ spans)))) [
        | true ↦ elim (is_tail next) as (λ t. IsSoFar (cond t (linked_from (ended span next z.waiting z) spans) (linked_from (ended span [] z.waiting z) (next ∷ spans)))) [
          | true ↦ is-linked spans (ended span next z.waiting z) bs.1.1 (is-ended span next z.waiting z bs.0 bs.1.0 h.waits h)
          | false ↦ is-linked (next ∷ spans) (ended span [] z.waiting z) bs.1 (is-ended span [] z.waiting z bs.0 kept.nothing h.waits h)
        ]
        | false ↦ is-linked (next ∷ spans) (taken span z) bs.1 (is-taken span z bs.0 h)
      ]

  -- Links and images keep the property, if each outermost span and each run has it
  pub links-keep : (one : Bool) (bytes : List ℕ) (es : List Event) → AllByRecursion B (outermost_spans es) → AllByRecursion F (runs_in one bytes es) → B (with_links one bytes es)
  links-keep one bytes es bs fresh =
      let z : SoFar = linked_from (record { waiting = []; behind = []; runs = runs_in one bytes es }) (outermost_spans es) in
      let h = is-linked (outermost_spans es) (record { waiting = []; behind = []; runs = runs_in one bytes es }) bs (record { waits = tt; behind = tt; fresh = fresh }) in
      parts-emphasised (all_parts z.waiting z.behind) (parts-all z.waiting z.behind h.waits h.behind)
