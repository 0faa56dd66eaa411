-- Where no bracket is among the events, links leave emphasis alone.
use Rattle.std.proofs.Common.{◌≡◌, ◌==◌, ◌+◌, ◌≤◌, ◌∙◌, ℕ, zero, suc, List, [], ◌∷◌, ◌++◌, Bool, true, false, cond, Option, Some, None, ap, append-nil, append_assoc, arith, drop, inl, inr, length, length-append, map, refl, subst, sym, take}
use Rattle.std.proofs.Math.Seq.{drop-append-add, take-append_seam}
use Rattle.std.proofs.lemmas.Bool.{cases_Bool}
use Rattle.std.proofs.lemmas.Bool.Decides.{nat_tests}
use Rattle.std.specs.List.{AllByRecursion}
use Rattle.std.specs.Prelude.{slice_get, ◌&&◌}
use Rattle.markdown_base.specs.declared.event.Event.{Event}
use Rattle.markdown_base.specs.declared.event.Kind.{Kind}
use Rattle.markdown_base.specs.declared.event.Kind.TheVariants.{Enter, Exit}
use Rattle.markdown_base.specs.declared.event.Name.{Name}
use Rattle.markdown_base.proofs.Balanced.{names_after_balanced}
use Rattle.markdown_base.specs.OpenNames.{names_after, names_after_all}
use Rattle.mdinline_emphasis.proofs.PairsKeep.{pairs-keep-indices}
use Rattle.mdinline_emphasis.proofs.RunTexts.{runs-and-texts, sequence-is}
use Rattle.mdinline_emphasis.specs.Emphasis.{Run, events_of_runs, paired}
use Rattle.mdinline_emphasis.specs.RunEdits.{HasRunsAt, index_of}
use Rattle.mdinline_emphasis.specs.Runs.{depth_after, index_of_event, is_sequence, run_at, runs_from, runs_in, text_before as text_before_run, text_behind as text_behind_runs}
use Rattle.mdinline_links.proofs.Spans.{Closes, span-closes, span-joins}
use Rattle.mdinline_links.specs.Laws.{IsEmphasisAlone, IsNoBracket}
use Rattle.mdinline_links.specs.Linked.{Part, run, events, SoFar, runs_of_parts, text_before, text_behind, emphasised_parts, all_parts, is_run, part_of, added, taken, span_at, spans_in, outermost_spans, linked_from, linked_parts}

-- ---- the parts of spans that are no brackets

abbrev parts_of : List (List Event) → List Run → List Part
parts_of [] rs = []
parts_of (span ∷ spans) rs = (part_of span rs).0 ∷ parts_of spans (part_of span rs).1

taken-plain : (span : List Event) (z : SoFar) → IsNoBracket span → taken span z ≡ added span z
taken-plain span z h = rw (h.0, h.1) refl

step-plain : (span : List Event) (spans : List (List Event)) (z : SoFar) → IsNoBracket span → linked_from z (span ∷ spans) ≡ linked_from (added span z) spans
step-plain span [] z h = rw h.2 (taken-plain span z h)
step-plain span (next ∷ spans) z h = rw h.2 (ap (λ y. linked_from y (next ∷ spans)) (taken-plain span z h))

all-plain : (spans : List (List Event)) (z : SoFar) → AllByRecursion IsNoBracket spans
    → ((linked_from z spans).waiting ≡ z.waiting) × ((linked_from z spans).behind ≡ z.behind ++ parts_of spans z.runs)
all-plain [] z h = (refl, sym (append-nil z.behind))
all-plain (span ∷ spans) z h =
    let step = step-plain span spans z h.0 in
    let more = all-plain spans (added span z) h.1 in (
      ap (λ (y : SoFar). y.waiting) step ∙ more.0,
      ap (λ (y : SoFar). y.behind) step ∙ more.1 ∙ append_assoc z.behind ((part_of span z.runs).0 ∷ []) (parts_of spans (part_of span z.runs).1),
    )

parts-plain : (rs : List Run) (es : List Event) → AllByRecursion IsNoBracket (outermost_spans es) → linked_parts rs es ≡ parts_of (outermost_spans es) rs
parts-plain rs es h =
    let start : SoFar = record { waiting = []; behind = []; runs = rs } in
    let all = all-plain (outermost_spans es) start h in
    ap (λ ws. all_parts ws (linked_from start (outermost_spans es)).behind) all.0 ∙ all.1

-- ---- parts with the texts before their runs

module _ (f : ℕ → List Event) (rest : List Event) where
  abbrev Placed : List Event → List Part → Type 0
  Placed since [] = since ≡ rest
  Placed since (run r ∷ ps) = (f r.index ≡ since) × AllByRecursion (λ s. suc r.index ≤ s.index) (runs_of_parts ps) × Placed [] ps
  Placed since (events es ∷ ps) = Placed (since ++ es) ps

  -- the texts before these runs are the same
  abbrev Agree : List Event → List Part → List Run → Type 0
  Agree since ps rs = AllByRecursion (λ s. text_before since ps s.index ≡ f s.index) rs

  past : (since : List Event) (r : Run) (ps : List Part) (rs : List Run) → AllByRecursion (λ s. suc r.index ≤ s.index) rs → Agree [] ps rs → Agree since (run r ∷ ps) rs
  past since r ps [] h k = tt
  past since r ps (s ∷ rs) h k =
      let other : (r.index == s.index) ≡ false = grind (arith, nat_tests, h.0) in
      (ap (λ t. cond t since (text_before [] ps s.index)) other ∙ k.0, past since r ps rs h.1 k.1)

  agree : (since : List Event) (ps : List Part) → Placed since ps → Agree since ps (runs_of_parts ps) × (text_behind since ps ≡ rest)
  agree since [] h = (tt, h)
  agree since (run r ∷ ps) h =
      let more = agree [] ps h.2 in
      let this : (r.index == r.index) ≡ true = grind (arith, nat_tests) in
      ((ap (λ t. cond t since (text_before [] ps r.index)) this ∙ sym h.0, past since r ps (runs_of_parts ps) h.1 more.0), more.1)
  agree since (events es ∷ ps) h = agree (since ++ es) ps h

-- runs have the indices behind where they are looked for
pub runs-behind : (one : Bool) (bytes : List ℕ) (b i depth : ℕ) (before : Option ℕ) (es : List Event) → b ≤ i → AllByRecursion (λ s. b ≤ s.index) (runs_from one bytes i depth before es)
runs-behind one bytes b i depth before [] h = tt
runs-behind one bytes b i depth before (e ∷ []) h = tt
runs-behind one bytes b i depth before (e ∷ g ∷ es) h =
    elim (depth == 0 && is_sequence e g) as (λ t. AllByRecursion (λ s. b ≤ s.index) (cond t (run_at one bytes i e g before (index_of_event (slice_get es 0)) ∷ runs_from one bytes (i + 2) depth (Some g.point.index) es) (runs_from one bytes (i + 1) (depth_after e.kind depth) (Some e.point.index) (g ∷ es)))) [
      | true ↦ (h, runs-behind one bytes b (i + 2) depth (Some g.point.index) es (omega (arith, h)))
      | false ↦ runs-behind one bytes b (i + 1) (depth_after e.kind depth) (Some e.point.index) (g ∷ es) (omega (arith, h))
    ]

-- ---- the first span of a balanced list that is no run

pub starts : (k : Kind) (n : Name) (es : List Event) → names_after_all (names_after k n []) es ≡ Some [] → k ≡ Enter
starts Enter n es h = refl
starts Exit n es h = cc

pub never-one : {X : Type 0} (k : Kind) (n : Name) → names_after_all (names_after k n []) [] ≡ Some [] → X
never-one Enter n h = absurd (cc)
never-one Exit n h = absurd (cc)

pub pair-span : (e g : Event) (es : List Event) → e.kind ≡ Enter → g.kind ≡ Exit → span_at 0 (e ∷ g ∷ es) ≡ (e ∷ g ∷ [], es)
pair-span e g es a b = rw (a, b) refl

pub span-opens : (e : Event) (es : List Event) → e.kind ≡ Enter → span_at 0 (e ∷ es) ≡ (e ∷ (span_at 1 es).0, (span_at 1 es).1)
span-opens e es a = rw a refl

pub front-first : (depth : ℕ) (e : Event) (es : List Event) → (xs : List Event) × ((span_at depth (e ∷ es)).0 ≡ e ∷ xs)
front-first depth e es =
    let d = depth_after e.kind depth in
    elim (d == 0) as (λ t. let p : List Event × List Event = cond t (e ∷ [], es) (e ∷ (span_at d es).0, (span_at d es).1) in (xs : List Event) × (p.0 ≡ e ∷ xs)) [
      | true ↦ ([], refl)
      | false ↦ ((span_at d es).0, refl)
    ]

pub no-run : (e g : Event) (xs : List Event) → is_sequence e g ≡ false → is_run (e ∷ g ∷ xs) ≡ false
no-run e g [] h = h
no-run e g (x ∷ xs) h = refl

pub part-plain : (span : List Event) (rs : List Run) → is_run span ≡ false → part_of span rs ≡ (events span, rs)
part-plain span [] h = refl
part-plain span (r ∷ rs) h = rw h refl

-- the events between runs, and so what emphasis makes of them
indices-agree : (f g : ℕ → List Event) (rs : List Run) → AllByRecursion (λ s. f s.index ≡ g s.index) rs → AllByRecursion (λ k. f k ≡ g k) (map index_of rs)
indices-agree f g [] h = tt
indices-agree f g (r ∷ rs) h = (h.0, indices-agree f g rs h.1)

same-events : (f g : ℕ → List Event) (rs : List Run) → AllByRecursion (λ k. f k ≡ g k) (map index_of rs) → events_of_runs f rs ≡ events_of_runs g rs
same-events f g [] h = refl
same-events f g (r ∷ rs) h = rw (h.0, same-events f g rs h.1) refl

same-paired : (f g : ℕ → List Event) (rs : List Run) → AllByRecursion (λ s. f s.index ≡ g s.index) rs → events_of_runs f (paired rs) ≡ events_of_runs g (paired rs)
same-paired f g rs h = same-events f g (paired rs) (subst (AllByRecursion (λ k. f k ≡ g k)) (sym (pairs-keep-indices rs)) (indices-agree f g rs h))

module _ (one : Bool) (bytes : List ℕ) where
  -- no run begins in a span
  abbrev pub Skips : (i depth : ℕ) (before : Option ℕ) (es : List Event) → List Event × List Event → Type 0
  Skips i depth before es p = (before' : Option ℕ) × (runs_from one bytes i depth before es ≡ runs_from one bytes (i + length p.0) 0 before' p.1)

  abbrev pub cut_by : Event → List Event → ℕ → Bool → List Event × List Event
  cut_by e es d t = cond t (e ∷ [], es) (e ∷ (span_at d es).0, (span_at d es).1)

  pub open-yet : (d : ℕ) → (suc d == 0) ≡ false
  open-yet d = grind (arith, nat_tests)

  -- what is left behind an event, by how many spans are open then
  abbrev pub SkipsMore : Event → List Event → (i : ℕ) → Option ℕ → ℕ → Bool → Type 0
  SkipsMore e es i before d t = (before' : Option ℕ) × (runs_from one bytes (i + 1) d before es ≡ runs_from one bytes (i + length (cut_by e es d t).0) 0 before' (cut_by e es d t).1)

  skip-more : (e : Event) (es : List Event) (i : ℕ) (before : Option ℕ) → ((d : ℕ) → Skips (i + 1) (suc d) before es (span_at (suc d) es)) → (d : ℕ) → SkipsMore e es i before d (d == 0)
  skip-more e es i before ih zero = (before, refl)
  skip-more e es i before ih (suc d) =
      let more = ih d in
      let n : (i + 1) + length (span_at (suc d) es).0 ≡ i + length (e ∷ (span_at (suc d) es).0) = omega arith in
      subst (SkipsMore e es i before (suc d)) (sym (open-yet d)) (more.0, more.1 ∙ ap (λ k. runs_from one bytes k 0 more.0 (span_at (suc d) es).1) n)

  pub skipped : (es : List Event) (i depth : ℕ) (before : Option ℕ) → Skips i (suc depth) before es (span_at (suc depth) es)
  skipped [] i depth before = (None, refl)
  skipped (e ∷ []) i depth before = elim (depth_after e.kind (suc depth) == 0) as (λ t. Skips i (suc depth) before (e ∷ []) (cond t (e ∷ [], []) (e ∷ [], []))) [
    | true ↦ (None, refl)
    | false ↦ (None, refl)
  ]
  skipped (e ∷ g ∷ es) i depth before =
      let d = depth_after e.kind (suc depth) in
      let more = skip-more e (g ∷ es) i (Some e.point.index) (λ n. skipped (g ∷ es) (i + 1) n (Some e.point.index)) d in
      let here : runs_from one bytes i (suc depth) before (e ∷ g ∷ es) ≡ runs_from one bytes (i + 1) d (Some e.point.index) (g ∷ es) =
      ap (λ t. cond (t && is_sequence e g) (run_at one bytes i e g before (index_of_event (slice_get es 0)) ∷ runs_from one bytes (i + 2) (suc depth) (Some g.point.index) es) (runs_from one bytes (i + 1) d (Some e.point.index) (g ∷ es))) (open-yet depth) in
      (more.0, here ∙ more.1)

  module _ (f : ℕ → List Event) (rest : List Event) where
    abbrev Goal : List Event → ℕ → List Event × List Event → List Run → Type 0
    Goal since b p rs = let ps = parts_of (p.0 ∷ spans_in b p.1) rs in Placed f rest since ps × (runs_of_parts ps ≡ rs)

    placed : (bound : ℕ) (es since : List Event) (i j : ℕ) (before : Option ℕ) → length es ≤ bound → names_after_all (Some []) es ≡ Some [] → j ≡ i + length since
        → HasRunsAt f rest i (map index_of (runs_from one bytes j 0 before es)) (since ++ es)
        → let ps = parts_of (spans_in bound es) (runs_from one bytes j 0 before es) in
        Placed f rest since ps × (runs_of_parts ps ≡ runs_from one bytes j 0 before es)
    placed zero [] since i j before few end at h = (sym (append-nil since) ∙ h, refl)
    placed zero (e ∷ es) since i j before few end at h = absurd (omega (arith, few))
    placed (suc b) [] since i j before few end at h = (sym (append-nil since) ∙ h, refl)
    placed (suc b) (e ∷ []) since i j before few end at h = never-one e.kind e.name end
    placed (suc b) (e ∷ g ∷ es) since i j before few end at h =
        let kind = starts e.kind e.name (g ∷ es) end in
        elim (cases_Bool (is_sequence e g)) [
          | inl is ↦
              let kinds = sequence-is e.kind g.kind e.name g.name is in
              let r = run_at one bytes j e g before (index_of_event (slice_get es 0)) in
              let rs = runs_from one bytes (j + 2) 0 (Some g.point.index) es in
              let runs : runs_from one bytes j 0 before (e ∷ g ∷ es) ≡ r ∷ rs = rw is refl in
              let has = subst (λ qs. HasRunsAt f rest i (map index_of qs) (since ++ e ∷ g ∷ es)) runs h in
              let long : length (f j) ≡ length since = omega (arith, at, has.4) in
              let whole = has.0 ∷ has.1 ∷ has.2 in
              let same : f j ≡ since =
              sym (take-append_seam (f j) whole) ∙ ap (λ n. take n (f j ++ whole)) long ∙ ap (take (length since)) (sym has.3) ∙ take-append_seam since (e ∷ g ∷ es) in
              let more : has.2 ≡ es =
              sym (drop-append-add (f j) whole 2) ∙ ap (drop (length (f j) + 2)) (sym has.3) ∙ ap (λ n. drop (n + 2) (since ++ e ∷ g ∷ es)) long ∙ drop-append-add since (e ∷ g ∷ es) 2 in
              let pair = pair-span e g es kinds.0 kinds.1 in
              let closes = subst (Closes []) pair (span-closes 0 (e ∷ g ∷ es) [] refl end) in
              let ih = placed b es [] (j + 2) (j + 2) (Some g.point.index) (omega (arith, few)) closes.1 (omega arith) (subst (HasRunsAt f rest (j + 2) (map index_of rs)) more has.5) in
              let behind = subst (AllByRecursion (λ (s : Run). suc j ≤ s.index)) (sym ih.1) (runs-behind one bytes (suc j) (j + 2) 0 (Some g.point.index) es (omega arith)) in
              subst (λ qs. Goal since b (span_at 0 (e ∷ g ∷ es)) qs) (sym runs) (subst (λ p. Goal since b p (r ∷ rs)) (sym pair)
              (subst (λ t. let q : Part × List Run = cond t (run r, rs) (events (e ∷ g ∷ []), r ∷ rs) in let ps = q.0 ∷ parts_of (spans_in b es) q.1 in Placed f rest since ps × (runs_of_parts ps ≡ r ∷ rs)) (sym is)
              ((same, behind, ih.0), ap (λ qs. r ∷ qs) ih.1)))
          | inr other ↦
              let q = span_at 1 (g ∷ es) in
              let step : runs_from one bytes j 0 before (e ∷ g ∷ es) ≡ runs_from one bytes (j + 1) 1 (Some e.point.index) (g ∷ es) = rw (other, kind) refl in
              let skip = skipped (g ∷ es) (j + 1) 0 (Some e.point.index) in
              let rs = runs_from one bytes ((j + 1) + length q.0) 0 skip.0 q.1 in
              let runs : runs_from one bytes j 0 before (e ∷ g ∷ es) ≡ rs = step ∙ skip.1 in
              let opens = span-opens e (g ∷ es) kind in
              let first = front-first 1 g es in
              let plain : is_run (e ∷ q.0) ≡ false = ap (λ xs. is_run (e ∷ xs)) first.1 ∙ no-run e g first.0 other in
              let joined : since ++ e ∷ g ∷ es ≡ (since ++ e ∷ q.0) ++ q.1 = ap (λ xs. since ++ e ∷ xs) (sym (span-joins 1 (g ∷ es))) ∙ sym (append_assoc since (e ∷ q.0) q.1) in
              let closes = subst (Closes []) opens (span-closes 0 (e ∷ g ∷ es) [] refl end) in
              let whole : length q.0 + length q.1 ≡ length (g ∷ es) = sym (length-append q.0 q.1) ∙ ap length (span-joins 1 (g ∷ es)) in
              let long : length (since ++ e ∷ q.0) ≡ length since + length (e ∷ q.0) = length-append since (e ∷ q.0) in
              let has = subst (λ qs. HasRunsAt f rest i (map index_of qs) (since ++ e ∷ g ∷ es)) runs h in
              let ih =
              placed b q.1 (since ++ e ∷ q.0) i ((j + 1) + length q.0) skip.0 (omega (arith, few, whole)) closes.1 (omega (arith, at, long)) (subst (HasRunsAt f rest i (map index_of rs)) joined has) in
              subst (λ qs. Goal since b (span_at 0 (e ∷ g ∷ es)) qs) (sym runs) (subst (λ p. Goal since b p rs) (sym opens)
              (subst (λ (w : Part × List Run). let ps = w.0 ∷ parts_of (spans_in b q.1) w.1 in Placed f rest since ps × (runs_of_parts ps ≡ rs)) (sym (part-plain (e ∷ q.0) rs plain)) ih))
        ]

pub emphasis-alone : IsEmphasisAlone
emphasis-alone one bytes es h none =
    let rs = runs_in one bytes es in
    let f = text_before_run es rs in
    let rest = text_behind_runs es rs in
    let ps = parts_of (outermost_spans es) rs in
    let has = (runs-and-texts one bytes es h).0 in
    let is = placed one bytes f rest (length es) es [] 0 0 None (omega arith) (names_after_balanced h []) refl has in
    let same = agree f rest [] ps is.0 in
    let alike = subst (AllByRecursion (λ (s : Run). text_before [] ps s.index ≡ f s.index)) is.1 same.0 in
    ap emphasised_parts (parts-plain rs es none)
    ∙ ap (λ qs. events_of_runs (text_before [] ps) (paired qs) ++ text_behind [] ps) is.1
    ∙ ap (λ xs. xs ++ text_behind [] ps) (same-paired (text_before [] ps) f rs alike)
    ∙ ap (λ xs. events_of_runs f (paired rs) ++ xs) same.1
