-- What links keep between places: the outermost spans of a list go from place to place, and so do the runs that are taken for them, one behind
-- another.
use Rattle.std.proofs.Common.{◌≡◌, ◌+◌, ◌<◌, ◌≤◌, ◌∙◌, ℕ, zero, suc, Bool, List, [], ◌∷◌, ◌++◌, false, cond, Option, Some, None, ap, append-nil, arith, inl, inr, length, length-append, map, refl, subst, sym}
use Rattle.std.proofs.lemmas.Bool.{cases_Bool}
use Rattle.std.specs.List.{AllByRecursion}
use Rattle.std.specs.Prelude.{slice_get}
use Rattle.markdown_base.proofs.Common.{every-map}
use Rattle.markdown_base.specs.declared.event.Event.{Event}
use Rattle.markdown_base.specs.declared.event.Point.{Point}
use Rattle.markdown_base.specs.Events.{IsBalanced, empty}
use Rattle.markdown_base.proofs.Facts.Lists.{some-front}
use Rattle.markdown_base.proofs.Balanced.{balanced_from_open, names_after_balanced}
use Rattle.markdown_base.specs.OpenNames.{names_after_all}
use Rattle.mdinline_emphasis.proofs.PairsKeep.{pairs-keep}
use Rattle.mdinline_emphasis.proofs.RunTexts.{sequence-is}
use Rattle.mdinline_emphasis.specs.declared.pairs.Style.{Style}
use Rattle.mdinline_emphasis.specs.Emphasis.{Run, closings, data_of, later, markers_of_all, openings, paired}
use Rattle.mdinline_emphasis.specs.Places.{Standing, markers, standing}
use Rattle.mdinline_emphasis.specs.RunEdits.{in_place}
use Rattle.mdinline_emphasis.specs.Runs.{index_of_event, is_sequence, run_at, runs_from, runs_in}
use Rattle.mdinline_links.proofs.Between.{AreSpans, IsKeptByParts, IsSpan, all-go}
use Rattle.mdinline_links.proofs.Leaves.{data-balanced, links-balanced}
use Rattle.mdinline_links.proofs.Plain.{front-first, never-one, no-run, pair-span, part-plain, skipped, span-opens, starts}
use Rattle.mdinline_links.proofs.Spans.{Closes, span-closes, span-joins}
use Rattle.mdinline_links.proofs.WithRuns.{emphasised-runs}
use Rattle.mdinline_links.specs.Between.{AreParts, IsKeptBetween, IsPart, IsRunOf, with_runs}
use Rattle.mdinline_links.specs.Laid.{AreAscending}
use Rattle.mdinline_links.specs.Linked.{Part, run, events, is_run, outermost_spans, part_of, runs_of_parts, span_at, spans_in, with_links}

-- ---- what comes in the place of a run is something

some-in-place : (p q r : Point) (closed : List Style) (n : ℕ) (opened : List Style) → 0 < markers_of_all closed + (n + markers_of_all opened) → 0 < length (closings p closed ++ (data_of q n ++ openings r opened))
some-in-place p q r (s ∷ ss) n opened h = omega arith
some-in-place p q r [] (suc n) opened h = omega arith
some-in-place p q r [] zero (s ∷ ss) h = omega arith
some-in-place p q r [] zero [] h = absurd (omega (arith, h))

place-some : (r : Run) → 0 < markers r → 0 < length (in_place r)
place-some r h = let p = later (markers_of_all r.closed) r.start in some-in-place r.start p (later r.left p) r.closed r.left r.opened h

module _ (one : Bool) (bytes : List ℕ) (T : List Event → Type 0) (Q : Type 0) (A B : Q → List Event → Q → Type 0) (R : Q → Run → Q → Type 0) (kept : IsKeptBetween bytes T Q A B R) where
  -- places with an index of the list
  abbrev pub Place : Type 0
  Place = Q × ℕ

  abbrev pub Goes : Place → List Event → Place → Type 0
  Goes p es q = B p.0 es q.0 × (p.1 ≤ q.1)

  abbrev pub RunGoes : Place → Run → Place → Type 0
  RunGoes p r q = R p.0 r q.0 × (p.1 ≤ r.index) × (r.index < q.1)

  pub parts-first : (p q : Place) (ps : List Part) → AreParts Place Goes RunGoes p ps q → AreParts Q B R p.0 ps q.0
  parts-first p q [] h = ap (λ (x : Place). x.0) h
  parts-first p q (run r ∷ ps) h = (h.0.0, (h.1.0.0, h.1.1, h.1.2), parts-first h.0 q ps h.2)
  parts-first p q (events es ∷ ps) h = (h.0.0, (h.1.0.0, h.1.1, h.1.2), parts-first h.0 q ps h.2)

  -- so the runs stand one behind another
  pub parts-ascend : (p q : Place) (ps : List Part) → AreParts Place Goes RunGoes p ps q → (p.1 ≤ q.1) × AllByRecursion (λ (r : Run). p.1 ≤ r.index) (runs_of_parts ps) × AreAscending (runs_of_parts ps)
  parts-ascend p q [] h = let same = ap (λ (x : Place). x.1) h in (omega (arith, same), tt, tt)
  parts-ascend p q (run r ∷ ps) h =
      let more = parts-ascend h.0 q ps h.2 in
      let from = h.1.0.1 in
      let upto = h.1.0.2 in (
        omega (arith, from, upto, more.0),
        (from, every-map (λ (s : Run). h.0.1 ≤ s.index) (λ (s : Run). p.1 ≤ s.index) (λ (s : Run) less. omega (arith, from, upto, less)) (runs_of_parts ps) more.1),
        (every-map (λ (s : Run). h.0.1 ≤ s.index) (λ (s : Run). r.index < s.index) (λ (s : Run) less. omega (arith, upto, less)) (runs_of_parts ps) more.1, more.2),
      )
  parts-ascend p q (events es ∷ ps) h =
      let more = parts-ascend h.0 q ps h.2 in
      let from = h.1.0.1 in (
        omega (arith, from, more.0),
        every-map (λ (s : Run). h.0.1 ≤ s.index) (λ (s : Run). p.1 ≤ s.index) (λ (s : Run) less. omega (arith, from, less)) (runs_of_parts ps) more.1,
        more.2,
      )

  runs-some : (p q : Place) (ps : List Part) (ss : List Run) → AreParts Place Goes RunGoes p ps q → map standing ss ≡ map standing (runs_of_parts ps) → 0 < length ps → 0 < length (with_runs ps ss)
  runs-some p q [] ss h same some = absurd (omega (arith, some))
  runs-some p q (run r ∷ ps) [] h same some = cc
  runs-some p q (run r ∷ ps) (s ∷ ss) h same some =
      let first : standing s ≡ standing r = cc in
      let many : markers s ≡ markers r = ap (λ (x : Standing). x.markers) first in
      some-front (in_place s) (with_runs ps ss) (place-some s (omega (arith, many, h.1.2)))
  runs-some p q (events es ∷ ps) ss h same some = some-front es (with_runs ps ss) h.1.2

  pub by-parts : IsKeptByParts Place Goes RunGoes
  by-parts = record {
    nothing = λ q. (kept.nothing q.0, omega arith);
    together = λ p m q xs ys b c h k. (kept.together p.0 m.0 q.0 xs ys b c h.0 k.0, omega (arith, h.1, k.1));
    around_it = λ p q name e es n b h. (kept.around_it p.0 q.0 name e es n b h.0, h.1);
    text_around = λ p m n q e es text f fs some b c h k l. (kept.text_around p.0 m.0 n.0 q.0 e es text f fs some b c h.0 k.0 l.0, omega (arith, h.1, k.1, l.1));
    emphasis = λ p q ps h. let up = parts-ascend p q ps h in (subst (λ xs. B p.0 xs q.0) (sym (emphasised-runs ps up.2)) (kept.emphasis p.0 q.0 ps (parts-first p q ps h)), up.0);
    some = λ p q ps h some. subst (λ xs. 0 < length xs) (sym (emphasised-runs ps (parts-ascend p q ps h).2)) (runs-some p q ps (paired (runs_of_parts ps)) h (pairs-keep (runs_of_parts ps)) some);
  }

  one-span : (p m : Q) (j k : ℕ) (e : Event) (xs : List Event) → j ≤ k → IsBalanced (e ∷ xs) → T (e ∷ xs) → A p (e ∷ xs) m → IsSpan Place Goes RunGoes (p, j) (e ∷ xs) (m, k)
  one-span p m j k e xs less b known h = (((kept.same p m (e ∷ xs) b h, less), b, omega arith), (λ is. ((kept.data_of_it p m e xs is known h, less), data-balanced (e ∷ xs), omega arith)))

  -- what is left behind a span, and the part that the span is
  abbrev pub Behind : ℕ → Place → List Event × List Event → Part × List Run → Q → Type 0
  Behind bound p w x q =
      (m : Q) × (k : ℕ) × ((n : Place) × IsSpan Place Goes RunGoes p w.0 n × IsPart Place Goes RunGoes p x.0 n × AreSpans Place Goes RunGoes n (spans_in bound w.1) x.1 (m, k)) × A m [] q

  pub aligned : (bound : ℕ) (es : List Event) (j : ℕ) (before : Option ℕ) (p q : Q) → length es ≤ bound → names_after_all (Some []) es ≡ Some [] → AllByRecursion T (spans_in bound es) → A p es q
      → (m : Q) × (k : ℕ) × AreSpans Place Goes RunGoes (p, j) (spans_in bound es) (runs_from one bytes j 0 before es) (m, k) × A m [] q
  aligned zero [] j before p q few end known h = (p, j, refl, h)
  aligned zero (e ∷ es) j before p q few end known h = absurd (omega (arith, few))
  aligned (suc b) [] j before p q few end known h = (p, j, refl, h)
  aligned (suc b) (e ∷ []) j before p q few end known h = never-one e.kind e.name end
  aligned (suc b) (e ∷ g ∷ es) j before p q few end known h =
      elim (cases_Bool (is_sequence e g)) [
        | inl is ↦
            let kinds = sequence-is e.kind g.kind e.name g.name is in
            let span = e ∷ g ∷ [] in
            let r = run_at one bytes j e g before (index_of_event (slice_get es 0)) in
            let rs = runs_from one bytes (j + 2) 0 (Some g.point.index) es in
            let runs : runs_from one bytes j 0 before (e ∷ g ∷ es) ≡ r ∷ rs = rw is refl in
            let pair = pair-span e g es kinds.0 kinds.1 in
            let closes = subst (Closes []) pair (span-closes 0 (e ∷ g ∷ es) [] refl end) in
            let first = balanced_from_open span closes.0 in
            let these = subst (λ (w : List Event × List Event). AllByRecursion T (w.0 ∷ spans_in b w.1)) pair known in
            let cut = kept.apart p q span es first (balanced_from_open es closes.1) h in
            let more = aligned b es (j + 2) (Some g.point.index) cut.0 q (omega (arith, few)) closes.1 these.1 cut.2 in
            let run_is : IsRunOf bytes r e g = record { is = is; fresh = (refl, refl); start = refl; many = refl; marker = refl } in
            let got = kept.run_of p cut.0 r e g run_is these.0 cut.1 in
            subst (λ qs. Behind b (p, j) (span_at 0 (e ∷ g ∷ es)) (part_of (span_at 0 (e ∷ g ∷ es)).0 qs) q) (sym runs)
            (subst (λ (w : List Event × List Event). Behind b (p, j) w (part_of w.0 (r ∷ rs)) q) (sym pair)
            (subst (λ t. let x : Part × List Run = cond t (run r, rs) (events span, r ∷ rs) in Behind b (p, j) (span, es) x q) (sym is)
            (more.0, more.1, ((cut.0, j + 2), one-span p cut.0 j (j + 2) e (g ∷ []) (omega arith) first these.0 cut.1, ((got.0, omega arith, omega arith), (refl, refl), got.1), more.2), more.3)))
        | inr other ↦
            let kind = starts e.kind e.name (g ∷ es) end in
            let w = span_at 1 (g ∷ es) in
            let span = e ∷ w.0 in
            let k = (j + 1) + length w.0 in
            let step : runs_from one bytes j 0 before (e ∷ g ∷ es) ≡ runs_from one bytes (j + 1) 1 (Some e.point.index) (g ∷ es) = rw (other, kind) refl in
            let skip = skipped one bytes (g ∷ es) (j + 1) 0 (Some e.point.index) in
            let rs = runs_from one bytes k 0 skip.0 w.1 in
            let runs : runs_from one bytes j 0 before (e ∷ g ∷ es) ≡ rs = step ∙ skip.1 in
            let opens = span-opens e (g ∷ es) kind in
            let front = front-first 1 g es in
            let plain : is_run span ≡ false = ap (λ xs. is_run (e ∷ xs)) front.1 ∙ no-run e g front.0 other in
            let joined : e ∷ g ∷ es ≡ span ++ w.1 = ap (λ xs. e ∷ xs) (sym (span-joins 1 (g ∷ es))) in
            let closes = subst (Closes []) opens (span-closes 0 (e ∷ g ∷ es) [] refl end) in
            let whole : length w.0 + length w.1 ≡ length (g ∷ es) = sym (length-append w.0 w.1) ∙ ap length (span-joins 1 (g ∷ es)) in
            let first = balanced_from_open span closes.0 in
            let these = subst (λ (u : List Event × List Event). AllByRecursion T (u.0 ∷ spans_in b u.1)) opens known in
            let cut = kept.apart p q span w.1 first (balanced_from_open w.1 closes.1) (subst (λ l. A p l q) joined h) in
            let more = aligned b w.1 k skip.0 cut.0 q (omega (arith, few, whole)) closes.1 these.1 cut.2 in
            let here = one-span p cut.0 j k e w.0 (omega arith) first these.0 cut.1 in
            subst (λ qs. Behind b (p, j) (span_at 0 (e ∷ g ∷ es)) (part_of (span_at 0 (e ∷ g ∷ es)).0 qs) q) (sym runs)
            (subst (λ (u : List Event × List Event). Behind b (p, j) u (part_of u.0 rs) q) (sym opens)
            (subst (λ (x : Part × List Run). Behind b (p, j) (span, w.1) x q) (sym (part-plain span rs plain))
            (more.0, more.1, ((cut.0, k), here, here.0, more.2), more.3)))
      ]

  -- Links and images keep the property
  pub links-keep-between : (es : List Event) (p q : Q) → IsBalanced es → AllByRecursion T (outermost_spans es) → A p es q → B p (with_links one bytes es) q
  links-keep-between es p q balanced known h =
      let a = aligned (length es) es 0 None p q (omega arith) (names_after_balanced balanced []) known h in
      let all = all-go Place Goes RunGoes by-parts (p, 0) (a.0, a.1) (outermost_spans es) (runs_in one bytes es) a.2 in
      subst (λ xs. B p xs q) (append-nil (with_links one bytes es)) (kept.together p a.0 q (with_links one bytes es) [] (links-balanced one bytes es balanced) empty all.0 (kept.same a.0 q [] empty a.3))
