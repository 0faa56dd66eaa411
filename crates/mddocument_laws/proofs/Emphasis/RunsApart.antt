-- The delimiter runs of a text are taken apart by links and images: each is in one part, and in each part they stand in their order.
use Rattle.mddocument_laws.proofs.Prelude.{nil_from_length, ◌≡◌, ℕ, zero, suc, ◌+◌, ◌-◌, ◌≤◌, ◌∙◌, List, [], ◌∷◌, ◌++◌, Bool, true, false, cond, inl, inr, not, Option, Some, None, append-nil, append_assoc, arith, length, refl, sym, ap, subst, eqb-suc-zero, and_parts, cond_both, false_from_ne_true, false≢true, or_cases, flat_map-append, All-from_recursion, IsPermutation-append_comm, IsPermutation-append_left, IsPermutation-append_right, IsPermutation-refl, IsPermutation-trans, AllByRecursion, flat_map, IsPermutation, ◌&&◌, slice_get, every-append, Event, Enter, Exit, Name, AttentionSequence, LabelEnd, LabelImage, LabelLink, LabelMarker, Reference, Resource, is_enter, same_name, same_name-true, Run, depth_after, index_of_event, is_sequence, run_at, runs_from, runs_in, runs-ascend, AreAscending, SoFar, Waiting, added, all_parts, as_data, ended, events, failed, is_bracket, is_run, is_tail, made, opened, outermost_spans, part_of, runs_of_parts, span_at, spans_in, taken, RunsAreApart, runs_apart, runs_apart_from, runs_inside, runs_outside, ◌==◌}
use Rattle.markdown_base.specs.declared.event.Kind.{Kind}
use Rattle.mdinline_links.proofs.Plain.{no-run}
use Rattle.mdinline_links.specs.Linked.{Part, is_named, run}
use Rattle.mddocument_laws.proofs.Emphasis.LinkSpans.{all-runs, ascend-around, of-both, runs_so_far, runs_waiting}
use Rattle.mddocument_laws.proofs.WholeSpans.{runs_among}

-- ---- as many runs are found as there are spans that are runs

module _ (one : Bool) (bytes : List ℕ) where
  -- behind the span that is open, runs are found as at the front of a list
  record IsPassed (d i : ℕ) (before : Option ℕ) (es : List Event) : Type 0 where
    index : ℕ
    since : Option ℕ
    is : runs_from one bytes i (suc d) before es ≡ runs_from one bytes index 0 since (span_at (suc d) es).1

  rest-of : (d : ℕ) (e : Event) → (span_at d (e ∷ [])).1 ≡ []
  rest-of d e = cond_both (depth_after e.kind d == 0) (e ∷ [], []) (e ∷ [], []) (λ (p : List Event × List Event). p.1 ≡ []) (λ x. refl) (λ x. refl)

  on-further : (d i m : ℕ) (before : Option ℕ) (e f : Event) (es : List Event) → depth_after e.kind (suc d) ≡ m → runs_from one bytes i (suc d) before (e ∷ f ∷ es) ≡ runs_from one bytes (i + 1) m (Some e.point.index) (f ∷ es)
  on-further d i m before e f es h =
      ap (λ b. cond (b && is_sequence e f) (run_at one bytes i e f before (index_of_event (slice_get es 0)) ∷ runs_from one bytes (i + 2) (suc d) (Some f.point.index) es) (runs_from one bytes (i + 1) (depth_after e.kind (suc d)) (Some e.point.index) (f ∷ es))) (eqb-suc-zero d)
      ∙ ap (λ k. runs_from one bytes (i + 1) k (Some e.point.index) (f ∷ es)) h

  -- behind an event with which spans stay open, or no span does
  rest-open : (d m : ℕ) (e : Event) (es : List Event) → depth_after e.kind d ≡ suc m → (span_at d (e ∷ es)).1 ≡ (span_at (suc m) es).1
  rest-open d m e es h =
      let by_depth : ℕ → List Event × List Event = λ k. cond (k == 0) (e ∷ [], es) (e ∷ (span_at k es).0, (span_at k es).1) in
      let by_test : Bool → List Event × List Event = λ b. cond b (e ∷ [], es) (e ∷ (span_at (suc m) es).0, (span_at (suc m) es).1) in
      ap (λ (p : List Event × List Event). p.1) (ap by_depth h ∙ ap by_test (eqb-suc-zero m))

  rest-shut : (d : ℕ) (e : Event) (es : List Event) → depth_after e.kind d ≡ 0 → span_at d (e ∷ es) ≡ (e ∷ [], es)
  rest-shut d e es h = ap (λ (k : ℕ). cond (k == 0) (e ∷ [], es) (e ∷ (span_at k es).0, (span_at k es).1)) h

  passed : (d i : ℕ) (before : Option ℕ) (es : List Event) → IsPassed d i before es
  passed d i before [] = record { index = 0; since = None; is = refl }
  passed d i before (e ∷ []) = record { index = 0; since = None; is = ap (runs_from one bytes 0 0 None) (sym (rest-of (suc d) e)) }
  passed d i before (e ∷ f ∷ es) = by e.kind refl d refl (λ m. passed m (i + 1) (Some e.point.index) (f ∷ es))
    where
      further : (m : ℕ) → depth_after e.kind (suc d) ≡ suc m → IsPassed m (i + 1) (Some e.point.index) (f ∷ es) → IsPassed d i before (e ∷ f ∷ es)
      further m h more = record {
        index = more.index;
        since = more.since;
        is = on-further d i (suc m) before e f es h ∙ more.is ∙ ap (runs_from one bytes more.index 0 more.since) (sym (rest-open (suc d) m e (f ∷ es) h));
      }

      by : (k : Kind) → e.kind ≡ k → (n : ℕ) → d ≡ n → ((m : ℕ) → IsPassed m (i + 1) (Some e.point.index) (f ∷ es)) → IsPassed d i before (e ∷ f ∷ es)
      by Enter is n z more = further (suc d) (ap (λ k. depth_after k (suc d)) is) (more (suc d))
      by Exit is zero z more =
          let shut : depth_after e.kind (suc d) ≡ 0 = ap (λ k. depth_after k (suc d)) is ∙ (let none : suc d - 1 ≡ 0 = omega (arith, z) in none) in
          record { index = i + 1; since = Some e.point.index; is = on-further d i 0 before e f es shut ∙ ap (λ (p : List Event × List Event). runs_from one bytes (i + 1) 0 (Some e.point.index) p.1) (sym (rest-shut (suc d) e (f ∷ es) shut)) }
      by Exit is (suc n) z more = further n (ap (λ k. depth_after k (suc d)) is ∙ (let left : suc d - 1 ≡ suc n = omega (arith, z) in left)) (more n)

  -- what is left is no longer
  rest-short : (d : ℕ) (es : List Event) → length (span_at d es).1 ≤ length es
  rest-short d [] = omega arith
  rest-short d (e ∷ es) =
      let more = rest-short (depth_after e.kind d) es in
      cond_both (depth_after e.kind d == 0) (e ∷ [], es) (e ∷ (span_at (depth_after e.kind d) es).0, (span_at (depth_after e.kind d) es).1) (λ (p : List Event × List Event). length p.1 ≤ length (e ∷ es)) (λ x. omega arith) (λ x. omega (arith, more))

  first-short : (d : ℕ) (e : Event) (es : List Event) → length (span_at d (e ∷ es)).1 ≤ length es
  first-short d e es =
      let more = rest-short (depth_after e.kind d) es in
      cond_both (depth_after e.kind d == 0) (e ∷ [], es) (e ∷ (span_at (depth_after e.kind d) es).0, (span_at (depth_after e.kind d) es).1) (λ (p : List Event × List Event). length p.1 ≤ length es) (λ x. omega arith) (λ x. more)

  -- of the first span, and what is behind it
  abbrev Counts : ℕ → Option ℕ → List Event → (List Event × List Event) → Type 0
  Counts i before es p = (j : ℕ) × (b : Option ℕ) × (length (runs_from one bytes i 0 before es) ≡ cond (is_run p.0) 1 0 + length (runs_from one bytes j 0 b p.1))

  count-exit : (i : ℕ) (before : Option ℕ) (e : Event) (es : List Event) → e.kind ≡ Exit → Counts i before (e ∷ es) (e ∷ [], es)
  count-exit i before e [] h = (0, None, refl)
  count-exit i before e (f ∷ es) h =
      let none : is_sequence e f ≡ false = ap (λ k. (is_enter k && same_name e.name AttentionSequence) && (not (is_enter f.kind) && same_name f.name AttentionSequence)) h in
      let on : runs_from one bytes i 0 before (e ∷ f ∷ es) ≡ runs_from one bytes (i + 1) 0 (Some e.point.index) (f ∷ es) =
      ap (λ b. cond b (run_at one bytes i e f before (index_of_event (slice_get es 0)) ∷ runs_from one bytes (i + 2) 0 (Some f.point.index) es) (runs_from one bytes (i + 1) (depth_after e.kind 0) (Some e.point.index) (f ∷ es))) none
      ∙ ap (λ k. runs_from one bytes (i + 1) (depth_after k 0) (Some e.point.index) (f ∷ es)) h in
      (i + 1, Some e.point.index, ap length on ∙ (let z : (n : ℕ) → n ≡ 0 + n = λ n. omega arith in z _))

  shut-after : (k : Kind) → not (is_enter k) ≡ true → depth_after k 1 ≡ 0
  shut-after Enter n = absurd (false≢true n)
  shut-after Exit n = refl

  count-enter : (i : ℕ) (before : Option ℕ) (e : Event) (es : List Event) → e.kind ≡ Enter → Counts i before (e ∷ es) (e ∷ (span_at 1 es).0, (span_at 1 es).1)
  count-enter i before e [] h = (0, None, refl)
  count-enter i before e (f ∷ es) h = by (is_sequence e f) refl
    where
      by : (b : Bool) → is_sequence e f ≡ b → Counts i before (e ∷ f ∷ es) (e ∷ (span_at 1 (f ∷ es)).0, (span_at 1 (f ∷ es)).1)
      by true is =
          let both = and_parts (is_enter e.kind && same_name e.name AttentionSequence) (not (is_enter f.kind) && same_name f.name AttentionSequence) is in
          let exits = (and_parts (not (is_enter f.kind)) (same_name f.name AttentionSequence) both.1).0 in
          let shut = rest-shut 1 f es (shut-after f.kind exits) in
          let found : runs_from one bytes i 0 before (e ∷ f ∷ es) ≡ run_at one bytes i e f before (index_of_event (slice_get es 0)) ∷ runs_from one bytes (i + 2) 0 (Some f.point.index) es =
          ap (λ b. cond b (run_at one bytes i e f before (index_of_event (slice_get es 0)) ∷ runs_from one bytes (i + 2) 0 (Some f.point.index) es) (runs_from one bytes (i + 1) (depth_after e.kind 0) (Some e.point.index) (f ∷ es))) is in
          let plus_one : (n : ℕ) → suc n ≡ 1 + n = λ n. omega arith in
          subst (λ (p : List Event × List Event). Counts i before (e ∷ f ∷ es) (e ∷ p.0, p.1)) (sym shut) (i + 2, Some f.point.index, ap length found ∙ plus_one _ ∙ sym (ap (λ b. cond b 1 0 + length (runs_from one bytes (i + 2) 0 (Some f.point.index) es)) is))
      by false is =
          let more = passed 0 (i + 1) (Some e.point.index) (f ∷ es) in
          let on : runs_from one bytes i 0 before (e ∷ f ∷ es) ≡ runs_from one bytes (i + 1) 1 (Some e.point.index) (f ∷ es) =
          ap (λ b. cond b (run_at one bytes i e f before (index_of_event (slice_get es 0)) ∷ runs_from one bytes (i + 2) 0 (Some f.point.index) es) (runs_from one bytes (i + 1) (depth_after e.kind 0) (Some e.point.index) (f ∷ es))) is
          ∙ ap (λ k. runs_from one bytes (i + 1) (depth_after k 0) (Some e.point.index) (f ∷ es)) h in
          let none : is_run (e ∷ (span_at 1 (f ∷ es)).0) ≡ false =
          cond_both (depth_after f.kind 1 == 0) (f ∷ [], es) (f ∷ (span_at (depth_after f.kind 1) es).0, (span_at (depth_after f.kind 1) es).1) (λ (p : List Event × List Event). is_run (e ∷ p.0) ≡ false) (λ x. is) (λ x. no-run e f (span_at (depth_after f.kind 1) es).0 is) in
          let zero_more : (n : ℕ) → n ≡ 0 + n = λ n. omega arith in
          (more.index, more.since, ap length (on ∙ more.is) ∙ zero_more _ ∙ sym (ap (λ b. cond b 1 0 + length (runs_from one bytes more.index 0 more.since (span_at 1 (f ∷ es)).1)) none))

  count-first : (i : ℕ) (before : Option ℕ) (e : Event) (es : List Event) → Counts i before (e ∷ es) (span_at 0 (e ∷ es))
  count-first i before e es = by e.kind refl
    where
      by : (k : Kind) → e.kind ≡ k → Counts i before (e ∷ es) (span_at 0 (e ∷ es))
      by Enter is =
          let by_depth : ℕ → List Event × List Event = λ n. cond (n == 0) (e ∷ [], es) (e ∷ (span_at n es).0, (span_at n es).1) in
          let opened_is : span_at 0 (e ∷ es) ≡ (e ∷ (span_at 1 es).0, (span_at 1 es).1) = ap (λ (k : Kind). by_depth (depth_after k 0)) is in
          subst (Counts i before (e ∷ es)) (sym opened_is) (count-enter i before e es is)
      by Exit is = subst (Counts i before (e ∷ es)) (sym (rest-shut 0 e es (ap (λ k. depth_after k 0) is))) (count-exit i before e es is)

  pub count-runs : (bound i : ℕ) (before : Option ℕ) (es : List Event) → length es ≤ bound → runs_among (spans_in bound es) ≡ length (runs_from one bytes i 0 before es)
  count-runs zero i before [] few = refl
  count-runs zero i before (e ∷ es) few = absurd (omega (arith, few))
  count-runs (suc bound) i before [] few = refl
  count-runs (suc bound) i before (e ∷ es) few =
      let p = span_at 0 (e ∷ es) in
      let first = count-first i before e es in
      let short = first-short 0 e es in
      let more = count-runs bound first.0 first.1 p.1 (omega (arith, few, short)) in
      ap (λ n. cond (is_run p.0) 1 0 + n) more ∙ sym first.2

-- ---- what a fold over spans has so far

-- all runs of the text that are in no link or image so far
abbrev left : SoFar → List Run
left z = runs_so_far z ++ z.runs

-- a run has no other name
run-named : (span : List Event) (n : Name) → same_name AttentionSequence n ≡ false → is_run span ≡ true → is_named n span ≡ false
run-named [] n other h = refl
run-named (e ∷ []) n other h = absurd (false≢true h)
run-named (e ∷ f ∷ []) n other h =
    false_from_ne_true (is_named n (e ∷ f ∷ [])) (λ named.
    let both = and_parts (is_enter e.kind && same_name e.name AttentionSequence) (not (is_enter f.kind) && same_name f.name AttentionSequence) h in
    let one = (and_parts (is_enter e.kind) (same_name e.name AttentionSequence) both.0).1 in
    let two = (and_parts (is_enter e.kind) (same_name e.name n) named).1 in
    false≢true (sym other ∙ ap (λ m. same_name m n) (sym (same_name-true e.name AttentionSequence one)) ∙ two))
run-named (e ∷ f ∷ x ∷ xs) n other h = absurd (false≢true h)

-- so a span that has one is no run
named-no-run : (span : List Event) (n : Name) → same_name AttentionSequence n ≡ false → is_named n span ≡ true → is_run span ≡ false
named-no-run span n other h = false_from_ne_true (is_run span) (λ is. false≢true (sym (run-named span n other is) ∙ h))

-- how many runs a span is
abbrev runs_at : List Event → ℕ
runs_at span = cond (is_run span) 1 0

-- the runs that are left are the same, one less if a span is one
record IsStep (span : List Event) (z new : SoFar) : Type 0 where
  same : left new ≡ left z
  fewer : length z.runs ≡ runs_at span + length new.runs

same-runs : (span : List Event) (z : SoFar) → is_run span ≡ false → length z.runs ≡ runs_at span + length z.runs
same-runs span z h = (let zero_more : length z.runs ≡ 0 + length z.runs = omega arith in zero_more) ∙ sym (ap (λ b. cond b 1 0 + length z.runs) h)

is-opened : (span : List Event) (z : SoFar) → is_run span ≡ false → IsStep span z (opened span z)
is-opened span z h = record { same = ap (λ l. l ++ z.runs) (append-nil (runs_waiting z.waiting ++ runs_of_parts z.behind)); fewer = same-runs span z h }

behind-more : (ws : List Waiting) (ps : List Part) (es : List Event) → runs_waiting ws ++ runs_of_parts (ps ++ events es ∷ []) ≡ runs_waiting ws ++ runs_of_parts ps
behind-more ws ps es = ap (λ l. runs_waiting ws ++ l) ((of-both ps (events es ∷ [])).runs ∙ append-nil (runs_of_parts ps))

is-failed : (span : List Event) (ws : List Waiting) (z : SoFar) → is_run span ≡ false → z.waiting ≡ ws → IsStep span z (failed span ws z)
is-failed span [] z h is = record { same = ap (λ l. l ++ z.runs) (behind-more z.waiting z.behind (as_data span)); fewer = same-runs span z h }
is-failed span (w ∷ ws) z h is = record {
  same =
      let more = events (as_data w.opener) ∷ (z.behind ++ events (as_data span) ∷ []) in
      let inner : runs_of_parts (w.before ++ more) ≡ runs_of_parts w.before ++ runs_of_parts z.behind = (of-both w.before more).runs ∙ ap (λ l. runs_of_parts w.before ++ l) ((of-both z.behind (events (as_data span) ∷ [])).runs ∙ append-nil (runs_of_parts z.behind)) in
      ap (λ l. l ++ z.runs)
      (ap (λ l. runs_waiting ws ++ l) inner ∙ sym (append_assoc (runs_waiting ws) (runs_of_parts w.before) (runs_of_parts z.behind)) ∙ ap (λ xs. runs_waiting xs ++ runs_of_parts z.behind) (sym is));
  fewer = same-runs span z h;
}

abbrev with_part : SoFar → Part × List Run → SoFar
with_part z p = record z { behind = z.behind ++ p.0 ∷ []; runs = p.1 }

added-run : (span : List Event) (z : SoFar) (r : Run) (rs : List Run) → z.runs ≡ r ∷ rs → is_run span ≡ true → IsStep span z (with_part z (run r, rs))
added-run span z r rs is e = record {
  same =
      let front = runs_waiting z.waiting in
      let mine = runs_of_parts z.behind in
      ap (λ l. (front ++ l) ++ rs) ((of-both z.behind (run r ∷ [])).runs) ∙ ap (λ l. l ++ rs) (sym (append_assoc front mine (r ∷ []))) ∙ append_assoc (front ++ mine) (r ∷ []) rs ∙ ap (λ l. (front ++ mine) ++ l) (sym is);
  fewer = ap length is ∙ (let one : length (r ∷ rs) ≡ 1 + length rs = omega arith in one) ∙ sym (ap (λ b. cond b 1 0 + length rs) e);
}

added-events : (span : List Event) (z : SoFar) (rs : List Run) → z.runs ≡ rs → length z.runs ≡ runs_at span + length rs → IsStep span z (with_part z (events span, rs))
added-events span z rs is few = record { same = ap (λ l. l ++ rs) (behind-more z.waiting z.behind span) ∙ ap (λ l. runs_so_far z ++ l) (sym is); fewer = few }

part-added : (span : List Event) (z : SoFar) (rs : List Run) → z.runs ≡ rs → runs_at span ≤ length rs → IsStep span z (with_part z (part_of span rs))
part-added span z [] is some = let none = ap length is in added-events span z [] is (omega (arith, some, none))
part-added span z (r ∷ rs) is some =
    cond_both (is_run span) (run r, rs) (events span, r ∷ rs) (λ (p : Part × List Run). IsStep span z (with_part z p)) (λ e. added-run span z r rs is e)
    (λ e. added-events span z (r ∷ rs) is (same-runs span z e ∙ ap (λ l. runs_at span + length l) is))

is-added : (span : List Event) (z : SoFar) → runs_at span ≤ length z.runs → IsStep span z (added span z)
is-added span z some = part-added span z z.runs refl some

pub bracket-no-run : (span : List Event) → is_bracket span ≡ true → is_run span ≡ false
bracket-no-run span h = elim (or_cases (is_named LabelLink span) (is_named LabelImage span) h) [
  | inl link ↦ named-no-run span LabelLink refl link
  | inr image ↦ named-no-run span LabelImage refl image
]

pub tail-no-run : (span : List Event) → is_tail span ≡ true → is_run span ≡ false
tail-no-run span h = elim (or_cases (is_named Resource span) (is_named Reference span) h) [
  | inl resource ↦ named-no-run span Resource refl resource
  | inr reference ↦ named-no-run span Reference refl reference
]

is-taken : (span : List Event) (z : SoFar) → runs_at span ≤ length z.runs → IsStep span z (taken span z)
is-taken span z some =
    cond_both (is_bracket span) (opened span z) (cond (is_named LabelMarker span) (failed span z.waiting z) (added span z)) (IsStep span z) (λ e. is-opened span z (bracket-no-run span e))
    (λ x. cond_both (is_named LabelMarker span) (failed span z.waiting z) (added span z) (IsStep span z) (λ e. is-failed span z.waiting z (named-no-run span LabelMarker refl e) refl) (λ y. is-added span z some))

-- ---- parts

abbrev all_of : List (List Run) → List Run
all_of parts = flat_map (λ rs. rs) parts

-- A link or an image takes the runs in its text away, as a part
record IsEnd (z new : SoFar) (apart : List (List Run)) : Type 0 where
  runs : new.runs ≡ z.runs
  all : IsPermutation (all_of apart ++ left new) (left z)
  order : AllByRecursion AreAscending apart
  up : AreAscending (left new)

is-ended : (span tail : List Event) (ws : List Waiting) (z : SoFar) → z.waiting ≡ ws → AreAscending (left z) → IsEnd z (ended span tail ws z) (runs_inside ws z)
is-ended span tail [] z is up =
    let same : left (ended span tail [] z) ≡ left z = ap (λ l. l ++ z.runs) (behind-more z.waiting z.behind (span ++ tail)) in
    record { runs = refl; all = subst (λ l. IsPermutation l (left z)) (sym same) (IsPermutation-refl (left z)); order = tt; up = subst AreAscending (sym same) up }
is-ended span tail (w ∷ ws) z is up =
    let front = runs_waiting ws ++ runs_of_parts w.before in
    let mine = runs_of_parts z.behind in
    let new = ended span tail (w ∷ ws) z in
    let same : left new ≡ front ++ z.runs = ap (λ l. l ++ z.runs) (behind-more ws w.before (made w.opener z.behind span tail)) in
    let whole : left z ≡ (front ++ mine) ++ z.runs = ap (λ xs. (runs_waiting xs ++ mine) ++ z.runs) is in
    let rises : AreAscending ((front ++ mine) ++ z.runs) = subst AreAscending whole up in
    let around = ascend-around front mine z.runs rises in
    let swapped : IsPermutation ((mine ++ front) ++ z.runs) ((front ++ mine) ++ z.runs) = IsPermutation-append_left z.runs (mine ++ front) (front ++ mine) (IsPermutation-append_comm mine front) in
    let here : all_of (mine ∷ []) ++ left new ≡ (mine ++ front) ++ z.runs = ap (λ l. l ++ left new) (append-nil mine) ∙ ap (λ l. mine ++ l) same ∙ sym (append_assoc mine front z.runs) in
    record {
      runs = refl;
      all = subst (λ l. IsPermutation (all_of (mine ∷ []) ++ left new) l) (sym whole) (subst (λ l. IsPermutation l ((front ++ mine) ++ z.runs)) (sym here) swapped);
      order = (around.0, tt);
      up = subst AreAscending (sym same) around.1;
    }

record Holds (z : SoFar) (parts : List (List Run)) : Type 0 where
  all : IsPermutation (all_of parts) (left z)
  order : AllByRecursion AreAscending parts

outside-holds : (z : SoFar) → length z.runs ≡ 0 → AreAscending (left z) → Holds z (runs_outside z)
outside-holds z none up =
    let parts = runs_of_parts (all_parts z.waiting z.behind) in
    let same : parts ≡ left z = all-runs z.waiting z.behind ∙ sym (append-nil (runs_so_far z)) ∙ ap (λ l. runs_so_far z ++ l) (sym (nil_from_length z.runs none)) in
    record { all = subst (IsPermutation (parts ++ [])) (append-nil parts ∙ same) (IsPermutation-refl (parts ++ [])); order = (subst AreAscending (sym same) up, tt) }

step-holds : (span : List Event) (z new : SoFar) (parts : List (List Run)) → IsStep span z new → Holds new parts → Holds z parts
step-holds span z new parts s h = record { all = subst (IsPermutation (all_of parts)) s.same h.all; order = h.order }

end-holds : (z new : SoFar) (apart parts : List (List Run)) → IsEnd z new apart → Holds new parts → Holds z (apart ++ parts)
end-holds z new apart parts e h = record {
  all =
      subst (λ l. IsPermutation l (left z)) (sym (flat_map-append (λ (rs : List Run). rs) apart parts))
      (IsPermutation-trans (all_of apart ++ all_of parts) (all_of apart ++ left new) (left z) (IsPermutation-append_right (all_of apart) (all_of parts) (left new) h.all) e.all);
  order = every-append AreAscending apart parts e.order h.order;
}

-- a span that is no run is not counted
uncounted : (span : List Event) (n : ℕ) → is_run span ≡ false → runs_at span + n ≡ n
uncounted span n h = ap (λ b. cond b 1 0 + n) h ∙ (let zero_less : 0 + n ≡ n = omega arith in zero_less)

holds : (spans : List (List Event)) (z : SoFar) → runs_among spans ≡ length z.runs → AreAscending (left z) → Holds z (runs_apart_from z spans)
holds [] z count up = outside-holds z (sym count) up
holds (span ∷ []) z count up =
    cond_both (is_named LabelEnd span) (runs_inside z.waiting z ++ runs_outside (ended span [] z.waiting z)) (runs_outside (taken span z)) (Holds z)
    (λ e.
    let end = is-ended span [] z.waiting z refl up in
    let none = uncounted span 0 (named-no-run span LabelEnd refl e) in
    let few = ap length end.runs in
    end-holds z (ended span [] z.waiting z) (runs_inside z.waiting z) (runs_outside (ended span [] z.waiting z)) end (outside-holds (ended span [] z.waiting z) (omega (arith, few, none, count)) end.up))
    (λ e.
    let step = is-taken span z (omega (arith, count)) in
    let few = step.fewer in
    step-holds span z (taken span z) (runs_outside (taken span z)) step (outside-holds (taken span z) (omega (arith, few, count)) (subst AreAscending (sym step.same) up)))
holds (span ∷ next ∷ spans) z count up =
    cond_both (is_named LabelEnd span) (runs_inside z.waiting z ++ cond (is_tail next) (runs_apart_from (ended span next z.waiting z) spans) (runs_apart_from (ended span [] z.waiting z) (next ∷ spans)))
    (runs_apart_from (taken span z) (next ∷ spans)) (Holds z)
    (λ e. let none = uncounted span (runs_among (next ∷ spans)) (named-no-run span LabelEnd refl e) in
    cond_both (is_tail next) (runs_apart_from (ended span next z.waiting z) spans) (runs_apart_from (ended span [] z.waiting z) (next ∷ spans)) (λ l. Holds z (runs_inside z.waiting z ++ l))
    (λ t.
    let end = is-ended span next z.waiting z refl up in
    let few = ap length end.runs in
    let no_tail = uncounted next (runs_among spans) (tail-no-run next t) in
    end-holds z (ended span next z.waiting z) (runs_inside z.waiting z) (runs_apart_from (ended span next z.waiting z) spans) end (holds spans (ended span next z.waiting z) (omega (arith, few, none, no_tail, count)) end.up))
    (λ t.
    let end = is-ended span [] z.waiting z refl up in
    let few = ap length end.runs in
    end-holds z (ended span [] z.waiting z) (runs_inside z.waiting z) (runs_apart_from (ended span [] z.waiting z) (next ∷ spans)) end (holds (next ∷ spans) (ended span [] z.waiting z) (omega (arith, few, none, count)) end.up)))
    (λ e.
    let step = is-taken span z (omega (arith, count)) in
    let few = step.fewer in
    step-holds span z (taken span z) (runs_apart_from (taken span z) (next ∷ spans)) step (holds (next ∷ spans) (taken span z) (omega (arith, few, count)) (subst AreAscending (sym step.same) up)))

pub runs-are-apart : RunsAreApart
runs-are-apart one bytes es =
    let rs = runs_in one bytes es in
    let h = holds (outermost_spans es) (record { waiting = []; behind = []; runs = rs }) (count-runs one bytes (length es) 0 None es (omega arith)) (runs-ascend one bytes es) in
    record { different = runs-ascend one bytes es; all = h.all; in_order = All-from_recursion AreAscending (runs_apart one bytes es) h.order }
