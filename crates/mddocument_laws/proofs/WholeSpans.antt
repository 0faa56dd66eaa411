-- Lists of whole spans, one behind another: where a span is open they are passed over, and each outermost span that is a run is counted as one.
use Rattle.mddocument_laws.proofs.Prelude.{◌≡◌, ℕ, Bool, zero, suc, ◌+◌, ◌-◌, ◌≤◌, ◌==◌, ◌∙◌, List, [], ◌∷◌, ◌++◌, true, false, cond, Option, Some, append_assoc, length-append, arith, length, refl, sym, ap, subst, ◌&&◌, slice_get, eqb-suc-zero, Event, Enter, Exit, Name, AttentionSequence, is_enter, same_name, Seat, end_after, depth_after, index_of_event, is_sequence, run_at, runs_from, is_run, span_at, spans_in, event, span}
use Rattle.std.proofs.Math.Bool.{and-false}
use Rattle.markdown_base.specs.declared.event.Kind.{Kind}

-- where a span is open, a list is passed over whole
abbrev IsPassed : List Event → Type 0
IsPassed es = (d : ℕ) (rest : List Event) → span_at (suc d) (es ++ rest) ≡ (es ++ (span_at (suc d) rest).0, (span_at (suc d) rest).1)

-- and no run is found in it
abbrev Skips : (one : Bool) (bytes : List ℕ) (i d : ℕ) (before : Option ℕ) → List Event → List Event → Type 0
Skips one bytes i d before es rest = (j : ℕ) × (b : Option ℕ) × (runs_from one bytes i (suc d) before (es ++ rest) ≡ runs_from one bytes j (suc d) b rest)

pub record IsWhole (es : List Event) : Type 0 where
  pub passed : IsPassed es
  pub skipped : (one : Bool) (bytes : List ℕ) (i d : ℕ) (before : Option ℕ) (rest : List Event) → Skips one bytes i d before es rest

pub none-whole : IsWhole []
none-whole = record { passed = λ d rest. refl; skipped = λ one bytes i d before rest. (i, before, refl) }

both-passed : (xs ys : List Event) → IsPassed xs → IsPassed ys → IsPassed (xs ++ ys)
both-passed xs ys h k d rest =
    let p = span_at (suc d) rest in
    let first = h d (ys ++ rest) in
    let second = k d rest in
    ap (span_at (suc d)) (append_assoc xs ys rest) ∙ first ∙ ap (λ (q : List Event × List Event). (xs ++ q.0, q.1)) second ∙ ap (λ (l : List Event). (l, p.1)) (sym (append_assoc xs ys p.0))

pub both-whole : (xs ys : List Event) → IsWhole xs → IsWhole ys → IsWhole (xs ++ ys)
both-whole xs ys h k = record {
  passed = both-passed xs ys h.passed k.passed;
  skipped = λ one bytes i d before rest.
      let first = h.skipped one bytes i d before (ys ++ rest) in
      let second = k.skipped one bytes first.0 d first.1 rest in
      (second.0, second.1, ap (runs_from one bytes i (suc d) before) (append_assoc xs ys rest) ∙ first.2 ∙ second.2);
}

-- behind an event, with so many spans open
deeper : (e : Event) (d : ℕ) (es : List Event) → depth_after e.kind d ≡ suc (depth_after e.kind d - 1) → span_at d (e ∷ es) ≡ (e ∷ (span_at (depth_after e.kind d) es).0, (span_at (depth_after e.kind d) es).1)
deeper e d es h =
    let more : (depth_after e.kind d == 0) ≡ false = ap (λ n. n == 0) h ∙ eqb-suc-zero (depth_after e.kind d - 1) in
    ap (λ b. cond b (e ∷ [], es) (e ∷ (span_at (depth_after e.kind d) es).0, (span_at (depth_after e.kind d) es).1)) more

step : (one : Bool) (bytes : List ℕ) (i d m : ℕ) (before : Option ℕ) (e : Event) (es : List Event) → depth_after e.kind (suc d) ≡ m → runs_from one bytes i (suc d) before (e ∷ es) ≡ runs_from one bytes (i + 1) m (Some e.point.index) es
step one bytes i d m before e [] h = refl
step one bytes i d m before e (f ∷ es) h =
    ap (λ b. cond (b && is_sequence e f) (run_at one bytes i e f before (index_of_event (slice_get es 0)) ∷ runs_from one bytes (i + 2) (suc d) (Some f.point.index) es) (runs_from one bytes (i + 1) (depth_after e.kind (suc d)) (Some e.point.index) (f ∷ es))) (eqb-suc-zero d)
    ∙ ap (λ k. runs_from one bytes (i + 1) k (Some e.point.index) (f ∷ es)) h

module _ (bytes : List ℕ) (n : Name) (s : Seat) (ss : List Seat) (inside : List Event) (h : IsWhole inside) where
  abbrev enters : Event
  enters = event bytes Enter n s.point

  abbrev exits : Event
  exits = event bytes Exit n (end_after s.end ss)

  passed-around : IsPassed (span bytes n (s ∷ ss) inside)
  passed-around d rest =
      let p = span_at (suc d) rest in
      let one : suc (suc d) - 1 ≡ suc d = omega arith in
      let out : span_at (suc (suc d)) (exits ∷ rest) ≡ (exits ∷ p.0, p.1) =
      deeper exits (suc (suc d)) rest (omega arith) ∙ ap (λ k. (exits ∷ (span_at k rest).0, (span_at k rest).1)) one in
      let through : span_at (suc (suc d)) ((inside ++ exits ∷ []) ++ rest) ≡ (inside ++ exits ∷ p.0, p.1) =
      ap (span_at (suc (suc d))) (append_assoc inside (exits ∷ []) rest) ∙ h.passed (suc d) (exits ∷ rest) ∙ ap (λ (q : List Event × List Event). (inside ++ q.0, q.1)) out in
      deeper enters (suc d) ((inside ++ exits ∷ []) ++ rest) (omega arith) ∙ ap (λ (q : List Event × List Event). (enters ∷ q.0, q.1)) through ∙ ap (λ (l : List Event). (enters ∷ l, p.1)) (sym (append_assoc inside (exits ∷ []) p.0))

  -- the runs from behind its enter on are those behind its exit
  behind-enter : (one : Bool) (given : List ℕ) (i d : ℕ) (before : Option ℕ) (rest : List Event)
      → (j : ℕ) × (b : Option ℕ) × (runs_from one given i (suc d) before ((inside ++ exits ∷ []) ++ rest) ≡ runs_from one given j d b rest)
  behind-enter one given i d before rest =
      let inner = h.skipped one given i d before (exits ∷ rest) in
      let out : suc d - 1 ≡ d = omega arith in (
        inner.0 + 1,
        Some exits.point.index,
        ap (runs_from one given i (suc d) before) (append_assoc inside (exits ∷ []) rest) ∙ inner.2 ∙ step one given inner.0 d d inner.1 exits rest out,
      )

  skipped-around : (one : Bool) (given : List ℕ) (i d : ℕ) (before : Option ℕ) (rest : List Event) → Skips one given i d before (span bytes n (s ∷ ss) inside) rest
  skipped-around one given i d before rest =
      let behind = behind-enter one given (i + 1) (suc d) (Some enters.point.index) rest in
      (behind.0, behind.1, step one given i d (suc (suc d)) before enters ((inside ++ exits ∷ []) ++ rest) refl ∙ behind.2)

  pub around-whole : IsWhole (span bytes n (s ∷ ss) inside)
  around-whole = record { passed = passed-around; skipped = skipped-around }

  pub first-span : (rest : List Event) → span_at 0 (span bytes n (s ∷ ss) inside ++ rest) ≡ (span bytes n (s ∷ ss) inside, rest)
  first-span rest = ap (λ (q : List Event × List Event). (enters ∷ q.0, q.1)) (ap (span_at 1) (append_assoc inside (exits ∷ []) rest) ∙ h.passed 0 (exits ∷ rest))

-- whole spans begin with an enter
begins-open : (x : Event) (xs : List Event) → IsWhole (x ∷ xs) → x.kind ≡ Enter
begins-open x xs h = by x.kind refl
  where
    whole : span_at 1 (x ∷ (xs ++ x ∷ [])) ≡ (x ∷ (xs ++ (span_at 1 (x ∷ [])).0), (span_at 1 (x ∷ [])).1)
    whole = h.passed 0 (x ∷ [])

    by : (k : Kind) → x.kind ≡ k → x.kind ≡ Enter
    by Enter e = e
    by Exit e =
        let left : span_at 1 (x ∷ (xs ++ x ∷ [])) ≡ (x ∷ [], xs ++ x ∷ []) = rw e refl in
        let last : (span_at 1 (x ∷ [])).0 ≡ x ∷ [] = rw e refl in
        let same : x ∷ [] ≡ x ∷ (xs ++ x ∷ []) = ap (λ (q : List Event × List Event). q.0) (sym left ∙ whole) ∙ ap (λ (l : List Event). x ∷ (xs ++ l)) last in
        absurd (omega (arith, ap length same, length-append xs (x ∷ [])))

-- ---- runs among spans
abbrev pub runs_among : List (List Event) → ℕ
runs_among [] = 0
runs_among (es ∷ spans) = cond (is_run es) 1 0 + runs_among spans

-- so many runs are found at least
abbrev pub AreFound : List Event → Type 0
AreFound es = (one : Bool) (bytes : List ℕ) (i : ℕ) (before : Option ℕ) (bound : ℕ) → runs_among (spans_in bound es) ≤ length (runs_from one bytes i 0 before es)

long-no-run : (e f : Event) (xs : List Event) (g : Event) → is_run (e ∷ f ∷ (xs ++ g ∷ [])) ≡ false
long-no-run e f [] g = refl
long-no-run e f (x ∷ xs) g = refl

open-no-run : (e x : Event) → x.kind ≡ Enter → is_sequence e x ≡ false
open-no-run e x h = rw h (and-false (is_enter e.kind && same_name e.name AttentionSequence))

module _ (bytes : List ℕ) (n : Name) (s : Seat) (ss : List Seat) where
  -- a span alone may be a run, and one around others is none
  found-alone : (one : Bool) (given : List ℕ) (i : ℕ) (before : Option ℕ) (bound : ℕ) (rest : List Event) → AreFound rest
      → cond (is_run (span bytes n (s ∷ ss) [])) 1 0 + runs_among (spans_in bound rest) ≤ length (runs_from one given i 0 before (span bytes n (s ∷ ss) [] ++ rest))
  found-alone one given i before bound rest f =
      let e = event bytes Enter n s.point in
      let g = event bytes Exit n (end_after s.end ss) in
      let behind = behind-enter bytes n s ss [] none-whole one given (i + 1) 0 (Some e.point.index) rest in
      let r = run_at one given i e g before (index_of_event (slice_get rest 0)) in
      elim (is_sequence e g) as (λ b. cond b 1 0 + runs_among (spans_in bound rest) ≤ length (cond b (r ∷ runs_from one given (i + 2) 0 (Some g.point.index) rest) (runs_from one given (i + 1) 1 (Some e.point.index) (g ∷ rest)))) [
        | true ↦ (let more = f one given (i + 2) (Some g.point.index) bound in omega (arith, more))
        | false ↦ (let more = f one given behind.0 behind.1 bound in let same = ap length behind.2 in omega (arith, more, same))
      ]

  found-around : (x : Event) (xs : List Event) → IsWhole (x ∷ xs) → (one : Bool) (given : List ℕ) (i : ℕ) (before : Option ℕ) (bound : ℕ) (rest : List Event) → AreFound rest
      → cond (is_run (span bytes n (s ∷ ss) (x ∷ xs))) 1 0 + runs_among (spans_in bound rest) ≤ length (runs_from one given i 0 before (span bytes n (s ∷ ss) (x ∷ xs) ++ rest))
  found-around x xs w one given i before bound rest f =
      let e = event bytes Enter n s.point in
      let g = event bytes Exit n (end_after s.end ss) in
      let more = (xs ++ g ∷ []) ++ rest in
      let behind = behind-enter bytes n s ss (x ∷ xs) w one given (i + 1) 0 (Some e.point.index) rest in
      let none = long-no-run e x xs g in
      let other = open-no-run e x (begins-open x xs w) in
      let here : runs_from one given i 0 before (e ∷ x ∷ more) ≡ runs_from one given (i + 1) 1 (Some e.point.index) (x ∷ more) =
      ap (λ b. cond b (run_at one given i e x before (index_of_event (slice_get more 0)) ∷ runs_from one given (i + 2) 0 (Some x.point.index) more) (runs_from one given (i + 1) 1 (Some e.point.index) (x ∷ more))) other in
      let few = f one given behind.0 behind.1 bound in
      let same = ap length (here ∙ behind.2) in
      let zeroed : cond {A = ℕ} (is_run (e ∷ x ∷ (xs ++ g ∷ []))) 1 0 ≡ 0 = ap (λ b. cond {A = ℕ} b 1 0) none in
      omega (arith, few, same, zeroed)

  found-first : (inside : List Event) → IsWhole inside → (one : Bool) (given : List ℕ) (i : ℕ) (before : Option ℕ) (bound : ℕ) (rest : List Event) → AreFound rest
      → cond (is_run (span bytes n (s ∷ ss) inside)) 1 0 + runs_among (spans_in bound rest) ≤ length (runs_from one given i 0 before (span bytes n (s ∷ ss) inside ++ rest))
  found-first [] w one given i before bound rest f = found-alone one given i before bound rest f
  found-first (x ∷ xs) w one given i before bound rest f = found-around x xs w one given i before bound rest f

  pub found-more : (inside rest : List Event) → IsWhole inside → AreFound rest → AreFound (span bytes n (s ∷ ss) inside ++ rest)
  found-more inside rest w f one given i before zero = omega arith
  found-more inside rest w f one given i before (suc bound) =
      subst (λ (p : List Event × List Event). runs_among (p.0 ∷ spans_in bound p.1) ≤ length (runs_from one given i 0 before (span bytes n (s ∷ ss) inside ++ rest))) (sym (first-span bytes n s ss inside w rest)) (found-first inside w one given i before bound rest f)
