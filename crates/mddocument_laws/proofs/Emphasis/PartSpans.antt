-- Emphasis of parts: its spans are those of the events between runs, and one for each pair.
use Rattle.mddocument_laws.proofs.Prelude.{◌≡◌, ℕ, suc, ◌+◌, ◌-◌, ◌<◌, ◌≤◌, ◌∙◌, ◌==◌, Bool, true, false, List, [], ◌∷◌, ◌++◌, Some, refl, sym, ap, subst, arith, append_assoc, append-nil, map, reverse, nat_tests, IsPermutation-append_comm, IsPermutation-append_left, IsPermutation-append_right, IsPermutation-refl, IsPermutation-trans, AllByRecursion, IsPermutation, nat_lt, slice_get, every-append, every-map, Event, Point, Style, Delimiter, Pair, Run, all_in_pairs, close_pairs, in_lists, in_pairs, markers_of_all, paired, pairs, pairs_from, styles, IsFresh, AreAscending, events, emphasised_parts, runs_of_parts, EmphasisSpan, emphasis_spans, markers_given, spans_behind, spans_of_pairs, spans_of_runs}
use Rattle.mdinline_emphasis.specs.RunEdits.{in_place}
use Rattle.mdinline_links.proofs.WithRuns.{emphasised-runs}
use Rattle.mdinline_links.specs.Between.{with_runs}
use Rattle.mdinline_links.specs.Linked.{Part, run}
use Rattle.mddocument_laws.proofs.Emphasis.PairOrder.{AreBelow, AreFalling, CloseAt, HaveMarkers, all-within, are-nested, closes-at, closes-from, delimiter, falling-still, markers-still}
use Rattle.mddocument_laws.proofs.Emphasis.RunSpans.{IsClosed, nested-starts, places_upto, run-place, spans-append, starts-append, starts-none, starts-opened, starts_of, styles-all, styles-append, styles-none, with_pairs}

-- events of emphasis end each span that they begin, and their spans are these, in some order
pub record HaveSpans (es : List Event) (spans : List EmphasisSpan) : Type 0 where
  pub closed : IsClosed es
  pub all : IsPermutation (emphasis_spans es) spans

-- ---- parts with runs in no pair yet, and events that end each span that they begin
abbrev pub IsGood : Part → Type 0
IsGood (run r) = IsFresh r
IsGood (events es) = IsClosed es

abbrev pub AreGood : List Part → Type 0
AreGood ps = AllByRecursion IsGood ps

-- the spans of the events between runs
abbrev pub spans_between : List Part → List EmphasisSpan
spans_between [] = []
spans_between (run r ∷ ps) = spans_between ps
spans_between (events es ∷ ps) = emphasis_spans es ++ spans_between ps

module _ (all : List Run) where
  -- the spans of parts in the order of their ends
  abbrev spans_in_turn : ℕ → List Delimiter → (done : List Pair) → List Part → List EmphasisSpan
  spans_in_turn n stack done [] = []
  spans_in_turn n stack done (run r ∷ ps) = let closed = close_pairs r.left (delimiter n r) stack in spans_of_pairs all done closed.1 ++ spans_in_turn (n + 1) closed.0 (done ++ closed.1) ps
  spans_in_turn n stack done (events es ∷ ps) = emphasis_spans es ++ spans_in_turn n stack done ps

  -- the runs from a number on are left, with this stack, and these pairs are made
  pub record IsAt (n : ℕ) (stack : List Delimiter) (done : List Pair) (rs : List Run) : Type 0 where
    pub below : AreBelow n stack
    pub falls : AreFalling stack
    pub have : HaveMarkers stack
    pub whole : pairs all ≡ done ++ pairs_from n stack rs
    pub past : AllByRecursion (λ (p : Pair). (p.opener < n) × (p.closer < n)) done
    pub front : (i : ℕ) → slice_get all (n + i) ≡ slice_get rs i

  module _ (n : ℕ) (stack : List Delimiter) (done : List Pair) (r : Run) (rs : List Run) (h : IsAt n stack done (r ∷ rs)) where
    abbrev closed : List Delimiter × List Pair
    closed = close_pairs r.left (delimiter n r) stack

    abbrev later_pairs : List Pair
    later_pairs = pairs_from (n + 1) closed.0 rs

    at-once : CloseAt n closed.1 × AreBelow (n + 1) closed.0
    at-once = closes-at r.left (delimiter n r) stack h.below

    falls-on : AreFalling closed.0
    falls-on = falling-still r.left (delimiter n r) stack h.below h.falls

    pub next-at : IsAt (n + 1) closed.0 (done ++ closed.1) rs
    next-at = record {
      below = at-once.1;
      falls = falls-on;
      have = markers-still r.left (delimiter n r) stack h.have;
      whole = h.whole ∙ sym (append_assoc done closed.1 later_pairs);
      past =
          every-append (λ (p : Pair). (p.opener < n + 1) × (p.closer < n + 1)) done closed.1
          (every-map (λ (p : Pair). (p.opener < n) × (p.closer < n)) (λ (p : Pair). (p.opener < n + 1) × (p.closer < n + 1)) (λ (p : Pair) k. (let a = k.0 in omega (arith, a), let b = k.1 in omega (arith, b))) done h.past)
          (every-map (λ (p : Pair). (p.opener < n) × (p.closer ≡ n)) (λ (p : Pair). (p.opener < n + 1) × (p.closer < n + 1)) (λ (p : Pair) k. (let a = k.0 in omega (arith, a), let b = k.1 in omega (arith, b))) closed.1 at-once.0);
      front = λ i. let same : (n + 1) + i ≡ n + suc i = omega arith in ap (slice_get all) same ∙ h.front (suc i);
    }

    run-at : slice_get all n ≡ Some r
    run-at = let same : n ≡ n + 0 = omega arith in ap (slice_get all) same ∙ h.front 0

    abbrev closes_it : Pair → Bool
    closes_it p = p.closer == n

    abbrev opens_it : Pair → Bool
    opens_it p = p.opener == n

    none-closed : AllByRecursion (λ (p : Pair). closes_it p ≡ false) done
    none-closed = every-map (λ (p : Pair). (p.opener < n) × (p.closer < n)) (λ (p : Pair). closes_it p ≡ false) (λ (p : Pair) k. let b = k.1 in grind (arith, nat_tests, b)) done h.past

    none-opened : AllByRecursion (λ (p : Pair). opens_it p ≡ false) (done ++ closed.1)
    none-opened =
        every-append (λ (p : Pair). opens_it p ≡ false) done closed.1
        (every-map (λ (p : Pair). (p.opener < n) × (p.closer < n)) (λ (p : Pair). opens_it p ≡ false) (λ (p : Pair) k. let a = k.0 in grind (arith, nat_tests, a)) done h.past)
        (every-map (λ (p : Pair). (p.opener < n) × (p.closer ≡ n)) (λ (p : Pair). opens_it p ≡ false) (λ (p : Pair) k. let a = k.0 in grind (arith, nat_tests, a)) closed.1 at-once.0)

    pub closed-is : styles closes_it (pairs all) ≡ map (λ (p : Pair). p.style) closed.1
    closed-is =
        let these = every-map (λ (p : Pair). (p.opener < n) × (p.closer ≡ n)) (λ (p : Pair). closes_it p ≡ true) (λ (p : Pair) k. let b = k.1 in grind (arith, nat_tests, b)) closed.1 at-once.0 in
        let others = every-map (λ (p : Pair). n + 1 ≤ p.closer) (λ (p : Pair). closes_it p ≡ false) (λ (p : Pair) b. grind (arith, nat_tests, b)) later_pairs (closes-from (n + 1) closed.0 rs at-once.1) in
        ap (styles closes_it) h.whole ∙ styles-append closes_it done (closed.1 ++ later_pairs)
        ∙ ap (λ l. l ++ styles closes_it (closed.1 ++ later_pairs)) (styles-none closes_it done none-closed)
        ∙ styles-append closes_it closed.1 later_pairs
        ∙ ap (λ l. l ++ styles closes_it later_pairs) (styles-all closes_it closed.1 these)
        ∙ ap (λ l. map (λ (p : Pair). p.style) closed.1 ++ l) (styles-none closes_it later_pairs others)
        ∙ append-nil (map (λ (p : Pair). p.style) closed.1)

    abbrev opened : List Style
    opened = styles opens_it later_pairs

    pub opened-is : styles opens_it (pairs all) ≡ opened
    opened-is =
        ap (styles opens_it) (h.whole ∙ sym (append_assoc done closed.1 later_pairs)) ∙ styles-append opens_it (done ++ closed.1) later_pairs
        ∙ ap (λ l. l ++ opened) (styles-none opens_it (done ++ closed.1) none-opened)

    abbrev placed : Run
    placed = with_pairs all n r run-at (map (λ (p : Pair). p.style) closed.1) opened

    placed-is : IsFresh r → in_pairs (pairs all) n r ≡ placed
    placed-is fresh =
        let cs = map (λ (p : Pair). p.style) closed.1 in
        let left = r.left - (markers_of_all cs + markers_of_all opened) in
        ap (λ x. in_lists r x (styles opens_it (pairs all))) closed-is ∙ ap (in_lists r cs) opened-is
        ∙ ap (λ x. record r { closed = x ++ cs; left = left; opened = reverse opened ++ r.opened }) fresh.0
        ∙ ap (λ x. record r { closed = cs; left = left; opened = reverse opened ++ x }) fresh.1
        ∙ ap (λ x. record r { closed = cs; left = left; opened = x }) (append-nil (reverse opened))

    abbrev lower : Pair → Bool
    lower p = nat_lt p.opener n

    -- what comes in the place of the run ends the spans of the pairs that it closes, and begins those of the pairs that it opens
    place-walks : IsFresh r → (more : List Point) (rest : List Event)
        → spans_behind (starts_of all lower done (closed.1 ++ later_pairs) ++ more) (in_place (in_pairs (pairs all) n r) ++ rest)
        ≡ spans_of_pairs all done closed.1 ++ spans_behind (starts_of all (λ p. nat_lt p.opener (n + 1)) (done ++ closed.1) later_pairs ++ more) rest
    place-walks fresh more rest =
        let after = done ++ closed.1 in
        let open_later = starts_of all lower after later_pairs in
        let none : markers_given closes_it done ≡ 0 = ap markers_of_all (styles-none closes_it done none-closed) in
        let nothing : markers_given opens_it after ≡ 0 = ap markers_of_all (styles-none opens_it after none-opened) in
        let same : r.left ≡ r.left - 0 = omega arith in
        ap (λ s. spans_behind (starts_of all lower done (closed.1 ++ later_pairs) ++ more) (in_place s ++ rest)) (placed-is fresh)
        ∙ ap (λ l. spans_behind (l ++ more) (in_place placed ++ rest)) (starts-append all lower done closed.1 later_pairs)
        ∙ ap (λ l. spans_behind l (in_place placed ++ rest)) (append_assoc (starts_of all lower done closed.1) open_later more)
        ∙ run-place all n r run-at done closed.1 opened at-once.0 none (all-within n stack r rs h.below h.have) (open_later ++ more) rest
        ∙ ap (λ l. spans_of_pairs all done closed.1 ++ spans_behind l rest)
        (ap (λ k. places_upto r.start k opened ++ (open_later ++ more)) same
        ∙ ap (λ l. l ++ (open_later ++ more)) (sym (starts-opened all n r run-at later_pairs after 0 nothing))
        ∙ sym (append_assoc (starts_of all opens_it after later_pairs) open_later more)
        ∙ ap (λ l. l ++ more) (nested-starts all n after later_pairs (are-nested n (n + 1) closed.0 rs (omega arith) at-once.1 falls-on)))

  walk : (n : ℕ) (stack : List Delimiter) (done : List Pair) (ps : List Part) → AreGood ps → IsAt n stack done (runs_of_parts ps) → (more : List Point) (rest : List Event)
      → spans_behind (starts_of all (λ p. nat_lt p.opener n) done (pairs_from n stack (runs_of_parts ps)) ++ more) (with_runs ps (all_in_pairs (pairs all) n (runs_of_parts ps)) ++ rest)
      ≡ spans_in_turn n stack done ps ++ spans_behind more rest
  walk n stack done [] g h more rest = refl
  walk n stack done (events es ∷ ps) g h more rest =
      let runs = with_runs ps (all_in_pairs (pairs all) n (runs_of_parts ps)) in
      let starts = starts_of all (λ p. nat_lt p.opener n) done (pairs_from n stack (runs_of_parts ps)) ++ more in
      ap (spans_behind starts) (append_assoc es runs rest) ∙ g.0 starts (runs ++ rest) ∙ ap (λ l. emphasis_spans es ++ l) (walk n stack done ps g.1 h more rest)
      ∙ sym (append_assoc (emphasis_spans es) (spans_in_turn n stack done ps) (spans_behind more rest))
  walk n stack done (run r ∷ ps) g h more rest =
      let rs = runs_of_parts ps in
      let these = closed n stack done r rs h in
      let here = pairs_from n stack (r ∷ rs) in
      let after = done ++ these.1 in
      let place = in_place (in_pairs (pairs all) n r) in
      let runs = with_runs ps (all_in_pairs (pairs all) (n + 1) rs) in
      ap (spans_behind (starts_of all (λ p. nat_lt p.opener n) done here ++ more)) (append_assoc place runs rest)
      ∙ place-walks n stack done r rs h g.0 more (runs ++ rest)
      ∙ ap (λ l. spans_of_pairs all done these.1 ++ l) (walk (n + 1) these.0 after ps g.1 (next-at n stack done r rs h) more rest)
      ∙ sym (append_assoc (spans_of_pairs all done these.1) (spans_in_turn (n + 1) these.0 after ps) (spans_behind more rest))

  turned : (n : ℕ) (stack : List Delimiter) (done : List Pair) (ps : List Part)
      → IsPermutation (spans_in_turn n stack done ps) (spans_between ps ++ spans_of_pairs all done (pairs_from n stack (runs_of_parts ps)))
  turned n stack done [] = IsPermutation-refl []
  turned n stack done (events es ∷ ps) =
      let left = spans_of_pairs all done (pairs_from n stack (runs_of_parts ps)) in
      subst (IsPermutation (emphasis_spans es ++ spans_in_turn n stack done ps)) (sym (append_assoc (emphasis_spans es) (spans_between ps) left))
      (IsPermutation-append_right (emphasis_spans es) (spans_in_turn n stack done ps) (spans_between ps ++ left) (turned n stack done ps))
  turned n stack done (run r ∷ ps) =
      let closed = close_pairs r.left (delimiter n r) stack in
      let after = done ++ closed.1 in
      let later = pairs_from (n + 1) closed.0 (runs_of_parts ps) in
      let here = spans_of_pairs all done closed.1 in
      let more = spans_of_pairs all after later in
      let rest = spans_in_turn (n + 1) closed.0 after ps in
      let between = spans_between ps in
      let first = IsPermutation-append_right here rest (between ++ more) (turned (n + 1) closed.0 after ps) in
      let second = IsPermutation-append_left more (here ++ between) (between ++ here) (IsPermutation-append_comm here between) in
      let from : (here ++ between) ++ more ≡ here ++ (between ++ more) = append_assoc here between more in
      let to : (between ++ here) ++ more ≡ between ++ spans_of_pairs all done (closed.1 ++ later) = append_assoc between here more ∙ ap (λ l. between ++ l) (sym (spans-append all done closed.1 later)) in
      IsPermutation-trans (here ++ rest) (here ++ (between ++ more)) (between ++ spans_of_pairs all done (closed.1 ++ later)) first
      (subst (λ l. IsPermutation l (between ++ spans_of_pairs all done (closed.1 ++ later))) from (subst (IsPermutation ((here ++ between) ++ more)) to second))

pub first-at : (rs : List Run) → IsAt rs 0 [] [] rs
first-at rs = record { below = tt; falls = tt; have = tt; whole = refl; past = tt; front = λ i. let same : 0 + i ≡ i = omega arith in ap (slice_get rs) same }

none-first : (ps : List Pair) → AllByRecursion (λ (p : Pair). nat_lt p.opener 0 ≡ false) ps
none-first [] = tt
none-first (p ∷ ps) = (grind (arith, nat_tests), none-first ps)

-- The events of parts end each span that they begin. Their spans are those of the events between the runs, and one for each pair
pub parts-spans : (ps : List Part) → AreGood ps → AreAscending (runs_of_parts ps) → HaveSpans (emphasised_parts ps) (spans_between ps ++ spans_of_runs (runs_of_parts ps))
parts-spans ps good up = subst (λ l. HaveSpans l (spans_between ps ++ spans_of_runs rs)) (sym (emphasised-runs ps up)) (record {
  closed = λ starts rest. along starts rest ∙ ap (λ l. l ++ spans_behind starts rest) (sym these);
  all = subst (λ l. IsPermutation l (spans_between ps ++ spans_of_runs rs)) (sym these) (turned rs 0 [] [] ps);
})
  where
    rs : List Run
    rs = runs_of_parts ps

    whole : List Event
    whole = with_runs ps (paired rs)

    along : (starts : List Point) (rest : List Event) → spans_behind starts (whole ++ rest) ≡ spans_in_turn rs 0 [] [] ps ++ spans_behind starts rest
    along starts rest =
        ap (λ l. spans_behind (l ++ starts) (whole ++ rest)) (sym (starts-none rs (λ p. nat_lt p.opener 0) [] (pairs rs) (none-first (pairs rs)))) ∙ walk rs 0 [] [] ps good (first-at rs) starts rest

    these : emphasis_spans whole ≡ spans_in_turn rs 0 [] [] ps
    these = ap emphasis_spans (sym (append-nil whole)) ∙ along [] [] ∙ append-nil (spans_in_turn rs 0 [] [] ps)
