-- There are no more chains than virtual bytes: each chain has a chunk, each chunk is an innermost span, and none of these is empty.
use Rattle.mddocument_costs.proofs.Prelude.{List, Option, Some, [], ap, arith, cond, length, length-append, refl, slice_get, suc, sym, ℕ, ◌+◌, ◌≡◌, ◌≤◌, ◌∙◌, ◌∷◌, length-map, same_Some, AllByRecursion, flat_map, range_with_len, filter, Content, Event, Kind, Enter, Exit, Point, is_enter, Seat, virtual, by_test, chunk, filter-no, filter-yes, follow_one_another, chain_of, fits, fitting_chunks, fitting_starts, IsWholeFrom, IsReady, AccountFor, ended_next, innermost_spans, span_over, stretch_bytes, ChainsAreFew, chain_count}

-- each chain has a chunk
chains-first : (events : List Event) (cs : List ℕ) → AllByRecursion (IsWholeFrom events) cs → length cs ≤ length (flat_map (chain_of events) cs)
chains-first events [] whole = omega arith
chains-first events (c ∷ cs) whole =
    let long : length (chain_of events c) ≡ suc (length whole.0.0) = ap length whole.0.1 in
    let both = length-append (chain_of events c) (flat_map (chain_of events) cs) in
    omega (arith, long, both, chains-first events cs whole.1)

-- each stretch has a byte
stretches-few : (stretches : List (Seat × List Seat)) → length stretches ≤ length (flat_map stretch_bytes stretches)
stretches-few [] = omega arith
stretches-few (x ∷ xs) =
    let own : length (stretch_bytes x) ≡ suc (length x.1) = refl in
    let both = length-append (stretch_bytes x) (flat_map stretch_bytes xs) in
    omega (arith, own, both, stretches-few xs)

-- an exit that comes next ends a span
ended-first : (e : Event) (es : List Event) (f : Event) → slice_get es 0 ≡ Some f → f.kind ≡ Exit → length (ended_next e es) ≡ 1
ended-first e [] f at exits = absurd (cc)
ended-first e (x ∷ xs) f at exits =
    let exit : x.kind ≡ Exit = ap (λ (y : Event). y.kind) (same_Some x f at) ∙ exits in
    ap (λ (k : Kind). length {A = Point × Point} (cond (is_enter k) [] ((e.point, x.point) ∷ []))) exit

module _ (tab : ℕ) (bytes : List ℕ) (wanted : Option Content) (events : List Event) (ready : IsReady tab bytes wanted events) where
  -- the events from an index on are these
  abbrev AreFrom : ℕ → List Event → Type 0
  AreFrom i es = (k : ℕ) → slice_get events (i + k) ≡ slice_get es k

  spans-from : (es : List Event) (i : ℕ) → AreFrom i es → length (filter (fits wanted events) (range_with_len i (length es))) ≤ length (innermost_spans es)
  spans-from [] i are = omega arith
  spans-from (e ∷ es) i are =
      let next : AreFrom (i + 1) es = λ k. (let same : i + 1 + k ≡ i + suc k = omega arith in ap (slice_get events) same ∙ are (suc k)) in
      let rest = spans-from es (i + 1) next in
      let more : length (innermost_spans (e ∷ es)) ≡ length (cond (is_enter e.kind) (ended_next e es) []) + length (innermost_spans es) = length-append (cond (is_enter e.kind) (ended_next e es) []) (innermost_spans es) in
      by_test (fits wanted events i)
      (λ h.
      let c = chunk tab bytes wanted events ready i h in
      let here : i + 0 ≡ i = omega arith in
      let is : e ≡ c.enter = same_Some e c.enter (sym (are 0) ∙ ap (slice_get events) here ∙ c.enter_at) in
      let enters : e.kind ≡ Enter = ap (λ (x : Event). x.kind) is ∙ c.linked.enter in
      let behind : slice_get es 0 ≡ Some c.exit = sym (are 1) ∙ c.exit_at in
      let one : length (cond (is_enter e.kind) (ended_next e es) []) ≡ 1 = ap (λ (k : Kind). length (cond (is_enter k) (ended_next e es) [])) enters ∙ ended-first e es c.exit behind c.ended.exits in
      let yes : length (filter (fits wanted events) (range_with_len i (length (e ∷ es)))) ≡ suc (length (filter (fits wanted events) (range_with_len (i + 1) (length es)))) =
      ap length (filter-yes (fits wanted events) i (range_with_len (i + 1) (length es)) h) in
      omega (arith, rest, more, one, yes))
      (λ never.
      let no : length (filter (fits wanted events) (range_with_len i (length (e ∷ es)))) ≡ length (filter (fits wanted events) (range_with_len (i + 1) (length es))) =
      ap length (filter-no (fits wanted events) i (range_with_len (i + 1) (length es)) never) in
      omega (arith, rest, more, no))

  -- So there are no more chains than bytes for which the innermost spans account
  pub count-within : (among : List ℕ) (seats : List Seat) → AccountFor events among seats → chain_count wanted events ≤ length seats
  count-within among seats account =
      let follow = follow_one_another tab bytes wanted events ready in
      let first = chains-first events (fitting_starts wanted events) follow.whole in
      let chunks : length (flat_map (chain_of events) (fitting_starts wanted events)) ≡ length (fitting_chunks wanted events) = ap length follow.in_order in
      let spans : length (fitting_chunks wanted events) ≤ length (innermost_spans events) = spans-from events 0 (λ k. (let same : 0 + k ≡ k = omega arith in ap (slice_get events) same)) in
      let all : length (innermost_spans events) ≡ length account.stretches = ap length account.are_innermost ∙ length-map account.stretches (span_over among) in
      let held : length (flat_map stretch_bytes account.stretches) ≡ length seats = ap length account.are_all in
      omega (arith, first, chunks, spans, all, held, stretches-few account.stretches)

pub chains-few : ChainsAreFew
chains-few g wanted events ready account = count-within g.tab g.bytes wanted events ready g.bytes (virtual g.tab g.bytes) account
