-- Plain virtual bytes from a place up to another, and the data that stands for them.
use Rattle.std.proofs.Common.{◌≡◌, ◌≢◌, ◌∙◌, ◌<◌, ◌≤◌, ◌+◌, ◌-◌, ◌*◌, ◌%◌, ◌^◌, ◌==◌, ◌&&◌, ◌||◌, ◌++◌, ℕ, zero, suc, List, [], ◌∷◌, Some, true, false, cond, not, ap, arith, get_or, inl, inr, length, length-append, mul-le-mul_left, mul-le-mul_right, refl, subst, sym}
use Rattle.std.proofs.lemmas.Bool.{cases_lt, lt-ltb}
use Rattle.std.proofs.Math.Bool.{and-false}
use Rattle.markdown_base.proofs.Common.{and-false-never, and-right, filter-none}
use Rattle.markdown_base.proofs.Facts.Bools.{and-left}
use Rattle.markdown_base.proofs.Balanced.{same_name-true}
use Rattle.std.specs.Prelude.{None, nat_lt}
use Rattle.markdown_base.specs.declared.configuration.Constructs.{Constructs}
use Rattle.markdown_base.specs.declared.event.Event.{Event}
use Rattle.markdown_base.specs.declared.event.Kind.{Kind}
use Rattle.markdown_base.specs.declared.event.Kind.TheVariants.{Enter, Exit}
use Rattle.markdown_base.specs.declared.event.Name.{Name}
use Rattle.markdown_base.specs.declared.event.Name.TheVariants.{Data}
use Rattle.markdown_base.specs.declared.event.Point.{Point}
use Rattle.markdown_base.specs.Events.{is_enter, same_name}
use Rattle.markdown_base.specs.Places.{IsPointOf, follows_cr, shown, stands_before}
use Rattle.markdown_base.specs.Virtual.{IsWithinLimit, Seat, end_after, point}
use Rattle.markdown_tokenizer.proofs.Positions.Chains.{shown-other}
use Rattle.markdown_tokenizer.proofs.Positions.Order.{not-number}
use Rattle.markdown_tokenizer.proofs.Positions.Seats.{rest-later, seat-other}
use Rattle.markdown_tokenizer.proofs.Positions.Standing.{end-of-other, same-numbers}
use Rattle.markdown_tokenizer.specs.Cursor.{Bounds, IsNextSeat, IsSeatAt, goes_on, rest_at}
use Rattle.mdinline_link_strings.proofs.Plain.{plain-string}
use Rattle.mdinline_link_strings.proofs.Ranges.{all-passed, begins-passing, passes-more}
use Rattle.mdinline_link_strings.specs.Laws.{ArePlain}
use Rattle.mdinline_link_strings.specs.Reached.{ArePlainBetween, IsDataAhead, IsDataByte, IsPassedUpto, IsPlainUpto, left_upto}
use Rattle.mdinline_constructs.specs.StringItems.{is_string_special, string_seat_events}
use Rattle.mdinline_link_strings.specs.Strings.{is_data, line_as_string, seats_between}

plain-push : (done : List Seat) (s : Seat) → ArePlain done → is_string_special s.byte ≡ false → ArePlain (done ++ s ∷ [])
plain-push [] s h k = (k, tt)
plain-push (x ∷ xs) s h k = (h.0, plain-push xs s h.1 k)

not-none : (done : List Seat) (s : Seat) → done ++ s ∷ [] ≢ []
not-none done s h = let long = ap length h in let more = length-append done (s ∷ []) in absurd (omega (arith, long, more))

module _ (t : ℕ) (bytes : List ℕ) (d : 0 < t) (from to : Point) where
  abbrev seats : List Seat
  seats = seats_between t bytes from to

  -- none was passed yet
  pub begins-plain : IsPointOf t bytes from → IsPlainUpto t bytes seats from to from []
  begins-plain is = record { passed = begins-passing t bytes d from to is; plain = tt; first = λ h. refl }

  -- one more is plain
  pub plain-more : (place r : Point) (s : Seat) (done : List Seat) → IsPlainUpto t bytes seats from to place done → IsSeatAt t bytes place s
      → r ≡ s.end → stands_before s.point to ≡ true → is_string_special s.byte ≡ false → IsPlainUpto t bytes seats from to r (done ++ s ∷ [])
  plain-more place r s done h n is before k = record {
    passed = passes-more t bytes d seats from to place r s done h.passed n is before;
    plain = plain-push done s h.plain k;
    first = λ e. absurd (not-none done s e);
  }

  -- those that were passed are among all
  pub passed-few : (place : Point) (done : List Seat) → IsPassedUpto t bytes seats from to place done → length done ≤ length seats
  passed-few place done h =
      let all = ap length h.splits in
      let both = length-append done (left_upto t bytes place to) in
      omega (arith, all, both)

  -- so is one more, if it is before the end
  pub passed-fewer : (place r : Point) (s : Seat) (done : List Seat) → IsPassedUpto t bytes seats from to place done → IsSeatAt t bytes place s
      → r ≡ s.end → stands_before s.point to ≡ true → length done + 1 ≤ length seats
  passed-fewer place r s done h n is before =
      let few = passed-few r (done ++ s ∷ []) (passes-more t bytes d seats from to place r s done h n is before) in
      let more = length-append done (s ∷ []) in
      omega (arith, few, more)

  -- all were passed, and the places are where they begin and end
  pub plain-all : (place : Point) (done : List Seat) → IsPlainUpto t bytes seats from to place done → left_upto t bytes place to ≡ []
      → place ≡ to → from ≢ to → (shown bytes from ≡ from) × (shown bytes to ≡ to) → ArePlainBetween t bytes from to
  plain-all place [] h none is other at = absurd (other (sym (h.first refl) ∙ is))
  plain-all place (s ∷ ss) h none is other at = record {
    seat = s;
    seats = ss;
    all = all-passed t bytes d seats from to place (s ∷ ss) h.passed none;
    plain = h.plain;
    begins = sym at.0 ∙ sym h.passed.next.0;
    ends = sym (ap (shown bytes) (h.passed.ends ∙ ap (shown bytes) is ∙ at.1) ∙ at.1);
  }

-- the numbers of a place of a document fit
place-fits : (t : ℕ) (bytes : List ℕ) → 0 < t → (p : Point) → Bounds t bytes p → IsWithinLimit t bytes → (p.column < 2 ^ 64) × (p.index < 2 ^ 64)
place-fits t bytes d p b limit =
    let size = length bytes in
    let inside = b.inside in
    let columns = b.columns in
    let spaces = b.spaces in
    let some : 1 ≤ t = omega (arith, d) in
    let each : 1 * size ≤ t * size = mul-le-mul_right size some in (
      elim (cases_lt 0 p.vs) [
        | inl within_tab ↦ (let within = b.tab within_tab in let all : t * (p.index + 1) ≤ t * size = mul-le-mul_left t (omega (arith, within)) in omega (arith, all, columns, spaces, limit))
        | inr none ↦ (let all : t * p.index ≤ t * size = mul-le-mul_left t inside in omega (arith, all, none, columns, limit))
      ],
      omega (arith, each, inside, limit),
    )

module _ (t : ℕ) (bytes : List ℕ) (d : 0 < t) (from to : Point) where
  -- the virtual byte at a place that is data
  module _ (p : Point) (done : List Seat) (h : IsPlainUpto t bytes (seats_between t bytes from to) from to p done) (flat : p.vs ≡ 0) (inside : p.index < length bytes) (is : IsDataByte (get_or bytes p.index 0)) where
    abbrev byte : ℕ
    byte = get_or bytes p.index 0

    abbrev after : Point
    after = point p.line (p.column + 1) (p.index + 1) 0

    next : IsNextSeat t bytes p (Some (byte, p))
    next = seat-other t bytes p d flat inside (let above = is.0 in λ e. omega (arith, above, e))

    abbrev one : Seat
    one = record { byte = byte; point = p; end = next.0 }

    stops : goes_on t byte p ≡ false
    stops =
        let tab = not-number byte 9 (let above = is.0 in λ e. omega (arith, above, e)) in
        ap (λ x. (x || nat_lt 0 p.vs) && not (p.column % t == 0)) tab ∙ ap (λ v. nat_lt 0 v && not (p.column % t == 0)) flat

    ends : after ≡ one.end
    ends = end-of-other t bytes d p one h.passed.place_is next.1 (let above = is.0 in λ e. omega (arith, above, e)) false stops

    no-item : is_string_special byte ≡ false
    no-item =
        ap (λ x. x || ((byte == 92) || ((byte == 38) || false))) (not-number byte 10 (let above = is.0 in λ e. omega (arith, above, e)))
        ∙ ap (λ x. x || ((byte == 38) || false)) (not-number byte 92 is.1) ∙ ap (λ x. x || false) (not-number byte 38 is.2)

    data-passed : p.index < to.index → IsPlainUpto t bytes (seats_between t bytes from to) from to after (done ++ one ∷ [])
    data-passed less = plain-more t bytes d from to p after one done h next.1 ends (ap (λ x. x || ((p.index == to.index) && nat_lt p.vs to.vs)) (lt-ltb p.index to.index less)) no-item

  -- so many bytes that are data are passed
  data-run : (n : ℕ) (p : Point) (done : List Seat) → IsPlainUpto t bytes (seats_between t bytes from to) from to p done → (0 < n → p.vs ≡ 0) → (0 < n → p.index + n ≤ to.index)
      → (0 < n → p.index + n ≤ length bytes) → ((k : ℕ) → k < n → IsDataByte (get_or bytes (p.index + k) 0))
      → (more : List Seat) × (length more ≡ length done + n) × IsPlainUpto t bytes (seats_between t bytes from to) from to (point p.line (p.column + n) (p.index + n) p.vs) more
  data-run zero p done h flat before inside each =
      let same : p ≡ point p.line (p.column + 0) (p.index + 0) p.vs =
      same-numbers p.line p.column p.index p.vs p.line (p.column + 0) (p.index + 0) p.vs refl (omega arith) (omega arith) refl in
      (done, omega arith, subst (λ (x : Point). IsPlainUpto t bytes (seats_between t bytes from to) from to x done) same h)
  data-run (suc n) p done h flat before inside each =
      let some : 0 < suc n = omega arith in
      let upto = before some in
      let within = inside some in
      let sum : p.index + 0 ≡ p.index = omega arith in
      let first : IsDataByte (get_or bytes p.index 0) = subst (λ (m : ℕ). IsDataByte (get_or bytes m 0)) sum (each 0 some) in
      let here : p.index < length bytes = omega (arith, within) in
      let less : p.index < to.index = omega (arith, upto) in
      let q : Point = point p.line (p.column + 1) (p.index + 1) 0 in
      let s : Seat = one p done h (flat some) here first in
      let rest = data-run n q (done ++ s ∷ []) (data-passed p done h (flat some) here first less) (λ _. refl) (λ _. omega (arith, upto)) (λ _. omega (arith, within))
      (λ k below. let more : p.index + suc k ≡ p.index + 1 + k = omega arith in subst (λ (m : ℕ). IsDataByte (get_or bytes m 0)) more (each (suc k) (omega (arith, below)))) in
      let long = rest.1 in
      let more = length-append done (s ∷ []) in
      let place : point q.line (q.column + n) (q.index + n) q.vs ≡ point p.line (p.column + suc n) (p.index + suc n) p.vs =
      same-numbers q.line (q.column + n) (q.index + n) q.vs p.line (p.column + suc n) (p.index + suc n) p.vs refl (omega arith) (omega arith) (sym (flat some)) in
      (rest.0, omega (arith, long, more), subst (λ (x : Point). IsPlainUpto t bytes (seats_between t bytes from to) from to x rest.0) place rest.2)

  -- the place behind them
  abbrev pub behind_data : ℕ → Point
  behind_data n = point from.line (from.column + n) (from.index + n) from.vs

  pub data-upto : (n : ℕ) → IsPointOf t bytes from → IsDataAhead bytes from to.index n
      → (more : List Seat) × (length more ≡ n) × IsPlainUpto t bytes (seats_between t bytes from to) from to (behind_data n) more
  data-upto n is h =
      let run = data-run n from [] (begins-plain t bytes d from to is) h.flat h.before h.inside h.each in
      let long = run.1 in
      (run.0, omega (arith, long), run.2)

  -- a place behind a byte that is no CR is shown at itself
  shown-past : (p : Point) (m : ℕ) → p.index ≡ suc m → get_or bytes m 0 ≢ 13 → shown bytes p ≡ p
  shown-past p m is ne =
      let none = ap (follows_cr bytes) is ∙ not-number (get_or bytes m 0) 13 ne in
      let back : Point = point p.line p.column (p.index - 1) p.vs in
      ap (λ b. cond ((get_or bytes p.index 0 == 10) && b) back p) none ∙ ap (λ b. cond b back p) (and-false (get_or bytes p.index 0 == 10))

  -- if they end at the end, they are all
  pub data-all : (n : ℕ) → IsPointOf t bytes from → IsDataAhead bytes from to.index n → 0 < n → behind_data n ≡ to → ArePlainBetween t bytes from to
  data-all zero is h some same = absurd (omega (arith, some))
  data-all (suc n) is h some same =
      let upto = data-upto (suc n) is h in
      let none = filter-none (λ (s : Seat). stands_before s.point to) (rest_at t bytes to) (rest-later t bytes to) in
      let index = ap (λ (p : Point). p.index) same in
      let sum : from.index + 0 ≡ from.index = omega arith in
      let begin : IsDataByte (get_or bytes from.index 0) = subst (λ (m : ℕ). IsDataByte (get_or bytes m 0)) sum (h.each 0 some) in
      let first = begin.0 in
      let last = (h.each n (omega arith)).0 in
      plain-all t bytes d from to (behind_data (suc n)) upto.0 upto.2 (ap (λ (p : Point). left_upto t bytes p to) same ∙ none) same
      (λ e. let equal = ap (λ (p : Point). p.index) e in omega (arith, equal, index))
      (shown-other bytes from (λ e. omega (arith, first, e)), shown-past to (from.index + n) (omega (arith, index)) (λ e. omega (arith, last, e)))

  -- the numbers of the place fit
  pub data-fits : (n : ℕ) → IsPointOf t bytes from → IsDataAhead bytes from to.index n → IsWithinLimit t bytes → (from.column + n < 2 ^ 64) × (from.index + n < 2 ^ 64)
  data-fits n is h limit =
      let upto = data-upto n is h in
      let bounds = upto.2.passed.place_is.bounds in
      place-fits t bytes d (behind_data n) bounds limit

-- an event is told by its fields
event-is : (e : Event) (k : Kind) (n : Name) (p : Point) → e.kind ≡ k → e.name ≡ n → e.point ≡ p → e.link ≡ None → e ≡ record { kind = k; name = n; point = p; link = None }
event-is e k n p a b c l = rw (sym a, sym b, sym c, sym l) refl

data-kinds : (k l : Kind) (n m : Name) → ((is_enter k && same_name n Data) && (not (is_enter l) && same_name m Data)) ≡ true → (k ≡ Enter) × (l ≡ Exit) × (n ≡ Data) × (m ≡ Data)
data-kinds Enter Exit n m h = (refl, refl, same_name-true n Data (and-left (same_name n Data) (same_name m Data) h), same_name-true m Data (and-right (same_name n Data) (same_name m Data) h))
data-kinds Enter Enter n m h = absurd (and-false-never (same_name n Data) h)
data-kinds Exit l n m h = cc

-- plain data stays as it is
pub plain-data : (on : Constructs) (t : ℕ) (bytes : List ℕ) (e f : Event) → is_data e f ≡ true → e.link ≡ None → f.link ≡ None → ArePlainBetween t bytes e.point f.point
    → line_as_string on t bytes e.point f.point ≡ e ∷ f ∷ []
plain-data on t bytes e f is l m h =
    let kinds = data-kinds e.kind f.kind e.name f.name is in
    let one = event-is e Enter Data (shown bytes h.seat.point) kinds.0 kinds.2 h.begins l in
    let two = event-is f Exit Data (shown bytes (end_after h.seat.end h.seats)) kinds.1 kinds.3 h.ends m in
    ap (string_seat_events on bytes) h.all ∙ plain-string on bytes h.seat h.seats h.plain
    ∙ sym (ap (λ x. x ∷ f ∷ []) one ∙ ap (λ x. record { kind = Enter; name = Data; point = shown bytes h.seat.point; link = None } ∷ x ∷ []) two)
