use Rattle.markdown_tokenizer.proofs.Prelude.{◌≡◌, ◌==◌, ◌&&◌, ℕ, Bool, true, false, List, [], ◌∷◌, ◌++◌, length, Option, Some, None, arith, refl, sym, ap, ◌∙◌, find, flat_map, Point, Seat, shown, end_after, point_at, rest_at}
use Rattle.markdown_tokenizer.proofs.Positions.Standing.{place-after, steps}
use Rattle.markdown_tokenizer.proofs.places.point_at.Goals as goal

abbrev is_place : ℕ × ℕ → Point → Bool
is_place place p = (p.index == place.0) && (p.vs == place.1)

-- what is found for a place if these virtual bytes are left, from a point on
abbrev found_from : List ℕ → ℕ × ℕ → Point → List Seat → Option Point
found_from bytes place p xs = find (is_place place) (flat_map (λ (s : Seat). shown bytes s.point ∷ s.point ∷ []) xs ++ end_after p xs ∷ [])

pub loop-byte-init : goal.loop-byte-init
loop-byte-init c = record { place = place-after c.get-t.result c.args.bytes.now c.get-t.ensures.least [] _ refl; looked = refl }

pub returns-then-is_at : goal.returns-then-is_at
returns-then-is_at c =
    let left = found_from c.args.bytes.now c.args.place c.loop-byte.after_previous in
    let rest = (c.in-Some.ensures c.get-t.result c.get-t.ensures.least).1.is in
    let e : is_place c.args.place (shown c.args.bytes.now c.in-Some.seat) ≡ true = ap (is_place c.args.place) (sym c.shown-first.ensures) ∙ sym c.is_at.ensures ∙ c.if-is_at.true in
    let found : left (rest_at c.get-t.result c.args.bytes.now c.loop-byte.after_previous) ≡ Some (shown c.args.bytes.now c.in-Some.seat) = ap left rest ∙ (rw e refl) in
    ap Some c.shown-first.ensures ∙ sym found ∙ c.loop-byte.invariant.looked ∙ ap (λ (t : ℕ). point_at t c.args.bytes.now c.args.place) c.get-t.ensures.columns

pub returns-then-is_at-2 : goal.returns-then-is_at-2
returns-then-is_at-2 c =
    let left = found_from c.args.bytes.now c.args.place c.loop-byte.after_previous in
    let rest = (c.in-Some.ensures c.get-t.result c.get-t.ensures.least).1.is in
    let e : is_place c.args.place (shown c.args.bytes.now c.in-Some.seat) ≡ false = ap (is_place c.args.place) (sym c.shown-first.ensures) ∙ sym c.is_at.ensures ∙ c.if-is_at.false in
    let f : is_place c.args.place c.in-Some.seat ≡ true = sym c.is_at-in-Some.ensures ∙ c.if-is_at-2.true in
    let found : left (rest_at c.get-t.result c.args.bytes.now c.loop-byte.after_previous) ≡ Some c.in-Some.seat = ap left rest ∙ (rw (e, f) refl) in
    sym found ∙ c.loop-byte.invariant.looked ∙ ap (λ (t : ℕ). point_at t c.args.bytes.now c.args.place) c.get-t.ensures.columns

pub pass-requires-clause-next : goal.pass-requires-clause-next
pass-requires-clause-next c =
    let s = c.in-Some.ensures c.get-t.result c.get-t.ensures.least in
    (record { byte = c.in-Some.byte; point = c.in-Some.seat; end = s.0 }, s.1, refl)

pub loop-byte-smaller : goal.loop-byte-smaller
loop-byte-smaller c =
    let n = (c.in-Some.ensures c.get-t.result c.get-t.ensures.least).1 in
    omega (arith, ap length (steps c.get-t.result c.args.bytes.now c.get-t.ensures.least c.loop-byte.after_previous _ c.loop-byte.invariant.place n c.pass.new.point (c.pass.ensures _ n)).1)

pub loop-byte-preserved : goal.loop-byte-preserved
loop-byte-preserved c =
    let bytes = c.args.bytes.now in
    let s = c.in-Some.ensures c.get-t.result c.get-t.ensures.least in
    let on = c.pass.ensures _ s.1 in
    let next = steps c.get-t.result bytes c.get-t.ensures.least c.loop-byte.after_previous _ c.loop-byte.invariant.place s.1 c.pass.new.point on in
    let left = found_from bytes c.args.place in
    let after = rest_at c.get-t.result bytes c.pass.new.point in
    let e : is_place c.args.place (shown bytes c.in-Some.seat) ≡ false = ap (is_place c.args.place) (sym c.shown-first.ensures) ∙ sym c.is_at.ensures ∙ c.if-is_at.false in
    let f : is_place c.args.place c.in-Some.seat ≡ false = sym c.is_at-in-Some.ensures ∙ c.if-is_at-2.false in
    let same : left c.loop-byte.after_previous (rest_at c.get-t.result bytes c.loop-byte.after_previous) ≡ left s.0 after = ap (left c.loop-byte.after_previous) next.1 ∙ (rw (e, f) refl) in
    record { place = next.0; looked = ap (λ (q : Point). left q after) on ∙ sym same ∙ c.loop-byte.invariant.looked }

pub returns-then-is_at-3 : goal.returns-then-is_at-3
returns-then-is_at-3 c =
    let left = found_from c.args.bytes.now c.args.place c.loop-byte.after_previous in
    let e : is_place c.args.place c.loop-byte.after_previous ≡ true = sym c.is_at-2.ensures ∙ c.if-is_at-3.true in
    let found : left [] ≡ Some c.loop-byte.after_previous = rw e refl in
    sym (ap left (c.in_default.ensures c.get-t.result c.get-t.ensures.least) ∙ found) ∙ c.loop-byte.invariant.looked ∙ ap (λ (t : ℕ). point_at t c.args.bytes.now c.args.place) c.get-t.ensures.columns

pub returns-else-is_at-3 : goal.returns-else-is_at-3
returns-else-is_at-3 c =
    let left = found_from c.args.bytes.now c.args.place c.loop-byte.after_previous in
    let e : is_place c.args.place c.loop-byte.after_previous ≡ false = sym c.is_at-2.ensures ∙ c.if-is_at-3.false in
    let found : left [] ≡ None = rw e refl in
    sym (ap left (c.in_default.ensures c.get-t.result c.get-t.ensures.least) ∙ found) ∙ c.loop-byte.invariant.looked ∙ ap (λ (t : ℕ). point_at t c.args.bytes.now c.args.place) c.get-t.ensures.columns
