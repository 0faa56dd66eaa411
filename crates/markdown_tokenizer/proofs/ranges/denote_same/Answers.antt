use Rattle.markdown_tokenizer.proofs.Prelude.{◌≡◌, ℕ, Bool, true, false, List, [], ◌∷◌, length, arith, refl, sym, ap, ◌∙◌, not, ◌&&◌, ◌||◌, beq, list_all, Point, Seat, stands_before, denotes_same, rest_at}
use Rattle.std.proofs.lemmas.Bool.{and_right, not-false, not-true}
use Rattle.markdown_tokenizer.proofs.Positions.Standing.{place-after, steps}
use Rattle.markdown_tokenizer.proofs.ranges.denote_same.Goals as goal

-- each of the two places is up to the other, by these virtual bytes
abbrev both : Point → Point → List Seat → Bool
both p q xs = list_all (λ (s : Seat). not (stands_before s.point p) || stands_before s.point q) xs && list_all (λ (s : Seat). not (stands_before s.point q) || stands_before s.point p) xs

-- so it must be before both of them or before neither
both-next : (p q : Point) (s : Seat) (ss : List Seat) (a b : Bool) → stands_before s.point p ≡ a → stands_before s.point q ≡ b → both p q (s ∷ ss) ≡ (beq a b && both p q ss)
both-next p q s ss false true e f = rw (e, f) (and_right (list_all (λ (s : Seat). not (stands_before s.point p) || stands_before s.point q) ss) false refl)
both-next p q s ss true true e f = rw (e, f) refl
both-next p q s ss a b e f = rw (e, f) refl

pub loop-byte-init : goal.loop-byte-init
loop-byte-init c = record { place = place-after c.get-t.result c.args.bytes.now c.get-t.ensures.least [] _ refl; same = refl }

pub returns-then-is_before_first-is_before : goal.returns-then-is_before_first-is_before
returns-then-is_before_first-is_before c =
    let (end, n) = c.in-Some.ensures c.get-t.result c.get-t.ensures.least in
    let seat : Seat = record { byte = c.in-Some.byte; point = c.in-Some.seat; end = end } in
    let p = c.args.first in let q = c.args.second in let a = c.is_before-is_before_first.result in let b = c.is_before.result in
    let next = ap (both p q) n.is ∙ both-next p q seat n.after a b (sym c.is_before-is_before_first.ensures) (sym c.is_before.ensures) in
    sym (next ∙ ap (λ (w : Bool). w && both p q n.after) (not-true (beq a b) c.if-is_before_first-is_before.true))
    ∙ c.loop-byte.invariant.same ∙ ap (λ (t : ℕ). denotes_same t c.args.bytes.now p q) c.get-t.ensures.columns

pub pass-requires-clause-next : goal.pass-requires-clause-next
pass-requires-clause-next c =
    let s = c.in-Some.ensures c.get-t.result c.get-t.ensures.least in
    (record { byte = c.in-Some.byte; point = c.in-Some.seat; end = s.0 }, s.1, refl)

pub loop-byte-smaller : goal.loop-byte-smaller
loop-byte-smaller c =
    let n = (c.in-Some.ensures c.get-t.result c.get-t.ensures.least).1 in
    omega (arith, ap length (steps c.get-t.result c.args.bytes.now c.get-t.ensures.least c.loop-byte.after_previous _ c.loop-byte.invariant.place n c.pass.new.point (c.pass.ensures _ n)).1)

pub loop-byte-preserved : goal.loop-byte-preserved
loop-byte-preserved c =
    let (end, n) = c.in-Some.ensures c.get-t.result c.get-t.ensures.least in
    let seat : Seat = record { byte = c.in-Some.byte; point = c.in-Some.seat; end = end } in
    let p = c.args.first in let q = c.args.second in let a = c.is_before-is_before_first.result in let b = c.is_before.result in
    let step = steps c.get-t.result c.args.bytes.now c.get-t.ensures.least c.loop-byte.after_previous seat c.loop-byte.invariant.place n c.pass.new.point (c.pass.ensures seat n) in
    let rest = rest_at c.get-t.result c.args.bytes.now c.pass.new.point in
    let next = ap (both p q) step.1 ∙ both-next p q seat rest a b (sym c.is_before-is_before_first.ensures) (sym c.is_before.ensures) in
    record { place = step.0; same = sym (next ∙ ap (λ (w : Bool). w && both p q rest) (not-false (beq a b) c.if-is_before_first-is_before.false)) ∙ c.loop-byte.invariant.same }

pub returns : goal.returns
returns c =
    let p = c.args.first in let q = c.args.second in
    sym (ap (both p q) (c.in_default.ensures c.get-t.result c.get-t.ensures.least)) ∙ c.loop-byte.invariant.same ∙ ap (λ (t : ℕ). denotes_same t c.args.bytes.now p q) c.get-t.ensures.columns
