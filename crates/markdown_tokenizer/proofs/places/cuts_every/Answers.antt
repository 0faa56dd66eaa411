use Rattle.markdown_tokenizer.proofs.Prelude.{IsWithinLimit, ◌≡◌, ◌+◌, ◌*◌, ◌%◌, ◌<◌, ◌≤◌, ◌==◌, ℕ, suc, true, false, List, [], ◌∷◌, ◌++◌, length, arith, refl, sym, ap, ◌∙◌, subst, Global, inl, inr, filter, map, enumerate_from, nat_lt, ◌&&◌, ◌||◌, cases_lt, nat_tests, mul-le-mul_left, lt-ltb, le-ltb, append-nil, append_assoc, is_cut, cuts_every, place_of, Point, Seat, point, virtual, end_after, document_end, rest_at, AreCuts}
use Rattle.std.proofs.Common.{Vec, eq-eqb, ne_eqb}
use Rattle.std.proofs.lemmas.Bool.{and_from, and_left, and_right}
use Rattle.markdown_tokenizer.proofs.Positions.Order.{upto-before}
use Rattle.markdown_tokenizer.proofs.Positions.Chains.{IsChain, whole-chain}
use Rattle.markdown_tokenizer.proofs.Positions.Standing.{place-after, end-place, steps}
use Rattle.markdown_tokenizer.proofs.Positions.Cuts.{cuts_every-are-cuts}
use Rattle.markdown_tokenizer.proofs.places.cuts_every.Goals.{then-number-gt0+then-number-n-eq0+in_ok-push, else-number-gt0, else-number-gt0-via-then-number-gt0+else-number-n-eq0, else-number-gt0-via-else-number-gt0}
use Rattle.markdown_tokenizer.proofs.places.cuts_every.Goals as goal

-- the cuts among these virtual bytes; the first of them has this number
abbrev cuts_of : ℕ → ℕ → List Seat → List (ℕ × ℕ)
cuts_of n first xs = map (λ (x : ℕ × Seat). place_of x.1) (filter (λ (x : ℕ × Seat). is_cut n x.0) (enumerate_from first xs))

further : (t i j v w : ℕ) → v < t → (nat_lt i j || ((i == j) && nat_lt v w)) ≡ true → t * i + v + 1 ≤ t * j + w
further t i j v w h e = elim (cases_lt i j) [
  | inl lt ↦ (let k : suc i ≤ j = lt in omega (arith, mul-le-mul_left t k))
  | inr ge ↦ (let same : i ≡ j = grind (arith, nat_tests) in let less : v < w = grind (arith, nat_tests) in let f : t * i ≡ t * j = ap (λ (m : ℕ). t * m) same in omega arith)
]

module _ (t : ℕ) (bytes : List ℕ) (d : 0 < t) where
  -- a chain is no longer than the virtual columns that it passes
  chain-count : (p : Point) (xs : List Seat) → IsChain t bytes p xs → t * p.index + p.vs + length xs ≤ t * (end_after p xs).index + (end_after p xs).vs
  chain-count p [] c = omega arith
  chain-count p (s ∷ ss) c =
      let on = upto-before p.index p.vs s.point.index s.point.vs s.end.index s.end.vs c.1.later c.1.ends in
      let one = further t p.index s.end.index p.vs s.end.vs c.0.bounds.spaces on in
      let more = chain-count s.end ss c.2 in
      omega arith

  virtual-count : length (virtual t bytes) ≤ t * length bytes
  virtual-count =
      let end = document_end t bytes in
      let count = chain-count (point 1 1 0 0) (virtual t bytes) (whole-chain t bytes d) in
      let b = (end-place t bytes d).bounds in
      elim (cases_lt 0 end.vs) [
        | inl h ↦ (let i : suc end.index ≤ length bytes = b.tab h in omega (arith, b.spaces, mul-le-mul_left t i))
        | inr h ↦ omega (arith, mul-le-mul_left t b.inside)
      ]

abbrev items_of : Vec (ℕ × ℕ) Global → List (ℕ × ℕ)
items_of v = v.items

pub loop-byte-init : goal.loop-byte-init
loop-byte-init c = record { place = place-after c.get-t.result c.args.bytes.now c.get-t.ensures.least [] _ refl; counted = omega arith; made = rw c.new-cuts.ensures.items refl }

pub overflow_add-number : goal.overflow_add-number
overflow_add-number c =
    let count = virtual-count c.get-t.result c.args.bytes.now c.get-t.ensures.least in
    let fits : IsWithinLimit c.get-t.result c.args.bytes.now = subst (λ (t : ℕ). IsWithinLimit t c.args.bytes.now) (sym c.get-t.ensures.columns) c.requires.fits in
    omega (arith, c.loop-byte.invariant.counted)

pub pass-requires-clause-next : goal.pass-requires-clause-next
pass-requires-clause-next c =
    let s = c.in-Some.ensures c.get-t.result c.get-t.ensures.least in
    (record { byte = c.in-Some.byte; point = c.in-Some.seat; end = s.0 }, s.1, refl)

pub loop-byte-smaller : goal.loop-byte-smaller
loop-byte-smaller c =
    let n = (c.in-Some.ensures c.get-t.result c.get-t.ensures.least).1 in
    omega (arith, ap length (steps c.get-t.result c.args.bytes.now c.get-t.ensures.least c.loop-byte.after_previous _ c.loop-byte.invariant.place n c.pass.new.point (c.pass.ensures _ n)).1)

pub loop-byte-preserved : goal.loop-byte-preserved
loop-byte-preserved c =
    let bytes = c.args.bytes.now in let n = c.args.n in let number = c.loop-byte.number in let cuts = c.loop-byte.cuts.items in
    let s = c.in-Some.ensures c.get-t.result c.get-t.ensures.least in
    let next = steps c.get-t.result bytes c.get-t.ensures.least c.loop-byte.after_previous _ c.loop-byte.invariant.place s.1 c.pass.new.point (c.pass.ensures _ s.1) in
    let rest = rest_at c.get-t.result bytes c.pass.new.point in
    let seat : Seat = record { byte = c.in-Some.byte; point = c.in-Some.seat; end = s.0 } in
    let with_rest = λ (xs : List (ℕ × ℕ)). xs ++ cuts_of n (number + 1) rest in
    let step : with_rest c.if-number-gt0.cuts.items ≡ cuts ++ cuts_of n number (seat ∷ rest) = elim c.if-number-gt0.branch [
      | then-number-gt0+then-number-n-eq0+in_ok-push w ↦
          let e : is_cut n number ≡ true = and_from (nat_lt 0 number) (number % n == 0) (lt-ltb 0 number w.if-number-gt0.true) (eq-eqb (number % n) 0 w.if-number-n-eq0.true) in
          rw e (ap with_rest (ap items_of w.cuts-is ∙ w.in_ok-push.ensures.items) ∙ append_assoc cuts (place_of seat ∷ []) (cuts_of n (number + 1) rest))
      | else-number-gt0 w ↦
          let e : is_cut n number ≡ false = elim w.else-number-gt0.branch [
            | else-number-gt0-via-then-number-gt0+else-number-n-eq0 v ↦ and_right (nat_lt 0 number) (number % n == 0) (ne_eqb (number % n) 0 v.if-number-n-eq0.false)
            | else-number-gt0-via-else-number-gt0 v ↦ and_left (nat_lt 0 number) (number % n == 0) (le-ltb 0 number v.if-number-gt0.false)
          ] in
          rw e (ap with_rest (ap items_of w.cuts-is))
    ] in
    record {
      place = next.0;
      counted = omega (arith, c.loop-byte.invariant.counted, ap length next.1);
      made = step ∙ ap (λ (xs : List Seat). cuts ++ cuts_of n number xs) (sym next.1) ∙ c.loop-byte.invariant.made;
    }

pub returns : goal.returns
returns c =
    let tab = c.args.tab_size in let bytes = c.args.bytes.now in
    let all = ap (λ (xs : List Seat). c.loop-byte.cuts.items ++ cuts_of c.args.n c.loop-byte.number xs) (sym (c.in_default.ensures c.get-t.result c.get-t.ensures.least))
    ∙ c.loop-byte.invariant.made in
    let places = sym (append-nil c.loop-byte.cuts.items) ∙ all ∙ ap (λ (t : ℕ). cuts_every t bytes c.args.n) c.get-t.ensures.columns in
    let some : 0 < tab = omega (arith, c.get-t.ensures.columns, c.get-t.ensures.least) in
    record { places = places; cuts = subst (AreCuts tab bytes) (sym places) (cuts_every-are-cuts tab some bytes c.args.n) }
