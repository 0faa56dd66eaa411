-- Pairs of delimiter runs: which runs open and close them, in which order, and how many markers they take.
use Rattle.mddocument_laws.proofs.Prelude.{◌≡◌, ℕ, zero, suc, ◌+◌, ◌-◌, ◌<◌, ◌≤◌, ◌==◌, Bool, true, false, cond, List, [], ◌∷◌, ◌++◌, refl, sym, ap, subst, arith, cond_both, and_parts, leb-true, nat_tests, AllByRecursion, filter, nat_le, nat_lt, every-append, every-back, Delimiter, Pair, Run, close_pairs, closes_yet, gave, look_back, markers_of, markers_of_all, may_pair, on_stack, opens_yet, pairs_from, style_of, markers_given, map}
use Rattle.mdinline_emphasis.proofs.Markers.{pair-has}
use Rattle.mdinline_emphasis.proofs.PairsKeep.{some-left}

-- ---- one run closes pairs: a principle of induction
abbrev Closed : Type 0
Closed = List Delimiter × List Pair

-- the stack from the first opener down that matches is behind others
look-behind : (r : Run) (stack : List Delimiter) → (front : List Delimiter) × (stack ≡ front ++ look_back r stack)
look-behind r [] = ([], refl)
look-behind r (d ∷ stack) =
    let more = look-behind r stack in
    elim (may_pair d.run r) as (λ b. (front : List Delimiter) × (d ∷ stack ≡ front ++ cond b (d ∷ stack) (look_back r stack))) [
      | true ↦ ([], refl)
      | false ↦ (d ∷ more.0, ap (λ l. d ∷ l) more.1)
    ]

-- and it matches
look-fits : (r : Run) (stack : List Delimiter) (o : Delimiter) (below : List Delimiter) → look_back r stack ≡ o ∷ below → may_pair o.run r ≡ true
look-fits r [] o below e = absurd (cc)
look-fits r (d ∷ stack) o below e =
    elim (may_pair d.run r) as (λ b. may_pair d.run r ≡ b → cond b (d ∷ stack) (look_back r stack) ≡ o ∷ below → may_pair o.run r ≡ true) [
      | true ↦ λ fits same. let first : d ≡ o = cc in subst (λ (x : Delimiter). may_pair x.run r ≡ true) first fits
      | false ↦ λ other same. look-fits r stack o below same
    ] refl e

abbrev pub pair_with : Delimiter → Delimiter → Pair
pair_with o d = record { opener = o.number; closer = d.number; style = style_of o.run d.run }

module _ (P : Delimiter → List Delimiter → Closed → Type 0)
    (done : (d : Delimiter) (stack : List Delimiter) → P d stack (on_stack d stack, []))
    (more : (d o : Delimiter) (front below : List Delimiter) (rest : Closed) → 0 < d.run.left → d.run.closes ≡ true → may_pair o.run d.run ≡ true
    → P (gave (style_of o.run d.run) d) (on_stack (gave (style_of o.run d.run) o) below) rest
    → P d (front ++ o ∷ below) (rest.0, pair_with o d ∷ rest.1)) where
  abbrev found : ℕ → Delimiter → List Delimiter → List Delimiter → Closed
  found n d stack l = elim l [
    | [] ↦ (on_stack d stack, [])
    | o ∷ below ↦
        let s = style_of o.run d.run in
        let rest = close_pairs n (gave s d) (on_stack (gave s o) below) in
        (rest.0, record { opener = o.number; closer = d.number; style = s } ∷ rest.1)
  ]

  pub by-pairs : (n : ℕ) (d : Delimiter) (stack : List Delimiter) → P d stack (close_pairs n d stack)
  by-pairs zero d stack = done d stack
  by-pairs (suc n) d stack =
      cond_both (closes_yet d.run) (found n d stack (look_back d.run stack)) (on_stack d stack, []) (P d stack)
      (λ yet. let both = and_parts d.run.closes (nat_lt 0 d.run.left) yet in by (by-pairs n) (look_back d.run stack) refl (some-left d.run.left both.1) both.0 (look-behind d.run stack).0 (look-behind d.run stack).1)
      (λ no. done d stack)
    where
      by : ((e : Delimiter) (xs : List Delimiter) → P e xs (close_pairs n e xs)) → (l : List Delimiter) → look_back d.run stack ≡ l → 0 < d.run.left → d.run.closes ≡ true → (front : List Delimiter) → stack ≡ front ++ l → P d stack (found n d stack l)
      by go [] at some closes front e = done d stack
      by go (o ∷ below) at some closes front e =
          let s = style_of o.run d.run in
          let rest = close_pairs n (gave s d) (on_stack (gave s o) below) in
          subst (λ l. P d l (rest.0, pair_with o d ∷ rest.1)) (sym e) (more d o front below rest some closes (look-fits d.run stack o below at) (go (gave s d) (on_stack (gave s o) below)))

-- ---- which runs open and close
abbrev pub AreBelow : ℕ → List Delimiter → Type 0
AreBelow n stack = AllByRecursion (λ (d : Delimiter). d.number < n) stack

abbrev pub CloseAt : ℕ → List Pair → Type 0
CloseAt n ps = AllByRecursion (λ (p : Pair). (p.opener < n) × (p.closer ≡ n)) ps

pub every-on : (Q : Delimiter → Type 0) (d : Delimiter) (stack : List Delimiter) → Q d → AllByRecursion Q stack → AllByRecursion Q (on_stack d stack)
every-on Q d stack q h = cond_both (opens_yet d.run) (d ∷ stack) stack (AllByRecursion Q) (λ e. (q, h)) (λ e. h)

below-more : (n : ℕ) (stack : List Delimiter) → AreBelow n stack → AreBelow (n + 1) stack
below-more n [] h = tt
below-more n (d ∷ stack) h = (omega (arith, h.0), below-more n stack h.1)

pub closes-at : (k : ℕ) (d : Delimiter) (stack : List Delimiter) → AreBelow d.number stack
    → CloseAt d.number (close_pairs k d stack).1 × AreBelow (d.number + 1) (close_pairs k d stack).0
closes-at k d stack = by-pairs
    (λ d stack r. AreBelow d.number stack → CloseAt d.number r.1 × AreBelow (d.number + 1) r.0)
    (λ d stack h. (tt, every-on (λ e. e.number < d.number + 1) d stack (omega arith) (below-more d.number stack h)))
    (λ d o front below rest some closes fits ih h.
    let behind = every-back (λ (e : Delimiter). e.number < d.number) front (o ∷ below) h in
    let s = style_of o.run d.run in
    let next = ih (every-on (λ e. e.number < d.number) (gave s o) below behind.0 behind.1) in
    (((behind.0, refl), next.0), next.1))
    k d stack

-- runs from a number on close no pair before
abbrev pub CloseFrom : ℕ → List Pair → Type 0
CloseFrom n ps = AllByRecursion (λ (p : Pair). n ≤ p.closer) ps

from-at : (n m : ℕ) (ps : List Pair) → n ≤ m → CloseAt m ps → CloseFrom n ps
from-at n m [] less h = tt
from-at n m (p ∷ ps) less h = (let at = h.0.1 in omega (arith, less, at), from-at n m ps less h.1)

abbrev pub delimiter : ℕ → Run → Delimiter
delimiter n r = record { number = n; run = r }

from-less : (n : ℕ) (ps : List Pair) → CloseFrom (n + 1) ps → CloseFrom n ps
from-less n [] h = tt
from-less n (p ∷ ps) h = (let at = h.0 in omega (arith, at), from-less n ps h.1)

pub closes-from : (n : ℕ) (stack : List Delimiter) (rs : List Run) → AreBelow n stack → CloseFrom n (pairs_from n stack rs)
closes-from n stack [] h = tt
closes-from n stack (r ∷ rs) h =
    let closed = close_pairs r.left (delimiter n r) stack in
    let at = closes-at r.left (delimiter n r) stack h in
    every-append (λ (p : Pair). n ≤ p.closer) closed.1 (pairs_from (n + 1) closed.0 rs) (from-at n n closed.1 (omega arith) at.0) (from-less n (pairs_from (n + 1) closed.0 rs) (closes-from (n + 1) closed.0 rs at.1))

-- ---- an opener is not taken any more behind a pair of one below it
abbrev pub HasNot : ℕ → List Delimiter → Type 0
HasNot n stack = AllByRecursion (λ (d : Delimiter). (d.number == n) ≡ false) stack

abbrev pub NoneOpens : ℕ → List Pair → Type 0
NoneOpens n ps = AllByRecursion (λ (p : Pair). (p.opener == n) ≡ false) ps

-- pairs that this run opens come before those that runs before it open
abbrev pub AreNested : ℕ → List Pair → Type 0
AreNested n [] = Unit {0}
AreNested n (p ∷ ps) = (p.opener < n → NoneOpens n ps) × AreNested n ps

abbrev pub AreFalling : List Delimiter → Type 0
AreFalling [] = Unit {0}
AreFalling (d ∷ stack) = AllByRecursion (λ (e : Delimiter). e.number ≤ d.number) stack × AreFalling stack

falling-behind : (xs ys : List Delimiter) → AreFalling (xs ++ ys) → AreFalling ys
falling-behind [] ys h = h
falling-behind (x ∷ xs) ys h = falling-behind xs ys h.1

falling-on : (d : Delimiter) (stack : List Delimiter) → AllByRecursion (λ (e : Delimiter). e.number ≤ d.number) stack → AreFalling stack → AreFalling (on_stack d stack)
falling-on d stack a h = cond_both (opens_yet d.run) (d ∷ stack) stack AreFalling (λ e. (a, h)) (λ e. h)

below-upto : (n : ℕ) (stack : List Delimiter) → AreBelow n stack → AllByRecursion (λ (e : Delimiter). e.number ≤ n) stack
below-upto n [] h = tt
below-upto n (d ∷ stack) h = (omega (arith, h.0), below-upto n stack h.1)

not-in : (n m : ℕ) (stack : List Delimiter) → m < n → AllByRecursion (λ (e : Delimiter). e.number ≤ m) stack → HasNot n stack
not-in n m [] less h = tt
not-in n m (d ∷ stack) less h = (let at = h.0 in grind (arith, nat_tests, less, at), not-in n m stack less h.1)

record Nests (n : ℕ) (d : Delimiter) (stack : List Delimiter) (r : Closed) : Type 0 where
  pub falls : AreFalling r.0
  pub free : HasNot n stack → NoneOpens n r.1 × HasNot n r.0
  pub nested : (rest : List Pair) → (HasNot n r.0 → NoneOpens n rest) → AreNested n rest → AreNested n (r.1 ++ rest)

nests : (n k : ℕ) (d : Delimiter) (stack : List Delimiter) → n < d.number → AreBelow d.number stack → AreFalling stack → Nests n d stack (close_pairs k d stack)
nests n k d stack = by-pairs
    (λ d stack r. n < d.number → AreBelow d.number stack → AreFalling stack → Nests n d stack r)
    (λ d stack less below falling. record {
      falls = falling-on d stack (below-upto d.number stack below) falling;
      free = λ h. (tt, every-on (λ (e : Delimiter). (e.number == n) ≡ false) d stack (grind (arith, nat_tests, less)) h);
      nested = λ rest h k. k;
    })
    (λ d o front below rest some closes fits ih less under falling.
    let s = style_of o.run d.run in
    let behind = every-back (λ (e : Delimiter). e.number < d.number) front (o ∷ below) under in
    let falls = falling-behind front (o ∷ below) falling in
    let next = ih less (every-on (λ e. e.number < d.number) (gave s o) below behind.0 behind.1) (falling-on (gave s o) below falls.0 falls.1) in
    record {
      falls = next.falls;
      free = λ h.
          let not = every-back (λ (e : Delimiter). (e.number == n) ≡ false) front (o ∷ below) h in
          let later = next.free (every-on (λ (e : Delimiter). (e.number == n) ≡ false) (gave s o) below not.0 not.1) in
          ((not.0, later.0), later.1);
      nested = λ more h k. (
        (λ lower.
            let at : (o.number == n) ≡ false = grind (arith, nat_tests, lower) in
            let later = next.free (every-on (λ (e : Delimiter). (e.number == n) ≡ false) (gave s o) below at (not-in n o.number below lower falls.0)) in
            every-append (λ (p : Pair). (p.opener == n) ≡ false) rest.1 more later.0 (h later.1)),
        next.nested more h k,
      );
    })
    k d stack

pub none-opens : (n m : ℕ) (stack : List Delimiter) (rs : List Run) → n < m → AreBelow m stack → AreFalling stack → HasNot n stack → NoneOpens n (pairs_from m stack rs)
none-opens n m stack [] less below falling h = tt
none-opens n m stack (r ∷ rs) less below falling h =
    let closed = close_pairs r.left (delimiter m r) stack in
    let here = nests n r.left (delimiter m r) stack less below falling in
    let free = here.free h in
    let at = closes-at r.left (delimiter m r) stack below in
    every-append (λ (p : Pair). (p.opener == n) ≡ false) closed.1 (pairs_from (m + 1) closed.0 rs) free.0 (none-opens n (m + 1) closed.0 rs (omega (arith, less)) at.1 here.falls free.1)

pub are-nested : (n m : ℕ) (stack : List Delimiter) (rs : List Run) → n < m → AreBelow m stack → AreFalling stack → AreNested n (pairs_from m stack rs)
are-nested n m stack [] less below falling = tt
are-nested n m stack (r ∷ rs) less below falling =
    let closed = close_pairs r.left (delimiter m r) stack in
    let here = nests n r.left (delimiter m r) stack less below falling in
    let at = closes-at r.left (delimiter m r) stack below in
    let more : n < m + 1 = omega (arith, less) in
    here.nested (pairs_from (m + 1) closed.0 rs) (λ h. none-opens n (m + 1) closed.0 rs more at.1 here.falls h) (are-nested n (m + 1) closed.0 rs more at.1 here.falls)

pub falling-still : (k : ℕ) (d : Delimiter) (stack : List Delimiter) → AreBelow d.number stack → AreFalling stack → AreFalling (close_pairs k d stack).0
falling-still k d stack = by-pairs
    (λ d stack r. AreBelow d.number stack → AreFalling stack → AreFalling r.0)
    (λ d stack below falling. falling-on d stack (below-upto d.number stack below) falling)
    (λ d o front below rest some closes fits ih under falling.
    let s = style_of o.run d.run in
    let behind = every-back (λ (e : Delimiter). e.number < d.number) front (o ∷ below) under in
    let falls = falling-behind front (o ∷ below) falling in
    ih (every-on (λ e. e.number < d.number) (gave s o) below behind.0 behind.1) (falling-on (gave s o) below falls.0 falls.1))
    k d stack

-- ---- markers
abbrev pub left_of : ℕ → List Delimiter → ℕ
left_of k [] = 0
left_of k (d ∷ stack) = cond (d.number == k) d.run.left 0 + left_of k stack

abbrev pub HaveMarkers : List Delimiter → Type 0
HaveMarkers stack = AllByRecursion (λ (d : Delimiter). 0 < d.run.left) stack

pub given-more : (takes : Pair → Bool) (p : Pair) (ps : List Pair) → markers_given takes (p ∷ ps) ≡ cond (takes p) (markers_of p.style) 0 + markers_given takes ps
given-more takes p ps = elim (takes p) as (λ b. markers_of_all (map (λ (q : Pair). q.style) (cond b (p ∷ filter takes ps) (filter takes ps))) ≡ cond b (markers_of p.style) 0 + markers_given takes ps) [ true ↦ refl | false ↦ omega arith ]

-- the markers of all
abbrev pub markers_in : List Pair → ℕ
markers_in ps = markers_of_all (map (λ (p : Pair). p.style) ps)

left-behind : (k : ℕ) (xs ys : List Delimiter) → left_of k ys ≤ left_of k (xs ++ ys)
left-behind k [] ys = omega arith
left-behind k (x ∷ xs) ys = let more = left-behind k xs ys in omega (arith, more)

left-on : (k : ℕ) (d : Delimiter) (stack : List Delimiter) → left_of k (on_stack d stack) ≤ cond (d.number == k) d.run.left 0 + left_of k stack
left-on k d stack = cond_both (opens_yet d.run) (d ∷ stack) stack (λ l. left_of k l ≤ cond (d.number == k) d.run.left 0 + left_of k stack) (λ e. omega arith) (λ e. omega arith)

markers-on : (d : Delimiter) (stack : List Delimiter) → HaveMarkers stack → HaveMarkers (on_stack d stack)
markers-on d stack h = cond_both (opens_yet d.run) (d ∷ stack) stack HaveMarkers (λ e. (some-left d.run.left (and_parts d.run.opens (nat_lt 0 d.run.left) e).1, h)) (λ e. h)

record Takes (d : Delimiter) (stack : List Delimiter) (r : Closed) : Type 0 where
  pub within : markers_in r.1 ≤ d.run.left
  pub have : HaveMarkers r.0
  pub given : (k : ℕ) → markers_given (λ p. p.opener == k) r.1 + left_of k r.0 ≤ left_of k stack + cond (d.number == k) (d.run.left - markers_in r.1) 0

less-by : (b : Bool) (x m : ℕ) → m ≤ x → cond b (x - m) 0 + cond b m 0 ≡ cond b x 0
less-by true x m h = omega (arith, h)
less-by false x m h = refl

takes : (k : ℕ) (d : Delimiter) (stack : List Delimiter) → HaveMarkers stack → Takes d stack (close_pairs k d stack)
takes k d stack = by-pairs
    (λ d stack r. HaveMarkers stack → Takes d stack r)
    (λ d stack h. record {
      within = omega arith;
      have = markers-on d stack h;
      given = λ k. (let on = left-on k d stack in elim (d.number == k) as (λ b. left_of k (on_stack d stack) ≤ cond b d.run.left 0 + left_of k stack → 0 + left_of k (on_stack d stack) ≤ left_of k stack + cond b (d.run.left - 0) 0) [ true ↦ (λ on. omega (arith, on)) | false ↦ (λ on. omega (arith, on)) ] on);
    })
    (λ d o front below rest some closes fits ih h.
    let s = style_of o.run d.run in
    let behind = every-back (λ (e : Delimiter). 0 < e.run.left) front (o ∷ below) h in
    let first = pair-has o.run d.run o.run.left behind.0 (λ both. leb-true 2 o.run.left (and_parts (nat_le 2 o.run.left) (nat_le 2 d.run.left) both).0) in
    let second = pair-has o.run d.run d.run.left some (λ both. leb-true 2 d.run.left (and_parts (nat_le 2 o.run.left) (nat_le 2 d.run.left) both).1) in
    let next = ih (markers-on (gave s o) below behind.1) in
    let within = next.within in
    record {
      within = omega (arith, within, second);
      have = next.have;
      given = λ k.
          let more = given-more (λ p. p.opener == k) (pair_with o d) rest.1 in
          let later = next.given k in
          let on = left-on k (gave s o) below in
          let whole = left-behind k front (o ∷ below) in
          let less = less-by (o.number == k) o.run.left (markers_of s) first in
          let same : d.run.left - markers_of s - markers_in rest.1 ≡ d.run.left - (markers_of s + markers_in rest.1) = omega arith in
          let there : cond (d.number == k) (d.run.left - markers_of s - markers_in rest.1) 0 ≡ cond (d.number == k) (d.run.left - (markers_of s + markers_in rest.1)) 0 = ap (λ x. cond (d.number == k) x 0) same in
          omega (arith, more, later, on, whole, less, there);
    })
    k d stack

pub markers-still : (k : ℕ) (d : Delimiter) (stack : List Delimiter) → HaveMarkers stack → HaveMarkers (close_pairs k d stack).0
markers-still k d stack h = (takes k d stack h).have

pub given-append : (takes : Pair → Bool) (ps qs : List Pair) → markers_given takes (ps ++ qs) ≡ markers_given takes ps + markers_given takes qs
given-append takes [] qs = omega arith
given-append takes (p ∷ ps) qs =
    let all = given-more takes p (ps ++ qs) in
    let front = given-more takes p ps in
    let more = given-append takes ps qs in
    omega (arith, all, front, more)

-- a run opens pairs with markers that it has left on the stack
pub opens-within : (k m : ℕ) (stack : List Delimiter) (rs : List Run) → k < m → HaveMarkers stack → markers_given (λ p. p.opener == k) (pairs_from m stack rs) ≤ left_of k stack
opens-within k m stack [] less h = omega arith
opens-within k m stack (r ∷ rs) less h =
    let d = delimiter m r in
    let closed = close_pairs r.left d stack in
    let here = takes r.left d stack h in
    let given = here.given k in
    let other : (m == k) ≡ false = grind (arith, nat_tests, less) in
    let none : cond (m == k) (r.left - markers_in closed.1) 0 ≡ 0 = ap (λ b. cond b (r.left - markers_in closed.1) 0) other in
    let more = opens-within k (m + 1) closed.0 rs (omega (arith, less)) here.have in
    let both = given-append (λ p. p.opener == k) closed.1 (pairs_from (m + 1) closed.0 rs) in
    omega (arith, given, none, more, both)

below-none : (n : ℕ) (stack : List Delimiter) → AreBelow n stack → left_of n stack ≡ 0
below-none n [] h = refl
below-none n (d ∷ stack) h =
    let at = h.0 in
    let other : (d.number == n) ≡ false = grind (arith, nat_tests, at) in
    let none : cond (d.number == n) d.run.left 0 ≡ 0 = ap (λ b. cond b d.run.left 0) other in
    let more = below-none n stack h.1 in
    omega (arith, none, more)

-- a run has markers for all pairs that it closes and opens
pub all-within : (n : ℕ) (stack : List Delimiter) (r : Run) (rs : List Run) → AreBelow n stack → HaveMarkers stack
    → let closed = close_pairs r.left (delimiter n r) stack in
    markers_in closed.1 + markers_given (λ p. p.opener == n) (pairs_from (n + 1) closed.0 rs) ≤ r.left
all-within n stack r rs below h =
    let d = delimiter n r in
    let closed = close_pairs r.left d stack in
    let here = takes r.left d stack h in
    let within = here.within in
    let given = here.given n in
    let this : (n == n) ≡ true = grind (arith, nat_tests) in
    let all : cond (n == n) (r.left - markers_in closed.1) 0 ≡ r.left - markers_in closed.1 = ap (λ b. cond b (r.left - markers_in closed.1) 0) this in
    let none = below-none n stack below in
    let more = opens-within n (n + 1) closed.0 rs (omega arith) here.have in
    omega (arith, within, given, all, none, more)
