-- What a limit of depth leaves of balanced events.
use Rattle.std.proofs.Common.{◌≡◌, ℕ, suc, ◌-◌, ◌++◌, Bool, true, false, cond, List, [], ◌∷◌, refl, sym, ap, subst, ◌∙◌, arith}
use Rattle.std.proofs.lemmas.Bool.{and_parts, false≢true, leb-false, leb-true}
use Rattle.std.proofs.lemmas.List.{append-nil, append_assoc}
use Rattle.std.specs.Prelude.{◌&&◌, filter, min, nat_le, not}
use Rattle.markdown_base.specs.declared.event.Event.{Event}
use Rattle.markdown_base.specs.declared.event.Kind.TheVariants.{Enter, Exit}
use Rattle.markdown_base.specs.Events.{IsBalanced, empty, is_enter, span}
use Rattle.markdown_base.proofs.Balanced.{IsBalanced-append}
use Rattle.mdhtml_depth.specs.Depth.{behind, has_depth, is_deep, kept, nests, within}
use Rattle.mdhtml_depth.specs.Laws.{BalanceIsKept, DepthIsKept, OthersStay, ShallowStays}

-- ---- enters and exits

pub deep-enter : (limit opened : ℕ) (e : Event) → e.kind ≡ Enter → is_deep limit opened e ≡ nests e.name && nat_le limit opened
deep-enter limit opened e h = ap (λ k. nests e.name && nat_le limit (cond (is_enter k) opened (opened - 1))) h

deep-exit : (limit opened : ℕ) (f : Event) → f.kind ≡ Exit → is_deep limit opened f ≡ nests f.name && nat_le limit (opened - 1)
deep-exit limit opened f h = ap (λ k. nests f.name && nat_le limit (cond (is_enter k) opened (opened - 1))) h

pub behind-enter : (opened : ℕ) (e : Event) → e.kind ≡ Enter → behind opened e ≡ cond (nests e.name) (suc opened) opened
behind-enter opened e h = ap (λ k. cond (nests e.name) (cond (is_enter k) (suc opened) (opened - 1)) opened) h

behind-exit : (opened : ℕ) (f : Event) → f.kind ≡ Exit → behind opened f ≡ cond (nests f.name) (opened - 1) opened
behind-exit opened f h = ap (λ k. cond (nests f.name) (cond (is_enter k) (suc opened) (opened - 1)) opened) h

less-one : (opened : ℕ) → suc opened - 1 ≡ opened
less-one opened = omega arith

back-by : (b : Bool) (opened : ℕ) → cond b (cond b (suc opened) opened - 1) (cond b (suc opened) opened) ≡ opened
back-by true opened = less-one opened
back-by false opened = refl

deep-by : (b : Bool) (limit opened : ℕ) → b && nat_le limit (cond b (suc opened) opened - 1) ≡ b && nat_le limit opened
deep-by true limit opened = ap (nat_le limit) (less-one opened)
deep-by false limit opened = refl

-- a span, its enter and its exit
module _ (limit opened : ℕ) (e f : Event) (enters : e.kind ≡ Enter) (exits : f.kind ≡ Exit) (same : f.name ≡ e.name) where
  pub span-back : behind (behind opened e) f ≡ opened
  span-back =
      behind-exit (behind opened e) f exits ∙ ap (λ n. cond (nests n) (behind opened e - 1) (behind opened e)) same
      ∙ ap (λ o. cond (nests e.name) (o - 1) o) (behind-enter opened e enters) ∙ back-by (nests e.name) opened

  span-deep : is_deep limit (behind opened e) f ≡ is_deep limit opened e
  span-deep =
      deep-exit limit (behind opened e) f exits ∙ ap (λ n. nests n && nat_le limit (behind opened e - 1)) same
      ∙ ap (λ o. nests e.name && nat_le limit (o - 1)) (behind-enter opened e enters) ∙ deep-by (nests e.name) limit opened ∙ sym (deep-enter limit opened e enters)

-- what is left of a span
abbrev spanned : (is_deep : Bool) → (e f : Event) → (us vs : List Event) → List Event
spanned d e f us vs = cond d [] (e ∷ []) ++ (us ++ (cond d [] (f ∷ []) ++ vs))

four : (k u l v w : List Event) → (k ++ (u ++ (l ++ v))) ++ w ≡ k ++ (u ++ (l ++ (v ++ w)))
four k u l v w = append_assoc k (u ++ (l ++ v)) w ∙ ap (λ z. k ++ z) (append_assoc u (l ++ v) w ∙ ap (λ z. u ++ z) (append_assoc l v w))

-- balanced events, and others behind them
both : (limit opened : ℕ) (xs ys : List Event) → IsBalanced xs → within limit opened (xs ++ ys) ≡ within limit opened xs ++ within limit opened ys
both limit opened xs ys empty = refl
both limit opened xs ys (span e f us vs is enters exits same bu bv) =
    let o = behind opened e in
    let k = kept limit opened e in
    let last = kept limit o f in
    let u = within limit o us in
    let back = span-back limit opened e f enters exits same in
    ap (λ (z : List Event). within limit opened (z ++ ys)) is ∙ ap (λ (z : List Event). k ++ within limit o z) (append_assoc us (f ∷ vs) ys)
    ∙ ap (λ (z : List Event). k ++ z) (both limit o us (f ∷ (vs ++ ys)) bu) ∙ ap (λ p. k ++ (u ++ (last ++ within limit p (vs ++ ys)))) back
    ∙ ap (λ (z : List Event). k ++ (u ++ (last ++ z))) (both limit opened vs ys bv) ∙ sym (four k u last (within limit opened vs) (within limit opened ys))
    ∙ ap (λ (z : List Event). z ++ within limit opened ys) (sym (ap (within limit opened) is ∙ ap (λ (z : List Event). k ++ z) (both limit o us (f ∷ vs) bu) ∙ ap (λ p. k ++ (u ++ (last ++ within limit p vs))) back))

split : (limit opened : ℕ) {xs : List Event} (e f : Event) (us vs : List Event) → xs ≡ e ∷ (us ++ f ∷ vs) → e.kind ≡ Enter → f.kind ≡ Exit → f.name ≡ e.name → IsBalanced us
    → within limit opened xs ≡ spanned (is_deep limit opened e) e f (within limit (behind opened e) us) (within limit opened vs)
split limit opened e f us vs is enters exits same bu =
    let o = behind opened e in
    let k = kept limit opened e in
    let u = within limit o us in
    ap (within limit opened) is ∙ ap (λ (z : List Event). k ++ z) (both limit o us (f ∷ vs) bu)
    ∙ ap (λ p. k ++ (u ++ (kept limit o f ++ within limit p vs))) (span-back limit opened e f enters exits same)
    ∙ ap (λ d. k ++ (u ++ (cond d [] (f ∷ []) ++ within limit opened vs))) (span-deep limit opened e f enters exits same)

-- ---- balance

pub balance-kept : BalanceIsKept
balance-kept limit opened xs empty = empty
balance-kept limit opened xs (span e f us vs is enters exits same bu bv) =
    subst IsBalanced (sym (split limit opened e f us vs is enters exits same bu)) (by (is_deep limit opened e) (balance-kept limit (behind opened e) us bu) (balance-kept limit opened vs bv))
  where
    u : List Event
    u = within limit (behind opened e) us

    v : List Event
    v = within limit opened vs

    by : (d : Bool) → IsBalanced u → IsBalanced v → IsBalanced (spanned d e f u v)
    by true h k = IsBalanced-append u v h k
    by false h k = span e f u v refl enters exits same h k

-- ---- depth

step : (limit p : ℕ) (e : Event) (es : List Event) (next : ℕ) → is_deep limit p e ≡ false → behind p e ≡ next → has_depth limit p (e ∷ es) ≡ has_depth limit next es
step limit p e es next h k = ap (λ d. not d && has_depth limit (behind p e) es) h ∙ ap (λ o. has_depth limit o es) k

-- in front of a span so many are open that are left, and within it so many
module _ (limit p q : ℕ) (e f : Event) (us vs rest : List Event) (inner : (zs : List Event) → has_depth limit q (us ++ zs) ≡ has_depth limit q zs)
    (outer : has_depth limit p (vs ++ rest) ≡ has_depth limit p rest) where
  left-out : p ≡ q → has_depth limit p (spanned true e f us vs ++ rest) ≡ has_depth limit p rest
  left-out h =
      ap (has_depth limit p) (append_assoc us vs rest) ∙ ap (λ o. has_depth limit o (us ++ (vs ++ rest))) h ∙ inner (vs ++ rest) ∙ ap (λ o. has_depth limit o (vs ++ rest)) (sym h) ∙ outer

  held : is_deep limit p e ≡ false → behind p e ≡ q → is_deep limit q f ≡ false → behind q f ≡ p → has_depth limit p (spanned false e f us vs ++ rest) ≡ has_depth limit p rest
  held a b c d =
      step limit p e ((us ++ f ∷ vs) ++ rest) q a b ∙ ap (has_depth limit q) (append_assoc us (f ∷ vs) rest) ∙ inner (f ∷ (vs ++ rest)) ∙ step limit q f (vs ++ rest) p c d ∙ outer

-- a span that does not count
other-deep : (limit opened : ℕ) (e : Event) → nests e.name ≡ false → is_deep limit opened e ≡ false
other-deep limit opened e h = ap (λ b. b && nat_le limit (cond (is_enter e.kind) opened (opened - 1))) h

other-behind : (opened : ℕ) (e : Event) → nests e.name ≡ false → behind opened e ≡ opened
other-behind opened e h = ap (λ b. cond b (cond (is_enter e.kind) (suc opened) (opened - 1)) opened) h

depth-left : (limit opened : ℕ) (xs rest : List Event) → IsBalanced xs → has_depth limit (min opened limit) (within limit opened xs ++ rest) ≡ has_depth limit (min opened limit) rest
depth-left limit opened xs rest empty = refl
depth-left limit opened xs rest (span e f us vs is enters exits same bu bv) =
    ap (λ (z : List Event). has_depth limit p (z ++ rest)) (split limit opened e f us vs is enters exits same bu)
    ∙ ap (λ d. has_depth limit p (spanned d e f u v ++ rest)) (deep-enter limit opened e enters) ∙ by (λ zs. depth-left limit (behind opened e) us zs bu) (depth-left limit opened vs rest bv) (nests e.name) (nat_le limit opened) refl refl
  where
    o : ℕ
    o = behind opened e

    p : ℕ
    p = min opened limit

    q : ℕ
    q = min o limit

    u : List Event
    u = within limit o us

    v : List Event
    v = within limit opened vs

    by : ((zs : List Event) → has_depth limit q (u ++ zs) ≡ has_depth limit q zs) → has_depth limit p (v ++ rest) ≡ has_depth limit p rest → (b d : Bool) → nests e.name ≡ b → nat_le limit opened ≡ d → has_depth limit p (spanned (b && d) e f u v ++ rest) ≡ has_depth limit p rest
    by inner outer false d n h =
        let m = ap nests same ∙ n in
        let here = other-behind opened e n in
        let there : q ≡ p = ap (λ x. min x limit) here in
        held limit p q e f u v rest inner outer (other-deep limit p e n) (other-behind p e n ∙ sym there) (other-deep limit q f m) (other-behind q f m ∙ there)
    by inner outer true true n h =
        let here : o ≡ suc opened = behind-enter opened e enters ∙ ap (λ b. cond b (suc opened) opened) n in
        let many = leb-true limit opened h in
        left-out limit p q e f u v rest inner outer (omega (arith, here, many))
    by inner outer true false n h =
        let few = leb-false limit opened h in
        let here : o ≡ suc opened = behind-enter opened e enters ∙ ap (λ b. cond b (suc opened) opened) n in
        let p-is : p ≡ opened = omega (arith, few) in
        let q-is : q ≡ suc opened = omega (arith, few, here) in
        let m = ap nests same ∙ n in
        let one : q - 1 ≡ opened = omega (arith, q-is) in
        held limit p q e f u v rest inner outer
        (deep-enter limit p e enters ∙ ap (λ b. b && nat_le limit p) n ∙ ap (nat_le limit) p-is ∙ h)
        (behind-enter p e enters ∙ ap (λ b. cond b (suc p) p) n ∙ ap suc p-is ∙ sym q-is)
        (deep-exit limit q f exits ∙ ap (λ b. b && nat_le limit (q - 1)) m ∙ ap (nat_le limit) one ∙ h)
        (behind-exit q f exits ∙ ap (λ b. cond b (q - 1) q) m ∙ one ∙ sym p-is)

pub depth-kept : DepthIsKept
depth-kept limit events balanced =
    let none : min 0 limit ≡ 0 = omega arith in
    let all = depth-left limit 0 events [] balanced in
    ap (has_depth limit 0) (sym (append-nil (within limit 0 events))) ∙ subst (λ p. has_depth limit p (within limit 0 events ++ []) ≡ true) none all

-- ---- what stays

pub shallow-stays : ShallowStays
shallow-stays limit opened [] h = refl
shallow-stays limit opened (e ∷ es) h = by (shallow-stays limit (behind opened e) es) (is_deep limit opened e) h
  where
    by : (has_depth limit (behind opened e) es ≡ true → within limit (behind opened e) es ≡ es) → (d : Bool) → not d && has_depth limit (behind opened e) es ≡ true → cond d [] (e ∷ []) ++ within limit (behind opened e) es ≡ e ∷ es
    by more true h = absurd (false≢true h)
    by more false h = ap (λ (z : List Event). e ∷ z) (more h)

pub others-stay : OthersStay
others-stay limit opened [] = refl
others-stay limit opened (e ∷ es) = by (others-stay limit (behind opened e) es) (is_deep limit opened e) refl
  where
    rest : List Event
    rest = within limit (behind opened e) es

    by : filter (λ (x : Event). not (nests x.name)) rest ≡ filter (λ (x : Event). not (nests x.name)) es → (d : Bool) → is_deep limit opened e ≡ d → filter (λ (x : Event). not (nests x.name)) (cond d [] (e ∷ []) ++ rest) ≡ filter (λ (x : Event). not (nests x.name)) (e ∷ es)
    by more true h =
        let n = (and_parts (nests e.name) (nat_le limit (cond (is_enter e.kind) opened (opened - 1))) h).0 in
        let others = filter (λ (x : Event). not (nests x.name)) es in
        more ∙ sym (ap (λ b. cond (not b) (e ∷ others) others) n)
    by more false h = ap (λ (z : List Event). cond (not (nests e.name)) (e ∷ z) z) more
