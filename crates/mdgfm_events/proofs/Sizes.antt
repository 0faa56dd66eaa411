-- Sizes and ends of spans: balanced events in them are passed over.
use Rattle.std.proofs.Common.{◌≡◌, ℕ, suc, ◌+◌, ◌-◌, ◌++◌, false, cond, List, [], ◌∷◌, length, refl, ap, ◌∙◌, arith}
use Rattle.std.proofs.lemmas.Bool.Decides.{nat_tests}
use Rattle.std.proofs.lemmas.List.{append_assoc, length-append}
use Rattle.std.specs.Prelude.{◌==◌}
use Rattle.markdown_base.specs.declared.event.Event.{Event}
use Rattle.markdown_base.specs.declared.event.Kind.TheVariants.{Enter, Exit}
use Rattle.markdown_base.specs.declared.event.Point.{Point}
use Rattle.markdown_base.specs.Events.{IsBalanced, empty, span, is_enter}
use Rattle.mdgfm_events.specs.Spans.{span_end, span_size}

size-enter : (n : ℕ) (e : Event) (es : List Event) → e.kind ≡ Enter → span_size n (e ∷ es) ≡ span_size (n + 1) es + 1
size-enter n e es h = ap (λ k. cond (is_enter k) (span_size (n + 1) es + 1) (cond (n == 0) 1 (span_size (n - 1) es + 1))) h

size-exit : (n : ℕ) (e : Event) (es : List Event) → e.kind ≡ Exit → span_size (n + 1) (e ∷ es) ≡ span_size n es + 1
size-exit n e es h =
    let inner : ((n + 1) == 0) ≡ false = grind (arith, nat_tests) in
    let one : n + 1 - 1 ≡ n = omega arith in
    ap (λ k. cond (is_enter k) (span_size (n + 1 + 1) es + 1) (cond ((n + 1) == 0) 1 (span_size (n + 1 - 1) es + 1))) h
    ∙ ap (λ t. cond t 1 (span_size (n + 1 - 1) es + 1)) inner
    ∙ ap (λ k. span_size k es + 1) one

pub size-last : (e : Event) (es : List Event) → e.kind ≡ Exit → span_size 0 (e ∷ es) ≡ 1
size-last e es h = ap (λ k. cond (is_enter k) (span_size (0 + 1) es + 1) (cond (0 == 0) 1 (span_size (0 - 1) es + 1))) h

end-enter : (p : Point) (n : ℕ) (e : Event) (es : List Event) → e.kind ≡ Enter → span_end p n (e ∷ es) ≡ span_end p (n + 1) es
end-enter p n e es h = ap (λ k. cond (is_enter k) (span_end p (n + 1) es) (cond (n == 0) e.point (span_end p (n - 1) es))) h

end-exit : (p : Point) (n : ℕ) (e : Event) (es : List Event) → e.kind ≡ Exit → span_end p (n + 1) (e ∷ es) ≡ span_end p n es
end-exit p n e es h =
    let inner : ((n + 1) == 0) ≡ false = grind (arith, nat_tests) in
    let one : n + 1 - 1 ≡ n = omega arith in
    ap (λ k. cond (is_enter k) (span_end p (n + 1 + 1) es) (cond ((n + 1) == 0) e.point (span_end p (n + 1 - 1) es))) h
    ∙ ap (λ t. cond t e.point (span_end p (n + 1 - 1) es)) inner
    ∙ ap (λ k. span_end p k es) one

pub end-last : (p : Point) (e : Event) (es : List Event) → e.kind ≡ Exit → span_end p 0 (e ∷ es) ≡ e.point
end-last p e es h = ap (λ k. cond (is_enter k) (span_end p (0 + 1) es) (cond (0 == 0) e.point (span_end p (0 - 1) es))) h

-- a list of a span, as its parts
pub split : (e f : Event) (us vs : List Event) {xs : List Event} (zs : List Event) → xs ≡ e ∷ (us ++ f ∷ vs) → xs ++ zs ≡ e ∷ (us ++ f ∷ (vs ++ zs))
split e f us vs zs is = ap (λ (ts : List Event). ts ++ zs) is ∙ ap (λ (ts : List Event). e ∷ ts) (append_assoc us (f ∷ vs) zs)

-- balanced events are passed over
pub size-over : (n : ℕ) (xs zs : List Event) → IsBalanced xs → span_size n (xs ++ zs) ≡ length xs + span_size n zs
size-over n xs zs empty = omega arith
size-over n xs zs (span e f us vs is enters exits same bu bv) =
    let long : length xs ≡ suc (length us + suc (length vs)) = ap length is ∙ ap suc (length-append us (f ∷ vs)) in
    let first = ap (span_size n) (split e f us vs zs is) ∙ size-enter n e (us ++ f ∷ (vs ++ zs)) enters in
    let inner = size-over (n + 1) us (f ∷ (vs ++ zs)) bu in
    let last = size-exit n f (vs ++ zs) exits in
    let outer = size-over n vs zs bv in
    omega (arith, long, first, inner, last, outer)

pub end-over : (p : Point) (n : ℕ) (xs zs : List Event) → IsBalanced xs → span_end p n (xs ++ zs) ≡ span_end p n zs
end-over p n xs zs empty = refl
end-over p n xs zs (span e f us vs is enters exits same bu bv) =
    ap (span_end p n) (split e f us vs zs is)
    ∙ end-enter p n e (us ++ f ∷ (vs ++ zs)) enters
    ∙ end-over p (n + 1) us (f ∷ (vs ++ zs)) bu
    ∙ end-exit p n f (vs ++ zs) exits
    ∙ end-over p n vs zs bv
