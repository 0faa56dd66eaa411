-- Spans end at their exits.
use Rattle.std.proofs.Common.{◌≡◌, ℕ, suc, ◌+◌, List, ◌∷◌, ◌++◌, length, take, drop, ap, ◌∙◌, arith}
use Rattle.std.proofs.Math.Seq.{drop-append-add, take-append_seam}
use Rattle.std.proofs.lemmas.List.{append_assoc, length-append}
use Rattle.markdown_base.specs.declared.event.Event.{Event}
use Rattle.markdown_base.specs.declared.event.Kind.TheVariants.{Enter, Exit}
use Rattle.markdown_base.specs.Events.{IsBalanced, empty, span}
use Rattle.mddocument_link_targets.specs.Spans.{SpansEndAtTheirExits, size_by, size_from}

-- one event on
pub at_enter : (depth : ℕ) (e : Event) (es : List Event) → e.kind ≡ Enter → size_from depth (e ∷ es) ≡ suc (size_from (suc depth) es)
at_enter depth e es h = ap (λ k. size_by k depth (λ d. size_from d es)) h

pub at_exit : (depth : ℕ) (e : Event) (es : List Event) → e.kind ≡ Exit → size_from (suc depth) (e ∷ es) ≡ suc (size_from depth es)
at_exit depth e es h = ap (λ k. size_by k (suc depth) (λ d. size_from d es)) h

pub at_end : (e : Event) (es : List Event) → e.kind ≡ Exit → size_from 0 (e ∷ es) ≡ 0
at_end e es h = ap (λ k. size_by k 0 (λ d. size_from d es)) h

-- balanced events are passed over
passed : (depth : ℕ) (xs zs : List Event) → IsBalanced xs → size_from depth (xs ++ zs) ≡ length xs + size_from depth zs
passed depth xs zs empty = omega arith
passed depth xs zs (span e f us vs is enters exits same bu bv) =
    let whole : xs ++ zs ≡ e ∷ (us ++ f ∷ (vs ++ zs)) = ap (λ (ts : List Event). ts ++ zs) is ∙ ap (λ (ts : List Event). e ∷ ts) (append_assoc us (f ∷ vs) zs) in
    let long : length xs ≡ suc (length us + suc (length vs)) = ap length is ∙ ap suc (length-append us (f ∷ vs)) in
    let first = ap (size_from depth) whole ∙ at_enter depth e (us ++ f ∷ (vs ++ zs)) enters in
    let inner = passed (suc depth) us (f ∷ (vs ++ zs)) bu in
    let last = at_exit depth f (vs ++ zs) exits in
    let outer = passed depth vs zs bv in
    omega (arith, long, first, inner, last, outer)

pub spans-end : SpansEndAtTheirExits
spans-end xs ys f b exits =
    let size : size_from 0 (xs ++ f ∷ ys) ≡ length xs =
    let a = passed 0 xs (f ∷ ys) b in
    let z = at_end f ys exits in
    omega (arith, a, z)
    in
    (ap (λ n. take n (xs ++ f ∷ ys)) size ∙ take-append_seam xs (f ∷ ys), ap (λ n. drop (n + 1) (xs ++ f ∷ ys)) size ∙ drop-append-add xs (f ∷ ys) 1)
