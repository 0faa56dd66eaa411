-- Events whose spans all end among them.
use Rattle.std.proofs.Common.{◌≡◌, ℕ, zero, suc, ◌+◌, ◌-◌, ◌≤◌, ◌++◌, true, false, List, [], ◌∷◌, length, drop, refl, sym, ap, subst, ◌∙◌, arith}
use Rattle.std.proofs.Math.Seq.{drop-append-add}
use Rattle.std.proofs.lemmas.List.{append-nil, length-append}
use Rattle.std.specs.Prelude.{◌==◌}
use Rattle.markdown_base.specs.declared.event.Event.{Event}
use Rattle.markdown_base.specs.declared.event.Kind.TheVariants.{Exit}
use Rattle.markdown_base.specs.Events.{IsBalanced, empty, span, is_enter}
use Rattle.mdgfm_events.specs.Spans.{span_size}
use Rattle.mdgfm_literals.specs.Stretches.{depth_behind, is_text}
use Rattle.mdgfm_events.proofs.Sizes.{size-last, size-over, split}
use Rattle.mdgfm_literals.proofs.Balance.{depth-back, exit-no-text}
use Rattle.mdgfm_literals.proofs.Fits.{never}

-- the span ends in which so many others are open
abbrev pub Ends : (opened : ℕ) → List Event → Type 0
Ends n [] = ⊥
Ends n (e ∷ es) = (is_enter e.kind ≡ true → Ends (n + 1) es) × (is_enter e.kind ≡ false → (n == 0) ≡ false → Ends (n - 1) es)

-- behind the first `skip` each span of text ends, and none is open in the end that holds no literal
abbrev pub Whole : (depth skip : ℕ) → List Event → Type 0
Whole depth skip [] = (depth ≡ 0) × (skip ≡ 0)
Whole depth (suc skip) (e ∷ es) = Whole depth skip es
Whole depth zero (e ∷ es) =
    (is_text depth e ≡ true → Ends 0 es × Whole depth (span_size 0 es) es) × (is_text depth e ≡ false → Whole (depth_behind depth e) 0 es)

whole-skip : (depth skip : ℕ) (es : List Event) → skip ≤ length es → Whole depth 0 (drop skip es) → Whole depth skip es
whole-skip depth zero es h w = w
whole-skip depth (suc skip) [] h w = absurd (omega (arith, h))
whole-skip depth (suc skip) (e ∷ es) h w = whole-skip depth skip es (omega (arith, h)) w

-- balanced events are passed over
ends-over : (n : ℕ) (xs zs : List Event) → IsBalanced xs → Ends n zs → Ends n (xs ++ zs)
ends-over n xs zs empty h = h
ends-over n xs zs (span e f us vs is enters exits same bu bv) h =
    subst (Ends n) (sym (split e f us vs zs is))
    ((λ t. ends-over (n + 1) us (f ∷ (vs ++ zs)) bu (last (ends-over n vs zs bv h))), (λ isnt k. never (is_enter e.kind) (ap is_enter enters) isnt))
  where
    one : n + 1 - 1 ≡ n
    one = omega arith

    last : Ends n (vs ++ zs) → Ends (n + 1) (f ∷ (vs ++ zs))
    last more = ((λ t. never (is_enter f.kind) t (ap is_enter exits)), (λ isnt k. subst (λ m. Ends m (vs ++ zs)) (sym one) more))

ends-last : (f : Event) (es : List Event) → f.kind ≡ Exit → Ends 0 (f ∷ es)
ends-last f es exits = ((λ t. never (is_enter f.kind) t (ap is_enter exits)), (λ isnt k. never (0 == 0) refl k))

pub whole-over : (depth : ℕ) (xs zs : List Event) → IsBalanced xs → Whole depth 0 zs → Whole depth 0 (xs ++ zs)
whole-over depth xs zs empty h = h
whole-over depth xs zs (span e f us vs is enters exits same bu bv) h =
    subst (Whole depth 0) (sym (split e f us vs zs is))
    (by (whole-over depth vs zs bv h) (λ w. whole-over (depth_behind depth e) us (f ∷ (vs ++ zs)) bu w))
  where
    rest : List Event
    rest = us ++ f ∷ (vs ++ zs)

    size : span_size 0 rest ≡ length us + 1
    size = size-over 0 us (f ∷ (vs ++ zs)) bu ∙ ap (λ n. length us + n) (size-last f (vs ++ zs) exits)

    fits : length us + 1 ≤ length rest
    fits = let long = length-append us (f ∷ (vs ++ zs)) in omega (arith, long)

    by : Whole depth 0 (vs ++ zs) → (Whole (depth_behind depth e) 0 (f ∷ (vs ++ zs)) → Whole (depth_behind depth e) 0 rest) → Whole depth 0 (e ∷ rest)
    by behind inner = (
      λ text. (
        ends-over 0 us (f ∷ (vs ++ zs)) bu (ends-last f (vs ++ zs) exits),
        subst (λ n. Whole depth n rest) (sym size) (whole-skip depth (length us + 1) rest fits (subst (Whole depth 0) (sym (drop-append-add us (f ∷ (vs ++ zs)) 1)) behind)),
      ),
      λ isnt.
          inner (
            (λ text. never (is_text (depth_behind depth e) f) text (exit-no-text (depth_behind depth e) f exits)),
            (λ is_no. subst (λ d. Whole d 0 (vs ++ zs)) (sym (depth-back depth e f enters exits same)) behind),
          ),
    )

pub whole-balanced : (xs : List Event) → IsBalanced xs → Whole 0 0 xs
whole-balanced xs b = subst (Whole 0 0) (append-nil xs) (whole-over 0 xs [] b (refl, refl))
