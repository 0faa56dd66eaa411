-- Line endings of events: the exit of each is the next event, and behind its enter.
use Rattle.std.proofs.Common.{◌≡◌, ℕ, zero, suc, ◌+◌, ◌-◌, ◌≤◌, List, [], ◌∷◌, ◌++◌, take, ap, refl, sym, ◌∙◌, subst, arith}
use Rattle.std.proofs.lemmas.Bool.{and_right, false≢true}
use Rattle.std.specs.Prelude.{⊤, ◌&&◌, ◌==◌, nat_lt, Bool, true, false, cond}
use Rattle.markdown_base.specs.declared.event.Event.{Event}
use Rattle.markdown_base.specs.declared.event.Kind.TheVariants.{Enter, Exit}
use Rattle.markdown_base.specs.declared.event.Name.{Name}
use Rattle.markdown_base.specs.declared.event.Name.TheVariants as name
use Rattle.markdown_base.specs.declared.event.Point.{Point}
use Rattle.markdown_base.specs.Events.{is_enter, same_name}
use Rattle.markdown_base.specs.Places.{stands_before}
use Rattle.mddocument_link_targets.specs.Spans.{enters}
use Rattle.mdgfm_events.specs.Places.{event, leaf}
use Rattle.mdgfm_events.specs.Spans.{span_size}

abbrev pub IsNext : Event → List Event → Type 0
IsNext e [] = ⊥
IsNext e (f ∷ fs) = (is_enter f.kind ≡ false) × (stands_before e.point f.point ≡ true)

abbrev pub IsEnded : Event → List Event → Type 0
IsEnded e es = enters name.LineEnding e ≡ true → IsNext e es

abbrev pub AreEnded : List Event → Type 0
AreEnded [] = ⊤
AreEnded (e ∷ es) = IsEnded e es × AreEnded es

-- what has another name
pub other-ended : (e : Event) (es : List Event) → same_name e.name name.LineEnding ≡ false → IsEnded e es
other-ended e es h enter = absurd (false≢true (sym (and_right (is_enter e.kind) (same_name e.name name.LineEnding) h) ∙ enter))

-- what is no enter
pub exit-ended : (e : Event) (es : List Event) → is_enter e.kind ≡ false → IsEnded e es
exit-ended e es h enter = absurd (false≢true (sym (ap (λ b. b && same_name e.name name.LineEnding) h) ∙ enter))

-- a span of another name with nothing in it
pub leaf-ended : (n : Name) (p q : Point) (es : List Event) → same_name n name.LineEnding ≡ false → AreEnded es → AreEnded (leaf n p q ++ es)
leaf-ended n p q es h k = by (nat_lt p.index q.index)
  where
    by : (t : Bool) → AreEnded (cond t (event Enter n p ∷ event Exit n q ∷ []) [] ++ es)
    by true = (other-ended (event Enter n p) (event Exit n q ∷ es) h, (other-ended (event Exit n q) es h, k))
    by false = k

-- ---- a span, and other events behind it

some-size : (m : ℕ) (f : Event) (fs : List Event) → 1 ≤ span_size m (f ∷ fs)
some-size m f fs = by (is_enter f.kind) (m == 0)
  where
    by : (t u : Bool) → 1 ≤ cond t (span_size (m + 1) fs + 1) (cond u 1 (span_size (m - 1) fs + 1))
    by true u = omega arith
    by false true = omega arith
    by false false = omega arith

next-taken : (m : ℕ) (e : Event) (es more : List Event) → IsNext e es → IsNext e (take (span_size m es) es ++ more)
next-taken m e [] more h = absurd h
next-taken m e (f ∷ fs) more h = by (span_size m (f ∷ fs)) (some-size m f fs)
  where
    by : (k : ℕ) → 1 ≤ k → IsNext e (take k (f ∷ fs) ++ more)
    by zero some = absurd (omega (arith, some))
    by (suc k) some = h

take-one : (k : ℕ) (e : Event) (es : List Event) → take (k + 1) (e ∷ es) ≡ e ∷ take k es
take-one k e es = let n : k + 1 ≡ suc k = omega arith in ap (λ i. take i (e ∷ es)) n

pub taken-ended : (m : ℕ) (es more : List Event) → AreEnded es → AreEnded more → AreEnded (take (span_size m es) es ++ more)
taken-ended m [] more h k = k
taken-ended m (e ∷ es) more h k = by (is_enter e.kind) (m == 0) refl (taken-ended (m + 1) es more h.1 k) (taken-ended (m - 1) es more h.1 k)
  where
    on : (n : ℕ) → IsEnded e (take n es ++ more) → AreEnded (take n es ++ more) → AreEnded (take (n + 1) (e ∷ es) ++ more)
    on n first rest = subst (λ (l : List Event). AreEnded (l ++ more)) (sym (take-one n e es)) (first, rest)

    by : (t u : Bool) → is_enter e.kind ≡ t → AreEnded (take (span_size (m + 1) es) es ++ more) → AreEnded (take (span_size (m - 1) es) es ++ more)
        → AreEnded (take (cond t (span_size (m + 1) es + 1) (cond u 1 (span_size (m - 1) es + 1))) (e ∷ es) ++ more)
    by true u is inner outer = on (span_size (m + 1) es) (λ enter. next-taken (m + 1) e es more (h.0 enter)) inner
    by false true is inner outer = (exit-ended e more is, k)
    by false false is inner outer = on (span_size (m - 1) es) (exit-ended e (take (span_size (m - 1) es) es ++ more) is) outer
