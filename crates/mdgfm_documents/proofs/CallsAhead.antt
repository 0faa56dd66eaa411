-- Events that go ahead still do with calls of footnotes.
use Rattle.std.proofs.Common.{◌≡◌, ℕ, ◌+◌, ◌-◌, ◌≤◌, ◌++◌, Bool, true, false, cond, List, [], ◌∷◌, drop, refl, ap, sym, subst, ◌∙◌, arith}
use Rattle.std.specs.List.{AllByRecursion}
use Rattle.markdown_base.proofs.Common.{every-map}
use Rattle.markdown_base.specs.declared.event.Event.{Event}
use Rattle.markdown_base.specs.declared.event.Name.{Name}
use Rattle.markdown_base.specs.declared.event.Name.TheVariants.{LineEnding}
use Rattle.markdown_base.specs.declared.event.Point.{Point}
use Rattle.markdown_base.specs.Events.{same_name}
use Rattle.markdown_base.specs.Virtual.{point}
use Rattle.mdgfm_events.specs.Places.{event}
use Rattle.mdgfm_events.specs.Spans.{span_end}
use Rattle.mdgfm_events.proofs.Sizes.{end-last}
use Rattle.mdgfm_footnotes.specs.CallEvents.{inside_call, is_bare, with_calls, with_insides}
use Rattle.mdgfm_footnotes.specs.Calls.{calls_of}
use Rattle.mdgfm_footnotes.proofs.Insides.{IsBare, IsKept, bare-by, caret_of, exit-bare, inside-kept, insides-other, label_of}
use Rattle.mdgfm_footnotes.proofs.Places.{IsAt, IsNamed, calls-at, calls-named, calls-up-to}
use Rattle.mdgfm_literals.specs.declared.texts.Literal.{Literal}
use Rattle.mdgfm_literals.specs.LiteralEvents.{events_with}
use Rattle.mdgfm_documents.proofs.Ended.{AreEnded, IsNext, leaf-ended, other-ended}
use Rattle.mdgfm_documents.proofs.LiteralsAhead.{IsOther, is_other, literals-ended, literals-inside}
use Rattle.mdgfm_documents.proofs.TasksAhead.{AreInside, IsInside, at-inside, leaf-inside}

-- ---- places

module _ (tab most : ℕ) (bytes : List ℕ) where
  abbrev AnyName : Name → Type 0
  AnyName n = Unit {0}

  abbrev AtInside : Point → Point → Type 0
  AtInside p q = IsInside tab most q

  abbrev AllInside : Point → List Event → Type 0
  AllInside p es = AreInside tab most es

  inside-by : IsKept AnyName AtInside AllInside
  inside-by = record { itself = λ p q h. h; leafs = λ n b p q es one h k more. leaf-inside tab most n p q es h k more; one = λ k n b p es one h more. (h, more) }

  inside-in : (p q : Point) (es : List Event) → p.index + 4 ≤ q.index → IsInside tab most p → IsInside tab most q → AreInside tab most es → AreInside tab most (inside_call tab bytes p q ++ es)
  inside-in p q es long h k more =
      let low = k.0 in
      let caret = at-inside tab most bytes p (p.index + 1) h (omega (arith, long, low)) in
      let label = at-inside tab most bytes (caret_of tab bytes p q) (p.index + 2) caret (omega (arith, long, low)) in
      let end = at-inside tab most bytes (label_of tab bytes p q) (q.index - 1) label (omega (arith, low)) in
      inside-kept tab bytes p q AnyName AtInside AllInside inside-by (tt, (tt, (tt, (tt, (tt, (tt, (tt, tt))))))) p es h caret label end k more

  -- a call with nothing in it, by the events behind its enter
  record Ends (l : Literal) (e : Event) (es : List Event) : Type 0 where
    start : e.point.index ≡ l.from
    end : (span_end e.point 0 es).index ≡ l.to
    within : AreInside tab most es → IsInside tab most (span_end e.point 0 es)

  bare-ends : (l : Literal) (e f : Event) (fs es : List Event) → es ≡ f ∷ fs → IsBare l e f → Ends l e es
  bare-ends l e f fs es are bare =
      let last : span_end e.point 0 es ≡ f.point = ap (span_end e.point 0) are ∙ end-last e.point f fs bare.exits in
      record {
        start = bare.start;
        end = ap (λ (p : Point). p.index) last ∙ bare.end;
        within = λ h. let all : AreInside tab most (f ∷ fs) = subst (AreInside tab most) are h in subst (IsInside tab most) (sym last) all.0;
      }

  insides-in : (calls : List Literal) (es : List Event) → AllByRecursion (IsAt bytes) calls → AreInside tab most es → AreInside tab most (with_insides tab bytes calls es)
  insides-in calls [] at h = tt
  insides-in calls (e ∷ es) at h = by (is_bare calls e es) refl (insides-in calls es at h.1) (λ cs a. insides-in cs es a h.1)
    where
      q : Point
      q = span_end e.point 0 es

      rest : List Event
      rest = with_insides tab bytes (drop 1 calls) es

      on : ((cs : List Literal) → AllByRecursion (IsAt bytes) cs → AreInside tab most (with_insides tab bytes cs es)) → (l : Literal) (ls : List Literal) (f : Event) (fs : List Event)
          → calls ≡ l ∷ ls → es ≡ f ∷ fs → IsBare l e f → AreInside tab most (inside_call tab bytes e.point q ++ rest)
      on inner l ls f fs is are bare =
          let each : AllByRecursion (IsAt bytes) (l ∷ ls) = subst (AllByRecursion (IsAt bytes)) is at in
          let left : AllByRecursion (IsAt bytes) (drop 1 calls) = subst (λ (cs : List Literal). AllByRecursion (IsAt bytes) (drop 1 cs)) (sym is) each.1 in
          let ends = bare-ends l e f fs es are bare in
          let start = ends.start in
          let end = ends.end in
          let long = each.0.long in
          inside-in e.point q rest (omega (arith, start, end, long)) h.0 (ends.within h.1) (inner (drop 1 calls) left)

      by : (t : Bool) → is_bare calls e es ≡ t → AreInside tab most (with_insides tab bytes calls es)
          → ((cs : List Literal) → AllByRecursion (IsAt bytes) cs → AreInside tab most (with_insides tab bytes cs es))
          → AreInside tab most (cond t (e ∷ (inside_call tab bytes e.point q ++ rest)) (e ∷ with_insides tab bytes calls es))
      by true bare other inner = (h.0, bare-by (AreInside tab most (inside_call tab bytes e.point q ++ rest)) calls e es bare (on inner))
      by false bare other inner = (h.0, other)

  pub calls-inside : (defined : (label : List ℕ) → Bool) (es : List Event) → AllByRecursion (λ (e : Event). e.point.index ≤ most) es → AreInside tab most es
      → AreInside tab most (with_calls defined tab bytes es)
  calls-inside defined es at h =
      let start = point 1 1 0 0 in
      let calls = calls_of defined bytes 0 0 es in
      insides-in calls (events_with tab bytes 0 0 start calls es) (calls-at defined bytes es)
      (literals-inside tab most bytes 0 0 start calls es (omega arith, omega arith) (calls-up-to defined bytes most 0 0 es at) h)

-- ---- line endings

module _ (tab : ℕ) (bytes : List ℕ) where
  abbrev IsOne : Name → Type 0
  IsOne n = same_name n LineEnding ≡ false

  abbrev Anywhere : Point → Point → Type 0
  Anywhere p q = Unit {0}

  abbrev AllEnded : Point → List Event → Type 0
  AllEnded p es = AreEnded es

  ended-by : IsKept IsOne Anywhere AllEnded
  ended-by = record {
    itself = λ p q h. tt;
    leafs = λ n b p q es other h k more. leaf-ended n p q es other more;
    one = λ k n b p es other h more. (other-ended (event k n p) es other, more);
  }

  next-kept : (calls : List Literal) (e : Event) (es : List Event) → IsNext e es → IsNext e (with_insides tab bytes calls es)
  next-kept calls e [] h = h
  next-kept calls e (f ∷ fs) h = subst (IsNext e) (sym (insides-other tab bytes calls f fs (exit-bare calls f fs h.0))) h

  insides-ended : (calls : List Literal) (es : List Event) → AreEnded es → AreEnded (with_insides tab bytes calls es)
  insides-ended calls [] h = tt
  insides-ended calls (e ∷ es) h = by (is_bare calls e es) refl (insides-ended calls es h.1) (insides-ended (drop 1 calls) es h.1)
    where
      q : Point
      q = span_end e.point 0 es

      rest : List Event
      rest = with_insides tab bytes (drop 1 calls) es

      other-name : is_bare calls e es ≡ true → same_name e.name LineEnding ≡ false
      other-name bare = bare-by (same_name e.name LineEnding ≡ false) calls e es bare (λ l ls f fs is are b. ap (λ n. same_name n LineEnding) b.name)

      by : (t : Bool) → is_bare calls e es ≡ t → AreEnded (with_insides tab bytes calls es) → AreEnded rest
          → AreEnded (cond t (e ∷ (inside_call tab bytes e.point q ++ rest)) (e ∷ with_insides tab bytes calls es))
      by true bare other inner = (
        other-ended e (inside_call tab bytes e.point q ++ rest) (other-name bare),
        inside-kept tab bytes e.point q IsOne Anywhere AllEnded ended-by (refl, (refl, (refl, (refl, (refl, (refl, (refl, tt))))))) e.point rest tt tt tt tt tt inner,
      )
      by false bare other inner = ((λ enter. next-kept calls e es (h.0 enter)), other)

  pub calls-ended : (defined : (label : List ℕ) → Bool) (es : List Event) → AreEnded es → AreEnded (with_calls defined tab bytes es)
  calls-ended defined es h =
      let start = point 1 1 0 0 in
      let calls = calls_of defined bytes 0 0 es in
      let others = every-map IsNamed IsOther (λ l is. ap is_other is) calls (calls-named defined bytes es) in
      insides-ended calls (events_with tab bytes 0 0 start calls es) (literals-ended tab bytes 0 0 start calls es others h)
