-- Events that go forward still do with checks.
use Rattle.std.proofs.Common.{◌≡◌, ℕ, zero, suc, ◌+◌, ◌-◌, ◌≤◌, ◌++◌, Bool, true, false, cond, List, [], ◌∷◌, drop, Option, Some, None, refl, sym, subst, arith}
use Rattle.std.proofs.Math.Nat.{le_refl}
use Rattle.std.specs.Prelude.{nat_lt, IfSome}
use Rattle.markdown_base.specs.declared.event.Event.{Event}
use Rattle.markdown_base.specs.declared.event.Kind.TheVariants.{Enter, Exit}
use Rattle.markdown_base.specs.declared.event.Name.{Name}
use Rattle.markdown_base.specs.declared.event.Point.{Point}
use Rattle.markdown_base.specs.Virtual.{point}
use Rattle.mdgfm_events.specs.Places.{event, leaf}
use Rattle.mdgfm_tasks.specs.declared.awaited.Awaited.{Awaited}
use Rattle.mdgfm_tasks.specs.declared.awaited.Awaited.TheVariants.{Nothing}
use Rattle.mdgfm_tasks.specs.declared.checks.Found.{Found}
use Rattle.mdgfm_tasks.specs.Awaits.{awaited_behind}
use Rattle.mdgfm_tasks.specs.Checks.{check_of}
use Rattle.mdgfm_tasks.specs.Laws.{ForwardIsKept, GoForward}
use Rattle.mdgfm_tasks.specs.TaskEvents.{check_events, events_with}
use Rattle.mdgfm_tasks.proofs.Covers.{Covers, found-covers}
use Rattle.mdgfm_tasks.proofs.Steps.{IsKeptByLeafs, check-kept, check-places, with-found}

weaker : (n m : ℕ) (es : List Event) → n ≤ m → GoForward m es → GoForward n es
weaker n m [] h k = tt
weaker n m (e ∷ es) h k = (omega (arith, h, k.0), k.1)

-- a span with nothing in it, and what is behind it
leaf-forward : (from : ℕ) (n : Name) (p q : Point) (es : List Event) → from ≤ p.index → p.index ≤ q.index → GoForward q.index es → GoForward from (leaf n p q ++ es)
leaf-forward from n p q es h k more = by (nat_lt p.index q.index)
  where
    by : (b : Bool) → GoForward from (cond b (event Enter n p ∷ event Exit n q ∷ []) [] ++ es)
    by true = (h, (k, more))
    by false = weaker from q.index es (omega (arith, h, k)) more

-- it goes forward from a place on
abbrev IsFrom : Point → Point → Type 0
IsFrom p q = p.index ≤ q.index

abbrev GoesFrom : Point → List Event → Type 0
GoesFrom p es = GoForward p.index es

forward-by-leafs : IsKeptByLeafs IsFrom GoesFrom
forward-by-leafs = record { itself = λ p q h. le_refl q.index; leafs = λ n b p q es other h k more. leaf-forward b.index n p q es h k more; one = λ k b p es h more. (h, more) }

module _ (tab : ℕ) (bytes : List ℕ) where
  check-forward : (from : ℕ) (p : Point) (f : Found) (es : List Event) → from ≤ p.index → f.check.columns + 3 ≤ f.text.end.index - p.index → GoForward f.text.end.index es
      → GoForward from (check_events tab bytes p f ++ es)
  check-forward from p f es h far more =
      let at = check-places tab bytes p f.check.columns in
      let a = at.start in
      let b = at.value in
      let c = at.closing in
      let d = at.end in
      check-kept IsFrom GoesFrom forward-by-leafs tab bytes (point 1 1 from 0) p f es h (omega (arith, a)) (omega (arith, a, b)) (omega (arith, b, c)) (omega (arith, c, d)) (omega (arith, d, far)) more

  with-forward : (from skip : ℕ) (a : Awaited) (es : List Event) → GoForward from (drop skip es) → GoForward from (events_with tab bytes skip a es)
  with-forward from skip a [] h = tt
  with-forward from (suc skip) a (e ∷ es) h = with-forward from skip a es h
  with-forward from zero a (e ∷ es) h = by (λ m skip b. with-forward m skip b es) (check_of bytes a (e ∷ es)) refl (found-covers bytes a e es)
    where
      by : ((m skip : ℕ) (b : Awaited) → GoForward m (drop skip es) → GoForward m (events_with tab bytes skip b es)) → (o : Option Found) → check_of bytes a (e ∷ es) ≡ o
          → IfSome o (λ f. Covers e.point.index (f.check.columns + 3) (e ∷ es) f.text) → GoForward from (events_with tab bytes 0 a (e ∷ es))
      by inner None q k = subst (GoForward from) (sym (with-found tab bytes a e es None q)) (h.0, inner e.point.index 0 (awaited_behind a e) h.1)
      by inner (Some f) q k =
          let one : f.text.size ≡ suc (f.text.size - 1) = omega (arith, k.least) in
          let more = subst (λ n. GoForward f.text.end.index (drop n (e ∷ es))) one (k.forward from h) in
          subst (GoForward from) (sym (with-found tab bytes a e es (Some f) q))
          (check-forward from e.point f (events_with tab bytes (f.text.size - 1) Nothing es) h.0 k.far (inner f.text.end.index (f.text.size - 1) Nothing more))

pub forward-kept : ForwardIsKept
forward-kept options bytes from events h = by options.constructs.gfm_task_list_item
  where
    by : (t : Bool) → GoForward from (cond t (events_with options.tab_size bytes 0 Nothing events) events)
    by true = with-forward options.tab_size bytes from 0 Nothing events h
    by false = h
