-- Events stay in order of place with checks: they go forward, and none is between a CR and its LF.
use Rattle.std.proofs.Common.{◌≡◌, ◌∙◌, ℕ, zero, suc, ◌+◌, ◌-◌, ◌<◌, ◌≤◌, ◌++◌, false, List, [], ◌∷◌, drop, length, Option, Some, None, refl, sym, ap, subst, arith}
use Rattle.std.proofs.lemmas.List.Elements.{All-from_recursion, recursion_from_All}
use Rattle.std.specs.List.{AllByRecursion}
use Rattle.std.specs.Prelude.{◌==◌, slice_index, IfSome}
use Rattle.markdown_base.specs.declared.event.Event.{Event}
use Rattle.markdown_base.specs.declared.event.Point.{Point}
use Rattle.markdown_base.specs.Events.{IsInOrder}
use Rattle.markdown_base.specs.Places.{IsShown, stands_before}
use Rattle.markdown_base.specs.Virtual.{point}
use Rattle.markdown_base.proofs.Common.{every-append}
use Rattle.markdown_base.proofs.Seats.{stands-self}
use Rattle.mdgfm_events.specs.Places.{leaf}
use Rattle.mdgfm_literals.proofs.Order.{Goes, at-flat, at-on, flat-index, goes-pairs, leaf-goes, pairs-go-all}
use Rattle.mdgfm_literals.proofs.OrderLaw.{Shows, leaf-shows, shown-from}
use Rattle.mdgfm_tasks.proofs.Covers.{Covers, found-covers}
use Rattle.mdgfm_tasks.proofs.Steps.{IsKeptByLeafs, check-kept, check-places, with-found}
use Rattle.mdgfm_tasks.specs.declared.awaited.Awaited.{Awaited}
use Rattle.mdgfm_tasks.specs.declared.awaited.Awaited.TheVariants.{Nothing}
use Rattle.mdgfm_tasks.specs.declared.checks.Found.{Found}
use Rattle.mdgfm_tasks.specs.Awaits.{awaited_behind}
use Rattle.mdgfm_tasks.specs.Checks.{check_of, line_from}
use Rattle.mdgfm_tasks.specs.TaskEvents.{check_events, events_with, further}
use Rattle.mdgfm_documents.proofs.CheckEnds.{Stands, found-stands, in-line}

-- ---- events go forward

module _ (tab : ℕ) (bytes : List ℕ) where
  further-on : (p : Point) (n : ℕ) → stands_before (further tab bytes p n) p ≡ false
  further-on p n = at-on tab bytes p (p.index + n)

  abbrev IsUpTo : Point → Point → Type 0
  IsUpTo p q = stands_before q p ≡ false

  goes-by-leafs : IsKeptByLeafs IsUpTo Goes
  goes-by-leafs = record { itself = λ p q h. stands-self q; leafs = λ n b p q es other h k more. leaf-goes n b p q es h k more; one = λ k b p es h more. (h, more) }

  check-goes : (b p : Point) (f : Found) (es : List Event) → stands_before p b ≡ false → f.check.columns + 3 ≤ f.text.end.index - p.index → Goes f.text.end es → Goes b (check_events tab bytes p f ++ es)
  check-goes b p f es h far more =
      let start = further tab bytes p f.check.columns in
      let value = further tab bytes start 1 in
      let closing = further tab bytes value 1 in
      let end = further tab bytes closing 1 in
      let there = (check-places tab bytes p f.check.columns).end in
      let flat : end.vs ≡ 0 = at-flat tab bytes closing (closing.index + 1) (omega arith) in
      let last : stands_before f.text.end end ≡ false = flat-index end f.text.end flat (omega (arith, there, far)) in
      check-kept IsUpTo Goes goes-by-leafs tab bytes b p f es h (further-on p f.check.columns) (further-on start 1) (further-on value 1) (further-on closing 1) last more

  pub tasks-go : (p : Point) (skip : ℕ) (a : Awaited) (es : List Event) → Goes p (drop skip es) → Goes p (events_with tab bytes skip a es)
  tasks-go p skip a [] g = tt
  tasks-go p (suc skip) a (e ∷ es) g = tasks-go p skip a es g
  tasks-go p zero a (e ∷ es) g = by (λ q skip b. tasks-go q skip b es) (check_of bytes a (e ∷ es)) refl (found-covers bytes a e es) (found-stands (IsShown bytes) bytes a e es)
    where
      by : ((q : Point) (skip : ℕ) (b : Awaited) → Goes q (drop skip es) → Goes q (events_with tab bytes skip b es)) → (o : Option Found) → check_of bytes a (e ∷ es) ≡ o
          → IfSome o (λ f. Covers e.point.index (f.check.columns + 3) (e ∷ es) f.text) → IfSome o (Stands (IsShown bytes) bytes e es) → Goes p (events_with tab bytes 0 a (e ∷ es))
      by inner None q c s = subst (Goes p) (sym (with-found tab bytes a e es None q)) (g.0, inner e.point 0 (awaited_behind a e) g.1)
      by inner (Some f) q c s =
          let one : f.text.size ≡ suc (f.text.size - 1) = omega (arith, c.least) in
          let more = subst (λ n. Goes f.text.end (drop n (e ∷ es))) one (s.ends.behind p g) in
          subst (Goes p) (sym (with-found tab bytes a e es (Some f) q))
          (check-goes p e.point f (events_with tab bytes (f.text.size - 1) Nothing es) g.0 c.far (inner f.text.end (f.text.size - 1) Nothing more))

  -- ---- none is between a CR and its LF

  abbrev AtShown : Point → Point → Type 0
  AtShown p q = IsShown bytes q

  abbrev AreShown : Point → List Event → Type 0
  AreShown p es = AllByRecursion (Shows bytes) es

  shows-by-leafs : IsKeptByLeafs AtShown AreShown
  shows-by-leafs = record { itself = λ p q h. h; leafs = λ n b p q es other h k more. every-append (Shows bytes) (leaf n p q) es (leaf-shows bytes n p q h k) more; one = λ k b p es h more. (h, more) }

  check-shows : (p : Point) (f : Found) (es : List Event) → IsShown bytes p → f.check.columns + 3 < length (line_from bytes p.index) → IsShown bytes f.text.end → AllByRecursion (Shows bytes) es
      → AllByRecursion (Shows bytes) (check_events tab bytes p f ++ es)
  check-shows p f es shown fits last more =
      let there = check-places tab bytes p f.check.columns in
      let start = further tab bytes p f.check.columns in
      let value = further tab bytes start 1 in
      let closing = further tab bytes value 1 in
      let end = further tab bytes closing 1 in
      let i = there.start in
      let j = there.value in
      let k = there.closing in
      let l = there.end in
      check-kept AtShown AreShown shows-by-leafs tab bytes p p f es shown (at start f.check.columns i (omega (arith, fits))) (at value (f.check.columns + 1) (omega (arith, j)) (omega (arith, fits)))
      (at closing (f.check.columns + 2) (omega (arith, k)) (omega (arith, fits))) (at end (f.check.columns + 3) (omega (arith, l)) fits) last more
    where
      at : (q : Point) (n : ℕ) → q.index ≡ p.index + n → n < length (line_from bytes p.index) → IsShown bytes q
      at q n is inside = shown-from bytes q (ap (λ m. slice_index bytes m == 10) is ∙ in-line bytes p.index n inside)

  with-shows : (skip : ℕ) (a : Awaited) (es : List Event) → AllByRecursion (Shows bytes) es → AllByRecursion (Shows bytes) (events_with tab bytes skip a es)
  with-shows skip a [] h = tt
  with-shows (suc skip) a (e ∷ es) h = with-shows skip a es h.1
  with-shows zero a (e ∷ es) h = by (λ skip b. with-shows skip b es h.1) (check_of bytes a (e ∷ es)) refl (found-stands (IsShown bytes) bytes a e es)
    where
      by : ((skip : ℕ) (b : Awaited) → AllByRecursion (Shows bytes) (events_with tab bytes skip b es)) → (o : Option Found) → check_of bytes a (e ∷ es) ≡ o → IfSome o (Stands (IsShown bytes) bytes e es)
          → AllByRecursion (Shows bytes) (events_with tab bytes 0 a (e ∷ es))
      by inner None q s = subst (AllByRecursion (Shows bytes)) (sym (with-found tab bytes a e es None q)) (h.0, inner 0 (awaited_behind a e))
      by inner (Some f) q s =
          subst (AllByRecursion (Shows bytes)) (sym (with-found tab bytes a e es (Some f) q))
          (check-shows e.point f (events_with tab bytes (f.text.size - 1) Nothing es) h.0 s.fits (s.ends.placed h) (inner (f.text.size - 1) Nothing))

pub check-order-kept : (tab : ℕ) (bytes : List ℕ) (events : List Event) → IsInOrder bytes events → IsInOrder bytes (events_with tab bytes 0 Nothing events)
check-order-kept tab bytes events order =
    let start = point 1 1 0 0 in
    let all = events_with tab bytes 0 Nothing events in (
      goes-pairs start all (tasks-go tab bytes start 0 Nothing events (pairs-go-all start events refl refl order.0)),
      All-from_recursion (Shows bytes) all (with-shows tab bytes 0 Nothing events (recursion_from_All (Shows bytes) events order.1)),
    )
