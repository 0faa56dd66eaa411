-- Events that go ahead still do with checks.
use Rattle.std.proofs.Common.{◌≡◌, ℕ, zero, suc, ◌+◌, ◌-◌, ◌≤◌, ◌++◌, Bool, true, false, cond, List, [], ◌∷◌, Option, Some, None, refl, ap, sym, subst, ◌∙◌, arith}
use Rattle.std.specs.List.{AllByRecursion}
use Rattle.std.specs.Prelude.{◌&&◌, nat_le, nat_lt, IfSome, option_map}
use Rattle.markdown_base.specs.declared.event.Event.{Event}
use Rattle.markdown_base.specs.declared.event.Kind.TheVariants.{Enter, Exit}
use Rattle.markdown_base.specs.declared.event.Name.{Name}
use Rattle.markdown_base.specs.declared.event.Name.TheVariants.{Data, GfmTaskListItemCheck, Link}
use Rattle.markdown_base.specs.declared.event.Point.{Point}
use Rattle.markdown_base.specs.Events.{is_enter, same_name}
use Rattle.mdblock_tables.specs.declared.tasks.Check.{Check}
use Rattle.mdblock_tables.specs.Tasks.{check_at}
use Rattle.mdgfm_literals.proofs.Order.{beyond}
use Rattle.mdgfm_events.specs.Places.{event, leaf, place_at}
use Rattle.mdgfm_tasks.specs.declared.awaited.Awaited.{Awaited}
use Rattle.mdgfm_tasks.specs.declared.awaited.Awaited.TheVariants.{Nothing, Block, DefinitionEnd, Text}
use Rattle.mdgfm_tasks.specs.declared.checks.Covered.{Covered}
use Rattle.mdgfm_tasks.specs.declared.checks.Found.{Found}
use Rattle.mdgfm_tasks.specs.Awaits.{awaited_behind, exits}
use Rattle.mdgfm_tasks.specs.Checks.{check_of, data_over, found, line_from, linked, text_over, two_more}
use Rattle.mdgfm_tasks.specs.TaskEvents.{check_events, events_with, further}
use Rattle.mdgfm_tasks.proofs.Covers.{Covers, found-covers}
use Rattle.mdgfm_tasks.proofs.Steps.{IsKeptByLeafs, check-kept, check-places, with-found}
use Rattle.mdgfm_documents.proofs.CheckEnds.{Stands, found-stands}
use Rattle.mdgfm_documents.proofs.Ended.{AreEnded, IsNext, leaf-ended, other-ended}

-- ---- places

abbrev pub IsInside : (tab most : ℕ) → Point → Type 0
IsInside tab most p = (p.index ≤ most) × (p.vs ≤ tab)

abbrev pub AreInside : (tab most : ℕ) → List Event → Type 0
AreInside tab most es = AllByRecursion (λ e. IsInside tab most e.point) es

pub either-inside : (tab most : ℕ) (t : Bool) (xs ys : List Event) → AreInside tab most xs → AreInside tab most ys → AreInside tab most (cond t xs ys)
either-inside tab most true xs ys h k = h
either-inside tab most false xs ys h k = k

pub leaf-inside : (tab most : ℕ) (n : Name) (p q : Point) (es : List Event) → IsInside tab most p → IsInside tab most q → AreInside tab most es → AreInside tab most (leaf n p q ++ es)
leaf-inside tab most n p q es h k more = by (nat_lt p.index q.index)
  where
    by : (t : Bool) → AreInside tab most (cond t (event Enter n p ∷ event Exit n q ∷ []) [] ++ es)
    by true = (h, (k, more))
    by false = more

module _ (tab most : ℕ) (bytes : List ℕ) where
  -- a place further on in a line
  pub at-inside : (p : Point) (i : ℕ) → IsInside tab most p → i ≤ most → IsInside tab most (place_at tab bytes p i)
  at-inside p i h less = by (nat_le i p.index)
    where
      by : (t : Bool) → IsInside tab most (cond t p (beyond tab bytes p i))
      by true = h
      by false = (less, omega arith)

-- ---- at an exit no check is found

none-over : (at many : ℕ) (f : Event) (fs : List Event) → is_enter f.kind ≡ false → text_over at many (f ∷ fs) ≡ None
none-over at many f [] h = ap (λ b. cond (b && same_name f.name Link) (linked at many f []) None) h
none-over at many f (g ∷ fs) h =
    ap (λ b. cond (b && same_name f.name Link) (linked at many f (g ∷ fs)) (data_over at many (f ∷ g ∷ fs))) h
    ∙ ap (λ b. cond ((b && same_name f.name Data) && exits Data g) (cond (nat_le many (g.point.index - at)) (Some (let v : Covered = record { size = 2; end = g.point } in v)) (option_map two_more (data_over at many fs))) None) h

none-found : (bytes : List ℕ) (a : Awaited) (f : Event) (fs : List Event) → is_enter f.kind ≡ false → check_of bytes a (f ∷ fs) ≡ None
none-found bytes Nothing f fs h = refl
none-found bytes Block f fs h = refl
none-found bytes DefinitionEnd f fs h = refl
none-found bytes Text f fs h = by (check_at (line_from bytes f.point.index))
  where
    by : (o : Option Check) → elim o as (λ (_ : Option Check). Option Found) [ None ↦ None | Some check ↦ found check (text_over f.point.index (check.columns + 3) (f ∷ fs)) ] ≡ None
    by None = refl
    by (Some check) = ap (found check) (none-over f.point.index (check.columns + 3) f fs h)

-- ---- checks

module _ (tab : ℕ) (bytes : List ℕ) where
  -- places within the document
  abbrev AtInside : ℕ → Point → Point → Type 0
  AtInside most p q = IsInside tab most q

  abbrev AllInside : ℕ → Point → List Event → Type 0
  AllInside most p es = AreInside tab most es

  inside-by-leafs : (most : ℕ) → IsKeptByLeafs (AtInside most) (AllInside most)
  inside-by-leafs most = record { itself = λ p q h. h; leafs = λ n b p q es other h k more. leaf-inside tab most n p q es h k more; one = λ k b p es h more. (h, more) }

  check-inside : (most : ℕ) (p : Point) (f : Found) (es : List Event) → IsInside tab most p → IsInside tab most f.text.end → f.check.columns + 3 ≤ f.text.end.index - p.index → AreInside tab most es
      → AreInside tab most (check_events tab bytes p f ++ es)
  check-inside most p f es h last far more =
      let start = further tab bytes p f.check.columns in
      let value = further tab bytes start 1 in
      let closing = further tab bytes value 1 in
      let there = check-places tab bytes p f.check.columns in
      let i = there.start in
      let j = there.value in
      let k = there.closing in
      let low = last.0 in
      let in1 : IsInside tab most start = at-inside tab most bytes p (p.index + f.check.columns) h (omega (arith, far, low)) in
      let in2 : IsInside tab most value = at-inside tab most bytes start (start.index + 1) in1 (omega (arith, i, far, low)) in
      let in3 : IsInside tab most closing = at-inside tab most bytes value (value.index + 1) in2 (omega (arith, j, far, low)) in
      check-kept (AtInside most) (AllInside most) (inside-by-leafs most) tab bytes p p f es h in1 in2 in3 (at-inside tab most bytes closing (closing.index + 1) in3 (omega (arith, k, far, low))) last more

  -- line endings
  abbrev Anywhere : Point → Point → Type 0
  Anywhere p q = Unit {0}

  abbrev AllEnded : Point → List Event → Type 0
  AllEnded p es = AreEnded es

  ended-by-leafs : IsKeptByLeafs Anywhere AllEnded
  ended-by-leafs = record {
    itself = λ p q h. tt;
    leafs = λ n b p q es other h k more. leaf-ended n p q es other more;
    one = λ k b p es h more. (other-ended (event k GfmTaskListItemCheck p) es refl, more);
  }

  check-ended : (p : Point) (f : Found) (es : List Event) → AreEnded es → AreEnded (check_events tab bytes p f ++ es)
  check-ended p f es more = check-kept Anywhere AllEnded ended-by-leafs tab bytes p p f es tt tt tt tt tt tt more

  -- ---- events with checks

  pub tasks-inside : (most skip : ℕ) (a : Awaited) (es : List Event) → AreInside tab most es → AreInside tab most (events_with tab bytes skip a es)
  tasks-inside most skip a [] h = tt
  tasks-inside most (suc skip) a (e ∷ es) h = tasks-inside most skip a es h.1
  tasks-inside most zero a (e ∷ es) h = by (λ skip x. tasks-inside most skip x es h.1) (check_of bytes a (e ∷ es)) refl (found-covers bytes a e es) (found-stands (IsInside tab most) bytes a e es)
    where
      by : ((skip : ℕ) (x : Awaited) → AreInside tab most (events_with tab bytes skip x es)) → (o : Option Found) → check_of bytes a (e ∷ es) ≡ o
          → IfSome o (λ f. Covers e.point.index (f.check.columns + 3) (e ∷ es) f.text) → IfSome o (Stands (IsInside tab most) bytes e es) → AreInside tab most (events_with tab bytes 0 a (e ∷ es))
      by inner None q k l = subst (AreInside tab most) (sym (with-found tab bytes a e es None q)) (h.0, inner 0 (awaited_behind a e))
      by inner (Some f) q k l =
          subst (AreInside tab most) (sym (with-found tab bytes a e es (Some f) q))
          (check-inside most e.point f (events_with tab bytes (f.text.size - 1) Nothing es) h.0 (l.ends.placed h) k.far (inner (f.text.size - 1) Nothing))

  next-kept : (a : Awaited) (e : Event) (es : List Event) → IsNext e es → IsNext e (events_with tab bytes 0 a es)
  next-kept a e [] h = h
  next-kept a e (f ∷ fs) h = subst (IsNext e) (sym (with-found tab bytes a f fs None (none-found bytes a f fs h.0))) h

  pub tasks-ended : (skip : ℕ) (a : Awaited) (es : List Event) → AreEnded es → AreEnded (events_with tab bytes skip a es)
  tasks-ended skip a [] h = tt
  tasks-ended (suc skip) a (e ∷ es) h = tasks-ended skip a es h.1
  tasks-ended zero a (e ∷ es) h = by (λ skip x. tasks-ended skip x es h.1) (check_of bytes a (e ∷ es)) refl
    where
      by : ((skip : ℕ) (x : Awaited) → AreEnded (events_with tab bytes skip x es)) → (o : Option Found) → check_of bytes a (e ∷ es) ≡ o → AreEnded (events_with tab bytes 0 a (e ∷ es))
      by inner None q = subst AreEnded (sym (with-found tab bytes a e es None q)) ((λ enter. next-kept (awaited_behind a e) e es (h.0 enter)), inner 0 (awaited_behind a e))
      by inner (Some f) q =
          subst AreEnded (sym (with-found tab bytes a e es (Some f) q)) (check-ended e.point f (events_with tab bytes (f.text.size - 1) Nothing es) (inner (f.text.size - 1) Nothing))
