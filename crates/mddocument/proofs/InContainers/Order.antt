-- With children a list stays in order, and its events where they may stand, if what each child is divided into stands in its chunks.
use Rattle.mddocument.proofs.Prelude.{◌≡◌, ℕ, suc, ◌+◌, ◌≤◌, false, List, [], ◌∷◌, ◌++◌, Option, length, drop, sym, ap, ◌∙◌, subst, arith, AllByRecursion, between, slice_get, Content, Event, Point, stands_before, stands-self, Change, Tagged, woven, child_changes, part_changes, with_children, divided_over, fitting_starts, woven-pass, after_changes, part_after, untagged, untagged-olds, IsReady, place_at, place-at-event, every-all}
use Rattle.std.proofs.Common.{zero-add}
use Rattle.std.specs.Prelude.{AllPairs}
use Rattle.markdown_base.proofs.Common.{drop-at}
use Rattle.markdown_base.proofs.Orders.{InOrder, order-pairs, upto-upto}
use Rattle.markdown_children.proofs.ChainOrder.Following.{Fits, chunk, fits_next}
use Rattle.markdown_children.proofs.ChainOrder.Spaced.{changes_are_apart}
use Rattle.markdown_children.proofs.Parts.Kept.{split-at, with_children_holds}
use Rattle.markdown_children.specs.LawStatements.{AreSpaced, LeadOnFrom}
use Rattle.markdown_children.specs.Parts.{Divided}
use Rattle.markdown_edits.specs.Woven.{placed_in}

-- a place is not before another
abbrev pub Upto : (p q : Point) → Type 0
Upto p q = stands_before q p ≡ false

module _ (At : Point → Type 0) where
  -- events from a place on, in order, each where it may stand
  abbrev pub Steady : Point → List Event → Type 0
  Steady p [] = Unit {0}
  Steady p (e ∷ es) = Upto p e.point × At e.point × Steady e.point es

  -- and up to a place
  abbrev pub Between : Point → List Event → Point → Type 0
  Between p [] q = Upto p q
  Between p (e ∷ es) q = Upto p e.point × At e.point × Between e.point es q

  pub steady-later : (o p : Point) (es : List Event) → Upto o p → Steady p es → Steady o es
  steady-later o p [] h k = tt
  steady-later o p (e ∷ es) h k = (upto-upto o p e.point h k.0, k.1, k.2)

  pub steady-both : (p : Point) (xs : List Event) (m : Point) (ys : List Event) → Between p xs m → Steady m ys → Steady p (xs ++ ys)
  steady-both p [] m ys h k = steady-later p m ys h k
  steady-both p (x ∷ xs) m ys h k = (h.0, h.1, steady-both x.point xs m ys h.2 k)

  pub steady-split : (p : Point) (xs : List Event) (e : Event) (ys : List Event) → Steady p (xs ++ e ∷ ys) → Between p xs e.point × Steady e.point ys
  steady-split p [] e ys h = (h.0, h.2)
  steady-split p (x ∷ xs) e ys h = let more = steady-split x.point xs e ys h.2 in ((h.0, h.1, more.0), more.1)

  pub steady-pairs : (e : Event) (es : List Event) → AllPairs (λ (e f : Event). Upto e.point f.point) (e ∷ es) → AllByRecursion (λ (e : Event). At e.point) es → Steady e.point es
  steady-pairs e [] h k = tt
  steady-pairs e (f ∷ es) h k =
      (h 0 1 e (omega arith) (omega arith), k.0, steady-pairs f es (λ i j d less within. h (suc i) (suc j) d (omega (arith, less)) (omega (arith, within))) k.1)

  -- and the other way round
  steady-end : (p : Point) (es : List Event) → Steady p es → (q : Point) × InOrder p es q
  steady-end p [] h = (p, stands-self p)
  steady-end p (e ∷ es) h = let more = steady-end e.point es h.2 in (more.0, (h.0, more.1))

  pub pairs-steady : (p : Point) (es : List Event) → Steady p es → AllPairs (λ (e f : Event). Upto e.point f.point) es
  pairs-steady p es h = let end = steady-end p es h in order-pairs p es end.0 end.1

  pub all-steady : (p : Point) (es : List Event) → Steady p es → AllByRecursion (λ (e : Event). At e.point) es
  all-steady p [] h = tt
  all-steady p (e ∷ es) h = (h.1, all-steady e.point es h.2)

  -- link ends do not matter
  steady-placed : (p : Point) (ts us : List Tagged) → Steady p (untagged us) → Steady p (placed_in ts us)
  steady-placed p ts [] h = tt
  steady-placed p ts (u ∷ us) h = (h.0, h.1, steady-placed u.event.point ts us h.2)

  -- ---- a list that is ready
  module _ (tab : ℕ) (bytes : List ℕ) (wanted : Option Content) (events : List Event) (ready : IsReady tab bytes wanted events) where
    abbrev n : ℕ
    n = length events

    -- the part of each chunk is between its ends
    abbrev pub StandIn : List ℕ → List (List Event) → Type 0
    StandIn [] ps = Unit {0}
    StandIn (k ∷ ks) [] = Unit {0}
    StandIn (k ∷ ks) (p ∷ ps) = Between (place_at events k) p (place_at events (k + 1)) × StandIn ks ps

    -- what is steady from an index on is so after changes
    abbrev Keeps : List Change → ℕ → Type 0
    Keeps ws i = (p : Point) → Steady p (drop i events) → Steady p (after_changes events ws i)

    chunk-there : (k : ℕ) → Fits wanted events k → (e f : Event) × (drop k events ≡ e ∷ f ∷ drop (k + 2) events) × (place_at events k ≡ e.point) × (place_at events (k + 1) ≡ f.point)
    chunk-there k fit =
        let c = chunk tab bytes wanted events ready k fit in
        let one : suc k ≡ k + 1 = omega arith in
        let two : suc (suc k) ≡ k + 2 = omega arith in (
          c.enter,
          c.exit,
          drop-at events k c.enter c.enter_at ∙ ap (λ ys. c.enter ∷ ys) (drop-at events (suc k) c.exit (ap (slice_get events) one ∙ c.exit_at) ∙ ap (λ m. c.exit ∷ drop m events) two),
          place-at-event events k c.enter c.enter_at,
          place-at-event events (k + 1) c.exit c.exit_at,
        )

    chunk-step : (c j i k : ℕ) (ks : List ℕ) (p : List Event) (ps : List (List Event)) (ws : List Change) → Fits wanted events k → i ≤ k → Between (place_at events k) p (place_at events (k + 1))
        → Keeps (part_changes c (j + length p) ks ps ++ ws) (k + 2) → Keeps (part_changes c j (k ∷ ks) (p ∷ ps) ++ ws) i
    chunk-step c j i k ks p ps ws fit l part more o h =
        let one = chunk-there k fit in
        let e = one.0 in
        let f = one.1 in
        let rest = after_changes events (part_changes c (j + length p) ks ps ++ ws) (k + 2) in
        let old : drop i events ≡ between i k events ++ e ∷ f ∷ drop (k + 2) events = split-at events i k l ∙ ap (λ ys. between i k events ++ ys) one.2 in
        let cut = steady-split o (between i k events) e (f ∷ drop (k + 2) events) (subst (Steady o) old h) in
        let behind = subst (λ q. Steady q (drop (k + 2) events)) (sym one.4) cut.1.2 in
        let front = subst (Between o (between i k events)) (sym one.3) cut.0 in
        let end = place_at events (k + 1) in
        subst (Steady o) (sym (part_after events c j i k ks p ps ws l))
        (steady-both o (between i k events) (place_at events k) (p ++ rest) front (steady-both (place_at events k) p end rest part (more end behind)))

    chain-steps : (c j i k : ℕ) (ks more : List ℕ) (ps : List (List Event)) (ws : List Change) → Fits wanted events k → LeadOnFrom events k ks → length (k ∷ ks) ≡ length ps → StandIn (k ∷ ks) ps
        → AreSpaced i (k ∷ (ks ++ more)) n → ((m : ℕ) → AreSpaced m more n → Keeps ws m) → Keeps (part_changes c j (k ∷ ks) ps ++ ws) i
    chain-steps c j i k ks more [] ws fit lead many stand spaced rest = absurd (omega (arith, many))
    chain-steps c j i k [] more (p ∷ ps) ws fit lead many stand spaced rest = chunk-step c j i k [] p ps ws fit spaced.0 stand.0 (rest (k + 2) spaced.1)
    chain-steps c j i k (d ∷ ks) more (p ∷ ps) ws fit lead many stand spaced rest =
        chunk-step c j i k (d ∷ ks) p ps ws fit spaced.0 stand.0
        (chain-steps c (j + length p) (k + 2) d ks more ps ws (fits_next tab bytes wanted events ready k d fit lead.0) lead.2 (omega (arith, many)) stand.1 spaced.1 rest)

    -- the list with children is steady
    pub steady-children : (children : List (List Event)) → AllByRecursion (λ (d : Divided). StandIn d.chunks d.parts) (divided_over events (fitting_starts wanted events) children) → (p : Point) → Steady p events
        → Steady p (with_children wanted events children)
    steady-children children stand p h =
        let ws : List Change = child_changes wanted events children in
        let keeps : Keeps ws 0 =
        with_children_holds tab bytes wanted events ready Keeps (λ es. Unit {0}) StandIn (λ i q k. subst (Steady q) (sym (untagged-olds i (drop i events))) k)
        (λ c i ks more ps vs fit lead many all is spaced rest. chain-steps c 0 i c ks more ps vs fit lead many is spaced rest) children (every-all (λ es. Unit {0}) (λ es. tt) children) stand in
        steady-placed p (woven ws 0 events) (woven ws 0 events)
        (subst (λ (ts : List Tagged). Steady p (untagged ts)) (sym (woven-pass ws 0 events (rw zero-add (changes_are_apart tab bytes wanted events children ready).apart))) (keeps p h))
