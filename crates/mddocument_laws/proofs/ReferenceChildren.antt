-- Where chains of chunks are replaced by what they are read as, each character reference stays whole.
--
-- A child is cut between two events only if the second stands behind the first. In a reference that is so only where a void span is entered, and no
-- chunks tear one: so nothing comes between the two. No chunk of the list is in a reference, as its events are in no chain.
use Rattle.mddocument_laws.proofs.Prelude.{◌≡◌, ℕ, ◌+◌, List, [], ◌∷◌, ◌++◌, Bool, true, false, not, inl, inr, Option, drop, length, refl, sym, ap, ◌∙◌, subst, arith, zero-add, and_parts, false≢true, AllByRecursion, between, take_while, IsSome, slice_get, Content, Event, Exit, CharacterReference, Point, is_enter, relinked, same_name, stands_before, woven-pass, Change, Tagged, placed_end, placed_in, woven, Fits, chunk, fits_next, changes_are_apart, after_changes, between-none, joined, joined-parts, part_after, split-at, untagged, untagged-olds, with_children_holds, fitting_starts, child_changes, part_changes, with_children, AreSpaced, EndsInVoidEnter, IsTornNowhere, LeadOnFrom, NoneTorn, StandSideBySide, Divided, divided_over, front_until, parts, IsReady, drop-two}
use Rattle.markdown_tokenizer.proofs.Readings.Plain.{unlinked-same}
use Rattle.markdown_children.proofs.Parts.Untorn.{fails-next, front-more, front-none}
use Rattle.mddocument_laws.proofs.ReferenceSpans.{AreWhole, Goes, State, Step, behind, goes-both, goes-split, inside, outside}

-- ---- where a child is cut

-- the last of some events stands elsewhere than the first of others
abbrev pub Differ : List Event → List Event → Type 0
Differ [] ys = Unit {0}
Differ (x ∷ []) [] = Unit {0}
Differ (x ∷ []) (y ∷ ys) = x.point ≡ y.point → ⊥
Differ (x ∷ z ∷ xs) ys = Differ (z ∷ xs) ys

-- so it is with parts, and what is behind them
abbrev pub PartsDiffer : List (List Event) → Type 0
PartsDiffer [] = Unit {0}
PartsDiffer (p ∷ ps) = Differ p (joined ps) × PartsDiffer ps

none-differ : (xs : List Event) → Differ xs []
none-differ [] = tt
none-differ (x ∷ []) = tt
none-differ (x ∷ z ∷ xs) = none-differ (z ∷ xs)

module _ (end : Point) where
  -- an event is at or before the end
  abbrev test : Event → Bool
  test e = not (stands_before end e.point)

  next-differs : (x : Event) (es : List Event) → test x ≡ true → take_while test es ≡ [] → Differ (x ∷ []) es
  next-differs x [] t none = tt
  next-differs x (y ∷ ys) t none = λ same.
      let fails : test y ≡ false = fails-next test (y ∷ ys) y (ap (λ (l : List Event). slice_get (drop (length l) (y ∷ ys)) 0) none) in
      false≢true (sym fails ∙ ap (λ p. not (stands_before end p)) (sym same) ∙ t)

  cut-differs : (es : List Event) → Differ (front_until end es) (drop (length (front_until end es)) es)
  cut-differs [] = tt
  cut-differs (x ∷ es) = by (test x) refl (take_while test es) refl (cut-differs es)
    where
      by : (b : Bool) → test x ≡ b → (front : List Event) → take_while test es ≡ front → Differ (take_while test es) (drop (length (take_while test es)) es)
          → Differ (take_while test (x ∷ es)) (drop (length (take_while test (x ∷ es))) (x ∷ es))
      by false t front is more = subst (λ l. Differ l (drop (length l) (x ∷ es))) (sym (front-none test x es t)) tt
      by true t [] is more = subst (λ l. Differ l (drop (length l) (x ∷ es))) (sym (front-more test x es t)) (subst (λ l. Differ (x ∷ l) (drop (length l) es)) (sym is) (next-differs x es t is))
      by true t (z ∷ zs) is more =
          subst (λ l. Differ l (drop (length l) (x ∷ es))) (sym (front-more test x es t))
          (subst (λ l. Differ (x ∷ l) (drop (length l) es)) (sym is) (subst (λ l. Differ l (drop (length l) es)) is more))

parts-differ : (ends : List Point) (es : List Event) → PartsDiffer (parts ends es)
parts-differ [] es = tt
parts-differ (end ∷ []) es = (none-differ es, tt)
parts-differ (end ∷ next ∷ ends) es =
    let front = front_until end es in
    let rest = drop (length front) es in
    (subst (Differ front) (sym (joined-parts next ends rest)) (cut-differs end es), parts-differ (next ∷ ends) rest)

-- what is said of the parts of a child
abbrev IsCutWell : List ℕ → List (List Event) → Type 0
IsCutWell ks ps = IsTornNowhere ks ps × PartsDiffer ps

cut-well : (events : List Event) (cs : List ℕ) (children : List (List Event)) → AllByRecursion (λ (d : Divided). IsTornNowhere d.chunks d.parts) (divided_over events cs children)
    → AllByRecursion (λ (d : Divided). IsCutWell d.chunks d.parts) (divided_over events cs children)
cut-well events [] children h = tt
cut-well events (c ∷ cs) [] h = tt
cut-well events (c ∷ cs) (child ∷ children) h = ((h.0, parts-differ _ child), cut-well events cs children h.1)

module _ (Is : Event → List Event → Type 0) where
  -- ---- events that end in a reference

  -- what is the last event
  behind-last : (x e : Event) (ys todo : List Event) → behind x ys ≡ inside e todo → e ≡ x
  behind-last x e [] todo h = absurd (cc)
  behind-last x e (y ∷ ys) todo h = cc

  step-last : (s t : State) (x e : Event) (todo : List Event) → Step Is s x t → t ≡ inside e todo → e ≡ x
  step-last outside t x e todo (inl h) is = absurd (let no = sym h.1 ∙ is in cc)
  step-last outside t x e todo (inr h) is = behind-last x e h.0 todo (sym h.2 ∙ is)
  step-last (inside last []) t x e todo h is = absurd h
  step-last (inside last (y ∷ ys)) t x e todo h is = behind-last x e ys todo (sym h.2 ∙ is)

  -- it enters a void span, if what comes stands elsewhere
  last-enters : (e : Event) (todo ys : List Event) → Differ (e ∷ []) ys → Goes Is (inside e todo) ys outside → EndsInVoidEnter (e ∷ [])
  last-enters e todo [] differ h = absurd (cc)
  last-enters e [] (y ∷ ys) differ h = absurd h.1
  last-enters e (z ∷ todo) (y ∷ ys) differ h = elim h.1.1.seam [
    | inl void ↦ void
    | inr same ↦ absurd (differ same)
  ]

  ends-open : (s : State) (x : Event) (xs : List Event) (e : Event) (todo ys : List Event) → Goes Is s (x ∷ xs) (inside e todo) → Differ (x ∷ xs) ys → Goes Is (inside e todo) ys outside → EndsInVoidEnter (x ∷ xs)
  ends-open s x [] e todo ys h differ k =
      let same : e ≡ x = step-last s h.0 x e todo h.1 h.2 in
      subst (λ z. EndsInVoidEnter (z ∷ [])) same (last-enters e todo ys (subst (λ z. Differ (z ∷ []) ys) (sym same) differ) k)
  ends-open s x (w ∷ xs) e todo ys h differ k = ends-open h.0 w xs e todo ys h.2 differ k

  -- ---- ends of links

  step-relinked : (f : ℕ → Option ℕ) (s t : State) (e : Event) → Step Is s e t → Step Is s (relinked f e) t
  step-relinked f outside t e (inl h) = inl h
  step-relinked f outside t e (inr h) = subst (λ x. Step Is outside x t) (sym (unlinked-same f e h.1.own.unlinked)) (inr h)
  step-relinked f (inside last []) t e h = absurd h
  step-relinked f (inside last (y ∷ ys)) t e h = subst (λ x. Step Is (inside last (y ∷ ys)) x t) (sym (unlinked-same f e h.1.own.unlinked)) h

  goes-placed : (ts us : List Tagged) (s : State) → Goes Is s (untagged us) outside → Goes Is s (placed_in ts us) outside
  goes-placed ts [] s h = h
  goes-placed ts (u ∷ us) s h = (h.0, step-relinked (placed_end ts u.identity) s h.0 u.event h.1, goes-placed ts us h.0 h.2)

  -- ---- a list whose chains are read
  module _ (tab : ℕ) (bytes : List ℕ) (wanted : Option Content) (events : List Event) (ready : IsReady tab bytes wanted events) where
    abbrev n : ℕ
    n = length events

    -- no chunk is in a reference
    linked-out : (s : State) (e : Event) (t : State) → IsSome e.link → Step Is s e t → (s ≡ outside) × (t ≡ outside)
    linked-out outside e t some (inl h) = (refl, h.1)
    linked-out outside e t some (inr h) = absurd (false≢true (subst IsSome h.1.own.unlinked some))
    linked-out (inside last []) e t some h = absurd h
    linked-out (inside last (y ∷ ys)) e t some h = absurd (false≢true (subst IsSome h.1.own.unlinked some))

    exit-out : (e : Event) (t : State) → e.kind ≡ Exit → Step Is outside e t → t ≡ outside
    exit-out e t exits (inl h) = h.1
    exit-out e t exits (inr h) = absurd (false≢true (sym (ap is_enter exits) ∙ (and_parts (is_enter e.kind) (same_name e.name CharacterReference) h.1.enter).0))

    record IsOut (s : State) (k : ℕ) : Type 0 where
      here : s ≡ outside
      more : AreWhole Is (drop (k + 2) events)

    chunk-out : (s : State) (k : ℕ) → Fits wanted events k → Goes Is s (drop k events) outside → IsOut s k
    chunk-out s k fit h =
        let c = chunk tab bytes wanted events ready k fit in
        let is = drop-two events k c.enter c.exit c.enter_at c.exit_at in
        let g = subst (λ l. Goes Is s l outside) is h in
        let first = linked-out s c.enter g.0 c.linked.linked g.1 in
        let exit : Step Is outside c.exit g.2.0 = subst (λ r. Step Is r c.exit g.2.0) first.1 g.2.1 in
        record { here = first.0; more = subst (λ r. Goes Is r (drop (k + 2) events) outside) (exit-out c.exit g.2.0 c.ended.exits exit) g.2.2 }

    -- what the list does from an index on, it does with changes
    abbrev Holds : List Change → ℕ → Type 0
    Holds ws i = (s : State) → Goes Is s (drop i events) outside → Goes Is s (after_changes events ws i) outside

    -- in a reference, no event of the list comes up to the next part that has events
    abbrev Side : State → ℕ → List ℕ → List (List Event) → Type 0
    Side outside k ks ps = Unit {0}
    Side (inside e todo) k ks ps = StandSideBySide k ks ps

    next-directly : (e : Event) (todo : List Event) (k d : ℕ) (ks : List ℕ) (p : List Event) (ps : List (List Event)) → StandSideBySide k (d ∷ ks) (p ∷ ps) → d ≡ k + 2
    next-directly e todo k d ks [] ps h = h.0
    next-directly e todo k d ks (x ∷ p) ps h = h

    -- events of the list between two chunks
    gap : (s : State) (k d : ℕ) (ks : List ℕ) (p : List Event) (ps : List (List Event)) → Side s k (d ∷ ks) (p ∷ ps) → AreWhole Is (between (k + 2) d events) → Goes Is s (between (k + 2) d events) s
    gap outside k d ks p ps h all = all
    gap (inside e todo) k d ks p ps h all = subst (λ l. Goes Is (inside e todo) l (inside e todo)) (sym (between-none events (k + 2) d (next-directly e todo k d ks p ps h))) refl

    -- behind a part of a chunk
    part-side : (s t : State) (j k : ℕ) (ks : List ℕ) (p : List Event) (ps : List (List Event)) → Side s j (k ∷ ks) (p ∷ ps) → Goes Is s p t → Goes Is t (joined ps) outside → Differ p (joined ps) → (EndsInVoidEnter p → StandSideBySide k ks ps)
        → Side t k ks ps
    part-side s outside j k ks p ps side h more differ torn = tt
    part-side s (inside e todo) j k ks [] ps side h more differ torn = (subst (λ r. Side r j (k ∷ ks) ([] ∷ ps)) h side).1
    part-side s (inside e todo) j k ks (x ∷ p) ps side h more differ torn = torn (ends-open s x p e todo (joined ps) h differ more)

    through : (c j k : ℕ) (ks more : List ℕ) (ps : List (List Event)) (ws : List Change) (s : State) → Fits wanted events k → LeadOnFrom events k ks → length ks ≡ length ps → AreSpaced (k + 2) (ks ++ more) n
        → ((m : ℕ) → AreSpaced m more n → Holds ws m) → IsCutWell ks ps → Goes Is s (joined ps) outside → Side s k ks ps → AreWhole Is (drop (k + 2) events)
        → Goes Is s (after_changes events (part_changes c j ks ps ++ ws) (k + 2)) outside
    through c j k [] more [] ws s h lead e sp kept well goes side old = subst (λ r. Goes Is r (after_changes events ws (k + 2)) outside) (sym goes) (kept (k + 2) sp outside old)
    through c j k (d ∷ ks) more (p ∷ ps) ws s h lead e sp kept well goes side old =
        let fit = fits_next tab bytes wanted events ready k d h lead.0 in
        let rest : List Change = part_changes c (j + length p) ks ps ++ ws in
        let mid = between (k + 2) d events in
        let parted = goes-split Is outside outside mid (drop d events) (subst (AreWhole Is) (split-at events (k + 2) d sp.0) old) in
        let out = chunk-out parted.0 d fit parted.2 in
        let over : Goes Is s mid s = gap s k d ks p ps side (subst (λ r. Goes Is outside mid r) out.here parted.1) in
        let two = goes-split Is s outside p (joined ps) goes in
        let next = part-side s two.0 k d ks p ps side two.1 two.2 well.1.0 well.0.0 in
        let behind = through c (j + length p) d ks more ps ws two.0 fit lead.2 (omega (arith, e)) sp.1 kept (well.0.1, well.1.1) two.2 next out.more in
        subst (λ l. Goes Is s l outside) (sym (part_after events c j (k + 2) d ks p ps ws sp.0))
        (goes-both Is s s outside mid (p ++ after_changes events rest (d + 2)) over (goes-both Is s two.0 outside p (after_changes events rest (d + 2)) two.1 behind))
    through c j k [] more (p ∷ ps) ws s h lead e sp kept well goes side old = absurd (omega (arith, e))
    through c j k (d ∷ ks) more [] ws s h lead e sp kept well goes side old = absurd (omega (arith, e))

    one-chain : (c i : ℕ) (ks more : List ℕ) (ps : List (List Event)) (ws : List Change) → Fits wanted events c → LeadOnFrom events c ks → length (c ∷ ks) ≡ length ps → AreWhole Is (joined ps) → IsCutWell (c ∷ ks) ps
        → AreSpaced i (c ∷ (ks ++ more)) n → ((m : ℕ) → AreSpaced m more n → Holds ws m) → Holds (part_changes c 0 (c ∷ ks) ps ++ ws) i
    one-chain c i ks more [] ws h lead e goes well sp kept s old = absurd (omega (arith, e))
    one-chain c i ks more (p ∷ ps) ws h lead e goes well sp kept s old =
        let rest : List Change = part_changes c (0 + length p) ks ps ++ ws in
        let mid = between i c events in
        let parted = goes-split Is s outside mid (drop c events) (subst (λ l. Goes Is s l outside) (split-at events i c sp.0) old) in
        let out = chunk-out parted.0 c h parted.2 in
        let two = goes-split Is outside outside p (joined ps) goes in
        let next = part-side outside two.0 0 c ks p ps tt two.1 two.2 well.1.0 well.0.0 in
        let behind = through c (0 + length p) c ks more ps ws two.0 h lead (omega (arith, e)) sp.1 kept (well.0.1, well.1.1) two.2 next out.more in
        subst (λ l. Goes Is s l outside) (sym (part_after events c 0 i c ks p ps ws sp.0))
        (goes-both Is s outside outside mid (p ++ after_changes events rest (c + 2)) (subst (λ r. Goes Is s mid r) out.here parted.1)
        (goes-both Is outside two.0 outside p (after_changes events rest (c + 2)) two.1 behind))

    -- With children whose references are whole, and of which no void span is torn, those of the list are whole
    pub children-whole : AreWhole Is events → (children : List (List Event)) → AllByRecursion (AreWhole Is) children → NoneTorn wanted events children → AreWhole Is (with_children wanted events children)
    children-whole old children all torn =
        let ws : List Change = child_changes wanted events children in
        let holds : Holds ws 0 =
        with_children_holds tab bytes wanted events ready Holds (AreWhole Is) IsCutWell (λ i s h. subst (λ l. Goes Is s l outside) (sym (untagged-olds i (drop i events))) h) one-chain children all
        (cut-well events (fitting_starts wanted events) children torn) in
        goes-placed (woven ws 0 events) (woven ws 0 events) outside
        (subst (λ ts. Goes Is outside (untagged ts) outside) (sym (woven-pass ws 0 events (rw zero-add (changes_are_apart tab bytes wanted events children ready).apart))) (holds outside old))
