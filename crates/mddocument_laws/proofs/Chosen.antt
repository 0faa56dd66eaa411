-- The events with some names, where chains of chunks are replaced by what they are read as: those of the list stay, if no chunk has such a name,
-- as where no void span has; and a list without them has those of its children, in order.
use Rattle.mddocument_laws.proofs.Prelude.{◌≡◌, ℕ, suc, ◌+◌, ◌-◌, List, [], ◌∷◌, ◌++◌, Bool, true, false, cond, Option, None, drop, length, map, take, refl, sym, ap, ◌∙◌, subst, arith, flat_map-append, map-append, AllByRecursion, between, flat_map, every-drop, every-take, Content, Event, Name, Point, is_void, olds, pass, woven-pass, AreApart, Change, Tagged, placed_in, woven, Fits, chunk, follow_one_another, changes_are_apart, length-map_ends, length-parts, after-step, after_changes, joined, joined-parts, split-at, untagged, untagged-child, untagged-olds, fitting_starts, chain_changes, child_changes, first_chunk, part_changes, with_children, IsWholeFrom, divided, divided_over, parts, IsReady, place_at, drop-two}
use Rattle.markdown_children.proofs.Parts.Staying.{AtChunk, all-at}
use Rattle.mddocument_laws.proofs.ChildEvents.{AreChanges, AreTagged, divided-are, read-are}

-- an event without its link
abbrev pub bare : Event → Event
bare e = record e { link = None }

-- ---- which names, and that none of them is void
module _ (is : Name → Bool) where
  -- the events with these names, without their links
  abbrev pub chosen : List Event → List Event
  chosen [] = []
  chosen (e ∷ es) = cond (is e.name) (bare e ∷ chosen es) (chosen es)

  -- an event has no such name
  abbrev IsOther : Event → Type 0
  IsOther e = is e.name ≡ false

  -- no event has
  abbrev pub AreOther : List Event → Type 0
  AreOther es = AllByRecursion IsOther es

  pub chosen-append : (xs ys : List Event) → chosen (xs ++ ys) ≡ chosen xs ++ chosen ys
  chosen-append [] ys = refl
  chosen-append (x ∷ xs) ys =
      let more = chosen-append xs ys in
      elim (is x.name) as (λ b. cond b (bare x ∷ chosen (xs ++ ys)) (chosen (xs ++ ys)) ≡ cond b (bare x ∷ chosen xs) (chosen xs) ++ chosen ys) [
        | true ↦ ap (λ l. bare x ∷ l) more
        | false ↦ more
      ]

  pub chosen-none : (es : List Event) → AreOther es → chosen es ≡ []
  chosen-none [] h = refl
  chosen-none (e ∷ es) h = ap (λ b. cond b (bare e ∷ chosen es) (chosen es)) h.0 ∙ chosen-none es h.1

  -- other events in front
  pub chosen-behind : (xs ys : List Event) → AreOther xs → chosen (xs ++ ys) ≡ chosen ys
  chosen-behind xs ys h = chosen-append xs ys ∙ ap (λ l. l ++ chosen ys) (chosen-none xs h)

  pub chosen-flat : {A : Type 0} (f : A → List Event) (xs : List A) → chosen (flat_map f xs) ≡ flat_map (λ x. chosen (f x)) xs
  chosen-flat f [] = refl
  chosen-flat f (x ∷ xs) = chosen-append (f x) (flat_map f xs) ∙ ap (λ l. chosen (f x) ++ l) (chosen-flat f xs)

  -- link ends do not matter
  chosen-placed : (ts us : List Tagged) → chosen (placed_in ts us) ≡ chosen (untagged us)
  chosen-placed ts [] = refl
  chosen-placed ts (u ∷ us) = ap (λ l. cond (is u.event.name) (bare u.event ∷ l) l) (chosen-placed ts us)

  -- ---- changes
  other-tagged : (ts : List Tagged) → AreTagged IsOther ts → AreOther (untagged ts)
  other-tagged [] h = tt
  other-tagged (t ∷ ts) h = (h.0, other-tagged ts h.1)

  -- in a list without them
  chosen-pass : (ws : List Change) (i : ℕ) (xs : List Event) → AreOther xs → chosen (untagged (pass ws i xs)) ≡ flat_map (λ (w : Change). chosen (untagged w.events)) ws
  chosen-pass [] i xs h = ap chosen (untagged-olds i xs) ∙ chosen-none xs h
  chosen-pass (w ∷ ws) i xs h =
      let front = take (w.index - i) xs in
      let behind = drop (w.index + w.remove - i) xs in
      let rest = pass ws (w.index + w.remove) behind in
      let none : AreOther (untagged (olds i front)) = subst AreOther (sym (untagged-olds i front)) (every-take IsOther (w.index - i) xs h) in
      let more = chosen-pass ws (w.index + w.remove) behind (every-drop IsOther (w.index + w.remove - i) xs h) in
      ap chosen (map-append (λ (t : Tagged). t.event) (olds i front) (w.events ++ rest) ∙ ap (λ l. untagged (olds i front) ++ l) (map-append (λ (t : Tagged). t.event) w.events rest))
      ∙ chosen-behind (untagged (olds i front)) (untagged w.events ++ untagged rest) none
      ∙ chosen-append (untagged w.events) (untagged rest)
      ∙ ap (λ l. chosen (untagged w.events) ++ l) more

  parts-chosen : (c j : ℕ) (ks : List ℕ) (ps : List (List Event)) → length ks ≡ length ps → flat_map (λ (w : Change). chosen (untagged w.events)) (part_changes c j ks ps) ≡ chosen (joined ps)
  parts-chosen c j [] [] e = refl
  parts-chosen c j [] (p ∷ ps) e = absurd (omega (arith, e))
  parts-chosen c j (k ∷ ks) [] e = absurd (omega (arith, e))
  parts-chosen c j (k ∷ ks) (p ∷ ps) e =
      ap (λ l. chosen l ++ flat_map (λ (w : Change). chosen (untagged w.events)) (part_changes c (j + length p) ks ps)) (untagged-child c j p)
      ∙ ap (λ l. chosen p ++ l) (parts-chosen c (j + length p) ks ps (omega (arith, e))) ∙ sym (chosen-append p (joined ps))

  module _ (events : List Event) (of_chain : ℕ → List Event) where
    chain-chosen : (c : ℕ) → IsWholeFrom events c → flat_map (λ (w : Change). chosen (untagged w.events)) (chain_changes (divided events c (of_chain c))) ≡ chosen (of_chain c)
    chain-chosen c whole =
        let ks = whole.0 in
        let child = of_chain c in
        let end : ℕ → Point = λ k. place_at events (k + 1) in
        let ps = parts (end c ∷ map end ks) child in
        let many : length (c ∷ ks) ≡ length ps = sym (length-parts (end c ∷ map end ks) child ∙ ap suc (length-map_ends events ks)) in
        let Q : List ℕ → Type 0 = λ (ys : List ℕ). flat_map (λ (w : Change). chosen (untagged w.events)) (part_changes (first_chunk ys) 0 ys (parts (map end ys) child)) ≡ chosen child in
        subst Q (sym whole.1) (parts-chosen c 0 (c ∷ ks) ps many ∙ ap chosen (joined-parts (end c) (map end ks) child))

    chains-chosen : (cs : List ℕ) → AllByRecursion (IsWholeFrom events) cs → flat_map (λ (w : Change). chosen (untagged w.events)) (flat_map chain_changes (divided_over events cs (map of_chain cs))) ≡ flat_map (λ c. chosen (of_chain c)) cs
    chains-chosen [] h = refl
    chains-chosen (c ∷ cs) h =
        let d = divided events c (of_chain c) in
        let rest : List Change = flat_map chain_changes (divided_over events cs (map of_chain cs)) in
        flat_map-append (λ (w : Change). chosen (untagged w.events)) (chain_changes d) rest ∙ (λ i. chain-chosen c h.0 i ++ chains-chosen cs h.1 i)

  module _ (tab : ℕ) (bytes : List ℕ) (wanted : Option Content) (events : List Event) (ready : IsReady tab bytes wanted events) (of_chain : ℕ → List Event) where
    abbrev starts : List ℕ
    starts = fitting_starts wanted events

    abbrev children : List (List Event)
    children = map of_chain starts

    abbrev ws : List Change
    ws = child_changes wanted events children

    apart : AreApart 0 ws (length events)
    apart = (changes_are_apart tab bytes wanted events children ready).apart

    whole-list : chosen (with_children wanted events children) ≡ chosen (after_changes events ws 0)
    whole-list =
        let z : length events ≡ 0 + length events = omega arith in
        chosen-placed (woven ws 0 events) (woven ws 0 events) ∙ ap (λ (ts : List Tagged). chosen (untagged ts)) (woven-pass ws 0 events (subst (AreApart 0 ws) z apart))

    -- A list without them has those of what its chains are read as
    pub chosen-of-children : AreOther events → chosen (with_children wanted events children) ≡ flat_map (λ c. chosen (of_chain c)) starts
    chosen-of-children h = whole-list ∙ chosen-pass ws 0 events h ∙ chains-chosen events of_chain starts (follow_one_another tab bytes wanted events ready).whole

    -- a chunk with another name
    chunk-chosen : (k : ℕ) (fit : Fits wanted events k) → IsOther (chunk tab bytes wanted events ready k fit).enter → chosen (drop k events) ≡ chosen (drop (k + 2) events)
    chunk-chosen k fit enter =
        let c = chunk tab bytes wanted events ready k fit in
        ap chosen (drop-two events k c.enter c.exit c.enter_at c.exit_at) ∙ chosen-behind (c.enter ∷ c.exit ∷ []) (drop (k + 2) events) (enter, (ap is c.ended.same ∙ enter, tt))

    module _ (others : (k : ℕ) (fit : Fits wanted events k) → IsOther (chunk tab bytes wanted events ready k fit).enter) where
      kept : (vs : List Change) (i : ℕ) → AllByRecursion (AtChunk tab bytes wanted events ready children) vs → AreChanges IsOther vs → AreApart i vs (length events) → chosen (after_changes events vs i) ≡ chosen (drop i events)
      kept [] i at other is_apart = ap chosen (untagged-olds i (drop i events))
      kept (v ∷ vs) i at other is_apart =
          let front = between i v.index events in
          let there = v.index + v.remove in
          let rest = after_changes events vs there in
          let two : v.index + 2 ≡ there = ap (λ n. v.index + n) (sym at.0.1) in
          ap chosen (after-step events v vs i is_apart.0) ∙ chosen-append front (untagged v.events ++ rest)
          ∙ ap (λ l. chosen front ++ l)
          (chosen-behind (untagged v.events) rest (other-tagged v.events other.0) ∙ kept vs there at.1 other.1 is_apart.1 ∙ ap (λ n. chosen (drop n events)) (sym two)
          ∙ sym (chunk-chosen v.index at.0.0 (others v.index at.0.0)))
          ∙ sym (chosen-append front (drop v.index events)) ∙ sym (ap chosen (split-at events i v.index is_apart.0))

      -- A list whose chunks have other names keeps them, if its chains are read as other events
      pub chosen-stay : ((c : ℕ) → AreOther (of_chain c)) → chosen (with_children wanted events children) ≡ chosen events
      chosen-stay other =
          whole-list ∙ kept ws 0 (all-at tab bytes wanted events ready children) (divided-are IsOther events starts children (read-are IsOther of_chain starts other)) apart

    -- chunks have other names, if no void span has such a name
    pub chosen-kept : ((n : Name) → is_void n ≡ true → is n ≡ false) → ((c : ℕ) → AreOther (of_chain c)) → chosen (with_children wanted events children) ≡ chosen events
    chosen-kept no_void other = chosen-stay (λ k fit. let c = chunk tab bytes wanted events ready k fit in no_void c.enter.name c.linked.void) other
