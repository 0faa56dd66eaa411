-- Balanced children keep a list balanced.
--
-- Between two chunks of a chain is a balanced list, which leaves each stack of open names as it is. So the parts of a child act on the
-- stack one directly after another, as the child itself would, and that is balanced.
use Rattle.markdown_children.proofs.Prelude.{◌≡◌, ℕ, zero, suc, ◌+◌, ◌-◌, ◌≤◌, List, [], ◌∷◌, ◌++◌, length, map, drop, take, Option, Some, None, refl, sym, ◌∙◌, ap, subst, arith, append-nil, take-append-drop, flat_map, slice_get, AllByRecursion, between, range_with_len, map-append, drop-drop, Content, Event, Point, IsBalanced, drop-at, names_after, names_after_all, Tagged, Change, woven, placed_in, olds, pass, woven-pass, names_after_all-append, names_after_balanced, balanced_from_open, IsBalanced-pair, names-none, chain_of, fitting_starts, IsReady, place_at, LeadOnFrom, IsWholeFrom, AreSpaced, front_until, parts, Divided, divided_over, first_chunk, tagged_child, part_changes, chain_changes, child_changes, with_children, every-all, zero-add}
use Rattle.markdown_base.specs.declared.event.Name.{Name}
use Rattle.markdown_children.proofs.ChainOrder.Following.{Fits, chunk, starts_fit, follow_one_another}
use Rattle.markdown_children.proofs.ChainOrder.Spaced.{length-parts, length-map_ends, changes_are_apart}

-- ---- the parts together are the child

abbrev pub joined : List (List Event) → List Event
joined ps = flat_map (λ (p : List Event). p) ps

take-drop_taken : (k : ℕ) (es : List Event) → take k es ++ drop (length (take k es)) es ≡ es
take-drop_taken zero es = refl
take-drop_taken (suc k) [] = refl
take-drop_taken (suc k) (e ∷ es) = ap (λ t. e ∷ t) (take-drop_taken k es)

pub joined-parts : (end : Point) (ends : List Point) (es : List Event) → joined (parts (end ∷ ends) es) ≡ es
joined-parts end [] es = append-nil es
joined-parts end (next ∷ ends) es = ap (λ t. front_until end es ++ t) (joined-parts next ends (drop (length (front_until end es)) es)) ∙ take-drop_taken _ es

-- ---- events without their identities

abbrev pub untagged : List Tagged → List Event
untagged ts = map (λ (t : Tagged). t.event) ts

pub untagged-olds : (i : ℕ) (xs : List Event) → untagged (olds i xs) ≡ xs
untagged-olds i [] = refl
untagged-olds i (x ∷ xs) = ap (λ ys. x ∷ ys) (untagged-olds (i + 1) xs)

pub untagged-child : (c j : ℕ) (es : List Event) → untagged (tagged_child c j es) ≡ es
untagged-child c j [] = refl
untagged-child c j (e ∷ es) = ap (λ ys. e ∷ ys) (untagged-child c (j + 1) es)

-- link ends do not matter
pub names-placed : (o : Option (List Name)) (ts us : List Tagged) → names_after_all o (placed_in ts us) ≡ names_after_all o (untagged us)
names-placed None ts us = refl
names-placed (Some st) ts [] = refl
names-placed (Some st) ts (u ∷ us) = names-placed (names_after u.event.kind u.event.name st) ts us

pub names-leave : {xs : List Event} → IsBalanced xs → (o : Option (List Name)) → names_after_all o xs ≡ o
names-leave b None = refl
names-leave b (Some st) = names_after_balanced b st

names-three : (o : Option (List Name)) (xs ys zs : List Event) → names_after_all o (xs ++ (ys ++ zs)) ≡ names_after_all (names_after_all (names_after_all o xs) ys) zs
names-three o xs ys zs = names_after_all-append o xs (ys ++ zs) ∙ names_after_all-append (names_after_all o xs) ys zs

-- the list from i on is its events up to k, and from k on
pub split-at : (events : List Event) (i k : ℕ) → i ≤ k → drop i events ≡ between i k events ++ drop k events
split-at events i k l =
    let z : i + (k - i) ≡ k = omega arith in
    sym (take-append-drop (k - i) (drop i events)) ∙ ap (λ ys. between i k events ++ ys) (drop-drop (k - i) i events ∙ ap (λ m. drop m events) z)

module _ (events : List Event) where
  -- no event is between an index and itself
  pub between-none : (i d : ℕ) → d ≡ i → between i d events ≡ []
  between-none i d e = let z : d - i ≡ 0 = omega arith in ap (λ m. take m (drop i events)) z

  -- the events from i on, after changes
  abbrev pub after_changes : List Change → ℕ → List Event
  after_changes ws i = untagged (pass ws i (drop i events))

  pub after-step : (w : Change) (ws : List Change) (i : ℕ) → i ≤ w.index → after_changes (w ∷ ws) i ≡ between i w.index events ++ (untagged w.events ++ after_changes ws (w.index + w.remove))
  after-step w ws i l =
      let z : i + (w.index + w.remove - i) ≡ w.index + w.remove = omega arith in
      let rest : drop (w.index + w.remove - i) (drop i events) ≡ drop (w.index + w.remove) events = drop-drop (w.index + w.remove - i) i events ∙ ap (λ m. drop m events) z in
      simp (map-append, untagged-olds i (between i w.index events), rest)

  -- what the change of a chain's next chunk leaves
  pub part_after : (c j i d : ℕ) (ks : List ℕ) (p : List Event) (ps : List (List Event)) (ws : List Change) → i ≤ d
      → after_changes (part_changes c j (d ∷ ks) (p ∷ ps) ++ ws) i ≡ between i d events ++ (p ++ after_changes (part_changes c (j + length p) ks ps ++ ws) (d + 2))
  part_after c j i d ks p ps ws l =
      let rest : List Change = part_changes c (j + length p) ks ps ++ ws in
      after-step (record { index = d; remove = 2; events = tagged_child c j p }) rest i l ∙ ap (λ ys. between i d events ++ (ys ++ after_changes rest (d + 2))) (untagged-child c j p)

module _ (tab : ℕ) (bytes : List ℕ) (wanted : Option Content) (events : List Event) (ready : IsReady tab bytes wanted events) where
  abbrev n : ℕ
  n = length events

  -- a chunk leaves each stack
  names-chunk : (k : ℕ) → Fits wanted events k → (o : Option (List Name)) → names_after_all o (drop k events) ≡ names_after_all o (drop (k + 2) events)
  names-chunk k h o =
      let c = chunk tab bytes wanted events ready k h in
      let one : suc k ≡ k + 1 = omega arith in
      let two : suc (suc k) ≡ k + 2 = omega arith in
      let is : drop k events ≡ (c.enter ∷ c.exit ∷ []) ++ drop (k + 2) events =
      drop-at events k c.enter c.enter_at
      ∙ ap (λ ys. c.enter ∷ ys) (drop-at events (suc k) c.exit (ap (slice_get events) one ∙ c.exit_at) ∙ ap (λ m. c.exit ∷ drop m events) two) in
      ap (names_after_all o) is ∙ names_after_all-append o (c.enter ∷ c.exit ∷ []) (drop (k + 2) events)
      ∙ ap (λ p. names_after_all p (drop (k + 2) events)) (names-leave (IsBalanced-pair c.enter c.exit c.linked.enter c.ended.exits c.ended.same) o)

  -- changes keep each stack from an index on
  abbrev KeepNames : List Change → ℕ → Type 0
  KeepNames ws i = (o : Option (List Name)) → names_after_all o (after_changes events ws i) ≡ names_after_all o (drop i events)

  -- behind the chunk at k its chain's other parts act as if they were adjacent
  through : (c j k : ℕ) (ks more : List ℕ) (ps : List (List Event)) (ws : List Change) → Fits wanted events k → LeadOnFrom events k ks → length ks ≡ length ps → AreSpaced (k + 2) (ks ++ more) n
      → ((m : ℕ) → AreSpaced m more n → KeepNames ws m)
      → (o : Option (List Name)) → names_after_all o (after_changes events (part_changes c j ks ps ++ ws) (k + 2)) ≡ names_after_all (names_after_all o (joined ps)) (drop (k + 2) events)
  through c j k [] more [] ws h lead e sp kept o = kept (k + 2) sp o ∙ ap (λ p. names_after_all p (drop (k + 2) events)) (sym (names-none o))
  through c j k (d ∷ ks) more (p ∷ ps) ws h lead e sp kept o =
      let rest : List Change = part_changes c (j + length p) ks ps ++ ws in
      let gap = names-leave (ready.gaps k d h lead.0).balanced in
      let fit = Rattle.markdown_children.proofs.ChainOrder.Following.fits_next tab bytes wanted events ready k d h lead.0 in
      let old : (q : Option (List Name)) → names_after_all q (drop (k + 2) events) ≡ names_after_all q (drop (d + 2) events) =
      λ q. ap (names_after_all q) (split-at events (k + 2) d sp.0) ∙ names_after_all-append q (between (k + 2) d events) (drop d events) ∙ ap (λ r. names_after_all r (drop d events)) (gap q) ∙ names-chunk d fit q in
      rw (part_after events c j (k + 2) d ks p ps ws sp.0, names-three o (between (k + 2) d events) p (after_changes events rest (d + 2)), gap o)
      (through c (j + length p) d ks more ps ws fit lead.2 (omega arith) sp.1 kept (names_after_all o p)
      ∙ ap (λ q. names_after_all q (drop (d + 2) events)) (sym (names_after_all-append o p (joined ps))) ∙ sym (old (names_after_all o (p ++ joined ps))))
  through c j k ks more ps ws h lead e sp kept o = absurd (omega arith)

  -- a chain whose parts together are balanced
  one_chain : (c i : ℕ) (ks more : List ℕ) (ps : List (List Event)) (ws : List Change) → Fits wanted events c → LeadOnFrom events c ks → length (c ∷ ks) ≡ length ps → IsBalanced (joined ps) → Unit {0}
      → AreSpaced i (c ∷ (ks ++ more)) n → ((m : ℕ) → AreSpaced m more n → KeepNames ws m) → KeepNames (part_changes c 0 (c ∷ ks) ps ++ ws) i
  one_chain c i ks more [] ws h lead e b t sp kept o = absurd (omega arith)
  one_chain c i ks more (p ∷ ps) ws h lead e b t sp kept o =
      let q : Option (List Name) = names_after_all o (between i c events) in
      rw (part_after events c 0 i c ks p ps ws sp.0, names-three o (between i c events) p (after_changes events (part_changes c (0 + length p) ks ps ++ ws) (c + 2)))
      (through c (0 + length p) c ks more ps ws h lead (omega arith) sp.1 kept (names_after_all q p)
      ∙ ap (λ r. names_after_all r (drop (c + 2) events)) (sym (names_after_all-append q p (joined ps)) ∙ names-leave b q)
      ∙ sym (names-chunk c h q) ∙ sym (ap (names_after_all o) (split-at events i c sp.0) ∙ names_after_all-append o (between i c events) (drop c events)))

  -- what holds behind the last chain, and is kept by each chain, holds of the list with children
  module _ (Holds : List Change → ℕ → Type 0) (P : List Event → Type 0) (T : List ℕ → List (List Event) → Type 0) (last : (i : ℕ) → Holds [] i)
      (chain : (c i : ℕ) (ks more : List ℕ) (ps : List (List Event)) (ws : List Change) → Fits wanted events c → LeadOnFrom events c ks → length (c ∷ ks) ≡ length ps → P (joined ps) → T (c ∷ ks) ps
      → AreSpaced i (c ∷ (ks ++ more)) n → ((m : ℕ) → AreSpaced m more n → Holds ws m) → Holds (part_changes c 0 (c ∷ ks) ps ++ ws) i) where
    all_chains : (cs : List ℕ) (children : List (List Event)) (i : ℕ) → AllByRecursion (Fits wanted events) cs → AllByRecursion (IsWholeFrom events) cs → AllByRecursion P children
        → AllByRecursion (λ (d : Divided). T d.chunks d.parts) (divided_over events cs children) → AreSpaced i (flat_map (chain_of events) cs) n
        → Holds (flat_map chain_changes (divided_over events cs children)) i
    all_chains (c ∷ cs) (child ∷ children) i fs wh bs ts sp =
        let ks = wh.0.0 in
        let is : chain_of events c ≡ c ∷ ks = wh.0.1 in
        let ends : List Point = map (λ k. place_at events (k + 1)) ks in
        let ps : List (List Event) = parts (place_at events (c + 1) ∷ ends) child in
        let ws : List Change = flat_map chain_changes (divided_over events cs children) in
        let many : length (c ∷ ks) ≡ length ps = sym (length-parts (place_at events (c + 1) ∷ ends) child ∙ ap suc (length-map_ends events ks)) in
        let all : P (joined ps) = subst P (sym (joined-parts (place_at events (c + 1)) ends child)) bs.0 in
        let here : T (c ∷ ks) ps = subst (λ (ys : List ℕ). T ys (parts (map (λ k. place_at events (k + 1)) ys) child)) is ts.0 in
        let spaced : AreSpaced i (c ∷ (ks ++ flat_map (chain_of events) cs)) n = subst (λ (ys : List ℕ). AreSpaced i (ys ++ flat_map (chain_of events) cs) n) is sp in
        subst (λ (ys : List ℕ). Holds (part_changes (first_chunk ys) 0 ys (parts (map (λ k. place_at events (k + 1)) ys) child) ++ ws) i) (sym is)
        (chain c i ks (flat_map (chain_of events) cs) ps ws fs.0 wh.0.2 many all here spaced (λ m r. all_chains cs children m fs.1 wh.1 bs.1 ts.1 r))
    all_chains cs children i fs wh bs ts sp = last i

    pub with_children_holds : (children : List (List Event)) → AllByRecursion P children
        → AllByRecursion (λ (d : Divided). T d.chunks d.parts) (divided_over events (fitting_starts wanted events) children) → Holds (child_changes wanted events children) 0
    with_children_holds children bs ts =
        let f = follow_one_another tab bytes wanted events ready in
        all_chains (fitting_starts wanted events) children 0 (starts_fit tab bytes wanted events ready (range_with_len 0 n)) f.whole bs ts
        (subst (λ (ks : List ℕ). AreSpaced 0 ks n) (sym f.in_order) f.spaced)

  pub with_children_balanced : (children : List (List Event)) → AllByRecursion IsBalanced children → IsBalanced (with_children wanted events children)
  with_children_balanced children bs =
      let ws : List Change = child_changes wanted events children in
      let kept : KeepNames ws 0 =
      with_children_holds KeepNames IsBalanced (λ ks ps. Unit {0}) (λ i o. ap (names_after_all o) (untagged-olds i (drop i events))) one_chain children bs
      (every-all (λ (d : Divided). Unit {0}) (λ d. tt) (divided_over events (fitting_starts wanted events) children)) in
      balanced_from_open (with_children wanted events children)
      (names-placed (Some []) (woven ws 0 events) (woven ws 0 events)
      ∙ ap (λ ts. names_after_all (Some []) (untagged ts)) (woven-pass ws 0 events (rw zero-add (changes_are_apart tab bytes wanted events children ready).apart))
      ∙ kept (Some []) ∙ names_after_balanced ready.balanced [])
