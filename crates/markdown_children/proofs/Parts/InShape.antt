-- The list with children is in shape: link ends are indices into it, and its links are mutual if the children's are. Each of its events is
-- an event of the list or of a child, and its link ends lead to the new places of their events.
use Rattle.markdown_children.proofs.Prelude.{◌≡◌, ℕ, suc, ◌+◌, ◌<◌, true, cond, eqb, List, [], ◌∷◌, ◌++◌, length, Option, Some, None, refl, sym, ◌∙◌, ap, arith, slice_get, AllByRecursion, option_map, option_and_then, eq-eqb, none-some, same_Some, slice_get-map, slice_get_within, option_and_then_some, Event, Link, relinked, get-front, every-get, AreMutual, Identity, of_list, of_child, of_addition, Tagged, as_listed, is_same, place_in, placed, placed_end, Change, events_at, is_removed, woven, slice_get-behind, next_moved, previous_moved, tagged_child, part_changes, every-append, every-cond, map, subst, false, flat_map, All, IfSome, ne_eqb, length-map, All-from_recursion, recursion_from_All, Content, Point, with_ends, EachEnd, EndsBelow, placed_in, AreApart, woven-pass, zero-add, stays_unless_removed, keeps_links, chain_of, begins, fitting_starts, IsReady, place_at, IsWholeFrom, ChildrenFit, parts, divided_over, first_chunk, chain_changes, child_changes}
use Rattle.markdown_children.proofs.ChainOrder.Following.{by_test, by_option, follow_one_another}
use Rattle.markdown_children.proofs.ChainOrder.Spaced.{changes_are_apart}
use Rattle.markdown_children.proofs.Parts.Kept.{joined, joined-parts, with_children_balanced}
use Rattle.markdown_children.proofs.Parts.Edits.{IsRising, rising, differ}
use Rattle.markdown_children.proofs.Parts.Tight.{with_children_tight}
use Rattle.markdown_children.proofs.Parts.Once.{AreOnce, AreOthers, is_same-true, once-pass, once-place, once-chains}

-- the event of a name is at its place
pub place_in-there : (b : Identity) (ts : List Tagged) (q : ℕ) → place_in b ts ≡ Some q → (v : Tagged) × (slice_get ts q ≡ Some v) × (v.identity ≡ b)
place_in-there b [] q e = absurd (none-some q e)
place_in-there b (t ∷ ts) q e = by_test (is_same b t.identity)
    (λ s. (t, ap (slice_get (t ∷ ts)) (sym (same_Some 0 q (rw s at e))), sym (is_same-true b t.identity s)))
    (λ s. by_option (place_in b ts)
    (λ f. absurd (none-some q (rw (s, f) at e)))
    (λ p f. let v = place_in-there b ts p f in (v.0, ap (slice_get (t ∷ ts)) (sym (same_Some (suc p) q (rw (s, f) at e))) ∙ v.1, v.2)))

module _ (child : ℕ → List Event) (xs : List Event) where
  -- the event with a name, if it is an event of the list or of a child
  abbrev pub source : Identity → Option Event
  source (of_list n) = slice_get xs n
  source (of_child c n) = slice_get (child c) n
  source of_addition = None

  abbrev pub IsSourced : Tagged → Type 0
  IsSourced u = source u.identity ≡ Some u.event

  abbrev pub AreSourced : List Tagged → Type 0
  AreSourced ts = AllByRecursion IsSourced ts

  sourced-at : (ws : List Change) (i : ℕ) → AllByRecursion (λ (w : Change). AreSourced w.events) ws → AreSourced (events_at ws i)
  sourced-at [] i h = tt
  sourced-at (w ∷ ws) i h = every-append IsSourced (cond (eqb w.index i) w.events []) (events_at ws i) (every-cond IsSourced (eqb w.index i) w.events [] h.0 tt) (sourced-at ws i h.1)

  sourced-woven : (ws : List Change) (i : ℕ) (ys : List Event) → AllByRecursion (λ (w : Change). AreSourced w.events) ws → ((k : ℕ) → slice_get xs (i + k) ≡ slice_get ys k)
      → AreSourced (woven ws i ys)
  sourced-woven ws i [] h f = sourced-at ws i h
  sourced-woven ws i (y ∷ ys) h f =
      let here : slice_get xs i ≡ Some y = let z : i ≡ i + 0 = omega arith in ap (slice_get xs) z ∙ f 0 in
      let more = sourced-woven ws (i + 1) ys h (λ k. let z : i + 1 + k ≡ i + suc k = omega arith in ap (slice_get xs) z ∙ f (suc k)) in
      let stays : List Tagged = cond (is_removed ws i) [] (as_listed i y ∷ []) in
      every-append IsSourced (events_at ws i) (stays ++ woven ws (i + 1) ys) (sourced-at ws i h)
      (every-append IsSourced stays (woven ws (i + 1) ys) (every-cond IsSourced (is_removed ws i) [] (as_listed i y ∷ []) tt (here, tt)) more)

  sourced-tagged : (c j : ℕ) (es : List Event) → ((k : ℕ) → k < length es → slice_get (child c) (j + k) ≡ slice_get es k) → AreSourced (tagged_child c j es)
  sourced-tagged c j [] f = tt
  sourced-tagged c j (e ∷ es) f = (
    let z : j ≡ j + 0 = omega arith in ap (slice_get (child c)) z ∙ f 0 (omega arith),
    sourced-tagged c (j + 1) es (λ k l. let z : j + 1 + k ≡ j + suc k = omega arith in ap (slice_get (child c)) z ∙ f (suc k) (omega arith)),
  )

  sourced-parts : (c j : ℕ) (ks : List ℕ) (ps : List (List Event)) (ws : List Change) → ((k : ℕ) → slice_get (child c) (j + k) ≡ slice_get (joined ps) k)
      → AllByRecursion (λ (w : Change). AreSourced w.events) ws → AllByRecursion (λ (w : Change). AreSourced w.events) (part_changes c j ks ps ++ ws)
  sourced-parts c j (k ∷ ks) (p ∷ ps) ws f h = (
    sourced-tagged c j p (λ n l. f n ∙ get-front p (joined ps) n l),
    sourced-parts c (j + length p) ks ps ws (λ n. let z : j + length p + n ≡ j + (length p + n) = omega arith in ap (slice_get (child c)) z ∙ f (length p + n) ∙ slice_get-behind p (joined ps) n) h,
  )
  sourced-parts c j ks ps ws f h = h

  -- ---- links

  module _ (ts : List Tagged) (sourced : AreSourced ts) (once : AreOnce ts) where
    module _ (on back : Event → Option ℕ) (on-moved : (f : ℕ → Option ℕ) (o : Option Event) → option_and_then on (option_map (relinked f) o) ≡ option_and_then f (option_and_then on o))
        (back-moved : (f : ℕ → Option ℕ) (o : Option Event) → option_and_then back (option_map (relinked f) o) ≡ option_and_then f (option_and_then back o)) where
      -- if an end leads on, one leads back
      abbrev LeadsBack : List Event → Type 0
      LeadsBack list = (i j : ℕ) → option_and_then on (slice_get list i) ≡ Some j → option_and_then back (slice_get list j) ≡ Some i

      abbrev placed_event : Tagged → Event
      placed_event u = relinked (placed_end ts u.identity) u.event

      -- the events of one list, which have these names
      via : (tag : ℕ → Identity) (list : List Event) → LeadsBack list → ((i k : ℕ) → placed_end ts (tag i) k ≡ place_in (tag k) ts) → ((i : ℕ) → source (tag i) ≡ slice_get list i) → ((i : ℕ) → is_same (tag i) (tag i) ≡ true)
          → (p q n : ℕ) (u : Tagged) → u.identity ≡ tag n → slice_get ts p ≡ Some u → option_and_then on (slice_get (placed ts) p) ≡ Some q → option_and_then back (slice_get (placed ts) q) ≡ Some p
      via tag list lead ends src same p q n u is at e =
          let here : slice_get list n ≡ Some u.event = sym (src n) ∙ ap source (sym is) ∙ every-get IsSourced ts p u sourced at in
          let end : option_and_then (placed_end ts u.identity) (option_and_then on (Some u.event)) ≡ Some q =
          sym (on-moved (placed_end ts u.identity) (Some u.event)) ∙ ap (option_and_then on) (sym (slice_get-map placed_event ts p ∙ ap (option_map placed_event) at)) ∙ e in
          option_and_then_some (placed_end ts u.identity) (option_and_then on (Some u.event)) q end (λ m f g.
          let there = place_in-there (tag m) ts q (sym (ends n m) ∙ ap (λ b. placed_end ts b m) (sym is) ∙ g) in
          let v = there.0 in
          let other : slice_get list m ≡ Some v.event = sym (src m) ∙ ap source (sym there.2) ∙ every-get IsSourced ts q v sourced there.1 in
          let leads : option_and_then back (Some v.event) ≡ Some n = ap (option_and_then back) (sym other) ∙ lead n m (ap (option_and_then on) here ∙ f) in
          let self : place_in (tag n) ts ≡ Some p = ap (λ b. place_in b ts) (sym is) ∙ once-place ts p u once (ap (λ b. is_same b b) is ∙ same n) at in
          ap (option_and_then back) (slice_get-map placed_event ts q ∙ ap (option_map placed_event) there.1)
          ∙ back-moved (placed_end ts v.identity) (Some v.event)
          ∙ ap (option_and_then (placed_end ts v.identity)) leads
          ∙ ap (λ b. placed_end ts b n) there.2 ∙ ends m n ∙ self)

      leads-back : LeadsBack xs → ((c : ℕ) → LeadsBack (child c)) → LeadsBack (placed ts)
      leads-back list children p q e = by_option (slice_get ts p)
          (λ f. absurd (none-some q (sym (ap (option_and_then on) (slice_get-map placed_event ts p ∙ ap (option_map placed_event) f)) ∙ e)))
          (λ u f. by u.identity u refl f)
        where
          by : (b : Identity) (u : Tagged) → u.identity ≡ b → slice_get ts p ≡ Some u → option_and_then back (slice_get (placed ts) q) ≡ Some p
          by (of_list n) u is f = via of_list xs list (λ i k. refl) (λ i. refl) (λ i. eq-eqb i i refl) p q n u is f e
          by (of_child c n) u is f = via (of_child c) (child c) (children c) (λ i k. refl) (λ i. refl) (λ i. let a : eqb c c ≡ true = eq-eqb c c refl in let b : eqb i i ≡ true = eq-eqb i i refl in rw (a, b) refl) p q n u is f e
          by of_addition u is f = absurd (none-some u.event (ap source (sym is) ∙ every-get IsSourced ts p u sourced f))

    mutual-placed : AreMutual xs → ((c : ℕ) → AreMutual (child c)) → AreMutual (placed ts)
    mutual-placed list children i j = (
      leads-back (λ (e : Event). option_and_then (λ (l : Link). l.next) e.link) (λ (e : Event). option_and_then (λ (l : Link). l.previous) e.link) next_moved previous_moved
          (λ n m. (list n m).0) (λ c n m. (children c n m).0) i j,
      leads-back (λ (e : Event). option_and_then (λ (l : Link). l.previous) e.link) (λ (e : Event). option_and_then (λ (l : Link). l.next) e.link) previous_moved next_moved
          (λ n m. (list m n).1) (λ c n m. (children c m n).1) j i,
    )

  -- a link end of an event that has a name is an index into the list
  end-inside : (ts : List Tagged) (b : Identity) (e : Event) → source b ≡ Some e → (k q : ℕ) → placed_end ts b k ≡ Some q → q < length ts
  end-inside ts (of_list n) e h k q f = let r = place_in-there (of_list k) ts q f in slice_get_within ts q r.0 r.1
  end-inside ts (of_child c n) e h k q f = let r = place_in-there (of_child c k) ts q f in slice_get_within ts q r.0 r.1
  end-inside ts of_addition e h k q f = absurd (none-some e h)

-- ---- the child of each chain

-- the child of the chain that begins at an index, empty where none does
abbrev pub child_at : List ℕ → List (List Event) → ℕ → List Event
child_at [] xs = λ d. []
child_at (c ∷ cs) [] = λ d. []
child_at (c ∷ cs) (x ∷ xs) = λ d. cond (eqb d c) x (child_at cs xs d)

abbrev Names : (ℕ → List Event) → List ℕ → List (List Event) → Type 0
Names child [] xs = Unit {0}
Names child (c ∷ cs) [] = Unit {0}
Names child (c ∷ cs) (x ∷ xs) = (child c ≡ x) × Names child cs xs

names-other : (child : ℕ → List Event) (c : ℕ) (x : List Event) (cs : List ℕ) (xs : List (List Event)) → AllByRecursion (λ (d : ℕ). c < d) cs → Names child cs xs → Names (λ d. cond (eqb d c) x (child d)) cs xs
names-other child c x (d ∷ cs) (y ∷ xs) h n =
    let l : c < d = h.0 in
    let other : eqb d c ≡ false = ne_eqb d c (omega arith) in
    (rw other n.0, names-other child c x cs xs h.1 n.1)
names-other child c x cs xs h n = tt

names-child_at : (cs : List ℕ) (xs : List (List Event)) → IsRising cs → Names (child_at cs xs) cs xs
names-child_at (c ∷ cs) (x ∷ xs) r =
    (rw (eq-eqb c c refl) refl, names-other (child_at cs xs) c x cs xs r.0 (names-child_at cs xs r.1))
names-child_at cs xs r = tt

pub child-all : (P : List Event → Type 0) → P [] → (cs : List ℕ) (xs : List (List Event)) → AllByRecursion P xs → (d : ℕ) → P (child_at cs xs d)
child-all P none (c ∷ cs) (x ∷ xs) h d = by_test (eqb d c) (λ e. rw e h.0) (λ e. rw e (child-all P none cs xs h.1 d))
child-all P none cs xs h d = none

-- ---- link ends

ends-of : (f : ℕ → Option ℕ) (n : ℕ) → ((k q : ℕ) → f k ≡ Some q → q < n) → (o : Option Link) → IfSome (option_map (with_ends f) o) (EachEnd (λ k. k < n))
ends-of f n h None = tt
ends-of f n h (Some l) = (end l.previous, end l.next)
  where
    end : (o : Option ℕ) → IfSome (option_and_then f o) (λ q. q < n)
    end None = tt
    end (Some k) = by_option (f k) (λ e. rw e tt) (λ q e. rw e (h k q e))

ends-placed : (child : ℕ → List Event) (xs : List Event) (ts us : List Tagged) → AreSourced child xs us → AllByRecursion (EndsBelow (length ts)) (placed_in ts us)
ends-placed child xs ts [] h = tt
ends-placed child xs ts (u ∷ us) h =
    (ends-of (placed_end ts u.identity) (length ts) (end-inside child xs ts u.identity u.event h.0) u.event.link, ends-placed child xs ts us h.1)

-- ---- the chains of a list

module _ (tab : ℕ) (bytes : List ℕ) (wanted : Option Content) (events : List Event) (ready : IsReady tab bytes wanted events) where
  others : (cs : List ℕ) (children : List (List Event)) → IsRising cs → AllByRecursion (IsWholeFrom events) cs → AreOthers (divided_over events cs children)
  others (c ∷ cs) (child ∷ children) r w = (differ events c (first_chunk (chain_of events c)) cs children (ap first_chunk w.0.1) r.0 w.1, others cs children r.1 w.1)
  others cs children r w = tt

  sourced-chains : (child : ℕ → List Event) (cs : List ℕ) (children : List (List Event)) → Names child cs children → AllByRecursion (IsWholeFrom events) cs
      → AllByRecursion (λ (w : Change). AreSourced child events w.events) (flat_map chain_changes (divided_over events cs children))
  sourced-chains child (c ∷ cs) (x ∷ children) n w =
      let rest : List Change = flat_map chain_changes (divided_over events cs children) in
      let ends : List Point = map (λ k. place_at events (k + 1)) w.0.0 in
      subst (λ (ks : List ℕ). AllByRecursion (λ (v : Change). AreSourced child events v.events) (part_changes (first_chunk ks) 0 ks (parts (map (λ k. place_at events (k + 1)) ks) x) ++ rest)) (sym w.0.1)
      (sourced-parts child events c 0 (c ∷ w.0.0) (parts (place_at events (c + 1) ∷ ends) x) rest
      (λ k. let z : 0 + k ≡ k = omega arith in ap (slice_get (child c)) z ∙ ap (λ es. slice_get es k) (n.0 ∙ sym (joined-parts (place_at events (c + 1)) ends x)))
      (sourced-chains child cs children n.1 w.1))
  sourced-chains child cs children n w = tt

  module _ (children : List (List Event)) where
    -- the changes of the children, and the events after them with their names
    abbrev changes : List Change
    changes = child_changes wanted events children

    abbrev named : List Tagged
    named = woven changes 0 events

    -- the child of the chain that begins at an index
    abbrev pub child_of : ℕ → List Event
    child_of = child_at (fitting_starts wanted events) children

    rises : IsRising (fitting_starts wanted events)
    rises = rising (begins wanted events) (length events) 0

    -- each event is one of the list or of a child
    pub all-sourced : AreSourced child_of events named
    all-sourced =
        let cs : List ℕ = fitting_starts wanted events in
        let whole = (follow_one_another tab bytes wanted events ready).whole in
        sourced-woven child_of events changes 0 events (sourced-chains child_of cs children (names-child_at cs children rises) whole) (λ k. ap (slice_get events) (zero-add k))

    -- and is there once
    pub all-once : AreOnce named
    all-once =
        let cs : List ℕ = fitting_starts wanted events in
        let a = changes_are_apart tab bytes wanted events children ready in
        let whole = (follow_one_another tab bytes wanted events ready).whole in
        let apart : AreApart 0 changes (0 + length events) = rw zero-add a.apart in
        subst AreOnce (sym (woven-pass changes 0 events apart))
        (once-pass changes 0 events (λ n. recursion_from_All (λ w. place_in (of_list n) w.events ≡ None) changes (a.fresh n))
        (once-chains (divided_over events cs children) (others cs children rises whole)) apart)

  pub children_fit : (children : List (List Event)) → ChildrenFit wanted events children
  children_fit children =
      let a = changes_are_apart tab bytes wanted events children ready in
      let cs : List ℕ = fitting_starts wanted events in
      let ws : List Change = child_changes wanted events children in
      let ts : List Tagged = woven ws 0 events in
      let sourced : AreSourced (child_at cs children) events ts = all-sourced children in
      let once : AreOnce ts = all-once children in
      record {
        balanced = with_children_balanced tab bytes wanted events ready children;
        inside = subst (λ (n : ℕ). All (EndsBelow n) (placed ts)) (sym (length-map ts (λ (u : Tagged). relinked (placed_end ts u.identity) u.event)))
            (All-from_recursion (EndsBelow (length ts)) (placed ts) (ends-placed (child_at cs children) events ts ts sourced));
        chained = λ h.
            mutual-placed (child_at cs children) events ts sourced once ready.joined (child-all AreMutual (λ i j. ((λ e. absurd (none-some j e)), (λ e. absurd (none-some i e)))) cs children h);
        tight = with_children_tight tab bytes wanted events children ready;
        stays = stays_unless_removed ws events a.fresh;
        links = keeps_links ws events a.fresh;
      }
