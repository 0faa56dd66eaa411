-- Where chains of chunks are replaced by what they are read as, each event is of the list or of what is put in, but for the ends of its link.
use Rattle.mddocument_laws.proofs.Prelude.{ℕ, ◌+◌, ◌==◌, List, [], ◌∷◌, ◌++◌, Option, drop, length, map, cond_both, AllByRecursion, flat_map, prefix_len, if◌then◌else◌, every-append, every-drop, every-take, Content, Event, Point, relinked, stands_before, Change, Tagged, as_listed, changed, events_at, is_removed, placed_end, placed_in, woven, chain_of, fitting_starts, chain_changes, child_changes, first_chunk, part_changes, tagged_child, with_children, divided, divided_over, front_until, parts, place_at, not}

module _ (P : Event → Type 0) where
  abbrev pub Are : List Event → Type 0
  Are es = AllByRecursion P es

  abbrev pub AreTagged : List Tagged → Type 0
  AreTagged ts = AllByRecursion (λ (t : Tagged). P t.event) ts

  abbrev pub AreChanges : List Change → Type 0
  AreChanges ws = AllByRecursion (λ (w : Change). AreTagged w.events) ws

  tagged-both : (ts us : List Tagged) → AreTagged ts → AreTagged us → AreTagged (ts ++ us)
  tagged-both ts us h k = every-append (λ (t : Tagged). P t.event) ts us h k

  coming : (ws : List Change) (i : ℕ) → AreChanges ws → AreTagged (events_at ws i)
  coming [] i h = tt
  coming (w ∷ ws) i h = tagged-both (if w.index == i then w.events else []) (events_at ws i) (cond_both (w.index == i) w.events [] AreTagged (λ e. h.0) (λ e. tt)) (coming ws i h.1)

  woven-are : (ws : List Change) (i : ℕ) (es : List Event) → AreChanges ws → Are es → AreTagged (woven ws i es)
  woven-are ws i [] w h = coming ws i w
  woven-are ws i (e ∷ es) w h =
      tagged-both (events_at ws i) ((if is_removed ws i then [] else as_listed i e ∷ []) ++ woven ws (i + 1) es) (coming ws i w)
      (tagged-both (if is_removed ws i then [] else as_listed i e ∷ []) (woven ws (i + 1) es) (cond_both (is_removed ws i) [] (as_listed i e ∷ []) AreTagged (λ x. tt) (λ x. (h.0, tt))) (woven-are ws (i + 1) es w h.1))

  -- ---- children
  child-are : (c j : ℕ) (es : List Event) → Are es → AreTagged (tagged_child c j es)
  child-are c j [] h = tt
  child-are c j (e ∷ es) h = (h.0, child-are c (j + 1) es h.1)

  front-are : (end : Point) (es : List Event) → Are es → Are (front_until end es)
  front-are end es h = every-take P (prefix_len (λ (e : Event). not (stands_before end e.point)) es) es h

  left-are : (n : ℕ) (es : List Event) → Are es → Are (drop n es)
  left-are n es h = every-drop P n es h

  parts-are : (ends : List Point) (es : List Event) → Are es → AllByRecursion Are (parts ends es)
  parts-are [] es h = tt
  parts-are (end ∷ []) es h = (h, tt)
  parts-are (end ∷ next ∷ ends) es h = (front-are end es h, parts-are (next ∷ ends) (drop (length (front_until end es)) es) (left-are (length (front_until end es)) es h))

  part-changes-are : (c j : ℕ) (ks : List ℕ) (ps : List (List Event)) → AllByRecursion Are ps → AreChanges (part_changes c j ks ps)
  part-changes-are c j [] ps h = tt
  part-changes-are c j (k ∷ ks) [] h = tt
  part-changes-are c j (k ∷ ks) (p ∷ ps) h = (child-are c j p h.0, part-changes-are c (j + length p) ks ps h.1)

  pub divided-are : (es : List Event) (cs : List ℕ) (children : List (List Event)) → AllByRecursion Are children → AreChanges (flat_map chain_changes (divided_over es cs children))
  divided-are es [] children h = tt
  divided-are es (c ∷ cs) [] h = tt
  divided-are es (c ∷ cs) (child ∷ children) h =
      let d = divided es c child in
      every-append (λ (w : Change). AreTagged w.events) (chain_changes d) (flat_map chain_changes (divided_over es cs children))
      (part-changes-are (first_chunk d.chunks) 0 d.chunks d.parts (parts-are (map (λ k. place_at es (k + 1)) (chain_of es c)) child h.0)) (divided-are es cs children h.1)

  pub read-are : (of_chain : ℕ → List Event) (cs : List ℕ) → ((c : ℕ) → Are (of_chain c)) → AllByRecursion Are (map of_chain cs)
  read-are of_chain [] h = tt
  read-are of_chain (c ∷ cs) h = (h c, read-are of_chain cs h)

  -- the ends of links do not matter
  module _ (moved : (f : ℕ → Option ℕ) (e : Event) → P e → P (relinked f e)) where
    placed-are : (ts us : List Tagged) → AreTagged us → Are (placed_in ts us)
    placed-are ts [] h = tt
    placed-are ts (u ∷ us) h = (moved (placed_end ts u.identity) u.event h.0, placed-are ts us h.1)

    changed-are : (ws : List Change) (es : List Event) → AreChanges ws → Are es → Are (changed ws es)
    changed-are ws es w h = placed-are (woven ws 0 es) (woven ws 0 es) (woven-are ws 0 es w h)

    -- Chains are replaced by what each is read as
    pub children-are : (wanted : Option Content) (es : List Event) (of_chain : ℕ → List Event) → Are es → ((c : ℕ) → Are (of_chain c)) → Are (with_children wanted es (map of_chain (fitting_starts wanted es)))
    children-are wanted es of_chain h k =
        let cs = fitting_starts wanted es in
        changed-are (child_changes wanted es (map of_chain cs)) es (divided-are es cs (map of_chain cs) (read-are of_chain cs k)) h
