-- The events of the list with children stand at places, if those of the list and of the children do.
use Rattle.markdown_children.proofs.Prelude.{ℕ, ◌+◌, cond, eqb, List, [], ◌∷◌, ◌++◌, length, map, flat_map, Option, sym, subst, AllByRecursion, All-from_recursion, recursion_from_All, every-append, every-back, every-cond, every-front, every-map, Content, Event, Point, IsPointOf, AreAtPlaces, Change, Tagged, as_listed, events_at, is_removed, placed_in, woven, chain_of, chain_changes, child_changes, first_chunk, part_changes, tagged_child, with_children, divided, divided_over, fitting_starts, parts, place_at}
use Rattle.markdown_children.proofs.Parts.Kept.{joined, joined-parts}

module _ (t : ℕ) (bytes : List ℕ) where
  abbrev Stands : Event → Type 0
  Stands e = IsPointOf t bytes e.point

  abbrev Stand : List Event → Type 0
  Stand es = AllByRecursion Stands es

  abbrev StandTagged : List Tagged → Type 0
  StandTagged us = AllByRecursion (λ (u : Tagged). Stands u.event) us

  abbrev Come : List Change → Type 0
  Come ws = AllByRecursion (λ (w : Change). StandTagged w.events) ws

  come-at : (ws : List Change) (i : ℕ) → Come ws → StandTagged (events_at ws i)
  come-at [] i h = tt
  come-at (w ∷ ws) i h =
      let here = every-cond (λ (u : Tagged). Stands u.event) (eqb w.index i) w.events [] h.0 tt in
      every-append (λ (u : Tagged). Stands u.event) (cond (eqb w.index i) w.events []) (events_at ws i) here (come-at ws i h.1)

  come-woven : (ws : List Change) (i : ℕ) (xs : List Event) → Come ws → Stand xs → StandTagged (woven ws i xs)
  come-woven ws i [] h k = come-at ws i h
  come-woven ws i (x ∷ xs) h k =
      let P = λ (u : Tagged). Stands u.event in
      let stays : List Tagged = cond (is_removed ws i) [] (as_listed i x ∷ []) in
      every-append P (events_at ws i) (stays ++ woven ws (i + 1) xs) (come-at ws i h)
      (every-append P stays (woven ws (i + 1) xs) (every-cond P (is_removed ws i) [] (as_listed i x ∷ []) tt (k.0, tt)) (come-woven ws (i + 1) xs h k.1))

  -- link ends are no part of places
  come-placed : (ts us : List Tagged) → StandTagged us → Stand (placed_in ts us)
  come-placed ts [] h = tt
  come-placed ts (u ∷ us) h = (h.0, come-placed ts us h.1)

  tagged : (c j : ℕ) (es : List Event) → Stand es → StandTagged (tagged_child c j es)
  tagged c j [] h = tt
  tagged c j (e ∷ es) h = (h.0, tagged c (j + 1) es h.1)

  -- the parts of a child are its events
  joined-stand : (ps : List (List Event)) → Stand (joined ps) → AllByRecursion Stand ps
  joined-stand [] h = tt
  joined-stand (p ∷ ps) h = (every-front Stands p (joined ps) h, joined-stand ps (every-back Stands p (joined ps) h))

  parts-stand : (ends : List Point) (es : List Event) → Stand es → AllByRecursion Stand (parts ends es)
  parts-stand [] es h = tt
  parts-stand (end ∷ ends) es h = joined-stand (parts (end ∷ ends) es) (subst Stand (sym (joined-parts end ends es)) h)

  come-parts : (c j : ℕ) (ks : List ℕ) (ps : List (List Event)) (ws : List Change) → AllByRecursion Stand ps → Come ws → Come (part_changes c j ks ps ++ ws)
  come-parts c j [] ps ws h k = k
  come-parts c j (n ∷ ks) [] ws h k = k
  come-parts c j (n ∷ ks) (p ∷ ps) ws h k = (tagged c j p h.0, come-parts c (j + length p) ks ps ws h.1 k)

  come-chains : (events : List Event) (cs : List ℕ) (children : List (List Event)) → AllByRecursion Stand children → Come (flat_map chain_changes (divided_over events cs children))
  come-chains events [] children h = tt
  come-chains events (c ∷ cs) [] h = tt
  come-chains events (c ∷ cs) (child ∷ children) h =
      let d = divided events c child in
      come-parts (first_chunk d.chunks) 0 d.chunks d.parts (flat_map chain_changes (divided_over events cs children))
      (parts-stand (map (λ k. place_at events (k + 1)) (chain_of events c)) child h.0) (come-chains events cs children h.1)

  pub with_children_at_places : (wanted : Option Content) (events : List Event) (children : List (List Event)) → AreAtPlaces t bytes events → AllByRecursion (AreAtPlaces t bytes) children
      → AreAtPlaces t bytes (with_children wanted events children)
  with_children_at_places wanted events children old new =
      let ws : List Change = child_changes wanted events children in
      let ts : List Tagged = woven ws 0 events in
      let come = come-chains events (fitting_starts wanted events) children (every-map (AreAtPlaces t bytes) Stand (λ l h. recursion_from_All Stands l h) children new) in
      All-from_recursion Stands (with_children wanted events children) (come-placed ts ts (come-woven ws 0 events come (recursion_from_All Stands events old)))
