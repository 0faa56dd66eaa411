-- What was read after a configuration keeps its events, up to the ends of their links.
use Rattle.markdown_tokenizer.proofs.Prelude.{◌≡◌, List, [], ◌∷◌, length, refl, sym, ap, ◌∙◌, take, map, take-map, length-map, take-length, Event, unlinked, HasFrontUpToLinkEnds, Configuration, Later, here, added, went_back}

-- a front of a front
front-front : {A : Type 0} (l m s : List A) → take (length m) l ≡ m → take (length s) m ≡ s → take (length s) l ≡ s
front-front l m [] h k = refl
front-front l [] (x ∷ s) h k = absurd (cc)
front-front [] (y ∷ m) (x ∷ s) h k = absurd (cc)
front-front (z ∷ l) (y ∷ m) (x ∷ s) h k =
    let first : z ≡ x = cc in
    let above : take (length m) l ≡ m = cc in
    let below : take (length s) m ≡ s = cc in
    ap (λ w. w ∷ take (length s) l) first ∙ ap (λ r. x ∷ r) (front-front l m s above below)

-- a front, by the events without their link ends
bare-front : (longer shorter : List Event) → take (length (map unlinked shorter)) (map unlinked longer) ≡ map unlinked (take (length shorter) longer)
bare-front longer shorter = ap (λ n. take n (map unlinked longer)) (length-map shorter unlinked) ∙ take-map unlinked (length shorter) longer

module _ {R D : Type 0} where
  pub later-kept : {made now : Configuration R D} → Later made now → HasFrontUpToLinkEnds now.events made.events
  later-kept (here {made = made}) = ap (map unlinked) (take-length made.events)
  later-kept (added {made = made} {k = k} {now = now} since more) =
      sym (bare-front now.events made.events) ∙ front-front (map unlinked now.events) (map unlinked k.events) (map unlinked made.events)
      (bare-front now.events k.events ∙ more) (bare-front k.events made.events ∙ later-kept since)
  later-kept (went_back {made = made} {chosen = chosen} {k = k} since choice) =
      sym (bare-front (take (length chosen.events) k.events) made.events) ∙ ap (take (length (map unlinked made.events))) (later-kept choice)
      ∙ bare-front chosen.events made.events ∙ later-kept since
