-- A child is divided into parts each of which stands in its chunk, if the child is in order and each of its events is in a chunk.
use Rattle.mddocument.proofs.Prelude.{◌≡◌, ℕ, suc, ◌+◌, true, false, cond, not, inl, inr, ◌⊎◌, List, [], ◌∷◌, Option, length, map, take, drop, refl, sym, ◌∙◌, subst, arith, nat_tests, AllByRecursion, prefix_len, Content, Event, Point, stands_before, chain_of, divided_over, parts, IsReady, place_at}
use Rattle.std.specs.List.{AllZip}
use Rattle.std.specs.Prelude.{AllPairs}
use Rattle.markdown_base.proofs.Orders.{upto-upto}
use Rattle.markdown_children.proofs.ChainOrder.Following.{Fits, fits_next}
use Rattle.markdown_children.specs.LawStatements.{IsWholeFrom, LeadOnFrom}
use Rattle.markdown_children.specs.Parts.{Divided, front_until}
use Rattle.mddocument.proofs.InContainers.Order.{Between, StandIn, Steady, Upto, steady-pairs}

before-later : (a q p : Point) → stands_before a q ≡ true → Upto q p → stands_before a p ≡ true
before-later a q p h k = grind (arith, nat_tests)

module _ (events : List Event) where
  -- a place is in one of these chunks
  abbrev pub InChunks : List ℕ → Point → Type 0
  InChunks [] p = ⊥
  InChunks (k ∷ ks) p = (Upto (place_at events k) p × Upto p (place_at events (k + 1))) ⊎ InChunks ks p

  -- each of these events is
  abbrev pub AllIn : List ℕ → List Event → Type 0
  AllIn ks es = AllByRecursion (λ (e : Event). InChunks ks e.point) es

module _ (At : Point → Type 0) (tab : ℕ) (bytes : List ℕ) (wanted : Option Content) (events : List Event) (ready : IsReady tab bytes wanted events) where
  abbrev start : ℕ → Point
  start k = place_at events k

  abbrev end : ℕ → Point
  end k = place_at events (k + 1)

  -- whatever is in a chain's chunks is not before the first
  chunks-from : (k : ℕ) (ks : List ℕ) → Fits wanted events k → LeadOnFrom events k ks → (p : Point) → InChunks events (k ∷ ks) p → Upto (start k) p
  chunks-from k [] fit lead p h = elim h [
    | inl one ↦ one.0
    | inr none ↦ absurd none
  ]
  chunks-from k (d ∷ ks) fit lead p h = elim h [
    | inl one ↦ one.0
    | inr more ↦
        (let on = chunks-from d ks (fits_next tab bytes wanted events ready k d fit lead.0) lead.2 p more in
        upto-upto (start k) (end k) p (ready.readable k fit).forward (upto-upto (end k) (start d) p (ready.gaps k d fit lead.0).forward on))
  ]

  -- what is behind the end of a chunk is in the chunks behind it
  behind-chunk : (k : ℕ) (ks : List ℕ) (p : Point) → stands_before (end k) p ≡ true → InChunks events (k ∷ ks) p → InChunks events ks p
  behind-chunk k ks p h i = elim i [
    | inl one ↦ absurd (let no : true ≡ false = sym h ∙ one.1 in cc)
    | inr more ↦ more
  ]

  all-behind : (k : ℕ) (ks : List ℕ) (q : Point) → stands_before (end k) q ≡ true → (es : List Event) → Steady At q es → AllIn events (k ∷ ks) es → AllIn events ks es
  all-behind k ks q h [] steady i = tt
  all-behind k ks q h (e ∷ es) steady i =
      let later = before-later (end k) q e.point h steady.0 in
      (behind-chunk k ks e.point later i.0, all-behind k ks e.point later es steady.2 i.1)

  -- the first events are the chunk's, and the others are the next ones'
  abbrev IsSplit : (k d : ℕ) (ks : List ℕ) (p : Point) (es : List Event) (n : ℕ) → Type 0
  IsSplit k d ks p es n = let rest = drop (length (take n es)) es in Between At p (take n es) (end k) × Steady At (start d) rest × AllIn events (d ∷ ks) rest

  splits : (k d : ℕ) (ks : List ℕ) → Fits wanted events d → LeadOnFrom events d ks → (p : Point) → Upto p (end k) → (es : List Event) → Steady At p es → AllIn events (k ∷ d ∷ ks) es
      → IsSplit k d ks p es (prefix_len (λ (e : Event). not (stands_before (end k) e.point)) es)
  splits k d ks fit lead p upto [] steady i = (upto, tt, tt)
  splits k d ks fit lead p upto (e ∷ es) steady i =
      let n = prefix_len (λ (e : Event). not (stands_before (end k) e.point)) es in
      elim (stands_before (end k) e.point) as (λ t. stands_before (end k) e.point ≡ t → IsSplit k d ks p (e ∷ es) (cond (not t) (1 + n) 0)) [
        | true ↦ λ is.
            let here = behind-chunk k (d ∷ ks) e.point is i.0 in
            (upto, (chunks-from d ks fit lead e.point here, steady.1, steady.2), (here, all-behind k (d ∷ ks) e.point is es steady.2 i.1))
        | false ↦ λ is.
            let more = splits k d ks fit lead e.point is es steady.2 i.1 in
            let one : suc n ≡ 1 + n = omega arith in
            subst (IsSplit k d ks p (e ∷ es)) one ((steady.0, steady.1, more.0), more.1, more.2)
      ] refl

  last-part : (k : ℕ) (p : Point) → Upto p (end k) → (es : List Event) → Steady At p es → AllIn events (k ∷ []) es → Between At p es (end k)
  last-part k p upto [] steady i = upto
  last-part k p upto (e ∷ es) steady i =
      let here : Upto e.point (end k) = elim i.0 [
        | inl one ↦ one.1
        | inr none ↦ absurd none
      ] in (steady.0, steady.1, last-part k e.point here es steady.2 i.1)

  pub parts-stand : (k : ℕ) (ks : List ℕ) → Fits wanted events k → LeadOnFrom events k ks → (es : List Event) → Steady At (start k) es → AllIn events (k ∷ ks) es
      → StandIn At tab bytes wanted events ready (k ∷ ks) (parts (map (λ k. place_at events (k + 1)) (k ∷ ks)) es)
  parts-stand k [] fit lead es steady i = (last-part k (start k) (ready.readable k fit).forward es steady i, tt)
  parts-stand k (d ∷ ks) fit lead es steady i =
      let next = fits_next tab bytes wanted events ready k d fit lead.0 in
      let cut = splits k d ks next lead.2 (start k) (ready.readable k fit).forward es steady i in
      (cut.0, parts-stand d ks next lead.2 (drop (length (front_until (end k) es)) es) cut.1 cut.2)

  -- a child is in order from where its chain starts, and each event in its chunks
  abbrev pub StandsWell : ℕ → List Event → Type 0
  StandsWell c child = Steady At (start c) child × AllIn events (chain_of events c) child

  pub children-stand : (cs : List ℕ) (children : List (List Event)) → AllByRecursion (Fits wanted events) cs → AllByRecursion (IsWholeFrom events) cs → AllZip StandsWell cs children
      → AllByRecursion (λ (d : Divided). StandIn At tab bytes wanted events ready d.chunks d.parts) (divided_over events cs children)
  children-stand [] children fit whole h = tt
  children-stand (c ∷ cs) [] fit whole h = tt
  children-stand (c ∷ cs) (child ∷ children) fit whole h =
      let ks = whole.0.0 in
      let is : chain_of events c ≡ c ∷ ks = whole.0.1 in
      let here = parts-stand c ks fit.0 whole.0.2 child h.0.0 (subst (λ (l : List ℕ). AllIn events l child) is h.0.1) in (
        subst (λ (l : List ℕ). StandIn At tab bytes wanted events ready l (parts (map (λ k. place_at events (k + 1)) l) child)) (sym is) here,
        children-stand cs children fit.1 whole.1 h.1,
      )

  -- in order, and in its chunks, it is in order from where its chain starts
  pub well-ordered : (c : ℕ) (child : List Event) → Fits wanted events c → IsWholeFrom events c → AllPairs (λ (e f : Event). Upto e.point f.point) child → AllByRecursion (λ (e : Event). At e.point) child
      → AllIn events (chain_of events c) child → StandsWell c child
  well-ordered c [] fit whole pairs at i = (tt, tt)
  well-ordered c (e ∷ es) fit whole pairs at i =
      let first = chunks-from c whole.0 fit whole.2 e.point (subst (λ (l : List ℕ). InChunks events l e.point) whole.1 i.0) in ((first, at.0, steady-pairs At e es pairs at.1), i)
