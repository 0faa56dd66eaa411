-- No chunks of a list that accounts for a document tear a void span of a child that is cut into atoms.
--
-- Where a mark comes between two chunks, the child is cut between two atoms, so the part before it ends with an exit. Elsewhere nothing is
-- between two chunks, and a void span may go on.
use Rattle.mdinline_text_machine.proofs.Prelude.{◌≡◌, ℕ, ◌+◌, ◌<◌, ◌∷◌, ◌++◌, [], List, true, Some, inl, inr, refl, sym, ◌∙◌, ap, subst, drop, length, map, flat_map, AllByRecursion, append_assoc, append-nil, Event, Enter, Exit, Point, Seat, virtual, end_after, next_of, Given, fits, AreSpaced, LeadOnFrom, IsWholeFrom, front_until, parts, IsReady, place_at, fits_next, chain_of, fitting_starts, divided_over, starts_fit, follow_one_another, range_with_len, text_of_chain, chain_text, AccountFor}
use Rattle.markdown_base.specs.declared.event.Content.TheVariants.{Text as TextContent}
use Rattle.markdown_base.specs.declared.event.Name.{Name}
use Rattle.markdown_children.specs.LawStatements.{EndsInVoidEnter, StandSideBySide, IsTornNowhere, NoneTorn}
use Rattle.markdown_children.specs.Parts.{Divided}
use Rattle.mdconstructs_machines.specs.Spans.{event}
use Rattle.mdinline_text_machine.proofs.DeepSpans.Atoms.{Atom, IsCut, all_at, events_of}
use Rattle.mdinline_text_machine.proofs.DeepSpans.Chunks.{chunk_seats, chain-seats, Stands, has-chunk}
use Rattle.mdinline_text_machine.proofs.DeepSpans.Chains.{Comes, cut-at-mark, comes-directly}
use Rattle.mdinline_text_machine.proofs.Paragraphs.ChunkPairs.{FollowsChunk}
use Rattle.markdown_children.proofs.Parts.Untorn.{goes-on-side}

-- ---- how lists of events end
-- what is in front does not matter
open-more : (e : Event) (zs : List Event) → EndsInVoidEnter zs → EndsInVoidEnter (e ∷ zs)
open-more e [] h = absurd h
open-more e (z ∷ zs) h = h

open-back : (xs ys : List Event) → EndsInVoidEnter ys → EndsInVoidEnter (xs ++ ys)
open-back [] ys h = h
open-back (x ∷ xs) ys h = open-more x (xs ++ ys) (open-back xs ys h)

-- no void span is open behind an exit
exit-shut : (e : Event) (zs : List Event) → e.kind ≡ Exit → (EndsInVoidEnter zs → ⊥) → EndsInVoidEnter (e ∷ zs) → ⊥
exit-shut e [] exits shut h = let no : Exit ≡ Enter = sym exits ∙ h.0 in absurd (cc)
exit-shut e (z ∷ zs) exits shut h = shut h

back-shut : (xs : List Event) (y : Event) (ys : List Event) → (EndsInVoidEnter (y ∷ ys) → ⊥) → EndsInVoidEnter (xs ++ y ∷ ys) → ⊥
back-shut [] y ys shut h = shut h
back-shut (x ∷ []) y ys shut h = shut h
back-shut (x ∷ w ∷ xs) y ys shut h = back-shut (w ∷ xs) y ys shut h

module _ (bytes : List ℕ) where
  exits-shut : (p : Point) (names : List Name) (zs : List Event) → (EndsInVoidEnter zs → ⊥) → EndsInVoidEnter (all_at bytes Exit p names ++ zs) → ⊥
  exits-shut p [] zs shut h = shut h
  exits-shut p (n ∷ ns) zs shut h = exit-shut (event bytes Exit n p) (all_at bytes Exit p ns ++ zs) refl (exits-shut p ns zs shut) h

  -- so atoms end with an exit
  atoms-shut : (atoms : List Atom) → EndsInVoidEnter (events_of bytes atoms) → ⊥
  atoms-shut [] h = h
  atoms-shut (a ∷ atoms) h =
      let end = end_after a.first.end a.others in
      let enter = event bytes Enter a.name a.first.point in
      let exit = event bytes Exit a.name end in
      let enters = all_at bytes Enter a.first.point a.enters in
      let exits = all_at bytes Exit end a.exits in
      let others = events_of bytes atoms in
      back-shut enters enter (exit ∷ (exits ++ others)) (exit-shut exit (exits ++ others) refl (exits-shut end a.exits others (atoms-shut atoms)))
      (subst EndsInVoidEnter (append_assoc enters (enter ∷ exit ∷ exits) others) h)

-- ---- the parts of a child

module _ (g : Given) (some : 0 < g.tab) (events : List Event) (ready : IsReady g.tab g.bytes (Some TextContent) events)
    (pairs : (k d : ℕ) → next_of events k ≡ Some d → FollowsChunk events k d) where
  -- the parts from a chunk on: its own, and the others
  abbrev parts_from : ℕ → List ℕ → List Event → List (List Event)
  parts_from k ks es = parts (map (λ i. place_at events (i + 1)) (k ∷ ks)) es

  abbrev first_part : ℕ → List ℕ → List Event → List Event
  first_part k [] es = es
  first_part k (d ∷ ks) es = front_until (place_at events (k + 1)) es

  abbrev other_parts : ℕ → List ℕ → List Event → List (List Event)
  other_parts k [] es = []
  other_parts k (d ∷ ks) es = parts_from d ks (drop (length (front_until (place_at events (k + 1)) es)) es)

  parts-are : (k : ℕ) (ks : List ℕ) (es : List Event) → parts_from k ks es ≡ first_part k ks es ∷ other_parts k ks es
  parts-are k [] es = refl
  parts-are k (d ∷ ks) es = refl

  -- what was read before a chunk
  abbrev Before : ℕ → List ℕ → (read left : List Event) → List Seat → Seat → List Seat → List Seat → Type 0
  Before = Comes g some events ready pairs

  -- if a void span is open behind the part of a chunk, nothing is between the chunk and the next one, up to one whose part has events
  side : (k : ℕ) (ks more : List ℕ) (read left : List Event) (pre : List Seat) (s : Seat) (ss behind : List Seat) → fits (Some TextContent) events k ≡ true
      → LeadOnFrom events k ks → AreSpaced (k + 2) (ks ++ more) (length events) → Before k ks read left pre s ss behind
      → EndsInVoidEnter (read ++ first_part k ks left) → StandSideBySide k ks (other_parts k ks left)
  side k [] more read left pre s ss behind fit lead spaced h v = tt
  side k (d ∷ ks) more read left pre s ss behind fit lead spaced h v =
      let front = front_until (place_at events (k + 1)) left in
      let rest = drop (length front) left in
      let fit_next = fits_next g.tab g.bytes (Some TextContent) events ready k d fit lead.0 in
      let chunk = has-chunk g some events ready (k + 2) d (pre ++ (s ∷ ss)) behind fit_next spaced.0 h.stands in
      elim (pairs k d lead.0) [
        | inl directly ↦
            let next = comes-directly g some events ready pairs k d ks read left pre s ss behind fit lead.0 directly.0 directly.1 h chunk in
            subst (StandSideBySide k (d ∷ ks)) (sym (parts-are d ks rest)) (goes-on-side k d ks (first_part d ks rest) (other_parts d ks rest) directly.0 (λ none.
            side d ks more (read ++ front) rest pre s (ss ++ chunk.first ∷ chunk.others) chunk.behind fit_next lead.2 spaced.1 next
            (subst EndsInVoidEnter (sym (ap (λ q. (read ++ front) ++ q) none ∙ append-nil (read ++ front))) v)))
        | inr marked ↦
            let cut = cut-at-mark g some events ready pairs k d ks read left pre s ss behind marked.0 marked.1 marked.2 h chunk in
            absurd (atoms-shut g.bytes cut.0 (subst EndsInVoidEnter cut.2 v))
      ]

  -- from a chunk on no chunks tear a void span of the child; and what holds behind the chain holds
  untorn : (Later : Type 0) (k : ℕ) (ks more : List ℕ) (read left : List Event) (pre : List Seat) (s : Seat) (ss behind : List Seat) → fits (Some TextContent) events k ≡ true
      → LeadOnFrom events k ks → AreSpaced (k + 2) (ks ++ more) (length events)
      → ((m : ℕ) → AreSpaced m more (length events) → (pre rest : List Seat) → Stands g some events m pre rest → Later)
      → Before k ks read left pre s ss behind → IsTornNowhere (k ∷ ks) (parts_from k ks left) × Later
  untorn Later k [] more read left pre s ss behind fit lead spaced later h = (((λ v. tt), tt), later (k + 2) spaced (pre ++ (s ∷ ss)) behind h.stands)
  untorn Later k (d ∷ ks) more read left pre s ss behind fit lead spaced later h =
      let front = front_until (place_at events (k + 1)) left in
      let rest = drop (length front) left in
      let fit_next = fits_next g.tab g.bytes (Some TextContent) events ready k d fit lead.0 in
      let chunk = has-chunk g some events ready (k + 2) d (pre ++ (s ∷ ss)) behind fit_next spaced.0 h.stands in
      let here : EndsInVoidEnter front → StandSideBySide k (d ∷ ks) (parts_from d ks rest) = λ v. side k (d ∷ ks) more read left pre s ss behind fit lead spaced h (open-back read front v) in
      let others : IsTornNowhere (d ∷ ks) (parts_from d ks rest) × Later = elim (pairs k d lead.0) [
        | inl directly ↦
            let next = comes-directly g some events ready pairs k d ks read left pre s ss behind fit lead.0 directly.0 directly.1 h chunk in
            untorn Later d ks more (read ++ front) rest pre s (ss ++ chunk.first ∷ chunk.others) chunk.behind fit_next lead.2 spaced.1 later next
        | inr marked ↦
            let cut = cut-at-mark g some events ready pairs k d ks read left pre s ss behind marked.0 marked.1 marked.2 h chunk in
            untorn Later d ks more [] rest ((pre ++ (s ∷ ss)) ++ chunk.before) chunk.first chunk.others chunk.behind fit_next lead.2 spaced.1 later cut.3
      ] in
      ((here, others.0), others.1)

  module _ (of_chain : ℕ → List Event) (cuts : (c : ℕ) → IsCut g.bytes (of_chain c) (chain_text g events c).seats) where
    abbrev AreUntorn : List ℕ → Type 0
    AreUntorn cs = AllByRecursion (λ (d : Divided). IsTornNowhere d.chunks d.parts) (divided_over events cs (map of_chain cs))

    -- chain by chain
    all-untorn : (cs : List ℕ) (i : ℕ) → AllByRecursion (λ c. fits (Some TextContent) events c ≡ true) cs → AllByRecursion (IsWholeFrom events) cs
        → AreSpaced i (flat_map (chain_of events) cs) (length events) → (pre rest : List Seat) → Stands g some events i pre rest → AreUntorn cs
    all-untorn [] i fit whole spaced pre rest stands = tt
    all-untorn (c ∷ cs) i fit whole spaced pre rest stands =
        let ks = whole.0.0 in
        let is : chain_of events c ≡ c ∷ ks = whole.0.1 in
        let more = flat_map (chain_of events) cs in
        let child = of_chain c in
        let apart : AreSpaced i (c ∷ (ks ++ more)) (length events) = subst (λ (ys : List ℕ). AreSpaced i (ys ++ more) (length events)) is spaced in
        let cut = subst (IsCut g.bytes child) (ap (λ l. (text_of_chain g events l).seats) is ∙ chain-seats g events c ks) (cuts c) in
        let chunk = has-chunk g some events ready i c pre rest fit.0 apart.0 stands in
        let further = λ (m : ℕ) (spaced : AreSpaced m more (length events)) (p r : List Seat) (there : Stands g some events m p r). all-untorn cs m fit.1 whole.1 spaced p r there in
        let both = untorn (AreUntorn cs) c ks more [] child (pre ++ chunk.before) chunk.first chunk.others chunk.behind fit.0 whole.0.2 apart.1 further (record {
          stands = chunk.next;
          ends_at = chunk.to;
          atoms = cut.atoms;
          are = cut.are;
          seats_are = sym cut.all ∙ ap (λ l. l ++ flat_map (chunk_seats g events) ks) chunk.text;
          lines = cut.lines;
          upto = tt;
        }) in
        (subst (λ (ys : List ℕ). IsTornNowhere ys (parts (map (λ i. place_at events (i + 1)) ys) child)) (sym is) both.0, both.1)

    pub none-torn : AccountFor events g.bytes (virtual g.tab g.bytes) → NoneTorn (Some TextContent) events (map of_chain (fitting_starts (Some TextContent) events))
    none-torn h =
        let wanted = Some TextContent in
        let starts = fitting_starts wanted events in
        let f = follow_one_another g.tab g.bytes wanted events ready in
        let spaced : AreSpaced 0 (flat_map (chain_of events) starts) (length events) = subst (λ (ks : List ℕ). AreSpaced 0 ks (length events)) (sym f.in_order) f.spaced in
        all-untorn starts 0 (starts_fit g.tab g.bytes wanted events ready (range_with_len 0 (length events))) f.whole spaced [] (virtual g.tab g.bytes) (record { whole = refl; account = h })
