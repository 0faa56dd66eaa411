-- Chains of one content, where children without links have come for those of another: they are in the new list as they were.
use Rattle.std.proofs.Common.{◌≡◌, ℕ, ◌+◌, ◌<◌, true, false, List, [], ◌∷◌, length, map, Option, Some, None, refl, sym, ◌∙◌, ap, subst, arith}
use Rattle.std.proofs.lemmas.Bool.{and_parts}
use Rattle.std.proofs.lemmas.Option.{none-some, same_Some, slice_get_within}
use Rattle.std.specs.List.{AllByRecursion, range_with_len}
use Rattle.std.specs.Option.{option_and_then, option_map}
use Rattle.std.specs.Prelude.{◌&&◌, is_none, is_some, not, slice_get, unwrap_or}
use Rattle.markdown_base.specs.Events.{IsBalanced}
use Rattle.markdown_base.specs.declared.event.Content.{Content}
use Rattle.markdown_base.specs.declared.event.Event.{Event}
use Rattle.markdown_base.specs.declared.event.Link.{Link}
use Rattle.markdown_edits.proofs.Edits.Survivors.{keeps_order, next_moved, previous_moved, stays_unless_removed}
use Rattle.markdown_edits.specs.Links.{next_of, previous_of}
use Rattle.markdown_edits.specs.Woven.{Change, is_removed, of_list, place_in}
use Rattle.markdown_tokenizer.specs.Plain.{HaveNoLinks}
use Rattle.markdown_tokenizer.specs.Text.{Given, empty_text, followed_by_all, passed, pushed}
use Rattle.markdown_children.specs.Chains.{begins, chain_of, content_at, fits, fitting_starts, some_fits}
use Rattle.markdown_children.specs.Children.{chain_changes, child_changes, first_chunk, part_changes, with_children}
use Rattle.markdown_children.specs.LawStatements.{LeadOnFrom, NoneTorn}
use Rattle.markdown_children.specs.Parts.{divided, parts}
use Rattle.markdown_children.specs.Reads.{pieces_behind, text_from, text_of_chain}
use Rattle.markdown_children.specs.Ready.{IsChunk, IsReady, place_at}
use Rattle.markdown_children.proofs.ChainOrder.Following.{by_option, chunk, chunks-apart, whole-from}
use Rattle.markdown_children.proofs.ChainOrder.Spaced.{changes_are_apart}
use Rattle.markdown_children.proofs.Parts.Edits.{IsRising, rising}
use Rattle.markdown_children.proofs.Parts.InShape.{child-all}
use Rattle.markdown_children.proofs.Parts.Staying.{IsOrigin, alone-ready, child, each-ready, kept-content, kept-place, list-origin, no-content, ready-new, ts}
use Rattle.markdown_children.proofs.Parts.Untorn.{none-cut}
use Rattle.markdown_children.proofs.Parts.Weaves.{AreCutNowhere}
use Rattle.mdinline_text_machine.proofs.Paragraphs.ChainEvents.{is-content}
use Rattle.mddocument.proofs.InContainers.Removed.{clear-stays, listed, of_kid, origin-of}
use Rattle.mddocument.proofs.InContainers.Rising.{In, all-in, filter-in, in-all, in-filter, in-map, in-map-back, rising-same}

-- no value is none elsewhere either
still-none : (f : ℕ → ℕ) (o : Option ℕ) → is_none (option_map f o) ≡ is_none o
still-none f None = refl
still-none f (Some n) = refl

module _ (g : Given) (events : List Event) (ready : IsReady g.tab g.bytes None events) (a b : Content) (others : some_fits (Some a) (Some b) ≡ false) (self : some_fits (Some b) (Some b) ≡ true)
    (children : List (List Event)) (alone : AllByRecursion HaveNoLinks children) (balanced : AllByRecursion IsBalanced children) (torn : NoneTorn (Some a) events children) where
  pub ready_a : IsReady g.tab g.bytes (Some a) events
  ready_a = each-ready g.tab g.bytes events ready a

  pub ready_b : IsReady g.tab g.bytes (Some b) events
  ready_b = each-ready g.tab g.bytes events ready b

  abbrev mid : List Event
  mid = with_children (Some a) events children

  abbrev ws : List Change
  ws = child_changes (Some a) events children

  each-kid : (xs : List (List Event)) → AllByRecursion HaveNoLinks xs → AllByRecursion IsBalanced xs → AllByRecursion (IsReady g.tab g.bytes (Some b)) xs
  each-kid [] h k = tt
  each-kid (x ∷ xs) h k = (alone-ready g.tab g.bytes (Some b) x k.0 h.0, each-kid xs h.1 k.1)

  kids : AllByRecursion (IsReady g.tab g.bytes (Some b)) children
  kids = each-kid children alone balanced

  cut : AreCutNowhere g.tab g.bytes (Some a) events ready_a (fitting_starts (Some a) events) children
  cut = none-cut (Some a) events children torn

  ready_mid : IsReady g.tab g.bytes (Some b) mid
  ready_mid = ready-new g.tab g.bytes (Some a) events ready_a children (Some b) ready_b kids cut

  origin : IsOrigin g.tab g.bytes (Some a) events ready_a children (Some b) of_list events
  origin = list-origin g.tab g.bytes (Some a) events ready_a children (Some b) ready_b kids cut

  abbrev place : ℕ → Option ℕ
  place n = place_in (of_list n) (ts g.tab g.bytes (Some a) events ready_a children)

  -- the new index of an event that stays
  abbrev pub moved : ℕ → ℕ
  moved n = unwrap_or (place n) 0

  pub moved-is : (n p : ℕ) → place n ≡ Some p → moved n ≡ p
  moved-is n p e = ap (λ o. unwrap_or o 0) e

  abbrev pub IsOther : ℕ → Type 0
  IsOther k = content_at events k ≡ Some b

  fits-old : (k : ℕ) → IsOther k → fits (Some b) events k ≡ true
  fits-old k h = ap (some_fits (Some b)) h ∙ self

  chunk-of : (k : ℕ) → IsOther k → IsChunk events k
  chunk-of k h = ready.chunks k b h

  -- ---- it stays
  stays : (k : ℕ) → IsOther k → is_removed ws k ≡ false
  stays k h = clear-stays g.tab g.bytes (Some a) events ready_a children k (λ i fit. (
    (λ e. let no : false ≡ true = sym others ∙ sym (ap (some_fits (Some a)) h) ∙ ap (λ n. some_fits (Some a) (content_at events n)) (sym e) ∙ fit in absurd (cc)),
    chunks-apart events i k (chunk g.tab g.bytes (Some a) events ready_a i fit) (chunk-of k h),
  ))

  pub kept : (k : ℕ) → IsOther k → place k ≡ Some (moved k)
  kept k h = by_option (place k)
      (λ n.
      let c = chunk-of k h in
      let within = slice_get_within events k c.enter c.enter_at in
      let there = stays_unless_removed ws events (changes_are_apart g.tab g.bytes (Some a) events children ready_a).fresh k within in
      let no : false ≡ true = sym (ap is_some n) ∙ there ∙ ap not (stays k h) in
      absurd (cc))
      (λ p e. e ∙ ap Some (sym (moved-is k p e)))

  same-content : (n p : ℕ) → place n ≡ Some p → content_at mid p ≡ content_at events n
  same-content n p e = kept-content g.tab g.bytes (Some a) events ready_a children (Some b) ready_b kids cut of_list events origin n p e

  same-place : (n p : ℕ) → place n ≡ Some p → place_at mid p ≡ place_at events n
  same-place n p e = kept-place g.tab g.bytes (Some a) events ready_a children (Some b) ready_b kids cut of_list events origin n p e

  content-new : (k : ℕ) → IsOther k → content_at mid (moved k) ≡ Some b
  content-new k h = same-content k (moved k) (kept k h) ∙ h

  fits-new : (k : ℕ) → IsOther k → fits (Some b) mid (moved k) ≡ true
  fits-new k h = ap (some_fits (Some b)) (content-new k h) ∙ self

  -- ---- and so do its links
  other-next : (k d : ℕ) → IsOther k → next_of events k ≡ Some d → IsOther d
  other-next k d h e = sym (ready.one_content k d e) ∙ h

  other-previous : (k d : ℕ) → IsOther k → previous_of events k ≡ Some d → IsOther d
  other-previous k d h e = ready.one_content d k ((ready.joined d k).1 e) ∙ h

  moved-end : (o : Option ℕ) → ((d : ℕ) → o ≡ Some d → IsOther d) → option_and_then place o ≡ option_map moved o
  moved-end None h = refl
  moved-end (Some d) h = kept d (h d refl)

  next-new : (k : ℕ) → IsOther k → next_of mid (moved k) ≡ option_map moved (next_of events k)
  next-new k h =
      ap (option_and_then (λ (e : Event). option_and_then (λ (l : Link). l.next) e.link)) (origin.at k (moved k) (kept k h))
      ∙ next_moved place (slice_get events k) ∙ moved-end (next_of events k) (λ d e. other-next k d h e)

  previous-new : (k : ℕ) → IsOther k → previous_of mid (moved k) ≡ option_map moved (previous_of events k)
  previous-new k h =
      ap (option_and_then (λ (e : Event). option_and_then (λ (l : Link). l.previous) e.link)) (origin.at k (moved k) (kept k h))
      ∙ previous_moved place (slice_get events k) ∙ moved-end (previous_of events k) (λ d e. other-previous k d h e)

  lead-new : (k : ℕ) (ks ls : List ℕ) → IsOther k → LeadOnFrom events k ks → LeadOnFrom mid (moved k) ls → ls ≡ map moved ks
  lead-new k [] [] h l m = refl
  lead-new k [] (e ∷ ls) h l m = absurd (none-some e (sym (next-new k h ∙ ap (option_map moved) l) ∙ m.0))
  lead-new k (d ∷ ks) [] h l m = absurd (none-some (moved d) (sym m ∙ next-new k h ∙ ap (option_map moved) l.0))
  lead-new k (d ∷ ks) (e ∷ ls) h l m =
      let same : e ≡ moved d = same_Some e (moved d) (sym m.0 ∙ next-new k h ∙ ap (option_map moved) l.0) in
      let rest = lead-new d ks ls (other-next k d h l.0) l.2 (subst (λ j. LeadOnFrom mid j ls) same m.2) in
      (λ j. same j ∷ rest j)

  pub chain-new : (c : ℕ) → IsOther c → chain_of mid (moved c) ≡ map moved (chain_of events c)
  chain-new c h =
      let old = whole-from g.tab g.bytes (Some b) events ready_b c (fits-old c h) in
      let new = whole-from g.tab g.bytes (Some b) mid ready_mid (moved c) (fits-new c h) in
      new.1 ∙ ap (λ l. moved c ∷ l) (lead-new c old.0 new.0 h old.2 new.2) ∙ sym (ap (map moved) old.1)

  lead-others : (k : ℕ) (ks : List ℕ) → IsOther k → LeadOnFrom events k ks → AllByRecursion IsOther (k ∷ ks)
  lead-others k [] h l = (h, tt)
  lead-others k (d ∷ ks) h l = (h, lead-others d ks (other-next k d h l.0) l.2)

  chain-others : (c : ℕ) → IsOther c → AllByRecursion IsOther (chain_of events c)
  chain-others c h =
      let whole = whole-from g.tab g.bytes (Some b) events ready_b c (fits-old c h) in
      subst (AllByRecursion IsOther) (sym whole.1) (lead-others c whole.0 h whole.2)

  -- ---- chains begin where they began
  begins-new : (k : ℕ) → IsOther k → begins (Some b) mid (moved k) ≡ begins (Some b) events k
  begins-new k h =
      let fit : fits (Some b) mid (moved k) ≡ fits (Some b) events k = fits-new k h ∙ sym (fits-old k h) in
      let first : is_none (previous_of mid (moved k)) ≡ is_none (previous_of events k) = ap is_none (previous-new k h) ∙ still-none moved (previous_of events k) in
      (λ j. fit j && first j)

  -- what is linked in the new list was so before
  comes-from : (q : ℕ) (c : Content) → content_at mid q ≡ Some c → (n : ℕ) × (place n ≡ Some q) × (content_at events n ≡ Some c)
  comes-from q c e = elim (origin-of g.tab g.bytes (Some a) events ready_a children q c e) [
    | listed n at is ↦ (n, at, is)
    | of_kid d n is ↦
        (let kid = child g.tab g.bytes (Some a) events ready_a children d in
        let none = no-content kid (child-all HaveNoLinks tt (fitting_starts (Some a) events) children alone d) n in
        absurd (none-some c (sym none ∙ is)))
  ]

  pub starts-others : AllByRecursion IsOther (fitting_starts (Some b) events)
  starts-others = all-in IsOther (fitting_starts (Some b) events) (λ n i.
      let t = filter-in (begins (Some b) events) (range_with_len 0 (length events)) n i in
      is-content b (content_at events n) (and_parts (fits (Some b) events n) (is_none (previous_of events n)) t).0)

  above-new : (n : ℕ) (ns : List ℕ) → IsOther n → AllByRecursion IsOther ns → AllByRecursion (λ (d : ℕ). n < d) ns → AllByRecursion (λ (d : ℕ). moved n < d) (map moved ns)
  above-new n [] h hs l = tt
  above-new n (m ∷ ns) h hs l =
      let fresh = (changes_are_apart g.tab g.bytes (Some a) events children ready_a).fresh in
      (keeps_order ws events fresh n m (moved n) (moved m) (kept n h) (kept m hs.0) l.0, above-new n ns h hs.1 l.1)

  rising-new : (ns : List ℕ) → AllByRecursion IsOther ns → IsRising ns → IsRising (map moved ns)
  rising-new [] hs r = tt
  rising-new (n ∷ ns) hs r = (above-new n ns hs.0 hs.1 r.0, rising-new ns hs.1 r.1)

  pub starts-new : fitting_starts (Some b) mid ≡ map moved (fitting_starts (Some b) events)
  starts-new =
      let old = fitting_starts (Some b) events in
      let new = fitting_starts (Some b) mid in
      let on : (q : ℕ) → In q new → In q (map moved old) = λ q i.
      let t = filter-in (begins (Some b) mid) (range_with_len 0 (length mid)) q i in
      let at = is-content b (content_at mid q) (and_parts (fits (Some b) mid q) (is_none (previous_of mid q)) t).0 in
      let from = comes-from q b at in
      let n = from.0 in
      let h : IsOther n = from.2 in
      let is : moved n ≡ q = moved-is n q from.1 in
      let first : begins (Some b) events n ≡ true = sym (begins-new n h) ∙ ap (begins (Some b) mid) is ∙ t in
      let c = chunk-of n h in
      let within = slice_get_within events n c.enter c.enter_at in
      subst (λ m. In m (map moved old)) is (in-map moved old n (in-filter (begins (Some b) events) (length events) 0 n (omega arith) (omega (arith, within)) first)) in
      let back : (q : ℕ) → In q (map moved old) → In q new = λ q i.
      let from = in-map-back moved old q i in
      let n = from.0 in
      let h : IsOther n = in-all IsOther old n starts-others from.1 in
      let t = filter-in (begins (Some b) events) (range_with_len 0 (length events)) n from.1 in
      let c = ready_mid.chunks (moved n) b (content-new n h) in
      let within = slice_get_within mid (moved n) c.enter c.enter_at in
      subst (λ m. In m new) (sym from.2) (in-filter (begins (Some b) mid) (length mid) 0 (moved n) (omega arith) (omega (arith, within)) (begins-new n h ∙ t)) in
      rising-same new (map moved old) (rising (begins (Some b) mid) (length mid) 0) (rising-new old starts-others (rising (begins (Some b) events) (length events) 0)) on back

  -- ---- the text is the same
  place-new : (k : ℕ) → IsOther k → place_at mid (moved k) ≡ place_at events k
  place-new k h = same-place k (moved k) (kept k h)

  end-new : (k : ℕ) → IsOther k → place_at mid (moved k + 1) ≡ place_at events (k + 1)
  end-new k h = same-place (k + 1) (moved k + 1) (origin.exit k (moved k) (chunk-of k h) (kept k h))

  ends-new : (ks : List ℕ) → AllByRecursion IsOther ks → map (λ k. place_at mid (k + 1)) (map moved ks) ≡ map (λ k. place_at events (k + 1)) ks
  ends-new [] h = refl
  ends-new (k ∷ ks) h = λ j. end-new k h.0 j ∷ ends-new ks h.1 j

  behind-new : (ks : List ℕ) → AllByRecursion IsOther ks → pieces_behind mid (map moved ks) ≡ pieces_behind events ks
  behind-new [] h = refl
  behind-new (k ∷ ks) h =
      let more = behind-new ks h.1 in
      (λ j. passed (place-new k h.0 j) ∷ pushed (place-new k h.0 j) (end-new k h.0 j) ∷ more j)

  read-new : (k : ℕ) (ks : List ℕ) → AllByRecursion IsOther (k ∷ ks) → text_of_chain g mid (map moved (k ∷ ks)) ≡ text_of_chain g events (k ∷ ks)
  read-new k ks h =
      let more = behind-new ks h.1 in
      (λ j. followed_by_all g (empty_text (place-new k h.0 j)) (pushed (place-new k h.0 j) (end-new k h.0 j) ∷ more j))

  pub text-new : (c : ℕ) → IsOther c → text_from g mid (moved c) ≡ text_from g events c
  text-new c h =
      let whole = whole-from g.tab g.bytes (Some b) events ready_b c (fits-old c h) in
      let all = lead-others c whole.0 h whole.2 in
      ap (text_of_chain g mid) (chain-new c h ∙ ap (map moved) whole.1) ∙ read-new c whole.0 all ∙ ap (text_of_chain g events) (sym whole.1)

  -- and so are the parts of a child
  pub changes-new : (c : ℕ) → IsOther c → (x : List Event)
      → chain_changes (divided mid (moved c) x) ≡ part_changes (first_chunk (map moved (chain_of events c))) 0 (map moved (chain_of events c)) (parts (map (λ k. place_at events (k + 1)) (chain_of events c)) x)
  changes-new c h x =
      let chain = chain-new c h in
      let ends = ap (map (λ k. place_at mid (k + 1))) chain ∙ ends-new (chain_of events c) (chain-others c h) in
      (λ j. part_changes (first_chunk (chain j)) 0 (chain j) (parts (ends j) x))
