-- What is in the spans of a name, with the ends of these: where chains of chunks are replaced by what they are read as, it stays, if no chunk is in it.
use Rattle.mddocument_rules.proofs.Prelude.{◌≡◌, ◌∙◌, ℕ, ◌+◌, List, [], ◌∷◌, ◌++◌, Bool, true, false, not, Option, None, drop, length, map, refl, sym, ap, subst, arith, AllByRecursion, between, option_and_then, option_map, Content, Event, Name, relinked, content_at, content_of, every-back, Fits, chunk, some_content, fitting_starts, IsReady}
use Rattle.std.proofs.lemmas.Option.{none-some}
use Rattle.markdown_base.specs.declared.event.Link.{Link}
use Rattle.markdown_base.specs.Events.{is_void}
use Rattle.markdown_edits.proofs.Edits.Passes.{woven-pass}
use Rattle.markdown_edits.specs.Woven.{AreApart, Change, Tagged, placed_end, placed_in, woven}
use Rattle.markdown_tokenizer.proofs.Readings.Plain.{unlinked-same}
use Rattle.markdown_children.proofs.ChainOrder.Spaced.{changes_are_apart}
use Rattle.markdown_children.proofs.Parts.Kept.{after-step, after_changes, split-at, untagged, untagged-olds}
use Rattle.markdown_children.proofs.Parts.Staying.{AtChunk, all-at}
use Rattle.markdown_children.specs.Children.{child_changes, with_children}
use Rattle.mdinline_text_machine.proofs.Paragraphs.ChunksReady.{drop-two}
use Rattle.mddocument_laws.proofs.ChildEvents.{AreChanges, AreTagged, divided-are, read-are}
use Rattle.mddocument_laws.proofs.Chosen.{AreOther}

-- whether what comes behind an event is in a span, by whether a span begins or ends there
abbrev pub behind_end : (ends inside : Bool) → Bool
behind_end true inside = not inside
behind_end false inside = inside

-- an event that is in a span or at its end, and what is in spans behind it
abbrev pub held_one : (ends inside : Bool) → Event → (rest : (inside : Bool) → List Event) → List Event
held_one true inside e rest = e ∷ rest (not inside)
held_one false true e rest = e ∷ rest true
held_one false false e rest = rest false

-- no event has a link
abbrev pub IsAlone : Event → Type 0
IsAlone e = e.link ≡ None

abbrev pub AreAlone : List Event → Type 0
AreAlone es = AllByRecursion IsAlone es

module _ (is : Name → Bool) where
  -- what is in spans with such a name, by whether the first event is in one
  abbrev pub held : (inside : Bool) → List Event → List Event
  held inside [] = []
  held inside (e ∷ es) = held_one (is e.name) inside e (λ b. held b es)

  -- whether what comes behind events is
  abbrev pub behind : (inside : Bool) → List Event → Bool
  behind inside [] = inside
  behind inside (e ∷ es) = behind (behind_end (is e.name) inside) es

  pub held-append : (inside : Bool) (xs ys : List Event) → held inside (xs ++ ys) ≡ held inside xs ++ held (behind inside xs) ys
  held-append inside [] ys = refl
  held-append inside (x ∷ xs) ys = by (λ b. held-append b xs ys) (is x.name) inside
    where
      by : ((b : Bool) → held b (xs ++ ys) ≡ held b xs ++ held (behind b xs) ys) → (ends inside : Bool)
          → held_one ends inside x (λ b. held b (xs ++ ys)) ≡ held_one ends inside x (λ b. held b xs) ++ held (behind (behind_end ends inside) xs) ys
      by more true inside = ap (λ l. x ∷ l) (more (not inside))
      by more false true = ap (λ l. x ∷ l) (more true)
      by more false false = more false

  -- other events outside of spans, and in them
  pub passed : (xs ys : List Event) → AreOther is xs → held false (xs ++ ys) ≡ held false ys
  passed [] ys h = refl
  passed (x ∷ xs) ys h = ap (λ b. held_one b false x (λ i. held i (xs ++ ys))) h.0 ∙ passed xs ys h.1

  pub stayed : (xs ys : List Event) → AreOther is xs → held true (xs ++ ys) ≡ xs ++ held true ys
  stayed [] ys h = refl
  stayed (x ∷ xs) ys h = ap (λ b. held_one b true x (λ i. held i (xs ++ ys))) h.0 ∙ ap (λ l. x ∷ l) (stayed xs ys h.1)

  -- ---- children
  other-tagged : (ts : List Tagged) → AreTagged (λ (e : Event). is e.name ≡ false) ts → AreOther is (untagged ts)
  other-tagged [] h = tt
  other-tagged (t ∷ ts) h = (h.0, other-tagged ts h.1)

  -- link ends do not matter, if nothing in spans has a link
  held-placed : (ts us : List Tagged) (inside : Bool) → AreAlone (held inside (untagged us)) → held inside (placed_in ts us) ≡ held inside (untagged us)
  held-placed ts [] inside h = refl
  held-placed ts (u ∷ us) inside h = by (λ b k. held-placed ts us b k) (is u.event.name) inside h
    where
      by : ((b : Bool) → AreAlone (held b (untagged us)) → held b (placed_in ts us) ≡ held b (untagged us)) → (ends inside : Bool) → AreAlone (held_one ends inside u.event (λ b. held b (untagged us)))
          → held_one ends inside (relinked (placed_end ts u.identity) u.event) (λ b. held b (placed_in ts us)) ≡ held_one ends inside u.event (λ b. held b (untagged us))
      by more true inside h = (λ i. unlinked-same (placed_end ts u.identity) u.event h.0 i ∷ more (not inside) h.1 i)
      by more false true h = (λ i. unlinked-same (placed_end ts u.identity) u.event h.0 i ∷ more true h.1 i)
      by more false false h = more false h

  module _ (tab : ℕ) (bytes : List ℕ) (wanted : Option Content) (events : List Event) (ready : IsReady tab bytes wanted events) (of_chain : ℕ → List Event)
      (void_other : (n : Name) → is_void n ≡ true → is n ≡ false) (other : (c : ℕ) → AreOther is (of_chain c)) where
    abbrev starts : List ℕ
    starts = fitting_starts wanted events

    abbrev children : List (List Event)
    children = map of_chain starts

    abbrev ws : List Change
    ws = child_changes wanted events children

    -- a chunk has a link, and another name
    linked : (k : ℕ) (fit : Fits wanted events k) → (chunk tab bytes wanted events ready k fit).enter.link ≡ None → ⊥
    linked k fit none =
        let c = chunk tab bytes wanted events ready k fit in
        let some = some_content wanted (content_at events k) fit in
        none-some some.0 (sym (ap (option_map (λ (l : Link). l.content)) none) ∙ sym (ap (option_and_then content_of) c.enter_at) ∙ some.1)

    two-other : (k : ℕ) (fit : Fits wanted events k) → let c = chunk tab bytes wanted events ready k fit in AreOther is (c.enter ∷ c.exit ∷ [])
    two-other k fit =
        let c = chunk tab bytes wanted events ready k fit in
        let enter : is c.enter.name ≡ false = void_other c.enter.name c.linked.void in
        (enter, (ap is c.ended.same ∙ enter, tt))

    chunk-held : (k : ℕ) (fit : Fits wanted events k) → held false (drop k events) ≡ held false (drop (k + 2) events)
    chunk-held k fit =
        let c = chunk tab bytes wanted events ready k fit in
        ap (held false) (drop-two events k c.enter c.exit c.enter_at c.exit_at) ∙ passed (c.enter ∷ c.exit ∷ []) (drop (k + 2) events) (two-other k fit)

    -- so it is in no span
    chunk-outside : (k : ℕ) (fit : Fits wanted events k) (inside : Bool) → AreAlone (held inside (drop k events)) → inside ≡ false
    chunk-outside k fit false h = refl
    chunk-outside k fit true h =
        let c = chunk tab bytes wanted events ready k fit in
        let there : held true (drop k events) ≡ c.enter ∷ c.exit ∷ held true (drop (k + 2) events) =
        ap (held true) (drop-two events k c.enter c.exit c.enter_at c.exit_at) ∙ stayed (c.enter ∷ c.exit ∷ []) (drop (k + 2) events) (two-other k fit) in
        let alone : AreAlone (c.enter ∷ c.exit ∷ held true (drop (k + 2) events)) = subst AreAlone there h in
        absurd (linked k fit alone.0)

    kept : (vs : List Change) (i : ℕ) (inside : Bool) → AllByRecursion (AtChunk tab bytes wanted events ready children) vs → AreChanges (λ (e : Event). is e.name ≡ false) vs → AreApart i vs (length events)
        → AreAlone (held inside (drop i events)) → held inside (after_changes events vs i) ≡ held inside (drop i events)
    kept [] i inside at others is_apart alone = ap (held inside) (untagged-olds i (drop i events))
    kept (v ∷ vs) i inside at others is_apart alone =
        let front = between i v.index events in
        let there = v.index + v.remove in
        let rest = after_changes events vs there in
        let added = untagged v.events in
        let state = behind inside front in
        let two : v.index + 2 ≡ there = ap (λ n. v.index + n) (sym at.0.1) in
        let split : held inside (drop i events) ≡ held inside front ++ held state (drop v.index events) = ap (held inside) (split-at events i v.index is_apart.0) ∙ held-append inside front (drop v.index events) in
        let back : AreAlone (held state (drop v.index events)) = every-back IsAlone (held inside front) (held state (drop v.index events)) (subst AreAlone split alone) in
        let out : state ≡ false = chunk-outside v.index at.0.0 state back in
        let outside : AreAlone (held false (drop v.index events)) = subst (λ b. AreAlone (held b (drop v.index events))) out back in
        let further : AreAlone (held false (drop there events)) = subst (λ n. AreAlone (held false (drop n events))) two (subst AreAlone (chunk-held v.index at.0.0) outside) in
        ap (held inside) (after-step events v vs i is_apart.0)
        ∙ held-append inside front (added ++ rest)
        ∙ ap (λ b. held inside front ++ held b (added ++ rest)) out
        ∙ ap (λ l. held inside front ++ l)
        (passed added rest (other-tagged v.events others.0) ∙ kept vs there false at.1 others.1 is_apart.1 further ∙ ap (λ n. held false (drop n events)) (sym two) ∙ sym (chunk-held v.index at.0.0))
        ∙ ap (λ b. held inside front ++ held b (drop v.index events)) (sym out)
        ∙ sym split

    -- What is in spans without links stays, if chains are read as other events
    pub held-stay : AreAlone (held false events) → held false (with_children wanted events children) ≡ held false events
    held-stay alone =
        let z : length events ≡ 0 + length events = omega arith in
        let apart : AreApart 0 ws (length events) = (changes_are_apart tab bytes wanted events children ready).apart in
        let same : held false (untagged (woven ws 0 events)) ≡ held false events =
        ap (λ (ts : List Tagged). held false (untagged ts)) (woven-pass ws 0 events (subst (AreApart 0 ws) z apart))
        ∙ kept ws 0 false (all-at tab bytes wanted events ready children) (divided-are (λ (e : Event). is e.name ≡ false) events starts children (read-are (λ (e : Event). is e.name ≡ false) of_chain starts other)) apart alone in
        held-placed (woven ws 0 events) (woven ws 0 events) false (subst AreAlone (sym same) alone) ∙ same
