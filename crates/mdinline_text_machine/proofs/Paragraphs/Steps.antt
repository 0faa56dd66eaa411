-- In a whole document, what the states of paragraphs keep: of two chunks that are linked the one follows the other.
use Rattle.mdinline_text_machine.proofs.Prelude.{◌≡◌, ℕ, ◌+◌, ◌-◌, List, [], ◌∷◌, ◌++◌, true, false, Option, Some, None, length, length-append, ◌⊎◌, inl, inr, refl, sym, ap, ◌∙◌, subst, arith, nat_lt, Event, Enter, Exit, Data, BlockQuoteMarker, Point, IsPointOf, Name, State, Next, Retry, Ok, Nok, Error, FlowStart, ParagraphLineStart, ParagraphStart, ParagraphInside, with_local, Configuration, Choice, Step, whole_text, fed, Sight, sight, Given, IsDocument, place_at, next_end, Rows, class_of, step_of, IsKept, EachRow, picked-row, LineByte, line_byte, counts, flow_start_rows, paragraph_line_start_rows, paragraph_start_rows, paragraph_inside_rows, chunk_before, chunk_enter, begins-chunk, get-front, waits_class}
use Rattle.mdconstructs_tables.specs.Tables.{line_ending, other}
use Rattle.mdconstructs_machines.proofs.BlockReads.Reads.{ReadsBlocks}
use Rattle.mdconstructs_machines.proofs.LineReads.Rows.{HasRows}
use Rattle.mdinline_text_machine.proofs.Paragraphs.ChunkPairs.{last-get, place-at-event, front-place, Follows, IsPair, more-follows, linked-length, AreChunks, chunks-more, chunks-linked}
use Rattle.mdinline_text_machine.proofs.Plain.Stretches.{seen}
use Rattle.mdinline_text_machine.proofs.Texts.WholePlaces.{place, here-is-point, behind-is-point, next-is-point, has-byte}

module _ (g : Given) (document : IsDocument g) where
  abbrev Chunks : List Event → Type 0
  Chunks es = AreChunks g.tab g.bytes es

  module _ (k : Configuration Unit Unit) where
    -- a chunk came before in the paragraph
    abbrev Connected : Type 0
    Connected = k.local.tokenize_state.connect ≡ true

    -- its exit is the last event, here at the beginning of a line
    abbrev AtLine : Type 0
    AtLine = (length k.events ≡ chunk_before k + 2) × (place g document k.position ≡ place_at k.events (chunk_before k + 1)) × ((place g document k.position).column ≡ 1)

    -- an event here would follow it
    abbrev InLine : Type 0
    InLine = Follows k.events (chunk_before k) (length k.events) (place g document k.position)

    -- nothing waits, as all was read
    abbrev NoByte : Type 0
    NoByte = waits_class g (whole_text g) k ≡ None

  -- What is known at the name of a state; `ended` says that all was read
  abbrev InState : (ended : Type 0) → Configuration Unit Unit → Name → Type 0
  InState ended k name = (name.number ≡ FlowStart.number)
      ⊎ (((name.number ≡ ParagraphLineStart.number) × (Connected k → ended ⊎ AtLine k))
      ⊎ (((name.number ≡ ParagraphStart.number) × (Connected k → InLine k)) ⊎ ((name.number ≡ ParagraphInside.number) × (length k.events ≡ chunk_before k + 1))))

  abbrev pub Known : Configuration Unit Unit → List Choice → State → Type 0
  Known k (c ∷ cs) s = ⊥
  Known k [] Ok = Chunks k.events
  Known k [] Nok = ⊥
  Known k [] (Error m) = ⊥
  Known k [] (Next name) = Chunks k.events × InState ⊥ k name
  Known k [] (Retry name) = Chunks k.events × InState (NoByte k) k name

  -- it does not depend on what waits
  feeds : (k : Configuration Unit Unit) (cs : List Choice) (name : Name) → Known k cs (Next name) → Known (fed (whole_text g) k) cs (Retry name)
  feeds k (c ∷ cs) name h = absurd h
  feeds k [] name h =
      let ended = NoByte (fed (whole_text g) k) in
      let r : InState ended k name = elim h.1 [
        | inl e ↦ inl e
        | inr r ↦ elim r [
          | inl line ↦ inr (inl (line.0, λ c. elim (line.1 c) [ inl none ↦ absurd none | inr at ↦ inr at ]))
          | inr q ↦ inr (inr q)
        ]
      ] in
      elim (nat_lt k.position (length (whole_text g).seats)) as (λ b. Chunks (seen b k).events × InState ended (seen b k) name) [ true ↦ (h.0, r) | false ↦ (h.0, r) ]

  abbrev After : Step Unit Unit → Type 0
  After q = Known q.configuration (q.choices ++ []) q.answer

  -- an event in no chain, at a place of the document
  plain-more : (es : List Event) (e : Event) → e.link ≡ None → IsPointOf g.tab g.bytes e.point → Chunks es → Chunks (es ++ e ∷ [])
  plain-more es e alone at h = let none : next_end e ≡ None = rw alone refl in chunks-more g.tab g.bytes es e (inl alone, at) none h

  module _ (k : Configuration Unit Unit) where
    abbrev RowsKeep : Rows Unit Unit → Type 0
    RowsKeep rows =
        let s = sight g (whole_text g) k in
        let k1 = with_local k (counts k.local) in
        EachRow (λ r. After (step_of r s k1)) g s k1 rows

    from-flow-start : (b w : Option LineByte) → Chunks k.events → RowsKeep (flow_start_rows b w)
    from-flow-start b None h = h
    from-flow-start b (Some line_ending) h = (plain-more _ _ refl (next-is-point g document k.position k.waiting) (plain-more _ _ refl (here-is-point g document k.position k.waiting) h), inl refl)
    from-flow-start b (Some other) h = (plain-more _ _ refl (here-is-point g document k.position k.waiting) h, inr (inl (refl, λ c. absurd (cc))))

    from-line-start : (b w : Option LineByte) → waits_class g (whole_text g) k ≡ w → Chunks k.events → (Connected k → NoByte k ⊎ AtLine k) → RowsKeep (paragraph_line_start_rows b w)
    from-line-start b (Some other) e h known =
        let m : Event = record { kind = Enter; name = BlockQuoteMarker; point = (sight g (whole_text g) k).enter_place; link = None } in
        let n : Event = record { kind = Exit; name = BlockQuoteMarker; point = (sight g (whole_text g) k).next; link = None } in
        let i = chunk_before k in
        let more = length-append k.events (m ∷ []) in
        let both = length-append (k.events ++ m ∷ []) (n ∷ []) in
        let at_line : Connected k → AtLine k = λ c. elim (known c) [ inl none ↦ let no : Some other ≡ None = sym e ∙ none in absurd (cc) | inr at ↦ at ] in (
          λ mark. (
            plain-more (k.events ++ m ∷ []) n refl (next-is-point g document k.position k.waiting) (plain-more k.events m refl (here-is-point g document k.position k.waiting) h),
            inr (inr (inl (
              refl,
              λ c.
                  let at = at_line c in
                  let long = at.0 in
                  let exit : place_at ((k.events ++ m ∷ []) ++ n ∷ []) (i + 1) ≡ place_at k.events (i + 1) =
                  front-place (k.events ++ m ∷ []) n (i + 1) (omega (arith, long, more)) ∙ front-place k.events m (i + 1) (omega (arith, long)) in
                  inr (
                    omega (arith, long, more, both),
                    record {
                      enter = m;
                      exit = n;
                      enter_at = get-front (k.events ++ m ∷ []) (n ∷ []) (i + 2) (omega (arith, long, more)) ∙ last-get k.events m (i + 2) (sym long);
                      exit_at = last-get (k.events ++ m ∷ []) n (i + 2 + 1) (omega (arith, long, more));
                      are = record { enters = refl; exits = refl; same = refl; enter_alone = refl; exit_alone = refl };
                    },
                    ap (λ (q : Point). q.column) (exit ∙ sym at.1) ∙ at.2,
                    (has-byte g document k.position k.waiting other e).line_goes_on refl ∙ ap (λ (q : Point). q.line) (at.1 ∙ sym exit),
                  ),
            ))),
          ),
          λ none. (h, inr (inr (inl (refl, λ c. let at = at_line c in inl (at.0, at.1))))),
        )
    from-line-start b w e h known = (plain-more _ _ refl (behind-is-point g document k.position) h, inl refl)

    from-start-of-chunk : (b w : Option LineByte) → waits_class g (whole_text g) k ≡ w → Chunks k.events → (Connected k → InLine k) → RowsKeep (paragraph_start_rows b w)
    from-start-of-chunk b None e h known = (h, inr (inl (refl, λ c. inl e)))
    from-start-of-chunk b (Some w) e h known =
        let at = (sight g (whole_text g) k).enter_place in
        let i = length k.events in
        let es = k.events ++ chunk_enter at ∷ [] in
        let last = length es - 1 in
        let more = length-append k.events (chunk_enter at ∷ []) in
        let is : i ≡ last = omega (arith, more) in
        let one = chunks-more g.tab g.bytes k.events (chunk_enter at) (inr (record { linked = (begins-chunk at).linked; text = refl }), here-is-point g document k.position k.waiting) refl h in
        let here : place_at es i ≡ place g document k.position = place-at-event es i (chunk_enter at) (last-get k.events (chunk_enter at) i refl) ∙ (has-byte g document k.position k.waiting w e).here in (
          λ c.
              let follows = more-follows k.events (chunk_enter at) (chunk_before k) i (place g document k.position) (place_at es i) (omega arith) here (known c) in
              let pair = subst (IsPair es (chunk_before k)) is (record { within = omega (arith, more); follows = follows }) in
              let long = linked-length (chunk_before k) last es in
              (chunks-linked g.tab g.bytes es (chunk_before k) last pair one, inr (inr (inr (refl, omega (arith, long, more))))),
          λ c. (one, inr (inr (inr (refl, omega (arith, more))))),
        )

    from-inside : (b w : Option LineByte) → waits_class g (whole_text g) k ≡ w → Chunks k.events → length k.events ≡ chunk_before k + 1 → RowsKeep (paragraph_inside_rows b w)
    from-inside b None e h long = (plain-more _ _ refl (behind-is-point g document k.position) h, inr (inl (refl, λ c. inl e)))
    from-inside b (Some line_ending) e h long =
        let byte = has-byte g document k.position k.waiting line_ending e in
        let n : Event = record { kind = Exit; name = Data; point = (sight g (whole_text g) k).next; link = None } in
        let more = length-append k.events (n ∷ []) in
        let at = place-at-event (k.events ++ n ∷ []) (chunk_before k + 1) n (last-get k.events n (chunk_before k + 1) (sym long)) in
        (plain-more k.events n refl (next-is-point g document k.position k.waiting) h, inr (inl (refl, λ c. inr (omega (arith, long, more), sym (at ∙ byte.next), byte.line_begins refl))))
    from-inside b (Some other) e h long = (h, inr (inr (inr (refl, long))))

  module _ (step : Sight → Configuration Unit Unit → Name → Step Unit Unit) (flow : ReadsBlocks g (whole_text g) step) where
    -- what the row of a state keeps its step keeps
    of-rows : (k : Configuration Unit Unit) (name : Name) (n : ℕ) (rows : (previous current : Option LineByte) → Rows Unit Unit) → name.number ≡ n
        → HasRows g (whole_text g) step (record { number = n }) rows
        → RowsKeep k (rows (class_of line_byte (sight g (whole_text g) k).previous) (waits_class g (whole_text g) k)) → After (step (sight g (whole_text g) k) k name)
    of-rows k name n rows e has keep =
        let s = sight g (whole_text g) k in
        let k1 = with_local k (counts k.local) in
        subst (λ m. After (step s k (record { number = m }))) (sym e)
        (subst After (sym (has k)) (picked-row (λ r. After (step_of r s k1)) g s k1 (rows (class_of line_byte s.previous) (waits_class g (whole_text g) k)) keep))

    called : (k : Configuration Unit Unit) (cs : List Choice) (name : Name) → Known k cs (Retry name)
        → let q = step (sight g (whole_text g) k) k name in Known q.configuration (q.choices ++ cs) q.answer
    called k (c ∷ cs) name h = absurd h
    called k [] name h =
        let b = class_of line_byte (sight g (whole_text g) k).previous in
        let w = waits_class g (whole_text g) k in
        elim h.1 [
          | inl e ↦ of-rows k name FlowStart.number flow_start_rows e flow.flow_start (from-flow-start k b w h.0)
          | inr r ↦ elim r [
            | inl line ↦ of-rows k name ParagraphLineStart.number paragraph_line_start_rows line.0 flow.line_start (from-line-start k b w refl h.0 line.1)
            | inr r ↦ elim r [
              | inl start ↦ of-rows k name ParagraphStart.number paragraph_start_rows start.0 flow.start (from-start-of-chunk k b w refl h.0 start.1)
              | inr inside ↦ of-rows k name ParagraphInside.number paragraph_inside_rows inside.0 flow.inside (from-inside k b w refl h.0 inside.1)
            ]
          ]
        ]

    pub flow-kept : IsKept g step (whole_text g) Known
    flow-kept = record { by_feeding = feeds; by_calls = called; by_ok = λ k c cs h. absurd h; by_nok = λ k c cs h. absurd h }
