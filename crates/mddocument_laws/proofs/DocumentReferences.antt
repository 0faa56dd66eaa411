-- Each character reference of a document has its events side by side, from its enter to its exit directly behind `;`, and the document's bytes there.
use Rattle.mddocument_laws.proofs.Prelude.{◌≡◌, ℕ, suc, ◌+◌, List, [], ◌∷◌, ◌++◌, Bool, true, false, drop, Some, refl, sym, ap, ◌∙◌, subst, arith, cond, inl, inr, map, take, and_parts, false_from_ne_true, false≢true, All-from_recursion, recursion_from_All, AllByRecursion, flat_map, ◌&&◌, AllPairs, slice_index, Constructs, Event, Name, Point, is_enter, same_name, IsPointOf, shown, stands_before, Seat, end_after, virtual, same_name-true, every-back, Given, IsDocument, IsText, Text, empty_text, followed_by, pushed, fitting_starts, text_from, all-begin, is-text, chain_text, Course, course-every, course-on, text-course, AcrossGap, flow_events, document_blocks, document_skeleton, shown_as_text, inline_events, inline_items, string_events, in_string_after, is_data, line_as_string, with_strings_from, skeleton-laws, content-ready as text-ready, strings-ready, texts-orderly, document_events, document_texts, is_defined_in, may_be_named, enters, BeginsWithReference, ReferencesOfDocumentsStand, IsWholeReference, ReferencesOfDocumentsEnd, string_seat_events, Found, item_events, inlines-hold-text, all-texts, inlines-lone, texts-torn, not}
use Rattle.mddocument.proofs.InContainers.Blocks.{blocks-are-celled}
use Rattle.mddocument.proofs.InContainers.CellsKeep.{cells-each}
use Rattle.mddocument.proofs.InContainers.Skeletons.{skeleton_chains}
use Rattle.markdown_base.specs.declared.event.Content.TheVariants as content
use Rattle.markdown_base.specs.declared.event.Name.TheVariants as name
use Rattle.markdown_tokenizer.proofs.Positions.Cursors.{same-self, upto-order}
use Rattle.markdown_children.specs.Chains.{begins}
use Rattle.mdinline_text_machine.specs.Parts.{bytes_of}
use Rattle.mdinline_machine.specs.InlineChains.{with_inlines}
use Rattle.mddocument_laws.proofs.ChildEvents.{children-are}
use Rattle.mddocument_laws.proofs.DocumentNames.{skeleton-around}
use Rattle.mddocument_laws.proofs.FlowNames.{flow-named-by}
use Rattle.mddocument_laws.proofs.Inside.{around-other}
use Rattle.mddocument_laws.proofs.Named.{Named, weaker}
use Rattle.mddocument.proofs.ReferenceBytes.{IsWritten, written-virtual}
use Rattle.mddocument_laws.proofs.ReferenceItems.{NoReference, Fits, read-has, string-has}
use Rattle.markdown_children.proofs.Parts.TextGaps.{lone-untorn}
use Rattle.mddocument_laws.proofs.ReferenceChildren.{children-whole}
use Rattle.mddocument_laws.proofs.ReferenceLinks.{links-whole}
use Rattle.mddocument_laws.proofs.ReferenceSeats.{IsSpanOf, reference-whole}
use Rattle.mddocument_laws.proofs.ReferenceSpans.{AreWhole, Goes, State, Step, behind, inside, others-whole, outside, whole-both}

-- ---- leaf blocks have none

abbrev without : Constructs → Constructs
without on = record on { character_reference = false }

no-reference : (on : Constructs) (n : Name) → may_be_named (without on) n ≡ true → NoReference n
no-reference on n h = false_from_ne_true (same_name n name.CharacterReference) (λ e. false≢true (subst (λ m. may_be_named (without on) m ≡ true) (same_name-true n name.CharacterReference e) h))

flow-other : (on : Constructs) (bytes : List ℕ) (seats : List Seat) → Named NoReference (flow_events on bytes seats)
flow-other on bytes seats = weaker (no-reference on) (flow_events on bytes seats) (flow-named-by on (without on) (λ block h. h) bytes seats)

-- ---- texts

module _ (g : Given) (text : Text) (is : IsText g text) where
  abbrev start : Point
  start = shown g.bytes text.start

  course : Course AcrossGap g.tab g.bytes start text.seats
  course = text-course g text is

  written : AllByRecursion (IsWritten g.bytes) text.seats
  written =
      let from : (k : ℕ) → slice_index g.bytes (0 + k) ≡ slice_index g.bytes k = λ k. let z : 0 + k ≡ k = omega arith in ap (slice_index g.bytes) z in
      course-every AcrossGap g.tab g.bytes (IsWritten g.bytes) (written-virtual g.bytes g.tab 1 1 0 g.bytes from) start text.seats course

module _ (g : Given) where
  abbrev Are : List Event → Type 0
  Are es = AreWhole (IsSpanOf g.bytes) es

  named-whole : (es : List Event) → Named NoReference es → Are es
  named-whole es h = others-whole (IsSpanOf g.bytes) es h.all

  module _ (text : Text) (is : IsText g text) where
    item-whole : (before : List Seat) (s : Seat) (ss : List Seat) → text.seats ≡ before ++ s ∷ ss → (f : Found) → Fits (bytes_of (s ∷ ss)) f → Are (f.events g.bytes (take f.size (s ∷ ss)))
    item-whole before s ss all f (inl h) = named-whole (f.events g.bytes (take f.size (s ∷ ss))) (h g.bytes (take f.size (s ∷ ss)))
    item-whole before s ss all f (inr r) =
        let q = end_after (start g text is) before in
        let c : Course AcrossGap g.tab g.bytes q (s ∷ ss) = course-on AcrossGap g.tab g.bytes (start g text is) before (s ∷ ss) (subst (Course AcrossGap g.tab g.bytes (start g text is)) all (course g text is)) in
        let w : AllByRecursion (IsWritten g.bytes) (s ∷ ss) = every-back (IsWritten g.bytes) before (s ∷ ss) (subst (AllByRecursion (IsWritten g.bytes)) all (written g text is)) in
        subst (λ (x : Found). Are (x.events g.bytes (take x.size (s ∷ ss)))) (sym r.2) (reference-whole g.bytes g.tab q s ss c w r.0 r.1 (r.3 ∙ ap Some r.2))

    string-whole : (on : Constructs) → Are (string_seat_events on g.bytes text.seats)
    string-whole on = string-has g.bytes text.seats Are refl (whole-both (IsSpanOf g.bytes)) named-whole item-whole on

    inline-whole : (defined : List ℕ → Bool) → Are (inline_events defined g text)
    inline-whole defined =
        let on = g.options.constructs in
        links-whole (IsSpanOf g.bytes) g.options.gfm_strikethrough_single_tilde g.bytes (flat_map (item_events g.bytes) (inline_items on defined g.bytes text.seats)) (read-has g.bytes text.seats Are refl (whole-both (IsSpanOf g.bytes)) named-whole item-whole on defined)

-- ---- strings in place of data

-- places that never decrease
abbrev Rising : List Event → Type 0
Rising [] = Unit {0}
Rising (e ∷ []) = Unit {0}
Rising (e ∷ f ∷ es) = (stands_before f.point e.point ≡ false) × Rising (f ∷ es)

rising : (es : List Event) → AllPairs (λ (e f : Event). stands_before f.point e.point ≡ false) es → Rising es
rising [] h = tt
rising (e ∷ []) h = tt
rising (e ∷ f ∷ es) h = (h 0 1 e (omega arith) (omega arith), rising (f ∷ es) (λ i j d less within. h (suc i) (suc j) d (omega (arith, less)) (omega (arith, within))))

rising-behind : (e : Event) (es : List Event) → Rising (e ∷ es) → Rising es
rising-behind e [] h = tt
rising-behind e (f ∷ es) h = h.1

module _ (g : Given) (is : IsDocument g) where
  abbrev on : Constructs
  on = g.options.constructs

  abbrev Is : Event → List Event → Type 0
  Is = IsSpanOf g.bytes

  -- what is between two places is a text
  line-whole : (from to : Point) → IsPointOf g.tab g.bytes from → IsPointOf g.tab g.bytes to → stands_before to from ≡ false → AreWhole Is (line_as_string on g.tab g.bytes from to)
  line-whole from to a b order =
      let text = followed_by g (empty_text from) (pushed from to) in
      let one : IsText g text = record { document = is; starts = a; pieces = pushed from to ∷ []; follow = ((a, b, same-self g.tab g.bytes from, upto-order g.tab g.bytes from to order), tt); is = refl } in
      string-whole g text one on

  -- data is in no reference
  data-out : (s : State) (e : Event) (t : State) → same_name e.name name.Data ≡ true → Step Is s e t → (s ≡ outside) × (t ≡ outside)
  data-out outside e t d (inl h) = (refl, h.1)
  data-out outside e t d (inr h) = absurd (false≢true (sym h.1.own.no_data ∙ d))
  data-out (inside last []) e t d h = absurd h
  data-out (inside last (y ∷ ys)) e t d h = absurd (false≢true (sym h.1.own.no_data ∙ d))

  data-names : (e f : Event) → is_data e f ≡ true → (same_name e.name name.Data ≡ true) × (same_name f.name name.Data ≡ true)
  data-names e f h =
      let both = and_parts (is_enter e.kind && same_name e.name name.Data) (not (is_enter f.kind) && same_name f.name name.Data) h in
      ((and_parts (is_enter e.kind) (same_name e.name name.Data) both.0).1, (and_parts (not (is_enter f.kind)) (same_name f.name name.Data) both.1).1)

  record IsDataOut (s : State) (es : List Event) : Type 0 where
    here : s ≡ outside
    more : AreWhole Is es

  both-out : (s : State) (e f : Event) (es : List Event) → is_data e f ≡ true → Goes Is s (e ∷ f ∷ es) outside → IsDataOut s es
  both-out s e f es d h =
      let names = data-names e f d in
      let one = data-out s e h.0 names.0 h.1 in
      let two = data-out h.0 f h.2.0 names.1 h.2.1 in
      record { here = one.0; more = subst (λ r. Goes Is r es outside) two.1 h.2.2 }

  abbrev read : Bool → List Event → List Event
  read within es = with_strings_from on g.tab g.bytes within es

  strings-whole : (within : Bool) (es : List Event) (s : State) → Goes Is s es outside → AllByRecursion (λ (e : Event). IsPointOf g.tab g.bytes e.point) es → Rising es → Goes Is s (read within es) outside
  strings-whole within [] s h at order = h
  strings-whole within (e ∷ []) s h at order = h
  strings-whole within (e ∷ f ∷ es) s h at order =
      by (within && is_data e f) refl (λ one. strings-whole within es outside one at.1.1 (rising-behind f es order.1)) (strings-whole (in_string_after within e) (f ∷ es) h.0 h.2 at.1 order.1)
    where
      by : (b : Bool) → (within && is_data e f) ≡ b → (AreWhole Is es → AreWhole Is (read within es)) → Goes Is h.0 (read (in_string_after within e) (f ∷ es)) outside
          → Goes Is s (cond b (line_as_string on g.tab g.bytes e.point f.point ++ read within es) (e ∷ read (in_string_after within e) (f ∷ es))) outside
      by true d more other =
          let out = both-out s e f es (and_parts within (is_data e f) d).1 h in
          let line = line_as_string on g.tab g.bytes e.point f.point in
          subst (λ r. Goes Is r (line ++ read within es) outside) (sym out.here)
          (whole-both Is line (read within es) (line-whole e.point f.point at.0 at.1.0 order.0) (more out.more))
      by false d more other = (h.0, h.1, other)

  -- ---- documents
  abbrev blocks : List Event
  blocks = document_blocks g

  abbrev sk : List Event
  sk = skeleton_chains g

  abbrev AreOther : List Event → Type 0
  AreOther es = AllByRecursion (λ (e : Event). NoReference e.name) es

  sk-other : AreOther sk
  sk-other = cells-each (λ (e : Event). NoReference e.name) (λ e h. h) on (document_skeleton g) (weaker (around-other on) (document_skeleton g) (skeleton-around on g.bytes (virtual g.tab g.bytes))).all

  -- blocks have no references
  blocks-other : AreOther blocks
  blocks-other =
      subst AreOther (sym (blocks-are-celled skeleton-laws g is))
      (children-are (λ (e : Event). NoReference e.name) (λ f e p. p) (Some content.Content) sk (λ c. flow_events on (shown_as_text g).bytes (text_from (shown_as_text g) sk c).seats) sk-other
      (λ c. (flow-other on (shown_as_text g).bytes (text_from (shown_as_text g) sk c).seats).all))

  abbrev defined : List ℕ → Bool
  defined = is_defined_in g

  abbrev inlines : List Event
  inlines = with_inlines defined g blocks

  inlines-whole : AreWhole Is inlines
  inlines-whole =
      children-whole Is g.tab g.bytes (Some content.Text) blocks (text-ready skeleton-laws g is content.Text) (others-whole Is blocks blocks-other)
      (map (λ c. inline_events defined g (chain_text g blocks c)) (fitting_starts (Some content.Text) blocks)) (all-texts skeleton-laws g is defined (AreWhole Is) (λ text one. inline-whole g text one defined))
      (texts-torn skeleton-laws g is defined inlines-hold-text)

  each-string : (cs : List ℕ) → AllByRecursion (λ c. begins (Some content.String) inlines c ≡ true) cs → AllByRecursion (AreWhole Is) (map (λ c. string_events g (chain_text g inlines c)) cs)
  each-string [] b = tt
  each-string (c ∷ cs) b = let text = chain_text g inlines c in (string-whole g text (is-text g inlines is content.String (strings-ready skeleton-laws g is defined) c b.0) on, each-string cs b.1)

  texts-whole : AreWhole Is (document_texts g)
  texts-whole =
      let ready = strings-ready skeleton-laws g is defined in
      let starts = fitting_starts (Some content.String) inlines in
      let strings = map (λ c. string_events g (chain_text g inlines c)) starts in
      children-whole Is g.tab g.bytes (Some content.String) inlines ready inlines-whole strings (each-string starts (all-begin g inlines is content.String ready))
      (lone-untorn g.tab g.bytes (Some content.String) inlines ready (inlines-lone skeleton-laws g is defined inlines-hold-text) strings)

  document-whole : AreWhole Is (document_events g)
  document-whole =
      let texts = document_texts g in
      let orderly = texts-orderly skeleton-laws g is defined in
      strings-whole false texts outside texts-whole (recursion_from_All (λ (e : Event). IsPointOf g.tab g.bytes e.point) texts orderly.at_places) (rising texts orderly.in_order.0)

  -- ---- where one is entered
  record GoesOnWith (ys es : List Event) : Type 0 where
    others : List Event
    are : es ≡ ys ++ others

  comes : (e : Event) (ys es : List Event) → Goes Is (behind e ys) es outside → GoesOnWith ys es
  comes e [] es h = record { others = es; are = refl }
  comes e (y ∷ ys) [] h = absurd (cc)
  comes e (y ∷ ys) (z ∷ es) h =
      let more = comes z ys es (subst (λ r. Goes Is r es outside) h.1.2 h.2) in
      record { others = more.others; are = ap (λ x. x ∷ es) h.1.0 ∙ ap (λ l. y ∷ l) more.are }

  at-enter : (s : State) (before behind_it : List Event) (e : Event) → enters name.CharacterReference e ≡ true → Goes Is s (before ++ e ∷ behind_it) outside → IsWholeReference g.bytes e behind_it
  at-enter outside [] es e enter (t, inl h, more) = absurd (false≢true (sym h.0 ∙ (and_parts (is_enter e.kind) (same_name e.name name.CharacterReference) enter).1))
  at-enter outside [] es e enter (t, inr h, more) =
      let span = h.1.is in
      let rest = comes e h.0 es (subst (λ r. Goes Is r es outside) h.2 more) in
      record { begins = span.begins; others = rest.others; are = ap (λ l. e ∷ l) rest.are ∙ ap (λ l. l ++ rest.others) span.are }
  at-enter (inside last []) [] es e enter h = absurd h.1
  at-enter (inside last (y ∷ ys)) [] es e enter h = absurd (false≢true (sym h.1.1.no_enter ∙ enter))
  at-enter s (x ∷ before) es e enter h = at-enter h.0 before es e enter h.2

  each-enter : (s : State) (es : List Event) → Goes Is s es outside → AllByRecursion (λ (e : Event). enters name.CharacterReference e ≡ true → BeginsWithReference (drop e.point.index g.bytes)) es
  each-enter s [] h = tt
  each-enter s (e ∷ es) h = ((λ enter. (at-enter s [] es e enter h).begins), each-enter h.0 es h.2)

pub references-of-documents : ReferencesOfDocumentsStand
references-of-documents g is =
    All-from_recursion (λ (e : Event). enters name.CharacterReference e ≡ true → BeginsWithReference (drop e.point.index g.bytes)) (document_events g) (each-enter g is outside (document_events g) (document-whole g is))

pub references-of-documents-end : ReferencesOfDocumentsEnd
references-of-documents-end g is before behind_it e all enter = at-enter g is outside before behind_it e enter (subst (λ l. Goes (IsSpanOf g.bytes) outside l outside) all (document-whole g is))
