-- Where a document's bytes end a line, data of its blocks stands before the end, and so do the virtual bytes of its texts and strings.
use Rattle.std.proofs.Common.{Bool, List, Option, Some, [], ap, arith, cond, false, inl, inr, length, ltb-false, map, not, refl, subst, suc, sym, true, ℕ, ◌&&◌, ◌+◌, ◌-◌, ◌<◌, ◌==◌, ◌||◌, ◌∙◌, ◌∷◌, ◌≡◌, ◌≤◌}
use Rattle.std.proofs.lemmas.Bool.{and_parts, eqb-true, false≢true, or_parts}
use Rattle.std.proofs.lemmas.List.{append-nil, get_or_past, length-map}
use Rattle.std.proofs.lemmas.List.Elements.{recursion_from_All}
use Rattle.std.specs.List.{AllByRecursion, list_any, range_with_len}
use Rattle.std.specs.Option.{option_and_then, option_map}
use Rattle.std.specs.Prelude.{All, nat_lt, slice_get, slice_index, unwrap_or}
use Rattle.markdown_base.proofs.Common.{every-get, every-map}
use Rattle.markdown_base.proofs.Facts.Bools.{and-left}
use Rattle.markdown_base.specs.Events.{is_enter, same_name}
use Rattle.markdown_base.specs.Places.{IsPointOf, IsShown, follows_cr, shown}
use Rattle.markdown_base.specs.Virtual.{Seat, begins_with_lf, point, virtual}
use Rattle.markdown_base.specs.declared.event.Content.{Content}
use Rattle.markdown_base.specs.declared.event.Content.TheVariants as content
use Rattle.markdown_base.specs.declared.event.Event.{Event}
use Rattle.markdown_base.specs.declared.event.Name.TheVariants.{Data}
use Rattle.markdown_base.specs.declared.event.Point.{Point}
use Rattle.markdown_edits.specs.Links.{content_of}
use Rattle.markdown_edits.specs.Woven.{is_removed}
use Rattle.markdown_tokenizer.proofs.Positions.Chains.{IsChain, whole-chain}
use Rattle.markdown_tokenizer.specs.Plain.{HaveNoLinks}
use Rattle.markdown_tokenizer.specs.Text.{Given, IsDocument, IsText, Text}
use Rattle.markdown_children.proofs.ChainOrder.Following.{Fits, chunk, fits_next, follow_one_another, some_content, starts_fit}
use Rattle.markdown_children.specs.Chains.{begins, content_at, fits, fitting_starts, some_fits}
use Rattle.markdown_children.specs.Children.{child_changes, with_children}
use Rattle.markdown_children.specs.LawStatements.{IsWholeFrom, LeadOnFrom}
use Rattle.markdown_children.specs.Ready.{IsReady, place_at}
use Rattle.mdconstructs_machines.specs.LineEvents.{is_line_ending, line_text, lines_in}
use Rattle.mdinline_text_machine.proofs.Paragraphs.ChainEvents.{all-begin, is-text}
use Rattle.mdinline_text_machine.specs.ReadChains.{chain_text}
use Rattle.mdinline_link_strings.specs.Strings.{is_data, seats_between}
use Rattle.mdinline_machine.proofs.InlineChains.{inline-alone}
use Rattle.mdinline_machine.proofs.StringRuns.{string-alone}
use Rattle.mdinline_machine.specs.InlineChains.{with_inlines, with_strings as with_string_chunks}
use Rattle.mdinline_machine.specs.InlineEvents.{inline_events}
use Rattle.mdinline_machine.specs.StringEvents.{string_events}
use Rattle.mdblock_leaf_blocks.proofs.Marks.Courses.{Course, course-every, text-course}
use Rattle.mdblock_leaf_blocks.specs.ChunksJoin.{AcrossGap}
use Rattle.mdblock_leaf_blocks.specs.LeafBlocks.{Line}
use Rattle.mdblock_containers.specs.Letters.{ArePlainFrom, is_plain, letter, lettered_from}
use Rattle.mdblock_definitions.proofs.SectionsReady.{skeletons-have-one-content}
use Rattle.mdblock_definitions.specs.Blocks.{document_skeleton}
use Rattle.mdblock_text_lines.specs.DocumentBlocks.{document_blocks}
use Rattle.mdblock_definitions.specs.Skeleton.{sections_in_seats, sections_marks}
use Rattle.mddocument.proofs.FlowTexts.InlineSteps.{Steps, steps-virtual}
use Rattle.mddocument.proofs.InContainers.Blocks.{at, bare, blocks-are-celled, blocks_at, content-ready, shown as lettered, shown-is}
use Rattle.mddocument.proofs.InContainers.CellLinks.{fits-same}
use Rattle.mddocument.proofs.InContainers.CellsKeep.{with-cells-by}
use Rattle.mddocument.proofs.InContainers.InlinePlaces.{inline-at, string-at}
use Rattle.mddocument.proofs.InContainers.Order.{Upto}
use Rattle.mddocument.proofs.InContainers.Parts.{InChunks}
use Rattle.mddocument.proofs.InContainers.Places.{EndsAt}
use Rattle.mddocument.proofs.InContainers.Ranges.{IsWithin, SeatIn, chain-seats-in, range-within}
use Rattle.mddocument.proofs.InContainers.Removed.{removed-fits}
use Rattle.mddocument.proofs.InContainers.SkeletonCells.{skeleton-free}
use Rattle.mddocument.proofs.InContainers.Skeletons.{SkeletonLaws, skeleton-laws}
use Rattle.mddocument.proofs.InContainers.TextsFormed.{content-ready as ready-for, strings-ready, texts-orderly}
use Rattle.mddocument_parts.proofs.CellsLeft.{text-is-data, was}
use Rattle.mddocument_parts.proofs.EventsLeft.{AtData, Each, StandsAt, all-left, each-all, exit-removed, none-stand, stands-moved, flow-stands, chained-left, skeleton-stands}
use Rattle.mddocument_parts.proofs.LetteredBoth.{lettered-many}
use Rattle.mddocument_parts.proofs.MovedReads.{shown-before}
use Rattle.mddocument_parts.proofs.TextLines.{AreTextLines, AreTextSeats, inner-text, lines-of-texts, virtual-texts}
use Rattle.mddocument_parts.specs.Moved.{begins_line}
use Rattle.mddocument_parts.specs.ReadTexts.{StandsBefore}

-- ==== Where bytes end a line, the virtual bytes of their texts stand before the end: but for a line ending at the end of a text.
-- a place before so many bytes are over
abbrev pub Before : ℕ → Point → Type 0
Before n p = p.index < n

pub upto-index : (p q : Point) → Upto p q → p.index ≤ q.index
upto-index p q h = ltb-false q.index p.index (or_parts (nat_lt q.index p.index) ((q.index == p.index) && nat_lt q.vs p.vs) h).0

pub before-down : (n : ℕ) (p q : Point) → Upto p q → Before n q → Before n p
before-down n p q h k = let le = upto-index p q h in omega (arith, le, k)

-- a place that is shown before the end is before the end
pub shown-inside : (bytes : List ℕ) (p : Point) → Before (length bytes) (shown bytes p) → Before (length bytes) p
shown-inside bytes p h = by ((slice_index bytes p.index == 10) && follows_cr bytes p.index) refl h
  where
    by : (c : Bool) → ((slice_index bytes p.index == 10) && follows_cr bytes p.index) ≡ c
        → Before (length bytes) (cond c (record { line = p.line; column = p.column; index = p.index - 1; vs = p.vs }) p) → Before (length bytes) p
    by true e k =
        let ten : slice_index bytes p.index ≡ 10 = eqb-true (slice_index bytes p.index) 10 (and-left (slice_index bytes p.index == 10) (follows_cr bytes p.index) e) in
        let past : length bytes ≤ p.index → slice_index bytes p.index ≡ 0 = λ l. get_or_past bytes p.index 0 l in
        grind (arith, ten, past)
    by false e k = k

module _ (bytes : List ℕ) where
  abbrev Ends : Seat → Type 0
  Ends = EndsAt (Before (length bytes)) bytes

  -- a virtual byte begins before the end, and ends before it if it is no line ending
  abbrev pub IsInside : Seat → Type 0
  IsInside s = Before (length bytes) (shown bytes s.point) × (is_line_ending s ≡ false → Before (length bytes) (shown bytes s.end))

  show : (p : Point) → Before (length bytes) p → Before (length bytes) (shown bytes p)
  show p h = shown-before bytes p (length bytes) h

  pub stands-ends : (s : Seat) → StandsBefore (length bytes) s → Ends s
  stands-ends s h = (show s.point h.0, show s.end h.1)

  -- ---- a document
  chain-inside : (t : ℕ) (p : Point) (seats : List Seat) → IsChain t bytes p seats → AllByRecursion (λ (s : Seat). Before (length bytes) s.point) seats
  chain-inside t p [] c = tt
  chain-inside t p (s ∷ ss) c = (c.1.inside, chain-inside t s.end ss c.2)

  both-inside : (seats : List Seat) → AllByRecursion (λ (s : Seat). Before (length bytes) s.point) seats → AreTextSeats (StandsBefore (length bytes)) seats → AllByRecursion IsInside seats
  both-inside [] a h = tt
  both-inside (s ∷ []) a h = ((show s.point a.0, λ plain. show s.end (h plain).1), tt)
  both-inside (s ∷ next ∷ ss) a h = ((show s.point a.0, λ plain. show s.end h.0.1), both-inside (next ∷ ss) a.1 h.1)

  module _ (b : List ℕ) (ends : begins_line b bytes ≡ true) (t : ℕ) (wide : 0 < t) where
    texts-inside : AreTextSeats (StandsBefore (length bytes)) (virtual t bytes)
    texts-inside = virtual-texts t (length bytes) b bytes 1 1 0 ends (omega arith)

    pub virtual-inside : AllByRecursion IsInside (virtual t bytes)
    virtual-inside = both-inside (virtual t bytes) (chain-inside t (point 1 1 0 0) (virtual t bytes) (whole-chain t bytes wide)) texts-inside

    lines-inside : (lines : List Line) → AreTextLines (StandsBefore (length bytes)) lines → AllByRecursion (λ (line : Line). AllByRecursion Ends (line_text line)) lines
    lines-inside [] h = tt
    lines-inside (line ∷ []) h = (every-map (StandsBefore (length bytes)) Ends stands-ends (line_text line) h, tt)
    lines-inside (line ∷ next ∷ lines) h = (every-map (StandsBefore (length bytes)) Ends stands-ends (line_text line) (inner-text (StandsBefore (length bytes)) line h.0), lines-inside (next ∷ lines) h.1)

    -- the texts of its lines
    pub document-lines : AllByRecursion (λ (line : Line). AllByRecursion Ends (line_text line)) (lines_in (virtual t bytes))
    document-lines = lines-inside (lines_in (virtual t bytes)) (lines-of-texts (StandsBefore (length bytes)) (virtual t bytes) texts-inside)

  -- virtual bytes of it, one behind another
  pub course-texts : (Meets : (from to : Point) → Type 0) (t : ℕ) (p : Point) (seats : List Seat) → Course Meets t bytes p seats → AllByRecursion IsInside seats → AreTextSeats Ends seats
  course-texts Meets t p [] c h = tt
  course-texts Meets t p (s ∷ []) c h = λ plain. (h.0.0, h.0.1 plain)
  course-texts Meets t p (s ∷ r ∷ ss) c h =
      let later = upto-index s.end (shown bytes r.point) c.2.1.later in
      let there : Before (length bytes) (shown bytes r.point) = h.1.0.0 in
      let end : Before (length bytes) (shown bytes s.end) = show s.end (omega (arith, later, there)) in
      ((h.0.0, end), course-texts Meets t s.end (r ∷ ss) c.2 h.1)

-- ---- with letters
module _ (at : List ℕ) where
  -- bytes that end a line do so
  pub lettered-line : (b : List ℕ) (n : ℕ) (bytes : List ℕ) → ArePlainFrom n at bytes → begins_line b bytes ≡ true → begins_line b (lettered_from n at bytes) ≡ true
  lettered-line b n [] plain h = refl
  lettered-line b n (x ∷ []) plain h = by (list_any (λ i. i == n) at) plain.0
    where
      never : (nine ten thirteen c : Bool) → (not nine && (not ten && not thirteen)) ≡ true → (ten || (thirteen && c)) ≡ true → ⊥
      never nine ten thirteen c e f = grind arith

      by : (c : Bool) → (c ≡ true → is_plain x ≡ true) → begins_line b (cond c letter x ∷ []) ≡ true
      by true k = absurd (never (x == 9) (x == 10) (x == 13) (not (begins_with_lf b)) (k refl) h)
      by false k = h
  lettered-line b n (x ∷ y ∷ bytes) plain h = lettered-line b (suc n) (y ∷ bytes) plain.1 h

-- ==== Where a document's bytes end a line, data of its blocks stands before the end, and so do the virtual bytes of its texts and strings.
-- ---- chains of data
module _ (At : Point → Type 0) (down : (p q : Point) → Upto p q → At q → At p) where
  module _ (g : Given) (is : IsDocument g) (wanted : Content) (events : List Event) (ready : IsReady g.tab g.bytes (Some wanted) events) (stand : Each (StandsAt At) events) where
    abbrev Fit : ℕ → Type 0
    Fit = Fits (Some wanted) events

    -- a chunk ends there
    pub exit-at : (k : ℕ) → Fit k → At (place_at events (k + 1))
    exit-at k fit =
        let c = chunk g.tab g.bytes (Some wanted) events ready k fit in
        let some = some_content (Some wanted) (content_at events k) fit in
        let linked : content_of c.enter ≡ Some some.0 = sym (ap (option_and_then content_of) c.enter_at) ∙ some.1 in
        let named = (stand k c.enter c.enter_at).named some.0 linked in
        let data_name : same_name c.exit.name Data ≡ true = ap (λ n. same_name n Data) (c.ended.same ∙ named) in
        subst (λ (o : Option Event). At (unwrap_or (option_map (λ (e : Event). e.point) o) (point 1 1 0 0))) (sym c.exit_at) ((stand (k + 1) c.exit c.exit_at).at data_name)

    in-chunks : (k : ℕ) (ks : List ℕ) → Fit k → LeadOnFrom events k ks → (p : Point) → InChunks events (k ∷ ks) p → At p
    in-chunks k [] fit lead p h = elim h [
      | inl one ↦ down p (place_at events (k + 1)) one.1 (exit-at k fit)
      | inr none ↦ absurd none
    ]
    in-chunks k (d ∷ ks) fit lead p h = elim h [
      | inl one ↦ down p (place_at events (k + 1)) one.1 (exit-at k fit)
      | inr more ↦ in-chunks d ks (fits_next g.tab g.bytes (Some wanted) events ready k d fit lead.0) lead.2 p more
    ]

    -- and so do the virtual bytes of its text
    seats-at : (c : ℕ) → Fit c → IsWholeFrom events c → AllByRecursion (EndsAt At g.bytes) (chain_text g events c).seats
    seats-at c fit whole =
        let P = SeatIn g is (Some wanted) events ready (c ∷ whole.0) in
        let within = subst (λ ks. AllByRecursion (SeatIn g is (Some wanted) events ready ks) (chain_text g events c).seats) whole.1 (chain-seats-in g is (Some wanted) events ready c fit whole) in
        every-map P (EndsAt At g.bytes) (λ s h. (in-chunks c whole.0 fit whole.2 _ h.0, in-chunks c whole.0 fit whole.2 _ h.1)) (chain_text g events c).seats within

    abbrev starts : List ℕ
    starts = fitting_starts (Some wanted) events

    each-seats : (cs : List ℕ) → AllByRecursion Fit cs → AllByRecursion (IsWholeFrom events) cs → AllByRecursion (λ c. AllByRecursion (EndsAt At g.bytes) (chain_text g events c).seats) cs
    each-seats [] fit whole = tt
    each-seats (c ∷ cs) fit whole = (seats-at c fit.0 whole.0, each-seats cs fit.1 whole.1)

    pub all-seats : AllByRecursion (λ c. AllByRecursion (EndsAt At g.bytes) (chain_text g events c).seats) starts
    all-seats = each-seats starts (starts_fit g.tab g.bytes (Some wanted) events ready (range_with_len 0 (length events))) (follow_one_another g.tab g.bytes (Some wanted) events ready).whole

    -- what chains are read as stands there
    module _ (reads : Text → List Event) (alone : (text : Text) → HaveNoLinks (reads text))
        (stands : (text : Text) → IsText g text → AllByRecursion (EndsAt At g.bytes) text.seats → AllByRecursion (λ (e : Event). At e.point) (reads text)) where
      each-read : (cs : List ℕ) → AllByRecursion (λ c. begins (Some wanted) events c ≡ true) cs → AllByRecursion (λ c. AllByRecursion (EndsAt At g.bytes) (chain_text g events c).seats) cs
          → AllByRecursion (AllByRecursion (StandsAt At)) (map (λ c. reads (chain_text g events c)) cs)
      each-read [] b seats = tt
      each-read (c ∷ cs) b seats =
          let text = chain_text g events c in
          (none-stand At (reads text) (alone text) (stands text (is-text g events is wanted ready c b.0) seats.0), each-read cs b.1 seats.1)

      pub read-stand : Each (StandsAt At) (with_children (Some wanted) events (map (λ c. reads (chain_text g events c)) starts))
      read-stand =
          all-left g.tab g.bytes (Some wanted) events ready (map (λ c. reads (chain_text g events c)) starts) (StandsAt At) (stands-moved At) (λ n e here stays. stand n e here)
          (each-read starts (all-begin g events is wanted ready) all-seats)

module _ (laws : SkeletonLaws) (g : Given) (is : IsDocument g) (b : List ℕ) (ends : begins_line b g.bytes ≡ true) where
  abbrev n : ℕ
  n = length g.bytes

  abbrev At : Point → Type 0
  At = Before n

  abbrev s : Given
  s = lettered laws g is

  abbrev sk : List Event
  sk = bare laws g is

  abbrev of_content : Option Content
  of_content = Some content.Content

  sk-ready : IsReady g.tab s.bytes of_content sk
  sk-ready = content-ready laws g is

  abbrev sk_starts : List ℕ
  sk_starts = fitting_starts of_content sk

  abbrev leaves : List (List Event)
  leaves = map (blocks_at laws g is) sk_starts

  wide : 0 < g.tab
  wide = let tab = is.tab.0 in omega (arith, tab)

  same-length : length s.bytes ≡ n
  same-length = (lettered-many (at laws g is) 0 g.bytes (laws.plain g is)).long

  -- ---- leaf blocks
  leaf-at : (c : ℕ) → begins of_content sk c ≡ true → AllByRecursion (StandsAt At) (blocks_at laws g is c)
  leaf-at c begin =
      let text = chain_text s sk c in
      let one = is-text s sk (shown-is laws g is) content.Content sk-ready c begin in
      let course = text-course s text one in
      let line = lettered-line (at laws g is) b 0 g.bytes (laws.plain g is) ends in
      let inside = course-every AcrossGap s.tab s.bytes (IsInside s.bytes) (virtual-inside s.bytes b line s.tab wide) (shown s.bytes text.start) text.seats course in
      let texts = course-texts s.bytes AcrossGap s.tab (shown s.bytes text.start) text.seats course inside in
      flow-stands At s.bytes g.options.constructs text.seats (subst (λ m. AreTextSeats (EndsAt (Before m) s.bytes) text.seats) same-length texts)

  each-leaf : (cs : List ℕ) → AllByRecursion (λ c. begins of_content sk c ≡ true) cs → AllByRecursion (AllByRecursion (StandsAt At)) (map (blocks_at laws g is) cs)
  each-leaf [] h = tt
  each-leaf (c ∷ cs) h = (leaf-at c h.0, each-leaf cs h.1)

  -- ---- the skeleton: its chunks go, and data of definitions stands before the end
  abbrev plain : List Event
  plain = document_skeleton g

  chunk-fits : (k : ℕ) (c : Content) → content_at plain k ≡ Some c → fits of_content sk k ≡ true
  chunk-fits k c here =
      let there : fits of_content plain k ≡ true = ap (some_fits of_content) (here ∙ ap Some (skeletons-have-one-content g is k c here)) in
      with-cells-by (λ es. fits of_content es k ≡ true) g.options.constructs plain (fits-same plain (skeleton-free g is) k ∙ there) there

  gone : (k : ℕ) → fits of_content sk k ≡ true → is_removed (child_changes of_content sk leaves) k ≡ true
  gone = removed-fits g.tab s.bytes of_content sk sk-ready leaves (sym (length-map sk_starts (blocks_at laws g is)))

  chunk-gone : (k : ℕ) (c : Content) → content_at plain k ≡ Some c → (is_removed (child_changes of_content sk leaves) k ≡ true) × (is_removed (child_changes of_content sk leaves) (k + 1) ≡ true)
  chunk-gone k c here =
      let fit = chunk-fits k c here in
      (gone k fit, exit-removed g.tab s.bytes of_content sk sk-ready leaves k fit (gone k fit))

  skeleton-left : (k : ℕ) (e : Event) → slice_get sk k ≡ Some e → is_removed (child_changes of_content sk leaves) k ≡ false → StandsAt At e
  skeleton-left k e here stays =
      let marks = sections_marks g.bytes (sections_in_seats g.options.constructs (virtual g.tab g.bytes)) in
      let stand = skeleton-stands At g.bytes g.options.constructs g.tab (document-lines g.bytes b ends g.tab wide) in
      let it = was g.options.constructs plain k e here in
      let old : AtData At it.event = chained-left At marks stand (child_changes of_content sk leaves) chunk-gone k it.event it.there stays in
      let linked-data : (c : Content) → content_of e ≡ Some c → e.name ≡ Data = λ c linked.
      let at : content_at sk k ≡ Some c = ap (option_and_then content_of) here ∙ linked in
      elim (laws.of_contents g is k c at) [
        | inl same ↦ absurd (false≢true (sym stays ∙ gone k (ap (some_fits of_content) (at ∙ ap Some same))))
        | inr same ↦ text-is-data g is k e here (at ∙ ap Some same)
      ] in
      record { named = linked-data; at = λ data_name. subst At (sym it.place) (old (ap (λ n. same_name n Data) (sym it.named) ∙ data_name)) }

  blocks-stand : Each (StandsAt At) (document_blocks g)
  blocks-stand =
      subst (Each (StandsAt At)) (sym (blocks-are-celled laws g is))
      (all-left g.tab s.bytes of_content sk sk-ready leaves (StandsAt At) (stands-moved At) skeleton-left
      (each-leaf sk_starts (all-begin s sk (shown-is laws g is) content.Content sk-ready)))

  -- ---- their texts and strings

  module _ (defined : List ℕ → Bool) where
    abbrev blocks : List Event
    blocks = document_blocks g

    abbrev inlines : List Event
    inlines = with_inlines defined g blocks

    abbrev texts : List Event
    texts = with_string_chunks g inlines

    inline-stands : (text : Text) → IsText g text → AllByRecursion (EndsAt At g.bytes) text.seats → AllByRecursion (λ (e : Event). At e.point) (inline_events defined g text)
    inline-stands text one at =
        let from = shown g.bytes text.start in
        let course = text-course g text one in
        inline-at At g.bytes defined g.tab g.options text.seats from [] (subst (Course AcrossGap g.tab g.bytes from) (sym (append-nil text.seats)) course)
        (course-every AcrossGap g.tab g.bytes (Steps g.bytes) (steps-virtual g.bytes g.tab) from text.seats course) at

    inlines-stand : Each (StandsAt At) inlines
    inlines-stand = read-stand At (before-down n) g is content.Text blocks (ready-for laws g is content.Text) blocks-stand (inline_events defined g) (inline-alone defined g) inline-stands

    texts-stand : Each (StandsAt At) texts
    texts-stand =
        read-stand At (before-down n) g is content.String inlines (strings-ready laws g is defined) inlines-stand (string_events g) (string-alone g) (λ text one at. string-at At g.bytes g.options.constructs text.seats at)

-- ---- what is between the two events of data
of-all : (P : Event → Type 0) (es : List Event) → All P es → Each P es
of-all P es h k x at = every-get P es k x (recursion_from_All P es h) at

-- the event stands at a place, and before the end if it is of data
pub record IsKnownData (g : Given) (e : Event) : Type 0 where
  pub is_point : IsPointOf g.tab g.bytes e.point
  pub is_shown : IsShown g.bytes e.point
  pub before : AtData (Before (length g.bytes)) e

pub data-between : (g : Given) → IsDocument g → (e f : Event) → IsKnownData g e → IsKnownData g f → is_data e f ≡ true → AllByRecursion (StandsBefore (length g.bytes)) (seats_between g.tab g.bytes e.point f.point)
data-between g is e f x y h =
    let tab = is.tab.0 in
    let wide : 0 < g.tab = omega (arith, tab) in
    let data_name = (and_parts (not (is_enter f.kind)) (same_name f.name Data) (and_parts (is_enter e.kind && same_name e.name Data) (not (is_enter f.kind) && same_name f.name Data) h).1).1 in
    let last = y.before data_name in
    every-map (IsWithin g.tab g.bytes wide e.point f.point) (StandsBefore (length g.bytes))
    (λ s k. (
      shown-inside g.bytes s.point (before-down (length g.bytes) (shown g.bytes s.point) f.point k.0.1 last),
      shown-inside g.bytes s.end (before-down (length g.bytes) (shown g.bytes s.end) f.point k.1.1 last),
    )) (seats_between g.tab g.bytes e.point f.point) (range-within g.tab g.bytes wide e.point f.point (x.is_point, x.is_shown) (y.is_point, y.is_shown))

-- A document whose bytes end a line: those of others that begin with `b` may come behind it
module _ (g : Given) (is : IsDocument g) (b : List ℕ) (ends : begins_line b g.bytes ≡ true) where
  -- its texts end before the end, and so do their virtual bytes
  pub text-chunks-before-end : (k : ℕ) → fits (Some content.Text) (document_blocks g) k ≡ true → (place_at (document_blocks g) (k + 1)).index < length g.bytes
  text-chunks-before-end =
      exit-at (Before (length g.bytes)) (before-down (length g.bytes)) g is content.Text (document_blocks g) (ready-for skeleton-laws g is content.Text) (blocks-stand skeleton-laws g is b ends)

  module _ (defined : List ℕ → Bool) where
    abbrev with_texts : List Event
    with_texts = with_inlines defined g (document_blocks g)

    -- its strings, too
    pub string-chunks-before-end : (k : ℕ) → fits (Some content.String) with_texts k ≡ true → (place_at with_texts (k + 1)).index < length g.bytes
    string-chunks-before-end =
        exit-at (Before (length g.bytes)) (before-down (length g.bytes)) g is content.String with_texts (strings-ready skeleton-laws g is defined) (inlines-stand skeleton-laws g is b ends defined)

    pub text-data-before-end : Each (AtData (Before (length g.bytes))) (with_string_chunks g with_texts)
    text-data-before-end k e at = (texts-stand skeleton-laws g is b ends defined k e at).at

    -- and all events stand at places
    pub texts-known : AllByRecursion (IsKnownData g) (with_string_chunks g with_texts)
    texts-known =
        let events = with_string_chunks g with_texts in
        let orderly = texts-orderly skeleton-laws g is defined in
        each-all (IsKnownData g) events
        (λ k e at. record {
          is_point = of-all (λ (y : Event). IsPointOf g.tab g.bytes y.point) events orderly.at_places k e at;
          is_shown = of-all (λ (y : Event). IsShown g.bytes y.point) events orderly.in_order.1 k e at;
          before = text-data-before-end k e at;
        })
