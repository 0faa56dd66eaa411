-- The events of a document are balanced, at places and in order of these: so are its blocks, and so is what texts and strings are read as.
use Rattle.mddocument.proofs.Prelude.{◌≡◌, ℕ, Bool, List, [], ◌∷◌, ◌++◌, Some, true, length, map, range_with_len, sym, subst, AllByRecursion, append-nil, every-map, Content, StringContent, TextContent, Event, Point, IsBalanced, IsInOrder, IsVoidTight, tight-at, IsPointOf, IsShown, end_after, AreAtPlaces, HaveNoLinks, begins, chain_of, fitting_starts, with_children, IsReady, IsWellFormed, Given, IsDocument, IsText, Text, shown, AcrossGap, Course, course-every, text-course, Formed, Place, chain_text, inline_events, string_events, inline-alone, string_seat_events, inline_seat_events}
use Rattle.std.proofs.lemmas.List.Elements.{All-from_recursion}
use Rattle.std.specs.List.{AllZip}
use Rattle.markdown_base.proofs.Orders.{order-pairs}
use Rattle.markdown_children.proofs.ChainOrder.Following.{Fits, follow_one_another, starts_fit}
use Rattle.markdown_children.proofs.Parts.AtPlaces.{with_children_at_places}
use Rattle.markdown_children.proofs.Parts.InShape.{children_fit}
use Rattle.markdown_children.proofs.Parts.Staying.{each-ready, stays-ready}
use Rattle.markdown_children.specs.LawStatements.{IsWholeFrom}
use Rattle.markdown_base.proofs.Balanced.{balanced_from_open}
use Rattle.mddocument.proofs.InContainers.Skeletons.{SkeletonLaws, skeleton_chains}
use Rattle.mdblock_text_lines.specs.DocumentBlocks.{document_blocks}
use Rattle.mdinline_machine.specs.LawStatements.{with_inlines, with_strings as with_string_chunks}
use Rattle.mdinline_text_machine.proofs.Paragraphs.ChainEvents.{all-begin, is-text}
use Rattle.mdinline_link_strings.proofs.Kept.{strings_keep}
use Rattle.mdinline_link_strings.proofs.Orders.{keep_order}
use Rattle.mdinline_link_strings.proofs.Places.{stand_at_places}
use Rattle.mddocument.specs.DocumentEvents.{document_events, document_texts, is_defined_in}
use Rattle.mddocument.proofs.FlowTexts.Accounts.{bare-marks}
use Rattle.mddocument.proofs.FlowTexts.Forms.{string-forms}
use Rattle.mddocument.proofs.FlowTexts.InlineForms.{inline-forms}
use Rattle.mddocument.proofs.FlowTexts.InlineSteps.{Steps, steps-virtual}
use Rattle.mddocument.proofs.InContainers.Blocks.{blocks-ready}
use Rattle.mddocument.proofs.InContainers.BlocksFormed.{blocks-well}
use Rattle.mddocument.proofs.InContainers.InlinePlaces.{inline-at, string-at}
use Rattle.mddocument.proofs.InContainers.Ordered.{IsPutWell, ordered-children}
use Rattle.mddocument.proofs.InContainers.Parts.{InChunks}
use Rattle.mddocument.proofs.InContainers.Places.{EndsAt}
use Rattle.mddocument.proofs.InContainers.Ranges.{chain-seats-in}

-- A list is balanced, and its events are at places, in order
pub record IsOrderly (t : ℕ) (bytes : List ℕ) (events : List Event) : Type 0 where
  pub balanced : IsBalanced events
  pub at_places : AreAtPlaces t bytes events
  pub in_order : IsInOrder bytes events

formed-orderly : (t : ℕ) (bytes : List ℕ) (p : Point) (es : List Event) (q : Point) → Formed t bytes p es q → IsOrderly t bytes es
formed-orderly t bytes p es q h = record {
  balanced = balanced_from_open es (h.balanced []);
  at_places = All-from_recursion (λ (e : Event). IsPointOf t bytes e.point) es (every-map (λ (e : Event). Place t bytes e.point) (λ (e : Event). IsPointOf t bytes e.point) (λ e k. k.is_point) es h.places);
  in_order = (
    order-pairs p es q h.order,
    All-from_recursion (λ (e : Event). IsShown bytes e.point) es (every-map (λ (e : Event). Place t bytes e.point) (λ (e : Event). IsShown bytes e.point) (λ e k. k.is_shown) es h.places),
  );
}

-- ---- what any text is read as
module _ (g : Given) (text : Text) (is : IsText g text) where
  abbrev from : Point
  from = shown g.bytes text.start

  whole-course : Course AcrossGap g.tab g.bytes from (text.seats ++ [])
  whole-course = subst (Course AcrossGap g.tab g.bytes from) (sym (append-nil text.seats)) (text-course g text is)

  whole-steps : AllByRecursion (Steps g.bytes) text.seats
  whole-steps = course-every AcrossGap g.tab g.bytes (Steps g.bytes) (steps-virtual g.bytes g.tab) from text.seats (text-course g text is)

  pub string-orderly : IsOrderly g.tab g.bytes (string_events g text)
  string-orderly =
      let on = g.options.constructs in
      let formed = string-forms g.tab g.bytes on text.seats from [] whole-course in
      let to = end_after from text.seats in
      formed-orderly g.tab g.bytes from (string_events g text) to (subst (λ l. Formed g.tab g.bytes from l to) (bare-marks (string_seat_events on g.bytes text.seats)) formed)

  pub string-tight : IsVoidTight (string_events g text)
  string-tight =
      let on = g.options.constructs in
      let to = end_after from text.seats in
      let formed : Formed g.tab g.bytes from (string_events g text) to = subst (λ l. Formed g.tab g.bytes from l to) (bare-marks (string_seat_events on g.bytes text.seats)) (string-forms g.tab g.bytes on text.seats from [] whole-course) in
      tight-at (string_events g text) formed.tight

-- so is inline text, by which labels are defined
pub inline-orderly : (defined : List ℕ → Bool) (g : Given) (text : Text) → IsText g text → IsOrderly g.tab g.bytes (inline_events defined g text)
inline-orderly defined g text is =
    let on = g.options.constructs in
    let start = from g text is in
    let formed = inline-forms g.tab g.bytes g.options defined text.seats (whole-steps g text is) start [] (whole-course g text is) in
    let to = end_after start text.seats in
    formed-orderly g.tab g.bytes start (inline_events defined g text) to (subst (λ l. Formed g.tab g.bytes start l to) (bare-marks (inline_seat_events defined g.options g.bytes text.seats)) formed)

-- ---- chains of a content, each read so
module _ (g : Given) (is : IsDocument g) (content : Content) (events : List Event) (ready : IsReady g.tab g.bytes (Some content) events) (reads : Text → List Event)
    (orderly : (text : Text) → IsText g text → IsOrderly g.tab g.bytes (reads text))
    (stands : (At : Point → Type 0) (text : Text) → IsText g text → AllByRecursion (EndsAt At g.bytes) text.seats → AllByRecursion (λ (e : Event). At e.point) (reads text)) where
  abbrev starts : List ℕ
  starts = fitting_starts (Some content) events

  abbrev read_at : ℕ → List Event
  read_at c = reads (chain_text g events c)

  each-put : (cs : List ℕ) → AllByRecursion (λ c. begins (Some content) events c ≡ true) cs → AllByRecursion (Fits (Some content) events) cs → AllByRecursion (IsWholeFrom events) cs
      → AllZip (IsPutWell g.tab g.bytes (Some content) events ready) cs (map read_at cs)
  each-put [] b fit whole = tt
  each-put (c ∷ cs) b fit whole =
      let text = chain_text g events c in
      let one = is-text g events is content ready c b.0 in
      let seats = chain-seats-in g is (Some content) events ready c fit.0 whole.0 in
      (((orderly text one).in_order, stands (InChunks events (chain_of events c)) text one seats), each-put cs b.1 fit.1 whole.1)

  each-of : (P : List Event → Type 0) → ((es : List Event) → IsOrderly g.tab g.bytes es → P es) → (cs : List ℕ) → AllByRecursion (λ c. begins (Some content) events c ≡ true) cs → AllByRecursion P (map read_at cs)
  each-of P holds [] b = tt
  each-of P holds (c ∷ cs) b = (holds (read_at c) (orderly (chain_text g events c) (is-text g events is content ready c b.0)), each-of P holds cs b.1)

  pub all-balanced : AllByRecursion IsBalanced (map read_at starts)
  all-balanced = each-of IsBalanced (λ es h. h.balanced) starts (all-begin g events is content ready)

  pub read-orderly : IsOrderly g.tab g.bytes events → IsOrderly g.tab g.bytes (with_children (Some content) events (map read_at starts))
  read-orderly old =
      let begin = all-begin g events is content ready in
      let fit = starts_fit g.tab g.bytes (Some content) events ready (range_with_len 0 (length events)) in
      let whole = (follow_one_another g.tab g.bytes (Some content) events ready).whole in
      let children = map read_at starts in
      record {
        balanced = (children_fit g.tab g.bytes (Some content) events ready children).balanced all-balanced;
        at_places = with_children_at_places g.tab g.bytes (Some content) events children old.at_places (each-of (AreAtPlaces g.tab g.bytes) (λ es h. h.at_places) starts begin);
        in_order = ordered-children g.tab g.bytes (Some content) events ready old.in_order children (each-put starts begin fit whole);
      }

-- ---- a document
module _ (laws : SkeletonLaws) (g : Given) (is : IsDocument g) where
  abbrev blocks : List Event
  blocks = document_blocks g

  pub content-ready : (wanted : Content) → IsReady g.tab g.bytes (Some wanted) blocks
  content-ready wanted = blocks-ready laws g is (Some wanted) (each-ready g.tab g.bytes (skeleton_chains g) (laws.all_ready g is) wanted)

  string-stands : (At : Point → Type 0) (text : Text) → IsText g text → AllByRecursion (EndsAt At g.bytes) text.seats → AllByRecursion (λ (e : Event). At e.point) (string_events g text)
  string-stands At text one ends = string-at At g.bytes g.options.constructs text.seats ends

  blocks-orderly : IsOrderly g.tab g.bytes blocks
  blocks-orderly = let h = blocks-well laws g is in record { balanced = h.balanced; at_places = h.at_places; in_order = h.in_order }

  -- their texts and strings, by which labels are defined
  module _ (defined : List ℕ → Bool) where
    abbrev inlines : List Event
    inlines = with_inlines defined g blocks

    inline-stands : (At : Point → Type 0) (text : Text) → IsText g text → AllByRecursion (EndsAt At g.bytes) text.seats → AllByRecursion (λ (e : Event). At e.point) (inline_events defined g text)
    inline-stands At text one ends = inline-at At g.bytes defined g.tab g.options text.seats (shown g.bytes text.start) [] (whole-course g text one) (whole-steps g text one) ends

    inlines-orderly : IsOrderly g.tab g.bytes inlines
    inlines-orderly = read-orderly g is TextContent blocks (content-ready TextContent) (inline_events defined g) (inline-orderly defined g) inline-stands blocks-orderly

    alone : (cs : List ℕ) → AllByRecursion HaveNoLinks (map (λ c. inline_events defined g (chain_text g blocks c)) cs)
    alone [] = tt
    alone (c ∷ cs) = (inline-alone defined g (chain_text g blocks c), alone cs)

    pub strings-ready : IsReady g.tab g.bytes (Some StringContent) inlines
    strings-ready =
        let starts = fitting_starts (Some TextContent) blocks in
        let children = map (λ c. inline_events defined g (chain_text g blocks c)) starts in
        stays-ready g.tab g.bytes (Some TextContent) blocks (content-ready TextContent) (Some StringContent) children (content-ready StringContent)
        (all-balanced g is TextContent blocks (content-ready TextContent) (inline_events defined g) (inline-orderly defined g) inline-stands) (alone starts)

    pub texts-orderly : IsOrderly g.tab g.bytes (with_string_chunks g inlines)
    texts-orderly = read-orderly g is StringContent inlines strings-ready (string_events g) (string-orderly g) string-stands inlines-orderly

  events-orderly : IsOrderly g.tab g.bytes (document_events g)
  events-orderly =
      let on = g.options.constructs in
      let texts = document_texts g in
      let h = texts-orderly (is_defined_in g) in
      record {
        balanced = (strings_keep on g.tab g.bytes texts).0 h.balanced;
        at_places = stand_at_places on g.tab g.bytes texts is.tab.0 h.at_places;
        in_order = keep_order on g.tab g.bytes texts is.tab.0 h.at_places h.in_order;
      }

  -- if void spans are empty too, they are well formed
  pub events-formed : IsVoidTight (document_events g) → IsWellFormed g (document_events g)
  events-formed tight = record { balanced = events-orderly.balanced; void_tight = tight; at_places = events-orderly.at_places; in_order = events-orderly.in_order }
