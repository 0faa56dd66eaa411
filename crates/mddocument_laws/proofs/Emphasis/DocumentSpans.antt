-- The spans of emphasis of a document are those of its texts, one behind another, and so those of the pairs of each.
use Rattle.mddocument_laws.proofs.Prelude.{◌≡◌, ℕ, List, [], ◌∷◌, ◌++◌, Bool, true, false, cond, not, Some, refl, sym, ap, ◌∙◌, subst, inl, inr, and_parts, cases_Bool, recursion_from_All, IsPermutation-append_left, IsPermutation-append_right, IsPermutation-refl, IsPermutation-trans, flat_map, IsPermutation, ◌&&◌, Constructs, String, Event, Name, Data, is_enter, same_name, Seat, virtual, same_name-true, Given, IsDocument, Text as TextOf, text_from, IsReady, document_blocks, document_skeleton, shown_as_text, flow_events, inline_events, read_events, with_inlines, string_events, in_string_after, is_data, line_as_string, seats_between, with_strings_from, chain_text, skeleton-laws, content-ready, strings-ready, document_events, document_texts, is_defined_in, DocumentsHaveSpansOfPairs, DocumentsHaveSpansOfTexts, TextsHaveSpansOfPairs, text_starts, EmphasisSpan, emphasis_spans, is_emphasis, spans_of_text}
use Rattle.mddocument.proofs.InContainers.Blocks.{blocks-are-celled}
use Rattle.mddocument.proofs.InContainers.CellsKeep.{cells-each}
use Rattle.mddocument.proofs.InContainers.Skeletons.{skeleton_chains}
use Rattle.markdown_base.specs.declared.event.Content.TheVariants.{Content, Text}
use Rattle.mdinline_link_strings.specs.StringItems.{string_seat_events}
use Rattle.mddocument_laws.proofs.ChildNames.{children-named}
use Rattle.mddocument_laws.proofs.Chosen.{AreOther, bare, chosen-behind, chosen-kept, chosen-of-children}
use Rattle.mddocument_laws.proofs.DocumentNames.{defined-if-on}
use Rattle.mddocument_laws.proofs.ItemNames.{read-outer, strings-named}
use Rattle.mddocument_laws.proofs.Named.{weaker}
use Rattle.mddocument_laws.proofs.PlainNames.{bare-plain, plain-other}
use Rattle.mddocument_laws.proofs.SkeletonNames.{skeleton-named}
use Rattle.mddocument_laws.proofs.Emphasis.BlocksPlain.{flow-plain}
use Rattle.mddocument_laws.proofs.Emphasis.ChosenSpans.{emphasis-alone, of_emphasis, spans-of-all, void-plain}
use Rattle.mddocument_laws.proofs.Emphasis.LinkSpans.{text-spans}
use Rattle.mddocument_laws.proofs.Emphasis.PartSpans.{HaveSpans}

-- ---- what has no emphasis
abbrev NonePlain : List Event → Type 0
NonePlain es = AreOther is_emphasis es

-- the blocks of a document
blocks-plain : (g : Given) → IsDocument g → NonePlain (document_blocks g)
blocks-plain g is =
    let on = g.options.constructs in
    let shown = shown_as_text g in
    let bare_list = skeleton_chains g in
    subst NonePlain (sym (blocks-are-celled skeleton-laws g is))
    (children-named (λ n. is_emphasis n ≡ false) (Some Content) bare_list (λ c. flow_events on shown.bytes (text_from shown bare_list c).seats)
    (record { all = cells-each (λ (e : Event). is_emphasis e.name ≡ false) (λ e h. h) on (document_skeleton g) (weaker (λ n h. plain-other on n (bare-plain on n h)) (document_skeleton g) (skeleton-named on g.bytes (virtual g.tab g.bytes))).all })
    (λ c. flow-plain on shown.bytes (text_from shown bare_list c).seats)).all

-- what is read of a text, before links are made
read-plain : (g : Given) (text : TextOf) → NonePlain (read_events (is_defined_in g) g text)
read-plain g text = (read-outer g.options.constructs (is_defined_in g) g.bytes (defined-if-on g) text.seats).plain

-- strings
string-plain : (on : Constructs) (bytes : List ℕ) (seats : List Seat) → NonePlain (string_seat_events on bytes seats)
string-plain on bytes seats = (strings-named on bytes seats).outer.plain

named-data : (n : Name) → same_name n Data ≡ true → is_emphasis n ≡ false
named-data n h = ap is_emphasis (same_name-true n Data h)

data-plain : (e f : Event) → is_data e f ≡ true → NonePlain (e ∷ f ∷ [])
data-plain e f h =
    let both = and_parts (is_enter e.kind && same_name e.name Data) (not (is_enter f.kind) && same_name f.name Data) h in
    let first = and_parts (is_enter e.kind) (same_name e.name Data) both.0 in
    let second = and_parts (not (is_enter f.kind)) (same_name f.name Data) both.1 in
    (named-data e.name first.1, (named-data f.name second.1, tt))

-- where strings are read, emphasis stays
module _ (on : Constructs) (t : ℕ) (bytes : List ℕ) where
  strings-kept : (inside : Bool) (es : List Event) → of_emphasis (with_strings_from on t bytes inside es) ≡ of_emphasis es
  strings-kept inside [] = refl
  strings-kept inside (e ∷ []) = refl
  strings-kept inside (e ∷ f ∷ es) =
      let line = line_as_string on t bytes e.point f.point in
      let read = with_strings_from on t bytes inside es in
      let other = with_strings_from on t bytes (in_string_after inside e) (f ∷ es) in
      elim (cases_Bool (inside && is_data e f)) [
        | inl a ↦
            let plain = data-plain e f (and_parts inside (is_data e f) a).1 in
            ap (λ b. of_emphasis (cond b (line ++ read) (e ∷ other))) a
            ∙ chosen-behind is_emphasis line read (string-plain on bytes (seats_between t bytes e.point f.point))
            ∙ strings-kept inside es
            ∙ sym (chosen-behind is_emphasis (e ∷ f ∷ []) es plain)
        | inr a ↦
            ap (λ b. of_emphasis (cond b (line ++ read) (e ∷ other))) a
            ∙ ap (λ l. cond (is_emphasis e.name) (bare e ∷ l) l) (strings-kept (in_string_after inside e) (f ∷ es))
      ]

-- ---- a document
module _ (g : Given) (is : IsDocument g) where
  abbrev blocks : List Event
  blocks = document_blocks g

  abbrev inlines : List Event
  inlines = with_inlines (is_defined_in g) g blocks

  -- the events of the text that begins at an index
  abbrev inline : ℕ → List Event
  inline c = inline_events (is_defined_in g) g (chain_text g blocks c)

  abbrev of_pairs : ℕ → List EmphasisSpan
  of_pairs c = spans_of_text g.options.gfm_strikethrough_single_tilde g.bytes (read_events (is_defined_in g) g (chain_text g blocks c))

  have : (c : ℕ) → HaveSpans (inline c) (of_pairs c)
  have c = text-spans g.options.gfm_strikethrough_single_tilde g.bytes (read_events (is_defined_in g) g (chain_text g blocks c)) (read-plain g (chain_text g blocks c))

  texts-ready : IsReady g.tab g.bytes (Some Text) blocks
  texts-ready = content-ready skeleton-laws g is Text

  all-ready : IsReady g.tab g.bytes (Some String) inlines
  all-ready = strings-ready skeleton-laws g is (is_defined_in g)

  events-are : of_emphasis (document_events g) ≡ flat_map (λ c. of_emphasis (inline c)) (text_starts g)
  events-are =
      strings-kept g.options.constructs g.tab g.bytes false (document_texts g)
      ∙ chosen-kept is_emphasis g.tab g.bytes (Some String) inlines all-ready (λ c. string_events g (chain_text g inlines c)) void-plain (λ c. string-plain g.options.constructs g.bytes (chain_text g inlines c).seats)
      ∙ chosen-of-children is_emphasis g.tab g.bytes (Some Text) blocks texts-ready inline (blocks-plain g is)

  spans-are : emphasis_spans (document_events g) ≡ flat_map (λ c. emphasis_spans (inline c)) (text_starts g)
  spans-are = sym (emphasis-alone (document_events g)) ∙ ap emphasis_spans events-are ∙ spans-of-all inline (text_starts g) (λ c. (have c).closed)

  in-texts : (cs : List ℕ) → IsPermutation (flat_map (λ c. emphasis_spans (inline c)) cs) (flat_map of_pairs cs)
  in-texts [] = IsPermutation-refl []
  in-texts (c ∷ cs) =
      let rest = flat_map (λ c. emphasis_spans (inline c)) cs in
      IsPermutation-trans (emphasis_spans (inline c) ++ rest) (of_pairs c ++ rest) (of_pairs c ++ flat_map of_pairs cs) (IsPermutation-append_left rest (emphasis_spans (inline c)) (of_pairs c) (have c).all)
      (IsPermutation-append_right (of_pairs c) rest (flat_map of_pairs cs) (in-texts cs))

pub texts-have-spans : TextsHaveSpansOfPairs
texts-have-spans one bytes es h = (text-spans one bytes es (recursion_from_All (λ (e : Event). is_emphasis e.name ≡ false) es h)).all

pub documents-have-spans : DocumentsHaveSpansOfTexts
documents-have-spans g is = spans-are g is

pub documents-have-pairs : DocumentsHaveSpansOfPairs
documents-have-pairs g is = subst (λ l. IsPermutation l (flat_map (of_pairs g is) (text_starts g))) (sym (spans-are g is)) (in-texts g is (text_starts g))
