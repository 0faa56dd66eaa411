-- Documents: the events of links are those of the texts, one text behind another. So they come in turn, and no link is in a link.
use Rattle.mddocument_rules.proofs.Prelude.{◌≡◌, ◌∙◌, ℕ, List, [], ◌∷◌, ◌++◌, Bool, true, false, cond, not, Some, refl, sym, ap, inl, inr, and_parts, cases_Bool, false_from_ne_true, false≢true, subst, flat_map, ◌&&◌, Constructs, Event, Name, Seat, same_name, same_name-true, Given, IsDocument, IsReady, document_blocks}
use Rattle.markdown_base.specs.declared.event.Content.TheVariants.{String, Text}
use Rattle.markdown_base.specs.declared.event.Name.TheVariants.{Data, Link}
use Rattle.markdown_base.specs.Events.{is_enter, is_void}
use Rattle.mdinline_link_strings.specs.StringItems.{string_seat_events}
use Rattle.mdinline_link_strings.specs.Strings.{in_string_after, is_data, line_as_string, seats_between, with_strings_from}
use Rattle.mdinline_machine.specs.InlineChains.{with_inlines}
use Rattle.mdinline_machine.specs.InlineEvents.{inline_events}
use Rattle.mdinline_machine.specs.StringEvents.{string_events}
use Rattle.mdinline_text_machine.specs.ChainTexts.{chain_text}
use Rattle.mddocument.proofs.InContainers.InlineHolds.{inlines-hold-text}
use Rattle.mddocument.proofs.InContainers.Skeletons.{skeleton-laws}
use Rattle.mddocument.proofs.InContainers.TextsFormed.{content-ready, events-formed, strings-ready}
use Rattle.mddocument.proofs.InContainers.Tight.{events-tight}
use Rattle.mddocument.specs.DocumentEvents.{document_events, document_texts, is_defined_in}
use Rattle.mddocument_laws.proofs.Chosen.{AreOther, bare, chosen, chosen-behind, chosen-kept, chosen-of-children}
use Rattle.mddocument_laws.proofs.ItemNames.{strings-named}
use Rattle.mddocument_laws.proofs.Named.{weaker}
use Rattle.mddocument_laws.proofs.PlainNames.{plain-may}
use Rattle.mddocument_laws.specs.EmphasisLaws.{text_starts}
use Rattle.mddocument_laws.specs.Names.{may_be_named}
use Rattle.mddocument_rules.proofs.BlocksPlain.{blocks-linkless}
use Rattle.mddocument_rules.proofs.FlatLinks.{IsFlat, flat-of, flat-stands, is_link}
use Rattle.mddocument_rules.proofs.LinksApart.{inline-flat}
use Rattle.mddocument_rules.specs.StandingLaws.{NoLinkInALink}

-- ---- strings, which do not depend on whether ends of labels are on
module _ (on : Constructs) where
  abbrev without : Constructs
  without = record on { label_end = false }

  other-name : (n : Name) → may_be_named without n ≡ true → is_link n ≡ false
  other-name n may = false_from_ne_true (is_link n) (λ e. false≢true (subst (λ m. may_be_named without m ≡ true) (same_name-true n Link e) may))

  string-linkless : (bytes : List ℕ) (seats : List Seat) → AreOther is_link (string_seat_events on bytes seats)
  string-linkless bytes seats = (weaker (λ n h. other-name n (plain-may without n h)) (string_seat_events without bytes seats) (strings-named without bytes seats).named).all

named-data : (n : Name) → same_name n Data ≡ true → is_link n ≡ false
named-data n h = ap is_link (same_name-true n Data h)

data-linkless : (e f : Event) → is_data e f ≡ true → AreOther is_link (e ∷ f ∷ [])
data-linkless e f h =
    let both = and_parts (is_enter e.kind && same_name e.name Data) (not (is_enter f.kind) && same_name f.name Data) h in
    let first = and_parts (is_enter e.kind) (same_name e.name Data) both.0 in
    let second = and_parts (not (is_enter f.kind)) (same_name f.name Data) both.1 in
    (named-data e.name first.1, (named-data f.name second.1, tt))

-- where strings are read, links stay
module _ (on : Constructs) (t : ℕ) (bytes : List ℕ) where
  strings-kept : (inside : Bool) (es : List Event) → chosen is_link (with_strings_from on t bytes inside es) ≡ chosen is_link es
  strings-kept inside [] = refl
  strings-kept inside (e ∷ []) = refl
  strings-kept inside (e ∷ f ∷ es) =
      let line = line_as_string on t bytes e.point f.point in
      let read = with_strings_from on t bytes inside es in
      let other = with_strings_from on t bytes (in_string_after inside e) (f ∷ es) in
      elim (cases_Bool (inside && is_data e f)) [
        | inl a ↦
            let linkless = data-linkless e f (and_parts inside (is_data e f) a).1 in
            ap (λ b. chosen is_link (cond b (line ++ read) (e ∷ other))) a
            ∙ chosen-behind is_link line read (string-linkless on bytes (seats_between t bytes e.point f.point))
            ∙ strings-kept inside es
            ∙ sym (chosen-behind is_link (e ∷ f ∷ []) es linkless)
        | inr a ↦
            ap (λ b. chosen is_link (cond b (line ++ read) (e ∷ other))) a
            ∙ ap (λ l. cond (is_link e.name) (bare e ∷ l) l) (strings-kept (in_string_after inside e) (f ∷ es))
      ]

-- no void span is a link
void-other : (n : Name) → is_void n ≡ true → is_link n ≡ false
void-other n void = false_from_ne_true (is_link n) (λ e. false≢true (subst (λ m. is_void m ≡ true) (same_name-true n Link e) void))

-- ---- a document
module _ (g : Given) (is : IsDocument g) where
  abbrev blocks : List Event
  blocks = document_blocks g

  abbrev inlines : List Event
  inlines = with_inlines (is_defined_in g) g blocks

  -- the events of the text that begins at an index
  abbrev inline : ℕ → List Event
  inline c = inline_events (is_defined_in g) g (chain_text g blocks c)

  texts-ready : IsReady g.tab g.bytes (Some Text) blocks
  texts-ready = content-ready skeleton-laws g is Text

  all-ready : IsReady g.tab g.bytes (Some String) inlines
  all-ready = strings-ready skeleton-laws g is (is_defined_in g)

  links-are : chosen is_link (document_events g) ≡ flat_map (λ c. chosen is_link (inline c)) (text_starts g)
  links-are =
      strings-kept g.options.constructs g.tab g.bytes false (document_texts g)
      ∙ chosen-kept is_link g.tab g.bytes (Some String) inlines all-ready (λ c. string_events g (chain_text g inlines c)) void-other (λ c. string-linkless g.options.constructs g.bytes (chain_text g inlines c).seats)
      ∙ chosen-of-children is_link g.tab g.bytes (Some Text) blocks texts-ready inline (blocks-linkless g)

  document-flat : IsFlat (document_events g)
  document-flat = flat-of (document_events g) inline (text_starts g) (λ c. inline-flat g.bytes g.options.constructs (is_defined_in g) (chain_text g blocks c).seats g.options.gfm_strikethrough_single_tilde) links-are

pub links-apart-in-documents : NoLinkInALink
links-apart-in-documents g is = flat-stands (document_events g) (events-formed skeleton-laws g is (events-tight skeleton-laws inlines-hold-text g is)).balanced (document-flat g is)
