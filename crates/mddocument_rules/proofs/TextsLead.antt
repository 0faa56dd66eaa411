-- Texts of documents: each link and each image leads to a destination, or to a label that is defined, with what is between the lines of its text.
use Rattle.mddocument_rules.proofs.Prelude.{◌≡◌, ◌∙◌, ℕ, ◌+◌, ◌-◌, Bool, true, false, List, [], ◌∷◌, ◌++◌, append-nil, Option, Some, ap, arith, between, drop, every-all, false_from_ne_true, false≢true, flat_map, length, map, option_and_then, option_map, or_cases, inl, inr, refl, slice_get, subst, suc, sym, drop-at, AllByRecursion, Constructs, Content, Event, Name, Seat, content_at, content_of, inline_names, is_wanted, next_of, same_name, same_name-true, virtual, Fits, Given, IsDocument, IsReady, begins, chunk, document_blocks, fitting_starts, some_content}
use Rattle.std.specs.List.{range_with_len}
use Rattle.std.specs.Prelude.{◌<◌}
use Rattle.std.proofs.lemmas.List.Elements.{recursion_from_All}
use Rattle.markdown_base.proofs.Common.{every-map}
use Rattle.markdown_base.specs.declared.event.Content.TheVariants as content
use Rattle.markdown_base.specs.declared.event.Name.TheVariants as name
use Rattle.markdown_base.specs.Places.{shown}
use Rattle.markdown_base.specs.declared.event.Link.{Link}
use Rattle.markdown_children.proofs.ChainOrder.Following.{follow_one_another, starts_fit}
use Rattle.markdown_children.proofs.ChainOrder.Spaced.{changes_are_apart}
use Rattle.markdown_children.proofs.Parts.Kept.{after_changes, joined, part_after, split-at, untagged, untagged-olds, with_children_holds}
use Rattle.markdown_children.specs.Chains.{chain_of, fits}
use Rattle.markdown_children.specs.Children.{child_changes, part_changes}
use Rattle.markdown_children.specs.LawStatements.{AreSpaced, LeadOnFrom}
use Rattle.markdown_children.specs.Parts.{Divided, divided_over}
use Rattle.markdown_edits.proofs.Edits.Passes.{woven-pass}
use Rattle.markdown_edits.specs.Woven.{AreApart, Change, Tagged, woven}
use Rattle.markdown_tokenizer.specs.Plain.{HaveNoLinks}
use Rattle.mdblock_leaf_blocks.proofs.Marks.Courses.{Course, course-every, text-course}
use Rattle.mdblock_leaf_blocks.specs.ChunksJoin.{AcrossGap}
use Rattle.mdinline_link_strings.specs.StringItems.{string_seat_events}
use Rattle.mdinline_machine.proofs.InlineChains.{inline-alone}
use Rattle.mdinline_machine.specs.InlineChains.{with_inlines}
use Rattle.mdinline_machine.specs.InlineEvents.{inline_events}
use Rattle.mdinline_machine.specs.StringEvents.{string_events}
use Rattle.mdinline_text_machine.proofs.Paragraphs.ChainEvents.{all-begin, is-text}
use Rattle.mdinline_text_machine.specs.ChainTexts.{chain_text}
use Rattle.mddocument.proofs.Emphasis.InlineAccounts.{inline-lined}
use Rattle.mddocument.proofs.FlowTexts.InlineSteps.{Steps, steps-virtual}
use Rattle.mddocument.proofs.InContainers.InlineHolds.{inlines-hold-text}
use Rattle.mddocument.proofs.InContainers.Skeletons.{skeleton-laws}
use Rattle.mddocument.proofs.InContainers.TextsFormed.{content-ready, inline-orderly, strings-ready}
use Rattle.mddocument.proofs.InContainers.Tight.{blocks-gaps, inlines-lone}
use Rattle.mddocument.proofs.Innermost.Blocks.{blocks-account}
use Rattle.mddocument.specs.DocumentEvents.{document_texts, is_defined_in}
use Rattle.mddocument_laws.proofs.Chosen.{AreOther}
use Rattle.mddocument_laws.proofs.DocumentNames.{chain-in, defined-if-on, inlines-named}
use Rattle.mddocument_laws.proofs.ItemNames.{strings-named}
use Rattle.mddocument_laws.proofs.Named.{weaker}
use Rattle.mddocument_laws.proofs.PlainNames.{plain-may}
use Rattle.mddocument_laws.specs.Names.{may_be_named}
use Rattle.mddocument_rules.proofs.AddedSpace.{AreSpace}
use Rattle.mddocument_rules.proofs.ApartLinks.{AllBare, LeadApart, apart-both, apart-free, apart-front, apart-placed}
use Rattle.mddocument_rules.proofs.BlocksPlain.{blocks-not-inline}
use Rattle.mddocument_rules.proofs.Leading.{is_reference}
use Rattle.mddocument_rules.proofs.SpacedChains.{IsReadApart, all-apart}
use Rattle.mddocument_rules.proofs.TextReferences.{inline-lead}
use Rattle.mddocument_rules.proofs.TightSpans.{no-chunks}
use Rattle.mddocument_rules.proofs.WrittenTexts.{AreUnmarked, IsUnmarked}

-- ---- names
reference-other : (P : Name → Type 0) → (P name.Link → ⊥) → (P name.Image → ⊥) → (n : Name) → P n → is_reference n ≡ false
reference-other P link image n h = false_from_ne_true (is_reference n) (λ e. elim (or_cases (same_name n name.Link) (same_name n name.Image) e) [
  | inl a ↦ link (subst P (same_name-true n name.Link a) h)
  | inr b ↦ image (subst P (same_name-true n name.Image b) h)
])

alone-bare : (es : List Event) → HaveNoLinks es → AllBare es
alone-bare [] h = tt
alone-bare (e ∷ es) h = (ap (option_map (λ (l : Link). l.content)) h.0, alone-bare es h.1)

module _ (on : Constructs) where
  abbrev without_labels : Constructs
  without_labels = record on { label_end = false }

  abbrev without_quotes : Constructs
  without_quotes = record on { block_quote = false }

  pub string-unlinked : (bytes : List ℕ) (seats : List Seat) → AreOther is_reference (string_seat_events on bytes seats)
  string-unlinked bytes seats =
      (weaker (λ n h. reference-other (λ m. may_be_named without_labels m ≡ true) (λ e. false≢true e) (λ e. false≢true e) n (plain-may without_labels n h)) (string_seat_events without_labels bytes seats) (strings-named without_labels bytes seats).named).all

blocks-other : (g : Given) → AreOther is_reference (document_blocks g)
blocks-other g =
    every-map (λ (e : Event). is_wanted inline_names e.name ≡ false) (λ (e : Event). is_reference e.name ≡ false)
    (λ e h. reference-other (λ m. is_wanted inline_names m ≡ false) (λ e. false≢true (sym e)) (λ e. false≢true (sym e)) e.name h) (document_blocks g) (blocks-not-inline g)

-- inline text has no markers of block quotes
inline-unmarked : (g : Given) (c : ℕ) → AreUnmarked (inline_events (is_defined_in g) g (chain_text g (document_blocks g) c))
inline-unmarked g c =
    let on = g.options.constructs in
    let other : Given = record g { options = record g.options { constructs = without_quotes on } } in
    let text = chain_text g (document_blocks g) c in
    every-map (λ (e : Event). may_be_named (without_quotes on) e.name ≡ true) IsUnmarked
    (λ e h. false_from_ne_true (same_name e.name name.BlockQuoteMarker) (λ is. false≢true (subst (λ n. may_be_named (without_quotes on) n ≡ true) (same_name-true e.name name.BlockQuoteMarker is) h)))
    (inline_events (is_defined_in g) g text)
    (recursion_from_All (λ (e : Event). may_be_named (without_quotes on) e.name ≡ true) (inline_events (is_defined_in g) g text) (inlines-named (is_defined_in g) other text (defined-if-on g) (chain-in g (document_blocks g) c)))

module _ (g : Given) (is : IsDocument g) where
  abbrev blocks : List Event
  blocks = document_blocks g

  abbrev defined : List ℕ → Bool
  defined = is_defined_in g

  abbrev inlines : List Event
  inlines = with_inlines defined g blocks

  abbrev of_text : Option Content
  of_text = Some content.Text

  abbrev of_string : Option Content
  of_string = Some content.String

  texts-ready : IsReady g.tab g.bytes of_text blocks
  texts-ready = content-ready skeleton-laws g is content.Text

  all-ready : IsReady g.tab g.bytes of_string inlines
  all-ready = strings-ready skeleton-laws g is defined

  abbrev wide : 0 < g.tab
  wide = is.tab.0

  abbrev inline : ℕ → List Event
  inline c = inline_events defined g (chain_text g blocks c)

  -- what stands between two chunks of a text is space
  abbrev pub AreSpaces : Type 0
  AreSpaces = (k d : ℕ) → fits of_text blocks k ≡ true → next_of blocks k ≡ Some d → (between (k + 2) d blocks ≡ [] → ⊥) → AreSpace g.bytes (between (k + 2) d blocks)

  gap-bare : (k d : ℕ) → fits of_text blocks k ≡ true → next_of blocks k ≡ Some d → AllBare (between (k + 2) d blocks)
  gap-bare k d at next = no-chunks blocks (k + 2) (d - (k + 2)) (λ m low high. (texts-ready.gaps k d at next).no_link m low (omega (arith, low, high)))

  module _ (space : AreSpaces) where
    abbrev ReadApart : ℕ → Type 0
    ReadApart c = IsReadApart g wide of_text blocks texts-ready (blocks-gaps skeleton-laws g is content.Text) defined space gap-bare (inline c) (chain_text g blocks c).seats

    read-apart : (c : ℕ) → begins of_text blocks c ≡ true → ReadApart c
    read-apart c begin =
        let text = chain_text g blocks c in
        let one = is-text g blocks is content.Text texts-ready c begin in
        let on = g.options.constructs in
        let p = shown g.bytes text.start in
        let course = text-course g text one in
        let steps = course-every AcrossGap g.tab g.bytes (Steps g.bytes) (steps-virtual g.bytes g.tab) p text.seats course in
        let orderly = inline-orderly defined g text one in
        record {
          well = record {
            lined = inline-lined g.tab g.bytes g.options defined text.seats steps p [] (subst (Course AcrossGap g.tab g.bytes p) (sym (append-nil text.seats)) course);
            balanced = orderly.balanced;
            in_order = orderly.in_order.0;
          };
          from = p;
          course = course;
          plain = inline-unmarked g c;
          leads = inline-lead g.tab g.bytes defined on g.options.gfm_strikethrough_single_tilde text.seats p course;
          bares = alone-bare (inline c) (inline-alone defined g text);
        }

    reads : (cs : List ℕ) → AllByRecursion (λ c. begins of_text blocks c ≡ true) cs → AllByRecursion ReadApart cs
    reads [] b = tt
    reads (c ∷ cs) b = (read-apart c b.0, reads cs b.1)

    inlines-apart : LeadApart g.bytes defined inlines
    inlines-apart =
        let n = length blocks in
        let starts = fitting_starts of_text blocks in
        let f = follow_one_another g.tab g.bytes of_text blocks texts-ready in
        let ws : List Change = child_changes of_text blocks (map inline starts) in
        let z : n ≡ 0 + n = omega arith in
        let apart : AreApart 0 ws (0 + n) = subst (AreApart 0 ws) z (changes_are_apart g.tab g.bytes of_text blocks (map inline starts) texts-ready).apart in
        let spaced : AreSpaced 0 (flat_map (chain_of blocks) starts) n = subst (λ (ks : List ℕ). AreSpaced 0 ks n) (sym f.in_order) f.spaced in
        let all = all-apart g wide of_text blocks texts-ready (blocks-gaps skeleton-laws g is content.Text) defined space gap-bare inline (blocks-other g) starts 0
        (starts_fit g.tab g.bytes of_text blocks texts-ready (range_with_len 0 n)) f.whole (reads starts (all-begin g blocks is content.Text texts-ready)) spaced [] (virtual g.tab g.bytes) (record { whole = refl; account = blocks-account skeleton-laws g is }) in
        let ts = woven ws 0 blocks in
        apart-placed g.bytes defined ts ts (subst (λ (us : List Tagged). LeadApart g.bytes defined (untagged us)) (sym (woven-pass ws 0 blocks apart)) all)

    -- ---- strings, of which each is one chunk
    abbrev Keeps : List Change → ℕ → Type 0
    Keeps ws i = LeadApart g.bytes defined (drop i inlines) → LeadApart g.bytes defined (after_changes inlines ws i)

    one-string : (c i : ℕ) (ks more : List ℕ) (ps : List (List Event)) (ws : List Change) → Fits of_string inlines c → LeadOnFrom inlines c ks → length (c ∷ ks) ≡ length ps → AreOther is_reference (joined ps) → Unit {0}
        → AreSpaced i (c ∷ (ks ++ more)) (length inlines) → ((m : ℕ) → AreSpaced m more (length inlines) → Keeps ws m) → Keeps (part_changes c 0 (c ∷ ks) ps ++ ws) i
    one-string c i (d ∷ ks) more ps ws fit lead e other u sp keeps h = absurd (inlines-lone skeleton-laws g is defined inlines-hold-text c d fit lead.0)
    one-string c i [] more [] ws fit lead e other u sp keeps h = absurd (omega (arith, e))
    one-string c i [] more (p ∷ q ∷ ps) ws fit lead e other u sp keeps h = absurd (omega (arith, e))
    one-string c i [] more (p ∷ []) ws fit lead e other u sp keeps h =
        let k = chunk g.tab g.bytes of_string inlines all-ready c fit in
        let found = some_content of_string (content_at inlines c) fit in
        let as_content : content_of k.enter ≡ Some found.0 = sym (ap (option_and_then content_of) k.enter_at) ∙ found.1 in
        let first = between i c inlines in
        let one : suc c ≡ c + 1 = omega arith in
        let two : suc (suc c) ≡ c + 2 = omega arith in
        let there : drop c inlines ≡ k.enter ∷ k.exit ∷ drop (c + 2) inlines =
        drop-at inlines c k.enter k.enter_at ∙ ap (λ ys. k.enter ∷ ys) (drop-at inlines (suc c) k.exit (ap (slice_get inlines) one ∙ k.exit_at) ∙ ap (λ m. k.exit ∷ drop m inlines) two) in
        let cut = apart-front g.bytes defined k.enter (k.exit ∷ drop (c + 2) inlines) found.0 as_content k.linked.enter first (subst (LeadApart g.bytes defined) (split-at inlines i c sp.0 ∙ ap (λ l. first ++ l) there) h) in
        let rest = after_changes inlines ws (c + 2) in
        let inside = apart-free g.bytes defined p (subst (AreOther is_reference) (append-nil p) other) in
        subst (LeadApart g.bytes defined) (sym (part_after inlines c 0 i c [] p [] ws sp.0))
        (apart-both g.bytes defined first (p ++ rest) cut.0 (apart-both g.bytes defined p rest inside (keeps (c + 2) sp.1 cut.1.1.1)))

    each-string : (cs : List ℕ) → AllByRecursion (AreOther is_reference) (map (λ c. string_events g (chain_text g inlines c)) cs)
    each-string [] = tt
    each-string (c ∷ cs) = (string-unlinked g.options.constructs g.bytes (chain_text g inlines c).seats, each-string cs)

    -- Links of the texts lead well
    pub texts-apart : LeadApart g.bytes defined (document_texts g)
    texts-apart =
        let n = length inlines in
        let starts = fitting_starts of_string inlines in
        let strings = map (λ c. string_events g (chain_text g inlines c)) starts in
        let ws : List Change = child_changes of_string inlines strings in
        let z : n ≡ 0 + n = omega arith in
        let apart : AreApart 0 ws (0 + n) = subst (AreApart 0 ws) z (changes_are_apart g.tab g.bytes of_string inlines strings all-ready).apart in
        let kept : Keeps ws 0 =
        with_children_holds g.tab g.bytes of_string inlines all-ready Keeps (AreOther is_reference) (λ ks ps. Unit {0}) (λ i h. subst (LeadApart g.bytes defined) (sym (untagged-olds i (drop i inlines))) h) one-string strings (each-string starts)
        (every-all (λ (d : Divided). Unit {0}) (λ d. tt) (divided_over inlines starts strings)) in
        let ts = woven ws 0 inlines in
        apart-placed g.bytes defined ts ts (subst (λ (us : List Tagged). LeadApart g.bytes defined (untagged us)) (sym (woven-pass ws 0 inlines apart)) (kept inlines-apart))
