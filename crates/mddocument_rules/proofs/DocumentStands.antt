-- Documents stand: inline text takes the place of chunks of texts, then strings that of their chunks, and of data in destinations, titles and labels.
use Rattle.mddocument_rules.proofs.Prelude.{◌≡◌, ◌∙◌, ℕ, ◌+◌, ◌-◌, List, [], ◌∷◌, ◌++◌, Bool, true, false, not, Some, None, map, refl, sym, ap, subst, arith, and_parts, cond_both, false≢true, AllByRecursion, between, option_and_then, option_map, drop, every-drop, inline_names, ◌&&◌, ◌||◌, Constructs, Event, Kind, Enter, Exit, Name, same_name, same_name-true, content_at, content_of, next_of, Given, IsDocument, Fits, chunk, fitting_starts, IsReady, document_blocks, is_in, list_names, may_stand, text_names, is_wanted}
use Rattle.markdown_base.proofs.Common.{every-take}
use Rattle.markdown_base.specs.declared.event.Content.TheVariants as content
use Rattle.markdown_base.specs.declared.event.Link.{Link}
use Rattle.markdown_base.specs.declared.event.Name.TheVariants.{Data}
use Rattle.markdown_base.specs.Events.{is_enter}
use Rattle.markdown_tokenizer.specs.Plain.{HaveNoLinks}
use Rattle.mdinline_link_strings.specs.Strings.{in_string_after, is_data, line_as_string, seats_between, with_strings_from}
use Rattle.mdinline_machine.proofs.InlineChains.{inline-alone}
use Rattle.mdinline_machine.proofs.StringRuns.{string-alone}
use Rattle.mdinline_machine.specs.InlineChains.{with_inlines}
use Rattle.mdinline_machine.specs.InlineEvents.{inline_events}
use Rattle.mdinline_machine.specs.StringEvents.{string_events}
use Rattle.mdinline_text_machine.proofs.Paragraphs.ChainEvents.{is-content}
use Rattle.mdinline_text_machine.specs.ChainTexts.{chain_text}
use Rattle.mddocument.proofs.InContainers.InlineHolds.{inlines-hold-text}
use Rattle.mddocument.proofs.InContainers.Skeletons.{skeleton-laws}
use Rattle.mddocument.proofs.InContainers.TextsFormed.{content-ready, strings-ready}
use Rattle.mddocument.proofs.InContainers.Tight.{inlines-lone}
use Rattle.mddocument.specs.DocumentEvents.{document_events, document_texts, is_defined_in}
use Rattle.mddocument_rules.proofs.Blocks.{blocks-walk, stands-relinked}
use Rattle.mddocument_rules.proofs.BlocksPlain.{blocks-not-inline}
use Rattle.mddocument_rules.proofs.Places.{ChunkFits, NotInList, Stands}
use Rattle.mddocument_rules.proofs.TextItems.{inline-stands, string-balanced, string-stands}
use Rattle.mddocument_rules.proofs.TightSpans.{IsBare, Tight, gap-stands, no-chunks, texts-tight, tight-stays}
use Rattle.mddocument_rules.proofs.Walk.{IfEnter, MayBe, Stays, Walks, all-walks, behind-balanced, behind_one, walks-all, walks-and, walks-both}
use Rattle.mddocument_rules.proofs.Weave.{IsChild, children-walk}
use Rattle.mddocument_rules.specs.StandingLaws.{SpansStand}

abbrev May : List Name → Event → Type 0
May = MayBe may_stand

-- ---- events without links stand, if their names do
abbrev IsAlone : Event → Type 0
IsAlone e = e.link ≡ None

alone-all : (es : List Event) → HaveNoLinks es → AllByRecursion IsAlone es
alone-all [] h = tt
alone-all (e ∷ es) h = (h.0, alone-all es h.1)

alone-stand : (around : List Name) (es : List Event) → Walks May around es → HaveNoLinks es → Walks Stands around es
alone-stand around es w h =
    walks-and May Stands IsAlone (λ around e m l. (m, subst (ChunkFits around) (sym (ap (option_map (λ (x : Link). x.content)) l)) tt)) around es w (alone-all es h)

names-stand : (around : List Name) (es : List Event) → Walks Stands around es → Walks May around es
names-stand around [] w = tt
names-stand around (e ∷ es) w = (enters e.kind w.0, names-stand (behind_one e.kind e.name around) es w.1)
  where
    enters : (k : Kind) → IfEnter k (Stands around e) → IfEnter k (May around e)
    enters Enter s = s.0
    enters Exit s = tt

-- any span may be around
abbrev Any : List Name → Type 0
Any around = Unit {0}

any-stays : (around : List Name) (es : List Event) → Stays Any around es
any-stays around [] = tt
any-stays around (e ∷ es) = (tt, any-stays (behind_one e.kind e.name around) es)

-- ---- data stands in no list
data-apart : (around : List Name) → may_stand around Data ≡ true → NotInList around
data-apart around m = by (is_in list_names around) refl m
  where
    by : (b : Bool) → is_in list_names around ≡ b → (not b || false) ≡ true → is_in list_names around ≡ false
    by true e h = absurd (false≢true h)
    by false e h = e

-- where data in strings is read, all stands
module _ (on : Constructs) (t : ℕ) (bytes : List ℕ) where
  two-walks : (around : List Name) (e f : Event) (es : List Event) → is_data e f ≡ true → Walks May around (e ∷ f ∷ es) → NotInList around × Walks May around es
  two-walks around e f es d w =
      let both = and_parts (is_enter e.kind && same_name e.name Data) (not (is_enter f.kind) && same_name f.name Data) d in
      let first = and_parts (is_enter e.kind) (same_name e.name Data) both.0 in
      let second = and_parts (not (is_enter f.kind)) (same_name f.name Data) both.1 in
      let begun = entered e.kind first.0 w.0 w.1 in
      (data-apart around (subst (λ n. may_stand around n ≡ true) (same_name-true e.name Data first.1) begun.0), exited f.kind second.0 begun.1.1)
    where
      entered : (k : Kind) → is_enter k ≡ true → IfEnter k (May around e) → Walks May (behind_one k e.name around) (f ∷ es) → May around e × Walks May (e.name ∷ around) (f ∷ es)
      entered Enter h m w = (m, w)
      entered Exit h m w = absurd (false≢true h)

      exited : (k : Kind) → not (is_enter k) ≡ true → Walks May (behind_one k f.name (e.name ∷ around)) es → Walks May around es
      exited Enter h w = absurd (false≢true h)
      exited Exit h w = w

  strings-walk : (inside : Bool) (around : List Name) (es : List Event) → Walks May around es → Walks May around (with_strings_from on t bytes inside es)
  strings-walk inside around [] w = tt
  strings-walk inside around (e ∷ []) w = w
  strings-walk inside around (e ∷ f ∷ es) w =
      let line = line_as_string on t bytes e.point f.point in
      let seats = seats_between t bytes e.point f.point in
      let read = with_strings_from on t bytes inside es in
      cond_both (inside && is_data e f) (line ++ read) (e ∷ with_strings_from on t bytes (in_string_after inside e) (f ∷ es)) (Walks May around)
      (λ d.
      let two = two-walks around e f es (and_parts inside (is_data e f) d).1 w in
      walks-both May around line read (string-stands bytes on seats around two.0) (subst (λ (a : List Name). Walks May a read) (sym (behind-balanced (string-balanced bytes on seats) around)) (strings-walk inside around es two.1)))
      (λ d. (w.0, strings-walk (in_string_after inside e) (behind_one e.kind e.name around) (f ∷ es) w.1))

-- ---- a document
module _ (g : Given) (is : IsDocument g) where
  abbrev blocks : List Event
  blocks = document_blocks g

  abbrev inlines : List Event
  inlines = with_inlines (is_defined_in g) g blocks

  texts-ready : IsReady g.tab g.bytes (Some content.Text) blocks
  texts-ready = content-ready skeleton-laws g is content.Text

  all-ready : IsReady g.tab g.bytes (Some content.String) inlines
  all-ready = strings-ready skeleton-laws g is (is_defined_in g)

  -- ---- texts
  abbrev InText : List Name → Type 0
  InText around = is_in text_names around ≡ true

  -- the events of the text that begins at an index
  abbrev inline : ℕ → List Event
  inline c = inline_events (is_defined_in g) g (chain_text g blocks c)

  text-fits : (k : ℕ) (at : Fits (Some content.Text) blocks k) (around : List Name) → Stands around (chunk g.tab g.bytes (Some content.Text) blocks texts-ready k at).enter → InText around
  text-fits k at around h =
      let c = chunk g.tab g.bytes (Some content.Text) blocks texts-ready k at in
      let as_text : content_of c.enter ≡ Some content.Text = sym (ap (option_and_then content_of) c.enter_at) ∙ is-content content.Text (content_at blocks k) at in
      subst (ChunkFits around) as_text h.1

  -- between two chunks of a text is neither a chunk nor inline text
  all-bare : (es : List Event) → AllByRecursion (λ (e : Event). is_wanted inline_names e.name ≡ false) es → AllByRecursion (λ (e : Event). content_of e ≡ None) es → AllByRecursion IsBare es
  all-bare [] h k = tt
  all-bare (e ∷ es) h k = ((h.0, k.0), all-bare es h.1 k.1)

  gap-bare : (k d : ℕ) → Fits (Some content.Text) blocks k → next_of blocks k ≡ Some d → AllByRecursion IsBare (between (k + 2) d blocks)
  gap-bare k d at next =
      let other = λ (e : Event). is_wanted inline_names e.name ≡ false in
      let names = every-take other (d - (k + 2)) (drop (k + 2) blocks) (every-drop other (k + 2) blocks (blocks-not-inline g)) in
      let chunks = no-chunks blocks (k + 2) (d - (k + 2)) (λ m low high. (texts-ready.gaps k d at next).no_link m low (omega (arith, low, high))) in
      all-bare (between (k + 2) d blocks) names chunks

  text-gap : (k d : ℕ) → Fits (Some content.Text) blocks k → next_of blocks k ≡ Some d → (around within : List Name) → InText around → Walks Stands around (between (k + 2) d blocks) → Tight within → Walks Stands within (between (k + 2) d blocks)
  text-gap k d at next around within r w ok = gap-stands (texts-ready.gaps k d at next).balanced (gap-bare k d at next) around within (texts-tight around r) ok.0 w

  each-text : (cs : List ℕ) → AllByRecursion (IsChild Stands stands-relinked InText Tight) (map inline cs)
  each-text [] = tt
  each-text (c ∷ cs) =
      let es = inline c in
      let h = inline-stands (is_defined_in g) g.options g.bytes (chain_text g blocks c).seats in
      let names = λ (around : List Name) (r : InText around). all-walks may_stand around es (h.1 around r) in (
        record {
          balanced = h.0;
          walks = λ around r. alone-stand around es (names around r) (inline-alone (is_defined_in g) g (chain_text g blocks c));
          stays = λ around r. tight-stays h.0 around (texts-tight around r) (names around r);
        },
        each-text cs,
      )

  inlines-walk : Walks Stands [] inlines
  inlines-walk =
      let cs = fitting_starts (Some content.Text) blocks in
      children-walk Stands stands-relinked InText Tight g.tab g.bytes (Some content.Text) blocks texts-ready text-fits text-gap (map inline cs) (each-text cs) (blocks-walk g is)

  -- ---- strings, of which each is one chunk
  string-fits : (k : ℕ) (at : Fits (Some content.String) inlines k) (around : List Name) → Stands around (chunk g.tab g.bytes (Some content.String) inlines all-ready k at).enter → NotInList around
  string-fits k at around h =
      let c = chunk g.tab g.bytes (Some content.String) inlines all-ready k at in
      let as_string : content_of c.enter ≡ Some content.String = sym (ap (option_and_then content_of) c.enter_at) ∙ is-content content.String (content_at inlines k) at in
      subst (ChunkFits around) as_string h.1

  string-gap : (k d : ℕ) → Fits (Some content.String) inlines k → next_of inlines k ≡ Some d → (around within : List Name) → NotInList around → Walks Stands around (between (k + 2) d inlines) → Any within → Walks Stands within (between (k + 2) d inlines)
  string-gap k d at next around within r w ok = absurd (inlines-lone skeleton-laws g is (is_defined_in g) inlines-hold-text k d at next)

  each-string : (cs : List ℕ) → AllByRecursion (IsChild Stands stands-relinked NotInList Any) (map (λ c. string_events g (chain_text g inlines c)) cs)
  each-string [] = tt
  each-string (c ∷ cs) =
      let text = chain_text g inlines c in
      let es = string_events g text in
      let on = g.options.constructs in (
        record {
          balanced = string-balanced g.bytes on text.seats;
          walks = λ around r. alone-stand around es (string-stands g.bytes on text.seats around r) (string-alone g text);
          stays = λ around r. any-stays around es;
        },
        each-string cs,
      )

  texts-walk : Walks Stands [] (document_texts g)
  texts-walk =
      let cs = fitting_starts (Some content.String) inlines in
      children-walk Stands stands-relinked NotInList Any g.tab g.bytes (Some content.String) inlines all-ready string-fits string-gap (map (λ c. string_events g (chain_text g inlines c)) cs) (each-string cs) inlines-walk

pub documents-stand : SpansStand
documents-stand g is =
    walks-all may_stand [] (document_events g) (strings-walk g.options.constructs g.tab g.bytes false [] (document_texts g) (names-stand [] (document_texts g) (texts-walk g is)))
