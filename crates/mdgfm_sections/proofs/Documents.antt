-- What GFM adds to a document that is cut at a rest is what it adds to its parts.
use Rattle.std.proofs.Common.{◌≡◌, ◌∙◌, ℕ, ◌++◌, Bool, true, false, List, [], ◌∷◌, length, map, ap, refl, sym, subst, None}
use Rattle.std.proofs.lemmas.Bool.{and_from, false_from_ne_true, false≢true}
use Rattle.std.specs.List.{AllByRecursion}
use Rattle.std.specs.Prelude.{◌==◌, ◌&&◌, ◌||◌, not, Option, Some}
use Rattle.markdown_base.proofs.Common.{every-map}
use Rattle.markdown_base.specs.declared.configuration.ParseOptions.{ParseOptions}
use Rattle.markdown_base.specs.declared.event.Content.{Content}
use Rattle.markdown_base.specs.declared.event.Event.{Event}
use Rattle.markdown_base.specs.declared.event.Link.{Link}
use Rattle.markdown_base.specs.declared.event.Name.TheVariants.{GfmFootnoteCall}
use Rattle.markdown_base.proofs.Balanced.{same_name-true}
use Rattle.markdown_base.specs.declared.event.Kind.{Kind}
use Rattle.markdown_base.specs.declared.event.Kind.TheVariants.{Enter, Exit}
use Rattle.markdown_base.specs.Events.{IsBalanced, IsInOrder, is_enter, same_name, span}
use Rattle.markdown_base.specs.Virtual.{begins_with_lf}
use Rattle.markdown_edits.specs.Links.{content_of}
use Rattle.markdown_tokenizer.specs.Text.{Given, IsDocument}
use Rattle.mdinline_link_strings.proofs.Orders.{keep_order}
use Rattle.mdinline_link_strings.specs.Strings.{with_strings}
use Rattle.mddocument.proofs.InContainers.Skeletons.{skeleton-laws}
use Rattle.mddocument.proofs.InContainers.TextsFormed.{texts-orderly}
use Rattle.mddocument.specs.DocumentEvents.{document_texts_by}
use Rattle.mddocument.specs.Documents.{document}
use Rattle.mddocument_laws.proofs.DocumentNames.{document-named-by}
use Rattle.mddocument_laws.specs.Names.{may_be_named}
use Rattle.mddocument_laws.specs.NamesOff.{AreDefinedIfOn}
use Rattle.mddocument_parts.proofs.BothDocuments.{document-events-of-both, rest-begins}
use Rattle.mddocument_parts.proofs.DocumentParts.{behind-document, front-document}
use Rattle.mddocument_parts.specs.BothDocuments.{events_by}
use Rattle.mddocument_parts.specs.Moved.{begins_line, line_endings, moved_event, moved_link, moved_point}
use Rattle.mdgfm_literals.specs.Laws.{begins_block, end_line}
use Rattle.mdgfm_literals.specs.Stretches.{is_plain}
use Rattle.mdgfm_documents.proofs.DocumentAhead.{document-inside}
use Rattle.mdgfm_documents.specs.Documents.{with_gfm_by}
use Rattle.mdgfm_footnotes.specs.Laws.{HaveNoCalls}
use Rattle.mddocument_rules.proofs.Walk.{IfEnter, Walks}
use Rattle.mdgfm_sections.proofs.Awaits.{awaits-nothing}
use Rattle.mdgfm_sections.proofs.HeldBlocks.{UnderAll, is_some_text, texts-under}
use Rattle.mdgfm_sections.proofs.HeldItems.{document-items}
use Rattle.mdgfm_sections.proofs.NotesOfEvents.{events-balanced}
use Rattle.mdgfm_sections.proofs.Parts.{gfm-of-parts}
use Rattle.mdgfm_sections.proofs.Unlinked.{IsUnlinked, events-unlinked}
use Rattle.mdgfm_sections.specs.Parts.{GfmOfBoth, gfm_events_by}

-- ---- lines

either-ends : (a b c : Bool) → (a || (b && c)) ≡ true → (a || b) ≡ true
either-ends true b c h = refl
either-ends false true c h = refl
either-ends false false c h = h

begins-ends : (behind bytes : List ℕ) → begins_line behind bytes ≡ true → end_line bytes ≡ true
begins-ends behind [] h = refl
begins-ends behind (b ∷ []) h = either-ends (b == 10) (b == 13) (not (begins_with_lf behind)) h
begins-ends behind (b ∷ c ∷ cs) h = begins-ends behind (c ∷ cs) h

-- ---- a document begins with no text

balanced-enters : (e : Event) (es : List Event) → IsBalanced (e ∷ es) → is_enter e.kind ≡ true
balanced-enters e es (span x f us vs is en ex same bu bv) = let same_event : x ≡ e = cc in ap (λ (y : Event). is_enter y.kind) (sym same_event) ∙ ap is_enter en

texts-begin : (g : Given) (is : IsDocument g) (es : List Event) → IsBalanced es → Walks (UnderAll g is) [] es → begins_block es ≡ true
texts-begin g is [] b w = refl
texts-begin g is (e ∷ es) b w =
    let enter = balanced-enters e es b in
    and_from (is_enter e.kind) (not (is_plain e.name)) enter (ap not (false_from_ne_true (is_plain e.name) (λ plain. kinds e.kind enter w plain)))
  where
    some : (o : Option Content) → content_of e ≡ o → UnderAll g is [] e → is_plain e.name ≡ true → ⊥
    some o is-o h plain = false≢true (sym (h (by o is-o)))
      where
        by : (o : Option Content) → content_of e ≡ o → is_some_text g is e.name (content_of e) ≡ true
        by None p = ap (is_some_text g is e.name) p ∙ plain
        by (Some c) p = ap (is_some_text g is e.name) p

    kinds : (k : Kind) → is_enter k ≡ true → Walks (UnderAll g is) [] (e ∷ es) → is_plain e.name ≡ true → ⊥
    kinds k enter w plain = some (content_of e) refl (entered e.kind refl w.0) plain
      where
        entered : (k : Kind) → e.kind ≡ k → IfEnter k (UnderAll g is [] e) → UnderAll g is [] e
        entered Enter q h = h
        entered Exit q h = absurd (false≢true (sym (ap is_enter q) ∙ balanced-enters e es b))

module _ (options : ParseOptions) (defined : List ℕ → Bool) (if_on : AreDefinedIfOn defined options.constructs) (bytes : List ℕ) (is : IsDocument (document options bytes)) where
  abbrev g : Given
  g = document options bytes

  abbrev texts : List Event
  texts = document_texts_by defined g

  strings-begin : (es : List Event) → begins_block es ≡ true → begins_block (with_strings options.constructs options.tab_size bytes es) ≡ true
  strings-begin [] h = refl
  strings-begin (e ∷ []) h = h
  strings-begin (e ∷ f ∷ es) h = h

  pub events-in-order : IsInOrder bytes (events_by options defined bytes)
  events-in-order = let h = texts-orderly skeleton-laws g is defined in keep_order options.constructs options.tab_size bytes texts is.tab.0 h.at_places h.in_order

  pub events-begin : begins_block (events_by options defined bytes) ≡ true
  events-begin = strings-begin texts (texts-begin g is texts (texts-orderly skeleton-laws g is defined).balanced (texts-under g is defined))

  pub events-uncalled : HaveNoCalls (events_by options defined bytes)
  events-uncalled =
      every-map (λ (e : Event). may_be_named options.constructs e.name ≡ true) (λ (e : Event). same_name e.name GfmFootnoteCall ≡ false)
      (λ e may. false_from_ne_true (same_name e.name GfmFootnoteCall) (λ same. false≢true (subst (λ n. may_be_named options.constructs n ≡ true) (same_name-true e.name GfmFootnoteCall same) may)))
      (events_by options defined bytes) (document-named-by defined g if_on).all

-- without links it does not matter by how many events links are moved
unlinked-move : (lines bytes m n : ℕ) (es : List Event) → AllByRecursion IsUnlinked es → map (moved_event lines bytes m) es ≡ map (moved_event lines bytes n) es
unlinked-move lines bytes m n [] h = refl
unlinked-move lines bytes m n (e ∷ es) h =
    let moved : Option Link → Event = λ l. record { kind = e.kind; name = e.name; point = moved_point lines bytes e.point; link = l } in
    let same : moved_link m e.link ≡ moved_link n e.link = ap (moved_link m) h.0 ∙ sym (ap (moved_link n) h.0) in
    (λ i. moved (same i) ∷ unlinked-move lines bytes m n es h.1 i)

pub gfm-of-both : GfmOfBoth
gfm-of-both options defined noted if_on a b is rest =
    let front = front-document options a b is in
    let behind = behind-document options a b is in
    let xs = events_by options defined a in
    let ys = events_by options defined b in
    let added = length (gfm_events_by options defined noted a) in
    let both =
    document-events-of-both defined options a b is rest
    ∙ ap (λ (ts : List Event). xs ++ ts) (unlinked-move (line_endings a) (length a) (length xs) added ys (events-unlinked options defined b behind))
    in
    ap (with_gfm_by noted options (a ++ b)) both
    ∙ gfm-of-parts noted options (line_endings a) a b (moved_link added) xs ys refl
    (record {
      lines = begins-ends b a (rest-begins options a b rest);
      balanced = events-balanced options defined a front;
      within = document-inside (document options a) front defined;
      uncalled = events-uncalled options defined if_on a front;
      awaits = awaits-nothing xs (events-balanced options defined a front) (document-items (document options a) front defined if_on);
      begins = events-begin options defined if_on b behind;
    })
    (subst (IsInOrder (a ++ b)) both (events-in-order options defined if_on (a ++ b) is))
