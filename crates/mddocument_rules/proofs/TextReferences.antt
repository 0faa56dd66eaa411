-- Inline text: each link and each image without a resource leads to a label that is defined. Item by item the fold makes them of brackets that wait, and of ends.
use Rattle.mddocument_rules.proofs.Prelude.{◌≡◌, ◌∙◌, ℕ, suc, ◌+◌, Bool, true, cond, List, [], ◌∷◌, ◌++◌, and_parts, ap, append-nil, append_assoc, arith, drop, every-back, flat_map, inl, inr, is_some, length, map, refl, subst, sym, take, AllByRecursion, Constructs, Event, IsBalanced, empty, Point, Run, Seat, Some, end_after, names_after_all, names_after_all-append, names_after_balanced, document_blocks}
use Rattle.std.proofs.lemmas.Grind.{flat_map-append}
use Rattle.std.specs.Prelude.{◌<◌}
use Rattle.markdown_base.specs.declared.event.Content.TheVariants as content
use Rattle.markdown_base.specs.declared.event.Name.TheVariants.{LabelEnd, LabelMarker, LabelText}
use Rattle.markdown_base.specs.Places.{shown}
use Rattle.markdown_base.proofs.Balanced.{balanced_from_open}
use Rattle.mdblock_leaf_blocks.proofs.Marks.Courses.{Course, course-on, text-course}
use Rattle.mdblock_leaf_blocks.specs.ChunksJoin.{AcrossGap}
use Rattle.mdconstructs_machines.specs.Spans.{leaf, span}
use Rattle.mdinline_emphasis.specs.Runs.{runs_in}
use Rattle.mdinline_labels.specs.Labels.{is_label}
use Rattle.mdinline_full_references.specs.FullReference.{full_reference, label_text}
use Rattle.mdinline_links.proofs.Between.{spans-go}
use Rattle.mdinline_links.proofs.Spans.{spans-balanced}
use Rattle.mdinline_links.specs.Linked.{SoFar, ended, emphasised_parts, linked_from, made, outermost_spans, with_links}
use Rattle.mdinline_machine.proofs.InlineBuilt.{span-balanced}
use Rattle.mdinline_machine.specs.Brackets.{Bracket, Memory, is_wanted_at, label_end, nothing_read, own_tail}
use Rattle.mdinline_machine.specs.InlineEvents.{inline_events, inline_items, read_events}
use Rattle.mdinline_text_machine.proofs.Paragraphs.ChainEvents.{is-text}
use Rattle.mdinline_text_machine.specs.ChainTexts.{chain_text}
use Rattle.mdinline_text_machine.specs.Construct.{Found, makes}
use Rattle.mdinline_text_machine.specs.Parts.{bytes_of}
use Rattle.mdinline_text_machine.specs.TextEvents.{item_events}
use Rattle.mddocument.proofs.InContainers.Skeletons.{skeleton-laws}
use Rattle.mddocument.proofs.InContainers.TextsFormed.{content-ready}
use Rattle.mddocument.specs.DocumentEvents.{document_events, is_defined_in}
use Rattle.mddocument_link_targets.specs.Strings.{as_written}
use Rattle.mddocument_link_targets.specs.Targets.{definition_of}
use Rattle.mddocument_rules.proofs.CutTexts.{item-here, spans-both, text-read}
use Rattle.mddocument_rules.proofs.EndReasons.{ends-are-references}
use Rattle.mddocument_rules.proofs.FoldReferences.{AreKnown, BeginsNoTail, Holds, IsWaiting, all-lead, calm-begins, calm-have, fold-both, holds-calm, holds-ended, known-have, known-texts, known-unlinked}
use Rattle.mddocument_rules.proofs.ItemKinds.{IsKnown, IsSorted, items-sorted}
use Rattle.mddocument_rules.proofs.LabelTexts.{defined-is-defined}
use Rattle.mddocument_rules.proofs.Leading.{Lead, LeadsWell, lead-target}
use Rattle.mddocument_rules.proofs.LinksApart.{some-waits, walks-are-one}
use Rattle.mddocument_rules.proofs.MadeLeads.{by-label, by-resource, by-text, in_link, made-leads, own as label_events, parts-balanced}
use Rattle.mddocument_rules.proofs.OwnWritten.{Goes, Place, RunGoes, front-spans, own-label-written, parts-keep, runs}
use Rattle.mddocument_rules.proofs.TailLeads.{IsOne, IsWhole, full-is, own-is, resource-is}
use Rattle.mddocument_rules.specs.BracketLaws.{IsTail, folded, remembered}
use Rattle.mddocument_rules.specs.LinkLaws.{EntersNone}
use Rattle.mddocument_rules.specs.ReferenceLaws.{OwnLabelsAreWritten, ReferencesOfChainsAreDefined, ReferencesOfTextsAreDefined}

-- what is behind balanced events, if both are balanced, is balanced
balanced-back : (xs ys : List Event) → IsBalanced xs → IsBalanced (xs ++ ys) → IsBalanced ys
balanced-back xs ys b c = balanced_from_open ys (ap (λ o. names_after_all o ys) (sym (names_after_balanced b [])) ∙ sym (names_after_all-append (Some []) xs ys) ∙ names_after_balanced c [])

module _ (t : ℕ) (bytes : List ℕ) (defined : List ℕ → Bool) (on : Constructs) (one : Bool) (seats : List Seat) (p : Point) (course : Course AcrossGap t bytes p seats) where
  abbrev all_runs : List Run
  all_runs = runs t bytes defined on one seats p course

  abbrev items : List (Found × List Seat)
  items = inline_items on defined bytes seats

  abbrev spans_of : List (Found × List Seat) → List (List Event)
  spans_of front = outermost_spans (flat_map (item_events bytes) front)

  abbrev so_far : List (Found × List Seat) → SoFar
  so_far front = folded all_runs (spans_of front)

  -- ---- an end
  abbrev close : Seat → List Event
  close s = span bytes LabelEnd (s ∷ []) (leaf bytes LabelMarker (s ∷ []))

  close-balanced : (s : Seat) → IsBalanced (close s)
  close-balanced s = span-balanced bytes LabelEnd (s ∷ []) (leaf bytes LabelMarker (s ∷ [])) (span-balanced bytes LabelMarker (s ∷ []) [] empty)

  close-spans : (s : Seat) → outermost_spans (close s) ≡ close s ∷ []
  close-spans s = refl

  fold-end : (z : SoFar) (s : Seat) (tail : List Event) → IsOne bytes tail → linked_from z (close s ∷ outermost_spans tail) ≡ ended (close s) tail z.waiting z
  fold-end z s tail (inl none) = subst (λ l. linked_from z (close s ∷ outermost_spans l) ≡ ended (close s) l z.waiting z) (sym none) refl
  fold-end z s tail (inr one) =
      ap (λ l. linked_from z (close s ∷ l)) one.0 ∙ ap (λ b. cond b (ended (close s) tail z.waiting z) (linked_from (ended (close s) [] z.waiting z) (tail ∷ []))) one.1

  -- what is left of an item that makes something of the last bracket that waits
  module _ (front : List (Found × List Seat)) (i : Found × List Seat) (rest : List (Found × List Seat)) (e : items ≡ front ++ i ∷ rest) (k : i.0.mark ≡ makes) (h : Holds bytes defined (so_far front)) where
    abbrev m : Memory
    m = remembered bytes (nothing_read seats) front

    abbrev z : SoFar
    z = so_far front

    -- the parts behind the bracket are balanced
    z-text : IsBalanced (emphasised_parts z.behind)
    z-text =
        let start : SoFar = record { waiting = []; behind = []; runs = all_runs } in
        let Pl = Place t bytes defined on one seats p course in
        let G = Goes t bytes defined on one seats p course in
        let R = RunGoes t bytes defined on one seats p course in
        let here = front-spans t bytes defined on one seats p course front (i ∷ rest) e in
        let sf = spans-go Pl G R (parts-keep t bytes defined on one seats p course) (seats, 0) (seats, 0) here.0 (spans_of front) start all_runs (record { middle = (seats, 0); waits = refl; behind = refl }, refl) here.1 in
        parts-balanced Pl G R sf.middle here.0 z.behind sf.behind

    -- What stands behind the end leads well
    abbrev Leads : List Event → Type 0
    Leads tail = (s o : Event) (ss os : List Event) (opens : IsBalanced (o ∷ os)) (closes : IsBalanced (s ∷ ss)) (tail_is : IsBalanced tail) → EntersNone LabelText (o ∷ os)
        → LeadsWell bytes defined (in_link bytes defined o s os ss z.behind tail opens closes z-text tail_is)

    record IsTailed (tail : List Event) : Type 0 where
      whole : IsWhole bytes tail
      leads : Leads tail

    tail-leads : (s : Seat) (ss : List Seat) (b : Bracket) (bs : List Bracket) (tail : Found) → m.ahead ≡ s ∷ ss → m.waiting ≡ b ∷ bs → IsTail defined bytes b m (bytes_of ss) tail → IsTailed (tail.events bytes (take tail.size ss))
    tail-leads s ss b bs tail ahead waits (inl is) =
        let r = resource-is bytes ss tail is in
        record { whole = r.whole; leads = λ f o fs os opens closes tail_is none. by-resource bytes defined o f os fs z.behind (tail.events bytes (take tail.size ss)) opens closes z-text tail_is r.inner r.first }
    tail-leads s ss b bs tail ahead waits (inr (inl (n, found, wanted, is))) =
        let up = text-read bytes on defined seats front (i ∷ rest) e in
        let there : Course AcrossGap t bytes (end_after p up.inside) (s ∷ ss) = course-on AcrossGap t bytes p up.inside (s ∷ ss) (subst (Course AcrossGap t bytes p) (up.are ∙ ap (λ l. up.inside ++ l) ahead) course) in
        let l = full-is bytes t defined n (end_after p up.inside) s ss there found (subst (λ a. is_wanted_at defined bytes a (label_text n (bytes_of ss)) ≡ true) ahead wanted) in
        subst (λ (f : Found). IsTailed (f.events bytes (take f.size ss))) (sym is)
        (record {
          whole = l.whole;
          leads = λ f o fs os opens closes tail_is none. let es = (full_reference n).events bytes (take (n + 2) ss) in
              by-label bytes defined o f os fs z.behind es opens closes z-text tail_is l.text (l.leads (label_events bytes defined o f os fs z.behind es opens closes z-text tail_is)) l.is;
        })
    tail-leads s ss b bs tail ahead waits (inr (inr (own, is))) =
        let o = own-is bytes ss in
        let asked = own-label-written t bytes defined on one seats p course front (i ∷ rest) e b bs waits own in
        subst (λ (f : Found). IsTailed (f.events bytes (take f.size ss))) (sym is)
        (record { whole = o.whole; leads = λ f x fs xs opens closes tail_is none. by-text bytes defined x f xs fs z.behind ((own_tail (bytes_of ss)).events bytes (take (own_tail (bytes_of ss)).size ss)) opens closes z-text tail_is none o.no_resource o.no_string asked })

    -- so does what is made
    made-by : (opener tail : List Event) (s : Seat) → IsBalanced opener → AreKnown opener → 0 < length opener → AreKnown tail → IsTailed tail → Lead bytes defined (made opener z.behind (close s) tail)
    made-by [] tail s b known some tailed is = absurd (omega (arith, some))
    made-by (o ∷ os) tail s b known some tailed is =
        let c = close-balanced s in
        made-leads bytes defined o _ os _ z.behind tail b c z-text is.whole.balanced (known-unlinked (o ∷ os) known) (refl, (refl, (refl, (refl, tt)))) (known-unlinked tail tailed) h.behind
        (is.leads _ o _ os b c is.whole.balanced (known-texts (o ∷ os) known))

    -- the events of the item
    record IsEnd : Type 0 where
      s : Seat
      tail : List Event
      are : item_events bytes i ≡ close s ++ tail
      tailed : IsTailed tail

    item-is : IsEnd
    item-is =
        let (s, ss, ahead, cut) = item-here bytes on defined seats front i rest e k in
        let (b, bs, tail, waits, is, tail_is) = ends-are-references defined on bytes seats front i rest e k in
        let behind : drop 1 (bytes_of m.ahead) ≡ bytes_of ss = ap (λ l. drop 1 (bytes_of l)) ahead in
        let one : 1 + tail.size ≡ suc tail.size = omega arith in
        record {
          s = s;
          tail = tail.events bytes (take tail.size ss);
          are = ap (λ l. i.0.events bytes l) cut ∙ ap (λ (f : Found). f.events bytes (take f.size (s ∷ ss))) is ∙ ap (λ n. (label_end tail).events bytes (take n (s ∷ ss))) one;
          tailed = tail-leads s ss b bs tail ahead waits (subst (λ l. IsTail defined bytes b m l tail) behind tail_is);
        }

    end-holds : AreKnown (item_events bytes i) → Holds bytes defined (linked_from z (outermost_spans (item_events bytes i)))
    end-holds known =
        let end = item-is in
        let (b, bs, tail, waits, is, tail_is) = ends-are-references defined on bytes seats front i rest e k in
        let kinds = walks-are-one defined on bytes seats all_runs front (i ∷ rest) e in
        let (w, ws, there) = some-waits b bs z.waiting (ap (λ l. map (λ (c : Bracket). c.image) l) (sym waits) ∙ kinds) in
        let waiting = (subst (AllByRecursion (IsWaiting bytes defined)) there h.waits).0 in
        let spans : outermost_spans (item_events bytes i) ≡ close end.s ∷ outermost_spans end.tail = ap outermost_spans end.are ∙ spans-both (close end.s) end.tail (close-balanced end.s) ∙ ap (λ l. l ++ outermost_spans end.tail) (close-spans end.s) in
        let tail_known = every-back (λ (x : Event). IsKnown x.name) (close end.s) end.tail (subst AreKnown end.are known) in
        subst (Holds bytes defined) (sym (ap (linked_from z) spans ∙ fold-end z end.s end.tail end.tailed.whole.one))
        (holds-ended bytes defined (close end.s) end.tail w ws z there (made-by w.opener end.tail end.s waiting.balanced waiting.known waiting.some tail_known end.tailed) h)

    end-begins : BeginsNoTail (outermost_spans (item_events bytes i))
    end-begins =
        let end = item-is in
        let spans : outermost_spans (item_events bytes i) ≡ close end.s ∷ outermost_spans end.tail = ap outermost_spans end.are ∙ spans-both (close end.s) end.tail (close-balanced end.s) ∙ ap (λ l. l ++ outermost_spans end.tail) (close-spans end.s) in
        subst BeginsNoTail (sym spans) refl

  -- ---- one item more
  abbrev IsItemSorted : (Found × List Seat) → Type 0
  IsItemSorted i = IsSorted bytes i.0

  step : (front : List (Found × List Seat)) (i : Found × List Seat) (rest : List (Found × List Seat)) → items ≡ front ++ i ∷ rest → Holds bytes defined (so_far front) → Holds bytes defined (so_far (front ++ i ∷ []))
  step front i rest e h =
      let all = items-sorted bytes on defined seats in
      let sorted = (every-back IsItemSorted front (i ∷ rest) (subst (AllByRecursion IsItemSorted) e all)).0 in
      let up = text-read bytes on defined seats front (i ∷ rest) e in
      let more = text-read bytes on defined seats (front ++ i ∷ []) rest (e ∙ sym (append_assoc front (i ∷ []) rest)) in
      let es = item_events bytes i in
      let known = (sorted.known i.1).all in
      let spans : spans_of (front ++ i ∷ []) ≡ spans_of front ++ outermost_spans es =
      ap outermost_spans (flat_map-append (item_events bytes) front (i ∷ []) ∙ ap (λ l. flat_map (item_events bytes) front ++ l) (append-nil es)) ∙ spans-both (flat_map (item_events bytes) front) es up.balanced in
      let start : SoFar = record { waiting = []; behind = []; runs = all_runs } in
      elim sorted.calm as (λ _. Holds bytes defined (so_far (front ++ i ∷ []))) [
        | inl k ↦
            subst (Holds bytes defined) (sym (ap (linked_from start) spans ∙ fold-both start (spans_of front) (outermost_spans es) (end-begins front i rest e k h))) (end-holds front i rest e k h known)
        | inr calm ↦
            let calm_spans = calm-have es (calm i.1).all in
            let own_balanced = balanced-back (flat_map (item_events bytes) front) es up.balanced (subst IsBalanced (flat_map-append (item_events bytes) front (i ∷ []) ∙ ap (λ l. flat_map (item_events bytes) front ++ l) (append-nil es)) more.balanced) in
            subst (Holds bytes defined) (sym (ap (linked_from start) spans ∙ fold-both start (spans_of front) (outermost_spans es) (calm-begins (outermost_spans es) calm_spans)))
            (holds-calm bytes defined (outermost_spans es) (so_far front) calm_spans (known-have es known) (spans-balanced es own_balanced) h)
      ]

  go : (front rest : List (Found × List Seat)) → items ≡ front ++ rest → Holds bytes defined (so_far front) → Holds bytes defined (so_far items)
  go front [] e h = subst (λ l. Holds bytes defined (so_far l)) (sym (e ∙ append-nil front)) h
  go front (i ∷ rest) e h = go (front ++ i ∷ []) rest (e ∙ sym (append_assoc front (i ∷ []) rest)) (step front i rest e h)

  -- In inline text each link and each image leads to a destination, or to a label that is defined
  pub inline-lead : Lead bytes defined (with_links one bytes (flat_map (item_events bytes) items))
  inline-lead = all-lead bytes defined all_runs (flat_map (item_events bytes) items) (go [] items refl (record { waits = tt; behind = tt }))

-- ---- texts of documents
pub own-labels-are-written : OwnLabelsAreWritten
own-labels-are-written defined g text front rest b bs is e waits own =
    let on = g.options.constructs in
    let label = own-label-written g.tab g.bytes defined on g.options.gfm_strikethrough_single_tilde text.seats (shown g.bytes text.start) (text-course g text is) front rest e b bs waits own in
    let z = folded (runs_in g.options.gfm_strikethrough_single_tilde g.bytes (read_events defined g text)) (outermost_spans (flat_map (item_events g.bytes) front)) in
    let said = as_written g.bytes (emphasised_parts z.behind) in
    (and_parts (is_label said) (defined said) label).1

pub references-of-texts-are-defined : ReferencesOfTextsAreDefined
references-of-texts-are-defined defined g text at label is h =
    lead-target g.bytes defined (inline_events defined g text) at label (inline-lead g.tab g.bytes defined g.options.constructs g.options.gfm_strikethrough_single_tilde text.seats (shown g.bytes text.start) (text-course g text is)) h

-- ---- chains of text of a document
pub references-of-chains-are-defined : ReferencesOfChainsAreDefined
references-of-chains-are-defined g c at label is begin h =
    let blocks = document_blocks g in
    let one = is-text g blocks is content.Text (content-ready skeleton-laws g is content.Text) c begin in
    let (own, same, defined) = references-of-texts-are-defined (is_defined_in g) g (chain_text g blocks c) at label one h in
    ap (λ l. is_some (definition_of g.bytes (document_events g) l)) same ∙ sym (defined-is-defined g own is) ∙ defined
