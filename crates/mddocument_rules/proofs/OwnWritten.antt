-- A bracket's own label that is asked for and defined is, as it is written, the text of the link that is made of it: emphasis takes the places of delimiter runs, and
-- keeps their bytes.
use Rattle.mddocument_rules.proofs.Prelude.{◌≡◌, ◌∙◌, ℕ, Bool, true, false, List, [], ◌∷◌, ◌++◌, None, append-nil, ap, arith, flat_map, length, refl, subst, sym, AllByRecursion, ◌&&◌, Constructs, Event, IsBalanced, IsBalanced-append, Name, empty, Point, Run, Seat, end_after, every-append, every-back, every-front, false_from_ne_true, false≢true, is_wanted, names_after_balanced, same_name, same_name-true}
use Rattle.std.proofs.lemmas.Grind.{flat_map-append}
use Rattle.std.proofs.lemmas.List.{append_cancel_right}
use Rattle.std.specs.Prelude.{◌≤◌, ◌<◌}
use Rattle.markdown_base.proofs.Common.{every-map}
use Rattle.markdown_base.specs.declared.event.Name.TheVariants.{BlockQuoteMarker}
use Rattle.markdown_base.specs.Places.{shown}
use Rattle.mdblock_leaf_blocks.proofs.Marks.Courses.{Course, course-every, course-on}
use Rattle.mdblock_leaf_blocks.specs.ChunksJoin.{AcrossGap}
use Rattle.mdconstructs_machines.specs.Innermost.{innermost_spans}
use Rattle.mdinline_emphasis.specs.declared.pairs.Style.TheVariants.{Emphasis as OfEmphasis, Strong as OfStrong, Struck, StruckTwice}
use Rattle.mdinline_emphasis.specs.Runs.{runs_in}
use Rattle.mdinline_labels.specs.Labels.{is_label}
use Rattle.mdinline_links.proofs.Aligned.{aligned, by-parts}
use Rattle.mdinline_links.proofs.Between.{AreSpans, IsKeptByParts}
use Rattle.mdinline_links.proofs.Spans.{spans-have}
use Rattle.mdinline_links.specs.Between.{AreParts}
use Rattle.mdinline_links.specs.Linked.{emphasised_parts, outermost_spans, part_of}
use Rattle.mdinline_machine.specs.Brackets.{Bracket, bytes_before, nothing_read, own_is_defined, spanned_bytes}
use Rattle.mdinline_machine.specs.InlineEvents.{inline_items}
use Rattle.mdinline_text_machine.specs.Construct.{Found}
use Rattle.mdinline_text_machine.specs.TextEvents.{item_events}
use Rattle.mddocument.proofs.Emphasis.InlineReads.{balanced-of, is-read, read_of}
use Rattle.mddocument.proofs.Emphasis.InlineShapes.{inline-shaped}
use Rattle.mddocument.proofs.Emphasis.LinkAccounts.{HoldsMarkers, IsRead, Over, RunOver, over-is-kept}
use Rattle.mddocument.proofs.Emphasis.Pairs.{spans-behind}
use Rattle.mddocument.proofs.Emphasis.Runs.{balanced-shut}
use Rattle.mddocument.proofs.Emphasis.Shapes.{shaped-hold}
use Rattle.mddocument.proofs.FlowTexts.InlineSteps.{Steps, steps-virtual}
use Rattle.mddocument.proofs.Innermost.Lined.{LinedFor, lined-cut}
use Rattle.mddocument_laws.proofs.EmphasisEvents.{IsOfStyle}
use Rattle.mddocument_link_targets.specs.Strings.{as_written}
use Rattle.mddocument_rules.proofs.CutTexts.{spans-first, text-read}
use Rattle.mddocument_rules.proofs.HeldParts.{AreApart, Hold, parts-hold}
use Rattle.mddocument_rules.proofs.ItemKinds.{IsKnown, IsSorted, items-sorted, known-events}
use Rattle.mddocument_rules.proofs.LinkedFlat.{part-is}
use Rattle.mddocument_rules.proofs.OwnLabels.{all-joined, flat, own-labels-are-asked}
use Rattle.mddocument_rules.proofs.QuietItems.{strange_names}
use Rattle.mddocument_rules.proofs.WrittenTexts.{AreUnmarked, EndsBy, IsUnmarked, front-same, lined-end, lined-written, of_seat, written-spans}
use Rattle.mddocument_rules.specs.BracketLaws.{folded, parts_of, remembered, runs_left}

-- ---- spans that go from place to place, and their parts
module _ (Q : Type 0) (B : Q → List Event → Q → Type 0) (R : Q → Run → Q → Type 0) where
  pub spans-apart : (p q : Q) (xs ys : List (List Event)) (rs : List Run) → AreSpans Q B R p (xs ++ ys) rs q → (m : Q) × AreSpans Q B R p xs rs m × AreSpans Q B R m ys (runs_left xs rs) q
  spans-apart p q [] ys rs h = (p, refl, h)
  spans-apart p q (x ∷ xs) ys rs h = let more = spans-apart h.0 q xs ys (part_of x rs).1 h.3 in (more.0, (h.0, h.1, h.2, more.1), more.2)

  pub spans-parts : (p q : Q) (xs : List (List Event)) (rs : List Run) → AreSpans Q B R p xs rs q → AreParts Q B R p (parts_of xs rs) q
  spans-parts p q [] rs h = h
  spans-parts p q (x ∷ xs) rs h = (h.0, h.2, spans-parts h.0 q xs (part_of x rs).1 h.3)

  pub spans-together : IsKeptByParts Q B R → (p q : Q) (xs : List (List Event)) (rs : List Run) → AreSpans Q B R p xs rs q → B p (flat_map (λ (x : List Event). x) xs) q × IsBalanced (flat_map (λ (x : List Event). x) xs)
  spans-together kept p q [] rs h = (subst (λ x. B p [] x) h (kept.nothing p), empty)
  spans-together kept p q (x ∷ xs) rs h =
      let more = spans-together kept h.0 q xs (part_of x rs).1 h.3 in
      let others = flat_map (λ (y : List Event). y) xs in
      (kept.together p h.0 q x others h.1.0.1 more.1 h.1.0.0 more.0, IsBalanced-append x others h.1.0.1 more.1)

-- ---- no event is a marker of a block quote
abbrev is_marker : Name → Bool
is_marker n = same_name n BlockQuoteMarker

marker-apart : AreApart is_marker
marker-apart = record {
  styles = λ s. elim s as (λ s. IsOfStyle (λ n. is_marker n ≡ false) s) [ OfEmphasis ↦ (refl, refl, refl) | OfStrong ↦ (refl, refl, refl) | Struck ↦ (refl, refl, refl) | StruckTwice ↦ (refl, refl, refl) ];
  data_is = refl;
  label_is = refl;
  text_is = refl;
}

known-unmarked : (e : Event) → IsKnown e.name → IsUnmarked e
known-unmarked e h = false_from_ne_true (same_name e.name BlockQuoteMarker) (λ is. false≢true (sym h ∙ subst (λ n. is_wanted strange_names n ≡ true) (sym (same_name-true e.name BlockQuoteMarker is)) refl))

parts-unmarked : (spans : List (List Event)) (rs : List Run) → AllByRecursion AreUnmarked spans → Hold is_marker marker-apart AreUnmarked (every-append IsUnmarked) (λ es h. h) (parts_of spans rs)
parts-unmarked [] rs h = tt
parts-unmarked (span ∷ spans) rs h = (part-is AreUnmarked span rs h.0, parts-unmarked spans (part_of span rs).1 h.1)

-- ---- a text of a document
module _ (t : ℕ) (bytes : List ℕ) (defined : List ℕ → Bool) (on : Constructs) (one : Bool) (seats : List Seat) (p : Point) (course : Course AcrossGap t bytes p seats) where
  abbrev pub read : List Event
  read = read_of t bytes defined on seats

  abbrev pub runs : List Run
  runs = runs_in one bytes read

  -- a place: the virtual bytes that are left, and an index of the events that were read
  abbrev pub Place : Type 0
  Place = List Seat × ℕ

  abbrev pub Goes : Place → List Event → Place → Type 0
  Goes x es y = Over bytes x.0 es y.0 × (x.1 ≤ y.1)

  abbrev pub RunGoes : Place → Run → Place → Type 0
  RunGoes x r y = RunOver bytes x.0 r y.0 × (x.1 ≤ r.index) × (r.index < y.1)

  pub parts-keep : IsKeptByParts Place Goes RunGoes
  parts-keep = by-parts one bytes HoldsMarkers (List Seat) (IsRead bytes) (Over bytes) (RunOver bytes) (over-is-kept bytes)

  -- the outermost spans that are read, one behind another
  pub all-spans : (end : Place) × AreSpans Place Goes RunGoes (seats, 0) (outermost_spans read) runs end
  all-spans =
      let balanced = balanced-of t bytes defined on seats in
      let whole = subst (Course AcrossGap t bytes p) (sym (append-nil seats)) course in
      let steps = course-every AcrossGap t bytes (Steps bytes) (steps-virtual bytes t) p seats course in
      let a = aligned one bytes HoldsMarkers (List Seat) (IsRead bytes) (Over bytes) (RunOver bytes) (over-is-kept bytes) (length read) read 0 None seats [] (omega arith) (names_after_balanced balanced []) (shaped-hold read (inline-shaped bytes on defined seats)) (is-read t bytes defined on seats p [] whole steps) in
      ((a.0, a.1), a.2)

  -- those of some items
  module _ (front rest : List (Found × List Seat)) (e : inline_items on defined bytes seats ≡ front ++ rest) where
    abbrev pub front_events : List Event
    front_events = flat_map (item_events bytes) front

    pub front-spans : (end : Place) × AreSpans Place Goes RunGoes (seats, 0) (outermost_spans front_events) runs end
    front-spans =
        let all = spans-first bytes on defined seats front rest e in
        let h = spans-apart Place Goes RunGoes (seats, 0) all-spans.0 (outermost_spans front_events) (outermost_spans (flat_map (item_events bytes) rest)) runs (subst (λ l. AreSpans Place Goes RunGoes (seats, 0) l runs all-spans.0) all all-spans.1) in
        (h.0, h.1)

    -- Two lists that go from one place to another stand for the same bytes
    same-bytes : (x y : Place) (before xs ys : List Event) → Goes (seats, 0) before x → Goes x xs y → Goes x ys y → spanned_bytes bytes xs ≡ spanned_bytes bytes ys
    same-bytes x y before xs ys o h k =
        let first = o.0 in
        let a = h.0 in
        let b = k.0 in
        let same : a.seats ≡ b.seats = append_cancel_right a.seats b.seats y.0 (sym a.are ∙ b.are) in
        let there = course-on AcrossGap t bytes p first.seats x.0 (subst (Course AcrossGap t bytes p) first.are course) in
        let q = end_after p first.seats in
        lined-written bytes t q a.seats y.0 xs (subst (Course AcrossGap t bytes q) a.are there) a.lined
        ∙ ap (flat_map (of_seat bytes)) same
        ∙ sym (lined-written bytes t q b.seats y.0 ys (subst (Course AcrossGap t bytes q) b.are there) b.lined)

    -- what was read up to what is left stands for the same by the document's bytes before that
    last-same : (before behind : List Event) → IsBalanced before → front_events ≡ before ++ behind → let m = remembered bytes (nothing_read seats) front in spanned_bytes (bytes_before bytes m.ahead) behind ≡ spanned_bytes bytes behind
    last-same before behind b are =
        let m = remembered bytes (nothing_read seats) front in
        let up = text-read bytes on defined seats front rest e in
        let lined : LinedFor front_events bytes up.inside = lined-cut bytes front_events up.inside up.cut in
        front-same bytes t behind m.ahead (λ c more ahead.
        let whole : Course AcrossGap t bytes p (up.inside ++ c ∷ more) = subst (Course AcrossGap t bytes p) (up.are ∙ ap (λ l. up.inside ++ l) ahead) course in
        let ends = lined-end bytes t p up.inside c more front_events whole lined in
        let spans : innermost_spans front_events ≡ innermost_spans before ++ innermost_spans behind = ap innermost_spans are ∙ spans-behind before behind (balanced-shut b) in
        every-back (EndsBy bytes t (shown bytes c.point).index) (innermost_spans before) (innermost_spans behind) (subst (AllByRecursion (EndsBy bytes t (shown bytes c.point).index)) spans ends))

    front-unmarked : AllByRecursion AreUnmarked (outermost_spans front_events)
    front-unmarked =
        let all = items-sorted bytes on defined seats in
        let sorted = every-front (λ (i : Found × List Seat). IsSorted bytes i.0) front rest (subst (AllByRecursion (λ (i : Found × List Seat). IsSorted bytes i.0)) e all) in
        spans-have AreUnmarked (λ xs ys h. (every-front IsUnmarked xs ys h, every-back IsUnmarked xs ys h)) (length front_events) front_events
        (every-map (λ (x : Event). IsKnown x.name) IsUnmarked known-unmarked front_events (known-events bytes on defined front sorted))

    -- ---- the own label
    -- The text that is made of the spans behind a place stands for the bytes that these spans stand for
    text-same : (before behind : List (List Event)) → outermost_spans front_events ≡ before ++ behind
        → as_written bytes (emphasised_parts (parts_of behind (runs_left before runs))) ≡ spanned_bytes bytes (flat behind)
    text-same before behind are =
        let left = runs_left before runs in
        let ps = parts_of behind left in
        let cut = spans-apart Place Goes RunGoes (seats, 0) front-spans.0 before behind runs (subst (λ l. AreSpans Place Goes RunGoes (seats, 0) l runs front-spans.0) are front-spans.1) in
        let x = cut.0 in
        let y = front-spans.0 in
        let parts = spans-parts Place Goes RunGoes x y behind left cut.2 in
        let made : Goes x (emphasised_parts ps) y = parts-keep.emphasis x y ps parts in
        let first = spans-together Place Goes RunGoes parts-keep (seats, 0) x before runs cut.1 in
        let last = spans-together Place Goes RunGoes parts-keep x y behind left cut.2 in
        let spans : AllByRecursion AreUnmarked (before ++ behind) = subst (AllByRecursion AreUnmarked) are front-unmarked in
        let plain : AreUnmarked (emphasised_parts ps) = parts-hold is_marker marker-apart AreUnmarked (every-append IsUnmarked) (λ es h. h) ps (parts-unmarked behind left (every-back AreUnmarked before behind spans)) in
        written-spans bytes (emphasised_parts ps) plain ∙ same-bytes x y (flat before) (emphasised_parts ps) (flat behind) first.0 made last.0

    -- So the own label of a bracket that is asked for and defined is the text of the link, as it is written
    pub own-label-written : (b : Bracket) (bs : List Bracket) → let m = remembered bytes (nothing_read seats) front in m.waiting ≡ b ∷ bs → own_is_defined defined bytes b m ≡ true
        → let z = folded runs (outermost_spans front_events) in (is_label (as_written bytes (emphasised_parts z.behind)) && defined (as_written bytes (emphasised_parts z.behind))) ≡ true
    own-label-written b bs waits own =
        let m = remembered bytes (nothing_read seats) front in
        let (before, behind, are, parts, asked) = own-labels-are-asked defined on bytes seats runs front rest b bs e waits own in
        let whole : front_events ≡ flat before ++ flat behind = sym (all-joined (length front_events) front_events (omega arith)) ∙ ap flat are ∙ flat_map-append (λ (span : List Event). span) before behind in
        let cut = spans-apart Place Goes RunGoes (seats, 0) front-spans.0 before behind runs (subst (λ l. AreSpans Place Goes RunGoes (seats, 0) l runs front-spans.0) are front-spans.1) in
        let first = spans-together Place Goes RunGoes parts-keep (seats, 0) cut.0 before runs cut.1 in
        let same : spanned_bytes (bytes_before bytes m.ahead) (flat behind) ≡ as_written bytes (emphasised_parts (folded runs (outermost_spans front_events)).behind) =
        last-same (flat before) (flat behind) first.1 whole ∙ sym (text-same before behind are) ∙ ap (λ ps. as_written bytes (emphasised_parts ps)) (sym parts) in
        subst (λ l. (is_label l && defined l) ≡ true) same asked
