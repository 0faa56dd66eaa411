-- Where strings are read, links lead on as they did: what stands in place of data is written as the data is.
use Rattle.mddocument_rules.proofs.Prelude.{◌≡◌, ◌∙◌, ℕ, Bool, true, false, cond, not, List, [], ◌∷◌, ◌++◌, append-nil, append_assoc, ap, and_parts, arith, false_from_ne_true, false≢true, flat_map, map, refl, subst, sym, ◌&&◌, Constructs, Enter, Event, Exit, Kind, Point, Seat, end_after, is_enter, is_wanted, same_name, same_name-true, virtual}
use Rattle.std.proofs.lemmas.Grind.{flat_map-append}
use Rattle.std.specs.List.{slice_range}
use Rattle.std.specs.Prelude.{◌<◌}
use Rattle.markdown_base.proofs.Facts.Kinds.{enter-is, exit-is}
use Rattle.markdown_base.specs.Places.{shown}
use Rattle.markdown_base.specs.Virtual.{point}
use Rattle.markdown_base.specs.declared.event.Name.TheVariants as name
use Rattle.markdown_base.proofs.Balanced.{IsBalanced-pair}
use Rattle.markdown_tokenizer.proofs.Inside.Known.{not-before-index}
use Rattle.mdconstructs_machines.specs.Innermost.{AccountFor, innermost_spans, span_over, stretch_bytes}
use Rattle.mdblock_leaf_blocks.proofs.Marks.Courses.{Track, track-on, track-place, track-upto, whole-track}
use Rattle.mdinline_link_strings.proofs.Cuts.{string-cut}
use Rattle.mdinline_link_strings.proofs.Plain.{line-there}
use Rattle.mdinline_link_strings.specs.StringItems.{string_seat_events}
use Rattle.mdinline_link_strings.specs.Strings.{in_string_after, is_data, line_as_string}
use Rattle.mdinline_text_machine.proofs.DeepSpans.Atoms.{none-account}
use Rattle.mddocument.proofs.Emphasis.Pairs.{Opens, Shut}
use Rattle.mddocument.proofs.Emphasis.Runs.{balanced-opens, balanced-shut}
use Rattle.mddocument.proofs.Innermost.Lined.{lined-cut}
use Rattle.mddocument_laws.proofs.ItemNames.{strings-named}
use Rattle.mddocument_laws.proofs.Named.{weaker}
use Rattle.mddocument_laws.proofs.PlainNames.{plain-may}
use Rattle.mddocument_laws.specs.Names.{may_be_named}
use Rattle.mddocument_link_targets.specs.declared.strings.Reading.TheVariants.{AsWritten}
use Rattle.mddocument_link_targets.specs.Strings.{as_written, given, given_at}
use Rattle.mddocument_link_targets.specs.Targets.{enters_link}
use Rattle.mddocument_rules.proofs.AlikeTexts.{alike-same}
use Rattle.mddocument_rules.proofs.HeldStrings.{read}
use Rattle.mddocument_rules.proofs.LeadSegments.{lead-new}
use Rattle.mddocument_rules.proofs.Leading.{IsLink, Lead}
use Rattle.mddocument_rules.proofs.Places.{by-wanted}
use Rattle.mddocument_rules.proofs.Reworked.{AreMinor, alike-kind}
use Rattle.mddocument_rules.proofs.TextItems.{string-balanced}
use Rattle.mddocument_rules.proofs.WrittenSpans.{exit-gives, slice-both}
use Rattle.mddocument_rules.proofs.WrittenStrings.{string-free}
use Rattle.mddocument_rules.proofs.WrittenTexts.{of_seat, of_span, written-spans}
use Rattle.mddocument_rules.specs.SegmentLaws.{AreAlike, AreWrittenAlike, BeginsWithAnEnter, NoneBeginLinks, Segment, instead, leading_names, new_events, old_events, one}

-- ---- what is written
module _ (bytes : List ℕ) where
  -- what comes behind an exit does not matter
  written-shut : (xs zs : List Event) → Shut xs → as_written bytes (xs ++ zs) ≡ as_written bytes xs ++ as_written bytes zs
  written-shut [] zs h = refl
  written-shut (e ∷ []) zs h = ap (λ l. l ++ as_written bytes zs) (exit-gives bytes e zs h)
  written-shut (e ∷ f ∷ es) zs h =
      let here = given_at bytes AsWritten e (f ∷ es) in ap (λ l. here ++ l) (written-shut (f ∷ es) zs h) ∙ sym (append_assoc here (as_written bytes (f ∷ es)) (as_written bytes zs))

  module _ (t : ℕ) where
    -- virtual bytes that are next to each other in the document
    track-written : (p : Point) (s : Seat) (ss more : List Seat) → Track t bytes p (s ∷ (ss ++ more)) → slice_range bytes (shown bytes s.point).index (shown bytes (end_after s.end ss)).index ≡ flat_map (of_seat bytes) (s ∷ ss)
    track-written p s [] more course = sym (append-nil (of_seat bytes s))
    track-written p s (r ∷ rs) more course =
        let behind = (r ∷ rs) ++ more in
        let next : s.end ≡ shown bytes r.point = sym course.2.1.meets in
        let here : (shown bytes s.end).index ≡ s.end.index = ap (λ (q : Point). q.index) (track-place t bytes s.end behind course.2).is_shown in
        let there : (shown bytes (end_after r.end rs)).index ≡ (end_after r.end rs).index = ap (λ (q : Point). q.index) (track-place t bytes (end_after r.end rs) more (track-on t bytes s.end (r ∷ rs) more course.2)).is_shown in
        let first = not-before-index s.end.index s.end.vs (shown bytes s.point).index (shown bytes s.point).vs course.1.seat.onward in
        let last = not-before-index (end_after r.end rs).index (end_after r.end rs).vs s.end.index s.end.vs (track-upto t bytes s.end (r ∷ rs) more course.2) in
        let begins : (shown bytes s.end).index ≡ (shown bytes r.point).index = here ∙ ap (λ (q : Point). q.index) next in
        slice-both bytes (shown bytes s.point).index (shown bytes s.end).index (shown bytes (end_after r.end rs)).index (omega (arith, here, first)) (omega (arith, here, there, last))
        ∙ ap (λ l. of_seat bytes s ++ l) (ap (λ n. slice_range bytes n (shown bytes (end_after r.end rs)).index) begins ∙ track-written s.end r rs more course.2)

    tracks-written : (stretches : List (Seat × List Seat)) (p : Point) (more : List Seat) → Track t bytes p (flat_map stretch_bytes stretches ++ more) → flat_map (of_span bytes) (map (span_over bytes) stretches) ≡ flat_map (of_seat bytes) (flat_map stretch_bytes stretches)
    tracks-written [] p more course = refl
    tracks-written ((s, ss) ∷ others) p more course =
        let rest = flat_map stretch_bytes others in
        let apart : Track t bytes p ((s ∷ ss) ++ (rest ++ more)) = subst (Track t bytes p) (append_assoc (s ∷ ss) rest more) course in
        (λ i. track-written p s ss (rest ++ more) apart i ++ tracks-written others (end_after s.end ss) more (track-on t bytes p (s ∷ ss) (rest ++ more) apart) i)
        ∙ sym (flat_map-append (of_seat bytes) (s ∷ ss) rest)

-- ---- data in a string, and what is read in place of it
module _ (on : Constructs) (t : ℕ) (bytes : List ℕ) (wide : 0 < t) where
  abbrev without_labels : Constructs
  without_labels = record on { label_end = false }

  string-minor : (seats : List Seat) → AreMinor (string_seat_events on bytes seats)
  string-minor seats =
      let no = λ (f : false ≡ true). false≢true f in
      (weaker (λ n h. false_from_ne_true (is_wanted leading_names n) (λ e. by-wanted (λ m. may_be_named without_labels m ≡ true → ⊥) leading_names n (no, (no, (no, (no, (no, tt))))) e (plain-may without_labels n h)))
      (string_seat_events without_labels bytes seats) (strings-named without_labels bytes seats).named).all

  module _ (e f : Event) (d : is_data e f ≡ true) where
    data-parts : (e.kind ≡ Enter) × (e.name ≡ name.Data) × (f.kind ≡ Exit) × (f.name ≡ name.Data)
    data-parts =
        let both = and_parts (is_enter e.kind && same_name e.name name.Data) (not (is_enter f.kind) && same_name f.name name.Data) d in
        let first = and_parts (is_enter e.kind) (same_name e.name name.Data) both.0 in
        let second = and_parts (not (is_enter f.kind)) (same_name f.name name.Data) both.1 in
        (enter-is e.kind first.0, same_name-true e.name name.Data first.1, exit-is f.kind second.0, same_name-true f.name name.Data second.1)

    data-gives : (zs : List Event) → as_written bytes (e ∷ f ∷ zs) ≡ slice_range bytes e.point.index f.point.index ++ as_written bytes zs
    data-gives zs =
        let p = data-parts in
        let rest = given_at bytes AsWritten f zs ++ as_written bytes zs in
        (λ i. cond (is_enter (p.0 i) && not (is_enter (p.2 i))) (given bytes AsWritten e.name e.point.index f.point.index) [] ++ rest)
        ∙ (λ i. cond (same_name (p.1 i) name.BlockQuoteMarker) [] (slice_range bytes e.point.index f.point.index) ++ rest)
        ∙ ap (λ l. slice_range bytes e.point.index f.point.index ++ (l ++ as_written bytes zs)) (exit-gives bytes f zs p.2)

    data-alike : (s : Seat) (ss pre behind : List Seat) → virtual t bytes ≡ pre ++ ((s ∷ ss) ++ behind) → (e.point, f.point) ≡ span_over bytes (s, ss) → AreWrittenAlike bytes (e ∷ f ∷ []) (line_as_string on t bytes e.point f.point)
    data-alike s ss pre behind are places =
        let p = data-parts in
        let seats = s ∷ ss in
        let line = string_seat_events on bytes seats in
        let read_line : line_as_string on t bytes e.point f.point ≡ line = (λ i. line_as_string on t bytes (places i).0 (places i).1) ∙ line-there on t bytes s ss wide (pre, behind, are) in
        let text = flat_map (of_seat bytes) seats in
        let start = end_after (point 1 1 0 0) pre in
        let track : Track t bytes start (seats ++ behind) = track-on t bytes (point 1 1 0 0) pre (seats ++ behind) (subst (Track t bytes (point 1 1 0 0)) are (whole-track t bytes wide)) in
        let balanced = string-balanced bytes on seats in
        let account = (lined-cut bytes line seats (string-cut on bytes seats)).account in
        let whole = subst (λ l. Track t bytes start (l ++ behind)) (sym account.are_all) track in
        let said : as_written bytes line ≡ text =
        written-spans bytes line (string-free bytes on seats) ∙ ap (flat_map (of_span bytes)) account.are_innermost ∙ tracks-written bytes t account.stretches start behind whole ∙ ap (flat_map (of_seat bytes)) account.are_all in
        let own : slice_range bytes e.point.index f.point.index ≡ text = (λ i. slice_range bytes (places i).0.index (places i).1.index) ∙ track-written bytes t start s ss behind track in
        subst (AreWrittenAlike bytes (e ∷ f ∷ [])) (sym read_line)
        (record {
          old_text = text;
          new_text = text;
          old_are = record {
            balanced = IsBalanced-pair e f p.0 p.2 (p.3 ∙ sym p.1);
            begins = p.0;
            named = (ap (is_wanted leading_names) p.1, (ap (is_wanted leading_names) p.3, tt));
            gives = λ zs. data-gives zs ∙ ap (λ l. l ++ as_written bytes zs) own;
          };
          new_are = record {
            balanced = balanced;
            begins = begins line (balanced-opens balanced) account;
            named = string-minor seats;
            gives = λ zs. written-shut bytes line zs (balanced-shut balanced) ∙ ap (λ l. l ++ as_written bytes zs) said;
          };
          alike = alike-same text;
        })
      where
        begins : (es : List Event) → Opens es → AccountFor es bytes (s ∷ ss) → BeginsWithAnEnter es
        begins [] opens account = absurd (let none : s ∷ ss ≡ [] = none-account bytes (s ∷ ss) account in cc)
        begins (x ∷ xs) opens account = opens

  -- ---- all data in strings
  abbrev BeginsWithData : List Event → Type 0
  BeginsWithData [] = ⊥
  BeginsWithData (x ∷ xs) = x.name ≡ name.Data

  -- other events stand in place of data
  abbrev InPlaceOfData : List Segment → Type 0
  InPlaceOfData [] = Unit {0}
  InPlaceOfData (one e ∷ s) = Unit {0}
  InPlaceOfData (instead xs ys ∷ s) = BeginsWithData xs

  module _ (defined : List ℕ → Bool) where
    record AreRead (inside : Bool) (es : List Event) : Type 0 where
      segments : List Segment
      old : old_events segments ≡ es
      new : new_events segments ≡ read on t bytes inside es
      are : AreAlike bytes segments
      apart : NoneBeginLinks segments
      first : InPlaceOfData segments

    -- no link begins with data
    none-begins : (e : Event) (es : List Event) (s : List Segment) → old_events s ≡ es → InPlaceOfData s → NoneBeginLinks s → (enters_link e ≡ true → IsLink bytes defined e.point es) → NoneBeginLinks (one e ∷ s)
    none-begins e es [] old first apart link = tt
    none-begins e es (one f ∷ s) old first apart link = apart
    none-begins e es (instead xs ys ∷ s) old first apart link = (false_from_ne_true (enters_link e) (λ is. by xs old first (link is)), apart)
      where
        by : (xs : List Event) → xs ++ old_events s ≡ es → BeginsWithData xs → IsLink bytes defined e.point es → ⊥
        by [] old first l = first
        by (x ∷ xs) old first l =
            let same : x ∷ (xs ++ old_events s) ≡ l.first ∷ (l.others ++ l.exit ∷ l.more) = old ∙ l.are ∙ ap (λ k. k ++ l.exit ∷ l.more) l.begins in
            let is : x ≡ l.first = cc in
            let named : name.Data ≡ name.Label = sym first ∙ ap (λ (y : Event). y.name) is ∙ l.labelled in
            false≢true (ap (λ n. same_name n name.Data) (sym named))

    abbrev Reads : Bool → List Event → Type 0
    Reads inside es = (stretches : List (Seat × List Seat)) (pre : List Seat) → virtual t bytes ≡ pre ++ flat_map stretch_bytes stretches → innermost_spans es ≡ map (span_over bytes) stretches → Lead bytes defined es → AreRead inside es

    data-read : (inside : Bool) (e f : Event) (es : List Event) → (inside && is_data e f) ≡ true → Reads inside es → (stretches : List (Seat × List Seat)) (pre : List Seat) → virtual t bytes ≡ pre ++ flat_map stretch_bytes stretches
        → (e.point, f.point) ∷ innermost_spans es ≡ map (span_over bytes) stretches → Lead bytes defined (e ∷ f ∷ es) → AreRead inside (e ∷ f ∷ es)
    data-read inside e f es d rest [] pre all is leads = absurd (cc)
    data-read inside e f es d rest ((s, ss) ∷ others) pre all is leads =
        let pair : (e.point, f.point) ≡ span_over bytes (s, ss) = cc in
        let more : innermost_spans es ≡ map (span_over bytes) others = cc in
        let behind = flat_map stretch_bytes others in
        let is_there = (and_parts inside (is_data e f) d).1 in
        let r = rest others (pre ++ (s ∷ ss)) (all ∙ sym (append_assoc pre (s ∷ ss) behind)) more leads.1.1 in
        record {
          segments = instead (e ∷ f ∷ []) (line_as_string on t bytes e.point f.point) ∷ r.segments;
          old = ap (λ l. e ∷ f ∷ l) r.old;
          new = ap (λ l. line_as_string on t bytes e.point f.point ++ l) r.new
              ∙ ap (λ b. cond b (line_as_string on t bytes e.point f.point ++ read on t bytes inside es) (e ∷ read on t bytes (in_string_after inside e) (f ∷ es))) (sym d);
          are = (data-alike e f is_there s ss pre behind all pair, r.are);
          apart = r.apart;
          first = (data-parts e f is_there).1;
        }

    other-read : (inside : Bool) (e f : Event) (es : List Event) → (inside && is_data e f) ≡ false → Lead bytes defined (e ∷ f ∷ es) → AreRead (in_string_after inside e) (f ∷ es) → AreRead inside (e ∷ f ∷ es)
    other-read inside e f es d leads r = record {
      segments = one e ∷ r.segments;
      old = ap (λ l. e ∷ l) r.old;
      new = ap (λ l. e ∷ l) r.new ∙ ap (λ b. cond b (line_as_string on t bytes e.point f.point ++ read on t bytes inside es) (e ∷ read on t bytes (in_string_after inside e) (f ∷ es))) (sym d);
      are = r.are;
      apart = none-begins e (f ∷ es) r.segments r.old r.first r.apart leads.0;
      first = tt;
    }

    -- behind an innermost span
    span-behind : {P : Type 0} (x : Point × Point) (l : List (Point × Point)) (stretches : List (Seat × List Seat)) (pre : List Seat) → virtual t bytes ≡ pre ++ flat_map stretch_bytes stretches → x ∷ l ≡ map (span_over bytes) stretches
        → ((others : List (Seat × List Seat)) (more : List Seat) → virtual t bytes ≡ more ++ flat_map stretch_bytes others → l ≡ map (span_over bytes) others → P) → P
    span-behind x l [] pre all is go = absurd (cc)
    span-behind x l ((s, ss) ∷ others) pre all is go =
        let more : l ≡ map (span_over bytes) others = cc in
        go others (pre ++ (s ∷ ss)) (all ∙ sym (append_assoc pre (s ∷ ss) (flat_map stretch_bytes others))) more

    all-read : (es : List Event) (inside : Bool) → Reads inside es
    all-read [] inside stretches pre all is leads = record { segments = []; old = refl; new = refl; are = tt; apart = tt; first = tt }
    all-read (e ∷ []) inside stretches pre all is leads = record { segments = one e ∷ []; old = refl; new = refl; are = tt; apart = tt; first = tt }
    all-read (e ∷ f ∷ es) inside stretches pre all is leads = by (inside && is_data e f) refl (all-read es inside) (all-read (f ∷ es) (in_string_after inside e))
      where
        by : (b : Bool) → (inside && is_data e f) ≡ b → Reads inside es → Reads (in_string_after inside e) (f ∷ es) → AreRead inside (e ∷ f ∷ es)
        by true d two next =
            let p = data-parts e f (and_parts inside (is_data e f) d).1 in
            let first = p.0 in
            let second = p.2 in
            let here : innermost_spans (e ∷ f ∷ es) ≡ (e.point, f.point) ∷ innermost_spans es = rw (first, second) refl in
            data-read inside e f es d two stretches pre all (sym here ∙ is) leads
        by false d two next = other-read inside e f es d leads (kinds e.kind f.kind refl refl)
          where
            kinds : (k l : Kind) → e.kind ≡ k → f.kind ≡ l → AreRead (in_string_after inside e) (f ∷ es)
            kinds Exit l first second = let here : innermost_spans (e ∷ f ∷ es) ≡ innermost_spans (f ∷ es) = rw first refl in next stretches pre all (sym here ∙ is) leads.1
            kinds Enter Enter first second = let here : innermost_spans (e ∷ f ∷ es) ≡ innermost_spans (f ∷ es) = rw (first, second) refl in next stretches pre all (sym here ∙ is) leads.1
            kinds Enter Exit first second =
                let here : innermost_spans (e ∷ f ∷ es) ≡ (e.point, f.point) ∷ innermost_spans (f ∷ es) = rw (first, second) refl in
                span-behind (e.point, f.point) (innermost_spans (f ∷ es)) stretches pre all (sym here ∙ is) (λ others more whole same. next others more whole same leads.1)

    -- So links lead on as they did, in events that account for the document
    pub strings-lead : (es : List Event) → AccountFor es bytes (virtual t bytes) → Lead bytes defined es → Lead bytes defined (read on t bytes false es)
    strings-lead es account leads =
        let r = all-read es false account.stretches [] (sym account.are_all) account.are_innermost leads in
        subst (Lead bytes defined) r.new (lead-new bytes defined (AreAlike bytes) (alike-kind bytes) r.segments r.are r.apart (subst (Lead bytes defined) (sym r.old) leads))
