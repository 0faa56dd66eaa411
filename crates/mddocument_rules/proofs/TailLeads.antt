-- Tails of links and images: each is no span, or one, and balanced; one has a resource, another a label that is defined, and others neither.
use Rattle.mddocument_rules.proofs.Prelude.{◌≡◌, ◌∙◌, ◌⊎◌, ℕ, suc, ◌+◌, ◌-◌, Bool, true, false, cond, List, [], ◌∷◌, ◌++◌, None, Option, Some, and_parts, ap, arith, drop, inl, inr, length, option_map, refl, subst, sym, take, ◌&&◌, Enter, Event, Exit, IsBalanced, IsBalanced-append, Name, Point, Seat, empty, end_after, event, every-append, same_name}
use Rattle.std.proofs.lemmas.List.{length-map, length-take-le, take-append-drop, take-take}
use Rattle.std.specs.Prelude.{◌≤◌, ◌<◌}
use Rattle.markdown_base.specs.declared.event.Name.TheVariants as name
use Rattle.mdblock_leaf_blocks.proofs.Marks.Courses.{Course, course-on}
use Rattle.mdblock_leaf_blocks.specs.ChunksJoin.{AcrossGap}
use Rattle.mdconstructs_machines.specs.Spans.{leaf, span}
use Rattle.mdinline_full_references.proofs.FullReferences.Sizes.{label-fits}
use Rattle.mdinline_full_references.specs.FullReference.{full_reference, label_length, label_string, label_text}
use Rattle.mdinline_labels.specs.declared.definitions.Stretch.{Stretch}
use Rattle.mdinline_labels.specs.declared.resources.Resource.{Resource as Parts}
use Rattle.mdinline_labels.specs.Labels.{is_label, normalised}
use Rattle.mdinline_labels.specs.Resources.{closed_at, resource_at, resource_with}
use Rattle.mdinline_labels.specs.Tails.{begins_with, destination_size, gap}
use Rattle.mdinline_link_tails.proofs.Resources.Cuts.{string-cut}
use Rattle.mdinline_link_tails.specs.Resource.{in_marks, in_resource, resource, resource_grammar, string_events, unmarked}
use Rattle.mdinline_links.specs.Linked.{is_tail, outermost_spans}
use Rattle.mdinline_machine.proofs.InlineBuilt.{span-balanced}
use Rattle.mdinline_machine.specs.Brackets.{are_brackets, bytes_before, collapsed_reference, is_defined_label, is_open_bracket, is_wanted_at, no_tail, own_tail, spanned_bytes}
use Rattle.mdinline_text_machine.specs.Construct.{Found}
use Rattle.mdinline_text_machine.specs.Parts.{bytes_of}
use Rattle.mddocument.proofs.Innermost.Lined.{lined-cut}
use Rattle.mddocument_laws.proofs.TailSpans.{AreInResource, IsKeptInside, are-in-resource, in-resources, strings-of}
use Rattle.mddocument_link_targets.specs.declared.targets.Target.TheVariants as target
use Rattle.mddocument_link_targets.specs.Spans.{first_in, inside as span_inside}
use Rattle.mddocument_link_targets.specs.Strings.{as_written}
use Rattle.mddocument_link_targets.specs.Targets.{target_behind}
use Rattle.mddocument_rules.proofs.CutTexts.{single-span}
use Rattle.mddocument_rules.proofs.MadeTexts.{made-by-labels}
use Rattle.mddocument_rules.proofs.WrittenTexts.{AreUnmarked, IsUnmarked, front-same, lined-end, written-spans}

-- any name will do
abbrev AnyName : Name → Type 0
AnyName n = Unit {0}

any-names : AreInResource AnyName
any-names = are-in-resource AnyName (tt, (tt, (tt, (tt, (tt, (tt, (tt, (tt, (tt, (tt, (tt, tt)))))))))))

-- a name but that of a marker of a block quote
abbrev IsPlain : Name → Type 0
IsPlain n = same_name n name.BlockQuoteMarker ≡ false

-- ---- sizes
closed-sized : (text : List ℕ) (destination title : Option Stretch) (close : ℕ) (r : Parts) → closed_at text destination title close ≡ Some r → (n : ℕ) × (r.size ≡ suc n)
closed-sized text destination title close r is = elim (begins_with 41 (drop close text)) as (λ b. cond b (Some (record { destination = destination; title = title; size = close + 1 })) None ≡ Some r → (n : ℕ) × (r.size ≡ suc n)) [
  | true ↦ λ e. (close, (let same : close + 1 ≡ r.size = cc in omega (arith, same)))
  | false ↦ λ e. absurd (cc)
] is

with-sized : (text : List ℕ) (from : ℕ) (size : Option ℕ) (r : Parts) → resource_with text from size ≡ Some r → (n : ℕ) × (r.size ≡ suc n)
with-sized text from None r is = closed-sized text None None from r is
with-sized text from (Some size) r is = closed-sized text _ _ _ r is

resource-sized : (text : List ℕ) (r : Parts) → resource_at text ≡ Some r → (n : ℕ) × (r.size ≡ suc n)
resource-sized text r is =
    let from = 1 + gap (drop 1 text) in
    elim (begins_with 40 text) as (λ b. cond b (resource_with text from (destination_size (drop from text))) None ≡ Some r → (n : ℕ) × (r.size ≡ suc n)) [
      | true ↦ λ e. with-sized text from (destination_size (drop from text)) r e
      | false ↦ λ e. absurd (cc)
    ] is

module _ (bytes : List ℕ) where
  balance-kept : IsKeptInside bytes AnyName IsBalanced
  balance-kept = record { none = empty; both = IsBalanced-append; span_around = λ n seats es any h. span-balanced bytes n seats es h }

  -- what is between the marks of a tail, with the marks
  marked-balanced : (mark : Name) (inside : List Event) (seats : List Seat) → IsBalanced inside → IsBalanced (leaf bytes mark (take 1 seats) ++ (inside ++ leaf bytes mark (drop (length seats - 1) seats)))
  marked-balanced mark inside seats h =
      let first = leaf bytes mark (take 1 seats) in
      let last = leaf bytes mark (drop (length seats - 1) seats) in
      IsBalanced-append first (inside ++ last) (span-balanced bytes mark (take 1 seats) [] empty) (IsBalanced-append inside last h (span-balanced bytes mark (drop (length seats - 1) seats) [] empty))

  -- A tail is nothing, or one span
  abbrev pub IsOne : List Event → Type 0
  IsOne tail = (tail ≡ []) ⊎ ((outermost_spans tail ≡ tail ∷ []) × (is_tail tail ≡ true))

  pub record IsWhole (tail : List Event) : Type 0 where
    pub balanced : IsBalanced tail
    pub one : IsOne tail

  marked-whole : (n mark : Name) (inside : List Event) (u : Seat) (us : List Seat) → IsBalanced inside → is_tail (in_marks bytes n mark inside (u ∷ us)) ≡ true → IsWhole (in_marks bytes n mark inside (u ∷ us))
  marked-whole n mark inside u us h is =
      let seats = u ∷ us in
      let within = marked-balanced mark inside seats h in
      record {
        balanced = span-balanced bytes n seats (leaf bytes mark (take 1 seats) ++ (inside ++ leaf bytes mark (drop (length seats - 1) seats))) within;
        one = inr (single-span (event bytes Enter n u.point) (event bytes Exit n (end_after u.end us)) (leaf bytes mark (take 1 seats) ++ (inside ++ leaf bytes mark (drop (length seats - 1) seats))) refl refl within, is);
      }

  -- ---- a resource
  pub record HasResource (tail : List Event) : Type 0 where
    pub whole : IsWhole tail
    pub inner : List Event
    pub first : first_in name.Resource tail ≡ Some inner

  resource-there : (r : Parts) (u : Seat) (us : List Seat) → HasResource ((resource r).events bytes (u ∷ us))
  resource-there r u us =
      let seats = u ∷ us in
      let inside = in_resource bytes r.destination r.title (r.size - 1) seats in
      record { whole = marked-whole name.Resource name.ResourceMarker inside u us (in-resources bytes AnyName IsBalanced balance-kept any-names r.destination r.title (r.size - 1) seats) refl; inner = span_inside (drop 1 ((resource r).events bytes seats)); first = refl }

  pub resource-is : (ss : List Seat) (tail : Found) → resource_grammar.front (bytes_of ss) ≡ Some tail → HasResource (tail.events bytes (take tail.size ss))
  resource-is [] tail is = absurd (cc)
  resource-is (u ∷ us) tail is = elim (resource_at (bytes_of (u ∷ us))) as (λ o. resource_at (bytes_of (u ∷ us)) ≡ o → option_map resource o ≡ Some tail → HasResource (tail.events bytes (take tail.size (u ∷ us)))) [
    | None ↦ λ there e. absurd (cc)
    | Some r ↦ λ there e.
        let same : resource r ≡ tail = cc in
        let sized = resource-sized (bytes_of (u ∷ us)) r there in
        subst (λ (f : Found). HasResource (f.events bytes (take f.size (u ∷ us)))) same
        (subst (λ n. HasResource ((resource r).events bytes (take n (u ∷ us)))) (sym sized.1) (resource-there r u (take sized.0 us)))
  ] refl is

  -- ---- a reference by the own label
  pub record HasNone (tail : List Event) : Type 0 where
    pub whole : IsWhole tail
    pub no_resource : first_in name.Resource tail ≡ None
    pub no_string : first_in name.ReferenceString tail ≡ None

  collapsed-there : (u v : Seat) → HasNone (collapsed_reference.events bytes (u ∷ v ∷ []))
  collapsed-there u v = record { whole = marked-whole name.Reference name.ReferenceMarker [] u (v ∷ []) empty refl; no_resource = refl; no_string = refl }

  none-there : HasNone []
  none-there = record { whole = record { balanced = empty; one = inl refl }; no_resource = refl; no_string = refl }

  pub own-is : (ss : List Seat) → let tail = own_tail (bytes_of ss) in HasNone (tail.events bytes (take tail.size ss))
  own-is [] = none-there
  own-is (u ∷ []) = elim (is_open_bracket u.byte) as (λ b. let tail = cond (b && false) collapsed_reference no_tail in HasNone (tail.events bytes (take tail.size (u ∷ [])))) [ true ↦ none-there | false ↦ none-there ]
  own-is (u ∷ v ∷ ss) = elim (are_brackets (bytes_of (u ∷ v ∷ ss))) as (λ b. let tail = cond b collapsed_reference no_tail in HasNone (tail.events bytes (take tail.size (u ∷ v ∷ ss)))) [ true ↦ collapsed-there u v | false ↦ none-there ]

  -- ---- a full reference
  -- its label leads to a text that is defined as a label, whatever stands before it
  pub record HasLabel (defined : List ℕ → Bool) (tail : List Event) : Type 0 where
    pub whole : IsWhole tail
    pub text : List ℕ
    pub leads : (own : List Event) → target_behind bytes own tail ≡ target.Label (normalised text)
    pub is : defined text ≡ true

  around-unmarked : (n : Name) (seats : List Seat) (inside : List Event) → IsPlain n → AreUnmarked inside → AreUnmarked (span bytes n seats inside)
  around-unmarked n [] inside plain h = h
  around-unmarked n (s ∷ ss) inside plain h = (plain, every-append IsUnmarked inside (event bytes Exit n (end_after s.end ss) ∷ []) h (plain, tt))

  string-unmarked : (seats : List Seat) → AreUnmarked (string_events bytes seats)
  string-unmarked seats = strings-of bytes IsPlain AreUnmarked kept names seats
    where
      kept : IsKeptInside bytes IsPlain AreUnmarked
      kept = record { none = tt; both = every-append IsUnmarked; span_around = around-unmarked }

      names : AreInResource IsPlain
      names = are-in-resource IsPlain (refl, (refl, (refl, (refl, (refl, (refl, (refl, (refl, (refl, (refl, (refl, tt)))))))))))

  module _ (t : ℕ) (defined : List ℕ → Bool) where
    full-there : (n : ℕ) (p : Point) (s u : Seat) (us : List Seat) → Course AcrossGap t bytes p (s ∷ u ∷ us) → 1 ≤ n → n + 2 ≤ length (u ∷ us) → is_wanted_at defined bytes (s ∷ u ∷ us) (label_text n (bytes_of (u ∷ us))) ≡ true
        → HasLabel defined ((full_reference n).events bytes (take (n + 2) (u ∷ us)))
    full-there n p s u us course some long wanted =
        let seats = u ∷ take (n + 1) us in
        let next : suc (n + 1) ≡ n + 2 = omega arith in
        let short : n + 1 ≤ length us = omega (arith, long) in
        let many : length (take (n + 1) us) ≡ n + 1 = length-take-le (n + 1) us short in
        let inside = take n us in
        let rest = drop n us in
        let between_is : unmarked bytes seats ≡ inside =
        let last : (length seats - 1) - 1 ≡ n = omega (arith, many) in
        ap (λ k. take k (take (n + 1) us)) last ∙ take-take n (n + 1) us (omega arith) in
        let sized : length (label_text n (bytes_of (u ∷ us))) ≡ n = (let long_text : length (bytes_of us) ≡ length us = length-map us (λ (x : Seat). x.byte) in length-take-le n (bytes_of us) (omega (arith, short, long_text))) in
        let events = string_events bytes inside in
        let asked : (is_label (spanned_bytes (bytes_before bytes rest) events) && defined (spanned_bytes (bytes_before bytes rest) events)) ≡ true =
        subst (λ k. is_defined_label defined (bytes_before bytes (drop k us)) (string_events bytes (take k us)) ≡ true) sized wanted in
        let there : Course AcrossGap t bytes (end_after p (s ∷ u ∷ [])) (inside ++ rest) = subst (Course AcrossGap t bytes (end_after p (s ∷ u ∷ []))) (sym (take-append-drop n us)) (course-on AcrossGap t bytes p (s ∷ u ∷ []) us course) in
        let same : spanned_bytes (bytes_before bytes rest) events ≡ as_written bytes events =
        front-same bytes t events rest (λ c more ahead. lined-end bytes t (end_after p (s ∷ u ∷ [])) inside c more events (subst (λ l. Course AcrossGap t bytes (end_after p (s ∷ u ∷ [])) (inside ++ l)) ahead there) (lined-cut bytes events inside (string-cut bytes inside)))
        ∙ sym (written-spans bytes events (string-unmarked inside)) in
        let some_inside : 0 < length (unmarked bytes seats) = subst (λ (l : List Seat). 0 < length l) (sym between_is) (let k = length-take-le n us (omega (arith, short)) in omega (arith, k, some)) in
        let label = label_string bytes (unmarked bytes seats) in
        subst (λ k. HasLabel defined ((full_reference n).events bytes (take k (u ∷ us)))) next
        (record {
          whole = marked-whole name.Reference name.ReferenceMarker label u (take (n + 1) us) (span-balanced bytes name.ReferenceString (unmarked bytes seats) (string_events bytes (unmarked bytes seats)) (strings-of bytes AnyName IsBalanced balance-kept any-names (unmarked bytes seats))) refl;
          text = as_written bytes events;
          leads = λ own. made-by-labels bytes own n u (take (n + 1) us) some_inside ∙ ap (λ l. target.Label (normalised (as_written bytes (string_events bytes l)))) between_is;
          is = ap defined (sym same) ∙ (and_parts (is_label (spanned_bytes (bytes_before bytes rest) events)) (defined (spanned_bytes (bytes_before bytes rest) events)) asked).1;
        })

    pub full-is : (n : ℕ) (p : Point) (s : Seat) (ss : List Seat) → Course AcrossGap t bytes p (s ∷ ss) → label_length (bytes_of ss) ≡ Some n → is_wanted_at defined bytes (s ∷ ss) (label_text n (bytes_of ss)) ≡ true
        → HasLabel defined ((full_reference n).events bytes (take (n + 2) ss))
    full-is n p s ss course found wanted =
        let fits = label-fits (bytes_of ss) n found in
        let many : length (bytes_of ss) ≡ length ss = length-map ss (λ (x : Seat). x.byte) in
        by ss course (omega (arith, fits.1, many)) wanted
      where
        some : 1 ≤ n
        some = (label-fits (bytes_of ss) n found).0

        by : (l : List Seat) → Course AcrossGap t bytes p (s ∷ l) → n + 2 ≤ length l → is_wanted_at defined bytes (s ∷ l) (label_text n (bytes_of l)) ≡ true → HasLabel defined ((full_reference n).events bytes (take (n + 2) l))
        by [] c long w = absurd (omega (arith, long))
        by (u ∷ us) c long w = full-there n p s u us c some long w
