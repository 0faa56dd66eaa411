-- Spans of containers with the markers of lists: what begins in a section is of the lists around it, and what is around sections is by their spans.
use Rattle.std.proofs.Common.{◌≡◌, ◌∙◌, ◌==◌, ℕ, suc, ◌-◌, Bool, true, false, cond, List, [], ◌∷◌, ◌++◌, None, Option, ap, append_assoc, append-nil, drop, length, map, refl, reverse, subst, sym, take}
use Rattle.std.proofs.lemmas.Bool.{cond_both, false≢true}
use Rattle.std.proofs.lemmas.List.{reverse-append}
use Rattle.std.proofs.Math.Seq.{drop-append_seam}
use Rattle.std.specs.Prelude.{nat_le, option_and_then, slice_get}
use Rattle.markdown_base.specs.Events.{same_name}
use Rattle.markdown_base.specs.Virtual.{Seat}
use Rattle.markdown_base.specs.declared.event.Kind.TheVariants.{Enter, Exit}
use Rattle.markdown_base.specs.declared.event.Name.{Name}
use Rattle.markdown_base.specs.declared.event.Name.TheVariants as name
use Rattle.markdown_base.specs.declared.event.Point.{Point}
use Rattle.markdown_edits.specs.SpanWalks.{is_wanted}
use Rattle.mdconstructs_machines.specs.Spans.{event}
use Rattle.mdblock_leaf_blocks.specs.LeafEvents.{Mark}
use Rattle.mdblock_lines.specs.Containers.{Container, Item, Prefix, footnote, item, quote}
use Rattle.mdblock_containers.proofs.FrameFacts.{Turn, all_entered, entered}
use Rattle.mdblock_containers.specs.declared.lists.Marker.{Marker}
use Rattle.mdblock_containers.specs.Lists.{list_names, marker_of}
use Rattle.mdblock_containers.specs.Prefixes.{columns_of}
use Rattle.mdblock_containers.specs.Rows.{Row}
use Rattle.mdblock_containers.specs.Skeleton.{Frame, Part, begin_of, begun_all, begun_marks, chained_from, end_of, ending_marks, enters_of, exits, list_name, prefixes_marks, shared}
use Rattle.mdblock_definitions.specs.Sections.{Section}
use Rattle.mdblock_definitions.specs.Skeleton.{behind_marks, inside_marks, section_marks, sections_marks}
use Rattle.mddocument_rules.proofs.ListItems.{AreMarked, IsIn, marks}
use Rattle.mddocument_rules.proofs.MarkedMarks.{MarksAre, begins-plain, ends-plain, enters-plain, inside-plain, prefixes-plain}
use Rattle.mdblock_definitions.specs.BlankLines.{containers_in}
use Rattle.mddocument_rules.specs.MarkerLaws.{item_marker}

-- ---- what is around, by spans of containers
abbrev pub container_marker : Container → Option Marker
container_marker (quote q) = None
container_marker (item i) = marker_of i.marker
container_marker (footnote f) = None

-- the marker of a list that stands in so many containers and begins in the line of this number
abbrev pub marker_at : List Row → (depth number : ℕ) → Option Marker
marker_at rs depth number = option_and_then (λ row. option_and_then container_marker (slice_get (containers_in row) depth)) (slice_get rs (number - 1))

module _ (rs : List Row) where
  -- how many containers are around what stands in a span
  abbrev pub deeper : ℕ → Frame → ℕ
  deeper d f = cond (is_wanted list_names f.name) d (suc d)

  abbrev pub deep : ℕ → List Frame → ℕ
  deep d [] = d
  deep d (f ∷ fs) = deep (deeper d f) fs

  abbrev pub marker_in : ℕ → Frame → Option Marker
  marker_in d f = cond (is_wanted list_names f.name) (marker_at rs d f.line) None

  abbrev pub within : ℕ → List (Option Marker) → List Frame → List (Option Marker)
  within d around [] = around
  within d around (f ∷ fs) = within (deeper d f) (marker_in d f ∷ around) fs

  pub within-both : (d : ℕ) (around : List (Option Marker)) (xs ys : List Frame) → within d around (xs ++ ys) ≡ within (deep d xs) (within d around xs) ys
  within-both d around [] ys = refl
  within-both d around (f ∷ xs) ys = within-both (deeper d f) (marker_in d f ∷ around) xs ys

  pub deep-both : (d : ℕ) (xs ys : List Frame) → deep d (xs ++ ys) ≡ deep (deep d xs) ys
  deep-both d [] ys = refl
  deep-both d (f ∷ xs) ys = deep-both (deeper d f) xs ys

  -- ---- ends
  abbrev popped : List Frame → List (Option Marker) → List (Option Marker)
  popped [] around = around
  popped (f ∷ fs) around = popped fs (drop 1 around)

  popped-both : (xs ys : List Frame) (around : List (Option Marker)) → popped (xs ++ ys) around ≡ popped ys (popped xs around)
  popped-both [] ys around = refl
  popped-both (x ∷ xs) ys around = popped-both xs ys (drop 1 around)

  popped-all : (d : ℕ) (fs : List Frame) (around : List (Option Marker)) → popped (reverse fs) (within d around fs) ≡ around
  popped-all d [] around = refl
  popped-all d (f ∷ fs) around =
      ap (λ l. popped l (within (deeper d f) (marker_in d f ∷ around) fs)) (reverse-append (f ∷ []) fs)
      ∙ popped-both (reverse fs) (f ∷ []) (within (deeper d f) (marker_in d f ∷ around) fs)
      ∙ ap (drop 1) (popped-all (deeper d f) fs (marker_in d f ∷ around))

  module _ (bytes : List ℕ) where
    exit-each : (place : Point) (fs : List Frame) (around : List (Option Marker)) (ys : List Mark) → MarksAre bytes (popped fs around) ys → MarksAre bytes around (map (λ (f : Frame). (event bytes Exit f.name place, None)) fs ++ ys)
    exit-each place [] around ys h = h
    exit-each place (f ∷ fs) around ys h = λ i previous. (tt, exit-each place fs (drop 1 around) ys h (suc i) previous)

    exits-are : (place : Point) (d : ℕ) (fs : List Frame) (around : List (Option Marker)) (ys : List Mark) → MarksAre bytes around ys → MarksAre bytes (within d around fs) (exits bytes fs place ++ ys)
    exits-are place d fs around ys h = exit-each place (reverse fs) (within d around fs) ys (subst (λ a. MarksAre bytes a ys) (sym (popped-all d fs around)) h)

    -- ---- what begins
    -- an item is entered, of the list around it
    enters-item : (place : Point) (around : List (Option Marker)) (ms : List Mark) → ((i : ℕ) (previous : Option ℕ) → IsIn bytes around (item_marker bytes (chained_from i previous ms))) → MarksAre bytes (None ∷ around) ms
        → MarksAre bytes around ((event bytes Enter name.ListItem place, None) ∷ ms)
    enters-item place around ms is h = λ i previous. (record { list = λ e. absurd (false≢true e); named = λ e. absurd (false≢true e); item = λ e. is (suc i) previous }, h (suc i) previous)

    -- a list is entered, and its first item
    enters-list : (n : Name) (place : Point) (around : List (Option Marker)) (m : Option Marker) (ms : List Mark) → is_wanted list_names n ≡ true → same_name n name.ListItem ≡ false → marks n m ≡ true
        → ((i : ℕ) (previous : Option ℕ) → item_marker bytes (chained_from i previous ms) ≡ m) → MarksAre bytes (m ∷ around) ((event bytes Enter name.ListItem place, None) ∷ ms)
        → MarksAre bytes around ((event bytes Enter n place, None) ∷ (event bytes Enter name.ListItem place, None) ∷ ms)
    enters-list n place around m ms list other kind is h = λ i previous. (
      record { list = λ e. refl; named = λ e. ap (marks n) (is (suc (suc i)) previous) ∙ kind; item = λ e. absurd (false≢true (sym other ∙ e)) },
      subst (λ (x : Option Marker). AreMarked bytes (x ∷ around) (chained_from (suc i) previous ((event bytes Enter name.ListItem place, None) ∷ ms)))
          (sym (ap (λ b. cond b (item_marker bytes (chained_from (suc (suc i)) previous ms)) None) list ∙ is (suc (suc i)) previous)) (h (suc i) previous),
    )

    -- An item begins with its marker, of the list that it begins or of the one around it
    pub record ItemBegins (d : ℕ) (around : List (Option Marker)) (i : Item) (seats : List Seat) : Type 0 where
      pub written : (j : ℕ) (previous : Option ℕ) (ys : List Mark) → item_marker bytes (chained_from j previous (begun_marks bytes (item i) seats ++ ys)) ≡ marker_of i.marker
      pub named : marks (list_name i) (marker_of i.marker) ≡ true
      pub at : marker_at rs d i.list ≡ marker_of i.marker
      pub goes : (i.list == i.line) ≡ false → IsIn bytes around (marker_of i.marker)

    abbrev pub Begins : (d : ℕ) (around : List (Option Marker)) → Container → List Seat → Type 0
    Begins d around (quote q) seats = Unit {0}
    Begins d around (item i) seats = ItemBegins d around i seats
    Begins d around (footnote f) seats = Unit {0}

    abbrev pub AllBegin : (d : ℕ) (around : List (Option Marker)) → List Prefix → List Seat → Type 0
    AllBegin d around [] seats = Unit {0}
    AllBegin d around (p ∷ ps) seats = Begins d around p.container (take p.size seats) × AllBegin (deep d (entered p.container)) (within d around (entered p.container)) ps (drop p.size seats)

    pub list-is : (i : Item) → (is_wanted list_names (list_name i) ≡ true) × (same_name (list_name i) name.ListItem ≡ false)
    list-is i = cond_both (nat_le 1 i.digits) name.ListOrdered name.ListUnordered (λ n. (is_wanted list_names n ≡ true) × (same_name n name.ListItem ≡ false)) (λ e. (refl, refl)) (λ e. (refl, refl))

    one-begins : (c : Container) (place : Point) (d : ℕ) (around : List (Option Marker)) (seats : List Seat) (ys : List Mark) → Begins d around c seats → MarksAre bytes (within d around (entered c)) ys → MarksAre bytes around (enters_of bytes c place ++ (begun_marks bytes c seats ++ ys))
    one-begins (quote q) place d around seats ys b h = enters-plain bytes name.BlockQuote place around (begun_marks bytes (quote q) seats ++ ys) (refl, refl) ((begins-plain bytes (quote q) seats).passes (None ∷ around) ys h)
    one-begins (footnote f) place d around seats ys b h =
        enters-plain bytes name.GfmFootnoteDefinition place around (begun_marks bytes (footnote f) seats ++ ys) (refl, refl) ((begins-plain bytes (footnote f) seats).passes (None ∷ around) ys h)
    one-begins (item i) place d around seats ys b h = by (i.list == i.line) refl h
      where
        rest : List Mark
        rest = begun_marks bytes (item i) seats ++ ys

        frame : Frame
        frame = record { name = list_name i; line = i.list }

        by : (x : Bool) → (i.list == i.line) ≡ x → MarksAre bytes (within d around (cond x (record { name = list_name i; line = i.list } ∷ []) [] ++ record { name = name.ListItem; line = i.line } ∷ [])) ys
            → MarksAre bytes around ((cond x ((event bytes Enter (list_name i) place, None) ∷ []) [] ++ (event bytes Enter name.ListItem place, None) ∷ []) ++ (begun_marks bytes (item i) seats ++ ys))
        by true e h =
            let list = list-is i in
            let same : marker_in d (record { name = list_name i; line = i.list }) ≡ marker_of i.marker = ap (λ y. cond y (marker_at rs d i.list) None) list.0 ∙ b.at in
            let there : MarksAre bytes (None ∷ marker_of i.marker ∷ around) ys = subst (λ (m : Option Marker). MarksAre bytes (None ∷ m ∷ around) ys) same h in
            enters-list (list_name i) place around (marker_of i.marker) (begun_marks bytes (item i) seats ++ ys) list.0 list.1 b.named (λ j previous. b.written j previous ys)
            (enters-item place (marker_of i.marker ∷ around) (begun_marks bytes (item i) seats ++ ys) (λ j previous. b.written j previous ys) ((begins-plain bytes (item i) seats).passes (None ∷ marker_of i.marker ∷ around) ys there))
        by false e h =
            enters-item place around (begun_marks bytes (item i) seats ++ ys) (λ j previous. subst (IsIn bytes around) (sym (b.written j previous ys)) (b.goes e))
            ((begins-plain bytes (item i) seats).passes (None ∷ around) ys h)

    begun-are-marked : (ps : List Prefix) (seats : List Seat) (d : ℕ) (around : List (Option Marker)) (ys : List Mark) → AllBegin d around ps seats → MarksAre bytes (within d around (all_entered ps)) ys → MarksAre bytes around (begun_all bytes ps seats ++ ys)
    begun-are-marked [] seats d around ys b h = h
    begun-are-marked (p ∷ ps) seats d around ys b h =
        let c = p.container in
        let enters = enters_of bytes c (begin_of seats) in
        let here = begun_marks bytes c (take p.size seats) in
        let more = begun_all bytes ps (drop p.size seats) in
        let rest : MarksAre bytes (within d around (entered c)) (more ++ ys) =
        begun-are-marked ps (drop p.size seats) (deep d (entered c)) (within d around (entered c)) ys b.1 (subst (λ a. MarksAre bytes a ys) (within-both d around (entered c) (all_entered ps)) h) in
        subst (MarksAre bytes around) (sym (append_assoc enters (here ++ more) ys ∙ ap (λ l. enters ++ l) (append_assoc here more ys))) (one-begins c (begin_of seats) d around (take p.size seats) (more ++ ys) b.0 rest)

    -- ---- sections
    pub record SectionIs (fs : List Frame) (s : Section) : Type 0 where
      pub turn : Turn fs s.part.frames s.part.first.begun
      pub begins : AllBegin (deep 0 turn.kept) (within 0 [] turn.kept) s.part.first.begun (drop (columns_of s.part.first.went_on) s.part.first.line)

    abbrev pub SectionsAre : List Frame → List Section → Type 0
    SectionsAre fs [] = Unit {0}
    SectionsAre fs (s ∷ ss) = SectionIs fs s × SectionsAre s.part.frames ss

    section-is : (fs : List Frame) (s : Section) (h : SectionIs fs s) (ys : List Mark) → MarksAre bytes (within 0 [] s.part.frames) ys → MarksAre bytes (within 0 [] h.turn.kept) (section_marks bytes s ++ ys)
    section-is fs s h ys w =
        let first = s.part.first in
        let front = prefixes_marks bytes (take (length s.part.stands) first.went_on) first.line in
        let seats = drop (columns_of first.went_on) first.line in
        let begun = begun_all bytes first.begun seats in
        let inside = inside_marks bytes s.part s.inside in
        let kept = within 0 [] h.turn.kept in
        let same : within 0 [] s.part.frames ≡ within (deep 0 h.turn.kept) kept (all_entered first.begun) = ap (within 0 []) h.turn.after_are ∙ within-both 0 [] h.turn.kept (all_entered first.begun) in
        let there : MarksAre bytes (within (deep 0 h.turn.kept) kept (all_entered first.begun)) (inside ++ ys) = subst (λ a. MarksAre bytes a (inside ++ ys)) same ((inside-plain bytes s.part s.inside).passes (within 0 [] s.part.frames) ys w) in
        let all : MarksAre bytes kept (front ++ (begun ++ (inside ++ ys))) =
        (prefixes-plain bytes (take (length s.part.stands) first.went_on) first.line).passes kept (begun ++ (inside ++ ys)) (begun-are-marked first.begun seats (deep 0 h.turn.kept) kept (inside ++ ys) h.begins there) in
        subst (MarksAre bytes kept) (sym (append_assoc front (begun ++ inside) ys ∙ ap (λ l. front ++ l) (append_assoc begun inside ys))) all

    behind-are : (part : Part) (ss : List Section) → SectionsAre part.frames ss → MarksAre bytes (within 0 [] part.frames) (behind_marks bytes part ss)
    behind-are part [] h =
        exits-are (end_of bytes part) 0 part.frames [] (ending_marks bytes part) (subst (MarksAre bytes []) (append-nil (ending_marks bytes part)) ((ends-plain bytes part).passes [] [] (λ i previous. tt)))
    behind-are part (next ∷ more) h =
        let turn = h.0.turn in
        let ended = drop (shared part.frames next.part.frames) part.frames in
        let is : ended ≡ turn.ended = (λ i. drop (turn.many i) (turn.before_are i)) ∙ drop-append_seam turn.kept turn.ended in
        let rest = ending_marks bytes part ++ (section_marks bytes next ++ behind_marks bytes next.part more) in
        let there : MarksAre bytes (within 0 [] turn.kept) rest =
        (ends-plain bytes part).passes (within 0 [] turn.kept) (section_marks bytes next ++ behind_marks bytes next.part more) (section-is part.frames next h.0 (behind_marks bytes next.part more) (behind-are next.part more h.1)) in
        let all : MarksAre bytes (within (deep 0 turn.kept) (within 0 [] turn.kept) turn.ended) (exits bytes turn.ended (end_of bytes part) ++ rest) = exits-are (end_of bytes part) (deep 0 turn.kept) turn.ended (within 0 [] turn.kept) rest there in
        let around : within 0 [] part.frames ≡ within (deep 0 turn.kept) (within 0 [] turn.kept) turn.ended = ap (within 0 []) turn.before_are ∙ within-both 0 [] turn.kept turn.ended in
        subst (λ a. MarksAre bytes a (exits bytes ended (end_of bytes part) ++ rest)) (sym around)
        (subst (λ (l : List Frame). MarksAre bytes (within (deep 0 turn.kept) (within 0 [] turn.kept) turn.ended) (exits bytes l (end_of bytes part) ++ rest)) (sym is) all)

    pub sections-are-marked : (ss : List Section) → SectionsAre [] ss → MarksAre bytes [] (sections_marks bytes ss)
    sections-are-marked [] h = λ i previous. tt
    sections-are-marked (s ∷ ss) h =
        let none : within 0 [] h.0.turn.kept ≡ [] = nothing-kept h.0.turn.kept h.0.turn.ended h.0.turn.before_are in
        subst (λ a. MarksAre bytes a (section_marks bytes s ++ behind_marks bytes s.part ss)) none (section-is [] s h.0 (behind_marks bytes s.part ss) (behind-are s.part ss h.1))
      where
        nothing-kept : (xs ys : List Frame) → [] ≡ xs ++ ys → within 0 [] xs ≡ []
        nothing-kept [] ys e = refl
        nothing-kept (x ∷ xs) ys e = absurd (cc)
