-- Each section of a document begins items of the lists around it; so the items of each list of its skeleton have the marker of the list.
use Rattle.std.proofs.Common.{◌≡◌, ◌∙◌, ◌⊎◌, ℕ, zero, suc, ◌+◌, Bool, true, false, cond, List, [], ◌∷◌, ◌++◌, None, Option, Some, ap, append-nil, append_assoc, arith, drop, eq-eqb, inl, inr, length, length-append, refl, subst, sym, take}
use Rattle.std.proofs.lemmas.Bool.{cond_both, false_from_ne_true, false≢true}
use Rattle.std.proofs.lemmas.Bool.Decides.{nat_tests}
use Rattle.std.proofs.lemmas.Grind.{flat_map-append}
use Rattle.std.proofs.lemmas.Option.{none-some}
use Rattle.std.specs.List.{AllByRecursion, flat_map}
use Rattle.std.specs.Prelude.{◌==◌, ◌&&◌, nat_lt, option_and_then, slice_get}
use Rattle.markdown_base.proofs.Common.{every-append, every-drop, every-map}
use Rattle.markdown_base.specs.Virtual.{Seat, virtual}
use Rattle.markdown_base.specs.declared.configuration.Constructs.{Constructs}
use Rattle.markdown_base.specs.declared.event.Name.TheVariants as name
use Rattle.markdown_edits.proofs.Edits.Survivors.{slice_get-behind}
use Rattle.markdown_tokenizer.proofs.Positions.Order.{every-back}
use Rattle.markdown_tokenizer.specs.Text.{Given}
use Rattle.mdconstructs_machines.specs.LineEvents.{lines_in}
use Rattle.mdblock_leaf_blocks.proofs.Lines.WholeLines.{IsWhole, whole-lines}
use Rattle.mdblock_leaf_blocks.specs.LeafBlocks.{Line}
use Rattle.mdblock_lines.specs.Containers.{Container, Item, Prefix, footnote, item, quote}
use Rattle.mdblock_containers.proofs.FrameFacts.{Turn, all_entered, begun_entered, entered, left_is, none_is, standing_begun, take_front}
use Rattle.mdblock_containers.proofs.OpenFrames.{AreTurned, document_turned}
use Rattle.mdblock_containers.proofs.PlainLetters.{lines_each}
use Rattle.mdblock_containers.proofs.RowFacts.{BeginHere, BeginsIn, BeginsList, begun_are}
use Rattle.mdblock_containers.proofs.SeatFacts.{document_lines}
use Rattle.mdblock_containers.specs.declared.lists.Marker.{Marker}
use Rattle.mdblock_containers.specs.Lists.{marker_of}
use Rattle.mdblock_containers.specs.Prefixes.{columns_of, containers_of}
use Rattle.mdblock_containers.specs.Rows.{Row, has_none}
use Rattle.mdblock_containers.specs.Skeleton.{Frame, Part, frames_at, frames_of, further, going_on_at, list_at, list_begun, list_name, parts, parts_in, standing}
use Rattle.mdblock_definitions.proofs.Covered.{part-lines, rows_of}
use Rattle.mdblock_definitions.proofs.KnownReads.{known-reads, nothing}
use Rattle.mdblock_definitions.proofs.SectionTurns.{AreCut, document-cut}
use Rattle.mdblock_definitions.specs.Blocks.{document_skeleton}
use Rattle.mdblock_definitions.specs.Rows.{Known, known_after, row_of, rows, rows_from}
use Rattle.mdblock_definitions.specs.Sections.{Section, cut, lines, sections}
use Rattle.mdblock_definitions.specs.Skeleton.{all_rows}
use Rattle.mddocument_rules.proofs.ListItems.{AreMarked, IsIn, lists-are, lists-named}
use Rattle.mddocument_rules.proofs.MarkedSections.{AllBegin, Begins, SectionIs, SectionsAre, container_marker, deep, deep-both, list-is, marker_at, marker_in, sections-are-marked, within, within-both}
use Rattle.mddocument_rules.proofs.Markers.{AreOfTheirLists, line-items, open-items}
use Rattle.mddocument_rules.proofs.OpenRows.{IsBehind, behind-next, first-behind}
use Rattle.mddocument_rules.proofs.Skeletons.{InFrames, in_cuts, part-in}
use Rattle.mddocument_rules.proofs.WrittenMarkers.{AreWritten, IsByte, bytes-virtual, row-written}
use Rattle.mdblock_definitions.specs.BlankLines.{containers_in}
use Rattle.mddocument_rules.specs.MarkerLaws.{ListsAreNamedByMarkers, ListsAreOfOneType}

module _ (rs : List Row) (bytes : List ℕ) where
  -- what is known of a line and its containers
  record RowIs (r : Row) : Type 0 where
    begin : BeginHere r.number r.begun
    items : AreOfTheirLists rs (containers_in r)
    written : AreWritten bytes r.begun (drop (columns_of r.went_on) r.line)
    left : r.is_left_blank ≡ true → has_none r.begun ≡ true

  -- ---- lines
  record LineIs (l : Line) : Type 0 where
    whole : IsWhole l
    seats : AllByRecursion (IsByte bytes) l

  rows-are : (on : Constructs) (done : List Row) (k : Known) (n : ℕ) (ls : List Line) → IsBehind done k n → rs ≡ done ++ rows_from on k n ls → AreOfTheirLists rs k.before.stack → AllByRecursion LineIs ls → AllByRecursion RowIs (rows_from on k n ls)
  rows-are on done k n [] behind all are h = tt
  rows-are on done k n (l ∷ ls) behind all are h =
      let r = row_of on k n l in
      let rest = rows_from on (known_after on k r) (suc n) ls in (
        record {
          begin = (begun_are on k.before n l behind.old).0;
          items = line-items rs on k n l done rest behind all are;
          written = row-written bytes on k n l h.0.whole h.0.seats;
          left = λ e. (left_is on k.before n l e).1;
        },
        rows-are on (done ++ r ∷ []) (known_after on k r) (suc n) ls (behind-next on k n l done behind) (all ∙ sym (append_assoc done (r ∷ []) rest)) (open-items rs on k n l done rest behind all are) h.1,
      )

  -- ---- how many containers spans are
  deep-one : (d : ℕ) (c : Container) → deep rs d (frames_of c) ≡ suc d
  deep-one d (quote q) = refl
  deep-one d (footnote f) = refl
  deep-one d (item i) = ap (λ b. deep rs (cond b d (suc d)) (record { name = name.ListItem; line = i.line } ∷ [])) (list-is rs bytes i).0

  deep-entered : (d : ℕ) (c : Container) → deep rs d (entered c) ≡ suc d
  deep-entered d (quote q) = refl
  deep-entered d (footnote f) = refl
  deep-entered d (item i) = by (i.list == i.line)
    where
      by : (x : Bool) → deep rs d (cond x (record { name = list_name i; line = i.list } ∷ []) [] ++ record { name = name.ListItem; line = i.line } ∷ []) ≡ suc d
      by true = ap (λ b. deep rs (cond b d (suc d)) (record { name = name.ListItem; line = i.line } ∷ [])) (list-is rs bytes i).0
      by false = refl

  deep-all : (d : ℕ) (cs : List Container) → deep rs d (flat_map frames_of cs) ≡ d + length cs
  deep-all d [] = omega arith
  deep-all d (c ∷ cs) =
      let one : suc d + length cs ≡ d + suc (length cs) = omega arith in
      deep-both rs d (frames_of c) (flat_map frames_of cs) ∙ ap (λ e. deep rs e (flat_map frames_of cs)) (deep-one d c) ∙ deep-all (suc d) cs ∙ one

  deep-list : (d : ℕ) (ps : List Prefix) → deep rs d (list_begun ps) ≡ d
  deep-list d [] = refl
  deep-list d (p ∷ ps) = by p.container
    where
      by : (c : Container) → deep rs d (elim c as (λ _. List Frame) [ quote q ↦ [] | item i ↦ cond (nat_lt i.list i.line) (record { name = list_name i; line = i.list } ∷ []) [] | footnote f ↦ [] ]) ≡ d
      by (quote q) = refl
      by (footnote f) = refl
      by (item i) = cond_both (nat_lt i.list i.line) (record { name = list_name i; line = i.list } ∷ []) [] (λ fs. deep rs d fs ≡ d) (λ e. ap (λ b. cond b d (suc d)) (list-is rs bytes i).0) (λ e. refl)

  -- ---- what begins in a line
  -- items that begin behind so many containers are of lists with their markers
  abbrev AreListed : ℕ → List Prefix → Type 0
  AreListed d ps = (e : ℕ) (i : Item) → slice_get (containers_of ps) e ≡ Some (item i) → marker_at rs (d + e) i.list ≡ marker_of i.marker

  listed-behind : (d e : ℕ) (p : Prefix) (ps : List Prefix) → e ≡ suc d → AreListed d (p ∷ ps) → AreListed e ps
  listed-behind d e p ps is h at i there =
      let same : e + at ≡ d + suc at = omega (arith, is) in
      ap (λ k. marker_at rs k i.list) same ∙ h (suc at) i there

  first-listed : (d : ℕ) (i : Item) (ps : List Prefix) (size : ℕ) → AreListed d (record { container = item i; size = size } ∷ ps) → marker_at rs d i.list ≡ marker_of i.marker
  first-listed d i ps size h =
      let same : d ≡ d + 0 = omega arith in
      ap (λ k. marker_at rs k i.list) same ∙ h 0 i refl

  begins-own : (n d : ℕ) (around : List (Option Marker)) (c : Container) (size : ℕ) (ps : List Prefix) (seats : List Seat) → AreWritten bytes (record { container = c; size = size } ∷ ps) seats → BeginsIn n c × BeginsList c
      → AreListed d (record { container = c; size = size } ∷ ps) → Begins rs bytes d around c (take size seats)
  begins-own n d around (quote q) size ps seats w b h = tt
  begins-own n d around (footnote f) size ps seats w b h = tt
  begins-own n d around (item i) size ps seats w b h = record {
    written = w.0.0;
    named = w.0.1;
    at = first-listed d i ps size h;
    goes = λ e. absurd (false≢true (sym e ∙ eq-eqb i.list i.line b.1));
  }

  further-begin : (n d : ℕ) (around : List (Option Marker)) (ps : List Prefix) (seats : List Seat) → AreWritten bytes ps seats → AllByRecursion (λ (q : Prefix). BeginsIn n q.container × BeginsList q.container) ps → AreListed d ps → AllBegin rs bytes d around ps seats
  further-begin n d around [] seats w b h = tt
  further-begin n d around (p ∷ ps) seats w b h = (
    begins-own n d around p.container p.size ps seats w b.0 h,
    further-begin n (deep rs d (entered p.container)) (within rs d around (entered p.container)) ps (drop p.size seats) w.1 b.1 (listed-behind d (deep rs d (entered p.container)) p ps (deep-entered d p.container) h),
  )

  deep-kept : (went : List Container) (ps : List Prefix) → deep rs 0 (flat_map frames_of went ++ list_begun ps) ≡ length went
  deep-kept went ps =
      let none : 0 + length went ≡ length went = omega arith in
      deep-both rs 0 (flat_map frames_of went) (list_begun ps) ∙ deep-list (deep rs 0 (flat_map frames_of went)) ps ∙ deep-all 0 went ∙ none

  -- the list around an item that is not its first
  in-list : (went : List Container) (i : Item) → nat_lt i.list i.line ≡ true → marker_at rs (length went) i.list ≡ marker_of i.marker
      → IsIn bytes (within rs 0 [] (flat_map frames_of went ++ cond (nat_lt i.list i.line) (record { name = list_name i; line = i.list } ∷ []) [])) (marker_of i.marker)
  in-list went i less h =
      let frame : Frame = record { name = list_name i; line = i.list } in
      let flat = flat_map frames_of went in
      let none : 0 + length went ≡ length went = omega arith in
      let marker : marker_in rs (deep rs 0 flat) frame ≡ marker_of i.marker = ap (λ b. cond b (marker_at rs (deep rs 0 flat) i.list) None) (list-is rs bytes i).0 ∙ ap (λ d. marker_at rs d i.list) (deep-all 0 went ∙ none) ∙ h in
      let around : within rs 0 [] (flat ++ cond (nat_lt i.list i.line) (frame ∷ []) []) ≡ marker_in rs (deep rs 0 flat) frame ∷ within rs 0 [] flat =
      ap (λ b. within rs 0 [] (flat ++ cond b (frame ∷ []) [])) less ∙ within-both rs 0 [] flat (frame ∷ []) in
      subst (λ a. IsIn bytes a (marker_of i.marker)) (sym around) (sym marker)

  first-begins : (n : ℕ) (went : List Container) (c : Container) (size : ℕ) (ps : List Prefix) (seats : List Seat) → BeginsIn n c → AreWritten bytes (record { container = c; size = size } ∷ ps) seats → AreListed (length went) (record { container = c; size = size } ∷ ps)
      → let kept = flat_map frames_of went ++ list_begun (record { container = c; size = size } ∷ ps) in Begins rs bytes (deep rs 0 kept) (within rs 0 [] kept) c (take size seats)
  first-begins n went (quote q) size ps seats b w h = tt
  first-begins n went (footnote f) size ps seats b w h = tt
  first-begins n went (item i) size ps seats b w h = record {
    written = w.0.0;
    named = w.0.1;
    at = ap (λ d. marker_at rs d i.list) (deep-kept went (record { container = item i; size = size } ∷ ps)) ∙ first-listed (length went) i ps size h;
    goes = λ e. in-list went i (later e) (first-listed (length went) i ps size h);
  }
    where
      later : (i.list == i.line) ≡ false → nat_lt i.list i.line ≡ true
      later e = let le = b.1.list in grind (arith, nat_tests)

  all-begin : (n : ℕ) (went : List Container) (ps : List Prefix) (seats : List Seat) → BeginHere n ps → AreWritten bytes ps seats → AreListed (length went) ps → let kept = flat_map frames_of went ++ list_begun ps in AllBegin rs bytes (deep rs 0 kept) (within rs 0 [] kept) ps seats
  all-begin n went [] seats b w h = tt
  all-begin n went (p ∷ ps) seats b w h =
      let kept = flat_map frames_of went ++ list_begun (p ∷ ps) in
      let d = deep rs 0 kept in
      let next : deep rs d (entered p.container) ≡ suc (length went) = deep-entered d p.container ∙ ap suc (deep-kept went (p ∷ ps)) in (
        first-begins n went p.container p.size ps seats b.0 w h,
        further-begin n (deep rs d (entered p.container)) (within rs d (within rs 0 [] kept) (entered p.container)) ps (drop p.size seats) w.1 b.1 (listed-behind (length went) (deep rs d (entered p.container)) p ps next h),
      )

  row-listed : (r : Row) → RowIs r → AreListed (length (containers_of r.went_on)) r.begun
  row-listed r h e i at =
      let d = length (containers_of r.went_on) + e in
      let there : slice_get (containers_in r) d ≡ Some (item i) = slice_get-behind (containers_of r.went_on) (containers_of r.begun) e ∙ at in
      let o = h.items d i there in
      ap (option_and_then (λ row. option_and_then container_marker (slice_get (containers_in row) d))) o.line ∙ ap (option_and_then container_marker) o.stands ∙ ap marker_of (sym o.marker)

  -- ---- sections
  -- nothing begins in a line, or the line stands in all its containers
  abbrev RowFits : List Frame → Row → Type 0
  RowFits fs r = (has_none r.begun ≡ true) ⊎ (RowIs r × (fs ≡ flat_map frames_of (containers_in r)))

  abbrev SectionFits : Section → Type 0
  SectionFits s = RowFits s.part.frames s.part.first

  same-front : (xs ys zs : List Frame) → xs ++ zs ≡ ys ++ zs → xs ≡ ys
  same-front xs ys zs e =
      let a = length-append xs zs in
      let b = length-append ys zs in
      let all = ap (λ (l : List Frame). length l) e in
      let same : length xs ≡ length ys = omega (arith, a, b, all) in
      sym (take_front xs zs (length xs) refl).0 ∙ ap (take (length xs)) e ∙ (take_front ys zs (length xs) same).0

  section-is : (fs : List Frame) (s : Section) → Turn fs s.part.frames s.part.first.begun → SectionFits s → SectionIs rs bytes fs s
  section-is fs s turn (inl none) = record {
    turn = turn;
    begins = subst (λ (ps : List Prefix). AllBegin rs bytes (deep rs 0 turn.kept) (within rs 0 [] turn.kept) ps (drop (columns_of s.part.first.went_on) s.part.first.line)) (sym (none_is s.part.first.begun none)) tt;
  }
  section-is fs s turn (inr h) =
      let r = s.part.first in
      let went = flat_map frames_of (containers_of r.went_on) in
      let is : turn.kept ≡ went ++ list_begun r.begun =
      same-front turn.kept (went ++ list_begun r.begun) (all_entered r.begun)
      (sym turn.after_are ∙ h.1 ∙ flat_map-append frames_of (containers_of r.went_on) (containers_of r.begun) ∙ ap (λ l. went ++ l) (begun_entered r.number r.begun h.0.begin) ∙ sym (append_assoc went (list_begun r.begun) (all_entered r.begun))) in
      record {
        turn = turn;
        begins = subst (λ (l : List Frame). AllBegin rs bytes (deep rs 0 l) (within rs 0 [] l) r.begun (drop (columns_of r.went_on) r.line)) (sym is)
            (all-begin r.number (containers_of r.went_on) r.begun (drop (columns_of r.went_on) r.line) h.0.begin h.0.written (row-listed r h.0));
      }

  all-are : (fs : List Frame) (ss : List Section) → AreCut bytes fs ss → AllByRecursion SectionFits ss → SectionsAre rs bytes fs ss
  all-are fs [] c h = tt
  all-are fs (s ∷ ss) c h = (section-is fs s c.0 h.0, all-are s.part.frames ss c.2 h.1)

  -- ---- parts
  first-fits : (r : Row) (behind : List Row) → RowIs r → RowFits (frames_at r behind) r
  first-fits r behind h = by (has_none r.begun) refl
    where
      by : (x : Bool) → has_none r.begun ≡ x → RowFits (frames_at r behind) r
      by true e = inl e
      by false e =
          let left : r.is_left_blank ≡ false = false_from_ne_true r.is_left_blank (λ l. false≢true (sym e ∙ h.left l)) in
          let stands : standing r behind ≡ containers_in r = standing_begun r behind h.begin e in
          inr (h, ap (λ b. flat_map frames_of (standing r behind) ++ cond (b && (length (standing r behind) == going_on_at behind)) (list_at behind) []) left ∙ append-nil (flat_map frames_of (standing r behind)) ∙ ap (flat_map frames_of) stands)

  parts-fit : (bound : ℕ) (all : List Row) → AllByRecursion RowIs all → AllByRecursion (λ (p : Part). RowFits p.frames p.first) (parts_in bound all)
  parts-fit zero all h = tt
  parts-fit (suc bound) [] h = tt
  parts-fit (suc bound) (r ∷ behind) h =
      let n = cond r.is_blank 0 (further behind) in
      (first-fits r behind h.0, parts-fit bound (drop n behind) (every-drop RowIs n behind h.1))

  sections-fit : (fs : List Frame) (ss : List Section) → AllByRecursion (InFrames fs) ss → AllByRecursion (RowFits fs) (rows_of ss) → AllByRecursion SectionFits ss
  sections-fit fs [] h k = tt
  sections-fit fs (s ∷ ss) h k = (subst (λ (l : List Frame). RowFits l s.part.first) (sym h.0) k.0, sections-fit fs ss h.1 (every-back (RowFits fs) s.part.more (rows_of ss) k.1))

  cut-fits : (on : Constructs) (p : Part) → RowFits p.frames p.first → AllByRecursion (λ (r : Row). has_none r.begun ≡ true) p.more → AllByRecursion SectionFits (cut on p)
  cut-fits on p h none =
      let all : AllByRecursion (RowFits p.frames) (all_rows p) = (h, every-map (λ (r : Row). has_none r.begun ≡ true) (RowFits p.frames) (λ r e. inl e) p.more none) in
      sections-fit p.frames (cut on p)
      (cond_both p.first.is_blank (record { part = p; inside = lines false } ∷ []) (in_cuts on p) (AllByRecursion (InFrames p.frames)) (λ e. (refl, tt)) (λ e. part-in p.frames on p refl))
      (subst (AllByRecursion (RowFits p.frames)) (sym (part-lines on p)) all)

  all-fit : (on : Constructs) (fs : List Frame) (ps : List Part) → AreTurned fs ps → AllByRecursion (λ (p : Part). RowFits p.frames p.first) ps → AllByRecursion SectionFits (flat_map (cut on) ps)
  all-fit on fs [] t h = tt
  all-fit on fs (p ∷ ps) t h = every-append SectionFits (cut on p) (flat_map (cut on) ps) (cut-fits on p h.0 t.0.none_begin) (all-fit on p.frames ps t.1 h.1)

-- ---- the lists of a document
both-are : (rs : List Row) (bytes : List ℕ) (ls : List Line) → AllByRecursion IsWhole ls → AllByRecursion (AllByRecursion (IsByte bytes)) ls → AllByRecursion (LineIs rs bytes) ls
both-are rs bytes [] h k = tt
both-are rs bytes (l ∷ ls) h k = (record { whole = h.0; seats = k.0 }, both-are rs bytes ls h.1 k.1)

skeleton-is-marked : (g : Given) → AreMarked g.bytes [] (document_skeleton g)
skeleton-is-marked g =
    let on = g.options.constructs in
    let seats = virtual g.tab g.bytes in
    let ls = lines_in seats in
    let rs = rows on ls in
    let all = rows-are rs g.bytes on [] (nothing on) 1 ls (first-behind on) refl (λ d j h. absurd (none-some (item j) h)) (both-are rs g.bytes ls (whole-lines seats) (lines_each (IsByte g.bytes) seats (bytes-virtual g.bytes g.tab))) in
    let fit = all-fit rs g.bytes on [] (parts rs) (document_turned on (known-reads on) (nothing on) ls refl refl) (parts-fit rs g.bytes (length rs) rs all) in
    sections-are-marked rs g.bytes (sections on rs) (all-are rs g.bytes [] (sections on rs) (document-cut g.bytes on ls (document_lines g.tab g.bytes)) fit) 0 None

pub lists-are-of-one-type : ListsAreOfOneType
lists-are-of-one-type g at list is = lists-are g.bytes (document_skeleton g) at list (skeleton-is-marked g) is

pub lists-are-named-by-markers : ListsAreNamedByMarkers
lists-are-named-by-markers g at list = (
  lists-named g.bytes name.ListOrdered (document_skeleton g) at list refl (skeleton-is-marked g),
  lists-named g.bytes name.ListUnordered (document_skeleton g) at list refl (skeleton-is-marked g),
)
