-- A part of a document: its marks are over its virtual bytes, and enter the spans that begin in it.
use Rattle.markdown_base.proofs.Orders.{InOrder, order-both}
use Rattle.std.proofs.Common.{◌≡◌, ℕ, zero, suc, ◌+◌, ◌-◌, ◌≤◌, Bool, true, false, cond, List, [], ◌∷◌, ◌++◌, length, take, drop, map, refl, sym, ap, ◌∙◌, subst, arith, append_assoc}
use Rattle.std.specs.Prelude.{◌==◌, reverse, None, Some}
use Rattle.std.specs.List.{AllByRecursion}
use Rattle.std.proofs.lemmas.List.{append-nil, length-drop, length-map, map-append, reverse-append, take-append-drop}
use Rattle.std.proofs.lemmas.List.Sums.{sum_by-cons}
use Rattle.markdown_base.proofs.Common.{every-append}
use Rattle.markdown_base.proofs.Seats.{end-after-append, stands-self}
use Rattle.markdown_base.specs.declared.configuration.Constructs.{Constructs}
use Rattle.markdown_base.specs.declared.event.Event.{Event}
use Rattle.markdown_base.specs.declared.event.Kind.TheVariants.{Enter, Exit}
use Rattle.markdown_base.specs.declared.event.Name.{Name}
use Rattle.markdown_base.specs.declared.event.Name.TheVariants as name
use Rattle.markdown_base.specs.declared.event.Point.{Point}
use Rattle.markdown_base.specs.Places.{shown, stands_before}
use Rattle.markdown_base.specs.Virtual.{Seat, end_after}
use Rattle.markdown_base.proofs.Balanced.{names_after_all-append, same_name-refl}
use Rattle.markdown_base.specs.OpenNames.{names_after_all}
use Rattle.mdblock_leaf_blocks.proofs.Lines.WholeLines.{IsWhole, whole-behind, whole-front}
use Rattle.mdblock_leaf_blocks.proofs.Marks.Courses.{Place, Track, track-on, track-place}
use Rattle.mdblock_leaf_blocks.proofs.Marks.MarkAccounts.{bare}
use Rattle.mdblock_leaf_blocks.proofs.Marks.MarkForms.{Forms}
use Rattle.mdblock_leaf_blocks.specs.LeafBlocks.{Line, text_of}
use Rattle.mdblock_leaf_blocks.specs.LeafEvents.{Mark}
use Rattle.mdblock_leaf_blocks.specs.LineKinds.{is_blank_line}
use Rattle.mdconstructs_machines.specs.LineEvents.{line_text}
use Rattle.mdconstructs_machines.specs.Spans.{event}
use Rattle.mdblock_lines.specs.Containers.{Container, Prefix, footnote, item, quote}
use Rattle.mdblock_containers.proofs.FrameFacts.{all_entered, entered}
use Rattle.mdblock_containers.proofs.Pieces.{Spanned, spanned_formed, spanned_none}
use Rattle.mdblock_containers.proofs.PrefixSpans.{begun_over, begun_unlinked, take_more}
use Rattle.mdblock_containers.proofs.RowFacts.{begun_sizes, columns_within}
use Rattle.mdblock_containers.proofs.SeatFacts.{LineIs}
use Rattle.mdblock_containers.proofs.SkeletonChains.{Runs, Unlinked, idle, runs_both, unlinked_runs}
use Rattle.mdblock_containers.specs.Prefixes.{columns_of}
use Rattle.mdblock_containers.specs.Rows.{Before, Row, known_after, row_of, rows_from}
use Rattle.mdblock_containers.specs.Skeleton.{Frame, begun_all, begun_marks, enters_of, exits, list_name}

-- names of spans that are open, the innermost first
abbrev pub names_of : List Frame → List Name
names_of fs = map (λ f. f.name) (reverse fs)

pub names_both : (fs gs : List Frame) → names_of (fs ++ gs) ≡ names_of gs ++ names_of fs
names_both fs gs = ap (map (λ (f : Frame). f.name)) (reverse-append fs gs) ∙ map-append (λ (f : Frame). f.name) (reverse gs) (reverse fs)

-- ---- lines of a document with what is in front

-- a line is there, and its prefixes are in its text
pub record RowFits (r : Row) : Type 0 where
  pub line : LineIs r.line
  pub columns : r.columns ≡ columns_of r.went_on + columns_of r.begun
  pub within : columns_of r.went_on + columns_of r.begun ≤ length (line_text r.line)
  pub sizes : AllByRecursion (λ (q : Prefix). 1 ≤ q.size) r.begun
  pub blank : r.is_blank ≡ is_blank_line (drop r.columns (text_of r.line))

pub rows_fit : (on : Constructs) (b : Before) (n : ℕ) (ls : List Line) → AllByRecursion LineIs ls → AllByRecursion RowFits (rows_from on b n ls)
rows_fit on b n [] h = tt
rows_fit on b n (l ∷ ls) h =
    let few = columns_within on b n l in
    let size = length-map (line_text l) (λ (s : Seat). s.byte) in (
      record { line = h.0; columns = refl; within = omega (arith, few, size); sizes = begun_sizes on b n l; blank = refl },
      rows_fit on (known_after on b (row_of on b n l)) (suc n) ls h.1,
    )

pub columns_front : (m : ℕ) (ps : List Prefix) → columns_of (take m ps) ≤ columns_of ps
columns_front zero ps = omega arith
columns_front (suc m) [] = omega arith
columns_front (suc m) (p ∷ ps) =
    let a = sum_by-cons (λ (q : Prefix). q.size) p (take m ps) in
    let b = sum_by-cons (λ (q : Prefix). q.size) p ps in
    let rest = columns_front m ps in
    omega (arith, a, b, rest)

module _ (t : ℕ) (bytes : List ℕ) where
  -- Marks between two places, with the spans that are open before and behind them
  pub record Goes (fs : List Frame) (p : Point) (ms : List Mark) (gs : List Frame) (q : Point) : Type 0 where
    pub names : names_after_all (Some (names_of fs)) (bare ms) ≡ Some (names_of gs)
    pub order : InOrder p (bare ms) q
    pub places : AllByRecursion (λ (e : Event). Place t bytes e.point) (bare ms)
    pub runs : Runs ms idle

  pub goes_both : (fs : List Frame) (p : Point) (xs : List Mark) (gs : List Frame) (m : Point) (ys : List Mark) (hs : List Frame) (q : Point) → Goes fs p xs gs m → Goes gs m ys hs q → Goes fs p (xs ++ ys) hs q
  goes_both fs p xs gs m ys hs q h k =
      let all : bare (xs ++ ys) ≡ bare xs ++ bare ys = map-append (λ (x : Mark). x.0) xs ys in
      record {
        names = ap (names_after_all (Some (names_of fs))) all ∙ names_after_all-append (Some (names_of fs)) (bare xs) (bare ys) ∙ ap (λ o. names_after_all o (bare ys)) h.names ∙ k.names;
        order = subst (λ es. InOrder p es q) (sym all) (order-both p (bare xs) m (bare ys) q h.order k.order);
        places = subst (AllByRecursion (λ (e : Event). Place t bytes e.point)) (sym all) (every-append (λ (e : Event). Place t bytes e.point) (bare xs) (bare ys) h.places k.places);
        runs = runs_both xs ys idle h.runs k.runs;
      }

  pub goes_spanned : (fs : List Frame) (p : Point) (ms : List Mark) (q : Point) → Spanned t bytes p ms q → Runs ms idle → Goes fs p ms fs q
  goes_spanned fs p ms q h k = record { names = h.balanced (names_of fs); order = h.order; places = h.places; runs = k }

  pub goes_over : (fs : List Frame) (p : Point) (ms : List Mark) (seats rest : List Seat) → Forms t bytes ms seats → Unlinked ms → Track t bytes p (seats ++ rest) → Goes fs p ms fs (end_after p seats)
  goes_over fs p ms seats rest forms unlinked track = goes_spanned fs p ms (end_after p seats) (spanned_formed t bytes p ms (end_after p seats) (forms p rest track)) (unlinked_runs ms unlinked)

  pub goes_none : (fs : List Frame) (p : Point) → Goes fs p [] fs p
  goes_none fs p = goes_spanned fs p [] p (spanned_none t bytes p) tt

  -- ---- spans of containers begin and end

  module _ (x p : Point) (here : shown bytes x ≡ p) (place : Place t bytes p) where
    pub place_there : Place t bytes (shown bytes x)
    place_there = subst (Place t bytes) (sym here) place

    abbrev pub enter_mark : Name → Mark
    enter_mark n = (event bytes Enter n x, None)

    abbrev pub enter_marks : List Frame → List Mark
    enter_marks fs = map (λ (f : Frame). (event bytes Enter f.name x, None)) fs

    abbrev pub exit_marks : List Frame → List Mark
    exit_marks fs = map (λ (f : Frame). (event bytes Exit f.name x, None)) fs

    pub at_place : (r : Point) (es : List Event) → stands_before (shown bytes x) r ≡ false → InOrder p es p → InOrder (shown bytes x) es p
    at_place r es h k = subst (λ (y : Point). InOrder y es p) (sym here) k

    pub enters_go : (fs ns : List Frame) → Goes fs p (enter_marks ns) (fs ++ ns) p
    enters_go fs [] = subst (λ (gs : List Frame). Goes fs p [] gs p) (sym (append-nil fs)) (goes_none fs p)
    enters_go fs (n ∷ ns) =
        let rest = enters_go (fs ++ n ∷ []) ns in
        let names : names_of (fs ++ n ∷ []) ≡ n.name ∷ names_of fs = names_both fs (n ∷ []) in
        subst (λ (gs : List Frame). Goes fs p (enter_marks (n ∷ ns)) gs p) (append_assoc fs (n ∷ []) ns)
        (record {
          names = ap (λ st. names_after_all (Some st) (bare (enter_marks ns))) (sym names) ∙ rest.names;
          order = (ap (λ r. stands_before r p) here ∙ stands-self p, subst (λ (y : Point). InOrder y (bare (enter_marks ns)) p) (sym here) rest.order);
          places = (place_there, rest.places);
          runs = (refl, rest.runs);
        })

    pub exits_close : (fs : List Frame) (st : List Name) → names_after_all (Some (map (λ (f : Frame). f.name) fs ++ st)) (bare (exit_marks fs)) ≡ Some st
    exits_close [] st = refl
    exits_close (f ∷ fs) st = ap (λ b. names_after_all (cond b (Some (map (λ (g : Frame). g.name) fs ++ st)) None) (bare (exit_marks fs))) (same_name-refl f.name) ∙ exits_close fs st

    pub exits_order : (fs : List Frame) → InOrder p (bare (exit_marks fs)) p
    exits_order [] = stands-self p
    exits_order (f ∷ fs) = (ap (λ r. stands_before r p) here ∙ stands-self p, subst (λ (y : Point). InOrder y (bare (exit_marks fs)) p) (sym here) (exits_order fs))

    pub exits_places : (fs : List Frame) → AllByRecursion (λ (e : Event). Place t bytes e.point) (bare (exit_marks fs))
    exits_places [] = tt
    exits_places (f ∷ fs) = (place_there, exits_places fs)

    pub exits_runs : (fs : List Frame) → Runs (exit_marks fs) idle
    exits_runs [] = tt
    exits_runs (f ∷ fs) = (refl, exits_runs fs)

    pub exits_go : (kept ended : List Frame) → Goes (kept ++ ended) p (exits bytes ended x) kept p
    exits_go kept ended = record {
      names = ap (λ st. names_after_all (Some st) (bare (exit_marks (reverse ended)))) (names_both kept ended) ∙ exits_close (reverse ended) (names_of kept);
      order = exits_order (reverse ended);
      places = exits_places (reverse ended);
      runs = exits_runs (reverse ended);
    }

    pub enters_are : (c : Container) → enters_of bytes c x ≡ enter_marks (entered c)
    enters_are (quote q) = refl
    enters_are (footnote f) = refl
    enters_are (item i) = by (i.list == i.line)
      where
        by : (b : Bool) → cond b (enter_mark (list_name i) ∷ []) [] ++ enter_mark name.ListItem ∷ [] ≡ enter_marks (cond b (record { name = list_name i; line = i.list } ∷ []) [] ++ record { name = name.ListItem; line = i.line } ∷ [])
        by true = refl
        by false = refl

    pub container_enters : (fs : List Frame) (c : Container) → Goes fs p (enters_of bytes c x) (fs ++ entered c) p
    container_enters fs c = subst (λ (ms : List Mark). Goes fs p ms (fs ++ entered c) p) (sym (enters_are c)) (enters_go fs (entered c))

  -- containers that begin, each with its prefix
  pub begun_goes : (ps : List Prefix) (fs : List Frame) (p : Point) (ss rest : List Seat) → AllByRecursion (λ (q : Prefix). 1 ≤ q.size) ps → columns_of ps ≤ length ss → IsWhole ss → Track t bytes p (ss ++ rest)
      → Goes fs p (begun_all bytes ps ss) (fs ++ all_entered ps) (end_after p (take (columns_of ps) ss))
  begun_goes [] fs p ss rest sizes few w track = subst (λ (gs : List Frame). Goes fs p [] gs p) (sym (append-nil fs)) (goes_none fs p)
  begun_goes (c ∷ ps) fs p [] rest sizes few w track =
      let all : columns_of (c ∷ ps) ≡ c.size + columns_of ps = sum_by-cons (λ (q : Prefix). q.size) c ps in
      let some = sizes.0 in
      absurd (omega (arith, few, all, some))
  begun_goes (c ∷ ps) fs p (s ∷ ss) rest sizes few w track =
      let seats = s ∷ ss in
      let all : columns_of (c ∷ ps) ≡ c.size + columns_of ps = sum_by-cons (λ (q : Prefix). q.size) c ps in
      let left : length (drop c.size seats) ≡ length seats - c.size = length-drop c.size seats in
      let whole : seats ++ rest ≡ take c.size seats ++ (drop c.size seats ++ rest) = ap (λ l. l ++ rest) (sym (take-append-drop c.size seats)) ∙ append_assoc (take c.size seats) (drop c.size seats) rest in
      let track0 = subst (Track t bytes p) whole track in
      let a = end_after p (take c.size seats) in
      let track1 : Track t bytes a (drop c.size seats ++ rest) = track-on t bytes p (take c.size seats) (drop c.size seats ++ rest) track0 in
      let gs = fs ++ entered c.container in
      let enters = container_enters s.point p track.1.meets (track-place t bytes p (seats ++ rest) track) fs c.container in
      let prefix = goes_over gs p (begun_marks bytes c.container (take c.size seats)) (take c.size seats) (drop c.size seats ++ rest) (begun_over bytes t c.container (take c.size seats) (whole-front c.size seats w)) (begun_unlinked bytes c.container (take c.size seats)) track0 in
      let others = begun_goes ps gs a (drop c.size seats) rest sizes.1 (omega (arith, few, all, left)) (whole-behind c.size seats w) track1 in
      let end : end_after a (take (columns_of ps) (drop c.size seats)) ≡ end_after p (take (columns_of (c ∷ ps)) seats) =
      sym (end-after-append p (take c.size seats) (take (columns_of ps) (drop c.size seats))) ∙ ap (end_after p) (take_more c.size (columns_of ps) seats ∙ ap (λ k. take k seats) (sym all)) in
      let b = end_after a (take (columns_of ps) (drop c.size seats)) in
      subst (λ q. Goes fs p (begun_all bytes (c ∷ ps) seats) (fs ++ all_entered (c ∷ ps)) q) end
      (subst (λ (hs : List Frame). Goes fs p (begun_all bytes (c ∷ ps) seats) hs b) (append_assoc fs (entered c.container) (all_entered ps))
      (goes_both fs p (enters_of bytes c.container s.point) gs p (begun_marks bytes c.container (take c.size seats) ++ begun_all bytes ps (drop c.size seats)) (gs ++ all_entered ps) b enters
      (goes_both gs p (begun_marks bytes c.container (take c.size seats)) gs a (begun_all bytes ps (drop c.size seats)) (gs ++ all_entered ps) b prefix others)))
