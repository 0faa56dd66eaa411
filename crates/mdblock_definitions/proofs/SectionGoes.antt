-- The sections of a document, one behind another: their marks go over all its virtual bytes, and leave no span open.
use Rattle.std.proofs.Common.{◌≡◌, ◌⊎◌, inl, inr, ℕ, zero, suc, ◌+◌, ◌≤◌, Bool, true, false, cond, List, [], ◌∷◌, ◌++◌, append-nil, append_assoc, arith, drop, length, map, refl, sym, ap, subst, take, ◌∙◌}
use Rattle.std.specs.Prelude.{◌&&◌, not}
use Rattle.std.specs.List.{AllByRecursion}
use Rattle.std.proofs.lemmas.Bool.{false≢true}
use Rattle.std.proofs.lemmas.Grind.{flat_map-append}
use Rattle.std.proofs.lemmas.List.{drop-append-le, drop-map, length-append, length-map, map-append, take-append-drop, take_all}
use Rattle.std.proofs.Math.Bool.{and-false}
use Rattle.markdown_base.proofs.Seats.{end-after-append}
use Rattle.markdown_base.specs.declared.configuration.Constructs.{Constructs}
use Rattle.markdown_base.specs.declared.event.Point.{Point}
use Rattle.markdown_base.specs.Places.{shown}
use Rattle.markdown_base.specs.Virtual.{Seat, end_after}
use Rattle.markdown_tokenizer.proofs.Positions.Order.{every-back, every-front}
use Rattle.mdconstructs_tables.specs.Breaks.{is_white}
use Rattle.mdconstructs_machines.specs.LineEvents.{all_of, ending_of, line_text}
use Rattle.mdblock_leaf_blocks.proofs.Marks.Courses.{Track, track-on, track-place}
use Rattle.mdblock_leaf_blocks.proofs.Marks.MarkForms.{Forms}
use Rattle.mdblock_leaf_blocks.specs.LeafBlocks.{Line, bytes_of}
use Rattle.mdblock_leaf_blocks.specs.LeafEvents.{Mark, white}
use Rattle.mdblock_leaf_blocks.specs.LineKinds.{indent, is_blank_line}
use Rattle.markdown_base.specs.declared.event.Name.TheVariants as name
use Rattle.mdblock_lines.specs.Containers.{Container, Prefix}
use Rattle.mdblock_containers.proofs.FrameFacts.{all_entered, some_more, take_front}
use Rattle.mdblock_containers.proofs.PartGoes.{PartIs, all_are, chunks_go, columns_few, cut, cut_is, end_of_rows, ending_goes, ending_seats, first_piece, front_goes, front_is, front_marks, inside_goes, lines_end_behind, lines_end_front, lines_of, none_front, other_pieces, pieces_over, pieces_split, seats_of}
use Rattle.mdblock_containers.proofs.PartSpans.{Goes, RowFits, exits_go, goes_both, goes_none, goes_over}
use Rattle.mdblock_containers.proofs.Pieces.{AreJoined, EndsLine, pieces_joined}
use Rattle.mdblock_containers.proofs.SeatFacts.{LineIs, LinesEnd, line_front}
use Rattle.mdblock_containers.specs.Prefixes.{columns_of, containers_of}
use Rattle.mdblock_containers.specs.Rows.{Leaf, Row, has_none, holds_ending, is_paragraph, rest_of}
use Rattle.mdblock_containers.specs.Skeleton.{Frame, Part, Piece, begun_all, chunks_of, end_of, ending_marks, exits, inside_of, is_held, joined_pieces, last_of, pieces_of, prefixes_marks, shared}
use Rattle.mdblock_table_marks.proofs.TableShapes.{tables-are-shaped, tables-keep}
use Rattle.mdblock_table_marks.specs.TableMarks.{rows_seats, table_marks}
use Rattle.mdinline_labels.specs.declared.definitions.Definition.{Definition}
use Rattle.mdblock_definitions.specs.Definitions.{definitions_marks, places_in, seats_of as place_seats}
use Rattle.mdblock_definitions.specs.Rows.{rows}
use Rattle.mdblock_definitions.specs.Sections.{Inside, Section, defined, lines, sections, table}
use Rattle.mdblock_definitions.specs.Skeleton.{all_rows, behind_definitions, behind_marks, inside_marks, section_marks, sections_marks}
use Rattle.mdblock_definitions.proofs.Covered.{rows_of}
use Rattle.mdblock_definitions.proofs.DefinitionLines.{AreDefined}
use Rattle.mdblock_definitions.proofs.DefinitionMarks.{definitions-are-shaped, definitions-form, forms-kept-by, seats-are}
use Rattle.mdblock_definitions.proofs.KnownLemmas.{paragraph-is}
use Rattle.mdblock_definitions.proofs.TableSeats.{rows-are-places}
use Rattle.mdblock_definitions.proofs.SectionTurns.{AreCut, InsideIs, RowIs, SectionIs, all-of-sections, document-cut, document-lines, rows-fit}
use Rattle.mdblock_containers.proofs.PrefixSpans.{leaf_is_unlinked}

-- a part, with as many containers as go on at its first line
pub record Fitted (t : ℕ) (bytes : List ℕ) (p : Part) : Type 0 where
  pub stands : List Container
  pub is : PartIs t bytes (record p { stands = stands })
  pub same : take (length stands) p.first.went_on ≡ take (length p.stands) p.first.went_on

-- ---- where a line ends

-- behind all but the last virtual bytes of a line it ends where the line does
ends-behind : (t : ℕ) (bytes : List ℕ) (c : ℕ) (ss : List Seat) (ps : List (Piece bytes)) → has_none (drop c ss) ≡ false → EndsLine t bytes ss ps → EndsLine t bytes (drop c ss) ps
ends-behind t bytes c ss [] some h = tt
ends-behind t bytes c ss (q ∷ qs) some h = on c ss some h
  where
    on : (c : ℕ) (ss : List Seat) → has_none (drop c ss) ≡ false → ((p : Point) → (end_after p ss).column ≡ 1) → (p : Point) → (end_after p (drop c ss)).column ≡ 1
    on zero ss some h p = h p
    on (suc c) [] some h p = absurd (false≢true (sym some))
    on (suc zero) (s ∷ []) some h p = absurd (false≢true (sym some))
    on (suc (suc c)) (s ∷ []) some h p = absurd (false≢true (sym some))
    on (suc c) (s ∷ r ∷ ss) some h p = on c (r ∷ ss) some (λ q. h q) p

-- a text that is not blank has a byte behind its white space
some-behind : (t : List ℕ) → is_blank_line t ≡ false → has_none (drop (indent t) t) ≡ false
some-behind [] e = absurd (false≢true (sym e))
some-behind (b ∷ bs) e = by (some-behind bs) (is_white b) e
  where
    by : (is_blank_line bs ≡ false → has_none (drop (indent bs) bs) ≡ false) → (x : Bool) → (x && is_blank_line bs) ≡ false → has_none (drop (cond x (1 + indent bs) 0) (b ∷ bs)) ≡ false
    by rest true e = let on : 1 + indent bs ≡ suc (indent bs) = omega arith in ap (λ n. has_none (drop n (b ∷ bs))) on ∙ rest e
    by rest false e = refl

none-mapped : {A B : Type 0} (f : A → B) (xs : List A) → has_none (map f xs) ≡ has_none xs
none-mapped f [] = refl
none-mapped f (x ∷ xs) = refl

-- what is left behind so many
some-left : (n : ℕ) (xs : List Seat) → has_none (drop n xs) ≡ false → n ≤ length xs
some-left zero xs h = omega arith
some-left (suc n) [] h = absurd (false≢true (sym h))
some-left (suc n) (x ∷ xs) h = let few = some-left n xs h in omega (arith, few)

more-left : (n : ℕ) (xs ys : List Seat) → has_none (drop n xs) ≡ false → has_none (drop n (xs ++ ys)) ≡ false
more-left n xs ys h = ap has_none (drop-append-le n xs ys (some-left n xs h)) ∙ some_more (drop n xs) ys h

module _ (t : ℕ) (bytes : List ℕ) where
  -- ---- one section

  module _ (s : Section) (is : SectionIs bytes s) (fits : AllByRecursion RowIs (all_rows s.part)) (ends : LinesEnd (lines_of (all_rows s.part))) where
    abbrev p : Part
    p = s.part

    abbrev r : Row
    r = p.first

    pub first-fits : RowFits r
    first-fits = fits.0.fits

    pub others-fit : AllByRecursion RowFits p.more
    others-fit = rows-fit p.more fits.1

    pub fitted : Fitted t bytes p
    fitted = by r.is_blank (has_none r.begun) refl refl
      where
        whole : (r.is_blank ≡ false) ⊎ (has_none r.begun ≡ false) → Fitted t bytes p
        whole e =
            let all = containers_of r.went_on ++ containers_of r.begun in
            let both = length-append (containers_of r.went_on) (containers_of r.begun) in
            let went = length-map r.went_on (λ (q : Prefix). q.container) in
            let few = is.narrow e in
            record {
              stands = all;
              is = record { first = first-fits; others = others-fit; none_begin = is.none_begin; ends = ends; stands = λ k. refl; alone = is.alone };
              same = take_all (length all) r.went_on (omega (arith, both, went)) ∙ sym (take_all (length p.stands) r.went_on few);
            }

        by : (x y : Bool) → r.is_blank ≡ x → has_none r.begun ≡ y → Fitted t bytes p
        by false y e f = whole (inl e)
        by true false e f = whole (inr f)
        by true true e f = record {
          stands = p.stands;
          is = record {
            first = first-fits;
            others = others-fit;
            none_begin = is.none_begin;
            ends = ends;
            stands = λ k. absurd (elim k [ inl other ↦ false≢true (sym other ∙ e) | inr some ↦ false≢true (sym some ∙ f) ]);
            alone = is.alone;
          };
          same = refl;
        }

    -- the part of it that fits
    abbrev pub part : Part
    part = record p { stands = fitted.stands }

    abbrev pub part-is : PartIs t bytes part
    part-is = fitted.is

    abbrev pub seats : List Seat
    seats = seats_of (is_held p) r p.more

    abbrev pub ending : List Seat
    ending = ending_seats (is_held p) r p.more

    -- behind its prefixes
    abbrev pub inner : List Seat
    inner = drop (cut t bytes part part-is) seats

    -- marks over what is behind its prefixes
    abbrev GoOver : List Mark → Type 0
    GoOver ms = (fs : List Frame) (a : Point) (rest : List Seat) → Track t bytes a (inner ++ rest) → Goes t bytes fs a ms fs (end_after a inner)

    -- the prefixes, and marks over what is behind them
    whole-goes : (ms : List Mark) → GoOver ms → (kept : List Frame) (a : Point) (rest : List Seat) → Track t bytes a (seats ++ (ending ++ rest))
        → Goes t bytes kept a (prefixes_marks bytes (take (length p.stands) r.went_on) r.line ++ (begun_all bytes r.begun (drop (columns_of r.went_on) r.line) ++ ms)) (kept ++ all_entered r.begun) (end_after a seats)
    whole-goes ms over kept a rest track =
        let n = cut t bytes part part-is in
        let line = r.line in
        let others = all_of (lines_of p.more) in
        let whole : seats ++ (ending ++ rest) ≡ line ++ (others ++ rest) = sym (append_assoc seats ending rest) ∙ ap (λ l. l ++ rest) (all_are t bytes part part-is) ∙ append_assoc line others rest in
        let gs = kept ++ all_entered r.begun in
        let b = end_after a (take n line) in
        let front = front_goes t bytes part part-is kept a (others ++ rest) (subst (Track t bytes a) whole track) in
        let split : seats ≡ take n line ++ inner = sym (take-append-drop n seats) ∙ ap (λ l. l ++ inner) (front_is t bytes part part-is) in
        let behind : seats ++ (ending ++ rest) ≡ take n line ++ (inner ++ (ending ++ rest)) = ap (λ l. l ++ (ending ++ rest)) split ∙ append_assoc (take n line) inner (ending ++ rest) in
        let track1 : Track t bytes b (inner ++ (ending ++ rest)) = track-on t bytes a (take n line) (inner ++ (ending ++ rest)) (subst (Track t bytes a) behind track) in
        let end : end_after b inner ≡ end_after a seats = sym (end-after-append a (take n line) inner) ∙ ap (end_after a) (sym split) in
        let inside : Goes t bytes gs b ms gs (end_after a seats) = subst (Goes t bytes gs b ms gs) end (over gs b (ending ++ rest) track1) in
        let went = prefixes_marks bytes (take (length part.stands) r.went_on) line in
        let begun = begun_all bytes r.begun (drop (columns_of r.went_on) line) in
        subst (λ (l : List Prefix). Goes t bytes kept a (prefixes_marks bytes l line ++ (begun ++ ms)) gs (end_after a seats)) fitted.same
        (subst (λ (l : List Mark). Goes t bytes kept a l gs (end_after a seats)) (append_assoc went begun ms) (goes_both t bytes kept a (front_marks t bytes part part-is) gs b ms gs (end_after a seats) front inside))

    -- ---- what is in it

    -- lines that leaf blocks are read from, or a blank line
    lines-go : GoOver (inside_of bytes p)
    lines-go fs a rest track =
        let by = λ (l : List Prefix). cond r.is_blank (white bytes (line_text (drop (cond (has_none r.begun) (columns_of l) r.columns) r.line)))
        (elim (joined_pieces bytes (pieces_of bytes (is_held p) r p.more)) as (λ _. List Mark) [ [] ↦ [] | x ∷ xs ↦ chunks_of bytes false (record x { before = [] } ∷ xs) ]) in
        subst (λ (ms : List Mark). Goes t bytes fs a ms fs (end_after a inner)) (ap by fitted.same) (inside_goes t bytes part part-is fs a rest track)

    -- what is not blank
    module _ (filled : r.is_blank ≡ false) where
      cut-is : cut t bytes part part-is ≡ r.columns
      cut-is = cut_is t bytes part part-is filled

      -- Text directly behind definitions: its white space, and pieces behind it
      pub record TextBehind : Type 0 where
        pub front : List Seat
        pub piece : Piece bytes
        pub others : List (Piece bytes)
        pub behind : List Seat
        pub marks : behind_definitions bytes p ≡ white bytes front ++ chunks_of bytes false (record piece { before = [] } ∷ others)
        pub joined : AreJoined t bytes (piece ∷ others) piece.before behind piece.seats
        pub some : has_none piece.seats ≡ false
        pub splits : inner ≡ front ++ behind

      pub text-behind : TextBehind
      text-behind =
          let held = is_held p in
          let first = first_piece t bytes held r p.more in
          let joined = pieces_joined t bytes first (other_pieces t bytes held p.more) (drop r.columns seats) (pieces_over t bytes held r p.more first-fits others-fit is.none_begin ends) in
          let are = subst (λ (ps : List (Piece bytes)). AreJoined t bytes (joined_pieces bytes ps) first.before (drop r.columns seats) first.seats) (sym (pieces_split t bytes held r p.more)) joined in
          by (joined_pieces bytes (pieces_of bytes held r p.more)) refl first.before first.seats are (white-first held p.more)
        where
          c : ℕ
          c = indent (rest_of r)

          -- there is text behind the white space of the first line
          text : has_none (drop c (drop r.columns (line_text r.line))) ≡ false
          text =
              let same : rest_of r ≡ bytes_of (drop r.columns (line_text r.line)) = drop-map (λ (x : Seat). x.byte) r.columns (line_text r.line) in
              let all : drop c (rest_of r) ≡ bytes_of (drop c (drop r.columns (line_text r.line))) = ap (drop c) same ∙ drop-map (λ (x : Seat). x.byte) c (drop r.columns (line_text r.line)) in
              sym (none-mapped (λ (x : Seat). x.byte) (drop c (drop r.columns (line_text r.line)))) ∙ ap has_none (sym all) ∙ some-behind (rest_of r) (sym first-fits.blank ∙ filled)

          in-line : has_none (drop c (drop r.columns r.line)) ≡ false
          in-line =
              let few = columns_few t bytes r first-fits in
              let w = first-fits.line.whole in
              ap (λ l. has_none (drop c l)) (ap (drop r.columns) (line_front r.line w) ∙ drop-append-le r.columns (line_text r.line) (ending_of r.line) few) ∙ more-left c (drop r.columns (line_text r.line)) (ending_of r.line) text

          white-first : (x : Bool) (more : List Row) → has_none (drop c (first_piece t bytes x r more).seats) ≡ false
          white-first true [] = in-line
          white-first false [] = text
          white-first x (q ∷ qs) = in-line

          by : (js : List (Piece bytes)) → joined_pieces bytes (pieces_of bytes (is_held p) r p.more) ≡ js → (before : List Mark) (first : List Seat) → AreJoined t bytes js before (drop r.columns seats) first → has_none (drop c first) ≡ false → TextBehind
          by [] e before first h some = absurd h
          by (x ∷ xs) e before first h some =
              let all = drop r.columns seats in
              let is-first : x.seats ≡ first ++ h.3.0 = h.3.1 in
              let left : has_none (drop c x.seats) ≡ false = ap (λ l. has_none (drop c l)) is-first ∙ more-left c first h.3.0 some in
              let few = some-left c x.seats left in
              let y : Piece bytes = record x { seats = drop c x.seats } in
              let behind : drop c all ≡ y.seats ++ h.1.0 = ap (drop c) h.1.1 ∙ drop-append-le c x.seats h.1.0 few in
              let parts : all ≡ take c x.seats ++ drop c all =
              h.1.1 ∙ ap (λ l. l ++ h.1.0) (sym (take-append-drop c x.seats)) ∙ append_assoc (take c x.seats) y.seats h.1.0 ∙ ap (λ l. take c x.seats ++ l) (sym behind) in
              record {
                front = take c x.seats;
                piece = y;
                others = xs;
                behind = drop c all;
                marks = ap (λ (ps : List (Piece bytes)). elim ps as (λ _. List Mark) [ [] ↦ [] | z ∷ zs ↦ white bytes (take c z.seats) ++ chunks_of bytes false (record z { before = []; seats = drop c z.seats } ∷ zs) ]) e;
                joined = (refl, (h.1.0, behind, ends-behind t bytes c x.seats xs left h.1.2, h.1.3), h.2, ([], sym (append-nil y.seats)));
                some = left;
                splits = ap (λ k. drop k seats) cut-is ∙ parts;
              }

      behind-goes : GoOver (behind_definitions bytes p)
      behind-goes fs a rest track =
          let x = text-behind in
          let b = end_after a x.front in
          let chunks = chunks_of bytes false (record x.piece { before = [] } ∷ x.others) in
          let track0 : Track t bytes a (x.front ++ (x.behind ++ rest)) = subst (Track t bytes a) (ap (λ l. l ++ rest) x.splits ∙ append_assoc x.front x.behind rest) track in
          let white-goes = goes_over t bytes fs a (white bytes x.front) x.front (x.behind ++ rest) ((forms-kept-by bytes t).alone name.SpaceOrTab x.front) (leaf_is_unlinked bytes name.SpaceOrTab x.front) track0 in
          let chunks-go = chunks_go t bytes fs b (x.piece ∷ x.others) x.piece.before x.behind x.piece.seats rest x.joined x.some (track-on t bytes a x.front (x.behind ++ rest) track0) in
          let end : end_after b x.behind ≡ end_after a inner = sym (end-after-append a x.front x.behind) ∙ ap (end_after a) (sym x.splits) in
          subst (λ (ms : List Mark). Goes t bytes fs a ms fs (end_after a inner)) (sym x.marks)
          (subst (Goes t bytes fs a (white bytes x.front ++ chunks) fs) end (goes_both t bytes fs a (white bytes x.front) fs b chunks fs (end_after b x.behind) white-goes chunks-go))

      -- the virtual bytes of definitions: no line ending is held behind a paragraph
      pub defined-seats : (ds : List Definition) → AreDefined bytes ds (all_rows p) → place_seats (places_in bytes (all_rows p)) ≡ inner
      defined-seats ds d =
          let none : is_held p ≡ false = ap (λ x. not (r.is_blank) && x) (not-held r p.more d.open_behind) ∙ and-false (not r.is_blank) in
          seats-are bytes r p.more first-fits others-fit is.none_begin ∙ (λ k. drop (sym cut-is k) (seats_of (sym none k) r p.more))
        where
          open-none : (leaf : Leaf) → is_paragraph leaf ≡ true → holds_ending leaf ≡ false
          open-none leaf e = ap holds_ending (paragraph-is leaf e)

          not-held : (q : Row) (qs : List Row) → AllByRecursion (λ (x : Row). is_paragraph x.leaf ≡ true) (q ∷ qs) → holds_ending (last_of q qs).leaf ≡ false
          not-held q [] h = open-none q.leaf h.0
          not-held q (x ∷ xs) h = not-held x xs h.1

      defined-goes : (ds : List Definition) → AreDefined bytes ds (all_rows p) → GoOver (definitions_marks bytes ds (places_in bytes (all_rows p)))
      defined-goes ds d fs a rest track =
          let ms = definitions_marks bytes ds (places_in bytes (all_rows p)) in
          let over : Forms t bytes ms inner = subst (Forms t bytes ms) (defined-seats ds d) (definitions-form bytes ds (all_rows p) d.laid (first-fits, others-fit) t) in
          goes_over t bytes fs a ms inner rest over (definitions-are-shaped bytes ds (all_rows p) d.laid (first-fits, others-fit)).1 track

      -- a table
      pub table-seats : holds_ending (last_of r p.more).leaf ≡ false → rows_seats (all_rows p) ≡ inner
      table-seats free =
          let none : is_held p ≡ false = ap (λ x. not (r.is_blank) && x) free ∙ and-false (not r.is_blank) in
          rows-are-places bytes r p.more ∙ seats-are bytes r p.more first-fits others-fit is.none_begin ∙ (λ k. drop (sym cut-is k) (seats_of (sym none k) r p.more))

      table-goes : holds_ending (last_of r p.more).leaf ≡ false → GoOver (table_marks bytes p)
      table-goes free fs a rest track =
          let ms = table_marks bytes p in
          let over : Forms t bytes ms inner = subst (Forms t bytes ms) (table-seats free) (tables-keep bytes (Forms t bytes) (forms-kept-by bytes t) r p.more) in
          goes_over t bytes fs a ms inner rest over (tables-are-shaped bytes r p.more).1 track

    inside-goes : GoOver (inside_marks bytes p s.inside)
    inside-goes = by s.inside is.inside
      where
        by : (i : Inside) → InsideIs bytes p i → GoOver (inside_marks bytes p i)
        by (lines true) h = behind-goes (h refl)
        by (lines false) h = lines-go
        by (defined ds) h = defined-goes h.1 ds h.0
        by table h = table-goes h.0 h.1

    -- The marks of a section are over its virtual bytes, and what begins in it is open behind them
    section-goes : (kept : List Frame) (a : Point) (rest : List Seat) → Track t bytes a (seats ++ (ending ++ rest)) → Goes t bytes kept a (section_marks bytes s) (kept ++ all_entered r.begun) (end_after a seats)
    section-goes = whole-goes (inside_marks bytes p s.inside) inside-goes

    -- and the line ending behind it
    section-ends : (fs : List Frame) (a : Point) (rest : List Seat) → Track t bytes a (ending ++ rest) → Goes t bytes fs a (ending_marks bytes p) fs (end_after a ending)
    section-ends = ending_goes t bytes part part-is

    section-shown : (a : Point) (rest : List Seat) → Track t bytes a (seats ++ (ending ++ rest)) → shown bytes (end_of bytes p) ≡ end_after a seats
    section-shown a rest track = end_of_rows t bytes (is_held p) r p.more rest a first-fits others-fit track

    section-seats : seats ++ ending ≡ all_of (lines_of (all_rows p))
    section-seats = all_are t bytes part part-is

  -- ---- sections one behind another

  abbrev pub lines_in_all : List Section → List Line
  lines_in_all ss = lines_of (rows_of ss)

  front-lines : (s : Section) (ss : List Section) → lines_in_all (s ∷ ss) ≡ lines_of (all_rows s.part) ++ lines_in_all ss
  front-lines s ss = map-append (λ (x : Row). x.line) (all_rows s.part) (rows_of ss)

  -- the virtual bytes of a section and of those behind it
  pub all-seats : (s : Section) (is : SectionIs bytes s) (fits : AllByRecursion RowIs (all_rows s.part)) (ends : LinesEnd (lines_of (all_rows s.part))) (ss : List Section)
      → all_of (lines_in_all (s ∷ ss)) ≡ seats s is fits ends ++ (ending s is fits ends ++ all_of (lines_in_all ss))
  all-seats s is fits ends ss =
      ap all_of (front-lines s ss) ∙ flat_map-append (λ (l : Line). l) (lines_of (all_rows s.part)) (lines_in_all ss) ∙ ap (λ l. l ++ all_of (lines_in_all ss)) (sym (section-seats s is fits ends))
      ∙ append_assoc (seats s is fits ends) (ending s is fits ends) (all_of (lines_in_all ss))

  module _ (on : Constructs) where
    pub ends-front : (s : Section) (ss : List Section) → LinesEnd (lines_in_all (s ∷ ss)) → LinesEnd (lines_of (all_rows s.part))
    ends-front s ss h = lines_end_front t bytes on (lines_of (all_rows s.part)) (lines_in_all ss) (subst LinesEnd (front-lines s ss) h)

    pub ends-rest : (s : Section) (ss : List Section) → LinesEnd (lines_in_all (s ∷ ss)) → LinesEnd (lines_in_all ss)
    ends-rest s ss h = lines_end_behind t bytes on (lines_of (all_rows s.part)) (lines_in_all ss) (subst LinesEnd (front-lines s ss) h)

    -- what comes behind a section
    sections-behind : (s : Section) (is : SectionIs bytes s) (fits : AllByRecursion RowIs (all_rows s.part)) (ends : LinesEnd (lines_of (all_rows s.part))) (ss : List Section) → AreCut bytes s.part.frames ss → AllByRecursion RowIs (rows_of ss) → LinesEnd (lines_in_all ss)
        → (q : Point) → shown bytes (end_of bytes s.part) ≡ q → Track t bytes q (ending s is fits ends ++ all_of (lines_in_all ss))
        → Goes t bytes s.part.frames q (behind_marks bytes s.part ss) [] (end_after q (ending s is fits ends ++ all_of (lines_in_all ss)))
    sections-behind s is fits ends [] are-cut rows-fit rows-end q here track =
        let p = s.part in
        let last = ending s is fits ends in
        let exit = exits_go t bytes (end_of bytes p) q here (track-place t bytes q (last ++ []) track) [] p.frames in
        let end = section-ends s is fits ends [] q [] track in
        let all : end_after q last ≡ end_after q (last ++ []) = ap (end_after q) (sym (append-nil last)) in
        subst (Goes t bytes p.frames q (behind_marks bytes p []) []) all (goes_both t bytes p.frames q (exits bytes p.frames (end_of bytes p)) [] q (ending_marks bytes p) [] (end_after q last) exit end)
    sections-behind s is fits ends (n ∷ ss) are-cut rows-fit rows-end q here track =
        let p = s.part in
        let next = n.part in
        let turn = are-cut.0 in
        let fits-next = every-front RowIs (all_rows next) (rows_of ss) rows-fit in
        let ends-next = ends-front n ss rows-end in
        let kept = turn.kept in
        let ended = turn.ended in
        let here-ends = ending s is fits ends in
        let text = seats n are-cut.1 fits-next ends-next in
        let last = ending n are-cut.1 fits-next ends-next in
        let rest = all_of (lines_in_all ss) in
        let all : all_of (lines_in_all (n ∷ ss)) ≡ text ++ (last ++ rest) = all-seats n are-cut.1 fits-next ends-next ss in
        let a = end_after q here-ends in
        let c = end_after a text in
        let track1 : Track t bytes a (text ++ (last ++ rest)) = subst (Track t bytes a) all (track-on t bytes q here-ends (all_of (lines_in_all (n ∷ ss))) track) in
        let track2 : Track t bytes c (last ++ rest) = track-on t bytes a text (last ++ rest) track1 in
        let gone : drop (shared p.frames next.frames) p.frames ≡ ended = (λ k. drop (turn.many k) (turn.before_are k)) ∙ (take_front kept ended (length kept) refl).1 in
        let exit : Goes t bytes p.frames q (exits bytes (drop (shared p.frames next.frames) p.frames) (end_of bytes p)) kept q =
        subst (λ (fs : List Frame). Goes t bytes p.frames q (exits bytes fs (end_of bytes p)) kept q) (sym gone)
        (subst (λ (fs : List Frame). Goes t bytes fs q (exits bytes ended (end_of bytes p)) kept q) (sym turn.before_are) (exits_go t bytes (end_of bytes p) q here (track-place t bytes q (here-ends ++ all_of (lines_in_all (n ∷ ss))) track) kept ended)) in
        let end = section-ends s is fits ends kept q (all_of (lines_in_all (n ∷ ss))) track in
        let whole : Goes t bytes kept a (section_marks bytes n) next.frames c =
        subst (λ (fs : List Frame). Goes t bytes kept a (section_marks bytes n) fs c) (sym turn.after_are) (section-goes n are-cut.1 fits-next ends-next kept a rest track1) in
        let shows : shown bytes (end_of bytes next) ≡ c = section-shown n are-cut.1 fits-next ends-next a rest track1 in
        let tail = sections-behind n are-cut.1 fits-next ends-next ss are-cut.2 (every-back RowIs (all_rows next) (rows_of ss) rows-fit) (ends-rest n ss rows-end) c shows track2 in
        let z = end_after c (last ++ rest) in
        let final : z ≡ end_after q (here-ends ++ all_of (lines_in_all (n ∷ ss))) =
        sym (end-after-append a text (last ++ rest)) ∙ ap (end_after a) (sym all) ∙ sym (end-after-append q here-ends (all_of (lines_in_all (n ∷ ss)))) in
        subst (Goes t bytes p.frames q (behind_marks bytes p (n ∷ ss)) []) final
        (goes_both t bytes p.frames q (exits bytes (drop (shared p.frames next.frames) p.frames) (end_of bytes p)) kept q (ending_marks bytes p ++ (section_marks bytes n ++ behind_marks bytes next ss)) [] z exit
        (goes_both t bytes kept q (ending_marks bytes p) kept a (section_marks bytes n ++ behind_marks bytes next ss) [] z end
        (goes_both t bytes kept a (section_marks bytes n) next.frames c (behind_marks bytes next ss) [] z whole tail)))

    sections-go : (ss : List Section) (q : Point) → AreCut bytes [] ss → AllByRecursion RowIs (rows_of ss) → LinesEnd (lines_in_all ss) → Track t bytes q (all_of (lines_in_all ss)) → Goes t bytes [] q (sections_marks bytes ss) [] (end_after q (all_of (lines_in_all ss)))
    sections-go [] q are-cut rows-fit rows-end track = goes_none t bytes [] q
    sections-go (n ∷ ss) q are-cut rows-fit rows-end track =
        let next = n.part in
        let turn = are-cut.0 in
        let fits-next = every-front RowIs (all_rows next) (rows_of ss) rows-fit in
        let ends-next = ends-front n ss rows-end in
        let kept = turn.kept in
        let text = seats n are-cut.1 fits-next ends-next in
        let last = ending n are-cut.1 fits-next ends-next in
        let rest = all_of (lines_in_all ss) in
        let all : all_of (lines_in_all (n ∷ ss)) ≡ text ++ (last ++ rest) = all-seats n are-cut.1 fits-next ends-next ss in
        let c = end_after q text in
        let track1 : Track t bytes q (text ++ (last ++ rest)) = subst (Track t bytes q) all track in
        let track2 : Track t bytes c (last ++ rest) = track-on t bytes q text (last ++ rest) track1 in
        let none : kept ≡ [] = none_front t bytes on kept turn.ended turn.before_are in
        let whole : Goes t bytes [] q (section_marks bytes n) next.frames c =
        subst (λ (fs : List Frame). Goes t bytes fs q (section_marks bytes n) next.frames c) none
        (subst (λ (fs : List Frame). Goes t bytes kept q (section_marks bytes n) fs c) (sym turn.after_are) (section-goes n are-cut.1 fits-next ends-next kept q rest track1)) in
        let shows : shown bytes (end_of bytes next) ≡ c = section-shown n are-cut.1 fits-next ends-next q rest track1 in
        let tail = sections-behind n are-cut.1 fits-next ends-next ss are-cut.2 (every-back RowIs (all_rows next) (rows_of ss) rows-fit) (ends-rest n ss rows-end) c shows track2 in
        let z = end_after c (last ++ rest) in
        let final : z ≡ end_after q (all_of (lines_in_all (n ∷ ss))) = sym (end-after-append q text (last ++ rest)) ∙ ap (end_after q) (sym all) in
        subst (Goes t bytes [] q (section_marks bytes n ++ behind_marks bytes next ss) []) final (goes_both t bytes [] q (section_marks bytes n) next.frames c (behind_marks bytes next ss) [] z whole tail)

    -- The marks of a document's sections go over all its virtual bytes, and no span is open behind them
    pub all-sections-go : (ls : List Line) (q : Point) → AllByRecursion LineIs ls → LinesEnd ls → Track t bytes q (all_of ls) → Goes t bytes [] q (sections_marks bytes (sections on (rows on ls))) [] (end_after q (all_of ls))
    all-sections-go ls q are ends track =
        let ss = sections on (rows on ls) in
        let same : lines_in_all ss ≡ ls = all-of-sections bytes on ls in
        subst (λ (l : List Line). Goes t bytes [] q (sections_marks bytes ss) [] (end_after q (all_of l))) same
        (sections-go ss q (document-cut bytes on ls are) (document-lines bytes on ls are) (subst LinesEnd (sym same) ends) (subst (λ (l : List Line). Track t bytes q (all_of l)) (sym same) track))
