-- The parts of a document, one behind another: their marks go over all its virtual bytes, and leave no span open.
use Rattle.std.proofs.Common.{◌≡◌, ℕ, zero, suc, ◌+◌, ◌-◌, ◌≤◌, Bool, true, false, cond, List, [], ◌∷◌, ◌++◌, length, take, drop, map, refl, sym, ap, ◌∙◌, subst, arith, append_assoc, inl, inr, ◌⊎◌}
use Rattle.std.specs.Prelude.{◌&&◌, not}
use Rattle.std.specs.List.{AllByRecursion}
use Rattle.std.proofs.lemmas.Bool.{false≢true}
use Rattle.std.proofs.lemmas.Grind.{flat_map-append}
use Rattle.std.proofs.lemmas.List.{append-nil, drop-append-le, drop-map, length-append, length-drop, length-map, take-append-drop, take-append-le, take_all}
use Rattle.markdown_base.proofs.Seats.{end-after-append}
use Rattle.markdown_base.specs.declared.configuration.Constructs.{Constructs}
use Rattle.markdown_base.specs.declared.event.Name.TheVariants as name
use Rattle.markdown_base.specs.declared.event.Point.{Point}
use Rattle.markdown_base.specs.Places.{shown}
use Rattle.markdown_base.specs.Virtual.{Seat, end_after}
use Rattle.markdown_base.proofs.Common.{every-take}
use Rattle.markdown_tokenizer.proofs.Positions.Order.{every-back}
use Rattle.mdblock_leaf_blocks.proofs.Lines.WholeLines.{IsWhole, text-and-ending, whole-behind, whole-ending, whole-text}
use Rattle.mdblock_leaf_blocks.proofs.Marks.Courses.{Track, track-on, track-place}
use Rattle.mdblock_leaf_blocks.proofs.Marks.MarkAccounts.{AreSpans, accounts-kept}
use Rattle.mdblock_leaf_blocks.proofs.Marks.MarkForms.{Forms, forms-kept}
use Rattle.mdblock_leaf_blocks.proofs.Marks.MarkSpans.{no-spans}
use Rattle.mdblock_leaf_blocks.specs.LeafBlocks.{Line, bytes_of, text_of}
use Rattle.mdblock_leaf_blocks.specs.LeafEvents.{Mark, leaf_marks, white}
use Rattle.mdblock_leaf_blocks.specs.LineKinds.{is_blank_line}
use Rattle.mdconstructs_machines.specs.LineEvents.{all_of, ending_of, line_text}
use Rattle.mdblock_lines.specs.Containers.{Prefix}
use Rattle.mdblock_containers.proofs.FrameFacts.{all_entered, none_is, take_front, some_more}
use Rattle.mdblock_containers.proofs.OpenFrames.{AreOpen, IsPart, is_part, none_are_open, none_in}
use Rattle.mdblock_containers.proofs.PartSpans.{Goes, RowFits, begun_goes, columns_front, exits_go, goes_both, goes_none, goes_over, goes_spanned, rows_fit}
use Rattle.mdblock_containers.proofs.Pieces.{AreJoined, EndsLine, IsPrefixOver, Over, OverFrom, chunks_run, chunks_spanned, pieces_joined}
use Rattle.mdblock_containers.proofs.PrefixSpans.{leaf_is_unlinked, leaf_over, prefixes_kept, prefixes_none, prefixes_over, prefixes_unlinked, take_more}
use Rattle.mdblock_containers.proofs.RowFacts.{IsFront}
use Rattle.mdblock_containers.proofs.RowReads.{plain_reads, rows_length}
use Rattle.mdblock_containers.proofs.SeatFacts.{LineIs, LinesEnd, SeatEnds, behind_ends, drop_text, line_front, take_text, text_only}
use Rattle.mdblock_containers.specs.Prefixes.{columns_of, containers_of}
use Rattle.mdblock_containers.specs.Rows.{Before, Row, has_none, holds_ending, known_after, nothing_known, row_of, rows, rows_from}
use Rattle.mdblock_containers.specs.Skeleton.{Frame, Part, Piece, begin_of, begun_all, behind_marks, chunks_of, end_of, ending_marks, exits, frames_at, further, inside_of, is_held, joined_pieces, last_line, last_of, part_marks, parts, parts_in, parts_marks, piece_of, pieces_of, prefixes_marks, shared, standing}
use Rattle.mdblock_leaf_blocks.proofs.Marks.LeafSpans.{text-shorter}

-- ---- the virtual bytes of a part

-- those of its lines, without the last line ending if it is not held
abbrev pub seats_of : (held : Bool) → Row → List Row → List Seat
seats_of held r [] = cond held r.line (line_text r.line)
seats_of held r (next ∷ more) = r.line ++ seats_of held next more

abbrev pub lines_of : List Row → List Line
lines_of rs = map (λ r. r.line) rs

-- and the last line ending
abbrev pub ending_seats : (held : Bool) → Row → List Row → List Seat
ending_seats held r more = cond held [] (ending_of (last_of r more).line)

pub all_seats : (held : Bool) (r : Row) (more : List Row) → IsWhole (last_of r more).line → seats_of held r more ++ ending_seats held r more ≡ all_of (lines_of (r ∷ more))
all_seats true r [] w = refl
all_seats false r [] w = text-and-ending r.line w ∙ sym (append-nil r.line)
all_seats held r (next ∷ more) w = append_assoc r.line (seats_of held next more) (ending_seats held next more) ∙ ap (λ l. r.line ++ l) (all_seats held next more w)

pub last_fits : (r : Row) (more : List Row) → RowFits r → AllByRecursion RowFits more → RowFits (last_of r more)
last_fits r [] h k = h
last_fits r (next ∷ more) h k = last_fits next more k.0 k.1

-- the text of its first line comes first
pub text_first : (held : Bool) (r : Row) (more : List Row) → IsWhole r.line → IsFront (line_text r.line) (seats_of held r more)
text_first true r [] w = (ending_of r.line, line_front r.line w)
text_first false r [] w = ([], sym (append-nil (line_text r.line)))
text_first held r (next ∷ more) w = (ending_of r.line ++ seats_of held next more, ap (λ l. l ++ seats_of held next more) (line_front r.line w) ∙ append_assoc (line_text r.line) (ending_of r.line) (seats_of held next more))

module _ (t : ℕ) (bytes : List ℕ) where
  -- ---- its pieces

  pub prefix_over : (r : Row) → RowFits r → has_none r.begun ≡ true → IsPrefixOver t bytes (prefixes_marks bytes r.went_on r.line) (take r.columns r.line)
  prefix_over r h none =
      let is : columns_of r.went_on ≡ r.columns =
      let few : columns_of r.begun ≡ 0 = ap columns_of (none_is r.begun none) in
      let all = h.columns in
      omega (arith, few, all) in
      let within = h.within in
      subst (λ k. IsPrefixOver t bytes (prefixes_marks bytes r.went_on r.line) (take k r.line)) is
      (record {
        forms = prefixes_over bytes t r.went_on r.line h.line.whole;
        spans = prefixes_kept bytes (AreSpans bytes) (accounts-kept bytes) r.went_on r.line h.line.whole;
        unlinked = prefixes_unlinked bytes r.went_on r.line;
        none = prefixes_none bytes r.went_on r.line;
        in_line = text_only r.line (columns_of r.went_on) h.line.whole (omega (arith, within));
        ends = every-take SeatEnds (columns_of r.went_on) r.line h.line.ends;
      })

  pub columns_few : (r : Row) → RowFits r → r.columns ≤ length (line_text r.line)
  columns_few r h = let all = h.columns in let within = h.within in omega (arith, all, within)

  pub ends_any : (seats : List Seat) (ps : List (Piece bytes)) → ((p : Point) → (end_after p seats).column ≡ 1) → EndsLine t bytes seats ps
  ends_any seats [] h = tt
  ends_any seats (q ∷ qs) h = h

  pub rows_over : (held : Bool) (r : Row) (more : List Row) → RowFits r → AllByRecursion RowFits more → has_none r.begun ≡ true → AllByRecursion (λ (x : Row). has_none x.begun ≡ true) more → LinesEnd (lines_of (r ∷ more))
      → Over t bytes (pieces_of bytes held r more) (seats_of held r more)
  rows_over held r [] h hs none nones ends =
      let whole : (x : Bool) → cond x r.line (line_text r.line) ≡ take r.columns r.line ++ (drop r.columns (cond x r.line (line_text r.line)) ++ []) = λ x. by x in
      (take r.columns r.line, [], whole held, prefix_over r h none, tt, refl)
    where
      by : (x : Bool) → cond x r.line (line_text r.line) ≡ take r.columns r.line ++ (drop r.columns (cond x r.line (line_text r.line)) ++ [])
      by true = sym (ap (λ l. take r.columns r.line ++ l) (append-nil (drop r.columns r.line)) ∙ take-append-drop r.columns r.line)
      by false =
          sym (ap (λ l. l ++ (drop r.columns (line_text r.line) ++ [])) (take_text r.line r.columns h.line.whole (columns_few r h)) ∙ ap (λ l. take r.columns (line_text r.line) ++ l) (append-nil (drop r.columns (line_text r.line)))
          ∙ take-append-drop r.columns (line_text r.line))
  rows_over held r (next ∷ more) h hs none nones ends =
      let rest = seats_of held next more in
      let whole : r.line ++ rest ≡ take r.columns r.line ++ (drop r.columns r.line ++ rest) = ap (λ l. l ++ rest) (sym (take-append-drop r.columns r.line)) ∙ append_assoc (take r.columns r.line) (drop r.columns r.line) rest in
      (take r.columns r.line, rest, whole, prefix_over r h none, ends_any (drop r.columns r.line) (pieces_of bytes held next more) (behind_ends r.line r.columns h.line ends.0 (columns_few r h)), rows_over held next more hs.0 hs.1 nones.0 nones.1 ends.1)

  abbrev pub first_piece : (held : Bool) → Row → List Row → Piece bytes
  first_piece held r [] = piece_of bytes held r
  first_piece held r (next ∷ more) = piece_of bytes true r

  abbrev pub other_pieces : (held : Bool) → List Row → List (Piece bytes)
  other_pieces held [] = []
  other_pieces held (next ∷ more) = pieces_of bytes held next more

  pub pieces_split : (held : Bool) (r : Row) (more : List Row) → pieces_of bytes held r more ≡ first_piece held r more ∷ other_pieces held more
  pieces_split held r [] = refl
  pieces_split held r (next ∷ more) = refl

  pub pieces_over : (held : Bool) (r : Row) (more : List Row) → RowFits r → AllByRecursion RowFits more → AllByRecursion (λ (x : Row). has_none x.begun ≡ true) more → LinesEnd (lines_of (r ∷ more))
      → OverFrom t bytes (first_piece held r more) (other_pieces held more) (drop r.columns (seats_of held r more))
  pieces_over held r [] h hs nones ends = ([], sym (append-nil (drop r.columns (cond held r.line (line_text r.line)))), tt, refl)
  pieces_over held r (next ∷ more) h hs nones ends =
      let few = columns_few r h in
      let size = text-shorter r.line h.line.whole in (
        seats_of held next more,
        drop-append-le r.columns r.line (seats_of held next more) (omega (arith, few, size)),
        ends_any (drop r.columns r.line) (pieces_of bytes held next more) (behind_ends r.line r.columns h.line ends.0 few),
        rows_over held next more hs.0 hs.1 nones.0 nones.1 ends.1,
      )

  -- a line that is not blank has text behind its prefixes
  pub text_is_some : (r : Row) → RowFits r → r.is_blank ≡ false → has_none (drop r.columns (line_text r.line)) ≡ false
  text_is_some r h other = by (drop r.columns (line_text r.line)) refl
    where
      same : drop r.columns (text_of r.line) ≡ bytes_of (drop r.columns (line_text r.line))
      same = drop-map (λ (s : Seat). s.byte) r.columns (line_text r.line)

      by : (ss : List Seat) → drop r.columns (line_text r.line) ≡ ss → has_none ss ≡ false
      by [] e = absurd (false≢true (sym other ∙ h.blank ∙ ap is_blank_line (same ∙ ap bytes_of e)))
      by (s ∷ ss) e = refl

  pub line_is_some : (r : Row) → RowFits r → r.is_blank ≡ false → has_none (drop r.columns r.line) ≡ false
  line_is_some r h other =
      let w = h.line.whole in
      ap has_none (ap (drop r.columns) (line_front r.line w) ∙ drop-append-le r.columns (line_text r.line) (ending_of r.line) (columns_few r h)) ∙ some_more (drop r.columns (line_text r.line)) (ending_of r.line) (text_is_some r h other)

  pub piece_some : (held : Bool) (r : Row) (more : List Row) → RowFits r → r.is_blank ≡ false → has_none (first_piece held r more).seats ≡ false
  piece_some true r [] h other = line_is_some r h other
  piece_some false r [] h other = text_is_some r h other
  piece_some held r (next ∷ more) h other = line_is_some r h other

  pub no_prefix : IsPrefixOver t bytes [] []
  no_prefix = record { forms = no-spans bytes (Forms t bytes) (forms-kept t bytes); spans = no-spans bytes (AreSpans bytes) (accounts-kept bytes); unlinked = tt; none = refl; in_line = tt; ends = tt }

  -- the chunks of pieces
  pub chunks_go : (fs : List Frame) (a : Point) (js : List (Piece bytes)) (before : List Mark) (seats first rest : List Seat) → AreJoined t bytes js before seats first → has_none first ≡ false → Track t bytes a (seats ++ rest)
      → Goes t bytes fs a (elim js as (λ _. List Mark) [ [] ↦ [] | p ∷ ps ↦ chunks_of bytes false (record p { before = [] } ∷ ps) ]) fs (end_after a seats)
  chunks_go fs a [] before seats first rest h some track = absurd h
  chunks_go fs a (p ∷ ps) before seats first rest h some track =
      let x : Piece bytes = record p { before = [] } in
      let over : Over t bytes (x ∷ ps) seats = ([], h.1.0, h.1.1, no_prefix, h.1.2, h.1.3) in
      let filled : has_none p.seats ≡ false = ap has_none h.3.1 ∙ some_more first h.3.0 some in
      goes_spanned t bytes fs a (chunks_of bytes false (x ∷ ps)) (end_after a seats) (chunks_spanned t bytes false (x ∷ ps) seats rest a over track) (chunks_run t bytes p ps seats rest a h.1 h.2 filled track)

  -- ---- one part

  -- a part of a document
  pub record PartIs (part : Part) : Type 0 where
    pub first : RowFits part.first
    pub others : AllByRecursion RowFits part.more
    pub none_begin : AllByRecursion (λ (r : Row). has_none r.begun ≡ true) part.more
    pub ends : LinesEnd (lines_of (part.first ∷ part.more))
    pub stands : (part.first.is_blank ≡ false) ⊎ (has_none part.first.begun ≡ false) → part.stands ≡ containers_of part.first.went_on ++ containers_of part.first.begun
    pub alone : part.first.is_blank ≡ true → part.more ≡ []

  module _ (part : Part) (h : PartIs part) where
    abbrev pub r : Row
    r = part.first

    abbrev pub line : Line
    line = r.line

    abbrev pub m : ℕ
    m = length part.stands

    -- the columns in front of what is in it
    abbrev pub cut : ℕ
    cut = cond (has_none r.begun) (columns_of (take m r.went_on)) r.columns

    abbrev pub seats : List Seat
    seats = seats_of (is_held part) r part.more

    abbrev pub ending : List Seat
    ending = ending_seats (is_held part) r part.more

    -- all its prefixes are in front, unless it is blank and nothing begins in it
    pub all_in_front : (r.is_blank ≡ false) ⊎ (has_none r.begun ≡ false) → take m r.went_on ≡ r.went_on
    all_in_front e =
        let size = ap length (h.stands e) in
        let both = length-append (containers_of r.went_on) (containers_of r.begun) in
        let went = length-map r.went_on (λ (p : Prefix). p.container) in
        take_all m r.went_on (omega (arith, size, both, went))

    abbrev pub front_marks : List Mark
    front_marks = prefixes_marks bytes (take m r.went_on) line ++ begun_all bytes r.begun (drop (columns_of r.went_on) line)

    pub cut_few : cut ≤ length (line_text line)
    cut_few =
        let few = columns_front m r.went_on in
        let within = h.first.within in
        let all = columns_few r h.first in
        by (has_none r.begun) few within all
      where
        by : (x : Bool) → columns_of (take m r.went_on) ≤ columns_of r.went_on → columns_of r.went_on + columns_of r.begun ≤ length (line_text line) → r.columns ≤ length (line_text line) → cond x (columns_of (take m r.went_on)) r.columns ≤ length (line_text line)
        by true few within all = omega arith
        by false few within all = all

    pub cut_is : r.is_blank ≡ false → cut ≡ r.columns
    cut_is other =
        let same = all_in_front (inl other) in
        by (has_none r.begun) refl (ap columns_of same)
      where
        by : (x : Bool) → has_none r.begun ≡ x → columns_of (take m r.went_on) ≡ columns_of r.went_on → cond x (columns_of (take m r.went_on)) r.columns ≡ r.columns
        by true e same = let none : columns_of r.begun ≡ 0 = ap columns_of (none_is r.begun e) in let all = h.first.columns in omega (arith, same, none, all)
        by false e same = refl

    -- the marks of its prefixes
    pub front_goes : (kept : List Frame) (p : Point) (rest : List Seat) → Track t bytes p (line ++ rest) → Goes t bytes kept p front_marks (kept ++ all_entered r.begun) (end_after p (take cut line))
    front_goes kept p rest track = by (has_none r.begun) refl
      where
        went_goes : (k : ℕ) → Goes t bytes kept p (prefixes_marks bytes (take k r.went_on) line) kept (end_after p (take (columns_of (take k r.went_on)) line))
        went_goes k =
            let c = columns_of (take k r.went_on) in
            let whole : line ++ rest ≡ take c line ++ (drop c line ++ rest) = ap (λ l. l ++ rest) (sym (take-append-drop c line)) ∙ append_assoc (take c line) (drop c line) rest in
            goes_over t bytes kept p (prefixes_marks bytes (take k r.went_on) line) (take c line) (drop c line ++ rest) (prefixes_over bytes t (take k r.went_on) line h.first.line.whole) (prefixes_unlinked bytes (take k r.went_on) line) (subst (Track t bytes p) whole track)

        by : (x : Bool) → has_none r.begun ≡ x → Goes t bytes kept p front_marks (kept ++ all_entered r.begun) (end_after p (take (cond x (columns_of (take m r.went_on)) r.columns) line))
        by true e =
            let none : [] ≡ r.begun = sym (none_is r.begun e) in
            let q = end_after p (take (columns_of (take m r.went_on)) line) in
            let ms = prefixes_marks bytes (take m r.went_on) line in
            let alone : Goes t bytes kept p (ms ++ []) (kept ++ []) q =
            subst (λ (l : List Mark). Goes t bytes kept p l (kept ++ []) q) (sym (append-nil ms)) (subst (λ (fs : List Frame). Goes t bytes kept p ms fs q) (sym (append-nil kept)) (went_goes m)) in
            subst (λ (ps : List Prefix). Goes t bytes kept p (ms ++ begun_all bytes ps (drop (columns_of r.went_on) line)) (kept ++ all_entered ps) q) none alone
        by false e =
            let c = columns_of r.went_on in
            let ms = prefixes_marks bytes (take m r.went_on) line in
            let same = all_in_front (inr e) in
            let a = end_after p (take c line) in
            let went : Goes t bytes kept p ms kept a = subst (λ (ps : List Prefix). Goes t bytes kept p ms kept (end_after p (take (columns_of ps) line))) same (went_goes m) in
            let whole : line ++ rest ≡ take c line ++ (drop c line ++ rest) = ap (λ l. l ++ rest) (sym (take-append-drop c line)) ∙ append_assoc (take c line) (drop c line) rest in
            let track1 : Track t bytes a (drop c line ++ rest) = track-on t bytes p (take c line) (drop c line ++ rest) (subst (Track t bytes p) whole track) in
            let left : length (drop c line) ≡ length line - c = length-drop c line in
            let size = text-shorter line h.first.line.whole in
            let within = h.first.within in
            let begun = begun_goes t bytes r.begun kept a (drop c line) rest h.first.sizes (omega (arith, left, size, within)) (whole-behind c line h.first.line.whole) track1 in
            let end : end_after a (take (columns_of r.begun) (drop c line)) ≡ end_after p (take r.columns line) =
            sym (end-after-append p (take c line) (take (columns_of r.begun) (drop c line))) ∙ ap (end_after p) (take_more c (columns_of r.begun) line ∙ ap (λ k. take k line) (sym h.first.columns)) in
            subst (Goes t bytes kept p front_marks (kept ++ all_entered r.begun)) end
            (goes_both t bytes kept p ms kept a (begun_all bytes r.begun (drop c line)) (kept ++ all_entered r.begun) (end_after a (take (columns_of r.begun) (drop c line))) went begun)

    pub blank_seats : r.is_blank ≡ true → seats ≡ line_text line
    blank_seats e = (λ k. seats_of (not (e k) && holds_ending (last_of r part.more).leaf) r (h.alone e k))

    -- what is behind them
    pub inside_goes : (fs : List Frame) (a : Point) (rest : List Seat) → Track t bytes a (drop cut seats ++ rest) → Goes t bytes fs a (inside_of bytes part) fs (end_after a (drop cut seats))
    inside_goes fs a rest track = by r.is_blank refl
      where
        w : IsWhole line
        w = h.first.line.whole

        by : (x : Bool) → r.is_blank ≡ x
            → Goes t bytes fs a (cond x (white bytes (line_text (drop cut line))) (elim (joined_pieces bytes (pieces_of bytes (is_held part) r part.more)) as (λ _. List Mark) [ [] ↦ [] | p ∷ ps ↦ chunks_of bytes false (record p { before = [] } ∷ ps) ])) fs
            (end_after a (drop cut seats))
        by true e =
            let text = line_text (drop cut line) in
            let same : drop cut seats ≡ text = ap (drop cut) (blank_seats e) ∙ sym (drop_text line cut w cut_few) in
            subst (λ (l : List Seat). Goes t bytes fs a (white bytes text) fs (end_after a l)) (sym same)
            (goes_over t bytes fs a (white bytes text) text rest (leaf_over bytes t name.SpaceOrTab text (whole-text (drop cut line))) (leaf_is_unlinked bytes name.SpaceOrTab text) (subst (λ (l : List Seat). Track t bytes a (l ++ rest)) same track))
        by false e =
            let held = is_held part in
            let c = cut_is e in
            let joined = pieces_joined t bytes (first_piece held r part.more) (other_pieces held part.more) (drop r.columns seats) (pieces_over held r part.more h.first h.others h.none_begin h.ends) in
            let js = joined_pieces bytes (pieces_of bytes held r part.more) in
            let are = subst (λ (ps : List (Piece bytes)). AreJoined t bytes (joined_pieces bytes ps) (first_piece held r part.more).before (drop r.columns seats) (first_piece held r part.more).seats) (sym (pieces_split held r part.more)) joined in
            subst (λ k. Goes t bytes fs a (elim js as (λ _. List Mark) [ [] ↦ [] | p ∷ ps ↦ chunks_of bytes false (record p { before = [] } ∷ ps) ]) fs (end_after a (drop k seats))) (sym c)
            (chunks_go fs a js (first_piece held r part.more).before (drop r.columns seats) (first_piece held r part.more).seats rest are (piece_some held r part.more h.first e) (subst (λ k. Track t bytes a (drop k seats ++ rest)) c track))

    pub whole_last : IsWhole (last_line bytes part)
    whole_last = (last_fits r part.more h.first h.others).line.whole

    pub all_are : seats ++ ending ≡ all_of (lines_of (r ∷ part.more))
    all_are = all_seats (is_held part) r part.more whole_last

    -- from the prefixes on
    pub front_is : take cut seats ≡ take cut line
    front_is =
        let front = text_first (is_held part) r part.more h.first.line.whole in
        ap (take cut) front.1 ∙ take-append-le cut (line_text line) front.0 cut_few ∙ sym (take_text line cut h.first.line.whole cut_few)

    -- The marks of a part are over its virtual bytes, and what begins in it is open behind them
    pub part_goes : (kept : List Frame) (p : Point) (rest : List Seat) → Track t bytes p (seats ++ (ending ++ rest)) → Goes t bytes kept p (part_marks bytes part) (kept ++ all_entered r.begun) (end_after p seats)
    part_goes kept p rest track =
        let others = all_of (lines_of part.more) in
        let whole : seats ++ (ending ++ rest) ≡ line ++ (others ++ rest) = sym (append_assoc seats ending rest) ∙ ap (λ l. l ++ rest) all_are ∙ append_assoc line others rest in
        let gs = kept ++ all_entered r.begun in
        let a = end_after p (take cut line) in
        let front = front_goes kept p (others ++ rest) (subst (Track t bytes p) whole track) in
        let split : seats ≡ take cut line ++ drop cut seats = sym (take-append-drop cut seats) ∙ ap (λ l. l ++ drop cut seats) front_is in
        let behind : seats ++ (ending ++ rest) ≡ take cut line ++ (drop cut seats ++ (ending ++ rest)) = ap (λ l. l ++ (ending ++ rest)) split ∙ append_assoc (take cut line) (drop cut seats) (ending ++ rest) in
        let track1 : Track t bytes a (drop cut seats ++ (ending ++ rest)) = track-on t bytes p (take cut line) (drop cut seats ++ (ending ++ rest)) (subst (Track t bytes p) behind track) in
        let inside = inside_goes gs a (ending ++ rest) track1 in
        let end : end_after a (drop cut seats) ≡ end_after p seats = sym (end-after-append p (take cut line) (drop cut seats)) ∙ ap (end_after p) (sym split) in
        let went = prefixes_marks bytes (take m r.went_on) line in
        let begun = begun_all bytes r.begun (drop (columns_of r.went_on) line) in
        subst (λ (ms : List Mark). Goes t bytes kept p ms gs (end_after p seats)) (append_assoc went begun (inside_of bytes part))
        (goes_both t bytes kept p front_marks gs a (inside_of bytes part) gs (end_after p seats) front (subst (Goes t bytes gs a (inside_of bytes part) gs) end inside))

    -- the line ending behind it
    pub ending_goes : (fs : List Frame) (p : Point) (rest : List Seat) → Track t bytes p (ending ++ rest) → Goes t bytes fs p (ending_marks bytes part) fs (end_after p ending)
    ending_goes fs p rest track = by (is_held part) track
      where
        by : (x : Bool) → Track t bytes p (cond x [] (ending_of (last_of r part.more).line) ++ rest)
            → Goes t bytes fs p (cond x [] (leaf_marks bytes (cond r.is_blank name.BlankLineEnding name.LineEnding) (ending_of (last_of r part.more).line))) fs (end_after p (cond x [] (ending_of (last_of r part.more).line)))
        by true track = goes_none t bytes fs p
        by false track =
            let ss = ending_of (last_of r part.more).line in
            let kind = cond r.is_blank name.BlankLineEnding name.LineEnding in
            goes_over t bytes fs p (leaf_marks bytes kind ss) ss rest (leaf_over bytes t kind ss (whole-ending (last_of r part.more).line whole_last)) (leaf_is_unlinked bytes kind ss) track

  -- where a line's text ends is shown where its virtual bytes end
  pub end_shown : (whole : Line) (xs ys rest : List Seat) (p : Point) → xs ++ ys ≡ whole → has_none whole ≡ false → Track t bytes p (xs ++ (ys ++ rest)) → shown bytes (end_after (begin_of whole) xs) ≡ end_after p xs
  end_shown whole [] [] rest p e some track = absurd (false≢true (sym some ∙ ap has_none (sym e)))
  end_shown whole [] (y ∷ ys) rest p e some track = ap (λ l. shown bytes (begin_of l)) (sym e) ∙ track.1.meets
  end_shown whole (x ∷ xs) ys rest p e some track = (track-place t bytes (end_after x.end xs) (ys ++ rest) (track-on t bytes p (x ∷ xs) (ys ++ rest) track)).is_shown

  pub end_of_rows : (held : Bool) (r : Row) (more : List Row) (rest : List Seat) (p : Point) → RowFits r → AllByRecursion RowFits more → Track t bytes p (seats_of held r more ++ (ending_seats held r more ++ rest))
      → let last = (last_of r more).line in shown bytes (end_after (begin_of last) (cond held last (line_text last))) ≡ end_after p (seats_of held r more)
  end_of_rows true r [] rest p h k track = end_shown r.line r.line [] rest p (append-nil r.line) h.line.some track
  end_of_rows false r [] rest p h k track = end_shown r.line (line_text r.line) (ending_of r.line) rest p (text-and-ending r.line h.line.whole) h.line.some track
  end_of_rows held r (next ∷ more) rest p h k track =
      let seats = seats_of held next more in
      let ending = ending_seats held next more in
      let whole : (r.line ++ seats) ++ (ending ++ rest) ≡ r.line ++ (seats ++ (ending ++ rest)) = append_assoc r.line seats (ending ++ rest) in
      let track1 = track-on t bytes p r.line (seats ++ (ending ++ rest)) (subst (Track t bytes p) whole track) in
      end_of_rows held next more rest (end_after p r.line) k.0 k.1 track1 ∙ sym (end-after-append p r.line seats)

  -- ---- parts one behind another

  module _ (on : Constructs) where
    pub lines_end_front : (xs ys : List Line) → LinesEnd (xs ++ ys) → LinesEnd xs
    lines_end_front [] ys h = tt
    lines_end_front (x ∷ []) ys h = tt
    lines_end_front (x ∷ y ∷ xs) ys h = (h.0, lines_end_front (y ∷ xs) ys h.1)

    pub lines_end_behind : (xs ys : List Line) → LinesEnd (xs ++ ys) → LinesEnd ys
    lines_end_behind [] ys h = h
    lines_end_behind (x ∷ []) [] h = tt
    lines_end_behind (x ∷ []) (y ∷ ys) h = h.1
    lines_end_behind (x ∷ z ∷ xs) ys h = lines_end_behind (z ∷ xs) ys h.1

    module _ (b : Before) (n : ℕ) (l : Line) (ls : List Line) where
      abbrev pub head : Row
      head = row_of on b n l

      abbrev pub behind : List Row
      behind = rows_from on (known_after on b head) (suc n) ls

      abbrev pub many : ℕ
      many = cond head.is_blank 0 (further behind)

      abbrev pub part_at : Part
      part_at = record { first = head; more = take many behind; frames = frames_at head behind; stands = standing head behind }

      pub part_fits : (fs : List Frame) → IsPart on (plain_reads on) fs b n l ls → AllByRecursion LineIs (l ∷ ls) → LinesEnd (l ∷ ls) → PartIs part_at
      part_fits fs is lines ends =
          let fit = rows_fit on b n (l ∷ ls) lines in
          record {
            first = fit.0;
            others = every-take RowFits many behind fit.1;
            none_begin = is.behind.none_begin;
            ends = lines_end_front (l ∷ lines_of (take many behind)) is.behind.lines (subst (λ (xs : List Line). LinesEnd (l ∷ xs)) is.behind.all ends);
            stands = is.stands;
            alone = λ e. ap (λ x. take (cond x 0 (further behind)) behind) e;
          }

      pub all_lines : (fs : List Frame) (is : IsPart on (plain_reads on) fs b n l ls) → PartIs part_at
          → all_of (l ∷ ls) ≡ seats_of (is_held part_at) head (take many behind) ++ (ending_seats (is_held part_at) head (take many behind) ++ all_of is.behind.lines)
      all_lines fs is fits =
          let xs = lines_of (take many behind) in
          let ys = is.behind.lines in
          ap (λ (zs : List Line). l ++ all_of zs) is.behind.all ∙ ap (λ zs. l ++ zs) (flat_map-append (λ (line : Line). line) xs ys) ∙ sym (append_assoc l (all_of xs) (all_of ys)) ∙ ap (λ zs. zs ++ all_of ys) (sym (all_are part_at fits))
          ∙ append_assoc (seats_of (is_held part_at) head (take many behind)) (ending_seats (is_held part_at) head (take many behind)) (all_of ys)

    -- what comes behind a part
    pub behind_goes : (bound : ℕ) (part : Part) → PartIs part → (q : Point) (b : Before) (n : ℕ) (ls : List Line) → AreOpen on (plain_reads on) part.frames b n ls → AllByRecursion LineIs ls → LinesEnd ls → shown bytes (end_of bytes part) ≡ q → length ls ≤ bound
        → let ending = ending_seats (is_held part) part.first part.more in
        Track t bytes q (ending ++ all_of ls) → Goes t bytes part.frames q (behind_marks bytes part (parts_in bound (rows_from on b n ls))) [] (end_after q (ending ++ all_of ls))
    behind_goes bound part fits q b n [] spans lines ends here few track =
        let ending = ending_seats (is_held part) part.first part.more in
        let exit = exits_go t bytes (end_of bytes part) q here (track-place t bytes q (ending ++ []) track) [] part.frames in
        let end = ending_goes part fits [] q [] track in
        let none : parts_in bound [] ≡ [] = none_in bound in
        let all : end_after q ending ≡ end_after q (ending ++ []) = ap (end_after q) (sym (append-nil ending)) in
        subst (λ (ps : List Part). Goes t bytes part.frames q (behind_marks bytes part ps) [] (end_after q (ending ++ []))) (sym none)
        (subst (Goes t bytes part.frames q (behind_marks bytes part []) []) all (goes_both t bytes part.frames q (exits bytes part.frames (end_of bytes part)) [] q (ending_marks bytes part) [] (end_after q ending) exit end))
    behind_goes zero part fits q b n (l ∷ ls) spans lines ends here few track = absurd (omega (arith, few))
    behind_goes (suc bound) part fits q b n (l ∷ ls) spans lines ends here few track =
        let is = is_part on (plain_reads on) part.frames b n l ls spans in
        let next = part_at b n l ls in
        let next_fits = part_fits b n l ls part.frames is lines ends in
        let rest = is.behind.lines in
        let kept = is.turn.kept in
        let ended = is.turn.ended in
        let ending = ending_seats (is_held part) part.first part.more in
        let seats = seats_of (is_held next) next.first next.more in
        let last = ending_seats (is_held next) next.first next.more in
        let all : all_of (l ∷ ls) ≡ seats ++ (last ++ all_of rest) = all_lines b n l ls part.frames is next_fits in
        let a = end_after q ending in
        let c = end_after a seats in
        let track1 : Track t bytes a (seats ++ (last ++ all_of rest)) = subst (Track t bytes a) all (track-on t bytes q ending (all_of (l ∷ ls)) track) in
        let track2 : Track t bytes c (last ++ all_of rest) = track-on t bytes a seats (last ++ all_of rest) track1 in
        let gone : drop (shared part.frames next.frames) part.frames ≡ ended = (λ k. drop (is.turn.many k) (is.turn.before_are k)) ∙ (take_front kept ended (length kept) refl).1 in
        let exit : Goes t bytes part.frames q (exits bytes (drop (shared part.frames next.frames) part.frames) (end_of bytes part)) kept q =
        subst (λ (fs : List Frame). Goes t bytes part.frames q (exits bytes fs (end_of bytes part)) kept q) (sym gone)
        (subst (λ (fs : List Frame). Goes t bytes fs q (exits bytes ended (end_of bytes part)) kept q) (sym is.turn.before_are) (exits_go t bytes (end_of bytes part) q here (track-place t bytes q (ending ++ all_of (l ∷ ls)) track) kept ended)) in
        let end = ending_goes part fits kept q (all_of (l ∷ ls)) track in
        let whole : Goes t bytes kept a (part_marks bytes next) next.frames c =
        subst (λ (fs : List Frame). Goes t bytes kept a (part_marks bytes next) fs c) (sym is.turn.after_are) (part_goes next next_fits kept a (all_of rest) track1) in
        let shows : shown bytes (end_of bytes next) ≡ c = end_of_rows (is_held next) next.first next.more (all_of rest) a next_fits.first next_fits.others track1 in
        let size : length (l ∷ ls) ≡ suc (length (lines_of next.more) + length rest) = ap (λ (xs : List Line). suc (length xs)) is.behind.all ∙ ap suc (length-append (lines_of next.more) rest) in
        let left = every-back LineIs (lines_of next.more) rest (subst (AllByRecursion LineIs) is.behind.all lines.1) in
        let left_end = lines_end_behind (l ∷ lines_of next.more) rest (subst (λ (xs : List Line). LinesEnd (l ∷ xs)) is.behind.all ends) in
        let others : Goes t bytes next.frames c (behind_marks bytes next (parts_in bound (rows_from on is.behind.state is.behind.number rest))) [] (end_after c (last ++ all_of rest)) =
        behind_goes bound next next_fits c is.behind.state is.behind.number rest is.behind.are_open left left_end shows (omega (arith, few, size)) track2 in
        let more = parts_in bound (drop (many b n l ls) (behind b n l ls)) in
        let tail : Goes t bytes next.frames c (behind_marks bytes next more) [] (end_after c (last ++ all_of rest)) =
        subst (λ (rs : List Row). Goes t bytes next.frames c (behind_marks bytes next (parts_in bound rs)) [] (end_after c (last ++ all_of rest))) (sym is.behind.rest) others in
        let final : end_after c (last ++ all_of rest) ≡ end_after q (ending ++ all_of (l ∷ ls)) =
        sym (end-after-append a seats (last ++ all_of rest)) ∙ ap (end_after a) (sym all) ∙ sym (end-after-append q ending (all_of (l ∷ ls))) in
        let z = end_after c (last ++ all_of rest) in
        subst (Goes t bytes part.frames q (behind_marks bytes part (next ∷ more)) []) final
        (goes_both t bytes part.frames q (exits bytes (drop (shared part.frames next.frames) part.frames) (end_of bytes part)) kept q (ending_marks bytes part ++ (part_marks bytes next ++ behind_marks bytes next more)) [] z exit
        (goes_both t bytes kept q (ending_marks bytes part) kept a (part_marks bytes next ++ behind_marks bytes next more) [] z end
        (goes_both t bytes kept a (part_marks bytes next) next.frames c (behind_marks bytes next more) [] z whole tail)))

    pub none_front : (xs ys : List Frame) → [] ≡ xs ++ ys → xs ≡ []
    none_front [] ys e = refl
    none_front (x ∷ xs) ys e = absurd (false≢true (sym (ap has_none e)))

    -- The marks of a document's parts go over all its virtual bytes, and no span is open behind them
    pub all_parts_go : (ls : List Line) (p : Point) → AllByRecursion LineIs ls → LinesEnd ls → Track t bytes p (all_of ls) → Goes t bytes [] p (parts_marks bytes (parts (rows on ls))) [] (end_after p (all_of ls))
    all_parts_go [] p lines ends track = goes_none t bytes [] p
    all_parts_go (l ∷ ls) p lines ends track =
        let b = nothing_known on in
        let spans = none_are_open on (plain_reads on) b (l ∷ ls) refl refl in
        let is = is_part on (plain_reads on) [] b 1 l ls spans in
        let next = part_at b 1 l ls in
        let next_fits = part_fits b 1 l ls [] is lines ends in
        let rest = is.behind.lines in
        let kept = is.turn.kept in
        let seats = seats_of (is_held next) next.first next.more in
        let last = ending_seats (is_held next) next.first next.more in
        let all : all_of (l ∷ ls) ≡ seats ++ (last ++ all_of rest) = all_lines b 1 l ls [] is next_fits in
        let c = end_after p seats in
        let track1 : Track t bytes p (seats ++ (last ++ all_of rest)) = subst (Track t bytes p) all track in
        let track2 : Track t bytes c (last ++ all_of rest) = track-on t bytes p seats (last ++ all_of rest) track1 in
        let whole : Goes t bytes [] p (part_marks bytes next) next.frames c =
        subst (λ (fs : List Frame). Goes t bytes fs p (part_marks bytes next) next.frames c) (none_front kept is.turn.ended is.turn.before_are)
        (subst (λ (fs : List Frame). Goes t bytes kept p (part_marks bytes next) fs c) (sym is.turn.after_are) (part_goes next next_fits kept p (all_of rest) track1)) in
        let shows : shown bytes (end_of bytes next) ≡ c = end_of_rows (is_held next) next.first next.more (all_of rest) p next_fits.first next_fits.others track1 in
        let bound = length (behind b 1 l ls) in
        let size : length ls ≡ length (lines_of next.more) + length rest = ap (λ (xs : List Line). length xs) is.behind.all ∙ length-append (lines_of next.more) rest in
        let same : bound ≡ length ls = rows_length (row_of on) (known_after on) (known_after on b (head b 1 l ls)) 2 ls in
        let left = every-back LineIs (lines_of next.more) rest (subst (AllByRecursion LineIs) is.behind.all lines.1) in
        let left_end = lines_end_behind (l ∷ lines_of next.more) rest (subst (λ (xs : List Line). LinesEnd (l ∷ xs)) is.behind.all ends) in
        let others = behind_goes bound next next_fits c is.behind.state is.behind.number rest is.behind.are_open left left_end shows (omega (arith, size, same)) track2 in
        let more = parts_in bound (drop (many b 1 l ls) (behind b 1 l ls)) in
        let z = end_after c (last ++ all_of rest) in
        let tail : Goes t bytes next.frames c (behind_marks bytes next more) [] z = subst (λ (rs : List Row). Goes t bytes next.frames c (behind_marks bytes next (parts_in bound rs)) [] z) (sym is.behind.rest) others in
        let final : z ≡ end_after p (all_of (l ∷ ls)) = sym (end-after-append p seats (last ++ all_of rest)) ∙ ap (end_after p) (sym all) in
        subst (Goes t bytes [] p (part_marks bytes next ++ behind_marks bytes next more) []) final (goes_both t bytes [] p (part_marks bytes next) next.frames c (behind_marks bytes next more) [] z whole tail)
