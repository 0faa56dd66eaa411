-- The skeleton of a document: its containers, its definitions and its chunks stand where they may.
use Rattle.mddocument_rules.proofs.Prelude.{◌≡◌, ◌∙◌, ◌⊎◌, ℕ, Bool, true, false, cond, not, List, [], ◌∷◌, ◌++◌, Some, append-nil, append_assoc, drop, inl, inr, length, refl, sym, ap, subst, take, cond_both, or_right, AllByRecursion, flat_map, Seat, ending_of, line_text, Chunk, Mark, chunk_span, leaf_marks, span_marks, white, indent, Turn, all_entered, Row, has_none, rest_of, Frame, Part, Piece, begun_all, chunks_of, end_of, ending_marks, exits, inside_of, is_held, joined_pieces, last_line, pieces_of, prefixes_marks, shared, Inside, Section, defined, lines, table, all_rows, behind_marks, inside_marks, section_marks, sections_marks, every-all, PieceIs, stretch-is, holds_blocks, is_in, may_stand, list_names}
use Rattle.std.proofs.Math.Seq.{drop-append_seam}
use Rattle.markdown_base.specs.declared.event.Content.TheVariants as content
use Rattle.markdown_base.specs.declared.event.Name.TheVariants as name
use Rattle.mdblock_containers.specs.Prefixes.{columns_of}
use Rattle.mddocument_rules.proofs.Definitions.{defined-in-rows, table-in-part}
use Rattle.mddocument_rules.proofs.Frames.{Anywhere, Stacked, anywhere-free, anywhere-none, begun-stand, between-leaf, exits-stand, prefixes-pass, spaces, stacked-behind, within, within-both}
use Rattle.mddocument_rules.proofs.Passes.{free-by-all, free-kept, AsBlocks, Free, MarksStand, Passes, blocks-both, blocks-none, chunk-passes, free-as-blocks, passes-both, span-passes}
use Rattle.mddocument_rules.proofs.Places.{blocks-apart, free-may}

module _ (bytes : List ℕ) where
  -- ---- pieces
  -- what is before a piece stands anywhere
  abbrev BeforeIs : Piece bytes → Type 0
  BeforeIs p = PieceIs bytes Anywhere p

  of-part : (part : Part) → AllByRecursion BeforeIs (joined_pieces bytes (pieces_of bytes (is_held part) part.first part.more))
  of-part part = stretch-is bytes Anywhere (λ (row : Row). Unit {0}) (λ row u. prefixes-pass bytes row.went_on row.line) part (every-all (λ (row : Row). Unit {0}) (λ row. tt) (all_rows part))

  chunks-pass : (has_previous : Bool) (ps : List (Piece bytes)) → AllByRecursion BeforeIs ps → AsBlocks (chunks_of bytes has_previous ps)
  chunks-pass has_previous [] h = blocks-none
  chunks-pass has_previous (p ∷ ps) h =
      let c : Chunk = record { content = content.Content; has_previous = has_previous; has_next = not (has_none (flat_map (λ (q : Piece bytes). q.seats) ps)) } in
      record {
        passes = λ around b.
            passes-both around p.before (chunk_span bytes (Some c) name.Data p.seats [] ++ chunks_of bytes true ps) (h.0.passes around)
            (passes-both around (chunk_span bytes (Some c) name.Data p.seats []) (chunks_of bytes true ps) (chunk-passes bytes around c name.Data p.seats (free-may around name.Data refl (blocks-apart around b), b))
            ((chunks-pass true ps h.1).passes around b));
      }

  -- ---- what is in a section
  -- marks that stand where blocks may
  white-blocks : (seats : List Seat) → AsBlocks (white bytes seats)
  white-blocks seats = free-as-blocks (white bytes seats) (anywhere-free (white bytes seats) (spaces bytes seats))

  stretch-blocks : (ps : List (Piece bytes)) → AllByRecursion BeforeIs ps → AsBlocks (elim ps [ [] ↦ [] | p ∷ ps ↦ chunks_of bytes false (record p { before = [] } ∷ ps) ])
  stretch-blocks [] h = blocks-none
  stretch-blocks (p ∷ ps) h = chunks-pass false (record p { before = [] } ∷ ps) (anywhere-none, h.1)

  behind-blocks : (columns : ℕ) (ps : List (Piece bytes)) → AllByRecursion BeforeIs ps
      → AsBlocks (elim ps [ [] ↦ [] | p ∷ ps ↦ white bytes (take columns p.seats) ++ chunks_of bytes false (record p { before = []; seats = drop columns p.seats } ∷ ps) ])
  behind-blocks columns [] h = blocks-none
  behind-blocks columns (p ∷ ps) h =
      blocks-both (white bytes (take columns p.seats)) (chunks_of bytes false (record p { before = []; seats = drop columns p.seats } ∷ ps)) (white-blocks (take columns p.seats)) (chunks-pass false (record p { before = []; seats = drop columns p.seats } ∷ ps) (anywhere-none, h.1))

  definition-blocks : (seats : List Seat) (inside : List Mark) → Free inside → AsBlocks (span_marks bytes name.Definition seats inside)
  definition-blocks seats inside h = record { passes = λ around b. span-passes bytes around name.Definition seats inside (b, tt) (h.passes (name.Definition ∷ around) refl) (λ e. h.passes around (blocks-apart around b)) }

  table-blocks : (seats : List Seat) (inside : List Mark) → Free inside → AsBlocks (span_marks bytes name.GfmTable seats inside)
  table-blocks seats inside h = record { passes = λ around b. span-passes bytes around name.GfmTable seats inside (b, tt) (h.passes (name.GfmTable ∷ around) refl) (λ e. h.passes around (blocks-apart around b)) }

  -- a blank line stands anywhere; other sections where blocks may
  abbrev pub IsRoomy : Section → Type 0
  IsRoomy s = ((s.inside ≡ lines false) × (s.part.first.is_blank ≡ true)) ⊎ (holds_blocks (within [] s.part.frames) ≡ true)

  abbrev blank-seats : (part : Part) → List Seat
  blank-seats part = line_text (drop (cond (has_none part.first.begun) (columns_of (take (length part.stands) part.first.went_on)) part.first.columns) part.first.line)

  abbrev blank-first : (part : Part) → List Mark
  blank-first part = white bytes (blank-seats part)

  lines-blocks : (part : Part) → AsBlocks (inside_of bytes part)
  lines-blocks part = cond_both part.first.is_blank (blank-first part) _ AsBlocks (λ e. white-blocks (blank-seats part)) (λ e. stretch-blocks (joined_pieces bytes (pieces_of bytes (is_held part) part.first part.more)) (of-part part))

  inside-blocks : (part : Part) (inside : Inside) → AsBlocks (inside_marks bytes part inside)
  inside-blocks part (lines true) = behind-blocks (indent (rest_of part.first)) (joined_pieces bytes (pieces_of bytes (is_held part) part.first part.more)) (of-part part)
  inside-blocks part (lines false) = lines-blocks part
  inside-blocks part (defined ds) = defined-in-rows (free-kept bytes) AsBlocks blocks-none blocks-both free-as-blocks definition-blocks ds (all_rows part)
  inside-blocks part table = table-in-part (free-by-all bytes) AsBlocks free-as-blocks table-blocks part

  inside-passes : (s : Section) → IsRoomy s → Passes (within [] s.part.frames) (inside_marks bytes s.part s.inside)
  inside-passes s h = elim h [
    | inl blank ↦
        subst (λ i. Passes (within [] s.part.frames) (inside_marks bytes s.part i)) (sym blank.0)
        (subst (λ x. Passes (within [] s.part.frames) (cond x (blank-first s.part) (elim (joined_pieces bytes (pieces_of bytes (is_held s.part) s.part.first s.part.more)) as (λ _. List Mark) [ [] ↦ [] | p ∷ ps ↦ chunks_of bytes false (record p { before = [] } ∷ ps) ]))) (sym blank.1)
        ((spaces bytes (blank-seats s.part)).passes (within [] s.part.frames)))
    | inr room ↦ (inside-blocks s.part s.inside).passes (within [] s.part.frames) room
  ]

  -- ---- one section
  -- A section: what is entered in it, and in which spans it stands
  pub record StandsIn (fs : List Frame) (s : Section) : Type 0 where
    pub turn : Turn fs s.part.frames s.part.first.begun
    pub stacked : Stacked [] s.part.frames
    pub roomy : IsRoomy s

  abbrev pub AllStandIn : List Frame → List Section → Type 0
  AllStandIn fs [] = Unit {0}
  AllStandIn fs (s ∷ ss) = StandsIn fs s × AllStandIn s.part.frames ss

  section-stands : (fs : List Frame) (s : Section) (h : StandsIn fs s) (ys : List Mark) → MarksStand (within [] s.part.frames) ys → MarksStand (within [] h.turn.kept) (section_marks bytes s ++ ys)
  section-stands fs s h ys w =
      let first = s.part.first in
      let front = prefixes_marks bytes (take (length s.part.stands) first.went_on) first.line in
      let seats = drop (columns_of first.went_on) first.line in
      let begun = begun_all bytes first.begun seats in
      let inside = inside_marks bytes s.part s.inside in
      let kept = within [] h.turn.kept in
      let entered : Stacked kept (all_entered first.begun) = stacked-behind [] h.turn.kept (all_entered first.begun) (subst (Stacked []) h.turn.after_are h.stacked) in
      let same : within [] s.part.frames ≡ within kept (all_entered first.begun) = ap (within []) h.turn.after_are ∙ within-both [] h.turn.kept (all_entered first.begun) in
      let there : MarksStand (within kept (all_entered first.begun)) (inside ++ ys) = subst (λ a. MarksStand a (inside ++ ys)) same (inside-passes s h.roomy ys w) in
      let all : MarksStand kept (front ++ (begun ++ (inside ++ ys))) = (prefixes-pass bytes (take (length s.part.stands) first.went_on) first.line).passes kept (begun ++ (inside ++ ys)) (begun-stand bytes first.begun seats kept (inside ++ ys) entered there) in
      subst (MarksStand kept) (sym (append_assoc front (begun ++ inside) ys ∙ ap (λ l. front ++ l) (append_assoc begun inside ys))) all

  ends-pass : (part : Part) → Anywhere (ending_marks bytes part)
  ends-pass part =
      cond_both (is_held part) [] (leaf_marks bytes (cond part.first.is_blank name.BlankLineEnding name.LineEnding) (ending_of (last_line bytes part))) (Anywhere) (λ e. anywhere-none)
      (λ e. between-leaf bytes (cond part.first.is_blank name.BlankLineEnding name.LineEnding) (ending_of (last_line bytes part)) (λ around.
      cond_both part.first.is_blank name.BlankLineEnding name.LineEnding (λ n. may_stand around n ≡ true) (λ b. or_right (not (is_in list_names around)) true refl) (λ b. or_right (not (is_in list_names around)) true refl)))

  behind-stands : (part : Part) (ss : List Section) → AllStandIn part.frames ss → MarksStand (within [] part.frames) (behind_marks bytes part ss)
  behind-stands part [] h = exits-stand bytes (end_of bytes part) part.frames [] (ending_marks bytes part) (alone (ending_marks bytes part) ((ends-pass part).passes []))
    where
      alone : (ms : List Mark) → Passes [] ms → MarksStand [] ms
      alone ms k = subst (MarksStand []) (append-nil ms) (k [] tt)
  behind-stands part (next ∷ more) h =
      let turn = h.0.turn in
      let ended = drop (shared part.frames next.part.frames) part.frames in
      let is : ended ≡ turn.ended = (λ i. drop (turn.many i) (turn.before_are i)) ∙ drop-append_seam turn.kept turn.ended in
      let rest = ending_marks bytes part ++ (section_marks bytes next ++ behind_marks bytes next.part more) in
      let there : MarksStand (within [] turn.kept) rest =
      (ends-pass part).passes (within [] turn.kept) (section_marks bytes next ++ behind_marks bytes next.part more) (section-stands part.frames next h.0 (behind_marks bytes next.part more) (behind-stands next.part more h.1)) in
      let all : MarksStand (within (within [] turn.kept) turn.ended) (exits bytes turn.ended (end_of bytes part) ++ rest) = exits-stand bytes (end_of bytes part) turn.ended (within [] turn.kept) rest there in
      let around : within [] part.frames ≡ within (within [] turn.kept) turn.ended = ap (within []) turn.before_are ∙ within-both [] turn.kept turn.ended in
      subst (λ a. MarksStand a (exits bytes ended (end_of bytes part) ++ rest)) (sym around) (subst (λ (l : List Frame). MarksStand (within (within [] turn.kept) turn.ended) (exits bytes l (end_of bytes part) ++ rest)) (sym is) all)

  -- The marks of sections
  pub sections-stand : (ss : List Section) → AllStandIn [] ss → MarksStand [] (sections_marks bytes ss)
  sections-stand [] h = tt
  sections-stand (s ∷ more) h =
      let turn = h.0.turn in
      let none : within [] turn.kept ≡ [] = nothing-kept turn.kept turn.ended turn.before_are in
      subst (λ a. MarksStand a (section_marks bytes s ++ behind_marks bytes s.part more)) none (section-stands [] s h.0 (behind_marks bytes s.part more) (behind-stands s.part more h.1))
    where
      nothing-kept : (xs ys : List Frame) → [] ≡ xs ++ ys → within [] xs ≡ []
      nothing-kept [] ys e = refl
      nothing-kept (x ∷ xs) ys e = absurd (cc)
