-- What stands between the chunks of a skeleton is between the lines of its sections: the prefixes of lines.
use Rattle.mddocument_rules.proofs.Prelude.{◌≡◌, ◌∙◌, ◌==◌, ℕ, Bool, true, false, cond, not, List, [], ◌∷◌, ◌++◌, Some, None, append-nil, append_assoc, drop, every-back, every-front, length, map, refl, reverse, sym, ap, subst, take, cond_both, false≢true, not-true, AllByRecursion, flat_map, Event, Exit, Point, Seat, ending_of, event, Chunk, Mark, chunk_span, leaf_marks, white, indent, Container, Prefix, footnote, item, quote, Row, has_none, rest_of, Frame, Part, Piece, begin_of, begun_all, chunks_of, end_of, ending_marks, enters_of, is_held, joined_pieces, last_line, pieces_of, prefixes_marks, shared, Inside, Section, defined, lines, table, all_rows, behind_marks, inside_marks, section_marks, sections_marks, PieceIs, stretch-is}
use Rattle.markdown_base.specs.declared.event.Content.TheVariants as content
use Rattle.markdown_base.specs.declared.event.Name.TheVariants as name
use Rattle.mdblock_containers.specs.Prefixes.{columns_of}
use Rattle.mdblock_definitions.proofs.Covered.{rows_of}
use Rattle.mddocument_rules.proofs.Definitions.{begins-are, defined-in-rows, prefixes-are, table-in-part}
use Rattle.mddocument_rules.proofs.Gaps.{Apart, BetweenChunks, Gapped, apart-both, apart-by-all, apart-kept, apart-mark, apart-none, apart-span, between-none, chunk-gapped}

-- What is so of an event, by those behind it: of the exits of chunks, and of the events of prefixes of such lines
module _ (bytes : List ℕ) (Ok : Event → List Event → Type 0) (exits_are : (p : Point) (es : List Event) → Ok (event bytes Exit name.Data p) es)
    (Goes : Row → Type 0) (between-row : (row : Row) → Goes row → BetweenChunks Ok (prefixes_marks bytes row.went_on row.line)) where
  abbrev Rows : Part → Type 0
  Rows part = AllByRecursion Goes (all_rows part)

  abbrev BeforeIs : Piece bytes → Type 0
  BeforeIs p = PieceIs bytes (BetweenChunks Ok) p

  of-part : (part : Part) → Rows part → AllByRecursion BeforeIs (joined_pieces bytes (pieces_of bytes (is_held part) part.first part.more))
  of-part part h = stretch-is bytes (BetweenChunks Ok) Goes between-row part h

  -- ---- pieces
  piece-gapped : (has_previous : Bool) (ps : List (Piece bytes)) (waits : Bool) (s : List Seat) (ys : List Mark) → (waits ≡ true → has_none (s ++ flat_map (λ (q : Piece bytes). q.seats) ps) ≡ false)
      → ((w : Bool) → (w ≡ true → has_none (flat_map (λ (q : Piece bytes). q.seats) ps) ≡ false) → Gapped Ok w (chunks_of bytes true ps ++ ys))
      → Gapped Ok waits (chunk_span bytes (Some (record { content = content.Content; has_previous = has_previous; has_next = not (has_none (flat_map (λ (q : Piece bytes). q.seats) ps)) })) name.Data s [] ++ (chunks_of bytes true ps ++ ys))
  piece-gapped has_previous ps waits [] ys some more = more waits some
  piece-gapped has_previous ps waits (s ∷ ss) ys some more =
      let next = not (has_none (flat_map (λ (q : Piece bytes). q.seats) ps)) in
      let chunk : Chunk = record { content = content.Content; has_previous = has_previous; has_next = next } in
      chunk-gapped Ok bytes exits_are waits chunk s ss (chunks_of bytes true ps ++ ys) (more next (λ e. not-true (has_none (flat_map (λ (q : Piece bytes). q.seats) ps)) e))

  -- a chunk has a next one only if a piece behind it is not empty
  chunks-gapped : (has_previous : Bool) (ps : List (Piece bytes)) → AllByRecursion BeforeIs ps → (waits : Bool) → (waits ≡ true → has_none (flat_map (λ (q : Piece bytes). q.seats) ps) ≡ false) → (ys : List Mark) → Gapped Ok false ys
      → Gapped Ok waits (chunks_of bytes has_previous ps ++ ys)
  chunks-gapped has_previous [] h true some ys g = absurd (false≢true (sym (some refl)))
  chunks-gapped has_previous [] h false some ys g = g
  chunks-gapped has_previous (p ∷ ps) h waits some ys g =
      let next = not (has_none (flat_map (λ (q : Piece bytes). q.seats) ps)) in
      let chunk : List Seat → List Mark = λ s. chunk_span bytes (Some (record { content = content.Content; has_previous = has_previous; has_next = next })) name.Data s [] in
      let more = chunks_of bytes true ps in
      let rest : Gapped Ok waits (chunk p.seats ++ (more ++ ys)) = piece-gapped has_previous ps waits p.seats ys some (λ w k. chunks-gapped true ps h.1 w k ys g) in
      subst (Gapped Ok waits) (sym (append_assoc p.before (chunk p.seats ++ more) ys ∙ ap (λ l. p.before ++ l) (append_assoc (chunk p.seats) more ys))) (h.0.go waits (chunk p.seats ++ (more ++ ys)) rest)

  -- ---- what is in a section
  chunks-apart : (ps : List (Piece bytes)) → AllByRecursion BeforeIs ps → Apart Ok (chunks_of bytes false ps)
  chunks-apart ps h = record { go = λ ys g. chunks-gapped false ps h false (λ e. absurd (false≢true e)) ys g }

  white-apart : (seats : List Seat) → Apart Ok (white bytes seats)
  white-apart seats = apart-span Ok bytes name.SpaceOrTab seats [] (apart-none Ok)

  stretch-apart : (ps : List (Piece bytes)) → AllByRecursion BeforeIs ps → Apart Ok (elim ps [ [] ↦ [] | p ∷ ps ↦ chunks_of bytes false (record p { before = [] } ∷ ps) ])
  stretch-apart [] h = apart-none Ok
  stretch-apart (p ∷ ps) h = chunks-apart (record p { before = [] } ∷ ps) (between-none Ok, h.1)

  behind-lines : (columns : ℕ) (ps : List (Piece bytes)) → AllByRecursion BeforeIs ps
      → Apart Ok (elim ps [ [] ↦ [] | p ∷ ps ↦ white bytes (take columns p.seats) ++ chunks_of bytes false (record p { before = []; seats = drop columns p.seats } ∷ ps) ])
  behind-lines columns [] h = apart-none Ok
  behind-lines columns (p ∷ ps) h =
      apart-both Ok (white bytes (take columns p.seats)) (chunks_of bytes false (record p { before = []; seats = drop columns p.seats } ∷ ps)) (white-apart (take columns p.seats))
      (chunks-apart (record p { before = []; seats = drop columns p.seats } ∷ ps) (between-none Ok, h.1))

  inside-apart : (part : Part) (inside : Inside) → Rows part → Apart Ok (inside_marks bytes part inside)
  inside-apart part (lines true) h = behind-lines (indent (rest_of part.first)) (joined_pieces bytes (pieces_of bytes (is_held part) part.first part.more)) (of-part part h)
  inside-apart part (lines false) h = cond_both part.first.is_blank _ _ (Apart Ok) (λ e. white-apart _) (λ e. stretch-apart (joined_pieces bytes (pieces_of bytes (is_held part) part.first part.more)) (of-part part h))
  inside-apart part (defined ds) h =
      defined-in-rows (apart-kept Ok bytes) (Apart Ok) (apart-none Ok) (apart-both Ok) (λ ms h. h) (λ seats inside h. apart-span Ok bytes name.Definition seats inside h) ds (all_rows part)
  inside-apart part table h = table-in-part (apart-by-all Ok bytes) (Apart Ok) (λ ms h. h) (λ seats inside h. apart-span Ok bytes name.GfmTable seats inside h) part

  -- ---- sections
  enters-apart : (c : Container) (place : Point) → Apart Ok (enters_of bytes c place)
  enters-apart (quote q) place = apart-mark Ok _
  enters-apart (footnote f) place = apart-mark Ok _
  enters-apart (item i) place = apart-both Ok _ _ (cond_both (i.list == i.line) _ [] (Apart Ok) (λ e. apart-mark Ok _) (λ e. apart-none Ok)) (apart-mark Ok _)

  begun-apart : (ps : List Prefix) (seats : List Seat) → Apart Ok (begun_all bytes ps seats)
  begun-apart [] seats = apart-none Ok
  begun-apart (p ∷ ps) seats = apart-both Ok _ _ (enters-apart p.container (begin_of seats)) (apart-both Ok _ _ (begins-are (apart-kept Ok bytes) p.container (take p.size seats)) (begun-apart ps (drop p.size seats)))

  section-apart : (s : Section) → Rows s.part → Apart Ok (section_marks bytes s)
  section-apart s h =
      apart-both Ok _ _ (prefixes-are (apart-kept Ok bytes) (take (length s.part.stands) s.part.first.went_on) s.part.first.line)
      (apart-both Ok _ _ (begun-apart s.part.first.begun (drop (columns_of s.part.first.went_on) s.part.first.line)) (inside-apart s.part s.inside h))

  exits-apart : (fs : List Frame) (place : Point) → Apart Ok (map (λ (f : Frame). (event bytes Exit f.name place, None)) fs)
  exits-apart [] place = apart-none Ok
  exits-apart (f ∷ fs) place = apart-both Ok ((event bytes Exit f.name place, None) ∷ []) _ (apart-mark Ok (event bytes Exit f.name place)) (exits-apart fs place)

  ends-apart : (part : Part) → Apart Ok (ending_marks bytes part)
  ends-apart part =
      let n = cond part.first.is_blank name.BlankLineEnding name.LineEnding in
      let seats = ending_of (last_line bytes part) in
      cond_both (is_held part) [] (leaf_marks bytes n seats) (Apart Ok) (λ e. apart-none Ok) (λ e. apart-span Ok bytes n seats [] (apart-none Ok))

  behind-apart : (part : Part) (ss : List Section) → AllByRecursion Goes (rows_of ss) → Apart Ok (behind_marks bytes part ss)
  behind-apart part [] h = apart-both Ok _ _ (exits-apart (reverse part.frames) (end_of bytes part)) (ends-apart part)
  behind-apart part (next ∷ more) h =
      apart-both Ok _ _ (exits-apart (reverse (drop (shared part.frames next.part.frames) part.frames)) (end_of bytes part))
      (apart-both Ok _ _ (ends-apart part) (apart-both Ok _ _ (section-apart next (every-front Goes (all_rows next.part) (rows_of more) h)) (behind-apart next.part more (every-back Goes (all_rows next.part) (rows_of more) h))))

  pub sections-gapped : (ss : List Section) → AllByRecursion Goes (rows_of ss) → Gapped Ok false (sections_marks bytes ss)
  sections-gapped [] h = tt
  sections-gapped (s ∷ more) h =
      subst (Gapped Ok false) (append-nil (section_marks bytes s ++ behind_marks bytes s.part more))
      ((apart-both Ok _ _ (section-apart s (every-front Goes (all_rows s.part) (rows_of more) h)) (behind-apart s.part more (every-back Goes (all_rows s.part) (rows_of more) h))).go [] tt)
