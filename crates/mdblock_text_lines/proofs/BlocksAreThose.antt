-- The blocks of a document are those that are read of it with letters.
use Rattle.std.proofs.Common.{◌≡◌, ℕ, ◌<◌, ◌≤◌, Bool, true, false, cond, List, [], ◌∷◌, ◌++◌, ap, arith, drop, length, map, refl, subst, sym, ◌∙◌}
use Rattle.std.specs.Prelude.{◌||◌, is_none, is_some, Some}
use Rattle.std.specs.List.{AllByRecursion, flat_map, range_with_len}
use Rattle.std.proofs.lemmas.Bool.{false≢true, and_parts}
use Rattle.std.proofs.lemmas.List.{drop-append-le, drop-map, length-map}
use Rattle.std.proofs.lemmas.List.Sums.{prefix_len-le-length}
use Rattle.markdown_base.proofs.Common.{and-right, every-append}
use Rattle.markdown_base.specs.declared.configuration.Constructs.{Constructs}
use Rattle.markdown_base.specs.declared.event.Content.TheVariants.{Content}
use Rattle.markdown_base.specs.declared.event.Event.{Event}
use Rattle.markdown_base.specs.declared.event.Point.{Point}
use Rattle.markdown_base.specs.Places.{shown}
use Rattle.markdown_base.specs.Virtual.{Seat, virtual}
use Rattle.markdown_edits.specs.Links.{previous_of}
use Rattle.markdown_tokenizer.proofs.Positions.Order.{every-all, every-back, every-front, every-kept}
use Rattle.markdown_tokenizer.specs.Text.{Given, IsDocument, Text}
use Rattle.markdown_children.specs.Chains.{begins, fits, fitting_starts, some_fits}
use Rattle.markdown_children.specs.Children.{with_children}
use Rattle.markdown_children.specs.Reads.{text_from}
use Rattle.mdconstructs_machines.specs.LineEvents.{ending_of, line_text, lines_in}
use Rattle.mdblock_leaf_blocks.specs.LeafBlocks.{Line}
use Rattle.mdblock_leaf_blocks.specs.LeafEvents as now
use Rattle.mdblock_leaf_blocks.specs.LineKinds.{indent, is_blank_line, is_underline_of_marks, underline_rank}
use Rattle.mdblock_leaf_blocks.proofs.Lines.WholeLines.{IsWhole, whole-behind, whole-text}
use Rattle.mdblock_leaf_blocks.proofs.Marks.LeafSpans.{text-shorter}
use Rattle.mdconstructs_tables.specs.Breaks.{is_white}
use Rattle.mdblock_containers.proofs.LetterPlaces.{places_kept, texts_kept}
use Rattle.mdblock_containers.proofs.PartGoes.{lines_of}
use Rattle.mdblock_containers.proofs.SeatFacts.{LinesEnd, document_lines, drop_text, lines_end}
use Rattle.mdblock_containers.specs.Letters.{ArePlainFrom}
use Rattle.mdblock_containers.specs.Rows.{Row, has_none, rest_of}
use Rattle.mdblock_containers.specs.Skeleton.{Frame, is_held}
use Rattle.mdblock_definitions.proofs.Covered.{rows_of}
use Rattle.mdblock_definitions.proofs.KnownReads.{blank-unindented}
use Rattle.mdblock_definitions.proofs.PlainLetters.{letters-are-plain}
use Rattle.mdblock_definitions.proofs.SectionGoes.{ends-front, ends-rest, lines_in_all}
use Rattle.mdblock_definitions.proofs.SectionTurns.{AreCut, InsideIs, RowIs, SectionIs, all-of-sections, document-cut, document-lines}
use Rattle.mdblock_definitions.specs.Blocks.{document_skeleton, shown_as_text}
use Rattle.mdblock_definitions.specs.Blocks as old
use Rattle.mdblock_definitions.specs.Rows.{rows}
use Rattle.mdblock_definitions.specs.Sections.{Inside, Section, defined, lines, sections, table}
use Rattle.mdblock_definitions.specs.Skeleton.{all_rows, letters}
use Rattle.mdblock_text_lines.specs.Asked.{BlocksAreThose}
use Rattle.mdblock_text_lines.specs.DocumentBlocks.{has_number, texts_of_section}
use Rattle.mdblock_text_lines.specs.TextLines.{flow_events}
use Rattle.mdblock_text_lines.proofs.ChunkRuns.{chains-good}
use Rattle.mdblock_text_lines.proofs.LetterBlocks.{AllAlike, IsAlike, IsBehind, behind-alike, events-alike}
use Rattle.mdblock_text_lines.proofs.LetterKinds.{underline-is}
use Rattle.mdblock_text_lines.proofs.LetterMarks.{IsKept, lettered}
use Rattle.mdblock_text_lines.proofs.RowLines.{first-left, lazy-left, plain-left}
use Rattle.mdblock_text_lines.proofs.SectionsAreThose.{sections-are-those, skeleton-is-that}
use Rattle.mdblock_text_lines.proofs.SectionTexts.{BehindTails, IsFine, document-good}
use Rattle.mdblock_text_lines.proofs.StretchLines.{AreLeft, IsLeft, TextTails, ending-dropped, first-line, lines-left, only-line, texts}
use Rattle.mdblock_text_lines.proofs.ToldLines.{Flagged, IsTold, document-told, flagged, is_lazy_underline, numbers_of}

-- what would be an underline is not blank
underline-filled : (on : Constructs) (t : List ℕ) → is_some (underline_rank on t) ≡ true → is_blank_line t ≡ false
underline-filled on t e = by (is_blank_line t) refl
  where
    by : (b : Bool) → is_blank_line t ≡ b → b ≡ false
    by false h = refl
    by true h =
        let (m, is, marks, near) = underline-is on t e in
        absurd (false≢true (sym (ap (λ u. is_underline_of_marks m u) (blank-unindented t h)) ∙ marks))

module _ (g : Given) (is : IsDocument g) where
  abbrev on : Constructs
  on = g.options.constructs

  abbrev V : List Seat
  V = virtual g.tab g.bytes

  abbrev at : List ℕ
  at = letters on V

  abbrev numbers : List ℕ
  numbers = numbers_of on V

  abbrev is_text : Line → Bool
  is_text = has_number numbers

  abbrev given : Given
  given = shown_as_text g

  plain : ArePlainFrom 0 at g.bytes
  plain = letters-are-plain on g.tab g.bytes

  alike : (p : Point) → shown given.bytes p ≡ shown g.bytes p
  alike = (places_kept g.tab at g.bytes plain).shown_at

  some : 0 < g.tab
  some = let tab = is.tab.0 in omega (arith, tab)

  -- the leaf blocks of virtual bytes are those with letters
  abbrev Q : List Seat → Type 0
  Q seats = flow_events on is_text g.bytes seats ≡ now.flow_events on given.bytes (lettered at seats)

  abbrev P : Line → Type 0
  P = IsBehind on is_text at

  abbrev Alike : Line → Type 0
  Alike = IsAlike on is_text at

  abbrev Many : List Line → Type 0
  Many = AllAlike on is_text at given.bytes g.bytes alike

  so : (seats : List Seat) → AllByRecursion (IsKept at) seats → Many (lines_in seats) → Q seats
  so = events-alike on is_text at given.bytes g.bytes alike

  -- ---- lines that begin nothing
  texts-kept : (held : Bool) (r : Row) (more : List Row) → AreLeft P r more → AllByRecursion (IsKept at) (texts held r more)
  texts-kept true r [] h = h.line.alike.kept
  texts-kept false r [] h = subst (AllByRecursion (IsKept at)) (drop_text r.line r.columns h.whole h.few) h.text.alike.kept
  texts-kept held r (next ∷ more) h = every-append (IsKept at) (drop r.columns r.line) (texts held next more) h.0.line.alike.kept (texts-kept held next more h.2)

  one-text : (held : Bool) (r : Row) (more : List Row) → AreLeft P r more → Q (texts held r more)
  one-text held r more h = so (texts held r more) (texts-kept held r more h) (behind-alike on is_text at given.bytes g.bytes alike _ (lines-left P held r more h))

  tails : (held : Bool) (r : Row) (more : List Row) → AreLeft P r more → TextTails g.bytes Q held r more
  tails held r [] h = one-text held r [] h
  tails held r (next ∷ more) h = (one-text held r (next ∷ more) h, tails held next more h.2)

  -- ---- the first line directly behind definitions
  one-alike : (l : Line) → IsWhole l → Alike l → Many (lines_in l)
  one-alike [] w h = tt
  one-alike (s ∷ ss) w h = subst Many (sym (only-line (s ∷ ss) w refl)) (h, tt)

  module _ (r : Row) (whole : IsWhole r.line) (few : r.columns ≤ length (line_text r.line)) (first : let n = indent (rest_of r) in let l = drop r.columns r.line in Alike (drop n l) × Alike (drop n (line_text l))) where
    abbrev n : ℕ
    n = indent (rest_of r)

    abbrev l : Line
    l = drop r.columns r.line

    whole-left : IsWhole l
    whole-left = whole-behind r.columns r.line whole

    within : n ≤ length (line_text l)
    within =
        let same : length (rest_of r) ≡ length (line_text l) =
        ap length (drop-map (λ (x : Seat). x.byte) r.columns (line_text r.line)) ∙ length-map (drop r.columns (line_text r.line)) (λ (x : Seat). x.byte) ∙ sym (ap length (drop_text r.line r.columns whole few)) in
        subst (λ m. n ≤ m) same (prefix_len-le-length is_white (rest_of r))

    abbrev BehindOf : List Row → Type 0
    BehindOf [] = Unit {0}
    BehindOf (next ∷ more) = AreLeft P next more

    first-text : (held : Bool) (more : List Row) → (has_none more ≡ false → has_none (ending_of r.line) ≡ false) → BehindOf more → Q (drop n (texts held r more))
    first-text true [] e k = so (drop n l) first.0.kept (one-alike (drop n l) (whole-behind n l whole-left) first.0)
    first-text false [] e k =
        subst (λ x. Q (drop n x)) (drop_text r.line r.columns whole few)
        (so (drop n (line_text l)) first.1.kept (one-alike (drop n (line_text l)) (whole-behind n (line_text l) (whole-text l)) first.1))
    first-text held (next ∷ more) e k =
        let rest = texts held next more in
        let longer = text-shorter l whole-left in
        let inside = within in
        let split : drop n (l ++ rest) ≡ drop n l ++ rest = drop-append-le n l rest (omega (arith, inside, longer)) in
        let ending : has_none (ending_of (drop n l)) ≡ false = ap has_none (ending-dropped l n whole-left inside ∙ ending-dropped r.line r.columns whole few) ∙ e refl in
        subst Q (sym split)
        (so (drop n l ++ rest) (every-append (IsKept at) (drop n l) rest first.0.kept (texts-kept held next more k))
        (subst Many (sym (first-line (drop n l) rest (whole-behind n l whole-left) ending)) (first.0, lines-left P held next more k)))

  -- ---- sections
  row-left : (r : Row) → RowIs r → IsTold numbers at (r, is_lazy_underline on r) → IsLeft P r
  row-left r h told = by (is_lazy_underline on r) refl told
    where
      whole : IsWhole r.line
      whole = h.fits.line.whole

      few : r.columns ≤ length (line_text r.line)
      few = let c = h.fits.columns in let w = h.fits.within in omega (arith, c, w)

      by : (f : Bool) → is_lazy_underline on r ≡ f → IsTold numbers at (r, f) → IsLeft P r
      by false e k = let both = plain-left on numbers at r false k whole few refl in record { whole = whole; few = few; line = both.0; text = both.1 }
      by true e k =
          let under = and-right r.is_lazy (is_some (underline_rank on (rest_of r))) e in
          let both = lazy-left on numbers at r true k whole few refl (underline-filled on (rest_of r) under) under in
          record { whole = whole; few = few; line = both.0; text = both.1 }

  rows-left : (r : Row) (more : List Row) → AllByRecursion RowIs (r ∷ more) → LinesEnd (lines_of (r ∷ more)) → IsTold numbers at (r, is_lazy_underline on r) → AllByRecursion (IsTold numbers at) (map (λ (x : Row). (x, is_lazy_underline on x)) more)
      → AreLeft P r more
  rows-left r [] h ends told others = row-left r h.0 told
  rows-left r (next ∷ more) h ends told others = (row-left r h.0 told, ends.0, rows-left next more h.1 ends.1 others.0 others.1)

  one-fine : (s : Section) → SectionIs g.bytes s → AllByRecursion RowIs (all_rows s.part) → LinesEnd (lines_of (all_rows s.part)) → AllByRecursion (IsTold numbers at) (flagged on s) → IsFine g some Q s
  one-fine s known rs ends told = by s.inside known.inside told
    where
      r : Row
      r = s.part.first

      whole : IsWhole r.line
      whole = rs.0.fits.line.whole

      few : r.columns ≤ length (line_text r.line)
      few = let c = rs.0.fits.columns in let w = rs.0.fits.within in omega (arith, c, w)

      more-left : (qs : List Row) → AllByRecursion RowIs qs → LinesEnd (lines_of (r ∷ qs)) → AllByRecursion (IsTold numbers at) (map (λ (x : Row). (x, is_lazy_underline on x)) qs) → BehindTails g some Q (is_held s.part) qs
      more-left [] a b c = tt
      more-left (q ∷ qs) a b c = tails (is_held s.part) q qs (rows-left q qs a b.1 c.0 c.1)

      behind-left : (first : let n = indent (rest_of r) in let l = drop r.columns r.line in Alike (drop n l) × Alike (drop n (line_text l))) (qs : List Row) → AllByRecursion RowIs qs → LinesEnd (lines_of (r ∷ qs)) → AllByRecursion (IsTold numbers at) (map (λ (x : Row). (x, is_lazy_underline on x)) qs)
          → Q (drop (indent (rest_of r)) (texts (is_held s.part) r qs))
      behind-left first [] a b c = first-text r whole few first (is_held s.part) [] (λ e. absurd (false≢true (sym e))) tt
      behind-left first (q ∷ qs) a b c = first-text r whole few first (is_held s.part) (q ∷ qs) (λ e. b.0) (rows-left q qs a b.1 c.0 c.1)

      by : (i : Inside) → InsideIs g.bytes s.part i
          → AllByRecursion (IsTold numbers at) (elim i as (λ _. List Flagged) [
            | lines is_behind ↦ (s.part.first, is_behind || is_lazy_underline on s.part.first) ∷ map (λ (x : Row). (x, is_lazy_underline on x)) s.part.more
            | defined ds ↦ map (λ (x : Row). (x, false)) (all_rows s.part)
            | table ↦ map (λ (x : Row). (x, false)) (all_rows s.part)
          ])
          → (elim i as (λ _. Type 0) [
            | lines is_behind ↦ cond is_behind (Q (drop (indent (rest_of r)) (texts (is_held s.part) r s.part.more)) × BehindTails g some Q (is_held s.part) s.part.more) (r.is_blank ≡ false → TextTails g.bytes Q (is_held s.part) r s.part.more)
            | defined ds ↦ Unit {0}
            | table ↦ Unit {0}
          ])
      by (lines false) h k = λ e. tails (is_held s.part) r s.part.more (rows-left r s.part.more rs ends k.0 k.1)
      by (lines true) h k =
          let filled : is_blank_line (rest_of r) ≡ false = sym rs.0.fits.blank ∙ h refl in
          (behind-left (first-left on numbers at r true k.0 whole few refl filled) s.part.more rs.1 ends k.1, more-left s.part.more rs.1 ends k.1)
      by (defined ds) h k = tt
      by table h k = tt

  all-fine : (fs : List Frame) (ss : List Section) → AreCut g.bytes fs ss → AllByRecursion RowIs (rows_of ss) → LinesEnd (lines_in_all g.tab g.bytes ss) → AllByRecursion (IsTold numbers at) (flat_map (flagged on) ss) → AllByRecursion (IsFine g some Q) ss
  all-fine fs [] are-cut rs ends told = tt
  all-fine fs (s ∷ ss) are-cut rs ends told = (
    one-fine s are-cut.1 (every-front RowIs (all_rows s.part) (rows_of ss) rs) (ends-front g.tab g.bytes on s ss ends) (every-front (IsTold numbers at) (flagged on s) (flat_map (flagged on) ss) told),
    all-fine s.part.frames ss are-cut.2 (every-back RowIs (all_rows s.part) (rows_of ss) rs) (ends-rest g.tab g.bytes on s ss ends) (every-back (IsTold numbers at) (flagged on s) (flat_map (flagged on) ss) told),
  )

  fine : AllByRecursion (IsFine g some Q) (sections on (rows on (lines_in V)))
  fine =
      let ls = lines_in V in
      let ss = sections on (rows on ls) in
      let same : lines_in_all g.tab g.bytes ss ≡ ls = all-of-sections g.bytes on ls in
      let are = document_lines g.tab g.bytes in
      all-fine [] ss (document-cut g.bytes on ls are) (document-lines g.bytes on ls are) (subst LinesEnd (sym same) (lines_end V)) (document-told on g.tab g.bytes)

  -- ---- chains
  abbrev sk : List Event
  sk = document_skeleton g

  each : (c : ℕ) → begins (Some Content) sk c ≡ true → flow_events on is_text g.bytes (text_from g sk c).seats ≡ now.flow_events on given.bytes (text_from given sk c).seats
  each c b =
      let fit = and_parts (fits (Some Content) sk c) (is_none (previous_of sk c)) b in
      let q = chains-good g Q _ (document-good g some Q on fine) c (λ none. false≢true (ap (some_fits (Some Content)) (sym none) ∙ fit.0)) in
      q ∙ ap (λ (x : Text). now.flow_events on given.bytes x.seats) (sym (texts_kept at g plain sk c))

  all-each : (cs : List ℕ) → AllByRecursion (λ c. begins (Some Content) sk c ≡ true) cs
      → map (λ c. flow_events on is_text g.bytes (text_from g sk c).seats) cs ≡ map (λ c. now.flow_events on given.bytes (text_from given sk c).seats) cs
  all-each [] h = refl
  all-each (c ∷ cs) h = λ i. each c h.0 i ∷ all-each cs h.1 i

  blocks : with_children (Some Content) sk (map (λ c. flow_events on is_text g.bytes (text_from g sk c).seats) (fitting_starts (Some Content) sk)) ≡ old.document_blocks g
  blocks =
      let indices = range_with_len 0 (length sk) in
      let begin = every-kept (λ k. Unit {0}) (λ c. begins (Some Content) sk c ≡ true) (begins (Some Content) sk) (λ k u e. e) indices (every-all (λ k. Unit {0}) (λ k. tt) indices) in
      ap (with_children (Some Content) sk) (all-each (fitting_starts (Some Content) sk) begin)

-- and its sections are those of its code
pub blocks-are-those : BlocksAreThose
blocks-are-those g is =
    let on = g.options.constructs in
    (λ i.
    let sk = skeleton-is-that g i in
    let is_text = has_number (flat_map (texts_of_section on) (sections-are-those on (virtual g.tab g.bytes) i)) in
    with_children (Some Content) sk (map (λ c. flow_events on is_text g.bytes (text_from g sk c).seats) (fitting_starts (Some Content) sk)))
    ∙ blocks g is
