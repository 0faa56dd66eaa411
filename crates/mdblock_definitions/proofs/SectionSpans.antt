-- The marks of a document's sections account for all its virtual bytes.
use Rattle.std.proofs.Common.{◌≡◌, ℕ, true, false, cond, List, [], ◌∷◌, ◌++◌, append-nil, append_assoc, drop, length, refl, sym, ap, subst, take, ◌∙◌}
use Rattle.std.specs.Prelude.{None}
use Rattle.std.specs.List.{AllByRecursion}
use Rattle.std.proofs.lemmas.List.{take-append-drop}
use Rattle.markdown_base.specs.declared.configuration.Constructs.{Constructs}
use Rattle.markdown_base.specs.declared.event.Name.TheVariants as name
use Rattle.markdown_base.specs.Virtual.{Seat, virtual}
use Rattle.markdown_tokenizer.proofs.Positions.Order.{every-back, every-front}
use Rattle.mdconstructs_machines.proofs.BlockReads.Accounts.{lines-are-all}
use Rattle.mdconstructs_machines.specs.Innermost.{AccountFor}
use Rattle.mdconstructs_machines.specs.LineEvents.{all_of, line_text, lines_in}
use Rattle.mdblock_leaf_blocks.proofs.Marks.MarkAccounts.{AreSpans, bare}
use Rattle.mdblock_leaf_blocks.specs.LeafBlocks.{Line}
use Rattle.mdblock_leaf_blocks.specs.LeafEvents.{Mark, white}
use Rattle.mdblock_lines.specs.Containers.{Prefix}
use Rattle.mdblock_containers.proofs.Innermost.Parts.{chunks_spans, ending_spans, front_spans, inside_spans}
use Rattle.mdblock_containers.proofs.Innermost.Spans.{Accounts, both_account, chained_spans, exits_account}
use Rattle.mdblock_containers.proofs.PartGoes.{cut, front_is, lines_of}
use Rattle.mdblock_containers.proofs.SeatFacts.{LineIs, LinesEnd, document_lines, lines_end}
use Rattle.mdblock_containers.specs.Prefixes.{columns_of}
use Rattle.mdblock_containers.specs.Rows.{has_none, holds_ending}
use Rattle.mdblock_containers.specs.Skeleton.{begun_all, chunks_of, end_of, ending_marks, exits, inside_of, is_held, joined_pieces, pieces_of, prefixes_marks, shared, last_of}
use Rattle.mdblock_containers.proofs.AnySpans.{accounts-kept-by}
use Rattle.mdblock_table_marks.proofs.TableShapes.{tables-are-spans}
use Rattle.mdblock_table_marks.specs.TableMarks.{table_marks}
use Rattle.mdinline_labels.specs.declared.definitions.Definition.{Definition}
use Rattle.mdblock_definitions.specs.Definitions.{definitions_marks, places_in}
use Rattle.mdblock_definitions.specs.SkeletonLaws.{SkeletonsAccount}
use Rattle.mdblock_definitions.specs.Rows.{rows}
use Rattle.mdblock_definitions.specs.Sections.{Inside, Section, defined, lines, sections, table}
use Rattle.mdblock_definitions.specs.Skeleton.{all_rows, behind_definitions, behind_marks, inside_marks, section_marks, sections_marks}
use Rattle.mdblock_definitions.proofs.Covered.{rows_of}
use Rattle.mdblock_definitions.proofs.DefinitionLines.{AreDefined}
use Rattle.mdblock_definitions.proofs.DefinitionMarks.{definitions-are-spans}
use Rattle.mdblock_definitions.proofs.SectionGoes.{all-seats, defined-seats, ending, ends-front, ends-rest, first-fits, fitted, inner, lines_in_all, others-fit, part, part-is, seats, text-behind, table-seats}
use Rattle.mdblock_definitions.proofs.SectionTurns.{AreCut, InsideIs, RowIs, SectionIs, all-of-sections, document-cut, document-lines}

module _ (t : ℕ) (bytes : List ℕ) where
  abbrev P : List Mark → List Seat → Type 0
  P = AreSpans bytes

  module _ (s : Section) (is : SectionIs bytes s) (fits : AllByRecursion RowIs (all_rows s.part)) (ends : LinesEnd (lines_of (all_rows s.part))) where
    abbrev within : List Seat
    within = inner t bytes s is fits ends

    lines-spans : P (inside_of bytes s.part) within
    lines-spans =
        let r = s.part.first in
        let by = λ (l : List Prefix). cond r.is_blank (white bytes (line_text (drop (cond (has_none r.begun) (columns_of l) r.columns) r.line)))
        (elim (joined_pieces bytes (pieces_of bytes (is_held s.part) r s.part.more)) as (λ _. List Mark) [ [] ↦ [] | x ∷ xs ↦ chunks_of bytes false (record x { before = [] } ∷ xs) ]) in
        subst (λ (ms : List Mark). P ms within) (ap by (fitted t bytes s is fits ends).same) (inside_spans t bytes (part t bytes s is fits ends) (part-is t bytes s is fits ends))

    behind-spans : (filled : s.part.first.is_blank ≡ false) → P (behind_definitions bytes s.part) within
    behind-spans filled =
        let x = text-behind t bytes s is fits ends filled in
        let chunks = chunks_of bytes false (record x.piece { before = [] } ∷ x.others) in
        let pieces = chunks_spans t bytes (part t bytes s is fits ends) (part-is t bytes s is fits ends) (x.piece ∷ x.others) x.piece.before x.behind x.piece.seats x.joined in
        subst (λ (ms : List Mark). P ms within) (sym x.marks) (subst (P (white bytes x.front ++ chunks)) (sym x.splits) ((accounts-kept-by bytes).both (white bytes x.front) chunks x.front x.behind ((accounts-kept-by bytes).alone name.SpaceOrTab x.front) pieces))

    defined-spans : (filled : s.part.first.is_blank ≡ false) (ds : List Definition) → AreDefined bytes ds (all_rows s.part) → P (definitions_marks bytes ds (places_in bytes (all_rows s.part))) within
    defined-spans filled ds d =
        let ms = definitions_marks bytes ds (places_in bytes (all_rows s.part)) in
        subst (P ms) (defined-seats t bytes s is fits ends filled ds d) (definitions-are-spans bytes ds (all_rows s.part) d.laid (first-fits t bytes s is fits ends, others-fit t bytes s is fits ends))

    table-spans : (filled : s.part.first.is_blank ≡ false) → holds_ending (last_of s.part.first s.part.more).leaf ≡ false → P (table_marks bytes s.part) within
    table-spans filled free = subst (P (table_marks bytes s.part)) (table-seats t bytes s is fits ends filled free) (tables-are-spans bytes s.part.first s.part.more)

    inside-are-spans : P (inside_marks bytes s.part s.inside) within
    inside-are-spans = by s.inside is.inside
      where
        by : (i : Inside) → InsideIs bytes s.part i → P (inside_marks bytes s.part i) within
        by (lines true) h = behind-spans (h refl)
        by (lines false) h = lines-spans
        by (defined ds) h = defined-spans h.1 ds h.0
        by table h = table-spans h.0 h.1

    -- the marks of a section account for its virtual bytes
    section-spans : P (section_marks bytes s) (seats t bytes s is fits ends)
    section-spans =
        let q = part t bytes s is fits ends in
        let h = part-is t bytes s is fits ends in
        let r = s.part.first in
        let n = cut t bytes q h in
        let all = seats t bytes s is fits ends in
        let ms = inside_marks bytes s.part s.inside in
        let went = prefixes_marks bytes (take (length q.stands) r.went_on) r.line in
        let begun = begun_all bytes r.begun (drop (columns_of r.went_on) r.line) in
        let split : take n r.line ++ drop n all ≡ all = ap (λ l. l ++ drop n all) (sym (front_is t bytes q h)) ∙ take-append-drop n all in
        subst (λ (l : List Prefix). P (prefixes_marks bytes l r.line ++ (begun ++ ms)) all) (fitted t bytes s is fits ends).same
        (subst (λ (l : List Mark). P l all) (append_assoc went begun ms) (subst (P ((went ++ begun) ++ ms)) split ((accounts-kept-by bytes).both (went ++ begun) ms (take n r.line) (drop n all) (front_spans t bytes q h) inside-are-spans)))

    section-ends-spans : P (ending_marks bytes s.part) (ending t bytes s is fits ends)
    section-ends-spans = ending_spans t bytes (part t bytes s is fits ends) (part-is t bytes s is fits ends)

  module _ (on : Constructs) where
    -- what comes behind a section
    behind-account : (s : Section) (is : SectionIs bytes s) (fits : AllByRecursion RowIs (all_rows s.part)) (ends : LinesEnd (lines_of (all_rows s.part))) (ss : List Section) → AreCut bytes s.part.frames ss → AllByRecursion RowIs (rows_of ss) → LinesEnd (lines_in_all t bytes ss)
        → Accounts bytes (behind_marks bytes s.part ss) (ending t bytes s is fits ends ++ all_of (lines_in_all t bytes ss))
    behind-account s is fits ends [] are-cut rows-fit rows-end =
        let last = ending t bytes s is fits ends in
        subst (Accounts bytes (behind_marks bytes s.part [])) (sym (append-nil last))
        (both_account bytes (exits bytes s.part.frames (end_of bytes s.part)) (ending_marks bytes s.part) [] last (exits_account bytes s.part.frames (end_of bytes s.part)) (section-ends-spans s is fits ends).account)
    behind-account s is fits ends (n ∷ ss) are-cut rows-fit rows-end =
        let p = s.part in
        let fits-next = every-front RowIs (all_rows n.part) (rows_of ss) rows-fit in
        let ends-next = ends-front t bytes on n ss rows-end in
        let here-ends = ending t bytes s is fits ends in
        let text = seats t bytes n are-cut.1 fits-next ends-next in
        let last = ending t bytes n are-cut.1 fits-next ends-next in
        let rest = all_of (lines_in_all t bytes ss) in
        let gone = drop (shared p.frames n.part.frames) p.frames in
        let more = section_marks bytes n ++ behind_marks bytes n.part ss in
        let tail = behind-account n are-cut.1 fits-next ends-next ss are-cut.2 (every-back RowIs (all_rows n.part) (rows_of ss) rows-fit) (ends-rest t bytes on n ss rows-end) in
        let here = both_account bytes (section_marks bytes n) (behind_marks bytes n.part ss) text (last ++ rest) (section-spans n are-cut.1 fits-next ends-next).account tail in
        subst (λ l. Accounts bytes (behind_marks bytes p (n ∷ ss)) (here-ends ++ l)) (sym (all-seats t bytes n are-cut.1 fits-next ends-next ss))
        (both_account bytes (exits bytes gone (end_of bytes p)) (ending_marks bytes p ++ more) [] (here-ends ++ (text ++ (last ++ rest))) (exits_account bytes gone (end_of bytes p))
        (both_account bytes (ending_marks bytes p) more here-ends (text ++ (last ++ rest)) (section-ends-spans s is fits ends).account here))

    sections-account : (ss : List Section) → AreCut bytes [] ss → AllByRecursion RowIs (rows_of ss) → LinesEnd (lines_in_all t bytes ss) → Accounts bytes (sections_marks bytes ss) (all_of (lines_in_all t bytes ss))
    sections-account [] are-cut rows-fit rows-end = λ events more h. h
    sections-account (n ∷ ss) are-cut rows-fit rows-end =
        let fits-next = every-front RowIs (all_rows n.part) (rows_of ss) rows-fit in
        let ends-next = ends-front t bytes on n ss rows-end in
        let text = seats t bytes n are-cut.1 fits-next ends-next in
        let last = ending t bytes n are-cut.1 fits-next ends-next in
        let tail = behind-account n are-cut.1 fits-next ends-next ss are-cut.2 (every-back RowIs (all_rows n.part) (rows_of ss) rows-fit) (ends-rest t bytes on n ss rows-end) in
        subst (Accounts bytes (sections_marks bytes (n ∷ ss))) (sym (all-seats t bytes n are-cut.1 fits-next ends-next ss))
        (both_account bytes (section_marks bytes n) (behind_marks bytes n.part ss) text (last ++ all_of (lines_in_all t bytes ss)) (section-spans n are-cut.1 fits-next ends-next).account tail)

    all-sections-account : (ls : List Line) → AllByRecursion LineIs ls → LinesEnd ls → Accounts bytes (sections_marks bytes (sections on (rows on ls))) (all_of ls)
    all-sections-account ls are ends =
        let ss = sections on (rows on ls) in
        let same : lines_in_all t bytes ss ≡ ls = all-of-sections bytes on ls in
        subst (λ (l : List Line). Accounts bytes (sections_marks bytes ss) (all_of l)) same (sections-account ss (document-cut bytes on ls are) (document-lines bytes on ls are) (subst LinesEnd (sym same) ends))

-- Each virtual byte of a document is in one innermost span of its skeleton
pub skeletons-account : SkeletonsAccount
skeletons-account g is =
    let seats = virtual g.tab g.bytes in
    let on = g.options.constructs in
    let marks = sections_marks g.bytes (sections on (rows on (lines_in seats))) in
    let nothing : AccountFor [] g.bytes [] = record { stretches = []; are_all = refl; are_innermost = refl } in
    let whole = all-sections-account g.tab g.bytes on (lines_in seats) (document_lines g.tab g.bytes) (lines_end seats) [] [] nothing in
    let h : AccountFor (bare marks) g.bytes seats = subst (λ es. AccountFor es g.bytes seats) (append-nil (bare marks)) (subst (AccountFor (bare marks ++ []) g.bytes) (append-nil (all_of (lines_in seats)) ∙ lines-are-all seats) whole) in
    record { stretches = h.stretches; are_all = h.are_all; are_innermost = chained_spans 0 None marks ∙ h.are_innermost }
