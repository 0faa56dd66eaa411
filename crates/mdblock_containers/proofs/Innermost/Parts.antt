-- The marks of a document's parts account for all its virtual bytes.
use Rattle.std.proofs.Common.{◌≡◌, ℕ, zero, suc, ◌+◌, ◌-◌, ◌≤◌, Bool, true, false, cond, List, [], ◌∷◌, ◌++◌, length, take, drop, refl, sym, ap, ◌∙◌, subst, arith, append_assoc, inr}
use Rattle.std.specs.List.{AllByRecursion}
use Rattle.std.specs.Prelude.{None}
use Rattle.std.proofs.lemmas.List.{append-nil, length-append, length-drop, take-append-drop}
use Rattle.markdown_base.specs.declared.configuration.Constructs.{Constructs}
use Rattle.markdown_base.specs.declared.event.Name.TheVariants as name
use Rattle.markdown_base.specs.Virtual.{Seat, virtual}
use Rattle.markdown_tokenizer.proofs.Positions.Order.{every-back}
use Rattle.mdblock_leaf_blocks.proofs.Lines.WholeLines.{whole-behind, whole-ending, whole-text}
use Rattle.mdblock_leaf_blocks.proofs.Marks.LeafSpans.{text-shorter}
use Rattle.mdblock_leaf_blocks.proofs.Marks.MarkAccounts.{AreSpans, accounts-kept, bare}
use Rattle.mdblock_leaf_blocks.proofs.Marks.MarkSpans.{no-spans, over, spans-both, spans-leaf}
use Rattle.mdblock_leaf_blocks.specs.LeafBlocks.{Line}
use Rattle.mdblock_leaf_blocks.specs.LeafEvents.{Mark, leaf_marks, white}
use Rattle.mdconstructs_machines.proofs.BlockReads.Accounts.{lines-are-all}
use Rattle.mdconstructs_machines.specs.Innermost.{AccountFor}
use Rattle.mdconstructs_machines.specs.LineEvents.{all_of, ending_of, line_text, lines_in}
use Rattle.mdblock_lines.specs.Containers.{Prefix}
use Rattle.mdblock_containers.proofs.FrameFacts.{none_is}
use Rattle.mdblock_containers.proofs.Innermost.Spans.{Accounts, both_account, begun_spans, chained_spans, exits_account, pieces_spans}
use Rattle.mdblock_containers.proofs.OpenFrames.{AreOpen, is_part, none_are_open, none_in}
use Rattle.mdblock_containers.proofs.PartGoes.{PartIs, all_in_front, all_lines, blank_seats, cut, cut_few, cut_is, ending_seats, first_piece, front_is, front_marks, last_fits, lines_end_behind, lines_of, no_prefix, other_pieces, part_at, part_fits, pieces_over, pieces_split, seats_of, behind, head}
use Rattle.mdblock_containers.proofs.Pieces.{AreJoined, Over, pieces_joined}
use Rattle.mdblock_containers.proofs.PrefixSpans.{prefixes_kept, take_more}
use Rattle.mdblock_containers.proofs.RowReads.{plain_reads, rows_length}
use Rattle.mdblock_containers.proofs.SeatFacts.{LineIs, LinesEnd, document_lines, drop_text, lines_end}
use Rattle.mdblock_containers.specs.Prefixes.{columns_of}
use Rattle.mdblock_containers.specs.Rows.{Before, Row, has_none, known_after, nothing_known, row_of, rows, rows_from}
use Rattle.mdblock_containers.specs.Skeleton.{Part, Piece, begun_all, behind_marks, chunks_of, end_of, ending_marks, exits, inside_of, is_held, joined_pieces, last_of, part_marks, parts, parts_in, parts_marks, pieces_of, prefixes_marks, shared}
use Rattle.mdblock_containers.specs.SkeletonSpans.{SkeletonsAccount}

module _ (t : ℕ) (bytes : List ℕ) where
  abbrev pub P : List Mark → List Seat → Type 0
  P = AreSpans bytes

  module _ (part : Part) (h : PartIs t bytes part) where
    abbrev pub r : Row
    r = part.first

    abbrev pub line : Line
    line = r.line

    abbrev pub m : ℕ
    m = length part.stands

    abbrev pub before : ℕ
    before = cut t bytes part h

    abbrev pub seats : List Seat
    seats = seats_of (is_held part) r part.more

    abbrev pub ending : List Seat
    ending = ending_seats (is_held part) r part.more

    -- its prefixes
    pub front_spans : P (front_marks t bytes part h) (take before line)
    front_spans = by (has_none r.begun) refl
      where
        went : (k : ℕ) → P (prefixes_marks bytes (take k r.went_on) line) (take (columns_of (take k r.went_on)) line)
        went k = prefixes_kept bytes P (accounts-kept bytes) (take k r.went_on) line h.first.line.whole

        by : (x : Bool) → has_none r.begun ≡ x → P (front_marks t bytes part h) (take (cond x (columns_of (take m r.went_on)) r.columns) line)
        by true e =
            let none : [] ≡ r.begun = sym (none_is r.begun e) in
            let ms = prefixes_marks bytes (take m r.went_on) line in
            let q = take (columns_of (take m r.went_on)) line in
            subst (λ (ps : List Prefix). P (ms ++ begun_all bytes ps (drop (columns_of r.went_on) line)) q) none (subst (λ (l : List Mark). P l q) (sym (append-nil ms)) (went m))
        by false e =
            let c = columns_of r.went_on in
            let same = all_in_front t bytes part h (inr e) in
            let left : length (drop c line) ≡ length line - c = length-drop c line in
            let size = text-shorter line h.first.line.whole in
            let within = h.first.within in
            let all : P (prefixes_marks bytes (take m r.went_on) line) (take c line) = subst (λ (ps : List Prefix). P (prefixes_marks bytes (take m r.went_on) line) (take (columns_of ps) line)) same (went m) in
            let begun = begun_spans bytes r.begun (drop c line) h.first.sizes (omega (arith, left, size, within)) (whole-behind c line h.first.line.whole) in
            over bytes P (accounts-kept bytes) (take r.columns line) (take_more c (columns_of r.begun) line ∙ ap (λ k. take k line) (sym h.first.columns))
            (spans-both bytes P (accounts-kept bytes) all begun)

    -- the chunks of its pieces
    pub chunks_spans : (js : List (Piece bytes)) (marks : List Mark) (ss first : List Seat) → AreJoined t bytes js marks ss first
        → P (elim js as (λ _. List Mark) [ [] ↦ [] | p ∷ ps ↦ chunks_of bytes false (record p { before = [] } ∷ ps) ]) ss
    chunks_spans [] marks ss first k = absurd k
    chunks_spans (p ∷ ps) marks ss first k =
        let x : Piece bytes = record p { before = [] } in
        let whole : Over t bytes (x ∷ ps) ss = ([], k.1.0, k.1.1, no_prefix t bytes, k.1.2, k.1.3) in
        pieces_spans bytes t false (x ∷ ps) ss whole

    -- what is behind its prefixes
    pub inside_spans : P (inside_of bytes part) (drop before seats)
    inside_spans = by r.is_blank refl
      where
        by : (x : Bool) → r.is_blank ≡ x
            → P (cond x (white bytes (line_text (drop before line))) (elim (joined_pieces bytes (pieces_of bytes (is_held part) r part.more)) as (λ _. List Mark) [ [] ↦ [] | p ∷ ps ↦ chunks_of bytes false (record p { before = [] } ∷ ps) ])) (drop before seats)
        by true e =
            let text = line_text (drop before line) in
            let same : drop before seats ≡ text = ap (drop before) (blank_seats t bytes part h e) ∙ sym (drop_text line before h.first.line.whole (cut_few t bytes part h)) in
            over bytes P (accounts-kept bytes) (drop before seats) (sym same) (spans-leaf bytes P (accounts-kept bytes) name.SpaceOrTab text (whole-text (drop before line)))
        by false e =
            let held = is_held part in
            let first = first_piece t bytes held r part.more in
            let joined = pieces_joined t bytes first (other_pieces t bytes held part.more) (drop r.columns seats) (pieces_over t bytes held r part.more h.first h.others h.none_begin h.ends) in
            let js = joined_pieces bytes (pieces_of bytes held r part.more) in
            let are = subst (λ (ps : List (Piece bytes)). AreJoined t bytes (joined_pieces bytes ps) first.before (drop r.columns seats) first.seats) (sym (pieces_split t bytes held r part.more)) joined in
            subst (λ k. P (elim js as (λ _. List Mark) [ [] ↦ [] | p ∷ ps ↦ chunks_of bytes false (record p { before = [] } ∷ ps) ]) (drop k seats)) (sym (cut_is t bytes part h e)) (chunks_spans js first.before (drop r.columns seats) first.seats are)

    pub part_spans : P (part_marks bytes part) seats
    part_spans =
        let split : take before line ++ drop before seats ≡ seats = ap (λ l. l ++ drop before seats) (sym (front_is t bytes part h)) ∙ take-append-drop before seats in
        let went = prefixes_marks bytes (take m r.went_on) line in
        let begun = begun_all bytes r.begun (drop (columns_of r.went_on) line) in
        subst (λ (ms : List Mark). P ms seats) (append_assoc went begun (inside_of bytes part)) (over bytes P (accounts-kept bytes) seats split (spans-both bytes P (accounts-kept bytes) front_spans inside_spans))

    pub ending_spans : P (ending_marks bytes part) ending
    ending_spans = by (is_held part)
      where
        by : (x : Bool) → P (cond x [] (leaf_marks bytes (cond r.is_blank name.BlankLineEnding name.LineEnding) (ending_of (last_of r part.more).line))) (cond x [] (ending_of (last_of r part.more).line))
        by true = no-spans bytes P (accounts-kept bytes)
        by false = spans-leaf bytes P (accounts-kept bytes) (cond r.is_blank name.BlankLineEnding name.LineEnding) (ending_of (last_of r part.more).line) (whole-ending (last_of r part.more).line (last_fits r part.more h.first h.others).line.whole)

  module _ (on : Constructs) where
    -- what comes behind a part
    pub behind_accounts : (bound : ℕ) (part : Part) → PartIs t bytes part → (b : Before) (n : ℕ) (ls : List Line) → AreOpen on (plain_reads on) part.frames b n ls → AllByRecursion LineIs ls → LinesEnd ls → length ls ≤ bound
        → Accounts bytes (behind_marks bytes part (parts_in bound (rows_from on b n ls))) (ending_seats (is_held part) part.first part.more ++ all_of ls)
    behind_accounts bound part fits b n [] spans lines ends few =
        let exit = exits_account bytes part.frames (end_of bytes part) in
        let end = (ending_spans part fits).account in
        let ending = ending_seats (is_held part) part.first part.more in
        subst (λ (ps : List Part). Accounts bytes (behind_marks bytes part ps) (ending ++ [])) (sym (none_in bound))
        (subst (Accounts bytes (behind_marks bytes part [])) (sym (append-nil ending)) (both_account bytes (exits bytes part.frames (end_of bytes part)) (ending_marks bytes part) [] ending exit end))
    behind_accounts zero part fits b n (l ∷ ls) spans lines ends few = absurd (omega (arith, few))
    behind_accounts (suc bound) part fits b n (l ∷ ls) spans lines ends few =
        let is = is_part on (plain_reads on) part.frames b n l ls spans in
        let next = part_at t bytes on b n l ls in
        let next_fits = part_fits t bytes on b n l ls part.frames is lines ends in
        let rest = is.behind.lines in
        let ending = ending_seats (is_held part) part.first part.more in
        let seats = seats_of (is_held next) next.first next.more in
        let last = ending_seats (is_held next) next.first next.more in
        let all : all_of (l ∷ ls) ≡ seats ++ (last ++ all_of rest) = all_lines t bytes on b n l ls part.frames is next_fits in
        let size : length (l ∷ ls) ≡ suc (length (lines_of next.more) + length rest) = ap (λ (xs : List Line). suc (length xs)) is.behind.all ∙ ap suc (length-append (lines_of next.more) rest) in
        let left = every-back LineIs (lines_of next.more) rest (subst (AllByRecursion LineIs) is.behind.all lines.1) in
        let left_end = lines_end_behind t bytes on (l ∷ lines_of next.more) rest (subst (λ (xs : List Line). LinesEnd (l ∷ xs)) is.behind.all ends) in
        let others = behind_accounts bound next next_fits is.behind.state is.behind.number rest is.behind.are_open left left_end (omega (arith, few, size)) in
        let gone = drop (shared part.frames next.frames) part.frames in
        let tail = subst (λ (rs : List Row). Accounts bytes (behind_marks bytes next (parts_in bound rs)) (last ++ all_of rest)) (sym is.behind.rest) others in
        let here = both_account bytes (part_marks bytes next) _ seats (last ++ all_of rest) (part_spans next next_fits).account tail in
        subst (λ ss. Accounts bytes (behind_marks bytes part (parts_in (suc bound) (rows_from on b n (l ∷ ls)))) (ending ++ ss)) (sym all)
        (both_account bytes (exits bytes gone (end_of bytes part)) _ [] (ending ++ (seats ++ (last ++ all_of rest))) (exits_account bytes gone (end_of bytes part))
        (both_account bytes (ending_marks bytes part) _ ending (seats ++ (last ++ all_of rest)) (ending_spans part fits).account here))

    pub all_parts_account : (ls : List Line) → AllByRecursion LineIs ls → LinesEnd ls → Accounts bytes (parts_marks bytes (parts (rows on ls))) (all_of ls)
    all_parts_account [] lines ends = λ events more h. h
    all_parts_account (l ∷ ls) lines ends =
        let b = nothing_known on in
        let spans = none_are_open on (plain_reads on) b (l ∷ ls) refl refl in
        let is = is_part on (plain_reads on) [] b 1 l ls spans in
        let next = part_at t bytes on b 1 l ls in
        let next_fits = part_fits t bytes on b 1 l ls [] is lines ends in
        let rest = is.behind.lines in
        let seats = seats_of (is_held next) next.first next.more in
        let last = ending_seats (is_held next) next.first next.more in
        let all : all_of (l ∷ ls) ≡ seats ++ (last ++ all_of rest) = all_lines t bytes on b 1 l ls [] is next_fits in
        let bound = length (behind t bytes on b 1 l ls) in
        let size : length ls ≡ length (lines_of next.more) + length rest = ap (λ (xs : List Line). length xs) is.behind.all ∙ length-append (lines_of next.more) rest in
        let same : bound ≡ length ls = rows_length (row_of on) (known_after on) (known_after on b (head t bytes on b 1 l ls)) 2 ls in
        let left = every-back LineIs (lines_of next.more) rest (subst (AllByRecursion LineIs) is.behind.all lines.1) in
        let left_end = lines_end_behind t bytes on (l ∷ lines_of next.more) rest (subst (λ (xs : List Line). LinesEnd (l ∷ xs)) is.behind.all ends) in
        let others = behind_accounts bound next next_fits is.behind.state is.behind.number rest is.behind.are_open left left_end (omega (arith, size, same)) in
        let tail = subst (λ (rs : List Row). Accounts bytes (behind_marks bytes next (parts_in bound rs)) (last ++ all_of rest)) (sym is.behind.rest) others in
        subst (Accounts bytes (parts_marks bytes (parts (rows on (l ∷ ls))))) (sym all) (both_account bytes (part_marks bytes next) _ seats (last ++ all_of rest) (part_spans next next_fits).account tail)

-- Each virtual byte of a document is in one innermost span of its skeleton
pub skeletons_account : SkeletonsAccount
skeletons_account g is =
    let seats = virtual g.tab g.bytes in
    let marks = parts_marks g.bytes (parts (rows g.options.constructs (lines_in seats))) in
    let nothing : AccountFor [] g.bytes [] = record { stretches = []; are_all = refl; are_innermost = refl } in
    let whole = all_parts_account g.tab g.bytes g.options.constructs (lines_in seats) (document_lines g.tab g.bytes) (lines_end seats) [] [] nothing in
    let h : AccountFor (bare marks) g.bytes seats = subst (λ es. AccountFor es g.bytes seats) (append-nil (bare marks)) (subst (AccountFor (bare marks ++ []) g.bytes) (append-nil (all_of (lines_in seats)) ∙ lines-are-all seats) whole) in
    record { stretches = h.stretches; are_all = h.are_all; are_innermost = chained_spans 0 None marks ∙ h.are_innermost }
