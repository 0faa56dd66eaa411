-- What paragraphs are read as accounts for each virtual byte.
use Rattle.mdconstructs_machines.proofs.Prelude.{◌≡◌, ℕ, suc, ◌==◌, ◌∷◌, ◌++◌, [], List, true, false, cond, refl, sym, ◌∙◌, ap, subst, Option, Some, None, map, flat_map, append_assoc, append-nil, map-append, Event, Enter, Exit, Paragraph, Data, BlankLineEnding, BlockQuoteMarker, FlowStart, Seat, virtual, end_after, Rules, Given, AccountFor, AccountsForDocuments, is_line_ending, joined, lines_in, all_of, Block, blank, paragraph, is_blank, continued, blocks_of, mark_of, chunk_of, Chunk, Marked, marked_span, line_marks, lines_marks, block_marks, blocks_marks, as_linked, paragraph_events, IsReadAs, event, EventName}
use Rattle.mdconstructs_machines.proofs.Innermost.{enter-more, exit-more, span-more}

-- lines are all there is
joined-all : (s : Seat) (lines : List (List Seat)) → all_of (joined s lines) ≡ s ∷ all_of lines
joined-all s [] = refl
joined-all s (line ∷ lines) = refl

pub lines-are-all : (l : List Seat) → all_of (lines_in l) ≡ l
lines-are-all [] = refl
lines-are-all (s ∷ ss) =
    let then = lines-are-all ss in
    elim (is_line_ending s) as (λ b. all_of (cond b ((s ∷ []) ∷ lines_in ss) (joined s (lines_in ss))) ≡ s ∷ ss) [
      | true ↦ ap (λ l. s ∷ l) then
      | false ↦ joined-all s (lines_in ss) ∙ ap (λ l. s ∷ l) then
    ]

-- what is in a block
abbrev pub block_bytes : Block → List Seat
block_bytes (blank line) = line
block_bytes (paragraph lines) = all_of lines

-- and blocks are all their lines
continued-all : (line : List Seat) (blocks : List Block) → flat_map block_bytes (continued line blocks) ≡ line ++ flat_map block_bytes blocks
continued-all line [] = append-nil (line ++ []) ∙ refl
continued-all line (blank other ∷ blocks) = ap (λ l. l ++ flat_map block_bytes (blank other ∷ blocks)) (append-nil line)
continued-all line (paragraph lines ∷ blocks) = append_assoc line (all_of lines) (flat_map block_bytes blocks)

pub blocks-are-all : (lines : List (List Seat)) → flat_map block_bytes (blocks_of lines) ≡ all_of lines
blocks-are-all [] = refl
blocks-are-all (line ∷ lines) =
    let then = blocks-are-all lines in
    elim (is_blank line) as (λ b. flat_map block_bytes (cond b (blank line ∷ blocks_of lines) (continued line (blocks_of lines))) ≡ line ++ all_of lines) [
      | true ↦ ap (λ l. line ++ l) then
      | false ↦ continued-all line (blocks_of lines) ∙ ap (λ l. line ++ l) then
    ]

-- a line is its quote mark and its chunk
pub line-is : (line : List Seat) → mark_of line ++ chunk_of line ≡ line
line-is [] = refl
line-is (s ∷ ss) = elim (s.byte == 62) as (λ b. cond b (s ∷ []) [] ++ cond b ss (s ∷ ss) ≡ s ∷ ss) [ true ↦ refl | false ↦ refl ]

module _ (bytes : List ℕ) (all : List Marked) where
  -- marked events, with their chunks linked among all
  abbrev pub linked : List Marked → List Event
  linked marks = map (as_linked all) marks

  -- a link changes neither kind nor place
  as-is : (e : Event) (o : Option Chunk) → ((as_linked all (e, o)).kind ≡ e.kind) × ((as_linked all (e, o)).point ≡ e.point)
  as-is e None = (refl, refl)
  as-is e (Some (b, n)) = (refl, refl)

  -- they account for virtual bytes, with more behind
  abbrev Accounts : List Marked → List Seat → Type 0
  Accounts marks seats = (events : List Event) (more : List Seat) → AccountFor events bytes more → AccountFor (linked marks ++ events) bytes (seats ++ more)

  both : (xs ys : List Marked) (seats others : List Seat) → Accounts xs seats → Accounts ys others → Accounts (xs ++ ys) (seats ++ others)
  both xs ys seats others h k events more rest =
      subst (λ es. AccountFor es bytes ((seats ++ others) ++ more)) (sym (ap (λ l. l ++ events) (map-append (as_linked all) xs ys) ∙ append_assoc (linked xs) (linked ys) events))
      (subst (AccountFor (linked xs ++ (linked ys ++ events)) bytes) (sym (append_assoc seats others more)) (h (linked ys ++ events) (others ++ more) (k events more rest)))

  -- a span that holds no other
  leaf-accounts : (o : Option Chunk) (name : EventName) (l : List Seat) → Accounts (marked_span bytes o name l []) l
  leaf-accounts o name [] events more h = h
  leaf-accounts o name (s ∷ ss) events more h = let (enters, placed) = as-is (event bytes Enter name s.point) o in span-more bytes _ _ events s ss more enters refl placed refl h

  lines-account : (block n : ℕ) (lines : List (List Seat)) → Accounts (lines_marks bytes block n lines) (all_of lines)
  lines-account block n [] = λ events more h. h
  lines-account block n (line ∷ lines) =
      let c : Chunk = (block, n) in
      let one = subst (Accounts (line_marks bytes c line)) (line-is line)
      (both (marked_span bytes None BlockQuoteMarker (mark_of line) []) (marked_span bytes (Some c) Data (chunk_of line) []) (mark_of line) (chunk_of line)
      (leaf-accounts None BlockQuoteMarker (mark_of line)) (leaf-accounts (Some c) Data (chunk_of line))) in
      both (line_marks bytes c line) (lines_marks bytes block (suc n) lines) line (all_of lines) one (lines-account block (suc n) lines)

  -- The first of marked events is an enter
  record Enters (marks : List Marked) : Type 0 where
    pub first : Event
    pub chunk : Option Chunk
    pub rest : List Marked
    pub are : marks ≡ (first, chunk) ∷ rest
    pub enters : first.kind ≡ Enter

  lines-enter : (block n : ℕ) (lines : List (List Seat)) (s : Seat) (ss : List Seat) → all_of lines ≡ s ∷ ss → Enters (lines_marks bytes block n lines)
  lines-enter block n [] s ss is = absurd (cc)
  lines-enter block n ([] ∷ lines) s ss is = lines-enter block (suc n) lines s ss is
  lines-enter block n ((r ∷ rs) ∷ lines) s ss is =
      let behind = lines_marks bytes block (suc n) lines in
      elim (r.byte == 62) as (λ b. Enters ((marked_span bytes None BlockQuoteMarker (cond b (r ∷ []) []) [] ++ marked_span bytes (Some (block, n)) Data (cond b rs (r ∷ rs)) []) ++ behind)) [
        | true ↦ record { first = _; chunk = _; rest = _; are = refl; enters = refl }
        | false ↦ record { first = _; chunk = _; rest = _; are = refl; enters = refl }
      ]

  -- a span around marks the first of which is an enter
  around : (e exit : Event) (marks : List Marked) (seats : List Seat) → e.kind ≡ Enter → exit.kind ≡ Exit → Enters marks → Accounts marks seats → Accounts ((e, None) ∷ (marks ++ (exit, None) ∷ [])) seats
  around e exit marks seats enters exits first h events more rest =
      let f = as_linked all (first.first, first.chunk) in
      let closed = h (exit ∷ events) more (exit-more bytes exit events more exits rest) in
      let others = linked first.rest ++ exit ∷ events in
      let inside : linked marks ++ exit ∷ events ≡ f ∷ others = ap (λ l. linked l ++ exit ∷ events) first.are in
      let is_enter : f.kind ≡ Enter = (as-is first.first first.chunk).0 ∙ first.enters in
      let spanned = enter-more bytes e f others (seats ++ more) enters is_enter (subst (λ es. AccountFor es bytes (seats ++ more)) inside closed) in
      let same : linked (marks ++ (exit, None) ∷ []) ++ events ≡ f ∷ others =
      ap (λ l. l ++ events) (map-append (as_linked all) marks ((exit, None) ∷ [])) ∙ append_assoc (linked marks) (exit ∷ []) events ∙ inside in
      subst (λ es. AccountFor (e ∷ es) bytes (seats ++ more)) (sym same) spanned

  paragraph-accounts : (block : ℕ) (lines : List (List Seat)) (l : List Seat) → all_of lines ≡ l → Accounts (marked_span bytes None Paragraph l (lines_marks bytes block 0 lines)) l
  paragraph-accounts block lines [] is = subst (Accounts (lines_marks bytes block 0 lines)) is (lines-account block 0 lines)
  paragraph-accounts block lines (s ∷ ss) is =
      around (event bytes Enter Paragraph s.point) (event bytes Exit Paragraph (end_after s.end ss)) (lines_marks bytes block 0 lines) (s ∷ ss) refl refl (lines-enter block 0 lines s ss is)
      (subst (Accounts (lines_marks bytes block 0 lines)) is (lines-account block 0 lines))

  block-accounts : (b : ℕ) (block : Block) → Accounts (block_marks bytes b block) (block_bytes block)
  block-accounts b (blank line) = leaf-accounts None BlankLineEnding line
  block-accounts b (paragraph lines) = paragraph-accounts b lines (all_of lines) refl

  blocks-account : (b : ℕ) (blocks : List Block) → Accounts (blocks_marks bytes b blocks) (flat_map block_bytes blocks)
  blocks-account b [] = λ events more h. h
  blocks-account b (block ∷ blocks) =
      both (block_marks bytes b block) (blocks_marks bytes (suc b) blocks) (block_bytes block) (flat_map block_bytes blocks) (block-accounts b block) (blocks-account (suc b) blocks)

-- so it is with all virtual bytes
pub paragraphs-account : (bytes : List ℕ) (l : List Seat) → AccountFor (paragraph_events bytes l) bytes l
paragraphs-account bytes l =
    let blocks = blocks_of (lines_in l) in
    let marks = blocks_marks bytes 0 blocks in
    let none : AccountFor [] bytes [] = record { stretches = []; are_all = refl; are_innermost = refl } in
    let is : flat_map block_bytes blocks ++ [] ≡ l = append-nil (flat_map block_bytes blocks) ∙ blocks-are-all (lines_in l) ∙ lines-are-all l in
    subst (λ es. AccountFor es bytes l) (append-nil (map (as_linked marks) marks))
    (subst (AccountFor (map (as_linked marks) marks ++ []) bytes) is (blocks-account bytes marks 0 blocks [] [] none))

-- and with all that a machine that reads by blocks reads
pub blocks-accounted : (rules : Given → Rules Unit Unit) → IsReadAs rules FlowStart paragraph_events → AccountsForDocuments rules FlowStart
blocks-accounted rules reads g events sub document run =
    let seats = virtual g.tab g.bytes in
    subst (λ es. AccountFor es g.bytes seats) (sym (reads g events sub document run)) (paragraphs-account g.bytes seats)
