-- Block by block: a paragraph is its rows, and each row but the last of a paragraph has a chunk.
use Rattle.std.proofs.Common.{◌≡◌, ℕ, suc, ◌+◌, ◌<◌, ◌==◌, true, false, cond, List, [], ◌∷◌, ◌++◌, None, Some, append_assoc, append-nil, length, map, drop, refl, sym, ap, ◌∙◌, subst, arith}
use Rattle.std.specs.List.{AllByRecursion, flat_map}
use Rattle.std.proofs.lemmas.Bool.{eqb-true}
use Rattle.std.proofs.lemmas.List.{drop-map}
use Rattle.markdown_base.proofs.Common.{every-append}
use Rattle.markdown_base.specs.declared.event.Content.TheVariants.{Text as TextContent}
use Rattle.markdown_base.specs.declared.event.Event.{Event}
use Rattle.markdown_base.specs.declared.event.Kind.{Kind}
use Rattle.markdown_base.specs.declared.event.Kind.TheVariants.{Enter, Exit}
use Rattle.markdown_base.specs.declared.event.Name.{Name}
use Rattle.markdown_base.specs.declared.event.Name.TheVariants.{BlankLineEnding, BlockQuoteMarker, Data, Paragraph}
use Rattle.markdown_base.specs.declared.event.Point.{Point}
use Rattle.markdown_base.specs.Places.{shown, stands_before}
use Rattle.markdown_base.specs.Virtual.{Seat, end_after, virtual}
use Rattle.markdown_edits.specs.Links.{next_of}
use Rattle.markdown_children.specs.Chains.{chain_of}
use Rattle.markdown_children.specs.LawStatements.{AreSpaced, IsWholeFrom}
use Rattle.markdown_children.specs.Reads.{text_of_chain}
use Rattle.markdown_children.specs.Ready.{IsReady}
use Rattle.markdown_tokenizer.specs.Text.{Given}
use Rattle.mdconstructs_machines.proofs.BlockReads.Accounts.{block_bytes, line-is}
use Rattle.mdconstructs_machines.specs.LineEvents.{all_of, is_line_ending, joined, lines_in}
use Rattle.mdconstructs_machines.specs.ParagraphEvents.{Block, Marked, blank, paragraph, block_marks, blocks_marks, blocks_of, chunk_of, continued, is_blank, line_marks, lines_marks, mark_of, marked_span, with_links, as_linked}
use Rattle.mdconstructs_machines.specs.Spans.{event, leaf, span}
use Rattle.mdinline_text_machine.proofs.DeepSpans.Atoms.{Atom, IsCut, all_at, atom_events, events_of, seats_of}
use Rattle.mdinline_text_machine.proofs.DeepSpans.Chunks.{chain-seats}
use Rattle.mdinline_text_machine.proofs.DeepSpans.Places.{Upto}
use Rattle.mdinline_text_machine.proofs.Paragraphs.ChunkPairs.{FollowsChunk}
use Rattle.mdinline_text_machine.proofs.Paragraphs.ChunksReady.{between-none}
use Rattle.mdinline_text_machine.proofs.ParagraphTexts.Lines.{rest-of, chunks-rest}
use Rattle.mdinline_text_machine.proofs.ParagraphTexts.MarksAt.{Ahead, At, first-begins, from_here, left-chain, left-none, left_from, mark-next, pass-plain, plain-begins-not, starts-pass, starts-take, starts_in}
use Rattle.mdinline_text_machine.proofs.ParagraphTexts.Rows.{HasByte, HaveChunks, Row, Within, rows_all, rows_marks, rows_text, rows_with}
use Rattle.mdinline_text_machine.specs.ChainTexts.{chain_text}
use Rattle.mdinline_text_machine.specs.ParagraphTexts.{block_with, chunk_events, lines_with, text_of}
use Rattle.markdown_tokenizer.proofs.Positions.Order.{every-back, every-front}

-- ---- lines as rows
abbrev pub row : List Seat → Row
row line = (mark_of line, chunk_of line)

abbrev pub rows_of : List (List Seat) → List Row
rows_of lines = map row lines

pub text-are : (lines : List (List Seat)) → text_of lines ≡ rows_text (rows_of lines)
text-are [] = refl
text-are (line ∷ lines) = ap (λ l. chunk_of line ++ l) (text-are lines)

pub all-are : (lines : List (List Seat)) → all_of lines ≡ rows_all (rows_of lines)
all-are [] = refl
all-are (line ∷ lines) = λ i. sym (line-is line) i ++ all-are lines i

module _ (bytes : List ℕ) where
  marks-are : (b n : ℕ) (lines : List (List Seat)) → lines_marks bytes b n lines ≡ rows_marks bytes b n (rows_of lines)
  marks-are b n [] = refl
  marks-are b n (line ∷ lines) = ap (λ m. line_marks bytes (b, n) line ++ m) (marks-are b (suc n) lines)

  pub with-are : (lines : List (List Seat)) (es : List Event) → lines_with bytes lines es ≡ rows_with bytes (rows_of lines) es
  with-are [] es = refl
  with-are (line ∷ lines) es =
      ap (λ l. leaf bytes BlockQuoteMarker (mark_of line) ++ (chunk_events bytes (chunk_of line) es ++ l))
      (with-are lines (drop (length (chunk_events bytes (chunk_of line) es)) es))

  -- ---- events of atoms whose virtual bytes are not behind a place
  last-within : (end p : Point) (l : List Seat) → stands_before end (shown bytes p) ≡ false → AllByRecursion (Within bytes end) l → stands_before end (shown bytes (end_after p l)) ≡ false
  last-within end p [] h k = h
  last-within end p (s ∷ ss) h k = last-within end s.end ss k.0.1 k.1

  names-upto : (end : Point) (kind : Kind) (p : Point) (names : List Name) → stands_before end (shown bytes p) ≡ false → AllByRecursion (Upto end) (all_at bytes kind p names)
  names-upto end kind p [] h = tt
  names-upto end kind p (n ∷ ns) h = (h, names-upto end kind p ns h)

  within-upto : (end : Point) (atoms : List Atom) → AllByRecursion (Within bytes end) (seats_of atoms) → AllByRecursion (Upto end) (events_of bytes atoms)
  within-upto end [] h = tt
  within-upto end (a ∷ atoms) h =
      let q = end_after a.first.end a.others in
      let here = every-front (Within bytes end) (a.first ∷ a.others) (seats_of atoms) h in
      let enter = here.0.0 in
      let exit = last-within end a.first.end a.others here.0.1 here.1 in
      every-append (Upto end) (atom_events bytes a) (events_of bytes atoms)
      (every-append (Upto end) (all_at bytes Enter a.first.point a.enters) (event bytes Enter a.name a.first.point ∷ event bytes Exit a.name q ∷ all_at bytes Exit q a.exits) (names-upto end Enter a.first.point a.enters enter)
      (enter, (exit, names-upto end Exit q a.exits exit)))
      (within-upto end atoms (every-back (Within bytes end) (a.first ∷ a.others) (seats_of atoms) h))

-- ---- blocks of lines
abbrev pub GoodBlock : Block → Type 0
GoodBlock (blank line) = Unit {0}
GoodBlock (paragraph lines) = HasByte (all_of lines) × HaveChunks (rows_of lines)

has-append : (l m : List Seat) → HasByte l → HasByte (l ++ m)
has-append [] m h = absurd h
has-append (s ∷ ss) m h = tt

chunks-more : (line : List Seat) (lines : List (List Seat)) → HasByte (chunk_of line) → HaveChunks (rows_of lines) → HaveChunks (rows_of (line ∷ lines))
chunks-more line [] h k = tt
chunks-more line (next ∷ lines) h k = (h, k)

joined-chunks : (s : Seat) (lines : List (List Seat)) → AllByRecursion HasByte lines → HaveChunks (rows_of lines) → HaveChunks (rows_of (joined s lines))
joined-chunks s [] has h = tt
joined-chunks s (line ∷ []) has h = tt
joined-chunks s (line ∷ next ∷ lines) has h = (elim (s.byte == 62) as (λ b. HasByte (cond b line (s ∷ line))) [ true ↦ has.0 | false ↦ tt ], h.1)

joined-has : (s : Seat) (lines : List (List Seat)) → AllByRecursion HasByte lines → AllByRecursion HasByte (joined s lines)
joined-has s [] has = (tt, tt)
joined-has s (line ∷ lines) has = (tt, has.1)

ending-chunk : (s : Seat) → is_line_ending s ≡ true → HasByte (chunk_of (s ∷ []))
ending-chunk s is =
    let other : (s.byte == 62) ≡ false = ap (λ b. b == 62) (eqb-true s.byte 10 is) in
    subst (λ b. HasByte (cond b [] (s ∷ []))) (sym other) tt

lines-good : (l : List Seat) → AllByRecursion HasByte (lines_in l) × HaveChunks (rows_of (lines_in l))
lines-good [] = (tt, tt)
lines-good (s ∷ ss) =
    let more = lines-good ss in
    elim (is_line_ending s) as (λ b. is_line_ending s ≡ b → let lines = cond b ((s ∷ []) ∷ lines_in ss) (joined s (lines_in ss)) in AllByRecursion HasByte lines × HaveChunks (rows_of lines)) [
      | true ↦ λ is. ((tt, more.0), chunks-more (s ∷ []) (lines_in ss) (ending-chunk s is) more.1)
      | false ↦ λ is. (joined-has s (lines_in ss) more.0, joined-chunks s (lines_in ss) more.0 more.1)
    ] refl

continued-good : (line : List Seat) (blocks : List Block) → HasByte line → HasByte (chunk_of line) → AllByRecursion GoodBlock blocks → AllByRecursion GoodBlock (continued line blocks)
continued-good line [] has chunk h = ((has-append line [] has, tt), tt)
continued-good line (blank other ∷ blocks) has chunk h = ((has-append line [] has, tt), h)
continued-good line (paragraph lines ∷ blocks) has chunk h = ((has-append line (all_of lines) has, chunks-more line lines chunk h.0.1), h.1)

pub blocks-good : (lines : List (List Seat)) → AllByRecursion HasByte lines → HaveChunks (rows_of lines) → AllByRecursion GoodBlock (blocks_of lines)
blocks-good [] has h = tt
blocks-good (line ∷ []) has h = elim (is_blank line) as (λ b. AllByRecursion GoodBlock (cond b (blank line ∷ []) (paragraph (line ∷ []) ∷ []))) [ true ↦ (tt, tt) | false ↦ ((has-append line [] has.0, tt), tt) ]
blocks-good (line ∷ next ∷ lines) has h =
    let more = blocks-good (next ∷ lines) has.1 h.1 in
    elim (is_blank line) as (λ b. AllByRecursion GoodBlock (cond b (blank line ∷ blocks_of (next ∷ lines)) (continued line (blocks_of (next ∷ lines))))) [
      | true ↦ (tt, more)
      | false ↦ continued-good line (blocks_of (next ∷ lines)) has.0 h.0 more
    ]

pub blocks-of-good : (l : List Seat) → AllByRecursion GoodBlock (blocks_of (lines_in l))
blocks-of-good l = let h = lines-good l in blocks-good (lines_in l) h.0 h.1

module _ (g : Given) (some : 0 < g.tab) (all : List Marked) (ready : IsReady g.tab g.bytes (Some TextContent) (with_links all))
    (pairs : (k d : ℕ) → next_of (with_links all) k ≡ Some d → FollowsChunk (with_links all) k d) (reads : List Seat → List Event) (cuts : (l : List Seat) → IsCut g.bytes (reads l) l) where
  abbrev events : List Event
  events = with_links all

  abbrev pub of_chain : ℕ → List Event
  of_chain c = reads (chain_text g events c).seats

  abbrev pub left : List ℕ → ℕ → List Event
  left cs i = left_from g some all ready pairs of_chain cs i

  -- from i on these events come, and then what is behind these marks
  pub record Done (i : ℕ) (cs : List ℕ) (es : List Event) (ms : List Marked) : Type 0 where
    pub j : ℕ
    pub others : List ℕ
    pub at : At all j ms
    pub ahead : Ahead all j (length ms) others
    pub is : left cs i ≡ es ++ left others j

  done-after : (i : ℕ) (cs : List ℕ) (es fs : List Event) (ms ns : List Marked) (d : Done i cs es ms) → Done d.j d.others fs ns → Done i cs (es ++ fs) ns
  done-after i cs es fs ms ns d e = record { j = e.j; others = e.others; at = e.at; ahead = e.ahead; is = d.is ∙ ap (λ l. es ++ l) e.is ∙ sym (append_assoc es fs (left e.others e.j)) }

  one-done : (i : ℕ) (cs : List ℕ) (x : Event) (ms : List Marked) → x.link ≡ None → At all i ((x, None) ∷ ms) → Ahead all i (suc (length ms)) cs → Done i cs (x ∷ []) ms
  one-done i cs x ms alone at ahead = let p = pass-plain g some all ready pairs of_chain i x ms cs alone at ahead in record { j = i + 1; others = cs; at = p.at; ahead = p.ahead; is = p.left }

  leaf-done : (i : ℕ) (cs : List ℕ) (name : Name) (l : List Seat) (ms : List Marked) → At all i (marked_span g.bytes None name l [] ++ ms) → Ahead all i (length (marked_span g.bytes None name l [] ++ ms)) cs → Done i cs (leaf g.bytes name l) ms
  leaf-done i cs name [] ms at ahead = record { j = i; others = cs; at = at; ahead = ahead; is = refl }
  leaf-done i cs name (s ∷ ss) ms at ahead =
      let f = event g.bytes Exit name (end_after s.end ss) in
      let first = one-done i cs (event g.bytes Enter name s.point) ((f, None) ∷ ms) refl at ahead in
      done-after i cs (event g.bytes Enter name s.point ∷ []) (f ∷ []) ((f, None) ∷ ms) ms first (one-done first.j first.others f ms refl first.at first.ahead)

  -- a chain from its first chunk on
  chain-done : (rows : List Row) (c b : ℕ) (cs : List ℕ) (t : Seat) (ts : List Seat) (x : Event) (ms : List Marked) (pre more : List Seat)
      → let tail = rows_marks g.bytes b 1 rows ++ (x, None) ∷ ms in let first : List Marked = marked_span g.bytes (Some (b, 0)) Data (t ∷ ts) [] ++ tail in
      At all c first → Ahead all c (length first) cs → x.kind ≡ Exit → x.link ≡ None → HaveChunks rows → virtual g.tab g.bytes ≡ pre ++ ((t ∷ ts) ++ (rows_all rows ++ more))
      → Done c cs (rows_with g.bytes (([], t ∷ ts) ∷ rows) (reads ((t ∷ ts) ++ rows_text rows)) ++ x ∷ []) ms
  chain-done rows c b cs t ts x ms pre more at ahead exits alone chunks whole =
      let tail = rows_marks g.bytes b 1 rows ++ (x, None) ∷ ms in
      let exit = event g.bytes Exit Data (end_after t.end ts) in
      let n = length tail in
      let two : c + 1 + 1 ≡ c + 2 = omega arith in
      let rest_starts = starts_in all (c + 1) (suc n) in
      let are : c ∷ rest_starts ≡ cs = sym (starts-take all c (suc n) (first-begins all c _ b _ at)) ∙ ahead.starts in
      let known = subst (λ l. AllByRecursion (IsWholeFrom events) l × AreSpaced c (flat_map (chain_of events) l) (length events)) (sym are) (ahead.whole, ahead.spaced) in
      let w = known.0.0 in
      let ks = w.0 in
      let chains = flat_map (chain_of events) rest_starts in
      let apart : AreSpaced c (c ∷ (ks ++ chains)) (length events) = subst (λ (ys : List ℕ). AreSpaced c (ys ++ chains) (length events)) w.1 known.1 in
      let starts : starts_in all (c + 2) n ≡ rest_starts =
      subst (λ i. starts_in all i n ≡ rest_starts) two (sym (starts-pass all (c + 1) n (plain-begins-not all (c + 1) exit tail refl (mark-next all c _ _ at)))) in
      let r = rest-of g some all ready pairs of_chain rows c b 0 ks rest_starts t ts x ms pre more at exits alone chunks w.2 apart.1 known.0.1 starts whole in
      let text : (chain_text g events c).seats ≡ (t ∷ ts) ++ rows_text rows = ap (λ (l : List ℕ). (text_of_chain g events l).seats) w.1 ∙ chain-seats g events c ks ∙ r.seats in
      let es = reads ((t ∷ ts) ++ rows_text rows) in
      let cut = cuts ((t ∷ ts) ++ rows_text rows) in
      let upto = subst (AllByRecursion (Upto (shown g.bytes (end_after t.end (ts ++ rows_text rows))))) (sym cut.are) (within-upto g.bytes (shown g.bytes (end_after t.end (ts ++ rows_text rows))) cut.atoms (subst (AllByRecursion (Within g.bytes (shown g.bytes (end_after t.end (ts ++ rows_text rows))))) cut.all r.within)) in
      let has = r.has es upto in
      let inside = rows_with g.bytes (([], t ∷ ts) ∷ rows) es in
      let chain = left-chain g some all ready pairs of_chain c c rest_starts w known.1 in
      let here : left (c ∷ rest_starts) c ≡ inside ++ x ∷ left rest_starts r.j =
      chain ∙ ap (λ l. l ++ from_here g some all ready pairs of_chain c ks (of_chain c) rest_starts) (between-none events c c refl)
      ∙ ap (λ (l : List Seat). from_here g some all ready pairs of_chain c ks (reads l) rest_starts) text ∙ has in
      record { j = r.j; others = rest_starts; at = r.at; ahead = r.ahead; is = ap (λ l. left l c) (sym are) ∙ here ∙ sym (append_assoc inside (x ∷ []) (left rest_starts r.j)) }

  -- the rows of a paragraph, and the exit behind them
  rows-done : (rows : List Row) (i b : ℕ) (cs : List ℕ) (x : Event) (ms : List Marked) (pre more : List Seat) → At all i (rows_marks g.bytes b 0 rows ++ (x, None) ∷ ms) → Ahead all i (length (rows_marks g.bytes b 0 rows ++ (x, None) ∷ ms)) cs
      → x.kind ≡ Exit → x.link ≡ None → HaveChunks rows → virtual g.tab g.bytes ≡ pre ++ (rows_all rows ++ more) → Done i cs (rows_with g.bytes rows (reads (rows_text rows)) ++ x ∷ []) ms
  rows-done [] i b cs x ms pre more at ahead exits alone chunks whole = one-done i cs x ms alone at ahead
  rows-done ((q, []) ∷ []) i b cs x ms pre more at ahead exits alone chunks whole =
      let mark = leaf g.bytes BlockQuoteMarker q in
      let sign = marked_span g.bytes None BlockQuoteMarker q [] in
      let last : List Marked = (x, None) ∷ ms in
      let same : ((sign ++ []) ++ []) ++ last ≡ sign ++ last = ap (λ l. l ++ last) (append-nil (sign ++ []) ∙ append-nil sign) in
      let d = leaf-done i cs BlockQuoteMarker q last (at ∙ same) (subst (λ (l : List Marked). Ahead all i (length l) cs) same ahead) in
      let all_of_it = done-after i cs mark (x ∷ []) last ms d (one-done d.j d.others x ms alone d.at d.ahead) in
      subst (λ es. Done i cs (es ++ x ∷ []) ms) (sym (append-nil mark)) all_of_it
  rows-done ((q, []) ∷ r ∷ rows) i b cs x ms pre more at ahead exits alone chunks whole = absurd chunks.0
  rows-done ((q, t ∷ ts) ∷ rows) i b cs x ms pre more at ahead exits alone chunks whole =
      let mark = leaf g.bytes BlockQuoteMarker q in
      let sign = marked_span g.bytes None BlockQuoteMarker q [] in
      let chunk = marked_span g.bytes (Some (b, 0)) Data (t ∷ ts) [] in
      let behind = rows_marks g.bytes b 1 rows in
      let last : List Marked = (x, None) ∷ ms in
      let tail : List Marked = chunk ++ (behind ++ last) in
      let same : ((sign ++ chunk) ++ behind) ++ last ≡ sign ++ tail = append_assoc (sign ++ chunk) behind last ∙ append_assoc sign chunk (behind ++ last) in
      let d = leaf-done i cs BlockQuoteMarker q tail (at ∙ same) (subst (λ (l : List Marked). Ahead all i (length l) cs) same ahead) in
      let seats : virtual g.tab g.bytes ≡ (pre ++ q) ++ ((t ∷ ts) ++ (rows_all rows ++ more)) =
      whole ∙ ap (λ l. pre ++ l) (append_assoc (q ++ (t ∷ ts)) (rows_all rows) more ∙ append_assoc q (t ∷ ts) (rows_all rows ++ more)) ∙ sym (append_assoc pre q ((t ∷ ts) ++ (rows_all rows ++ more))) in
      let c = chain-done rows d.j b d.others t ts x ms (pre ++ q) more d.at d.ahead exits alone (chunks-rest (q, t ∷ ts) rows chunks) seats in
      let text = rows_with g.bytes (([], t ∷ ts) ∷ rows) (reads ((t ∷ ts) ++ rows_text rows)) in
      subst (λ es. Done i cs es ms) (sym (append_assoc mark text (x ∷ []))) (done-after i cs mark (text ++ x ∷ []) tail ms d c)

  -- a paragraph
  paragraph-done : (l : List Seat) (lines : List (List Seat)) (i b : ℕ) (cs : List ℕ) (ms : List Marked) (pre more : List Seat) → l ≡ all_of lines → HasByte l → HaveChunks (rows_of lines)
      → let marks : List Marked = marked_span g.bytes None Paragraph l (lines_marks g.bytes b 0 lines) ++ ms in At all i marks → Ahead all i (length marks) cs
      → virtual g.tab g.bytes ≡ pre ++ (l ++ more) → Done i cs (span g.bytes Paragraph l (lines_with g.bytes lines (reads (text_of lines)))) ms
  paragraph-done [] lines i b cs ms pre more is has chunks at ahead whole = absurd has
  paragraph-done (s ∷ ss) lines i b cs ms pre more is has chunks at ahead whole =
      let e = event g.bytes Enter Paragraph s.point in
      let x = event g.bytes Exit Paragraph (end_after s.end ss) in
      let rows = rows_of lines in
      let last : List Marked = (x, None) ∷ ms in
      let same : (lines_marks g.bytes b 0 lines ++ (x, None) ∷ []) ++ ms ≡ rows_marks g.bytes b 0 rows ++ last =
      append_assoc (lines_marks g.bytes b 0 lines) ((x, None) ∷ []) ms ∙ ap (λ l. l ++ last) (marks-are g.bytes b 0 lines) in
      let first : List Marked = rows_marks g.bytes b 0 rows ++ last in
      let d = one-done i cs e first refl (at ∙ ap (λ (l : List Marked). (e, None) ∷ l) same) (subst (λ (l : List Marked). Ahead all i (suc (length l)) cs) same ahead) in
      let seats : virtual g.tab g.bytes ≡ pre ++ (rows_all rows ++ more) = whole ∙ ap (λ l. pre ++ (l ++ more)) (is ∙ all-are lines) in
      let r = rows-done rows d.j b d.others x ms pre more d.at d.ahead refl refl chunks seats in
      let inside : rows_with g.bytes rows (reads (rows_text rows)) ≡ lines_with g.bytes lines (reads (text_of lines)) = sym (with-are g.bytes lines (reads (text_of lines)) ∙ ap (λ t. rows_with g.bytes rows (reads t)) (text-are lines)) in
      subst (λ es. Done i cs (e ∷ (es ++ x ∷ [])) ms) inside (done-after i cs (e ∷ []) (rows_with g.bytes rows (reads (rows_text rows)) ++ x ∷ []) first ms d r)

  block-done : (block : Block) (i b : ℕ) (cs : List ℕ) (ms : List Marked) (pre more : List Seat) → GoodBlock block → At all i (block_marks g.bytes b block ++ ms) → Ahead all i (length (block_marks g.bytes b block ++ ms)) cs
      → virtual g.tab g.bytes ≡ pre ++ (block_bytes block ++ more) → Done i cs (block_with reads g.bytes block) ms
  block-done (blank line) i b cs ms pre more good at ahead whole = leaf-done i cs BlankLineEnding line ms at ahead
  block-done (paragraph lines) i b cs ms pre more good at ahead whole = paragraph-done (all_of lines) lines i b cs ms pre more refl good.0 good.1 at ahead whole

  pub blocks-done : (blocks : List Block) (i b : ℕ) (cs : List ℕ) (pre : List Seat) → AllByRecursion GoodBlock blocks → At all i (blocks_marks g.bytes b blocks) → Ahead all i (length (blocks_marks g.bytes b blocks)) cs
      → virtual g.tab g.bytes ≡ pre ++ flat_map block_bytes blocks → left cs i ≡ flat_map (block_with reads g.bytes) blocks
  blocks-done [] i b cs pre good at ahead whole =
      ap (λ l. left l i) (sym ahead.starts) ∙ left-none g some all ready pairs of_chain i ∙ drop-map (as_linked all) i all ∙ ap (map (as_linked all)) at
  blocks-done (block ∷ blocks) i b cs pre good at ahead whole =
      let d = block-done block i b cs (blocks_marks g.bytes (suc b) blocks) pre (flat_map block_bytes blocks) good.0 at ahead whole in
      d.is ∙ ap (λ l. block_with reads g.bytes block ++ l) (blocks-done blocks d.j (suc b) d.others (pre ++ block_bytes block) good.1 d.at d.ahead (whole ∙ sym (append_assoc pre (block_bytes block) (flat_map block_bytes blocks))))
