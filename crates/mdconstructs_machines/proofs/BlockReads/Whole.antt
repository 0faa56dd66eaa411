-- Whole documents are read block by block, and a paragraph line by line: the quote mark of a line, and its chunk.
use Rattle.mdconstructs_machines.proofs.Prelude.{AllByRecursion, ◌≡◌, ℕ, zero, suc, ◌+◌, ◌≤◌, ◌∷◌, ◌++◌, [], List, Bool, true, false, ◌⊎◌, inl, inr, refl, sym, ◌∙◌, ap, subst, Option, Some, None, arith, length, append_assoc, append-nil, every-append, Event, Enter, Exit, Paragraph, BlankLineEnding, Point, Name, Next, Retry, FlowStart, ParagraphLineStart, Seat, end_after, Nothing, Byte, End, Given, Text, Configuration, Local, Step, start_configuration, whole_text, Rules, Sight, point_or, end_or, is_line_ending, lines_in, all_of, IsReadAs, event, line_ending, other, counts, flow_start_rows, Block, Marked, continued, paragraph, marked_span, line_marks, lines_marks, blocks_marks, blocks_of, with_links, paragraph_events, ◌==◌, cond, take, drop, slice_get, Data, BlockQuoteMarker, ParagraphStart, sight, byte_of, Rows, row, enter, exit, consume, picked, step_of, paragraph_line_start_rows, paragraph_start_rows, is_quote_mark, Chunk, is_quoted, end-after-append}
use Rattle.mdconstructs_machines.proofs.BlockReads.Reads.{first_line, after_line, line-on, after-less, blank-block, other-block, Run, in_paragraph, connects, begins_at, Stands, stands-next, ReadsBlocks, Goes, Stops, reads-rest, begins-chunk}
use Rattle.mdconstructs_machines.proofs.BlockReads.Links.{IsBefore, KnowsLast, links-plain, before-next, EndsIn, known-before, known-plain}
use Rattle.mdconstructs_machines.proofs.LineReads.Rows.{is-class, leads-row}
use Rattle.mdconstructs_machines.proofs.LineReads.Steps.{EndsWith, ended, held, shows, goes-next, at-front, reads-as, Leads, has_events}

-- The marks of a line, by whether it is quoted
module _ (bytes : List ℕ) (c : Chunk) where
  abbrev marks_by : Bool → List Seat → List Marked
  marks_by q line = marked_span bytes None BlockQuoteMarker (cond q (take 1 line) []) [] ++ marked_span bytes (Some c) Data (cond q (drop 1 line) line) []

  -- the marks of a chunk over the line at the front, where one comes from this place
  abbrev chunk_marks : (s : Seat) (ss : List Seat) → Point → List Marked
  chunk_marks s ss place = (event bytes Enter Data s.point, Some c) ∷ (event bytes Exit Data (end_after place (first_line (s ∷ ss))), None) ∷ []

  chunk-marks : (s : Seat) (ss : List Seat) (place : Point) → marked_span bytes (Some c) Data (first_line (s ∷ ss)) [] ≡ chunk_marks s ss place
  chunk-marks s ss place =
      elim (is_line_ending s) as (λ b. marked_span bytes (Some c) Data (cond b (s ∷ []) (s ∷ first_line ss)) []
      ≡ (event bytes Enter Data s.point, Some c) ∷ (event bytes Exit Data (end_after place (cond b (s ∷ []) (s ∷ first_line ss))), None) ∷ []) [ true ↦ refl | false ↦ refl ]

-- two more, and the rest
pub three : (xs : List Marked) (a b : Marked) (rest : List Marked) → ((xs ++ a ∷ []) ++ b ∷ []) ++ rest ≡ xs ++ a ∷ b ∷ rest
three xs a b rest = simp append_assoc

module _ (g : Given) (text : Text) (step : Sight → Configuration Unit Unit → Name → Step Unit Unit) (reads : ReadsBlocks g text step) where
  -- From here on a line is read up to the next, which is at this place: what is before the next block, and what is known if anything is left
  pub record ReadsLine (k : Configuration Unit Unit) (name : Name) (rest : List Seat) (place : Point) (block n : ℕ) (marks : List Marked) : Type 0 where
    pub to : ℕ
    pub ended : Bool
    pub after : Local Unit Unit
    pub stands : Stands text to rest place
    pub before : AllByRecursion (IsBefore (suc block) 0) marks
    pub known : (rest ≡ []) ⊎ KnowsLast block (suc n) marks (connects after) (begins_at after)
    pub goes : Goes g text step reads k name (shows rest in_paragraph to ended (with_links marks) after) ParagraphLineStart

  -- and so it is from what leads there
  reads-before : (k k' : Configuration Unit Unit) (name name' : Name) (rest : List Seat) (place : Point) (block n : ℕ) (marks : List Marked) → Goes g text step reads k name k' name'
      → ReadsLine k' name' rest place block n marks → ReadsLine k name rest place block n marks
  reads-before k k' name name' rest place block n marks leads r =
      record { to = r.to; ended = r.ended; after = r.after; stands = r.stands; before = r.before; known = r.known; goes = λ es h. leads es (r.goes es h) }

  -- A chunk is read from its first byte on
  reads-chunk : (s : Seat) (ss : List Seat) (p : ℕ) (b : Bool) (place : Point) (block n : ℕ) (ms : List Marked) (local : Local Unit Unit) → Stands text p (s ∷ ss) place → KnowsLast block n ms (connects local) (begins_at local)
      → ReadsLine (held in_paragraph p Byte b (with_links ms) local) ParagraphStart (after_line (s ∷ ss)) (end_after place (first_line (s ∷ ss))) block n (ms ++ chunk_marks g.bytes (block, n) s ss place)
  reads-chunk s ss p b place block n ms local here known =
      let first : Marked = (event g.bytes Enter Data s.point, Some (block, n)) in
      let e = event g.bytes Exit Data (end_after place (first_line (s ∷ ss))) in
      let one = ms ++ first ∷ [] in
      let two = one ++ (e, None) ∷ [] in
      let begins = begins-chunk g text step reads s p b block n ms local (at-front text.seats p s ss here.0) known in
      let rest = reads-rest g text step reads (s ∷ ss) p b place (with_links one) begins.after here in
      let before = known-before block n ms (connects local) (begins_at local) known in
      let begun : EndsIn block n one (length ms) = record { front = ms; event = event g.bytes Enter Data s.point; tail = []; are = refl; before = before; plain = tt; at = refl } in
      let ends = subst (EndsIn block n one) (sym (rest.index ∙ begins.index)) begun in
      let knows : KnowsLast block (suc n) two (connects rest.after) (begins_at rest.after) = known-plain block (suc n) one (connects rest.after) (begins_at rest.after) e (rest.connect ∙ begins.connect, ends) in
      subst (ReadsLine (held in_paragraph p Byte b (with_links ms) local) ParagraphStart (after_line (s ∷ ss)) (end_after place (first_line (s ∷ ss))) block n) (append_assoc ms (first ∷ []) ((e, None) ∷ [])) (record {
        to = rest.to;
        ended = rest.ended;
        after = rest.after;
        stands = rest.stands;
        before = before-next block (suc n) two (known-before block (suc n) two (connects rest.after) (begins_at rest.after) knows);
        known = inr knows;
        goes = λ es h.
            begins.goes es
            (rest.goes es (subst (λ l. EndsWith g text step (shows (after_line (s ∷ ss)) in_paragraph rest.to rest.ended l rest.after) [] (Retry ParagraphLineStart) es) (links-plain one e) h));
      })

  -- Before a line of a paragraph: by whether it begins with a quote mark
  abbrev line_step : Configuration Unit Unit → Configuration Unit Unit → Bool → Step Unit Unit
  line_step k k1 c =
      let s = sight g text k in
      let quoted : Rows Unit Unit = row (enter BlockQuoteMarker ∷ consume ∷ exit BlockQuoteMarker ∷ []) (Next ParagraphStart) in
      let plain : Rows Unit Unit = row [] (Retry ParagraphStart) in
      step_of (cond c (picked quoted g s k1) (picked plain g s k1)) s k1

  line-starts : (p : ℕ) (b : Bool) (events : List Event) (local : Local Unit Unit) (s : Seat) → slice_get text.seats p ≡ Some s → is_line_ending s ≡ false → (c : Bool) → (s.byte == 62) ≡ c
      → let k = held in_paragraph p Byte b events local in
      let q = line_step k (held in_paragraph p Byte b events (counts local)) c in
      Leads g text step k [] (Retry ParagraphLineStart) q.configuration (q.choices ++ []) q.answer
  line-starts p b events local s at no_end c is es h =
      let k = held in_paragraph p Byte b events local in
      let k1 = held in_paragraph p Byte b events (counts local) in
      let test : is_quote_mark (byte_of (slice_get text.seats p)) ≡ c = ap (λ o. is_quote_mark (byte_of o)) at ∙ is in
      leads-row g text step ParagraphLineStart paragraph_line_start_rows reads.line_start k [] (Some other) (is-class g text p s false at no_end) es
      (subst (λ c. EndsWith g text step (line_step k k1 c).configuration ((line_step k k1 c).choices ++ []) (line_step k k1 c).answer es) (sym test) h)

  abbrev marked_line : List Event → Option Seat → List Event
  marked_line events o = (events ++ event g.bytes Enter BlockQuoteMarker (point_or text.end o) ∷ []) ++ event g.bytes Exit BlockQuoteMarker (end_or text.end o) ∷ []

  -- Behind a quote mark: the chunk, if anything is left
  reads-behind : (ss : List Seat) (p : ℕ) (place : Point) (block n : ℕ) (ms : List Marked) (local : Local Unit Unit) → Stands text p ss place → KnowsLast block n ms (connects local) (begins_at local)
      → ReadsLine (shows ss in_paragraph p false (with_links ms) local) ParagraphStart (after_line ss) (end_after place (first_line ss)) block n (ms ++ marked_span g.bytes (Some (block, n)) Data (first_line ss) [])
  reads-behind [] p place block n ms local here known =
      subst (ReadsLine (held in_paragraph p End true (with_links ms) local) ParagraphStart [] place block n) (sym (append-nil ms)) (record {
        to = p;
        ended = true;
        after = counts local;
        stands = here;
        before = before-next block n ms (known-before block n ms (connects local) (begins_at local) known);
        known = inl refl;
        goes = leads-row g text step ParagraphStart paragraph_start_rows reads.start (held in_paragraph p End true (with_links ms) local) [] None refl;
      })
  reads-behind (r ∷ rs) p place block n ms local here known =
      subst (λ marks. ReadsLine (held in_paragraph p Byte false (with_links ms) local) ParagraphStart (after_line (r ∷ rs)) (end_after place (first_line (r ∷ rs))) block n (ms ++ marks))
      (sym (chunk-marks g.bytes (block, n) r rs place)) (reads-chunk r rs p false place block n ms local here known)

  pub reads-line : (s : Seat) (ss : List Seat) (p : ℕ) (b : Bool) (place : Point) (block n : ℕ) (ms : List Marked) (local : Local Unit Unit) → Stands text p (s ∷ ss) place
      → KnowsLast block n ms (connects local) (begins_at local) → is_line_ending s ≡ false
      → let line = first_line (s ∷ ss) in
      ReadsLine (held in_paragraph p Byte b (with_links ms) local) ParagraphLineStart (after_line (s ∷ ss)) (end_after place line) block n (ms ++ line_marks g.bytes (block, n) line)
  reads-line s ss p b place block n ms local here known no_end =
      let at = at-front text.seats p s ss here.0 in
      let line = first_line (s ∷ ss) in
      let c : Chunk = (block, n) in
      let begins = held in_paragraph p Byte b (with_links ms) local in
      let Reads : List Marked → Type 0 = λ marks. ReadsLine begins ParagraphLineStart (after_line (s ∷ ss)) (end_after place line) block n (ms ++ marks) in
      elim (s.byte == 62) as (λ q. (s.byte == 62) ≡ q → Reads (line_marks g.bytes c line)) [
        | true ↦ λ quoted.
            let enters = event g.bytes Enter BlockQuoteMarker s.point in
            let exits = event g.bytes Exit BlockQuoteMarker s.end in
            let one = ms ++ (enters, None) ∷ [] in
            let two = one ++ (exits, None) ∷ [] in
            let next = stands-next text p s ss place here in
            let marks = marked_span g.bytes (Some c) Data (first_line ss) [] in
            let line_is : (enters, None) ∷ (exits, None) ∷ marks ≡ line_marks g.bytes c line =
            sym (ap (line_marks g.bytes c) (line-on s ss no_end) ∙ ap (λ q. marks_by g.bytes c q (s ∷ first_line ss)) quoted) in
            let same : two ++ marks ≡ ms ++ line_marks g.bytes c line = three ms (enters, None) (exits, None) marks ∙ ap (λ l. ms ++ l) line_is in
            let linked : with_links two ≡ marked_line (with_links ms) (Some s) = links-plain one exits ∙ ap (λ l. l ++ exits ∷ []) (links-plain ms enters) in
            let knows = known-plain block n one (connects local) (begins_at local) exits (known-plain block n ms (connects local) (begins_at local) enters known) in
            let leads : Goes g text step reads begins ParagraphLineStart (shows ss in_paragraph (p + 1) false (with_links two) (counts local)) ParagraphStart = λ es h.
            line-starts p b (with_links ms) local s at no_end true quoted es
            (subst (λ o. EndsWith g text step (held in_paragraph (p + 1) Nothing false (marked_line (with_links ms) o) (counts local)) [] (Next ParagraphStart) es) (sym at)
            (goes-next has_events g text step ss in_paragraph (p + 1) false (marked_line (with_links ms) (Some s)) (counts local) [] ParagraphStart next.0 es
            (subst (λ l. EndsWith g text step (shows ss in_paragraph (p + 1) false l (counts local)) [] (Retry ParagraphStart) es) linked h))) in
            subst (λ t. ReadsLine begins ParagraphLineStart (cond t ss (after_line ss)) (end_after place (cond t (s ∷ []) (s ∷ first_line ss))) block n (ms ++ line_marks g.bytes c line)) (sym no_end)
            (subst (ReadsLine begins ParagraphLineStart (after_line ss) (end_after s.end (first_line ss)) block n) same
            (reads-before begins _ ParagraphLineStart ParagraphStart _ _ block n _ leads (reads-behind ss (p + 1) s.end block n two (counts local) next knows)))
        | false ↦ λ plain.
            let is : is_quoted line ≡ false = ap is_quoted (line-on s ss no_end) ∙ plain in
            let line_is : line_marks g.bytes c line ≡ marked_span g.bytes (Some c) Data line [] = ap (λ q. marks_by g.bytes c q line) is in
            subst Reads (sym (line_is ∙ chunk-marks g.bytes c s ss place))
            (reads-before begins _ ParagraphLineStart ParagraphStart _ _ block n _ (line-starts p b (with_links ms) local s at no_end false plain)
            (reads-chunk s ss p b place block n ms (counts local) here known))
      ] refl

  -- Where no line of a paragraph begins, it ends
  pub paragraph-ends : (l : List Seat) (p : ℕ) (b : Bool) (place : Point) (events : List Event) (local : Local Unit Unit) → Stands text p l place → Stops l
      → Goes g text step reads (shows l in_paragraph p b events local) ParagraphLineStart (shows l [] p b (events ++ event g.bytes Exit Paragraph place ∷ []) (counts local)) FlowStart
  paragraph-ends [] p b place events local here stops es h =
      leads-row g text step ParagraphLineStart paragraph_line_start_rows reads.line_start (held in_paragraph p End true events local) [] None refl es
      (subst (λ q. EndsWith g text step (held [] p End true (events ++ event g.bytes Exit Paragraph q ∷ []) (counts local)) [] (Retry FlowStart) es) (sym here.1) h)
  paragraph-ends (s ∷ ss) p b place events local here stops es h =
      leads-row g text step ParagraphLineStart paragraph_line_start_rows reads.line_start (held in_paragraph p Byte b events local) [] (Some line_ending)
      (is-class g text p s true (at-front text.seats p s ss here.0) stops) es
      (subst (λ q. EndsWith g text step (held [] p Byte b (events ++ event g.bytes Exit Paragraph q ∷ []) (counts local)) [] (Retry FlowStart) es) (sym here.1) h)

-- what is added one after another
nest : (ms : List Marked) (x : Marked) (one more : List Marked) (y : Marked) (rest : List Marked)
    → ((((ms ++ x ∷ []) ++ one) ++ more) ++ y ∷ []) ++ rest ≡ ms ++ ((x ∷ ((one ++ more) ++ y ∷ [])) ++ rest)
nest ms x one more y rest = simp append_assoc

-- what is added for a paragraph of these lines, and for the blocks behind it
paragraph-marked : (bytes : List ℕ) (s : Seat) (ss : List Seat) (lines : List (List Seat)) (place : Point) (block : ℕ) (ms : List Marked) (others : List Block) → is_line_ending s ≡ false
    → let first = first_line (s ∷ ss) in
    ((((ms ++ (event bytes Enter Paragraph s.point, None) ∷ []) ++ line_marks bytes (block, 0) first) ++ lines_marks bytes block 1 lines)
    ++ (event bytes Exit Paragraph (end_after (end_after place first) (all_of lines)), None) ∷ []) ++ blocks_marks bytes (suc block) others
    ≡ ms ++ blocks_marks bytes block (paragraph (first ∷ lines) ∷ others)
paragraph-marked bytes s ss lines place block ms others no_end =
    let first = first_line (s ∷ ss) in
    let inside = line_marks bytes (block, 0) first ++ lines_marks bytes block 1 lines in
    let spanned : Point → List Marked = λ q. (event bytes Enter Paragraph s.point, None) ∷ (inside ++ (event bytes Exit Paragraph q, None) ∷ []) in
    let span : marked_span bytes None Paragraph (first ++ all_of lines) inside ≡ spanned (end_after (end_after place first) (all_of lines)) =
    subst (λ line. marked_span bytes None Paragraph (line ++ all_of lines) inside ≡ spanned (end_after (end_after place line) (all_of lines))) (sym (line-on s ss no_end))
    (ap spanned (end-after-append s.end (first_line ss) (all_of lines))) in
    nest ms (event bytes Enter Paragraph s.point, None) (line_marks bytes (block, 0) first) (lines_marks bytes block 1 lines)
    (event bytes Exit Paragraph (end_after (end_after place first) (all_of lines)), None) (blocks_marks bytes (suc block) others)
    ∙ ap (λ l. ms ++ (l ++ blocks_marks bytes (suc block) others)) (sym span)

module _ (g : Given) (text : Text) (step : Sight → Configuration Unit Unit → Name → Step Unit Unit) (reads : ReadsBlocks g text step) where
  -- The lines that go on a paragraph were read, up to this place
  record ReadsRun (k : Configuration Unit Unit) (rest : List Seat) (place : Point) (block : ℕ) (marks : List Marked) : Type 0 where
    pub to : ℕ
    pub ended : Bool
    pub after : Local Unit Unit
    pub stands : Stands text to rest place
    pub before : AllByRecursion (IsBefore (suc block) 0) marks
    pub goes : Goes g text step reads k ParagraphLineStart (shows rest in_paragraph to ended (with_links marks) after) ParagraphLineStart

  -- which they are, and that they were
  abbrev RunRead : (l : List Seat) → Configuration Unit Unit → Point → (block n : ℕ) → List Marked → Type 0
  RunRead l k place block n ms = (run : Run l) × ReadsRun k run.rest (end_after place (all_of run.lines)) block (ms ++ lines_marks g.bytes block n run.lines)

  -- none goes on
  stops-there : (l : List Seat) (p : ℕ) (b : Bool) (place : Point) (block : ℕ) (ms : List Marked) (local : Local Unit Unit) → Stands text p l place → AllByRecursion (IsBefore (suc block) 0) ms
      → ReadsRun (shows l in_paragraph p b (with_links ms) local) l place block (ms ++ [])
  stops-there l p b place block ms local here before =
      subst (ReadsRun (shows l in_paragraph p b (with_links ms) local) l place block) (sym (append-nil ms)) (record { to = p; ended = b; after = local; stands = here; before = before; goes = λ es h. h })

  reads-run : (m : ℕ) (l : List Seat) → length l ≤ m → (p : ℕ) (b : Bool) (place : Point) (block n : ℕ) (ms : List Marked) (local : Local Unit Unit) → Stands text p l place
      → AllByRecursion (IsBefore (suc block) 0) ms → (l ≡ []) ⊎ KnowsLast block n ms (connects local) (begins_at local) → RunRead l (shows l in_paragraph p b (with_links ms) local) place block n ms
  reads-run m [] few p b place block n ms local here before known =
      (record { lines = []; rest = []; goes_on = λ line. refl; stops = tt; shorter = omega arith }, stops-there [] p b place block ms local here before)
  reads-run zero (s ∷ ss) few p b place block n ms local here before known = absurd (omega (arith, few))
  reads-run (suc m) (s ∷ ss) few p b place block n ms local here before known =
      elim (is_line_ending s) as (λ t. is_line_ending s ≡ t → RunRead (s ∷ ss) (held in_paragraph p Byte b (with_links ms) local) place block n ms) [
        | true ↦ λ is.
            let same = blank-block s ss is in (
              record { lines = []; rest = s ∷ ss; goes_on = λ line. ap (continued line) same ∙ ap (λ bs. paragraph (line ∷ []) ∷ bs) (sym same); stops = is; shorter = omega arith },
              stops-there (s ∷ ss) p b place block ms local here before,
            )
        | false ↦ λ no_end. elim known [
          | inl none ↦ absurd (cc)
          | inr knows ↦
              let first = first_line (s ∷ ss) in
              let line = reads-line g text step reads s ss p b place block n ms local here knows no_end in
              let marks = line_marks g.bytes (block, n) first in
              let less = after-less s ss in
              let then = reads-run m (after_line (s ∷ ss)) (omega (arith, less, few)) line.to line.ended (end_after place first) block (suc n) (ms ++ marks) line.after line.stands line.before line.known in
              let run = then.0 in
              let r = then.1 in
              let shorter = run.shorter in (
                record {
                  lines = first ∷ run.lines;
                  rest = run.rest;
                  goes_on = λ before. ap (continued before) (other-block s ss no_end ∙ run.goes_on first);
                  stops = run.stops;
                  shorter = omega (arith, less, shorter);
                },
                subst (λ q. ReadsRun (held in_paragraph p Byte b (with_links ms) local) run.rest q block (ms ++ (marks ++ lines_marks g.bytes block (suc n) run.lines))) (sym (end-after-append place first (all_of run.lines)))
                    (subst (ReadsRun (held in_paragraph p Byte b (with_links ms) local) run.rest (end_after (end_after place first) (all_of run.lines)) block) (append_assoc ms marks (lines_marks g.bytes block (suc n) run.lines))
                    (record { to = r.to; ended = r.ended; after = r.after; stands = r.stands; before = r.before; goes = λ es h. line.goes es (r.goes es h) })),
              )
        ]
      ] refl

  -- Before a block: the end, a blank line, and a paragraph
  abbrev at_flow : List Seat → ℕ → Bool → List Event → Local Unit Unit → List Event → Type 0
  at_flow l p b events local es = EndsWith g text step (shows l [] p b events local) [] (Retry FlowStart) es

  abbrev blank_line : List Event → Option Seat → List Event
  blank_line events o = (events ++ event g.bytes Enter BlankLineEnding (point_or text.end o) ∷ []) ++ event g.bytes Exit BlankLineEnding (end_or text.end o) ∷ []

  -- From before a block on, with what is marked so far, all blocks that are left are read
  abbrev pub FromFlow : (l : List Seat) → Type 0
  FromFlow l = (p : ℕ) (b : Bool) (place : Point) (block : ℕ) (ms : List Marked) (local : Local Unit Unit) → Stands text p l place → AllByRecursion (IsBefore block 0) ms
      → at_flow l p b (with_links ms) local (with_links (ms ++ blocks_marks g.bytes block (blocks_of (lines_in l))))

  from-blank : (s : Seat) (ss : List Seat) → is_line_ending s ≡ true → FromFlow ss → FromFlow (s ∷ ss)
  from-blank s ss is then p b place block ms local here before =
      let next = stands-next text p s ss place here in
      let at = at-front text.seats p s ss here.0 in
      let enters = event g.bytes Enter BlankLineEnding s.point in
      let exits = event g.bytes Exit BlankLineEnding s.end in
      let one = ms ++ (enters, None) ∷ [] in
      let two = one ++ (exits, None) ∷ [] in
      let rest = blocks_marks g.bytes (suc block) (blocks_of (lines_in ss)) in
      let linked : with_links two ≡ blank_line (with_links ms) (Some s) = links-plain one exits ∙ ap (λ l. l ++ exits ∷ []) (links-plain ms enters) in
      let same : two ++ rest ≡ ms ++ blocks_marks g.bytes block (blocks_of (lines_in (s ∷ ss))) =
      three ms (enters, None) (exits, None) rest ∙ ap (λ bs. ms ++ blocks_marks g.bytes block bs) (sym (blank-block s ss is)) in
      let all : AllByRecursion (IsBefore (suc block) 0) two =
      every-append (IsBefore (suc block) 0) one ((exits, None) ∷ []) (every-append (IsBefore (suc block) 0) ms ((enters, None) ∷ []) (before-next block 0 ms before) (tt, tt)) (tt, tt) in
      subst (λ l. at_flow (s ∷ ss) p b (with_links ms) local (with_links l)) same
      (leads-row g text step FlowStart flow_start_rows reads.flow_start (held [] p Byte b (with_links ms) local) [] (Some line_ending) (is-class g text p s true at is) (with_links (two ++ rest))
      (subst (λ o. EndsWith g text step (held [] (p + 1) Nothing false (blank_line (with_links ms) o) (counts local)) [] (Next FlowStart) (with_links (two ++ rest))) (sym at)
      (goes-next has_events g text step ss [] (p + 1) false (blank_line (with_links ms) (Some s)) (counts local) [] FlowStart next.0 (with_links (two ++ rest))
      (subst (λ l. at_flow ss (p + 1) false l (counts local) (with_links (two ++ rest))) linked (then (p + 1) false s.end (suc block) two (counts local) next all)))))

  from-paragraph : (m : ℕ) (s : Seat) (ss : List Seat) → length ss ≤ m → is_line_ending s ≡ false → ((l : List Seat) → length l ≤ m → FromFlow l) → FromFlow (s ∷ ss)
  from-paragraph m s ss few no_end then p b place block ms local here before =
      let at = at-front text.seats p s ss here.0 in
      let enters = event g.bytes Enter Paragraph s.point in
      let one = ms ++ (enters, None) ∷ [] in
      let counted = counts local in
      let begun = record counted { tokenize_state = record counted.tokenize_state { connect = false } } in
      let known : KnowsLast block 0 one (connects begun) (begins_at begun) = (refl, every-append (IsBefore block 0) ms ((enters, None) ∷ []) before (tt, tt)) in
      let line = reads-line g text step reads s ss p b place block 0 one begun here known no_end in
      let first = first_line (s ∷ ss) in
      let marks = line_marks g.bytes (block, 0) first in
      let less = after-less s ss in
      let found = reads-run m (after_line (s ∷ ss)) (omega (arith, less, few)) line.to line.ended (end_after place first) block 1 (one ++ marks) line.after line.stands line.before line.known in
      let r = found.1 in
      let lines = found.0.lines in
      let rest = found.0.rest in
      let more = lines_marks g.bytes block 1 lines in
      let all = (one ++ marks) ++ more in
      let last = end_after (end_after place first) (all_of lines) in
      let exits = event g.bytes Exit Paragraph last in
      let closed = all ++ (exits, None) ∷ [] in
      let shorter = found.0.shorter in
      let others = blocks_marks g.bytes (suc block) (blocks_of (lines_in rest)) in
      let after : AllByRecursion (IsBefore (suc block) 0) closed = every-append (IsBefore (suc block) 0) all ((exits, None) ∷ []) r.before (tt, tt) in
      let blocks : blocks_of (lines_in (s ∷ ss)) ≡ paragraph (first ∷ lines) ∷ blocks_of (lines_in rest) = other-block s ss no_end ∙ found.0.goes_on first in
      let same : closed ++ others ≡ ms ++ blocks_marks g.bytes block (blocks_of (lines_in (s ∷ ss))) =
      subst (λ bs. closed ++ others ≡ ms ++ blocks_marks g.bytes block bs) (sym blocks) (paragraph-marked g.bytes s ss lines place block ms (blocks_of (lines_in rest)) no_end) in
      let end = with_links (closed ++ others) in
      subst (λ l. at_flow (s ∷ ss) p b (with_links ms) local (with_links l)) same
      (leads-row g text step FlowStart flow_start_rows reads.flow_start (held [] p Byte b (with_links ms) local) [] (Some other) (is-class g text p s false at no_end) end
      (subst (λ o. EndsWith g text step (held in_paragraph p Byte b (with_links ms ++ event g.bytes Enter Paragraph (point_or text.end o) ∷ []) begun) [] (Retry ParagraphLineStart) end) (sym at)
      (subst (λ l. EndsWith g text step (held in_paragraph p Byte b l begun) [] (Retry ParagraphLineStart) end) (links-plain ms enters)
      (line.goes end
      (r.goes end
      (paragraph-ends g text step reads rest r.to r.ended last (with_links all) r.after r.stands found.0.stops end
      (subst (λ l. at_flow rest r.to r.ended l (counts r.after) end) (links-plain all exits)
      (then rest (omega (arith, less, few, shorter)) r.to r.ended last (suc block) closed (counts r.after) r.stands after))))))))

  reads-blocks : (m : ℕ) (l : List Seat) → length l ≤ m → FromFlow l
  reads-blocks m [] few = λ p b place block ms local here before.
      let events = with_links ms in
      subst (at_flow [] p b events local) (ap with_links (sym (append-nil ms)))
      (leads-row g text step FlowStart flow_start_rows reads.flow_start (held [] p End true events local) [] None refl events (ended g text step (held [] p End true events (counts local))))
  reads-blocks zero (s ∷ ss) few = absurd (omega (arith, few))
  reads-blocks (suc m) (s ∷ ss) few =
      let fewer : length ss ≤ m = omega (arith, few) in
      elim (is_line_ending s) as (λ t. is_line_ending s ≡ t → FromFlow (s ∷ ss)) [
        | true ↦ λ is. from-blank s ss is (reads-blocks m ss fewer)
        | false ↦ λ no_end. from-paragraph m s ss fewer no_end (reads-blocks m)
      ] refl

  -- the whole text, from the start
  pub reads-whole : (flag : Bool) → EndsWith g text step (start_configuration flag) [] (Next FlowStart) (paragraph_events g.bytes text.seats)
  reads-whole flag =
      let local = (start_configuration {R = Unit} {D = Unit} flag).local in
      let end = paragraph_events g.bytes text.seats in
      goes-next has_events g text step text.seats [] 0 false [] local [] FlowStart refl end (reads-blocks (length text.seats) text.seats (omega arith) 0 false text.start 0 [] local (refl, refl) tt)

-- A machine that has the states of paragraphs reads each document so
pub blocks-read : (rules : Given → Rules Unit Unit) → ((g : Given) → ReadsBlocks g (whole_text g) (rules g).step) → IsReadAs rules FlowStart paragraph_events
blocks-read rules reads = reads-as rules FlowStart paragraph_events (λ g. reads-whole g (whole_text g) (rules g).step (reads g) false)
