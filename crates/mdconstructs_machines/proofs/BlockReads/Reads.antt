-- The lines of a text and the blocks that they are in, and what a machine that has the states of paragraphs reads, in small steps.
use Rattle.mdconstructs_machines.proofs.Prelude.{◌≡◌, ℕ, zero, suc, ◌+◌, ◌-◌, ◌∷◌, ◌++◌, [], List, Bool, true, false, cond, refl, sym, ◌∙◌, ap, subst, Option, Some, None, arith, length, drop, slice_get, length-append, length-map, drop-next, Event, Enter, Exit, Paragraph, Data, Point, Name, Next, Retry, FlowStart, ParagraphLineStart, ParagraphStart, ParagraphInside, Seat, end_after, Nothing, Byte, End, Given, Text, Configuration, Local, Step, Sight, sight, end_place, end_or, point_or, Rows, row, enter_link, links, write, picked, step_of, updated_at, with_next, with_previous, linked_to, updated-length, is_line_ending, event, line_ending, other, counts, flow_start_rows, paragraph_line_start_rows, paragraph_start_rows, text_link, chunk_before, last_event, connected, Marked, as_linked, with_links, EventName, ◌≤◌, joined, lines_in, blank, paragraph, is_blank, continued, blocks_of}
use Rattle.mdconstructs_tables.specs.Paragraphs.{paragraph_inside_rows}
use Rattle.mdconstructs_machines.proofs.BlockReads.Links.{alone, KnowsLast, links-first, links-next}
use Rattle.mdconstructs_machines.proofs.LineReads.Rows.{HasRows, is-class, leads-row}
use Rattle.mdconstructs_machines.proofs.LineReads.Steps.{EndsWith, Leads, held, shows, goes-next, at-front, has_events}

-- the line at the front
abbrev pub first_line : List Seat → List Seat
first_line [] = []
first_line (s ∷ ss) = cond (is_line_ending s) (s ∷ []) (s ∷ first_line ss)

-- and what is behind it
abbrev pub after_line : List Seat → List Seat
after_line [] = []
after_line (s ∷ ss) = cond (is_line_ending s) ss (after_line ss)

-- a line that begins with another byte than a line ending goes on behind it
pub line-on : (s : Seat) (ss : List Seat) → is_line_ending s ≡ false → first_line (s ∷ ss) ≡ s ∷ first_line ss
line-on s ss no_end = ap (λ b. cond b (s ∷ []) (s ∷ first_line ss)) no_end

-- what is behind a line is shorter
pub after-less : (s : Seat) (ss : List Seat) → length (after_line (s ∷ ss)) ≤ length ss
after-less s [] = elim (is_line_ending s) as (λ b. length (cond {A = List Seat} b [] []) ≤ 0) [ true ↦ omega arith | false ↦ omega arith ]
after-less s (r ∷ rs) =
    let then = after-less r rs in
    elim (is_line_ending s) as (λ b. length (cond b (r ∷ rs) (after_line (r ∷ rs))) ≤ suc (length rs)) [ true ↦ omega arith | false ↦ omega (arith, then) ]

-- the lines are the first, and those behind it
pub lines-are : (s : Seat) (ss : List Seat) → lines_in (s ∷ ss) ≡ first_line (s ∷ ss) ∷ lines_in (after_line (s ∷ ss))
lines-are s [] = elim (is_line_ending s) as (λ b. cond b ((s ∷ []) ∷ []) (joined s []) ≡ cond b (s ∷ []) (s ∷ []) ∷ lines_in (cond b [] [])) [ true ↦ refl | false ↦ refl ]
lines-are s (r ∷ rs) =
    elim (is_line_ending s) as (λ b. cond b ((s ∷ []) ∷ lines_in (r ∷ rs)) (joined s (lines_in (r ∷ rs))) ≡ cond b (s ∷ []) (s ∷ first_line (r ∷ rs)) ∷ lines_in (cond b (r ∷ rs) (after_line (r ∷ rs)))) [
      | true ↦ refl
      | false ↦ ap (joined s) (lines-are r rs)
    ]

-- a line ending that begins a line is a blank line
pub blank-block : (s : Seat) (ss : List Seat) → is_line_ending s ≡ true → blocks_of (lines_in (s ∷ ss)) ≡ blank (s ∷ []) ∷ blocks_of (lines_in ss)
blank-block s ss is = rw (is, is)

-- another line goes on with what is behind it
pub other-block : (s : Seat) (ss : List Seat) → is_line_ending s ≡ false → blocks_of (lines_in (s ∷ ss)) ≡ continued (first_line (s ∷ ss)) (blocks_of (lines_in (after_line (s ∷ ss))))
other-block s ss no_end =
    let line = first_line (s ∷ ss) in
    let rest = blocks_of (lines_in (after_line (s ∷ ss))) in
    let no : is_blank line ≡ false = ap is_blank (line-on s ss no_end) ∙ no_end in
    ap blocks_of (lines-are s ss) ∙ ap (λ b. cond b (blank line ∷ rest) (continued line rest)) no

-- no line of a paragraph begins here: it is the end, or a blank line
abbrev pub Stops : List Seat → Type 0
Stops [] = Unit {0}
Stops (s ∷ ss) = is_line_ending s ≡ true

-- The lines at the front of a text that are not blank, all of them, and what is behind them
pub record Run (l : List Seat) : Type 0 where
  pub lines : List (List Seat)
  pub rest : List Seat
  pub goes_on : (line : List Seat) → continued line (blocks_of (lines_in l)) ≡ paragraph (line ∷ lines) ∷ blocks_of (lines_in rest)
  pub stops : Stops rest
  pub shorter : length rest ≤ length l

-- spans that are open: a paragraph, and a chunk in it
abbrev pub in_paragraph : List EventName
in_paragraph = Paragraph ∷ []

abbrev pub in_chunk : List EventName
in_chunk = Paragraph ∷ Data ∷ []

-- a chunk came before in the paragraph, and at which index it begins
abbrev pub connects : Local Unit Unit → Bool
connects local = local.tokenize_state.connect

abbrev pub begins_at : Local Unit Unit → ℕ
begins_at local = local.tokenize_state.start

-- one is there: these virtual bytes are left, and the byte before ends at this place
abbrev pub Stands : Text → ℕ → List Seat → Point → Type 0
Stands text p l place = (drop p text.seats ≡ l) × (end_place text p ≡ place)

pub stands-next : (text : Text) (p : ℕ) (s : Seat) (ss : List Seat) (place : Point) → Stands text p (s ∷ ss) place → Stands text (p + 1) ss s.end
stands-next text p s ss place h =
    let one : p + 1 ≡ suc p = omega arith in
    (drop-next text.seats p s ss h.0, ap (end_place text) one ∙ ap (end_or text.start) (at-front text.seats p s ss h.0))

module _ (g : Given) (text : Text) (step : Sight → Configuration Unit Unit → Name → Step Unit Unit) where
  -- The machine has the states of paragraphs
  pub record ReadsBlocks : Type 0 where
    pub flow_start : HasRows g text step FlowStart flow_start_rows
    pub line_start : HasRows g text step ParagraphLineStart paragraph_line_start_rows
    pub start : HasRows g text step ParagraphStart paragraph_start_rows
    pub inside : HasRows g text step ParagraphInside paragraph_inside_rows

module _ (g : Given) (text : Text) (step : Sight → Configuration Unit Unit → Name → Step Unit Unit) (reads : ReadsBlocks g text step) where
  abbrev pub Goes : Configuration Unit Unit → Name → Configuration Unit Unit → Name → Type 0
  Goes k name k' name' = Leads g text step k [] (Retry name) k' [] (Retry name')

  -- All of a chunk was read, up to the next line; of chunks it is known what was known
  pub record ReadsRest (k : Configuration Unit Unit) (rest : List Seat) (place : Point) (events : List Event) (local : Local Unit Unit) : Type 0 where
    pub to : ℕ
    pub ended : Bool
    pub after : Local Unit Unit
    pub connect : connects after ≡ connects local
    pub index : begins_at after ≡ begins_at local
    pub stands : Stands text to rest place
    pub goes : Goes k ParagraphInside (shows rest in_paragraph to ended (events ++ event g.bytes Exit Data place ∷ []) after) ParagraphLineStart

  pub reads-rest : (l : List Seat) (p : ℕ) (b : Bool) (place : Point) (events : List Event) (local : Local Unit Unit) → Stands text p l place
      → ReadsRest (shows l in_chunk p b events local) (after_line l) (end_after place (first_line l)) events local
  reads-rest [] p b place events local here =
      let goes = leads-row g text step ParagraphInside paragraph_inside_rows reads.inside (held in_chunk p End true events local) [] None refl in
      subst (λ q. ReadsRest (held in_chunk p End true events local) [] q events local) here.1
      (record { to = p; ended = true; after = counts local; connect = refl; index = refl; stands = (here.0, refl); goes = goes })
  reads-rest (s ∷ ss) p b place events local here =
      let k = held in_chunk p Byte b events local in
      let next = stands-next text p s ss place here in
      let at = at-front text.seats p s ss here.0 in
      let then = reads-rest ss (p + 1) false s.end events (counts local) next in
      let exited = λ (o : Option Seat). events ++ event g.bytes Exit Data (end_or text.end o) ∷ [] in
      elim (is_line_ending s) as (λ t. is_line_ending s ≡ t → ReadsRest k (cond t ss (after_line ss)) (end_after place (cond t (s ∷ []) (s ∷ first_line ss))) events local) [
        | true ↦ λ is. record {
          to = p + 1;
          ended = false;
          after = counts local;
          connect = refl;
          index = refl;
          stands = next;
          goes = λ es h.
              leads-row g text step ParagraphInside paragraph_inside_rows reads.inside k [] (Some line_ending) (is-class g text p s true at is) es
              (subst (λ o. EndsWith g text step (held in_paragraph (p + 1) Nothing false (exited o) (counts local)) [] (Next ParagraphLineStart) es) (sym at)
              (goes-next has_events g text step ss in_paragraph (p + 1) false (exited (Some s)) (counts local) [] ParagraphLineStart next.0 es h));
        }
        | false ↦ λ is. record {
          to = then.to;
          ended = then.ended;
          after = then.after;
          connect = then.connect;
          index = then.index;
          stands = then.stands;
          goes = λ es h.
              leads-row g text step ParagraphInside paragraph_inside_rows reads.inside k [] (Some other) (is-class g text p s false at is) es
              (goes-next has_events g text step ss in_chunk (p + 1) false events (counts local) [] ParagraphInside next.0 es (then.goes es h));
        }
      ] refl

  -- A chunk begins: as it is entered, and with what is known of the chunk before
  abbrev entered_chunk : List Event → Option Seat → List Event
  entered_chunk events o = events ++ alone (event g.bytes Enter Data (point_or text.end o)) ∷ []

  abbrev begun : List Event → Local Unit Unit → Local Unit Unit
  begun events local = record local { tokenize_state = record local.tokenize_state { start = length events - 1; connect = true } }

  abbrev joined_chunk : List Event → Local Unit Unit → Option Seat → List Event
  joined_chunk events local o = linked_to (begins_at local) (length (entered_chunk events o) - 1) (entered_chunk events o)

  -- the step, by whether a chunk came before
  abbrev start_step : Configuration Unit Unit → Configuration Unit Unit → Bool → Step Unit Unit
  start_step k k1 c =
      let s = sight g text k in
      let linked : Rows Unit Unit = row (enter_link Data text_link ∷ links chunk_before last_event ∷ write connected ∷ []) (Retry ParagraphInside) in
      let first : Rows Unit Unit = row (enter_link Data text_link ∷ write connected ∷ []) (Retry ParagraphInside) in
      step_of (cond c (picked linked g s k1) (picked first g s k1)) s k1

  starts : (p : ℕ) (b : Bool) (events : List Event) (local : Local Unit Unit) (s : Seat) → slice_get text.seats p ≡ Some s → (c : Bool) → connects local ≡ c
      → let k = held in_paragraph p Byte b events local in
      let q = start_step k (held in_paragraph p Byte b events (counts local)) c in
      Leads g text step k [] (Retry ParagraphStart) q.configuration (q.choices ++ []) q.answer
  starts p b events local s at c is es h =
      let k = held in_paragraph p Byte b events local in
      let k1 = held in_paragraph p Byte b events (counts local) in
      leads-row g text step ParagraphStart paragraph_start_rows reads.start k [] (Some (cond (is_line_ending s) line_ending other)) (is-class g text p s (is_line_ending s) at refl) es
      (subst (λ c. EndsWith g text step (start_step k k1 c).configuration ((start_step k k1 c).choices ++ []) (start_step k k1 c).answer es) (sym is) h)

  -- so it begins where marked events have one more
  pub record BeginsChunk (s : Seat) (p : ℕ) (b : Bool) (block n : ℕ) (ms : List Marked) (local : Local Unit Unit) : Type 0 where
    pub after : Local Unit Unit
    pub connect : connects after ≡ true
    pub index : begins_at after ≡ length ms
    pub goes : Goes (held in_paragraph p Byte b (with_links ms) local) ParagraphStart
        (held in_chunk p Byte b (with_links (ms ++ (event g.bytes Enter Data s.point, Some (block, n)) ∷ [])) after) ParagraphInside

  last-of : (ms : List Marked) (e : Event) → length (with_links ms ++ e ∷ []) - 1 ≡ length ms
  last-of ms e =
      let long : length (with_links ms ++ e ∷ []) ≡ length (with_links ms) + 1 = length-append (with_links ms) (e ∷ []) in
      let same : length (with_links ms) ≡ length ms = length-map ms (as_linked ms) in omega (arith, long, same)

  pub begins-chunk : (s : Seat) (p : ℕ) (b : Bool) (block n : ℕ) (ms : List Marked) (local : Local Unit Unit) → slice_get text.seats p ≡ Some s → KnowsLast block n ms (connects local) (begins_at local)
      → BeginsChunk s p b block n ms local
  begins-chunk s p b block zero ms local at known =
      let e = event g.bytes Enter Data s.point in
      let new = with_links ms ++ alone e ∷ [] in
      let is : with_links (ms ++ (e, Some (block, 0)) ∷ []) ≡ new = links-first ms e block known.1 in record {
        after = begun new (counts local);
        connect = refl;
        index = last-of ms (alone e);
        goes = λ es h.
            starts p b (with_links ms) local s at false known.0 es
            (subst (λ o. let after = entered_chunk (with_links ms) o in EndsWith g text step (held in_chunk p Byte b after (begun after (counts local))) [] (Retry ParagraphInside) es) (sym at)
            (subst (λ l. EndsWith g text step (held in_chunk p Byte b l (begun new (counts local))) [] (Retry ParagraphInside) es) is h));
      }
  begins-chunk s p b block (suc n) ms local at known =
      let e = event g.bytes Enter Data s.point in
      let i = begins_at local in
      let one = with_links ms ++ alone e ∷ [] in
      let new = linked_to i (length one - 1) one in
      let last : length one - 1 ≡ length ms = last-of ms (alone e) in
      let is : with_links (ms ++ (e, Some (block, suc n)) ∷ []) ≡ new = links-next ms e block n i known.1 ∙ ap (λ m. linked_to i m one) (sym last) in record {
        after = begun new (counts local);
        connect = refl;
        index = ap (λ m. m - 1) (updated-length (length one - 1) (with_previous i) (updated_at i (with_next (length one - 1)) one) ∙ updated-length i (with_next (length one - 1)) one) ∙ last;
        goes = λ es h.
            starts p b (with_links ms) local s at true known.0 es
            (subst (λ o. let after = joined_chunk (with_links ms) local o in EndsWith g text step (held in_chunk p Byte b after (begun after (counts local))) [] (Retry ParagraphInside) es) (sym at)
            (subst (λ l. EndsWith g text step (held in_chunk p Byte b l (begun new (counts local))) [] (Retry ParagraphInside) es) is h));
      }
