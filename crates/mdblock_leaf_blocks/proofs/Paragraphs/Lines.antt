-- A paragraph, line by line: where its text stands at a line ending, and what comes of the rest.
use Rattle.mdblock_leaf_blocks.proofs.Prelude.{Bool, List, None, Option, Some, [], ap, append-nil, append_assoc, arith, cond, drop, false, length, length-append, refl, subst, sym, true, ℕ, ◌++◌, ◌+◌, ◌-◌, ◌==◌, ◌∙◌, ◌∷◌, ◌≡◌, end-after-one, Seat, end_after, TextContent, Event, Enter, Exit, Data, Paragraph, Point, State, Retry, FlowAfter, ParagraphInside, ParagraphStart, linked_to, with_local, Configuration, Local, end_place, Given, Text, Byte, flow_byte, line_feed, HeadingSetextTextAfter, ParagraphLineAfter, IsReadAs, last_ending, Line, Mark, body, chunk_span, linked_from, text_marks, IsInLine, LeavesAll, ending_of, line_text, event, waits_at, consume, exit}
use Rattle.mdblock_leaf_blocks.proofs.Lines.{IsAt, Leads, all-in-line, at-behind, behind-line, in-line-ending, in-line-text, is_in_line, leaves, read-leads, row-ends, row-takes-on, run-on, then-ends}
use Rattle.mdblock_leaf_blocks.proofs.Lines.Leading.{leads-on}
use Rattle.mdblock_leaf_blocks.proofs.Paragraphs.Calls.{begins, begun, inside_runs, same_kept}
use Rattle.mdblock_leaf_blocks.proofs.Paragraphs.ChunkLinks.{linked-last}

-- what is kept along a paragraph
pub record Keeps (before after : Local Unit Unit) : Type 0 where
  pub edits : after.map ≡ before.map
  pub resolvers : after.resolvers ≡ before.resolvers
  pub end : after.tokenize_state.end ≡ before.tokenize_state.end

pub keeps-on : (a b c : Local Unit Unit) → Keeps a b → Keeps b c → Keeps a c
keeps-on a b c h i = record { edits = i.edits ∙ h.edits; resolvers = i.resolvers ∙ h.resolvers; end = i.end ∙ h.end }

pub left-keeps : (a b : Local Unit Unit) → LeavesAll a b → Keeps a b
left-keeps a b h = record { edits = h.edits; resolvers = h.resolvers; end = h.end }

same-keeps : (a b : Local Unit Unit) → b ≡ a → Keeps a b
same-keeps a b is = record { edits = ap (λ (l : Local Unit Unit). l.map) is; resolvers = ap (λ (l : Local Unit Unit). l.resolvers) is; end = ap (λ (l : Local Unit Unit). l.tokenize_state.end) is }

-- the enter of a chunk at this index
abbrev pub chunk_at : (bytes : List ℕ) (has_previous : Bool) (index : ℕ) (next : Option ℕ) (place : Point) → Event
chunk_at bytes has_previous index next place =
    record (event bytes Enter Data place) { link = Some (record { previous = cond has_previous (Some (index - 2)) None; next = next; content = TextContent }) }

-- Where the text of a line of a paragraph ends at its line ending: its chunk is the last event, and it began here
pub record IsAtFeed (g : Given) (t : Text) (has_previous : Bool) (done : List Event) (s : Seat) (ss : List Seat) (feed : Seat) (rest : List Seat) (q : ℕ) (k : Configuration Unit Unit) : Type 0 where
  pub events_are : k.events ≡ done ++ chunk_at g.bytes has_previous (length done) None s.point ∷ []
  pub position_is : k.position ≡ q + length (s ∷ ss)
  pub at : drop q t.seats ≡ (s ∷ ss) ++ feed ∷ rest
  pub waits : k.waiting ≡ Byte
  pub feeds : feed.byte ≡ 10
  pub start : k.local.tokenize_state.start ≡ length done
  pub connects : k.local.tokenize_state.connect ≡ true

-- where an underline comes next, the index of the paragraph's exit is noted
abbrev pub IsNoted : (underlined : Bool) → Configuration Unit Unit → Type 0
IsNoted underlined after = underlined ≡ true → after.local.tokenize_state.start ≡ length after.events - 1

-- What comes of it: the lines from this one on are chunks, and the paragraph ends behind them
pub record IsReadOn (g : Given) (t : Text) (has_previous : Bool) (done : List Event) (lines : List Line) (behind : List Seat) (underlined : Bool) (q : ℕ) (k : Configuration Unit Unit) (from : State) : Type 0 where
  pub after : Configuration Unit Unit
  pub leads : Leads g t k from after (Retry (cond underlined HeadingSetextTextAfter FlowAfter))
  pub events_are : after.events ≡ done ++ linked_from (length done) (text_marks g.bytes has_previous lines ++ (event g.bytes Exit Paragraph (end_place t after.position), None) ∷ [])
  pub position_is : after.position ≡ q + length (body lines)
  pub waiting : after.waiting ≡ waits_at (last_ending lines ++ behind)
  pub keeps : Keeps k.local after.local
  pub noted : IsNoted underlined after

-- A chunk was begun here, and its bytes are to be read
pub record IsBegun (g : Given) (t : Text) (has_previous : Bool) (done : List Event) (s : Seat) (behind : List Seat) (p : Point) (k : Configuration Unit Unit) : Type 0 where
  pub at : IsAt t k p (s ∷ behind)
  pub events_are : k.events ≡ done ++ chunk_at g.bytes has_previous (length done) None s.point ∷ []
  pub start : k.local.tokenize_state.start ≡ length done
  pub connects : k.local.tokenize_state.connect ≡ true

module _ (g : Given) (t : Text) (has_previous : Bool) (done : List Event) (s : Seat) (p : Point) (k : Configuration Unit Unit) where
  -- its line has a line ending
  pub text-to-feed : (ss : List Seat) (feed : Seat) (rest : List Seat) → IsBegun g t has_previous done s (ss ++ feed ∷ rest) p k → IsInLine (s ∷ ss) → feed.byte ≡ 10
      → (k2 : Configuration Unit Unit) × Leads g t k (Retry ParagraphInside) k2 (Retry ParagraphInside) × (k2.local ≡ k.local) × IsAtFeed g t has_previous done s ss feed rest k.position k2
  text-to-feed ss feed rest h all feeds =
      let r = run-on g t same_kept ParagraphInside is_in_line inside_runs (s ∷ ss) (feed ∷ rest) (all-in-line (s ∷ ss) all) k p h.at in (
        r.after,
        read-leads g t same_kept.kept k ParagraphInside (s ∷ ss) (feed ∷ rest) [] (Retry ParagraphInside) r,
        r.local,
        record {
          events_are = r.events_are ∙ append-nil k.events ∙ h.events_are;
          position_is = r.position;
          at = h.at.left;
          waits = r.waiting;
          feeds = feeds;
          start = ap (λ (l : Local Unit Unit). l.tokenize_state.start) r.local ∙ h.start;
          connects = ap (λ (l : Local Unit Unit). l.tokenize_state.connect) r.local ∙ h.connects;
        },
      )

  -- or it is the last one, and has none
  pub text-to-end : (ss : List Seat) → IsBegun g t has_previous done s ss p k → IsInLine (s ∷ ss) → IsReadOn g t has_previous done ((s ∷ ss) ∷ []) [] false k.position k (Retry ParagraphInside)
  text-to-end ss h all =
      let line = s ∷ ss in
      let q = end_after s.end ss in
      let outs = event g.bytes Exit Data q ∷ event g.bytes Exit Paragraph q ∷ [] in
      let c = chunk_at g.bytes has_previous (length done) None s.point in
      let text : line_text line ≡ line = in-line-text line all in
      let none : ending_of line ≡ [] = in-line-ending line all in
      let at = subst (λ l. IsAt t k p l) (sym (append-nil line)) h.at in
      let r = then-ends g t same_kept k p ParagraphInside ParagraphInside FlowAfter line [] [] (leaves g (Data ∷ Paragraph ∷ []) q) at (run-on g t same_kept ParagraphInside is_in_line inside_runs line [] (all-in-line line all) k p at)
      (λ k' at' kept. row-ends g t same_kept ParagraphInside (Data ∷ Paragraph ∷ []) FlowAfter k' q [] None at' refl (λ b. refl)) in
      let ends : end_place t r.after.position ≡ q = ap (end_place t) r.position ∙ (behind-line t line [] k.position p (record { place = at.behind; left = at.left })).place in record {
        after = r.after;
        leads = read-leads g t same_kept.kept k ParagraphInside line [] (leaves g (Data ∷ Paragraph ∷ []) q) (Retry FlowAfter) r;
        events_are =
            r.events_are ∙ ap (λ es. es ++ outs) h.events_are ∙ append_assoc done (c ∷ []) outs
            ∙ ap (λ e. done ++ c ∷ event g.bytes Exit Data q ∷ event g.bytes Exit Paragraph e ∷ []) (sym ends)
            ∙ ap (λ x. done ++ linked_from (length done) (chunk_span g.bytes (Some (record { content = TextContent; has_previous = has_previous; has_next = false })) Data x [] ++ (event g.bytes Exit Paragraph (end_place t r.after.position), None) ∷ [])) (sym text);
        position_is = r.position ∙ ap (λ x. k.position + length x) (sym text);
        waiting = r.waiting ∙ ap (λ x. waits_at (x ++ [])) (sym none);
        keeps = same-keeps k.local r.after.local r.local;
        noted = λ e. absurd (cc);
      }

module _ (g : Given) (t : Text) (has_previous : Bool) (done : List Event) (s : Seat) (ss : List Seat) (feed : Seat) (q : ℕ) where
  -- the chunk of this line, once there is another behind it
  abbrev pub done_before : List Event
  done_before = done ++ chunk_at g.bytes has_previous (length done) (Some (length done + 2)) s.point ∷ event g.bytes Exit Data feed.end ∷ []

  -- so there is one line more
  pub one-line-more : (k : Configuration Unit Unit) (from : State) (mid : Configuration Unit Unit) (then : State) (line : Line) (lines : List Line) (behind : List Seat) (underlined : Bool)
      → Leads g t k from mid then → Keeps k.local mid.local → IsReadOn g t true done_before (line ∷ lines) behind underlined (q + length ((s ∷ ss) ++ feed ∷ [])) mid then
      → IsReadOn g t has_previous done (((s ∷ ss) ++ feed ∷ []) ∷ line ∷ lines) behind underlined q k from
  one-line-more k from mid then line lines behind underlined leads keeps h =
      let first = (s ∷ ss) ++ feed ∷ [] in
      let last : List Mark = (event g.bytes Exit Paragraph (end_place t h.after.position), None) ∷ [] in
      let c = chunk_at g.bytes has_previous (length done) (Some (length done + 2)) s.point in
      let more = text_marks g.bytes true (line ∷ lines) ++ last in
      let count : length done_before ≡ length done + 1 + 1 = omega (arith, length-append done (c ∷ event g.bytes Exit Data feed.end ∷ [])) in record {
        after = h.after;
        leads = leads-on g t k from mid then h.after (Retry (cond underlined HeadingSetextTextAfter FlowAfter)) leads h.leads;
        events_are =
            h.events_are ∙ ap (λ n. done_before ++ linked_from n more) count
            ∙ append_assoc done (c ∷ event g.bytes Exit Data feed.end ∷ []) (linked_from (length done + 1 + 1) more)
            ∙ ap (λ p. done ++ c ∷ event g.bytes Exit Data p ∷ linked_from (length done + 1 + 1) more) (sym (end-after-one s.end ss feed));
        position_is = let far = h.position_is in let n = length-append first (body (line ∷ lines)) in omega (arith, far, n);
        waiting = h.waiting;
        keeps = keeps-on k.local mid.local h.after.local keeps h.keeps;
        noted = h.noted;
      }

  -- Over the line ending, and the first byte of the next line: its chunk is linked to that of this line
  module _ (rest : List Seat) (k : Configuration Unit Unit) (l : Local Unit Unit) (next : Seat) (behind : List Seat) (is : rest ≡ next ∷ behind) (here : IsAtFeed g t has_previous done s ss feed rest q k) (leaves_it : LeavesAll k.local l) (in_line : (next.byte == 10) ≡ false) where
    -- where it begins
    abbrev p : Point
    p = end_place t k.position

    left : drop k.position t.seats ≡ feed ∷ next ∷ behind
    left = ap (λ n. drop n t.seats) here.position_is ∙ (behind-line t (s ∷ ss) (feed ∷ rest) q (end_place t q) (record { place = refl; left = here.at })).left ∙ ap (λ l. feed ∷ l) is

    over_feed : IsReadAs g t same_kept.kept (with_local k l) ParagraphLineAfter (feed ∷ []) (next ∷ behind) (leaves g (Data ∷ []) feed.end) (Retry ParagraphStart)
    over_feed = row-takes-on g t same_kept.kept (with_local k l) ParagraphLineAfter p feed (next ∷ behind) line_feed (consume ∷ exit Data ∷ []) ParagraphStart (record { behind = refl; left = left; waits = here.waits }) (ap flow_byte here.feeds) refl tt refl refl

    behind_feed : IsAt t over_feed.after feed.end (next ∷ behind)
    behind_feed = at-behind g t same_kept.kept (with_local k l) p ParagraphLineAfter ParagraphStart (feed ∷ []) (next ∷ behind) (leaves g (Data ∷ []) feed.end) (record { behind = refl; left = left; waits = here.waits }) over_feed

    abbrev linked_on : Configuration Unit Unit
    linked_on = begun g t over_feed.after feed.end next behind true

    linked-keeps : Keeps k.local linked_on.local
    linked-keeps =
        let h = keeps-on k.local l over_feed.after.local (left-keeps k.local l leaves_it) (same-keeps l over_feed.after.local over_feed.local) in record { edits = h.edits; resolvers = h.resolvers; end = h.end }

    linked-events : linked_on.events ≡ done_before ++ chunk_at g.bytes true (length done_before) None next.point ∷ []
    linked-events =
        let old = chunk_at g.bytes has_previous (length done) None s.point in
        let out = event g.bytes Exit Data feed.end in
        let new = chunk_at g.bytes false 0 None next.point in
        let all = done ++ old ∷ out ∷ new ∷ [] in
        let es = over_feed.after.events ++ new ∷ [] in
        let are : es ≡ all =
        ap (λ es. es ++ new ∷ []) (over_feed.events_are ∙ ap (λ es. es ++ out ∷ []) here.events_are ∙ append_assoc done (old ∷ []) (out ∷ [])) ∙ append_assoc done (old ∷ out ∷ []) (new ∷ []) in
        let last : length all - 1 ≡ length done + 2 = omega (arith, length-append done (old ∷ out ∷ new ∷ [])) in
        let first : length done_before - 2 ≡ length done = omega (arith, length-append done (chunk_at g.bytes has_previous (length done) (Some (length done + 2)) s.point ∷ out ∷ [])) in
        ap (λ n. linked_to n (length es - 1) es) (ap (λ (l : Local Unit Unit). l.tokenize_state.start) over_feed.local ∙ leaves_it.start ∙ here.start)
        ∙ ap (λ es. linked_to (length done) (length es - 1) es) are
        ∙ ap (λ n. linked_to (length done) n all) last
        ∙ linked-last done old out new (length done + 2) refl
        ∙ ap (λ n. done ++ chunk_at g.bytes has_previous (length done) (Some (length done + 2)) s.point ∷ out ∷ record (event g.bytes Enter Data next.point) { link = Some (record { previous = Some n; next = None; content = TextContent }) } ∷ []) (sym first)
        ∙ sym (append_assoc done (chunk_at g.bytes has_previous (length done) (Some (length done + 2)) s.point ∷ out ∷ []) (chunk_at g.bytes true (length done_before) None next.point ∷ []))

    abbrev from : ℕ
    from = q + length ((s ∷ ss) ++ feed ∷ [])

    linked-position : linked_on.position ≡ from
    linked-position = let over = over_feed.position in let at = here.position_is in let n = length-append (s ∷ ss) (feed ∷ []) in omega (arith, over, at, n)

    next-begun : IsBegun g t true done_before next behind feed.end linked_on
    next-begun = record {
      at = record { behind = behind_feed.behind; left = behind_feed.left; waits = behind_feed.waits };
      events_are = linked-events;
      start = let n = ap length linked-events in let count = length-append done_before (chunk_at g.bytes true (length done_before) None next.point ∷ []) in omega (arith, n, count);
      connects = refl;
    }

    module _ (goes : Leads g t k (Retry ParagraphInside) (with_local k l) (Retry ParagraphLineAfter)) where
      leads-there : Leads g t k (Retry ParagraphInside) linked_on (Retry ParagraphInside)
      leads-there =
          leads-on g t k (Retry ParagraphInside) (with_local k l) (Retry ParagraphLineAfter) linked_on (Retry ParagraphInside) goes
          (leads-on g t (with_local k l) (Retry ParagraphLineAfter) over_feed.after (Retry ParagraphStart) linked_on (Retry ParagraphInside)
          (read-leads g t same_kept.kept (with_local k l) ParagraphLineAfter (feed ∷ []) (next ∷ behind) (leaves g (Data ∷ []) feed.end) (Retry ParagraphStart) over_feed)
          (begins g t over_feed.after feed.end next behind behind_feed true (ap (λ (l : Local Unit Unit). l.tokenize_state.connect) over_feed.local ∙ leaves_it.connect ∙ here.connects) in_line))

      -- the next line has a line ending
      pub further-feed : (ss2 : List Seat) (feed2 : Seat) (rest2 : List Seat) → behind ≡ ss2 ++ feed2 ∷ rest2 → IsInLine ss2 → feed2.byte ≡ 10
          → (k2 : Configuration Unit Unit) × Leads g t k (Retry ParagraphInside) k2 (Retry ParagraphInside) × Keeps k.local k2.local × IsAtFeed g t true done_before next ss2 feed2 rest2 from k2
      further-feed ss2 feed2 rest2 are all feeds =
          let (k2, led, same, h) = text-to-feed g t true done_before next feed.end linked_on ss2 feed2 rest2 (subst (λ b. IsBegun g t true done_before next b feed.end linked_on) are next-begun) (in_line, all) feeds in (
            k2,
            leads-on g t k (Retry ParagraphInside) linked_on (Retry ParagraphInside) k2 (Retry ParagraphInside) leads-there led,
            keeps-on k.local linked_on.local k2.local linked-keeps (same-keeps linked_on.local k2.local same),
            subst (λ n. IsAtFeed g t true done_before next ss2 feed2 rest2 n k2) linked-position h,
          )

      -- or it is the last one, and has none
      pub further-end : IsInLine behind → IsReadOn g t has_previous done (((s ∷ ss) ++ feed ∷ []) ∷ (next ∷ behind) ∷ []) [] false q k (Retry ParagraphInside)
      further-end all =
          one-line-more k (Retry ParagraphInside) linked_on (Retry ParagraphInside) (next ∷ behind) [] [] false leads-there linked-keeps
          (subst (λ n. IsReadOn g t true done_before ((next ∷ behind) ∷ []) [] false n linked_on (Retry ParagraphInside)) linked-position (text-to-end g t true done_before next feed.end linked_on behind next-begun (in_line, all)))
