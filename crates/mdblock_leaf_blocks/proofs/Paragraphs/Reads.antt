-- Paragraphs are read as their definition says.
use Rattle.mdblock_leaf_blocks.proofs.Prelude.{Bool, List, None, [], ap, append-nil, append_assoc, arith, cond, drop, false, inl, inr, length, length-append, refl, subst, suc, sym, take, ℕ, ◌++◌, ◌+◌, ◌==◌, ◌∙◌, ◌∷◌, ◌≡◌, ◌≤◌, Seat, end_after, Event, Enter, Exit, Paragraph, Point, Retry, FlowAfter, FlowBeforeContent, ParagraphInside, ParagraphStart, Configuration, Local, EndsIn, end_place, Given, Text, flow, HeadingSetextTextAfter, IsAtLines, ParagraphsAreRead, is_underlined, last_ending, Line, Mark, body, linked_from, span_marks, text_marks, IsInLine, LinesAreSeen, all_of, ending_of, line_text, event, waits_at, table_step}
use Rattle.mdblock_leaf_blocks.proofs.Lines.{IsAt, Leads, all-of-split, behind-line, body-with-ending, cut-line, has-first, in-line-ending, in-line-text, lines-behind, lines-taken, text-in-line}
use Rattle.mdblock_leaf_blocks.proofs.Lines.Leading.{leads-on}
use Rattle.mdblock_leaf_blocks.proofs.Paragraphs.Calls.{begins, begun, opened, opens}
use Rattle.mdblock_leaf_blocks.proofs.Paragraphs.Lines.{IsBegun, IsNoted, IsReadOn, chunk_at, text-to-end, text-to-feed}
use Rattle.mdblock_leaf_blocks.proofs.Paragraphs.Rests.{goes_on_over, rest-read}

-- A paragraph is read: the marks of its lines, how far it reaches, and what is noted of it
pub record IsParagraph (g : Given) (t : Text) (k : Configuration Unit Unit) (lines : List Line) (behind : List Seat) (underlined : Bool) : Type 0 where
  pub after : Configuration Unit Unit
  pub leads : Leads g t k (Retry FlowBeforeContent) after (Retry (cond underlined HeadingSetextTextAfter FlowAfter))
  pub events_are : after.events ≡ k.events ++ linked_from (length k.events) (span_marks g.bytes Paragraph (body lines) (text_marks g.bytes false lines))
  pub position_is : after.position ≡ k.position + length (body lines)
  pub waiting : after.waiting ≡ waits_at (last_ending lines ++ behind)
  pub edits : after.local.map ≡ k.local.map
  pub resolvers : after.local.resolvers ≡ k.local.resolvers
  pub begins_at : after.local.tokenize_state.end ≡ length k.events
  pub ends_at : IsNoted underlined after

-- From the first byte of a paragraph on
module _ (g : Given) (t : Text) (k : Configuration Unit Unit) (s : Seat) (behind : List Seat) (here : IsAt t k (end_place t k.position) (s ∷ behind)) (in_line : (s.byte == 10) ≡ false) where
  abbrev p : Point
  p = end_place t k.position

  abbrev enter : Event
  enter = event g.bytes Enter Paragraph s.point

  abbrev begins_here : Configuration Unit Unit
  begins_here = opened g t k p s behind

  abbrev pub first_chunk : Configuration Unit Unit
  first_chunk = begun g t begins_here p s behind false

  pub leads-there : Leads g t k (Retry FlowBeforeContent) first_chunk (Retry ParagraphInside)
  leads-there = leads-on g t k (Retry FlowBeforeContent) begins_here (Retry ParagraphStart) first_chunk (Retry ParagraphInside) (opens g t k p s behind here)
      (begins g t begins_here p s behind (record { behind = here.behind; left = here.left; waits = here.waits }) false refl in_line)

  pub first-begun : IsBegun g t false (k.events ++ enter ∷ []) s behind p first_chunk
  first-begun = record {
    at = record { behind = here.behind; left = here.left; waits = here.waits };
    events_are = refl;
    start = omega (arith, length-append (k.events ++ enter ∷ []) (chunk_at g.bytes false (length (k.events ++ enter ∷ [])) None s.point ∷ []));
    connects = refl;
  }

  pub first-keeps-end : first_chunk.local.tokenize_state.end ≡ length k.events
  first-keeps-end = omega (arith, length-append k.events (enter ∷ []))

-- the first virtual byte of lines
pub first-of-body : (line : Line) (lines : List Line) (s : Seat) (ss behind : List Seat) → line ≡ (s ∷ ss) ++ behind → line_text line ≡ s ∷ ss → (rest : List Seat) × (body (line ∷ lines) ≡ s ∷ rest)
first-of-body line [] s ss behind whole text = (ss, text)
first-of-body line (next ∷ lines) s ss behind whole text = ((ss ++ behind) ++ body (next ∷ lines), ap (λ l. l ++ body (next ∷ lines)) whole)

-- a paragraph's marks around those of its lines
around : (g : Given) (t : Text) (k : Configuration Unit Unit) (lines : List Line) (marks : List Mark) (s : Seat) (rest behind : List Seat) (position : ℕ) → drop k.position t.seats ≡ body lines ++ behind → body lines ≡ s ∷ rest
    → position ≡ k.position + length (body lines) → let done = k.events ++ event g.bytes Enter Paragraph s.point ∷ [] in
    done ++ linked_from (length done) (marks ++ (event g.bytes Exit Paragraph (end_place t position), None) ∷ []) ≡ k.events ++ linked_from (length k.events) (span_marks g.bytes Paragraph (body lines) marks)
around g t k lines marks s rest behind position at is far =
    let enter = event g.bytes Enter Paragraph s.point in
    let done = k.events ++ enter ∷ [] in
    let out = λ (p : Point). marks ++ (event g.bytes Exit Paragraph p, None) ∷ [] in
    let there : end_place t position ≡ end_after s.end rest =
    ap (end_place t) (far ∙ ap (λ b. k.position + length b) is) ∙ (behind-line t (s ∷ rest) behind k.position (end_place t k.position) (record { place = refl; left = at ∙ ap (λ b. b ++ behind) is })).place in
    ap (λ n. done ++ linked_from n (out (end_place t position))) (length-append k.events (enter ∷ []))
    ∙ append_assoc k.events (enter ∷ []) (linked_from (length k.events + 1) (out (end_place t position)))
    ∙ ap (λ p. k.events ++ enter ∷ linked_from (length k.events + 1) (out p)) there
    ∙ ap (λ b. k.events ++ linked_from (length k.events) (span_marks g.bytes Paragraph b marks)) (sym is)

-- a paragraph whose first line has a line ending, from what is read behind that
from-first-line : (g : Given) (t : Text) (k mid : Configuration Unit Unit) (lines : List Line) (behind : List Seat) (is_heading : Bool) (s : Seat) (rest : List Seat)
    → drop k.position t.seats ≡ body lines ++ (last_ending lines ++ behind) → body lines ≡ s ∷ rest → Leads g t k (Retry FlowBeforeContent) mid (Retry ParagraphInside)
    → mid.local.map ≡ k.local.map → mid.local.resolvers ≡ k.local.resolvers → mid.local.tokenize_state.end ≡ length k.events
    → IsReadOn g t false (k.events ++ event g.bytes Enter Paragraph s.point ∷ []) lines behind is_heading k.position mid (Retry ParagraphInside) → IsParagraph g t k lines behind is_heading
from-first-line g t k mid lines behind is_heading s rest at is leads edits resolvers begins r = record {
  after = r.after;
  leads = leads-on g t k (Retry FlowBeforeContent) mid (Retry ParagraphInside) r.after (Retry (cond is_heading HeadingSetextTextAfter FlowAfter)) leads r.leads;
  events_are = r.events_are ∙ around g t k lines (text_marks g.bytes false lines) s rest (last_ending lines ++ behind) r.after.position at is r.position_is;
  position_is = r.position_is;
  waiting = r.waiting;
  edits = r.keeps.edits ∙ edits;
  resolvers = r.keeps.resolvers ∙ resolvers;
  begins_at = r.keeps.end ∙ begins;
  ends_at = r.noted;
}

-- so a paragraph is read, up to its last line ending
module _ (seen : LinesAreSeen) (g : Given) (t : Text) (k : Configuration Unit Unit) (line : Line) (more : List Line) (here : IsAtLines t k (line ∷ more)) (some : 1 ≤ length (line_text line)) where
  abbrev n : ℕ
  n = goes_on_over g more

  abbrev Read : Line → List Line → Type 0
  Read line more = let n = goes_on_over g more in IsParagraph g t k (line ∷ take n more) (all_of (drop n more)) (is_underlined g (drop n more))

  -- the bytes of its lines, and what is behind them
  pub bytes-of-lines : all_of (line ∷ more) ≡ body (line ∷ take n more) ++ (last_ending (line ∷ take n more) ++ all_of (drop n more))
  bytes-of-lines =
      let ours = line ∷ take n more in
      sym (all-of-split (suc n) (line ∷ more)) ∙ ap (λ l. l ++ all_of (drop n more)) (sym (body-with-ending ours (lines-taken (suc n) (line ∷ more) here.are_lines)))
      ∙ append_assoc (body ours) (last_ending ours) (all_of (drop n more))

  pub paragraph-read : Read line more
  paragraph-read =
      let (u, us, first) = has-first (line_text line) some in
      let all : IsInLine (u ∷ us) = subst IsInLine first (text-in-line line) in
      let cut = cut-line line more here.are_lines in
      elim cut.ends [
        | inl h ↦
            let whole : line ≡ (u ∷ us) ++ h.ending ∷ [] = sym cut.whole ∙ ap (λ l. l ++ ending_of line) first ∙ ap (λ l. (u ∷ us) ++ l) h.is in
            let behind = us ++ h.ending ∷ all_of more in
            let is : all_of (line ∷ more) ≡ u ∷ behind = ap (λ l. l ++ all_of more) whole ∙ append_assoc (u ∷ us) (h.ending ∷ []) (all_of more) in
            let at : IsAt t k (end_place t k.position) (u ∷ behind) = record { behind = refl; left = here.at ∙ is; waits = here.waits ∙ ap waits_at is } in
            let mid = first_chunk g t k u behind at all.0 in
            let done = k.events ++ event g.bytes Enter Paragraph u.point ∷ [] in
            let (k2, led, same, here2) = text-to-feed g t false done u (end_place t k.position) mid us h.ending (all_of more) (first-begun g t k u behind at all.0) all h.feed in
            let lines = line ∷ take n more in
            let r : IsReadOn g t false done lines (all_of (drop n more)) (is_underlined g (drop n more)) k.position k2 (Retry ParagraphInside) =
            subst (λ (x : Line). IsReadOn g t false done (x ∷ take n more) (all_of (drop n more)) (is_underlined g (drop n more)) k.position k2 (Retry ParagraphInside)) (sym whole)
            (rest-read seen g t here.room more (lines-behind line more here.are_lines) false done u us h.ending k.position k2 here2 all) in
            let (bytes, body_is) = first-of-body line (take n more) u us (h.ending ∷ []) whole first in
            from-first-line g t k k2 lines (all_of (drop n more)) (is_underlined g (drop n more)) u bytes (here.at ∙ bytes-of-lines) body_is
            (leads-on g t k (Retry FlowBeforeContent) mid (Retry ParagraphInside) k2 (Retry ParagraphInside) (leads-there g t k u behind at all.0) led)
            (ap (λ (l : Local Unit Unit). l.map) same) (ap (λ (l : Local Unit Unit). l.resolvers) same) (ap (λ (l : Local Unit Unit). l.tokenize_state.end) same ∙ first-keeps-end g t k u behind at all.0) r
        | inr h ↦
            let whole : line ≡ u ∷ us = sym cut.whole ∙ ap (λ l. line_text line ++ l) h.is ∙ append-nil (line_text line) ∙ first in
            let is : all_of (line ∷ more) ≡ u ∷ us = ap (λ more. line ++ all_of more) h.last ∙ append-nil line ∙ whole in
            let at : IsAt t k (end_place t k.position) (u ∷ us) = record { behind = refl; left = here.at ∙ is; waits = here.waits ∙ ap waits_at is } in
            let done = k.events ++ event g.bytes Enter Paragraph u.point ∷ [] in
            let alone = u ∷ us in
            let r = text-to-end g t false done u (end_place t k.position) (first_chunk g t k u us at all.0) us (first-begun g t k u us at all.0) all in
            subst (λ (more : List Line). Read line more) (sym h.last)
            (subst (λ (x : Line). IsParagraph g t k (x ∷ []) [] false) (sym whole)
            (from-first-line g t k (first_chunk g t k u us at all.0) (alone ∷ []) [] false u us
            (here.at ∙ is ∙ sym (ap (λ l. l ++ (ending_of alone ++ [])) (in-line-text alone all) ∙ ap (λ l. alone ++ (l ++ [])) (in-line-ending alone all) ∙ append-nil alone)) (in-line-text alone all)
            (leads-there g t k u us at all.0) refl refl (first-keeps-end g t k u us at all.0) r))
      ]

pub paragraphs-read : LinesAreSeen → ParagraphsAreRead
paragraphs-read seen g t k line more here some not_underlined =
    let n = goes_on_over g more in
    let r = paragraph-read seen g t k line more here some in
    record {
      after = r.after;
      calls = r.leads.calls;
      events_are = r.events_are;
      position = r.position_is;
      waiting = r.waiting;
      local = record { edits = r.edits; resolvers = r.resolvers };
      leads = λ choices before z h.
          r.leads.leads choices before z
          (subst (λ b. EndsIn g (table_step flow g) t (before + r.leads.calls) r.after choices (Retry (cond b HeadingSetextTextAfter FlowAfter)) z) (sym not_underlined) h);
    }
