-- Setext headings are read as their definition says, and the edits that name them come to wait.
use Rattle.mdblock_leaf_blocks.proofs.Prelude.{◌≡◌, ℕ, suc, ◌+◌, ◌-◌, ◌<◌, ◌≤◌, List, [], ◌∷◌, ◌++◌, true, false, Some, None, drop, take, length, map, refl, sym, ap, ◌∙◌, subst, arith, append_assoc, length-append, map-append, AllByRecursion, Event, Enter, Exit, EventName, HeadingSetext, HeadingSetextText, HeadingSetextUnderline, LineEnding, Paragraph, Point, Retry, FlowAfter, FlowBeforeContent, HeadingSetextAfter, HeadingSetextStart, HeadingSetextTextAfter, end-after-append, shown, Seat, end_after, Edit, added_after, exited, Configuration, Local, EndsIn, end_place, Given, Text, waits_at, consume, enter, exit, table_step, write, all_of, ending_of, line_text, event, flow_byte, line_feed, flow, heading_ends, renaming, AddsEdits, AreLines, IsAtLines, IsLine, IsReadAs, SetextHeadingsAreRead, heading_told, is_underlined, last_ending, paragraph_told, underline_told, Line, text_of, is_underline, seen_kind, Mark, body, last_end, leaf_marks, linked_from, span_marks, text_marks, underline_inside, LineEnds, LinesAreSeen, ToldMark, as_it_is, before_edits, told_edits, under_names}
use Rattle.mdblock_leaf_blocks.proofs.Paragraphs.HeadingMarks.{heading, heading_marks, heading-added, heading-before, last-is}
use Rattle.mdblock_leaf_blocks.proofs.Lines.{IsAt, IsUnwritten, at-behind, body-and-text, body-with-ending, counted, first-parts, has-first, line-ending-is, line-text-is, lines-dropped, lines-taken, reads-on, row-stays, row-takes-on, seen, taken-are-whole, underlined-is, unwritten-on}
use Rattle.mdblock_leaf_blocks.proofs.Marks.MarkLists.{linked-length, marked-on}
use Rattle.mdblock_leaf_blocks.proofs.Paragraphs.Reads.{IsParagraph, bytes-of-lines, first-of-body, paragraph-read}
use Rattle.mdblock_leaf_blocks.proofs.Paragraphs.Rests.{goes_on_over}
use Rattle.mdblock_leaf_blocks.proofs.Paragraphs.UnderlineReads.{IsOfUnderline, of-underline, underline-first, underline-read-from}

-- the last line ending of lines that all have one
record LastFeed (bytes : List ℕ) (lines : List Line) : Type 0 where
  ending : Seat
  feed : ending.byte ≡ 10
  is : last_ending lines ≡ ending ∷ []
  marks : last_end bytes lines ≡ leaf_marks bytes LineEnding (ending ∷ [])

last-feed : (bytes : List ℕ) (line : Line) (lines : List Line) → AllByRecursion IsLine (line ∷ lines) → LastFeed bytes (line ∷ lines)
last-feed bytes line [] all =
    let is = line-ending-is line all.0 in record { ending = all.0.ending; feed = all.0.ends; is = is; marks = ap (leaf_marks bytes LineEnding) is }
last-feed bytes line (next ∷ lines) all = let h = last-feed bytes next lines all.1 in record { ending = h.ending; feed = h.feed; is = h.is; marks = h.marks }

-- what is noted of the paragraph, up to the end of the underline
record IsNoted (first last : ℕ) (before after : Local Unit Unit) : Type 0 where
  edits : after.map ≡ before.map
  resolvers : after.resolvers ≡ before.resolvers
  begins_at : after.tokenize_state.end ≡ first
  ends_at : after.tokenize_state.start ≡ last

noted-on : (first last : ℕ) (a b c : Local Unit Unit) → IsNoted first last a b → IsUnwritten b c → IsNoted first last a c
noted-on first last a b c h i = record {
  edits = ap (λ l. l.map) i.is ∙ h.edits;
  resolvers = ap (λ l. l.resolvers) i.is ∙ h.resolvers;
  begins_at = ap (λ l. l.tokenize_state.end) i.is ∙ h.begins_at;
  ends_at = ap (λ l. l.tokenize_state.start) i.is ∙ h.ends_at;
}

abbrev ones : List EventName
ones = HeadingSetext ∷ HeadingSetextText ∷ []

abbrev twos : List EventName
twos = HeadingSetextText ∷ []

abbrev threes : List EventName
threes = HeadingSetextUnderline ∷ HeadingSetext ∷ []

-- the told marks of a heading, by their first bytes
told-is : (bytes : List ℕ) (b l : List Seat) (tm le inside : List Mark) (s : Seat) (ss : List Seat) (u : Seat) (us : List Seat) → b ≡ s ∷ ss → l ≡ u ∷ us
    → paragraph_told bytes b (map as_it_is tm) ++ (map as_it_is le ++ underline_told bytes l inside)
    ≡ heading (event bytes Enter Paragraph s.point) (event bytes Exit Paragraph (end_after s.end ss)) (event bytes Exit HeadingSetextUnderline (end_after u.end us)) ones twos threes tm
    (le ++ (event bytes Enter HeadingSetextUnderline u.point, None) ∷ inside)
told-is bytes b l tm le inside s ss u us b_is l_is =
    let second = event bytes Exit Paragraph (end_after s.end ss) in
    let third : ToldMark = under_names (event bytes Exit HeadingSetextUnderline (end_after u.end us)) threes in
    let into : Mark = (event bytes Enter HeadingSetextUnderline u.point, None) in
    ap (λ b. paragraph_told bytes b (map as_it_is tm) ++ (map as_it_is le ++ underline_told bytes l inside)) b_is
    ∙ ap (λ l. paragraph_told bytes (s ∷ ss) (map as_it_is tm) ++ (map as_it_is le ++ underline_told bytes l inside)) l_is
    ∙ ap (λ x. under_names (event bytes Enter Paragraph s.point) ones ∷ x)
    (append_assoc (map as_it_is tm) (under_names second twos ∷ []) (map as_it_is le ++ as_it_is into ∷ (map as_it_is inside ++ third ∷ []))
    ∙ ap (λ x. map as_it_is tm ++ under_names second twos ∷ x)
    (sym (append_assoc (map as_it_is le) (as_it_is into ∷ map as_it_is inside) (third ∷ [])) ∙ ap (λ x. x ++ third ∷ []) (sym (map-append as_it_is le (into ∷ inside)))))

-- the last call of an underline
underline-ends : (g : Given) (t : Text) (kept : (before after : Local Unit Unit) → Type 0) (k : Configuration Unit Unit) (p : Point) (rest : List Seat) → LineEnds rest → IsAt t k p rest
    → kept k.local (heading_ends (exited HeadingSetextUnderline (shown g.bytes p) (counted k)))
    → IsReadAs g t kept k HeadingSetextAfter [] rest ((event g.bytes Exit HeadingSetextUnderline p, None) ∷ []) (Retry FlowAfter)
underline-ends g t kept k p [] ends at local = row-stays g t kept k HeadingSetextAfter p [] None (exit HeadingSetextUnderline ∷ write heading_ends ∷ []) (Retry FlowAfter) at refl refl tt refl refl local
underline-ends g t kept k p (s ∷ ss) ends at local =
    row-stays g t kept k HeadingSetextAfter p (s ∷ ss) (Some line_feed) (exit HeadingSetextUnderline ∷ write heading_ends ∷ []) (Retry FlowAfter) at (ap (λ b. Some (flow_byte b)) ends) refl tt refl refl local

module _ (lines_seen : LinesAreSeen) (g : Given) (t : Text) (k : Configuration Unit Unit) (line : Line) (behind : List Line) (next : Line) (more : List Line) (here : IsAtLines t k (line ∷ behind)) (some : 1 ≤ length (line_text line)) where
  abbrev n : ℕ
  n = goes_on_over g behind

  abbrev ours : List Line
  ours = line ∷ take n behind

  abbrev l : List Seat
  l = line_text next

  abbrev rest : List Seat
  rest = ending_of next ++ all_of more

  module _ (under : is_underlined g (drop n behind) ≡ true) (split : drop n behind ≡ next ∷ more) (before : AllByRecursion (λ (e : Edit). e.index < length k.events) k.local.map) where
    abbrev i : ℕ
    i = length k.events

    last_feed : LastFeed g.bytes ours
    last_feed = last-feed g.bytes line (take n behind) (taken-are-whole (suc n) (line ∷ behind) next more here.are_lines split)

    next_are : AreLines (next ∷ more)
    next_are = subst AreLines split (lines-dropped (suc n) (line ∷ behind) here.are_lines)

    of_kind : is_underline (seen_kind g.options.constructs (text_of next)) ≡ true
    of_kind = ap (is_underlined g) (sym split) ∙ under

    underlined : is_underlined g (drop n behind) ≡ true → IsParagraph g t k ours (all_of (drop n behind)) true
    underlined e = subst (λ b. IsParagraph g t k ours (all_of (drop n behind)) b) e (paragraph-read lines_seen g t k line behind here some)

    abbrev p : IsParagraph g t k ours (all_of (drop n behind)) true
    p = underlined under

    abbrev tm : List Mark
    tm = text_marks g.bytes false ours

    -- the bytes of all lines
    rest-is : all_of (drop n behind) ≡ l ++ rest
    rest-is = let parts = first-parts next more next_are in ap all_of split ∙ ap (λ x. x ++ all_of more) parts.is ∙ append_assoc l (ending_of next) (all_of more)

    abbrev e : Seat
    e = last_feed.ending

    bytes-are : all_of (line ∷ behind) ≡ body ours ++ (e ∷ (l ++ rest))
    bytes-are = bytes-of-lines lines_seen g t k line behind here some ∙ ap (λ x. body ours ++ (x ++ all_of (drop n behind))) last_feed.is ∙ ap (λ x. body ours ++ e ∷ x) rest-is

    at-start : IsAt t k (end_place t k.position) (body ours ++ (e ∷ (l ++ rest)))
    at-start = record { behind = refl; left = here.at ∙ bytes-are; waits = here.waits ∙ ap waits_at bytes-are }

    abbrev Noted : (before after : Local Unit Unit) → Type 0
    Noted = IsNoted i (length p.after.events - 1)

    -- the paragraph
    paragraph : IsReadAs g t Noted k FlowBeforeContent (body ours) (e ∷ (l ++ rest)) (span_marks g.bytes Paragraph (body ours) tm) (Retry HeadingSetextTextAfter)
    paragraph = record {
      after = p.after;
      calls = p.leads.calls;
      events_are = p.events_are;
      position = p.position_is;
      waiting = p.waiting ∙ ap (λ x. waits_at (x ++ all_of (drop n behind))) last_feed.is;
      local = record { edits = p.edits; resolvers = p.resolvers; begins_at = p.begins_at; ends_at = p.ends_at refl };
      leads = λ choices before z h. p.leads.leads choices before z h;
    }

    -- its line ending
    over-feed : (k : Configuration Unit Unit) (q : Point) → IsAt t k q (e ∷ (l ++ rest)) → IsReadAs g t IsUnwritten k HeadingSetextTextAfter (e ∷ []) (l ++ rest) (leaf_marks g.bytes LineEnding (e ∷ [])) (Retry HeadingSetextStart)
    over-feed k q at =
        row-takes-on g t IsUnwritten k HeadingSetextTextAfter q e (l ++ rest) line_feed (enter LineEnding ∷ consume ∷ exit LineEnding ∷ []) HeadingSetextStart at (ap flow_byte last_feed.feed) refl tt refl
        (record { calls = (counted k).local.tokenize_state.size; is = refl })

    -- all up to the underline's end
    abbrev le : List Mark
    le = leaf_marks g.bytes LineEnding (e ∷ [])

    of_underline : IsOfUnderline l
    of_underline = of-underline l (underlined-is g.options.constructs (text_of next) of_kind)

    ends : LineEnds rest
    ends = (first-parts next more next_are).ends

    abbrev into : Seat → Mark
    into u = (event g.bytes Enter HeadingSetextUnderline u.point, None)

    up-to-end : (u : Seat) (us : List Seat) → l ≡ u ∷ us
        → IsReadAs g t Noted k FlowBeforeContent (body ours ++ (e ∷ l)) rest (span_marks g.bytes Paragraph (body ours) tm ++ (le ++ (into u ∷ underline_inside g.bytes l))) (Retry HeadingSetextAfter)
    up-to-end u us is =
        reads-on g t Noted IsUnwritten Noted (noted-on i (length p.after.events - 1)) k (end_place t k.position) FlowBeforeContent HeadingSetextTextAfter (body ours) (e ∷ l) rest
        (span_marks g.bytes Paragraph (body ours) tm) (le ++ (into u ∷ underline_inside g.bytes l)) (Retry HeadingSetextAfter) at-start paragraph
        (λ k' at' kept.
        let q = end_after (end_place t k.position) (body ours) in
        reads-on g t IsUnwritten IsUnwritten IsUnwritten unwritten-on k' q HeadingSetextTextAfter HeadingSetextStart (e ∷ []) l rest le (into u ∷ underline_inside g.bytes l) (Retry HeadingSetextAfter) at' (over-feed k' q at')
        (λ k'' at'' kept'. underline-read-from g t l u us is of_underline k'' e.end rest ends at''))

    -- the first byte of the paragraph
    body-first : (s : Seat) × (ss : List Seat) × (body ours ≡ s ∷ ss)
    body-first =
        let whole = taken-are-whole (suc n) (line ∷ behind) next more here.are_lines split in
        let text_is = line-text-is line whole.0 in
        let (s, ss, first) = has-first (line_text line) some in
        let (bytes, is) = first-of-body line (take n behind) s ss (whole.0.ending ∷ []) (whole.0.is ∙ ap (λ x. x ++ whole.0.ending ∷ []) (sym text_is ∙ first)) first in (s, bytes, is)

    -- and the underline's end
    module _ (s : Seat) (ss : List Seat) (body_is : body ours ≡ s ∷ ss) (u : Seat) (us : List Seat) (is : l ≡ u ∷ us) where
      abbrev first : Event
      first = event g.bytes Enter Paragraph s.point

      abbrev second : Event
      second = event g.bytes Exit Paragraph (end_after s.end ss)

      abbrev third : Event
      third = event g.bytes Exit HeadingSetextUnderline (end_after u.end us)

      abbrev behind_marks : List Mark
      behind_marks = le ++ (into u ∷ underline_inside g.bytes l)

      abbrev told : List ToldMark
      told = heading first second third ones twos threes tm behind_marks

      abbrev read_before : IsReadAs g t Noted k FlowBeforeContent (body ours ++ (e ∷ l)) rest (span_marks g.bytes Paragraph (body ours) tm ++ behind_marks) (Retry HeadingSetextAfter)
      read_before = up-to-end u us is

      marks-are : (span_marks g.bytes Paragraph (body ours) tm ++ behind_marks) ++ (third, None) ∷ [] ≡ heading_marks first second third ones twos threes tm behind_marks
      marks-are =
          ap (λ b. (span_marks g.bytes Paragraph b tm ++ behind_marks) ++ (third, None) ∷ []) body_is
          ∙ ap (λ x. (first, None) ∷ x) (append_assoc (tm ++ (second, None) ∷ []) behind_marks ((third, None) ∷ []) ∙ append_assoc tm ((second, None) ∷ []) (behind_marks ++ (third, None) ∷ []))

      told-are : heading_told g.bytes ours next ≡ told
      told-are = ap (λ m. paragraph_told g.bytes (body ours) (map as_it_is tm) ++ (map as_it_is m ++ underline_told g.bytes l (underline_inside g.bytes l))) last_feed.marks
          ∙ told-is g.bytes (body ours) l tm le (underline_inside g.bytes l) s ss u us body_is is

      -- the bytes of the lines, and the place behind them
      lines-are : body (ours ++ next ∷ []) ≡ body ours ++ (e ∷ l)
      lines-are =
          body-and-text ours next ∙ ap (λ x. x ++ l) (sym (body-with-ending ours (lines-taken (suc n) (line ∷ behind) here.are_lines)) ∙ ap (λ x. body ours ++ x) last_feed.is)
          ∙ append_assoc (body ours) (e ∷ []) l

      at-end : IsAt t read_before.after (end_after u.end us) rest
      at-end =
          let q = end_place t k.position in
          let start = subst (λ x. IsAt t k q x) (sym (append_assoc (body ours) (e ∷ l) rest)) at-start in
          let there = at-behind g t Noted k q FlowBeforeContent HeadingSetextAfter (body ours ++ (e ∷ l)) rest (span_marks g.bytes Paragraph (body ours) tm ++ behind_marks) start read_before in
          subst (λ x. IsAt t read_before.after x rest) (end-after-append q (body ours) (e ∷ l) ∙ ap (end_after e.end) is) there

      -- the edits, from what was noted
      abbrev adds : List Event → (first_at second_at : ℕ) → List Edit → List Edit
      adds es first_at second_at edits = added_after (added_after (added_after edits (renaming es first_at ones)) (renaming es second_at twos)) (renaming es (length es - 1) threes)

      all-marks : read_before.after.events ++ third ∷ [] ≡ k.events ++ linked_from i (heading_marks first second third ones twos threes tm behind_marks)
      all-marks =
          marked-on k.events read_before.after.events (read_before.after.events ++ third ∷ []) (span_marks g.bytes Paragraph (body ours) tm ++ behind_marks) ((third, None) ∷ []) read_before.events_are refl
          ∙ ap (λ m. k.events ++ linked_from i m) marks-are

      second-at : read_before.after.local.tokenize_state.start ≡ i + (1 + length tm)
      second-at =
          let at = read_before.local.ends_at in
          let count : length p.after.events ≡ i + length (span_marks g.bytes Paragraph (body ours) tm) =
          ap length p.events_are ∙ length-append k.events (linked_from i (span_marks g.bytes Paragraph (body ours) tm)) ∙ ap (λ m. i + m) (linked-length i (span_marks g.bytes Paragraph (body ours) tm)) in
          let size : length (span_marks g.bytes Paragraph (body ours) tm) ≡ suc (length tm + 1) = ap (λ b. length (span_marks g.bytes Paragraph b tm)) body_is ∙ ap suc (length-append tm ((second, None) ∷ [])) in
          omega (arith, at, count, size)

      edits-are : adds (read_before.after.events ++ third ∷ []) read_before.after.local.tokenize_state.end read_before.after.local.tokenize_state.start read_before.after.local.map
          ≡ k.local.map ++ told_edits i (heading_told g.bytes ours next)
      edits-are =
          let state = read_before.after.local.tokenize_state in
          let all = k.events ++ linked_from i (heading_marks first second third ones twos threes tm behind_marks) in
          ap (λ es. adds es state.end state.start read_before.after.local.map) all-marks
          ∙ ap (λ x. adds all x state.start read_before.after.local.map) read_before.local.begins_at
          ∙ ap (λ x. adds all i state.start x) read_before.local.edits
          ∙ heading-added first second third ones twos threes tm behind_marks k.events k.local.map state.start (length all - 1) before second-at (last-is first second third ones twos threes tm behind_marks k.events)
          ∙ ap (λ x. k.local.map ++ told_edits i x) (sym told-are)

      abbrev Added : (before after : Local Unit Unit) → Type 0
      Added before after = AddsEdits (told_edits i (heading_told g.bytes ours next)) k.local after

      heading-ended : IsReadAs g t Added read_before.after HeadingSetextAfter [] rest ((third, None) ∷ []) (Retry FlowAfter)
      heading-ended = underline-ends g t Added read_before.after (end_after u.end us) rest ends at-end (record { edits = edits-are; resolvers = read_before.local.resolvers })

      pub heading-read : let told = heading_told g.bytes ours next in
          IsReadAs g t (AddsEdits (told_edits i told)) k FlowBeforeContent (body (ours ++ next ∷ [])) (ending_of next ++ all_of more) (before_edits told) (Retry FlowAfter)
      heading-read =
          let r = read_before in
          let last = heading-ended in
          record {
            after = last.after;
            calls = r.calls + last.calls;
            events_are =
                marked-on k.events r.after.events last.after.events (span_marks g.bytes Paragraph (body ours) tm ++ behind_marks) ((third, None) ∷ []) r.events_are last.events_are
                ∙ ap (λ m. k.events ++ linked_from i m) (marks-are ∙ sym (heading-before first second third ones twos threes tm behind_marks) ∙ ap before_edits (sym told-are));
            position = let one = r.position in let two = last.position in let count : length (body (ours ++ next ∷ [])) ≡ length (body ours ++ (e ∷ l)) = ap length lines-are in omega (arith, one, two, count);
            waiting = last.waiting;
            local = last.local;
            leads = λ choices before z h.
                let sum : before + (r.calls + last.calls) ≡ before + r.calls + last.calls = omega arith in
                r.leads choices before z (last.leads choices (before + r.calls) z (subst (λ m. EndsIn g (table_step flow g) t m last.after choices (Retry FlowAfter) z) sum h));
          }

pub setext-headings-read : LinesAreSeen → SetextHeadingsAreRead
setext-headings-read seen g t k line behind next more here some under split before =
    let (s, ss, body_is) = body-first seen g t k line behind next more here some under split before in
    let (u, us, is) = underline-first (line_text next) (of_underline seen g t k line behind next more here some under split before) in
    heading-read seen g t k line behind next more here some under split before s ss body_is u us is
