-- From a line ending in a paragraph: how many lines more it has, and how it ends.
use Rattle.mdblock_leaf_blocks.proofs.Prelude.{Bool, List, None, Some, [], ap, append-nil, append_assoc, drop, false, inl, inr, length, refl, subst, suc, sym, take, true, ℕ, ◌++◌, ◌+◌, ◌-◌, ◌<◌, ◌^◌, ◌||◌, ◌∙◌, ◌∷◌, ◌≡◌, is_some, Seat, end_after, TextContent, Event, Exit, Data, Paragraph, Point, Retry, FlowAfter, ParagraphInside, with_local, Configuration, Local, end_place, Given, Text, paragraph_ends, HeadingSetextTextAfter, AreLines, is_underlined, Line, bytes_of, ends_text, interrupts, lines_until, text_of, chunk_span, linked_from, line_kind, underline_rank, IsInLine, LeavesAll, LinesAreSeen, SeenKind, is_underline, seen_ends, seen_kind, all_of, ending_of, line_text, event, waits_at}
use Rattle.mdblock_leaf_blocks.proofs.Lines.{Leads, behind-line, cut-line, ends-as-seen, first-parts, lines-behind, seen-is-tested, text-in-line, until-one-more, until-there}
use Rattle.mdblock_leaf_blocks.proofs.Lines.Lines.{whole-ending, whole-text}
use Rattle.mdblock_leaf_blocks.proofs.Paragraphs.Ends.{EndsSo, ended, line-ends-so}
use Rattle.mdblock_leaf_blocks.proofs.Paragraphs.Lines.{IsAtFeed, IsReadOn, chunk_at, done_before, further-end, further-feed, left-keeps, one-line-more}

-- the lines of a paragraph, behind its first
abbrev pub goes_on_over : Given → List Line → ℕ
goes_on_over g lines = lines_until (ends_text g.options.constructs) lines

module _ (g : Given) (t : Text) (has_previous : Bool) (done : List Event) (s : Seat) (ss : List Seat) (feed : Seat) (rest : List Seat) (q : ℕ) (k : Configuration Unit Unit) (here : IsAtFeed g t has_previous done s ss feed rest q k) (all : IsInLine (s ∷ ss)) where
  abbrev pub line : Line
  line = (s ∷ ss) ++ feed ∷ []

  abbrev p : Point
  p = end_after s.end ss

  text : line_text line ≡ s ∷ ss
  text = whole-text (s ∷ ss) feed all here.feeds

  ends : ending_of line ≡ feed ∷ []
  ends = whole-ending (s ∷ ss) feed all here.feeds

  place : end_place t k.position ≡ p
  place = ap (end_place t) here.position_is ∙ (behind-line t (s ∷ ss) (feed ∷ rest) q (end_place t q) (record { place = refl; left = here.at })).place

  -- the events of this line as the last one
  events-ended : (l : Local Unit Unit)
      → (ended g t k l).events ≡ done ++ linked_from (length done) (chunk_span g.bytes (Some (record { content = TextContent; has_previous = has_previous; has_next = false })) Data (line_text line) [] ++ (event g.bytes Exit Paragraph (end_place t k.position), None) ∷ [])
  events-ended l =
      let c = chunk_at g.bytes has_previous (length done) None s.point in
      let last = event g.bytes Exit Paragraph (end_place t k.position) in
      let out = λ (p : Point). event g.bytes Exit Data p in
      ap (λ es. (es ++ out (end_place t k.position) ∷ []) ++ last ∷ []) here.events_are
      ∙ ap (λ es. es ++ last ∷ []) (append_assoc done (c ∷ []) (out (end_place t k.position) ∷ []))
      ∙ append_assoc done (c ∷ out (end_place t k.position) ∷ []) (last ∷ [])
      ∙ ap (λ p. done ++ c ∷ out p ∷ last ∷ []) place
      ∙ ap (λ x. done ++ linked_from (length done) (chunk_span g.bytes (Some (record { content = TextContent; has_previous = has_previous; has_next = false })) Data x [] ++ (last, None) ∷ [])) (sym text)

  far : k.position ≡ q + length (line_text line)
  far = here.position_is ∙ ap (λ x. q + length x) (sym text)

  waits-there : k.waiting ≡ waits_at (ending_of line ++ rest)
  waits-there = here.waits ∙ ap (λ x. waits_at (x ++ rest)) (sym ends)

  -- it is the last line, of a paragraph or of a heading's text
  pub last-line : (l : Local Unit Unit) → LeavesAll k.local l → Leads g t k (Retry ParagraphInside) (ended g t k l) (Retry FlowAfter) → IsReadOn g t has_previous done (line ∷ []) rest false q k (Retry ParagraphInside)
  last-line l leaves leads = record {
    after = ended g t k l;
    leads = leads;
    events_are = events-ended l;
    position_is = far;
    waiting = waits-there;
    keeps = left-keeps k.local l leaves;
    noted = λ e. absurd (cc);
  }

  pub last-before-underline : (l : Local Unit Unit) → LeavesAll k.local l → Leads g t k (Retry ParagraphInside) (with_local (ended g t k l) (paragraph_ends (ended g t k l))) (Retry HeadingSetextTextAfter)
      → IsReadOn g t has_previous done (line ∷ []) rest true q k (Retry ParagraphInside)
  last-before-underline l leaves leads = record {
    after = with_local (ended g t k l) (paragraph_ends (ended g t k l));
    leads = leads;
    events_are = events-ended l;
    position_is = far;
    waiting = waits-there;
    keeps = record { edits = leaves.edits; resolvers = leaves.resolvers; end = leaves.end };
    noted = λ e. refl;
  }

  pub at-feed : drop k.position t.seats ≡ feed ∷ rest
  at-feed = ap (λ n. drop n t.seats) here.position_is ∙ (behind-line t (s ∷ ss) (feed ∷ rest) q (end_place t q) (record { place = refl; left = here.at })).left

-- so the rest of a paragraph is read
module _ (seen : LinesAreSeen) (g : Given) (t : Text) (room : length t.seats < 2 ^ 64 - 1) where
  abbrev on : SeenKind → Bool
  on kind = seen_ends kind

  abbrev kind_of : Line → SeenKind
  kind_of line = seen_kind g.options.constructs (text_of line)

  -- what is read from there
  abbrev Rest : (has_previous : Bool) (done : List Event) (s : Seat) (ss : List Seat) (feed : Seat) (q : ℕ) (k : Configuration Unit Unit) (n : ℕ) (more : List Line) → Type 0
  Rest has_previous done s ss feed q k n more =
      IsReadOn g t has_previous done (((s ∷ ss) ++ feed ∷ []) ∷ take n more) (all_of (drop n more)) (is_underlined g (drop n more)) q k (Retry ParagraphInside)

  -- the next line ends the paragraph
  ends-here : (has_previous : Bool) (done : List Event) (s : Seat) (ss : List Seat) (feed : Seat) (q : ℕ) (k : Configuration Unit Unit) (next : Line) (more : List Line)
      → IsAtFeed g t has_previous done s ss feed (all_of (next ∷ more)) q k → IsInLine (s ∷ ss) → EndsSo g t k (kind_of next) → seen_ends (kind_of next) ≡ true → Rest has_previous done s ss feed q k 0 (next ∷ more)
  ends-here has_previous done s ss feed q k next more here all so stops =
      let rest = all_of (next ∷ more) in
      let line = (s ∷ ss) ++ feed ∷ [] in
      elim (is_underline (kind_of next)) as (λ b. is_underline (kind_of next) ≡ b → IsReadOn g t has_previous done (line ∷ []) rest b q k (Retry ParagraphInside)) [
        | true ↦ λ e. let (l, leaves, leads) = so.under stops e in last-before-underline g t has_previous done s ss feed rest q k here all l leaves leads
        | false ↦ λ e. let (l, leaves, leads) = so.over stops e in last-line g t has_previous done s ss feed rest q k here all l leaves leads
      ] refl

  -- the look at the next line
  looks-at : (has_previous : Bool) (done : List Event) (s : Seat) (ss : List Seat) (feed : Seat) (q : ℕ) (k : Configuration Unit Unit) (next : Line) (more : List Line)
      → IsAtFeed g t has_previous done s ss feed (all_of (next ∷ more)) q k → IsInLine (s ∷ ss) → AreLines (next ∷ more) → EndsSo g t k (kind_of next)
  looks-at has_previous done s ss feed q k next more here all are =
      let parts = first-parts next more are in
      let split : all_of (next ∷ more) ≡ line_text next ++ (ending_of next ++ all_of more) = ap (λ l. l ++ all_of more) parts.is ∙ append_assoc (line_text next) (ending_of next) (all_of more) in
      line-ends-so seen g t k feed (line_text next) (ending_of next ++ all_of more) (at-feed g t has_previous done s ss feed (all_of (next ∷ more)) q k here all ∙ ap (λ l. feed ∷ l) split) here.waits here.feeds parts.in_line parts.ends room

  -- a line that is not blank has a byte
  first-of : (next : Line) → seen_ends (kind_of next) ≡ false → (s : Seat) × (ss : List Seat) × (line_text next ≡ s ∷ ss)
  first-of next differs = elim (line_text next) as (λ l. seen_ends (seen_kind g.options.constructs (bytes_of l)) ≡ false → (s : Seat) × (ss : List Seat) × (l ≡ s ∷ ss)) [
    | [] ↦ λ e. absurd (let wrong : true ≡ false = ap seen_ends (sym (seen-is-tested g.options.constructs [])) ∙ e in cc)
    | s ∷ ss ↦ λ e. (s, ss, refl)
  ] differs

  -- the next line is one of the paragraph
  goes-over-next : (has_previous : Bool) (done : List Event) (s : Seat) (ss : List Seat) (feed : Seat) (q : ℕ) (k : Configuration Unit Unit) (next : Line) (more : List Line)
      → IsAtFeed g t has_previous done s ss feed (all_of (next ∷ more)) q k → AreLines (next ∷ more) → EndsSo g t k (kind_of next) → seen_ends (kind_of next) ≡ false
      → ((done : List Event) (s : Seat) (ss : List Seat) (feed : Seat) (q : ℕ) (k : Configuration Unit Unit) → IsAtFeed g t true done s ss feed (all_of more) q k → IsInLine (s ∷ ss) → Rest true done s ss feed q k (goes_on_over g more) more)
      → Rest has_previous done s ss feed q k (suc (goes_on_over g more)) (next ∷ more)
  goes-over-next has_previous done s ss feed q k next more here are so differs further =
      let rest = all_of (next ∷ more) in
      let line = (s ∷ ss) ++ feed ∷ [] in
      let (l, leaves, leads) = so.on differs in
      let (u, us, first) = first-of next differs in
      let all : IsInLine (u ∷ us) = subst IsInLine first (text-in-line next) in
      let cut = cut-line next more are in
      elim cut.ends [
        | inl h ↦
            let whole : next ≡ (u ∷ us) ++ h.ending ∷ [] = sym cut.whole ∙ ap (λ l. l ++ ending_of next) first ∙ ap (λ l. (u ∷ us) ++ l) h.is in
            let behind = us ++ h.ending ∷ all_of more in
            let is : rest ≡ u ∷ behind = ap (λ l. l ++ all_of more) whole ∙ append_assoc (u ∷ us) (h.ending ∷ []) (all_of more) in
            let (k2, leads2, keeps2, here2) = further-feed g t has_previous done s ss feed q rest k l u behind is here leaves all.0 leads us h.ending (all_of more) refl all.1 h.feed in
            let n = goes_on_over g more in
            subst (λ (x : Line). IsReadOn g t has_previous done (line ∷ x ∷ take n more) (all_of (drop n more)) (is_underlined g (drop n more)) q k (Retry ParagraphInside)) (sym whole)
            (one-line-more g t has_previous done s ss feed q k (Retry ParagraphInside) k2 (Retry ParagraphInside) ((u ∷ us) ++ h.ending ∷ []) (take n more) (all_of (drop n more)) (is_underlined g (drop n more)) leads2 keeps2
            (further (done_before g t has_previous done s ss feed q) u us h.ending (q + length line) k2 here2 all))
        | inr h ↦
            let whole : next ≡ u ∷ us = sym cut.whole ∙ ap (λ l. line_text next ++ l) h.is ∙ append-nil (line_text next) ∙ first in
            let is : rest ≡ u ∷ us = ap (λ more. next ++ all_of more) h.last ∙ append-nil next ∙ whole in
            subst (λ (more : List Line). Rest has_previous done s ss feed q k (suc (goes_on_over g more)) (next ∷ more)) (sym h.last)
            (subst (λ (x : Line). IsReadOn g t has_previous done (line ∷ x ∷ []) [] false q k (Retry ParagraphInside)) (sym whole)
            (further-end g t has_previous done s ss feed q rest k l u us is here leaves all.0 leads all.1))
      ]

  pub rest-read : (more : List Line) → AreLines more → (has_previous : Bool) (done : List Event) (s : Seat) (ss : List Seat) (feed : Seat) (q : ℕ) (k : Configuration Unit Unit)
      → IsAtFeed g t has_previous done s ss feed (all_of more) q k → IsInLine (s ∷ ss) → Rest has_previous done s ss feed q k (goes_on_over g more) more
  rest-read [] are has_previous done s ss feed q k here all =
      let so = line-ends-so seen g t k feed [] [] (at-feed g t has_previous done s ss feed [] q k here all) here.waits here.feeds tt tt room in
      let blank = seen-is-tested g.options.constructs [] in let (l, leaves, leads) = so.over (ap seen_ends blank) (ap is_underline blank) in last-line g t has_previous done s ss feed [] q k here all l leaves leads
  rest-read (next ∷ more) are has_previous done s ss feed q k here all =
      let so = looks-at has_previous done s ss feed q k next more here all are in
      let test = λ (t : List ℕ). is_some (underline_rank g.options.constructs t) || interrupts (line_kind g.options.constructs t) in
      let same = sym (ends-as-seen g.options.constructs next) in
      elim (test (text_of next)) as (λ b. test (text_of next) ≡ b → Rest has_previous done s ss feed q k (goes_on_over g (next ∷ more)) (next ∷ more)) [
        | true ↦ λ stops. subst (λ n. Rest has_previous done s ss feed q k n (next ∷ more)) (sym (until-there test next more stops)) (ends-here has_previous done s ss feed q k next more here all so (same ∙ stops))
        | false ↦ λ differs. subst (λ n. Rest has_previous done s ss feed q k n (next ∷ more)) (sym (until-one-more test next more differs))
            (goes-over-next has_previous done s ss feed q k next more here are so (same ∙ differs) (λ done s ss feed q k here all. rest-read more (lines-behind next more are) true done s ss feed q k here all))
      ] refl
