-- The leaf blocks of lines of which some are text are those of the lines with letters: they are cut alike, and have the same marks.
use Rattle.std.proofs.Common.{◌≡◌, ℕ, zero, suc, ◌+◌, Bool, true, false, cond, List, [], ◌∷◌, ◌++◌, ap, drop, length, refl, sym, take, ◌∙◌}
use Rattle.std.specs.Prelude.{◌&&◌, ◌||◌, is_some, min, nat_le, nat_lt, not, None, Option, Some}
use Rattle.std.specs.List.{AllByRecursion}
use Rattle.std.proofs.lemmas.Bool.{false≢true}
use Rattle.std.proofs.lemmas.List.{drop-map, length-map, map-append, take-map}
use Rattle.markdown_base.proofs.Common.{every-append, every-drop, every-map, every-take}
use Rattle.markdown_base.specs.declared.configuration.Constructs.{Constructs}
use Rattle.markdown_base.specs.declared.event.Name.TheVariants as name
use Rattle.markdown_base.specs.declared.event.Point.{Point}
use Rattle.markdown_base.specs.Places.{shown}
use Rattle.markdown_base.specs.Virtual.{Seat}
use Rattle.mdconstructs_machines.specs.LineEvents.{ending_of, line_text, lines_in}
use Rattle.mdblock_leaf_blocks.proofs.Marks.Cuts.{ranked}
use Rattle.mdblock_leaf_blocks.specs.HtmlLines.{HtmlKind, ends, waits_for_blank}
use Rattle.mdblock_leaf_blocks.specs.LeafBlocks.{Line, LeafBlock, atx_heading, blank_line, break_line, fenced_code, has_line, html_block, html_block_at, indented_code, interrupts, is_blank, is_indented, lines_through, lines_until, paragraph, setext_heading, text_of}
use Rattle.mdblock_leaf_blocks.specs.LeafBlocks as now
use Rattle.mdblock_leaf_blocks.specs.LeafEvents.{block_span, body, break_marks, code_marks, heading_marks, leaf_block_marks, leaf_blocks_marks, leaf_marks, span_marks, text_marks, underline_marks, white}
use Rattle.mdblock_leaf_blocks.specs.LeafEvents as now_events
use Rattle.mdblock_leaf_blocks.specs.LineKinds.{Fence, LineKind, blank, closes, fence, heading, html, indent, indented, is_blank_line, line_kind, run, text, thematic_break, underline_rank, unindented}
use Rattle.mdblock_text_lines.specs.TextLines.{block_of_kind, blocks_in, content_at, ends_text, flow_events, further_code, kind_at, rank_at, underlined}
use Rattle.mdblock_text_lines.proofs.LetterKinds.{IsFenceByte, fence-byte}
use Rattle.mdblock_text_lines.proofs.LetterMarks.{AreKept, IsFencedAlike, IsKept, all_lettered, block-kept, body-span-kept, break-same, code-fenced-kept, code-line-kept, ending-kept, heading-same, html-kept, last-kept, leaf-kept, lettered, lines-kept, lines-marks-kept, text-kept, text-marks-kept, underline-same, white-kept}

-- a leaf block, with letters in its lines
abbrev lettered_block : List ℕ → LeafBlock → LeafBlock
lettered_block at (blank_line line) = blank_line (lettered at line)
lettered_block at (break_line line) = break_line (lettered at line)
lettered_block at (atx_heading line) = atx_heading (lettered at line)
lettered_block at (paragraph lines) = paragraph (all_lettered at lines)
lettered_block at (setext_heading rank lines underline) = setext_heading rank (all_lettered at lines) (lettered at underline)
lettered_block at (indented_code lines) = indented_code (all_lettered at lines)
lettered_block at (fenced_code f is_closed lines) = fenced_code f is_closed (all_lettered at lines)
lettered_block at (html_block kind is_closed lines) = html_block kind is_closed (all_lettered at lines)

abbrev lettered_cut : List ℕ → LeafBlock × ℕ → LeafBlock × ℕ
lettered_cut at c = (lettered_block at c.0, c.1)

module _ (on : Constructs) (is_text : Line → Bool) (at : List ℕ) where
  abbrev ll : Line → Line
  ll line = lettered at line

  abbrev lls : List Line → List Line
  lls lines = all_lettered at lines

  -- A line is of the same kind with letters as without
  pub record IsAlike (l : Line) : Type 0 where
    pub kept : AllByRecursion (IsKept at) l
    pub plain : is_text l ≡ false → ll l ≡ l
    pub kind : line_kind on (text_of (ll l)) ≡ kind_at on is_text l
    pub rank : underline_rank on (text_of (ll l)) ≡ rank_at on is_text l

  -- and ends nothing, if it is text
  pub record IsBehind (l : Line) : Type 0 where
    pub alike : IsAlike l
    pub white : indent (text_of (ll l)) ≡ indent (text_of l)
    pub blank : is_blank_line (text_of (ll l)) ≡ is_blank_line (text_of l)
    pub ends : (kind : HtmlKind) → ends kind (text_of (ll l)) ≡ ends kind (text_of l)
    pub closes : (f : Fence) → IsFenceByte f.byte → closes on f (text_of (ll l)) ≡ closes on f (text_of l)
    pub marks : (q : ℕ) → IsFenceByte q → run q (unindented (text_of (ll l))) ≡ run q (unindented (text_of l))

  -- a line that is none of text is the same with letters
  pub plain-behind : (l : Line) → IsAlike l → is_text l ≡ false → IsBehind l
  plain-behind l h e =
      let same = h.plain e in
      record {
        alike = h;
        white = ap (λ x. indent (text_of x)) same;
        blank = ap (λ x. is_blank_line (text_of x)) same;
        ends = λ kind. ap (λ x. ends kind (text_of x)) same;
        closes = λ f is. ap (λ x. closes on f (text_of x)) same;
        marks = λ q is. ap (λ x. run q (unindented (text_of x))) same;
      }

  abbrev AreBehind : List Line → Type 0
  AreBehind ls = AllByRecursion IsBehind ls

  all-kept : (ls : List Line) → AreBehind ls → AreKept at ls
  all-kept ls h = every-map IsBehind (AllByRecursion (IsKept at)) (λ l k. k.alike.kept) ls h

  -- a line of another kind is no text
  other-plain : (l : Line) → IsAlike l → (k : LineKind) → (cond (is_text l) text k ≡ text → ⊥) → is_text l ≡ false
  other-plain l h k other = by (is_text l) refl
    where
      by : (x : Bool) → is_text l ≡ x → x ≡ false
      by true e = absurd (other (ap (λ b. cond b text k) e))
      by false e = refl

  -- ---- how many lines
  until-alike : (new old : Line → Bool) (ls : List Line) → AllByRecursion (λ l. new (ll l) ≡ old l) ls → lines_until new (lls ls) ≡ lines_until old ls
  until-alike new old [] h = refl
  until-alike new old (l ∷ ls) h = let rest = until-alike new old ls h.1 in λ i. cond (not (h.0 i)) (1 + rest i) 0

  abbrev passes : (List ℕ → Bool) → Line → Bool
  passes test l = test (text_of l)

  abbrev TestAlike : (List ℕ → Bool) → List Line → Type 0
  TestAlike test ls = AllByRecursion (λ l. test (text_of (ll l)) ≡ test (text_of l)) ls

  through-alike : (test : List ℕ → Bool) (ls : List Line) → TestAlike test ls → lines_through test (lls ls) ≡ lines_through test ls
  through-alike test ls h = let u = until-alike (passes test) (passes test) ls h in let m = length-map ls ll in λ i. min (m i) (suc (u i))

  has-alike : (test : List ℕ → Bool) (ls : List Line) → TestAlike test ls → has_line test (lls ls) ≡ has_line test ls
  has-alike test ls h = let u = until-alike (passes test) (passes test) ls h in let m = length-map ls ll in λ i. nat_lt (u i) (m i)

  taken : (k j : ℕ) (ls : List Line) → k ≡ j → take k (lls ls) ≡ lls (take j ls)
  taken k j ls e = ap (λ n. take n (lls ls)) e ∙ take-map ll j ls

  further-alike : (ls : List Line) → AreBehind ls → now.further_code on (lls ls) ≡ further_code on is_text ls
  further-alike [] h = refl
  further-alike (l ∷ ls) h = let k = h.0.alike.kind in let f = further-alike ls h.1 in λ i. cond (is_indented on (k i)) (suc (f i)) (cond (is_blank on (k i) && nat_le 1 (f i)) (suc (f i)) 0)

  -- ---- cuts
  underlined-alike : (ls behind : List Line) → AreBehind behind → now.underlined on (lls ls) (lls behind) ≡ lettered_cut at (underlined on is_text ls behind)
  underlined-alike ls [] h = let m = length-map ls ll in λ i. (paragraph (lls ls), m i)
  underlined-alike ls (next ∷ behind) h = by-rank (underline_rank on (text_of (ll next))) (rank_at on is_text next) h.0.alike.rank
    where
      same : (rank : Option ℕ) → ranked (lls ls) (ll next) rank ≡ lettered_cut at (ranked ls next rank)
      same None = let m = length-map ls ll in λ i. (paragraph (lls ls), m i)
      same (Some rank) = let m = length-map ls ll in λ i. (setext_heading rank (lls ls) (ll next), suc (m i))

      by-rank : (k j : Option ℕ) → k ≡ j → ranked (lls ls) (ll next) k ≡ lettered_cut at (ranked ls next j)
      by-rank k j e = ap (ranked (lls ls) (ll next)) e ∙ same j

  ends-alike : (ls : List Line) → AreBehind ls → AllByRecursion (λ l. now.ends_text on (ll l) ≡ ends_text on is_text l) ls
  ends-alike [] h = tt
  ends-alike (l ∷ ls) h = (λ i. is_some (h.0.alike.rank i) || interrupts (h.0.alike.kind i), ends-alike ls h.1)

  content-alike : (l : Line) (ls : List Line) → AreBehind ls → now.content_at on (lls (l ∷ ls)) ≡ lettered_cut at (content_at on is_text (l ∷ ls))
  content-alike l ls h =
      let all = l ∷ ls in
      let j = lines_until (now.ends_text on) (lls ls) in
      let k = lines_until (ends_text on is_text) ls in
      let u : suc j ≡ suc k = ap suc (until-alike (now.ends_text on) (ends_text on is_text) ls (ends-alike ls h)) in
      let d : drop (suc j) (lls all) ≡ lls (drop (suc k) all) = ap (λ n. drop n (lls all)) u ∙ drop-map ll (suc k) all in
      (λ i. now.underlined on (taken (suc j) (suc k) all u i) (d i)) ∙ underlined-alike (take (suc k) all) (drop (suc k) all) (every-drop IsBehind k ls h)

  html-alike : (kind : HtmlKind) (ls : List Line) → AreBehind ls → html_block_at on kind (lls ls) ≡ lettered_cut at (html_block_at on kind ls)
  html-alike kind ls h =
      let blanks : TestAlike is_blank_line ls = every-map IsBehind _ (λ l k. k.blank) ls h in
      let tests : TestAlike (ends kind) ls = every-map IsBehind _ (λ l k. k.ends kind) ls h in
      let v = until-alike (passes is_blank_line) (passes is_blank_line) ls blanks in
      let w = through-alike (ends kind) ls tests in
      let n = cond (waits_for_blank kind) (lines_until (passes is_blank_line) ls) (lines_through (ends kind) ls) in
      let u : cond (waits_for_blank kind) (lines_until (passes is_blank_line) (lls ls)) (lines_through (ends kind) (lls ls)) ≡ n = λ i. cond (waits_for_blank kind) (v i) (w i) in
      let t = taken _ n ls u in
      let has = has-alike (ends kind) ls tests in
      λ i. (html_block kind (waits_for_blank kind || has i) (t i), u i)

  -- the leaf block at the front
  block-alike : (k : LineKind) (l : Line) (ls : List Line) → kind_at on is_text l ≡ k → IsAlike l → AreBehind ls → now.block_of_kind on k (ll l) (lls ls) ≡ lettered_cut at (block_of_kind on is_text k l ls)
  block-alike blank l ls e h b = refl
  block-alike indented l ls e h b = let u = ap suc (further-alike ls b) in let t = taken _ _ (l ∷ ls) u in λ i. (indented_code (t i), u i)
  block-alike heading l ls e h b = refl
  block-alike (fence f) l ls e h b =
      let plain = other-plain l h (line_kind on (text_of l)) (λ z. no-fence (sym e ∙ z)) in
      let is = fence-byte on (text_of l) f (sym (ap (λ x. cond x text (line_kind on (text_of l))) plain) ∙ e) in
      let tests : TestAlike (closes on f) ls = every-map IsBehind _ (λ m k. k.closes f is) ls b in
      let u = ap suc (through-alike (closes on f) ls tests) in
      let t = taken _ _ (l ∷ ls) u in
      let has = has-alike (closes on f) ls tests in
      λ i. (fenced_code f (has i) (t i), u i)
    where
      no-fence : fence f ≡ text → ⊥
      no-fence z = false≢true (ap (λ (k : LineKind). is_text_kind k) z)
        where
          is_text_kind : LineKind → Bool
          is_text_kind text = true
          is_text_kind _ = false
  block-alike (html kind) l ls e h b = html-alike kind (l ∷ ls) (plain-behind l h (other-plain l h (line_kind on (text_of l)) (λ z. no-html (sym e ∙ z))), b)
    where
      no-html : html kind ≡ text → ⊥
      no-html z = false≢true (ap (λ (k : LineKind). is_text_kind k) z)
        where
          is_text_kind : LineKind → Bool
          is_text_kind text = true
          is_text_kind _ = false
  block-alike thematic_break l ls e h b = refl
  block-alike text l ls e h b = content-alike l ls b

-- ---- marks
abbrev is_text_kind : LineKind → Bool
is_text_kind text = true
is_text_kind _ = false

module _ (on : Constructs) (is_text : Line → Bool) (at : List ℕ) (a b : List ℕ) (alike : (p : Point) → shown a p ≡ shown b p) where
  abbrev Behind : Line → Type 0
  Behind = IsBehind on is_text at

  abbrev Alike : Line → Type 0
  Alike = IsAlike on is_text at

  plain-of : (l : Line) → Alike l → (k : LineKind) → kind_at on is_text l ≡ k → is_text_kind k ≡ false → is_text l ≡ false
  plain-of l h k e other = by (is_text l) refl
    where
      by : (x : Bool) → is_text l ≡ x → x ≡ false
      by true f = absurd (false≢true (sym other ∙ ap is_text_kind (sym e ∙ ap (λ x. cond x text (line_kind on (text_of l))) f)))
      by false f = refl

  kept-of : (ls : List Line) → AllByRecursion Behind ls → AreKept at ls
  kept-of = all-kept on is_text at

  code-lines : (ls : List Line) → AllByRecursion Behind ls → AllByRecursion (λ l. code_marks a 4 (line_text (lettered at l)) ≡ code_marks b 4 (line_text l)) ls
  code-lines ls h = every-map Behind _ (λ l k. code-line-kept a b alike at 4 l k.alike.kept k.white) ls h

  abbrev SameMarks : LeafBlock → Type 0
  SameMarks block = leaf_block_marks a (lettered_block at block) ≡ leaf_block_marks b block

  -- text, and an underline behind it
  paragraph-marks : (ls : List Line) → AreKept at ls → SameMarks (paragraph ls)
  paragraph-marks ls h = block-kept a b alike at name.Paragraph false ls (text_marks a false (all_lettered at ls)) (text_marks b false ls) h (text-marks-kept a b alike at false ls h)

  heading-marks : (rank : ℕ) (ls : List Line) (next : Line) → AreKept at ls → AllByRecursion (IsKept at) next → lettered at next ≡ next → SameMarks (setext_heading rank ls next)
  heading-marks rank ls next h k plain =
      let x = text_marks a false (all_lettered at ls) in
      let y = text_marks b false ls in
      let texts = text-marks-kept a b alike at false ls h in
      let all : all_lettered at ls ++ lettered at next ∷ [] ≡ all_lettered at (ls ++ next ∷ []) = sym (map-append (lettered at) ls (next ∷ [])) in
      let under : underline_marks a (line_text (lettered at next)) ≡ underline_marks b (line_text next) = ap (λ l. underline_marks a (line_text l)) plain ∙ underline-same a b alike (line_text next) in
      ap (λ l. block_span a name.HeadingSetext false l (span_marks a name.HeadingSetextText (body (all_lettered at ls)) x ++ (now_events.last_end a (all_lettered at ls) ++ underline_marks a (line_text (lettered at next))))) all
      ∙ block-kept a b alike at name.HeadingSetext false (ls ++ next ∷ []) _ _ (every-append (AllByRecursion (IsKept at)) ls (next ∷ []) h (k, tt))
      (λ i. body-span-kept a b alike at name.HeadingSetextText ls x y h texts i ++ (last-kept a b alike at ls h i ++ under i))

  underlined-marks : (ls behind : List Line) → AreKept at ls → AllByRecursion Behind behind → SameMarks (underlined on is_text ls behind).0
  underlined-marks ls [] h k = paragraph-marks ls h
  underlined-marks ls (next ∷ behind) h k = by (rank_at on is_text next) refl
    where
      by : (o : Option ℕ) → rank_at on is_text next ≡ o → SameMarks (elim o as (λ _. LeafBlock × ℕ) [ None ↦ (paragraph ls, length ls) | Some rank ↦ (setext_heading rank ls next, suc (length ls)) ]).0
      by None e = paragraph-marks ls h
      by (Some rank) e = heading-marks rank ls next h k.0.alike.kept (k.0.alike.plain (plain (is_text next) refl e))
        where
          plain : (x : Bool) → is_text next ≡ x → rank_at on is_text next ≡ Some rank → x ≡ false
          plain true f g = absurd (false≢true (ap is_some (sym (ap (λ y. cond y None (underline_rank on (text_of next))) f) ∙ g)))
          plain false f g = refl

  -- the leaf block at the front
  marks-alike : (k : LineKind) (l : Line) (ls : List Line) → kind_at on is_text l ≡ k → Alike l → AllByRecursion Behind ls → SameMarks (block_of_kind on is_text k l ls).0
  marks-alike blank l ls e h k =
      λ i. (ap (white a) (text-kept at l h.kept) ∙ white-kept a b alike at (line_text l)) i ++ (ap (leaf_marks a name.BlankLineEnding) (ending-kept at l h.kept) ∙ leaf-kept a b alike at name.BlankLineEnding (ending_of l)) i
  marks-alike indented l ls e h k =
      let here = plain-behind on is_text at l h (plain-of l h indented e refl) in
      let n = suc (further_code on is_text ls) in
      let all = every-take Behind n (l ∷ ls) (here, k) in
      let t = take n (l ∷ ls) in
      block-kept a b alike at name.CodeIndented false t _ _ (kept-of t all) (lines-marks-kept a b alike at (code_marks a 4) (code_marks b 4) false t (kept-of t all) (code-lines t all))
  marks-alike heading l ls e h k =
      let same = h.plain (plain-of l h heading e refl) in
      block-kept a b alike at name.HeadingAtx false (l ∷ []) _ _ (h.kept, tt) (ap (λ x. heading_marks a (line_text x)) same ∙ heading-same a b alike (line_text l))
  marks-alike (fence f) l ls e h k =
      let plain = plain-of l h (fence f) e refl in
      let is = fence-byte on (text_of l) f (sym (ap (λ x. cond x text (line_kind on (text_of l))) plain) ∙ e) in
      let m = lines_through (closes on f) ls in
      let more = take m ls in
      let others = every-take Behind m ls k in
      let closed = has_line (closes on f) ls in
      block-kept a b alike at name.CodeFenced (not closed) (l ∷ more) _ _ (h.kept, kept-of more others)
      (code-fenced-kept a b alike at f closed l more (h.plain plain) h.kept (every-map Behind (IsFencedAlike a b alike at f.byte) (λ x j. record { kept = j.alike.kept; white = j.white; marks = j.marks f.byte is }) more others))
  marks-alike (html kind) l ls e h k =
      let plain = plain-of l h (html kind) e refl in
      let here = plain-behind on is_text at l h plain in
      let n = cond (waits_for_blank kind) (lines_until (λ x. is_blank_line (text_of x)) (l ∷ ls)) (lines_through (ends kind) (l ∷ ls)) in
      let closed = waits_for_blank kind || has_line (ends kind) (l ∷ ls) in
      by n closed (h.plain plain) (here, k)
    where
      by : (n : ℕ) (closed : Bool) → lettered at l ≡ l → AllByRecursion Behind (l ∷ ls) → SameMarks (html_block kind closed (take n (l ∷ ls)))
      by zero true same all = refl
      by zero false same all = refl
      by (suc n) closed same all =
          let rest = kept-of (take n ls) (every-take Behind n ls all.1) in
          block-kept a b alike at name.HtmlFlow (not closed) (l ∷ take n ls) _ _ (all.0.alike.kept, rest) (html-kept a b alike at (not closed) l (take n ls) same (all.0.alike.kept, rest))
  marks-alike thematic_break l ls e h k =
      let same = h.plain (plain-of l h thematic_break e refl) in
      block-kept a b alike at name.ThematicBreak false (l ∷ []) _ _ (h.kept, tt) (ap (λ x. break_marks a (length x) (line_text x)) same ∙ break-same a b alike (length l) (line_text l))
  marks-alike text l ls e h k =
      let n = lines_until (ends_text on is_text) ls in
      underlined-marks (take (suc n) (l ∷ ls)) (drop (suc n) (l ∷ ls)) (h.kept, kept-of (take n ls) (every-take Behind n ls k)) (every-drop Behind n ls k)

  -- ---- all leaf blocks
  abbrev pub AllAlike : List Line → Type 0
  AllAlike [] = Unit {0}
  AllAlike (l ∷ ls) = Alike l × AllByRecursion Behind ls

  pub behind-alike : (ls : List Line) → AllByRecursion Behind ls → AllAlike ls
  behind-alike [] h = tt
  behind-alike (l ∷ ls) h = (h.0.alike, h.1)

  dropped-alike : (n : ℕ) (l : Line) (ls : List Line) → Alike l → AllByRecursion Behind ls → AllAlike (drop n (l ∷ ls))
  dropped-alike zero l ls h k = (h, k)
  dropped-alike (suc n) l ls h k = behind-alike (drop n ls) (every-drop Behind n ls k)

  blocks-alike : (bound : ℕ) (ls : List Line) → AllAlike ls → leaf_blocks_marks a (now.blocks_in on bound (all_lettered at ls)) ≡ leaf_blocks_marks b (blocks_in on is_text bound ls)
  blocks-alike zero ls h = refl
  blocks-alike (suc bound) [] h = refl
  blocks-alike (suc bound) (l ∷ ls) h =
      let k = kind_at on is_text l in
      let c = block_of_kind on is_text k l ls in
      let all = l ∷ ls in
      let cut : now.block_of_kind on (line_kind on (text_of (lettered at l))) (lettered at l) (all_lettered at ls) ≡ lettered_cut at c =
      ap (λ j. now.block_of_kind on j (lettered at l) (all_lettered at ls)) h.0.kind ∙ block-alike on is_text at k l ls refl h.0 h.1 in
      let rest : leaf_blocks_marks a (now.blocks_in on bound (drop c.1 (all_lettered at all))) ≡ leaf_blocks_marks b (blocks_in on is_text bound (drop c.1 all)) =
      ap (λ x. leaf_blocks_marks a (now.blocks_in on bound x)) (drop-map (lettered at) c.1 all) ∙ blocks-alike bound (drop c.1 all) (dropped-alike c.1 l ls h.0 h.1) in
      ap (λ d. leaf_blocks_marks a (d.0 ∷ now.blocks_in on bound (drop d.1 (all_lettered at all)))) cut
      ∙ (λ i. marks-alike k l ls refl h.0 h.1 i ++ rest i)

  -- The events of leaf blocks: of lines that are text, those of the lines with letters
  pub events-alike : (seats : List Seat) → AllByRecursion (IsKept at) seats → AllAlike (lines_in seats) → flow_events on is_text b seats ≡ now_events.flow_events on a (lettered at seats)
  events-alike seats kept h =
      let ls = lines_in seats in
      sym (ap (λ x. now_events.linked_from 0 (leaf_blocks_marks a (now.leaf_blocks on x))) (lines-kept at seats kept)
      ∙ ap (λ n. now_events.linked_from 0 (leaf_blocks_marks a (now.blocks_in on n (all_lettered at ls)))) (length-map ls (lettered at))
      ∙ ap (now_events.linked_from 0) (blocks-alike (length ls) ls h))
