-- Headings among leaf blocks have their ranks, and tell them.
use Rattle.mddocument_laws.proofs.Prelude.{◌≡◌, ℕ, zero, suc, ◌≤◌, ◌⊎◌, Bool, true, false, cond, List, [], ◌∷◌, length, take, drop, Option, Some, None, inl, inr, refl, arith, leb-true, AllByRecursion, ◌&&◌, ◌||◌, nat_le, slice_get, and-right, and-left, Constructs, line_text, HtmlKind, html_kind, Line, LeafBlock, block_of_kind, blocks_in, ends_text, lines_until, paragraph, setext_heading, text_of, underlined, Fence, LineKind, blank, fence, heading, html, indent, indented, is_atx_heading, is_blank_line, is_far, is_fence_of, is_thematic_break, is_underline_of_marks, kind_of_rest, line_kind, run, text, thematic_break, underline_rank, unindented, HasRank, not}
use Rattle.mddocument_laws.proofs.Ranks.Told.{TellsItsRank}
use Rattle.mddocument_laws.proofs.Ranks.Signs.{Laid, ranked}
use Rattle.mddocument_laws.proofs.Ranks.Underlines.{Bytes, marks-of, underlined-ranks}

few-signs : (r : List ℕ) → is_atx_heading r ≡ true → (1 ≤ run 35 r) × (run 35 r ≤ 6)
few-signs r h =
    let n = run 35 r in
    let rest = and-right (nat_le 1 n) _ h in
    (leb-true 1 n (and-left (nat_le 1 n) _ h), leb-true n 6 (and-left (nat_le n 6) _ rest))

-- what is no heading is of another kind
only-heading : (a b c : Bool) (o : Option HtmlKind) (d : Bool) (f g : Fence)
    → cond a heading (cond b (fence f) (cond c (fence g) (elim o [ None ↦ cond d thematic_break text | Some kind ↦ html kind ]))) ≡ heading → a ≡ true
only-heading true b c o d f g h = refl
only-heading false true c o d f g h = absurd (cc)
only-heading false false true o d f g h = absurd (cc)
only-heading false false false (Some kind) d f g h = absurd (cc)
only-heading false false false None true f g h = absurd (cc)
only-heading false false false None false f g h = absurd (cc)

-- Marks of underlines are the document's, also where letters are shown
module _ (bytes given : List ℕ) (same : (i mark : ℕ) → (mark ≡ 61) ⊎ (mark ≡ 45) → slice_get bytes i ≡ Some mark → slice_get given i ≡ Some mark) (on : Constructs) where
  is-heading : (t : List ℕ) (a b : Bool) → cond a blank (cond b indented (kind_of_rest on (indent t) (unindented t))) ≡ heading → is_atx_heading (unindented t) ≡ true
  is-heading t true b h = absurd (cc)
  is-heading t false true h = absurd (cc)
  is-heading t false false h =
      let r = unindented t in
      and-right on.heading_atx (is_atx_heading r)
      (only-heading (on.heading_atx && is_atx_heading r) (on.code_fenced && is_fence_of 96 r) (on.code_fenced && is_fence_of 126 r) (cond on.html_flow (html_kind r) None) (on.thematic_break && is_thematic_break r)
      (record { byte = 96; size = run 96 r; indent = indent t }) (record { byte = 126; size = run 126 r; indent = indent t }) h)

  -- lines of a document
  abbrev pub IsLaid : Line → Type 0
  IsLaid line = Laid bytes (line_text line) × Bytes bytes line

  all-drop : (n : ℕ) (lines : List Line) → AllByRecursion IsLaid lines → AllByRecursion IsLaid (drop n lines)
  all-drop zero lines h = h
  all-drop (suc n) [] h = tt
  all-drop (suc n) (line ∷ lines) h = all-drop n lines h.1

  pub both : (lines : List Line) → AllByRecursion (λ line. Laid bytes (line_text line)) lines → AllByRecursion (Bytes bytes) lines → AllByRecursion IsLaid lines
  both [] h k = tt
  both (line ∷ lines) h k = ((h.0, k.0), both lines h.1 k.1)

  -- a heading has a rank, and tells it
  abbrev pub IsRanked : LeafBlock → Type 0
  IsRanked block = HasRank block × TellsItsRank bytes given block

  underline-within : (t : List ℕ) (rank : ℕ) → underline_rank on t ≡ Some rank → (1 ≤ rank) × (rank ≤ 2)
  underline-within t rank q =
      let r = unindented t in
      elim (marks-of bytes on t rank (is_far on t || not on.heading_setext) (is_underline_of_marks 61 r) (is_underline_of_marks 45 r) q) [
        | inl m ↦ (let one = m.0 in (omega (arith, one), omega (arith, one)))
        | inr m ↦ (let two = m.0 in (omega (arith, two), omega (arith, two)))
      ]

  of-underline : (o : Option ℕ) (lines : List Line) (next : Line) → Bytes bytes next → underline_rank on (text_of next) ≡ o
      → IsRanked (elim o as (λ _. LeafBlock × ℕ) [ None ↦ (paragraph lines, length lines) | Some rank ↦ (setext_heading rank lines next, suc (length lines)) ]).0
  of-underline None lines next h q = (tt, tt)
  of-underline (Some rank) lines next h q = (underline-within (text_of next) rank q, underlined-ranks bytes on given same lines next rank h q)

  of-content : (lines behind : List Line) → AllByRecursion IsLaid behind → IsRanked (underlined on lines behind).0
  of-content lines [] h = (tt, tt)
  of-content lines (next ∷ behind) h = of-underline (underline_rank on (text_of next)) lines next h.0.1 refl

  of-kind : (kind : LineKind) (line : Line) (lines : List Line) → AllByRecursion IsLaid (line ∷ lines) → line_kind on (text_of line) ≡ kind → IsRanked (block_of_kind on kind line lines).0
  of-kind blank line lines h q = (tt, tt)
  of-kind indented line lines h q = (tt, tt)
  of-kind heading line lines h q =
      let t = text_of line in
      let r = few-signs (unindented t) (is-heading t (is_blank_line t) (is_far on t) q) in
      (r, λ read others behind. ranked bytes given read others line behind h.0.0 r.0)
  of-kind (fence f) line lines h q = (tt, tt)
  of-kind (html kind) line lines h q = (tt, tt)
  of-kind thematic_break line lines h q = (tt, tt)
  of-kind text line lines h q = let n = suc (lines_until (ends_text on) lines) in of-content (take n (line ∷ lines)) (drop n (line ∷ lines)) (all-drop n (line ∷ lines) h)

  pub of-blocks : (bound : ℕ) (lines : List Line) → AllByRecursion IsLaid lines → AllByRecursion IsRanked (blocks_in on bound lines)
  of-blocks zero lines h = tt
  of-blocks (suc bound) [] h = tt
  of-blocks (suc bound) (line ∷ lines) h =
      let kind = line_kind on (text_of line) in
      let n = (block_of_kind on kind line lines).1 in
      (of-kind kind line lines h refl, of-blocks bound (drop n (line ∷ lines)) (all-drop n (line ∷ lines) h))
