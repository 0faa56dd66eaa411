-- At a rest leaf blocks are cut apart.
use Rattle.mddocument_parts.proofs.Prelude.{Bool, Constructs, Fence, HtmlKind, LeafBlock, Line, LineKind, List, None, Option, RestsCutBlocks, RestsForget, Some, WideRestsCutBlocks, [], and-left, and-right, ap, arith, begins_near, blank, block_of_kind, blocks_in, closes, cond, content_at, cut, drop, drop-append-le, drop_all, ends, ends_text, false, fence, fenced_code, further-within, further_code, goes_on, has_line, heading, html, html_block, html_block_at, indented, indented_code, inl, inr, interrupts, is_blank, is_blank_line, is_indented, is_open, is_some, kind_of_line, last_passes, leaf_blocks, length, length-append, length-drop, length-take, line_kind, lines_through, lines_until, lt-ltb, ltb-false, ltb-true, nat_le, nat_lt, not, not-false, not-true, or-true, or_parts, paragraph, prefix_len-le-length, refl, setext_heading, suc, sym, take, take-append-le, text, text_of, thematic_break, true, underline_rank, underlined, waits_for_blank, zero, ℕ, ◌&&◌, ◌++◌, ◌+◌, ◌<◌, ◌||◌, ◌∙◌, ◌∷◌, ◌≡◌, ◌≤◌, ◌⊎◌}
use Rattle.markdown_base.proofs.Facts.Lists.{begins-inside}

-- ==== The bound of `blocks_in` is enough where it is at least the number of lines: more changes nothing.
module _ (on : Constructs) where
  pub fuel : (b c : ℕ) (lines : List Line) → length lines ≤ b → length lines ≤ c → blocks_in on b lines ≡ blocks_in on c lines
  fuel zero zero lines l m = refl
  fuel zero (suc c) [] l m = refl
  fuel zero (suc c) (line ∷ lines) l m = absurd (omega (arith, l))
  fuel (suc b) zero [] l m = refl
  fuel (suc b) zero (line ∷ lines) l m = absurd (omega (arith, m))
  fuel (suc b) (suc c) [] l m = refl
  fuel (suc b) (suc c) (line ∷ lines) l m =
      let all = line ∷ lines in
      let n = (block_of_kind on (line_kind on (text_of line)) line lines).1 in
      let some = (cut on line lines).some in
      ap (λ r. (block_of_kind on (line_kind on (text_of line)) line lines).0 ∷ r) (fuel b c (drop n all) (omega (arith, length-drop n all, some, l)) (omega (arith, length-drop n all, some, m)))

  pub enough : (b : ℕ) (lines : List Line) → length lines ≤ b → blocks_in on b lines ≡ leaf_blocks on lines
  enough b lines l = fuel b (length lines) lines l (omega arith)

-- ==== A block that ends before the end of its lines, or does not go on with what comes there, is the same with more lines behind.
-- ---- the first line that passes a test

module _ (test : Line → Bool) where
  -- it is the same with more lines behind
  until-same : (lines more : List Line) → lines_until test lines < length lines → lines_until test (lines ++ more) ≡ lines_until test lines
  until-same [] more h = absurd (omega (arith, h))
  until-same (line ∷ lines) more h = elim (test line) as (λ b. cond (not b) (1 + lines_until test lines) 0 < suc (length lines) → cond (not b) (1 + lines_until test (lines ++ more)) 0 ≡ cond (not b) (1 + lines_until test lines) 0) [
    | true ↦ λ h. refl
    | false ↦ λ h. ap (λ n. 1 + n) (until-same lines more (omega (arith, h)))
  ] h

  -- or it is the first that comes behind
  until-behind : (lines : List Line) (l : Line) (behind : List Line) → length lines ≤ lines_until test lines → test l ≡ true → lines_until test (lines ++ l ∷ behind) ≡ length lines
  until-behind [] l behind h is = ap (λ b. cond (not b) (1 + lines_until test behind) 0) is
  until-behind (line ∷ lines) l behind h is = elim (test line) as (λ b. suc (length lines) ≤ cond (not b) (1 + lines_until test lines) 0 → cond (not b) (1 + lines_until test (lines ++ l ∷ behind)) 0 ≡ suc (length lines)) [
    | true ↦ λ h. absurd (omega (arith, h))
    | false ↦ λ h. let rest = until-behind lines l behind (omega (arith, h)) is in omega (arith, rest)
  ] h

-- a blank line
abbrev pub blank_text : Line → Bool
blank_text line = is_blank_line (text_of line)

module _ (test : List ℕ → Bool) where
  abbrev of_text : Line → Bool
  of_text line = test (text_of line)

  through-same : (lines more : List Line) → lines_until of_text lines < length lines → lines_through test (lines ++ more) ≡ lines_through test lines
  through-same lines more h = let same = until-same of_text lines more h in let long = length-append lines more in omega (arith, h, same, long)

  has-same : (lines more : List Line) → lines_until of_text lines < length lines → has_line test (lines ++ more) ≡ has_line test lines
  has-same lines more h =
      let same = until-same of_text lines more h in
      let long = length-append lines more in
      lt-ltb (lines_until of_text (lines ++ more)) (length (lines ++ more)) (omega (arith, h, same, long)) ∙ sym (lt-ltb (lines_until of_text lines) (length lines) h)

-- the front is the same with more lines behind
taken : (n m : ℕ) (all more : List Line) → n ≡ m → m ≤ length all → take n (all ++ more) ≡ take m all
taken n m all more e within = ap (λ k. take k (all ++ more)) e ∙ take-append-le m all more within

module _ (on : Constructs) where
  -- a block that has all lines so far does not go on with this line, or it ends before
  abbrev pub StandsApart : Line → LeafBlock × ℕ → List Line → Type 0
  StandsApart l c all = (c.1 < length all) ⊎ (goes_on on c.0 l ≡ false)

  underlined-same : (lines behind more : List Line) → 1 ≤ length behind → underlined on lines (behind ++ more) ≡ underlined on lines behind
  underlined-same lines [] more h = absurd (omega (arith, h))
  underlined-same lines (next ∷ behind) more h = refl

  module _ (l : Line) (behind : List Line) where
    not-underlined : (lines : List Line) → is_some (underline_rank on (text_of l)) ≡ false → underlined on lines (l ∷ behind) ≡ (paragraph lines, length lines)
    not-underlined lines h = by-rank (underline_rank on (text_of l)) h
      where
        by-rank : (rank : Option ℕ) → is_some rank ≡ false → let u : LeafBlock × ℕ = elim rank [ None ↦ (paragraph lines, length lines) | Some rank ↦ (setext_heading rank lines l, suc (length lines)) ] in u ≡ (paragraph lines, length lines)
        by-rank None h = refl
        by-rank (Some rank) h = absurd (cc)

    -- indented code does not go on behind its lines
    no-further : (k : LineKind) → begins_near k ≡ true → (f : ℕ) → cond (is_indented on k) (suc f) (cond (is_blank on k && nat_le 1 f) (suc f) 0) ≡ 0
    no-further blank h f = absurd (cc)
    no-further indented h f = absurd (cc)
    no-further k h f = refl

    further-same : begins_near (kind_of_line on l) ≡ true → (lines : List Line) → further_code on (lines ++ l ∷ behind) ≡ further_code on lines
    further-same near [] = no-further (kind_of_line on l) near (further_code on behind)
    further-same near (line ∷ lines) = let k = kind_of_line on line in ap (λ f. cond (is_indented on k) (suc f) (cond (is_blank on k && nat_le 1 f) (suc f) 0)) (further-same near lines)

    -- a paragraph, or a setext heading
    content-within : (line : Line) (lines : List Line) → lines_until (ends_text on) lines < length lines → content_at on (line ∷ lines ++ l ∷ behind) ≡ content_at on (line ∷ lines)
    content-within line lines h =
        let ends = ends_text on in
        let all = line ∷ lines in
        let more = l ∷ behind in
        let n = suc (lines_until ends lines) in
        let same : suc (lines_until ends (lines ++ more)) ≡ n = ap suc (until-same ends lines more h) in
        (λ i. underlined on (taken (suc (lines_until ends (lines ++ more))) n all more same (omega (arith, h)) i) (drop (same i) (all ++ more)))
        ∙ ap (λ d. underlined on (take n all) d) (drop-append-le n all more (omega (arith, h)))
        ∙ underlined-same (take n all) (drop n all) more (omega (arith, h, length-drop n all))

    content-all : (line : Line) (lines : List Line) → length lines ≤ lines_until (ends_text on) lines → content_at on (line ∷ lines) ≡ (paragraph (take (suc (lines_until (ends_text on) lines)) (line ∷ lines)), suc (length lines))
    content-all line lines h =
        let ends = ends_text on in
        let all = line ∷ lines in
        let n = suc (lines_until ends lines) in
        let few = prefix_len-le-length (λ (l : Line). not (ends l)) lines in
        let long : length (take n all) ≡ suc (length lines) = omega (arith, h, few, length-take n all) in
        ap (λ d. underlined on (take n all) d) (drop_all n all (omega (arith, h))) ∙ ap (λ m. let u : LeafBlock × ℕ = (paragraph (take n all), m) in u) long

    content-behind : (line : Line) (lines : List Line) → length lines ≤ lines_until (ends_text on) lines → interrupts (kind_of_line on l) ≡ true → is_some (underline_rank on (text_of l)) ≡ false
        → content_at on (line ∷ lines ++ l ∷ behind) ≡ content_at on (line ∷ lines)
    content-behind line lines h ends_here none =
        let ends = ends_text on in
        let all = line ∷ lines in
        let more = l ∷ behind in
        let n = suc (lines_until ends lines) in
        let few = prefix_len-le-length (λ (l : Line). not (ends l)) lines in
        let there = until-behind ends lines l behind h (ap (λ b. is_some (underline_rank on (text_of l)) || b) ends_here ∙ or-true (is_some (underline_rank on (text_of l)))) in
        let same : suc (lines_until ends (lines ++ more)) ≡ n = omega (arith, there, h, few) in
        let long : length (take n all) ≡ suc (length lines) = omega (arith, h, few, length-take n all) in
        (λ i. underlined on (taken (suc (lines_until ends (lines ++ more))) n all more same (omega (arith, few)) i) (drop (same i) (all ++ more)))
        ∙ ap (λ d. underlined on (take n all) d) (drop-append-le n all more (omega (arith, few)) ∙ ap (λ d. d ++ more) (drop_all n all (omega (arith, h))))
        ∙ not-underlined (take n all) none
        ∙ ap (λ m. let u : LeafBlock × ℕ = (paragraph (take n all), m) in u) long
        ∙ sym (content-all line lines h)

    content-same : (line : Line) (lines : List Line) → StandsApart l (content_at on (line ∷ lines)) (line ∷ lines) → content_at on (line ∷ lines ++ l ∷ behind) ≡ content_at on (line ∷ lines)
    content-same line lines apart = elim (nat_lt p (length lines)) as (λ b. nat_lt p (length lines) ≡ b → content_at on (line ∷ lines ++ l ∷ behind) ≡ content_at on (line ∷ lines)) [
      | true ↦ λ e. content-within line lines (ltb-true p (length lines) e)
      | false ↦ λ e. at-end (ltb-false p (length lines) e) apart
    ] refl
      where
        p : ℕ
        p = lines_until (ends_text on) lines

        at-end : length lines ≤ lines_until (ends_text on) lines → StandsApart l (content_at on (line ∷ lines)) (line ∷ lines) → content_at on (line ∷ lines ++ l ∷ behind) ≡ content_at on (line ∷ lines)
        at-end h (inl short) = let n = ap (λ c. c.1) (content-all line lines h) in absurd (omega (arith, short, n))
        at-end h (inr stays) =
            let none : (not (interrupts (kind_of_line on l)) || is_some (underline_rank on (text_of l))) ≡ false = sym (ap (λ c. goes_on on c.0 l) (content-all line lines h)) ∙ stays in
            content-behind line lines h (not-false (interrupts (kind_of_line on l)) (or_parts _ _ none).0) (or_parts _ _ none).1

    -- fenced code
    fence-same : (f : Fence) (line : Line) (lines : List Line) → StandsApart l (block_of_kind on (fence f) line lines) (line ∷ lines) → block_of_kind on (fence f) line (lines ++ l ∷ behind) ≡ block_of_kind on (fence f) line lines
    fence-same f line lines apart =
        let test = closes on f in
        let h = within apart in
        let through = through-same test lines (l ∷ behind) h in
        (λ i. (fenced_code f (has-same test lines (l ∷ behind) h i) (taken (suc (lines_through test (lines ++ l ∷ behind))) (suc (lines_through test lines)) (line ∷ lines) (l ∷ behind) (ap suc through) (omega arith) i), suc (through i)))
      where
        within : StandsApart l (block_of_kind on (fence f) line lines) (line ∷ lines) → lines_until (of_text (closes on f)) lines < length lines
        within (inl short) = omega (arith, short)
        within (inr stays) = ltb-true (lines_until (of_text (closes on f)) lines) (length lines) (not-false _ stays)

    -- HTML that waits for a blank line
    html-blank-same : (kind : HtmlKind) (line : Line) (lines : List Line) → lines_until blank_text (line ∷ lines) < length (line ∷ lines) → (b c : Bool)
        → let p = lines_until blank_text (line ∷ lines ++ l ∷ behind) in let q = lines_until blank_text (line ∷ lines) in
        let left : LeafBlock × ℕ = (html_block kind (true || b) (take p (line ∷ lines ++ l ∷ behind)), p) in let right : LeafBlock × ℕ = (html_block kind (true || c) (take q (line ∷ lines)), q) in left ≡ right
    html-blank-same kind line lines h b c =
        let same = until-same blank_text (line ∷ lines) (l ∷ behind) h in
        (λ i. (html_block kind true (taken (lines_until blank_text (line ∷ lines ++ l ∷ behind)) (lines_until blank_text (line ∷ lines)) (line ∷ lines) (l ∷ behind) same (omega (arith, h)) i), same i))

    html-end-same : (kind : HtmlKind) (test : List ℕ → Bool) (all : List Line) → lines_until (of_text test) all < length all
        → let p = lines_through test (all ++ l ∷ behind) in let q = lines_through test all in
        let left : LeafBlock × ℕ = (html_block kind (false || has_line test (all ++ l ∷ behind)) (take p (all ++ l ∷ behind)), p) in let right : LeafBlock × ℕ = (html_block kind (false || has_line test all) (take q all), q) in left ≡ right
    html-end-same kind test all h =
        let same = through-same test all (l ∷ behind) h in
        (λ i. (html_block kind (has-same test all (l ∷ behind) h i) (taken (lines_through test (all ++ l ∷ behind)) (lines_through test all) all (l ∷ behind) same (omega arith) i), same i))

    html-same : (kind : HtmlKind) (line : Line) (lines : List Line) → StandsApart l (html_block_at on kind (line ∷ lines)) (line ∷ lines)
        → html_block_at on kind (line ∷ lines ++ l ∷ behind) ≡ html_block_at on kind (line ∷ lines)
    html-same kind line lines apart = by (waits_for_blank kind) refl apart
      where
        at : Bool → List Line → LeafBlock × ℕ
        at b all = let n = cond b (lines_until blank_text all) (lines_through (ends kind) all) in (html_block kind (b || has_line (ends kind) all) (take n all), n)

        by : (b : Bool) → waits_for_blank kind ≡ b → StandsApart l (at b (line ∷ lines)) (line ∷ lines) → at b (line ∷ lines ++ l ∷ behind) ≡ at b (line ∷ lines)
        by true e (inl short) = html-blank-same kind line lines short (has_line (ends kind) (line ∷ lines ++ l ∷ behind)) (has_line (ends kind) (line ∷ lines))
        by true e (inr stays) = absurd (let both : true ≡ false = sym e ∙ stays in cc)
        by false e (inl short) = html-end-same kind (ends kind) (line ∷ lines) (omega (arith, short))
        by false e (inr stays) = html-end-same kind (ends kind) (line ∷ lines) (ltb-true (lines_until (of_text (ends kind)) (line ∷ lines)) (length (line ∷ lines)) (not-false _ (or_parts _ _ stays).0))

    -- each block
    block-same : begins_near (kind_of_line on l) ≡ true → (kind : LineKind) (line : Line) (lines : List Line) → kind_of_line on line ≡ kind → StandsApart l (block_of_kind on kind line lines) (line ∷ lines)
        → block_of_kind on kind line (lines ++ l ∷ behind) ≡ block_of_kind on kind line lines
    block-same near blank line lines is apart = refl
    block-same near indented line lines is apart =
        let same = further-same near lines in
        let few = further-within on lines in
        (λ i. (indented_code (taken (suc (further_code on (lines ++ l ∷ behind))) (suc (further_code on lines)) (line ∷ lines) (l ∷ behind) (ap suc same) (omega (arith, few)) i), suc (same i)))
    block-same near heading line lines is apart = refl
    block-same near (fence f) line lines is apart = fence-same f line lines apart
    block-same near (html kind) line lines is apart = html-same kind line lines apart
    block-same near thematic_break line lines is apart = refl
    block-same near text line lines is apart = content-same line lines apart

    -- the block at the front of lines
    pub front-same : begins_near (kind_of_line on l) ≡ true → (line : Line) (lines : List Line) → StandsApart l (block_of_kind on (kind_of_line on line) line lines) (line ∷ lines)
        → block_of_kind on (kind_of_line on line) line (lines ++ l ∷ behind) ≡ block_of_kind on (kind_of_line on line) line lines
    front-same near line lines apart = block-same near (kind_of_line on line) line lines refl apart

-- ==== At a rest leaf blocks are cut apart.
module _ (on : Constructs) where
  -- the front, and the blocks behind it
  pub leaf-step : (line : Line) (lines : List Line) → let c = block_of_kind on (kind_of_line on line) line lines in leaf_blocks on (line ∷ lines) ≡ c.0 ∷ leaf_blocks on (drop c.1 (line ∷ lines))
  leaf-step line lines =
      let c = block_of_kind on (kind_of_line on line) line lines in
      let some = (cut on line lines).some in
      ap (λ r. c.0 ∷ r) (enough on (length lines) (drop c.1 (line ∷ lines)) (omega (arith, length-drop c.1 (line ∷ lines), some)))

  module _ (l : Line) (behind : List Line) (near : begins_near (kind_of_line on l) ≡ true) where
    abbrev joins : LeafBlock → Bool
    joins block = goes_on on block l

    -- the front stands apart, and what comes behind it does
    by-rest : (c : LeafBlock × ℕ) (all rest : List Line) → drop c.1 all ≡ rest → last_passes on joins (c.0 ∷ leaf_blocks on rest) ≡ false → StandsApart on l c all × (last_passes on joins (leaf_blocks on rest) ≡ false)
    by-rest c all [] e h = (inr h, refl)
    by-rest c all (next ∷ more) e h = (inl (begins-inside c.1 all next more e), h)

    apart : (bound : ℕ) (lines : List Line) → length lines ≤ bound → last_passes on joins (leaf_blocks on lines) ≡ false → leaf_blocks on (lines ++ l ∷ behind) ≡ leaf_blocks on lines ++ leaf_blocks on (l ∷ behind)
    apart bound [] long h = refl
    apart zero (line ∷ lines) long h = absurd (omega (arith, long))
    apart (suc bound) (line ∷ lines) long h =
        let all = line ∷ lines in
        let more = l ∷ behind in
        let c = block_of_kind on (kind_of_line on line) line lines in
        let step = leaf-step line lines in
        let is = cut on line lines in
        let some = is.some in
        let stands = by-rest c all (drop c.1 all) refl (sym (ap (λ bs. last_passes on joins bs) step) ∙ h) in
        let same = front-same on l behind near line lines stands.0 in
        leaf-step line (lines ++ more)
        ∙ ap (λ d. d.0 ∷ leaf_blocks on (drop d.1 (all ++ more))) same
        ∙ ap (λ d. c.0 ∷ leaf_blocks on d) (drop-append-le c.1 all more is.within)
        ∙ ap (λ bs. c.0 ∷ bs) (apart bound (drop c.1 all) (omega (arith, length-drop c.1 all, some, long)) stands.1)
        ∙ ap (λ bs. bs ++ leaf_blocks on more) (sym step)

  -- a block that is not open goes on with no line
  closed : (block : LeafBlock) (line : Line) → is_open on block ≡ false → goes_on on block line ≡ false
  closed (paragraph lines) line h = absurd (cc)
  closed (fenced_code f is_closed lines) line h = h
  closed (html_block kind is_closed lines) line h = h
  closed block line h = refl

  last-closed : (line : Line) (blocks : List LeafBlock) → last_passes on (is_open on) blocks ≡ false → last_passes on (λ block. goes_on on block line) blocks ≡ false
  last-closed line [] h = refl
  last-closed line (block ∷ []) h = closed block line h
  last-closed line (block ∷ next ∷ blocks) h = last-closed line (next ∷ blocks) h

  pub last-append : (test : LeafBlock → Bool) (blocks : List LeafBlock) (next : LeafBlock) (more : List LeafBlock) → last_passes on test (blocks ++ next ∷ more) ≡ last_passes on test (next ∷ more)
  last-append test [] next more = refl
  last-append test (block ∷ []) next more = refl
  last-append test (block ∷ other ∷ blocks) next more = last-append test (other ∷ blocks) next more

pub wide-rests-cut-blocks : WideRestsCutBlocks
wide-rests-cut-blocks on before line behind h = apart on line behind (and-left _ _ h) (length before) before (omega arith) (not-true _ (and-right _ _ h))

pub rests-cut-blocks : RestsCutBlocks
rests-cut-blocks on before line behind h = apart on line behind (and-left _ _ h) (length before) before (omega arith) (last-closed on line (leaf_blocks on before) (not-true _ (and-right _ _ h)))

pub rests-forget : RestsForget
rests-forget on before line behind next h =
    ap (λ b. begins_near (kind_of_line on next) && not b)
    (ap (λ bs. last_passes on (is_open on) bs) (rests-cut-blocks on before line behind h)
    ∙ last-append on (is_open on) (leaf_blocks on before) _ _)
