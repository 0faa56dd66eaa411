-- The leaf block that may go on behind lines, where no container begins; and which of the lines are left blank. The lines of a block are not left
-- blank, but for a blank line alone, and behind them the leaf is open if the block is.
use Rattle.mddocument_parts.proofs.Prelude.{◌≡◌, ℕ, zero, suc, ◌+◌, ◌≤◌, ◌&&◌, ◌||◌, nat_le, List, [], ◌∷◌, Bool, true, false, cond, not, Option, Some, None, length, take, drop, length-take, refl, sym, ap, ◌∙◌, subst, arith, leb-true, and-false, and-left, and-right, not-false, or_parts, is_some, prefix_len-le-length, Constructs, HtmlKind, ends, waits_for_blank, Line, LeafBlock, break_line, atx_heading, paragraph, setext_heading, fenced_code, html_block, block_of_kind, content_at, ends_text, interrupts, further_code, has_line, is_blank, is_indented, lines_through, lines_until, text_of, underlined, Fence, LineKind, blank, indented, heading, fence, html, thematic_break, text, closes, is_blank_line, line_kind, underline_rank}
use Rattle.std.proofs.lemmas.Bool.{le-leb}
use Rattle.mdblock_leaf_blocks.proofs.Lines.LineCounts.{has-one-more, has-there, none-left, some-through, through-one-more, through-there}
use Rattle.mdblock_leaf_blocks.proofs.Lines.TestedKinds.{underline-kind}
use Rattle.mdblock_leaf_blocks.proofs.Marks.FullBlocks.{IsOfText, not-blank}
use Rattle.mdblock_leaf_blocks.specs.HtmlLines.{html_kind, raw, block_tag, any_tag}
use Rattle.mdblock_leaf_blocks.specs.LineKinds.{is_atx_heading, is_fence_of, is_far, is_thematic_break, kind_of_rest, indent, run, unindented}
use Rattle.mdblock_containers.specs.Rows.{Leaf, closed, open_paragraph, open_fence, open_html, holds_ending, leaf_after, opened_by}
use Rattle.mddocument_parts.proofs.Rests.{blank_text}
use Rattle.mddocument_parts.proofs.WithoutContainers.SameTexts.{by_rank}

-- the last of lines
abbrev pub last_line : List Line → Line
last_line [] = []
last_line (line ∷ []) = line
last_line (line ∷ lines) = last_line lines

-- a block goes on to the end of its lines, and holds their line ending
abbrev pub is_open : LeafBlock → Bool
is_open (fenced_code f is_closed lines) = not is_closed
is_open (html_block kind is_closed lines) = not is_closed
is_open _ = false

-- a line has text
abbrev pub HasText : Line → Type 0
HasText line = text_of line ≡ [] → ⊥

none-blank : (t : List ℕ) → is_blank_line t ≡ false → t ≡ [] → ⊥
none-blank t h e = let both : true ≡ false = sym (ap is_blank_line e) ∙ h in absurd (cc)

module _ (on : Constructs) where
  -- a line is left blank, by the leaf block that may go on before it; and the leaf block that may go on behind it
  abbrev pub is_left : Leaf → Line → Bool
  is_left leaf line = is_blank_line (text_of line) && not (holds_ending leaf)

  abbrev pub leaf_next : Leaf → Line → Leaf
  leaf_next leaf line = cond (is_left leaf line) closed (leaf_after on leaf (text_of line))

  abbrev pub leaf_behind : Leaf → List Line → Leaf
  leaf_behind leaf [] = leaf
  leaf_behind leaf (line ∷ lines) = leaf_behind (leaf_next leaf line) lines

  -- how many lines there are up to the last that is not left blank
  abbrev pub kept : Leaf → List Line → ℕ
  kept leaf [] = 0
  kept leaf (line ∷ lines) = let n = kept (leaf_next leaf line) lines in cond (is_left leaf line) (cond (nat_le 1 n) (suc n) 0) (suc n)

  -- so many lines are kept, whatever comes behind them
  abbrev pub Run : Leaf → ℕ → List Line → Type 0
  Run leaf n lines = kept leaf lines ≡ n + kept (leaf_behind leaf (take n lines)) (drop n lines)

  one-run : (leaf : Leaf) (lines : List Line) → kept leaf lines ≡ 0 + kept leaf lines
  one-run leaf lines = let n = kept leaf lines in omega arith

  -- one line more
  run-more : (n k m : ℕ) → m ≡ suc (n + k) → m ≡ suc n + k
  run-more n k m e = omega (arith, e)

  -- a leaf acts as none before lines
  abbrev pub Acts : Leaf → List Line → Type 0
  Acts leaf [] = Unit {0}
  Acts leaf (line ∷ lines) = (leaf_next leaf line ≡ leaf_next closed line) × (is_left leaf line ≡ is_left closed line)

  pub acts-closed : (leaf : Leaf) (lines : List Line) → leaf ≡ closed → Acts leaf lines
  acts-closed leaf [] e = tt
  acts-closed leaf (line ∷ lines) e = (ap (λ l. leaf_next l line) e, ap (λ l. is_left l line) e)

  pub acts-kept : (leaf : Leaf) (lines : List Line) → Acts leaf lines → kept leaf lines ≡ kept closed lines
  acts-kept leaf [] h = refl
  acts-kept leaf (line ∷ lines) h = (λ i. let n = kept (h.0 i) lines in cond (h.1 i) (cond (nat_le 1 n) (suc n) 0) (suc n))

  pub acts-behind : (leaf : Leaf) (lines front : List Line) (n : ℕ) → Acts leaf lines → front ≡ take (suc n) lines → 1 ≤ length front → leaf_behind leaf front ≡ leaf_behind closed front
  acts-behind leaf [] front n h e some = let none : length front ≡ 0 = ap length e in absurd (omega (arith, none, some))
  acts-behind leaf (line ∷ lines) front n h e some = subst (λ f. leaf_behind leaf f ≡ leaf_behind closed f) (sym e) (ap (λ l. leaf_behind l (take n lines)) h.0)

  -- ---- one line
  -- a line that is not blank is kept
  pub one-kept : (leaf : Leaf) (line : Line) (lines : List Line) → is_left leaf line ≡ false → kept leaf (line ∷ lines) ≡ suc (kept (leaf_next leaf line) lines)
  one-kept leaf line lines h = let n = kept (leaf_next leaf line) lines in ap (λ b. cond b (cond (nat_le 1 n) (suc n) 0) (suc n)) h

  pub not-left : (leaf : Leaf) (line : Line) → is_blank_line (text_of line) ≡ false → is_left leaf line ≡ false
  not-left leaf line h = ap (λ b. b && not (holds_ending leaf)) h

  held-left : (leaf : Leaf) (line : Line) → holds_ending leaf ≡ true → is_left leaf line ≡ false
  held-left leaf line h = ap (λ b. is_blank_line (text_of line) && not b) h ∙ and-false (is_blank_line (text_of line))

  next-kept : (leaf : Leaf) (line : Line) → is_left leaf line ≡ false → leaf_next leaf line ≡ leaf_after on leaf (text_of line)
  next-kept leaf line h = ap (λ b. cond b closed (leaf_after on leaf (text_of line))) h

  -- what a line that is not blank opens
  pub opens : (kind : LineKind) (line : Line) → is_blank_line (text_of line) ≡ false → line_kind on (text_of line) ≡ kind → leaf_next closed line ≡ opened_by on kind (text_of line)
  opens kind line h e = next-kept closed line (not-left closed line h) ∙ ap (λ k. opened_by on k (text_of line)) e

  -- ---- lines up to one that ends a leaf that holds line endings
  module _ (leaf : Leaf) (test : List ℕ → Bool) (holds : holds_ending leaf ≡ true) (after : (t : List ℕ) → leaf_after on leaf t ≡ cond (test t) closed leaf) where
    next-held : (line : Line) → leaf_next leaf line ≡ cond (test (text_of line)) closed leaf
    next-held line = next-kept leaf line (held-left leaf line holds) ∙ after (text_of line)

    pub record Through (lines : List Line) : Type 0 where
      pub run_is : Run leaf (lines_through test lines) lines
      pub leaf_is : leaf_behind leaf (take (lines_through test lines) lines) ≡ cond (has_line test lines) closed leaf

    pub through : (lines : List Line) → Through lines
    through [] = record { run_is = refl; leaf_is = refl }
    through (line ∷ lines) = elim (test (text_of line)) as (λ b. test (text_of line) ≡ b → Through (line ∷ lines)) [
      | true ↦ λ e.
          let n = through-there test line lines e in
          let next : leaf_next leaf line ≡ closed = next-held line ∙ ap (λ b. cond b closed leaf) e in
          record {
            run_is = run-more 0 (kept (leaf_next leaf line) lines) (kept leaf (line ∷ lines)) (one-kept leaf line lines (held-left leaf line holds) ∙ ap suc (one-run (leaf_next leaf line) lines)) ∙ ap (λ n. n + kept (leaf_behind leaf (take n (line ∷ lines))) (drop n (line ∷ lines))) (sym n);
            leaf_is = ap (λ n. leaf_behind leaf (take n (line ∷ lines))) n ∙ next ∙ ap (λ b. cond b closed leaf) (sym (has-there test line lines e));
          }
      | false ↦ λ e.
          let n = through-one-more test line lines e in
          let next : leaf_next leaf line ≡ leaf = next-held line ∙ ap (λ b. cond b closed leaf) e in
          let more = through lines in
          let t = lines_through test lines in
          let run : kept leaf (line ∷ lines) ≡ suc t + kept (leaf_behind (leaf_next leaf line) (take t lines)) (drop t lines) =
          run-more t (kept (leaf_behind (leaf_next leaf line) (take t lines)) (drop t lines)) (kept leaf (line ∷ lines)) (one-kept leaf line lines (held-left leaf line holds) ∙ ap suc (subst (λ l. kept l lines ≡ t + kept (leaf_behind l (take t lines)) (drop t lines)) (sym next) more.run_is)) in
          record {
            run_is = run ∙ ap (λ n. n + kept (leaf_behind leaf (take n (line ∷ lines))) (drop n (line ∷ lines))) (sym n);
            leaf_is = ap (λ n. leaf_behind leaf (take n (line ∷ lines))) n ∙ ap (λ l. leaf_behind l (take t lines)) next ∙ more.leaf_is ∙ ap (λ b. cond b closed leaf) (sym (has-one-more test line lines e));
          }
    ] refl

    pub through-acts : (lines : List Line) → Acts (leaf_behind leaf (take (lines_through test lines) lines)) (drop (lines_through test lines) lines)
    through-acts lines =
        let t = lines_through test lines in
        elim (has_line test lines) as (λ b. has_line test lines ≡ b → Acts (leaf_behind leaf (take t lines)) (drop t lines)) [
          | true ↦ λ e. acts-closed (leaf_behind leaf (take t lines)) (drop t lines) ((through lines).leaf_is ∙ ap (λ b. cond b closed leaf) e)
          | false ↦ λ e. subst (Acts (leaf_behind leaf (take t lines))) (sym (none-left test lines e)) tt
        ] refl

  last-more : (line : Line) (lines : List Line) → 1 ≤ length lines → last_line (line ∷ lines) ≡ last_line lines
  last-more line [] some = absurd (omega (arith, some))
  last-more line (next ∷ lines) some = refl

  -- the last of them passes, if one does
  last-through : (test : List ℕ → Bool) (lines : List Line) → has_line test lines ≡ true → test (text_of (last_line (take (lines_through test lines) lines))) ≡ true
  last-through test [] h = absurd (cc)
  last-through test (line ∷ lines) h = elim (test (text_of line)) as (λ b. test (text_of line) ≡ b → test (text_of (last_line (take (lines_through test (line ∷ lines)) (line ∷ lines)))) ≡ true) [
    | true ↦ λ e. ap (λ n. test (text_of (last_line (take n (line ∷ lines))))) (through-there test line lines e) ∙ e
    | false ↦ λ e.
        let more = sym (has-one-more test line lines e) ∙ h in
        ap (λ n. test (text_of (last_line (take n (line ∷ lines))))) (through-one-more test line lines e)
        ∙ ap (λ l. test (text_of l)) (last-more line (take (lines_through test lines) lines) (some-through test lines more)) ∙ last-through test lines more
  ] refl

  -- ---- lines up to one that is blank, or that ends a paragraph: a leaf that stays over each of them
  module _ (leaf : Leaf) (test : Line → Bool) (goes : (line : Line) → test line ≡ false → (is_blank_line (text_of line) ≡ false) × (leaf_after on leaf (text_of line) ≡ leaf)) where
    until-now : (line : Line) (lines : List Line) → test line ≡ true → lines_until test (line ∷ lines) ≡ 0
    until-now line lines e = ap (λ b. cond (not b) (1 + lines_until test lines) 0) e

    pub until-more : (line : Line) (lines : List Line) → test line ≡ false → lines_until test (line ∷ lines) ≡ suc (lines_until test lines)
    until-more line lines e = ap (λ b. cond (not b) (1 + lines_until test lines) 0) e ∙ omega arith

    pub record Until (lines : List Line) : Type 0 where
      pub run_is : Run leaf (lines_until test lines) lines
      pub leaf_is : leaf_behind leaf (take (lines_until test lines) lines) ≡ leaf

    pub until : (lines : List Line) → Until lines
    until [] = record { run_is = refl; leaf_is = refl }
    until (line ∷ lines) = elim (test line) as (λ b. test line ≡ b → Until (line ∷ lines)) [
      | true ↦ λ e.
          let n = until-now line lines e in
          record {
            run_is = one-run leaf (line ∷ lines) ∙ ap (λ n. n + kept (leaf_behind leaf (take n (line ∷ lines))) (drop n (line ∷ lines))) (sym n);
            leaf_is = ap (λ n. leaf_behind leaf (take n (line ∷ lines))) n;
          }
      | false ↦ λ e.
          let n = until-more line lines e in
          let g = goes line e in
          let left = not-left leaf line g.0 in
          let next : leaf_next leaf line ≡ leaf = next-kept leaf line left ∙ g.1 in
          let more = until lines in
          let t = lines_until test lines in
          let run : kept leaf (line ∷ lines) ≡ suc t + kept (leaf_behind (leaf_next leaf line) (take t lines)) (drop t lines) =
          run-more t (kept (leaf_behind (leaf_next leaf line) (take t lines)) (drop t lines)) (kept leaf (line ∷ lines)) (one-kept leaf line lines left ∙ ap suc (subst (λ l. kept l lines ≡ t + kept (leaf_behind l (take t lines)) (drop t lines)) (sym next) more.run_is)) in
          record {
            run_is = run ∙ ap (λ n. n + kept (leaf_behind leaf (take n (line ∷ lines))) (drop n (line ∷ lines))) (sym n);
            leaf_is = ap (λ n. leaf_behind leaf (take n (line ∷ lines))) n ∙ ap (λ l. leaf_behind l (take t lines)) next ∙ more.leaf_is;
          }
    ] refl

    -- the first that passes
    pub passes : (lines : List Line) (next : Line) (behind : List Line) → drop (lines_until test lines) lines ≡ next ∷ behind → test next ≡ true
    passes [] next behind e = absurd (cc)
    passes (line ∷ lines) next behind e = elim (test line) as (λ b. test line ≡ b → test next ≡ true) [
      | true ↦ λ h. let same : line ∷ lines ≡ next ∷ behind = sym (ap (λ n. drop n (line ∷ lines)) (until-now line lines h)) ∙ e in let one : line ≡ next = cc in ap test (sym one) ∙ h
      | false ↦ λ h. passes lines next behind (sym (ap (λ n. drop n (line ∷ lines)) (until-more line lines h)) ∙ e)
    ] refl

    -- the last before it is not blank, nor is a line before
    pub last-full : (before : Line) (lines : List Line) → is_blank_line (text_of before) ≡ false → is_blank_line (text_of (last_line (before ∷ take (lines_until test lines) lines))) ≡ false
    last-full before [] h = h
    last-full before (line ∷ lines) h = elim (test line) as (λ b. test line ≡ b → is_blank_line (text_of (last_line (before ∷ take (lines_until test (line ∷ lines)) (line ∷ lines)))) ≡ false) [
      | true ↦ λ e. ap (λ n. is_blank_line (text_of (last_line (before ∷ take n (line ∷ lines))))) (until-now line lines e) ∙ h
      | false ↦ λ e. ap (λ n. is_blank_line (text_of (last_line (before ∷ take n (line ∷ lines))))) (until-more line lines e) ∙ last-full line lines (goes line e).0
    ] refl

  -- ---- the block at the front of lines
  -- Its lines are kept, and behind them the leaf is open if the block is, and acts as none
  pub record Front (c : LeafBlock × ℕ) (all : List Line) : Type 0 where
    pub run_is : Run closed c.1 all
    pub open_is : holds_ending (leaf_behind closed (take c.1 all)) ≡ is_open c.0
    pub acts : Acts (leaf_behind closed (take c.1 all)) (drop c.1 all)
    pub text_is : is_open c.0 ≡ false → HasText (last_line (take c.1 all))

  -- a line that is not blank, and the lines behind it
  first-run : (line : Line) (lines : List Line) → is_blank_line (text_of line) ≡ false → Run closed 1 (line ∷ lines)
  first-run line lines full = run-more 0 (kept (leaf_next closed line) lines) (kept closed (line ∷ lines)) (one-kept closed line lines (not-left closed line full) ∙ ap suc (one-run (leaf_next closed line) lines))

  next-run : (leaf : Leaf) (t : ℕ) (line : Line) (lines : List Line) → is_blank_line (text_of line) ≡ false → leaf_next closed line ≡ leaf → Run leaf t lines → Run closed (suc t) (line ∷ lines)
  next-run leaf t line lines full next run =
      run-more t (kept (leaf_behind (leaf_next closed line) (take t lines)) (drop t lines)) (kept closed (line ∷ lines))
      (one-kept closed line lines (not-left closed line full) ∙ ap suc (subst (λ l. kept l lines ≡ t + kept (leaf_behind l (take t lines)) (drop t lines)) (sym next) run))

  -- one line, which opens nothing
  alone : (block : LeafBlock) (line : Line) (lines : List Line) → is_blank_line (text_of line) ≡ false → leaf_next closed line ≡ closed → is_open block ≡ false → Front (block, 1) (line ∷ lines)
  alone block line lines full next shut = record {
    run_is = first-run line lines full;
    open_is = ap holds_ending next ∙ sym shut;
    acts = acts-closed (leaf_next closed line) lines next;
    text_is = λ h. none-blank (text_of line) full;
  }

  indented-full : (t : List ℕ) → is_indented on (line_kind on t) ≡ true → is_blank_line t ≡ false
  indented-full t = elim (is_blank_line t) as (λ b. is_indented on (cond b blank (cond (is_far on t) indented (kind_of_rest on (indent t) (unindented t)))) ≡ true → b ≡ false) [
    | true ↦ λ h. absurd (cc)
    | false ↦ λ h. refl
  ]

  -- what holds of each kind of line from its first byte on that is not white space
  rest-holds : (P : LineKind → Type 0) → P heading → ((byte columns : ℕ) (r : List ℕ) → is_fence_of byte r ≡ true → P (fence (record { byte = byte; size = run byte r; indent = columns }))) → ((kind : HtmlKind) → P (html kind)) → P thematic_break → P text
      → (columns : ℕ) (r : List ℕ) → P (kind_of_rest on columns r)
  rest-holds P heads fences htmls breaks texts columns r =
      elim (on.heading_atx && is_atx_heading r) as (λ b. P (cond b heading (with_fence r))) [
        | true ↦ heads
        | false ↦ elim (on.code_fenced && is_fence_of 96 r) as (λ b. (on.code_fenced && is_fence_of 96 r) ≡ b → P (cond b (fence (record { byte = 96; size = run 96 r; indent = columns })) (with_tildes r))) [
          | true ↦ λ e. fences 96 columns r (and-right on.code_fenced (is_fence_of 96 r) e)
          | false ↦ λ e. elim (on.code_fenced && is_fence_of 126 r) as (λ b. (on.code_fenced && is_fence_of 126 r) ≡ b → P (cond b (fence (record { byte = 126; size = run 126 r; indent = columns })) (with_html r (cond on.html_flow (html_kind r) None)))) [
            | true ↦ λ e. fences 126 columns r (and-right on.code_fenced (is_fence_of 126 r) e)
            | false ↦ λ e. by-html (cond on.html_flow (html_kind r) None)
          ] refl
        ] refl
      ]
    where
      with_html : List ℕ → Option HtmlKind → LineKind
      with_html r found = elim found [ Some kind ↦ html kind | None ↦ cond (on.thematic_break && is_thematic_break r) thematic_break text ]

      with_tildes : List ℕ → LineKind
      with_tildes r = cond (on.code_fenced && is_fence_of 126 r) (fence (record { byte = 126; size = run 126 r; indent = columns })) (with_html r (cond on.html_flow (html_kind r) None))

      with_fence : List ℕ → LineKind
      with_fence r = cond (on.code_fenced && is_fence_of 96 r) (fence (record { byte = 96; size = run 96 r; indent = columns })) (with_tildes r)

      by-html : (found : Option HtmlKind) → P (with_html r found)
      by-html (Some kind) = htmls kind
      by-html None = elim (on.thematic_break && is_thematic_break r) as (λ b. P (cond b thematic_break text)) [ true ↦ breaks | false ↦ texts ]

  -- a kind other than a blank line is that of a line that is not blank
  abbrev NoBlank : LineKind → Type 0
  NoBlank kind = is_blank on kind ≡ true → ⊥

  pub blank-is : (t : List ℕ) → is_blank on (line_kind on t) ≡ true → is_blank_line t ≡ true
  blank-is t = elim (is_blank_line t) as (λ b. is_blank on (cond b blank (cond (is_far on t) indented (kind_of_rest on (indent t) (unindented t)))) ≡ true → b ≡ true) [
    | true ↦ λ h. refl
    | false ↦ λ h. absurd (not-so (is_far on t) h)
  ]
    where
      not-so : (b : Bool) → NoBlank (cond b indented (kind_of_rest on (indent t) (unindented t)))
      not-so true h = absurd (cc)
      not-so false h = rest-holds NoBlank (λ h. absurd (cc)) (λ byte columns r is h. absurd (cc)) (λ kind h. absurd (cc)) (λ h. absurd (cc)) (λ h. absurd (cc)) (indent t) (unindented t) h

  -- a fence has three bytes at least
  abbrev IsLong : LineKind → Type 0
  IsLong kind = (f : Fence) → kind ≡ fence f → 3 ≤ f.size

  pub fence-long : (t : List ℕ) → IsLong (line_kind on t)
  fence-long t = elim (is_blank_line t) as (λ b. IsLong (cond b blank (cond (is_far on t) indented (kind_of_rest on (indent t) (unindented t))))) [
    | true ↦ λ f e. absurd (cc)
    | false ↦ elim (is_far on t) as (λ b. IsLong (cond b indented (kind_of_rest on (indent t) (unindented t)))) [
      | true ↦ λ f e. absurd (cc)
      | false ↦ rest-holds IsLong (λ f e. absurd (cc)) fences (λ kind f e. absurd (cc)) (λ f e. absurd (cc)) (λ f e. absurd (cc)) (indent t) (unindented t)
    ]
  ]
    where
      fences : (byte columns : ℕ) (r : List ℕ) → is_fence_of byte r ≡ true → IsLong (fence (record { byte = byte; size = run byte r; indent = columns }))
      fences byte columns r is f e =
          let g : Fence = record { byte = byte; size = run byte r; indent = columns } in
          let same : g ≡ f = cc in
          subst (λ (h : Fence). 3 ≤ h.size) same (leb-true 3 (run byte r) (and-left (nat_le 3 (run byte r)) _ is))

  pub closing-text : (f : Fence) (t : List ℕ) → 3 ≤ f.size → closes on f t ≡ true → t ≡ [] → ⊥
  closing-text f t long is e =
      let none : closes on f [] ≡ true = subst (λ t. closes on f t ≡ true) e is in
      let few = leb-true f.size 0 (and-left (nat_le f.size 0) _ (and-right (not (is_far on [])) _ none)) in
      omega (arith, long, few)

  -- indented code, with blank lines in it
  code-run : (lines : List Line) → Run closed (further_code on lines) lines × (leaf_behind closed (take (further_code on lines) lines) ≡ closed)
  code-run [] = (refl, refl)
  code-run (line ∷ lines) = by (is_indented on (line_kind on (text_of line))) (is_blank on (line_kind on (text_of line))) refl refl (further_code on lines) (nat_le 1 (further_code on lines)) refl (code-run lines)
    where
      Is : ℕ → Type 0
      Is n = Run closed n (line ∷ lines) × (leaf_behind closed (take n (line ∷ lines)) ≡ closed)

      More : ℕ → Type 0
      More f = Run closed f lines × (leaf_behind closed (take f lines) ≡ closed)

      kind-is : (k : LineKind) → is_indented on k ≡ true → k ≡ indented
      kind-is indented h = refl
      kind-is k h = absurd (cc)

      by : (b c : Bool) → is_indented on (line_kind on (text_of line)) ≡ b → is_blank on (line_kind on (text_of line)) ≡ c → (f : ℕ) (d : Bool) → nat_le 1 f ≡ d → More f → Is (cond b (suc f) (cond (c && d) (suc f) 0))
      by true c e k f d l more =
          let full = indented-full (text_of line) e in
          let next : leaf_next closed line ≡ closed = opens indented line full (kind-is (line_kind on (text_of line)) e) in
          (next-run closed f line lines full next more.0, ap (λ l. leaf_behind l (take f lines)) next ∙ more.1)
      by false false e k f d l more = (one-run closed (line ∷ lines), refl)
      by false true e k f false l more = (one-run closed (line ∷ lines), refl)
      by false true e k f true l more =
          let some = leb-true 1 f l in
          let run = more.0 in
          let left : is_left closed line ≡ true = ap (λ b. b && true) (blank-is (text_of line) k) in
          let next : leaf_next closed line ≡ closed = ap (λ b. cond b closed (leaf_after on closed (text_of line))) left in
          let n = kept closed lines in
          let there : nat_le 1 n ≡ true = le-leb 1 n (omega (arith, some, run)) in
          let first : kept closed (line ∷ lines) ≡ cond (nat_le 1 n) (suc n) 0 = (λ i. let n = kept (next i) lines in cond (left i) (cond (nat_le 1 n) (suc n) 0) (suc n)) in
          let second : cond (nat_le 1 n) (suc n) 0 ≡ suc n = ap (λ b. cond b (suc n) 0) there in (
            run-more f (kept (leaf_behind (leaf_next closed line) (take f lines)) (drop f lines)) (kept closed (line ∷ lines))
                (first ∙ second ∙ ap suc (subst (λ l. n ≡ f + kept (leaf_behind l (take f lines)) (drop f lines)) (sym next) run)),
            ap (λ l. leaf_behind l (take f lines)) next ∙ more.1,
          )

  -- the last of it is indented
  code-more : (lines : List Line) → 1 ≤ further_code on lines → (before : Line) → is_blank_line (text_of (last_line (before ∷ take (further_code on lines) lines))) ≡ false
  code-more [] some before = absurd (omega (arith, some))
  code-more (line ∷ lines) some before = by (is_indented on (line_kind on (text_of line))) (is_blank on (line_kind on (text_of line))) refl (further_code on lines) (nat_le 1 (further_code on lines)) refl (code-more lines) some
    where
      by : (b c : Bool) → is_indented on (line_kind on (text_of line)) ≡ b → (f : ℕ) (d : Bool) → nat_le 1 f ≡ d → (1 ≤ f → (before : Line) → is_blank_line (text_of (last_line (before ∷ take f lines))) ≡ false)
          → 1 ≤ cond b (suc f) (cond (c && d) (suc f) 0) → is_blank_line (text_of (last_line (before ∷ take (cond b (suc f) (cond (c && d) (suc f) 0)) (line ∷ lines)))) ≡ false
      by true c e zero d l more some = indented-full (text_of line) e
      by true c e (suc f) d l more some = more (omega arith) line
      by false false e f d l more some = absurd (omega (arith, some))
      by false true e f false l more some = absurd (omega (arith, some))
      by false true e f true l more some = more (leb-true 1 f l) line

  code-last : (before : Line) (lines : List Line) → is_blank_line (text_of before) ≡ false → is_blank_line (text_of (last_line (before ∷ take (further_code on lines) lines))) ≡ false
  code-last before lines h = by (further_code on lines) (code-more lines)
    where
      by : (f : ℕ) → (1 ≤ f → (before : Line) → is_blank_line (text_of (last_line (before ∷ take f lines))) ≡ false) → is_blank_line (text_of (last_line (before ∷ take f lines))) ≡ false
      by zero more = h
      by (suc f) more = more (omega arith) before

  code-front : (line : Line) (lines : List Line) → is_blank_line (text_of line) ≡ false → line_kind on (text_of line) ≡ indented → Front (block_of_kind on indented line lines) (line ∷ lines)
  code-front line lines full kind =
      let f = further_code on lines in
      let next : leaf_next closed line ≡ closed = opens indented line full kind in
      let run = code-run lines in
      let leaf : leaf_behind closed (take (suc f) (line ∷ lines)) ≡ closed = ap (λ l. leaf_behind l (take f lines)) next ∙ run.1 in
      record {
        run_is = next-run closed f line lines full next run.0;
        open_is = ap holds_ending leaf;
        acts = acts-closed (leaf_behind closed (take (suc f) (line ∷ lines))) (drop f lines) leaf;
        text_is = λ h. none-blank (text_of (last_line (take (suc f) (line ∷ lines)))) (code-last line lines full);
      }

  -- fenced code
  shut-fence : (f : Fence) (b : Bool) → holds_ending (cond b closed (open_fence f)) ≡ not b
  shut-fence f true = refl
  shut-fence f false = refl

  fence-front : (f : Fence) (line : Line) (lines : List Line) → is_blank_line (text_of line) ≡ false → line_kind on (text_of line) ≡ fence f → Front (block_of_kind on (fence f) line lines) (line ∷ lines)
  fence-front f line lines full kind =
      let t = lines_through (closes on f) lines in
      let next : leaf_next closed line ≡ open_fence f = opens (fence f) line full kind in
      let run = through (open_fence f) (closes on f) refl (λ t. refl) lines in
      let leaf : leaf_behind closed (take (suc t) (line ∷ lines)) ≡ cond (has_line (closes on f) lines) closed (open_fence f) = ap (λ l. leaf_behind l (take t lines)) next ∙ run.leaf_is in
      record {
        run_is = next-run (open_fence f) t line lines full next run.run_is;
        open_is = ap holds_ending leaf ∙ shut-fence f (has_line (closes on f) lines);
        acts = subst (λ l. Acts (leaf_behind l (take t lines)) (drop t lines)) (sym next) (through-acts (open_fence f) (closes on f) refl (λ t. refl) lines);
        text_is = λ h e.
            let has = not-false (has_line (closes on f) lines) h in
            let last = last-more line (take t lines) (some-through (closes on f) lines has) in
            closing-text f (text_of (last_line (take t lines))) (fence-long (text_of line) f kind) (last-through (closes on f) lines has) (sym (ap text_of last) ∙ e);
      }

  -- HTML that ends with a line
  pub ends-none : (kind : HtmlKind) → ends kind [] ≡ true → ⊥
  ends-none raw h = absurd (cc)
  ends-none kind h = absurd (cc)

  shut-html : (kind : HtmlKind) (b : Bool) → waits_for_blank kind ≡ false → holds_ending (cond b closed (open_html kind)) ≡ not b
  shut-html kind true e = refl
  shut-html kind false e = ap not e

  html-front : (kind : HtmlKind) (line : Line) (lines : List Line) → is_blank_line (text_of line) ≡ false → line_kind on (text_of line) ≡ html kind → waits_for_blank kind ≡ false
      → let n = lines_through (ends kind) (line ∷ lines) in Front (html_block kind (false || has_line (ends kind) (line ∷ lines)) (take n (line ∷ lines)), n) (line ∷ lines)
  html-front kind line lines full is waits = elim (ends kind (text_of line)) as (λ b. ends kind (text_of line) ≡ b → Of (lines_through (ends kind) (line ∷ lines)) (has_line (ends kind) (line ∷ lines))) [
    | true ↦ λ e.
        let next : leaf_next closed line ≡ closed = opens (html kind) line full is ∙ ap (λ b. cond b closed (open_html kind)) e in
        subst (λ n. Of n (has_line (ends kind) (line ∷ lines))) (sym (through-there (ends kind) line lines e))
        (subst (Of 1) (sym (has-there (ends kind) line lines e)) (record {
          run_is = first-run line lines full;
          open_is = ap holds_ending next;
          acts = acts-closed (leaf_next closed line) lines next;
          text_is = λ h. none-blank (text_of line) full;
        }))
    | false ↦ λ e.
        let next : leaf_next closed line ≡ open_html kind = opens (html kind) line full is ∙ ap (λ b. cond b closed (open_html kind)) e in
        let t = lines_through (ends kind) lines in
        let holds : holds_ending (open_html kind) ≡ true = ap not waits in
        let after : (t : List ℕ) → leaf_after on (open_html kind) t ≡ cond (ends kind t) closed (open_html kind) = (λ t. ap (λ w. cond (cond w (is_blank_line t) (ends kind t)) closed (open_html kind)) waits) in
        let run = through (open_html kind) (ends kind) holds after lines in
        let leaf : leaf_behind closed (take (suc t) (line ∷ lines)) ≡ cond (has_line (ends kind) lines) closed (open_html kind) = ap (λ l. leaf_behind l (take t lines)) next ∙ run.leaf_is in
        subst (λ n. Of n (has_line (ends kind) (line ∷ lines))) (sym (through-one-more (ends kind) line lines e))
        (subst (Of (suc t)) (sym (has-one-more (ends kind) line lines e)) (record {
          run_is = next-run (open_html kind) t line lines full next run.run_is;
          open_is = ap holds_ending leaf ∙ shut-html kind (has_line (ends kind) lines) waits;
          acts = subst (λ l. Acts (leaf_behind l (take t lines)) (drop t lines)) (sym next) (through-acts (open_html kind) (ends kind) holds after lines);
          text_is = λ h e.
              let has = not-false (has_line (ends kind) lines) h in
              let last = last-more line (take t lines) (some-through (ends kind) lines has) in
              ends-none kind (subst (λ t. ends kind t ≡ true) (sym (ap text_of last) ∙ e) (last-through (ends kind) lines has));
        }))
  ] refl
    where
      Of : ℕ → Bool → Type 0
      Of n has = Front (html_block kind (false || has) (take n (line ∷ lines)), n) (line ∷ lines)

  -- HTML that waits for a blank line
  pub ends-by-none : (kind : HtmlKind) (t : List ℕ) → waits_for_blank kind ≡ true → ends kind t ≡ false
  ends-by-none block_tag t h = refl
  ends-by-none any_tag t h = refl
  ends-by-none kind t h = absurd (cc)

  waiting-front : (kind : HtmlKind) (has : Bool) (line : Line) (lines : List Line) → is_blank_line (text_of line) ≡ false → line_kind on (text_of line) ≡ html kind → waits_for_blank kind ≡ true
      → let n = lines_until blank_text (line ∷ lines) in Front (html_block kind (true || has) (take n (line ∷ lines)), n) (line ∷ lines)
  waiting-front kind has line lines full is waits =
      let next : leaf_next closed line ≡ open_html kind = opens (html kind) line full is ∙ ap (λ b. cond b closed (open_html kind)) (ends-by-none kind (text_of line) waits) in
      let run = until (open_html kind) blank_text goes lines in
      let t = lines_until blank_text lines in
      let leaf : leaf_behind closed (take (suc t) (line ∷ lines)) ≡ open_html kind = ap (λ l. leaf_behind l (take t lines)) next ∙ run.leaf_is in
      subst Of (sym (until-more (open_html kind) blank_text goes line lines full)) (record {
        run_is = next-run (open_html kind) t line lines full next run.run_is;
        open_is = ap holds_ending leaf ∙ ap not waits;
        acts = subst (λ l. Acts l (drop t lines)) (sym leaf) (waiting-acts (drop t lines) refl);
        text_is = λ h. none-blank (text_of (last_line (take (suc t) (line ∷ lines)))) (last-full (open_html kind) blank_text goes line lines full);
      })
    where
      Of : ℕ → Type 0
      Of n = Front (html_block kind true (take n (line ∷ lines)), n) (line ∷ lines)

      goes : (line : Line) → blank_text line ≡ false → (is_blank_line (text_of line) ≡ false) × (leaf_after on (open_html kind) (text_of line) ≡ open_html kind)
      goes line e = (e, ap (λ w. cond (cond w (is_blank_line (text_of line)) (ends kind (text_of line))) closed (open_html kind)) waits ∙ ap (λ b. cond b closed (open_html kind)) e)

      waiting-acts : (behind : List Line) → drop (lines_until blank_text lines) lines ≡ behind → Acts (open_html kind) behind
      waiting-acts [] e = tt
      waiting-acts (next ∷ behind) e =
          let b : is_blank_line (text_of next) ≡ true = passes (open_html kind) blank_text goes lines next behind e in
          let left : is_left (open_html kind) next ≡ true = (λ i. b i && not (not (waits i))) in
          let plain : is_left closed next ≡ true = ap (λ b. b && true) b in
          (ap (λ b. cond b closed (leaf_after on (open_html kind) (text_of next))) left ∙ sym (ap (λ b. cond b closed (leaf_after on closed (text_of next))) plain), left ∙ sym plain)

  -- paragraphs and setext headings
  ranked-full : (t : List ℕ) (rank : ℕ) → underline_rank on t ≡ Some rank → is_blank_line t ≡ false
  ranked-full t rank is = not-blank on t (subst IsOfText (sym (underline-kind on t rank is)) (elim (on.thematic_break && is_thematic_break (unindented t)) as (λ b. IsOfText (cond b thematic_break text)) [ true ↦ tt | false ↦ tt ]))

  pub text-goes : (line : Line) → ends_text on line ≡ false → (is_blank_line (text_of line) ≡ false) × (leaf_after on open_paragraph (text_of line) ≡ open_paragraph)
  text-goes line e =
      let both = or_parts (is_some (underline_rank on (text_of line))) (interrupts (line_kind on (text_of line))) e in
      (not-blank on (text_of line) (goes (line_kind on (text_of line)) both.1), (λ i. cond (both.0 i) closed (cond (both.1 i) (opened_by on (line_kind on (text_of line)) (text_of line)) open_paragraph)))
    where
      goes : (k : LineKind) → interrupts k ≡ false → IsOfText k
      goes blank h = absurd (cc)
      goes k h = tt

  text-front : (line : Line) (lines : List Line) → is_blank_line (text_of line) ≡ false → line_kind on (text_of line) ≡ text → Front (content_at on (line ∷ lines)) (line ∷ lines)
  text-front line lines full kind = by-behind (drop p lines) refl
    where
      all : List Line
      all = line ∷ lines

      p : ℕ
      p = lines_until (ends_text on) lines

      next : leaf_next closed line ≡ open_paragraph
      next = opens text line full kind

      run : Until open_paragraph (ends_text on) text-goes lines
      run = until open_paragraph (ends_text on) text-goes lines

      leaf : leaf_behind closed (take (suc p) all) ≡ open_paragraph
      leaf = ap (λ l. leaf_behind l (take p lines)) next ∙ run.leaf_is

      run-is : kept closed all ≡ suc p + kept open_paragraph (drop p lines)
      run-is =
          run-more p (kept open_paragraph (drop p lines)) (kept closed all) (one-kept closed line lines (not-left closed line full) ∙ ap suc (ap (λ l. kept l lines) next ∙ run.run_is ∙ ap (λ l. p + kept l (drop p lines)) run.leaf_is))

      long : length (take (suc p) all) ≡ suc p
      long = let few = prefix_len-le-length (λ (l : Line). not (ends_text on l)) lines in omega (arith, few, length-take (suc p) all)

      -- a paragraph
      as-paragraph : Acts open_paragraph (drop p lines) → Front (paragraph (take (suc p) all), length (take (suc p) all)) all
      as-paragraph acts = subst (λ n. Front (paragraph (take (suc p) all), n) all) (sym long) (record {
        run_is = run-is ∙ ap (λ l. suc p + kept l (drop p lines)) (sym leaf);
        open_is = ap holds_ending leaf;
        acts = subst (λ l. Acts l (drop p lines)) (sym leaf) acts;
        text_is = λ h. none-blank (text_of (last_line (take (suc p) all))) (last-full open_paragraph (ends_text on) text-goes line lines full);
      })

      -- lines and one more
      behind-more : (n : ℕ) (lines : List Line) (after : Line) (behind : List Line) (l : Leaf) → drop n lines ≡ after ∷ behind → leaf_behind l (take (suc n) lines) ≡ leaf_next (leaf_behind l (take n lines)) after
      behind-more zero [] after behind l e = absurd (cc)
      behind-more zero (x ∷ lines) after behind l e = let same : x ≡ after = cc in ap (leaf_next l) same
      behind-more (suc n) [] after behind l e = absurd (cc)
      behind-more (suc n) (x ∷ lines) after behind l e = behind-more n lines after behind (leaf_next l x) e

      drop-more : (n : ℕ) (lines : List Line) (after : Line) (behind : List Line) → drop n lines ≡ after ∷ behind → drop (suc n) lines ≡ behind
      drop-more zero [] after behind e = absurd (cc)
      drop-more zero (x ∷ lines) after behind e = cc
      drop-more (suc n) [] after behind e = absurd (cc)
      drop-more (suc n) (x ∷ lines) after behind e = drop-more n lines after behind e

      last-there : (before : Line) (n : ℕ) (lines : List Line) (after : Line) (behind : List Line) → drop n lines ≡ after ∷ behind → last_line (before ∷ take (suc n) lines) ≡ after
      last-there before zero [] after behind e = absurd (cc)
      last-there before zero (x ∷ lines) after behind e = cc
      last-there before (suc n) [] after behind e = absurd (cc)
      last-there before (suc n) (x ∷ lines) after behind e = last-there x n lines after behind e

      -- a heading, by its underline
      as-heading : (rank : ℕ) (after : Line) (behind : List Line) → drop p lines ≡ after ∷ behind → underline_rank on (text_of after) ≡ Some rank → Front (setext_heading rank (take (suc p) all) after, suc (length (take (suc p) all))) all
      as-heading rank after behind e is =
          let full = ranked-full (text_of after) rank is in
          let left = not-left open_paragraph after full in
          let shut : leaf_next open_paragraph after ≡ closed = next-kept open_paragraph after left ∙ ap (λ r. cond (is_some r) closed (cond (interrupts (line_kind on (text_of after))) (opened_by on (line_kind on (text_of after)) (text_of after)) open_paragraph)) is in
          let leaf2 : leaf_behind closed (take (suc (suc p)) all) ≡ closed = behind-more (suc p) all after behind closed e ∙ ap (λ l. leaf_next l after) leaf ∙ shut in
          let behind-is = drop-more p lines after behind e in
          let more : kept open_paragraph (drop p lines) ≡ suc (kept closed behind) = ap (kept open_paragraph) e ∙ one-kept open_paragraph after behind left ∙ ap (λ l. suc (kept l behind)) shut in
          let counted : kept closed all ≡ suc (suc p) + kept closed behind = omega (arith, run-is, more) in
          subst (λ n. Front (setext_heading rank (take (suc p) all) after, suc n) all) (sym long) (record {
            run_is = counted ∙ (λ i. suc (suc p) + kept (sym leaf2 i) (sym behind-is i));
            open_is = ap holds_ending leaf2;
            acts = acts-closed (leaf_behind closed (take (suc (suc p)) all)) (drop (suc p) lines) leaf2;
            text_is = λ h k. none-blank (text_of after) full (sym (ap text_of (last-there line p lines after behind e)) ∙ k);
          })

      -- a line that interrupts
      by-rank : (after : Line) (behind : List Line) → drop p lines ≡ after ∷ behind → (rank : Option ℕ) → underline_rank on (text_of after) ≡ rank → Front (by_rank (take (suc p) all) after rank) all
      by-rank after behind e None is =
          let ends = passes open_paragraph (ends_text on) text-goes lines after behind e in
          let breaks : interrupts (line_kind on (text_of after)) ≡ true = sym (ap (λ r. is_some r || interrupts (line_kind on (text_of after))) is) ∙ ends in
          let opened = opened_by on (line_kind on (text_of after)) (text_of after) in
          let same : leaf_after on open_paragraph (text_of after) ≡ leaf_after on closed (text_of after) = ap (λ r. cond (is_some r) closed (cond (interrupts (line_kind on (text_of after))) opened open_paragraph)) is ∙ ap (λ b. cond b opened open_paragraph) breaks in
          as-paragraph (subst (Acts open_paragraph) (sym e) (ap (cond (is_left closed after) closed) same, refl))
      by-rank after behind e (Some rank) is = as-heading rank after behind e is

      by-behind : (behind : List Line) → drop p lines ≡ behind → Front (underlined on (take (suc p) all) behind) all
      by-behind [] e = as-paragraph (subst (Acts open_paragraph) (sym e) tt)
      by-behind (after ∷ behind) e = by-rank after behind e (underline_rank on (text_of after)) refl

  -- each block but a blank line
  pub front : (line : Line) (lines : List Line) → is_blank_line (text_of line) ≡ false → Front (block_of_kind on (line_kind on (text_of line)) line lines) (line ∷ lines)
  front line lines full = by (line_kind on (text_of line)) refl
    where
      by : (kind : LineKind) → line_kind on (text_of line) ≡ kind → Front (block_of_kind on kind line lines) (line ∷ lines)
      by blank e = let both : true ≡ false = sym (blank-is (text_of line) (ap (is_blank on) e)) ∙ full in absurd (cc)
      by indented e = code-front line lines full e
      by heading e = alone (atx_heading line) line lines full (opens heading line full e) refl
      by (fence f) e = fence-front f line lines full e
      by (html kind) e = elim (waits_for_blank kind) as (λ b. waits_for_blank kind ≡ b → let n = cond b (lines_until blank_text (line ∷ lines)) (lines_through (ends kind) (line ∷ lines)) in
          Front (html_block kind (b || has_line (ends kind) (line ∷ lines)) (take n (line ∷ lines)), n) (line ∷ lines)) [
            | true ↦ λ w. waiting-front kind (has_line (ends kind) (line ∷ lines)) line lines full e w
            | false ↦ λ w. html-front kind line lines full e w
          ] refl
      by thematic_break e = alone (break_line line) line lines full (opens thematic_break line full e) refl
      by text e = text-front line lines full e
