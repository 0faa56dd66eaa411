-- What leaf blocks are read of, line by line: a line as it is, or with a letter that makes it text.
use Rattle.std.proofs.Common.{◌≡◌, ◌∙◌, ◌+◌, ◌-◌, ◌<◌, ◌≤◌, ℕ, zero, suc, Bool, true, false, cond, List, [], ◌∷◌, ◌++◌, ap, append-nil, arith, drop, eq-eqb, eqb-true, inl, inr, length, length-append, length-drop, map, not, refl, subst, sym, take}
use Rattle.std.specs.Prelude.{◌==◌, ◌&&◌, ◌||◌, None, Some, is_some}
use Rattle.std.specs.List.{AllByRecursion}
use Rattle.std.proofs.Math.Bool.{and-false}
use Rattle.std.proofs.lemmas.Bool.{false≢true}
use Rattle.std.proofs.lemmas.List.{drop-append-le, drop-drop, length-map}
use Rattle.markdown_base.proofs.Common.{every-drop}
use Rattle.markdown_base.specs.declared.configuration.Constructs.{Constructs}
use Rattle.markdown_base.specs.Virtual.{Seat}
use Rattle.markdown_tokenizer.proofs.Positions.Order.{every-front}
use Rattle.mdconstructs_machines.specs.LineEvents.{ending_of, is_line_ending, line_text}
use Rattle.mdconstructs_tables.specs.Breaks.{is_white}
use Rattle.mdblock_leaf_blocks.proofs.Lines.WholeLines.{IsWhole, text-and-ending, whole-behind, whole-text}
use Rattle.mdblock_leaf_blocks.specs.HtmlLines.{html_kind}
use Rattle.mdblock_leaf_blocks.specs.LeafBlocks.{Line, bytes_of, ends_text, interrupts, text_of}
use Rattle.mdblock_leaf_blocks.specs.LineKinds.{LineKind, begins_with, blank, fence, heading, html, indent, indented, is_blank_line, is_far, kind_of_rest, line_kind, run, text, thematic_break, underline_rank, unindented}
use Rattle.mdblock_containers.proofs.LazyLemmas.{underline_some}
use Rattle.mdblock_containers.specs.Letters.{lazy_underline, letter, lettered_seat}
use Rattle.mdblock_containers.specs.Rows.{Row, rest_of}
use Rattle.mdblock_definitions.proofs.KnownReads.{blank-unindented}
use Rattle.mdblock_paragraphs.proofs.OwnLetters.{HasOwn, has_letter}
use Rattle.mdblock_paragraphs.proofs.ToldRows.{IsKept, IsMore, ends}

-- ---- a line that begins with the letter behind its white space

-- it begins with nothing else
other-begin : (m : ℕ) → (letter == m) ≡ false → (u : List ℕ) → begins_with letter u ≡ true → begins_with m u ≡ false
other-begin m e [] h = absurd (false≢true h)
other-begin m e (b ∷ bs) h = ap (λ c. c == m) (eqb-true b letter h) ∙ e

module _ (on : Constructs) where
  no-html : (bs : List ℕ) (x : Bool) → cond x (html_kind (letter ∷ bs)) None ≡ None
  no-html bs true = refl
  no-html bs false = refl

  kind-of-letter : (columns : ℕ) (bs : List ℕ) → kind_of_rest on columns (letter ∷ bs) ≡ text
  kind-of-letter columns bs =
      let r : List ℕ = letter ∷ bs in
      (λ i. cond (and-false on.heading_atx i) heading
      (cond (and-false on.code_fenced i) (fence (record { byte = 96; size = run 96 r; indent = columns }))
      (cond (and-false on.code_fenced i) (fence (record { byte = 126; size = run 126 r; indent = columns }))
      (elim (no-html bs on.html_flow i) as (λ _. LineKind) [
        | Some kind ↦ html kind
        | None ↦ cond (and-false on.thematic_break i) thematic_break text
      ]))))

  letter-kind : (columns : ℕ) (u : List ℕ) → begins_with letter u ≡ true → interrupts (kind_of_rest on columns u) ≡ false
  letter-kind columns [] h = absurd (false≢true h)
  letter-kind columns (b ∷ bs) h = ap (λ c. interrupts (kind_of_rest on columns (c ∷ bs))) (eqb-true b letter h) ∙ ap interrupts (kind-of-letter columns bs)

  -- it ends no text
  pub letter-more : (t : List ℕ) → begins_with letter (unindented t) ≡ true → ends on t ≡ false
  letter-more t h = (λ i. rank (is_far on t || not on.heading_setext) i || kind (is_blank_line t) (is_far on t) refl i)
    where
      u : List ℕ
      u = unindented t

      rank : (x : Bool) → is_some {T = ℕ} (cond x None (cond (begins_with 61 u && is_blank_line (drop (run 61 u) u)) (Some 1) (cond (begins_with 45 u && is_blank_line (drop (run 45 u) u)) (Some 2) None))) ≡ false
      rank true = refl
      rank false =
          (λ i. is_some {T = ℕ} (cond (other-begin 61 refl u h i && is_blank_line (drop (run 61 u) u)) (Some 1) (cond (other-begin 45 refl u h i && is_blank_line (drop (run 45 u) u)) (Some 2) None)))

      kind : (x y : Bool) → is_blank_line t ≡ x → interrupts (cond x blank (cond y indented (kind_of_rest on (indent t) u))) ≡ false
      kind true y e = absurd (false≢true (sym (ap (begins_with letter) (blank-unindented t e)) ∙ h))
      kind false true e = refl
      kind false false e = letter-kind (indent t) u h

-- ---- a line behind its prefixes

-- the text of a line behind some columns
rest-line : (n : ℕ) (line : Line) → IsWhole line → n ≤ length (text_of line) → text_of (drop n line) ≡ drop n (text_of line)
rest-line zero line h l = refl
rest-line (suc n) [] h l = refl
rest-line (suc n) (s ∷ ss) (inl h) l =
    let is : text_of (s ∷ ss) ≡ s.byte ∷ text_of ss = ap (λ b. bytes_of (cond (not b) (s ∷ line_text ss) (line_text ss))) h.0 in
    let long = ap (λ (t : List ℕ). length t) is in
    rest-line n ss h.1 (omega (arith, l, long)) ∙ sym (ap (drop (suc n)) is)
rest-line (suc n) (s ∷ ss) (inr h) l =
    let is : text_of (s ∷ ss) ≡ [] = ap (λ b. bytes_of (cond (not b) (s ∷ line_text ss) (line_text ss))) h.0 ∙ ap text_of h.1 in
    let long = ap (λ (t : List ℕ). length t) is in
    absurd (omega (arith, l, long))

-- the text of a text is itself
pub text-twice : (line : Line) → line_text (line_text line) ≡ line_text line
text-twice [] = refl
text-twice (s ∷ ss) = by (text-twice ss) (is_line_ending s) refl
  where
    by : line_text (line_text ss) ≡ line_text ss → (b : Bool) → is_line_ending s ≡ b → line_text (cond (not b) (s ∷ line_text ss) (line_text ss)) ≡ cond (not b) (s ∷ line_text ss) (line_text ss)
    by more true e = more
    by more false e = ap (λ b. cond (not b) (s ∷ line_text (line_text ss)) (line_text (line_text ss))) e ∙ ap (λ l. s ∷ l) more

-- no letter stands in it
no-letters : (ss : List Seat) → map (lettered_seat []) ss ≡ ss
no-letters [] = refl
no-letters (s ∷ ss) = ap (λ l. s ∷ l) (no-letters ss)

own-letters : (at own : List ℕ) (ss : List Seat) → HasOwn at own ss → map (lettered_seat at) ss ≡ map (lettered_seat own) ss
own-letters at own [] h = refl
own-letters at own (s ∷ ss) h = (λ i. record s { byte = cond (h.0 i) letter s.byte } ∷ own-letters at own ss h.1 i)

-- The first byte behind white space is shown as the letter, and then so it begins: what is shown of the white space is that, or the letter
begins-lettered : (at : List ℕ) (ss : List Seat) → IsWhole ss → 1 ≤ length (unindented (text_of ss)) → AllByRecursion (λ (s : Seat). has_letter at s ≡ true) (take 1 (drop (indent (text_of ss)) ss))
    → begins_with letter (unindented (text_of (map (lettered_seat at) ss))) ≡ true
begins-lettered at [] whole some h = absurd (omega (arith, some))
begins-lettered at (s ∷ ss) (inr e) some h =
    let none : text_of (s ∷ ss) ≡ [] = ap (λ b. bytes_of (cond (not b) (s ∷ line_text ss) (line_text ss))) e.0 ∙ ap text_of e.1 in
    let size = ap (λ (t : List ℕ). length (unindented t)) none in
    absurd (omega (arith, some, size))
begins-lettered at (s ∷ ss) (inl e) some h =
    let is : text_of (s ∷ ss) ≡ s.byte ∷ text_of ss = ap (λ b. bytes_of (cond (not b) (s ∷ line_text ss) (line_text ss))) e.0 in
    by (λ a b. begins-lettered at ss e.1 a b) (is_white s.byte) refl (has_letter at s) refl (subst (λ (t : List ℕ). 1 ≤ length (unindented t)) is some) (subst (λ (t : List ℕ). AllByRecursion (λ (s : Seat). has_letter at s ≡ true) (take 1 (drop (indent t) (s ∷ ss)))) is h)
  where
    more : List Seat
    more = map (lettered_seat at) ss

    -- the letter comes first
    first : (x : Bool) → x ≡ true → begins_with letter (unindented (text_of (record s { byte = cond x letter s.byte } ∷ more))) ≡ true
    first true k = refl
    first false k = absurd (false≢true k)

    -- or white space does
    white : is_white s.byte ≡ true → begins_with letter (unindented (text_of more)) ≡ true → begins_with letter (unindented (text_of (s ∷ more))) ≡ true
    white w k =
        let same : text_of (s ∷ more) ≡ s.byte ∷ text_of more = ap (λ b. bytes_of (cond (not b) (s ∷ line_text more) (line_text more))) e.0 in
        let one : 1 + indent (text_of more) ≡ suc (indent (text_of more)) = omega arith in
        ap (λ t. begins_with letter (unindented t)) same ∙ ap (λ b. begins_with letter (drop (cond b (1 + indent (text_of more)) 0) (s.byte ∷ text_of more))) w ∙ ap (λ n. begins_with letter (drop n (s.byte ∷ text_of more))) one ∙ k

    by : (1 ≤ length (unindented (text_of ss)) → AllByRecursion (λ (s : Seat). has_letter at s ≡ true) (take 1 (drop (indent (text_of ss)) ss)) → begins_with letter (unindented (text_of more)) ≡ true)
        → (w : Bool) → is_white s.byte ≡ w → (x : Bool) → has_letter at s ≡ x → 1 ≤ length (drop (cond w (1 + indent (text_of ss)) 0) (s.byte ∷ text_of ss))
        → AllByRecursion (λ (s : Seat). has_letter at s ≡ true) (take 1 (drop (cond w (1 + indent (text_of ss)) 0) (s ∷ ss)))
        → begins_with letter (unindented (text_of (record s { byte = cond x letter s.byte } ∷ more))) ≡ true
    by rest w ew true ex a b = first true refl
    by rest false ew false ex a b = absurd (false≢true (sym ex ∙ b.0))
    by rest true ew false ex a b =
        let one : 1 + indent (text_of ss) ≡ suc (indent (text_of ss)) = omega arith in
        white ew (rest (subst (λ (n : ℕ). 1 ≤ length (drop n (s.byte ∷ text_of ss))) one a) (subst (λ (n : ℕ). AllByRecursion (λ (s : Seat). has_letter at s ≡ true) (take 1 (drop n (s ∷ ss)))) one b))

-- the letter of a line is at its first byte behind white space
its-letter : (at own : List ℕ) (n : ℕ) (line xs ys : Line) → HasOwn at own line → own ≡ map (λ (s : Seat). s.point.index) (take 1 (drop n line)) → drop n line ≡ xs ++ ys → 1 ≤ length xs
    → AllByRecursion (λ (s : Seat). has_letter at s ≡ true) (take 1 xs)
its-letter at own n line [] ys h e split some = absurd (omega (arith, some))
its-letter at own n line (s ∷ xs) ys h e split some =
    let mine : own ≡ s.point.index ∷ [] = e ∙ ap (λ (l : List Seat). map (λ (s : Seat). s.point.index) (take 1 l)) split in
    let there : HasOwn at own (s ∷ (xs ++ ys)) = subst (HasOwn at own) split (every-drop (λ (q : Seat). has_letter at q ≡ has_letter own q) n line h) in
    (there.0 ∙ ap (λ o. has_letter o s) mine ∙ ap (λ b. b || false) (eq-eqb s.point.index s.point.index refl), tt)

module _ (on : Constructs) (r : Row) (kept : IsKept on r) where
  -- a line behind its prefixes, with its line ending or without it
  abbrev pub left : (with_end : Bool) → Line
  left with_end = drop r.columns (cond with_end r.line (line_text r.line))

  pub left-text : (x : Bool) → text_of (left x) ≡ rest_of r
  left-text true = rest-line r.columns r.line kept.whole kept.within
  left-text false =
      let same : text_of (line_text r.line) ≡ text_of r.line = ap bytes_of (text-twice r.line) in
      let size = ap (λ (t : List ℕ). length t) same in
      let within = kept.within in
      rest-line r.columns (line_text r.line) (whole-text r.line) (omega (arith, within, size)) ∙ ap (drop r.columns) same

  pub left-whole : (x : Bool) → IsWhole (left x)
  left-whole true = whole-behind r.columns r.line kept.whole
  left-whole false = whole-behind r.columns (line_text r.line) (whole-text r.line)

  -- with letters, of which the line has its own
  module _ (at : List ℕ) (own : HasOwn at (lazy_underline on r) r.line) where
    abbrev pub shown : (with_end : Bool) → Line
    shown with_end = map (lettered_seat at) (left with_end)

    left-own : (x : Bool) → HasOwn at (lazy_underline on r) (left x)
    left-own true = every-drop (λ (q : Seat). has_letter at q ≡ has_letter (lazy_underline on r) q) r.columns r.line own
    left-own false =
        let own-at = λ (q : Seat). has_letter at q ≡ has_letter (lazy_underline on r) q in
        every-drop own-at r.columns (line_text r.line) (every-front own-at (line_text r.line) (ending_of r.line) (subst (AllByRecursion own-at) (sym (text-and-ending r.line kept.whole)) own))

    -- a line without a letter is shown as it is
    pub plain-shown : lazy_underline on r ≡ [] → (x : Bool) → text_of (shown x) ≡ rest_of r
    plain-shown none x = ap text_of (own-letters at (lazy_underline on r) (left x) (left-own x) ∙ ap (λ own. map (lettered_seat own) (left x)) none ∙ no-letters (left x)) ∙ left-text x

    -- a lazy underline is shown as text
    pub lazy-shown : r.is_lazy ≡ true → is_some (underline_rank on (rest_of r)) ≡ true → (x : Bool) → ends on (text_of (shown x)) ≡ false
    lazy-shown lazy under x = letter-more on (text_of (shown x)) (begins-lettered at (left x) (left-whole x) (some x) (marked x))
      where
        n : ℕ
        n = r.columns + indent (rest_of r)

        full : 1 ≤ length (unindented (rest_of r))
        full = underline_some on (rest_of r) under

        some : (x : Bool) → 1 ≤ length (unindented (text_of (left x)))
        some x = let size = ap (λ (t : List ℕ). length (unindented t)) (left-text x) in let more = full in omega (arith, size, more)

        mine : lazy_underline on r ≡ map (λ (s : Seat). s.point.index) (take 1 (drop n r.line))
        mine = (λ i. cond (lazy i && under i) (map (λ (s : Seat). s.point.index) (take 1 (drop n r.line))) [])

        long : n < length (line_text r.line)
        long =
            let size : length (text_of r.line) ≡ length (line_text r.line) = length-map (line_text r.line) (λ (s : Seat). s.byte) in
            let a : length (unindented (rest_of r)) ≡ length (rest_of r) - indent (rest_of r) = length-drop (indent (rest_of r)) (rest_of r) in
            let b : length (rest_of r) ≡ length (text_of r.line) - r.columns = length-drop r.columns (text_of r.line) in
            let more = full in
            omega (arith, size, a, b, more)

        split : drop n r.line ≡ drop n (line_text r.line) ++ ending_of r.line
        split = ap (drop n) (sym (text-and-ending r.line kept.whole)) ∙ drop-append-le n (line_text r.line) (ending_of r.line) (omega (arith, long))

        there : 1 ≤ length (drop n (line_text r.line))
        there = let a = length-drop n (line_text r.line) in let b = long in omega (arith, a, b)

        front : AllByRecursion (λ (s : Seat). has_letter at s ≡ true) (take 1 (drop n (line_text r.line)))
        front = its-letter at (lazy_underline on r) n r.line (drop n (line_text r.line)) (ending_of r.line) own mine split there

        whole : AllByRecursion (λ (s : Seat). has_letter at s ≡ true) (take 1 (drop n r.line))
        whole = its-letter at (lazy_underline on r) n r.line (drop n r.line) [] own mine (sym (append-nil (drop n r.line))) (let a = ap (λ (l : List Seat). length l) split in let b = length-append (drop n (line_text r.line)) (ending_of r.line) in let c = there in omega (arith, a, b, c))

        place : (x : Bool) → drop (indent (text_of (left x))) (left x) ≡ drop n (cond x r.line (line_text r.line))
        place x = ap (λ t. drop (indent t) (left x)) (left-text x) ∙ drop-drop (indent (rest_of r)) r.columns (cond x r.line (line_text r.line))

        marked : (x : Bool) → AllByRecursion (λ (s : Seat). has_letter at s ≡ true) (take 1 (drop (indent (text_of (left x))) (left x)))
        marked true = subst (λ (l : List Seat). AllByRecursion (λ (s : Seat). has_letter at s ≡ true) (take 1 l)) (sym (place true)) whole
        marked false = subst (λ (l : List Seat). AllByRecursion (λ (s : Seat). has_letter at s ≡ true) (take 1 l)) (sym (place false)) front

    -- a line that goes on with a paragraph does so as it is shown
    pub more-shown : IsMore on r → (x : Bool) → ends_text on (shown x) ≡ false
    more-shown (inl e) x = ap (ends on) (plain-shown (by (is_some (underline_rank on (rest_of r))) e) x) ∙ e
      where
        by : (u : Bool) → (u || interrupts (line_kind on (rest_of r))) ≡ false → cond (r.is_lazy && u) (map (λ (s : Seat). s.point.index) (take 1 (drop (r.columns + indent (rest_of r)) r.line))) [] ≡ []
        by true e = absurd (false≢true (sym e))
        by false e = ap (λ b. cond b (map (λ (s : Seat). s.point.index) (take 1 (drop (r.columns + indent (rest_of r)) r.line))) []) (and-false r.is_lazy)
    more-shown (inr h) x = lazy-shown h.0 h.1 x

    -- and one that begins it
    pub first-shown : line_kind on (rest_of r) ≡ text → r.is_lazy ≡ false → (x : Bool) → line_kind on (text_of (shown x)) ≡ text
    first-shown kind lazy x = ap (line_kind on) (plain-shown (ap (λ b. cond (b && is_some (underline_rank on (rest_of r))) (map (λ (s : Seat). s.point.index) (take 1 (drop (r.columns + indent (rest_of r)) r.line))) []) lazy) x) ∙ kind
