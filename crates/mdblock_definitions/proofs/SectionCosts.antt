-- What it costs to find the definitions with which paragraphs of a part begin: each paragraph is looked at once, and what is behind its definitions
-- once more.
use Rattle.std.proofs.Common.{◌≡◌, ◌∙◌, ℕ, zero, suc, ◌+◌, ◌-◌, ◌*◌, ◌<◌, ◌≤◌, Bool, true, false, cond, List, [], ◌∷◌, ◌++◌, Option, Some, None, inl, inr, ap, arith, drop, get_or, length, length-append, length-drop, length-take, refl, sym, take}
use Rattle.std.specs.Prelude.{nat_le}
use Rattle.std.specs.List.{prefix_len}
use Rattle.std.proofs.lemmas.List.{drop_all, drop_more}
use Rattle.markdown_base.specs.declared.configuration.Constructs.{Constructs}
use Rattle.mdblock_containers.specs.declared.spans.RowAt.{RowAt}
use Rattle.mdblock_containers.specs.Costs.{columns_in}
use Rattle.mdblock_containers.specs.Ahead.{AreRows}
use Rattle.mdblock_containers.specs.Rows.{Row, has_none, is_paragraph, rest_of}
use Rattle.mdblock_leaf_blocks.specs.LeafBlocks.{text_of}
use Rattle.mdblock_containers.proofs.DocumentRows.{text_of_line_at}
use Rattle.mdinline_labels.specs.declared.definitions.Definition.{Definition}
use Rattle.mdinline_labels.specs.Definitions.{definition_at, definitions, rest}
use Rattle.mdinline_labels.proofs.Fronts.{no-more, no-rest, one-more, rest-more}
use Rattle.mdblock_definitions.specs.Costs.{bytes_in, bytes_of, text_rows, to_write}
use Rattle.mdblock_definitions.specs.Sections.{before_defined, defined_in, lines_defined, lines_of, paragraph_of, text_in}
use Rattle.mdblock_definitions.specs.Seen.{AreThese, is_text_at, row_by, rows_by}
use Rattle.mdblock_definitions.proofs.DefinedText.{lines-some, tens-both, tens-rest, two-cuts}
use Rattle.mdblock_definitions.proofs.SectionLemmas.{few-lines, nothing-in, rows-back, size-is, tens, tens-in}
use Rattle.mdblock_definitions.proofs.Shorter.{left-begins}
use Rattle.std.proofs.lemmas.List.{append-nil, length-take-le}

-- ---- the bytes of lines

one-before : (n : ℕ) → 1 + n ≡ suc n
one-before n = omega (arith)

module _ (t : ℕ) (bytes : List ℕ) where
  pub bytes-cut : (n : ℕ) (xs : List RowAt) → bytes_in t bytes (take n xs) + bytes_in t bytes (drop n xs) ≡ bytes_in t bytes xs
  bytes-cut zero xs = omega (arith)
  bytes-cut (suc n) [] = omega (arith)
  bytes-cut (suc n) (x ∷ xs) = omega (arith, bytes-cut n xs)

  pub bytes-more : (i n : ℕ) (xs : List RowAt) → bytes_in t bytes (take (i + n) xs) ≡ bytes_in t bytes (take i xs) + bytes_in t bytes (take n (drop i xs))
  bytes-more zero n xs = let same : 0 + n ≡ n = omega (arith) in omega (arith, ap (λ k. bytes_in t bytes (take k xs)) same)
  bytes-more (suc i) n [] = let none = nothing n in let all = nothing (suc i + n) in omega (arith, none, all)
    where
      nothing : (k : ℕ) → bytes_in t bytes (take k []) ≡ 0
      nothing zero = refl
      nothing (suc k) = refl
  bytes-more (suc i) n (x ∷ xs) =
      let on : suc i + n ≡ suc (i + n) = omega (arith) in
      omega (arith, bytes-more i n xs, ap (λ k. bytes_in t bytes (take k (x ∷ xs))) on)

  pub bytes-within : (m n : ℕ) (xs : List RowAt) → m ≤ n → bytes_in t bytes (take m xs) ≤ bytes_in t bytes (take n xs)
  bytes-within zero n xs h = omega (arith)
  bytes-within (suc m) n [] h = omega (arith)
  bytes-within (suc m) zero (x ∷ xs) h = absurd (omega (arith, h))
  bytes-within (suc m) (suc n) (x ∷ xs) h = omega (arith, bytes-within m n xs (omega (arith, h)))

  pub first-some : (xs : List RowAt) → 1 ≤ bytes_in t bytes xs → 1 ≤ bytes_in t bytes (take 1 xs)
  first-some [] h = absurd (omega (arith, h))
  first-some (x ∷ xs) h = omega arith

  pub bytes-some : (xs : List RowAt) → length xs ≤ bytes_in t bytes xs
  bytes-some [] = omega (arith)
  bytes-some (x ∷ xs) = omega (arith, bytes-some xs)

  -- the first of lines that are left
  pub bytes-first : (xs : List RowAt) (i : ℕ) (x : RowAt) → i < length xs → x ≡ get_or xs i x → (bytes_in t bytes (take 1 (drop i xs)) ≡ bytes_of t bytes x) × (bytes_in t bytes (take (i + 1) xs) ≡ bytes_in t bytes (take i xs) + bytes_of t bytes x)
  bytes-first xs i x h is =
      let split : drop i xs ≡ x ∷ drop (i + 1) xs = drop_more xs i x h ∙ ap (λ (y : RowAt). y ∷ drop (i + 1) xs) (sym is) in
      let one : bytes_in t bytes (take 1 (drop i xs)) ≡ bytes_of t bytes x + 0 = ap (λ l. bytes_in t bytes (take 1 l)) split in
      (omega (arith, one), omega (arith, one, bytes-more i 1 xs))

  -- ---- a paragraph

  pub text-few : (xs : List RowAt) → bytes_in t bytes (text_rows xs) ≤ bytes_in t bytes xs
  text-few xs = omega (arith, bytes-cut (prefix_len is_text_at xs) xs)

  pub text-step : (x : RowAt) (xs : List RowAt) → bytes_in t bytes (text_rows (x ∷ xs)) ≡ cond (is_text_at x) (bytes_of t bytes x + bytes_in t bytes (text_rows xs)) 0
  text-step x xs = by (is_text_at x)
    where
      by : (b : Bool) → bytes_in t bytes (take (cond b (1 + prefix_len is_text_at xs) 0) (x ∷ xs)) ≡ cond b (bytes_of t bytes x + bytes_in t bytes (text_rows xs)) 0
      by true = ap (λ m. bytes_in t bytes (take m (x ∷ xs))) (one-before (prefix_len is_text_at xs))
      by false = refl

  pub text-part : (d : ℕ) (xs : List RowAt) → d ≤ prefix_len is_text_at xs → bytes_in t bytes (text_rows xs) ≡ bytes_in t bytes (take d xs) + bytes_in t bytes (text_rows (drop d xs))
  text-part zero xs h = omega (arith)
  text-part (suc d) [] h = absurd (omega (arith, h))
  text-part (suc d) (x ∷ xs) h = by (text-part d xs) (is_text_at x) refl h
    where
      by : (d ≤ prefix_len is_text_at xs → bytes_in t bytes (text_rows xs) ≡ bytes_in t bytes (take d xs) + bytes_in t bytes (text_rows (drop d xs))) → (b : Bool) → is_text_at x ≡ b → suc d ≤ cond b (1 + prefix_len is_text_at xs) 0 → bytes_in t bytes (text_rows (x ∷ xs)) ≡ bytes_in t bytes (take (suc d) (x ∷ xs)) + bytes_in t bytes (text_rows (drop d xs))
      by more false e k = absurd (omega (arith, k))
      by more true e k =
          let step = text-step x xs ∙ ap (λ b. cond b (bytes_of t bytes x + bytes_in t bytes (text_rows xs)) 0) e in
          omega (arith, step, more (omega (arith, k)))

  -- the text of lines
  pub text-size : (xs : List RowAt) → length (text_in (rows_by t bytes xs)) ≤ bytes_in t bytes xs
  text-size [] = omega (arith)
  text-size (x ∷ xs) =
      let r = row_by t bytes x in
      let line = ap (λ (l : List ℕ). length l) (text_of_line_at t x.span.number x.span.start (drop x.span.start bytes)) in
      omega (arith, length-append (rest_of r) (cond (has_none (rows_by t bytes xs)) [] (10 ∷ text_in (rows_by t bytes xs))), length-drop x.row.columns (text_of r.line), line, more (has_none (rows_by t bytes xs)), text-size xs)
    where
      more : (b : Bool) → length (cond b [] (10 ∷ text_in (rows_by t bytes xs))) ≤ suc (length (text_in (rows_by t bytes xs)))
      more true = omega (arith)
      more false = omega (arith)

-- ---- nothing is defined directly behind definitions

rest-again : (n : ℕ) (y : List ℕ) → length y ≤ n → rest (rest y) ≡ rest y
rest-again n [] h = refl
rest-again zero (b ∷ bs) h = absurd (omega (arith, h))
rest-again (suc n) (b ∷ bs) h = by (λ y few. rest-again n y few) (definition_at (b ∷ bs)) refl
  where
    some : 0 < length (b ∷ bs)
    some = omega (arith)

    by : ((y : List ℕ) → length y ≤ n → rest (rest y) ≡ rest y) → (o : Option Definition) → definition_at (b ∷ bs) ≡ o → rest (rest (b ∷ bs)) ≡ rest (b ∷ bs)
    by shorter None e = ap rest (no-rest (b ∷ bs) e)
    by shorter (Some d) e =
        let on = rest-more (b ∷ bs) d some e in
        ap rest on ∙ shorter (drop (d.size + 1) (b ∷ bs)) (omega (arith, h, length-drop (d.size + 1) (b ∷ bs))) ∙ sym on

-- a text behind a line ending is that of its last lines
back-lines : (rs : List Row) (x w : List ℕ) → text_in rs ≡ x ++ 10 ∷ w → w ≡ text_in (drop (tens x + 1) rs)
back-lines [] x w e = absurd (omega (arith, ap (λ (l : List ℕ). length l) e, length-append x (10 ∷ w)))
back-lines (r ∷ []) x w e = absurd (omega (arith, ap tens e, tens-both x (10 ∷ w), ap tens (append-nil (rest_of r)), tens-rest r))
back-lines (r ∷ q ∷ qs) x w e =
    elim (two-cuts (rest_of r) (text_in (q ∷ qs)) x w (tens-rest r) e) [
      | inl same ↦ let one : tens x + 1 ≡ 1 = omega (arith, ap tens same.0, tens-rest r) in same.1 ∙ ap (λ n. text_in (drop n (r ∷ q ∷ qs))) (sym one)
      | inr later ↦
          let next = back-lines (q ∷ qs) later.more w later.back in
          let on : tens x + 1 ≡ suc (tens later.more + 1) = omega (arith, ap tens later.front, tens-both (rest_of r) (10 ∷ later.more), tens-rest r) in
          next ∙ ap (λ n. text_in (drop n (r ∷ q ∷ qs))) (sym on)
    ]

none-more : (n : ℕ) → n - n ≡ 0
none-more n = omega (arith)

none-after-all : (rs : List Row) → 1 ≤ lines_of (text_in rs) → lines_defined (text_in (drop (lines_of (text_in rs)) rs)) ≡ 0
none-after-all [] h = absurd (omega (arith, h))
none-after-all (r ∷ rs) h = by (text_in (r ∷ rs)) (tens-in r rs) h
  where
    by : (text : List ℕ) → tens text ≡ length rs → 1 ≤ lines_of text → lines_defined (text_in (drop (lines_of text) (r ∷ rs))) ≡ 0
    by [] e k = absurd (omega (arith, k))
    by (b ∷ bs) e k = ap (λ l. lines_defined (text_in l)) (drop_all (lines_of (b ∷ bs)) (r ∷ rs) (omega (arith, e)))

behind-lines : (rs : List Row) → 1 ≤ lines_defined (text_in rs) → lines_defined (text_in (drop (lines_defined (text_in rs)) rs)) ≡ 0
behind-lines rs h = by (rest (text_in rs)) refl
  where
    by : (w : List ℕ) → rest (text_in rs) ≡ w → lines_defined (text_in (drop (lines_defined (text_in rs)) rs)) ≡ 0
    by [] e =
        let all : lines_defined (text_in rs) ≡ lines_of (text_in rs) = omega (arith, ap lines_of e) in
        ap (λ n. lines_defined (text_in (drop n rs))) all ∙ none-after-all rs (omega (arith, h, all))
    by (b ∷ bs) e =
        let text = text_in rs in
        let some : 0 < length (rest text) = omega (arith, ap (λ (l : List ℕ). length l) e) in
        elim (left-begins (length text) text (omega arith) some) [
          | inl own ↦ absurd (omega (arith, h, ap lines_of own))
          | inr left ↦
              let w = rest text in
              let x = left.front in
              let more : 0 < length text = omega (arith, ap (λ (l : List ℕ). length l) left.is, length-append x (10 ∷ w)) in
              let count : lines_defined text ≡ tens x + 1 = omega (arith, lines-some text more, lines-some w some, ap tens left.is, tens-both x (10 ∷ w)) in
              ap (λ n. lines_defined (text_in (drop n rs))) count ∙ ap lines_defined (sym (back-lines rs x w left.is)) ∙ ap (λ y. lines_of w - lines_of y) (rest-again (length text) text (omega (arith))) ∙ none-more (lines_of w)
        ]

abbrev is_open : Row → Bool
is_open r = is_paragraph r.leaf

paragraph-behind : (d : ℕ) (rs : List Row) → d ≤ prefix_len is_open rs → paragraph_of (drop d rs) ≡ drop d (paragraph_of rs)
paragraph-behind zero rs h = refl
paragraph-behind (suc d) [] h = absurd (omega (arith, h))
paragraph-behind (suc d) (r ∷ rs) h = by (paragraph-behind d rs) (is_open r) h
  where
    by : (d ≤ prefix_len is_open rs → paragraph_of (drop d rs) ≡ drop d (paragraph_of rs)) → (b : Bool) → suc d ≤ cond b (1 + prefix_len is_open rs) 0 → paragraph_of (drop d rs) ≡ drop (suc d) (take (cond b (1 + prefix_len is_open rs) 0) (r ∷ rs))
    by more false k = absurd (omega (arith, k))
    by more true k = more (omega (arith, k)) ∙ sym (ap (λ m. drop (suc d) (take m (r ∷ rs))) (one-before (prefix_len is_open rs)))

module _ (on : Constructs) where
  pub defined-paragraph : (rs : List Row) → defined_in on rs ≤ prefix_len is_open rs
  defined-paragraph rs = by on.definition
    where
      by : (b : Bool) → cond b (lines_defined (text_in (paragraph_of rs))) 0 ≤ prefix_len is_open rs
      by false = omega (arith)
      by true = omega (arith, few-lines (paragraph_of rs), length-take (prefix_len is_open rs) rs)

  pub nothing-behind : (rs : List Row) → 1 ≤ defined_in on rs → defined_in on (drop (defined_in on rs) rs) ≡ 0
  nothing-behind rs h = by on.definition h
    where
      by : (b : Bool) → 1 ≤ cond b (lines_defined (text_in (paragraph_of rs))) 0 → cond b (lines_defined (text_in (paragraph_of (drop (cond b (lines_defined (text_in (paragraph_of rs))) 0) rs)))) 0 ≡ 0
      by false k = absurd (omega (arith, k))
      by true k =
          let d = lines_defined (text_in (paragraph_of rs)) in
          let few : d ≤ prefix_len is_open rs = omega (arith, few-lines (paragraph_of rs), length-take (prefix_len is_open rs) rs) in
          ap (λ l. lines_defined (text_in l)) (paragraph-behind d rs few) ∙ behind-lines (paragraph_of rs) k

  passes-open : (rs : List Row) → prefix_len is_open rs ≤ before_defined on true rs
  passes-open [] = omega (arith)
  passes-open (r ∷ rs) = by (is_open r) (passes-open rs)
    where
      by : (b : Bool) → prefix_len is_open rs ≤ before_defined on true rs → cond b (1 + prefix_len is_open rs) 0 ≤ suc (before_defined on b rs)
      by true k = omega (arith, k)
      by false k = omega (arith)

  -- a paragraph in which nothing is defined is passed
  pub passes : (rs : List Row) → defined_in on rs ≡ 0 → prefix_len is_open rs ≤ before_defined on false rs
  passes [] e = omega (arith)
  passes (r ∷ rs) e = let step : before_defined on false (r ∷ rs) ≡ suc (before_defined on (is_open r) rs) = ap (λ n. cond (nat_le 1 n) 0 (suc (before_defined on (is_open r) rs))) e in omega (arith, step, by (is_open r) (passes-open rs))
    where
      by : (b : Bool) → prefix_len is_open rs ≤ before_defined on true rs → cond b (1 + prefix_len is_open rs) 0 ≤ suc (before_defined on b rs)
      by true k = omega (arith, k)
      by false k = omega (arith)

  -- definitions are text
  pub defined-text : (r : Row) (rs : List Row) → 1 ≤ defined_in on (r ∷ rs) → is_open r ≡ true
  defined-text r rs h = by (is_open r) refl (defined-paragraph (r ∷ rs))
    where
      by : (b : Bool) → is_open r ≡ b → defined_in on (r ∷ rs) ≤ cond b (1 + prefix_len is_open rs) 0 → is_open r ≡ true
      by true e k = e
      by false e k = absurd (omega (arith, h, k))

-- ---- what it costs

-- a line that is passed: `p`, a paragraph is open before it; `t`, it is text
pub line-pays : (before start after passed line text behind : ℕ) (p t : Bool) → 1 ≤ line → before ≤ start + 45 * passed + cond p (21 * text) 0 → text ≡ cond t (line + behind) 0 → after ≤ before + 1 + cond p 0 (23 * line + 21 * text)
    → after ≤ start + 45 * (passed + line) + cond t (21 * behind) 0
line-pays before start after passed line text behind true true some paid is cost = omega (arith, some, paid, is, cost)
line-pays before start after passed line text behind true false some paid is cost = omega (arith, some, paid, is, cost)
line-pays before start after passed line text behind false true some paid is cost = omega (arith, some, paid, is, cost)
line-pays before start after passed line text behind false false some paid is cost = omega (arith, some, paid, is, cost)

pub none-paid : (p : Bool) (before start passed text : ℕ) → text ≡ 0 → before ≤ start + 45 * passed + cond p (21 * text) 0 → before ≤ start + 45 * passed + 45 * text
none-paid true before start passed text none paid = omega (arith, none, paid)
none-paid false before start passed text none paid = omega (arith, none, paid)

module _ (t : ℕ) (bytes : List ℕ) where
  -- a line that is looked at is one of the lines
  pub look-within : (rows : List RowAt) (n : ℕ) → n < length rows → (p : Bool) (before start after one : ℕ) → before ≤ start + 45 * bytes_in t bytes (take n rows) + cond p (21 * bytes_in t bytes (text_rows (drop n rows))) 0 → one ≡ before + 1
      → after ≤ one + cond p 0 (23 * bytes_in t bytes (take 1 (drop n rows)) + 21 * bytes_in t bytes (text_rows (drop n rows))) → after ≤ start + 45 * bytes_in t bytes rows
  look-within rows n h p before start after one paid is cost = by p paid cost
    where
      some : 1 ≤ bytes_in t bytes (drop n rows)
      some = omega (arith, h, length-drop n rows, bytes-some t bytes (drop n rows))

      few : bytes_in t bytes (text_rows (drop n rows)) ≤ bytes_in t bytes (drop n rows)
      few = text-few t bytes (drop n rows)

      first : bytes_in t bytes (take 1 (drop n rows)) ≤ bytes_in t bytes (drop n rows)
      first = omega (arith, bytes-cut t bytes 1 (drop n rows))

      by : (p : Bool) → before ≤ start + 45 * bytes_in t bytes (take n rows) + cond p (21 * bytes_in t bytes (text_rows (drop n rows))) 0
          → after ≤ one + cond p 0 (23 * bytes_in t bytes (take 1 (drop n rows)) + 21 * bytes_in t bytes (text_rows (drop n rows))) → after ≤ start + 45 * bytes_in t bytes rows
      by true k m = omega (arith, k, m, is, some, few, first, bytes-cut t bytes n rows)
      by false k m = omega (arith, k, m, is, some, few, first, bytes-cut t bytes n rows)

  -- definitions that are found are text
  pub found-paid : (on : Constructs) (xs : List RowAt) (all : List Row) → AreThese t bytes xs all → (lines : ℕ) (p : Bool) → lines ≡ cond p 0 (defined_in on all) → 1 ≤ lines → (before start after passed : ℕ) → before ≤ start + 45 * passed + cond p (21 * bytes_in t bytes (text_rows xs)) 0
      → after ≤ before + 1 + cond p 0 (23 * bytes_in t bytes (take 1 xs) + 21 * bytes_in t bytes (text_rows xs)) → after ≤ start + 45 * passed + 45 * bytes_in t bytes (text_rows xs)
  found-paid on xs all these lines true is some before start after passed paid cost = absurd (omega (arith, is, some))
  found-paid on [] [] these lines false is some before start after passed paid cost = absurd (omega (arith, is, some, nothing-in on))
  found-paid on [] (r ∷ rs) these lines false is some before start after passed paid cost = absurd these.rows
  found-paid on (x ∷ xs) [] these lines false is some before start after passed paid cost = absurd these.rows
  found-paid on (x ∷ xs) (r ∷ rs) these lines false is some before start after passed paid cost =
      let text : is_text_at x ≡ true = ap is_paragraph these.rows.0.leaf ∙ defined-text on r rs (omega (arith, is, some)) in
      let step = text-step t bytes x xs ∙ ap (λ b. cond b (bytes_of t bytes x + bytes_in t bytes (text_rows xs)) 0) text in
      omega (arith, paid, cost, step)

  -- lines of a part: `b`, definitions come directly before them, so that the paragraph was looked at; n, how many are passed, and d, how many have
  -- definitions
  module _ (on : Constructs) (xs : List RowAt) (all : List Row) (these : AreThese t bytes xs all) (b : Bool) (nothing : b ≡ true → defined_in on all ≡ 0) (n d : ℕ) (en : n ≡ before_defined on false all) (ed : d ≡ defined_in on (drop n all)) where
    pub passed-text : cond b (45 * bytes_in t bytes (text_rows xs)) 0 ≤ 45 * bytes_in t bytes (take n xs)
    passed-text = by b nothing
      where
        by : (b : Bool) → (b ≡ true → defined_in on all ≡ 0) → cond b (45 * bytes_in t bytes (text_rows xs)) 0 ≤ 45 * bytes_in t bytes (take n xs)
        by false none = omega (arith)
        by true none = let few = passes on all (none refl) in let same = size-is t bytes xs all these.rows in let fits : prefix_len is_text_at xs ≤ n = omega (arith, few, same, en) in omega (arith, bytes-within t bytes (prefix_len is_text_at xs) n xs fits)

    left-rows : AreRows (drop n xs) (drop n all)
    left-rows = rows-back n xs all these.rows

    pub found-text : bytes_in t bytes (text_rows (drop n xs)) ≡ bytes_in t bytes (take d (drop n xs)) + bytes_in t bytes (text_rows (drop d (drop n xs)))
    found-text = text-part t bytes d (drop n xs) (omega (arith, ed, defined-paragraph on (drop n all), size-is t bytes (drop n xs) (drop n all) left-rows))

    -- nothing is defined behind them
    pub none-left : defined_in on (drop d (drop n all)) ≡ 0
    none-left = by (drop n all) d ed
      where
        by : (rs : List Row) (d : ℕ) → d ≡ defined_in on rs → defined_in on (drop d rs) ≡ 0
        by rs zero e = sym e
        by rs (suc d) e = ap (λ k. defined_in on (drop k rs)) e ∙ nothing-behind on rs (omega (arith, e))

  pub bytes-left : (rows : List RowAt) (i : ℕ) → i < length rows → 1 ≤ bytes_in t bytes (drop i rows)
  bytes-left rows i h = omega (arith, h, length-drop i rows, bytes-some t bytes (drop i rows))

  -- lines that are passed pay for a turn each
  pub bytes-moved : (rows : List RowAt) (i n d : ℕ) → (i + n) + d ≤ length rows → n + d ≤ bytes_in t bytes (take n (drop i rows)) + bytes_in t bytes (take d (drop n (drop i rows)))
  bytes-moved rows i n d h =
      let front = length-take-le n (drop i rows) (omega (arith, h, length-drop i rows)) in
      let back = length-take-le d (drop n (drop i rows)) (omega (arith, h, length-drop n (drop i rows), length-drop i rows)) in
      omega (arith, front, back, bytes-some t bytes (take n (drop i rows)), bytes-some t bytes (take d (drop n (drop i rows))))

  pub debt-few : (xs : List RowAt) (b : Bool) → cond b (45 * bytes_in t bytes (text_rows xs)) 0 ≤ 45 * bytes_in t bytes xs
  debt-few xs true = omega (arith, text-few t bytes xs)
  debt-few xs false = omega (arith)

pub debt-none : (b : Bool) (n : ℕ) → n ≡ 0 → cond b (45 * n) 0 ≡ 0
debt-none true n e = omega (arith, e)
debt-none false n e = refl

-- ---- definitions

definitions-in : (n : ℕ) (y : List ℕ) → length y ≤ n → length (definitions y) ≤ length y
definitions-in n [] h = omega (arith)
definitions-in zero (b ∷ bs) h = absurd (omega (arith, h))
definitions-in (suc n) (b ∷ bs) h = by (λ y few. definitions-in n y few) (definition_at (b ∷ bs)) refl
  where
    some : 0 < length (b ∷ bs)
    some = omega (arith)

    by : ((y : List ℕ) → length y ≤ n → length (definitions y) ≤ length y) → (o : Option Definition) → definition_at (b ∷ bs) ≡ o → length (definitions (b ∷ bs)) ≤ length (b ∷ bs)
    by shorter None e = let none = ap (λ (l : List Definition). length l) (no-more (b ∷ bs) e) in omega (arith, none)
    by shorter (Some d) e =
        let left = drop (d.size + 1) (b ∷ bs) in
        let size = length-drop (d.size + 1) (b ∷ bs) in
        let one = ap (λ (l : List Definition). length l) (one-more (b ∷ bs) d some e) in
        let more = shorter left (omega (arith, h, size)) in
        omega (arith, one, more, size)

-- a text has no more definitions than bytes
pub definitions-few : (text : List ℕ) → length (definitions text) ≤ length text
definitions-few text = definitions-in (length text) text (omega (arith))

pub write-few : (columns : ℕ) (xs : List RowAt) → to_write columns xs ≤ 12 * columns_in xs
write-few columns [] = omega (arith)
write-few columns (x ∷ xs) = omega (arith)
