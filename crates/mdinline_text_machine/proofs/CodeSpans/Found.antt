-- The place of the backtick string that closes a code span: it is looked for from the front, a byte at a time.
use Rattle.markdown_base.proofs.Facts.Numbers.{unlike}
use Rattle.mdconstructs_tables.specs.Breaks.{is_white}
use Rattle.mdinline_text_machine.proofs.Prelude.{not-true, prefix_len, ◌≡◌, ℕ, zero, suc, ◌+◌, ◌<◌, ◌∷◌, [], List, Bool, true, false, cond, not, ◌&&◌, ◌==◌, refl, sym, ◌∙◌, ap, subst, Option, Some, None, arith, length, take, drop, option_map, max, and-false, drop-drop, eqb-true, nat_tests, last_or, position_or_len, find, range_with_len, and-right, Event, Seat, line_ending, plain_run, passes, ends_with, is_backtick_or_line_feed, backticks, before_backtick_string, is_backtick_string, code_span_found, code_span_with, part_length, part_at, plain_length, is_backtick}

-- the place of a backtick string, from further in front
abbrev pub further : ℕ → Option ℕ → Option ℕ
further n o = option_map (λ m. n + m) o

-- the place of the first backtick string of exactly k, by whether a backtick precedes the front
abbrev pub first_run : (k : ℕ) → (before : Bool) → List ℕ → Option ℕ
first_run k before [] = None
first_run k before (b ∷ bs) = cond (not before && (backticks (b ∷ bs) == k)) (Some 0) (further 1 (first_run k (b == 96) bs))

-- sums of such places
pub further-further : (m n : ℕ) (o : Option ℕ) → further m (further n o) ≡ further (m + n) o
further-further m n None = refl
further-further m n (Some x) = let e : m + (n + x) ≡ m + n + x = omega arith in ap Some e

pub no-further : (o : Option ℕ) → further 0 o ≡ o
no-further None = refl
no-further (Some m) = let e : 0 + m ≡ m = omega arith in ap Some e

-- the last byte up to a position, and that one
last-behind : (o : Option ℕ) (text : List ℕ) (i b : ℕ) (bs : List ℕ) → drop i text ≡ b ∷ bs → last_or o (take (suc i) text) ≡ Some b
last-behind o [] zero b bs h = absurd (cc)
last-behind o [] (suc i) b bs h = absurd (cc)
last-behind o (x ∷ xs) zero b bs h = let e : x ≡ b = cc in ap Some e
last-behind o (x ∷ xs) (suc i) b bs h = last-behind (Some x) xs i b bs h

module _ (text : List ℕ) (k : ℕ) where
  -- what is found from a position on
  found : (rest : List ℕ) (i : ℕ) (before : Bool) → drop i text ≡ rest → ends_with (take i text) is_backtick ≡ before
      → find (is_backtick_string text k) (range_with_len i (length rest)) ≡ further i (first_run k before rest)
  found [] i before at is = refl
  found (b ∷ bs) i before at is =
      let here : is_backtick_string text k i ≡ (not before && (backticks (b ∷ bs) == k)) = ap (λ l. not (ends_with (take i text) is_backtick) && (backticks l == k)) at ∙ ap (λ c. not c && (backticks (b ∷ bs) == k)) is in
      let next : drop (i + 1) text ≡ bs = sym (drop-drop 1 i text) ∙ ap (drop 1) at in
      let one : i + 1 ≡ suc i = omega arith in
      let front : ends_with (take (i + 1) text) is_backtick ≡ (b == 96) = ap (λ n. ends_with (take n text) is_backtick) one ∙ ap (passes is_backtick) (last-behind None text i b bs at) in
      let others = found bs (i + 1) (b == 96) next front ∙ sym (further-further i 1 (first_run k (b == 96) bs)) in
      let zero-behind : i + 0 ≡ i = omega arith in
      ap (λ c. cond c (Some i) (find (is_backtick_string text k) (range_with_len (i + 1) (length bs)))) here
      ∙ elim (not before && (backticks (b ∷ bs) == k)) as (λ t. cond t (Some i) (find (is_backtick_string text k) (range_with_len (i + 1) (length bs))) ≡ further i (cond t (Some 0) (further 1 (first_run k (b == 96) bs)))) [
        | true ↦ ap Some (sym zero-behind)
        | false ↦ others
      ]

-- data is no backtick
pub no-tick : (b : ℕ) → is_backtick_or_line_feed b ≡ false → (b == 96) ≡ false
no-tick b h = grind (arith, nat_tests)

-- nothing is found in the first n bytes, by whether a backtick precedes them, and what is behind them
abbrev pub Passes : (k : ℕ) → (before after : Bool) → List ℕ → (n : ℕ) → Type 0
Passes k before after text n = first_run k before text ≡ further n (first_run k after (drop n text))

-- nor in more of them
passes-more : (k : ℕ) (before between after : Bool) (text : List ℕ) (m n : ℕ) → Passes k before between text m → Passes k between after (drop m text) n → Passes k before after text (m + n)
passes-more k before between after text m n h i = h ∙ ap (further m) i ∙ further-further m n _ ∙ ap (λ l. further (m + n) (first_run k after l)) (drop-drop n m text)

-- nothing begins in bytes that are no backticks
pub no-run : (k : ℕ) → 0 < k → (before : Bool) (b : ℕ) (bs : List ℕ) → (b == 96) ≡ false → first_run k before (b ∷ bs) ≡ further 1 (first_run k false bs)
no-run k some before b bs h =
    let other : (0 == k) ≡ false = grind (arith, nat_tests) in
    let no : (not before && (backticks (b ∷ bs) == k)) ≡ false = ap (λ t. not before && (cond t (1 + backticks bs) 0 == k)) h ∙ ap (λ t. not before && t) other ∙ and-false _ in
    ap (λ t. cond t (Some 0) (further 1 (first_run k (b == 96) bs))) no ∙ ap (λ t. further 1 (first_run k t bs)) h

-- a backtick string, behind its first backtick, is passed
passes-run : (k : ℕ) → 0 < k → (text : List ℕ) → Passes k true false text (backticks text)
passes-run k some [] = refl
passes-run k some (b ∷ bs) = elim (b == 96) as (λ t. (b == 96) ≡ t → Passes k true false (b ∷ bs) (cond t (1 + backticks bs) 0)) [
  | true ↦ λ e. passes-more k true true false (b ∷ bs) 1 (backticks bs) (ap (λ t. further 1 (first_run k t bs)) e) (passes-run k some bs)
  | false ↦ λ e. no-run k some true b bs e ∙ sym (no-run k some false b bs e) ∙ sym (no-further _)
] refl

-- and so are other bytes
passes-over : (P : ℕ → Bool) → ((b : ℕ) → P b ≡ true → (b == 96) ≡ false) → (k : ℕ) → 0 < k → (text : List ℕ) → Passes k false false text (prefix_len P text)
passes-over P none k some [] = refl
passes-over P none k some (b ∷ bs) =
    elim (P b) as (λ t. P b ≡ t → Passes k false false (b ∷ bs) (cond t (1 + prefix_len P bs) 0)) [
      | true ↦ λ e. passes-more k false false false (b ∷ bs) 1 (prefix_len P bs) (no-run k some false b bs (none b e)) (passes-over P none k some bs)
      | false ↦ λ e. sym (no-further _)
    ] refl

passes-data : (k : ℕ) → 0 < k → (text : List ℕ) → Passes k false false text (position_or_len is_backtick_or_line_feed text)
passes-data k some text = passes-over (λ b. not (is_backtick_or_line_feed b)) (λ b e. no-tick b (not-true _ e)) k some text

-- what begins a piece of data: a whole backtick string of another length, or a byte
passes-first : (k : ℕ) → 0 < k → (b : ℕ) (bs : List ℕ) → (backticks (b ∷ bs) == k) ≡ false → Passes k false false (b ∷ bs) (max 1 (backticks (b ∷ bs)))
passes-first k some b bs h = elim (b == 96) as (λ t. (b == 96) ≡ t → Passes k false false (b ∷ bs) (max 1 (cond t (1 + backticks bs) 0))) [
  | true ↦ λ e.
      let more : 1 + backticks bs ≡ max 1 (1 + backticks bs) = omega arith in
      let behind : Passes k false true (b ∷ bs) 1 = ap (λ t. cond t (Some 0) (further 1 (first_run k (b == 96) bs))) h ∙ ap (λ t. further 1 (first_run k t bs)) e in
      subst (Passes k false false (b ∷ bs)) more (passes-more k false true false (b ∷ bs) 1 (backticks bs) behind (passes-run k some bs))
  | false ↦ λ e. no-run k some false b bs e
] refl

-- plain text is passed, unless it begins with the backtick string that is looked for
pub passes-plain : (k : ℕ) → 0 < k → (b : ℕ) (bs : List ℕ) → (backticks (b ∷ bs) == k) ≡ false → Passes k false false (b ∷ bs) (plain_length is_backtick_or_line_feed (b ∷ bs))
passes-plain k some b bs h =
    let r = max 1 (backticks (b ∷ bs)) in
    let rest = drop r (b ∷ bs) in
    passes-more k false false false (b ∷ bs) r (position_or_len is_backtick_or_line_feed rest) (passes-first k some b bs h) (passes-data k some rest)

-- a line ending is, with the white space behind it
pub passes-line : (k : ℕ) → 0 < k → (b : ℕ) (bs : List ℕ) → (b == 10) ≡ true → Passes k false false (b ∷ bs) (1 + prefix_len is_white bs)
passes-line k some b bs e =
    passes-more k false false false (b ∷ bs) 1 (prefix_len is_white bs) (no-run k some false b bs (ap (λ c. c == 96) (eqb-true b 10 e))) (passes-over is_white (λ c h. unlike is_white 96 refl c h) k some bs)

-- a whole piece is passed
pub passes-piece : (k : ℕ) → 0 < k → (b : ℕ) (bs : List ℕ) → (backticks (b ∷ bs) == k) ≡ false → Passes k false false (b ∷ bs) (part_length (part_at is_backtick_or_line_feed (b ∷ bs)))
passes-piece k some b bs h =
    elim (b == 10) as (λ t. (b == 10) ≡ t → Passes k false false (b ∷ bs) (part_length (cond t line_ending (plain_run (plain_length is_backtick_or_line_feed (b ∷ bs)))))) [
      | true ↦ λ e. no-run k some false b bs (ap (λ c. c == 96) (eqb-true b 10 e))
      | false ↦ λ e. passes-plain k some b bs h
    ] refl

-- A code span is there if a backtick string that closes it is found behind the one that opens it
pub code-span-found : (between_them : List ℕ → List Seat → List Event) (b : ℕ) (bs : List ℕ) → b ≡ 96
    → let text = b ∷ bs in code_span_found between_them text ≡ option_map (code_span_with between_them (backticks text)) (first_run (backticks text) false (drop (backticks text) text))
code-span-found between_them b bs is =
    let text = b ∷ bs in
    let k = backticks text in
    ap (λ c. cond (c == 96) (option_map (code_span_with between_them k) (before_backtick_string k (drop k text))) None) is
    ∙ ap (option_map (code_span_with between_them k)) (found (drop k text) k (drop k text) 0 false refl refl ∙ no-further (first_run k false (drop k text)))

-- a place that was found, from one byte further on
found-behind : (o : Option ℕ) (m : ℕ) → further 1 o ≡ Some m → (n : ℕ) × (o ≡ Some n) × (m ≡ suc n)
found-behind None m h = absurd (cc)
found-behind (Some n) m h = let e : 1 + n ≡ m = cc in (n, refl, omega (arith, e))

-- a backtick string that is found is as long
pub first-run-is : (k : ℕ) (before : Bool) (text : List ℕ) (m : ℕ) → first_run k before text ≡ Some m → backticks (drop m text) ≡ k
first-run-is k before [] m h = absurd (cc)
first-run-is k before (b ∷ bs) m h =
    elim (not before && (backticks (b ∷ bs) == k)) as (λ t. (not before && (backticks (b ∷ bs) == k)) ≡ t → cond t (Some 0) (further 1 (first_run k (b == 96) bs)) ≡ Some m → backticks (drop m (b ∷ bs)) ≡ k) [
      | true ↦ λ e i. let at : 0 ≡ m = cc in subst (λ n. backticks (drop n (b ∷ bs)) ≡ k) at (eqb-true (backticks (b ∷ bs)) k (and-right (not before) (backticks (b ∷ bs) == k) e))
      | false ↦ λ e i.
          let behind = found-behind (first_run k (b == 96) bs) m i in
          ap (λ n. backticks (drop n (b ∷ bs))) behind.2 ∙ first-run-is k (b == 96) bs behind.0 behind.1
    ] refl h
