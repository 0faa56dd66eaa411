-- Lines and parts of them: a line is its text and its line ending.
use Rattle.mdblock_leaf_blocks.proofs.Prelude.{◌≡◌, ℕ, zero, suc, ◌+◌, ◌-◌, ◌≤◌, List, [], ◌∷◌, ◌++◌, true, false, cond, not, ◌⊎◌, inl, inr, append_assoc, length, take, drop, refl, sym, ap, ◌∙◌, subst, arith, append-nil, drop-drop, take-append-drop, AllByRecursion, Seat, all_of, ending_of, is_line_ending, joined, line_text, lines_in, last_ending, Line, body}

-- ---- parts of virtual bytes

-- from one place to another, and the rest
pub part-behind : (a e : ℕ) (s : List Seat) → a ≤ e → take (e - a) (drop a s) ++ drop e s ≡ drop a s
part-behind a e s l =
    let there : e ≡ a + (e - a) = omega (arith, l) in
    ap (λ r. take (e - a) (drop a s) ++ r) (ap (λ n. drop n s) there ∙ sym (drop-drop (e - a) a s)) ∙ take-append-drop (e - a) (drop a s)

pub three-parts : (a e : ℕ) (s : List Seat) → a ≤ e → take a s ++ (take (e - a) (drop a s) ++ drop e s) ≡ s
three-parts a e s l = ap (λ r. take a s ++ r) (part-behind a e s l) ∙ take-append-drop a s

-- ---- one line

-- nothing comes behind the line ending of a line
abbrev pub IsWhole : Line → Type 0
IsWhole [] = Unit {0}
IsWhole (s ∷ ss) = ((is_line_ending s ≡ false) × IsWhole ss) ⊎ ((is_line_ending s ≡ true) × (ss ≡ []))

pub text-and-ending : (line : Line) → IsWhole line → line_text line ++ ending_of line ≡ line
text-and-ending [] h = refl
text-and-ending (s ∷ ss) (inl h) = ap (λ b. cond (not b) (s ∷ line_text ss) (line_text ss) ++ cond b (s ∷ ending_of ss) (ending_of ss)) h.0 ∙ ap (λ l. s ∷ l) (text-and-ending ss h.1)
text-and-ending (s ∷ ss) (inr h) = ap (λ b. cond (not b) (s ∷ line_text ss) (line_text ss) ++ cond b (s ∷ ending_of ss) (ending_of ss)) h.0 ∙ ap (λ l. line_text l ++ s ∷ ending_of l) h.1 ∙ ap (λ l. s ∷ l) (sym h.1)

pub whole-behind : (n : ℕ) (line : Line) → IsWhole line → IsWhole (drop n line)
whole-behind zero line h = h
whole-behind (suc n) [] h = tt
whole-behind (suc n) (s ∷ ss) (inl h) = whole-behind n ss h.1
whole-behind (suc n) (s ∷ ss) (inr h) = whole-behind n ss (subst IsWhole (sym h.1) tt)

pub none-taken : (n : ℕ) → take {A = Seat} n [] ≡ []
none-taken zero = refl
none-taken (suc n) = refl

pub whole-front : (n : ℕ) (line : Line) → IsWhole line → IsWhole (take n line)
whole-front zero line h = tt
whole-front (suc n) [] h = tt
whole-front (suc n) (s ∷ ss) (inl h) = inl (h.0, whole-front n ss h.1)
whole-front (suc n) (s ∷ ss) (inr h) = inr (h.0, ap (take n) h.1 ∙ none-taken n)

pub whole-part : (n from : ℕ) (line : Line) → IsWhole line → IsWhole (take n (drop from line))
whole-part n from line h = whole-front n (drop from line) (whole-behind from line h)

-- the text of a line is one, and its line ending
pub whole-text : (line : Line) → IsWhole (line_text line)
whole-text [] = tt
whole-text (s ∷ ss) = elim (is_line_ending s) as (λ b. is_line_ending s ≡ b → IsWhole (cond (not b) (s ∷ line_text ss) (line_text ss))) [
  | true ↦ λ e. whole-text ss
  | false ↦ λ e. inl (e, whole-text ss)
] refl

pub whole-ending : (line : Line) → IsWhole line → IsWhole (ending_of line)
whole-ending [] h = tt
whole-ending (s ∷ ss) (inl h) = subst IsWhole (sym (ap (λ b. cond b (s ∷ ending_of ss) (ending_of ss)) h.0)) (whole-ending ss h.1)
whole-ending (s ∷ ss) (inr h) = subst IsWhole (sym (ap (λ b. cond b (s ∷ ending_of ss) (ending_of ss)) h.0 ∙ ap (λ l. s ∷ ending_of l) h.1)) (inr (h.0, refl))

-- what a line begins with is no part of its line ending
pub text-behind : (n : ℕ) (line : Line) → IsWhole line → n ≤ length (line_text line) → take n line ++ line_text (drop n line) ≡ line_text line
text-behind zero line h l = refl
text-behind (suc n) [] h l = refl
text-behind (suc n) (s ∷ ss) (inl h) l =
    let is : line_text (s ∷ ss) ≡ s ∷ line_text ss = ap (λ b. cond (not b) (s ∷ line_text ss) (line_text ss)) h.0 in
    let long = ap length is in
    ap (λ l. s ∷ l) (text-behind n ss h.1 (omega (arith, l, long))) ∙ sym is
text-behind (suc n) (s ∷ ss) (inr h) l =
    let is : line_text (s ∷ ss) ≡ [] = ap (λ b. cond (not b) (s ∷ line_text ss) (line_text ss)) h.0 ∙ ap line_text h.1 in
    let long = ap length is in
    absurd (omega (arith, l, long))

-- ---- many lines

whole-joined : (s : Seat) (lines : List Line) → is_line_ending s ≡ false → AllByRecursion IsWhole lines → AllByRecursion IsWhole (joined s lines)
whole-joined s [] e h = (inl (e, tt), tt)
whole-joined s (line ∷ lines) e h = (inl (e, h.0), h.1)

pub whole-lines : (seats : List Seat) → AllByRecursion IsWhole (lines_in seats)
whole-lines [] = tt
whole-lines (s ∷ ss) = elim (is_line_ending s) as (λ b. is_line_ending s ≡ b → AllByRecursion IsWhole (cond b ((s ∷ []) ∷ lines_in ss) (joined s (lines_in ss)))) [
  | true ↦ λ e. (inr (e, refl), whole-lines ss)
  | false ↦ λ e. whole-joined s (lines_in ss) e (whole-lines ss)
] refl

pub body-and-last : (lines : List Line) → AllByRecursion IsWhole lines → body lines ++ last_ending lines ≡ all_of lines
body-and-last [] h = refl
body-and-last (line ∷ []) h = text-and-ending line h.0 ∙ sym (append-nil line)
body-and-last (line ∷ next ∷ lines) h = append_assoc line (body (next ∷ lines)) (last_ending (next ∷ lines)) ∙ ap (λ l. line ++ l) (body-and-last (next ∷ lines) h.1)
