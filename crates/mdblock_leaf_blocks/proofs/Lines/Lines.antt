-- Lines of a text: what they are cut into, and that they stay lines where they are taken and dropped.
use Rattle.mdblock_leaf_blocks.proofs.Prelude.{◌≡◌, ℕ, zero, suc, ◌==◌, List, [], ◌∷◌, ◌++◌, Bool, true, false, cond, not, ◌⊎◌, inl, inr, take, drop, refl, sym, ap, ◌∙◌, subst, length, ◌≤◌, arith, eqb-true, flat_map-append, append_assoc, append-nil, take-append-drop, AllByRecursion, Seat, all_of, ending_of, is_line_ending, joined, line_text, lines_in, AreLines, IsLine, behind_block, block_seats, last_ending, Line, body, IsInLine}

-- one line

pub has-first : (l : List Seat) → 1 ≤ length l → (s : Seat) × (ss : List Seat) × (l ≡ s ∷ ss)
has-first [] some = absurd (omega (arith, some))
has-first (s ∷ ss) some = (s, ss, refl)

pub in-line-text : (line : Line) → IsInLine line → line_text line ≡ line
in-line-text [] h = refl
in-line-text (s ∷ ss) h = ap (λ b. cond (not b) (s ∷ line_text ss) (line_text ss)) h.0 ∙ ap (λ l. s ∷ l) (in-line-text ss h.1)

pub in-line-ending : (line : Line) → IsInLine line → ending_of line ≡ []
in-line-ending [] h = refl
in-line-ending (s ∷ ss) h = ap (λ b. cond b (s ∷ ending_of ss) (ending_of ss)) h.0 ∙ in-line-ending ss h.1

pub whole-text : (text : List Seat) (ending : Seat) → IsInLine text → ending.byte ≡ 10 → line_text (text ++ ending ∷ []) ≡ text
whole-text [] ending h feed = rw feed refl
whole-text (s ∷ ss) ending h feed = ap (λ b. cond (not b) (s ∷ line_text (ss ++ ending ∷ [])) (line_text (ss ++ ending ∷ []))) h.0 ∙ ap (λ l. s ∷ l) (whole-text ss ending h.1 feed)

pub whole-ending : (text : List Seat) (ending : Seat) → IsInLine text → ending.byte ≡ 10 → ending_of (text ++ ending ∷ []) ≡ ending ∷ []
whole-ending [] ending h feed = rw feed refl
whole-ending (s ∷ ss) ending h feed = ap (λ b. cond b (s ∷ ending_of (ss ++ ending ∷ [])) (ending_of (ss ++ ending ∷ []))) h.0 ∙ whole-ending ss ending h.1 feed

-- the text of any line has no line ending
pub text-in-line : (line : Line) → IsInLine (line_text line)
text-in-line [] = tt
text-in-line (s ∷ ss) = elim (is_line_ending s) as (λ b. is_line_ending s ≡ b → IsInLine (cond (not b) (s ∷ line_text ss) (line_text ss))) [
  | true ↦ λ e. text-in-line ss
  | false ↦ λ e. (e, text-in-line ss)
] refl

pub in-line-front : (xs ys : List Seat) → IsInLine (xs ++ ys) → IsInLine xs
in-line-front [] ys h = tt
in-line-front (x ∷ xs) ys h = (h.0, in-line-front xs ys h.1)

pub in-line-behind : (xs ys : List Seat) → IsInLine (xs ++ ys) → IsInLine ys
in-line-behind [] ys h = h
in-line-behind (x ∷ xs) ys h = in-line-behind xs ys h.1

-- A line with its line ending, and one without, as text and ending
pub line-text-is : (line : Line) → (h : IsLine line) → line_text line ≡ h.text
line-text-is line h = ap line_text h.is ∙ whole-text h.text h.ending h.in_line h.ends

pub line-ending-is : (line : Line) → (h : IsLine line) → ending_of line ≡ h.ending ∷ []
line-ending-is line h = ap ending_of h.is ∙ whole-ending h.text h.ending h.in_line h.ends

-- How a line ends, which more lines follow: with a line ending; or it is the last one, and has a byte
pub record EndsWithIt (line : Line) : Type 0 where
  pub ending : Seat
  pub is : ending_of line ≡ ending ∷ []
  pub feed : ending.byte ≡ 10

pub record EndsWithout (line : Line) (more : List Line) : Type 0 where
  pub is : ending_of line ≡ []
  pub last : more ≡ []
  pub some : ¬ (line_text line ≡ [])

pub record Cut (line : Line) (more : List Line) : Type 0 where
  pub whole : line_text line ++ ending_of line ≡ line
  pub ends : EndsWithIt line ⊎ EndsWithout line more

cut-whole : (line : Line) (more : List Line) → IsLine line → Cut line more
cut-whole line more h = record {
  whole = ap (λ l. l ++ ending_of line) (line-text-is line h) ∙ ap (λ l. h.text ++ l) (line-ending-is line h) ∙ sym h.is;
  ends = inl (record { ending = h.ending; is = line-ending-is line h; feed = h.ends });
}

pub cut-line : (line : Line) (more : List Line) → AreLines (line ∷ more) → Cut line more
cut-line line [] (inl h) = cut-whole line [] h
cut-line line [] (inr h) = record {
  whole = ap (λ l. l ++ ending_of line) (in-line-text line h.0) ∙ ap (λ l. line ++ l) (in-line-ending line h.0) ∙ append-nil line;
  ends = inr (record { is = in-line-ending line h.0; last = refl; some = λ e. h.1 (sym (in-line-text line h.0) ∙ e) });
}
cut-line line (next ∷ more) h = cut-whole line (next ∷ more) h.0

-- the last line, if it has no line ending
pub in-line-alone : (line : Line) (more : List Line) → AreLines (line ∷ more) → EndsWithout line more → IsInLine line
in-line-alone line more h without =
    let cut = cut-line line more h in
    let same : line_text line ≡ line = sym (append-nil (line_text line)) ∙ ap (λ l. line_text line ++ l) (sym without.is) ∙ cut.whole in
    subst IsInLine same (text-in-line line)

pub line-with-it : (line : Line) (more : List Line) → AreLines (line ∷ more) → EndsWithIt line → IsLine line
line-with-it line more h with =
    let cut = cut-line line more h in
    record { text = line_text line; ending = with.ending; is = sym (ap (λ l. line_text line ++ l) (sym with.is) ∙ cut.whole); in_line = text-in-line line; ends = with.feed }

-- many lines

-- a line with its line ending, before lines
pub whole-before : (line : Line) (lines : List Line) → IsLine line → AreLines lines → AreLines (line ∷ lines)
whole-before line [] is are = inl is
whole-before line (next ∷ lines) is are = (is, are)

longer : (s : Seat) (line : Line) → (s.byte == 10) ≡ false → IsLine line → IsLine (s ∷ line)
longer s line other is = record { text = s ∷ is.text; ending = is.ending; is = ap (λ l. s ∷ l) is.is; in_line = (other, is.in_line); ends = is.ends }

joined-lines : (s : Seat) (lines : List Line) → (s.byte == 10) ≡ false → AreLines lines → AreLines (joined s lines)
joined-lines s [] other are = inr ((other, tt), λ e. absurd (cc))
joined-lines s (line ∷ []) other (inl is) = inl (longer s line other is)
joined-lines s (line ∷ []) other (inr is) = inr ((other, is.0), λ e. absurd (cc))
joined-lines s (line ∷ next ∷ lines) other are = (longer s line other are.0, are.1)

-- The lines of a text are lines
pub lines-in-are : (l : List Seat) → AreLines (lines_in l)
lines-in-are [] = tt
lines-in-are (s ∷ ss) = elim (is_line_ending s) as (λ b. is_line_ending s ≡ b → AreLines (cond b ((s ∷ []) ∷ lines_in ss) (joined s (lines_in ss)))) [
  | true ↦ λ e. whole-before (s ∷ []) (lines_in ss) (record { text = []; ending = s; is = refl; in_line = tt; ends = eqb-true s.byte 10 e }) (lines-in-are ss)
  | false ↦ λ e. joined-lines s (lines_in ss) e (lines-in-are ss)
] refl

pub lines-behind : (line : Line) (lines : List Line) → AreLines (line ∷ lines) → AreLines lines
lines-behind line [] are = tt
lines-behind line (next ∷ lines) are = are.1

pub lines-dropped : (n : ℕ) (lines : List Line) → AreLines lines → AreLines (drop n lines)
lines-dropped zero lines are = are
lines-dropped (suc n) [] are = tt
lines-dropped (suc n) (line ∷ lines) are = lines-dropped n lines (lines-behind line lines are)

pub lines-taken : (n : ℕ) (lines : List Line) → AreLines lines → AreLines (take n lines)
lines-taken zero lines are = tt
lines-taken (suc n) [] are = tt
lines-taken (suc zero) (line ∷ []) are = are
lines-taken (suc zero) (line ∷ next ∷ lines) are = inl are.0
lines-taken (suc (suc n)) (line ∷ []) are = are
lines-taken (suc (suc n)) (line ∷ next ∷ lines) are = (are.0, lines-taken (suc n) (next ∷ lines) are.1)

-- lines that others follow have their line endings
pub taken-are-whole : (n : ℕ) (lines : List Line) (next : Line) (more : List Line) → AreLines lines → drop n lines ≡ next ∷ more → AllByRecursion IsLine (take n lines)
taken-are-whole zero lines next more are e = tt
taken-are-whole (suc n) [] next more are e = absurd (cc)
taken-are-whole (suc zero) (line ∷ []) next more are e = absurd (cc)
taken-are-whole (suc (suc n)) (line ∷ []) next more are e = absurd (cc)
taken-are-whole (suc n) (line ∷ second ∷ lines) next more are e = (are.0, taken-are-whole n (second ∷ lines) next more are.1 e)

-- all virtual bytes

pub all-of-append : (xs ys : List Line) → all_of (xs ++ ys) ≡ all_of xs ++ all_of ys
all-of-append xs ys = flat_map-append (λ (line : Line). line) xs ys

pub all-of-split : (n : ℕ) (lines : List Line) → all_of (take n lines) ++ all_of (drop n lines) ≡ all_of lines
all-of-split n lines = sym (all-of-append (take n lines) (drop n lines)) ∙ ap all_of (take-append-drop n lines)

-- lines without the last line ending, and that
pub body-with-ending : (lines : List Line) → AreLines lines → body lines ++ last_ending lines ≡ all_of lines
body-with-ending [] are = refl
body-with-ending (line ∷ []) are = (cut-line line [] are).whole ∙ sym (append-nil line)
body-with-ending (line ∷ next ∷ lines) are = append_assoc line (body (next ∷ lines)) (last_ending (next ∷ lines)) ∙ ap (λ l. line ++ l) (body-with-ending (next ∷ lines) are.1)

-- the virtual bytes of a block, and those behind it
pub seats-split : (is_open : Bool) (n : ℕ) (lines : List Line) → AreLines lines → block_seats is_open (take n lines) ++ behind_block is_open (take n lines) (drop n lines) ≡ all_of lines
seats-split true n lines are = all-of-split n lines
seats-split false n lines are =
    sym (append_assoc (body (take n lines)) (last_ending (take n lines)) (all_of (drop n lines)))
    ∙ ap (λ l. l ++ all_of (drop n lines)) (body-with-ending (take n lines) (lines-taken n lines are)) ∙ all-of-split n lines

-- all lines, and the text of one behind them
pub body-and-text : (lines : List Line) (last : Line) → body (lines ++ last ∷ []) ≡ all_of lines ++ line_text last
body-and-text [] last = refl
body-and-text (line ∷ []) last = ap (λ l. l ++ line_text last) (sym (append-nil line))
body-and-text (line ∷ next ∷ lines) last = ap (λ l. line ++ l) (body-and-text (next ∷ lines) last) ∙ sym (append_assoc line (all_of (next ∷ lines)) (line_text last))
