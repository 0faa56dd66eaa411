-- The constructs of inline text by their bytes; and the classes at which the machine goes on with data.
use Rattle.std.proofs.lemmas.Bool.{or_parts}
use Rattle.mdinline_machine.proofs.Prelude.{◌≡◌, ℕ, ◌&&◌, ◌||◌, List, ◌∷◌, Bool, true, false, cond, sym, ap, ◌∙◌, arith, or-false, nat_tests, Constructs, is_white, autolinks-apart, lined-code-apart, AreApart, begins-classed, escapes-apart, line-classed, is_line_feed, some_begins, some_first, item_length, is_line_feed_class, punctuation, text_byte, emails-apart, html-marks-apart, html-tags-apart, break-escapes-apart, references-apart, begins_run, ends_data, marked_grammars, behind_autolinks, behind_emails, behind_escapes, behind_marks, inline_constructs, Found, first_there, none-there, ◌<◌, data_length, data_run, delimiter_run, inline_item_at, line_break, run_length, run_or_part, positive, prefix_len, there-holds, trailing-break-some, white-space-some, white_grammars, Memory, begins_bracket, bracket_or_part}
use Rattle.mdinline_machine.proofs.RunBytes.{no-run}
use Rattle.mdinline_machine.proofs.BracketBytes.{begins-no-bracket, some-bracket, white-no-bracket}

pub behind-escapes-apart : AreApart text_byte item_length behind_escapes
behind-escapes-apart = (break-escapes-apart, (references-apart, tt))

pub behind-marks-apart : AreApart text_byte item_length behind_marks
behind-marks-apart = (html-tags-apart, (record { classed = escapes-apart.classed; nowhere = escapes-apart.nowhere; some = escapes-apart.some }, behind-escapes-apart))

pub behind-emails-apart : AreApart text_byte item_length behind_emails
behind-emails-apart = (record { classed = html-marks-apart.classed; nowhere = html-marks-apart.nowhere; some = html-marks-apart.some }, behind-marks-apart)

pub behind-autolinks-apart : AreApart text_byte item_length behind_autolinks
behind-autolinks-apart = (record { classed = emails-apart.classed; nowhere = emails-apart.nowhere; some = emails-apart.some }, behind-emails-apart)

pub inline-apart : AreApart text_byte item_length inline_constructs
inline-apart = (record { classed = lined-code-apart.classed; nowhere = lined-code-apart.nowhere; some = lined-code-apart.some }, (record { classed = autolinks-apart.classed; nowhere = autolinks-apart.nowhere; some = autolinks-apart.some }, behind-autolinks-apart))

-- white space ends no data by itself
pub white-plain : (on : Constructs) (b : ℕ) → is_white b ≡ true → ends_data on b ≡ false
white-plain on b h =
    let line : is_line_feed b ≡ false = grind (arith, nat_tests) in
    let marked : some_first marked_grammars b ≡ false = grind (arith, nat_tests) in
    let run = no-run on b (grind (arith, nat_tests)) in
    let bracket = begins-no-bracket on b (white-no-bracket b h) in
    (λ i. line i || (marked i || (run i || bracket i)))

-- no construct with a mark begins with white space
pub white-unmarked : (on : Constructs) (b : ℕ) (bs : List ℕ) (other : Found) → is_white b ≡ true → first_there marked_grammars on (b ∷ bs) other ≡ other
white-unmarked on b bs other h =
    let none : some_first marked_grammars b ≡ false = grind (arith, nat_tests) in
    none-there text_byte item_length inline_constructs inline-apart on b bs other none

-- a class ends data exactly if a line ending or a construct may begin with the byte
pub special-classed : (b : ℕ) → (is_line_feed_class (text_byte b) || some_begins inline_constructs (text_byte b)) ≡ (is_line_feed b || some_first marked_grammars b)
special-classed b = λ i. line-classed b i || begins-classed text_byte item_length inline_constructs inline-apart b i

-- a byte begins a run, a bracket or an end
abbrev pub begins_mark : Constructs → ℕ → Bool
begins_mark on b = begins_run on b || begins_bracket on b

-- so data ends at a byte that begins none of them
pub marked-classed : (on : Constructs) (b : ℕ) → begins_mark on b ≡ false → (is_line_feed_class (text_byte b) || some_begins inline_constructs (text_byte b)) ≡ ends_data on b
marked-classed on b none =
    let marked = some_first marked_grammars b in
    special-classed b ∙ ap (λ t. is_line_feed b || t) (sym (or-false marked) ∙ ap (λ t. marked || t) (sym none))

-- and at punctuation if it begins one
pub punctuation-ends : (on : Constructs) (b : ℕ) → text_byte b ≡ punctuation → ends_data on b ≡ begins_mark on b
punctuation-ends on b is =
    let (line, marked) = or_parts (is_line_feed b) (some_first marked_grammars b) (sym (special-classed b) ∙ ap (λ w. is_line_feed_class w || some_begins inline_constructs w) is) in
    λ i. line i || (marked i || begins_mark on b)

-- ---- each item is a byte at least
some-part : (on : Constructs) (b : ℕ) (bs : List ℕ) → 0 < item_length (run_or_part on (b ∷ bs))
some-part on b bs =
    let text = b ∷ bs in
    elim (begins_run on b) as (λ t. 0 < item_length (cond t (delimiter_run (run_length text)) (cond (is_line_feed b) (line_break (prefix_len is_white bs)) (data_run (data_length on text))))) [
      | true ↦ omega arith
      | false ↦ elim (is_line_feed b) as (λ t. 0 < item_length (cond t (line_break (prefix_len is_white bs)) (data_run (data_length on text)))) [ true ↦ omega arith | false ↦ omega arith ]
    ]

-- white space at the end of a line, or else another
pub some-white : (on : Constructs) (b : ℕ) (bs : List ℕ) (other : Found) → 0 < item_length other → 0 < item_length (first_there white_grammars on (b ∷ bs) other)
some-white on b bs other some = there-holds (λ (item : Found). 0 < item_length item) white_grammars on (b ∷ bs) other (trailing-break-some b bs, (white-space-some b bs, tt)) some

pub some-item : (on : Constructs) (defined : List ℕ → Bool) (doc : List ℕ) (m : Memory) (b : ℕ) (bs : List ℕ) → 0 < item_length (inline_item_at on defined doc m (b ∷ bs))
some-item on defined doc m b bs =
    let part = bracket_or_part on defined doc m (b ∷ bs) in
    let other = first_there white_grammars on (b ∷ bs) part in
    positive text_byte item_length inline_constructs inline-apart on b bs other (some-white on b bs part (some-bracket on defined doc m (b ∷ bs) (run_or_part on (b ∷ bs)) (some-part on b bs)))
