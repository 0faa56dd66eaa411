-- The backtick string that a text begins with: an item of inline text has it whole, and may be looked at as often as it has bytes.
use Rattle.mdinline_machine.proofs.Prelude.{◌≡◌, ℕ, ◌+◌, ◌≤◌, ◌||◌, List, ◌∷◌, true, false, cond, sym, ap, ◌∙◌, arith, nat_tests, Constructs, is_white, backticks, is_backtick, is_line_feed, item_length, first_plain, begins_run, delimiter_run, line_break, run_length, prefix_len, refl}
use Rattle.mdinline_machine.proofs.DataBytes.{data_joined, joined_part}
use Rattle.mdinline_machine.proofs.BracketBytes.{begins-no-bracket, tick-no-bracket}
use Rattle.mdinline_machine.proofs.PartReads.{is_own, unbracketed}
use Rattle.mdinline_machine.proofs.RunBytes.{no-run}
use Rattle.mdinline_machine.proofs.WhiteBytes.{white-none}

-- there is none at another byte
pub no-backticks : (b : ℕ) (bs : List ℕ) → is_backtick b ≡ false → backticks (b ∷ bs) ≡ 0
no-backticks b bs tick = ap (λ t. cond t (1 + backticks bs) 0) tick

-- data has it whole
pub data-run : (on : Constructs) (b : ℕ) (bs : List ℕ) → is_line_feed b ≡ false → begins_run on b ≡ false → is_white b ≡ false → backticks (b ∷ bs) ≤ item_length (unbracketed on (b ∷ bs))
data-run on b bs line run white =
    let text = b ∷ bs in
    let is : unbracketed on text ≡ data_joined on text = white-none on b bs (joined_part on text) white ∙ (λ i. cond (run i) (delimiter_run (run_length text)) (cond (line i) (line_break (prefix_len is_white bs)) (data_joined on text))) in
    let size : item_length (unbracketed on text) ≡ item_length (data_joined on text) = ap item_length is in
    let first : backticks text ≤ first_plain text = omega arith in
    omega (arith, size, first)

-- a line ending, a run, a bracket, an end or white space is no backtick
pub own-no-tick : (on : Constructs) (b : ℕ) → is_own on b ≡ true → is_backtick b ≡ false
own-no-tick on b own =
    elim (is_backtick b) as (λ t. is_backtick b ≡ t → t ≡ false) [
      | true ↦ λ is.
          let e : b ≡ 96 = grind (arith, nat_tests) in
          let line : is_line_feed b ≡ false = ap is_line_feed e in
          let run : begins_run on b ≡ false = ap (begins_run on) e ∙ no-run on 96 refl in
          let bracket = begins-no-bracket on b (tick-no-bracket b is) in
          let white : is_white b ≡ false = ap is_white e in
          absurd (let no : false ≡ true = sym (λ i. line i || ((run i || bracket i) || white i)) ∙ own in cc)
      | false ↦ λ tick. refl
    ] refl
