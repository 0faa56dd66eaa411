-- Data of inline text by its bytes: how long it is, and the white space that a line ends with behind it.
use Rattle.mdinline_machine.proofs.Prelude.{◌≡◌, ℕ, suc, ◌+◌, ◌==◌, ◌≤◌, List, [], ◌∷◌, ◌++◌, Bool, true, false, cond, refl, sym, ap, ◌∙◌, arith, length, take, drop, nat_tests, length-drop, prefix_len-le-length, prefix_len, Constructs, Data, is_white, backticks, is_backtick, is_line_feed, item_length, Found, first_plain, leaf, is_white_left, begins_run, data_length, delimiter_run, ends_data_at, line_break, run_length, up_to, plain}
use Rattle.mdinline_machine.proofs.WhiteBytes.{found-size, no_item, over-white, white-ends, white-goes-on, white-last, white-none, white_or, left-behind, run-more}

-- how many bytes come before the end of data is at most how many there are
pub up-to-within : (ends : List ℕ → Bool) (bs : List ℕ) → up_to ends bs ≤ length bs
up-to-within ends [] = omega arith
up-to-within ends (b ∷ bs) = elim (ends (b ∷ bs)) as (λ t. cond t 0 (1 + up_to ends bs) ≤ suc (length bs)) [ true ↦ omega arith | false ↦ omega (arith, up-to-within ends bs) ]

module _ (on : Constructs) where
  -- the white space at the end of a line that is at the front, or nothing
  abbrev pub white_behind : List ℕ → Found
  white_behind bs = white_or on bs no_item

  -- Data and the white space behind it with which its line ends: they are read as one
  abbrev pub data_joined : List ℕ → Found
  data_joined text =
      let n = data_length on text in
      let w = white_behind (drop n text) in
      record { size = n + w.size; mark = plain; events = λ bytes seats. leaf bytes Data (take n seats) ++ w.events bytes (drop n seats) }

  -- What is read at once where no construct with a mark is: a run, a line ending with the white space behind it, or data with that behind it
  abbrev pub joined_part : List ℕ → Found
  joined_part [] = data_joined []
  joined_part (b ∷ bs) = cond (begins_run on b) (delimiter_run (run_length (b ∷ bs))) (cond (is_line_feed b) (line_break (prefix_len is_white bs)) (data_joined (b ∷ bs)))

  -- white space that is found is no longer than what is left
  pub behind-within : (bs : List ℕ) → item_length (white_behind bs) ≤ length bs
  behind-within [] = let none = white-last on no_item in omega (arith, ap item_length none)
  behind-within (b ∷ bs) =
      let n = prefix_len is_white (b ∷ bs) in
      elim (is_white b) as (λ t. is_white b ≡ t → item_length (white_behind (b ∷ bs)) ≤ length (b ∷ bs)) [
        | true ↦ λ is. elim (is_white_left (b ∷ bs)) as (λ t. is_white_left (b ∷ bs) ≡ t → item_length (white_behind (b ∷ bs)) ≤ length (b ∷ bs)) [
          | true ↦ λ left.
              let size : item_length (white_behind (b ∷ bs)) ≡ n = ap item_length (white-ends on b bs no_item is left) ∙ found-size _ n in
              omega (arith, size, prefix_len-le-length is_white (b ∷ bs))
          | false ↦ λ left. (let size : item_length (white_behind (b ∷ bs)) ≡ 0 = ap item_length (white-goes-on on b bs no_item is left) in omega (arith, size))
        ] refl
        | false ↦ λ other. (let size : item_length (white_behind (b ∷ bs)) ≡ 0 = ap item_length (white-none on b bs no_item other) in omega (arith, size))
      ] refl

  -- data is no longer than what is left
  pub data-within : (b : ℕ) (bs : List ℕ) → data_length on (b ∷ bs) ≤ length (b ∷ bs)
  data-within b bs =
      let n = first_plain (b ∷ bs) in
      let first : n ≤ suc (length bs) = omega (arith, prefix_len-le-length is_backtick (b ∷ bs)) in
      omega (arith, first, up-to-within (ends_data_at on) (drop n (b ∷ bs)), length-drop n (b ∷ bs))

  -- nor with the white space behind it
  pub joined-within : (b : ℕ) (bs : List ℕ) → item_length (data_joined (b ∷ bs)) ≤ length (b ∷ bs)
  joined-within b bs =
      let n = data_length on (b ∷ bs) in
      omega (arith, data-within b bs, behind-within (drop n (b ∷ bs)), length-drop n (b ∷ bs))

  -- nor are runs and line endings with the white space behind them
  pub part-within : (b : ℕ) (bs : List ℕ) → item_length (joined_part (b ∷ bs)) ≤ length (b ∷ bs)
  part-within b bs =
      let line = line_break (prefix_len is_white bs) in
      let data_item = data_joined (b ∷ bs) in
      elim (begins_run on b) as (λ r. item_length (cond r (delimiter_run (run_length (b ∷ bs))) (cond (is_line_feed b) line data_item)) ≤ length (b ∷ bs)) [
        | true ↦ omega (arith, prefix_len-le-length (λ c. c == b) bs)
        | false ↦ elim (is_line_feed b) as (λ t. item_length (cond t line data_item) ≤ length (b ∷ bs)) [ true ↦ omega (arith, prefix_len-le-length is_white bs) | false ↦ joined-within b bs ]
      ]

  -- data that begins with white space goes over all of it, unless its line ends with that
  pub white-data : (b : ℕ) (bs : List ℕ) → is_white b ≡ true → is_white_left (b ∷ bs) ≡ false → let n = prefix_len is_white (b ∷ bs) in data_length on (b ∷ bs) ≡ n + up_to (ends_data_at on) (drop n (b ∷ bs))
  white-data b bs is left =
      let ends = ends_data_at on in
      let k = prefix_len is_white bs in
      let tick : is_backtick b ≡ false = grind (arith, nat_tests) in
      let none : backticks (b ∷ bs) ≡ 0 = ap (λ t. cond t (1 + backticks bs) 0) tick in
      let one : first_plain (b ∷ bs) ≡ 1 = omega (arith, none) in
      let all : data_length on (b ∷ bs) ≡ 1 + up_to ends bs = ap (λ n. n + up_to ends (drop n (b ∷ bs))) one in
      let over = over-white on bs (sym (left-behind b bs is) ∙ left) in
      let more : prefix_len is_white (b ∷ bs) ≡ suc k = run-more is_white b bs true is in
      let sum : 1 + up_to ends bs ≡ suc k + up_to ends (drop k bs) = omega (arith, over) in
      all ∙ sum ∙ sym (ap (λ n. n + up_to ends (drop n (b ∷ bs))) more)
