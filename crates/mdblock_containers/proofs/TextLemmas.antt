-- Lemmas on lines that have no tab.
use Rattle.std.proofs.Common.{◌≡◌, ℕ, suc, ◌+◌, ◌*◌, ◌<◌, ◌≤◌, Bool, true, false, cond, List, [], ◌∷◌, ◌++◌, length, take, drop, refl, sym, ap, ◌∙◌, arith}
use Rattle.std.specs.Prelude.{◌==◌, ◌&&◌, not, replicate}
use Rattle.std.specs.List.{prefix_len}
use Rattle.std.proofs.lemmas.Bool.{false≢true}
use Rattle.std.proofs.lemmas.List.{length-take-le}
use Rattle.markdown_base.specs.Virtual.{tab_width}
use Rattle.mdblock_leaf_blocks.specs.LineWords.{begins_with}
use Rattle.mdblock_lines.specs.Lines.{expanded, is_in_line, line_bytes, seat_bytes}
use Rattle.mdblock_lines.proofs.PlaceLemmas.{expanded_is_virtual, expanded_least}
use Rattle.mdblock_containers.specs.Letters.{is_plain}
use Rattle.mdblock_containers.proofs.GoingLemmas.{prefix_within}

plain_few : (bs : List ℕ) → prefix_len is_plain bs ≤ prefix_len is_in_line bs
plain_few [] = omega arith
plain_few (b ∷ bs) = by (b == 9) (b == 10) (b == 13) (plain_few bs)
  where
    by : (x y z : Bool) → prefix_len is_plain bs ≤ prefix_len is_in_line bs → cond (not x && (not y && not z)) (1 + prefix_len is_plain bs) 0 ≤ cond (not y && not z) (1 + prefix_len is_in_line bs) 0
    by true y z h = omega arith
    by false true z h = omega arith
    by false false true h = omega arith
    by false false false h = omega (arith, h)

-- a line's size
pub text_size : (t number start : ℕ) (rest : List ℕ) → 0 < t → t ≤ 16 → length (expanded t 1 (take (prefix_len is_in_line rest) rest)) ≡ length (line_bytes t number 1 start rest)
text_size t number start rest some most = ap (λ (l : List ℕ). length l) (expanded_is_virtual t some most number 1 start rest)

-- the same, by the tab size that was read
pub size_of_text : (t number start : ℕ) (rest : List ℕ) (u : ℕ) → 0 < u → u ≤ 16 → u ≡ t → length (expanded u 1 (take (prefix_len is_in_line rest) rest)) ≡ length (line_bytes t number 1 start rest)
size_of_text t number start rest u some most same = text_size u number start rest some most ∙ (λ k. length (line_bytes (same k) number 1 start rest))

-- the bytes before a tab are no more than the line's virtual bytes
pub plain_fits : (t : ℕ) (bs : List ℕ) → 0 < t → t ≤ 16 → prefix_len is_plain bs ≤ length (expanded t 1 (take (prefix_len is_in_line bs) bs))
plain_fits t bs some most =
    let few = plain_few bs in
    let within = prefix_within is_in_line bs in
    let size = length-take-le (prefix_len is_in_line bs) bs within in
    let least = expanded_least t 1 (take (prefix_len is_in_line bs) bs) some most in
    omega (arith, few, size, least)

-- where no tab comes, a line's virtual bytes are its bytes
pub plain_line : (t : ℕ) (bs : List ℕ) → begins_with 9 (drop (prefix_len is_plain bs) bs) ≡ false
    → (prefix_len is_plain bs ≡ prefix_len is_in_line bs) × ((column : ℕ) → expanded t column (take (prefix_len is_plain bs) bs) ≡ take (prefix_len is_plain bs) bs)
plain_line t [] e = (refl, λ column. refl)
plain_line t (b ∷ bs) e = by (b == 9) (b == 10) (b == 13) refl e (plain_line t bs)
  where
    by : (x y z : Bool) → (b == 9) ≡ x → begins_with 9 (drop (cond (not x && (not y && not z)) (1 + prefix_len is_plain bs) 0) (b ∷ bs)) ≡ false
        → (begins_with 9 (drop (prefix_len is_plain bs) bs) ≡ false → (prefix_len is_plain bs ≡ prefix_len is_in_line bs) × ((column : ℕ) → expanded t column (take (prefix_len is_plain bs) bs) ≡ take (prefix_len is_plain bs) bs))
        → (cond (not x && (not y && not z)) (1 + prefix_len is_plain bs) 0 ≡ cond (not y && not z) (1 + prefix_len is_in_line bs) 0)
        × ((column : ℕ) → expanded t column (take (cond (not x && (not y && not z)) (1 + prefix_len is_plain bs) 0) (b ∷ bs)) ≡ take (cond (not x && (not y && not z)) (1 + prefix_len is_plain bs) 0) (b ∷ bs))
    by true y z q f h = absurd (false≢true (sym f ∙ q))
    by false true z q f h = (refl, λ column. refl)
    by false false true q f h = (refl, λ column. refl)
    by false false false q f h =
        let on : 1 + prefix_len is_plain bs ≡ suc (prefix_len is_plain bs) = omega arith in
        let more = h (ap (λ k. begins_with 9 (drop k (b ∷ bs))) (sym on) ∙ f) in (
          ap (λ k. 1 + k) more.0,
          λ column.
              let seat : seat_bytes t column b ≡ b ∷ [] = ap (λ (v : Bool). cond v (take (tab_width t column) (9 ∷ replicate 15 32)) (b ∷ [])) q in
              ap (λ k. expanded t column (take k (b ∷ bs))) on ∙ (λ k. seat k ++ expanded t (column + length (seat k)) (take (prefix_len is_plain bs) bs)) ∙ ap (λ l. b ∷ l) (more.1 (column + 1)) ∙ ap (λ k. take k (b ∷ bs)) (sym on),
        )

-- what is looked at of a line is paid by its columns
pub text_costs : (t : ℕ) (bytes : List ℕ) (start u before after n : ℕ) → 0 < u → u ≤ 16 → u ≡ t → n ≡ prefix_len is_plain (drop start bytes) → after ≤ before + n + 1 → (number : ℕ) → after ≤ before + 4 * length (line_bytes t number 1 start (drop start bytes)) + 2
text_costs t bytes start u before after n some most same is h number =
    let rest = drop start bytes in
    let fits = plain_fits u rest some most in
    let size = size_of_text t number start rest u some most same in
    omega (arith, fits, size, is, h)
