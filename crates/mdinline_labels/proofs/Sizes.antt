-- How far marked text and destinations go: they are in the text.
use Rattle.std.proofs.Common.{◌≡◌, ℕ, suc, ◌+◌, ◌<◌, ◌≤◌, Bool, true, false, cond, List, [], ◌∷◌, Option, Some, None, refl, arith, length}
use Rattle.std.specs.Prelude.{◌==◌, ◌&&◌, ◌||◌, nat_le}
use Rattle.std.proofs.lemmas.Bool.{false≢true}
use Rattle.std.proofs.lemmas.Option.{none-some, same_Some}
use Rattle.mdinline_labels.specs.Labels.{hides}
use Rattle.mdinline_labels.specs.Tails.{bare_behind, begins_with, depth_behind, is_plain, is_raw_end, marked_size, one_more, raw_end, raw_size}

-- what begins with a byte has one
pub begins-some : (c : ℕ) (bs : List ℕ) → begins_with c bs ≡ true → 1 ≤ length bs
begins-some c [] e = absurd (false≢true e)
begins-some c (b ∷ bs) e = omega arith

-- up to its last mark, which is there too
pub marked-within : (first last : ℕ) (bare hidden : Bool) (bs : List ℕ) (n : ℕ) → marked_size first last bare hidden bs ≡ Some n → n < length bs
marked-within first last bare hidden [] n e = absurd (none-some n e)
marked-within first last bare hidden (b ∷ bs) n e =
    by (is_plain last hidden b) (is_plain first hidden b || (bare && (b == 10))) (marked_size first last (bare_behind bare b) (hides hidden b) bs) (marked-within first last (bare_behind bare b) (hides hidden b) bs) e
  where
    by : (p q : Bool) (o : Option ℕ) → ((m : ℕ) → o ≡ Some m → m < length bs) → cond p (Some 0) (cond q None (one_more o)) ≡ Some n → n < suc (length bs)
    by true q o ih e = let same : 0 ≡ n = same_Some 0 n e in omega (arith, same)
    by false true o ih e = absurd (none-some n e)
    by false false None ih e = absurd (none-some n e)
    by false false (Some m) ih e = let less = ih m refl in let same : m + 1 ≡ n = same_Some (m + 1) n e in omega (arith, less, same)

raw-end-within : (depth n m : ℕ) → raw_end depth ≡ Some n → n ≤ m
raw-end-within depth n m e = by (depth == 0) e
  where
    by : (p : Bool) → cond p (Some 0) None ≡ Some n → n ≤ m
    by true q = let same : 0 ≡ n = same_Some 0 n q in omega (arith, same)
    by false q = absurd (none-some n q)

-- a destination without marks
pub raw-within : (depth : ℕ) (hidden : Bool) (bs : List ℕ) (n : ℕ) → raw_size depth hidden bs ≡ Some n → n ≤ length bs
raw-within depth hidden [] n e = raw-end-within depth n 0 e
raw-within depth hidden (b ∷ bs) n e =
    by (is_raw_end depth hidden b) (is_plain 40 hidden b && nat_le 32 depth) (raw_size (depth_behind depth hidden b) (hides hidden b) bs) (raw-within (depth_behind depth hidden b) (hides hidden b) bs) e
  where
    by : (p q : Bool) (o : Option ℕ) → ((m : ℕ) → o ≡ Some m → m ≤ length bs) → cond p (raw_end depth) (cond q None (one_more o)) ≡ Some n → n ≤ suc (length bs)
    by true q o ih e = raw-end-within depth n (suc (length bs)) e
    by false true o ih e = absurd (none-some n e)
    by false false None ih e = absurd (none-some n e)
    by false false (Some m) ih e = let less = ih m refl in let same : m + 1 ≡ n = same_Some (m + 1) n e in omega (arith, less, same)
