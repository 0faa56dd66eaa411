-- What is left of a slice.
use Rattle.std.proofs.Common.{◌≡◌, ℕ, ◌-◌, List, length, drop, take, arith, take_all}
use Rattle.std.proofs.lemmas.List.{length-drop}

pub tail : {A : Type 0} (n : ℕ) (xs : List A) → take (length xs - n) (drop n xs) ≡ drop n xs
tail n xs = let long = length-drop n xs in take_all (length xs - n) (drop n xs) (omega (arith, long))
