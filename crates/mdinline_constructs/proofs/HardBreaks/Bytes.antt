-- Hard breaks by their bytes: they begin with a backslash, or with white space, and are a byte at least.
use Rattle.mdinline_constructs.proofs.Prelude.{◌≡◌, ℕ, ◌<◌, ◌==◌, ◌&&◌, ◌∷◌, List, Bool, true, false, cond, Some, None, ap, refl, arith, prefix_len, nat_le, nat_tests, IsApart, OfOption, only-there, when-there, escapes-apart, has_byte_at, is_line_feed, is_space, Found, item_length, text_byte, hard_break_escape, hard_break_trailing, trailing_break_at, break_escapes}

abbrev IsSome : Found → Type 0
IsSome item = 0 < item_length item

pub break-escapes-apart : IsApart text_byte item_length break_escapes
break-escapes-apart = record {
  classed = escapes-apart.classed;
  nowhere = λ b bs h. only-there ((b == 92) && has_byte_at (b ∷ bs) 1 is_line_feed) (Some hard_break_escape) (ap (λ t. t && has_byte_at (b ∷ bs) 1 is_line_feed) h);
  some = λ b bs. when-there IsSome ((b == 92) && has_byte_at (b ∷ bs) 1 is_line_feed) (Some hard_break_escape) (omega arith);
}

-- of a run of a number of spaces
two-some : (n : ℕ) (t : Bool) → OfOption IsSome (cond (nat_le 2 n && t) (Some (hard_break_trailing n)) None)
two-some n t = elim (nat_le 2 n) as (λ b. nat_le 2 n ≡ b → OfOption IsSome (cond (b && t) (Some (hard_break_trailing n)) None)) [
  | true ↦ λ e. when-there IsSome t (Some (hard_break_trailing n)) (grind (arith, nat_tests))
  | false ↦ λ e. tt
] refl

pub trailing-break-some : (b : ℕ) (bs : List ℕ) → OfOption IsSome (trailing_break_at (b ∷ bs))
trailing-break-some b bs = (let n = prefix_len is_space (b ∷ bs) in two-some n (has_byte_at (b ∷ bs) n is_line_feed))
