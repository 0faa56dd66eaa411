-- How many calls backslash escapes take: one at the backslash, and one behind it.
use Rattle.mdinline_text_machine.proofs.Prelude.{ℕ, ◌&&◌, ◌≤◌, ◌∷◌, List, Some, refl, arith, length, has_byte_at, is_ascii_punctuation, is_backslash, escape, escape_at, Found, item_length, Local, counts}
use Rattle.mdinline_text_machine.proofs.Autolinks.Calls.{byte-within}
use Rattle.mdinline_text_machine.proofs.Constructs.Apart.{OfOption, when-so, when-there}
use Rattle.mdinline_text_machine.proofs.Texts.Counted.{IsAfter}
use Rattle.std.proofs.lemmas.Bool.{and_parts}

-- as many as an escape has bytes
abbrev pub escape_calls : List ℕ → ℕ
escape_calls bytes = 2

pub after-two : (local : Local Unit Unit) → IsAfter 2 local (counts (counts local))
after-two local = record { calls = omega arith; same = refl }

pub escape-paid : (b : ℕ) (bs : List ℕ) → OfOption (λ (item : Found). escape_calls (b ∷ bs) ≤ item_length item) (escape_at (b ∷ bs))
escape-paid b bs = when-there (λ (item : Found). escape_calls (b ∷ bs) ≤ item_length item) (is_backslash b && has_byte_at (b ∷ bs) 1 is_ascii_punctuation) (Some escape) (omega arith)

-- and it has no more than the text
pub escape-within : (b : ℕ) (bs : List ℕ) → OfOption (λ (item : Found). item_length item ≤ length (b ∷ bs)) (escape_at (b ∷ bs))
escape-within b bs =
    let value = has_byte_at (b ∷ bs) 1 is_ascii_punctuation in
    when-so (λ (item : Found). item_length item ≤ length (b ∷ bs)) (is_backslash b && value) (Some escape)
    (λ h. omega (arith, byte-within is_ascii_punctuation (b ∷ bs) 1 (and_parts (is_backslash b) value h).1))
