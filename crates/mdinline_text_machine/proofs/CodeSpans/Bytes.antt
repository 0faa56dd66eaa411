-- Code spans by their bytes: they begin at a backtick, and are a byte at least.
use Rattle.mdinline_text_machine.proofs.Prelude.{tick-classed, ◌≡◌, ℕ, ◌+◌, ◌<◌, ◌==◌, ◌∷◌, List, Bool, true, false, cond, Option, Some, None, arith, drop, option_map, prefix_len, text_byte, is_backtick, backticks, before_backtick_string, code_events, code_span_found, code_span_with, code_spans, Event, Seat, Found, item_length}
use Rattle.mdinline_text_machine.proofs.Constructs.Apart.{IsApart, OfOption, only-there}

module _ (between_them : List ℕ → List Seat → List Event) where
  code-positive : (t : Bool) (n : ℕ) (o : Option ℕ) → OfOption (λ (item : Found). 0 < item_length item) (cond t (option_map (code_span_with between_them (cond t (1 + n) 0)) o) None)
  code-positive true n None = tt
  code-positive true n (Some p) = omega arith
  code-positive false n o = tt

  -- nothing is there at other bytes
  pub code-nowhere : (b : ℕ) (bs : List ℕ) → is_backtick b ≡ false → code_span_found between_them (b ∷ bs) ≡ None
  code-nowhere b bs h = only-there (b == 96) _ h

  -- and what is there is a byte at least
  pub code-some : (b : ℕ) (bs : List ℕ) → OfOption (λ (item : Found). 0 < item_length item) (code_span_found between_them (b ∷ bs))
  code-some b bs = let text = b ∷ bs in code-positive (b == 96) (prefix_len is_backtick bs) (before_backtick_string (backticks text) (drop (backticks text) text))

pub code-spans-apart : IsApart text_byte item_length code_spans
code-spans-apart = record { classed = tick-classed; nowhere = code-nowhere code_events; some = code-some code_events }
