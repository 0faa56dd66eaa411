-- How many calls are counted over bytes that one state reads, one after another.
use Rattle.mdinline_text_machine.proofs.Prelude.{ℕ, ◌+◌, ◌∷◌, [], List, Bool, true, false, cond, prefix_len, Seat, Local, bytes_of}
use Rattle.mdinline_text_machine.proofs.Plain.Stretches.{passed}
use Rattle.mdinline_text_machine.proofs.Texts.Counted.{IsAfter, after-more, after-none}

-- one for each byte, if each byte takes one
pub after-passed : (f : Local Unit Unit → Local Unit Unit) → ((local : Local Unit Unit) → IsAfter 1 local (f local)) → (p : ℕ → Bool) (l : List Seat) (local : Local Unit Unit)
    → IsAfter (prefix_len p (bytes_of l)) local (passed p f l local)
after-passed f once p [] local = after-none local
after-passed f once p (s ∷ ss) local = elim (p s.byte) as (λ t. IsAfter (cond t (1 + prefix_len p (bytes_of ss)) 0) local (cond t (passed p f ss (f local)) local)) [
  | true ↦ after-more 1 (prefix_len p (bytes_of ss)) local (f local) (passed p f ss (f local)) (once local) (after-passed f once p ss (f local))
  | false ↦ after-none local
]
