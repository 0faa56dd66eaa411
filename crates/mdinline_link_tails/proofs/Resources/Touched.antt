-- What states share while a resource is read: a few fields are written, and all others stay as they are.
use Rattle.mdinline_link_tails.proofs.Prelude.{◌≡◌, ℕ, ◌+◌, ◌≤◌, List, [], ◌∷◌, Bool, true, false, cond, refl, ◌∙◌, ap, arith, prefix_len, Seat, Local, counts, IsAfter, after-call, with_b, passed, bytes_of, remembered, spent}

-- All that states share, but for what a resource may write: the mark that closes its title, the number of what white space stands before, how many
-- parentheses of its destination are open, and the calls that are counted
abbrev pub untouched : Local Unit Unit → Local Unit Unit
untouched local = record local { tokenize_state = record local.tokenize_state { marker = 0; marker_b = 0; size_b = 0; size = 0 } }

-- After at most so many calls all but that is as it was
pub record Touches (n : ℕ) (local after : Local Unit Unit) : Type 0 where
  pub calls : spent after ≤ spent local + n
  pub same : untouched after ≡ untouched local

-- one after another
pub touched-more : (n n' : ℕ) (local between after : Local Unit Unit) → Touches n local between → Touches n' between after → Touches (n + n') local after
touched-more n n' local between after one other = record { calls = omega (arith, one.calls, other.calls); same = other.same ∙ one.same }

-- a call that writes nothing else
pub touched : (local after : Local Unit Unit) → spent after ≡ spent (counts local) → untouched after ≡ untouched local → Touches 1 local after
touched local after one same = record { calls = omega (arith, one, (after-call local).calls); same = same }

pub touched-call : (local : Local Unit Unit) → Touches 1 local (counts local)
touched-call local = touched local (counts local) refl refl

pub touched-sized : (n : ℕ) (local : Local Unit Unit) → Touches 1 local (with_b n (counts local))
touched-sized n local = touched local (with_b n (counts local)) refl refl

-- a call for each byte that one state reads
pub touched-passed : (test : ℕ → Bool) (l : List Seat) (local : Local Unit Unit) → Touches (prefix_len test (bytes_of l)) local (passed test counts l local)
touched-passed test [] local = record { calls = omega arith; same = refl }
touched-passed test (s ∷ ss) local = elim (test s.byte) as (λ t. Touches (cond t (1 + prefix_len test (bytes_of ss)) 0) local (cond t (passed test counts ss (counts local)) local)) [
  | true ↦ touched-more 1 (prefix_len test (bytes_of ss)) local (counts local) (passed test counts ss (counts local)) (touched-call local) (touched-passed test ss (counts local))
  | false ↦ record { calls = omega arith; same = refl }
]

-- So what a machine of texts remembers is as it was
pub touched-after : (n : ℕ) (local after : Local Unit Unit) → Touches n local after → IsAfter n local after
touched-after n local after is = record { calls = is.calls; same = ap remembered is.same }

-- the same, and so many of the calls are left
pub record Leaves (rest n : ℕ) (local after : Local Unit Unit) : Type 0 where
  pub calls : spent after + rest ≤ spent local + n
  pub same : untouched after ≡ untouched local

pub leaves-more : (rest c n n' : ℕ) (local between after : Local Unit Unit) → c + n ≤ n' → Touches c local between → Leaves rest n between after → Leaves rest n' local after
leaves-more rest c n n' local between after fits one other = record { calls = omega (arith, fits, one.calls, other.calls); same = other.same ∙ one.same }
