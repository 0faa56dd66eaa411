-- Virtual bytes that each pass a test, and the run of them at the front.
use Rattle.std.proofs.Common.{◌≡◌, ℕ, ◌+◌, List, [], ◌∷◌, ◌++◌, Bool, true, false, cond, length, ap, refl, ◌∙◌, one-add}
use Rattle.std.specs.List.{AllByRecursion, prefix_len}
use Rattle.markdown_base.specs.Virtual.{Seat}
use Rattle.mdinline_text_machine.specs.Bytes.{has_byte_at}
use Rattle.mdinline_text_machine.specs.Parts.{bytes_of}

-- each of these passes a test
abbrev pub AllPass : (ℕ → Bool) → List Seat → Type 0
AllPass test l = AllByRecursion (λ s. test s.byte ≡ true) l

-- the first of these, if there is one, does not
abbrev pub StopsAt : (ℕ → Bool) → List Seat → Type 0
StopsAt test l = has_byte_at (bytes_of l) 0 test ≡ false

pub one-passes-more : (test : ℕ → Bool) (d : List Seat) (s : Seat) → AllPass test d → test s.byte ≡ true → AllPass test (d ++ s ∷ [])
one-passes-more test [] s all h = (h, tt)
one-passes-more test (x ∷ xs) s all h = (all.0, one-passes-more test xs s all.1 h)

-- so the run at the front is all of these
pub run-is : (test : ℕ → Bool) (d y : List Seat) → AllPass test d → StopsAt test y → prefix_len test (bytes_of (d ++ y)) ≡ length d
run-is test [] [] all stops = refl
run-is test [] (s ∷ ss) all stops = ap (λ t. cond t (1 + prefix_len test (bytes_of ss)) 0) stops
run-is test (x ∷ xs) y all stops =
    ap (λ t. cond t (1 + prefix_len test (bytes_of (xs ++ y))) 0) all.0 ∙ ap (λ n. 1 + n) (run-is test xs y all.1 stops) ∙ one-add (length xs)
