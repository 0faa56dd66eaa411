-- Places at which a text can be handed over in parts.
use Rattle.std.specs.Prelude.{ℕ, ◌%◌, ◌==◌, nat_lt, ◌&&◌, Bool, List, map, filter}
use Rattle.std.specs.List.{enumerate_from}
use Rattle.markdown_base.specs.Virtual.{Seat, virtual}

-- the place of a seat: its byte index and its number in a tab
abbrev pub place_of : Seat → ℕ × ℕ
place_of s = (s.point.index, s.point.vs)

-- a virtual byte's number is n, 2n, 3n, ..
abbrev pub is_cut : (n number : ℕ) → Bool
is_cut n number = nat_lt 0 number && (number % n == 0)

-- the places of the virtual bytes number n, 2n, 3n, .., numbered from 0
abbrev pub cuts_every : (t : ℕ) → List ℕ → (n : ℕ) → List (ℕ × ℕ)
cuts_every t bytes n = map (λ x. place_of x.1) (filter (λ x. is_cut n x.0) (enumerate_from 0 (virtual t bytes)))
