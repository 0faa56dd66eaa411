-- The events of spans whose first and last byte are marks, and seats that are cut out of others.
use Rattle.mdinline_link_tails.proofs.Prelude.{◌≡◌, ℕ, suc, ◌+◌, ◌-◌, ◌≤◌, List, [], ◌∷◌, ◌++◌, take, drop, length, refl, ap, ◌∙◌, arith, length-append, take_at, drop_at, drop-take, take-take, end-after-one, Event, Enter, Exit, EventName, Seat, between, between_is, leaf}
use Rattle.mdconstructs_machines.specs.Spans.{event}
use Rattle.mdinline_link_tails.specs.Resource.{in_marks, unmarked}
use Rattle.mdinline_link_tails.proofs.Resources.Lines.{take-more}

long-marked : (s : Seat) (xs : List Seat) (y : Seat) → length (s ∷ (xs ++ y ∷ [])) - 1 ≡ suc (length xs)
long-marked s xs y = omega (arith, length-append xs (y ∷ []))

last-marked : (s : Seat) (xs : List Seat) (y : Seat) → drop (length (s ∷ (xs ++ y ∷ [])) - 1) (s ∷ (xs ++ y ∷ [])) ≡ y ∷ []
last-marked s xs y = ap (λ n. drop n (s ∷ (xs ++ y ∷ []))) (long-marked s xs y) ∙ drop_at xs (y ∷ []) (length xs) refl

-- a span with marks, by its first and its last byte
pub marks-spelled : (bytes : List ℕ) (name mark : EventName) (inside : List Event) (s : Seat) (xs : List Seat) (y : Seat)
    → in_marks bytes name mark inside (s ∷ (xs ++ y ∷ []))
    ≡ event bytes Enter name s.point ∷ ((leaf bytes mark (s ∷ []) ++ (inside ++ leaf bytes mark (y ∷ []))) ++ event bytes Exit name y.end ∷ [])
marks-spelled bytes name mark inside s xs y =
    λ i. event bytes Enter name s.point ∷ ((leaf bytes mark (s ∷ []) ++ (inside ++ leaf bytes mark (last-marked s xs y i))) ++ event bytes Exit name (end-after-one s.end xs y i) ∷ [])

-- what is between the marks
pub unmarked-is : (bytes : List ℕ) (s : Seat) (xs : List Seat) (y : Seat) → unmarked bytes (s ∷ (xs ++ y ∷ [])) ≡ xs
unmarked-is bytes s xs y =
    let all = s ∷ (xs ++ y ∷ []) in
    between_is all 1 (length all - 1) ∙ ap (λ n. drop 1 (take n all)) (long-marked s xs y) ∙ take_at xs (y ∷ []) (length xs) refl

-- seats up to a byte
pub up-to : (j : ℕ) (s : Seat) (ss : List Seat) (y : Seat) (ys : List Seat) → drop j ss ≡ y ∷ ys → take (j + 2) (s ∷ ss) ≡ s ∷ (take j ss ++ y ∷ [])
up-to j s ss y ys there = let more : j + 2 ≡ suc (j + 1) = omega arith in ap (λ n. take n (s ∷ ss)) more ∙ ap (λ l. s ∷ l) (take-more j ss y ys there)

-- seats in the middle of others
pub cut-out : (a n k : ℕ) (l : List Seat) → a + n ≤ k → between a (a + n) (take k l) ≡ take n (drop a l)
cut-out a n k l fits = between_is (take k l) a (a + n) ∙ ap (drop a) (take-take (a + n) k l fits) ∙ drop-take a n l
