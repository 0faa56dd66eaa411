-- Cutting a text into items: the bound of the cut does not matter; nor does a memory that nothing depends on.
use Rattle.mdinline_text_machine.proofs.Prelude.{[], ◌≡◌, ℕ, zero, suc, ◌<◌, ◌≤◌, ◌∷◌, List, refl, ap, arith, length, take, drop, Seat, bytes_of, cut, cut_remembering, length-drop}

-- at least one is dropped
pub drop-less : {X : Type 0} (n : ℕ) (x : X) (xs : List X) → 0 < n → length (drop n (x ∷ xs)) ≤ length xs
drop-less n x xs h = let left = length-drop n (x ∷ xs) in omega (arith, left, h)

-- a larger bound cuts alike, if each part is at least a byte
pub cut-enough : {A : Type 0} (front : List ℕ → A) (size : A → ℕ) → ((b : ℕ) (bs : List ℕ) → 0 < size (front (b ∷ bs))) → (b c : ℕ) (seats : List Seat) → length seats ≤ b → length seats ≤ c
    → cut front size b seats ≡ cut front size c seats
cut-enough front size positive zero (suc c) (s ∷ ss) h i = absurd (omega (arith, h))
cut-enough front size positive (suc b) zero (s ∷ ss) h i = absurd (omega (arith, i))
cut-enough front size positive (suc b) (suc c) (s ∷ ss) h i =
    let n = size (front (bytes_of (s ∷ ss))) in
    let less : length (drop n (s ∷ ss)) ≤ length ss = drop-less n s ss (positive s.byte (bytes_of ss)) in
    ap (λ l. (front (bytes_of (s ∷ ss)), take n (s ∷ ss)) ∷ l) (cut-enough front size positive b c (drop n (s ∷ ss)) (omega (arith, less, h)) (omega (arith, less, i)))
cut-enough front size positive b c seats h i = refl

-- the same with a memory
pub cut-remembering-enough : {A M : Type 0} (after : M → A → M) (front : M → List ℕ → A) (size : A → ℕ) → ((m : M) (b : ℕ) (bs : List ℕ) → 0 < size (front m (b ∷ bs))) → (b c : ℕ) (m : M) (seats : List Seat) → length seats ≤ b → length seats ≤ c
    → cut_remembering after front size b m seats ≡ cut_remembering after front size c m seats
cut-remembering-enough after front size positive zero (suc c) m (s ∷ ss) h i = absurd (omega (arith, h))
cut-remembering-enough after front size positive (suc b) zero m (s ∷ ss) h i = absurd (omega (arith, i))
cut-remembering-enough after front size positive zero c m [] h i = elim c as (λ n. [] ≡ cut_remembering after front size n m []) [ zero ↦ refl | suc n ↦ refl ]
cut-remembering-enough after front size positive (suc b) c m [] h i = elim c as (λ n. [] ≡ cut_remembering after front size n m []) [ zero ↦ refl | suc n ↦ refl ]
cut-remembering-enough after front size positive zero zero m (s ∷ ss) h i = refl
cut-remembering-enough after front size positive (suc b) (suc c) m (s ∷ ss) h i =
    let a = front m (bytes_of (s ∷ ss)) in
    let n = size a in
    let less : length (drop n (s ∷ ss)) ≤ length ss = drop-less n s ss (positive m s.byte (bytes_of ss)) in
    ap (λ l. (a, take n (s ∷ ss)) ∷ l) (cut-remembering-enough after front size positive b c (after m a) (drop n (s ∷ ss)) (omega (arith, less, h)) (omega (arith, less, i)))

-- where what is at the front depends on no memory, virtual bytes are cut alike
pub cut-same : {A M : Type 0} (front : List ℕ → A) (size : A → ℕ) (bound : ℕ) (m : M) (seats : List Seat) → cut_remembering (λ m a. m) (λ m. front) size bound m seats ≡ cut front size bound seats
cut-same front size zero m seats = refl
cut-same front size (suc bound) m [] = refl
cut-same front size (suc bound) m (s ∷ ss) =
    let n = size (front (bytes_of (s ∷ ss))) in
    ap (λ l. (front (bytes_of (s ∷ ss)), take n (s ∷ ss)) ∷ l) (cut-same front size bound m (drop n (s ∷ ss)))
