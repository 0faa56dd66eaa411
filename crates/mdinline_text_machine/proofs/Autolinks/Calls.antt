-- How many calls autolinks take, with a URI or an email address in them. A look stops at the next `<` at the latest: so a look that finds nothing is
-- paid by the bytes up to there, and one that finds an autolink by its own bytes.
use Rattle.mdinline_text_machine.proofs.Prelude.{◌≡◌, ℕ, zero, suc, ◌+◌, ◌<◌, ◌≤◌, ◌∷◌, [], List, Bool, true, false, cond, refl, sym, subst, ap, ◌∙◌, Option, Some, None, arith, length, drop, nat_tests, prefix_len, has_byte_at, is_less_than, is_greater_than, is_allowed, is_scheme_byte, uri, autolink, autolink_at, autolink_to, Found, item_length, Seat, bytes_of}
use Rattle.mdinline_text_machine.proofs.Constructs.Apart.{OfOption, when-so, when-there}
use Rattle.mdinline_text_machine.proofs.Plain.Stretches.{past}

-- one for each byte behind `<` that an autolink may hold, and two more
abbrev pub link_calls : List ℕ → ℕ
link_calls bytes = prefix_len is_allowed (drop 1 bytes) + 2

-- how many bytes of a text are left at its first `<`
abbrev pub from_less : List ℕ → ℕ
from_less [] = 0
from_less (b ∷ bs) = cond (is_less_than b) (1 + length bs) (from_less bs)

-- no more than it has
pub from-less-within : (bs : List ℕ) → from_less bs ≤ length bs
from-less-within [] = omega arith
from-less-within (b ∷ bs) = elim (is_less_than b) as (λ t. cond t (1 + length bs) (from_less bs) ≤ length (b ∷ bs)) [
  | true ↦ omega arith
  | false ↦ omega (arith, from-less-within bs)
]

-- and no more behind a byte
pub from-less-ahead : (b : ℕ) (bs : List ℕ) → from_less bs ≤ from_less (b ∷ bs)
from-less-ahead b bs = elim (is_less_than b) as (λ t. from_less bs ≤ cond t (1 + length bs) (from_less bs)) [
  | true ↦ omega (arith, from-less-within bs)
  | false ↦ omega arith
]

-- bytes none of which is `<` are before it
before-less : (p : ℕ → Bool) → ((b : ℕ) → p b ≡ true → is_less_than b ≡ false) → (bs : List ℕ) → prefix_len p bs + from_less bs ≤ length bs
before-less p none [] = omega arith
before-less p none (b ∷ bs) = elim (p b) as (λ t. p b ≡ t → cond t (1 + prefix_len p bs) 0 + from_less (b ∷ bs) ≤ length (b ∷ bs)) [
  | true ↦ λ e. subst (λ t. 1 + prefix_len p bs + cond t (1 + length bs) (from_less bs) ≤ length (b ∷ bs)) (sym (none b e)) (omega (arith, before-less p none bs))
  | false ↦ λ e. omega (arith, from-less-within (b ∷ bs))
] refl

-- bytes that pass end where one does not
prefix-upto : (p q : ℕ → Bool) → ((b : ℕ) → q b ≡ true → p b ≡ false) → (bs : List ℕ) (n : ℕ) → has_byte_at bs n q ≡ true → prefix_len p bs ≤ n
prefix-upto p q none [] n h = omega arith
prefix-upto p q none (b ∷ bs) zero h = subst (λ t. cond t (1 + prefix_len p bs) 0 ≤ 0) (sym (none b h)) (omega arith)
prefix-upto p q none (b ∷ bs) (suc n) h = elim (p b) as (λ t. cond t (1 + prefix_len p bs) 0 ≤ suc n) [
  | true ↦ omega (arith, prefix-upto p q none bs n h)
  | false ↦ omega arith
]

allowed-no-less : (b : ℕ) → is_allowed b ≡ true → is_less_than b ≡ false
allowed-no-less b h = grind (arith, nat_tests)

greater-not-allowed : (b : ℕ) → is_greater_than b ≡ true → is_allowed b ≡ false
greater-not-allowed b h = grind (arith, nat_tests)

pub scheme-allowed : (b : ℕ) → is_scheme_byte b ≡ true → is_allowed b ≡ true
scheme-allowed b h = grind (arith, nat_tests)

-- the bytes that an autolink may hold end at `>`
pub allowed-upto : (bs : List ℕ) (n : ℕ) → has_byte_at bs n is_greater_than ≡ true → prefix_len is_allowed bs ≤ n
allowed-upto bs n h = prefix-upto is_allowed is_greater_than greater-not-allowed bs n h

-- a look that finds nothing is paid by the bytes up to the next `<`
pub link-missed : (b : ℕ) (bs : List ℕ) → is_less_than b ≡ true → link_calls (b ∷ bs) + from_less bs ≤ from_less (b ∷ bs) + 1
link-missed b bs h =
    subst (λ t. prefix_len is_allowed bs + 2 + from_less bs ≤ cond t (1 + length bs) (from_less bs) + 1) (sym h) (omega (arith, before-less is_allowed allowed-no-less bs))

-- a byte is there only within a text
pub byte-within : (q : ℕ → Bool) (bs : List ℕ) (n : ℕ) → has_byte_at bs n q ≡ true → n < length bs
byte-within q [] zero h = absurd (cc)
byte-within q [] (suc n) h = absurd (cc)
byte-within q (b ∷ bs) zero h = omega arith
byte-within q (b ∷ bs) (suc n) h = omega (arith, byte-within q bs n h)

-- what holds of each autolink that ends at `>`
to-holds : (P : Found → Type 0) (b : ℕ) (bs : List ℕ) → ((n : ℕ) → has_byte_at bs n is_greater_than ≡ true → P (autolink n)) → (o : Option ℕ) → OfOption P (autolink_to (b ∷ bs) o)
to-holds P b bs each None = tt
to-holds P b bs each (Some n) =
    let one : suc n ≡ n + 1 = omega arith in
    when-so P (has_byte_at (b ∷ bs) (n + 1) is_greater_than) (Some (autolink n)) (λ h. each n (ap (λ i. has_byte_at (b ∷ bs) i is_greater_than) one ∙ h))

link-holds : (P : Found → Type 0) (b : ℕ) (bs : List ℕ) → ((n : ℕ) → has_byte_at bs n is_greater_than ≡ true → P (autolink n)) → OfOption P (autolink_at (b ∷ bs))
link-holds P b bs each = when-there P (is_less_than b) (autolink_to (b ∷ bs) (uri bs)) (to-holds P b bs each (uri bs))

-- a look that finds an autolink takes no more calls than it has bytes
pub autolink-paid : (b : ℕ) (bs : List ℕ) → OfOption (λ (item : Found). link_calls (b ∷ bs) ≤ item_length item) (autolink_at (b ∷ bs))
autolink-paid b bs = link-holds (λ item. link_calls (b ∷ bs) ≤ item_length item) b bs (λ n h. omega (arith, allowed-upto bs n h))

-- and it has no more than the text
pub autolink-within : (b : ℕ) (bs : List ℕ) → OfOption (λ (item : Found). item_length item ≤ length (b ∷ bs)) (autolink_at (b ∷ bs))
autolink-within b bs = link-holds (λ item. item_length item ≤ length (b ∷ bs)) b bs (λ n h. omega (arith, byte-within is_greater_than bs n h))

-- bytes that are looked at by two states, one behind the other, are looked at once
pub looked-once : (p q : ℕ → Bool) → ((b : ℕ) → p b ≡ true → q b ≡ true) → (l : List Seat) → prefix_len p (bytes_of l) + prefix_len q (bytes_of (past p l)) ≤ prefix_len q (bytes_of l)
looked-once p q both [] = omega arith
looked-once p q both (s ∷ ss) =
    let more = prefix_len q (bytes_of ss) in
    elim (p s.byte) as (λ t. p s.byte ≡ t → cond t (1 + prefix_len p (bytes_of ss)) 0 + prefix_len q (bytes_of (cond t (past p ss) (s ∷ ss))) ≤ prefix_len q (bytes_of (s ∷ ss))) [
      | true ↦ λ e. subst (λ t. 1 + prefix_len p (bytes_of ss) + prefix_len q (bytes_of (past p ss)) ≤ cond t (1 + more) 0) (sym (both s.byte e)) (omega (arith, looked-once p q both ss))
      | false ↦ λ e. omega arith
    ] refl
