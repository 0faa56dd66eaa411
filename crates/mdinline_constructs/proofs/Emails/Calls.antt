-- How many calls email autolinks take: no more than autolinks that hold URIs, since all of an address may be in a URI.
use Rattle.mdinline_constructs.proofs.Prelude.{get-dropped, email, email_at, email_with, is_at_sign, is_atext, is_domain, is_domain_byte, is_dot, is_hyphen, allowed-upto, byte-within, link_calls, OfOption, when-so, when-there, is_allowed, has_byte_at, is_greater_than, is_less_than, passes, Found, item_length, Bool, List, Some, ap, arith, drop, false, length, nat_lt, suc, sym, take, true, ℕ, ◌&&◌, ◌+◌, ◌∙◌, ◌∷◌, ◌≡◌, ◌≤◌, nat_tests, is_ascii_alphanumeric, prefix_len}

-- the bytes of addresses may be in URIs
pub atext-allowed : (b : ℕ) → is_atext b ≡ true → is_allowed b ≡ true
atext-allowed b h = grind (arith, nat_tests)

pub alphanumeric-allowed : (b : ℕ) → is_ascii_alphanumeric b ≡ true → is_allowed b ≡ true
alphanumeric-allowed b h = grind (arith, nat_tests)

pub at-sign-allowed : (b : ℕ) → is_at_sign b ≡ true → is_allowed b ≡ true
at-sign-allowed b h = grind (arith, nat_tests)

pub dot-allowed : (b : ℕ) → is_dot b ≡ true → is_allowed b ≡ true
dot-allowed b h = grind (arith, nat_tests)

pub hyphen-allowed : (b : ℕ) → is_hyphen b ≡ true → is_allowed b ≡ true
hyphen-allowed b h = grind (arith, nat_tests)

-- the last of four tests
last-test : (a b c d : Bool) → (a && (b && (c && d))) ≡ true → d ≡ true
last-test true true true d h = h
last-test true true false d h = absurd (cc)
last-test true false c d h = absurd (cc)
last-test false b c d h = absurd (cc)

-- what holds of each email autolink that ends at `>`
with-holds : (P : Found → Type 0) (b : ℕ) (bs : List ℕ) → ((i : ℕ) → has_byte_at bs i is_greater_than ≡ true → P (email i)) → (n : ℕ) → OfOption P (email_with (b ∷ bs) n)
with-holds P b bs each n =
    let domain = drop (n + 2) (b ∷ bs) in
    let d = prefix_len is_domain_byte domain in
    let some = nat_lt 0 n in
    let sign = has_byte_at (b ∷ bs) (n + 1) is_at_sign in
    let named = is_domain (take d domain) in
    let ends = has_byte_at domain d is_greater_than in
    let place : suc (n + 1 + d) ≡ n + 2 + d = omega arith in
    when-so P (some && (sign && (named && ends))) (Some (email (n + 1 + d)))
    (λ h. each (n + 1 + d)
    (ap (λ i. has_byte_at (b ∷ bs) i is_greater_than) place ∙ ap (passes is_greater_than) (sym (get-dropped (n + 2) (b ∷ bs) d)) ∙ last-test some sign named ends h))

email-holds : (P : Found → Type 0) (b : ℕ) (bs : List ℕ) → ((i : ℕ) → has_byte_at bs i is_greater_than ≡ true → P (email i)) → OfOption P (email_at (b ∷ bs))
email-holds P b bs each = when-there P (is_less_than b) (email_with (b ∷ bs) (prefix_len is_atext bs)) (with-holds P b bs each (prefix_len is_atext bs))

-- a look that finds an email autolink takes no more calls than it has bytes
pub email-paid : (b : ℕ) (bs : List ℕ) → OfOption (λ (item : Found). link_calls (b ∷ bs) ≤ item_length item) (email_at (b ∷ bs))
email-paid b bs = email-holds (λ item. link_calls (b ∷ bs) ≤ item_length item) b bs (λ i h. omega (arith, allowed-upto bs i h))

-- and it has no more than the text
pub email-within : (b : ℕ) (bs : List ℕ) → OfOption (λ (item : Found). item_length item ≤ length (b ∷ bs)) (email_at (b ∷ bs))
email-within b bs = email-holds (λ item. item_length item ≤ length (b ∷ bs)) b bs (λ i h. omega (arith, byte-within is_greater_than bs i h))
