-- Email autolinks by their bytes: they begin with `<`, and are a byte at least.
use Rattle.mdinline_constructs.proofs.Prelude.{email, email_with, is_at_sign, is_atext, is_domain, is_domain_byte, emails, autolinks-apart, IsApart, OfOption, only-there, when-there, has_byte_at, is_greater_than, is_less_than, Found, item_length, text_byte, List, Some, arith, drop, nat_lt, take, ℕ, ◌&&◌, ◌+◌, ◌<◌, ◌==◌, ◌∷◌, prefix_len}

-- an email autolink is a byte at least
abbrev IsSome : Found → Type 0
IsSome item = 0 < item_length item

with-positive : (text : List ℕ) (n : ℕ) → OfOption IsSome (email_with text n)
with-positive text n =
    let domain = drop (n + 2) text in
    let d = prefix_len is_domain_byte domain in
    when-there IsSome (nat_lt 0 n && (has_byte_at text (n + 1) is_at_sign && (is_domain (take d domain) && has_byte_at domain d is_greater_than))) (Some (email (n + 1 + d))) (omega arith)

pub emails-apart : IsApart text_byte item_length emails
emails-apart = record {
  classed = autolinks-apart.classed;
  nowhere = λ b bs h. only-there (b == 60) _ h;
  some = λ b bs. (let n = prefix_len is_atext bs in when-there IsSome (has_byte_at (b ∷ bs) 0 is_less_than) (email_with (b ∷ bs) n) (with-positive (b ∷ bs) n));
}
