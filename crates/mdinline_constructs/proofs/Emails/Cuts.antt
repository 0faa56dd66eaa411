-- The events of an email autolink: they can be cut into atoms, as none goes over a line ending; and what spans keep holds of them.
use Rattle.mdinline_constructs.proofs.Prelude.{Seat, Event, Autolink, AutolinkEmail, AutolinkMarker, email, email_at, email_with, is_at_sign, is_atext, is_domain, is_domain_byte, OfOption, when-there, OneLine, cut-leaf, ItemCut, NoEnding, byte-plain, one-taken, plain-add, plain-line, run-behind, run-plain, three-cut, IsBuilt, IsKeptBySpans, three, has_byte_at, is_greater_than, is_less_than, bytes_of, leaf, List, None, Some, [], ap, arith, cond, drop, false, nat_lt, refl, subst, suc, sym, take, true, ℕ, ◌&&◌, ◌+◌, ◌-◌, ◌∙◌, ◌∷◌, ◌≡◌, and_parts, drop-take, take-take, between, prefix_len}

-- an address: characters, `@`, and characters of a domain
address-plain : (l : List Seat) → let n = prefix_len is_atext (bytes_of l) in has_byte_at (bytes_of l) n is_at_sign ≡ true
    → NoEnding (take (n + 1 + prefix_len is_domain_byte (drop (n + 1) (bytes_of l))) l)
address-plain l at =
    let n = prefix_len is_atext (bytes_of l) in
    plain-add (n + 1) (prefix_len is_domain_byte (drop (n + 1) (bytes_of l))) l (plain-add n 1 l (run-plain is_atext refl l) (byte-plain is_at_sign refl l n at)) (run-behind is_domain_byte refl (n + 1) l)

module _ (bytes : List ℕ) where
  -- an email autolink over an address without line endings
  around-cut : (seats : List Seat) (n : ℕ) → NoEnding (take n (drop 1 seats)) → ItemCut bytes seats (email n)
  around-cut seats n plain =
      let l = take (n + 2) seats in
      let size : 1 + n - 1 ≡ n = omega arith in
      let long : n + 2 ≡ 1 + (n + 1) = omega arith in
      let longer : n + 2 ≡ 1 + n + 1 = omega arith in
      let middle_is : between 1 (1 + n) l ≡ take n (drop 1 seats) =
      (λ x. take (size x) (drop 1 (take (long x) seats))) ∙ ap (take n) (drop-take 1 (n + 1) seats) ∙ take-take n (n + 1) (drop 1 seats) (omega arith) in
      let last_is : drop (1 + n) l ≡ take 1 (drop (1 + n) seats) = ap (λ m. drop (1 + n) (take m seats)) longer ∙ drop-take (1 + n) 1 seats in
      three-cut bytes Autolink 1 n l (cut-leaf bytes AutolinkMarker (take 1 l) (one-taken l))
      (cut-leaf bytes AutolinkEmail (between 1 (1 + n) l) (plain-line (between 1 (1 + n) l) (subst NoEnding (sym middle_is) plain)))
      (cut-leaf bytes AutolinkMarker (drop (1 + n) l) (subst OneLine (sym last_is) (one-taken (drop (1 + n) seats))))

  -- email autolinks: an address between two markers
  pub email-cut : (seats : List Seat) → OfOption (ItemCut bytes seats) (email_at (bytes_of seats))
  email-cut [] = tt
  email-cut (s ∷ ss) =
      let seats = s ∷ ss in
      let text = bytes_of seats in
      let n = prefix_len is_atext (bytes_of ss) in
      let domain = drop (n + 2) text in
      let d = prefix_len is_domain_byte domain in
      let one : n + 1 ≡ suc n = omega arith in
      let two : n + 2 ≡ suc (n + 1) = omega arith in
      let others = is_domain (take d domain) && has_byte_at domain d is_greater_than in
      let test = nat_lt 0 n && (has_byte_at text (n + 1) is_at_sign && others) in
      when-there (ItemCut bytes seats) (is_less_than s.byte) (email_with text n)
      (elim test as (λ t. test ≡ t → OfOption (ItemCut bytes seats) (cond t (Some (email (n + 1 + d))) None)) [
        | true ↦ λ e.
            let at : has_byte_at (bytes_of ss) n is_at_sign ≡ true =
            ap (λ m. has_byte_at text m is_at_sign) (sym one) ∙ (and_parts (has_byte_at text (n + 1) is_at_sign) others (and_parts (nat_lt 0 n) (has_byte_at text (n + 1) is_at_sign && others) e).1).0 in
            around-cut seats (n + 1 + d) (subst (λ m. NoEnding (take (n + 1 + prefix_len is_domain_byte (drop m text)) ss)) (sym two) (address-plain ss at))
        | false ↦ λ e. tt
      ] refl)

-- what spans keep
module _ (bytes : List ℕ) (P : List Event → Type 0) (kept : IsKeptBySpans bytes P) where
  around-built : (inside : ℕ) → IsBuilt bytes P kept (email inside)
  around-built inside seats =
      let inner = between 1 (1 + inside) seats in
      kept.around Autolink seats _ refl (three bytes P kept AutolinkMarker AutolinkMarker (take 1 seats) (drop (1 + inside) seats) (leaf bytes AutolinkEmail inner) (kept.alone AutolinkEmail inner))

  pub email-built : (text : List ℕ) → OfOption (IsBuilt bytes P kept) (email_at text)
  email-built text =
      let n = prefix_len is_atext (drop 1 text) in
      let domain = drop (n + 2) text in
      let d = prefix_len is_domain_byte domain in
      when-there (IsBuilt bytes P kept) (has_byte_at text 0 is_less_than) (email_with text n)
      (when-there (IsBuilt bytes P kept) (nat_lt 0 n && (has_byte_at text (n + 1) is_at_sign && (is_domain (take d domain) && has_byte_at domain d is_greater_than)))
      (Some (email (n + 1 + d))) (around-built (n + 1 + d)))
