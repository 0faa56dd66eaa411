-- The events of an autolink: they can be cut into atoms, as none goes over a line ending; and what spans keep holds of them.
use Rattle.mdinline_text_machine.proofs.Prelude.{Seat, take, drop, between, leaf, autolink_at, ◌≡◌, ℕ, ◌+◌, ◌-◌, ◌&&◌, List, true, false, cond, Option, Some, None, refl, sym, ◌∙◌, ap, subst, arith, prefix_len, drop-take, take-take, drop-map, and-right, Autolink, AutolinkMarker, AutolinkProtocol, autolink, has_byte_at, is_colon, is_less_than, is_greater_than, is_scheme, is_scheme_byte, is_allowed, uri, autolink_to, bytes_of, Event}
use Rattle.mdinline_text_machine.proofs.Constructs.Apart.{OfOption, when-there}
use Rattle.mdinline_text_machine.proofs.DeepSpans.Atoms.{OneLine, cut-leaf}
use Rattle.mdinline_text_machine.proofs.Texts.Built.{IsKeptBySpans, IsBuilt, three}
use Rattle.mdinline_text_machine.proofs.DeepSpans.Stretches.{NoEnding, plain-line, run-plain, plain-add, run-behind, one-taken, byte-plain, three-cut, ItemCut}

-- an absolute URI: a scheme, a colon, and bytes that are allowed
uri-plain : (l : List Seat) (n : ℕ) → uri (bytes_of l) ≡ Some n → NoEnding (take n l)
uri-plain l n h =
    let text = bytes_of l in
    let m = prefix_len is_scheme_byte text in
    let q = prefix_len is_allowed (drop (m + 1) text) in
    let test = is_scheme (take m text) && has_byte_at text m is_colon in
    elim test as (λ t. test ≡ t → cond t (Some (m + 1 + q)) None ≡ Some n → NoEnding (take n l)) [
      | true ↦ λ e is.
          let same : m + 1 + q ≡ n = cc in
          let colon = byte-plain is_colon refl l m (and-right (is_scheme (take m text)) (has_byte_at text m is_colon) e) in
          subst (λ k. NoEnding (take k l)) same (plain-add (m + 1) q l (plain-add m 1 l (run-plain is_scheme_byte refl l) colon) (run-behind is_allowed refl (m + 1) l))
      | false ↦ λ e is. absurd (cc)
    ] refl h

module _ (bytes : List ℕ) where
  -- autolinks: a URI between two markers
  link-to : (seats : List Seat) (o : Option ℕ) → uri (drop 1 (bytes_of seats)) ≡ o → OfOption (ItemCut bytes seats) (autolink_to (bytes_of seats) o)
  link-to seats None h = tt
  link-to seats (Some n) h =
      let plain = uri-plain (drop 1 seats) n (ap uri (sym (drop-map (λ (s : Seat). s.byte) 1 seats)) ∙ h) in
      let l = take (n + 2) seats in
      let size : 1 + n - 1 ≡ n = omega arith in
      let long : n + 2 ≡ 1 + (n + 1) = omega arith in
      let longer : n + 2 ≡ 1 + n + 1 = omega arith in
      let middle_is : between 1 (1 + n) l ≡ take n (drop 1 seats) =
      (λ x. take (size x) (drop 1 (take (long x) seats))) ∙ ap (take n) (drop-take 1 (n + 1) seats) ∙ take-take n (n + 1) (drop 1 seats) (omega arith) in
      let last_is : drop (1 + n) l ≡ take 1 (drop (1 + n) seats) = ap (λ m. drop (1 + n) (take m seats)) longer ∙ drop-take (1 + n) 1 seats in
      when-there (ItemCut bytes seats) (has_byte_at (bytes_of seats) (n + 1) is_greater_than) (Some (autolink n))
      (three-cut bytes Autolink 1 n l (cut-leaf bytes AutolinkMarker (take 1 l) (one-taken l))
      (cut-leaf bytes AutolinkProtocol (between 1 (1 + n) l) (plain-line (between 1 (1 + n) l) (subst NoEnding (sym middle_is) plain)))
      (cut-leaf bytes AutolinkMarker (drop (1 + n) l) (subst OneLine (sym last_is) (one-taken (drop (1 + n) seats)))))

  pub autolink-cut : (seats : List Seat) → OfOption (ItemCut bytes seats) (autolink_at (bytes_of seats))
  autolink-cut seats =
      let text = bytes_of seats in
      when-there (ItemCut bytes seats) (has_byte_at text 0 is_less_than) (autolink_to text (uri (drop 1 text))) (link-to seats (uri (drop 1 text)) refl)

-- what spans keep
module _ (bytes : List ℕ) (P : List Event → Type 0) (kept : IsKeptBySpans bytes P) where
  link-built : (text : List ℕ) (o : Option ℕ) → OfOption (IsBuilt bytes P kept) (autolink_to text o)
  link-built text None = tt
  link-built text (Some n) =
      when-there (IsBuilt bytes P kept) (has_byte_at text (n + 1) is_greater_than) (Some (autolink n)) (λ seats.
      let inner = between 1 (1 + n) seats in
      kept.around Autolink seats _ refl (three bytes P kept AutolinkMarker AutolinkMarker (take 1 seats) (drop (1 + n) seats) (leaf bytes AutolinkProtocol inner) (kept.alone AutolinkProtocol inner)))

  pub autolink-built : (text : List ℕ) → OfOption (IsBuilt bytes P kept) (autolink_at text)
  autolink-built text =
      when-there (IsBuilt bytes P kept) (has_byte_at text 0 is_less_than) (autolink_to text (uri (drop 1 text))) (link-built text (uri (drop 1 text)))
