-- The events that a machine makes of an autolink, whatever stands between its markers, are those of an autolink.
use Rattle.markdown_base.specs.declared.event.Name.{Name}
use Rattle.mdconstructs_machines.specs.Spans.{span}
use Rattle.mdinline_text_machine.proofs.Prelude.{at-front, ◌≡◌, ℕ, suc, ◌+◌, ◌<◌, ◌∷◌, ◌++◌, [], List, false, refl, sym, ◌∙◌, ap, Some, arith, length, take, drop, slice_get, ◌==◌, take_at, drop_at, drop-drop, length-take-le, slice_get_within, between_is, between, drop-next, end-after-one, Event, Enter, Exit, Autolink, AutolinkMarker, shown, Seat, Given, Text, point_or, end_or, end_place, event, leaf, take-suc, get_or_from_slice_get, append_assoc, take-append_seam}
use Rattle.mdinline_text_machine.proofs.Plain.Stretches.{leaf-read}

-- A virtual byte that is no line ending ends where the next is shown: gaps are only at the starts of lines
abbrev pub IsJoined : Given → Text → Type 0
IsJoined g text = (p : ℕ) (s r : Seat) → slice_get text.seats p ≡ Some s → slice_get text.seats (p + 1) ≡ Some r → (s.byte == 10) ≡ false → shown g.bytes s.end ≡ shown g.bytes r.point

-- an autolink with so many bytes between its markers, which are read under this name
abbrev pub in_markers : (inside : Name) (bytes : List ℕ) (n : ℕ) → List Seat → List Event
in_markers inside bytes n seats =
    span bytes Autolink seats (leaf bytes AutolinkMarker (take 1 seats) ++ (leaf bytes inside (between 1 (1 + n) seats) ++ leaf bytes AutolinkMarker (drop (1 + n) seats)))

-- its events, by its first virtual byte, its last, and those between them
spelled : (inside : Name) (bytes : List ℕ) (n : ℕ) (s x : Seat) (xs : List Seat) → length xs ≡ n
    → in_markers inside bytes n (s ∷ (xs ++ x ∷ []))
    ≡ event bytes Enter Autolink s.point ∷ ((leaf bytes AutolinkMarker (s ∷ []) ++ (leaf bytes inside xs ++ leaf bytes AutolinkMarker (x ∷ []))) ++ event bytes Exit Autolink x.end ∷ [])
spelled inside bytes n s x xs size =
    let all = s ∷ (xs ++ x ∷ []) in
    let more : 1 + n ≡ suc n = omega arith in
    let middle : between 1 (1 + n) all ≡ xs = between_is all 1 (1 + n) ∙ ap (λ k. drop 1 (take k all)) more ∙ take_at xs (x ∷ []) n size in
    let last : drop (1 + n) all ≡ x ∷ [] = ap (λ k. drop k all) more ∙ drop_at xs (x ∷ []) n size in
    rw (middle, last, end-after-one s.end xs x) refl

module _ (inside : Name) (g : Given) (text : Text) where
  -- the events before what is inside
  abbrev pub begun_marked : List Event → ℕ → List Event
  begun_marked events p =
      (((events ++ event g.bytes Enter Autolink (point_or text.end (slice_get text.seats p)) ∷ [])
      ++ event g.bytes Enter AutolinkMarker (point_or text.end (slice_get text.seats p)) ∷ [])
      ++ event g.bytes Exit AutolinkMarker (end_or text.end (slice_get text.seats p)) ∷ [])
      ++ event g.bytes Enter inside (end_or text.end (slice_get text.seats p)) ∷ []

  -- they are taken back if it is rejected
  pub marked-front : (events : List Event) (p : ℕ) → take (length events) (begun_marked events p) ≡ events
  marked-front events p = simp (append_assoc, take-append_seam)

  -- and those behind all
  abbrev pub ended_marked : List Event → ℕ → List Event
  ended_marked events q =
      (((events ++ event g.bytes Exit inside (end_place text q) ∷ [])
      ++ event g.bytes Enter AutolinkMarker (point_or text.end (slice_get text.seats q)) ∷ [])
      ++ event g.bytes Exit AutolinkMarker (end_or text.end (slice_get text.seats q)) ∷ [])
      ++ event g.bytes Exit Autolink (end_or text.end (slice_get text.seats q)) ∷ []

  -- The events that it leaves are an autolink's
  pub marked-events : IsJoined g text → (events : List Event) (p n : ℕ) (s r x : Seat) (rs xs : List Seat) → drop p text.seats ≡ s ∷ r ∷ rs → (s.byte == 10) ≡ false → 0 < n
      → drop (p + 1 + n) text.seats ≡ x ∷ xs → ended_marked (begun_marked events p) (p + 1 + n) ≡ events ++ in_markers inside g.bytes n (take (n + 2) (s ∷ r ∷ rs))
  marked-events joined events p n s r x rs xs here plain some there =
      let ss = r ∷ rs in
      let q = p + 1 + n in
      let at = at-front text.seats p s ss here in
      let behind = drop-next text.seats p s ss here in
      let at_r = at-front text.seats (p + 1) r rs behind in
      let at_x = at-front text.seats q x xs there in
      let last : slice_get ss n ≡ Some x = at-front ss n x xs (ap (drop n) (sym behind) ∙ drop-drop n (p + 1) text.seats ∙ there) in
      let within = slice_get_within ss n x last in
      let exits = event g.bytes Exit inside (end_place text q) in
      let read : event g.bytes Enter inside r.point ∷ exits ∷ [] ≡ leaf g.bytes inside (take n ss) =
      ap (λ o. event g.bytes Enter inside (point_or text.end o) ∷ exits ∷ []) (sym at_r) ∙ leaf-read text g.bytes inside n (p + 1) r rs behind some (omega (arith, within)) in
      let two_more : n + 2 ≡ suc (suc n) = omega arith in
      let all : take (n + 2) (s ∷ ss) ≡ s ∷ (take n ss ++ x ∷ []) = ap (λ k. take k (s ∷ ss)) two_more ∙ ap (λ l. s ∷ l) (take-suc ss n x within ∙ ap (λ y. take n ss ++ y ∷ []) (get_or_from_slice_get ss n x x last)) in
      let item = ap (in_markers inside g.bytes n) all ∙ spelled inside g.bytes n s x (take n ss) (length-take-le n ss (omega (arith, within))) in
      let made : ended_marked (begun_marked events p) q
      ≡ events ++ event g.bytes Enter Autolink s.point ∷ event g.bytes Enter AutolinkMarker s.point ∷ event g.bytes Exit AutolinkMarker s.end ∷ event g.bytes Enter inside r.point ∷ exits
      ∷ event g.bytes Enter AutolinkMarker x.point ∷ event g.bytes Exit AutolinkMarker x.end ∷ event g.bytes Exit Autolink x.end ∷ [] = simp (at, at_x, joined p s r at at_r plain, append_assoc) in
      made
      ∙ ap (λ l. events ++ event g.bytes Enter Autolink s.point ∷ ((leaf g.bytes AutolinkMarker (s ∷ []) ++ (l ++ leaf g.bytes AutolinkMarker (x ∷ []))) ++ event g.bytes Exit Autolink x.end ∷ [])) read
      ∙ ap (λ es. events ++ es) (sym item)
