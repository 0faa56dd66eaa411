-- The events that a machine makes of a character reference are the item's.
use Rattle.mdinline_constructs.proofs.Prelude.{◌≡◌, ℕ, suc, ◌+◌, ◌<◌, ◌++◌, List, [], ◌∷◌, length, take, drop, slice_get, refl, sym, ap, ◌∙◌, arith, take-append_seam, take-suc, append_assoc, drop-drop, drop_at, length-take-le, take_at, get_or_from_slice_get, slice_get_within, between_is, between, drop-next, end-after-one, Seat, Event, Enter, Exit, EventName, CharacterReference, CharacterReferenceMarker, CharacterReferenceMarkerNumeric, CharacterReferenceMarkerHexadecimal, CharacterReferenceMarkerSemi, CharacterReferenceValue, end_or, end_place, point_or, Given, Text, at-front, item_events, leaf-read, named, decimal, hexadecimal, reference}
use Rattle.mdconstructs_machines.specs.Spans.{event, leaf}

-- the events of a reference, by its markers, its value, and `;`
module _ (bytes : List ℕ) (n : ℕ) (v : List Seat) (x : Seat) (size : length v ≡ n) where
  abbrev behind_marks : List Event
  behind_marks = leaf bytes CharacterReferenceValue v ++ leaf bytes CharacterReferenceMarkerSemi (x ∷ [])

  named-spelled : (s : Seat) → item_events bytes (reference named n, s ∷ (v ++ (x ∷ [])))
      ≡ event bytes Enter CharacterReference s.point ∷ ((leaf bytes CharacterReferenceMarker (s ∷ []) ++ behind_marks) ++ (event bytes Exit CharacterReference x.end ∷ []))
  named-spelled s =
      let all = s ∷ (v ++ (x ∷ [])) in
      let more : 1 + n ≡ suc n = omega arith in
      let inside : between 1 (1 + n) all ≡ v = between_is all 1 (1 + n) ∙ ap (λ k. drop 1 (take k all)) more ∙ take_at v (x ∷ []) n size in
      let last : drop (1 + n) all ≡ x ∷ [] = ap (λ k. drop k all) more ∙ drop_at v (x ∷ []) n size in
      rw (inside, last, end-after-one s.end v x) refl

  decimal-spelled : (s h : Seat) → item_events bytes (reference decimal n, s ∷ h ∷ (v ++ (x ∷ [])))
      ≡ event bytes Enter CharacterReference s.point ∷ (((leaf bytes CharacterReferenceMarker (s ∷ []) ++ leaf bytes CharacterReferenceMarkerNumeric (h ∷ [])) ++ behind_marks) ++ (event bytes Exit CharacterReference x.end ∷ []))
  decimal-spelled s h =
      let all = s ∷ h ∷ (v ++ (x ∷ [])) in
      let more : 2 + n ≡ suc (suc n) = omega arith in
      let inside : between 2 (2 + n) all ≡ v = between_is all 2 (2 + n) ∙ ap (λ k. drop 2 (take k all)) more ∙ take_at v (x ∷ []) n size in
      let last : drop (2 + n) all ≡ x ∷ [] = ap (λ k. drop k all) more ∙ drop_at v (x ∷ []) n size in
      rw (inside, last, end-after-one s.end (h ∷ v) x) refl

  hexadecimal-spelled : (s h y : Seat) → item_events bytes (reference hexadecimal n, s ∷ h ∷ y ∷ (v ++ (x ∷ [])))
      ≡ event bytes Enter CharacterReference s.point
      ∷ (((leaf bytes CharacterReferenceMarker (s ∷ []) ++ (leaf bytes CharacterReferenceMarkerNumeric (h ∷ []) ++ leaf bytes CharacterReferenceMarkerHexadecimal (y ∷ []))) ++ behind_marks) ++ (event bytes Exit CharacterReference x.end ∷ []))
  hexadecimal-spelled s h y =
      let all = s ∷ h ∷ y ∷ (v ++ (x ∷ [])) in
      let more : 3 + n ≡ suc (suc (suc n)) = omega arith in
      let inside : between 3 (3 + n) all ≡ v = between_is all 3 (3 + n) ∙ ap (λ k. drop 3 (take k all)) more ∙ take_at v (x ∷ []) n size in
      let last : drop (3 + n) all ≡ x ∷ [] = ap (λ k. drop k all) more ∙ drop_at v (x ∷ []) n size in
      rw (inside, last, end-after-one s.end (h ∷ y ∷ v) x) refl

-- the virtual bytes of a value and the one behind it
value-taken : (l xs : List Seat) (n : ℕ) (x : Seat) → drop n l ≡ x ∷ xs → (length (take n l) ≡ n) × (n < length l) × (take (suc n) l ≡ take n l ++ (x ∷ []))
value-taken l xs n x h =
    let last = at-front l n x xs h in
    let within = slice_get_within l n x last in (
      length-take-le n l (omega (arith, within)),
      within,
      take-suc l n x within ∙ ap (λ y. take n l ++ (y ∷ [])) (get_or_from_slice_get l n x x last),
    )

module _ (g : Given) (text : Text) where
  -- a byte is a span of its own
  abbrev pub marked_at : List Event → EventName → ℕ → List Event
  marked_at events name p = (events ++ (event g.bytes Enter name (point_or text.end (slice_get text.seats p)) ∷ [])) ++ (event g.bytes Exit name (end_or text.end (slice_get text.seats p)) ∷ [])

  -- the events before a value: of `&`, of `&#`, and of `&#x`
  abbrev pub begun_named : List Event → ℕ → List Event
  begun_named events p = marked_at (events ++ (event g.bytes Enter CharacterReference (point_or text.end (slice_get text.seats p)) ∷ [])) CharacterReferenceMarker p

  abbrev pub begun_decimal : List Event → ℕ → List Event
  begun_decimal events p = marked_at (begun_named events p) CharacterReferenceMarkerNumeric (p + 1)

  abbrev pub begun_hexadecimal : List Event → ℕ → List Event
  begun_hexadecimal events p = marked_at (begun_decimal events p) CharacterReferenceMarkerHexadecimal (p + 1 + 1)

  -- a value begins
  abbrev pub entered_value : List Event → ℕ → List Event
  entered_value events q = events ++ (event g.bytes Enter CharacterReferenceValue (point_or text.end (slice_get text.seats q)) ∷ [])

  -- it ends, and the reference with it
  abbrev pub ended_value : List Event → ℕ → List Event
  ended_value events q =
      marked_at (events ++ (event g.bytes Exit CharacterReferenceValue (end_place text q) ∷ [])) CharacterReferenceMarkerSemi q ++ (event g.bytes Exit CharacterReference (end_or text.end (slice_get text.seats q)) ∷ [])

  -- all are taken back if it is rejected
  pub named-front : (events : List Event) (p : ℕ) → take (length events) (begun_named events p) ≡ events
  named-front events p = simp (append_assoc, take-append_seam)

  pub decimal-front : (events : List Event) (p : ℕ) → take (length events) (begun_decimal events p) ≡ events
  decimal-front events p = simp (append_assoc, take-append_seam)

  pub hexadecimal-front : (events : List Event) (p : ℕ) → take (length events) (begun_hexadecimal events p) ≡ events
  hexadecimal-front events p = simp (append_assoc, take-append_seam)

  -- what is made of a value and `;`
  value-events : (front : List Event) (q n : ℕ) (v x : Seat) (vs xs : List Seat) → drop q text.seats ≡ v ∷ vs → 0 < n → drop (q + n) text.seats ≡ x ∷ xs
      → ended_value (entered_value front q) (q + n)
      ≡ front ++ ((leaf g.bytes CharacterReferenceValue (take n (v ∷ vs)) ++ leaf g.bytes CharacterReferenceMarkerSemi (x ∷ [])) ++ (event g.bytes Exit CharacterReference x.end ∷ []))
  value-events front q n v x vs xs here some there =
      let at_v = at-front text.seats q v vs here in
      let at_x = at-front text.seats (q + n) x xs there in
      let within = (value-taken (v ∷ vs) xs n x (ap (drop n) (sym here) ∙ drop-drop n q text.seats ∙ there)).1 in
      let exits = event g.bytes Exit CharacterReferenceValue (end_place text (q + n)) in
      let value : event g.bytes Enter CharacterReferenceValue v.point ∷ exits ∷ [] ≡ leaf g.bytes CharacterReferenceValue (take n (v ∷ vs)) =
      ap (λ o. event g.bytes Enter CharacterReferenceValue (point_or text.end o) ∷ exits ∷ []) (sym at_v) ∙ leaf-read text g.bytes CharacterReferenceValue n q v vs here some (omega (arith, within)) in
      let made : ended_value (entered_value front q) (q + n)
      ≡ front ++ (event g.bytes Enter CharacterReferenceValue v.point ∷ exits ∷ event g.bytes Enter CharacterReferenceMarkerSemi x.point ∷ event g.bytes Exit CharacterReferenceMarkerSemi x.end
      ∷ event g.bytes Exit CharacterReference x.end ∷ []) = simp (at_v, at_x, append_assoc) in
      made ∙ ap (λ l. front ++ ((l ++ leaf g.bytes CharacterReferenceMarkerSemi (x ∷ [])) ++ (event g.bytes Exit CharacterReference x.end ∷ []))) value

  -- The events that a reference leaves are the item's, of each kind
  pub named-events : (events : List Event) (p n : ℕ) (s v x : Seat) (vs xs : List Seat) → drop p text.seats ≡ s ∷ v ∷ vs → 0 < n → drop (p + 1 + n) text.seats ≡ x ∷ xs
      → ended_value (entered_value (begun_named events p) (p + 1)) (p + 1 + n) ≡ events ++ item_events g.bytes (reference named n, take (1 + n + 1) (s ∷ v ∷ vs))
  named-events events p n s v x vs xs here some there =
      let l = v ∷ vs in
      let at = at-front text.seats p s l here in
      let behind = drop-next text.seats p s l here in
      let taken = value-taken l xs n x (ap (drop n) (sym behind) ∙ drop-drop n (p + 1) text.seats ∙ there) in
      let more : 1 + n + 1 ≡ suc (suc n) = omega arith in
      let all : take (1 + n + 1) (s ∷ l) ≡ s ∷ (take n l ++ (x ∷ [])) = ap (λ k. take k (s ∷ l)) more ∙ ap (λ l. s ∷ l) taken.2 in
      let item = ap (λ l. item_events g.bytes (reference named n, l)) all ∙ named-spelled g.bytes n (take n l) x taken.0 s in
      let tail = (leaf g.bytes CharacterReferenceValue (take n l) ++ leaf g.bytes CharacterReferenceMarkerSemi (x ∷ [])) ++ (event g.bytes Exit CharacterReference x.end ∷ []) in
      let front : begun_named events p ++ tail ≡ events ++ (event g.bytes Enter CharacterReference s.point ∷ event g.bytes Enter CharacterReferenceMarker s.point ∷ event g.bytes Exit CharacterReferenceMarker s.end ∷ tail) = simp (at, append_assoc) in
      value-events (begun_named events p) (p + 1) n v x vs xs behind some there ∙ front ∙ ap (λ es. events ++ es) (sym item)

  pub decimal-events : (events : List Event) (p n : ℕ) (s h v x : Seat) (vs xs : List Seat) → drop p text.seats ≡ s ∷ h ∷ v ∷ vs → 0 < n → drop (p + 1 + 1 + n) text.seats ≡ x ∷ xs
      → ended_value (entered_value (begun_decimal events p) (p + 1 + 1)) (p + 1 + 1 + n) ≡ events ++ item_events g.bytes (reference decimal n, take (2 + n + 1) (s ∷ h ∷ v ∷ vs))
  decimal-events events p n s h v x vs xs here some there =
      let l = v ∷ vs in
      let at = at-front text.seats p s (h ∷ l) here in
      let next = drop-next text.seats p s (h ∷ l) here in
      let at_h = at-front text.seats (p + 1) h l next in
      let behind = drop-next text.seats (p + 1) h l next in
      let taken = value-taken l xs n x (ap (drop n) (sym behind) ∙ drop-drop n (p + 1 + 1) text.seats ∙ there) in
      let more : 2 + n + 1 ≡ suc (suc (suc n)) = omega arith in
      let all : take (2 + n + 1) (s ∷ h ∷ l) ≡ s ∷ h ∷ (take n l ++ (x ∷ [])) = ap (λ k. take k (s ∷ h ∷ l)) more ∙ ap (λ l. s ∷ h ∷ l) taken.2 in
      let item = ap (λ l. item_events g.bytes (reference decimal n, l)) all ∙ decimal-spelled g.bytes n (take n l) x taken.0 s h in
      let tail = (leaf g.bytes CharacterReferenceValue (take n l) ++ leaf g.bytes CharacterReferenceMarkerSemi (x ∷ [])) ++ (event g.bytes Exit CharacterReference x.end ∷ []) in
      let front : begun_decimal events p ++ tail
      ≡ events ++ (event g.bytes Enter CharacterReference s.point ∷ event g.bytes Enter CharacterReferenceMarker s.point ∷ event g.bytes Exit CharacterReferenceMarker s.end
      ∷ event g.bytes Enter CharacterReferenceMarkerNumeric h.point ∷ event g.bytes Exit CharacterReferenceMarkerNumeric h.end ∷ tail) = simp (at, at_h, append_assoc) in
      value-events (begun_decimal events p) (p + 1 + 1) n v x vs xs behind some there ∙ front ∙ ap (λ es. events ++ es) (sym item)

  pub hexadecimal-events : (events : List Event) (p n : ℕ) (s h y v x : Seat) (vs xs : List Seat) → drop p text.seats ≡ s ∷ h ∷ y ∷ v ∷ vs → 0 < n → drop (p + 1 + 1 + 1 + n) text.seats ≡ x ∷ xs
      → ended_value (entered_value (begun_hexadecimal events p) (p + 1 + 1 + 1)) (p + 1 + 1 + 1 + n) ≡ events ++ item_events g.bytes (reference hexadecimal n, take (3 + n + 1) (s ∷ h ∷ y ∷ v ∷ vs))
  hexadecimal-events events p n s h y v x vs xs here some there =
      let l = v ∷ vs in
      let at = at-front text.seats p s (h ∷ y ∷ l) here in
      let next = drop-next text.seats p s (h ∷ y ∷ l) here in
      let at_h = at-front text.seats (p + 1) h (y ∷ l) next in
      let further = drop-next text.seats (p + 1) h (y ∷ l) next in
      let at_y = at-front text.seats (p + 1 + 1) y l further in
      let behind = drop-next text.seats (p + 1 + 1) y l further in
      let taken = value-taken l xs n x (ap (drop n) (sym behind) ∙ drop-drop n (p + 1 + 1 + 1) text.seats ∙ there) in
      let more : 3 + n + 1 ≡ suc (suc (suc (suc n))) = omega arith in
      let all : take (3 + n + 1) (s ∷ h ∷ y ∷ l) ≡ s ∷ h ∷ y ∷ (take n l ++ (x ∷ [])) = ap (λ k. take k (s ∷ h ∷ y ∷ l)) more ∙ ap (λ l. s ∷ h ∷ y ∷ l) taken.2 in
      let item = ap (λ l. item_events g.bytes (reference hexadecimal n, l)) all ∙ hexadecimal-spelled g.bytes n (take n l) x taken.0 s h y in
      let tail = (leaf g.bytes CharacterReferenceValue (take n l) ++ leaf g.bytes CharacterReferenceMarkerSemi (x ∷ [])) ++ (event g.bytes Exit CharacterReference x.end ∷ []) in
      let front : begun_hexadecimal events p ++ tail
      ≡ events ++ (event g.bytes Enter CharacterReference s.point ∷ event g.bytes Enter CharacterReferenceMarker s.point ∷ event g.bytes Exit CharacterReferenceMarker s.end
      ∷ event g.bytes Enter CharacterReferenceMarkerNumeric h.point ∷ event g.bytes Exit CharacterReferenceMarkerNumeric h.end
      ∷ event g.bytes Enter CharacterReferenceMarkerHexadecimal y.point ∷ event g.bytes Exit CharacterReferenceMarkerHexadecimal y.end ∷ tail) = simp (at, at_h, at_y, append_assoc) in
      value-events (begun_hexadecimal events p) (p + 1 + 1 + 1) n v x vs xs behind some there ∙ front ∙ ap (λ es. events ++ es) (sym item)
