-- Which line an index is in, and what is in a line.
use Rattle.mddocument_editing.proofs.Prelude.{◌≡◌, ℕ, zero, suc, ◌+◌, ◌-◌, ◌<◌, ◌≤◌, true, false, List, [], ◌∷◌, ◌++◌, length, drop, refl, sym, ap, ◌∙◌, subst, arith, inl, inr, Some, get_or, cases_Bool, cases_lt, false≢true, get_or-drop, get_or_push, length-append, length-drop, length-take-le, length_push, prefix_len-le-length, prefix_len_passes, prefix_len_stops, get_or_from_slice_get, same_Some, slice_get-get_or, slice_get_within, prefix_len, ◌==◌, slice_get, slice_index, get-front, ends_line, is_lf, is_between, is_in_line, line_of, starts, starts_up_to, text_at}
use Rattle.mddocument_editing.specs.Positions.{start_of}
use Rattle.mddocument_editing.proofs.StartsUpTo.{starts-front, starts-get, starts-more, starts-same, starts-some}

-- a byte of a line's text ends no line; one that is no part of it is LF or CR
plain : (bytes : List ℕ) (k : ℕ) → is_in_line (slice_index bytes k) ≡ true → ends_line bytes k ≡ false
plain bytes k h = grind arith

-- a byte that is LF or CR and ends no line is a CR, with an LF behind it
torn : (bytes : List ℕ) (k : ℕ) → is_in_line (slice_index bytes k) ≡ false → ends_line bytes k ≡ false → ((slice_index bytes k == 13) ≡ true) × (is_lf bytes (suc k) ≡ true)
torn bytes k h ends = grind arith

lf-ends : (bytes : List ℕ) (k : ℕ) → is_lf bytes k ≡ true → ends_line bytes k ≡ true
lf-ends bytes k h = grind arith

module _ (bytes : List ℕ) where
  abbrev pub IsStart : ℕ → ℕ → Type 0
  IsStart line start = (length (starts_up_to bytes start) ≡ line + 1) × (slice_index (starts_up_to bytes start) line ≡ start)

  -- a line that starts up to an index: how many lines start up to its start
  pub start-at : (n line start : ℕ) → slice_get (starts_up_to bytes n) line ≡ Some start → (start ≤ n) × IsStart line start
  start-at zero zero start h =
      let e : 0 ≡ start = same_Some 0 start h in
      (omega arith, subst (IsStart 0) e (refl, refl))
  start-at zero (suc line) start h = absurd (cc)
  start-at (suc n) line start h =
      let next : suc n ≡ n + 1 = omega arith in
      let there = sym (ap (λ m. slice_get (starts_up_to bytes m) line) next) ∙ h in
      elim (cases_Bool (ends_line bytes n)) [
        | inr none ↦
            let before = start-at n line start (sym (ap (λ xs. slice_get xs line) (starts-same bytes n none)) ∙ there) in
            (omega (arith, before.0), before.1)
        | inl ends ↦
            let front = starts_up_to bytes n in
            let all = starts-more bytes n ends in
            let found : slice_get (front ++ (n + 1) ∷ []) line ≡ Some start = sym (ap (λ xs. slice_get xs line) all) ∙ there in
            let within : line < length front + 1 = omega (arith, slice_get_within (front ++ (n + 1) ∷ []) line start found, length_push front (n + 1)) in
            elim (cases_lt line (length front)) [
              | inl lt ↦
                  let before = start-at n line start (sym (get-front front ((n + 1) ∷ []) line lt) ∙ found) in
                  (omega (arith, before.0), before.1)
              | inr ge ↦
                  let last : length front ≡ line = omega (arith, ge) in
                  let here : n + 1 ≡ start = sym (get_or_push front (n + 1) 0 line last) ∙ get_or_from_slice_get (front ++ (n + 1) ∷ []) line start 0 found in
                  (omega (arith, here), subst (IsStart line) here (ap length all ∙ length_push front (n + 1) ∙ ap (λ m. m + 1) last, ap (λ xs. get_or xs line 0) all ∙ get_or_push front (n + 1) 0 line last))
            ]
      ]

  -- the text of a line
  module _ (start : ℕ) where
    pub size-is : length (text_at bytes start) ≡ prefix_len is_in_line (drop start bytes)
    size-is = length-take-le (prefix_len is_in_line (drop start bytes)) (drop start bytes) (prefix_len-le-length is_in_line (drop start bytes))

    pub text-within : length (text_at bytes start) ≤ length bytes - start
    text-within = omega (arith, size-is, prefix_len-le-length is_in_line (drop start bytes), length-drop start bytes)

    in-text-plain : (k : ℕ) → k < length (text_at bytes start) → ends_line bytes (start + k) ≡ false
    in-text-plain k lt =
        plain bytes (start + k) (ap is_in_line (sym (get_or-drop start bytes k 0)) ∙ prefix_len_passes is_in_line (drop start bytes) k 0 (omega (arith, size-is)))

    behind-text : start + length (text_at bytes start) < length bytes → is_in_line (slice_index bytes (start + length (text_at bytes start))) ≡ false
    behind-text lt =
        let m = prefix_len is_in_line (drop start bytes) in
        ap (λ n. is_in_line (slice_index bytes (start + n))) size-is ∙ ap is_in_line (sym (get_or-drop start bytes m 0))
        ∙ prefix_len_stops is_in_line (drop start bytes) 0 (omega (arith, size-is, length-drop start bytes))

    -- no line starts in it
    in-text-starts : (d : ℕ) → d ≤ length (text_at bytes start) → starts_up_to bytes (start + d) ≡ starts_up_to bytes start
    in-text-starts zero le = ap (starts_up_to bytes) (let e : start + 0 ≡ start = omega arith in e)
    in-text-starts (suc d) le =
        let e : start + suc d ≡ start + d + 1 = omega arith in
        ap (starts_up_to bytes) e ∙ starts-same bytes (start + d) (in-text-plain d (omega arith)) ∙ in-text-starts d (omega arith)

  -- an index in a line is in this line
  pub in-line : (line start d : ℕ) → slice_get (starts bytes) line ≡ Some start → d ≤ length (text_at bytes start)
      → (start + d ≤ length bytes) × (line_of bytes (start + d) ≡ line) × (start_of bytes (start + d) ≡ start)
  in-line line start d h le =
      let at = start-at (length bytes) line start h in
      let same = in-text-starts start d le in
      let number : line_of bytes (start + d) ≡ line = omega (arith, ap length same, at.1.0) in
      (omega (arith, at.0, text-within start), number, ap (slice_index (starts_up_to bytes (start + d))) number ∙ ap (λ xs. get_or xs line 0) same ∙ at.1.1)

  -- ---- the line of an index
  module _ (offset : ℕ) (within : offset ≤ length bytes) where
    few : line_of bytes offset < length (starts_up_to bytes offset)
    few = omega (arith, (starts-some bytes offset).0)

    pub start-found : slice_get (starts bytes) (line_of bytes offset) ≡ Some (start_of bytes offset)
    start-found = starts-get bytes offset (line_of bytes offset) within few

    found-here : (start_of bytes offset ≤ offset) × IsStart (line_of bytes offset) (start_of bytes offset)
    found-here = start-at offset (line_of bytes offset) (start_of bytes offset) (slice_get-get_or (starts_up_to bytes offset) (line_of bytes offset) 0 few)

    pub start-before : start_of bytes offset ≤ offset
    start-before = found-here.0

    -- no line ends between its start and the index
    no-end : (k : ℕ) → start_of bytes offset ≤ k → k < offset → ends_line bytes k ≡ true → ⊥
    no-end k low high ends =
        let s = start_of bytes offset in
        let e : s + (k - s) ≡ k = omega arith in
        let f : k + 1 + (offset - (k + 1)) ≡ offset = omega arith in
        let first = starts-front bytes s (k - s) in
        let last = starts-front bytes (k + 1) (offset - (k + 1)) in
        let one = ap (λ n. length (starts_up_to bytes n)) (sym e) ∙ ap length first.1 ∙ length-append (starts_up_to bytes s) first.0 in
        let two = ap length (starts-more bytes k ends) ∙ length_push (starts_up_to bytes k) (k + 1) in
        let three = ap (λ n. length (starts_up_to bytes n)) (sym f) ∙ ap length last.1 ∙ length-append (starts_up_to bytes (k + 1)) last.0 in
        omega (arith, one, two, three, found-here.1.0, (starts-some bytes offset).0)

    -- so it is in the text of the line, or between CR and LF
    pub offset-in : is_between bytes offset ≡ false → offset - start_of bytes offset ≤ length (text_at bytes (start_of bytes offset))
    offset-in apart =
        let s = start_of bytes offset in
        let k = s + length (text_at bytes s) in
        elim (cases_lt (length (text_at bytes s)) (offset - s)) [
          | inr le ↦ le
          | inl lt ↦
              let before : k < offset = omega (arith, lt) in
              let stops = behind-text s (omega (arith, before)) in
              absurd (elim (cases_Bool (ends_line bytes k)) [
                | inl ends ↦ no-end k (omega arith) before ends
                | inr none ↦
                    let both = torn bytes k stops none in
                    elim (cases_lt (suc k) offset) [
                      | inl next ↦ no-end (suc k) (omega arith) next (lf-ends bytes (suc k) both.1)
                      | inr last ↦
                          let here : suc k ≡ offset = omega (arith, last) in
                          let between : is_between bytes (suc k) ≡ true = rw (both.1, both.0) refl in
                          false≢true (sym apart ∙ ap (is_between bytes) (sym here) ∙ between)
                    ]
              ])
        ]
