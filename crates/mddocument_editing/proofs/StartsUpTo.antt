-- Where lines start, up to an index: one index on, and of a front.
use Rattle.mddocument_editing.proofs.Prelude.{◌≡◌, ℕ, zero, suc, ◌+◌, ◌-◌, ◌<◌, ◌≤◌, true, false, cond, List, [], ◌∷◌, ◌++◌, length, sym, ap, ◌∙◌, arith, add-one, Some, get_or, append-nil, length-append, get_or_append_left, get_or_push, length_push, slice_get-get_or, slice_get, slice_index, ends_line, is_line_start, starts, starts_up_to}
use Rattle.std.proofs.lemmas.List.{append_assoc}
use Rattle.markdown_base.proofs.LineLemmas.{passing_more}

module _ (bytes : List ℕ) where
  -- one index on, a line starts there, if the byte in front ends one
  pub more : (k : ℕ) → starts_up_to bytes (k + 1) ≡ starts_up_to bytes k ++ cond (ends_line bytes k) ((k + 1) ∷ []) []
  more k = passing_more (is_line_start bytes) (k + 1) ∙ ap (λ n. starts_up_to bytes k ++ cond (is_line_start bytes n) ((k + 1) ∷ []) []) (add-one k)

  pub starts-more : (k : ℕ) → ends_line bytes k ≡ true → starts_up_to bytes (k + 1) ≡ starts_up_to bytes k ++ (k + 1) ∷ []
  starts-more k h = more k ∙ ap (λ b. starts_up_to bytes k ++ cond b ((k + 1) ∷ []) []) h

  pub starts-same : (k : ℕ) → ends_line bytes k ≡ false → starts_up_to bytes (k + 1) ≡ starts_up_to bytes k
  starts-same k h = more k ∙ ap (λ b. starts_up_to bytes k ++ cond b ((k + 1) ∷ []) []) h ∙ append-nil (starts_up_to bytes k)

  -- those up to an index are the first ones of those up to a later one
  pub starts-front : (k d : ℕ) → (rest : List ℕ) × (starts_up_to bytes (k + d) ≡ starts_up_to bytes k ++ rest)
  starts-front k zero = ([], (let e : k + 0 ≡ k = omega arith in ap (starts_up_to bytes) e ∙ sym (append-nil (starts_up_to bytes k))))
  starts-front k (suc d) =
      let before = starts-front k d in
      let last = cond (ends_line bytes (k + d)) ((k + d + 1) ∷ []) [] in
      let e : k + suc d ≡ k + d + 1 = omega arith in
      (before.0 ++ last, ap (starts_up_to bytes) e ∙ more (k + d) ∙ ap (λ xs. xs ++ last) before.1 ∙ append_assoc (starts_up_to bytes k) before.0 last)

  -- so one of them is also one of all
  pub starts-get : (k line : ℕ) → k ≤ length bytes → line < length (starts_up_to bytes k) → slice_get (starts bytes) line ≡ Some (slice_index (starts_up_to bytes k) line)
  starts-get k line within few =
      let front = starts-front k (length bytes - k) in
      let e : k + (length bytes - k) ≡ length bytes = omega arith in
      let all : starts bytes ≡ starts_up_to bytes k ++ front.0 = ap (starts_up_to bytes) (sym e) ∙ front.1 in
      let long : line < length (starts bytes) = omega (arith, ap length all, length-append (starts_up_to bytes k) front.0) in
      slice_get-get_or (starts bytes) line 0 long ∙ ap (λ xs. Some (get_or xs line 0)) all ∙ ap Some (get_or_append_left (starts_up_to bytes k) front.0 0 line few)

  -- the first line starts at 0
  pub starts-some : (k : ℕ) → (0 < length (starts_up_to bytes k)) × (slice_index (starts_up_to bytes k) 0 ≡ 0)
  starts-some k =
      let front = starts-front 0 k in
      let e : 0 + k ≡ k = omega arith in
      let all : starts_up_to bytes k ≡ 0 ∷ front.0 = ap (starts_up_to bytes) (sym e) ∙ front.1 in
      (omega (arith, ap length all), ap (λ xs. get_or xs 0 0) all)

  -- the same, told by their number and the last of them
  pub more-starts : (k line : ℕ) → length (starts_up_to bytes k) ≡ line + 1 → ends_line bytes k ≡ true
      → (length (starts_up_to bytes (k + 1)) ≡ line + 1 + 1) × (slice_index (starts_up_to bytes (k + 1)) (line + 1) ≡ k + 1)
  more-starts k line count h =
      let is = starts-more k h in
      (ap length is ∙ length_push (starts_up_to bytes k) (k + 1) ∙ ap (λ n. n + 1) count, ap (λ xs. get_or xs (line + 1) 0) is ∙ get_or_push (starts_up_to bytes k) (k + 1) 0 (line + 1) count)
