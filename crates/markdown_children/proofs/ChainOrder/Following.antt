-- The chunks of the chains that fit follow one another.
use Rattle.markdown_children.proofs.Prelude.{◌≡◌, ℕ, zero, suc, ◌+◌, ◌<◌, ◌≤◌, Bool, true, false, cond, List, [], ◌∷◌, ◌++◌, length, Option, Some, None, refl, sym, ◌∙◌, ap, arith, ◌&&◌, filter, flat_map, unwrap_or, is_none, range_with_len, AllByRecursion, none-some, slice_get_within, Content, Event, Enter, Exit, next_of, previous_of, content_at, some_fits, fits, begins, chain_from, chain_of, IsChunk, option_map, slice_get, IsReady, LeadOnFrom, IsWholeFrom, AreSpaced, FollowOneAnother, every-map, recursion_from_All, filter_passes, and_parts}

-- ---- one more element of a filter

pub filter-yes : (test : ℕ → Bool) (x : ℕ) (xs : List ℕ) → test x ≡ true → filter test (x ∷ xs) ≡ x ∷ filter test xs
filter-yes test x xs e = ap (λ b. cond b (x ∷ filter test xs) (filter test xs)) e

pub filter-no : (test : ℕ → Bool) (x : ℕ) (xs : List ℕ) → test x ≡ false → filter test (x ∷ xs) ≡ filter test xs
filter-no test x xs e = ap (λ b. cond b (x ∷ filter test xs) (filter test xs)) e

-- ---- cases

-- a test passes or fails
pub by_test : {P : Type 0} (b : Bool) → (b ≡ true → P) → (b ≡ false → P) → P
by_test true f g = f refl
by_test false f g = g refl

-- there is a value, or none
pub by_option : {A P : Type 0} (o : Option A) → (o ≡ None → P) → ((a : A) → o ≡ Some a → P) → P
by_option None f g = f refl
by_option (Some a) f g = g a refl

-- what fits has a content
pub some_content : (wanted o : Option Content) → some_fits wanted o ≡ true → (c : Content) × (o ≡ Some c)
some_content wanted None e = absurd (cc)
some_content wanted (Some c) e = (c, refl)

-- the content of the event at an index fits
abbrev pub Fits : Option Content → List Event → ℕ → Type 0
Fits wanted events k = fits wanted events k ≡ true

-- the exit of a chunk is in no chain, so the next one begins behind it
pub chunks-apart : (events : List Event) (k d : ℕ) → IsChunk events k → IsChunk events d → k < d → k + 2 ≤ d
chunks-apart events k d c e l =
    let behind : d ≡ k + 1 → ⊥ = λ s.
    let same : c.exit ≡ e.enter = ap (λ o. unwrap_or o c.exit) (sym c.exit_at ∙ ap (slice_get events) (sym s) ∙ e.enter_at) in
    let kinds : Exit ≡ Enter = sym c.ended.exits ∙ ap (λ (x : Event). x.kind) same ∙ e.linked.enter in cc in
    omega arith

module _ (tab : ℕ) (bytes : List ℕ) (wanted : Option Content) (events : List Event) (ready : IsReady tab bytes wanted events) where
  abbrev n : ℕ
  n = length events

  -- ---- chunks

  pub chunk : (k : ℕ) → Fits wanted events k → IsChunk events k
  chunk k h = let c = some_content wanted (content_at events k) h in ready.chunks k c.0 c.1

  pub inside : (k : ℕ) → Fits wanted events k → k + 1 < n
  inside k h = let c = chunk k h in slice_get_within events (k + 1) c.exit c.exit_at

  pub apart : (k d : ℕ) → Fits wanted events k → Fits wanted events d → k < d → k + 2 ≤ d
  apart k d h m l = chunks-apart events k d (chunk k h) (chunk d m) l

  pub fits_next : (k d : ℕ) → Fits wanted events k → next_of events k ≡ Some d → Fits wanted events d
  fits_next k d h e = ap (some_fits wanted) (sym (ready.one_content k d e)) ∙ h

  pub fits_back : (k d : ℕ) → Fits wanted events d → next_of events k ≡ Some d → Fits wanted events k
  fits_back k d h e = ap (some_fits wanted) (ready.one_content k d e) ∙ h

  -- no chunk that fits is between two neighbours
  none_between : (p d i : ℕ) → Fits wanted events p → next_of events p ≡ Some d → Fits wanted events i → p < i → i < d → ⊥
  none_between p d i h e m l r =
      let c = some_content wanted (content_at events i) m in
      none-some c.0 (sym ((ready.gaps p d h e).no_link i (apart p i h m l) r) ∙ c.1)

  -- ---- chains: more bounds than needed change nothing

  abbrev rest_of : Option ℕ → List ℕ
  rest_of o = unwrap_or (option_map (chain_of events) o) []

  enough : (f g k : ℕ) → Fits wanted events k → n ≤ f + k → n ≤ g + k → chain_from f events k ≡ chain_from g events k
  enough (suc f) (suc g) k h a b = ap (λ ks. k ∷ ks) (by_option (next_of events k) (λ e. rw e refl) (λ d e.
      let l = ready.forward k d e in
      rw e (enough f g d (fits_next k d h e) (omega arith) (omega arith))))
  enough f g k h a b = absurd (omega (arith, inside k h))

  -- ---- the walk over the list

  -- before the event at i, the chain that goes on at o is open, and no other one that fits
  record IsOpen (i : ℕ) (o : Option ℕ) : Type 0 where
    only : (p d : ℕ) → Fits wanted events p → next_of events p ≡ Some d → p < i → i ≤ d → o ≡ Some d
    is : (d : ℕ) → o ≡ Some d → (p : ℕ) × Fits wanted events p × (next_of events p ≡ Some d) × (p < i) × (i ≤ d)

  -- where a chain is open, the chain at i is that one, and else it begins there
  goes-from : (f i : ℕ) → Fits wanted events i → (o : Option ℕ) → IsOpen i o → chain_of events i ++ flat_map (chain_of events) (filter (begins wanted events) (range_with_len (i + 1) f)) ≡ rest_of o ++ flat_map (chain_of events) (filter (begins wanted events) (range_with_len i (suc f)))
  goes-from f i h None so =
      let first : previous_of events i ≡ None = by_option (previous_of events i) (λ e. e) (λ p e.
      let on = (ready.joined p i).1 e in
      absurd (none-some i (so.only p i (fits_back p i h on) on (ready.forward p i on) (omega arith)))) in
      ap (flat_map (chain_of events)) (sym (filter-yes (begins wanted events) i (range_with_len (i + 1) f) (λ j. h j && is_none (first j))))
  goes-from f i h (Some d) so =
      let w = so.is d refl in
      let no : i < d → ⊥ = λ l. none_between w.0 d i w.1 w.2 h w.3 l in
      let l : i ≤ d = w.4 in
      let same : i ≡ d = omega arith in
      let on : begins wanted events i ≡ false = (λ j. h j && is_none ((ap (previous_of events) same ∙ (ready.joined w.0 d).0 w.2) j)) in
      (λ j. chain_of events (same j) ++ flat_map (chain_of events) (sym (filter-no (begins wanted events) i (range_with_len (i + 1) f) on) j))

  -- the chunks behind an index are what is open, and the chains that begin there
  in_order : (f i : ℕ) (o : Option ℕ) → f + i ≡ n → IsOpen i o
      → filter (fits wanted events) (range_with_len i f) ≡ rest_of o ++ flat_map (chain_of events) (filter (begins wanted events) (range_with_len i f))
  in_order zero i None e so = refl
  in_order zero i (Some d) e so = let w = so.is d refl in let l : i ≤ d = w.4 in absurd (omega (arith, inside d (fits_next w.0 d w.1 w.2)))
  in_order (suc f) i o e so = by_test (fits wanted events i)
      (λ h.
      let open_next : IsOpen (i + 1) (next_of events i) = record {
        only = λ p d a e l m.
            let no : p < i → ⊥ = λ b. none_between p d i a e h b (omega arith) in
            let same : p ≡ i = omega arith in
            ap (next_of events) (sym same) ∙ e;
        is = λ d e. (i, h, e, omega arith, let l = ready.forward i d e in omega arith);
      } in
      filter-yes (fits wanted events) i (range_with_len (i + 1) f) h ∙ ap (λ ks. i ∷ ks) (in_order f (i + 1) (next_of events i) (omega arith) open_next)
      ∙ ap (λ ks. ks ++ flat_map (chain_of events) (filter (begins wanted events) (range_with_len (i + 1) f))) (sym (enough n (suc n) i h (omega arith) (omega arith)))
      ∙ goes-from f i h o so)
      (λ never.
      let other : (p : ℕ) → Fits wanted events p → p ≡ i → ⊥ = λ p a s. let t : true ≡ false = sym a ∙ ap (fits wanted events) s ∙ never in cc in
      let open_still : IsOpen (i + 1) o = record {
        only = λ p d a e l m. let s = other p a in so.only p d a e (omega arith) (omega arith);
        is = λ d e. let w = so.is d e in let s = other d (fits_next w.0 d w.1 w.2) in let l : i ≤ d = w.4 in (w.0, w.1, w.2, omega (arith, w.3), omega arith);
      } in
      filter-no (fits wanted events) i (range_with_len (i + 1) f) never ∙ in_order f (i + 1) o (omega arith) open_still
      ∙ ap (λ ks. rest_of o ++ flat_map (chain_of events) ks) (sym (filter-no (begins wanted events) i (range_with_len (i + 1) f) (λ j. never j && is_none (previous_of events i)))))

  -- ---- chunks overlap nowhere

  spaced : (f i from : ℕ) → f + i ≡ n → ((k : ℕ) → Fits wanted events k → i ≤ k → from ≤ k) → from ≤ n → AreSpaced from (filter (fits wanted events) (range_with_len i f)) n
  spaced zero i from e above l = l
  spaced (suc f) i from e above l = by_test (fits wanted events i)
      (λ h. rw (filter-yes (fits wanted events) i (range_with_len (i + 1) f) h) (
        above i h (omega arith),
        spaced f (i + 1) (i + 2) (omega arith) (λ k m a. apart i k h m (omega arith)) (omega (arith, inside i h)),
      ))
      (λ never. rw (filter-no (fits wanted events) i (range_with_len (i + 1) f) never) (spaced f (i + 1) from (omega arith) (λ k h m. above k h (omega arith)) l))

  -- ---- chains are whole

  whole : (f k : ℕ) → Fits wanted events k → n ≤ f + k → (ks : List ℕ) × (chain_from f events k ≡ k ∷ ks) × LeadOnFrom events k ks
  whole zero k h l = absurd (omega (arith, inside k h))
  whole (suc f) k h l = by_option (next_of events k)
      (λ e. ([], ap (λ o. k ∷ unwrap_or (option_map (λ d. chain_from f events d) o) []) e, e))
      (λ d e.
      let rises = ready.forward k d e in
      let r = whole f d (fits_next k d h e) (omega arith) in
      (d ∷ r.0, ap (λ o. k ∷ unwrap_or (option_map (λ d. chain_from f events d) o) []) e ∙ ap (λ ks. k ∷ ks) r.1, (e, rises, r.2)))

  pub whole-from : (k : ℕ) → Fits wanted events k → IsWholeFrom events k
  whole-from k h = whole n k h (omega arith)

  pub starts_fit : (ks : List ℕ) → AllByRecursion (λ k. fits wanted events k ≡ true) (filter (begins wanted events) ks)
  starts_fit ks =
      let starts = filter (begins wanted events) ks in
      every-map (λ k. begins wanted events k ≡ true) (λ k. fits wanted events k ≡ true) (λ k b. (and_parts (fits wanted events k) (is_none (previous_of events k)) b).0) starts
      (recursion_from_All (λ k. begins wanted events k ≡ true) starts (filter_passes (begins wanted events) ks))

  pub follow_one_another : FollowOneAnother wanted events
  follow_one_another = record {
    in_order = sym (in_order n 0 None (omega arith) (record { only = λ p d a e l m. absurd (omega arith); is = λ d e. absurd (none-some d e) }));
    spaced = spaced n 0 0 (omega arith) (λ k h l. l) (omega arith);
    whole = every-map (λ k. fits wanted events k ≡ true) (IsWholeFrom events) whole-from (filter (begins wanted events) (range_with_len 0 n)) (starts_fit (range_with_len 0 n));
  }
