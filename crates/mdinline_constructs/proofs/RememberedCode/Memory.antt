-- What is remembered of backtick strings is a memory of them, as the theorem of code spans asks for one.
use Rattle.mdinline_constructs.proofs.Prelude.{◌≡◌, ◌⊎◌, inl, inr, ℕ, zero, suc, ◌≤◌, ◌&&◌, nat_le, ◌∷◌, [], List, true, false, cond, refl, sym, ◌∙◌, ap, subst, arith, Option, Some, None, last_or, and_parts, nat_tests, ContainerState, last-more, size_c, between_rows, opening_rows, Memory, remembering, RawTextLineStart, TextByte, backtick, line_feed, all_runs_seen, index_of, is_ahead, is_seen_from, later_of, remembered_between_rows, remembered_open_rows, runs_of, seen_at, with_run, with_run_at}

-- ---- one entry
at-least : (i j : ℕ) → j ≤ i → nat_le j i ≡ true
at-least i j h = grind (arith, nat_tests)

is-least : (i j : ℕ) → nat_le j i ≡ true → j ≤ i
is-least i j h = grind (arith, nat_tests)

below : (i j m : ℕ) → nat_le j m ≡ true → nat_le i m ≡ false → j ≤ i
below i j m h e = grind (arith, nat_tests)

-- what does not begin before an index does not begin before a smaller one
seen-before : (last : ContainerState) (i j : ℕ) → j ≤ i → is_seen_from last i ≡ true → is_seen_from last j ≡ true
seen-before last i j h e =
    let it = and_parts last.blank_initial (nat_le i last.size) e in
    ap (λ b. b && nat_le j last.size) it.0 ∙ (let i-size = is-least last.size i it.1 in at-least last.size j (omega (arith, h, i-size)))

-- the later of two is seen from where one of them is
later-now : (last : ContainerState) (i j : ℕ) → j ≤ i → is_seen_from (later_of last i) j ≡ true
later-now last i j h = elim (is_seen_from last i) as (λ b. is_seen_from last i ≡ b → is_seen_from (cond b last (seen_at i)) j ≡ true) [
  | true ↦ λ e. seen-before last i j h e
  | false ↦ λ e. at-least i j h
] refl

later-kept : (last : ContainerState) (i j : ℕ) → is_seen_from last j ≡ true → is_seen_from (later_of last i) j ≡ true
later-kept last i j h = elim (is_seen_from last i) as (λ b. is_seen_from last i ≡ b → is_seen_from (cond b last (seen_at i)) j ≡ true) [
  | true ↦ λ e. h
  | false ↦ λ e.
      let it = and_parts last.blank_initial (nat_le j last.size) h in
      let less : nat_le i last.size ≡ false = sym (ap (λ b. b && nat_le i last.size) it.0) ∙ e in
      at-least i j (below i j last.size it.1 less)
] refl

later-new : (last : ContainerState) (i j : ℕ) → is_seen_from (later_of last i) j ≡ true → (is_seen_from last j ≡ true) ⊎ (j ≤ i)
later-new last i j = elim (is_seen_from last i) as (λ b. is_seen_from (cond b last (seen_at i)) j ≡ true → (is_seen_from last j ≡ true) ⊎ (j ≤ i)) [
  | true ↦ λ h. inl h
  | false ↦ λ h. inr (is-least i j h)
]

-- ---- all entries
pub ahead-now : (runs : List ContainerState) (k i j : ℕ) → j ≤ i → is_ahead (with_run runs k i) k j ≡ true
ahead-now [] zero i j h = at-least i j h
ahead-now [] (suc k) i j h = ahead-now [] k i j h
ahead-now (last ∷ runs) zero i j h = later-now last i j h
ahead-now (last ∷ runs) (suc k) i j h = ahead-now runs k i j h

pub ahead-kept : (runs : List ContainerState) (k i k' j : ℕ) → is_ahead runs k' j ≡ true → is_ahead (with_run runs k i) k' j ≡ true
ahead-kept [] k i k' j h = absurd (cc)
ahead-kept (last ∷ runs) zero i zero j h = later-kept last i j h
ahead-kept (last ∷ runs) zero i (suc k') j h = h
ahead-kept (last ∷ runs) (suc k) i zero j h = h
ahead-kept (last ∷ runs) (suc k) i (suc k') j h = ahead-kept runs k i k' j h

further-new : (runs : List ContainerState) (k k' i j : ℕ) → (is_ahead runs k' j ≡ true) ⊎ ((k' ≡ k) × (j ≤ i)) → (is_ahead runs k' j ≡ true) ⊎ ((suc k' ≡ suc k) × (j ≤ i))
further-new runs k k' i j (inl old) = inl old
further-new runs k k' i j (inr it) = inr (ap suc it.0, it.1)

now-new : (last : ContainerState) (i j : ℕ) → (is_seen_from last j ≡ true) ⊎ (j ≤ i) → (is_seen_from last j ≡ true) ⊎ ((zero ≡ zero) × (j ≤ i))
now-new last i j (inl old) = inl old
now-new last i j (inr h) = inr (refl, h)

pub ahead-new : (runs : List ContainerState) (k i k' j : ℕ) → is_ahead (with_run runs k i) k' j ≡ true → (is_ahead runs k' j ≡ true) ⊎ ((k' ≡ k) × (j ≤ i))
ahead-new [] zero i zero j h = inr (refl, is-least i j h)
ahead-new [] zero i (suc k') j h = absurd (cc)
ahead-new [] (suc k) i zero j h = absurd (cc)
ahead-new [] (suc k) i (suc k') j h = further-new [] k k' i j (ahead-new [] k i k' j h)
ahead-new (last ∷ runs) zero i zero j h = now-new last i j (later-new last i j h)
ahead-new (last ∷ runs) zero i (suc k') j h = inl h
ahead-new (last ∷ runs) (suc k) i zero j h = inl h
ahead-new (last ∷ runs) (suc k) i (suc k') j h = further-new runs k k' i j (ahead-new runs k i k' j h)

-- The memory
abbrev pub code_memory : Memory
code_memory = record {
  ahead = λ local k index. is_ahead (runs_of local) k index;
  noted = λ events local. with_run_at (index_of (last_or None events)) local;
  all_noted = all_runs_seen;
  behind_line = RawTextLineStart;
  same = λ a b e k index. ap (λ runs. is_ahead runs k index) e;
  notes = λ events e local index h.
      subst (λ i. is_ahead (with_run (runs_of local) (size_c local) i) (size_c local) index ≡ true) (sym (ap index_of (last-more None events e)))
      (ahead-now (runs_of local) (size_c local) e.point.index index h);
  keeps_old = λ events local k index h. ahead-kept (runs_of local) (size_c local) (index_of (last_or None events)) k index h;
  new_is = λ events e local k index h.
      ahead-new (runs_of local) (size_c local) e.point.index k index
      (subst (λ i. is_ahead (with_run (runs_of local) (size_c local) i) k index ≡ true) (ap index_of (last-more None events e)) h);
  noted_calls = λ events local. refl;
  noted_seen = λ events local. refl;
  noted_others = λ events local. refl;
  all_ahead = λ local k index. refl;
  all_calls = λ local. refl;
  all_seen = λ local. refl;
  all_others = λ local. refl;
}

-- The rows are those of a machine with this memory
pub opening-remembered : (before waits : Option TextByte) → remembered_open_rows {R = Unit} {D = Unit} before waits ≡ opening_rows (remembering code_memory) before waits
opening-remembered before None = refl
opening-remembered before (Some backtick) = refl
opening-remembered before (Some _) = refl

pub between-remembered : (before waits : Option TextByte) → remembered_between_rows {R = Unit} {D = Unit} before waits ≡ between_rows (remembering code_memory) before waits
between-remembered before None = refl
between-remembered before (Some line_feed) = refl
between-remembered before (Some w) = refl
