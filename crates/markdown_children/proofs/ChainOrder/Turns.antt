-- One turn along a chain.
use Rattle.markdown_children.proofs.Prelude.{◌≡◌, ℕ, zero, suc, ◌+◌, ◌<◌, ◌≤◌, List, [], ◌∷◌, ◌++◌, length, drop, Some, None, refl, sym, ◌∙◌, ap, arith, length-drop, length-take, AllByRecursion, drop-drop, Event, next_of, chain_from, place_at, front_until, IsForward, rest_table, Chunk, append_assoc}

-- what a walk along the chain of link_index has still to do at the chunk i: at most f chunks, with the child's events from j on
pub record IsLeft (events es : List Event) (link_index : ℕ) (made : List Chunk) (i j f : ℕ) : Type 0 where
  pub chunks : length events ≤ f + i
  pub inside : i + 1 < length events
  pub start : j ≤ length es
  pub forward : AllByRecursion (IsForward events) (chain_from f events i)
  pub built : made ++ rest_table events es f i j ≡ rest_table events es (length events) link_index 0

-- the last chunk: what is left is its part
pub left_last : {events es : List Event} {link_index : ℕ} {made : List Chunk} {i j f : ℕ} → IsLeft events es link_index made i j f → next_of events i ≡ None
    → made ++ record { index = i; start = j; end = length es } ∷ [] ≡ rest_table events es (length events) link_index 0
left_last {f = zero} w n = let a = w.chunks in let b = w.inside in absurd (omega arith)
left_last {events} {es} {link_index} {made} {i} {j} {f = suc f} w n =
    let z : j + length (drop j es) ≡ length es = omega (arith, length-drop j es, w.start) in
    let last : rest_table events es (suc f) i j ≡ record { index = i; start = j; end = length es } ∷ [] = rw (n, z) refl in
    ap (λ t. made ++ t) (sym last) ∙ w.built

-- a chunk before another
pub left_next : {events es : List Event} {link_index : ℕ} {made : List Chunk} {i j f d : ℕ} → IsLeft events es link_index made i j f → next_of events i ≡ Some d
    → (k : ℕ) × (i < d) × IsLeft events es link_index (made ++ record { index = i; start = j; end = j + length (front_until (place_at events (i + 1)) (drop j es)) } ∷ []) d (j + length (front_until (place_at events (i + 1)) (drop j es))) k
left_next {events} {es} {link_index} {made} {i} {j} {f = suc (suc f)} {d} w n =
    let ahead = w.forward.0.next d n in
    let a = w.chunks in
    let m : ℕ = length (front_until (place_at events (i + 1)) (drop j es)) in
    let front : m ≤ length (drop j es) = simp length-take (omega arith) in
    let z : drop m (drop j es) ≡ drop (j + m) es = drop-drop m j es in
    let table : rest_table events es (suc (suc f)) i j ≡ record { index = i; start = j; end = j + m } ∷ rest_table events es (suc f) d (j + m) = rw (n, z) refl in (
      suc f,
      omega (arith, ahead.0),
      record {
        chunks = omega (arith, ahead.0);
        inside = ahead.1;
        start = omega (arith, w.start, front, length-drop j es);
        forward = rw n at w.forward.1;
        built = append_assoc made (_ ∷ []) _ ∙ ap (λ t. made ++ t) (sym table) ∙ w.built;
      },
    )
left_next {f = f} w n = let a = w.chunks in let b = w.inside in absurd (omega arith)
