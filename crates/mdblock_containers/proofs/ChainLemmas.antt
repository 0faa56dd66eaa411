-- Lemmas on chunks behind marks.
use Rattle.std.proofs.Common.{◌≡◌, ℕ, zero, suc, ◌+◌, ◌<◌, cond, List, [], ◌∷◌, ◌++◌, length, set, get_or, refl, ap, ◌∙◌, arith}
use Rattle.std.specs.Prelude.{Option, Some, None}
use Rattle.markdown_base.specs.declared.event.Event.{Event}
use Rattle.mdblock_leaf_blocks.specs.LeafEvents.{Chunk, Mark}
use Rattle.mdblock_containers.specs.Skeleton.{next_chunk, chained_from}
use Rattle.mdblock_containers.specs.Chunks.{with_next, set_next}
use Rattle.mdblock_containers.specs.Written.{NoChunk, IsWaiting}

pub set_next_at : (es : List Event) (i n : ℕ) (d : Event) → i < length es → set es i (with_next n (get_or es i d)) ≡ set_next i n es
set_next_at [] i n d h = absurd (omega arith)
set_next_at (e ∷ es) zero n d h = refl
set_next_at (e ∷ es) (suc i) n d h = ap (λ (l : List Event). e ∷ l) (set_next_at es i n d (omega arith))

-- the event of a chunk that is the last one
abbrev pub last_event : Event → Chunk → Option ℕ → Event
last_event e c previous = record e { link = Some (record { previous = cond c.has_previous previous None; next = cond c.has_next None None; content = c.content }) }

no_next : (i : ℕ) (ms : List Mark) (e : Event) (c : Chunk) → NoChunk ms → next_chunk i (ms ++ (e, Some c) ∷ []) ≡ Some (i + length ms)
no_next i [] e c h = ap Some (omega arith)
no_next i ((x, None) ∷ ms) e c h = no_next (suc i) ms e c h ∙ ap Some (omega arith)
no_next i ((x, Some d) ∷ ms) e c h = absurd h

chain_none : (i : ℕ) (p : Option ℕ) (ms : List Mark) (e : Event) (c : Chunk) → NoChunk ms → chained_from i p (ms ++ (e, Some c) ∷ []) ≡ chained_from i p ms ++ last_event e c p ∷ []
chain_none i p [] e c h = refl
chain_none i p ((x, None) ∷ ms) e c h = ap (λ (l : List Event). x ∷ l) (chain_none (suc i) p ms e c h)
chain_none i p ((x, Some d) ∷ ms) e c h = absurd h

same_next : (i : ℕ) (ms : List Mark) (e : Event) (c : Chunk) (j : ℕ) → IsWaiting ms j → next_chunk i (ms ++ (e, Some c) ∷ []) ≡ next_chunk i ms
same_next i [] e c j h = absurd h
same_next i ((x, None) ∷ ms) e c zero h = absurd h
same_next i ((x, None) ∷ ms) e c (suc j) h = same_next (suc i) ms e c j h
same_next i ((x, Some d) ∷ ms) e c j h = refl

-- A further chunk of a stretch: the one before it is linked to it
pub chain_linked : (i : ℕ) (p : Option ℕ) (ms : List Mark) (e : Event) (c : Chunk) (j : ℕ) → IsWaiting ms j
    → chained_from i p (ms ++ (e, Some c) ∷ []) ≡ set_next j (i + length ms) (chained_from i p ms) ++ last_event e c (Some (i + j)) ∷ []
chain_linked i p [] e c j h = absurd h
chain_linked i p ((x, None) ∷ ms) e c zero h = absurd h
chain_linked i p ((x, None) ∷ ms) e c (suc j) h =
    let a : suc i + length ms ≡ i + suc (length ms) = omega arith in
    let b : suc i + j ≡ i + suc j = omega arith in
    ap (λ (l : List Event). x ∷ l) (chain_linked (suc i) p ms e c j h ∙ (λ k. set_next j (a k) (chained_from (suc i) p ms) ++ last_event e c (Some (b k)) ∷ []))
chain_linked i p ((x, Some d) ∷ ms) e c zero h =
    let a : suc i + length ms ≡ i + suc (length ms) = omega arith in
    let b : i ≡ i + zero = omega arith in
    let next : cond d.has_next (next_chunk (suc i) (ms ++ (e, Some c) ∷ [])) None ≡ Some (i + suc (length ms)) =
    ap (λ w. cond w (next_chunk (suc i) (ms ++ (e, Some c) ∷ [])) None) h.0 ∙ no_next (suc i) ms e c h.1 ∙ ap Some a in
    (λ k. record x { link = Some (record { previous = cond d.has_previous p None; next = next k; content = d.content }) } ∷ (chain_none (suc i) (Some i) ms e c h.1 ∙ (λ m. chained_from (suc i) (Some i) ms ++ last_event e c (Some (b m)) ∷ [])) k)
chain_linked i p ((x, Some d) ∷ ms) e c (suc j) h =
    let a : suc i + length ms ≡ i + suc (length ms) = omega arith in
    let b : suc i + j ≡ i + suc j = omega arith in
    (λ k. record x { link = Some (record { previous = cond d.has_previous p None; next = cond d.has_next (same_next (suc i) ms e c j h k) None; content = d.content }) }
    ∷ (chain_linked (suc i) (Some i) ms e c j h ∙ (λ m. set_next j (a m) (chained_from (suc i) (Some i) ms) ++ last_event e c (Some (b m)) ∷ [])) k)
