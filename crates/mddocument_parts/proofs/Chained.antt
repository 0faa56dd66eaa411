-- Marks behind others, chained: their links lead as many events further, if no chunk of the first is linked to the second.
use Rattle.std.proofs.Common.{Bool, List, None, Option, Some, [], ap, arith, cond, false, length, refl, sym, true, ℕ, suc, ◌+◌, ◌++◌, ◌∙◌, ◌∷◌, ◌≡◌}
use Rattle.std.specs.List.{AllByRecursion}
use Rattle.std.specs.Prelude.{is_some, map}
use Rattle.markdown_base.specs.declared.event.Event.{Event}
use Rattle.mdblock_leaf_blocks.specs.LeafEvents.{Mark}
use Rattle.mdblock_containers.specs.Skeleton.{chained_from, next_chunk}
use Rattle.mddocument_parts.specs.Moved.{moved_index, moved_link}
use Rattle.mddocument_parts.proofs.Choices.{cond-of}

-- behind each chunk that is linked on comes one
abbrev pub AreLinkedOn : List Mark → Type 0
AreLinkedOn [] = Unit {0}
AreLinkedOn ((e, None) ∷ ms) = AreLinkedOn ms
AreLinkedOn ((e, Some chunk) ∷ ms) = (chunk.has_next ≡ true → is_some (next_chunk 0 ms) ≡ true) × AreLinkedOn ms

-- the first chunk is not linked back
abbrev pub BeginsApart : List Mark → Type 0
BeginsApart [] = Unit {0}
BeginsApart ((e, None) ∷ ms) = BeginsApart ms
BeginsApart ((e, Some chunk) ∷ ms) = chunk.has_previous ≡ false

next-append : (i j : ℕ) (xs ys : List Mark) → is_some (next_chunk j xs) ≡ true → next_chunk i (xs ++ ys) ≡ next_chunk i xs
next-append i j [] ys h = absurd (cc)
next-append i j ((e, None) ∷ xs) ys h = next-append (suc i) (suc j) xs ys h
next-append i j ((e, Some chunk) ∷ xs) ys h = refl

-- what comes before does not matter then
previous-any : (i : ℕ) (p q : Option ℕ) (ys : List Mark) → BeginsApart ys → chained_from i p ys ≡ chained_from i q ys
previous-any i p q [] h = refl
previous-any i p q ((e, None) ∷ ys) h = ap (λ es. e ∷ es) (previous-any (suc i) p q ys h)
previous-any i p q ((e, Some chunk) ∷ ys) h =
    let link : Bool → Option ℕ → Event = λ b p. record e { link = Some (record { previous = cond b p None; next = cond chunk.has_next (next_chunk (suc i) ys) None; content = chunk.content }) } in
    ap (λ b. link b p ∷ chained_from (suc i) (Some i) ys) h ∙ sym (ap (λ b. link b q ∷ chained_from (suc i) (Some i) ys) h)

pub chained-append : (i n : ℕ) (p : Option ℕ) (xs ys : List Mark) → n ≡ i + length xs → AreLinkedOn xs → BeginsApart ys → chained_from i p (xs ++ ys) ≡ chained_from i p xs ++ chained_from n None ys
chained-append i n p [] ys e h k = let same : i ≡ n = omega (arith, e) in ap (λ m. chained_from m p ys) same ∙ previous-any n p None ys k
chained-append i n p ((v, None) ∷ xs) ys e h k = ap (λ es. v ∷ es) (chained-append (suc i) n p xs ys (omega (arith, e)) h k)
chained-append i n p ((v, Some chunk) ∷ xs) ys e h k =
    let link : Option ℕ → Event = λ o. record v { link = Some (record { previous = cond chunk.has_previous p None; next = o; content = chunk.content }) } in
    let rest = chained-append (suc i) n (Some i) xs ys (omega (arith, e)) h.1 k in
    (λ d. link (by chunk.has_next refl d) ∷ rest d)
  where
    by : (b : Bool) → chunk.has_next ≡ b → cond b (next_chunk (suc i) (xs ++ ys)) None ≡ cond b (next_chunk (suc i) xs) None
    by true f = next-append (suc i) 0 xs ys (h.0 f)
    by false f = refl

-- ---- links that lead so many events further
abbrev pub further_on : ℕ → Event → Event
further_on k e = record e { link = moved_link k e.link }

abbrev pub HasNoLink : Mark → Type 0
HasNoLink m = m.0.link ≡ None

next-moved : (k i j : ℕ) (ms : List Mark) → j ≡ i + k → next_chunk j ms ≡ moved_index k (next_chunk i ms)
next-moved k i j [] e = refl
next-moved k i j ((v, None) ∷ ms) e = next-moved k (suc i) (suc j) ms (omega (arith, e))
next-moved k i j ((v, Some chunk) ∷ ms) e = ap (λ n. Some n) e

-- marks that begin no chunk have none; the link of a chunk is made when it is chained
abbrev pub AreBare : List Mark → Type 0
AreBare [] = Unit {0}
AreBare ((e, None) ∷ ms) = (e.link ≡ None) × AreBare ms
AreBare ((e, Some chunk) ∷ ms) = AreBare ms

pub chained-bare : (k i j : ℕ) (p q : Option ℕ) (ms : List Mark) → j ≡ i + k → q ≡ moved_index k p → AreBare ms → chained_from j q ms ≡ map (further_on k) (chained_from i p ms)
chained-bare k i j p q [] e f h = refl
chained-bare k i j p q ((v, None) ∷ ms) e f h =
    let here : v ≡ further_on k v = (λ d. record v { link = (h.0 ∙ ap (moved_link k) (sym h.0)) d }) in
    let rest = chained-bare k (suc i) (suc j) p q ms (omega (arith, e)) f h.1 in
    (λ d. here d ∷ rest d)
chained-bare k i j p q ((v, Some chunk) ∷ ms) e f h =
    let next = next-moved k (suc i) (suc j) ms (omega (arith, e)) in
    let before = ap (λ o. cond chunk.has_previous o None) f ∙ cond-of (moved_index k) chunk.has_previous p None in
    let behind = ap (λ o. cond chunk.has_next o None) next ∙ cond-of (moved_index k) chunk.has_next (next_chunk (suc i) ms) None in
    let rest = chained-bare k (suc i) (suc j) (Some i) (Some j) ms (omega (arith, e)) (ap (λ n. Some n) e) h in
    (λ d. (let w : Event = record v { link = Some (record { previous = before d; next = behind d; content = chunk.content }) } in w) ∷ rest d)

pub no-link-bare : (ms : List Mark) → AllByRecursion HasNoLink ms → AreBare ms
no-link-bare [] h = tt
no-link-bare ((e, None) ∷ ms) h = (h.0, no-link-bare ms h.1)
no-link-bare ((e, Some chunk) ∷ ms) h = no-link-bare ms h.1

pub chained-moved : (k i j : ℕ) (p q : Option ℕ) (ms : List Mark) → j ≡ i + k → q ≡ moved_index k p → AllByRecursion HasNoLink ms → chained_from j q ms ≡ map (further_on k) (chained_from i p ms)
chained-moved k i j p q ms e f h = chained-bare k i j p q ms e f (no-link-bare ms h)
