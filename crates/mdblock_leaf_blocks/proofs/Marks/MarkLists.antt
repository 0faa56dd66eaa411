-- Lists of marks, and of marks that edits rename: one behind another, as events and as edits.
use Rattle.mdblock_leaf_blocks.proofs.Prelude.{◌≡◌, ℕ, suc, ◌+◌, ◌-◌, ◌<◌, List, [], ◌∷◌, ◌++◌, cond, Some, None, length, map, refl, sym, ap, ◌∙◌, arith, append_assoc, length-append, flat_map-append, length-map, map-append, AllByRecursion, Event, Edit, edit_at, under, Chunk, Mark, linked_from, ToldMark, as_it_is, under_names, before_edits, behind_edits, mark_before, marks_behind, told_edits}

-- ---- events

-- the enter of a chunk, at an index
abbrev pub chunk_at : ℕ → Event → Chunk → Event
chunk_at i e chunk = record e { link = Some (record { previous = cond chunk.has_previous (Some (i - 2)) None; next = cond chunk.has_next (Some (i + 2)) None; content = chunk.content }) }

pub linked-append : (i : ℕ) (xs ys : List Mark) → linked_from i (xs ++ ys) ≡ linked_from i xs ++ linked_from (i + length xs) ys
linked-append i [] ys = let none : i + 0 ≡ i = omega arith in ap (λ n. linked_from n ys) (sym none)
linked-append i ((e, None) ∷ xs) ys =
    let on : i + 1 + length xs ≡ i + suc (length xs) = omega arith in
    ap (λ l. e ∷ l) (linked-append (i + 1) xs ys ∙ ap (λ n. linked_from (i + 1) xs ++ linked_from n ys) on)
linked-append i ((e, Some chunk) ∷ xs) ys =
    let on : i + 1 + length xs ≡ i + suc (length xs) = omega arith in
    ap (λ l. chunk_at i e chunk ∷ l) (linked-append (i + 1) xs ys ∙ ap (λ n. linked_from (i + 1) xs ++ linked_from n ys) on)

pub linked-length : (i : ℕ) (xs : List Mark) → length (linked_from i xs) ≡ length xs
linked-length i [] = refl
linked-length i ((e, None) ∷ xs) = ap suc (linked-length (i + 1) xs)
linked-length i ((e, Some chunk) ∷ xs) = ap suc (linked-length (i + 1) xs)

-- events with marks behind them, and more marks
pub marked-on : (before mid after : List Event) (marks more : List Mark) → mid ≡ before ++ linked_from (length before) marks → after ≡ mid ++ linked_from (length mid) more
    → after ≡ before ++ linked_from (length before) (marks ++ more)
marked-on before mid after marks more one two =
    let count : length mid ≡ length before + length marks =
    ap length one ∙ length-append before (linked_from (length before) marks) ∙ ap (λ n. length before + n) (linked-length (length before) marks) in
    two ∙ ap (λ n. mid ++ linked_from n more) count ∙ ap (λ es. es ++ linked_from (length before + length marks) more) one
    ∙ append_assoc before (linked_from (length before) marks) (linked_from (length before + length marks) more)
    ∙ ap (λ es. before ++ es) (sym (linked-append (length before) marks more))

-- ---- marks that edits rename

pub before-append : (xs ys : List ToldMark) → before_edits (xs ++ ys) ≡ before_edits xs ++ before_edits ys
before-append xs ys = map-append mark_before xs ys

before-length : (xs : List ToldMark) → length (before_edits xs) ≡ length xs
before-length xs = length-map xs mark_before

pub told-length : (i : ℕ) (xs : List ToldMark) → length (linked_from i (before_edits xs)) ≡ length xs
told-length i xs = linked-length i (before_edits xs) ∙ before-length xs

pub told-linked : (i : ℕ) (xs ys : List ToldMark) → linked_from i (before_edits (xs ++ ys)) ≡ linked_from i (before_edits xs) ++ linked_from (i + length xs) (before_edits ys)
told-linked i xs ys =
    ap (linked_from i) (before-append xs ys) ∙ linked-append i (before_edits xs) (before_edits ys)
    ∙ ap (λ n. linked_from i (before_edits xs) ++ linked_from (i + n) (before_edits ys)) (before-length xs)

pub edits-append : (i : ℕ) (xs ys : List ToldMark) → told_edits i (xs ++ ys) ≡ told_edits i xs ++ told_edits (i + length xs) ys
edits-append i [] ys = let none : i + 0 ≡ i = omega arith in ap (λ n. told_edits n ys) (sym none)
edits-append i (as_it_is m ∷ xs) ys =
    let on : i + 1 + length xs ≡ i + suc (length xs) = omega arith in
    edits-append (i + 1) xs ys ∙ ap (λ n. told_edits (i + 1) xs ++ told_edits n ys) on
edits-append i (under_names e names ∷ xs) ys =
    let on : i + 1 + length xs ≡ i + suc (length xs) = omega arith in
    ap (λ l. edit_at i 1 (map (under e) names) ∷ l) (edits-append (i + 1) xs ys ∙ ap (λ n. told_edits (i + 1) xs ++ told_edits n ys) on)

-- marks that are kept make no edit
pub kept-before : (ms : List Mark) → before_edits (map as_it_is ms) ≡ ms
kept-before [] = refl
kept-before (m ∷ ms) = ap (λ l. m ∷ l) (kept-before ms)

pub kept-edits : (i : ℕ) (ms : List Mark) → told_edits i (map as_it_is ms) ≡ []
kept-edits i [] = refl
kept-edits i (m ∷ ms) = kept-edits (i + 1) ms

pub kept-behind : (ms : List Mark) → behind_edits (map as_it_is ms) ≡ ms
kept-behind [] = refl
kept-behind (m ∷ ms) = ap (λ l. m ∷ l) (kept-behind ms)

pub behind-append : (xs ys : List ToldMark) → behind_edits (xs ++ ys) ≡ behind_edits xs ++ behind_edits ys
behind-append xs ys = flat_map-append marks_behind xs ys

-- each edit is of an event before the end
pub edits-within : (i n : ℕ) (ts : List ToldMark) → i + length ts ≡ n → AllByRecursion (λ (e : Edit). e.index < n) (told_edits i ts)
edits-within i n [] h = tt
edits-within i n (as_it_is m ∷ ts) h = edits-within (i + 1) n ts (omega (arith, h))
edits-within i n (under_names e names ∷ ts) h = (omega (arith, h), edits-within (i + 1) n ts (omega (arith, h)))
