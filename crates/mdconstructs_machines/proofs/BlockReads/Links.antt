-- Marked events, one more at a time: how their links change.
use Rattle.mdconstructs_machines.proofs.Prelude.{AllByRecursion, ◌≡◌, ℕ, zero, suc, ◌+◌, ◌<◌, ◌≤◌, ◌∷◌, ◌++◌, [], List, Bool, true, false, cond, Option, Some, None, ◌⊎◌, inl, inr, refl, sym, ◌∙◌, ap, subst, arith, length, length-append, map, position, position_from, position_from-zero, nat_tests, append_assoc, map-append, length-map, every-map, every-append, Event, updated_at, with_next, with_previous, linked_to, text_link, Marked, begins, chunk_at, as_linked, with_links}
use Rattle.markdown_base.specs.declared.event.Content.TheVariants.{Text}
use Rattle.mdconstructs_machines.specs.ParagraphEvents.{chunk_before}

-- a marked event begins no chunk, or one that comes before the chunk of this line of this block
abbrev pub IsBefore : (b n : ℕ) → Marked → Type 0
IsBefore b n (e, None) = Unit {0}
IsBefore b n (e, Some (c, m)) = (c < b) ⊎ ((c ≡ b) × (m < n))

-- it begins none
abbrev pub IsPlain : Marked → Type 0
IsPlain (e, None) = Unit {0}
IsPlain (e, Some c) = ⊥

-- what is before a chunk begins none from there on in that block
away : (b n : ℕ) (x : Marked) → IsBefore b n x → (k : ℕ) → n ≤ k → begins (b, k) x ≡ false
away b n (e, None) h k l = refl
away b n (e, Some (c, m)) h k l = elim h [
  | inl less ↦ grind (arith, nat_tests)
  | inr same ↦ let less = same.1 in grind (arith, nat_tests)
]

all-away : (b n : ℕ) (xs : List Marked) → AllByRecursion (IsBefore b n) xs → (k : ℕ) → n ≤ k → AllByRecursion (λ x. begins (b, k) x ≡ false) xs
all-away b n xs h k l = every-map (IsBefore b n) (λ x. begins (b, k) x ≡ false) (λ x before. away b n x before k l) xs h

-- what holds of each event that begins none
plain-only : (P : Marked → Type 0) → ((e : Event) → P (e, None)) → (x : Marked) → IsPlain x → P x
plain-only P each (e, None) h = each e
plain-only P each (e, Some c) h = absurd h

-- Positions in lists
module _ (p : Marked → Bool) where
  abbrev Fails : Marked → Type 0
  Fails x = p x ≡ false

  from-none : (xs : List Marked) (i : ℕ) → AllByRecursion Fails xs → position_from p i xs ≡ None
  from-none [] i h = refl
  from-none (x ∷ xs) i h = ap (λ t. cond t (Some i) (position_from p (i + 1) xs)) h.0 ∙ from-none xs (i + 1) h.1

  from-first : (front : List Marked) (x : Marked) (tail : List Marked) (i n : ℕ) → AllByRecursion Fails front → p x ≡ true → n ≡ i + length front → position_from p i (front ++ x ∷ tail) ≡ Some n
  from-first [] x tail i n h is e = let same : i ≡ n = omega (arith, e) in ap (λ t. cond t (Some i) (position_from p (i + 1) tail)) is ∙ ap (λ m. Some m) same
  from-first (y ∷ front) x tail i n h is e = ap (λ t. cond t (Some i) (position_from p (i + 1) (front ++ x ∷ tail))) h.0 ∙ from-first front x tail (i + 1) n h.1 is (omega (arith, e))

  from-more : (xs : List Marked) (y : Marked) (i : ℕ) → p y ≡ false → position_from p i (xs ++ y ∷ []) ≡ position_from p i xs
  from-more [] y i fails = ap (λ t. cond t (Some i) None) fails
  from-more (x ∷ xs) y i fails = ap (λ o. cond (p x) (Some i) o) (from-more xs y (i + 1) fails)

  -- among events of which none passes, at the first that does, and with an event more that does not
  at-none : (xs : List Marked) → AllByRecursion Fails xs → position p xs ≡ None
  at-none xs h = position_from-zero p xs ∙ from-none xs 0 h

  at-first : (front : List Marked) (x : Marked) (tail : List Marked) → AllByRecursion Fails front → p x ≡ true → position p (front ++ x ∷ tail) ≡ Some (length front)
  at-first front x tail h is = position_from-zero p (front ++ x ∷ tail) ∙ from-first front x tail 0 (length front) h is (omega arith)

  at-more : (xs : List Marked) (y : Marked) → p y ≡ false → position p (xs ++ y ∷ []) ≡ position p xs
  at-more xs y fails = position_from-zero p (xs ++ y ∷ []) ∙ from-more xs y 0 fails ∙ sym (position_from-zero p xs)

-- the event, linked to these
abbrev link_of : Event → (previous next : Option ℕ) → Event
link_of e previous next = record e { link = Some (record { previous = previous; next = next; content = Text }) }

link-same : (e : Event) (p q n m : Option ℕ) → p ≡ q → n ≡ m → link_of e p n ≡ link_of e q m
link-same e p q n m before after = ap (λ o. link_of e o n) before ∙ ap (λ o. link_of e q o) after

-- the chunk of the line before, and that of the line after, are not the one that an event begins
abbrev NoNeighbour : Marked → Marked → Type 0
NoNeighbour y (e, None) = Unit {0}
NoNeighbour y (e, Some (b, n)) = (begins (b, suc n) y ≡ false) × ((j : ℕ) → suc j ≡ n → begins (b, j) y ≡ false)

-- so its link stays the same
same-before : (ms : List Marked) (y : Marked) (b n : ℕ) → ((j : ℕ) → suc j ≡ n → begins (b, j) y ≡ false) → chunk_before (ms ++ y ∷ []) (b, n) ≡ chunk_before ms (b, n)
same-before ms y b zero h = refl
same-before ms y b (suc n) h = at-more (begins (b, n)) ms y (h n refl)

same-link : (ms : List Marked) (y x : Marked) → NoNeighbour y x → as_linked (ms ++ y ∷ []) x ≡ as_linked ms x
same-link ms y (e, None) h = refl
same-link ms y (e, Some (b, n)) h =
    link-same e (chunk_before (ms ++ y ∷ []) (b, n)) (chunk_before ms (b, n)) (chunk_at (ms ++ y ∷ []) (b, suc n)) (chunk_at ms (b, suc n))
    (same-before ms y b n h.1) (at-more (begins (b, suc n)) ms y h.0)

map-same : (f k : Marked → Event) (xs : List Marked) → AllByRecursion (λ x. f x ≡ k x) xs → map f xs ≡ map k xs
map-same f k [] h = refl
map-same f k (x ∷ xs) h = λ i. h.0 i ∷ map-same f k xs h.1 i

same-links : (ms : List Marked) (y : Marked) (xs : List Marked) → AllByRecursion (NoNeighbour y) xs → map (as_linked (ms ++ y ∷ [])) xs ≡ map (as_linked ms) xs
same-links ms y xs h = map-same (as_linked (ms ++ y ∷ [])) (as_linked ms) xs (every-map (NoNeighbour y) (λ x. as_linked (ms ++ y ∷ []) x ≡ as_linked ms x) (same-link ms y) xs h)

-- which hold of a plain event; and where a chunk begins, of events before the chunk of the line before
no-plain : (e : Event) (x : Marked) → NoNeighbour (e, None) x
no-plain e (f, None) = tt
no-plain e (f, Some (b, n)) = (refl, λ j is. refl)

every : (P : Marked → Type 0) (xs : List Marked) → ((x : Marked) → P x) → AllByRecursion P xs
every P [] h = tt
every P (x ∷ xs) h = (h x, every P xs h)

no-next : (e : Event) (b n m : ℕ) → ((k : ℕ) → k < n → suc k < m) → (x : Marked) → IsBefore b n x → NoNeighbour (e, Some (b, m)) x
no-next e b n m apart (f, None) h = tt
no-next e b n m apart (f, Some (c, k)) h = elim h [
  | inl less ↦ (grind (arith, nat_tests), λ j is. grind (arith, nat_tests))
  | inr same ↦ let less = apart k same.1 in (grind (arith, nat_tests), λ j is. grind (arith, nat_tests))
]

-- An event that begins no chunk: nothing else changes
pub links-plain : (ms : List Marked) (e : Event) → with_links (ms ++ (e, None) ∷ []) ≡ with_links ms ++ e ∷ []
links-plain ms e =
    let y : Marked = (e, None) in
    map-append (as_linked (ms ++ y ∷ [])) ms (y ∷ []) ∙ ap (λ l. l ++ e ∷ []) (same-links ms y ms (every (NoNeighbour y) ms (no-plain e)))

-- as it is entered, a chunk is linked to none
abbrev pub alone : Event → Event
alone e = record e { link = Some text_link }

-- The first chunk of a paragraph: nothing else changes
pub links-first : (ms : List Marked) (e : Event) (b : ℕ) → AllByRecursion (IsBefore b 0) ms → with_links (ms ++ (e, Some (b, 0)) ∷ []) ≡ with_links ms ++ alone e ∷ []
links-first ms e b before =
    let y : Marked = (e, Some (b, 0)) in
    let none : chunk_at (ms ++ y ∷ []) (b, 1) ≡ None = at-none (begins (b, 1)) (ms ++ y ∷ []) (every-append (λ x. begins (b, 1) x ≡ false) ms (y ∷ []) (all-away b 0 ms before 1 (omega arith)) (grind (arith, nat_tests), tt)) in
    map-append (as_linked (ms ++ y ∷ [])) ms (y ∷ [])
    ∙ ap (λ l. l ++ as_linked (ms ++ y ∷ []) y ∷ []) (same-links ms y ms (every-map (IsBefore b 0) (NoNeighbour y) (no-next e b 0 0 (λ k less. omega arith)) ms before))
    ∙ ap (λ o. with_links ms ++ link_of e None o ∷ []) none

-- The chunk of this line of this block is the last that begins among these, at this index
pub record EndsIn (b n : ℕ) (ms : List Marked) (index : ℕ) : Type 0 where
  pub front : List Marked
  pub event : Event
  pub tail : List Marked
  pub are : ms ≡ front ++ (event, Some (b, n)) ∷ tail
  pub before : AllByRecursion (IsBefore b n) front
  pub plain : AllByRecursion IsPlain tail
  pub at : index ≡ length front

-- Lists with one event changed
pub updated-mid : (f : Event → Event) (xs : List Event) (e : Event) (ys : List Event) (i : ℕ) → i ≡ length xs → updated_at i f (xs ++ e ∷ ys) ≡ xs ++ f e ∷ ys
updated-mid f [] e ys zero h = refl
updated-mid f (x ∷ xs) e ys (suc i) h = ap (λ l. x ∷ l) (updated-mid f xs e ys i (omega (arith, h)))
updated-mid f xs e ys i h = absurd (omega (arith, h))

-- The list that ends with a chunk behind another: the links of both change, and nothing else
module _ (e : Event) (b n : ℕ) (front : List Marked) (f : Event) (tail : List Marked) (before : AllByRecursion (IsBefore b n) front) (plain : AllByRecursion IsPlain tail) where
  abbrev last : Marked
  last = (f, Some (b, n))

  abbrev new : Marked
  new = (e, Some (b, suc n))

  abbrev olds : List Marked
  olds = front ++ last ∷ tail

  abbrev more : List Marked
  more = olds ++ new ∷ []

  -- no chunk from this line on begins elsewhere
  elsewhere : (k : ℕ) → n < k → AllByRecursion (λ x. begins (b, k) x ≡ false) olds
  elsewhere k h =
      every-append (λ x. begins (b, k) x ≡ false) front (last ∷ tail) (all-away b n front before k (omega (arith, h)))
      (grind (arith, nat_tests), every-map IsPlain (λ x. begins (b, k) x ≡ false) (plain-only (λ x. begins (b, k) x ≡ false) (λ e. refl)) tail plain)

  abbrev old_front : List Event
  old_front = map (as_linked olds) front

  abbrev old_tail : List Event
  old_tail = map (as_linked olds) tail

  split : with_links more ≡ (old_front ++ with_next (length olds) (as_linked olds last) ∷ old_tail) ++ with_previous (length front) (alone e) ∷ []
  split =
      let after_new : chunk_at more (b, suc (suc n)) ≡ None =
      at-none (begins (b, suc (suc n))) more (every-append (λ x. begins (b, suc (suc n)) x ≡ false) olds (new ∷ []) (elsewhere (suc (suc n)) (omega arith)) (grind (arith, nat_tests), tt)) in
      let line : (j : ℕ) → suc j ≡ n → begins (b, j) new ≡ false = λ j is. grind (arith, nat_tests) in
      let at_new : chunk_at more (b, suc n) ≡ Some (length olds) = at-first (begins (b, suc n)) olds new [] (elsewhere (suc n) (omega arith)) (grind (arith, nat_tests)) in
      let at_last : chunk_at more (b, n) ≡ Some (length front) =
      ap (position (begins (b, n))) (append_assoc front (last ∷ tail) (new ∷ [])) ∙ at-first (begins (b, n)) front last (tail ++ new ∷ []) (all-away b n front before n (omega arith)) (grind (arith, nat_tests)) in
      let last_next : as_linked more last ≡ with_next (length olds) (as_linked olds last) =
      link-same f (chunk_before more (b, n)) (chunk_before olds (b, n)) (chunk_at more (b, suc n)) (Some (length olds)) (same-before olds new b n line) at_new in
      let new_previous : as_linked more new ≡ with_previous (length front) (alone e) =
      link-same e (chunk_at more (b, n)) (Some (length front)) (chunk_at more (b, suc (suc n))) None at_last after_new in
      let front_same = same-links olds new front (every-map (IsBefore b n) (NoNeighbour new) (no-next e b n (suc n) (λ k less. omega arith)) front before) in
      let tail_same = same-links olds new tail (every-map IsPlain (NoNeighbour new) (plain-only (NoNeighbour new) (λ e. tt)) tail plain) in
      map-append (as_linked more) olds (new ∷ [])
      ∙ ap (λ l. l ++ as_linked more new ∷ []) (map-append (as_linked more) front (last ∷ tail))
      ∙ (λ i. (front_same i ++ last_next i ∷ tail_same i) ++ new_previous i ∷ [])

  old-split : with_links olds ≡ old_front ++ as_linked olds last ∷ old_tail
  old-split = map-append (as_linked olds) front (last ∷ tail)

  linked-is : linked_to (length front) (length olds) (with_links olds ++ alone e ∷ []) ≡ with_links more
  linked-is =
      let i = length front in
      let m = length olds in
      let x = as_linked olds last in
      let many : length old_front ≡ i = length-map front (as_linked olds) in
      let all : length (old_front ++ with_next m x ∷ old_tail) ≡ m =
      length-append old_front (with_next m x ∷ old_tail) ∙ sym (length-append old_front (x ∷ old_tail)) ∙ ap length (sym old-split) ∙ length-map olds (as_linked olds) in
      ap (λ l. linked_to i m (l ++ alone e ∷ [])) old-split
      ∙ ap (λ l. updated_at m (with_previous i) (updated_at i (with_next m) l)) (append_assoc old_front (x ∷ old_tail) (alone e ∷ []))
      ∙ ap (updated_at m (with_previous i)) (updated-mid (with_next m) old_front x (old_tail ++ alone e ∷ []) i (sym many))
      ∙ ap (updated_at m (with_previous i)) (sym (append_assoc old_front (with_next m x ∷ old_tail) (alone e ∷ [])))
      ∙ updated-mid (with_previous i) (old_front ++ with_next m x ∷ old_tail) (alone e) [] m (sym all)
      ∙ sym split

-- A chunk behind another: the two are linked
pub links-next : (ms : List Marked) (e : Event) (b n index : ℕ) → EndsIn b n ms index → with_links (ms ++ (e, Some (b, suc n)) ∷ []) ≡ linked_to index (length ms) (with_links ms ++ alone e ∷ [])
links-next ms e b n index h =
    let was = h.front ++ (h.event, Some (b, n)) ∷ h.tail in
    let then : linked_to index (length was) (with_links was ++ alone e ∷ []) ≡ with_links (was ++ (e, Some (b, suc n)) ∷ []) =
    ap (λ i. linked_to i (length was) (with_links was ++ alone e ∷ [])) h.at ∙ linked-is e b n h.front h.event h.tail h.before h.plain in
    ap (λ l. with_links (l ++ (e, Some (b, suc n)) ∷ [])) h.are ∙ sym then ∙ sym (ap (λ l. linked_to index (length l) (with_links l ++ alone e ∷ [])) h.are)

-- What is known before a line of a paragraph: a chunk came before in it, at this index, or none did
abbrev pub KnowsLast : (b n : ℕ) → List Marked → (connect : Bool) (index : ℕ) → Type 0
KnowsLast b zero ms connect index = (connect ≡ false) × AllByRecursion (IsBefore b 0) ms
KnowsLast b (suc n) ms connect index = (connect ≡ true) × EndsIn b n ms index

-- what was before still is
later : (b n : ℕ) (x : Marked) → IsBefore b n x → IsBefore b (suc n) x
later b n (e, None) h = tt
later b n (e, Some (c, m)) h = elim h [ inl less ↦ inl less | inr same ↦ (let less = same.1 in inr (same.0, omega (arith, less))) ]

next-block : (b n : ℕ) (x : Marked) → IsBefore b n x → IsBefore (suc b) 0 x
next-block b n (e, None) h = tt
next-block b n (e, Some (c, m)) h = elim h [ inl less ↦ inl (omega (arith, less)) | inr same ↦ (let is = same.0 in inl (omega (arith, is))) ]

pub known-before : (b n : ℕ) (ms : List Marked) (connect : Bool) (index : ℕ) → KnowsLast b n ms connect index → AllByRecursion (IsBefore b n) ms
known-before b zero ms connect index h = h.1
known-before b (suc n) ms connect index h =
    let k = h.1 in
    subst (AllByRecursion (IsBefore b (suc n))) (sym k.are)
    (every-append (IsBefore b (suc n)) k.front ((k.event, Some (b, n)) ∷ k.tail) (every-map (IsBefore b n) (IsBefore b (suc n)) (later b n) k.front k.before)
    (inr (refl, omega arith), every-map IsPlain (IsBefore b (suc n)) (plain-only (IsBefore b (suc n)) (λ e. tt)) k.tail k.plain))

-- so it is with plain events more
pub known-plain : (b n : ℕ) (ms : List Marked) (connect : Bool) (index : ℕ) (e : Event) → KnowsLast b n ms connect index → KnowsLast b n (ms ++ (e, None) ∷ []) connect index
known-plain b zero ms connect index e h = (h.0, every-append (IsBefore b 0) ms ((e, None) ∷ []) h.1 (tt, tt))
known-plain b (suc n) ms connect index e h =
    let k = h.1 in (
      h.0,
      record {
        front = k.front;
        event = k.event;
        tail = k.tail ++ (e, None) ∷ [];
        are = ap (λ l. l ++ (e, None) ∷ []) k.are ∙ append_assoc k.front ((k.event, Some (b, n)) ∷ k.tail) ((e, None) ∷ []);
        before = k.before;
        plain = every-append IsPlain k.tail ((e, None) ∷ []) k.plain (tt, tt);
        at = k.at;
      },
    )

-- all of it is before the next block
pub before-next : (b n : ℕ) (ms : List Marked) → AllByRecursion (IsBefore b n) ms → AllByRecursion (IsBefore (suc b) 0) ms
before-next b n ms h = every-map (IsBefore b n) (IsBefore (suc b) 0) (next-block b n) ms h
