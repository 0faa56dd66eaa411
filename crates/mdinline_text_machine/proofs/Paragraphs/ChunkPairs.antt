-- Lists of events in which chunks of text are linked one after another: what is between two that are linked, and that this is kept if
-- events are added and chunks are linked.
use Rattle.markdown_base.specs.Events.{IsInOrder}
use Rattle.markdown_base.specs.Places.{IsShown, stands_before}
use Rattle.markdown_children.specs.Ready.{IsShownPlace}
use Rattle.mdinline_text_machine.proofs.Prelude.{AllByRecursion, ◌≡◌, ℕ, zero, suc, ◌+◌, ◌<◌, ◌≤◌, ◌==◌, List, [], ◌∷◌, ◌++◌, true, false, Option, Some, None, length, ◌⊎◌, inl, inr, refl, sym, ap, ◌∙◌, subst, arith, length-append, is_some, slice_get, option_map, option_and_then, unwrap_or, nat_tests, slice_get_within, eqb-true, Event, Enter, Exit, Link, Point, IsPointOf, point, IsLinkedEnter, content_of, updated_at, next_set, previous_set, with_next, with_previous, linked_to, next_of, updated-length, place_at, next_end, next-more, next-other, next-kept, every-append, get-front}
use Rattle.std.proofs.Common.{get_or}
use Rattle.std.proofs.lemmas.Option.{get_or_from_slice_get}
use Rattle.markdown_base.specs.declared.event.Content.TheVariants.{Text}

-- Lists with one more event
pub last-get : (xs : List Event) (e : Event) (i : ℕ) → i ≡ length xs → slice_get (xs ++ e ∷ []) i ≡ Some e
last-get [] e zero h = refl
last-get (x ∷ xs) e (suc i) h = last-get xs e i (omega (arith, h))
last-get xs e i h = absurd (omega (arith, h))

abbrev point_or_first : Option Event → Point
point_or_first o = unwrap_or (option_map (λ (e : Event). e.point) o) (point 1 1 0 0)

pub place-at-event : (xs : List Event) (i : ℕ) (e : Event) → slice_get xs i ≡ Some e → place_at xs i ≡ e.point
place-at-event xs i e is = ap point_or_first is

-- events in order stand at places that are shown, and none before another
pub stands-shown : (t : ℕ) (bytes : List ℕ) (es : List Event) → IsInOrder bytes es → (k : ℕ) (e : Event) → slice_get es k ≡ Some e → IsPointOf t bytes e.point → IsShownPlace t bytes (place_at es k)
stands-shown t bytes es order k e at point =
    let is_shown = subst (λ (x : Event). IsShown bytes x.point) (get_or_from_slice_get es k e e at) (order.1 k e (slice_get_within es k e at)) in
    subst (IsShownPlace t bytes) (sym (place-at-event es k e at)) (point, is_shown)

pub stand-in-order : (bytes : List ℕ) (es : List Event) → IsInOrder bytes es → (i j : ℕ) (e f : Event) → i < j → slice_get es i ≡ Some e → slice_get es j ≡ Some f → stands_before (place_at es j) (place_at es i) ≡ false
stand-in-order bytes es order i j e f less at then =
    let first : place_at es i ≡ (get_or es i e).point = place-at-event es i e at ∙ ap (λ (x : Event). x.point) (sym (get_or_from_slice_get es i e e at)) in
    let second : place_at es j ≡ (get_or es j e).point = place-at-event es j f then ∙ ap (λ (x : Event). x.point) (sym (get_or_from_slice_get es j f e then)) in
    (λ x. stands_before (second x) (first x)) ∙ order.0 i j e less (slice_get_within es j f then)

pub front-place : (xs : List Event) (e : Event) (i : ℕ) → i < length xs → place_at (xs ++ e ∷ []) i ≡ place_at xs i
front-place xs e i h = ap point_or_first (get-front xs (e ∷ []) i h)

-- Lists with one event changed
updated-place : (i : ℕ) (f : Event → Event) (xs : List Event) (j : ℕ) → ((x : Event) → (f x).point ≡ x.point) → place_at (updated_at i f xs) j ≡ place_at xs j
updated-place zero f (x ∷ xs) zero same = same x
updated-place (suc i) f (x ∷ xs) (suc j) same = updated-place i f xs j same
updated-place i f xs j same = refl

updated-same : (p : ℕ) (f : Event → Event) (xs : List Event) (i : ℕ) (m : Event) → slice_get xs i ≡ Some m → f m ≡ m → slice_get (updated_at p f xs) i ≡ Some m
updated-same zero f (x ∷ xs) zero m is same = let e : x ≡ m = cc in ap (λ (y : Event). Some (f y)) e ∙ ap (λ (y : Event). Some y) same
updated-same (suc p) f (x ∷ xs) (suc i) m is same = updated-same p f xs i m is same
updated-same p f xs i m is same = is

all-updated : (P : Event → Type 0) (p : ℕ) (f : Event → Event) (xs : List Event) → ((x : Event) → P x → P (f x)) → AllByRecursion P xs → AllByRecursion P (updated_at p f xs)
all-updated P p f [] keeps h = h
all-updated P zero f (x ∷ xs) keeps h = (keeps x h.0, h.1)
all-updated P (suc p) f (x ∷ xs) keeps h = (h.0, all-updated P p f xs keeps h.1)

-- an event that was linked has the new next event
pub next-is : (p n d : ℕ) (xs : List Event) → next_of (updated_at p (with_next n) xs) p ≡ Some d → d ≡ n
next-is p n d [] is = absurd (cc)
next-is zero n d (x ∷ xs) is = elim x.link as (λ o. option_and_then (λ (l : Link). l.next) (option_map (next_set n) o) ≡ Some d → d ≡ n) [ None ↦ λ h. absurd (cc) | Some l ↦ λ h. cc ] is
next-is (suc p) n d (x ∷ xs) is = next-is p n d xs is

-- The event begins a chunk of text
pub record IsChunkStart (e : Event) : Type 0 where
  pub linked : IsLinkedEnter e
  pub text : content_of e ≡ Some Text

-- A span in no chain
pub record IsMarkSpan (enter exit : Event) : Type 0 where
  pub enters : enter.kind ≡ Enter
  pub exits : exit.kind ≡ Exit
  pub same : exit.name ≡ enter.name
  pub enter_alone : enter.link ≡ None
  pub exit_alone : exit.link ≡ None

-- One is at an index, with nothing in it
pub record IsMark (es : List Event) (i : ℕ) : Type 0 where
  pub enter : Event
  pub exit : Event
  pub enter_at : slice_get es i ≡ Some enter
  pub exit_at : slice_get es (i + 1) ≡ Some exit
  pub are : IsMarkSpan enter exit

-- the event at d, which is at this place, follows the chunk at k: directly at its end; or after a mark that begins a line and does not end it
abbrev pub Follows : List Event → (k d : ℕ) → Point → Type 0
Follows es k d p = ((d ≡ k + 2) × (p ≡ place_at es (k + 1)))
    ⊎ ((d ≡ k + 4) × IsMark es (k + 2) × ((place_at es (k + 1)).column ≡ 1) × (p.line ≡ (place_at es (k + 1)).line))

abbrev pub FollowsChunk : List Event → (k d : ℕ) → Type 0
FollowsChunk es k d = Follows es k d (place_at es d)

-- The chunk at d is the next one of the chunk at k
pub record IsPair (es : List Event) (k d : ℕ) : Type 0 where
  pub within : d < length es
  pub follows : FollowsChunk es k d

-- it follows in another list too, if the events of both chunks are at the same places there, and the mark is there
follows-kept : (es fs : List Event) (k d : ℕ) (p q : Point) → q ≡ p → place_at fs (k + 1) ≡ place_at es (k + 1) → (IsMark es (k + 2) → IsMark fs (k + 2)) → Follows es k d p → Follows fs k d q
follows-kept es fs k d p q here exit mark h = elim h [
  | inl next ↦ inl (next.0, here ∙ next.1 ∙ sym exit)
  | inr behind ↦ inr (behind.0, mark behind.1, ap (λ (q : Point). q.column) exit ∙ behind.2, ap (λ (q : Point). q.line) here ∙ behind.3 ∙ ap (λ (q : Point). q.line) (sym exit))
]

-- so it is if an event is added
mark-more : (es : List Event) (e : Event) (i : ℕ) → IsMark es i → IsMark (es ++ e ∷ []) i
mark-more es e i h =
    let last = slice_get_within es (i + 1) h.exit h.exit_at in
    record { enter = h.enter; exit = h.exit; enter_at = get-front es (e ∷ []) i (omega (arith, last)) ∙ h.enter_at; exit_at = get-front es (e ∷ []) (i + 1) last ∙ h.exit_at; are = h.are }

pub more-follows : (es : List Event) (e : Event) (k d : ℕ) (p q : Point) → d ≤ length es → q ≡ p → Follows es k d p → Follows (es ++ e ∷ []) k d q
more-follows es e k d p q within here h =
    let inside : k + 1 < length es = elim h [ inl next ↦ (let at = next.0 in omega (arith, at, within)) | inr behind ↦ (let at = behind.0 in omega (arith, at, within)) ] in
    follows-kept es (es ++ e ∷ []) k d p q here (front-place es e (k + 1) inside) (mark-more es e (k + 2)) h

mark-updated : (p : ℕ) (f : Event → Event) (es : List Event) (i : ℕ) → ((x : Event) → x.link ≡ None → f x ≡ x) → IsMark es i → IsMark (updated_at p f es) i
mark-updated p f es i alone h =
    let enter = updated-same p f es i h.enter h.enter_at (alone h.enter h.are.enter_alone) in
    let exit = updated-same p f es (i + 1) h.exit h.exit_at (alone h.exit h.are.exit_alone) in
    record { enter = h.enter; exit = h.exit; enter_at = enter; exit_at = exit; are = h.are }

-- of an event in no chain no link end is set
alone-same : (f : Link → Link) (x : Event) → x.link ≡ None → record x { link = option_map f x.link } ≡ x
alone-same f x h = ap (λ (o : Option Link). record x { link = option_map f o }) h ∙ ap (λ (o : Option Link). record x { link = o }) (sym h)

module _ (b n : ℕ) (es : List Event) where
  linked-place : (j : ℕ) → place_at (linked_to b n es) j ≡ place_at es j
  linked-place j = updated-place n (with_previous b) (updated_at b (with_next n) es) j (λ x. refl) ∙ updated-place b (with_next n) es j (λ x. refl)

  pub linked-length : length (linked_to b n es) ≡ length es
  linked-length = updated-length n (with_previous b) (updated_at b (with_next n) es) ∙ updated-length b (with_next n) es

module _ (t : ℕ) (bytes : List ℕ) where
  -- an event is in no chain, or begins a chunk of text; and it is at a place of the document
  abbrev pub IsPlaced : Event → Type 0
  IsPlaced e = ((e.link ≡ None) ⊎ IsChunkStart e) × IsPointOf t bytes e.point

  -- Each event is so, and of two chunks that are linked the one follows the other
  pub record AreChunks (es : List Event) : Type 0 where
    pub each : AllByRecursion IsPlaced es
    pub pairs : (k d : ℕ) → next_of es k ≡ Some d → IsPair es k d

  pub chunks-more : (es : List Event) (e : Event) → IsPlaced e → next_end e ≡ None → AreChunks es → AreChunks (es ++ e ∷ [])
  chunks-more es e placed ends h = record {
    each = every-append IsPlaced es (e ∷ []) h.each (placed, tt);
    pairs = λ k d is.
        let old = h.pairs k d (sym (next-more es e k ends) ∙ is) in
        let within = old.within in
        record {
          within = omega (arith, within, length-append es (e ∷ []));
          follows = more-follows es e k d (place_at es d) (place_at (es ++ e ∷ []) d) (omega (arith, within)) (front-place es e d within) old.follows;
        };
  }

  begins-still : (f : Link → Link) (x : Event) (o : Option Link) → ((l : Link) → (f l).content ≡ l.content) → x.link ≡ o → IsChunkStart x → IsChunkStart (record x { link = option_map f x.link })
  begins-still f x None same e chunk = let none : is_some {T = Link} None ≡ true = ap is_some (sym e) ∙ chunk.linked.linked in absurd (cc)
  begins-still f x (Some l) same e chunk = record {
    linked = record { enter = chunk.linked.enter; void = chunk.linked.void; linked = rw e refl };
    text = ap (λ (o : Option Link). option_map (λ (l : Link). l.content) (option_map f o)) e ∙ ap Some (same l) ∙ ap (option_map (λ (l : Link). l.content)) (sym e) ∙ chunk.text;
  }

  -- so it is where a link end is set
  linked-placed : (f : Link → Link) → ((l : Link) → (f l).content ≡ l.content) → (x : Event) → IsPlaced x → IsPlaced (record x { link = option_map f x.link })
  linked-placed f same x h = (elim h.0 [ inl alone ↦ inl (ap (option_map f) alone) | inr chunk ↦ inr (begins-still f x x.link same refl chunk) ], h.1)

  -- two chunks that follow each other are linked
  pub chunks-linked : (es : List Event) (b n : ℕ) → IsPair es b n → AreChunks es → AreChunks (linked_to b n es)
  chunks-linked es b n pair h = record {
    each = all-updated IsPlaced n (with_previous b) (updated_at b (with_next n) es) (linked-placed (previous_set b) (λ l. refl)) (all-updated IsPlaced b (with_next n) es (linked-placed (next_set n) (λ l. refl)) h.each);
    pairs = λ k d is.
        let first : next_of (updated_at b (with_next n) es) k ≡ Some d = sym (next-kept n b k (updated_at b (with_next n) es)) ∙ is in
        let old : IsPair es k d = elim (k == b) as (λ c. (k == b) ≡ c → IsPair es k d) [
          | true ↦ λ e.
              let same = eqb-true k b e in
              let there : d ≡ n = next-is b n d es (subst (λ i. next_of (updated_at b (with_next n) es) i ≡ Some d) same first) in
              subst (λ i. IsPair es i d) (sym same) (subst (IsPair es b) (sym there) pair)
          | false ↦ λ e.
              let apart : k ≡ b → ⊥ = λ f. let yes : (k == b) ≡ true = grind (arith, nat_tests) in let no : true ≡ false = sym yes ∙ e in absurd (cc) in
              h.pairs k d (sym (next-other b k (with_next n) es apart) ∙ first)
        ] refl in
        let one = λ (m : IsMark es (k + 2)). mark-updated b (with_next n) es (k + 2) (alone-same (next_set n)) m in
        let mark = λ (m : IsMark es (k + 2)). mark-updated n (with_previous b) (updated_at b (with_next n) es) (k + 2) (alone-same (previous_set b)) (one m) in
        record {
          within = subst (λ m. d < m) (sym (linked-length b n es)) old.within;
          follows = follows-kept es (linked_to b n es) k d (place_at es d) (place_at (linked_to b n es) d) (linked-place b n es d) (linked-place b n es (k + 1)) mark old.follows;
        };
  }
