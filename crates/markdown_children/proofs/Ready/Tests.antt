-- The tests of a list that is ready, one by one.
use Rattle.markdown_children.proofs.Prelude.{◌≡◌, ℕ, zero, suc, ◌+◌, ◌-◌, ◌<◌, ◌≤◌, inl, inr, ⊎_elim, Bool, true, List, [], ◌∷◌, length, length-take, drop, Option, Some, None, refl, sym, ◌∙◌, ap, arith, eqb-true, ◌&&◌, ◌||◌, ◌==◌, not, is_none, nat_lt, nat_le, option_map, option_and_then, option_and_then_some, slice_get, between, ltb-true, le-leb, eq-eqb, not-true, not_from_false, and_parts, or_cases, or_left, or_right, none-some, slice_get_within, sameb, same_true, true_same, Content, Event, Enter, Exit, Link, IsBalanced, is_void, same_name, stands_before, next_of, names_after_all, balanced_from_open, names_after_balanced, same_name-true, same-numbers, place_at, IsChunk, IsGap, is_closed, closes, link_at, is_number, is_void_span, is_chunk, leads_back_to, is_joined_on, leads_on_to, is_joined_back, is_sound, is_sound_at, is_same_point, is_in_line, has_no_link, is_gap, AllBelow, both_true}
use Rattle.markdown_children.proofs.ChainOrder.Following.{by_option}
use Rattle.markdown_base.proofs.Facts.Lists.{get-dropped, get-take}
use Rattle.markdown_base.specs.contracts.event.Name.{the_type as names}
use Rattle.markdown_base.specs.contracts.event.Kind.{the_type as kinds}
use Rattle.markdown_base.specs.contracts.event.Content.{the_type as contents}
use Rattle.markdown_base.specs.declared.event.Name.{Name}

-- ---- tests joined

pub four-parts : (a b c d : Bool) → ((a && b) && (c && d)) ≡ true → (a ≡ true) × (b ≡ true) × (c ≡ true) × (d ≡ true)
four-parts a b c d e = let two = and_parts (a && b) (c && d) e in let x = and_parts a b two.0 in let y = and_parts c d two.1 in (x.0, x.1, y.0, y.1)

-- ---- balance

closed-none : (o : Option (List Name)) → is_closed o ≡ true → o ≡ Some []
closed-none (Some []) e = refl
closed-none o e = absurd (cc)

pub balanced-closes : (es : List Event) → closes es ≡ true → IsBalanced es
balanced-closes es e = balanced_from_open es (closed-none (names_after_all (Some []) es) e)

pub closes-balanced : (es : List Event) → IsBalanced es → closes es ≡ true
closes-balanced es b = ap is_closed (names_after_balanced b [])

-- ---- numbers

number-is : (o : Option ℕ) (k : ℕ) → is_number o k ≡ true → o ≡ Some k
number-is None k e = absurd (cc)
number-is (Some n) k e = ap (λ m. Some m) (eqb-true n k e)

pub is-number : (o : Option ℕ) (k : ℕ) → o ≡ Some k → is_number o k ≡ true
is-number o k e = ap (λ p. is_number p k) e ∙ eq-eqb k k refl

-- ---- links

-- what is read off links is the same of events
of-link : {A : Type 0} (f : Option Link → Option A) → f None ≡ None → (o : Option Event) → option_and_then (λ (e : Event). f e.link) o ≡ f (option_and_then (λ (e : Event). e.link) o)
of-link f n None = sym n
of-link f n (Some e) = refl

with-link : {A : Type 0} (f : Option Link → Option A) → f None ≡ None → (o : Option Link) (a : A) → f o ≡ Some a → (l : Link) × (o ≡ Some l) × (f (Some l) ≡ Some a)
with-link f n None a e = absurd (none-some a (sym n ∙ e))
with-link f n (Some l) a e = (l, refl, e)

abbrev pub link_content : Option Link → Option Content
link_content o = option_map (λ (l : Link). l.content) o

abbrev pub link_next : Option Link → Option ℕ
link_next o = option_and_then (λ (l : Link). l.next) o

abbrev pub link_previous : Option Link → Option ℕ
link_previous o = option_and_then (λ (l : Link). l.previous) o

module _ {A : Type 0} (f : Option Link → Option A) (none : f None ≡ None) (events : List Event) (k : ℕ) where
  pub read-at : (l : Link) → link_at events k ≡ Some l → option_and_then (λ (e : Event). f e.link) (slice_get events k) ≡ f (Some l)
  read-at l e = of-link f none (slice_get events k) ∙ ap f e

  pub with-read : (a : A) → option_and_then (λ (e : Event). f e.link) (slice_get events k) ≡ Some a → (l : Link) × (link_at events k ≡ Some l) × (f (Some l) ≡ Some a)
  with-read a e = with-link f none (link_at events k) a (sym (of-link f none (slice_get events k)) ∙ e)

pub inside-link : (events : List Event) (k : ℕ) (l : Link) → link_at events k ≡ Some l → k < length events
inside-link events k l e = option_and_then_some (λ (x : Event). x.link) (slice_get events k) l e (λ x s h. slice_get_within events k x s)

-- ---- chunks

pub chunk-of : (events : List Event) (k : ℕ) (l : Link) (o p : Option Event) → is_void_span o p ≡ true → slice_get events k ≡ o → slice_get events (k + 1) ≡ p
    → option_and_then (λ (e : Event). e.link) o ≡ Some l → IsChunk events k
chunk-of events k l (Some x) (Some y) e at behind linked =
    let t = four-parts (sameb kinds x.kind Enter) (is_void x.name) (sameb kinds y.kind Exit) (same_name y.name x.name) e in
    record {
      enter = x;
      exit = y;
      enter_at = at;
      exit_at = behind;
      linked = record { enter = same_true kinds tt x.kind Enter t.0; void = t.1; linked = rw linked refl };
      ended = record { exits = same_true kinds tt y.kind Exit t.2; same = same_name-true y.name x.name t.3 };
    }
chunk-of events k l o p e at behind linked = absurd (cc)

pub of-chunk : (events : List Event) (k : ℕ) → IsChunk events k → is_chunk events k ≡ true
of-chunk events k c =
    (λ j. is_void_span (c.enter_at j) (c.exit_at j))
    ∙ both_true (both_true (true_same kinds _ _ c.linked.enter) c.linked.void) (both_true (true_same kinds _ _ c.ended.exits) (true_same names _ _ c.ended.same))

-- ---- neighbours

leads-back : (k : ℕ) (c : Content) (o : Option Link) → leads_back_to k c o ≡ true → (m : Link) × (o ≡ Some m) × (m.previous ≡ Some k) × (m.content ≡ c)
leads-back k c None e = absurd (cc)
leads-back k c (Some m) e = let two = and_parts (is_number m.previous k) (sameb contents m.content c) e in (m, refl, number-is m.previous k two.0, same_true contents tt m.content c two.1)

pub leads-on : (k : ℕ) (o : Option Link) → leads_on_to k o ≡ true → (l : Link) × (o ≡ Some l) × (l.next ≡ Some k)
leads-on k None e = absurd (cc)
leads-on k (Some l) e = (l, refl, number-is l.next k e)

-- what is required of a linked event
pub parts-of : (events : List Event) (k : ℕ) (l : Link) → is_sound_at events k ≡ true → link_at events k ≡ Some l
    → (is_chunk events k ≡ true) × (is_joined_on events k l.content l.next ≡ true) × (is_joined_back events k l.previous ≡ true)
parts-of events k l h e =
    let a = and_parts (is_chunk events k) (is_joined_on events k l.content l.next && is_joined_back events k l.previous) (ap (is_sound events k) (sym e) ∙ h) in
    let b = and_parts (is_joined_on events k l.content l.next) (is_joined_back events k l.previous) a.1 in
    (a.0, b.0, b.1)

-- the event that a link leads on to
pub on-to : (events : List Event) (k d : ℕ) (l : Link) → is_sound_at events k ≡ true → link_at events k ≡ Some l → l.next ≡ Some d
    → (k < d) × (m : Link) × (link_at events d ≡ Some m) × (m.previous ≡ Some k) × (m.content ≡ l.content)
on-to events k d l h e f =
    let two = and_parts (nat_lt k d) (leads_back_to k l.content (link_at events d)) (ap (is_joined_on events k l.content) (sym f) ∙ (parts-of events k l h e).1) in
    let m = leads-back k l.content (link_at events d) two.1 in
    (ltb-true k d two.0, m.0, m.1, m.2, m.3)

pub on : (events : List Event) → AllBelow (length events) (is_sound_at events) → (k d : ℕ) → next_of events k ≡ Some d
    → (l : Link) × (link_at events k ≡ Some l) × (k < d) × (m : Link) × (link_at events d ≡ Some m) × (m.previous ≡ Some k) × (m.content ≡ l.content)
on events sound k d e = let x = with-read link_next refl events k d e in let m = on-to events k d x.0 (sound k (inside-link events k x.0 x.1)) x.1 x.2 in (x.0, x.1, m.0, m.1, m.2, m.3, m.4)

-- ---- gaps

not-link : (o : Option Link) → is_none o ≡ true → o ≡ None
not-link None e = refl
not-link (Some l) e = absurd (cc)

-- no event between two indices has a link, by index
has_no_link-all : (es : List Event) → has_no_link es ≡ true → (m : ℕ) → link_at es m ≡ None
has_no_link-all [] e zero = refl
has_no_link-all [] e (suc m) = refl
has_no_link-all (x ∷ es) e zero = not-link x.link (and_parts (is_none x.link) (has_no_link es) e).0
has_no_link-all (x ∷ es) e (suc m) = has_no_link-all es (and_parts (is_none x.link) (has_no_link es) e).1 m

all-has_no_link : (es : List Event) → ((m : ℕ) → m < length es → link_at es m ≡ None) → has_no_link es ≡ true
all-has_no_link [] h = refl
all-has_no_link (x ∷ es) h = both_true (ap is_none (h 0 (omega arith))) (all-has_no_link es (λ m l. h (suc m) (omega arith)))

get-between : (a b m : ℕ) (es : List Event) → a + m < b → slice_get (between a b es) m ≡ slice_get es (a + m)
get-between a b m es h = let l : m < b - a = omega arith in get-take (b - a) (drop a es) m l ∙ get-dropped a es m

module _ (events : List Event) where
  -- what passes the test is a gap
  pub gap-of : (k d : ℕ) → is_gap events k d ≡ true → IsGap events k d
  gap-of k d e =
      let p = place_at events (k + 1) in
      let q = place_at events d in
      let inside = between (k + 2) d events in
      let t = four-parts (nat_le (k + 2) d) (is_in_line p q) (has_no_link inside) (closes inside) e in
      let l = and_parts (not (stands_before q p)) (is_same_point p q || ((p.column == 1) && (q.line == p.line))) t.1 in
      record {
        forward = not-true (stands_before q p) l.0;
        in_line = ⊎_elim
            (λ s.
            let u = four-parts (p.line == q.line) (p.column == q.column) (p.index == q.index) (p.vs == q.vs) s in
            inl (same-numbers p.line p.column p.index p.vs q.line q.column q.index q.vs
            (eqb-true p.line q.line u.0) (eqb-true p.column q.column u.1) (eqb-true p.index q.index u.2) (eqb-true p.vs q.vs u.3)))
            (λ s. let c = and_parts (p.column == 1) (q.line == p.line) s in inr (eqb-true p.column 1 c.0, eqb-true q.line p.line c.1))
            (or_cases (is_same_point p q) ((p.column == 1) && (q.line == p.line)) l.1);
        balanced = balanced-closes inside t.3;
        no_link = λ m u v.
            let at : (k + 2) + (m - (k + 2)) ≡ m = omega arith in
            of-link link_content refl (slice_get events m)
            ∙ ap (λ (o : Option Event). link_content (option_and_then (λ (x : Event). x.link) o)) (sym (get-between (k + 2) d (m - (k + 2)) events (omega arith) ∙ ap (slice_get events) at))
            ∙ ap link_content (has_no_link-all inside t.2 (m - (k + 2)));
      }

  pub of-gap : (k d : ℕ) → k + 2 ≤ d → IsGap events k d → is_gap events k d ≡ true
  of-gap k d h g =
      let p = place_at events (k + 1) in
      let q = place_at events d in
      let inside = between (k + 2) d events in
      both_true
      (both_true (le-leb (k + 2) d h)
      (both_true (not_from_false (stands_before q p) g.forward)
      (⊎_elim
      (λ s. or_left (is_same_point p q) ((p.column == 1) && (q.line == p.line))
      (ap (is_same_point p) (sym s) ∙ rw (eq-eqb p.line p.line refl, eq-eqb p.column p.column refl, eq-eqb p.index p.index refl, eq-eqb p.vs p.vs refl) refl))
      (λ s. or_right (is_same_point p q) ((p.column == 1) && (q.line == p.line)) (both_true (eq-eqb p.column 1 s.0) (eq-eqb q.line p.line s.1)))
      g.in_line)))
      (both_true
      (all-has_no_link inside (λ m l.
      let within : (k + 2) + m < d = omega (arith, l, length-take (d - (k + 2)) (drop (k + 2) events)) in
      ap (option_and_then (λ (x : Event). x.link)) (get-between (k + 2) d m events within)
      ∙ by_option (link_at events (k + 2 + m)) (λ n. n) (λ x n. absurd (none-some x.content (sym (g.no_link (k + 2 + m) (omega arith) within) ∙ read-at link_content refl events (k + 2 + m) x n)))))
      (closes-balanced inside g.balanced))
