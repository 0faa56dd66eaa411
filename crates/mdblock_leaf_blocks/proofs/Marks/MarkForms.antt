-- Marks of spans over a document's virtual bytes are well formed: balanced, void spans empty, at places, and in order of these.
use Rattle.markdown_base.proofs.Orders.{IsFirstExit, AreTight, tight-both, tight-at, InOrder, order-both, order-from, order-pairs}
use Rattle.mdblock_leaf_blocks.proofs.Prelude.{◌≡◌, ℕ, ◌+◌, List, [], ◌∷◌, ◌++◌, Bool, true, false, cond, Option, Some, None, append_assoc, refl, sym, ap, ◌∙◌, subst, AllByRecursion, map-append, append-nil, All-from_recursion, every-append, every-map, end-after-append, stands-self, Event, Enter, Exit, Point, is_void, same_name, IsPointOf, IsShown, shown, stands_before, Seat, end_after, balanced_from_open, names_after_all-append, same_name-refl, names_after, names_after_all, IsWellFormed, Given, event, Chunk, Mark, alone, linked_from, IsText, Text, AcrossGap, AtOnce}
use Rattle.markdown_base.specs.declared.event.Name.{Name}
use Rattle.markdown_base.specs.declared.event.Name.TheVariants as name
use Rattle.mdblock_leaf_blocks.proofs.Marks.Courses.{Course, Place, course-here, course-on, course-place, course-upto, text-course}
use Rattle.mdblock_leaf_blocks.proofs.Marks.MarkAccounts.{bare}
use Rattle.mdblock_leaf_blocks.proofs.Marks.MarkSpans.{IsKeptBySpans, text-by-chunks}

-- ---- void spans

-- ---- events between two places, in order

-- ---- balance

pub name-closed : (f : Event) (n : Name) (st : List Name) → f.kind ≡ Exit → f.name ≡ n → names_after_all (Some (n ∷ st)) (f ∷ []) ≡ Some st
name-closed f n st exits named =
    ap (λ k. names_after_all (names_after k f.name (n ∷ st)) []) exits ∙ ap (λ m. names_after_all (cond (same_name n m) (Some st) None) []) named
    ∙ ap (λ (b : Bool). names_after_all (cond b (Some st) None) []) (same_name-refl n)

-- ---- events between two places of a document

module _ (t : ℕ) (bytes : List ℕ) where
  -- Events between two places: balanced, void spans empty, in order, and at places
  pub record Formed (p : Point) (es : List Event) (q : Point) : Type 0 where
    pub balanced : (st : List Name) → names_after_all (Some st) es ≡ Some st
    pub tight : AreTight es
    pub order : InOrder p es q
    pub places : AllByRecursion (λ (e : Event). Place t bytes e.point) es

  -- they are between an earlier place and the second, too
  pub formed-from : (o p : Point) (es : List Event) (q : Point) → stands_before p o ≡ false → Formed p es q → Formed o es q
  formed-from o p es q later h = record { balanced = h.balanced; tight = h.tight; order = order-from o p es q later h.order; places = h.places }

  formed-both : (p : Point) (xs : List Event) (m : Point) (ys : List Event) (q : Point) → Formed p xs m → Formed m ys q → Formed p (xs ++ ys) q
  formed-both p xs m ys q h k = record {
    balanced = λ st. names_after_all-append (Some st) xs ys ∙ ap (λ o. names_after_all o ys) (h.balanced st) ∙ k.balanced st;
    tight = tight-both xs ys h.tight k.tight;
    order = order-both p xs m ys q h.order k.order;
    places = every-append (λ (e : Event). Place t bytes e.point) xs ys h.places k.places;
  }

  -- an enter and an exit around events
  formed-around : (p q : Point) (e f : Event) (es : List Event) → Place t bytes p → Place t bytes q → e.kind ≡ Enter → f.kind ≡ Exit → f.name ≡ e.name → e.point ≡ p → f.point ≡ q → (is_void e.name ≡ true → IsFirstExit e.name (es ++ f ∷ [])) → Formed p es q
      → Formed p (e ∷ (es ++ f ∷ [])) q
  formed-around p q e f es here there enters exits named from to first h =
      let close : InOrder q (f ∷ []) q = subst (λ r. (stands_before r q ≡ false) × (stands_before q r ≡ false)) (sym to) (stands-self q, stands-self q) in
      let inside : InOrder p (es ++ f ∷ []) q = order-both p es q (f ∷ []) q h.order close in
      record {
        balanced = λ st.
            ap (λ k. names_after_all (names_after k e.name st) (es ++ f ∷ [])) enters ∙ names_after_all-append (Some (e.name ∷ st)) es (f ∷ [])
            ∙ ap (λ o. names_after_all o (f ∷ [])) (h.balanced (e.name ∷ st)) ∙ name-closed f e.name st exits named;
        tight = ((λ _. first), tight-both es (f ∷ []) h.tight ((λ enter void. absurd (let both : Enter ≡ Exit = sym enter ∙ exits in cc)), tt));
        order = (subst (λ r. stands_before r p ≡ false) (sym from) (stands-self p), subst (λ r. InOrder r (es ++ f ∷ []) q) (sym from) inside);
        places = (subst (Place t bytes) (sym from) here, every-append (λ (e : Event). Place t bytes e.point) es (f ∷ []) h.places (subst (Place t bytes) (sym to) there, tt));
      }

-- ---- all of it

-- marks over virtual bytes, wherever these are
module _ (Meets : (from to : Point) → Type 0) (t : ℕ) (bytes : List ℕ) where
  abbrev pub FormsOver : List Mark → List Seat → Type 0
  FormsOver marks seats = (p : Point) (rest : List Seat) → Course Meets t bytes p (seats ++ rest) → Formed t bytes p (bare marks) (end_after p seats)

module _ (Meets : (from to : Point) → Type 0) (stays : (q : Point) → Meets q q) (t : ℕ) (bytes : List ℕ) where
  abbrev Over : List Mark → List Seat → Type 0
  Over = FormsOver Meets t bytes

  forms-none : Over [] []
  forms-none p rest h = record { balanced = λ st. refl; tight = tt; order = stands-self p; places = tt }

  forms-both : (xs ys : List Mark) (a b : List Seat) → Over xs a → Over ys b → Over (xs ++ ys) (a ++ b)
  forms-both xs ys a b h k p rest course =
      let whole = subst (Course Meets t bytes p) (append_assoc a b rest) course in
      let m = end_after p a in
      let joined = formed-both t bytes p (bare xs) m (bare ys) (end_after m b) (h p (b ++ rest) whole) (k m rest (course-on Meets t bytes p a (b ++ rest) whole)) in
      subst (λ es. Formed t bytes p es (end_after p (a ++ b))) (sym (map-append (λ (m : Mark). m.0) xs ys)) (subst (Formed t bytes p (bare xs ++ bare ys)) (sym (end-after-append p a b)) joined)

  forms-span : (chunk : Option Chunk) (n : Name) (s : Seat) (ss : List Seat) (inside : List Mark) → let f : Mark = (event bytes Exit n (end_after s.end ss), None) in
      (is_void n ≡ true → IsFirstExit n (bare inside ++ f.0 ∷ [])) → Over inside (s ∷ ss) → Over ((event bytes Enter n s.point, chunk) ∷ (inside ++ f ∷ [])) (s ∷ ss)
  forms-span chunk n s ss inside first h p rest course =
      let q = end_after s.end ss in
      let o = shown bytes s.point in
      let there = course-place Meets t bytes q rest (course-on Meets t bytes p (s ∷ ss) rest course) in
      let e = event bytes Enter n s.point in
      let f = event bytes Exit n q in
      subst (λ es. Formed t bytes p (e ∷ es) q) (sym (map-append (λ (m : Mark). m.0) inside ((f, None) ∷ [])))
      (formed-from t bytes p o (e ∷ (bare inside ++ f ∷ [])) q course.1.later
      (formed-around t bytes o q e f (bare inside) course.1.seat.here there refl refl refl refl there.is_shown first (h o rest (course-here Meets t bytes stays p s (ss ++ rest) course))))

  forms-pair : (chunk : Option Chunk) (n : Name) (s : Seat) (ss : List Seat) → Over ((event bytes Enter n s.point, chunk) ∷ (event bytes Exit n (end_after s.end ss), None) ∷ []) (s ∷ ss)
  forms-pair chunk n s ss p rest course =
      let q = end_after s.end ss in
      let o = shown bytes s.point in
      let there = course-place Meets t bytes q rest (course-on Meets t bytes p (s ∷ ss) rest course) in
      let upto = course-upto Meets t bytes o (s ∷ ss) rest (course-here Meets t bytes stays p s (ss ++ rest) course) in
      formed-from t bytes p o _ q course.1.later
      (formed-around t bytes o q (event bytes Enter n s.point) (event bytes Exit n q) [] course.1.seat.here there refl refl refl refl there.is_shown (λ void. (refl, refl)) (record { balanced = λ st. refl; tight = tt; order = upto; places = tt }))

  pub over-kept : IsKeptBySpans bytes Over
  over-kept = record {
    none = forms-none;
    both = λ {xs} {ys} {a} {b} h k. forms-both xs ys a b h k;
    leaf = λ n s ss w. forms-pair None n s ss;
    datum = λ c s ss w. forms-pair (alone c) name.Data s ss;
    text = λ lines h w. text-by-chunks bytes Over forms-none forms-both (λ chunk n s ss w. forms-pair chunk n s ss) false lines w;
    around = λ n s ss inside void h. forms-span None n s ss inside (λ is. absurd (let both : true ≡ false = sym is ∙ void in cc)) h;
  }

-- without gaps
module _ (t : ℕ) (bytes : List ℕ) where
  abbrev pub Forms : List Mark → List Seat → Type 0
  Forms = FormsOver AtOnce t bytes

  pub forms-kept : IsKeptBySpans bytes Forms
  forms-kept = over-kept AtOnce (λ q. refl) t bytes

-- ---- links change none of this

first-linked-exit : (n : Name) (i : ℕ) (marks : List Mark) → IsFirstExit n (bare marks) → IsFirstExit n (linked_from i marks)
first-linked-exit n i [] h = h
first-linked-exit n i ((e, None) ∷ marks) h = h
first-linked-exit n i ((e, Some chunk) ∷ marks) h = h

pub tight-linked : (i : ℕ) (marks : List Mark) → AreTight (bare marks) → AreTight (linked_from i marks)
tight-linked i [] h = tt
tight-linked i ((e, None) ∷ marks) h = ((λ enters void. first-linked-exit e.name (i + 1) marks (h.0 enters void)), tight-linked (i + 1) marks h.1)
tight-linked i ((e, Some chunk) ∷ marks) h = ((λ enters void. first-linked-exit e.name (i + 1) marks (h.0 enters void)), tight-linked (i + 1) marks h.1)

names-linked : (o : Option (List Name)) (i : ℕ) (marks : List Mark) → names_after_all o (linked_from i marks) ≡ names_after_all o (bare marks)
names-linked None i marks = refl
names-linked (Some st) i [] = refl
names-linked (Some st) i ((e, None) ∷ marks) = names-linked (names_after e.kind e.name st) (i + 1) marks
names-linked (Some st) i ((e, Some chunk) ∷ marks) = names-linked (names_after e.kind e.name st) (i + 1) marks

order-linked : (p : Point) (i : ℕ) (marks : List Mark) (q : Point) → InOrder p (bare marks) q → InOrder p (linked_from i marks) q
order-linked p i [] q h = h
order-linked p i ((e, None) ∷ marks) q h = (h.0, order-linked e.point (i + 1) marks q h.1)
order-linked p i ((e, Some chunk) ∷ marks) q h = (h.0, order-linked e.point (i + 1) marks q h.1)

points-linked : (P : Point → Type 0) (i : ℕ) (marks : List Mark) → AllByRecursion (λ (e : Event). P e.point) (bare marks) → AllByRecursion (λ (e : Event). P e.point) (linked_from i marks)
points-linked P i [] h = tt
points-linked P i ((e, None) ∷ marks) h = (h.0, points-linked P (i + 1) marks h.1)
points-linked P i ((e, Some chunk) ∷ marks) h = (h.0, points-linked P (i + 1) marks h.1)

-- Marks over virtual bytes that are formed between two places are well formed
pub formed-well : (g : Given) (p : Point) (marks : List Mark) (q : Point) → Formed g.tab g.bytes p (bare marks) q → IsWellFormed g (linked_from 0 marks)
formed-well g p marks q h =
    let es = linked_from 0 marks in
    let places = points-linked (Place g.tab g.bytes) 0 marks h.places in
    record {
      balanced = balanced_from_open es (names-linked (Some []) 0 marks ∙ h.balanced []);
      void_tight = tight-at es (tight-linked 0 marks h.tight);
      at_places = All-from_recursion (λ (e : Event). IsPointOf g.tab g.bytes e.point) es (every-map (λ (e : Event). Place g.tab g.bytes e.point) (λ (e : Event). IsPointOf g.tab g.bytes e.point) (λ e h. h.is_point) es places);
      in_order = (
        order-pairs p es q (order-linked p 0 marks q h.order),
        All-from_recursion (λ (e : Event). IsShown g.bytes e.point) es (every-map (λ (e : Event). Place g.tab g.bytes e.point) (λ (e : Event). IsShown g.bytes e.point) (λ e h. h.is_shown) es places),
      );
    }

-- and so are those over the virtual bytes of a text
pub text-formed : (g : Given) (text : Text) → IsText g text → (marks : List Mark) → FormsOver AcrossGap g.tab g.bytes marks text.seats → IsWellFormed g (linked_from 0 marks)
text-formed g text is marks forms =
    let p = shown g.bytes text.start in
    formed-well g p marks (end_after p text.seats) (forms p [] (subst (Course AcrossGap g.tab g.bytes p) (sym (append-nil text.seats)) (text-course g text is)))
