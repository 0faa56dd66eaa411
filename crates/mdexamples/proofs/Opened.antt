-- In a balanced list each exit has an earlier enter of its name, and the nearest is found.
use Rattle.std.proofs.Common.{◌≡◌, ℕ, zero, suc, ◌+◌, ◌<◌, Bool, true, false, cond, List, [], ◌∷◌, ◌++◌, Option, Some, None, ◌⊎◌, inl, inr, length, take, refl, sym, ap, ◌∙◌, subst, arith, get_or}
use Rattle.std.proofs.lemmas.List.{reverse-append}
use Rattle.std.proofs.lemmas.List.Elements.{recursion_from_All}
use Rattle.std.proofs.lemmas.List.Folds.{find-append}
use Rattle.std.specs.Option.{option_or}
use Rattle.std.specs.Prelude.{◌&&◌, All, find, option_and_then, option_map, reverse, slice_get}
use Rattle.markdown.specs.declared.event.Event.{Event}
use Rattle.markdown.specs.declared.event.Kind.{Kind}
use Rattle.markdown.specs.declared.event.Kind.TheVariants.{Enter, Exit}
use Rattle.markdown.specs.declared.event.Point.{Point}
use Rattle.markdown.specs.Events.{IsBalanced, IsInOrder, empty, span, is_enter, same_name}
use Rattle.markdown.specs.AtPlaces.{AreAtPlaces}
use Rattle.markdown.specs.Places.{IsPointOf, stands_before}
use Rattle.markdown.specs.Slices.{bytes_between, is_enter_of, nearest_enter}
use Rattle.markdown.proofs.Balanced.{same_name-refl}
use Rattle.markdown.proofs.Common.{get-front, every-get}
use Rattle.markdown_base.proofs.Facts.Lists.{get-take, get-taken}
use Rattle.mdexamples.specs.Texts.{EndsAt, bytes_from, ends_span, text_at, text_if, texts_upto}

-- ---- places in a list

behind : {A : Type 0} (xs : List A) (g : A) (zs : List A) (j : ℕ) → slice_get (xs ++ g ∷ zs) (length xs + suc j) ≡ slice_get zs j
behind [] g zs j = let z : 0 + suc j ≡ suc j = omega arith in ap (slice_get (g ∷ zs)) z
behind (x ∷ xs) g zs j = let z : suc (length xs) + suc j ≡ suc (length xs + suc j) = omega arith in ap (slice_get (x ∷ (xs ++ g ∷ zs))) z ∙ behind xs g zs j

-- where an element of two lists, with one between them, stands
abbrev StandsIn : {A : Type 0} → List A → A → List A → ℕ → A → Type 0
StandsIn xs g zs k f = ((k < length xs) × (slice_get xs k ≡ Some f)) ⊎ ((g ≡ f) ⊎ ((m : ℕ) × (k ≡ length xs + suc m) × (slice_get zs m ≡ Some f)))

stands-in : {A : Type 0} (xs : List A) (g : A) (zs : List A) (k : ℕ) (f : A) → slice_get (xs ++ g ∷ zs) k ≡ Some f → StandsIn xs g zs k f
stands-in [] g zs zero f e = inr (inl cc)
stands-in [] g zs (suc k) f e = inr (inr (k, omega arith, e))
stands-in (x ∷ xs) g zs zero f e = inl (omega arith, e)
stands-in (x ∷ xs) g zs (suc k) f e = elim (stands-in xs g zs k f e) [
  | inl h ↦ (let lt = h.0 in inl (omega (arith, lt), h.1))
  | inr h ↦ inr (elim h [ inl same ↦ inl same | inr m ↦ (let is = m.1 in inr (m.0, omega (arith, is), m.2)) ])
]

pub all-at : {A : Type 0} (P : A → Type 0) (l : List A) (j : ℕ) (q : A) → All P l → slice_get l j ≡ Some q → P q
all-at P l j q h e = every-get P l j q (recursion_from_All P l h) e

got : {A : Type 0} (l : List A) (j : ℕ) (q d : A) → slice_get l j ≡ Some q → (get_or l j d ≡ q) × (j < length l)
got [] j q d e = absurd cc
got (x ∷ l) zero q d e = (cc, omega arith)
got (x ∷ l) (suc j) q d e = let r = got l j q d e in let lt = r.1 in (r.0, omega (arith, lt))

-- ---- searches from the end

module _ {A : Type 0} (p : A → Bool) where
  -- a search from the end looks at what is behind the first element first
  from-end : (x : A) (l : List A) → find p (reverse (x ∷ l)) ≡ option_or (find p (reverse l)) (find p (x ∷ []))
  from-end x l = ap (find p) (reverse-append (x ∷ []) l) ∙ find-append p (reverse l) (x ∷ [])

  -- if an element passes, one is found
  finds : (l : List A) (j : ℕ) (e : A) → slice_get l j ≡ Some e → p e ≡ true → (q : A) × (find p (reverse l) ≡ Some q)
  finds [] j e at h = absurd cc
  finds (x ∷ l) zero e at h =
      let same : x ≡ e = cc in
      let passes : p x ≡ true = ap p same ∙ h in
      let last : find p (x ∷ []) ≡ Some x = rw passes refl in
      by (find p (reverse l)) refl last
    where
      by : (o : Option A) → find p (reverse l) ≡ o → find p (x ∷ []) ≡ Some x → (q : A) × (find p (reverse (x ∷ l)) ≡ Some q)
      by None f last = (x, from-end x l ∙ rw (f, last) refl)
      by (Some r) f last = (r, from-end x l ∙ rw f refl)
  finds (x ∷ l) (suc j) e at h = let r = finds l j e at h in (r.0, from-end x l ∙ ap (λ (o : Option A). option_or o (find p (x ∷ []))) r.1)

  -- what is found is an element
  found-in : (l : List A) (q : A) → find p (reverse l) ≡ Some q → (i : ℕ) × (slice_get l i ≡ Some q)
  found-in [] q h = absurd cc
  found-in (x ∷ l) q h = by (λ r f. found-in l r f) (find p (reverse l)) (p x) refl refl (sym (from-end x l) ∙ h)
    where
      by : ((r : A) → find p (reverse l) ≡ Some r → (i : ℕ) × (slice_get l i ≡ Some r)) → (o : Option A) (b : Bool) → find p (reverse l) ≡ o → p x ≡ b → option_or (find p (reverse l)) (find p (x ∷ [])) ≡ Some q → (i : ℕ) × (slice_get (x ∷ l) i ≡ Some q)
      by inside (Some r) b f g e = (let k : Some r ≡ Some q = rw f at e in let s = inside q (f ∙ k) in (suc s.0, s.1))
      by inside None true f g e = let k : Some x ≡ Some q = rw (f, g) at e in (0, k)
      by inside None false f g e = let k : None ≡ Some q = rw (f, g) at e in absurd cc

-- ---- spans

-- An exit has an earlier enter of its name
record IsOpened (l : List Event) (k : ℕ) (f : Event) : Type 0 where
  place : ℕ
  enter : Event
  before : place < k
  there : slice_get l place ≡ Some enter
  enters : enter.kind ≡ Enter
  named : enter.name ≡ f.name

opened : {l : List Event} → IsBalanced l → (k : ℕ) (f : Event) → slice_get l k ≡ Some f → f.kind ≡ Exit → IsOpened l k f
opened empty k f at exit = absurd cc
opened (span e g us vs {l} is en ex same b c) k f at exit = subst (λ (m : List Event). IsOpened m k f) (sym is)
    (by (λ m at_m. opened b m f at_m exit) (λ m at_m. opened c m f at_m exit) k (sym (ap (λ (m : List Event). slice_get m k) is) ∙ at))
  where
    by : ((m : ℕ) → slice_get us m ≡ Some f → IsOpened us m f) → ((m : ℕ) → slice_get vs m ≡ Some f → IsOpened vs m f) → (n : ℕ) → slice_get (e ∷ (us ++ g ∷ vs)) n ≡ Some f → IsOpened (e ∷ (us ++ g ∷ vs)) n f
    by first second zero h = let one : e ≡ f = cc in let no : Enter ≡ Exit = sym en ∙ ap (λ (x : Event). x.kind) one ∙ exit in absurd cc
    by first second (suc m) h = elim (stands-in us g vs m f h) [
      | inl within ↦ (
          let r = first m within.1 in let lt = within.0 in let below = r.before in
          record { place = suc r.place; enter = r.enter; before = omega (arith, below); there = get-front us (g ∷ vs) r.place (omega (arith, lt, below)) ∙ r.there; enters = r.enters; named = r.named }
          )
      | inr other ↦ elim other [
        | inl one ↦ record { place = 0; enter = e; before = omega arith; there = refl; enters = en; named = sym same ∙ ap (λ (x : Event). x.name) one }
        | inr after ↦ (
            let r = second after.0 after.2 in let where_is = after.1 in let below = r.before in
            record { place = suc (length us + suc r.place); enter = r.enter; before = omega (arith, where_is, below); there = behind us g vs r.place ∙ r.there; enters = r.enters; named = r.named }
            )
      ]
    ]

-- The nearest enter of the name of an exit, which is before it
pub record HasNearest (events : List Event) (index : ℕ) (exit : Event) : Type 0 where
  pub enter : Event
  pub is : nearest_enter events index ≡ Some enter
  pub place : ℕ
  pub before : place < index
  pub there : slice_get events place ≡ Some enter

pub nearest : (events : List Event) (index : ℕ) (exit : Event) → IsBalanced events → slice_get events index ≡ Some exit → exit.kind ≡ Exit → HasNearest events index exit
nearest events index exit balanced at exits =
    let r = opened balanced index exit at exits in
    let p = λ (event : Event). is_enter_of event exit in
    let passes : p r.enter ≡ true = ap (λ (k : _). is_enter k && same_name r.enter.name exit.name) r.enters ∙ ap (λ (n : _). same_name n exit.name) r.named ∙ same_name-refl exit.name in
    let q = finds p (take index events) r.place r.enter (get-take index events r.place r.before ∙ r.there) passes in
    let place = found-in p (take index events) q.0 q.1 in
    let there = get-taken index events place.0 q.0 place.1 in
    record {
      enter = q.0;
      is = ap (option_and_then (λ (x : Event). find (λ (event : Event). is_enter_of event x) (reverse (take index events)))) at ∙ q.1;
      place = place.0;
      before = there.0;
      there = there.1;
    }

-- in a list in order, an earlier event is not behind a later one
pub in-order : (bytes : List ℕ) (events : List Event) → IsInOrder bytes events → (i j : ℕ) (d e : Event) → i < j → slice_get events i ≡ Some d → slice_get events j ≡ Some e → stands_before e.point d.point ≡ false
in-order bytes events order i j d e lt at_d at_e =
    let one = got events i d d at_d in let other = got events j e d at_e in
    let h = order.0 i j d lt other.1 in
    rw (one.0, other.0) at h

-- Between the points of the nearest enter and of the exit that an event is, there is the text of its span
pub record IsSpanAt (tab : ℕ) (bytes : List ℕ) (events : List Event) (index : ℕ) (start end : Point) : Type 0 where
  pub start_is_place : IsPointOf tab bytes start
  pub end_is_place : IsPointOf tab bytes end
  pub ordered : stands_before end start ≡ false
  pub text : bytes_between bytes start end ≡ text_at bytes events index

pub span-at : (tab : ℕ) (bytes : List ℕ) (events : List Event) (index : ℕ) → EndsAt events index → IsBalanced events → AreAtPlaces tab bytes events → IsInOrder bytes events → (start end : Point)
    → option_map (λ (x : Event). x.point) (nearest_enter events index) ≡ Some start → option_map (λ (x : Event). x.point) (slice_get events index) ≡ Some end
    → IsSpanAt tab bytes events index start end
span-at tab bytes events index (exit, at, exits) balanced places order start end s f =
    let n = nearest events index exit balanced at exits in
    let one : n.enter.point ≡ start = (let g : Some n.enter.point ≡ Some start = sym (ap (option_map (λ (x : Event). x.point)) n.is) ∙ s in cc) in
    let other : exit.point ≡ end = (let g : Some exit.point ≡ Some end = sym (ap (option_map (λ (x : Event). x.point)) at) ∙ f in cc) in
    let P = λ (e : Event). IsPointOf tab bytes e.point in
    record {
      start_is_place = subst (IsPointOf tab bytes) one (all-at P events n.place n.enter places n.there);
      end_is_place = subst (IsPointOf tab bytes) other (all-at P events index exit places at);
      ordered = subst (λ (p : Point). stands_before p start ≡ false) other (subst (λ (p : Point). stands_before exit.point p ≡ false) one
          (in-order bytes events order n.place index n.enter exit n.before n.there at));
      text = ap (λ (p : Point). bytes_between bytes p end) (sym one) ∙ ap (bytes_between bytes n.enter.point) (sym other)
          ∙ sym (ap (λ (o : Option Event). bytes_from bytes o (slice_get events index)) n.is ∙ ap (bytes_from bytes (Some n.enter)) at);
    }

-- one more event ends a code span or an autolink, or does not
pub upto-more : (bytes : List ℕ) (events : List Event) (n : ℕ) (e : Event) (b : Bool) → slice_get events n ≡ Some e → ends_span e ≡ b
    → texts_upto bytes events (n + 1) ≡ texts_upto bytes events n ++ cond b (text_at bytes events n ∷ []) []
upto-more bytes events n e b at is =
    let z : n + 1 ≡ suc n = omega arith in
    let front = texts_upto bytes events n in
    ap (texts_upto bytes events) z ∙ ap (λ (o : Option Event). front ++ text_if bytes events n o) at ∙ ap (λ (c : Bool). front ++ cond c (text_at bytes events n ∷ []) []) is

-- what ends a code span or an autolink is an exit
pub ends-exits : (e : Event) → ends_span e ≡ true → e.kind ≡ Exit
ends-exits e h = by e.kind refl
  where
    by : (k : Kind) → e.kind ≡ k → e.kind ≡ Exit
    by Exit f = f
    by Enter f = let no : false ≡ true = rw f at h in absurd cc
