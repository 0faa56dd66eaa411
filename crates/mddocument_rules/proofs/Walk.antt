-- Walks over events, with the names of the spans around each, of which the innermost comes first.
use Rattle.mddocument_rules.proofs.Prelude.{◌≡◌, Bool, true, cond, List, [], ◌∷◌, ◌++◌, drop, refl, subst, sym, and_from, and_parts, ◌&&◌, AllByRecursion, Event, Kind, Enter, Exit, Name, IsBalanced, empty, is_enter, span, every-back, every-front, all_stand}

-- what is around behind an event
abbrev pub behind_one : Kind → Name → List Name → List Name
behind_one Enter n around = n ∷ around
behind_one Exit n around = drop 1 around

abbrev pub behind_all : List Name → List Event → List Name
behind_all around [] = around
behind_all around (e ∷ es) = behind_all (behind_one e.kind e.name around) es

-- what is asked of an enter is nothing of an exit
abbrev pub IfEnter : Kind → Type 0 → Type 0
IfEnter Enter T = T
IfEnter Exit T = Unit {0}

-- each enter has a property, by what is around it
module _ (P : List Name → Event → Type 0) where
  abbrev pub Walks : List Name → List Event → Type 0
  Walks around [] = Unit {0}
  Walks around (e ∷ es) = IfEnter e.kind (P around e) × Walks (behind_one e.kind e.name around) es

-- what is around has a property from the first event to behind the last
module _ (Ok : List Name → Type 0) where
  abbrev pub Stays : List Name → List Event → Type 0
  Stays around [] = Ok around
  Stays around (e ∷ es) = Ok around × Stays (behind_one e.kind e.name around) es

-- what may stand where, by a test
module _ (may : List Name → Name → Bool) where
  abbrev pub MayBe : List Name → Event → Type 0
  MayBe around e = may around e.name ≡ true

  pub all-walks : (around : List Name) (es : List Event) → all_stand may around es ≡ true → Walks MayBe around es
  all-walks around [] h = tt
  all-walks around (e ∷ es) h =
      elim e.kind as (λ k. cond (is_enter k) (may around e.name && all_stand may (e.name ∷ around) es) (all_stand may (drop 1 around) es) ≡ true
      → ((a : List Name) → all_stand may a es ≡ true → Walks MayBe a es) → IfEnter k (MayBe around e) × Walks MayBe (behind_one k e.name around) es) [
        | Enter ↦ λ s r. (let p = and_parts (may around e.name) (all_stand may (e.name ∷ around) es) s in (p.0, r (e.name ∷ around) p.1))
        | Exit ↦ λ s r. (tt, r (drop 1 around) s)
      ] h (λ a k. all-walks a es k)

  pub walks-all : (around : List Name) (es : List Event) → Walks MayBe around es → all_stand may around es ≡ true
  walks-all around [] h = refl
  walks-all around (e ∷ es) h =
      elim e.kind as (λ k. IfEnter k (MayBe around e) → all_stand may (behind_one k e.name around) es ≡ true
      → cond (is_enter k) (may around e.name && all_stand may (e.name ∷ around) es) (all_stand may (drop 1 around) es) ≡ true) [
        | Enter ↦ λ s r. and_from (may around e.name) (all_stand may (e.name ∷ around) es) s r
        | Exit ↦ λ s r. r
      ] h.0 (walks-all (behind_one e.kind e.name around) es h.1)

-- ---- two lists
pub behind-both : (around : List Name) (xs ys : List Event) → behind_all around (xs ++ ys) ≡ behind_all (behind_all around xs) ys
behind-both around [] ys = refl
behind-both around (e ∷ xs) ys = behind-both (behind_one e.kind e.name around) xs ys

module _ (P : List Name → Event → Type 0) where
  pub walks-both : (around : List Name) (xs ys : List Event) → Walks P around xs → Walks P (behind_all around xs) ys → Walks P around (xs ++ ys)
  walks-both around [] ys h k = k
  walks-both around (e ∷ xs) ys h k = (h.0, walks-both (behind_one e.kind e.name around) xs ys h.1 k)

  pub walks-split : (around : List Name) (xs ys : List Event) → Walks P around (xs ++ ys) → Walks P around xs × Walks P (behind_all around xs) ys
  walks-split around [] ys h = (tt, h)
  walks-split around (e ∷ xs) ys h = let r = walks-split (behind_one e.kind e.name around) xs ys h.1 in ((h.0, r.0), r.1)

module _ (Ok : List Name → Type 0) where
  pub stays-both : (around : List Name) (xs ys : List Event) → Stays Ok around xs → Stays Ok (behind_all around xs) ys → Stays Ok around (xs ++ ys)
  stays-both around [] ys h k = k
  stays-both around (e ∷ xs) ys h k = (h.0, stays-both (behind_one e.kind e.name around) xs ys h.1 k)

  pub stays-first : (around : List Name) (xs : List Event) → Stays Ok around xs → Ok around
  stays-first around [] h = h
  stays-first around (e ∷ xs) h = h.0

  pub stays-behind : (around : List Name) (xs ys : List Event) → Stays Ok around (xs ++ ys) → Stays Ok (behind_all around xs) ys
  stays-behind around [] ys h = h
  stays-behind around (e ∷ xs) ys h = stays-behind (behind_one e.kind e.name around) xs ys h.1

-- ---- balanced lists
pub behind-balanced : {xs : List Event} → IsBalanced xs → (around : List Name) → behind_all around xs ≡ around
behind-balanced empty around = refl
behind-balanced (span e f xs ys is en ex same b c) around = rw (is, en, behind-both (e.name ∷ around) xs (f ∷ ys), behind-balanced b (e.name ∷ around), ex) (behind-balanced c around)

-- a span, by what is in it and what is behind it
module _ (P : List Name → Event → Type 0) (e f : Event) (xs ys : List Event) {l : List Event} (is : l ≡ e ∷ (xs ++ f ∷ ys)) (en : e.kind ≡ Enter) (ex : f.kind ≡ Exit) (b : IsBalanced xs) (around : List Name) where
  pub walks-span : P around e → Walks P (e.name ∷ around) xs → Walks P around ys → Walks P around l
  walks-span here within behind =
      let rest : Walks P (behind_all (e.name ∷ around) xs) (f ∷ ys) = rw (behind-balanced b (e.name ∷ around), ex) (tt, behind) in
      let all : Walks P (e.name ∷ around) (xs ++ f ∷ ys) = walks-both P (e.name ∷ around) xs (f ∷ ys) within rest in
      let enters : IfEnter e.kind (P around e) = subst (λ (k : Kind). IfEnter k (P around e)) (sym en) here in
      let behind_enter : Walks P (behind_one e.kind e.name around) (xs ++ f ∷ ys) = subst (λ (k : Kind). Walks P (behind_one k e.name around) (xs ++ f ∷ ys)) (sym en) all in
      subst (Walks P around) (sym is) (enters, behind_enter)

  pub span-walks : Walks P around l → P around e × Walks P (e.name ∷ around) xs × Walks P around ys
  span-walks h =
      let whole = subst (Walks P around) is h in
      let here : P around e = subst (λ (k : Kind). IfEnter k (P around e)) en whole.0 in
      let inside : Walks P (e.name ∷ around) (xs ++ f ∷ ys) = subst (λ (k : Kind). Walks P (behind_one k e.name around) (xs ++ f ∷ ys)) en whole.1 in
      let parts = walks-split P (e.name ∷ around) xs (f ∷ ys) inside in
      let last : Walks P (e.name ∷ around) (f ∷ ys) = subst (λ (a : List Name). Walks P a (f ∷ ys)) (behind-balanced b (e.name ∷ around)) parts.1 in
      let behind : Walks P around ys = subst (λ (k : Kind). Walks P (behind_one k f.name (e.name ∷ around)) ys) ex last.1 in
      (here, parts.0, behind)

module _ (Ok : List Name → Type 0) (e f : Event) (xs ys : List Event) {l : List Event} (is : l ≡ e ∷ (xs ++ f ∷ ys)) (en : e.kind ≡ Enter) (ex : f.kind ≡ Exit) (b : IsBalanced xs) (around : List Name) where
  pub stays-span : Ok around → Stays Ok (e.name ∷ around) xs → Stays Ok around ys → Stays Ok around l
  stays-span ok within behind =
      let rest : Stays Ok (behind_all (e.name ∷ around) xs) (f ∷ ys) = rw (behind-balanced b (e.name ∷ around), ex) (stays-first Ok (e.name ∷ around) xs within, behind) in
      let all : Stays Ok (e.name ∷ around) (xs ++ f ∷ ys) = stays-both Ok (e.name ∷ around) xs (f ∷ ys) within rest in
      rw (is, en) (ok, all)

-- what is asked of each event alone may be added
module _ (P R : List Name → Event → Type 0) (Q : Event → Type 0) (both : (around : List Name) (e : Event) → P around e → Q e → R around e) where
  pub walks-and : (around : List Name) (es : List Event) → Walks P around es → AllByRecursion Q es → Walks R around es
  walks-and around [] h k = tt
  walks-and around (e ∷ es) h k = (enters e.kind h.0, walks-and (behind_one e.kind e.name around) es h.1 k.1)
    where
      enters : (kind : Kind) → IfEnter kind (P around e) → IfEnter kind (R around e)
      enters Enter p = both around e p k.0
      enters Exit p = tt

-- Names that may stand in any such place, and in which any of them may stand
module _ (P : List Name → Event → Type 0) (Ok : List Name → Type 0) (Free : Event → Type 0) (may : (around : List Name) (e : Event) → Ok around → Free e → P around e)
    (inside : (around : List Name) (e : Event) → Ok around → Free e → Ok (e.name ∷ around)) where
  pub free-walks : {xs : List Event} → IsBalanced xs → AllByRecursion Free xs → (around : List Name) → Ok around → Walks P around xs
  free-walks empty h around ok = tt
  free-walks (span e f xs ys is en ex same b c) h around ok =
      let h2 : AllByRecursion Free (e ∷ (xs ++ f ∷ ys)) = subst (AllByRecursion Free) is h in
      let within = free-walks b (every-front Free xs (f ∷ ys) h2.1) (e.name ∷ around) (inside around e ok h2.0) in
      let behind = free-walks c (every-back Free xs (f ∷ ys) h2.1).1 around ok in
      walks-span P e f xs ys is en ex b around (may around e ok h2.0) within behind

-- what stays in place, whatever is entered
module _ (Ok : List Name → Type 0) (Low : Event → Type 0) (inside : (around : List Name) (e : Event) → Low e → Ok (e.name ∷ around)) where
  pub low-stays : {xs : List Event} → IsBalanced xs → AllByRecursion Low xs → (around : List Name) → Ok around → Stays Ok around xs
  low-stays empty h around ok = ok
  low-stays (span e f xs ys is en ex same b c) h around ok =
      let h2 : AllByRecursion Low (e ∷ (xs ++ f ∷ ys)) = subst (AllByRecursion Low) is h in
      let within = low-stays b (every-front Low xs (f ∷ ys) h2.1) (e.name ∷ around) (inside around e h2.0) in
      let behind = low-stays c (every-back Low xs (f ∷ ys) h2.1).1 around ok in
      stays-span Ok e f xs ys is en ex b around ok within behind
