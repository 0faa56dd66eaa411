-- Sums over labels of which no two are the same; those of notes are such.
use Rattle.std.proofs.Common.{◌≡◌, ◌∙◌, ℕ, suc, ◌+◌, ◌≤◌, Bool, true, false, cond, List, [], ◌∷◌, ◌++◌, length, ap, sym, refl, arith, Option, None, Some}
use Rattle.std.proofs.lemmas.Bool.{or_parts, false≢true}
use Rattle.std.proofs.lemmas.Slice.Eq.{bytes_eq-Decides}
use Rattle.std.specs.List.{list_any}
use Rattle.std.specs.Option.{option_map_or}
use Rattle.std.specs.Prelude.{◌||◌, bytes_eq, ⊤}
use Rattle.mdhtml_document.specs.declared.notes.Called.{Called}
use Rattle.mdhtml_document.specs.Notes.{is_among, last_call, next_call, notes_of}

abbrev pub sum : (List ℕ → ℕ) → List (List ℕ) → ℕ
sum f [] = 0
sum f (k ∷ ks) = f k + sum f ks

abbrev pub AreDistinct : List (List ℕ) → Type 0
AreDistinct [] = ⊤
AreDistinct (k ∷ ks) = (is_among k ks ≡ false) × AreDistinct ks

turn : (k l : List ℕ) → bytes_eq k l ≡ false → bytes_eq l k ≡ false
turn k l h = by (bytes_eq l k) refl
  where
    by : (b : Bool) → bytes_eq l k ≡ b → b ≡ false
    by false e = refl
    by true e = absurd (false≢true (sym h ∙ (bytes_eq-Decides k l).1 (sym ((bytes_eq-Decides l k).0 e))))

module _ (x : List ℕ) (c : ℕ) (f g : List ℕ → ℕ) (at : (k : List ℕ) → bytes_eq k x ≡ true → f k ≤ g k + c) (apart : (k : List ℕ) → bytes_eq k x ≡ false → f k ≤ g k) where
  -- behind the one that is the same no other is
  none : (k : List ℕ) (ks : List (List ℕ)) → bytes_eq k x ≡ true → is_among k ks ≡ false → sum f ks ≤ sum g ks
  none k [] e h = omega arith
  none k (l ∷ ls) e h =
      let parts = or_parts (bytes_eq k l) (is_among k ls) h in
      let other : bytes_eq l x ≡ false = ap (bytes_eq l) (sym ((bytes_eq-Decides k x).0 e)) ∙ turn k l parts.0 in
      let here = apart l other in
      let rest = none k ls e parts.1 in
      omega (arith, here, rest)

  once-by : (k : List ℕ) (ks : List (List ℕ)) (b : Bool) → bytes_eq k x ≡ b → is_among k ks ≡ false → sum f ks ≤ sum g ks + c → sum f (k ∷ ks) ≤ sum g (k ∷ ks) + c
  once-by k ks true e h more =
      let here = at k e in
      let rest = none k ks e h in
      omega (arith, here, rest)
  once-by k ks false e h more = let here = apart k e in omega (arith, here, more)

  -- of labels of which no two are the same, one is
  pub once : (ks : List (List ℕ)) → AreDistinct ks → sum f ks ≤ sum g ks + c
  once [] h = omega arith
  once (k ∷ ks) h = once-by k ks (bytes_eq k x) refl h.0 (once ks h.1)

-- ---- notes

any-behind : (P : List ℕ → Bool) (xs : List (List ℕ)) (y : List ℕ) → list_any P xs ≡ false → P y ≡ false → list_any P (xs ++ y ∷ []) ≡ false
any-behind P [] y h k = ap (λ b. b || false) k
any-behind P (x ∷ xs) y h k =
    let parts = or_parts (P x) (list_any P xs) h in
    ap (λ b. b || list_any P (xs ++ y ∷ [])) parts.0 ∙ any-behind P xs y parts.1 k

among-by : (c : Bool) (l k : List ℕ) (ks : List (List ℕ)) → is_among l ks ≡ false → bytes_eq l k ≡ false → is_among l (cond c ks (ks ++ k ∷ [])) ≡ false
among-by true l k ks h e = h
among-by false l k ks h e = any-behind (bytes_eq l) ks k h e

among-notes : (l : List ℕ) (ls : List (List ℕ)) → is_among l ls ≡ false → is_among l (notes_of ls) ≡ false
among-notes l [] h = refl
among-notes l (k ∷ ks) h =
    let parts = or_parts (bytes_eq l k) (is_among l ks) h in
    among-by (is_among k ks) l k (notes_of ks) (among-notes l ks parts.1) parts.0

distinct-behind : (ks : List (List ℕ)) (l : List ℕ) → AreDistinct ks → is_among l ks ≡ false → AreDistinct (ks ++ l ∷ [])
distinct-behind [] l h e = (refl, tt)
distinct-behind (k ∷ ks) l h e =
    let parts = or_parts (bytes_eq l k) (is_among l ks) e in
    (any-behind (bytes_eq k) ks l h.0 (turn l k parts.0), distinct-behind ks l h.1 parts.1)

distinct-by : (l : List ℕ) (ls : List (List ℕ)) (c : Bool) → is_among l ls ≡ c → AreDistinct (notes_of ls) → AreDistinct (cond c (notes_of ls) (notes_of ls ++ l ∷ []))
distinct-by l ls true e h = h
distinct-by l ls false e h = distinct-behind (notes_of ls) l h (among-notes l ls e)

pub notes-distinct : (ls : List (List ℕ)) → AreDistinct (notes_of ls)
notes-distinct [] = tt
notes-distinct (l ∷ ls) = distinct-by l ls (is_among l ls) refl (notes-distinct ls)

-- how often a label is called
abbrev pub often : (called : List (List ℕ)) → (label : List ℕ) → ℕ
often called label = option_map_or (λ c. c.repeat) (last_call label called) 0

one-more : (last : Option Called) (notes : ℕ) → (next_call last notes).repeat ≡ suc (option_map_or (λ c. c.repeat) last 0)
one-more None notes = refl
one-more (Some c) notes = refl

often-by : (b : Bool) (c : Called) (last : Option Called) → option_map_or (λ d. d.repeat) (cond b (Some c) last) 0 ≡ cond b c.repeat (option_map_or (λ d. d.repeat) last 0)
often-by true c last = refl
often-by false c last = refl

zeros : (ks : List (List ℕ)) → sum (often []) ks ≡ 0
zeros [] = refl
zeros (k ∷ ks) = let h = zeros ks in omega (arith, h)

-- all together as often as there are calls
pub calls-often : (ls ks : List (List ℕ)) → AreDistinct ks → sum (often ls) ks ≤ length ls
calls-often [] ks h = let none = zeros ks in omega (arith, none)
calls-often (l ∷ ls) ks h =
    let rest = calls-often ls ks h in
    let more = once l 1 (often (l ∷ ls)) (often ls) (λ k e. same k e) (λ k e. other k e) ks h in
    omega (arith, rest, more)
  where
    here : (k : List ℕ) → often (l ∷ ls) k ≡ cond (bytes_eq k l) (suc (often ls k)) (often ls k)
    here k =
        let last = last_call k ls in
        often-by (bytes_eq k l) (next_call last (length (notes_of ls))) last ∙ ap (λ n. cond (bytes_eq k l) n (often ls k)) (one-more last (length (notes_of ls)))

    same : (k : List ℕ) → bytes_eq k l ≡ true → often (l ∷ ls) k ≤ often ls k + 1
    same k e = let is = here k ∙ ap (λ b. cond b (suc (often ls k)) (often ls k)) e in omega (arith, is)

    other : (k : List ℕ) → bytes_eq k l ≡ false → often (l ∷ ls) k ≤ often ls k
    other k e = let is = here k ∙ ap (λ b. cond b (suc (often ls k)) (often ls k)) e in omega (arith, is)
