-- Constructs in a list, by their bytes and without states: what is there, and where nothing is.
use Rattle.mdinline_text_machine.proofs.Prelude.{◌≡◌, ℕ, ◌<◌, ◌∷◌, [], List, Bool, true, false, cond, ◌||◌, refl, ◌∙◌, ap, Option, Some, None, Constructs, Construct, Grammar, first_there, grammars_of, some_begins, some_first, if_on, or_else}
use Rattle.std.proofs.lemmas.Bool.{or_parts}

-- what holds of a thing that is there
abbrev pub OfOption : {A : Type 0} → (A → Type 0) → Option A → Type 0
OfOption P None = Unit {0}
OfOption P (Some a) = P a

pub when-there : {A : Type 0} (P : A → Type 0) (b : Bool) (o : Option A) → OfOption P o → OfOption P (cond b o None)
when-there P true o h = h
when-there P false o h = tt

-- of which the test may tell something
pub when-so : {A : Type 0} (P : A → Type 0) (b : Bool) (o : Option A) → (b ≡ true → OfOption P o) → OfOption P (cond b o None)
when-so P true o h = h refl
when-so P false o h = tt

-- nothing is there at a byte that fails the test
pub only-there : {A : Type 0} (b : Bool) (o : Option A) → b ≡ false → cond b o None ≡ None
only-there b o h = ap (λ t. cond t o None) h

-- it holds of what each construct has at the front of a text
abbrev pub EachThere : {A : Type 0} → (A → Type 0) → List (Grammar A) → List ℕ → Type 0
EachThere P [] text = Unit {0}
EachThere P (grammar ∷ grammars) text = OfOption P (grammar.front text) × EachThere P grammars text

or-there : {A : Type 0} (P : A → Type 0) (on : Bool) (o : Option A) (x : A) → OfOption P o → P x → P (or_else (if_on on o) x)
or-there P true None x h i = i
or-there P true (Some y) x h i = h
or-there P false o x h i = i

-- so it holds of the first that is there
pub there-holds : {A : Type 0} (P : A → Type 0) (grammars : List (Grammar A)) (on : Constructs) (text : List ℕ) (other : A) → EachThere P grammars text → P other → P (first_there grammars on text other)
there-holds P [] on text other each h = h
there-holds P (grammar ∷ grammars) on text other each h =
    or-there P (grammar.on on) (grammar.front text) (first_there grammars on text other) each.0 (there-holds P grammars on text other each.1 h)

-- Of a construct: a class begins it exactly if the byte does, nothing of it is there at other bytes, and what is there is a byte at least
pub record IsApart {A W : Type 0} (class : ℕ → W) (size : A → ℕ) (c : Construct A W Unit Unit) : Type 0 where
  pub classed : (b : ℕ) → c.begins (class b) ≡ c.grammar.first b
  pub nowhere : (b : ℕ) (bs : List ℕ) → c.grammar.first b ≡ false → c.grammar.front (b ∷ bs) ≡ None
  pub some : (b : ℕ) (bs : List ℕ) → OfOption (λ a. 0 < size a) (c.grammar.front (b ∷ bs))

abbrev pub AreApart : {A W : Type 0} (class : ℕ → W) (size : A → ℕ) → List (Construct A W Unit Unit) → Type 0
AreApart class size [] = Unit {0}
AreApart class size (c ∷ cs) = IsApart class size c × AreApart class size cs

-- what is not there
pub or-none : {A : Type 0} (on : Bool) (o : Option A) (x : A) → o ≡ None → or_else (if_on on o) x ≡ x
or-none true o x h = ap (λ o. or_else o x) h
or-none false o x h = refl

module _ {A W : Type 0} (class : ℕ → W) (size : A → ℕ) where
  -- where no construct begins, none is
  pub none-there : (cs : List (Construct A W Unit Unit)) → AreApart class size cs → (on : Constructs) (b : ℕ) (bs : List ℕ) (other : A) → some_first (grammars_of cs) b ≡ false
      → first_there (grammars_of cs) on (b ∷ bs) other ≡ other
  none-there [] apart on b bs other h = refl
  none-there (c ∷ cs) apart on b bs other h =
      or-none (c.grammar.on on) (c.grammar.front (b ∷ bs)) (first_there (grammars_of cs) on (b ∷ bs) other)
      (apart.0.nowhere b bs (or_parts (c.grammar.first b) (some_first (grammars_of cs) b) h).0)
      ∙ none-there cs apart.1 on b bs other (or_parts (c.grammar.first b) (some_first (grammars_of cs) b) h).1

  each-some : (cs : List (Construct A W Unit Unit)) → AreApart class size cs → (b : ℕ) (bs : List ℕ) → EachThere (λ a. 0 < size a) (grammars_of cs) (b ∷ bs)
  each-some [] apart b bs = tt
  each-some (c ∷ cs) apart b bs = (apart.0.some b bs, each-some cs apart.1 b bs)

  -- each item is a byte at least
  pub positive : (cs : List (Construct A W Unit Unit)) → AreApart class size cs → (on : Constructs) (b : ℕ) (bs : List ℕ) (other : A) → 0 < size other
      → 0 < size (first_there (grammars_of cs) on (b ∷ bs) other)
  positive cs apart on b bs other h = there-holds (λ a. 0 < size a) (grammars_of cs) on (b ∷ bs) other (each-some cs apart b bs) h

  -- a class begins one of them exactly if the byte does
  pub begins-classed : (cs : List (Construct A W Unit Unit)) → AreApart class size cs → (b : ℕ) → some_begins cs (class b) ≡ some_first (grammars_of cs) b
  begins-classed [] apart b = refl
  begins-classed (c ∷ cs) apart b = λ i. apart.0.classed b i || begins-classed cs apart.1 b i
