-- Names by the bytes that they begin with: one is found exactly if a name begins so.
use Rattle.mdinline_characters.proofs.Prelude.{◌≡◌, ℕ, ◌++◌, ◌==◌, List, [], ◌∷◌, Bool, true, false, cond, ◌||◌, length, take, refl, sym, ap, ◌∙◌, bytes_eq-Decides, find, list_any, keys_of, lookup, option_or, is_some, Option, None, Some, bytes_eq, eqb-true, Reference, character_references, starts_with, characters_of, first_from, lengths, name_among, of_length}
use Rattle.mdinline_characters.specs.References.{name_from}
use Rattle.mdinline_characters.proofs.Parts.{characters_in_part, no_characters}
use Rattle.mdinline_characters.proofs.Tables.{all_are_listed}

-- what is found passes the test
find-passes : (test : List ℕ → Bool) (names : List (List ℕ)) (name : List ℕ) → find test names ≡ Some name → test name ≡ true
find-passes test [] name h = absurd (cc)
find-passes test (n ∷ ns) name h = of (test n) refl h (find-passes test ns name)
  where
    of : (t : Bool) → test n ≡ t → cond t (Some n) (find test ns) ≡ Some name → (find test ns ≡ Some name → test name ≡ true) → test name ≡ true
    of true e is rest = (let same : n ≡ name = cc in ap test (sym same) ∙ e)
    of false e is rest = rest is

among-passes : (ns : List ℕ) (start name : List ℕ) → name_among ns start ≡ Some name → starts_with start name ≡ true
among-passes [] start name h = absurd (cc)
among-passes (n ∷ ns) start name h = of (first_from (of_length n character_references) start) refl h (among-passes ns start name)
  where
    of : (o : Option (List ℕ)) → first_from (of_length n character_references) start ≡ o → option_or o (name_among ns start) ≡ Some name → (name_among ns start ≡ Some name → starts_with start name ≡ true)
        → starts_with start name ≡ true
    of None e is rest = rest is
    of (Some found) e is rest = find-passes (starts_with start) (keys_of (of_length n character_references)) name (e ∙ is)

-- a name that is found begins with the bytes
pub begins-so : (start name : List ℕ) → name_from start ≡ Some name → take (length start) name ≡ start
unfolding name_from
begins-so start name h = (bytes_eq-Decides (take (length start) name) start).0 (among-passes lengths start name h)

-- where no name is found, there is none that begins so
none-listed : (references : List Reference) (start name : List ℕ) → starts_with start name ≡ true → first_from references start ≡ None → lookup (bytes_eq name) references ≡ None
none-listed [] start name begins h = refl
none-listed (reference ∷ references) start name begins h = of (bytes_eq name reference.0) (starts_with start reference.0) refl refl h (none-listed references start name begins)
  where
    of : (t u : Bool) → bytes_eq name reference.0 ≡ t → starts_with start reference.0 ≡ u → cond u (Some reference.0) (first_from references start) ≡ None
        → (first_from references start ≡ None → lookup (bytes_eq name) references ≡ None)
        → cond (bytes_eq name reference.0) (Some reference.1) (lookup (bytes_eq name) references) ≡ None
    of t true e f is rest = absurd (cc)
    of true false e f is rest = (let same = (bytes_eq-Decides name reference.0).0 e in let no : true ≡ false = sym begins ∙ ap (starts_with start) same ∙ f in absurd (cc))
    of false false e f is rest = ap (λ t. cond t (Some reference.1) (lookup (bytes_eq name) references)) e ∙ rest is

some-among : (ns : List ℕ) (n : ℕ) (start : List ℕ) → list_any (λ m. n == m) ns ≡ true → is_some (first_from (of_length n character_references) start) ≡ true → is_some (name_among ns start) ≡ true
some-among [] n start h found = absurd (cc)
some-among (m ∷ ms) n start h found = of (n == m) refl h (some-among ms n start)
  where
    or-some : (o p : Option (List ℕ)) → is_some o ≡ true → is_some (option_or o p) ≡ true
    or-some None p e = absurd (cc)
    or-some (Some x) p e = refl

    or-later : (o p : Option (List ℕ)) → is_some p ≡ true → is_some (option_or o p) ≡ true
    or-later None p e = e
    or-later (Some x) p e = refl

    of : (t : Bool) → (n == m) ≡ t → (t || list_any (λ m. n == m) ms) ≡ true
        → (list_any (λ m. n == m) ms ≡ true → is_some (first_from (of_length n character_references) start) ≡ true → is_some (name_among ms start) ≡ true)
        → is_some (option_or (first_from (of_length m character_references) start) (name_among ms start)) ≡ true
    of true e is rest = or-some _ _ (ap (λ k. is_some (first_from (of_length k character_references) start)) (sym (eqb-true n m e)) ∙ found)
    of false e is rest = or-later _ _ (rest is found)

begins-itself : (start rest : List ℕ) → take (length start) (start ++ rest) ≡ start
begins-itself [] rest = refl
begins-itself (b ∷ bs) rest = ap (λ l. b ∷ l) (begins-itself bs rest)

-- one is found if a name begins so
pub found-so : (start rest : List ℕ) → is_some (characters_of (start ++ rest)) ≡ true → is_some (name_from start) ≡ true
unfolding name_from
found-so start rest h = listed (list_any (λ m. length (start ++ rest) == m) lengths) (first_from (of_length (length (start ++ rest)) character_references) start) refl refl
  where
    there : first_from (of_length (length (start ++ rest)) character_references) start ≡ None → ⊥
    there e =
        let name = start ++ rest in
        let begins = (bytes_eq-Decides (take (length start) name) start).1 (begins-itself start rest) in
        let part = characters_in_part (length name) (of_length (length name) character_references) name refl refl in
        let none : is_some (characters_of name) ≡ false = ap is_some (sym part) ∙ ap is_some (none-listed (of_length (length name) character_references) start name begins e) in
        let no : true ≡ false = sym h ∙ none in absurd (cc)

    listed : (t : Bool) (o : Option (List ℕ)) → list_any (λ m. length (start ++ rest) == m) lengths ≡ t → first_from (of_length (length (start ++ rest)) character_references) start ≡ o → is_some (name_among lengths start) ≡ true
    listed false o e f = (let no : true ≡ false = sym h ∙ ap is_some (no_characters (λ name. list_any (λ n. length name == n) lengths) (start ++ rest) e all_are_listed) in absurd (cc))
    listed true None e f = absurd (there f)
    listed true (Some name) e f = some-among lengths (length (start ++ rest)) start e (ap is_some f)
