-- The references whose names have one length.
use Rattle.mdinline_characters.proofs.Prelude.{◌≡◌, ℕ, List, [], ◌∷◌, Bool, ◌||◌, true, false, ◌==◌, length, refl, sym, ap, ◌∙◌, lookup-filter-keys, bytes_eq-Decides, AllByRecursion, filter, list_any, None, bytes_eq, eq-eqb, eqb-true, Reference, character_references, characters_in, of_length}
use Rattle.mdinline_characters.specs.References.{characters_of}

pub characters_in_part : (n : ℕ) (part : List Reference) (name : List ℕ) → length name ≡ n → part ≡ of_length n character_references → characters_in part name ≡ characters_of name
unfolding characters_of
characters_in_part n part name long is =
    ap (λ references. characters_in references name) is
    ∙ lookup-filter-keys (bytes_eq name) (λ key. length key == n) true (λ key same. eq-eqb _ _ (ap length (sym ((bytes_eq-Decides name key).0 same)) ∙ long)) character_references

-- a name that is not as each name of a reference is
pub no_characters : (is_so : List ℕ → Bool) (name : List ℕ) → is_so name ≡ false → character_references ≡ filter (λ reference. is_so reference.0) character_references → characters_of name ≡ None
unfolding characters_of
no_characters is_so name other is =
    ap (λ references. characters_in references name) is
    ∙ lookup-filter-keys (bytes_eq name) is_so false (λ key same. ap is_so (sym ((bytes_eq-Decides name key).0 same)) ∙ other) character_references

-- a number that is none of these
pub unlisted : (numbers : List ℕ) (n : ℕ) → AllByRecursion (λ m. n ≡ m → ⊥) numbers → list_any (λ m. n == m) numbers ≡ false
unlisted [] n all = refl
unlisted (m ∷ numbers) n all =
    elim (n == m) as (λ t. (n == m) ≡ t → (t || list_any (λ x. n == x) numbers) ≡ false) [
      | true ↦ λ e. absurd (all.0 (eqb-true n m e))
      | false ↦ λ e. unlisted numbers n all.1
    ] refl
