use Rattle.markdown_base.proofs.Prelude.{◌≡◌, ◌⊎◌, true, false, List, [], ◌∷◌, sym, refl, ⊎_elim, list_any, true_same, false_same, the_type, Name, same_name, void_names, rules}
use mathlib.Core.Bool.{or-true}
use Rattle.markdown_base.proofs.event.Name.is_void.Goals as goal

-- the name is in a pattern
abbrev IsOneOf : Name → List Name → Type 0
IsOneOf a [] = ⊥
IsOneOf a (n ∷ []) = a ≡ n
IsOneOf a (n ∷ m ∷ ns) = (a ≡ n) ⊎ IsOneOf a (m ∷ ns)

one-is-found : (a : Name) (ns : List Name) → IsOneOf a ns → true ≡ list_any (λ v. same_name v a) ns
one-is-found a [] h = absurd h
one-is-found a (n ∷ []) h = let e : same_name n a ≡ true = true_same the_type n a (sym h) in rw e refl
one-is-found a (n ∷ m ∷ ns) h = ⊎_elim
    (λ here. let e : same_name n a ≡ true = true_same the_type n a (sym here) in rw e refl)
    (λ there. rw (sym (one-is-found a (m ∷ ns) there)) (sym (or-true (same_name n a))))
    h

pub returns-in-AttentionSequence : goal.returns-in-AttentionSequence
returns-in-AttentionSequence c = one-is-found c.args.self void_names c.in-AttentionSequence.is

-- the name is not in a list
abbrev IsNoneOf : Name → List Name → Type 0
IsNoneOf a [] = Unit {0}
IsNoneOf a (n ∷ ns) = (a ≡ n → ⊥) × IsNoneOf a ns

none-is-found : (a : Name) (ns : List Name) → IsNoneOf a ns → false ≡ list_any (λ v. same_name v a) ns
none-is-found a [] h = refl
none-is-found a (n ∷ ns) h = let e : same_name n a ≡ false = false_same the_type tt n a (λ same. h.0 (sym same)) in rw e (none-is-found a ns h.1)

pub returns-in_default : goal.returns-in_default
returns-in_default c =
    let d = c.in_default in none-is-found c.args.self void_names (search rules)
