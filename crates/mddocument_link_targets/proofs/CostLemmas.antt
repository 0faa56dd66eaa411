-- Finding all definitions is linear.
use Rattle.std.proofs.Common.{◌≡◌, ℕ, zero, suc, ◌+◌, ◌*◌, ◌≤◌, Bool, true, false, cond, List, [], ◌∷◌, ◌++◌, length, take, drop, refl, sym, ap, ◌∙◌, arith}
use Rattle.std.proofs.lemmas.List.{length-append, take-append-drop}
use Rattle.std.specs.List.{list_any}
use Rattle.std.proofs.lemmas.Bool.{or_parts}
use Rattle.markdown_base.specs.declared.event.Event.{Event}
use Rattle.markdown_base.specs.declared.event.Name.TheVariants as name
use Rattle.mddocument_link_targets.specs.Costs.{DefinitionsAreFoundInLinearTime, DefinitionsHoldNone, definitions_cost}
use Rattle.mddocument_link_targets.specs.Spans.{enters, inside, size_from}

abbrev is_one : Event → Bool
is_one e = enters name.Definition e

abbrev charge : Bool → List Event → ℕ
charge b es = cond b (3 * length (inside es) + 2) 0

-- events that enter no definition cost a turn each
plain : (es ys : List Event) → list_any is_one es ≡ false → definitions_cost (es ++ ys) ≡ length es + definitions_cost ys
plain [] ys h = omega arith
plain (e ∷ es) ys h =
    let none = or_parts (is_one e) (list_any is_one es) h in
    let first : charge (is_one e) (es ++ ys) ≡ 0 = ap (λ b. charge b (es ++ ys)) none.0 in
    let more = plain es ys none.1 in
    omega (arith, first, more)

behind : (n : ℕ) (es : List Event) → DefinitionsHoldNone es → DefinitionsHoldNone (drop n es)
behind zero es h = h
behind (suc n) [] h = h
behind (suc n) (e ∷ es) h = behind n es h.1

-- one event on, where shorter lists cost what is said
one-more : (n : ℕ) (e : Event) (es : List Event) → ((zs : List Event) → length zs ≤ n → DefinitionsHoldNone zs → definitions_cost zs ≤ 4 * length zs)
    → length es ≤ n → DefinitionsHoldNone (e ∷ es) → definitions_cost (e ∷ es) ≤ 4 * length (e ∷ es)
one-more n e es shorter m h = by (is_one e) refl
  where
    size : ℕ
    size = size_from 0 es

    by : (b : Bool) → is_one e ≡ b → definitions_cost (e ∷ es) ≤ 4 * length (e ∷ es)
    by true q =
        let d = take size es in
        let after = drop size es in
        let cut : d ++ after ≡ es = take-append-drop size es in
        let sizes : length d + length after ≡ length es = sym (length-append d after) ∙ ap length cut in
        let one : charge (is_one e) es ≡ 3 * length d + 2 = ap (λ b. charge b es) q in
        let whole : definitions_cost es ≡ length d + definitions_cost after = ap definitions_cost (sym cut) ∙ plain d after (h.0 q) in
        let few : length after ≤ n = omega (arith, sizes, m) in
        let rest = shorter after few (behind size es h.1) in
        omega (arith, sizes, one, whole, rest)
    by false q =
        let none : charge (is_one e) es ≡ 0 = ap (λ b. charge b es) q in
        let rest = shorter es m h.1 in
        omega (arith, none, rest)

bounded : (n : ℕ) (es : List Event) → length es ≤ n → DefinitionsHoldNone es → definitions_cost es ≤ 4 * length es
bounded n [] m h = omega arith
bounded zero (e ∷ es) m h = absurd (omega arith)
bounded (suc n) (e ∷ es) m h = one-more n e es (bounded n) (omega arith) h

pub linear : DefinitionsAreFoundInLinearTime
linear es h = bounded (length es) es (omega arith) h
