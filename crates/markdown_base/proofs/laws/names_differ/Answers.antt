use Rattle.markdown_base.proofs.Prelude.{◌≡◌, ℕ, ◌<◌, get_or, refl, sym, ap, ◌∙◌, arith, map, range_with_len, get_or-map, get_or-range_with_len, state_names}
use Rattle.markdown_base.specs.declared.state.Name.{Name}
use Rattle.markdown_base.proofs.laws.names_differ.Goals as goal

numbers : map (λ (n : Name). n.number) state_names ≡ range_with_len 0 317
numbers = refl

-- the number of a name is its index
numbered : (i : ℕ) (d : Name) → i < 317 → (get_or state_names i d).number ≡ i
numbered i d within =
    sym (get_or-map (λ (n : Name). n.number) state_names i d 0 within) ∙ ap (λ xs. get_or xs i 0) numbers ∙ get_or-range_with_len 0 317 i 0 within ∙ (omega arith)

pub returns-clause-differ : goal.returns-clause-differ
returns-clause-differ c = λ i j d before within same.
    let one = numbered i d (omega arith) in let other = numbered j d within in
    omega (arith, one, other, ap (λ (n : Name). n.number) same)
