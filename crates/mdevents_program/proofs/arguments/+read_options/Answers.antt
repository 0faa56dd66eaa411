use Rattle.mdevents_program.proofs.Prelude.{◌≡◌, ℕ, List, [], ◌∷◌, true, false, refl, sym, ap, ◌∙◌, map, string_bytes, codes, bytes_eq, SoFar, with_value, chosen_after}
use Rattle.mdevents_program.proofs.arguments.+read_options.Goals as goal

deep-chosen : (so_far : SoFar) (option : List ℕ) (rest : List (List ℕ)) → bytes_eq option (codes "--deep") ≡ true → so_far.deep ≡ false
    → chosen_after so_far (option ∷ rest) ≡ chosen_after (record { cut = so_far.cut; deep = true; machine = so_far.machine; tab = so_far.tab }) rest
deep-chosen so_far option [] e f = rw (e, f) refl
deep-chosen so_far option (word ∷ rest) e f = rw (e, f) refl

pub returns-then-eq-clause-chosen : goal.returns-then-eq-clause-chosen
returns-then-eq-clause-chosen t c =
    let are = c.in-Some.ensures.cases.0 in
    let named = ap (λ o. bytes_eq o (codes "--deep")) (sym c.as_str-option.ensures.value) ∙ sym c.eq.ensures ∙ c.if-eq.true in
    rw are (c.read_options.ensures.chosen ∙ sym (deep-chosen c.args.so_far (string_bytes c.in-Some.option.now) (map string_bytes c.in-Some.rest.now) named c.if-so_far.false))

pub returns-clause-chosen : goal.returns-clause-chosen
returns-clause-chosen t c =
    let are = c.in-Some.ensures.cases.0 in
    let behind = c.in_ok-value.ensures.cases.0 in
    let named = ap (λ o. bytes_eq o (codes "--deep")) (sym c.as_str-option.ensures.value) ∙ sym c.eq.ensures ∙ c.if-eq.false in
    let value = ap (λ o. with_value c.args.so_far o (string_bytes c.in_ok-value.value.now)) (sym c.as_str-option.ensures.value)
    ∙ ap (with_value c.args.so_far c.as_str-option.result.now) (sym c.as_str.ensures.value) ∙ sym c.in_ok-so_far.ensures.value in
    rw (are, behind, named, value) c.read_options-2.ensures.chosen
