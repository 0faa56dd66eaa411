use Rattle.mdhtml_program.proofs.Prelude.{◌≡◌, ℕ, List, [], ◌∷◌, Some, true, false, refl, sym, ap, ◌∙◌, map, string_bytes, Choice, chosen_after, stands_alone, with_value, with_word}
use Rattle.mdhtml_program.proofs.arguments.+read_options.Goals as goal

-- behind an option without a value the others choose
word-chosen : (so_far next : Choice) (option : List ℕ) (rest : List (List ℕ)) → stands_alone option ≡ true → with_word so_far option ≡ Some next
    → chosen_after so_far (option ∷ rest) ≡ chosen_after next rest
word-chosen so_far next option [] e f = rw (e, f) refl
word-chosen so_far next option (word ∷ rest) e f = rw (e, f) refl

pub returns-then-stands_alone : goal.returns-then-stands_alone
returns-then-stands_alone t c =
    let are = c.in-Some.ensures.cases.0 in
    let named = sym c.stands_alone.ensures ∙ c.if-stands_alone.true in
    rw are (record { chosen = c.read_options.ensures.chosen ∙ sym (word-chosen c.args.so_far c.in_ok-so_far.so_far (string_bytes c.in-Some.option.now) (map string_bytes c.in-Some.rest.now) named (sym c.in_ok-so_far.ensures)) })

pub returns : goal.returns
returns t c =
    let are = c.in-Some.ensures.cases.0 in
    let behind = c.in_ok-value.ensures.cases.0 in
    let named = sym c.stands_alone.ensures ∙ c.if-stands_alone.false in
    let value = ap (λ o. with_value c.args.so_far o (string_bytes c.in_ok-value.value.now)) (sym c.as_str.ensures.value)
    ∙ ap (with_value c.args.so_far c.as_str.result.now) (sym c.as_str-2.ensures.value) ∙ sym c.in_ok-so_far-2.ensures.value in
    rw (are, behind, named, value) c.read_options-2.ensures
