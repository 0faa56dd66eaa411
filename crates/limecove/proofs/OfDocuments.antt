-- Options with tables, literals, checks or footnotes choose whole documents.
use Rattle.std.proofs.Common.{◌≡◌, ℕ, Bool, true, false, cond, Option, Some, None, refl, sym, ap, subst, arith, eqb-true, ltb-true}
use Rattle.std.proofs.lemmas.Bool.{false≢true}
use Rattle.std.proofs.lemmas.Bool.Decides.{nat_tests}
use Rattle.std.specs.declared.result.Result.TheVariants.{Ok, Err}
use Rattle.std.specs.Option.{option_map_or}
use Rattle.std.specs.Prelude.{◌&&◌, ◌||◌, nat_eq, is_ok, Result}
use Rattle.mdconstructs.specs.Choices.{choice_together}
use Rattle.mdconstructs.specs.declared.choice.Choice.{Choice}
use Rattle.mdconstructs.specs.declared.choice.Which.TheVariants.{Document}
use Rattle.limecove.specs.Choices.{are_constructs, are_html_constructs, are_of_documents, cut_of, have_constructs, is_yes, links_no_text, machine_of, no_such_construct, no_such_machine, no_such_tab_size, other_size, tab_of, together}
use Rattle.limecove.specs.Records.{RewrittenAreDocuments}

-- the second of two, if not the first
other : (a b c : Bool) → a ≡ false → (a || (b && c)) ≡ true → b ≡ true
other true b c h k = absurd (false≢true (sym h))
other false true c h k = refl
other false false c h k = absurd (false≢true k)

both : (a b : Bool) → (a && b) ≡ true → (a ≡ true) × (b ≡ true)
both true b h = (refl, h)
both false b h = absurd (false≢true h)

pub rewritten-are-documents : RewrittenAreDocuments
rewritten-are-documents options choice h k = by (nat_eq options.size 40) (tab_of options.tab_size) (have_constructs options) refl h
  where
    whole : have_constructs options ≡ true → (options.machine ≡ 8) × (is_yes options.deep ≡ true)
    whole q =
        let more = ltb-true 2097151 options.constructs k in
        let none : are_constructs options.constructs ≡ false = grind (arith, nat_tests) in
        let is = both (nat_eq options.machine 8) (is_yes options.deep) (other (are_constructs options.constructs) (are_of_documents options) (are_html_constructs options.constructs) none q) in
        (eqb-true options.machine 8 is.0, is.1)

    left : Result Choice ℕ → Choice
    left (Ok c) = c
    left (Err e) = choice

    of-machine : (t : ℕ) → together options t ≡ Ok choice → (options.machine ≡ 8) × (is_yes options.deep ≡ true) → (choice.machine ≡ Document) × (choice.deep ≡ true)
    of-machine t q is =
        let one = subst (λ m. option_map_or (λ which. option_map_or Ok (choice_together (cut_of options.cut) (is_yes options.deep) which t) (Err links_no_text)) (machine_of m) (Err no_such_machine) ≡ Ok choice) is.0 q in
        let two = subst (λ d. option_map_or Ok (choice_together (cut_of options.cut) d Document t) (Err links_no_text) ≡ Ok choice) is.1 one in
        (sym (ap (λ r. (left r).machine) two), sym (ap (λ r. (left r).deep) two))

    by : (s : Bool) (o : Option ℕ) (b : Bool) → have_constructs options ≡ b
        → cond s (option_map_or (λ t. cond b (together options t) (Err no_such_construct)) o (Err no_such_tab_size)) (Err other_size) ≡ Ok choice → (choice.machine ≡ Document) × (choice.deep ≡ true)
    by false o b q e = absurd (false≢true (ap is_ok e))
    by true None b q e = absurd (false≢true (ap is_ok e))
    by true (Some t) false q e = absurd (false≢true (ap is_ok e))
    by true (Some t) true q e = of-machine t e (whole q)
