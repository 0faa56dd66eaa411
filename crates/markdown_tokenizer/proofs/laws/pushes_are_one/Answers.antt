use Rattle.markdown_tokenizer.proofs.Prelude.{subst, Given, IsPushed}
use Rattle.markdown_tokenizer.proofs.Runs.Pushes.{can-push-whole, pushed-whole, pushed-one-way}
use Rattle.markdown_tokenizer.proofs.laws.pushes_are_one.Goals as goal

pub returns : goal.returns
returns g c old mid new a b e d first second third is can one next two =
    let rules = g.M.Machine.rules in
    let same = subst (λ (x : Given). IsPushed (rules old.machine x) mid e d second new third) one.given
    (subst (λ m. IsPushed (rules m mid.given) mid e d second new third) one.machine two) in
    let allowed = can-push-whole (rules old.machine old.given) old mid new a b e d first second third is can one next same in
    let whole = pushed-whole (rules old.machine old.given) old mid new a b e d first second third is can one next same in
    (allowed, whole, pushed-one-way (rules old.machine old.given) old new a d first third allowed whole)
