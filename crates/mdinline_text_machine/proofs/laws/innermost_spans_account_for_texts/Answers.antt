use Rattle.mdinline_text_machine.proofs.Prelude.{◌++◌, [], refl, sym, ◌∙◌, subst, append-nil, AccountFor}
use Rattle.mdinline_text_machine.proofs.DeepSpans.Atoms.{events_of, seats_of, atoms-more}
use Rattle.mdinline_text_machine.proofs.DeepSpans.TextCuts.{text-cut}
use Rattle.mdinline_text_machine.proofs.laws.innermost_spans_account_for_texts.Goals as goal

pub returns : goal.returns
returns c g text =
    let h = text-cut g text in
    let account = atoms-more g.bytes h.atoms [] [] (record { stretches = []; are_all = refl; are_innermost = refl }) in
    subst (λ es. AccountFor es g.bytes text.seats) (append-nil (events_of g.bytes h.atoms) ∙ sym h.are)
    (subst (AccountFor (events_of g.bytes h.atoms ++ []) g.bytes) (append-nil (seats_of h.atoms) ∙ sym h.all) account)
