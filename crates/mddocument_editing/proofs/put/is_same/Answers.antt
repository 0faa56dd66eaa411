use Rattle.mddocument_editing.proofs.Prelude.{sym, ◌∙◌}
use Rattle.mddocument_editing.proofs.put.is_same.Goals as goal

pub returns : goal.returns
returns c =
    let one = c.equal_events_are_one.ensures c.args.one.now c.args.other.now in
    ((λ same. one.0 (sym c.eq.ensures ∙ same)), (λ same. c.eq.ensures ∙ one.1 same))
