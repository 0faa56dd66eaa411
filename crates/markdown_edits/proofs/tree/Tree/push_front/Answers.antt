use Rattle.markdown_edits.proofs.Prelude.{◌∷◌, List, ap, ◌∙◌, Event, edit_at, edits_of}
use Rattle.markdown_edits.proofs.Edits.Entries.{insert_front}
use Rattle.markdown_edits.proofs.tree.Tree.push_front.Goals as goal

pub returns-clause-ok : goal.returns-clause-ok
returns-clause-ok c =
    let old = c.self.inside.edits.entries in
    ap edits_of (c.in_ok-insert.ensures.entries ∙ insert_front c.args.index old _ (rw (← c.self.view_is) at c.requires))
    ∙ ap (λ (xs : List Event). edit_at c.args.index c.args.remove xs ∷ edits_of old) c.in_ok-additions.ensures.items
    ∙ ap (λ ds. edit_at c.args.index c.args.remove c.args.additions.now ∷ ds) c.self.view_is
