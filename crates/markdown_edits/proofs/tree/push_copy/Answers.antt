use Rattle.markdown_edits.proofs.Prelude.{◌++◌, ◌∷◌, [], ap, ◌∙◌, List, map-append, Event, as_edit, edits_of, edit_at}
use Rattle.markdown_edits.proofs.Edits.Entries.{insert_behind}
use Rattle.markdown_edits.proofs.tree.push_copy.Goals as goal

pub returns-clause-ok : goal.returns-clause-ok
returns-clause-ok c =
    let old = c.args.edits.now.entries in
    ap edits_of (c.in_ok-insert.ensures.entries ∙ insert_behind c.args.index old _ c.requires)
    ∙ map-append as_edit old _
    ∙ ap (λ (xs : List Event). edits_of old ++ edit_at c.args.index c.args.edit.now.remove xs ∷ []) (c.in_ok-additions.ensures.items ∙ c.deref.ensures.value)
