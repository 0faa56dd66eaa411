use Rattle.std.proofs.Common.{[], ◌∷◌, ap}
use Rattle.markdown_base.specs.declared.event.Name.TheVariants.{HeadingSetext, HeadingSetextText}
use Rattle.mdblock_leaf_machine.proofs.HeadingEdits.{first-fits, second-fits, third-fits}
use Rattle.mdblock_leaf_machine.proofs.heading_edits.end_heading.Goals as goal

pub rename_to_two-requires-clause-sum_fits : goal.rename_to_two-requires-clause-sum_fits
rename_to_two-requires-clause-sum_fits g c = first-fits c.args.t.now c.requires _ (ap (λ v. v.configuration.local.tokenize_state.end) c.t.view_is)

pub rename-requires-clause-sum_fits : goal.rename-requires-clause-sum_fits
rename-requires-clause-sum_fits g c =
    second-fits c.args.t.now c.requires _ _ _ (HeadingSetext ∷ HeadingSetextText ∷ []) (ap (λ v. v.configuration.local.tokenize_state.end) c.t.view_is)
    (ap (λ v. v.configuration.local.tokenize_state.start) c.t.view_is) c.in_ok-rename_to_two.ensures

pub rename_to_two-requires-2-clause-sum_fits : goal.rename_to_two-requires-2-clause-sum_fits
rename_to_two-requires-2-clause-sum_fits g c =
    third-fits c.args.t.now c.requires _ _ _ _ _ (HeadingSetext ∷ HeadingSetextText ∷ []) (HeadingSetextText ∷ []) (ap (λ v. v.configuration.local.tokenize_state.end) c.t.view_is)
    (ap (λ v. v.configuration.local.tokenize_state.start) c.t.view_is) c.last_event-third.ensures c.in_ok-rename_to_two.ensures c.in_ok-rename.ensures
