use Rattle.mddocument_editing.proofs.Prelude.{◌≡◌, IfOk, min, length, take, drop, ap, ◌∙◌, subst}
use Rattle.std.proofs.Common.{rules}
use Rattle.mddocument_link_targets.specs.declared.targets.Target.{Target}
use Rattle.mddocument_link_targets.specs.Targets.{label_by, target_behind}
use Rattle.mddocument_editing.proofs.ExitSteps.{own-there, size-within, tail-there}
use Rattle.mddocument_editing.proofs.linking.label_behind_enter.Goals as goal

pub slice_bounds-behind_first-end : goal.slice_bounds-behind_first-end
slice_bounds-behind_first-end c = let within = size-within 0 c.args.behind.now in grind (rules, within)

pub returns : goal.returns
returns c =
    let behind = c.args.behind.now in
    let rest = c.behind_first-rest.result.now in
    let size = c.args.own_size in
    let own = c.split_at.ensures.front ∙ ap (λ n. take n rest) c.min.ensures ∙ ap (λ es. take (min size (length es)) es) c.behind_first-rest.ensures ∙ own-there behind c.requires.size c.requires.own_size in
    let tail =
    c.behind_first.ensures
    ∙ ap (drop 1) c.split_at.ensures.back
    ∙ ap (λ n. drop 1 (drop n rest)) c.min.ensures
    ∙ ap (λ es. drop 1 (drop (min size (length es)) es)) c.behind_first-rest.ensures
    ∙ tail-there behind c.requires.size c.requires.own_size
    in
    subst (λ (t : Target). IfOk c.label_behind.result (λ label. label ≡ label_by t)) (λ i. target_behind c.args.bytes.now (own i) (tail i)) c.label_behind.ensures
