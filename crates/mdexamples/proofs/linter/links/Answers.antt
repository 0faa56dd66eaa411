use Rattle.std.proofs.Common.{◌≡◌, ◌+◌, ◌<◌, [], ◌∷◌, ◌++◌, drop, length, get_or, sym, ap, ◌∙◌, arith}
use Rattle.std.proofs.lemmas.List.{append_assoc, drop_more, take_rest}
use Rattle.std.specs.Option.{option_to_list}
use Rattle.markdown.proofs.SliceLemmas.{filler}
use Rattle.mdexamples.specs.Linter.{at_each, link_at}
use Rattle.mdexamples.proofs.linter.links.Goals.{in-Some+in_ok-push, in_default}
use Rattle.mdexamples.proofs.linter.links.Goals as goal

pub loop-at-preserved : goal.loop-at-preserved
loop-at-preserved c =
    let bytes = c.args.bytes.now in
    let events = c.args.events.now in
    let at = c.loop-at.at in
    let e = get_or events at filler in
    let rest = at_each (λ e es. link_at bytes events (e ∷ es)) (drop (at + 1) events) in
    let within : at < length events = omega arith in
    let first : drop at events ≡ e ∷ drop (at + 1) events = drop_more events at filler within in
    let is : c.in_ok-link.field-0 ≡ link_at bytes events (e ∷ drop (at + 1) events) = c.in_ok-link.ensures ∙ ap (link_at bytes events) (take_rest events at ∙ first) in
    let whole : at_each (λ e es. link_at bytes events (e ∷ es)) (drop at events) ≡ option_to_list c.in_ok-link.field-0 ++ rest =
    ap (at_each (λ e es. link_at bytes events (e ∷ es))) first ∙ ap (λ o. option_to_list o ++ rest) (sym is) in
    let before = c.loop-at.found.items in
    let front : before ++ (option_to_list c.in_ok-link.field-0 ++ rest) ≡ at_each (λ e es. link_at bytes events (e ∷ es)) events =
    ap (λ ls. before ++ ls) (sym whole) ∙ c.loop-at.invariant in
    elim c.match-branch-3.branch [
      | in-Some+in_ok-push w ↦
          ap (λ v. v.items ++ rest) w.found-is ∙ ap (λ ls. ls ++ rest) w.in_ok-push.ensures.items ∙ append_assoc before (w.in-Some.link ∷ []) rest
          ∙ ap (λ o. before ++ (option_to_list o ++ rest)) (sym w.in-Some.is) ∙ front
      | in_default w ↦ ap (λ v. v.items ++ rest) w.found-is ∙ ap (λ o. before ++ (option_to_list o ++ rest)) (sym w.in_default.is) ∙ front
    ]
