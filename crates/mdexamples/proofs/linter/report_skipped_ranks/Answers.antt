use Rattle.std.proofs.Common.{◌≡◌, ◌-◌, ◌≤◌, List, [], ◌∷◌, ◌++◌, drop, length, refl, sym, ap, ◌∙◌, arith}
use Rattle.std.proofs.lemmas.List.{append-nil, length-drop}
use Rattle.mdexamples.specs.declared.linter.Heading.{Heading}
use Rattle.mdexamples.specs.Linter.{skipped_ranks}
use Rattle.mdexamples.proofs.linter.report_skipped_ranks.Goals as goal

-- the last heading is before no other
last : (hs : List Heading) → length hs ≤ 1 → skipped_ranks hs ≡ []
last [] h = refl
last (a ∷ []) h = refl
last (a ∷ b ∷ hs) h = absurd (omega (arith, h))

pub returns : goal.returns
returns c =
    let hs = c.args.headings.now in
    let at = c.loop-at.at in
    let few : length (drop (at - 1) hs) ≤ 1 = omega (arith, length-drop (at - 1) hs) in
    sym (append-nil c.loop-at.found.items) ∙ ap (λ ps. c.loop-at.found.items ++ ps) (sym (last (drop (at - 1) hs) few)) ∙ c.loop-at.invariant
