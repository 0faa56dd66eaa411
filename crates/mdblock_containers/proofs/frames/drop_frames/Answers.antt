use Rattle.std.proofs.Common.{◌≡◌, ◌+◌, ◌-◌, ◌++◌, List, length, take, drop, length-drop, ap, ◌∙◌, arith}
use Rattle.std.proofs.lemmas.List.{take_all}
use Rattle.std.proofs.lemmas.List.Edits.{take-paste}
use Rattle.mdblock_containers.specs.declared.frames.Frame.{Frame}
use Rattle.mdblock_containers.proofs.frames.drop_frames.Goals as goal

pub returns : goal.returns
returns c =
    let fs = c.args.frames.now.items in
    let rest = drop c.args.to fs in
    let left = c.len-all.result - c.args.to in
    let all : c.len-all.result ≡ length fs = omega (arith, c.len-all.ensures, c.args.frames.now.ok) in
    let long : length rest ≡ left = omega (arith, length-drop c.args.to fs, all) in
    c.truncate.ensures.items ∙ ap (take (c.args.from + left)) c.copy_within.ensures.items
    ∙ take-paste fs c.args.from rest left (omega (arith, c.requires.order, c.requires.within)) (omega (arith, long))
    ∙ ap (λ (l : List Frame). take c.args.from fs ++ l) (take_all left rest (omega (arith, long)))
