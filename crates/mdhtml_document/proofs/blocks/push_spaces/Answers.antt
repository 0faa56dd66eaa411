use Rattle.std.proofs.Common.{◌∷◌, ◌++◌, ◌-◌, [], ℕ, List, ap, ◌∙◌, arith}
use Rattle.std.specs.List.{repeat}
use Rattle.mdhtml_document.proofs.Steps.{spaces-more}
use Rattle.mdhtml_document.proofs.blocks.push_spaces.Goals as goal

pub loop-left-preserved : goal.loop-left-preserved
loop-left-preserved c =
    ap (λ (x : List ℕ). x ++ repeat (c.loop-left.left - 1) (32 ∷ [])) c.in_ok-push.ensures.items ∙ spaces-more c.loop-left.left c.loop-left.text.items (omega arith) ∙ c.loop-left.invariant
