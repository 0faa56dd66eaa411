use Rattle.mdinline_labels.proofs.Prelude.{sym, ◌∙◌, append_assoc, append-nil, IfOk-weaker, IsUtf8-past_char}
use Rattle.mdinline_labels.proofs.CaseSteps.{folded-empty, folded-step, folded-IsAscii}
use Rattle.mdinline_labels.proofs.folding.folded_text.Goals as goal

pub returns-then-is_ascii : goal.returns-then-is_ascii
returns-then-is_ascii c =
    IfOk-weaker c.to_ascii_uppercase.result _ _ (λ t e. e ∙ sym (folded-IsAscii _ c.if-is_ascii.ensures.cases)) c.to_ascii_uppercase.ensures.ok

pub loop-letter-preserved : goal.loop-letter-preserved
loop-letter-preserved c =
    let held = c.loop-letter.invariant in
    let parts = c.in-Some.ensures.steps.0 in
    let step = folded-step _ _ c.in-Some.letter held.0 parts in
    (IsUtf8-past_char _ _ c.in-Some.letter held.0 parts, rw (c.in_ok-push_folded.ensures, append_assoc) (rw step at held.1))

pub returns : goal.returns
returns c = sym (append-nil _) ∙ rw (folded-empty _ c.in-None.ensures.steps.0.0) at c.loop-letter.invariant.1
