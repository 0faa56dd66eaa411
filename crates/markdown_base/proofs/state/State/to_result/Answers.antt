use Rattle.markdown_base.proofs.state.State.to_result.Goals as goal

-- an error is not `Ok`, and has one message
pub returns-in-Error : goal.returns-in-Error
returns-in-Error c = record { ok = (λ same. cc, λ same. cc); err = λ m. (λ same. cc, λ same. cc) }
