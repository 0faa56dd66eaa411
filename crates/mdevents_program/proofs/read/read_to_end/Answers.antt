use Rattle.mdevents_program.proofs.Prelude.{◌++◌, Consumes-trans, err_from_is_err_and}
use Rattle.mdevents_program.proofs.read.read_to_end.Goals as goal

pub returns-in_err-read_more-clause-too_long : goal.returns-in_err-read_more-clause-too_long
returns-in_err-read_more-clause-too_long g c = λ h.
    let (failure, is, same) = err_from_is_err_and c.from_residual.result c.from_residual.ensures.1 in
    let (piece, taken, long) = c.in_err-read_more.ensures.too_long (cc) in
    (c.reading.bytes.items ++ piece, Consumes-trans _ _ _ _ _ c.reading.invariant.taken taken, long)

pub returns-in_err-read_more-clause-failed : goal.returns-in_err-read_more-clause-failed
returns-in_err-read_more-clause-failed g c =
    let (failure, is, same) = err_from_is_err_and c.from_residual.result c.from_residual.ensures.1 in
    let (piece, taken) = c.in_err-read_more.ensures.failed in
    rw is (c.reading.bytes.items ++ piece, Consumes-trans _ _ _ _ _ c.reading.invariant.taken taken)

pub returns-in_err-read_more-clause-within_else : goal.returns-in_err-read_more-clause-within_else
returns-in_err-read_more-clause-within_else g c =
    let (failure, is, same) = err_from_is_err_and c.from_residual.result c.from_residual.ensures.1 in
    rw is (λ other.
    let (piece, taken, within) = c.in_err-read_more.ensures.within_else (λ e. other (cc)) in
    (c.reading.bytes.items ++ piece, Consumes-trans _ _ _ _ _ c.reading.invariant.taken taken, within))

pub returns-clause-all : goal.returns-clause-all
returns-clause-all g c =
    let (piece, is, taken) = c.in_ok-read_more.ensures.appends in
    rw (c.shrink_to_fit.ensures.items, is) (Consumes-trans _ _ _ _ _ c.reading.invariant.taken taken)
