use Rattle.mdinline_constructs.proofs.Prelude.{[], ap, arith, length, replicate, slice_set, sym, ◌++◌, ◌+◌, ◌-◌, ◌∙◌, ◌∷◌, ◌≡◌, ◌≤◌, ◌<◌, take_all, vec_len, later_of}
use Rattle.mdinline_constructs.proofs.RememberedCode.Runs.{run-added, run-set}
use Rattle.mdinline_constructs.proofs.remembered_code.add_run.Goals as goal

pub returns-then-len-length : goal.returns-then-len-length
returns-then-len-length c =
    let runs = c.args.runs.now.items in
    let k = c.args.length in
    let n = k - vec_len c.args.runs.now in
    let short : length runs ≤ k = omega (arith, c.if-len-length.true, c.len.ensures) in
    let same : k ≡ length runs + n = omega (arith, c.if-len-length.true, c.len.ensures) in
    c.in_ok-push.ensures.items ∙ ap (λ l. l ++ c.seen_at.result ∷ []) (c.in_ok-resize.ensures.items ∙ ap (λ l. l ++ replicate n c.unseen.result) (take_all k runs short))
    ∙ (λ j. (runs ++ replicate n (c.unseen.ensures j)) ++ c.seen_at.ensures j ∷ []) ∙ sym (run-added runs k n c.args.index same)

pub returns : goal.returns
returns c =
    let runs = c.args.runs.now.items in
    let within : c.args.length < length runs = omega (arith, c.if-len-length.false, c.len.ensures) in
    ap (slice_set runs c.args.length) (c.later_of.ensures ∙ ap (λ l. later_of l c.args.index) c.index-last.ensures) ∙ sym (run-set runs c.args.length c.args.index _ within)
