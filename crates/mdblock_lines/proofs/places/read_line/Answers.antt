use Rattle.std.proofs.Common.{◌≡◌, ◌∙◌, ap, take, drop, length, arith, ◌<◌}
use Rattle.std.specs.List.{prefix_len}
use Rattle.mdblock_lines.specs.Lines.{expanded, is_in_line, line_bytes}
use Rattle.mdblock_lines.proofs.PlaceLemmas.{expanded_is_virtual, expanded_least}
use Rattle.mdblock_lines.proofs.places.read_line.Goals as goal

pub returns-clause-seats : goal.returns-clause-seats
returns-clause-seats g c = λ number.
    let some : 0 < c.get.result = omega (arith, c.get.ensures.least) in
    c.in_ok-expand.ensures.value
    ∙ ap (expanded c.get.result 1) (c.front.ensures.value ∙ ap (λ k. take k c.behind-rest.result.now) c.line_size-n.ensures.value)
    ∙ expanded_is_virtual c.get.result some c.get.ensures.most number 1 c.args.start c.behind-rest.result.now
    ∙ (λ k. line_bytes (c.get.ensures.columns k) number 1 c.args.start (c.behind-rest.ensures.value k))

pub returns-in_err-expand-clause-turns : goal.returns-in_err-expand-clause-turns
returns-in_err-expand-clause-turns g c =
    let some : 0 < c.get.result = omega (arith, c.get.ensures.least) in
    let rest = drop c.args.start c.args.bytes.now in
    let line : c.front.result.now ≡ take (prefix_len is_in_line rest) rest =
    c.front.ensures.value ∙ ap (λ k. take k c.behind-rest.result.now) c.line_size-n.ensures.value ∙ ap (λ l. take (prefix_len is_in_line l) l) c.behind-rest.ensures.value in
    let same : length (expanded c.get.result 1 c.front.result.now) ≡ length (expanded c.args.tab 1 (take (prefix_len is_in_line rest) rest)) = λ k. length (expanded (c.get.ensures.columns k) 1 (line k)) in
    let least = expanded_least c.get.result 1 c.front.result.now some c.get.ensures.most in
    omega (arith, least, same, c.line_size-n.ensures.turns, c.expand.ensures.turns, c.front.ensures.len)

pub returns-clause-turns : goal.returns-clause-turns
returns-clause-turns g c =
    let some : 0 < c.get.result = omega (arith, c.get.ensures.least) in
    let rest = drop c.args.start c.args.bytes.now in
    let line : c.front.result.now ≡ take (prefix_len is_in_line rest) rest =
    c.front.ensures.value ∙ ap (λ k. take k c.behind-rest.result.now) c.line_size-n.ensures.value ∙ ap (λ l. take (prefix_len is_in_line l) l) c.behind-rest.ensures.value in
    let same : length (expanded c.get.result 1 c.front.result.now) ≡ length (expanded c.args.tab 1 (take (prefix_len is_in_line rest) rest)) = λ k. length (expanded (c.get.ensures.columns k) 1 (line k)) in
    let least = expanded_least c.get.result 1 c.front.result.now some c.get.ensures.most in
    omega (arith, least, same, c.line_size-n.ensures.turns, c.expand.ensures.turns, c.front.ensures.len)
