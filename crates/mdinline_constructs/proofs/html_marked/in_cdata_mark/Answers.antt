use Rattle.mdinline_constructs.proofs.Prelude.{◌==◌, ◌≤◌, sym, ap, arith, slice_get_past, codes, sight_of, passes}
use Rattle.mdinline_constructs.proofs.html_marked.in_cdata_mark.Goals as goal

pub returns-in-None-get : goal.returns-in-None-get
returns-in-None-get g c =
    let t = c.args.t.now in
    let past : 5 ≤ t.configuration.local.tokenize_state.size_b = omega (arith, c.in-None-get.ensures.lookup.3, ap (λ v. v.configuration.local.tokenize_state.size_b) c.t.view_is) in
    sym (ap (λ o. passes (λ byte. passes (λ b. b == byte) (sight_of t).current) o) (slice_get_past (codes "CDATA") t.configuration.local.tokenize_state.size_b past))
