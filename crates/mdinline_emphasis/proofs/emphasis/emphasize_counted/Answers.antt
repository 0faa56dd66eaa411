use Rattle.mdinline_emphasis.proofs.Prelude.{◌≡◌, None, map, length, sym, ap, ◌∙◌, subst, paired, AreApart, AllHaveRoom, standing, index_of, runs_in, as_run, length-map, arith, ends_of_pairs, markers_left}
use Rattle.mdinline_emphasis.proofs.Ends.{ends-take-markers, runs-no-ends}
use Rattle.mdinline_emphasis.proofs.PairsKeep.{pairs-keep, pairs-keep-indices, written-back}
use Rattle.mdinline_emphasis.proofs.RunPlaces.{apart, all-room}
use Rattle.mdinline_emphasis.proofs.RunTexts.{all-runs}
use Rattle.mdinline_emphasis.proofs.emphasis.emphasize_counted.Goals as goal

pub put_edits_counted-requires-clause-apart : goal.put_edits_counted-requires-clause-apart
put_edits_counted-requires-clause-apart g c =
    let rs = runs_in c.args.one_tilde c.args.bytes.now c.args.events.now in
    let items = c.in_ok-runs.runs.items in
    let was = c.as_mut_slice.ensures.value in
    let pairs : map as_run c.pair_counted.new.runs ≡ paired (map as_run items) = c.in_ok-pair_counted.ensures.pairs ∙ ap (λ xs. paired (map as_run xs)) was in
    let is : map as_run c.as_slice.result.now ≡ paired rs =
    ap (map as_run) (c.as_slice.ensures.value ∙ written-back c.pair_counted.new.runs items c.in_ok-runs.runs.len pairs (sym c.as_mut_slice.ensures.len ∙ ap length was)) ∙ pairs ∙ ap paired c.in_ok-runs.ensures.runs in
    subst (AreApart 0) (sym (ap (map index_of) is ∙ pairs-keep-indices rs)) (apart 0 rs c.args.events.now (all-runs c.args.one_tilde c.args.bytes.now c.args.events.now c.requires.balanced))

pub put_edits_counted-requires-clause-room : goal.put_edits_counted-requires-clause-room
put_edits_counted-requires-clause-room g c =
    let rs = runs_in c.args.one_tilde c.args.bytes.now c.args.events.now in
    let items = c.in_ok-runs.runs.items in
    let was = c.as_mut_slice.ensures.value in
    let pairs : map as_run c.pair_counted.new.runs ≡ paired (map as_run items) = c.in_ok-pair_counted.ensures.pairs ∙ ap (λ xs. paired (map as_run xs)) was in
    let is : map as_run c.as_slice.result.now ≡ paired rs =
    ap (map as_run) (c.as_slice.ensures.value ∙ written-back c.pair_counted.new.runs items c.in_ok-runs.runs.len pairs (sym c.as_mut_slice.ensures.len ∙ ap length was)) ∙ pairs ∙ ap paired c.in_ok-runs.ensures.runs in
    subst AllHaveRoom (sym (ap (map standing) is ∙ pairs-keep rs)) (all-room c.args.one_tilde c.args.bytes.now c.args.events.now 0 0 None c.requires.room)

pub returns-clause-linear : goal.returns-clause-linear
returns-clause-linear g c =
    let rs = runs_in c.args.one_tilde c.args.bytes.now c.args.events.now in
    let items = c.in_ok-runs.runs.items in
    let was = c.as_mut_slice.ensures.value in
    let found = c.in_ok-runs.ensures.runs in
    let pairs : map as_run c.pair_counted.new.runs ≡ paired (map as_run items) = c.in_ok-pair_counted.ensures.pairs ∙ ap (λ xs. paired (map as_run xs)) was in
    let back = written-back c.pair_counted.new.runs items c.in_ok-runs.runs.len pairs (sym c.as_mut_slice.ensures.len ∙ ap length was) in
    let is : map as_run c.as_slice.result.now ≡ paired rs = ap (map as_run) (c.as_slice.ensures.value ∙ back) ∙ pairs ∙ ap paired found in
    let many = sym (length-map items as_run) ∙ ap length found in
    let long = ap length was in
    let left = ap (λ xs. markers_left (map as_run xs)) was ∙ ap markers_left found in
    let many' = sym (length-map c.as_slice.result.now as_run) ∙ ap length is ∙ sym (length-map (paired rs) standing) ∙ ap length (pairs-keep rs) ∙ length-map rs standing in
    let ends = ap ends_of_pairs is in
    let take = ends-take-markers rs in
    let none = runs-no-ends c.args.one_tilde c.args.bytes.now c.args.events.now in
    let looked = c.runs_of_counted.ensures.turns in
    let linear = c.pair_counted.ensures.linear in
    let put = c.put_edits_counted.ensures.turns in
    omega (arith, many, long, left, many', ends, take, none, looked, linear, put)
