use Rattle.std.proofs.lemmas.Result.{IfOk-weaker}
use Rattle.mdinline_emphasis.proofs.Prelude.{◌≡◌, None, map, length, sym, ap, ◌∙◌, subst, edited, edits_of, paired, AreDisjoint, AllHaveRoom, standing, runs_in, as_run, length-map, arith, ends_of_pairs, markers_left}
use Rattle.mdinline_emphasis.proofs.Ends.{ends-take-markers, runs-no-ends}
use Rattle.mdinline_emphasis.proofs.PairsKeep.{pairs-keep, written-back}
use Rattle.mdinline_emphasis.proofs.RunEdits.{emphasis-can-be-made}
use Rattle.mdinline_emphasis.proofs.RunPlaces.{all-room}
use Rattle.mdinline_emphasis.proofs.emphasis.emphasized_counted.Goals as goal

pub placed_counted-requires-clause-disjoint : goal.placed_counted-requires-clause-disjoint
placed_counted-requires-clause-disjoint g c =
    let rs = runs_in c.args.one_tilde c.args.bytes.now c.args.events.now in
    let items = c.in_ok-delimiters.delimiters.items in
    let was = c.as_mut_slice.ensures.value in
    let pairs : map as_run c.pair_counted.new.runs ≡ paired (map as_run items) = c.in_ok-pair_counted.ensures.pairs ∙ ap (λ xs. paired (map as_run xs)) was in
    let is : map as_run c.as_slice.result.now ≡ paired rs =
    ap (map as_run) (c.as_slice.ensures.value ∙ written-back c.pair_counted.new.runs items c.in_ok-delimiters.delimiters.len pairs (sym c.as_mut_slice.ensures.len ∙ ap length was)) ∙ pairs ∙ ap paired c.in_ok-delimiters.ensures.runs in
    subst (λ ps. AreDisjoint 0 (edits_of ps) (length c.args.events.now)) (sym is) (emphasis-can-be-made c.args.one_tilde c.args.bytes.now c.args.events.now c.requires.balanced c.requires.unlinked).0

pub placed_counted-requires-clause-room : goal.placed_counted-requires-clause-room
placed_counted-requires-clause-room g c =
    let rs = runs_in c.args.one_tilde c.args.bytes.now c.args.events.now in
    let items = c.in_ok-delimiters.delimiters.items in
    let was = c.as_mut_slice.ensures.value in
    let pairs : map as_run c.pair_counted.new.runs ≡ paired (map as_run items) = c.in_ok-pair_counted.ensures.pairs ∙ ap (λ xs. paired (map as_run xs)) was in
    let is : map as_run c.as_slice.result.now ≡ paired rs =
    ap (map as_run) (c.as_slice.ensures.value ∙ written-back c.pair_counted.new.runs items c.in_ok-delimiters.delimiters.len pairs (sym c.as_mut_slice.ensures.len ∙ ap length was)) ∙ pairs ∙ ap paired c.in_ok-delimiters.ensures.runs in
    subst AllHaveRoom (sym (ap (map standing) is ∙ pairs-keep rs)) (all-room c.args.one_tilde c.args.bytes.now c.args.events.now 0 0 None c.requires.room)

pub returns-clause-emphasis : goal.returns-clause-emphasis
returns-clause-emphasis g c =
    let rs = runs_in c.args.one_tilde c.args.bytes.now c.args.events.now in
    let items = c.in_ok-delimiters.delimiters.items in
    let was = c.as_mut_slice.ensures.value in
    let pairs : map as_run c.pair_counted.new.runs ≡ paired (map as_run items) = c.in_ok-pair_counted.ensures.pairs ∙ ap (λ xs. paired (map as_run xs)) was in
    let is : map as_run c.as_slice.result.now ≡ paired rs =
    ap (map as_run) (c.as_slice.ensures.value ∙ written-back c.pair_counted.new.runs items c.in_ok-delimiters.delimiters.len pairs (sym c.as_mut_slice.ensures.len ∙ ap length was)) ∙ pairs ∙ ap paired c.in_ok-delimiters.ensures.runs in
    IfOk-weaker c.placed_counted.result (λ out. out.items ≡ edited (edits_of (map as_run c.as_slice.result.now)) c.args.events.now) (λ out. out.items ≡ edited (edits_of (paired rs)) c.args.events.now)
    (λ out h. h ∙ ap (λ ps. edited (edits_of ps) c.args.events.now) is) c.placed_counted.ensures.placed

pub returns-clause-linear : goal.returns-clause-linear
returns-clause-linear g c =
    let rs = runs_in c.args.one_tilde c.args.bytes.now c.args.events.now in
    let items = c.in_ok-delimiters.delimiters.items in
    let was = c.as_mut_slice.ensures.value in
    let found = c.in_ok-delimiters.ensures.runs in
    let pairs : map as_run c.pair_counted.new.runs ≡ paired (map as_run items) = c.in_ok-pair_counted.ensures.pairs ∙ ap (λ xs. paired (map as_run xs)) was in
    let back = written-back c.pair_counted.new.runs items c.in_ok-delimiters.delimiters.len pairs (sym c.as_mut_slice.ensures.len ∙ ap length was) in
    let is : map as_run c.as_slice.result.now ≡ paired rs = ap (map as_run) (c.as_slice.ensures.value ∙ back) ∙ pairs ∙ ap paired found in
    let many = sym (length-map items as_run) ∙ ap length found in
    let long = ap length was in
    let left = ap (λ xs. markers_left (map as_run xs)) was ∙ ap markers_left found in
    let many' = sym (length-map c.as_slice.result.now as_run) ∙ ap length is ∙ sym (length-map (paired rs) standing) ∙ ap length (pairs-keep rs) ∙ length-map rs standing in
    let ends = ap ends_of_pairs is in
    let take = ends-take-markers rs in
    let none = runs-no-ends c.args.one_tilde c.args.bytes.now c.args.events.now in
    let looked = c.runs_of_counted.ensures.turns in
    let linear = c.pair_counted.ensures.linear in
    let put = c.placed_counted.ensures.turns in
    omega (arith, many, long, left, many', ends, take, none, looked, linear, put)
