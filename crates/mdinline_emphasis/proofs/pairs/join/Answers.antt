use Rattle.mdinline_emphasis.proofs.Prelude.{◌≡◌, ◌≢◌, ℕ, ◌<◌, List, Some, map, length, get_or, set, refl, sym, ap, ◌∙◌, arith, slice_get, option_map, nat_lt, map-set, get_or-set_other, get_or_default, length-set, slice_get-map, slice_get_read, slice_get-get_or, Delimiters, opening, closing, as_run, with_pair, with_pair_of, left_of, Style, style_of}
use Rattle.mdinline_emphasis.proofs.pairs.join.Goals as goal

joined : (ds : List Delimiters) (i j : ℕ) (o r o' r' d e : Delimiters) (s : Style) → i < j → j < length ds
    → o ≡ get_or ds i o → r ≡ get_or ds j r → s ≡ style_of (as_run o) (as_run r)
    → as_run o' ≡ opening s (as_run (get_or ds i d)) → as_run r' ≡ closing s (as_run (get_or (set ds i o') j e))
    → map as_run (set (set ds i o') j r') ≡ with_pair (map as_run ds) i j
joined ds i j o r o' r' d e s before inside is_o is_r is_s opened closed =
    let below : i < length ds = omega (arith, before, inside) in
    let apart : j ≢ i = λ same. absurd (omega (arith, before, same)) in
    let one : slice_get (map as_run ds) i ≡ Some (as_run o) = slice_get-map as_run ds i ∙ ap (option_map as_run) (slice_get_read ds (length ds) i o refl below is_o) in
    let two : slice_get (map as_run ds) j ≡ Some (as_run r) = slice_get-map as_run ds j ∙ ap (option_map as_run) (slice_get_read ds (length ds) j r refl inside is_r) in
    let rs = map as_run ds in
    let style = style_of (as_run o) (as_run r) in
    let opened' : as_run o' ≡ opening style (as_run o) = opened ∙ ap (λ x. opening s (as_run x)) (get_or_default ds i d o below ∙ sym is_o) ∙ ap (λ t. opening t (as_run o)) is_s in
    let closed' : as_run r' ≡ closing style (as_run r) =
    closed ∙ ap (λ x. closing s (as_run x)) (get_or-set_other ds i j o' e apart ∙ get_or_default ds j e r inside ∙ sym is_r) ∙ ap (λ t. closing t (as_run r)) is_s in
    map-set as_run (set ds i o') j r'
    ∙ ap (λ xs. set xs j (as_run r')) (map-set as_run ds i o' ∙ ap (set rs i) opened')
    ∙ ap (set (set rs i (opening style (as_run o))) j) closed'
    ∙ sym (ap (λ x. with_pair_of rs i j x (slice_get rs j)) one ∙ ap (with_pair_of rs i j (Some (as_run o))) two)

left-there : (ds : List Delimiters) (i : ℕ) (d : Delimiters) → i < length ds → nat_lt 0 (get_or ds i d).left ≡ nat_lt 0 (left_of (slice_get (map as_run ds) i))
left-there ds i d inside =
    sym (ap (λ x. nat_lt 0 (left_of x)) (slice_get-map as_run ds i ∙ ap (option_map as_run) (slice_get-get_or ds i d inside)))

pub returns-clause-pair : goal.returns-clause-pair
returns-clause-pair c =
    joined c.args.runs.now c.args.opener c.args.closer c.index-runs-opener.result c.index-runs-closer.result c.open.new.run c.close.new.run c.index-runs-opener-2.result c.index-runs-closer-2.result
    c.style_of-style.result c.requires.before c.requires.inside c.index-runs-opener.is c.index-runs-closer.is c.style_of-style.ensures c.in_ok-open.ensures c.in_ok-close.ensures

pub returns-clause-waits : goal.returns-clause-waits
returns-clause-waits c =
    let ds = set (set c.args.runs.now c.args.opener c.open.new.run) c.args.closer c.close.new.run in
    let long = length-set (set c.args.runs.now c.args.opener c.open.new.run) c.args.closer c.close.new.run ∙ length-set c.args.runs.now c.args.opener c.open.new.run in
    left-there ds c.args.opener c.index-runs-opener-3.result (omega (arith, long, c.requires.before, c.requires.inside))
