-- A search among the runs that wait, one step at a time.
use Rattle.mdinline_emphasis.proofs.Prelude.{◌≡◌, ℕ, suc, cond, List, Some, map, ap, ◌∙◌, slice_get, option_map, slice_get-map, Delimiters, Run, may_pair, as_run, last_of, may_pair_there, run_there}

pub search-step : (ds : List Delimiters) (openers : List ℕ) (r : Run) (k i : ℕ) (d : Delimiters) → slice_get openers k ≡ Some i → slice_get ds i ≡ Some d
    → last_of (map as_run ds) openers r (suc k) ≡ cond (may_pair (as_run d) r) (Some k) (last_of (map as_run ds) openers r k)
search-step ds openers r k i d at is =
    let rs = map as_run ds in
    ap (λ x. cond (may_pair_there (run_there rs x) r) (Some k) (last_of rs openers r k)) at
    ∙ ap (λ x. cond (may_pair_there x r) (Some k) (last_of rs openers r k)) (slice_get-map as_run ds i ∙ ap (option_map as_run) is)
