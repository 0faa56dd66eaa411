-- Which bytes begin a run, whatever the options are: markers, and no others.
use Rattle.mdinline_machine.proofs.Prelude.{◌≡◌, ◌&&◌, ℕ, true, false, Some, ap, and_parts, Constructs, begins_run, is_delimiter, marker_is_on}
use Rattle.mdinline_emphasis.specs.Runs.{marker_from}

pub no-run : (on : Constructs) (b : ℕ) → is_delimiter b ≡ false → begins_run on b ≡ false
no-run on b e = ap (λ t. t && marker_is_on (marker_from (Some b)) on) e

pub run-delimits : (on : Constructs) (b : ℕ) → begins_run on b ≡ true → is_delimiter b ≡ true
run-delimits on b e = (and_parts (is_delimiter b) (marker_is_on (marker_from (Some b)) on) e).0
