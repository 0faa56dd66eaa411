use Rattle.std.proofs.Common.{◌≡◌, ◌-◌, ◌≤◌, ◌++◌, drop, take, length}
use Rattle.std.specs.Prelude.{option_map}
use Rattle.mdhtml_markup.specs.SafeHtml.{scheme_of}
use Rattle.mdhtml_markup.proofs.addresses.scheme_of.Given as goal

abbrev pub invariant-loop-at : goal.invariant-loop-at
invariant-loop-at l = record {
  same : scheme_of l.url ≡ option_map (λ scheme. take l.at l.url ++ scheme) (scheme_of (drop l.at l.url));
  room : l.at ≤ length l.url;
}

abbrev pub decreases-loop-at : goal.decreases-loop-at
decreases-loop-at l = length l.url - l.at
