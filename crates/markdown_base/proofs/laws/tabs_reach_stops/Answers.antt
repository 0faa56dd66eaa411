use Rattle.markdown_base.proofs.Prelude.{◌≡◌, ◌+◌, ◌-◌, ◌*◌, ◌/◌, ◌%◌, ap, ◌∙◌, arith, mod-mul-add, div-add-mod', mod_below, tab_width}
use Rattle.markdown_base.proofs.laws.tabs_reach_stops.Goals as goal

pub returns : goal.returns
returns c = record {
  stop = λ t column some first.
      let split : column + tab_width t column - 1 ≡ ((column - 1) / t + 1) * t + 0 = omega (arith, div-add-mod' (column - 1) t, (mod_below (column - 1) t some)) in
      ap (λ n. n % t) split ∙ mod-mul-add ((column - 1) / t + 1) t 0 some;
  some = λ t column some first. omega (arith, mod_below (column - 1) t some);
  most = λ t column some first. omega arith;
}
