use Rattle.markdown_edits.proofs.Prelude.{◌+◌, ◌<◌, refl, sym, ap, ◌∙◌, arith, get_or_default, get_or-take, length-take-le, Event, is_wanted}
use Rattle.markdown_edits.proofs.skip.to_back.Goals as goal

pub loop-last-init : goal.loop-last-init
loop-last-init c =
    let index = c.args.index in let events = c.args.events.now in
    record {
      order = omega arith;
      past = λ _. refl;
      ahead = λ l.
          let a = c.requires l in
          let inside : a.0 < index + 1 = omega (arith, a.2, (length-take-le (index + 1) events (omega (arith, l)))) in (
            a.0,
            omega (arith, inside),
            λ d. ap (λ (e : Event). is_wanted c.args.names.now e.name) (get_or_default events a.0 d a.1 (omega (arith, inside, l)) ∙ sym (get_or-take (index + 1) events a.0 a.1 inside) ∙ a.3) ∙ a.4,
          );
      passed = λ k d a b. absurd (omega (arith, a, b));
    }
