use Rattle.mdtests_engine.proofs.Prelude.{[], ◌∷◌, refl, sym, ◌∙◌, arith, span, empty, IsBalanced-pair}
use Rattle.mdtests_engine.proofs.walks.white_space_and_data.Goals as goal

pub returns : goal.returns
returns c =
    let second = IsBalanced-pair c.event-3.result c.event-4.result c.event-3.ensures.is c.event-4.ensures.is (c.event-4.ensures.named ∙ sym c.event-3.ensures.named) in
    record {
      balanced =
          span c.event.result c.event-2.result [] (c.event-3.result ∷ c.event-4.result ∷ []) refl c.event.ensures.is c.event-2.ensures.is (c.event-2.ensures.named ∙ sym c.event.ensures.named) empty second;
      white_space = (0, c.event.result, omega arith, refl, rw c.event.ensures.named refl);
    }
