use Rattle.mddocument_editing.proofs.Prelude.{◌≡◌, drop, min, sym, ap, ◌∙◌, arith, eq-eqb, ne_eqb, false, ◌==◌, option_map, Place, length_in, sizes}
use Rattle.mddocument_editing.proofs.CharPlaces.{find-first, find-none, length-end, turn-find, turn-length, turn-units}
use Rattle.mddocument_editing.proofs.positions.index_in.Goals as goal
use Rattle.mddocument_editing.proofs.positions.index_in.Goals.{then-loop-index-test+else-passed-character, else-loop-index-test}

pub loop-index-preserved : goal.loop-index-preserved
loop-index-preserved c =
    let e = c.args.encoding in
    let text = c.args.text.now in
    let i = c.loop-index.index in
    let passed = c.loop-index.passed in
    let n = c.first_size-size.result in
    let u = c.units-passed.result in
    let long = turn-length e text i passed n u c.loop-index-test.true c.first_size-size.ensures.size c.units-passed.ensures in
    let few = turn-units e text i passed n u c.loop-index-test.true c.first_size-size.ensures.size c.units-passed.ensures in
    let other : (passed == min c.args.character (length_in e text)) ≡ false = ne_eqb passed (min c.args.character (length_in e text)) (omega (arith, long, few.0, c.loop-index.invariant.total)) in
    record {
      found = turn-find e text i passed n u c.loop-index-test.true c.first_size-size.ensures.size c.units-passed.ensures (λ (place : Place). place.character == min c.args.character (length_in e text)) other ∙ c.loop-index.invariant.found;
      total = omega (arith, long, c.loop-index.invariant.total);
      within = omega (arith, few.2);
      few = omega (arith, few.1);
    }

pub returns-then-passed-character-2-clause-index : goal.returns-then-passed-character-2-clause-index
returns-then-passed-character-2-clause-index c =
    let e = c.args.encoding in
    let text = c.args.text.now in
    let m = min c.args.character (length_in e text) in
    ap (λ o. option_map (λ (place : Place). place.index) o)
    (sym (find-none e (λ (place : Place). place.character) (λ p n. omega arith) m (record { index = c.loop-index.index; character = c.loop-index.passed }) (sizes (drop c.loop-index.index text)) (omega arith))
    ∙ c.loop-index.invariant.found)

pub returns-else-passed-character-2-clause-index : goal.returns-else-passed-character-2-clause-index
returns-else-passed-character-2-clause-index c =
    let e = c.args.encoding in
    let text = c.args.text.now in
    let m = min c.args.character (length_in e text) in
    let here : c.loop-index.passed ≡ m = elim c.loop-index-test.branch [
      | then-loop-index-test+else-passed-character w ↦ omega (arith, c.loop-index.invariant.total)
      | else-loop-index-test w ↦ omega (arith, c.loop-index.invariant.total, length-end e text c.loop-index.index w.loop-index-test.false)
    ] in
    ap (λ o. option_map (λ (place : Place). place.index) o)
    (sym (find-first e (λ (place : Place). place.character == m) (record { index = c.loop-index.index; character = c.loop-index.passed }) (sizes (drop c.loop-index.index text)) (eq-eqb c.loop-index.passed m here))
    ∙ c.loop-index.invariant.found)
