use Rattle.mddocument_editing.proofs.Prelude.{◌≡◌, ◌<◌, length, drop, sym, ap, ◌∙◌, arith, eq-eqb, ne_eqb, false, ◌==◌, find, option_map, Place, places, sizes}
use Rattle.mddocument_editing.proofs.CharPlaces.{find-first, find-none, turn-find, turn-units}
use Rattle.mddocument_editing.proofs.positions.character_in.Goals as goal

pub loop-passed-preserved : goal.loop-passed-preserved
loop-passed-preserved c =
    let e = c.args.encoding in
    let text = c.args.text.now in
    let i = c.loop-passed.passed in
    let character = c.loop-passed.character in
    let n = c.first_size-size.result in
    let u = c.units-character.result in
    let m = c.min-place.result in
    let room = c.loop-passed.invariant.room in
    let within : i < length text = omega arith in
    let few = turn-units e text i character n u within c.first_size-size.ensures.size c.units-character.ensures in
    let other : (i == m) ≡ false = ne_eqb i m (omega arith) in
    record {
      found = turn-find e text i character n u within c.first_size-size.ensures.size c.units-character.ensures (λ (place : Place). place.index == m) other ∙ c.loop-passed.invariant.found;
      room = room;
      within = few.2;
      few = omega (arith, few.1);
    }

pub returns-then-passed-place : goal.returns-then-passed-place
returns-then-passed-place c =
    let e = c.args.encoding in
    let text = c.args.text.now in
    let m = c.min-place.result in
    ap (λ o. option_map (λ (place : Place). place.character) o)
    (sym (find-none e (λ (place : Place). place.index) (λ p n. omega arith) m (record { index = c.loop-passed.passed; character = c.loop-passed.character }) (sizes (drop c.loop-passed.passed text)) (omega arith))
    ∙ c.loop-passed.invariant.found
    ∙ ap (λ k. find (λ (place : Place). place.index == k) (places e text)) c.min-place.ensures)

pub returns-else-passed-place : goal.returns-else-passed-place
returns-else-passed-place c =
    let e = c.args.encoding in
    let text = c.args.text.now in
    let m = c.min-place.result in
    let here : c.loop-passed.passed ≡ m = omega arith in
    ap (λ o. option_map (λ (place : Place). place.character) o)
    (sym (find-first e (λ (place : Place). place.index == m) (record { index = c.loop-passed.passed; character = c.loop-passed.character }) (sizes (drop c.loop-passed.passed text)) (eq-eqb c.loop-passed.passed m here))
    ∙ c.loop-passed.invariant.found
    ∙ ap (λ k. find (λ (place : Place). place.index == k) (places e text)) c.min-place.ensures)
