use Rattle.mddocument_editing.proofs.Prelude.{◌≡◌, ℕ, true, ◌-◌, ◌<◌, ◌++◌, [], length, get_or, drop, subst, sym, ap, ◌∙◌, arith, false≢true, length-map, Global, Vec, items_of, bytes_of_sections, Section}
use Rattle.mddocument_editing.proofs.Trims.{behind-more, part-at, section-at}
use Rattle.mddocument_editing.proofs.trim.stay_behind.Goals as goal
use Rattle.mddocument_editing.proofs.trim.stay_behind.Goals.{After-is_part-stays}

-- whether the part is as the section, by their numbers
alike-is : (c : After-is_part-stays) → (c.is_part-stays.result ≡ true → get_or (items_of c.args.parts.now) (length (items_of c.args.parts.now) - c.loop-count.count - 1) [] ≡ get_or (bytes_of_sections c.args.sections.now) (c.args.end - c.loop-count.count - 1) [])
    × (get_or (items_of c.args.parts.now) (length (items_of c.args.parts.now) - c.loop-count.count - 1) [] ≡ get_or (bytes_of_sections c.args.sections.now) (c.args.end - c.loop-count.count - 1) [] → c.is_part-stays.result ≡ true)
alike-is c =
    let sections = c.args.sections.now in
    let parts = c.args.parts.now in
    let n = c.loop-count.count in
    let size = length-map parts (λ (part : Vec ℕ Global). part.items) in
    let lt : c.args.end - n - 1 < length sections = omega (arith, c.requires.order, c.requires.within, c.loop-count-test.true, c.min-most.ensures) in
    let less : length parts - n - 1 < length parts = omega (arith, c.loop-count-test.true, c.min-most.ensures) in
    let e : length (items_of parts) - n - 1 ≡ length parts - n - 1 = omega (arith, size) in
    let part = ap (λ k. get_or (items_of parts) k []) e ∙ part-at parts (length parts - n - 1) c.index-parts-parts.result less c.index-parts-parts.is ∙ sym c.as_slice.ensures.value in
    let section = section-at sections (c.args.end - n - 1) c.index-sections-end.result lt c.index-sections-end.is in
    ((λ stays. part ∙ c.is_part-stays.ensures.0 stays ∙ sym section), (λ alike. c.is_part-stays.ensures.1 (sym part ∙ alike ∙ section)))

pub loop-count-preserved : goal.loop-count-preserved
loop-count-preserved c =
    let sections = c.args.sections.now in
    let parts = c.args.parts.now in
    let long = length-map sections (λ (section : Section). section.part.bytes.items) in
    let size = length-map parts (λ (part : Vec ℕ Global). part.items) in
    behind-more (bytes_of_sections sections) (items_of parts) c.args.end c.loop-count.count [] (omega (arith, long, c.requires.within))
    (omega (arith, c.requires.order, c.loop-count-test.true, c.min-most.ensures)) (omega (arith, size, c.loop-count-test.true, c.min-most.ensures)) c.loop-count.invariant
    ((alike-is (goal.at.loop-count-preserved c).After-is_part-stays).0 c.if-not-stays.false)

pub returns-then-not-stays : goal.returns-then-not-stays
returns-then-not-stays c =
    let size = length-map c.args.parts.now (λ (part : Vec ℕ Global). part.items) in
    record {
      few = omega (arith, c.requires.order, c.loop-count-test.true, c.min-most.ensures);
      some = omega (arith, size, c.loop-count-test.true, c.min-most.ensures);
      same = c.loop-count.invariant;
      next = λ _ _ alike. false≢true (sym c.if-not-stays.true ∙ (alike-is (goal.at.returns-then-not-stays c).After-is_part-stays).1 alike);
    }

pub returns : goal.returns
returns c =
    let sections = bytes_of_sections c.args.sections.now in
    let parts = items_of c.args.parts.now in
    let size = length-map c.args.parts.now (λ (part : Vec ℕ Global). part.items) in
    let all : c.loop-count.count ≡ c.min-most.result = omega (arith, c.loop-count.auto.count-end, c.loop-count-test.false) in
    record {
      few = omega (arith, c.requires.order, c.min-most.ensures);
      some = omega (arith, size, c.min-most.ensures);
      same = subst (λ k. drop (c.args.end - k) sections ≡ drop (length parts - k) parts ++ drop c.args.end sections) all c.loop-count.invariant;
      next = λ lt less alike. absurd (omega (arith, lt, less, size, c.requires.order, c.min-most.ensures));
    }
