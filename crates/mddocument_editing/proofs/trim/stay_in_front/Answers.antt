use Rattle.mddocument_editing.proofs.Prelude.{◌≡◌, ℕ, ◌+◌, ◌<◌, ◌++◌, [], length, take, subst, sym, ◌∙◌, arith, false≢true, length-map, Global, Vec, items_of, bytes_of_sections, Section}
use Rattle.mddocument_editing.proofs.Trims.{front-more, part-at, section-at}
use Rattle.mddocument_editing.proofs.trim.stay_in_front.Goals as goal

pub loop-count-preserved : goal.loop-count-preserved
loop-count-preserved c =
    let sections = c.args.sections.now in
    let parts = c.args.parts.now in
    let n = c.loop-count.count in
    let long = length-map sections (λ (section : Section). section.part.bytes.items) in
    let size = length-map parts (λ (part : Vec ℕ Global). part.items) in
    let lt : c.args.from + n < length sections = omega (arith, c.requires.order, c.requires.within, c.loop-count-test.true, c.min-most.ensures) in
    let less : n < length parts = omega (arith, c.loop-count-test.true, c.min-most.ensures) in
    let alike = part-at parts n c.index-parts-count.result less c.index-parts-count.is ∙ sym c.as_slice.ensures.value ∙ c.is_part-stays.ensures.0 c.if-not-stays.false
    ∙ sym (section-at sections (c.args.from + n) c.index-sections-from.result lt c.index-sections-from.is) in
    front-more (bytes_of_sections sections) (items_of parts) c.args.from n [] (omega (arith, lt, long)) (omega (arith, less, size)) c.loop-count.invariant alike

pub returns-then-not-stays : goal.returns-then-not-stays
returns-then-not-stays c =
    let sections = c.args.sections.now in
    let parts = c.args.parts.now in
    let n = c.loop-count.count in
    let size = length-map parts (λ (part : Vec ℕ Global). part.items) in
    let lt : c.args.from + n < length sections = omega (arith, c.requires.order, c.requires.within, c.loop-count-test.true, c.min-most.ensures) in
    let less : n < length parts = omega (arith, c.loop-count-test.true, c.min-most.ensures) in
    record {
      few = omega (arith, c.requires.order, c.loop-count-test.true, c.min-most.ensures);
      some = omega (arith, less, size);
      same = c.loop-count.invariant;
      next = λ _ _ alike.
          false≢true
          (sym c.if-not-stays.true
          ∙ c.is_part-stays.ensures.1
          (c.as_slice.ensures.value ∙ sym (part-at parts n c.index-parts-count.result less c.index-parts-count.is) ∙ alike
          ∙ section-at sections (c.args.from + n) c.index-sections-from.result lt c.index-sections-from.is));
    }

pub returns : goal.returns
returns c =
    let sections = bytes_of_sections c.args.sections.now in
    let parts = items_of c.args.parts.now in
    let size = length-map c.args.parts.now (λ (part : Vec ℕ Global). part.items) in
    let all : c.loop-count.count ≡ c.min-most.result = omega (arith, c.loop-count.auto.count-end, c.loop-count-test.false) in
    record {
      few = omega (arith, c.requires.order, c.min-most.ensures);
      some = omega (arith, size, c.min-most.ensures);
      same = subst (λ k. take (c.args.from + k) sections ≡ take c.args.from sections ++ take k parts) all c.loop-count.invariant;
      next = λ lt less alike. absurd (omega (arith, lt, less, size, c.requires.order, c.min-most.ensures));
    }
