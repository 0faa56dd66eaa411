use Rattle.std.proofs.Common.{◌≡◌, ap, arith, drop, length, sym, ◌∙◌}
use Rattle.std.specs.Prelude.{slice_range}
use Rattle.mdconstructs.specs.Sections.{document_of}
use Rattle.limecove.specs.Editing.{written}
use Rattle.limecove.proofs.WrittenBytes.{all-written, behind-sections, none-left, piece-fits, section-more}
use Rattle.limecove.proofs.bytes.write_between.Goals as goal

pub overflow_add-done : goal.overflow_add-done
overflow_add-done c =
    let few = piece-fits c.section-section.result.now c.writing.begin c.writing.end in
    let same : length c.slice-piece.result.now ≡ length (slice_range c.section-section.result.now c.writing.begin c.writing.end) = ap length c.slice-piece.ensures in
    omega (arith, few, same, c.writing.invariant.room)

pub writing-init : goal.writing-init
writing-init c =
    let same = behind-sections c.args.sections.now.sections c.section_at-first.result c.args.from c.args.to c.section_at-first.ensures.start in
    record {
      same = rw (c.saturating_sub-end.ensures, c.start_of-start.ensures) (ap (λ w. written c.args.out.now w) (sym same));
      room = omega (arith, c.saturating_sub-end.ensures);
    }

pub writing-preserved : goal.writing-preserved
writing-preserved c =
    let few = piece-fits c.section-section.result.now c.writing.begin c.writing.end in
    let same : length c.slice-piece.result.now ≡ length (slice_range c.section-section.result.now c.writing.begin c.writing.end) = ap length c.slice-piece.ensures in
    let more = section-more c.args.sections.now.sections c.writing.index c.section-section.result.now c.writing.out c.writing.done c.writing.begin c.writing.end c.section-section.ensures in
    record {
      same = cc more;
      room = omega (arith, few, same, c.writing.invariant.room);
    }

pub returns-then-end-eq0 : goal.returns-then-end-eq0
returns-then-end-eq0 c =
    sym (none-left (document_of (drop c.writing.index c.args.sections.now.sections)) c.writing.out c.writing.done c.writing.begin c.writing.end c.if-end-eq0.true)
    ∙ c.writing.invariant.same

pub returns : goal.returns
returns c =
    sym (all-written c.args.sections.now.sections c.writing.index c.writing.out c.writing.done c.writing.begin c.writing.end (omega arith))
    ∙ c.writing.invariant.same
