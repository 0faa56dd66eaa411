use Rattle.mddocument_editing.proofs.Prelude.{◌≡◌, ℕ, length, take, sym, ap, ◌∙◌, arith, take-map, Global, Vec, document_of, items_of}
use Rattle.mddocument_editing.proofs.PutKept.{looked-more, looked-size, put-all, put-met}
use Rattle.mddocument_editing.proofs.recut.cut_further.Goals as goal

pub meeting-requires-clause-sections : goal.meeting-requires-clause-sections
meeting-requires-clause-sections c =
    let looked = looked-more c.args.kept.now c.min-step.result c.args.text.items c.as_slice-sections.ensures.value c.loop-text.invariant.order c.loop-text.invariant.within (omega (arith, c.min-step.ensures)) c.loop-text.invariant.text c.in_ok-append_sections.ensures in
    omega (arith, looked-size looked, c.len-size.ensures, c.args.text.ok.0, c.append_sections.new.bytes.ok.0, c.append_sections.new.bytes.small)

pub returns-in-Some : goal.returns-in-Some
returns-in-Some c =
    let looked = looked-more c.args.kept.now c.min-step.result c.args.text.items c.as_slice-sections.ensures.value c.loop-text.invariant.order c.loop-text.invariant.within (omega (arith, c.min-step.ensures)) c.loop-text.invariant.text c.in_ok-append_sections.ensures in
    let some = c.in-Some.some in
    let cut_off : take some (items_of c.in_ok-parts.parts.items) ≡ items_of c.truncate.new.self.items = take-map (λ (part : Vec ℕ Global). part.items) some c.in_ok-parts.parts.items ∙ ap items_of (sym c.truncate.ensures.items) in
    let met = ap (λ ps. length (document_of (take some (items_of ps)))) (sym c.as_slice-in-loop-text.ensures.value) ∙ c.in-Some.ensures.meet in
    let put = put-met c.args.kept.now c.args.from c.args.behind c.args.text.items c.requires.kept.divided c.requires.order c.requires.limit c.requires.seam looked c.as_slice.ensures.value c.in_ok-parts.ensures
    c.len-size.result some c.in-Some.passed (c.len-size.ensures ∙ c.args.text.ok.0) cut_off c.in-Some.ensures.sections met in
    record { recut = put.recut; bytes = put.bytes }

pub returns-then-end-sections : goal.returns-then-end-sections
returns-then-end-sections c =
    let looked = looked-more c.args.kept.now c.min-step.result c.args.text.items c.as_slice-sections.ensures.value c.loop-text.invariant.order c.loop-text.invariant.within (omega (arith, c.min-step.ensures)) c.loop-text.invariant.text c.in_ok-append_sections.ensures in
    let put = put-all c.args.kept.now c.args.from c.args.behind c.args.text.items c.requires.kept.divided c.requires.order c.requires.limit c.requires.seam looked c.as_slice.ensures.value c.in_ok-parts.ensures (omega arith) in
    record { recut = put.recut; bytes = put.bytes }

pub loop-text-preserved : goal.loop-text-preserved
loop-text-preserved c =
    let looked = looked-more c.args.kept.now c.min-step.result c.args.text.items c.as_slice-sections.ensures.value c.loop-text.invariant.order c.loop-text.invariant.within (omega (arith, c.min-step.ensures)) c.loop-text.invariant.text c.in_ok-append_sections.ensures in
    record { text = looked.bytes; order = looked.order; within = looked.within }
