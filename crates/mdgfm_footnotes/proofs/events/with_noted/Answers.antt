use Rattle.std.proofs.Common.{◌∙◌, sym, subst, ap, arith, eqb-true}
use Rattle.std.proofs.lemmas.List.{nil_from_length}
use Rattle.std.proofs.lemmas.Result.{IfOk-weaker}
use Rattle.std.specs.List.{AllByRecursion}
use Rattle.markdown_base.proofs.Common.{every-map}
use Rattle.mdinline_labels.specs.Defined.{defines}
use Rattle.mdgfm_footnotes.specs.Calls.{calls_of}
use Rattle.mdgfm_footnotes.proofs.Places.{IsAt, calls-at}
use Rattle.mdgfm_footnotes.proofs.Steps.{IsLong, of-parts}
use Rattle.mdgfm_footnotes.proofs.Unchanged.{called-none}
use Rattle.mdgfm_footnotes.proofs.events.with_noted.Goals as goal

pub returns-then-is_empty : goal.returns-then-is_empty
returns-then-is_empty c =
    let l = c.in_ok-calls.calls in
    let bytes = c.args.bytes.now in
    let events = c.args.events.items in
    let noted = defines c.args.labels.now in
    let are = c.in_ok-calls.ensures ∙ ap (calls_of noted bytes 0 0) c.as_slice.ensures.value in
    let zero = eqb-true _ 0 (sym c.is_empty.ensures ∙ c.if-is_empty.true) in
    let empty = nil_from_length l.items (omega (arith, l.ok.0, zero)) in
    sym (called-none noted c.args.tab bytes events (sym are ∙ empty))

pub with_insides-requires-clause-long : goal.with_insides-requires-clause-long
with_insides-requires-clause-long c =
    let bytes = c.args.bytes.now in
    let events = c.args.events.items in
    let noted = defines c.args.labels.now in
    let are = c.in_ok-calls.ensures ∙ ap (calls_of noted bytes 0 0) c.as_slice.ensures.value in
    subst (AllByRecursion IsLong) (sym (c.as_slice-4.ensures.value ∙ are)) (every-map (IsAt bytes) IsLong (λ l at. at.long) (calls_of noted bytes 0 0 events) (calls-at noted bytes events))

pub returns : goal.returns
returns c =
    let l = c.in_ok-calls.calls in
    let bytes = c.args.bytes.now in
    let events = c.args.events.items in
    let noted = defines c.args.labels.now in
    let are = c.in_ok-calls.ensures ∙ ap (calls_of noted bytes 0 0) c.as_slice.ensures.value in
    IfOk-weaker c.with_insides.result _ _
    (λ all is.
    of-parts c.args.tab bytes (calls_of noted bytes 0 0 events) l.items c.as_slice-2.result.now c.as_slice-4.result.now events c.as_slice-3.result.now
    c.in_ok-called.called.items c.as_slice-5.result.now all.items are c.as_slice-2.ensures.value c.as_slice-4.ensures.value c.as_slice-3.ensures.value
    c.as_slice-5.ensures.value c.in_ok-called.ensures is) c.with_insides.ensures
