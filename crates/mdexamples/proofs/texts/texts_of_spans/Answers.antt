use Rattle.std.proofs.Common.{◌≡◌, ◌<◌, Some, length, ap, sym, ◌∙◌, arith, true, false, refl}
use Rattle.std.proofs.lemmas.List.{append-nil, map-append}
use Rattle.std.proofs.lemmas.Option.{slice_get-get_or}
use Rattle.std.specs.Prelude.{slice_get}
use Rattle.mdexamples.proofs.Opened.{ends-exits, upto-more}
use Rattle.mdexamples.proofs.texts.texts_of_spans.Goals.{then-ends_span+in_default, else-ends_span}
use Rattle.mdexamples.proofs.texts.texts_of_spans.Goals as goal

pub text_at-text-requires-clause-ends : goal.text_at-text-requires-clause-ends
text_at-text-requires-clause-ends c =
    let items = c.in_ok-events.events.items in let e = c.index.result.now in
    let lt : c.loop-index.index < length items = omega (arith, c.loop-index-test.true, c.len-index-end.ensures, c.in_ok-events.events.ok.0) in
    let at : slice_get items c.loop-index.index ≡ Some e = slice_get-get_or items c.loop-index.index e lt ∙ ap Some (sym c.index.ensures) in
    (e, rw c.as_slice.ensures.value at, ends-exits e (sym c.ends_span.ensures ∙ c.if-ends_span.true))

pub text_at-text-requires-clause-at_places : goal.text_at-text-requires-clause-at_places
text_at-text-requires-clause-at_places c = rw c.as_slice.ensures.value (c.in_ok-events.ensures.run.1.at_places tt)

pub loop-index-preserved : goal.loop-index-preserved
loop-index-preserved c =
    let items = c.in_ok-events.events.items in let e = c.index.result.now in let n = c.loop-index.index in let bytes = c.args.bytes.now in
    let lt : n < length items = omega (arith, c.loop-index-test.true, c.len-index-end.ensures, c.in_ok-events.events.ok.0) in
    let at : slice_get items n ≡ Some e = slice_get-get_or items n e lt ∙ ap Some (sym c.index.ensures) in
    elim c.if-ends_span.branch [
      | then-ends_span+in_default w ↦
          let more = upto-more bytes items n e true at (sym c.ends_span.ensures ∙ w.if-ends_span.true) in
          let put = rw w.in_default.is at w.push.ensures.items in
          rw (w.texts-is, put, more, map-append, c.loop-index.invariant, w.text_at-text.ensures, w.as_slice.ensures.value) refl
      | else-ends_span w ↦
          let more = upto-more bytes items n e false at (sym c.ends_span.ensures ∙ w.if-ends_span.false) in
          rw (w.texts-is, more, append-nil) c.loop-index.invariant
    ]
