use Rattle.std.proofs.Common.{◌≡◌, map}
use Rattle.mdexamples.specs.Texts.{texts_upto}
use Rattle.mdexamples.proofs.texts.texts_of_spans.Given as goal

abbrev pub invariant-loop-index : goal.invariant-loop-index
invariant-loop-index l = map (λ text. text.now) l.texts.items ≡ texts_upto l.fn.bytes l.events.items l.index
