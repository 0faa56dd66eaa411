-- What holds when a machine is called is what its state requires.
use Rattle.std.proofs.Common.{refl}
use Rattle.markdown.specs.Configuration.{TokenizerValue}
use Rattle.mdconstructs.specs.Tables.{counts}
use Rattle.mdconstructs.proofs.Rows.Called.{IsCalled, is-called}
use Rattle.mdexamples.specs.declared.headings.Headings.{Headings}
use Rattle.mdexamples.specs.declared.labels.Labels.{Labels}
use Rattle.mdexamples.specs.Headings.{headings}
use Rattle.mdexamples.specs.Labels.{labels}

pub headings_called : (t : TokenizerValue Headings Unit Unit) → IsCalled headings counts t
headings_called = is-called headings counts (λ local. refl)

pub labels_called : (t : TokenizerValue Labels Unit Unit) → IsCalled labels counts t
labels_called = is-called labels counts (λ local. refl)
