use Rattle.std.proofs.Common.{Some, refl, arith}
use Rattle.markdown.specs.declared.event.Name.TheVariants.{Label, LabelMarker}
use Rattle.mdconstructs.proofs.Rows.Called.{exit-behind-marker}
use Rattle.mdexamples.specs.Labels.{closing}
use Rattle.mdexamples.proofs.labels.label_inside.Goals as goal

pub exit-requires : goal.exit-requires
exit-requires c = exit-behind-marker c.requires (Some closing) (grind arith) LabelMarker Label refl _ c.in_ok-marker-in-Some-eq93.ensures
