use Rattle.mdconstructs_tables.proofs.Markers.{can-mark}
use Rattle.mdconstructs_tables.proofs.marker.Goals as goal

pub exit-requires : goal.exit-requires
exit-requires g c = rw (c.consume.ensures, c.in_ok-enter.ensures.ok) (can-mark c.args.name c.args.t.now c.requires)
