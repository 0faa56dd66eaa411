use Rattle.std.proofs.Common.{◌∙◌, ap, sym, arith}
use Rattle.std.proofs.Math.Seq.{take-length}
use Rattle.mdconstructs_tables.specs.Breaks.{is_white}
use Rattle.mdblock_leaf_blocks.specs.LineKinds.{trimmed}
use Rattle.mdblock_tables.proofs.CellLemmas.{white_goes}
use Rattle.mdblock_tables.proofs.tables.trimmed.Goals as goal

pub loop-size-init : goal.loop-size-init
loop-size-init g c = (ap (trimmed is_white) (take-length c.args.t.now), omega arith, omega arith)

pub loop-size-preserved : goal.loop-size-preserved
loop-size-preserved g c = (
  sym (white_goes c.args.t.now c.loop-size.size (omega arith) (omega arith) (sym c.is_white.ensures ∙ c.if-not-is_white.false)) ∙ c.loop-size.invariant.0,
  omega (arith, c.loop-size.invariant.1),
  omega (arith, c.loop-size.invariant.2, c.add_one.ensures),
)
