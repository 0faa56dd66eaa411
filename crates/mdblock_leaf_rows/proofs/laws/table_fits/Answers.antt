use Rattle.mdblock_leaf_rows.specs.Laws.Fit.{fits}
use Rattle.mdblock_leaf_rows.proofs.laws.table_fits.Goals as goal

pub returns : goal.returns
returns c = fits
