-- The costs of the states of BlankLine are enough.
use Rattle.std.proofs.Common.{arith}
use Rattle.mdconstructs_tables.specs.RowTest.{never}
use Rattle.mdconstructs_tables.specs.RowInvariant.{PaysRows}
use Rattle.mdblock_leaf_rows.specs.FlowCosts.{reading}
use Rattle.mdblock_leaf_rows.specs.BlankLine.{blank_line_start_rows, blank_line_start}
use Rattle.mdblock_leaf_rows.specs.FlowTable.{flow}
use Rattle.mdblock_leaf_rows.specs.Laws.Measures.{at-feed, at-blank, at-other}
use Rattle.mdblock_leaf_rows.specs.Laws.Paying.{pays}

pub blank_line_start-pays : PaysRows flow never blank_line_start
blank_line_start-pays b w text p read at seen called =
    pays (reading 1) blank_line_start_rows (omega arith) (
      λ w is b text p m. let q = at-blank text p w m is in omega arith,
      (
        λ w is b text p m. let q = at-feed text p w m is in omega arith,
        λ w others b text p m. let q = at-other text p w m others.0 others.1.0 in omega arith,
      ),
    )
    w b b text p at seen
