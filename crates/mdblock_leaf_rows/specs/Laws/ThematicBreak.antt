-- The costs of the states of ThematicBreak are enough.
use Rattle.std.proofs.Common.{arith}
use Rattle.mdconstructs_tables.specs.RowTest.{never}
use Rattle.mdconstructs_tables.specs.RowInvariant.{PaysRows}
use Rattle.mdblock_leaf_rows.specs.FlowCosts.{looking, reading}
use Rattle.mdblock_leaf_rows.specs.ThematicBreak.{flow_before_thematic_break_rows, flow_before_thematic_break, thematic_break_before_rows, thematic_break_before, thematic_break_at_break_rows, thematic_break_at_break, thematic_break_sequence_rows, thematic_break_sequence}
use Rattle.mdblock_leaf_rows.specs.FlowTable.{flow}
use Rattle.mdblock_leaf_rows.specs.Laws.Measures.{rule-word, at-feed, at-blank, at-word, at-other}
use Rattle.mdblock_leaf_rows.specs.Laws.Paying.{pays}

pub flow_before_thematic_break-pays : PaysRows flow never flow_before_thematic_break
flow_before_thematic_break-pays b w text p read at seen called =
    pays (looking 1) flow_before_thematic_break_rows (omega arith) (
      λ w is b text p m. let q = at-feed text p w m is in omega arith,
      (
        λ w is b text p m. let q = at-word text p w m (rule-word w is) in omega arith,
        (
          λ w is b text p m. let q = at-blank text p w m is in omega arith,
          λ w others b text p m. let q = at-other text p w m others.1.1.0 others.0 in omega arith,
        ),
      ),
    )
    w b b text p at seen

pub thematic_break_before-pays : PaysRows flow never thematic_break_before
thematic_break_before-pays b w text p read at seen called =
    pays (reading 3) thematic_break_before_rows (omega arith) (
      λ w is b text p m. let q = at-blank text p w m is in omega arith,
      omega arith,
    )
    w b b text p at seen

pub thematic_break_at_break-pays : PaysRows flow never thematic_break_at_break
thematic_break_at_break-pays b w text p read at seen called =
    pays (reading 2) thematic_break_at_break_rows (omega arith) (
      λ w is b text p m. let q = at-feed text p w m is in omega arith,
      (
        λ w is b text p m. let q = at-blank text p w m is in omega arith,
        λ w others b text p m. let q = at-other text p w m others.1.0 others.0 in omega arith,
      ),
    )
    w b b text p at seen

pub thematic_break_sequence-pays : PaysRows flow never thematic_break_sequence
thematic_break_sequence-pays b w text p read at seen called =
    pays (reading 3) thematic_break_sequence_rows (omega arith) (
      λ w is b text p m. let q = at-word text p w m (rule-word w is) in omega arith,
      omega arith,
    )
    w b b text p at seen
