-- The costs of the states of Paragraph are enough.
use Rattle.std.proofs.Common.{arith}
use Rattle.mdconstructs_tables.specs.RowTest.{never}
use Rattle.mdconstructs_tables.specs.RowInvariant.{PaysRows}
use Rattle.mdblock_leaf_rows.specs.FlowCosts.{reading, looked}
use Rattle.mdblock_leaf_rows.specs.Paragraph.{flow_before_content_rows, flow_before_content, paragraph_start_rows, paragraph_start, paragraph_inside_rows, paragraph_inside, paragraph_line_start_rows, paragraph_line_start, paragraph_line_after_rows, paragraph_line_after}
use Rattle.mdblock_leaf_rows.specs.FlowTable.{flow}
use Rattle.mdblock_leaf_rows.specs.Laws.Measures.{at-feed, at-in-line}
use Rattle.mdblock_leaf_rows.specs.Laws.Paying.{pays}

pub flow_before_content-pays : PaysRows flow never flow_before_content
flow_before_content-pays b w text p read at seen called =
    pays (reading 8) flow_before_content_rows (omega arith)
    (omega arith)
    w b b text p at seen

pub paragraph_start-pays : PaysRows flow never paragraph_start
paragraph_start-pays b w text p read at seen called =
    pays (reading 7) paragraph_start_rows (omega arith) (
      λ w is b text p m. let q = at-feed text p w m is in omega arith,
      λ w others b text p m. let q = at-in-line text p w m others.0 in omega arith,
    )
    w b b text p at seen

pub paragraph_inside-pays : PaysRows flow never paragraph_inside
paragraph_inside-pays b w text p read at seen called =
    pays (reading 6) paragraph_inside_rows (omega arith) (
      λ w is b text p m. let q = at-feed text p w m is in omega arith,
      λ w others b text p m. let q = at-in-line text p w m others.0 in omega arith,
    )
    w b b text p at seen

pub paragraph_line_start-pays : PaysRows flow never paragraph_line_start
paragraph_line_start-pays b w text p read at seen called =
    pays (looked 2) paragraph_line_start_rows (omega arith) (
      λ w is b text p m. let q = at-feed text p w m is in omega arith,
      λ w others b text p m. let q = at-in-line text p w m others.0 in omega arith,
    )
    w b b text p at seen

pub paragraph_line_after-pays : PaysRows flow never paragraph_line_after
paragraph_line_after-pays b w text p read at seen called =
    pays (looked 1) paragraph_line_after_rows (omega arith) (
      λ w is b text p m. let q = at-feed text p w m is in omega arith,
      λ w others b text p m. let q = at-in-line text p w m others.0 in omega arith,
    )
    w b b text p at seen
