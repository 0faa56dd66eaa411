-- The costs of the states of Flow are enough.
use Rattle.std.proofs.Common.{arith}
use Rattle.mdconstructs_tables.specs.RowTest.{never}
use Rattle.mdconstructs_tables.specs.RowInvariant.{PaysRows}
use Rattle.mdblock_leaf_rows.specs.FlowCosts.{starting, reading, looked}
use Rattle.mdblock_leaf_rows.specs.Flow.{flow_start_rows, flow_start, content_definition_before_rows, content_definition_before, flow_blank_line_after_rows, flow_blank_line_after, flow_after_rows, flow_after}
use Rattle.mdblock_leaf_rows.specs.FlowTable.{flow}
use Rattle.mdblock_leaf_rows.specs.Laws.Measures.{sign-word, rule-word, fence-word, at-feed, at-blank, at-word, at-in-line}
use Rattle.mdblock_leaf_rows.specs.Laws.Paying.{pays}

pub flow_start-pays : PaysRows flow never flow_start
flow_start-pays b w text p read at seen called =
    pays (starting 9) flow_start_rows (omega arith) (
      λ w is b text p m. let q = at-feed text p w m is in omega arith,
      λ w others b text p m. let q = at-in-line text p w m others.0 in omega arith,
    )
    w b b text p at seen

pub content_definition_before-pays : PaysRows flow never content_definition_before
content_definition_before-pays b w text p read at seen called = pays (starting 10) content_definition_before_rows (omega arith) (λ w others b text p m. omega arith) w b b text p at seen

pub flow_blank_line_after-pays : PaysRows flow never flow_blank_line_after
flow_blank_line_after-pays b w text p read at seen called =
    pays (reading 9) flow_blank_line_after_rows (omega arith) (
      λ w is b text p m. let q = at-blank text p w m is in omega arith,
      (
        λ w is b text p m. let q = at-word text p w m (sign-word w is) in omega arith,
        (
          λ w is b text p m. let q = at-word text p w m (rule-word w is) in omega arith,
          (
            λ w is b text p m. let q = at-word text p w m (fence-word w is) in omega arith,
            (
              omega arith,
              omega arith,
            ),
          ),
        ),
      ),
    )
    w b b text p at seen

pub flow_after-pays : PaysRows flow never flow_after
flow_after-pays b w text p read at seen called =
    pays (looked 1) flow_after_rows (omega arith) (
      λ w is b text p m. let q = at-feed text p w m is in omega arith,
      λ w others b text p m. let q = at-in-line text p w m others.0 in omega arith,
    )
    w b b text p at seen
