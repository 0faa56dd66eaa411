-- The costs of the states of CodeIndented are enough.
use Rattle.std.proofs.Common.{arith}
use Rattle.mdconstructs_tables.specs.RowTest.{never}
use Rattle.mdconstructs_tables.specs.RowInvariant.{PaysRows}
use Rattle.mdblock_leaf_rows.specs.FlowCosts.{in_run, reading, in_code}
use Rattle.mdblock_leaf_rows.specs.CodeIndented.{code_indented_start_rows, code_indented_start, code_indented_at_break_rows, code_indented_at_break, code_indented_further_after_rows, code_indented_further_after, code_indented_inside_rows, code_indented_inside, code_indented_further_start_rows, code_indented_further_start, code_indented_line_after_rows, code_indented_line_after, code_indented_after_rows, code_indented_after, code_indented_further_begin_rows, code_indented_further_begin}
use Rattle.mdblock_leaf_rows.specs.FlowTable.{flow}
use Rattle.mdblock_leaf_rows.specs.Laws.Measures.{at-feed, at-blank, at-other, at-in-line}
use Rattle.mdblock_leaf_rows.specs.Laws.Paying.{pays}

pub code_indented_start-pays : PaysRows flow never code_indented_start
code_indented_start-pays b w text p read at seen called =
    pays (reading 6) code_indented_start_rows (omega arith) (
      λ w is b text p m. let q = at-blank text p w m is in omega arith,
      omega arith,
    )
    w b b text p at seen

pub code_indented_at_break-pays : PaysRows flow never code_indented_at_break
code_indented_at_break-pays b w text p read at seen called =
    pays (reading 5) code_indented_at_break_rows (omega arith) (
      λ w is b text p m. let q = at-feed text p w m is in omega arith,
      λ w others b text p m. let q = at-in-line text p w m others.0 in omega arith,
    )
    w b b text p at seen

pub code_indented_further_after-pays : PaysRows flow never code_indented_further_after
code_indented_further_after-pays b w text p read at seen called =
    pays (reading 4) code_indented_further_after_rows (omega arith) (
      λ w is b text p m. let q = at-feed text p w m is in omega arith,
      (
        λ w is b text p m. let q = at-blank text p w m is in omega arith,
        λ w others b text p m. let q = at-other text p w m others.1.0 others.0 in omega arith,
      ),
    )
    w b b text p at seen

pub code_indented_inside-pays : PaysRows flow never code_indented_inside
code_indented_inside-pays b w text p read at seen called =
    pays (in_code 5) code_indented_inside_rows (omega arith) (
      λ w is b text p m. let q = at-feed text p w m is in omega arith,
      λ w others b text p m. let q = at-in-line text p w m others.0 in omega arith,
    )
    w b b text p at seen

pub code_indented_further_start-pays : PaysRows flow never code_indented_further_start
code_indented_further_start-pays b w text p read at seen called =
    pays (in_run 1) code_indented_further_start_rows (omega arith) (
      λ w is b text p m. let q = at-feed text p w m is in omega arith,
      (
        λ w is b text p m. let q = at-blank text p w m is in omega arith,
        λ w others b text p m. let q = at-other text p w m others.1.0 others.0 in omega arith,
      ),
    )
    w b b text p at seen

pub code_indented_line_after-pays : PaysRows flow never code_indented_line_after
code_indented_line_after-pays b w text p read at seen called =
    pays (reading 1) code_indented_line_after_rows (omega arith) (
      λ w is b text p m. let q = at-feed text p w m is in omega arith,
      λ w others b text p m. let q = at-in-line text p w m others.0 in omega arith,
    )
    w b b text p at seen

pub code_indented_after-pays : PaysRows flow never code_indented_after
code_indented_after-pays b w text p read at seen called =
    pays (reading 2) code_indented_after_rows (omega arith) (
      λ w is b text p m. let q = at-feed text p w m is in omega arith,
      λ w others b text p m. let q = at-in-line text p w m others.0 in omega arith,
    )
    w b b text p at seen

pub code_indented_further_begin-pays : PaysRows flow never code_indented_further_begin
code_indented_further_begin-pays b w text p read at seen called =
    pays (reading 5) code_indented_further_begin_rows (omega arith) (
      λ w is b text p m. let q = at-feed text p w m is in omega arith,
      (
        λ w is b text p m. let q = at-blank text p w m is in omega arith,
        λ w others b text p m. let q = at-other text p w m others.1.0 others.0 in omega arith,
      ),
    )
    w b b text p at seen
