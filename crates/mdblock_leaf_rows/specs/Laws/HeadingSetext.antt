-- The costs of the states of HeadingSetext are enough.
use Rattle.std.proofs.Common.{arith}
use Rattle.mdconstructs_tables.specs.RowTest.{never}
use Rattle.mdconstructs_tables.specs.RowInvariant.{PaysRows}
use Rattle.mdblock_leaf_rows.specs.FlowCosts.{looking, reading, looked}
use Rattle.mdblock_leaf_rows.specs.HeadingSetext.{flow_before_heading_setext_rows, flow_before_heading_setext, heading_setext_look_after_rows, heading_setext_look_after, heading_setext_text_after_rows, heading_setext_text_after, heading_setext_start_rows, heading_setext_start, heading_setext_before_rows, heading_setext_before, heading_setext_inside_rows, heading_setext_inside, heading_setext_after_rows, heading_setext_after}
use Rattle.mdblock_leaf_rows.specs.FlowTable.{flow}
use Rattle.mdblock_leaf_rows.specs.Laws.Measures.{dash-word, underline-word, at-feed, at-blank, at-word, at-other, at-in-line}
use Rattle.mdblock_leaf_rows.specs.Laws.Paying.{pays}

pub flow_before_heading_setext-pays : PaysRows flow never flow_before_heading_setext
flow_before_heading_setext-pays b w text p read at seen called =
    pays (looking 1) flow_before_heading_setext_rows (omega arith) (
      λ w is b text p m. let q = at-feed text p w m is in omega arith,
      (
        λ w is b text p m. let q = at-word text p w m (underline-word w is) in omega arith,
        (
          λ w is b text p m. let q = at-blank text p w m is in omega arith,
          λ w others b text p m. let q = at-other text p w m others.1.1.0 others.0 in omega arith,
        ),
      ),
    )
    w b b text p at seen

pub heading_setext_look_after-pays : PaysRows flow never heading_setext_look_after
heading_setext_look_after-pays b w text p read at seen called =
    pays (looking 1) heading_setext_look_after_rows (omega arith) (
      λ w is b text p m. let q = at-feed text p w m is in omega arith,
      (
        λ w is b text p m. let q = at-word text p w m (dash-word w is) in omega arith,
        (
          λ w is b text p m. let q = at-blank text p w m is in omega arith,
          λ w others b text p m. let q = at-other text p w m others.1.1.0 others.0 in omega arith,
        ),
      ),
    )
    w b b text p at seen

pub heading_setext_text_after-pays : PaysRows flow never heading_setext_text_after
heading_setext_text_after-pays b w text p read at seen called =
    pays (looked 1) heading_setext_text_after_rows (omega arith) (
      λ w is b text p m. let q = at-feed text p w m is in omega arith,
      λ w others b text p m. let q = at-in-line text p w m others.0 in omega arith,
    )
    w b b text p at seen

pub heading_setext_start-pays : PaysRows flow never heading_setext_start
heading_setext_start-pays b w text p read at seen called =
    pays (reading 2) heading_setext_start_rows (omega arith) (
      λ w is b text p m. let q = at-feed text p w m is in omega arith,
      (
        λ w is b text p m. let q = at-blank text p w m is in omega arith,
        λ w others b text p m. let q = at-other text p w m others.1.0 others.0 in omega arith,
      ),
    )
    w b b text p at seen

pub heading_setext_before-pays : PaysRows flow never heading_setext_before
heading_setext_before-pays b w text p read at seen called =
    pays (reading 3) heading_setext_before_rows (omega arith) (
      λ w is b text p m. let q = at-blank text p w m is in omega arith,
      omega arith,
    )
    w b b text p at seen

pub heading_setext_inside-pays : PaysRows flow never heading_setext_inside
heading_setext_inside-pays b w text p read at seen called =
    pays (reading 3) heading_setext_inside_rows (omega arith) (
      λ w is b text p m. let q = at-word text p w m (underline-word w is) in omega arith,
      omega arith,
    )
    w b b text p at seen

pub heading_setext_after-pays : PaysRows flow never heading_setext_after
heading_setext_after-pays b w text p read at seen called =
    pays (reading 2) heading_setext_after_rows (omega arith) (
      λ w is b text p m. let q = at-feed text p w m is in omega arith,
      (
        λ w is b text p m. let q = at-blank text p w m is in omega arith,
        λ w others b text p m. let q = at-other text p w m others.1.0 others.0 in omega arith,
      ),
    )
    w b b text p at seen
