-- The costs of the states of HeadingAtx are enough.
use Rattle.std.proofs.Common.{arith}
use Rattle.mdconstructs_tables.specs.RowTest.{never}
use Rattle.mdconstructs_tables.specs.RowInvariant.{PaysRows}
use Rattle.mdblock_leaf_rows.specs.FlowCosts.{looking, reading}
use Rattle.mdblock_leaf_rows.specs.HeadingAtx.{flow_before_heading_atx_rows, flow_before_heading_atx, heading_atx_look_start_rows, heading_atx_look_start, heading_atx_look_text_rows, heading_atx_look_text, heading_atx_look_blank_rows, heading_atx_look_blank, heading_atx_look_signs_rows, heading_atx_look_signs, heading_atx_look_after_rows, heading_atx_look_after, heading_atx_start_rows, heading_atx_start, heading_atx_sequence_open_rows, heading_atx_sequence_open, heading_atx_at_break_rows, heading_atx_at_break, heading_atx_before_rows, heading_atx_before, heading_atx_data_rows, heading_atx_data}
use Rattle.mdblock_leaf_rows.specs.FlowTable.{flow}
use Rattle.mdblock_leaf_rows.specs.Laws.Measures.{sign-word, at-feed, at-blank, at-word, at-other, at-in-line}
use Rattle.mdblock_leaf_rows.specs.Laws.Paying.{pays}

pub flow_before_heading_atx-pays : PaysRows flow never flow_before_heading_atx
flow_before_heading_atx-pays b w text p read at seen called =
    pays (looking 1) flow_before_heading_atx_rows (omega arith) (
      λ w is b text p m. let q = at-feed text p w m is in omega arith,
      (
        λ w is b text p m. let q = at-blank text p w m is in omega arith,
        (
          λ w is b text p m. let q = at-word text p w m (sign-word w is) in omega arith,
          λ w others b text p m. let q = at-other text p w m others.1.1.0 others.1.0 in omega arith,
        ),
      ),
    )
    w b b text p at seen

pub heading_atx_look_start-pays : PaysRows flow never heading_atx_look_start
heading_atx_look_start-pays b w text p read at seen called =
    pays (looking 1) heading_atx_look_start_rows (omega arith) (
      λ w is b text p m. let q = at-feed text p w m is in omega arith,
      (
        λ w is b text p m. let q = at-blank text p w m is in omega arith,
        (
          λ w is b text p m. let q = at-word text p w m (sign-word w is) in omega arith,
          λ w others b text p m. let q = at-other text p w m others.1.1.0 others.1.0 in omega arith,
        ),
      ),
    )
    w b b text p at seen

pub heading_atx_look_text-pays : PaysRows flow never heading_atx_look_text
heading_atx_look_text-pays b w text p read at seen called =
    pays (looking 1) heading_atx_look_text_rows (omega arith) (
      λ w is b text p m. let q = at-feed text p w m is in omega arith,
      (
        λ w is b text p m. let q = at-blank text p w m is in omega arith,
        λ w others b text p m. let q = at-other text p w m others.1.0 others.0 in omega arith,
      ),
    )
    w b b text p at seen

pub heading_atx_look_blank-pays : PaysRows flow never heading_atx_look_blank
heading_atx_look_blank-pays b w text p read at seen called =
    pays (looking 1) heading_atx_look_blank_rows (omega arith) (
      λ w is b text p m. let q = at-feed text p w m is in omega arith,
      (
        λ w is b text p m. let q = at-blank text p w m is in omega arith,
        (
          λ w is b text p m. let q = at-word text p w m (sign-word w is) in omega arith,
          λ w others b text p m. let q = at-other text p w m others.1.1.0 others.1.0 in omega arith,
        ),
      ),
    )
    w b b text p at seen

pub heading_atx_look_signs-pays : PaysRows flow never heading_atx_look_signs
heading_atx_look_signs-pays b w text p read at seen called =
    pays (looking 1) heading_atx_look_signs_rows (omega arith) (
      λ w is b text p m. let q = at-feed text p w m is in omega arith,
      (
        λ w is b text p m. let q = at-blank text p w m is in omega arith,
        (
          λ w is b text p m. let q = at-word text p w m (sign-word w is) in omega arith,
          λ w others b text p m. let q = at-other text p w m others.1.1.0 others.1.0 in omega arith,
        ),
      ),
    )
    w b b text p at seen

pub heading_atx_look_after-pays : PaysRows flow never heading_atx_look_after
heading_atx_look_after-pays b w text p read at seen called =
    pays (looking 1) heading_atx_look_after_rows (omega arith) (
      λ w is b text p m. let q = at-feed text p w m is in omega arith,
      (
        λ w is b text p m. let q = at-blank text p w m is in omega arith,
        (
          λ w is b text p m. let q = at-word text p w m (sign-word w is) in omega arith,
          λ w others b text p m. let q = at-other text p w m others.1.1.0 others.1.0 in omega arith,
        ),
      ),
    )
    w b b text p at seen

pub heading_atx_start-pays : PaysRows flow never heading_atx_start
heading_atx_start-pays b w text p read at seen called =
    pays (reading 3) heading_atx_start_rows (omega arith) (
      λ w is b text p m. let q = at-blank text p w m is in omega arith,
      (
        λ w is b text p m. let q = at-word text p w m (sign-word w is) in omega arith,
        omega arith,
      ),
    )
    w b b text p at seen

pub heading_atx_sequence_open-pays : PaysRows flow never heading_atx_sequence_open
heading_atx_sequence_open-pays b w text p read at seen called =
    pays (reading 3) heading_atx_sequence_open_rows (omega arith) (
      λ w is b text p m. let q = at-word text p w m (sign-word w is) in omega arith,
      omega arith,
    )
    w b b text p at seen

pub heading_atx_at_break-pays : PaysRows flow never heading_atx_at_break
heading_atx_at_break-pays b w text p read at seen called =
    pays (reading 2) heading_atx_at_break_rows (omega arith) (
      λ w is b text p m. let q = at-feed text p w m is in omega arith,
      (
        λ w is b text p m. let q = at-blank text p w m is in omega arith,
        λ w others b text p m. let q = at-other text p w m others.1.0 others.0 in omega arith,
      ),
    )
    w b b text p at seen

pub heading_atx_before-pays : PaysRows flow never heading_atx_before
heading_atx_before-pays b w text p read at seen called =
    pays (reading 3) heading_atx_before_rows (omega arith) (
      λ w is b text p m. let q = at-blank text p w m is in omega arith,
      omega arith,
    )
    w b b text p at seen

pub heading_atx_data-pays : PaysRows flow never heading_atx_data
heading_atx_data-pays b w text p read at seen called =
    pays (reading 3) heading_atx_data_rows (omega arith) (
      λ w is b text p m. let q = at-feed text p w m is in omega arith,
      λ w others b text p m. let q = at-in-line text p w m others.0 in omega arith,
    )
    w b b text p at seen
