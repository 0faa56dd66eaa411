-- The costs of the states of CodeFenced are enough.
use Rattle.std.proofs.Common.{arith}
use Rattle.mdconstructs_tables.specs.RowTest.{never}
use Rattle.mdconstructs_tables.specs.RowInvariant.{PaysRows}
use Rattle.mdblock_leaf_rows.specs.FlowCosts.{looking, at_next_line, reading, looked}
use Rattle.mdblock_leaf_rows.specs.CodeFenced.{flow_before_raw_rows, flow_before_raw, raw_flow_look_info_rows, raw_flow_look_info, raw_flow_start_rows, raw_flow_start, raw_flow_sequence_open_rows, raw_flow_sequence_open, raw_flow_info_before_rows, raw_flow_info_before, raw_flow_before_sequence_open_rows, raw_flow_before_sequence_open, raw_flow_info_rows, raw_flow_info, raw_flow_info_after_rows, raw_flow_info_after, raw_flow_meta_before_rows, raw_flow_meta_before, raw_flow_meta_rows, raw_flow_meta, raw_flow_at_non_lazy_break_rows, raw_flow_at_non_lazy_break, raw_flow_close_start_rows, raw_flow_close_start, raw_flow_before_sequence_close_rows, raw_flow_before_sequence_close, raw_flow_sequence_close_rows, raw_flow_sequence_close, raw_flow_after_sequence_close_rows, raw_flow_after_sequence_close, raw_flow_content_before_rows, raw_flow_content_before, raw_flow_content_start_rows, raw_flow_content_start, raw_flow_before_content_chunk_rows, raw_flow_before_content_chunk, raw_flow_content_chunk_rows, raw_flow_content_chunk, raw_flow_after_rows, raw_flow_after, raw_flow_close_before_rows, raw_flow_close_before, raw_flow_close_blank_rows, raw_flow_close_blank, raw_flow_close_sequence_rows, raw_flow_close_sequence, raw_flow_close_between_rows, raw_flow_close_between}
use Rattle.mdblock_leaf_rows.specs.FlowTable.{flow}
use Rattle.mdblock_leaf_rows.specs.Laws.Measures.{tick-word, fence-word, at-feed, at-blank, at-word, at-other, at-in-line}
use Rattle.mdblock_leaf_rows.specs.Laws.Paying.{pays}

pub flow_before_raw-pays : PaysRows flow never flow_before_raw
flow_before_raw-pays b w text p read at seen called =
    pays (looking 2) flow_before_raw_rows (omega arith) (
      λ w is b text p m. let q = at-word text p w m (fence-word w is) in omega arith,
      omega arith,
    )
    w b b text p at seen

pub raw_flow_look_info-pays : PaysRows flow never raw_flow_look_info
raw_flow_look_info-pays b w text p read at seen called =
    pays (looking 1) raw_flow_look_info_rows (omega arith) (
      λ w is b text p m. let q = at-feed text p w m is in omega arith,
      (
        λ w is b text p m. let q = at-word text p w m (tick-word w is) in omega arith,
        λ w others b text p m. let q = at-in-line text p w m others.1.0 in omega arith,
      ),
    )
    w b b text p at seen

pub raw_flow_start-pays : PaysRows flow never raw_flow_start
raw_flow_start-pays b w text p read at seen called =
    pays (reading 8) raw_flow_start_rows (omega arith) (
      λ w is b text p m. let q = at-blank text p w m is in omega arith,
      (
        λ w is b text p m. let q = at-word text p w m (fence-word w is) in omega arith,
        omega arith,
      ),
    )
    w b b text p at seen

pub raw_flow_sequence_open-pays : PaysRows flow never raw_flow_sequence_open
raw_flow_sequence_open-pays b w text p read at seen called =
    pays (reading 8) raw_flow_sequence_open_rows (omega arith) (
      λ w is b text p m. let q = at-word text p w m (fence-word w is) in omega arith,
      omega arith,
    )
    w b b text p at seen

pub raw_flow_info_before-pays : PaysRows flow never raw_flow_info_before
raw_flow_info_before-pays b w text p read at seen called =
    pays (reading 7) raw_flow_info_before_rows (omega arith) (
      λ w is b text p m. let q = at-feed text p w m is in omega arith,
      (
        λ w is b text p m. let q = at-blank text p w m is in omega arith,
        λ w others b text p m. let q = at-other text p w m others.1.0 others.0 in omega arith,
      ),
    )
    w b b text p at seen

pub raw_flow_before_sequence_open-pays : PaysRows flow never raw_flow_before_sequence_open
raw_flow_before_sequence_open-pays b w text p read at seen called =
    pays (reading 8) raw_flow_before_sequence_open_rows (omega arith) (
      λ w is b text p m. let q = at-blank text p w m is in omega arith,
      omega arith,
    )
    w b b text p at seen

pub raw_flow_info-pays : PaysRows flow never raw_flow_info
raw_flow_info-pays b w text p read at seen called =
    pays (reading 6) raw_flow_info_rows (omega arith) (
      λ w is b text p m. let q = at-feed text p w m is in omega arith,
      (
        λ w is b text p m. let q = at-blank text p w m is in omega arith,
        λ w others b text p m. let q = at-other text p w m others.1.0 others.0 in omega arith,
      ),
    )
    w b b text p at seen

pub raw_flow_info_after-pays : PaysRows flow never raw_flow_info_after
raw_flow_info_after-pays b w text p read at seen called =
    pays (reading 7) raw_flow_info_after_rows (omega arith) (
      λ w is b text p m. let q = at-blank text p w m is in omega arith,
      omega arith,
    )
    w b b text p at seen

pub raw_flow_meta_before-pays : PaysRows flow never raw_flow_meta_before
raw_flow_meta_before-pays b w text p read at seen called =
    pays (reading 6) raw_flow_meta_before_rows (omega arith) (
      λ w is b text p m. let q = at-feed text p w m is in omega arith,
      λ w others b text p m. let q = at-in-line text p w m others.0 in omega arith,
    )
    w b b text p at seen

pub raw_flow_meta-pays : PaysRows flow never raw_flow_meta
raw_flow_meta-pays b w text p read at seen called =
    pays (reading 5) raw_flow_meta_rows (omega arith) (
      λ w is b text p m. let q = at-feed text p w m is in omega arith,
      λ w others b text p m. let q = at-in-line text p w m others.0 in omega arith,
    )
    w b b text p at seen

pub raw_flow_at_non_lazy_break-pays : PaysRows flow never raw_flow_at_non_lazy_break
raw_flow_at_non_lazy_break-pays b w text p read at seen called =
    pays (reading 4) raw_flow_at_non_lazy_break_rows (omega arith) (
      λ w is b text p m. let q = at-feed text p w m is in omega arith,
      λ w others b text p m. let q = at-in-line text p w m others.0 in omega arith,
    )
    w b b text p at seen

pub raw_flow_close_start-pays : PaysRows flow never raw_flow_close_start
raw_flow_close_start-pays b w text p read at seen called =
    pays (at_next_line 2) raw_flow_close_start_rows (omega arith) (
      λ w is b text p m. let q = at-feed text p w m is in omega arith,
      λ w others b text p m. let q = at-in-line text p w m others.0 in omega arith,
    )
    w b b text p at seen

pub raw_flow_before_sequence_close-pays : PaysRows flow never raw_flow_before_sequence_close
raw_flow_before_sequence_close-pays b w text p read at seen called =
    pays (looking 1) raw_flow_before_sequence_close_rows (omega arith) (
      λ w is b text p m. let q = at-blank text p w m is in omega arith,
      (
        λ w is b text p m. let q = at-word text p w m (fence-word w is) in omega arith,
        omega arith,
      ),
    )
    w b b text p at seen

pub raw_flow_sequence_close-pays : PaysRows flow never raw_flow_sequence_close
raw_flow_sequence_close-pays b w text p read at seen called =
    pays (looking 1) raw_flow_sequence_close_rows (omega arith) (
      λ w is b text p m. let q = at-feed text p w m is in omega arith,
      (
        λ w is b text p m. let q = at-blank text p w m is in omega arith,
        (
          λ w is b text p m. let q = at-word text p w m (fence-word w is) in omega arith,
          λ w others b text p m. let q = at-other text p w m others.1.1.0 others.1.0 in omega arith,
        ),
      ),
    )
    w b b text p at seen

pub raw_flow_after_sequence_close-pays : PaysRows flow never raw_flow_after_sequence_close
raw_flow_after_sequence_close-pays b w text p read at seen called =
    pays (looking 1) raw_flow_after_sequence_close_rows (omega arith) (
      λ w is b text p m. let q = at-feed text p w m is in omega arith,
      (
        λ w is b text p m. let q = at-blank text p w m is in omega arith,
        λ w others b text p m. let q = at-other text p w m others.1.0 others.0 in omega arith,
      ),
    )
    w b b text p at seen

pub raw_flow_content_before-pays : PaysRows flow never raw_flow_content_before
raw_flow_content_before-pays b w text p read at seen called =
    pays (looked 1) raw_flow_content_before_rows (omega arith) (
      λ w is b text p m. let q = at-feed text p w m is in omega arith,
      λ w others b text p m. let q = at-in-line text p w m others.0 in omega arith,
    )
    w b b text p at seen

pub raw_flow_content_start-pays : PaysRows flow never raw_flow_content_start
raw_flow_content_start-pays b w text p read at seen called =
    pays (reading 5) raw_flow_content_start_rows (omega arith) (
      λ w is b text p m. let q = at-feed text p w m is in omega arith,
      (
        λ w is b text p m. let q = at-blank text p w m is in omega arith,
        λ w others b text p m. let q = at-other text p w m others.1.0 others.0 in omega arith,
      ),
    )
    w b b text p at seen

pub raw_flow_before_content_chunk-pays : PaysRows flow never raw_flow_before_content_chunk
raw_flow_before_content_chunk-pays b w text p read at seen called =
    pays (reading 5) raw_flow_before_content_chunk_rows (omega arith) (
      λ w is b text p m. let q = at-feed text p w m is in omega arith,
      (
        λ w is b text p m. let q = at-blank text p w m is in omega arith,
        λ w others b text p m. let q = at-other text p w m others.1.0 others.0 in omega arith,
      ),
    )
    w b b text p at seen

pub raw_flow_content_chunk-pays : PaysRows flow never raw_flow_content_chunk
raw_flow_content_chunk-pays b w text p read at seen called =
    pays (reading 5) raw_flow_content_chunk_rows (omega arith) (
      λ w is b text p m. let q = at-feed text p w m is in omega arith,
      λ w others b text p m. let q = at-in-line text p w m others.0 in omega arith,
    )
    w b b text p at seen

pub raw_flow_after-pays : PaysRows flow never raw_flow_after
raw_flow_after-pays b w text p read at seen called =
    pays (looked 1) raw_flow_after_rows (omega arith) (
      λ w is b text p m. let q = at-feed text p w m is in omega arith,
      λ w others b text p m. let q = at-in-line text p w m others.0 in omega arith,
    )
    w b b text p at seen

pub raw_flow_close_before-pays : PaysRows flow never raw_flow_close_before
raw_flow_close_before-pays b w text p read at seen called =
    pays (reading 2) raw_flow_close_before_rows (omega arith) (
      λ w is b text p m. let q = at-feed text p w m is in omega arith,
      (
        λ w is b text p m. let q = at-blank text p w m is in omega arith,
        λ w others b text p m. let q = at-other text p w m others.1.0 others.0 in omega arith,
      ),
    )
    w b b text p at seen

pub raw_flow_close_blank-pays : PaysRows flow never raw_flow_close_blank
raw_flow_close_blank-pays b w text p read at seen called =
    pays (reading 3) raw_flow_close_blank_rows (omega arith) (
      λ w is b text p m. let q = at-blank text p w m is in omega arith,
      omega arith,
    )
    w b b text p at seen

pub raw_flow_close_sequence-pays : PaysRows flow never raw_flow_close_sequence
raw_flow_close_sequence-pays b w text p read at seen called =
    pays (reading 3) raw_flow_close_sequence_rows (omega arith) (
      λ w is b text p m. let q = at-word text p w m (fence-word w is) in omega arith,
      omega arith,
    )
    w b b text p at seen

pub raw_flow_close_between-pays : PaysRows flow never raw_flow_close_between
raw_flow_close_between-pays b w text p read at seen called =
    pays (reading 2) raw_flow_close_between_rows (omega arith) (
      λ w is b text p m. let q = at-feed text p w m is in omega arith,
      (
        λ w is b text p m. let q = at-blank text p w m is in omega arith,
        λ w others b text p m. let q = at-other text p w m others.1.0 others.0 in omega arith,
      ),
    )
    w b b text p at seen
