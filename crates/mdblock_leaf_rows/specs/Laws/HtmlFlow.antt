-- The costs of the states of HtmlFlow are enough.
use Rattle.std.proofs.Common.{arith, refl}
use Rattle.mdconstructs_tables.specs.RowTest.{never}
use Rattle.mdconstructs_tables.specs.RowInvariant.{PaysRows}
use Rattle.mdblock_leaf_rows.specs.FlowBytes.{is_closing, is_dash, is_greater, is_less, is_question, is_slash}
use Rattle.mdblock_leaf_rows.specs.FlowCosts.{at_next_line, looked, looking, reading}
use Rattle.mdblock_leaf_rows.specs.HtmlFlow.{html_flow_start_rows, html_flow_start, html_flow_continuation_rows, html_flow_continuation, html_flow_continuation_comment_inside_rows, html_flow_continuation_comment_inside, html_flow_continuation_cdata_inside_rows, html_flow_continuation_cdata_inside, html_flow_continuation_declaration_inside_rows, html_flow_continuation_declaration_inside, html_flow_continuation_raw_tag_open_rows, html_flow_continuation_raw_tag_open, html_flow_continuation_raw_end_tag_goes_on, html_flow_continuation_raw_end_tag_rows, html_flow_continuation_raw_end_tag, html_flow_continuation_close_rows, html_flow_continuation_close, html_flow_continuation_before_rows, html_flow_continuation_before, html_flow_blank_line_before_rows, html_flow_blank_line_before, html_flow_blank_line_inside_rows, html_flow_blank_line_inside, html_flow_continuation_after_rows, html_flow_continuation_after, html_flow_continuation_start_rows, html_flow_continuation_start}
use Rattle.mdblock_leaf_rows.specs.FlowTable.{flow}
use Rattle.mdblock_leaf_rows.specs.Laws.Measures.{word-of, name-word, at-feed, at-blank, at-word, at-in-line}
use Rattle.mdblock_leaf_rows.specs.Laws.Paying.{pays, pays-spelled}

pub html_flow_start-pays : PaysRows flow never html_flow_start
html_flow_start-pays b w text p read at seen called =
    pays (reading 6) html_flow_start_rows (omega arith) (
      λ w is b text p m. let q = at-feed text p w m is in omega arith,
      (
        λ w is b text p m. let q = at-blank text p w m is in omega arith,
        omega arith,
      ),
    )
    w b b text p at seen

pub html_flow_continuation-pays : PaysRows flow never html_flow_continuation
html_flow_continuation-pays b w text p read at seen called =
    pays (reading 5) html_flow_continuation_rows (omega arith) (
      λ w is b text p m. let q = at-feed text p w m is in omega arith,
      (
        λ w is b text p m. let q = at-word text p w m (word-of is_less refl refl w is) in omega arith,
        (
          λ w is b text p m. let q = at-word text p w m (word-of is_dash refl refl w is) in omega arith,
          (
            λ w is b text p m. let q = at-word text p w m (word-of is_question refl refl w is) in omega arith,
            (
              λ w is b text p m. let q = at-word text p w m (word-of is_greater refl refl w is) in omega arith,
              (
                λ w is b text p m. let q = at-word text p w m (word-of is_closing refl refl w is) in omega arith,
                λ w others b text p m. let q = at-in-line text p w m others.1.1.1.1.1.0 in omega arith,
              ),
            ),
          ),
        ),
      ),
    )
    w b b text p at seen

pub html_flow_continuation_comment_inside-pays : PaysRows flow never html_flow_continuation_comment_inside
html_flow_continuation_comment_inside-pays b w text p read at seen called =
    pays (reading 6) html_flow_continuation_comment_inside_rows (omega arith) (
      λ w is b text p m. let q = at-word text p w m (word-of is_dash refl refl w is) in omega arith,
      omega arith,
    )
    w b b text p at seen

pub html_flow_continuation_cdata_inside-pays : PaysRows flow never html_flow_continuation_cdata_inside
html_flow_continuation_cdata_inside-pays b w text p read at seen called =
    pays (reading 6) html_flow_continuation_cdata_inside_rows (omega arith) (
      λ w is b text p m. let q = at-word text p w m (word-of is_closing refl refl w is) in omega arith,
      omega arith,
    )
    w b b text p at seen

pub html_flow_continuation_declaration_inside-pays : PaysRows flow never html_flow_continuation_declaration_inside
html_flow_continuation_declaration_inside-pays b w text p read at seen called =
    pays (reading 6) html_flow_continuation_declaration_inside_rows (omega arith) (
      λ w is b text p m. let q = at-word text p w m (word-of is_greater refl refl w is) in omega arith,
      (
        λ w is b text p m. let q = at-word text p w m (word-of is_dash refl refl w is) in omega arith,
        (
          λ w is b text p m. let q = at-word text p w m (word-of is_question refl refl w is) in omega arith,
          (
            λ w is b text p m. let q = at-word text p w m (word-of is_closing refl refl w is) in omega arith,
            omega arith,
          ),
        ),
      ),
    )
    w b b text p at seen

pub html_flow_continuation_raw_tag_open-pays : PaysRows flow never html_flow_continuation_raw_tag_open
html_flow_continuation_raw_tag_open-pays b w text p read at seen called =
    pays (reading 6) html_flow_continuation_raw_tag_open_rows (omega arith) (
      λ w is b text p m. let q = at-word text p w m (word-of is_slash refl refl w is) in omega arith,
      omega arith,
    )
    w b b text p at seen

pub html_flow_continuation_raw_end_tag-pays : PaysRows flow never html_flow_continuation_raw_end_tag
html_flow_continuation_raw_end_tag-pays b w text p read at seen called =
    pays-spelled (reading 6) html_flow_continuation_raw_end_tag_goes_on html_flow_continuation_raw_end_tag_rows (omega arith) (λ w byte is b text p m. let q = at-word text p w m (name-word w byte is) in omega arith) (
      λ w is b text p m. let q = at-word text p w m (word-of is_greater refl refl w is) in omega arith,
      omega arith,
    )
    w b b text p at seen

pub html_flow_continuation_close-pays : PaysRows flow never html_flow_continuation_close
html_flow_continuation_close-pays b w text p read at seen called =
    pays (reading 3) html_flow_continuation_close_rows (omega arith) (
      λ w is b text p m. let q = at-feed text p w m is in omega arith,
      λ w others b text p m. let q = at-in-line text p w m others.0 in omega arith,
    )
    w b b text p at seen

pub html_flow_continuation_before-pays : PaysRows flow never html_flow_continuation_before
html_flow_continuation_before-pays b w text p read at seen called =
    pays (reading 6) html_flow_continuation_before_rows (omega arith) (
      λ w is b text p m. let q = at-feed text p w m is in omega arith,
      omega arith,
    )
    w b b text p at seen

pub html_flow_blank_line_before-pays : PaysRows flow never html_flow_blank_line_before
html_flow_blank_line_before-pays b w text p read at seen called =
    pays (at_next_line 2) html_flow_blank_line_before_rows (omega arith) (
      λ w is b text p m. let q = at-feed text p w m is in omega arith,
      omega arith,
    )
    w b b text p at seen

pub html_flow_blank_line_inside-pays : PaysRows flow never html_flow_blank_line_inside
html_flow_blank_line_inside-pays b w text p read at seen called =
    pays (looking 1) html_flow_blank_line_inside_rows (omega arith) (
      λ w is b text p m. let q = at-feed text p w m is in omega arith,
      (
        λ w is b text p m. let q = at-blank text p w m is in omega arith,
        omega arith,
      ),
    )
    w b b text p at seen

pub html_flow_continuation_after-pays : PaysRows flow never html_flow_continuation_after
html_flow_continuation_after-pays b w text p read at seen called =
    pays (looked 2) html_flow_continuation_after_rows (omega arith) (
      λ w is b text p m. let q = at-feed text p w m is in omega arith,
      omega arith,
    )
    w b b text p at seen

pub html_flow_continuation_start-pays : PaysRows flow never html_flow_continuation_start
html_flow_continuation_start-pays b w text p read at seen called =
    pays (looked 2) html_flow_continuation_start_rows (omega arith) (
      λ w is b text p m. let q = at-feed text p w m is in omega arith,
      omega arith,
    )
    w b b text p at seen
