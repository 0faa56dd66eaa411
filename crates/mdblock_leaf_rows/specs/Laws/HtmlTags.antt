-- The costs of the states of HtmlTags are enough.
use Rattle.std.proofs.Common.{arith, refl}
use Rattle.mdconstructs_tables.specs.RowTest.{never}
use Rattle.mdconstructs_tables.specs.RowInvariant.{PaysRows}
use Rattle.mdblock_leaf_rows.specs.FlowBytes.{begins_name, is_bang, is_dash, is_double, is_equals, is_greater, is_in_name, is_letter, is_opening, is_quote, is_single, is_slash}
use Rattle.mdblock_leaf_rows.specs.FlowCosts.{looking}
use Rattle.mdblock_leaf_rows.specs.HtmlTags.{html_flow_open_rows, html_flow_open, html_flow_declaration_open_rows, html_flow_declaration_open, html_flow_comment_open_inside_rows, html_flow_comment_open_inside, html_flow_cdata_open_inside_rows, html_flow_cdata_open_inside, html_flow_tag_close_start_rows, html_flow_tag_close_start, html_flow_tag_name_goes_on, html_flow_tag_name_rows, html_flow_tag_name, html_flow_basic_self_closing_rows, html_flow_basic_self_closing, html_flow_complete_closing_tag_after_rows, html_flow_complete_closing_tag_after, html_flow_complete_end_rows, html_flow_complete_end, html_flow_complete_attribute_name_before_rows, html_flow_complete_attribute_name_before, html_flow_complete_attribute_name_rows, html_flow_complete_attribute_name, html_flow_complete_attribute_name_after_rows, html_flow_complete_attribute_name_after, html_flow_complete_attribute_value_before_rows, html_flow_complete_attribute_value_before, html_flow_complete_attribute_value_quoted_rows, html_flow_complete_attribute_value_quoted, html_flow_complete_attribute_value_quoted_after_rows, html_flow_complete_attribute_value_quoted_after, html_flow_complete_attribute_value_unquoted_rows, html_flow_complete_attribute_value_unquoted, html_flow_complete_after_rows, html_flow_complete_after}
use Rattle.mdblock_leaf_rows.specs.FlowTable.{flow}
use Rattle.mdblock_leaf_rows.specs.Laws.Measures.{word-of, name-word, at-feed, at-blank, at-word, at-in-line}
use Rattle.mdblock_leaf_rows.specs.Laws.Paying.{pays, pays-spelled}

pub html_flow_open-pays : PaysRows flow never html_flow_open
html_flow_open-pays b w text p read at seen called =
    pays (looking 2) html_flow_open_rows (omega arith) (
      omega arith,
      (
        λ w is b text p m. let q = at-word text p w m (word-of is_slash refl refl w is) in omega arith,
        (
          λ w is b text p m. let q = at-word text p w m (word-of is_bang refl refl w is) in omega arith,
          (
            omega arith,
            omega arith,
          ),
        ),
      ),
    )
    w b b text p at seen

pub html_flow_declaration_open-pays : PaysRows flow never html_flow_declaration_open
html_flow_declaration_open-pays b w text p read at seen called =
    pays (looking 1) html_flow_declaration_open_rows (omega arith) (
      omega arith,
      (
        λ w is b text p m. let q = at-word text p w m (word-of is_dash refl refl w is) in omega arith,
        (
          λ w is b text p m. let q = at-word text p w m (word-of is_opening refl refl w is) in omega arith,
          omega arith,
        ),
      ),
    )
    w b b text p at seen

pub html_flow_comment_open_inside-pays : PaysRows flow never html_flow_comment_open_inside
html_flow_comment_open_inside-pays b w text p read at seen called =
    pays (looking 1) html_flow_comment_open_inside_rows (omega arith) (
      omega arith,
      omega arith,
    )
    w b b text p at seen

pub html_flow_cdata_open_inside-pays : PaysRows flow never html_flow_cdata_open_inside
html_flow_cdata_open_inside-pays b w text p read at seen called =
    pays (looking 1) html_flow_cdata_open_inside_rows (omega arith) (
      λ w is b text p m. let q = at-word text p w m (word-of is_letter refl refl w is) in omega arith,
      (
        omega arith,
        omega arith,
      ),
    )
    w b b text p at seen

pub html_flow_tag_close_start-pays : PaysRows flow never html_flow_tag_close_start
html_flow_tag_close_start-pays b w text p read at seen called =
    pays (looking 2) html_flow_tag_close_start_rows (omega arith) (
      omega arith,
      omega arith,
    )
    w b b text p at seen

pub html_flow_tag_name-pays : PaysRows flow never html_flow_tag_name
html_flow_tag_name-pays b w text p read at seen called =
    pays-spelled (looking 1) html_flow_tag_name_goes_on html_flow_tag_name_rows (omega arith) (λ w byte is b text p m. let q = at-word text p w m (name-word w byte is) in omega arith) (
      λ w is b text p m. let q = at-feed text p w m is in omega arith,
      (
        λ w is b text p m. let q = at-blank text p w m is in omega arith,
        (
          λ w is b text p m. let q = at-word text p w m (word-of is_greater refl refl w is) in omega arith,
          (
            λ w is b text p m. let q = at-word text p w m (word-of is_slash refl refl w is) in omega arith,
            (
              λ w is b text p m. let q = at-word text p w m (word-of is_dash refl refl w is) in omega arith,
              omega arith,
            ),
          ),
        ),
      ),
    )
    w b b text p at seen

pub html_flow_basic_self_closing-pays : PaysRows flow never html_flow_basic_self_closing
html_flow_basic_self_closing-pays b w text p read at seen called =
    pays (looking 1) html_flow_basic_self_closing_rows (omega arith) (
      omega arith,
      omega arith,
    )
    w b b text p at seen

pub html_flow_complete_closing_tag_after-pays : PaysRows flow never html_flow_complete_closing_tag_after
html_flow_complete_closing_tag_after-pays b w text p read at seen called =
    pays (looking 1) html_flow_complete_closing_tag_after_rows (omega arith) (
      λ w is b text p m. let q = at-blank text p w m is in omega arith,
      (
        λ w is b text p m. let q = at-word text p w m (word-of is_greater refl refl w is) in omega arith,
        omega arith,
      ),
    )
    w b b text p at seen

pub html_flow_complete_end-pays : PaysRows flow never html_flow_complete_end
html_flow_complete_end-pays b w text p read at seen called =
    pays (looking 1) html_flow_complete_end_rows (omega arith) (
      λ w is b text p m. let q = at-word text p w m (word-of is_greater refl refl w is) in omega arith,
      omega arith,
    )
    w b b text p at seen

pub html_flow_complete_attribute_name_before-pays : PaysRows flow never html_flow_complete_attribute_name_before
html_flow_complete_attribute_name_before-pays b w text p read at seen called =
    pays (looking 1) html_flow_complete_attribute_name_before_rows (omega arith) (
      λ w is b text p m. let q = at-blank text p w m is in omega arith,
      (
        λ w is b text p m. let q = at-word text p w m (word-of begins_name refl refl w is) in omega arith,
        (
          λ w is b text p m. let q = at-word text p w m (word-of is_slash refl refl w is) in omega arith,
          (
            λ w is b text p m. let q = at-word text p w m (word-of is_greater refl refl w is) in omega arith,
            omega arith,
          ),
        ),
      ),
    )
    w b b text p at seen

pub html_flow_complete_attribute_name-pays : PaysRows flow never html_flow_complete_attribute_name
html_flow_complete_attribute_name-pays b w text p read at seen called =
    pays (looking 1) html_flow_complete_attribute_name_rows (omega arith) (
      λ w is b text p m. let q = at-word text p w m (word-of is_in_name refl refl w is) in omega arith,
      (
        λ w is b text p m. let q = at-blank text p w m is in omega arith,
        (
          λ w is b text p m. let q = at-word text p w m (word-of is_equals refl refl w is) in omega arith,
          (
            λ w is b text p m. let q = at-word text p w m (word-of is_slash refl refl w is) in omega arith,
            (
              λ w is b text p m. let q = at-word text p w m (word-of is_greater refl refl w is) in omega arith,
              omega arith,
            ),
          ),
        ),
      ),
    )
    w b b text p at seen

pub html_flow_complete_attribute_name_after-pays : PaysRows flow never html_flow_complete_attribute_name_after
html_flow_complete_attribute_name_after-pays b w text p read at seen called =
    pays (looking 1) html_flow_complete_attribute_name_after_rows (omega arith) (
      λ w is b text p m. let q = at-blank text p w m is in omega arith,
      (
        λ w is b text p m. let q = at-word text p w m (word-of is_equals refl refl w is) in omega arith,
        (
          λ w is b text p m. let q = at-word text p w m (word-of begins_name refl refl w is) in omega arith,
          (
            λ w is b text p m. let q = at-word text p w m (word-of is_slash refl refl w is) in omega arith,
            (
              λ w is b text p m. let q = at-word text p w m (word-of is_greater refl refl w is) in omega arith,
              omega arith,
            ),
          ),
        ),
      ),
    )
    w b b text p at seen

pub html_flow_complete_attribute_value_before-pays : PaysRows flow never html_flow_complete_attribute_value_before
html_flow_complete_attribute_value_before-pays b w text p read at seen called =
    pays (looking 1) html_flow_complete_attribute_value_before_rows (omega arith) (
      λ w is b text p m. let q = at-feed text p w m is in omega arith,
      (
        λ w is b text p m. let q = at-blank text p w m is in omega arith,
        (
          λ w is b text p m. let q = at-word text p w m (word-of is_double refl refl w is) in omega arith,
          (
            λ w is b text p m. let q = at-word text p w m (word-of is_single refl refl w is) in omega arith,
            (
              omega arith,
              λ w others b text p m. let q = at-in-line text p w m others.1.1.1.1.0 in omega arith,
            ),
          ),
        ),
      ),
    )
    w b b text p at seen

pub html_flow_complete_attribute_value_quoted-pays : PaysRows flow never html_flow_complete_attribute_value_quoted
html_flow_complete_attribute_value_quoted-pays b w text p read at seen called =
    pays (looking 1) html_flow_complete_attribute_value_quoted_rows (omega arith) (
      λ w is b text p m. let q = at-feed text p w m is in omega arith,
      (
        λ w is b text p m. let q = at-word text p w m (word-of is_quote refl refl w is) in omega arith,
        λ w others b text p m. let q = at-in-line text p w m others.1.0 in omega arith,
      ),
    )
    w b b text p at seen

pub html_flow_complete_attribute_value_quoted_after-pays : PaysRows flow never html_flow_complete_attribute_value_quoted_after
html_flow_complete_attribute_value_quoted_after-pays b w text p read at seen called =
    pays (looking 1) html_flow_complete_attribute_value_quoted_after_rows (omega arith) (
      λ w is b text p m. let q = at-blank text p w m is in omega arith,
      (
        λ w is b text p m. let q = at-word text p w m (word-of is_slash refl refl w is) in omega arith,
        (
          λ w is b text p m. let q = at-word text p w m (word-of is_greater refl refl w is) in omega arith,
          omega arith,
        ),
      ),
    )
    w b b text p at seen

pub html_flow_complete_attribute_value_unquoted-pays : PaysRows flow never html_flow_complete_attribute_value_unquoted
html_flow_complete_attribute_value_unquoted-pays b w text p read at seen called =
    pays (looking 1) html_flow_complete_attribute_value_unquoted_rows (omega arith) (
      λ w is b text p m. let q = at-feed text p w m is in omega arith,
      (
        λ w is b text p m. let q = at-blank text p w m is in omega arith,
        (
          λ w is b text p m. let q = at-word text p w m (word-of is_greater refl refl w is) in omega arith,
          (
            omega arith,
            λ w others b text p m. let q = at-in-line text p w m others.1.1.1.0 in omega arith,
          ),
        ),
      ),
    )
    w b b text p at seen

pub html_flow_complete_after-pays : PaysRows flow never html_flow_complete_after
html_flow_complete_after-pays b w text p read at seen called =
    pays (looking 1) html_flow_complete_after_rows (omega arith) (
      λ w is b text p m. let q = at-feed text p w m is in omega arith,
      (
        λ w is b text p m. let q = at-blank text p w m is in omega arith,
        omega arith,
      ),
    )
    w b b text p at seen
