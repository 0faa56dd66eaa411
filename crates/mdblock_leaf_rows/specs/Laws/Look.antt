-- The costs of the states of Look are enough.
use Rattle.std.proofs.Common.{arith, refl}
use Rattle.mdconstructs_tables.specs.RowTest.{never}
use Rattle.mdconstructs_tables.specs.RowInvariant.{PaysRows}
use Rattle.mdblock_leaf_rows.specs.FlowBytes.{is_less}
use Rattle.mdblock_leaf_rows.specs.FlowCosts.{looking, at_next_line}
use Rattle.mdblock_leaf_rows.specs.Look.{flow_blank_line_before_rows, flow_blank_line_before, paragraph_look_start_rows, paragraph_look_start}
use Rattle.mdblock_leaf_rows.specs.FlowTable.{flow}
use Rattle.mdblock_leaf_rows.specs.Laws.Measures.{word-of, sign-word, star-word, underscore-word, dash-word, equals-word, tick-word, tilde-word, at-feed, at-blank, at-word, at-other, at-in-line}
use Rattle.mdblock_leaf_rows.specs.Laws.Paying.{pays}

pub flow_blank_line_before-pays : PaysRows flow never flow_blank_line_before
flow_blank_line_before-pays b w text p read at seen called =
    pays (looking 2) flow_blank_line_before_rows (omega arith) (
      λ w is b text p m. let q = at-feed text p w m is in omega arith,
      (
        λ w is b text p m. let q = at-blank text p w m is in omega arith,
        (
          λ w is b text p m. let q = at-word text p w m (sign-word w is) in omega arith,
          (
            λ w is b text p m. let q = at-word text p w m (star-word w is) in omega arith,
            (
              λ w is b text p m. let q = at-word text p w m (underscore-word w is) in omega arith,
              (
                λ w is b text p m. let q = at-word text p w m (dash-word w is) in omega arith,
                (
                  λ w is b text p m. let q = at-word text p w m (equals-word w is) in omega arith,
                  (
                    λ w is b text p m. let q = at-word text p w m (tick-word w is) in omega arith,
                    (
                      λ w is b text p m. let q = at-word text p w m (tilde-word w is) in omega arith,
                      (
                        λ w is b text p m. let q = at-word text p w m (word-of is_less refl refl w is) in omega arith,
                        λ w others b text p m. let q = at-other text p w m others.1.1.1.1.1.1.1.1.1.0 others.1.1.1.1.1.1.1.1.0 in omega arith,
                      ),
                    ),
                  ),
                ),
              ),
            ),
          ),
        ),
      ),
    )
    w b b text p at seen

pub paragraph_look_start-pays : PaysRows flow never paragraph_look_start
paragraph_look_start-pays b w text p read at seen called =
    pays (at_next_line 3) paragraph_look_start_rows (omega arith) (
      λ w is b text p m. let q = at-feed text p w m is in omega arith,
      λ w others b text p m. let q = at-in-line text p w m others.0 in omega arith,
    )
    w b b text p at seen
