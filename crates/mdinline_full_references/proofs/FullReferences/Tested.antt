-- The rows of full references pass the tests of tables, with their prices, and link no events: in a table that tries one at each place, and reads a byte of data if none
-- is there.
use Rattle.std.proofs.Common.{◌≡◌, ℕ, List, [], ◌∷◌, ◌==◌, Bool, Option, Some, None, refl}
use Rattle.markdown_base.specs.declared.event.Name.TheVariants.{Data}
use Rattle.markdown_base.specs.declared.state.Name.{Name}
use Rattle.markdown_base.specs.declared.state.State.TheVariants.{Next, Retry, Ok}
use Rattle.markdown_base.specs.declared.state.TheConstants.Name.{LabelEndReferenceFull, TextBefore, TextBeforeData}
use Rattle.markdown_tokenizer.specs.Configuration.{Configuration}
use Rattle.markdown_tokenizer.specs.Sight.{Sight}
use Rattle.markdown_tokenizer.specs.Text.{Given}
use Rattle.mdconstructs_tables.specs.Numbers.{Price, AreEnough, by_left, priced_tests}
use Rattle.mdconstructs_tables.specs.Over.{unchanged}
use Rattle.mdconstructs_tables.specs.Rows.{Rows, Table, consume, enter, exit, row, state}
use Rattle.mdconstructs_tables.specs.Unlinked.{LinksNothing, RegisterNothing, linking}
use Rattle.mdinline_text_machine.specs.Construct.{tries}
use Rattle.mdinline_text_machine.specs.TextBytes.{TextByte, line_feed, text_byte, is_backtick_class}
use Rattle.mdinline_text_machine.specs.TextCosts.{text_cost}
use Rattle.mdinline_full_references.specs.FullReferenceRows.{full_references, reference_prices}

module _ (is_wanted : List ℕ → Bool) (wanted : Given → Sight → Configuration Unit Unit → Bool) where
  abbrev before_rows : (previous current : Option TextByte) → Rows Unit Unit
  before_rows _ None = row [] Ok
  before_rows _ (Some _) = tries TextBefore (full_references is_wanted wanted) (row [] (Retry TextBeforeData))

  abbrev data_rows : (previous current : Option TextByte) → Rows Unit Unit
  data_rows _ None = row [] Ok
  data_rows _ (Some _) = row (enter Data ∷ consume ∷ exit Data ∷ []) (Next TextBefore)

  abbrev trial : Table TextByte Unit Unit
  trial = record {
    class = text_byte;
    first = unchanged;
    states = state TextBefore before_rows [] (text_cost (by_left 1 4 4)) ∷ state TextBeforeData data_rows [] (text_cost (by_left 1 2 2)) ∷ (full_references is_wanted wanted).states;
    starts = TextBefore ∷ [];
  }

  abbrev prices : List (Price TextByte)
  prices = by_left 1 4 4 ∷ by_left 1 2 2 ∷ reference_prices

  -- a reference that is there has some bytes
  abbrev is_start : Name → Option TextByte → Bool
  is_start name w = name.number == LabelEndReferenceFull.number

  -- the home of the table is what attempts go on with
  abbrev is_home : Name → Bool
  is_home name = name.number == TextBefore.number

  tested : (previous current : Option TextByte) → priced_tests trial is_backtick_class prices is_start is_home previous current ≡ ([], [], [])
  tested previous (Some line_feed) = refl
  tested previous _ = refl

  enough : AreEnough trial is_backtick_class prices is_start is_home
  enough = record { priced = (refl, (refl, (refl, (refl, (refl, (refl, (refl, (refl, (refl, tt))))))))); falls = refl; tested = tested; kept = λ local. refl }

  -- no event has a link, and what is written registers no resolver and makes no edit
  linkless : (previous current : Option TextByte) → (linking trial.states previous current ≡ []) × RegisterNothing trial.states previous current
  linkless previous None = (refl, ((λ s k. (refl, refl)), tt))
  linkless previous (Some w) = (refl, ((λ s k. (refl, refl)), ((λ s k. (refl, refl)), ((λ s k. (refl, refl)), ((λ s k. (refl, refl)), ((λ s k. (refl, refl)), ((λ s k. (refl, refl)), ((λ s k. (refl, refl)), ((λ s k. (refl, refl)), ((λ s k. (refl, refl)), ((λ s k. (refl, refl)), ((λ s k. (refl, refl)), ((λ s k. (refl, refl)), ((λ s k. (refl, refl)), ((λ s k. (refl, refl)), ((λ s k. (refl, refl)), ((λ s k. (refl, refl)), ((λ s k. (refl, refl)), tt))))))))))))))))))

  links-nothing : LinksNothing trial
  links-nothing = record { first = λ s k. (refl, refl); rows = linkless }
