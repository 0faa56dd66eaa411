-- The table of inline text passes the tests, with the numbers of its states; and its resolver makes links, images and emphasis. So the machine is lawful.
use Rattle.std.proofs.Common.{◌≡◌, ℕ, Bool, List, [], ◌∷◌, ◌++◌, inl, inr, Option, None, Some, true, refl, sym, subst}
use Rattle.std.proofs.lemmas.List.Elements.{All-from_recursion}
use Rattle.markdown_base.specs.declared.state.Name.{Name}
use Rattle.markdown_base.specs.declared.state.State.TheVariants.{Next, Retry}
use Rattle.markdown_base.specs.declared.state.TheConstants.Name.{StringBefore, StringStart, TextStart}
use Rattle.mdinline_machine.specs.declared.names.TheConstants.{TextLineStart}
use Rattle.markdown_base.specs.Events.{IsBalanced}
use Rattle.markdown_tokenizer.specs.Lawful.{IsLawful}
use Rattle.markdown_tokenizer.specs.Plain.{HaveNoLinks}
use Rattle.markdown_tokenizer.specs.Text.{Given}
use Rattle.mdconstructs_tables.specs.Late.{IsLate}
use Rattle.mdconstructs_tables.specs.Numbers.{by_left, priced_tests}
use Rattle.mdconstructs_tables.specs.Plans.{KeepsKnown, AllKeepKnown}
use Rattle.mdconstructs_tables.specs.Rows.{Cost, StateRows, row, state, write}
use Rattle.mdconstructs_tables.specs.Unlinked.{RegisterNothing}
use Rattle.mdconstructs_tables.proofs.Numbers.Enough.{numbered-late}
use Rattle.mdconstructs_tables.proofs.Tables.Lawful.{planned-lawful}
use Rattle.mdinline_links.proofs.LinkEdits.{links-can-be-made}
use Rattle.mdinline_text_machine.specs.TextBytes.{TextByte, line_feed, backtick, letter, digit, mark, is_backtick_class}
use Rattle.mdinline_text_machine.specs.TextCosts.{text_cost}
use Rattle.mdinline_text_machine.specs.Construct.{states_of}
use Rattle.mdinline_machine.specs.BracketRows.{bracket_states}
use Rattle.mdinline_machine.specs.RunRows.{run_states}
use Rattle.mdinline_machine.specs.InlineRules.{linking_edits, EndsLinked, inline_plan, inlines_rules}
use Rattle.mdinline_machine.specs.InlineTable.{begins_inline, follows_inline, inline_prices, inline_constructs, inline_starts, inlines, own_states}
use Rattle.mdinline_machine.specs.Registered.{EditsCanBeMade, is_first, link_makers}
use Rattle.mdinline_machine.specs.StringTable.{later_string_states, registers}
use Rattle.mdinline_machine.specs.Laws.Registered.{states-keep, registered-kept, registered-resolved}

tested : (defined : List ℕ → Bool) (previous current : Option TextByte) → priced_tests (inlines defined) is_backtick_class inline_prices begins_inline follows_inline previous current ≡ ([], [], [])
tested defined previous (Some line_feed) = refl
tested defined previous _ = refl

-- The table fits, and ends its choices late
pub inlines-late : (defined : List ℕ → Bool) → IsLate (inlines defined) begins_inline follows_inline
inlines-late defined =
    numbered-late (inlines defined) is_backtick_class inline_prices begins_inline follows_inline (record {
      priced = (refl, (refl, (refl, (refl, (refl, (refl, (refl, (refl, (refl, (refl, (refl, (refl, (refl, (refl, (refl, (refl, (refl, (refl, (refl, (refl, (refl, (refl, (refl, (refl, (refl, (refl, (refl, (refl, (refl, (refl, (refl, (refl, (refl, (refl, (refl, (refl, (refl, (refl, (refl, (refl, (refl, (refl, (refl, (refl, (refl, (refl, (refl, (refl, (refl, (refl, (refl, (refl, (refl, (refl, (refl, (refl, (refl, (refl, (refl, (refl, (refl, (refl, (refl, (refl, (refl, (refl, (refl, (refl, (refl, (refl, (refl, (refl, (refl, (refl, (refl, (refl, (refl, (refl, (refl, (refl, (refl, (refl, (refl, (refl, (refl, (refl, (refl, (refl, (refl, (refl, (refl, (refl, (refl, (refl, (refl, (refl, (refl, (refl, (refl, (refl, (refl, (refl, (refl, (refl, (refl, (refl, (refl, (refl, (refl, (refl, (refl, (refl, (refl, (refl, tt))))))))))))))))))))))))))))))))))))))))))))))))))))))))))))))))))))))))))))))))))))))))))))))))))))))))))))))))));
      falls = refl;
      tested = tested defined;
      kept = λ local. refl;
    })

-- ---- what is known

-- a state that registers the resolver and goes on
starts-keep : (defined : List ℕ → Bool) (start next : Name) (cost : Cost) → KeepsKnown (inline_plan defined) (state start (λ b w. row (write registers ∷ []) (Retry next)) [] cost)
starts-keep defined start next cost g text k choices b w is before here h = record {
  unlinked = h.known.unlinked;
  unedited = h.known.unedited;
  registered = inl (elim h.known.registered [
    | inl there ↦ rw there refl
    | inr (none, alone, first) ↦ rw none refl
  ]);
}

-- no other state gives an event a link; what they write registers nothing
linkless-early : (b w : Option TextByte) → (link_makers (run_states {R = Unit} {D = Unit}) b w ≡ []) × RegisterNothing (run_states {R = Unit} {D = Unit}) b w
linkless-early b (Some line_feed) = (refl, tt)
linkless-early b _ = (refl, tt)

linkless-strings : (b w : Option TextByte) → (link_makers later_string_states b w ≡ []) × RegisterNothing later_string_states b w
linkless-strings b (Some line_feed) = (refl, tt)
linkless-strings b _ = (refl, tt)

-- the states of brackets and resources
linkless-brackets : (defined : List ℕ → Bool) (b w : Option TextByte) → (link_makers (bracket_states {R = Unit} {D = Unit} defined) b w ≡ []) × RegisterNothing (bracket_states {R = Unit} {D = Unit} defined) b w
linkless-brackets defined b None = (refl, ((λ s k. (refl, refl)), ((λ s k. (refl, refl)), ((λ s k. (refl, refl)), ((λ s k. (refl, refl)), tt)))))
linkless-brackets defined b (Some line_feed) = (refl, ((λ s k. (refl, refl)), ((λ s k. (refl, refl)), ((λ s k. (refl, refl)), ((λ s k. (refl, refl)), ((λ s k. (refl, refl)), ((λ s k. (refl, refl)), ((λ s k. (refl, refl)), ((λ s k. (refl, refl)), ((λ s k. (refl, refl)), ((λ s k. (refl, refl)), ((λ s k. (refl, refl)), ((λ s k. (refl, refl)), ((λ s k. (refl, refl)), ((λ s k. (refl, refl)), ((λ s k. (refl, refl)), ((λ s k. (refl, refl)), ((λ s k. (refl, refl)), ((λ s k. (refl, refl)), ((λ s k. (refl, refl)), ((λ s k. (refl, refl)), ((λ s k. (refl, refl)), ((λ s k. (refl, refl)), ((λ s k. (refl, refl)), ((λ s k. (refl, refl)), ((λ s k. (refl, refl)), ((λ s k. (refl, refl)), ((λ s k. (refl, refl)), ((λ s k. (refl, refl)), ((λ s k. (refl, refl)), ((λ s k. (refl, refl)), ((λ s k. (refl, refl)), ((λ s k. (refl, refl)), tt)))))))))))))))))))))))))))))))))
linkless-brackets defined b (Some _) = (refl, ((λ s k. (refl, refl)), ((λ s k. (refl, refl)), ((λ s k. (refl, refl)), ((λ s k. (refl, refl)), ((λ s k. (refl, refl)), ((λ s k. (refl, refl)), ((λ s k. (refl, refl)), ((λ s k. (refl, refl)), ((λ s k. (refl, refl)), ((λ s k. (refl, refl)), ((λ s k. (refl, refl)), ((λ s k. (refl, refl)), ((λ s k. (refl, refl)), ((λ s k. (refl, refl)), ((λ s k. (refl, refl)), ((λ s k. (refl, refl)), ((λ s k. (refl, refl)), ((λ s k. (refl, refl)), ((λ s k. (refl, refl)), ((λ s k. (refl, refl)), ((λ s k. (refl, refl)), ((λ s k. (refl, refl)), ((λ s k. (refl, refl)), ((λ s k. (refl, refl)), ((λ s k. (refl, refl)), ((λ s k. (refl, refl)), ((λ s k. (refl, refl)), ((λ s k. (refl, refl)), ((λ s k. (refl, refl)), ((λ s k. (refl, refl)), ((λ s k. (refl, refl)), ((λ s k. (refl, refl)), tt)))))))))))))))))))))))))))))))))

-- those between constructs, but the first, and those of constructs
abbrev other_states : List (StateRows TextByte Unit Unit)
other_states = own_states ++ states_of inline_constructs

linkless : (b w : Option TextByte) → (link_makers other_states b w ≡ []) × RegisterNothing other_states b w
linkless b None = (refl, ((λ s k. (refl, refl)), ((λ s k. (refl, refl)), ((λ s k. (refl, refl)), ((λ s k. (refl, refl)), ((λ s k. (refl, refl)), ((λ s k. (refl, refl)), ((λ s k. (refl, refl)), ((λ s k. (refl, refl)), ((λ s k. (refl, refl)), tt))))))))))
linkless b (Some line_feed) = (refl, ((λ s k. (refl, refl)), ((λ s k. (refl, refl)), ((λ s k. (refl, refl)), ((λ s k. (refl, refl)), ((λ s k. (refl, refl)), ((λ s k. (refl, refl)), ((λ s k. (refl, refl)), ((λ s k. (refl, refl)), ((λ s k. (refl, refl)), ((λ s k. (refl, refl)), ((λ s k. (refl, refl)), ((λ s k. (refl, refl)), ((λ s k. (refl, refl)), ((λ s k. (refl, refl)), ((λ s k. (refl, refl)), ((λ s k. (refl, refl)), ((λ s k. (refl, refl)), ((λ s k. (refl, refl)), ((λ s k. (refl, refl)), ((λ s k. (refl, refl)), ((λ s k. (refl, refl)), ((λ s k. (refl, refl)), ((λ s k. (refl, refl)), ((λ s k. (refl, refl)), ((λ s k. (refl, refl)), ((λ s k. (refl, refl)), ((λ s k. (refl, refl)), ((λ s k. (refl, refl)), ((λ s k. (refl, refl)), ((λ s k. (refl, refl)), tt)))))))))))))))))))))))))))))))
linkless b (Some backtick) = (refl, ((λ s k. (refl, refl)), ((λ s k. (refl, refl)), ((λ s k. (refl, refl)), ((λ s k. (refl, refl)), ((λ s k. (refl, refl)), ((λ s k. (refl, refl)), ((λ s k. (refl, refl)), ((λ s k. (refl, refl)), ((λ s k. (refl, refl)), ((λ s k. (refl, refl)), ((λ s k. (refl, refl)), ((λ s k. (refl, refl)), ((λ s k. (refl, refl)), ((λ s k. (refl, refl)), ((λ s k. (refl, refl)), ((λ s k. (refl, refl)), ((λ s k. (refl, refl)), ((λ s k. (refl, refl)), ((λ s k. (refl, refl)), ((λ s k. (refl, refl)), ((λ s k. (refl, refl)), ((λ s k. (refl, refl)), ((λ s k. (refl, refl)), ((λ s k. (refl, refl)), ((λ s k. (refl, refl)), ((λ s k. (refl, refl)), ((λ s k. (refl, refl)), ((λ s k. (refl, refl)), ((λ s k. (refl, refl)), ((λ s k. (refl, refl)), tt)))))))))))))))))))))))))))))))
linkless b (Some letter) = (refl, ((λ s k. (refl, refl)), ((λ s k. (refl, refl)), ((λ s k. (refl, refl)), ((λ s k. (refl, refl)), ((λ s k. (refl, refl)), ((λ s k. (refl, refl)), ((λ s k. (refl, refl)), ((λ s k. (refl, refl)), ((λ s k. (refl, refl)), ((λ s k. (refl, refl)), ((λ s k. (refl, refl)), ((λ s k. (refl, refl)), ((λ s k. (refl, refl)), ((λ s k. (refl, refl)), ((λ s k. (refl, refl)), ((λ s k. (refl, refl)), ((λ s k. (refl, refl)), ((λ s k. (refl, refl)), ((λ s k. (refl, refl)), ((λ s k. (refl, refl)), ((λ s k. (refl, refl)), ((λ s k. (refl, refl)), ((λ s k. (refl, refl)), ((λ s k. (refl, refl)), ((λ s k. (refl, refl)), ((λ s k. (refl, refl)), ((λ s k. (refl, refl)), ((λ s k. (refl, refl)), ((λ s k. (refl, refl)), tt))))))))))))))))))))))))))))))
linkless b (Some digit) = (refl, ((λ s k. (refl, refl)), ((λ s k. (refl, refl)), ((λ s k. (refl, refl)), ((λ s k. (refl, refl)), ((λ s k. (refl, refl)), ((λ s k. (refl, refl)), ((λ s k. (refl, refl)), ((λ s k. (refl, refl)), ((λ s k. (refl, refl)), ((λ s k. (refl, refl)), ((λ s k. (refl, refl)), ((λ s k. (refl, refl)), ((λ s k. (refl, refl)), ((λ s k. (refl, refl)), ((λ s k. (refl, refl)), ((λ s k. (refl, refl)), ((λ s k. (refl, refl)), ((λ s k. (refl, refl)), ((λ s k. (refl, refl)), ((λ s k. (refl, refl)), ((λ s k. (refl, refl)), ((λ s k. (refl, refl)), ((λ s k. (refl, refl)), ((λ s k. (refl, refl)), ((λ s k. (refl, refl)), ((λ s k. (refl, refl)), ((λ s k. (refl, refl)), ((λ s k. (refl, refl)), tt)))))))))))))))))))))))))))))
linkless b (Some mark) = (refl, ((λ s k. (refl, refl)), ((λ s k. (refl, refl)), ((λ s k. (refl, refl)), ((λ s k. (refl, refl)), ((λ s k. (refl, refl)), ((λ s k. (refl, refl)), ((λ s k. (refl, refl)), ((λ s k. (refl, refl)), ((λ s k. (refl, refl)), ((λ s k. (refl, refl)), ((λ s k. (refl, refl)), ((λ s k. (refl, refl)), ((λ s k. (refl, refl)), ((λ s k. (refl, refl)), ((λ s k. (refl, refl)), ((λ s k. (refl, refl)), ((λ s k. (refl, refl)), ((λ s k. (refl, refl)), ((λ s k. (refl, refl)), ((λ s k. (refl, refl)), ((λ s k. (refl, refl)), ((λ s k. (refl, refl)), ((λ s k. (refl, refl)), ((λ s k. (refl, refl)), ((λ s k. (refl, refl)), ((λ s k. (refl, refl)), ((λ s k. (refl, refl)), ((λ s k. (refl, refl)), tt)))))))))))))))))))))))))))))
linkless b (Some _) = (refl, ((λ s k. (refl, refl)), ((λ s k. (refl, refl)), ((λ s k. (refl, refl)), ((λ s k. (refl, refl)), ((λ s k. (refl, refl)), ((λ s k. (refl, refl)), ((λ s k. (refl, refl)), ((λ s k. (refl, refl)), ((λ s k. (refl, refl)), ((λ s k. (refl, refl)), ((λ s k. (refl, refl)), ((λ s k. (refl, refl)), ((λ s k. (refl, refl)), ((λ s k. (refl, refl)), ((λ s k. (refl, refl)), ((λ s k. (refl, refl)), ((λ s k. (refl, refl)), ((λ s k. (refl, refl)), ((λ s k. (refl, refl)), ((λ s k. (refl, refl)), ((λ s k. (refl, refl)), ((λ s k. (refl, refl)), ((λ s k. (refl, refl)), ((λ s k. (refl, refl)), ((λ s k. (refl, refl)), ((λ s k. (refl, refl)), ((λ s k. (refl, refl)), tt))))))))))))))))))))))))))))

-- two lists of states keep what is known if each does
both-keep : (defined : List ℕ → Bool) (xs ys : List (StateRows TextByte Unit Unit)) → AllKeepKnown (inline_plan defined) xs → AllKeepKnown (inline_plan defined) ys → AllKeepKnown (inline_plan defined) (xs ++ ys)
both-keep defined [] ys h k = k
both-keep defined (x ∷ xs) ys h k = (h.0, both-keep defined xs ys h.1 k)

rows-keep : (defined : List ℕ → Bool) → AllKeepKnown (inline_plan defined) (inlines defined).states
rows-keep defined =
    let strings = states-keep (inlines defined) begins_inline follows_inline inline_starts tt linking_edits EndsLinked (λ s k. (refl, refl)) later_string_states refl linkless-strings in
    let early = states-keep (inlines defined) begins_inline follows_inline inline_starts tt linking_edits EndsLinked (λ s k. (refl, refl)) run_states refl linkless-early in
    let later = states-keep (inlines defined) begins_inline follows_inline inline_starts tt linking_edits EndsLinked (λ s k. (refl, refl)) other_states refl linkless in
    let of_brackets = states-keep (inlines defined) begins_inline follows_inline inline_starts tt linking_edits EndsLinked (λ s k. (refl, refl)) (bracket_states defined) refl (linkless-brackets defined) in (
      starts-keep defined StringStart StringBefore (text_cost (by_left 4 9 2)),
      (strings.0, (strings.1.0, (strings.1.1.0, (early.0, (early.1.0, (starts-keep defined TextStart TextLineStart (text_cost (by_left 4 20 9)), both-keep defined other_states (bracket_states defined) later of_brackets)))))),
    )

-- ---- the resolver

made : EditsCanBeMade linking_edits EndsLinked
made g text events formed unlinked =
    let (apart, is, balanced, none) = links-can-be-made g.options.gfm_strikethrough_single_tilde g.bytes events formed.balanced unlinked in
    (apart, subst IsBalanced (sym is) balanced, subst HaveNoLinks (sym is) none, (events, formed, unlinked, is, subst HaveNoLinks (sym is) none))

pub inlines-lawful : (defined : List ℕ → Bool) (g : Given) → IsLawful g (inlines_rules defined g)
inlines-lawful defined g = planned-lawful (inline_plan defined) g (record {
  late = inlines-late defined;
  kept = registered-kept (inlines defined) begins_inline follows_inline inline_starts tt linking_edits EndsLinked refl (rows-keep defined) (All-from_recursion (λ name. is_first inline_starts (Next name) ≡ true) inline_starts (refl, (refl, tt)));
  resolved = registered-resolved (inlines defined) begins_inline follows_inline inline_starts tt linking_edits EndsLinked made;
})
