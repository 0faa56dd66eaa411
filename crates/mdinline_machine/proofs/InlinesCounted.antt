-- The twin of the machine of inline text counts each of its calls: where few were counted, few were made, and the machine makes as many.
use Rattle.mdinline_machine.proofs.Prelude.{ℕ, List, ◌≡◌, ◌<◌, ◌≤◌, [], Bool, Option, None, Some, refl, sym, subst, arith, rules, Name, Next, start_configuration, EndsIn, Reading, Given, Text, one-end, TextByte, backtick, digit, letter, line_feed, mark, Ending, most, spent, inlines_rules, inlines}
use Rattle.mdconstructs_tables.specs.Twins.{reading_sized}
use Rattle.mdinline_text_machine.proofs.Texts.Leads.{EndsWith}
use Rattle.mdinline_machine.specs.BracketRows.{bracket_states}
use Rattle.mdinline_machine.proofs.CallsCounted.{CountsCalls, KeepCount, both-keep-count, calls-counted, table-counts}
use Rattle.mdinline_machine.proofs.Counted.{counted, counted_step, twin-reads, unbracketed_states}
use Rattle.mdinline_machine.proofs.Starts.{start_local}

-- what its states write leaves the count of calls
keep-others : (b w : Option TextByte) → KeepCount unbracketed_states b w
keep-others b None = search rules
keep-others b (Some line_feed) = search rules
keep-others b (Some backtick) = search rules
keep-others b (Some letter) = search rules
keep-others b (Some digit) = search rules
keep-others b (Some mark) = search rules
keep-others b (Some _) = search rules

keep-brackets : (defined : List ℕ → Bool) (b w : Option TextByte) → KeepCount (bracket_states {R = Unit {0}} {D = Unit {0}} defined) b w
keep-brackets defined b None = search rules
keep-brackets defined b (Some _) = search rules

keep-count : (defined : List ℕ → Bool) (b w : Option TextByte) → KeepCount (inlines defined).states b w
keep-count defined b w = both-keep-count unbracketed_states (bracket_states defined) b w (keep-others b w) (keep-brackets defined b w)

inlines-count : (defined : List ℕ → Bool) (g : Given) → CountsCalls (counted_step defined g)
inlines-count defined g = table-counts (counted defined) g (λ local. refl) (keep-count defined)

module _ (defined : List ℕ → Bool) (g : Given) (text : Text) where
  -- A reading from a start that is to end within so many calls that are counted makes no more, if they can all be counted
  pub calls-within : (flag : Bool) (start : Name) (e : Ending) → EndsWith g text (counted_step defined g) (start_configuration flag) [] (Next start) e → e.spent < most
      → (r : Reading Unit Unit) → EndsIn g (inlines_rules defined g).step text 0 (start_configuration flag) [] (Next start) r → r.calls ≤ e.spent
  calls-within flag start e h few r ends =
      let there = h 0 in
      let read = twin-reads defined g text flag start r ends in
      let q : Reading Unit Unit = reading_sized read.0 r in
      let same : q ≡ there.0 = one-end g (counted_step defined g) text 0 (start_configuration flag) [] (Next start) q there.0 read.1 there.1.0 in
      let spent-so : spent q.configuration.local ≤ e.spent = subst (λ (q : Reading Unit Unit). spent q.configuration.local ≤ e.spent) (sym same) there.1.2.1 in
      let all = calls-counted g (counted_step defined g) text (inlines-count defined g) (start_configuration flag) (Next start) q read.1 in
      let none : spent (start_local flag) ≡ 0 = refl in
      omega (arith, all, spent-so, few, none)
