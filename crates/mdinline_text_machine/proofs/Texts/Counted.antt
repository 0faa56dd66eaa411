-- Calls that are counted, and what is remembered of a text while they are made.
use Rattle.std.proofs.Common.{◌≡◌, ℕ, ◌+◌, ◌≤◌, List, Bool, refl, ◌∙◌, arith}
use Rattle.markdown_tokenizer.specs.Configuration.{Local}
use Rattle.markdown_tokenizer.specs.declared.tokenizer.state.ContainerState.{ContainerState}
use Rattle.markdown_tokenizer.specs.declared.tokenizer.state.LabelStart.{LabelStart}
use Rattle.mdconstructs_tables.specs.Tables.{counts}
use Rattle.mdinline_text_machine.proofs.CodeSpans.Parts.{with_b}
use Rattle.mdinline_text_machine.proofs.Texts.Leads.{spent}

-- What a machine may remember of a text: that all backtick strings further on were seen, the last place of each length, the places up to which no
-- comment, instruction, declaration and CDATA section ends, and the brackets that wait
pub record Remembered : Type 0 where
  pub all_seen : Bool
  pub runs : List ContainerState
  pub comment : ℕ
  pub instruction : ℕ
  pub declaration : ℕ
  pub cdata : ℕ
  pub starts : List LabelStart

abbrev pub remembered : Local Unit Unit → Remembered
remembered local = record {
  all_seen = local.tokenize_state.seen;
  runs = local.tokenize_state.document_container_stack;
  comment = local.tokenize_state.start;
  instruction = local.tokenize_state.end;
  declaration = local.tokenize_state.space_or_tab_min;
  cdata = local.tokenize_state.space_or_tab_max;
  starts = local.tokenize_state.label_starts;
}

-- After at most so many calls what is remembered is as it was
pub record IsAfter (n : ℕ) (local after : Local Unit Unit) : Type 0 where
  pub calls : spent after ≤ spent local + n
  pub same : remembered after ≡ remembered local

-- more calls may be counted
pub after-within : (n n' : ℕ) (local after : Local Unit Unit) → n ≤ n' → IsAfter n local after → IsAfter n' local after
after-within n n' local after h is = record { calls = omega (arith, h, is.calls); same = is.same }

-- one after another
pub after-more : (n n' : ℕ) (local between after : Local Unit Unit) → IsAfter n local between → IsAfter n' between after → IsAfter (n + n') local after
after-more n n' local between after one other = record { calls = omega (arith, one.calls, other.calls); same = other.same ∙ one.same }

-- none
pub after-none : (local : Local Unit Unit) → IsAfter 0 local local
after-none local = record { calls = omega arith; same = refl }

-- one call
pub after-call : (local : Local Unit Unit) → IsAfter 1 local (counts local)
after-call local = record { calls = omega arith; same = refl }

-- a call that writes one of the sizes
pub after-sized : (n : ℕ) (local : Local Unit Unit) → IsAfter 1 local (with_b n (counts local))
after-sized n local = record { calls = omega arith; same = refl }
