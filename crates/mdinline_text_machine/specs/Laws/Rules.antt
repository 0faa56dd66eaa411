-- The paragraphs pass the test and keep what is known of their chunks. None of their states is a state of texts. So the machine is lawful.
use Rattle.std.proofs.Common.{◌≡◌, ℕ, List, [], ◌∷◌, Bool, true, false, Option, Some, None, refl, ap, ◌∙◌}
use Rattle.std.specs.Prelude.{All}
use Rattle.std.proofs.lemmas.List.Elements.{All-nil, All-cons, All-head}
use Rattle.markdown_base.specs.declared.state.Name.{Name}
use Rattle.markdown_base.specs.declared.state.State.{State}
use Rattle.markdown_base.specs.declared.state.State.TheVariants.{Next, Retry}
use Rattle.markdown_base.specs.declared.state.TheConstants.Name.{FlowStart, TextStart}
use Rattle.markdown_tokenizer.specs.Text.{Given, Text}
use Rattle.markdown_tokenizer.specs.Configuration.{Configuration, Choice, TokenizerValue, start_configuration}
use Rattle.markdown_tokenizer.specs.Engine.{EndsWellFormed, HoldsOf}
use Rattle.markdown_tokenizer.specs.Lawful.{IsLawful}
use Rattle.mdconstructs_tables.specs.Joined.{has_state}
use Rattle.mdconstructs_tables.specs.RowInvariant.{table_holds}
use Rattle.mdconstructs_tables.specs.Misfits.{misfits}
use Rattle.mdconstructs_tables.specs.Fitting.{IsFit}
use Rattle.mdconstructs_tables.specs.Knowledge.{IsKnownThroughout}
use Rattle.mdconstructs_tables.proofs.Tables.Lawful.{knowing-lawful, late-lawful, joined-lawful}
use Rattle.mdconstructs_tables.specs.Joined.{AreApart}
use Rattle.mdconstructs_tables.proofs.Tables.Joined.{HaveOtherNames, fed-state, called-state, is-other, of-first, of-second}
use Rattle.mdconstructs_tables.specs.Tables.{LineByte, line_ending, other}
use Rattle.mdconstructs_tables.specs.Paragraphs.{knows_chunk}
use Rattle.mdconstructs_tables.proofs.Paragraphs.{paragraphs-known}
use Rattle.mdinline_text_machine.specs.TextTable.{texts, begins_construct, follows_construct}
use Rattle.mdinline_text_machine.specs.Laws.Table.{texts-late, texts-plain}
use Rattle.mdinline_text_machine.specs.TextRules.{flow, flow_rules, inline_rules, text_rules}

fits : (previous current : Option LineByte) → misfits flow previous current ≡ []
fits previous None = refl
fits previous (Some line_ending) = refl
fits previous (Some other) = refl

pub flow-fit : IsFit flow
flow-fit = record { fits = fits; paid = tt; falls = tt; kept = λ local. refl }

at-start : (flag : Bool) → let k : Configuration Unit Unit = start_configuration flag in All (λ name. knows_chunk k.events k.local [] (Next name)) flow.starts
at-start flag =
    let k : Configuration Unit Unit = start_configuration flag in
    let P = λ (name : Name). knows_chunk k.events k.local [] (Next name) in
    All-cons P FlowStart [] (All-head P FlowStart (TextStart ∷ []) (paragraphs-known.at_starts flag)) (All-nil P)

pub flow-known : IsKnownThroughout flow knows_chunk EndsWellFormed
flow-known = let rows = paragraphs-known.by_rows in record {
  at_starts = at-start;
  by_feeding = paragraphs-known.by_feeding;
  by_rows = (rows.0, (rows.1.0, (rows.1.1.0, (rows.1.1.1.0, tt))));
  by_ok = paragraphs-known.by_ok;
  by_nok = paragraphs-known.by_nok;
  at_end = paragraphs-known.at_end;
  promised = paragraphs-known.promised;
}

-- no name belongs to states of both
other-names : HaveOtherNames flow.states texts.states
other-names = (refl, (refl, (refl, (refl, tt))))

-- paragraphs make no choice
no-choice : (g : Given) (text : Text) (k : Configuration Unit Unit) (choices : List Choice) (state : State) → (flow_rules g).holds text k choices state → choices ≡ []
no-choice g text k [] state h = refl
no-choice g text k (choice ∷ choices) state h = absurd h.known

pub texts-apart : (g : Given) → AreApart (has_state flow.states) (flow_rules g) (inline_rules g)
texts-apart g = record {
  first_fed = λ text k choices name h. fed-state flow g text k choices name h.holds;
  first_called = λ text k choices name h. called-state flow g text k choices name h.holds;
  second_fed = λ text k choices name h. is-other flow.states texts.states name other-names (fed-state texts g text k choices name h.1.0);
  second_called = λ text k choices name h. is-other flow.states texts.states name other-names (called-state texts g text k choices name h.1.0);
  no_choice = no-choice g;
  one_resolver = refl;
}

-- texts are lawful, and paragraphs and texts together are
pub inline-lawful : (g : Given) → IsLawful g (inline_rules g)
inline-lawful g = late-lawful texts begins_construct follows_construct g texts-late texts-plain

pub text-lawful : (g : Given) → IsLawful g (text_rules g)
text-lawful g =
    joined-lawful (has_state flow.states) g (flow_rules g) (inline_rules g) (texts-apart g) (knowing-lawful flow knows_chunk g flow-fit flow-known) (inline-lawful g)

-- what holds if the machine is called with a name of paragraphs, or of texts
pub in-paragraphs : {M : Type 0} (t : TokenizerValue M Unit Unit) (name : Name) (n : ℕ) → name.number ≡ n → has_state flow.states (record { number = n }) ≡ true → HoldsOf (text_rules t.given) t (Retry name)
    → HoldsOf (flow_rules t.given) t (Retry name)
in-paragraphs t name n same is h =
    of-first (has_state flow.states) t.given (flow_rules t.given) (inline_rules t.given) (texts-apart t.given) t.text t.configuration t.choices name (ap (λ n. has_state flow.states (record { number = n })) same ∙ is) h

pub in-text : {M : Type 0} (t : TokenizerValue M Unit Unit) (name : Name) (n : ℕ) → name.number ≡ n → has_state flow.states (record { number = n }) ≡ false → HoldsOf (text_rules t.given) t (Retry name)
    → table_holds texts t.given t.text t.configuration t.choices (Retry name)
in-text t name n same is h =
    (of-second (has_state flow.states) t.given (flow_rules t.given) (inline_rules t.given) (texts-apart t.given) t.text t.configuration t.choices name (ap (λ n. has_state flow.states (record { number = n })) same ∙ is) h).1.0
