use Rattle.mdinline_text_machine.proofs.Prelude.{ℕ, List, ◌<◌, arith, Event, virtual, Given, IsDocument, AccountFor, paragraph_events, paragraphs-account, chain_text, chain_events, chain_data, with_read}
use Rattle.mdinline_text_machine.proofs.DeepSpans.Atoms.{IsCut}
use Rattle.mdinline_text_machine.proofs.DeepSpans.Chains.{with-read-accounts}
use Rattle.mdinline_text_machine.proofs.DeepSpans.Stretches.{data-cut}
use Rattle.mdinline_text_machine.proofs.DeepSpans.TextCuts.{text-cut}
use Rattle.mdinline_text_machine.proofs.Paragraphs.Ready.{document-readable}
use Rattle.mdinline_text_machine.proofs.laws.innermost_spans_account_for_children.Goals as goal

children-account : (g : Given) → IsDocument g → let es = paragraph_events g.bytes (virtual g.tab g.bytes) in
    (of_chain : ℕ → List Event) → ((c : ℕ) → IsCut g.bytes (of_chain c) (chain_text g es c).seats) → AccountFor (with_read g es of_chain) g.bytes (virtual g.tab g.bytes)
children-account g document of_chain cuts =
    let seats = virtual g.tab g.bytes in
    let es = paragraph_events g.bytes seats in
    let some : 0 < g.tab = (let tab = document.tab.0 in omega (arith, tab)) in
    let readable = document-readable g document in
    with-read-accounts g some es readable.1 (λ k d is. (readable.0.pairs k d is).follows) of_chain cuts (paragraphs-account g.bytes seats)

pub returns : goal.returns
returns c = record {
  texts = λ g document. let es = paragraph_events g.bytes (virtual g.tab g.bytes) in children-account g document (chain_events g es) (λ k. text-cut g (chain_text g es k));
  «data» = λ g document. let es = paragraph_events g.bytes (virtual g.tab g.bytes) in children-account g document (chain_data g es) (λ k. data-cut g.bytes (chain_text g es k).seats);
}
