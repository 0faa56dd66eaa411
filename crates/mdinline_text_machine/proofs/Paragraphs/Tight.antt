-- The void spans of a document stay empty where the chains of its paragraphs were read.
use Rattle.mdinline_text_machine.proofs.Prelude.{ℕ, ◌<◌, List, [], ◌∷◌, Some, arith, map, AllByRecursion, Event, IsVoidTight, virtual, Given, IsDocument, paragraphs-account, fitting_starts, chain_text, chain_events, chain_data}
use Rattle.markdown_base.specs.declared.event.Content.TheVariants.{Text as TextContent}
use Rattle.markdown_children.proofs.Parts.InShape.{children_fit}
use Rattle.mdinline_text_machine.specs.ChainTexts.{StaysTight, paragraphs_of}
use Rattle.mdinline_text_machine.proofs.DeepSpans.Atoms.{IsCut}
use Rattle.mdinline_text_machine.proofs.DeepSpans.Stretches.{data-cut}
use Rattle.mdinline_text_machine.proofs.DeepSpans.TextCuts.{text-cut}
use Rattle.mdinline_text_machine.proofs.DeepSpans.Untorn.{none-torn}
use Rattle.mdinline_text_machine.proofs.Paragraphs.Formed.{paragraphs-formed}
use Rattle.mdinline_text_machine.proofs.Paragraphs.Ready.{document-readable}
use Rattle.mdinline_text_machine.proofs.Texts.Tight.{data-tight, text-tight}

pub each-tight : (of_chain : ℕ → List Event) → ((c : ℕ) → IsVoidTight (of_chain c)) → (cs : List ℕ) → AllByRecursion IsVoidTight (map of_chain cs)
each-tight of_chain tight [] = tt
each-tight of_chain tight (c ∷ cs) = (tight c, each-tight of_chain tight cs)

stays-tight : (g : Given) → IsDocument g → (of_chain : ℕ → List Event) → ((c : ℕ) → IsCut g.bytes (of_chain c) (chain_text g (paragraphs_of g) c).seats) → ((c : ℕ) → IsVoidTight (of_chain c))
    → StaysTight g (paragraphs_of g) of_chain
stays-tight g document of_chain cuts tight =
    let es = paragraphs_of g in
    let some : 0 < g.tab = (let tab = document.tab.0 in omega (arith, tab)) in
    let readable = document-readable g document in
    let formed = paragraphs-formed g.tab g.bytes some in
    let starts = fitting_starts (Some TextContent) es in
    let torn = none-torn g some es readable.1 (λ k d is. (readable.0.pairs k d is).follows) of_chain cuts (paragraphs-account g.bytes (virtual g.tab g.bytes)) in
    let fit = children_fit g.tab g.bytes (Some TextContent) es readable.1 (map of_chain starts) in
    record { old = formed.1; none_torn = torn; new = fit.tight formed.1 (each-tight of_chain tight starts) torn }

pub texts-stay-tight : (g : Given) → IsDocument g → StaysTight g (paragraphs_of g) (chain_events g (paragraphs_of g))
texts-stay-tight g document =
    let es = paragraphs_of g in
    stays-tight g document (chain_events g es) (λ c. text-cut g (chain_text g es c)) (λ c. text-tight g (chain_text g es c))

pub data-stays-tight : (g : Given) → IsDocument g → StaysTight g (paragraphs_of g) (chain_data g (paragraphs_of g))
data-stays-tight g document =
    let es = paragraphs_of g in
    stays-tight g document (chain_data g es) (λ c. data-cut g.bytes (chain_text g es c).seats) (λ c. data-tight g.bytes (chain_text g es c).seats)
