-- The machines of paragraphs and of texts read each document by its blocks.
use Rattle.mdinline_text_machine.proofs.Prelude.{refl, FlowStart, paragraph_events, paragraphs_rules, IsReadAs, blocks-read, text_rules}

pub paragraphs-by-blocks : IsReadAs paragraphs_rules FlowStart paragraph_events
paragraphs-by-blocks = blocks-read paragraphs_rules (λ g. record { flow_start = λ k. refl; line_start = λ k. refl; start = λ k. refl; inside = λ k. refl })

pub text-by-blocks : IsReadAs text_rules FlowStart paragraph_events
text-by-blocks = blocks-read text_rules (λ g. record { flow_start = λ k. refl; line_start = λ k. refl; start = λ k. refl; inside = λ k. refl })
