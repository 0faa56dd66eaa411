-- The machine of paragraphs reads a text as data.
use Rattle.mdinline_text_machine.proofs.Prelude.{◌+◌, [], false, refl, arith, DataStart, TextStart, Given, Configuration, start_configuration, edited-none, knowing-lawful, data_events, paragraphs, knows_chunk, paragraphs_rules, paragraphs-fit, paragraphs-known, counts, data-read}
use Rattle.mdinline_text_machine.proofs.Texts.Ends.{ReadsTexts, on-start, reads-so}

pub reads-as-data : (g : Given) → ReadsTexts g paragraphs_rules (λ text. data_events g.bytes text.seats)
reads-as-data g =
    reads-so g paragraphs_rules (knowing-lawful paragraphs knows_chunk g paragraphs-fit paragraphs-known).invariant_kept (λ text. data_events g.bytes text.seats) (1, omega arith, (cc))
    (λ text k h. (h.known.resolvers, h.known.edits, edited-none k.events h.known.shape.inside))
    (λ text is flag.
    let k : Configuration Unit Unit = start_configuration flag in
    let step = (paragraphs_rules g).step in
    let it = data-read g text step (record { start = λ k. refl; inside = λ k. refl }) text.seats 0 false [] (counts k.local) refl (0 + 1) in
    (it.0, (on-start g text step TextStart DataStart (λ k. refl) k 0 it.0 it.1.0, it.1.1, it.1.2)))
