-- What reading inline text from its start ends in: its items are read one by one, in so many calls. And so it is what its definition says, and read in
-- linear time.
use Rattle.mdinline_machine.proofs.Prelude.{ℕ, Bool, List, ◌≡◌, ◌+◌, ◌*◌, ◌∙◌, ap, arith, false, length, length-map, TextStart, Configuration, Seat, whole_text, Given, Text, Ending, bytes_of, whole-is-text, read_events, ReadsInlineText, RunsWithin}
use Rattle.mdinline_links.specs.Linked.{with_links}
use Rattle.mdinline_machine.proofs.Counted.{ends-as-counted}
use Rattle.mdinline_machine.proofs.InlinePrices.{inline_budget}
use Rattle.mdinline_machine.proofs.InlineMemory.{inlines-read}
use Rattle.mdinline_machine.proofs.InlinesCounted.{calls-within}
use Rattle.mdinline_machine.proofs.Resolved.{makes-links}
use Rattle.mdinline_machine.proofs.TailLooks.{tail-looks-linear}

-- what reading a text is to end in
abbrev pub text_ending : (defined : List ℕ → Bool) → Given → Text → Ending
text_ending defined g text = record { events = read_events defined g text; spent = inline_budget g.options.constructs text.seats + 1 }

-- Inline text is what its definition says
pub reads-inline-text : ReadsInlineText
reads-inline-text defined g events sub document =
    let text = whole_text g in
    let is = whole-is-text g document in
    let read = ends-as-counted defined g text false TextStart (text_ending defined g text) (inlines-read defined g text is false) in (
      λ run. makes-links defined g events sub document run ∙ ap (with_links g.options.gfm_strikethrough_single_tilde g.bytes) (read run.result run.ends).1,
      λ run. run.events ∙ ap (λ (k : Configuration Unit Unit). k.events) run.resolved.0 ∙ (read run.result run.ends).1,
    )

-- and a run makes no more calls than so many for each virtual byte
pub inline-text-is-linear : RunsWithin TextStart (λ n. 374 * n + 4)
inline-text-is-linear defined g resolving events sub document run few =
    let text = whole_text g in
    let is = whole-is-text g document in
    let looks = tail-looks-linear g.options.constructs (bytes_of text.seats) in
    let size : length (bytes_of text.seats) ≡ length text.seats = length-map text.seats (λ (s : Seat). s.byte) in
    let all = calls-within defined g text false TextStart (text_ending defined g text) (inlines-read defined g text is false) (omega (arith, few, looks, size)) run.result run.ends in
    omega (arith, all, looks, size)
