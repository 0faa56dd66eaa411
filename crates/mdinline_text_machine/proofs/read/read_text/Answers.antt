use Rattle.mdinline_text_machine.proofs.Prelude.{◌≡◌, ◌<◌, [], false, inl, inr, refl, sym, ◌∙◌, ap, arith, All-from_get_or, IsTabSize, Error, Next, Ok, TextStart, Configuration, start_configuration, whole_text, given_by, Given, IsDocument, Reading, EndsIn, text_events}
use Rattle.mdinline_text_machine.proofs.Texts.Leads.{ending}
use Rattle.mdinline_text_machine.proofs.Texts.Ends.{ends-so, from-start}
use Rattle.mdinline_text_machine.proofs.Texts.Steps.{text_step}
use Rattle.mdinline_text_machine.proofs.Texts.WholePlaces.{whole-is-text}
use Rattle.mdinline_text_machine.proofs.read.read_text.Goals as goal

-- a reading of a whole document ends with its events
reads-whole : (g : Given) → IsDocument g → (r : Reading Unit Unit) → EndsIn g (text_step g) (whole_text g) 0 (start_configuration false) [] (Next TextStart) r
    → (r.answer ≡ Ok) × (r.configuration.events ≡ text_events g (whole_text g))
reads-whole g document =
    ends-so g (whole_text g) (text_step g) (start_configuration false) (Next TextStart) (ending (text_events g (whole_text g))) (from-start g (whole_text g) (whole-is-text g document) false)

pub returns-in-Ok-clause-ok : goal.returns-in-Ok-clause-ok
returns-in-Ok-clause-ok c =
    let g = given_by c.args.bytes.now c.args.options.now in
    let bytes = All-from_get_or (λ b. b < 256) c.args.bytes.now 0 (λ i l. omega (arith, c.type_inv.bytes i)) in
    let tab : IsTabSize c.args.options.now.tab_size = rw c.in-Some.ensures.options at c.in-Some.parse_state.tab_size in
    let document : IsDocument g = record { bytes = bytes; tab = tab; limit = c.requires.limit; one_size = refl } in
    let h = rw (c.in-Some.ensures.bytes, c.in-Some.ensures.options) at c.in-Ok.ensures.ok in
    h.events ∙ ap (λ (k : Configuration Unit Unit). k.events) h.resolved.0 ∙ (reads-whole g document h.result h.ends).1

pub returns-in-Ok-clause-run : goal.returns-in-Ok-clause-run
returns-in-Ok-clause-run c = (_, rw (c.in-Some.ensures.bytes, c.in-Some.ensures.options) at c.in-Ok.ensures.ok)

pub unreachable-requires-in-Err-Message : goal.unreachable-requires-in-Err-Message
unreachable-requires-in-Err-Message c =
    let g = given_by c.args.bytes.now c.args.options.now in
    let bytes = All-from_get_or (λ b. b < 256) c.args.bytes.now 0 (λ i l. omega (arith, c.type_inv.bytes i)) in
    let tab : IsTabSize c.args.options.now.tab_size = rw c.in-Some.ensures.options at c.in-Some.parse_state.tab_size in
    let document : IsDocument g = record { bytes = bytes; tab = tab; limit = c.requires.limit; one_size = refl } in
    let h = rw (c.in-Some.ensures.bytes, c.in-Some.ensures.options) at c.in-Err-Message.ensures.message c.in-Err-Message._message (cc) in
    elim h.message [
      | inl refused ↦ let no : Ok ≡ Error c.in-Err-Message._message = sym (reads-whole g document h.result h.ends).0 ∙ refused in absurd (cc)
      | inr resolving ↦ resolving.1
    ]
