use Rattle.mdinline_machine.proofs.Prelude.{◌≡◌, ◌<◌, ◌∙◌, true, ap, refl, subst, arith, All-from_get_or, TextStart, IsTabSize, given_by, IsDocument, no-run-refused, inlines_rules, no_labels, inline_events, whole_text}
use Rattle.mdinline_labels.specs.Defined.{defines}
use Rattle.mdinline_machine.specs.LawStatements.{IsRunOfInlines}
use Rattle.mdinline_machine.proofs.InlineReads.{reads-inline-text}
use Rattle.mdinline_machine.proofs.Looks.{inlines-refuse-nothing}
use Rattle.mdinline_machine.proofs.read.read_inline_text.Goals as goal

pub returns-in-Ok-clause-ok : goal.returns-in-Ok-clause-ok
returns-in-Ok-clause-ok c =
    let g = given_by c.args.bytes.now c.args.options.now in
    let bytes = All-from_get_or (λ b. b < 256) c.args.bytes.now 0 (λ i l. omega (arith, c.type_inv.bytes i)) in
    let tab : IsTabSize c.args.options.now.tab_size = rw c.in-Some.ensures.options at c.in-Some.parse_state.tab_size in
    let document : IsDocument g = record { bytes = bytes; tab = tab; limit = c.requires.limit; one_size = refl } in
    let none : defines c.new.result ≡ no_labels = λ i label. c.new.ensures label i in
    (reads-inline-text (defines c.new.result) g _ _ document).0 (rw (c.in-Some.ensures.bytes, c.in-Some.ensures.options, c.in-Some.ensures.machine) at c.in-Ok.ensures.ok) ∙ ap (λ defined. inline_events defined g (whole_text g)) none

pub returns-in-Ok-clause-run : goal.returns-in-Ok-clause-run
returns-in-Ok-clause-run c =
    let none : defines c.new.result ≡ no_labels = λ i label. c.new.ensures label i in
    subst (λ defined. IsRunOfInlines defined (given_by c.args.bytes.now c.args.options.now) c.in-Ok.events.items) none (_, rw (c.in-Some.ensures.bytes, c.in-Some.ensures.options, c.in-Some.ensures.machine) at c.in-Ok.ensures.ok)

pub unreachable-requires-in-Err-Message : goal.unreachable-requires-in-Err-Message
unreachable-requires-in-Err-Message c =
    let g = given_by c.args.bytes.now c.args.options.now in
    no-run-refused (inlines_rules (defines c.new.result)) (inlines-refuse-nothing (defines c.new.result)) g true TextStart c.in-Err-Message._message
    (rw (c.in-Some.ensures.bytes, c.in-Some.ensures.options, c.in-Some.ensures.machine) at c.in-Err-Message.ensures.message c.in-Err-Message._message (cc))
