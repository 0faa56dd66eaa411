use Rattle.mdinline_text_machine.proofs.Prelude.{rules, ◌≡◌, false, refl, sym, ℕ, ◌==◌, is_backtick_or_line_feed}
use Rattle.mdinline_text_machine.proofs.CodeSpans.Classes.{data-in}
use Rattle.mdinline_text_machine.proofs.code_span.raw_text_data.Goals as goal

pub returns-in-Some : goal.returns-in-Some
returns-in-Some g c =
    let b : ℕ = c.in-Some.field-0 in
    let no_line : (b == 10) ≡ false = search rules in
    let no_tick : (b == 96) ≡ false = search rules in
    let plain : is_backtick_or_line_feed b ≡ false = rw (no_line, no_tick) refl in
    rw (data-in c.args.t.now b (sym c.in-Some.ensures) plain) (record { answered = refl; became = c.consume.ensures })
