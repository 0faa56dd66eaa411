use Rattle.mdhtml_program.proofs.Prelude.{◌≡◌, ◌∙◌, ℕ, List, ap, take, refl, sym, Appends, Keeps-refl, IfErr-at_err, err_from_is_err_and, on_ok_weaker, Option, Options, html_by, options_of, IsHtmlOfRead}
use Rattle.mdhtml_program.proofs.program.write_html.Given
use Rattle.mdhtml_program.proofs.program.write_html.Goals as goal

-- HTML by these options and bytes is HTML by what they are
same-html : (depth : Option ℕ) (options others : Options) (bytes read html : List ℕ) → options ≡ others → bytes ≡ read → html ≡ html_by depth options bytes → html ≡ html_by depth others read
same-html depth options others bytes read html e f is = is ∙ ap (λ o. html_by depth o bytes) e ∙ ap (λ b. html_by depth others b) f

module _ (g : Given.Over) (c : goal.After-drop-bytes-2 g) where
  -- what was read has this HTML
  made : IsHtmlOfRead c.args.choice.now (g.R.Read.remaining c.args.reader.now) (g.R.Read.remaining c.read_to_end.new.reader) c.in_ok-html.html.items
  made =
      let is = same-html c.args.choice.now.depth c.options_of.result (options_of c.args.choice.now) c.as_slice.result.now c.in_ok-bytes.bytes.items c.in_ok-html.html.items c.options_of.ensures c.as_slice.ensures.value c.in_ok-html.ensures.html in
      record { bytes = c.in_ok-bytes.bytes.items; read = rw (sym c.tab_of.ensures) c.in_ok-bytes.ensures.all; is = is }

pub returns-in_err-html-clause-nothing : goal.returns-in_err-html-clause-nothing
returns-in_err-html-clause-nothing g c =
    let (failure, is, same) = err_from_is_err_and c.from_residual-in_err-html.result c.from_residual-in_err-html.ensures.1 in
    rw is (λ _. Keeps-refl _)

pub returns-clause-written : goal.returns-clause-written
returns-clause-written g c = on_ok_weaker c.write_all.result
    (λ written. record { text = c.in_ok-html.html.items; made = made g c; written = rw c.as_slice-2.ensures.value at written })
    c.write_all.ensures.all

pub returns-clause-safe : goal.returns-clause-safe
returns-clause-safe g c = λ safe. on_ok_weaker c.write_all.result
    (λ written. (
      c.in_ok-html.html.items,
      rw c.as_slice-2.ensures.value at written,
      (rw c.options_of.ensures at c.in_ok-html.ensures.safe) (record { html = safe; protocol = safe; images = refl }),
    ))
    c.write_all.ensures.all

pub returns-clause-cut_short : goal.returns-clause-cut_short
returns-clause-cut_short g c = λ e.
    let (count, written) = IfErr-at_err (λ _. (count : ℕ) × Appends (g.W.Write.contents c.args.writer.now) (g.W.Write.contents c.write_all.new.writer) (take count c.in_ok-html.html.items)) e
    (rw c.as_slice-2.ensures.value at c.write_all.ensures.failed) in
    record { text = c.in_ok-html.html.items; made = made g c; count = count; written = written }
