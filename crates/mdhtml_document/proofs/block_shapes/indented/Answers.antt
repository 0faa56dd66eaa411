use Rattle.std.proofs.Common.{◌++◌, [], ℕ, List, ap, sym, refl, ◌∙◌, append-nil}
use Rattle.std.specs.Prelude.{codes, true}
use Rattle.mdhtml_document.specs.Values.{code_lines}
use Rattle.mdhtml_document.proofs.Steps.{code-written}
use Rattle.mdhtml_markup.specs.Escapes.{escaped}
use Rattle.mdhtml_markup.specs.Pieces.{Attribute, Fresh, is_fresh, written}
use Rattle.mdhtml_document.proofs.block_shapes.indented.Goals as goal

pub returns : goal.returns
returns c =
    let w = c.args.whole.now in
    let old = c.args.out.now.items in
    let attributes : List Attribute = [] in
    let begun = (old ++ written (is_fresh true old) Fresh) ++ codes "<pre><code" in
    let end = λ (x : List ℕ). ((x ++ codes ">") ++ escaped (code_lines w.bytes.now w.tab c.args.inner.now)) ++ codes "</code></pre>\n" in
    record {
      written = c.in_ok-push_code_lines.ensures ∙ ap end (c.in_ok-extend_from_slice.ensures.items ∙ ap (λ (x : List ℕ). x ++ codes "<pre><code") c.in_ok-push_fresh.ensures) ∙ ap end (sym (append-nil begun)) ∙ code-written old attributes (code_lines w.bytes.now w.tab c.args.inner.now);
      mode = refl;
      closed = refl;
    }
