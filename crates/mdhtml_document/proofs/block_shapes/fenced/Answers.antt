use Rattle.std.proofs.Common.{◌++◌, ℕ, List, ap, refl, ◌∙◌}
use Rattle.std.specs.List.{flat_map}
use Rattle.std.specs.Prelude.{codes, true}
use Rattle.markdown_base.specs.declared.event.Event.{Event}
use Rattle.markdown_base.specs.declared.event.Name.TheVariants as name
use Rattle.mddocument_link_targets.specs.Spans.{first_in}
use Rattle.mdhtml_document.specs.Html.{language}
use Rattle.mdhtml_document.specs.Values.{behind_first_line, code_lines}
use Rattle.mdhtml_document.proofs.Steps.{code-written}
use Rattle.mdhtml_markup.specs.Escapes.{escaped}
use Rattle.mdhtml_markup.specs.Pieces.{Attribute, Fresh, attribute, is_fresh, written}
use Rattle.mdhtml_document.proofs.block_shapes.fenced.Goals as goal

pub returns : goal.returns
returns c =
    let w = c.args.whole.now in
    let old = c.args.out.now.items in
    let attributes : List Attribute = language w.bytes.now (first_in name.CodeFencedFenceInfo c.args.inner.now) in
    let begun = (old ++ written (is_fresh true old) Fresh) ++ codes "<pre><code" in
    let end = λ (x : List ℕ) (es : List Event). ((x ++ codes ">") ++ escaped (code_lines w.bytes.now w.tab es)) ++ codes "</code></pre>\n" in
    record {
      written = c.in_ok-push_code_lines.ensures
          ∙ ap (λ (x : List ℕ). end x c.behind_first_line.result.now)
          (c.in_ok-push_language.ensures ∙ ap (λ (x : List ℕ). x ++ flat_map attribute attributes) (c.in_ok-extend_from_slice.ensures.items ∙ ap (λ (x : List ℕ). x ++ codes "<pre><code") c.in_ok-push_fresh.ensures))
          ∙ ap (λ (es : List Event). end (begun ++ flat_map attribute attributes) es) c.behind_first_line.ensures
          ∙ code-written old attributes (code_lines w.bytes.now w.tab (behind_first_line c.args.inner.now));
      mode = refl;
      closed = refl;
    }
