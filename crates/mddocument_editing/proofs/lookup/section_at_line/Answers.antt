use Rattle.mddocument_editing.proofs.Prelude.{◌≡◌, subst, ◌∙◌, arith, Some, None, slice_get, document_of, Utf8, bytes_of_sections, IsSectionAt, starts}
use Rattle.mddocument_editing.proofs.SectionPlaces.{count-bytes}
use Rattle.mddocument_editing.proofs.SectionPositions.{line-start}
use Rattle.mddocument_editing.proofs.lookup.section_at_line.Goals as goal

pub returns-in-None : goal.returns-in-None
returns-in-None c =
    let all = bytes_of_sections c.args.kept.now.sections.items in
    let none : None ≡ slice_get (starts (document_of all)) c.args.line = c.in-None.ensures ∙ line-start Utf8 (document_of all) c.args.line in
    record {
      start = λ byte is. absurd (cc);
      none = λ is. omega (arith, c.len.ensures, count-bytes c.args.kept.now.sections.items);
    }

pub returns-in-Some : goal.returns-in-Some
returns-in-Some c =
    let all = bytes_of_sections c.args.kept.now.sections.items in
    let some : Some c.in-Some.byte ≡ slice_get (starts (document_of all)) c.args.line = c.in-Some.ensures ∙ line-start Utf8 (document_of all) c.args.line in
    let at = c.section_at.ensures in
    record {
      start = λ byte is. (let same : c.in-Some.byte ≡ byte = cc in subst (λ b. IsSectionAt all b c.section_at.result) same at);
      none = λ is. absurd (cc);
    }
