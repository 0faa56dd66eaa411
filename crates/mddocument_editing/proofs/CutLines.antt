-- Where a document is cut, positions count lines as the laws of rests do.
use Rattle.mddocument_editing.proofs.Prelude.{refl, ◌∙◌, begins_line, line_endings}
use Rattle.mddocument_editing.proofs.CountedEndings.{endings-counted, starts-line}
use Rattle.mddocument_editing.specs.Cuts.{EndingsAreCounted, PartsStartLines}

pub endings-are-counted : EndingsAreCounted
endings-are-counted bytes = endings-counted line_endings refl (λ b bs. refl) bytes

pub parts-start-lines : PartsStartLines
parts-start-lines front part h = starts-line begins_line (λ behind. refl) (λ behind b. refl) (λ behind b c bs. refl) front part ∙ h
