-- A label is defined in a document if it is one of the labels that are found by how many containers go on.
use Rattle.std.proofs.Common.{◌≡◌, ap}
use Rattle.markdown_base.specs.Virtual.{virtual}
use Rattle.markdown_tokenizer.specs.Text.{Given}
use Rattle.mdblock_definitions.specs.Labelled.{is_one_of}
use Rattle.mdblock_definitions.specs.Skeleton.{written_labels}
use Rattle.mdblock_text_lines.proofs.SectionsAreThose.{labels-are-those}
use Rattle.mddocument.specs.DocumentEvents.{is_defined_in}

pub labels-are-defined : (g : Given) → is_defined_in g ≡ is_one_of (written_labels g.options.constructs (virtual g.tab g.bytes))
labels-are-defined g = ap is_one_of (labels-are-those g.options.constructs (virtual g.tab g.bytes))
