use Rattle.markdown_base.proofs.util.char.classify.Goals as goal
use Rattle.markdown_base.proofs.util.char.classify.Goals.{then-is_ascii_punctuation, else-is_ascii_punctuation}

pub returns-else-punctuation : goal.returns-else-punctuation
returns-else-punctuation g c = elim c.if-is_ascii_punctuation.branch [
  | then-is_ascii_punctuation w ↦ cc
  | else-is_ascii_punctuation w ↦ record {
    class = record {
      white_space = λ white. cc;
      ascii = λ other ascii. cc c.is_ascii_punctuation.ensures.value;
      other = λ other plain. (w.punctuation.result, w.punctuation.ensures, cc);
    };
  }
]
