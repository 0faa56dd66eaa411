-- The parts of a document are documents.
use Rattle.std.proofs.Common.{List, arith, length, length-append, ℕ, ◌++◌, ◌<◌, ◌≤◌}
use Rattle.std.proofs.Math.Nat.{mul-le-mul_left}
use Rattle.std.proofs.lemmas.List.Elements.{All-from_recursion, recursion_from_All}
use Rattle.markdown_base.specs.Virtual.{IsWithinLimit}
use Rattle.markdown_base.specs.declared.configuration.ParseOptions.{ParseOptions}
use Rattle.markdown_tokenizer.proofs.Positions.Order.{every-back, every-front}
use Rattle.markdown_tokenizer.specs.Text.{IsDocument}
use Rattle.mddocument.specs.Documents.{document}

-- fewer bytes are within the limit, too
fewer : (t : ℕ) (few many : List ℕ) → length few ≤ length many → IsWithinLimit t many → IsWithinLimit t few
fewer t few many l h = let less = mul-le-mul_left t l in omega (arith, less, h)

module _ (options : ParseOptions) (a b : List ℕ) (is : IsDocument (document options (a ++ b))) where
  pub front-document : IsDocument (document options a)
  front-document =
      let n = length-append a b in
      record {
        bytes = All-from_recursion (λ b. b < 256) a (every-front (λ b. b < 256) a b (recursion_from_All (λ b. b < 256) (a ++ b) is.bytes));
        tab = is.tab;
        limit = fewer options.tab_size a (a ++ b) (omega (arith, n)) is.limit;
        one_size = is.one_size;
      }

  pub behind-document : IsDocument (document options b)
  behind-document =
      let n = length-append a b in
      record {
        bytes = All-from_recursion (λ b. b < 256) b (every-back (λ b. b < 256) a b (recursion_from_All (λ b. b < 256) (a ++ b) is.bytes));
        tab = is.tab;
        limit = fewer options.tab_size b (a ++ b) (omega (arith, n)) is.limit;
        one_size = is.one_size;
      }
