use Rattle.markdown_tokenizer.proofs.Prelude.{◌≡◌, take}
use Rattle.markdown_tokenizer.proofs.copies.ItemsTryClone.try_clone.Given as goal

abbrev pub invariant-loop-item : goal.invariant-loop-item
invariant-loop-item g l = l.copies ≡ take l.item-index l.self
