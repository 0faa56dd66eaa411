use Rattle.mddocument_editing.proofs.Prelude.{◌≡◌, ◌++◌, length, AllByRecursion, into_iter_items, into_iter_len, IsWithinLimit, items_of, IsLabelled, bytes_of_parts}
use Rattle.mddocument_editing.proofs.section.parts_of.Given as goal

abbrev pub invariant-loop-bytes : goal.invariant-loop-bytes
invariant-loop-bytes l = record {
  counted : into_iter_len l.bytes-iterator ≡ length (into_iter_items l.bytes-iterator);
  bytes : bytes_of_parts l.parts.items ++ items_of (into_iter_items l.bytes-iterator) ≡ items_of l.fn.cut.items;
  limit : AllByRecursion (IsWithinLimit l.fn.options.tab_size) (items_of (into_iter_items l.bytes-iterator));
  labels : AllByRecursion (IsLabelled l.fn.options) l.parts.items;
}
