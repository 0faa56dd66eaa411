use Rattle.mddocument_editing.proofs.Prelude.{◌≡◌, ◌++◌, length, AllByRecursion, into_iter_items, into_iter_len, IsWithinLimit, IsLabelled, IsPackable, IsRead, bytes_of_parts, bytes_of_sections, knows}
use Rattle.mddocument_editing.proofs.section.sections_of.Given as goal

abbrev pub invariant-loop-part : goal.invariant-loop-part
invariant-loop-part l = record {
  counted : into_iter_len l.part-iterator ≡ length (into_iter_items l.part-iterator);
  bytes : bytes_of_sections l.sections.items ++ bytes_of_parts (into_iter_items l.part-iterator) ≡ bytes_of_parts l.fn.parts.items;
  limit : AllByRecursion (IsWithinLimit l.fn.options.tab_size) (bytes_of_parts (into_iter_items l.part-iterator));
  labels : AllByRecursion (IsLabelled l.fn.options) (into_iter_items l.part-iterator);
  fits : AllByRecursion (IsPackable l.fn.options (knows l.fn.known)) (bytes_of_parts l.fn.parts.items)
      → AllByRecursion (IsPackable l.fn.options (knows l.fn.known)) (bytes_of_parts (into_iter_items l.part-iterator));
  read : AllByRecursion (IsRead l.fn.options (knows l.fn.known)) l.sections.items;
}
