use Rattle.std.proofs.Common.{◌≡◌, ◌≤◌, ◌+◌, ◌-◌, ◌++◌, ℕ, List, length, drop, map, ◌*◌, take}
use Rattle.std.specs.Prelude.{◌||◌, false, None}
use Rattle.std.specs.List.{flat_map}
use Rattle.mdblock_containers.specs.Costs.{FirstIsNotLazy, IsEnough, columns_in}
use Rattle.mdblock_containers.specs.Frames.{frame_of}
use Rattle.mdblock_containers.specs.Over.{AreEarlier}
use Rattle.mdblock_containers.specs.Rest.{AreLeft}
use Rattle.mdblock_containers.specs.Stood.{HasSpans, IsStood}
use Rattle.mdblock_containers.specs.Views.{open_of}
use Rattle.mdblock_containers.specs.Written.{Written}
use Rattle.mdinline_labels.specs.Defined.{defines}
use Rattle.mdblock_definitions.specs.Labelled.{is_one_of}
use Rattle.mdblock_definitions.specs.Sections.{sections}
use Rattle.mdblock_definitions.specs.Skeleton.{labels_of_section, letters_of_section, sections_marks}
use Rattle.mdblock_definitions.specs.Within.{rest_sections}
use Rattle.mdblock_definitions.proofs.PartSections.{lines_from}
use Rattle.mdblock_definitions.proofs.parts.skeleton_by.Given as goal

abbrev pub invariant-loop-i : goal.invariant-loop-i
invariant-loop-i g l = record {
  within : l.i ≤ length l.rows;
  enough : IsEnough l.turns (l.fn.turns + 150 * columns_in (take l.i l.rows)) (length l.frames.items) l.stood.containers l.passed.from l.passed.to (length l.stack.items) (drop l.i g.all);
  left : AreLeft l.bytes l.tab (map open_of l.stack.items) (drop l.i l.rows) (drop l.i g.all);
  lazy : FirstIsNotLazy (drop l.i g.all);
  passed : AreEarlier (l.i + 1) l.passed.from l.passed.to (map open_of l.stack.items);
  stood : IsStood l.stood (map open_of l.stack.items);
  spans : HasSpans l.frames.items l.stood (map open_of l.stack.items);
  written : Written l.skeleton.events.items None false (rest_sections l.bytes (map frame_of l.frames.items) l.end (sections l.on (drop l.i g.all))) (sections_marks l.bytes (sections l.on g.all));
  letters : l.skeleton.letters.items ++ flat_map (letters_of_section l.on) (sections l.on (drop l.i g.all)) ≡ flat_map (letters_of_section l.on) (sections l.on g.all);
  labels : (label : List ℕ) → (defines l.skeleton.labels label || is_one_of (flat_map labels_of_section (sections l.on (drop l.i g.all))) label) ≡ is_one_of (flat_map labels_of_section (sections l.on g.all)) label;
}

abbrev pub decreases-loop-i : goal.decreases-loop-i
decreases-loop-i g l = length l.rows - l.i

abbrev pub ghost-write_part : goal.ghost-write_part
ghost-write_part g a = lines_from (length g.all - length a.rows.now) g.all
