use Rattle.std.proofs.Common.{◌≡◌, ◌≤◌, ◌+◌, ◌-◌, ◌++◌, ℕ, List, drop, length, map, take, ◌*◌}
use Rattle.std.specs.Prelude.{◌||◌, None, false}
use Rattle.std.specs.List.{flat_map}
use Rattle.mdblock_leaf_blocks.specs.LeafEvents.{Mark}
use Rattle.mdblock_containers.specs.Views.{open_of}
use Rattle.mdblock_containers.specs.Written.{Written}
use Rattle.mdinline_labels.specs.Defined.{defines}
use Rattle.mdblock_definitions.specs.Labelled.{is_one_of}
use Rattle.mdblock_definitions.specs.Sectioned.{AreBegun, AreInLines, HasEnd, inside_from}
use Rattle.mdblock_definitions.specs.Skeleton.{labels_of_section, letters_of_section}
use Rattle.mdblock_definitions.specs.Within.{last_of}
use Rattle.mdblock_definitions.proofs.SectionLoop.{section-of}
use Rattle.mdblock_definitions.specs.Costs.{bytes_in}
use Rattle.mdblock_definitions.proofs.skeleton.write_sections.Given as goal

abbrev pub invariant-loop-k : goal.invariant-loop-k
invariant-loop-k g l = record {
  few : l.i ≤ length l.rows;
  turns : l.turns ≤ l.fn.turns + (34 * bytes_in l.tab l.bytes (take l.i l.rows) + 8 * bytes_in l.tab l.bytes (take 1 (drop l.i l.rows)));
  left : AreInLines l.tab l.bytes (map open_of l.stack) (drop l.i l.rows) (drop l.k g.given.1);
  begun : AreBegun l.tab l.bytes (drop l.i l.rows) (drop l.k g.given.1) l.at;
  end : HasEnd l.bytes (last_of g.given.0 (take l.k g.given.1)) l.end;
  written : (rest : List Mark) (all : List Mark) → Written l.fn.skeleton.events.items None false (inside_from l.bytes g.given.1 rest) all → Written l.skeleton.events.items None false (inside_from l.bytes (drop l.k g.given.1) rest) all;
  letters : l.skeleton.letters.items ++ flat_map (letters_of_section l.on) (drop l.k g.given.1) ≡ l.fn.skeleton.letters.items ++ flat_map (letters_of_section l.on) g.given.1;
  labels : (label : List ℕ) → (defines l.skeleton.labels label || is_one_of (flat_map labels_of_section (drop l.k g.given.1)) label) ≡ (defines l.fn.skeleton.labels label || is_one_of (flat_map labels_of_section g.given.1) label);
}

abbrev pub decreases-loop-k : goal.decreases-loop-k
decreases-loop-k g l = length l.sections - l.k

abbrev pub ghost-write_one : goal.ghost-write_one
ghost-write_one g a = (section-of g.given.0 g.given.1 a.index, drop (a.index + 1) g.given.1)
