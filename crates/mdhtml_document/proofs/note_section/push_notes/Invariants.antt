use Rattle.std.proofs.Common.{◌≡◌, ◌-◌, ◌≤◌, ℕ, List, drop, length, map, suc}
use Rattle.mdhtml_document.specs.Frames.{AreNotes, known_of, last_known}
use Rattle.mdhtml_document.specs.Html.{notes_from}
use Rattle.mdhtml_document.specs.Notes.{last_call}
use Rattle.mdhtml_document.specs.Spans.{Spans}
use Rattle.mdhtml_document.specs.Written.{after}
use Rattle.mdhtml_document.proofs.note_section.push_notes.Given as goal

abbrev pub invariant-loop-at : goal.invariant-loop-at
invariant-loop-at l = record {
  written : (definitions : List (List ℕ × Spans)) (called : List (List ℕ)) → AreNotes l.notes definitions → ((label : List ℕ) → last_known l.numbered.last label ≡ last_call label called)
      → after l.out.items (notes_from l.whole.options.now l.whole.bytes.now (known_of l.whole) l.whole.tab definitions called (suc l.at) (drop l.at (map (λ x. x.items) l.numbered.labels.items)))
      ≡ after l.initial.out.items (notes_from l.whole.options.now l.whole.bytes.now (known_of l.whole) l.whole.tab definitions called 1 (map (λ x. x.items) l.numbered.labels.items));
  room : l.at ≤ length l.numbered.labels.items;
}

abbrev pub decreases-loop-at : goal.decreases-loop-at
decreases-loop-at l = length l.numbered.labels.items - l.at
