use Rattle.std.proofs.Common.{◌≡◌, ◌<◌, ◌+◌, ◌++◌, ℕ, List, drop, length, map, take, sym, ap, ◌∙◌, arith, length-drop}
use Rattle.std.specs.List.{flat_map, prefix_len}
use Rattle.std.proofs.lemmas.List.{append-nil, drop-drop, length-map}
use Rattle.mdblock_containers.specs.SeatPlaces.{events_of}
use Rattle.mdblock_containers.specs.Views.{open_of}
use Rattle.mdblock_containers.proofs.WritingLemmas.{write-both}
use Rattle.mdblock_definitions.specs.Cursor.{left_at}
use Rattle.mdblock_definitions.specs.Definitions.{Place, between, definition_marks, ending_marks, is_byte, text_byte}
use Rattle.mdblock_definitions.proofs.MarksCursor.{line-left}
use Rattle.mdblock_definitions.proofs.MarksLoop.{begins-first, next-fits, next-marks-end, next-marks-none}
use Rattle.mdblock_definitions.proofs.marks.write_next.Goals as goal

pub bounds-text-definition : goal.bounds-text-definition
bounds-text-definition g c =
    let t = c.args.tab in
    let bytes = c.args.bytes.now in
    let stack = map open_of c.args.stack.now in
    let xs = c.args.rows.now in
    let d = c.args.definition in
    let left = left_at t bytes stack xs c.args.cursor in
    let fits = next-fits t bytes stack xs c.args.cursor c.args.text.now d c.requires.text c.requires.definition in
    let size : length c.args.text.now ≡ length left = ap (λ (l : List ℕ). length l) c.requires.text ∙ length-map left text_byte in
    omega (arith, fits.destination.within, fits.destination.some, size, length-drop d.destination.from left)

pub write_definition-requires : goal.write_definition-requires
write_definition-requires g c =
    let t = c.args.tab in
    let bytes = c.args.bytes.now in
    let stack = map open_of c.args.stack.now in
    let xs = c.args.rows.now in
    let d = c.args.definition in
    let left = left_at t bytes stack xs c.args.cursor in
    let fits = next-fits t bytes stack xs c.args.cursor c.args.text.now d c.requires.text c.requires.definition in
    let size : length c.args.text.now ≡ length left = ap (λ (l : List ℕ). length l) c.requires.text ∙ length-map left text_byte in
    let some : d.destination.from < length c.args.text.now = omega (arith, fits.destination.within, fits.destination.some, size, length-drop d.destination.from left) in
    record { cursor = c.requires.cursor; fits = fits; marks = begins-first c.args.text.now left d.destination.from some c.requires.text }

pub write_line_ending-requires : goal.write_line_ending-requires
write_line_ending-requires g c =
    let t = c.args.tab in
    let bytes = c.args.bytes.now in
    let stack = map open_of c.args.stack.now in
    let xs = c.args.rows.now in
    let d = c.args.definition in
    let left = left_at t bytes stack xs c.args.cursor in
    let fits = next-fits t bytes stack xs c.args.cursor c.args.text.now d c.requires.text c.requires.definition in
    let size : length c.args.text.now ≡ length left = ap (λ (l : List ℕ). length l) c.requires.text ∙ length-map left text_byte in
    let f = c.in_ok-end.ensures.goes in
    record {
      cursor = f.at;
      end = line-left t bytes stack xs c.in_ok-end.end f.at ∙ ap (prefix_len is_byte) f.left ∙ fits.last;
      more = omega (arith, size, ap (λ (l : List Place). length l) f.left, length-drop d.size left, c.if-definition-text.true);
    }

pub returns-then-definition-text-clause-events : goal.returns-then-definition-text-clause-events
returns-then-definition-text-clause-events g c =
    let t = c.args.tab in
    let bytes = c.args.bytes.now in
    let stack = map open_of c.args.stack.now in
    let xs = c.args.rows.now in
    let d = c.args.definition in
    let left = left_at t bytes stack xs c.args.cursor in
    let size : length c.args.text.now ≡ length left = ap (λ (l : List ℕ). length l) c.requires.text ∙ length-map left text_byte in
    let f = c.in_ok-end.ensures.goes in
    let mid = c.write_definition.new.events.items in
    let second = c.in_ok-next.ensures.events ∙ ap (λ l. mid ++ events_of (flat_map (ending_marks bytes) (take 1 l))) f.left ∙ ap (λ l. mid ++ events_of l) (next-marks-end bytes d.size left) in
    write-both c.args.events.now.items mid _ (definition_marks bytes d left) (flat_map (ending_marks bytes) (between d.size (d.size + 1) left)) c.in_ok-end.ensures.events second

pub returns-then-definition-text-clause-left : goal.returns-then-definition-text-clause-left
returns-then-definition-text-clause-left g c =
    let t = c.args.tab in
    let bytes = c.args.bytes.now in
    let stack = map open_of c.args.stack.now in
    let xs = c.args.rows.now in
    let d = c.args.definition in
    let left = left_at t bytes stack xs c.args.cursor in
    let size : length c.args.text.now ≡ length left = ap (λ (l : List ℕ). length l) c.requires.text ∙ length-map left text_byte in
    c.in_ok-next.ensures.goes.left ∙ ap (drop 1) c.in_ok-end.ensures.goes.left ∙ drop-drop 1 d.size left

pub returns-clause-events : goal.returns-clause-events
returns-clause-events g c =
    let t = c.args.tab in
    let bytes = c.args.bytes.now in
    let stack = map open_of c.args.stack.now in
    let xs = c.args.rows.now in
    let d = c.args.definition in
    let left = left_at t bytes stack xs c.args.cursor in
    let size : length c.args.text.now ≡ length left = ap (λ (l : List ℕ). length l) c.requires.text ∙ length-map left text_byte in
    let marks = definition_marks bytes d left in
    c.in_ok-end.ensures.events ∙ ap (λ l. c.args.events.now.items ++ events_of l) (sym (append-nil marks) ∙ ap (λ l. marks ++ l) (next-marks-none bytes d.size left (omega (arith, size, c.if-definition-text.false))))
