use Rattle.std.proofs.Common.{◌≡◌, ◌≤◌, ◌<◌, ◌+◌, ◌++◌, ℕ, List, [], ◌∷◌, cond, drop, length, map, refl, sym, ap, ◌∙◌, arith, length-drop}
use Rattle.std.specs.Prelude.{nat_lt}
use Rattle.std.proofs.lemmas.Bool.Decides.{nat_tests}
use Rattle.std.proofs.lemmas.List.{append-nil, drop_all, drop_more, length-map}
use Rattle.mdinline_labels.specs.declared.definitions.Definition.{Definition}
use Rattle.mdinline_labels.specs.Definitions.{definition_at, definitions}
use Rattle.mdblock_containers.specs.SeatPlaces.{events_of}
use Rattle.mdblock_containers.specs.Views.{open_of}
use Rattle.mdblock_definitions.specs.Cursor.{left_at}
use Rattle.mdblock_definitions.specs.Definitions.{definitions_marks, text_byte}
use Rattle.mdblock_definitions.proofs.MarksFits.{text-behind}
use Rattle.mdblock_definitions.proofs.MarksLoop.{begin-cursor, begin-places, begin-text, next-fits, next-text, next-written, not-behind}
use Rattle.mdblock_definitions.proofs.MarksText.{next-definition}
use Rattle.mdblock_definitions.proofs.marks.write_definitions.Goals as goal

pub loop-definition-init : goal.loop-definition-init
loop-definition-init g c =
    let t = c.args.tab in
    let bytes = c.args.bytes.now in
    let stack = map open_of c.args.stack.now in
    let xs = c.args.rows.now in
    let some : 0 < t = omega (arith, c.get-tab_size.ensures.least, c.get-tab_size.ensures.columns) in
    record {
      cursor = begin-cursor t bytes stack some c.requires.limit xs c.args.begin c.requires.lines c.requires.begin;
      next = omega arith;
      text = c.requires.text ∙ begin-text t bytes stack xs c.args.begin c.requires.begin;
      defined = c.requires.definitions;
      paid = omega arith;
      events = refl;
    }

pub write_next-requires-clause-definition : goal.write_next-requires-clause-definition
write_next-requires-clause-definition g c =
    let t = c.args.tab in
    let bytes = c.args.bytes.now in
    let stack = map open_of c.args.stack.now in
    let xs = c.args.rows.now in
    let l = c.loop-definition in
    let i = c.loop-definition.invariant in
    let ds = c.args.definitions.now in
    let d = c.owned-own.result in
    let text = c.args.text.now in
    let split : drop l.definition-index ds ≡ d ∷ drop (l.definition-index + 1) ds = drop_more ds l.definition-index _ c.loop-definition-test.true ∙ ap (λ (x : Definition). x ∷ drop (l.definition-index + 1) ds) (sym c.owned-own.ensures) in
    let both = next-definition (drop l.next text) d (drop (l.definition-index + 1) ds) (sym split ∙ i.defined) in
    let rest : c.behind-rest.result.now ≡ drop l.next text = c.behind-rest.ensures.value in
    let fits = next-fits t bytes stack xs l.here (drop l.next text) d i.text both.0 in
    let left = left_at t bytes stack xs l.here in
    let size : length (drop l.next text) ≡ length left = ap (λ (k : List ℕ). length k) i.text ∙ length-map left text_byte in
    let few : l.next + d.size ≤ length text = omega (arith, size, fits.within, i.next, length-drop l.next text) in
    ap definition_at rest ∙ both.0

pub overflow_add-end : goal.overflow_add-end
overflow_add-end g c =
    let t = c.args.tab in
    let bytes = c.args.bytes.now in
    let stack = map open_of c.args.stack.now in
    let xs = c.args.rows.now in
    let l = c.loop-definition in
    let i = c.loop-definition.invariant in
    let ds = c.args.definitions.now in
    let d = c.owned-own.result in
    let text = c.args.text.now in
    let split : drop l.definition-index ds ≡ d ∷ drop (l.definition-index + 1) ds = drop_more ds l.definition-index _ c.loop-definition-test.true ∙ ap (λ (x : Definition). x ∷ drop (l.definition-index + 1) ds) (sym c.owned-own.ensures) in
    let both = next-definition (drop l.next text) d (drop (l.definition-index + 1) ds) (sym split ∙ i.defined) in
    let rest : c.behind-rest.result.now ≡ drop l.next text = c.behind-rest.ensures.value in
    let fits = next-fits t bytes stack xs l.here (drop l.next text) d i.text both.0 in
    let left = left_at t bytes stack xs l.here in
    let size : length (drop l.next text) ≡ length left = ap (λ (k : List ℕ). length k) i.text ∙ length-map left text_byte in
    let few : l.next + d.size ≤ length text = omega (arith, size, fits.within, i.next, length-drop l.next text) in
    omega (arith, few)

pub loop-definition-preserved : goal.loop-definition-preserved
loop-definition-preserved g c =
    let t = c.args.tab in
    let bytes = c.args.bytes.now in
    let stack = map open_of c.args.stack.now in
    let xs = c.args.rows.now in
    let l = c.loop-definition in
    let i = c.loop-definition.invariant in
    let ds = c.args.definitions.now in
    let d = c.owned-own.result in
    let text = c.args.text.now in
    let split : drop l.definition-index ds ≡ d ∷ drop (l.definition-index + 1) ds = drop_more ds l.definition-index _ c.loop-definition-test.true ∙ ap (λ (x : Definition). x ∷ drop (l.definition-index + 1) ds) (sym c.owned-own.ensures) in
    let both = next-definition (drop l.next text) d (drop (l.definition-index + 1) ds) (sym split ∙ i.defined) in
    let rest : c.behind-rest.result.now ≡ drop l.next text = c.behind-rest.ensures.value in
    let fits = next-fits t bytes stack xs l.here (drop l.next text) d i.text both.0 in
    let left = left_at t bytes stack xs l.here in
    let size : length (drop l.next text) ≡ length left = ap (λ (k : List ℕ). length k) i.text ∙ length-map left text_byte in
    let few : l.next + d.size ≤ length text = omega (arith, size, fits.within, i.next, length-drop l.next text) in
    let m = l.next + d.size in
    let b = nat_lt m (length text) in
    let here = c.in_ok-here.here in
    let behind = drop (d.size + 1) (drop l.next text) in
    let new_text : drop (cond b (m + 1) m) text ≡ _ = next-text text l.next m d.size left (left_at t bytes stack xs here) i.text c.in_ok-here.ensures.left refl few b (not-behind m (length text)) in
    let place : c.line_behind-next.result ≡ cond b (m + 1) m = c.line_behind-next.ensures in
    record {
      cursor = c.in_ok-here.ensures.at;
      next = grind (arith, nat_tests);
      text = ap (λ n. drop n text) place ∙ new_text;
      defined = both.1 ∙ ap definitions (ap (drop (d.size + 1)) i.text ∙ sym (text-behind (d.size + 1) left) ∙ ap (λ p. map text_byte p) (sym c.in_ok-here.ensures.left) ∙ sym (ap (λ n. drop n text) place ∙ new_text));
      paid = omega (arith, i.paid, c.add_one.ensures, c.in_ok-here.ensures.paid);
      events = next-written bytes d (drop (l.definition-index + 1) ds) left (left_at t bytes stack xs here) l.events.items c.write_next.new.events.items _ c.in_ok-here.ensures.left c.in_ok-here.ensures.events
          (ap (λ p. l.events.items ++ events_of (definitions_marks bytes p left)) (sym split) ∙ i.events);
    }

pub returns : goal.returns
returns g c =
    let t = c.args.tab in
    let bytes = c.args.bytes.now in
    let stack = map open_of c.args.stack.now in
    let xs = c.args.rows.now in
    let l = c.loop-definition in
    let i = c.loop-definition.invariant in
    let ds = c.args.definitions.now in
    let some : 0 < t = omega (arith, c.get-tab_size.ensures.least, c.get-tab_size.ensures.columns) in
    let none : drop l.definition-index ds ≡ [] = drop_all l.definition-index ds (omega arith) in
    record {
      turns = omega (arith, i.paid);
      events = λ all are. sym (ap (λ p. l.events.items ++ events_of (definitions_marks bytes p (left_at t bytes stack xs l.here))) none ∙ append-nil l.events.items)
          ∙ i.events ∙ ap (λ p. c.args.events.now.items ++ events_of (definitions_marks bytes ds p)) (begin-places t bytes stack some c.requires.limit xs c.args.begin c.requires.begin all are);
    }

pub returns-in_err-here-clause-turns : goal.returns-in_err-here-clause-turns
returns-in_err-here-clause-turns g c = let i = c.loop-definition.invariant in omega (arith, i.paid, c.add_one.ensures, c.write_next.ensures.turns)
