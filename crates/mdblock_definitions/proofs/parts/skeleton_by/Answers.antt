use Rattle.std.proofs.Common.{◌≡◌, ℕ, suc, ◌+◌, ◌-◌, ◌≤◌, Bool, true, false, List, [], ◌∷◌, ◌++◌, length, take, drop, map, refl, sym, ap, ◌∙◌, subst, arith, length-drop, ◌*◌}
use Rattle.std.specs.Prelude.{◌||◌, None}
use Rattle.std.specs.List.{flat_map}
use Rattle.std.proofs.lemmas.List.{append-nil, drop_all, drop-drop, take_rest}
use Rattle.markdown_base.specs.declared.event.Event.{Event}
use Rattle.mdblock_leaf_blocks.specs.LeafEvents.{Mark}
use Rattle.mdblock_containers.specs.declared.frames.Frame.{Frame}
use Rattle.mdblock_containers.specs.declared.going.Open.{Open}
use Rattle.mdblock_containers.specs.declared.spans.RowAt.{RowAt}
use Rattle.mdblock_containers.specs.Ahead.{ahead_of}
use Rattle.mdblock_containers.specs.Costs.{ArePaid, FirstIsNotLazy, IsEnough, columns_in}
use Rattle.mdblock_containers.specs.Frames.{frame_of}
use Rattle.mdblock_containers.specs.Over.{AreEarlier}
use Rattle.mdblock_containers.specs.Rest.{AreLeft, ending_to, exits_to}
use Rattle.mdblock_containers.specs.Rows.{Row}
use Rattle.mdblock_containers.specs.SeatPlaces.{events_of}
use Rattle.mdblock_containers.specs.Skeleton.{shared}
use Rattle.mdblock_containers.specs.Views.{open_of}
use Rattle.mdblock_containers.specs.Written.{Written}
use Rattle.mdblock_containers.proofs.AheadLemmas.{ahead_at, line_at_index, number_at, rows_length}
use Rattle.mdblock_containers.proofs.CostLemmas.{enough_before, next_one, paid_behind}
use Rattle.mdblock_containers.proofs.LineFacts.{outside_zero}
use Rattle.mdblock_containers.proofs.PartLemmas.{earlier_later}
use Rattle.mdblock_containers.proofs.RestLemmas.{next_of, no_end, none_left}
use Rattle.mdblock_containers.proofs.WrittenLemmas.{write_init}
use Rattle.mdinline_labels.specs.Defined.{defines}
use Rattle.mdblock_definitions.specs.Labelled.{is_one_of}
use Rattle.mdblock_definitions.specs.Sectioned.{TextsAreFilled}
use Rattle.mdblock_definitions.specs.Sections.{sections}
use Rattle.mdblock_definitions.specs.Skeleton.{labels_of_section, letters_of_section, sections_marks}
use Rattle.mdblock_definitions.specs.Within.{rest_sections}
use Rattle.mdblock_definitions.proofs.PartSections.{lines-left, lines_from, write-end}
use Rattle.mdblock_definitions.proofs.RowTexts.{these-in}
use Rattle.mdblock_definitions.proofs.Within.{sections-init}
use Rattle.mdblock_containers.proofs.ColumnLemmas.{columns_add, columns_parts, few_columns}
use Rattle.mdblock_containers.proofs.PartCosts.{asked_all}
use Rattle.mdblock_definitions.proofs.FilledTexts.{texts-drop}
use Rattle.mdblock_definitions.proofs.parts.skeleton_by.Goals as goal

or-none : (b : Bool) → (b || false) ≡ b
or-none true = refl
or-none false = refl

pub loop-i-init : goal.loop-i-init
loop-i-init g c =
    let bytes = c.args.bytes.now in
    let ss = sections c.args.on.now g.all in
    record {
      within = omega arith;
      enough =
          let frames = ap (λ (l : List Frame). length l) c.new-frames.ensures.items in
          let stack = ap (λ (l : List Open). length l) c.new-stack.ensures.items in
          record {
            asked = 0;
            are = asked_all g.all 0 0 0 _ c.requires.1.1.1.1.1.0 (omega (arith, stack));
            enough = let none : c.args.turns.now + (length c.new-frames.result.items + (0 + (0 + 4 * (0 - 0)))) ≤ c.args.turns.now + 150 * 0 = omega (arith, frames) in none;
          };
      left = subst (λ (l : List Open). AreLeft bytes c.args.tab (map open_of l) c.args.rows.now g.all) (sym c.new-stack.ensures.items) (record { number = 1; start = 0; are = c.requires.1.1.0; outside = outside_zero bytes; few = omega arith });
      lazy = c.requires.1.1.1.1.1.0;
      passed = λ k d a b. absurd (omega (arith, b));
      stood = record { few = omega arith; spans = refl };
      spans = refl;
      written = subst (λ (l : List Frame). Written c.new.result.items None false (rest_sections bytes (map frame_of l) no_end ss) (sections_marks bytes ss)) (sym c.new-frames.ensures.items)
          (subst (λ (es : List Event). Written es None false (rest_sections bytes [] no_end ss) (sections_marks bytes ss)) (sym c.new.ensures.items)
          (subst (λ (m : List Mark). Written [] None false m (sections_marks bytes ss)) (sym (sections-init bytes ss no_end refl)) (write_init (sections_marks bytes ss))));
      letters = ap (λ (l : List ℕ). l ++ flat_map (letters_of_section c.args.on.now) ss) c.new-2.ensures.items;
      labels = λ label. ap (λ (b : Bool). b || is_one_of (flat_map labels_of_section ss) label) (c.new-3.ensures label);
    }

pub write_part-requires : goal.write_part-requires
write_part-requires g c = λ lifetimes outlives.
    let i = c.loop-i.i in
    let t = c.args.tab in
    let bytes = c.args.bytes.now in
    let rows = c.args.rows.now in
    let all = g.all in
    let x = c.index-rows-i.result in
    let slice = take (length rows - (i + 1)) (drop (i + 1) rows) in
    let stack = map open_of c.loop-i.stack.items in
    let split = line_at_index rows i x _ c.loop-i-test.true c.index-rows-i.is in
    let next = next_of t bytes stack all x slice (drop i rows) i split c.loop-i.invariant.left in
    let many : length rows ≡ length all = rows_length rows all (these-in t bytes [] 1 0 rows all c.requires.1.1.0).rows in
    let given = lines-left rows all i next.row c.loop-i-test.true many next.is in
    let left = subst (λ (p : Row × List Row). AreLeft bytes t stack (x ∷ slice) (p.0 ∷ p.1)) (sym given) next.left in
    let ahead = ahead_at c.args.aheads.now all (length rows) i c.loop-i-test.true c.requires.1.1.1.1.0 ∙ ap (λ (p : Row × List Row). ahead_of p.1) (sym given) in
    let lazy = subst (λ (p : Row × List Row). FirstIsNotLazy (p.0 ∷ p.1)) (sym given) (subst FirstIsNotLazy next.is c.loop-i.invariant.lazy) in
    let paid = subst (λ (p : Row × List Row). ArePaid (p.0 ∷ p.1)) (sym given) (subst ArePaid next.is (paid_behind i all c.requires.1.1.1.1.1.1.0)) in
    let texts = subst (λ (p : Row × List Row). TextsAreFilled (p.0 ∷ p.1)) (sym given) (subst TextsAreFilled next.is (texts-drop i all c.requires.1.1.1.1.1.1.1)) in
    let passed = subst (λ (n : ℕ). AreEarlier n c.loop-i.passed.from c.loop-i.passed.to stack) (sym (number_at t bytes rows all i x c.loop-i-test.true c.index-rows-i.is c.requires.1.1.0)) c.loop-i.invariant.passed in
    (outlives, (c.requires.1.0, (take_rest rows i ∙ split, (left, (ahead, (lazy, (paid, (texts, (c.loop-i.invariant.stood, (c.loop-i.invariant.spans, passed))))))))))

pub loop-i-preserved : goal.loop-i-preserved
loop-i-preserved g c =
    let i = c.loop-i.i in
    let t = c.args.tab in
    let bytes = c.args.bytes.now in
    let sections_on = sections c.args.on.now in
    let rows = c.args.rows.now in
    let all = g.all in
    let lines = c.in_ok-part.part.lines in
    let x = c.index-rows-i.result in
    let slice = take (length rows - (i + 1)) (drop (i + 1) rows) in
    let stack = map open_of c.write_part.new.stack.items in
    let split = line_at_index rows i x _ c.loop-i-test.true c.index-rows-i.is in
    let next = next_of t bytes (map open_of c.loop-i.stack.items) all x slice (drop i rows) i split c.loop-i.invariant.left in
    let many : length rows ≡ length all = rows_length rows all (these-in t bytes [] 1 0 rows all c.requires.1.1.0).rows in
    let given = lines-left rows all i next.row c.loop-i-test.true many next.is in
    let on : (i + 1) + lines ≡ i + (1 + lines) = omega arith in
    let rest : slice ≡ drop (i + 1) rows = take_rest rows (i + 1) in
    let rows_is : drop lines slice ≡ drop (i + (1 + lines)) rows = ap (drop lines) rest ∙ drop-drop lines (i + 1) rows ∙ ap (λ k. drop k rows) on in
    let all_is : drop lines (lines_from (length all - length (take (length rows - i) (drop i rows))) all).1 ≡ drop (i + (1 + lines)) all =
    ap (λ (p : Row × List Row). drop lines p.1) given ∙ drop-drop lines (i + 1) all ∙ ap (λ k. drop k all) on in
    let here : (lines_from (length all - length (take (length rows - i) (drop i rows))) all).0 ∷ (lines_from (length all - length (take (length rows - i) (drop i rows))) all).1 ≡ drop i all =
    ap (λ (p : Row × List Row). p.0 ∷ p.1) given ∙ sym next.is in
    let mine = lines_from (length all - length (take (length rows - i) (drop i rows))) all in
    let before = enough_before c.loop-i.turns c.add_one.new.self (c.args.turns.now + 150 * columns_in (take i rows)) (length c.loop-i.frames.items) c.loop-i.stood.containers c.loop-i.passed.from c.loop-i.passed.to (length c.loop-i.stack.items) (drop i all) (mine.0 ∷ mine.1) c.add_one.ensures (sym here) c.loop-i.invariant.enough in
    let behind = c.in_ok-part.ensures.paid (c.args.turns.now + 150 * columns_in (take i rows) + 1) before in
    let size = columns_add rows i (1 + lines) in
    let one : columns_in (take (1 + lines) (drop i rows)) ≡ suc x.span.size + columns_in (take lines slice) = (λ k. columns_in (take (next_one lines k) (split k))) in
    let events = c.loop-i.skeleton.events.items in
    let new = c.write_part.new.skeleton in
    let f = letters_of_section c.args.on.now in
    record {
      within = omega (arith, c.in_ok-part.ensures.few, ap (λ (l : List RowAt). length l) rest, length-drop (i + 1) rows, c.loop-i-test.true);
      enough = subst (λ (l : List Row). IsEnough c.write_part.new.turns (c.args.turns.now + 150 * columns_in (take (i + (1 + lines)) rows)) (length c.write_part.new.frames.items) c.in_ok-part.part.stood.containers c.in_ok-part.part.passed.from c.in_ok-part.part.passed.to (length c.write_part.new.stack.items) l) all_is
          (record { asked = behind.asked; are = behind.are; enough = omega (arith, behind.enough, size, one) });
      left = subst (λ (l : List Row). AreLeft bytes t stack (drop (i + (1 + lines)) rows) l) all_is (subst (λ (l : List RowAt). AreLeft bytes t stack l (drop lines (lines_from (length all - length (take (length rows - i) (drop i rows))) all).1)) rows_is c.in_ok-part.ensures.left);
      lazy = subst FirstIsNotLazy all_is c.in_ok-part.ensures.lazy;
      passed = earlier_later x.span.number (i + (1 + lines) + 1) c.in_ok-part.part.passed.from c.in_ok-part.part.passed.to stack (omega (arith, number_at t bytes rows all i x c.loop-i-test.true c.index-rows-i.is c.requires.1.1.0)) c.in_ok-part.ensures.passed;
      stood = c.in_ok-part.ensures.stood;
      spans = c.in_ok-part.ensures.spans;
      written = subst (λ (l : List Row). Written new.events.items None false (rest_sections bytes (map frame_of c.write_part.new.frames.items) c.in_ok-part.part.end (sections_on l)) (sections_marks bytes (sections_on all))) all_is
          (c.in_ok-part.ensures.events (sections_marks bytes (sections_on all))
          (subst (λ (l : List Row). Written events None false (rest_sections bytes (map frame_of c.loop-i.frames.items) c.loop-i.end (sections_on l)) (sections_marks bytes (sections_on all))) (sym here) c.loop-i.invariant.written));
      letters = ap (λ l. new.letters.items ++ flat_map f (sections_on l)) (sym all_is) ∙ c.in_ok-part.ensures.letters ∙ ap (λ l. c.loop-i.skeleton.letters.items ++ flat_map f (sections_on l)) here ∙ c.loop-i.invariant.letters;
      labels = λ label. ap (λ l. defines new.labels label || is_one_of (flat_map labels_of_section (sections_on l)) label) (sym all_is) ∙ c.in_ok-part.ensures.labels label
          ∙ ap (λ l. defines c.loop-i.skeleton.labels label || is_one_of (flat_map labels_of_section (sections_on l)) label) here ∙ c.loop-i.invariant.labels label;
    }

pub returns : goal.returns
returns g c =
    let i = c.loop-i.i in
    let bytes = c.args.bytes.now in
    let on = c.args.on.now in
    let rows = c.args.rows.now in
    let all = g.all in
    let none : drop i rows ≡ [] = drop_all i rows (omega arith) in
    let stack = map open_of c.loop-i.stack.items in
    let gone : drop i all ≡ [] = none_left c.args.tab bytes stack all (drop i all) (subst (λ (l : List RowAt). AreLeft bytes c.args.tab stack l (drop i all)) none c.loop-i.invariant.left) in
    let nothing = ap (sections on) gone in
    let fs = map frame_of c.loop-i.frames.items in
    let none_kept : 0 + shared fs [] ≡ shared fs [] = omega arith in
    let es = c.loop-i.skeleton.events.items in
    let wrote = c.in_ok-end_part.ensures.events ∙ ap (λ n. es ++ (events_of (exits_to (drop n fs) c.loop-i.end.place) ++ events_of (ending_to c.loop-i.end))) none_kept in
    let letters = c.loop-i.skeleton.letters.items in
    let few = few_columns c.args.rows.now c.loop-i.i in
    let sc = c.loop-i.stood.containers in
    let asked = c.loop-i.invariant.enough.asked in
    let paid : c.loop-i.turns + (length c.loop-i.frames.items + (sc + (asked + 4 * (asked - sc)))) ≤ c.args.turns.now + 150 * columns_in (take c.loop-i.i c.args.rows.now) = c.loop-i.invariant.enough.enough in
    record {
      turns = omega (arith, paid, c.end_part.ensures.turns, few);
      events = write-end bytes es c.end_part.new.events.items fs c.loop-i.end (sections on (drop i all)) (sections_marks bytes (sections on all)) nothing wrote c.loop-i.invariant.written;
      letters = sym (append-nil letters) ∙ ap (λ l. letters ++ flat_map (letters_of_section on) l) (sym nothing) ∙ c.loop-i.invariant.letters;
      labels = λ label. sym (or-none (defines c.loop-i.skeleton.labels label)) ∙ ap (λ l. defines c.loop-i.skeleton.labels label || is_one_of (flat_map labels_of_section l) label) (sym nothing) ∙ c.loop-i.invariant.labels label;
    }

pub returns-in_err-end_part-clause-turns : goal.returns-in_err-end_part-clause-turns
returns-in_err-end_part-clause-turns g c =
    let few = few_columns c.args.rows.now c.loop-i.i in
    let sc = c.loop-i.stood.containers in
    let asked = c.loop-i.invariant.enough.asked in
    let paid : c.loop-i.turns + (length c.loop-i.frames.items + (sc + (asked + 4 * (asked - sc)))) ≤ c.args.turns.now + 150 * columns_in (take c.loop-i.i c.args.rows.now) = c.loop-i.invariant.enough.enough in
    omega (arith, paid, c.end_part.ensures.turns, few)

pub returns-in_err-part-clause-turns : goal.returns-in_err-part-clause-turns
returns-in_err-part-clause-turns g c =
    let i = c.loop-i.i in
    let t = c.args.tab in
    let bytes = c.args.bytes.now in
    let rows = c.args.rows.now in
    let all = g.all in
    let x = c.index-rows-i.result in
    let slice = take (length rows - (i + 1)) (drop (i + 1) rows) in
    let split = line_at_index rows i x _ c.loop-i-test.true c.index-rows-i.is in
    let next = next_of t bytes (map open_of c.loop-i.stack.items) all x slice (drop i rows) i split c.loop-i.invariant.left in
    let many : length rows ≡ length all = rows_length rows all (these-in t bytes [] 1 0 rows all c.requires.1.1.0).rows in
    let given = lines-left rows all i next.row c.loop-i-test.true many next.is in
    let here : (lines_from (length all - length (take (length rows - i) (drop i rows))) all).0 ∷ (lines_from (length all - length (take (length rows - i) (drop i rows))) all).1 ≡ drop i all =
    ap (λ (p : Row × List Row). p.0 ∷ p.1) given ∙ sym next.is in
    let mine = lines_from (length all - length (take (length rows - i) (drop i rows))) all in
    let before = enough_before c.loop-i.turns c.add_one.new.self (c.args.turns.now + 150 * columns_in (take i rows)) (length c.loop-i.frames.items) c.loop-i.stood.containers c.loop-i.passed.from c.loop-i.passed.to (length c.loop-i.stack.items) (drop i all) (mine.0 ∷ mine.1) c.add_one.ensures (sym here) c.loop-i.invariant.enough in
    let behind = c.write_part.ensures.turns (c.args.turns.now + 150 * columns_in (take i rows) + 1) before in
    let size = columns_parts rows i in
    let one = ap columns_in split in
    omega (arith, behind, size, one)
