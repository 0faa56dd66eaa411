use Rattle.std.proofs.Common.{◌≡◌, ◌+◌, ◌-◌, ◌<◌, ◌++◌, ◌∷◌, Bool, true, false, [], List, drop, length, take, map, refl, subst, sym, ap, ◌∙◌, arith, ◌*◌, ◌≤◌, suc}
use Rattle.std.specs.Prelude.{◌||◌, None}
use Rattle.std.proofs.lemmas.List.{append-nil, drop-drop, drop_all, length-drop, length-map, take_all, take_rest, length-take-le}
use Rattle.std.specs.List.{flat_map}
use Rattle.mdblock_containers.specs.declared.spans.RowAt.{RowAt}
use Rattle.mdblock_containers.specs.Skeleton.{Part}
use Rattle.mdblock_containers.specs.Views.{open_of}
use Rattle.mdblock_containers.specs.Written.{Written}
use Rattle.mdinline_labels.specs.Defined.{defines, is_same}
use Rattle.mdblock_definitions.specs.Labelled.{is_one_of}
use Rattle.mdblock_definitions.specs.Sectioned.{AreBegun, AreInLines, HasEnd, inside_from}
use Rattle.mdblock_definitions.specs.Sections.{Section}
use Rattle.mdblock_definitions.specs.Seen.{AreSections}
use Rattle.mdblock_definitions.specs.Skeleton.{labels_of_section, letters_of_section}
use Rattle.mdblock_definitions.specs.Within.{last_of}
use Rattle.mdblock_definitions.proofs.Sectioned.{last-number, last-size}
use Rattle.mdblock_definitions.proofs.SectionLoop.{has-end, labels-next, last-next, letters-next, next-section, section-in-lines, section-of, sections-behind, sections-size}
use Rattle.mdblock_definitions.specs.Costs.{bytes_in}
use Rattle.mdblock_definitions.proofs.SectionCosts.{bytes-cut, bytes-more, bytes-some, bytes-within, first-some}
use Rattle.mdblock_definitions.proofs.SectionFacts.{in-some}
use Rattle.mdblock_definitions.proofs.skeleton.write_sections.Goals as goal

pub end_of_part-end-requires : goal.end_of_part-end-requires
end_of_part-end-requires g c =
    let some : 0 < c.args.tab = omega (arith, c.get-tab_size.ensures.least, c.get-tab_size.ensures.columns) in
    record {
      size = last-size c.args.tab c.args.bytes.now some c.requires.1.0 (map open_of c.args.stack.now) c.args.first.now c.args.more.now g.given.0 c.requires.1.1.1.0;
      number = last-number c.args.tab c.args.bytes.now some c.requires.1.0 (map open_of c.args.stack.now) c.args.first.now c.args.more.now g.given.0 c.requires.1.1.1.0;
    }

pub loop-k-init : goal.loop-k-init
loop-k-init g c =
    let t = c.args.tab in
    let bytes = c.args.bytes.now in
    let stack = map open_of c.args.stack.now in
    let some : 0 < c.args.tab = omega (arith, c.get-tab_size.ensures.least, c.get-tab_size.ensures.columns) in
    let section = c.requires.1.1.1.0 in
    let all = section-in-lines t bytes some c.requires.1.0 stack c.args.first.now c.args.more.now g.given.0 g.given.1 section c.requires.1.1.1.1.1.1.0 (omega (arith, c.requires.1.1.1.1.0, length-map c.args.stack.now open_of)) in
    record {
      few = omega arith;
      turns = omega arith;
      left = subst (λ (l : List RowAt). AreInLines t bytes stack l g.given.1) (sym c.requires.1.1.0) all;
      begun = c.requires.1.1.1.1.1.1.1;
      end = has-end t bytes some c.requires.1.0 stack c.args.first.now c.args.more.now g.given.0 section c.end_of_part-end.result (record { blank = c.end_of_part-end.ensures.is_blank; place = c.end_of_part-end.ensures.place; behind = c.end_of_part-end.ensures.behind });
      written = λ rest all w. w;
      letters = refl;
      labels = λ label. refl;
    }

pub write_one-requires : goal.write_one-requires
write_one-requires g c = λ lifetimes outlives.
    let t = c.args.tab in
    let bytes = c.args.bytes.now in
    let stack = map open_of c.args.stack.now in
    let rows = c.args.rows.now in
    let i = c.loop-k.i in
    let k = c.loop-k.k in
    let ss = g.given.1 in
    let test = c.loop-k-test.true in
    let few : k < length ss = omega (arith, sections-size c.args.sections.now ss c.requires.1.1.1.1.1.0, test) in
    let next = next-section g.given.0 ss k few in
    let here = sym (take_rest rows i) in (
      outlives,
      (
        c.requires.1.0,
        (
          subst (λ (l : List Section). AreSections (drop k c.args.sections.now) l) next (sections-behind k c.args.sections.now ss c.requires.1.1.1.1.1.0),
          (
            subst (λ (l : List RowAt). AreInLines t bytes stack l (section-of g.given.0 ss k ∷ drop (k + 1) ss)) here (subst (λ (l : List Section). AreInLines t bytes stack (drop i rows) l) next c.loop-k.invariant.left),
            subst (λ (l : List RowAt). AreBegun t bytes l (section-of g.given.0 ss k ∷ drop (k + 1) ss) c.loop-k.at) here (subst (λ (l : List Section). AreBegun t bytes (drop i rows) l c.loop-k.at) next c.loop-k.invariant.begun),
          ),
        ),
      ),
    )

pub loop-k-preserved : goal.loop-k-preserved
loop-k-preserved g c =
    let t = c.args.tab in
    let bytes = c.args.bytes.now in
    let stack = map open_of c.args.stack.now in
    let rows = c.args.rows.now in
    let i = c.loop-k.i in
    let k = c.loop-k.k in
    let p = g.given.0 in
    let ss = g.given.1 in
    let one = c.in_ok-one.one in
    let is = c.in_ok-one.ensures in
    let test = c.loop-k-test.true in
    let few : k < length ss = omega (arith, sections-size c.args.sections.now ss c.requires.1.1.1.1.1.0, test) in
    let next = next-section p ss k few in
    let behind : drop one.lines (take (length rows - i) (drop i rows)) ≡ drop (i + one.lines) rows = ap (drop one.lines) (take_rest rows i) ∙ drop-drop one.lines i rows in
    let paid : c.write_one.new.turns ≤ c.add_one.new.self + (25 * bytes_in t bytes (take one.lines (drop i rows)) + 8 * bytes_in t bytes (take 1 (drop one.lines (drop i rows)))) =
    subst (λ (l : List RowAt). c.write_one.new.turns ≤ c.add_one.new.self + (25 * bytes_in t bytes (take one.lines l) + 8 * bytes_in t bytes (take 1 (drop one.lines l)))) (take_rest rows i) is.paid in
    let first = bytes-within t bytes 1 one.lines (drop i rows) is.some in
    let long = length-take-le one.lines (drop i rows) (omega (arith, is.few, ap (λ (l : List RowAt). length l) (take_rest rows i))) in
    let some = bytes-some t bytes (take one.lines (drop i rows)) in
    record {
      turns = omega (arith, c.loop-k.invariant.turns, c.add_one.ensures, paid, bytes-more t bytes i one.lines rows, first, long, some, is.some, ap (λ l. bytes_in t bytes (take 1 l)) (drop-drop one.lines i rows));
      few = omega (arith, is.few, c.loop-k.invariant.few, ap (λ (l : List RowAt). length l) (take_rest rows i), length-drop i rows);
      left = subst (λ (l : List RowAt). AreInLines t bytes stack l (drop (k + 1) ss)) behind is.lines;
      begun = subst (λ (l : List RowAt). AreBegun t bytes l (drop (k + 1) ss) one.next) behind is.begun;
      end = subst (λ (q : Part). HasEnd bytes q one.end) (sym (last-next p p ss k few)) is.end;
      written = λ rest all w. is.events rest all (subst (λ (l : List Section). Written c.loop-k.skeleton.events.items None false (inside_from bytes l rest) all) next (c.loop-k.invariant.written rest all w));
      letters = letters-next (letters_of_section c.args.on.now) (section-of p ss k) (drop (k + 1) ss) (drop k ss) c.loop-k.skeleton.letters.items c.write_one.new.skeleton.letters.items _ next is.letters c.loop-k.invariant.letters;
      labels = λ label. labels-next (λ l. is_same label l) labels_of_section (section-of p ss k) (drop (k + 1) ss) (drop k ss) (defines c.loop-k.skeleton.labels label) (defines c.write_one.new.skeleton.labels label) _ next (is.labels label) (c.loop-k.invariant.labels label);
    }

pub returns-clause-end : goal.returns-clause-end
returns-clause-end g c =
    let all : take c.loop-k.k g.given.1 ≡ g.given.1 = take_all c.loop-k.k g.given.1 (omega (arith, sections-size c.args.sections.now g.given.1 c.requires.1.1.1.1.1.0)) in
    subst (λ (l : List Section). HasEnd c.args.bytes.now (last_of g.given.0 l) c.loop-k.end) all c.loop-k.invariant.end

pub returns-clause-events : goal.returns-clause-events
returns-clause-events g c = λ rest all w.
    let gone : drop c.loop-k.k g.given.1 ≡ [] = drop_all c.loop-k.k g.given.1 (omega (arith, sections-size c.args.sections.now g.given.1 c.requires.1.1.1.1.1.0)) in
    subst (λ (l : List Section). Written c.loop-k.skeleton.events.items None false (inside_from c.args.bytes.now l rest) all) gone (c.loop-k.invariant.written rest all w)

pub returns-clause-letters : goal.returns-clause-letters
returns-clause-letters g c =
    let gone : drop c.loop-k.k g.given.1 ≡ [] = drop_all c.loop-k.k g.given.1 (omega (arith, sections-size c.args.sections.now g.given.1 c.requires.1.1.1.1.1.0)) in
    sym (append-nil c.loop-k.skeleton.letters.items) ∙ ap (λ (l : List Section). c.loop-k.skeleton.letters.items ++ flat_map (letters_of_section c.args.on.now) l) (sym gone) ∙ c.loop-k.invariant.letters

or-none : (b : Bool) → b ≡ (b || false)
or-none true = refl
or-none false = refl

pub returns-clause-labels : goal.returns-clause-labels
returns-clause-labels g c = λ label.
    let gone : drop c.loop-k.k g.given.1 ≡ [] = drop_all c.loop-k.k g.given.1 (omega (arith, sections-size c.args.sections.now g.given.1 c.requires.1.1.1.1.1.0)) in
    or-none (defines c.loop-k.skeleton.labels label) ∙ ap (λ (l : List Section). defines c.loop-k.skeleton.labels label || is_one_of (flat_map labels_of_section l) label) (sym gone) ∙ c.loop-k.invariant.labels label

pub returns-in_err-one-clause-turns : goal.returns-in_err-one-clause-turns
returns-in_err-one-clause-turns g c =
    let t = c.args.tab in
    let bytes = c.args.bytes.now in
    let rows = c.args.rows.now in
    let i = c.loop-k.i in
    let n = suc (length (section-of g.given.0 g.given.1 c.loop-k.k).part.more) in
    let stack = map open_of c.args.stack.now in
    let k = c.loop-k.k in
    let ss = g.given.1 in
    let test = c.loop-k-test.true in
    let few : k < length ss = omega (arith, sections-size c.args.sections.now ss c.requires.1.1.1.1.1.0, test) in
    let some = in-some t bytes stack (drop i rows) (section-of g.given.0 ss k) (drop (k + 1) ss) (subst (λ (l : List Section). AreInLines t bytes stack (drop i rows) l) (next-section g.given.0 ss k few) c.loop-k.invariant.left) in
    let paid : c.write_one.new.turns ≤ c.add_one.new.self + (25 * bytes_in t bytes (take n (drop i rows)) + 8 * bytes_in t bytes (take 1 (drop n (drop i rows)))) =
    subst (λ (l : List RowAt). c.write_one.new.turns ≤ c.add_one.new.self + (25 * bytes_in t bytes (take n l) + 8 * bytes_in t bytes (take 1 (drop n l)))) (take_rest rows i) c.write_one.ensures.turns in
    let first = bytes-within t bytes 1 n (drop i rows) (omega arith) in
    let begin = first-some t bytes (drop i rows) some in
    omega (arith, c.loop-k.invariant.turns, c.add_one.ensures, paid, first, begin, bytes-cut t bytes i rows, bytes-cut t bytes n (drop i rows), bytes-cut t bytes 1 (drop n (drop i rows)))

pub returns-clause-turns : goal.returns-clause-turns
returns-clause-turns g c =
    let t = c.args.tab in
    let bytes = c.args.bytes.now in
    let rows = c.args.rows.now in
    let i = c.loop-k.i in
    let cut = bytes-cut t bytes i rows in
    let one = bytes-cut t bytes 1 (drop i rows) in
    omega (arith, c.loop-k.invariant.turns, cut, one)
