use Rattle.std.proofs.Common.{◌≡◌, ◌+◌, ◌-◌, ◌*◌, ◌≤◌, List, [], ap, arith, drop, length, length-drop, length-take, refl, subst, sym, take, ◌∙◌, false, true}
use Rattle.std.proofs.lemmas.Bool.{false≢true}
use Rattle.std.proofs.lemmas.List.{drop-drop, drop_all, length-take-le, take_rest}
use Rattle.mdblock_containers.specs.declared.spans.RowAt.{RowAt}
use Rattle.mdblock_containers.proofs.AheadLemmas.{rows_length}
use Rattle.mdblock_definitions.specs.Costs.{bytes_in, text_rows}
use Rattle.mdblock_definitions.specs.Sections.{defined_in, paragraph_of, sections_in, text_in}
use Rattle.mdinline_labels.specs.Definitions.{definitions}
use Rattle.mdblock_definitions.proofs.SectionLemmas.{cut-end, cut-init, cut-more, defined-few, goes-on, next-line, these-back, these-first, these-front, these-left}
use Rattle.mdblock_definitions.proofs.SectionCosts.{bytes-cut, bytes-left, bytes-more, bytes-moved, bytes-some, debt-few, debt-none, found-text, none-left, passed-text, text-few}
use Rattle.mdblock_definitions.proofs.sections.sections_from.Goals as goal

pub loop-i-init : goal.loop-i-init
loop-i-init g c =
    let t = c.args.tab in
    let bytes = c.args.bytes.now in
    let on = c.args.on.now in
    let rows = c.args.rows.now in
    let n = c.args.first.before in
    let d = c.args.first.defined.lines in
    let held = c.requires.held in
    let mine = c.requires.first held.all held.are in
    let few = defined-few on (drop n held.all) in
    let size = rows_length rows held.all held.are.rows in
    let text = found-text t bytes on rows held.all held.are false (λ e. absurd (false≢true e)) n d mine.before mine.lines in
    let on_bytes = bytes-more t bytes n d rows in
    let behind : bytes_in t bytes (text_rows (drop (n + d) rows)) ≡ bytes_in t bytes (text_rows (drop d (drop n rows))) = ap (λ l. bytes_in t bytes (text_rows l)) (sym (drop-drop d n rows)) in
    record {
      paid = omega (arith, text, on_bytes, behind, bytes-some t bytes (take n rows), c.push_undefined.ensures.turns);
      nothing = λ all these.
          let there = c.requires.first all these in
          ap (defined_in on) (sym (drop-drop d n all)) ∙ none-left t bytes on rows all these false (λ q. absurd (false≢true q)) n d there.before there.lines;
      within = omega (arith, few, mine.lines, c.requires.within, size, length-drop n held.all);
      cut = λ all these around.
          let found = c.requires.first all these in
          let line = next-line rows all 0 these.rows c.requires.some in
          let next : drop (n + d) all ≡ drop d (drop n all) = sym (drop-drop d n all) in
          let first = these-front t bytes n rows all these in
          let there : length (take d (drop n all)) ≡ d = length-take-le d (drop n all) (omega (arith, defined-few on (drop n all), found.lines)) in
          cut-more on c.new-sections.result.items c.push_undefined.new.sections.items c.push_defined.new.sections.items false n d all (drop (n + d) all) (drop (0 + 1) all) line.row around (sections_in on (length all) false around all) line.rest found.before found.lines next
          (λ before are. c.in_ok-push_undefined.ensures.sections (take n all) first.rows around before are)
          (λ before are. c.in_ok-push_defined.ensures (definitions (text_in (paragraph_of (drop n all)))) found.definitions around (take d (drop n all)) there before are)
          (cut-init on c.new-sections.result.items all around c.new-sections.ensures.items);
    }

pub find_defined-requires : goal.find_defined-requires
find_defined-requires g c = record { all = drop c.loop-i.i c.requires.held.all; are = these-left c.args.tab c.args.bytes.now c.args.rows.now c.requires.held.all c.loop-i.i c.requires.held.are }

pub loop-i-preserved : goal.loop-i-preserved
loop-i-preserved g c =
    let t = c.args.tab in
    let bytes = c.args.bytes.now in
    let on = c.args.on.now in
    let rows = c.args.rows.now in
    let i = c.loop-i.i in
    let n = c.in_ok-found.found.before in
    let d = c.in_ok-found.found.defined.lines in
    let held = c.requires.held in
    let mine = c.in_ok-found.ensures.found (drop i held.all) (these-left t bytes rows held.all i held.are) in
    let within : i + n ≤ length rows = omega (arith, c.in_ok-found.ensures.within, ap (λ (l : List RowAt). length l) (take_rest rows i), length-drop i rows, c.loop-i-test.true) in
    let few = defined-few on (drop n (drop i held.all)) in
    let size = rows_length rows held.all held.are.rows in
    let left_these = these-back t bytes i rows held.all held.are in
    let debt = passed-text t bytes on (drop i rows) (drop i held.all) left_these true (λ e. c.loop-i.invariant.nothing held.all held.are) n d mine.before mine.lines in
    let text = found-text t bytes on (drop i rows) (drop i held.all) left_these true (λ e. c.loop-i.invariant.nothing held.all held.are) n d mine.before mine.lines in
    let slice = take_rest rows i in
    let found_paid : c.find_defined.new.turns ≤ c.add_one.new.self + 45 * bytes_in t bytes (take n (drop i rows)) + 45 * bytes_in t bytes (text_rows (drop n (drop i rows))) =
    subst (λ (l : List RowAt). c.find_defined.new.turns ≤ c.add_one.new.self + 45 * bytes_in t bytes (take n l) + 45 * bytes_in t bytes (text_rows (drop n l))) slice c.in_ok-found.ensures.paid in
    let on_bytes : bytes_in t bytes (take ((i + n) + d) rows) ≡ bytes_in t bytes (take i rows) + bytes_in t bytes (take n (drop i rows)) + bytes_in t bytes (take d (drop n (drop i rows))) =
    omega (arith, bytes-more t bytes (i + n) d rows, bytes-more t bytes i n rows, ap (λ l. bytes_in t bytes (take d l)) (sym (drop-drop n i rows))) in
    let behind : bytes_in t bytes (text_rows (drop ((i + n) + d) rows)) ≡ bytes_in t bytes (text_rows (drop d (drop n (drop i rows)))) = ap (λ l. bytes_in t bytes (text_rows l)) (sym (drop-drop d (i + n) rows) ∙ ap (drop d) (sym (drop-drop n i rows))) in
    let pushed = length-take (i + n - i) (drop i rows) in
    let goes = goes-on on n d (drop i held.all) (drop (i + 1) held.all) (next-line rows held.all i held.are.rows c.loop-i-test.true).row (next-line rows held.all i held.are.rows c.loop-i-test.true).rest mine.before mine.lines in
    let few_rows : (i + n) + d ≤ length rows = omega (arith, few, mine.lines, within, size, length-drop n (drop i held.all), length-drop i held.all) in
    let moved = bytes-moved t bytes rows i n d few_rows in
    record {
      paid = omega (arith, c.loop-i.invariant.paid, debt, text, found_paid, on_bytes, behind, pushed, goes, moved, c.add_one.ensures, c.push_undefined-in-loop-i.ensures.turns);
      nothing = λ all these.
          let there = c.in_ok-found.ensures.found (drop i all) (these-left t bytes rows all i these) in
          ap (defined_in on) (sym (drop-drop d (i + n) all) ∙ ap (drop d) (sym (drop-drop n i all))) ∙ none-left t bytes on (drop i rows) (drop i all) (these-back t bytes i rows all these) false (λ q. absurd (false≢true q)) n d there.before there.lines;
      within = omega (arith, few, mine.lines, within, size, length-drop n (drop i held.all), length-drop i held.all);
      cut = λ all these around.
          let left = drop i all in
          let found = c.in_ok-found.ensures.found left (these-left t bytes rows all i these) in
          let line = next-line rows all i these.rows c.loop-i-test.true in
          let on_by : (i + n) + d ≡ i + (n + d) = omega arith in
          let next : drop ((i + n) + d) all ≡ drop d (drop n left) = sym (drop-drop d (i + n) all) ∙ ap (drop d) (sym (drop-drop n i all)) in
          let first = these-first t bytes rows all i n (i + n) refl these in
          let there : length (take d (drop n left)) ≡ d = length-take-le d (drop n left) (omega (arith, defined-few on (drop n left), found.lines)) in
          cut-more on c.loop-i.sections.items c.push_undefined-in-loop-i.new.sections.items c.push_defined-in-loop-i.new.sections.items true n d left (drop ((i + n) + d) all) (drop (i + 1) all) line.row around (sections_in on (length all) false around all) line.rest found.before found.lines next
          (λ before are. c.in_ok-push_undefined-2.ensures.sections (take n left) first.rows around before are)
          (λ before are. c.in_ok-push_defined-2.ensures (definitions (text_in (paragraph_of (drop n left)))) found.definitions around (take d (drop n left)) there before are)
          (c.loop-i.invariant.cut all these around);
    }

pub returns-clause-sections : goal.returns-clause-sections
returns-clause-sections g c = λ all these around.
    let none : drop c.loop-i.i all ≡ [] = drop_all c.loop-i.i all (omega (arith, rows_length c.args.rows.now all these.rows)) in
    cut-end c.args.on.now c.loop-i.sections.items true (drop c.loop-i.i all) around (sections_in c.args.on.now (length all) false around all) none (c.loop-i.invariant.cut all these around)

pub push_undefined-requires-in-loop-i : goal.push_undefined-requires-in-loop-i
push_undefined-requires-in-loop-i g c =
    let i = c.loop-i.i in
    let n = c.in_ok-found.found.before in
    let first = these-first c.args.tab c.args.bytes.now c.args.rows.now c.requires.held.all i n (i + n) refl c.requires.held.are in
    record { all = take n (drop i c.requires.held.all); are = first.rows }

pub overflow_add-i-in-loop-i : goal.overflow_add-i-in-loop-i
overflow_add-i-in-loop-i g c =
    let on = c.args.on.now in
    let rows = c.args.rows.now in
    let i = c.loop-i.i in
    let n = c.in_ok-found.found.before in
    let held = c.requires.held in
    let mine = c.in_ok-found.ensures.found (drop i held.all) (these-left c.args.tab c.args.bytes.now rows held.all i held.are) in
    let few = defined-few on (drop n (drop i held.all)) in
    let within = c.in_ok-found.ensures.within in
    omega (arith, few, mine.lines, within, ap (λ (l : List RowAt). length l) (take_rest rows i), length-drop i rows, rows_length rows held.all held.are.rows, length-drop n (drop i held.all), length-drop i held.all)

pub loop-i-smaller : goal.loop-i-smaller
loop-i-smaller g c =
    let rows = c.args.rows.now in
    let i = c.loop-i.i in
    let n = c.in_ok-found.found.before in
    let held = c.requires.held in
    let mine = c.in_ok-found.ensures.found (drop i held.all) (these-left c.args.tab c.args.bytes.now rows held.all i held.are) in
    let line = next-line rows held.all i held.are.rows c.loop-i-test.true in
    let more = goes-on c.args.on.now n c.in_ok-found.found.defined.lines (drop i held.all) (drop (i + 1) held.all) line.row line.rest mine.before mine.lines in
    let test = c.loop-i-test.true in
    omega (arith, more, test)

pub returns-in_err-found-clause-turns : goal.returns-in_err-found-clause-turns
returns-in_err-found-clause-turns g c =
    let t = c.args.tab in
    let bytes = c.args.bytes.now in
    let on = c.args.on.now in
    let rows = c.args.rows.now in
    let i = c.loop-i.i in
    let held = c.requires.held in
    let some = bytes-left t bytes rows i c.loop-i-test.true in
    let debt = debt-few t bytes (drop i rows) true in
    let cut = bytes-cut t bytes i rows in
    omega (arith, c.loop-i.invariant.paid, some, debt, cut, c.add_one.ensures, c.find_defined.ensures.turns, ap (bytes_in t bytes) (take_rest rows i))

pub returns-in_err-push_undefined-2-clause-turns : goal.returns-in_err-push_undefined-2-clause-turns
returns-in_err-push_undefined-2-clause-turns g c =
    let t = c.args.tab in
    let bytes = c.args.bytes.now in
    let on = c.args.on.now in
    let rows = c.args.rows.now in
    let i = c.loop-i.i in
    let held = c.requires.held in
    let some = bytes-left t bytes rows i c.loop-i-test.true in
    let debt = debt-few t bytes (drop i rows) true in
    let cut = bytes-cut t bytes i rows in
    let n = c.in_ok-found.found.before in
    let pushed = length-take (i + n - i) (drop i rows) in
    let size = bytes-some t bytes (drop i rows) in
    omega (arith, c.loop-i.invariant.paid, some, debt, cut, c.add_one.ensures, c.find_defined.ensures.turns, ap (bytes_in t bytes) (take_rest rows i), pushed, size, c.push_undefined-in-loop-i.ensures.turns)

pub returns-in_err-push_defined-2-clause-turns : goal.returns-in_err-push_defined-2-clause-turns
returns-in_err-push_defined-2-clause-turns g c =
    let t = c.args.tab in
    let bytes = c.args.bytes.now in
    let on = c.args.on.now in
    let rows = c.args.rows.now in
    let i = c.loop-i.i in
    let held = c.requires.held in
    let some = bytes-left t bytes rows i c.loop-i-test.true in
    let debt = debt-few t bytes (drop i rows) true in
    let cut = bytes-cut t bytes i rows in
    let n = c.in_ok-found.found.before in
    let pushed = length-take (i + n - i) (drop i rows) in
    let size = bytes-some t bytes (drop i rows) in
    omega (arith, c.loop-i.invariant.paid, some, debt, cut, c.add_one.ensures, c.find_defined.ensures.turns, ap (bytes_in t bytes) (take_rest rows i), pushed, size, c.push_undefined-in-loop-i.ensures.turns)

pub returns-clause-turns : goal.returns-clause-turns
returns-clause-turns g c =
    let t = c.args.tab in
    let bytes = c.args.bytes.now in
    let rows = c.args.rows.now in
    let i = c.loop-i.i in
    let none : drop i rows ≡ [] = drop_all i rows (omega arith) in
    let debt = debt-none true (bytes_in t bytes (text_rows (drop i rows))) (ap (λ l. bytes_in t bytes (text_rows l)) none) in
    omega (arith, c.loop-i.invariant.paid, debt, bytes-cut t bytes i rows)

pub push_undefined-requires : goal.push_undefined-requires
push_undefined-requires g c =
    let n = c.args.first.before in
    record { all = take n c.requires.held.all; are = (these-front c.args.tab c.args.bytes.now n c.args.rows.now c.requires.held.all c.requires.held.are).rows }

pub overflow_add-i : goal.overflow_add-i
overflow_add-i g c =
    let rows = c.args.rows.now in
    let n = c.args.first.before in
    let held = c.requires.held in
    let mine = c.requires.first held.all held.are in
    omega (arith, defined-few c.args.on.now (drop n held.all), mine.lines, c.requires.within, rows_length rows held.all held.are.rows, length-drop n held.all)

pub returns-in_err-push_undefined-clause-turns : goal.returns-in_err-push_undefined-clause-turns
returns-in_err-push_undefined-clause-turns g c =
    let t = c.args.tab in
    let bytes = c.args.bytes.now in
    let rows = c.args.rows.now in
    let n = c.args.first.before in
    omega (arith, c.push_undefined.ensures.turns, bytes-some t bytes (take n rows), bytes-cut t bytes n rows, text-few t bytes (drop n rows))

pub returns-in_err-push_defined-clause-turns : goal.returns-in_err-push_defined-clause-turns
returns-in_err-push_defined-clause-turns g c =
    let t = c.args.tab in
    let bytes = c.args.bytes.now in
    let rows = c.args.rows.now in
    let n = c.args.first.before in
    omega (arith, c.push_undefined.ensures.turns, bytes-some t bytes (take n rows), bytes-cut t bytes n rows, text-few t bytes (drop n rows))
