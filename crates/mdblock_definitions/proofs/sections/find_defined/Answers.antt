use Rattle.std.proofs.Common.{◌≡◌, ◌+◌, ◌-◌, false, List, [], ap, arith, drop, length, subst, sym, take, ◌∙◌, ◌*◌, ◌≤◌, ◌∷◌, Bool, cond, ℕ}
use Rattle.std.proofs.lemmas.List.{drop_all, take_rest, drop_more}
use Rattle.mdblock_containers.specs.declared.spans.RowAt.{RowAt}
use Rattle.mdblock_containers.specs.Rows.{is_paragraph}
use Rattle.mdblock_containers.proofs.AheadLemmas.{rows_length}
use Rattle.mdblock_definitions.specs.Sections.{before_defined, defined_in}
use Rattle.mdblock_definitions.specs.Seen.{AreHeld, AreThese}
use Rattle.mdblock_definitions.proofs.SectionLemmas.{found-later, found-now, next-line, nothing-in, these-back}
use Rattle.mdblock_definitions.proofs.SectionCosts.{bytes-cut, bytes-first, found-paid, line-pays, look-within, none-paid, text-step}
use Rattle.mdblock_definitions.specs.Costs.{bytes_in, bytes_of, text_rows}
use Rattle.mdblock_definitions.proofs.sections.find_defined.Goals as goal

pub loop-before-init : goal.loop-before-init
loop-before-init g c = record { within = omega arith; paid = omega arith; sum = λ all these. omega arith }

pub defined_behind-requires : goal.defined_behind-requires
defined_behind-requires g c =
    subst (AreHeld c.args.tab c.args.bytes.now) (sym (take_rest c.args.rows.now c.loop-before.before)) (record { all = drop c.loop-before.before c.requires.all; are = these-back c.args.tab c.args.bytes.now c.loop-before.before c.args.rows.now c.requires.all c.requires.are })

pub returns-then-defined-ge1-clause-found : goal.returns-then-defined-ge1-clause-found
returns-then-defined-ge1-clause-found g c = λ all these.
    let n = c.loop-before.before in
    let rows = c.args.rows.now in
    let left = drop n all in
    let there : AreThese c.args.tab c.args.bytes.now (take (length rows - n) (drop n rows)) left = subst (λ (l : List RowAt). AreThese c.args.tab c.args.bytes.now l left) (sym (take_rest rows n)) (these-back c.args.tab c.args.bytes.now n rows all these) in
    let line = next-line rows all n these.rows c.loop-before-test.true in
    let now = found-now c.args.on.now c.loop-before.in_paragraph n c.in_ok-defined.defined.lines all left (drop (n + 1) all) line.row line.rest (c.in_ok-defined.ensures.lines left there) (c.loop-before.invariant.sum all these) c.if-defined-ge1.true in
    record { before = now.0; lines = now.1; definitions = λ some. c.in_ok-defined.ensures.definitions left there some }

pub loop-before-preserved : goal.loop-before-preserved
loop-before-preserved g c =
    let n = c.loop-before.before in
    let rows = c.args.rows.now in
    let t = c.args.tab in
    let bytes = c.args.bytes.now in
    let x = c.index-rows-before.result in
    let split : drop n rows ≡ x ∷ drop (n + 1) rows = drop_more rows n x c.loop-before-test.true ∙ ap (λ (y : RowAt). y ∷ drop (n + 1) rows) (sym c.index-rows-before.is) in
    let one = bytes-first t bytes rows n x c.loop-before-test.true c.index-rows-before.is in
    let step = ap (λ l. bytes_in t bytes (text_rows l)) split ∙ text-step t bytes x (drop (n + 1) rows) ∙ ap (λ b. cond b (bytes_of t bytes x + bytes_in t bytes (text_rows (drop (n + 1) rows))) 0) (sym c.is_text-in_paragraph.ensures) in
    let left = take_rest rows n in
    let costs = c.defined_behind.ensures.turns in
    let cost : c.defined_behind.new.turns ≤ c.add_one.new.self + cond c.loop-before.in_paragraph 0 (23 * bytes_of t bytes x + 21 * bytes_in t bytes (text_rows (drop n rows))) =
    subst (λ (k : ℕ). c.defined_behind.new.turns ≤ c.add_one.new.self + cond c.loop-before.in_paragraph 0 k) (λ k. 23 * (ap (λ l. bytes_in t bytes (take 1 l)) left ∙ one.0) k + 21 * bytes_in t bytes (text_rows (left k))) costs in
    let paid = line-pays c.loop-before.turns c.args.turns.now c.defined_behind.new.turns (bytes_in t bytes (take n rows)) (bytes_of t bytes x) (bytes_in t bytes (text_rows (drop n rows))) (bytes_in t bytes (text_rows (drop (n + 1) rows))) c.loop-before.in_paragraph c.is_text-in_paragraph.result
    (omega (arith)) c.loop-before.invariant.paid step (subst (λ (k : ℕ). c.defined_behind.new.turns ≤ k + cond c.loop-before.in_paragraph 0 (23 * bytes_of t bytes x + 21 * bytes_in t bytes (text_rows (drop n rows)))) c.add_one.ensures cost) in
    record {
      paid = omega (arith, paid, one.1);
      within = omega (arith, c.loop-before-test.true);
      sum = λ all these.
          let left = drop n all in
          let there : AreThese c.args.tab c.args.bytes.now (take (length rows - n) (drop n rows)) left = subst (λ (l : List RowAt). AreThese c.args.tab c.args.bytes.now l left) (sym (take_rest rows n)) (these-back c.args.tab c.args.bytes.now n rows all these) in
          let line = next-line rows all n these.rows c.loop-before-test.true in
          let text : c.is_text-in_paragraph.result ≡ is_paragraph line.row.leaf = c.is_text-in_paragraph.ensures ∙ line.text c.index-rows-before.result c.index-rows-before.is in
          found-later c.args.on.now c.loop-before.in_paragraph n c.in_ok-defined.defined.lines all left (drop (n + 1) all) line.row line.rest (c.in_ok-defined.ensures.lines left there) (c.loop-before.invariant.sum all these)
          c.is_text-in_paragraph.result (omega (arith, c.if-defined-ge1.false)) text;
    }

pub returns-clause-found : goal.returns-clause-found
returns-clause-found g c = λ all these.
    let n = c.loop-before.before in
    let on = c.args.on.now in
    let none : drop n all ≡ [] = drop_all n all (omega (arith, rows_length c.args.rows.now all these.rows)) in
    let sum : n + before_defined on c.loop-before.in_paragraph [] ≡ before_defined on false all = ap (λ l. n + before_defined on c.loop-before.in_paragraph l) (sym none) ∙ c.loop-before.invariant.sum all these in
    let zero : c.none.result.lines ≡ 0 = c.none.ensures in
    record {
      before = omega (arith, sum);
      lines = zero ∙ nothing-in on ∙ ap (defined_in on) (sym none);
      definitions = λ some. absurd (omega (arith, some, zero));
    }

-- what a look at the lines that are left costs
look-costs : (t : ℕ) (bytes : List ℕ) (rows : List RowAt) (n before after : ℕ) (p : Bool) → after ≤ before + cond p 0 (23 * bytes_in t bytes (take 1 (take (length rows - n) (drop n rows))) + 21 * bytes_in t bytes (text_rows (take (length rows - n) (drop n rows))))
    → after ≤ before + cond p 0 (23 * bytes_in t bytes (take 1 (drop n rows)) + 21 * bytes_in t bytes (text_rows (drop n rows)))
look-costs t bytes rows n before after p h = subst (λ (l : List RowAt). after ≤ before + cond p 0 (23 * bytes_in t bytes (take 1 l) + 21 * bytes_in t bytes (text_rows l))) (take_rest rows n) h

pub returns-then-defined-ge1-clause-paid : goal.returns-then-defined-ge1-clause-paid
returns-then-defined-ge1-clause-paid g c =
    let n = c.loop-before.before in
    let rows = c.args.rows.now in
    let t = c.args.tab in
    let bytes = c.args.bytes.now in
    let held = c.requires in
    let left = drop n held.all in
    let these = these-back t bytes n rows held.all held.are in
    let there : AreThese t bytes (take (length rows - n) (drop n rows)) left = subst (λ (l : List RowAt). AreThese t bytes l left) (sym (take_rest rows n)) these in
    let cost = look-costs t bytes rows n c.add_one.new.self c.defined_behind.new.turns c.loop-before.in_paragraph c.defined_behind.ensures.turns in
    found-paid t bytes c.args.on.now (drop n rows) left these c.in_ok-defined.defined.lines c.loop-before.in_paragraph (c.in_ok-defined.ensures.lines left there) c.if-defined-ge1.true c.loop-before.turns c.args.turns.now c.defined_behind.new.turns (bytes_in t bytes (take n rows)) c.loop-before.invariant.paid
    (subst (λ (k : ℕ). c.defined_behind.new.turns ≤ k + cond c.loop-before.in_paragraph 0 (23 * bytes_in t bytes (take 1 (drop n rows)) + 21 * bytes_in t bytes (text_rows (drop n rows)))) c.add_one.ensures cost)

pub returns-then-defined-ge1-clause-turns : goal.returns-then-defined-ge1-clause-turns
returns-then-defined-ge1-clause-turns g c =
    let n = c.loop-before.before in
    let rows = c.args.rows.now in
    let t = c.args.tab in
    let bytes = c.args.bytes.now in
    let cost = look-costs t bytes rows n c.add_one.new.self c.defined_behind.new.turns c.loop-before.in_paragraph c.defined_behind.ensures.turns in
    look-within t bytes rows n c.loop-before-test.true c.loop-before.in_paragraph c.loop-before.turns c.args.turns.now c.defined_behind.new.turns c.add_one.new.self c.loop-before.invariant.paid c.add_one.ensures cost

pub returns-in_err-defined-clause-turns : goal.returns-in_err-defined-clause-turns
returns-in_err-defined-clause-turns g c =
    let n = c.loop-before.before in
    let rows = c.args.rows.now in
    let t = c.args.tab in
    let bytes = c.args.bytes.now in
    let cost = look-costs t bytes rows n c.add_one.new.self c.defined_behind.new.turns c.loop-before.in_paragraph c.defined_behind.ensures.turns in
    look-within t bytes rows n c.loop-before-test.true c.loop-before.in_paragraph c.loop-before.turns c.args.turns.now c.defined_behind.new.turns c.add_one.new.self c.loop-before.invariant.paid c.add_one.ensures cost

pub returns-clause-paid : goal.returns-clause-paid
returns-clause-paid g c =
    let n = c.loop-before.before in
    let rows = c.args.rows.now in
    let none : drop n rows ≡ [] = drop_all n rows (omega arith) in
    none-paid c.loop-before.in_paragraph c.loop-before.turns c.args.turns.now (bytes_in c.args.tab c.args.bytes.now (take n rows)) (bytes_in c.args.tab c.args.bytes.now (text_rows (drop n rows))) (ap (λ l. bytes_in c.args.tab c.args.bytes.now (text_rows l)) none) c.loop-before.invariant.paid

pub returns-clause-turns : goal.returns-clause-turns
returns-clause-turns g c =
    let n = c.loop-before.before in
    let rows = c.args.rows.now in
    let none : drop n rows ≡ [] = drop_all n rows (omega arith) in
    let paid = none-paid c.loop-before.in_paragraph c.loop-before.turns c.args.turns.now (bytes_in c.args.tab c.args.bytes.now (take n rows)) (bytes_in c.args.tab c.args.bytes.now (text_rows (drop n rows))) (ap (λ l. bytes_in c.args.tab c.args.bytes.now (text_rows l)) none) c.loop-before.invariant.paid in
    omega (arith, paid, ap (λ l. bytes_in c.args.tab c.args.bytes.now (text_rows l)) none, bytes-cut c.args.tab c.args.bytes.now n rows)
