use Rattle.std.proofs.Common.{◌≡◌, ◌+◌, ◌<◌, List, [], ◌∷◌, ◌++◌, drop, refl, sym, ap, ◌∙◌, subst, arith}
use Rattle.std.proofs.lemmas.Bool.{false≢true}
use Rattle.std.proofs.lemmas.List.{append-nil, drop_all, drop_more}
use Rattle.mdblock_containers.specs.declared.spans.RowAt.{RowAt}
use Rattle.mdblock_containers.specs.Rows.{Row}
use Rattle.mdblock_containers.proofs.LazyLemmas.{lazy_columns, lazy_inside, lazy_within}
use Rattle.mdblock_definitions.specs.Sectioned.{AreFirst, BeginsFilled, letters_in}
use Rattle.mdblock_definitions.proofs.SectionLetters.{first-next, letter-is, letters-more, none-left}
use Rattle.mdblock_definitions.proofs.SectionCosts.{bytes-cut, bytes-first}
use Rattle.mdblock_definitions.proofs.skeleton.push_letters.Goals as goal

pub loop-at-init : goal.loop-at-init
loop-at-init g c = record { left = c.requires.1.1.0; text = c.requires.1.1.1; turns = omega arith; letters = refl }

pub push_line-requires : goal.push_line-requires
push_line-requires g c =
    let t = c.args.tab in
    let bytes = c.args.bytes.now in
    let on = c.args.on.now in
    let rows = c.args.rows.now in
    let i = c.loop-at.at-index in
    let x = c.at-item.result in
    let some : 0 < t = omega (arith, c.get-tab_size.ensures.least, c.get-tab_size.ensures.columns) in
    let split : drop i rows ≡ x ∷ drop (i + 1) rows = drop_more rows i x c.loop-at-test.true ∙ ap (λ (y : RowAt). y ∷ drop (i + 1) rows) (sym c.at-item.is) in
    let next = first-next t bytes some c.requires.1.0 on x (drop (i + 1) rows) (drop i rows) g.all i split c.loop-at.invariant.left in
    record {
      inside = lazy_inside t bytes some c.requires.1.0 on x (drop (i + 1) rows ++ next.behind) next.row (drop (i + 1) g.all ++ next.rest) next.has;
      columns = lazy_columns t bytes some c.requires.1.0 on x (drop (i + 1) rows ++ next.behind) next.row (drop (i + 1) g.all ++ next.rest) next.has;
      within = lazy_within t bytes some c.requires.1.0 on x (drop (i + 1) rows ++ next.behind) next.row (drop (i + 1) g.all ++ next.rest) next.has;
    }

pub loop-at-preserved : goal.loop-at-preserved
loop-at-preserved g c =
    let t = c.args.tab in
    let bytes = c.args.bytes.now in
    let on = c.args.on.now in
    let rows = c.args.rows.now in
    let i = c.loop-at.at-index in
    let x = c.at-item.result in
    let some : 0 < t = omega (arith, c.get-tab_size.ensures.least, c.get-tab_size.ensures.columns) in
    let split : drop i rows ≡ x ∷ drop (i + 1) rows = drop_more rows i x c.loop-at-test.true ∙ ap (λ (y : RowAt). y ∷ drop (i + 1) rows) (sym c.at-item.is) in
    let next = first-next t bytes some c.requires.1.0 on x (drop (i + 1) rows) (drop i rows) g.all i split c.loop-at.invariant.left in
    let letter = letter-is t bytes some c.requires.1.0 on x (drop (i + 1) rows ++ next.behind) next.row (drop (i + 1) g.all ++ next.rest) next.has c.loop-at.goes_first
    (λ b. subst BeginsFilled next.is (c.loop-at.invariant.text b)) in
    record {
      left = next.next;
      text = λ b. absurd (false≢true b);
      turns = omega (arith, c.loop-at.invariant.turns, c.add_one.ensures, c.push_line.ensures.turns, (bytes-first t bytes rows i x c.loop-at-test.true c.at-item.is).1);
      letters = letters-more t bytes some c.requires.1.0 on c.loop-at.goes_first next.row (drop (i + 1) g.all) (drop i g.all) c.loop-at.letters.items c.push_line.new.letters.items _ _ next.is letter c.in_ok-push_line.ensures.letters c.loop-at.invariant.letters;
    }

pub returns-clause-letters : goal.returns-clause-letters
returns-clause-letters g c =
    let i = c.loop-at.at-index in
    let gone : drop i c.args.rows.now ≡ [] = drop_all i c.args.rows.now (omega arith) in
    let none = none-left c.args.tab c.args.bytes.now (drop i g.all) (subst (λ (l : List RowAt). AreFirst c.args.tab c.args.bytes.now l (drop i g.all)) gone c.loop-at.invariant.left) in
    sym (append-nil c.loop-at.letters.items) ∙ ap (λ (l : List Row). c.loop-at.letters.items ++ letters_in c.args.on.now c.loop-at.goes_first l) (sym none) ∙ c.loop-at.invariant.letters

pub returns-clause-turns : goal.returns-clause-turns
returns-clause-turns g c = omega (arith, c.loop-at.invariant.turns, bytes-cut c.args.tab c.args.bytes.now c.loop-at.at-index c.args.rows.now)

pub returns-in_err-push_line-clause-turns : goal.returns-in_err-push_line-clause-turns
returns-in_err-push_line-clause-turns g c =
    let i = c.loop-at.at-index in
    let rows = c.args.rows.now in
    omega (arith, c.loop-at.invariant.turns, c.add_one.ensures, c.push_line.ensures.turns, (bytes-first c.args.tab c.args.bytes.now rows i c.at-item.result c.loop-at-test.true c.at-item.is).1, bytes-cut c.args.tab c.args.bytes.now (i + 1) rows)
