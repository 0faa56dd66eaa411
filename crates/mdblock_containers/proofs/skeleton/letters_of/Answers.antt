use Rattle.std.proofs.Common.{◌≡◌, ℕ, suc, ◌+◌, ◌<◌, List, [], ◌∷◌, ◌++◌, take, drop, sym, ap, ◌∙◌, subst, arith, append_assoc}
use Rattle.std.specs.List.{flat_map}
use Rattle.std.proofs.lemmas.List.{append-nil, drop_all, drop_more}
use Rattle.mdblock_containers.specs.declared.spans.RowAt.{RowAt}
use Rattle.mdblock_containers.specs.Costs.{columns_in}
use Rattle.mdblock_containers.specs.Letters.{lazy_underline}
use Rattle.mdblock_containers.specs.Rows.{Row}
use Rattle.mdblock_containers.proofs.ColumnLemmas.{columns_more, columns_parts}
use Rattle.mdblock_containers.proofs.LazyLemmas.{HasLeft, lazy_behind, lazy_columns, lazy_inside, lazy_is, lazy_next, lazy_none, lazy_size, lazy_within}
use Rattle.mdblock_containers.proofs.LineFacts.{outside_zero}
use Rattle.mdblock_containers.proofs.skeleton.letters_of.Goals as goal

pub loop-at-init : goal.loop-at-init
loop-at-init g c = record {
  left = record { stack = []; left = record { number = 1; start = 0; are = c.requires.1.1; outside = outside_zero c.args.bytes.now; few = omega arith } };
  letters = ap (λ (l : List ℕ). l ++ flat_map (lazy_underline c.args.on.now) g.all) c.new-letters.ensures.items;
  turns = omega arith;
}

pub push_letter-requires : goal.push_letter-requires
push_letter-requires g c =
    let t = c.args.tab in
    let bytes = c.args.bytes.now in
    let rows = c.args.rows.now in
    let i = c.loop-at.at-index in
    let x = c.at-item.result in
    let some : 0 < t = omega (arith, c.get-tab_size.ensures.least, c.get-tab_size.ensures.columns) in
    let split : drop i rows ≡ x ∷ drop (i + 1) rows = drop_more rows i x c.loop-at-test.true ∙ ap (λ (y : RowAt). y ∷ drop (i + 1) rows) (sym c.at-item.is) in
    let next = lazy_next t bytes g.all x (drop (i + 1) rows) (drop i rows) i split c.loop-at.invariant.left in
    record {
      inside = lazy_inside t bytes some c.requires.1.0 c.args.on.now x (drop (i + 1) rows) next.row (drop (i + 1) g.all) next.has;
      columns = lazy_columns t bytes some c.requires.1.0 c.args.on.now x (drop (i + 1) rows) next.row (drop (i + 1) g.all) next.has;
      within = lazy_within t bytes some c.requires.1.0 c.args.on.now x (drop (i + 1) rows) next.row (drop (i + 1) g.all) next.has;
    }

pub loop-at-preserved : goal.loop-at-preserved
loop-at-preserved g c =
    let t = c.args.tab in
    let bytes = c.args.bytes.now in
    let on = c.args.on.now in
    let rows = c.args.rows.now in
    let i = c.loop-at.at-index in
    let x = c.at-item.result in
    let some : 0 < t = omega (arith, c.get-tab_size.ensures.least, c.get-tab_size.ensures.columns) in
    let split : drop i rows ≡ x ∷ drop (i + 1) rows = drop_more rows i x c.loop-at-test.true ∙ ap (λ (y : RowAt). y ∷ drop (i + 1) rows) (sym c.at-item.is) in
    let next = lazy_next t bytes g.all x (drop (i + 1) rows) (drop i rows) i split c.loop-at.invariant.left in
    let more = flat_map (lazy_underline on) (drop (i + 1) g.all) in
    let new : c.push_letter.new.letters.items ≡ c.loop-at.letters.items ++ lazy_underline on next.row = c.in_ok-push_letter.ensures.value ∙ ap (λ l. c.loop-at.letters.items ++ l) (lazy_is t bytes some c.requires.1.0 on x (drop (i + 1) rows) next.row (drop (i + 1) g.all) next.has) in
    record {
      left = lazy_behind t bytes some c.requires.1.0 on x (drop (i + 1) rows) next.row (drop (i + 1) g.all) next.has;
      letters = ap (λ l. l ++ more) new ∙ append_assoc c.loop-at.letters.items (lazy_underline on next.row) more ∙ ap (λ (l : List Row). c.loop-at.letters.items ++ flat_map (lazy_underline on) l) (sym next.is) ∙ c.loop-at.invariant.letters;
      turns =
          let size = lazy_size t bytes some c.requires.1.0 on x (drop (i + 1) rows) next.row (drop (i + 1) g.all) next.has in
          let one = columns_more rows i x c.loop-at-test.true ∙ ap (λ (y : RowAt). columns_in (take i rows) + suc y.span.size) (sym c.at-item.is) in
          omega (arith, c.loop-at.invariant.turns, c.add_one.ensures, c.push_letter.ensures.turns, size, one);
    }

pub returns-clause-value : goal.returns-clause-value
returns-clause-value g c =
    let on = c.args.on.now in
    let i = c.loop-at.at-index in
    let none : drop i c.args.rows.now ≡ [] = drop_all i c.args.rows.now (omega arith) in
    let gone = lazy_none c.args.tab c.args.bytes.now (drop i g.all) (subst (λ (l : List RowAt). HasLeft c.args.tab c.args.bytes.now l (drop i g.all)) none c.loop-at.invariant.left) in
    sym (append-nil c.loop-at.letters.items) ∙ ap (λ (l : List Row). c.loop-at.letters.items ++ flat_map (lazy_underline on) l) (sym gone) ∙ c.loop-at.invariant.letters

pub returns-clause-turns : goal.returns-clause-turns
returns-clause-turns g c = let parts = columns_parts c.args.rows.now c.loop-at.at-index in omega (arith, c.loop-at.invariant.turns, parts)

pub returns-in_err-push_letter-clause-turns : goal.returns-in_err-push_letter-clause-turns
returns-in_err-push_letter-clause-turns g c =
    let t = c.args.tab in
    let bytes = c.args.bytes.now in
    let rows = c.args.rows.now in
    let i = c.loop-at.at-index in
    let x = c.at-item.result in
    let some : 0 < t = omega (arith, c.get-tab_size.ensures.least, c.get-tab_size.ensures.columns) in
    let split : drop i rows ≡ x ∷ drop (i + 1) rows = drop_more rows i x c.loop-at-test.true ∙ ap (λ (y : RowAt). y ∷ drop (i + 1) rows) (sym c.at-item.is) in
    let next = lazy_next t bytes g.all x (drop (i + 1) rows) (drop i rows) i split c.loop-at.invariant.left in
    let size = lazy_size t bytes some c.requires.1.0 c.args.on.now x (drop (i + 1) rows) next.row (drop (i + 1) g.all) next.has in
    let one = columns_more rows i x c.loop-at-test.true ∙ ap (λ (y : RowAt). columns_in (take i rows) + suc y.span.size) (sym c.at-item.is) in
    let parts = columns_parts rows (i + 1) in
    omega (arith, c.loop-at.invariant.turns, c.add_one.ensures, c.push_letter.ensures.turns, size, one, parts)
