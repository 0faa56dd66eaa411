use Rattle.std.proofs.Common.{◌≡◌, ◌∷◌, List, ap, drop, length, subst, sym, ◌∙◌, arith, take}
use Rattle.std.proofs.lemmas.List.{drop_more}
use Rattle.mdblock_containers.specs.declared.spans.RowAt.{RowAt}
use Rattle.mdblock_definitions.specs.Seen.{AreThese}
use Rattle.mdblock_definitions.proofs.BracketLemmas.{first-begins, first-place, none-begins}
use Rattle.mdblock_definitions.proofs.SectionGoing.{some-rows}
use Rattle.mdblock_definitions.specs.Costs.{bytes_in}
use Rattle.mdblock_definitions.proofs.sections.begins_defining.Goals as goal

pub returns-then-is_empty-clause-value : goal.returns-then-is_empty-clause-value
returns-then-is_empty-clause-value g c = λ all these. none-begins c.args.tab c.args.bytes.now c.args.rows.now (sym c.is_empty.ensures ∙ c.if-is_empty.true) all these

pub has_bracket-requires : goal.has_bracket-requires
has_bracket-requires g c =
    let rows = c.args.rows.now in
    let x = c.index-rows-0.result in
    let split : rows ≡ x ∷ drop 1 rows = drop_more rows 0 x (some-rows (length rows) c.is_empty.result c.is_empty.ensures c.if-is_empty.false) ∙ ap (λ (y : RowAt). y ∷ drop 1 rows) (sym c.index-rows-0.is) in
    let place = first-place c.args.tab c.args.bytes.now x (drop 1 rows) c.requires.all (subst (λ (l : List RowAt). AreThese c.args.tab c.args.bytes.now l c.requires.all) split c.requires.are) in
    record { inside = place.inside; within = place.within }

pub returns-clause-value : goal.returns-clause-value
returns-clause-value g c = λ all these.
    let rows = c.args.rows.now in
    let x = c.index-rows-0.result in
    let split : rows ≡ x ∷ drop 1 rows = drop_more rows 0 x (some-rows (length rows) c.is_empty.result c.is_empty.ensures c.if-is_empty.false) ∙ ap (λ (y : RowAt). y ∷ drop 1 rows) (sym c.index-rows-0.is) in
    first-begins c.args.tab c.args.bytes.now x (drop 1 rows) c.in_ok-begins.begins c.in_ok-begins.ensures.value all (subst (λ (l : List RowAt). AreThese c.args.tab c.args.bytes.now l all) split these)

pub returns-in_err-begins-clause-turns : goal.returns-in_err-begins-clause-turns
returns-in_err-begins-clause-turns g c =
    let t = c.args.tab in
    let bytes = c.args.bytes.now in
    let rows = c.args.rows.now in
    let x = c.index-rows-0.result in
    let split : rows ≡ x ∷ drop 1 rows = drop_more rows 0 x (some-rows (length rows) c.is_empty.result c.is_empty.ensures c.if-is_empty.false) ∙ ap (λ (y : RowAt). y ∷ drop 1 rows) (sym c.index-rows-0.is) in
    omega (arith, c.has_bracket.ensures.turns, ap (λ l. bytes_in t bytes (take 1 l)) split)

pub returns-clause-turns : goal.returns-clause-turns
returns-clause-turns g c =
    let t = c.args.tab in
    let bytes = c.args.bytes.now in
    let rows = c.args.rows.now in
    let x = c.index-rows-0.result in
    let split : rows ≡ x ∷ drop 1 rows = drop_more rows 0 x (some-rows (length rows) c.is_empty.result c.is_empty.ensures c.if-is_empty.false) ∙ ap (λ (y : RowAt). y ∷ drop 1 rows) (sym c.index-rows-0.is) in
    omega (arith, c.has_bracket.ensures.turns, ap (λ l. bytes_in t bytes (take 1 l)) split)
