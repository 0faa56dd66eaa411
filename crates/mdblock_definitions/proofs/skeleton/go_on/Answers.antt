use Rattle.std.proofs.Common.{◌≡◌, ◌<◌, ◌∷◌, drop, length, map, sym, ap, ◌∙◌, arith, take}
use Rattle.std.proofs.lemmas.List.{drop_more}
use Rattle.mdblock_containers.specs.declared.spans.RowAt.{RowAt}
use Rattle.mdblock_containers.specs.Views.{open_of}
use Rattle.mdblock_definitions.proofs.SectionGoing.{next-begun, next-columns, next-written, some-rows}
use Rattle.mdblock_definitions.specs.Costs.{bytes_in}
use Rattle.mdblock_definitions.proofs.skeleton.go_on.Goals as goal

pub go_to_section-requires-clause-columns : goal.go_to_section-requires-clause-columns
go_to_section-requires-clause-columns g c =
    let some : 0 < c.args.tab = omega (arith, c.get-tab_size.ensures.least, c.get-tab_size.ensures.columns) in
    let rows = c.args.behind.now in
    let x = c.index-behind-0.result in
    let split : rows ≡ x ∷ drop 1 rows = drop_more rows 0 x (some-rows (length rows) c.is_empty.result c.is_empty.ensures c.if-is_empty.false) ∙ ap (λ (y : RowAt). y ∷ drop 1 rows) (sym c.index-behind-0.is) in
    next-columns c.args.tab c.args.bytes.now some c.requires.1.0 (map open_of c.args.stack.now) rows x (drop 1 rows) g.sections.1 split c.requires.1.1.0

pub returns-clause-begun : goal.returns-clause-begun
returns-clause-begun g c =
    let some : 0 < c.args.tab = omega (arith, c.get-tab_size.ensures.least, c.get-tab_size.ensures.columns) in
    let rows = c.args.behind.now in
    let x = c.index-behind-0.result in
    let split : rows ≡ x ∷ drop 1 rows = drop_more rows 0 x (some-rows (length rows) c.is_empty.result c.is_empty.ensures c.if-is_empty.false) ∙ ap (λ (y : RowAt). y ∷ drop 1 rows) (sym c.index-behind-0.is) in
    next-begun c.args.tab c.args.bytes.now some c.requires.1.0 (map open_of c.args.stack.now) rows x (drop 1 rows) g.sections.1 split c.requires.1.1.0 c.in_ok-place.place c.in_ok-place.ensures.columns c.in_ok-place.ensures.place

pub returns-clause-events : goal.returns-clause-events
returns-clause-events g c =
    let some : 0 < c.args.tab = omega (arith, c.get-tab_size.ensures.least, c.get-tab_size.ensures.columns) in
    let rows = c.args.behind.now in
    let x = c.index-behind-0.result in
    let split : rows ≡ x ∷ drop 1 rows = drop_more rows 0 x (some-rows (length rows) c.is_empty.result c.is_empty.ensures c.if-is_empty.false) ∙ ap (λ (y : RowAt). y ∷ drop 1 rows) (sym c.index-behind-0.is) in
    next-written c.args.tab c.args.bytes.now some c.requires.1.0 (map open_of c.args.stack.now) rows x (drop 1 rows) g.sections.1 split c.requires.1.1.0 c.args.events.now.items c.go_to_section.new.events.items g.sections.0 c.args.end c.requires.1.1.1 c.in_ok-place.ensures.marks

pub returns-in_err-place-clause-turns : goal.returns-in_err-place-clause-turns
returns-in_err-place-clause-turns g c =
    let rows = c.args.behind.now in
    let x = c.index-behind-0.result in
    let split : rows ≡ x ∷ drop 1 rows = drop_more rows 0 x (some-rows (length rows) c.is_empty.result c.is_empty.ensures c.if-is_empty.false) ∙ ap (λ (y : RowAt). y ∷ drop 1 rows) (sym c.index-behind-0.is) in
    omega (arith, c.go_to_section.ensures.turns, ap (λ l. bytes_in c.args.tab c.args.bytes.now (take 1 l)) split)

pub returns-clause-turns : goal.returns-clause-turns
returns-clause-turns g c =
    let rows = c.args.behind.now in
    let x = c.index-behind-0.result in
    let split : rows ≡ x ∷ drop 1 rows = drop_more rows 0 x (some-rows (length rows) c.is_empty.result c.is_empty.ensures c.if-is_empty.false) ∙ ap (λ (y : RowAt). y ∷ drop 1 rows) (sym c.index-behind-0.is) in
    omega (arith, c.go_to_section.ensures.turns, ap (λ l. bytes_in c.args.tab c.args.bytes.now (take 1 l)) split)
