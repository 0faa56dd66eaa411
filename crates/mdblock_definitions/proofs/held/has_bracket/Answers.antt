use Rattle.std.proofs.Common.{◌≡◌, ◌≤◌, ◌<◌, ℕ, List, ap, arith, drop, length, sym, take, ◌∙◌}
use Rattle.std.specs.List.{list_all}
use Rattle.std.specs.Prelude.{nat_le}
use Rattle.std.proofs.lemmas.Bool.Decides.{nat_tests}
use Rattle.markdown_base.proofs.Common.{and-right}
use Rattle.markdown_base.proofs.Facts.Bools.{and-left}
use Rattle.mdblock_lines.specs.Lines.{line_bytes}
use Rattle.mdblock_containers.specs.Letters.{is_plain}
use Rattle.mdblock_definitions.specs.Laws.{begins_with_bracket}
use Rattle.mdblock_definitions.proofs.BracketLemmas.{front-says, front-costs}
use Rattle.mdblock_leaf_blocks.specs.LineKinds.{indent}
use Rattle.mdblock_definitions.proofs.held.has_bracket.Goals as goal

pub behind-plain-requires : goal.behind-plain-requires
behind-plain-requires g c =
    let n = c.args.at.now.row.columns in
    let rest = c.behind-rest.result.now in
    let few = and-left (nat_le n (length rest)) (list_all is_plain (take n rest)) (sym c.is_plain_front.ensures.value ∙ c.if-is_plain_front.true) in
    grind (arith, nat_tests, few)

pub returns-then-is_plain_front-clause-value : goal.returns-then-is_plain_front-clause-value
returns-then-is_plain_front-clause-value g c =
    let t = c.args.tab in
    let s = c.args.at.now.span in
    let n = c.args.at.now.row.columns in
    let rest = c.behind-rest.result.now in
    let some : 0 < t = omega (arith, c.get-tab_size.ensures.least, c.get-tab_size.ensures.columns) in
    let most : t ≤ 16 = omega (arith, c.get-tab_size.ensures.most, c.get-tab_size.ensures.columns) in
    let plain = and-right (nat_le n (length rest)) (list_all is_plain (take n rest)) (sym c.is_plain_front.ensures.value ∙ c.if-is_plain_front.true) in
    c.begins_with_bracket.ensures.value
    ∙ ap begins_with_bracket c.behind-plain.ensures.value
    ∙ front-says t some most s.number s.start n rest plain
    ∙ ap (λ l. begins_with_bracket (drop n (line_bytes t s.number 1 s.start l))) c.behind-rest.ensures.value

pub behind-text-requires : goal.behind-text-requires
behind-text-requires g c =
    let size = ap (λ (l : List ℕ). length l) (c.in_ok-read.ensures.seats c.args.at.now.span.number) in
    omega (arith, size, c.requires.within)

pub returns-clause-value : goal.returns-clause-value
returns-clause-value g c =
    let n = c.args.at.now.row.columns in
    c.begins_with_bracket-2.ensures.value ∙ ap begins_with_bracket (c.behind-text.ensures.value ∙ ap (λ l. drop n l) (c.in_ok-read.ensures.seats c.args.at.now.span.number))

pub returns-then-is_plain_front-clause-turns : goal.returns-then-is_plain_front-clause-turns
returns-then-is_plain_front-clause-turns g c =
    let t = c.args.tab in
    let s = c.args.at.now.span in
    let n = c.args.at.now.row.columns in
    let bytes = c.args.bytes.now in
    let rest = c.behind-rest.result.now in
    let some : 0 < t = omega (arith, c.get-tab_size.ensures.least, c.get-tab_size.ensures.columns) in
    let most : t ≤ 16 = omega (arith, c.get-tab_size.ensures.most, c.get-tab_size.ensures.columns) in
    let both = sym c.is_plain_front.ensures.value ∙ c.if-is_plain_front.true in
    let few = and-left (nat_le n (length rest)) (list_all is_plain (take n rest)) both in
    let plain = and-right (nat_le n (length rest)) (list_all is_plain (take n rest)) both in
    let within : n ≤ length rest = grind (arith, nat_tests, few) in
    let costs = front-costs t some most s.number s.start n rest plain within in
    let line : length (line_bytes t s.number 1 s.start rest) ≡ length (line_bytes t s.number 1 s.start (drop s.start bytes)) = ap (λ l. length (line_bytes t s.number 1 s.start l)) c.behind-rest.ensures.value in
    omega (arith, costs, line, c.is_plain_front.ensures.turns, c.begins_with_bracket.ensures.turns, ap indent c.behind-plain.ensures.value)

pub returns-in_err-read-clause-turns : goal.returns-in_err-read-clause-turns
returns-in_err-read-clause-turns g c = omega (arith, c.is_plain_front.ensures.turns, c.text_at.ensures.turns c.args.at.now.span.number, c.requires.within)

pub returns-clause-turns : goal.returns-clause-turns
returns-clause-turns g c =
    let size = ap (λ (l : List ℕ). length l) (c.in_ok-read.ensures.seats c.args.at.now.span.number) in
    omega (arith, c.is_plain_front.ensures.turns, c.text_at.ensures.turns c.args.at.now.span.number, c.requires.within, c.begins_with_bracket-2.ensures.turns, c.begins_with_bracket-2.ensures.within, c.behind-text.ensures.len, size)
