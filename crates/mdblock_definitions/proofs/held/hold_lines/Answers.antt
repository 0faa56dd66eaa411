use Rattle.std.proofs.Common.{◌≡◌, ◌+◌, ◌∙◌, List, [], ◌∷◌, ◌++◌, ap, arith, cond, drop, length, refl, subst, sym, take}
use Rattle.std.proofs.lemmas.List.{drop_all, drop_more}
use Rattle.std.specs.Prelude.{not}
use Rattle.mdblock_containers.specs.declared.spans.RowAt.{RowAt}
use Rattle.mdblock_containers.specs.Rows.{has_none, rest_of}
use Rattle.mdblock_leaf_blocks.specs.LeafBlocks.{text_of}
use Rattle.mdblock_definitions.specs.Held.{HaveTexts}
use Rattle.mdblock_definitions.specs.Sections.{text_in}
use Rattle.mdblock_definitions.proofs.HeldLemmas.{goes-on-then, next-text, none-left, text-more}
use Rattle.mdblock_definitions.proofs.SectionCosts.{bytes-cut, bytes-first}
use Rattle.mdblock_definitions.proofs.held.hold_lines.Goals as goal

pub loop-at-init : goal.loop-at-init
loop-at-init g c = record { left = c.requires.1; text = c.clear.ensures.items; goes_on = refl; turns = omega arith }

pub text_at-requires : goal.text_at-requires
text_at-requires g c =
    let i = c.loop-at.at-index in
    let rows = c.args.rows.now in
    let x = c.at-item.result in
    let split : drop i rows ≡ x ∷ drop (i + 1) rows = drop_more rows i x c.loop-at-test.true ∙ ap (λ (y : RowAt). y ∷ drop (i + 1) rows) (sym c.at-item.is) in
    let next = next-text c.args.tab c.args.bytes.now x (drop (i + 1) rows) i g.all (subst (λ (l : List RowAt). HaveTexts c.args.tab c.args.bytes.now l (drop i g.all)) split c.loop-at.invariant.left) in
    record { inside = next.has.inside }

pub behind-rest-requires : goal.behind-rest-requires
behind-rest-requires g c =
    let i = c.loop-at.at-index in
    let rows = c.args.rows.now in
    let x = c.at-item.result in
    let split : drop i rows ≡ x ∷ drop (i + 1) rows = drop_more rows i x c.loop-at-test.true ∙ ap (λ (y : RowAt). y ∷ drop (i + 1) rows) (sym c.at-item.is) in
    let next = next-text c.args.tab c.args.bytes.now x (drop (i + 1) rows) i g.all (subst (λ (l : List RowAt). HaveTexts c.args.tab c.args.bytes.now l (drop i g.all)) split c.loop-at.invariant.left) in
    omega (arith, next.has.columns, next.has.within, ap length next.has.text, ap length (c.in_ok-read.ensures.seats x.span.number))

pub loop-at-preserved : goal.loop-at-preserved
loop-at-preserved g c =
    let t = c.args.tab in
    let bytes = c.args.bytes.now in
    let i = c.loop-at.at-index in
    let rows = c.args.rows.now in
    let x = c.at-item.result in
    let split : drop i rows ≡ x ∷ drop (i + 1) rows = drop_more rows i x c.loop-at-test.true ∙ ap (λ (y : RowAt). y ∷ drop (i + 1) rows) (sym c.at-item.is) in
    let next = next-text t bytes x (drop (i + 1) rows) i g.all (subst (λ (l : List RowAt). HaveTexts t bytes l (drop i g.all)) split c.loop-at.invariant.left) in
    let line : c.in_ok-read.read.bytes.now ≡ text_of next.row.line = c.in_ok-read.ensures.seats x.span.number ∙ sym next.has.text in
    let rest : c.behind-rest.result.now ≡ rest_of next.row =
    c.behind-rest.ensures.value ∙ ap (λ l. drop x.row.columns l) line ∙ ap (λ n. drop n (text_of next.row.line)) next.has.columns in
    record {
      left = next.left;
      text =
          c.in_ok-hold.ensures
          ∙ ap (λ r. cond c.loop-at.goes_on (c.loop-at.text.items ++ 10 ∷ r) r) rest
          ∙ ap (λ b. cond b (c.loop-at.text.items ++ 10 ∷ rest_of next.row) (rest_of next.row)) c.loop-at.invariant.goes_on
          ∙ ap (λ l. cond (not (has_none (take i g.all))) (l ++ 10 ∷ rest_of next.row) (rest_of next.row)) c.loop-at.invariant.text
          ∙ sym (text-more (take i g.all) next.row)
          ∙ ap text_in (sym next.taken);
      goes_on = goes-on-then i g.all next.row next.taken;
      turns = omega (arith, c.loop-at.invariant.turns, c.add_one.ensures, c.text_at.ensures.turns x.span.number, (bytes-first t bytes rows i x c.loop-at-test.true c.at-item.is).1);
    }

pub returns : goal.returns
returns g c =
    let i = c.loop-at.at-index in
    let none : drop i c.args.rows.now ≡ [] = drop_all i c.args.rows.now (omega arith) in
    record { turns = omega (arith, c.loop-at.invariant.turns, bytes-cut c.args.tab c.args.bytes.now i c.args.rows.now); text = c.loop-at.invariant.text ∙ ap text_in (none-left c.args.tab c.args.bytes.now g.all i (subst (λ (l : List RowAt). HaveTexts c.args.tab c.args.bytes.now l (drop i g.all)) none c.loop-at.invariant.left)) }

pub returns-in_err-read-clause-turns : goal.returns-in_err-read-clause-turns
returns-in_err-read-clause-turns g c =
    let i = c.loop-at.at-index in
    let rows = c.args.rows.now in
    let x = c.at-item.result in
    omega (arith, c.loop-at.invariant.turns, c.add_one.ensures, c.text_at.ensures.turns x.span.number, (bytes-first c.args.tab c.args.bytes.now rows i x c.loop-at-test.true c.at-item.is).1, bytes-cut c.args.tab c.args.bytes.now (i + 1) rows)

pub returns-in_err-hold-clause-turns : goal.returns-in_err-hold-clause-turns
returns-in_err-hold-clause-turns g c =
    let i = c.loop-at.at-index in
    let rows = c.args.rows.now in
    let x = c.at-item.result in
    omega (arith, c.loop-at.invariant.turns, c.add_one.ensures, c.text_at.ensures.turns x.span.number, (bytes-first c.args.tab c.args.bytes.now rows i x c.loop-at-test.true c.at-item.is).1, bytes-cut c.args.tab c.args.bytes.now (i + 1) rows)
