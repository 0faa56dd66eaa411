use Rattle.std.proofs.Common.{◌≡◌, ◌-◌, ◌∷◌, [], ◌++◌, ◌∙◌, ap, cond, length, refl, rules, sym, take}
use Rattle.std.proofs.lemmas.Bool.{lt-ltb}
use Rattle.std.proofs.lemmas.Result.{on_ok_weaker}
use Rattle.mdinline_links.proofs.Costs.{one-more}
use Rattle.mdinline_links.proofs.Read.{read-failed, read-opened, read-other}
use Rattle.mdinline_links.specs.declared.pieces.Fate.TheVariants.{AsData, Same}
use Rattle.mdinline_links.specs.Laid.{bracket_at, piece_at}
use Rattle.mdinline_links.proofs.brackets.Pieces.read.Goals as goal

pub returns-then-is_bracket-clause-read : goal.returns-then-is_bracket-clause-read
returns-then-is_bracket-clause-read c =
    let old = c.args.self.now in
    let p = c.push-then-is_bracket in
    let many_pieces : c.len.result ≡ length old.pieces.items = search rules in
    let many_runs : c.len-then-is_bracket.result ≡ length old.runs.items = search rules in
    on_ok_weaker p.result
    (λ ps. read-opened c.args.events.now old p.new.self c.args.start c.args.end c.requires.order c.requires.inside p.ensures.runs p.ensures.owners c.args.left.now.items (sym c.is_bracket.ensures ∙ c.if-is_bracket.true) ps
    (p.ensures.brackets ∙ c.in_ok-push.ensures.items ∙ (λ i. old.brackets.items ++ bracket_at (many_pieces i) (many_runs i) (c.is_named.ensures i) ∷ [])))
    p.ensures.pieces

pub returns-then-is_named-clause-read : goal.returns-then-is_named-clause-read
returns-then-is_named-clause-read c =
    let old = c.args.self.now in
    let p = c.push-then-is_named in
    let many : old.brackets.len ≡ length old.brackets.items = search rules in
    on_ok_weaker p.result
    (λ ps. read-failed c.args.events.now old p.new.self c.args.start c.args.end c.requires.order c.requires.inside p.ensures.runs p.ensures.owners c.args.left.now.items (sym c.is_bracket.ensures ∙ c.if-is_bracket.false)
    (sym c.is_named-2.ensures ∙ c.if-is_named.true) ps (p.ensures.brackets ∙ c.pop.ensures.rest ∙ ap (λ n. take (n - 1) old.brackets.items) many))
    p.ensures.pieces

pub returns-then-is_run-clause-read : goal.returns-then-is_run-clause-read
returns-then-is_run-clause-read c =
    on_ok_weaker c.read_run.result
    (λ r. r c.args.events.now c.requires.order c.requires.inside (sym c.is_bracket.ensures ∙ c.if-is_bracket.false) (sym c.is_named-2.ensures ∙ c.if-is_named.false) (sym c.is_run.ensures ∙ c.if-is_run.true))
    c.read_run.ensures.read

pub returns-clause-read : goal.returns-clause-read
returns-clause-read c =
    let old = c.args.self.now in
    let p = c.push_some in
    on_ok_weaker p.result
    (λ ps. read-other c.args.events.now old p.new.self c.args.start c.args.end c.requires.order c.requires.inside p.ensures.runs p.ensures.owners c.args.left.now.items (sym c.is_bracket.ensures ∙ c.if-is_bracket.false)
    (sym c.is_named-2.ensures ∙ c.if-is_named.false) (sym c.is_run.ensures ∙ c.if-is_run.false)
    (ps ∙ ap (λ t. old.pieces.items ++ cond t (piece_at c.args.start c.args.end Same ∷ []) []) (lt-ltb c.args.start c.args.end c.requires.order)) p.ensures.brackets)
    p.ensures.pieces

pub returns-then-is_bracket-clause-paid : goal.returns-then-is_bracket-clause-paid
returns-then-is_bracket-clause-paid c =
    let p = c.push-then-is_bracket in
    on_ok_weaker p.result (λ ps. one-more c.args.self.now p.new.self c.args.left.now.items (piece_at c.args.start c.args.end AsData) p.ensures.runs ps refl) p.ensures.pieces

pub returns-then-is_named-clause-paid : goal.returns-then-is_named-clause-paid
returns-then-is_named-clause-paid c =
    let p = c.push-then-is_named in
    on_ok_weaker p.result (λ ps. one-more c.args.self.now p.new.self c.args.left.now.items (piece_at c.args.start c.args.end AsData) p.ensures.runs ps refl) p.ensures.pieces

pub returns-then-is_run-clause-paid : goal.returns-then-is_run-clause-paid
returns-then-is_run-clause-paid c = c.read_run.ensures.paid

pub returns-clause-paid : goal.returns-clause-paid
returns-clause-paid c =
    let old = c.args.self.now in
    let p = c.push_some in
    on_ok_weaker p.result
    (λ ps. one-more old p.new.self c.args.left.now.items (piece_at c.args.start c.args.end Same) p.ensures.runs
    (ps ∙ ap (λ t. old.pieces.items ++ cond t (piece_at c.args.start c.args.end Same ∷ []) []) (lt-ltb c.args.start c.args.end c.requires.order)) refl)
    p.ensures.pieces
