use Rattle.std.proofs.Common.{◌∙◌, ◌+◌, ◌-◌, ◌<◌, ◌++◌, List, drop, take, map, subst, sym, arith, ap, ◌≡◌, ◌≤◌, ◌*◌, ℕ, suc, length}
use Rattle.std.specs.Prelude.{None, false}
use Rattle.std.proofs.lemmas.List.{take_rest}
use Rattle.mdblock_containers.specs.declared.spans.RowAt.{RowAt}
use Rattle.mdblock_containers.specs.Views.{open_of}
use Rattle.mdblock_containers.specs.Written.{Written}
use Rattle.mdblock_definitions.specs.Sectioned.{AreLater}
use Rattle.mdblock_definitions.specs.Sections.{Inside}
use Rattle.mdblock_definitions.specs.Skeleton.{inside_marks, letters_of_section}
use Rattle.mdblock_definitions.specs.Within.{within_marks}
use Rattle.mdblock_definitions.proofs.SectionLoop.{has-end, section-at, turn-of}
use Rattle.mdblock_definitions.specs.Costs.{bytes_in}
use Rattle.mdblock_definitions.proofs.skeleton.write_one.Goals as goal

pub go_on-requires : goal.go_on-requires
go_on-requires g c = λ lifetimes outlives.
    let t = c.args.tab in
    let bytes = c.args.bytes.now in
    let stack = map open_of c.args.stack.now in
    let left = c.args.left.now in
    let some : 0 < c.args.tab = omega (arith, c.get-tab_size.ensures.least, c.get-tab_size.ensures.columns) in
    let x = c.index-sections-index.result in
    let is = section-at c.args.sections.now c.args.index x g.given.0 g.given.1 c.index-sections-index.is c.requires.1.1.0 in
    let turn = turn-of t bytes stack left c.index-left-0.result (x.further + 1) g.given.0 g.given.1 c.index-left-0.is (omega (arith, is.further)) c.requires.1.1.1.0 in (
      outlives,
      (
        c.requires.1.0,
        (
          subst (λ (l : List RowAt). AreLater t bytes stack l g.given.1) (sym (take_rest left (x.further + 1))) turn.later,
          has-end t bytes some c.requires.1.0 stack c.index-left-0.result (take ((x.further + 1) - 1) (drop 1 left)) g.given.0.part turn.is c.in_ok-end.end c.in_ok-end.ensures.end,
        ),
      ),
    )

pub returns-clause-lines : goal.returns-clause-lines
returns-clause-lines g c =
    let x = c.index-sections-index.result in
    let is = section-at c.args.sections.now c.args.index x g.given.0 g.given.1 c.index-sections-index.is c.requires.1.1.0 in
    let turn = turn-of c.args.tab c.args.bytes.now (map open_of c.args.stack.now) c.args.left.now c.index-left-0.result (x.further + 1) g.given.0 g.given.1 c.index-left-0.is (omega (arith, is.further)) c.requires.1.1.1.0 in
    turn.more

pub returns-clause-end : goal.returns-clause-end
returns-clause-end g c =
    let some : 0 < c.args.tab = omega (arith, c.get-tab_size.ensures.least, c.get-tab_size.ensures.columns) in
    let x = c.index-sections-index.result in
    let is = section-at c.args.sections.now c.args.index x g.given.0 g.given.1 c.index-sections-index.is c.requires.1.1.0 in
    let turn = turn-of c.args.tab c.args.bytes.now (map open_of c.args.stack.now) c.args.left.now c.index-left-0.result (x.further + 1) g.given.0 g.given.1 c.index-left-0.is (omega (arith, is.further)) c.requires.1.1.1.0 in
    has-end c.args.tab c.args.bytes.now some c.requires.1.0 (map open_of c.args.stack.now) c.index-left-0.result (take ((x.further + 1) - 1) (drop 1 c.args.left.now)) g.given.0.part turn.is c.in_ok-end.end c.in_ok-end.ensures.end

pub returns-clause-events : goal.returns-clause-events
returns-clause-events g c = λ rest all w.
    let bytes = c.args.bytes.now in
    let x = c.index-sections-index.result in
    let is = section-at c.args.sections.now c.args.index x g.given.0 g.given.1 c.index-sections-index.is c.requires.1.1.0 in
    let behind = within_marks bytes g.given.0.part g.given.1 ++ rest in
    c.in_ok-next.ensures.events rest all
    (c.in_ok-end.ensures.events behind all (subst (λ (i : Inside). Written c.args.skeleton.now.events.items None false (inside_marks bytes g.given.0.part i ++ behind) all) (sym is.inside) w))

pub returns-in_err-end-clause-turns : goal.returns-in_err-end-clause-turns
returns-in_err-end-clause-turns g c =
    let t = c.args.tab in
    let bytes = c.args.bytes.now in
    let left = c.args.left.now in
    let x = c.index-sections-index.result in
    let n = x.further + 1 in
    let is = section-at c.args.sections.now c.args.index x g.given.0 g.given.1 c.index-sections-index.is c.requires.1.1.0 in
    let first = ap (λ l. bytes_in t bytes (take 1 l)) (take_rest left n) in
    let same : n ≡ suc (length g.given.0.part.more) = omega (arith, is.further) in
    let paid : c.write_section.new.turns ≤ c.args.turns.now + (25 * bytes_in t bytes (take n left) + 8 * bytes_in t bytes (take 1 (drop n left))) = omega (arith, c.write_section.ensures.turns) in
    subst (λ (m : ℕ). c.write_section.new.turns ≤ c.args.turns.now + (25 * bytes_in t bytes (take m left) + 8 * bytes_in t bytes (take 1 (drop m left)))) same paid

pub returns-in_err-next-clause-turns : goal.returns-in_err-next-clause-turns
returns-in_err-next-clause-turns g c =
    let t = c.args.tab in
    let bytes = c.args.bytes.now in
    let left = c.args.left.now in
    let x = c.index-sections-index.result in
    let n = x.further + 1 in
    let is = section-at c.args.sections.now c.args.index x g.given.0 g.given.1 c.index-sections-index.is c.requires.1.1.0 in
    let first = ap (λ l. bytes_in t bytes (take 1 l)) (take_rest left n) in
    let same : n ≡ suc (length g.given.0.part.more) = omega (arith, is.further) in
    let paid : c.go_on.new.turns ≤ c.args.turns.now + (25 * bytes_in t bytes (take n left) + 8 * bytes_in t bytes (take 1 (drop n left))) = omega (arith, first, c.write_section.ensures.turns, c.go_on.ensures.turns) in
    subst (λ (m : ℕ). c.go_on.new.turns ≤ c.args.turns.now + (25 * bytes_in t bytes (take m left) + 8 * bytes_in t bytes (take 1 (drop m left)))) same paid

pub returns-clause-turns : goal.returns-clause-turns
returns-clause-turns g c =
    let t = c.args.tab in
    let bytes = c.args.bytes.now in
    let left = c.args.left.now in
    let x = c.index-sections-index.result in
    let n = x.further + 1 in
    let is = section-at c.args.sections.now c.args.index x g.given.0 g.given.1 c.index-sections-index.is c.requires.1.1.0 in
    let first = ap (λ l. bytes_in t bytes (take 1 l)) (take_rest left n) in
    let same : n ≡ suc (length g.given.0.part.more) = omega (arith, is.further) in
    let paid : c.go_on.new.turns ≤ c.args.turns.now + (25 * bytes_in t bytes (take n left) + 8 * bytes_in t bytes (take 1 (drop n left))) = omega (arith, first, c.write_section.ensures.turns, c.go_on.ensures.turns) in
    subst (λ (m : ℕ). c.go_on.new.turns ≤ c.args.turns.now + (25 * bytes_in t bytes (take m left) + 8 * bytes_in t bytes (take 1 (drop m left)))) same paid

pub returns-clause-paid : goal.returns-clause-paid
returns-clause-paid g c =
    let t = c.args.tab in
    let bytes = c.args.bytes.now in
    let left = c.args.left.now in
    let n = c.index-sections-index.result.further + 1 in
    let first = ap (λ l. bytes_in t bytes (take 1 l)) (take_rest left n) in
    omega (arith, first, c.write_section.ensures.turns, c.go_on.ensures.turns)

pub returns-clause-letters : goal.returns-clause-letters
returns-clause-letters g c =
    let x = c.index-sections-index.result in
    let is = section-at c.args.sections.now c.args.index x g.given.0 g.given.1 c.index-sections-index.is c.requires.1.1.0 in
    c.in_ok-end.ensures.letters ∙ ap (λ (i : Inside). c.args.skeleton.now.letters.items ++ letters_of_section c.args.on.now (record { part = g.given.0.part; inside = i })) is.inside
