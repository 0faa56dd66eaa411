use Rattle.std.proofs.Common.{◌≡◌, ◌≤◌, List, ◌++◌, cond, map, take, length, length-append, length-take, sym, ap, ◌∙◌, arith}
use Rattle.std.specs.Prelude.{◌||◌}
use Rattle.std.proofs.lemmas.Bool.{false≢true}
use Rattle.std.proofs.lemmas.List.{take-map, take_all, length-map}
use Rattle.mdblock_lines.specs.declared.containers.Prefix.{Prefix}
use Rattle.mdblock_lines.specs.Containers.{Container}
use Rattle.mdblock_containers.specs.declared.going.Open.{Open}
use Rattle.mdblock_containers.specs.Prefixes.{containers_of}
use Rattle.mdblock_containers.specs.Rows.{Row}
use Rattle.mdblock_containers.specs.Views.{IsRow, begun_of, open_of}
use Rattle.mdblock_containers.proofs.CostLemmas.{begun_size}
use Rattle.mdblock_containers.proofs.parts.open_in.Given
use Rattle.mdblock_containers.proofs.parts.open_in.Goals.{then-row-via-then-row, then-row-via-else-row+then-row-2}
use Rattle.mdblock_containers.proofs.parts.open_in.Goals as goal

module _ (g : Given.Over) (c : goal.After-len g) where
  opened : (r : Row) → IsRow c.args.number c.args.row.now r → containers_of r.went_on ≡ take c.args.row.now.many (map open_of c.args.stack.now.items)
      → map open_of c.open_all.new.stack.items ≡ containers_of r.went_on ++ containers_of r.begun
  opened r is went =
      let row = c.args.row.now in
      c.in_ok-open_all.ensures.value ∙ (λ k. map open_of (c.truncate.ensures.items k) ++ containers_of (begun_of row.list c.args.number (c.as_slice.ensures.value k)))
      ∙ (λ k. sym (take-map open_of row.many c.args.stack.now.items) k ++ containers_of (is.begun k)) ∙ ap (λ (l : List Container). l ++ containers_of r.begun) (sym went)

pub returns-clause-stack : goal.returns-clause-stack
returns-clause-stack g c = λ r is went.
    let left = sym is.is_left_blank ∙ c.if-row.false in
    let lazy = sym is.is_lazy ∙ c.if-row-2.false in
    opened g c r is went ∙ (λ k. cond (sym left k || sym lazy k) (map open_of c.args.stack.now.items) (containers_of r.went_on ++ containers_of r.begun))

pub returns-clause-many : goal.returns-clause-many
returns-clause-many g c = λ r is went left lazy.
    let all : length (map open_of c.open_all.new.stack.items) ≤ c.len.result = omega (arith, c.len.ensures, c.open_all.new.stack.ok, length-map c.open_all.new.stack.items open_of) in
    take_all c.len.result (map open_of c.open_all.new.stack.items) all ∙ opened g c r is went

-- how many there are
pub returns-clause-fewer : goal.returns-clause-fewer
returns-clause-fewer g c =
    let row = c.args.row.now in
    let all = ap (λ (l : List Container). length l) c.in_ok-open_all.ensures.value in
    let parts = length-append (map open_of c.truncate.new.self.items) (containers_of (begun_of row.list c.args.number c.as_slice.result.now)) in
    let front = length-map c.truncate.new.self.items open_of in
    let cut = ap (λ (l : List Open). length l) c.truncate.ensures.items in
    let few = length-take row.many c.args.stack.now.items in
    let begun = begun_size row.list c.args.number c.as_slice.result.now in
    let same = ap (λ (l : List Prefix). length l) c.as_slice.ensures.value in
    let here = length-map c.open_all.new.stack.items open_of in
    omega (arith, c.len.ensures, c.open_all.new.stack.ok, all, parts, front, cut, few, begun, same, here)

pub returns-then-row-clause-whole : goal.returns-then-row-clause-whole
returns-then-row-clause-whole g c = λ left lazy.
    elim c.then-row.branch [
      | then-row-via-then-row w ↦ absurd (false≢true (sym left ∙ w.if-row.true))
      | then-row-via-else-row+then-row-2 w ↦ absurd (false≢true (sym lazy ∙ w.if-row-2.true))
    ]

pub returns-clause-whole : goal.returns-clause-whole
returns-clause-whole g c = λ left lazy. omega (arith, c.len.ensures, c.open_all.new.stack.ok)
