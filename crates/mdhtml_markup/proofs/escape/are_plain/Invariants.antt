use Rattle.std.proofs.Common.{◌≡◌, take, cond}
use Rattle.std.specs.List.{list_all}
use Rattle.std.specs.Prelude.{not}
use Rattle.mdhtml_markup.specs.SafeHtml.{is_mark}
use Rattle.mdhtml_markup.proofs.escape.are_plain.Given as goal

abbrev pub invariant-loop-byte : goal.invariant-loop-byte
invariant-loop-byte l = l.marks ≡ cond (list_all (λ b. not (is_mark b)) (take l.byte-index l.text)) 0 1
