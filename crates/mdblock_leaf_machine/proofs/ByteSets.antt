-- Sets of bytes that states of leaf blocks read over.
use Rattle.std.proofs.Common.{◌≡◌, ◌+◌, ◌∙◌, ℕ, Bool, true, List, [], ◌∷◌, subst, arith}
use Rattle.std.proofs.lemmas.Bool.{and_parts, ltb-true, not-true}
use Rattle.std.specs.Prelude.{◌&&◌, not, nat_lt}
use Rattle.markdown_tokenizer.proofs.ByteSets.{pass_all, passed}
use Rattle.mdblock_leaf_rows.specs.FlowBytes.{FlowByte, flow_byte}
use Rattle.mdblock_leaf_rows.specs.Over.{PassesNone, PassNone}

-- no test passes a class
abbrev pub none_of : List (FlowByte → Bool) → FlowByte → Bool
none_of [] w = true
none_of (test ∷ tests) w = not (test w) && none_of tests w

none-passes : (tests : List (FlowByte → Bool)) (w : FlowByte) → none_of tests w ≡ true → PassesNone tests w
none-passes [] w h = tt
none-passes (test ∷ tests) w h =
    let parts = and_parts (not (test w)) (none_of tests w) h in
    (not-true (test w) parts.0, none-passes tests w parts.1)

pub pass-none : (tests : List (FlowByte → Bool)) (set : List Bool) → pass_all (λ byte. nat_lt 13 byte && none_of tests (flow_byte byte)) set ≡ true → PassNone tests set
pass-none tests set all byte e =
    let both = and_parts (nat_lt 13 byte) (none_of tests (flow_byte byte)) (passed (λ n. nat_lt 13 n && none_of tests (flow_byte n)) set all byte e) in
    (ltb-true 13 byte both.0, none-passes tests (flow_byte byte) both.1)
