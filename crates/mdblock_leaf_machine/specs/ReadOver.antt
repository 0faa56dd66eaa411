-- The sets of bytes that states of leaf blocks read over, by classes of bytes.
use Rattle.std.specs.List.{list_any, range_with_len}
use Rattle.std.specs.Prelude.{◌&&◌, not, nat_lt, Bool, List, map}
use Rattle.mdblock_leaf_rows.specs.FlowBytes.{FlowByte, flow_byte}

-- The set of the bytes above CR whose class passes none of these tests: for each byte, whether it is in it
abbrev pub set_without : (tests : List (FlowByte → Bool)) → List Bool
set_without tests = map (λ byte. nat_lt 13 byte && not (list_any (λ (test : FlowByte → Bool). test (flow_byte byte)) tests)) (range_with_len 0 256)
