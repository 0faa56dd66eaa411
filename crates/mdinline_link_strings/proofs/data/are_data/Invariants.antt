use Rattle.std.proofs.Common.{◌≡◌, ◌<◌, ℕ, true}
use Rattle.std.specs.Prelude.{slice_index}
use Rattle.mdinline_link_strings.specs.Reached.{IsDataByte}
use Rattle.mdinline_link_strings.proofs.data.are_data.Given as goal

-- if all tests were true so far, each byte is data
abbrev pub invariant-loop-byte : goal.invariant-loop-byte
invariant-loop-byte l = l.all ≡ true → (k : ℕ) → k < l.byte-index → IsDataByte (slice_index l.block k)
