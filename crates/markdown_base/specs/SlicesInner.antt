-- Inner: only proofs and private functions cite this file.
use Rattle.std.specs.Prelude.{ℕ, suc, if◌then◌else◌}
use Rattle.markdown_base.specs.declared.event.Point.{Point}
use Rattle.markdown_base.specs.Slices.{cuts_tab}

-- the index of the first byte that is not before a place
abbrev pub first_byte : Point → ℕ
first_byte p = if cuts_tab p then suc p.index else p.index
