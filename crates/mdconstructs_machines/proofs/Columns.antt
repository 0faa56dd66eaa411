-- Where virtual bytes of a line end.
use Rattle.std.proofs.Common.{◌≡◌, ◌==◌, ℕ, suc, Bool, true, false, refl}
use Rattle.markdown_base.specs.declared.event.Point.{Point}
use Rattle.markdown_tokenizer.specs.Cursor.{end_at, goes_on}

-- a virtual byte that is no line ending ends a column further on
pub end-column : (t byte : ℕ) (p : Point) (goes : Bool) → (byte == 10) ≡ false → goes_on t byte p ≡ goes → (end_at t byte p).column ≡ suc p.column
end-column t byte p true e f = rw (e, f) refl
end-column t byte p false e f = rw (e, f) refl
