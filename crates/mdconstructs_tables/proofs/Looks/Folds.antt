-- A state that folds the bytes that it reads leaves the fold over them.
use Rattle.std.proofs.Common.{◌≡◌, ℕ, suc, ◌+◌, ◌∷◌, ◌++◌, List, [], Bool, true, false, Option, Some, drop, length, refl, ap, ◌∙◌, arith}
use Rattle.markdown_base.proofs.Common.{drop-next}
use Rattle.markdown_base.specs.declared.event.Event.{Event}
use Rattle.markdown_base.specs.declared.event.Name.{Name as EventName}
use Rattle.markdown_base.specs.declared.state.Name.{Name}
use Rattle.markdown_base.specs.Virtual.{Seat}
use Rattle.markdown_tokenizer.specs.Text.{Given, Text}
use Rattle.markdown_tokenizer.specs.Configuration.{Local}
use Rattle.markdown_tokenizer.specs.Sight.{sight, byte_of}
use Rattle.mdconstructs_tables.proofs.Looks.Left.{at-front}
use Rattle.mdconstructs_tables.specs.Folds.{fold_of, folded, last_of, mark_after, behind_bytes, AllPass, Folds, BytesAreFolded}
use Rattle.mdconstructs_tables.specs.Looks.{behind_byte, shows, by_row, called, glance, looked_on, scan, uncalled}
use Rattle.mdconstructs_tables.specs.Rows.{Rows, StateRows, Table, class_of, picked}

-- behind a byte the end mark stays unset
unmarked : (ss : List Seat) → mark_after false ss ≡ false
unmarked [] = refl
unmarked (s ∷ ss) = refl

module _ {W R D : Type 0} (table : Table W R D) (f : ℕ → Local R D → Local R D) (test : ℕ → Bool) (name : Name) (is : Folds table f test name) (g : Given) (text : Text) (stack : List EventName) (events : List Event) (bound : ℕ) where
  -- one byte
  one-folded : (s : Seat) (ss : List Seat) (previous : Option ℕ) (q : ℕ) (mark : Bool) (local : Local R D) → drop q text.seats ≡ s ∷ ss → test s.byte ≡ true
      → scan table g text stack events (suc bound) (s ∷ ss) previous q mark local name
      ≡ behind_byte 1 (scan table g text stack events (suc bound) ss (Some s.byte) (q + 1) false (f s.byte (table.first local)) name)
  one-folded s ss previous q mark local at passes =
      let l = s ∷ ss in
      let rest = scan table g text stack events (suc bound) ss (Some s.byte) (q + 1) false in
      let again = glance table g text stack events bound previous l q mark in
      let seen = sight g text (shows stack events l q mark local) in
      let k1 = shows stack events l q mark (table.first local) in
      let by = λ (rows : Rows R D). looked_on table g text stack events rest l mark
      (by_row stack events again (uncalled local name) seen l q mark (table.first local) (picked rows g seen k1)) in
      ap (λ (o : Option (StateRows W R D)). looked_on table g text stack events rest l mark (called table g text stack events again previous l q mark local name o)) is.1
      ∙ ap by (is.2 (class_of table.class previous) s.byte passes)
      ∙ ap (λ o. behind_byte 1 (rest (fold_of f o (table.first local)) name)) (ap byte_of (at-front text.seats q s ss at))

  -- and all of them
  all-folded : (read left : List Seat) (previous : Option ℕ) (q : ℕ) (mark : Bool) (local : Local R D) → drop q text.seats ≡ read ++ left → AllPass test read
      → scan table g text stack events (suc bound) (read ++ left) previous q mark local name
      ≡ behind_bytes read (scan table g text stack events (suc bound) left (last_of previous read) (q + length read) (mark_after mark read) (folded f table.first read local) name)
  all-folded [] left previous q mark local at pass =
      let here : q ≡ q + 0 = omega arith in
      ap (λ i. scan table g text stack events (suc bound) left previous i mark local name) here
  all-folded (s ∷ ss) left previous q mark local at pass =
      let next = drop-next text.seats q s (ss ++ left) at in
      let place : q + 1 + length ss ≡ q + suc (length ss) = omega arith in
      one-folded s (ss ++ left) previous q mark local at pass.0
      ∙ ap (behind_byte 1) (all-folded ss left (Some s.byte) (q + 1) false (f s.byte (table.first local)) next pass.1)
      ∙ ap (λ i. behind_byte 1 (behind_bytes ss (scan table g text stack events (suc bound) left (last_of (Some s.byte) ss) i (mark_after false ss) (folded f table.first ss (f s.byte (table.first local))) name))) place
      ∙ ap (λ m. behind_byte 1 (behind_bytes ss (scan table g text stack events (suc bound) left (last_of (Some s.byte) ss) (q + suc (length ss)) m (folded f table.first ss (f s.byte (table.first local))) name))) (unmarked ss)

pub bytes-are-folded : {W R D : Type 0} (table : Table W R D) → BytesAreFolded table
bytes-are-folded table f test name is g text stack events bound read left previous q mark local at pass =
    all-folded table f test name is g text stack events bound read left previous q mark local at pass
