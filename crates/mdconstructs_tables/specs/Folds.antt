-- States that see the bytes they read: at each byte they write the same fold of it, into what states share.
use Rattle.std.specs.List.{AllByRecursion}
use Rattle.std.specs.Prelude.{◌≡◌, ℕ, suc, ◌+◌, ◌++◌, ◌∷◌, List, [], Bool, true, false, Option, Some, None, drop, length}
use Rattle.markdown_base.specs.declared.event.Event.{Event}
use Rattle.markdown_base.specs.declared.event.Name.{Name as EventName}
use Rattle.markdown_base.specs.declared.state.Name.{Name}
use Rattle.markdown_base.specs.declared.state.State.TheVariants.{Next}
use Rattle.markdown_base.specs.Virtual.{Seat}
use Rattle.markdown_tokenizer.specs.Text.{Given, Text}
use Rattle.markdown_tokenizer.specs.Configuration.{Configuration, Local}
use Rattle.markdown_tokenizer.specs.Sight.{Sight}
use Rattle.mdconstructs_tables.specs.Looks.{Look, behind_byte, scan}
use Rattle.mdconstructs_tables.specs.Rows.{consume, writes, row, StateRows, Table, named}

module _ {R D : Type 0} (f : ℕ → Local R D → Local R D) where
  -- a fold of a byte, if there is one
  abbrev pub fold_of : Option ℕ → Local R D → Local R D
  fold_of None local = local
  fold_of (Some byte) local = f byte local

  -- a write of the fold of the byte that waits
  abbrev pub folds : Sight → Configuration R D → Local R D
  folds s k = fold_of s.current k.local

  -- what states share behind these bytes: each call first writes what all calls of the table do
  abbrev pub folded : (first : Local R D → Local R D) → List Seat → Local R D → Local R D
  folded first [] local = local
  folded first (s ∷ ss) local = folded first ss (f s.byte (first local))

-- the byte before what is left behind these bytes
abbrev pub last_of : Option ℕ → List Seat → Option ℕ
last_of previous [] = previous
last_of previous (s ∷ ss) = last_of (Some s.byte) ss

-- behind a byte the end mark is not set
abbrev pub mark_after : Bool → List Seat → Bool
mark_after mark [] = mark
mark_after mark (s ∷ ss) = false

-- one call for each of these bytes, before those of the rest
abbrev pub behind_bytes : {R D : Type 0} → List Seat → Look R D → Look R D
behind_bytes [] rest = rest
behind_bytes (s ∷ ss) rest = behind_byte 1 (behind_bytes ss rest)

-- these bytes pass a test
abbrev pub AllPass : (ℕ → Bool) → List Seat → Type 0
AllPass test seats = AllByRecursion (λ (s : Seat). test s.byte ≡ true) seats

module _ {W R D : Type 0} (table : Table W R D) where
  -- The state of a name folds the bytes that pass a test: it writes the fold of the byte that waits, reads it and goes on with itself
  abbrev pub Folds : (f : ℕ → Local R D → Local R D) → (test : ℕ → Bool) → Name → Type 0
  Folds f test name =
      (state : StateRows W R D) × (named table.states name ≡ Some state)
      × ((previous : Option W) (byte : ℕ) → test byte ≡ true → state.rows previous (Some (table.class byte)) ≡ row (writes (folds f) ∷ consume ∷ []) (Next name))

  -- Its look over such bytes is the look over what is left, behind them: there states share the fold over the bytes that were read
  abbrev pub BytesAreFolded : Type 0
  BytesAreFolded = (f : ℕ → Local R D → Local R D) (test : ℕ → Bool) (name : Name) → Folds f test name
      → (g : Given) (text : Text) (stack : List EventName) (events : List Event) (bound : ℕ) (read left : List Seat)
      (previous : Option ℕ) (q : ℕ) (mark : Bool) (local : Local R D) → drop q text.seats ≡ read ++ left → AllPass test read
      → let look = scan table g text stack events (suc bound) in
      look (read ++ left) previous q mark local name
      ≡ behind_bytes read (look left (last_of previous read) (q + length read) (mark_after mark read) (folded f table.first read local) name)
