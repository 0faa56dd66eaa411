-- What is told of a look by the rows of its first state, if rows are tests: a look is proved in as many steps as it has tests.
use Rattle.std.proofs.Common.{◌≡◌, ℕ, List, Bool, true, false, cond, Option}
use Rattle.markdown_base.specs.declared.event.Event.{Event}
use Rattle.markdown_base.specs.declared.event.Name.{Name as EventName}
use Rattle.markdown_base.specs.declared.state.Name.{Name}
use Rattle.markdown_base.specs.Virtual.{Seat}
use Rattle.markdown_tokenizer.specs.Text.{Given, Text}
use Rattle.markdown_tokenizer.specs.Configuration.{Configuration, Local}
use Rattle.markdown_tokenizer.specs.Sight.{Sight, sight}
use Rattle.mdconstructs_tables.specs.Looks.{Look, uncalled, shows, by_row, glance, looked_on}
use Rattle.mdconstructs_tables.specs.Rows.{Row, Rows, when, Table, picked}

-- with what the rest of the bytes are read as, before the bytes that are left
module _ {W R D X : Type 0} (table : Table W R D) (tells : Look R D → X) (g : Given) (text : Text) (stack : List EventName) (events : List Event) (bound : ℕ)
    (rest : Local R D → Name → Look R D) (l : List Seat) (previous : Option ℕ) (q : ℕ) (mark : Bool) (local : Local R D) (name : Name) where
  -- by one row
  abbrev pub told_by : Row R D → X
  told_by r =
      tells (looked_on table g text stack events rest l mark
      (by_row stack events (glance table g text stack events bound previous l q mark) (uncalled local name) (sight g text (shows stack events l q mark local)) l q mark (table.first local) r))

  -- by the row that is picked
  abbrev pub told : Rows R D → X
  told rows = told_by (picked rows g (sight g text (shows stack events l q mark local)) (shows stack events l q mark (table.first local)))

  -- rows by a test of bytes
  pub by-test : (t : Bool) (x y : Rows R D) (o p : X) → told x ≡ o → told y ≡ p → told (cond t x y) ≡ cond t o p
  by-test true x y o p h k = h
  by-test false x y o p h k = k

  -- rows by a test of what states share
  pub by-when : (f : Given → Sight → Configuration R D → Bool) (x y : Rows R D) (o p : X) → told x ≡ o → told y ≡ p
      → told (when f x y) ≡ cond (f g (sight g text (shows stack events l q mark local)) (shows stack events l q mark (table.first local))) o p
  by-when f x y o p h k =
      let seen = sight g text (shows stack events l q mark local) in
      let c = shows stack events l q mark (table.first local) in
      elim (f g seen c) as (λ t. told_by (cond t (picked x g seen c) (picked y g seen c)) ≡ cond t o p) [
        | true ↦ h
        | false ↦ k
      ]
