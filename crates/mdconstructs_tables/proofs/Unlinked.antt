-- What a machine knows whose table links no events to one another: its rows keep it, and the events stay in shape and well formed.
use Rattle.std.proofs.Common.{◌≡◌, ℕ, zero, suc, ◌++◌, List, [], ◌∷◌, Bool, true, Option, Some, None, length, take, refl, sym, ◌∙◌, arith}
use Rattle.std.specs.Prelude.{All, map, option_and_then}
use Rattle.std.proofs.lemmas.Bool.{and_parts}
use Rattle.std.proofs.lemmas.List.Elements.{All-nil, All-cons}
use Rattle.markdown_base.proofs.Facts.Lists.{none-left}
use Rattle.markdown_base.specs.declared.event.Event.{Event}
use Rattle.markdown_base.specs.declared.event.Link.{Link}
use Rattle.markdown_base.specs.declared.state.Name.{Name}
use Rattle.markdown_base.specs.declared.state.State.{State}
use Rattle.markdown_base.specs.declared.state.State.TheVariants.{Next, Ok, Nok}
use Rattle.markdown_base.specs.Events.{EndsBelow, IsBalanced}
use Rattle.markdown_edits.specs.Edited.{edited}
use Rattle.markdown_edits.specs.Links.{next_of, previous_of}
use Rattle.markdown_edits.proofs.Edits.Splices.{edited-none}
use Rattle.markdown_tokenizer.specs.declared.waiting.AttemptKind.{AttemptKind}
use Rattle.markdown_tokenizer.specs.declared.waiting.AttemptKind.TheVariants.{Attempt, Check}
use Rattle.markdown_tokenizer.specs.Calls.{with_local}
use Rattle.markdown_tokenizer.specs.Configuration.{Configuration, Choice, Saved, start_configuration}
use Rattle.markdown_tokenizer.specs.Engine.{EndsWellFormed, IsWellFormed}
use Rattle.markdown_tokenizer.specs.Lawful.{IsLawful}
use Rattle.markdown_tokenizer.specs.Reading.{settled_at}
use Rattle.markdown_tokenizer.specs.Resolving.{CanBeEdited, IsInShape}
use Rattle.markdown_tokenizer.specs.Sight.{Sight}
use Rattle.markdown_tokenizer.specs.Text.{Given, Text}
use Rattle.mdconstructs_tables.specs.Calm.{is_end_free, is_alone, WriteHarmless, RowsHarmless}
use Rattle.mdconstructs_tables.specs.Fitting.{IsFit}
use Rattle.mdconstructs_tables.specs.Knowledge.{EachRow, KnownAfter, AllKeepKnowing, IsKnownThroughout}
use Rattle.mdconstructs_tables.specs.Rows.{Act, enters, exit, consume, links, writes, choose, note, exit_noted, enter_noted, Rows, row, when, StateRows, Table, done, does, step_of, past, shown_sight}
use Rattle.mdconstructs_tables.specs.RowTest.{all_rows}
use Rattle.mdconstructs_tables.specs.Unlinked.{AreAlone, KnowsAlone, knows_alone, RegistersNothing, are_unlinked, is_unlinked, linking, RegisterNothing, LinksNothing, unlinked_rules}
use Rattle.mdconstructs_tables.proofs.Calm.{behind-acts, behind-rows}
use Rattle.mdconstructs_tables.proofs.LinkShapes.{no-ends-below}
use Rattle.mdconstructs_tables.proofs.Tables.Knowledge.{knowing-lawful}

-- Events without ends
no-end : (o : Option ℕ) → is_end_free o ≡ true → o ≡ None
no-end None h = refl
no-end (Some i) h = absurd (cc)

alone-ends : (link : Option Link) → is_alone link ≡ true → (option_and_then (λ (l : Link). l.next) link ≡ None) × (option_and_then (λ (l : Link). l.previous) link ≡ None)
alone-ends None h = (refl, refl)
alone-ends (Some l) h = let (next, previous) = and_parts (is_end_free l.next) (is_end_free l.previous) h in (no-end l.next next, no-end l.previous previous)

alone-more : (xs : List Event) (e : Event) → is_alone e.link ≡ true → AreAlone xs → AreAlone (xs ++ e ∷ [])
alone-more [] e alone h = (alone, tt)
alone-more (x ∷ xs) e alone h = (h.0, alone-more xs e alone h.1)

alone-take : (n : ℕ) (xs : List Event) → AreAlone xs → AreAlone (take n xs)
alone-take zero xs h = tt
alone-take (suc n) [] h = tt
alone-take (suc n) (x ∷ xs) h = (h.0, alone-take n xs h.1)

none-leads : (xs : List Event) → AreAlone xs → (i : ℕ) → (next_of xs i ≡ None) × (previous_of xs i ≡ None)
none-leads [] h i = (refl, refl)
none-leads (x ∷ xs) h zero = alone-ends x.link h.0
none-leads (x ∷ xs) h (suc i) = none-leads xs h.1 i

none-beyond : (n : ℕ) (xs : List Event) → AreAlone xs → All (EndsBelow n) xs
none-beyond n [] h = All-nil (EndsBelow n)
none-beyond n (x ∷ xs) h = let (next, previous) = alone-ends x.link h.0 in All-cons (EndsBelow n) x xs (no-ends-below n x.link next previous) (none-beyond n xs h.1)

alone-shape : (xs : List Event) → AreAlone xs → IsBalanced xs → IsInShape xs
alone-shape xs h balanced = record {
  balanced = balanced;
  inside = none-beyond (length xs) xs h;
  chained = λ i j. ((λ e. let f : None ≡ Some j = sym (none-leads xs h i).0 ∙ e in absurd (cc)), (λ e. let f : None ≡ Some i = sym (none-leads xs h j).1 ∙ e in absurd (cc)));
}

module _ {R D : Type 0} where
  -- rows keep that
  acts-keep : (acts : List (Act R D)) → are_unlinked acts ≡ true → WriteHarmless RegistersNothing acts (Unit {0}) → (s : Sight) (k : Configuration R D) → KnowsAlone k.events k.local
      → let k' = does acts s k in KnowsAlone k'.events k'.local
  acts-keep [] is h s k known = known
  acts-keep (enters name link ∷ acts) is h s k known =
      let (alone, rest) = and_parts (is_alone link) (are_unlinked acts) is in
      acts-keep acts rest h s (done (enters name link) s k) (record { alone = alone-more k.events _ alone known.alone; resolvers = known.resolvers; edits = known.edits })
  acts-keep (exit name ∷ acts) is h s k known =
      acts-keep acts is h s (done (exit name) s k) (record { alone = alone-more k.events _ refl known.alone; resolvers = known.resolvers; edits = known.edits })
  acts-keep (consume ∷ acts) is h s k known = acts-keep acts is h (past s) (done consume s k) (record { alone = known.alone; resolvers = known.resolvers; edits = known.edits })
  acts-keep (links previous next ∷ acts) is h s k known = absurd (cc)
  acts-keep (writes f ∷ acts) is h s k known =
      let (resolvers, edits) = h.0 (shown_sight s) k in
      acts-keep acts is h.1 s (with_local k (f (shown_sight s) k)) (record { alone = known.alone; resolvers = resolvers ∙ known.resolvers; edits = edits ∙ known.edits })
  acts-keep (choose kind ok nok ∷ acts) is h s k known = acts-keep acts is h s k known
  acts-keep (note ∷ acts) is h s k known = acts-keep acts is h s (done note s k) (record { alone = known.alone; resolvers = known.resolvers; edits = known.edits })
  acts-keep (exit_noted name ∷ acts) is h s k known =
      acts-keep acts is h s (done (exit_noted name) s k) (record { alone = alone-more k.events _ refl known.alone; resolvers = known.resolvers; edits = known.edits })
  acts-keep (enter_noted name ∷ acts) is h s k known =
      acts-keep acts is h s (done (enter_noted name) s k) (record { alone = alone-more k.events _ refl known.alone; resolvers = known.resolvers; edits = known.edits })

  -- and so does the end of a choice
  settled-keeps : (kind : AttemptKind) (saved : Option Saved) (answer : State) (k : Configuration R D) → KnowsAlone k.events k.local → let k' = settled_at kind saved answer k in KnowsAlone k'.events k'.local
  settled-keeps Check None answer k h = h
  settled-keeps Check (Some saved) answer k h = record { alone = alone-take saved.events k.events h.alone; resolvers = h.resolvers; edits = h.edits }
  settled-keeps Attempt None Nok k h = h
  settled-keeps Attempt (Some saved) Nok k h = record { alone = alone-take saved.events k.events h.alone; resolvers = h.resolvers; edits = h.edits }
  settled-keeps Attempt saved answer k h = h

module _ {W R D : Type 0} (table : Table W R D) where
  each-keeps : (g : Given) (s : Sight) (k : Configuration R D) (choices : List Choice) → KnowsAlone k.events k.local → (rows : Rows R D) (P : Type 0) → all_rows is_unlinked rows ≡ true → RowsHarmless RegistersNothing rows P
      → EachRow (λ r. KnownAfter table knows_alone (step_of r s k) choices) g s k rows
  each-keeps g s k choices known (row acts answer) P is h = acts-keep acts is (behind-acts RegistersNothing acts P h).0 s k known
  each-keeps g s k choices known (when test one other) P is h =
      let (first, second) = and_parts (all_rows is_unlinked one) (all_rows is_unlinked other) is in
      ((λ e. each-keeps g s k choices known one (RowsHarmless RegistersNothing other P) first h), (λ e. each-keeps g s k choices known other P second (behind-rows RegistersNothing one (RowsHarmless RegistersNothing other P) h)))

  module _ (first : RegistersNothing (λ s k. table.first k.local)) where
    called-keeps : (s : Sight) (k : Configuration R D) → KnowsAlone k.events k.local → KnowsAlone k.events (table.first k.local)
    called-keeps s k h = let (resolvers, edits) = first s k in record { alone = h.alone; resolvers = resolvers ∙ h.resolvers; edits = edits ∙ h.edits }

    states-keep : (states : List (StateRows W R D)) → ((b w : Option W) → (linking states b w ≡ []) × RegisterNothing states b w) → AllKeepKnowing table knows_alone states
    states-keep [] h = tt
    states-keep (state ∷ states) h =
        let is : (b w : Option W) → all_rows is_unlinked (state.rows b w) ≡ true = λ b w. (none-left (λ (y : StateRows W R D). all_rows is_unlinked (y.rows b w)) (λ (y : StateRows W R D). y.name) state states (h b w).0).0 in
        let others : (b w : Option W) → (linking states b w ≡ []) × RegisterNothing states b w =
        λ b w. ((none-left (λ (y : StateRows W R D). all_rows is_unlinked (y.rows b w)) (λ (y : StateRows W R D). y.name) state states (h b w).0).1, behind-rows RegistersNothing (state.rows b w) (RegisterNothing states b w) (h b w).1) in (
          (λ g s k choices b w known.
              each-keeps g s (with_local k (table.first k.local)) choices (called-keeps s k known) (state.rows b w) (RegisterNothing states b w) (is b w) (h b w).1),
          states-keep states others,
        )

  start-knows : (flag : Bool) (names : List Name) → let k : Configuration R D = start_configuration flag in All (λ name. knows_alone k.events k.local [] (Next name)) names
  start-knows flag [] = let k : Configuration R D = start_configuration flag in All-nil (λ (name : Name). knows_alone k.events k.local [] (Next name))
  start-knows flag (n ∷ names) =
      let k : Configuration R D = start_configuration flag in
      All-cons (λ (name : Name). knows_alone k.events k.local [] (Next name)) n names (record { alone = tt; resolvers = refl; edits = refl }) (start-knows flag names)

  -- once all was read no edit waits, and the events stay in shape
  at-end : (k : Configuration R D) → IsBalanced k.events → KnowsAlone k.events k.local → (k.local.resolvers ≡ []) × CanBeEdited k × IsInShape (edited k.local.map k.events)
  at-end k balanced h =
      let none = h.edits in
      let inside = none-beyond (length k.events) k.events h.alone in
      let same = edited-none k.events inside in
      (h.resolvers, rw none (omega arith, inside), rw (none, same) (alone-shape k.events h.alone balanced))

  ends-well-formed : (g : Given) (text : Text) (k : Configuration R D) → IsWellFormed g k.events → KnowsAlone k.events k.local → IsWellFormed g (edited k.local.map k.events)
  ends-well-formed g text k formed h =
      let none = h.edits in
      let same = edited-none k.events (none-beyond (length k.events) k.events h.alone) in
      rw (none, same) formed

  pub unlinked-known : LinksNothing table → IsKnownThroughout table knows_alone EndsWellFormed
  unlinked-known h = record {
    at_starts = λ flag. start-knows flag table.starts;
    by_feeding = λ events local choices name known. known;
    by_rows = states-keep h.first table.states h.rows;
    by_ok = λ k choice choices known. settled-keeps choice.kind choice.saved Ok k known;
    by_nok = λ k choice choices known. settled-keeps choice.kind choice.saved Nok k known;
    at_end = λ k balanced known. at-end k balanced known;
    promised = λ g text k formed known. ends-well-formed g text k formed known;
  }

  -- so the machine is lawful
  pub unlinked-lawful : (g : Given) → IsFit table → LinksNothing table → IsLawful g (unlinked_rules table g)
  unlinked-lawful g fit h = knowing-lawful table knows_alone g fit (unlinked-known h)
