-- Calm rows keep what a machine knows.
use Rattle.std.proofs.Common.{◌≡◌, ◌&&◌, ◌||◌, ◌++◌, List, [], ◌∷◌, Bool, true, false, cond, Option, Some, None, refl, sym, subst}
use Rattle.std.proofs.lemmas.Bool.{and_parts}
use Rattle.markdown_base.specs.declared.event.Event.{Event}
use Rattle.markdown_base.specs.declared.state.Name.{Name}
use Rattle.markdown_base.specs.declared.state.State.{State}
use Rattle.markdown_base.specs.declared.state.State.TheVariants.{Retry}
use Rattle.markdown_tokenizer.specs.Calls.{with_local}
use Rattle.markdown_tokenizer.specs.Configuration.{Configuration, Local, Choice}
use Rattle.markdown_tokenizer.specs.Sight.{Sight}
use Rattle.markdown_tokenizer.specs.Text.{Given}
use Rattle.mdconstructs_tables.specs.Calm.{Calmness, are_calm, is_calm, WriteHarmless, RowsHarmless, CasesHarmless, all_cases, IsCalmness, CalmRowsKeep, CalmCasesKeep}
use Rattle.mdconstructs_tables.specs.Cases.{Case, cases, rows_in}
use Rattle.mdconstructs_tables.specs.Knowledge.{EachRow, KnownAfter}
use Rattle.mdconstructs_tables.specs.Rows.{Act, enters, exit, consume, links, writes, choose, note, exit_noted, enter_noted, Rows, row, when, Table, done, does, chooses, step_of, past, shown_sight}
use Rattle.mdconstructs_tables.specs.RowTest.{all_rows}

module _ {R D : Type 0} (harmless : (Sight → Configuration R D → Local R D) → Type 0) where
  -- what is asked behind writes
  pub behind-acts : (acts : List (Act R D)) (P : Type 0) → WriteHarmless harmless acts P → WriteHarmless harmless acts (Unit {0}) × P
  behind-acts [] P h = (tt, h)
  behind-acts (enters name link ∷ acts) P h = behind-acts acts P h
  behind-acts (exit name ∷ acts) P h = behind-acts acts P h
  behind-acts (consume ∷ acts) P h = behind-acts acts P h
  behind-acts (links previous next ∷ acts) P h = behind-acts acts P h
  behind-acts (writes f ∷ acts) P h = let rest = behind-acts acts P h.1 in ((h.0, rest.0), rest.1)
  behind-acts (choose kind ok nok ∷ acts) P h = behind-acts acts P h
  behind-acts (note ∷ acts) P h = behind-acts acts P h
  behind-acts (exit_noted name ∷ acts) P h = behind-acts acts P h
  behind-acts (enter_noted name ∷ acts) P h = behind-acts acts P h

  pub behind-rows : (rows : Rows R D) (P : Type 0) → RowsHarmless harmless rows P → P
  behind-rows (row acts answer) P h = (behind-acts acts P h).1
  behind-rows (when test one other) P h = behind-rows other P (behind-rows one (RowsHarmless harmless other P) h)

either : {P : Type 0} (a b : Bool) → (a || b) ≡ true → (a ≡ true → P) → (b ≡ true → P) → P
either true b h f g = f refl
either false b h f g = g h

module _ {W R D : Type 0} (table : Table W R D) (knows : List Event → Local R D → List Choice → State → Type 0) (harmless : (Sight → Configuration R D → Local R D) → Type 0) (c : Calmness R D)
    (calm : IsCalmness table knows harmless c) where
  -- what calm acts come to, at a state at which they may make events
  acts-keep : (may : Bool) (state : State) → (may ≡ true → c.steady state ≡ true) → (acts : List (Act R D)) → are_calm c.fresh may acts ≡ true → WriteHarmless harmless acts (Unit {0})
      → (s : Sight) (k : Configuration R D) (choices : List Choice) → knows k.events k.local choices state
      → let k' = does acts s k in knows k'.events k'.local choices state × ((cs : List Choice) → chooses acts s k cs ≡ cs)
  acts-keep may state steady [] is h s k choices known = (known, λ cs. refl)
  acts-keep may state steady (enters name link ∷ acts) is h s k choices known =
      let (here, further) = and_parts may (c.fresh link && are_calm c.fresh may acts) is in
      let (fresh, rest) = and_parts (c.fresh link) (are_calm c.fresh may acts) further in
      acts-keep may state steady acts rest h s (done (enters name link) s k) choices (calm.by_event state (steady here) k.events _ k.local choices fresh known)
  acts-keep may state steady (exit name ∷ acts) is h s k choices known =
      let (here, further) = and_parts may (c.fresh None && are_calm c.fresh may acts) is in
      let (fresh, rest) = and_parts (c.fresh None) (are_calm c.fresh may acts) further in
      acts-keep may state steady acts rest h s (done (exit name) s k) choices (calm.by_event state (steady here) k.events _ k.local choices fresh known)
  acts-keep may state steady (consume ∷ acts) is h s k choices known = acts-keep may state steady acts is h (past s) (done consume s k) choices known
  acts-keep may state steady (links previous next ∷ acts) is h s k choices known = absurd (cc)
  acts-keep may state steady (writes f ∷ acts) is h s k choices known = acts-keep may state steady acts is h.1 s (with_local k (f (shown_sight s) k)) choices (calm.by_write f h.0 (shown_sight s) k choices state known)
  acts-keep may state steady (choose kind ok nok ∷ acts) is h s k choices known = absurd (cc)
  acts-keep may state steady (note ∷ acts) is h s k choices known = absurd (cc)
  acts-keep may state steady (exit_noted name ∷ acts) is h s k choices known = absurd (cc)
  acts-keep may state steady (enter_noted name ∷ acts) is h s k choices known = absurd (cc)

  after-acts : (acts : List (Act R D)) (answer : State) (s : Sight) (k : Configuration R D) (choices : List Choice) → ((cs : List Choice) → chooses acts s k cs ≡ cs)
      → (let k' = does acts s k in knows k'.events k'.local choices answer) → KnownAfter table knows (step_of (record { acts = acts; answer = answer }) s k) choices
  after-acts acts answer s k choices none known = let k' = does acts s k in subst (λ cs. knows k'.events k'.local (cs ++ choices) answer) (sym (none [])) known

  -- a calm row: events are made before what is known goes over, or afterwards
  row-keeps : (name : Name) (acts : List (Act R D)) (answer : State) → is_calm c name (record { acts = acts; answer = answer }) ≡ true → WriteHarmless harmless acts (Unit {0})
      → (s : Sight) (k : Configuration R D) (choices : List Choice) → knows k.events k.local choices (Retry name) → KnownAfter table knows (step_of (record { acts = acts; answer = answer }) s k) choices
  row-keeps name acts answer is h s k choices known =
      let before = c.steady (Retry name) in
      let behind = c.steady answer in
      either (c.carries (Retry name) answer && are_calm c.fresh (before || behind) acts) (c.also name (record { acts = acts; answer = answer })) is
      (λ e.
      let (goes, quiet) = and_parts (c.carries (Retry name) answer) (are_calm c.fresh (before || behind) acts) e in
      let k' = does acts s k in
      elim (c.steady (Retry name)) as (λ t. c.steady (Retry name) ≡ t → are_calm c.fresh (t || behind) acts ≡ true → KnownAfter table knows (step_of (record { acts = acts; answer = answer }) s k) choices) [
        | true ↦ λ steady quiet.
            let (kept, none) = acts-keep true (Retry name) (λ e. steady) acts quiet h s k choices known in
            after-acts acts answer s k choices none (calm.by_going (Retry name) answer goes k'.events k'.local choices kept)
        | false ↦ λ loud quiet.
            let (kept, none) = acts-keep behind answer (λ e. e) acts quiet h s k choices (calm.by_going (Retry name) answer goes k.events k.local choices known) in
            after-acts acts answer s k choices none kept
      ] refl quiet)
      (λ other. calm.by_others name (record { acts = acts; answer = answer }) other h s k choices known)

  module _ (name : Name) (g : Given) (s : Sight) (k : Configuration R D) (choices : List Choice) (known : knows k.events k.local choices (Retry name)) where
    abbrev Each : Rows R D → Type 0
    Each rows = EachRow (λ r. KnownAfter table knows (step_of r s k) choices) g s k rows

    rows-keep : (rows : Rows R D) (P : Type 0) → all_rows (is_calm c name) rows ≡ true → RowsHarmless harmless rows P → Each rows
    rows-keep (row acts answer) P is h = row-keeps name acts answer is (behind-acts harmless acts P h).0 s k choices known
    rows-keep (when test one other) P is h =
        let (first, second) = and_parts (all_rows (is_calm c name) one) (all_rows (is_calm c name) other) is in
        ((λ e. rows-keep one (RowsHarmless harmless other P) first h), (λ e. rows-keep other P second (behind-rows harmless one (RowsHarmless harmless other P) h)))

    cases-keep : (cs : List (Case W R D)) (rest : Rows R D) → all_cases (is_calm c name) cs ≡ true → all_rows (is_calm c name) rest ≡ true
        → CasesHarmless harmless cs (RowsHarmless harmless rest (Unit {0})) → (w : W) → Each (rows_in cs rest w)
    cases-keep [] rest is last h w = rows-keep rest (Unit {0}) last h
    cases-keep (x ∷ cs) rest is last h w =
        let (first, others) = and_parts (all_rows (is_calm c name) x.rows) (all_cases (is_calm c name) cs) is in
        let more = CasesHarmless harmless cs (RowsHarmless harmless rest (Unit {0})) in
        elim (x.test w) as (λ t. Each (cond t x.rows (rows_in cs rest w))) [
          | true ↦ rows-keep x.rows more first h
          | false ↦ cases-keep cs rest others last (behind-rows harmless x.rows more h) w
        ]

    any-case : (at_end : Rows R D) (cs : List (Case W R D)) (rest : Rows R D) → (all_rows (is_calm c name) at_end && (all_cases (is_calm c name) cs && all_rows (is_calm c name) rest)) ≡ true
        → RowsHarmless harmless at_end (CasesHarmless harmless cs (RowsHarmless harmless rest (Unit {0}))) → (previous current : Option W) → Each (cases at_end cs rest previous current)
    any-case at_end cs rest is h previous None =
        rows-keep at_end (CasesHarmless harmless cs (RowsHarmless harmless rest (Unit {0}))) (and_parts (all_rows (is_calm c name) at_end) (all_cases (is_calm c name) cs && all_rows (is_calm c name) rest) is).0 h
    any-case at_end cs rest is h previous (Some w) =
        let more = (and_parts (all_rows (is_calm c name) at_end) (all_cases (is_calm c name) cs && all_rows (is_calm c name) rest) is).1 in
        let (one, last) = and_parts (all_cases (is_calm c name) cs) (all_rows (is_calm c name) rest) more in
        cases-keep cs rest one last (behind-rows harmless at_end (CasesHarmless harmless cs (RowsHarmless harmless rest (Unit {0}))) h) w

-- so a state does
pub calm-rows-keep : {W R D : Type 0} (table : Table W R D) (knows : List Event → Local R D → List Choice → State → Type 0) (harmless : (Sight → Configuration R D → Local R D) → Type 0) (c : Calmness R D) → CalmRowsKeep table knows harmless c
calm-rows-keep table knows harmless c calm state is g s k choices b w known =
    let k1 = with_local k (table.first k.local) in
    rows-keep table knows harmless c calm state.name g s k1 choices (calm.by_call k choices state.name known) (state.rows b w) (Unit {0}) (is b w).0 (is b w).1

pub calm-cases-keep : {W R D : Type 0} (table : Table W R D) (knows : List Event → Local R D → List Choice → State → Type 0) (harmless : (Sight → Configuration R D → Local R D) → Type 0) (c : Calmness R D) → CalmCasesKeep table knows harmless c
calm-cases-keep {W} {R} {D} table knows harmless c calm state at_end cs rest same is g s k choices b w known =
    let k1 = with_local k (table.first k.local) in
    subst (λ (rows : (previous current : Option W) → Rows R D). EachRow (λ r. KnownAfter table knows (step_of r s k1) choices) g s k1 (rows b w)) (sym same)
    (any-case table knows harmless c calm state.name g s k1 choices (calm.by_call k choices state.name known) at_end cs rest is.0 is.1 b w)
