-- A machine whose table refuses nothing refuses no document.
use Rattle.mdconstructs_tables.proofs.Prelude.{◌≡◌, ◌≢◌, ℕ, List, [], ◌∷◌, ◌++◌, Bool, true, false, cond, Option, Some, None, ◌⊎◌, ⊎_elim, refl, filter, list_any, or_parts, Message, Name, Next, Ok, Error, none-mapped, Subresult, Attempt, Check, Given, Text, Configuration, Choice, Step, start_configuration, with_local, with_resolvers, whole_text, IsRunRefused, Reading, EndsIn, refused, resolved_by, with_more, taken, found, IsResolvingRefused, Rules, Sight, sight, Act, choose, Rows, row, when, StateRows, Table, class_of, seen_after, with_choice_of, chooses, picked, named, step_of, step_at, table_step, is_message, act_refuses, rows_refuse, refusing, RulesRefuseNothing, cond_both}
use Rattle.markdown_tokenizer.specs.Resolving.{done}
use Rattle.mdconstructs_tables.specs.Rows.{done as act_done}
use Rattle.mdconstructs_tables.proofs.KeptByReading.{kept-refused}
use Rattle.mdconstructs_tables.proofs.Rows.Misfits.{named-out}

-- no choice goes on with a message
abbrev pub AreTaken : List Choice → Type 0
AreTaken [] = Unit {0}
AreTaken (c ∷ cs) = (is_message c.ok ≡ false) × (is_message c.nok ≡ false) × AreTaken cs

-- a step returns no message, and makes no such choice
pub record StepRefusesNothing {R D : Type 0} (s : Step R D) : Type 0 where
  pub answer : is_message s.answer ≡ false
  pub choices : AreTaken s.choices

taken-append : (cs ds : List Choice) → AreTaken cs → AreTaken ds → AreTaken (cs ++ ds)
taken-append [] ds h k = k
taken-append (c ∷ cs) ds h k = (h.0, h.1, taken-append cs ds h.2 k)

module _ {R D : Type 0} where
  chosen-taken : (act : Act R D) (k : Configuration R D) (cs : List Choice) → act_refuses act ≡ false → AreTaken cs → AreTaken (with_choice_of act k cs)
  chosen-taken (choose Attempt ok nok) k cs e h = let parts = or_parts (is_message ok) (is_message nok) e in (parts.0, parts.1, h)
  chosen-taken (choose Check ok nok) k cs e h = let parts = or_parts (is_message ok) (is_message nok) e in (parts.0, parts.1, h)
  chosen-taken act k cs e h = h

  chooses-taken : (acts : List (Act R D)) (s : Sight) (k : Configuration R D) (cs : List Choice) → list_any act_refuses acts ≡ false → AreTaken cs → AreTaken (chooses acts s k cs)
  chooses-taken [] s k cs e h = h
  chooses-taken (act ∷ acts) s k cs e h =
      let parts = or_parts (act_refuses act) (list_any act_refuses acts) e in
      chooses-taken acts (seen_after act s) (act_done act s k) (with_choice_of act k cs) parts.1 (chosen-taken act k cs parts.0 h)

  picked-taken : (rows : Rows R D) (g : Given) (s : Sight) (at k : Configuration R D) → rows_refuse rows ≡ false → StepRefusesNothing (step_of (picked rows g s at) s k)
  picked-taken (row acts answer) g s at k e =
      let parts = or_parts (is_message answer) (list_any act_refuses acts) e in record { answer = parts.0; choices = chooses-taken acts s k [] parts.1 tt }
  picked-taken (when test one other) g s at k e =
      let parts = or_parts (rows_refuse one) (rows_refuse other) e in
      cond_both (test g s at) (picked one g s at) (picked other g s at) (λ r. StepRefusesNothing (step_of r s k)) (λ e. picked-taken one g s at k parts.0) (λ e. picked-taken other g s at k parts.1)

module _ {W R D : Type 0} (table : Table W R D) (none : (previous current : Option W) → refusing table previous current ≡ []) where
  of-state : (g : Given) (s : Sight) (k : Configuration R D) (name : Name) (o : Option (StateRows W R D)) → named table.states name ≡ o → StepRefusesNothing (step_at table g o s k)
  of-state g s k name None is = record { answer = refl; choices = tt }
  of-state g s k name (Some state) is =
      let b = class_of table.class s.previous in
      let w = class_of table.class s.current in
      let out = named-out (λ state. rows_refuse (state.rows b w)) table.states name state (none-mapped (λ (state : StateRows W R D). state.name) (filter (λ state. rows_refuse (state.rows b w)) table.states) (none b w)) is in
      picked-taken (state.rows b w) g s k k out

  pub table-steps : (g : Given) (s : Sight) (k : Configuration R D) (name : Name) → StepRefusesNothing (table_step table g s k name)
  table-steps g s k name = of-state g s (with_local k (table.first k.local)) name (named table.states name) refl

module _ {R D : Type 0} (rules : Given → Rules R D) (nothing : RulesRefuseNothing rules) (g : Given) (text : Text) where
  -- a resolver, and then those after it
  resolvers-refuse-nothing : (rs : List R) (k : Configuration R D) (sub : Subresult) (m : Message) → resolved_by (rules g).resolver g text rs k sub ≢ refused m
  resolvers-refuse-nothing [] k sub m is = absurd (cc)
  resolvers-refuse-nothing (r ∷ rs) k sub m is =
      elim ((rules g).resolver (sight g text k) k r) as (λ one. (rules g).resolver (sight g text k) k r ≡ one → ⊥) [
        | done new more ↦ λ e. resolvers-refuse-nothing rs new (with_more sub more) m (rw (e, resolved_by) at is)
        | refused message ↦ λ e. nothing.resolvers g (sight g text k) k r message e
      ] refl

  -- no reading is refused, nor what resolvers make of it
  pub none-refused : (resolve : Bool) (calls : ℕ) (k : Configuration R D) (name : Name) (r : Reading R D) (m : Message) → EndsIn g (rules g).step text calls k [] (Next name) r
      → ¬ ((r.answer ≡ Error m) ⊎ ((r.answer ≡ Ok) × IsResolvingRefused (rules g).resolver g text resolve r.configuration m))
  none-refused false calls k name r m ends h = ⊎_elim (λ e. nothing.readings g text calls k name r m ends e) (λ e. e.1) h
  none-refused true calls k name r m ends h =
      ⊎_elim (λ e. nothing.readings g text calls k name r m ends e)
      (λ e. resolvers-refuse-nothing r.configuration.local.resolvers (with_resolvers (taken r.configuration) []) (found r.configuration) m e.1) h

module _ {R D : Type 0} where
  -- rules refuse nothing if their steps and resolvers do not: no reading ends in a message
  pub refuse-nothing : (rules : Given → Rules R D) → ((g : Given) (s : Sight) (k : Configuration R D) (name : Name) → StepRefusesNothing ((rules g).step s k name))
      → ((g : Given) (s : Sight) (k : Configuration R D) (r : R) (m : Message) → (rules g).resolver s k r ≢ refused m) → RulesRefuseNothing rules
  refuse-nothing rules steps resolvers = record {
    readings = λ g text calls k name r m ends is.
        let there = kept-refused g (rules g).step text (λ k cs s. (is_message s ≡ false) × AreTaken cs) (record {
          by_feeding = λ k cs name h. (refl, h.1);
          by_calls = λ k cs name h. let s = steps g (sight g text k) k name in (s.answer, taken-append _ cs s.choices h.1);
          by_ok = λ k c cs h. (h.1.0, h.1.2);
          by_nok = λ k c cs h. (h.1.1, h.1.2);
        }) calls k (Next name) r (refl, tt) ends m is in
        let e : true ≡ false = there.1.0 in absurd (cc);
    resolvers = resolvers;
  }

  -- of two steps, whichever it is
  pub either-step : (b : Bool) (s u : Step R D) → StepRefusesNothing s → StepRefusesNothing u → StepRefusesNothing (cond b s u)
  either-step b s u h l = cond_both b s u StepRefusesNothing (λ e. h) (λ e. l)

  -- what finds nothing refuses nothing
  pub nothing-found : (k : Configuration R D) (m : Message) → done k None ≢ refused m
  nothing-found k m is = absurd (cc)

-- no run is refused
pub no-run-refused : {R D : Type 0} (rules : Given → Rules R D) → RulesRefuseNothing rules → (g : Given) (resolve : Bool) (start : Name) (m : Message) → ¬ IsRunRefused g rules resolve start m
no-run-refused rules nothing g resolve start m h = none-refused rules nothing g (whole_text g) resolve 0 (start_configuration false) start h.result m h.ends h.message
