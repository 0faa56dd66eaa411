-- Machines with one resolver keep what they know, and the resolver keeps the law of resolvers.
use Rattle.std.proofs.Common.{◌≡◌, inl, inr, List, [], ◌∷◌, Bool, true, false, not, Option, Some, None, refl, sym, ap, arith, ◌∙◌, subst}
use Rattle.std.specs.Prelude.{All}
use Rattle.std.proofs.lemmas.Bool.{and_parts, not-true}
use Rattle.markdown_base.proofs.Facts.Lists.{none-left}
use Rattle.std.proofs.lemmas.List.Elements.{All-weaker}
use Rattle.markdown_base.specs.declared.event.Event.{Event}
use Rattle.markdown_base.specs.declared.state.Name.{Name}
use Rattle.markdown_base.specs.declared.state.State.{State}
use Rattle.markdown_base.specs.declared.state.State.TheVariants.{Next, Retry, Ok, Nok}
use Rattle.markdown_edits.specs.Edits.{Edit}
use Rattle.markdown_edits.specs.Edited.{edited}
use Rattle.markdown_tokenizer.specs.declared.subtokenize.Subresult.{Subresult}
use Rattle.markdown_tokenizer.specs.declared.waiting.AttemptKind.{AttemptKind}
use Rattle.markdown_tokenizer.specs.declared.waiting.AttemptKind.TheVariants.{Attempt, Check}
use Rattle.markdown_tokenizer.specs.Calls.{with_local, with_resolvers}
use Rattle.markdown_tokenizer.specs.Configuration.{Configuration, Choice, Saved, start_configuration}
use Rattle.markdown_tokenizer.specs.Lawful.{IsAsFar, ResolversKeep}
use Rattle.markdown_tokenizer.specs.Plain.{HaveNoLinks}
use Rattle.markdown_tokenizer.specs.Reading.{settled_at}
use Rattle.markdown_tokenizer.specs.Resolving.{done, taken, CanBeEdited, IsInShape}
use Rattle.markdown_tokenizer.specs.Sight.{Sight, sight}
use Rattle.markdown_tokenizer.specs.Text.{Given, Text}
use Rattle.markdown_tokenizer.proofs.Readings.Plain.{edited-same, no-links-more, no-links-take, no-links-below, no-links-shape}
use Rattle.mdconstructs_tables.specs.Calm.{WriteHarmless, RowsHarmless}
use Rattle.mdconstructs_tables.specs.Knowledge.{EachRow}
use Rattle.mdconstructs_tables.specs.Plans.{Plan, KnownBehind, AllKeepKnown, KeepsKnowledge, planned_rules}
use Rattle.mdconstructs_tables.specs.Rows.{Act, enters, exit, consume, links, writes, choose, note, exit_noted, enter_noted, Rows, row, when, StateRows, Table, done as act_done, does, step_of, past, shown_sight}
use Rattle.mdconstructs_tables.specs.RowTest.{all_rows}
use Rattle.mdconstructs_tables.specs.Unlinked.{RegistersNothing, RegisterNothing}
use Rattle.mdconstructs_tables.proofs.Calm.{behind-acts, behind-rows}
use Rattle.mdinline_machine.specs.Registered.{is_first, are_linkless, is_linkless, KnowsRegistered, IsUnresolved, makes_edits, resolves_edits, EditsCanBeMade, are_later, link_makers, registered_plan}

-- ---- rows

module _ {R D : Type 0} (r : R) where
  -- what rows and the ends of choices keep
  abbrev GoesOn : Configuration R D → Type 0
  GoesOn k = HaveNoLinks k.events × (k.local.map ≡ []) × (k.local.resolvers ≡ r ∷ [])

  acts-keep : (acts : List (Act R D)) → are_linkless acts ≡ true → WriteHarmless RegistersNothing acts (Unit {0}) → (s : Sight) (k : Configuration R D) → GoesOn k → GoesOn (does acts s k)
  acts-keep [] is h s k known = known
  acts-keep (enters name None ∷ acts) is h s k known =
      acts-keep acts is h s (act_done (enters name None) s k) (no-links-more k.events _ refl known.0, known.1, known.2)
  acts-keep (enters name (Some link) ∷ acts) is h s k known = absurd (cc)
  acts-keep (exit name ∷ acts) is h s k known = acts-keep acts is h s (act_done (exit name) s k) (no-links-more k.events _ refl known.0, known.1, known.2)
  acts-keep (consume ∷ acts) is h s k known = acts-keep acts is h (past s) (act_done consume s k) known
  acts-keep (links previous next ∷ acts) is h s k known = absurd (cc)
  acts-keep (writes f ∷ acts) is h s k known =
      let (resolvers, edits) = h.0 (shown_sight s) k in
      acts-keep acts is h.1 s (with_local k (f (shown_sight s) k)) (known.0, edits ∙ known.1, resolvers ∙ known.2)
  acts-keep (choose kind ok nok ∷ acts) is h s k known = acts-keep acts is h s k known
  acts-keep (note ∷ acts) is h s k known = acts-keep acts is h s (act_done note s k) known
  acts-keep (exit_noted name ∷ acts) is h s k known = acts-keep acts is h s (act_done (exit_noted name) s k) (no-links-more k.events _ refl known.0, known.1, known.2)
  acts-keep (enter_noted name ∷ acts) is h s k known = acts-keep acts is h s (act_done (enter_noted name) s k) (no-links-more k.events _ refl known.0, known.1, known.2)

  goes-back : (n : Option Saved) (kind : AttemptKind) (answer : State) (k : Configuration R D) → GoesOn k → GoesOn (settled_at kind n answer k)
  goes-back None Check answer k h = h
  goes-back (Some saved) Check answer k h = (no-links-take saved.events k.events h.0, h.1, h.2)
  goes-back None Attempt Nok k h = h
  goes-back (Some saved) Attempt Nok k h = (no-links-take saved.events k.events h.0, h.1, h.2)
  goes-back saved Attempt answer k h = h

module _ {W R D : Type 0} (table : Table W R D) (early : Name → Option W → Bool) (falling : Name → Bool) (starts : List Name) (r : R) (edits : Given → List Event → List Edit)
    (ends : Given → Text → List Event → Type 0) where
  abbrev plan : Plan W R D
  plan = registered_plan table early falling starts r edits ends

  knows-so : (k : Configuration R D) (choices : List Choice) (state : State) → GoesOn r k → KnowsRegistered starts r k choices state
  knows-so k choices state h = record { unlinked = h.0; unedited = h.1; registered = inl h.2 }

  -- where it is not the first call, the resolver is registered
  pub goes-on : (k : Configuration R D) (choices : List Choice) (state : State) → is_first starts state ≡ false → KnowsRegistered starts r k choices state → GoesOn r k
  goes-on k choices state later h = (h.unlinked, h.unedited, elim h.registered [ inl e ↦ e | inr (none, alone, first) ↦ absurd (let c : false ≡ true = sym later ∙ first in cc) ])

  -- nor where a choice waits
  goes-on-behind : (k : Configuration R D) (choice : Choice) (choices : List Choice) (state : State) → KnowsRegistered starts r k (choice ∷ choices) state → GoesOn r k
  goes-on-behind k choice choices state h = (h.unlinked, h.unedited, elim h.registered [ inl e ↦ e | inr (none, alone, first) ↦ absurd (let c : choice ∷ choices ≡ [] = alone in cc) ])

  each-keeps : (g : Given) (text : Text) (s : Sight) (k : Configuration R D) (choices : List Choice) → GoesOn r k → (rows : Rows R D) (P : Type 0) → all_rows is_linkless rows ≡ true → RowsHarmless RegistersNothing rows P
      → EachRow (λ r. KnownBehind plan g text choices (step_of r s k)) g s k rows
  each-keeps g text s k choices known (row acts answer) P is h = knows-so _ _ _ (acts-keep r acts is (behind-acts RegistersNothing acts P h).0 s k known)
  each-keeps g text s k choices known (when test one other) P is h =
      let (first, second) = and_parts (all_rows is_linkless one) (all_rows is_linkless other) is in
      ((λ e. each-keeps g text s k choices known one (RowsHarmless RegistersNothing other P) first h), (λ e. each-keeps g text s k choices known other P second (behind-rows RegistersNothing one (RowsHarmless RegistersNothing other P) h)))

  module _ (first : RegistersNothing (λ s k. table.first k.local)) where
    called-keeps : (s : Sight) (k : Configuration R D) → GoesOn r k → GoesOn r (with_local k (table.first k.local))
    called-keeps s k h = let (resolvers, edits) = first s k in (h.0, edits ∙ h.1, resolvers ∙ h.2)

    -- states but the first keep what is known
    pub states-keep : (states : List (StateRows W R D)) → are_later starts states ≡ true → ((b w : Option W) → (link_makers states b w ≡ []) × RegisterNothing states b w) → AllKeepKnown plan states
    states-keep [] later h = tt
    states-keep (state ∷ states) later h =
        let (one, more) = and_parts (not (is_first starts (Retry state.name))) (are_later starts states) later in
        let is : (b w : Option W) → all_rows is_linkless (state.rows b w) ≡ true = λ b w. (none-left (λ (y : StateRows W R D). all_rows is_linkless (y.rows b w)) (λ (y : StateRows W R D). y.name) state states (h b w).0).0 in
        let others : (b w : Option W) → (link_makers states b w ≡ []) × RegisterNothing states b w =
        λ b w. ((none-left (λ (y : StateRows W R D). all_rows is_linkless (y.rows b w)) (λ (y : StateRows W R D). y.name) state states (h b w).0).1, behind-rows RegistersNothing (state.rows b w) (RegisterNothing states b w) (h b w).1) in (
          (λ g text k choices b w well before here known.
              each-keeps g text (sight g text k) (with_local k (table.first k.local)) choices
              (called-keeps (sight g text k) k (goes-on k choices (Retry state.name) (not-true (is_first starts (Retry state.name)) one) known.known)) (state.rows b w) (RegisterNothing states b w) (is b w) (h b w).1),
          states-keep states more others,
        )

  -- ---- what is known, throughout

  fed-knows : (k k' : Configuration R D) (choices : List Choice) (name : Name) → k'.events ≡ k.events → k'.local ≡ k.local → KnowsRegistered starts r k choices (Next name) → KnowsRegistered starts r k' choices (Retry name)
  fed-knows k k' choices name events local h = record { unlinked = subst HaveNoLinks (sym events) h.unlinked; unedited = rw local h.unedited; registered = rw local h.registered }

  pub registered-kept : table.starts ≡ starts → AllKeepKnown plan table.states → All (λ name. is_first starts (Next name) ≡ true) starts → KeepsKnowledge plan
  registered-kept are rows first_is = record {
    at_starts = λ g p flag is.
        let Known = λ (name : Name). KnowsRegistered {R = R} {D = D} starts r (start_configuration flag) [] (Next name) in
        subst (All Known) (sym are) (All-weaker (λ name. is_first starts (Next name) ≡ true) Known (λ name first. record { unlinked = tt; unedited = refl; registered = inr (refl, refl, first) }) starts first_is);
    by_byte = λ g text k choices name is within h. fed-knows k _ choices name refl refl h.known;
    by_end = λ g text k choices name is behind h. fed-knows k _ choices name refl refl h.known;
    by_rows = rows;
    by_ok = λ g text k choice choices is h. knows-so _ choices choice.ok (goes-back r choice.saved choice.kind Ok k (goes-on-behind k choice choices Ok h.known));
    by_nok = λ g text k choice choices is h. knows-so _ choices choice.nok (goes-back r choice.saved choice.kind Nok k (goes-on-behind k choice choices Nok h.known));
    by_pieces = λ g text piece k choices state is fits fresh h. h.known;
  }

  -- ---- the resolver

  abbrev Resolves : Given → Text → List R → Configuration R D → Type 0
  Resolves = resolves_edits edits

  -- before the resolver
  pub before-resolver : (g : Given) (text : Text) (one : R) (rest : List R) (k : Configuration R D) → Resolves g text (one ∷ rest) k → IsUnresolved g k
  before-resolver g text one [] k h = h.0
  before-resolver g text one (two ∷ rest) k h = absurd h

  abbrev IsPassed : Given → Text → List R → (k new : Configuration R D) → Type 0
  IsPassed g text rs k new = Resolves g text rs new × IsAsFar new k × (new.stack ≡ k.stack)

  passed-by : (g : Given) (text : Text) (one : R) (rs : List R) (k new : Configuration R D) (more : Option Subresult) → Resolves g text (one ∷ rs) k
      → makes_edits edits g (sight g text k) k one ≡ done new more → IsPassed g text rs k new
  passed-by g text one [] k new more h e =
      let same : record k { events = edited (edits g k.events) k.events } ≡ new = cc in
      subst (IsPassed g text [] k) same ((k, h.0, refl, h.1), (refl, refl, refl), refl)
  passed-by g text one (two ∷ rs) k new more h e = absurd h

  pub registered-resolved : EditsCanBeMade edits ends → (g : Given) → ResolversKeep g (planned_rules plan g)
  registered-resolved made g = record {
    at_end = λ text k is formed h.
        let known = goes-on k [] Ok refl h.known in
        subst (λ rs. Resolves g text rs (with_resolvers (taken k) [])) (sym known.2) (record { document = is.document; formed = formed; unlinked = known.0 }, known.1);
    by_resolvers = λ text one rs k new more is h e. passed-by g text one rs k new more h e;
    at_last = λ text k is h.
        let (before, unresolved, made_so, none) = h in
        let (apart, balanced, unlinked, promised) = made g text before.events unresolved.formed unresolved.unlinked in
        let none_yet = subst HaveNoLinks (sym made_so) unlinked in
        let there : edited k.local.map k.events ≡ edited (edits g before.events) before.events = ap (λ es. edited es k.events) none ∙ edited-same k.events none_yet ∙ made_so in (
          subst (λ es. CanBeEdited (record k { local = record k.local { map = es } })) (sym none) (omega arith, no-links-below _ k.events none_yet),
          subst IsInShape (sym there) (no-links-shape _ unlinked balanced),
          subst (ends g text) (sym there) promised,
        );
  }
