-- The names of events with checks.
use Rattle.std.proofs.Common.{◌≡◌, ℕ, zero, suc, ◌+◌, ◌-◌, ◌++◌, Bool, true, false, cond, List, [], ◌∷◌, Option, Some, None, refl, sym, subst}
use Rattle.std.specs.List.{AllByRecursion}
use Rattle.std.specs.Prelude.{nat_lt}
use Rattle.markdown_base.specs.declared.event.Event.{Event}
use Rattle.markdown_base.specs.declared.event.Kind.TheVariants.{Enter, Exit}
use Rattle.markdown_base.specs.declared.event.Name.{Name}
use Rattle.markdown_base.specs.declared.event.Name.TheVariants.{Data, GfmTaskListItemCheck, GfmTaskListItemMarker, SpaceOrTab}
use Rattle.markdown_base.specs.declared.event.Point.{Point}
use Rattle.markdown_base.proofs.Common.{every-append}
use Rattle.mdblock_tables.specs.Tasks.{value_name}
use Rattle.mdgfm_events.specs.Places.{event, leaf}
use Rattle.mdgfm_tasks.specs.declared.awaited.Awaited.{Awaited}
use Rattle.mdgfm_tasks.specs.declared.awaited.Awaited.TheVariants.{Nothing}
use Rattle.mdgfm_tasks.specs.declared.checks.Found.{Found}
use Rattle.mdgfm_tasks.specs.Awaits.{awaited_behind}
use Rattle.mdgfm_tasks.specs.Checks.{check_of}
use Rattle.mdgfm_tasks.specs.Laws.{NamesAreKept, check_names}
use Rattle.mdgfm_tasks.specs.TaskEvents.{check_events, events_with, further}
use Rattle.mdgfm_events.proofs.Leaves.{leaf-passes}
use Rattle.mdgfm_tasks.proofs.Steps.{taken, with-found}

module _ (test : Name → Bool) (six : AllByRecursion (λ n. test n ≡ true) check_names) (tab : ℕ) (bytes : List ℕ) where
  abbrev Passes : Event → Type 0
  Passes e = test e.name ≡ true

  value-passes : (k : Bool) → test (value_name k) ≡ true
  value-passes true = six.1.1.0
  value-passes false = six.1.1.1.0

  pub check-passes : (p : Point) (f : Found) → AllByRecursion Passes (check_events tab bytes p f)
  check-passes p f =
      let start = further tab bytes p f.check.columns in
      let value = further tab bytes start 1 in
      let closing = further tab bytes value 1 in
      let end = further tab bytes closing 1 in
      let one = leaf GfmTaskListItemMarker start value in
      let two = leaf (value_name f.check.is_checked) value closing in
      let three = leaf GfmTaskListItemMarker closing end in
      let left = leaf Data end f.text.end in
      let opens = event Enter GfmTaskListItemCheck start in
      let closes = event Exit GfmTaskListItemCheck end in
      every-append Passes (leaf SpaceOrTab p start) (opens ∷ (one ++ (two ++ (three ++ closes ∷ left)))) (leaf-passes test SpaceOrTab p start six.1.1.1.1.0) (
        six.0,
        every-append Passes one (two ++ (three ++ closes ∷ left)) (leaf-passes test GfmTaskListItemMarker start value six.1.0)
            (every-append Passes two (three ++ closes ∷ left) (leaf-passes test (value_name f.check.is_checked) value closing (value-passes f.check.is_checked))
            (every-append Passes three (closes ∷ left) (leaf-passes test GfmTaskListItemMarker closing end six.1.0)
            (six.0, leaf-passes test Data end f.text.end six.1.1.1.1.1.0))),
      )

  with-passes : (skip : ℕ) (a : Awaited) (es : List Event) → AllByRecursion Passes es → AllByRecursion Passes (events_with tab bytes skip a es)
  with-passes skip a [] h = tt
  with-passes (suc skip) a (e ∷ es) h = with-passes skip a es h.1
  with-passes zero a (e ∷ es) h =
      subst (AllByRecursion Passes) (sym (with-found tab bytes a e es (check_of bytes a (e ∷ es)) refl)) (here (λ skip b. with-passes skip b es h.1) (check_of bytes a (e ∷ es)))
    where
      here : ((skip : ℕ) (b : Awaited) → AllByRecursion Passes (events_with tab bytes skip b es)) → (o : Option Found) → AllByRecursion Passes (taken tab bytes a e es o)
      here more None = (h.0, more 0 (awaited_behind a e))
      here more (Some f) =
          every-append Passes (check_events tab bytes e.point f) (events_with tab bytes (f.text.size - 1) Nothing es) (check-passes e.point f) (more (f.text.size - 1) Nothing)

pub names-kept : NamesAreKept
names-kept test options bytes events six h = by options.constructs.gfm_task_list_item
  where
    by : (t : Bool) → AllByRecursion (λ (e : Event). test e.name ≡ true) (cond t (events_with options.tab_size bytes 0 Nothing events) events)
    by true = with-passes test six options.tab_size bytes 0 Nothing events h
    by false = h
