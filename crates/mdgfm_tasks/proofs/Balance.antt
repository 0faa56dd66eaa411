-- Balanced events stay balanced: checks open and close what they cover.
use Rattle.std.proofs.Common.{◌≡◌, ℕ, zero, suc, ◌+◌, ◌-◌, ◌++◌, Bool, true, false, cond, List, [], ◌∷◌, drop, Option, Some, None, refl, sym, ap, ◌∙◌, arith}
use Rattle.std.proofs.lemmas.List.{append_assoc}
use Rattle.std.specs.Prelude.{nat_lt, IfSome}
use Rattle.markdown_base.specs.declared.event.Event.{Event}
use Rattle.markdown_base.specs.declared.event.Kind.TheVariants.{Enter, Exit}
use Rattle.markdown_base.specs.declared.event.Name.{Name}
use Rattle.markdown_base.specs.declared.event.Name.TheVariants.{Data, GfmTaskListItemCheck, GfmTaskListItemMarker, SpaceOrTab}
use Rattle.markdown_base.specs.declared.event.Point.{Point}
use Rattle.markdown_base.specs.Events.{IsBalanced, empty, span}
use Rattle.markdown_base.specs.OpenNames.{names_after, names_after_all}
use Rattle.markdown_base.proofs.Balanced.{IsBalanced-append, IsBalanced-pair, balanced_from_open, names_after_balanced, none_is_not_some}
use Rattle.mdblock_tables.specs.Tasks.{value_name}
use Rattle.mdgfm_events.specs.Places.{event, leaf}
use Rattle.mdgfm_tasks.specs.declared.awaited.Awaited.{Awaited}
use Rattle.mdgfm_tasks.specs.declared.awaited.Awaited.TheVariants.{Nothing}
use Rattle.mdgfm_tasks.specs.declared.checks.Found.{Found}
use Rattle.mdgfm_tasks.specs.Awaits.{awaited_behind}
use Rattle.mdgfm_tasks.specs.Checks.{check_of}
use Rattle.mdgfm_tasks.specs.Laws.{BalanceIsKept}
use Rattle.mdgfm_tasks.specs.TaskEvents.{check_events, events_with, further}
use Rattle.mdgfm_events.proofs.Leaves.{leaf-balanced}
use Rattle.mdgfm_tasks.proofs.Covers.{Covers, found-covers, names-over}
use Rattle.mdgfm_tasks.proofs.Steps.{with-found}

module _ (tab : ℕ) (bytes : List ℕ) where
  -- white space, a check and the data behind it, by their places
  pub check-balanced : (p : Point) (f : Found) → IsBalanced (check_events tab bytes p f)
  check-balanced p f =
      let start = further tab bytes p f.check.columns in
      let value = further tab bytes start 1 in
      let closing = further tab bytes value 1 in
      let end = further tab bytes closing 1 in
      let one = leaf GfmTaskListItemMarker start value in
      let two = leaf (value_name f.check.is_checked) value closing in
      let three = leaf GfmTaskListItemMarker closing end in
      let left = leaf Data end f.text.end in
      let opens = event Enter GfmTaskListItemCheck start in
      let closes = event Exit GfmTaskListItemCheck end in
      let parts : opens ∷ (one ++ (two ++ (three ++ closes ∷ left))) ≡ opens ∷ ((one ++ (two ++ three)) ++ closes ∷ left) =
      ap (λ (ts : List Event). opens ∷ ts)
      (sym (append_assoc one (two ++ three) (closes ∷ left) ∙ ap (λ (ts : List Event). one ++ ts) (append_assoc two three (closes ∷ left)))) in
      IsBalanced-append (leaf SpaceOrTab p start) (opens ∷ (one ++ (two ++ (three ++ closes ∷ left)))) (leaf-balanced SpaceOrTab p start)
      (span opens closes (one ++ (two ++ three)) left parts refl refl refl
      (IsBalanced-append one (two ++ three) (leaf-balanced GfmTaskListItemMarker start value)
      (IsBalanced-append two three (leaf-balanced (value_name f.check.is_checked) value closing) (leaf-balanced GfmTaskListItemMarker closing end)))
      (leaf-balanced Data end f.text.end))

  -- if events close all that is open, they do with checks
  pub names-closed : (skip : ℕ) (a : Awaited) (es : List Event) (o : Option (List Name)) → names_after_all o (drop skip es) ≡ Some [] → names_after_all o (events_with tab bytes skip a es) ≡ Some []
  names-closed skip a es None k = none_is_not_some [] _ k
  names-closed zero a [] (Some st) k = k
  names-closed (suc skip) a [] (Some st) k = k
  names-closed (suc skip) a (e ∷ es) (Some st) k = names-closed skip a es (Some st) k
  names-closed zero a (e ∷ es) (Some st) k = by (λ skip b o. names-closed skip b es o) (check_of bytes a (e ∷ es)) refl (found-covers bytes a e es)
    where
      by : ((skip : ℕ) (b : Awaited) (o : Option (List Name)) → names_after_all o (drop skip es) ≡ Some [] → names_after_all o (events_with tab bytes skip b es) ≡ Some [])
          → (o : Option Found) → check_of bytes a (e ∷ es) ≡ o → IfSome o (λ f. Covers e.point.index (f.check.columns + 3) (e ∷ es) f.text)
          → names_after_all (Some st) (events_with tab bytes 0 a (e ∷ es)) ≡ Some []
      by inner None q h = ap (names_after_all (Some st)) (with-found tab bytes a e es None q) ∙ inner 0 (awaited_behind a e) (names_after e.kind e.name st) k
      by inner (Some f) q h =
          let one : f.text.size ≡ suc (f.text.size - 1) = omega (arith, h.least) in
          ap (names_after_all (Some st)) (with-found tab bytes a e es (Some f) q)
          ∙ names-over (check_events tab bytes e.point f) (events_with tab bytes (f.text.size - 1) Nothing es) (check-balanced e.point f) (Some st)
          ∙ inner (f.text.size - 1) Nothing (Some st) (ap (λ n. names_after_all (Some st) (drop n (e ∷ es))) (sym one) ∙ h.names st k)

  with-balanced : (es : List Event) → IsBalanced es → IsBalanced (events_with tab bytes 0 Nothing es)
  with-balanced es b = balanced_from_open (events_with tab bytes 0 Nothing es) (names-closed 0 Nothing es (Some []) (names_after_balanced b []))

pub balance-kept : BalanceIsKept
balance-kept options bytes events b = by options.constructs.gfm_task_list_item
  where
    by : (t : Bool) → IsBalanced (cond t (events_with options.tab_size bytes 0 Nothing events) events)
    by true = with-balanced options.tab_size bytes events b
    by false = b
