-- There are not more checks than items.
use Rattle.std.proofs.Common.{◌≡◌, ℕ, zero, suc, ◌+◌, ◌-◌, ◌≤◌, ◌++◌, Bool, true, false, cond, List, [], ◌∷◌, Option, Some, None, refl, sym, ap, subst, ◌∙◌, arith}
use Rattle.std.specs.Prelude.{nat_lt, IfSome}
use Rattle.markdown_base.specs.declared.event.Event.{Event}
use Rattle.markdown_base.specs.declared.event.Kind.TheVariants.{Enter, Exit}
use Rattle.markdown_base.specs.declared.event.Name.{Name}
use Rattle.markdown_base.specs.declared.event.Name.TheVariants.{Data, GfmTaskListItemCheck, GfmTaskListItemMarker, ListItemPrefix, SpaceOrTab}
use Rattle.markdown_base.specs.declared.event.Point.{Point}
use Rattle.markdown_base.specs.Events.{same_name}
use Rattle.mdblock_tables.specs.Tasks.{value_name}
use Rattle.mdgfm_events.specs.Places.{event, leaf}
use Rattle.mdgfm_tasks.specs.declared.awaited.Awaited.{Awaited}
use Rattle.mdgfm_tasks.specs.declared.awaited.Awaited.TheVariants.{Nothing, Block, DefinitionEnd, Text}
use Rattle.mdgfm_tasks.specs.declared.checks.Found.{Found}
use Rattle.mdgfm_tasks.specs.Awaits.{awaited_behind, awaited_next, enters, exits}
use Rattle.mdgfm_tasks.specs.Checks.{check_of}
use Rattle.mdgfm_tasks.specs.Laws.{ChecksAreFew, count_of}
use Rattle.mdgfm_tasks.specs.TaskEvents.{check_events, events_with, further}
use Rattle.mdgfm_tasks.proofs.Covers.{found-text}
use Rattle.mdgfm_tasks.proofs.Steps.{check-parts, with-found}

-- how many checks, and how many prefixes of items
abbrev checks : List Event → ℕ
checks = count_of (enters GfmTaskListItemCheck)

abbrev items : List Event → ℕ
items = count_of (exits ListItemPrefix)

-- a span with nothing in it is no check
leaf-counts : (n : Name) (p q : Point) (es : List Event) → same_name n GfmTaskListItemCheck ≡ false → checks (leaf n p q ++ es) ≡ checks es
leaf-counts n p q es h = by (nat_lt p.index q.index)
  where
    by : (b : Bool) → checks (cond b (event Enter n p ∷ event Exit n q ∷ []) [] ++ es) ≡ checks es
    by true = ap (λ t. cond t (checks es + 1) (checks es)) h
    by false = refl

value-counts : (k : Bool) → same_name (value_name k) GfmTaskListItemCheck ≡ false
value-counts true = refl
value-counts false = refl

-- what is awaited can give one more
abbrev room : Awaited → ℕ
room Nothing = 0
room Block = 1
room DefinitionEnd = 1
room Text = 1

room-one : (a : Awaited) → room a ≤ 1
room-one Nothing = omega arith
room-one Block = omega arith
room-one DefinitionEnd = omega arith
room-one Text = omega arith

room-next : (a : Awaited) (e : Event) → room (awaited_next a e) ≤ room a
room-next Nothing e = omega arith
room-next Block e = room-one (awaited_next Block e)
room-next DefinitionEnd e = room-one (awaited_next DefinitionEnd e)
room-next Text e = room-one (awaited_next Text e)

room-behind : (a : Awaited) (e : Event) (es : List Event) → items es + room (awaited_behind a e) ≤ items (e ∷ es) + room a
room-behind a e es = by (exits ListItemPrefix e) (room-next a e)
  where
    by : (t : Bool) → room (awaited_next a e) ≤ room a → items es + room (cond t Block (awaited_next a e)) ≤ cond t (items es + 1) (items es) + room a
    by true h = omega arith
    by false h = omega (arith, h)

module _ (tab : ℕ) (bytes : List ℕ) where
  check-counts : (p : Point) (f : Found) (es : List Event) → checks (check_events tab bytes p f ++ es) ≡ checks es + 1
  check-counts p f es =
      let start = further tab bytes p f.check.columns in
      let value = further tab bytes start 1 in
      let closing = further tab bytes value 1 in
      let end = further tab bytes closing 1 in
      let three = event Exit GfmTaskListItemCheck end ∷ (leaf Data end f.text.end ++ es) in
      let two = leaf GfmTaskListItemMarker closing end ++ three in
      let one = leaf (value_name f.check.is_checked) value closing ++ two in
      let all = event Enter GfmTaskListItemCheck start ∷ (leaf GfmTaskListItemMarker start value ++ one) in
      ap (λ (ts : List Event). checks ts) (check-parts tab bytes p f es)
      ∙ leaf-counts SpaceOrTab p start all refl
      ∙ ap (λ k. k + 1) (
      leaf-counts GfmTaskListItemMarker start value one refl
      ∙ leaf-counts (value_name f.check.is_checked) value closing two (value-counts f.check.is_checked)
      ∙ leaf-counts GfmTaskListItemMarker closing end three refl
      ∙ leaf-counts Data end f.text.end es refl)

  grows : (test : Event → Bool) (e : Event) (es : List Event) → count_of test es ≤ count_of test (e ∷ es)
  grows test e es = by (test e)
    where
      by : (t : Bool) → count_of test es ≤ cond t (count_of test es + 1) (count_of test es)
      by true = omega arith
      by false = omega arith

  few : (skip : ℕ) (a : Awaited) (es : List Event) → checks (events_with tab bytes skip a es) ≤ checks es + items es + room a
  few skip a [] = omega arith
  few (suc skip) a (e ∷ es) =
      let more : checks (events_with tab bytes skip a es) ≤ checks es + items es + room a = few skip a es in
      let g : checks es ≤ checks (e ∷ es) = grows (enters GfmTaskListItemCheck) e es in
      let k : items es ≤ items (e ∷ es) = grows (exits ListItemPrefix) e es in
      omega (arith, more, g, k)
  few zero a (e ∷ es) = by (λ skip b. few skip b es) (check_of bytes a (e ∷ es)) refl (found-text bytes a (e ∷ es))
    where
      other : checks (events_with tab bytes 0 (awaited_behind a e) es) ≤ checks es + items es + room (awaited_behind a e) → (t : Bool)
          → cond t (checks (events_with tab bytes 0 (awaited_behind a e) es) + 1) (checks (events_with tab bytes 0 (awaited_behind a e) es))
          ≤ cond t (checks es + 1) (checks es) + items (e ∷ es) + room a
      other more true = omega (arith, more, room-behind a e es)
      other more false = omega (arith, more, room-behind a e es)

      by : ((skip : ℕ) (b : Awaited) → checks (events_with tab bytes skip b es) ≤ checks es + items es + room b) → (o : Option Found) → check_of bytes a (e ∷ es) ≡ o
          → IfSome o (λ f. a ≡ Text) → checks (events_with tab bytes 0 a (e ∷ es)) ≤ checks (e ∷ es) + items (e ∷ es) + room a
      by inner None q h =
          subst (λ (ts : List Event). checks ts ≤ checks (e ∷ es) + items (e ∷ es) + room a) (sym (with-found tab bytes a e es None q))
          (other (inner 0 (awaited_behind a e)) (enters GfmTaskListItemCheck e))
      by inner (Some f) q h =
          let whole : checks (events_with tab bytes 0 a (e ∷ es)) ≡ checks (events_with tab bytes (f.text.size - 1) Nothing es) + 1 =
          ap (λ (ts : List Event). checks ts) (with-found tab bytes a e es (Some f) q) ∙ check-counts e.point f (events_with tab bytes (f.text.size - 1) Nothing es) in
          let more : checks (events_with tab bytes (f.text.size - 1) Nothing es) ≤ checks es + items es + 0 = inner (f.text.size - 1) Nothing in
          let text : room a ≡ 1 = ap room h in
          let g : checks es ≤ checks (e ∷ es) = grows (enters GfmTaskListItemCheck) e es in
          let k : items es ≤ items (e ∷ es) = grows (exits ListItemPrefix) e es in
          omega (arith, whole, more, text, g, k)

pub checks-are-few : ChecksAreFew
checks-are-few options bytes events = by options.constructs.gfm_task_list_item
  where
    by : (t : Bool) → checks (cond t (events_with options.tab_size bytes 0 Nothing events) events) ≤ checks events + items events
    by true = let h = few options.tab_size bytes 0 Nothing events in omega (arith, h)
    by false = omega arith
