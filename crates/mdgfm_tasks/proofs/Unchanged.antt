-- What checks leave as it was.
use Rattle.std.proofs.Common.{◌≡◌, ℕ, Bool, true, false, cond, List, [], ◌∷◌, Option, Some, None, refl, sym, ap, ◌∙◌}
use Rattle.std.proofs.lemmas.Bool.{false≢true}
use Rattle.std.specs.Prelude.{◌||◌}
use Rattle.markdown_base.proofs.Facts.Bools.{cond-same}
use Rattle.markdown_base.specs.declared.event.Event.{Event}
use Rattle.mdgfm_tasks.specs.declared.awaited.Awaited.{Awaited}
use Rattle.mdgfm_tasks.specs.declared.awaited.Awaited.TheVariants.{Nothing}
use Rattle.mdgfm_tasks.specs.declared.checks.Found.{Found}
use Rattle.mdgfm_tasks.specs.Awaits.{awaited_behind}
use Rattle.mdgfm_tasks.specs.Checks.{check_of, has_check, is_found}
use Rattle.mdgfm_tasks.specs.Laws.{NoCheckChangesNothing, OffChangesNothing}
use Rattle.mdgfm_tasks.specs.TaskEvents.{events_with}
use Rattle.mdgfm_tasks.proofs.Steps.{with-found}

pub off-changes-nothing : OffChangesNothing
off-changes-nothing options bytes events off = ap (λ b. cond b (events_with options.tab_size bytes 0 Nothing events) events) off

-- events without a check are as they were
pub with-none : (tab : ℕ) (bytes : List ℕ) (a : Awaited) (es : List Event) → has_check bytes a es ≡ false → events_with tab bytes 0 a es ≡ es
with-none tab bytes a [] h = refl
with-none tab bytes a (e ∷ es) h = by (λ b. with-none tab bytes b es) (check_of bytes a (e ∷ es)) refl h
  where
    by : ((b : Awaited) → has_check bytes b es ≡ false → events_with tab bytes 0 b es ≡ es) → (o : Option Found) → check_of bytes a (e ∷ es) ≡ o
        → (is_found o || has_check bytes (awaited_behind a e) es) ≡ false → events_with tab bytes 0 a (e ∷ es) ≡ e ∷ es
    by more None q k = with-found tab bytes a e es None q ∙ ap (λ (ts : List Event). e ∷ ts) (more (awaited_behind a e) k)
    by more (Some f) q k = absurd (false≢true (sym k))

pub none-changes-nothing : NoCheckChangesNothing
none-changes-nothing options bytes events none =
    let on = options.constructs.gfm_task_list_item in ap (λ es. cond on es events) (with-none options.tab_size bytes Nothing events none) ∙ cond-same on events
