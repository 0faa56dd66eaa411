-- Checks of events of lines, and of others behind them.
use Rattle.std.proofs.Common.{◌≡◌, ℕ, zero, suc, ◌+◌, ◌≤◌, ◌<◌, ◌++◌, Bool, true, false, cond, List, [], ◌∷◌, length, drop, take, refl, sym, ap, ◌∙◌, arith, inl, inr}
use Rattle.std.proofs.Math.Seq.{drop-append-add}
use Rattle.std.proofs.lemmas.Bool.{cases_lt, false≢true}
use Rattle.std.proofs.lemmas.List.{drop-append-le, length-drop}
use Rattle.std.specs.List.{AllByRecursion, prefix_len}
use Rattle.std.specs.Prelude.{◌==◌, ◌&&◌, ◌||◌, not, map}
use Rattle.markdown_base.proofs.Common.{every-map}
use Rattle.markdown_base.specs.declared.configuration.ParseOptions.{ParseOptions}
use Rattle.markdown_base.specs.declared.event.Event.{Event}
use Rattle.markdown_base.specs.Events.{IsBalanced}
use Rattle.markdown_tokenizer.proofs.Positions.Order.{every-all}
use Rattle.mdblock_lines.specs.Lines.{is_in_line}
use Rattle.mdgfm_literals.proofs.Parts.{begins-further, events-stay, same-link, slice-behind, slice-stays}
use Rattle.mdgfm_literals.specs.Laws.{begins_block, end_line, further_event}
use Rattle.mdgfm_tasks.specs.declared.awaited.Awaited.TheVariants.{Nothing}
use Rattle.mdgfm_tasks.specs.Checks.{line_from}
use Rattle.mdgfm_tasks.specs.Laws.{awaited_from}
use Rattle.mdgfm_tasks.specs.TaskEvents.{events_with, task_events}
use Rattle.mdgfm_documents.proofs.TasksAhead.{AreInside, IsInside}
use Rattle.mdgfm_sections.proofs.TasksBoth.{tasks-both}
use Rattle.mdgfm_sections.proofs.TasksFurther.{tasks-on}
use Rattle.mdgfm_sections.specs.Parts.{BytesBehindDoNothing, TasksMove, TasksOfParts}

-- ---- lines

line-behind : (before bytes : List ℕ) (i : ℕ) → line_from (before ++ bytes) (i + length before) ≡ line_from bytes i
line-behind before bytes i =
    let z : i + length before ≡ length before + i = omega arith in
    ap (λ (rest : List ℕ). take (prefix_len is_in_line rest) rest) (ap (λ k. drop k (before ++ bytes)) z ∙ drop-append-add before bytes i)

-- what is behind a line ending is in no line before it
line-ends : (rest behind : List ℕ) → end_line rest ≡ true → 1 ≤ length rest → take (prefix_len is_in_line (rest ++ behind)) (rest ++ behind) ≡ take (prefix_len is_in_line rest) rest
line-ends [] behind ends some = absurd (omega (arith, some))
line-ends (b ∷ []) behind ends some = by (b == 10) (b == 13) ends
  where
    by : (t u : Bool) → (t || u) ≡ true → take (cond (not t && not u) (1 + prefix_len is_in_line behind) 0) (b ∷ behind) ≡ take (cond (not t && not u) 1 0) (b ∷ [])
    by true u h = refl
    by false true h = refl
    by false false h = absurd (false≢true h)
line-ends (b ∷ c ∷ cs) behind ends some = by (is_in_line b) (line-ends (c ∷ cs) behind ends (omega arith))
  where
    by : (t : Bool) → take (prefix_len is_in_line ((c ∷ cs) ++ behind)) ((c ∷ cs) ++ behind) ≡ take (prefix_len is_in_line (c ∷ cs)) (c ∷ cs)
        → take (cond t (1 + prefix_len is_in_line ((c ∷ cs) ++ behind)) 0) (b ∷ ((c ∷ cs) ++ behind)) ≡ take (cond t (1 + prefix_len is_in_line (c ∷ cs)) 0) (b ∷ c ∷ cs)
    by true more =
        let one : (n : ℕ) → 1 + n ≡ suc n = λ n. omega arith in
        ap (λ k. take k (b ∷ ((c ∷ cs) ++ behind))) (one (prefix_len is_in_line ((c ∷ cs) ++ behind))) ∙ ap (λ (ts : List ℕ). b ∷ ts) more ∙ sym (ap (λ k. take k (b ∷ c ∷ cs)) (one (prefix_len is_in_line (c ∷ cs))))
    by false more = refl

end-drop : (i : ℕ) (bytes : List ℕ) → end_line bytes ≡ true → end_line (drop i bytes) ≡ true
end-drop zero bytes h = h
end-drop (suc i) [] h = refl
end-drop (suc zero) (b ∷ []) h = refl
end-drop (suc (suc i)) (b ∷ []) h = refl
end-drop (suc i) (b ∷ c ∷ cs) h = end-drop i (c ∷ cs) h

line-front : (bytes behind : List ℕ) (i : ℕ) → end_line bytes ≡ true → i < length bytes → line_from (bytes ++ behind) (i + 0) ≡ line_from bytes i
line-front bytes behind i ends less =
    let z : i + 0 ≡ i = omega arith in
    let long = length-drop i bytes in
    ap (λ k. line_from (bytes ++ behind) k) z
    ∙ ap (λ (rest : List ℕ). take (prefix_len is_in_line rest) rest) (drop-append-le i bytes behind (omega (arith, less)))
    ∙ line-ends (drop i bytes) behind (end-drop i bytes ends) (omega (arith, long, less))

-- ---- checks

pub tasks-move : TasksMove
tasks-move options lines before bytes links events no_link = by options.constructs.gfm_task_list_item
  where
    go : List Event → List Event
    go = map (further_event links lines (length before))

    by : (t : Bool) → cond t (events_with options.tab_size (before ++ bytes) 0 Nothing (go events)) (go events) ≡ go (cond t (events_with options.tab_size bytes 0 Nothing events) events)
    by true =
        tasks-on links no_link lines (length before) options.tab_size bytes (before ++ bytes) (λ i. Unit {0}) (λ i j less fit. tt) (λ i j fit. slice-behind before bytes i j) (λ i fit. inl (line-behind before bytes i)) 0 Nothing events
        (every-all (λ (e : Event). Unit {0}) (λ e. tt) events)
    by false = refl

pub tasks-behind : BytesBehindDoNothing
tasks-behind options bytes behind events ends within = by options.constructs.gfm_task_list_item
  where
    by : (t : Bool) → cond t (events_with options.tab_size (bytes ++ behind) 0 Nothing events) events ≡ cond t (events_with options.tab_size bytes 0 Nothing events) events
    by true =
        let all = events_with options.tab_size bytes 0 Nothing events in
        ap (λ ts. events_with options.tab_size (bytes ++ behind) 0 Nothing ts) (sym (events-stay events))
        ∙ tasks-on same-link refl 0 0 options.tab_size bytes (bytes ++ behind) (λ i. i ≤ length bytes) (λ i j less fit. omega (arith, less, fit)) (slice-stays bytes behind)
        (λ i fit.
        elim (cases_lt i (length bytes)) [
          | inl less ↦ inl (line-front bytes behind i ends less)
          | inr more ↦ inr (λ j k. omega (arith, more, k))
        ])
        0 Nothing events within
        ∙ events-stay all
    by false = refl

tasks-of-both : (options : ParseOptions) (bytes : List ℕ) (xs zs : List Event) → IsBalanced xs → awaited_from Nothing xs ≡ Nothing → begins_block zs ≡ true
    → task_events options bytes (xs ++ zs) ≡ task_events options bytes xs ++ task_events options bytes zs
tasks-of-both options bytes xs zs b calm begins = by options.constructs.gfm_task_list_item
  where
    by : (t : Bool) → cond t (events_with options.tab_size bytes 0 Nothing (xs ++ zs)) (xs ++ zs) ≡ cond t (events_with options.tab_size bytes 0 Nothing xs) xs ++ cond t (events_with options.tab_size bytes 0 Nothing zs) zs
    by true = tasks-both options.tab_size bytes xs zs b calm begins
    by false = refl

pub up-to : (tab most : ℕ) (es : List Event) → AreInside tab most es → AllByRecursion (λ (e : Event). e.point.index ≤ most) es
up-to tab most es h = every-map (λ (e : Event). IsInside tab most e.point) (λ (e : Event). e.point.index ≤ most) (λ e k. k.0) es h

pub tasks-of-parts : TasksOfParts
tasks-of-parts options lines first second links xs ys no_link apart =
    let there = map (further_event links lines (length first)) ys in
    let both = tasks-of-both options (first ++ second) xs there apart.balanced apart.awaits (begins-further links lines (length first) ys apart.begins) in
    both
    ∙ ap (λ (ts : List Event). ts ++ task_events options (first ++ second) there) (tasks-behind options first second xs apart.lines (up-to options.tab_size (length first) xs apart.within))
    ∙ ap (λ (ts : List Event). task_events options first xs ++ ts) (tasks-move options lines first second links ys no_link)
