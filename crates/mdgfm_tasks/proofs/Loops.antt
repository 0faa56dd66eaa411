-- In loops over events: what was passed, and what comes.
use Rattle.std.proofs.Common.{◌≡◌, ℕ, ◌+◌, ◌-◌, ◌<◌, ◌≤◌, ◌++◌, Bool, true, false, cond, List, [], ◌∷◌, length, drop, take, get_or, Option, Some, None, refl, sym, ap, ◌∙◌, arith}
use Rattle.std.proofs.lemmas.List.{append-nil, append_assoc, drop-drop, drop_all, drop_more, length-drop}
use Rattle.std.proofs.lemmas.Bool.{leb-true}
use Rattle.std.specs.Prelude.{◌||◌, nat_le, option_map}
use Rattle.markdown_base.specs.declared.event.Event.{Event}
use Rattle.mdgfm_events.proofs.Slices.{tail}
use Rattle.mdgfm_tasks.specs.declared.awaited.Awaited.{Awaited}
use Rattle.mdgfm_tasks.specs.declared.awaited.Awaited.TheVariants.{Nothing}
use Rattle.mdgfm_tasks.specs.declared.checks.Covered.{Covered}
use Rattle.mdgfm_tasks.specs.declared.checks.Found.{Found}
use Rattle.mdgfm_tasks.specs.Awaits.{awaited_behind}
use Rattle.mdgfm_tasks.specs.Checks.{check_of, data_over, has_check, is_data, is_found, two_more}
use Rattle.mdgfm_tasks.specs.TaskEvents.{check_events, events_with}
use Rattle.mdgfm_tasks.proofs.Covers.{found-room}
use Rattle.mdgfm_tasks.proofs.Steps.{with-found, with-skip}

-- ---- data

-- with so many events before it
abbrev pub behind : ℕ → Option Covered → Option Covered
behind n o = option_map (λ (c : Covered). record c { size = n + c.size }) o

pub behind-none : (o : Option Covered) → behind 0 o ≡ o
behind-none None = refl
behind-none (Some c) = let sum : 0 + c.size ≡ c.size = omega arith in ap (λ k. Some (let v : Covered = record c { size = k } in v)) sum

behind-two : (n : ℕ) (o : Option Covered) → behind n (option_map two_more o) ≡ behind (n + 2) o
behind-two n None = refl
behind-two n (Some c) = let sum : n + (c.size + 2) ≡ n + 2 + c.size = omega arith in ap (λ k. Some (let v : Covered = record c { size = k } in v)) sum

module _ (at many : ℕ) where
  pub data-short : (es : List Event) → length es < 2 → data_over at many es ≡ None
  data-short [] h = refl
  data-short (e ∷ []) h = refl
  data-short (e ∷ f ∷ es) h = absurd (omega (arith, h))

  module _ (events : List Event) (n : ℕ) (e f : Event) (here : drop n events ≡ e ∷ drop (n + 1) events) (there : drop (n + 1) events ≡ f ∷ drop (n + 1 + 1) events) where
    two : drop n events ≡ e ∷ f ∷ drop (n + 2) events
    two = let sum : n + 1 + 1 ≡ n + 2 = omega arith in here ∙ ap (λ (ts : List Event). e ∷ ts) (there ∙ ap (λ k. f ∷ drop k events) sum)

    by_tests : (t u : Bool) → is_data e f ≡ t → nat_le many (f.point.index - at) ≡ u
        → data_over at many (drop n events) ≡ cond t (cond u (Some (let v : Covered = record { size = 2; end = f.point } in v)) (option_map two_more (data_over at many (drop (n + 2) events)))) None
    by_tests t u p q =
        ap (data_over at many) two
        ∙ ap (λ b. cond b (cond (nat_le many (f.point.index - at)) (Some (let v : Covered = record { size = 2; end = f.point } in v)) (option_map two_more (data_over at many (drop (n + 2) events)))) None) p
        ∙ ap (λ b. cond t (cond b (Some (let v : Covered = record { size = 2; end = f.point } in v)) (option_map two_more (data_over at many (drop (n + 2) events)))) None) q

    -- no data comes
    pub data-other : (whole : Option Covered) → behind n (data_over at many (drop n events)) ≡ whole → is_data e f ≡ false → whole ≡ None
    data-other whole so_far p = sym so_far ∙ ap (behind n) (by_tests false (nat_le many (f.point.index - at)) p refl)

    -- data that is not
    pub data-next : (whole : Option Covered) → behind n (data_over at many (drop n events)) ≡ whole → is_data e f ≡ true → nat_le many (f.point.index - at) ≡ false
        → behind (n + 2) (data_over at many (drop (n + 2) events)) ≡ whole
    data-next whole so_far p q = sym (behind-two n (data_over at many (drop (n + 2) events))) ∙ sym (ap (behind n) (by_tests true false p q)) ∙ so_far

-- ---- checks

module _ (bytes : List ℕ) (events : List Event) (at : ℕ) (e : Event) (here : drop at events ≡ e ∷ drop (at + 1) events) where
  has-by : (a : Awaited) (o : Option Found) → check_of bytes a (drop at events) ≡ o → has_check bytes a (drop at events) ≡ is_found o || has_check bytes (awaited_behind a e) (drop (at + 1) events)
  has-by a o h =
      ap (has_check bytes a) here
      ∙ ap (λ p. is_found p || has_check bytes (awaited_behind a e) (drop (at + 1) events)) (ap (check_of bytes a) (sym here) ∙ h)

  pub has-next : (a : Awaited) → check_of bytes a (drop at events) ≡ None → has_check bytes (awaited_behind a e) (drop (at + 1) events) ≡ has_check bytes a (drop at events)
  has-next a h = sym (has-by a None h)

  -- ---- events

  module _ (tab : ℕ) (a : Awaited) (whole out : List Event) (so_far : out ++ events_with tab bytes 0 a (drop at events) ≡ whole) where
    pub with-check : (f : Found) → check_of bytes a (drop at events) ≡ Some f → 1 ≤ f.text.size
        → (out ++ check_events tab bytes e.point f) ++ events_with tab bytes 0 Nothing (drop (at + f.text.size) events) ≡ whole
    with-check f h some =
        let there = check_events tab bytes e.point f in
        let sum : at + 1 + (f.text.size - 1) ≡ at + f.text.size = omega (arith, some) in
        append_assoc out there (events_with tab bytes 0 Nothing (drop (at + f.text.size) events))
        ∙ ap (λ (ts : List Event). out ++ (there ++ events_with tab bytes 0 Nothing ts)) (sym (drop-drop (f.text.size - 1) (at + 1) events ∙ ap (λ k. drop k events) sum))
        ∙ ap (λ (ts : List Event). out ++ (there ++ ts)) (sym (with-skip tab bytes (f.text.size - 1) Nothing (drop (at + 1) events)))
        ∙ ap (λ (ts : List Event). out ++ ts) (sym (with-found tab bytes a e (drop (at + 1) events) (Some f) (ap (check_of bytes a) (sym here) ∙ h)))
        ∙ ap (λ ts. out ++ events_with tab bytes 0 a ts) (sym here)
        ∙ so_far

    pub with-other : check_of bytes a (drop at events) ≡ None → (out ++ e ∷ []) ++ events_with tab bytes 0 (awaited_behind a e) (drop (at + 1) events) ≡ whole
    with-other h =
        append_assoc out (e ∷ []) (events_with tab bytes 0 (awaited_behind a e) (drop (at + 1) events))
        ∙ ap (λ (ts : List Event). out ++ ts) (sym (with-found tab bytes a e (drop (at + 1) events) None (ap (check_of bytes a) (sym here) ∙ h)))
        ∙ ap (λ ts. out ++ events_with tab bytes 0 a ts) (sym here)
        ∙ so_far

-- none come
pub has-end : (bytes : List ℕ) (a : Awaited) (at : ℕ) (events : List Event) → length events ≤ at → has_check bytes a (drop at events) ≡ false
has-end bytes a at events past = ap (has_check bytes a) (drop_all at events past)

-- ---- the same, by what is left of a slice

module _ (bytes : List ℕ) (events : List Event) (at : ℕ) (d : Event) (more : at < length events) where
  here : drop at events ≡ get_or events at d ∷ drop (at + 1) events
  here = drop_more events at d more

  of_slice : (a : Awaited) (o : Option Found) → o ≡ check_of bytes a (take (length events - at) (drop at events)) → check_of bytes a (drop at events) ≡ o
  of_slice a o h = ap (check_of bytes a) (sym (tail at events)) ∙ sym h

  pub has_more : (a : Awaited) (whole : Bool) → None ≡ check_of bytes a (take (length events - at) (drop at events)) → has_check bytes a (drop at events) ≡ whole
      → has_check bytes (awaited_behind a (get_or events at d)) (drop (at + 1) events) ≡ whole
  has_more a whole h so_far = has-next bytes events at (get_or events at d) here a (of_slice a None h) ∙ so_far

  pub check_step : (tab : ℕ) (a : Awaited) (whole out : List Event) (f : Found) → out ++ events_with tab bytes 0 a (drop at events) ≡ whole
      → Some f ≡ check_of bytes a (take (length events - at) (drop at events)) → 1 ≤ f.text.size
      → (out ++ check_events tab bytes (get_or events at d).point f) ++ events_with tab bytes 0 Nothing (drop (at + f.text.size) events) ≡ whole
  check_step tab a whole out f so_far h some = with-check bytes events at (get_or events at d) here tab a whole out so_far f (of_slice a (Some f) h) some

  pub check_room : (a : Awaited) (f : Found) → Some f ≡ check_of bytes a (take (length events - at) (drop at events))
      → (get_or events at d).point.index + f.check.columns + 3 ≤ f.text.end.index
  check_room a f h = found-room bytes a (get_or events at d) (drop (at + 1) events) f (ap (check_of bytes a) (sym here) ∙ of_slice a (Some f) h)

-- ---- data, by what is at an index

module _ (at many : ℕ) (events : List Event) (n : ℕ) (d : Event) (more : 2 ≤ length events - n) (whole : Option Covered)
    (so_far : behind n (data_over at many (drop n events)) ≡ whole) where
  first : drop n events ≡ get_or events n d ∷ drop (n + 1) events
  first = drop_more events n d (omega (arith, more))

  second : drop (n + 1) events ≡ get_or events (n + 1) d ∷ drop (n + 1 + 1) events
  second = drop_more events (n + 1) d (omega (arith, more))

  pub data_goes_on : is_data (get_or events n d) (get_or events (n + 1) d) ≡ true → nat_le many ((get_or events (n + 1) d).point.index - at) ≡ false
      → behind (n + 2) (data_over at many (drop (n + 2) events)) ≡ whole
  data_goes_on p q = data-next at many events n (get_or events n d) (get_or events (n + 1) d) first second whole so_far p q

pub data_ends : (at many : ℕ) (events : List Event) (n : ℕ) (whole : Option Covered) → behind n (data_over at many (drop n events)) ≡ whole → length events - n < 2 → None ≡ whole
data_ends at many events n whole so_far h =
    let long = length-drop n events in
    sym (ap (behind n) (data-short at many (drop n events) (omega (arith, long, h)))) ∙ so_far
