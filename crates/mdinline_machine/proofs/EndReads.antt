-- How the machine of inline text reads a `]` whose bracket may make something: a resource is tried behind it, then a full reference; and if no label is
-- there, the bracket's own label may be that of a collapsed or a shortcut reference. And in how many calls.
use Rattle.std.specs.Option.{is_some, option_or}
use Rattle.markdown_base.specs.declared.event.Name.TheVariants.{LabelEnd, LabelMarker, Reference, ReferenceMarker}
use Rattle.markdown_base.specs.declared.state.TheConstants.Name.{LabelEndAfter, LabelEndNok, LabelEndOk, LabelEndReferenceCollapsed, LabelEndReferenceCollapsedOpen, LabelEndReferenceFull, LabelEndReferenceNotFull, LabelEndResourceStart, LabelEndStart}
use Rattle.markdown_tokenizer.specs.Sight.{end_or, point_or}
use Rattle.mdinline_link_tails.proofs.Resources.Readings.{Follows, attempt, calls_for, resources-follow}
use Rattle.mdinline_link_tails.specs.ResourceLooks.{resource_look}
use Rattle.mdinline_full_references.specs.FullReference.{full_reference_grammar, label_length}
use Rattle.mdinline_full_references.specs.FullReferenceLooks.{full_reference_look}
use Rattle.mdinline_full_references.specs.FullReferenceRows.{label_is_there}
use Rattle.mdinline_full_references.proofs.FullReferences.Counts.{flag}
use Rattle.mdinline_full_references.proofs.FullReferences.Readings.{Follows as FollowsReference, calls_for as reference_calls_for, label_there, noted-is, references-follow}
use Rattle.mdinline_full_references.proofs.FullReferences.Steps.{noted}
use Rattle.mdinline_text_machine.proofs.Texts.Leads.{goes-next as goes-fed}
use Rattle.mdinline_text_machine.proofs.Texts.Steps.{HasRow, before_class, leads-nok, leads-ok, leads-tested, tested}
use Rattle.std.proofs.Math.Seq.{take-append_seam}
use Rattle.mdinline_machine.specs.declared.names.TheConstants.{LabelEndNotResource, LabelEndReferenceStart}
use Rattle.mdinline_machine.specs.Brackets.{Bracket, Memory, bytes_before, collapsed_reference, is_close_bracket, is_own_label, is_wanted_at, no_tail, own_is_defined, own_tail, tail_of}
use Rattle.mdinline_machine.specs.BracketRows.{bracket_is_next, close_is_next, collapsed_open_rows, collapsed_start_rows, end_after_rows, has_own_label, label_is_wanted, may_make, own_label_is_defined, reads_end, waits_less, without_last}
use Rattle.mdinline_machine.proofs.BracketReads.{AddsBracket, enters, exits, kept, lone-from, unstarted, with_starts}
use Rattle.mdinline_machine.proofs.LabelReads.{is_wanted_from, label-told, read-before, wanted-is}
use Rattle.mdinline_machine.proofs.Playing.{ends-make, inlines_play, inlines_play_full_references, inlines_play_resources}
use Rattle.mdinline_machine.proofs.TailLooks.{look_calls}
use Rattle.mdinline_machine.proofs.Waiting.{AreKeptAs, own-kept}
use Rattle.mdinline_machine.proofs.Prelude.{◌≡◌, ℕ, suc, ◌+◌, ◌*◌, ◌≤◌, ◌&&◌, not, List, [], ◌∷◌, ◌++◌, Bool, true, false, cond, Option, Some, None, refl, sym, ap, ◌∙◌, subst, arith, length, take, drop, append_assoc, append-nil, reverse, Event, Enter, Exit, Name, Next, Nok, Retry, TextBefore, Seat, drop-next, Byte, Nothing, Choice, Configuration, Local, byte_of, sight, Given, IsText, Text, State, Rows, row, when, write, enter, exit, consume, choose, Attempt, counts, row_step, class_of, text_byte, at-front, passes, bytes_of, event, Found, item_length, item_events, has_byte_at, first_byte, held, shows, goes-back, goes-next, sees, Remembered, remembered, spent, Plays, EndsWith, Leads, between_items, leads-row, resource_grammar, begins_end, is_open_bracket, label_end, lone_end}

module _ (defined : List ℕ → Bool) (g : Given) (text : Text) where
  abbrev m : Plays g text
  m = inlines_play defined g text

  -- After at most so many calls all that is remembered is as it was
  pub record Keeps (n : ℕ) (local after : Local Unit Unit) : Type 0 where
    pub calls : spent after ≤ spent local + n
    pub same : remembered after ≡ remembered local

  keeps-more : (n n' : ℕ) (local between after : Local Unit Unit) → Keeps n local between → Keeps n' between after → Keeps (n + n') local after
  keeps-more n n' local between after one other = record { calls = omega (arith, one.calls, other.calls); same = other.same ∙ one.same }

  -- ---- `[]` behind a `]`, or nothing
  -- From behind a `]` its own tail is read
  abbrev ReadsOwnTail : (q : ℕ) (events : List Event) (local : Local Unit Unit) → List Seat → Found → Type 0
  ReadsOwnTail q events local l tail =
      (after : Local Unit Unit) × Keeps 3 local after
      × Leads g text m (held [] q Nothing false events local) [] (Next LabelEndAfter) (between_items (q + item_length tail) Nothing false (events ++ item_events g.bytes (tail, take (item_length tail) l)) after) [] (Next LabelEndOk)

  module _ (q : ℕ) (events : List Event) (local : Local Unit Unit) where
    -- nothing is behind it
    no-tail-from : (l : List Seat) (after : Local Unit Unit) → Keeps 3 local after
        → Leads g text m (held [] q Nothing false events local) [] (Next LabelEndAfter) (held [] q Nothing false events after) [] (Next LabelEndOk) → ReadsOwnTail q events local l no_tail
    no-tail-from l after keeps leads =
        let same : q ≡ q + 0 = omega arith in (
          after,
          keeps,
          λ es h. leads es
              (subst (λ n. EndsWith g text m (between_items n Nothing false events after) [] (Next LabelEndOk) es) (sym same)
              (subst (λ xs. EndsWith g text m (between_items (q + 0) Nothing false xs after) [] (Next LabelEndOk) es) (append-nil events) h)),
        )

    abbrev begun : List Event
    begun = ((events ++ enters defined g text Reference q ∷ []) ++ enters defined g text ReferenceMarker q ∷ []) ++ exits defined g text ReferenceMarker q ∷ []

    abbrev tried_own : List Choice
    tried_own = attempt (Next LabelEndOk) (Next LabelEndOk) [] q false events ∷ []

    once : Keeps 3 local (counts local)
    once = record { calls = omega arith; same = refl }

    -- no `[` is
    other-behind : (v : Seat) (vs : List Seat) → drop q text.seats ≡ v ∷ vs → is_open_bracket v.byte ≡ false
        → Leads g text m (held [] q Nothing false events local) [] (Next LabelEndAfter) (held [] q Nothing false events (counts local)) [] (Next LabelEndOk)
    other-behind v vs at closed es h =
        let k = shows (v ∷ vs) [] q events local in
        goes-next g text m (v ∷ vs) [] q events local [] LabelEndAfter at es
        (leads-tested g text m bracket_is_next end_after_rows k [] LabelEndAfter es (sees g text m (v ∷ vs) q at) refl (ap (passes is_open_bracket) (sees g text m (v ∷ vs) q at) ∙ closed) refl
        (goes-back g text m (v ∷ vs) [] q events (counts local) [] LabelEndOk at es h))

    -- one is
    collapsed-begins : (v : Seat) (vs : List Seat) → drop q text.seats ≡ v ∷ vs → is_open_bracket v.byte ≡ true
        → Leads g text m (held [] q Nothing false events local) [] (Next LabelEndAfter) (shows vs (Reference ∷ []) (q + 1) begun (counts (counts local))) tried_own (Retry LabelEndReferenceCollapsedOpen)
    collapsed-begins v vs at opens es h =
        let k = shows (v ∷ vs) [] q events local in
        goes-next g text m (v ∷ vs) [] q events local [] LabelEndAfter at es
        (leads-tested g text m bracket_is_next end_after_rows k [] LabelEndAfter es (sees g text m (v ∷ vs) q at) refl (ap (passes is_open_bracket) (sees g text m (v ∷ vs) q at) ∙ opens) refl
        (leads-row g text m (row (enter Reference ∷ enter ReferenceMarker ∷ consume ∷ exit ReferenceMarker ∷ []) (Next LabelEndReferenceCollapsedOpen)) (shows (v ∷ vs) [] q events (counts local)) tried_own LabelEndReferenceCollapsed es
        (ap (λ o. row_step g text (shows (v ∷ vs) [] q events (counts local)) (collapsed_start_rows (before_class g text q) (class_of text_byte o))) (sees g text m (v ∷ vs) q at))
        (goes-next g text m vs (Reference ∷ []) (q + 1) begun (counts (counts local)) tried_own LabelEndReferenceCollapsedOpen (drop-next text.seats q v vs at) es h)))

    -- but no `]` behind it
    fails-collapsed : (v : Seat) (vs : List Seat) → drop q text.seats ≡ v ∷ vs → is_open_bracket v.byte ≡ true → passes is_close_bracket (first_byte vs) ≡ false
        → Leads g text m (held [] q Nothing false events local) [] (Next LabelEndAfter) (held [] q Nothing false events (counts (counts (counts local)))) [] (Next LabelEndOk)
    fails-collapsed v vs at opens none es h =
        let before = counts (counts local) in
        let after = counts before in
        let put_back = leads-nok g text m (shows vs (Reference ∷ []) (q + 1) begun after) (attempt (Next LabelEndOk) (Next LabelEndOk) [] q false events) [] es
        (subst (λ l. EndsWith g text m (held [] q Nothing false l after) [] (Next LabelEndOk) es) (let same : events ≡ take (length events) begun = simp (append_assoc, take-append_seam) in same) h) in
        collapsed-begins v vs at opens es
        (elim vs as (λ l. drop (q + 1) text.seats ≡ l → passes is_close_bracket (first_byte l) ≡ false → EndsWith g text m (shows l (Reference ∷ []) (q + 1) begun after) tried_own Nok es → EndsWith g text m (shows l (Reference ∷ []) (q + 1) begun before) tried_own (Retry LabelEndReferenceCollapsedOpen) es) [
          | [] ↦ λ there none h.
              leads-row g text m (row [] Nok) (shows [] (Reference ∷ []) (q + 1) begun before) tried_own LabelEndReferenceCollapsedOpen es
              (ap (λ o. row_step g text (shows [] (Reference ∷ []) (q + 1) begun before) (collapsed_open_rows (before_class g text (q + 1)) (class_of text_byte o))) (sees g text m [] (q + 1) there)) h
          | w ∷ ws ↦ λ there none h.
              leads-tested g text m close_is_next collapsed_open_rows (shows (w ∷ ws) (Reference ∷ []) (q + 1) begun before) tried_own LabelEndReferenceCollapsedOpen es (sees g text m (w ∷ ws) (q + 1) there) refl
              (ap (passes is_close_bracket) (sees g text m (w ∷ ws) (q + 1) there) ∙ none) refl h
        ] (drop-next text.seats q v vs at) none put_back)

    -- both are
    reads-collapsed : (v w : Seat) (ws : List Seat) → drop q text.seats ≡ v ∷ w ∷ ws → is_open_bracket v.byte ≡ true → is_close_bracket w.byte ≡ true → ReadsOwnTail q events local (v ∷ w ∷ ws) collapsed_reference
    reads-collapsed v w ws here opens closes =
        let at = at-front text.seats q v (w ∷ ws) here in
        let there = drop-next text.seats q v (w ∷ ws) here in
        let behind = at-front text.seats (q + 1) w ws there in
        let k = shows (w ∷ ws) (Reference ∷ []) (q + 1) begun (counts (counts local)) in
        let after = counts (counts (counts local)) in
        let made = ((begun ++ enters defined g text ReferenceMarker (q + 1) ∷ []) ++ exits defined g text ReferenceMarker (q + 1) ∷ []) ++ exits defined g text Reference (q + 1) ∷ [] in
        let same : made ≡ events ++ item_events g.bytes (collapsed_reference, v ∷ w ∷ []) = simp (at, behind, append_assoc) in
        let further : q + 1 + 1 ≡ q + 2 = omega arith in (
          after,
          record { calls = omega arith; same = refl },
          λ es h.
              collapsed-begins v (w ∷ ws) here opens es
              (leads-tested g text m close_is_next collapsed_open_rows k tried_own LabelEndReferenceCollapsedOpen es (ap byte_of behind) refl (ap (passes is_close_bracket) (ap byte_of behind) ∙ closes) refl
              (leads-ok g text m (between_items (q + 1 + 1) Nothing false made after) (attempt (Next LabelEndOk) (Next LabelEndOk) [] q false events) [] es
              (subst (λ n. EndsWith g text m (between_items n Nothing false made after) [] (Next LabelEndOk) es) (sym further)
              (subst (λ l. EndsWith g text m (between_items (q + 2) Nothing false l after) [] (Next LabelEndOk) es) (sym same) h)))),
        )

    own-tail-read : (l : List Seat) → drop q text.seats ≡ l → ReadsOwnTail q events local l (own_tail (bytes_of l))
    own-tail-read [] at =
        no-tail-from [] (counts local) (record { calls = omega arith; same = refl })
        (λ es h.
        goes-next g text m [] [] q events local [] LabelEndAfter at es
        (leads-row g text m (row [] (Retry LabelEndOk)) (shows [] [] q events local) [] LabelEndAfter es
        (ap (λ o. row_step g text (shows [] [] q events local) (end_after_rows (before_class g text q) (class_of text_byte o))) (sees g text m [] q at)) (goes-back g text m [] [] q events (counts local) [] LabelEndOk at es h)))
    own-tail-read (v ∷ vs) at =
        let thrice : Keeps 3 local (counts (counts (counts local))) = record { calls = omega arith; same = refl } in
        elim (is_open_bracket v.byte) as (λ t. is_open_bracket v.byte ≡ t → ReadsOwnTail q events local (v ∷ vs) (cond (t && has_byte_at (bytes_of (v ∷ vs)) 1 is_close_bracket) collapsed_reference no_tail)) [
          | false ↦ λ closed. no-tail-from (v ∷ vs) (counts local) (record { calls = omega arith; same = refl }) (other-behind v vs at closed)
          | true ↦ λ opens. elim vs as (λ l. drop q text.seats ≡ v ∷ l → ReadsOwnTail q events local (v ∷ l) (cond (has_byte_at (bytes_of (v ∷ l)) 1 is_close_bracket) collapsed_reference no_tail)) [
            | [] ↦ λ at. no-tail-from (v ∷ []) (counts (counts (counts local))) thrice (fails-collapsed v [] at opens refl)
            | w ∷ ws ↦ λ at. elim (is_close_bracket w.byte) as (λ t. is_close_bracket w.byte ≡ t → ReadsOwnTail q events local (v ∷ w ∷ ws) (cond t collapsed_reference no_tail)) [
              | true ↦ λ closes. reads-collapsed v w ws at opens closes
              | false ↦ λ other. no-tail-from (v ∷ w ∷ ws) (counts (counts (counts local))) thrice (fails-collapsed v (w ∷ ws) at opens other)
            ] refl
          ] at
        ] refl

  -- ---- `]`
  module _ (p : ℕ) (ended : Bool) (events : List Event) (local : Local Unit Unit) (s : Seat) (ss : List Seat) (here : drop p text.seats ≡ s ∷ ss) where
    abbrev end_events : List Event
    end_events = enters defined g text LabelEnd p ∷ enters defined g text LabelMarker p ∷ exits defined g text LabelMarker p ∷ exits defined g text LabelEnd p ∷ []

    abbrev tried_end : Name → List Choice
    tried_end nok = attempt (Next LabelEndOk) (Next nok) [] p ended events ∷ []

    abbrev behind : List Seat → Local Unit Unit → Configuration Unit Unit
    behind l after = shows l [] (p + 1) (events ++ end_events) after

    -- what it has been read as, once these calls were made
    abbrev FromHome : Configuration Unit Unit → State → Type 0
    FromHome k st = Leads g text m (between_items p Byte ended events local) [] (Retry TextBefore) k [] st

    -- it is read, and a state follows
    end-read : (start next : Name) (between : Local Unit Unit) (cs : List Choice) → HasRow g text m.step (between_items p Byte ended events between) start (reads_end next)
        → Leads g text m (between_items p Byte ended events between) cs (Retry start) (behind ss (counts between)) cs (Retry next)
    end-read start next between cs has es h =
        let made = (((events ++ enters defined g text LabelEnd p ∷ []) ++ enters defined g text LabelMarker p ∷ []) ++ exits defined g text LabelMarker p ∷ []) ++ exits defined g text LabelEnd p ∷ [] in
        let same : made ≡ events ++ end_events = simp append_assoc in
        leads-row g text m (reads_end next) (between_items p Byte ended events between) cs start es has
        (subst (λ l. EndsWith g text m (between_items (p + 1) Nothing false l (counts between)) cs (Next next) es) (sym same)
        (goes-next g text m ss [] (p + 1) (events ++ end_events) (counts between) cs next (drop-next text.seats p s ss here) es h))

    -- it is tried with a tail
    end-tried : (from start next nok : Name) (between : Local Unit Unit) → HasRow g text m.step (between_items p Byte ended events between) from (row (choose Attempt (Next LabelEndOk) (Next nok) ∷ []) (Retry start))
        → HasRow g text m.step (between_items p Byte ended events (counts between)) start (reads_end next)
        → Leads g text m (between_items p Byte ended events between) [] (Retry from) (behind ss (counts (counts between))) (tried_end nok) (Retry next)
    end-tried from start next nok between row_is has es h =
        leads-row g text m (row (choose Attempt (Next LabelEndOk) (Next nok) ∷ []) (Retry start)) (between_items p Byte ended events between) [] from es row_is (end-read start next (counts between) (tried_end nok) has es h)

    -- it makes nothing
    ends-lone : (n : ℕ) (between : Local Unit Unit) → Keeps n local between → FromHome (between_items p Byte ended events between) (Retry LabelEndNok)
        → AddsBracket defined g text (n + 1) (without_last false (kept local)) p ended events local (s ∷ ss) lone_end
    ends-lone n between keeps leads =
        let starts : kept between ≡ kept local = ap (λ (r : Remembered). r.starts) keeps.same in (
          false,
          with_starts (without_last false (kept between)) (counts between),
          record { calls = omega (arith, keeps.calls); same = ap unstarted keeps.same; starts_are = ap (without_last false) starts },
          λ es h. leads es (lone-from defined g text p ended events local s ss here between es h),
        )

    -- it makes something, with a tail that was read
    ends-made : (n : ℕ) (tail : Found) (between : Local Unit Unit) → Keeps n local between
        → FromHome (between_items (p + 1 + item_length tail) Nothing false ((events ++ end_events) ++ item_events g.bytes (tail, take (item_length tail) ss)) between) (Next LabelEndOk)
        → AddsBracket defined g text (n + 1) (without_last true (kept local)) p ended events local (s ∷ ss) (label_end tail)
    ends-made n tail between keeps leads =
        let at = at-front text.seats p s ss here in
        let k = item_length tail in
        let after = with_starts (without_last true (kept between)) (counts between) in
        let starts : kept between ≡ kept local = ap (λ (r : Remembered). r.starts) keeps.same in
        let made = (events ++ end_events) ++ item_events g.bytes (tail, take k ss) in
        let more : 1 + k ≡ suc k = omega arith in
        let place : p + 1 + k ≡ p + (1 + k) = omega arith in
        let l = drop (p + 1 + k) text.seats in
        let cut : take (1 + k) (s ∷ ss) ≡ s ∷ take k ss = ap (λ k. take k (s ∷ ss)) more in
        let whole : end_events ++ item_events g.bytes (tail, take k ss) ≡ item_events g.bytes (label_end tail, s ∷ take k ss) =
        ap (λ o. (event g.bytes Enter LabelEnd (point_or text.end o) ∷ event g.bytes Enter LabelMarker (point_or text.end o) ∷ event g.bytes Exit LabelMarker (end_or text.end o) ∷ event g.bytes Exit LabelEnd (end_or text.end o) ∷ []) ++ item_events g.bytes (tail, take k ss)) at in
        let same : made ≡ events ++ item_events g.bytes (label_end tail, take (1 + k) (s ∷ ss)) =
        append_assoc events end_events (item_events g.bytes (tail, take k ss)) ∙ ap (λ es. events ++ es) whole ∙ ap (λ xs. events ++ item_events g.bytes (label_end tail, xs)) (sym cut) in (
          false,
          after,
          record { calls = omega (arith, keeps.calls); same = ap unstarted keeps.same; starts_are = ap (without_last true) starts },
          λ es h.
              leads es
              (goes-next g text m l [] (p + 1 + k) made between [] LabelEndOk refl es
              (leads-row g text m (row (write (waits_less true) ∷ []) (Retry TextBefore)) (shows l [] (p + 1 + k) made between) [] LabelEndOk es refl
              (goes-back g text m l [] (p + 1 + k) made after [] TextBefore refl es
              (subst (λ q. EndsWith g text m (between_items q Nothing false made after) [] (Next TextBefore) es) (sym place)
              (subst (λ xs. EndsWith g text m (between_items (p + (1 + k)) Nothing false xs after) [] (Next TextBefore) es) (sym same) h))))),
        )

    -- What is read, by the tail that is there, in at most so many calls
    abbrev pub EndRead : Option Found → Type 0
    EndRead None = (n : ℕ) × (n ≤ look_calls (bytes_of ss)) × AddsBracket defined g text n (without_last false (kept local)) p ended events local (s ∷ ss) lone_end
    EndRead (Some tail) =
        (n : ℕ) × (n ≤ look_calls (bytes_of ss) + (4 * item_length tail + 8)) × AddsBracket defined g text n (without_last true (kept local)) p ended events local (s ∷ ss) (label_end tail)

    -- ---- with no full reference behind it
    module _ (from : Local Unit Unit) (n : ℕ) (keeps : Keeps n local from) (few : n ≤ 4 * resource_look (bytes_of ss) + (2 * full_reference_look (bytes_of ss) + 7)) (leads : FromHome (between_items p Byte ended events from) (Retry LabelEndReferenceNotFull)) where
      abbrev k : Configuration Unit Unit
      k = between_items p Byte ended events from

      abbrev alone : Rows Unit Unit
      alone = row [] (Retry LabelEndNok)

      abbrev by_own : Rows Unit Unit
      by_own = when (own_label_is_defined defined) (reads_end LabelEndAfter) alone

      -- whether the bracket's own label is defined
      abbrev own_so : Bool
      own_so = has_own_label defined (bytes_before g.bytes (s ∷ ss)) events (reverse (kept from))

      own-tested : IsText g text → own_label_is_defined defined g (sight g text k) (record k { local = counts from }) ≡ own_so
      own-tested is = ap (λ doc. has_own_label defined doc events (reverse (kept from))) (read-before g text is p s ss here)

      nothing-made : HasRow g text m.step k LabelEndReferenceNotFull alone → EndRead None
      nothing-made has =
          let calls = keeps.calls in
          let once : Keeps (n + 1) local (counts from) = record { calls = omega (arith, calls); same = keeps.same } in
          (n + 1 + 1, omega (arith, few), ends-lone (n + 1) (counts from) once (λ es h. leads es (leads-row g text m alone k [] LabelEndReferenceNotFull es has h)))

      made-by-own : HasRow g text m.step k LabelEndReferenceNotFull (reads_end LabelEndAfter) → EndRead (Some (own_tail (bytes_of ss)))
      made-by-own has =
          let calls = keeps.calls in
          let once : Keeps (n + 1) local (counts from) = record { calls = omega (arith, calls); same = keeps.same } in
          let read = own-tail-read (p + 1) (events ++ end_events) (counts from) ss (drop-next text.seats p s ss here) in
          let tail = own_tail (bytes_of ss) in
          let all : Keeps (n + 1 + 3) local read.0 = keeps-more (n + 1) 3 local (counts from) read.0 once read.1 in (
            n + 1 + 3 + 1,
            omega (arith, few),
            ends-made (n + 1 + 3) tail read.0 all
                (λ es h.
                leads es
                (end-read LabelEndReferenceNotFull LabelEndAfter from [] has es
                (goes-back g text m ss [] (p + 1) (events ++ end_events) (counts from) [] LabelEndAfter (drop-next text.seats p s ss here) es (read.2 es h)))),
          )

      -- it is decided by whether a label is there, and then by the own label
      not-full : IsText g text → (there own : Bool) → noted from ≡ flag there → own_so ≡ own → EndRead (cond (not there && own) (Some (own_tail (bytes_of ss))) None)
      not-full is true own note is_own = nothing-made (tested g text label_is_there alone by_own k true (noted-is from true note))
      not-full is false true note is_own =
          made-by-own (tested g text label_is_there alone by_own k false (noted-is from false note) ∙ tested g text (own_label_is_defined defined) (reads_end LabelEndAfter) alone k true (own-tested is ∙ is_own))
      not-full is false false note is_own =
          nothing-made (tested g text label_is_there alone by_own k false (noted-is from false note) ∙ tested g text (own_label_is_defined defined) (reads_end LabelEndAfter) alone k false (own-tested is ∙ is_own))

    -- ---- with no resource behind it
    abbrev reference_behind : Option Found
    reference_behind = (full_reference_grammar (is_wanted_from defined g text (p + 1 + 1))).front (bytes_of ss)

    abbrev own_behind : Option Found
    own_behind = cond (not (is_some (label_length (bytes_of ss))) && has_own_label defined (bytes_before g.bytes (s ∷ ss)) events (reverse (kept local))) (Some (own_tail (bytes_of ss))) None

    not-resource : (is : IsText g text) → (from : Local Unit Unit) (n : ℕ) → Keeps n local from → n ≤ 4 * resource_look (bytes_of ss) + 4 → FromHome (between_items p Byte ended events from) (Retry LabelEndNotResource) → (o : Option Found)
        → FollowsReference g text m (label_is_wanted defined) (inlines_play_full_references defined g text) (is_wanted_from defined g text) (label-told defined g text is) (reference_calls_for (bytes_of ss) o) (Next LabelEndOk) (Next LabelEndReferenceNotFull) [] p ended events [] (p + 1) (events ++ end_events) ss
        (behind ss (counts (counts from))) (label_there (bytes_of ss)) o
        → EndRead (option_or o own_behind)
    not-resource is from n keeps few leads None d =
        let between = d.0 in
        let calls = keeps.calls in
        let look = d.1.calls in
        let all : Keeps (n + 2 * full_reference_look (bytes_of ss) + 3) local between = record { calls = omega (arith, calls, look); same = ap remembered d.1.same ∙ keeps.same } in
        let starts : kept between ≡ kept local = ap (λ (r : Remembered). r.starts) all.same in
        let room : n + 2 * full_reference_look (bytes_of ss) + 3 ≤ 4 * resource_look (bytes_of ss) + (2 * full_reference_look (bytes_of ss) + 7) = omega (arith, few) in
        let own = has_own_label defined (bytes_before g.bytes (s ∷ ss)) events (reverse (kept between)) in
        subst (λ ls. EndRead (cond (not (label_there (bytes_of ss)) && has_own_label defined (bytes_before g.bytes (s ∷ ss)) events (reverse ls)) (Some (own_tail (bytes_of ss))) None)) starts
        (not-full between (n + 2 * full_reference_look (bytes_of ss) + 3) all room
        (λ es h. leads es (end-tried LabelEndNotResource LabelEndReferenceStart LabelEndReferenceFull LabelEndReferenceNotFull from refl refl es (d.3 es (goes-fed g text m.step (s ∷ ss) [] p ended events between [] LabelEndReferenceNotFull here es h))))
        is (label_there (bytes_of ss)) own d.2 refl)
    not-resource is from n keeps few leads (Some tail) d =
        let between = d.0 in
        let k = item_length tail in
        let calls = keeps.calls in
        let look = d.1.calls in
        let all : Keeps (n + 2 * k + 2) local between = record { calls = omega (arith, calls, look); same = ap remembered d.1.same ∙ keeps.same } in (
          n + 2 * k + 2 + 1,
          omega (arith, few),
          ends-made (n + 2 * k + 2) tail between all (λ es h. leads es (end-tried LabelEndNotResource LabelEndReferenceStart LabelEndReferenceFull LabelEndReferenceNotFull from refl refl es (d.2 es h))),
        )

    -- ---- and whole
    end-decided : IsText g text → begins_end g.options.constructs s.byte ≡ true → may_make (reverse (kept local)) ≡ true → (o : Option Found)
        → Follows g text m (inlines_play_resources defined g text) (calls_for (bytes_of ss) o) (Next LabelEndOk) (Next LabelEndNotResource) [] p ended events [] (p + 1) (events ++ end_events) ss (behind ss (counts (counts local))) o
        → EndRead (option_or o (option_or reference_behind own_behind))
    end-decided is ends may None d =
        let at = at-front text.seats p s ss here in
        let between = d.0 in
        let look = d.1.calls in
        let all : Keeps (4 * resource_look (bytes_of ss) + 4) local between = record { calls = omega (arith, look); same = ap remembered d.1.same } in
        not-resource is between (4 * resource_look (bytes_of ss) + 4) all (omega arith)
        (λ es h.
        end-tried TextBefore LabelEndStart LabelEndResourceStart LabelEndNotResource local (ends-make defined g text (between_items p Byte ended events local) s.byte (ap byte_of at) ends may) refl es
        (d.2 es (goes-fed g text m.step (s ∷ ss) [] p ended events between [] LabelEndNotResource here es h)))
        reference_behind
        (references-follow g text m (label_is_wanted defined) (inlines_play_full_references defined g text) (is_wanted_from defined g text) (label-told defined g text is) (Next LabelEndOk) (Next LabelEndReferenceNotFull) [] p ended events end_events [] (p + 1) (counts (counts between)) ss
        (drop-next text.seats p s ss here))
    end-decided is ends may (Some tail) d =
        let at = at-front text.seats p s ss here in
        let between = d.0 in
        let look = d.1.calls in
        let k = item_length tail in
        let all : Keeps (4 * k + 3) local between = record { calls = omega (arith, look); same = ap remembered d.1.same } in (
          4 * k + 3 + 1,
          omega arith,
          ends-made (4 * k + 3) tail between all
              (λ es h. end-tried TextBefore LabelEndStart LabelEndResourceStart LabelEndNotResource local (ends-make defined g text (between_items p Byte ended events local) s.byte (ap byte_of at) ends may) refl es (d.2 es h)),
        )

    -- So a `]` is read that may make something: what is remembered is as it is kept, and where it stands
    pub reads-end : IsText g text → (b : Bracket) (bs : List Bracket) (q : Memory) → AreKeptAs false (b ∷ bs) (reverse (kept local)) → q.events ≡ events → q.ahead ≡ s ∷ ss → begins_end g.options.constructs s.byte ≡ true
        → may_make (reverse (kept local)) ≡ true → EndRead (tail_of defined g.bytes b q (bytes_of ss))
    reads-end is b bs q keeps events_are ahead_is ends may =
        let wanted : is_wanted_from defined g text (p + 1 + 1) ≡ is_wanted_at defined g.bytes q.ahead = wanted-is defined g text p ∙ ap (is_wanted_at defined g.bytes) (here ∙ sym ahead_is) in
        let own : has_own_label defined (bytes_before g.bytes (s ∷ ss)) events (reverse (kept local)) ≡ own_is_defined defined g.bytes b q =
        own-kept defined (bytes_before g.bytes (s ∷ ss)) events b bs (reverse (kept local)) keeps ∙ (λ i. is_own_label defined (bytes_before g.bytes (sym ahead_is i)) (drop b.count (sym events_are i))) in
        subst EndRead
        (λ i. option_or (resource_grammar.front (bytes_of ss)) (option_or ((full_reference_grammar (wanted i)).front (bytes_of ss)) (cond (not (is_some (label_length (bytes_of ss))) && own i) (Some (own_tail (bytes_of ss))) None)))
        (end-decided is ends may (resource_grammar.front (bytes_of ss))
        (resources-follow g text m (inlines_play_resources defined g text) (Next LabelEndOk) (Next LabelEndNotResource) [] p ended events end_events [] (p + 1) (counts (counts local)) ss (drop-next text.seats p s ss here)))
