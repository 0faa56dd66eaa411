-- How a machine reads resources: if one is there, it is read whole, with its events; if not, what was tried leaves nothing. And within how many calls.
use Rattle.mdinline_link_tails.proofs.Prelude.{◌≡◌, ℕ, ◌+◌, ◌*◌, ◌==◌, List, [], ◌∷◌, ◌++◌, Bool, true, false, cond, Option, Some, None, refl, sym, ap, ◌∙◌, subst, arith, take, drop, length, length-append, length-drop, length-map, drop-next, append_assoc, take-take, take_at, Event, Enter, Exit, EventName, Resource, ResourceMarker, Next, Retry, Nok, Name, LabelEndResourceBefore, LabelEndResourceStart, Seat, Given, Text, Byte, Nothing, Choice, Configuration, Local, at-front, end_or, held, point_or, shows, counts, goes-next, EndsWith, Leads, Plays, between_items, leads-row, Found, item_length, bytes_of, row, write, enter, consume, exit}
use Rattle.std.proofs.Math.Seq.{take-length}
use Rattle.std.specs.Prelude.{min, option_map}
use Rattle.markdown_tokenizer.specs.declared.waiting.Waits.{Waits}
use Rattle.markdown_tokenizer.specs.declared.waiting.Waits.TheVariants.{End}
use Rattle.markdown_base.specs.declared.state.State.{State}
use Rattle.markdown_tokenizer.specs.declared.waiting.AttemptKind.TheVariants.{Attempt}
use Rattle.mdconstructs_machines.specs.Spans.{event}
use Rattle.mdinline_labels.specs.Resources.{resource_with}
use Rattle.mdinline_labels.specs.Tails.{destination_size, gap}
use Rattle.mdinline_text_machine.proofs.Constructs.Listed.{outer}
use Rattle.mdinline_text_machine.proofs.Plain.Items.{DecidesIn, ReadsIn}
use Rattle.mdinline_text_machine.proofs.Texts.Steps.{leads-nok, leads-ok}
use Rattle.mdinline_text_machine.specs.Construct.{Between}
use Rattle.mdinline_text_machine.specs.TextEvents.{item_events}
use Rattle.mdinline_link_tails.specs.Resource.{resource, resource_grammar}
use Rattle.mdinline_link_tails.specs.ResourceLooks.{destination_look, resource_look}
use Rattle.mdinline_link_tails.specs.ResourceRows.{resource_start_rows, resources, stands_before_is}
use Rattle.mdinline_link_tails.proofs.Resources.Destinations.{reads-inside}
use Rattle.mdinline_link_tails.proofs.Resources.Ends.{opened}
use Rattle.mdinline_link_tails.proofs.Resources.Gaps.{in_resource_only}
use Rattle.mdinline_link_tails.proofs.Resources.Steps.{PlaysResources, Does, yes, no, here-at, seen, enters_at, exits_past, Finds, further}
use Rattle.mdinline_link_tails.proofs.Resources.Touched.{Touches, touched, touched-after, touched-call}
use Rattle.mdinline_link_tails.proofs.Resources.WholeTitles.{with_stop}

-- How many calls are made at a place: four for each byte of the resource that is there; or four for each byte that is left and that the look passes, and
-- one more
abbrev pub calls_for : List ℕ → Option Found → ℕ
calls_for bytes None = 4 * min (length bytes) (resource_look bytes) + 1
calls_for bytes (Some item) = 4 * item_length item

abbrev pub resource_calls : List ℕ → ℕ
resource_calls bytes = calls_for bytes (resource_grammar.front bytes)

-- An attempt that was made at a place, with these events so far
abbrev pub attempt : (ok nok : State) (stack : List EventName) (p : ℕ) (ended : Bool) (events : List Event) → Choice
attempt ok nok stack p ended events = record { kind = Attempt; ok = ok; nok = nok; saved = Some (record { position = p; ended = ended; events = length events; stack = stack }) }

module _ (g : Given) (text : Text) (m : Plays g text) (r : PlaysResources g text m) where
  -- ---- what is found
  fails-start : (cs : List Choice) (p : ℕ) (waits : Waits) (ended : Bool) (events : List Event) (l : List Seat) (local : Local Unit Unit) → drop p text.seats ≡ l
      → Does g text m (held [] p waits ended events local) LabelEndResourceStart (row [] Nok)
      → Finds g text m cs p (p + resource_look (bytes_of l)) events l (4 * length l + 1) (held [] p waits ended events local) LabelEndResourceStart None
  fails-start cs p waits ended events l local at has = (
    held [] p waits ended events (counts local),
    record { calls = (let once = touched-call local in omega (arith, once.calls, length-drop p text.seats, ap length at)); same = refl },
    take-length events,
    λ e h. leads-row g text m (row [] Nok) (held [] p waits ended events local) cs LabelEndResourceStart e has.row_is h,
  )

  -- from a byte on
  reads-byte : (cs : List Choice) (p : ℕ) (ended : Bool) (events : List Event) (local : Local Unit Unit) (s : Seat) (ss : List Seat) → drop p text.seats ≡ s ∷ ss
      → Finds g text m cs p (p + resource_look (bytes_of (s ∷ ss))) events (s ∷ ss) (4 * length (s ∷ ss) + 1) (held [] p Byte ended events local) LabelEndResourceStart (resource_grammar.front (bytes_of (s ∷ ss)))
  reads-byte cs p ended events local s ss at =
      let all = s ∷ ss in
      let far = p + resource_look (bytes_of all) in
      let n = 4 * length all + 1 in
      let k = held [] p Byte ended events local in
      let size = destination_size (drop (1 + gap (bytes_of ss)) (bytes_of all)) in
      let there = λ (c : Bool). option_map resource (cond c (resource_with (bytes_of all) (1 + gap (bytes_of ss)) size) None) in
      let has = here-at g text m resource_start_rows LabelEndResourceStart [] p ended events local s ss at r.start in
      elim (s.byte == 40) as (λ t. (s.byte == 40) ≡ t → Finds g text m cs p far events all n k LabelEndResourceStart (there t)) [
        | true ↦ λ e.
            let after = with_stop 0 (counts local) in
            let opening = opened g text m r cs p far events s ss at in
            let enter1 = enters_at g text Resource p ∷ [] in
            let enter2 = enters_at g text ResourceMarker p ∷ [] in
            let exit2 = exits_past g text ResourceMarker p ∷ [] in
            let made : ((events ++ enter1) ++ enter2) ++ exit2 ≡ events ++ opening =
            append_assoc (events ++ enter1) enter2 exit2 ∙ append_assoc events enter1 (enter2 ++ exit2)
            ∙ ap (λ o. events ++ event g.bytes Enter Resource (point_or text.end o) ∷ event g.bytes Enter ResourceMarker (point_or text.end o) ∷ event g.bytes Exit ResourceMarker (end_or text.end o) ∷ []) (at-front text.seats p s ss at) in
            let rows = row (write (stands_before_is 0) ∷ enter Resource ∷ enter ResourceMarker ∷ consume ∷ exit ResourceMarker ∷ []) (Next LabelEndResourceBefore) in
            let does = yes g text m k LabelEndResourceStart has (seen g text m (λ c. c == 40) true p s ss at e) in
            further g text m cs p far events all 1 (4 * length ss + 3) n k (shows ss in_resource_only (p + 1) (events ++ opening) after) LabelEndResourceStart LabelEndResourceBefore (there true) (omega arith) (touched local after refl refl)
            (λ es h.
            leads-row g text m rows k cs LabelEndResourceStart es does.row_is
            (subst (λ l. EndsWith g text m (held in_resource_only (p + 1) Nothing false l after) cs (Next LabelEndResourceBefore) es) (sym made)
            (goes-next g text m ss in_resource_only (p + 1) (events ++ opening) after cs LabelEndResourceBefore (drop-next text.seats p s ss at) es h)))
            (reads-inside g text m r cs p far events s ss at after refl
            (λ none.
            let from = 1 + gap (bytes_of ss) in
            let look : resource_look (bytes_of all) ≡ from + destination_look (drop from (bytes_of all)) = ap (λ c. cond c (from + destination_look (drop from (bytes_of all))) 0) e in
            omega (arith, look)))
        | false ↦ λ e.
            fails-start cs p Byte ended events all local at (no g text m k LabelEndResourceStart has (seen g text m (λ c. c == 40) false p s ss at e))
      ] refl

  -- ---- and what follows it
  -- An attempt is decided, within so many calls, and of what states share only what `Touches` says is written: if a resource is there, what follows is the
  -- first state of the attempt, behind the resource, with its events behind those so far; if not, the other one, where all is as it was when the attempt was made
  abbrev pub Follows : (n : ℕ) (ok nok : State) (stack : List EventName) (place : ℕ) (ended : Bool) (before : List Event) (cs : List Choice) (p : ℕ) (events : List Event) → List Seat → Configuration Unit Unit → Option Found → Type 0
  Follows n ok nok stack place ended before cs p events seats k None =
      (after : Local Unit Unit) × Touches n k.local after
      × Leads g text m k (attempt ok nok stack place ended before ∷ cs) (Retry LabelEndResourceStart) (held stack place Nothing ended before after) cs nok
  Follows n ok nok stack place ended before cs p events seats k (Some item) =
      (after : Local Unit Unit) × Touches n k.local after
      × Leads g text m k (attempt ok nok stack place ended before ∷ cs) (Retry LabelEndResourceStart)
      (between_items (p + item_length item) Nothing false (events ++ item_events g.bytes (item, take (item_length item) seats)) after) cs ok

  follows : (ok nok : State) (stack : List EventName) (place : ℕ) (ended : Bool) (before : List Event) (cs : List Choice) (p : ℕ) (events : List Event) (seats : List Seat) (k : Configuration Unit Unit) (o : Option Found)
      → drop p text.seats ≡ seats → ((es : List Event) → take (length events) es ≡ events → take (length before) es ≡ before)
      → Finds g text m (attempt ok nok stack place ended before ∷ cs) p (p + resource_look (bytes_of seats)) events seats (4 * length seats + 1) k LabelEndResourceStart o → Follows (calls_for (bytes_of seats) o) ok nok stack place ended before cs p events seats k o
  follows ok nok stack place ended before cs p events seats k None at kept d =
      let now = d.0 in
      let c = attempt ok nok stack place ended before in
      let same : length (bytes_of seats) ≡ length seats = length-map seats (λ y. y.byte) in (
        now.local,
        record { calls = omega (arith, same, d.1.calls, length-drop p text.seats, ap length at); same = d.1.same },
        λ e h. d.3 e (leads-nok g text m now c cs e (subst (λ es. EndsWith g text m (held stack place Nothing ended es now.local) cs nok e) (sym (kept now.events d.2)) h)),
      )
  follows ok nok stack place ended before cs p events seats k (Some item) at kept d =
      let size = item_length item in
      let after = d.0 in
      let c = attempt ok nok stack place ended before in (
        after,
        record { calls = omega (arith, d.1.calls, length-drop size seats); same = d.1.same },
        λ e h. d.2 e (leads-ok g text m (between_items (p + size) Nothing false (events ++ item_events g.bytes (item, take size seats)) after) c cs e h),
      )

  -- The theorem of resources, where an attempt waits that was made at any place before, with any of the events so far
  pub resources-follow : (ok nok : State) (stack : List EventName) (place : ℕ) (ended : Bool) (before more : List Event) (cs : List Choice) (p : ℕ) (local : Local Unit Unit) (l : List Seat) → drop p text.seats ≡ l
      → Follows (resource_calls (bytes_of l)) ok nok stack place ended before cs p (before ++ more) l (shows l [] p (before ++ more) local) (resource_grammar.front (bytes_of l))
  resources-follow ok nok stack place ended before more cs p local l at =
      let events = before ++ more in
      let kept = λ (es : List Event) (h : take (length events) es ≡ events).
      sym (take-take (length before) (length events) es (omega (arith, length-append before more))) ∙ ap (take (length before)) h ∙ take_at before more (length before) refl in
      elim l as (λ l. drop p text.seats ≡ l → Follows (resource_calls (bytes_of l)) ok nok stack place ended before cs p events l (shows l [] p events local) (resource_grammar.front (bytes_of l))) [
        | [] ↦ λ at.
            follows ok nok stack place ended before cs p events [] (shows [] [] p events local) None at kept
            (fails-start (attempt ok nok stack place ended before ∷ cs) p End true events [] local at (record { row_is = r.start (shows [] [] p events local) }))
        | s ∷ ss ↦ λ at.
            follows ok nok stack place ended before cs p events (s ∷ ss) (shows (s ∷ ss) [] p events local) (resource_grammar.front (bytes_of (s ∷ ss))) at kept
            (reads-byte (attempt ok nok stack place ended before ∷ cs) p false events local s ss at)
      ] at

  in-frame : (names : Between) (n : ℕ) (nok : Name) (p : ℕ) (ended : Bool) (events : List Event) (seats : List Seat) (k : Configuration Unit Unit) (o : Option Found) → Follows n (Next names.home) (Next nok) [] p ended events [] p events seats k o
      → DecidesIn g text m names n nok p ended events seats k (outer names.home nok p ended events ∷ []) (Retry LabelEndResourceStart) o
  in-frame names n nok p ended events seats k None d = (d.0, touched-after n k.local d.0 d.1, d.2)
  in-frame names n nok p ended events seats k (Some item) d = (false, d.0, touched-after n k.local d.0 d.1, d.2)

  -- The same as a construct in a list of constructs
  pub resources-read-in : (names : Between) → ReadsIn g text m names resource_calls resources
  resources-read-in names nok p ended events local s ss at first =
      let all = s ∷ ss in
      let k = between_items p Byte ended events local in
      let d = follows (Next names.home) (Next nok) [] p ended events [] p events all k (resource_grammar.front (bytes_of all)) at (λ es h. h) (reads-byte (outer names.home nok p ended events ∷ []) p ended events local s ss at) in
      in-frame names (resource_calls (bytes_of all)) nok p ended events all k (resource_grammar.front (bytes_of all)) d
