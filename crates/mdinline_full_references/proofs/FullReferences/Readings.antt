-- How a machine reads full references: if a label is there that is wanted, it is read whole, with its events; if not, what was tried leaves nothing but a note
-- of whether a label is there. And within how many calls.
use Rattle.mdinline_full_references.proofs.Prelude.{◌≡◌, ℕ, ◌+◌, ◌*◌, ◌==◌, ◌||◌, ◌&&◌, List, [], ◌∷◌, ◌++◌, Bool, true, false, cond, Option, Some, None, refl, sym, ap, ◌∙◌, subst, arith, take, drop, length, length-append, length-drop, length-map, drop-next, append_assoc, take-take, take-length, take_at, option_and_then, Event, Enter, Exit, EventName, Reference, ReferenceMarker, Next, Retry, Nok, LabelEndReferenceFull, LabelStart, Seat, Sight, Given, Text, Byte, Nothing, Choice, Configuration, Local, at-front, end_or, held, point_or, shows, counts, goes-next, EndsWith, Leads, Plays, between_items, leads-row, Found, item_length, bytes_of, byte_of, row, when, write, enter, consume, exit, before_class, class_of, row_step, text_byte}
use Rattle.std.specs.Prelude.{is_some, min}
use Rattle.markdown_tokenizer.specs.declared.waiting.Waits.{Waits}
use Rattle.markdown_tokenizer.specs.declared.waiting.Waits.TheVariants.{End}
use Rattle.markdown_base.specs.declared.state.State.{State}
use Rattle.mdconstructs_machines.specs.Spans.{event}
use Rattle.mdinline_labels.specs.Labels.{hides, is_label}
use Rattle.mdinline_labels.specs.Tails.{bare_behind, begins_with, is_plain, label_size, marked_size, one_more}
use Rattle.mdinline_text_machine.proofs.Texts.Steps.{leads-nok, leads-ok}
use Rattle.mdinline_text_machine.specs.TextEvents.{item_events}
use Rattle.mdinline_link_tails.proofs.Resources.Readings.{attempt}
use Rattle.mdinline_link_tails.proofs.Resources.Steps.{Does, yes, no, seen, enters_at, exits_past}
use Rattle.mdinline_link_tails.proofs.Resources.Touched.{Touches, touched, touched-call}
use Rattle.mdinline_link_tails.specs.ResourceLooks.{marked_look}
use Rattle.mdinline_link_tails.specs.ResourceRows.{waits}
use Rattle.mdinline_full_references.specs.FullReference.{full_reference, full_reference_grammar, label_length, label_text}
use Rattle.mdinline_full_references.specs.FullReferenceLooks.{full_reference_look, label_look}
use Rattle.mdinline_full_references.specs.FullReferenceRows.{label_begins, label_noted, reference_start_rows}
use Rattle.mdinline_full_references.proofs.FullReferences.Counts.{flag}
use Rattle.mdinline_full_references.proofs.FullReferences.Steps.{Finds, PlaysReferences, further, noted}
use Rattle.mdinline_full_references.proofs.FullReferences.WholeLabels.{Tells, found_of, opened, reads-whole-label, with_noted}

-- How many calls are made at a place: two for each byte of the reference that is there; or two for each byte that is left and that the look passes, and
-- one more
abbrev pub calls_for : List ℕ → Option Found → ℕ
calls_for bytes None = 2 * min (length bytes) (full_reference_look bytes) + 1
calls_for bytes (Some item) = 2 * item_length item

abbrev pub reference_calls : (List ℕ → Bool) → List ℕ → ℕ
reference_calls is_wanted bytes = calls_for bytes ((full_reference_grammar is_wanted).front bytes)

-- whether a label is there
abbrev pub label_there : List ℕ → Bool
label_there bytes = is_some (label_length bytes)

-- a look at a label that is there passes all of it
look-is : (bare hidden : Bool) (bs : List ℕ) (i : ℕ) → marked_size 91 93 bare hidden bs ≡ Some i → marked_look 91 93 bare hidden bs ≡ i
look-is bare hidden [] i h = absurd (cc)
look-is bare hidden (b ∷ bs) i h =
    let more = marked_size 91 93 (bare_behind bare b) (hides hidden b) bs in
    let look = marked_look 91 93 (bare_behind bare b) (hides hidden b) bs in
    elim (is_plain 93 hidden b) as (λ t. cond t (Some 0) (cond (is_plain 91 hidden b || (bare && (b == 10))) None (one_more more)) ≡ Some i → cond t 0 (cond (is_plain 91 hidden b || (bare && (b == 10))) 0 (1 + look)) ≡ i) [
      | true ↦ λ e. (let none : 0 ≡ i = cc in none)
      | false ↦ elim (is_plain 91 hidden b || (bare && (b == 10))) as (λ t. cond t None (one_more more) ≡ Some i → cond t 0 (1 + look) ≡ i) [
        | true ↦ λ e. absurd (cc)
        | false ↦
            elim more as (λ o. more ≡ o → one_more o ≡ Some i → 1 + look ≡ i) [
              | None ↦ λ is e. absurd (cc)
              | Some n ↦ λ is e. (let same : n + 1 ≡ i = cc in omega (arith, same, look-is (bare_behind bare b) (hides hidden b) bs n is))
            ] refl
      ]
    ] h

-- What is at the front of a text: maybe a label, and if it is wanted, a reference
abbrev answer : (is_wanted : List ℕ → Bool) → List ℕ → Option (Option Found)
answer is_wanted text = cond (begins_with 91 text) (option_and_then (found_of is_wanted (drop 1 text)) (label_size (drop 1 text))) None

abbrev reference_of : Option (Option Found) → Option Found
reference_of o = option_and_then (λ r. r) o

front-is : (is_wanted : List ℕ → Bool) (text : List ℕ) → reference_of (answer is_wanted text) ≡ (full_reference_grammar is_wanted).front text
front-is is_wanted text =
    let bs = drop 1 text in
    let of_label = λ (n : ℕ). cond (is_label (take n bs)) (Some n) None in
    let taken = λ (n : ℕ). cond (is_wanted (label_text n text)) (Some (full_reference n)) None in
    elim (begins_with 91 text) as (λ t. reference_of (cond t (option_and_then (found_of is_wanted bs) (label_size bs)) None) ≡ option_and_then taken (cond t (option_and_then of_label (label_size bs)) None)) [
      | true ↦ elim (label_size bs) as (λ o. reference_of (option_and_then (found_of is_wanted bs) o) ≡ option_and_then taken (option_and_then of_label o)) [
        | None ↦ refl
        | Some n ↦ elim (is_label (take n bs)) as (λ t. reference_of (cond t (Some (taken n)) None) ≡ option_and_then taken (cond t (Some n) None)) [ true ↦ refl | false ↦ refl ]
      ]
      | false ↦ refl
    ]

there-is : (is_wanted : List ℕ → Bool) (text : List ℕ) → is_some (answer is_wanted text) ≡ label_there text
there-is is_wanted text =
    let bs = drop 1 text in
    let of_label = λ (n : ℕ). cond (is_label (take n bs)) (Some n) None in
    let taken = λ (n : ℕ). cond (is_wanted (label_text n text)) (Some (full_reference n)) None in
    elim (begins_with 91 text) as (λ t. is_some (cond t (option_and_then (found_of is_wanted bs) (label_size bs)) None) ≡ is_some (cond t (option_and_then of_label (label_size bs)) None)) [
      | true ↦ elim (label_size bs) as (λ o. is_some (option_and_then (found_of is_wanted bs) o) ≡ is_some (option_and_then of_label o)) [
        | None ↦ refl
        | Some n ↦ elim (is_label (take n bs)) as (λ t. is_some (cond t (Some (taken n)) None) ≡ is_some (cond t (Some n) None)) [ true ↦ refl | false ↦ refl ]
      ]
      | false ↦ refl
    ]

-- what is noted says whether a label is there
pub noted-is : (local : Local Unit Unit) (there : Bool) → noted local ≡ flag there → (noted local == 1) ≡ there
noted-is local true h = ap (λ n. n == 1) h
noted-is local false h = ap (λ n. n == 1) h

-- nothing of a label was read
abbrev begun : Local Unit Unit → Local Unit Unit
begun local = record local { tokenize_state = record local.tokenize_state { size_b = 0; marker = 0; marker_b = 0 } }

module _ (g : Given) (text : Text) (m : Plays g text) (wanted : Given → Sight → Configuration Unit Unit → Bool) (r : PlaysReferences g text m wanted) (is_wanted : ℕ → List ℕ → Bool) (told : Tells g text wanted is_wanted) where
  -- ---- what is found
  fails-start : (cs : List Choice) (p : ℕ) (waits : Waits) (ended : Bool) (events : List Event) (l : List Seat) (local : Local Unit Unit) → drop p text.seats ≡ l
      → Does g text m (held [] p waits ended events local) LabelEndReferenceFull (row (write (label_noted 0) ∷ []) Nok)
      → Finds g text m cs p (p + full_reference_look (bytes_of l)) events l (2 * length l + 1) (held [] p waits ended events local) LabelEndReferenceFull None
  fails-start cs p waits ended events l local at has = (
    held [] p waits ended events (with_noted 0 (counts local)),
    record { calls = (let once = touched-call local in omega (arith, once.calls, length-drop p text.seats, ap length at)); same = refl },
    take-length events,
    refl,
    λ e h. leads-row g text m (row (write (label_noted 0) ∷ []) Nok) (held [] p waits ended events local) cs LabelEndReferenceFull e has.row_is h,
  )

  -- from a byte on
  reads-byte : (cs : List Choice) (p : ℕ) (ended : Bool) (events : List Event) (local : Local Unit Unit) (s : Seat) (ss : List Seat) → drop p text.seats ≡ s ∷ ss
      → Finds g text m cs p (p + full_reference_look (bytes_of (s ∷ ss))) events (s ∷ ss) (2 * length (s ∷ ss) + 1) (held [] p Byte ended events local) LabelEndReferenceFull (answer (is_wanted (p + 1)) (bytes_of (s ∷ ss)))
  reads-byte cs p ended events local s ss at =
      let all = s ∷ ss in
      let far = p + full_reference_look (bytes_of all) in
      let n = 2 * length all + 1 in
      let k = held [] p Byte ended events local in
      let rest = option_and_then (found_of (is_wanted (p + 1)) (bytes_of ss)) (label_size (bytes_of ss)) in
      let rows = row (write label_begins ∷ enter Reference ∷ enter ReferenceMarker ∷ consume ∷ exit ReferenceMarker ∷ []) (Next LabelStart) in
      let none_rows = row (write (label_noted 0) ∷ []) Nok in
      let has : Does g text m k LabelEndReferenceFull (when (waits 91) rows none_rows) =
      record { row_is = r.start k ∙ ap (λ o. row_step g text k (reference_start_rows (before_class g text p) (class_of text_byte o))) (ap byte_of (at-front text.seats p s ss at)) } in
      elim (s.byte == 91) as (λ t. (s.byte == 91) ≡ t → Finds g text m cs p far events all n k LabelEndReferenceFull (cond t rest None)) [
        | true ↦ λ e.
            let after = begun (counts local) in
            let opening = opened g text m wanted r is_wanted told cs p far events s ss at in
            let enter1 = enters_at g text Reference p ∷ [] in
            let enter2 = enters_at g text ReferenceMarker p ∷ [] in
            let exit2 = exits_past g text ReferenceMarker p ∷ [] in
            let made : ((events ++ enter1) ++ enter2) ++ exit2 ≡ events ++ opening =
            append_assoc (events ++ enter1) enter2 exit2 ∙ append_assoc events enter1 (enter2 ++ exit2)
            ∙ ap (λ o. events ++ event g.bytes Enter Reference (point_or text.end o) ∷ event g.bytes Enter ReferenceMarker (point_or text.end o) ∷ event g.bytes Exit ReferenceMarker (end_or text.end o) ∷ []) (at-front text.seats p s ss at) in
            let does = yes g text m k LabelEndReferenceFull has (seen g text m (λ c. c == 91) true p s ss at e) in
            let look : full_reference_look (bytes_of all) ≡ 1 + label_look (bytes_of ss) = ap (λ c. cond c (1 + label_look (bytes_of ss)) 0) e in
            further g text m cs p far events all 1 (2 * length ss + 2) n k (shows ss (Reference ∷ []) (p + 1) (events ++ opening) after) LabelEndReferenceFull LabelStart rest (omega arith) (touched local after refl refl)
            (λ es h.
            leads-row g text m rows k cs LabelEndReferenceFull es does.row_is
            (subst (λ l. EndsWith g text m (held (Reference ∷ []) (p + 1) Nothing false l after) cs (Next LabelStart) es) (sym made)
            (goes-next g text m ss (Reference ∷ []) (p + 1) (events ++ opening) after cs LabelStart (drop-next text.seats p s ss at) es h)))
            (reads-whole-label g text m wanted r is_wanted told cs p far events s ss at after (record { none = refl; count = refl; full = refl }) ss refl (λ none. omega (arith, look)) (λ i is. omega (arith, look, look-is false false (bytes_of ss) i is)))
        | false ↦ λ e.
            fails-start cs p Byte ended events all local at (no g text m k LabelEndReferenceFull has (seen g text m (λ c. c == 91) false p s ss at e))
      ] refl

  -- ---- and what follows it
  -- An attempt is decided, within so many calls, and of what states share only what `Touches` says is written: if a full reference is there, what follows is
  -- the first state of the attempt, behind the reference, with its events behind those so far; if not, the other one, where all is as it was when the
  -- attempt was made, and it is noted whether a label is there
  abbrev pub Follows : (n : ℕ) (ok nok : State) (stack : List EventName) (place : ℕ) (ended : Bool) (before : List Event) (cs : List Choice) (p : ℕ) (events : List Event) → List Seat → Configuration Unit Unit → (there : Bool) → Option Found → Type 0
  Follows n ok nok stack place ended before cs p events seats k there None =
      (after : Local Unit Unit) × Touches n k.local after × (noted after ≡ flag there)
      × Leads g text m k (attempt ok nok stack place ended before ∷ cs) (Retry LabelEndReferenceFull) (held stack place Nothing ended before after) cs nok
  Follows n ok nok stack place ended before cs p events seats k there (Some item) =
      (after : Local Unit Unit) × Touches n k.local after
      × Leads g text m k (attempt ok nok stack place ended before ∷ cs) (Retry LabelEndReferenceFull)
      (between_items (p + item_length item) Nothing false (events ++ item_events g.bytes (item, take (item_length item) seats)) after) cs ok

  module _ (ok nok : State) (stack : List EventName) (place : ℕ) (ended : Bool) (before : List Event) (cs : List Choice) (p : ℕ) (events : List Event) (seats : List Seat) (k : Configuration Unit Unit) (at : drop p text.seats ≡ seats)
      (kept : (es : List Event) → take (length events) es ≡ events → take (length before) es ≡ before) where
    abbrev c : Choice
    c = attempt ok nok stack place ended before

    abbrev far : ℕ
    far = p + full_reference_look (bytes_of seats)

    abbrev Here : Option Found → (there : Bool) → Type 0
    Here o there = Follows (calls_for (bytes_of seats) o) ok nok stack place ended before cs p events seats k there o

    abbrev Found_here : Option (Option Found) → Type 0
    Found_here o = Finds g text m (c ∷ cs) p far events seats (2 * length seats + 1) k LabelEndReferenceFull o

    same_length : length (bytes_of seats) ≡ length seats
    same_length = length-map seats (λ y. y.byte)

    follows : (o : Option (Option Found)) → Found_here o → Here (reference_of o) (is_some o)
    follows None d =
        let now = d.0 in (
          now.local,
          record { calls = omega (arith, same_length, d.1.calls, length-drop p text.seats, ap length at); same = d.1.same },
          d.3,
          λ e h. d.4 e (leads-nok g text m now c cs e (subst (λ es. EndsWith g text m (held stack place Nothing ended es now.local) cs nok e) (sym (kept now.events d.2)) h)),
        )
    follows (Some None) d =
        let now = d.0 in (
          now.local,
          record { calls = omega (arith, same_length, d.1.calls, length-drop p text.seats, ap length at); same = d.1.same },
          d.3,
          λ e h. d.4 e (leads-nok g text m now c cs e (subst (λ es. EndsWith g text m (held stack place Nothing ended es now.local) cs nok e) (sym (kept now.events d.2)) h)),
        )
    follows (Some (Some item)) d =
        let size = item_length item in
        let after = d.0 in (
          after,
          record { calls = omega (arith, d.1.calls, length-drop size seats); same = d.1.same },
          λ e h. d.2 e (leads-ok g text m (between_items (p + size) Nothing false (events ++ item_events g.bytes (item, take size seats)) after) c cs e h),
        )

    follows-so : Found_here (answer (is_wanted (p + 1)) (bytes_of seats)) → Here ((full_reference_grammar (is_wanted (p + 1))).front (bytes_of seats)) (label_there (bytes_of seats))
    follows-so d =
        subst (λ t. Here ((full_reference_grammar (is_wanted (p + 1))).front (bytes_of seats)) t) (there-is (is_wanted (p + 1)) (bytes_of seats))
        (subst (λ o. Here o (is_some (answer (is_wanted (p + 1)) (bytes_of seats)))) (front-is (is_wanted (p + 1)) (bytes_of seats)) (follows (answer (is_wanted (p + 1)) (bytes_of seats)) d))

  -- The theorem of full references, where an attempt waits that was made at any place before, with any of the events so far. Which labels are wanted may
  -- depend on the place where the label begins, behind the `[`
  pub references-follow : (ok nok : State) (stack : List EventName) (place : ℕ) (ended : Bool) (before more : List Event) (cs : List Choice) (p : ℕ) (local : Local Unit Unit) (l : List Seat) → drop p text.seats ≡ l
      → Follows (reference_calls (is_wanted (p + 1)) (bytes_of l)) ok nok stack place ended before cs p (before ++ more) l (shows l [] p (before ++ more) local) (label_there (bytes_of l)) ((full_reference_grammar (is_wanted (p + 1))).front (bytes_of l))
  references-follow ok nok stack place ended before more cs p local l at =
      let events = before ++ more in
      let kept = λ (es : List Event) (h : take (length events) es ≡ events).
      sym (take-take (length before) (length events) es (omega (arith, length-append before more))) ∙ ap (take (length before)) h ∙ take_at before more (length before) refl in
      elim l as (λ l. drop p text.seats ≡ l → Follows (reference_calls (is_wanted (p + 1)) (bytes_of l)) ok nok stack place ended before cs p events l (shows l [] p events local) (label_there (bytes_of l)) ((full_reference_grammar (is_wanted (p + 1))).front (bytes_of l))) [
        | [] ↦ λ at.
            follows-so ok nok stack place ended before cs p events [] (shows [] [] p events local) at kept
            (fails-start (attempt ok nok stack place ended before ∷ cs) p End true events [] local at (record { row_is = r.start (shows [] [] p events local) }))
        | s ∷ ss ↦ λ at.
            follows-so ok nok stack place ended before cs p events (s ∷ ss) (shows (s ∷ ss) [] p events local) at kept
            (reads-byte (attempt ok nok stack place ended before ∷ cs) p false events local s ss at)
      ] at
