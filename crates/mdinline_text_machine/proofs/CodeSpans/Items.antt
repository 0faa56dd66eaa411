-- Code spans as items: if one is there, it is read with its events; if not, data is read from its first backtick.
use Rattle.markdown_tokenizer.proofs.Positions.Moving.{first-same}
use Rattle.mdinline_text_machine.proofs.Prelude.{Configuration, Ending, Found, Next, State, item_length, passes, point_or, text_byte, tick-classed, Between, row, exit, eqb-true, IsText, Name, code_spans, at-front, ◌≡◌, ℕ, suc, ◌+◌, ◌-◌, ◌^◌, ◌<◌, ◌≤◌, ◌∷◌, ◌++◌, [], List, Bool, true, false, cond, refl, sym, ◌∙◌, ap, subst, Option, Some, None, arith, length, take, drop, option_map, append_assoc, take_at, drop-drop, drop-take, take-take, length-take, length-drop, flat_map, between, Event, CodeText, CodeTextSequence, CodeTextData, Retry, Ok, Nok, RawTextStart, RawTextSequenceOpen, RawTextSequenceClose, RawTextBetween, RawTextAfter, Seat, Nothing, Byte, Given, Text, Local, Choice, byte_of, counts, code_span_found, code_span_with, is_backtick, backticks, code_span_at, bytes_of, leaf, item_events, drop-map, held, backtick, sizes_are_equal, raw_text_start_rows, raw_text_sequence_close_rows}
use Rattle.std.proofs.lemmas.Bool.{eq-eqb}
use Rattle.mdinline_text_machine.proofs.Texts.Cutting.{cut-enough}
use Rattle.mdinline_text_machine.proofs.Texts.Steps.{Plays, WithRows, leads-row, EndsWith, Leads, between_items, leads-fed, leads-seen, leads-tested, leads-ok, before_class}
use Rattle.mdinline_text_machine.proofs.Plain.Classes.{tick-class, run-ended}
use Rattle.mdinline_text_machine.proofs.Plain.Items.{puts-back}
use Rattle.mdinline_text_machine.proofs.Constructs.Listed.{outer}
use Rattle.mdinline_text_machine.proofs.Plain.Stretches.{is_end, shows, first_byte, past, passed, past-is, past-at, past-stops, passed-counts, shown-fed, class-rows, sees, loops-from, span-read, leaf-read}
use Rattle.mdinline_text_machine.proofs.CodeSpans.Found.{first_run, first-run-is, code-span-found}
use Rattle.mdinline_text_machine.proofs.CodeSpans.Cutting.{Cutting, cut_pieces, events_of, into_parts}
use Rattle.mdinline_text_machine.proofs.CodeSpans.Parts.{Known, ReadsPieces, in_code, in_run, size_b, with_b, grows_b, run_read, opened_after, more-is, count-within, run-positive, enter_at, exit_at, inner, reads-parts, tries-run, sizes-read}
use Rattle.mdinline_text_machine.proofs.CodeSpans.Plays.{PlaysCodeSpans, Remembering, forgetful, opening-ended, opening_rows}
use Rattle.mdinline_text_machine.proofs.CodeSpans.Walks.{RunsAreShort, Walks, walks}
use Rattle.mdinline_text_machine.proofs.CodeSpans.Short.{runs-of-text}
use Rattle.mdinline_text_machine.proofs.Texts.Reads.{DecidesPart, ReadsPart}

-- lists of events, one after another
joined : (es : List Event) (a : Event) (l1 p l2 : List Event) (z : Event) → ((es ++ a ∷ l1) ++ p) ++ (l2 ++ z ∷ []) ≡ es ++ a ∷ ((l1 ++ (p ++ l2)) ++ z ∷ [])
joined es a l1 p l2 z = simp append_assoc

-- a backtick string of at least one begins with a backtick
begins-run : (b : ℕ) (bs : List ℕ) → 0 < backticks (b ∷ bs) → is_backtick b ≡ true
begins-run b bs h = elim (is_backtick b) as (λ t. 0 < cond t (1 + backticks bs) 0 → t ≡ true) [
  | true ↦ λ i. refl
  | false ↦ λ i. absurd (omega (arith, i))
] h

module _ (g : Given) (text : Text) (m : Plays g text) (r : Remembering) (c : PlaysCodeSpans g text m r) (known : Known g text m r) (names : Between) (ps : Cutting) (reads : (p : ℕ) (from : Local Unit Unit) → ReadsPieces g text m r c known p from ps) where
  -- the code span, by its size
  abbrev code : (backticks inside : ℕ) → Found
  code backticks inside = code_span_with (events_of ps) backticks inside

  -- The events of the first run, of the pieces and of the last run are the code span's
  code-span-events : (k n' bound p : ℕ) (s : Seat) (ss : List Seat) (events : List Event) → drop p text.seats ≡ s ∷ ss → 0 < k → k + n' + k ≤ suc (length ss) → length (drop k (s ∷ ss)) ≤ bound
      → ((events ++ enter_at g text m CodeText p ∷ leaf g.bytes CodeTextSequence (take k (s ∷ ss))) ++ flat_map (ps.events g.bytes) (cut_pieces ps bound (take n' (drop k (s ∷ ss)))))
      ++ (leaf g.bytes CodeTextSequence (take k (drop (k + n') (s ∷ ss))) ++ exit_at g text m CodeText (p + (k + n' + k)) ∷ [])
      ≡ events ++ item_events g.bytes (code k n', take (k + n' + k) (s ∷ ss))
  code-span-events k n' bound p s ss events at some short enough =
      let l = s ∷ ss in
      let n = k + n' + k in
      let f = ps.events g.bytes in
      let one = leaf g.bytes CodeTextSequence in
      let size : k + n' - k ≡ n' = omega arith in
      let all : n ≡ k + (n' + k) = omega arith in
      let inside : between k (k + n') (take n l) ≡ take n' (drop k l) =
      ap (λ i. take i (drop k (take n l))) size ∙ ap (λ i. take n' (drop k (take i l))) all ∙ ap (take n') (drop-take k (n' + k) l) ∙ take-take n' (n' + k) (drop k l) (omega arith) in
      let parts : events_of ps g.bytes (between k (k + n') (take n l)) ≡ flat_map f (cut_pieces ps bound (take n' (drop k l))) = ap (events_of ps g.bytes) inside
      ∙ ap (flat_map f)
      (cut-enough ps.front ps.size ps.positive (length (take n' (drop k l))) bound (take n' (drop k l)) (omega arith)
      (omega (arith, length-take n' (drop k l), enough))) in
      let made : (one (take k l) ++ (flat_map f (cut_pieces ps bound (take n' (drop k l))) ++ one (take k (drop (k + n') l))))
      ≡ one (take k (take n l)) ++ (events_of ps g.bytes (between k (k + n') (take n l)) ++ one (drop (k + n') (take n l))) =
      cc (take-take k n l (omega arith), parts, drop-take (k + n') k l) in
      joined events (enter_at g text m CodeText p) (one (take k l)) (flat_map f (cut_pieces ps bound (take n' (drop k l)))) (one (take k (drop (k + n') l))) (exit_at g text m CodeText (p + n))
      ∙ ap (λ c. events ++ enter_at g text m CodeText p ∷ (c ++ exit_at g text m CodeText (p + n) ∷ [])) made
      ∙ ap (λ c. events ++ c) (span-read text g.bytes CodeText (one (take k (take n l)) ++ (events_of ps g.bytes (between k (k + n') (take n l)) ++ one (drop (k + n') (take n l)))) n p s ss at (omega (arith, some)) short)

  -- The backtick string that closes a code span is read, and the code span ends behind it
  closes : (p : ℕ) (from : Local Unit Unit) → RunsAreShort text → (k : ℕ) → 0 < k → (l : List Seat) (q : ℕ) (events : List Event) (local : Local Unit Unit) (cs : List Choice) → drop q text.seats ≡ l → size_b local ≡ k
      → backticks (bytes_of l) ≡ k → known.inside p from q local
      → (left : List Seat) × (after : Local Unit Unit) × known.read p from (q + k) after
      × Leads g text m (shows l in_code q events local) cs (Retry RawTextBetween)
      (shows left [] (q + k) (events ++ (leaf g.bytes CodeTextSequence (take k l) ++ exit_at g text m CodeText (q + k) ∷ [])) after) cs Ok
  closes p from short k some [] q events local cs at size is inside = absurd (omega (arith, some, is))
  closes p from short k some (s ∷ ss) q events local cs at size is inside =
      let l = s ∷ ss in
      let q1 = q + k in
      let place : q1 ≡ q + backticks (bytes_of l) = omega (arith, is) in
      let l1 = past is_backtick l in
      let at1 : drop q1 text.seats ≡ l1 = past-at g text m is_backtick l q q1 at place in
      let opened = events ++ enter_at g text m CodeTextSequence q ∷ [] in
      let read = run_read l local in
      let tick = begins-run s.byte (bytes_of ss) (omega (arith, some, is)) in
      let sequence = opened ++ exit_at g text m CodeTextSequence q1 ∷ [] in
      let equal = sizes-read g text m l local (subst (λ c. backticks (bytes_of c) < 2 ^ 64) at (short q)) ∙ eq-eqb (backticks (bytes_of l)) (size_b local) (is ∙ sym size) in
      let made : sequence ++ exit_at g text m CodeText q1 ∷ [] ≡ events ++ (leaf g.bytes CodeTextSequence (take k l) ++ exit_at g text m CodeText q1 ∷ []) =
      simp append_assoc (ap (λ c. events ++ (c ++ exit_at g text m CodeText q1 ∷ [])) (leaf-read text g.bytes CodeTextSequence k q s ss at some (omega (arith, is, count-within is_backtick l)))) in (
        l1,
        counts (counts read),
        subst (λ e. known.read p from e (counts (counts read))) (sym place) (known.closes p from q local s ss at tick inside),
        λ es h.
            tries-run g text m r c q q1 s ss events local cs at tick place es
            (leads-tested g text m sizes_are_equal raw_text_sequence_close_rows (shows l1 in_run q1 opened read) (inner g text m q events ∷ cs) RawTextSequenceClose es (sees g text m l1 q1 at1)
            (run-ended (before_class g text q1) (first_byte l1) (past-stops is_backtick l)).1 equal (c.raw_text_sequence_close _)
            (leads-ok g text m (shows l1 in_code q1 sequence (counts read)) (inner g text m q events) cs es
            (leads-fed g text m (held in_code q1 Nothing (is_end l1) sequence (counts read)) cs RawTextAfter es
            (subst (λ k. EndsWith g text m k cs (Retry RawTextAfter) es) (sym (shown-fed g text m l1 in_code q1 sequence (counts read) at1))
            (leads-row g text m (row (exit CodeText ∷ []) Ok) (shows l1 in_code q1 sequence (counts read)) cs RawTextAfter es (c.raw_text_after _)
            (subst (λ c. EndsWith g text m (shows l1 [] q1 c (counts (counts read))) cs Ok es) (sym made) h)))))),
      )

  -- The backtick string that opens a code span is read, and its size is kept
  opens : (nok : Name) (p : ℕ) (ended : Bool) (events : List Event) (local : Local Unit Unit) (s : Seat) (ss : List Seat) → drop p text.seats ≡ s ∷ ss → is_backtick s.byte ≡ true
      → Leads g text m (between_items p Byte ended events local) (outer names.home nok p ended events ∷ []) (Retry RawTextStart)
      (shows (past is_backtick (s ∷ ss)) in_run (p + backticks (bytes_of (s ∷ ss))) ((events ++ enter_at g text m CodeText p ∷ []) ++ enter_at g text m CodeTextSequence p ∷ []) (passed is_backtick grows_b (s ∷ ss) (with_b 0 (counts local))))
      (outer names.home nok p ended events ∷ []) (Retry RawTextSequenceOpen)
  opens nok p ended events local s ss at tick es h =
      let l = s ∷ ss in
      let cs = outer names.home nok p ended events ∷ [] in
      let begun = (events ++ enter_at g text m CodeText p ∷ []) ++ enter_at g text m CodeTextSequence p ∷ [] in
      leads-seen g text m raw_text_start_rows (between_items p Byte ended events local) cs RawTextStart es (ap byte_of (at-front text.seats p s ss at))
      (class-rows g text m raw_text_start_rows p s backtick (tick-class s.byte tick)) (c.raw_text_start _)
      (loops-from g text m in_run cs RawTextSequenceOpen is_backtick grows_b
      (λ q ended events local s at tick es.
      leads-seen g text m (opening_rows r) (held in_run q Byte ended events local) cs RawTextSequenceOpen es (ap byte_of at)
      (class-rows g text m (opening_rows r) q s backtick (tick-class s.byte tick)) (c.raw_text_sequence_open _))
      s ss p (p + backticks (bytes_of l)) ended begun (with_b 0 (counts local)) at tick refl es h)

  -- behind it the code span goes on, or nothing that closes it is ahead
  goes-in : (q : ℕ) (begun : List Event) (read : Local Unit Unit) (cs : List Choice) (t : Seat) (ts : List Seat) → drop q text.seats ≡ t ∷ ts → is_backtick t.byte ≡ false → (b : Bool) → r.hopeless t.point (counts read) ≡ b
      → (es : Ending) → WithRows g text m (shows (t ∷ ts) in_run q begun read) cs es (cond b (row [] Nok) (row (exit CodeTextSequence ∷ []) (Retry RawTextBetween)))
      → EndsWith g text m (shows (t ∷ ts) in_run q begun read) cs (Retry RawTextSequenceOpen) es
  goes-in q begun read cs t ts at other b is es h =
      leads-tested g text m (λ g s k. r.hopeless s.point k.local) (opening_rows r) (shows (t ∷ ts) in_run q begun read) cs RawTextSequenceOpen es (sees g text m (t ∷ ts) q at)
      (opening-ended r (before_class g text q) (text_byte t.byte) (tick-classed t.byte ∙ other)) (ap (λ o. r.hopeless (point_or text.end o) (counts read)) (at-front text.seats q t ts at) ∙ is)
      (c.raw_text_sequence_open _) h

  -- its size
  opened-size : (local : Local Unit Unit) (l : List Seat) → backticks (bytes_of l) < 2 ^ 64 → size_b (opened_after l local) ≡ backticks (bytes_of l)
  opened-size local l short = omega (arith, passed-counts size_b grows_b (λ c h. more-is (size_b c) h) is_backtick l (with_b 0 (counts local)) (omega (arith, short)))

  -- From where a code span is tried: it is there, and is read, or it is not, and nothing is left of it
  abbrev pub Ends : (from : Local Unit Unit) → (nok : Name) (p : ℕ) (ended : Bool) (events : List Event) → List Seat → Configuration Unit Unit → List Choice → State → Option Found → Type 0
  Ends from nok p ended events seats k cs s None = (after : Local Unit Unit) × known.left p from after × Leads g text m k cs s (between_items p Nothing ended events after) [] (Next nok)
  Ends from nok p ended events seats k cs s (Some item) =
      (ended_after : Bool) × (after : Local Unit Unit) × known.read p from (p + item_length item) after
      × Leads g text m k cs s (between_items (p + item_length item) Nothing ended_after (events ++ item_events g.bytes (item, take (item_length item) seats)) after) [] (Next names.home)

  -- what ends so further on ends so here
  ends-before : (from : Local Unit Unit) (nok : Name) (p : ℕ) (ended : Bool) (events : List Event) (seats : List Seat) (k k' : Configuration Unit Unit) (cs cs' : List Choice) (s s' : State) (o : Option Found)
      → Leads g text m k cs s k' cs' s' → Ends from nok p ended events seats k' cs' s' o → Ends from nok p ended events seats k cs s o
  ends-before from nok p ended events seats k k' cs cs' s s' None leads d = (d.0, d.1, λ es h. leads es (d.2 es h))
  ends-before from nok p ended events seats k k' cs cs' s s' (Some item) leads d = (d.0, d.1, d.2, λ es h. leads es (d.3 es h))

  -- what the walk behind the opening backtick string has come to
  from-walk : (from : Local Unit Unit) → RunsAreShort text → (nok : Name) (p : ℕ) (ended : Bool) (events : List Event) (mid : Local Unit Unit) (s : Seat) (ss : List Seat) → drop p text.seats ≡ s ∷ ss → is_backtick s.byte ≡ true → (rest : List Seat) → past is_backtick (s ∷ ss) ≡ rest
      → let l = s ∷ ss in let k = backticks (bytes_of l) in
      let cs = outer names.home nok p ended events ∷ [] in
      let begun = events ++ enter_at g text m CodeText p ∷ leaf g.bytes CodeTextSequence (take k l) in
      (o : Option ℕ) → first_run k false (bytes_of rest) ≡ o → Walks g text m r c known ps p from k cs (length rest) (p + k) rest begun mid o
      → Ends from nok p ended events l (shows rest in_code (p + k) begun mid) cs (Retry RawTextBetween) (option_map (code k) o)
  from-walk from short nok p ended events mid s ss at tick rest past-rest None found walked =
      let made = enter_at g text m CodeText p ∷ leaf g.bytes CodeTextSequence (take (backticks (bytes_of (s ∷ ss))) (s ∷ ss)) in (
        r.all_noted (counts walked.2),
        known.ends p from s ss at walked.0 walked.2 walked.3 (ap (λ l. first_run (backticks (bytes_of (s ∷ ss))) false (bytes_of l)) past-rest ∙ found) walked.4,
        λ es h.
            walked.5 es
            (subst (λ c. EndsWith g text m (shows [] in_code walked.0 c (r.all_noted (counts walked.2))) (outer names.home nok p ended events ∷ []) Nok es) (sym (append_assoc events made walked.1))
            (puts-back g text m names nok p ended events (shows [] in_code walked.0 (events ++ (made ++ walked.1)) (r.all_noted (counts walked.2))) (take_at events (made ++ walked.1) (length events) refl) es h)),
      )
  from-walk from short nok p ended events mid s ss at tick rest past-rest (Some n') found walked =
      let l = s ∷ ss in
      let k = backticks (bytes_of l) in
      let bound = length rest in
      let begun = events ++ enter_at g text m CodeText p ∷ leaf g.bytes CodeTextSequence (take k l) in
      let pieces_at = λ (r : List Seat). flat_map (ps.events g.bytes) (cut_pieces ps bound (take n' r)) in
      let some : 0 < k = run-positive s.byte (bytes_of ss) tick in
      let behind : rest ≡ drop k l = sym past-rest ∙ past-is is_backtick l in
      let at1 : drop (p + k + n') text.seats ≡ drop n' rest = sym (drop-drop n' (p + k) text.seats) ∙ ap (drop n') (past-at g text m is_backtick l p (p + k) at refl ∙ past-rest) in
      let last : backticks (bytes_of (drop n' rest)) ≡ k = ap backticks (sym (drop-map (λ (s : Seat). s.byte) n' rest)) ∙ first-run-is k false (bytes_of rest) n' found in
      let closed = closes p from short k some (drop n' rest) (p + k + n') (begun ++ pieces_at rest) walked.0 (outer names.home nok p ended events ∷ []) at1 walked.1 last walked.2 in
      let left : length rest ≡ suc (length ss) - k = ap length behind ∙ length-drop k l in
      let place : p + k + n' + k ≡ p + (k + n' + k) = omega arith in
      let whole = (begun ++ pieces_at rest) ++ (leaf g.bytes CodeTextSequence (take k (drop n' rest)) ++ exit_at g text m CodeText (p + k + n' + k) ∷ []) in
      let made : whole ≡ events ++ item_events g.bytes (code k n', take (k + n' + k) l) =
      cc (
        drop-drop n' k l,
        code-span-events k n' bound p s ss events at some (omega (arith, some, last, count-within is_backtick (drop n' rest), length-drop n' rest, left))
            (omega (arith, ap length behind)),
      ) in (
        is_end closed.0,
        closed.1,
        subst (λ q. known.read p from q closed.1) place closed.2,
        λ es h.
            walked.3 es
            (closed.3 es
            (leads-ok g text m (shows closed.0 [] (p + k + n' + k) whole closed.1) (outer names.home nok p ended events) [] es
            (rw (made, place) h))),
      )

  -- behind the opening backtick string
  behind-opening : RunsAreShort text → (nok : Name) (p : ℕ) (ended : Bool) (events : List Event) (from : Local Unit Unit) (s : Seat) (ss : List Seat) → drop p text.seats ≡ s ∷ ss → is_backtick s.byte ≡ true → known.knows p from
      → (rest : List Seat) → past is_backtick (s ∷ ss) ≡ rest
      → let l = s ∷ ss in let k = backticks (bytes_of l) in
      Ends from nok p ended events l (shows rest in_run (p + k) ((events ++ enter_at g text m CodeText p ∷ []) ++ enter_at g text m CodeTextSequence p ∷ []) (passed is_backtick grows_b l (with_b 0 (counts from))))
      (outer names.home nok p ended events ∷ []) (Retry RawTextSequenceOpen) (option_map (code k) (first_run k false (bytes_of rest)))
  behind-opening short nok p ended events from s ss at tick knows rest behind =
      let l = s ∷ ss in
      let k = backticks (bytes_of l) in
      let cs = outer names.home nok p ended events ∷ [] in
      let begun = (events ++ enter_at g text m CodeText p ∷ []) ++ enter_at g text m CodeTextSequence p ∷ [] in
      let entered = events ++ enter_at g text m CodeText p ∷ leaf g.bytes CodeTextSequence (take k l) in
      let read = passed is_backtick grows_b l (with_b 0 (counts from)) in
      let size = opened-size from l (subst (λ c. backticks (bytes_of c) < 2 ^ 64) at (short p)) in
      let at1 : drop (p + k) text.seats ≡ rest = past-at g text m is_backtick l p (p + k) at refl ∙ behind in
      let made : begun ++ exit_at g text m CodeTextSequence (p + k) ∷ [] ≡ entered =
      simp append_assoc (ap (λ c. events ++ enter_at g text m CodeText p ∷ c)
      (leaf-read text g.bytes CodeTextSequence k p s ss at (run-positive s.byte (bytes_of ss) tick) (count-within is_backtick l))) in
      let o = first_run k false (bytes_of rest) in
      let further : ((t : Seat) (ts : List Seat) → past is_backtick l ≡ t ∷ ts → r.hopeless t.point (counts read) ≡ false)
      → Ends from nok p ended events l (shows rest in_code (p + k) entered (counts read)) cs (Retry RawTextBetween) (option_map (code k) o) =
      λ hopeful. from-walk from short nok p ended events (counts read) s ss at tick rest behind o refl
      (walks g text m r c known ps p from k cs (reads p from) short (run-positive s.byte (bytes_of ss) tick) (length rest) (p + k) rest entered (counts read) size (omega arith) at1 (known.opens p from s ss at tick size hopeful knows)) in
      let within = λ (es : Ending) (h : EndsWith g text m (shows rest in_code (p + k) entered (counts read)) cs (Retry RawTextBetween) es). subst (λ c. EndsWith g text m (shows rest in_code (p + k) c (counts read)) cs (Retry RawTextBetween) es) (sym made) h in
      elim rest as (λ rest. past is_backtick l ≡ rest → drop (p + k) text.seats ≡ rest
      → (((t : Seat) (ts : List Seat) → past is_backtick l ≡ t ∷ ts → r.hopeless t.point (counts read) ≡ false)
      → Ends from nok p ended events l (shows rest in_code (p + k) entered (counts read)) cs (Retry RawTextBetween) (option_map (code k) (first_run k false (bytes_of rest))))
      → ((es : Ending) → EndsWith g text m (shows rest in_code (p + k) entered (counts read)) cs (Retry RawTextBetween) es → EndsWith g text m (shows rest in_code (p + k) (begun ++ exit_at g text m CodeTextSequence (p + k) ∷ []) (counts read)) cs (Retry RawTextBetween) es)
      → Ends from nok p ended events l (shows rest in_run (p + k) begun read) cs (Retry RawTextSequenceOpen) (option_map (code k) (first_run k false (bytes_of rest)))) [
        | [] ↦ λ behind at1 further within.
            ends-before from nok p ended events l (shows [] in_run (p + k) begun read) (shows [] in_code (p + k) entered (counts read)) cs cs (Retry RawTextSequenceOpen) (Retry RawTextBetween) None
            (λ es h. leads-seen g text m (opening_rows r) (shows [] in_run (p + k) begun read) cs RawTextSequenceOpen es refl refl (c.raw_text_sequence_open _) (within es h)) (further (λ t ts e. absurd (let no : [] ≡ t ∷ ts = sym behind ∙ e in cc)))
        | t ∷ ts ↦ λ behind at1 further within.
            let o = first_run k false (bytes_of (t ∷ ts)) in
            let other : is_backtick t.byte ≡ false = ap (λ l. passes is_backtick (first_byte l)) (sym behind) ∙ past-stops is_backtick l in
            elim (r.hopeless t.point (counts read)) as (λ b. r.hopeless t.point (counts read) ≡ b
            → Ends from nok p ended events l (shows (t ∷ ts) in_run (p + k) begun read) cs (Retry RawTextSequenceOpen) (option_map (code k) o)) [
              | true ↦ λ e.
                  let none = known.gives_up p from s ss at tick size knows t ts behind e in
                  subst (λ o. Ends from nok p ended events l (shows (t ∷ ts) in_run (p + k) begun read) cs (Retry RawTextSequenceOpen) (option_map (code k) o)) (sym none.0) (
                    counts read,
                    none.1,
                    λ es h.
                        goes-in (p + k) begun read cs t ts at1 other true e es
                        (puts-back g text m names nok p ended events (shows (t ∷ ts) in_run (p + k) begun (counts read))
                        (ap (take (length events)) (append_assoc events (enter_at g text m CodeText p ∷ []) (enter_at g text m CodeTextSequence p ∷ [])) ∙ take_at events (enter_at g text m CodeText p ∷ enter_at g text m CodeTextSequence p ∷ []) (length events) refl) es h),
                  )
              | false ↦ λ e.
                  ends-before from nok p ended events l (shows (t ∷ ts) in_run (p + k) begun read) (shows (t ∷ ts) in_code (p + k) entered (counts read)) cs cs (Retry RawTextSequenceOpen) (Retry RawTextBetween) (option_map (code k) o)
                  (λ es h. goes-in (p + k) begun read cs t ts at1 other false e es (within es h))
                  (further (λ u us same. let first : t ≡ u = first-same t u ts us (sym behind ∙ same) in ap (λ (v : Seat). r.hopeless v.point (counts read)) (sym first) ∙ e))
            ] refl
      ] behind at1 further within

  -- Code spans are tried at backticks
  pub tries-code-span : RunsAreShort text → (nok : Name) (p : ℕ) (ended : Bool) (events : List Event) (local : Local Unit Unit) (s : Seat) (ss : List Seat) → drop p text.seats ≡ s ∷ ss → s.byte ≡ 96 → known.knows p local
      → Ends local nok p ended events (s ∷ ss) (between_items p Byte ended events local) (outer names.home nok p ended events ∷ []) (Retry RawTextStart) (code_span_found (events_of ps) (bytes_of (s ∷ ss)))
  tries-code-span short nok p ended events local s ss at is knows =
      let l = s ∷ ss in
      let k = backticks (bytes_of l) in
      let rest = past is_backtick l in
      let cs = outer names.home nok p ended events ∷ [] in
      let tick = ap is_backtick is in
      let begun = (events ++ enter_at g text m CodeText p ∷ []) ++ enter_at g text m CodeTextSequence p ∷ [] in
      let o = first_run k false (bytes_of rest) in
      let same : o ≡ first_run k false (drop k (bytes_of l)) = ap (first_run k false) (ap bytes_of (past-is is_backtick l) ∙ sym (drop-map (λ (s : Seat). s.byte) k l)) in
      subst (Ends local nok p ended events l (between_items p Byte ended events local) cs (Retry RawTextStart)) (ap (option_map (code k)) same ∙ sym (code-span-found (events_of ps) s.byte (bytes_of ss) is))
      (ends-before local nok p ended events l (between_items p Byte ended events local) (shows rest in_run (p + k) begun (passed is_backtick grows_b l (with_b 0 (counts local)))) cs cs (Retry RawTextStart) (Retry RawTextSequenceOpen)
      (option_map (code k) o) (opens nok p ended events local s ss at tick)
      (behind-opening short nok p ended events local s ss at tick knows rest refl))

-- a test that fails
pub never : {P : Type 0} → false ≡ true → P
never e = absurd (cc)

-- nothing is known of a machine that remembers nothing
abbrev pub nothing_remembered : (g : Given) (text : Text) (m : Plays g text) → Known g text m forgetful
nothing_remembered g text m = record {
  knows = λ p local. Unit {0};
  inside = λ p from q local. Unit {0};
  left = λ p from after. Unit {0};
  read = λ p from q after. Unit {0};
  opens = λ p from s ss at tick size hopeful h. tt;
  gives_up = λ p from s ss at tick size h t ts behind e. never e;
  line = λ p from q local s ss at is h. tt;
  white_line = λ p from q local s ss at is h. tt;
  in_data = λ p from q local s ss at is h. tt;
  chunk = λ p from q local s ss at tick size events h. tt;
  ends = λ p from s ss here q local at none h. tt;
  closes = λ p from q local s ss at tick h. tt;
}

module _ (g : Given) (text : Text) (m : Plays g text) (c : PlaysCodeSpans g text m forgetful) (names : Between) where
  abbrev parts : (p : ℕ) (from : Local Unit Unit) → ReadsPieces g text m forgetful c (nothing_remembered g text m) p from into_parts
  parts p from = reads-parts g text m c (nothing_remembered g text m) p from

  -- by such a machine a code span is decided
  decides : (from : Local Unit Unit) (nok : Name) (p : ℕ) (ended : Bool) (events : List Event) (seats : List Seat) (k : Configuration Unit Unit) (cs : List Choice) (s : State) (o : Option Found)
      → Ends g text m forgetful c (nothing_remembered g text m) names into_parts parts from nok p ended events seats k cs s o → DecidesPart g text m names nok p ended events seats k cs s o
  decides from nok p ended events seats k cs s None d = (d.0, tt, d.2)
  decides from nok p ended events seats k cs s (Some item) d = (d.0, d.1, tt, d.3)

  -- The theorem of code spans
  pub code-spans-read : IsText g text → ReadsPart g text m names code_spans
  code-spans-read is nok p ended events local s ss here first knows =
      decides local nok p ended events (s ∷ ss) _ _ _ (code_span_at (bytes_of (s ∷ ss)))
      (tries-code-span g text m forgetful c (nothing_remembered g text m) names into_parts parts (runs-of-text g text is) nok p ended events local s ss here (eqb-true s.byte 96 first) tt)
