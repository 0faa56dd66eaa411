-- The pieces of a code span, as the machine of texts reads them: line endings, data, and runs that do not close it.
use Rattle.mdinline_text_machine.proofs.Prelude.{at-front, ◌≡◌, ℕ, suc, ◌+◌, ◌^◌, ◌<◌, ◌≤◌, ◌∷◌, ◌++◌, [], List, Bool, true, false, cond, not, ◌==◌, ◌||◌, refl, sym, ◌∙◌, ap, subst, Option, Some, None, arith, nat_tests, not-true, not-false, max, length, take, drop, slice_get, append_assoc, take_at, drop-drop, drop-map, drop-next, length-drop, length-map, prefix_len-le-length, prefix_len, position_or_len, Event, Enter, Exit, CodeText, CodeTextSequence, CodeTextData, LineEnding, Next, Retry, RawTextBetween, RawTextData, RawTextSequenceClose, RawTextAfter, RawTextBackticksStart, RawTextBackticksInside, Seat, Nothing, Byte, Attempt, Given, Text, Local, Choice, byte_of, point_or, end_or, end_place, class_of, counts, passes, Part, line_ending, plain_run, is_line_feed, is_backtick, is_backtick_or_line_feed, backticks, part_length, plain_length, bytes_of, row, exit, event, leaf, part_events, held, TextByte, backtick, line_feed, text_byte, more_than, sizes_are_equal, raw_text_data_rows, raw_text_sequence_close_rows, raw_text_backticks_inside_rows, line-ending-read}
use Rattle.markdown_base.specs.declared.event.Name.{Name as EventName}
use Rattle.mdconstructs_tables.specs.Breaks.{is_white}
use Rattle.mdinline_text_machine.proofs.Texts.Steps.{Plays, EndsWith, Leads, leads-seen, leads-tested, leads-nok, before_class}
use Rattle.mdinline_text_machine.proofs.Plain.Classes.{tick-class, run-ended}
use Rattle.mdinline_text_machine.proofs.Plain.Stretches.{shows, first_byte, past, passed, past-is, past-at, past-stops, passed-keeps, passed-counts, goes-next, class-rows, sees, loops, leaf-read}
use Rattle.mdinline_text_machine.proofs.CodeSpans.Found.{first_run}
use Rattle.mdinline_text_machine.proofs.CodeSpans.Classes.{at-data}
use Rattle.mdinline_text_machine.proofs.CodeSpans.Cutting.{Cutting, into_parts, piece_of}
use Rattle.mdinline_text_machine.proofs.CodeSpans.Plays.{PlaysCodeSpans, Remembering, before_chunk_rows, between-data, between_rows, forgetful}

-- the spans that are open in a code span
abbrev pub in_code : List EventName
in_code = CodeText ∷ []

-- a run is read
abbrev pub in_run : List EventName
in_run = CodeText ∷ CodeTextSequence ∷ []

-- data is read
abbrev in_code_data : List EventName
in_code_data = CodeText ∷ CodeTextData ∷ []

-- the sizes of the run that opens it, and of the one that is read
abbrev pub size_b : Local Unit Unit → ℕ
size_b local = local.tokenize_state.size_b

abbrev pub size_c : Local Unit Unit → ℕ
size_c local = local.tokenize_state.size_c

-- a size is written
abbrev pub with_b : ℕ → Local Unit Unit → Local Unit Unit
with_b n local = record local { tokenize_state = record local.tokenize_state { size_b = n } }

abbrev pub with_c : ℕ → Local Unit Unit → Local Unit Unit
with_c n local = record local { tokenize_state = record local.tokenize_state { size_c = n } }

-- in a call that counts a backtick
abbrev pub grows_b : Local Unit Unit → Local Unit Unit
grows_b local = with_b (more_than (size_b local)) (counts local)

abbrev pub grows_c : Local Unit Unit → Local Unit Unit
grows_c local = with_c (more_than (size_c local)) (counts local)

-- a size grows by one, as long as there is a greater number
pub more-is : (n : ℕ) → n + 1 < 2 ^ 64 → more_than n ≡ n + 1
more-is n h = omega (arith, h)

-- what is data in a code span, and how long it is
abbrev pub is_code_byte : ℕ → Bool
is_code_byte b = not (is_backtick_or_line_feed b)

abbrev pub data_length : List ℕ → ℕ
data_length bytes = position_or_len is_backtick_or_line_feed bytes

-- line endings are of the class of LF
pub line-feed-class : (b : ℕ) → is_line_feed b ≡ true → text_byte b ≡ line_feed
line-feed-class b h = let e : b ≡ 10 = grind (arith, nat_tests) in ap text_byte e

-- data ends at a byte that is none, and at the end
data-ended : (before : Option TextByte) (o : Option ℕ) → passes (λ b. not (is_backtick_or_line_feed b)) o ≡ false
    → raw_text_data_rows {R = Unit} {D = Unit} before (class_of text_byte o) ≡ row (exit CodeTextData ∷ []) (Retry RawTextBetween)
data-ended before None h = refl
data-ended before (Some b) h =
    elim (b == 10) as (λ t. (t || (b == 96)) ≡ true → (b == 10) ≡ t → raw_text_data_rows {R = Unit} {D = Unit} before (Some (text_byte b)) ≡ row (exit CodeTextData ∷ []) (Retry RawTextBetween)) [
      | true ↦ λ i e. ap (λ w. raw_text_data_rows {R = Unit} {D = Unit} before (Some w)) (line-feed-class b e)
      | false ↦ λ i e. ap (λ w. raw_text_data_rows {R = Unit} {D = Unit} before (Some w)) (tick-class b i)
    ] (not-false _ h) refl

-- runs that are there have at least a byte
pub run-positive : (b : ℕ) (bs : List ℕ) → is_backtick b ≡ true → 0 < backticks (b ∷ bs)
run-positive b bs e = let more : backticks (b ∷ bs) ≡ 1 + backticks bs = ap (λ t. cond t (1 + backticks bs) 0) e in omega (arith, more)

-- what begins a list is no longer than it
pub count-within : (p : ℕ → Bool) (l : List Seat) → prefix_len p (bytes_of l) ≤ length l
count-within p l = omega (arith, prefix_len-le-length p (bytes_of l), length-map l (λ (s : Seat). s.byte))

-- ---- what states share behind the parts of a code span
-- a backtick string that may close it was read
abbrev pub run_read : List Seat → Local Unit Unit → Local Unit Unit
run_read l local = passed is_backtick grows_c l (with_c 0 (counts local))

-- the one that opens it
abbrev pub opened_after : List Seat → Local Unit Unit → Local Unit Unit
opened_after l local = counts (passed is_backtick grows_b l (with_b 0 (counts local)))

-- the one that closes it
abbrev pub closed_after : List Seat → Local Unit Unit → Local Unit Unit
closed_after l local = counts (counts (run_read l local))

-- data
abbrev pub data_after : List Seat → Local Unit Unit → Local Unit Unit
data_after l local = counts (passed is_code_byte counts l (counts local))

-- a line ending, with the white space behind it
abbrev pub line_after : List Seat → Local Unit Unit → Local Unit Unit
line_after ss local = counts (passed is_white counts ss (counts local))

-- a backtick string that is data, with the data behind it; its first event is the last of these
abbrev pub chunk_after : Remembering → List Event → List Seat → Local Unit Unit → Local Unit Unit
chunk_after r events l local =
    counts (passed is_code_byte counts (past is_backtick l) (counts (passed is_backtick counts l (r.noted events (counts (counts (run_read l local)))))))

module _ (g : Given) (text : Text) (m : Plays g text) where
  -- an event at the start of the byte at a position, or at the end of the byte before it
  abbrev pub enter_at : EventName → ℕ → Event
  enter_at name q = event g.bytes Enter name (point_or text.end (slice_get text.seats q))

  abbrev pub exit_at : EventName → ℕ → Event
  exit_at name q = event g.bytes Exit name (end_place text q)

  -- the choice that is made at a run
  abbrev pub inner : ℕ → List Event → Choice
  inner q events = record {
    kind = Attempt;
    ok = Next RawTextAfter;
    nok = Next RawTextBackticksStart;
    saved = Some (record { position = q; ended = false; events = length events; stack = in_code });
  }

  -- the events of data, as they are made
  plain-events : (n q : ℕ) (s : Seat) (ss : List Seat) (events : List Event) → drop q text.seats ≡ s ∷ ss → 0 < n → n ≤ suc (length ss)
      → (events ++ enter_at CodeTextData q ∷ []) ++ exit_at CodeTextData (q + n) ∷ [] ≡ events ++ leaf g.bytes CodeTextData (take n (s ∷ ss))
  plain-events n q s ss events at some h =
      append_assoc events (enter_at CodeTextData q ∷ []) (exit_at CodeTextData (q + n) ∷ []) ∙ ap (λ l. events ++ l) (leaf-read text g.bytes CodeTextData n q s ss at some h)

  -- the size of a backtick string that was read
  pub run-size : (l : List Seat) (local : Local Unit Unit) → backticks (bytes_of l) < 2 ^ 64 → size_c (run_read l local) ≡ backticks (bytes_of l)
  run-size l local short = omega (arith, passed-counts size_c grows_c (λ k h. more-is (size_c k) h) is_backtick l (with_c 0 (counts local)) (omega (arith, short)))

  -- compared with the size of the one that opened the code span
  pub sizes-read : (l : List Seat) (local : Local Unit Unit) → backticks (bytes_of l) < 2 ^ 64
      → let read = run_read l local in (size_c read == size_b read) ≡ (backticks (bytes_of l) == size_b local)
  sizes-read l local short =
      let begun = with_c 0 (counts local) in
      let read = run_read l local in
      ap (λ n. n == size_b read) (run-size l local short) ∙ ap (λ n. backticks (bytes_of l) == n) (passed-keeps size_b grows_c (λ k. refl) is_backtick l begun)

-- What is known of what a machine remembers: where a code span is tried; in it; where it is not there; and behind it. Of each it is said what was
-- known where the code span was tried
pub record Known (g : Given) (text : Text) (m : Plays g text) (r : Remembering) : Type 1 where
  pub knows : (p : ℕ) → Local Unit Unit → Type 0
  pub inside : (p : ℕ) (from : Local Unit Unit) (q : ℕ) → Local Unit Unit → Type 0
  pub left : (p : ℕ) (from : Local Unit Unit) → Local Unit Unit → Type 0
  pub read : (p : ℕ) (from : Local Unit Unit) (q : ℕ) → Local Unit Unit → Type 0
  pub opens : (p : ℕ) (from : Local Unit Unit) (s : Seat) (ss : List Seat) → drop p text.seats ≡ s ∷ ss → is_backtick s.byte ≡ true
      → size_b (opened_after (s ∷ ss) from) ≡ backticks (bytes_of (s ∷ ss)) → ((t : Seat) (ts : List Seat) → past is_backtick (s ∷ ss) ≡ t ∷ ts → r.hopeless t.point (opened_after (s ∷ ss) from) ≡ false)
      → knows p from → inside p from (p + backticks (bytes_of (s ∷ ss))) (opened_after (s ∷ ss) from)
  pub gives_up : (p : ℕ) (from : Local Unit Unit) (s : Seat) (ss : List Seat) → drop p text.seats ≡ s ∷ ss → is_backtick s.byte ≡ true
      → size_b (opened_after (s ∷ ss) from) ≡ backticks (bytes_of (s ∷ ss)) → knows p from → (t : Seat) (ts : List Seat) → past is_backtick (s ∷ ss) ≡ t ∷ ts
      → r.hopeless t.point (opened_after (s ∷ ss) from) ≡ true → (first_run (backticks (bytes_of (s ∷ ss))) false (bytes_of (t ∷ ts)) ≡ None) × left p from (opened_after (s ∷ ss) from)
  pub line : (p : ℕ) (from : Local Unit Unit) (q : ℕ) (local : Local Unit Unit) (s : Seat) (ss : List Seat) → drop q text.seats ≡ s ∷ ss → is_line_feed s.byte ≡ true
      → inside p from q local → inside p from (q + 1) (counts local)
  pub white_line : (p : ℕ) (from : Local Unit Unit) (q : ℕ) (local : Local Unit Unit) (s : Seat) (ss : List Seat) → drop q text.seats ≡ s ∷ ss → is_line_feed s.byte ≡ true
      → inside p from q local → inside p from (q + (1 + prefix_len is_white (bytes_of ss))) (line_after ss local)
  pub in_data : (p : ℕ) (from : Local Unit Unit) (q : ℕ) (local : Local Unit Unit) (s : Seat) (ss : List Seat) → drop q text.seats ≡ s ∷ ss → is_backtick_or_line_feed s.byte ≡ false
      → inside p from q local → inside p from (q + data_length (bytes_of (s ∷ ss))) (data_after (s ∷ ss) local)
  pub chunk : (p : ℕ) (from : Local Unit Unit) (q : ℕ) (local : Local Unit Unit) (s : Seat) (ss : List Seat) → drop q text.seats ≡ s ∷ ss → is_backtick s.byte ≡ true
      → size_c (run_read (s ∷ ss) local) ≡ backticks (bytes_of (s ∷ ss)) → (events : List Event) → inside p from q local
      → inside p from (q + (backticks (bytes_of (s ∷ ss)) + data_length (bytes_of (past is_backtick (s ∷ ss))))) (chunk_after r (events ++ enter_at g text m CodeTextData q ∷ []) (s ∷ ss) local)
  pub ends : (p : ℕ) (from : Local Unit Unit) (s : Seat) (ss : List Seat) → drop p text.seats ≡ s ∷ ss → (q : ℕ) (local : Local Unit Unit) → drop q text.seats ≡ []
      → first_run (backticks (bytes_of (s ∷ ss))) false (bytes_of (past is_backtick (s ∷ ss))) ≡ None → inside p from q local → left p from (r.all_noted (counts local))
  pub closes : (p : ℕ) (from : Local Unit Unit) (q : ℕ) (local : Local Unit Unit) (s : Seat) (ss : List Seat) → drop q text.seats ≡ s ∷ ss → is_backtick s.byte ≡ true
      → inside p from q local → read p from (q + backticks (bytes_of (s ∷ ss))) (closed_after (s ∷ ss) local)

module _ (g : Given) (text : Text) (m : Plays g text) (r : Remembering) (c : PlaysCodeSpans g text m r) where
  -- a run is tried, and read to its end
  pub tries-run : (q q' : ℕ) (s : Seat) (ss : List Seat) (events : List Event) (local : Local Unit Unit) (cs : List Choice) → drop q text.seats ≡ s ∷ ss → is_backtick s.byte ≡ true
      → q' ≡ q + backticks (bytes_of (s ∷ ss))
      → Leads g text m (held in_code q Byte false events local) cs (Retry RawTextBetween)
      (shows (past is_backtick (s ∷ ss)) in_run q' (events ++ enter_at g text m CodeTextSequence q ∷ []) (run_read (s ∷ ss) local)) (inner g text m q events ∷ cs)
      (Retry RawTextSequenceClose)
  tries-run q q' s ss events local cs at tick is es h =
      let tried = inner g text m q events ∷ cs in
      leads-seen g text m (between_rows r) (held in_code q Byte false events local) cs RawTextBetween es (ap byte_of (at-front text.seats q s ss at))
      (class-rows g text m (between_rows r) q s backtick (tick-class s.byte tick)) (c.raw_text_between _)
      (loops g text m in_run tried RawTextSequenceClose is_backtick grows_c
      (λ q ended events local s at tick es.
      leads-seen g text m raw_text_sequence_close_rows (held in_run q Byte ended events local) tried RawTextSequenceClose es (ap byte_of at)
      (class-rows g text m raw_text_sequence_close_rows q s backtick (tick-class s.byte tick)) (c.raw_text_sequence_close _))
      (s ∷ ss) q q' (events ++ enter_at g text m CodeTextSequence q ∷ []) (with_c 0 (counts local)) at is es h)

  -- data is read to its end
  data-read : (l : List Seat) (q q' : ℕ) (events : List Event) (local : Local Unit Unit) (cs : List Choice) → drop q text.seats ≡ l → q' ≡ q + data_length (bytes_of l)
      → Leads g text m (shows l in_code_data q events local) cs (Retry RawTextData)
      (shows (past is_code_byte l) in_code q' (events ++ exit_at g text m CodeTextData q' ∷ []) (counts (passed is_code_byte counts l local))) cs (Retry RawTextBetween)
  data-read l q q' events local cs at is es h =
      let rest = past is_code_byte l in
      loops g text m in_code_data cs RawTextData is_code_byte counts
      (λ q ended events local s at inside es.
      leads-seen g text m raw_text_data_rows (held in_code_data q Byte ended events local) cs RawTextData es (ap byte_of at) (at-data (before_class g text q) s.byte (not-true _ inside)) (c.raw_text_data _))
      l q q' events local at is es
      (leads-seen g text m raw_text_data_rows (shows rest in_code_data q' events (passed is_code_byte counts l local)) cs RawTextData es (sees g text m rest q' (past-at g text m is_code_byte l q q' at is))
      (data-ended (before_class g text q') (first_byte rest) (past-stops is_code_byte l)) (c.raw_text_data _) h)

module _ (g : Given) (text : Text) (m : Plays g text) (r : Remembering) (c : PlaysCodeSpans g text m r) (n : Known g text m r) (p : ℕ) (from : Local Unit Unit) where
  -- so many bytes are read, with these events
  abbrev pub ReadsAs : (q : ℕ) (s : Seat) (ss : List Seat) (events : List Event) (local : Local Unit Unit) (cs : List Choice) → (size : ℕ) → (made : List Event) → Type 0
  ReadsAs q s ss events local cs size made =
      (after : Local Unit Unit) × (size_b after ≡ size_b local) × n.inside p from (q + size) after
      × Leads g text m (held in_code q Byte false events local) cs (Retry RawTextBetween)
      (shows (drop size (s ∷ ss)) in_code (q + size) (events ++ made) after) cs (Retry RawTextBetween)

  -- so many bytes of data
  abbrev pub ReadsData : (q : ℕ) (s : Seat) (ss : List Seat) (events : List Event) (local : Local Unit Unit) (cs : List Choice) → ℕ → Type 0
  ReadsData q s ss events local cs size = ReadsAs q s ss events local cs size (leaf g.bytes CodeTextData (take size (s ∷ ss)))

  -- Each piece is read with its events, if it begins with no backtick string that closes the code span
  abbrev pub ReadsPieces : Cutting → Type 0
  ReadsPieces c =
      (q : ℕ) (s : Seat) (ss : List Seat) (events : List Event) (local : Local Unit Unit) (cs : List Choice) → drop q text.seats ≡ s ∷ ss
      → (backticks (bytes_of (s ∷ ss)) == size_b local) ≡ false → backticks (bytes_of (s ∷ ss)) < 2 ^ 64 → n.inside p from q local
      → let a = piece_of c (s ∷ ss) in ReadsAs q s ss events local cs (c.size a) (c.events g.bytes (a, take (c.size a) (s ∷ ss)))

  -- a backtick string that does not close the code span, with the data after it: it is tried, put back, and read once more
  reads-chunk : (q : ℕ) (s : Seat) (ss : List Seat) (events : List Event) (local : Local Unit Unit) (cs : List Choice) → drop q text.seats ≡ s ∷ ss → is_backtick s.byte ≡ true
      → (backticks (bytes_of (s ∷ ss)) == size_b local) ≡ false → backticks (bytes_of (s ∷ ss)) < 2 ^ 64 → n.inside p from q local
      → ReadsData q s ss events local cs (backticks (bytes_of (s ∷ ss)) + data_length (bytes_of (past is_backtick (s ∷ ss))))
  reads-chunk q s ss events local cs at tick other short inside =
      let l = s ∷ ss in
      let j = backticks (bytes_of l) in
      let l1 = past is_backtick l in
      let d = data_length (bytes_of l1) in
      let q1 = q + j in
      let at1 : drop q1 text.seats ≡ l1 = past-at g text m is_backtick l q q1 at refl in
      let ended = run-ended (before_class g text q1) (first_byte l1) (past-stops is_backtick l) in
      let begun = events ++ enter_at g text m CodeTextData q ∷ [] in
      let read = run_read l local in
      let noted = r.noted begun (counts (counts read)) in
      let again = passed is_backtick counts l noted in
      let after = counts (passed is_code_byte counts l1 (counts again)) in
      let kept : size_b after ≡ size_b local =
      passed-keeps size_b counts (λ k. refl) is_code_byte l1 (counts again) ∙ passed-keeps size_b counts (λ k. refl) is_backtick l noted ∙ c.keeps begun (counts (counts read))
      ∙ passed-keeps size_b grows_c (λ k. refl) is_backtick l (with_c 0 (counts local)) in
      let behind : past is_code_byte l1 ≡ drop (j + d) l = past-is is_code_byte l1 ∙ ap (drop d) (past-is is_backtick l) ∙ drop-drop d j l in
      let place : q + (j + d) ≡ q + j + d = omega arith in
      let same = plain-events g text m (j + d) q s ss events at (omega (arith, run-positive s.byte (bytes_of ss) tick))
      (omega (arith, count-within is_backtick l, count-within is_code_byte l1, ap length (past-is is_backtick l) ∙ length-drop j l)) in (
        after,
        kept,
        n.chunk p from q local s ss at tick (run-size g text m l local short) events inside,
        λ es h.
            tries-run g text m r c q q1 s ss events local cs at tick refl es
            (leads-tested g text m sizes_are_equal raw_text_sequence_close_rows (shows l1 in_run q1 (events ++ enter_at g text m CodeTextSequence q ∷ []) read) (inner g text m q events ∷ cs) RawTextSequenceClose es
            (sees g text m l1 q1 at1)
            ended.1 (sizes-read g text m l local short ∙ other) (c.raw_text_sequence_close _)
            (leads-nok g text m (shows l1 in_run q1 (events ++ enter_at g text m CodeTextSequence q ∷ []) (counts read)) (inner g text m q events) cs es
            (subst (λ l. EndsWith g text m (held in_code q Nothing false l (counts read)) cs (Next RawTextBackticksStart) es)
            (sym (take_at events (enter_at g text m CodeTextSequence q ∷ []) (length events) refl))
            (goes-next g text m l in_code q events (counts read) cs RawTextBackticksStart at es
            (leads-seen g text m (before_chunk_rows r) (held in_code q Byte false events (counts read)) cs RawTextBackticksStart es (ap byte_of (at-front text.seats q s ss at)) refl (c.raw_text_backticks_start _)
            (loops g text m in_code_data cs RawTextBackticksInside is_backtick counts
            (λ q ended events local s at tick es.
            leads-seen g text m raw_text_backticks_inside_rows (held in_code_data q Byte ended events local) cs RawTextBackticksInside es (ap byte_of at)
            (class-rows g text m raw_text_backticks_inside_rows q s backtick (tick-class s.byte tick)) (c.raw_text_backticks_inside _))
            l q q1 begun noted at refl es
            (leads-seen g text m raw_text_backticks_inside_rows (shows l1 in_code_data q1 begun again) cs RawTextBackticksInside es (sees g text m l1 q1 at1) ended.4 (c.raw_text_backticks_inside _)
            (data-read g text m r c l1 q1 (q + (j + d)) begun (counts again) cs at1 place es
            (rw (behind, same) h))))))))),
      )

  -- data is, up to a line ending or the next backtick string
  pub reads-data : (q : ℕ) (s : Seat) (ss : List Seat) (events : List Event) (local : Local Unit Unit) (cs : List Choice) → drop q text.seats ≡ s ∷ ss → is_line_feed s.byte ≡ false
      → (backticks (bytes_of (s ∷ ss)) == size_b local) ≡ false → backticks (bytes_of (s ∷ ss)) < 2 ^ 64 → n.inside p from q local
      → ReadsData q s ss events local cs (plain_length is_backtick_or_line_feed (bytes_of (s ∷ ss)))
  reads-data q s ss events local cs at e other short inside =
      let l = s ∷ ss in
      let bytes = bytes_of l in
      let front = at-front text.seats q s ss at in
      elim (is_backtick s.byte) as (λ t. is_backtick s.byte ≡ t → ReadsData q s ss events local cs (plain_length is_backtick_or_line_feed bytes)) [
        | true ↦ λ tick.
            let some = run-positive s.byte (bytes_of ss) tick in
            let first : max 1 (backticks bytes) ≡ backticks bytes = omega (arith, some) in
            let rest : drop (backticks bytes) bytes ≡ bytes_of (past is_backtick l) = drop-map (λ (s : Seat). s.byte) (backticks bytes) l ∙ ap bytes_of (sym (past-is is_backtick l)) in
            let size = ap (λ r. r + data_length (drop r bytes)) first ∙ ap (λ k. backticks bytes + data_length k) rest in
            subst (λ n. ReadsData q s ss events local cs n) (sym size) (reads-chunk q s ss events local cs at tick other short inside)
        | false ↦ λ tickless.
            let plain : is_backtick_or_line_feed s.byte ≡ false = ap (λ t. t || is_backtick s.byte) e ∙ tickless in
            let size_of = data_length bytes in
            let begun = events ++ enter_at g text m CodeTextData q ∷ [] in
            let after = counts (passed is_code_byte counts l (counts local)) in
            let none : backticks bytes ≡ 0 = ap (λ t. cond t (1 + backticks (bytes_of ss)) 0) tickless in
            let some : size_of ≡ 1 + data_length (bytes_of ss) = ap (λ t. cond (not t) (1 + data_length (bytes_of ss)) 0) plain in
            let size : plain_length is_backtick_or_line_feed bytes ≡ size_of = ap (λ r. max 1 r + data_length (drop (max 1 r) bytes)) none ∙ sym some in
            let same = plain-events g text m size_of q s ss events at (omega (arith, some)) (count-within is_code_byte l) in
            subst (λ n. ReadsData q s ss events local cs n) (sym size) (
              after,
              passed-keeps size_b counts (λ l. refl) is_code_byte l (counts local),
              n.in_data p from q local s ss at plain inside,
              λ es h.
                  leads-seen g text m (between_rows r) (held in_code q Byte false events local) cs RawTextBetween es (ap byte_of front) (between-data r (before_class g text q) s.byte plain) (c.raw_text_between _)
                  (data-read g text m r c l q (q + size_of) begun (counts local) cs at refl es
                  (rw (past-is is_code_byte l, same) h)),
            )
      ] refl

-- A machine that remembers nothing reads line endings and data
pub reads-parts : (g : Given) (text : Text) (m : Plays g text) (c : PlaysCodeSpans g text m forgetful) (n : Known g text m forgetful) (p : ℕ) (from : Local Unit Unit) → ReadsPieces g text m forgetful c n p from into_parts
reads-parts g text m c n p from q s ss events local cs at other short inside =
    let l = s ∷ ss in
    let front = at-front text.seats q s ss at in
    elim (is_line_feed s.byte) as (λ t. is_line_feed s.byte ≡ t → let a = cond t line_ending (plain_run (plain_length is_backtick_or_line_feed (bytes_of l))) in
    ReadsAs g text m forgetful c n p from q s ss events local cs (part_length a) (part_events g.bytes CodeTextData (a, take (part_length a) l))) [
      | true ↦ λ e.
          let made = (events ++ enter_at g text m LineEnding q ∷ []) ++ event g.bytes Exit LineEnding (end_or text.end (slice_get text.seats q)) ∷ [] in (
            counts local,
            refl,
            n.line p from q local s ss at e inside,
            λ es h.
                leads-seen g text m (between_rows forgetful) (held in_code q Byte false events local) cs RawTextBetween es (ap byte_of front)
                (class-rows g text m (between_rows forgetful) q s line_feed (line-feed-class s.byte e)) (c.raw_text_between _)
                (goes-next g text m ss in_code (q + 1) made (counts local) cs RawTextBetween (drop-next text.seats q s ss at) es
                (subst (λ l. EndsWith g text m (shows ss in_code (q + 1) l (counts local)) cs (Retry RawTextBetween) es) (sym (line-ending-read g text events q s front)) h)),
          )
      | false ↦ λ e. reads-data g text m forgetful c n p from q s ss events local cs at e other short inside
    ] refl
