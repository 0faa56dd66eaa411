-- A machine that remembers backtick strings: what it knows of them where a code span is tried, in it, and where it is over; and how many calls are
-- counted.
use Rattle.markdown_base.proofs.Common.{drop-next, leads-back}
use Rattle.mdconstructs_tables.specs.Breaks.{is_white}
use Rattle.mdinline_text_machine.proofs.Prelude.{Between, Byte, Name, RawTextStart, Retry, code_span_found, eqb-true, ◌⊎◌, ◌≡◌, ℕ, ◌+◌, ◌-◌, ◌*◌, ◌≤◌, ◌==◌, ◌&&◌, not, ◌∷◌, ◌++◌, [], List, Bool, true, false, cond, refl, sym, ◌∙◌, ap, subst, inl, inr, None, arith, nat_tests, not-true, and_parts, cases_lt, length, drop, drop-drop, length-drop, at-front, Event, CodeTextData, Seat, Point, Given, Text, IsText, Local, counts, point_or, shown, passes, is_line_feed, is_backtick, is_backtick_or_line_feed, backticks, bytes_of, prefix_len}
use Rattle.mdinline_text_machine.proofs.CodeSpans.Cutting.{Cutting, events_of}
use Rattle.mdinline_text_machine.proofs.CodeSpans.Found.{first_run, further}
use Rattle.mdinline_text_machine.proofs.CodeSpans.Parts.{Known, ReadsPieces, chunk_after, closed_after, count-within, data_after, data_length, enter_at, grows_b, grows_c, is_code_byte, line_after, opened_after, run-positive, run_read, size_b, size_c, with_b, with_c}
use Rattle.mdinline_text_machine.proofs.CodeSpans.Items.{Ends, tries-code-span}
use Rattle.mdinline_text_machine.proofs.CodeSpans.Plays.{PlaysCodeSpans, Remembering, Notes, Writes}
use Rattle.mdinline_text_machine.proofs.CodeSpans.Short.{runs-of-text}
use Rattle.mdinline_text_machine.proofs.Constructs.Listed.{outer}
use Rattle.mdinline_text_machine.proofs.CodeSpans.Seen.{Complete, Sound, Tracks, behind-run, sound-run, tracks-as, tracks-data, tracks-line, tracks-none, tracks-run, tracks-white}
use Rattle.mdinline_text_machine.proofs.CodeSpans.Ticks.{tick-shown}
use Rattle.mdinline_text_machine.proofs.Plain.Passed.{after-passed}
use Rattle.mdinline_text_machine.proofs.Plain.Stretches.{first_byte, past, past-at, past-is, past-stops, passed}
use Rattle.mdinline_text_machine.proofs.Texts.Counted.{IsAfter, Remembered, after-call, remembered, after-sized}
use Rattle.mdinline_text_machine.proofs.Texts.Leads.{spent}
use Rattle.mdinline_text_machine.proofs.Texts.Steps.{Plays, between_items}

-- what is remembered beside backtick strings
abbrev pub others : Local Unit Unit → Remembered
others local = record (remembered local) { all_seen = true; runs = [] }

abbrev pub seen : Local Unit Unit → Bool
seen local = local.tokenize_state.seen

-- A memory of backtick strings: whether one of a length was seen that does not begin before an index; how one is noted, which begins where the last
-- event is and has the length that was read; and how it is noted that all were seen. And the state behind a line ending
pub record Memory : Type 0 where
  pub ahead : Local Unit Unit → (k index : ℕ) → Bool
  pub noted : Notes
  pub all_noted : Writes
  pub behind_line : Name
  pub same : (a b : Local Unit Unit) → (remembered a).runs ≡ (remembered b).runs → (k index : ℕ) → ahead a k index ≡ ahead b k index
  pub notes : (events : List Event) (e : Event) (local : Local Unit Unit) (index : ℕ) → index ≤ e.point.index → ahead (noted (events ++ e ∷ []) local) (size_c local) index ≡ true
  pub keeps_old : (events : List Event) (local : Local Unit Unit) (k index : ℕ) → ahead local k index ≡ true → ahead (noted events local) k index ≡ true
  pub new_is : (events : List Event) (e : Event) (local : Local Unit Unit) (k index : ℕ) → ahead (noted (events ++ e ∷ []) local) k index ≡ true
      → (ahead local k index ≡ true) ⊎ ((k ≡ size_c local) × (index ≤ e.point.index))
  pub noted_calls : (events : List Event) (local : Local Unit Unit) → spent (noted events local) ≡ spent local
  pub noted_seen : (events : List Event) (local : Local Unit Unit) → seen (noted events local) ≡ seen local
  pub noted_others : (events : List Event) (local : Local Unit Unit) → others (noted events local) ≡ others local
  pub all_ahead : (local : Local Unit Unit) (k index : ℕ) → ahead (all_noted local) k index ≡ ahead local k index
  pub all_calls : (local : Local Unit Unit) → spent (all_noted local) ≡ spent local
  pub all_seen : (local : Local Unit Unit) → seen (all_noted local) ≡ true
  pub all_others : (local : Local Unit Unit) → others (all_noted local) ≡ others local

-- what the states do with it
abbrev pub remembering : Memory → Remembering
remembering y = record {
  hopeless = λ p local. seen local && not (y.ahead local (size_b local) p.index);
  noted = y.noted;
  all_noted = y.all_noted;
  behind_line = y.behind_line;
}

-- a call that writes one of the two sizes
after-c : (n : ℕ) (local : Local Unit Unit) → IsAfter 1 local (with_c n (counts local))
after-c n local = record { calls = omega arith; same = refl }

after-grows_c : (local : Local Unit Unit) → IsAfter 1 local (grows_c local)
after-grows_c local = record { calls = omega arith; same = refl }

after-grows_b : (local : Local Unit Unit) → IsAfter 1 local (grows_b local)
after-grows_b local = record { calls = omega arith; same = refl }

-- the calls of the parts
after-opened : (l : List Seat) (local : Local Unit Unit) → IsAfter (backticks (bytes_of l) + 2) local (opened_after l local)
after-opened l local =
    let begun = with_b 0 (counts local) in
    let read = passed is_backtick grows_b l begun in
    let one = after-sized 0 local in
    let all = after-passed grows_b after-grows_b is_backtick l begun in
    let last = after-call read in
    record { calls = omega (arith, one.calls, all.calls, last.calls); same = last.same ∙ all.same ∙ one.same }

after-run : (l : List Seat) (local : Local Unit Unit) → IsAfter (backticks (bytes_of l) + 3) local (counts (counts (run_read l local)))
after-run l local =
    let begun = with_c 0 (counts local) in
    let read = run_read l local in
    let one = after-c 0 local in
    let all = after-passed grows_c after-grows_c is_backtick l begun in
    let once = after-call read in
    let twice = after-call (counts read) in
    record { calls = omega (arith, one.calls, all.calls, once.calls, twice.calls); same = twice.same ∙ once.same ∙ all.same ∙ one.same }

after-data : (l : List Seat) (local : Local Unit Unit) → IsAfter (data_length (bytes_of l) + 2) local (data_after l local)
after-data l local =
    let begun = counts local in
    let read = passed is_code_byte counts l begun in
    let one = after-call local in
    let all = after-passed counts after-call is_code_byte l begun in
    let last = after-call read in
    record { calls = omega (arith, one.calls, all.calls, last.calls); same = last.same ∙ all.same ∙ one.same }

after-line : (ss : List Seat) (local : Local Unit Unit) → IsAfter (prefix_len is_white (bytes_of ss) + 2) local (line_after ss local)
after-line ss local =
    let begun = counts local in
    let read = passed is_white counts ss begun in
    let one = after-call local in
    let all = after-passed counts after-call is_white ss begun in
    let last = after-call read in
    record { calls = omega (arith, one.calls, all.calls, last.calls); same = last.same ∙ all.same ∙ one.same }

after-noted : (l : List Seat) (noted : Local Unit Unit)
    → IsAfter (backticks (bytes_of l) + data_length (bytes_of (past is_backtick l)) + 2) noted (counts (passed is_code_byte counts (past is_backtick l) (counts (passed is_backtick counts l noted))))
after-noted l noted =
    let again = passed is_backtick counts l noted in
    let one = after-passed counts after-call is_backtick l noted in
    let rest = after-data (past is_backtick l) again in
    record { calls = omega (arith, one.calls, rest.calls); same = rest.same ∙ one.same }

-- what is left behind some bytes
length-behind : (xs : List Seat) (q n : ℕ) (l : List Seat) → drop q xs ≡ l → n ≤ length l → length (drop (q + n) xs) + n ≡ length (drop q xs)
length-behind xs q n l at h =
    let behind : length (drop (q + n) xs) ≡ length l - n = ap length (sym (drop-drop n q xs) ∙ ap (drop n) at) ∙ length-drop n l in
    let whole : length (drop q xs) ≡ length l = ap length at in
    omega (arith, behind, whole, h)

nothing-behind : (xs : List Seat) (q r : ℕ) (t : Seat) (ts : List Seat) → drop q xs ≡ [] → drop r xs ≡ t ∷ ts → r ≤ q
nothing-behind xs q r t ts ended at = elim (cases_lt q r) [
  | inl later ↦
      let place : q + (r - q) ≡ r = omega (arith, later) in
      let none : length (drop r xs) ≡ length (drop q xs) - (r - q) = ap (λ n. length (drop n xs)) (sym place) ∙ ap length (sym (drop-drop (r - q) q xs)) ∙ length-drop (r - q) (drop q xs) in
      absurd (omega (arith, none, ap length ended, ap length at))
  | inr upto ↦ upto
]

module _ (g : Given) (text : Text) (is : IsText g text) (m : Plays g text) (y : Memory) where
  abbrev xs : List Seat
  xs = text.seats

  -- how long the backtick string at a place is
  abbrev pub run_at : ℕ → ℕ
  run_at p = backticks (bytes_of (drop p xs))

  -- the calls of the one look that may still come to the end
  abbrev pub owed : ℕ → Local Unit Unit → ℕ
  owed p local = cond (seen local) 0 (7 * length (drop p xs))

  -- What is known where a code span is tried: what is remembered is sound from there on, and complete if all was seen
  pub record KnowsRuns (p : ℕ) (local : Local Unit Unit) : Type 0 where
    pub sound : Sound xs (y.ahead local) p
    pub complete : seen local ≡ true → Complete xs (y.ahead local) p

  -- in a code span
  pub record InsideRuns (p : ℕ) (from : Local Unit Unit) (q : ℕ) (local : Local Unit Unit) : Type 0 where
    pub later : p ≤ q
    pub sound : Sound xs (y.ahead local) p
    pub tracks : Tracks xs (y.ahead local) (p + run_at p) q false
    pub grows : (k index : ℕ) → y.ahead from k index ≡ true → y.ahead local k index ≡ true
    pub complete : seen from ≡ true → Complete xs (y.ahead from) p
    pub hopeful : seen from ≡ true → (t : Seat) (ts : List Seat) → past is_backtick (drop p xs) ≡ t ∷ ts → first_run (run_at p) false (bytes_of (t ∷ ts)) ≡ None → ⊥
    pub calls : spent local + 7 * length (drop q xs) ≤ spent from + 7 * length (drop p xs) + 2
    pub seen_same : seen local ≡ seen from
    pub others_same : others local ≡ others from

  -- Where it is not there: a look to the end is paid once, and else the backtick string is paid
  pub record LeftRuns (p : ℕ) (from after : Local Unit Unit) : Type 0 where
    pub knows : KnowsRuns p after
    pub calls : spent after + owed p after ≤ spent from + owed p from + (7 * run_at p + 3)
    pub others_same : others after ≡ others from

  -- Behind it: its bytes are paid
  pub record ReadRuns (p : ℕ) (from : Local Unit Unit) (q : ℕ) (after : Local Unit Unit) : Type 0 where
    pub knows : KnowsRuns q after
    pub calls : spent after + 7 * length (drop q xs) ≤ spent from + 7 * length (drop p xs) + 2
    pub seen_same : seen after ≡ seen from
    pub others_same : others after ≡ others from

  -- calls that write nothing of what is remembered
  alike-after : (n : ℕ) (local after : Local Unit Unit) → IsAfter n local after → (k index : ℕ) → y.ahead after k index ≡ y.ahead local k index
  alike-after n local after a = y.same after local (ap (λ (x : Remembered). x.runs) a.same)

  seen-after : (n : ℕ) (local after : Local Unit Unit) → IsAfter n local after → seen after ≡ seen local
  seen-after n local after a = ap (λ (x : Remembered). x.all_seen) a.same

  others-after : (n : ℕ) (local after : Local Unit Unit) → IsAfter n local after → others after ≡ others local
  others-after n local after a = ap (λ (x : Remembered). record x { all_seen = true; runs = [] }) a.same

  sound-as : (p : ℕ) (a b : Local Unit Unit) → ((k index : ℕ) → y.ahead b k index ≡ y.ahead a k index) → Sound xs (y.ahead a) p → Sound xs (y.ahead b) p
  sound-as p a b alike sound j some r t ts lo at other none = alike j t.point.index ∙ sound j some r t ts lo at other none

  complete-as : (p : ℕ) (a b : Local Unit Unit) → ((k index : ℕ) → y.ahead b k index ≡ y.ahead a k index) → Complete xs (y.ahead a) p → Complete xs (y.ahead b) p
  complete-as p a b alike complete j some r t ts lo at other dark = complete j some r t ts lo at other (sym (alike j t.point.index) ∙ dark)

  -- they go on in the code span
  moves : (n p : ℕ) (from : Local Unit Unit) (q q' : ℕ) (local after : Local Unit Unit) → IsAfter n local after → Tracks xs (y.ahead local) (p + run_at p) q' false
      → n + 7 * length (drop q' xs) ≤ 7 * length (drop q xs) → q ≤ q' → InsideRuns p from q local → InsideRuns p from q' after
  moves n p from q q' local after a tracks paid on h =
      let alike = alike-after _ local after a in
      record {
        later = omega (arith, h.later, on);
        sound = sound-as p local after alike h.sound;
        tracks = tracks-as xs (y.ahead local) (y.ahead after) (p + run_at p) q' alike tracks;
        grows = λ k index e. alike k index ∙ h.grows k index e;
        complete = h.complete;
        hopeful = h.hopeful;
        calls = omega (arith, a.calls, h.calls, paid);
        seen_same = seen-after n local after a ∙ h.seen_same;
        others_same = others-after n local after a ∙ h.others_same;
      }

  pub line : (p : ℕ) (from : Local Unit Unit) (q : ℕ) (local : Local Unit Unit) (s : Seat) (ss : List Seat) → drop q xs ≡ s ∷ ss → is_line_feed s.byte ≡ true
      → InsideRuns p from q local → InsideRuns p from (q + 1) (counts local)
  line p from q local s ss at feed h =
      let other : (s.byte == 96) ≡ false = grind (arith, nat_tests) in
      moves 1 p from q (q + 1) local (counts local) (after-call local) (tracks-line xs (y.ahead local) (p + run_at p) q s ss at other h.tracks)
      (omega (arith, length-behind xs q 1 (s ∷ ss) at (omega arith))) (omega arith) h

  pub white-line : (p : ℕ) (from : Local Unit Unit) (q : ℕ) (local : Local Unit Unit) (s : Seat) (ss : List Seat) → drop q xs ≡ s ∷ ss → is_line_feed s.byte ≡ true
      → InsideRuns p from q local → InsideRuns p from (q + (1 + prefix_len is_white (bytes_of ss))) (line_after ss local)
  white-line p from q local s ss at feed h =
      let n = prefix_len is_white (bytes_of ss) in
      let other : (s.byte == 96) ≡ false = grind (arith, nat_tests) in
      let next : drop (q + 1) xs ≡ ss = drop-next xs q s ss at in
      let place : q + 1 + n ≡ q + (1 + n) = omega arith in
      let tracks = subst (λ e. Tracks xs (y.ahead local) (p + run_at p) e false) place
      (tracks-white xs (y.ahead local) (p + run_at p) ss (q + 1) next (tracks-line xs (y.ahead local) (p + run_at p) q s ss at other h.tracks)) in
      moves (n + 2) p from q (q + (1 + n)) local (line_after ss local) (after-line ss local) tracks
      (omega (arith, length-behind xs q (1 + n) (s ∷ ss) at (omega (arith, count-within is_white ss)))) (omega arith) h

  pub in-data : (p : ℕ) (from : Local Unit Unit) (q : ℕ) (local : Local Unit Unit) (s : Seat) (ss : List Seat) → drop q xs ≡ s ∷ ss → is_backtick_or_line_feed s.byte ≡ false
      → InsideRuns p from q local → InsideRuns p from (q + data_length (bytes_of (s ∷ ss))) (data_after (s ∷ ss) local)
  in-data p from q local s ss at plain h =
      let d = data_length (bytes_of (s ∷ ss)) in
      let some : d ≡ 1 + data_length (bytes_of ss) = ap (λ t. cond (not t) (1 + data_length (bytes_of ss)) 0) plain in
      moves (d + 2) p from q (q + d) local (data_after (s ∷ ss) local) (after-data (s ∷ ss) local) (tracks-data xs (y.ahead local) (p + run_at p) (s ∷ ss) q at h.tracks)
      (omega (arith, some, length-behind xs q d (s ∷ ss) at (count-within is_code_byte (s ∷ ss)))) (omega arith) h

  pub chunk : (p : ℕ) (from : Local Unit Unit) (q : ℕ) (local : Local Unit Unit) (s : Seat) (ss : List Seat) → drop q xs ≡ s ∷ ss → is_backtick s.byte ≡ true
      → size_c (run_read (s ∷ ss) local) ≡ backticks (bytes_of (s ∷ ss)) → (events : List Event) → InsideRuns p from q local
      → InsideRuns p from (q + (backticks (bytes_of (s ∷ ss)) + data_length (bytes_of (past is_backtick (s ∷ ss))))) (chunk_after (remembering y) (events ++ enter_at g text m CodeTextData q ∷ []) (s ∷ ss) local)
  chunk p from q local s ss at tick size events h =
      let l = s ∷ ss in
      let k = backticks (bytes_of l) in
      let rest = past is_backtick l in
      let d = data_length (bytes_of rest) in
      let e = enter_at g text m CodeTextData q in
      let mid = counts (counts (run_read l local)) in
      let noted = y.noted (events ++ e ∷ []) mid in
      let after = chunk_after (remembering y) (events ++ e ∷ []) l local in
      let a = after-run l local in
      let b = after-noted l noted in
      let place : e.point.index ≡ s.point.index = ap (λ o. (shown g.bytes (point_or text.end o)).index) (at-front xs q s ss at) ∙ ap (λ (x : Point). x.index) (tick-shown g text is q s ss at tick) in
      let kept : (j i : ℕ) → y.ahead local j i ≡ true → y.ahead after j i ≡ true =
      λ j i old. alike-after _ noted after b j i ∙ y.keeps_old (events ++ e ∷ []) mid j i (alike-after _ local mid a j i ∙ old) in
      let less : (j i : ℕ) → y.ahead after j i ≡ false → y.ahead local j i ≡ false = λ j i dark. leads-back (y.ahead local j i) (y.ahead after j i) (kept j i) dark in
      let now : (i : ℕ) → i ≤ s.point.index → y.ahead after k i ≡ true =
      λ i le. alike-after _ noted after b k i ∙ subst (λ j. y.ahead noted j i ≡ true) size (y.notes events e mid i (omega (arith, le, place))) in
      let new : (j i : ℕ) → y.ahead after j i ≡ true → (y.ahead local j i ≡ true) ⊎ ((j ≡ k) × (i ≤ s.point.index)) =
      λ j i lit. elim (y.new_is events e mid j i (sym (alike-after _ noted after b j i) ∙ lit)) [
        | inl old ↦ inl (sym (alike-after _ local mid a j i) ∙ old)
        | inr it ↦ inr (it.0 ∙ size, omega (arith, it.1, place))
      ] in
      let some = run-positive s.byte (bytes_of ss) tick in
      let first = length-behind xs q k l at (count-within is_backtick l) in
      let behind : drop (q + k) xs ≡ rest = past-at g text m is_backtick l q (q + k) at refl in
      let second = length-behind xs (q + k) d rest behind (count-within is_code_byte rest) in
      let whole : length (drop (q + k + d) xs) ≡ length (drop (q + (k + d)) xs) = let sum : q + k + d ≡ q + (k + d) = omega arith in ap (λ n. length (drop n xs)) sum in
      record {
        later = omega (arith, h.later);
        sound = sound-run g text is (y.ahead local) (y.ahead after) p q s ss at tick h.tracks h.sound new;
        tracks = tracks-run g text is (y.ahead local) (y.ahead after) (p + run_at p) q s ss at tick h.tracks less now;
        grows = λ j i old. kept j i (h.grows j i old);
        complete = h.complete;
        hopeful = h.hopeful;
        calls = omega (arith, a.calls, b.calls, y.noted_calls (events ++ e ∷ []) mid, h.calls, some, first, second, whole);
        seen_same = seen-after _ noted after b ∙ y.noted_seen (events ++ e ∷ []) mid ∙ seen-after _ local mid a ∙ h.seen_same;
        others_same = others-after _ noted after b ∙ y.noted_others (events ++ e ∷ []) mid ∙ others-after _ local mid a ∙ h.others_same;
      }

  -- behind the opening backtick string
  module _ (p : ℕ) (from : Local Unit Unit) (s : Seat) (ss : List Seat) (at : drop p xs ≡ s ∷ ss) (tick : is_backtick s.byte ≡ true) (knows : KnowsRuns p from) where
    abbrev l : List Seat
    l = s ∷ ss

    abbrev k : ℕ
    k = backticks (bytes_of l)

    abbrev opened : Local Unit Unit
    opened = opened_after l from

    same-run : run_at p ≡ k
    same-run = ap (λ l. backticks (bytes_of l)) at

    alike : (j i : ℕ) → y.ahead opened j i ≡ y.ahead from j i
    alike = alike-after _ from opened (after-opened l from)

    plain-behind : (t : Seat) (ts : List Seat) → past is_backtick l ≡ t ∷ ts → is_backtick t.byte ≡ false
    plain-behind t ts behind = ap (λ l. passes is_backtick (first_byte l)) (sym behind) ∙ past-stops is_backtick l

    place-behind : (t : Seat) (ts : List Seat) → past is_backtick l ≡ t ∷ ts → drop (p + k) xs ≡ t ∷ ts
    place-behind t ts behind = past-at g text m is_backtick l p (p + k) at refl ∙ behind

    pub opens : size_b opened ≡ k → ((t : Seat) (ts : List Seat) → past is_backtick l ≡ t ∷ ts → (remembering y).hopeless t.point opened ≡ false) → InsideRuns p from (p + k) opened
    opens size hopeful =
        let a = after-opened l from in
        record {
          later = omega arith;
          sound = sound-as p from opened alike knows.sound;
          tracks = subst (λ n. Tracks xs (y.ahead opened) (p + n) (p + k) false) (sym same-run) (tracks-none xs (y.ahead opened) (p + k));
          grows = λ j i e. alike j i ∙ e;
          complete = knows.complete;
          hopeful = λ all t ts behind none.
              let past_l : past is_backtick l ≡ t ∷ ts = ap (past is_backtick) (sym at) ∙ behind in
              let none_k : first_run k false (bytes_of (t ∷ ts)) ≡ None = ap (λ n. first_run n false (bytes_of (t ∷ ts))) (sym same-run) ∙ none in
              let dark = knows.sound k (run-positive s.byte (bytes_of ss) tick) (p + k) t ts (omega arith) (place-behind t ts past_l) (plain-behind t ts past_l) none_k in
              let unlit : y.ahead opened (size_b opened) t.point.index ≡ false = ap (λ n. y.ahead opened n t.point.index) size ∙ alike k t.point.index ∙ dark in
              let lost : (seen opened && not (y.ahead opened (size_b opened) t.point.index)) ≡ true =
              ap (λ b. b && not (y.ahead opened (size_b opened) t.point.index)) (seen-after _ from opened a ∙ all) ∙ ap not unlit in
              let no : true ≡ false = sym lost ∙ hopeful t ts past_l in absurd (cc);
          calls = omega (arith, a.calls, length-behind xs p k l at (count-within is_backtick l), run-positive s.byte (bytes_of ss) tick);
          seen_same = seen-after _ from opened a;
          others_same = others-after _ from opened a;
        }

    pub gives-up : size_b opened ≡ k → (t : Seat) (ts : List Seat) → past is_backtick l ≡ t ∷ ts → (remembering y).hopeless t.point opened ≡ true → (first_run k false (bytes_of (t ∷ ts)) ≡ None) × LeftRuns p from opened
    gives-up size t ts behind hopeless =
        let a = after-opened l from in
        let it = and_parts (seen opened) (not (y.ahead opened (size_b opened) t.point.index)) hopeless in
        let all : seen from ≡ true = sym (seen-after _ from opened a) ∙ it.0 in
        let dark : y.ahead from k t.point.index ≡ false = sym (alike k t.point.index) ∙ ap (λ n. y.ahead opened n t.point.index) (sym size) ∙ not-true (y.ahead opened (size_b opened) t.point.index) it.1 in
        let none_owed : owed p opened ≡ 0 = ap (λ b. cond b 0 (7 * length (drop p xs))) it.0 in (
          knows.complete all k (run-positive s.byte (bytes_of ss) tick) (p + k) t ts (omega arith) (place-behind t ts behind) (plain-behind t ts behind) dark,
          record {
            knows = record { sound = sound-as p from opened alike knows.sound; complete = λ e. complete-as p from opened alike (knows.complete all) };
            calls = omega (arith, a.calls, none_owed, same-run);
            others_same = others-after _ from opened a;
          },
        )

  -- at the end of the text
  pub ends : (p : ℕ) (from : Local Unit Unit) (s : Seat) (ss : List Seat) → drop p xs ≡ s ∷ ss → (q : ℕ) (local : Local Unit Unit) → drop q xs ≡ []
      → first_run (backticks (bytes_of (s ∷ ss))) false (bytes_of (past is_backtick (s ∷ ss))) ≡ None → InsideRuns p from q local → LeftRuns p from (y.all_noted (counts local))
  ends p from s ss at q local ended none h =
      let l = s ∷ ss in
      let k = backticks (bytes_of l) in
      let after = y.all_noted (counts local) in
      let a = after-call local in
      let alike : (j i : ℕ) → y.ahead after j i ≡ y.ahead local j i = λ j i. y.all_ahead (counts local) j i ∙ alike-after _ local (counts local) a j i in
      let same_run : run_at p ≡ k = ap (λ l. backticks (bytes_of l)) at in
      let none_owed : owed p after ≡ 0 = ap (λ b. cond b 0 (7 * length (drop p xs))) (y.all_seen (counts local)) in
      let none_left : length (drop q xs) ≡ 0 = ap length ended in
      let spent_so : spent after ≡ spent (counts local) = y.all_calls (counts local) in
      let paid : spent after ≤ spent from + owed p from + (7 * k + 3) =
      elim (seen from) as (λ b. seen from ≡ b → spent after ≤ spent from + cond b 0 (7 * length (drop p xs)) + (7 * k + 3)) [
        | true ↦ λ all. elim (past is_backtick l) as (λ rest. past is_backtick l ≡ rest → spent after ≤ spent from + 0 + (7 * k + 3)) [
          | [] ↦ λ behind.
              let short : length l - k ≡ 0 = sym (length-drop k l) ∙ ap length (sym (past-is is_backtick l) ∙ behind) in
              omega (arith, short, ap length at, h.calls, none_left, a.calls, spent_so)
          | t ∷ ts ↦ λ behind.
              absurd (h.hopeful all t ts (ap (past is_backtick) at ∙ behind)
              (ap (λ n. first_run n false (bytes_of (t ∷ ts))) same_run ∙ ap (λ l. first_run k false (bytes_of l)) (sym behind) ∙ none))
        ] refl
        | false ↦ λ some. omega (arith, h.calls, none_left, a.calls, spent_so)
      ] refl in
      record {
        knows = record {
          sound = sound-as p local after alike h.sound;
          complete = λ e j some r t ts lo here other dark.
              h.tracks.through j some r t ts (behind-run xs p r t ts here other lo) (nothing-behind xs q r t ts ended here) here other (sym (alike j t.point.index) ∙ dark)
              ∙ ap (λ l. further (q - r) (first_run j false (bytes_of l))) ended;
        };
        calls = omega (arith, paid, none_owed, same_run);
        others_same = y.all_others (counts local) ∙ others-after 1 local (counts local) a ∙ h.others_same;
      }

  -- behind the closing backtick string
  pub closes : (p : ℕ) (from : Local Unit Unit) (q : ℕ) (local : Local Unit Unit) (s : Seat) (ss : List Seat) → drop q xs ≡ s ∷ ss → is_backtick s.byte ≡ true
      → InsideRuns p from q local → ReadRuns p from (q + backticks (bytes_of (s ∷ ss))) (closed_after (s ∷ ss) local)
  closes p from q local s ss at tick h =
      let l = s ∷ ss in
      let k = backticks (bytes_of l) in
      let after = closed_after l local in
      let a = after-run l local in
      let alike = alike-after _ local after a in
      record {
        knows = record {
          sound = λ j some r t ts lo here other none. alike j t.point.index ∙ h.sound j some r t ts (omega (arith, lo, h.later)) here other none;
          complete = λ all j some r t ts lo here other dark.
              h.complete (sym h.seen_same ∙ sym (seen-after _ local after a) ∙ all) j some r t ts (omega (arith, lo, h.later)) here other
              (leads-back (y.ahead from j t.point.index) (y.ahead local j t.point.index) (h.grows j t.point.index) (sym (alike j t.point.index) ∙ dark));
        };
        calls = omega (arith, a.calls, h.calls, length-behind xs q k l at (count-within is_backtick l), run-positive s.byte (bytes_of ss) tick);
        seen_same = seen-after _ local after a ∙ h.seen_same;
        others_same = others-after _ local after a ∙ h.others_same;
      }

  -- So much is known of a machine that remembers backtick strings
  abbrev pub known_runs : Known g text m (remembering y)
  known_runs = record {
    knows = KnowsRuns;
    inside = InsideRuns;
    left = LeftRuns;
    read = ReadRuns;
    opens = λ p from s ss at tick size hopeful knows. opens p from s ss at tick knows size hopeful;
    gives_up = λ p from s ss at tick size knows t ts behind hopeless. gives-up p from s ss at tick knows size t ts behind hopeless;
    line = line;
    white_line = white-line;
    in_data = in-data;
    chunk = chunk;
    ends = ends;
    closes = closes;
  }

  -- ---- what is known further on, and at first
  pub knows-later : (p p' : ℕ) (local after : Local Unit Unit) → p ≤ p' → (remembered after).runs ≡ (remembered local).runs → seen after ≡ seen local → KnowsRuns p local → KnowsRuns p' after
  knows-later p p' local after on runs all knows =
      let alike = y.same after local runs in
      record {
        sound = λ j some r t ts lo. sound-as p local after alike knows.sound j some r t ts (omega (arith, lo, on));
        complete = λ e j some r t ts lo. complete-as p local after alike (knows.complete (sym all ∙ e)) j some r t ts (omega (arith, lo, on));
      }

  pub knows-as : (p : ℕ) (local after : Local Unit Unit) → remembered after ≡ remembered local → KnowsRuns p local → KnowsRuns p after
  knows-as p local after same knows = knows-later p p local after (omega arith) (ap (λ (x : Remembered). x.runs) same) (ap (λ (x : Remembered). x.all_seen) same) knows

  pub knows-nothing : (p : ℕ) (local : Local Unit Unit) → ((k index : ℕ) → y.ahead local k index ≡ false) → seen local ≡ false → KnowsRuns p local
  knows-nothing p local none unseen = record {
    sound = λ j some r t ts lo here other h. none j t.point.index;
    complete = λ e. let no : true ≡ false = sym e ∙ unseen in absurd (cc);
  }

  -- ---- calls
  -- a byte further on no more is owed
  pub left-paid : (p : ℕ) (from after : Local Unit Unit) (s : Seat) (ss : List Seat) → drop p xs ≡ s ∷ ss → LeftRuns p from after
      → spent after + owed (p + 1) after ≤ spent from + owed p from + (7 * run_at p + 3)
  left-paid p from after s ss at h =
      let less = length-behind xs p 1 (s ∷ ss) at (omega arith) in
      let owes : owed (p + 1) after ≤ owed p after = elim (seen after) as (λ b. cond b 0 (7 * length (drop (p + 1) xs)) ≤ cond b 0 (7 * length (drop p xs))) [
        | true ↦ omega arith
        | false ↦ omega (arith, less)
      ] in
      omega (arith, owes, h.calls)

  -- and a code span that is there is paid by its bytes
  pub read-paid : (p n : ℕ) (from after : Local Unit Unit) (rest : List Seat) → drop p xs ≡ rest → n ≤ length rest → ReadRuns p from (p + n) after
      → spent after + owed (p + n) after ≤ spent from + owed p from + (7 * n + 2)
  read-paid p n from after rest at within h =
      let less = length-behind xs p n rest at within in
      let owes : (b : Bool) → spent after + cond b 0 (7 * length (drop (p + n) xs)) ≤ spent from + cond b 0 (7 * length (drop p xs)) + (7 * n + 2) =
      λ b. elim b as (λ b. spent after + cond b 0 (7 * length (drop (p + n) xs)) ≤ spent from + cond b 0 (7 * length (drop p xs)) + (7 * n + 2)) [
        | true ↦ omega (arith, less, h.calls)
        | false ↦ omega (arith, less, h.calls)
      ] in
      subst (λ b. spent after + cond b 0 (7 * length (drop (p + n) xs)) ≤ spent from + owed p from + (7 * n + 2)) (sym h.seen_same) (owes (seen from))

  -- ---- The theorem of code spans that are read by such a machine
  module _ (c : PlaysCodeSpans g text m (remembering y)) (names : Between) (ps : Cutting) (reads : (p : ℕ) (from : Local Unit Unit) → ReadsPieces g text m (remembering y) c known_runs p from ps) where
    pub remembered-code-spans-read : (nok : Name) (p : ℕ) (ended : Bool) (events : List Event) (local : Local Unit Unit) (s : Seat) (ss : List Seat) → drop p text.seats ≡ s ∷ ss → is_backtick s.byte ≡ true
        → KnowsRuns p local
        → Ends g text m (remembering y) c known_runs names ps reads local nok p ended events (s ∷ ss) (between_items p Byte ended events local) (outer names.home nok p ended events ∷ []) (Retry RawTextStart) (code_span_found (events_of ps) (bytes_of (s ∷ ss)))
    remembered-code-spans-read nok p ended events local s ss here first knows =
        tries-code-span g text m (remembering y) c known_runs names ps reads (runs-of-text g text is) nok p ended events local s ss here (eqb-true s.byte 96 first) knows
