-- How the machine of inline text reads data: up to a byte that something else may begin with; or up to white space with which its line ends, and then that
-- too; and in how many calls.
use Rattle.mdinline_text_machine.proofs.Plain.Stretches.{past}
use Rattle.mdinline_machine.proofs.Prelude.{as_asked, ◌≡◌, ℕ, zero, suc, ◌+◌, ◌*◌, ◌<◌, ◌≤◌, ◌&&◌, ◌||◌, List, [], ◌∷◌, ◌++◌, Bool, true, false, cond, Some, refl, sym, ap, ◌∙◌, subst, arith, append-nil, append_assoc, length, take, take-take, drop, drop-take, drop-drop, drop-map, length-drop, length-map, prefix_len, slice_get, drop-next, Constructs, Event, Exit, EventName, Data, Name, Next, Retry, DataInside, TextBefore, TextBeforeData, Seat, Byte, Nothing, Configuration, Local, byte_of, end_place, sight, Given, Text, at-front, is_white, counts, AddsItemIn, adds-more, BeginsData, data-begun, entered_data, goes-back, goes-next, leaf-read, past-is, past-stops, first_byte, shows, IsAfter, after-call, after-more, after-within, Ending, EndsWith, Leads, Plays, between_items, passes, between_texts, bytes_of, event, first_plain, item_events, item_length, leaf, leads-step, run-some, is_white_left, Found, consumed, exited, data_length, ends_data, ends_data_at, up_to}
use Rattle.mdinline_machine.proofs.DataBytes.{data-within, data_joined, white-data, white_behind}
use Rattle.mdinline_machine.proofs.InlineApart.{white-plain}
use Rattle.mdinline_machine.proofs.WhiteBytes.{White, found-size, found_white, no_item, over-white, white-ends, white-last, white-none}
use Rattle.mdinline_machine.proofs.WhiteReads.{PlaysWhite, ReadsTo, StopsData, all_white, as-found, breaks_here, counted, begins-data, data-made, ends_line, followed, no-line, rest-at, rest-is, to-rest}

module _ (g : Given) (text : Text) (m : Plays g text) {plain inside : White → Name} (plays : PlaysWhite g text m plain inside) where
  abbrev on : Constructs
  on = g.options.constructs

  abbrev in_data : List EventName
  in_data = Data ∷ []

  abbrev with_end : List Event → ℕ → List Event
  with_end events q = events ++ event g.bytes Exit Data (end_place text q) ∷ []

  -- how many bytes of data come next
  abbrev pub next_data : List Seat → ℕ
  next_data l = up_to (ends_data_at on) (bytes_of l)

  -- the white space at the end of a line that is at the front, or nothing
  abbrev white_at : List Seat → Found
  white_at l = white_behind on (bytes_of l)

  -- data ended at a place, and this behind it was read
  abbrev reached_by : List Event → ℕ → List Seat → Found → Bool → Local Unit Unit → Configuration Unit Unit
  reached_by events q l w ended after = between_items (q + item_length w) Nothing ended (with_end events q ++ item_events g.bytes (w, take (item_length w) l)) after

  abbrev pub reached : List Event → ℕ → List Seat → Bool → Local Unit Unit → Configuration Unit Unit
  reached events q l ended after = reached_by events q l (white_at l) ended after

  -- from a state in data its next bytes are read, it ends, and the white space behind it is read, within so many calls
  abbrev ReadFrom : (l : List Seat) (q : ℕ) (events : List Event) (local : Local Unit Unit) → Name → (n calls : ℕ) → Type 0
  ReadFrom l q events local name n calls =
      (ended : Bool) × (after : Local Unit Unit) × IsAfter calls local after × Leads g text m (shows l in_data q events local) [] (Retry name) (reached events (q + n) (drop n l) ended after) [] (Next TextBefore)

  -- in two calls more than it has bytes
  abbrev ReadAll : (l : List Seat) (q : ℕ) (events : List Event) (local : Local Unit Unit) → Name → (n : ℕ) → Type 0
  ReadAll l q events local name n = ReadFrom l q events local name n (n + item_length (white_at (drop n l)) + 2)

  abbrev pub DataRead : List Seat → Type 0
  DataRead l = (q : ℕ) (events : List Event) (local : Local Unit Unit) → drop q text.seats ≡ l → ReadAll l q events local DataInside (next_data l)

  -- more calls may be counted
  read-more : (l : List Seat) (q : ℕ) (events : List Event) (local : Local Unit Unit) (name : Name) (n calls more : ℕ) → calls ≤ more → ReadFrom l q events local name n calls → ReadFrom l q events local name n more
  read-more l q events local name n calls more h read = (read.0, read.1, after-within calls more local read.1 h read.2, read.3)

  -- it ends at once, and nothing is behind it
  ends-here : (l : List Seat) (q : ℕ) (events : List Event) (local : Local Unit Unit) (name : Name) → drop q text.seats ≡ l → white_at l ≡ no_item → StopsData g text m (shows l in_data q events local) name → ReadFrom l q events local name 0 1
  ends-here l q events local name at none stops =
      let k = shows l in_data q events local in
      let after = counts local in
      let place : q + 0 + 0 ≡ q = omega arith in
      let first : q + 0 ≡ q = omega arith in
      let same : with_end events (q + 0) ++ [] ≡ with_end events q = append-nil (with_end events (q + 0)) ∙ ap (with_end events) first in (
        false,
        after,
        after-call local,
        λ es h.
            leads-step as_asked g text m.step k [] name (record { configuration = exited Data (sight g text k).exit_place (counted g text m k); choices = []; answer = Retry TextBefore }) stops es
            (goes-back g text m l [] q (with_end events q) after [] TextBefore at es
            (subst (λ n. EndsWith g text m (between_items n Nothing false (with_end events q) after) [] (Next TextBefore) es) place
            (subst (λ xs. EndsWith g text m (between_items (q + 0 + 0) Nothing false xs after) [] (Next TextBefore) es) same
            (subst (λ w. EndsWith g text m (reached_by events (q + 0) l w false after) [] (Next TextBefore) es) none h)))),
      )

  -- a byte is read, and what is behind it
  one-more : (s : Seat) (ss : List Seat) (q : ℕ) (events : List Event) (name : Name) (local : Local Unit Unit) (n : ℕ) → drop q text.seats ≡ s ∷ ss → ReadsTo g text m (shows (s ∷ ss) in_data q events local) name DataInside
      → ReadAll ss (q + 1) events (counts local) DataInside n → ReadAll (s ∷ ss) q events local name (1 + n)
  one-more s ss q events name local n at reads read =
      let k = shows (s ∷ ss) in_data q events local in
      let next = drop-next text.seats q s ss at in
      let place : q + 1 + n ≡ q + (1 + n) = omega arith in
      let one : suc n ≡ 1 + n = omega arith in
      let rest : drop n ss ≡ drop (1 + n) (s ∷ ss) = ap (λ j. drop j (s ∷ ss)) one in
      let size : item_length (white_at (drop n ss)) ≡ item_length (white_at (drop (1 + n) (s ∷ ss))) = ap (λ l. item_length (white_at l)) rest in
      let few : 1 + (n + item_length (white_at (drop n ss)) + 2) ≤ 1 + n + item_length (white_at (drop (1 + n) (s ∷ ss))) + 2 = omega (arith, size) in (
        read.0,
        read.1,
        after-within (1 + (n + item_length (white_at (drop n ss)) + 2)) (1 + n + item_length (white_at (drop (1 + n) (s ∷ ss))) + 2) local read.1 few
            (after-more 1 (n + item_length (white_at (drop n ss)) + 2) local (counts local) read.1 (after-call local) read.2),
        λ es h.
            leads-step as_asked g text m.step k [] name (record { configuration = consumed (counted g text m k); choices = []; answer = Next DataInside }) reads es
            (goes-next g text m ss in_data (q + 1) events (counts local) [] DataInside next es
            (read.3 es
            (subst (λ j. EndsWith g text m (reached events j (drop n ss) read.0 read.1) [] (Next TextBefore) es) (sym place)
            (subst (λ l. EndsWith g text m (reached events (q + (1 + n)) l read.0 read.1) [] (Next TextBefore) es) (sym rest) h)))),
      )

  -- how many bytes come next is said by whether data ends here
  ends-so : (s : Seat) (ss : List Seat) (t : Bool) → ends_data_at on (bytes_of (s ∷ ss)) ≡ t → next_data (s ∷ ss) ≡ cond t 0 (1 + next_data ss)
  ends-so s ss t e = ap (λ t. cond t 0 (1 + next_data ss)) e

  waits : (s : Seat) (ss : List Seat) (q : ℕ) → drop q text.seats ≡ s ∷ ss → byte_of (slice_get text.seats q) ≡ Some s.byte
  waits s ss q at = ap byte_of (at-front text.seats q s ss at)

  -- at another byte than white space
  at-other : (s : Seat) (ss : List Seat) → DataRead ss → is_white s.byte ≡ false → (t : Bool) → ends_data on s.byte ≡ t → (q : ℕ) (events : List Event) (local : Local Unit Unit) → drop q text.seats ≡ s ∷ ss
      → ReadAll (s ∷ ss) q events local DataInside (next_data (s ∷ ss))
  at-other s ss more other true ends q events local at =
      let l = s ∷ ss in
      let there : ends_data_at on (bytes_of l) ≡ true = (λ i. ends i || (is_white s.byte && is_white_left (bytes_of l))) in
      subst (ReadAll l q events local DataInside) (sym (ends-so s ss true there))
      (read-more l q events local DataInside 0 1 (0 + item_length (white_at l) + 2) (omega arith)
      (ends-here l q events local DataInside at (white-none on s.byte (bytes_of ss) no_item other) (plays.inside_ends (shows l in_data q events local) s.byte (waits s ss q at) other ends)))
  at-other s ss more other false ends q events local at =
      let l = s ∷ ss in
      let there : ends_data_at on (bytes_of l) ≡ false = (λ i. ends i || (other i && is_white_left (bytes_of l))) in
      subst (ReadAll l q events local DataInside) (sym (ends-so s ss false there))
      (one-more s ss q events DataInside local (next_data ss) at (plays.inside_on (shows l in_data q events local) s.byte (waits s ss q at) other ends)
      (more (q + 1) events (counts local) (drop-next text.seats q s ss at)))

  -- behind white space that was read as data
  behind-white : (w : White) (r : List Seat) → ((t : Seat) (ts : List Seat) → r ≡ t ∷ ts → DataRead ts) → passes is_white (first_byte r) ≡ false → ends_line (first_byte r) ≡ false
      → (q : ℕ) (events : List Event) (local : Local Unit Unit) → drop q text.seats ≡ r → ReadAll r q events local (inside w) (next_data r)
  behind-white w [] more other goes q events local at = absurd (cc)
  behind-white w (t ∷ ts) more other goes q events local at =
      let r = t ∷ ts in
      let k = shows r in_data q events local in
      let line = no-line t.byte goes in
      elim (ends_data on t.byte) as (λ b. ends_data on t.byte ≡ b → ReadAll r q events local (inside w) (next_data r)) [
        | true ↦ λ ends.
            let there : ends_data_at on (bytes_of r) ≡ true = (λ i. ends i || (is_white t.byte && is_white_left (bytes_of r))) in
            let after = counts local in
            let read = ends-here r q events after DataInside at (white-none on t.byte (bytes_of ts) no_item other) (plays.inside_ends (shows r in_data q events after) t.byte (waits t ts q at) other ends) in
            subst (ReadAll r q events local (inside w)) (sym (ends-so t ts true there)) (
              read.0,
              read.1,
              after-within (1 + 1) (0 + item_length (white_at r) + 2) local read.1 (omega arith) (after-more 1 1 local after read.1 (after-call local) read.2),
              λ es h.
                  leads-step as_asked g text m.step k [] (inside w) (record { configuration = counted g text m k; choices = []; answer = Retry DataInside }) (plays.data_special w k t.byte (waits t ts q at) other line ends) es (read.3 es h),
            )
        | false ↦ λ ends.
            let there : ends_data_at on (bytes_of r) ≡ false = (λ i. ends i || (other i && is_white_left (bytes_of r))) in
            subst (ReadAll r q events local (inside w)) (sym (ends-so t ts false there))
            (one-more t ts q events (inside w) local (next_data ts) at (plays.data_other w k t.byte (waits t ts q at) other ends) (more t ts refl (q + 1) events (counts local) (drop-next text.seats q t ts at)))
      ] refl

  -- at white space with which its line ends data ends, and that is read
  white-last-of-line : (s : Seat) (ss : List Seat) → is_white s.byte ≡ true → is_white_left (bytes_of (s ∷ ss)) ≡ true → (q : ℕ) (events : List Event) (local : Local Unit Unit) → drop q text.seats ≡ s ∷ ss → ReadAll (s ∷ ss) q events local DataInside 0
  white-last-of-line s ss is left q events local at =
      let l = s ∷ ss in
      let n = prefix_len is_white (bytes_of l) in
      let breaks = breaks_here g text m plays s ss q at is in
      let found : white_at l ≡ found_white breaks n = white-ends on s.byte (bytes_of ss) no_item is left in
      let size : item_length (white_at l) ≡ n = ap item_length found ∙ found-size breaks n in
      let made = data-made g text m plays s ss q at is left events local in
      let few : n + 1 ≤ 0 + item_length (white_at l) + 2 = omega (arith, size) in
      let first : q + 0 ≡ q = omega arith in (
        false,
        made.0,
        after-within (n + 1) (0 + item_length (white_at l) + 2) local made.0 few made.1,
        λ es h.
            made.2 es
            (as-found g text m breaks n q (with_end events q) l made.0 es
            (subst (λ w. EndsWith g text m (reached_by events q l w false made.0) [] (Next TextBefore) es) found
            (subst (λ j. EndsWith g text m (reached events j l false made.0) [] (Next TextBefore) es) first h))),
      )

  -- at white space that its line does not end with it goes on
  white-on : (s : Seat) (ss : List Seat) → ((ts : List Seat) → length ts ≤ length ss → DataRead ts) → is_white s.byte ≡ true → is_white_left (bytes_of (s ∷ ss)) ≡ false → (q : ℕ) (events : List Event) (local : Local Unit Unit)
      → drop q text.seats ≡ s ∷ ss → ReadAll (s ∷ ss) q events local DataInside (next_data (s ∷ ss))
  white-on s ss more is left q events local at =
      let l = s ∷ ss in
      let k = prefix_len is_white (bytes_of l) in
      let r = past is_white ss in
      let read = to-rest g text m plays s ss q at is inside in_data plays.data_on false events local DataInside plays.data_begins in
      let cut : drop k l ≡ r = sym (past-is is_white l) ∙ rest-is g text m plays s ss q at is in
      let there = rest-at g text m plays s ss q at is in
      let shorter : (t : Seat) (ts : List Seat) → r ≡ t ∷ ts → DataRead ts = λ t ts e.
      (let size : length (drop k l) ≡ suc (length ts) = ap length (cut ∙ e) in more ts (omega (arith, size, length-drop k l, run-some s.byte (bytes_of ss) is))) in
      let rest = behind-white (all_white g text m plays s ss q at is) r shorter (past-stops is_white ss) (sym (followed g text m plays s ss q at is) ∙ left) (q + k) events read.0 there in
      let n = next_data r in
      let all : next_data l ≡ k + n =
      over-white on (bytes_of l) left ∙ ap (λ xs. k + up_to (ends_data_at on) xs) (drop-map (λ (x : Seat). x.byte) k l ∙ ap bytes_of cut) in
      let place : q + k + n ≡ q + (k + n) = omega arith in
      let behind : drop n r ≡ drop (k + n) l = ap (drop n) (sym cut) ∙ drop-drop n k l in
      let size : item_length (white_at (drop n r)) ≡ item_length (white_at (drop (k + n) l)) = ap (λ l. item_length (white_at l)) behind in
      let few : k + (n + item_length (white_at (drop n r)) + 2) ≤ k + n + item_length (white_at (drop (k + n) l)) + 2 = omega (arith, size) in
      subst (ReadAll l q events local DataInside) (sym all) (
        rest.0,
        rest.1,
        after-within (k + (n + item_length (white_at (drop n r)) + 2)) (k + n + item_length (white_at (drop (k + n) l)) + 2) local rest.1 few
            (after-more k (n + item_length (white_at (drop n r)) + 2) local read.0 rest.1 read.1 rest.2),
        λ es h.
            read.3 es
            (rest.3 es
            (subst (λ j. EndsWith g text m (reached events j (drop n r) rest.0 rest.1) [] (Next TextBefore) es) (sym place)
            (subst (λ l. EndsWith g text m (reached events (q + (k + n)) l rest.0 rest.1) [] (Next TextBefore) es) (sym behind) h))),
      )

  -- from any byte of data
  from-byte : (s : Seat) (ss : List Seat) → ((ts : List Seat) → length ts ≤ length ss → DataRead ts) → DataRead (s ∷ ss)
  from-byte s ss more q events local at =
      let l = s ∷ ss in
      elim (is_white s.byte) as (λ t. is_white s.byte ≡ t → ReadAll l q events local DataInside (next_data l)) [
        | true ↦ λ is. elim (is_white_left (bytes_of l)) as (λ t. is_white_left (bytes_of l) ≡ t → ReadAll l q events local DataInside (next_data l)) [
          | true ↦ λ left.
              let there : ends_data_at on (bytes_of l) ≡ true = (λ i. white-plain on s.byte is i || (is i && left i)) in
              subst (ReadAll l q events local DataInside) (sym (ends-so s ss true there)) (white-last-of-line s ss is left q events local at)
          | false ↦ λ left. white-on s ss more is left q events local at
        ] refl
        | false ↦ λ other. at-other s ss (more ss (omega arith)) other (ends_data on s.byte) refl q events local at
      ] refl

  data-read-within : (bound : ℕ) (l : List Seat) → length l ≤ bound → DataRead l
  data-read-within bound [] h = λ q events local at.
      read-more [] q events local DataInside 0 1 (0 + item_length (white_at []) + 2) (omega arith)
      (ends-here [] q events local DataInside at (white-last on no_item) (plays.inside_ends_last (shows [] in_data q events local) refl))
  data-read-within zero (s ∷ ss) h = absurd (omega (arith, h))
  data-read-within (suc bound) (s ∷ ss) h = from-byte s ss (λ ts less. data-read-within bound ts (omega (arith, h, less)))

  pub data-read : (l : List Seat) → DataRead l
  data-read l = data-read-within (length l) l (omega arith)

  -- ---- the item
  -- what was read of data that began at a byte is data with the white space behind it
  joined-made : (p : ℕ) (events : List Event) (s : Seat) (ss : List Seat) (ended : Bool) (after : Local Unit Unit) (es : Ending) → drop p text.seats ≡ s ∷ ss
      → (let item = data_joined on (bytes_of (s ∷ ss)) in EndsWith g text m (between_items (p + item_length item) Nothing ended (events ++ item_events g.bytes (item, take (item_length item) (s ∷ ss))) after) [] (Next TextBefore) es)
      → (let n = data_length on (bytes_of (s ∷ ss)) in EndsWith g text m (reached (entered_data g text m between_texts events p) (p + n) (drop n (s ∷ ss)) ended after) [] (Next TextBefore) es)
  joined-made p events s ss ended after es here h =
      let l = s ∷ ss in
      let bytes = bytes_of l in
      let n = data_length on bytes in
      let rest = drop n l in
      let size : length bytes ≡ suc (length ss) = length-map l (λ x. x.byte) in
      let within : n ≤ suc (length ss) = omega (arith, data-within on s.byte (bytes_of ss), size) in
      let some : 0 < n = omega arith in
      let w = white_at rest in
      let left : drop n bytes ≡ bytes_of rest = drop-map (λ (x : Seat). x.byte) n l in
      let entered = entered_data g text m between_texts events p in
      let behind : Found → List Event = λ w. w.events g.bytes (drop n (take (n + w.size) l)) in
      let whole : Found → Configuration Unit Unit = λ w. between_items (p + (n + w.size)) Nothing ended (events ++ (leaf g.bytes Data (take n (take (n + w.size) l)) ++ behind w)) after in
      let place : p + (n + w.size) ≡ p + n + w.size = omega arith in
      let less : n ≤ n + w.size = omega arith in
      let made : with_end entered (p + n) ≡ events ++ leaf g.bytes Data (take n l) = append_assoc events _ _ ∙ ap (λ es. events ++ es) (leaf-read text g.bytes Data n p s ss here some within) in
      let all : events ++ (leaf g.bytes Data (take n (take (n + w.size) l)) ++ behind w) ≡ with_end entered (p + n) ++ w.events g.bytes (take w.size rest) =
      ap (λ xs. events ++ (leaf g.bytes Data xs ++ behind w)) (take-take n (n + w.size) l less)
      ∙ ap (λ xs. events ++ (leaf g.bytes Data (take n l) ++ w.events g.bytes xs)) (drop-take n w.size l)
      ∙ sym (append_assoc events (leaf g.bytes Data (take n l)) (w.events g.bytes (take w.size rest)))
      ∙ ap (λ xs. xs ++ w.events g.bytes (take w.size rest)) (sym made) in
      subst (λ j. EndsWith g text m (between_items j Nothing ended (with_end entered (p + n) ++ w.events g.bytes (take w.size rest)) after) [] (Next TextBefore) es) place
      (subst (λ xs. EndsWith g text m (between_items (p + (n + w.size)) Nothing ended xs after) [] (Next TextBefore) es) all
      (subst (λ (w : Found). EndsWith g text m (whole w) [] (Next TextBefore) es) (ap (white_behind on) left) h))

  -- Data is read with the white space behind it, from where it was begun with its first bytes
  from-begun : (p n calls : ℕ) (ended : Bool) (events : List Event) (local : Local Unit Unit) (s : Seat) (ss : List Seat) (name : Name) → drop p text.seats ≡ s ∷ ss
      → data_length on (bytes_of (s ∷ ss)) ≡ n + next_data (drop n (s ∷ ss))
      → (after : Local Unit Unit) × IsAfter calls local after
      × Leads g text m (between_items p Byte ended events local) [] (Retry name) (shows (drop n (s ∷ ss)) in_data (p + n) (entered_data g text m between_texts events p) after) [] (Retry DataInside)
      → AddsItemIn g text m between_texts (calls + item_length (data_joined on (bytes_of (s ∷ ss))) + 2) (between_items p Byte ended events local) (Retry name) p events (s ∷ ss) (data_joined on (bytes_of (s ∷ ss)))
  from-begun p n calls ended events local s ss name here is begun =
      let l = s ∷ ss in
      let rest = drop n l in
      let k = next_data rest in
      let entered = entered_data g text m between_texts events p in
      let behind : drop (p + n) text.seats ≡ rest = sym (drop-drop n p text.seats) ∙ ap (drop n) here in
      let read = data-read rest (p + n) entered begun.0 behind in
      let size = data_length on (bytes_of l) in
      let place : p + size ≡ p + n + k = omega (arith, is) in
      let cut : drop size l ≡ drop k rest = ap (λ j. drop j l) is ∙ sym (drop-drop k n l) in
      let white : item_length (white_at (drop k rest)) ≡ item_length (white_behind on (drop size (bytes_of l))) = ap (λ l. item_length (white_at l)) (sym cut) ∙ ap (λ bs. item_length (white_behind on bs)) (sym (drop-map (λ (x : Seat). x.byte) size l)) in
      let few : calls + (k + item_length (white_at (drop k rest)) + 2) ≤ calls + item_length (data_joined on (bytes_of l)) + 2 = omega (arith, is, white) in (
        read.0,
        read.1,
        after-within (calls + (k + item_length (white_at (drop k rest)) + 2)) (calls + item_length (data_joined on (bytes_of l)) + 2) local read.1 few
            (after-more calls (k + item_length (white_at (drop k rest)) + 2) local begun.0 read.1 begun.1 read.2),
        λ es h.
            begun.2 es
            (read.3 es
            (subst (λ j. EndsWith g text m (reached entered j (drop k rest) read.0 read.1) [] (Next TextBefore) es) place
            (subst (λ l. EndsWith g text m (reached entered (p + size) l read.0 read.1) [] (Next TextBefore) es) cut
            (joined-made p events s ss read.0 read.1 es here h)))),
      )

  -- Data is read, from a byte at which no construct is
  pub reads-data-run-in : BeginsData g text m → (p : ℕ) (ended : Bool) (events : List Event) (local : Local Unit Unit) (s : Seat) (ss : List Seat) → drop p text.seats ≡ s ∷ ss
      → let item = data_joined on (bytes_of (s ∷ ss)) in AddsItemIn g text m between_texts (2 * item_length item + 4) (between_items p Byte ended events local) (Retry TextBeforeData) p events (s ∷ ss) item
  reads-data-run-in b p ended events local s ss here =
      let l = s ∷ ss in
      let n = first_plain (bytes_of l) in
      let left : drop n (bytes_of l) ≡ bytes_of (drop n l) = drop-map (λ (x : Seat). x.byte) n l in
      let is : data_length on (bytes_of l) ≡ n + next_data (drop n l) = ap (λ xs. n + up_to (ends_data_at on) xs) left in
      let item = data_joined on (bytes_of l) in
      let few : n + 2 + item_length item + 2 ≤ 2 * item_length item + 4 = omega (arith, is) in
      adds-more g text m between_texts (n + 2 + item_length item + 2) (2 * item_length item + 4) (between_items p Byte ended events local) (Retry TextBeforeData) p events l item few
      (from-begun p n (n + 2) ended events local s ss TextBeforeData here is (data-begun g text m b p ended events local s ss here))

  -- Data that begins with white space is read
  pub reads-white-data-in : (p : ℕ) (ended : Bool) (events : List Event) (local : Local Unit Unit) (s : Seat) (ss : List Seat) → drop p text.seats ≡ s ∷ ss → is_white s.byte ≡ true → is_white_left (bytes_of (s ∷ ss)) ≡ false
      → let item = data_joined on (bytes_of (s ∷ ss)) in AddsItemIn g text m between_texts (2 * item_length item + 4) (between_items p Byte ended events local) (Retry TextBefore) p events (s ∷ ss) item
  reads-white-data-in p ended events local s ss here white left =
      let l = s ∷ ss in
      let n = prefix_len is_white (bytes_of l) in
      let cut : drop n (bytes_of l) ≡ bytes_of (drop n l) = drop-map (λ (x : Seat). x.byte) n l in
      let is : data_length on (bytes_of l) ≡ n + next_data (drop n l) = white-data on s.byte (bytes_of ss) white left ∙ ap (λ xs. n + up_to (ends_data_at on) xs) cut in
      let item = data_joined on (bytes_of l) in
      let few : n + 1 + item_length item + 2 ≤ 2 * item_length item + 4 = omega (arith, is) in
      let begun = begins-data g text m plays s ss p here white left ended events local in
      let entered = entered_data g text m between_texts events p in
      let rest : past is_white ss ≡ drop n l = sym (rest-is g text m plays s ss p here white) ∙ past-is is_white l in
      adds-more g text m between_texts (n + 1 + item_length item + 2) (2 * item_length item + 4) (between_items p Byte ended events local) (Retry TextBefore) p events l item few
      (from-begun p n (n + 1) ended events local s ss TextBefore here is (begun.0, begun.1, λ es h. begun.2 es (subst (λ r. EndsWith g text m (shows r in_data (p + n) entered begun.0) [] (Retry DataInside) es) (sym rest) h)))
