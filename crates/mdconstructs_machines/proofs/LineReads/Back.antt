-- The machine that goes back reads the first line as data, and all the rest as data, with a look in between that fails.
use Rattle.mdconstructs_machines.proofs.BlockReads.Accounts.{lines-are-all}
use Rattle.mdconstructs_machines.proofs.LineReads.Reads.{joined-first}
use Rattle.mdconstructs_machines.proofs.Prelude.{◌≡◌, ℕ, ◌+◌, ◌∷◌, ◌++◌, [], List, Bool, true, false, cond, refl, sym, ◌∙◌, ap, subst, Some, None, drop, take, drop-next, Event, Enter, Exit, Data, Point, Name, Next, Retry, TextStart, TextBefore, DataStart, DataInside, StringStart, DataAtBreak, StringBefore, Seat, end_after, Check, Byte, End, with_local, Given, Text, Configuration, Local, Choice, Step, Sight, point_or, end_place, whole_text, back_rules, text_start_rows, text_before_rows, data_start_rows, data_inside_rows, string_start_rows, data_at_break_rows, string_before_rows, is_line_ending, joined, lines_in, all_of, back_events, IsReadAs, event, leaf, line_ending, other, line_byte, counts, EventName}
use Rattle.mdconstructs_machines.proofs.LineReads.Steps.{FailsTo, goes-back, shows-events, place-behind, EndsWith, held, shows, ended, goes-next, reads-from, at-front, has_events}
use Rattle.mdconstructs_machines.proofs.LineReads.Rows.{leads-row, waits_class, is-class, byte-class}

-- the first line, and all the rest
abbrev first_line : List Seat → List Seat
first_line l = all_of (take 1 (lines_in l))

abbrev other_lines : List Seat → List Seat
other_lines l = all_of (drop 1 (lines_in l))

first-joined : (s : Seat) (lines : List (List Seat)) → all_of (take 1 (joined s lines)) ≡ s ∷ all_of (take 1 lines)
first-joined s [] = refl
first-joined s (line ∷ lines) = refl

-- the events still to come in the first line, if the previous byte ended here, and in the rest
module _ (bytes : List ℕ) where
  abbrev in_first : Point → List Seat → List Event
  in_first place l = event bytes Exit Data (end_after place (first_line l)) ∷ leaf bytes Data (other_lines l)

module _ (g : Given) (text : Text) where
  abbrev step : Sight → Configuration Unit Unit → Name → Step Unit Unit
  step = (back_rules g).step

  abbrev in_data : List EventName
  in_data = Data ∷ []

  abbrev at_end : ℕ → List Event → Local Unit Unit → Configuration Unit Unit
  at_end p events local = held in_data p End true events local

  abbrev at_byte : ℕ → Bool → List Event → Local Unit Unit → Configuration Unit Unit
  at_byte p b events local = held in_data p Byte b events local

  -- data ends at the end of the byte before
  abbrev exited : List Event → Point → List Event
  exited events place = events ++ event g.bytes Exit Data place ∷ []

  -- in all the rest
  in-rest : (l : List Seat) (p : ℕ) (b : Bool) (events : List Event) (local : Local Unit Unit) → drop p text.seats ≡ l
      → EndsWith g text step (shows l in_data p b events local) [] (Retry StringBefore) (exited events (end_after (end_place text p) l))
  in-rest [] p b events local here =
      let es = exited events (end_place text p) in
      leads-row g text step StringBefore string_before_rows (λ k. refl) (at_end p events local) [] None refl es (ended g text step (held [] p End true es (counts local)))
  in-rest (s ∷ ss) p b events local here =
      let at = at-front text.seats p s ss here in
      let next = drop-next text.seats p s ss here in
      let es = exited events (end_after (end_place text (p + 1)) ss) in
      let same : es ≡ exited events (end_after s.end ss) = ap (λ q. exited events (end_after q ss)) (place-behind text p s at) in
      subst (EndsWith g text step (at_byte p b events local) [] (Retry StringBefore)) same
      (leads-row g text step StringBefore string_before_rows (λ k. refl) (at_byte p b events local) [] (Some (line_byte s.byte)) (byte-class g text p s at) es
      (goes-next has_events g text step ss in_data (p + 1) false events (counts local) [] StringBefore next es (in-rest ss (p + 1) false events (counts local) next)))

  -- the look fails, wherever it ends
  looks : (l : List Seat) (p : ℕ) (b : Bool) (events : List Event) (local : Local Unit Unit) (cs : List Choice) (all : List Event) → drop p text.seats ≡ l → FailsTo g text step cs events all
      → EndsWith g text step (shows l in_data p b events local) cs (Retry DataInside) all
  looks [] p b events local cs all here back =
      leads-row g text step DataInside data_inside_rows (λ k. refl) (at_end p events local) cs None refl all (back (at_end p events (counts local)) refl)
  looks (s ∷ ss) p b events local cs all here back =
      let at = at-front text.seats p s ss here in
      let next = drop-next text.seats p s ss here in
      let then = shows ss in_data (p + 1) false events (counts local) in
      elim (is_line_ending s) as (λ t. is_line_ending s ≡ t → EndsWith g text step (at_byte p b events local) cs (Retry DataInside) all) [
        | true ↦ λ e.
            leads-row g text step DataInside data_inside_rows (λ k. refl) (at_byte p b events local) cs (Some line_ending) (is-class g text p s true at e) all
            (goes-next has_events g text step ss in_data (p + 1) false events (counts local) cs StringStart next all
            (leads-row g text step StringStart string_start_rows (λ k. refl) then cs (waits_class g text then) refl all
            (back (with_local then (counts then.local)) (shows-events ss in_data (p + 1) false events (counts local)))))
        | false ↦ λ e.
            leads-row g text step DataInside data_inside_rows (λ k. refl) (at_byte p b events local) cs (Some other) (is-class g text p s false at e) all
            (goes-next has_events g text step ss in_data (p + 1) false events (counts local) cs DataInside next all (looks ss (p + 1) false events (counts local) cs all next back))
      ] refl

  -- before the next line, with one event before
  before-next : (l : List Seat) (p : ℕ) (b : Bool) (begun : Event) (local : Local Unit Unit) → drop p text.seats ≡ l
      → EndsWith g text step (shows l in_data p b (begun ∷ []) local) [] (Retry DataStart) (begun ∷ event g.bytes Exit Data (end_place text p) ∷ leaf g.bytes Data l)
  before-next [] p b begun local here =
      let es = begun ∷ event g.bytes Exit Data (end_place text p) ∷ [] in
      leads-row g text step DataStart data_start_rows (λ k. refl) (at_end p (begun ∷ []) local) [] None refl es (ended g text step (held [] p End true es (counts local)))
  before-next (s ∷ ss) p b begun local here =
      let at = at-front text.seats p s ss here in
      let exit = event g.bytes Exit Data (end_place text p) in
      let enter = event g.bytes Enter Data s.point in
      let es = begun ∷ exit ∷ enter ∷ [] in
      let all = exited es (end_after (end_place text p) (s ∷ ss)) in
      leads-row g text step DataStart data_start_rows (λ k. refl) (at_byte p b (begun ∷ []) local) [] (Some (line_byte s.byte)) (byte-class g text p s at) all
      (looks (s ∷ ss) p b (begun ∷ []) (counts local) _ all here
      (goes-back g text step Check (Next DataAtBreak) DataAtBreak p b 1 in_data [] (begun ∷ []) all
      (λ local.
      goes-next has_events g text step (s ∷ ss) in_data p b (begun ∷ []) local [] DataAtBreak here all
      (leads-row g text step DataAtBreak data_at_break_rows (λ k. refl) (at_byte p b (begun ∷ []) local) [] (Some (line_byte s.byte)) (byte-class g text p s at) all
      (subst (λ o. EndsWith g text step (at_byte p b (begun ∷ exit ∷ event g.bytes Enter Data (point_or text.end o) ∷ []) (counts local)) [] (Retry StringBefore) all) (sym at)
      (in-rest (s ∷ ss) p b es (counts local) here))))))

  -- in the first line
  in-first : (l : List Seat) (p : ℕ) (b : Bool) (begun : Event) (local : Local Unit Unit) → drop p text.seats ≡ l
      → EndsWith g text step (shows l in_data p b (begun ∷ []) local) [] (Retry TextBefore) (begun ∷ in_first g.bytes (end_place text p) l)
  in-first [] p b begun local here =
      let es = begun ∷ event g.bytes Exit Data (end_place text p) ∷ [] in
      leads-row g text step TextBefore text_before_rows (λ k. refl) (at_end p (begun ∷ []) local) [] None refl es (ended g text step (held [] p End true es (counts local)))
  in-first (s ∷ ss) p b begun local here =
      let at = at-front text.seats p s ss here in
      let next = drop-next text.seats p s ss here in
      let place = end_place text p in
      let behind = end_place text (p + 1) in
      let k = at_byte p b (begun ∷ []) local in
      elim (is_line_ending s) as (λ t. is_line_ending s ≡ t → EndsWith g text step k [] (Retry TextBefore) (begun ∷ in_first g.bytes place (s ∷ ss))) [
        | true ↦ λ e.
            let all = begun ∷ event g.bytes Exit Data behind ∷ leaf g.bytes Data ss in
            let ends : in_first g.bytes place (s ∷ ss) ≡ event g.bytes Exit Data s.end ∷ leaf g.bytes Data ss = rw (e, lines-are-all ss) in
            let same : all ≡ begun ∷ in_first g.bytes place (s ∷ ss) = ap (λ q. begun ∷ event g.bytes Exit Data q ∷ leaf g.bytes Data ss) (place-behind text p s at) ∙ ap (λ l. begun ∷ l) (sym ends) in
            subst (EndsWith g text step k [] (Retry TextBefore)) same
            (leads-row g text step TextBefore text_before_rows (λ k. refl) k [] (Some line_ending) (is-class g text p s true at e) all
            (goes-next has_events g text step ss in_data (p + 1) false (begun ∷ []) (counts local) [] DataStart next all (before-next ss (p + 1) false begun (counts local) next)))
        | false ↦ λ e.
            let all = begun ∷ in_first g.bytes behind ss in
            let goes_on : in_first g.bytes place (s ∷ ss) ≡ in_first g.bytes s.end ss = rw (e, first-joined s (lines_in ss), joined-first s (lines_in ss)) in
            let same : all ≡ begun ∷ in_first g.bytes place (s ∷ ss) = ap (λ q. begun ∷ in_first g.bytes q ss) (place-behind text p s at) ∙ ap (λ l. begun ∷ l) (sym goes_on) in
            subst (EndsWith g text step k [] (Retry TextBefore)) same
            (leads-row g text step TextBefore text_before_rows (λ k. refl) k [] (Some other) (is-class g text p s false at e) all
            (goes-next has_events g text step ss in_data (p + 1) false (begun ∷ []) (counts local) [] TextBefore next all (in-first ss (p + 1) false begun (counts local) next)))
      ] refl

  -- from the start
  from-start : (l : List Seat) (local : Local Unit Unit) → drop 0 text.seats ≡ l → EndsWith g text step (shows l [] 0 false [] local) [] (Retry TextStart) (back_events g.bytes l)
  from-start [] local here =
      leads-row g text step TextStart text_start_rows (λ k. refl) (held [] 0 End true [] local) [] None refl [] (ended g text step (held [] 0 End true [] (counts local)))
  from-start (s ∷ ss) local here =
      let at = at-front text.seats 0 s ss here in
      let k = held [] 0 Byte false [] local in
      let all = event g.bytes Enter Data s.point ∷ in_first g.bytes (end_place text 0) (s ∷ ss) in
      let same : all ≡ back_events g.bytes (s ∷ ss) =
      elim (is_line_ending s) as (λ t. let lines = cond t ((s ∷ []) ∷ lines_in ss) (joined s (lines_in ss)) in
      event g.bytes Enter Data s.point ∷ event g.bytes Exit Data (end_after (end_place text 0) (all_of (take 1 lines))) ∷ leaf g.bytes Data (all_of (drop 1 lines))
      ≡ leaf g.bytes Data (all_of (take 1 lines)) ++ leaf g.bytes Data (all_of (drop 1 lines))) [ true ↦ refl | false ↦ rw (first-joined s (lines_in ss)) ] in
      subst (EndsWith g text step k [] (Retry TextStart)) same
      (leads-row g text step TextStart text_start_rows (λ k. refl) k [] (Some (line_byte s.byte)) (byte-class g text 0 s at) all
      (subst (λ o. EndsWith g text step (at_byte 0 false (event g.bytes Enter Data (point_or text.end o) ∷ []) (counts local)) [] (Retry TextBefore) all) (sym at)
      (in-first (s ∷ ss) 0 false (event g.bytes Enter Data s.point) (counts local) here)))

pub back-reads : IsReadAs back_rules TextStart back_events
back-reads = reads-from back_rules TextStart back_events (λ g local. from-start g (whole_text g) (whole_text g).seats local refl)
