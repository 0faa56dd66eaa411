-- The test of a table: its acts are allowed in their order, what rows return and choices go on with fits the states named, and stated calls
-- are enough.
use Rattle.std.specs.Prelude.{◌+◌, ◌-◌, ◌&&◌, ◌||◌, not, List, [], ◌∷◌, ◌++◌, Bool, true, false, cond, Option, Some, None, nat_le, max, take, length}
use Rattle.std.specs.List.{last_or}
use Rattle.markdown_base.specs.declared.event.Name.{Name as EventName}
use Rattle.markdown_base.specs.declared.state.Name.{Name}
use Rattle.markdown_base.specs.declared.state.State.{State}
use Rattle.markdown_base.specs.declared.state.State.TheVariants.{Next, Retry, Ok, Nok, Error}
use Rattle.markdown_base.specs.Events.{is_void, same_name}
use Rattle.markdown_tokenizer.specs.declared.waiting.AttemptKind.{AttemptKind}
use Rattle.markdown_tokenizer.specs.declared.waiting.AttemptKind.TheVariants.{Attempt, Check}
use Rattle.mdconstructs_tables.specs.Rows.{Act, enters, exit, consume, links, writes, choose, note, exit_noted, enter_noted, Rows, row, when, Row, Calls, Cost, by_bytes, own, Begun, before, at_byte, here, Called, anywhere, at_a_byte, at_bytes, at_bytes_or_end, Needs, nothing, a_choice, a_choice_once_read, a_choice_for_ok, StateRows, named}

-- the innermost span is of a void name
abbrev pub is_void_last : Option EventName → Bool
is_void_last None = false
is_void_last (Some name) = is_void name

-- How far a call is: the end waits, a byte waits, or that byte was consumed
pub data Stage : Type 0 where
  end_waits : Stage
  byte_waits : Stage
  byte_read : Stage

-- What is known of the place that was noted: nothing; that it is the place of the byte that waits; or that it is before the current place, and
-- no event is after it
pub data Noting : Type 0 where
  unnoted : Noting
  noted_here : Noting
  noted_before : Noting

-- What is open in a call: the spans since the last choice was made; whether one that is open may have begun at the byte that waits or at
-- the current place, before that choice too; whether the last event is the innermost one's enter; whether a choice waits; whether one waits
-- that may end with Nok; and what is known of the place that was noted
pub record Shape : Type 0 where
  pub stage : Stage
  pub spans : List EventName
  pub fresh : Bool
  pub bare : Bool
  pub within : Bool
  pub failing : Bool
  pub noted : Noting

-- a place before the current one was noted, and no event is after it
abbrev pub is_noted_before : Noting → Bool
is_noted_before noted_before = true
is_noted_before _ = false

-- once the byte that waits is consumed, its place is before the current one
abbrev pub read_on : Noting → Noting
read_on noted_here = noted_before
read_on n = n

-- what a state knows when it is called
abbrev pub noted_if : Bool → Noting
noted_if true = noted_before
noted_if false = unnoted

-- a byte waits, and was not read
abbrev pub is_byte_waiting : Stage → Bool
is_byte_waiting byte_waits = true
is_byte_waiting _ = false

-- the end waits
abbrev pub is_end : Stage → Bool
is_end end_waits = true
is_end _ = false

-- this is the innermost span
abbrev pub is_last : EventName → Option EventName → Bool
is_last name None = false
is_last name (Some last) = same_name last name

-- whether a choice saves what it may restore
abbrev pub saves : AttemptKind → State → Bool
saves Attempt Nok = false
saves _ _ = true

-- Whether what goes on at a place where this waits ends no choice with Ok there: Nok and Error do not, and a state says so itself, if it is
-- `early`
abbrev pub is_early : {W : Type 0} → (early : Name → Option W → Bool) → Option W → State → Bool
is_early early w (Next name) = early name w
is_early early w (Retry name) = early name w
is_early early w Ok = false
is_early early w _ = true

-- each state may end a choice with Ok at the place where it is called
abbrev pub never : {W : Type 0} → Name → Option W → Bool
never name w = false

-- Whether acts, with what is returned after them, end choices with Ok only behind the place where they begin: a byte is consumed, or
-- neither what is returned does it there, nor what a choice goes back to
abbrev pub is_behind : {W R D : Type 0} → (early : Name → Option W → Bool) → Option W → List (Act R D) → (answer : State) → Bool
is_behind early w [] answer = is_early early w answer
is_behind early w (consume ∷ acts) answer = true
is_behind early w (choose Attempt ok nok ∷ acts) answer = is_early early w nok && is_behind early w acts answer
is_behind early w (choose Check ok nok ∷ acts) answer = is_early early w ok && is_early early w nok
is_behind early w (_ ∷ acts) answer = is_behind early w acts answer

-- whether a span may have begun at the place of the call, by what waits, if anything does
abbrev pub fresh_at : {W : Type 0} → Begun W → Option W → Bool
fresh_at before w = false
fresh_at (at_byte test) None = false
fresh_at (at_byte test) (Some w) = test w
fresh_at here w = true

-- the same where a byte waits
abbrev pub is_fresh_byte : {W : Type 0} → Begun W → Option W → Bool
is_fresh_byte begun None = false
is_fresh_byte begun (Some w) = fresh_at begun (Some w)

-- the same once the previous byte ended, where nothing waits yet
abbrev pub fresh_fed : {W : Type 0} → Begun W → Bool
fresh_fed here = true
fresh_fed _ = false

-- whether a state may be called while this waits; None is the end, or what is not known if the end was not fed
abbrev pub is_called_at : {W : Type 0} → Called W → (ended : Bool) → Option W → Bool
is_called_at anywhere ended w = true
is_called_at at_a_byte ended None = false
is_called_at at_a_byte ended (Some w) = true
is_called_at (at_bytes test) ended None = false
is_called_at (at_bytes test) ended (Some w) = test w
is_called_at (at_bytes_or_end test) ended None = ended
is_called_at (at_bytes_or_end test) ended (Some w) = test w

-- whether a choice must wait, by whether a byte was read
abbrev pub needs_choice : Needs → (read : Bool) → Bool
needs_choice nothing read = false
needs_choice a_choice read = true
needs_choice a_choice_once_read read = read
needs_choice a_choice_for_ok read = true

-- whether that choice may end with Nok
abbrev pub needs_failing : Needs → (read : Bool) → Bool
needs_failing a_choice_for_ok read = false
needs_failing needs read = needs_choice needs read

-- no event came since a void span began
abbrev pub is_bare : Shape → Bool
is_bare p = not (is_void_last (last_or None p.spans)) || p.bare

-- whether an act is allowed: an enter before the end; a consume if a byte waits; an exit of the innermost span, if it began before the
-- place of the exit and, if it is void, no event came since; a choice if, in a void span, no event came since it began. The place of a byte
-- that waits is noted if no span has begun with it; a span ends or begins at a place that was noted if that is before the current one.
abbrev pub allows : {R D : Type 0} → Act R D → Shape → Bool
allows (enters name link) p = not (is_end p.stage)
allows (exit name) p = is_last name (last_or None p.spans) && (not p.fresh && (not (is_void name) || p.bare))
allows consume p = is_byte_waiting p.stage
allows (links previous next) p = true
allows (writes f) p = true
allows (choose kind ok nok) p = is_bare p
allows note p = is_byte_waiting p.stage && not p.fresh
allows (exit_noted name) p = is_last name (last_or None p.spans) && (is_noted_before p.noted && (not (is_void name) || p.bare))
allows (enter_noted name) p = is_noted_before p.noted

-- whether a choice that goes on with this after Nok may end with Nok, by whether the ones below it may
abbrev pub may_fail : (nok : State) → (below : Bool) → Bool
may_fail Nok below = below
may_fail nok below = true

-- What is open after an act. Of the place that was noted no more is known once an event may be after it, or what states share was written; a
-- span that began there is before the current place.
abbrev pub after : {R D : Type 0} → Act R D → Shape → Shape
after (enters name link) p = record p { spans = p.spans ++ name ∷ []; fresh = true; bare = true; noted = unnoted }
after (exit name) p = record p { spans = take (length p.spans - 1) p.spans; bare = false; noted = unnoted }
after consume p = record p { stage = byte_read; fresh = false; noted = read_on p.noted }
after (links previous next) p = record p { noted = unnoted }
after (writes f) p = record p { noted = unnoted }
after (choose kind ok nok) p = record p { spans = []; bare = false; within = true; failing = may_fail nok p.failing; noted = unnoted }
after note p = record p { noted = noted_here }
after (exit_noted name) p = record p { spans = take (length p.spans - 1) p.spans; bare = false }
after (enter_noted name) p = record p { spans = p.spans ++ name ∷ []; bare = true; noted = unnoted }

-- acts are allowed, one after another
abbrev pub allows_all : {R D : Type 0} → List (Act R D) → Shape → Bool
allows_all [] p = true
allows_all (act ∷ acts) p = allows act p && allows_all acts (after act p)

-- what is open after them
abbrev pub after_all : {R D : Type 0} → List (Act R D) → Shape → Shape
after_all [] p = p
after_all (act ∷ acts) p = after_all acts (after act p)

-- the same spans, in the same order
abbrev pub same_names : List EventName → List EventName → Bool
same_names [] [] = true
same_names (x ∷ xs) (y ∷ ys) = same_name x y && same_names xs ys
same_names _ _ = false

-- how far a call is at its beginning
abbrev pub first_stage : {W : Type 0} → Option W → Stage
first_stage None = end_waits
first_stage (Some w) = byte_waits

-- there is a byte
abbrev pub is_some : {W : Type 0} → Option W → Bool
is_some None = false
is_some (Some w) = true

-- what is open when a state is called
abbrev pub start_shape : {W R D : Type 0} → (previous current : Option W) → StateRows W R D → Shape
start_shape b w state = record {
  stage = first_stage w;
  spans = state.spans;
  fresh = fresh_at state.begun w;
  bare = is_void_last (last_or None state.spans);
  within = needs_choice state.needs (is_some b);
  failing = needs_failing state.needs (is_some b);
  noted = noted_if state.noted;
}

-- Where a choice is made: the spans since the previous choice, whether one that is open may have begun there, the byte that waits, if that
-- is known, whether a choice waits, and whether one waits that may end with Nok
pub record Frame (W : Type 0) : Type 0 where
  pub spans : List EventName
  pub fresh : Bool
  pub waits : Option W
  pub within : Bool
  pub failing : Bool

-- a byte that waited still waits, if it was not consumed
abbrev pub waits_in : {W : Type 0} → Stage → Option W → Option W
waits_in byte_waits w = w
waits_in _ w = None

-- the place where a choice is made, by what is open and what waited
abbrev pub frame_of : {W : Type 0} → Option W → Shape → Frame W
frame_of w p = record { spans = p.spans; fresh = p.fresh; waits = waits_in p.stage w; within = p.within; failing = p.failing }

-- no calls, the sum, and the larger of two
abbrev pub no_calls : Calls
no_calls = record { per_byte = 0; more = 0 }

-- the sum of two numbers of calls
abbrev pub plus : Calls → Calls → Calls
plus a b = record { per_byte = a.per_byte + b.per_byte; more = a.more + b.more }

-- the larger of two numbers of calls
abbrev pub larger : Calls → Calls → Calls
larger a b = record { per_byte = max a.per_byte b.per_byte; more = max a.more b.more }

-- a byte that waits is one more that is left
abbrev pub at_stage : Stage → Calls → Calls
at_stage byte_waits c = record { per_byte = c.per_byte; more = c.per_byte + c.more }
at_stage _ c = c

-- where Ok comes first: once the byte that waits was read, if it comes only behind the place of the call
abbrev pub later_stage : (behind : Bool) → Stage → Stage
later_stage behind stage = cond behind byte_read stage

-- some calls are at most others
abbrev pub calls_le : Calls → Calls → Bool
calls_le a b = nat_le a.per_byte b.per_byte && nat_le a.more b.more

-- each of the rows passes a test
abbrev pub all_rows : {R D : Type 0} → (Row R D → Bool) → Rows R D → Bool
all_rows test (row acts answer) = test (record { acts = acts; answer = answer })
all_rows test (when by one other) = all_rows test one && all_rows test other

-- the most calls of any of the rows
abbrev pub most_calls : {R D : Type 0} → (Row R D → Calls) → Rows R D → Calls
most_calls count (row acts answer) = count (record { acts = acts; answer = answer })
most_calls count (when by one other) = larger (most_calls count one) (most_calls count other)

module _ {W R D : Type 0} (states : List (StateRows W R D)) where
  -- the spans, and what is known of choices, of the place that was noted and of what waits, are as a state says
  abbrev pub is_at : List EventName → (within failing noted ended : Bool) → (waits : Option W) → (read : Bool) → Option (StateRows W R D) → Bool
  is_at spans within failing noted ended waits read None = false
  is_at spans within failing noted ended waits read (Some state) =
      same_names spans state.spans
      && ((not (needs_choice state.needs read) || within)
      && ((not (needs_failing state.needs read) || failing) && (is_called_at state.called ended waits && (not state.noted || noted))))

  -- a state says that spans may have begun where it goes on, before this waits
  abbrev pub goes_on_fresh : (waits : Option W) → Option (StateRows W R D) → Bool
  goes_on_fresh waits None = false
  goes_on_fresh None (Some state) = fresh_fed state.begun
  goes_on_fresh (Some w) (Some state) = fresh_at state.begun (Some w)

  -- what a choice goes on with fits, by whether a span may have begun where it goes on; then no noted place is known
  abbrev pub may_go_on : Frame W → (fresh : Bool) → (waits : Option W) → State → Bool
  may_go_on f fresh waits (Next name) =
      is_at f.spans f.within f.failing false false waits true (named states name) && (not fresh || goes_on_fresh waits (named states name))
  may_go_on f fresh waits Ok = same_names f.spans [] && (not fresh && f.within)
  may_go_on f fresh waits Nok = f.failing
  may_go_on f fresh waits _ = false

  -- at the place where the choice was made
  abbrev pub may_go_on_there : Frame W → State → Bool
  may_go_on_there f a = may_go_on f f.fresh f.waits a

  -- the same after Nok: then Nok fits, since a choice that fails so ends with Nok only if one below it may
  abbrev pub may_go_back : Frame W → State → Bool
  may_go_back f Nok = true
  may_go_back f a = may_go_on_there f a

  -- a choice fits: it goes on at its place, or, after Ok, with the same spans open later on, where none of them began
  abbrev pub fits_choice : Frame W → AttemptKind → (ok nok : State) → Bool
  fits_choice f Check ok nok = may_go_on_there f ok && may_go_back f nok
  fits_choice f Attempt ok nok = may_go_on f false None ok && (not (is_void_last (last_or None f.spans)) && may_go_back f nok)

  -- the choices that acts make fit
  abbrev pub fits_choices : (current : Option W) → List (Act R D) → Shape → Bool
  fits_choices w [] p = true
  fits_choices w (choose kind ok nok ∷ acts) p = let act : Act R D = choose kind ok nok in fits_choice (frame_of w p) kind ok nok && fits_choices w acts (after act p)
  fits_choices w (act ∷ acts) p = fits_choices w acts (after act p)

  -- spans of a state may have begun at the place of its call
  abbrev pub is_fresh : Option W → Option (StateRows W R D) → Bool
  is_fresh w None = false
  is_fresh w (Some state) = fresh_at state.begun w

  -- the same where nothing waits yet
  abbrev pub is_fresh_fed : Option (StateRows W R D) → Bool
  is_fresh_fed None = false
  is_fresh_fed (Some state) = fresh_fed state.begun

  -- What a row returns fits how far the call is, and what is open. Spans may have begun at the place of the call only if the next state
  -- says so. It is Ok only if no span is open, and a choice waits or the end; and Nok only if a choice waits that may end with it.
  abbrev pub fits_answer : Stage → (previous current : Option W) → Shape → State → Bool
  fits_answer stage b w p Ok = same_names p.spans [] && (not p.fresh && (p.within || is_end stage))
  fits_answer stage b w p Nok = p.failing
  fits_answer byte_read b w p (Next name) = is_bare p && (is_at p.spans p.within p.failing (is_noted_before p.noted) false None true (named states name) && (not p.fresh || is_fresh_fed (named states name)))
  fits_answer byte_waits b (Some w) p (Retry name) =
      is_bare p && (is_at p.spans p.within p.failing (is_noted_before p.noted) false (Some w) (is_some b) (named states name) && (not p.fresh || is_fresh (Some w) (named states name)))
  fits_answer end_waits b None p (Retry name) =
      is_bare p && (is_at p.spans p.within p.failing (is_noted_before p.noted) true None (is_some b) (named states name) && (not p.fresh || is_fresh None (named states name)))
  fits_answer _ b w p (Error message) = true
  fits_answer _ _ _ _ _ = false

  -- a row fits
  abbrev pub fits_row : (previous current : Option W) → StateRows W R D → Row R D → Bool
  fits_row b w state r =
      let p = after_all r.acts (start_shape b w state) in
      allows_all r.acts (start_shape b w state) && (fits_choices w r.acts (start_shape b w state) && fits_answer p.stage b w p r.answer)

  -- how many calls a state says are left, if it does
  abbrev pub calls_or : Cost → Calls
  calls_or (by_bytes c) = c
  calls_or (own f) = no_calls

  -- how many calls are left before a state is fed, if there is one
  abbrev pub fed_calls : Option (StateRows W R D) → Calls
  fed_calls None = no_calls
  fed_calls (Some state) = calls_or state.cost

  -- how many calls a state that comes next may take
  abbrev pub next_calls : State → Calls
  next_calls (Next name) = fed_calls (named states name)
  next_calls _ = no_calls

  -- A choice goes on with what fails where it was made, with a check after Ok too; with an attempt after Ok, where that comes first
  abbrev pub choice_calls : (later made_at : Stage) → AttemptKind → State → State → Calls
  choice_calls later made_at Attempt ok nok = larger (at_stage later (next_calls ok)) (at_stage made_at (next_calls nok))
  choice_calls later made_at Check ok nok = larger (at_stage made_at (next_calls ok)) (at_stage made_at (next_calls nok))

  -- how many calls the choices that are made may take, by what is returned after them
  abbrev pub chosen_calls : Option W → Stage → List (Act R D) → (answer : State) → Calls
  chosen_calls w stage [] answer = no_calls
  chosen_calls w stage (choose kind ok nok ∷ acts) answer =
      plus (choice_calls (later_stage (is_behind never w acts answer) stage) stage kind ok nok) (chosen_calls w stage acts answer)
  chosen_calls w stage (consume ∷ acts) answer = chosen_calls w byte_read acts answer
  chosen_calls w stage (_ ∷ acts) answer = chosen_calls w stage acts answer

  -- how many calls the state that a row returns may take; `retried` counts the calls of a state that is called at once
  abbrev pub answer_calls : (retried : Name → Calls) → State → Calls
  answer_calls retried (Retry name) = retried name
  answer_calls retried a = next_calls a

  -- how many calls a row may take: itself, the state that it returns, and its choices
  abbrev pub row_calls : (retried : Name → Calls) → Option W → Row R D → Calls
  row_calls retried w r = plus (record { per_byte = 0; more = 1 }) (plus (answer_calls retried r.answer) (chosen_calls w (first_stage w) r.acts r.answer))

  -- how many calls a state takes at most if this waits; the first list bounds the retries
  abbrev pub calls_at : List (StateRows W R D) → (previous current : Option W) → Option (StateRows W R D) → Calls
  calls_at [] b w state = no_calls
  calls_at (x ∷ bound) b w None = no_calls
  calls_at (x ∷ bound) b w (Some state) = most_calls (row_calls (λ name. calls_at bound b w (named states name)) w) (state.rows b w)

  -- a state says how many calls are left
  abbrev pub is_by_bytes : Cost → Bool
  is_by_bytes (by_bytes c) = true
  is_by_bytes (own f) = false

  -- the same of a state, if there is one
  abbrev pub is_counted : Option (StateRows W R D) → Bool
  is_counted None = true
  is_counted (Some state) = is_by_bytes state.cost

  -- the state that a row returns says how many calls are left, and so do the ones of choices
  abbrev pub counts_answer : State → Bool
  counts_answer (Next name) = is_counted (named states name)
  counts_answer (Retry name) = is_counted (named states name)
  counts_answer _ = true

  -- the states that choices go on with say how many calls are left
  abbrev pub counts_choices : List (Act R D) → Bool
  counts_choices [] = true
  counts_choices (choose kind ok nok ∷ acts) = counts_answer ok && (counts_answer nok && counts_choices acts)
  counts_choices (act ∷ acts) = counts_choices acts

  -- the calls that a state says are left are enough for a row
  abbrev pub pays_row : (previous current : Option W) → StateRows W R D → Row R D → Bool
  pays_row b w state r =
      counts_answer r.answer && (counts_choices r.acts && calls_le (row_calls (λ name. calls_at states b w (named states name)) w r) (calls_at states b w (Some state)))

  -- feeding costs nothing: a byte that waits is one of the bytes left
  abbrev pub feeds : (previous current : Option W) → StateRows W R D → Calls → Bool
  feeds b None state c = nat_le (calls_at states b None (Some state)).more c.more
  feeds b (Some w) state c = calls_le (calls_at states b (Some w) (Some state)) (at_stage byte_waits c)

  -- if a state says how many calls are left, they are enough
  abbrev pub fits_calls : (previous current : Option W) → StateRows W R D → Cost → Bool
  fits_calls b w state (own f) = true
  fits_calls b w state (by_bytes c) = all_rows (pays_row b w state) (state.rows b w) && feeds b w state c

  -- a state may be called while this waits
  abbrev pub is_called : Option W → StateRows W R D → Bool
  is_called w state = is_called_at state.called true w

  -- a machine starts with no open span, no choice, no byte and no noted place
  abbrev pub may_start : Option (StateRows W R D) → Bool
  may_start None = false
  may_start (Some state) = same_names state.spans [] && (not (needs_choice state.needs false) && (is_called_at state.called false None && not state.noted))
