-- Data reading: the states of data read each line as data, in every machine that ends in them.
use Rattle.mdconstructs_machines.proofs.Prelude.{◌≡◌, ℕ, ◌+◌, ◌∷◌, ◌++◌, [], List, Bool, true, false, refl, sym, subst, Some, None, drop, Event, Enter, Exit, Data, Point, Name, Next, Retry, DataStart, DataInside, Seat, Nothing, Byte, End, Given, Text, Configuration, Local, Step, Sight, point_or, data_events, event, leaf, line_ending, other, counts}
use Rattle.mdconstructs_tables.specs.DataRows.{data_start_rows, data_inside_rows}
use Rattle.mdconstructs_machines.proofs.LineReads.Reads.{ReadsLines, from-both}
use Rattle.mdconstructs_machines.proofs.LineReads.Rows.{HasRows, leads-row, is-class, line-ending-read}
use Rattle.mdconstructs_machines.proofs.LineReads.Steps.{EndsWith, held, goes-next, has_events}

module _ (g : Given) (text : Text) (step : Sight → Configuration Unit Unit → Name → Step Unit Unit) where
  -- The step reads data as its rows say
  pub record ReadsData : Type 0 where
    pub start : HasRows g text step DataStart data_start_rows
    pub inside : HasRows g text step DataInside data_inside_rows

  -- data begins and ends with these events
  abbrev opening : Point → List Event
  opening place = event g.bytes Enter Data place ∷ []

  abbrev closing : Point → List Event
  closing place = event g.bytes Exit Data place ∷ []

  module _ (reads : ReadsData) where
    reads-lines : ReadsLines g text step DataStart DataInside (Data ∷ []) opening closing
    reads-lines = record {
      at_end = λ p events local es h. leads-row g text step DataStart data_start_rows reads.start (held [] p End true events local) [] None refl es h;
      at_ending = λ p b events local s at e es h.
          leads-row g text step DataStart data_start_rows reads.start (held [] p Byte b events local) [] (Some line_ending) (is-class g text p s true at e) es
          (subst (λ l. EndsWith g text step (held [] (p + 1) Nothing false l (counts local)) [] (Next DataStart) es) (sym (line-ending-read g text events p s at)) h);
      begins = λ p b events local s at e es h.
          leads-row g text step DataStart data_start_rows reads.start (held [] p Byte b events local) [] (Some other) (is-class g text p s false at e) es
          (subst (λ o. EndsWith g text step (held (Data ∷ []) p Byte b (events ++ opening (point_or text.end o)) (counts local)) [] (Retry DataInside) es) (sym at) h);
      ends_at_end = λ p events local es h. leads-row g text step DataInside data_inside_rows reads.inside (held (Data ∷ []) p End true events local) [] None refl es h;
      ends_at_ending = λ p b events local s at e es h.
          leads-row g text step DataInside data_inside_rows reads.inside (held (Data ∷ []) p Byte b events local) [] (Some line_ending) (is-class g text p s true at e) es h;
      goes_on = λ p b events local s at e es h.
          leads-row g text step DataInside data_inside_rows reads.inside (held (Data ∷ []) p Byte b events local) [] (Some other) (is-class g text p s false at e) es h;
    }

    -- from a position on, before a line
    pub data-read : (l : List Seat) (p : ℕ) (b : Bool) (events : List Event) (local : Local Unit Unit) → drop p text.seats ≡ l
        → EndsWith g text step (held [] p Nothing b events local) [] (Next DataStart) (events ++ data_events g.bytes l)
    data-read l p b events local here =
        goes-next has_events g text step l [] p b events local [] DataStart here (events ++ data_events g.bytes l)
        ((from-both g text step DataStart DataInside (Data ∷ []) opening closing reads-lines (leaf g.bytes Data)
        (record { none = refl; none_ends = refl; some = λ s ss. refl }) l).0 p b events local here)
