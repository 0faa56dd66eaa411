-- Reading on from one state is reading on from another, in parts, and by one call.
use Rattle.mdblock_leaf_blocks.proofs.Prelude.{List, Option, [], arith, subst, ℕ, ◌+◌, ◌≡◌, Seat, Point, Name, State, Retry, Choice, Configuration, Local, EndsIn, Reading, byte_of, seat_before, Given, Text, FlowByte, flow_byte, flow, IsReadAs, KeepsEdits, Mark, LeadsIn, first_byte, Act, chooses, class_of, does, table_step, sight_before}
use Rattle.mdblock_leaf_blocks.proofs.Lines.LineReads.{IsAt}
use Rattle.mdblock_leaf_blocks.proofs.Lines.RowReads.{RowIs, counted, row-called}

module _ (g : Given) (t : Text) where
  -- with choices that wait, reading on from a state is reading on from another, some calls later
  pub record Leads (k : Configuration Unit Unit) (from : State) (after : Configuration Unit Unit) (to : State) : Type 0 where
    pub calls : ℕ
    pub leads : (choices : List Choice) (before : ℕ) (z : Reading Unit Unit) → EndsIn g (table_step flow g) t (before + calls) after choices to z → EndsIn g (table_step flow g) t before k choices from z

  pub leads-on : (k : Configuration Unit Unit) (from : State) (mid : Configuration Unit Unit) (then : State) (after : Configuration Unit Unit) (to : State) → Leads k from mid then → Leads mid then after to → Leads k from after to
  leads-on k from mid then after to one two = record {
    calls = one.calls + two.calls;
    leads = λ choices before z h.
        let e : before + (one.calls + two.calls) ≡ before + one.calls + two.calls = omega arith in
        one.leads choices before z (two.leads choices (before + one.calls) z (subst (λ n. EndsIn g (table_step flow g) t n after choices to z) e h));
  }

  -- so many calls later
  pub from-leads : (n : ℕ) (k : Configuration Unit Unit) (from : State) (after : Configuration Unit Unit) (to : State) → LeadsIn g (table_step flow g) t n k from after to → Leads k from after to
  from-leads n k from after to h = record { calls = n; leads = λ choices before z e. h choices before z e }

  -- a reading leads to where it is, and so does a call by the acts of its row
  pub read-leads : (kept : (before after : Local Unit Unit) → Type 0) (k : Configuration Unit Unit) (name : Name) (line rest : List Seat) (marks : List Mark) (to : State) → (r : IsReadAs g t kept k name line rest marks to) → Leads k (Retry name) r.after to
  read-leads kept k name line rest marks to r = record { calls = r.calls; leads = λ choices before z h. r.leads choices before z h }

  pub row-leads : (k : Configuration Unit Unit) (name : Name) (p : Point) (l : List Seat) (c : Option FlowByte) (acts : List (Act Unit Unit)) (a : State) → IsAt t k p l → class_of flow_byte (first_byte l) ≡ c → RowIs g t KeepsEdits k name p l c acts a
      → let sight = sight_before g t.end p (byte_of (seat_before t k.position)) l in chooses acts sight (counted k) [] ≡ [] → Leads k (Retry name) (does acts sight (counted k)) a
  row-leads k name p l c acts a at class is none = record { calls = 1; leads = row-called g t KeepsEdits k name p l c acts a at class is none }
