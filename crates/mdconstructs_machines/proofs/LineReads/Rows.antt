-- How a machine of a table of lines reads on, by the row of what waits.
use Rattle.mdconstructs_machines.proofs.LineReads.Onward.{leads-step}
use Rattle.mdconstructs_machines.proofs.Prelude.{◌≡◌, ℕ, ◌∷◌, ◌++◌, [], List, Bool, cond, ◌∙◌, ap, Option, Some, slice_get, Event, Enter, Exit, LineEnding, Name, Retry, Seat, Given, Text, with_local, Configuration, Choice, Step, Sight, sight, byte_of, point_or, end_or, Rows, class_of, picked, step_of, is_line_ending, event, leaf, LineByte, line_ending, other, line_byte, counts, append_assoc}
use Rattle.mdconstructs_machines.proofs.LineReads.Steps.{EndsWith, has_events}

-- two events more
pub two : (es : List Event) (a b : Event) → (es ++ a ∷ []) ++ b ∷ [] ≡ es ++ a ∷ b ∷ []
two es a b = append_assoc es (a ∷ []) (b ∷ [])

module _ (g : Given) (text : Text) where
  -- the class of what waits
  abbrev pub waits_class : Configuration Unit Unit → Option LineByte
  waits_class k = class_of line_byte (sight g text k).current

  -- the step of rows
  abbrev pub row_step : Configuration Unit Unit → Rows Unit Unit → Step Unit Unit
  row_step k rows =
      let s = sight g text k in
      let k1 = with_local k (counts k.local) in
      step_of (picked rows g s k1) s k1

  -- the class of the byte at a position
  abbrev pub class_here : ℕ → Option LineByte
  class_here p = class_of line_byte (byte_of (slice_get text.seats p))

  pub is-class : (p : ℕ) (s : Seat) (b : Bool) → slice_get text.seats p ≡ Some s → is_line_ending s ≡ b → class_here p ≡ Some (cond b line_ending other)
  is-class p s b at e = ap (λ o. class_of line_byte (byte_of o)) at ∙ ap (λ b. Some (cond b line_ending other)) e

  pub byte-class : (p : ℕ) (s : Seat) → slice_get text.seats p ≡ Some s → class_here p ≡ Some (line_byte s.byte)
  byte-class p s at = ap (λ o. class_of line_byte (byte_of o)) at

  -- a line ending, as it is entered, consumed and exited
  pub line-ending-read : (events : List Event) (p : ℕ) (s : Seat) → slice_get text.seats p ≡ Some s
      → (events ++ event g.bytes Enter LineEnding (point_or text.end (slice_get text.seats p)) ∷ []) ++ event g.bytes Exit LineEnding (end_or text.end (slice_get text.seats p)) ∷ []
      ≡ events ++ leaf g.bytes LineEnding (s ∷ [])
  line-ending-read events p s at =
      two events _ _ ∙ ap (λ o. events ++ event g.bytes Enter LineEnding (point_or text.end o) ∷ event g.bytes Exit LineEnding (end_or text.end o) ∷ []) at

module _ (g : Given) (text : Text) (step : Sight → Configuration Unit Unit → Name → Step Unit Unit) where
  -- the step of this name is the step of these rows
  abbrev pub HasRows : Name → ((previous current : Option LineByte) → Rows Unit Unit) → Type 0
  HasRows name rows = (k : Configuration Unit Unit) → step (sight g text k) k name ≡ row_step g text k (rows (class_of line_byte (sight g text k).previous) (waits_class g text k))

  -- what waits picks the row
  pub leads-row : (name : Name) (rows : (previous current : Option LineByte) → Rows Unit Unit) → HasRows name rows → (k : Configuration Unit Unit) (cs : List Choice) (w : Option LineByte) → waits_class g text k ≡ w
      → (events : List Event) → (let q = row_step g text k (rows (class_of line_byte (sight g text k).previous) w) in EndsWith g text step q.configuration (q.choices ++ cs) q.answer events)
      → EndsWith g text step k cs (Retry name) events
  leads-row name rows has k cs w is events h =
      leads-step has_events g text step k cs name (row_step g text k (rows (class_of line_byte (sight g text k).previous) w)) (has k ∙ ap (λ w. row_step g text k (rows (class_of line_byte (sight g text k).previous) w)) is) events h
