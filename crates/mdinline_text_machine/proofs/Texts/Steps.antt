-- How the machine of texts reads on, in small steps: to come to an ending it is enough to come to it from further on.
use Rattle.mdconstructs_machines.proofs.LineReads.Onward.{leads-called as step-called, leads-fed as step-fed, leads-nok as step-nok, leads-ok as step-ok}
use Rattle.mdinline_text_machine.proofs.Prelude.{◌≡◌, ℕ, ◌∷◌, ◌++◌, [], List, Bool, cond, Option, ap, Event, Name, State, Next, Retry, Ok, Nok, Waits, Given, Text, Configuration, Local, Choice, Step, Sight, sight, byte_of, seat_before, fed, settled_at, Rows, when, with_local, counts, subst, sym, ◌∙◌, Some, true, false, class_of, picked, step_of, TextByte, text_byte, text_rules, not, passes, row, enter, exit, consume, Data, LineEnding, TextBeforeData, DataAtBreak, Between, AutolinkStart, AutolinkOpen, AutolinkSchemeInsideOrEmailAtext, AutolinkUrlInside, CharacterEscapeStart, CharacterEscapeInside, text_before_data_rows, data_at_break_rows, autolink_open_rows, autolink_scheme_rows, autolink_url_rows, escape_start_rows, escape_inside_rows}
use Rattle.mdinline_text_machine.specs.AutolinkRows.{autolink_start_rows}
use Rattle.mdconstructs_machines.proofs.LineReads.Steps.{held}
use Rattle.mdinline_text_machine.proofs.Texts.Leads.{Ending, EndsWith as step_ends, Leads as step_leads, as_asked}
use Rattle.mdconstructs_machines.proofs.LineReads.Rows.{row_step}

-- the step of the machine
abbrev pub text_step : Given → Sight → Configuration Unit Unit → Name → Step Unit Unit
text_step g = (text_rules g).step

-- a configuration between items: no span is open
abbrev pub between_items : ℕ → Waits → Bool → List Event → Local Unit Unit → Configuration Unit Unit
between_items p waits ended events local = held [] p waits ended events local

module _ (g : Given) (text : Text) (step : Sight → Configuration Unit Unit → Name → Step Unit Unit) where
  -- the step of a name is that of a row, or of the row of what is seen
  abbrev pub HasRow : Configuration Unit Unit → Name → Rows Unit Unit → Type 0
  HasRow k name rows = step (sight g text k) k name ≡ row_step g text k rows

  abbrev pub HasRows : Name → ((previous current : Option TextByte) → Rows Unit Unit) → Type 0
  HasRows name rows = (k : Configuration Unit Unit) → HasRow k name (rows (class_of text_byte (sight g text k).previous) (class_of text_byte (sight g text k).current))

-- A machine that reads constructs of texts: at the names of their states it does what their rows say
pub record Plays (g : Given) (text : Text) : Type 0 where
  pub step : Sight → Configuration Unit Unit → Name → Step Unit Unit
  pub autolink_start : HasRows g text step AutolinkStart autolink_start_rows
  pub autolink_open : HasRows g text step AutolinkOpen autolink_open_rows
  pub autolink_scheme : HasRows g text step AutolinkSchemeInsideOrEmailAtext autolink_scheme_rows
  pub autolink_url : HasRows g text step AutolinkUrlInside autolink_url_rows
  pub escape_start : HasRows g text step CharacterEscapeStart escape_start_rows
  pub escape_inside : HasRows g text step CharacterEscapeInside escape_inside_rows

-- It reads line endings between constructs of these names, and data up to a byte that is special
pub record PlaysData (g : Given) (text : Text) (m : Plays g text) (names : Between) : Type 0 where
  pub special : ℕ → Bool
  pub line_ends : (k : Configuration Unit Unit) → (sight g text k).current ≡ Some 10 → HasRow g text m.step k names.home (row (enter LineEnding ∷ consume ∷ exit LineEnding ∷ []) (Next names.home))
  pub data_goes_on : (k : Configuration Unit Unit) (b : ℕ) → (sight g text k).current ≡ Some b → special b ≡ false → HasRow g text m.step k names.inside (row (consume ∷ []) (Next names.inside))
  pub data_ends : (k : Configuration Unit Unit) → passes (λ b. not (special b)) (sight g text k).current ≡ false → HasRow g text m.step k names.inside (row (exit Data ∷ []) (Retry names.home))

-- and data of texts begins with a byte or a whole backtick string
pub record BeginsData (g : Given) (text : Text) (m : Plays g text) : Type 0 where
  pub text_before_data : HasRows g text m.step TextBeforeData text_before_data_rows
  pub data_at_break : HasRows g text m.step DataAtBreak data_at_break_rows

module _ (g : Given) (text : Text) (m : Plays g text) where
  -- reading on ends in Ok, as is asked
  abbrev pub EndsWith : Configuration Unit Unit → List Choice → State → Ending → Type 0
  EndsWith k cs s e = step_ends g text m.step k cs s e

  -- what the second ends with the first does too
  abbrev pub Leads : (k : Configuration Unit Unit) (cs : List Choice) (s : State) (k' : Configuration Unit Unit) (cs' : List Choice) (s' : State) → Type 0
  Leads k cs s k' cs' s' = step_leads g text m.step k cs s k' cs' s'

module _ (g : Given) (text : Text) where
  -- the classes of the byte before and of the one that waits
  abbrev pub before_class : ℕ → Option TextByte
  before_class p = class_of text_byte (byte_of (seat_before text p))

  -- of two rows one is picked by a test
  pub tested : (test : Given → Sight → Configuration Unit Unit → Bool) (a b : Rows Unit Unit) (k : Configuration Unit Unit) (t : Bool) → test g (sight g text k) (with_local k (counts k.local)) ≡ t
      → row_step g text k (when test a b) ≡ row_step g text k (cond t a b)
  tested test a b k true e = let s = sight g text k in let k1 = with_local k (counts k.local) in ap (λ c. step_of (cond c (picked a g s k1) (picked b g s k1)) s k1) e
  tested test a b k false e = let s = sight g text k in let k1 = with_local k (counts k.local) in ap (λ c. step_of (cond c (picked a g s k1) (picked b g s k1)) s k1) e

module _ (g : Given) (text : Text) (m : Plays g text) where
  -- a call, a byte or the end that is fed, and a choice that ends
  pub leads-called : (k : Configuration Unit Unit) (cs : List Choice) (n : Name)
      → let s = m.step (sight g text k) k n in Leads g text m k cs (Retry n) s.configuration (s.choices ++ cs) s.answer
  leads-called k cs n e h = step-called as_asked g text m.step k cs n e h

  pub leads-fed : (k : Configuration Unit Unit) (cs : List Choice) (n : Name) → Leads g text m k cs (Next n) (fed text k) cs (Retry n)
  leads-fed k cs n e h = step-fed as_asked g text m.step k cs n e h

  pub leads-ok : (k : Configuration Unit Unit) (c : Choice) (cs : List Choice) → Leads g text m k (c ∷ cs) Ok (settled_at c.kind c.saved Ok k) cs c.ok
  leads-ok k c cs e h = step-ok as_asked g text m.step k c cs e h

  pub leads-nok : (k : Configuration Unit Unit) (c : Choice) (cs : List Choice) → Leads g text m k (c ∷ cs) Nok (settled_at c.kind c.saved Nok k) cs c.nok
  leads-nok k c cs e h = step-nok as_asked g text m.step k c cs e h

  -- reading on from the step of these rows
  abbrev pub WithRows : Configuration Unit Unit → List Choice → Ending → Rows Unit Unit → Type 0
  WithRows k cs es rows = let q = row_step g text k rows in EndsWith g text m q.configuration (q.choices ++ cs) q.answer es

  -- a call, by its row
  pub leads-row : (rows : Rows Unit Unit) (k : Configuration Unit Unit) (cs : List Choice) (n : Name) (es : Ending) → HasRow g text m.step k n rows → WithRows k cs es rows → EndsWith g text m k cs (Retry n) es
  leads-row rows k cs n es has h = leads-called k cs n es (subst (λ (q : Step Unit Unit). EndsWith g text m q.configuration (q.choices ++ cs) q.answer es) (sym has) h)

  -- a call, by what waits and the rows of the state there
  pub leads-seen : {o : Option ℕ} {rows : Rows Unit Unit} (table : (previous current : Option TextByte) → Rows Unit Unit) (k : Configuration Unit Unit) (cs : List Choice) (n : Name) (es : Ending)
      → (sight g text k).current ≡ o → table (class_of text_byte (sight g text k).previous) (class_of text_byte o) ≡ rows
      → m.step (sight g text k) k n ≡ row_step g text k (table (class_of text_byte (sight g text k).previous) (class_of text_byte (sight g text k).current)) → WithRows k cs es rows
      → EndsWith g text m k cs (Retry n) es
  leads-seen {o} {rows} table k cs n es waits are has h =
      let all : m.step (sight g text k) k n ≡ row_step g text k rows =
      has ∙ ap (λ o. row_step g text k (table (class_of text_byte (sight g text k).previous) (class_of text_byte o))) waits ∙ ap (row_step g text k) are in
      leads-called k cs n es (subst (λ (q : Step Unit Unit). EndsWith g text m q.configuration (q.choices ++ cs) q.answer es) (sym all) h)

  -- and by a test, if there are two rows
  pub leads-tested : {o : Option ℕ} {a b : Rows Unit Unit} {t : Bool} (test : Given → Sight → Configuration Unit Unit → Bool) (table : (previous current : Option TextByte) → Rows Unit Unit) (k : Configuration Unit Unit) (cs : List Choice) (n : Name) (es : Ending)
      → (sight g text k).current ≡ o → table (class_of text_byte (sight g text k).previous) (class_of text_byte o) ≡ when test a b → test g (sight g text k) (with_local k (counts k.local)) ≡ t
      → m.step (sight g text k) k n ≡ row_step g text k (table (class_of text_byte (sight g text k).previous) (class_of text_byte (sight g text k).current)) → WithRows k cs es (cond t a b)
      → EndsWith g text m k cs (Retry n) es
  leads-tested {o} {a} {b} {t} test table k cs n es waits are picks has h =
      leads-seen table k cs n es waits are has (subst (λ (q : Step Unit Unit). EndsWith g text m q.configuration (q.choices ++ cs) q.answer es) (sym (tested g text test a b k t picks)) h)
