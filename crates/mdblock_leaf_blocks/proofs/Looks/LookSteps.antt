-- Steps of looks at lines: what a look finds at a byte, or at the end of the line, is what the rows there say.
use Rattle.mdblock_leaf_blocks.proofs.Prelude.{Bool, List, Option, Some, [], ap, cond, drop, false, refl, subst, suc, sym, true, ℕ, ◌+◌, ◌==◌, ◌∙◌, ◌∷◌, ◌≡◌, slice_get, Seat, Event, EventName, Name, Nok, Configuration, Local, Sight, byte_of, sight, Given, Text, Cased, cased, flow_byte, line_feed, flow, unchanged, at_mark, is_byte, Finds, LeavesAll, LineEnds, SeenKind, at-byte, at-front, told, told_by, AreTestsOf, rows_at_byte, rows_in, Look, first_byte, glance, looked_on, scan, shows, unfed_look, Rows, class_of, picked, row, when}

-- one of two, by a test that is known
pub by-true : {X : Type 0} (P : X → Type 0) (t : Bool) (x y : X) → t ≡ true → P x → P (cond t x y)
by-true P t x y e h = subst (λ b. P (cond b x y)) (sym e) h

pub by-false : {X : Type 0} (P : X → Type 0) (t : Bool) (x y : X) → t ≡ false → P y → P (cond t x y)
by-false P t x y e h = subst (λ b. P (cond b x y)) (sym e) h

-- no construct begins here
abbrev pub no : Rows Unit Unit
no = row [] Nok

-- what a look found, and what it left as it was
abbrev pub Found : Local Unit Unit → SeenKind → (rest : List ℕ) → Look Unit Unit → Type 0
Found before kind rest r = LeavesAll before r.local × Finds kind rest r.local r.answer

-- a write that touches none of this leaves it
pub kept : (before now after : Local Unit Unit) → LeavesAll before now → after.map ≡ now.map → after.resolvers ≡ now.resolvers → after.tokenize_state.start ≡ now.tokenize_state.start
    → after.tokenize_state.end ≡ now.tokenize_state.end → after.tokenize_state.connect ≡ now.tokenize_state.connect → LeavesAll before after
kept before now after h edits resolvers start end connect = record {
  edits = edits ∙ h.edits;
  resolvers = resolvers ∙ h.resolvers;
  start = start ∙ h.start;
  end = end ∙ h.end;
  connect = connect ∙ h.connect;
}

pub leaves-on : (before now after : Local Unit Unit) → LeavesAll before now → LeavesAll now after → LeavesAll before after
leaves-on before now after h on = kept before now after h on.edits on.resolvers on.start on.end on.connect

pub leaves-itself : (local : Local Unit Unit) → LeavesAll local local
leaves-itself local = record { edits = refl; resolvers = refl; start = refl; end = refl; connect = refl }

-- A look at the bytes that are left, and what rows come to before them
module _ (g : Given) (t : Text) (stack : List EventName) (events : List Event) where
  abbrev pub look : List Seat → Option ℕ → ℕ → Bool → Local Unit Unit → Name → Look Unit Unit
  look l previous q mark local name = scan flow g t stack events 2 l previous q mark local name

  -- how it goes on behind the first of them
  abbrev pub rest_of : List Seat → ℕ → Local Unit Unit → Name → Look Unit Unit
  rest_of [] q = unfed_look flow g t stack events
  rest_of (s ∷ ss) q = look ss (Some s.byte) (q + 1) false

  -- the same look, with another bound of the calls before the first of them
  abbrev pub look_by : ℕ → List Seat → Option ℕ → ℕ → Bool → Local Unit Unit → Name → Look Unit Unit
  look_by bound l previous q mark local name = looked_on flow g t stack events (rest_of l q) l mark (glance flow g t stack events (suc bound) previous l q mark local name)

  module _ (bound : ℕ) (l : List Seat) (previous : Option ℕ) (q : ℕ) (mark : Bool) (local : Local Unit Unit) (name : Name) where
    abbrev pub come : Rows Unit Unit → Look Unit Unit
    come rows = told flow (λ r. r) g t stack events bound (rest_of l q) l previous q mark local name rows

    abbrev seen_here : Sight
    seen_here = sight g t (shows {R = Unit {0}} {D = Unit {0}} stack events l q mark local)

    abbrev made_here : Configuration Unit Unit
    made_here = shows stack events l q mark (unchanged local)

    -- rows by a test of what states share
    come-when : (f : Given → Sight → Configuration Unit Unit → Bool) (x y : Rows Unit Unit) → come (when f x y) ≡ come (cond (f g seen_here made_here) x y)
    come-when f x y = elim (f g seen_here made_here) as (λ b. told_by flow (λ r. r) g t stack events bound (rest_of l q) l previous q mark local name (cond b (picked x g seen_here made_here) (picked y g seen_here made_here)) ≡ come (cond b x y)) [
      | true ↦ refl
      | false ↦ refl
    ]

    pub by-share : (P : Look Unit Unit → Type 0) (f : Given → Sight → Configuration Unit Unit → Bool) (x y : Rows Unit Unit) → P (come (cond (f g seen_here made_here) x y)) → P (come (when f x y))
    by-share P f x y h = subst P (sym (come-when f x y)) h

    -- the same, if it is known what the test says
    pub by-known : (P : Look Unit Unit → Type 0) (f : Given → Sight → Configuration Unit Unit → Bool) (x y : Rows Unit Unit) (b : Bool) → f g seen_here made_here ≡ b → P (come (cond b x y)) → P (come (when f x y))
    by-known P f x y b e h = by-share P f x y (subst (λ c. P (come (cond c x y))) (sym e) h)

  pub look-is : (l : List Seat) (previous : Option ℕ) (q : ℕ) (mark : Bool) (local : Local Unit Unit) (name : Name) → look l previous q mark local name ≡ look_by 1 l previous q mark local name
  look-is [] previous q mark local name = refl
  look-is (s ∷ ss) previous q mark local name = refl

  -- a state has these rows
  abbrev pub HasRows : (name : Name) → Cased Unit Unit → Type 0
  HasRows name c = (bound : ℕ) (l : List Seat) (previous : Option ℕ) (q : ℕ) (mark : Bool) (local : Local Unit Unit)
      → look_by bound l previous q mark local name ≡ come bound l previous q mark local name (cased c (class_of flow_byte previous) (class_of flow_byte (first_byte l)))

  -- the end of the line: the rows there are the same before a line ending
  pub at-line-end : (P : Look Unit Unit → Type 0) (name : Name) (c : Cased Unit Unit) (rows : Rows Unit Unit) → HasRows name c → c.at_end ≡ rows → rows_in c.cases c.rest line_feed ≡ rows
      → (bound : ℕ) (more : List Seat) → LineEnds more → (previous : Option ℕ) (q : ℕ) (mark : Bool) (local : Local Unit Unit)
      → P (come bound more previous q mark local name rows) → P (look_by bound more previous q mark local name)
  at-line-end P name c rows has e f bound [] ends previous q mark local h =
      subst P (sym (has bound [] previous q mark local)) (subst (λ r. P (come bound [] previous q mark local name r)) (sym e) h)
  at-line-end P name c rows has e f bound (s ∷ ss) ends previous q mark local h =
      let is : rows_in c.cases c.rest (flow_byte s.byte) ≡ rows = ap (λ b. rows_in c.cases c.rest (flow_byte b)) ends ∙ f in
      subst P (sym (has bound (s ∷ ss) previous q mark local)) (subst (λ r. P (come bound (s ∷ ss) previous q mark local name r)) (sym is) h)

  pub over-line : (P : Look Unit Unit → Type 0) (name : Name) (c : Cased Unit Unit) (rows : Rows Unit Unit) → HasRows name c → c.at_end ≡ rows → rows_in c.cases c.rest line_feed ≡ rows
      → (more : List Seat) → LineEnds more → (previous : Option ℕ) (q : ℕ) (mark : Bool) (local : Local Unit Unit) → P (come 1 more previous q mark local name rows) → P (look more previous q mark local name)
  over-line P name c rows has e f more ends previous q mark local h = subst P (sym (look-is more previous q mark local name)) (at-line-end P name c rows has e f 1 more ends previous q mark local h)

  -- a byte: the rows there are those of the first test that it passes
  pub at-line-byte : (P : Look Unit Unit → Type 0) (name : Name) (c : Cased Unit Unit) (tests : List (ℕ → Bool)) → HasRows name c → AreTestsOf flow_byte c.cases tests
      → (bound : ℕ) (s : Seat) (ss : List Seat) (previous : Option ℕ) (q : ℕ) (mark : Bool) (local : Local Unit Unit)
      → P (come bound (s ∷ ss) previous q mark local name (rows_at_byte c.cases tests c.rest s.byte))
      → P (look_by bound (s ∷ ss) previous q mark local name)
  at-line-byte P name c tests has are bound s ss previous q mark local h =
      subst P (sym (has bound (s ∷ ss) previous q mark local)) (subst (λ r. P (come bound (s ∷ ss) previous q mark local name r)) (sym (at-byte flow_byte c.cases tests c.rest are s.byte)) h)

  -- the mark of the line waits
  pub mark-is : (s : Seat) (ss : List Seat) (q : ℕ) (mark : Bool) (local : Local Unit Unit) (m : ℕ) → drop q t.seats ≡ s ∷ ss → local.tokenize_state.marker ≡ m
      → at_mark g (sight g t (shows {R = Unit {0}} {D = Unit {0}} stack events (s ∷ ss) q mark local)) (shows stack events (s ∷ ss) q mark (unchanged local)) ≡ (s.byte == m)
  mark-is s ss q mark local m here e =
      let there : slice_get t.seats q ≡ Some s = at-front t.seats q s ss here in
      ap (λ o. is_byte local.tokenize_state.marker (byte_of o)) there ∙ ap (λ n. s.byte == n) e
