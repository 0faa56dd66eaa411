-- How a state is read by its row, where that makes no choice: the row's acts say which marks are made, and which place is read next.
use Rattle.mdblock_leaf_blocks.proofs.Prelude.{Bool, List, None, Option, Some, [], ap, append-nil, append_assoc, arith, false, length, length-append, refl, subst, sym, true, ℕ, ◌++◌, ◌+◌, ◌==◌, ◌∙◌, ◌∷◌, ◌≡◌, eqb-true, Seat, Event, Enter, Exit, Link, Point, Name, State, Next, Nok, Retry, consumed, entered, exited, with_local, Choice, Configuration, Local, EndsIn, Reading, Sight, byte_of, seat_before, sight, sight_in, Given, Text, Nothing, FlowByte, blank, flow_byte, flow, unchanged, IsReadAs, waits_then, Chunk, Mark, alone, linked_from, is_white, goes-called, first_byte, waits_at, Act, Rows, StateRows, Table, chooses, class_of, consume, does, enters, exit, note, named, past, picked, row, step_at, step_of, table_step, writes, sight_before, sees-at}
use Rattle.mdconstructs_tables.specs.Rows.{done}
use Rattle.mdblock_leaf_blocks.proofs.Lines.LineReads.{IsAt, reads-feeding}

-- where the rows of a call begin
abbrev pub counted : Configuration Unit Unit → Configuration Unit Unit
counted k = with_local k (unchanged k.local)

-- ---- acts
-- the marks that acts make, where this is seen
abbrev pub chunk_of : Option Link → Option Chunk
chunk_of None = None
chunk_of (Some link) = alone link.content

abbrev pub told : Sight → List (Act Unit Unit) → List Mark
told s [] = []
told s (enters name link ∷ acts) = (record { kind = Enter; name = name; point = s.enter_place; link = None }, chunk_of link) ∷ told s acts
told s (exit name ∷ acts) = (record { kind = Exit; name = name; point = s.exit_place; link = None }, None) ∷ told s acts
told s (consume ∷ acts) = told (past s) acts
told s (_ ∷ acts) = told s acts

-- acts link no events and make no choice; they read the byte, or not
abbrev pub ArePlain : List (Act Unit Unit) → Type 0
ArePlain [] = Unit {0}
ArePlain (enters name None ∷ acts) = ArePlain acts
ArePlain (enters name (Some link) ∷ acts) = (link ≡ record { previous = None; next = None; content = link.content }) × ArePlain acts
ArePlain (exit name ∷ acts) = ArePlain acts
ArePlain (consume ∷ acts) = ArePlain acts
ArePlain (writes f ∷ acts) = ArePlain acts
ArePlain (note ∷ acts) = ArePlain acts
ArePlain (_ ∷ acts) = ⊥

abbrev pub reads : List (Act Unit Unit) → Bool
reads [] = false
reads (consume ∷ acts) = true
reads (_ ∷ acts) = reads acts

-- what acts leave, by whether they read the byte
abbrev Left : (read : Bool) → Configuration Unit Unit → Configuration Unit Unit → Type 0
Left true k k' = (k'.position ≡ k.position + 1) × (k'.waiting ≡ Nothing)
Left false k k' = (k'.position ≡ k.position) × (k'.waiting ≡ k.waiting)

-- they read it once
abbrev pub ReadOnce : List (Act Unit Unit) → Type 0
ReadOnce [] = ⊥
ReadOnce (consume ∷ acts) = reads acts ≡ false
ReadOnce (_ ∷ acts) = ReadOnce acts

abbrev Read : (read : Bool) → List (Act Unit Unit) → Type 0
Read true acts = ReadOnce acts
Read false acts = reads acts ≡ false

acts-leave : (read : Bool) (acts : List (Act Unit Unit)) (s : Sight) (k : Configuration Unit Unit) (cs : List Choice) → ArePlain acts → Read read acts → (chooses acts s k cs ≡ cs) × Left read k (does acts s k)
acts-leave true [] s k cs plain h = absurd h
acts-leave false [] s k cs plain h = (refl, (refl, refl))
acts-leave true (consume ∷ acts) s k cs plain h = acts-leave false acts (past s) (consumed k) cs plain h
acts-leave false (consume ∷ acts) s k cs plain h = absurd (cc)
acts-leave read (enters name None ∷ acts) s k cs plain h = acts-leave read acts s (done (enters name None) s k) cs plain h
acts-leave read (enters name (Some link) ∷ acts) s k cs plain h = acts-leave read acts s (done (enters name (Some link)) s k) cs plain.1 h
acts-leave read (exit name ∷ acts) s k cs plain h = acts-leave read acts s (done (exit name) s k) cs plain h
acts-leave read (writes f ∷ acts) s k cs plain h = acts-leave read acts s (done (writes f) s k) cs plain h
acts-leave read (note ∷ acts) s k cs plain h = acts-leave read acts s (done note s k) cs plain h
acts-leave read (act ∷ acts) s k cs plain h = absurd plain

-- and make their marks
one-event : (k : Configuration Unit Unit) (e : Event) (m : Mark) (marks : List Mark) (after : List Event) → linked_from (length k.events) (m ∷ []) ≡ e ∷ []
    → linked_from (length k.events) (m ∷ marks) ≡ linked_from (length k.events) (m ∷ []) ++ linked_from (length k.events + 1) marks
    → after ≡ (k.events ++ e ∷ []) ++ linked_from (length (k.events ++ e ∷ [])) marks → after ≡ k.events ++ linked_from (length k.events) (m ∷ marks)
one-event k e m marks after one split more =
    let n : length (k.events ++ e ∷ []) ≡ length k.events + 1 = length-append k.events (e ∷ []) in
    more ∙ ap (λ i. (k.events ++ e ∷ []) ++ linked_from i marks) n ∙ append_assoc k.events (e ∷ []) (linked_from (length k.events + 1) marks)
    ∙ ap (λ es. k.events ++ es) (sym (split ∙ ap (λ es. es ++ linked_from (length k.events + 1) marks) one))

tells : (acts : List (Act Unit Unit)) (s : Sight) (k : Configuration Unit Unit) → ArePlain acts → (does acts s k).events ≡ k.events ++ linked_from (length k.events) (told s acts)
tells [] s k plain = sym (append-nil k.events)
tells (enters name None ∷ acts) s k plain =
    let e : Event = record { kind = Enter; name = name; point = s.enter_place; link = None } in
    one-event k e (e, None) (told s acts) _ refl refl (tells acts s (entered name None s.enter_place k) plain)
tells (enters name (Some link) ∷ acts) s k plain =
    let e : Link → Event = λ link. record { kind = Enter; name = name; point = s.enter_place; link = Some link } in
    let bare : Event = record { kind = Enter; name = name; point = s.enter_place; link = None } in
    one-event k (e link) (bare, chunk_of (Some link)) (told s acts) _ (ap (λ l. e l ∷ []) (sym plain.0)) refl (tells acts s (entered name (Some link) s.enter_place k) plain.1)
tells (exit name ∷ acts) s k plain =
    let e : Event = record { kind = Exit; name = name; point = s.exit_place; link = None } in
    one-event k e (e, None) (told s acts) _ refl refl (tells acts s (exited name s.exit_place k) plain)
tells (consume ∷ acts) s k plain = tells acts (past s) (consumed k) plain
tells (writes f ∷ acts) s k plain = tells acts s (done (writes f) s k) plain
tells (note ∷ acts) s k plain = tells acts s (done note s k) plain
tells (act ∷ acts) s k plain = absurd plain

-- the class of white space
pub white-is-blank : (b : ℕ) → is_white b ≡ true → flow_byte b ≡ blank
white-is-blank b white = elim (b == 10) as (λ t. (b == 10) ≡ t → flow_byte b ≡ blank) [
  | true ↦ λ e. absurd (let no : is_white 10 ≡ true = subst (λ n. is_white n ≡ true) (eqb-true b 10 e) white in cc)
  | false ↦ λ e. rw (e, white) refl
] refl

-- ---- the step of a state
-- the rows of a state of a table
abbrev pub rows_of : Option (StateRows FlowByte Unit Unit) → (previous current : Option FlowByte) → Rows Unit Unit
rows_of None previous current = row [] Nok
rows_of (Some state) previous current = state.rows previous current

pub step-by-row : (table : Table FlowByte Unit Unit) (g : Given) (s : Sight) (k : Configuration Unit Unit) (name : Name) → let k1 = with_local k (table.first k.local) in
    table_step table g s k name ≡ step_of (picked (rows_of (named table.states name) (class_of table.class s.previous) (class_of table.class s.current)) g s k1) s k1
step-by-row table g s k name =
    let k1 = with_local k (table.first k.local) in
    elim (named table.states name) as (λ x. step_at table g x s k1 ≡ step_of (picked (rows_of x (class_of table.class s.previous) (class_of table.class s.current)) g s k1) s k1) [ None ↦ refl | Some state ↦ refl ]

sees-first : (g : Given) (end p : Point) (b : Option ℕ) (l : List Seat) → (sight_before g end p b l).current ≡ first_byte l
sees-first g end p b [] = refl
sees-first g end p b (s ∷ ss) = refl

module _ (g : Given) (t : Text) (kept : (before after : Local Unit Unit) → Type 0) (k : Configuration Unit Unit) (name : Name) (p : Point) where
  -- what is seen there
  abbrev pub seen : List Seat → Sight
  seen l = sight_before g t.end p (byte_of (seat_before t k.position)) l

  sees : (l : List Seat) → IsAt t k p l → sight g t k ≡ seen l
  sees l at = ap (sight_in g t k.position) at.waits ∙ sees-at g t l k.position at.left ∙ ap (λ p. sight_before g t.end p (byte_of (seat_before t k.position)) l) at.behind

  -- The state's row, where this waits
  abbrev pub RowIs : List Seat → Option FlowByte → List (Act Unit Unit) → State → Type 0
  RowIs l c acts a = picked (rows_of (named flow.states name) (class_of flow_byte (seen l).previous) c) g (seen l) (counted k) ≡ record { acts = acts; answer = a }

  does-so : (l : List Seat) (c : Option FlowByte) (acts : List (Act Unit Unit)) (a : State) → IsAt t k p l → class_of flow_byte (first_byte l) ≡ c → RowIs l c acts a
      → table_step flow g (sight g t k) k name ≡ step_of (record { acts = acts; answer = a }) (seen l) (counted k)
  does-so l c acts a at class is =
      let s = seen l in
      ap (λ s. table_step flow g s k name) (sees l at) ∙ step-by-row flow g s k name
      ∙ ap (λ c. step_of (picked (rows_of (named flow.states name) (class_of flow_byte s.previous) c) g s (counted k)) s (counted k)) (ap (class_of flow_byte) (sees-first g t.end p _ l) ∙ class)
      ∙ ap (λ r. step_of r s (counted k)) is

  -- so its call is that of the row's acts, which make no choice
  pub row-called : (l : List Seat) (c : Option FlowByte) (acts : List (Act Unit Unit)) (a : State) → IsAt t k p l → class_of flow_byte (first_byte l) ≡ c → RowIs l c acts a → chooses acts (seen l) (counted k) [] ≡ []
      → (choices : List Choice) (before : ℕ) (z : Reading Unit Unit) → EndsIn g (table_step flow g) t (before + 1) (does acts (seen l) (counted k)) choices a z
      → EndsIn g (table_step flow g) t before k choices (Retry name) z
  row-called l c acts a at class is none choices before z h =
      (goes-called g (table_step flow g) t k name (does acts (seen l) (counted k)) a
      (does-so l c acts a at class is ∙ ap (λ cs. record { configuration = does acts (seen l) (counted k); choices = cs; answer = a }) none)).leads choices before z h

  -- a row that reads no byte
  pub row-stays : (l : List Seat) (c : Option FlowByte) (acts : List (Act Unit Unit)) (a : State) → IsAt t k p l → class_of flow_byte (first_byte l) ≡ c → RowIs l c acts a
      → ArePlain acts → reads acts ≡ false → waits_then a l ≡ waits_at l → kept k.local (does acts (seen l) (counted k)).local
      → IsReadAs g t kept k name [] l (told (seen l) acts) a
  row-stays l c acts a at class is plain none waits local =
      let (choices, left) = acts-leave false acts (seen l) (counted k) [] plain none in record {
        after = does acts (seen l) (counted k);
        calls = 1;
        events_are = tells acts (seen l) (counted k) plain;
        position = let same = left.0 in omega (arith, same);
        waiting = left.1 ∙ at.waits ∙ sym waits;
        local = local;
        leads = row-called l c acts a at class is choices;
      }

  -- a row that reads one
  pub row-takes : (s : Seat) (rest : List Seat) (c : FlowByte) (acts : List (Act Unit Unit)) (to : Name) → IsAt t k p (s ∷ rest) → flow_byte s.byte ≡ c → RowIs (s ∷ rest) (Some c) acts (Next to)
      → ArePlain acts → ReadOnce acts → kept k.local (does acts (seen (s ∷ rest)) (counted k)).local
      → IsReadAs g t kept k name (s ∷ []) rest (told (seen (s ∷ rest)) acts) (Next to)
  row-takes s rest c acts to at class is plain once local =
      let l = s ∷ rest in
      let (choices, left) = acts-leave true acts (seen l) (counted k) [] plain once in record {
        after = does acts (seen l) (counted k);
        calls = 1;
        events_are = tells acts (seen l) (counted k) plain;
        position = left.0;
        waiting = left.1;
        local = local;
        leads = row-called l (Some c) acts (Next to) at (ap Some class) is choices;
      }

  -- and the next is fed
  pub row-takes-on : (s : Seat) (rest : List Seat) (c : FlowByte) (acts : List (Act Unit Unit)) (to : Name) → IsAt t k p (s ∷ rest) → flow_byte s.byte ≡ c → RowIs (s ∷ rest) (Some c) acts (Next to)
      → ArePlain acts → ReadOnce acts → kept k.local (does acts (seen (s ∷ rest)) (counted k)).local
      → IsReadAs g t kept k name (s ∷ []) rest (told (seen (s ∷ rest)) acts) (Retry to)
  row-takes-on s rest c acts to at class is plain once local =
      reads-feeding g t kept k p name to (s ∷ []) rest (told (seen (s ∷ rest)) acts) at (row-takes s rest c acts to at class is plain once local)
