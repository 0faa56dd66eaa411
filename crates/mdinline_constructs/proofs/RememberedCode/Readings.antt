-- How a machine reads code spans that remembers backtick strings: they are decided as they are without that, what is remembered holds, and calls are
-- paid: a look to the end once, and else by the bytes.
use Rattle.mdinline_constructs.proofs.Prelude.{◌≡◌, ℕ, ◌+◌, ◌*◌, ◌<◌, ◌≤◌, ◌∷◌, ◌++◌, [], List, Bool, true, false, cond, refl, sym, ◌∙◌, ap, subst, arith, length, take, drop, Option, Some, None, eqb-true, drop-drop, length-map, drop-next, Seat, Event, Name, State, Next, Retry, RawTextStart, Choice, Configuration, Local, Given, IsText, Text, Byte, Nothing, Ends, run-positive, PlaysCodeSpans, KnowsRuns, known_runs, knows-as, knows-later, knows-nothing, left-paid, others, read-paid, remembered-code-spans-read, remembering, seen, code-span-within, OfOption, outer, Remembered, remembered, spent, Leads, Plays, between_items, backticks, is_backtick, Between, Found, item_length, bytes_of, item_events, lined_code_at, lined_events}
use Rattle.mdinline_text_machine.proofs.CodeSpans.Parts.{ReadsPieces}
use Rattle.mdinline_constructs.proofs.RememberedCode.Lines.{PlaysCodeLines, into_lines, reads-lines}
use Rattle.mdinline_constructs.proofs.RememberedCode.Memory.{code_memory}

-- The calls of the one look that may still come to the end
abbrev pub code_ahead : Remembered → List Seat → ℕ
code_ahead r l = cond r.all_seen 0 (7 * length l)

pub code-ahead-later : (r : Remembered) (s : Seat) (ss : List Seat) → code_ahead r ss ≤ code_ahead r (s ∷ ss)
code-ahead-later r s ss = elim r.all_seen as (λ b. cond b 0 (7 * length ss) ≤ cond b 0 (7 * length (s ∷ ss))) [
  | true ↦ omega arith
  | false ↦ omega arith
]

pub code-ahead-within : (r : Remembered) (l : List Seat) → code_ahead r l ≤ 7 * length l
code-ahead-within r l = elim r.all_seen as (λ b. cond b 0 (7 * length l) ≤ 7 * length l) [
  | true ↦ omega arith
  | false ↦ omega arith
]

module _ (g : Given) (text : Text) (is : IsText g text) (m : Plays g text) where
  -- what is remembered is known to hold from a place on
  abbrev pub knows_code : ℕ → Remembered → Type 0
  knows_code p r = (local : Local Unit Unit) → remembered local ≡ r → KnowsRuns g text is m code_memory p local

  known-so : (p : ℕ) (local : Local Unit Unit) → KnowsRuns g text is m code_memory p local → knows_code p (remembered local)
  known-so p local known other same = knows-as g text is m code_memory p local other same known

  -- further on, and if only other things changed
  pub knows-code-later : (p p' : ℕ) (r : Remembered) → p ≤ p' → knows_code p r → knows_code p' r
  knows-code-later p p' r on known local same = knows-later g text is m code_memory p p' local local on refl refl (known local same)

  -- at first nothing is remembered
  pub knows-no-code : (p : ℕ) (r : Remembered) → r.runs ≡ [] → r.all_seen ≡ false → knows_code p r
  knows-no-code p r none unseen local same =
      let runs : (remembered local).runs ≡ [] = ap (λ (x : Remembered). x.runs) same ∙ none in
      knows-nothing g text is m code_memory p local (λ k index. code_memory.same local empty runs k index) (ap (λ (x : Remembered). x.all_seen) same ∙ unseen)
    where
      empty : Local Unit Unit
      empty = record local { tokenize_state = record local.tokenize_state { document_container_stack = [] } }

  module _ (c : PlaysCodeSpans g text m (remembering code_memory)) (lines : PlaysCodeLines g text m) (names : Between) where
    abbrev reads : (p : ℕ) (from : Local Unit Unit) → ReadsPieces g text m (remembering code_memory) c (known_runs g text is m code_memory) p from into_lines
    reads p from = reads-lines g text m c lines (known_runs g text is m code_memory) p from

    -- A code span is decided
    abbrev pub CodeDecided : (nok : Name) (p : ℕ) (ended : Bool) (events : List Event) → Local Unit Unit → Seat → List Seat → Configuration Unit Unit → List Choice → State → Option Found → Type 0
    CodeDecided nok p ended events local s ss k cs st None =
        (after : Local Unit Unit) × knows_code p (remembered after) × (others after ≡ others local)
        × (spent after + code_ahead (remembered after) ss ≤ spent local + code_ahead (remembered local) (s ∷ ss) + (7 * backticks (bytes_of (s ∷ ss)) + 3))
        × Leads g text m k cs st (between_items p Nothing ended events after) [] (Next nok)
    CodeDecided nok p ended events local s ss k cs st (Some item) =
        let size = item_length item in
        (ended_after : Bool) × (after : Local Unit Unit) × knows_code (p + size) (remembered after) × (others after ≡ others local)
        × (spent after + code_ahead (remembered after) (drop size (s ∷ ss)) ≤ spent local + code_ahead (remembered local) (s ∷ ss) + (7 * size + 2))
        × (0 < size) × (size ≤ length (s ∷ ss)) × (backticks (bytes_of (s ∷ ss)) ≤ size)
        × Leads g text m k cs st (between_items (p + size) Nothing ended_after (events ++ item_events g.bytes (item, take size (s ∷ ss))) after) [] (Next names.home)

    decided : (nok : Name) (p : ℕ) (ended : Bool) (events : List Event) (local : Local Unit Unit) (s : Seat) (ss : List Seat) → drop p text.seats ≡ s ∷ ss → is_backtick s.byte ≡ true → (k : Configuration Unit Unit) (cs : List Choice) (st : State) (o : Option Found)
        → OfOption (λ item. (item_length item ≤ length (bytes_of (s ∷ ss))) × (backticks (bytes_of (s ∷ ss)) ≤ item_length item)) o
        → Ends g text m (remembering code_memory) c (known_runs g text is m code_memory) names into_lines reads local nok p ended events (s ∷ ss) k cs st o → CodeDecided nok p ended events local s ss k cs st o
    decided nok p ended events local s ss here tick k cs st None w d =
        let next : drop (p + 1) text.seats ≡ ss = drop-next text.seats p s ss here in
        let paid : spent d.0 + cond (seen d.0) 0 (7 * length (drop (p + 1) text.seats)) ≤ spent local + cond (seen local) 0 (7 * length (drop p text.seats)) + (7 * backticks (bytes_of (drop p text.seats)) + 3) =
        left-paid g text is m code_memory p local d.0 s ss here d.1 in (
          d.0,
          known-so p d.0 d.1.knows,
          d.1.others_same,
          subst (λ l. spent d.0 + cond (seen d.0) 0 (7 * length ss) ≤ spent local + cond (seen local) 0 (7 * length l) + (7 * backticks (bytes_of l) + 3)) here
              (subst (λ l. spent d.0 + cond (seen d.0) 0 (7 * length l) ≤ spent local + cond (seen local) 0 (7 * length (drop p text.seats)) + (7 * backticks (bytes_of (drop p text.seats)) + 3)) next paid),
          d.2,
        )
    decided nok p ended events local s ss here tick k cs st (Some item) w d =
        let size = item_length item in
        let l = s ∷ ss in
        let within : size ≤ length l = omega (arith, w.0, length-map l (λ (x : Seat). x.byte)) in
        let behind : drop (p + size) text.seats ≡ drop size l = sym (drop-drop size p text.seats) ∙ ap (drop size) here in
        let paid : spent d.1 + cond (seen d.1) 0 (7 * length (drop (p + size) text.seats)) ≤ spent local + cond (seen local) 0 (7 * length (drop p text.seats)) + (7 * size + 2) =
        read-paid g text is m code_memory p size local d.1 l here within d.2 in (
          d.0,
          d.1,
          known-so (p + size) d.1 d.2.knows,
          d.2.others_same,
          subst (λ r. spent d.1 + cond (seen d.1) 0 (7 * length (drop size l)) ≤ spent local + cond (seen local) 0 (7 * length r) + (7 * size + 2)) here
              (subst (λ r. spent d.1 + cond (seen d.1) 0 (7 * length r) ≤ spent local + cond (seen local) 0 (7 * length (drop p text.seats)) + (7 * size + 2)) behind paid),
          omega (arith, w.1, run-positive s.byte (bytes_of ss) tick),
          within,
          w.1,
          d.3,
        )

    -- The theorem of code spans that are remembered
    pub remembered-code-read : (nok : Name) (p : ℕ) (ended : Bool) (events : List Event) (local : Local Unit Unit) (s : Seat) (ss : List Seat) → drop p text.seats ≡ s ∷ ss → is_backtick s.byte ≡ true
        → knows_code p (remembered local)
        → CodeDecided nok p ended events local s ss (between_items p Byte ended events local) (outer names.home nok p ended events ∷ []) (Retry RawTextStart) (lined_code_at (bytes_of (s ∷ ss)))
    remembered-code-read nok p ended events local s ss here first known =
        decided nok p ended events local s ss here first (between_items p Byte ended events local) (outer names.home nok p ended events ∷ []) (Retry RawTextStart) (lined_code_at (bytes_of (s ∷ ss)))
        (code-span-within lined_events s.byte (bytes_of ss) (eqb-true s.byte 96 first))
        (remembered-code-spans-read g text is m code_memory c names into_lines reads nok p ended events local s ss here first (known local refl))
