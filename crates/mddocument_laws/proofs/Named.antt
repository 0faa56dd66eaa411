-- What names lists of events and of marks have, by what they are made of.
use Rattle.mddocument_laws.proofs.Prelude.{ℕ, ◌+◌, Bool, true, List, [], ◌∷◌, ◌++◌, Some, None, Option, AllByRecursion, flat_map, every-append, every-map, Event, Name, Seat, ending_of, line_text, leaf, span, Line, Chunk, Mark, chunk_span, last_end, leaf_marks, linked_from, sequence_marks, text_marks}
use Rattle.markdown_base.specs.declared.event.Name.TheVariants as name
use Rattle.mddocument.proofs.Walks.InnerTexts.{AnySeat}
use Rattle.mddocument.proofs.Walks.MarksWalk.{Walk, walk-of-marks}

module _ (P : Name → Type 0) where
  -- each event has a name of P
  pub record Named (events : List Event) : Type 0 where
    pub all : AllByRecursion (λ e. P e.name) events

  pub record Marked (marks : List Mark) : Type 0 where
    pub all : AllByRecursion (λ m. P m.0.name) marks

-- what one predicate says of names another may say too
pub weaker : {P Q : Name → Type 0} → ((n : Name) → P n → Q n) → (events : List Event) → Named P events → Named Q events
weaker {P} {Q} f events h = record { all = every-map (λ (e : Event). P e.name) (λ (e : Event). Q e.name) (λ e p. f e.name p) events h.all }

pub marked-weaker : {P Q : Name → Type 0} → ((n : Name) → P n → Q n) → (marks : List Mark) → Marked P marks → Marked Q marks
marked-weaker {P} {Q} f marks h = record { all = every-map (λ (m : Mark). P m.0.name) (λ (m : Mark). Q m.0.name) (λ m p. f m.0.name p) marks h.all }

-- ---- lists of marks
module _ {P : Name → Type 0} where
  pub none : Marked P []
  none = record { all = tt }

  pub both : {xs ys : List Mark} → Marked P xs → Marked P ys → Marked P (xs ++ ys)
  both {xs} {ys} h k = record { all = every-append (λ m. P m.0.name) xs ys h.all k.all }

  pub marked-flat : {A : Type 0} (f : A → List Mark) (xs : List A) → ((x : A) → Marked P (f x)) → Marked P (flat_map f xs)
  marked-flat f [] h = none
  marked-flat f (x ∷ xs) h = both (h x) (marked-flat f xs h)

  pub marked-flat-by : {A : Type 0} (Q : A → Type 0) (f : A → List Mark) (xs : List A) → ((x : A) → Q x → Marked P (f x)) → AllByRecursion Q xs → Marked P (flat_map f xs)
  marked-flat-by Q f [] h q = none
  marked-flat-by Q f (x ∷ xs) h q = both (h x q.0) (marked-flat-by Q f xs h q.1)

  module _ (bytes : List ℕ) where
    pub around : (chunk : Option Chunk) (n : Name) (seats : List Seat) {inside : List Mark} → P n → Marked P inside → Marked P (chunk_span bytes chunk n seats inside)
    around chunk n [] p h = h
    around chunk n (s ∷ ss) {inside} p h = record { all = (p, every-append (λ m. P m.0.name) inside _ h.all (p, tt)) }

    pub alone : (n : Name) (seats : List Seat) → P n → Marked P (leaf_marks bytes n seats)
    alone n seats p = around None n seats p none

    pub texts : (has_previous : Bool) (lines : List Line) → P name.Data → Marked P (text_marks bytes has_previous lines)
    texts has_previous [] p = none
    texts has_previous (line ∷ []) p = around _ name.Data (line_text line) p none
    texts has_previous (line ∷ next ∷ lines) p = both (around _ name.Data line p none) (texts true (next ∷ lines) p)

    pub last-ends : (lines : List Line) → P name.LineEnding → Marked P (last_end bytes lines)
    last-ends [] p = none
    last-ends (line ∷ []) p = alone name.LineEnding (ending_of line) p
    last-ends (line ∷ next ∷ lines) p = last-ends (next ∷ lines) p

  -- the events of marks
  pub linked-named : (i : ℕ) (marks : List Mark) → Marked P marks → Named P (linked_from i marks)
  linked-named i marks h = record { all = go i marks h.all } where
    go : (i : ℕ) (marks : List Mark) → AllByRecursion (λ m. P m.0.name) marks → AllByRecursion (λ e. P e.name) (linked_from i marks)
    go i [] h = tt
    go i ((e, None) ∷ marks) h = (h.0, go (i + 1) marks h.1)
    go i ((e, Some chunk) ∷ marks) h = (h.0, go (i + 1) marks h.1)

  -- ---- lists of events
  pub no-events : Named P []
  no-events = record { all = tt }

  pub and : {xs ys : List Event} → Named P xs → Named P ys → Named P (xs ++ ys)
  and {xs} {ys} h k = record { all = every-append (λ e. P e.name) xs ys h.all k.all }

  pub named-flat : {A : Type 0} (f : A → List Event) (xs : List A) → ((x : A) → Named P (f x)) → Named P (flat_map f xs)
  named-flat f [] h = no-events
  named-flat f (x ∷ xs) h = and (h x) (named-flat f xs h)

  module _ (bytes : List ℕ) where
    pub spanned : (n : Name) (seats : List Seat) {inside : List Event} → P n → Named P inside → Named P (span bytes n seats inside)
    spanned n [] p h = h
    spanned n (s ∷ ss) {inside} p h = record { all = (p, every-append (λ e. P e.name) inside _ h.all (p, tt)) }

    pub leafed : (n : Name) (seats : List Seat) → P n → Named P (leaf bytes n seats)
    leafed n seats p = spanned n seats p no-events

-- white space around signs
pub sequences : (P : Name → Type 0) (space : P name.SpaceOrTab) (bytes : List ℕ) (n : Name) (size : ℕ) (seats : List Seat) → P n → Marked P (sequence_marks bytes n size seats)
sequences P space bytes n size seats p = both (alone bytes name.SpaceOrTab _ space) (both (alone bytes n _ p) (alone bytes name.SpaceOrTab _ space))

-- ---- a walk by names
module _ (P : Name → Type 0) (space : P name.SpaceOrTab) (line_ending : P name.LineEnding) (blank_ending : P name.BlankLineEnding) (bytes : List ℕ) where
  pub names-walk : Walk bytes (Marked P) P AnySeat
  names-walk = walk-of-marks bytes (Marked P) P none (λ xs ys h k. both h k) (λ k n place m. record { all = (m, tt) }) space line_ending blank_ending
