-- Lists of marks that leave what is around them as it is, and in which each span stands where it may.
use Rattle.mddocument_rules.proofs.Prelude.{◌≡◌, ℕ, suc, ◌+◌, true, List, [], ◌∷◌, ◌++◌, Some, None, Option, append-nil, append_assoc, refl, sym, subst, flat_map, Content, Event, Exit, Name, Seat, end_after, content_of, event, Chunk, Mark, chunk_span, leaf_marks, linked_from, span_marks, chained_from, holds_blocks}
use Rattle.markdown_base.specs.declared.event.Content.TheVariants as content
use Rattle.markdown_base.specs.declared.event.Name.TheVariants as name
use Rattle.mddocument_rules.proofs.Definitions.{IsKept, IsKeptByAll, kept-by-all, some-kept}
use Rattle.mddocument_rules.proofs.Places.{NotInList, Stands, StandsAs, blocks-apart, free-inside, free-may, is_free}
use Rattle.mddocument_rules.proofs.Walk.{IfEnter, Walks, behind_one}

-- what the event of a mark is read as
abbrev pub chunk_content : Event → Option Chunk → Option Content
chunk_content e None = content_of e
chunk_content e (Some c) = Some c.content

abbrev pub MarksStand : List Name → List Mark → Type 0
MarksStand around [] = Unit {0}
MarksStand around ((e, c) ∷ ms) = IfEnter e.kind (StandsAs around e.name (chunk_content e c)) × MarksStand (behind_one e.kind e.name around) ms

-- links change no name
pub linked-stand : (i : ℕ) (around : List Name) (ms : List Mark) → MarksStand around ms → Walks Stands around (linked_from i ms)
linked-stand i around [] h = tt
linked-stand i around ((e, None) ∷ ms) h = (h.0, linked-stand (i + 1) (behind_one e.kind e.name around) ms h.1)
linked-stand i around ((e, Some c) ∷ ms) h = (h.0, linked-stand (i + 1) (behind_one e.kind e.name around) ms h.1)

pub chained-stand : (i : ℕ) (previous : Option ℕ) (around : List Name) (ms : List Mark) → MarksStand around ms → Walks Stands around (chained_from i previous ms)
chained-stand i previous around [] h = tt
chained-stand i previous around ((e, None) ∷ ms) h = (h.0, chained-stand (suc i) previous (behind_one e.kind e.name around) ms h.1)
chained-stand i previous around ((e, Some c) ∷ ms) h = (h.0, chained-stand (suc i) (Some i) (behind_one e.kind e.name around) ms h.1)

-- marks stand there, if those behind them do
abbrev pub Passes : List Name → List Mark → Type 0
Passes around ms = (ys : List Mark) → MarksStand around ys → MarksStand around (ms ++ ys)

pub passes-none : (around : List Name) → Passes around []
passes-none around ys w = w

pub passes-both : (around : List Name) (xs ys : List Mark) → Passes around xs → Passes around ys → Passes around (xs ++ ys)
passes-both around xs ys h k zs w = subst (MarksStand around) (sym (append_assoc xs ys zs)) (h (ys ++ zs) (k zs w))

pub alone-stand : (around : List Name) (ms : List Mark) → Passes around ms → MarksStand around ms
alone-stand around ms h = subst (MarksStand around) (append-nil ms) (h [] tt)

-- marks that stand anywhere but directly in a list
pub record Free (ms : List Mark) : Type 0 where
  pub passes : (around : List Name) → NotInList around → Passes around ms

pub free-none : Free []
free-none = record { passes = λ around ok. passes-none around }

pub free-both : (xs ys : List Mark) → Free xs → Free ys → Free (xs ++ ys)
free-both xs ys h k = record { passes = λ around ok. passes-both around xs ys (h.passes around ok) (k.passes around ok) }

-- marks that stand where blocks may
pub record AsBlocks (ms : List Mark) : Type 0 where
  pub passes : (around : List Name) → holds_blocks around ≡ true → Passes around ms

pub blocks-none : AsBlocks []
blocks-none = record { passes = λ around b. passes-none around }

pub free-as-blocks : (ms : List Mark) → Free ms → AsBlocks ms
free-as-blocks ms h = record { passes = λ around b. h.passes around (blocks-apart around b) }

pub blocks-both : (xs ys : List Mark) → AsBlocks xs → AsBlocks ys → AsBlocks (xs ++ ys)
blocks-both xs ys h k = record { passes = λ around b. passes-both around xs ys (h.passes around b) (k.passes around b) }

pub blocks-flat : {A : Type 0} (f : A → List Mark) (xs : List A) → ((x : A) → AsBlocks (f x)) → AsBlocks (flat_map f xs)
blocks-flat f [] h = blocks-none
blocks-flat f (x ∷ xs) h = blocks-both (f x) (flat_map f xs) (h x) (blocks-flat f xs h)

module _ (bytes : List ℕ) where
  pub span-passes : (around : List Name) (n : Name) (seats : List Seat) (inside : List Mark) → StandsAs around n None → Passes (n ∷ around) inside → (seats ≡ [] → Passes around inside)
      → Passes around (span_marks bytes n seats inside)
  span-passes around n [] inside a h k ys w = k refl ys w
  span-passes around n (s ∷ ss) inside a h k ys w =
      let exit : Mark = (event bytes Exit n (end_after s.end ss), None) in
      (a, subst (MarksStand (n ∷ around)) (sym (append_assoc inside (exit ∷ []) ys)) (h (exit ∷ ys) (tt, w)))

  pub chunk-passes : (around : List Name) (c : Chunk) (n : Name) (seats : List Seat) → StandsAs around n (Some c.content) → Passes around (chunk_span bytes (Some c) n seats [])
  chunk-passes around c n [] a ys w = w
  chunk-passes around c n (s ∷ ss) a ys w = (a, (tt, w))

  pub free-span : (n : Name) (seats : List Seat) (inside : List Mark) → is_free n ≡ true → Free inside → Free (span_marks bytes n seats inside)
  free-span n seats inside f h = record { passes = λ around ok. span-passes around n seats inside (free-may around n f ok, tt) (h.passes (n ∷ around) (free-inside n f)) (λ e. h.passes around ok) }

  pub free-by-all : IsKeptByAll bytes Free
  free-by-all = kept-by-all free-none free-both free-span

  pub free-kept : IsKept bytes Free
  free-kept = some-kept free-by-all

  pub free-leaf : (n : Name) (seats : List Seat) → is_free n ≡ true → Free (leaf_marks bytes n seats)
  free-leaf n seats f = free-span n seats [] f free-none

  pub string-free : (c : Chunk) (seats : List Seat) → c.content ≡ content.String → Free (chunk_span bytes (Some c) name.Data seats [])
  string-free c seats e = record {
    passes = λ around ok. chunk-passes around c name.Data seats (subst (λ (x : Content). StandsAs around name.Data (Some x)) (sym e) (free-may around name.Data refl ok, ok));
  }
