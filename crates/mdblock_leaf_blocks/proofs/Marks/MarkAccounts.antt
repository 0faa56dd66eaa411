-- Marks of spans account for their virtual bytes: each byte is in one innermost span.
use Rattle.mdblock_leaf_blocks.proofs.Prelude.{◌≡◌, ℕ, ◌+◌, List, [], ◌∷◌, ◌++◌, cond, false, Option, Some, None, append_assoc, map, refl, sym, ap, ◌∙◌, subst, flat_map, map-append, Event, Enter, Exit, is_enter, Seat, end_after, enter-more, exit-more, span-more, AccountFor, ended_next, innermost_spans, event, Chunk, Mark, alone, chunk_span, linked_from, span_marks}
use Rattle.markdown_base.specs.declared.event.Name.{Name}
use Rattle.markdown_base.specs.declared.event.Name.TheVariants as name
use Rattle.mdblock_leaf_blocks.proofs.Marks.MarkSpans.{IsKeptBySpans, text-by-chunks}
use Rattle.mdblock_leaf_blocks.proofs.Marks.ToldEdits.{first-linked, mark_at}

-- the events of marks, without links
abbrev pub bare : List Mark → List Event
bare marks = map (λ (m : Mark). m.0) marks

-- an event before these has the same innermost span, if it begins one, and they have the same
abbrev HaveSameSpans : List Event → List Event → Type 0
HaveSameSpans xs ys = ((e : Event) → ended_next e xs ≡ ended_next e ys) × (innermost_spans xs ≡ innermost_spans ys)

pub ended-alike : (e f : Event) (xs : List Event) → e.point ≡ f.point → ended_next e xs ≡ ended_next f xs
ended-alike e f [] h = refl
ended-alike e f (x ∷ xs) h = ap (λ p. cond (is_enter x.kind) [] ((p, x.point) ∷ [])) h

same-more : (x e : Event) (xs ys : List Event) → x.kind ≡ e.kind → x.point ≡ e.point → HaveSameSpans xs ys → HaveSameSpans (x ∷ xs) (e ∷ ys)
same-more x e xs ys kind place h = let ended : ended_next x xs ≡ ended_next e ys = h.0 x ∙ ended-alike x e ys place in ((λ f. rw (kind, place) refl), rw (kind, ended, h.1) refl)

same-kind : (i : ℕ) (m : Mark) → (mark_at i m).kind ≡ m.0.kind
same-kind i (e, None) = refl
same-kind i (e, Some chunk) = refl

same-place : (i : ℕ) (m : Mark) → (mark_at i m).point ≡ m.0.point
same-place i (e, None) = refl
same-place i (e, Some chunk) = refl

same-spans : (i : ℕ) (marks : List Mark) → HaveSameSpans (linked_from i marks) (bare marks)
same-spans i [] = ((λ e. refl), refl)
same-spans i (m ∷ marks) =
    subst (λ l. HaveSameSpans l (bare (m ∷ marks))) (sym (first-linked i m marks))
    (same-more (mark_at i m) m.0 (linked_from (i + 1) marks) (bare marks) (same-kind i m) (same-place i m) (same-spans (i + 1) marks))

-- links change no place
pub linked-spans : (i : ℕ) (marks : List Mark) → innermost_spans (linked_from i marks) ≡ innermost_spans (bare marks)
linked-spans i marks = (same-spans i marks).1

-- the first mark is an enter
abbrev pub Begins : List Mark → Type 0
Begins [] = Unit {0}
Begins (m ∷ ms) = m.0.kind ≡ Enter

pub begins-both : (xs ys : List Mark) → Begins xs → Begins ys → Begins (xs ++ ys)
begins-both [] ys h k = k
begins-both (m ∷ ms) ys h k = h

module _ (bytes : List ℕ) where
  -- marks account for virtual bytes, with more behind
  abbrev Accounts : List Mark → List Seat → Type 0
  Accounts marks seats = (events : List Event) (more : List Seat) → AccountFor events bytes more → AccountFor (bare marks ++ events) bytes (seats ++ more)

  pub record AreSpans (marks : List Mark) (seats : List Seat) : Type 0 where
    pub begins : Begins marks
    pub account : Accounts marks seats

  no-spans : AreSpans [] []
  no-spans = record { begins = tt; account = λ events more h. h }

  spans-both : {xs ys : List Mark} {a b : List Seat} → AreSpans xs a → AreSpans ys b → AreSpans (xs ++ ys) (a ++ b)
  spans-both {xs} {ys} {a} {b} h k = record {
    begins = begins-both xs ys h.begins k.begins;
    account = λ events more rest.
        subst (λ es. AccountFor es bytes ((a ++ b) ++ more)) (sym (ap (λ l. l ++ events) (map-append (λ (m : Mark). m.0) xs ys) ∙ append_assoc (bare xs) (bare ys) events))
        (subst (AccountFor (bare xs ++ (bare ys ++ events)) bytes) (sym (append_assoc a b more)) (h.account (bare ys ++ events) (b ++ more) (k.account events more rest)));
  }

  -- no marks account for no bytes only
  none-for-some : (s : Seat) (ss : List Seat) → AreSpans [] (s ∷ ss) → ⊥
  none-for-some s ss h =
      let nothing : AccountFor [] bytes [] = record { stretches = []; are_all = refl; are_innermost = refl } in
      let there = h.account [] [] nothing in
      elim there.stretches as (λ l. there.stretches ≡ l → ⊥) [
        | [] ↦ λ e. (let is : [] ≡ (s ∷ ss) ++ [] = ap (flat_map (λ (stretch : Seat × List Seat). stretch.0 ∷ stretch.1)) (sym e) ∙ there.are_all in absurd (cc))
        | stretch ∷ l ↦ λ e. (let is = there.are_innermost ∙ ap (map _) e in absurd (cc))
      ] refl

  -- a span around others
  around-first : (e exit : Event) (m : Mark) (ms : List Mark) (seats : List Seat) → e.kind ≡ Enter → exit.kind ≡ Exit → AreSpans (m ∷ ms) seats → Accounts ((e, None) ∷ ((m ∷ ms) ++ (exit, None) ∷ [])) seats
  around-first e exit m ms seats enters exits h events more rest =
      let closed = h.account (exit ∷ events) more (exit-more bytes exit events more exits rest) in
      let spanned = enter-more bytes e m.0 (bare ms ++ exit ∷ events) (seats ++ more) enters h.begins closed in
      let same : bare (ms ++ (exit, None) ∷ []) ++ events ≡ bare ms ++ exit ∷ events = ap (λ l. l ++ events) (map-append (λ (m : Mark). m.0) ms ((exit, None) ∷ [])) ∙ append_assoc (bare ms) (exit ∷ []) events in
      subst (λ es. AccountFor (e ∷ m.0 ∷ es) bytes (seats ++ more)) (sym same) spanned

  around-all : (n : Name) (s : Seat) (ss : List Seat) (inside : List Mark) → AreSpans inside (s ∷ ss) → AreSpans (span_marks bytes n (s ∷ ss) inside) (s ∷ ss)
  around-all n s ss [] h = absurd (none-for-some s ss h)
  around-all n s ss (m ∷ ms) h = record { begins = refl; account = around-first (event bytes Enter n s.point) (event bytes Exit n (end_after s.end ss)) m ms (s ∷ ss) refl refl h }

  alone-all : (chunk : Option Chunk) (n : Name) (s : Seat) (ss : List Seat) → AreSpans (chunk_span bytes chunk n (s ∷ ss) []) (s ∷ ss)
  alone-all chunk n s ss = record { begins = refl; account = λ events more h. span-more bytes _ _ events s ss more refl refl refl refl h }

  -- so they are kept by spans
  pub accounts-kept : IsKeptBySpans bytes (λ marks seats. AreSpans marks seats)
  accounts-kept = record {
    none = no-spans;
    both = λ h k. spans-both h k;
    leaf = λ n s ss w. alone-all None n s ss;
    datum = λ c s ss w. alone-all (alone c) name.Data s ss;
    text = λ lines h w. text-by-chunks bytes (λ marks seats. AreSpans marks seats) no-spans (λ xs ys a b h k. spans-both h k) (λ chunk n s ss w. alone-all chunk n s ss) false lines w;
    around = λ n s ss inside void h. around-all n s ss inside h;
  }
