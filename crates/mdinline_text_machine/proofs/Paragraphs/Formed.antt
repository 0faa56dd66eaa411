-- The events of a document's blocks are balanced, void-tight and in order.
use Rattle.markdown_base.proofs.Orders.{InOrder, order-both, order-pairs, order-from}
use Rattle.mdinline_text_machine.proofs.Prelude.{◌≡◌, ℕ, zero, suc, ◌+◌, ◌<◌, ◌∷◌, ◌++◌, [], List, true, false, Option, Some, None, refl, sym, ◌∙◌, ap, subst, arith, slice_get, flat_map, AllByRecursion, append-nil, map-append, All-from_recursion, every-append, end-after-append, Event, Enter, Exit, Paragraph, Data, BlankLineEnding, BlockQuoteMarker, Point, is_void, IsBalanced, empty, span, IsVoidTight, IsInOrder, stands_before, shown, IsShown, Seat, point, virtual, end_after, IsBalanced-append, IsChain, whole-chain, before-self, chain-split, chain-upto, shown-shown, lines_in, all_of, Block, paragraph, blocks_of, mark_of, chunk_of, Chunk, Marked, marked_span, line_marks, lines_marks, block_marks, blocks_marks, as_linked, paragraph_events, lines-are-all, block_bytes, blocks-are-all, line-is, linked, get-front, slice_get_within}
use Rattle.std.proofs.Common.{append_assoc}
use Rattle.markdown_base.specs.declared.event.Name.{Name}
use Rattle.mdconstructs_machines.specs.ParagraphEvents.{blank}
use Rattle.mdconstructs_machines.specs.Spans.{event}
use Rattle.mdinline_text_machine.proofs.DeepSpans.Places.{place-shown}

-- ---- void-tight lists
pub void-cons : (e : Event) (es : List Event) → (e.kind ≡ Enter → is_void e.name ≡ true → (f : Event) × (slice_get es 0 ≡ Some f) × (f.kind ≡ Exit) × (f.name ≡ e.name)) → IsVoidTight es → IsVoidTight (e ∷ es)
void-cons e es first h zero f at = let same : f ≡ e = cc in rw same first
void-cons e es first h (suc k) f at = λ enter void.
    let r = h k f at enter void in
    let z : suc k + 1 ≡ suc (k + 1) = omega arith in
    (r.0, ap (slice_get (e ∷ es)) z ∙ r.1, r.2, r.3)

pub void-append : (xs ys : List Event) → IsVoidTight xs → IsVoidTight ys → IsVoidTight (xs ++ ys)
void-append [] ys h k = k
void-append (x ∷ xs) ys h k =
    void-cons x (xs ++ ys)
    (λ enter void. let r = h 0 x refl enter void in (r.0, get-front xs ys 0 (slice_get_within xs 0 r.0 r.1) ∙ r.1, r.2, r.3))
    (void-append xs ys (λ i f at enter void. let r = h (suc i) f at enter void in let z : suc i + 1 ≡ suc (i + 1) = omega arith in (r.0, sym (ap (slice_get (x ∷ xs)) z) ∙ r.1, r.2, r.3)) k)

-- ---- events between two places, in order

-- Events between two places: balanced, void-tight and in order
record Formed (bytes : List ℕ) (p : Point) (es : List Event) (q : Point) : Type 0 where
  balanced : IsBalanced es
  tight : IsVoidTight es
  order : InOrder p es q
  shown_all : AllByRecursion (λ (e : Event). IsShown bytes e.point) es

module _ (t : ℕ) (bytes : List ℕ) (all : List Marked) where
  none-formed : (p q : Point) → stands_before q p ≡ false → Formed bytes p [] q
  none-formed p q h = record { balanced = empty; tight = λ k e at. absurd (cc); order = h; shown_all = tt }

  -- marks over virtual bytes, wherever these are
  abbrev Forms : List Marked → List Seat → Type 0
  Forms marks seats = (p : Point) (rest : List Seat) → IsChain t bytes p (seats ++ rest) → Formed bytes p (linked bytes all marks) (end_after p seats)

  both : (xs ys : List Marked) (seats others : List Seat) → Forms xs seats → Forms ys others → Forms (xs ++ ys) (seats ++ others)
  both xs ys seats others h k p rest c =
      let whole = subst (IsChain t bytes p) (append_assoc seats others rest) c in
      let m = end_after p seats in
      let one = h p (others ++ rest) whole in
      let two = k m rest (chain-split t bytes p seats (others ++ rest) whole) in
      subst (λ es. Formed bytes p es (end_after p (seats ++ others))) (sym (map-append (as_linked all) xs ys))
      (subst (Formed bytes p (linked bytes all xs ++ linked bytes all ys)) (sym (end-after-append p seats others)) (record {
        balanced = IsBalanced-append (linked bytes all xs) (linked bytes all ys) one.balanced two.balanced;
        tight = void-append (linked bytes all xs) (linked bytes all ys) one.tight two.tight;
        order = order-both p (linked bytes all xs) m (linked bytes all ys) (end_after m others) one.order two.order;
        shown_all = every-append (λ (e : Event). IsShown bytes e.point) (linked bytes all xs) (linked bytes all ys) one.shown_all two.shown_all;
      }))

  -- an enter and an exit at the ends of virtual bytes
  module _ (s : Seat) (ss : List Seat) (p : Point) (rest : List Seat) (c : IsChain t bytes p ((s ∷ ss) ++ rest)) where
    abbrev end : Point
    end = end_after s.end ss

    around-formed : (e : Event) (name : Name) (es : List Event) → e.kind ≡ Enter → e.name ≡ name → e.point ≡ shown bytes s.point → let f = event bytes Exit name end in
        (e.kind ≡ Enter → is_void e.name ≡ true → (x : Event) × (slice_get (es ++ f ∷ []) 0 ≡ Some x) × (x.kind ≡ Exit) × (x.name ≡ e.name)) → Formed bytes p es end
        → Formed bytes p (e ∷ (es ++ f ∷ [])) end
    around-formed e name es enters named at first h =
        let f = event bytes Exit name end in
        let end_shown : shown bytes end ≡ end = place-shown t bytes p (s ∷ ss) rest c in
        let here : stands_before p e.point ≡ false = subst (λ q. stands_before p q ≡ false) (sym (at ∙ c.1.shown_is)) (before-self p.index p.vs) in
        let self = before-self end.index end.vs in
        let close : InOrder end (f ∷ []) end = subst (λ q. (stands_before q end ≡ false) × (stands_before end q ≡ false)) (sym end_shown) (self, self) in
        let last : IsVoidTight (f ∷ []) = void-cons f [] (λ enter void. absurd (cc)) (λ k x is. absurd (cc)) in
        record {
          balanced = span e f es [] refl enters refl (sym named) h.balanced empty;
          tight = void-cons e (es ++ f ∷ []) first (void-append es (f ∷ []) h.tight last);
          order = (subst (λ q. stands_before q p ≡ false) (sym at) c.1.shown_later, order-both e.point es end (f ∷ []) end (order-from e.point p es end here h.order) close);
          shown_all = (subst (IsShown bytes) (sym at) (shown-shown t bytes s.point), every-append (λ (x : Event). IsShown bytes x.point) es (f ∷ []) h.shown_all (shown-shown t bytes end, tt));
        }

    pair-formed : (e : Event) (name : Name) → e.kind ≡ Enter → e.name ≡ name → e.point ≡ shown bytes s.point → Formed bytes p (e ∷ event bytes Exit name end ∷ []) end
    pair-formed e name enters named at =
        around-formed e name [] enters named at (λ enter void. (event bytes Exit name end, refl, refl, sym named)) (none-formed p end (chain-upto t bytes p (s ∷ ss) rest c))

  leaf-forms : (o : Option Chunk) (name : Name) (l : List Seat) → Forms (marked_span bytes o name l []) l
  leaf-forms o name [] p rest c = none-formed p p (before-self p.index p.vs)
  leaf-forms None name (s ∷ ss) p rest c = pair-formed s ss p rest c (event bytes Enter name s.point) name refl refl refl
  leaf-forms (Some (b, n)) name (s ∷ ss) p rest c = pair-formed s ss p rest c (as_linked all (event bytes Enter name s.point, Some (b, n))) name refl refl refl

  lines-form : (block n : ℕ) (lines : List (List Seat)) → Forms (lines_marks bytes block n lines) (all_of lines)
  lines-form block n [] = λ p rest c. none-formed p p (before-self p.index p.vs)
  lines-form block n (line ∷ lines) =
      let one =
      both (marked_span bytes None BlockQuoteMarker (mark_of line) []) (marked_span bytes (Some (block, n)) Data (chunk_of line) []) (mark_of line) (chunk_of line)
      (leaf-forms None BlockQuoteMarker (mark_of line)) (leaf-forms (Some (block, n)) Data (chunk_of line)) in
      let marks = line_marks bytes (block, n) line in
      both marks (lines_marks bytes block (suc n) lines) line (all_of lines) (subst (Forms marks) (line-is line) one) (lines-form block (suc n) lines)

  paragraph-forms : (block : ℕ) (lines : List (List Seat)) (l : List Seat) → all_of lines ≡ l → Forms (marked_span bytes None Paragraph l (lines_marks bytes block 0 lines)) l
  paragraph-forms block lines [] is p rest c = subst (Forms (lines_marks bytes block 0 lines)) is (lines-form block 0 lines) p rest c
  paragraph-forms block lines (s ∷ ss) is p rest c =
      let inside = lines_marks bytes block 0 lines in
      let exit = event bytes Exit Paragraph (end_after s.end ss) in
      let formed = subst (Forms inside) is (lines-form block 0 lines) p rest c in
      subst (λ es. Formed bytes p (event bytes Enter Paragraph s.point ∷ es) (end_after s.end ss)) (sym (map-append (as_linked all) inside ((exit, None) ∷ [])))
      (around-formed s ss p rest c (event bytes Enter Paragraph s.point) Paragraph (linked bytes all inside) refl refl refl (λ enter void. absurd (cc)) formed)

  blocks-form : (b : ℕ) (blocks : List Block) → Forms (blocks_marks bytes b blocks) (flat_map block_bytes blocks)
  blocks-form b [] = λ p rest c. none-formed p p (before-self p.index p.vs)
  blocks-form b (block ∷ blocks) =
      let one = elim block as (λ k. Forms (block_marks bytes b k) (block_bytes k)) [ blank l ↦ leaf-forms None BlankLineEnding l | paragraph lines ↦ paragraph-forms b lines (all_of lines) refl ] in
      both (block_marks bytes b block) (blocks_marks bytes (suc b) blocks) (block_bytes block) (flat_map block_bytes blocks) one (blocks-form (suc b) blocks)

-- so it is with all blocks of a document
pub paragraphs-formed : (t : ℕ) (bytes : List ℕ) → 0 < t → let es = paragraph_events bytes (virtual t bytes) in IsBalanced es × IsVoidTight es × IsInOrder bytes es
paragraphs-formed t bytes some =
    let seats = virtual t bytes in
    let es = paragraph_events bytes seats in
    let blocks = blocks_of (lines_in seats) in
    let marks = blocks_marks bytes 0 blocks in
    let p = point 1 1 0 0 in
    let is : seats ≡ flat_map block_bytes blocks ++ [] = sym (append-nil (flat_map block_bytes blocks) ∙ blocks-are-all (lines_in seats) ∙ lines-are-all seats) in
    let h = blocks-form t bytes marks 0 blocks p [] (subst (IsChain t bytes p) is (whole-chain t bytes some)) in
    (h.balanced, h.tight, (order-pairs p es (end_after p (flat_map block_bytes blocks)) h.order, All-from_recursion (λ (e : Event). IsShown bytes e.point) es h.shown_all))
