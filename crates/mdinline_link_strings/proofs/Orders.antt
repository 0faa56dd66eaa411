-- Where strings are read, events stay in the order of their places.
use Rattle.std.proofs.Common.{◌≡◌, ◌∙◌, ◌<◌, ◌&&◌, ◌++◌, ℕ, suc, List, [], ◌∷◌, Bool, true, false, cond, append_assoc, arith, subst, sym}
use Rattle.std.proofs.lemmas.List.Elements.{All-from_recursion, All-head, All-tail}
use Rattle.std.specs.Prelude.{All, AllPairs}
use Rattle.markdown_base.proofs.Orders.{InOrder, order-both, order-from, order-pairs}
use Rattle.markdown_base.proofs.Seats.{end-after-append, stands-self}
use Rattle.markdown_base.specs.declared.configuration.Constructs.{Constructs}
use Rattle.markdown_base.specs.declared.event.Event.{Event}
use Rattle.markdown_base.specs.declared.event.Kind.{Kind}
use Rattle.markdown_base.specs.declared.event.Kind.TheVariants.{Enter, Exit}
use Rattle.markdown_base.specs.declared.event.Name.{Name}
use Rattle.markdown_base.specs.declared.event.Point.{Point}
use Rattle.markdown_base.specs.Places.{IsPointOf, IsShown, shown, stands_before}
use Rattle.markdown_base.specs.Virtual.{Seat, end_after}
use Rattle.markdown_tokenizer.proofs.Positions.Chains.{IsChain}
use Rattle.markdown_tokenizer.proofs.Positions.Cursors.{left_of, upto-order}
use Rattle.markdown_tokenizer.proofs.Positions.Lines.{way-chain, way-ends}
use Rattle.markdown_tokenizer.proofs.Positions.Order.{every-all}
use Rattle.markdown_tokenizer.proofs.Positions.Standing.{chain-at, chain-split, chain-upto, place-of-point, shown-shown}
use Rattle.markdown_tokenizer.specs.AtPlaces.{AreAtPlaces}
use Rattle.markdown_tokenizer.specs.Cursor.{rest_at}
use Rattle.mdconstructs_machines.specs.Spans.{event}
use Rattle.mdinline_link_strings.proofs.Cuts.{string-cut}
use Rattle.mdinline_link_strings.proofs.Kept.{strings_keep}
use Rattle.mdinline_link_strings.proofs.Places.{list-each, stand_at_places, string-at}
use Rattle.mdinline_link_strings.proofs.Ranges.{range-left}
use Rattle.mdinline_link_strings.specs.Laws.{StringsKeepOrder, StringsStayWellFormed}
use Rattle.mdinline_constructs.specs.StringItems.{string_seat_events}
use Rattle.mdinline_link_strings.specs.Strings.{in_string_after, is_data, line_as_string, seats_between, with_strings_from}
use Rattle.mdinline_text_machine.proofs.DeepSpans.Atoms.{Atom, all_at, atom_events, atom_seats, events_of, seats_of}

-- ---- the events of a string, over virtual bytes that follow one another

module _ (t : ℕ) (bytes : List ℕ) where
  names-order : (k : Kind) (p q : Point) (names : List Name) → shown bytes p ≡ q → InOrder q (all_at bytes k p names) q
  names-order k p q [] is = stands-self q
  names-order k p q (n ∷ ns) is =
      (subst (λ x. stands_before x q ≡ false) (sym is) (stands-self q), subst (λ x. InOrder x (all_at bytes k p ns) q) (sym is) (names-order k p q ns is))

  atom-order : (p : Point) (a : Atom) (rest : List Seat) → IsChain t bytes p (atom_seats a ++ rest) → InOrder p (atom_events bytes a) (end_after p (atom_seats a))
  atom-order p a rest c =
      let q = end_after a.first.end a.others in
      let begins : shown bytes a.first.point ≡ p = c.1.shown_is in
      let ends : shown bytes q ≡ q = (chain-at t bytes q rest (chain-split t bytes p (atom_seats a) rest c)).shown in
      let upto : stands_before q p ≡ false = chain-upto t bytes p (atom_seats a) rest c in
      let enters = all_at bytes Enter a.first.point a.enters in
      let exits = all_at bytes Exit q a.exits in
      let pair = event bytes Enter a.name a.first.point ∷ event bytes Exit a.name q ∷ [] in
      let first : stands_before (shown bytes a.first.point) p ≡ false = subst (λ x. stands_before x p ≡ false) (sym begins) (stands-self p) in
      let second : stands_before (shown bytes q) (shown bytes a.first.point) ≡ false = (λ i. stands_before (ends i) (begins i)) ∙ upto in
      let last : stands_before q (shown bytes q) ≡ false = subst (λ x. stands_before q x ≡ false) (sym ends) (stands-self q) in
      order-both p enters p (pair ++ exits) q (names-order Enter a.first.point p a.enters begins) (order-both p pair q exits q (first, (second, last)) (names-order Exit q q a.exits ends))

  atoms-order : (p : Point) (atoms : List Atom) (rest : List Seat) → IsChain t bytes p (seats_of atoms ++ rest) → InOrder p (events_of bytes atoms) (end_after p (seats_of atoms))
  atoms-order p [] rest c = stands-self p
  atoms-order p (a ∷ atoms) rest c =
      let seats = seats_of atoms in
      let whole = subst (IsChain t bytes p) (append_assoc (atom_seats a) seats rest) c in
      let m = end_after p (atom_seats a) in
      let more = atoms-order m atoms rest (chain-split t bytes p (atom_seats a) (seats ++ rest) whole) in
      subst (InOrder p (events_of bytes (a ∷ atoms))) (sym (end-after-append p (atom_seats a) seats))
      (order-both p (atom_events bytes a) m (events_of bytes atoms) (end_after m seats) (atom-order p a (seats ++ rest) whole) more)

  string-order : (on : Constructs) (p : Point) (seats rest : List Seat) → IsChain t bytes p (seats ++ rest) → InOrder p (string_seat_events on bytes seats) (end_after p seats)
  string-order on p seats rest c =
      let cut = string-cut on bytes seats in
      let order = atoms-order p cut.atoms rest (subst (λ l. IsChain t bytes p (l ++ rest)) cut.all c) in
      subst (λ l. InOrder p l (end_after p seats)) (sym cut.are) (subst (λ l. InOrder p (events_of bytes cut.atoms) (end_after p l)) (sym cut.all) order)

-- ---- a list

-- where events end
abbrev last_place : Point → List Event → Point
last_place p [] = p
last_place p (e ∷ es) = last_place e.point es

pairs-order : (e : Event) (es : List Event) → AllPairs (λ (e f : Event). stands_before f.point e.point ≡ false) (e ∷ es) → InOrder e.point es (last_place e.point es)
pairs-order e [] h = stands-self e.point
pairs-order e (f ∷ es) h =
    (h 0 1 e (omega arith) (omega arith), pairs-order f es (λ i j d less within. h (suc i) (suc j) d (omega (arith, less)) (omega (arith, within))))

module _ (on : Constructs) (t : ℕ) (bytes : List ℕ) (d : 0 < t) where
  -- a line stays between its places
  line-order : (p q : Point) → IsPointOf t bytes p → IsPointOf t bytes q → IsShown bytes p → IsShown bytes q → stands_before q p ≡ false → InOrder p (line_as_string on t bytes p q) q
  line-order p q at_p at_q shown_p shown_q before =
      let one = place-of-point t bytes d p at_p in
      let two = place-of-point t bytes d q at_q in
      let upto = upto-order t bytes p q before in
      let left = left_of t bytes p q in
      let events = string-order t bytes on (shown bytes p) left (rest_at t bytes q) (way-chain t bytes d p q one two upto) in
      let ends : end_after (shown bytes p) left ≡ q = sym (way-ends t bytes d p q one two upto) ∙ shown_q in
      let range : left ≡ seats_between t bytes p q = sym (range-left t bytes p q one) in
      subst (λ x. InOrder x (line_as_string on t bytes p q) q) shown_p
      (subst (InOrder (shown bytes p) (line_as_string on t bytes p q)) ends
      (subst (λ l. InOrder (shown bytes p) (string_seat_events on bytes l) (end_after (shown bytes p) left)) range events))

  line-shown : (p q : Point) → All (λ (e : Event). IsShown bytes e.point) (line_as_string on t bytes p q)
  line-shown p q =
      let seats = seats_between t bytes p q in
      let Ends : Seat → Type 0 = λ s. IsShown bytes (shown bytes s.point) × IsShown bytes (shown bytes s.end) in
      string-at bytes (IsShown bytes) on seats (All-from_recursion Ends seats (every-all Ends (λ s. (shown-shown t bytes s.point, shown-shown t bytes s.end)) seats))

  list-order : (p q : Point) (inside : Bool) (es : List Event) → AreAtPlaces t bytes es → All (λ (e : Event). IsShown bytes e.point) es → InOrder p es q → InOrder p (with_strings_from on t bytes inside es) q
  list-order p q inside [] at shows h = h
  list-order p q inside (e ∷ []) at shows h = h
  list-order p q inside (e ∷ f ∷ es) at shows h =
      let P = λ (x : Event). IsPointOf t bytes x.point in
      let S = λ (x : Event). IsShown bytes x.point in
      let at_later = All-tail P e (f ∷ es) at in
      let shows_later = All-tail S e (f ∷ es) shows in
      let line = line_as_string on t bytes e.point f.point in
      let rest = with_strings_from on t bytes inside es in
      let other = with_strings_from on t bytes (in_string_after inside e) (f ∷ es) in
      elim (inside && is_data e f) as (λ b. InOrder p (cond b (line ++ rest) (e ∷ other)) q) [
        | true ↦ order-from p e.point (line ++ rest) q h.0 (order-both e.point line f.point rest q
            (line-order e.point f.point (All-head P e (f ∷ es) at) (All-head P f es at_later) (All-head S e (f ∷ es) shows) (All-head S f es shows_later) h.1.0)
            (list-order f.point q inside es (All-tail P f es at_later) (All-tail S f es shows_later) h.1.1))
        | false ↦ (h.0, list-order e.point q (in_string_after inside e) (f ∷ es) at_later shows_later h.1)
      ]

pub keep_order : StringsKeepOrder
keep_order on t bytes [] d at h = h
keep_order on t bytes (e ∷ es) d at h =
    let events = e ∷ es in
    let q = last_place e.point es in
    let new = list-order on t bytes d e.point q false events at h.1 (stands-self e.point, pairs-order e es h.0) in (
      order-pairs e.point (with_strings_from on t bytes false events) q new,
      list-each on t bytes (λ e. IsShown bytes e.point) (line-shown on t bytes d) false events h.1,
    )

pub stay_well_formed : StringsStayWellFormed
stay_well_formed on g es d h =
    let kept = strings_keep on g.tab g.bytes es in
    record {
      balanced = kept.0 h.balanced;
      void_tight = kept.2 h.void_tight;
      at_places = stand_at_places on g.tab g.bytes es d h.at_places;
      in_order = keep_order on g.tab g.bytes es d h.at_places h.in_order;
    }
