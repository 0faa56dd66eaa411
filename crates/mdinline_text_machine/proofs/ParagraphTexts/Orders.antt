-- The events of texts in their paragraphs are in order of place.
use Rattle.std.proofs.Common.{◌≡◌, ℕ, zero, suc, true, false, List, [], ◌∷◌, ◌++◌, inl, inr, append_assoc, length, drop, refl, sym, ap, ◌∙◌, subst}
use Rattle.std.specs.Prelude.{◌⊎◌}
use Rattle.std.specs.List.{AllByRecursion, flat_map}
use Rattle.markdown_base.proofs.Common.{every-append, every-map}
use Rattle.markdown_base.proofs.Orders.{InOrder, order-both}
use Rattle.markdown_base.specs.declared.event.Event.{Event}
use Rattle.markdown_base.specs.declared.event.Kind.{Kind}
use Rattle.markdown_base.specs.declared.event.Kind.TheVariants.{Enter, Exit}
use Rattle.markdown_base.specs.declared.event.Name.{Name}
use Rattle.markdown_base.specs.declared.event.Name.TheVariants.{BlankLineEnding, BlockQuoteMarker, Paragraph}
use Rattle.markdown_base.specs.declared.event.Point.{Point}
use Rattle.markdown_base.specs.Places.{IsShown, shown, stands_before}
use Rattle.markdown_base.specs.Virtual.{Seat, end_after}
use Rattle.markdown_children.specs.Parts.{front_until}
use Rattle.markdown_tokenizer.proofs.Inside.Made.{upto-upto}
use Rattle.markdown_tokenizer.proofs.Positions.Chains.{IsChain}
use Rattle.markdown_tokenizer.proofs.Positions.Order.{before-self, before-upto}
use Rattle.markdown_tokenizer.proofs.Positions.Standing.{chain-split, chain-upto}
use Rattle.mdconstructs_machines.proofs.BlockReads.Accounts.{block_bytes}
use Rattle.mdconstructs_machines.specs.ParagraphEvents.{Block, blank, paragraph}
use Rattle.mdconstructs_machines.specs.LineEvents.{all_of}
use Rattle.mdconstructs_machines.specs.Spans.{event, leaf, span}
use Rattle.mdinline_text_machine.proofs.Prelude.{end-after-append, shown-shown}
use Rattle.mdinline_text_machine.proofs.DeepSpans.Atoms.{Atom, IsCut, all_at, atom_events, events_of, seats_of}
use Rattle.mdinline_text_machine.proofs.DeepSpans.Chains.{front-at, front-upto}
use Rattle.mdinline_text_machine.proofs.DeepSpans.Places.{Upto, place-shown}
use Rattle.mdinline_text_machine.proofs.ParagraphTexts.Blocks.{all-are, rows_of, text-are, with-are}
use Rattle.mdinline_text_machine.proofs.ParagraphTexts.Rows.{Row, Within, all-within, rows_all, rows_text, rows_with}
use Rattle.mdinline_text_machine.specs.ParagraphTexts.{block_with, chunk_events, lines_with, text_of}

-- a place is up to another
abbrev IsUpto : Point → Point → Type 0
IsUpto p q = stands_before q p ≡ false

self : (p : Point) → IsUpto p p
self p = before-self p.index p.vs

-- ---- events in order, from a place on
abbrev OrderFrom : Point → List Event → Type 0
OrderFrom p [] = Unit {0}
OrderFrom p (e ∷ es) = IsUpto p e.point × OrderFrom e.point es

order-weaken : (p q : Point) (es : List Event) → IsUpto p q → OrderFrom q es → OrderFrom p es
order-weaken p q [] h k = tt
order-weaken p q (e ∷ es) h k = (upto-upto p q e.point h k.0, k.1)

order-rebase : (p q : Point) (es : List Event) → OrderFrom q es → AllByRecursion (λ (e : Event). IsUpto p e.point) es → OrderFrom p es
order-rebase p q [] h k = tt
order-rebase p q (e ∷ es) h k = (k.0, h.1)

order-drop : (n : ℕ) (p : Point) (es : List Event) → OrderFrom p es → OrderFrom p (drop n es)
order-drop zero p es h = h
order-drop (suc n) p [] h = tt
order-drop (suc n) p (e ∷ es) h = order-drop n p es (order-weaken p e.point es h.0 h.1)

order-to : (p q : Point) (es : List Event) → IsUpto p q → OrderFrom p es → AllByRecursion (Upto q) es → InOrder p es q
order-to p q [] l h k = l
order-to p q (e ∷ es) l h k = (h.0, order-to e.point q es k.0 h.1 k.1)

-- events all behind a place
behind-all : (end p : Point) (es : List Event) → stands_before end p ≡ true → OrderFrom p es → AllByRecursion (λ (e : Event). stands_before end e.point ≡ true) es
behind-all end p [] l h = tt
behind-all end p (e ∷ es) l h =
    let here = before-upto end.index end.vs p.index p.vs e.point.index e.point.vs l h.0 in
    (here, behind-all end e.point es here h.1)

-- events cut at a place
abbrev CutAt : Point → Point → List Event → List Event → Type 0
CutAt end p front es = OrderFrom p front × AllByRecursion (λ (e : Event). stands_before end e.point ≡ true) (drop (length front) es)

front-cut : (end p : Point) (es : List Event) → OrderFrom p es → CutAt end p (front_until end es) es
front-cut end p [] h = (tt, tt)
front-cut end p (e ∷ es) h = elim (stands_before end e.point) as (λ b. stands_before end e.point ≡ b → CutAt end p (front_until end (e ∷ es)) (e ∷ es)) [
  | true ↦ λ is. subst (λ l. CutAt end p l (e ∷ es)) (sym (front-at end true e es is)) (tt, (is, behind-all end e.point es is h.1))
  | false ↦ λ is. let more = front-cut end e.point es h.1 in subst (λ l. CutAt end p l (e ∷ es)) (sym (front-at end false e es is)) ((h.0, more.0), more.1)
] refl

module _ (bytes : List ℕ) where
  -- ---- virtual bytes in order, from a place on
  abbrev SeatsFrom : Point → List Seat → Type 0
  SeatsFrom p [] = Unit {0}
  SeatsFrom p (s ∷ ss) = IsUpto p (shown bytes s.point) × IsUpto (shown bytes s.point) (shown bytes s.end) × SeatsFrom (shown bytes s.end) ss

  seats-weaken : (p q : Point) (l : List Seat) → IsUpto p q → SeatsFrom q l → SeatsFrom p l
  seats-weaken p q [] h k = tt
  seats-weaken p q (s ∷ ss) h k = (upto-upto p q (shown bytes s.point) h k.0, k.1, k.2)

  chain-order : (t : ℕ) (p : Point) (l rest : List Seat) → IsChain t bytes p (l ++ rest) → SeatsFrom p l
  chain-order t p [] rest c = tt
  chain-order t p (s ∷ ss) rest c =
      let end = place-shown t bytes p (s ∷ []) (ss ++ rest) c in (
        subst (IsUpto p) (sym c.1.shown_is) (self p),
        (λ i. stands_before (end i) (c.1.shown_is i)) ∙ chain-upto t bytes p (s ∷ []) (ss ++ rest) c,
        subst (λ q. SeatsFrom q ss) (sym end) (chain-order t s.end ss rest c.2),
      )

  seats-tail : (p : Point) (l m n : List Seat) → ((q : Point) → SeatsFrom q m → SeatsFrom q n) → SeatsFrom p (l ++ m) → SeatsFrom p (l ++ n)
  seats-tail p [] m n f h = f p h
  seats-tail p (s ∷ ss) m n f h = (h.0, h.1, seats-tail (shown bytes s.end) ss m n f h.2)

  seats-drop : (p : Point) (l m : List Seat) → SeatsFrom p (l ++ m) → SeatsFrom p m
  seats-drop p [] m h = h
  seats-drop p (s ∷ ss) m h = seats-drop p ss m (seats-weaken p (shown bytes s.end) (ss ++ m) (upto-upto p (shown bytes s.point) (shown bytes s.end) h.0 h.1) h.2)

  text-order : (rows : List Row) (p : Point) → SeatsFrom p (rows_all rows) → SeatsFrom p (rows_text rows)
  text-order [] p h = tt
  text-order ((q, t) ∷ rows) p h =
      seats-tail p t (rows_all rows) (rows_text rows) (λ o k. text-order rows o k) (seats-drop p q (t ++ rows_all rows) (subst (SeatsFrom p) (append_assoc q t (rows_all rows)) h))

  last-order : (x : Point) (l m : List Seat) → SeatsFrom (shown bytes x) (l ++ m) → IsUpto (shown bytes x) (shown bytes (end_after x l)) × SeatsFrom (shown bytes (end_after x l)) m
  last-order x [] m h = (self (shown bytes x), h)
  last-order x (s ∷ ss) m h =
      let more = last-order s.end ss m h.2 in
      let here = upto-upto (shown bytes x) (shown bytes s.point) (shown bytes s.end) h.0 h.1 in
      (upto-upto (shown bytes x) (shown bytes s.end) (shown bytes (end_after s.end ss)) here more.0, more.1)

  -- ---- an event at one of these
  abbrev pub OfSeats : List Seat → Event → Type 0
  OfSeats [] e = ⊥
  OfSeats (s ∷ ss) e = (e.point ≡ shown bytes s.point) ⊎ ((e.point ≡ shown bytes s.end) ⊎ OfSeats ss e)

  of-front : (l m : List Seat) (e : Event) → OfSeats l e → OfSeats (l ++ m) e
  of-front [] m e h = absurd h
  of-front (s ∷ ss) m e (inl h) = inl h
  of-front (s ∷ ss) m e (inr (inl h)) = inr (inl h)
  of-front (s ∷ ss) m e (inr (inr h)) = inr (inr (of-front ss m e h))

  of-back : (l m : List Seat) (e : Event) → OfSeats m e → OfSeats (l ++ m) e
  of-back [] m e h = h
  of-back (s ∷ ss) m e h = inr (inr (of-back ss m e h))

  of-split : (l m : List Seat) (e : Event) → OfSeats (l ++ m) e → OfSeats l e ⊎ OfSeats m e
  of-split [] m e h = inr h
  of-split (s ∷ ss) m e (inl h) = inl (inl h)
  of-split (s ∷ ss) m e (inr (inl h)) = inl (inr (inl h))
  of-split (s ∷ ss) m e (inr (inr h)) = elim (of-split ss m e h) [ inl here ↦ inl (inr (inr here)) | inr there ↦ inr there ]

  of-end : (s : Seat) (ss : List Seat) (e : Event) → e.point ≡ shown bytes (end_after s.end ss) → OfSeats (s ∷ ss) e
  of-end s [] e h = inr (inl h)
  of-end s (r ∷ rs) e h = inr (inr (of-end r rs e h))

  of-least : (p : Point) (l : List Seat) (e : Event) → SeatsFrom p l → OfSeats l e → IsUpto p e.point
  of-least p [] e k h = absurd h
  of-least p (s ∷ ss) e k (inl h) = subst (IsUpto p) (sym h) k.0
  of-least p (s ∷ ss) e k (inr (inl h)) = subst (IsUpto p) (sym h) (upto-upto p (shown bytes s.point) (shown bytes s.end) k.0 k.1)
  of-least p (s ∷ ss) e k (inr (inr h)) = of-least p ss e (seats-weaken p (shown bytes s.end) ss (upto-upto p (shown bytes s.point) (shown bytes s.end) k.0 k.1) k.2) h

  of-within : (end : Point) (l : List Seat) (e : Event) → AllByRecursion (Within bytes end) l → OfSeats l e → stands_before end e.point ≡ false
  of-within end [] e k h = absurd h
  of-within end (s ∷ ss) e k (inl h) = ap (stands_before end) h ∙ k.0.0
  of-within end (s ∷ ss) e k (inr (inl h)) = ap (stands_before end) h ∙ k.0.1
  of-within end (s ∷ ss) e k (inr (inr h)) = of-within end ss e k.1 h

  -- ---- the events of atoms
  names-order : (kind : Kind) (x : Point) (names : List Name) (p : Point) (rest : List Event) → IsUpto p (shown bytes x) → OrderFrom (shown bytes x) rest → OrderFrom p (all_at bytes kind x names ++ rest)
  names-order kind x [] p rest h k = order-weaken p (shown bytes x) rest h k
  names-order kind x (n ∷ ns) p rest h k = (h, names-order kind x ns (shown bytes x) rest (self (shown bytes x)) k)

  pub atoms-order : (atoms : List Atom) (p : Point) → SeatsFrom p (seats_of atoms) → OrderFrom p (events_of bytes atoms)
  atoms-order [] p h = tt
  atoms-order (a ∷ atoms) p h =
      let q = end_after a.first.end a.others in
      let enters = all_at bytes Enter a.first.point a.enters in
      let e = event bytes Enter a.name a.first.point in
      let f = event bytes Exit a.name q in
      let exits = all_at bytes Exit q a.exits in
      let rest = events_of bytes atoms in
      let last = last-order a.first.end a.others (seats_of atoms) h.2 in
      let end = upto-upto (shown bytes a.first.point) (shown bytes a.first.end) (shown bytes q) h.1 last.0 in
      subst (OrderFrom p) (sym (append_assoc enters (e ∷ f ∷ exits) rest))
      (names-order Enter a.first.point a.enters p (e ∷ f ∷ (exits ++ rest)) h.0
      (self (shown bytes a.first.point), (end, names-order Exit q a.exits (shown bytes q) rest (self (shown bytes q)) (atoms-order atoms (shown bytes q) last.1))))

  names-of : (l : List Seat) (kind : Kind) (x : Point) (names : List Name) → ((e : Event) → e.point ≡ shown bytes x → OfSeats l e) → AllByRecursion (OfSeats l) (all_at bytes kind x names)
  names-of l kind x [] h = tt
  names-of l kind x (n ∷ ns) h = (h (event bytes kind n x) refl, names-of l kind x ns h)

  pub atoms-of : (atoms : List Atom) → AllByRecursion (OfSeats (seats_of atoms)) (events_of bytes atoms)
  atoms-of [] = tt
  atoms-of (a ∷ atoms) =
      let q = end_after a.first.end a.others in
      let here = a.first ∷ a.others in
      let l = here ++ seats_of atoms in
      let first : (e : Event) → e.point ≡ shown bytes a.first.point → OfSeats l e = λ e h. inl h in
      let last : (e : Event) → e.point ≡ shown bytes q → OfSeats l e = λ e h. of-front here (seats_of atoms) e (of-end a.first a.others e h) in
      every-append (OfSeats l) (atom_events bytes a) (events_of bytes atoms)
      (every-append (OfSeats l) (all_at bytes Enter a.first.point a.enters) (event bytes Enter a.name a.first.point ∷ event bytes Exit a.name q ∷ all_at bytes Exit q a.exits) (names-of l Enter a.first.point a.enters first)
      (first (event bytes Enter a.name a.first.point) refl, (last (event bytes Exit a.name q) refl, names-of l Exit q a.exits last)))
      (every-map (OfSeats (seats_of atoms)) (OfSeats l) (λ e h. of-back here (seats_of atoms) e h) (events_of bytes atoms) (atoms-of atoms))

  module _ (t : ℕ) where
    leaf-order : (p : Point) (name : Name) (l rest : List Seat) → IsChain t bytes p (l ++ rest) → InOrder p (leaf bytes name l) (end_after p l)
    leaf-order p name [] rest c = self p
    leaf-order p name (s ∷ ss) rest c =
        let o = order-of p s ss rest c in
        (o.0, (o.1, o.2))
      where
        order-of : (p : Point) (s : Seat) (ss rest : List Seat) → IsChain t bytes p ((s ∷ ss) ++ rest)
            → IsUpto p (shown bytes s.point) × IsUpto (shown bytes s.point) (shown bytes (end_after s.end ss)) × IsUpto (shown bytes (end_after s.end ss)) (end_after s.end ss)
        order-of p s ss rest c =
            let end = place-shown t bytes p (s ∷ ss) rest c in (
              subst (IsUpto p) (sym c.1.shown_is) (self p),
              (λ i. stands_before (end i) (c.1.shown_is i)) ∙ chain-upto t bytes p (s ∷ ss) rest c,
              subst (λ q. IsUpto q (end_after s.end ss)) (sym end) (self (end_after s.end ss)),
            )

    -- what a chunk takes of the events of a text, and what it leaves
    record Taken (p : Point) (c more : List Seat) (es : List Event) (q : Point) : Type 0 where
      order : InOrder p (chunk_events bytes c es) q
      others : AllByRecursion (OfSeats more) (drop (length (chunk_events bytes c es)) es)

    taken : (p : Point) (c more all rest : List Seat) (o : Point) (es : List Event) → IsChain t bytes p (c ++ rest) → SeatsFrom p (c ++ more) → OrderFrom o es → AllByRecursion (OfSeats (c ++ more)) es → Taken p c more es (end_after p c)
    taken p [] more all rest o es chain from order of = record { order = self p; others = of }
    taken p (s ∷ ss) more all rest o es chain from order of =
        let c = s ∷ ss in
        let end = shown bytes (end_after s.end ss) in
        let end_is = place-shown t bytes p c rest chain in
        let least = every-map (OfSeats (c ++ more)) (λ (e : Event). IsUpto p e.point) (λ e h. of-least p (c ++ more) e from h) es of in
        let here = order-rebase p o es order least in
        let cut = front-cut end p es here in
        let front = front_until end es in
        let behind = drop (length front) es in
        let inside = subst (λ q. AllByRecursion (Upto q) front) end_is (front-upto end es) in
        let within = all-within bytes t p c rest end chain end_is in
        let left = every-drop (OfSeats (c ++ more)) (length front) es of in
        record {
          order = order-to p (end_after s.end ss) front (chain-upto t bytes p c rest chain) cut.0 inside;
          others = every-two (OfSeats (c ++ more)) (λ (e : Event). stands_before end e.point ≡ true) (OfSeats more) (λ e h k. later_one within e h k) behind left cut.1;
        }
      where
        every-drop : (P : Event → Type 0) (n : ℕ) (es : List Event) → AllByRecursion P es → AllByRecursion P (drop n es)
        every-drop P zero es h = h
        every-drop P (suc n) [] h = tt
        every-drop P (suc n) (e ∷ es) h = every-drop P n es h.1

        every-two : (P Q R : Event → Type 0) → ((e : Event) → P e → Q e → R e) → (es : List Event) → AllByRecursion P es → AllByRecursion Q es → AllByRecursion R es
        every-two P Q R f [] h k = tt
        every-two P Q R f (e ∷ es) h k = (f e h.0 k.0, every-two P Q R f es h.1 k.1)

        later_one : AllByRecursion (Within bytes (shown bytes (end_after s.end ss))) (s ∷ ss) → (e : Event) → OfSeats ((s ∷ ss) ++ more) e → stands_before (shown bytes (end_after s.end ss)) e.point ≡ true → OfSeats more e
        later_one within e h k = elim (of-split (s ∷ ss) more e h) [
          | inl early ↦ (let no : true ≡ false = sym k ∙ of-within (shown bytes (end_after s.end ss)) (s ∷ ss) e within early in absurd (cc))
          | inr late ↦ late
        ]

    pub rows-order : (rows : List Row) (es : List Event) (o p : Point) (rest : List Seat) → IsChain t bytes p (rows_all rows ++ rest) → OrderFrom o es → AllByRecursion (OfSeats (rows_text rows)) es
        → InOrder p (rows_with bytes rows es) (end_after p (rows_all rows))
    rows-order [] es o p rest chain order of = self p
    rows-order ((q, c) ∷ rows) es o p rest chain order of =
        let more = rows_all rows in
        let b = end_after p q in
        let d = end_after b c in
        let whole = subst (IsChain t bytes p) (append_assoc (q ++ c) more rest ∙ append_assoc q c (more ++ rest)) chain in
        let second = chain-split t bytes p q (c ++ (more ++ rest)) whole in
        let third = chain-split t bytes b c (more ++ rest) second in
        let from = seats-tail b c more (rows_text rows) (λ x k. text-order rows x k) (chain-order t b (c ++ more) rest (subst (IsChain t bytes b) (sym (append_assoc c more rest)) second)) in
        let take = taken b c (rows_text rows) [] (more ++ rest) o es second from order of in
        let part = chunk_events bytes c es in
        let others = drop (length part) es in
        let then = rows-order rows others o d rest third (order-drop (length part) o es order) take.others in
        let end : end_after d more ≡ end_after p ((q ++ c) ++ more) = sym (end-after-append p (q ++ c) more ∙ ap (λ x. end_after x more) (end-after-append p q c)) in
        subst (InOrder p (rows_with bytes ((q, c) ∷ rows) es)) end
        (order-both p (leaf bytes BlockQuoteMarker q) b (part ++ rows_with bytes rows others) (end_after d more) (leaf-order p BlockQuoteMarker q (c ++ (more ++ rest)) whole)
        (order-both b part d (rows_with bytes rows others) (end_after d more) take.order then))

    module _ (reads : List Seat → List Event) (cuts : (l : List Seat) → IsCut bytes (reads l) l) where
      -- places of events are shown
      of-shown : (l : List Seat) (e : Event) → OfSeats l e → IsShown bytes e.point
      of-shown [] e h = absurd h
      of-shown (s ∷ ss) e (inl h) = subst (IsShown bytes) (sym h) (shown-shown t bytes s.point)
      of-shown (s ∷ ss) e (inr (inl h)) = subst (IsShown bytes) (sym h) (shown-shown t bytes s.end)
      of-shown (s ∷ ss) e (inr (inr h)) = of-shown ss e h

      pub reads-shown : (l : List Seat) → AllByRecursion (λ (e : Event). IsShown bytes e.point) (reads l)
      reads-shown l =
          let cut = cuts l in
          let seats = seats_of cut.atoms in
          subst (AllByRecursion (λ (e : Event). IsShown bytes e.point)) (sym cut.are)
          (every-map (OfSeats seats) (λ (e : Event). IsShown bytes e.point) (λ e h. of-shown seats e h) (events_of bytes cut.atoms) (atoms-of cut.atoms))

      lines-order : (lines : List (List Seat)) (p : Point) (rest : List Seat) → IsChain t bytes p (all_of lines ++ rest) → InOrder p (lines_with bytes lines (reads (text_of lines))) (end_after p (all_of lines))
      lines-order lines p rest chain =
          let rows = rows_of lines in
          let are = all-are lines in
          let there = subst (λ l. IsChain t bytes p (l ++ rest)) are chain in
          let text = rows_text rows in
          let cut = cuts text in
          let from = text-order rows p (chain-order t p (rows_all rows) rest there) in
          let order = subst (OrderFrom p) (sym cut.are) (atoms-order cut.atoms p (subst (SeatsFrom p) cut.all from)) in
          let of = subst (AllByRecursion (OfSeats text)) (sym cut.are) (subst (λ l. AllByRecursion (OfSeats l) (events_of bytes cut.atoms)) (sym cut.all) (atoms-of cut.atoms)) in
          let same : rows_with bytes rows (reads text) ≡ lines_with bytes lines (reads (text_of lines)) = sym (with-are bytes lines (reads (text_of lines)) ∙ ap (λ l. rows_with bytes rows (reads l)) (text-are lines)) in
          subst (λ es. InOrder p es (end_after p (all_of lines))) same (subst (λ l. InOrder p (rows_with bytes rows (reads text)) (end_after p l)) (sym are) (rows-order rows (reads text) p p rest there order of))

      around-order : (p : Point) (l rest : List Seat) (es : List Event) → IsChain t bytes p (l ++ rest) → InOrder p es (end_after p l) → InOrder p (span bytes Paragraph l es) (end_after p l)
      around-order p [] rest es chain h = h
      around-order p (s ∷ ss) rest es chain h =
          let end = end_after s.end ss in
          let end_is = place-shown t bytes p (s ∷ ss) rest chain in
          let start = chain.1.shown_is in
          let last : InOrder end (event bytes Exit Paragraph end ∷ []) end = subst (λ q. (stands_before q end ≡ false) × (stands_before end q ≡ false)) (sym end_is) (self end, self end) in
          (subst (IsUpto p) (sym start) (self p), order-both (shown bytes s.point) es end (event bytes Exit Paragraph end ∷ []) end (subst (λ q. InOrder q es end) (sym start) h) last)

      block-order : (block : Block) (p : Point) (rest : List Seat) → IsChain t bytes p (block_bytes block ++ rest) → InOrder p (block_with reads bytes block) (end_after p (block_bytes block))
      block-order (blank line) p rest chain = leaf-order p BlankLineEnding line rest chain
      block-order (paragraph lines) p rest chain = around-order p (all_of lines) rest (lines_with bytes lines (reads (text_of lines))) chain (lines-order lines p rest chain)

      pub blocks-order : (blocks : List Block) (p : Point) (rest : List Seat) → IsChain t bytes p (flat_map block_bytes blocks ++ rest) → InOrder p (flat_map (block_with reads bytes) blocks) (end_after p (flat_map block_bytes blocks))
      blocks-order [] p rest chain = self p
      blocks-order (block ∷ blocks) p rest chain =
          let l = block_bytes block in
          let more = flat_map block_bytes blocks in
          let whole = subst (IsChain t bytes p) (append_assoc l more rest) chain in
          let m = end_after p l in
          subst (InOrder p (flat_map (block_with reads bytes) (block ∷ blocks))) (sym (end-after-append p l more))
          (order-both p (block_with reads bytes block) m (flat_map (block_with reads bytes) blocks) (end_after m more) (block-order block p (more ++ rest) whole)
          (blocks-order blocks m rest (chain-split t bytes p l (more ++ rest) whole)))
