-- Emphasis leaves a balanced list.
--
-- `Leaves es` says that a list opens and closes nothing, whatever is open. What is between two runs that wait leaves all as it was: what the
-- first one opens, the runs behind it, and what the next one closes.
use Rattle.mdinline_emphasis.proofs.Prelude.{◌≡◌, ℕ, zero, suc, Bool, true, false, cond, List, [], ◌∷◌, ◌++◌, Option, Some, None, refl, sym, ap, ◌∙◌, subst, append_assoc, append-nil, nat_lt, ◌&&◌, Event, Name, Data, Point, IsBalanced, names_after, names_after_all, names_after_all-append, names_after_balanced, balanced_from_open, same_name-refl, Run, may_pair, markers_of, later, closings, openings, data_of, markers_of_all, head_events, tail_events, run_events, events_of_runs, Waiting, SoFar, Found, opening, closing, put_behind, put, put_back, last_fitting, close, in_turn_from, all_waiting, none_read, paired_in_turn, AreFresh, LeavesBalanced, Style, style_of, inner_name, outer_name}
use Rattle.mdinline_emphasis.proofs.Markers.{names-between}
use Rattle.mdinline_emphasis.proofs.InTurn.{paired-in-turn}

-- ---- lists that leave what is open

abbrev Leaves : List Event → Type 0
Leaves es = (st : List Name) → names_after_all (Some st) es ≡ Some st

leaves-append : (xs ys : List Event) → Leaves xs → Leaves ys → Leaves (xs ++ ys)
leaves-append xs ys a b st = names_after_all-append (Some st) xs ys ∙ ap (λ o. names_after_all o ys) (a st) ∙ b st

leaves-data : (p : Point) (n : ℕ) → Leaves (data_of p n)
leaves-data p zero st = refl
leaves-data p (suc n) st = ap (λ (t : Bool). cond t (Some st) None) (same_name-refl Data)

-- ---- lists that are alike but for places and links

abbrev Alike : List Event → List Event → Type 0
Alike [] [] = Unit {0}
Alike (x ∷ xs) (y ∷ ys) = (x.kind ≡ y.kind) × (x.name ≡ y.name) × Alike xs ys
Alike _ _ = ⊥

alike-refl : (xs : List Event) → Alike xs xs
alike-refl [] = tt
alike-refl (x ∷ xs) = (refl, refl, alike-refl xs)

alike-append : (xs ys us vs : List Event) → Alike xs ys → Alike us vs → Alike (xs ++ us) (ys ++ vs)
alike-append [] [] us vs h k = k
alike-append [] (y ∷ ys) us vs h k = absurd h
alike-append (x ∷ xs) [] us vs h k = absurd h
alike-append (x ∷ xs) (y ∷ ys) us vs h k = (h.0, h.1, alike-append xs ys us vs h.2 k)

names-alike : (xs ys : List Event) → Alike xs ys → (o : Option (List Name)) → names_after_all o xs ≡ names_after_all o ys
names-alike xs ys h None = refl
names-alike [] [] h (Some st) = refl
names-alike [] (y ∷ ys) h (Some st) = absurd h
names-alike (x ∷ xs) [] h (Some st) = absurd h
names-alike (x ∷ xs) (y ∷ ys) h (Some st) = rw (h.0, h.1) (names-alike xs ys h.2 (names_after y.kind y.name st))

leaves-alike : (xs ys : List Event) → Alike xs ys → Leaves ys → Leaves xs
leaves-alike xs ys h leaves st = names-alike xs ys h (Some st) ∙ leaves st

openings-alike : (p q : Point) (ss : List Style) → Alike (openings p ss) (openings q ss)
openings-alike p q [] = tt
openings-alike p q (s ∷ ss) = (refl, refl, (refl, refl, (refl, refl, (refl, refl, openings-alike (later (markers_of s) p) (later (markers_of s) q) ss))))

-- one pair more is closed
closings-alike : (p q c : Point) (ss : List Style) (s : Style) → Alike (closings p (ss ++ s ∷ [])) (closings q ss ++ closings c (s ∷ []))
closings-alike p q c [] s = (refl, refl, (refl, refl, (refl, refl, (refl, refl, tt))))
closings-alike p q c (t ∷ ss) s = (refl, refl, (refl, refl, (refl, refl, (refl, refl, closings-alike (later (markers_of t) p) (later (markers_of t) q) c ss s))))

-- ---- a pair around a list

leaves-around : (s : Style) (p : Point) (inside : List Event) → Leaves inside → Leaves (openings p (s ∷ []) ++ (inside ++ closings p (s ∷ [])))
leaves-around s p inside h st =
    let names = names-between s p st in
    let opened : List Name = inner_name s ∷ outer_name s ∷ st in
    names_after_all-append (Some st) (openings p (s ∷ [])) (inside ++ closings p (s ∷ [])) ∙ ap (λ o. names_after_all o (inside ++ closings p (s ∷ []))) names.0
    ∙ names_after_all-append (Some opened) inside (closings p (s ∷ [])) ∙ ap (λ o. names_after_all o (closings p (s ∷ []))) (h opened) ∙ names.1

module _ (texts : ℕ → List Event) where
  -- ---- runs

  abbrev opens_of : Run → List Event
  opens_of r = openings (later r.left (later (markers_of_all r.closed) r.start)) r.opened

  events-append : (xs ys : List Run) → (events_of_runs texts) (xs ++ ys) ≡ (events_of_runs texts) xs ++ (events_of_runs texts) ys
  events-append [] ys = refl
  events-append (x ∷ xs) ys = ap (λ es. (run_events texts) x ++ es) (events-append xs ys) ∙ sym (append_assoc ((run_events texts) x) ((events_of_runs texts) xs) ((events_of_runs texts) ys))

  joined : (xs ys : List Run) (tail : List Event) → (events_of_runs texts) (xs ++ ys) ++ tail ≡ (events_of_runs texts) xs ++ ((events_of_runs texts) ys ++ tail)
  joined xs ys tail = ap (λ es. es ++ tail) (events-append xs ys) ∙ append_assoc ((events_of_runs texts) xs) ((events_of_runs texts) ys) tail

  leaves-more : (xs ys zs : List Event) → Leaves (xs ++ ys) → Leaves zs → Leaves (xs ++ (ys ++ zs))
  leaves-more xs ys zs h k = subst Leaves (append_assoc xs ys zs) (leaves-append (xs ++ ys) zs h k)

  -- what is between runs that wait leaves all as it was
  abbrev Good : List Run → List Waiting → List Event → Type 0
  Good base [] tail = Leaves ((events_of_runs texts) base ++ tail)
  Good base (w ∷ ws) tail = Leaves (opens_of w.opener ++ ((events_of_runs texts) w.behind ++ tail)) × Good base ws ((head_events texts) w.opener)

  extend : (base : List Run) (ws : List Waiting) (tail more : List Event) → Good base ws tail → Leaves more → Good base ws (tail ++ more)
  extend base [] tail more h k = leaves-more ((events_of_runs texts) base) tail more h k
  extend base (w ∷ ws) tail more h k =
      (subst (λ es. Leaves (opens_of w.opener ++ es)) (append_assoc ((events_of_runs texts) w.behind) tail more) (leaves-more (opens_of w.opener) ((events_of_runs texts) w.behind ++ tail) more h.0 k), h.1)

  -- a run that waited, and those behind it, wait no more
  drop : (base : List Run) (w : Waiting) (ws : List Waiting) (tail : List Event) → Good base (w ∷ ws) tail → Good base ws ((events_of_runs texts) (w.opener ∷ w.behind) ++ tail)
  drop base w ws tail h =
      let head = (head_events texts) w.opener in
      let plain = data_of (later (markers_of_all w.opener.closed) w.opener.start) w.opener.left in
      let opens = opens_of w.opener in
      let behind = (events_of_runs texts) w.behind in
      let same : ((head ++ (plain ++ opens)) ++ behind) ++ tail ≡ head ++ (plain ++ (opens ++ (behind ++ tail))) =
      append_assoc (head ++ (plain ++ opens)) behind tail ∙ append_assoc head (plain ++ opens) (behind ++ tail) ∙ ap (λ es. head ++ es) (append_assoc plain opens (behind ++ tail)) in
      subst (Good base ws) (sym same)
      (extend base ws head (plain ++ (opens ++ (behind ++ tail))) h.1 (leaves-append plain (opens ++ (behind ++ tail)) (leaves-data (later (markers_of_all w.opener.closed) w.opener.start) w.opener.left) h.0))

  abbrev IsGood : SoFar → List Event → Type 0
  IsGood z tail = Good z.base z.waiting tail

  put_behind-good : (rs base : List Run) (ws : List Waiting) (tail : List Event) → Good base ws ((events_of_runs texts) rs ++ tail) → IsGood (put_behind rs base ws) tail
  put_behind-good rs base [] tail h = subst Leaves (sym (joined base rs tail)) h
  put_behind-good rs base (w ∷ ws) tail h = (subst (λ es. Leaves (opens_of w.opener ++ es)) (sym (joined w.behind rs tail)) h.0, h.1)

  opens-none : (r : Run) → r.opened ≡ [] → opens_of r ≡ []
  opens-none r none = ap (openings (later r.left (later (markers_of_all r.closed) r.start))) none

  leaves-tail : (r : Run) → r.opened ≡ [] → Leaves (tail_events r)
  leaves-tail r none =
      let p = later (markers_of_all r.closed) r.start in
      leaves-append (data_of p r.left) (opens_of r) (leaves-data p r.left) (subst Leaves (sym (opens-none r none)) (λ st. refl))

  put-good : (b : Bool) (r : Run) (base : List Run) (ws : List Waiting) (tail : List Event) → r.opened ≡ [] → Leaves tail → Good base ws ((head_events texts) r)
      → IsGood (cond b (record { base = base; waiting = record { opener = r; behind = [] } ∷ ws }) (put_behind (r ∷ []) base ws)) tail
  put-good true r base ws tail none k h = (subst (λ es. Leaves (es ++ tail)) (sym (opens-none r none)) k, h)
  put-good false r base ws tail none k h =
      let head = (head_events texts) r in
      let more = tail_events r in
      let same : ((head ++ more) ++ []) ++ tail ≡ head ++ (more ++ tail) = ap (λ es. es ++ tail) (append-nil (head ++ more)) ∙ append_assoc head more tail in
      put_behind-good (r ∷ []) base ws tail (subst (Good base ws) (sym same) (extend base ws head (more ++ tail) h (leaves-append more tail (leaves-tail r none) k)))

  -- ---- a run that fits

  -- runs come between the last one that waits and the tail
  between : (base behind : List Run) (w : Waiting) (ws : List Waiting) (tail : List Event) → Good base (w ∷ ws) ((events_of_runs texts) behind ++ tail) → Good base (record w { behind = w.behind ++ behind } ∷ ws) tail
  between base behind w ws tail h = (subst (λ es. Leaves (opens_of w.opener ++ es)) (sym (joined w.behind behind tail)) h.0, h.1)

  found-case : (b : Bool) (base : List Run) (w : Waiting) (ws : List Waiting) (rest : Option Found) (f : Found) (tail : List Event) → Good base (w ∷ ws) tail
      → (rest ≡ Some f → Good base (f.last ∷ f.before) tail)
      → cond b (Some (record { last = w; before = ws })) rest ≡ Some f → Good base (f.last ∷ f.before) tail
  found-case true base w ws rest f tail h later_one e = let same : record { last = w; before = ws } ≡ f = cc in subst (λ (g : Found). Good base (g.last ∷ g.before) tail) same h
  found-case false base w ws rest f tail h later_one e = later_one e

  found-good : (r : Run) (base behind : List Run) (ws : List Waiting) (f : Found) (tail : List Event) → Good base ws ((events_of_runs texts) behind ++ tail) → last_fitting r behind ws ≡ Some f
      → Good base (f.last ∷ f.before) tail
  found-good r base behind [] f tail h e = absurd (cc)
  found-good r base behind (w ∷ ws) f tail h e =
      let there = record w { behind = w.behind ++ behind } in
      let good = between base behind w ws tail h in
      found-case (may_pair w.opener r) base there ws (last_fitting r (w.opener ∷ (w.behind ++ behind)) ws) f tail good
      (found-good r base (w.opener ∷ (w.behind ++ behind)) ws f tail (drop base there ws tail good)) e

  -- a pair of it and the run that closes
  pair-good : (s : Style) (r : Run) (base : List Run) (w : Waiting) (ws : List Waiting) → Good base (w ∷ ws) ((head_events texts) r)
      → Good base (record w { opener = opening s w.opener } ∷ ws) ((head_events texts) (closing s r))
  pair-good s r base w ws h =
      let o = opening s w.opener in
      let before = opens_of w.opener in
      let behind = (events_of_runs texts) w.behind in
      let p = later o.left (later (markers_of_all o.closed) o.start) in
      let closed = closings r.start r.closed in
      let end = closings p (s ∷ []) in
      let same : (before ++ (behind ++ ((texts r.index) ++ closed))) ++ end ≡ before ++ (behind ++ ((texts r.index) ++ (closed ++ end))) =
      append_assoc before (behind ++ ((texts r.index) ++ closed)) end
      ∙ ap (λ es. before ++ es) (append_assoc behind ((texts r.index) ++ closed) end ∙ ap (λ es. behind ++ es) (append_assoc (texts r.index) closed end)) in
      let alike = alike-append (openings (later (markers_of s) p) w.opener.opened) before (behind ++ ((texts r.index) ++ closings r.start (r.closed ++ s ∷ []))) (behind ++ ((texts r.index) ++ (closed ++ end)))
      (openings-alike (later (markers_of s) p) (later w.opener.left (later (markers_of_all w.opener.closed) w.opener.start)) w.opener.opened)
      (alike-append behind behind ((texts r.index) ++ closings r.start (r.closed ++ s ∷ [])) ((texts r.index) ++ (closed ++ end)) (alike-refl behind)
      (alike-append (texts r.index) (texts r.index) (closings r.start (r.closed ++ s ∷ [])) (closed ++ end) (alike-refl (texts r.index)) (closings-alike r.start r.start p r.closed s))) in
      let list = openings (later (markers_of s) p) w.opener.opened ++ (behind ++ ((texts r.index) ++ closings r.start (r.closed ++ s ∷ []))) in (
        leaves-alike (openings p (s ∷ []) ++ list) (openings p (s ∷ []) ++ ((before ++ (behind ++ ((texts r.index) ++ closed))) ++ end))
            (alike-append (openings p (s ∷ [])) (openings p (s ∷ [])) list ((before ++ (behind ++ ((texts r.index) ++ closed))) ++ end) (alike-refl (openings p (s ∷ []))) (subst (Alike list) (sym same) alike))
            (leaves-around s p (before ++ (behind ++ ((texts r.index) ++ closed))) h.0),
        h.1,
      )

  put_back-good : (b : Bool) (base : List Run) (w : Waiting) (ws : List Waiting) (tail : List Event) → Good base (w ∷ ws) tail
      → IsGood (cond b (record { base = base; waiting = w ∷ ws }) (put_behind (w.opener ∷ w.behind) base ws)) tail
  put_back-good true base w ws tail h = h
  put_back-good false base w ws tail h = put_behind-good (w.opener ∷ w.behind) base ws tail (drop base w ws tail h)

  -- ---- a run that closes what it can

  put-run : (r : Run) (z : SoFar) (tail : List Event) → r.opened ≡ [] → Leaves tail → IsGood z ((head_events texts) r) → IsGood (put r z) tail
  put-run r z tail none k h = put-good (r.opens && nat_lt 0 r.left) r z.base z.waiting tail none k h

  cond-good : (b : Bool) (x y : SoFar) (tail : List Event) → IsGood x tail → IsGood y tail → IsGood (cond b x y) tail
  cond-good true x y tail h k = h
  cond-good false x y tail h k = k

  close-by : (n : ℕ) (r : Run) (z : SoFar) (tail : List Event) (o : Option Found) → r.opened ≡ [] → IsGood (put r z) tail → IsGood z ((head_events texts) r)
      → ((r : Run) (z : SoFar) → r.opened ≡ [] → IsGood z ((head_events texts) r) → IsGood (close n r z) tail) → last_fitting r [] z.waiting ≡ o
      → IsGood (elim o [
        | None ↦ put r z
        | Some f ↦
            let s = style_of f.last.opener r in
            close n (closing s r) (put_back (record f.last { opener = opening s f.last.opener }) z.base f.before)
      ]) tail
  close-by n r z tail None none done h more e = done
  close-by n r z tail (Some f) none done h more e =
      let s = style_of f.last.opener r in
      let w = record f.last { opener = opening s f.last.opener } in
      more (closing s r) (put_back w z.base f.before) none
      (put_back-good (nat_lt 0 w.opener.left) z.base w f.before ((head_events texts) (closing s r))
      (pair-good s r z.base f.last f.before (found-good r z.base [] z.waiting f ((head_events texts) r) h e)))

  close-good : (n : ℕ) (tail : List Event) → Leaves tail → (r : Run) (z : SoFar) → r.opened ≡ [] → IsGood z ((head_events texts) r) → IsGood (close n r z) tail
  close-good zero tail k r z none h = put-run r z tail none k h
  close-good (suc n) tail k r z none h =
      let done = put-run r z tail none k h in
      cond-good (r.closes && nat_lt 0 r.left) (elim (last_fitting r [] z.waiting) [
        | None ↦ put r z
        | Some f ↦
            let s = style_of f.last.opener r in
            close n (closing s r) (put_back (record f.last { opener = opening s f.last.opener }) z.base f.before)
      ]) (put r z) tail (close-by n r z tail (last_fitting r [] z.waiting) none done h (close-good n tail k) refl) done

  leaves-head : (r : Run) → r.closed ≡ [] → IsBalanced (texts r.index) → Leaves ((head_events texts) r)
  leaves-head r none balanced = leaves-append (texts r.index) (closings r.start r.closed) (names_after_balanced balanced) (subst (λ ss. Leaves (closings r.start ss)) (sym none) (λ st. refl))

  read-good : (rs : List Run) (z : SoFar) → AreFresh texts rs → IsGood z [] → IsGood (in_turn_from z rs) []
  read-good [] z fresh h = h
  read-good (r ∷ rs) z fresh h =
      read-good rs (close r.left r z) fresh.3
      (close-good r.left [] (λ st. refl) r z fresh.1 (extend z.base z.waiting [] ((head_events texts) r) h (leaves-head r fresh.0 fresh.2)))

  all-leave : (base : List Run) (ws : List Waiting) (tail : List Event) → Good base ws tail → Leaves ((events_of_runs texts) (base ++ all_waiting ws) ++ tail)
  all-leave base [] tail h = subst (λ rs. Leaves ((events_of_runs texts) rs ++ tail)) (sym (append-nil base)) h
  all-leave base (w ∷ ws) tail h =
      let more = w.opener ∷ w.behind in
      let before = base ++ all_waiting ws in
      let same : (events_of_runs texts) (base ++ (all_waiting ws ++ more)) ++ tail ≡ (events_of_runs texts) before ++ ((events_of_runs texts) more ++ tail) =
      ap (λ rs. (events_of_runs texts) rs ++ tail) (sym (append_assoc base (all_waiting ws) more)) ∙ joined before more tail in
      subst Leaves (sym same) (all-leave base ws ((events_of_runs texts) more ++ tail) (drop base w ws tail h))

pub leaves-balanced : LeavesBalanced
leaves-balanced texts rs rest fresh balanced =
    let z = in_turn_from none_read rs in
    let good = read-good texts rs none_read fresh (λ st. refl) in
    let list = events_of_runs texts (paired_in_turn rs) in
    let leaves = subst Leaves (append-nil list) (all-leave texts z.base z.waiting [] good) in
    subst (λ (ps : List Run). IsBalanced (events_of_runs texts ps ++ rest)) (sym (paired-in-turn rs)) (balanced_from_open (list ++ rest) (leaves-append list rest leaves (names_after_balanced balanced) []))
