-- Virtual bytes that follow one another byte by byte; and what comes in place of a run of these accounts for them, in one line.
use Rattle.mddocument.proofs.Prelude.{◌≡◌, ℕ, zero, suc, ◌+◌, ◌<◌, inl, inr, ◌⊎◌, List, [], ◌∷◌, ◌++◌, append_assoc, length, take, drop, refl, sym, ap, ◌∙◌, subst, arith, take-append-drop, Event, Enter, Exit, Data, Point, shown, Seat, end_after, Run, closings, data_of, inner_name, later, markers_of, markers_of_all, openings, outer_name, sequence_name, unlinked_event, markers, in_place, OneLine, Style, takes-some}
use Rattle.mddocument.proofs.Emphasis.Pairs.{Opens}
use Rattle.markdown_base.specs.declared.event.Name.{Name}
use Rattle.mddocument.proofs.Innermost.Lined.{LinedFor, lined-enter, lined-exit, lined-span, one-drop, one-take}
use Rattle.mdinline_links.proofs.RunOrder.{later-later, later-none}

module _ (bytes : List ℕ) where
  -- virtual bytes from a place on, each one byte behind the one before it
  abbrev pub FollowFrom : Point → List Seat → Type 0
  FollowFrom p [] = Unit {0}
  FollowFrom p (s ∷ ss) = (shown bytes s.point ≡ p) × (shown bytes s.end ≡ later 1 p) × FollowFrom (later 1 p) ss

  pub follow-end : (p : Point) (s : Seat) (ss : List Seat) → FollowFrom p (s ∷ ss) → shown bytes (end_after s.end ss) ≡ later (length (s ∷ ss)) p
  follow-end p s [] h = h.1
  follow-end p s (r ∷ rs) h =
      let one : 1 + length (r ∷ rs) ≡ length (s ∷ r ∷ rs) = omega arith in
      follow-end (later 1 p) r rs h.2 ∙ later-later (length (r ∷ rs)) 1 p ∙ ap (λ n. later n p) one

  -- so many of them
  abbrev pub Follow : ℕ → Point → List Seat → Type 0
  Follow n p l = (length l ≡ n) × FollowFrom p l

  follow-front : (a b : ℕ) (p : Point) (l : List Seat) → Follow (a + b) p l → Follow a p (take a l)
  follow-front zero b p l h = (refl, tt)
  follow-front (suc a) b p [] h = absurd (omega (arith, h.0))
  follow-front (suc a) b p (s ∷ ss) h =
      let less : length ss ≡ a + b = omega (arith, h.0) in
      let more = follow-front a b (later 1 p) ss (less, h.1.2) in
      (ap suc more.0, (h.1.0, h.1.1, more.1))

  follow-back : (a b : ℕ) (p : Point) (l : List Seat) → Follow (a + b) p l → Follow b (later a p) (drop a l)
  follow-back zero b p l h = (omega (arith, h.0), subst (λ q. FollowFrom q l) (sym (later-none p)) h.1)
  follow-back (suc a) b p [] h = absurd (omega (arith, h.0))
  follow-back (suc a) b p (s ∷ ss) h =
      let less : length ss ≡ a + b = omega (arith, h.0) in
      let one : 1 + a ≡ suc a = omega arith in
      subst (λ q. Follow b q (drop a ss)) (later-later a 1 p ∙ ap (λ n. later n p) one) (follow-back a b (later 1 p) ss (less, h.1.2))

  -- ---- spans of markers
  joined : (a : ℕ) (l rest : List Seat) (es : List Event) → LinedFor es bytes (take a l ++ (drop a l ++ rest)) → LinedFor es bytes (l ++ rest)
  joined a l rest es h = subst (LinedFor es bytes) (sym (append_assoc (take a l) (drop a l) rest) ∙ ap (λ k. k ++ rest) (take-append-drop a l)) h

  none-more : (l rest : List Seat) (es : List Event) → length l ≡ 0 → LinedFor es bytes rest → LinedFor es bytes (l ++ rest)
  none-more [] rest es none h = h
  none-more (s ∷ ss) rest es none h = absurd (omega (arith, none))

  -- a span over them
  one-more : (name : Name) (p : Point) (n : ℕ) (l rest : List Seat) (es : List Event) → 0 < n → OneLine l → Follow n p l → LinedFor es bytes rest
      → LinedFor (unlinked_event Enter name p ∷ unlinked_event Exit name (later n p) ∷ es) bytes (l ++ rest)
  one-more name p n [] rest es some one h lined = absurd (omega (arith, some, h.0))
  one-more name p n (s ∷ ss) rest es some one h lined =
      lined-span bytes (unlinked_event Enter name p) (unlinked_event Exit name (later n p)) es s ss rest one refl refl (sym h.1.0) (ap (λ m. later m p) (sym h.0) ∙ sym (follow-end p s ss h.1)) lined

  pub closings-more : (p : Point) (ss : List Style) (l rest : List Seat) (es : List Event) → OneLine l → Follow (markers_of_all ss) p l → LinedFor es bytes rest → LinedFor (closings p ss ++ es) bytes (l ++ rest)
  closings-more p [] l rest es one h lined = none-more l rest es h.0 lined
  closings-more p (s ∷ ss) l rest es one h lined =
      let m = markers_of s in
      let q = later m p in
      let more = closings-more q ss (drop m l) rest es (one-drop m l one) (follow-back m (markers_of_all ss) p l h) lined in
      let outer = lined-exit bytes (unlinked_event Exit (outer_name s) q) (closings q ss ++ es) (drop m l ++ rest) refl more in
      let spanned = one-more (sequence_name s) p m (take m l) (drop m l ++ rest) (unlinked_event Exit (outer_name s) q ∷ (closings q ss ++ es)) (takes-some s) (one-take m l one) (follow-front m (markers_of_all ss) p l h) outer in
      joined m l rest (closings p (s ∷ ss) ++ es)
      (lined-exit bytes (unlinked_event Exit (inner_name s) p) (unlinked_event Enter (sequence_name s) p ∷ unlinked_event Exit (sequence_name s) q ∷ unlinked_event Exit (outer_name s) q ∷ (closings q ss ++ es)) (take m l ++ (drop m l ++ rest)) refl spanned)

  -- an enter before events that begin with one
  enter-before : (n : Name) (p : Point) (es : List Event) (rest : List Seat) → Opens es → LinedFor es bytes rest → LinedFor (unlinked_event Enter n p ∷ es) bytes rest
  enter-before n p [] rest opens h = record { account = record { stretches = h.account.stretches; are_all = h.account.are_all; are_innermost = h.account.are_innermost }; lines = h.lines }
  enter-before n p (e ∷ es) rest opens h = lined-enter bytes (unlinked_event Enter n p) e es rest refl opens h

  openings-open : (p : Point) (ss : List Style) (es : List Event) → Opens es → Opens (openings p ss ++ es)
  openings-open p [] es h = h
  openings-open p (s ∷ ss) es h = refl

  openings-more : (p : Point) (ss : List Style) (l rest : List Seat) (es : List Event) → OneLine l → Follow (markers_of_all ss) p l → Opens es → LinedFor es bytes rest → LinedFor (openings p ss ++ es) bytes (l ++ rest)
  openings-more p [] l rest es one h opens lined = none-more l rest es h.0 lined
  openings-more p (s ∷ ss) l rest es one h opens lined =
      let m = markers_of s in
      let q = later m p in
      let behind = openings q ss ++ es in
      let more = openings-more q ss (drop m l) rest es (one-drop m l one) (follow-back m (markers_of_all ss) p l h) opens lined in
      let inner = enter-before (inner_name s) q behind (drop m l ++ rest) (openings-open q ss es opens) more in
      let spanned = one-more (sequence_name s) p m (take m l) (drop m l ++ rest) (unlinked_event Enter (inner_name s) q ∷ behind) (takes-some s) (one-take m l one) (follow-front m (markers_of_all ss) p l h) inner in
      joined m l rest (openings p (s ∷ ss) ++ es)
      (lined-enter bytes (unlinked_event Enter (outer_name s) p) (unlinked_event Enter (sequence_name s) p) (unlinked_event Exit (sequence_name s) q ∷ unlinked_event Enter (inner_name s) q ∷ behind) (take m l ++ (drop m l ++ rest)) refl refl spanned)

  data-more : (p : Point) (n : ℕ) (l rest : List Seat) (es : List Event) → OneLine l → Follow n p l → LinedFor es bytes rest → LinedFor (data_of p n ++ es) bytes (l ++ rest)
  data-more p zero l rest es one h lined = none-more l rest es h.0 lined
  data-more p (suc n) l rest es one h lined = one-more Data p (suc n) l rest es (omega arith) one h lined

  -- what a run opens, before events that begin with an enter, or where it opens nothing
  opened-more : (p : Point) (ss : List Style) (l rest : List Seat) (es : List Event) → OneLine l → Follow (markers_of_all ss) p l → (ss ≡ []) ⊎ Opens es → LinedFor es bytes rest → LinedFor (openings p ss ++ es) bytes (l ++ rest)
  opened-more p ss l rest es one h (inl none) lined =
      subst (λ (k : List Style). LinedFor (openings p k ++ es) bytes (l ++ rest)) (sym none) (none-more l rest es (h.0 ∙ ap markers_of_all none) lined)
  opened-more p ss l rest es one h (inr opens) lined = openings-more p ss l rest es one h opens lined

  -- ---- what comes in place of a run accounts for its virtual bytes
  pub place-more : (r : Run) (l rest : List Seat) (es : List Event) → OneLine l → Follow (markers r) r.start l → (r.opened ≡ []) ⊎ Opens es → LinedFor es bytes rest → LinedFor (in_place r ++ es) bytes (l ++ rest)
  place-more r l rest es one h opens lined =
      let a = markers_of_all r.closed in
      let b = r.left in
      let c = markers_of_all r.opened in
      let p = later a r.start in
      let q = later b p in
      let closed = closings r.start r.closed in
      let left = data_of p b in
      let opened = openings q r.opened in
      let behind = follow-back a (b + c) r.start l h in
      let tail = one-drop a l one in
      let third = opened-more q r.opened (drop b (drop a l)) rest es (one-drop b (drop a l) tail) (follow-back b c p (drop a l) behind) opens lined in
      let second = joined b (drop a l) rest (left ++ (opened ++ es)) (data-more p b (take b (drop a l)) (drop b (drop a l) ++ rest) (opened ++ es) (one-take b (drop a l) tail) (follow-front b c p (drop a l) behind) third) in
      let first = joined a l rest (closed ++ (left ++ (opened ++ es))) (closings-more r.start r.closed (take a l) (drop a l ++ rest) (left ++ (opened ++ es)) (one-take a l one) (follow-front a (b + c) r.start l h) second) in
      let same : closed ++ (left ++ (opened ++ es)) ≡ in_place r ++ es = sym (append_assoc closed (left ++ opened) es ∙ ap (λ k. closed ++ k) (append_assoc left opened es)) in
      subst (λ k. LinedFor k bytes (l ++ rest)) same first

-- and it begins with an enter, if the run closes nothing
tail-opens : (p : Point) (n : ℕ) (ss : List Style) (es : List Event) → 0 < n + markers_of_all ss → Opens ((data_of p n ++ openings (later n p) ss) ++ es)
tail-opens p zero [] es some = absurd (omega (arith, some))
tail-opens p zero (s ∷ ss) es some = refl
tail-opens p (suc n) ss es some = refl

pub place-opens : (r : Run) (es : List Event) → r.closed ≡ [] → 0 < markers r → Opens (in_place r ++ es)
place-opens r es none some =
    let many : 0 < 0 + (r.left + markers_of_all r.opened) = subst (λ (k : List Style). 0 < markers_of_all k + (r.left + markers_of_all r.opened)) none some in
    subst (λ (k : List Style). Opens ((closings r.start k ++ (data_of (later (markers_of_all k) r.start) r.left ++ openings (later r.left (later (markers_of_all k) r.start)) r.opened)) ++ es)) (sym none)
    (tail-opens (later 0 r.start) r.left r.opened es (omega (arith, many)))
