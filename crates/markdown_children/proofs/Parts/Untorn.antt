-- No chunks tear a void span of their child, if the child's void spans go over no gap.
--
-- Where events are between two chunks there is text too. A void span that is open there would hold the first byte of that text, which is in
-- no chunk.
use Rattle.markdown_children.proofs.Prelude.{both_true, every-get, range_with_len, ◌≡◌, ◌⊎◌, ℕ, zero, suc, ◌+◌, ◌<◌, inl, inr, Bool, true, false, cond, not, List, [], ◌∷◌, ◌++◌, length, map, drop, drop-drop, Option, Some, refl, sym, ◌∙◌, ap, subst, arith, filter, slice_get, none-some, same_Some, AllByRecursion, every-append, every-map, All-from_recursion, recursion_from_All, filter_passes, All, Contains, Content, Event, Enter, Point, is_void, IsVoidTight, stands_before, next_of, Given, Text, pushed, passed, empty_text, followed_by, followed_by_all, denotes_same, fitting_starts, IsReady, place_at, IsShownPlace, LeadOnFrom, IsWholeFrom, EndsInVoidEnter, StandSideBySide, IsTornNowhere, NoneTorn, parts, front_until, Divided, divided_over, pieces_behind, text_from, text_of_chain, false_from_ne_true, and_parts, not-true, take_while-cons, get-dropped, get-taken, AllZip, take_while, All-contains, All-contains_itself, Contains-append_right, not-false, in_range, is_upto, Seat, virtual, HasTextInGaps, HoldsOnlyText, CanBeReadNext, ChildrenCanBeRead, before-self, later-later, before-upto, after-before, upto-order, way-rest, way-none, same-shown, rest-later, place-of-point, rest_at, IsPlace}
use Rattle.markdown_children.proofs.ChainOrder.Following.{Fits, by_test, fits_next, starts_fit, follow_one_another}
use Rattle.markdown_children.proofs.Parts.Weaves.{EndsInChunkEnter, IsCutNowhere}
use Rattle.markdown_tokenizer.proofs.Positions.Cursors.{left_of}

-- ---- nothing torn is nothing cut
-- a chunk that is begun is a void span that is entered
chunk-is-void : (es : List Event) → EndsInChunkEnter es → EndsInVoidEnter es
chunk-is-void [] h = h
chunk-is-void (e ∷ []) h = (h.enter, h.void)
chunk-is-void (e ∷ f ∷ es) h = chunk-is-void (f ∷ es) h

torn-cut : (ks : List ℕ) (ps : List (List Event)) → IsTornNowhere ks ps → IsCutNowhere ks ps
torn-cut [] ps h = tt
torn-cut (k ∷ ks) [] h = tt
torn-cut (k ∷ ks) (p ∷ ps) h = ((λ v. h.0 (chunk-is-void p v)), torn-cut ks ps h.1)

pub none-cut : (wanted : Option Content) (events : List Event) (children : List (List Event)) → NoneTorn wanted events children → AllByRecursion (λ (d : Divided). IsCutNowhere d.chunks d.parts) (divided_over events (fitting_starts wanted events) children)
none-cut wanted events children h =
    every-map (λ (d : Divided). IsTornNowhere d.chunks d.parts) (λ (d : Divided). IsCutNowhere d.chunks d.parts) (λ d t. torn-cut d.chunks d.parts t) (divided_over events (fitting_starts wanted events) children) h

-- ---- the ends of parts
-- the last event, which enters a void span
record Last (es : List Event) : Type 0 where
  n : ℕ
  e : Event
  long : length es ≡ suc n
  at : slice_get es n ≡ Some e
  enter : e.kind ≡ Enter
  void : is_void e.name ≡ true

last-of : (es : List Event) → EndsInVoidEnter es → Last es
last-of [] h = absurd h
last-of (e ∷ []) h = record { n = 0; e = e; long = refl; at = refl; enter = h.0; void = h.1 }
last-of (e ∷ f ∷ es) h = let l = last-of (f ∷ es) h in record { n = suc l.n; e = l.e; long = ap suc l.long; at = l.at; enter = l.enter; void = l.void }

-- leading events pass a test, and the next one does not
pub front-more : (test : Event → Bool) (x : Event) (es : List Event) → test x ≡ true → take_while test (x ∷ es) ≡ x ∷ take_while test es
front-more test x es t = take_while-cons test x es ∙ ap (λ b. cond b (x ∷ take_while test es) []) t

pub front-none : (test : Event → Bool) (x : Event) (es : List Event) → test x ≡ false → take_while test (x ∷ es) ≡ []
front-none test x es t = take_while-cons test x es ∙ ap (λ b. cond b (x ∷ take_while test es) []) t

passes-at : (test : Event → Bool) (es : List Event) (n : ℕ) (e : Event) → slice_get (take_while test es) n ≡ Some e → test e ≡ true
passes-at test [] n e at = absurd (none-some e at)
passes-at test (x ∷ es) zero e at = by_test (test x)
    (λ t. ap test (sym (same_Some x e (ap (λ (l : List Event). slice_get l 0) (sym (front-more test x es t)) ∙ at))) ∙ t)
    (λ t. absurd (none-some e (ap (λ (l : List Event). slice_get l 0) (sym (front-none test x es t)) ∙ at)))
passes-at test (x ∷ es) (suc n) e at = by_test (test x)
    (λ t. passes-at test es n e (ap (λ (l : List Event). slice_get l (suc n)) (sym (front-more test x es t)) ∙ at))
    (λ t. absurd (none-some e (ap (λ (l : List Event). slice_get l (suc n)) (sym (front-none test x es t)) ∙ at)))

pub fails-next : (test : Event → Bool) (es : List Event) (f : Event) → slice_get (drop (length (take_while test es)) es) 0 ≡ Some f → test f ≡ false
fails-next test [] f at = absurd (none-some f at)
fails-next test (x ∷ es) f at = by_test (test x)
    (λ t. fails-next test es f (ap (λ (l : List Event). slice_get (drop (length l) (x ∷ es)) 0) (sym (front-more test x es t)) ∙ at))
    (λ t. ap test (sym (same_Some x f (ap (λ (l : List Event). slice_get (drop (length l) (x ∷ es)) 0) (sym (front-none test x es t)) ∙ at))) ∙ t)

-- a part without events does not end a void span
pub goes-on-side : (k d : ℕ) (ks : List ℕ) (q : List Event) (qs : List (List Event)) → d ≡ k + 2 → (q ≡ [] → StandSideBySide d ks qs) → StandSideBySide k (d ∷ ks) (q ∷ qs)
goes-on-side k d ks [] qs at go = (at, go refl)
goes-on-side k d ks (x ∷ q) qs at go = at

-- a void span of the child that is entered at or before a place is exited there or before
abbrev IsShutAt : List Event → Point → Type 0
IsShutAt child p = (n : ℕ) (e f : Event) → slice_get child n ≡ Some e → slice_get child (n + 1) ≡ Some f → e.kind ≡ Enter → is_void e.name ≡ true → stands_before p e.point ≡ false → stands_before p f.point ≡ false

-- void spans of the child end where something of the list is between two chunks
abbrev StopsAt : (events child : List Event) → ℕ → List ℕ → Type 0
StopsAt events child k [] = Unit {0}
StopsAt events child k (d ∷ ks) = ((d ≡ k + 2) ⊎ IsShutAt child (place_at events (k + 1))) × StopsAt events child d ks

module _ (tab : ℕ) (bytes : List ℕ) (wanted : Option Content) (events : List Event) (ready : IsReady tab bytes wanted events) where
  -- chunks end in order
  ends-rise : (k d : ℕ) → Fits wanted events k → next_of events k ≡ Some d → stands_before (place_at events (d + 1)) (place_at events (k + 1)) ≡ false
  ends-rise k d h e =
      let p = place_at events (d + 1) in
      let q = place_at events d in
      let r = place_at events (k + 1) in
      later-later p.index p.vs q.index q.vs r.index r.vs (ready.readable d (fits_next tab bytes wanted events ready k d h e)).forward (ready.gaps k d h e).forward

module _ (tab : ℕ) (bytes : List ℕ) (wanted : Option Content) (events : List Event) (ready : IsReady tab bytes wanted events) (child : List Event) (tight : IsVoidTight child) where
  abbrev ends_of : List ℕ → List Point
  ends_of ks = map (λ k. place_at events (k + 1)) ks

  module _ (n : ℕ) (e f : Event) (at_e : slice_get child n ≡ Some e) (at_f : slice_get child (n + 1) ≡ Some f) (enter : e.kind ≡ Enter) (void : is_void e.name ≡ true) where
    -- chunks stand side by side behind the one at k while the void span is open
    side : (k : ℕ) (ks : List ℕ) (es : List Event) → Fits wanted events k → LeadOnFrom events k ks → StopsAt events child k ks → stands_before (place_at events (k + 1)) e.point ≡ false
        → stands_before (place_at events (k + 1)) f.point ≡ true → slice_get es 0 ≡ Some f → StandSideBySide k ks (parts (ends_of ks) es)
    side k [] es h lead stops before behind first = tt
    side k (d ∷ []) [] h lead stops before behind first = absurd (none-some f first)
    side k (d ∷ []) (x ∷ es) h lead stops before behind first = elim stops.0 [
      | inl s ↦ s
      | inr shut ↦ absurd (let no : true ≡ false = sym behind ∙ shut n e f at_e at_f enter void before in cc)
    ]
    side k (d ∷ c ∷ ks) es h lead stops before behind first =
        let end = place_at events (d + 1) in
        let here = place_at events (k + 1) in
        let front = front_until end es in
        let test : Event → Bool = λ x. not (stands_before end x.point) in
        let next : d ≡ k + 2 = elim stops.0 [
          | inl s ↦ s
          | inr shut ↦ absurd (let no : true ≡ false = sym behind ∙ shut n e f at_e at_f enter void before in cc)
        ] in
        let later = later-later end.index end.vs here.index here.vs e.point.index e.point.vs (ends-rise tab bytes wanted events ready k d h lead.0) before in
        goes-on-side k d (c ∷ ks) front (parts (ends_of (c ∷ ks)) (drop (length front) es)) next (λ none.
        let still : slice_get (drop (length front) es) 0 ≡ Some f = ap (λ (l : List Event). slice_get (drop (length l) es) 0) none ∙ first in
        side d (c ∷ ks) (drop (length front) es) (fits_next tab bytes wanted events ready k d h lead.0) lead.2 stops.1 later (not-false (stands_before end f.point) (fails-next test es f still)) still)

  -- so no chunks tear one
  untorn : (k : ℕ) (ks : List ℕ) (m : ℕ) → Fits wanted events k → LeadOnFrom events k ks → StopsAt events child k ks → IsTornNowhere (k ∷ ks) (parts (ends_of (k ∷ ks)) (drop m child))
  untorn k [] m h lead stops = ((λ v. tt), tt)
  untorn k (d ∷ ks) m h lead stops =
      let end = place_at events (k + 1) in
      let es = drop m child in
      let front = front_until end es in
      let rest = untorn d ks (m + length front) (fits_next tab bytes wanted events ready k d h lead.0) lead.2 stops.1 in
      (at-end, subst (λ (l : List Event). IsTornNowhere (d ∷ ks) (parts (ends_of (d ∷ ks)) l)) (sym (drop-drop (length front) m child)) rest)
    where
      at-end : EndsInVoidEnter (front_until (place_at events (k + 1)) (drop m child)) → StandSideBySide k (d ∷ ks) (parts (ends_of (d ∷ ks)) (drop (length (front_until (place_at events (k + 1)) (drop m child))) (drop m child)))
      at-end v =
          let end = place_at events (k + 1) in
          let test : Event → Bool = λ x. not (stands_before end x.point) in
          let es = drop m child in
          let front = front_until end es in
          let last = last-of front v in
          let at_e : slice_get child (m + last.n) ≡ Some last.e = sym (get-dropped m child last.n) ∙ (get-taken _ es last.n last.e last.at).1 in
          let exit = tight (m + last.n) last.e at_e last.enter last.void in
          let long = last.long in
          let z : m + (length front + 0) ≡ m + last.n + 1 = omega (arith, long) in
          let first : slice_get (drop (length front) es) 0 ≡ Some exit.0 = get-dropped (length front) es 0 ∙ get-dropped m child (length front + 0) ∙ ap (slice_get child) z ∙ exit.1 in
          side (m + last.n) last.e exit.0 at_e exit.1 last.enter last.void k (d ∷ ks) (drop (length front) es) h lead stops (not-true (stands_before end last.e.point) (passes-at test es last.n last.e last.at))
          (not-false (stands_before end exit.0.point) (fails-next test es exit.0 first)) first

-- ---- the bytes of a gap
-- The first byte from a place on is before another place
record Byte (tab : ℕ) (bytes : List ℕ) (p q : Point) : Type 0 where
  s : Seat
  others : List Seat
  is : rest_at tab bytes p ≡ s ∷ others
  before : stands_before s.point q ≡ true

byte-behind : (tab : ℕ) → 0 < tab → (bytes : List ℕ) (p q : Point) → IsShownPlace tab bytes p → IsShownPlace tab bytes q → stands_before p q ≡ true → Byte tab bytes p q
byte-behind tab some bytes p q a b less = by (left_of tab bytes p q) refl
  where
    at_p : IsPlace tab bytes p
    at_p = place-of-point tab bytes some p a.0

    at_q : IsPlace tab bytes q
    at_q = place-of-point tab bytes some q b.0

    upto : is_upto tab bytes p q ≡ true
    upto = upto-order tab bytes p q (after-before p.index p.vs q.index q.vs less)

    by : (left : List Seat) → left_of tab bytes p q ≡ left → Byte tab bytes p q
    by [] none =
        let same : p ≡ q = sym a.1 ∙ same-shown tab bytes p q at_p at_q (way-none tab bytes some p q at_p at_q upto none) ∙ b.1 in
        let no : false ≡ true = sym (before-self p.index p.vs) ∙ ap (stands_before p) same ∙ less in absurd (cc)
    by (s ∷ ss) is =
        let test : Seat → Bool = λ s. stands_before s.point q in
        let all = recursion_from_All (λ s. test s ≡ true) (filter test (rest_at tab bytes p)) (filter_passes test (rest_at tab bytes p)) in
        let first = subst (AllByRecursion (λ s. test s ≡ true)) is all in
        record {
          s = s;
          others = ss ++ rest_at tab bytes q;
          is = way-rest tab bytes some p q at_p at_q upto ∙ ap (λ (l : List Seat). l ++ rest_at tab bytes q) is;
          before = first.0;
        }

-- a gap adds no byte
pub gap-seats : (g : Given) (text : Text) (p : Point) → (followed_by g text (passed p)).seats ≡ text.seats
gap-seats g text p = by_test (denotes_same g.tab g.bytes p text.end) (λ e. rw e refl) (λ e. rw e refl)

module _ (g : Given) (some : 0 < g.tab) (wanted : Option Content) (events : List Event) (ready : IsReady g.tab g.bytes wanted events) where
  -- the bytes of a range are not before its beginning, and are before its end
  abbrev IsIn : Point → Point → Seat → Type 0
  IsIn from to s = (stands_before s.point from ≡ false) × (stands_before s.point to ≡ true)

  range-in : (from to : Point) → AllByRecursion (IsIn from to) (filter (in_range from to) (virtual g.tab g.bytes))
  range-in from to =
      let seats = filter (in_range from to) (virtual g.tab g.bytes) in
      every-map (λ s. in_range from to s ≡ true) (IsIn from to)
      (λ s h. let two = and_parts (not (stands_before s.point from)) (stands_before s.point to) h in (not-true (stands_before s.point from) two.0, two.1))
      seats (recursion_from_All (λ s. in_range from to s ≡ true) seats (filter_passes (in_range from to) (virtual g.tab g.bytes)))

  -- the text up to the end of the next chunk
  abbrev with_chunk : Text → ℕ → Text
  with_chunk text d = followed_by g (followed_by g text (passed (place_at events d))) (pushed (place_at events d) (place_at events (d + 1)))

  chunk-adds : (Q : Seat → Type 0) (text : Text) (d : ℕ) → AllByRecursion Q text.seats → ((s : Seat) → IsIn (place_at events d) (place_at events (d + 1)) s → Q s) → AllByRecursion Q (with_chunk text d).seats
  chunk-adds Q text d all more =
      let from = place_at events d in
      let to = place_at events (d + 1) in
      let added = filter (in_range from to) (virtual g.tab g.bytes) in
      let mid = followed_by g text (passed from) in
      every-append Q mid.seats added (subst (AllByRecursion Q) (sym (gap-seats g text from)) all) (every-map (IsIn from to) Q more added (range-in from to))

  -- what holds from a place on holds of the bytes of all chunks behind it
  seats-behind : (Q : Seat → Type 0) (from : Point) → ((s : Seat) → stands_before s.point from ≡ false → Q s) → (k : ℕ) (ks : List ℕ) (text : Text) → Fits wanted events k → LeadOnFrom events k ks
      → ((d : ℕ) → next_of events k ≡ Some d → stands_before (place_at events d) from ≡ false) → AllByRecursion Q text.seats → AllByRecursion Q (followed_by_all g text (pieces_behind events ks)).seats
  seats-behind Q from holds k [] text h lead upto all = all
  seats-behind Q from holds k (d ∷ ks) text h lead upto all =
      let fit = fits_next g.tab g.bytes wanted events ready k d h lead.0 in
      let begin = place_at events d in
      let end = place_at events (d + 1) in
      let here = upto d lead.0 in
      let to_end = later-later end.index end.vs begin.index begin.vs from.index from.vs (ready.readable d fit).forward here in
      seats-behind Q from holds d ks (with_chunk text d) fit lead.2
      (λ c e. let next = place_at events c in later-later next.index next.vs end.index end.vs from.index from.vs (ready.gaps d c fit e).forward to_end)
      (chunk-adds Q text d all (λ s i. holds s (later-later s.point.index s.point.vs begin.index begin.vs from.index from.vs i.0 here)))

  module _ (child : List Event) (shown : All (λ (e : Event). IsShownPlace g.tab g.bytes e.point) child) (gaps : HasTextInGaps wanted events) where
    -- the bytes of a text are before a place
    abbrev AreBefore : Point → Text → Type 0
    AreBefore p text = AllByRecursion (λ (s : Seat). stands_before s.point p ≡ true) text.seats

    shut : (k d : ℕ) (ks : List ℕ) (text : Text) → Fits wanted events k → LeadOnFrom events k (d ∷ ks) → AreBefore (place_at events (k + 1)) text
        → stands_before (place_at events (k + 1)) (place_at events d) ≡ true → HoldsOnlyText g (followed_by_all g text (pieces_behind events (d ∷ ks))) child
        → IsShutAt child (place_at events (k + 1))
    shut k d ks text h lead before less whole n e f at_e at_f enter void first =
        let end = place_at events (k + 1) in
        let begin = place_at events d in
        let fit = fits_next g.tab g.bytes wanted events ready k d h lead.0 in
        false_from_ne_true (stands_before end f.point) (λ behind.
        let at_end = (ready.readable k h).to in
        let exit_shown = every-get (λ (x : Event). IsShownPlace g.tab g.bytes x.point) child (n + 1) f (recursion_from_All (λ (x : Event). IsShownPlace g.tab g.bytes x.point) child shown) at_f in
        let one = byte-behind g.tab some g.bytes end f.point at_end exit_shown behind in
        let two = byte-behind g.tab some g.bytes end begin at_end (ready.readable d fit).from less in
        let same : two.s ≡ one.s = same_Some two.s one.s (ap (λ (l : List Seat). slice_get l 0) (sym two.is ∙ one.is)) in
        let s = one.s in
        let later : stands_before s.point end ≡ false = (subst (AllByRecursion (λ (x : Seat). stands_before x.point end ≡ false)) one.is (rest-later g.tab g.bytes end)).0 in
        let place = place-of-point g.tab g.bytes some end at_end.0 in
        let there : Contains (virtual g.tab g.bytes) s =
        subst (λ l. Contains l s) (sym (place.splits ∙ ap (λ (l : List Seat). place.before ++ l) one.is))
        (Contains-append_right place.before (s ∷ one.others) s (recursion_from_All (Contains (s ∷ one.others)) (s ∷ one.others) (All-contains_itself (s ∷ one.others))).0) in
        let in_span : in_range e.point f.point s ≡ true =
        both_true (ap not (later-later s.point.index s.point.vs end.index end.vs e.point.index e.point.vs later first)) one.before in
        let Q : Seat → Type 0 = λ x. (stands_before x.point end ≡ true) ⊎ (stands_before x.point begin ≡ false) in
        let all = seats-behind Q begin (λ x l. inr l) k (d ∷ ks) text h lead (λ c e. let is : c ≡ d = same_Some c d (sym e ∙ lead.0) in subst (λ i. stands_before (place_at events i) begin ≡ false) (sym is) (before-self begin.index begin.vs))
        (every-map (λ (x : Seat). stands_before x.point end ≡ true) Q (λ x l. inl l) text.seats before) in
        let seats = (followed_by_all g text (pieces_behind events (d ∷ ks))).seats in
        elim (All-contains Q seats s (All-from_recursion Q seats all) (whole n e f at_e at_f enter void s there in_span)) [
          | inl l ↦ (let no : true ≡ false = sym l ∙ later in cc)
          | inr l ↦ (let no : false ≡ true = sym l ∙ ap (λ (x : Seat). stands_before x.point begin) (sym same) ∙ two.before in cc)
        ])

    stops : (k : ℕ) (ks : List ℕ) (text : Text) → Fits wanted events k → LeadOnFrom events k ks → AreBefore (place_at events (k + 1)) text
        → HoldsOnlyText g (followed_by_all g text (pieces_behind events ks)) child → StopsAt events child k ks
    stops k [] text h lead before whole = tt
    stops k (d ∷ ks) text h lead before whole =
        let fit = fits_next g.tab g.bytes wanted events ready k d h lead.0 in
        let here = place_at events (k + 1) in
        let end = place_at events (d + 1) in
        let rise = ends-rise g.tab g.bytes wanted events ready k d h lead.0 in
        let P : Seat → Type 0 = λ s. stands_before s.point end ≡ true in
        let next : AreBefore end (with_chunk text d) =
        chunk-adds P text d (every-map (λ (s : Seat). stands_before s.point here ≡ true) P (λ s l. before-upto s.point.index s.point.vs here.index here.vs end.index end.vs l rise) text.seats before) (λ s i. i.1) in
        let gap : (d ≡ k + 2) ⊎ IsShutAt child here = elim (gaps k d h lead.0) [
          | inl s ↦ inl s
          | inr less ↦ inr (shut k d ks text h lead before less whole)
        ] in
        (gap, stops d ks (with_chunk text d) fit lead.2 next whole)

  -- the child of one chain
  torn-nowhere : (next : Option Content) (c : ℕ) (ks : List ℕ) (child : List Event) → Fits wanted events c → LeadOnFrom events c ks → HasTextInGaps wanted events
      → CanBeReadNext g next (text_of_chain g events (c ∷ ks)) child → IsTornNowhere (c ∷ ks) (parts (map (λ k. place_at events (k + 1)) (c ∷ ks)) child)
  torn-nowhere next c ks child h lead gaps can =
      let from = place_at events c in
      let to = place_at events (c + 1) in
      let first = followed_by g (empty_text from) (pushed from to) in
      let before = every-map (IsIn from to) (λ (s : Seat). stands_before s.point to ≡ true) (λ s i. i.1) first.seats (range-in from to) in
      untorn g.tab g.bytes wanted events ready child can.tight c ks 0 h lead (stops child can.shown gaps c ks first h lead before can.whole)

  torn-chains : (next : Option Content) → HasTextInGaps wanted events → (cs : List ℕ) (children : List (List Event)) → AllByRecursion (Fits wanted events) cs → AllByRecursion (IsWholeFrom events) cs
      → AllZip (λ c child. CanBeReadNext g next (text_from g events c) child) cs children → AllByRecursion (λ (d : Divided). IsTornNowhere d.chunks d.parts) (divided_over events cs children)
  torn-chains next gaps [] children fs wh can = tt
  torn-chains next gaps (c ∷ cs) [] fs wh can = tt
  torn-chains next gaps (c ∷ cs) (x ∷ children) fs wh can =
      let is = wh.0.1 in
      let here = subst (λ (ys : List ℕ). CanBeReadNext g next (text_of_chain g events ys) x) is can.0 in
      (subst (λ (ys : List ℕ). IsTornNowhere ys (parts (map (λ k. place_at events (k + 1)) ys) x)) (sym is) (torn-nowhere next c wh.0.0 x fs.0 wh.0.2 gaps here), torn-chains next gaps cs children fs.1 wh.1 can.1)

  pub none-torn : (next : Option Content) (children : List (List Event)) → HasTextInGaps wanted events → ChildrenCanBeRead g wanted next events children → NoneTorn wanted events children
  none-torn next children gaps can =
      torn-chains next gaps (fitting_starts wanted events) children (starts_fit g.tab g.bytes wanted events ready (range_with_len 0 (length events))) (follow_one_another g.tab g.bytes wanted events ready).whole can
