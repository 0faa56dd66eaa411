-- A run over the whole document: how it begins and ends, and what holds at each cut.
use Rattle.markdown_tokenizer.proofs.Prelude.{AllByRecursion, AreAtPlaces, ◌≡◌, ◌+◌, ◌≤◌, ◌<◌, ◌==◌, ℕ, suc, List, [], ◌∷◌, ◌++◌, Bool, true, false, Some, length, inl, inr, refl, sym, ap, ◌∙◌, arith, subst, filter, find, slice_index, ◌&&◌, drop, get_or, Contains, Result, IsErrAnd, IfErr, flat_map, nat_tests, cases_lt, append-nil, Point, Name, State, Next, Seat, point, virtual, end_after, document_end, stands_before, shown, point_at, IsPointOf, is_upto, Given, Text, pushed, in_range, empty_text, followed_by, followed_by_all, FitsAfter, IsDocument, IsText, TokenizerValue, start_configuration, start_seen, Rules, KeepsInvariant, LeadsOn, KeepsOutcome, CanPush, IsPushed, IsFlushed, IsRefused, IsWellFormed, IsRun, IsRunRefused, AreCuts, budget, given_by, whole_text, FollowInOrder, IsResolved, IsResolvingRefused, IsInShape, EndsIn, Subresult, ParseOptions, Event, Message, every-map, rest_at, IsNextSeat, Bounds, drop_more, begins_pair, eqb-true, add-one}
use Rattle.std.specs.declared.result.Result.TheVariants as result
use Rattle.std.proofs.lemmas.List.Elements.{Contains-push}
pub use Rattle.std.proofs.lemmas.Result.{IfOk-weaker as ok-if}
use Rattle.markdown_tokenizer.specs.Reading.{Reading}
use Rattle.markdown_tokenizer.proofs.Positions.Order.{filter-every, not-before, is-not}
use Rattle.markdown_tokenizer.proofs.Positions.Seats.{seat-in-tab, seat-other, seat-cr, seat-crlf, pair-is, no-pair-is}
use Rattle.markdown_tokenizer.proofs.Positions.Chains.{IsChain, whole-chain}
use Rattle.markdown_tokenizer.proofs.Positions.Standing.{end-place, place-of-point, rest-after}
use Rattle.markdown_tokenizer.proofs.Positions.Cursors.{upto-order, same-self, range-empty, range-extended, rest-none}
use Rattle.markdown_tokenizer.proofs.Positions.Points.{point_at-is, point_at-point}
use Rattle.markdown_tokenizer.proofs.Runs.Working.{leads-trans, leads-refl, holds-on}

-- a place that is found is one of the document
pub found-place : (t : ℕ) (bytes : List ℕ) (place : ℕ × ℕ) (p : Point) → point_at t bytes place ≡ Some p → IsPointOf t bytes p
found-place t bytes place p e = (point_at-is t bytes place p e).is_point

start-found : (t : ℕ) (bytes : List ℕ) (xs : List Seat) → IsChain t bytes (point 1 1 0 0) xs
    → find (λ p. (p.index == 0) && (p.vs == 0)) (flat_map (λ s. shown bytes s.point ∷ s.point ∷ []) xs ++ end_after (point 1 1 0 0) xs ∷ []) ≡ Some (point 1 1 0 0)
start-found t bytes [] c = refl
start-found t bytes (s ∷ ss) c = rw c.1.shown_is refl

-- a document begins at its first place
pub start-at : (t : ℕ) (wide : 0 < t) (bytes : List ℕ) → point_at t bytes (0, 0) ≡ Some (point 1 1 0 0)
start-at t wide bytes = start-found t bytes (virtual t bytes) (whole-chain t bytes wide)

pub start-upto : (t : ℕ) (wide : 0 < t) (bytes : List ℕ) (p : Point) → is_upto t bytes (point 1 1 0 0) p ≡ true
start-upto t wide bytes p = upto-order t bytes (point 1 1 0 0) p (grind (arith, nat_tests))

module _ (t : ℕ) (wide : 0 < t) (bytes : List ℕ) (p : Point) (none : rest_at t bytes p ≡ []) where
  no-seat : (r : ℕ × Point) → IsNextSeat t bytes p (Some r) → ⊥
  no-seat r n = let f = sym n.1.is ∙ none in absurd (cc)

  -- inside the document a virtual byte comes
  flat-past : (cr pair : Bool) → (slice_index bytes p.index == 13) ≡ cr → begins_pair bytes p.index ≡ pair → p.vs ≡ 0 → p.index < length bytes → ⊥
  flat-past cr true e f v lt =
      let both = pair-is bytes p.index f in
      no-seat (10, point p.line p.column (suc p.index) p.vs) (seat-crlf t bytes p v (rw add-one at both.0) both.1 (rw add-one at both.2))
  flat-past true false e f v lt = let cr = eqb-true (slice_index bytes p.index) 13 e in no-seat (10, p) (seat-cr t bytes p wide v lt cr (no-pair-is bytes p.index cr f))
  flat-past false false e f v lt = no-seat (slice_index bytes p.index, p) (seat-other t bytes p wide v lt (is-not (slice_index bytes p.index) 13 e))

  -- if nothing is left at a place, it is at the end of the bytes
  nothing-left : Bounds t bytes p → (p.index ≡ length bytes) × (p.vs ≡ 0)
  nothing-left b =
      let flat : p.vs ≡ 0 = elim (cases_lt 0 p.vs) [ inl v ↦ absurd (no-seat (32, p) (seat-in-tab t bytes p wide v (b.tab v))) | inr v ↦ omega arith ] in
      let past : length bytes ≤ p.index =
      elim (cases_lt p.index (length bytes)) [ inl lt ↦ absurd (flat-past (slice_index bytes p.index == 13) (begins_pair bytes p.index) refl refl flat lt) | inr ge ↦ ge ] in
      (omega (arith, b.inside, past), flat)

none-after : (t : ℕ) (wide : 0 < t) (bytes : List ℕ) → rest_at t bytes (document_end t bytes) ≡ []
none-after t wide bytes = rest-after t bytes wide (virtual t bytes) [] (sym (append-nil (virtual t bytes)))

-- a document ends at its last place
pub end-at : (t : ℕ) (wide : 0 < t) (bytes : List ℕ) → point_at t bytes (length bytes, 0) ≡ Some (document_end t bytes)
end-at t wide bytes =
    let e = document_end t bytes in
    let numbers = nothing-left t wide bytes e (none-after t wide bytes) (end-place t bytes wide).bounds in
    let found = point_at-point t bytes wide e (Contains-push (flat_map (λ s. shown bytes s.point ∷ s.point ∷ []) (virtual t bytes)) e) in
    subst (λ (i : ℕ). point_at t bytes (i, 0) ≡ Some e) numbers.0 (subst (λ (v : ℕ). point_at t bytes (e.index, v) ≡ Some e) numbers.1 found)

pub end-upto : (t : ℕ) (wide : 0 < t) (bytes : List ℕ) (p : Point) → IsPointOf t bytes p → is_upto t bytes p (document_end t bytes) ≡ true
end-upto t wide bytes p h = rest-none t bytes (document_end t bytes) p (end-place t bytes wide) (none-after t wide bytes)

-- the text up to a place
abbrev pub text_upto : Given → Point → Text
text_upto given p = record { start = point 1 1 0 0; seats = filter (in_range (point 1 1 0 0) p) (virtual given.tab given.bytes); end = p }

pub start-is-point : (given : Given) → 0 < given.tab → IsPointOf given.tab given.bytes (point 1 1 0 0)
start-is-point given wide = found-place given.tab given.bytes (0, 0) (point 1 1 0 0) (start-at given.tab wide given.bytes)

whole-is : (given : Given) → 0 < given.tab → text_upto given (document_end given.tab given.bytes) ≡ whole_text given
whole-is given wide =
    let e = document_end given.tab given.bytes in let place = end-place given.tab given.bytes wide in
    let all : virtual given.tab given.bytes ≡ place.before = place.splits ∙ ap (λ (ys : List Seat). place.before ++ ys) (none-after given.tab wide given.bytes) ∙ append-nil place.before in
    ap (λ (s : List Seat). record { start = point 1 1 0 0; seats = s; end = e }) (filter-every (in_range (point 1 1 0 0) e) (virtual given.tab given.bytes)
    (every-map (λ s. stands_before s.point e ≡ true) (λ s. in_range (point 1 1 0 0) e s ≡ true)
    (λ s h. let first = not-before s.point.index s.point.vs 0 0 (omega arith) refl in rw (first, h) refl) (virtual given.tab given.bytes)
    (subst (AllByRecursion (λ s. stands_before s.point e ≡ true)) (sym all) place.behind)))

pub start-is-text : (bytes : List ℕ) (options : ParseOptions) → IsDocument (given_by bytes options) → IsText (given_by bytes options) (empty_text (point 1 1 0 0))
start-is-text bytes options document = record {
  document = document;
  starts = start-is-point (given_by bytes options) document.tab.0;
  pieces = [];
  follow = tt;
  is = refl;
}

pub err-if : {T E : Type 0} (r : Result T E) (P Q : E → Type 0) → ((e : E) → P e → Q e) → IsErrAnd r P → IfErr r Q
err-if (result.Ok v) P Q f h = tt
err-if (result.Err e) P Q f h = f e h

-- the place of a run, and the cuts to come
pub record Runs {M R D : Type 0} (bytes : List ℕ) (options : ParseOptions) (m : M) (rules : Rules R D) (start : Name) (from : ℕ × ℕ) (cuts : List (ℕ × ℕ)) (t : TokenizerValue M R D) (state : State) : Type 0 where
  pub same_given : t.given ≡ given_by bytes options
  pub wide : 0 < options.tab_size
  pub machine : t.machine ≡ m
  pub open_still : t.closed ≡ false
  pub place : Point
  pub place_is : point_at options.tab_size bytes from ≡ Some place
  pub text : t.text ≡ text_upto (given_by bytes options) place
  pub outcome : KeepsOutcome (given_by bytes options) rules (start_seen (given_by bytes options) m (empty_text (point 1 1 0 0))) (Next start) t state
  pub order : FollowInOrder options.tab_size bytes place cuts

module _ {M R D : Type 0} (rules : M → Given → Rules R D) where
  abbrev pub RunsBy : List ℕ → ParseOptions → M → Name → ℕ × ℕ → List (ℕ × ℕ) → TokenizerValue M R D → State → Type 0
  RunsBy bytes options m = let given = given_by bytes options in Runs bytes options m (rules m given)

  pub run-start : (bytes : List ℕ) (options : ParseOptions) (m : M) → IsDocument (given_by bytes options) → (let given = given_by bytes options in KeepsInvariant given (rules m given))
      → (start : Name) → Contains (rules m (given_by bytes options)).starts start → (cuts : List (ℕ × ℕ)) → AreCuts options.tab_size bytes cuts → (t : TokenizerValue M R D)
      → t ≡ start_seen (given_by bytes options) m (empty_text (point 1 1 0 0)) → RunsBy bytes options m start (0, 0) cuts t (Next start)
  run-start bytes options m document keeps start among cuts order t e =
      let given = given_by bytes options in
      let text = start-is-text bytes options document in
      let p = point 1 1 0 0 in
      rw e (record {
        same_given = refl;
        wide = document.tab.0;
        machine = refl;
        open_still = refl;
        place = p;
        place_is = start-at options.tab_size document.tab.0 bytes;
        text = ap (λ (s : List Seat). record { start = p; seats = s; end = p }) (sym (range-empty options.tab_size bytes p));
        outcome = λ rest can.
            leads-refl given (rules m given) (followed_by_all given (empty_text p) rest) (start_seen given m (empty_text p)) (Next start)
            (holds-on given (rules m given) keeps (empty_text p) rest (start_configuration false) [] (Next start)
            text can refl (keeps.at_starts p false start text among));
        order = order;
      })

  -- the next cut is the first of those that are left
  pub run-at : (bytes : List ℕ) (options : ParseOptions) (m : M) (start : Name) (from : ℕ × ℕ) (cuts : List (ℕ × ℕ)) (n : ℕ) (d : ℕ × ℕ) (t : TokenizerValue M R D) (state : State)
      → n < length cuts → RunsBy bytes options m start from (drop n cuts) t state → RunsBy bytes options m start from (get_or cuts n d ∷ drop (n + 1) cuts) t state
  run-at bytes options m start from cuts n d t state lt r = subst (λ (cs : List (ℕ × ℕ)). RunsBy bytes options m start from cs t state) (drop_more cuts n d lt) r

  -- the last range ends at the document's end
  pub run-last : (bytes : List ℕ) (options : ParseOptions) (m : M) (start : Name) (from : ℕ × ℕ) (cuts : List (ℕ × ℕ)) (t : TokenizerValue M R D) (state : State)
      → RunsBy bytes options m start from cuts t state → RunsBy bytes options m start from ((length bytes, 0) ∷ []) t state
  run-last bytes options m start from cuts t state r =
      let upto = end-upto options.tab_size r.wide bytes r.place (found-place options.tab_size bytes from r.place r.place_is) in
      let order : FollowInOrder options.tab_size bytes r.place ((length bytes, 0) ∷ []) = (document_end options.tab_size bytes, end-at options.tab_size r.wide bytes, upto, tt) in
      record { same_given = r.same_given; wide = r.wide; machine = r.machine; open_still = r.open_still; place = r.place; place_is = r.place_is; text = r.text; outcome = r.outcome; order = order }

  module _ (bytes : List ℕ) (options : ParseOptions) (m : M) (start : Name) (from cut : ℕ × ℕ) (cuts : List (ℕ × ℕ)) (t : TokenizerValue M R D) (state : State)
      (r : RunsBy bytes options m start from (cut ∷ cuts) t state) where
    run-fits : FitsAfter (given_by bytes options) (text_upto (given_by bytes options) r.place) (pushed r.place r.order.0)
    run-fits =
        let tab = options.tab_size in
        (found-place tab bytes from r.place r.place_is, found-place tab bytes cut r.order.0 r.order.1, same-self tab bytes r.place, r.order.2)

    pub run-range : CanPush t.given t.text from cut
    run-range =
        let e = r.same_given in let x = r.text in
        rw (e, x) (r.place, r.order.0, r.place_is, r.order.1, run-fits)

    pub run-pushed : (u : TokenizerValue M R D) (answer : State) → IsPushed (rules t.machine t.given) t from cut state u answer → RunsBy bytes options m start cut cuts u answer
    run-pushed u answer pushes =
        let given = given_by bytes options in let q = r.order.0 in let piece = pushed r.place q in
        let same = r.same_given in let machine = r.machine in
        let text_is : u.text ≡ followed_by given t.text piece = rw same at (pushes.text r.place q (rw same r.place_is) (rw same r.order.1)) in
        let outcome = subst (λ (x : Given). KeepsOutcome x (rules m x) t state u answer) same (subst (λ (x : M). KeepsOutcome t.given (rules x t.given) t state u answer) machine pushes.outcome) in
        let start_text = empty_text (point 1 1 0 0) in
        let place = place-of-point given.tab bytes r.wide r.place run-fits.0 in record {
          same_given = pushes.given ∙ same;
          wide = r.wide;
          machine = pushes.machine ∙ machine;
          open_still = pushes.open_still;
          place = q;
          place_is = r.order.1;
          text = text_is ∙ ap (λ (x : Text). followed_by given x piece) r.text ∙ ap (λ (s : List Seat). record { start = point 1 1 0 0; seats = s; end = q })
              (sym (range-extended given.tab bytes (point 1 1 0 0) r.place q place (start-upto given.tab r.wide bytes r.place) r.order.2));
          outcome = λ rest can.
              let first = r.outcome (piece ∷ rest) (subst (λ (x : Text). FitsAfter given x piece) (sym r.text) run-fits, rw text_is at can) in
              let second = subst (λ (x : Text). LeadsOn given (rules m given) (followed_by_all given x rest) t state u answer) text_is (outcome rest can) in
              subst (λ (x : Text). LeadsOn given (rules m given) (followed_by_all given x rest) (start_seen given m start_text) (Next start) u answer) (sym text_is)
              (leads-trans given (rules m given) (followed_by_all given (followed_by given t.text piece) rest) (start_seen given m start_text) t u (Next start) state answer first second);
          order = r.order.3;
        }

  pub run-holds : (bytes : List ℕ) (options : ParseOptions) (m : M) (start : Name) (from : ℕ × ℕ) (cuts : List (ℕ × ℕ)) (t : TokenizerValue M R D) (state : State)
      → RunsBy bytes options m start from cuts t state → (rules t.machine t.given).holds t.text t.configuration t.choices state
  run-holds bytes options m start from cuts t state r = let machine = r.machine in let given = r.same_given in rw (machine, given) ((r.outcome [] tt).kept)

  module _ (bytes : List ℕ) (options : ParseOptions) (m : M) (start : Name) (t : TokenizerValue M R D) (state : State)
      (r : RunsBy bytes options m start (length bytes, 0) [] t state) where
    run-whole : t.text ≡ whole_text (given_by bytes options)
    run-whole =
        let given = given_by bytes options in
        let last : Some r.place ≡ Some (document_end options.tab_size bytes) = sym r.place_is ∙ end-at options.tab_size r.wide bytes in
        let is : r.place ≡ document_end options.tab_size bytes = (cc) in
        r.text ∙ ap (text_upto given) is ∙ whole-is given r.wide

    -- what holds for the tokenizer's machine, document and text holds for the run's
    run-moved : (P : M → Given → Text → Type 0) → P t.machine t.given t.text → P m (given_by bytes options) (whole_text (given_by bytes options))
    run-moved P h =
        subst (λ (x : Text). P m (given_by bytes options) x) run-whole (subst (λ (x : Given). P m x t.text) r.same_given (subst (λ (x : M). P x t.given t.text) r.machine h))

    run-within : (calls : ℕ) → calls ≤ budget (rules t.machine t.given) t.text t state
        → calls ≤ (rules m (given_by bytes options)).cost (whole_text (given_by bytes options)) (start_configuration false) [] (Next start)
    run-within calls paid =
        let here = run-moved (λ x y w. calls ≤ budget (rules x y) w t state) paid in
        let text = run-whole in let before = rw text at ((r.outcome [] tt).paid) in omega (arith, before, here)

    -- what a reading ends in from here on, it ends in from the start on
    run-ends : (q : Reading R D) → EndsIn t.given (rules t.machine t.given).step t.text t.calls t.configuration t.choices state q
        → EndsIn (given_by bytes options) (rules m (given_by bytes options)).step (whole_text (given_by bytes options)) 0 (start_configuration false) [] (Next start) q
    run-ends q e =
        let text = run-whole in let same = rw text at ((r.outcome [] tt).same q) in
        same.0 (run-moved (λ x y w. EndsIn y (rules x y).step w t.calls t.configuration t.choices state q) e)

    module _ (resolve : Bool) (v : TokenizerValue M R D) where
      pub run-flushed : (list : List Event) (sub : Subresult) → IsFlushed (rules t.machine t.given) resolve t state v sub
          → list ≡ v.configuration.events → IsRun (given_by bytes options) (rules m) resolve start list sub
      run-flushed list sub f events = record {
        result = f.result;
        ends = run-ends f.result f.ends;
        well = f.well;
        final = v.configuration;
        resolved = run-moved (λ x y w. IsResolved (rules x y).resolver y w resolve f.result.configuration v.configuration sub) f.resolved;
        events = events;
        well_formed = subst (λ (x : Given). IsWellFormed x f.result.configuration.events) r.same_given f.before;
        at_places = λ e. subst (AreAtPlaces options.tab_size bytes) (sym events) (subst (λ (x : Given). AreAtPlaces x.tab x.bytes v.configuration.events) r.same_given (f.at_places e));
        in_shape = λ e. subst IsInShape (sym events) (f.in_shape e);
        promised = λ e. run-moved (λ x y w. (rules x y).ends w list) (subst ((rules t.machine t.given).ends t.text) (sym events) (f.promised e));
        within = run-within f.result.calls (subst (λ (n : ℕ). n ≤ budget (rules t.machine t.given) t.text t state) f.calls f.within);
      }

      pub run-refused : (message : Message) → IsRefused (rules t.machine t.given) resolve t state v message
          → IsRunRefused (given_by bytes options) (rules m) resolve start message
      run-refused message f = record {
        result = f.result;
        ends = run-ends f.result f.ends;
        message = elim f.message [
          | inl e ↦ inl e
          | inr e ↦ inr (e.0, run-moved (λ x y w. IsResolvingRefused (rules x y).resolver y w resolve f.result.configuration message) e.1)
        ];
        within = run-within f.result.calls (subst (λ (n : ℕ). n ≤ budget (rules t.machine t.given) t.text t state) f.calls f.within);
      }
