-- The reading of a chain: its pieces are read one after another, by pushes and gaps.
use Rattle.markdown_children.proofs.Prelude.{◌≡◌, ◌<◌, ◌≤◌, ◌⊎◌, arith, List, [], ◌∷◌, Some, Bool, true, false, refl, sym, ap, ◌∙◌, subst, Point, Message, Name, State, Next, Ok, Error, point_at, Subresult, Given, Text, Piece, pushed, passed, empty_text, followed_by, followed_by_all, CanFollow, TokenizerValue, start_seen, start_configuration, Rules, LeadsOn, KeepsOutcome, CanPush, ForPoints, IsPushed, IsFlushed, IsRefused, budget, Reading, EndsIn, IsResolved, IsResolvingRefused, point_at-point, leads-trans}

-- a tokenizer that has read nothing, with the flag of the first paragraph of a list item
abbrev pub flagged : {M R D : Type 0} → Given → M → Point → Bool → TokenizerValue M R D
flagged g m p flag = record (start_seen g m (empty_text p)) { configuration = start_configuration flag }

module _ {M R D : Type 0} (g : Given) (rules : M → Given → Rules R D) (m : M) (p : Point) (flag : Bool) (start : Name) (text : Text) where
  -- an open tokenizer that reads the pieces of a text, from its start; these pieces are left
  pub record Reads (left : List Piece) (t : TokenizerValue M R D) (state : State) : Type 0 where
    pub same_given : t.given ≡ g
    pub machine : t.machine ≡ m
    pub open_still : t.closed ≡ false
    pub follow : CanFollow g t.text left
    pub whole : followed_by_all g t.text left ≡ text
    pub outcome : KeepsOutcome g (rules m g) (flagged g m p flag) (Next start) t state

module _ {M R D : Type 0} {g : Given} {rules : M → Given → Rules R D} {m : M} {p : Point} {flag : Bool} {start : Name} {text : Text} where
  module _ {t : TokenizerValue M R D} {state : State} where
    pub reads-holds : {left : List Piece} → Reads g rules m p flag start text left t state → (rules t.machine t.given).holds t.text t.configuration t.choices state
    reads-holds r = rw (r.machine, r.same_given) (r.outcome [] tt).kept

    module _ {piece : Piece} {left : List Piece} (r : Reads g rules m p flag start text (piece ∷ left) t state) where
      -- a turn by one piece, which keeps the outcome, leaves the others
      reads-on : (u : TokenizerValue M R D) (answer : State) → u.given ≡ t.given → u.machine ≡ t.machine → u.closed ≡ false → u.text ≡ followed_by g t.text piece
          → ((rest : List Piece) → CanFollow g (followed_by g t.text piece) rest → LeadsOn g (rules m g) (followed_by_all g (followed_by g t.text piece) rest) t state u answer) → Reads g rules m p flag start text left u answer
      reads-on u answer given machine open_still is on = record {
        same_given = given ∙ r.same_given;
        machine = machine ∙ r.machine;
        open_still = open_still;
        follow = rw is r.follow.1;
        whole = rw is r.whole;
        outcome = λ rest can.
            let next = subst (λ (x : Text). CanFollow g x rest) is can in
            subst (λ (x : Text). LeadsOn g (rules m g) (followed_by_all g x rest) (flagged g m p flag) (Next start) u answer) (sym is)
            (leads-trans g (rules m g) (followed_by_all g (followed_by g t.text piece) rest) (flagged g m p flag) t u (Next start) state answer (r.outcome (piece ∷ rest) (r.follow.0, next)) (on rest next));
      }

    module _ {a b : Point} {left : List Piece} (some : 0 < g.tab) (r : Reads g rules m p flag start text (pushed a b ∷ left) t state) where
      at-first : point_at g.tab g.bytes (a.index, a.vs) ≡ Some a
      at-first = point_at-point g.tab g.bytes some a r.follow.0.0

      at-last : point_at g.tab g.bytes (b.index, b.vs) ≡ Some b
      at-last = point_at-point g.tab g.bytes some b r.follow.0.1

      -- the next range can be pushed
      pub reads-range : CanPush t.given t.text (a.index, a.vs) (b.index, b.vs)
      reads-range = rw r.same_given (a, b, at-first, at-last, r.follow.0)

      -- and then the others are left
      pub reads-pushed : {u : TokenizerValue M R D} {answer : State} → IsPushed (rules t.machine t.given) t (a.index, a.vs) (b.index, b.vs) state u answer → Reads g rules m p flag start text left u answer
      reads-pushed {u} {answer} h =
          let is : u.text ≡ followed_by g t.text (pushed a b) = subst (λ (x : Given). ForPoints x (a.index, a.vs) (b.index, b.vs) (λ f l. u.text ≡ followed_by x t.text (pushed f l))) r.same_given h.text a b at-first at-last in
          let outcome = subst (λ (x : Given). KeepsOutcome x (rules m x) t state u answer) r.same_given (subst (λ (x : M). KeepsOutcome t.given (rules x t.given) t state u answer) r.machine h.outcome) in
          reads-on r u answer h.given h.machine h.open_still is
          (λ rest can. subst (λ (x : Text). LeadsOn g (rules m g) (followed_by_all g x rest) t state u answer) is (outcome rest (rw is can)))

    module _ {a : Point} {left : List Piece} (r : Reads g rules m p flag start text (passed a ∷ left) t state) where
      pub reads-passed : {u : TokenizerValue M R D} → u ≡ record t { text = followed_by t.given t.text (passed a) } → Reads g rules m p flag start text left u state
      reads-passed e =
          let next = record t { text = followed_by t.given t.text (passed a) } in
          subst (λ (x : TokenizerValue M R D). Reads g rules m p flag start text left x state) (sym e)
          (reads-on r next state refl refl r.open_still (ap (λ (x : Given). followed_by x t.text (passed a)) r.same_given)
          (λ rest can. record { kept = (r.outcome (passed a ∷ rest) (r.follow.0, can)).kept; same = λ q. ((λ x. x), (λ x. x)); paid = omega arith }))

    module _ (r : Reads g rules m p flag start text [] t state) where
      reads-moved : (P : M → Given → Text → Type 0) → P t.machine t.given t.text → P m g text
      reads-moved P h = subst (λ (x : Text). P m g x) r.whole (subst (λ (x : Given). P m x t.text) r.same_given (subst (λ (x : M). P x t.given t.text) r.machine h))

      -- the text is read to this end, within its cost
      pub record EndsWithin (q : Reading R D) : Type 0 where
        pub ends : EndsIn g (rules m g).step text 0 (start_configuration flag) [] (Next start) q
        pub within : q.calls ≤ (rules m g).cost text (start_configuration flag) [] (Next start)

      -- an end of what is left, within what the budget pays for, is an end of the text
      reads-ends : (q : Reading R D) → EndsIn t.given (rules t.machine t.given).step t.text t.calls t.configuration t.choices state q → q.calls ≤ budget (rules t.machine t.given) t.text t state → EndsWithin q
      reads-ends q e l =
          let leads : LeadsOn g (rules m g) text (flagged g m p flag) (Next start) t state = subst (λ (x : Text). LeadsOn g (rules m g) x (flagged g m p flag) (Next start) t state) r.whole (r.outcome [] tt) in
          let left : q.calls ≤ budget (rules m g) text t state = reads-moved (λ x y w. q.calls ≤ budget (rules x y) w t state) l in
          record { ends = (leads.same q).0 (reads-moved (λ x y w. EndsIn y (rules x y).step w t.calls t.configuration t.choices state q) e); within = omega (arith, leads.paid) }

      -- what a flush leaves is what resolving makes of the reading of the text
      pub reads-flushed : {v : TokenizerValue M R D} {sub : Subresult} (f : IsFlushed (rules t.machine t.given) true t state v sub)
          → EndsWithin f.result × IsResolved (rules m g).resolver g text true f.result.configuration v.configuration sub × (rules m g).ends text v.configuration.events
      reads-flushed {v} {sub} f = (
        reads-ends f.result f.ends (rw (← f.calls) f.within),
        reads-moved (λ x y w. IsResolved (rules x y).resolver y w true f.result.configuration v.configuration sub) f.resolved,
        reads-moved (λ x y w. (rules x y).ends w v.configuration.events) (f.promised refl),
      )

      pub reads-refused : {v : TokenizerValue M R D} {message : Message} (f : IsRefused (rules t.machine t.given) true t state v message)
          → EndsWithin f.result
          × ((f.result.answer ≡ Error message) ⊎ ((f.result.answer ≡ Ok) × IsResolvingRefused (rules m g).resolver g text true f.result.configuration message))
      reads-refused {v} {message} f = (
        reads-ends f.result f.ends (rw (← f.calls) f.within),
        reads-moved (λ x y w. (f.result.answer ≡ Error message) ⊎ ((f.result.answer ≡ Ok) × IsResolvingRefused (rules x y).resolver y w true f.result.configuration message)) f.message,
      )
