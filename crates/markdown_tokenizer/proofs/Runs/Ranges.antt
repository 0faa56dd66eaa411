-- An open tokenizer, from its start over ranges and gaps: what a caller must prove at each call, and what holds after it. `StandsAt` is for
-- a caller that finds its ranges as it goes, `HasRanges` for one that has them in a list.
use Rattle.markdown_tokenizer.proofs.Prelude.{◌≡◌, ◌+◌, ◌<◌, ◌⊎◌, inl, inr, ℕ, length, List, [], ◌∷◌, Option, Some, None, true, false, cond, drop, get_or, refl, sym, ap, ◌∙◌, subst, Contains, drop_more, ParseOptions, Point, Name, State, Next, point, denotes_same, stands_before, Given, Text, Piece, FitsAfter, CanFollow, IsDocument, passed, empty_text, followed_by, followed_by_all, TokenizerValue, start_seen, start_configuration, AfterGap, IsGapFrom, IsRangeFrom, FollowOn, after_gap, Rules, KeepsInvariant, CanPush, HoldsOf, IsPushed, given_by, extended}
use Rattle.markdown_tokenizer.proofs.Runs.Whole.{start-is-text, found-place}
use Rattle.markdown_tokenizer.proofs.Runs.Working.{holds-on}

module _ {M R D : Type 0} (rules : M → Given → Rules R D) where
  -- an open tokenizer of this document, whose text ends at this place; the invariant holds, whatever follows its text
  pub record StandsAt (bytes : List ℕ) (options : ParseOptions) (place : Point) (t : TokenizerValue M R D) (state : State) : Type 0 where
    pub given : t.given ≡ given_by bytes options
    pub end : t.text.end ≡ place
    pub held : (rest : List Piece) → CanFollow t.given t.text rest → (rules t.machine t.given).holds (followed_by_all t.given t.text rest) t.configuration t.choices state

  -- a new tokenizer is at the document's start
  pub stands-start : (bytes : List ℕ) (options : ParseOptions) (m : M) → IsDocument (given_by bytes options) → KeepsInvariant (given_by bytes options) (rules m (given_by bytes options))
      → (start : Name) → Contains (rules m (given_by bytes options)).starts start → (t : TokenizerValue M R D) → t ≡ start_seen (given_by bytes options) m (empty_text (point 1 1 0 0)) → StandsAt bytes options (point 1 1 0 0) t (Next start)
  stands-start bytes options m document keeps start starts_so t e =
      let given = given_by bytes options in
      let p = point 1 1 0 0 in
      let text = start-is-text bytes options document in
      rw e (record {
        given = refl;
        end = refl;
        held = λ rest can. holds-on given (rules m given) keeps (empty_text p) rest (start_configuration false) [] (Next start) text can refl (keeps.at_starts p false start text starts_so);
      })

  module _ (bytes : List ℕ) (options : ParseOptions) (p : Point) (t : TokenizerValue M R D) (state : State) (s : StandsAt bytes options p t state) where
    -- the state is the one that waits: what `push` and `flush` require of it
    pub stands-holds : HoldsOf (rules t.machine t.given) t state
    stands-holds = s.held [] tt

    -- a gap that begins at the place fits: what `define_skip` requires
    pub stands-gap : (w : Point) → IsGapFrom options.tab_size bytes p w → FitsAfter t.given t.text (passed w)
    stands-gap w gap =
        let leads = subst (λ (x : Point). (denotes_same options.tab_size bytes w x ≡ true) ⊎ ((x.column ≡ 1) × (w.line ≡ x.line) × (stands_before x w ≡ true))) (sym s.end) gap.leads in
        rw s.given (found-place options.tab_size bytes (w.index, w.vs) w gap.at, leads)

    -- after `define_skip` the tokenizer is where the gap ends
    pub stands-passed : (w : Point) → IsGapFrom options.tab_size bytes p w → (u : TokenizerValue M R D) → u ≡ extended t (followed_by t.given t.text (passed w)) → StandsAt bytes options (after_gap options.tab_size bytes p w) u state
    stands-passed w gap u e =
        let given = s.given in let at = s.end in
        let end : (followed_by t.given t.text (passed w)).end ≡ after_gap options.tab_size bytes p w = rw (given, at)
        (elim (denotes_same options.tab_size bytes w p) as (λ b. (cond b (record t.text { end = p }) (record t.text { end = w })).end ≡ cond b p w) [ true ↦ refl | false ↦ refl ]) in
        rw e (record { given = s.given; end = end; held = λ rest can. s.held (passed w ∷ rest) (stands-gap w gap, can) })

    module _ (from to : ℕ × ℕ) (r : IsRangeFrom options.tab_size bytes p from to) where
      -- a range that begins at the place fits: what `push` requires of it
      pub stands-range : CanPush t.given t.text from to
      stands-range =
          let same = subst (λ (x : Point). denotes_same options.tab_size bytes r.first x ≡ true) (sym s.end) r.begins in
          rw s.given (r.first, r.last, r.from_is, r.to_is, (found-place options.tab_size bytes from r.first r.from_is, found-place options.tab_size bytes to r.last r.to_is, same, r.upto))

      -- after `push` the tokenizer is at the range's end
      pub stands-pushed : (u : TokenizerValue M R D) (answer : State) → IsPushed (rules t.machine t.given) t from to state u answer → StandsAt bytes options r.last u answer
      stands-pushed u answer h =
          let given = s.given in let machine_here = h.machine in let given_here = h.given in
          record {
            given = h.given ∙ s.given;
            end = ap (λ (x : Text). x.end) (h.text r.first r.last (rw given r.from_is) (rw given r.to_is));
            held = rw (machine_here, given_here) (λ rest can. (h.outcome rest can).kept);
          }

  -- an open tokenizer of this document, with these ranges to come
  pub record HasRanges (bytes : List ℕ) (options : ParseOptions) (ranges : List AfterGap) (t : TokenizerValue M R D) (state : State) : Type 0 where
    pub place : Point
    pub stands : StandsAt bytes options place t state
    pub follow : FollowOn options.tab_size bytes place ranges

  -- a new tokenizer has all ranges to come
  pub ranges-start : (bytes : List ℕ) (options : ParseOptions) (m : M) → IsDocument (given_by bytes options) → KeepsInvariant (given_by bytes options) (rules m (given_by bytes options))
      → (start : Name) → Contains (rules m (given_by bytes options)).starts start → (ranges : List AfterGap) → FollowOn options.tab_size bytes (point 1 1 0 0) ranges
      → (t : TokenizerValue M R D) → t ≡ start_seen (given_by bytes options) m (empty_text (point 1 1 0 0)) → HasRanges bytes options ranges t (Next start)
  ranges-start bytes options m document keeps start starts_so ranges follow t e = record {
    place = point 1 1 0 0;
    stands = stands-start bytes options m document keeps start starts_so t e;
    follow = follow;
  }

  -- the next range is the first of those that are left
  pub ranges-at : (bytes : List ℕ) (options : ParseOptions) (ranges : List AfterGap) (n : ℕ) (d : AfterGap) (t : TokenizerValue M R D) (state : State) → n < length ranges
      → HasRanges bytes options (drop n ranges) t state → HasRanges bytes options (get_or ranges n d ∷ drop (n + 1) ranges) t state
  ranges-at bytes options ranges n d t state lt r = subst (λ (xs : List AfterGap). HasRanges bytes options xs t state) (drop_more ranges n d lt) r

  -- the state is the one that waits: what `push` and `flush` require of it
  pub ranges-holds : (bytes : List ℕ) (options : ParseOptions) (ranges : List AfterGap) (t : TokenizerValue M R D) (state : State) → HasRanges bytes options ranges t state → HoldsOf (rules t.machine t.given) t state
  ranges-holds bytes options ranges t state r = stands-holds bytes options r.place t state r.stands

  -- the gap before the next range fits: what `define_skip` requires
  pub ranges-gap : (bytes : List ℕ) (options : ParseOptions) (x : AfterGap) (w : Point) (ranges : List AfterGap) (t : TokenizerValue M R D) (state : State) → x.0 ≡ Some w
      → HasRanges bytes options (x ∷ ranges) t state → FitsAfter t.given t.text (passed w)
  ranges-gap bytes options x w ranges t state is r =
      let q = subst (λ (o : Option Point). HasRanges bytes options ((o, x.1, x.2) ∷ ranges) t state) is r in
      stands-gap bytes options q.place t state q.stands w q.follow.0

  -- after `define_skip`, or with no gap to pass, the next range has none before it
  pub ranges-passed : (bytes : List ℕ) (options : ParseOptions) (x : AfterGap) (ranges : List AfterGap) (t u : TokenizerValue M R D) (state : State) → HasRanges bytes options (x ∷ ranges) t state
      → ((w : Point) × (x.0 ≡ Some w) × (u ≡ extended t (followed_by t.given t.text (passed w)))) ⊎ ((x.0 ≡ None) × (u ≡ t)) → HasRanges bytes options ((None, x.1, x.2) ∷ ranges) u state
  ranges-passed bytes options x ranges t u state r (inl (w, is, e)) =
      let q = subst (λ (o : Option Point). HasRanges bytes options ((o, x.1, x.2) ∷ ranges) t state) is r in
      record {
        place = after_gap options.tab_size bytes q.place w;
        stands = stands-passed bytes options q.place t state q.stands w q.follow.0 u e;
        follow = (tt, q.follow.1, q.follow.2);
      }
  ranges-passed bytes options x ranges t u state r (inr (is, e)) = rw e (subst (λ (o : Option Point). HasRanges bytes options ((o, x.1, x.2) ∷ ranges) t state) is r)

  module _ (bytes : List ℕ) (options : ParseOptions) (from to : ℕ × ℕ) (ranges : List AfterGap) (t : TokenizerValue M R D) (state : State) (r : HasRanges bytes options ((None, from, to) ∷ ranges) t state) where
    -- the next range fits: what `push` requires of it
    pub ranges-range : CanPush t.given t.text from to
    ranges-range = stands-range bytes options r.place t state r.stands from to r.follow.1

    -- after `push` the ranges behind it are to come
    pub ranges-pushed : (u : TokenizerValue M R D) (answer : State) → IsPushed (rules t.machine t.given) t from to state u answer → HasRanges bytes options ranges u answer
    ranges-pushed u answer h = record {
      place = r.follow.1.last;
      stands = stands-pushed bytes options r.place t state r.stands from to r.follow.1 u answer h;
      follow = r.follow.2;
    }
