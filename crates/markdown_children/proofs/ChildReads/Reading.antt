-- The reading of a chain of a ready list: from its first chunk on, along its links.
use Rattle.markdown_children.proofs.Prelude.{AreAtPlaces, ◌≡◌, ◌≢◌, ◌+◌, ◌<◌, ℕ, length, List, [], ◌∷◌, Option, Some, None, Bool, true, refl, sym, ap, ◌∙◌, subst, ◌↔◌, none-some, ParseOptions, Content, Event, Point, Message, Name, State, Next, Subresult, Fault, Memory, Failed, next_of, Given, Text, pushed, passed, empty_text, followed_by, followed_by_all, CanFollow, IsDocument, IsText, start_configuration, leads-refl, holds-on, TokenizerValue, Rules, given_by, CanPush, IsWellFormed, IsPushed, IsFlushed, IsRefused, fits, begins, IsReady, place_at, LeadOnFrom, IsAtFirstParagraph, start_at, pieces_behind, pieces_of, text_of_chain, IsChild, IsChildFault, IsLawful, text_from, StartAmong, with_flag, start_seen, Piece}
use Rattle.markdown_tokenizer.specs.declared.tokenizer.fault.Fault.TheVariants as fault
use Rattle.markdown_children.proofs.ChainOrder.Following.{fits_next, whole-from, inside}
use Rattle.markdown_children.proofs.ChildReads.Pieces.{chunks_can_be_read}
use Rattle.markdown_children.proofs.ChainOrder.Forward.{begins-fits}
use Rattle.markdown_children.proofs.ChildReads.ChainReads.{flagged, Reads, reads-range, reads-pushed, reads-passed, reads-flushed, reads-refused}

-- the place of a point
abbrev pub place_of_point : Point → ℕ × ℕ
place_of_point p = (p.index, p.vs)

-- a chain is read with this flag, and these chunks are behind the one at an index
pub record StandsAt (options : ParseOptions) (wanted : Option Content) (events : List Event) (c at : ℕ) : Type 0 where
  pub wide : 0 < options.tab_size
  pub flag : Bool
  pub paragraph : (flag ≡ true) ↔ IsAtFirstParagraph events c options.constructs
  pub behind : List ℕ
  pub lead : LeadOnFrom events at behind
  pub fit : fits wanted events at ≡ true

-- and then these pieces of the chain's text are left
pub record ReadsAt {M R D : Type 0} (rules : M → Given → Rules R D) (m : M) (bytes : List ℕ) (options : ParseOptions) (wanted : Option Content) (events : List Event) (c : ℕ) (start : Name)
    (left : List ℕ → List Piece) (at : ℕ) (t : TokenizerValue M R D) (state : State) : Type 0 where
  pub stands : StandsAt options wanted events c at
  pub reads : Reads (given_by bytes options) rules m (place_at events c) stands.flag start (text_from (given_by bytes options) events c) (left stands.behind) t state

-- the range of the chunk at d comes next
abbrev pub range_next : List Event → ℕ → List ℕ → List Piece
range_next events d ks = pushed (place_at events d) (place_at events (d + 1)) ∷ pieces_behind events ks

-- at the first chunk
pub chain-first : {M R D : Type 0} (rules : M → Given → Rules R D) (m : M) (bytes : List ℕ) (options : ParseOptions) {wanted : Option Content} {events : List Event} {c : ℕ} {start : Name} {flag : Bool} {t u : TokenizerValue M R D}
    → IsReady options.tab_size bytes wanted events → begins wanted events c ≡ true → IsDocument (given_by bytes options) → IsLawful (given_by bytes options) (rules m (given_by bytes options))
    → StartAmong (rules m (given_by bytes options)).starts wanted events → start_at events c ≡ Some start → (flag ≡ true) ↔ IsAtFirstParagraph events c options.constructs
    → t ≡ with_flag flag u → u ≡ start_seen (given_by bytes options) m (empty_text (place_at events c)) → ReadsAt rules m bytes options wanted events c start (range_next events c) c t (Next start)
chain-first rules m bytes options {wanted} {events} {c} {start} {flag} {t} ready b document lawful among starts paragraph e f =
    let g : Given = given_by bytes options in
    let h = begins-fits options.tab_size bytes wanted events ready c b in
    let w = whole-from options.tab_size bytes wanted events ready c h in
    let text : Text = empty_text (place_at events c) in
    let can = subst (λ ks. CanFollow g text (pieces_of events ks)) w.1 (chunks_can_be_read options.tab_size bytes options wanted events ready c b) in
    let is : IsText g text = record { document = document; starts = (ready.readable c h).from.0; pieces = []; follow = tt; is = refl } in
    let keeps = lawful.invariant_kept in
    let start_is : t ≡ flagged g m (place_at events c) flag = e ∙ ap (with_flag flag) f in
    record {
      stands = record { wide = document.tab.0; flag = flag; paragraph = paragraph; behind = w.0; lead = w.2; fit = h };
      reads = rw start_is (record {
        same_given = refl;
        machine = refl;
        open_still = refl;
        follow = can;
        whole = ap (text_of_chain g events) (sym w.1);
        outcome = λ rest follows.
            leads-refl g (rules m g) (followed_by_all g text rest) (flagged g m (place_at events c) flag) (Next start)
            (holds-on g (rules m g) keeps text rest (start_configuration flag) [] (Next start) is follows refl (keeps.at_starts (place_at events c) flag start is (among c start b starts)));
      });
    }

module _ {M R D : Type 0} {rules : M → Given → Rules R D} {m : M} {bytes : List ℕ} {options : ParseOptions} {wanted : Option Content} {events : List Event} {c : ℕ} {start : Name} {t : TokenizerValue M R D} {state : State} where
  module _ {d : ℕ} (r : ReadsAt rules m bytes options wanted events c start (range_next events d) d t state) {ends : (ℕ × ℕ) × (ℕ × ℕ)} (is : ends ≡ (place_of_point (place_at events d), place_of_point (place_at events (d + 1)))) where
    pub on-range : CanPush t.given t.text ends.0 ends.1
    on-range = subst (λ (x : (ℕ × ℕ) × (ℕ × ℕ)). CanPush t.given t.text x.0 x.1) (sym is) (reads-range r.stands.wide r.reads)

    pub on-pushed : {u : TokenizerValue M R D} {answer : State} → IsPushed (rules t.machine t.given) t ends.0 ends.1 state u answer → ReadsAt rules m bytes options wanted events c start (pieces_behind events) d u answer
    on-pushed {u} {answer} h = record {
      stands = r.stands;
      reads = reads-pushed r.stands.wide r.reads (subst (λ (x : (ℕ × ℕ) × (ℕ × ℕ)). IsPushed (rules t.machine t.given) t x.0 x.1 state u answer) is h);
    }

  module _ (ready : IsReady options.tab_size bytes wanted events) {at : ℕ} (r : ReadsAt rules m bytes options wanted events c start (pieces_behind events) at t state) where
    -- if a link leads on, the next chunk is further on, inside the list
    pub chain-rises : {d : ℕ} → next_of events at ≡ Some d → (at < d) × (d + 1 < length events)
    chain-rises {d} e = (ready.forward at d e, inside options.tab_size bytes wanted events ready d (fits_next options.tab_size bytes wanted events ready at d r.stands.fit e))

    -- and the gap before it comes next, and then its range
    pub chain-next : {d : ℕ} → next_of events at ≡ Some d → ReadsAt rules m bytes options wanted events c start (λ ks. passed (place_at events d) ∷ range_next events d ks) d t state
    chain-next {d} e = go r.stands.behind r.stands.lead r.reads
      where
        go : (ks : List ℕ) → LeadOnFrom events at ks
            → Reads (given_by bytes options) rules m (place_at events c) r.stands.flag start (text_from (given_by bytes options) events c) (pieces_behind events ks) t state
            → ReadsAt rules m bytes options wanted events c start (λ ks. passed (place_at events d) ∷ range_next events d ks) d t state
        go [] lead reads = absurd (none-some d (sym lead ∙ e))
        go (k ∷ ks) lead reads =
            let same : k ≡ d = let f : Some k ≡ Some d = sym lead.0 ∙ e in cc in
            let s = r.stands in
            subst (λ n. ReadsAt rules m bytes options wanted events c start (λ ks. passed (place_at events n) ∷ range_next events n ks) n t state) same (record {
              stands = record { wide = s.wide; flag = s.flag; paragraph = s.paragraph; behind = ks; lead = lead.2; fit = fits_next options.tab_size bytes wanted events ready at k s.fit lead.0 };
              reads = reads;
            })

    pub chain-passed : {d : ℕ} {p : Point} {u : TokenizerValue M R D} → next_of events at ≡ Some d → p ≡ place_at events d → u ≡ record t { text = followed_by t.given t.text (passed p) }
        → ReadsAt rules m bytes options wanted events c start (range_next events d) d u state
    chain-passed e is moved =
        let to = chain-next e in
        record {
          stands = to.stands;
          reads = reads-passed to.reads (moved ∙ ap (λ (q : Point). record t { text = followed_by t.given t.text (passed q) }) is);
        }

  module _ {at : ℕ} (r : ReadsAt rules m bytes options wanted events c start (pieces_behind events) at t state) (last : next_of events at ≡ None) (starts : start_at events c ≡ Some start) where
    all-read : Reads (given_by bytes options) rules m (place_at events c) r.stands.flag start (text_from (given_by bytes options) events c) [] t state
    all-read = go r.stands.behind r.stands.lead r.reads
      where
        go : (ks : List ℕ) → LeadOnFrom events at ks
            → Reads (given_by bytes options) rules m (place_at events c) r.stands.flag start (text_from (given_by bytes options) events c) (pieces_behind events ks) t state
            → Reads (given_by bytes options) rules m (place_at events c) r.stands.flag start (text_from (given_by bytes options) events c) [] t state
        go [] lead reads = reads
        go (k ∷ ks) lead reads = absurd (none-some k (sym last ∙ lead.0))

    -- what a flush leaves is the child
    pub chain-child : {v : TokenizerValue M R D} {sub : Subresult} → IsFlushed (rules t.machine t.given) true t state v sub → IsChild (given_by bytes options) (rules m) events c (record { events = v.configuration.events; found = sub })
    chain-child {v} f =
        let q = reads-flushed all-read f in
        record {
          result = f.result;
          read = record { flag = r.stands.flag; flagged = r.stands.paragraph; start = start; starts = starts; ends = q.0.ends; within = q.0.within };
          well = f.well;
          final = v.configuration;
          resolved = q.1;
          child_events = refl;
          well_formed = subst (λ (x : Given). IsWellFormed x f.result.configuration.events) r.reads.same_given f.before;
          at_places = λ e. subst (λ (x : Given). AreAtPlaces x.tab x.bytes v.configuration.events) r.reads.same_given (f.at_places e);
          in_shape = f.in_shape refl;
          promised = q.2;
        }

    -- a flush fails as the chain does
    pub chain-fault : {v : TokenizerValue M R D} (f : Fault) → f ≢ Failed → ((message : Message) → f ≡ fault.Message message → IsRefused (rules t.machine t.given) true t state v message) → IsChildFault (given_by bytes options) (rules m) events c f
    chain-fault Memory other told = tt
    chain-fault Failed other told = absurd (other refl)
    chain-fault (fault.Message message) other told =
        let h = told message refl in
        let q = reads-refused all-read h in
        record { result = h.result; read = record { flag = r.stands.flag; flagged = r.stands.paragraph; start = start; starts = starts; ends = q.0.ends; within = q.0.within }; message = q.1 }
