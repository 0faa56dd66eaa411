-- The parts of a chain's child, put in place of its chunks, account for what the chunks and the events between them do.
--
-- Between two chunks of a chain is nothing, or a mark at the beginning of a line. Each innermost span of the child is within one line. So a
-- mark never comes between the enter and the exit of one. So a list that accounts for a document does so with the children of its chains.
use Rattle.mdinline_text_machine.proofs.Prelude.{◌≡◌, ℕ, ◌+◌, ◌<◌, ◌∷◌, ◌++◌, [], List, Bool, true, false, not, Some, inl, inr, sym, ◌∙◌, ap, subst, arith, drop, length, map, between, flat_map, AllByRecursion, flat_map-append, append-nil, append_cancel_left, take_while-cons, every-map, every-front, every-append, end-after-append, Event, Enter, Point, stands_before, shown, Seat, virtual, end_after, next_of, Change, Given, IsChain, later-later, every-back, fits, AreSpaced, LeadOnFrom, front_until, parts, joined-parts, IsReady, place_at, fits_next, after_changes, AccountFor, cond, refl, range_with_len, is_enter, Tagged, woven, placed_in, AreApart, woven-pass, chain_of, fitting_starts, chain_changes, child_changes, IsWholeFrom, divided_over, text_of_chain, starts_fit, follow_one_another, changes_are_apart, untagged, untagged-olds, innermost_spans, chain_text, with_read}
use Rattle.std.proofs.Common.{append_assoc}
use Rattle.markdown_base.specs.declared.event.Content.TheVariants.{Text as TextContent}
use Rattle.mdconstructs_machines.specs.Spans.{event}
use Rattle.mdinline_text_machine.proofs.Autolinks.Places.{EndsInLine, chain-in-line}
use Rattle.mdinline_text_machine.proofs.DeepSpans.Atoms.{Atom, seats_of, atom_events, events_of, InOneLine, EntersAt, IsCut, span-in, both-account, none-account, atoms-more, open-atoms, cut-atoms}
use Rattle.mdinline_text_machine.proofs.DeepSpans.Chunks.{chunk_seats, chain-seats, Stands, HasChunk, has-chunk, from_chunk, no-gap, place_behind, up-to-chunk}
use Rattle.mdinline_text_machine.proofs.DeepSpans.Places.{Upto, origin, atoms-upto, place-before, ends-line, chain-from}
use Rattle.mdinline_text_machine.proofs.Paragraphs.ChunkPairs.{FollowsChunk, IsMark}
use Rattle.mdinline_text_machine.proofs.Paragraphs.ChunksReady.{between-none, between-two}

-- ---- the leading events up to a place
module _ (end : Point) where
  pub front-at : (b : Bool) (e : Event) (es : List Event) → stands_before end e.point ≡ b → front_until end (e ∷ es) ≡ cond (not b) (e ∷ front_until end es) []
  front-at b e es is = take_while-cons (λ (x : Event). not (stands_before end x.point)) e es ∙ ap (λ b. cond (not b) (e ∷ front_until end es) []) is

  -- what is up to the place is in front
  pub front-over : (xs ys : List Event) → AllByRecursion (Upto end) xs → front_until end (xs ++ ys) ≡ xs ++ front_until end ys
  front-over [] ys h = refl
  front-over (x ∷ xs) ys h = front-at false x (xs ++ ys) h.0 ∙ ap (λ l. x ∷ l) (front-over xs ys h.1)

  -- what is in front is up to the place
  pub front-upto : (es : List Event) → AllByRecursion (Upto end) (front_until end es)
  front-upto [] = tt
  front-upto (e ∷ es) = elim (stands_before end e.point) as (λ b. stands_before end e.point ≡ b → AllByRecursion (Upto end) (front_until end (e ∷ es))) [
    | true ↦ λ h. subst (AllByRecursion (Upto end)) (sym (front-at true e es h)) tt
    | false ↦ λ h. subst (AllByRecursion (Upto end)) (sym (front-at false e es h)) (h, front-upto es)
  ] refl

  -- and the rest is behind it
  pub front-and-rest : (es : List Event) → front_until end es ++ drop (length (front_until end es)) es ≡ es
  front-and-rest es = ap (λ l. front_until end es ++ l) (sym (append-nil (drop (length (front_until end es)) es))) ∙ joined-parts end (end ∷ []) es

-- link ends do not matter
pub spans-placed : (ts us : List Tagged) → innermost_spans (placed_in ts us) ≡ innermost_spans (untagged us)
spans-placed ts [] = refl
spans-placed ts (u ∷ []) = refl
spans-placed ts (u ∷ v ∷ us) =
    ap (λ l. cond (is_enter u.event.kind) (cond (is_enter v.event.kind) [] ((u.event.point, v.event.point) ∷ [])) [] ++ l) (spans-placed ts (v ∷ us))

module _ (g : Given) (some : 0 < g.tab) (events : List Event) (ready : IsReady g.tab g.bytes (Some TextContent) events)
    (pairs : (k d : ℕ) → next_of events k ≡ Some d → FollowsChunk events k d) where
  -- they account for virtual bytes, and begin with an enter at the first
  abbrev Good : Seat → List Event → List Seat → Type 0
  Good s es seats = AccountFor es g.bytes seats × EntersAt g.bytes s.point es

  -- so it is with atoms before events that account for what is behind their virtual bytes
  over-atoms : (atoms : List Atom) (s : Seat) (ss behind : List Seat) (read left es : List Event) → read ++ left ≡ events_of g.bytes atoms → seats_of atoms ≡ s ∷ ss → AccountFor es g.bytes behind
      → Good s (read ++ (left ++ es)) ((s ∷ ss) ++ behind)
  over-atoms atoms s ss behind read left es are is h =
      subst (λ l. Good s l ((s ∷ ss) ++ behind)) (ap (λ l. l ++ es) (sym are) ∙ append_assoc read left es)
      (subst (λ l. AccountFor (events_of g.bytes atoms ++ es) g.bytes (l ++ behind)) is (atoms-more g.bytes atoms es behind h), open-atoms g.bytes atoms s ss es is)

  -- What is known of a child before a chunk takes its part: the virtual bytes of the chunk and of the chunks directly before it, the events
  -- that these chunks took, and the atoms of the child from these virtual bytes on
  pub record Comes (k : ℕ) (ks : List ℕ) (read left : List Event) (pre : List Seat) (s : Seat) (ss behind : List Seat) : Type 0 where
    pub stands : Stands g some events (k + 2) (pre ++ (s ∷ ss)) behind
    pub ends_at : place_at events (k + 1) ≡ place_behind g some events (pre ++ (s ∷ ss))
    pub atoms : List Atom
    pub are : read ++ left ≡ events_of g.bytes atoms
    pub seats_are : seats_of atoms ≡ (s ∷ ss) ++ flat_map (chunk_seats g events) ks
    pub lines : AllByRecursion InOneLine atoms
    pub upto : AllByRecursion (Upto (place_at events (k + 1))) read

  -- behind a mark the child is cut between two lines: at atoms over the virtual bytes so far
  pub cut-at-mark : (k d : ℕ) (ks : List ℕ) (read left : List Event) (pre : List Seat) (s : Seat) (ss behind : List Seat) → d ≡ k + 4 → IsMark events (k + 2) → (place_at events (k + 1)).column ≡ 1
      → Comes k (d ∷ ks) read left pre s ss behind → (h : HasChunk g some events (k + 2) d (pre ++ (s ∷ ss)) behind) → let front = front_until (place_at events (k + 1)) left in
      (atoms : List Atom) × (seats_of atoms ≡ s ∷ ss) × (read ++ front ≡ events_of g.bytes atoms) × Comes d ks [] (drop (length front) left) ((pre ++ (s ∷ ss)) ++ h.before) h.first h.others h.behind
  cut-at-mark k d ks read left pre s ss behind at m column c h =
      let end = place_at events (k + 1) in
      let p = place_behind g some events pre in
      let q = place_behind g some events (pre ++ (s ∷ ss)) in
      let more = (h.first ∷ h.others) ++ h.behind in
      let two = between-two events (k + 2) d m.enter m.exit (omega (arith, at)) m.enter_at m.exit_at in
      let mark = span-in g.bytes [] m.enter m.exit [] h.before m.are.enters m.are.exits (subst (λ l. AccountFor l g.bytes h.before) two h.gap) in
      let r = mark.first in
      let rs = mark.others ++ mark.behind in
      let before : h.before ≡ r ∷ rs = mark.are ∙ ap (λ l. l ++ (r ∷ rs)) (none-account g.bytes mark.before mark.front) in
      let chain : IsChain g.tab g.bytes p ((s ∷ ss) ++ behind) = chain-from g.tab g.bytes some pre ((s ∷ ss) ++ behind) (c.stands.whole ∙ append_assoc pre (s ∷ ss) behind) in
      let end_is : end ≡ end_after s.end ss = c.ends_at ∙ end-after-append (origin g.tab g.bytes some) pre (s ∷ ss) in
      let in_line = every-front EndsInLine (s ∷ ss) behind (chain-in-line g.tab g.bytes p ((s ∷ ss) ++ behind) chain) in
      let line = ends-line s ss in_line (ap (λ (q : Point). q.column) (sym end_is) ∙ column) in
      let a = cut-atoms s [] c.atoms (s ∷ ss) (flat_map (chunk_seats g events) (d ∷ ks)) tt c.lines line c.seats_are in
      let fronts = events_of g.bytes a.front in
      let backs = events_of g.bytes a.back in
      let both : read ++ left ≡ fronts ++ backs = c.are ∙ ap (events_of g.bytes) a.are ∙ flat_map-append (atom_events g.bytes) a.front a.back in
      let front_chain = subst (λ l. IsChain g.tab g.bytes p (l ++ behind)) (sym a.front_is) chain in
      let upto = atoms-upto g.tab g.bytes end p a.front behind front_chain (ap (end_after p) a.front_is ∙ sym end_is) in
      let back_is : seats_of a.back ≡ h.first ∷ (h.others ++ flat_map (chunk_seats g events) ks) = a.back_is ∙ ap (λ l. l ++ flat_map (chunk_seats g events) ks) h.text in
      let opens = open-atoms g.bytes a.back h.first (h.others ++ flat_map (chunk_seats g events) ks) [] back_is in
      let further = subst (IsChain g.tab g.bytes q) (h.are ∙ ap (λ l. l ++ more) before) (chain-from g.tab g.bytes some (pre ++ (s ∷ ss)) behind c.stands.whole) in
      let first_at : shown g.bytes h.first.point ≡ end_after r.end rs = h.first_shown ∙ h.from ∙ end-after-append (origin g.tab g.bytes some) (pre ++ (s ∷ ss)) h.before ∙ ap (end_after q) before in
      let passed : stands_before end (shown g.bytes h.first.point) ≡ true = (λ i. stands_before (c.ends_at i) (first_at i)) ∙ place-before g.tab g.bytes q r rs more further in
      let none : front_until end backs ≡ [] = ap (front_until end) (sym (append-nil backs) ∙ opens.are) ∙ front-at end true (event g.bytes Enter opens.name h.first.point) opens.rest passed in
      let front = front_until end left in
      let rest = drop (length front) left in
      let taken : read ++ front ≡ fronts = sym (front-over end read left c.upto) ∙ ap (front_until end) both ∙ front-over end fronts backs upto ∙ ap (λ l. fronts ++ l) none ∙ append-nil fronts in
      let again : fronts ++ rest ≡ fronts ++ backs = ap (λ l. l ++ rest) (sym taken) ∙ append_assoc read front rest ∙ ap (λ l. read ++ l) (front-and-rest end left) ∙ both in (
        a.front,
        a.front_is,
        taken,
        record {
          stands = h.next;
          ends_at = h.to;
          atoms = a.back;
          are = append_cancel_left fronts rest backs again;
          seats_are = back_is;
          lines = every-back InOneLine a.front a.back (subst (AllByRecursion InOneLine) a.are c.lines);
          upto = tt;
        },
      )

  -- directly behind a chunk the next one takes its part too
  pub comes-directly : (k d : ℕ) (ks : List ℕ) (read left : List Event) (pre : List Seat) (s : Seat) (ss behind : List Seat) → fits (Some TextContent) events k ≡ true → next_of events k ≡ Some d
      → d ≡ k + 2 → place_at events d ≡ place_at events (k + 1) → Comes k (d ∷ ks) read left pre s ss behind → (chunk : HasChunk g some events (k + 2) d (pre ++ (s ∷ ss)) behind)
      → let front = front_until (place_at events (k + 1)) left in
      Comes d ks (read ++ front) (drop (length front) left) pre s (ss ++ chunk.first ∷ chunk.others) chunk.behind
  comes-directly k d ks read left pre s ss behind fit next at here h chunk =
      let end = place_at events (k + 1) in
      let front = front_until end left in
      let rest = drop (length front) left in
      let fit_next = fits_next g.tab g.bytes (Some TextContent) events ready k d fit next in
      let t = chunk.first ∷ chunk.others in
      let none = no-gap g some events k d (pre ++ (s ∷ ss)) behind at chunk in
      let same : ((pre ++ (s ∷ ss)) ++ chunk.before) ++ t ≡ pre ++ (s ∷ (ss ++ t)) =
      (λ x. ((pre ++ (s ∷ ss)) ++ none x) ++ t) ∙ ap (λ b. b ++ t) (append-nil (pre ++ (s ∷ ss))) ∙ append_assoc pre (s ∷ ss) t in
      let q = place_at events (d + 1) in
      let forward : stands_before q end ≡ false = subst (λ p. stands_before q p ≡ false) here (ready.readable d fit_next).forward in
      let later = λ (e : Event) (u : Upto end e). later-later q.index q.vs end.index end.vs e.point.index e.point.vs forward u in record {
        stands = subst (λ l. Stands g some events (d + 2) l chunk.behind) same chunk.next;
        ends_at = chunk.to ∙ ap (place_behind g some events) same;
        atoms = h.atoms;
        are = append_assoc read front rest ∙ ap (λ l. read ++ l) (front-and-rest end left) ∙ h.are;
        seats_are = h.seats_are ∙ ap (λ l. (s ∷ ss) ++ (l ++ flat_map (chunk_seats g events) ks)) chunk.text ∙ sym (append_assoc (s ∷ ss) t (flat_map (chunk_seats g events) ks));
        lines = h.lines;
        upto = every-map (Upto end) (Upto q) later (read ++ front) (every-append (Upto end) read front h.upto (front-upto end left));
      }

  -- from a chunk on, the parts of the child account for what the chunks and the events between them do, if so does what is behind the chain
  through : (k : ℕ) (ks more : List ℕ) (ws : List Change) (read left : List Event) (pre : List Seat) (s : Seat) (ss behind : List Seat) → fits (Some TextContent) events k ≡ true
      → LeadOnFrom events k ks → AreSpaced (k + 2) (ks ++ more) (length events)
      → ((m : ℕ) → AreSpaced m more (length events) → (pre rest : List Seat) → Stands g some events m pre rest → AccountFor (after_changes events ws m) g.bytes rest)
      → Comes k ks read left pre s ss behind → Good s (read ++ from_chunk events k ks left ws) ((s ∷ ss) ++ behind)
  through k [] more ws read left pre s ss behind fit lead spaced good h =
      over-atoms h.atoms s ss behind read left (after_changes events ws (k + 2)) h.are (h.seats_are ∙ append-nil (s ∷ ss)) (good (k + 2) spaced (pre ++ (s ∷ ss)) behind h.stands)
  through k (d ∷ ks) more ws read left pre s ss behind fit lead spaced good h =
      let end = place_at events (k + 1) in
      let front = front_until end left in
      let rest = drop (length front) left in
      let then = from_chunk events d ks rest ws in
      let gap = between (k + 2) d events in
      let fit_next = fits_next g.tab g.bytes (Some TextContent) events ready k d fit lead.0 in
      let chunk = has-chunk g some events ready (k + 2) d (pre ++ (s ∷ ss)) behind fit_next spaced.0 h.stands in
      let t = chunk.first ∷ chunk.others in
      elim (pairs k d lead.0) [
        | inl directly ↦
            let empty : gap ≡ [] = between-none events (k + 2) d directly.0 in
            let none = no-gap g some events k d (pre ++ (s ∷ ss)) behind directly.0 chunk in
            let more_good = through d ks more ws (read ++ front) rest pre s (ss ++ t) chunk.behind fit_next lead.2 spaced.1 good
            (comes-directly k d ks read left pre s ss behind fit lead.0 directly.0 directly.1 h chunk) in
            let list : (read ++ front) ++ then ≡ read ++ (front ++ (gap ++ then)) = append_assoc read front then ∙ ap (λ l. read ++ (front ++ (l ++ then))) (sym empty) in
            let bytes_are = append_assoc (s ∷ ss) t chunk.behind ∙ ap (λ l. (s ∷ ss) ++ l) (sym (chunk.are ∙ ap (λ b. b ++ (t ++ chunk.behind)) none)) in
            subst (λ es. Good s es ((s ∷ ss) ++ behind)) list (subst (Good s ((read ++ front) ++ then)) bytes_are more_good)
        | inr marked ↦
            let cut = cut-at-mark k d ks read left pre s ss behind marked.0 marked.1 marked.2 h chunk in
            let more_good = through d ks more ws [] rest ((pre ++ (s ∷ ss)) ++ chunk.before) chunk.first chunk.others chunk.behind fit_next lead.2 spaced.1 good cut.3 in
            over-atoms cut.0 s ss behind read front (gap ++ then) cut.2 cut.1
            (subst (AccountFor (gap ++ then) g.bytes) (sym chunk.are) (both-account g.bytes gap then chunk.before (t ++ chunk.behind) chunk.gap more_good.0 more_good.1))
      ]

  module _ (of_chain : ℕ → List Event) (cuts : (c : ℕ) → IsCut g.bytes (of_chain c) (chain_text g events c).seats) where
    -- chain by chain
    all-chains : (cs : List ℕ) (i : ℕ) → AllByRecursion (λ c. fits (Some TextContent) events c ≡ true) cs → AllByRecursion (IsWholeFrom events) cs
        → AreSpaced i (flat_map (chain_of events) cs) (length events) → (pre rest : List Seat)
        → Stands g some events i pre rest → AccountFor (after_changes events (flat_map chain_changes (divided_over events cs (map of_chain cs))) i) g.bytes rest
    all-chains [] i fit whole spaced pre rest stands = subst (λ es. AccountFor es g.bytes rest) (sym (untagged-olds i (drop i events))) stands.account
    all-chains (c ∷ cs) i fit whole spaced pre rest stands =
        let ks = whole.0.0 in
        let is : chain_of events c ≡ c ∷ ks = whole.0.1 in
        let more = flat_map (chain_of events) cs in
        let child = of_chain c in
        let ws : List Change = flat_map chain_changes (divided_over events cs (map of_chain cs)) in
        let changes : List ℕ → List Change = λ ys. chain_changes (record { chunks = ys; parts = parts (map (λ k. place_at events (k + 1)) ys) child }) in
        let apart : AreSpaced i (c ∷ (ks ++ more)) (length events) = subst (λ (ys : List ℕ). AreSpaced i (ys ++ more) (length events)) is spaced in
        let cut = subst (IsCut g.bytes child) (ap (λ l. (text_of_chain g events l).seats) is ∙ chain-seats g events c ks) (cuts c) in
        let chunk = has-chunk g some events ready i c pre rest fit.0 apart.0 stands in
        let further = λ (m : ℕ) (spaced : AreSpaced m more (length events)) (p r : List Seat) (there : Stands g some events m p r). all-chains cs m fit.1 whole.1 spaced p r there in
        let good = through c ks more ws [] child (pre ++ chunk.before) chunk.first chunk.others chunk.behind fit.0 whole.0.2 apart.1 further (record {
          stands = chunk.next;
          ends_at = chunk.to;
          atoms = cut.atoms;
          are = cut.are;
          seats_are = sym cut.all ∙ ap (λ l. l ++ flat_map (chunk_seats g events) ks) chunk.text;
          lines = cut.lines;
          upto = tt;
        }) in
        let all = both-account g.bytes (between i c events) (from_chunk events c ks child ws) chunk.before ((chunk.first ∷ chunk.others) ++ chunk.behind) chunk.gap good.0 good.1 in
        subst (λ ys. AccountFor (after_changes events (changes ys ++ ws) i) g.bytes rest) (sym is)
        (subst (λ es. AccountFor es g.bytes rest) (sym (up-to-chunk events c 0 i c ks more child ws apart)) (subst (AccountFor (between i c events ++ from_chunk events c ks child ws) g.bytes) (sym chunk.are) all))

    pub with-read-accounts : AccountFor events g.bytes (virtual g.tab g.bytes) → AccountFor (with_read g events of_chain) g.bytes (virtual g.tab g.bytes)
    with-read-accounts h =
        let wanted = Some TextContent in
        let n = length events in
        let starts = fitting_starts wanted events in
        let f = follow_one_another g.tab g.bytes wanted events ready in
        let ws : List Change = child_changes wanted events (map of_chain starts) in
        let z : n ≡ 0 + n = omega arith in
        let apart : AreApart 0 ws (0 + n) = subst (AreApart 0 ws) z (changes_are_apart g.tab g.bytes wanted events (map of_chain starts) ready).apart in
        let spaced : AreSpaced 0 (flat_map (chain_of events) starts) n = subst (λ (ks : List ℕ). AreSpaced 0 ks n) (sym f.in_order) f.spaced in
        let all = all-chains starts 0 (starts_fit g.tab g.bytes wanted events ready (range_with_len 0 n)) f.whole spaced [] (virtual g.tab g.bytes) (record { whole = refl; account = h }) in
        let ts = woven ws 0 events in
        record {
          stretches = all.stretches;
          are_all = all.are_all;
          are_innermost = spans-placed ts ts ∙ ap (λ (us : List Tagged). innermost_spans (untagged us)) (woven-pass ws 0 events apart) ∙ all.are_innermost;
        }
