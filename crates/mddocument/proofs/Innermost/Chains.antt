-- A list that accounts for a document does so with the children of its chains, if each child accounts for its text, in order, and each of its
-- innermost spans is in one line.
--
-- Between two chunks of a chain is nothing, or text from the beginning of a line on. So a child is cut there behind a line ending, and no
-- innermost span comes between its parts.
use Rattle.mddocument.proofs.Prelude.{◌≡◌, ℕ, ◌+◌, ◌<◌, true, false, inl, inr, List, [], ◌∷◌, ◌++◌, Option, Some, append_assoc, append-nil, length, map, drop, refl, sym, ap, ◌∙◌, subst, arith, AllByRecursion, between, flat_map, range_with_len, every-append, every-back, every-front, every-map, end-after-append, map-append, stands-self, Content, Event, Point, IsBalanced, shown, stands_before, Seat, end_after, virtual, next_of, Change, Tagged, AreApart, woven, woven-pass, after_changes, untagged, untagged-olds, between-none, chain_of, fits, fitting_starts, chain_changes, child_changes, with_children, divided_over, parts, text_of_chain, IsReady, place_at, Given, IsChain, chain-split, AccountFor, innermost_spans, span_over, stretch_bytes, chain-seats, chunk_seats, chain-from, origin, place-shown, chain_text}
use Rattle.std.specs.Prelude.{AllPairs}
use Rattle.markdown_base.proofs.Orders.{upto-upto}
use Rattle.markdown_children.proofs.ChainOrder.Following.{fits_next, follow_one_another, starts_fit}
use Rattle.markdown_children.proofs.ChainOrder.Spaced.{changes_are_apart}
use Rattle.markdown_children.specs.LawStatements.{AreSpaced, IsWholeFrom, LeadOnFrom}
use Rattle.markdown_children.specs.NextContent.{HasTextInGaps}
use Rattle.markdown_children.specs.Parts.{front_until}
use Rattle.markdown_tokenizer.proofs.Positions.Standing.{chain-upto}
use Rattle.mdinline_text_machine.proofs.Autolinks.Places.{EndsInLine, chain-in-line}
use Rattle.mdinline_text_machine.proofs.DeepSpans.Atoms.{none-account}
use Rattle.mdinline_text_machine.proofs.DeepSpans.Chains.{front-and-rest, front-at, front-upto, spans-placed}
use Rattle.mdinline_text_machine.proofs.DeepSpans.Chunks.{HasChunk, Stands, from_chunk, has-chunk, no-gap, place_behind, up-to-chunk}
use Rattle.mdinline_text_machine.proofs.DeepSpans.Places.{Upto as IsUpto, ends-line}
use Rattle.mddocument.proofs.Emphasis.Pairs.{Opens, Shut, shut-account}
use Rattle.mddocument.proofs.Emphasis.Runs.{balanced-opens, balanced-shut, opens-behind}
use Rattle.mddocument.proofs.InContainers.Order.{steady-pairs}
use Rattle.mddocument.proofs.Innermost.Cuts.{Ascends, EndsUpto, StartBehind, ascends-back, cut-stretches, cut-there, opened-account, rest-behind, shut-back}
use Rattle.mddocument.proofs.Innermost.Lined.{InLine, LinedFor}

-- What a text is read as: it accounts for the text line by line, and is balanced and in order
pub record IsReadWell (bytes : List ℕ) (es : List Event) (seats : List Seat) : Type 0 where
  pub lined : LinedFor es bytes seats
  pub balanced : IsBalanced es
  pub in_order : AllPairs (λ (e f : Event). stands_before f.point e.point ≡ false) es

-- stretches of virtual bytes end up to the end of these
stretches-upto : (t : ℕ) (bytes : List ℕ) (end p : Point) (stretches : List (Seat × List Seat)) (rest : List Seat) → IsChain t bytes p (flat_map stretch_bytes stretches ++ rest) → end_after p (flat_map stretch_bytes stretches) ≡ end
    → AllByRecursion (EndsUpto end) (map (span_over bytes) stretches)
stretches-upto t bytes end p [] rest c is = tt
stretches-upto t bytes end p (a ∷ others) rest c is =
    let here = stretch_bytes a in
    let seats = flat_map stretch_bytes others in
    let q = end_after a.0.end a.1 in
    let whole : IsChain t bytes p (here ++ (seats ++ rest)) = subst (IsChain t bytes p) (append_assoc here seats rest) c in
    let later : IsChain t bytes q (seats ++ rest) = chain-split t bytes p here (seats ++ rest) whole in
    let is_later : end_after q seats ≡ end = sym (end-after-append p here seats) ∙ is in
    let exit : stands_before end (shown bytes q) ≡ false = (λ i. stands_before (sym is_later i) (place-shown t bytes p here (seats ++ rest) whole i)) ∙ chain-upto t bytes q seats rest later in
    (exit, stretches-upto t bytes end q others rest later is_later)

-- the first of stretches begins at the first of their virtual bytes
pub stretches-start : (bytes : List ℕ) (end : Point) (stretches : List (Seat × List Seat)) (s : Seat) (ss : List Seat) → flat_map stretch_bytes stretches ≡ s ∷ ss → stands_before end (shown bytes s.point) ≡ true → StartBehind end (map (span_over bytes) stretches)
stretches-start bytes end [] s ss is h = tt
stretches-start bytes end (a ∷ others) s ss is h = let same : a.0 ≡ s = cc in subst (λ (r : Seat). stands_before end (shown bytes r.point) ≡ true) (sym same) h

pub not-same : (p q : Point) → p ≡ q → stands_before p q ≡ true → ⊥
not-same p q same h = let no : true ≡ false = sym h ∙ ap (λ r. stands_before r q) same ∙ stands-self q in cc

-- where text comes before the next chunk, events are between
pub some-gap : (g : Given) (some : 0 < g.tab) (events : List Event) (k d : ℕ) (seats behind : List Seat) → place_at events (k + 1) ≡ place_behind g some events seats → stands_before (place_at events (k + 1)) (place_at events d) ≡ true
    → HasChunk g some events (k + 2) d seats behind → between (k + 2) d events ≡ [] → ⊥
some-gap g some events k d seats behind ends before h none =
    let nothing : h.before ≡ [] = none-account g.bytes h.before (subst (λ l. AccountFor l g.bytes h.before) none h.gap) in
    let same : place_at events (k + 1) ≡ place_at events d = ends ∙ ap (place_behind g some events) (sym (append-nil seats) ∙ ap (λ l. seats ++ l) (sym nothing)) ∙ sym h.from in
    not-same (place_at events (k + 1)) (place_at events d) same before

module _ (g : Given) (some : 0 < g.tab) (wanted : Option Content) (events : List Event) (ready : IsReady g.tab g.bytes wanted events) (gaps : HasTextInGaps wanted events) where
  -- the parts of a child's events from a chunk on, and what is behind them, begin with an enter, if the child does
  opens-through : (k : ℕ) (ks : List ℕ) (e : Event) (es : List Event) (ws : List Change) → fits wanted events k ≡ true → LeadOnFrom events k ks → Opens (e ∷ es) → Opens (from_chunk events k ks (e ∷ es) ws)
  opens-through k [] e es ws fit lead h = h
  opens-through k (d ∷ ks) e es ws fit lead h =
      let end = place_at events (k + 1) in
      let gap = between (k + 2) d events in
      let fit_next = fits_next g.tab g.bytes wanted events ready k d fit lead.0 in
      elim (stands_before end e.point) as (λ b. stands_before end e.point ≡ b → Opens (from_chunk events k (d ∷ ks) (e ∷ es) ws)) [
        | true ↦ λ is.
            subst (λ (front : List Event). Opens (front ++ (gap ++ from_chunk events d ks (drop (length front) (e ∷ es)) ws))) (sym (front-at end true e es is))
            (opens-behind gap (from_chunk events d ks (e ∷ es) ws) (ready.gaps k d fit lead.0).balanced (inr (opens-through d ks e es ws fit_next lead.2 h)))
        | false ↦ λ is. subst (λ (front : List Event). Opens (front ++ (gap ++ from_chunk events d ks (drop (length front) (e ∷ es)) ws))) (sym (front-at end false e es is)) h
      ] refl

  -- What is known of a child before a chunk takes its part: the virtual bytes of the chunk and of the chunks directly before it, the events
  -- that these chunks took, and that with those that are left they account for these virtual bytes and those of the chunks behind
  record Comes (k : ℕ) (ks : List ℕ) (read left : List Event) (pre : List Seat) (s : Seat) (ss behind : List Seat) : Type 0 where
    pub stands : Stands g some events (k + 2) (pre ++ (s ∷ ss)) behind
    pub ends_at : place_at events (k + 1) ≡ place_behind g some events (pre ++ (s ∷ ss))
    pub lined : LinedFor (read ++ left) g.bytes ((s ∷ ss) ++ flat_map (chunk_seats g events) ks)
    pub ascends : Ascends (read ++ left)
    pub shut : Shut (read ++ left)
    pub upto : AllByRecursion (IsUpto (place_at events (k + 1))) read

  -- Where text comes before the next chunk, a child is cut
  record IsCutThere (k d : ℕ) (ks : List ℕ) (read left : List Event) (pre : List Seat) (s : Seat) (ss behind : List Seat) (h : HasChunk g some events (k + 2) d (pre ++ (s ∷ ss)) behind) : Type 0 where
    pub front : AccountFor (read ++ front_until (place_at events (k + 1)) left) g.bytes (s ∷ ss)
    pub next : Comes d ks [] (drop (length (front_until (place_at events (k + 1)) left)) left) ((pre ++ (s ∷ ss)) ++ h.before) h.first h.others h.behind

  cut-at-gap : (k d : ℕ) (ks : List ℕ) (read left : List Event) (pre : List Seat) (s : Seat) (ss behind : List Seat) → fits wanted events k ≡ true → next_of events k ≡ Some d
      → stands_before (place_at events (k + 1)) (place_at events d) ≡ true → Comes k (d ∷ ks) read left pre s ss behind → (h : HasChunk g some events (k + 2) d (pre ++ (s ∷ ss)) behind)
      → IsCutThere k d ks read left pre s ss behind h
  cut-at-gap k d ks read left pre s ss behind fit next before c h =
      let end = place_at events (k + 1) in
      let p = place_behind g some events pre in
      let gap = between (k + 2) d events in
      let front = front_until end left in
      let rest = drop (length front) left in
      let chain : IsChain g.tab g.bytes p ((s ∷ ss) ++ behind) = chain-from g.tab g.bytes some pre ((s ∷ ss) ++ behind) (c.stands.whole ∙ append_assoc pre (s ∷ ss) behind) in
      let end_is : end ≡ end_after s.end ss = c.ends_at ∙ end-after-append (origin g.tab g.bytes some) pre (s ∷ ss) in
      let column : end.column ≡ 1 = elim (ready.gaps k d fit next).in_line [
        | inl same ↦ absurd (not-same end (place_at events d) same before)
        | inr there ↦ there.0
      ] in
      let in_line = every-front EndsInLine (s ∷ ss) behind (chain-in-line g.tab g.bytes p ((s ∷ ss) ++ behind) chain) in
      let line = ends-line s ss in_line (ap (λ (q : Point). q.column) (sym end_is) ∙ column) in
      let others = flat_map (chunk_seats g events) (d ∷ ks) in
      let more : others ≡ h.first ∷ (h.others ++ flat_map (chunk_seats g events) ks) = ap (λ l. l ++ flat_map (chunk_seats g events) ks) h.text in
      let a = cut-stretches s [] c.lined.account.stretches (s ∷ ss) others tt c.lined.lines line c.lined.account.are_all in
      let both : innermost_spans ((read ++ front) ++ rest) ≡ map (span_over g.bytes) a.front ++ map (span_over g.bytes) a.back =
      ap innermost_spans (append_assoc read front rest ∙ ap (λ l. read ++ l) (front-and-rest end left)) ∙ c.lined.account.are_innermost ∙ ap (map (span_over g.bytes)) a.are ∙ map-append (span_over g.bytes) a.front a.back in
      let front_chain = subst (λ l. IsChain g.tab g.bytes p (l ++ behind)) (sym a.front_is) chain in
      let ups = stretches-upto g.tab g.bytes end p a.front behind front_chain (ap (end_after p) a.front_is ∙ sym end_is) in
      let late = stretches-start g.bytes end a.back h.first (h.others ++ flat_map (chunk_seats g events) ks) (a.back_is ∙ more) (ap (stands_before end) h.first_shown ∙ before) in
      let steady = ascends-back read left c.ascends in
      let there = cut-there end (read ++ front) rest (map (span_over g.bytes) a.front) (map (span_over g.bytes) a.back) (every-append (IsUpto end) read front c.upto (front-upto end left)) (rest-behind end steady.0 left steady.1) ups late both in
      let lines = subst (AllByRecursion InLine) a.are c.lined.lines in
      record {
        front = record { stretches = a.front; are_all = a.front_is; are_innermost = there.0 };
        next = record {
          stands = h.next;
          ends_at = h.to;
          lined = record { account = record { stretches = a.back; are_all = a.back_is ∙ more; are_innermost = there.1 }; lines = every-back InLine a.front a.back lines };
          ascends = ascends-back front rest (subst Ascends (sym (front-and-rest end left)) steady);
          shut = shut-back front rest (subst Shut (sym (front-and-rest end left)) (shut-back read left c.shut));
          upto = tt;
        };
      }

  -- directly behind a chunk the next one takes its part too
  comes-directly : (k d : ℕ) (ks : List ℕ) (read left : List Event) (pre : List Seat) (s : Seat) (ss behind : List Seat) → fits wanted events k ≡ true → next_of events k ≡ Some d
      → d ≡ k + 2 → Comes k (d ∷ ks) read left pre s ss behind → (h : HasChunk g some events (k + 2) d (pre ++ (s ∷ ss)) behind)
      → let front = front_until (place_at events (k + 1)) left in
      Comes d ks (read ++ front) (drop (length front) left) pre s (ss ++ h.first ∷ h.others) h.behind
  comes-directly k d ks read left pre s ss behind fit next at c h =
      let end = place_at events (k + 1) in
      let front = front_until end left in
      let rest = drop (length front) left in
      let fit_next = fits_next g.tab g.bytes wanted events ready k d fit next in
      let t = h.first ∷ h.others in
      let none = no-gap g some events k d (pre ++ (s ∷ ss)) behind at h in
      let same : ((pre ++ (s ∷ ss)) ++ h.before) ++ t ≡ pre ++ (s ∷ (ss ++ t)) =
      (λ x. ((pre ++ (s ∷ ss)) ++ none x) ++ t) ∙ ap (λ b. b ++ t) (append-nil (pre ++ (s ∷ ss))) ∙ append_assoc pre (s ∷ ss) t in
      let q = place_at events (d + 1) in
      let forward = upto-upto end (place_at events d) q (ready.gaps k d fit next).forward (ready.readable d fit_next).forward in
      let all : (read ++ front) ++ rest ≡ read ++ left = append_assoc read front rest ∙ ap (λ l. read ++ l) (front-and-rest end left) in
      let seats : (s ∷ ss) ++ flat_map (chunk_seats g events) (d ∷ ks) ≡ (s ∷ (ss ++ t)) ++ flat_map (chunk_seats g events) ks =
      ap (λ l. (s ∷ ss) ++ (l ++ flat_map (chunk_seats g events) ks)) h.text ∙ sym (append_assoc (s ∷ ss) t (flat_map (chunk_seats g events) ks)) in
      record {
        stands = subst (λ l. Stands g some events (d + 2) l h.behind) same h.next;
        ends_at = h.to ∙ ap (place_behind g some events) same;
        lined = subst (LinedFor ((read ++ front) ++ rest) g.bytes) seats (subst (λ es. LinedFor es g.bytes ((s ∷ ss) ++ flat_map (chunk_seats g events) (d ∷ ks))) (sym all) c.lined);
        ascends = subst Ascends (sym all) c.ascends;
        shut = subst Shut (sym all) c.shut;
        upto = every-map (IsUpto end) (IsUpto q) (λ (e : Event) u. upto-upto e.point end q u forward) (read ++ front) (every-append (IsUpto end) read front c.upto (front-upto end left));
      }

  -- from a chunk on, the parts of the child account for what the chunks and the events between them do, if so does what is behind the chain
  through : (k : ℕ) (ks more : List ℕ) (ws : List Change) (read left : List Event) (pre : List Seat) (s : Seat) (ss behind : List Seat) → fits wanted events k ≡ true
      → LeadOnFrom events k ks → AreSpaced (k + 2) (ks ++ more) (length events)
      → ((m : ℕ) → AreSpaced m more (length events) → (pre rest : List Seat) → Stands g some events m pre rest → AccountFor (after_changes events ws m) g.bytes rest)
      → Comes k ks read left pre s ss behind → AccountFor (read ++ from_chunk events k ks left ws) g.bytes ((s ∷ ss) ++ behind)
  through k [] more ws read left pre s ss behind fit lead spaced good c =
      let here = subst (AccountFor (read ++ left) g.bytes) (append-nil (s ∷ ss)) c.lined.account in
      subst (λ es. AccountFor es g.bytes ((s ∷ ss) ++ behind)) (append_assoc read left (after_changes events ws (k + 2)))
      (shut-account g.bytes (read ++ left) (after_changes events ws (k + 2)) (s ∷ ss) behind c.shut here (good (k + 2) spaced (pre ++ (s ∷ ss)) behind c.stands))
  through k (d ∷ ks) more ws read left pre s ss behind fit lead spaced good c =
      let end = place_at events (k + 1) in
      let front = front_until end left in
      let rest = drop (length front) left in
      let then = from_chunk events d ks rest ws in
      let gap = between (k + 2) d events in
      let fit_next = fits_next g.tab g.bytes wanted events ready k d fit lead.0 in
      let h = has-chunk g some events ready (k + 2) d (pre ++ (s ∷ ss)) behind fit_next spaced.0 c.stands in
      let t = h.first ∷ h.others in
      elim (gaps k d fit lead.0) [
        | inl directly ↦
            let empty : gap ≡ [] = between-none events (k + 2) d directly in
            let none = no-gap g some events k d (pre ++ (s ∷ ss)) behind directly h in
            let more_good = through d ks more ws (read ++ front) rest pre s (ss ++ t) h.behind fit_next lead.2 spaced.1 good (comes-directly k d ks read left pre s ss behind fit lead.0 directly c h) in
            let list : (read ++ front) ++ then ≡ read ++ (front ++ (gap ++ then)) = append_assoc read front then ∙ ap (λ l. read ++ (front ++ (l ++ then))) (sym empty) in
            let bytes_are = append_assoc (s ∷ ss) t h.behind ∙ ap (λ l. (s ∷ ss) ++ l) (sym (h.are ∙ ap (λ b. b ++ (t ++ h.behind)) none)) in
            subst (λ es. AccountFor es g.bytes ((s ∷ ss) ++ behind)) list (subst (AccountFor ((read ++ front) ++ then) g.bytes) bytes_are more_good)
        | inr before ↦
            let cut = cut-at-gap k d ks read left pre s ss behind fit lead.0 before c h in
            let balanced = (ready.gaps k d fit lead.0).balanced in
            let more_good = through d ks more ws [] rest ((pre ++ (s ∷ ss)) ++ h.before) h.first h.others h.behind fit_next lead.2 spaced.1 good cut.next in
            let gapped = shut-account g.bytes gap then h.before (t ++ h.behind) (balanced-shut balanced) h.gap more_good in
            let whole = opened-account g.bytes (read ++ front) (gap ++ then) (s ∷ ss) (h.before ++ (t ++ h.behind)) (opens-behind gap then balanced (inl (some-gap g some events k d (pre ++ (s ∷ ss)) behind c.ends_at before h))) cut.front gapped in
            subst (λ es. AccountFor es g.bytes ((s ∷ ss) ++ behind)) (append_assoc read front (gap ++ then)) (subst (λ l. AccountFor ((read ++ front) ++ (gap ++ then)) g.bytes ((s ∷ ss) ++ l)) (sym h.are) whole)
      ]

  -- ---- chain by chain
  module _ (of_chain : ℕ → List Event) where
    -- what a chain is read as
    abbrev pub ReadsChain : ℕ → Type 0
    ReadsChain c = IsReadWell g.bytes (of_chain c) (chain_text g events c).seats

    -- the parts of a chain's child, from its first chunk on, account for virtual bytes, and begin with an enter
    one-chain : (c : ℕ) (ks more : List ℕ) (ws : List Change) (pre : List Seat) (s : Seat) (ss behind : List Seat) → (child : List Event) → IsReadWell g.bytes child ((s ∷ ss) ++ flat_map (chunk_seats g events) ks)
        → fits wanted events c ≡ true → LeadOnFrom events c ks → AreSpaced (c + 2) (ks ++ more) (length events)
        → ((m : ℕ) → AreSpaced m more (length events) → (pre rest : List Seat) → Stands g some events m pre rest → AccountFor (after_changes events ws m) g.bytes rest)
        → Stands g some events (c + 2) (pre ++ (s ∷ ss)) behind → place_at events (c + 1) ≡ place_behind g some events (pre ++ (s ∷ ss))
        → AccountFor (from_chunk events c ks child ws) g.bytes ((s ∷ ss) ++ behind) × Opens (from_chunk events c ks child ws)
    one-chain c ks more ws pre s ss behind [] read fit lead spaced good stands ends =
        absurd (let none : s ∷ (ss ++ flat_map (chunk_seats g events) ks) ≡ [] = none-account g.bytes ((s ∷ ss) ++ flat_map (chunk_seats g events) ks) read.lined.account in cc)
    one-chain c ks more ws pre s ss behind (e ∷ es) read fit lead spaced good stands ends = (
      through c ks more ws [] (e ∷ es) pre s ss behind fit lead spaced good (record {
        stands = stands;
        ends_at = ends;
        lined = read.lined;
        ascends = (e.point, (stands-self e.point, tt, steady-pairs (λ p. Unit {0}) e es read.in_order (anywhere es)));
        shut = balanced-shut read.balanced;
        upto = tt;
      }),
      opens-through c ks e es ws fit lead (balanced-opens read.balanced),
    )
      where
        anywhere : (es : List Event) → AllByRecursion (λ (e : Event). Unit {0}) es
        anywhere [] = tt
        anywhere (e ∷ es) = (tt, anywhere es)

    all-chains : (cs : List ℕ) (i : ℕ) → AllByRecursion (λ c. fits wanted events c ≡ true) cs → AllByRecursion (IsWholeFrom events) cs → AllByRecursion ReadsChain cs
        → AreSpaced i (flat_map (chain_of events) cs) (length events) → (pre rest : List Seat)
        → Stands g some events i pre rest → AccountFor (after_changes events (flat_map chain_changes (divided_over events cs (map of_chain cs))) i) g.bytes rest
    all-chains [] i fit whole reads spaced pre rest stands = subst (λ es. AccountFor es g.bytes rest) (sym (untagged-olds i (drop i events))) stands.account
    all-chains (c ∷ cs) i fit whole reads spaced pre rest stands =
        let ks = whole.0.0 in
        let is : chain_of events c ≡ c ∷ ks = whole.0.1 in
        let more = flat_map (chain_of events) cs in
        let child = of_chain c in
        let ws : List Change = flat_map chain_changes (divided_over events cs (map of_chain cs)) in
        let changes : List ℕ → List Change = λ ys. chain_changes (record { chunks = ys; parts = parts (map (λ k. place_at events (k + 1)) ys) child }) in
        let apart : AreSpaced i (c ∷ (ks ++ more)) (length events) = subst (λ (ys : List ℕ). AreSpaced i (ys ++ more) (length events)) is spaced in
        let h = has-chunk g some events ready i c pre rest fit.0 apart.0 stands in
        let seats : (chain_text g events c).seats ≡ (h.first ∷ h.others) ++ flat_map (chunk_seats g events) ks =
        ap (λ l. (text_of_chain g events l).seats) is ∙ chain-seats g events c ks ∙ ap (λ l. l ++ flat_map (chunk_seats g events) ks) h.text in
        let further = λ (m : ℕ) (spaced : AreSpaced m more (length events)) (p r : List Seat) (there : Stands g some events m p r). all-chains cs m fit.1 whole.1 reads.1 spaced p r there in
        let good = one-chain c ks more ws (pre ++ h.before) h.first h.others h.behind child (subst (IsReadWell g.bytes child) seats reads.0) fit.0 whole.0.2 apart.1 further h.next h.to in
        let all = opened-account g.bytes (between i c events) (from_chunk events c ks child ws) h.before ((h.first ∷ h.others) ++ h.behind) good.1 h.gap good.0 in
        subst (λ ys. AccountFor (after_changes events (changes ys ++ ws) i) g.bytes rest) (sym is)
        (subst (λ es. AccountFor es g.bytes rest) (sym (up-to-chunk events c 0 i c ks more child ws apart)) (subst (AccountFor (between i c events ++ from_chunk events c ks child ws) g.bytes) (sym h.are) all))

    -- The list with the children of its chains accounts for the document
    pub children-account : AllByRecursion ReadsChain (fitting_starts wanted events) → AccountFor events g.bytes (virtual g.tab g.bytes)
        → AccountFor (with_children wanted events (map of_chain (fitting_starts wanted events))) g.bytes (virtual g.tab g.bytes)
    children-account reads h =
        let n = length events in
        let starts = fitting_starts wanted events in
        let f = follow_one_another g.tab g.bytes wanted events ready in
        let ws : List Change = child_changes wanted events (map of_chain starts) in
        let z : n ≡ 0 + n = omega arith in
        let apart : AreApart 0 ws (0 + n) = subst (AreApart 0 ws) z (changes_are_apart g.tab g.bytes wanted events (map of_chain starts) ready).apart in
        let spaced : AreSpaced 0 (flat_map (chain_of events) starts) n = subst (λ (ks : List ℕ). AreSpaced 0 ks n) (sym f.in_order) f.spaced in
        let all = all-chains starts 0 (starts_fit g.tab g.bytes wanted events ready (range_with_len 0 n)) f.whole reads spaced [] (virtual g.tab g.bytes) (record { whole = refl; account = h }) in
        let ts = woven ws 0 events in
        record {
          stretches = all.stretches;
          are_all = all.are_all;
          are_innermost = spans-placed ts ts ∙ ap (λ (us : List Tagged). innermost_spans (untagged us)) (woven-pass ws 0 events apart) ∙ all.are_innermost;
        }
