-- How blocks are read along a line: where reading stands, what it goes on from, and how what is read in parts is read as a whole.
use Rattle.mdblock_leaf_blocks.proofs.Prelude.{Bool, List, Some, [], ap, append-nil, append_assoc, arith, cond, drop, false, le-ltb, length, length-append, lt-ltb, refl, subst, suc, sym, true, ℕ, ◌++◌, ◌+◌, ◌∙◌, ◌∷◌, ◌≡◌, slice_get_within, drop-next, Seat, end_after, Point, Name, State, Next, Retry, fed-ends, Configuration, Local, EndsIn, fed, end_or, end_place, seat_before, Given, Text, Byte, End, flow, IsReadAs, KeepsEdits, Mark, at-front, past-end, waits_at, table_step}
use Rattle.mdblock_leaf_blocks.proofs.Marks.MarkLists.{marked-on}

-- Where reading stands: the place behind the byte before, and what is left, whose first byte waits, or the end
pub record IsAt (t : Text) (k : Configuration Unit Unit) (p : Point) (rest : List Seat) : Type 0 where
  pub behind : end_place t k.position ≡ p
  pub left : drop k.position t.seats ≡ rest
  pub waits : k.waiting ≡ waits_at rest

-- ---- places along virtual bytes
-- the place behind virtual bytes, and what is left there
pub record IsBehind (t : Text) (position : ℕ) (p : Point) (rest : List Seat) : Type 0 where
  pub place : end_place t position ≡ p
  pub left : drop position t.seats ≡ rest

pub behind-byte : (t : Text) (q : ℕ) (s : Seat) (rest : List Seat) → drop q t.seats ≡ s ∷ rest → IsBehind t (q + 1) s.end rest
behind-byte t q s rest at =
    let one : suc q ≡ q + 1 = omega arith in
    let seat : seat_before t (q + 1) ≡ Some s = ap (seat_before t) (sym one) ∙ at-front t.seats q s rest at in
    record { place = ap (end_or t.start) seat; left = drop-next t.seats q s rest at }

pub behind-line : (t : Text) (line rest : List Seat) (q : ℕ) (p : Point) → IsBehind t q p (line ++ rest) → IsBehind t (q + length line) (end_after p line) rest
behind-line t [] rest q p at = let none : q + 0 ≡ q = omega arith in subst (λ n. IsBehind t n p rest) (sym none) at
behind-line t (s ∷ ss) rest q p at =
    let more : (q + 1) + length ss ≡ q + suc (length ss) = omega arith in
    subst (λ n. IsBehind t n (end_after s.end ss) rest) more (behind-line t ss rest (q + 1) s.end (behind-byte t q s (ss ++ rest) at.left))

-- ---- what is fed
module _ (t : Text) (k : Configuration Unit Unit) where
  abbrev fed_if : Bool → Configuration Unit Unit
  fed_if more = cond more (record k { waiting = Byte }) (record k { waiting = End; ended = true })

  -- nothing else changes
  pub record IsSame (k' : Configuration Unit Unit) : Type 0 where
    pub events : k'.events ≡ k.events
    pub position : k'.position ≡ k.position
    pub local : k'.local ≡ k.local

  fed-if-same : (more : Bool) → IsSame (fed_if more)
  fed-if-same true = record { events = refl; position = refl; local = refl }
  fed-if-same false = record { events = refl; position = refl; local = refl }

  pub fed-same : IsSame (fed t k)
  fed-same = fed-if-same _

  pub fed-waits : (rest : List Seat) → drop k.position t.seats ≡ rest → (fed t k).waiting ≡ waits_at rest
  fed-waits [] at = ap (λ b. (fed_if b).waiting) (le-ltb k.position (length t.seats) (past-end t.seats k.position at))
  fed-waits (s ∷ ss) at = ap (λ b. (fed_if b).waiting) (lt-ltb k.position (length t.seats) (slice_get_within t.seats k.position s (at-front t.seats k.position s ss at)))

-- ---- parts of a line
-- what states share is kept as before, but for the count of calls
pub record IsUnwritten (before after : Local Unit Unit) : Type 0 where
  pub calls : ℕ
  pub is : after ≡ record before { tokenize_state = record before.tokenize_state { size = calls } }

pub unwritten : (l : Local Unit Unit) → IsUnwritten l l
unwritten l = record { calls = l.tokenize_state.size; is = refl }

pub unwritten-on : (a b c : Local Unit Unit) → IsUnwritten a b → IsUnwritten b c → IsUnwritten a c
unwritten-on a b c one two =
    let counts : Local Unit Unit → Local Unit Unit = λ l. record l { tokenize_state = record l.tokenize_state { size = two.calls } } in
    record { calls = two.calls; is = two.is ∙ ap counts one.is }

pub unwritten-keeps : (before after : Local Unit Unit) → IsUnwritten before after → KeepsEdits before after
unwritten-keeps before after h = record { edits = ap (λ l. l.map) h.is; resolvers = ap (λ l. l.resolvers) h.is }

pub keeps-on : (a b c : Local Unit Unit) → KeepsEdits a b → KeepsEdits b c → KeepsEdits a c
keeps-on a b c one two = record { edits = two.edits ∙ one.edits; resolvers = two.resolvers ∙ one.resolvers }

module _ (g : Given) (t : Text) where
  -- less is said of what states share
  pub reads-keeping : (kept kept' : (before after : Local Unit Unit) → Type 0) → ((before after : Local Unit Unit) → kept before after → kept' before after)
      → (k : Configuration Unit Unit) (name : Name) (line rest : List Seat) (marks : List Mark) (to : State) → IsReadAs g t kept k name line rest marks to → IsReadAs g t kept' k name line rest marks to
  reads-keeping kept kept' weaker k name line rest marks to r = record {
    after = r.after;
    calls = r.calls;
    events_are = r.events_are;
    position = r.position;
    waiting = r.waiting;
    local = weaker k.local r.after.local r.local;
    leads = r.leads;
  }

  -- nothing is read
  pub reads-nothing : (kept : (before after : Local Unit Unit) → Type 0) (k : Configuration Unit Unit) (name : Name) (rest : List Seat) → k.waiting ≡ waits_at rest → kept k.local k.local
      → IsReadAs g t kept k name [] rest [] (Retry name)
  reads-nothing kept k name rest waits same = record {
    after = k;
    calls = 0;
    events_are = sym (append-nil k.events);
    position = omega arith;
    waiting = waits;
    local = same;
    leads = λ choices before z h. let none : before + 0 ≡ before = omega arith in subst (λ n. EndsIn g (table_step flow g) t n k choices (Retry name) z) none h;
  }

  -- the next byte is fed, or the end
  pub reads-feeding : (kept : (before after : Local Unit Unit) → Type 0) (k : Configuration Unit Unit) (p : Point) (name to : Name) (line rest : List Seat) (marks : List Mark) → IsAt t k p (line ++ rest)
      → IsReadAs g t kept k name line rest marks (Next to) → IsReadAs g t kept k name line rest marks (Retry to)
  reads-feeding kept k p name to line rest marks at r =
      let same = fed-same t r.after in
      let left = (behind-line t line rest k.position p (record { place = at.behind; left = at.left })).left in
      record {
        after = fed t r.after;
        calls = r.calls;
        events_are = same.events ∙ r.events_are;
        position = same.position ∙ r.position;
        waiting = fed-waits t r.after rest (ap (λ n. drop n t.seats) r.position ∙ left);
        local = subst (λ l. kept k.local l) (sym same.local) r.local;
        leads = λ choices before z h. r.leads choices before z ((fed-ends g (table_step flow g) t (before + r.calls) r.after choices to z).0 h);
      }

  -- where reading stands behind a part
  pub at-behind : (kept : (before after : Local Unit Unit) → Type 0) (k : Configuration Unit Unit) (p : Point) (name to : Name) (line rest : List Seat) (marks : List Mark) → IsAt t k p (line ++ rest)
      → (r : IsReadAs g t kept k name line rest marks (Retry to)) → IsAt t r.after (end_after p line) rest
  at-behind kept k p name to line rest marks at r =
      let there = behind-line t line rest k.position p (record { place = at.behind; left = at.left }) in
      record { behind = ap (end_place t) r.position ∙ there.place; left = ap (λ n. drop n t.seats) r.position ∙ there.left; waits = r.waiting }

  -- a part, and what is read behind it
  pub reads-on : (one two both : (before after : Local Unit Unit) → Type 0) → ((a b c : Local Unit Unit) → one a b → two b c → both a c)
      → (k : Configuration Unit Unit) (p : Point) (name mid : Name) (line more rest : List Seat) (marks marks' : List Mark) (to : State) → IsAt t k p (line ++ (more ++ rest))
      → IsReadAs g t one k name line (more ++ rest) marks (Retry mid)
      → ((k' : Configuration Unit Unit) → IsAt t k' (end_after p line) (more ++ rest) → one k.local k'.local → IsReadAs g t two k' mid more rest marks' to)
      → IsReadAs g t both k name (line ++ more) rest (marks ++ marks') to
  reads-on one two both joined k p name mid line more rest marks marks' to at r behind =
      let r' = behind r.after (at-behind one k p name mid line (more ++ rest) marks at r) r.local in
      record {
        after = r'.after;
        calls = r.calls + r'.calls;
        events_are = marked-on k.events r.after.events r'.after.events marks marks' r.events_are r'.events_are;
        position = let first = r.position in let then = r'.position in let n = length-append line more in omega (arith, first, then, n);
        waiting = r'.waiting;
        local = joined k.local r.after.local r'.after.local r.local r'.local;
        leads = λ choices before z h.
            let e : before + (r.calls + r'.calls) ≡ (before + r.calls) + r'.calls = omega arith in
            r.leads choices before z (r'.leads choices (before + r.calls) z (subst (λ n. EndsIn g (table_step flow g) t n r'.after choices to z) e h));
      }

  -- a part, and a state behind it that reads no more
  pub reads-end : (one two both : (before after : Local Unit Unit) → Type 0) → ((a b c : Local Unit Unit) → one a b → two b c → both a c)
      → (k : Configuration Unit Unit) (p : Point) (name mid : Name) (line rest : List Seat) (marks marks' : List Mark) (to : State) → IsAt t k p (line ++ rest)
      → IsReadAs g t one k name line rest marks (Retry mid)
      → ((k' : Configuration Unit Unit) → IsAt t k' (end_after p line) rest → one k.local k'.local → IsReadAs g t two k' mid [] rest marks' to)
      → IsReadAs g t both k name line rest (marks ++ marks') to
  reads-end one two both joined k p name mid line rest marks marks' to at r behind =
      subst (λ l. IsReadAs g t both k name l rest (marks ++ marks') to) (append-nil line)
      (reads-on one two both joined k p name mid line [] rest marks marks' to at r behind)

  -- two parts, of virtual bytes that are so split
  pub reads-parts : (one two both : (before after : Local Unit Unit) → Type 0) → ((a b c : Local Unit Unit) → one a b → two b c → both a c)
      → (k : Configuration Unit Unit) (p : Point) (name mid : Name) (line more rest : List Seat) (marks marks' : List Mark) (to : State) → IsAt t k p ((line ++ more) ++ rest)
      → (IsAt t k p (line ++ (more ++ rest)) → IsReadAs g t one k name line (more ++ rest) marks (Retry mid))
      → ((k' : Configuration Unit Unit) → IsAt t k' (end_after p line) (more ++ rest) → one k.local k'.local → IsReadAs g t two k' mid more rest marks' to)
      → IsReadAs g t both k name (line ++ more) rest (marks ++ marks') to
  reads-parts one two both joined k p name mid line more rest marks marks' to at first behind =
      let here = subst (λ l. IsAt t k p l) (append_assoc line more rest) at in
      reads-on one two both joined k p name mid line more rest marks marks' to here (first here) behind
