-- How lines are read in parts, in all rooms of blocks: one part behind another, runs of bytes that are each read in one state, and spans that
-- end before what comes behind.
use Rattle.mdblock_leaf_blocks.proofs.Prelude.{not-true, Bool, List, None, Option, Some, [], ap, cond, false, not, refl, subst, sym, true, ℕ, ◌++◌, ◌==◌, ◌∙◌, ◌∷◌, ◌≡◌, AllByRecursion, end-after-append, Seat, end_after, Enter, Exit, EventName, SpaceOrTab, Point, Name, Next, Retry, Configuration, Local, Sight, Given, Text, FlowByte, blank, flow_byte, is_line_feed, line_feed, flow, IsReadAs, KeepsEdits, Mark, leaf_marks, white, IsInLine, LineEnds, is_white, event, first_byte, Act, Rows, class_of, consume, does, enter, exit, named, picked, row, sight_before}
use Rattle.mdblock_leaf_blocks.proofs.Looks.ByteClasses.{feed-is}
use Rattle.mdblock_leaf_blocks.proofs.Lines.Fronts.{Fails}
use Rattle.mdblock_leaf_blocks.proofs.Lines.LineReads.{IsAt, IsUnwritten, keeps-on, reads-end, reads-nothing, reads-on, reads-parts, unwritten, unwritten-on}
use Rattle.mdblock_leaf_blocks.proofs.Lines.RowReads.{ArePlain, counted, reads, row-stays, row-takes-on, rows_of, seen, told, white-is-blank}

-- ---- spans that end
abbrev pub exits : List EventName → List (Act Unit Unit)
exits [] = []
exits (n ∷ ns) = exit n ∷ exits ns

abbrev pub leaves : Given → List EventName → Point → List Mark
leaves g [] p = []
leaves g (n ∷ ns) p = (event g.bytes Exit n p, None) ∷ leaves g ns p

exits-plain : (ns : List EventName) → ArePlain (exits ns) × (reads (exits ns) ≡ false)
exits-plain [] = (tt, refl)
exits-plain (n ∷ ns) = exits-plain ns

exits-told : (g : Given) (end p : Point) (b : Option ℕ) (l : List Seat) (ns : List EventName) → told (sight_before g end p b l) (exits ns) ≡ leaves g ns p
exits-told g end p b l [] = refl
exits-told g end p b [] (n ∷ ns) = ap (λ ms. (event g.bytes Exit n p, None) ∷ ms) (exits-told g end p b [] ns)
exits-told g end p b (s ∷ ss) (n ∷ ns) = ap (λ ms. (event g.bytes Exit n p, None) ∷ ms) (exits-told g end p b (s ∷ ss) ns)

exits-local : (ns : List EventName) (s : Sight) (k : Configuration Unit Unit) → (does (exits ns) s k).local ≡ k.local
exits-local [] s k = refl
exits-local (n ∷ ns) s k = exits-local ns s (does (exit n ∷ []) s k)

-- ---- what states share is kept
pub record Keeping : Type 1 where
  pub kept : (before after : Local Unit Unit) → Type 0
  pub same : (l : Local Unit Unit) → kept l l
  pub on : (a b c : Local Unit Unit) → kept a b → kept b c → kept a c

-- but for the count of calls; and edits and resolvers alone
abbrev pub all_kept : Keeping
all_kept = record { kept = IsUnwritten; same = unwritten; on = unwritten-on }

abbrev pub edits_kept : Keeping
edits_kept = record { kept = KeepsEdits; same = λ l. record { edits = refl; resolvers = refl }; on = keeps-on }

-- a run ends before a line ending
pub fails-line : (test : ℕ → Bool) → test 10 ≡ false → (l rest : List Seat) → Fails test l → LineEnds rest → Fails test (l ++ rest)
fails-line test feed [] [] fails ends = tt
fails-line test feed [] (s ∷ ss) fails ends = ap test ends ∙ feed
fails-line test feed (s ∷ ss) rest fails ends = fails

abbrev pub is_in_line : ℕ → Bool
is_in_line b = not (b == 10)

pub all-in-line : (l : List Seat) → IsInLine l → AllByRecursion (λ (s : Seat). is_in_line s.byte ≡ true) l
all-in-line [] h = tt
all-in-line (s ∷ ss) h = (ap not h.0, all-in-line ss h.1)

-- A state goes on over bytes that pass a test
abbrev pub Runs : Name → (ℕ → Bool) → Type 0
Runs name test = (b : Option FlowByte) (c : ℕ) → test c ≡ true → rows_of (named flow.states name) b (Some (flow_byte c)) ≡ row (consume ∷ []) (Next name)

pub white-runs : (name : Name) → ((b : Option FlowByte) → rows_of (named flow.states name) b (Some blank) ≡ row (consume ∷ []) (Next name)) → Runs name is_white
white-runs name is b c white = ap (λ w. rows_of (named flow.states name) b (Some w)) (white-is-blank c white) ∙ is b

pub line-runs : (name : Name) (over : Rows Unit Unit) → ((b : Option FlowByte) (c : FlowByte) → rows_of (named flow.states name) b (Some c) ≡ cond (is_line_feed c) over (row (consume ∷ []) (Next name))) → Runs name is_in_line
line-runs name over rows b c h = rows b (flow_byte c) ∙ ap (λ t. cond t over (row (consume ∷ []) (Next name))) (feed-is c ∙ not-true (c == 10) h)

-- and ends spans before all others
pub record Goes (name : Name) (test : ℕ → Bool) (ns : List EventName) (to : Name) : Type 0 where
  pub last : (b : Option FlowByte) → rows_of (named flow.states name) b None ≡ row (exits ns) (Retry to)
  pub byte : (b : Option FlowByte) (c : ℕ) → rows_of (named flow.states name) b (Some (flow_byte c)) ≡ cond (test c) (row (consume ∷ []) (Next name)) (row (exits ns) (Retry to))

module _ (name : Name) (ns : List EventName) (to : Name) (last : (b : Option FlowByte) → rows_of (named flow.states name) b None ≡ row (exits ns) (Retry to)) where
  abbrev on : Rows Unit Unit
  on = row (consume ∷ []) (Next name)

  abbrev over : Rows Unit Unit
  over = row (exits ns) (Retry to)

  pub goes-by : (class : FlowByte → Bool) (test : ℕ → Bool) → ((b : Option FlowByte) (c : FlowByte) → rows_of (named flow.states name) b (Some c) ≡ cond (class c) on over) → ((c : ℕ) → class (flow_byte c) ≡ test c) → Goes name test ns to
  goes-by class test rows is = record { last = last; byte = λ b c. rows b (flow_byte c) ∙ ap (λ t. cond t on over) (is c) }

  -- to the end of a line
  pub goes-line : ((b : Option FlowByte) (c : FlowByte) → rows_of (named flow.states name) b (Some c) ≡ cond (is_line_feed c) over on) → Goes name is_in_line ns to
  goes-line rows = record { last = last; byte = λ b c. rows b (flow_byte c) ∙ ap (λ t. cond t over on) (feed-is c) ∙ (elim (c == 10) as (λ t. cond t over on ≡ cond (not t) on over) [ true ↦ refl | false ↦ refl ]) }

module _ (g : Given) (t : Text) where
  -- a span ends at a place, or begins before a byte
  abbrev pub goes : EventName → Point → List Mark
  goes n p = leaves g (n ∷ []) p

  abbrev pub comes : EventName → Seat → List Mark
  comes n s = (event g.bytes Enter n s.point, None) ∷ []

module _ (g : Given) (t : Text) (K : Keeping) where
  -- bytes are read from one state to another
  abbrev pub Reads : Configuration Unit Unit → Name → List Seat → List Seat → List Mark → Name → Type 0
  Reads k from line rest marks to = IsReadAs g t K.kept k from line rest marks (Retry to)

  module _ (k : Configuration Unit Unit) (p : Point) (from mid to : Name) where
    -- a part, and what is read behind it, whose marks may tell where the whole ends
    pub then : (line more l rest : List Seat) → line ++ more ≡ l → (marks : List Mark) (last : Point → List Mark) → IsAt t k p (l ++ rest)
        → (IsAt t k p (line ++ (more ++ rest)) → Reads k from line (more ++ rest) marks mid)
        → ((k' : Configuration Unit Unit) → IsAt t k' (end_after p line) (more ++ rest) → K.kept k.local k'.local → Reads k' mid more rest (last (end_after (end_after p line) more)) to)
        → Reads k from l rest (marks ++ last (end_after p l)) to
    then line more l rest whole marks last at first behind =
        subst (λ l. IsAt t k p (l ++ rest) → Reads k from l rest (marks ++ last (end_after p l)) to) whole
        (λ at. subst (λ q. Reads k from (line ++ more) rest (marks ++ last q) to) (sym (end-after-append p line more))
        (reads-parts g t K.kept K.kept K.kept K.on k p from mid line more rest marks (last (end_after (end_after p line) more)) (Retry to) at first behind)) at

    -- a byte, and what is read behind it
    pub byte-then : (s : Seat) (ss rest : List Seat) (marks more : List Mark) → IsAt t k p ((s ∷ ss) ++ rest) → Reads k from (s ∷ []) (ss ++ rest) marks mid
        → ((k' : Configuration Unit Unit) → IsAt t k' s.end (ss ++ rest) → K.kept k.local k'.local → Reads k' mid ss rest more to) → Reads k from (s ∷ ss) rest (marks ++ more) to
    byte-then s ss rest marks more at first behind = reads-on g t K.kept K.kept K.kept K.on k p from mid (s ∷ []) ss rest marks more (Retry to) at first behind

    -- no byte, and what is read from there
    pub none-then : (l rest : List Seat) (marks more : List Mark) → IsAt t k p (l ++ rest) → Reads k from [] (l ++ rest) marks mid
        → ((k' : Configuration Unit Unit) → IsAt t k' p (l ++ rest) → K.kept k.local k'.local → Reads k' mid l rest more to) → Reads k from l rest (marks ++ more) to
    none-then l rest marks more at first behind = reads-on g t K.kept K.kept K.kept K.on k p from mid [] l rest marks more (Retry to) at first behind

    -- a part, and a state behind it that reads no more
    pub then-ends : (line rest : List Seat) (marks last : List Mark) → IsAt t k p (line ++ rest) → Reads k from line rest marks mid
        → ((k' : Configuration Unit Unit) → IsAt t k' (end_after p line) rest → K.kept k.local k'.local → Reads k' mid [] rest last to) → Reads k from line rest (marks ++ last) to
    then-ends line rest marks last at first behind = reads-end g t K.kept K.kept K.kept K.on k p from mid line rest marks last (Retry to) at first behind

  -- bytes of a run
  abbrev Passes : (ℕ → Bool) → List Seat → Type 0
  Passes test l = AllByRecursion (λ (s : Seat). test s.byte ≡ true) l

  pub run-on : (name : Name) (test : ℕ → Bool) → Runs name test → (run rest : List Seat) → Passes test run → (k : Configuration Unit Unit) (p : Point) → IsAt t k p (run ++ rest) → Reads k name run rest [] name
  run-on name test runs [] rest all k p at = reads-nothing g t K.kept k name rest at.waits (K.same k.local)
  run-on name test runs (s ∷ ss) rest all k p at =
      byte-then k p name name name s ss rest [] [] at
      (row-takes-on g t K.kept k name p s (ss ++ rest) (flow_byte s.byte) (consume ∷ []) name at refl (ap (λ r. picked r g (seen g t K.kept k name p (s ∷ (ss ++ rest))) (counted k)) (runs _ s.byte all.0)) tt refl (K.same k.local))
      (λ k' at' kept. run-on name test runs ss rest all.1 k' s.end at')

  -- a state's row ends these spans
  module _ (name : Name) (ns : List EventName) (to : Name) where
    pub row-ends : (k : Configuration Unit Unit) (p : Point) (l : List Seat) (c : Option FlowByte) → IsAt t k p l → class_of flow_byte (first_byte l) ≡ c
        → ((b : Option FlowByte) → rows_of (named flow.states name) b c ≡ row (exits ns) (Retry to)) → Reads k name [] l (leaves g ns p) to
    row-ends k p l c at class is =
        let sight = seen g t K.kept k name p l in
        subst (λ m. Reads k name [] l m to) (exits-told g t.end p _ l ns)
        (row-stays g t K.kept k name p l c (exits ns) (Retry to) at class (ap (λ r. picked r g sight (counted k)) (is _)) (exits-plain ns).0 (exits-plain ns).1 refl
        (subst (K.kept k.local) (sym (exits-local ns sight (counted k))) (K.same k.local)))

    -- at the end of a line, whatever ends it
    pub line-over : ((b : Option FlowByte) → rows_of (named flow.states name) b None ≡ row (exits ns) (Retry to)) → ((b : Option FlowByte) → rows_of (named flow.states name) b (Some line_feed) ≡ row (exits ns) (Retry to))
        → (k : Configuration Unit Unit) (p : Point) (l : List Seat) → LineEnds l → IsAt t k p l → Reads k name [] l (leaves g ns p) to
    line-over last feed k p [] ends at = row-ends k p [] None at refl last
    line-over last feed k p (s ∷ ss) ends at = row-ends k p (s ∷ ss) (Some line_feed) at (ap (λ b. Some (flow_byte b)) ends) feed

    -- ---- runs
    module _ (test : ℕ → Bool) (is : Goes name test ns to) where
      stops : (k : Configuration Unit Unit) (p : Point) (rest : List Seat) → Fails test rest → IsAt t k p rest → Reads k name [] rest (leaves g ns p) to
      stops k p [] fails at = row-ends k p [] None at refl is.last
      stops k p (s ∷ ss) fails at = row-ends k p (s ∷ ss) (Some (flow_byte s.byte)) at refl (λ b. is.byte b s.byte ∙ ap (λ t. cond t (row (consume ∷ []) (Next name)) (row (exits ns) (Retry to))) fails)

      -- bytes of a run, and its end
      pub run-ends : (run rest : List Seat) → Passes test run → Fails test rest → (k : Configuration Unit Unit) (p : Point) → IsAt t k p (run ++ rest) → Reads k name run rest (leaves g ns (end_after p run)) to
      run-ends run rest all fails k p at = then-ends k p name name to run rest [] (leaves g ns (end_after p run)) at (run-on name test (λ b c passes. is.byte b c ∙ ap (λ t. cond t (row (consume ∷ []) (Next name)) (row (exits ns) (Retry to))) passes) run rest all k p at) (λ k' at' kept. stops k' (end_after p run) rest fails at')

      -- whose first byte another state reads
      pub run-from : (from : Name) (marks : List Mark) (s : Seat) (ss rest : List Seat) → Passes test ss → Fails test rest → (k : Configuration Unit Unit) (p : Point) → IsAt t k p ((s ∷ ss) ++ rest)
          → Reads k from (s ∷ []) (ss ++ rest) marks name → Reads k from (s ∷ ss) rest (marks ++ leaves g ns (end_after s.end ss)) to
      run-from from marks s ss rest all fails k p at first =
          byte-then k p from name to s ss rest marks (leaves g ns (end_after s.end ss)) at first (λ k' at' kept. run-ends ss rest all fails k' s.end at')

  -- the whole span, or nothing
  pub run-piece : (n : EventName) (break inside : Name) (test : ℕ → Bool) → Goes inside test (n ∷ []) break → (run rest : List Seat) → Passes test run → Fails test rest
      → (k : Configuration Unit Unit) (p : Point) → IsAt t k p (run ++ rest) → ((s : Seat) (rest : List Seat) → test s.byte ≡ true → IsAt t k p (s ∷ rest) → Reads k break (s ∷ []) rest (comes g t n s) inside)
      → Reads k break run rest (leaf_marks g.bytes n run) break
  run-piece n break inside test is [] rest all fails k p at begins = reads-nothing g t K.kept k break rest at.waits (K.same k.local)
  run-piece n break inside test is (s ∷ ss) rest all fails k p at begins = run-from inside (n ∷ []) break test is break (comes g t n s) s ss rest all.1 fails k p at (begins s (ss ++ rest) all.0 at)

  -- white space
  pub white-piece : (break inside : Name) → Goes inside is_white (SpaceOrTab ∷ []) break → ((b : Option FlowByte) → rows_of (named flow.states break) b (Some blank) ≡ row (enter SpaceOrTab ∷ consume ∷ []) (Next inside))
      → (run rest : List Seat) → Passes is_white run → Fails is_white rest → (k : Configuration Unit Unit) (p : Point) → IsAt t k p (run ++ rest) → Reads k break run rest (white g.bytes run) break
  white-piece break inside is begins run rest all fails k p at =
      run-piece SpaceOrTab break inside is_white is run rest all fails k p at
      (λ s rest white at. row-takes-on g t K.kept k break p s rest blank (enter SpaceOrTab ∷ consume ∷ []) inside at (white-is-blank s.byte white)
      (ap (λ r. picked r g (seen g t K.kept k break p (s ∷ rest)) (counted k)) (begins _)) tt refl (K.same k.local))
