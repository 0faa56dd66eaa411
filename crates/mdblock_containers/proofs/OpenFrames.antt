-- Which spans of containers are open from part to part of a document: those that the next part begins in stay open, and it enters the others.
use Rattle.std.proofs.Common.{◌≡◌, ℕ, zero, suc, ◌<◌, ◌≤◌, Bool, true, false, cond, List, [], ◌∷◌, ◌++◌, length, take, drop, map, refl, sym, ap, ◌∙◌, subst, arith, append_assoc, inl, inr, ◌⊎◌}
use Rattle.std.specs.Prelude.{◌==◌, ◌&&◌, nat_le}
use Rattle.std.specs.List.{AllByRecursion, flat_map}
use Rattle.std.proofs.lemmas.Bool.{false≢true, eqb-true}
use Rattle.std.proofs.lemmas.Bool.Decides.{nat_tests}
use Rattle.std.proofs.lemmas.Grind.{flat_map-append}
use Rattle.std.proofs.lemmas.List.{append-nil, length-append, length-map, length-take, take-append-drop}
use Rattle.markdown_base.proofs.Common.{every-map, every-take}
use Rattle.markdown_base.specs.declared.configuration.Constructs.{Constructs}
use Rattle.mdblock_leaf_blocks.specs.LeafBlocks.{Line}
use Rattle.mdblock_lines.specs.Containers.{Container, Prefix}
use Rattle.mdblock_containers.proofs.DocumentRows.{take_of_take}
use Rattle.mdblock_containers.proofs.FrameFacts.{Turn, all_before, all_entered, began_later, begun_entered, flat_front, flat_parts, fresh, front_every, front_take, kept_front, kept_long, kept_more, kept_of, left_is, needed_at, needed_in, none_is, standing_begun, standing_blank, standing_other, stays_is, turns}
use Rattle.mdblock_containers.proofs.RowFacts.{BeganBefore, BeginHere, IsFront, begun_are, front_all, front_append, front_more, front_none, front_trans, went_are, went_within}
use Rattle.mdblock_containers.proofs.RowReads.{Reads, behind_left, behind_other, begun_closed, old_behind, read_from, row, rows_length, still_stack}
use Rattle.mdblock_containers.specs.Prefixes.{containers_of}
use Rattle.mdblock_containers.specs.Rows.{Before, Row, closed, has_none}
use Rattle.mdblock_containers.specs.Skeleton.{Frame, Part, frames_at, frames_of, further, going_on_at, list_at, list_begun, parts, parts_in, standing}

-- no rows have no parts
pub none_in : (bound : ℕ) → parts_in bound [] ≡ []
none_in zero = refl
none_in (suc bound) = refl

-- a blank line is a part of its own
abbrev pub IsAlone : Part → Type 0
IsAlone p = p.first.is_blank ≡ true → p.more ≡ []

-- A part: the spans turn to those in which it stands; nothing begins behind its first line, where no more go on than it stands in
pub record IsTurned (fs : List Frame) (p : Part) : Type 0 where
  pub turn : Turn fs p.frames p.first.begun
  pub stands : (p.first.is_blank ≡ false) ⊎ (has_none p.first.begun ≡ false) → p.stands ≡ containers_of p.first.went_on ++ containers_of p.first.begun
  pub none_begin : AllByRecursion (λ (r : Row). has_none r.begun ≡ true) p.more
  pub narrow : AllByRecursion (λ (r : Row). length r.went_on ≤ length p.stands) p.more
  pub alone : IsAlone p

abbrev pub AreTurned : List Frame → List Part → Type 0
AreTurned fs [] = Unit {0}
AreTurned fs (p ∷ ps) = IsTurned fs p × AreTurned p.frames ps

module _ (on : Constructs) (R : Reads on) where
  abbrev row_of : R.Known → ℕ → Line → Row
  row_of = row on R

  abbrev rows_from : R.Known → ℕ → List Line → List Row
  rows_from = read_from on R

  -- ---- lines that are left

  going_few_at : (b : R.Known) (n : ℕ) (ls : List Line) → going_on_at (rows_from b n ls) ≤ (R.before b).depth
  going_few_at b n [] = omega arith
  going_few_at b n (l ∷ ls) = by (row_of b n l).is_left_blank refl (going_few_at (R.next b (row_of b n l)) (suc n) ls) (went_within on (R.before b) n l).0
    where
      by : (x : Bool) → (row_of b n l).is_left_blank ≡ x → going_on_at (rows_from (R.next b (row_of b n l)) (suc n) ls) ≤ (R.before (R.next b (row_of b n l))).depth → length (row_of b n l).went_on ≤ (R.before b).depth
          → cond x (going_on_at (rows_from (R.next b (row_of b n l)) (suc n) ls)) (length (row_of b n l).went_on) ≤ (R.before b).depth
      by true e h w = let depth : (R.before (R.next b (row_of b n l))).depth ≡ length (row_of b n l).went_on = ap (λ (x : Before). x.depth) (behind_left on R b n l e) in omega (arith, h, w, depth)
      by false e h w = w

  -- the list that goes on is that of the first container that does not
  list_behind : (b : R.Known) (n : ℕ) (ls : List Line) → AllByRecursion (BeganBefore n) (R.before b).stack → let rs = rows_from b n ls in IsFront (list_at rs) (flat_map frames_of (drop (going_on_at rs) (R.before b).stack))
  list_behind b n [] old = front_none (flat_map frames_of (R.before b).stack)
  list_behind b n (l ∷ ls) old = by (row_of b n l).is_left_blank refl (list_behind (R.next b (row_of b n l)) (suc n) ls (old_behind on R b n l old)) (begun_are on (R.before b) n l old).1
    where
      by : (x : Bool) → (row_of b n l).is_left_blank ≡ x
          → let behind = rows_from (R.next b (row_of b n l)) (suc n) ls in
          IsFront (list_at behind) (flat_map frames_of (drop (going_on_at behind) (R.before (R.next b (row_of b n l))).stack))
          → IsFront (list_begun (row_of b n l).begun) (flat_map frames_of (drop (length (row_of b n l).went_on) (R.before b).stack))
          → IsFront (cond x (list_at behind) (list_begun (row_of b n l).begun)) (flat_map frames_of (drop (cond x (going_on_at behind) (length (row_of b n l).went_on)) (R.before b).stack))
      by true e h k =
          let behind = rows_from (R.next b (row_of b n l)) (suc n) ls in
          let same : (R.before (R.next b (row_of b n l))).stack ≡ (R.before b).stack = ap (λ (x : Before). x.stack) (behind_left on R b n l e) in
          subst (λ (cs : List Container). IsFront (list_at behind) (flat_map frames_of (drop (going_on_at behind) cs))) same h
      by false e h k = k

  needed_front : (b : R.Known) (n : ℕ) (ls : List Line) → AllByRecursion (BeganBefore n) (R.before b).stack → IsFront (needed_at (R.before b).stack (rows_from b n ls)) (flat_map frames_of (R.before b).stack)
  needed_front b n ls old =
      let rs = rows_from b n ls in
      let g = going_on_at rs in
      let more = front_more (flat_map frames_of (take g (R.before b).stack)) (list_at rs) (flat_map frames_of (drop g (R.before b).stack)) (list_behind b n ls old) in
      subst (IsFront (needed_at (R.before b).stack rs)) (flat_parts g (R.before b).stack) more

  -- Spans that are open before a line: those of the containers that blank lines may stand in, and those that a later line goes on with
  pub record AreOpen (fs : List Frame) (b : R.Known) (n : ℕ) (ls : List Line) : Type 0 where
    pub old : AllByRecursion (BeganBefore n) (R.before b).stack
    pub before : AllByRecursion (λ (f : Frame). f.line < n) fs
    pub deep : IsFront (flat_map frames_of (kept_of (going_on_at (rows_from b n ls)) (take (R.before b).depth (R.before b).stack))) fs
    pub needed : IsFront (needed_at (R.before b).stack (rows_from b n ls)) fs
    pub none_open : ((R.before b).leaf ≡ closed) ⊎ (further (rows_from b n ls) ≡ 0)

  -- all containers are open
  all_are_open : (fs : List Frame) (b : R.Known) (n : ℕ) (ls : List Line) → fs ≡ flat_map frames_of (R.before b).stack → AllByRecursion (BeganBefore n) (R.before b).stack → ((R.before b).leaf ≡ closed) ⊎ (further (rows_from b n ls) ≡ 0) → AreOpen fs b n ls
  all_are_open fs b n ls e old free =
      let g = going_on_at (rows_from b n ls) in
      let some = take (R.before b).depth (R.before b).stack in
      let whole : IsFront some (R.before b).stack = (drop (R.before b).depth (R.before b).stack, sym (take-append-drop (R.before b).depth (R.before b).stack)) in
      let deep = flat_front (kept_of g some) (R.before b).stack (front_trans (kept_of g some) some (R.before b).stack (kept_front g some) whole) in
      record {
        old = old;
        before = subst (AllByRecursion (λ (f : Frame). f.line < n)) (sym e) (all_before n (R.before b).stack old);
        deep = subst (IsFront (flat_map frames_of (kept_of g some))) (sym e) deep;
        needed = subst (IsFront (needed_at (R.before b).stack (rows_from b n ls))) (sym e) (needed_front b n ls old);
        none_open = free;
      }

  -- before a document's first line
  pub none_are_open : (b : R.Known) (ls : List Line) → (R.before b).stack ≡ [] → (R.before b).leaf ≡ closed → AreOpen [] b 1 ls
  none_are_open b ls e free = all_are_open [] b 1 ls (sym (ap (flat_map frames_of) e)) (subst (AllByRecursion (BeganBefore 1)) (sym e) tt) (inl free)

  -- ---- stretches

  -- So many lines with which a stretch goes on: nothing begins in them, and the containers stay; behind them none goes on
  pub record Stretch (b : R.Known) (n : ℕ) (ls : List Line) (k : ℕ) : Type 0 where
    state : R.Known
    number : ℕ
    lines : List Line
    rest : drop k (rows_from b n ls) ≡ rows_from state number lines
    all : ls ≡ map (λ (r : Row). r.line) (take k (rows_from b n ls)) ++ lines
    same : (R.before state).stack ≡ (R.before b).stack
    later : n ≤ number
    none_begin : AllByRecursion (λ (r : Row). has_none r.begun ≡ true) (take k (rows_from b n ls))
    narrow : AllByRecursion (λ (r : Row). length r.went_on ≤ length (R.before b).stack) (take k (rows_from b n ls))
    done : further (drop k (rows_from b n ls)) ≡ 0

  no_stretch : (b : R.Known) (n : ℕ) (ls : List Line) (k : ℕ) → k ≡ 0 → further (rows_from b n ls) ≡ k → Stretch b n ls k
  no_stretch b n ls zero e f = record { state = b; number = n; lines = ls; rest = refl; all = refl; same = refl; later = omega arith; none_begin = tt; narrow = tt; done = f }
  no_stretch b n ls (suc k) e f = absurd (omega (arith, e))

  one_stretch : (b : R.Known) (n : ℕ) (l : Line) (ls : List Line) (k : ℕ) → let r = row_of b n l in ((r.is_left_blank ≡ true) ⊎ (r.stays ≡ true)) → has_none r.begun ≡ true → Stretch (R.next b r) (suc n) ls k → Stretch b n (l ∷ ls) (suc k)
  one_stretch b n l ls k goes none s =
      let later = s.later in
      record {
        state = s.state;
        number = s.number;
        lines = s.lines;
        rest = s.rest;
        all = ap (λ (x : List Line). l ∷ x) s.all;
        same = s.same ∙ still_stack on R b n l goes;
        later = omega (arith, later);
        none_begin = (none, s.none_begin);
        narrow = ((went_within on (R.before b) n l).1, subst (λ (cs : List Container). AllByRecursion (λ (x : Row). length x.went_on ≤ length cs) (take k (rows_from (R.next b (row_of b n l)) (suc n) ls))) (still_stack on R b n l goes) s.narrow);
        done = s.done;
      }

  stretches : (b : R.Known) (n : ℕ) (ls : List Line) → Stretch b n ls (further (rows_from b n ls))
  stretches b n [] = no_stretch b n [] 0 refl refl
  stretches b n (l ∷ ls) =
      by (row_of b n l).is_left_blank (nat_le 1 (further (rows_from (R.next b (row_of b n l)) (suc n) ls))) (row_of b n l).stays refl refl refl (stretches (R.next b (row_of b n l)) (suc n) ls)
    where
      by : (x y z : Bool) → let r = row_of b n l in let m = further (rows_from (R.next b r) (suc n) ls) in r.is_left_blank ≡ x → nat_le 1 m ≡ y → r.stays ≡ z
          → Stretch (R.next b r) (suc n) ls m → Stretch b n (l ∷ ls) (cond x (cond y (suc m) 0) (cond z (suc m) 0))
      by true true z ex ey ez s = one_stretch b n l ls (further (rows_from (R.next b (row_of b n l)) (suc n) ls)) (inl ex) (left_is on (R.before b) n l ex).1 s
      by true false z ex ey ez s =
          let r = row_of b n l in
          let m = further (rows_from (R.next b r) (suc n) ls) in
          no_stretch b n (l ∷ ls) 0 refl (λ k. cond (ex k) (cond (ey k) (suc m) 0) (cond r.stays (suc m) 0))
      by false y true ex ey ez s = one_stretch b n l ls (further (rows_from (R.next b (row_of b n l)) (suc n) ls)) (inr ez) (stays_is on (R.before b) n l ez) s
      by false y false ex ey ez s =
          let r = row_of b n l in
          let m = further (rows_from (R.next b r) (suc n) ls) in
          no_stretch b n (l ∷ ls) 0 refl (λ k. cond (ex k) (cond (nat_le 1 m) (suc m) 0) (cond (ez k) (suc m) 0))

  -- ---- one part

  -- The lines behind a part, of which so many are in it: nothing begins in those, and before the others these spans are open
  pub record IsBehind (fs : List Frame) (b : R.Known) (n : ℕ) (ls : List Line) (k : ℕ) : Type 0 where
    pub state : R.Known
    pub number : ℕ
    pub lines : List Line
    pub rest : drop k (rows_from b n ls) ≡ rows_from state number lines
    pub all : ls ≡ map (λ (r : Row). r.line) (take k (rows_from b n ls)) ++ lines
    pub none_begin : AllByRecursion (λ (r : Row). has_none r.begun ≡ true) (take k (rows_from b n ls))
    pub narrow : AllByRecursion (λ (r : Row). length r.went_on ≤ length (R.before b).stack) (take k (rows_from b n ls))
    pub are_open : AreOpen fs state number lines

  -- A part: the spans turn to those in which it stands, and these are open behind it
  pub record IsPart (fs : List Frame) (b : R.Known) (n : ℕ) (l : Line) (ls : List Line) : Type 0 where
    pub turn : let r = row_of b n l in Turn fs (frames_at r (rows_from (R.next b r) (suc n) ls)) r.begun
    pub behind : let r = row_of b n l in let rs = rows_from (R.next b r) (suc n) ls in IsBehind (frames_at r rs) (R.next b r) (suc n) ls (cond r.is_blank 0 (further rs))
    pub stands : let r = row_of b n l in let rs = rows_from (R.next b r) (suc n) ls in (r.is_blank ≡ false) ⊎ (has_none r.begun ≡ false) → standing r rs ≡ containers_of r.went_on ++ containers_of r.begun
    pub stack : let r = row_of b n l in let rs = rows_from (R.next b r) (suc n) ls in r.is_blank ≡ false → (R.before (R.next b r)).stack ≡ standing r rs

  module _ (fs : List Frame) (b : R.Known) (n : ℕ) (l : Line) (ls : List Line) (h : AreOpen fs b n (l ∷ ls)) where
    abbrev head : Row
    head = row_of b n l

    abbrev next : R.Known
    next = R.next b head

    abbrev others : List Row
    others = rows_from next (suc n) ls

    begin_here : BeginHere n head.begun
    begin_here = (begun_are on (R.before b) n l h.old).0

    stands_in_all : (head.is_blank ≡ false) ⊎ (has_none head.begun ≡ false) → standing head others ≡ containers_of head.went_on ++ containers_of head.begun
    stands_in_all e = elim e [ inl other ↦ standing_other head others other | inr some ↦ standing_begun head others begin_here some ]

    abbrev went : List Container
    went = containers_of head.went_on

    abbrev g : ℕ
    g = going_on_at others

    -- the containers that go on
    went_in : IsFront went (R.before b).stack
    went_in = (drop (length head.went_on) (R.before b).stack, sym (take-append-drop (length head.went_on) (R.before b).stack) ∙ ap (λ (cs : List Container). cs ++ drop (length head.went_on) (R.before b).stack) (sym (went_are on (R.before b) n l)))

    went_deep : IsFront went (take (R.before b).depth (R.before b).stack)
    went_deep =
        let few = went_within on (R.before b) n l in
        let size = length-take (R.before b).depth (R.before b).stack in
        let same : take (length head.went_on) (take (R.before b).depth (R.before b).stack) ≡ went = take_of_take (length head.went_on) (R.before b).depth (R.before b).stack (omega (arith, few.0, few.1, size)) ∙ sym (went_are on (R.before b) n l) in
        (drop (length head.went_on) (take (R.before b).depth (R.before b).stack), sym (take-append-drop (length head.went_on) (take (R.before b).depth (R.before b).stack)) ∙ ap (λ (cs : List Container). cs ++ drop (length head.went_on) (take (R.before b).depth (R.before b).stack)) same)

    -- no line behind it is in the part
    at_once : (gs : List Frame) → AreOpen gs next (suc n) ls → IsBehind gs next (suc n) ls 0
    at_once gs k = record { state = next; number = suc n; lines = ls; rest = refl; all = refl; none_begin = tt; narrow = tt; are_open = k }

    -- a line that is left blank
    module _ (left : head.is_left_blank ≡ true) where
      abbrev stand : List Container
      stand = kept_of g went

      blank_stands : standing head others ≡ stand
      blank_stands =
          standing_blank head others (left_is on (R.before b) n l left).0 (left_is on (R.before b) n l left).1 (subst (AllByRecursion (BeganBefore n)) (sym (went_are on (R.before b) n l)) (every-take (BeganBefore n) (length head.went_on) (R.before b).stack h.old))

      abbrev blank_frames : Bool → List Frame
      blank_frames y = flat_map frames_of stand ++ cond y (list_at others) []

      frames_are_blank : frames_at head others ≡ blank_frames (length stand == g)
      frames_are_blank = (λ k. flat_map frames_of (blank_stands k) ++ cond (left k && (length (blank_stands k) == g)) (list_at others) [])

      blank_needed : IsFront (needed_at (R.before b).stack others) fs
      blank_needed = subst (λ x. IsFront (flat_map frames_of (take (cond x g (length head.went_on)) (R.before b).stack) ++ cond x (list_at others) (list_begun head.begun)) fs) left h.needed

      blank_deep : IsFront (flat_map frames_of stand) fs
      blank_deep =
          front_trans (flat_map frames_of stand) (flat_map frames_of (kept_of g (take (R.before b).depth (R.before b).stack))) fs (flat_front stand (kept_of g (take (R.before b).depth (R.before b).stack)) (kept_more g went (take (R.before b).depth (R.before b).stack) went_deep))
          (subst (λ x. IsFront (flat_map frames_of (kept_of (cond x g (length head.went_on)) (take (R.before b).depth (R.before b).stack))) fs) left h.deep)

      stand_in : IsFront stand (R.before b).stack
      stand_in = front_trans stand went (R.before b).stack (kept_front g went) went_in

      just_needed : (length stand == g) ≡ true → needed_at (R.before b).stack others ≡ flat_map frames_of stand ++ list_at others
      just_needed e =
          let size : length stand ≡ g = eqb-true (length stand) g e in
          let same : take g (R.before b).stack ≡ stand = ap (λ k. take k (R.before b).stack) (sym size) ∙ front_take stand (R.before b).stack stand_in in
          ap (λ (cs : List Container). flat_map frames_of cs ++ list_at others) same

      blank_front : (y : Bool) → (length stand == g) ≡ y → IsFront (blank_frames y) fs
      blank_front true e = subst (λ (xs : List Frame). IsFront xs fs) (just_needed e) blank_needed
      blank_front false e = subst (λ (xs : List Frame). IsFront xs fs) (sym (append-nil (flat_map frames_of stand))) blank_deep

      known : R.before next ≡ record (R.before b) { depth = length head.went_on; leaf = closed }
      known = behind_left on R b n l left

      blank_still : (y : Bool) → (length stand == g) ≡ y → IsFront (needed_at (R.before b).stack others) (blank_frames y)
      blank_still true e = subst (λ (xs : List Frame). IsFront (needed_at (R.before b).stack others) xs) (just_needed e) (front_all (needed_at (R.before b).stack others))
      blank_still false e =
          let few = going_few_at next (suc n) ls in
          let depth : (R.before next).depth ≡ length head.went_on = ap (λ (x : Before). x.depth) known in
          let size : length went ≡ length head.went_on = length-map head.went_on (λ (p : Prefix). p.container) in
          let long = kept_long g went (omega (arith, few, depth, size)) in
          let less : g < length stand = grind (arith, nat_tests) in
          let list = subst (λ (x : Before). IsFront (list_at others) (flat_map frames_of (drop g x.stack))) known (list_behind next (suc n) ls (old_behind on R b n l h.old)) in
          subst (IsFront (needed_at (R.before b).stack others)) (sym (append-nil (flat_map frames_of stand))) (needed_in others (R.before b).stack stand stand_in less list)

      blank_open : AreOpen (frames_at head others) next (suc n) ls
      blank_open =
          let y = length stand == g in
          let gs = blank_frames y in
          let same : take (length head.went_on) (R.before b).stack ≡ went = sym (went_are on (R.before b) n l) in
          let deep : IsFront (flat_map frames_of (kept_of g (take (length head.went_on) (R.before b).stack))) gs =
          subst (λ (cs : List Container). IsFront (flat_map frames_of (kept_of g cs)) gs) (sym same) (front_append (flat_map frames_of stand) (cond y (list_at others) [])) in
          subst (λ (xs : List Frame). AreOpen xs next (suc n) ls) (sym frames_are_blank)
          (record {
            old = old_behind on R b n l h.old;
            before = every-map (λ (f : Frame). f.line < n) (λ (f : Frame). f.line < suc n) (λ f less. omega (arith, less)) gs (front_every (λ (f : Frame). f.line < n) gs fs (blank_front y refl) h.before);
            deep = subst (λ (x : Before). IsFront (flat_map frames_of (kept_of g (take x.depth x.stack))) gs) (sym known) deep;
            needed = subst (λ (x : Before). IsFront (needed_at x.stack others) gs) (sym known) (blank_still y refl);
            none_open = inl (ap (λ (x : Before). x.leaf) known);
          })

      blank_turn : Turn fs (frames_at head others) head.begun
      blank_turn =
          let y = length stand == g in
          let gs = blank_frames y in
          let none : head.begun ≡ [] = none_is head.begun (left_is on (R.before b) n l left).1 in
          turns n fs (frames_at head others) gs head.begun begin_here h.before (blank_front y refl) (frames_are_blank ∙ sym (append-nil gs) ∙ ap (λ (ps : List Prefix). gs ++ all_entered ps) (sym none))

      blank_part : IsPart fs b n l ls
      blank_part = record {
        turn = blank_turn;
        behind = subst (λ x. IsBehind (frames_at head others) next (suc n) ls (cond x 0 (further others))) (sym (left_is on (R.before b) n l left).0) (at_once (frames_at head others) blank_open);
        stands = stands_in_all;
        stack = λ e. absurd (false≢true (sym e ∙ (left_is on (R.before b) n l left).0));
      }

    -- any other line
    module _ (left : head.is_left_blank ≡ false) where
      abbrev all_in : List Container
      all_in = went ++ containers_of head.begun

      is_fresh : (head.is_lazy ≡ false) × ((head.is_blank ≡ false) ⊎ (has_none head.begun ≡ false))
      is_fresh = fresh on (R.before b) n l others h.none_open left

      frames_are_all : frames_at head others ≡ flat_map frames_of all_in
      frames_are_all =
          let stands = stands_in_all is_fresh.1 in
          (λ k. flat_map frames_of (stands k) ++ cond (left k && (length (stands k) == g)) (list_at others) []) ∙ append-nil (flat_map frames_of all_in)

      all_known : (R.before next).stack ≡ all_in
      all_known = behind_other on R b n l left is_fresh.0

      all_turn : Turn fs (frames_at head others) head.begun
      all_turn =
          let kept = flat_map frames_of went ++ list_begun head.begun in
          let front = subst (λ x. IsFront (flat_map frames_of (take (cond x g (length head.went_on)) (R.before b).stack) ++ cond x (list_at others) (list_begun head.begun)) fs) left h.needed in
          let here : IsFront kept fs = subst (λ (cs : List Container). IsFront (flat_map frames_of cs ++ list_begun head.begun) fs) (sym (went_are on (R.before b) n l)) front in
          turns n fs (frames_at head others) kept head.begun begin_here h.before here
          (frames_are_all ∙ flat_map-append frames_of went (containers_of head.begun) ∙ ap (λ (xs : List Frame). flat_map frames_of went ++ xs) (begun_entered n head.begun begin_here)
          ∙ sym (append_assoc (flat_map frames_of went) (list_begun head.begun) (all_entered head.begun)))

      behind_all : (x : Bool) → head.is_blank ≡ x → IsBehind (frames_at head others) next (suc n) ls (cond x 0 (further others))
      behind_all true blank =
          let some : has_none head.begun ≡ false = elim is_fresh.1 [ inl other ↦ absurd (false≢true (sym other ∙ blank)) | inr some ↦ some ] in
          at_once (frames_at head others) (all_are_open (frames_at head others) next (suc n) ls (frames_are_all ∙ ap (flat_map frames_of) (sym all_known)) (old_behind on R b n l h.old) (inl (begun_closed on R b n l left is_fresh.0 blank some)))
      behind_all false other =
          let s = stretches next (suc n) ls in
          let later = s.later in
          let old = every-map (BeganBefore (suc n)) (BeganBefore s.number) (began_later (suc n) s.number later) (R.before next).stack (old_behind on R b n l h.old) in
          record {
            state = s.state;
            number = s.number;
            lines = s.lines;
            rest = s.rest;
            all = s.all;
            none_begin = s.none_begin;
            narrow = s.narrow;
            are_open = all_are_open (frames_at head others) s.state s.number s.lines (frames_are_all ∙ ap (flat_map frames_of) (sym (s.same ∙ all_known))) (subst (AllByRecursion (BeganBefore s.number)) (sym s.same) old)
                (inr (ap further (sym s.rest) ∙ s.done));
          }

      other_part : IsPart fs b n l ls
      other_part = record { turn = all_turn; behind = behind_all head.is_blank refl; stands = stands_in_all; stack = λ e. all_known ∙ sym (stands_in_all (inl e)) }

    pub is_part : IsPart fs b n l ls
    is_part = by head.is_left_blank refl
      where
        by : (x : Bool) → head.is_left_blank ≡ x → IsPart fs b n l ls
        by true left = blank_part left
        by false left = other_part left

  -- ---- all parts

  parts_turned : (bound : ℕ) (fs : List Frame) (b : R.Known) (n : ℕ) (ls : List Line) → AreOpen fs b n ls → length ls ≤ bound → AreTurned fs (parts_in bound (rows_from b n ls))
  parts_turned bound fs b n [] h few = subst (AreTurned fs) (sym (none_in bound)) tt
  parts_turned zero fs b n (l ∷ ls) h few = absurd (omega (arith, few))
  parts_turned (suc bound) fs b n (l ∷ ls) h few =
      let is = is_part fs b n l ls h in
      let r = row_of b n l in
      let behind = rows_from (R.next b r) (suc n) ls in
      let k = cond r.is_blank 0 (further behind) in
      let size = ap (λ (xs : List Line). length xs) is.behind.all ∙ length-append (map (λ (x : Row). x.line) (take k behind)) is.behind.lines in (
        record {
          turn = is.turn;
          stands = is.stands;
          none_begin = is.behind.none_begin;
          narrow = by r.is_blank refl is.behind.narrow;
          alone = λ e. ap (λ x. take (cond x 0 (further behind)) behind) e;
        },
        subst (λ (rs : List Row). AreTurned (frames_at r behind) (parts_in bound rs)) (sym is.behind.rest) (parts_turned bound (frames_at r behind) is.behind.state is.behind.number is.behind.lines is.behind.are_open (omega (arith, few, size))),
      )
    where
      head : Row
      head = row_of b n l

      others : List Row
      others = rows_from (R.next b head) (suc n) ls

      by : (x : Bool) → head.is_blank ≡ x → AllByRecursion (λ (y : Row). length y.went_on ≤ length (R.before (R.next b head)).stack) (take (cond x 0 (further others)) others)
          → AllByRecursion (λ (y : Row). length y.went_on ≤ length (standing head others)) (take (cond x 0 (further others)) others)
      by true e k = tt
      by false e k = subst (λ (cs : List Container). AllByRecursion (λ (y : Row). length y.went_on ≤ length cs) (take (further others) others)) ((is_part fs b n l ls h).stack e) k

  -- The spans of a document's parts, from its beginning on
  pub document_turned : (b : R.Known) (ls : List Line) → (R.before b).stack ≡ [] → (R.before b).leaf ≡ closed → AreTurned [] (parts (rows_from b 1 ls))
  document_turned b ls e free =
      let size = rows_length row_of R.next b 1 ls in
      parts_turned (length (rows_from b 1 ls)) [] b 1 ls (none_are_open b ls e free) (omega (arith, size))
