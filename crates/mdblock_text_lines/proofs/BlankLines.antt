-- A blank line stands in what the lines before and behind it both stand in, and in the quotes whose markers it has and the items that begin in it: so
-- parts of documents stand in what containers say.
use Rattle.std.proofs.Common.{◌≡◌, ◌∙◌, ◌⊎◌, ℕ, zero, suc, ◌+◌, ◌<◌, ◌≤◌, Bool, true, false, cond, List, [], ◌∷◌, ◌++◌, ap, append-nil, append_assoc, arith, drop, eq-eqb, inl, inr, length, length-append, ne_eqb, refl, reverse, subst, sym, take}
use Rattle.std.specs.Prelude.{◌==◌, ◌&&◌, not, nat_le, nat_lt}
use Rattle.std.specs.List.{AllByRecursion, flat_map}
use Rattle.std.proofs.lemmas.Bool.{false≢true}
use Rattle.std.proofs.lemmas.Bool.Decides.{nat_tests}
use Rattle.std.proofs.lemmas.Grind.{flat_map-append}
use Rattle.std.proofs.lemmas.List.{length-drop, length-map, length-take, nil_from_length, reverse-append, take-append-drop, take-append-le, take_all}
use Rattle.markdown_base.proofs.Common.{every-map, every-take}
use Rattle.markdown_base.specs.Events.{same_name}
use Rattle.markdown_base.specs.declared.configuration.Constructs.{Constructs}
use Rattle.markdown_base.specs.declared.event.Name.TheVariants as name
use Rattle.markdown_tokenizer.proofs.Positions.Order.{every-back}
use Rattle.mdblock_leaf_blocks.specs.LeafBlocks.{Line}
use Rattle.mdblock_lines.specs.Containers.{Container, Item, Prefix, footnote, item, quote}
use Rattle.mdblock_containers.proofs.DocumentRows.{take_of_take}
use Rattle.mdblock_containers.proofs.FrameFacts.{all_entered, begun_entered, begun_in, flat_parts, fresh, front_take, keep, kept_front, kept_of, left_is, none_is, none_reverse, shared_entered, shared_front, standing_blank, take_front}
use Rattle.mdblock_containers.proofs.OpenFrames.{AreOpen, is_part, none_are_open}
use Rattle.mdblock_containers.proofs.RowFacts.{BeganBefore, BeginHere, BeginsIn, IsFront, begun_are, front_more, front_none, went_are, went_within}
use Rattle.mdblock_containers.proofs.RowReads.{Reads, behind_left, behind_other, old_behind, read_from, row}
use Rattle.mdblock_containers.specs.Prefixes.{containers_of}
use Rattle.mdblock_containers.specs.Rows.{Before, Row, closed, has_none}
use Rattle.mdblock_containers.specs.Skeleton.{Frame, Part, frames_of, further, going_on_at, list_at, list_begun, list_name, shared}
use Rattle.mdblock_containers.specs.Skeleton as now
use Rattle.mdblock_definitions.proofs.KnownReads.{known-reads, nothing}
use Rattle.mdblock_text_lines.specs.Asked.{PartsAreThose}
use Rattle.mdblock_definitions.specs.BlankLines.{containers_in, frames_at, frames_behind, has_marker, marked, parts, parts_in, standing}

-- ---- containers that a blank line stands in, from the outermost on

-- one more around them stays, if one more goes on
keep-last : (g : ℕ) (zs : List Container) (c : Container) → keep (suc g) (zs ++ c ∷ []) ≡ keep g zs ++ c ∷ []
keep-last g [] (quote q) = refl
keep-last g [] (item i) = let far : nat_le (suc g) 0 ≡ false = grind (arith, nat_tests) in ap (λ b. cond b [] (item i ∷ [])) far
keep-last g [] (footnote f) = let far : nat_le (suc g) 0 ≡ false = grind (arith, nat_tests) in ap (λ b. cond b [] (footnote f ∷ [])) far
keep-last g (quote q ∷ zs) c = refl
keep-last g (item i ∷ zs) c = by (nat_le (suc g) (length (zs ++ c ∷ []))) (nat_le g (length zs)) refl refl (keep-last g zs c)
  where
    size : length (zs ++ c ∷ []) ≡ length zs + 1
    size = length-append zs (c ∷ [])

    by : (x y : Bool) → nat_le (suc g) (length (zs ++ c ∷ [])) ≡ x → nat_le g (length zs) ≡ y → keep (suc g) (zs ++ c ∷ []) ≡ keep g zs ++ c ∷ []
        → cond x (keep (suc g) (zs ++ c ∷ [])) (item i ∷ (zs ++ c ∷ [])) ≡ cond y (keep g zs) (item i ∷ zs) ++ c ∷ []
    by true true ex ey h = h
    by false false ex ey h = refl
    by true false ex ey h =
        let le : suc g ≤ length (zs ++ c ∷ []) = grind (arith, nat_tests) in
        let gt : length zs < g = grind (arith, nat_tests) in
        absurd (omega (arith, le, gt, size))
    by false true ex ey h =
        let gt : length (zs ++ c ∷ []) < suc g = grind (arith, nat_tests) in
        let le : g ≤ length zs = grind (arith, nat_tests) in
        absurd (omega (arith, le, gt, size))
keep-last g (footnote f ∷ zs) c = by (nat_le (suc g) (length (zs ++ c ∷ []))) (nat_le g (length zs)) refl refl (keep-last g zs c)
  where
    size : length (zs ++ c ∷ []) ≡ length zs + 1
    size = length-append zs (c ∷ [])

    by : (x y : Bool) → nat_le (suc g) (length (zs ++ c ∷ [])) ≡ x → nat_le g (length zs) ≡ y → keep (suc g) (zs ++ c ∷ []) ≡ keep g zs ++ c ∷ []
        → cond x (keep (suc g) (zs ++ c ∷ [])) (footnote f ∷ (zs ++ c ∷ [])) ≡ cond y (keep g zs) (footnote f ∷ zs) ++ c ∷ []
    by true true ex ey h = h
    by false false ex ey h = refl
    by true false ex ey h =
        let le : suc g ≤ length (zs ++ c ∷ []) = grind (arith, nat_tests) in
        let gt : length zs < g = grind (arith, nat_tests) in
        absurd (omega (arith, le, gt, size))
    by false true ex ey h =
        let gt : length (zs ++ c ∷ []) < suc g = grind (arith, nat_tests) in
        let le : g ≤ length zs = grind (arith, nat_tests) in
        absurd (omega (arith, le, gt, size))

-- if none goes on, it stays where others stay, and if it is a quote
keep-none : (zs : List Container) (c : Container) → keep 0 (zs ++ c ∷ []) ≡ cond (has_none (keep 0 zs)) (keep 0 (c ∷ [])) (keep 0 zs ++ c ∷ [])
keep-none [] c = refl
keep-none (quote q ∷ zs) c = refl
keep-none (item i ∷ zs) c =
    let all : nat_le 0 (length (zs ++ c ∷ [])) ≡ true = grind (arith, nat_tests) in
    let same : nat_le 0 (length zs) ≡ true = grind (arith, nat_tests) in
    ap (λ b. cond b (keep 0 (zs ++ c ∷ [])) (item i ∷ (zs ++ c ∷ []))) all ∙ keep-none zs c
    ∙ ap (λ b. let front = cond b (keep 0 zs) (item i ∷ zs) in cond (has_none front) (keep 0 (c ∷ [])) (front ++ c ∷ [])) (sym same)
keep-none (footnote f ∷ zs) c =
    let all : nat_le 0 (length (zs ++ c ∷ [])) ≡ true = grind (arith, nat_tests) in
    let same : nat_le 0 (length zs) ≡ true = grind (arith, nat_tests) in
    ap (λ b. cond b (keep 0 (zs ++ c ∷ [])) (footnote f ∷ (zs ++ c ∷ []))) all ∙ keep-none zs c
    ∙ ap (λ b. let front = cond b (keep 0 zs) (footnote f ∷ zs) in cond (has_none front) (keep 0 (c ∷ [])) (front ++ c ∷ [])) (sym same)

kept-first : (g : ℕ) (c : Container) (cs : List Container) → kept_of (suc g) (c ∷ cs) ≡ c ∷ kept_of g cs
kept-first g c cs =
    ap (λ (l : List Container). reverse (keep (suc g) l)) (reverse-append (c ∷ []) cs) ∙ ap reverse (keep-last g (reverse cs) c) ∙ reverse-append (keep g (reverse cs)) (c ∷ [])

module _ (n : ℕ) where
  -- a line has no marker of an item that began before it
  no-mark : (i : Item) → BeganBefore n (item i) → has_marker n (item i) ≡ false
  no-mark i h = let less = h.0 in ne_eqb i.line n (λ e. omega (arith, less, e))

  one-marked : (c : Container) (ks : List Container) → BeganBefore n c → reverse (cond (has_none ks) (keep 0 (c ∷ [])) (ks ++ c ∷ [])) ≡ cond (has_none (reverse ks) && not (has_marker n c)) [] (c ∷ reverse ks)
  one-marked (quote q) [] h = refl
  one-marked (item i) [] h = ap (λ b. cond (not b) [] (item i ∷ [])) (sym (no-mark i h))
  one-marked (footnote f) [] h = ap (λ b. cond (not b) [] (footnote f ∷ [])) (sym (ne_eqb f.line n (λ e. omega (arith, h, e))))
  one-marked c (k ∷ ks) h = reverse-append (k ∷ ks) (c ∷ []) ∙ ap (λ b. cond (b && not (has_marker n c)) [] (c ∷ reverse (k ∷ ks))) (sym (none_reverse k ks))

  -- if none goes on, those up to the last quote stay
  kept-none : (cs : List Container) → AllByRecursion (BeganBefore n) cs → kept_of 0 cs ≡ marked n cs
  kept-none [] h = refl
  kept-none (c ∷ cs) h =
      ap (λ (l : List Container). reverse (keep 0 l)) (reverse-append (c ∷ []) cs) ∙ ap reverse (keep-none (reverse cs) c) ∙ one-marked c (keep 0 (reverse cs)) h.0
      ∙ ap (λ (m : List Container). cond (has_none m && not (has_marker n c)) [] (c ∷ m)) (kept-none cs h.1)

-- of containers, those that go on, or more up to the last whose marker is there
abbrev AreKept : (g : ℕ) → (cs marks kept : List Container) → Type 0
AreKept g cs marks kept = ((length marks ≤ g) × (kept ≡ take g cs)) ⊎ ((g < length marks) × (kept ≡ marks))

module _ (n : ℕ) where
  kept-are : (g : ℕ) (cs : List Container) → AllByRecursion (BeganBefore n) cs → AreKept g cs (marked n cs) (kept_of g cs)
  kept-are g [] h = inl (omega arith, sym (take_all g [] (omega arith)))
  kept-are zero (c ∷ cs) h = by (marked n (c ∷ cs)) (kept-none n (c ∷ cs) h)
    where
      by : (m : List Container) → kept_of 0 (c ∷ cs) ≡ m → AreKept 0 (c ∷ cs) m (kept_of 0 (c ∷ cs))
      by [] e = inl (omega arith, e)
      by (d ∷ ds) e = inr (omega arith, e)
  kept-are (suc g) (c ∷ cs) h = by (marked n cs) (not (has_marker n c)) (kept-are g cs h.1)
    where
      by : (m : List Container) (b : Bool) → AreKept g cs m (kept_of g cs) → AreKept (suc g) (c ∷ cs) (cond (has_none m && b) [] (c ∷ m)) (kept_of (suc g) (c ∷ cs))
      by [] true (inl t) = inl (omega arith, kept-first g c cs ∙ ap (λ l. c ∷ l) t.1)
      by [] false (inl t) = inl (omega arith, kept-first g c cs ∙ ap (λ l. c ∷ l) t.1)
      by [] b (inr t) = absurd (let less = t.0 in omega (arith, less))
      by (d ∷ ds) b (inl t) = let le = t.0 in inl (omega (arith, le), kept-first g c cs ∙ ap (λ l. c ∷ l) t.1)
      by (d ∷ ds) b (inr t) = let less = t.0 in inr (omega (arith, less), kept-first g c cs ∙ ap (λ l. c ∷ l) t.1)

  marked-front : (cs : List Container) → IsFront (marked n cs) cs
  marked-front [] = front_none []
  marked-front (c ∷ cs) = by (has_none (marked n cs) && not (has_marker n c)) (marked-front cs)
    where
      by : (b : Bool) → IsFront (marked n cs) cs → IsFront (cond b [] (c ∷ marked n cs)) (c ∷ cs)
      by true h = front_none (c ∷ cs)
      by false h = (h.0, ap (λ l. c ∷ l) h.1)

  -- a line has the markers of all containers up to those that begin in it
  begun-mark : (c : Container) → BeginsIn n c → has_marker n c ≡ true
  begun-mark (quote q) h = refl
  begun-mark (footnote f) h = eq-eqb f.line n h
  begun-mark (item i) h = eq-eqb i.line n h.0

  all-marked : (cs : List Container) → AllByRecursion (BeginsIn n) cs → marked n cs ≡ cs
  all-marked [] h = refl
  all-marked (c ∷ cs) h = by (has_none (marked n cs)) (has_marker n c) (begun-mark c h.0) ∙ ap (λ l. c ∷ l) (all-marked cs h.1)
    where
      by : (x y : Bool) → y ≡ true → cond (x && not y) [] (c ∷ marked n cs) ≡ c ∷ marked n cs
      by true true e = refl
      by false true e = refl
      by x false e = absurd (false≢true e)

  begun-marked : (cs ds : List Container) → AllByRecursion (BeginsIn n) ds → has_none ds ≡ false → marked n (cs ++ ds) ≡ cs ++ ds
  begun-marked [] ds h some = all-marked ds h
  begun-marked (c ∷ cs) ds h some =
      let more = begun-marked cs ds h some in
      ap (λ (m : List Container). cond (has_none m && not (has_marker n c)) [] (c ∷ m)) more ∙ by cs
    where
      by : (xs : List Container) → cond (has_none (xs ++ ds) && not (has_marker n c)) [] (c ∷ (xs ++ ds)) ≡ c ∷ (xs ++ ds)
      by [] = ap (λ b. cond (b && not (has_marker n c)) [] (c ∷ ds)) some
      by (x ∷ xs) = refl

-- ---- their spans

-- each container has one at least
some-frames : (cs : List Container) → length cs ≤ length (flat_map frames_of cs)
some-frames [] = omega arith
some-frames (footnote f ∷ cs) = let more = some-frames cs in omega (arith, more)
some-frames (quote q ∷ cs) = let more = some-frames cs in omega (arith, more)
some-frames (item i ∷ cs) = let more = some-frames cs in omega (arith, more)

-- The longer of both: the spans in which the lines around stand, with a list that goes on; or those of containers up to the last marker
module _ (went marks : List Container) (g : ℕ) (list : List Frame) (front : IsFront marks went) (few : g ≤ length went) (short : length list ≤ 1) where
  abbrev own : List Frame
  own = flat_map frames_of marks

  abbrev both : List Frame
  both = flat_map frames_of (take g went) ++ list

  -- no more markers than go on
  around : length marks ≤ g → cond (nat_le (length both) (length own)) own both ≡ both
  around le = by (nat_le (length both) (length own)) refl
    where
      enough : length (take g went) ≡ g
      enough = let all = length-take g went in omega (arith, all, few)

      rest : List Container
      rest = drop (length marks) (take g went)

      split : take g went ≡ marks ++ rest
      split =
          sym (take-append-drop (length marks) (take g went)) ∙ ap (λ (l : List Container). l ++ rest) (take_of_take (length marks) g went (omega (arith, le, enough)) ∙ front_take marks went front)

      spans : both ≡ own ++ (flat_map frames_of rest ++ list)
      spans = ap (λ (l : List Frame). l ++ list) (ap (flat_map frames_of) split ∙ flat_map-append frames_of marks rest) ∙ append_assoc own (flat_map frames_of rest) list

      by : (x : Bool) → nat_le (length both) (length own) ≡ x → cond x own both ≡ both
      by true e =
          let le : length both ≤ length own = grind (arith, nat_tests) in
          let size = ap (λ (l : List Frame). length l) spans ∙ length-append own (flat_map frames_of rest ++ list) in
          let none = nil_from_length (flat_map frames_of rest ++ list) (omega (arith, le, size)) in
          sym (spans ∙ ap (λ (l : List Frame). own ++ l) none ∙ append-nil own)
      by false e = refl

  -- more markers
  inside : g < length marks → cond (nat_le (length both) (length own)) own both ≡ own
  inside less =
      let same : take g went ≡ take g marks = ap (take g) front.1 ∙ take-append-le g marks front.0 (omega (arith, less)) in
      let all : length own ≡ length (flat_map frames_of (take g marks)) + length (flat_map frames_of (drop g marks)) = ap (λ (l : List Frame). length l) (sym (flat_parts g marks)) ∙ length-append (flat_map frames_of (take g marks)) (flat_map frames_of (drop g marks)) in
      let few_both : length both ≡ length (flat_map frames_of (take g marks)) + length list = length-append (flat_map frames_of (take g went)) list ∙ ap (λ (l : List Container). length (flat_map frames_of l) + length list) same in
      let more = some-frames (drop g marks) in
      let left = length-drop g marks in
      let longer : nat_le (length both) (length own) ≡ true = grind (arith, nat_tests) in
      ap (λ b. cond b own both) longer

  longer-are : (kept : List Container) → AreKept g went marks kept → cond (nat_le (length both) (length own)) own both ≡ flat_map frames_of kept ++ cond (length kept == g) list []
  longer-are kept (inl t) =
      let size : length kept ≡ g = let all = length-take g went in let same = ap (λ (l : List Container). length l) t.1 in omega (arith, all, same, few) in
      let same : flat_map frames_of kept ++ cond (length kept == g) list [] ≡ both = λ k. flat_map frames_of (t.1 k) ++ cond (eq-eqb (length kept) g size k) list [] in
      around t.0 ∙ sym same
  longer-are kept (inr t) =
      let less = t.0 in
      let other : (length kept == g) ≡ false = let same = ap (λ (l : List Container). length l) t.1 in ne_eqb (length kept) g (λ e. omega (arith, e, same, less)) in
      inside t.0 ∙ sym ((λ k. flat_map frames_of (t.1 k) ++ cond (other k) list []) ∙ append-nil own)

-- ---- containers that have these spans

-- a list's span at most
abbrev IsOneList : List Frame → Type 0
IsOneList xs = (xs ≡ []) ⊎ ((i : Item) × (xs ≡ record { name = list_name i; line = i.list } ∷ []))

begun-list : (ps : List Prefix) → IsOneList (list_begun ps)
begun-list [] = inl refl
begun-list (p ∷ ps) = by p.container
  where
    one : (i : Item) (b : Bool) → IsOneList (cond b (record { name = list_name i; line = i.list } ∷ []) [])
    one i true = inr (i, refl)
    one i false = inl refl

    by : (c : Container) → IsOneList (elim c as (λ _. List Frame) [ quote q ↦ [] | item i ↦ cond (nat_lt i.list i.line) (record { name = list_name i; line = i.list } ∷ []) [] | footnote f ↦ [] ])
    by (quote q) = inl refl
    by (footnote f) = inl refl
    by (item i) = one i (nat_lt i.list i.line)

list-is : (rs : List Row) → IsOneList (list_at rs)
list-is [] = inl refl
list-is (r ∷ rs) = by r.is_left_blank (list-is rs) (begun-list r.begun)
  where
    by : (b : Bool) → IsOneList (list_at rs) → IsOneList (list_begun r.begun) → IsOneList (cond b (list_at rs) (list_begun r.begun))
    by true h k = h
    by false h k = k

list-short : (xs : List Frame) → IsOneList xs → length xs ≤ 1
list-short xs (inl e) = let size = ap (λ (l : List Frame). length l) e in omega (arith, size)
list-short xs (inr t) = let size = ap (λ (l : List Frame). length l) t.1 in omega (arith, size)

-- no container has it alone
none-stands : (xs : List Frame) (ds : List Container) → IsOneList xs → standing xs ds ≡ []
none-stands xs [] h = refl
none-stands xs (quote q ∷ ds) (inl e) = ap (λ (fs : List Frame). standing fs (quote q ∷ ds)) e
none-stands xs (item j ∷ ds) (inl e) = ap (λ (fs : List Frame). standing fs (item j ∷ ds)) e
none-stands xs (footnote f ∷ ds) (inl e) = ap (λ (fs : List Frame). standing fs (footnote f ∷ ds)) e
none-stands xs (quote q ∷ ds) (inr (i, e)) = ap (λ (fs : List Frame). standing fs (quote q ∷ ds)) e ∙ by (nat_le 1 i.digits)
  where
    by : (b : Bool) → let f : Frame = record { name = cond b name.ListOrdered name.ListUnordered; line = i.list } in standing (f ∷ []) (quote q ∷ ds) ≡ []
    by true = refl
    by false = refl
none-stands xs (footnote m ∷ ds) (inr (i, e)) = ap (λ (fs : List Frame). standing fs (footnote m ∷ ds)) e ∙ by (nat_le 1 i.digits)
  where
    by : (b : Bool) → let f : Frame = record { name = cond b name.ListOrdered name.ListUnordered; line = i.list } in standing (f ∷ []) (footnote m ∷ ds) ≡ []
    by true = refl
    by false = refl
none-stands xs (item j ∷ ds) (inr (i, e)) = ap (λ (fs : List Frame). standing fs (item j ∷ ds)) e ∙ by (same_name (list_name j) (list_name i) && (j.list == i.list))
  where
    by : (b : Bool) → cond (cond b 1 0 == 2) (item j ∷ standing (drop 2 (record { name = list_name i; line = i.list } ∷ [])) ds) [] ≡ []
    by true = refl
    by false = refl

stands-in : (c : Container) (xs : List Frame) → (shared (frames_of c) (frames_of c ++ xs) == length (frames_of c)) ≡ true
stands-in c xs =
    let size = ap (λ (fs : List Frame). shared fs (frames_of c ++ xs)) (sym (append-nil (frames_of c))) ∙ shared_front (frames_of c) [] xs in
    eq-eqb (shared (frames_of c) (frames_of c ++ xs)) (length (frames_of c)) (omega (arith, size))

standing-are : (cs ds : List Container) (xs : List Frame) → standing xs ds ≡ [] → standing (flat_map frames_of cs ++ xs) (cs ++ ds) ≡ cs
standing-are [] ds xs h = h
standing-are (c ∷ cs) ds xs h =
    let own = frames_of c in
    let more = flat_map frames_of cs ++ xs in
    ap (λ (fs : List Frame). standing fs (c ∷ (cs ++ ds))) (append_assoc own (flat_map frames_of cs) xs)
    ∙ ap (λ b. cond b (c ∷ standing (drop (length own) (own ++ more)) (cs ++ ds)) []) (stands-in c more)
    ∙ ap (λ (fs : List Frame). c ∷ standing fs (cs ++ ds)) (take_front own more (length own) refl).1 ∙ ap (λ l. c ∷ l) (standing-are cs ds xs h)

-- ---- spans before a line and behind it

-- of a front of the spans before, and others that begin later, the front is in both
both-are : (m : ℕ) (before needed : List Frame) (begun : List Prefix) → BeginHere m begun → AllByRecursion (λ (f : Frame). f.line < m) before → IsFront needed before → take (shared before (needed ++ all_entered begun)) before ≡ needed
both-are m before needed begun here old front =
    let ended = front.0 in
    let apart = shared_entered m begun ended here (every-back (λ (f : Frame). f.line < m) needed ended (subst (AllByRecursion (λ (f : Frame). f.line < m)) front.1 old)) in
    let all = shared_front needed ended (all_entered begun) in
    let size : shared before (needed ++ all_entered begun) ≡ length needed = ap (λ (fs : List Frame). shared fs (needed ++ all_entered begun)) front.1 ∙ omega (arith, apart, all) in
    (λ k. take (size k) (front.1 k)) ∙ (take_front needed ended (length needed) refl).0

shared-within : (m : ℕ) (begun : List Prefix) (xs ys : List Frame) → BeginHere m begun → AllByRecursion (λ (f : Frame). f.line < m) xs → shared xs (ys ++ all_entered begun) ≤ length ys
shared-within m begun [] ys here old = omega arith
shared-within m begun (x ∷ xs) [] here old = let none = shared_entered m begun (x ∷ xs) here old in omega (arith, none)
shared-within m begun (x ∷ xs) (y ∷ ys) here old = by (same_name x.name y.name && (x.line == y.line)) (shared-within m begun xs ys here old.1)
  where
    by : (b : Bool) → shared xs (ys ++ all_entered begun) ≤ length ys → cond b (suc (shared xs (ys ++ all_entered begun))) 0 ≤ suc (length ys)
    by true le = omega (arith, le)
    by false le = omega arith

-- The spans of the next line that is not left blank, by those of the stack: those that it goes on with, and those that it enters
record IsNext (stack : List Container) (depth number : ℕ) (behind : List Frame) (going : ℕ) (list : List Frame) : Type 0 where
  line : ℕ
  begun : List Prefix
  later : number ≤ line
  here : BeginHere line begun
  are : behind ≡ (flat_map frames_of (take going stack) ++ list) ++ all_entered begun
  few : going ≤ depth
  front : IsFront (flat_map frames_of (take going stack) ++ list) (flat_map frames_of stack)

module _ (on : Constructs) (R : Reads on) where
  next-is : (b : R.Known) (n : ℕ) (ls : List Line) → AllByRecursion (BeganBefore n) (R.before b).stack → let rs = read_from on R b n ls in IsNext (R.before b).stack (R.before b).depth n (frames_behind rs) (going_on_at rs) (list_at rs)
  next-is b n [] old = record { line = n; begun = []; later = omega arith; here = tt; are = refl; few = omega arith; front = front_none (flat_map frames_of (R.before b).stack) }
  next-is b n (l ∷ ls) old = by head.is_left_blank refl (next-is next (suc n) ls (old_behind on R b n l old))
    where
      head : Row
      head = row on R b n l

      next : R.Known
      next = R.next b head

      others : List Row
      others = read_from on R next (suc n) ls

      stack : List Container
      stack = (R.before b).stack

      few : (length head.went_on ≤ (R.before b).depth) × (length head.went_on ≤ length stack)
      few = went_within on (R.before b) n l

      by : (x : Bool) → head.is_left_blank ≡ x → IsNext (R.before next).stack (R.before next).depth (suc n) (frames_behind others) (going_on_at others) (list_at others)
          → IsNext stack (R.before b).depth n (cond x (frames_behind others) (flat_map frames_of (containers_in head))) (cond x (going_on_at others) (length head.went_on)) (cond x (list_at others) (list_begun head.begun))
      by true e h =
          let k = subst (λ (x : Before). IsNext x.stack x.depth (suc n) (frames_behind others) (going_on_at others) (list_at others)) (behind_left on R b n l e) h in
          let later = k.later in
          let less = k.few in
          let within = few.0 in
          record { line = k.line; begun = k.begun; later = omega (arith, later); here = k.here; are = k.are; few = omega (arith, less, within); front = k.front }
      by false e h =
          let went = containers_of head.went_on in
          let is = begun_are on (R.before b) n l old in
          let list = list_begun head.begun in
          let going = take (length head.went_on) stack in
          let same : went ≡ going = went_are on (R.before b) n l in
          record {
            line = n;
            begun = head.begun;
            later = omega arith;
            here = is.0;
            are =
                flat_map-append frames_of went (containers_of head.begun) ∙ ap (λ (l : List Frame). flat_map frames_of went ++ l) (begun_entered n head.begun is.0) ∙ sym (append_assoc (flat_map frames_of went) list (all_entered head.begun))
                ∙ ap (λ (cs : List Container). (flat_map frames_of cs ++ list) ++ all_entered head.begun) same;
            few = few.0;
            front =
                subst (IsFront (flat_map frames_of going ++ list)) (flat_parts (length head.went_on) stack)
                (front_more (flat_map frames_of going) list (flat_map frames_of (drop (length head.went_on) stack)) is.1);
          }

  -- ---- one line, by the spans that are open before it
  module _ (fs : List Frame) (b : R.Known) (n : ℕ) (l : Line) (ls : List Line) (h : AreOpen on R fs b n (l ∷ ls)) where
    abbrev head : Row
    head = row on R b n l

    abbrev next : R.Known
    next = R.next b head

    abbrev others : List Row
    others = read_from on R next (suc n) ls

    abbrev went : List Container
    went = containers_of head.went_on

    abbrev stack : List Container
    stack = (R.before b).stack

    abbrev g : ℕ
    g = going_on_at others

    abbrev needed : List Container → List Frame
    needed cs = flat_map frames_of (take g cs) ++ list_at others

    behind : IsNext (R.before next).stack (R.before next).depth (suc n) (frames_behind others) g (list_at others)
    behind = next-is next (suc n) ls (old_behind on R b n l h.old)

    older : AllByRecursion (λ (f : Frame). f.line < behind.line) fs
    older = let later = behind.later in every-map (λ (f : Frame). f.line < n) (λ (f : Frame). f.line < behind.line) (λ f less. omega (arith, less, later)) fs h.before

    abbrev IsSame : Type 0
    IsSame = (frames_at fs head others ≡ now.frames_at head others) × (standing (now.frames_at head others) (containers_in head) ≡ now.standing head others)

    -- a line that is left blank
    module _ (left : head.is_left_blank ≡ true) where
      abbrev kept : List Container
      kept = kept_of g went

      known : R.before next ≡ record (R.before b) { depth = length head.went_on; leaf = closed }
      known = behind_left on R b n l left

      old : AllByRecursion (BeganBefore n) went
      old = subst (AllByRecursion (BeganBefore n)) (sym (went_are on (R.before b) n l)) (every-take (BeganBefore n) (length head.went_on) stack h.old)

      few : g ≤ length went
      few =
          let going = behind.few in
          let depth = ap (λ (x : Before). x.depth) known in
          let size = length-map head.went_on (λ (p : Prefix). p.container) in
          omega (arith, going, depth, size)

      in-went : needed stack ≡ needed went
      in-went =
          let few_here = few in
          let same = went_are on (R.before b) n l in
          let all = ap (λ (cs : List Container). length cs) same in
          ap (λ (cs : List Container). flat_map frames_of cs ++ list_at others) (sym (ap (take g) same ∙ take_of_take g (length head.went_on) stack (omega (arith, few_here, all))))

      needed-front : IsFront (needed stack) fs
      needed-front = subst (λ x. IsFront (flat_map frames_of (take (cond x g (length head.went_on)) stack) ++ cond x (list_at others) (list_begun head.begun)) fs) left h.needed

      both-is : take (shared fs (frames_behind others)) fs ≡ needed went
      both-is =
          let same : frames_behind others ≡ needed stack ++ all_entered behind.begun = behind.are ∙ ap (λ (x : Before). needed x.stack ++ all_entered behind.begun) known in
          ap (λ (gs : List Frame). take (shared fs gs) fs) same ∙ both-are behind.line fs (needed stack) behind.begun behind.here older needed-front ∙ in-went

      all-went : containers_in head ≡ went
      all-went = ap (λ (ps : List Prefix). went ++ containers_of ps) (none_is head.begun (left_is on (R.before b) n l left).1) ∙ append-nil went

      stands : now.standing head others ≡ kept
      stands = standing_blank head others (left_is on (R.before b) n l left).0 (left_is on (R.before b) n l left).1 old

      abbrev list : List Frame
      list = cond (length kept == g) (list_at others) []

      frames-now : now.frames_at head others ≡ flat_map frames_of kept ++ list
      frames-now = (λ k. flat_map frames_of (stands k) ++ cond (left k && (length (stands k) == g)) (list_at others) [])

      frames-new : frames_at fs head others ≡ flat_map frames_of kept ++ list
      frames-new =
          (λ k.
          let both = both-is k in
          let own = flat_map frames_of (marked n (all-went k)) in
          cond ((left_is on (R.before b) n l left).0 k) (cond (nat_le (length both) (length own)) own both) (flat_map frames_of (containers_in head)))
          ∙ longer-are went (marked n went) g (list_at others) (marked-front n went) few (list-short (list_at others) (list-is others)) kept (kept-are n g went old)

      one : IsOneList list
      one = by (length kept == g) (list-is others)
        where
          by : (b : Bool) → IsOneList (list_at others) → IsOneList (cond b (list_at others) [])
          by true k = k
          by false k = inl refl

      stands-new : standing (now.frames_at head others) (containers_in head) ≡ now.standing head others
      stands-new =
          let front = kept_front g went in
          (λ k. standing (frames-now k) ((all-went ∙ front.1) k)) ∙ standing-are kept front.0 list (none-stands list front.0 one) ∙ sym stands

      blank-same : IsSame
      blank-same = (frames-new ∙ sym frames-now, stands-new)

    -- any other line
    module _ (left : head.is_left_blank ≡ false) where
      abbrev whole : List Frame
      whole = flat_map frames_of (containers_in head)

      is-fresh : (head.is_lazy ≡ false) × ((head.is_blank ≡ false) ⊎ (has_none head.begun ≡ false))
      is-fresh = fresh on (R.before b) n l others h.none_open left

      all-stands : now.standing head others ≡ containers_in head
      all-stands = (is_part on R fs b n l ls h).stands is-fresh.1

      all-frames : now.frames_at head others ≡ whole
      all-frames = (λ k. flat_map frames_of (all-stands k) ++ cond (left k && (length (all-stands k) == g)) (list_at others) []) ∙ append-nil whole

      -- containers begin in it
      begun-frames : has_none head.begun ≡ false → let both = take (shared fs (frames_behind others)) fs in let some = flat_map frames_of (marked n (containers_in head)) in cond (nat_le (length both) (length some)) some both ≡ whole
      begun-frames some =
          let here = (begun_are on (R.before b) n l h.old).0 in
          let all : marked n (containers_in head) ≡ containers_in head = begun-marked n went (containers_of head.begun) (begun_in n head.begun here) (some-of head.begun some) in
          let both = take (shared fs (frames_behind others)) fs in
          let within = shared-within behind.line behind.begun fs (needed (R.before next).stack) behind.here older in
          let is = ap (λ (gs : List Frame). shared fs gs) behind.are in
          let front = ap (λ (gs : List Frame). length gs) behind.front.1 ∙ length-append (needed (R.before next).stack) behind.front.0 in
          let size = length-take (shared fs (frames_behind others)) fs in
          let same = ap (λ (cs : List Container). length (flat_map frames_of cs)) (behind_other on R b n l left is-fresh.0) in
          let few : length both ≤ length whole = omega (arith, within, is, front, size, same) in
          let longer : nat_le (length both) (length whole) ≡ true = grind (arith, nat_tests) in
          ap (λ (cs : List Container). cond (nat_le (length both) (length (flat_map frames_of cs))) (flat_map frames_of cs) both) all ∙ ap (λ b. cond b whole both) longer
        where
          some-of : (ps : List Prefix) → has_none ps ≡ false → has_none (containers_of ps) ≡ false
          some-of [] e = e
          some-of (p ∷ ps) e = refl

      other-frames : frames_at fs head others ≡ whole
      other-frames = by head.is_blank is-fresh.1
        where
          by : (x : Bool) → (x ≡ false) ⊎ (has_none head.begun ≡ false)
              → let both = take (shared fs (frames_behind others)) fs in let some = flat_map frames_of (marked n (containers_in head)) in cond x (cond (nat_le (length both) (length some)) some both) whole ≡ whole
          by false e = refl
          by true (inl e) = absurd (false≢true (sym e))
          by true (inr e) = begun-frames e

      other-same : IsSame
      other-same = (
        other-frames ∙ sym all-frames,
        (λ k. standing ((all-frames ∙ sym (append-nil whole)) k) (sym (append-nil (containers_in head)) k)) ∙ standing-are (containers_in head) [] [] refl ∙ sym all-stands,
      )

    is-same : IsSame
    is-same = by head.is_left_blank refl
      where
        by : (x : Bool) → head.is_left_blank ≡ x → IsSame
        by true left = blank-same left
        by false left = other-same left

  -- ---- all lines
  same-parts : (bound : ℕ) (fs : List Frame) (b : R.Known) (n : ℕ) (ls : List Line) → AreOpen on R fs b n ls → parts_in bound fs (read_from on R b n ls) ≡ now.parts_in bound (read_from on R b n ls)
  same-parts zero fs b n ls h = refl
  same-parts (suc bound) fs b n [] h = refl
  same-parts (suc bound) fs b n (l ∷ ls) h =
      let same = is-same fs b n l ls h in
      let behind = (is_part on R fs b n l ls h).behind in
      let rest = ap (parts_in bound frames) behind.rest ∙ same-parts bound frames behind.state behind.number behind.lines behind.are_open ∙ ap (now.parts_in bound) (sym behind.rest) in
      ap (λ (gs : List Frame). part gs (standing gs (containers_in r)) ∷ parts_in bound gs (drop k rs)) same.0
      ∙ (λ i. part frames (same.1 i) ∷ rest i)
    where
      r : Row
      r = row on R b n l

      rs : List Row
      rs = read_from on R (R.next b r) (suc n) ls

      k : ℕ
      k = cond r.is_blank 0 (further rs)

      frames : List Frame
      frames = now.frames_at r rs

      part : List Frame → List Container → Part
      part gs cs = record { first = r; more = take k rs; frames = gs; stands = cs }

  -- of the lines of a document, from its beginning on
  pub document-parts : (b : R.Known) (ls : List Line) → (R.before b).stack ≡ [] → (R.before b).leaf ≡ closed → parts (read_from on R b 1 ls) ≡ now.parts (read_from on R b 1 ls)
  document-parts b ls e free = same-parts (length (read_from on R b 1 ls)) [] b 1 ls (none_are_open on R b ls e free)

-- Parts of documents are those of containers
pub parts-are-those : PartsAreThose
parts-are-those on ls = document-parts on (known-reads on) (nothing on) ls refl refl
