-- The sections of a part, one by one.
use Rattle.std.proofs.Common.{◌≡◌, ℕ, zero, suc, ◌+◌, ◌-◌, ◌*◌, ◌^◌, ◌<◌, ◌≤◌, Bool, true, false, cond, List, [], ◌∷◌, ◌++◌, append_assoc, get_or, length, length-append, drop, take, refl, sym, ap, ◌∙◌, subst, arith}
use Rattle.std.specs.Prelude.{◌||◌}
use Rattle.std.specs.List.{flat_map, list_any}
use Rattle.std.proofs.lemmas.List.{drop-append-le, drop_more, take-append-le}
use Rattle.std.proofs.Math.Seq.{drop-length, take-length}
use Rattle.std.proofs.Math.Bool.{or_assoc}
use Rattle.mdblock_lines.specs.Containers.{Container}
use Rattle.mdblock_containers.specs.declared.parts.PartEnd.{PartEnd}
use Rattle.mdblock_containers.specs.declared.prefixes.At.{At}
use Rattle.mdblock_containers.specs.declared.spans.RowAt.{RowAt}
use Rattle.mdblock_containers.specs.Prefixes.{columns_of}
use Rattle.mdblock_containers.specs.Rows.{Row, has_none}
use Rattle.mdblock_containers.specs.Skeleton.{Part}
use Rattle.mdblock_definitions.specs.declared.sections.Section.{Section as CodeSection}
use Rattle.mdblock_definitions.specs.Sectioned.{AreBegun, AreInLines, AreLater, AreSectionsOf, AreSound, HasEnd, IsBegun, IsEnd, IsLater, IsSectionOf, IsSound}
use Rattle.mdblock_definitions.specs.Sections.{Section, lines}
use Rattle.mdblock_definitions.specs.Seen.{AreSections, IsSection}
use Rattle.mdblock_definitions.specs.Within.{AreWithin, last_of}
use Rattle.mdblock_definitions.proofs.Covered.{rows_of}
use Rattle.mdblock_definitions.proofs.SectionCuts.{AreBoth, both-behind, both-of, first-section, later-section}
use Rattle.mdblock_definitions.proofs.Sectioned.{end-ending, end-place}
use Rattle.mdblock_definitions.proofs.Within.{section-lines}

-- one of the sections of a part
abbrev pub section-of : Part → List Section → ℕ → Section
section-of p ss k = get_or ss k (record { part = p; inside = lines false })

pub next-section : (p : Part) (ss : List Section) (k : ℕ) → k < length ss → drop k ss ≡ section-of p ss k ∷ drop (k + 1) ss
next-section p ss k h = drop_more ss k (record { part = p; inside = lines false }) h

-- ---- the code's sections

pub sections-size : (xs : List CodeSection) (ss : List Section) → AreSections xs ss → length xs ≡ length ss
sections-size [] [] h = refl
sections-size [] (s ∷ ss) h = absurd h
sections-size (x ∷ xs) [] h = absurd h
sections-size (x ∷ xs) (s ∷ ss) h = ap suc (sections-size xs ss h.1)

pub sections-behind : (k : ℕ) (xs : List CodeSection) (ss : List Section) → AreSections xs ss → AreSections (drop k xs) (drop k ss)
sections-behind zero xs ss h = h
sections-behind (suc k) [] [] h = h
sections-behind (suc k) [] (s ∷ ss) h = absurd h
sections-behind (suc k) (x ∷ xs) [] h = absurd h
sections-behind (suc k) (x ∷ xs) (s ∷ ss) h = sections-behind k xs ss h.1

-- the one at an index
pub section-at : (xs : List CodeSection) (k : ℕ) (x : CodeSection) (s : Section) (ss : List Section) → x ≡ get_or xs k x → AreSections (drop k xs) (s ∷ ss) → IsSection x s
section-at [] zero x s ss e h = absurd h
section-at [] (suc k) x s ss e h = absurd h
section-at (y ∷ ys) zero x s ss e h = subst (λ (z : CodeSection). IsSection z s) (sym e) h.0
section-at (y ∷ ys) (suc k) x s ss e h = section-at ys k x s ss e h

-- ---- the last of so many

last-suc : (p q : Part) (ss : List Section) (k : ℕ) → k < length ss → last_of p (take (suc k) ss) ≡ (section-of q ss k).part
last-suc p q [] k h = absurd (omega (arith, h))
last-suc p q (s ∷ ss) zero h = refl
last-suc p q (s ∷ ss) (suc k) h = last-suc s.part q ss k (omega (arith, h))

pub last-next : (p q : Part) (ss : List Section) (k : ℕ) → k < length ss → last_of p (take (k + 1) ss) ≡ (section-of q ss k).part
last-next p q ss k h =
    let one : k + 1 ≡ suc k = omega arith in
    ap (λ n. last_of p (take n ss)) one ∙ last-suc p q ss k h

-- ---- what was written so far, and what is left

pub letters-next : (f : Section → List ℕ) (s : Section) (ss left : List Section) (old new all : List ℕ) → left ≡ s ∷ ss → new ≡ old ++ f s → old ++ flat_map f left ≡ all → new ++ flat_map f ss ≡ all
letters-next f s ss left old new all e w h = ap (λ l. l ++ flat_map f ss) w ∙ append_assoc old (f s) (flat_map f ss) ∙ ap (λ l. old ++ flat_map f l) (sym e) ∙ h

any-both : {A : Type 0} (f : A → Bool) (xs ys : List A) → list_any f (xs ++ ys) ≡ (list_any f xs || list_any f ys)
any-both f [] ys = refl
any-both f (x ∷ xs) ys = by (f x) (any-both f xs ys)
  where
    by : (b : Bool) → list_any f (xs ++ ys) ≡ (list_any f xs || list_any f ys) → (b || list_any f (xs ++ ys)) ≡ ((b || list_any f xs) || list_any f ys)
    by true e = refl
    by false e = e

pub labels-next : (f : List ℕ → Bool) (g : Section → List (List ℕ)) (s : Section) (ss left : List Section) (old new all : Bool) → left ≡ s ∷ ss → new ≡ (old || list_any f (g s)) → (old || list_any f (flat_map g left)) ≡ all
    → (new || list_any f (flat_map g ss)) ≡ all
labels-next f g s ss left old new all e w h =
    ap (λ b. b || list_any f (flat_map g ss)) w ∙ or_assoc old (list_any f (g s)) (list_any f (flat_map g ss)) ∙ ap (λ b. old || b) (sym (any-both f (g s) (flat_map g ss))) ∙ ap (λ l. old || list_any f (flat_map g l)) (sym e) ∙ h

-- ---- their lines

module _ (t : ℕ) (bytes : List ℕ) (stack : List Container) where
  pub lines-many : (left : List RowAt) (s : Section) (ss : List Section) → AreInLines t bytes stack left (s ∷ ss) → length s.part.more < length left
  lines-many [] s ss h = absurd h
  lines-many (x ∷ xs) s ss h = omega (arith, h.1.1.0)

  -- the first of the sections that are left, by so many lines of it
  pub record Turn (left : List RowAt) (x : RowAt) (m : ℕ) (s : Section) (ss : List Section) : Type 0 where
    pub is : IsSectionOf t bytes stack x (take (m - 1) (drop 1 left)) s.part
    pub sound : IsSound s.part s.inside
    pub later : AreLater t bytes stack (drop m left) ss
    pub more : AreInLines t bytes stack (drop m left) ss

  pub turn-of : (left : List RowAt) (x : RowAt) (m : ℕ) (s : Section) (ss : List Section) → x ≡ get_or left 0 x → m ≡ length s.part.more + 1 → AreInLines t bytes stack left (s ∷ ss) → Turn left x m s ss
  turn-of [] x m s ss e i h = absurd h
  turn-of (y ∷ ys) x m s ss e i h =
      let n = length s.part.more in
      let one : n ≡ m - 1 = omega (arith, i) in
      let all : suc n ≡ m = omega (arith, i) in
      record {
        is = subst (λ (k : ℕ). IsSectionOf t bytes stack x (take k ys) s.part) one (subst (λ (z : RowAt). IsSectionOf t bytes stack z (take n ys) s.part) (sym e) h.0);
        sound = h.1.0;
        later = subst (λ (k : ℕ). AreLater t bytes stack (drop k (y ∷ ys)) ss) all h.1.1.1.0;
        more = subst (λ (k : ℕ). AreInLines t bytes stack (drop k (y ∷ ys)) ss) all h.1.1.1.1;
      }

  -- the first section of a part begins where the part does
  pub first-begun : (x : RowAt) (rows xs : List RowAt) (p : Part) (ss : List Section) (at : At) → rows ≡ x ∷ xs → AreSectionsOf p ss → IsBegun t bytes p x at → AreBegun t bytes rows ss at
  first-begun x rows xs p ss at er are b = subst (λ (l : List RowAt). AreBegun t bytes l ss at) (sym er) (by ss are)
    where
      by : (ss : List Section) → AreSectionsOf p ss → AreBegun t bytes (x ∷ xs) ss at
      by [] k = tt
      by (q ∷ qs) k =
          let first : p.first ≡ q.part.first = sym (section-lines q qs p.first p.more k.lines).0 in
          let stands : p.stands ≡ q.part.stands = sym k.within.0.1 in
          record {
            columns = b.columns ∙ ap (λ (r : Row). cond r.is_blank (cond (has_none r.begun) (columns_of (take (length p.stands) r.went_on)) r.columns) r.columns) first
                ∙ ap (λ (l : List Container). cond q.part.first.is_blank (cond (has_none q.part.first.begun) (columns_of (take (length l) q.part.first.went_on)) q.part.first.columns) q.part.first.columns) stands;
            place = b.place;
          }

module _ (t : ℕ) (bytes : List ℕ) (some : 0 < t) (limit : t * length bytes + 1 < 2 ^ 64) (stack : List Container) where
  front-of : (s : Section) (rs : List Row) → s.part.more ≡ take (length s.part.more) (s.part.more ++ rs)
  front-of s rs = sym (take-length s.part.more) ∙ sym (take-append-le (length s.part.more) s.part.more rs (omega arith))

  back-of : (s : Section) (rs : List Row) → drop (length s.part.more) (s.part.more ++ rs) ≡ rs
  back-of s rs = drop-append-le (length s.part.more) s.part.more rs (omega arith) ∙ ap (λ l. l ++ rs) (drop-length s.part.more)

  both-size : (xs : List RowAt) (rs : List Row) (behind : List RowAt) (rest : List Row) → AreBoth t bytes some limit stack xs rs behind rest → length xs ≡ length rs
  both-size [] [] behind rest b = refl
  both-size [] (r ∷ rs) behind rest b = absurd b.further
  both-size (x ∷ xs) [] behind rest b = absurd b.further
  both-size (x ∷ xs) (r ∷ rs) behind rest b = ap suc (both-size xs rs behind rest (both-behind t bytes some limit stack 1 (x ∷ xs) (r ∷ rs) behind rest b))

  -- further sections are in the lines that are left
  later-lines : (around : Part) (ss : List Section) (xs behind : List RowAt) (rest : List Row) → AreWithin around ss → AreSound ss → length stack ≤ length around.stands → AreBoth t bytes some limit stack xs (rows_of ss) behind rest
      → AreLater t bytes stack xs ss × AreInLines t bytes stack xs ss
  later-lines around [] [] behind rest w sound h b = (tt, tt)
  later-lines around [] (x ∷ xs) behind rest w sound h b = absurd b.further
  later-lines around (s ∷ ss) [] behind rest w sound h b = absurd b.further
  later-lines around (s ∷ ss) (x ∷ xs) behind rest w sound h b =
      let n = length s.part.more in
      let later : IsLater t bytes stack x (take n xs) s.part = later-section t bytes some limit stack n x xs s.part.first (s.part.more ++ rows_of ss) behind rest s.part b refl (front-of s (rows_of ss)) in
      let next : AreBoth t bytes some limit stack (drop n xs) (rows_of ss) behind rest =
      subst (λ (l : List Row). AreBoth t bytes some limit stack (drop n xs) l behind rest) (back-of s (rows_of ss)) (both-behind t bytes some limit stack (suc n) (x ∷ xs) (s.part.first ∷ (s.part.more ++ rows_of ss)) behind rest b) in
      let more = later-lines around ss (drop n xs) behind rest w.1 sound.1 h next in
      let few : n ≤ length xs = omega (arith, both-size (x ∷ xs) (s.part.first ∷ (s.part.more ++ rows_of ss)) behind rest b, length-append s.part.more (rows_of ss)) in
      ((later, omega (arith, h, ap (λ (l : List Container). length l) w.0.1)), (later.is, (sound.0, (few, more))))

  -- all sections of a part are in its lines
  pub section-in-lines : (x : RowAt) (xs : List RowAt) (around : Part) (ss : List Section) → IsSectionOf t bytes stack x xs around → AreSectionsOf around ss → length stack ≤ length around.stands → AreInLines t bytes stack (x ∷ xs) ss
  section-in-lines x xs around [] s are h = absurd (omega (arith, ap (λ (l : List Row). length l) are.lines))
  section-in-lines x xs around (q ∷ qs) s are h =
      let n = length q.part.more in
      let cut = section-lines q qs around.first around.more are.lines in
      let first : IsSectionOf t bytes stack x (take n xs) q.part = first-section t bytes some limit stack n x xs around q.part s cut.0 cut.1 in
      let all = both-of t bytes some limit stack x xs around s in
      let next : AreBoth t bytes some limit stack (drop n xs) (rows_of qs) s.behind s.rest =
      subst (λ (l : List Row). AreBoth t bytes some limit stack (drop n xs) l s.behind s.rest) (sym cut.2) (both-behind t bytes some limit stack n xs around.more s.behind s.rest all) in
      let more = later-lines around qs (drop n xs) s.behind s.rest are.within.1 are.sound.1 h next in
      let few : n ≤ length xs = omega (arith, both-size xs around.more s.behind s.rest all, ap (λ (l : List Row). length l) are.lines, length-append q.part.more (rows_of qs)) in
      (first, (are.sound.0, (few, more)))

  pub has-end : (x : RowAt) (xs : List RowAt) (p : Part) (s : IsSectionOf t bytes stack x xs p) (e : PartEnd) → IsEnd x xs e → HasEnd bytes p e
  has-end x xs p s e i = record {
    place = end-place t bytes some limit stack x xs p s e i.blank i.place i.behind;
    ending = end-ending t bytes some limit stack x xs p s e i.blank i.place i.behind;
  }
