-- Chains of chunks among marks: a chunk that has a next one is followed by its exit, by whole spans, and by that one.
use Rattle.std.proofs.Common.{◌≡◌, ℕ, zero, suc, ◌+◌, ◌-◌, ◌<◌, ◌≤◌, Bool, true, false, cond, List, [], ◌∷◌, ◌++◌, take, drop, refl, sym, ap, ◌∙◌, subst, arith, inl, inr, ◌⊎◌}
use Rattle.std.specs.Prelude.{Option, None, Some, is_some, option_map, unwrap_or}
use Rattle.std.proofs.lemmas.Bool.{false≢true}
use Rattle.markdown_base.specs.declared.event.Content.{Content}
use Rattle.markdown_base.specs.declared.event.Content.TheVariants as content
use Rattle.markdown_base.specs.declared.event.Event.{Event}
use Rattle.markdown_base.specs.declared.event.Name.{Name}
use Rattle.markdown_base.specs.declared.event.Point.{Point}
use Rattle.markdown_base.specs.Places.{stands_before}
use Rattle.markdown_base.proofs.Balanced.{names_after_all-append}
use Rattle.markdown_edits.specs.Links.{AreMutual, content_at, next_of, previous_of}
use Rattle.markdown_base.specs.OpenNames.{names_after_all}
use Rattle.markdown_children.specs.Ready.{place_at}
use Rattle.mdblock_leaf_blocks.proofs.Marks.MarkAccounts.{bare}
use Rattle.mdblock_leaf_blocks.specs.LeafEvents.{Chunk, Mark}
use Rattle.mdblock_containers.specs.Skeleton.{chained_from, next_chunk}

-- a chunk's exit is at the beginning of a line, and the chunk behind it stands later in that line
pub record IsFurther (p q : Point) : Type 0 where
  pub later : stands_before p q ≡ true
  pub begins : p.column ≡ 1
  pub line : q.line ≡ p.line

-- what has to come: nothing, the exit of a chunk, or the next chunk behind whole spans, of which these are open
pub data Due : Type 0 where
  idle : Due
  an_exit : Due
  a_chunk : Point → Option (List Name) → Due

abbrev pub next_due : Bool → Due
next_due has_next = cond has_next an_exit idle

abbrev pub Runs : List Mark → Due → Type 0
Runs [] idle = Unit {0}
Runs [] an_exit = ⊥
Runs [] (a_chunk p o) = ⊥
Runs ((e, None) ∷ ms) idle = (e.link ≡ None) × Runs ms idle
Runs ((e, None) ∷ ms) an_exit = (e.link ≡ None) × Runs ms (a_chunk e.point (Some []))
Runs ((e, None) ∷ ms) (a_chunk p o) = (e.link ≡ None) × Runs ms (a_chunk p (names_after_all o (e ∷ [])))
Runs ((e, Some k) ∷ ms) idle = (k.content ≡ content.Content) × (k.has_previous ≡ false) × Runs ms (next_due k.has_next)
Runs ((e, Some k) ∷ ms) an_exit = ⊥
Runs ((e, Some k) ∷ ms) (a_chunk p o) = (k.content ≡ content.Content) × (k.has_previous ≡ true) × (o ≡ Some []) × IsFurther p e.point × Runs ms (next_due k.has_next)

pub runs_both : (xs ys : List Mark) (d : Due) → Runs xs d → Runs ys idle → Runs (xs ++ ys) d
runs_both [] ys idle h k = k
runs_both [] ys an_exit h k = absurd h
runs_both [] ys (a_chunk p o) h k = absurd h
runs_both ((e, None) ∷ xs) ys idle h k = (h.0, runs_both xs ys idle h.1 k)
runs_both ((e, None) ∷ xs) ys an_exit h k = (h.0, runs_both xs ys (a_chunk e.point (Some [])) h.1 k)
runs_both ((e, None) ∷ xs) ys (a_chunk p o) h k = (h.0, runs_both xs ys (a_chunk p (names_after_all o (e ∷ []))) h.1 k)
runs_both ((e, Some m) ∷ xs) ys idle h k = (h.0, h.1, runs_both xs ys (next_due m.has_next) h.2 k)
runs_both ((e, Some m) ∷ xs) ys an_exit h k = absurd h
runs_both ((e, Some m) ∷ xs) ys (a_chunk p o) h k = (h.0, h.1, h.2, h.3, runs_both xs ys (next_due m.has_next) h.4 k)

-- marks that begin no chunk, and have no link
abbrev pub Unlinked : List Mark → Type 0
Unlinked [] = Unit {0}
Unlinked ((e, None) ∷ ms) = (e.link ≡ None) × Unlinked ms
Unlinked ((e, Some k) ∷ ms) = ⊥

pub unlinked_both : (xs ys : List Mark) → Unlinked xs → Unlinked ys → Unlinked (xs ++ ys)
unlinked_both [] ys h k = k
unlinked_both ((e, None) ∷ xs) ys h k = (h.0, unlinked_both xs ys h.1 k)
unlinked_both ((e, Some m) ∷ xs) ys h k = absurd h

pub unlinked_runs : (ms : List Mark) → Unlinked ms → Runs ms idle
unlinked_runs [] h = tt
unlinked_runs ((e, None) ∷ ms) h = (h.0, unlinked_runs ms h.1)
unlinked_runs ((e, Some m) ∷ ms) h = absurd h

-- such marks between two chunks
pub unlinked_gap : (ms ys : List Mark) (p : Point) (o : Option (List Name)) → Unlinked ms → Runs ys (a_chunk p (names_after_all o (bare ms))) → Runs (ms ++ ys) (a_chunk p o)
unlinked_gap [] ys p None h k = k
unlinked_gap [] ys p (Some st) h k = k
unlinked_gap ((e, None) ∷ ms) ys p o h k = (h.0, unlinked_gap ms ys p (names_after_all o (e ∷ [])) h.1 (subst (λ (x : Option (List Name)). Runs ys (a_chunk p x)) (names_after_all-append o (e ∷ []) (bare ms)) k))
unlinked_gap ((e, Some m) ∷ ms) ys p o h k = absurd h

-- ---- by indices

-- the chunk at j comes next, in a list whose first event has the index i
pub record IsAhead (es : List Event) (i j : ℕ) (p : Point) (o : Option (List Name)) (previous : Option ℕ) : Type 0 where
  pub balanced : names_after_all o (take j es) ≡ Some []
  pub none : (m : ℕ) → m < j → content_at es m ≡ None
  pub further : IsFurther p (place_at es j)
  pub back : previous_of es j ≡ previous
  pub read_as : content_at es j ≡ Some content.Content

pub bare_content : (e : Event) (es : List Event) → e.link ≡ None → content_at (e ∷ es) 0 ≡ None
bare_content e es h = ap (option_map (λ (l : _). l.content)) h

pub ahead : (i d : ℕ) (previous : Option ℕ) (ms : List Mark) (p : Point) (o : Option (List Name)) → Runs ms (a_chunk p o) → next_chunk i ms ≡ Some d → (j : ℕ) × (d ≡ i + j) × IsAhead (chained_from i previous ms) i j p o previous
ahead i d previous [] p o h is = absurd h
ahead i d previous ((e, None) ∷ ms) p o h is =
    let (j, at, a) = ahead (suc i) d previous ms p (names_after_all o (e ∷ [])) h.1 is in
    let es = chained_from (suc i) previous ms in (
      suc j,
      omega (arith, at),
      record {
        balanced = names_after_all-append o (e ∷ []) (take j es) ∙ a.balanced;
        none = λ m less. first_none j m less a.none;
        further = a.further;
        back = a.back;
        read_as = a.read_as;
      },
    )
  where
    first_none : (j m : ℕ) → m < suc j → ((m : ℕ) → m < j → content_at (chained_from (suc i) previous ms) m ≡ None) → content_at (e ∷ chained_from (suc i) previous ms) m ≡ None
    first_none j zero less rest = bare_content e (chained_from (suc i) previous ms) h.0
    first_none j (suc m) less rest = rest m (omega (arith, less))
ahead i d previous ((e, Some k) ∷ ms) p o h is =
    let same : i ≡ d = ap (λ (x : Option ℕ). unwrap_or x i) is in (
      0,
      omega (arith, same),
      record {
        balanced = none_taken o h.2;
        none = λ m less. absurd (omega (arith, less));
        further = h.3;
        back = ap (λ b. cond b previous None) h.1;
        read_as = ap Some h.0;
      },
    )
  where
    none_taken : (o : Option (List Name)) → o ≡ Some [] → names_after_all o [] ≡ Some []
    none_taken None e = e
    none_taken (Some st) e = e

-- the chunk at j is linked to the one at k, in a list whose first event has the index i
pub record IsNext (es : List Event) (i k j : ℕ) : Type 0 where
  pub least : k + 2 ≤ j
  pub balanced : names_after_all (Some []) (take (j - (k + 2)) (drop (k + 2) es)) ≡ Some []
  pub none : (m : ℕ) → k + 2 ≤ m → m < j → content_at es m ≡ None
  pub further : IsFurther (place_at es (k + 1)) (place_at es j)
  pub back : previous_of es j ≡ Some (i + k)
  pub read_as : content_at es j ≡ Some content.Content
  pub same : content_at es k ≡ Some content.Content

pub next_later : (x : Event) (es : List Event) (i k j : ℕ) → IsNext es (suc i) k j → IsNext (x ∷ es) i (suc k) (suc j)
next_later x es i k j h =
    let least = h.least in
    let one : suc k + 1 ≡ suc (k + 1) = omega arith in
    let two : suc k + 2 ≡ suc (k + 2) = omega arith in
    let rest : suc j - (suc k + 2) ≡ j - (k + 2) = omega arith in
    let index : suc i + k ≡ i + suc k = omega arith in
    record {
      least = omega (arith, least);
      balanced = (λ n. names_after_all (Some []) (take (rest n) (drop (two n) (x ∷ es)))) ∙ h.balanced;
      none = λ m from to. behind m from to;
      further = subst (λ (n : ℕ). IsFurther (place_at (x ∷ es) n) (place_at es j)) (sym one) h.further;
      back = h.back ∙ ap Some index;
      read_as = h.read_as;
      same = h.same;
    }
  where
    behind : (m : ℕ) → suc k + 2 ≤ m → m < suc j → content_at (x ∷ es) m ≡ None
    behind zero from to = absurd (omega (arith, from))
    behind (suc m) from to = h.none m (omega (arith, from)) (omega (arith, to))

-- the chunk at the front
pub next_first : (i d : ℕ) (x : Event) (ms : List Mark) → content_at (x ∷ []) 0 ≡ Some content.Content → Runs ms an_exit → next_chunk (suc i) ms ≡ Some d → (j : ℕ) × (d ≡ i + j) × IsNext (x ∷ chained_from (suc i) (Some i) ms) i 0 j
next_first i d x [] c h is = absurd h
next_first i d x ((e, Some k) ∷ ms) c h is = absurd h
next_first i d x ((e, None) ∷ ms) c h is =
    let (j, at, a) = ahead (suc (suc i)) d (Some i) ms e.point (Some []) h.1 is in
    let here : i ≡ i + 0 = omega arith in
    let es = chained_from (suc (suc i)) (Some i) ms in
    let rest : suc (suc j) - (0 + 2) ≡ j = omega arith in (
      suc (suc j),
      omega (arith, at),
      record {
        least = omega arith;
        balanced = ap (λ n. names_after_all (Some []) (take n es)) rest ∙ a.balanced;
        none = λ m from to. behind j m from to a.none;
        further = a.further;
        back = a.back ∙ ap Some here;
        read_as = a.read_as;
        same = c;
      },
    )
  where
    behind : (j m : ℕ) → 0 + 2 ≤ m → m < suc (suc j) → ((m : ℕ) → m < j → content_at (chained_from (suc (suc i)) (Some i) ms) m ≡ None) → content_at (x ∷ e ∷ chained_from (suc (suc i)) (Some i) ms) m ≡ None
    behind j zero from to rest = absurd (omega (arith, from))
    behind j (suc zero) from to rest = absurd (omega (arith, from))
    behind j (suc (suc m)) from to rest = rest m (omega (arith, to))

pub alone_unlinked : (d : Due) (e : Event) (ms : List Mark) → Runs ((e, None) ∷ ms) d → e.link ≡ None
alone_unlinked idle e ms h = h.0
alone_unlinked an_exit e ms h = h.0
alone_unlinked (a_chunk p o) e ms h = h.0

abbrev pub waits : Due → Bool
waits idle = false
waits an_exit = true
waits (a_chunk p o) = true

pub behind_alone : (e : Event) (ms : List Mark) (d : Due) → Runs ((e, None) ∷ ms) d → (f : Due) × Runs ms f × (waits f ≡ waits d)
behind_alone e ms idle h = (idle, h.1, refl)
behind_alone e ms an_exit h = (a_chunk e.point (Some []), h.1, refl)
behind_alone e ms (a_chunk p o) h = (a_chunk p (names_after_all o (e ∷ [])), h.1, refl)

pub chunk_is : (e : Event) (k : Chunk) (ms : List Mark) (d : Due) → Runs ((e, Some k) ∷ ms) d → (k.content ≡ content.Content) × Runs ms (next_due k.has_next)
chunk_is e k ms idle h = (h.0, h.2)
chunk_is e k ms an_exit h = absurd h
chunk_is e k ms (a_chunk p o) h = (h.0, h.4)

pub no_next_of : (e : Event) (es : List Event) (d : ℕ) → e.link ≡ None → next_of (e ∷ es) 0 ≡ Some d → ⊥
no_next_of e es d none is = false≢true (ap is_some (sym (ap (λ l. next_of (record e { link = l } ∷ es) 0) none) ∙ is))

pub no_previous_of : (e : Event) (es : List Event) (d : ℕ) → e.link ≡ None → previous_of (e ∷ es) 0 ≡ Some d → ⊥
no_previous_of e es d none is = false≢true (ap is_some (sym (ap (λ l. previous_of (record e { link = l } ∷ es) 0) none) ∙ is))

pub next_found : (i k d : ℕ) (previous : Option ℕ) (ms : List Mark) (due : Due) → Runs ms due → next_of (chained_from i previous ms) k ≡ Some d → (j : ℕ) × (d ≡ i + j) × IsNext (chained_from i previous ms) i k j
next_found i zero d previous [] due h is = absurd (false≢true (ap is_some is))
next_found i (suc k) d previous [] due h is = absurd (false≢true (ap is_some is))
next_found i zero d previous ((e, None) ∷ ms) due h is = absurd (no_next_of e (chained_from (suc i) previous ms) d (alone_unlinked due e ms h) is)
next_found i (suc k) d previous ((e, None) ∷ ms) due h is =
    let (f, rest, same) = behind_alone e ms due h in
    let (j, at, n) = next_found (suc i) k d previous ms f rest is in
    (suc j, omega (arith, at), next_later e (chained_from (suc i) previous ms) i k j n)
next_found i zero d previous ((e, Some c) ∷ ms) due h is = by c.has_next refl is
  where
    by : (b : Bool) → c.has_next ≡ b → cond b (next_chunk (suc i) ms) None ≡ Some d → (j : ℕ) × (d ≡ i + j) × IsNext (chained_from i previous ((e, Some c) ∷ ms)) i 0 j
    by true has is = next_first i d _ ms (ap Some (chunk_is e c ms due h).0) (subst (λ b. Runs ms (next_due b)) has (chunk_is e c ms due h).1) is
    by false has is = absurd (false≢true (ap is_some is))
next_found i (suc k) d previous ((e, Some c) ∷ ms) due h is =
    let (j, at, n) = next_found (suc i) k d (Some i) ms (next_due c.has_next) (chunk_is e c ms due h).1 is in
    (suc j, omega (arith, at), next_later _ (chained_from (suc i) (Some i) ms) i k j n)

-- a chunk that has a previous one is the first of these marks, or the next one of a chunk among them
abbrev pub IsFirst : (i j p : ℕ) (previous : Option ℕ) (ms : List Mark) → Type 0
IsFirst i j p previous ms = (previous ≡ Some p) × (next_chunk i ms ≡ Some (i + j))

abbrev pub IsNextOf : (es : List Event) (i j p : ℕ) → Type 0
IsNextOf es i j p = (k : ℕ) × (p ≡ i + k) × (next_of es k ≡ Some (i + j))

pub later_of : (x : Event) (es : List Event) (i j p : ℕ) → IsNextOf es (suc i) j p → IsNextOf (x ∷ es) i (suc j) p
later_of x es i j p h = let at = h.1 in let same : suc i + j ≡ i + suc j = omega arith in (suc h.0, omega (arith, at), h.2 ∙ ap Some same)

pub previous_found : (i j p : ℕ) (previous : Option ℕ) (ms : List Mark) (w : Due) → Runs ms w → previous_of (chained_from i previous ms) j ≡ Some p
    → ((waits w ≡ true) × IsFirst i j p previous ms) ⊎ IsNextOf (chained_from i previous ms) i j p
previous_found i zero p previous [] w h is = absurd (false≢true (ap is_some is))
previous_found i (suc j) p previous [] w h is = absurd (false≢true (ap is_some is))
previous_found i zero p previous ((e, None) ∷ ms) w h is = absurd (no_previous_of e (chained_from (suc i) previous ms) p (alone_unlinked w e ms h) is)
previous_found i (suc j) p previous ((e, None) ∷ ms) w h is =
    let (f, rest, same) = behind_alone e ms w h in
    let on : suc i + j ≡ i + suc j = omega arith in
    elim (previous_found (suc i) j p previous ms f rest is) [
      | inl first ↦ inl (sym same ∙ first.0, (first.1.0, first.1.1 ∙ ap Some on))
      | inr next ↦ inr (later_of e (chained_from (suc i) previous ms) i j p next)
    ]
previous_found i zero p previous ((e, Some c) ∷ ms) idle h is = absurd (false≢true (ap is_some (sym (ap (λ b. cond b previous None) h.1) ∙ is)))
previous_found i zero p previous ((e, Some c) ∷ ms) an_exit h is = absurd h
previous_found i zero p previous ((e, Some c) ∷ ms) (a_chunk q o) h is =
    let here : i ≡ i + 0 = omega arith in inl (refl, (sym (ap (λ b. cond b previous None) h.1) ∙ is, ap Some here))
previous_found i (suc j) p previous ((e, Some c) ∷ ms) w h is =
    let on : suc i + j ≡ i + suc j = omega arith in
    let here : i ≡ i + 0 = omega arith in
    elim (previous_found (suc i) j p (Some i) ms (next_due c.has_next) (chunk_is e c ms w h).1 is) [
      | inl first ↦
          inr (0, sym (ap (λ (x : Option ℕ). unwrap_or x p) first.1.0) ∙ here, ap (λ b. cond b (next_chunk (suc i) ms) None) (has_next c.has_next first.0) ∙ first.1.1 ∙ ap Some on)
      | inr next ↦ inr (later_of _ (chained_from (suc i) (Some i) ms) i j p next)
    ]
  where
    has_next : (b : Bool) → waits (next_due b) ≡ true → b ≡ true
    has_next true e = refl
    has_next false e = absurd (false≢true e)

-- each chunk is read as content
pub one_content_of : (i k : ℕ) (c : Content) (previous : Option ℕ) (ms : List Mark) (due : Due) → Runs ms due → content_at (chained_from i previous ms) k ≡ Some c → c ≡ content.Content
one_content_of i zero c previous [] due h is = absurd (false≢true (ap is_some is))
one_content_of i (suc k) c previous [] due h is = absurd (false≢true (ap is_some is))
one_content_of i zero c previous ((e, None) ∷ ms) due h is = absurd (false≢true (ap is_some (sym (bare_content e (chained_from (suc i) previous ms) (alone_unlinked due e ms h)) ∙ is)))
one_content_of i (suc k) c previous ((e, None) ∷ ms) due h is = let (f, rest, same) = behind_alone e ms due h in one_content_of (suc i) k c previous ms f rest is
one_content_of i zero c previous ((e, Some x) ∷ ms) due h is = sym (ap (λ (o : Option Content). unwrap_or o c) is) ∙ (chunk_is e x ms due h).0
one_content_of i (suc k) c previous ((e, Some x) ∷ ms) due h is = one_content_of (suc i) k c (Some i) ms (next_due x.has_next) (chunk_is e x ms due h).1 is

-- marks of which each chunk's run is whole
module _ (ms : List Mark) (h : Runs ms idle) where
  abbrev pub es : List Event
  es = chained_from 0 None ms

  pub next_in : (k d : ℕ) → next_of es k ≡ Some d → IsNext es 0 k d
  next_in k d is =
      let (j, at, n) = next_found 0 k d None ms idle h is in
      let same : j ≡ d = omega (arith, at) in
      subst (IsNext es 0 k) same n

  pub joined_both : AreMutual es
  joined_both i j = (
    (λ is. let zero_more : 0 + i ≡ i = omega arith in (next_in i j is).back ∙ ap Some zero_more),
    (λ is.
        elim (previous_found 0 j i None ms idle h is) [
          | inl first ↦ absurd (false≢true first.0)
          | inr next ↦
              let at = next.1 in
              let same : next.0 ≡ i = omega (arith, at) in
              let last : 0 + j ≡ j = omega arith in
              ap (next_of es) (sym same) ∙ next.2 ∙ ap Some last
        ]),
  )

  pub goes_forward : (k d : ℕ) → next_of es k ≡ Some d → k < d
  goes_forward k d is = let least = (next_in k d is).least in omega (arith, least)

  pub has_one_content : (k d : ℕ) → next_of es k ≡ Some d → content_at es k ≡ content_at es d
  has_one_content k d is = (next_in k d is).same ∙ sym (next_in k d is).read_as
