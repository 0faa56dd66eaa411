-- What stands between two chunks of a chain of a skeleton: events of which this is so, as that they may stand anywhere but directly in a list.
use Rattle.mddocument_rules.proofs.Prelude.{◌≡◌, ℕ, zero, suc, ◌+◌, ◌-◌, Bool, true, false, cond, List, [], ◌∷◌, ◌++◌, Some, None, Option, append_assoc, arith, drop, refl, sym, ap, subst, take, false≢true, AllByRecursion, between, is_some, unwrap_or, Enter, Event, Exit, Name, Point, Seat, end_after, next_of, names_after_all, event, Chunk, Mark, chunk_span, span_marks, chained_from, next_chunk}
use Rattle.markdown_base.specs.declared.event.Name.TheVariants as name
use Rattle.mdblock_leaf_blocks.proofs.Marks.MarkAccounts.{bare}
use Rattle.mdblock_containers.proofs.SkeletonChains.{Due, Runs, a_chunk, alone_unlinked, an_exit, behind_alone, chunk_is, idle, next_due, no_next_of}
use Rattle.mddocument_rules.proofs.Definitions.{IsKept, IsKeptByAll, kept, kept-by-all, name-free, some-kept}
use Rattle.mddocument_rules.proofs.Places.{is_free}

-- What is so of an event, by those behind it
module _ (Ok : Event → List Event → Type 0) where
  -- where a chunk has a next one, it is so up to that
  abbrev pub Gapped : Bool → List Mark → Type 0
  Gapped waits [] = Unit {0}
  Gapped waits ((e, None) ∷ ms) = (waits ≡ true → Ok e (bare ms)) × Gapped waits ms
  Gapped waits ((e, Some c) ∷ ms) = Gapped c.has_next ms

  -- of each event, and it has no link
  abbrev pub AllOk : List Event → Type 0
  AllOk [] = Unit {0}
  AllOk (e ∷ es) = (Ok e es × (e.link ≡ None)) × AllOk es

  -- it stays so before the first of chained events
  abbrev pub IsLocal : Type 0
  IsLocal = (e : Event) (j i : ℕ) (previous : Option ℕ) (ms : List Mark) → Ok e (bare ms) → Ok e (take j (chained_from i previous ms))

  -- ---- by indices
  gap-ahead : IsLocal → (i d : ℕ) (previous : Option ℕ) (ms : List Mark) (p : Point) (o : Option (List Name)) → Runs ms (a_chunk p o) → Gapped true ms → next_chunk i ms ≡ Some d → (j : ℕ) × (d ≡ i + j) × AllOk (take j (chained_from i previous ms))
  gap-ahead local i d previous [] p o r g is = absurd r
  gap-ahead local i d previous ((e, None) ∷ ms) p o r g is =
      let (j, at, a) = gap-ahead local (suc i) d previous ms p (names_after_all o (e ∷ [])) r.1 g.1 is in
      (suc j, omega (arith, at), ((local e j (suc i) previous ms (g.0 refl), r.0), a))
  gap-ahead local i d previous ((e, Some c) ∷ ms) p o r g is =
      let same : i ≡ d = ap (λ (x : Option ℕ). unwrap_or x i) is in
      (0, omega (arith, same), tt)

  -- what is behind the chunk at k and its exit, up to the chunk at j
  abbrev Between : List Event → (k j : ℕ) → Type 0
  Between es k j = AllOk (take (j - (k + 2)) (drop (k + 2) es))

  gap-first : IsLocal → (i d : ℕ) (x : Event) (ms : List Mark) → Runs ms an_exit → Gapped true ms → next_chunk (suc i) ms ≡ Some d → (j : ℕ) × (d ≡ i + j) × Between (x ∷ chained_from (suc i) (Some i) ms) 0 j
  gap-first local i d x [] r g is = absurd r
  gap-first local i d x ((e, Some c) ∷ ms) r g is = absurd r
  gap-first local i d x ((e, None) ∷ ms) r g is =
      let (j, at, a) = gap-ahead local (suc (suc i)) d (Some i) ms e.point (Some []) r.1 g.1 is in
      let rest : suc (suc j) - (0 + 2) ≡ j = omega arith in
      (suc (suc j), omega (arith, at), subst (λ n. AllOk (take n (chained_from (suc (suc i)) (Some i) ms))) (sym rest) a)

  chunk-found : IsLocal → (i d : ℕ) (has_next : Bool) (x : Event) (ms : List Mark) → Runs ms (next_due has_next) → Gapped has_next ms → cond has_next (next_chunk (suc i) ms) None ≡ Some d
      → (j : ℕ) × (d ≡ i + j) × Between (x ∷ chained_from (suc i) (Some i) ms) 0 j
  chunk-found local i d true x ms r g is = gap-first local i d x ms r g is
  chunk-found local i d false x ms r g is = absurd (false≢true (ap is_some is))

  -- the event of a chunk
  abbrev linked : (i : ℕ) (previous : Option ℕ) (e : Event) (c : Chunk) (ms : List Mark) → Event
  linked i previous e c ms = record e { link = Some (record { previous = cond c.has_previous previous None; next = cond c.has_next (next_chunk (suc i) ms) None; content = c.content }) }

  later : (x : Event) (es : List Event) (k j : ℕ) → Between es k j → Between (x ∷ es) (suc k) (suc j)
  later x es k j h =
      let two : suc k + 2 ≡ suc (k + 2) = omega arith in
      let rest : suc j - (suc k + 2) ≡ j - (k + 2) = omega arith in
      subst (λ n. AllOk (take n (drop (suc k + 2) (x ∷ es)))) (sym rest) (subst (λ n. AllOk (take (j - (k + 2)) (drop n (x ∷ es)))) (sym two) h)

  gap-found : IsLocal → (i k d : ℕ) (previous : Option ℕ) (ms : List Mark) (due : Due) (waits : Bool) → Runs ms due → Gapped waits ms → next_of (chained_from i previous ms) k ≡ Some d → (j : ℕ) × (d ≡ i + j) × Between (chained_from i previous ms) k j
  gap-found local i zero d previous [] due waits r g is = absurd (false≢true (ap is_some is))
  gap-found local i (suc k) d previous [] due waits r g is = absurd (false≢true (ap is_some is))
  gap-found local i zero d previous ((e, None) ∷ ms) due waits r g is = absurd (no_next_of e (chained_from (suc i) previous ms) d (alone_unlinked due e ms r) is)
  gap-found local i (suc k) d previous ((e, None) ∷ ms) due waits r g is =
      let (f, rest, same) = behind_alone e ms due r in
      let (j, at, a) = gap-found local (suc i) k d previous ms f waits rest g.1 is in
      (suc j, omega (arith, at), later e (chained_from (suc i) previous ms) k j a)
  gap-found local i zero d previous ((e, Some c) ∷ ms) due waits r g is = chunk-found local i d c.has_next (linked i previous e c ms) ms (chunk_is e c ms due r).1 g is
  gap-found local i (suc k) d previous ((e, Some c) ∷ ms) due waits r g is =
      let (j, at, a) = gap-found local (suc i) k d (Some i) ms (next_due c.has_next) c.has_next (chunk_is e c ms due r).1 g is in
      (suc j, omega (arith, at), later (linked i previous e c ms) (chained_from (suc i) (Some i) ms) k j a)

  -- So it is between a chunk and the next one of its chain
  pub gap-ok : IsLocal → (ms : List Mark) → Runs ms idle → Gapped false ms → (k d : ℕ) → next_of (chained_from 0 None ms) k ≡ Some d → AllOk (between (k + 2) d (chained_from 0 None ms))
  gap-ok local ms r g k d is =
      let (j, at, a) = gap-found local 0 k d None ms idle false r g is in
      let same : j ≡ d = omega (arith, at) in
      subst (λ n. AllOk (take (n - (k + 2)) (drop (k + 2) (chained_from 0 None ms)))) same a

  -- ---- marks between chunks, and marks that are behind the last chunk of a chain
  pub record BetweenChunks (ms : List Mark) : Type 0 where
    pub go : (waits : Bool) (ys : List Mark) → Gapped waits ys → Gapped waits (ms ++ ys)

  pub record Apart (ms : List Mark) : Type 0 where
    pub go : (ys : List Mark) → Gapped false ys → Gapped false (ms ++ ys)

  pub apart-none : Apart []
  apart-none = record { go = λ ys g. g }

  pub apart-both : (xs ys : List Mark) → Apart xs → Apart ys → Apart (xs ++ ys)
  apart-both xs ys h k = record { go = λ zs g. subst (Gapped false) (sym (append_assoc xs ys zs)) (h.go (ys ++ zs) (k.go zs g)) }

  pub between-none : BetweenChunks []
  between-none = record { go = λ waits ys g. g }

  pub between-both : (xs ys : List Mark) → BetweenChunks xs → BetweenChunks ys → BetweenChunks (xs ++ ys)
  between-both xs ys h k = record { go = λ waits zs g. subst (Gapped waits) (sym (append_assoc xs ys zs)) (h.go waits (ys ++ zs) (k.go waits zs g)) }

  never : (e : Event) (es : List Event) → false ≡ true → Ok e es
  never e es is = absurd (false≢true is)

  -- a mark of any name
  pub apart-mark : (e : Event) → Apart ((e, None) ∷ [])
  apart-mark e = record { go = λ ys g. (never e (bare ys), g) }

  module _ (bytes : List ℕ) where
    -- a span of any name
    pub apart-span : (n : Name) (seats : List Seat) (inside : List Mark) → Apart inside → Apart (span_marks bytes n seats inside)
    apart-span n [] inside h = h
    apart-span n (s ∷ ss) inside h =
        let exit : Mark = (event bytes Exit n (end_after s.end ss), None) in
        apart-both ((event bytes Enter n s.point, None) ∷ []) (inside ++ exit ∷ []) (apart-mark (event bytes Enter n s.point)) (apart-both inside (exit ∷ []) h (apart-mark (event bytes Exit n (end_after s.end ss))))

    pub apart-by-all : IsKeptByAll bytes Apart
    apart-by-all = kept-by-all apart-none apart-both (λ n seats inside f h. apart-span n seats inside h)

    pub apart-kept : IsKept bytes Apart
    apart-kept = some-kept apart-by-all

    -- a chunk, and what is behind it
    pub chunk-gapped : ((p : Point) (es : List Event) → Ok (event bytes Exit name.Data p) es) → (waits : Bool) (c : Chunk) (s : Seat) (ss : List Seat) (ys : List Mark) → Gapped c.has_next ys → Gapped waits (chunk_span bytes (Some c) name.Data (s ∷ ss) [] ++ ys)
    chunk-gapped exits waits c s ss ys g = ((λ e. exits (end_after s.end ss) (bare ys)), g)

-- ---- free names
abbrev pub IsFreeName : Event → List Event → Type 0
IsFreeName e es = is_free e.name ≡ true

-- a free name, without a link
abbrev pub IsFree : Event → Type 0
IsFree e = (is_free e.name ≡ true) × (e.link ≡ None)

abbrev pub AllFree : List Event → Type 0
AllFree es = AllByRecursion IsFree es

pub all-free : (es : List Event) → AllOk IsFreeName es → AllFree es
all-free [] h = tt
all-free (e ∷ es) h = (h.0, all-free es h.1)

module _ (bytes : List ℕ) where
  between-span : (n : Name) (seats : List Seat) (inside : List Mark) → is_free n ≡ true → BetweenChunks IsFreeName inside → BetweenChunks IsFreeName (span_marks bytes n seats inside)
  between-span n [] inside f h = h
  between-span n (s ∷ ss) inside f h =
      let exit : Mark = (event bytes Exit n (end_after s.end ss), None) in
      record { go = λ waits ys g. ((λ e. f), subst (Gapped IsFreeName waits) (sym (append_assoc inside (exit ∷ []) ys)) (h.go waits (exit ∷ ys) ((λ e. f), g))) }

  pub between-kept : IsKept bytes (BetweenChunks IsFreeName)
  between-kept = kept (between-none IsFreeName) (between-both IsFreeName) (λ n seats inside f h. between-span n seats inside (name-free n f) h)
