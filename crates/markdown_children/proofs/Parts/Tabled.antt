-- The chunks of a forward chain, as a table: they are inside the list, and their edits are those of the chain.
use Rattle.markdown_children.proofs.Prelude.{◌≡◌, ℕ, zero, suc, ◌+◌, ◌-◌, ◌*◌, ◌^◌, ◌<◌, ◌≤◌, List, [], ◌∷◌, map, length, take, drop, get_or, Option, Some, None, refl, sym, ◌∙◌, ap, arith, zero-add, add-zero, All, All-map, IfSome, between, AllByRecursion, IsNonDecreasingBy, drop-drop, All-from_recursion, recursion_from_All, drop-append_seam, take-append_seam, Event, Link, relinked, EachEnd, Edit, AreDisjoint, AreBehind, removed_by, next_of, chain_from, chain_of, place_at, HasEndsWithin, parts, divided, child_place, part_edits, chain_edits, total, IsForward, StandBefore, table, rest_table, table_place, AreAbove, AreRising, chunk_edit, Chunk, every-map, Point, nat_tests}
use Rattle.markdown_children.proofs.ChainOrder.Following.{by_option}
use Rattle.markdown_children.proofs.ChainOrder.Spaced.{length-parts, length-map_ends}
use Rattle.markdown_children.proofs.Parts.Kept.{joined, joined-parts}
use Rattle.markdown_children.proofs.Parts.Edits.{total-joined}

-- ---- places

table_place-child_place : (ks : List ℕ) (ps : List (List Event)) (j n removed added : ℕ) → table_place (table ks ps j) removed added (j + n) ≡ child_place ks ps removed (added + j) n
table_place-child_place (k ∷ ks) (p ∷ ps) j n removed added =
    let y : added + (j + length p) ≡ added + j + length p = omega arith in
    let more : length p ≤ n → table_place (table ks ps (j + length p)) (removed + 2) added (j + n) ≡ child_place ks ps (removed + 2) (added + j + length p) (n - length p) =
    λ l. (let z : j + n ≡ j + length p + (n - length p) = omega arith in ap (table_place (table ks ps (j + length p)) (removed + 2) added) z)
    ∙ table_place-child_place ks ps (j + length p) (n - length p) (removed + 2) added ∙ ap (λ m. child_place ks ps (removed + 2) m (n - length p)) y in
    grind (arith, nat_tests)
table_place-child_place ks ps j n removed added = refl

edits_by_table : (f : ℕ → Option ℕ) (child : List Event) (ks : List ℕ) (ps : List (List Event)) (j : ℕ) → length ks ≡ length ps → drop j child ≡ joined ps → map (chunk_edit f child) (table ks ps j) ≡ part_edits f ks ps
edits_by_table f child (k ∷ ks) (p ∷ ps) j e d =
    let z : j + length p - j ≡ length p = omega arith in
    let here : between j (j + length p) child ≡ p = ap (λ m. take m (drop j child)) z ∙ ap (take (length p)) d ∙ take-append_seam p (joined ps) in
    let rest : drop (j + length p) child ≡ joined ps = sym (drop-drop (length p) j child) ∙ ap (drop (length p)) d ∙ drop-append_seam p (joined ps) in
    let one : List Event → Edit = λ xs. record { index = k; remove = 2; additions = map (relinked f) xs } in
    (λ i. one (here i) ∷ edits_by_table f child ks ps (j + length p) (omega arith) rest i)
edits_by_table f child ks ps j e d = refl

pub length-table : (ks : List ℕ) (ps : List (List Event)) (j : ℕ) → length ks ≡ length ps → length (table ks ps j) ≡ length ks
length-table [] ps j e = refl
length-table (k ∷ ks) [] j e = absurd (omega arith)
length-table (k ∷ ks) (p ∷ ps) j e = ap suc (length-table ks ps (j + length p) (omega arith))

-- ---- the chunks of a forward chain

-- no chunk ends before its table begins
ends-from : (ks : List ℕ) (ps : List (List Event)) (j k : ℕ) (d : Chunk) → k < length (table ks ps j) → j ≤ (get_or (table ks ps j) k d).end
ends-from (i ∷ ks) (p ∷ ps) j zero d l = omega arith
ends-from (i ∷ ks) (p ∷ ps) j (suc k) d l = omega (arith, ends-from ks ps (j + length p) k d (omega arith))
ends-from ks ps j k d l = absurd (omega arith)

pub table-ends : (ks : List ℕ) (ps : List (List Event)) (j : ℕ) → IsNonDecreasingBy (λ (c : Chunk). c.end) (table ks ps j)
table-ends (i ∷ ks) (p ∷ ps) j zero zero d l m = omega arith
table-ends (i ∷ ks) (p ∷ ps) j zero (suc b) d l m = ends-from ks ps (j + length p) b d (omega arith)
table-ends (i ∷ ks) (p ∷ ps) j (suc a) (suc b) d l m = table-ends ks ps (j + length p) a b d (omega arith) (omega arith)
table-ends ks ps j a b d l m = absurd (omega arith)

module _ (events : List Event) where
  -- each chunk is inside the list, and at or behind each index that the first one is at or behind
  along : (m f i j : ℕ) (ps : List (List Event)) → AllByRecursion (IsForward events) (chain_from f events i) → m ≤ i
      → AllByRecursion (λ (c : Chunk). (m ≤ c.index) × (c.index + 1 < length events)) (table (chain_from f events i) ps j)
  along m (suc f) i j (q ∷ ps) h l =
      ((l, h.0.within), by_option (next_of events i) (λ e. rw e tt) (λ d e. rw e (along m f d (j + length q) ps (rw e at h.1) (omega (arith, (h.0.next d e).0)))))
  along m f i j ps h l = tt

  above-all : (m f i j : ℕ) (ps : List (List Event)) → AllByRecursion (IsForward events) (chain_from f events i) → m ≤ i → AllByRecursion (λ (c : Chunk). m ≤ c.index) (table (chain_from f events i) ps j)
  above-all m f i j ps h l =
      every-map (λ (c : Chunk). (m ≤ c.index) × (c.index + 1 < length events)) (λ (c : Chunk). m ≤ c.index) (λ c w. w.0) (table (chain_from f events i) ps j) (along m f i j ps h l)

  are-above : (f i j removed : ℕ) (ps : List (List Event)) → AllByRecursion (IsForward events) (chain_from f events i) → removed ≤ i → AreAbove removed (table (chain_from f events i) ps j)
  are-above (suc f) i j removed (q ∷ ps) h l = (l, by_option (next_of events i) (λ e. rw e tt) (λ d e. rw e (are-above f d (j + length q) (removed + 2) ps (rw e at h.1) (omega (arith, (h.0.next d e).0)))))
  are-above f i j removed ps h l = tt

  pub are-rising : (f i j : ℕ) (ps : List (List Event)) → AllByRecursion (IsForward events) (chain_from f events i) → AreRising (table (chain_from f events i) ps j)
  are-rising (suc f) i j (q ∷ ps) h = by_option (next_of events i) (λ e. rw e (tt, tt)) (λ d e.
      let a = (h.0.next d e).0 in
      let ahead = rw e at h.1 in
      rw e (above-all (suc i) f d (j + length q) ps ahead (omega arith), are-rising f d (j + length q) ps ahead))
  are-rising f i j ps h = tt

-- ---- bounds

pub within-table : (m : ℕ) (ks : List ℕ) (ps : List (List Event)) (j : ℕ) → j + total ps ≤ m → AllByRecursion (λ (c : Chunk). (c.start ≤ c.end) × (c.end ≤ m)) (table ks ps j)
within-table m (k ∷ ks) (p ∷ ps) j l = ((omega arith, omega arith), within-table m ks ps (j + length p) (omega arith))
within-table m ks ps j l = tt

pub total-parts : (ends : List Point) (es : List Event) → total (parts ends es) ≤ length es
total-parts [] es = omega arith
total-parts (end ∷ ends) es = omega (arith, total-joined (parts (end ∷ ends) es), ap length (joined-parts end ends es))

pub room : (n removed : ℕ) (cs : List Chunk) → AreAbove removed cs → AllByRecursion (λ (c : Chunk). c.index + 1 < n) cs → removed ≤ n → removed + 2 * length cs ≤ n
room n removed [] h w l = omega arith
room n removed (c ∷ cs) h w l = let a : removed ≤ c.index = h.0 in let b : c.index + 1 < n = w.0 in omega (arith, room n (removed + 2) cs h.1 w.1 (omega arith))

pub removed-le : (es : List Edit) (from n : ℕ) → AreDisjoint from es n → from + removed_by es ≤ n
removed-le [] from n d = let l : from ≤ n = d in omega arith
removed-le (e ∷ es) from n d = let a : from ≤ e.index = d.0 in omega (arith, removed-le es (e.index + e.remove) n d.1)

-- ---- one chain

module _ (events child : List Event) (i : ℕ) (forward : AllByRecursion (IsForward events) (chain_of events i)) where
  abbrev pub ks : List ℕ
  ks = chain_of events i

  abbrev pub ps : List (List Event)
  ps = parts (map (λ k. place_at events (k + 1)) ks) child

  abbrev pub cs : List Chunk
  cs = rest_table events child (length events) i 0

  pub long : length ks ≡ length ps
  long = sym (length-parts (map (λ k. place_at events (k + 1)) ks) child ∙ length-map_ends events ks)

  pub chunks-above : (removed : ℕ) → removed ≤ i → AreAbove removed cs
  chunks-above removed l = are-above events (length events) i 0 removed ps forward l

  pub inside : AllByRecursion (λ (c : Chunk). c.index + 1 < length events) cs
  inside = every-map (λ (c : Chunk). (0 ≤ c.index) × (c.index + 1 < length events)) (λ (c : Chunk). c.index + 1 < length events) (λ c w. w.1) cs
      (along events 0 (length events) i 0 ps forward (omega arith))

  pub chunks-fit : (added : ℕ) → HasEndsWithin child → length events + added + length child < 2 ^ 64
      → All (λ (e : Event). IfSome e.link (EachEnd (λ n. All (λ (c : Chunk). c.index + 2 + added + n < 2 ^ 64) cs))) child
  chunks-fit added ends l k d m = on_link _ (ends k d m)
    where
      each : (n : ℕ) → n < length child → All (λ (c : Chunk). c.index + 2 + added + n < 2 ^ 64) cs
      each n b = All-from_recursion (λ (c : Chunk). c.index + 2 + added + n < 2 ^ 64) cs
          (every-map (λ (c : Chunk). c.index + 1 < length events) (λ (c : Chunk). c.index + 2 + added + n < 2 ^ 64) (λ c a. omega arith) cs inside)

      on_end : (o : Option ℕ) → IfSome o (λ n. n < length child) → IfSome o (λ n. All (λ (c : Chunk). c.index + 2 + added + n < 2 ^ 64) cs)
      on_end None b = tt
      on_end (Some n) b = each n b

      on_link : (o : Option Link) → IfSome o (EachEnd (λ n. n < length child)) → IfSome o (EachEnd (λ n. All (λ (c : Chunk). c.index + 2 + added + n < 2 ^ 64) cs))
      on_link None b = tt
      on_link (Some x) b = (on_end x.previous b.0, on_end x.next b.1)

  -- the chain has a chunk, so the parts together are the child
  joined-is : (n : ℕ) → 0 < n → child ≡ joined (parts (map (λ k. place_at events (k + 1)) (chain_from n events i)) child)
  joined-is zero l = absurd (omega arith)
  joined-is (suc n) l = sym (joined-parts (place_at events (i + 1)) _ child)

  -- the edits by the table are the chain's
  pub table-edits : (removed added : ℕ) → i < length events → map (chunk_edit (table_place cs removed added) child) cs ≡ chain_edits removed added (divided events i child)
  table-edits removed added l =
      let same : (n : ℕ) → table_place cs removed added n ≡ child_place ks ps removed added n =
      λ n. ap (table_place cs removed added) (sym (zero-add n)) ∙ table_place-child_place ks ps 0 n removed added ∙ ap (λ m. child_place ks ps removed m n) (add-zero added) in
      edits_by_table (table_place cs removed added) child ks ps 0 long (joined-is (length events) (omega arith)) ∙ (λ j. part_edits (λ n. same n j) ks ps)

  pub chunks-behind : (es : List Edit) (f : ℕ → Option ℕ) → StandBefore es i → AreBehind es (map (chunk_edit f child) cs)
  chunks-behind es f b = (
    i,
    b.below,
    recursion_from_All (λ (e : Edit). i ≤ e.index) (map (chunk_edit f child) cs)
        (All-map (λ (e : Edit). i ≤ e.index) (chunk_edit f child) cs (All-from_recursion (λ (c : Chunk). i ≤ c.index) cs (above-all events i (length events) i 0 ps forward (omega arith)))),
  )

  pub sums-le : (es : List Edit) (removed : ℕ) → StandBefore es i → removed ≡ removed_by es → removed ≤ i
  sums-le es removed b e = omega (arith, removed-le es 0 i b.disjoint)

  -- the edits of the chunks are apart, and inside the list
  apart-from : (f : ℕ → Option ℕ) (m fuel k j : ℕ) (qs : List (List Event)) → AllByRecursion (IsForward events) (chain_from fuel events k) → m ≤ k → m ≤ length events
      → AreDisjoint m (map (chunk_edit f child) (table (chain_from fuel events k) qs j)) (length events)
  apart-from f m zero k j qs h l w = w
  apart-from f m (suc fuel) k j [] h l w = w
  apart-from f m (suc fuel) k j (q ∷ qs) h l w =
      let within : k + 1 < length events = h.0.within in
      (l, by_option (next_of events k) (λ e. rw e (omega arith)) (λ d e. rw e (apart-from f (k + 2) fuel d (j + length q) qs (rw e at h.1) (h.0.next d e).0 (omega arith))))

  pub chunks-apart : (f : ℕ → Option ℕ) (from : ℕ) → from ≤ i → i < length events → AreDisjoint from (map (chunk_edit f child) cs) (length events)
  chunks-apart f from l w = apart-from f from (length events) i 0 ps forward l (omega arith)
