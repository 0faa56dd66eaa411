-- The code's loop goes along the fold over outermost spans.
use Rattle.std.proofs.Common.{◌≡◌, ◌+◌, ◌-◌, ◌<◌, ◌≤◌, ◌∙◌, ℕ, zero, suc, Bool, List, [], ◌∷◌, ◌++◌, true, false, cond, Option, Some, None, ap, arith, drop, length, length-append, map, refl, subst, sym, take}
use Rattle.std.proofs.lemmas.List.{length-drop, length-map}
use Rattle.std.specs.List.{AllByRecursion, between}
use Rattle.std.specs.Prelude.{nat_lt, ◌==◌, ◌&&◌, slice_get}
use Rattle.markdown_base.specs.declared.event.Event.{Event}
use Rattle.markdown_base.specs.declared.event.Name.TheVariants.{LabelEnd}
use Rattle.mdinline_emphasis.proofs.PairsKeep.{pairs-keep}
use Rattle.mdinline_emphasis.specs.declared.pairs.Delimiters.{Delimiters}
use Rattle.mdinline_emphasis.specs.Emphasis.{Run, paired}
use Rattle.mdinline_emphasis.specs.Places.{ArePlacesInside, standing}
use Rattle.mdinline_emphasis.specs.Runs.{depth_after, index_of_event, is_sequence, run_at, runs_from, runs_in}
use Rattle.mdinline_emphasis.specs.Searches.{as_run}
use Rattle.mdinline_emphasis.proofs.RunPlaces.{all-room}
use Rattle.mdinline_links.specs.declared.brackets.Bracket.{Bracket}
use Rattle.mdinline_links.specs.declared.brackets.Pieces.{Pieces}
use Rattle.mdinline_links.specs.declared.pieces.Fate.TheVariants.{Ends, Opens, Tail}
use Rattle.mdinline_links.specs.declared.pieces.Piece.{Piece}
use Rattle.mdinline_links.proofs.Cuts.{spans-first, spans-none, tail-front, tail-same}
use Rattle.mdinline_links.proofs.Laid.{all-joined, filled-is, placed-are}
use Rattle.mdinline_links.proofs.Plain.{runs-behind}
use Rattle.mdinline_links.proofs.Steps.{ascending-front, empty-between, stands-made}
use Rattle.mdinline_links.specs.Laid.{AreAscending, IsReached, Laid, Stands, StandsFor, piece_at, placed_at, with_fate}
use Rattle.mdinline_links.specs.Linked.{SoFar, Waiting, all_parts, emphasised_parts, ended, is_named, is_tail, linked_from, outermost_spans, runs_of_parts, span_at, spans_in, taken, with_links}
use Rattle.mdinline_links.specs.Pieces.{written_from}

-- ---- the end of a label

ended-by : (es : List Event) (bs : List Bracket) (rs : List Run) (os : List ℕ) (ps : List Piece) (rest : List Run) (z : SoFar) → Stands es bs rs os ps rest z
    → (ws : List Waiting) → ws ≡ z.waiting → (ds : List Delimiters) (start end tail : ℕ) → start < end → end ≤ tail → tail ≤ length es
    → (lower : List Bracket) (b : Bracket) → bs ≡ lower ++ b ∷ [] → map as_run ds ≡ paired (drop b.runs rs)
    → let filled = nat_lt 1 (length ps - b.piece) in
    let before = with_fate b.piece (Opens b.image filled) (placed_at ps (drop b.runs os) ds) in
    Stands es lower (take b.runs rs) (take b.runs os)
    ((before ++ piece_at start end (Ends b.image filled (end == tail)) ∷ []) ++ cond (nat_lt end tail) (piece_at end tail (Tail b.image) ∷ []) [])
    rest (ended (between start end es) (between end tail es) ws z)
ended-by es bs rs os ps rest z h [] waits ds start end tail some order within lower b last pairs =
    let none : bs ≡ [] = (subst (λ ws. Laid es ws z.behind bs rs ps) (sym waits) h.laid).0 in
    absurd (let l = ap length (sym none ∙ last) in let m = length-append lower (b ∷ []) in omega (arith, l, m))
ended-by es bs rs os ps rest z h (w ∷ ws) waits ds start end tail some order within lower b last pairs =
    stands-made es bs rs os ps rest z h w ws waits ds start end tail some order within lower b last pairs

pub stands-ended : (es : List Event) (bs : List Bracket) (rs : List Run) (os : List ℕ) (ps : List Piece) (rest : List Run) (z : SoFar) → Stands es bs rs os ps rest z
    → (ds : List Delimiters) (start end tail : ℕ) → start < end → end ≤ tail → tail ≤ length es
    → (lower : List Bracket) (b : Bracket) → bs ≡ lower ++ b ∷ [] → map as_run ds ≡ paired (drop b.runs rs)
    → let filled = nat_lt 1 (length ps - b.piece) in
    let before = with_fate b.piece (Opens b.image filled) (placed_at ps (drop b.runs os) ds) in
    Stands es lower (take b.runs rs) (take b.runs os)
    ((before ++ piece_at start end (Ends b.image filled (end == tail)) ∷ []) ++ cond (nat_lt end tail) (piece_at end tail (Tail b.image) ∷ []) [])
    rest (ended (between start end es) (between end tail es) z.waiting z)
stands-ended es bs rs os ps rest z h ds start end tail some order within lower b last pairs =
    ended-by es bs rs os ps rest z h z.waiting refl ds start end tail some order within lower b last pairs

-- ---- one span more

not-end : (span : List Event) (spans : List (List Event)) (z : SoFar) → is_named LabelEnd span ≡ false → linked_from z (span ∷ spans) ≡ linked_from (taken span z) spans
not-end span [] z h = rw h refl
not-end span (next ∷ spans) z h = rw h refl

end-alone : (span : List Event) (spans : List (List Event)) (z : SoFar) → is_named LabelEnd span ≡ true → ((next : List Event) (more : List (List Event)) → spans ≡ next ∷ more → is_tail next ≡ false)
    → linked_from z (span ∷ spans) ≡ linked_from (ended span [] z.waiting z) spans
end-alone span [] z h k = rw h refl
end-alone span (next ∷ spans) z h k = rw (h, k next spans refl) refl

end-tail : (span next : List Event) (spans : List (List Event)) (z : SoFar) → is_named LabelEnd span ≡ true → is_tail next ≡ true
    → linked_from z (span ∷ next ∷ spans) ≡ linked_from (ended span next z.waiting z) spans
end-tail span next spans z h k = rw (h, k) refl

module _ (es : List Event) (all : Pieces) (left : List Delimiters) (z : SoFar) (start end : ℕ) (some : start < length es)
    (cut : span_at 0 (drop start es) ≡ (between start end es, drop end es)) where
  one-less : (bound : ℕ) → length es ≤ start + bound → bound ≡ suc (bound - 1)
  one-less bound enough = omega (arith, some, enough)

  spans-are : (bound : ℕ) → length es ≤ start + bound → spans_in bound (drop start es) ≡ between start end es ∷ spans_in (bound - 1) (drop end es)
  spans-are bound enough = ap (λ n. spans_in n (drop start es)) (one-less bound enough) ∙ spans-first es start end (bound - 1) some cut

  pub read-reaches : (bound : ℕ) → length es ≤ start + bound → start < end → is_named LabelEnd (between start end es) ≡ false → StandsFor es all left (taken (between start end es) z)
      → IsReached es z (spans_in bound (drop start es)) end all left
  read-reaches bound enough more name stands = record {
    so_far = taken (between start end es) z;
    bound = bound - 1;
    stands = stands;
    enough = omega (arith, enough, more, some);
    same = ap (linked_from z) (spans-are bound enough) ∙ not-end (between start end es) (spans_in (bound - 1) (drop end es)) z name;
  }

  -- no tail is behind the end of a label
  none-behind : (bound : ℕ) → is_tail (drop end es) ≡ false → (next : List Event) (more : List (List Event)) → spans_in bound (drop end es) ≡ next ∷ more → is_tail next ≡ false
  none-behind bound t next more e = by bound (drop end es) t next more e
    where
      head : (a b : List Event) (more others : List (List Event)) → a ∷ more ≡ b ∷ others → a ≡ b
      head a b more others h = cc

      by : (n : ℕ) (xs : List Event) → is_tail xs ≡ false → (y : List Event) (ys : List (List Event)) → spans_in n xs ≡ y ∷ ys → is_tail y ≡ false
      by zero xs k y ys h = cc
      by (suc n) [] k y ys h = cc
      by (suc n) (x ∷ xs) k y ys h = ap is_tail (sym (head (span_at 0 (x ∷ xs)).0 y (spans_in n (span_at 0 (x ∷ xs)).1) ys h)) ∙ tail-front (x ∷ xs) ∙ k

  pub end-reaches : (bound : ℕ) → length es ≤ start + bound → start < end → is_named LabelEnd (between start end es) ≡ true → is_tail (drop end es) ≡ false
      → StandsFor es all left (ended (between start end es) (between end end es) z.waiting z)
      → IsReached es z (spans_in bound (drop start es)) end all left
  end-reaches bound enough more name none stands = record {
    so_far = ended (between start end es) (between end end es) z.waiting z;
    bound = bound - 1;
    stands = stands;
    enough = omega (arith, enough, more, some);
    same =
        ap (linked_from z) (spans-are bound enough)
        ∙ end-alone (between start end es) (spans_in (bound - 1) (drop end es)) z name (none-behind (bound - 1) none)
        ∙ ap (λ tail. linked_from (ended (between start end es) tail z.waiting z) (spans_in (bound - 1) (drop end es))) (sym (empty-between end es));
  }

  pub tail-reaches : (bound tail : ℕ) → length es ≤ start + bound → start < end → end < length es → end < tail → is_named LabelEnd (between start end es) ≡ true → is_tail (drop end es) ≡ true
      → span_at 0 (drop end es) ≡ (between end tail es, drop tail es)
      → StandsFor es all left (ended (between start end es) (between end tail es) z.waiting z)
      → IsReached es z (spans_in bound (drop start es)) tail all left
  tail-reaches bound tail enough more inside further name is cut' stands =
      let less : bound - 1 ≡ suc (bound - 1 - 1) = omega (arith, some, enough, more, inside) in
      record {
        so_far = ended (between start end es) (between end tail es) z.waiting z;
        bound = bound - 1 - 1;
        stands = stands;
        enough = omega (arith, enough, more, inside, further);
        same =
            ap (linked_from z) (spans-are bound enough)
            ∙ ap (λ spans. linked_from z (between start end es ∷ spans)) (ap (λ n. spans_in n (drop end es)) less ∙ spans-first es end tail (bound - 1 - 1) inside cut')
            ∙ end-tail (between start end es) (between end tail es) (spans_in (bound - 1 - 1) (drop tail es)) z name (tail-same es end tail cut' ∙ is);
      }

-- a tail is behind no end of a list
pub some-behind : (xs : List Event) → is_tail xs ≡ true → 0 < length xs
some-behind [] h = absurd (cc)
some-behind (x ∷ xs) h = omega arith

abbrev pub start_of : List Run → SoFar
start_of rs = record { waiting = []; behind = []; runs = rs }

-- ---- the runs of a text stand one behind another

behind-it : (i : ℕ) (rs : List Run) → AllByRecursion (λ s. i + 1 ≤ s.index) rs → AllByRecursion (λ s. i < s.index) rs
behind-it i [] h = tt
behind-it i (r ∷ rs) h = (omega (arith, h.0), behind-it i rs h.1)

ascending-from : (one : Bool) (bytes : List ℕ) (i depth : ℕ) (before : Option ℕ) (es : List Event) → AreAscending (runs_from one bytes i depth before es)
ascending-from one bytes i depth before [] = tt
ascending-from one bytes i depth before (e ∷ []) = tt
ascending-from one bytes i depth before (e ∷ g ∷ es) =
    elim (depth == 0 && is_sequence e g) as (λ t. AreAscending (cond t (run_at one bytes i e g before (index_of_event (slice_get es 0)) ∷ runs_from one bytes (i + 2) depth (Some g.point.index) es) (runs_from one bytes (i + 1) (depth_after e.kind depth) (Some e.point.index) (g ∷ es)))) [
      | true ↦ (behind-it i (runs_from one bytes (i + 2) depth (Some g.point.index) es) (runs-behind one bytes (i + 1) (i + 2) depth (Some g.point.index) es (omega arith)), ascending-from one bytes (i + 2) depth (Some g.point.index) es)
      | false ↦ ascending-from one bytes (i + 1) (depth_after e.kind depth) (Some e.point.index) (g ∷ es)
    ]

pub runs-ascend : (one : Bool) (bytes : List ℕ) (es : List Event) → AreAscending (runs_in one bytes es)
runs-ascend one bytes es = ascending-from one bytes 0 0 None es

-- when nothing was read yet
pub stands-first : (one : Bool) (bytes : List ℕ) (es : List Event) → ArePlacesInside bytes es → Stands es [] [] [] [] (runs_in one bytes es) (start_of (runs_in one bytes es))
stands-first one bytes es h = record {
  laid = (refl, refl, refl);
  owners = refl;
  left = refl;
  apart = runs-ascend one bytes es;
  room = all-room one bytes es 0 0 None h;
  fit = tt;
}

-- ---- the whole text

-- when no span is left, the runs that are left pair, and the pieces are the text's
pub all-written : (one : Bool) (bytes : List ℕ) (es : List Event) (bs : List Bracket) (rs : List Run) (os : List ℕ) (ps : List Piece) (rest : List Run) (bound next : ℕ) (z : SoFar)
    → Stands es bs rs os ps rest z → linked_from (start_of (runs_in one bytes es)) (outermost_spans es) ≡ linked_from z (spans_in bound (drop next es)) → length es ≤ next
    → (ds : List Delimiters) → map as_run ds ≡ paired rs
    → written_from es [] (placed_at ps os ds) ≡ with_links one bytes es
all-written one bytes es bs rs os ps rest bound next z h same end ds pairs =
    let joined = all-joined es z.waiting z.behind bs rs ps h.laid in
    let parts = all_parts z.waiting z.behind in
    let rs' = runs_of_parts parts in
    let long : length ds ≡ length rs' =
    sym (length-map ds as_run) ∙ ap length pairs ∙ sym (length-map (paired rs) standing) ∙ ap length (pairs-keep rs) ∙ length-map rs standing ∙ ap length joined.0 in
    let left = length-drop next es in
    let none : spans_in bound (drop next es) ≡ [] = spans-none bound (drop next es) (omega (arith, left, end)) in
    let reached : linked_from (start_of (runs_in one bytes es)) (outermost_spans es) ≡ z = same ∙ ap (linked_from z) none in
    let filled-all = filled-is es parts ps ds joined.1 (subst AreAscending joined.0 (ascending-front rs rest h.apart)) (pairs ∙ ap paired joined.0) long in
    ap (written_from es []) (ap (λ ns. placed_at ps ns ds) h.owners ∙ placed-are ps [] ds)
    ∙ filled-all.1 []
    ∙ ap (λ (y : SoFar). emphasised_parts (all_parts y.waiting y.behind)) (sym reached)
