-- What the code does with a span, in the words of its contracts.
use Rattle.std.proofs.Common.{◌≡◌, ◌-◌, ◌<◌, ◌≤◌, ◌∙◌, ℕ, Bool, List, [], ◌∷◌, ◌++◌, true, false, cond, ap, arith, drop, length, map, refl, subst, sym, take}
use Rattle.std.proofs.lemmas.List.{length-map, map-append, reverse-append}
use Rattle.std.specs.List.{AllByRecursion, between}
use Rattle.std.specs.Prelude.{nat_lt, reverse}
use Rattle.markdown_base.specs.declared.event.Event.{Event}
use Rattle.markdown_base.specs.declared.event.Name.TheVariants.{LabelEnd, LabelImage, LabelMarker}
use Rattle.mdinline_emphasis.proofs.PairsKeep.{pairs-keep}
use Rattle.mdinline_emphasis.specs.declared.pairs.Delimiters.{Delimiters}
use Rattle.mdinline_emphasis.specs.Emphasis.{Run, paired}
use Rattle.mdinline_emphasis.specs.Places.{AllHaveRoom, ArePlacesInside, standing}
use Rattle.mdinline_emphasis.specs.Runs.{runs_in}
use Rattle.mdinline_emphasis.specs.Searches.{as_run}
use Rattle.mdinline_links.specs.declared.brackets.Bracket.{Bracket}
use Rattle.mdinline_links.specs.declared.brackets.Pieces.{Pieces}
use Rattle.mdinline_links.specs.declared.pieces.Fate.TheVariants.{AsData, Same, Waits}
use Rattle.mdinline_links.specs.declared.pieces.Piece.{Piece}
use Rattle.mdinline_links.proofs.Cuts.{long-span}
use Rattle.mdinline_links.proofs.Laid.{filled-fit, laid-count, placed-are}
use Rattle.mdinline_links.proofs.Reached.{all-written, end-reaches, read-reaches, stands-ended, stands-first, start_of, tail-reaches}
use Rattle.mdinline_links.proofs.Steps.{room-front, stands-alone, stands-by, stands-failed, stands-opened, stands-piece, stands-run}
use Rattle.mdinline_links.specs.Laid.{GoesOn, IsEnded, IsMade, IsReached, IsRead, Stands, bracket_at, piece_at, placed_at}
use Rattle.mdinline_links.specs.Linked.{Part, run, events, SoFar, added, failed, is_bracket, is_named, is_run, is_tail, opened, outermost_spans, part_of, span_at, spans_in, taken, with_links}
use Rattle.mdinline_links.specs.Pieces.{Fits, written_from}

pub nothing-there : {A : Type 0} (xs : List A) → length xs ≡ 0 → xs ≡ []
nothing-there [] h = refl
nothing-there (x ∷ xs) h = absurd (omega (arith, h))

-- ---- a span that is no end

module _ (span : List Event) (z : SoFar) where
  taken-opens : is_bracket span ≡ true → taken span z ≡ opened span z
  taken-opens h = ap (λ t. cond t (opened span z) (cond (is_named LabelMarker span) (failed span z.waiting z) (added span z))) h

  taken-fails : is_bracket span ≡ false → is_named LabelMarker span ≡ true → taken span z ≡ failed span z.waiting z
  taken-fails h k =
      ap (λ t. cond t (opened span z) (cond (is_named LabelMarker span) (failed span z.waiting z) (added span z))) h
      ∙ ap (λ t. cond t (failed span z.waiting z) (added span z)) k

  taken-adds : is_bracket span ≡ false → is_named LabelMarker span ≡ false → taken span z ≡ added span z
  taken-adds h k =
      ap (λ t. cond t (opened span z) (cond (is_named LabelMarker span) (failed span z.waiting z) (added span z))) h
      ∙ ap (λ t. cond t (failed span z.waiting z) (added span z)) k

  abbrev with_part : Part × List Run → SoFar
  with_part p = record z { behind = z.behind ++ p.0 ∷ []; runs = p.1 }

  adds-run : (r : Run) (rs : List Run) → is_run span ≡ true → z.runs ≡ r ∷ rs → added span z ≡ record z { behind = z.behind ++ run r ∷ []; runs = rs }
  adds-run r rs h k =
      let one : part_of span (r ∷ rs) ≡ (run r, rs) = ap (λ t. let p : Part × List Run = cond t (run r, rs) (events span, r ∷ rs) in p) h in
      ap (λ qs. with_part (part_of span qs)) k ∙ ap with_part one

  part-plain : (rs : List Run) → is_run span ≡ false → part_of span rs ≡ (events span, rs)
  part-plain [] h = refl
  part-plain (r ∷ rs) h = ap (λ t. let p : Part × List Run = cond t (run r, rs) (events span, r ∷ rs) in p) h

  adds-plain : is_run span ≡ false → added span z ≡ record z { behind = z.behind ++ events span ∷ [] }
  adds-plain h = ap with_part (part-plain z.runs h)

  adds-last : z.runs ≡ [] → added span z ≡ record z { behind = z.behind ++ events span ∷ [] }
  adds-last h = ap (λ qs. with_part (part_of span qs)) h ∙ ap (λ qs. with_part (events span, qs)) (sym h)

module _ (es : List Event) (old new : Pieces) (start end : ℕ) (order : start < end) (inside : end ≤ length es) where
  abbrev span : List Event
  span = between start end es

  fits : (start ≤ end) × (end ≤ length es)
  fits = (omega (arith, order), inside)

  some : 0 < length span
  some = long-span es start end order inside

  module _ (rs : new.runs.items ≡ old.runs.items) (os : new.owners.items ≡ old.owners.items) (left : List Delimiters) where
    abbrev rest : List Run
    rest = reverse (map as_run left)

    pub read-opened : is_bracket span ≡ true → new.pieces.items ≡ old.pieces.items ++ piece_at start end AsData ∷ []
        → new.brackets.items ≡ old.brackets.items ++ bracket_at (length old.pieces.items) (length old.runs.items) (is_named LabelImage span) ∷ [] → IsRead es old new left left start end
    read-opened is ps bs z h =
        let long : length (map as_run old.runs.items) ≡ length old.runs.items = length-map old.runs.items as_run in
        let all = stands-opened es old.brackets.items (map as_run old.runs.items) old.owners.items old.pieces.items rest z (piece_at start end AsData) span h refl refl some (fits.0, fits.1, tt) in
        let bs' = old.brackets.items ++ bracket_at (length old.pieces.items) (length (map as_run old.runs.items)) (is_named LabelImage span) ∷ [] in
        subst (Stands es new.brackets.items (map as_run new.runs.items) new.owners.items new.pieces.items rest) (sym (taken-opens span z is))
        (stands-by es bs' new.brackets.items (map as_run old.runs.items) (map as_run new.runs.items) old.owners.items new.owners.items (old.pieces.items ++ piece_at start end AsData ∷ []) new.pieces.items rest rest (opened span z)
        (bs ∙ ap (λ n. old.brackets.items ++ bracket_at (length old.pieces.items) n (is_named LabelImage span) ∷ []) (sym long)) (ap (map as_run) rs) os ps refl all)

    pub read-failed : is_bracket span ≡ false → is_named LabelMarker span ≡ true → new.pieces.items ≡ old.pieces.items ++ piece_at start end AsData ∷ []
        → new.brackets.items ≡ take (length old.brackets.items - 1) old.brackets.items → IsRead es old new left left start end
    read-failed none is ps bs z h =
        let all = stands-failed es old.brackets.items (map as_run old.runs.items) old.owners.items old.pieces.items rest z (piece_at start end AsData) span h refl refl (fits.0, fits.1, tt) in
        subst (Stands es new.brackets.items (map as_run new.runs.items) new.owners.items new.pieces.items rest) (sym (taken-fails span z none is))
        (stands-by es (take (length old.brackets.items - 1) old.brackets.items) new.brackets.items (map as_run old.runs.items) (map as_run new.runs.items) old.owners.items new.owners.items
        (old.pieces.items ++ piece_at start end AsData ∷ []) new.pieces.items rest rest (failed span z.waiting z) bs (ap (map as_run) rs) os ps refl all)

    read-same : (z y : SoFar) → taken span z ≡ y → y ≡ record z { behind = z.behind ++ events span ∷ [] } → new.pieces.items ≡ old.pieces.items ++ piece_at start end Same ∷ []
        → new.brackets.items ≡ old.brackets.items → Stands es old.brackets.items (map as_run old.runs.items) old.owners.items old.pieces.items rest z
        → Stands es new.brackets.items (map as_run new.runs.items) new.owners.items new.pieces.items rest (taken span z)
    read-same z y is adds ps bs h =
        let all = stands-piece es old.brackets.items (map as_run old.runs.items) old.owners.items old.pieces.items rest z (piece_at start end Same) span h refl (λ before. refl) (fits.0, fits.1, tt) in
        subst (Stands es new.brackets.items (map as_run new.runs.items) new.owners.items new.pieces.items rest) (sym (is ∙ adds))
        (stands-by es old.brackets.items new.brackets.items (map as_run old.runs.items) (map as_run new.runs.items) old.owners.items new.owners.items
        (old.pieces.items ++ piece_at start end Same ∷ []) new.pieces.items rest rest (record z { behind = z.behind ++ events span ∷ [] }) bs (ap (map as_run) rs) os ps refl all)

    pub read-other : is_bracket span ≡ false → is_named LabelMarker span ≡ false → is_run span ≡ false → new.pieces.items ≡ old.pieces.items ++ piece_at start end Same ∷ []
        → new.brackets.items ≡ old.brackets.items → IsRead es old new left left start end
    read-other a b c ps bs z h = read-same z (added span z) (taken-adds span z a b) (adds-plain span z c) ps bs h

    -- no run is left
    pub read-last : is_bracket span ≡ false → is_named LabelMarker span ≡ false → left ≡ [] → new.pieces.items ≡ old.pieces.items ++ piece_at start end Same ∷ []
        → new.brackets.items ≡ old.brackets.items → IsRead es old new left left start end
    read-last a b none ps bs z h = read-same z (added span z) (taken-adds span z a b) (adds-last span z (h.left ∙ ap (λ ds. reverse (map as_run ds)) none)) ps bs h

  pub read-run : (left left' : List Delimiters) (d : Delimiters) → left ≡ left' ++ d ∷ [] → is_bracket span ≡ false → is_named LabelMarker span ≡ false → is_run span ≡ true
      → new.pieces.items ≡ old.pieces.items ++ piece_at start end Waits ∷ [] → new.brackets.items ≡ old.brackets.items → new.runs.items ≡ old.runs.items ++ d ∷ []
      → new.owners.items ≡ old.owners.items ++ length old.pieces.items ∷ [] → IsRead es old new left left' start end
  read-run left left' d last a b c ps bs rs os z h =
      let rest = reverse (map as_run left') in
      let all_left : reverse (map as_run left) ≡ as_run d ∷ rest =
      ap (λ ds. reverse (map as_run ds)) last ∙ ap reverse (map-append as_run left' (d ∷ [])) ∙ reverse-append (map as_run left') (as_run d ∷ []) in
      let before = stands-by es old.brackets.items old.brackets.items (map as_run old.runs.items) (map as_run old.runs.items) old.owners.items old.owners.items old.pieces.items old.pieces.items (reverse (map as_run left)) (as_run d ∷ rest) z
      refl refl refl refl (sym all_left) h in
      let all = stands-run es old.brackets.items (map as_run old.runs.items) old.owners.items old.pieces.items (as_run d) rest z (piece_at start end Waits) before refl (fits.0, fits.1, tt) in
      subst (Stands es new.brackets.items (map as_run new.runs.items) new.owners.items new.pieces.items rest) (sym (taken-adds span z a b ∙ adds-run span z (as_run d) rest c (h.left ∙ all_left)))
      (stands-by es old.brackets.items new.brackets.items (map as_run old.runs.items ++ as_run d ∷ []) (map as_run new.runs.items) (old.owners.items ++ length old.pieces.items ∷ []) new.owners.items
      (old.pieces.items ++ piece_at start end Waits ∷ []) new.pieces.items rest rest (record z { behind = z.behind ++ run (as_run d) ∷ []; runs = rest })
      bs (ap (map as_run) rs ∙ map-append as_run old.runs.items (d ∷ [])) os ps refl all)

-- ---- the end of a label

module _ (old new : Pieces) (start end tail : ℕ) (some : start < end) (order : end ≤ tail) where
  pub ended-none : old.brackets.items ≡ [] → new.brackets.items ≡ old.brackets.items → new.runs.items ≡ old.runs.items → new.owners.items ≡ old.owners.items
      → new.pieces.items ≡ (old.pieces.items ++ piece_at start end Same ∷ []) ++ cond (nat_lt end tail) (piece_at end tail Same ∷ []) [] → IsEnded old new start end tail
  ended-none none bs rs os ps es left z within h =
      let rest = reverse (map as_run left) in
      let all = stands-alone es old.brackets.items (map as_run old.runs.items) old.owners.items old.pieces.items rest z start end tail h none some order within in
      stands-by es old.brackets.items new.brackets.items (map as_run old.runs.items) (map as_run new.runs.items) old.owners.items new.owners.items
      ((old.pieces.items ++ piece_at start end Same ∷ []) ++ cond (nat_lt end tail) (piece_at end tail Same ∷ []) []) new.pieces.items rest rest _ bs (ap (map as_run) rs) os ps refl all

  pub ended-some : (mid : Pieces) (b : Bracket) → old.brackets.items ≡ mid.brackets.items ++ b ∷ [] → mid.runs.items ≡ old.runs.items → mid.owners.items ≡ old.owners.items → mid.pieces.items ≡ old.pieces.items
      → IsMade mid new b start end tail → IsEnded old new start end tail
  ended-some mid b last rs os ps made es left z within h =
      let rest = reverse (map as_run left) in
      let same = stands-by es old.brackets.items old.brackets.items (map as_run old.runs.items) (map as_run mid.runs.items) old.owners.items mid.owners.items old.pieces.items mid.pieces.items rest rest z refl (ap (map as_run) rs) os ps refl h in
      let all = stands-ended es old.brackets.items (map as_run mid.runs.items) mid.owners.items mid.pieces.items rest z same made.placed start end tail some order within mid.brackets.items b last made.pairs in
      stands-by es mid.brackets.items new.brackets.items (take b.runs (map as_run mid.runs.items)) (map as_run new.runs.items) (take b.runs mid.owners.items) new.owners.items _ new.pieces.items rest rest _
      made.brackets made.runs made.owners made.pieces refl all

-- ---- one step

module _ (es : List Event) (old new : Pieces) (left : List Delimiters) (start end : ℕ) (inside : start < length es)
    (cut : span_at 0 (drop start es) ≡ (between start end es, drop end es)) (more : start < end) where
  pub step-read : (left' : List Delimiters) → is_named LabelEnd (between start end es) ≡ false → IsRead es old new left left' start end → GoesOn es old new left left' start end
  step-read left' name read z bound h enough = read-reaches es new left' z start end inside cut bound enough more name (read z h)

  pub step-end : (tail : ℕ) → tail ≡ end → is_named LabelEnd (between start end es) ≡ true → is_tail (drop end es) ≡ false → end ≤ length es → IsEnded old new start end tail → GoesOn es old new left left start tail
  step-end tail same name none within ended z bound h enough =
      let all = subst (IsEnded old new start end) same ended es left z within h in
      subst (λ n. IsReached es z (spans_in bound (drop start es)) n new left) (sym same) (end-reaches es new left z start end inside cut bound enough more name none all)

  pub step-tail : (tail : ℕ) → is_named LabelEnd (between start end es) ≡ true → is_tail (drop end es) ≡ true → end < length es → end < tail → tail ≤ length es
      → span_at 0 (drop end es) ≡ (between end tail es, drop tail es) → IsEnded old new start end tail → GoesOn es old new left left start tail
  step-tail tail name is further some within cut' ended z bound h enough =
      tail-reaches es new left z start end inside cut bound tail enough more further some name is cut' (ended es left z within h)

-- ---- the whole text

-- as many runs are in no pair as have a piece
pub many-owners : (es : List Event) (bs : List Bracket) (ds : List Delimiters) (os : List ℕ) (ps : List Piece) (left : List Run) (z : SoFar) → Stands es bs (map as_run ds) os ps left z → length os ≡ length ds
many-owners es bs ds os ps left z h = ap length h.owners ∙ laid-count es z.waiting z.behind bs (map as_run ds) ps h.laid ∙ length-map ds as_run

pub many-paired : (rs : List Run) (ds : List Delimiters) → map as_run ds ≡ paired rs → length ds ≡ length rs
many-paired rs ds h = sym (length-map ds as_run) ∙ ap length h ∙ sym (length-map (paired rs) standing) ∙ ap length (pairs-keep rs) ∙ length-map rs standing

-- before the first span
pub first-reached : (one : Bool) (bytes : List ℕ) (es : List Event) (all : Pieces) (left runs : List Delimiters) → ArePlacesInside bytes es → all.brackets.items ≡ [] → all.runs.items ≡ [] → all.owners.items ≡ [] → all.pieces.items ≡ []
    → map as_run runs ≡ runs_in one bytes es → left ≡ reverse runs → IsReached es (start_of (runs_in one bytes es)) (outermost_spans es) 0 all left
first-reached one bytes es all left runs places bs rs os ps is turned = record {
  so_far = start_of (runs_in one bytes es);
  bound = length es;
  stands =
      stands-by es [] all.brackets.items [] (map as_run all.runs.items) [] all.owners.items [] all.pieces.items (runs_in one bytes es) (reverse (map as_run left)) (start_of (runs_in one bytes es))
      bs (ap (map as_run) rs) os ps (ap (λ ds. reverse (map as_run ds)) turned ∙ back runs ∙ is) (stands-first one bytes es places);
  enough = omega arith;
  same = refl;
}
  where
    back : (ds : List Delimiters) → reverse (map as_run (reverse ds)) ≡ map as_run ds
    back [] = refl
    back (d ∷ ds) =
        ap (λ xs. reverse (map as_run xs)) (reverse-append (d ∷ []) ds)
        ∙ ap reverse (map-append as_run (reverse ds) (d ∷ []))
        ∙ reverse-append (map as_run (reverse ds)) (as_run d ∷ [])
        ∙ ap (λ xs. as_run d ∷ xs) (back ds)

module _ (one : Bool) (bytes : List ℕ) (es : List Event) (all : Pieces) (left : List Delimiters) (next : ℕ) (h : IsReached es (start_of (runs_in one bytes es)) (outermost_spans es) next all left)
    (ds : List Delimiters) (pairs : map as_run ds ≡ paired (map as_run all.runs.items)) where
  pub reached-written : length es ≤ next → written_from es [] (placed_at all.pieces.items all.owners.items ds) ≡ with_links one bytes es
  reached-written end = all-written one bytes es all.brackets.items (map as_run all.runs.items) all.owners.items all.pieces.items (reverse (map as_run left)) h.bound next h.so_far h.stands h.same end ds pairs

  pub reached-many : length all.owners.items ≡ length ds
  reached-many = many-owners es all.brackets.items all.runs.items all.owners.items all.pieces.items (reverse (map as_run left)) h.so_far h.stands
      ∙ sym (length-map all.runs.items as_run) ∙ sym (many-paired (map as_run all.runs.items) ds pairs)

  pub reached-fit : AllByRecursion (Fits (length es)) (placed_at all.pieces.items all.owners.items ds)
  reached-fit =
      let rs = map as_run all.runs.items in
      let room : AllHaveRoom (map standing (map as_run ds)) = subst AllHaveRoom (sym (ap (map standing) pairs ∙ pairs-keep rs)) (room-front rs (reverse (map as_run left)) h.stands.room) in
      subst (AllByRecursion (Fits (length es))) (sym (ap (λ ns. placed_at all.pieces.items ns ds) h.stands.owners ∙ placed-are all.pieces.items [] ds))
      (filled-fit (length es) all.pieces.items ds h.stands.fit room)

pub reached-owners : (es : List Event) (z : SoFar) (spans : List (List Event)) (next : ℕ) (all : Pieces) (left : List Delimiters) → IsReached es z spans next all left
    → length all.owners.items ≡ length all.runs.items
reached-owners es z spans next all left h =
    many-owners es all.brackets.items all.runs.items all.owners.items all.pieces.items (reverse (map as_run left)) h.so_far h.stands

pub reached-more : (es : List Event) (z : SoFar) (spans : List (List Event)) (start next : ℕ) (old new : Pieces) (left left' : List Delimiters) → IsReached es z spans start old left
    → GoesOn es old new left left' start next → IsReached es z spans next new left'
reached-more es z spans start next old new left left' h more =
    let go = more h.so_far h.bound h.stands h.enough in
    record { so_far = go.so_far; bound = go.bound; stands = go.stands; enough = go.enough; same = h.same ∙ go.same }
