-- Pairs that make strikethrough are of two runs of tildes, of one size, and take all of both.
use Rattle.std.proofs.Common.{◌≡◌, ◌⊎◌, ℕ, zero, suc, ◌+◌, ◌-◌, ◌<◌, ◌≤◌, ◌==◌, Bool, true, false, List, [], ◌∷◌, Option, Some, None, inl, inr, refl, sym, ap, ◌∙◌, subst, arith}
use Rattle.std.proofs.Math.Bool.{or-true}
use Rattle.std.proofs.lemmas.Bool.{and_parts, cases_Bool, cond_both, false≢true, leb-true, or_cases}
use Rattle.std.proofs.lemmas.List.Elements.{All-from_recursion, recursion_from_All}
use Rattle.std.proofs.lemmas.List.Sorted.{All-permutation, IsPermutation-sym}
use Rattle.std.specs.List.{AllByRecursion, flat_map}
use Rattle.std.specs.Prelude.{◌%◌, ◌&&◌, ◌||◌, All, nat_le, nat_lt, not, slice_get}
use Rattle.markdown_base.proofs.Common.{every-append}
use Rattle.markdown_base.specs.declared.event.Event.{Event}
use Rattle.markdown_base.specs.declared.event.Name.TheVariants.{GfmStrikethrough}
use Rattle.markdown_tokenizer.proofs.Positions.Order.{every-back, every-front}
use Rattle.mdinline_emphasis.proofs.Markers.{same-is}
use Rattle.mdinline_emphasis.specs.Classes.{class_after, class_before}
use Rattle.mdinline_emphasis.specs.declared.pairs.Marker.{Marker}
use Rattle.mdinline_emphasis.specs.declared.pairs.Marker.TheVariants.{Asterisk, Underscore, Tilde}
use Rattle.mdinline_emphasis.specs.Emphasis.{Delimiter, Pair, Run, are_both, close_pairs, gave, have_two, is_tilde, lengths_fit, markers_of, on_stack, opens_yet, outer_name, pairs, pairs_from, same, style_by, style_of}
use Rattle.mdinline_emphasis.specs.Runs.{can_close, can_open, class_beside, depth_after, index_of_event, is_sequence, marker_from, may_mark, run_at, runs_from, runs_in}
use Rattle.mddocument_laws.specs.EmphasisLaws.{IsOfTildes, StrikethroughIsOfTildes}
use Rattle.mddocument_laws.specs.PairedApart.{runs_apart}
use Rattle.mddocument_laws.proofs.Emphasis.PairOrder.{by-pairs, delimiter, pair_with}
use Rattle.mddocument_laws.proofs.Emphasis.RunsApart.{runs-are-apart}

-- ---- runs as they are read: of tildes that open or close something there are two at most, and two if one does not count
abbrev IsRead : (one : Bool) → Run → Type 0
IsRead one r = (is_tilde r.marker ≡ true → (r.opens || r.closes) ≡ true → (r.left ≤ 2) × ((one || nat_le 2 r.left) ≡ true)) × (r.rest ≡ r.left % 3)

abbrev AreRead : (one : Bool) → List Run → Type 0
AreRead one rs = AllByRecursion (IsRead one) rs

few : (one : Bool) (m : Marker) (n : ℕ) → is_tilde m ≡ true → may_mark one m n ≡ true → (n ≤ 2) × ((one || nat_le 2 n) ≡ true)
few one m n t h =
    let both = and_parts (nat_le n 2) (one || nat_le 2 n) (subst (λ b. (not b || (nat_le n 2 && (one || nat_le 2 n))) ≡ true) t h) in
    (leb-true n 2 both.0, both.1)

run-read : (one : Bool) (bytes : List ℕ) (i : ℕ) (e f : Event) (before behind : Option ℕ) → IsRead one (run_at one bytes i e f before behind)
run-read one bytes i e f before behind =
    let m = marker_from (slice_get bytes e.point.index) in
    let n = f.point.index - e.point.index in
    let first = class_beside before e.point.index (class_before bytes e.point.index) in
    let last = class_beside behind f.point.index (class_after bytes f.point.index) in (
      λ t either. elim (or_cases (may_mark one m n && can_open m first last) (may_mark one m n && can_close m first last) either) [
        | inl opens ↦ few one m n t (and_parts (may_mark one m n) (can_open m first last) opens).0
        | inr closes ↦ few one m n t (and_parts (may_mark one m n) (can_close m first last) closes).0
      ],
      refl,
    )

runs-read : (one : Bool) (bytes : List ℕ) (i depth : ℕ) (before : Option ℕ) (es : List Event) → AreRead one (runs_from one bytes i depth before es)
runs-read one bytes i depth before [] = tt
runs-read one bytes i depth before (e ∷ []) = tt
runs-read one bytes i depth before (e ∷ f ∷ es) =
    cond_both (depth == 0 && is_sequence e f) (run_at one bytes i e f before (index_of_event (slice_get es 0)) ∷ runs_from one bytes (i + 2) depth (Some f.point.index) es)
    (runs_from one bytes (i + 1) (depth_after e.kind depth) (Some e.point.index) (f ∷ es)) (AreRead one)
    (λ is. (run-read one bytes i e f before (index_of_event (slice_get es 0)), runs-read one bytes (i + 2) depth (Some f.point.index) es))
    (λ other. runs-read one bytes (i + 1) (depth_after e.kind depth) (Some e.point.index) (f ∷ es))

-- ---- one pair
tilde-is : (m : Marker) → is_tilde m ≡ true → m ≡ Tilde
tilde-is Asterisk t = absurd (false≢true t)
tilde-is Underscore t = absurd (false≢true t)
tilde-is Tilde t = refl

-- of other markers no strikethrough is made
not-struck : (m : Marker) (two : Bool) → is_tilde m ≡ false → outer_name (style_by m two) ≡ GfmStrikethrough → ⊥
not-struck Asterisk true t e = absurd (cc)
not-struck Asterisk false t e = absurd (cc)
not-struck Underscore true t e = absurd (cc)
not-struck Underscore false t e = absurd (cc)
not-struck Tilde two t e = false≢true (sym t)

-- two runs of tildes that fit give all that they have
takes-all : (m : Marker) (a b : ℕ) → is_tilde m ≡ true → a ≤ 2 → b ≤ 2 → are_both (a % 3) (b % 3) ≡ true
    → (a ≡ markers_of (style_by m (nat_le 2 a && nat_le 2 b))) × (b ≡ markers_of (style_by m (nat_le 2 a && nat_le 2 b)))
takes-all Asterisk a b t h k both = absurd (false≢true t)
takes-all Underscore a b t h k both = absurd (false≢true t)
takes-all Tilde zero b t h k both = absurd (false≢true both)
takes-all Tilde (suc zero) zero t h k both = absurd (false≢true both)
takes-all Tilde (suc zero) (suc zero) t h k both = (refl, refl)
takes-all Tilde (suc zero) (suc (suc zero)) t h k both = absurd (false≢true both)
takes-all Tilde (suc zero) (suc (suc (suc b))) t h k both = absurd (omega (arith, k))
takes-all Tilde (suc (suc zero)) zero t h k both = absurd (false≢true both)
takes-all Tilde (suc (suc zero)) (suc zero) t h k both = absurd (false≢true both)
takes-all Tilde (suc (suc zero)) (suc (suc zero)) t h k both = (refl, refl)
takes-all Tilde (suc (suc zero)) (suc (suc (suc b))) t h k both = absurd (omega (arith, k))
takes-all Tilde (suc (suc (suc a))) b t h k both = absurd (omega (arith, h))

-- if one does not count, it has two
two-if : (one : Bool) (n : ℕ) → one ≡ false → (n ≤ 2) × ((one || nat_le 2 n) ≡ true) → n ≡ 2
two-if one n off h = let many = leb-true 2 n (subst (λ b. (b || nat_le 2 n) ≡ true) off h.1) in omega (arith, h.0, many)

-- lengths of tildes that fit
both-fit : (m : Marker) (one_does_both : Bool) (a b : ℕ) → is_tilde m ≡ true → lengths_fit m one_does_both a b ≡ true → are_both a b ≡ true
both-fit Asterisk any a b t h = absurd (false≢true t)
both-fit Underscore any a b t h = absurd (false≢true t)
both-fit Tilde any a b t h = h

-- ---- the pairs of runs that were read
module _ (one : Bool) (all : List Run) where
  abbrev IsOf : Pair → Type 0
  IsOf p = outer_name p.style ≡ GfmStrikethrough → IsOfTildes all p × (one ≡ false → markers_of p.style ≡ 2)

  abbrev AreOf : List Pair → Type 0
  AreOf ps = AllByRecursion IsOf ps

  -- a run of tildes that is in no pair yet is as it was read
  abbrev Whole : Delimiter → Type 0
  Whole d = is_tilde d.run.marker ≡ true → (slice_get all d.number ≡ Some d.run) × IsRead one d.run

  abbrev IsOpener : Delimiter → Type 0
  IsOpener d = Whole d × (d.run.opens ≡ true)

  abbrev AreOpeners : List Delimiter → Type 0
  AreOpeners stack = AllByRecursion IsOpener stack

  -- and one that is in a pair has no markers left
  abbrev IsDone : Delimiter → Type 0
  IsDone d = Whole d ⊎ (d.run.left ≡ 0)

  put : (d : Delimiter) (stack : List Delimiter) → IsDone d → AreOpeners stack → AreOpeners (on_stack d stack)
  put d stack done h = cond_both (opens_yet d.run) (d ∷ stack) stack AreOpeners (λ yet. by done (and_parts d.run.opens (nat_lt 0 d.run.left) yet)) (λ no. h)
    where
      by : IsDone d → (d.run.opens ≡ true) × (nat_lt 0 d.run.left ≡ true) → AreOpeners (d ∷ stack)
      by (inl whole) yet = ((whole, yet.0), h)
      by (inr none) yet = absurd (false≢true (ap (nat_lt 0) (sym none) ∙ yet.1))

  -- a pair of tildes
  record IsTaken (o d : Delimiter) : Type 0 where
    pair : IsOfTildes all (pair_with o d)
    two : one ≡ false → markers_of (style_of o.run d.run) ≡ 2
    opener : (gave (style_of o.run d.run) o).run.left ≡ 0
    closer : (gave (style_of o.run d.run) d).run.left ≡ 0

  is-taken : (o d : Delimiter) → is_tilde d.run.marker ≡ true → 0 < d.run.left → d.run.closes ≡ true → (same o.run.marker d.run.marker && lengths_fit d.run.marker (o.run.closes || d.run.opens) o.run.rest d.run.rest) ≡ true → IsOpener o → IsDone d → IsTaken o d
  is-taken o d t some closes fits opener (inr none) = absurd (omega (arith, some, none))
  is-taken o d t some closes fits opener (inl whole) =
      let both = and_parts (same o.run.marker d.run.marker) (lengths_fit d.run.marker (o.run.closes || d.run.opens) o.run.rest d.run.rest) fits in
      let marker : o.run.marker ≡ d.run.marker = same-is o.run.marker d.run.marker both.0 in
      let tilde : is_tilde o.run.marker ≡ true = ap is_tilde marker ∙ t in
      let its = opener.0 tilde in
      let own = whole t in
      let opens : (o.run.opens || o.run.closes) ≡ true = ap (λ b. b || o.run.closes) opener.1 in
      let also : (d.run.opens || d.run.closes) ≡ true = ap (λ b. d.run.opens || b) closes ∙ or-true d.run.opens in
      let rests : are_both (o.run.left % 3) (d.run.left % 3) ≡ true =
      ap (λ n. are_both n (d.run.left % 3)) (sym its.1.1) ∙ ap (are_both o.run.rest) (sym own.1.1) ∙ both-fit d.run.marker (o.run.closes || d.run.opens) o.run.rest d.run.rest t both.1 in
      let takes = takes-all d.run.marker o.run.left d.run.left t (its.1.0 tilde opens).0 (own.1.0 t also).0 rests in
      let n : ℕ = markers_of (style_of o.run d.run) in
      let first : o.run.left ≡ n = takes.0 in
      let second : d.run.left ≡ n = takes.1 in
      let none_first : o.run.left - n ≡ 0 = omega (arith, first) in
      let none_second : d.run.left - n ≡ 0 = omega (arith, second) in
      record {
        pair = record { opener = o.run; closer = d.run; opens = its.0; closes = own.0; tildes = (tilde-is o.run.marker tilde, tilde-is d.run.marker t); all = takes };
        two = λ off. sym first ∙ two-if one o.run.left off (its.1.0 tilde opens);
        opener = none_first;
        closer = none_second;
      }

  close-of : (n : ℕ) (d : Delimiter) (stack : List Delimiter) → AreOpeners stack → IsDone d → AreOf (close_pairs n d stack).1 × AreOpeners (close_pairs n d stack).0
  close-of n d stack = by-pairs
      (λ d stack r. AreOpeners stack → IsDone d → AreOf r.1 × AreOpeners r.0)
      (λ d stack h done. (tt, put d stack done h))
      (λ d o front below rest some closes fits ih h done.
      let behind = every-back IsOpener front (o ∷ below) h in
      let s = style_of o.run d.run in
      elim (cases_Bool (is_tilde d.run.marker)) [
        | inl t ↦
            let taken = is-taken o d t some closes fits behind.0 done in
            let next = ih (put (gave s o) below (inr taken.opener) behind.1) (inr taken.closer) in
            (((λ e. (taken.pair, taken.two)), next.0), next.1)
        | inr t ↦
            let marker : o.run.marker ≡ d.run.marker = same-is o.run.marker d.run.marker (and_parts (same o.run.marker d.run.marker) (lengths_fit d.run.marker (o.run.closes || d.run.opens) o.run.rest d.run.rest) fits).0 in
            let other : is_tilde o.run.marker ≡ false = ap is_tilde marker ∙ t in
            let next = ih (put (gave s o) below (inl (λ u. absurd (false≢true (sym other ∙ u)))) behind.1) (inl (λ u. absurd (false≢true (sym t ∙ u)))) in
            (((λ e. absurd (not-struck d.run.marker (have_two o.run d.run) t e)), next.0), next.1)
      ])
      n d stack

  pairs-of : (n : ℕ) (stack : List Delimiter) (rs : List Run) → AreOpeners stack → AreRead one rs → ((i : ℕ) → slice_get all (n + i) ≡ slice_get rs i) → AreOf (pairs_from n stack rs)
  pairs-of n stack [] h read at = tt
  pairs-of n stack (r ∷ rs) h read at =
      let closed = close_pairs r.left (delimiter n r) stack in
      let here : n + 0 ≡ n = omega arith in
      let own : slice_get all n ≡ Some r = ap (slice_get all) (sym here) ∙ at 0 in
      let are = close-of r.left (delimiter n r) stack h (inl (λ t. (own, read.0))) in
      let next : (i : ℕ) → slice_get all (n + 1 + i) ≡ slice_get rs i = λ i. let more : n + 1 + i ≡ n + suc i = omega arith in ap (slice_get all) more ∙ at (suc i) in
      every-append IsOf closed.1 (pairs_from (n + 1) closed.0 rs) are.0 (pairs-of (n + 1) closed.0 rs are.1 read.1 next)

-- ---- the runs of a text, taken apart by links and images
parts-read : (one : Bool) (parts : List (List Run)) → AreRead one (flat_map (λ rs. rs) parts) → AllByRecursion (AreRead one) parts
parts-read one [] h = tt
parts-read one (rs ∷ parts) h = (every-front (IsRead one) rs (flat_map (λ l. l) parts) h, parts-read one parts (every-back (IsRead one) rs (flat_map (λ l. l) parts) h))

parts-of : (one : Bool) (parts : List (List Run)) → AllByRecursion (AreRead one) parts → AllByRecursion (λ rs. All (IsOf one rs) (pairs rs)) parts
parts-of one [] h = tt
parts-of one (rs ∷ parts) h =
    let front : (i : ℕ) → slice_get rs (0 + i) ≡ slice_get rs i = λ i. let none : 0 + i ≡ i = omega arith in ap (slice_get rs) none in
    (All-from_recursion (IsOf one rs) (pairs rs) (pairs-of one rs 0 [] rs tt h.0 front), parts-of one parts h.1)

pub strikethrough-of-tildes : StrikethroughIsOfTildes
strikethrough-of-tildes one bytes es =
    let parts = runs_apart one bytes es in
    let rs = runs_in one bytes es in
    let whole = flat_map (λ (l : List Run). l) parts in
    let apart = runs-are-apart one bytes es in
    let read = All-permutation (IsRead one) rs whole (IsPermutation-sym whole rs apart.all) (All-from_recursion (IsRead one) rs (runs-read one bytes 0 0 None es)) in
    All-from_recursion (λ (l : List Run). All (IsOf one l) (pairs l)) parts (parts-of one parts (parts-read one parts (recursion_from_All (IsRead one) whole read)))
