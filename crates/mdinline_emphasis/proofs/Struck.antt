-- Of the runs of a text each run of tildes is in no pair, or the whole of it is an end of one.
--
-- A run of tildes that waits, or that can close, has two or, if one counts, one, and none of them is in a pair yet. Two of them fit only if they have as
-- many, and their pair takes all.
use Rattle.std.proofs.Math.Bool.{or-false}
use Rattle.std.specs.List.{AllByRecursion}
use Rattle.std.specs.Prelude.{◌%◌}
use Rattle.markdown_base.proofs.Common.{every-append, every-map}
use Rattle.mdinline_emphasis.proofs.InTurn.{paired-in-turn}
use Rattle.mdinline_emphasis.proofs.Markers.{same-is}
use Rattle.mdinline_emphasis.proofs.PairsKeep.{some-left}
use Rattle.mdinline_emphasis.proofs.Prelude.{◌≡◌, ◌⊎◌, ℕ, zero, suc, ◌+◌, ◌-◌, ◌<◌, ◌≤◌, ◌==◌, ◌&&◌, ◌||◌, not, nat_le, nat_lt, Bool, true, false, cond, List, [], ◌∷◌, ◌++◌, Option, Some, None, inl, inr, refl, sym, ap, ◌∙◌, subst, arith, cases_Bool, slice_get, and-left, and-right, Event, Run, Marker, Style, OfEmphasis, OfStrong, Struck, StruckTwice, are_both, have_two, is_tilde, markers_of, may_pair, paired, same, style_of, Waiting, SoFar, Found, all_waiting, close, closing, in_turn_from, last_fitting, none_read, opening, put, put_back, put_behind, depth_after, index_of_event, is_sequence, may_mark, run_at, runs_from, runs_in}
use Rattle.mdinline_emphasis.specs.Emphasis.{rule_of_three}
use Rattle.mdinline_emphasis.specs.Struck.{IsAlone, IsEndOf, IsStruck, TildesAreWhole}

-- ---- two runs of tildes

-- both are ends of this style
record BothEnd (o r : Run) (s : Style) : Type 0 where
  opener : IsEndOf s (opening (style_of o r) o)
  closer : IsEndOf s (closing (style_of o r) r)

both-end : (o r : Run) (s : Style) → style_of o r ≡ s → o.left ≡ markers_of s → r.left ≡ markers_of s → IsAlone o → IsAlone r → BothEnd o r s
both-end o r s is opener_left closer_left opener_alone closer_alone =
    let taken = ap markers_of is in
    let none : o.left - markers_of (style_of o r) ≡ 0 = omega (arith, taken, opener_left) in
    let none' : r.left - markers_of (style_of o r) ≡ 0 = omega (arith, taken, closer_left) in
    record {
      opener = (none, inr (opener_alone.0, (λ i. is i ∷ opener_alone.1 i)));
      closer = (none', inl ((λ i. closer_alone.0 i ++ is i ∷ []), closer_alone.1));
    }

-- their style, by whether both have two
tilde-style : (o r : Run) (two : Bool) → is_tilde r.marker ≡ true → have_two o r ≡ two → style_of o r ≡ cond two StruckTwice Struck
tilde-style o r two tilde have =
    ap (λ t. cond t (cond (have_two o r) StruckTwice Struck) (cond (have_two o r) OfStrong OfEmphasis)) tilde ∙ ap (λ t. cond t StruckTwice Struck) have

-- two lengths that differ do not fit
no-both : (a b m n : ℕ) → a ≡ m → b ≡ n → are_both a b ≡ true → are_both m n ≡ true
no-both a b m n p q h = sym (ap (λ x. are_both x b) p ∙ ap (are_both m) q) ∙ h

-- the lengths of runs of tildes that match
lengths-are-both : (o r : Run) → is_tilde r.marker ≡ true → may_pair o r ≡ true → are_both o.rest r.rest ≡ true
lengths-are-both o r tilde fits =
    sym (ap (λ t. cond t (are_both o.rest r.rest) (not (o.closes || r.opens) || rule_of_three o.rest r.rest)) tilde) ∙ and-right (same o.marker r.marker) _ fits

-- ---- what may be in a pair

few-tildes : (n : ℕ) → nat_le n 2 ≡ true → n ≤ 2
few-tildes n h = grind (arith, h)

module _ (one : Bool) where
  -- ---- a run of tildes

  -- the markers of a run, as many as it has left: two, or one if one counts
  abbrev IsFew : (rest left : ℕ) → Type 0
  IsFew rest left = ((one ≡ true) × (rest ≡ 1) × (left ≡ 1)) ⊎ ((rest ≡ 2) × (left ≡ 2))

  abbrev IsSmall : Run → Type 0
  IsSmall r = IsFew r.rest r.left

  -- the whole of a run is an end
  abbrev IsEnd : Run → Type 0
  IsEnd r = ((one ≡ true) × IsEndOf Struck r) ⊎ IsEndOf StruckTwice r

  -- in no pair yet, and small if it can be in one
  record IsFree (r : Run) : Type 0 where
    alone : IsAlone r
    opens : r.opens ≡ true → 0 < r.left → IsSmall r
    closes : r.closes ≡ true → 0 < r.left → IsSmall r

  -- a run, if it is of tildes, is free, or an end
  abbrev Fits : Run → Type 0
  Fits r = is_tilde r.marker ≡ true → IsFree r ⊎ IsEnd r

  -- one with tildes left is free
  free-of : (r : Run) → 0 < r.left → IsFree r ⊎ IsEnd r → IsFree r
  free-of r some (inl free) = free
  free-of r some (inr (inl end)) = absurd (let none = end.1.0 in omega (arith, some, none))
  free-of r some (inr (inr end)) = absurd (let none = end.0 in omega (arith, some, none))

  -- ---- a pair of two runs of tildes

  -- both are ends
  abbrev AreEnds : (o r : Run) → Type 0
  AreEnds o r = ((one ≡ true) × BothEnd o r Struck) ⊎ BothEnd o r StruckTwice

  small-pair : (o r : Run) → is_tilde r.marker ≡ true → are_both o.rest r.rest ≡ true → IsSmall o → IsSmall r → IsAlone o → IsAlone r → AreEnds o r
  small-pair o r tilde fit (inl a) (inl b) alone alone' =
      let have : have_two o r ≡ false = ap (λ n. nat_le 2 n && nat_le 2 r.left) a.2 in
      inl (a.0, both-end o r Struck (tilde-style o r false tilde have) a.2 b.2 alone alone')
  small-pair o r tilde fit (inr a) (inr b) alone alone' =
      let have : have_two o r ≡ true = ap (λ n. nat_le 2 n && nat_le 2 r.left) a.1 ∙ ap (nat_le 2) b.1 in
      inr (both-end o r StruckTwice (tilde-style o r true tilde have) a.1 b.1 alone alone')
  small-pair o r tilde fit (inl a) (inr b) alone alone' = absurd (let no : false ≡ true = no-both o.rest r.rest 1 2 a.1 b.0 fit in cc)
  small-pair o r tilde fit (inr a) (inl b) alone alone' = absurd (let no : false ≡ true = no-both o.rest r.rest 2 1 a.0 b.1 fit in cc)

  -- what two runs are that make a pair
  record ArePair (o r : Run) : Type 0 where
    opener : Fits (opening (style_of o r) o)
    closer : Fits (closing (style_of o r) r)

  module _ (o r : Run) (some : 0 < o.left) (some' : 0 < r.left) (opens : o.opens ≡ true) (closes : r.closes ≡ true) (fits : may_pair o r ≡ true) (opener : Fits o) (closer : Fits r) where
    one-marker : o.marker ≡ r.marker
    one-marker = same-is o.marker r.marker (and-left (same o.marker r.marker) _ fits)

    ends : is_tilde o.marker ≡ true → is_tilde r.marker ≡ true → AreEnds o r
    ends tilde tilde' =
        let free = free-of o some (opener tilde) in
        let free' = free-of r some' (closer tilde') in
        small-pair o r tilde' (lengths-are-both o r tilde' fits) (free.opens opens some) (free'.closes closes some') free.alone free'.alone

    opener-of : AreEnds o r → IsFree (opening (style_of o r) o) ⊎ IsEnd (opening (style_of o r) o)
    opener-of (inl both) = inr (inl (both.0, both.1.opener))
    opener-of (inr both) = inr (inr both.opener)

    closer-of : AreEnds o r → IsFree (closing (style_of o r) r) ⊎ IsEnd (closing (style_of o r) r)
    closer-of (inl both) = inr (inl (both.0, both.1.closer))
    closer-of (inr both) = inr (inr both.closer)

    pair-fits : ArePair o r
    pair-fits = record {
      opener = λ tilde. opener-of (ends tilde (ap is_tilde (sym one-marker) ∙ tilde));
      closer = λ tilde. closer-of (ends (ap is_tilde one-marker ∙ tilde) tilde);
    }

  -- ---- runs that were read

  record Waits (w : Waiting) : Type 0 where
    opens : w.opener.opens ≡ true
    left : 0 < w.opener.left
    opener : Fits w.opener
    behind : AllByRecursion Fits w.behind

  record IsGood (z : SoFar) : Type 0 where
    base : AllByRecursion Fits z.base
    waiting : AllByRecursion Waits z.waiting

  put_behind-good : (rs base : List Run) (ws : List Waiting) → AllByRecursion Fits rs → AllByRecursion Fits base → AllByRecursion Waits ws → IsGood (put_behind rs base ws)
  put_behind-good rs base [] h b k = record { base = every-append Fits base rs b h; waiting = tt }
  put_behind-good rs base (w ∷ ws) h b k =
      let waits = k.0 in
      record {
        base = b;
        waiting = (record { opens = waits.opens; left = waits.left; opener = waits.opener; behind = every-append Fits w.behind rs waits.behind h }, k.1);
      }

  put-good : (b : Bool) (r : Run) (z : SoFar) → (r.opens && nat_lt 0 r.left) ≡ b → Fits r → IsGood z → IsGood (cond b (record z { waiting = record { opener = r; behind = [] } ∷ z.waiting }) (put_behind (r ∷ []) z.base z.waiting))
  put-good true r z e f h = record {
    base = h.base;
    waiting = (record { opens = and-left r.opens (nat_lt 0 r.left) e; left = some-left r.left (and-right r.opens (nat_lt 0 r.left) e); opener = f; behind = tt }, h.waiting);
  }
  put-good false r z e f h = put_behind-good (r ∷ []) z.base z.waiting (f, tt) h.base h.waiting

  put-run : (r : Run) (z : SoFar) → Fits r → IsGood z → IsGood (put r z)
  put-run r z f h = put-good (r.opens && nat_lt 0 r.left) r z refl f h

  -- a run that opened a pair
  back-good : (b : Bool) (w : Waiting) (base : List Run) (ws : List Waiting) → nat_lt 0 w.opener.left ≡ b → w.opener.opens ≡ true → Fits w.opener → AllByRecursion Fits w.behind → AllByRecursion Fits base → AllByRecursion Waits ws
      → IsGood (cond b (record { base = base; waiting = w ∷ ws }) (put_behind (w.opener ∷ w.behind) base ws))
  back-good true w base ws e opens f behind h k = record { base = h; waiting = (record { opens = opens; left = some-left w.opener.left e; opener = f; behind = behind }, k) }
  back-good false w base ws e opens f behind h k = put_behind-good (w.opener ∷ w.behind) base ws (f, behind) h k

  -- ---- the last one that fits

  record IsFound (r : Run) (f : Found) : Type 0 where
    fits : may_pair f.last.opener r ≡ true
    last : Waits f.last
    before : AllByRecursion Waits f.before

  found-case : (b : Bool) (r : Run) (w : Waiting) (ws : List Waiting) (more : Option Found) (f : Found) → may_pair w.opener r ≡ b → Waits w → AllByRecursion Waits ws → (more ≡ Some f → IsFound r f)
      → cond b (Some (record { last = w; before = ws })) more ≡ Some f → IsFound r f
  found-case true r w ws more f fits waits before later e =
      let this : record { last = w; before = ws } ≡ f = cc in
      subst (λ (g : Found). IsFound r g) this (record { fits = fits; last = waits; before = before })
  found-case false r w ws more f fits waits before later e = later e

  found-good : (r : Run) (behind : List Run) (ws : List Waiting) (f : Found) → AllByRecursion Fits behind → AllByRecursion Waits ws → last_fitting r behind ws ≡ Some f → IsFound r f
  found-good r behind [] f b k e = absurd (cc)
  found-good r behind (w ∷ ws) f b k e =
      let waits = k.0 in
      let there : Waiting = record w { behind = w.behind ++ behind } in
      let all = every-append Fits w.behind behind waits.behind b in
      found-case (may_pair w.opener r) r there ws (last_fitting r (w.opener ∷ (w.behind ++ behind)) ws) f refl (record { opens = waits.opens; left = waits.left; opener = waits.opener; behind = all }) k.1
      (λ later. found-good r (w.opener ∷ (w.behind ++ behind)) ws f (waits.opener, all) k.1 later) e

  -- ---- a run that closes what it can

  close-by : (n : ℕ) (r : Run) (z : SoFar) (o : Option Found) → Fits r → 0 < r.left → r.closes ≡ true → IsGood z → ((r' : Run) (z' : SoFar) → Fits r' → IsGood z' → IsGood (close n r' z')) → last_fitting r [] z.waiting ≡ o
      → IsGood (elim o [
        | None ↦ put r z
        | Some f ↦
            let s = style_of f.last.opener r in
            close n (closing s r) (put_back (record f.last { opener = opening s f.last.opener }) z.base f.before)
      ])
  close-by n r z None f some closes h more e = put-run r z f h
  close-by n r z (Some g) f some closes h more e =
      let s = style_of g.last.opener r in
      let w : Waiting = record g.last { opener = opening s g.last.opener } in
      let found = found-good r [] z.waiting g tt h.waiting e in
      let pair = pair-fits g.last.opener r found.last.left some found.last.opens closes found.fits found.last.opener f in
      more (closing s r) (put_back w z.base g.before) pair.closer
      (back-good (nat_lt 0 w.opener.left) w z.base g.before refl found.last.opens pair.opener found.last.behind h.base found.before)

  close-good : (n : ℕ) (r : Run) (z : SoFar) → Fits r → IsGood z → IsGood (close n r z)
  close-good zero r z f h = put-run r z f h
  close-good (suc n) r z f h =
      let goes_on : SoFar = elim (last_fitting r [] z.waiting) [
        | None ↦ put r z
        | Some f ↦
            let s = style_of f.last.opener r in
            close n (closing s r) (put_back (record f.last { opener = opening s f.last.opener }) z.base f.before)
      ] in
      elim (cases_Bool (r.closes && nat_lt 0 r.left)) [
        | inl b ↦
            subst (λ c. IsGood (cond c goes_on (put r z))) (sym b)
            (close-by n r z (last_fitting r [] z.waiting) f (some-left r.left (and-right r.closes (nat_lt 0 r.left) b)) (and-left r.closes (nat_lt 0 r.left) b) h (close-good n) refl)
        | inr b ↦ subst (λ c. IsGood (cond c goes_on (put r z))) (sym b) (put-run r z f h)
      ]

  read-good : (rs : List Run) (z : SoFar) → AllByRecursion Fits rs → IsGood z → IsGood (in_turn_from z rs)
  read-good [] z f h = h
  read-good (r ∷ rs) z f h = read-good rs (close r.left r z) f.1 (close-good r.left r z f.0 h)

  waiting-good : (ws : List Waiting) → AllByRecursion Waits ws → AllByRecursion Fits (all_waiting ws)
  waiting-good [] k = tt
  waiting-good (w ∷ ws) k = let waits = k.0 in every-append Fits (all_waiting ws) (w.opener ∷ w.behind) (waiting-good ws k.1) (waits.opener, waits.behind)

  -- ---- the runs of a text

  -- what may be in a pair, of tildes
  few-length : (n : ℕ) → 0 < n → (nat_le n 2 && (one || nat_le 2 n)) ≡ true → IsFew (n % 3) n
  few-length zero some h = absurd (omega (arith, some))
  few-length (suc zero) some h = inl (sym (or-false one) ∙ h, refl, refl)
  few-length (suc (suc zero)) some h = inr (refl, refl)
  few-length (suc (suc (suc n))) some h = absurd (let few = few-tildes (suc (suc (suc n))) (and-left (nat_le (suc (suc (suc n))) 2) (one || nat_le 2 (suc (suc (suc n)))) h) in omega (arith, few))

  small-run : (m : Marker) (n : ℕ) (can : Bool) → is_tilde m ≡ true → (may_mark one m n && can) ≡ true → 0 < n → IsFew (n % 3) n
  small-run m n can tilde h some = few-length n some (sym (ap (λ t. not t || (nat_le n 2 && (one || nat_le 2 n))) tilde) ∙ and-left (may_mark one m n) can h)

  run-fits : (bytes : List ℕ) (i : ℕ) (e f : Event) (before behind : Option ℕ) → Fits (run_at one bytes i e f before behind)
  run-fits bytes i e f before behind tilde =
      let r = run_at one bytes i e f before behind in
      inl (record { alone = (refl, refl); opens = λ h some. small-run r.marker r.left _ tilde h some; closes = λ h some. small-run r.marker r.left _ tilde h some })

  runs-fit : (bytes : List ℕ) (i depth : ℕ) (before : Option ℕ) (es : List Event) → AllByRecursion Fits (runs_from one bytes i depth before es)
  runs-fit bytes i depth before [] = tt
  runs-fit bytes i depth before (e ∷ []) = tt
  runs-fit bytes i depth before (e ∷ f ∷ es) = either (depth == 0 && is_sequence e f) _ _ (runs-fit bytes (i + 2) depth (Some f.point.index) es) (runs-fit bytes (i + 1) (depth_after e.kind depth) (Some e.point.index) (f ∷ es))
    where
      either : (b : Bool) (rs ss : List Run) → AllByRecursion Fits rs → AllByRecursion Fits ss → AllByRecursion Fits (cond b (run_at one bytes i e f before (index_of_event (slice_get es 0)) ∷ rs) ss)
      either true rs ss h k = (run-fits bytes i e f before (index_of_event (slice_get es 0)), h)
      either false rs ss h k = k

  -- ---- all of them, with their pairs

  struck-of : (r : Run) → IsFree r ⊎ IsEnd r → IsStruck one r
  struck-of r (inl free) = inl free.alone
  struck-of r (inr end) = inr end

  all-struck : (bytes : List ℕ) (events : List Event) → AllByRecursion (λ r. is_tilde r.marker ≡ true → IsStruck one r) (paired (runs_in one bytes events))
  all-struck bytes events =
      let rs = runs_in one bytes events in
      let z = in_turn_from none_read rs in
      let good = read-good rs none_read (runs-fit bytes 0 0 None events) (record { base = tt; waiting = tt }) in
      let all = every-append Fits z.base (all_waiting z.waiting) good.base (waiting-good z.waiting good.waiting) in
      every-map Fits (λ r. is_tilde r.marker ≡ true → IsStruck one r) (λ r h tilde. struck-of r (h tilde)) (paired rs) (subst (AllByRecursion Fits) (sym (paired-in-turn rs)) all)

pub tildes-are-whole : TildesAreWhole
tildes-are-whole one bytes events = all-struck one bytes events
