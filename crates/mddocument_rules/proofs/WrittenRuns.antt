-- What emphasis puts in the place of a delimiter run gives the bytes of the run, as they are written.
use Rattle.mddocument_rules.proofs.Prelude.{◌≡◌, ◌∙◌, ℕ, zero, suc, ◌+◌, ◌-◌, false, not, cond, List, [], ◌∷◌, ◌++◌, append_assoc, ap, arith, drop, refl, sym, take, Enter, Event, Exit, Kind, Name, Point, closings, data_of, is_enter, later, markers_of_all, openings, same_name, unlinked_event}
use Rattle.std.specs.List.{slice_range}
use Rattle.markdown_base.specs.declared.event.Name.TheVariants.{BlockQuoteMarker, Data}
use Rattle.mdinline_emphasis.specs.declared.pairs.Style.{Style}
use Rattle.mdinline_emphasis.specs.declared.pairs.Style.TheVariants.{Emphasis as OfEmphasis, Strong as OfStrong, Struck, StruckTwice}
use Rattle.mdinline_emphasis.specs.Emphasis.{inner_name, markers_of, outer_name, sequence_name}
use Rattle.mddocument_link_targets.specs.declared.strings.Reading.TheVariants.{AsWritten}
use Rattle.mddocument_link_targets.specs.Strings.{as_written, given}
use Rattle.mddocument_rules.proofs.WrittenSpans.{exit-gives, slice-both}
use Rattle.mddocument_rules.specs.LinkLaws.{BeginsWithEnter, RunsAreWritten}

no-marker : (s : Style) → same_name (sequence_name s) BlockQuoteMarker ≡ false
no-marker OfEmphasis = refl
no-marker OfStrong = refl
no-marker Struck = refl
no-marker StruckTwice = refl

module _ (bytes : List ℕ) where
  -- so many bytes from a place on
  abbrev from_place : Point → ℕ → List ℕ
  from_place p n = slice_range bytes p.index (p.index + n)

  none-from : (p : Point) → from_place p 0 ≡ []
  none-from p = let none : (p.index + 0) - p.index ≡ 0 = omega arith in ap (λ k. take k (drop p.index bytes)) none

  both-from : (p : Point) (m n : ℕ) → from_place p (m + n) ≡ from_place p m ++ from_place (later m p) n
  both-from p m n =
      let sum : p.index + (m + n) ≡ (p.index + m) + n = omega arith in
      ap (λ k. slice_range bytes p.index k) sum ∙ slice-both bytes p.index (p.index + m) ((p.index + m) + n) (omega arith) (omega arith)

  joined : (p : Point) (m n : ℕ) (ts : List ℕ) → from_place p m ++ (from_place (later m p) n ++ ts) ≡ from_place p (m + n) ++ ts
  joined p m n ts = sym (append_assoc (from_place p m) (from_place (later m p) n) ts) ∙ ap (λ l. l ++ ts) (sym (both-from p m n))

  exit-passed : (n : Name) (p : Point) (es : List Event) → as_written bytes (unlinked_event Exit n p ∷ es) ≡ as_written bytes es
  exit-passed n p es = ap (λ l. l ++ as_written bytes es) (exit-gives bytes (unlinked_event Exit n p) es refl)

  enter-passed : (n : Name) (p : Point) (es : List Event) → BeginsWithEnter es → as_written bytes (unlinked_event Enter n p ∷ es) ≡ as_written bytes es
  enter-passed n p [] o = refl
  enter-passed n p (e ∷ es) o = ap (λ (k : Kind). cond (not (is_enter k)) (given bytes AsWritten n p.index e.point.index) [] ++ as_written bytes (e ∷ es)) o

  marks-give : (s : Style) (p : Point) (es : List Event) → as_written bytes (unlinked_event Enter (sequence_name s) p ∷ unlinked_event Exit (sequence_name s) (later (markers_of s) p) ∷ es) ≡ from_place p (markers_of s) ++ as_written bytes es
  marks-give s p es =
      ap (λ b. cond b [] (from_place p (markers_of s)) ++ as_written bytes (unlinked_event Exit (sequence_name s) (later (markers_of s) p) ∷ es)) (no-marker s)
      ∙ ap (λ l. from_place p (markers_of s) ++ l) (exit-passed (sequence_name s) (later (markers_of s) p) es)

  -- ---- what a run closes, leaves and opens
  closings-give : (p : Point) (ss : List Style) (zs : List Event) → as_written bytes (closings p ss ++ zs) ≡ from_place p (markers_of_all ss) ++ as_written bytes zs
  closings-give p [] zs = ap (λ l. l ++ as_written bytes zs) (sym (none-from p))
  closings-give p (s ∷ ss) zs =
      let m = markers_of s in
      let q = later m p in
      let rest = closings q ss ++ zs in
      exit-passed (inner_name s) p (unlinked_event Enter (sequence_name s) p ∷ unlinked_event Exit (sequence_name s) q ∷ unlinked_event Exit (outer_name s) q ∷ rest)
      ∙ marks-give s p (unlinked_event Exit (outer_name s) q ∷ rest)
      ∙ ap (λ l. from_place p m ++ l) (exit-passed (outer_name s) q rest ∙ closings-give q ss zs)
      ∙ joined p m (markers_of_all ss) (as_written bytes zs)

  opens-front : (p : Point) (ss : List Style) (zs : List Event) → BeginsWithEnter zs → BeginsWithEnter (openings p ss ++ zs)
  opens-front p [] zs o = o
  opens-front p (s ∷ ss) zs o = refl

  openings-give : (p : Point) (ss : List Style) (zs : List Event) → BeginsWithEnter zs → as_written bytes (openings p ss ++ zs) ≡ from_place p (markers_of_all ss) ++ as_written bytes zs
  openings-give p [] zs o = ap (λ l. l ++ as_written bytes zs) (sym (none-from p))
  openings-give p (s ∷ ss) zs o =
      let m = markers_of s in
      let q = later m p in
      let rest = openings q ss ++ zs in
      enter-passed (outer_name s) p (unlinked_event Enter (sequence_name s) p ∷ unlinked_event Exit (sequence_name s) q ∷ unlinked_event Enter (inner_name s) q ∷ rest) refl
      ∙ marks-give s p (unlinked_event Enter (inner_name s) q ∷ rest)
      ∙ ap (λ l. from_place p m ++ l) (enter-passed (inner_name s) q rest (opens-front q ss zs o) ∙ openings-give q ss zs o)
      ∙ joined p m (markers_of_all ss) (as_written bytes zs)

  data-give : (p : Point) (n : ℕ) (zs : List Event) → as_written bytes (data_of p n ++ zs) ≡ from_place p n ++ as_written bytes zs
  data-give p zero zs = ap (λ l. l ++ as_written bytes zs) (sym (none-from p))
  data-give p (suc n) zs = ap (λ l. from_place p (suc n) ++ l) (exit-passed Data (later (suc n) p) zs)

pub runs-are-written : RunsAreWritten
runs-are-written bytes r zs o =
    let a = markers_of_all r.closed in
    let b = r.left in
    let c = markers_of_all r.opened in
    let p = later a r.start in
    let q = later b p in
    let close = closings r.start r.closed in
    let plain = data_of p b in
    let begun = openings q r.opened in
    let end = as_written bytes zs in
    ap (as_written bytes) (append_assoc close (plain ++ begun) zs)
    ∙ closings-give bytes r.start r.closed ((plain ++ begun) ++ zs)
    ∙ ap (λ l. from_place bytes r.start a ++ l)
    (ap (as_written bytes) (append_assoc plain begun zs) ∙ data-give bytes p b (begun ++ zs) ∙ ap (λ l. from_place bytes p b ++ l) (openings-give bytes q r.opened zs o) ∙ joined bytes p b c end)
    ∙ joined bytes r.start a (b + c) end
