-- What events give as they are written: what is between the ends of their innermost spans, one behind another.
use Rattle.mddocument_rules.proofs.Prelude.{◌≡◌, ◌∙◌, ℕ, ◌+◌, ◌-◌, false, not, cond, List, [], ◌∷◌, ◌++◌, append-nil, append_assoc, ap, arith, drop, flat_map, refl, sym, take, AllByRecursion, ◌&&◌, Event, Enter, Exit, Kind, Name, Point, Seat, end_after, is_enter, same_name, event}
use Rattle.std.proofs.lemmas.Grind.{flat_map-append}
use Rattle.std.proofs.lemmas.List.{drop-drop}
use Rattle.std.proofs.Math.Seq.{take-add}
use Rattle.std.specs.List.{slice_range}
use Rattle.std.specs.Prelude.{◌≤◌}
use Rattle.markdown_base.specs.declared.event.Name.TheVariants.{BlockQuoteMarker}
use Rattle.markdown_base.specs.Places.{shown}
use Rattle.mdinline_text_machine.proofs.DeepSpans.Atoms.{Atom, all_at, atom_events, events_of, seats_of}
use Rattle.mddocument_link_targets.specs.declared.strings.Reading.TheVariants.{AsWritten}
use Rattle.mddocument_link_targets.specs.Strings.{as_written, given, given_at}

-- ---- bytes in two stretches
pub slice-both : (bs : List ℕ) (a b c : ℕ) → a ≤ b → b ≤ c → slice_range bs a c ≡ slice_range bs a b ++ slice_range bs b c
slice-both bs a b c h k =
    let size : c - a ≡ (b - a) + (c - b) = omega (arith, h, k) in
    let there : a + (b - a) ≡ b = omega (arith, h) in
    ap (λ n. take n (drop a bs)) size ∙ take-add (b - a) (c - b) (drop a bs) ∙ ap (λ l. take (b - a) (drop a bs) ++ take (c - b) l) (drop-drop (b - a) a bs ∙ ap (λ n. drop n bs) there)

module _ (bytes : List ℕ) where
  -- what is written for a virtual byte
  abbrev pub written : Seat → List ℕ
  written s = slice_range bytes s.point.index s.end.index

  -- virtual bytes one behind another, each shown at its own place
  abbrev pub AreInRow : Seat → List Seat → Type 0
  AreInRow s [] = s.point.index ≤ s.end.index
  AreInRow s (r ∷ rs) = (s.point.index ≤ s.end.index) × (r.point.index ≡ s.end.index) × AreInRow r rs

  ends-behind : (s : Seat) (ss : List Seat) → AreInRow s ss → s.end.index ≤ (end_after s.end ss).index
  ends-behind s [] h = omega arith
  ends-behind s (r ∷ rs) h = let more = ends-behind r rs h.2 in let here = first r rs h.2 in let same = h.1 in omega (arith, more, here, same)
    where
      first : (r : Seat) (rs : List Seat) → AreInRow r rs → r.point.index ≤ r.end.index
      first r [] h = h
      first r (q ∷ qs) h = h.0

  -- what is between the ends of a stretch is what is written for its virtual bytes
  pub stretch-written : (s : Seat) (ss : List Seat) → AreInRow s ss → slice_range bytes s.point.index (end_after s.end ss).index ≡ flat_map written (s ∷ ss)
  stretch-written s [] h = sym (append-nil (written s))
  stretch-written s (r ∷ rs) h =
      slice-both bytes s.point.index s.end.index (end_after r.end rs).index h.0 (ends-behind s (r ∷ rs) h)
      ∙ ap (λ l. written s ++ l) (ap (λ n. slice_range bytes n (end_after r.end rs).index) (sym h.1) ∙ stretch-written r rs h.2)

  -- ---- events
  -- what events give, whatever comes behind them
  abbrev pub Gives : List Event → List ℕ → Type 0
  Gives es ts = (zs : List Event) → as_written bytes (es ++ zs) ≡ ts ++ as_written bytes zs

  pub gives-both : (xs ys : List Event) (ts us : List ℕ) → Gives xs ts → Gives ys us → Gives (xs ++ ys) (ts ++ us)
  gives-both xs ys ts us h k zs = ap (as_written bytes) (append_assoc xs ys zs) ∙ h (ys ++ zs) ∙ ap (λ l. ts ++ l) (k zs) ∙ sym (append_assoc ts us (as_written bytes zs))

  pub exit-gives : (e : Event) (es : List Event) → e.kind ≡ Exit → given_at bytes AsWritten e es ≡ []
  exit-gives e [] x = refl
  exit-gives e (f ∷ fs) x = ap (λ (k : Kind). cond (is_enter k && not (is_enter f.kind)) (given bytes AsWritten e.name e.point.index f.point.index) []) x

  exits-give : (p : Point) (names : List Name) (es : List Event) → as_written bytes (all_at bytes Exit p names ++ es) ≡ as_written bytes es
  exits-give p [] es = refl
  exits-give p (n ∷ ns) es = ap (λ l. l ++ as_written bytes (all_at bytes Exit p ns ++ es)) (exit-gives (event bytes Exit n p) (all_at bytes Exit p ns ++ es) refl) ∙ exits-give p ns es

  enters-give : (p : Point) (names : List Name) (e : Event) (es : List Event) → e.kind ≡ Enter → as_written bytes (all_at bytes Enter p names ++ e ∷ es) ≡ as_written bytes (e ∷ es)
  enters-give p [] e es enters = refl
  enters-give p (n ∷ []) e es enters = ap (λ (k : Kind). cond (not (is_enter k)) (given bytes AsWritten n (shown bytes p).index e.point.index) [] ++ as_written bytes (e ∷ es)) enters
  enters-give p (n ∷ m ∷ ns) e es enters = enters-give p (m ∷ ns) e es enters

  -- a span with nothing in it, over a stretch whose ends are shown at themselves
  pub leaf-gives : (n : Name) (s : Seat) (ss : List Seat) → same_name n BlockQuoteMarker ≡ false → AreInRow s ss → shown bytes s.point ≡ s.point → shown bytes (end_after s.end ss) ≡ end_after s.end ss
      → Gives (event bytes Enter n s.point ∷ event bytes Exit n (end_after s.end ss) ∷ []) (flat_map written (s ∷ ss))
  leaf-gives n s ss named row from to zs =
      (λ i. cond (named i) [] (slice_range bytes (from i).index (to i).index) ++ (exit-gives (event bytes Exit n (end_after s.end ss)) zs refl i ++ as_written bytes zs))
      ∙ ap (λ l. l ++ as_written bytes zs) (stretch-written s ss row)

  -- an atom that is no marker of a block quote, where its ends are shown at themselves
  pub record IsPlainAtom (a : Atom) : Type 0 where
    pub named : same_name a.name BlockQuoteMarker ≡ false
    pub in_row : AreInRow a.first a.others
    pub from : shown bytes a.first.point ≡ a.first.point
    pub to : shown bytes (end_after a.first.end a.others) ≡ end_after a.first.end a.others

  atom-gives : (a : Atom) → IsPlainAtom a → Gives (atom_events bytes a) (flat_map written (a.first ∷ a.others))
  atom-gives a h zs =
      let end = end_after a.first.end a.others in
      let enter = event bytes Enter a.name a.first.point in
      let exit = event bytes Exit a.name end in
      ap (as_written bytes) (append_assoc (all_at bytes Enter a.first.point a.enters) (enter ∷ exit ∷ all_at bytes Exit end a.exits) zs)
      ∙ enters-give a.first.point a.enters enter (exit ∷ (all_at bytes Exit end a.exits ++ zs)) refl
      ∙ leaf-gives a.name a.first a.others h.named h.in_row h.from h.to (all_at bytes Exit end a.exits ++ zs)
      ∙ ap (λ l. flat_map written (a.first ∷ a.others) ++ l) (exits-give end a.exits zs)

  -- So what atoms give is what is written for their virtual bytes
  pub atoms-give : (atoms : List Atom) → AllByRecursion IsPlainAtom atoms → Gives (events_of bytes atoms) (flat_map written (seats_of atoms))
  atoms-give [] h zs = refl
  atoms-give (a ∷ atoms) h zs =
      gives-both (atom_events bytes a) (events_of bytes atoms) (flat_map written (a.first ∷ a.others)) (flat_map written (seats_of atoms)) (atom-gives a h.0) (atoms-give atoms h.1) zs
      ∙ ap (λ l. l ++ as_written bytes zs) (sym (flat_map-append written (a.first ∷ a.others) (seats_of atoms)))
