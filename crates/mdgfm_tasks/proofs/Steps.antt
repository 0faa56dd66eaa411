-- Events with checks: one event on, what is passed is left out, and the parts of a check.
use Rattle.std.proofs.Common.{◌≡◌, ℕ, zero, suc, ◌+◌, ◌-◌, ◌++◌, Bool, true, false, cond, List, [], ◌∷◌, drop, Option, Some, None, refl, sym, subst, ap, ◌∙◌, arith}
use Rattle.std.proofs.lemmas.Bool.{leb-true}
use Rattle.std.proofs.lemmas.List.{append_assoc}
use Rattle.std.specs.Prelude.{nat_le, slice_range}
use Rattle.markdown_base.specs.declared.event.Event.{Event}
use Rattle.markdown_base.specs.declared.event.Kind.{Kind}
use Rattle.markdown_base.specs.declared.event.Kind.TheVariants.{Enter, Exit}
use Rattle.markdown_base.specs.declared.event.Name.{Name}
use Rattle.markdown_base.specs.declared.event.Name.TheVariants.{Data, GfmTaskListItemCheck, GfmTaskListItemMarker, LineEnding, SpaceOrTab}
use Rattle.markdown_base.specs.declared.event.Point.{Point}
use Rattle.markdown_base.specs.Events.{same_name}
use Rattle.mdblock_tables.specs.Tasks.{value_name}
use Rattle.mdgfm_events.specs.Places.{column_behind, event, leaf}
use Rattle.mdgfm_tasks.specs.declared.awaited.Awaited.{Awaited}
use Rattle.mdgfm_tasks.specs.declared.awaited.Awaited.TheVariants.{Nothing}
use Rattle.mdgfm_tasks.specs.declared.checks.Found.{Found}
use Rattle.mdgfm_tasks.specs.Awaits.{awaited_behind}
use Rattle.mdgfm_tasks.specs.Checks.{check_of}
use Rattle.mdgfm_tasks.specs.TaskEvents.{check_events, events_with, further}

module _ (tab : ℕ) (bytes : List ℕ) where
  pub with-skip : (skip : ℕ) (a : Awaited) (es : List Event) → events_with tab bytes skip a es ≡ events_with tab bytes 0 a (drop skip es)
  with-skip zero a es = refl
  with-skip (suc skip) a [] = refl
  with-skip (suc skip) a (e ∷ es) = with-skip skip a es

  -- what an event gives, by the check that is found there
  abbrev pub taken : Awaited → Event → List Event → Option Found → List Event
  taken a e es o = elim o [
    | Some f ↦ check_events tab bytes e.point f ++ events_with tab bytes (f.text.size - 1) Nothing es
    | None ↦ e ∷ events_with tab bytes 0 (awaited_behind a e) es
  ]

  pub with-found : (a : Awaited) (e : Event) (es : List Event) (o : Option Found) → check_of bytes a (e ∷ es) ≡ o → events_with tab bytes 0 a (e ∷ es) ≡ taken a e es o
  with-found a e es o h = ap (taken a e es) h

  -- ---- the parts of a check

  -- brackets and a value from a place on, and what is behind them
  abbrev pub check_inside : Found → Point → List Event → List Event
  check_inside f start es =
      let value = further tab bytes start 1 in
      let closing = further tab bytes value 1 in
      let end = further tab bytes closing 1 in
      leaf GfmTaskListItemMarker start value ++ (leaf (value_name f.check.is_checked) value closing ++ (leaf GfmTaskListItemMarker closing end ++ es))

  -- white space, a check, and the text behind it
  pub check-parts : (p : Point) (f : Found) (es : List Event) → check_events tab bytes p f ++ es
      ≡ leaf SpaceOrTab p (further tab bytes p f.check.columns)
      ++ (event Enter GfmTaskListItemCheck (further tab bytes p f.check.columns)
      ∷ check_inside f (further tab bytes p f.check.columns)
      (event Exit GfmTaskListItemCheck (further tab bytes (further tab bytes (further tab bytes (further tab bytes p f.check.columns) 1) 1) 1)
      ∷ (leaf Data (further tab bytes (further tab bytes (further tab bytes (further tab bytes p f.check.columns) 1) 1) 1) f.text.end ++ es)))
  check-parts p f es =
      let start = further tab bytes p f.check.columns in
      let value = further tab bytes start 1 in
      let closing = further tab bytes value 1 in
      let end = further tab bytes closing 1 in
      let white = leaf SpaceOrTab p start in
      let one = leaf GfmTaskListItemMarker start value in
      let two = leaf (value_name f.check.is_checked) value closing in
      let three = leaf GfmTaskListItemMarker closing end in
      let left = leaf Data end f.text.end in
      let opens = event Enter GfmTaskListItemCheck start in
      let closes = event Exit GfmTaskListItemCheck end in
      append_assoc white (opens ∷ (one ++ (two ++ (three ++ closes ∷ left)))) es
      ∙ ap (λ (ts : List Event). white ++ (opens ∷ ts)) (
      append_assoc one (two ++ (three ++ closes ∷ left)) es
      ∙ ap (λ (ts : List Event). one ++ ts) (
      append_assoc two (three ++ closes ∷ left) es
      ∙ ap (λ (ts : List Event). two ++ ts) (append_assoc three (closes ∷ left) es)))

  -- the places in a check have these indices
  pub record AreCheckPlaces (p : Point) (n : ℕ) : Type 0 where
    pub start : (further tab bytes p n).index ≡ p.index + n
    pub value : (further tab bytes (further tab bytes p n) 1).index ≡ p.index + n + 1
    pub closing : (further tab bytes (further tab bytes (further tab bytes p n) 1) 1).index ≡ p.index + n + 2
    pub end : (further tab bytes (further tab bytes (further tab bytes (further tab bytes p n) 1) 1) 1).index ≡ p.index + n + 3

  -- a place further on has its index
  pub further-index : (p : Point) (n : ℕ) → (further tab bytes p n).index ≡ p.index + n
  further-index p n = by (nat_le (p.index + n) p.index) refl
    where
      there : Point
      there = record { line = p.line; column = column_behind tab p.column (slice_range bytes p.index (p.index + n)); index = p.index + n; vs = 0 }

      by : (b : Bool) → nat_le (p.index + n) p.index ≡ b → (cond b p there).index ≡ p.index + n
      by true h = let less = leb-true (p.index + n) p.index h in omega (arith, less)
      by false h = refl

  pub check-places : (p : Point) (n : ℕ) → AreCheckPlaces p n
  check-places p n =
      let start = further tab bytes p n in
      let value = further tab bytes start 1 in
      let closing = further tab bytes value 1 in
      let a = further-index p n in
      let b = further-index start 1 in
      let c = further-index value 1 in
      let d = further-index closing 1 in
      record { start = a; value = omega (arith, a, b); closing = omega (arith, a, b, c); end = omega (arith, a, b, c, d) }

-- What holds of events behind a place: a span with nothing in it may stand in front of them, and one event of a check, if places follow one another so
pub record IsKeptByLeafs (Behind : Point → Point → Type 0) (Holds : Point → List Event → Type 0) : Type 0 where
  pub itself : (p q : Point) → Behind p q → Behind q q
  pub leafs : (n : Name) (b p q : Point) (es : List Event) → same_name n LineEnding ≡ false → Behind b p → Behind p q → Holds q es → Holds b (leaf n p q ++ es)
  pub one : (k : Kind) (b p : Point) (es : List Event) → Behind b p → Holds p es → Holds b (event k GfmTaskListItemCheck p ∷ es)

value-other : (b : Bool) → same_name (value_name b) LineEnding ≡ false
value-other true = refl
value-other false = refl

-- so a check may stand in front of them
pub check-kept : (Behind : Point → Point → Type 0) (Holds : Point → List Event → Type 0) → IsKeptByLeafs Behind Holds → (tab : ℕ) (bytes : List ℕ) (b p : Point) (f : Found) (es : List Event)
    → let start = further tab bytes p f.check.columns in
    let value = further tab bytes start 1 in
    let closing = further tab bytes value 1 in
    let end = further tab bytes closing 1 in
    Behind b p → Behind p start → Behind start value → Behind value closing → Behind closing end → Behind end f.text.end → Holds f.text.end es → Holds b (check_events tab bytes p f ++ es)
check-kept Behind Holds kept tab bytes b p f es at1 at2 at3 at4 at5 at6 more =
    let start = further tab bytes p f.check.columns in
    let value = further tab bytes start 1 in
    let closing = further tab bytes value 1 in
    let end = further tab bytes closing 1 in
    let four = leaf Data end f.text.end ++ es in
    let three = event Exit GfmTaskListItemCheck end ∷ four in
    let two = leaf GfmTaskListItemMarker closing end ++ three in
    let one = leaf (value_name f.check.is_checked) value closing ++ two in
    let marked = leaf GfmTaskListItemMarker start value ++ one in
    let in_start = kept.itself p start at2 in
    let in_value = kept.itself start value at3 in
    let in_closing = kept.itself value closing at4 in
    let in_end = kept.itself closing end at5 in
    subst (Holds b) (sym (check-parts tab bytes p f es))
    (kept.leafs SpaceOrTab b p start (event Enter GfmTaskListItemCheck start ∷ marked) refl at1 at2
    (kept.one Enter start start marked in_start
    (kept.leafs GfmTaskListItemMarker start start value one refl in_start at3
    (kept.leafs (value_name f.check.is_checked) value value closing two (value-other f.check.is_checked) in_value at4
    (kept.leafs GfmTaskListItemMarker closing closing end three refl in_closing at5 (kept.one Exit end end four in_end (kept.leafs Data end end f.text.end es refl in_end at6 more)))))))
