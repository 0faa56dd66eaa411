-- Literals of events up to an index end up to it.
use Rattle.std.proofs.Common.{ℕ, zero, suc, ◌+◌, ◌-◌, ◌≤◌, ◌++◌, Bool, true, false, cond, List, [], ◌∷◌, subst, arith}
use Rattle.std.specs.List.{AllByRecursion}
use Rattle.std.specs.Prelude.{◌==◌, ◌&&◌}
use Rattle.markdown_base.specs.declared.event.Event.{Event}
use Rattle.markdown_base.specs.declared.event.Point.{Point}
use Rattle.markdown_base.specs.Events.{is_enter}
use Rattle.markdown_base.proofs.Common.{every-append, every-map}
use Rattle.mdgfm_literals.specs.declared.stretches.Reach.{Reach}
use Rattle.mdgfm_literals.specs.declared.texts.Literal.{Literal}
use Rattle.mdgfm_events.specs.Spans.{span_end, span_size}
use Rattle.mdgfm_literals.specs.Stretches.{depth_behind, is_fresh, is_text, literals_between, literals_of, one_more, reach}
use Rattle.mdgfm_literals.proofs.Fits.{AllLie, LiesIn, between-lies, found_of, literals-found-of}
use Rattle.mdgfm_literals.proofs.Names.{either-all}

module _ (most : ℕ) where
  abbrev pub AreUpTo : List Event → Type 0
  AreUpTo es = AllByRecursion (λ e. e.point.index ≤ most) es

  pub end-below : (p : Point) (n : ℕ) (es : List Event) → p.index ≤ most → AreUpTo es → (span_end p n es).index ≤ most
  end-below p n [] h all = h
  end-below p n (e ∷ es) h all = by (is_enter e.kind) (n == 0) (end-below p (n + 1) es h all.1) (end-below p (n - 1) es h all.1)
    where
      by : (b z : Bool) → (span_end p (n + 1) es).index ≤ most → (span_end p (n - 1) es).index ≤ most → (cond b (span_end p (n + 1) es) (cond z e.point (span_end p (n - 1) es))).index ≤ most
      by true z i o = i
      by false true i o = all.0
      by false false i o = o

  pub reach-below : (skip stop : ℕ) (es : List Event) → stop ≤ most → AreUpTo es → (reach skip stop es).stop ≤ most
  reach-below skip stop [] h all = h
  reach-below (suc skip) stop (e ∷ es) h all = reach-below skip stop es h all.1
  reach-below zero stop (e ∷ es) h all =
      by (is_text 0 e && (e.point.index == stop)) (reach-below (span_size 0 es) (span_end e.point 0 es).index es (end-below e.point 0 es all.0 all.1) all.1)
    where
      s : Reach
      s = reach (span_size 0 es) (span_end e.point 0 es).index es

      by : (t : Bool) → s.stop ≤ most → (cond t (one_more s) (record { size = 0; stop = stop })).stop ≤ most
      by true k = k
      by false k = h

  abbrev pub IsUpTo : Literal → Type 0
  IsUpTo l = (l.from ≤ most) × (l.to ≤ most)

  pub found-up-to : (bytes : List ℕ) (between : Bool → ℕ → ℕ → List Literal) → AllLie bytes between → (fresh : Bool) (depth skip : ℕ) (es : List Event) → AreUpTo es
      → AllByRecursion IsUpTo (found_of between fresh depth skip es)
  found-up-to bytes between lie fresh depth skip [] all = tt
  found-up-to bytes between lie fresh depth (suc skip) (e ∷ es) all = found-up-to bytes between lie fresh depth skip es all.1
  found-up-to bytes between lie fresh depth zero (e ∷ es) all =
      let q = span_end e.point 0 es in
      let s = reach (span_size 0 es) q.index es in
      let here = between fresh e.point.index s.stop in
      let far = reach-below (span_size 0 es) q.index es (end-below e.point 0 es all.0 all.1) all.1 in
      either-all IsUpTo (is_text depth e) (here ++ found_of between false depth s.size es) (found_of between (is_fresh e) (depth_behind depth e) 0 es)
      (every-append IsUpTo here (found_of between false depth s.size es)
      (every-map (LiesIn bytes e.point.index s.stop) IsUpTo (λ l h. let low = h.before in let some = h.some in (omega (arith, low, some, far), omega (arith, low, far))) here
      (lie fresh e.point.index s.stop).1)
      (found-up-to bytes between lie false depth s.size es all.1))
      (found-up-to bytes between lie (is_fresh e) (depth_behind depth e) 0 es all.1)

  pub literals-up-to : (bytes : List ℕ) (fresh : Bool) (depth skip : ℕ) (es : List Event) → AreUpTo es → AllByRecursion IsUpTo (literals_of bytes fresh depth skip es)
  literals-up-to bytes fresh depth skip es all =
      subst (AllByRecursion IsUpTo) (literals-found-of bytes fresh depth skip es) (found-up-to bytes (literals_between bytes) (between-lies bytes) fresh depth skip es all)

  pub literals-below : (bytes : List ℕ) (fresh : Bool) (depth skip : ℕ) (es : List Event) → AreUpTo es → AllByRecursion (λ (l : Literal). l.to ≤ most) (literals_of bytes fresh depth skip es)
  literals-below bytes fresh depth skip es all =
      every-map IsUpTo (λ (l : Literal). l.to ≤ most) (λ l h. h.1) (literals_of bytes fresh depth skip es) (literals-up-to bytes fresh depth skip es all)
