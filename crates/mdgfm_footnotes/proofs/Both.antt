-- Calls of two parts: those of the one, and of the other. Each call of events is in them, and what is in it is put in there.
use Rattle.std.proofs.Common.{◌≡◌, ℕ, zero, suc, ◌<◌, ◌≤◌, ◌++◌, Bool, true, false, cond, List, [], ◌∷◌, take, refl, sym, ap, subst, ◌∙◌, arith, eq-eqb, lt-ltb, append-nil}
use Rattle.std.proofs.lemmas.List.{append_assoc}
use Rattle.std.specs.List.{AllByRecursion}
use Rattle.std.specs.Prelude.{◌==◌, ◌&&◌, nat_le, nat_lt, not}
use Rattle.markdown_base.specs.declared.event.Event.{Event}
use Rattle.markdown_base.specs.declared.event.Kind.TheVariants.{Enter, Exit}
use Rattle.markdown_base.specs.declared.event.Name.TheVariants.{Data, GfmFootnoteCall}
use Rattle.markdown_base.specs.declared.event.Point.{Point}
use Rattle.markdown_base.specs.Events.{IsBalanced, is_enter, same_name}
use Rattle.markdown_base.specs.Virtual.{point}
use Rattle.markdown_base.proofs.Common.{every-map, every-take}
use Rattle.mdgfm_events.specs.Places.{event, later, leaf}
use Rattle.mdgfm_events.specs.Spans.{span_end, span_size}
use Rattle.mdgfm_literals.specs.declared.texts.Literal.{Literal}
use Rattle.mdgfm_literals.specs.Laws.{begins_block}
use Rattle.mdgfm_literals.specs.LiteralEvents.{Written, end_of, events_with, left_over, start_of, with_one, written}
use Rattle.mdgfm_literals.specs.Stretches.{depth_behind, is_text}
use Rattle.mdgfm_literals.proofs.Both.{found-of-both, goes-first, with-found-both}
use Rattle.mdgfm_literals.proofs.Fits.{Ascend, Fits, Past, past-start}
use Rattle.mdgfm_literals.proofs.Order.{Goes, end-is, fits-left, fits-low, goes-rise, start-is, text-well, written-well}
use Rattle.mdgfm_footnotes.specs.CallEvents.{inside_call, is_bare, with_calls, with_insides}
use Rattle.mdgfm_footnotes.specs.Calls.{calls_of}
use Rattle.mdgfm_footnotes.specs.Laws.{HaveNoCalls}
use Rattle.mdgfm_footnotes.proofs.Insides.{exit-bare, insides-bare, insides-other}
use Rattle.mdgfm_footnotes.proofs.Places.{IsNamed, between, between-lie, calls-fit, calls-found-of, calls-named, calls-rise}

-- an event of another name enters no call
other-bare : (calls : List Literal) (e : Event) (es : List Event) → same_name e.name GfmFootnoteCall ≡ false → is_bare calls e es ≡ false
other-bare [] e es h = refl
other-bare (l ∷ ls) e [] h = refl
other-bare (l ∷ ls) e (f ∷ es) h =
    ap (λ t. ((is_enter e.kind && t) && not (is_enter f.kind)) && ((e.point.index == l.from) && (f.point.index == l.to))) h
    ∙ none (is_enter e.kind) (not (is_enter f.kind)) ((e.point.index == l.from) && (f.point.index == l.to))
  where
    none : (s t u : Bool) → (((s && false) && t) && u) ≡ false
    none true t u = refl
    none false t u = refl

-- a call with nothing in it yet is one
bare-one : (l : Literal) (ls : List Literal) (s q : Point) (zs : List Event) → l.name ≡ GfmFootnoteCall → s.index ≡ l.from → q.index ≡ l.to
    → is_bare (l ∷ ls) (event Enter l.name s) (event Exit l.name q ∷ zs) ≡ true
bare-one l ls s q zs named from to =
    let start = eq-eqb s.index l.from from in
    let end = eq-eqb q.index l.to to in
    ap (λ n. ((true && same_name n GfmFootnoteCall) && true) && ((s.index == l.from) && (q.index == l.to))) named ∙ (λ i. start i && end i)

module _ (tab : ℕ) (bytes : List ℕ) where
  over-plain : (ps : List Event) (calls : List Literal) (zs : List Event) → HaveNoCalls ps → with_insides tab bytes calls (ps ++ zs) ≡ ps ++ with_insides tab bytes calls zs
  over-plain [] calls zs h = refl
  over-plain (p ∷ ps) calls zs h =
      insides-other tab bytes calls p (ps ++ zs) (other-bare calls p (ps ++ zs) h.0) ∙ ap (λ (ts : List Event). p ∷ ts) (over-plain ps calls zs h.1)

  over-call : (l : Literal) (ls : List Literal) (s q : Point) (zs : List Event) → l.name ≡ GfmFootnoteCall → s.index ≡ l.from → q.index ≡ l.to → l.from < l.to
      → with_insides tab bytes (l ∷ ls) (leaf l.name s q ++ zs) ≡ event Enter l.name s ∷ (inside_call tab bytes s q ++ event Exit l.name q ∷ with_insides tab bytes ls zs)
  over-call l ls s q zs named from to some =
      let less = lt-ltb s.index q.index (omega (arith, from, to, some)) in
      let exit = event Exit l.name q in
      ap (λ t. with_insides tab bytes (l ∷ ls) (cond t (event Enter l.name s ∷ exit ∷ []) [] ++ zs)) less
      ∙ insides-bare tab bytes (l ∷ ls) (event Enter l.name s) (exit ∷ zs) (bare-one l ls s q zs named from to)
      ∙ ap (λ (ts : List Event). event Enter l.name s ∷ (inside_call tab bytes s q ++ ts)) (insides-other tab bytes ls exit zs (exit-bare ls exit zs refl))

  leaf-plain : (p q : Point) → HaveNoCalls (leaf Data p q)
  leaf-plain p q = by (nat_lt p.index q.index)
    where
      by : (t : Bool) → HaveNoCalls (cond t (event Enter Data p ∷ event Exit Data q ∷ []) [])
      by true = (refl, (refl, tt))
      by false = tt

  -- Events have these calls but for those that are left, which are behind them
  record Taken (calls : List Literal) (es : List Event) (left : List Literal) : Type 0 where
    inside : List Event
    taken : (more : List Literal) (zs : List Event) → with_insides tab bytes (calls ++ more) (es ++ zs) ≡ inside ++ with_insides tab bytes (left ++ more) zs

  written-taken : (first : Point) (stop : ℕ) (place : Point) (ls : List Literal) → Ascend place.index ls → AllByRecursion (λ l. first.index ≤ l.from) ls → AllByRecursion IsNamed ls
      → Taken ls (written tab bytes first stop place ls).events (written tab bytes first stop place ls).left
  written-taken first stop place [] rising low named = record { inside = []; taken = λ more zs. refl }
  written-taken first stop place (l ∷ ls) rising low named =
      by (nat_lt l.from stop) (written tab bytes first stop q ls) (written-taken first stop q ls (subst (λ i. Ascend i ls) (sym end) rising.2) low.1 named.1)
    where
      from' : Point
      from' = later place first

      s : Point
      s = start_of tab bytes from' l

      q : Point
      q = end_of tab bytes from' l

      start : s.index ≡ l.from
      start = start-is tab bytes place first l rising.0 low.0 rising.1

      end : q.index ≡ l.to
      end = end-is tab bytes place first l rising.0 low.0 rising.1

      by : (t : Bool) (w : Written) → Taken ls w.events w.left
          → Taken (l ∷ ls) (cond t (record w { events = with_one tab bytes from' l ++ w.events }) (record { events = []; place = place; left = l ∷ ls })).events
          (cond t (record w { events = with_one tab bytes from' l ++ w.events }) (record { events = []; place = place; left = l ∷ ls })).left
      by true w on =
          let before = leaf Data from' s in
          let call = leaf l.name s q in
          let within : List Event → List Event = λ ts. event Enter l.name s ∷ (inside_call tab bytes s q ++ event Exit l.name q ∷ ts) in
          record {
            inside = before ++ within on.inside;
            taken = λ more zs.
                let last = with_insides tab bytes (w.left ++ more) zs in
                ap (with_insides tab bytes (l ∷ (ls ++ more))) (append_assoc (before ++ call) w.events zs ∙ append_assoc before call (w.events ++ zs))
                ∙ over-plain before (l ∷ (ls ++ more)) (call ++ (w.events ++ zs)) (leaf-plain from' s)
                ∙ ap (λ (ts : List Event). before ++ ts) (over-call l (ls ++ more) s q (w.events ++ zs) named.0 start end rising.1)
                ∙ ap (λ (ts : List Event). before ++ within ts) (on.taken more zs)
                ∙ ap (λ (ts : List Event). before ++ (event Enter l.name s ∷ ts)) (sym (append_assoc (inside_call tab bytes s q) (event Exit l.name q ∷ on.inside) last))
                ∙ sym (append_assoc before (within on.inside) last);
          }
      by false w on = record { inside = []; taken = λ more zs. refl }

  left-plain : (place first last : Point) (span : List Event) → HaveNoCalls span → HaveNoCalls (left_over place first last span)
  left-plain place first last span h = by (nat_le place.index first.index)
    where
      by : (t : Bool) → HaveNoCalls (cond t span (leaf Data place last))
      by true = h
      by false = leaf-plain place last

  with-taken : (skip depth : ℕ) (place : Point) (ls : List Literal) (es : List Event) → place.vs ≡ 0 → Ascend place.index ls → AllByRecursion (λ l. Fits l depth skip es) ls
      → Past place.index depth skip es → AllByRecursion IsNamed ls → HaveNoCalls es → Taken ls (events_with tab bytes skip depth place ls es) []
  with-taken skip depth place [] [] flat rising fits past named plain = record { inside = []; taken = λ more zs. refl }
  with-taken skip depth place (l ∷ ls) [] flat rising fits past named plain = absurd fits.0
  with-taken (suc skip) depth place ls (e ∷ es) flat rising fits past named plain = with-taken skip depth place ls es flat rising fits past named plain.1
  with-taken zero depth place ls (e ∷ es) flat rising fits past named plain =
      by (is_text depth e) refl (λ place ls flat rising fits past named. with-taken (span_size 0 es) depth place ls es flat rising fits past named plain.1)
      (λ fits past. with-taken 0 (depth_behind depth e) place ls es flat rising fits past named plain.1)
    where
      n : ℕ
      n = span_size 0 es

      q : Point
      q = span_end e.point 0 es

      w : Written
      w = written tab bytes e.point q.index place ls

      by : (t : Bool) → is_text depth e ≡ t
          → ((place : Point) (ls : List Literal) → place.vs ≡ 0 → Ascend place.index ls → AllByRecursion (λ l. Fits l depth n es) ls → Past place.index depth n es → AllByRecursion IsNamed ls
          → Taken ls (events_with tab bytes n depth place ls es) [])
          → (AllByRecursion (λ l. Fits l (depth_behind depth e) 0 es) ls → Past place.index (depth_behind depth e) 0 es → Taken ls (events_with tab bytes 0 (depth_behind depth e) place ls es) [])
          → Taken ls (cond t (w.events ++ (left_over w.place e.point q (e ∷ take n es) ++ events_with tab bytes n depth w.place w.left es)) (e ∷ events_with tab bytes 0 (depth_behind depth e) place ls es)) []
      by true text on other =
          let lows = fits-low tab bytes depth e es ls fits in
          let well = text-well tab bytes depth place ls e es text flat rising fits past in
          let kept = written-well tab bytes e.point q.index (λ i. Unit {0}) IsNamed place ls flat rising lows tt (every-map IsNamed (λ l. IsNamed l × (l.from < q.index → Unit {0})) (λ l h. (h, (λ less. tt))) ls named) in
          let first = written-taken e.point q.index place ls rising lows named in
          let over = left_over w.place e.point q (e ∷ take n es) in
          let over_plain = left-plain w.place e.point q (e ∷ take n es) (plain.0, every-take (λ (e : Event). same_name e.name GfmFootnoteCall ≡ false) n es plain.1) in
          let behind = events_with tab bytes n depth w.place w.left es in
          let rest = on w.place w.left well.flat well.rising (fits-left tab bytes depth n q.index es w.left well.each well.late) well.kept kept.each in
          record {
            inside = first.inside ++ (over ++ rest.inside);
            taken = λ more zs.
                let last = with_insides tab bytes more zs in
                ap (with_insides tab bytes (ls ++ more)) (append_assoc w.events (over ++ behind) zs ∙ ap (λ (ts : List Event). w.events ++ ts) (append_assoc over behind zs))
                ∙ first.taken more (over ++ (behind ++ zs))
                ∙ ap (λ (ts : List Event). first.inside ++ ts) (over-plain over (w.left ++ more) (behind ++ zs) over_plain ∙ ap (λ (ts : List Event). over ++ ts) (rest.taken more zs))
                ∙ sym (append_assoc first.inside (over ++ rest.inside) last ∙ ap (λ (ts : List Event). first.inside ++ ts) (append_assoc over rest.inside last));
          }
      by false isnt on other =
          let rest = other (every-map (λ l. Fits l depth 0 (e ∷ es)) (λ l. Fits l (depth_behind depth e) 0 es) (λ l f. f.2 isnt) ls fits) (past.1 isnt).1 in
          let behind = events_with tab bytes 0 (depth_behind depth e) place ls es in
          record {
            inside = e ∷ rest.inside;
            taken = λ more zs. insides-other tab bytes (ls ++ more) e (behind ++ zs) (other-bare (ls ++ more) e (behind ++ zs) plain.0) ∙ ap (λ (ts : List Event). e ∷ ts) (rest.taken more zs);
          }

  -- ---- both

  module _ (noted : (label : List ℕ) → Bool) (xs ys : List Event) (balanced : IsBalanced xs) (goes : Goes (point 1 1 0 0) (xs ++ ys)) (begins : begins_block ys ≡ true) (plain : HaveNoCalls xs) where
    abbrev start : Point
    start = point 1 1 0 0

    abbrev calls : List Event → List Literal
    calls es = calls_of noted bytes 0 0 es

    abbrev called : List Event → List Event
    called es = events_with tab bytes 0 0 start (calls es) es

    calls-both : calls (xs ++ ys) ≡ calls xs ++ calls ys
    calls-both =
        sym (calls-found-of noted bytes true 0 0 (xs ++ ys))
        ∙ found-of-both tab bytes (between noted bytes) (between-lie noted bytes) xs ys balanced goes begins
        ∙ (λ i. calls-found-of noted bytes true 0 0 xs i ++ calls-found-of noted bytes true 0 0 ys i)

    called-both : called (xs ++ ys) ≡ called xs ++ called ys
    called-both =
        let with : List Literal → List Event → List Event = λ ls es. events_with tab bytes 0 0 start ls es in
        ap (λ ls. with ls (xs ++ ys)) (sym (calls-found-of noted bytes true 0 0 (xs ++ ys)) ∙ found-of-both tab bytes (between noted bytes) (between-lie noted bytes) xs ys balanced goes begins)
        ∙ with-found-both tab bytes (between noted bytes) (between-lie noted bytes) xs ys balanced goes begins
        ∙ (λ i. with (calls-found-of noted bytes true 0 0 xs i) xs ++ with (calls-found-of noted bytes true 0 0 ys i) ys)

    pub with-calls-both : with_calls noted tab bytes (xs ++ ys) ≡ with_calls noted tab bytes xs ++ with_calls noted tab bytes ys
    with-calls-both =
        let rise = goes-rise start xs (goes-first start xs ys goes) in
        let all = with-taken 0 0 start (calls xs) xs refl (calls-rise noted bytes 0 0 0 xs rise) (calls-fit noted bytes 0 0 0 xs rise) (past-start 0 0 xs) (calls-named noted bytes xs) plain in
        let alone : with_insides tab bytes (calls xs) (called xs) ≡ all.inside =
        sym (ap (λ ls. with_insides tab bytes ls (called xs)) (append-nil (calls xs)))
        ∙ sym (ap (with_insides tab bytes (calls xs ++ [])) (append-nil (called xs)))
        ∙ all.taken [] []
        ∙ append-nil all.inside
        in
        (λ i. with_insides tab bytes (calls-both i) (called-both i))
        ∙ all.taken (calls ys) (called ys)
        ∙ ap (λ (ts : List Event). ts ++ with_insides tab bytes (calls ys) (called ys)) (sym alone)
