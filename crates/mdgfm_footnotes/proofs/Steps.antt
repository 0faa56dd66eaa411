-- In loops over texts and events: what was passed, and what comes.
use Rattle.std.proofs.Common.{◌≡◌, ℕ, zero, suc, ◌+◌, ◌-◌, ◌<◌, ◌≤◌, ◌++◌, Bool, true, cond, List, [], ◌∷◌, length, drop, take, Option, Some, None, refl, sym, ap, subst, ◌∙◌, arith}
use Rattle.std.proofs.Math.Bool.{and-false}
use Rattle.std.proofs.lemmas.Bool.{false≢true}
use Rattle.std.proofs.lemmas.List.{append_assoc, drop-drop, length-drop}
use Rattle.std.specs.List.{AllByRecursion}
use Rattle.std.specs.Prelude.{◌==◌, IfSome, slice_range}
use Rattle.markdown_base.specs.declared.event.Event.{Event}
use Rattle.markdown_base.specs.declared.event.Name.TheVariants.{GfmFootnoteCall}
use Rattle.markdown_base.specs.declared.event.Point.{Point}
use Rattle.markdown_base.specs.Virtual.{point}
use Rattle.mdgfm_events.specs.Spans.{span_end, span_size}
use Rattle.mdgfm_events.proofs.Sizes.{end-last}
use Rattle.mdgfm_events.proofs.Slices.{tail}
use Rattle.mdgfm_literals.specs.declared.stretches.Reach.{Reach}
use Rattle.mdgfm_literals.specs.declared.texts.Literal.{Literal}
use Rattle.mdgfm_literals.specs.Bytes.{is_escape}
use Rattle.mdgfm_literals.specs.LiteralEvents.{events_with}
use Rattle.mdgfm_literals.specs.Literals.{more_passed}
use Rattle.mdgfm_literals.specs.Stretches.{depth_behind, is_text, reach}
use Rattle.mdgfm_literals.proofs.EventSteps.{more, reach-skip}
use Rattle.mdgfm_footnotes.specs.CallEvents.{inside_call, is_bare, is_one_of, labels_in, with_insides}
use Rattle.mdgfm_footnotes.specs.Calls.{call_at, calls_from, calls_of, is_in_call, label_size}
use Rattle.mdgfm_footnotes.proofs.Insides.{bare-by, insides-bare}

-- ---- labels

-- an escape is two bytes of a label
pub size-escape : (text : List ℕ) → is_escape text ≡ true → (2 ≤ length text) × (label_size 0 text ≡ label_size 0 (drop 2 text) + 2)
size-escape [] h = absurd (false≢true h)
size-escape (b ∷ []) h = absurd (false≢true (sym (and-false (b == 92)) ∙ h))
size-escape (b ∷ c ∷ cs) h =
    let two : label_size 0 cs + 1 + 1 ≡ label_size 0 cs + 2 = omega arith in
    (omega arith, ap (λ t. cond t (label_size 1 (c ∷ cs) + 1) (cond (is_in_call b) (label_size 0 (c ∷ cs) + 1) 0)) h ∙ two)

-- ---- calls of a text

-- what holds of a number that was found
pub found-some : (o : Option ℕ) (n most : ℕ) → o ≡ Some n → IfSome o (λ k. (1 ≤ k) × (k ≤ most)) → (1 ≤ n) × (n ≤ most)
found-some o n most is h = subst (λ o. IfSome o (λ k. (1 ≤ k) × (k ≤ most))) is h

module _ (defined : (label : List ℕ) → Bool) where
  calls-skip : (skip at : ℕ) (text : List ℕ) → calls_from defined skip at text ≡ calls_from defined 0 (at + skip) (drop skip text)
  calls-skip zero at text = let z : at ≡ at + 0 = omega arith in ap (λ i. calls_from defined 0 i text) z
  calls-skip (suc skip) at [] = refl
  calls-skip (suc skip) at (b ∷ bs) = let z : at + 1 + skip ≡ at + suc skip = omega arith in calls-skip skip (at + 1) bs ∙ ap (λ i. calls_from defined 0 i (drop skip bs)) z

  abbrev pub of_call : (at size : ℕ) → Literal
  of_call at size = record { from = at; to = at + size; name = GfmFootnoteCall }

  -- what is there, by the call at the front
  abbrev by_call : (at b : ℕ) → List ℕ → Option ℕ → List Literal
  by_call at b bs o = elim o as (λ _. List Literal) [ Some n ↦ of_call at n ∷ calls_from defined (n - 1) (at + 1) bs | None ↦ calls_from defined (more_passed (b ∷ bs)) (at + 1) bs ]

  -- behind the first byte, and more
  behind : (at n b : ℕ) (bs : List ℕ) → calls_from defined n (at + 1) bs ≡ calls_from defined 0 (at + (1 + n)) (drop (1 + n) (b ∷ bs))
  behind at n b bs =
      let one : suc n ≡ 1 + n = omega arith in
      let z : at + 1 + n ≡ at + (1 + n) = omega arith in
      calls-skip n (at + 1) bs ∙ ap (λ i. calls_from defined 0 i (drop n bs)) z ∙ ap (λ k. calls_from defined 0 (at + (1 + n)) (drop k (b ∷ bs))) one

  call-found : (at : ℕ) (text : List ℕ) (n : ℕ) → 0 < length text → call_at defined text ≡ Some n → 1 ≤ n
      → calls_from defined 0 at text ≡ of_call at n ∷ calls_from defined 0 (at + n) (drop n text)
  call-found at [] n some e size = absurd (omega (arith, some))
  call-found at (b ∷ bs) n some e size =
      let one : 1 + (n - 1) ≡ n = omega (arith, size) in
      ap (by_call at b bs) e ∙ ap (λ ls. of_call at n ∷ ls) (behind at (n - 1) b bs ∙ ap (λ k. calls_from defined 0 (at + k) (drop k (b ∷ bs))) one)

  call-none : (at : ℕ) (text : List ℕ) → 0 < length text → call_at defined text ≡ None → calls_from defined 0 at text ≡ calls_from defined 0 (at + (1 + more_passed text)) (drop (1 + more_passed text) text)
  call-none at [] some e = absurd (omega (arith, some))
  call-none at (b ∷ bs) some e = ap (by_call at b bs) e ∙ behind at (more_passed (b ∷ bs)) b bs

  module _ (whole all : List Literal) (start at : ℕ) (text : List ℕ) (inside : at < length text) (so_far : all ++ calls_from defined 0 (start + at) (drop at text) ≡ whole) where
    some : 0 < length (drop at text)
    some = omega (arith, length-drop at text)

    on : (n : ℕ) → calls_from defined 0 (start + at + n) (drop n (drop at text)) ≡ calls_from defined 0 (start + (at + n)) (drop (at + n) text)
    on n = let sum : start + at + n ≡ start + (at + n) = omega arith in ap (λ i. calls_from defined 0 i (drop n (drop at text))) sum ∙ ap (calls_from defined 0 (start + (at + n))) (drop-drop n at text)

    pub call-next : (n : ℕ) → call_at defined (drop at text) ≡ Some n → 1 ≤ n → (all ++ of_call (start + at) n ∷ []) ++ calls_from defined 0 (start + (at + n)) (drop (at + n) text) ≡ whole
    call-next n e size =
        append_assoc all (of_call (start + at) n ∷ []) (calls_from defined 0 (start + (at + n)) (drop (at + n) text))
        ∙ ap (λ ls. all ++ of_call (start + at) n ∷ ls) (sym (on n))
        ∙ ap (λ ls. all ++ ls) (sym (call-found (start + at) (drop at text) n some e size))
        ∙ so_far

    pub none-next : call_at defined (drop at text) ≡ None → all ++ calls_from defined 0 (start + (at + (1 + more_passed (drop at text)))) (drop (at + (1 + more_passed (drop at text))) text) ≡ whole
    none-next e = ap (λ ls. all ++ ls) (sym (on (1 + more_passed (drop at text))) ∙ sym (call-none (start + at) (drop at text) some e)) ∙ so_far

  -- ---- calls of events

  calls-of-skip : (bytes : List ℕ) (depth skip : ℕ) (es : List Event) → calls_of defined bytes depth skip es ≡ calls_of defined bytes depth 0 (drop skip es)
  calls-of-skip bytes depth zero es = refl
  calls-of-skip bytes depth (suc skip) [] = refl
  calls-of-skip bytes depth (suc skip) (e ∷ es) = calls-of-skip bytes depth skip es

  module _ (bytes : List ℕ) (depth : ℕ) (whole all : List Literal) (events : List Event) (at : ℕ) (e : Event) (here : drop at events ≡ e ∷ drop (at + 1) events)
      (so_far : all ++ calls_of defined bytes depth 0 (drop at events) ≡ whole) (text : is_text depth e ≡ true) where
    abbrev es : List Event
    es = drop (at + 1) events

    abbrev stretch : ℕ → List Literal
    stretch stop = calls_from defined 0 e.point.index (slice_range bytes e.point.index stop)

    -- by how far a stretch reaches, with its first span
    abbrev reached : ℕ → Reach → List Literal
    reached n r = (all ++ stretch r.stop) ++ calls_of defined bytes depth 0 (drop (at + 1 + n + r.size) events)

    text-next : (n : ℕ) (p : Point) → n ≡ span_size 0 es → p ≡ span_end e.point 0 es → n ≤ length es → reached n (reach 0 p.index (drop (at + 1 + n) events)) ≡ whole
    text-next n p n-is p-is k =
        let r = reach 0 p.index (drop (at + 1 + n) events) in
        let reaches : reach (span_size 0 es) (span_end e.point 0 es).index es ≡ more n r =
        ap (λ m. reach m (span_end e.point 0 es).index es) (sym n-is) ∙ ap (λ (q : Point). reach n q.index es) (sym p-is) ∙ reach-skip n p.index es k ∙ ap (λ ts. more n (reach 0 p.index ts)) (drop-drop n (at + 1) events) in
        let sum : at + 1 + (n + r.size) ≡ at + 1 + n + r.size = omega arith in
        let left : calls_of defined bytes depth (n + r.size) es ≡ calls_of defined bytes depth 0 (drop (at + 1 + n + r.size) events) =
        calls-of-skip bytes depth (n + r.size) es ∙ ap (λ ts. calls_of defined bytes depth 0 ts) (drop-drop (n + r.size) (at + 1) events ∙ ap (λ i. drop i events) sum) in
        append_assoc all (stretch r.stop) (calls_of defined bytes depth 0 (drop (at + 1 + n + r.size) events))
        ∙ ap (λ ls. all ++ (stretch r.stop ++ ls)) (sym left)
        ∙ ap (λ (q : Reach). all ++ (stretch q.stop ++ calls_of defined bytes depth q.size es)) (sym reaches)
        ∙ ap (λ ls. all ++ ls) (sym of_text)
        ∙ ap (λ ts. all ++ calls_of defined bytes depth 0 ts) (sym here)
        ∙ so_far
      where
        of_text : calls_of defined bytes depth 0 (e ∷ es) ≡ stretch (reach (span_size 0 es) (span_end e.point 0 es).index es).stop ++ calls_of defined bytes depth (reach (span_size 0 es) (span_end e.point 0 es).index es).size es
        of_text =
            ap (λ t. cond t (stretch (reach (span_size 0 es) (span_end e.point 0 es).index es).stop ++ calls_of defined bytes depth (reach (span_size 0 es) (span_end e.point 0 es).index es).size es)
            (calls_of defined bytes (depth_behind depth e) 0 es)) text

    -- the same, by what spans are in the code: their size and end, by what is left of the slice
    pub calls-step : (size : ℕ) (last : Point) (r : Reach) (found : List ℕ) (new : List Literal) → size ≡ span_size 0 (take (length events - (at + 1)) (drop (at + 1) events))
        → last ≡ span_end e.point 0 (take (length events - (at + 1)) (drop (at + 1) events)) → size ≤ length (take (length events - (at + 1)) (drop (at + 1) events))
        → r ≡ reach 0 last.index (take (length events - (at + 1 + size)) (drop (at + 1 + size) events)) → found ≡ slice_range bytes e.point.index r.stop
        → new ≡ all ++ calls_from defined 0 e.point.index found → new ++ calls_of defined bytes depth 0 (drop (at + 1 + size + r.size) events) ≡ whole
    calls-step size last r found new size-is last-is fits r-is found-is new-is =
        let left = tail (at + 1) events in
        let n-is = size-is ∙ ap (λ ts. span_size 0 ts) left in
        let p-is = last-is ∙ ap (λ ts. span_end e.point 0 ts) left in
        ap (λ ls. ls ++ calls_of defined bytes depth 0 (drop (at + 1 + size + r.size) events)) (new-is ∙ ap (λ ts. all ++ calls_from defined 0 e.point.index ts) found-is)
        ∙ ap (reached size) (r-is ∙ ap (λ ts. reach 0 last.index ts) (tail (at + 1 + size) events))
        ∙ text-next size last n-is p-is (subst (λ ts. size ≤ length ts) left fits)

-- ---- events with what is in their calls

-- what holds of all calls holds of those that are left
pub all-left : (P : Literal → Type 0) (n : ℕ) (ls : List Literal) → AllByRecursion P ls → AllByRecursion P (drop n ls)
all-left P zero ls h = h
all-left P (suc n) [] h = tt
all-left P (suc n) (l ∷ ls) h = all-left P n ls h.1

abbrev pub IsLong : Literal → Type 0
IsLong l = l.from + 4 ≤ l.to

-- a call with nothing in it has its bytes
bare-long : (calls : List Literal) (e : Event) (es : List Event) → AllByRecursion IsLong calls → is_bare calls e es ≡ true → e.point.index + 4 ≤ (span_end e.point 0 es).index
bare-long calls e es all h =
    bare-by (e.point.index + 4 ≤ (span_end e.point 0 es).index) calls e es h
    (λ l ls f fs is are bare.
    let each : AllByRecursion IsLong (l ∷ ls) = subst (AllByRecursion IsLong) is all in
    let end : (span_end e.point 0 es).index ≡ f.point.index = ap (λ (ts : List Event). (span_end e.point 0 ts).index) are ∙ ap (λ (p : Point). p.index) (end-last e.point f fs bare.exits) in
    let long = each.0 in
    let start = bare.start in
    let last = bare.end in
    omega (arith, end, long, start, last))

-- by what is left of slices in the code
module _ (calls : List Literal) (events : List Event) (count at : ℕ) (e : Event) (tested : Bool)
    (tested-is : tested ≡ is_bare (take (length calls - count) (drop count calls)) e (take (length events - (at + 1)) (drop (at + 1) events))) (true-is : tested ≡ true)
    (last : Point) (last-is : last ≡ span_end e.point 0 (take (length events - (at + 1)) (drop (at + 1) events))) where
  bare : is_bare (drop count calls) e (drop (at + 1) events) ≡ true
  bare =
      ap (λ (cs : List Literal). is_bare cs e (drop (at + 1) events)) (sym (tail count calls))
      ∙ ap (λ (ts : List Event). is_bare (take (length calls - count) (drop count calls)) e ts) (sym (tail (at + 1) events))
      ∙ sym tested-is
      ∙ true-is

  end : last ≡ span_end e.point 0 (drop (at + 1) events)
  end = last-is ∙ ap (λ ts. span_end e.point 0 ts) (tail (at + 1) events)

  pub bare_long : AllByRecursion IsLong calls → e.point.index + 4 ≤ last.index
  bare_long all =
      let long = bare-long (drop count calls) e (drop (at + 1) events) (all-left IsLong count calls all) bare in
      let there : last.index ≡ (span_end e.point 0 (drop (at + 1) events)).index = ap (λ (p : Point). p.index) end in
      omega (arith, long, there)

  module _ (tab : ℕ) (bytes : List ℕ) (here : drop at events ≡ e ∷ drop (at + 1) events) (whole out : List Event) (so_far : out ++ with_insides tab bytes (drop count calls) (drop at events) ≡ whole) where
    pub bare_next : (out1 out2 : List Event) → out1 ≡ out ++ e ∷ [] → out2 ≡ out1 ++ inside_call tab bytes e.point last
        → out2 ++ with_insides tab bytes (drop (count + 1) calls) (drop (at + 1) events) ≡ whole
    bare_next out1 out2 h k =
        let rest = with_insides tab bytes (drop (count + 1) calls) (drop (at + 1) events) in
        let inside = inside_call tab bytes e.point last in
        ap (λ (ts : List Event). ts ++ rest) (k ∙ ap (λ (ts : List Event). ts ++ inside) h)
        ∙ append_assoc (out ++ e ∷ []) inside rest
        ∙ append_assoc out (e ∷ []) (inside ++ rest)
        ∙ ap (λ (q : Point). out ++ (e ∷ (inside_call tab bytes e.point q ++ rest))) end
        ∙ ap (λ (cs : List Literal). out ++ (e ∷ (inside_call tab bytes e.point (span_end e.point 0 (drop (at + 1) events)) ++ with_insides tab bytes cs (drop (at + 1) events)))) (sym (drop-drop 1 count calls))
        ∙ ap (λ (ts : List Event). out ++ ts) (sym (insides-bare tab bytes (drop count calls) e (drop (at + 1) events) bare))
        ∙ ap (λ (ts : List Event). out ++ with_insides tab bytes (drop count calls) ts) (sym here)
        ∙ so_far

-- ---- of labels that are noted

-- labels of events are those of their definitions
pub noted-are : (bytes : List ℕ) (events seen : List Event) (noted : (label : List ℕ) → Bool) → seen ≡ events → ((label : List ℕ) → noted label ≡ is_one_of (labels_in bytes seen) label)
    → noted ≡ is_one_of (labels_in bytes events)
noted-are bytes events seen noted one same =
    let first : noted ≡ is_one_of (labels_in bytes seen) = λ k. λ label. same label k in
    first ∙ ap (λ es. is_one_of (labels_in bytes es)) one

-- events with them, part by part
pub of-parts : (tab : ℕ) (bytes : List ℕ) (found calls calls1 calls2 : List Literal) (events seen called called1 all : List Event) → calls ≡ found → calls1 ≡ calls → calls2 ≡ calls → seen ≡ events → called1 ≡ called
    → called ≡ events_with tab bytes 0 0 (point 1 1 0 0) calls1 seen → all ≡ with_insides tab bytes calls2 called1 → all ≡ with_insides tab bytes found (events_with tab bytes 0 0 (point 1 1 0 0) found events)
of-parts tab bytes found calls calls1 calls2 events seen called called1 all are one two is same with_is all-is =
    all-is
    ∙ ap (λ (ls : List Literal). with_insides tab bytes ls called1) (two ∙ are)
    ∙ ap (with_insides tab bytes found) (same ∙ with_is ∙ ap (λ (ls : List Literal). events_with tab bytes 0 0 (point 1 1 0 0) ls seen) (one ∙ are) ∙ ap (events_with tab bytes 0 0 (point 1 1 0 0) found) is)
