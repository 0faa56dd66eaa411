-- What is read of the first items of a text: its outermost spans come first among those of the text, and its innermost spans cut the virtual bytes up to those that
-- are left.
use Rattle.mddocument_rules.proofs.Prelude.{◌≡◌, ◌∙◌, ℕ, zero, suc, ◌-◌, ◌==◌, Bool, cond, List, [], ◌∷◌, ◌++◌, append-nil, append_assoc, ap, arith, drop, flat_map, length, refl, subst, sym, take, Constructs, Event, Enter, Exit, Kind, IsBalanced, empty, IsBalanced-append, Seat}
use Rattle.std.proofs.lemmas.Grind.{flat_map-append}
use Rattle.std.proofs.lemmas.List.{length-append, take-append-drop}
use Rattle.std.proofs.Math.Dec.{eqb-suc-zero}
use Rattle.std.specs.List.{prefix_len}
use Rattle.std.specs.Prelude.{◌≤◌}
use Rattle.markdown_base.specs.declared.event.Name.TheVariants.{SpaceOrTab}
use Rattle.markdown_base.specs.Events.{span as balanced_span}
use Rattle.mdconstructs_tables.specs.Breaks.{is_white}
use Rattle.mdinline_constructs.proofs.WhiteSpaces.Cuts.{white-run-cut}
use Rattle.mdinline_constructs.specs.WhiteSpace.{white_space}
use Rattle.mdinline_emphasis.specs.Runs.{depth_after}
use Rattle.mdinline_links.proofs.Plain.{front-first}
use Rattle.mdinline_links.proofs.Spans.{span-joins}
use Rattle.mdinline_links.specs.Linked.{outermost_spans, span_at, spans_in}
use Rattle.mdinline_machine.proofs.InlineBuilt.{balance-kept, items-built}
use Rattle.mdinline_machine.specs.Brackets.{Memory, after_item, nothing_read}
use Rattle.mdinline_machine.specs.InlineEvents.{inline_item_at, inline_items}
use Rattle.mdinline_text_machine.proofs.DeepSpans.Atoms.{IsCut, cut-append, cut-none}
use Rattle.mdinline_text_machine.specs.Construct.{Found, makes, plain}
use Rattle.mdinline_text_machine.specs.Items.{item_length}
use Rattle.mdinline_text_machine.specs.Parts.{bytes_of, cut_remembering}
use Rattle.mdinline_text_machine.specs.TextEvents.{item_events}
use Rattle.mddocument.proofs.Emphasis.InlineRuns.{item-runs}
use Rattle.mddocument_rules.specs.BracketLaws.{remembered}

-- ---- the first span of a list
enter-step : (e : Event) (d : ℕ) (es : List Event) → e.kind ≡ Enter → span_at d (e ∷ es) ≡ (e ∷ (span_at (suc d) es).0, (span_at (suc d) es).1)
enter-step e d es en =
    let w = span_at (suc d) es in
    ap (λ (k : Kind). let m = depth_after k d in cond (m == 0) (e ∷ [], es) (e ∷ (span_at m es).0, (span_at m es).1)) en ∙ ap (λ b. cond b (e ∷ [], es) (e ∷ w.0, w.1)) (eqb-suc-zero d)

exit-step : (f : Event) (d : ℕ) (es : List Event) → f.kind ≡ Exit → span_at (suc (suc d)) (f ∷ es) ≡ (f ∷ (span_at (suc d) es).0, (span_at (suc d) es).1)
exit-step f d es ex =
    let w = span_at (suc d) es in
    let one : suc (suc d) - 1 ≡ suc d = omega arith in
    ap (λ (k : Kind). let m = depth_after k (suc (suc d)) in cond (m == 0) (f ∷ [], es) (f ∷ (span_at m es).0, (span_at m es).1)) ex
    ∙ ap (λ m. cond (m == 0) (f ∷ [], es) (f ∷ (span_at m es).0, (span_at m es).1)) one
    ∙ ap (λ b. cond b (f ∷ [], es) (f ∷ w.0, w.1)) (eqb-suc-zero d)

exit-last : (f : Event) (es : List Event) → f.kind ≡ Exit → span_at 1 (f ∷ es) ≡ (f ∷ [], es)
exit-last f es ex = ap (λ (k : Kind). let m = depth_after k 1 in cond (m == 0) (f ∷ [], es) (f ∷ (span_at m es).0, (span_at m es).1)) ex

-- where a span is open, balanced events are passed over
passed : {xs : List Event} → IsBalanced xs → (d : ℕ) (rest : List Event) → span_at (suc d) (xs ++ rest) ≡ (xs ++ (span_at (suc d) rest).0, (span_at (suc d) rest).1)
passed empty d rest = refl
passed (balanced_span e f inner behind is en ex same b c) d rest =
    subst (λ l. span_at (suc d) (l ++ rest) ≡ (l ++ (span_at (suc d) rest).0, (span_at (suc d) rest).1)) (sym is)
    (let w = span_at (suc d) rest in
    enter-step e (suc d) ((inner ++ f ∷ behind) ++ rest) en
    ∙ ap (λ (q : List Event × List Event). (e ∷ q.0, q.1))
    (ap (span_at (suc (suc d))) (append_assoc inner (f ∷ behind) rest)
    ∙ passed b (suc d) (f ∷ (behind ++ rest))
    ∙ ap (λ (q : List Event × List Event). (inner ++ q.0, q.1)) (exit-step f d (behind ++ rest) ex ∙ ap (λ (q : List Event × List Event). (f ∷ q.0, q.1)) (passed c d rest))
    ∙ ap (λ l. (l, w.1)) (sym (append_assoc inner (f ∷ behind) w.0))))

first-whole : (e f : Event) (inner rest : List Event) → e.kind ≡ Enter → f.kind ≡ Exit → IsBalanced inner → span_at 0 (e ∷ (inner ++ f ∷ rest)) ≡ (e ∷ (inner ++ f ∷ []), rest)
first-whole e f inner rest en ex b =
    enter-step e 0 (inner ++ f ∷ rest) en ∙ ap (λ (q : List Event × List Event). (e ∷ q.0, q.1)) (passed b 0 (f ∷ rest) ∙ ap (λ (q : List Event × List Event). (inner ++ q.0, q.1)) (exit-last f rest ex))

-- ---- outermost spans, so many at most
spans-enough : (n m : ℕ) (es : List Event) → length es ≤ n → length es ≤ m → spans_in n es ≡ spans_in m es
spans-enough zero zero es h k = refl
spans-enough zero (suc m) [] h k = refl
spans-enough zero (suc m) (e ∷ es) h k = absurd (omega (arith, h))
spans-enough (suc n) zero [] h k = refl
spans-enough (suc n) zero (e ∷ es) h k = absurd (omega (arith, k))
spans-enough (suc n) (suc m) [] h k = refl
spans-enough (suc n) (suc m) (e ∷ es) h k =
    let w = span_at 0 (e ∷ es) in
    let first = ap length (front-first 0 e es).1 in
    let whole = sym (length-append w.0 w.1) ∙ ap length (span-joins 0 (e ∷ es)) in
    ap (λ l. w.0 ∷ l) (spans-enough n m w.1 (omega (arith, h, first, whole)) (omega (arith, k, first, whole)))

spans-from : {xs : List Event} → IsBalanced xs → (ys : List Event) (n : ℕ) → length (xs ++ ys) ≤ n → spans_in n (xs ++ ys) ≡ outermost_spans xs ++ outermost_spans ys
spans-from empty ys n h = spans-enough n (length ys) ys h (omega arith)
spans-from (balanced_span e f inner behind is en ex same b c) ys n h =
    subst (λ l. length (l ++ ys) ≤ n → spans_in n (l ++ ys) ≡ outermost_spans l ++ outermost_spans ys) (sym is) (by n (spans-from c ys)) h
  where
    first : List Event
    first = e ∷ (inner ++ f ∷ [])

    by : (n : ℕ) → ((k : ℕ) → length (behind ++ ys) ≤ k → spans_in k (behind ++ ys) ≡ outermost_spans behind ++ outermost_spans ys) → length ((e ∷ (inner ++ f ∷ behind)) ++ ys) ≤ n → spans_in n ((e ∷ (inner ++ f ∷ behind)) ++ ys) ≡ outermost_spans (e ∷ (inner ++ f ∷ behind)) ++ outermost_spans ys
    by zero more h = absurd (omega (arith, h))
    by (suc n) more h =
        let apart : (inner ++ f ∷ behind) ++ ys ≡ inner ++ f ∷ (behind ++ ys) = append_assoc inner (f ∷ behind) ys in
        let here : span_at 0 (e ∷ ((inner ++ f ∷ behind) ++ ys)) ≡ (first, behind ++ ys) = ap (λ l. span_at 0 (e ∷ l)) apart ∙ first-whole e f inner (behind ++ ys) en ex b in
        let there : span_at 0 (e ∷ (inner ++ f ∷ behind)) ≡ (first, behind) = first-whole e f inner behind en ex b in
        let long = ap length apart in
        let sum = length-append inner (f ∷ (behind ++ ys)) in
        let own = length-append inner (f ∷ behind) in
        ap (λ (q : List Event × List Event). q.0 ∷ spans_in n q.1) here
        ∙ ap (λ l. first ∷ l) (more n (omega (arith, h, long, sum)) ∙ ap (λ l. l ++ outermost_spans ys) (spans-enough (length behind) (length (inner ++ f ∷ behind)) behind (omega arith) (omega (arith, own))))
        ∙ ap (λ (q : List Event × List Event). (q.0 ∷ spans_in (length (inner ++ f ∷ behind)) q.1) ++ outermost_spans ys) (sym there)

-- The outermost spans of two lists, of which the first is balanced, are those of both
pub spans-both : (xs ys : List Event) → IsBalanced xs → outermost_spans (xs ++ ys) ≡ outermost_spans xs ++ outermost_spans ys
spans-both xs ys b = spans-from b ys (length (xs ++ ys)) (omega arith)

-- one span alone
pub single-span : (e f : Event) (inner : List Event) → e.kind ≡ Enter → f.kind ≡ Exit → IsBalanced inner → outermost_spans (e ∷ (inner ++ f ∷ [])) ≡ (e ∷ (inner ++ f ∷ [])) ∷ []
single-span e f inner en ex b = ap (λ (q : List Event × List Event). q.0 ∷ spans_in (length (inner ++ f ∷ [])) q.1) (first-whole e f inner [] en ex b) ∙ ap (λ l. (e ∷ (inner ++ f ∷ [])) ∷ l) (spans-enough (length (inner ++ f ∷ [])) 0 [] (omega arith) (omega arith))

-- ---- items
-- some virtual bytes from the front, and more of them
front-and-more : (n : ℕ) (l inside ahead : List Seat) → drop n l ≡ inside ++ ahead → l ≡ (take n l ++ inside) ++ ahead
front-and-more n l inside ahead e = sym (take-append-drop n l) ∙ ap (λ k. take n l ++ k) e ∙ sym (append_assoc (take n l) inside ahead)

-- the first item, or another where there is none
abbrev pub first_item : Found → List (Found × List Seat) → Found
first_item other [] = other
first_item other (j ∷ js) = j.0

module _ (bytes : List ℕ) where
  module _ (on : Constructs) (defined : List ℕ → Bool) where
    abbrev cut_from : ℕ → Memory → List Seat → List (Found × List Seat)
    cut_from bound m seats = cut_remembering (after_item bytes) (inline_item_at on defined bytes) item_length bound m seats

    one-balanced : (m : Memory) (s : Seat) (ss : List Seat) → let f = inline_item_at on defined bytes m (bytes_of (s ∷ ss)) in IsBalanced (f.events bytes (take f.size (s ∷ ss)))
    one-balanced m s ss = let f = inline_item_at on defined bytes m (bytes_of (s ∷ ss)) in subst IsBalanced (append-nil (f.events bytes (take f.size (s ∷ ss)))) (items-built bytes IsBalanced (balance-kept bytes) on defined bytes 1 m (s ∷ ss))

    -- what was read of some items from the front: it is balanced, and it cuts the virtual bytes up to those that are left
    pub record IsReadUpTo (m : Memory) (seats : List Seat) (front : List (Found × List Seat)) : Type 0 where
      pub inside : List Seat
      pub are : seats ≡ inside ++ (remembered bytes m front).ahead
      pub cut : IsCut bytes (flat_map (item_events bytes) front) inside
      pub balanced : IsBalanced (flat_map (item_events bytes) front)

    items-read : (bound : ℕ) (m : Memory) (seats : List Seat) (front rest : List (Found × List Seat)) → m.ahead ≡ seats → cut_from bound m seats ≡ front ++ rest → IsReadUpTo m seats front
    items-read bound m seats [] rest ahead e = record { inside = []; are = sym ahead; cut = cut-none bytes; balanced = empty }
    items-read zero m seats (i ∷ front) rest ahead e = absurd (cc)
    items-read (suc bound) m [] (i ∷ front) rest ahead e = absurd (cc)
    items-read (suc bound) m (s ∷ ss) (i ∷ front) rest ahead e =
        let f = inline_item_at on defined bytes m (bytes_of (s ∷ ss)) in
        let first : (f, take f.size (s ∷ ss)) ≡ i = cc in
        let more : cut_from bound (after_item bytes m f) (drop f.size (s ∷ ss)) ≡ front ++ rest = cc in
        let h = items-read bound (after_item bytes m f) (drop f.size (s ∷ ss)) front rest (ap (drop f.size) ahead) more in
        let l = take f.size (s ∷ ss) in
        subst (λ (j : Found × List Seat). IsReadUpTo m (s ∷ ss) (j ∷ front)) first
        (record {
          inside = l ++ h.inside;
          are = front-and-more f.size (s ∷ ss) h.inside (remembered bytes (after_item bytes m f) front).ahead h.are;
          cut = cut-append bytes (item-runs bytes on defined m s ss).0 h.cut;
          balanced = IsBalanced-append (f.events bytes l) (flat_map (item_events bytes) front) (one-balanced m s ss) h.balanced;
        })

    -- So it is of all of them, and the outermost spans of some come first
    pub text-read : (seats : List Seat) (front rest : List (Found × List Seat)) → inline_items on defined bytes seats ≡ front ++ rest → IsReadUpTo (nothing_read seats) seats front
    text-read seats [] rest e = record { inside = []; are = refl; cut = cut-none bytes; balanced = empty }
    text-read seats (i ∷ front) rest e =
        let n = prefix_len is_white (bytes_of seats) in
        let m = after_item bytes (nothing_read seats) (white_space n) in
        let first : (white_space n, take n seats) ≡ i = cc in
        let more : cut_from (length seats) m (drop n seats) ≡ front ++ rest = cc in
        let h = items-read (length seats) m (drop n seats) front rest refl more in
        let l = take n seats in
        subst (λ (j : Found × List Seat). IsReadUpTo (nothing_read seats) seats (j ∷ front)) first
        (record {
          inside = l ++ h.inside;
          are = front-and-more n seats h.inside (remembered bytes m front).ahead h.are;
          cut = cut-append bytes (white-run-cut bytes seats) h.cut;
          balanced = IsBalanced-append ((white_space n).events bytes l) (flat_map (item_events bytes) front) ((balance-kept bytes).alone SpaceOrTab l) h.balanced;
        })

    -- an item behind others that is of a bracket or an end is cut from what is left
    abbrev pub IsHere : Memory → (Found × List Seat) → Type 0
    IsHere m i = (s : Seat) × (ss : List Seat) × (m.ahead ≡ s ∷ ss) × (i.1 ≡ take i.0.size (s ∷ ss))

    items-here : (bound : ℕ) (m : Memory) (seats : List Seat) (front : List (Found × List Seat)) (i : Found × List Seat) (rest : List (Found × List Seat)) → m.ahead ≡ seats → cut_from bound m seats ≡ front ++ i ∷ rest
        → IsHere (remembered bytes m front) i
    items-here zero m seats [] i rest ahead e = absurd (cc)
    items-here zero m seats (j ∷ front) i rest ahead e = absurd (cc)
    items-here (suc bound) m [] [] i rest ahead e = absurd (cc)
    items-here (suc bound) m [] (j ∷ front) i rest ahead e = absurd (cc)
    items-here (suc bound) m (s ∷ ss) [] i rest ahead e =
        let f = inline_item_at on defined bytes m (bytes_of (s ∷ ss)) in
        let first : (f, take f.size (s ∷ ss)) ≡ i = cc in
        (s, ss, ahead, subst (λ (j : Found × List Seat). j.1 ≡ take j.0.size (s ∷ ss)) first refl)
    items-here (suc bound) m (s ∷ ss) (j ∷ front) i rest ahead e =
        let f = inline_item_at on defined bytes m (bytes_of (s ∷ ss)) in
        let first : (f, take f.size (s ∷ ss)) ≡ j = cc in
        let more : cut_from bound (after_item bytes m f) (drop f.size (s ∷ ss)) ≡ front ++ i ∷ rest = cc in
        subst (λ (x : Found × List Seat). IsHere (remembered bytes (after_item bytes m x.0) front) i) first (items-here bound (after_item bytes m f) (drop f.size (s ∷ ss)) front i rest (ap (drop f.size) ahead) more)

    pub item-here : (seats : List Seat) (front : List (Found × List Seat)) (i : Found × List Seat) (rest : List (Found × List Seat)) → inline_items on defined bytes seats ≡ front ++ i ∷ rest → i.0.mark ≡ makes
        → IsHere (remembered bytes (nothing_read seats) front) i
    item-here seats [] i rest e k =
        let n = prefix_len is_white (bytes_of seats) in
        let first : white_space n ≡ i.0 = ap (λ (l : List (Found × List Seat)). first_item (white_space 0) l) e in
        absurd (let no : plain ≡ makes = ap (λ (f : Found). f.mark) first ∙ k in cc)
    item-here seats (j ∷ front) i rest e k =
        let n = prefix_len is_white (bytes_of seats) in
        let m = after_item bytes (nothing_read seats) (white_space n) in
        let first : (white_space n, take n seats) ≡ j = cc in
        let more : cut_from (length seats) m (drop n seats) ≡ front ++ i ∷ rest = cc in
        subst (λ (x : Found × List Seat). IsHere (remembered bytes (after_item bytes (nothing_read seats) x.0) front) i) first (items-here (length seats) m (drop n seats) front i rest refl more)

    pub spans-first : (seats : List Seat) (front rest : List (Found × List Seat)) → inline_items on defined bytes seats ≡ front ++ rest
        → outermost_spans (flat_map (item_events bytes) (inline_items on defined bytes seats)) ≡ outermost_spans (flat_map (item_events bytes) front) ++ outermost_spans (flat_map (item_events bytes) rest)
    spans-first seats front rest e =
        ap (λ l. outermost_spans (flat_map (item_events bytes) l)) e
        ∙ ap outermost_spans (flat_map-append (item_events bytes) front rest)
        ∙ spans-both (flat_map (item_events bytes) front) (flat_map (item_events bytes) rest) (text-read seats front rest e).balanced
