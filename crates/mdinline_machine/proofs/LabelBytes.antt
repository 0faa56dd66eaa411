-- The bytes that events stand for, span by span.
use Rattle.std.proofs.Common.{◌≡◌, ℕ, suc, ◌+◌, ◌-◌, ◌<◌, ◌≤◌, Bool, true, false, cond, List, [], ◌∷◌, ◌++◌, length, drop, get_or, refl, sym, ap, ◌∙◌, arith, append_assoc, length-drop, drop-cons}
use Rattle.std.proofs.lemmas.Grind.{flat_map-append}
use Rattle.std.proofs.lemmas.List.{append-nil}
use Rattle.std.specs.List.{between, flat_map}
use Rattle.markdown_base.specs.declared.event.Event.{Event}
use Rattle.markdown_base.specs.declared.event.Point.{Point}
use Rattle.markdown_base.specs.Events.{is_enter}
use Rattle.mdconstructs_machines.specs.Innermost.{ended_next, innermost_spans}
use Rattle.mdinline_machine.specs.Brackets.{spanned_bytes}

-- no span is there
abbrev no_spans : List (Point × Point)
no_spans = []

none-there : (b : Bool) → cond b no_spans no_spans ≡ no_spans
none-there true = refl
none-there false = refl

-- what one event stands for
spanned-one : (bytes : List ℕ) (e : Event) → spanned_bytes bytes (e ∷ []) ≡ []
spanned-one bytes e = ap (λ (l : List (Point × Point)). flat_map (λ (places : Point × Point). between places.0.index places.1.index bytes) (l ++ [])) (none-there (is_enter e.kind))

spanned-few : (bytes : List ℕ) (es : List Event) → length es ≤ 1 → spanned_bytes bytes es ≡ []
spanned-few bytes [] few = refl
spanned-few bytes (e ∷ []) few = spanned-one bytes e
spanned-few bytes (e ∷ f ∷ es) few = absurd (omega (arith, few))

-- what two events stand for, and those from the second on
spanned-front : (bytes : List ℕ) (e f : Event) (es : List Event) → spanned_bytes bytes (e ∷ f ∷ es) ≡ spanned_bytes bytes (e ∷ f ∷ []) ++ spanned_bytes bytes (f ∷ es)
spanned-front bytes e f es =
    let at = λ (places : Point × Point). between places.0.index places.1.index bytes in
    let here : List (Point × Point) = cond (is_enter e.kind) (ended_next e (f ∷ [])) [] in
    flat_map-append at here (innermost_spans (f ∷ es))
    ∙ ap (λ (l : List (Point × Point)). flat_map at l ++ spanned_bytes bytes (f ∷ es)) (sym (append-nil here) ∙ ap (λ (l : List (Point × Point)). here ++ (l ++ [])) (sym (none-there (is_enter f.kind))))

spanned-more : (bytes : List ℕ) (events : List Event) (n : ℕ) (d : Event) → suc n < length events
    → spanned_bytes bytes (drop n events) ≡ spanned_bytes bytes (get_or events n d ∷ get_or events (suc n) d ∷ []) ++ spanned_bytes bytes (drop (suc n) events)
spanned-more bytes events n d within =
    let first = get_or events n d in
    let second = get_or events (suc n) d in
    let behind = drop-cons events (suc n) d within in
    ap (spanned_bytes bytes) (drop-cons events n d (omega (arith, within)) ∙ ap (λ es. first ∷ es) behind) ∙ spanned-front bytes first second (drop (suc (suc n)) events)
    ∙ ap (λ es. spanned_bytes bytes (first ∷ second ∷ []) ++ spanned_bytes bytes es) (sym behind)

-- One event more was read
pub spanned-next : (bytes : List ℕ) (events : List Event) (next : ℕ) (d : Event) (old new : List ℕ) → 1 ≤ next → next < length events
    → new ≡ old ++ spanned_bytes bytes (get_or events (next - 1) d ∷ get_or events next d ∷ [])
    → old ++ spanned_bytes bytes (drop (next - 1) events) ≡ spanned_bytes bytes events
    → new ++ spanned_bytes bytes (drop (next + 1 - 1) events) ≡ spanned_bytes bytes events
spanned-next bytes events next d old new one within is before =
    let n = next - 1 in
    let same : next ≡ suc n = omega (arith, one) in
    let next_is : next + 1 - 1 ≡ suc n = omega (arith, one) in
    let less : suc n < length events = omega (arith, one, within) in
    let first = get_or events n d in
    let two = λ (m : ℕ). spanned_bytes bytes (first ∷ get_or events m d ∷ []) in
    let left = λ (m : ℕ). spanned_bytes bytes (drop m events) in
    ap (λ l. l ++ left (next + 1 - 1)) is ∙ append_assoc old (two next) (left (next + 1 - 1)) ∙ ap (λ m. old ++ (two m ++ left (next + 1 - 1))) same ∙ ap (λ m. old ++ (two (suc n) ++ left m)) next_is
    ∙ ap (λ l. old ++ l) (sym (spanned-more bytes events n d less)) ∙ before

-- all were
pub spanned-all : (bytes : List ℕ) (events : List Event) (next : ℕ) (all : List ℕ) → 1 ≤ next → length events ≤ next
    → all ++ spanned_bytes bytes (drop (next - 1) events) ≡ spanned_bytes bytes events → all ≡ spanned_bytes bytes events
spanned-all bytes events next all one past before =
    sym (append-nil all) ∙ ap (λ l. all ++ l) (sym (spanned-few bytes (drop (next - 1) events) (omega (arith, one, past, length-drop (next - 1) events)))) ∙ before
