-- No number of a call is more than there are calls, so that it has no more digits.
use Rattle.std.proofs.Common.{ℕ, suc, ◌<◌, ◌≤◌, Bool, true, false, cond, List, [], ◌∷◌, ◌++◌, length, Option, None, Some, subst, arith}
use Rattle.std.proofs.lemmas.Fmt.{length-decimal-le}
use Rattle.std.proofs.lemmas.List.{length-append, length-map, length-reverse}
use Rattle.std.specs.Fmt.{decimal}
use Rattle.std.specs.Prelude.{◌==◌, ◌^◌, IfSome, bytes_eq, reverse}
use Rattle.markdown_base.specs.declared.event.Event.{Event}
use Rattle.mdhtml_document.specs.declared.notes.Called.{Called}
use Rattle.mdhtml_document.specs.Html.{known_in}
use Rattle.mdhtml_document.specs.HtmlLaws.{AreBrief}
use Rattle.mdhtml_document.specs.Notes.{called_at, calls_in, is_among, labels_of, last_call, next_call, notes_of}

record IsUpTo (most : ℕ) (c : Called) : Type 0 where
  number : c.number ≤ most
  repeat : c.repeat ≤ most

abbrev IsUpToIfSome : (most : ℕ) → Option Called → Type 0
IsUpToIfSome most o = IfSome o (IsUpTo most)

few-by : (c : Bool) (l : List ℕ) (ls : List (List ℕ)) (n : ℕ) → length ls ≤ n → length (cond c ls (ls ++ l ∷ [])) ≤ suc n
few-by true l ls n h = omega (arith, h)
few-by false l ls n h = let all = length-append ls (l ∷ []) in omega (arith, all, h)

pub notes-few : (labels : List (List ℕ)) → length (notes_of labels) ≤ length labels
notes-few [] = omega arith
notes-few (l ∷ ls) = few-by (is_among l ls) l (notes_of ls) (length ls) (notes-few ls)

next-few : (last : Option Called) (notes most : ℕ) → IsUpToIfSome most last → notes ≤ most → IsUpTo (suc most) (next_call last notes)
next-few None notes most h few = record { number = omega (arith, few); repeat = omega arith }
next-few (Some c) notes most h few =
    let number = h.number in
    let repeat = h.repeat in
    record { number = omega (arith, number); repeat = omega (arith, repeat) }

more : (most : ℕ) (o : Option Called) → IsUpToIfSome most o → IsUpToIfSome (suc most) o
more most None h = tt
more most (Some c) h =
    let number = h.number in
    let repeat = h.repeat in
    record { number = omega (arith, number); repeat = omega (arith, repeat) }

either : (b : Bool) (o p : Option Called) (most : ℕ) → IsUpToIfSome most o → IsUpToIfSome most p → IsUpToIfSome most (cond b o p)
either true o p most h k = h
either false o p most h k = k

last-few : (label : List ℕ) (labels : List (List ℕ)) → IsUpToIfSome (length labels) (last_call label labels)
last-few label [] = tt
last-few label (l ∷ ls) =
    let last = last-few label ls in
    either (bytes_eq label l) (Some (next_call (last_call label ls) (length (notes_of ls)))) (last_call label ls) (suc (length ls))
    (next-few (last_call label ls) (length (notes_of ls)) (length ls) last (notes-few ls)) (more (length ls) (last_call label ls) last)

called-few : (calls : List (ℕ × List ℕ)) (place : ℕ) → IsUpToIfSome (length calls) (called_at calls place)
called-few [] place = tt
called-few (c ∷ cs) place =
    let same = length-map (c ∷ cs) (λ (d : ℕ × List ℕ). d.1) in
    either (place == c.0) (last_call c.1 (labels_of (c ∷ cs))) (called_at cs place) (suc (length cs))
    (subst (λ n. IsUpToIfSome n (last_call c.1 (labels_of (c ∷ cs)))) same (last-few c.1 (labels_of (c ∷ cs)))) (more (length cs) (called_at cs place) (called-few cs place))

below : (n most limit : ℕ) → n ≤ most → most < limit → n < limit
below n most limit h k = omega (arith, h, k)

-- numbers up to one that has no more digits than these
pub digits-few : (digits most : ℕ) → 0 < digits → most < 10 ^ digits → most < 2 ^ 64 → (n : ℕ) → n ≤ most → length (decimal n) ≤ digits
digits-few digits most some few fits n h = length-decimal-le digits n some (below n most (10 ^ digits) h few) (below n most (2 ^ 64) h fits)

pub calls-brief : (bytes : List ℕ) (events : List Event) (digits : ℕ) → 0 < digits → length (calls_in bytes events) < 10 ^ digits → length (calls_in bytes events) < 2 ^ 64
    → AreBrief digits (known_in bytes events)
calls-brief bytes events digits some few fits place c is =
    let calls = calls_in bytes events in
    let last : IsUpTo (length (reverse calls)) c = subst (IsUpToIfSome (length (reverse calls))) is (called-few (reverse calls) place) in
    let all : IsUpTo (length calls) c = subst (λ n. IsUpTo n c) (length-reverse calls) last in
    record { number = digits-few digits (length calls) some few fits c.number all.number; repeat = digits-few digits (length calls) some few fits c.repeat all.repeat }
