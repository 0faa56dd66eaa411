use Rattle.mddocument_editing.proofs.Prelude.{◌≡◌, ℕ, ◌+◌, ◌-◌, ◌≤◌, List, ◌++◌, length, take, drop, subst, sym, ap, ◌∙◌, arith, length-drop, take_all, drop-drop, AllByRecursion, every-drop, every-take, IfOk, part_events, IsRead, bytes_of_sections, Section, knows}
use Rattle.std.proofs.lemmas.List.{take-append-drop}
use Rattle.mddocument_editing.specs.Leading.{first_said}
use Rattle.mddocument_editing.specs.Told.{AreToldAround}
use Rattle.mddocument_editing.proofs.PutSections.{bytes-three}
use Rattle.mddocument_editing.proofs.Rereads.{none-again}
use Rattle.mddocument_editing.proofs.put.tell_other.Goals as goal

-- the first elements, those up to an index behind them, and the others
in-three : {X : Type 0} (from end : ℕ) (xs : List X) → from ≤ end → take from xs ++ (take (end - from) (drop from xs) ++ drop end xs) ≡ xs
in-three from end xs order =
    let e : from + (end - from) ≡ end = omega (arith, order) in
    ap (λ ys. take from xs ++ (take (end - from) (drop from xs) ++ ys)) (sym (drop-drop (end - from) from xs ∙ ap (λ n. drop n xs) e))
    ∙ ap (λ ys. take from xs ++ ys) (take-append-drop (end - from) (drop from xs))
    ∙ take-append-drop from xs

pub tell-requires-clause-old_front : goal.tell-requires-clause-old_front
tell-requires-clause-old_front c =
    let kept = c.args.kept.now in
    let P = IsRead kept.options (knows kept.known) in
    let xs = c.as_slice-sections.result.now in
    none-again kept.options (knows kept.known) 0 (take c.args.from xs) (every-take P c.args.from xs (subst (AllByRecursion P) (sym c.as_slice-sections.ensures.value) c.requires.kept))

pub tell-requires-clause-old_gone : goal.tell-requires-clause-old_gone
tell-requires-clause-old_gone c =
    let kept = c.args.kept.now in
    let P = IsRead kept.options (knows kept.known) in
    let xs = c.as_slice-sections.result.now in
    let size = c.args.end - c.args.from in
    none-again kept.options (knows kept.known) 0 (take size (drop c.args.from xs)) (every-take P size (drop c.args.from xs) (every-drop P c.args.from xs (subst (AllByRecursion P) (sym c.as_slice-sections.ensures.value) c.requires.kept)))

pub tell-requires-clause-old_behind : goal.tell-requires-clause-old_behind
tell-requires-clause-old_behind c =
    let kept = c.args.kept.now in
    let P = IsRead kept.options (knows kept.known) in
    let xs = c.as_slice-sections.result.now in
    let size = length xs - c.args.end in
    none-again kept.options (knows kept.known) 0 (take size (drop c.args.end xs)) (every-take P size (drop c.args.end xs) (every-drop P c.args.end xs (subst (AllByRecursion P) (sym c.as_slice-sections.ensures.value) c.requires.kept)))

pub tell-requires-clause-read : goal.tell-requires-clause-read
tell-requires-clause-read c = none-again c.args.kept.now.options (knows c.args.known.now) 0 c.args.read.now c.requires.read

pub returns : goal.returns
returns c =
    let kept = c.args.kept.now in
    let old = part_events kept.options (knows kept.known) in
    let new = part_events kept.options (knows c.args.known.now) in
    let from = c.args.from in
    let end = c.args.end in
    let n = from + length c.args.read.now in
    let read = bytes_of_sections c.args.read.now in
    let xs = kept.sections.items in
    -- what is told of these, in front and behind
    let Told : (front behind : List Section) → (before now : List (List ℕ)) → Type 0 = λ front behind before now. IfOk c.tell.result (λ told. AreToldAround new (first_said old before) (first_said new now) n front behind told.items) in
    let Of : (front gone behind : List Section) → Type 0 = λ front gone behind.
    Told front behind (bytes_of_sections front ++ (bytes_of_sections gone ++ bytes_of_sections behind)) (bytes_of_sections front ++ (read ++ bytes_of_sections behind))
    in
    let rest : take (length xs - end) (drop end xs) ≡ drop end xs = take_all (length xs - end) (drop end xs) (omega (arith, length-drop end xs)) in
    let told : Of (take from xs) (take (end - from) (drop from xs)) (drop end xs) =
    subst (Of (take from xs) (take (end - from) (drop from xs))) rest
    (subst (λ ss. Of (take from ss) (take (end - from) (drop from ss)) (take (length ss - end) (drop end ss))) c.as_slice-sections.ensures.value c.tell.ensures)
    in
    let before = sym (bytes-three (take from xs) (take (end - from) (drop from xs)) (drop end xs)) ∙ ap bytes_of_sections (in-three from end xs c.requires.order) in
    let now = sym (bytes-three (take from xs) c.args.read.now (drop end xs)) in
    subst (Told (take from xs) (drop end xs) (bytes_of_sections xs)) now
    (subst (λ bytes. Told (take from xs) (drop end xs) bytes (bytes_of_sections (take from xs) ++ (read ++ bytes_of_sections (drop end xs)))) before told)
