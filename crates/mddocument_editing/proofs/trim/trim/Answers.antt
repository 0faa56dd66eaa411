use Rattle.mddocument_editing.proofs.Prelude.{◌≡◌, ◌+◌, ◌-◌, ◌≤◌, ◌++◌, ℕ, length, take, drop, subst, sym, ap, ◌∙◌, arith, drop-map, length-map, take-map, Global, Vec, IsDivided, items_of, bytes_of_sections, StayBehind, StayInFront, Section}
use Rattle.mddocument_editing.proofs.Trims.{left-order, left-same, left-trimmed, left-within}
use Rattle.mddocument_editing.proofs.trim.trim.Goals as goal
use Rattle.mddocument_editing.proofs.trim.trim.Goals.{After-truncate}

in-front : (c : After-truncate) → StayInFront (bytes_of_sections c.args.kept.now.sections.items) c.args.recut.from c.args.recut.end (items_of c.args.recut.parts.items) c.stay_in_front-some.result
in-front c =
    subst (λ ss. StayInFront (bytes_of_sections ss) c.args.recut.from c.args.recut.end (items_of c.args.recut.parts.items) c.stay_in_front-some.result) c.as_slice-sections.ensures.value
    (subst (λ parts. StayInFront (bytes_of_sections c.as_slice-sections.result.now) c.args.recut.from c.args.recut.end (items_of parts) c.stay_in_front-some.result) c.as_slice.ensures.value
    c.stay_in_front-some.ensures)

left-are : (c : After-truncate) → items_of c.leave_out.new.parts.items ≡ drop c.stay_in_front-some.result (items_of c.args.recut.parts.items)
left-are c = ap items_of c.leave_out.ensures ∙ sym (drop-map (λ (part : Vec ℕ Global). part.items) c.stay_in_front-some.result c.args.recut.parts.items)

at-back : (c : After-truncate) → StayBehind (bytes_of_sections c.args.kept.now.sections.items) (c.args.recut.from + c.stay_in_front-some.result) c.args.recut.end
    (drop c.stay_in_front-some.result (items_of c.args.recut.parts.items)) c.stay_behind-few.result
at-back c =
    let from = c.args.recut.from + c.stay_in_front-some.result in
    subst (λ ss. StayBehind (bytes_of_sections ss) from c.args.recut.end (drop c.stay_in_front-some.result (items_of c.args.recut.parts.items)) c.stay_behind-few.result) c.as_slice-sections.ensures.value
    (subst (λ parts. StayBehind (bytes_of_sections c.as_slice-sections.result.now) from c.args.recut.end parts c.stay_behind-few.result) (ap items_of c.as_slice-2.ensures.value ∙ left-are c)
    c.stay_behind-few.ensures)

now-are : (c : After-truncate) → let left = drop c.stay_in_front-some.result (items_of c.args.recut.parts.items) in items_of c.truncate.new.self.items ≡ take (length left - c.stay_behind-few.result) left
now-are c =
    let few = c.stay_behind-few.result in
    let rest = c.leave_out.new.parts in
    let item = λ (part : Vec ℕ Global). part.items in
    let len : c.len.result ≡ length (items_of rest.items) = c.len.ensures ∙ rest.ok.0 ∙ sym (length-map rest.items item) in
    ap items_of c.truncate.ensures.items ∙ sym (take-map item (c.len.result - few) rest.items) ∙ ap (λ n. take (n - few) (items_of rest.items)) len
    ∙ ap (λ left. take (length left - few) left) (left-are c)

within-is : (c : After-truncate) → c.args.recut.end ≤ length (bytes_of_sections c.args.kept.now.sections.items)
within-is c = let long = length-map c.args.kept.now.sections.items (λ (section : Section). section.part.bytes.items) in omega (arith, long, c.requires.within)

same-is : (c : After-truncate) → let xs = bytes_of_sections c.args.kept.now.sections.items in
    take (c.args.recut.from + c.stay_in_front-some.result) xs ++ (items_of c.truncate.new.self.items ++ drop (c.args.recut.end - c.stay_behind-few.result) xs)
    ≡ take c.args.recut.from xs ++ (items_of c.args.recut.parts.items ++ drop c.args.recut.end xs)
same-is c =
    let sections = c.args.kept.now.sections.items in
    left-same (bytes_of_sections sections) (items_of c.args.recut.parts.items) (items_of c.truncate.new.self.items) c.args.recut.from c.args.recut.end c.stay_in_front-some.result c.stay_behind-few.result
    (within-is c) (in-front c) (at-back c) (now-are c)

pub returns-clause-same : goal.returns-clause-same
returns-clause-same c = same-is (goal.at.returns-clause-same c).After-truncate

pub returns-clause-recut : goal.returns-clause-recut
returns-clause-recut c =
    let at = (goal.at.returns-clause-recut c).After-truncate in
    let kept = c.args.kept.now in
    let xs = bytes_of_sections kept.sections.items in
    let long = length-map kept.sections.items (λ (section : Section). section.part.bytes.items) in
    let some = c.stay_in_front-some.result in
    let few = c.stay_behind-few.result in
    let parts = items_of c.args.recut.parts.items in
    let now = items_of c.truncate.new.self.items in
    let within = left-within xs parts now c.args.recut.from c.args.recut.end some few (within-is at) (in-front at) (at-back at) (now-are at) in
    record {
      order = left-order xs parts now c.args.recut.from c.args.recut.end some few (within-is at) (in-front at) (at-back at) (now-are at);
      within = omega (arith, within, long);
      divided = subst (λ sections. IsDivided (record { options = kept.options; sections = sections })) (sym (same-is at)) c.requires.divided;
    }

pub returns-clause-trimmed : goal.returns-clause-trimmed
returns-clause-trimmed c =
    let at = (goal.at.returns-clause-trimmed c).After-truncate in
    left-trimmed (bytes_of_sections c.args.kept.now.sections.items) (items_of c.args.recut.parts.items) (items_of c.truncate.new.self.items) c.args.recut.from c.args.recut.end c.stay_in_front-some.result
    c.stay_behind-few.result (within-is at) (in-front at) (at-back at) (now-are at)
