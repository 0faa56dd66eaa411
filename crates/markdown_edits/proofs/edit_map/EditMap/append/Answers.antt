use Rattle.markdown_edits.proofs.Prelude.{append-nil, ◌≡◌, ◌++◌, [], ◌≤◌, ◌<◌, List, append_assoc, sym, subst, ap, ◌∙◌, AllByRecursion, Edit, AreBehind, IsAscending}
use Rattle.markdown_edits.proofs.Edits.Entries.{IsAscending-behind}
use Rattle.markdown_edits.proofs.Edits.Puts.{every-last, none-below, IsAscending-last}
use Rattle.markdown_edits.proofs.edit_map.EditMap.append.Goals as goal

-- the edits of two maps ascend together
both : (es ds old more : List Edit) → es ≡ old → ds ≡ more → AreBehind old more → IsAscending es → IsAscending ds → IsAscending (es ++ ds)
both es ds old more e d b h k =
    IsAscending-behind b.0 es ds (subst (AllByRecursion (λ (x : Edit). x.index < b.0)) (sym e) b.1) (subst (AllByRecursion (λ (x : Edit). b.0 ≤ x.index)) (sym d) b.2) h k

pub invariant_of-self-then-is_empty : goal.invariant_of-self-then-is_empty
invariant_of-self-then-is_empty c =
    let front = c.self.inside.front in
    let behind = c.self.inside.behind in
    let first = c.more.inside.front in
    let second = c.more.inside.behind in
    let grown : c.append.new.self ++ c.swap.new.x ≡ (front ++ behind) ++ (first ++ second) =
    rw (c.swap.ensures.x_after, c.in_ok-append.ensures.ok.0, c.is_empty.ensures.0 c.if-is_empty.true, append-nil) (append_assoc front first second) in
    subst IsAscending (sym grown)
    (both (front ++ behind) (first ++ second) c.args.self.now c.args.more.now c.self.view_is c.more.view_is c.requires c.self.invariant c.more.invariant)

-- edits that are all in the second list
all-second : (es ds old more : List Edit) → AllByRecursion (λ (e : Edit). e.index < 0) es → es ++ ds ≡ old → old ≡ more → ds ≡ more
all-second es ds old more h e m = ap (λ fs. fs ++ ds) (sym (none-below es h)) ∙ e ∙ m

pub append-requires-2 : goal.append-requires-2
append-requires-2 c =
    let all = all-second c.sink.new.front c.sink.new.behind (c.more.inside.front ++ c.more.inside.behind) c.args.more.now c.in_ok-sink.ensures.ok c.sink.ensures.same c.more.view_is in (
      c.requires.0,
      every-last (λ (e : Edit). e.index < c.requires.0) c.self.inside.front c.self.inside.behind (subst (AllByRecursion (λ (e : Edit). e.index < c.requires.0)) (sym c.self.view_is) c.requires.1),
      subst (AllByRecursion (λ (e : Edit). c.requires.0 ≤ e.index)) (sym all) c.requires.2,
    )

pub invariant_of-self-2 : goal.invariant_of-self-2
invariant_of-self-2 c =
    let front = c.self.inside.front in
    let behind = c.self.inside.behind in
    let rest = c.sink.new.behind in
    let all = all-second c.sink.new.front rest (c.more.inside.front ++ c.more.inside.behind) c.args.more.now c.in_ok-sink.ensures.ok c.sink.ensures.same c.more.view_is in
    subst IsAscending (sym (ap (λ (es : List Edit). front ++ es) c.in_ok-append-2.ensures.ok.0 ∙ sym (append_assoc front behind rest)))
    (both (front ++ behind) rest c.args.self.now c.args.more.now c.self.view_is all c.requires c.self.invariant (IsAscending-last c.sink.new.front rest (subst IsAscending (sym c.sink.ensures.same) c.more.invariant)))

pub invariant_of-more-2 : goal.invariant_of-more-2
invariant_of-more-2 c =
    subst IsAscending (sym (ap (λ (es : List Edit). es ++ c.append-2.new.more) (none-below c.sink.new.front c.in_ok-sink.ensures.ok) ∙ c.in_ok-append-2.ensures.ok.1)) tt

pub returns-clause-ok : goal.returns-clause-ok
returns-clause-ok c =
    let front = c.self.inside.front in
    let behind = c.self.inside.behind in
    let rest = c.sink.new.behind in
    let all = all-second c.sink.new.front rest (c.more.inside.front ++ c.more.inside.behind) c.args.more.now c.in_ok-sink.ensures.ok c.sink.ensures.same c.more.view_is in
    let none : c.sink.new.front ++ c.append-2.new.more ≡ [] = ap (λ (es : List Edit). es ++ c.append-2.new.more) (none-below c.sink.new.front c.in_ok-sink.ensures.ok) ∙ c.in_ok-append-2.ensures.ok.1 in
    (ap (λ (es : List Edit). front ++ es) c.in_ok-append-2.ensures.ok.0 ∙ sym (append_assoc front behind rest) ∙ ap (λ (es : List Edit). es ++ rest) c.self.view_is ∙ ap (λ (es : List Edit). c.args.self.now ++ es) all, none)
