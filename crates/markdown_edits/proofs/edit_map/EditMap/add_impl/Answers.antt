use Rattle.markdown_edits.proofs.Prelude.{◌≡◌, ◌++◌, ◌∷◌, [], ◌≤◌, false, List, sym, subst, ap, ◌∙◌, arith, Event, Edit, edit_at, is_no_edit, removal_at, IsAscending}
use Rattle.markdown_edits.proofs.Edits.Puts.{joined, IsAscending-pushed, added-pushed, put-second, added-put, removal_at-behind, IsAscending-put, IsAscending-first}
use Rattle.markdown_edits.proofs.edit_map.EditMap.add_impl.Goals as goal

pub is_last-requires : goal.is_last-requires
is_last-requires c = IsAscending-first c.self.inside.front c.self.inside.behind c.self.invariant

pub invariant_of-self-then-is_last : goal.invariant_of-self-then-is_last
invariant_of-self-then-is_last c =
    IsAscending-pushed c.args.before c.self.inside.front c.self.inside.behind _ [] (edit_at c.args.index c.args.remove c.deref-then-is_last.result.now) c.in_ok-push.ensures.ok
    (c.is_last.ensures.none c.if-is_last.true) (c.is_last.ensures.all c.if-is_last.true) c.self.invariant

pub returns-then-is_last-clause-ok : goal.returns-then-is_last-clause-ok
returns-then-is_last-clause-ok c =
    let d : Edit = edit_at c.args.index c.args.remove c.args.additions.items in
    let some : is_no_edit d ≡ false = sym (c.is_nothing.ensures ∙ ap (λ (xs : List Event). is_no_edit (edit_at 0 c.args.remove xs)) c.deref.ensures.value) ∙ c.if-is_nothing.false in
    let push = c.in_ok-push.ensures.ok ∙ ap (λ (xs : List Event). c.self.inside.front ++ edit_at c.args.index c.args.remove xs ∷ []) c.deref-then-is_last.ensures.value in
    added-pushed c.args.before c.self.inside.front c.self.inside.behind _ _ d push (c.is_last.ensures.none c.if-is_last.true) (c.is_last.ensures.all c.if-is_last.true) c.self.view_is some

pub add-requires : goal.add-requires
add-requires c =
    let least : removal_at c.sink.new.behind c.args.index ≤ removal_at c.args.self.now c.args.index =
    subst (λ (es : List Edit). removal_at c.sink.new.behind c.args.index ≤ removal_at es c.args.index) (c.sink.ensures.same ∙ c.self.view_is) (removal_at-behind c.sink.new.front c.sink.new.behind c.args.index) in
    record { sum_fits = λ some. omega (arith, least, c.requires.sum_fits some) }

pub invariant_of-self-2 : goal.invariant_of-self-2
invariant_of-self-2 c =
    let d : Edit = edit_at c.args.index c.args.remove c.args.additions.items in
    rw (c.in_ok-add.ensures.ok, put-second c.args.before c.sink.new.front c.sink.new.behind d c.in_ok-sink.ensures.ok)
    (IsAscending-put (joined c.args.before) (c.sink.new.front ++ c.sink.new.behind) d (subst IsAscending (sym c.sink.ensures.same) c.self.invariant))

pub returns-clause-ok : goal.returns-clause-ok
returns-clause-ok c =
    let d : Edit = edit_at c.args.index c.args.remove c.args.additions.items in
    let some : is_no_edit d ≡ false =
    sym (c.is_nothing.ensures ∙ ap (λ (xs : List Event). is_no_edit (edit_at 0 c.args.remove xs)) c.deref.ensures.value) ∙ c.if-is_nothing.false in
    rw (c.in_ok-add.ensures.ok, put-second c.args.before c.sink.new.front c.sink.new.behind d c.in_ok-sink.ensures.ok, c.sink.ensures.same ∙ c.self.view_is)
    (sym (added-put c.args.before c.args.self.now d some))
