use Rattle.markdown_edits.proofs.Prelude.{◌≡◌, cond, ℕ, ◌≤◌, List, sym, ap, ◌∙◌, refl, arith, nat_cmp, BTreeMap, insert_entry, Edit, edit_at, put_by, put_before, put_after, removal_at, edits_of, Replacement}
use Rattle.markdown_edits.proofs.Results.{OnErr_from}
use Rattle.markdown_edits.proofs.Edits.Entries.{set_same, set_put, insert_put, remove-le-removal_at}
use Rattle.markdown_edits.proofs.Edits.Puts.{joined, put-joined}
use Rattle.markdown_edits.proofs.tree.Tree.add.Goals as goal
use Rattle.markdown_edits.proofs.tree.Tree.add.Goals.{in-Some-1, in-None-1}

pub add-requires : goal.add-requires
add-requires c =
    let bound : c.in-Some.there.now.remove ≤ removal_at c.args.self.now c.args.index = rw c.self.view_is at (remove-le-removal_at c.args.index c.self.inside.edits.entries c.in-Some.there.now (sym c.in-Some.ensures.value)) in
    record { sum_fits = λ some. omega (arith, bound, c.requires.sum_fits some) }

pub returns-in_err-add-in-Some-clause-err : goal.returns-in_err-add-in-Some-clause-err
returns-in_err-add-in-Some-clause-err c =
    let w : Replacement = c.add.new.self in
    let told = c.in_err-add-in-Some.ensures.err in
    OnErr_from _ _ (ap edits_of (c.get_mut.follows.holds w).0
    ∙ set_same _ c.self.inside.edits.entries c.in-Some.there.now w (sym c.in-Some.ensures.value) told.0 told.1
    ∙ c.self.view_is)

pub returns-in_ok-add-in-Some-clause-ok : goal.returns-in_ok-add-in-Some-clause-ok
returns-in_ok-add-in-Some-clause-ok c =
    let d : Edit = edit_at c.args.index c.args.remove c.args.additions.items in
    let w : Replacement = c.add.new.self in
    ap edits_of (c.get_mut.follows.holds w).0
    ∙ set_put (joined c.args.before) c.args.index c.self.inside.edits.entries c.in-Some.there.now w d c.get_mut.ensures.ordered (sym c.in-Some.ensures.value) refl c.in_ok-add-in-Some.ensures.remove c.in_ok-add-in-Some.ensures.additions
    ∙ ap (λ (es : List Edit). put_by (joined c.args.before) es d) c.self.view_is ∙ sym (put-joined c.args.before c.args.self.now d)

pub returns-in_ok-insert-in-None-clause-ok : goal.returns-in_ok-insert-in-None-clause-ok
returns-in_ok-insert-in-None-clause-ok c =
    let d : Edit = edit_at c.args.index c.args.remove c.args.additions.items in
    let made : edits_of c.insert.new.self.entries ≡ cond c.args.before (put_before c.args.self.now d) (put_after c.args.self.now d) =
    ap edits_of c.in_ok-insert-in-None.ensures.entries
    ∙ ap (λ (m : BTreeMap ℕ Replacement). edits_of (insert_entry nat_cmp m.entries c.args.index (record { remove = c.args.remove; additions = c.args.additions }))) c.get_mut.follows.holds-at-none
    ∙ insert_put (joined c.args.before) c.args.index c.self.inside.edits.entries (record { remove = c.args.remove; additions = c.args.additions }) (sym c.in-None.ensures.value)
    ∙ ap (λ (es : List Edit). put_by (joined c.args.before) es d) c.self.view_is ∙ sym (put-joined c.args.before c.args.self.now d) in
    elim c.match-branch-3.branch [ in-Some-1 w ↦ w.self-is ∙ made | in-None-1 w ↦ w.self-is ∙ made ]
