use Rattle.markdown_edits.proofs.Prelude.{◌++◌, ◌∷◌, [], length, take, append_assoc, sym, ap, subst, ◌∙◌, arith, deref_pair, length-map, length_push, take-append-le, take-map, rest_more, Edit, as_edit, edits_of, IsAscending}
use Rattle.markdown_edits.proofs.Results.{OnErr-holds, OnOk-holds}
use Rattle.markdown_edits.proofs.Edits.Entries.{IsAscending-entries, IsAscending-behind, below-next}
use Rattle.markdown_edits.proofs.tree.push_copies.Goals as goal

pub push_copy-requires : goal.push_copy-requires
push_copy-requires c =
    let old = edits_of c.args.edits.now.entries in
    let more = edits_of c.args.more.now.entries in
    let here = edits_of c.loop-index.edits.entries in
    let next : Edit = as_edit (c.in-Some.index.now, c.in-Some.edit.now) in
    let all : IsAscending (old ++ more) =
    IsAscending-behind c.requires.0 old more c.requires.1 c.requires.2 (IsAscending-entries c.args.edits.now.entries c.len-len.ensures.ordered) (IsAscending-entries c.args.more.now.entries c.into_iter-index-iterator.ensures.into_iter_gives.5) in
    let turn = rest_more deref_pair c.loop-index.index-iterator c.next.new.self c.next.result (c.in-Some.index, c.in-Some.edit) c.in-Some.is c.next.ensures.steps in
    below-next here next (edits_of c.next.new.self) (subst IsAscending (sym c.loop-index.invariant.built ∙ ap (λ es. here ++ edits_of es) turn) all)

pub loop-index-preserved : goal.loop-index-preserved
loop-index-preserved c =
    let i = c.loop-index.invariant in
    let turn = rest_more deref_pair c.loop-index.index-iterator c.next.new.self c.next.result (c.in-Some.index, c.in-Some.edit) c.in-Some.is c.next.ensures.steps in
    let es = c.loop-index.edits.entries in
    let next : Edit = as_edit (c.in-Some.index.now, c.in-Some.edit.now) in
    let made = OnOk-holds c.push_copy.result _ (sym c.is_err.ensures.value ∙ c.if-is_err.false) c.push_copy.ensures.ok in
    record {
      built = ap (λ ds. ds ++ edits_of c.next.new.self) made ∙ append_assoc (edits_of es) (next ∷ []) (edits_of c.next.new.self) ∙ ap (λ ds. edits_of es ++ edits_of ds) (sym turn) ∙ i.built;
      front = ap (take c.len-len.result) made ∙ take-append-le c.len-len.result (edits_of es) (next ∷ []) (omega (arith, length-map es as_edit, i.room)) ∙ i.front;
      room = omega (arith, length-map es as_edit, length-map c.push_copy.new.edits.entries as_edit, ap length made, length_push (edits_of es) next, i.room);
    }

pub returns-then-is_err-clause-err : goal.returns-then-is_err-clause-err
returns-then-is_err-clause-err c =
    let same = OnErr-holds c.push_copy.result _ (sym c.is_err.ensures.value ∙ c.if-is_err.true) c.push_copy.ensures.err in
    ap edits_of (c.truncate.ensures ∙ ap (take c.len-len.result) same) ∙ sym (take-map as_edit c.len-len.result c.loop-index.edits.entries) ∙ c.loop-index.invariant.front
