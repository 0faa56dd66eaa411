use Rattle.mdinline_characters.proofs.Prelude.{length, refl, sym, always_returns_same, slice_get_read, slice_cmp, nat_cmp}
use Rattle.mdinline_characters.proofs.Searches.{found, missing, rises}
use Rattle.mdinline_characters.proofs.find_in.Goals as goal

pub returns-in-Err : goal.returns-in-Err
returns-in-Err g c = λ sorted.
    let at = c.in-Err.ensures.position (λ y. slice_cmp nat_cmp y.0 c.args.name.now) (always_returns_same _ _ _ (λ a r f k. (k.met.0, k.met.1))) in
    sym (missing c.args.references.now c.args.name.now sorted c.in-Err.field-0 (at (rises c.args.references.now c.args.name.now sorted)))

pub returns-in_ok-reference-in-Ok : goal.returns-in_ok-reference-in-Ok
returns-in_ok-reference-in-Ok g c = λ sorted.
    let reference = c.in_ok-reference-in-Ok.reference.now in
    let at = c.in-Ok.ensures.position (λ y. slice_cmp nat_cmp y.0 c.args.name.now) (always_returns_same _ _ _ (λ a r f k. (k.met.0, k.met.1))) in
    let place = slice_get_read c.args.references.now (length c.args.references.now) c.in-Ok.index reference refl c.in-Ok.ensures.bound c.in_ok-reference-in-Ok.ensures.lookup.1 in
    sym (found c.args.references.now c.args.name.now sorted c.in-Ok.index reference at place)
