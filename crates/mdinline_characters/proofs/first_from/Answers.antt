use Rattle.mdinline_characters.proofs.Prelude.{◌≡◌, ◌∙◌, refl, ap, length, ◌+◌, ◌++◌, [], ◌∷◌, take, sym, List, ℕ, Ordering, Less, Equal, Greater, Some, false, ltb-false, ltb-true, always_returns_same, length-append, slice_get_read, slice_cmp, option_copied, is_eq, is_lt, nat_cmp}
use Rattle.mdinline_characters.proofs.Fronts.{parted, none-at-end, first-there, none-there}
use Rattle.mdinline_characters.proofs.first_from.Goals as goal

not-equal : (o : Ordering) → (o ≡ Equal → ⊥) → is_eq o ≡ false
not-equal Less h = refl
not-equal Equal h = absurd (h refl)
not-equal Greater h = refl

pub returns-in_err-reference : goal.returns-in_err-reference
returns-in_err-reference g c = λ sorted.
    let s = c.args.start.now ++ (c.args.next ∷ []) in
    let k = length c.args.start.now + 1 in
    let size = length-append c.args.start.now (c.args.next ∷ []) in
    let parts = c.partition_point.ensures.partitioned (λ y. is_lt (slice_cmp nat_cmp (take k y.0) s)) (always_returns_same _ _ _ (λ a r f k. (k.met.0, k.met.1))) (parted c.args.references.now s k size sorted) in
    ap option_copied c.from_residual.ensures ∙ sym (none-at-end c.args.references.now s k size sorted c.partition_point.result parts (ltb-false c.partition_point.result (length c.args.references.now) (sym c.in_err-reference.ensures.lookup.0)))

pub returns-in-Equal : goal.returns-in-Equal
returns-in-Equal g c = λ sorted.
    let s = c.args.start.now ++ (c.args.next ∷ []) in
    let k = length c.args.start.now + 1 in
    let size = length-append c.args.start.now (c.args.next ∷ []) in
    let parts = c.partition_point.ensures.partitioned (λ y. is_lt (slice_cmp nat_cmp (take k y.0) s)) (always_returns_same _ _ _ (λ a r f k. (k.met.0, k.met.1))) (parted c.args.references.now s k size sorted) in
    let reference = c.in_ok-reference.reference.now in
    let place = slice_get_read c.args.references.now (length c.args.references.now) c.partition_point.result reference refl (ltb-true c.partition_point.result (length c.args.references.now) (sym c.in_ok-reference.ensures.lookup.0)) c.in_ok-reference.ensures.lookup.1 in
    let here = ap (λ (n : List ℕ). slice_cmp nat_cmp (take k n) s) (sym c.as_slice-name.ensures) ∙ sym c.in-Equal.ensures in
    ap (λ (n : List ℕ). Some n) c.as_slice-name.ensures ∙ sym (first-there c.args.references.now s k size sorted c.partition_point.result parts reference place here)

pub returns-in_default : goal.returns-in_default
returns-in_default g c = λ sorted.
    let s = c.args.start.now ++ (c.args.next ∷ []) in
    let k = length c.args.start.now + 1 in
    let size = length-append c.args.start.now (c.args.next ∷ []) in
    let parts = c.partition_point.ensures.partitioned (λ y. is_lt (slice_cmp nat_cmp (take k y.0) s)) (always_returns_same _ _ _ (λ a r f k. (k.met.0, k.met.1))) (parted c.args.references.now s k size sorted) in
    let reference = c.in_ok-reference.reference.now in
    let place = slice_get_read c.args.references.now (length c.args.references.now) c.partition_point.result reference refl (ltb-true c.partition_point.result (length c.args.references.now) (sym c.in_ok-reference.ensures.lookup.0)) c.in_ok-reference.ensures.lookup.1 in
    let other : is_eq c.order_of_front.result ≡ false = not-equal c.order_of_front.result c.in_default.not-Equal in
    let differs = ap (λ (n : List ℕ). is_eq (slice_cmp nat_cmp (take k n) s)) (sym c.as_slice-name.ensures) ∙ ap is_eq (sym c.order_of_front.ensures) ∙ other in
    sym (none-there c.args.references.now s k size sorted c.partition_point.result parts reference place differs)
