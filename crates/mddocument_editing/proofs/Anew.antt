-- A line that begins anew, by its parts.
use Rattle.mddocument_editing.proofs.Prelude.{◌≡◌, ℕ, Bool, List, [], ◌∷◌, length, refl, sym, ◌∙◌, arith, nat_tests, ◌==◌, not, Constructs, Line, text_of, line_kind, has_none, IsRow, begun_of, Row as CodeRow, Known, row_of, begins_anew, is_closed, joins_list, begins_near, ◌&&◌}

none-long : {A : Type 0} (xs : List A) → (length xs == 0) ≡ has_none xs
none-long [] = refl
none-long (x ∷ xs) = grind (arith, nat_tests)

-- the same tests, one after another
turned : (a b c : Bool) → ((a && b) && c) ≡ (a && (c && b))
turned a b c = grind arith

pub anew-is : (on : Constructs) (k : Known) (number : ℕ) (line : Line) (row : CodeRow) (closed alone near : Bool) → is_closed k.before.leaf ≡ closed → IsRow number row (row_of on k number line)
    → alone ≡ (closed && ((row.many == 0) && not (joins_list k.before.stack (begun_of row.list number row.begun.items)))) → near ≡ begins_near (line_kind on (text_of line)) → (alone && near) ≡ begins_anew on k number line
anew-is on k number line row closed alone near ec is ea en =
    let r = row_of on k number line in
    (λ i. ea i && near)
    ∙ (λ i. (sym ec i && ((is.many i == 0) && not (joins_list k.before.stack (is.begun i)))) && en i)
    ∙ (λ i. (is_closed k.before.leaf && (none-long r.went_on i && not (joins_list k.before.stack r.begun))) && begins_near (line_kind on (text_of line)))
    ∙ turned (is_closed k.before.leaf) (has_none r.went_on && not (joins_list k.before.stack r.begun)) (begins_near (line_kind on (text_of line)))
