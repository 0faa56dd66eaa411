-- Changes of the entries, as changes of what they mean.
use Rattle.markdown_edits.proofs.Prelude.{◌≡◌, ℕ, ◌+◌, ◌<◌, ◌≤◌, Bool, true, ltb, List, [], ◌∷◌, ◌++◌, Some, None, refl, arith, nat_cmp, is_at, insert_entry, lookup, set_value, keys_of, AllByRecursion, IsStrictlySortedBy, Less, lt-ltb, sorted_head, sorted_tail, Event, every-append, every-map, Edit, put_by, removal_at, as_edit, edits_of, IsAscending, Replacement, nat_tests}

less_from_cmp : (x y : ℕ) → nat_cmp x y ≡ Less → x < y
less_from_cmp x y e = grind (arith, nat_tests)

none_above : (es : List (ℕ × Replacement)) (k x : ℕ) → k < x → AllByRecursion (λ y. nat_cmp x y ≡ Less) (keys_of es) → lookup (is_at (nat_cmp k)) es ≡ None
none_above [] k x l h = refl
none_above (e ∷ es) k x l h =
    grind (arith, nat_tests, less_from_cmp x e.0 h.0, none_above es k x l h.1)

-- a value that means what the old one did
pub set_same : (test : ℕ → Bool) (es : List (ℕ × Replacement)) (v w : Replacement) → lookup test es ≡ Some v → w.remove ≡ v.remove → w.additions.items ≡ v.additions.items → edits_of (set_value test es w) ≡ edits_of es
set_same test [] v w h r a = refl
set_same test (e ∷ es) v w h r a = grind (arith, nat_tests, set_same test es v w)

-- a value changed at a key that is there
pub set_put : (f : List Event → List Event → List Event) (k : ℕ) (es : List (ℕ × Replacement)) (v w : Replacement) (d : Edit) → IsStrictlySortedBy nat_cmp (keys_of es) → lookup (is_at (nat_cmp k)) es ≡ Some v
    → d.index ≡ k → w.remove ≡ v.remove + d.remove → w.additions.items ≡ f v.additions.items d.additions → edits_of (set_value (is_at (nat_cmp k)) es w) ≡ put_by f (edits_of es) d
set_put f k [] v w d s h i r a = cc
set_put f k (e ∷ es) v w d s h i r a =
    grind (arith, nat_tests, none_above es k e.0, sorted_head nat_cmp e.0 (keys_of es) s, set_put f k es v w d (sorted_tail nat_cmp e.0 (keys_of es) s))

-- a new key
pub insert_put : (f : List Event → List Event → List Event) (k : ℕ) (es : List (ℕ × Replacement)) (w : Replacement) → lookup (is_at (nat_cmp k)) es ≡ None → edits_of (insert_entry nat_cmp es k w) ≡ put_by f (edits_of es) (as_edit (k, w))
insert_put f k [] w h = refl
insert_put f k (e ∷ es) w h = let rest = insert_put f k es w in grind (arith, nat_tests)

pub remove-le-removal_at : (k : ℕ) (es : List (ℕ × Replacement)) (v : Replacement) → lookup (is_at (nat_cmp k)) es ≡ Some v → v.remove ≤ removal_at (edits_of es) k
remove-le-removal_at k [] v h = cc
remove-le-removal_at k (e ∷ es) v h = let rest = remove-le-removal_at k es v in grind (arith, nat_tests)

keys-below : (k : ℕ) (es : List (ℕ × Replacement)) → AllByRecursion (λ y. nat_cmp k y ≡ Less) (keys_of es) → AllByRecursion (λ (d : Edit). k < d.index) (edits_of es)
keys-below k [] h = tt
keys-below k (e ∷ es) h = (less_from_cmp k e.0 h.0, keys-below k es h.1)

pub IsAscending-entries : (es : List (ℕ × Replacement)) → IsStrictlySortedBy nat_cmp (keys_of es) → IsAscending (edits_of es)
IsAscending-entries [] s = tt
IsAscending-entries (e ∷ es) s = (keys-below e.0 es (sorted_head nat_cmp e.0 (keys_of es) s), IsAscending-entries es (sorted_tail nat_cmp e.0 (keys_of es) s))

-- edits behind others ascend with them
pub IsAscending-behind : (n : ℕ) (es ds : List Edit) → AllByRecursion (λ (e : Edit). e.index < n) es → AllByRecursion (λ (d : Edit). n ≤ d.index) ds → IsAscending es → IsAscending ds → IsAscending (es ++ ds)
IsAscending-behind n [] ds h k a b = b
IsAscending-behind n (e ∷ es) ds h k a b =
    let below : e.index < n = h.0 in
    let above = every-map (λ (d : Edit). n ≤ d.index) (λ (d : Edit). e.index < d.index) (λ d m. omega arith) ds k in
    (every-append (λ (d : Edit). e.index < d.index) es ds a.0 above, IsAscending-behind n es ds h.1 k a.1 b)

head-of : (P : Edit → Type 0) (es : List Edit) (d : Edit) (ds : List Edit) → AllByRecursion P (es ++ d ∷ ds) → P d
head-of P [] d ds h = h.0
head-of P (e ∷ es) d ds h = head-of P es d ds h.1

-- the edits before one of them have smaller indices
pub below-next : (es : List Edit) (d : Edit) (ds : List Edit) → IsAscending (es ++ d ∷ ds) → AllByRecursion (λ (e : Edit). e.index < d.index) es
below-next [] d ds h = tt
below-next (e ∷ es) d ds h = (head-of (λ (x : Edit). e.index < x.index) es d ds h.0, below-next es d ds h.1)

-- a new key behind all
pub insert_behind : (k : ℕ) (es : List (ℕ × Replacement)) (w : Replacement) → AllByRecursion (λ (e : Edit). e.index < k) (edits_of es) → insert_entry nat_cmp es k w ≡ es ++ (k, w) ∷ []
insert_behind k [] w h = refl
insert_behind k (e ∷ es) w h =
    grind (arith, nat_tests, h.0, insert_behind k es w h.1)

-- a new key before all
pub insert_front : (k : ℕ) (es : List (ℕ × Replacement)) (w : Replacement) → AllByRecursion (λ (e : Edit). k < e.index) (edits_of es) → insert_entry nat_cmp es k w ≡ (k, w) ∷ es
insert_front k [] w h = refl
insert_front k (e ∷ es) w h = let a : ltb k e.0 ≡ true = lt-ltb k e.0 h.0 in rw a refl
