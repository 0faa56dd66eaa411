-- Sections joined and cut: what holds of sections holds of those in front and of those behind; where one bytes are a rest, so are others that begin alike.
use Rattle.mddocument_editing.proofs.Prelude.{◌≡◌, ℕ, ◌+◌, ◌<◌, ◌≤◌, Bool, true, false, List, [], ◌∷◌, ◌++◌, length, take, drop, get_or, refl, sym, ap, ◌∙◌, subst, arith, inl, inr, and_from, and_parts, cases_Bool, leb-true, le-leb, append-nil, drop_more, length-append, take-append-drop, line-ahead, begins_line, are_sections_by, document_of}
use Rattle.std.proofs.lemmas.List.{append_assoc}

-- ---- bytes

pub document-append : (xs ys : List (List ℕ)) → document_of (xs ++ ys) ≡ document_of xs ++ document_of ys
document-append [] ys = refl
document-append (x ∷ xs) ys = ap (λ bs. x ++ bs) (document-append xs ys) ∙ sym (append_assoc x (document_of xs) (document_of ys))

pub document-last : (xs : List (List ℕ)) (x : List ℕ) → document_of (xs ++ x ∷ []) ≡ document_of xs ++ x
document-last xs x = document-append xs (x ∷ []) ∙ ap (λ bs. document_of xs ++ bs) (append-nil x)

pub document-cut : (n : ℕ) (xs : List (List ℕ)) → document_of (take n xs) ++ document_of (drop n xs) ≡ document_of xs
document-cut n xs = sym (document-append (take n xs) (drop n xs)) ∙ ap document_of (take-append-drop n xs)

-- ---- sections

module _ (rest : (a b : List ℕ) → Bool) where
  -- the last section can be another, with more behind it, if it is a rest where the one was
  pub joins : (xs ys : List (List ℕ)) (v w : List ℕ) → are_sections_by rest (xs ++ v ∷ []) ≡ true → ((a : List ℕ) → rest a v ≡ true → rest a w ≡ true)
      → are_sections_by rest (w ∷ ys) ≡ true → are_sections_by rest (xs ++ w ∷ ys) ≡ true
  joins [] ys v w h same k = k
  joins (x ∷ []) ys v w h same k =
      let p = and_parts _ _ h in
      let q = and_parts _ _ p.1 in
      and_from _ _ p.0 (and_from _ _ (same x q.0) k)
  joins (x ∷ y ∷ xs) ys v w h same k =
      let p = and_parts _ _ h in
      let q = and_parts _ _ p.1 in
      and_from _ _ p.0 (and_from _ _ q.0 (joins (y ∷ xs) ys v w q.1 same k))

  pub sections-tail : (x : List ℕ) (xs : List (List ℕ)) → are_sections_by rest (x ∷ xs) ≡ true → (1 ≤ length x) × (are_sections_by rest xs ≡ true)
  sections-tail x [] h = (leb-true 1 (length x) h, refl)
  sections-tail x (y ∷ xs) h =
      let p = and_parts _ _ h in
      (leb-true 1 (length x) p.0, (and_parts _ _ p.1).1)

  pub sections-one : (x : List ℕ) → 1 ≤ length x → are_sections_by rest (x ∷ []) ≡ true
  sections-one x some = le-leb 1 (length x) some

  pub sections-front : (xs ys : List (List ℕ)) → are_sections_by rest (xs ++ ys) ≡ true → are_sections_by rest xs ≡ true
  sections-front [] ys h = refl
  sections-front (x ∷ []) ys h = sections-one x (sections-tail x ys h).0
  sections-front (x ∷ y ∷ xs) ys h =
      let p = and_parts _ _ h in
      let q = and_parts _ _ p.1 in
      and_from _ _ p.0 (and_from _ _ q.0 (sections-front (y ∷ xs) ys q.1))

  pub sections-back : (xs ys : List (List ℕ)) → are_sections_by rest (xs ++ ys) ≡ true → are_sections_by rest ys ≡ true
  sections-back [] ys h = h
  sections-back (x ∷ xs) ys h = sections-back xs ys (sections-tail x (xs ++ ys) h).1

  pub sections-take : (n : ℕ) (xs : List (List ℕ)) → are_sections_by rest xs ≡ true → are_sections_by rest (take n xs) ≡ true
  sections-take n xs h = sections-front (take n xs) (drop n xs) (subst (λ ys. are_sections_by rest ys ≡ true) (sym (take-append-drop n xs)) h)

  pub sections-drop : (n : ℕ) (xs : List (List ℕ)) → are_sections_by rest xs ≡ true → are_sections_by rest (drop n xs) ≡ true
  sections-drop n xs h = sections-back (take n xs) (drop n xs) (subst (λ ys. are_sections_by rest ys ≡ true) (sym (take-append-drop n xs)) h)

  -- each has bytes
  pub section-some : (xs : List (List ℕ)) (i : ℕ) → are_sections_by rest xs ≡ true → i < length xs → 0 < length (get_or xs i [])
  section-some xs i h lt = (sections-tail (get_or xs i []) (drop (i + 1) xs) (subst (λ ys. are_sections_by rest ys ≡ true) (drop_more xs i [] lt) (sections-drop i xs h))).0

  -- sections that are some have bytes
  pub sections-some : (xs : List (List ℕ)) → are_sections_by rest xs ≡ true → length xs ≤ length (document_of xs)
  sections-some [] h = omega arith
  sections-some (x ∷ xs) h =
      let t = sections-tail x xs h in
      omega (arith, length-append x (document_of xs), t.0, sections-some xs t.1)

  -- ---- what is a rest is told by its first line
  module _ (tells : (a b c : List ℕ) → 1 ≤ length b → begins_line c b ≡ true → begins_line b a ≡ true → rest a (b ++ c) ≡ rest a b) (begins : (a b : List ℕ) → rest a b ≡ true → begins_line b a ≡ true) where
    pub tells-all : (a b c : List ℕ) → 1 ≤ length b → begins_line c b ≡ true → rest a (b ++ c) ≡ rest a b
    tells-all a b c some line = elim (cases_Bool (begins_line b a)) [
      | inl starts ↦ tells a b c some line starts
      | inr not ↦ never (rest a (b ++ c)) (λ h. sym (line-ahead a b c some) ∙ begins a (b ++ c) h) not ∙ sym (never (rest a b) (begins a b) not)
    ]
      where
        never : (r : Bool) → (r ≡ true → begins_line b a ≡ true) → begins_line b a ≡ false → r ≡ false
        never r h not = grind (arith, h)

    -- the bytes of sections are a rest where the first of them is
    pub front-tells : (a s : List ℕ) (xs : List (List ℕ)) → are_sections_by rest (s ∷ xs) ≡ true → rest a (document_of (s ∷ xs)) ≡ rest a s
    front-tells a s [] h = ap (rest a) (append-nil s)
    front-tells a s (t ∷ xs) h =
        let p = and_parts _ _ h in
        let q = and_parts _ _ p.1 in
        let some = leb-true 1 (length s) p.0 in
        let next = (sections-tail t xs q.1).0 in
        let line : begins_line (t ++ document_of xs) s ≡ true = line-ahead s t (document_of xs) next ∙ begins s t q.0 in
        tells-all a s (t ++ document_of xs) some line

    -- sections are put behind others, if their bytes are one
    pub puts-back : (xs ys : List (List ℕ)) → are_sections_by rest xs ≡ true → are_sections_by rest ys ≡ true
        → (0 < length (document_of ys) → are_sections_by rest (xs ++ document_of ys ∷ []) ≡ true) → are_sections_by rest (xs ++ ys) ≡ true
    puts-back xs [] h k seam = subst (λ zs. are_sections_by rest zs ≡ true) (sym (append-nil xs)) h
    puts-back xs (s ∷ ys) h k seam =
        let some : 0 < length (document_of (s ∷ ys)) = omega (arith, sections-some (s ∷ ys) k) in
        joins xs ys (document_of (s ∷ ys)) s (seam some) (λ a r. sym (front-tells a s ys k) ∙ r) k

    -- and their bytes are one section behind the others
    pub gathers : (xs ys : List (List ℕ)) → are_sections_by rest (xs ++ ys) ≡ true → 0 < length ys → are_sections_by rest (xs ++ document_of ys ∷ []) ≡ true
    gathers xs [] h some = absurd (omega arith)
    gathers xs (s ∷ ys) h some =
        let back = sections-back xs (s ∷ ys) h in
        let first : are_sections_by rest (xs ++ s ∷ []) ≡ true = sections-front (xs ++ s ∷ []) ys (subst (λ zs. are_sections_by rest zs ≡ true) (sym (append_assoc xs (s ∷ []) ys)) h) in
        joins xs [] s (document_of (s ∷ ys)) first (λ a r. front-tells a s ys back ∙ r) (sections-one (document_of (s ∷ ys)) (omega (arith, sections-some (s ∷ ys) back)))

    -- where two lists of sections end with the same bytes, the one goes on as the other
    pub meets : (xs zs ws more : List (List ℕ)) → are_sections_by rest (xs ++ zs) ≡ true → are_sections_by rest (ws ++ more) ≡ true → document_of zs ≡ document_of ws → 0 < length ws
        → are_sections_by rest (xs ++ (ws ++ more)) ≡ true
    meets xs zs [] more h k same some = absurd (omega arith)
    meets xs [] (s ∷ ws) more h k same some =
        let front = sections-front (s ∷ ws) more k in
        absurd (omega (arith, ap length same, sections-some (s ∷ ws) front))
    meets xs (q ∷ zs) (s ∷ ws) more h k same some =
        let ours = sections-back xs (q ∷ zs) h in
        let theirs = sections-front (s ∷ ws) more k in
        let first : are_sections_by rest (xs ++ q ∷ []) ≡ true = sections-front (xs ++ q ∷ []) zs (subst (λ ys. are_sections_by rest ys ≡ true) (sym (append_assoc xs (q ∷ []) zs)) h) in
        joins xs (ws ++ more) q s first (λ a r. sym (front-tells a s ws theirs) ∙ ap (rest a) (sym same) ∙ front-tells a q zs ours ∙ r) k
