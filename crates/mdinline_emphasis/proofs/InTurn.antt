-- `paired` gives what reading the runs in turn gives.
--
-- In turn, a pair changes two runs in their places; a delimiter on the stack stands for a run that waits, with as many markers left.
use Rattle.mdinline_emphasis.proofs.Prelude.{◌≡◌, ◌≢◌, ℕ, zero, suc, ◌+◌, ◌-◌, ◌<◌, ◌≤◌, Bool, true, false, cond, List, [], ◌∷◌, ◌++◌, Option, Some, None, inl, inr, map, length, refl, sym, ap, ◌∙◌, subst, arith, append_assoc, append-nil, length-append, ◌==◌, ◌&&◌, ◌⊎◌, nat_lt, reverse, filter, and_parts, eqb-true, eq-eqb, ne_eqb, map-append, reverse-append, filter-append, Run, Pair, Delimiter, may_pair, markers_of, markers_of_all, opens_yet, closes_yet, gave, on_stack, look_back, close_pairs, pairs_from, styles, in_lists, in_pairs, all_in_pairs, paired, Waiting, SoFar, Found, opening, closing, put_behind, put, put_back, last_fitting, close, in_turn_from, all_waiting, all_runs, none_read, paired_in_turn, Style, style_of}

-- ---- a pair more

-- a run with a pair more, if it is one of its two
abbrev in_pair : Pair → ℕ → Run → Run
in_pair p n r = cond (p.opener == n) (opening p.style r) (cond (p.closer == n) (closing p.style r) r)

abbrev add_pair : Pair → ℕ → List Run → List Run
add_pair p n [] = []
add_pair p n (r ∷ rs) = in_pair p n r ∷ add_pair p (n + 1) rs

pub markers-more : (ss : List Style) (s : Style) → markers_of_all (ss ++ s ∷ []) ≡ markers_of_all ss + markers_of s
markers-more [] s = omega arith
markers-more (t ∷ ss) s = let more = markers-more ss s in omega (arith, more)

abbrev one_if : (b : Bool) (s : Style) → List Style
one_if b s = cond b (s ∷ []) []

styles-more : (takes : Pair → Bool) (ps : List Pair) (p : Pair) → styles takes (ps ++ p ∷ []) ≡ styles takes ps ++ one_if (takes p) p.style
styles-more takes ps p =
    ap (map (λ (q : Pair). q.style)) (filter-append takes ps (p ∷ [])) ∙ map-append (λ (q : Pair). q.style) (filter takes ps) (filter takes (p ∷ []))
    ∙ ap (λ xs. styles takes ps ++ xs) (one (takes p))
  where
    one : (b : Bool) → map (λ (q : Pair). q.style) (cond b (p ∷ []) []) ≡ one_if b p.style
    one true = refl
    one false = refl

abbrev parts : Run → List Style → ℕ → List Style → Run
parts r cs n os = record r { closed = cs; left = n; opened = os }

parts-same : (r : Run) (cs cs' : List Style) (n n' : ℕ) (os os' : List Style) → cs ≡ cs' → n ≡ n' → os ≡ os' → parts r cs n os ≡ parts r cs' n' os'
parts-same r cs cs' n n' os os' e f g = ap (λ x. parts r x n os) e ∙ ap (λ x. parts r cs' x os) f ∙ ap (parts r cs' n') g

in-lists-more : (a b : Bool) (s : Style) (r : Run) (cs os : List Style) → (a ≡ true → b ≡ true → ⊥)
    → in_lists r (cs ++ one_if b s) (os ++ one_if a s) ≡ cond a (opening s (in_lists r cs os)) (cond b (closing s (in_lists r cs os)) (in_lists r cs os))
in-lists-more true true s r cs os both = absurd (both refl refl)
in-lists-more true false s r cs os both =
    let none = ap markers_of_all (append-nil cs) in
    let more = markers-more os s in
    parts-same r _ _ _ _ _ _ (ap (λ xs. r.closed ++ xs) (append-nil cs)) (omega (arith, none, more)) (ap (λ xs. xs ++ r.opened) (reverse-append os (s ∷ [])))
in-lists-more false true s r cs os both =
    let none = ap markers_of_all (append-nil os) in
    let more = markers-more cs s in
    parts-same r _ _ _ _ _ _ (sym (append_assoc r.closed cs (s ∷ []))) (omega (arith, none, more)) (ap (λ xs. reverse xs ++ r.opened) (append-nil os))
in-lists-more false false s r cs os both = ap (λ xs. in_lists r xs (os ++ [])) (append-nil cs) ∙ ap (in_lists r cs) (append-nil os)

in-pairs-more : (p : Pair) (ps : List Pair) (n : ℕ) (r : Run) → p.opener ≢ p.closer → in_pairs (ps ++ p ∷ []) n r ≡ in_pair p n (in_pairs ps n r)
in-pairs-more p ps n r differ =
    let cs = styles (λ q. q.closer == n) ps in
    let os = styles (λ q. q.opener == n) ps in
    ap (λ xs. in_lists r xs (styles (λ q. q.opener == n) (ps ++ p ∷ []))) (styles-more (λ q. q.closer == n) ps p)
    ∙ ap (in_lists r (cs ++ one_if (p.closer == n) p.style)) (styles-more (λ q. q.opener == n) ps p)
    ∙ in-lists-more (p.opener == n) (p.closer == n) p.style r cs os (λ h k. differ (eqb-true p.opener n h ∙ sym (eqb-true p.closer n k)))

all-more : (p : Pair) (ps : List Pair) (n : ℕ) (rs : List Run) → p.opener ≢ p.closer → all_in_pairs (ps ++ p ∷ []) n rs ≡ add_pair p n (all_in_pairs ps n rs)
all-more p ps n [] differ = refl
all-more p ps n (r ∷ rs) differ =
    ap (λ x. x ∷ all_in_pairs (ps ++ p ∷ []) (n + 1) rs) (in-pairs-more p ps n r differ) ∙ ap (λ xs. in_pair p n (in_pairs ps n r) ∷ xs) (all-more p ps (n + 1) rs differ)

in-no-pairs : (n : ℕ) (rs : List Run) → all_in_pairs [] n rs ≡ rs
in-no-pairs n [] = refl
in-no-pairs n (r ∷ rs) =
    ap (λ x. x ∷ all_in_pairs [] (n + 1) rs) (parts-same r _ r.closed _ r.left _ r.opened (append-nil r.closed) (omega arith) refl) ∙ ap (λ xs. r ∷ xs) (in-no-pairs (n + 1) rs)

length-in-pairs : (ps : List Pair) (n : ℕ) (rs : List Run) → length (all_in_pairs ps n rs) ≡ length rs
length-in-pairs ps n [] = refl
length-in-pairs ps n (r ∷ rs) = ap suc (length-in-pairs ps (n + 1) rs)

-- ---- it changes two runs in their places

add-append : (p : Pair) (n : ℕ) (xs ys : List Run) → add_pair p n (xs ++ ys) ≡ add_pair p n xs ++ add_pair p (n + length xs) ys
add-append p n [] ys = let same : n ≡ n + 0 = omega arith in ap (λ k. add_pair p k ys) same
add-append p n (x ∷ xs) ys =
    let same : (n + 1) + length xs ≡ n + suc (length xs) = omega arith in
    ap (λ zs. in_pair p n x ∷ zs) (add-append p (n + 1) xs ys ∙ ap (λ k. add_pair p (n + 1) xs ++ add_pair p k ys) same)

-- a number is not among so many from a number on
abbrev IsOutside : (k n many : ℕ) → Type 0
IsOutside k n many = (k < n) ⊎ (n + many ≤ k)

outside-first : (k n many : ℕ) → IsOutside k n (suc many) → (k == n) ≡ false
outside-first k n many (inl h) = ne_eqb k n (λ e. omega (arith, e, h))
outside-first k n many (inr h) = ne_eqb k n (λ e. omega (arith, e, h))

outside-others : (k n many : ℕ) → IsOutside k n (suc many) → IsOutside k (n + 1) many
outside-others k n many (inl h) = inl (omega (arith, h))
outside-others k n many (inr h) = inr (omega (arith, h))

add-outside : (p : Pair) (n : ℕ) (xs : List Run) → IsOutside p.opener n (length xs) → IsOutside p.closer n (length xs) → add_pair p n xs ≡ xs
add-outside p n [] h k = refl
add-outside p n (x ∷ xs) h k =
    ap (λ b. cond b (opening p.style x) (cond (p.closer == n) (closing p.style x) x) ∷ add_pair p (n + 1) xs) (outside-first p.opener n (length xs) h)
    ∙ ap (λ b. cond b (closing p.style x) x ∷ add_pair p (n + 1) xs) (outside-first p.closer n (length xs) k)
    ∙ ap (λ zs. x ∷ zs) (add-outside p (n + 1) xs (outside-others p.opener n (length xs) h) (outside-others p.closer n (length xs) k))

pair-in-places : (p : Pair) (before behind rest : List Run) (o r : Run) → p.opener ≡ length before → p.closer ≡ length (before ++ o ∷ behind)
    → add_pair p 0 (before ++ o ∷ (behind ++ r ∷ rest)) ≡ before ++ opening p.style o ∷ (behind ++ closing p.style r ∷ rest)
pair-in-places p before behind rest o r opener closer =
    let long = length-append before (o ∷ behind) in
    let i = 0 + length before in
    let j = (i + 1) + length behind in
    let at_o : p.opener ≡ i = omega (arith, opener) in
    let at_r : p.closer ≡ j = omega (arith, closer, long) in
    let first : add_pair p 0 before ≡ before = add-outside p 0 before (inr (omega (arith, at_o))) (inr (omega (arith, at_r))) in
    let opens : in_pair p i o ≡ opening p.style o = ap (λ b. cond b (opening p.style o) (cond (p.closer == i) (closing p.style o) o)) (eq-eqb p.opener i at_o) in
    let between : add_pair p (i + 1) behind ≡ behind = add-outside p (i + 1) behind (inl (omega (arith, at_o))) (inr (omega (arith, at_r))) in
    let closes : in_pair p j r ≡ closing p.style r =
    ap (λ b. cond b (opening p.style r) (cond (p.closer == j) (closing p.style r) r)) (ne_eqb p.opener j (λ e. omega (arith, at_o, e)))
    ∙ ap (λ b. cond b (closing p.style r) r) (eq-eqb p.closer j at_r) in
    let others : add_pair p (j + 1) rest ≡ rest = add-outside p (j + 1) rest (inl (omega (arith, at_o))) (inl (omega (arith, at_r))) in
    add-append p 0 before (o ∷ (behind ++ r ∷ rest))
    ∙ ap (λ xs. xs ++ (in_pair p i o ∷ add_pair p (i + 1) (behind ++ r ∷ rest))) first
    ∙ ap (λ x. before ++ x ∷ add_pair p (i + 1) (behind ++ r ∷ rest)) opens
    ∙ ap (λ xs. before ++ opening p.style o ∷ xs)
    (add-append p (i + 1) behind (r ∷ rest) ∙ ap (λ xs. xs ++ (in_pair p j r ∷ add_pair p (j + 1) rest)) between
    ∙ ap (λ x. behind ++ x ∷ add_pair p (j + 1) rest) closes ∙ ap (λ xs. behind ++ closing p.style r ∷ xs) others)

-- ---- runs that were read in turn

pub all-put_behind : (rs base : List Run) (ws : List Waiting) → all_runs (put_behind rs base ws) ≡ (base ++ all_waiting ws) ++ rs
all-put_behind rs base [] = append-nil (base ++ rs) ∙ ap (λ xs. xs ++ rs) (sym (append-nil base))
all-put_behind rs base (w ∷ ws) =
    ap (λ xs. base ++ xs) (sym (append_assoc (all_waiting ws) (w.opener ∷ w.behind) rs)) ∙ sym (append_assoc base (all_waiting ws ++ w.opener ∷ w.behind) rs)

-- the runs of what waits, and those behind it, after it was put back
pub all-put_back : (b : Bool) (base : List Run) (w : Waiting) (ws : List Waiting)
    → all_runs (cond b (record { base = base; waiting = w ∷ ws }) (put_behind (w.opener ∷ w.behind) base ws)) ≡ (base ++ all_waiting ws) ++ w.opener ∷ w.behind
all-put_back true base w ws = sym (append_assoc base (all_waiting ws) (w.opener ∷ w.behind))
all-put_back false base w ws = all-put_behind (w.opener ∷ w.behind) base ws

-- a run without its pairs: all that pairing asks of it
abbrev bare : Run → Run
bare r = record r { closed = []; opened = [] }

bare-used : (s : Style) (r d : Run) → bare r ≡ bare d → bare (record r { left = r.left - markers_of s }) ≡ bare (record d { left = d.left - markers_of s })
bare-used s r d e = ap (λ (x : Run). record x { left = x.left - markers_of s }) e

-- each run that waits has its delimiter on the stack
abbrev IsStack : List Run → List Waiting → List Delimiter → Type 0
IsStack base [] [] = Unit {0}
IsStack base [] (d ∷ ds) = ⊥
IsStack base (w ∷ ws) [] = ⊥
IsStack base (w ∷ ws) (d ∷ ds) = (d.number ≡ length (base ++ all_waiting ws)) × (bare w.opener ≡ bare d.run) × (w.opener.opens ≡ true) × IsStack base ws ds

behind-stack : (rs base : List Run) (ws : List Waiting) (ds : List Delimiter) → IsStack base ws ds → IsStack (put_behind rs base ws).base (put_behind rs base ws).waiting ds
behind-stack rs base [] [] h = tt
behind-stack rs base [] (d ∷ ds) h = absurd h
behind-stack rs base (w ∷ ws) [] h = absurd h
behind-stack rs base (w ∷ ws) (d ∷ ds) h = h

back-stack : (base : List Run) (w : Waiting) (ws : List Waiting) (d : Delimiter) (ds : List Delimiter) → IsStack base (w ∷ ws) (d ∷ ds)
    → IsStack (put_back w base ws).base (put_back w base ws).waiting (on_stack d ds)
back-stack base w ws d ds h =
    let same : opens_yet d.run ≡ nat_lt 0 w.opener.left = ap opens_yet (sym h.1) ∙ ap (λ b. b && nat_lt 0 w.opener.left) h.2 in
    subst (λ b. IsStack (put_back w base ws).base (put_back w base ws).waiting (cond b (d ∷ ds) ds)) (sym same) (by (nat_lt 0 w.opener.left))
  where
    by : (b : Bool) → let z = cond b (record { base = base; waiting = w ∷ ws }) (put_behind (w.opener ∷ w.behind) base ws) in IsStack z.base z.waiting (cond b (d ∷ ds) ds)
    by true = h
    by false = behind-stack (w.opener ∷ w.behind) base ws ds h.3

-- looking back finds the delimiter of the run that fits
abbrev IsLooked : (base all : List Run) → Option Found → List Delimiter → Type 0
IsLooked base all None ds = IsStack base [] ds
IsLooked base all (Some f) ds = IsStack base (f.last ∷ f.before) ds × (all_waiting f.before ++ f.last.opener ∷ f.last.behind ≡ all)

looked : (r c : Run) → bare r ≡ bare c → (base behind : List Run) (ws : List Waiting) (ds : List Delimiter) → IsStack base ws ds
    → IsLooked base (all_waiting ws ++ behind) (last_fitting r behind ws) (look_back c ds)
looked r c e base behind [] [] h = tt
looked r c e base behind [] (d ∷ ds) h = absurd h
looked r c e base behind (w ∷ ws) [] h = absurd h
looked r c e base behind (w ∷ ws) (d ∷ ds) h =
    let same : may_pair w.opener r ≡ may_pair d.run c = ap (λ o. may_pair o r) h.1 ∙ ap (may_pair d.run) e in
    subst (λ b. IsLooked base all (cond (may_pair w.opener r) (Some (record { last = there; before = ws })) found) (cond b (d ∷ ds) back)) same
    (choose (may_pair w.opener r) (looked r c e base (w.opener ∷ (w.behind ++ behind)) ws ds h.3))
  where
    all : List Run
    all = (all_waiting ws ++ w.opener ∷ w.behind) ++ behind

    there : Waiting
    there = record w { behind = w.behind ++ behind }

    found : Option Found
    found = last_fitting r (w.opener ∷ (w.behind ++ behind)) ws

    back : List Delimiter
    back = look_back c ds

    runs : all_waiting ws ++ w.opener ∷ (w.behind ++ behind) ≡ all
    runs = sym (append_assoc (all_waiting ws) (w.opener ∷ w.behind) behind)

    choose : (b : Bool) → IsLooked base (all_waiting ws ++ w.opener ∷ (w.behind ++ behind)) found back → IsLooked base all (cond b (Some (record { last = there; before = ws })) found) (cond b (d ∷ ds) back)
    choose true others = (h, runs)
    choose false others = subst (λ xs. IsLooked base xs found back) runs others

-- what a delimiter makes of what it found
abbrev pairs-with : ℕ → Delimiter → (stack found : List Delimiter) → List Delimiter × List Pair
pairs-with n d stack [] = (on_stack d stack, [])
pairs-with n d stack (o ∷ below) =
    let s = style_of o.run d.run in
    let more = close_pairs n (gave s d) (on_stack (gave s o) below) in
    (more.0, record { opener = o.number; closer = d.number; style = s } ∷ more.1)

abbrev in-turn-with : ℕ → Run → SoFar → Option Found → SoFar
in-turn-with n r z None = put r z
in-turn-with n r z (Some f) = let s = style_of f.last.opener r in close n (closing s r) (put_back (record f.last { opener = opening s f.last.opener }) z.base f.before)

-- the runs of a text
module _ (all : List Run) where
  -- what was read in turn is the runs with the pairs so far, and then the others
  record Joined (z : SoFar) (stack : List Delimiter) (ps : List Pair) (rest : List Run) : Type 0 where
    runs : all_in_pairs ps 0 all ≡ all_runs z ++ rest
    stacked : IsStack z.base z.waiting stack

  put-joined : (z : SoFar) (r : Run) (d : Delimiter) (stack : List Delimiter) (ps : List Pair) (rest : List Run) → Joined z stack ps (r ∷ rest)
      → d.number ≡ length (all_runs z) → bare r ≡ bare d.run → Joined (put r z) (on_stack d stack) ps rest
  put-joined z r d stack ps rest h number e = subst (λ b. Joined (put r z) (cond b (d ∷ stack) stack) ps rest) (ap opens_yet e) (by (opens_yet r) refl)
    where
      by : (b : Bool) → opens_yet r ≡ b
          → Joined (cond b (record z { waiting = record { opener = r; behind = [] } ∷ z.waiting }) (put_behind (r ∷ []) z.base z.waiting)) (cond b (d ∷ stack) stack) ps rest
      by true is = record {
        runs = h.runs ∙ sym (append_assoc (all_runs z) (r ∷ []) rest) ∙ ap (λ xs. xs ++ rest) (append_assoc z.base (all_waiting z.waiting) (r ∷ []));
        stacked = (number, e, (and_parts r.opens (nat_lt 0 r.left) is).0, h.stacked);
      }
      by false is = record {
        runs = h.runs ∙ sym (append_assoc (all_runs z) (r ∷ []) rest) ∙ ap (λ xs. xs ++ rest) (sym (all-put_behind (r ∷ []) z.base z.waiting));
        stacked = behind-stack (r ∷ []) z.base z.waiting stack h.stacked;
      }

  abbrev IsOut : List Pair → List Run → SoFar → List Delimiter × List Pair → Type 0
  IsOut ps rest z out = Joined z out.0 (ps ++ out.1) rest

  cond-out : (b : Bool) (ps : List Pair) (rest : List Run) (x y : SoFar) (u v : List Delimiter × List Pair) → IsOut ps rest x u → IsOut ps rest y v → IsOut ps rest (cond b x y) (cond b u v)
  cond-out true ps rest x y u v h k = h
  cond-out false ps rest x y u v h k = k

  abbrev Closes : ℕ → Type 0
  Closes n =
      (z : SoFar) (r : Run) (d : Delimiter) (stack : List Delimiter) (ps : List Pair) (rest : List Run) → Joined z stack ps (r ∷ rest)
      → d.number ≡ length (all_runs z) → bare r ≡ bare d.run → IsOut ps rest (close n r z) (close_pairs n d stack)

  put-out : (z : SoFar) (r : Run) (d : Delimiter) (stack : List Delimiter) (ps : List Pair) (rest : List Run) → Joined z stack ps (r ∷ rest)
      → d.number ≡ length (all_runs z) → bare r ≡ bare d.run → IsOut ps rest (put r z) (on_stack d stack, [])
  put-out z r d stack ps rest h number e = subst (λ qs. Joined (put r z) (on_stack d stack) qs rest) (sym (append-nil ps)) (put-joined z r d stack ps rest h number e)

  -- a pair with what was found
  found-out : (n : ℕ) → Closes n → (z : SoFar) (r : Run) (d : Delimiter) (stack : List Delimiter) (ps : List Pair) (rest : List Run) → Joined z stack ps (r ∷ rest)
      → d.number ≡ length (all_runs z) → bare r ≡ bare d.run → (f : Found) (o : Delimiter) (below : List Delimiter) → IsStack z.base (f.last ∷ f.before) (o ∷ below)
      → all_waiting f.before ++ f.last.opener ∷ f.last.behind ≡ all_waiting z.waiting ++ []
      → IsOut ps rest (in-turn-with n r z (Some f)) (pairs-with n d stack (o ∷ below))
  found-out n closes z r d stack ps rest h number e f o below on is =
      let s = style_of f.last.opener r in
      let same : style_of o.run d.run ≡ s = sym (ap (λ x. style_of x r) on.1 ∙ ap (style_of o.run) e) in
      let p : Pair = record { opener = o.number; closer = d.number; style = s } in
      let w : Waiting = record f.last { opener = opening s f.last.opener } in
      let z' = put_back w z.base f.before in
      let before = z.base ++ all_waiting f.before in
      let read : all_runs z ≡ before ++ f.last.opener ∷ f.last.behind =
      ap (λ xs. z.base ++ xs) (sym (is ∙ append-nil (all_waiting z.waiting))) ∙ sym (append_assoc z.base (all_waiting f.before) (f.last.opener ∷ f.last.behind)) in
      let spot : d.number ≡ length (before ++ f.last.opener ∷ f.last.behind) = number ∙ ap length read in
      let back : all_runs z' ≡ before ++ w.opener ∷ w.behind = all-put_back (nat_lt 0 w.opener.left) z.base w f.before in
      let long = length-append before (f.last.opener ∷ f.last.behind) in
      let differ : o.number ≢ d.number = λ (one : o.number ≡ d.number). omega (arith, one, on.0, spot, long) in
      let runs : all_in_pairs (ps ++ p ∷ []) 0 all ≡ all_runs z' ++ closing s r ∷ rest =
      all-more p ps 0 all differ ∙ ap (add_pair p 0) (h.runs ∙ ap (λ xs. xs ++ r ∷ rest) read ∙ append_assoc before (f.last.opener ∷ f.last.behind) (r ∷ rest))
      ∙ pair-in-places p before f.last.behind rest f.last.opener r on.0 spot
      ∙ sym (append_assoc before (w.opener ∷ w.behind) (closing s r ∷ rest)) ∙ ap (λ xs. xs ++ closing s r ∷ rest) (sym back) in
      let next : Joined z' (on_stack (gave s o) below) (ps ++ p ∷ []) (closing s r ∷ rest) = record {
        runs = runs;
        stacked = back-stack z.base w f.before (gave s o) below (on.0, bare-used s f.last.opener o.run on.1, on.2, on.3);
      } in
      let at_end : d.number ≡ length (all_runs z') = spot ∙ long ∙ sym (length-append before (w.opener ∷ w.behind)) ∙ ap length (sym back) in
      let more = close_pairs n (gave s d) (on_stack (gave s o) below) in
      let made = closes z' (closing s r) (gave s d) (on_stack (gave s o) below) (ps ++ p ∷ []) rest next at_end (bare-used s r d.run e) in
      let out : IsOut ps rest (in-turn-with n r z (Some f)) (more.0, p ∷ more.1) = subst (λ qs. Joined (close n (closing s r) z') more.0 qs rest) (append_assoc ps (p ∷ []) more.1) made in
      subst
      (λ t.
      let some = close_pairs n (gave t d) (on_stack (gave t o) below) in
      IsOut ps rest (in-turn-with n r z (Some f)) (some.0, record { opener = o.number; closer = d.number; style = t } ∷ some.1))
      (sym same) out

  closes : (n : ℕ) → Closes n
  closes zero z r d stack ps rest h number e = put-out z r d stack ps rest h number e
  closes (suc n) z r d stack ps rest h number e =
      let none = put-out z r d stack ps rest h number e in
      subst (λ b. IsOut ps rest (close (suc n) r z) (cond b (pairs-with n d stack (look_back d.run stack)) (on_stack d stack, []))) (ap closes_yet e)
      (cond-out (closes_yet r) ps rest (in-turn-with n r z (last_fitting r [] z.waiting)) (put r z) (pairs-with n d stack (look_back d.run stack)) (on_stack d stack, [])
      (by (closes n) none (last_fitting r [] z.waiting) (look_back d.run stack) (looked r d.run e z.base [] z.waiting stack h.stacked)) none)
    where
      by : Closes n → IsOut ps rest (put r z) (on_stack d stack, []) → (o : Option Found) (ds : List Delimiter) → IsLooked z.base (all_waiting z.waiting ++ []) o ds
          → IsOut ps rest (in-turn-with n r z o) (pairs-with n d stack ds)
      by fewer none None [] k = none
      by fewer none None (x ∷ ds) k = absurd k
      by fewer none (Some f) [] k = absurd k.0
      by fewer none (Some f) (x ∷ ds) k = found-out n fewer z r d stack ps rest h number e f x ds k.0 k.1

  reads : (rs : List Run) (z : SoFar) (n : ℕ) (stack : List Delimiter) (ps : List Pair) → Joined z stack ps rs → n ≡ length (all_runs z)
      → all_in_pairs (ps ++ pairs_from n stack rs) 0 all ≡ all_runs (in_turn_from z rs)
  reads [] z n stack ps h number = ap (λ qs. all_in_pairs qs 0 all) (append-nil ps) ∙ h.runs ∙ append-nil (all_runs z)
  reads (r ∷ rs) z n stack ps h number =
      let out = close_pairs r.left (record { number = n; run = r }) stack in
      let z' = close r.left r z in
      let next : Joined z' out.0 (ps ++ out.1) rs = closes r.left z r (record { number = n; run = r }) stack ps rs h number refl in
      let old = sym (length-in-pairs ps 0 all) ∙ ap length h.runs ∙ length-append (all_runs z) (r ∷ rs) in
      let new = sym (length-in-pairs (ps ++ out.1) 0 all) ∙ ap length next.runs ∙ length-append (all_runs z') rs in
      let more : n + 1 ≡ length (all_runs z') = omega (arith, number, old, new) in
      ap (λ qs. all_in_pairs qs 0 all) (sym (append_assoc ps out.1 (pairs_from (n + 1) out.0 rs))) ∙ reads rs z' (n + 1) out.0 (ps ++ out.1) next more

pub paired-in-turn : (rs : List Run) → paired rs ≡ paired_in_turn rs
paired-in-turn rs = reads rs rs none_read 0 [] [] (record { runs = in-no-pairs 0 rs; stacked = tt }) refl
