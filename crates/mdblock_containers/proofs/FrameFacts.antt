-- Spans of containers: which ones two lists share, which ones a part enters, and in which ones a line stands.
use Rattle.std.proofs.Common.{◌≡◌, ℕ, zero, suc, ◌+◌, ◌<◌, ◌≤◌, Bool, true, false, cond, List, [], ◌∷◌, ◌++◌, length, take, drop, refl, sym, ap, ◌∙◌, subst, arith, append_assoc, inl, inr, ◌⊎◌, eq-eqb, ne_eqb}
use Rattle.std.specs.Prelude.{◌==◌, ◌&&◌, ◌||◌, not, nat_le, nat_lt, reverse}
use Rattle.std.specs.List.{AllByRecursion, flat_map}
use Rattle.std.proofs.lemmas.Bool.{false≢true, eqb-true}
use Rattle.std.proofs.lemmas.Bool.Decides.{nat_tests}
use Rattle.std.proofs.lemmas.Grind.{flat_map-append}
use Rattle.std.proofs.lemmas.List.{append-nil, reverse-append, reverse-reverse, length-drop, length-reverse, take_all, take-append-le, drop-append-le, take-append-drop}
use Rattle.markdown_base.proofs.Common.{every-append, every-map, and-right, every-take, every-reverse}
use Rattle.markdown_base.specs.Events.{same_name}
use Rattle.markdown_base.specs.declared.configuration.Constructs.{Constructs}
use Rattle.markdown_base.specs.declared.event.Name.TheVariants as name
use Rattle.markdown_base.proofs.Balanced.{same_name-refl}
use Rattle.mdblock_leaf_blocks.specs.LeafBlocks.{Line, interrupts, text_of}
use Rattle.mdblock_leaf_blocks.specs.LineKinds.{indent, indented, blank as blank_kind, is_far, kind_of_rest, line_kind, unindented}
use Rattle.markdown_tokenizer.proofs.Positions.Order.{every-back, every-front}
use Rattle.mdblock_lines.specs.Containers.{Container, Prefix, footnote, item, quote}
use Rattle.mdblock_containers.proofs.RowFacts.{BeganBefore, BeginHere, BeginsIn, BeginsList, IsFront, begun_are, front_append, front_more, front_none, front_trans, went_are}
use Rattle.mdblock_containers.specs.Prefixes.{containers_of}
use Rattle.mdblock_containers.specs.Rows.{Before, Row, closed, has_none, holds_ending, is_paragraph, known_after, leaf_after, open_paragraph, opened_by, row_of}
use Rattle.mdblock_containers.specs.Skeleton.{Frame, frames_of, further, going_on_at, left_in, list_at, list_begun, list_name, shared, standing}
use Rattle.markdown_base.proofs.Facts.Bools.{and-left}

-- ---- frames that two lists share

pub shared_front : (ps xs ys : List Frame) → shared (ps ++ xs) (ps ++ ys) ≡ length ps + shared xs ys
shared_front [] xs ys = omega arith
shared_front (p ∷ ps) xs ys =
    let more = shared_front ps xs ys in
    (λ k. cond (same_name-refl p.name k && eq-eqb p.line p.line refl k) (suc (shared (ps ++ xs) (ps ++ ys))) 0) ∙ omega (arith, more)

pub shared_none : (xs : List Frame) → shared xs [] ≡ 0
shared_none [] = refl
shared_none (x ∷ xs) = refl

-- those that began before share none with those that begin here
pub shared_apart : (n : ℕ) (xs : List Frame) (y : Frame) (ys : List Frame) → AllByRecursion (λ (f : Frame). f.line < n) xs → y.line ≡ n → shared xs (y ∷ ys) ≡ 0
shared_apart n [] y ys h e = refl
shared_apart n (x ∷ xs) y ys h e =
    let less = h.0 in
    let other : (x.line == y.line) ≡ false = ne_eqb x.line y.line (λ same. omega (arith, less, same, e)) in
    by (same_name x.name y.name) (x.line == y.line) other
  where
    by : (a b : Bool) → b ≡ false → cond (a && b) (suc (shared xs ys)) 0 ≡ 0
    by true true e = absurd (false≢true (sym e))
    by true false e = refl
    by false b e = refl

pub take_front : {A : Type 0} (xs ys : List A) (k : ℕ) → k ≡ length xs → (take k (xs ++ ys) ≡ xs) × (drop k (xs ++ ys) ≡ ys)
take_front [] ys zero e = (refl, refl)
take_front [] ys (suc k) e = absurd (omega (arith, e))
take_front (x ∷ xs) ys zero e = absurd (omega (arith, e))
take_front (x ∷ xs) ys (suc k) e = let rest = take_front xs ys k (omega (arith, e)) in (ap (λ l. x ∷ l) rest.0, rest.1)

-- ---- frames that containers enter

abbrev pub entered : Container → List Frame
entered (quote q) = record { name = name.BlockQuote; line = q.line } ∷ []
entered (footnote f) = record { name = name.GfmFootnoteDefinition; line = f.line } ∷ []
entered (item i) = cond (i.list == i.line) (record { name = list_name i; line = i.list } ∷ []) [] ++ record { name = name.ListItem; line = i.line } ∷ []

abbrev pub all_entered : List Prefix → List Frame
all_entered [] = []
all_entered (p ∷ ps) = entered p.container ++ all_entered ps

-- with its list, if it begins that
pub enters_all : (n : ℕ) (c : Container) → BeginsIn n c × BeginsList c → frames_of c ≡ entered c
enters_all n (quote q) h = refl
enters_all n (footnote f) h = refl
enters_all n (item i) h = ap (λ b. cond b (record { name = list_name i; line = i.list } ∷ []) [] ++ record { name = name.ListItem; line = i.line } ∷ []) (sym (eq-eqb i.list i.line h.1))

pub each_entered : (n : ℕ) (ps : List Prefix) → AllByRecursion (λ (q : Prefix). BeginsIn n q.container × BeginsList q.container) ps → flat_map frames_of (containers_of ps) ≡ all_entered ps
each_entered n [] h = refl
each_entered n (p ∷ ps) h = (λ k. enters_all n p.container h.0 k ++ each_entered n ps h.1 k)

-- a list that began before is not entered
pub begun_entered : (n : ℕ) (ps : List Prefix) → BeginHere n ps → flat_map frames_of (containers_of ps) ≡ list_begun ps ++ all_entered ps
begun_entered n [] h = refl
begun_entered n (p ∷ ps) h = by p.container h.0 (each_entered n ps h.1)
  where
    by : (c : Container) → BeginsIn n c → flat_map frames_of (containers_of ps) ≡ all_entered ps
        → frames_of c ++ flat_map frames_of (containers_of ps)
        ≡ (elim c as (λ _. List Frame) [ quote q ↦ [] | item i ↦ cond (nat_lt i.list i.line) (record { name = list_name i; line = i.list } ∷ []) [] | footnote f ↦ [] ]) ++ (entered c ++ all_entered ps)
    by (quote q) k rest = ap (λ (l : List Frame). record { name = name.BlockQuote; line = q.line } ∷ l) rest
    by (footnote f) k rest = ap (λ (l : List Frame). record { name = name.GfmFootnoteDefinition; line = f.line } ∷ l) rest
    by (item i) k rest = choose (nat_lt i.list i.line) (i.list == i.line) tests
      where
        later : i.list ≤ i.line
        later = k.1.list

        tests : ((nat_lt i.list i.line ≡ true) × ((i.list == i.line) ≡ false)) ⊎ ((nat_lt i.list i.line ≡ false) × ((i.list == i.line) ≡ true))
        tests = let le = later in grind (arith, nat_tests)

        choose : (x y : Bool) → ((x ≡ true) × (y ≡ false)) ⊎ ((x ≡ false) × (y ≡ true))
            → record { name = list_name i; line = i.list } ∷ record { name = name.ListItem; line = i.line } ∷ flat_map frames_of (containers_of ps)
            ≡ cond x (record { name = list_name i; line = i.list } ∷ []) [] ++ ((cond y (record { name = list_name i; line = i.list } ∷ []) [] ++ record { name = name.ListItem; line = i.line } ∷ []) ++ all_entered ps)
        choose true true t = elim t [ inl l ↦ absurd (false≢true (sym l.1)) | inr r ↦ absurd (false≢true (sym r.0)) ]
        choose false false t = elim t [ inl l ↦ absurd (false≢true l.0) | inr r ↦ absurd (false≢true r.1) ]
        choose true false t = ap (λ (l : List Frame). record { name = list_name i; line = i.list } ∷ record { name = name.ListItem; line = i.line } ∷ l) rest
        choose false true t = ap (λ (l : List Frame). record { name = list_name i; line = i.list } ∷ record { name = name.ListItem; line = i.line } ∷ l) rest

pub shared_entered : (n : ℕ) (ps : List Prefix) (xs : List Frame) → BeginHere n ps → AllByRecursion (λ (f : Frame). f.line < n) xs → shared xs (all_entered ps) ≡ 0
shared_entered n [] xs h old = shared_none xs
shared_entered n (p ∷ ps) xs h old = by p.container h.0
  where
    by : (c : Container) → BeginsIn n c → shared xs (entered c ++ all_entered ps) ≡ 0
    by (quote q) k = shared_apart n xs (record { name = name.BlockQuote; line = q.line }) (all_entered ps) old k
    by (footnote f) k = shared_apart n xs (record { name = name.GfmFootnoteDefinition; line = f.line }) (all_entered ps) old k
    by (item i) k = choose (i.list == i.line) refl
      where
        choose : (x : Bool) → (i.list == i.line) ≡ x → shared xs ((cond x (record { name = list_name i; line = i.list } ∷ []) [] ++ record { name = name.ListItem; line = i.line } ∷ []) ++ all_entered ps) ≡ 0
        choose true e = shared_apart n xs (record { name = list_name i; line = i.list }) (record { name = name.ListItem; line = i.line } ∷ all_entered ps) old (eqb-true i.list i.line e ∙ k.0)
        choose false e = shared_apart n xs (record { name = name.ListItem; line = i.line }) (all_entered ps) old k.0

-- Spans at a part, by those before it: some are kept, the others before it ended, and what begins in its first line is entered
pub record Turn (before after : List Frame) (begun : List Prefix) : Type 0 where
  pub kept : List Frame
  pub ended : List Frame
  pub before_are : before ≡ kept ++ ended
  pub after_are : after ≡ kept ++ all_entered begun
  pub many : shared before after ≡ length kept

pub turns : (n : ℕ) (before after kept : List Frame) (begun : List Prefix) → BeginHere n begun → AllByRecursion (λ (f : Frame). f.line < n) before → IsFront kept before → after ≡ kept ++ all_entered begun → Turn before after begun
turns n before after kept begun h old front e =
    let ended = front.0 in
    let apart = shared_entered n begun ended h (every-back (λ (f : Frame). f.line < n) kept ended (subst (AllByRecursion (λ (f : Frame). f.line < n)) front.1 old)) in
    let all = shared_front kept ended (all_entered begun) in
    record { kept = kept; ended = ended; before_are = front.1; after_are = e; many = (λ k. shared (front.1 k) (e k)) ∙ omega (arith, apart, all) }

-- ---- containers that blank lines stand in

-- containers from the innermost on, but for items and footnote definitions among the first that do not go on
abbrev pub keep : ℕ → List Container → List Container
keep g [] = []
keep g (quote q ∷ cs) = quote q ∷ cs
keep g (item i ∷ cs) = cond (nat_le g (length cs)) (keep g cs) (item i ∷ cs)
keep g (footnote f ∷ cs) = cond (nat_le g (length cs)) (keep g cs) (footnote f ∷ cs)

pub left_is_keep : (g n : ℕ) (cs : List Container) → AllByRecursion (BeganBefore n) cs → left_in g n cs ≡ keep g cs
left_is_keep g n [] h = refl
left_is_keep g n (quote q ∷ cs) h = refl
left_is_keep g n (item i ∷ cs) h =
    let less = h.0.0 in
    let before : nat_lt i.line n ≡ true = grind (arith, nat_tests) in
    by (nat_le g (length cs)) (nat_lt i.line n) before (left_is_keep g n cs h.1)
  where
    by : (x y : Bool) → y ≡ true → left_in g n cs ≡ keep g cs → cond (x && y) (left_in g n cs) (item i ∷ cs) ≡ cond x (keep g cs) (item i ∷ cs)
    by true true e rest = rest
    by true false e rest = absurd (false≢true e)
    by false y e rest = refl
left_is_keep g n (footnote f ∷ cs) h =
    let less = h.0 in
    let before : nat_lt f.line n ≡ true = grind (arith, nat_tests) in
    by (nat_le g (length cs)) (nat_lt f.line n) before (left_is_keep g n cs h.1)
  where
    by : (x y : Bool) → y ≡ true → left_in g n cs ≡ keep g cs → cond (x && y) (left_in g n cs) (footnote f ∷ cs) ≡ cond x (keep g cs) (footnote f ∷ cs)
    by true true e rest = rest
    by true false e rest = absurd (false≢true e)
    by false y e rest = refl

abbrev pub IsBack : List Container → List Container → Type 0
IsBack xs ys = (ws : List Container) × (ys ≡ ws ++ xs)

pub keep_back : (g : ℕ) (cs : List Container) → IsBack (keep g cs) cs
keep_back g [] = ([], refl)
keep_back g (quote q ∷ cs) = ([], refl)
keep_back g (item i ∷ cs) = by (nat_le g (length cs)) (keep_back g cs)
  where
    by : (x : Bool) → IsBack (keep g cs) cs → IsBack (cond x (keep g cs) (item i ∷ cs)) (item i ∷ cs)
    by true h = (item i ∷ h.0, ap (λ l. item i ∷ l) h.1)
    by false h = ([], refl)
keep_back g (footnote f ∷ cs) = by (nat_le g (length cs)) (keep_back g cs)
  where
    by : (x : Bool) → IsBack (keep g cs) cs → IsBack (cond x (keep g cs) (footnote f ∷ cs)) (footnote f ∷ cs)
    by true h = (footnote f ∷ h.0, ap (λ l. footnote f ∷ l) h.1)
    by false h = ([], refl)

pub keep_more : (g : ℕ) (zs cs : List Container) → IsBack (keep g cs) (keep g (zs ++ cs))
keep_more g [] cs = ([], refl)
keep_more g (quote q ∷ zs) cs = let back = keep_back g cs in (quote q ∷ (zs ++ back.0), ap (λ l. quote q ∷ (zs ++ l)) back.1 ∙ ap (λ l. quote q ∷ l) (sym (append_assoc zs back.0 (keep g cs))))
keep_more g (item i ∷ zs) cs = by (nat_le g (length (zs ++ cs))) (keep_more g zs cs)
  where
    by : (x : Bool) → IsBack (keep g cs) (keep g (zs ++ cs)) → IsBack (keep g cs) (cond x (keep g (zs ++ cs)) (item i ∷ (zs ++ cs)))
    by true h = h
    by false h = let back = keep_back g cs in (item i ∷ (zs ++ back.0), ap (λ l. item i ∷ (zs ++ l)) back.1 ∙ ap (λ l. item i ∷ l) (sym (append_assoc zs back.0 (keep g cs))))
keep_more g (footnote f ∷ zs) cs = by (nat_le g (length (zs ++ cs))) (keep_more g zs cs)
  where
    by : (x : Bool) → IsBack (keep g cs) (keep g (zs ++ cs)) → IsBack (keep g cs) (cond x (keep g (zs ++ cs)) (footnote f ∷ (zs ++ cs)))
    by true h = h
    by false h = let back = keep_back g cs in (footnote f ∷ (zs ++ back.0), ap (λ l. footnote f ∷ (zs ++ l)) back.1 ∙ ap (λ l. footnote f ∷ l) (sym (append_assoc zs back.0 (keep g cs))))

pub keep_long : (g : ℕ) (cs : List Container) → g ≤ length cs → g ≤ length (keep g cs)
keep_long g [] h = h
keep_long g (quote q ∷ cs) h = h
keep_long g (item i ∷ cs) h = by (keep_long g cs) (nat_le g (length cs)) refl
  where
    by : (g ≤ length cs → g ≤ length (keep g cs)) → (x : Bool) → nat_le g (length cs) ≡ x → g ≤ length (cond x (keep g cs) (item i ∷ cs))
    by rest true e = let le : g ≤ length cs = grind (arith, nat_tests) in rest le
    by rest false e = h
keep_long g (footnote f ∷ cs) h = by (keep_long g cs) (nat_le g (length cs)) refl
  where
    by : (g ≤ length cs → g ≤ length (keep g cs)) → (x : Bool) → nat_le g (length cs) ≡ x → g ≤ length (cond x (keep g cs) (footnote f ∷ cs))
    by rest true e = let le : g ≤ length cs = grind (arith, nat_tests) in rest le
    by rest false e = h

-- the same from the outermost on
abbrev pub kept_of : ℕ → List Container → List Container
kept_of g cs = reverse (keep g (reverse cs))

pub kept_front : (g : ℕ) (cs : List Container) → IsFront (kept_of g cs) cs
kept_front g cs = let back = keep_back g (reverse cs) in (reverse back.0, sym (reverse-reverse cs) ∙ ap reverse back.1 ∙ reverse-append back.0 (keep g (reverse cs)))

pub kept_more : (g : ℕ) (xs ys : List Container) → IsFront xs ys → IsFront (kept_of g xs) (kept_of g ys)
kept_more g xs ys h =
    let back = keep_more g (reverse h.0) (reverse xs) in
    (reverse back.0, ap (λ (l : List Container). reverse (keep g (reverse l))) h.1 ∙ ap (λ (l : List Container). reverse (keep g l)) (reverse-append xs h.0) ∙ ap reverse back.1 ∙ reverse-append back.0 (keep g (reverse xs)))

pub kept_long : (g : ℕ) (cs : List Container) → g ≤ length cs → g ≤ length (kept_of g cs)
kept_long g cs h =
    let a = length-reverse cs in
    let b = length-reverse (keep g (reverse cs)) in
    let long = keep_long g (reverse cs) (omega (arith, h, a)) in
    omega (arith, long, b)

pub flat_front : (xs ys : List Container) → IsFront xs ys → IsFront (flat_map frames_of xs) (flat_map frames_of ys)
flat_front xs ys h = (flat_map frames_of h.0, ap (flat_map frames_of) h.1 ∙ flat_map-append frames_of xs h.0)

pub front_take : {A : Type 0} (xs ys : List A) → IsFront xs ys → take (length xs) ys ≡ xs
front_take xs ys h = ap (take (length xs)) h.1 ∙ (take_front xs h.0 (length xs) refl).0

-- ---- lines of containers

pub began_more : (n : ℕ) (c : Container) → BeganBefore n c → BeganBefore (suc n) c
began_more n (quote q) h = omega (arith, h)
began_more n (footnote f) h = omega (arith, h)
began_more n (item i) h = let less = h.0 in (omega (arith, less), h.1)

pub began_later : (n m : ℕ) → n ≤ m → (c : Container) → BeganBefore n c → BeganBefore m c
began_later n m le (quote q) h = omega (arith, h, le)
began_later n m le (footnote f) h = omega (arith, h, le)
began_later n m le (item i) h = let less = h.0 in (omega (arith, less, le), h.1)

pub begins_before : (n : ℕ) (c : Container) → BeginsIn n c → BeganBefore (suc n) c
begins_before n (quote q) h = omega (arith, h)
begins_before n (footnote f) h = omega (arith, h)
begins_before n (item i) h = let is = h.0 in (omega (arith, is), h.1)

pub begun_before : (n : ℕ) (ps : List Prefix) → BeginHere n ps → AllByRecursion (BeganBefore (suc n)) (containers_of ps)
begun_before n [] h = tt
begun_before n (p ∷ ps) h = (begins_before n p.container h.0, rest ps h.1)
  where
    rest : (qs : List Prefix) → AllByRecursion (λ (q : Prefix). BeginsIn n q.container × BeginsList q.container) qs → AllByRecursion (BeganBefore (suc n)) (containers_of qs)
    rest [] k = tt
    rest (q ∷ qs) k = (begins_before n q.container k.0.0, rest qs k.1)

pub frames_before : (n : ℕ) (c : Container) → BeganBefore n c → AllByRecursion (λ (f : Frame). f.line < n) (frames_of c)
frames_before n (quote q) h = (h, tt)
frames_before n (footnote f) h = (h, tt)
frames_before n (item i) h = let less = h.0 in let list = h.1.list in (omega (arith, less, list), (less, tt))

pub all_before : (n : ℕ) (cs : List Container) → AllByRecursion (BeganBefore n) cs → AllByRecursion (λ (f : Frame). f.line < n) (flat_map frames_of cs)
all_before n [] h = tt
all_before n (c ∷ cs) h = every-append (λ (f : Frame). f.line < n) (frames_of c) (flat_map frames_of cs) (frames_before n c h.0) (all_before n cs h.1)

pub none_is : {A : Type 0} (xs : List A) → has_none xs ≡ true → xs ≡ []
none_is [] h = refl
none_is (x ∷ xs) h = absurd (false≢true h)

pub some_more : {A : Type 0} (xs ys : List A) → has_none xs ≡ false → has_none (xs ++ ys) ≡ false
some_more [] ys h = absurd (false≢true (sym h))
some_more (x ∷ xs) ys h = refl

-- ---- in which containers a line stands

pub standing_blank : (r : Row) (behind : List Row) → r.is_blank ≡ true → has_none r.begun ≡ true → AllByRecursion (BeganBefore r.number) (containers_of r.went_on) → standing r behind ≡ kept_of (going_on_at behind) (containers_of r.went_on)
standing_blank r behind blank none old =
    let all : containers_of r.went_on ++ containers_of r.begun ≡ containers_of r.went_on = ap (λ l. containers_of r.went_on ++ containers_of l) (none_is r.begun none) ∙ append-nil (containers_of r.went_on) in
    (λ k. cond (blank k) (reverse (left_in (going_on_at behind) r.number (reverse (all k)))) (all k))
    ∙ ap reverse (left_is_keep (going_on_at behind) r.number (reverse (containers_of r.went_on)) (every-reverse (BeganBefore r.number) (containers_of r.went_on) old))

pub standing_other : (r : Row) (behind : List Row) → r.is_blank ≡ false → standing r behind ≡ containers_of r.went_on ++ containers_of r.begun
standing_other r behind other =
    let all = containers_of r.went_on ++ containers_of r.begun in
    ap (λ b. cond b (reverse (left_in (going_on_at behind) r.number (reverse all))) all) other

pub left_begun : (g n : ℕ) (zs cs : List Container) → AllByRecursion (BeginsIn n) zs → has_none zs ≡ false → left_in g n (zs ++ cs) ≡ zs ++ cs
left_begun g n [] cs h e = absurd (false≢true (sym e))
left_begun g n (quote q ∷ zs) cs h e = refl
left_begun g n (item i ∷ zs) cs h e =
    let is = h.0.0 in
    let here : nat_lt i.line n ≡ false = grind (arith, nat_tests) in
    by (nat_le g (length (zs ++ cs))) (nat_lt i.line n) here
  where
    by : (x y : Bool) → y ≡ false → cond (x && y) (left_in g n (zs ++ cs)) (item i ∷ (zs ++ cs)) ≡ item i ∷ (zs ++ cs)
    by true true f = absurd (false≢true (sym f))
    by true false f = refl
    by false y f = refl
left_begun g n (footnote m ∷ zs) cs h e =
    let is = h.0 in
    let here : nat_lt m.line n ≡ false = grind (arith, nat_tests) in
    by (nat_le g (length (zs ++ cs))) (nat_lt m.line n) here
  where
    by : (x y : Bool) → y ≡ false → cond (x && y) (left_in g n (zs ++ cs)) (footnote m ∷ (zs ++ cs)) ≡ footnote m ∷ (zs ++ cs)
    by true true f = absurd (false≢true (sym f))
    by true false f = refl
    by false y f = refl

pub begun_in : (n : ℕ) (ps : List Prefix) → BeginHere n ps → AllByRecursion (BeginsIn n) (containers_of ps)
begun_in n [] h = tt
begun_in n (p ∷ ps) h = (h.0, rest ps h.1)
  where
    rest : (qs : List Prefix) → AllByRecursion (λ (q : Prefix). BeginsIn n q.container × BeginsList q.container) qs → AllByRecursion (BeginsIn n) (containers_of qs)
    rest [] k = tt
    rest (q ∷ qs) k = (k.0.0, rest qs k.1)

pub none_reverse : (c : Container) (cs : List Container) → has_none (reverse (c ∷ cs)) ≡ false
none_reverse c cs = ap has_none (reverse-append (c ∷ []) cs) ∙ by (reverse cs)
  where
    by : (zs : List Container) → has_none (zs ++ c ∷ []) ≡ false
    by [] = refl
    by (z ∷ zs) = refl

pub some_begun : (ps : List Prefix) → has_none ps ≡ false → has_none (reverse (containers_of ps)) ≡ false
some_begun [] e = absurd (false≢true (sym e))
some_begun (p ∷ ps) e = none_reverse p.container (containers_of ps)

pub standing_begun : (r : Row) (behind : List Row) → BeginHere r.number r.begun → has_none r.begun ≡ false → standing r behind ≡ containers_of r.went_on ++ containers_of r.begun
standing_begun r behind h some =
    let went = containers_of r.went_on in
    let begun = containers_of r.begun in
    let turned : left_in (going_on_at behind) r.number (reverse (went ++ begun)) ≡ reverse (went ++ begun) =
    (λ k. left_in (going_on_at behind) r.number (reverse-append went begun k))
    ∙ left_begun (going_on_at behind) r.number (reverse begun) (reverse went) (every-reverse (BeginsIn r.number) begun (begun_in r.number r.begun h)) (some_begun r.begun some)
    ∙ sym (reverse-append went begun) in
    by r.is_blank (ap reverse turned ∙ reverse-reverse (went ++ begun))
  where
    by : (x : Bool) → reverse (left_in (going_on_at behind) r.number (reverse (containers_of r.went_on ++ containers_of r.begun))) ≡ containers_of r.went_on ++ containers_of r.begun
        → cond x (reverse (left_in (going_on_at behind) r.number (reverse (containers_of r.went_on ++ containers_of r.begun)))) (containers_of r.went_on ++ containers_of r.begun) ≡ containers_of r.went_on ++ containers_of r.begun
    by true e = e
    by false e = refl

-- ---- what a line is behind the lines before it

module _ (on : Constructs) (b : Before) (n : ℕ) (line : Line) where
  abbrev pub r : Row
  r = row_of on b n line

  abbrev pub none : Bool
  none = has_none r.begun

  abbrev pub all_go_on : Bool
  all_go_on = length r.went_on == b.depth

  pub left_is : r.is_left_blank ≡ true → (r.is_blank ≡ true) × (none ≡ true)
  left_is h = let rest = and-right r.is_blank (none && not (r.stays && holds_ending b.leaf)) h in (and-left r.is_blank (none && not (r.stays && holds_ending b.leaf)) h, and-left none (not (r.stays && holds_ending b.leaf)) rest)

  pub stays_is : r.stays ≡ true → none ≡ true
  stays_is h = and-left none (r.is_lazy || (all_go_on && (length b.stack == b.depth))) h

  pub lazy_is : r.is_lazy ≡ true → (none ≡ true) × (is_paragraph b.leaf ≡ true)
  lazy_is h =
      let kind = interrupts (line_kind on (drop r.columns (text_of line))) in
      let rest = and-right (not all_go_on) (none && (is_paragraph b.leaf && not kind)) h in
      (and-left none (is_paragraph b.leaf && not kind) rest, and-left (is_paragraph b.leaf) (not kind) (and-right none (is_paragraph b.leaf && not kind) rest))

  pub lazy_stays : r.is_lazy ≡ true → r.stays ≡ true
  lazy_stays h = (λ k. (lazy_is h).0 k && (h k || (all_go_on && (length b.stack == b.depth))))

  -- a line that stays, and not lazily, stands in all containers
  pub stays_in : r.stays ≡ true → r.is_lazy ≡ false → (all_go_on ≡ true) × ((length b.stack == b.depth) ≡ true)
  stays_in h lazy =
      let rest = and-right none (r.is_lazy || (all_go_on && (length b.stack == b.depth))) h in
      let both : (all_go_on && (length b.stack == b.depth)) ≡ true = ap (λ x. x || (all_go_on && (length b.stack == b.depth))) (sym lazy) ∙ rest in
      (and-left all_go_on (length b.stack == b.depth) both, and-right all_go_on (length b.stack == b.depth) both)

  pub stays_all : r.stays ≡ true → r.is_lazy ≡ false → containers_of r.went_on ++ containers_of r.begun ≡ b.stack
  stays_all h lazy =
      let both = stays_in h lazy in
      let a : length r.went_on ≡ b.depth = eqb-true (length r.went_on) b.depth both.0 in
      let c : length b.stack ≡ b.depth = eqb-true (length b.stack) b.depth both.1 in
      ap (λ l. containers_of r.went_on ++ containers_of l) (none_is r.begun (stays_is h)) ∙ append-nil (containers_of r.went_on) ∙ went_are on b n line ∙ take_all (length r.went_on) b.stack (omega (arith, a, c))

  -- a line at which no stretch goes on is not lazy, and is left blank if it is blank and nothing begins in it
  pub fresh : (behind : List Row) → (b.leaf ≡ closed) ⊎ (further (r ∷ behind) ≡ 0) → r.is_left_blank ≡ false → (r.is_lazy ≡ false) × ((r.is_blank ≡ false) ⊎ (none ≡ false))
  fresh behind h left =
      let free : (r.stays ≡ false) ⊎ (b.leaf ≡ closed) = elim h [ inl leaf ↦ inr leaf | inr stop ↦ inl (stops r.stays (ap (λ x. cond x (cond (nat_le 1 (further behind)) (suc (further behind)) 0) (cond r.stays (suc (further behind)) 0)) (sym left) ∙ stop)) ] in
      (not_lazy free r.is_lazy refl, not_blank free r.is_blank none refl refl left)
    where
      stops : (x : Bool) → cond x (suc (further behind)) 0 ≡ 0 → x ≡ false
      stops true e = absurd (omega (arith, e))
      stops false e = refl

      not_lazy : (r.stays ≡ false) ⊎ (b.leaf ≡ closed) → (x : Bool) → r.is_lazy ≡ x → r.is_lazy ≡ false
      not_lazy free true e = absurd (elim free [ inl out ↦ false≢true (sym out ∙ lazy_stays e) | inr leaf ↦ false≢true (sym (ap is_paragraph leaf) ∙ (lazy_is e).1) ])
      not_lazy free false e = e

      held : (r.stays ≡ false) ⊎ (b.leaf ≡ closed) → (x : Bool) → (r.stays && holds_ending b.leaf) ≡ x → x ≡ false
      held free true e = absurd (elim free [ inl out ↦ false≢true (sym out ∙ and-left r.stays (holds_ending b.leaf) e) | inr leaf ↦ false≢true (sym (ap holds_ending leaf) ∙ and-right r.stays (holds_ending b.leaf) e) ])
      held free false e = refl

      not_blank : (r.stays ≡ false) ⊎ (b.leaf ≡ closed) → (x y : Bool) → r.is_blank ≡ x → none ≡ y → (r.is_blank && (none && not (r.stays && holds_ending b.leaf))) ≡ false → (r.is_blank ≡ false) ⊎ (none ≡ false)
      not_blank free false y ex ey e = inl ex
      not_blank free true false ex ey e = inr ey
      not_blank free true true ex ey e = absurd (false≢true (sym e ∙ (λ k. ex k && (ey k && not (held free (r.stays && holds_ending b.leaf) refl k)))))

  -- ---- what is known behind it

  pub known_left : r.is_left_blank ≡ true → known_after on b r ≡ record b { depth = length r.went_on; leaf = closed }
  known_left h = ap (λ x. cond x (record b { depth = length r.went_on; leaf = closed }) (cond r.is_lazy (record b { leaf = r.leaf }) (record { stack = containers_of r.went_on ++ containers_of r.begun; depth = length (containers_of r.went_on ++ containers_of r.begun); leaf = r.leaf }))) h

  pub known_other : r.is_left_blank ≡ false → r.is_lazy ≡ false → known_after on b r ≡ record { stack = containers_of r.went_on ++ containers_of r.begun; depth = length (containers_of r.went_on ++ containers_of r.begun); leaf = r.leaf }
  known_other h k = (λ i. cond (h i) (record b { depth = length r.went_on; leaf = closed }) (cond (k i) (record b { leaf = r.leaf }) (record { stack = containers_of r.went_on ++ containers_of r.begun; depth = length (containers_of r.went_on ++ containers_of r.begun); leaf = r.leaf })))

  -- a line that a stretch goes on with leaves the stack as it is
  pub stack_stays : (r.is_left_blank ≡ true) ⊎ (r.stays ≡ true) → (known_after on b r).stack ≡ b.stack
  stack_stays h = by r.is_left_blank r.is_lazy refl refl h
    where
      by : (x y : Bool) → r.is_left_blank ≡ x → r.is_lazy ≡ y → (x ≡ true) ⊎ (r.stays ≡ true)
          → (cond x (record b { depth = length r.went_on; leaf = closed }) (cond y (record b { leaf = r.leaf }) (record { stack = containers_of r.went_on ++ containers_of r.begun; depth = length (containers_of r.went_on ++ containers_of r.begun); leaf = r.leaf }))).stack ≡ b.stack
      by true y ex ey k = refl
      by false true ex ey k = refl
      by false false ex ey k = elim k [ inl out ↦ absurd (false≢true out) | inr stays ↦ stays_all stays ey ]

  -- behind a blank line in which containers begin no leaf block is open
  pub begun_leaf : r.is_left_blank ≡ false → r.is_lazy ≡ false → r.is_blank ≡ true → none ≡ false → (known_after on b r).leaf ≡ closed
  begun_leaf left lazy blank some =
      let rest = drop r.columns (text_of line) in
      let stays : r.stays ≡ false = ap (λ x. x && (r.is_lazy || (all_go_on && (length b.stack == b.depth)))) some in
      ap (λ (x : Before). x.leaf) (known_other left lazy)
      ∙ (λ k. cond (left k) closed (cond (lazy k) open_paragraph (leaf_after on (cond (stays k) b.leaf closed) rest)))
      ∙ (λ k. opened_by on (cond (blank k) blank_kind (cond (is_far on rest) indented (kind_of_rest on (indent rest) (unindented rest)))) rest)

  -- containers of the stack began in this line or before
  pub old_after : AllByRecursion (BeganBefore n) b.stack → AllByRecursion (BeganBefore (suc n)) (known_after on b r).stack
  old_after old = by r.is_left_blank r.is_lazy (every-map (BeganBefore n) (BeganBefore (suc n)) (began_more n) b.stack old)
    where
      by : (x y : Bool) → AllByRecursion (BeganBefore (suc n)) b.stack
          → AllByRecursion (BeganBefore (suc n)) (cond x (record b { depth = length r.went_on; leaf = closed }) (cond y (record b { leaf = r.leaf }) (record { stack = containers_of r.went_on ++ containers_of r.begun; depth = length (containers_of r.went_on ++ containers_of r.begun); leaf = r.leaf }))).stack
      by true y more = more
      by false true more = more
      by false false more =
          every-append (BeganBefore (suc n)) (containers_of r.went_on) (containers_of r.begun) (subst (AllByRecursion (BeganBefore (suc n))) (sym (went_are on b n line)) (every-take (BeganBefore (suc n)) (length r.went_on) b.stack more))
          (begun_before n r.begun (begun_are on b n line old).0)

-- a list that began before has at most one frame
pub short_list : (ps : List Prefix) → length (list_begun ps) ≤ 1
short_list [] = omega arith
short_list (p ∷ ps) = by p.container
  where
    one : (f : Frame) (x : Bool) → length (cond x (f ∷ []) []) ≤ 1
    one f true = omega arith
    one f false = omega arith

    by : (c : Container) → length (elim c as (λ _. List Frame) [ quote q ↦ [] | item i ↦ cond (nat_lt i.list i.line) (record { name = list_name i; line = i.list } ∷ []) [] | footnote f ↦ [] ]) ≤ 1
    by (quote q) = omega arith
    by (footnote f) = omega arith
    by (item i) = one (record { name = list_name i; line = i.list }) (nat_lt i.list i.line)

abbrev pub head_or : Frame → List Frame → Frame
head_or f [] = f
head_or f (g ∷ gs) = g

pub front_one : (f x : Frame) (fs ys zs : List Frame) → f ∷ (fs ++ ys) ≡ x ∷ zs → IsFront (x ∷ []) (f ∷ fs)
front_one f x fs ys zs e = (fs, ap (λ l. head_or f l ∷ fs) e)

pub short_front : (xs ys : List Frame) (c : Container) → length xs ≤ 1 → IsFront xs (frames_of c ++ ys) → IsFront xs (frames_of c)
short_front [] ys c h front = front_none (frames_of c)
short_front (x ∷ y ∷ xs) ys c h front = absurd (omega (arith, h))
short_front (x ∷ []) ys (quote q) h front = front_one (record { name = name.BlockQuote; line = q.line }) x [] ys front.0 front.1
short_front (x ∷ []) ys (footnote f) h front = front_one (record { name = name.GfmFootnoteDefinition; line = f.line }) x [] ys front.0 front.1
short_front (x ∷ []) ys (item i) h front = front_one (record { name = list_name i; line = i.list }) x (record { name = name.ListItem; line = i.line } ∷ []) ys front.0 front.1

pub front_every : (P : Frame → Type 0) (xs ys : List Frame) → IsFront xs ys → AllByRecursion P ys → AllByRecursion P xs
front_every P xs ys front h = every-front P xs front.0 (subst (AllByRecursion P) front.1 h)

-- ---- frames that a later line goes on with

pub list_short : (rs : List Row) → length (list_at rs) ≤ 1
list_short [] = omega arith
list_short (r ∷ behind) = by r.is_left_blank (list_short behind) (short_list r.begun)
  where
    by : (x : Bool) → length (list_at behind) ≤ 1 → length (list_begun r.begun) ≤ 1 → length (cond x (list_at behind) (list_begun r.begun)) ≤ 1
    by true h k = h
    by false h k = k

pub flat_parts : (g : ℕ) (cs : List Container) → flat_map frames_of (take g cs) ++ flat_map frames_of (drop g cs) ≡ flat_map frames_of cs
flat_parts g cs = sym (flat_map-append frames_of (take g cs) (drop g cs)) ∙ ap (flat_map frames_of) (take-append-drop g cs)

-- frames that a later line goes on with
abbrev pub needed_at : List Container → List Row → List Frame
needed_at stack rs = flat_map frames_of (take (going_on_at rs) stack) ++ list_at rs

-- also of fewer containers, if they are more than go on
pub needed_in : (rs : List Row) (stack cs : List Container) → IsFront cs stack → going_on_at rs < length cs → IsFront (list_at rs) (flat_map frames_of (drop (going_on_at rs) stack)) → IsFront (needed_at stack rs) (flat_map frames_of cs)
needed_in rs stack cs front less list = by (drop (going_on_at rs) cs) refl
  where
    by : (ds : List Container) → drop (going_on_at rs) cs ≡ ds → IsFront (needed_at stack rs) (flat_map frames_of cs)
    by [] e = absurd (let none : length (drop (going_on_at rs) cs) ≡ 0 = ap length e in let left = length-drop (going_on_at rs) cs in omega (arith, none, left, less))
    by (d ∷ ds) e =
        let k = going_on_at rs in
        let same_front : take k cs ≡ take k stack = sym (take-append-le k cs front.0 (omega (arith, less))) ∙ ap (take k) (sym front.1) in
        let rest : drop k stack ≡ d ∷ (ds ++ front.0) = ap (drop k) front.1 ∙ drop-append-le k cs front.0 (omega (arith, less)) ∙ ap (λ l. l ++ front.0) e in
        let one : IsFront (list_at rs) (frames_of d) = short_front (list_at rs) (flat_map frames_of (ds ++ front.0)) d (list_short rs) (subst (λ (l : List Container). IsFront (list_at rs) (flat_map frames_of l)) rest list) in
        let all : IsFront (list_at rs) (flat_map frames_of (drop k cs)) =
        subst (λ (l : List Container). IsFront (list_at rs) (flat_map frames_of l)) (sym e) (front_trans (list_at rs) (frames_of d) (frames_of d ++ flat_map frames_of ds) one (front_append (frames_of d) (flat_map frames_of ds))) in
        let more = front_more (flat_map frames_of (take k cs)) (list_at rs) (flat_map frames_of (drop k cs)) all in
        subst (λ (l : List Container). IsFront (flat_map frames_of l ++ list_at rs) (flat_map frames_of cs)) same_front (subst (IsFront (flat_map frames_of (take k cs) ++ list_at rs)) (flat_parts k cs) more)
