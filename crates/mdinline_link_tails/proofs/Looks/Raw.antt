-- Tries for destinations without marks: of those at a byte each has another number of parentheses open, and none has more than 32.
use Rattle.std.proofs.Common.{ℕ, suc, ◌+◌, ◌-◌, ◌*◌, ◌≤◌, ◌≡◌, ◌∙◌, ◌∷◌, ◌||◌, ◌&&◌, ◌==◌, not, nat_le, Bool, true, false, cond, List, [], length, refl, sym, ap, arith}
use Rattle.std.proofs.lemmas.Bool.Decides.{nat_tests}
use Rattle.std.proofs.lemmas.Bool.{false≢true, leb-true}
use Rattle.std.proofs.Math.Bool.{and-false}
use Rattle.mdinline_labels.specs.Labels.{hides}
use Rattle.mdinline_labels.specs.Tails.{ends_raw, is_plain}
use Rattle.mdinline_link_tails.proofs.Looks.Passed.{behind_look, raw_look, raw_start_look}
use Rattle.mdinline_link_tails.proofs.Looks.Behind.{behind-black, behinds}
use Rattle.mdinline_link_tails.proofs.Looks.Enclosed.{begins_behind, next-agrees}
use Rattle.mdinline_link_tails.proofs.Looks.Gaps.{is_gap}

-- ---- a sum over depths
-- for each depth that is marked, from one on, and that is no more than 32
abbrev marked : (ℕ → ℕ) → ℕ → List Bool → ℕ
marked look depth [] = 0
marked look depth (m ∷ ms) = cond (m && nat_le depth 32) (look depth) 0 + marked look (depth + 1) ms

-- one more for each depth
same-depth : (f k : ℕ → ℕ) → ((d : ℕ) → f d ≤ 1 + k d) → (d : ℕ) (ms : List Bool) → marked f d ms ≤ (33 - d) + marked k d ms
same-depth f k h d [] = omega arith
same-depth f k h d (m ∷ ms) = elim (m && nat_le d 32) as (λ t. (m && nat_le d 32) ≡ t → cond t (f d) 0 + marked f (d + 1) ms ≤ (33 - d) + (cond t (k d) 0 + marked k (d + 1) ms)) [
  | true ↦ λ e. let low : d ≤ 32 = grind (arith, nat_tests) in omega (arith, low, h d, same-depth f k h (d + 1) ms)
  | false ↦ λ e. omega (arith, same-depth f k h (d + 1) ms)
] refl

-- at one depth, by whether it is marked
deeper-at : (d x y : ℕ) (m low : Bool) → nat_le d 32 ≡ low → (full : Bool) → nat_le 32 d ≡ full → (next : Bool) → nat_le (d + 1) 32 ≡ next → (a c : ℕ) → (full ≡ true → a ≡ 0) → (full ≡ false → a ≤ 1 + c)
    → x ≤ (33 - (d + 1)) + y → cond (m && low) a 0 + x ≤ (33 - d) + (cond (m && next) c 0 + y)
deeper-at d x y false low l full f next n a c last more on = omega (arith, on)
deeper-at d x y true false l full f next n a c last more on = omega (arith, on)
deeper-at d x y true true l true f next n a c last more on = omega (arith, on, last refl)
deeper-at d x y true true l false f true n a c last more on = let low = leb-true d 32 l in omega (arith, on, more refl, low)
deeper-at d x y true true l false f false n a c last more on = absurd (false≢true (grind (arith, nat_tests)))

shallower-at : (d x y : ℕ) (m low : Bool) → nat_le (d + 1) 32 ≡ low → (next : Bool) → nat_le d 32 ≡ next → (a c : ℕ) → a ≤ 1 + c → x ≤ (33 - (d + 1 + 1)) + y → cond (m && low) a 0 + x ≤ (33 - (d + 1)) + (cond (m && next) c 0 + y)
shallower-at d x y false low l next n a c h on = omega (arith, on)
shallower-at d x y true false l next n a c h on = omega (arith, on)
shallower-at d x y true true l true n a c h on = let low = leb-true (d + 1) 32 l in omega (arith, on, h, low)
shallower-at d x y true true l false n a c h on = absurd (false≢true (grind (arith, nat_tests)))

-- one deeper; what is 32 deep ends
deeper : (f k : ℕ → ℕ) → ((d : ℕ) → nat_le 32 d ≡ true → f d ≡ 0) → ((d : ℕ) → nat_le 32 d ≡ false → f d ≤ 1 + k (d + 1)) → (d : ℕ) (ms : List Bool) → marked f d ms ≤ (33 - d) + marked k (d + 1) ms
deeper f k last more d [] = omega arith
deeper f k last more d (m ∷ ms) = deeper-at d (marked f (d + 1) ms) (marked k (d + 1 + 1) ms) m (nat_le d 32) refl (nat_le 32 d) refl (nat_le (d + 1) 32) refl (f d) (k (d + 1)) (last d) (more d) (deeper f k last more (d + 1) ms)

-- one less deep
shallower : (f k : ℕ → ℕ) → ((d : ℕ) → f (d + 1) ≤ 1 + k d) → (d : ℕ) (ms : List Bool) → marked f (d + 1) ms ≤ (33 - (d + 1)) + marked k d ms
shallower f k h d [] = omega arith
shallower f k h d (m ∷ ms) = shallower-at d (marked f (d + 1 + 1) ms) (marked k (d + 1) ms) m (nat_le (d + 1) 32) refl (nat_le d 32) refl (f (d + 1)) (k d) (h d) (shallower f k h (d + 1) ms)

-- where all that are deeper end
none : (f : ℕ → ℕ) → ((d : ℕ) → f (d + 1) ≡ 0) → (d : ℕ) (ms : List Bool) → marked f (d + 1) ms ≡ 0
none f h d [] = refl
none f h d (m ∷ ms) = elim (m && nat_le (d + 1) 32) as (λ t. cond t (f (d + 1)) 0 + marked f (d + 1 + 1) ms ≡ 0) [
  | true ↦ omega (arith, h d, none f h (d + 1) ms)
  | false ↦ omega (arith, none f h (d + 1) ms)
]

-- ---- tries that are at a byte
-- of those whose depth is marked, which see this text
abbrev at_byte : (hidden : Bool) → List ℕ → List Bool → ℕ
at_byte hidden bs ms = marked (λ d. raw_look d hidden bs) 0 ms

-- by what a byte is: it ends destinations, or opens or closes a parenthesis
abbrev look_by : (white opens closes next : Bool) → (left : ℕ) → List ℕ → ℕ → ℕ
look_by white opens closes next left bs d =
    cond (white || (closes && (d == 0))) (cond (d == 0) left 0)
    (cond (opens && nat_le 32 d) 0 (1 + raw_look (cond opens (d + 1) (cond closes (d - 1) d)) next bs))

no-zero : (d : ℕ) → (d + 1 == 0) ≡ false
no-zero d = grind (arith, nat_tests)

back-one : (d : ℕ) → d + 1 - 1 ≡ d
back-one d = omega arith

-- white space or a control character ends all; the one with no parenthesis open goes on behind it
at-white : (opens closes next : Bool) (left : ℕ) (bs : List ℕ) (ms : List Bool) → marked (look_by true opens closes next left bs) 0 ms ≤ left
at-white opens closes next left bs [] = omega arith
at-white opens closes next left bs (m ∷ ms) =
    let rest = none (look_by true opens closes next left bs) (λ d. ap (λ t. cond t left 0) (no-zero d)) 0 ms in
    elim (m && true) as (λ t. cond t left 0 + marked (look_by true opens closes next left bs) (0 + 1) ms ≤ left) [ true ↦ omega (arith, rest) | false ↦ omega (arith, rest) ]

at-other : (next : Bool) (left : ℕ) (bs : List ℕ) (ms : List Bool) → marked (look_by false false false next left bs) 0 ms ≤ 33 + at_byte next bs ms
at-other next left bs ms = omega (arith, same-depth (look_by false false false next left bs) (λ d. raw_look d next bs) (λ d. omega arith) 0 ms)

at-opening : (left : ℕ) (bs : List ℕ) (ms : List Bool) → marked (look_by false true false false left bs) 0 ms ≤ 33 + at_byte false bs (false ∷ ms)
at-opening left bs ms =
    let f = look_by false true false false left bs in
    omega (arith, deeper f (λ d. raw_look d false bs) (λ d e. ap (λ t. cond t 0 (1 + raw_look (d + 1) false bs)) e) (λ d e. let is : f d ≡ 1 + raw_look (d + 1) false bs = ap (λ t. cond t 0 (1 + raw_look (d + 1) false bs)) e in omega (arith, is)) 0 ms)

-- those that are left once a parenthesis closes
abbrev closed : List Bool → List Bool
closed [] = []
closed (m ∷ ms) = ms

at-closing : (bs : List ℕ) (ms : List Bool) → marked (look_by false false true false 0 bs) 0 ms ≤ 33 + at_byte false bs (closed ms)
at-closing bs [] = omega arith
at-closing bs (m ∷ ms) =
    let f = look_by false false true false 0 bs in
    let k = λ (d : ℕ). raw_look d false bs in
    let each : (d : ℕ) → f (d + 1) ≤ 1 + k d = λ d.
    (let is : f (d + 1) ≡ 1 + k d = ap (λ t. cond t (cond t 0 0) (1 + raw_look (d + 1 - 1) false bs)) (no-zero d) ∙ ap (λ n. 1 + k n) (back-one d) in omega (arith, is)) in
    let rest = shallower f k each 0 ms in
    elim (m && true) as (λ t. cond t 0 0 + marked f (0 + 1) ms ≤ 33 + marked k 0 ms) [ true ↦ omega (arith, rest) | false ↦ omega (arith, rest) ]

-- ---- all tries
-- those that begin. `begins`: a destination may begin there; `bracket`: `]` comes before
abbrev pub raw_starts : (begins bracket : Bool) → List ℕ → ℕ
raw_starts begins bracket [] = 0
raw_starts begins bracket (b ∷ bs) = cond begins (raw_start_look (b ∷ bs)) 0 + raw_starts (begins_behind bracket b) (b == 93) bs

-- one with no parenthesis open is there
abbrev first : List Bool → Bool
first [] = false
first (m ∷ ms) = m

-- none is where one begins, and a byte that a backslash hides begins none
abbrev Agree : List Bool → (hidden begins bracket : Bool) → Type 0
Agree ms hidden begins bracket = ((first ms && begins) ≡ false) × ((hidden && begins) ≡ false) × ((hidden && bracket) ≡ false)

-- `black`: no white space comes before the text; behind white space none goes on
abbrev RawOnward : List ℕ → Type 0
RawOnward bs = (black : Bool) (ms : List Bool) (hidden begins bracket : Bool) → (black ≡ false → ms ≡ []) → Agree ms hidden begins bracket
    → at_byte hidden bs ms + raw_starts begins bracket bs ≤ 33 * length bs + behinds black bs

-- over a byte at which none begins
move : (b : ℕ) (bs : List ℕ) → RawOnward bs → (black : Bool) (ms : List Bool) (hidden bracket : Bool) → (black ≡ false → ends_raw b ≡ true → ms ≡ []) → (hidden && bracket) ≡ false
    → (white opens closes : Bool) → ends_raw b ≡ white → is_plain 40 hidden b ≡ opens → is_plain 41 hidden b ≡ closes
    → marked (look_by white opens closes (hides hidden b) (behind_look (b ∷ bs)) bs) 0 ms + raw_starts (begins_behind bracket b) (b == 93) bs
    ≤ 33 * suc (length bs) + (cond black (behind_look (b ∷ bs)) 0 + behinds (not (is_gap b)) bs)
move b bs onward true ms hidden bracket alone agree true opens closes w o c =
    let rest = onward (not (is_gap b)) [] false (begins_behind bracket b) (b == 93) (λ e. refl) (refl, refl, refl) in
    omega (arith, at-white opens closes (hides hidden b) (behind_look (b ∷ bs)) bs ms, rest)
move b bs onward false ms hidden bracket alone agree true opens closes w o c =
    let rest = onward (not (is_gap b)) [] false (begins_behind bracket b) (b == 93) (λ e. refl) (refl, refl, refl) in
    let f = look_by true opens closes (hides hidden b) (behind_look (b ∷ bs)) bs in
    let gone : marked f 0 ms ≡ 0 = ap (λ ms. marked f 0 ms) (alone refl w) in
    omega (arith, gone, rest)
move b bs onward black ms hidden bracket alone agree false true closes w o c =
    let dark : is_gap b ≡ false = grind (arith) in
    let plain : hides hidden b ≡ false = grind (arith) in
    let unclosed : closes ≡ false = grind (arith) in
    let rest = onward true (false ∷ ms) false (begins_behind bracket b) (b == 93) (λ e. absurd (false≢true (sym e))) (refl, refl, refl) in
    let same : marked (look_by false true closes (hides hidden b) (behind_look (b ∷ bs)) bs) 0 ms ≡ marked (look_by false true false false (behind_look (b ∷ bs)) bs) 0 ms = (λ i. marked (look_by false true (unclosed i) (plain i) (behind_look (b ∷ bs)) bs) 0 ms) in
    let behind : behinds (not (is_gap b)) bs ≡ behinds true bs = ap (λ t. behinds (not t) bs) dark in
    omega (arith, same, behind, at-opening (behind_look (b ∷ bs)) bs ms, rest)
move b bs onward black ms hidden bracket alone agree false false true w o c =
    let dark : is_gap b ≡ false = grind (arith) in
    let plain : hides hidden b ≡ false = grind (arith) in
    let other : begins_behind bracket b ≡ false = grind (arith) in
    let left = behind-black b bs dark in
    let ends : (first (closed ms) && begins_behind bracket b) ≡ false = ap (λ t. first (closed ms) && t) other ∙ and-false (first (closed ms)) in
    let rest = onward true (closed ms) false (begins_behind bracket b) (b == 93) (λ e. absurd (false≢true (sym e))) (ends, refl, refl) in
    let same : marked (look_by false false true (hides hidden b) (behind_look (b ∷ bs)) bs) 0 ms ≡ marked (look_by false false true false 0 bs) 0 ms = (λ i. marked (look_by false false true (plain i) (left i) bs) 0 ms) in
    let behind : behinds (not (is_gap b)) bs ≡ behinds true bs = ap (λ t. behinds (not t) bs) dark in
    omega (arith, same, behind, at-closing bs ms, rest)
move b bs onward black ms hidden bracket alone agree false false false w o c =
    let dark : is_gap b ≡ false = grind (arith) in
    let other : begins_behind bracket b ≡ false = grind (arith) in
    let ends : (first ms && begins_behind bracket b) ≡ false = ap (λ t. first ms && t) other ∙ and-false (first ms) in
    let third : (hides hidden b && (b == 93)) ≡ false = grind (arith) in
    let rest = onward true ms (hides hidden b) (begins_behind bracket b) (b == 93) (λ e. absurd (false≢true (sym e))) (ends, next-agrees hidden bracket b, third) in
    let behind : behinds (not (is_gap b)) bs ≡ behinds true bs = ap (λ t. behinds (not t) bs) dark in
    omega (arith, behind, at-other (hides hidden b) (behind_look (b ∷ bs)) bs ms, rest)

-- a try more, where none is with no parenthesis open
one-more : (hidden : Bool) (l : List ℕ) (ms : List Bool) → first ms ≡ false → at_byte hidden l ms + raw_look 0 hidden l ≡ at_byte hidden l (true ∷ closed ms)
one-more hidden l [] h = omega arith
one-more hidden l (true ∷ ms) h = absurd (false≢true (sym h))
one-more hidden l (false ∷ ms) h = omega arith

raw-go : (bs : List ℕ) → RawOnward bs
raw-go [] black ms hidden begins bracket alone agree = omega (arith, nothing ms 0)
  where
    nothing : (ms : List Bool) (d : ℕ) → marked (λ d. raw_look d hidden []) d ms ≡ 0
    nothing [] d = refl
    nothing (m ∷ ms) d = elim (m && nat_le d 32) as (λ t. cond t 0 0 + marked (λ d. raw_look d hidden []) (d + 1) ms ≡ 0) [ true ↦ omega (arith, nothing ms (d + 1)) | false ↦ omega (arith, nothing ms (d + 1)) ]
raw-go (b ∷ bs) black ms hidden begins bracket alone agree =
    let passes = λ (ms : List Bool) (alone : black ≡ false → ends_raw b ≡ true → ms ≡ []). move b bs (raw-go bs) black ms hidden bracket alone agree.2 (ends_raw b) (is_plain 40 hidden b) (is_plain 41 hidden b) refl refl refl in
    elim begins as (λ t. begins ≡ t → at_byte hidden (b ∷ bs) ms + (cond t (raw_start_look (b ∷ bs)) 0 + raw_starts (begins_behind bracket b) (b == 93) bs) ≤ 33 * suc (length bs) + behinds black (b ∷ bs)) [
      | true ↦ λ e. elim (ends_raw b || (b == 60)) as (λ t. (ends_raw b || (b == 60)) ≡ t → at_byte hidden (b ∷ bs) ms + (cond t 0 (raw_look 0 false (b ∷ bs)) + raw_starts (begins_behind bracket b) (b == 93) bs) ≤ 33 * suc (length bs) + behinds black (b ∷ bs)) [
        | true ↦ λ n. omega (arith, passes ms (λ f w. alone f))
        | false ↦ λ n.
            let clear : first ms ≡ false = grind (arith) in
            let unclosed : hidden ≡ false = grind (arith) in
            let more : at_byte hidden (b ∷ bs) ms + raw_look 0 false (b ∷ bs) ≡ at_byte hidden (b ∷ bs) (true ∷ closed ms) = ap (λ t. at_byte hidden (b ∷ bs) ms + raw_look 0 t (b ∷ bs)) (sym unclosed) ∙ one-more hidden (b ∷ bs) ms clear in
            omega (arith, more, passes (true ∷ closed ms) (λ f w. absurd (false≢true (grind (arith)))))
      ] refl
      | false ↦ λ e. omega (arith, passes ms (λ f w. alone f))
    ] refl

-- Those that begin in a text pass at most 33 bytes for each of its bytes, and what they pass behind destinations
pub raw-within : (begins bracket : Bool) (bs : List ℕ) → raw_starts begins bracket bs ≤ 33 * length bs + behinds true bs
raw-within begins bracket bs = omega (arith, raw-go bs true [] false begins bracket (λ e. refl) (refl, refl, refl))
