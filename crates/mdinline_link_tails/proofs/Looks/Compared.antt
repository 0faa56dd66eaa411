-- A try passes no more than is counted byte by byte.
use Rattle.std.proofs.Common.{◌≡◌, ◌∙◌, ℕ, zero, suc, ◌+◌, ◌*◌, ◌≤◌, ◌==◌, ◌&&◌, ◌||◌, not, nat_le, Bool, true, false, cond, List, [], ◌∷◌, Option, Some, None, drop, length, refl, sym, ap, subst, arith}
use Rattle.std.proofs.lemmas.Bool.{eqb-true, false≢true}
use Rattle.std.proofs.lemmas.Option.{none-some, same_Some}
use Rattle.std.specs.Option.{option_and_then, option_map}
use Rattle.mdinline_labels.specs.Labels.{hides}
use Rattle.mdinline_labels.specs.Tails.{bare_behind, begins_with, depth_behind, destination_size, enclosed_size, ends_raw, gap, is_plain, is_raw_end, marked_size, one_more, raw_end, raw_size, title_end}
use Rattle.mdinline_link_tails.proofs.Looks.Passed.{behind_look, enclosed_look, enclosed_start_look, raw_look, raw_start_look, title_look, title_start_look}
use Rattle.mdinline_link_tails.proofs.Looks.Passed as counted
use Rattle.mdinline_link_tails.specs.ResourceLooks.{behind_brackets, destination_look, destination_passed, looks, marked_look, resource_look, tail_look, title_passed}
use Rattle.mdinline_link_tails.specs.ResourceLooks as tried

-- by the size of what is tried: what is passed if it is there, or if not
abbrev ByOption : (there : ℕ → Type 0) → (none : Type 0) → Option ℕ → Type 0
ByOption there none None = none
ByOption there none (Some n) = there n

-- a byte more
next : (there there' : ℕ → Type 0) (none none' : Type 0) (o : Option ℕ) → ((n : ℕ) → there n → there' (n + 1)) → (none → none') → ByOption there none o → ByOption there' none' (one_more o)
next there there' none none' None f g h = g h
next there there' none none' (Some n) f g h = f n h

drop-more : (n : ℕ) (b : ℕ) (bs : List ℕ) → drop (n + 1) (b ∷ bs) ≡ drop n bs
drop-more n b bs = let one : n + 1 ≡ suc n = omega arith in ap (λ k. drop k (b ∷ bs)) one

-- ---- titles
abbrev Titled : (first last : ℕ) (bare hidden : Bool) → List ℕ → Type 0
Titled first last bare hidden bs =
    ByOption (λ n. n + 1 + gap (drop (n + 1) bs) ≤ title_look first last bare hidden bs) (marked_look first last bare hidden bs ≤ title_look first last bare hidden bs) (marked_size first last bare hidden bs)

titled-at : (ends stops : Bool) (b : ℕ) (bs : List ℕ) (o : Option ℕ) (passed all : ℕ) → ByOption (λ n. n + 1 + gap (drop (n + 1) bs) ≤ all) (passed ≤ all) o
    → ByOption (λ n. n + 1 + gap (drop (n + 1) (b ∷ bs)) ≤ cond ends (1 + gap bs) (cond stops 0 (1 + all))) (cond ends 0 (cond stops 0 (1 + passed)) ≤ cond ends (1 + gap bs) (cond stops 0 (1 + all))) (cond ends (Some 0) (cond stops None (one_more o)))
titled-at true stops b bs o passed all h = let same : gap (drop (0 + 1) (b ∷ bs)) ≡ gap bs = ap gap (drop-more 0 b bs) in omega (arith, same)
titled-at false true b bs o passed all h = omega arith
titled-at false false b bs o passed all h =
    next (λ n. n + 1 + gap (drop (n + 1) bs) ≤ all) (λ n. n + 1 + gap (drop (n + 1) (b ∷ bs)) ≤ 1 + all) (passed ≤ all) (1 + passed ≤ 1 + all) o
    (λ n h. let same : gap (drop (n + 1 + 1) (b ∷ bs)) ≡ gap (drop (n + 1) bs) = ap gap (drop-more (n + 1) b bs) in omega (arith, h, same)) (λ h. omega (arith, h)) h

titled : (first last : ℕ) (bare hidden : Bool) (bs : List ℕ) → Titled first last bare hidden bs
titled first last bare hidden [] = omega arith
titled first last bare hidden (b ∷ bs) =
    titled-at (is_plain last hidden b) (is_plain first hidden b || (bare && (b == 10))) b bs (marked_size first last (bare_behind bare b) (hides hidden b) bs) (marked_look first last (bare_behind bare b) (hides hidden b) bs)
    (title_look first last (bare_behind bare b) (hides hidden b) bs) (titled first last (bare_behind bare b) (hides hidden b) bs)

-- a title that this mark begins
title-passed : (b last : ℕ) (bs : List ℕ) (o : Option ℕ)
    → ByOption (λ n. n + 1 + gap (drop (n + 1) bs) ≤ title_look b last false false bs) (marked_look b last false false bs ≤ title_look b last false false bs) o
    → title_passed (b ∷ bs) last o ≤ 1 + title_look b last false false bs
title-passed b last bs None h = omega (arith, h)
title-passed b last bs (Some n) h =
    let two : n + 2 ≡ suc (n + 1) = omega arith in
    let same : gap (drop (n + 2) (b ∷ bs)) ≡ gap (drop (n + 1) bs) = ap (λ k. gap (drop k (b ∷ bs))) two in
    omega (arith, h, same)

marked-start : (b last : ℕ) (bs : List ℕ) → title_passed (b ∷ bs) last (marked_size b last false false bs) ≤ 1 + title_look b last false false bs
marked-start b last bs = title-passed b last bs (marked_size b last false false bs) (titled b last false false bs)

abbrev begun_by : (b : ℕ) (bs : List ℕ) → Option ℕ → ℕ
begun_by b bs None = 0
begun_by b bs (Some close) = title_passed (b ∷ bs) close (marked_size b close false false bs)

title-start : (bs : List ℕ) → tried.title_look bs ≤ title_start_look bs
title-start [] = omega arith
title-start (b ∷ bs) = elim (b == 34) as (λ q. (b == 34) ≡ q
    → begun_by b bs (cond (q || (b == 39)) (Some b) (cond (b == 40) (Some 41) None))
    ≤ cond q (1 + title_look 34 34 false false bs) (cond (b == 39) (1 + title_look 39 39 false false bs) (cond (b == 40) (1 + title_look 40 41 false false bs) 0))) [
      | true ↦ λ e. let is : 34 ≡ b = sym (eqb-true b 34 e) in subst (λ c. title_passed (b ∷ bs) b (marked_size b b false false bs) ≤ 1 + title_look c c false false bs) (sym is) (marked-start b b bs)
      | false ↦ λ _. elim (b == 39) as (λ a. (b == 39) ≡ a
          → begun_by b bs (cond a (Some b) (cond (b == 40) (Some 41) None))
          ≤ cond a (1 + title_look 39 39 false false bs) (cond (b == 40) (1 + title_look 40 41 false false bs) 0)) [
            | true ↦ λ e. let is : 39 ≡ b = sym (eqb-true b 39 e) in subst (λ c. title_passed (b ∷ bs) b (marked_size b b false false bs) ≤ 1 + title_look c c false false bs) (sym is) (marked-start b b bs)
            | false ↦ λ _. elim (b == 40) as (λ p. (b == 40) ≡ p
                → begun_by b bs (cond p (Some 41) None) ≤ cond p (1 + title_look 40 41 false false bs) 0) [
                  | true ↦ λ e. let is : 40 ≡ b = sym (eqb-true b 40 e) in subst (λ c. title_passed (b ∷ bs) 41 (marked_size b 41 false false bs) ≤ 1 + title_look c 41 false false bs) (sym is) (marked-start b 41 bs)
                  | false ↦ λ _. omega arith
                ] refl
          ] refl
    ] refl

-- behind a destination
behind : (bs : List ℕ) → tail_look bs ≤ behind_look bs
behind bs = elim (gap bs == 0) as (λ t. (gap bs == 0) ≡ t → gap bs + cond t 0 (tried.title_look (drop (gap bs) bs)) ≤ cond t 0 (gap bs + title_start_look (drop (gap bs) bs))) [
  | true ↦ λ e. let none : gap bs ≡ 0 = eqb-true (gap bs) 0 e in omega (arith, none)
  | false ↦ λ e. omega (arith, title-start (drop (gap bs) bs))
] refl

-- ---- destinations
abbrev Enclosed : (hidden : Bool) → List ℕ → Type 0
Enclosed hidden bs = ByOption (λ n. n + 1 + behind_look (drop (n + 1) bs) ≤ enclosed_look hidden bs) (tried.enclosed_look hidden bs ≤ enclosed_look hidden bs) (enclosed_size hidden bs)

enclosed-at : (ends stops : Bool) (b : ℕ) (bs : List ℕ) (o : Option ℕ) (passed all : ℕ) → ByOption (λ n. n + 1 + behind_look (drop (n + 1) bs) ≤ all) (passed ≤ all) o
    → ByOption (λ n. n + 1 + behind_look (drop (n + 1) (b ∷ bs)) ≤ cond ends (1 + behind_look bs) (cond stops 0 (1 + all))) (cond ends 0 (cond stops 0 (1 + passed)) ≤ cond ends (1 + behind_look bs) (cond stops 0 (1 + all))) (cond ends (Some 0) (cond stops None (one_more o)))
enclosed-at true stops b bs o passed all h = let same : behind_look (drop (0 + 1) (b ∷ bs)) ≡ behind_look bs = ap (λ ys. behind_look ys) (drop-more 0 b bs) in omega (arith, same)
enclosed-at false true b bs o passed all h = omega arith
enclosed-at false false b bs o passed all h =
    next (λ n. n + 1 + behind_look (drop (n + 1) bs) ≤ all) (λ n. n + 1 + behind_look (drop (n + 1) (b ∷ bs)) ≤ 1 + all) (passed ≤ all) (1 + passed ≤ 1 + all) o
    (λ n h. let same : behind_look (drop (n + 1 + 1) (b ∷ bs)) ≡ behind_look (drop (n + 1) bs) = ap (λ ys. behind_look ys) (drop-more (n + 1) b bs) in omega (arith, h, same)) (λ h. omega (arith, h)) h

enclosed : (hidden : Bool) (bs : List ℕ) → Enclosed hidden bs
enclosed hidden [] = omega arith
enclosed hidden (b ∷ bs) =
    enclosed-at (is_plain 62 hidden b) (is_plain 60 hidden b || (b == 10)) b bs (enclosed_size (hides hidden b) bs) (tried.enclosed_look (hides hidden b) bs) (enclosed_look (hides hidden b) bs) (enclosed (hides hidden b) bs)

abbrev Raw : (depth : ℕ) (hidden : Bool) → List ℕ → Type 0
Raw depth hidden bs = ByOption (λ n. n + behind_look (drop n bs) ≤ raw_look depth hidden bs) (tried.raw_look depth hidden bs ≤ raw_look depth hidden bs) (raw_size depth hidden bs)

raw-at : (ends deep none : Bool) (b : ℕ) (bs : List ℕ) (o : Option ℕ) (passed all : ℕ) → ByOption (λ n. n + behind_look (drop n bs) ≤ all) (passed ≤ all) o
    → ByOption (λ n. n + behind_look (drop n (b ∷ bs)) ≤ cond ends (cond none (behind_look (b ∷ bs)) 0) (cond deep 0 (1 + all))) (cond ends 0 (cond deep 0 (1 + passed)) ≤ cond ends (cond none (behind_look (b ∷ bs)) 0) (cond deep 0 (1 + all)))
    (cond ends (cond none (Some 0) None) (cond deep None (one_more o)))
raw-at true deep true b bs o passed all h = omega arith
raw-at true deep false b bs o passed all h = omega arith
raw-at false true none b bs o passed all h = omega arith
raw-at false false none b bs o passed all h =
    next (λ n. n + behind_look (drop n bs) ≤ all) (λ n. n + behind_look (drop n (b ∷ bs)) ≤ 1 + all) (passed ≤ all) (1 + passed ≤ 1 + all) o
    (λ n h. let same : behind_look (drop (n + 1) (b ∷ bs)) ≡ behind_look (drop n bs) = ap (λ ys. behind_look ys) (drop-more n b bs) in omega (arith, h, same)) (λ h. omega (arith, h)) h

raw : (depth : ℕ) (hidden : Bool) (bs : List ℕ) → Raw depth hidden bs
raw depth hidden [] = elim (depth == 0) as (λ t. ByOption (λ n. n + behind_look (drop n []) ≤ 0) (0 ≤ 0) (cond t (Some 0) None)) [ true ↦ omega arith | false ↦ omega arith ]
raw depth hidden (b ∷ bs) =
    raw-at (is_raw_end depth hidden b) (is_plain 40 hidden b && nat_le 32 depth) (depth == 0) b bs (raw_size (depth_behind depth hidden b) (hides hidden b) bs) (tried.raw_look (depth_behind depth hidden b) (hides hidden b) bs)
    (raw_look (depth_behind depth hidden b) (hides hidden b) bs) (raw (depth_behind depth hidden b) (hides hidden b) bs)

less-at : (ends deep : Bool) (last passed all : ℕ) → passed ≤ all → cond ends 0 (cond deep 0 (1 + passed)) ≤ cond ends last (cond deep 0 (1 + all))
less-at true deep last passed all h = omega arith
less-at false true last passed all h = omega arith
less-at false false last passed all h = omega (arith, h)

raw-less : (depth : ℕ) (hidden : Bool) (bs : List ℕ) → tried.raw_look depth hidden bs ≤ raw_look depth hidden bs
raw-less depth hidden [] = omega arith
raw-less depth hidden (b ∷ bs) =
    less-at (is_raw_end depth hidden b) (is_plain 40 hidden b && nat_le 32 depth) (cond (depth == 0) (behind_look (b ∷ bs)) 0) (tried.raw_look (depth_behind depth hidden b) (hides hidden b) bs)
    (raw_look (depth_behind depth hidden b) (hides hidden b) bs) (raw-less (depth_behind depth hidden b) (hides hidden b) bs)

-- where a destination may begin
destination-by : (marks white : Bool) (b : ℕ) (bs : List ℕ) → (b == 60) ≡ marks → ends_raw b ≡ white
    → destination_passed (b ∷ bs) (cond marks (option_map (λ n. n + 2) (enclosed_size false bs)) (option_and_then (λ n. cond (n == 0) None (Some n)) (raw_size 0 false (b ∷ bs))))
    ≤ cond (white || marks) 0 (raw_look 0 false (b ∷ bs)) + cond marks (1 + enclosed_look false bs) 0
destination-by true white b bs m w = of (enclosed_size false bs) (enclosed false bs)
  where
    of : (o : Option ℕ) → ByOption (λ n. n + 1 + behind_look (drop (n + 1) bs) ≤ enclosed_look false bs) (tried.enclosed_look false bs ≤ enclosed_look false bs) o
        → destination_passed (b ∷ bs) (option_map (λ n. n + 2) o) ≤ cond (white || true) 0 (raw_look 0 false (b ∷ bs)) + (1 + enclosed_look false bs)
    of None h =
        let is : destination_passed (b ∷ bs) None ≡ 1 + tried.enclosed_look false bs = ap (λ t. cond t (1 + tried.enclosed_look false bs) (tried.raw_look 0 false (b ∷ bs))) m in
        omega (arith, is, h)
    of (Some n) h =
        let two : n + 2 ≡ suc (n + 1) = omega arith in
        let same : tail_look (drop (n + 2) (b ∷ bs)) ≡ tail_look (drop (n + 1) bs) = ap (λ k. tail_look (drop k (b ∷ bs))) two in
        omega (arith, same, h, behind (drop (n + 1) bs))
destination-by false true b bs m w =
    let ends : is_raw_end 0 false b ≡ true = ap (λ t. t || (is_plain 41 false b && true)) w in
    let none : raw_size 0 false (b ∷ bs) ≡ Some 0 = ap (λ t. cond t (Some 0) (cond (is_plain 40 false b && nat_le 32 0) None (one_more (raw_size (depth_behind 0 false b) (hides false b) bs)))) ends in
    let nothing : tried.raw_look 0 false (b ∷ bs) ≡ 0 = ap (λ t. cond t 0 (cond (is_plain 40 false b && nat_le 32 0) 0 (1 + tried.raw_look (depth_behind 0 false b) (hides false b) bs))) ends in
    let is : destination_passed (b ∷ bs) (option_and_then (λ n. cond (n == 0) None (Some n)) (raw_size 0 false (b ∷ bs))) ≡ 0 =
    ap (λ o. destination_passed (b ∷ bs) (option_and_then (λ n. cond (n == 0) None (Some n)) o)) none ∙ ap (λ t. cond t (1 + tried.enclosed_look false bs) (tried.raw_look 0 false (b ∷ bs))) m ∙ nothing in
    omega (arith, is)
destination-by false false b bs m w = of (raw_size 0 false (b ∷ bs)) (raw 0 false (b ∷ bs))
  where
    none : destination_passed (b ∷ bs) None ≡ tried.raw_look 0 false (b ∷ bs)
    none = ap (λ t. cond t (1 + tried.enclosed_look false bs) (tried.raw_look 0 false (b ∷ bs))) m

    of : (o : Option ℕ) → ByOption (λ n. n + behind_look (drop n (b ∷ bs)) ≤ raw_look 0 false (b ∷ bs)) (tried.raw_look 0 false (b ∷ bs) ≤ raw_look 0 false (b ∷ bs)) o
        → destination_passed (b ∷ bs) (option_and_then (λ n. cond (n == 0) None (Some n)) o) ≤ raw_look 0 false (b ∷ bs) + 0
    of None h = omega (arith, none, h)
    of (Some n) h = elim (n == 0) as (λ t. destination_passed (b ∷ bs) (cond {A = Option ℕ} t None (Some n)) ≤ raw_look 0 false (b ∷ bs) + 0) [
      | true ↦ omega (arith, none, raw-less 0 false (b ∷ bs))
      | false ↦ omega (arith, h, behind (drop n (b ∷ bs)))
    ]

destination-less : (bs : List ℕ) → destination_look bs ≤ raw_start_look bs + enclosed_start_look bs
destination-less [] = omega arith
destination-less (b ∷ bs) = destination-by (b == 60) (ends_raw b) b bs refl refl

resource-less : (bs : List ℕ) → resource_look bs ≤ cond (begins_with 40 bs) (1 + counted.resource_look (drop 1 bs)) 0
resource-less [] = omega arith
resource-less (b ∷ bs) = elim (b == 40) as (λ t. cond t (let from = 1 + gap bs in from + destination_look (drop from (b ∷ bs))) 0 ≤ cond t (1 + counted.resource_look bs) 0) [
  | true ↦
      let one : 1 + gap bs ≡ suc (gap bs) = omega arith in
      let same : destination_look (drop (1 + gap bs) (b ∷ bs)) ≡ destination_look (drop (gap bs) bs) = ap (λ k. destination_look (drop k (b ∷ bs))) one in
      omega (arith, same, destination-less (drop (gap bs) bs))
  | false ↦ omega arith
]

-- So all tries of a text pass no more
pub looks-less : (bs : List ℕ) → looks bs ≤ counted.looks bs
looks-less [] = omega arith
looks-less (b ∷ bs) = elim (b == 93) as (λ t. cond t (resource_look bs) 0 + looks bs ≤ cond (t && begins_with 40 bs) (1 + counted.resource_look (drop 1 bs)) 0 + counted.looks bs) [
  | true ↦ omega (arith, resource-less bs, looks-less bs)
  | false ↦ omega (arith, looks-less bs)
]
