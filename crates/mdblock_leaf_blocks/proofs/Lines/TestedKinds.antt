-- The kind that a look finds, by one test after another; and what a line that may be an underline is.
use Rattle.mdblock_leaf_blocks.proofs.Prelude.{◌≡◌, ℕ, ◌+◌, ◌&&◌, ◌||◌, not, nat_le, List, [], ◌∷◌, Bool, true, false, cond, drop, one-add, Option, Some, None, refl, sym, ap, subst, is_some, and-false, and_parts, eqb-true, Constructs, is_white, HtmlKind, html_kind, raw, Line, ends_text, interrupts, text_of, Fence, LineKind, begins_with, indent, is_atx_heading, is_blank_line, is_far, is_fence_of, is_thematic_break, is_underline_of_marks, line_kind, run, underline_rank, unindented, SeenKind, html_number, number, heading, fence, html, underline, thematic_break, text, as_seen, is_underline, seen_ends, seen_kind}
use Rattle.mdblock_leaf_blocks.specs.LineKinds as line
use Rattle.mdblock_leaf_blocks.specs.SeenKinds.{blank, indented}

module _ (on : Constructs) where
  -- by one test after another, from the first byte that is not white space on
  abbrev pub tested_rest : (columns : ℕ) → List ℕ → SeenKind
  tested_rest columns r =
      cond (on.heading_atx && is_atx_heading r) heading
      (cond (on.code_fenced && is_fence_of 96 r) (fence (record { byte = 96; size = run 96 r; indent = columns }))
      (cond (on.code_fenced && is_fence_of 126 r) (fence (record { byte = 126; size = run 126 r; indent = columns }))
      (cond (on.html_flow && nat_le 1 (html_number r)) (html (html_number r))
      (cond (on.heading_setext && is_underline_of_marks 61 r) underline
      (cond (on.heading_setext && is_underline_of_marks 45 r) underline
      (cond (on.thematic_break && is_thematic_break r) thematic_break text))))))

  abbrev pub tested_kind : List ℕ → SeenKind
  tested_kind t = cond (is_blank_line t) blank (cond (is_far on t) indented (tested_rest (indent t) (unindented t)))

-- ---- a line that may be an underline begins with its mark, so it is none of what is tested before

-- a line that begins with this byte, behind white space, is not blank
solid : (mark : ℕ) → is_white mark ≡ false → (t : List ℕ) → begins_with mark (unindented t) ≡ true → is_blank_line t ≡ false
solid mark plain [] h = absurd (cc)
solid mark plain (b ∷ bs) h = elim (is_white b) as (λ w. begins_with mark (drop (cond w (1 + indent bs) 0) (b ∷ bs)) ≡ true → (w && is_blank_line bs) ≡ false) [
  | true ↦ λ h. solid mark plain bs (subst (λ n. begins_with mark (drop n (b ∷ bs)) ≡ true) (one-add (indent bs)) h)
  | false ↦ λ h. refl
] h

either : (b : Bool) → let none : Option HtmlKind = None in cond b none none ≡ none
either true = refl
either false = refl

-- what the tests before say of a word that begins with this byte
record IsOther (on : Constructs) (columns : ℕ) (r : List ℕ) : Type 0 where
  heading : (on.heading_atx && is_atx_heading r) ≡ false
  ticks : (on.code_fenced && is_fence_of 96 r) ≡ false
  tildes : (on.code_fenced && is_fence_of 126 r) ≡ false
  html : cond on.html_flow (html_kind r) None ≡ None

module _ (on : Constructs) (columns : ℕ) where
  other-equals : (r : List ℕ) → begins_with 61 r ≡ true → IsOther on columns r
  other-equals [] h = absurd (cc)
  other-equals (b ∷ bs) h = subst (λ c. IsOther on columns (c ∷ bs)) (sym (eqb-true b 61 h)) (record { heading = and-false on.heading_atx; ticks = and-false on.code_fenced; tildes = and-false on.code_fenced; html = either on.html_flow })

  other-dashes : (r : List ℕ) → begins_with 45 r ≡ true → IsOther on columns r
  other-dashes [] h = absurd (cc)
  other-dashes (b ∷ bs) h = subst (λ c. IsOther on columns (c ∷ bs)) (sym (eqb-true b 45 h)) (record { heading = and-false on.heading_atx; ticks = and-false on.code_fenced; tildes = and-false on.code_fenced; html = either on.html_flow })

-- ---- by the tests alone

-- HTML, or what comes behind it, by the number of what was found
abbrev number_of : Option HtmlKind → ℕ
number_of None = 0
number_of (Some kind) = number kind

by-number : (kind : HtmlKind) (other : SeenKind) → cond (nat_le 1 (number kind)) (html (number kind)) other ≡ html (number kind)
by-number raw other = refl
by-number kind other = refl

-- what comes behind a fence, as a kind of line and as what is seen
abbrev line_behind : Option HtmlKind → Bool → LineKind
line_behind found i = elim found [ None ↦ cond i line.thematic_break line.text | Some kind ↦ line.html kind ]

abbrev seen_behind : (v : Bool) → (n : ℕ) → (s e f i : Bool) → SeenKind
seen_behind v n s e f i = cond (v && nat_le 1 n) (html n) (cond (s && e) underline (cond (s && f) underline (cond i thematic_break text)))

behind-same : (v : Bool) (h : Option HtmlKind) (s e f i : Bool) → (s && e) ≡ false → (s && f) ≡ false → as_seen (line_behind (cond v h None) i) ≡ seen_behind v (number_of h) s e f i
behind-same true (Some kind) s e f i h k = sym (by-number kind (cond (s && e) underline (cond (s && f) underline (cond i thematic_break text))))
behind-same true None s e f true h k = rw (h, k) refl
behind-same true None s e f false h k = rw (h, k) refl
behind-same false found s e f true h k = rw (h, k) refl
behind-same false found s e f false h k = rw (h, k) refl

-- behind the tests of blank and far lines
rests-same : (a b c : Bool) (v : Bool) (found : Option HtmlKind) (s e f i : Bool) (tick tilde : Fence) → (s && e) ≡ false → (s && f) ≡ false
    → as_seen (cond a line.heading (cond b (line.fence tick) (cond c (line.fence tilde) (line_behind (cond v found None) i)))) ≡ cond a heading (cond b (fence tick) (cond c (fence tilde) (seen_behind v (number_of found) s e f i)))
rests-same false false false v found s e f i tick tilde h k = behind-same v found s e f i h k
rests-same a b c v found s e f i tick tilde h k = refl

-- A line is none of what is tested before an underline
record IsBefore (none far a b c : Bool) (found : Option HtmlKind) : Type 0 where
  solid : none ≡ false
  heading : a ≡ false
  ticks : b ≡ false
  tildes : c ≡ false
  html : found ≡ None

no-number : (v : Bool) (found : Option HtmlKind) → cond v found None ≡ None → (v && nat_le 1 (number_of found)) ≡ false
no-number true found h = ap (λ found. nat_le 1 (number_of found)) h
no-number false found h = refl

seen-by : (none far s e f a b c v : Bool) (found : Option HtmlKind) (i : Bool) (tick tilde : Fence) → (e ≡ true → IsBefore none far a b c (cond v found None)) → (f ≡ true → IsBefore none far a b c (cond v found None))
    → (let rank : Option ℕ = cond (far || not s) None (cond e (Some 1) (cond f (Some 2) None)) in
    let rest = cond a line.heading (cond b (line.fence tick) (cond c (line.fence tilde) (line_behind (cond v found None) i))) in
    let seen : SeenKind = elim rank [ None ↦ as_seen (cond none line.blank (cond far line.indented rest)) | Some rank ↦ underline ] in seen)
    ≡ cond none blank (cond far indented (cond a heading (cond b (fence tick) (cond c (fence tilde) (seen_behind v (number_of found) s e f i)))))
seen-by true true s e f a b c v found i tick tilde h k = refl
seen-by false true s e f a b c v found i tick tilde h k = refl
seen-by true false false e f a b c v found i tick tilde h k = refl
seen-by true false true true f a b c v found i tick tilde h k = absurd (let wrong = (h refl).solid in cc)
seen-by true false true false true a b c v found i tick tilde h k = absurd (let wrong = (k refl).solid in cc)
seen-by true false true false false a b c v found i tick tilde h k = refl
seen-by false false false e f a b c v found i tick tilde h k = rests-same a b c v found false e f i tick tilde refl refl
seen-by false false true true f a b c v found i tick tilde h k = let is = h refl in let none = no-number v found is.html in rw (is.heading, is.ticks, is.tildes, none) refl
seen-by false false true false true a b c v found i tick tilde h k = let is = k refl in let none = no-number v found is.html in rw (is.heading, is.ticks, is.tildes, none) refl
seen-by false false true false false a b c v found i tick tilde h k = rests-same a b c v found true false false i tick tilde refl refl

module _ (on : Constructs) (t : List ℕ) where
  abbrev r : List ℕ
  r = unindented t

  abbrev columns : ℕ
  columns = indent t

  abbrev Before : Type 0
  Before = IsBefore (is_blank_line t) (is_far on t) (on.heading_atx && is_atx_heading r) (on.code_fenced && is_fence_of 96 r) (on.code_fenced && is_fence_of 126 r) (cond on.html_flow (html_kind r) None)

  before-equals : is_underline_of_marks 61 r ≡ true → Before
  before-equals h =
      let begins = (and_parts (begins_with 61 r) _ h).0 in
      let other = other-equals on columns r begins in
      record { solid = solid 61 refl t begins; heading = other.heading; ticks = other.ticks; tildes = other.tildes; html = other.html }

  before-dashes : is_underline_of_marks 45 r ≡ true → Before
  before-dashes h =
      let begins = (and_parts (begins_with 45 r) _ h).0 in
      let other = other-dashes on columns r begins in
      record { solid = solid 45 refl t begins; heading = other.heading; ticks = other.ticks; tildes = other.tildes; html = other.html }

  -- What is found is what the tests find
  pub seen-is-tested : seen_kind on t ≡ tested_kind on t
  seen-is-tested =
      seen-by (is_blank_line t) (is_far on t) on.heading_setext (is_underline_of_marks 61 r) (is_underline_of_marks 45 r) (on.heading_atx && is_atx_heading r) (on.code_fenced && is_fence_of 96 r) (on.code_fenced && is_fence_of 126 r)
      on.html_flow (html_kind r) (on.thematic_break && is_thematic_break r) (record { byte = 96; size = run 96 r; indent = columns }) (record { byte = 126; size = run 126 r; indent = columns }) before-equals before-dashes

  -- a line that may be an underline is a thematic break, or text
  abbrev IsBreakOrText : Type 0
  IsBreakOrText = line_kind on t ≡ cond (on.thematic_break && is_thematic_break r) line.thematic_break line.text

  break-or-text : Before → is_far on t ≡ false → IsBreakOrText
  break-or-text is near = rw (is.solid, near, is.heading, is.ticks, is.tildes, is.html) refl

  pub underline-kind : (rank : ℕ) → underline_rank on t ≡ Some rank → IsBreakOrText
  underline-kind rank =
      elim (is_far on t) as (λ far. is_far on t ≡ far → cond (far || not on.heading_setext) None (cond (is_underline_of_marks 61 r) (Some 1) (cond (is_underline_of_marks 45 r) (Some 2) None)) ≡ Some rank → IsBreakOrText) [
        | true ↦ λ far h. absurd (cc)
        | false ↦ λ near. elim on.heading_setext as (λ s. cond (not s) None (cond (is_underline_of_marks 61 r) (Some 1) (cond (is_underline_of_marks 45 r) (Some 2) None)) ≡ Some rank → IsBreakOrText) [
          | false ↦ λ h. absurd (cc)
          | true ↦ elim (is_underline_of_marks 61 r) as (λ e. is_underline_of_marks 61 r ≡ e → cond e (Some 1) (cond (is_underline_of_marks 45 r) (Some 2) None) ≡ Some rank → IsBreakOrText) [
            | true ↦ λ e h. break-or-text (before-equals e) near
            | false ↦ λ e. elim (is_underline_of_marks 45 r) as (λ f. is_underline_of_marks 45 r ≡ f → cond f (Some 2) None ≡ Some rank → IsBreakOrText) [
              | true ↦ λ f h. break-or-text (before-dashes f) near
              | false ↦ λ f h. absurd (cc)
            ] refl
          ] refl
        ]
      ] refl

-- ---- where text ends
ends-so : (rank : Option ℕ) (kind : LineKind) → (is_some rank || interrupts kind) ≡ seen_ends (elim rank [ None ↦ as_seen kind | Some rank ↦ underline ])
ends-so (Some rank) kind = refl
ends-so None line.blank = refl
ends-so None (line.html raw) = refl
ends-so None kind = refl

-- A line ends text before it, as it is defined and as it is seen
pub ends-as-seen : (on : Constructs) (line : Line) → ends_text on line ≡ seen_ends (seen_kind on (text_of line))
ends-as-seen on line = ends-so (underline_rank on (text_of line)) (line_kind on (text_of line))

no-underline : (kind : LineKind) → is_underline (as_seen kind) ≡ false
no-underline line.blank = refl
no-underline kind = refl

-- it is seen as an underline if it has a rank
pub underlined-as-seen : (on : Constructs) (t : List ℕ) → is_underline (seen_kind on t) ≡ is_some (underline_rank on t)
underlined-as-seen on t = elim (underline_rank on t) as (λ rank. is_underline (elim rank [ None ↦ as_seen (line_kind on t) | Some rank ↦ underline ]) ≡ is_some rank) [
  | None ↦ no-underline (line_kind on t)
  | Some rank ↦ refl
]
