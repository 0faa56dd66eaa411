-- What states share of a fence while fenced code is read, and the bytes of fences, by class.
use Rattle.mdblock_leaf_blocks.proofs.Prelude.{⊎_elim, Bool, List, Some, [], ap, cond, false, inl, inr, not, refl, subst, sym, true, ℕ, ◌&&◌, ◌==◌, ◌∙◌, ◌∷◌, ◌≡◌, ◌⊎◌, and_from, and_parts, eqb-true, not-true, AllByRecursion, Seat, Point, Name, Next, Configuration, Local, Given, Text, blank, flow_byte, is_blank, is_fence, is_line_feed, line_feed, tick, tilde, word_byte, flow, word-is-word, word-no-feed, Mark, Fence, IsInLine, is_white, Act, Rows, does, named, picked, row}
use Rattle.mdblock_leaf_blocks.proofs.Lines.{ArePlain, IsAt, Keeping, ReadOnce, Reads, counted, is_dark, is_in_line, row-takes-on, rows_of, seen, told}

-- What states share of a fence stays, and so do edits and resolvers
abbrev pub KeepsFence : (before after : Local Unit Unit) → Type 0
KeepsFence before after =
    (after.map ≡ before.map) × (after.resolvers ≡ before.resolvers)
    × (after.tokenize_state.marker ≡ before.tokenize_state.marker) × (after.tokenize_state.size_b ≡ before.tokenize_state.size_b) × (after.tokenize_state.size_c ≡ before.tokenize_state.size_c)

abbrev pub fence_kept : Keeping
fence_kept = record { kept = KeepsFence; same = λ a. (refl, refl, refl, refl, refl); on = λ a b c h k. (k.0 ∙ h.0, k.1 ∙ h.1, k.2 ∙ h.2, k.3 ∙ h.3, k.4 ∙ h.4) }

-- the fence whose block is read
abbrev pub IsOfFence : Fence → Local Unit Unit → Type 0
IsOfFence f local = (local.tokenize_state.marker ≡ f.byte) × (local.tokenize_state.size_b ≡ f.size) × (local.tokenize_state.size_c ≡ f.indent)

pub of-fence-kept : (f : Fence) (a b : Local Unit Unit) → KeepsFence a b → IsOfFence f a → IsOfFence f b
of-fence-kept f a b k h = (k.2 ∙ h.0, k.3 ∙ h.1, k.4 ∙ h.2)

abbrev pub IsRead : Given → Text → Configuration Unit Unit → Name → (line rest : List Seat) → List Mark → Name → Type 0
IsRead g t = Reads g t fence_kept

-- ---- classes of bytes
pub feed-class : (b : ℕ) → (b == 10) ≡ true → flow_byte b ≡ line_feed
feed-class b feed = ap (λ t. cond t line_feed (cond (is_white b) blank (word_byte b))) feed

pub word-class : (b : ℕ) → (b == 10) ≡ false → is_white b ≡ false → (is_line_feed (flow_byte b) ≡ false) × (is_blank (flow_byte b) ≡ false)
word-class b feed white =
    let is : flow_byte b ≡ word_byte b = ap (λ t. cond t line_feed (cond (is_white b) blank (word_byte b))) feed ∙ ap (λ t. cond t blank (word_byte b)) white in
    let (no_feed, no_blank) = word-no-feed (word_byte b) (word-is-word b) in
    (ap is_line_feed is ∙ no_feed, ap is_blank is ∙ no_blank)

-- a byte of a word of an info string
abbrev pub is_word : ℕ → Bool
is_word b = is_in_line b && is_dark b

pub all-words : (l : List Seat) → IsInLine l → AllByRecursion (λ (s : Seat). is_dark s.byte ≡ true) l → AllByRecursion (λ (s : Seat). is_word s.byte ≡ true) l
all-words [] h dark = tt
all-words (s ∷ ss) h dark = (and_from (is_in_line s.byte) (is_dark s.byte) (ap not h.0) dark.0, all-words ss h.1 dark.1)

pub class-of-word : (b : ℕ) → is_word b ≡ true → (is_line_feed (flow_byte b) ≡ false) × (is_blank (flow_byte b) ≡ false)
class-of-word b h = let (in_line, dark) = and_parts (is_in_line b) (is_dark b) h in word-class b (not-true (b == 10) in_line) (not-true (is_white b) dark)

-- a byte is a mark of fences
abbrev pub IsMark : ℕ → Type 0
IsMark b = (b ≡ 96) ⊎ (b ≡ 126)

pub mark-class : (b : ℕ) → IsMark b → ((b == 10) ≡ false) × (is_white b ≡ false) × (is_line_feed (flow_byte b) ≡ false) × (is_blank (flow_byte b) ≡ false) × (is_fence (flow_byte b) ≡ true)
mark-class b (inl e) = subst (λ b. ((b == 10) ≡ false) × (is_white b ≡ false) × (is_line_feed (flow_byte b) ≡ false) × (is_blank (flow_byte b) ≡ false) × (is_fence (flow_byte b) ≡ true)) (sym e) (refl, refl, refl, refl, refl)
mark-class b (inr e) = subst (λ b. ((b == 10) ≡ false) × (is_white b ≡ false) × (is_line_feed (flow_byte b) ≡ false) × (is_blank (flow_byte b) ≡ false) × (is_fence (flow_byte b) ≡ true)) (sym e) (refl, refl, refl, refl, refl)

-- the byte of a fence
module _ (f : Fence) (of : IsMark f.byte) where
  abbrev pub is_mark : ℕ → Bool
  is_mark b = b == f.byte

  pub of-fence : (b : ℕ) → is_mark b ≡ true → IsMark b
  of-fence b h = subst IsMark (sym (eqb-true b f.byte h)) of

-- a state whose row is the same at both marks
pub takes-mark : (g : Given) (t : Text) (name to : Name) (acts : List (Act Unit Unit)) → ((b : _) → rows_of (named flow.states name) b (Some tick) ≡ row acts (Next to)) → ((b : _) → rows_of (named flow.states name) b (Some tilde) ≡ row acts (Next to))
    → ArePlain acts → ReadOnce acts → (k : Configuration Unit Unit) (p : Point) (s : Seat) (rest : List Seat) → IsMark s.byte → IsAt t k p (s ∷ rest)
    → let sight = seen g t KeepsFence k name p (s ∷ rest) in KeepsFence k.local (does acts sight (counted k)).local → IsRead g t k name (s ∷ []) rest (told sight acts) to
takes-mark g t name to acts at_tick at_tilde plain once k p s rest is at kept =
    let pick = λ (r : Rows Unit Unit). picked r g (seen g t KeepsFence k name p (s ∷ rest)) (counted k) in
    ⊎_elim (λ e. row-takes-on g t KeepsFence k name p s rest tick acts to at (ap flow_byte e) (ap pick (at_tick _)) plain once kept)
    (λ e. row-takes-on g t KeepsFence k name p s rest tilde acts to at (ap flow_byte e) (ap pick (at_tilde _)) plain once kept) is
