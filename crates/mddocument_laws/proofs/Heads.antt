-- The events of headings that tell ranks, among others: where other events come and go, the ranks stay.
use Rattle.mddocument_laws.proofs.Prelude.{◌≡◌, ℕ, List, [], ◌∷◌, ◌++◌, Bool, true, false, cond, None, map, refl, sym, ap, ◌∙◌, subst, arith, and_parts, same_Some, AllByRecursion, ◌&&◌, ◌||◌, option_map, Event, Name, IsVoidTight, is_enter, is_void, same_name, same_name-true, byte_of_first, enters, enters_heading, from_first, rank_at, ranks_in, size_of_first, ◌==◌}
use Rattle.markdown_base.proofs.Facts.Kinds.{enter-is}
use Rattle.markdown_base.specs.declared.event.Name.TheVariants as name
use Rattle.markdown_tokenizer.proofs.Readings.Formed.{tight-behind}
use Rattle.mddocument_laws.proofs.Chosen.{bare, chosen}
use Rattle.mddocument_laws.proofs.Inside.{is_of_heading}

-- the events with these names, without their links
abbrev pub heads : List Event → List Event
heads es = chosen is_of_heading es

-- no event has such a name
abbrev pub AreOther : List Event → Type 0
AreOther es = AllByRecursion (λ (e : Event). is_of_heading e.name ≡ false) es

-- ---- ranks

-- what enters a span of such a name has it
has-name : (n : Name) → is_of_heading n ≡ true → (e : Event) → enters n e ≡ true → is_of_heading e.name ≡ true
has-name n is e h = subst (λ m. is_of_heading m ≡ true) (sym (same_name-true e.name n (and_parts (is_enter e.kind) (same_name e.name n) h).1)) is

module _ (bytes : List ℕ) (n : Name) (is : is_of_heading n ≡ true) where
  -- an event that enters no span of the name
  skipped : {A : Type 0} (f : List Event → A) (x : Event) (l : List Event) (b : Bool) → enters n x ≡ false → f (from_first (enters n) (cond b (bare x ∷ l) l)) ≡ f (from_first (enters n) l)
  skipped f x l true e = ap (λ c. f (cond c (bare x ∷ l) (from_first (enters n) l))) e
  skipped f x l false e = refl

  pub byte-heads : (es : List Event) → byte_of_first bytes (from_first (enters n) (heads es)) ≡ byte_of_first bytes (from_first (enters n) es)
  byte-heads [] = refl
  byte-heads (x ∷ xs) = by (enters n x) refl (byte-heads xs)
    where
      by : (b : Bool) → enters n x ≡ b → byte_of_first bytes (from_first (enters n) (heads xs)) ≡ byte_of_first bytes (from_first (enters n) xs)
          → byte_of_first bytes (from_first (enters n) (cond (is_of_heading x.name) (bare x ∷ heads xs) (heads xs))) ≡ byte_of_first bytes (cond b (x ∷ xs) (from_first (enters n) xs))
      by true e more =
          ap (λ c. byte_of_first bytes (from_first (enters n) (cond c (bare x ∷ heads xs) (heads xs)))) (has-name n is x e)
          ∙ ap (λ c. byte_of_first bytes (cond c (bare x ∷ heads xs) (from_first (enters n) (heads xs)))) e
      by false e more = skipped (byte_of_first bytes) x (heads xs) (is_of_heading x.name) e ∙ more

  -- a void span ends directly behind its enter
  module _ (void : is_void n ≡ true) where
    size-here : (x : Event) (xs : List Event) → IsVoidTight (x ∷ xs) → enters n x ≡ true → size_of_first (bare x ∷ heads xs) ≡ size_of_first (x ∷ xs)
    size-here x [] tight e = refl
    size-here x (y ∷ ys) tight e =
        let both = and_parts (is_enter x.kind) (same_name x.name n) e in
        let named : x.name ≡ n = same_name-true x.name n both.1 in
        let r = tight 0 x refl (enter-is x.kind both.0) (subst (λ m. is_void m ≡ true) (sym named) void) in
        let same : y ≡ r.0 = same_Some y r.0 r.1 in
        let there : is_of_heading y.name ≡ true = subst (λ m. is_of_heading m ≡ true) (sym (ap (λ (f : Event). f.name) same ∙ r.3 ∙ named)) is in
        ap (λ c. size_of_first (bare x ∷ cond c (bare y ∷ heads ys) (heads ys))) there

    pub size-heads : (es : List Event) → IsVoidTight es → size_of_first (from_first (enters n) (heads es)) ≡ size_of_first (from_first (enters n) es)
    size-heads [] tight = refl
    size-heads (x ∷ xs) tight = by (enters n x) refl (size-heads xs (tight-behind x xs tight))
      where
        by : (b : Bool) → enters n x ≡ b → size_of_first (from_first (enters n) (heads xs)) ≡ size_of_first (from_first (enters n) xs)
            → size_of_first (from_first (enters n) (cond (is_of_heading x.name) (bare x ∷ heads xs) (heads xs))) ≡ size_of_first (cond b (x ∷ xs) (from_first (enters n) xs))
        by true e more =
            ap (λ c. size_of_first (from_first (enters n) (cond c (bare x ∷ heads xs) (heads xs)))) (has-name n is x e)
            ∙ ap (λ c. size_of_first (cond c (bare x ∷ heads xs) (from_first (enters n) (heads xs)))) e
            ∙ size-here x xs tight e
        by false e more = skipped size_of_first x (heads xs) (is_of_heading x.name) e ∙ more

module _ (bytes : List ℕ) where
  rank-heads : (e : Event) (es : List Event) → IsVoidTight es → rank_at bytes (bare e) (heads es) ≡ rank_at bytes e es
  rank-heads e es tight =
      let size = size-heads bytes name.HeadingAtxSequence refl refl es tight in
      let byte = byte-heads bytes name.HeadingSetextUnderlineSequence refl es in
      (λ i. cond (enters name.HeadingAtx e) (size i) (cond (enters name.HeadingSetext e) (option_map (λ (b : ℕ). cond (b == 61) 1 2) (byte i)) None))

  -- what has no such name enters no heading
  no-heading : (k a s r : Bool) → (a || (s || r)) ≡ false → ((k && a) || (k && s)) ≡ false
  no-heading k a s r h = grind arith

  -- The ranks that events with empty void spans tell are those that the events of headings alone tell
  pub ranks-heads : (es : List Event) → IsVoidTight es → ranks_in bytes (heads es) ≡ ranks_in bytes es
  ranks-heads [] tight = refl
  ranks-heads (e ∷ es) tight = by (is_of_heading e.name) refl (ranks-heads es behind)
    where
      behind : IsVoidTight es
      behind = tight-behind e es tight

      by : (b : Bool) → is_of_heading e.name ≡ b → ranks_in bytes (heads es) ≡ ranks_in bytes es
          → ranks_in bytes (cond b (bare e ∷ heads es) (heads es)) ≡ cond (enters_heading e) (rank_at bytes e es ∷ ranks_in bytes es) (ranks_in bytes es)
      by true h more = λ i. cond (enters_heading e) (rank-heads e es behind i ∷ more i) (more i)
      by false h more =
          more
          ∙ sym (ap (λ c. cond c (rank_at bytes e es ∷ ranks_in bytes es) (ranks_in bytes es)) (no-heading (is_enter e.kind) (same_name e.name name.HeadingAtx) (same_name e.name name.HeadingSetext) _ h))

  -- links do not matter
  module _ (n : Name) where
    byte-bare : (es : List Event) → byte_of_first bytes (from_first (enters n) (map bare es)) ≡ byte_of_first bytes (from_first (enters n) es)
    byte-bare [] = refl
    byte-bare (x ∷ xs) = by (enters n x) (byte-bare xs)
      where
        by : (b : Bool) → byte_of_first bytes (from_first (enters n) (map bare xs)) ≡ byte_of_first bytes (from_first (enters n) xs)
            → byte_of_first bytes (cond b (bare x ∷ map bare xs) (from_first (enters n) (map bare xs))) ≡ byte_of_first bytes (cond b (x ∷ xs) (from_first (enters n) xs))
        by true more = refl
        by false more = more

    size-here-bare : (x : Event) (xs : List Event) → size_of_first (bare x ∷ map bare xs) ≡ size_of_first (x ∷ xs)
    size-here-bare x [] = refl
    size-here-bare x (y ∷ ys) = refl

    size-bare : (es : List Event) → size_of_first (from_first (enters n) (map bare es)) ≡ size_of_first (from_first (enters n) es)
    size-bare [] = refl
    size-bare (x ∷ xs) = by (enters n x) (size-bare xs)
      where
        by : (b : Bool) → size_of_first (from_first (enters n) (map bare xs)) ≡ size_of_first (from_first (enters n) xs)
            → size_of_first (cond b (bare x ∷ map bare xs) (from_first (enters n) (map bare xs))) ≡ size_of_first (cond b (x ∷ xs) (from_first (enters n) xs))
        by true more = size-here-bare x xs
        by false more = more

  rank-bare : (e : Event) (es : List Event) → rank_at bytes (bare e) (map bare es) ≡ rank_at bytes e es
  rank-bare e es =
      let size = size-bare name.HeadingAtxSequence es in
      let byte = byte-bare name.HeadingSetextUnderlineSequence es in
      (λ i. cond (enters name.HeadingAtx e) (size i) (cond (enters name.HeadingSetext e) (option_map (λ (b : ℕ). cond (b == 61) 1 2) (byte i)) None))

  ranks-bare : (es : List Event) → ranks_in bytes (map bare es) ≡ ranks_in bytes es
  ranks-bare [] = refl
  ranks-bare (e ∷ es) = let rank = rank-bare e es in let more = ranks-bare es in λ i. cond (enters_heading e) (rank i ∷ more i) (more i)

  -- so lists that are the same but for links tell the same ranks
  pub ranks-alike : (xs ys : List Event) → map bare xs ≡ map bare ys → ranks_in bytes xs ≡ ranks_in bytes ys
  ranks-alike xs ys same = sym (ranks-bare xs) ∙ ap (ranks_in bytes) same ∙ ranks-bare ys

  -- events in front that enter no heading
  pub ranks-behind : (xs ys : List Event) → AllByRecursion (λ (e : Event). enters_heading e ≡ false) xs → ranks_in bytes (xs ++ ys) ≡ ranks_in bytes ys
  ranks-behind [] ys h = refl
  ranks-behind (x ∷ xs) ys h = ap (λ c. cond c (rank_at bytes x (xs ++ ys) ∷ ranks_in bytes (xs ++ ys)) (ranks_in bytes (xs ++ ys))) h.0 ∙ ranks-behind xs ys h.1
