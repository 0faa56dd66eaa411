-- Words among which `--unsafe` is not choose safe HTML.
use Rattle.std.specs.Prelude.{◌||◌, IfSome}
use Rattle.mdprograms.specs.Numbers.{decimal_of, tab_size_of}
use Rattle.mdhtml_program.proofs.Prelude.{◌≡◌, ℕ, Bool, true, false, true≢false, cond, List, [], ◌∷◌, Option, None, Some, option_and_then, option_map, refl, list_any, Choice, choice_of_words, chosen_after, lets_all, asks_gfm, asks_two_tildes, nothing_chosen, once, stands_alone, with_value, with_word, or_parts}

-- a choice is safe, if there is one
abbrev IsSafeIfSome : Option Choice → Type 0
IsSafeIfSome choice = IfSome choice (λ c. c.is_unsafe ≡ false)

mapped : {A : Type 0} (with : A → Choice) → ((x : A) → (with x).is_unsafe ≡ false) → (value : Option A) → IsSafeIfSome (option_map with value)
mapped with h None = tt
mapped with h (Some x) = h x

valued : (tab depth : Bool) (a b other : Option Choice) → IsSafeIfSome a → IsSafeIfSome b → IsSafeIfSome other → IsSafeIfSome (cond tab a (cond depth b other))
valued true depth a b other h k l = h
valued false true a b other h k l = k
valued false false a b other h k l = l

next : (given : Option Choice) (words : List (List ℕ)) → IsSafeIfSome given → ((c : Choice) → c.is_unsafe ≡ false → IsSafeIfSome (chosen_after c words)) → IsSafeIfSome (option_and_then (λ c. chosen_after c words) given)
next None words h k = tt
next (Some c) words h k = k c h

not-first : (b c : Bool) (x y : Option Choice) → (b || c) ≡ false → IsSafeIfSome y → IsSafeIfSome (cond b x y)
not-first true c x y h k = absurd (true≢false h)
not-first false c x y h k = k

-- an option without a value, if it did not come before
new : (given had : Bool) (next : Choice) (other : Option Choice) → next.is_unsafe ≡ false → IsSafeIfSome other → IsSafeIfSome (cond given (cond had None (Some next)) other)
new true true next other is h = tt
new true false next other is h = is
new false had next other is h = h

-- one choice or another
either : (b : Bool) (x y : Option Choice) → IsSafeIfSome x → IsSafeIfSome y → IsSafeIfSome (cond b x y)
either true x y h k = h
either false x y h k = k

word-safe : (choice : Choice) (word : List ℕ) (others : Bool) → choice.is_unsafe ≡ false → lets_all word || others ≡ false → IsSafeIfSome (with_word choice word)
word-safe choice word others is h =
    let two = new (asks_two_tildes word) choice.needs_two_tildes (record choice { needs_two_tildes = true }) None is tt in
    not-first (lets_all word) others _ _ h (new (asks_gfm word) choice.is_gfm (record choice { is_gfm = true }) _ is two)

value-safe : (choice : Choice) (name value : List ℕ) → choice.is_unsafe ≡ false → IsSafeIfSome (with_value choice name value)
value-safe choice name value is =
    valued _ _ _ _ None (mapped (λ t. record choice { tab = Some t }) (λ x. is) (once choice.tab (tab_size_of value)))
    (mapped (λ n. record choice { depth = Some n }) (λ x. is) (once choice.depth (decimal_of value))) tt

safe-after : (choice : Choice) (words : List (List ℕ)) → choice.is_unsafe ≡ false → list_any lets_all words ≡ false → IsSafeIfSome (chosen_after choice words)
safe-after choice [] is h = is
safe-after choice (a ∷ []) is h = either (stands_alone a) _ _ (word-safe choice a false is h) tt
safe-after choice (a ∷ b ∷ words) is h =
    let others = (or_parts (lets_all a) (list_any lets_all (b ∷ words)) h).1 in
    let more = (or_parts (lets_all b) (list_any lets_all words) others).1 in
    either (stands_alone a) _ _ (next (with_word choice a) (b ∷ words) (word-safe choice a _ is h) (λ c k. safe-after c (b ∷ words) k others))
    (next (with_value choice a b) words (value-safe choice a b is) (λ c k. safe-after c words k more))

pub safe-words : (words : List (List ℕ)) → list_any lets_all words ≡ false → IsSafeIfSome (choice_of_words words)
safe-words words h = safe-after nothing_chosen words refl h
