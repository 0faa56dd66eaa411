-- What words choose, word by word, is what the options that they spell choose.
use Rattle.mdevents_program.proofs.Prelude.{arith, ◌≡◌, ◌++◌, ℕ, List, [], ◌∷◌, Option, Some, None, true, false, Bool, refl, ◌∙◌, codes, filter_map, unwrap_or, option_and_then, bytes_eq, Choice, Which, Lines, Spelled, decimal_of, which_of, tab_size_of, options_of, cut_in, deep_in, machine_in, tab_in, at_most_one, choice_together, chosen_after}

-- what came before of an option with a value
abbrev given : {A : Type 0} → Option A → List A
given None = []
given (Some x) = x ∷ []

-- and of `--deep`
abbrev told : Bool → List Bool
told true = true ∷ []
told false = []

-- what lists of cuts, of `--deep`, of machines and of sizes of tabs choose
abbrev choose : List ℕ → List Bool → List Which → List ℕ → Option Choice
choose ns ds ws ts =
    option_and_then (λ n. option_and_then (λ is_deep. option_and_then (λ which. option_and_then (λ t. choice_together n (unwrap_or is_deep false) (unwrap_or which Lines) (unwrap_or t 4))
    (at_most_one ts)) (at_most_one ws)) (at_most_one ds))
    (at_most_one ns)

-- what options choose together with those that came before
abbrev together : Option ℕ → Bool → Option Which → Option ℕ → Option (List Spelled) → Option Choice
together n d which t options =
    option_and_then (λ rest. choose (given n ++ filter_map cut_in rest) (told d ++ filter_map deep_in rest) (given which ++ filter_map machine_in rest) (given t ++ filter_map tab_in rest)) options

-- what words choose after these
abbrev after : Option ℕ → Bool → Option Which → Option ℕ → List (List ℕ) → Option Choice
after n d which t words = chosen_after (record { cut = n; deep = d; machine = which; tab = t }) words

-- a word that is not `--deep`, and its value
module _ (words : List (List ℕ)) (known : (n : Option ℕ) (d : Bool) (which : Option Which) (t : Option ℕ) → after n d which t words ≡ together n d which t (options_of words))
    (name value : List ℕ) (not-deep : bytes_eq name (codes "--deep") ≡ false) where
  abbrev Goal : Option ℕ → Bool → Option Which → Option ℕ → Type 0
  Goal n d which t = after n d which t (name ∷ value ∷ words) ≡ together n d which t (options_of (name ∷ value ∷ words))

  by-cut : (n : Option ℕ) (d : Bool) (which : Option Which) (t : Option ℕ) → bytes_eq name (codes "--cut") ≡ true → (number : Option ℕ) → decimal_of value ≡ number → Goal n d which t
  by-cut None d which t e None f = rw (not-deep, e, f) refl
  by-cut None d which t e (Some n) f = rw (not-deep, e, f) (known (Some n) d which t ∙ grind arith)
  by-cut (Some m) d which t e None f = rw (not-deep, e, f) refl
  by-cut (Some m) d which t e (Some n) f = rw (not-deep, e, f) (grind arith)

  by-machine : (n : Option ℕ) (d : Bool) (which : Option Which) (t : Option ℕ) → bytes_eq name (codes "--cut") ≡ false → bytes_eq name (codes "--machine") ≡ true → (machine : Option Which) → which_of value ≡ machine → Goal n d which t
  by-machine n d None t a e None f = rw (not-deep, a, e, f) refl
  by-machine n d None t a e (Some w) f = rw (not-deep, a, e, f) (known n d (Some w) t ∙ grind arith)
  by-machine n d (Some v) t a e None f = rw (not-deep, a, e, f) refl
  by-machine n d (Some v) t a e (Some w) f = rw (not-deep, a, e, f) (grind arith)

  by-tab : (n : Option ℕ) (d : Bool) (which : Option Which) (t : Option ℕ) → bytes_eq name (codes "--cut") ≡ false → bytes_eq name (codes "--machine") ≡ false → bytes_eq name (codes "--tab") ≡ true
      → (size : Option ℕ) → tab_size_of value ≡ size → Goal n d which t
  by-tab n d which None a b e None f = rw (not-deep, a, b, e, f) refl
  by-tab n d which None a b e (Some m) f = rw (not-deep, a, b, e, f) (known n d which (Some m) ∙ grind arith)
  by-tab n d which (Some m) a b e None f = rw (not-deep, a, b, e, f) refl
  by-tab n d which (Some m) a b e (Some k) f = rw (not-deep, a, b, e, f) (grind arith)

  by-name : (n : Option ℕ) (d : Bool) (which : Option Which) (t : Option ℕ) (b c s : Bool) → bytes_eq name (codes "--cut") ≡ b → bytes_eq name (codes "--machine") ≡ c → bytes_eq name (codes "--tab") ≡ s → Goal n d which t
  by-name n d which t true c s e f g = by-cut n d which t e (decimal_of value) refl
  by-name n d which t false true s e f g = by-machine n d which t e f (which_of value) refl
  by-name n d which t false false true e f g = by-tab n d which t e f g (tab_size_of value) refl
  by-name n d which t false false false e f g = rw (not-deep, e, f, g) refl

-- without more options
alone : (n : Option ℕ) (d : Bool) (which : Option Which) (t : Option ℕ) → after n d which t [] ≡ together n d which t (Some [])
alone n d which t = grind arith

one-word : (n : Option ℕ) (d : Bool) (which : Option Which) (t : Option ℕ) (name : List ℕ) (b : Bool) → bytes_eq name (codes "--deep") ≡ b
    → after n d which t (name ∷ []) ≡ together n d which t (options_of (name ∷ []))
one-word n false which t name true e = rw e (alone n true which t ∙ grind arith)
one-word n true which t name true e = rw e (grind arith)
one-word n d which t name false e = rw e refl

first-word : (name value : List ℕ) (words : List (List ℕ)) (known : (n : Option ℕ) (d : Bool) (which : Option Which) (t : Option ℕ) → after n d which t words ≡ together n d which t (options_of words))
    → ((n : Option ℕ) (d : Bool) (which : Option Which) (t : Option ℕ) → after n d which t (value ∷ words) ≡ together n d which t (options_of (value ∷ words)))
    → (n : Option ℕ) (d : Bool) (which : Option Which) (t : Option ℕ) (b : Bool) → bytes_eq name (codes "--deep") ≡ b → after n d which t (name ∷ value ∷ words) ≡ together n d which t (options_of (name ∷ value ∷ words))
first-word name value words known known-behind n false which t true e = rw e (known-behind n true which t ∙ grind arith)
first-word name value words known known-behind n true which t true e = rw e (grind arith)
first-word name value words known known-behind n d which t false e =
    by-name words known name value e n d which t (bytes_eq name (codes "--cut")) (bytes_eq name (codes "--machine")) (bytes_eq name (codes "--tab")) refl refl refl

-- words choose what the options that they spell choose
pub after-together : (n : Option ℕ) (d : Bool) (which : Option Which) (t : Option ℕ) (words : List (List ℕ)) → after n d which t words ≡ together n d which t (options_of words)
after-together n d which t [] = alone n d which t
after-together n d which t (name ∷ []) = one-word n d which t name (bytes_eq name (codes "--deep")) refl
after-together n d which t (name ∷ value ∷ words) =
    first-word name value words (λ m e w u. after-together m e w u words) (λ m e w u. after-together m e w u (value ∷ words)) n d which t (bytes_eq name (codes "--deep")) refl
