-- Labels that may be looked up in bytes: those that may stand between brackets there, those of footnotes behind a `^`.
use Rattle.std.specs.Prelude.{◌≡◌, ℕ, ◌==◌, ◌&&◌, ◌||◌, not, cond, Bool, false, List, [], ◌∷◌, ◌++◌}
use Rattle.mdinline_labels.specs.Labels.{is_bracket}
use Rattle.mddocument_editing.specs.Known.{Key, link, note}

-- a line ends at a byte
abbrev pub ends_line : ℕ → Bool
ends_line byte = (byte == 10) || (byte == 13)

-- A label may stand at the front of bytes: it agrees with them up to its end, where a `]` is, or up to a line ending. (In the next lines the marks of
-- containers may stand between its bytes)
abbrev pub may_stand : (label bytes : List ℕ) → Bool
may_stand label [] = false
may_stand [] (b ∷ bs) = (b == 93) || ends_line b
may_stand (l ∷ ls) (b ∷ bs) = ((l == b) && may_stand ls bs) || ends_line b

-- so it may somewhere behind a `[`
abbrev pub is_in_brackets : (label bytes : List ℕ) → Bool
is_in_brackets label [] = false
is_in_brackets label (b ∷ bs) = ((b == 91) && may_stand label bs) || is_in_brackets label bs

-- ---- labels that come or go

module _ {A : Type 0} (old new : A → Bool) where
  -- one is defined before or after, and not both
  abbrev pub changes : A → Bool
  changes label = cond (old label) (not (new label)) (new label)

  -- those that change are all near
  abbrev pub AreAllNear : (near : A → Bool) → Type 0
  AreAllNear near = (label : A) → near label ≡ false → old label ≡ new label

-- what stands between brackets is a label of links that changes, or `^` and one of footnotes
abbrev pub asks_for : (changed : Key → Bool) → List ℕ → Bool
asks_for changed [] = changed (link [])
asks_for changed (b ∷ bs) = changed (link (b ∷ bs)) || ((b == 94) && changed (note bs))

-- ---- how it is found out

-- at such a byte it is not told which label stands there: a line ends, or the next byte may be escaped
abbrev pub is_untold : ℕ → Bool
is_untold byte = ends_line byte || (byte == 92)

module _ (wanted : List ℕ → Bool) where
  -- Behind a `[` and some bytes: these are a wanted label, and a `]` is the next bracket; or it is not told which label stands there
  abbrev pub label_ends : (read bytes : List ℕ) → Bool
  label_ends read [] = false
  label_ends read (b ∷ bs) = is_untold b || (((b == 93) && wanted read) || (not (is_bracket b) && label_ends (read ++ b ∷ []) bs))

  -- a wanted label may stand somewhere behind a `[`
  abbrev pub may_ask : List ℕ → Bool
  may_ask [] = false
  may_ask (b ∷ bs) = ((b == 91) && label_ends [] bs) || may_ask bs
