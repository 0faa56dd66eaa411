-- Bytes that look up no label that changes have the same events by both sets of labels.
use Rattle.mddocument_editing.proofs.Prelude.{◌≡◌, ◌&&◌, ◌∙◌, ℕ, Bool, true, false, List, [], ◌∷◌, refl, subst, sym, ap, AllByRecursion, every-map, or_parts, ParseOptions, IsDocument, document, is_label, asked_in, events_by, BracketsDecide, is_in_brackets, asks_for, may_ask, has_end, Key, link, note, part_events}
use Rattle.mdgfm_documents.specs.Documents.{with_gfm_by}
use Rattle.mddocument_editing.proofs.AskedCalls.{call-stays, no-call}
use Rattle.mddocument_editing.proofs.AskedInBrackets.{asked-in-brackets}
use Rattle.mddocument_editing.proofs.AskedNothing.{asks-nothing}
use Rattle.mddocument_editing.proofs.Below.{calls-decide, labels-decide}
use Rattle.mddocument_editing.proofs.MayStand.{none-wanted}
use Rattle.std.proofs.Common.{◌==◌}

-- bytes have the same events by both sets of labels
abbrev pub HasSameEvents : ParseOptions → (defined others : Key → Bool) → List ℕ → Type 0
HasSameEvents options defined others bytes = part_events options others bytes ≡ part_events options defined bytes

-- a document has the same events without calls, if these sets of labels of links agree on what may stand between its brackets
pub brackets-decide : BracketsDecide
brackets-decide options defined others bytes is agree =
    (labels-decide defined others options bytes
    (every-map (λ label. (is_label label ≡ true) × (is_in_brackets label bytes ≡ true)) (λ label. others label ≡ defined label) (λ label may. agree label may.0 may.1) (asked_in options defined bytes)
    (asked-in-brackets options defined bytes is))).0

module _ (options : ParseOptions) (defined others : Key → Bool) where
  abbrev links : (Key → Bool) → List ℕ → Bool
  links known label = known (link label)

  abbrev notes : (Key → Bool) → List ℕ → Bool
  notes known label = known (note label)

  -- so do bytes with no `]`, whatever these sets are
  pub same-events : (bytes : List ℕ) → has_end bytes ≡ false → HasSameEvents options defined others bytes
  same-events bytes none =
      ap (with_gfm_by (notes others) options bytes)
      (labels-decide (links defined) (links others) options bytes
      (subst (AllByRecursion (λ (label : List ℕ). others (link label) ≡ defined (link label))) (sym (asks-nothing options (links defined) bytes none)) tt)).0
      ∙ calls-decide options (links defined) (notes defined) (notes others) bytes (λ k n is. absurd (no-call bytes none k n is))

-- what is asked for between brackets
link-unchanged : (changed : Key → Bool) (label : List ℕ) → asks_for changed label ≡ false → changed (link label) ≡ false
link-unchanged changed [] none = none
link-unchanged changed (b ∷ bs) none = (or_parts (changed (link (b ∷ bs))) ((b == 94) && changed (note bs)) none).0

-- two sets of labels that agree on the labels that do not change
module _ (options : ParseOptions) (defined others changed : Key → Bool) (agree : (key : Key) → changed key ≡ false → others key ≡ defined key) where
  -- bytes of a document in which no label that changes may be looked up
  none-asked : (bytes : List ℕ) → IsDocument (document options bytes) → may_ask (asks_for changed) bytes ≡ false → HasSameEvents options defined others bytes
  none-asked bytes is none =
      ap (with_gfm_by (λ label. others (note label)) options bytes)
      (brackets-decide options (λ label. defined (link label)) (λ label. others (link label)) bytes is
      (λ label one within. agree (link label) (link-unchanged changed label (none-wanted (asks_for changed) label bytes none one within))))
      ∙ calls-decide options (λ label. defined (link label)) (λ label. defined (note label)) (λ label. others (note label)) bytes
      (λ k n is. agree (note _) (call-stays changed bytes none k n is))

  -- or that have no `]`
  pub same-unless-asked : (bytes : List ℕ) → IsDocument (document options bytes) → (has_end bytes && may_ask (asks_for changed) bytes) ≡ false → HasSameEvents options defined others bytes
  same-unless-asked bytes is none = by (has_end bytes) refl none
    where
      by : (b : Bool) → has_end bytes ≡ b → (b && may_ask (asks_for changed) bytes) ≡ false → HasSameEvents options defined others bytes
      by true ends none = none-asked bytes is none
      by false ends none = same-events options defined others bytes ends
