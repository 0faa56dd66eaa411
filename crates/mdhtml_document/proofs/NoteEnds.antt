-- The innermost footnote definition that is open ends: it is the one of its label, unless one ended before.
use Rattle.std.proofs.Common.{◌≡◌, ℕ, Bool, true, false, cond, List, [], ◌∷◌, ◌++◌, take, map, Option, None, Some, ap, refl, sym, ◌∙◌}
use Rattle.std.proofs.lemmas.Bool.{false≢true}
use Rattle.std.proofs.lemmas.List.{reverse-append}
use Rattle.std.proofs.lemmas.Slice.Eq.{bytes_eq-Decides}
use Rattle.std.specs.BTreeMap.{insert_entry}
use Rattle.std.specs.Cmp.Lexicographic.{slice_cmp}
use Rattle.std.specs.Global.{Global}
use Rattle.std.specs.Map.{lookup}
use Rattle.std.specs.Option.{is_some}
use Rattle.std.specs.Ordering.{nat_cmp}
use Rattle.std.specs.Prelude.{bytes_eq, option_map, Vec}
use Rattle.markdown_base.specs.declared.event.Event.{Event}
use Rattle.mddocument_link_targets.proofs.Lookups.{added}
use Rattle.mdhtml_document.specs.declared.note_section.Note.{Note}
use Rattle.mdhtml_document.specs.Frames.{as_note, open_notes}
use Rattle.mdhtml_document.specs.Walks.{first_note, first_of}

abbrev pub Entries : Type 0
Entries = List (Vec ℕ Global × Vec Event Global)

abbrev pub kept : (label : List ℕ) → Entries → Option (Vec Event Global)
kept label es = lookup (λ known. bytes_eq label known.items) es

abbrev pub known : (label : List ℕ) → Entries → Option (List Event)
known label es = option_map (λ events. events.items) (kept label es)

-- the innermost one
pub innermost : (all front : List Note) (n : Note) → all ≡ front ++ n ∷ [] → take 1 (open_notes all) ≡ (n.label.items, n.events.items) ∷ []
innermost all front n h = ap (λ ns. take 1 (open_notes ns)) h ∙ ap (λ ns. take 1 (map as_note ns)) (reverse-append front (n ∷ []))

pub mapped-some : {A B : Type 0} (f : A → B) (o : Option A) → is_some (option_map f o) ≡ is_some o
mapped-some f None = refl
mapped-some f (Some a) = refl

none-of : {A : Type 0} (o : Option A) → is_some o ≡ false → o ≡ None
none-of None h = refl
none-of (Some a) h = absurd (false≢true (sym h))

none-behind : {A : Type 0} (o : Option A) → first_of o None ≡ o
none-behind None = refl
none-behind (Some a) = refl

stays : {A : Type 0} (o : Option A) (x : Option A) → is_some o ≡ true → o ≡ first_of o x
stays None x h = absurd (false≢true h)
stays (Some a) x h = refl

module _ (label : List ℕ) (n : Note) (es : Entries) where
  -- none of its label ended before: now it is found
  pub end-new : is_some (kept n.label.items es) ≡ false
      → known label (insert_entry (λ a b. slice_cmp nat_cmp a.items b.items) es n.label n.events) ≡ first_of (known label es) (first_note label ((n.label.items, n.events.items) ∷ []))
  end-new h = ap (option_map (λ events. events.items)) (added (λ k. k.items) label n.label n.events es) ∙ by (bytes_eq label n.label.items) refl
    where
      by : (b : Bool) → bytes_eq label n.label.items ≡ b → option_map (λ events. events.items) (cond b (Some n.events) (kept label es)) ≡ first_of (known label es) (cond b (Some n.events.items) None)
      by true is =
          let same : label ≡ n.label.items = (bytes_eq-Decides label n.label.items).0 is in
          sym (ap (λ o. first_of (option_map (λ events. events.items) o) (Some n.events.items)) (ap (λ l. kept l es) same ∙ none-of (kept n.label.items es) h))
      by false is = sym (none-behind (known label es))

  -- one of its label ended before: that one stays
  pub end-again : is_some (kept n.label.items es) ≡ true → known label es ≡ first_of (known label es) (first_note label ((n.label.items, n.events.items) ∷ []))
  end-again h = by (bytes_eq label n.label.items) refl
    where
      by : (b : Bool) → bytes_eq label n.label.items ≡ b → known label es ≡ first_of (known label es) (cond b (Some n.events.items) None)
      by true is =
          let same : label ≡ n.label.items = (bytes_eq-Decides label n.label.items).0 is in
          stays (known label es) (Some n.events.items) (mapped-some (λ events. events.items) (kept label es) ∙ ap (λ l. is_some (kept l es)) same ∙ h)
      by false is = sym (none-behind (known label es))
