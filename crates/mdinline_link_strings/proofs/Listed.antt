-- Strings of a list, from the front.
use Rattle.std.proofs.Common.{◌≡◌, ◌∙◌, ◌+◌, ◌≤◌, ◌<◌, ◌++◌, ◌&&◌, ℕ, zero, suc, List, [], ◌∷◌, Bool, true, false, cond, ap, arith, drop, length, refl, subst, sym}
use Rattle.std.proofs.lemmas.Bool.{false≢true}
use Rattle.std.proofs.Math.Bool.{and-false}
use Rattle.std.specs.Prelude.{None, slice_index_or}
use Rattle.markdown_base.specs.declared.configuration.Constructs.{Constructs}
use Rattle.markdown_base.specs.declared.event.Event.{Event}
use Rattle.markdown_base.specs.declared.event.Kind.TheVariants.{Enter}
use Rattle.markdown_base.specs.declared.event.Name.TheVariants.{AttentionSequence}
use Rattle.mdinline_link_strings.specs.Costs.{string_size_from}
use Rattle.mdinline_link_strings.specs.Reached.{begins_with_data}
use Rattle.mdinline_link_strings.specs.Strings.{in_string_after, line_as_string, seats_between, with_strings_from}

-- what an index past the end has
abbrev pub no_event : Event
no_event = record { kind = Enter; name = AttentionSequence; point = record { line = 0; column = 0; index = 0; vs = 0 }; link = None }

module _ (on : Constructs) (t : ℕ) (bytes : List ℕ) (d : Event) where
  -- the event of an index
  abbrev nth : List Event → ℕ → Event
  nth es i = slice_index_or es i d

  -- Data of a string, at an index: it is read, and costs its virtual bytes
  pub record IsReadAt (inside : Bool) (es : List Event) (i j k : ℕ) : Type 0 where
    pub two : k ≤ length es
    pub events : with_strings_from on t bytes inside (drop i es) ≡ line_as_string on t bytes (nth es i).point (nth es j).point ++ with_strings_from on t bytes inside (drop k es)
    pub size : string_size_from t bytes inside (drop i es) ≡ length (seats_between t bytes (nth es i).point (nth es j).point) + string_size_from t bytes inside (drop k es)

  read-front : (inside : Bool) (l : List Event) → (inside && begins_with_data l) ≡ true → IsReadAt inside l 0 1 2
  read-front inside [] h = absurd (false≢true (sym (and-false inside) ∙ h))
  read-front inside (e ∷ []) h = absurd (false≢true (sym (and-false inside) ∙ h))
  read-front inside (e ∷ f ∷ es) h = record {
    two = omega arith;
    events = ap (λ b. cond b (line_as_string on t bytes e.point f.point ++ with_strings_from on t bytes inside es) (e ∷ with_strings_from on t bytes (in_string_after inside e) (f ∷ es))) h;
    size = ap (λ b. cond b (length (seats_between t bytes e.point f.point) + string_size_from t bytes inside es) (string_size_from t bytes (in_string_after inside e) (f ∷ es))) h;
  }

  pub read-at : (inside : Bool) (es : List Event) (i j k : ℕ) → j ≡ i + 1 → k ≡ i + 2 → (inside && begins_with_data (drop i es)) ≡ true → IsReadAt inside es i j k
  read-at inside es zero j k one two h = subst (λ m. IsReadAt inside es 0 m k) (sym one) (subst (IsReadAt inside es 0 1) (sym two) (read-front inside es h))
  read-at inside [] (suc i) j k one two h = absurd (false≢true (sym (and-false inside) ∙ h))
  read-at inside (e ∷ es) (suc i) zero k one two h = absurd (omega (arith, one))
  read-at inside (e ∷ es) (suc i) (suc j) zero one two h = absurd (omega (arith, two))
  read-at inside (e ∷ es) (suc i) (suc j) (suc k) one two h =
      let r = read-at inside es i j k (omega (arith, one)) (omega (arith, two)) h in
      let last = r.two in
      record { two = omega (arith, last); events = r.events; size = r.size }

  -- another event stays as it is
  pub record IsKeptAt (inside : Bool) (es : List Event) (i j : ℕ) : Type 0 where
    pub events : with_strings_from on t bytes inside (drop i es) ≡ nth es i ∷ with_strings_from on t bytes (in_string_after inside (nth es i)) (drop j es)
    pub size : string_size_from t bytes inside (drop i es) ≡ string_size_from t bytes (in_string_after inside (nth es i)) (drop j es)

  kept-front : (inside : Bool) (l : List Event) → 0 < length l → (inside && begins_with_data l) ≡ false → IsKeptAt inside l 0 1
  kept-front inside [] some h = absurd (omega (arith, some))
  kept-front inside (e ∷ []) some h = record { events = refl; size = refl }
  kept-front inside (e ∷ f ∷ es) some h = record {
    events = ap (λ b. cond b (line_as_string on t bytes e.point f.point ++ with_strings_from on t bytes inside es) (e ∷ with_strings_from on t bytes (in_string_after inside e) (f ∷ es))) h;
    size = ap (λ b. cond b (length (seats_between t bytes e.point f.point) + string_size_from t bytes inside es) (string_size_from t bytes (in_string_after inside e) (f ∷ es))) h;
  }

  pub kept-at : (inside : Bool) (es : List Event) (i j : ℕ) → j ≡ i + 1 → i < length es → (inside && begins_with_data (drop i es)) ≡ false → IsKeptAt inside es i j
  kept-at inside es zero j one some h = subst (IsKeptAt inside es 0) (sym one) (kept-front inside es some h)
  kept-at inside [] (suc i) j one some h = absurd (omega (arith, some))
  kept-at inside (e ∷ es) (suc i) zero one some h = absurd (omega (arith, one))
  kept-at inside (e ∷ es) (suc i) (suc j) one some h =
      let r = kept-at inside es i j (omega (arith, one)) (omega (arith, some)) h in
      record { events = r.events; size = r.size }

-- events from an index on are the one there, and those behind it
pub dropped : (es : List Event) (i j : ℕ) (d : Event) → i < length es → j ≡ i + 1 → drop i es ≡ slice_index_or es i d ∷ drop j es
dropped [] i j d some one = absurd (omega (arith, some))
dropped (e ∷ es) zero j d some one = ap (λ n. e ∷ drop n (e ∷ es)) (sym one)
dropped (e ∷ es) (suc i) zero d some one = absurd (omega (arith, one))
dropped (e ∷ es) (suc i) (suc j) d some one = dropped es i j d (omega (arith, some)) (omega (arith, one))
