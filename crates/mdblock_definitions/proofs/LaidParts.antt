-- The parts of a definition are one behind another in its text, and it ends where a line does.
use Rattle.std.proofs.Common.{◌≡◌, ℕ, ◌+◌, ◌≤◌, Bool, true, false, cond, List, [], ◌∷◌, Option, Some, None, arith, drop, length, refl, sym, ap, subst, take, ◌∙◌}
use Rattle.std.specs.Prelude.{◌==◌, ◌&&◌}
use Rattle.std.specs.List.{prefix_len}
use Rattle.std.specs.Option.{option_and_then, option_map, option_or}
use Rattle.std.proofs.lemmas.List.{drop-drop}
use Rattle.std.proofs.lemmas.Option.{cond_some, none-some, option_and_then_some, same_Some}
use Rattle.mdinline_labels.specs.declared.definitions.Definition.{Definition}
use Rattle.mdinline_labels.specs.declared.definitions.Stretch.{Stretch}
use Rattle.mdinline_labels.specs.Definitions.{definition_at, destination_at, end, end_of, ended, label_at, line_left, stretch_at, title_at, titled_or_not}
use Rattle.mdinline_labels.specs.Labels.{is_label}
use Rattle.mdinline_labels.specs.Tails.{begins_with, destination_size, enclosed_size, gap, is_white, label_size, line_ends, marked_size, raw_size, title_end, title_size}
use Rattle.mdblock_definitions.proofs.DefinitionParts.{left-inside, title-ends}
use Rattle.mdblock_definitions.proofs.Longer.{destination-at-longer, label-longer}

-- a title is behind its destination, and has two marks
abbrev pub TitleIs : Stretch → Option Stretch → Type 0
TitleIs de None = Unit {0}
TitleIs de (Some t) = (end de ≤ t.from) × (2 ≤ t.size)

-- The parts of a definition are one behind another, with a byte for each of their marks
pub record IsLaid (x : List ℕ) (d : Definition) : Type 0 where
  pub label : 2 ≤ d.label.size
  pub colon : end d.label + 1 ≤ d.destination.from
  pub literal : begins_with 60 (drop d.destination.from x) ≡ true → 2 ≤ d.destination.size
  pub title : TitleIs d.destination d.title
  pub ended : end_of d.title d.destination ≤ d.size
  pub inside : d.size ≤ length x
  pub line : line_ends (drop d.size x) ≡ true

module _ (x : List ℕ) where
  label-two : (s : Stretch) → label_at x ≡ Some s → 2 ≤ s.size
  label-two s e = by (begins_with 91 (drop from x)) (label_size (drop (from + 1) x)) e
    where
      from : ℕ
      from = prefix_len is_white x

      by : (b : Bool) (o : Option ℕ) → cond b (option_and_then (λ n. cond (is_label (take n (drop (from + 1) x)) && begins_with 58 (drop (from + n + 2) x)) (Some (stretch_at from (n + 2))) None) o) None ≡ Some s → 2 ≤ s.size
      by false o e = absurd (none-some s e)
      by true None e = absurd (none-some s e)
      by true (Some n) e =
          let parts = cond_some (is_label (take n (drop (from + 1) x)) && begins_with 58 (drop (from + n + 2) x)) (stretch_at from (n + 2)) s e in
          let size : n + 2 ≡ s.size = ap (λ (y : Stretch). y.size) parts.1 in
          omega (arith, size)

  destination-laid : (at : ℕ) (s : Stretch) → destination_at x at ≡ Some s → (at ≤ s.from) × (begins_with 60 (drop s.from x) ≡ true → 2 ≤ s.size)
  destination-laid at s e = by (destination_size (drop from x)) refl e
    where
      from : ℕ
      from = at + gap (drop at x)

      two : (n : ℕ) (b : Bool) (o r : Option ℕ) → b ≡ true → cond b (option_map (λ k. k + 2) o) r ≡ Some n → 2 ≤ n
      two n true None r is e = absurd (none-some n e)
      two n true (Some m) r is e = let same : m + 2 ≡ n = same_Some (m + 2) n e in omega (arith, same)
      two n false o r is e = absurd (let other : false ≡ true = is in cc)

      by : (o : Option ℕ) → destination_size (drop from x) ≡ o → option_map (stretch_at from) o ≡ Some s → (at ≤ s.from) × (begins_with 60 (drop s.from x) ≡ true → 2 ≤ s.size)
      by None size e = absurd (none-some s e)
      by (Some n) size e =
          let same : stretch_at from n ≡ s = same_Some (stretch_at from n) s e in
          subst (λ (y : Stretch). (at ≤ y.from) × (begins_with 60 (drop y.from x) ≡ true → 2 ≤ y.size)) same
          (omega arith, (λ is. two n (begins_with 60 (drop from x)) (enclosed_size false (drop 1 (drop from x))) (option_and_then (λ k. cond (k == 0) None (Some k)) (raw_size 0 false (drop from x))) is size))

  title-laid : (de : Stretch) (o : Option Stretch) → title_at x (end de) ≡ o → TitleIs de o
  title-laid de None e = tt
  title-laid de (Some s) e = by (gap (drop (end de) x) == 0) (title_size (drop from x)) refl e
    where
      from : ℕ
      from = end de + gap (drop (end de) x)

      two : (v : List ℕ) (n : ℕ) → title_size v ≡ Some n → 2 ≤ n
      two [] n e = absurd (none-some n e)
      two (b ∷ bs) n e = marks (title_end b) e
        where
          sized : (o : Option ℕ) → option_map (λ k. k + 2) o ≡ Some n → 2 ≤ n
          sized None e = absurd (none-some n e)
          sized (Some m) e = let same : m + 2 ≡ n = same_Some (m + 2) n e in omega (arith, same)

          marks : (o : Option ℕ) → option_and_then (λ close. option_map (λ k. k + 2) (marked_size b close false false bs)) o ≡ Some n → 2 ≤ n
          marks None e = absurd (none-some n e)
          marks (Some close) e = sized (marked_size b close false false bs) e

      by : (b : Bool) (o : Option ℕ) → title_size (drop from x) ≡ o → cond b None (option_map (stretch_at from) o) ≡ Some s → TitleIs de (Some s)
      by true o size e = absurd (none-some s e)
      by false None size e = absurd (none-some s e)
      by false (Some n) size e =
          let same : stretch_at from n ≡ s = same_Some (stretch_at from n) s e in
          subst (λ (y : Stretch). TitleIs de (Some y)) same (omega arith, two (drop from x) n size)

  ended-laid : (l de : Stretch) (t : Option Stretch) (d : Definition) → 2 ≤ l.size → end l + 1 ≤ de.from → (begins_with 60 (drop de.from x) ≡ true → 2 ≤ de.size) → TitleIs de t → end_of t de ≤ length x → ended x l de t ≡ Some d → IsLaid x d
  ended-laid l de t d label colon literal title few e = by (line_left (drop at x)) refl e
    where
      at : ℕ
      at = end_of t de

      by : (o : Option ℕ) → line_left (drop at x) ≡ o → option_map {T = ℕ} {U = Definition} (λ n. record { label = l; destination = de; title = t; size = at + n }) o ≡ Some d → IsLaid x d
      by None left e = absurd (none-some d e)
      by (Some n) left e =
          let white = prefix_len is_white (drop at x) in
          let parts = cond_some (line_ends (drop white (drop at x))) white n left in
          let same : record { label = l; destination = de; title = t; size = at + n } ≡ d = same_Some _ d e in
          let inside = left-inside x at n left few in
          subst (IsLaid x) same
          (record {
            label = label;
            colon = colon;
            literal = literal;
            title = title;
            ended = omega arith;
            inside = inside;
            line = ap (λ k. line_ends (drop (at + k) x)) (sym parts.1) ∙ ap line_ends (sym (drop-drop white at x)) ∙ parts.0;
          })

  either-laid : (l de : Stretch) (d : Definition) → 2 ≤ l.size → end l + 1 ≤ de.from → (begins_with 60 (drop de.from x) ≡ true → 2 ≤ de.size) → end de ≤ length x → titled_or_not x l de (title_at x (end de)) ≡ Some d → IsLaid x d
  either-laid l de d label colon literal few e = by (ended x l de t) refl e
    where
      t : Option Stretch
      t = title_at x (end de)

      by : (o : Option Definition) → ended x l de t ≡ o → option_or o (ended x l de None) ≡ Some d → IsLaid x d
      by None same e = ended-laid l de None d label colon literal tt few e
      by (Some c) same e = ended-laid l de t d label colon literal (title-laid de t refl) (title-ends x de t few refl) (same ∙ e)

  -- The definition that a text begins with
  pub definition-laid : (d : Definition) → definition_at x ≡ Some d → IsLaid x d
  definition-laid d e =
      option_and_then_some (λ label. option_and_then (λ destination. titled_or_not x label destination (title_at x (end destination))) (destination_at x (end label + 1))) (label_at x) d e
      (λ l is-l more.
      option_and_then_some (λ destination. titled_or_not x l destination (title_at x (end destination))) (destination_at x (end l + 1)) d more
      (λ de is-de last.
      let inside = (label-longer [] x l is-l).1 in
      let laid = destination-laid (end l + 1) de is-de in
      either-laid l de d (label-two l is-l) laid.0 laid.1 (destination-at-longer [] x (end l + 1) de (omega (arith, inside)) is-de).1 last))
