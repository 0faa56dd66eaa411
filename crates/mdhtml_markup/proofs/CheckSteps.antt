-- What the code of the test finds, as the definitions have it.
use Rattle.std.proofs.Common.{◌≡◌, ◌≢◌, ℕ, zero, suc, ◌+◌, ◌-◌, ◌<◌, Bor, List, [], ◌∷◌, ◌++◌, get_or, length, length-drop, take, drop, ap, sym, refl, ◌∙◌, arith, Option, None, Some, Result, Ok, Err}
use Rattle.std.specs.Option.{MatchOption}
use Rattle.std.specs.Prelude.{◌↔◌, Bool, true, false, IfOk, option_map}
use Rattle.std.proofs.lemmas.Option.{none-some}
use Rattle.std.proofs.lemmas.Bool.Decides.{Decides-eqb}
use Rattle.std.proofs.lemmas.List.{take_all}
use Rattle.mdhtml_markup.specs.declared.elements.Element.{Element}
use Rattle.mdhtml_markup.specs.SafeChecks.{behind_mark, is_safe_behind, is_safe_html}
use Rattle.mdhtml_markup.specs.SafeHtml.{Entity, IsSafeHtml, behind, entity_at, undone, undone_from}
use Rattle.mdhtml_markup.proofs.Tested.{mark-shorter, mark-step, safe-html-tested}
use Rattle.mdhtml_markup.proofs.Behind.{behind-front, behind-is}

none-by : (o : Option (List ℕ)) (front l : List ℕ) → behind front l ≡ o → ((rest : List ℕ) → l ≢ front ++ rest) → behind front l ≡ None
none-by None front l e h = e
none-by (Some rest) front l e h = absurd (h rest (behind-is front l rest e))

pub behind-found : (front l : List ℕ) (r : Option (Bor (List ℕ))) → MatchOption r ((rest : List ℕ) → l ≢ front ++ rest) (λ x. l ≡ front ++ x.now)
    → MatchOption r (behind front l ≡ None) (λ x. behind front l ≡ Some x.now)
behind-found front l None h = none-by (behind front l) front l refl h
behind-found front l (Some x) h = ap (behind front) h ∙ behind-front front x.now

-- all behind the first byte
tail-all : (l : List ℕ) → take (length l - 1) (drop 1 l) ≡ drop 1 l
tail-all l = take_all (length l - 1) (drop 1 l) (omega (arith, length-drop 1 l))

-- ---- what is read of a text

undone-behind : (n : ℕ) (l : List ℕ) → undone_from n l ≡ undone (drop n l)
undone-behind zero l = refl
undone-behind (suc n) [] = refl
undone-behind (suc n) (b ∷ bs) = undone-behind n bs

abbrev read_by : (is : Bool) (o : Option Entity) (b : ℕ) (bs : List ℕ) → List ℕ
read_by is o b bs =
    elim is as (λ _. List ℕ) [
      | false ↦ b ∷ undone_from 0 bs
      | true ↦ elim o as (λ _. List ℕ) [ None ↦ b ∷ undone_from 0 bs | Some e ↦ e.1 ∷ undone_from (length e.0) bs ]
    ]

abbrev size_of : Option (ℕ × ℕ) → ℕ
size_of None = 0
size_of (Some e) = e.1

abbrev byte_of : Option (ℕ × ℕ) → ℕ
byte_of None = 0
byte_of (Some e) = e.0

abbrev read_of : Entity → ℕ × ℕ
read_of e = (e.1, length e.0)

entity-by : (o : Option Entity) (b byte size : ℕ) (bs : List ℕ) → option_map read_of o ≡ Some (byte, size) → read_by true o b bs ≡ byte ∷ undone (drop size bs)
entity-by None b byte size bs h = absurd (none-some (byte, size) h)
entity-by (Some e) b byte size bs h =
    ap (λ (x : List ℕ). e.1 ∷ x) (undone-behind (length e.0) bs) ∙ ap (λ (x : ℕ). x ∷ undone (drop (length e.0) bs)) (ap byte_of h) ∙ ap (λ n. byte ∷ undone (drop n bs)) (ap size_of h)

pub entity-read : (bytes : List ℕ) (byte size : ℕ) → 0 < length bytes → get_or bytes 0 0 ≡ 38 → option_map read_of (entity_at (take (length bytes - 1) (drop 1 bytes))) ≡ Some (byte, size)
    → undone bytes ≡ byte ∷ undone (drop (size + 1) bytes)
entity-read [] byte size h e k = absurd (omega (arith, h))
entity-read (b ∷ bs) byte size h e k =
    let next : suc size ≡ size + 1 = omega arith in
    ap (λ x. read_by x (entity_at bs) b bs) ((Decides-eqb b 38).1 e) ∙ entity-by (entity_at bs) b byte size bs (ap (λ x. option_map read_of (entity_at x)) (sym (tail-all (b ∷ bs))) ∙ k) ∙ ap (λ n. byte ∷ undone (drop n (b ∷ bs))) next

-- ---- a step over a tag

pub mark-over : (tags : List Element) (rest : List ℕ) (o : List Element) (r : List ℕ) → 0 < length rest → get_or rest 0 0 ≡ 60 → behind_mark tags (take (length rest - 1) (drop 1 rest)) ≡ Some (o, r)
    → is_safe_behind tags rest ≡ is_safe_behind o r
mark-over tags [] o r h e k = absurd (omega (arith, h))
mark-over tags (b ∷ bs) o r h e k = mark-step tags b bs o r ((Decides-eqb b 60).1 e) (ap (behind_mark tags) (sym (tail-all (b ∷ bs))) ∙ k)

pub mark-less : (tags : List Element) (rest : List ℕ) (o : List Element) (r : List ℕ) → 0 < length rest → behind_mark tags (take (length rest - 1) (drop 1 rest)) ≡ Some (o, r) → length r < length rest
mark-less tags [] o r h k = absurd (omega (arith, h))
mark-less tags (b ∷ bs) o r h k = omega (arith, mark-shorter tags bs o r (ap (behind_mark tags) (sym (tail-all (b ∷ bs))) ∙ k))

-- ---- what the test says

pub tested-safe : {E : Type 0} (r : Result Bool E) (h : List ℕ) → IfOk r (λ b. b ≡ is_safe_html h) → IfOk r (λ b. (b ≡ true) ↔ IsSafeHtml [] h)
tested-safe (Ok b) h e = (λ k. (safe-html-tested [] h).0 (sym e ∙ k), λ s. e ∙ (safe-html-tested [] h).1 s)
tested-safe (Err x) h e = e
