-- The literals of a text are literals, one behind the other.
use Rattle.std.proofs.Common.{◌≡◌, ℕ, zero, suc, ◌+◌, ◌-◌, ◌<◌, ◌≤◌, Bool, true, false, cond, List, [], ◌∷◌, drop, Option, Some, None, refl, sym, ap, subst, ◌∙◌, arith, ne_eqb}
use Rattle.std.proofs.lemmas.List.{drop-drop}
use Rattle.std.proofs.lemmas.Option.{none-some, same_Some}
use Rattle.std.specs.Char.{is_ascii_alphabetic, is_ascii_alphanumeric}
use Rattle.std.specs.List.{AllByRecursion}
use Rattle.std.specs.Prelude.{◌==◌, ◌&&◌, codes, nat_le, not, slice_get}
use Rattle.markdown_base.specs.declared.event.Name.{Name}
use Rattle.markdown_base.specs.declared.event.Name.TheVariants.{GfmAutolinkLiteralEmail, GfmAutolinkLiteralMailto, GfmAutolinkLiteralProtocol, GfmAutolinkLiteralWww, GfmAutolinkLiteralXmpp}
use Rattle.mdgfm_literals.specs.declared.found.Found.{Found}
use Rattle.mdgfm_literals.specs.Bytes.{in_local, passes}
use Rattle.mdgfm_literals.specs.Found.{found, or_else}
use Rattle.mdgfm_literals.specs.Grammar.{address_size, begins_domain, email_at, is_address, is_www, literal_at, literal_size, mail_at, protocol_size, size_with, url_at, www_at}
use Rattle.mdgfm_literals.specs.Laws.{AreLiterals, LiteralsAreLiterals, literal_names}
use Rattle.mdgfm_literals.specs.Literals.{literals_from, more_passed}

-- what holds of each literal that has bytes
module _ (Q : Found → Type 0) where
  abbrev pub Has : Option Found → Type 0
  Has o = (f : Found) → o ≡ Some f → Q f

  -- a name with a size, if that is not 0
  abbrev pub HasSize : Name → (size : ℕ) → Type 0
  HasSize name size = 1 ≤ size → Q (record { size = size; name = name })

  abbrev pub HasAll : Name → Type 0
  HasAll name = (size : ℕ) → HasSize name size

  found-has : (name : Name) (size : ℕ) → HasSize name size → Has (found name size)
  found-has name zero q f e = absurd (none-some f e)
  found-has name (suc n) q f e =
      let some : (suc n == 0) ≡ false = ne_eqb (suc n) 0 (λ z. omega (arith, z)) in
      let there : Some (record { size = suc n; name = name }) ≡ Some f = sym (ap (λ t. cond t None (Some (record { size = suc n; name = name }))) some) ∙ e in
      subst Q (same_Some (record { size = suc n; name = name }) f there) (q (omega arith))

  none-has : Has None
  none-has f e = absurd (none-some f e)

  either-has : (b : Bool) (o p : Option Found) → Has o → Has p → Has (cond b o p)
  either-has true o p h k = h
  either-has false o p h k = k

  else-has : (o p : Option Found) → Has o → Has p → Has (or_else o p)
  else-has None p h k = k
  else-has (Some g) p h k = h

  -- then it holds of the literal at a place: by how each is found
  pub literal-by : (before : Option ℕ) (text : List ℕ)
      → HasSize GfmAutolinkLiteralWww (literal_size text) → HasSize GfmAutolinkLiteralProtocol (literal_size text)
      → HasSize GfmAutolinkLiteralMailto (size_with (codes "mailto:") text) → HasSize GfmAutolinkLiteralXmpp (size_with (codes "xmpp:") text)
      → HasSize GfmAutolinkLiteralEmail (address_size text) → Has (literal_at before text)
  literal-by before text www protocol mailto xmpp email =
      else-has (www_at before text) (or_else (url_at before text) (or_else (mail_at before text) (email_at before text)))
      (either-has (is_www before text && begins_domain text) (found GfmAutolinkLiteralWww (literal_size text)) None (found-has GfmAutolinkLiteralWww (literal_size text) www) none-has)
      (else-has (url_at before text) (or_else (mail_at before text) (email_at before text))
      (either-has (nat_le 1 (protocol_size text) && (not (passes is_ascii_alphabetic before) && is_address (drop (protocol_size text) text))) (found GfmAutolinkLiteralProtocol (literal_size text)) None
      (found-has GfmAutolinkLiteralProtocol (literal_size text) protocol) none-has)
      (else-has (mail_at before text) (email_at before text)
      (either-has (passes is_ascii_alphanumeric before) None (or_else (found GfmAutolinkLiteralMailto (size_with (codes "mailto:") text)) (found GfmAutolinkLiteralXmpp (size_with (codes "xmpp:") text))) none-has
      (else-has (found GfmAutolinkLiteralMailto (size_with (codes "mailto:") text)) (found GfmAutolinkLiteralXmpp (size_with (codes "xmpp:") text))
      (found-has GfmAutolinkLiteralMailto (size_with (codes "mailto:") text) mailto) (found-has GfmAutolinkLiteralXmpp (size_with (codes "xmpp:") text) xmpp)))
      (either-has (passes in_local before) None (found GfmAutolinkLiteralEmail (address_size text)) none-has (found-has GfmAutolinkLiteralEmail (address_size text) email))))

  -- or by its name alone
  pub literal-has : (before : Option ℕ) (text : List ℕ) → AllByRecursion HasAll literal_names → Has (literal_at before text)
  literal-has before text (email, (mailto, (protocol, (www, (xmpp, _))))) =
      literal-by before text (www (literal_size text)) (protocol (literal_size text)) (mailto (size_with (codes "mailto:") text)) (xmpp (size_with (codes "xmpp:") text)) (email (address_size text))

pub literal-bytes : (before : Option ℕ) (text : List ℕ) (f : Found) → literal_at before text ≡ Some f → 1 ≤ f.size
literal-bytes before text = literal-has (λ f. 1 ≤ f.size) before text ((λ n h. h), ((λ n h. h), ((λ n h. h), ((λ n h. h), ((λ n h. h), tt)))))

module _ (start : ℕ) (text : List ℕ) where
  pub tail : (at b : ℕ) (bs : List ℕ) → start ≤ at → drop (at - start) text ≡ b ∷ bs → drop (at + 1 - start) text ≡ bs
  tail at b bs h e =
      let one : at + 1 - start ≡ at - start + 1 = omega arith in
      ap (λ n. drop n text) one ∙ sym (drop-drop 1 (at - start) text) ∙ ap (λ ts. drop 1 ts) e

  are : (skip : ℕ) (before : Option ℕ) (at : ℕ) (rest : List ℕ) (end : ℕ) → start ≤ at → drop (at - start) text ≡ rest → end ≤ at + skip
      → AreLiterals start text end (literals_from skip before at rest)
  are skip before at [] end h e k = tt
  are (suc skip) before at (b ∷ bs) end h e k = are skip before (at + 1) bs end (omega (arith, h)) (tail at b bs h e) (omega (arith, k))
  are zero before at (b ∷ bs) end h e k =
      by (literal_at before (b ∷ bs)) refl
      (are (more_passed (b ∷ bs)) (slice_get (b ∷ bs) (more_passed (b ∷ bs))) (at + 1) bs end (omega (arith, h)) (tail at b bs h e) (omega (arith, k)))
      (λ f some. are (f.size - 1) None (at + 1) bs (at + f.size) (omega (arith, h)) (tail at b bs h e) (omega (arith, some)))
    where
      by : (o : Option Found) → literal_at before (b ∷ bs) ≡ o
          → AreLiterals start text end (literals_from (more_passed (b ∷ bs)) (slice_get (b ∷ bs) (more_passed (b ∷ bs))) (at + 1) bs)
          → ((f : Found) → 1 ≤ f.size → AreLiterals start text (at + f.size) (literals_from (f.size - 1) None (at + 1) bs))
          → AreLiterals start text end (elim o [ Some f ↦ record { from = at; to = at + f.size; name = f.name } ∷ literals_from (f.size - 1) None (at + 1) bs | None ↦ literals_from (more_passed (b ∷ bs)) (slice_get (b ∷ bs) (more_passed (b ∷ bs))) (at + 1) bs ])
      by None q none more = none
      by (Some f) q none more =
          let some = literal-bytes before (b ∷ bs) f q in
          let size : f.size ≡ at + f.size - at = omega arith in
          let first : end ≤ at = omega (arith, k) in
          let last : at < at + f.size = omega (arith, some) in
          (first, last, (before, ap (literal_at before) e ∙ q ∙ ap (λ n. Some (record { size = n; name = f.name })) size), more f some)

pub literals-are : LiteralsAreLiterals
literals-are before start text =
    let z : start - start ≡ 0 = omega arith in
    are start text 0 before start text start (omega arith) (ap (λ n. drop n text) z) (omega arith)
