-- The text between the tags of safe pieces is what they say: no text is left out, and none is read otherwise.
use Rattle.std.proofs.Common.{◌≡◌, ℕ, List, [], ◌∷◌, ◌++◌, ap, sym, refl, ◌∙◌, Option, None, Some, append_assoc}
use Rattle.std.proofs.lemmas.Bool.{and_from, and_parts, false≢true}
use Rattle.std.proofs.lemmas.Bool.Decides.{Decides-eqb}
use Rattle.std.specs.Char.{is_ascii_alphanumeric, is_ascii_digit, is_ascii_whitespace}
use Rattle.std.specs.List.{flat_map, list_all}
use Rattle.std.specs.Prelude.{◌==◌, ◌&&◌, not, Bool, true, false, bytes_eq, cond, codes}
use Rattle.std.proofs.lemmas.Slice.Eq.{bytes_eq-Decides}
use Rattle.mdhtml_markup.specs.declared.addresses.Place.{Place}
use Rattle.mdhtml_markup.specs.declared.addresses.Place.TheVariants as place
use Rattle.mdhtml_markup.specs.declared.elements.AttributeName.{AttributeName}
use Rattle.mdhtml_markup.specs.declared.elements.AttributeName.TheVariants as name
use Rattle.mdhtml_markup.specs.declared.elements.Element.{Element}
use Rattle.mdhtml_markup.specs.Escapes.{escaped, escaped_byte, kept, kept_byte, replacement}
use Rattle.mdhtml_markup.specs.Laws.{TextIsKept}
use Rattle.mdhtml_markup.specs.Pieces.{Close, Feed, Fresh, Kept, Open, Piece, Text, Void, attribute, html_from, is_fresh}
use Rattle.mdhtml_markup.specs.SafeHtml as safe
use Rattle.mdhtml_markup.specs.SafeHtml.{AreAttributes, alignments, attribute_name, attributes_of, behind, close_tag, entity_at, is_address_byte, is_allowed, is_safe_address, is_text, is_text_byte, is_value, name_of, open_tag, quoted, undone, undone_from, void_tag, footnote_classes, id_prefix, is_id_byte}
use Rattle.mdhtml_markup.specs.SafePieces.{AreSafe, Closes}
use Rattle.mdhtml_markup.specs.ShownText.{said_from, text_of, untagged}
use Rattle.mdhtml_markup.proofs.AddressLemmas.{undone-other}
use Rattle.mdhtml_markup.proofs.Behind.{behind-is, name-letters, words-are}
use Rattle.mdhtml_markup.proofs.Bools.{is-other, other-by}
use Rattle.mdhtml_markup.proofs.SafeLemmas.{attributes-are}
use Rattle.mdhtml_markup.proofs.Texts.{escaped-text}

-- ---- bytes that begin no tag, and bytes that end none

abbrev begins : ℕ → Bool
begins b = not (b == 60)

abbrev ends : ℕ → Bool
ends b = not (b == 62)

text-begins : (b : ℕ) (l : List ℕ) → is_text_byte b l ≡ true → begins b ≡ true
text-begins b l h = ap not (other-by (b == 60) (is_text_byte b l) (is_text_byte 60 l) (λ e. ap (λ x. is_text_byte x l) ((Decides-eqb b 60).0 e)) refl h)

text-ends : (b : ℕ) (l : List ℕ) → is_text_byte b l ≡ true → ends b ≡ true
text-ends b l h = ap not (other-by (b == 62) (is_text_byte b l) (is_text_byte 62 l) (λ e. ap (λ x. is_text_byte x l) ((Decides-eqb b 62).0 e)) refl h)

text-all : (p : ℕ → Bool) → ((b : ℕ) (l : List ℕ) → is_text_byte b l ≡ true → p b ≡ true) → (t : List ℕ) → is_text t ≡ true → list_all p t ≡ true
text-all p f [] h = refl
text-all p f (b ∷ bs) h =
    and_from (p b) (list_all p bs) (f b bs ((and_parts (is_text_byte b bs) (is_text bs) h).0)) (text-all p f bs ((and_parts (is_text_byte b bs) (is_text bs) h).1))

class-ends : (p : ℕ → Bool) → p 62 ≡ false → (t : List ℕ) → list_all p t ≡ true → list_all ends t ≡ true
class-ends p n [] h = refl
class-ends p n (b ∷ bs) h =
    and_from (ends b) (list_all ends bs) (ap not (is-other p b 62 n ((and_parts (p b) (list_all p bs) h).0))) (class-ends p n bs ((and_parts (p b) (list_all p bs) h).1))

-- ---- values

language-ends : (v : List ℕ) (o : Option (List ℕ)) → behind (codes "language-") v ≡ o
    → elim o as (λ _. Bool) [ None ↦ false | Some word ↦ is_text word && list_all (λ b. not (is_ascii_whitespace b)) word ] ≡ true → list_all ends v ≡ true
language-ends v None e h = absurd (false≢true h)
language-ends v (Some word) e h =
    ap (list_all ends) (behind-is (codes "language-") v word e) ∙ text-all ends text-ends word ((and_parts (is_text word) (list_all (λ b. not (is_ascii_whitespace b)) word) h).0)

address-ends : (at : Place) (v : List ℕ) → is_safe_address at v ≡ true → list_all ends v ≡ true
address-ends at v h = text-all ends text-ends v ((and_parts (is_text v) (list_all is_address_byte (undone v) && is_allowed at (undone v)) h).0)

constant-ends : (v w : List ℕ) → bytes_eq v w ≡ true → list_all ends w ≡ true → list_all ends v ≡ true
constant-ends v w h e = ap (list_all ends) ((bytes_eq-Decides v w).0 h) ∙ e

id-ends : (v : List ℕ) (o : Option (List ℕ)) → behind id_prefix v ≡ o → elim o as (λ _. Bool) [ None ↦ false | Some rest ↦ list_all is_id_byte rest ] ≡ true → list_all ends v ≡ true
id-ends v None e h = absurd (false≢true h)
id-ends v (Some rest) e h = ap (list_all ends) (behind-is id_prefix v rest e) ∙ class-ends is_id_byte refl rest h

value-ends : (a : AttributeName) (v : List ℕ) → is_value a v ≡ true → list_all ends v ≡ true
value-ends name.Align v h = words-are (λ w. list_all ends w ≡ true) alignments v h (refl, (refl, (refl, tt)))
value-ends name.Alt v h = text-all ends text-ends v h
value-ends name.Checked v h = constant-ends v [] h refl
value-ends name.Class v h = language-ends v (behind (codes "language-") v) refl h
value-ends name.FootnoteBack v h = constant-ends v [] h refl
value-ends name.FootnoteCall v h = constant-ends v [] h refl
value-ends name.FootnoteClass v h = words-are (λ w. list_all ends w ≡ true) footnote_classes v h (refl, (refl, (refl, tt)))
value-ends name.Footnotes v h = constant-ends v [] h refl
value-ends name.Id v h = id-ends v (behind id_prefix v) refl h
value-ends name.Label v h = text-all ends text-ends v h
value-ends name.Disabled v h = constant-ends v [] h refl
value-ends name.Href v h = address-ends place.Href v h
value-ends name.InputType v h = constant-ends v (codes "checkbox") h refl
value-ends name.Src v h = address-ends place.Src v h
value-ends name.Start v h = class-ends is_ascii_digit refl v h
value-ends name.Title v h = text-all ends text-ends v h

name-ends : (a : AttributeName) → list_all ends (codes " " ++ attribute_name a) ≡ true
name-ends name.Align = refl
name-ends name.Alt = refl
name-ends name.Checked = refl
name-ends name.Class = refl
name-ends name.Disabled = refl
name-ends name.FootnoteBack = refl
name-ends name.FootnoteCall = refl
name-ends name.FootnoteClass = refl
name-ends name.Footnotes = refl
name-ends name.Id = refl
name-ends name.Label = refl
name-ends name.Href = refl
name-ends name.InputType = refl
name-ends name.Src = refl
name-ends name.Start = refl
name-ends name.Title = refl

-- ---- tags are left out

in-tag : (t h : List ℕ) → list_all ends t ≡ true → untagged true (t ++ h) ≡ untagged true h
in-tag [] h e = refl
in-tag (b ∷ bs) h e = ap (λ c. untagged c (bs ++ h)) ((and_parts (ends b) (list_all ends bs) e).0) ∙ in-tag bs h ((and_parts (ends b) (list_all ends bs) e).1)

in-attribute : (a : AttributeName) (v h : List ℕ) → is_value a v ≡ true → untagged true (quoted a v ++ h) ≡ untagged true h
in-attribute a v h e =
    let front = codes " " ++ attribute_name a in
    ap (untagged true) (append_assoc front (codes "=\"" ++ (v ++ codes "\"")) h) ∙ in-tag front (61 ∷ 34 ∷ ((v ++ codes "\"") ++ h)) (name-ends a)
    ∙ ap (untagged true) (append_assoc v (codes "\"") h) ∙ in-tag v (34 ∷ h) (value-ends a v e)

in-attributes : (names : List AttributeName) (l h : List ℕ) → AreAttributes names l → untagged true (l ++ h) ≡ untagged true h
in-attributes names l h safe.AreAttributes.none = refl
in-attributes names l h (safe.AreAttributes.missing a more k it) = in-attributes more l h it
in-attributes names l h (safe.AreAttributes.given a more value rest e v it) =
    ap (λ (x : List ℕ). untagged true (x ++ h)) e ∙ ap (untagged true) (append_assoc (quoted a value) rest h) ∙ in-attribute a value (rest ++ h) v ∙ in-attributes more rest h it

in-name : (e : Element) (h : List ℕ) → untagged true (name_of e ++ h) ≡ untagged true h
in-name e h = in-tag (name_of e) h (class-ends is_ascii_alphanumeric refl (name_of e) (name-letters e))

open-tag : (e : Element) (l h : List ℕ) → AreAttributes (attributes_of e) l → untagged false (open_tag e l ++ h) ≡ untagged false h
open-tag e l h its =
    ap (untagged false) (append_assoc (codes "<" ++ name_of e) (l ++ codes ">") h) ∙ ap (untagged true) (ap (λ (x : List ℕ). name_of e ++ x) (append_assoc l (codes ">") h))
    ∙ in-name e (l ++ (62 ∷ h)) ∙ in-attributes (attributes_of e) l (62 ∷ h) its

void-tag : (e : Element) (l h : List ℕ) → AreAttributes (attributes_of e) l → untagged false (void_tag e l ++ h) ≡ untagged false h
void-tag e l h its =
    ap (untagged false) (append_assoc (codes "<" ++ name_of e) (l ++ codes " />") h) ∙ ap (untagged true) (ap (λ (x : List ℕ). name_of e ++ x) (append_assoc l (codes " />") h))
    ∙ in-name e (l ++ (32 ∷ 47 ∷ 62 ∷ h)) ∙ in-attributes (attributes_of e) l (32 ∷ 47 ∷ 62 ∷ h) its

close-tag : (e : Element) (h : List ℕ) → untagged false (close_tag e ++ h) ≡ untagged false h
close-tag e h = ap (untagged false) (append_assoc (codes "</" ++ name_of e) (codes ">") h) ∙ in-name e (62 ∷ h)

-- ---- texts are kept

out-of-tags : (t h : List ℕ) → list_all begins t ≡ true → untagged false (t ++ h) ≡ t ++ untagged false h
out-of-tags [] h e = refl
out-of-tags (b ∷ bs) h e =
    begun (b == 60) ((and_parts (begins b) (list_all begins bs) e).0) ∙ ap (λ (x : List ℕ). b ∷ x) (out-of-tags bs h ((and_parts (begins b) (list_all begins bs) e).1))
  where
    begun : (c : Bool) → not c ≡ true → cond c (untagged true (bs ++ h)) (b ∷ untagged false (bs ++ h)) ≡ b ∷ untagged false (bs ++ h)
    begun true n = absurd (false≢true n)
    begun false n = refl

abbrev picked : (a l g q x z : Bool) → ℕ → List ℕ
picked a l g q x z b =
    cond a (codes "&amp;") (cond l (codes "&lt;") (cond g (codes "&gt;") (cond q (codes "&quot;") (cond x (codes "&#x1B;") (cond z replacement (b ∷ []))))))

kept-is : (b n : ℕ) (t : List ℕ) → (b == n) ≡ true → kept_byte n ≡ n ∷ [] → n ∷ t ≡ kept_byte b ++ t
kept-is b n t e k = sym (ap (λ x. kept_byte x ++ t) ((Decides-eqb b n).0 e) ∙ ap (λ (x : List ℕ). x ++ t) k)

byte-undone : (a l g q x z : Bool) (b : ℕ) (t : List ℕ) → (b == 38) ≡ a → (b == 60) ≡ l → (b == 62) ≡ g → (b == 34) ≡ q → (b == 27) ≡ x → (b == 0) ≡ z
    → undone (picked a l g q x z b ++ t) ≡ kept_byte b ++ undone t
byte-undone true l g q x z b t ea el eg eq ex ez = kept-is b 38 (undone t) ea refl
byte-undone false true g q x z b t ea el eg eq ex ez = kept-is b 60 (undone t) el refl
byte-undone false false true q x z b t ea el eg eq ex ez = kept-is b 62 (undone t) eg refl
byte-undone false false false true x z b t ea el eg eq ex ez = kept-is b 34 (undone t) eq refl
byte-undone false false false false true z b t ea el eg eq ex ez = kept-is b 27 (undone t) ex refl
byte-undone false false false false false true b t ea el eg eq ex ez = sym (ap (λ c. cond c replacement (b ∷ []) ++ undone t) ez)
byte-undone false false false false false false b t ea el eg eq ex ez = undone-other b t ea ∙ sym (ap (λ c. cond c replacement (b ∷ []) ++ undone t) ez)

text-undone : (t h : List ℕ) → undone (escaped t ++ h) ≡ kept t ++ undone h
text-undone [] h = refl
text-undone (b ∷ bs) h =
    ap undone (append_assoc (escaped_byte b) (escaped bs) h)
    ∙ byte-undone (b == 38) (b == 60) (b == 62) (b == 34) (b == 27) (b == 0) b (escaped bs ++ h) refl refl refl refl refl refl
    ∙ ap (λ (x : List ℕ). kept_byte b ++ x) (text-undone bs h) ∙ sym (append_assoc (kept_byte b) (kept bs) (undone h))

-- ---- pieces

feed-said : (fresh : Bool) (h : List ℕ) → text_of (cond fresh [] (10 ∷ []) ++ h) ≡ cond fresh [] (10 ∷ []) ++ text_of h
feed-said true h = refl
feed-said false h = refl

close-said : (tags : List Element) (e : Element) (ps : List Piece) (x y : List ℕ) → Closes tags e (λ o. AreSafe o ps) → ((o : List Element) → AreSafe o ps → text_of x ≡ y)
    → text_of (close_tag e ++ x) ≡ y
close-said [] e ps x y c s = absurd c
close-said (d ∷ tags) e ps x y c s = ap undone (close-tag e x) ∙ s tags c.1

kept-from : (ps : List Piece) (tags : List Element) (fresh : Bool) → AreSafe tags ps → text_of (html_from fresh ps) ≡ said_from fresh ps
kept-from [] tags fresh h = refl
kept-from (Open e attributes ∷ ps) tags fresh h =
    ap undone (open-tag e (flat_map attribute attributes) _ (attributes-are attributes (attributes_of e) (h.0).allowed)) ∙ kept-from ps (e ∷ tags) _ h.1
kept-from (Void e attributes ∷ ps) tags fresh h =
    ap undone (void-tag e (flat_map attribute attributes) _ (attributes-are attributes (attributes_of e) (h.0).allowed)) ∙ kept-from ps tags _ h.1
kept-from (Close e ∷ ps) tags fresh h = close-said tags e ps _ _ h (λ o a. kept-from ps o _ a)
kept-from (Text t ∷ ps) tags fresh h =
    let rest = html_from (is_fresh fresh (escaped t)) ps in
    ap undone (out-of-tags (escaped t) rest (text-all begins text-begins (escaped t) (escaped-text t))) ∙ text-undone t (untagged false rest)
    ∙ ap (λ (x : List ℕ). kept t ++ x) (kept-from ps tags _ h.1)
kept-from (Kept t ∷ ps) tags fresh h = absurd h
kept-from (Feed ∷ ps) tags fresh h = ap (λ (x : List ℕ). 10 ∷ x) (kept-from ps tags _ h)
kept-from (Fresh ∷ ps) tags fresh h = feed-said fresh _ ∙ ap (λ (x : List ℕ). cond fresh [] (10 ∷ []) ++ x) (kept-from ps tags _ h)

pub text-kept : TextIsKept
text-kept fresh tags ps h = kept-from ps tags fresh h
