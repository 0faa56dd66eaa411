-- The bytes of safe pieces are safe HTML.
use Rattle.std.proofs.Common.{◌≡◌, ℕ, List, [], ◌∷◌, ◌++◌, ap, sym, refl, subst, ◌∙◌, Option, None, Some}
use Rattle.std.specs.Char.{is_ascii_whitespace}
use Rattle.std.specs.Fmt.{decimal}
use Rattle.std.specs.List.{flat_map, list_all}
use Rattle.std.specs.Prelude.{Bool, true, false, not, cond, bytes_eq, codes}
use Rattle.std.proofs.lemmas.Bool.{and_from}
use Rattle.std.proofs.Math.Bool.{or-true}
use Rattle.std.proofs.lemmas.Slice.Eq.{bytes_eq-Decides}
use Rattle.mdhtml_markup.specs.Addresses.{written_address}
use Rattle.mdhtml_markup.specs.declared.addresses.Place.TheVariants as place
use Rattle.mdhtml_markup.specs.declared.elements.Alignment.{Alignment}
use Rattle.mdhtml_markup.specs.declared.elements.Alignment.TheVariants as alignment
use Rattle.mdhtml_markup.specs.declared.elements.AttributeName.{AttributeName}
use Rattle.mdhtml_markup.specs.declared.elements.AttributeName.TheVariants as name
use Rattle.mdhtml_markup.specs.declared.elements.Element.{Element}
use Rattle.mdhtml_markup.specs.Escapes.{escaped}
use Rattle.mdhtml_markup.specs.Laws.{SafePiecesAreSafeHtml}
use Rattle.mdhtml_markup.specs.Pieces.{Aligned, Alt, Attribute, Checked, Close, Disabled, Feed, Fresh, Href, InputType, Kept, Language, Open, Piece, Src, Start, Text, Title, Void, attribute, html_from, written, Classed, FootnoteBack, FootnoteCall, Footnotes, Id, Label}
use Rattle.mdhtml_markup.specs.SafeHtml as safe
use Rattle.mdhtml_markup.specs.SafeHtml.{AreAttributes, IsSafeHtml, attributes_of, holds_text, is_alignment, is_text, is_value, must_be_given, quoted, word_of}
use Rattle.mdhtml_markup.specs.SafePieces.{AreAllowedBy, AreFree, AreSafe, Closes, IsAllowed, later, name_of_attribute, word_for}
use Rattle.mdhtml_markup.proofs.AddressLemmas.{addresses-safe}
use Rattle.mdhtml_markup.proofs.Bools.{Then}
use Rattle.mdhtml_markup.proofs.Texts.{decimal-digits, escaped-first, escaped-solid, escaped-text}

-- an attribute by its name and value
abbrev pub value_of : Attribute → List ℕ
value_of (Aligned a) = word_of a
value_of (Alt t) = escaped t
value_of Checked = []
value_of Disabled = []
value_of (Classed word) = word
value_of FootnoteBack = []
value_of FootnoteCall = []
value_of Footnotes = []
value_of (Id i) = i
value_of (Label t) = escaped t
value_of (Href url) = written_address url
value_of InputType = codes "checkbox"
value_of (Language t) = codes "language-" ++ escaped t
value_of (Src url) = written_address url
value_of (Start n) = decimal n
value_of (Title t) = escaped t

pub attribute-quoted : (a : Attribute) → attribute a ≡ quoted (name_of_attribute a) (value_of a)
attribute-quoted (Aligned a) = refl
attribute-quoted (Alt t) = refl
attribute-quoted Checked = refl
attribute-quoted Disabled = refl
attribute-quoted (Classed word) = refl
attribute-quoted FootnoteBack = refl
attribute-quoted FootnoteCall = refl
attribute-quoted Footnotes = refl
attribute-quoted (Id i) = refl
attribute-quoted (Label t) = refl
attribute-quoted (Href url) = refl
attribute-quoted InputType = refl
attribute-quoted (Language t) = refl
attribute-quoted (Src url) = refl
attribute-quoted (Start n) = refl
attribute-quoted (Title t) = refl

aligned : (a : Alignment) → is_alignment (word_of a) ≡ true
aligned alignment.Left = refl
aligned alignment.Center = refl
aligned alignment.Right = refl

pub value-is : (a : Attribute) → IsAllowed a → is_value (name_of_attribute a) (value_of a) ≡ true
value-is (Aligned a) h = aligned a
value-is (Alt t) h = escaped-text t
value-is Checked h = refl
value-is Disabled h = refl
value-is (Classed word) h = h
value-is FootnoteBack h = refl
value-is FootnoteCall h = refl
value-is Footnotes h = refl
value-is (Id i) h = h
value-is (Label t) h = escaped-text t
value-is (Href url) h = addresses-safe place.Href url h
value-is InputType h = refl
value-is (Language t) h = and_from (is_text (escaped t)) (list_all (λ b. not (is_ascii_whitespace b)) (escaped t)) (escaped-text t) (escaped-solid t h)
value-is (Src url) h = addresses-safe place.Src url h
value-is (Start n) h = decimal-digits n
value-is (Title t) h = escaped-text t

-- the name that is written so
abbrev among : List AttributeName → List ℕ → Option AttributeName
among [] w = None
among (n ∷ names) w = cond (bytes_eq w (word_for n)) (Some n) (among names w)

abbrev all-names : List AttributeName
all-names = name.Align ∷ name.Alt ∷ name.Checked ∷ name.Class ∷ name.Disabled ∷ name.FootnoteBack ∷ name.FootnoteCall ∷ name.FootnoteClass ∷ name.Footnotes ∷ name.Href ∷ name.Id ∷ name.InputType ∷ name.Label ∷ name.Src ∷ name.Start ∷ name.Title ∷ []

name-read : (n : AttributeName) → among all-names (word_for n) ≡ Some n
name-read name.Align = refl
name-read name.Alt = refl
name-read name.Checked = refl
name-read name.Class = refl
name-read name.Disabled = refl
name-read name.FootnoteBack = refl
name-read name.FootnoteCall = refl
name-read name.FootnoteClass = refl
name-read name.Footnotes = refl
name-read name.Id = refl
name-read name.Label = refl
name-read name.Href = refl
name-read name.InputType = refl
name-read name.Src = refl
name-read name.Start = refl
name-read name.Title = refl

some-name : (n m : AttributeName) → Some n ≡ Some m → n ≡ m
some-name n m h = ap (λ o. elim o as (λ (_ : Option AttributeName). AttributeName) [ None ↦ n | Some x ↦ x ]) h

-- names that are told by the same are the same
pub same-name : (n m : AttributeName) → bytes_eq (word_for n) (word_for m) ≡ true → n ≡ m
same-name n m h = some-name n m (sym (name-read n) ∙ ap (among all-names) ((bytes_eq-Decides (word_for n) (word_for m)).0 h) ∙ name-read m)

free-by : (need : Bool) (n : AttributeName) (names : List AttributeName) → must_be_given n ≡ need → elim need as (λ _. Type 0) [ true ↦ ⊥ | false ↦ AreFree names ]
    → (AreFree names → AreAttributes names []) → AreAttributes (n ∷ names) []
free-by true n names e h rest = absurd h
free-by false n names e h rest = safe.AreAttributes.missing n names e (rest h)

all-missing : (names : List AttributeName) → AreFree names → AreAttributes names []
all-missing [] h = safe.AreAttributes.none
all-missing (n ∷ names) h = free-by (must_be_given n) n names refl h (all-missing names)

-- an attribute of a name that is one of these, and attributes of later names
first-by : (n m : AttributeName) (names : List AttributeName) (value more : List ℕ) (same need : Bool) → is_value n value ≡ true → bytes_eq (word_for n) (word_for m) ≡ same
    → must_be_given m ≡ need → Then (cond same (Some names) (cond need None (later n names))) (λ o. AreAttributes o more) → (Then (later n names) (λ o. AreAttributes o more) → AreAttributes names (quoted n value ++ more))
    → AreAttributes (m ∷ names) (quoted n value ++ more)
first-by n m names value more true need v e k h rest =
    let is = same-name n m e in
    safe.AreAttributes.given m names value more (ap (λ x. quoted x value ++ more) is) (ap (λ x. is_value x value) (sym is) ∙ v) h
first-by n m names value more false true v e k h rest = absurd h
first-by n m names value more false false v e k h rest = safe.AreAttributes.missing m names k (rest h)

first-given : (n : AttributeName) (names : List AttributeName) (value more : List ℕ) → is_value n value ≡ true → Then (later n names) (λ o. AreAttributes o more)
    → AreAttributes names (quoted n value ++ more)
first-given n [] value more v h = absurd h
first-given n (m ∷ names) value more v h = first-by n m names value more (bytes_eq (word_for n) (word_for m)) (must_be_given m) v refl refl h (first-given n names value more v)

-- what is allowed of an attribute and of those behind it
allowed-by : (o : Option (List AttributeName)) (a : Attribute) (attributes : List Attribute)
    → elim o as (λ _. Type 0) [ None ↦ ⊥ | Some more ↦ IsAllowed a × AreAllowedBy more attributes ]
    → ((names : List AttributeName) → AreAllowedBy names attributes → AreAttributes names (flat_map attribute attributes))
    → IsAllowed a × Then o (λ names. AreAttributes names (flat_map attribute attributes))
allowed-by None a attributes h rest = absurd h
allowed-by (Some more) a attributes h rest = (h.0, rest more h.1)

pub attributes-are : (attributes : List Attribute) (names : List AttributeName) → AreAllowedBy names attributes → AreAttributes names (flat_map attribute attributes)
attributes-are [] names h = all-missing names h
attributes-are (a ∷ attributes) names h =
    let both = allowed-by (later (name_of_attribute a) names) a attributes h (attributes-are attributes) in
    subst (λ w. AreAttributes names (w ++ flat_map attribute attributes)) (sym (attribute-quoted a))
    (first-given (name_of_attribute a) names (value_of a) (flat_map attribute attributes) (value-is a both.0) both.1)

fresh-line : (tags : List Element) (fresh : Bool) (h : List ℕ) → IsSafeHtml tags h → IsSafeHtml tags (cond fresh [] (10 ∷ []) ++ h)
fresh-line tags true h s = s
fresh-line tags false h s = safe.IsSafeHtml.text tags 10 h refl (or-true (holds_text tags)) refl s

-- the innermost open tag is closed
closed-tag : (tags : List Element) (e : Element) (ps : List Piece) (h : List ℕ) → Closes tags e (λ o. AreSafe o ps) → ((o : List Element) → AreSafe o ps → IsSafeHtml o h)
    → IsSafeHtml tags (written true (Close e) ++ h)
closed-tag [] e ps h c s = absurd c
closed-tag (d ∷ tags) e ps h c s = subst (λ x. IsSafeHtml (x ∷ tags) (written true (Close e) ++ h)) (sym c.0) (safe.IsSafeHtml.closed tags e h refl (s tags c.1))

safe-from : (ps : List Piece) (tags : List Element) (fresh : Bool) → AreSafe tags ps → IsSafeHtml tags (html_from fresh ps)
safe-from [] tags fresh h = subst (λ o. IsSafeHtml o []) (sym h) safe.IsSafeHtml.end
safe-from (Open e attributes ∷ ps) tags fresh h =
    safe.IsSafeHtml.opened tags e (flat_map attribute attributes) _ refl (h.0).kind (h.0).stands (attributes-are attributes (attributes_of e) (h.0).allowed) (safe-from ps (e ∷ tags) _ h.1)
safe-from (Void e attributes ∷ ps) tags fresh h =
    safe.IsSafeHtml.void tags e (flat_map attribute attributes) _ refl (h.0).kind (h.0).stands (attributes-are attributes (attributes_of e) (h.0).allowed) (safe-from ps tags _ h.1)
safe-from (Close e ∷ ps) tags fresh h = closed-tag tags e ps _ h (λ o a. safe-from ps o _ a)
safe-from (Text t ∷ ps) tags fresh h = escaped-first tags t _ h.0 (safe-from ps tags _ h.1)
safe-from (Kept t ∷ ps) tags fresh h = absurd h
safe-from (Feed ∷ ps) tags fresh h = safe.IsSafeHtml.text tags 10 _ refl (or-true (holds_text tags)) refl (safe-from ps tags _ h)
safe-from (Fresh ∷ ps) tags fresh h = fresh-line tags fresh _ (safe-from ps tags _ h)

pub pieces-safe : SafePiecesAreSafeHtml
pieces-safe fresh tags ps h = safe-from ps tags fresh h
