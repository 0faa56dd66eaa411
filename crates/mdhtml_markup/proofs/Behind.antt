-- What is behind a front, a value, an attribute, attributes and a tag, against the grammar.
use Rattle.std.proofs.Common.{◌≡◌, ℕ, List, [], ◌∷◌, ◌++◌, take, drop, ap, sym, refl, subst, ◌∙◌, arith, append_assoc, Option, None, Some}
use Rattle.std.specs.Char.{is_ascii_alphanumeric, is_ascii_digit, is_ascii_whitespace}
use Rattle.std.specs.List.{list_all, list_any, prefix_len, take_while}
use Rattle.std.specs.Prelude.{◌==◌, ◌&&◌, ◌||◌, not, ⊤, Bool, true, false, bytes_eq, cond, codes, option_and_then}
use Rattle.std.proofs.lemmas.Bool.{and_from, and_parts, false≢true}
use Rattle.std.proofs.lemmas.Option.{none-some}
use Rattle.std.proofs.lemmas.Bool.Decides.{Decides-eqb}
use Rattle.std.proofs.lemmas.List.{take-append-drop}
use Rattle.std.proofs.lemmas.List.Sums.{take_while-cons}
use Rattle.std.proofs.lemmas.Slice.Eq.{bytes_eq-Decides}
use Rattle.mdhtml_markup.specs.declared.addresses.Place.{Place}
use Rattle.mdhtml_markup.specs.declared.addresses.Place.TheVariants as place
use Rattle.mdhtml_markup.specs.declared.elements.AttributeName.{AttributeName}
use Rattle.mdhtml_markup.specs.declared.elements.AttributeName.TheVariants as name
use Rattle.mdhtml_markup.specs.declared.elements.Element.{Element}
use Rattle.mdhtml_markup.specs.declared.elements.Element.TheVariants.{Anchor, BlockQuote, Break, Checkbox, Code, DataCell, Deleted, Emphasis, HeaderCell, Heading1, Heading2, Heading3, Heading4, Heading5, Heading6, Image, ListItem, OrderedList, Paragraph, Preformatted, Strong, Table, TableBody, TableHead, TableRow, ThematicBreak, UnorderedList, Section, Superscript}
use Rattle.mdhtml_markup.specs.SafeChecks.{behind_attribute, behind_attributes, behind_name, behind_value, elements, front_of, named, tag_end}
use Rattle.mdhtml_markup.specs.SafeHtml as safe
use Rattle.mdhtml_markup.specs.SafeHtml.{AreAttributes, alignments, attribute_name, attributes_of, behind, entity_at, is_address_byte, is_allowed, is_mark, is_safe_address, is_text, is_text_byte, is_value, is_void, must_be_given, name_of, quoted, undone, footnote_classes, id_prefix, is_id_byte}
use Rattle.mdhtml_markup.proofs.Bools.{Then, is-other, other-by}

-- ---- fronts

-- a front, and a rest of which something holds
pub record Fronted (front l : List ℕ) (P : List ℕ → Type 0) : Type 0 where
  pub rest : List ℕ
  pub same : l ≡ front ++ rest
  pub holds : P rest

front-by : (c : Bool) (f b : ℕ) (front l : List ℕ) (P : List ℕ → Type 0) → (f == b) ≡ c → Then (cond c (behind front l) None) P
    → (Then (behind front l) P → Fronted front l P) → Fronted (f ∷ front) (b ∷ l) P
front-by true f b front l P e h more =
    let it = more h in
    record { rest = it.rest; same = ap (λ (x : ℕ). x ∷ l) (sym ((Decides-eqb f b).0 e)) ∙ ap (λ (x : List ℕ). f ∷ x) it.same; holds = it.holds }
front-by false f b front l P e h more = absurd h

pub behind-then : (front l : List ℕ) (P : List ℕ → Type 0) → Then (behind front l) P → Fronted front l P
behind-then [] l P h = record { rest = l; same = refl; holds = h }
behind-then (f ∷ front) [] P h = absurd h
behind-then (f ∷ front) (b ∷ l) P h = front-by (f == b) f b front l P refl h (behind-then front l P)

-- what is behind a front, if that is known
pub behind-is : (front l r : List ℕ) → behind front l ≡ Some r → l ≡ front ++ r
behind-is front l r e =
    let it = behind-then front l (λ x. x ≡ r) (subst (λ o. Then o (λ x. x ≡ r)) (sym e) refl) in
    it.same ∙ ap (λ x. front ++ x) it.holds

pub same-byte : (b : ℕ) → (b == b) ≡ true
same-byte b = (Decides-eqb b b).1 refl

pub behind-front : (front r : List ℕ) → behind front (front ++ r) ≡ Some r
behind-front [] r = refl
behind-front (f ∷ front) r = ap (λ c. cond c (behind front (front ++ r)) None) (same-byte f) ∙ behind-front front r

-- ---- values: no quotation mark in them

abbrev other : ℕ → Bool
other b = not (b == 34)

abbrev plain : ℕ → Bool
plain b = not (is_mark b)

text-other : (b : ℕ) (l : List ℕ) → is_text_byte b l ≡ true → other b ≡ true
text-other b l h = ap not (other-by (b == 34) (is_text_byte b l) (is_text_byte 34 l) (λ e. ap (λ x. is_text_byte x l) ((Decides-eqb b 34).0 e)) refl h)

text-others : (t : List ℕ) → is_text t ≡ true → list_all other t ≡ true
text-others [] h = refl
text-others (b ∷ bs) h =
    and_from (other b) (list_all other bs) (text-other b bs (and_parts (is_text_byte b bs) (is_text bs) h).0) (text-others bs (and_parts (is_text_byte b bs) (is_text bs) h).1)

digits-others : (t : List ℕ) → list_all is_ascii_digit t ≡ true → list_all other t ≡ true
digits-others [] h = refl
digits-others (b ∷ bs) h =
    and_from (other b) (list_all other bs) (ap not (is-other is_ascii_digit b 34 refl (and_parts (is_ascii_digit b) (list_all is_ascii_digit bs) h).0))
    (digits-others bs (and_parts (is_ascii_digit b) (list_all is_ascii_digit bs) h).1)

language-others : (v : List ℕ) (o : Option (List ℕ)) → behind (codes "language-") v ≡ o
    → elim o as (λ _. Bool) [ None ↦ false | Some word ↦ is_text word && list_all (λ b. not (is_ascii_whitespace b)) word ] ≡ true → list_all other v ≡ true
language-others v None e h = absurd (false≢true h)
language-others v (Some word) e h =
    ap (list_all other) (behind-is (codes "language-") v word e) ∙ text-others word (and_parts (is_text word) (list_all (λ b. not (is_ascii_whitespace b)) word) h).0

address-others : (at : Place) (v : List ℕ) → is_safe_address at v ≡ true → list_all other v ≡ true
address-others at v h = text-others v (and_parts (is_text v) (list_all is_address_byte (undone v) && is_allowed at (undone v)) h).0

constant-others : (v w : List ℕ) → bytes_eq v w ≡ true → list_all other w ≡ true → list_all other v ≡ true
constant-others v w h e = ap (list_all other) ((bytes_eq-Decides v w).0 h) ∙ e

-- what holds of each of some words holds of one of them
abbrev EachWord : (P : List ℕ → Type 0) → List (List ℕ) → Type 0
EachWord P [] = ⊤
EachWord P (w ∷ ws) = P w × EachWord P ws

word-by : (c : Bool) (P : List ℕ → Type 0) (v w : List ℕ) (rest : Bool) → bytes_eq v w ≡ c → (c || rest) ≡ true → P w → (rest ≡ true → P v) → P v
word-by true P v w rest e h p more = subst P (sym ((bytes_eq-Decides v w).0 e)) p
word-by false P v w rest e h p more = more h

pub words-are : (P : List ℕ → Type 0) (ws : List (List ℕ)) (v : List ℕ) → list_any (λ w. bytes_eq v w) ws ≡ true → EachWord P ws → P v
words-are P [] v h each = absurd (false≢true h)
words-are P (w ∷ ws) v h each = word-by (bytes_eq v w) P v w (list_any (λ x. bytes_eq v x) ws) refl h each.0 (λ k. words-are P ws v k each.1)

ids-others : (t : List ℕ) → list_all is_id_byte t ≡ true → list_all other t ≡ true
ids-others [] h = refl
ids-others (b ∷ bs) h =
    and_from (other b) (list_all other bs) (ap not (is-other is_id_byte b 34 refl (and_parts (is_id_byte b) (list_all is_id_byte bs) h).0))
    (ids-others bs (and_parts (is_id_byte b) (list_all is_id_byte bs) h).1)

id-others : (v : List ℕ) (o : Option (List ℕ)) → behind id_prefix v ≡ o → elim o as (λ _. Bool) [ None ↦ false | Some rest ↦ list_all is_id_byte rest ] ≡ true → list_all other v ≡ true
id-others v None e h = absurd (false≢true h)
id-others v (Some rest) e h = ap (list_all other) (behind-is id_prefix v rest e) ∙ ids-others rest h

value-others : (a : AttributeName) (v : List ℕ) → is_value a v ≡ true → list_all other v ≡ true
value-others name.Align v h = words-are (λ w. list_all other w ≡ true) alignments v h (refl, (refl, (refl, tt)))
value-others name.Alt v h = text-others v h
value-others name.Checked v h = constant-others v [] h refl
value-others name.Class v h = language-others v (behind (codes "language-") v) refl h
value-others name.FootnoteBack v h = constant-others v [] h refl
value-others name.FootnoteCall v h = constant-others v [] h refl
value-others name.FootnoteClass v h = words-are (λ w. list_all other w ≡ true) footnote_classes v h (refl, (refl, (refl, tt)))
value-others name.Footnotes v h = constant-others v [] h refl
value-others name.Id v h = id-others v (behind id_prefix v) refl h
value-others name.Label v h = text-others v h
value-others name.Disabled v h = constant-others v [] h refl
value-others name.Href v h = address-others place.Href v h
value-others name.InputType v h = constant-others v (codes "checkbox") h refl
value-others name.Src v h = address-others place.Src v h
value-others name.Start v h = digits-others v h
value-others name.Title v h = text-others v h

-- bytes that pass, in front of one that does not
take-by : (p : ℕ → Bool) (b : ℕ) (bs : List ℕ) → p b ≡ true → take_while p (b ∷ bs) ≡ b ∷ take_while p bs
take-by p b bs h = take_while-cons p b bs ∙ ap (λ c. cond c (b ∷ take_while p bs) []) h

drop-by : (p : ℕ → Bool) (b : ℕ) (bs : List ℕ) → p b ≡ true → drop (prefix_len p (b ∷ bs)) (b ∷ bs) ≡ drop (prefix_len p bs) bs
drop-by p b bs h = grind (arith, h)

pub take-front : (p : ℕ → Bool) (v l : List ℕ) → list_all p v ≡ true → prefix_len p l ≡ 0 → take_while p (v ++ l) ≡ v
take-front p [] l h e = ap (λ n. take n l) e
take-front p (b ∷ bs) l h e =
    take-by p b (bs ++ l) (and_parts (p b) (list_all p bs) h).0 ∙ ap (λ (x : List ℕ). b ∷ x) (take-front p bs l (and_parts (p b) (list_all p bs) h).1 e)

pub drop-front : (p : ℕ → Bool) (v l : List ℕ) → list_all p v ≡ true → prefix_len p l ≡ 0 → drop (prefix_len p (v ++ l)) (v ++ l) ≡ l
drop-front p [] l h e = ap (λ n. drop n l) e
drop-front p (b ∷ bs) l h e =
    drop-by p b (bs ++ l) (and_parts (p b) (list_all p bs) h).0 ∙ drop-front p bs l (and_parts (p b) (list_all p bs) h).1 e

-- what is read of a value
record Valued (a : AttributeName) (l : List ℕ) (P : List ℕ → Type 0) : Type 0 where
  value : List ℕ
  rest : List ℕ
  same : l ≡ value ++ (codes "\"" ++ rest)
  passes : is_value a value ≡ true
  holds : P rest

value-by : (c : Bool) (a : AttributeName) (l : List ℕ) (P : List ℕ → Type 0) → is_value a (take_while other l) ≡ c
    → Then (cond c (behind (codes "\"") (drop (prefix_len other l) l)) None) P → Valued a l P
value-by true a l P e h =
    let it = behind-then (codes "\"") (drop (prefix_len other l) l) P h in
    record { value = take_while other l; rest = it.rest; same = sym (take-append-drop (prefix_len other l) l) ∙ ap (λ x. take_while other l ++ x) it.same; passes = e; holds = it.holds }
value-by false a l P e h = absurd h

value-then : (a : AttributeName) (l : List ℕ) (P : List ℕ → Type 0) → Then (behind_value a l) P → Valued a l P
value-then a l P h = value-by (is_value a (take_while other l)) a l P refl h

value-read : (a : AttributeName) (v r : List ℕ) → is_value a v ≡ true → behind_value a (v ++ (codes "\"" ++ r)) ≡ Some r
value-read a v r h =
    let l = codes "\"" ++ r in
    ap (λ x. cond (is_value a x) (behind (codes "\"") (drop (prefix_len other (v ++ l)) (v ++ l))) None) (take-front other v l (value-others a v h) refl)
    ∙ ap (λ x. cond x (behind (codes "\"") (drop (prefix_len other (v ++ l)) (v ++ l))) None) h
    ∙ ap (behind (codes "\"")) (drop-front other v l (value-others a v h) refl)

-- ---- attributes

quoted-assoc : (a : AttributeName) (v r : List ℕ) → quoted a v ++ r ≡ front_of a ++ (v ++ (codes "\"" ++ r))
quoted-assoc a v r =
    append_assoc (codes " " ++ attribute_name a) (codes "=\"" ++ (v ++ codes "\"")) r
    ∙ ap (λ x. (codes " " ++ attribute_name a) ++ (codes "=\"" ++ x)) (append_assoc v (codes "\"") r)
    ∙ sym (append_assoc (codes " " ++ attribute_name a) (codes "=\"") (v ++ (codes "\"" ++ r)))

-- attributes, and a rest of which something holds
pub record Attributed (names : List AttributeName) (l : List ℕ) (P : List ℕ → Type 0) : Type 0 where
  pub attributes : List ℕ
  pub rest : List ℕ
  pub same : l ≡ attributes ++ rest
  pub are : AreAttributes names attributes
  pub holds : P rest

given-by : (o : Option (List ℕ)) (a : AttributeName) (names : List AttributeName) (l value : List ℕ) (P : List ℕ → Type 0) → l ≡ front_of a ++ value → behind_value a value ≡ o
    → Then (option_and_then (behind_attributes names) o) P → ((m : List ℕ) → Then (behind_attributes names m) P → Attributed names m P) → Attributed (a ∷ names) l P
given-by None a names l value P e k h more = absurd h
given-by (Some m) a names l value P e k h more =
    let it = more m h in
    let read = value-then a value (λ x. x ≡ m) (subst (λ o. Then o (λ x. x ≡ m)) (sym k) refl) in
    let behind_it : read.rest ≡ it.attributes ++ it.rest = read.holds ∙ it.same in
    record {
      attributes = quoted a read.value ++ it.attributes;
      rest = it.rest;
      same = e ∙ ap (λ x. front_of a ++ x) read.same ∙ sym (quoted-assoc a read.value read.rest) ∙ ap (λ x. quoted a read.value ++ x) behind_it
          ∙ sym (append_assoc (quoted a read.value) it.attributes it.rest);
      are = safe.AreAttributes.given a names read.value it.attributes refl read.passes it.are;
      holds = it.holds;
    }

missing-then : (need : Bool) (a : AttributeName) (names : List AttributeName) (l : List ℕ) (P : List ℕ → Type 0) → must_be_given a ≡ need
    → Then (option_and_then (behind_attributes names) (cond need None (Some l))) P → ((m : List ℕ) → Then (behind_attributes names m) P → Attributed names m P) → Attributed (a ∷ names) l P
missing-then true a names l P k h more = absurd h
missing-then false a names l P k h more =
    let it = more l h in
    record { attributes = it.attributes; rest = it.rest; same = it.same; are = safe.AreAttributes.missing a names k it.are; holds = it.holds }

attribute-by : (o : Option (List ℕ)) (a : AttributeName) (names : List AttributeName) (l : List ℕ) (P : List ℕ → Type 0) → behind (front_of a) l ≡ o
    → Then (option_and_then (behind_attributes names) (elim o as (λ _. Option (List ℕ)) [ None ↦ cond (must_be_given a) None (Some l) | Some value ↦ behind_value a value ])) P
    → ((m : List ℕ) → Then (behind_attributes names m) P → Attributed names m P) → Attributed (a ∷ names) l P
attribute-by None a names l P e h more = missing-then (must_be_given a) a names l P refl h more
attribute-by (Some value) a names l P e h more = given-by (behind_value a value) a names l value P (behind-is (front_of a) l value e) refl h more

pub attributes-then : (names : List AttributeName) (l : List ℕ) (P : List ℕ → Type 0) → Then (behind_attributes names l) P → Attributed names l P
attributes-then [] l P h = record { attributes = []; rest = l; same = refl; are = safe.AreAttributes.none; holds = h }
attributes-then (a ∷ names) l P h = attribute-by (behind (front_of a) l) a names l P refl h (λ m k. attributes-then names m P k)

-- what holds of each attribute's beginning, and of what is behind attributes, holds of both
abbrev Each : List AttributeName → (List ℕ → Type 0) → Type 0
Each [] P = ⊤
Each (a ∷ names) P = ((x : List ℕ) → P (front_of a ++ x)) × Each names P

begins-so : (P : List ℕ → Type 0) (names : List AttributeName) (attributes tail : List ℕ) → AreAttributes names attributes → Each names P → P tail → P (attributes ++ tail)
begins-so P names attributes tail safe.none each h = h
begins-so P names attributes tail (safe.missing a more k it) each h = begins-so P more attributes tail it each.1 h
begins-so P names attributes tail (safe.given a more value rest e v it) each h =
    subst P (sym (ap (λ (x : List ℕ). x ++ tail) e ∙ append_assoc (quoted a value) rest tail ∙ quoted-assoc a value (rest ++ tail))) (each.0 (value ++ (codes "\"" ++ (rest ++ tail))))

-- no attribute is taken for another one, or for the end of a tag
abbrev Apart : AttributeName → List ℕ → Type 0
Apart a l = behind (front_of a) l ≡ None

abbrev Distinct : List AttributeName → Type 0
Distinct [] = ⊤
Distinct (a ∷ names) = Each names (Apart a) × Distinct names

distinct : (e : Element) → Distinct (attributes_of e)
distinct Anchor = (((λ x. refl), ((λ x. refl), ((λ x. refl), ((λ x. refl), ((λ x. refl), ((λ x. refl), tt)))))), (((λ x. refl), ((λ x. refl), ((λ x. refl), ((λ x. refl), ((λ x. refl), tt))))), (((λ x. refl), ((λ x. refl), ((λ x. refl), ((λ x. refl), tt)))), (((λ x. refl), ((λ x. refl), ((λ x. refl), tt))), (((λ x. refl), ((λ x. refl), tt)), (((λ x. refl), tt), (tt, tt)))))))
distinct Checkbox = (((λ x. refl), ((λ x. refl), tt)), (((λ x. refl), tt), (tt, tt)))
distinct Code = (tt, tt)
distinct DataCell = (tt, tt)
distinct HeaderCell = (tt, tt)
distinct Image = (((λ x. refl), ((λ x. refl), tt)), (((λ x. refl), tt), (tt, tt)))
distinct OrderedList = (tt, tt)
distinct ListItem = (tt, tt)
distinct Section = (((λ x. refl), tt), (tt, tt))
distinct Superscript = (tt, tt)
distinct e = tt

end-apart : (v : Bool) (a : AttributeName) (h : List ℕ) → Apart a (cond v (codes " />") (codes ">") ++ h)
end-apart false a h = refl
end-apart true name.Align h = refl
end-apart true name.Alt h = refl
end-apart true name.Checked h = refl
end-apart true name.Class h = refl
end-apart true name.Disabled h = refl
end-apart true name.FootnoteBack h = refl
end-apart true name.FootnoteCall h = refl
end-apart true name.FootnoteClass h = refl
end-apart true name.Footnotes h = refl
end-apart true name.Id h = refl
end-apart true name.Label h = refl
end-apart true name.Href h = refl
end-apart true name.InputType h = refl
end-apart true name.Src h = refl
end-apart true name.Start h = refl
end-apart true name.Title h = refl

missing-by : (o : Option (List ℕ)) (a : AttributeName) (l : List ℕ) → o ≡ None → must_be_given a ≡ false
    → elim o as (λ _. Option (List ℕ)) [ None ↦ cond (must_be_given a) None (Some l) | Some value ↦ behind_value a value ] ≡ Some l
missing-by o a l e k =
    ap (λ x. elim x as (λ _. Option (List ℕ)) [ None ↦ cond (must_be_given a) None (Some l) | Some value ↦ behind_value a value ]) e ∙ ap (λ (c : Bool). cond c None (Some l)) k

given-read : (a : AttributeName) (value r : List ℕ) → is_value a value ≡ true → behind_attribute a (front_of a ++ (value ++ (codes "\"" ++ r))) ≡ Some r
given-read a value r v =
    let l = front_of a ++ (value ++ (codes "\"" ++ r)) in
    ap (λ x. elim x as (λ _. Option (List ℕ)) [ None ↦ cond (must_be_given a) None (Some l) | Some more ↦ behind_value a more ]) (behind-front (front_of a) (value ++ (codes "\"" ++ r))) ∙ value-read a value r v

attributes-read : (names : List AttributeName) (attributes : List ℕ) (void : Bool) (h : List ℕ) → AreAttributes names attributes → Distinct names
    → let tail : List ℕ = cond void (codes " />") (codes ">") ++ h in behind_attributes names (attributes ++ tail) ≡ Some tail
attributes-read names attributes void h safe.none d = refl
attributes-read names attributes void h (safe.missing a more k it) d =
    let tail = cond void (codes " />") (codes ">") ++ h in
    ap (option_and_then (behind_attributes more)) (missing-by (behind (front_of a) (attributes ++ tail)) a (attributes ++ tail) (begins-so (Apart a) more attributes tail it d.0 (end-apart void a h)) k)
    ∙ attributes-read more attributes void h it d.1
attributes-read names attributes void h (safe.given a more value rest e v it) d =
    let tail = cond void (codes " />") (codes ">") ++ h in
    let same = ap (λ (x : List ℕ). x ++ tail) e ∙ append_assoc (quoted a value) rest tail ∙ quoted-assoc a value (rest ++ tail) in
    ap (behind_attributes names) same ∙ ap (option_and_then (behind_attributes more)) (given-read a value (rest ++ tail) v) ∙ attributes-read more rest void h it d.1

-- ---- tags

-- the first byte behind a name is none of a name
attribute-stops : (a : AttributeName) (x : List ℕ) → prefix_len is_ascii_alphanumeric (front_of a ++ x) ≡ 0
attribute-stops a x = refl

each-stops : (names : List AttributeName) → Each names (λ l. prefix_len is_ascii_alphanumeric l ≡ 0)
each-stops [] = tt
each-stops (a ∷ names) = (attribute-stops a, each-stops names)

end-stops : (v : Bool) (h : List ℕ) → prefix_len is_ascii_alphanumeric (cond v (codes " />") (codes ">") ++ h) ≡ 0
end-stops true h = refl
end-stops false h = refl

pub name-stops : (names : List AttributeName) (attributes : List ℕ) (void : Bool) (h : List ℕ) → AreAttributes names attributes
    → prefix_len is_ascii_alphanumeric (attributes ++ (cond void (codes " />") (codes ">") ++ h)) ≡ 0
name-stops names attributes void h it =
    begins-so (λ l. prefix_len is_ascii_alphanumeric l ≡ 0) names attributes (cond void (codes " />") (codes ">") ++ h) it (each-stops names) (end-stops void h)

-- what is read of a tag, behind its name
pub name-read : (e : Element) (attributes h : List ℕ) → AreAttributes (attributes_of e) attributes → behind_name e (attributes ++ (tag_end e ++ h)) ≡ Some h
name-read e attributes h it =
    ap (option_and_then (behind (tag_end e))) (attributes-read (attributes_of e) attributes (is_void e) h it (distinct e)) ∙ behind-front (tag_end e) h

pub record Ended (e : Element) (l : List ℕ) (P : List ℕ → Type 0) : Type 0 where
  pub attributes : List ℕ
  pub rest : List ℕ
  pub same : l ≡ attributes ++ (tag_end e ++ rest)
  pub are : AreAttributes (attributes_of e) attributes
  pub holds : P rest

ended-by : (o : Option (List ℕ)) (e : Element) (l : List ℕ) (P : List ℕ → Type 0) → behind_attributes (attributes_of e) l ≡ o → Then (option_and_then (behind (tag_end e)) o) P → Ended e l P
ended-by None e l P k h = absurd h
ended-by (Some m) e l P k h =
    let it = behind-then (tag_end e) m P h in
    let read = attributes-then (attributes_of e) l (λ x. x ≡ m) (subst (λ o. Then o (λ x. x ≡ m)) (sym k) refl) in
    record {
      attributes = read.attributes;
      rest = it.rest;
      same = read.same ∙ ap (λ x. read.attributes ++ x) (read.holds ∙ it.same);
      are = read.are;
      holds = it.holds;
    }

pub ended-then : (e : Element) (l : List ℕ) (P : List ℕ → Type 0) → Then (behind_name e l) P → Ended e l P
ended-then e l P h = ended-by (behind_attributes (attributes_of e) l) e l P refl h

-- ---- names

some-name : (e f : Element) → Some e ≡ Some f → name_of e ≡ name_of f
some-name e f h = ap (λ o. elim o as (λ _. List ℕ) [ None ↦ [] | Some x ↦ name_of x ]) h

named-by : (c : Bool) (e : Element) (es : List Element) (n : List ℕ) (f : Element) → bytes_eq n (name_of e) ≡ c → cond c (Some e) (named es n) ≡ Some f → (named es n ≡ Some f → n ≡ name_of f)
    → n ≡ name_of f
named-by true e es n f k h more = (bytes_eq-Decides n (name_of e)).0 k ∙ some-name e f h
named-by false e es n f k h more = more h

pub named-is : (es : List Element) (n : List ℕ) (f : Element) → named es n ≡ Some f → n ≡ name_of f
named-is [] n f h = absurd (none-some f h)
named-is (e ∷ es) n f h = named-by (bytes_eq n (name_of e)) e es n f refl h (named-is es n f)

pub named-read : (e : Element) → named elements (name_of e) ≡ Some e
named-read Anchor = refl
named-read BlockQuote = refl
named-read Break = refl
named-read Checkbox = refl
named-read Code = refl
named-read DataCell = refl
named-read Deleted = refl
named-read Emphasis = refl
named-read HeaderCell = refl
named-read Heading1 = refl
named-read Heading2 = refl
named-read Heading3 = refl
named-read Heading4 = refl
named-read Heading5 = refl
named-read Heading6 = refl
named-read Image = refl
named-read ListItem = refl
named-read OrderedList = refl
named-read Paragraph = refl
named-read Preformatted = refl
named-read Section = refl
named-read Superscript = refl
named-read Strong = refl
named-read Table = refl
named-read TableBody = refl
named-read TableHead = refl
named-read TableRow = refl
named-read ThematicBreak = refl
named-read UnorderedList = refl

pub name-letters : (e : Element) → list_all is_ascii_alphanumeric (name_of e) ≡ true
name-letters Anchor = refl
name-letters BlockQuote = refl
name-letters Break = refl
name-letters Checkbox = refl
name-letters Code = refl
name-letters DataCell = refl
name-letters Deleted = refl
name-letters Emphasis = refl
name-letters HeaderCell = refl
name-letters Heading1 = refl
name-letters Heading2 = refl
name-letters Heading3 = refl
name-letters Heading4 = refl
name-letters Heading5 = refl
name-letters Heading6 = refl
name-letters Image = refl
name-letters ListItem = refl
name-letters OrderedList = refl
name-letters Paragraph = refl
name-letters Preformatted = refl
name-letters Section = refl
name-letters Superscript = refl
name-letters Strong = refl
name-letters Table = refl
name-letters TableBody = refl
name-letters TableHead = refl
name-letters TableRow = refl
name-letters ThematicBreak = refl
name-letters UnorderedList = refl
