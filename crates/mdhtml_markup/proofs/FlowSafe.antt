-- HTML whose tree is read as it is written is safe.
use Rattle.std.proofs.Common.{◌≡◌, ℕ, List, [], ◌∷◌, ◌++◌, ap, sym, refl, subst, ◌∙◌, append_assoc, append-nil, Option, None, Some}
use Rattle.std.specs.Prelude.{◌==◌, ◌||◌, not, Bool, true, false, cond, is_some}
use Rattle.std.proofs.lemmas.Bool.{false≢true, or_right}
use Rattle.mdhtml_markup.specs.declared.elements.AttributeName.{AttributeName}
use Rattle.mdhtml_markup.specs.declared.elements.AttributeName.TheVariants as name
use Rattle.mdhtml_markup.specs.declared.elements.Element.{Element}
use Rattle.mdhtml_markup.specs.declared.elements.Element.TheVariants.{Anchor, BlockQuote, Break, Checkbox, Code, DataCell, Deleted, Emphasis, HeaderCell, Heading1, Heading2, Heading3, Heading4, Heading5, Heading6, Image, ListItem, OrderedList, Paragraph, Preformatted, Strong, Table, TableBody, TableHead, TableRow, ThematicBreak, UnorderedList, Section, Superscript}
use Rattle.mdhtml_markup.specs.Flow as flow
use Rattle.mdhtml_markup.specs.Flow.{AreGiven, BeforeCode, BehindCode, Blocks, Cells, IsContent, Items, Model, Parts, Phrases, Rows, Words, after, inside, may_be_missing, may_say, may_stand, phrases_in}
use Rattle.mdhtml_markup.specs.Laws.{FlowIsSafe}
use Rattle.mdhtml_markup.specs.SafeHtml as safe
use Rattle.mdhtml_markup.specs.SafeHtml.{AreAttributes, Entity, IsSafeHtml, attributes_of, behind, close_tag, entities, entity_among, entity_at, holds_blocks, holds_cells, holds_items, holds_parts, holds_rows, holds_text, is_mark, is_said, is_text_byte, must_be_given, open_tag, stands_in, void_tag}

-- ---- text stays text in front of more

more-by : (c : Bool) (front l r : List ℕ) → is_some (cond c (behind front l) None) ≡ true → (is_some (behind front l) ≡ true → is_some (behind front (l ++ r)) ≡ true)
    → is_some (cond c (behind front (l ++ r)) None) ≡ true
more-by true front l r h f = f h
more-by false front l r h f = absurd (false≢true h)

behind-more : (front l r : List ℕ) → is_some (behind front l) ≡ true → is_some (behind front (l ++ r)) ≡ true
behind-more [] l r h = refl
behind-more (f ∷ front) [] r h = absurd (false≢true h)
behind-more (f ∷ front) (b ∷ l) r h = more-by (f == b) front l r h (behind-more front l r)

among-by : (c d : Bool) (e : Entity) (o p : Option Entity) → is_some (cond c (Some e) o) ≡ true → (c ≡ true → d ≡ true) → (is_some o ≡ true → is_some p ≡ true)
    → is_some (cond d (Some e) p) ≡ true
among-by true d e o p h f g = ap (λ x. is_some (cond x (Some e) p)) (f refl)
among-by false true e o p h f g = refl
among-by false false e o p h f g = g h

among-more : (es : List Entity) (l r : List ℕ) → is_some (entity_among es l) ≡ true → is_some (entity_among es (l ++ r)) ≡ true
among-more [] l r h = absurd (false≢true h)
among-more (e ∷ es) l r h =
    among-by (is_some (behind e.0 l)) (is_some (behind e.0 (l ++ r))) e (entity_among es l) (entity_among es (l ++ r)) h (behind-more e.0 l r) (among-more es l r)

text-by : (c : Bool) (b : ℕ) (l r : List ℕ) → cond c (is_some (entity_at l)) (not (is_mark b)) ≡ true → cond c (is_some (entity_at (l ++ r))) (not (is_mark b)) ≡ true
text-by true b l r h = among-more entities l r h
text-by false b l r h = h

pub text-more : (b : ℕ) (l r : List ℕ) → is_text_byte b l ≡ true → is_text_byte b (l ++ r) ≡ true
text-more b l r h = text-by (b == 38) b l r h

-- ---- an element stands where it may

-- what may stand somewhere the open tags hold
abbrev Fits : Model → List Element → Type 0
Fits Blocks tags = holds_blocks tags ≡ true
Fits Items tags = holds_items tags ≡ true
Fits Parts tags = holds_parts tags ≡ true
Fits Rows tags = holds_rows tags ≡ true
Fits Cells tags = holds_cells tags ≡ true
Fits m tags = holds_text tags ≡ true

-- where blocks or items stand, text may stand
pub blocks-text : (tags : List Element) → holds_blocks tags ≡ true → holds_text tags ≡ true
blocks-text [] h = refl
blocks-text (Table ∷ tags) h = absurd (false≢true h)
blocks-text (TableBody ∷ tags) h = absurd (false≢true h)
blocks-text (TableHead ∷ tags) h = absurd (false≢true h)
blocks-text (TableRow ∷ tags) h = absurd (false≢true h)
blocks-text (e ∷ tags) h = refl

said-fits : (m : Model) (tags : List Element) (b : ℕ) → may_say m b ≡ true → Fits m tags → is_said tags b ≡ true
said-fits Blocks tags b h f = ap (λ c. c || (b == 10)) (blocks-text tags f)
said-fits (Phrases in_link) tags b h f = ap (λ c. c || (b == 10)) f
said-fits Items tags b h f = or_right (holds_text tags) (b == 10) h
said-fits Parts tags b h f = or_right (holds_text tags) (b == 10) h
said-fits Rows tags b h f = or_right (holds_text tags) (b == 10) h
said-fits Cells tags b h f = or_right (holds_text tags) (b == 10) h
said-fits BeforeCode tags b h f = absurd (false≢true h)
said-fits BehindCode tags b h f = absurd (false≢true h)
said-fits Words tags b h f = ap (λ c. c || (b == 10)) f

item-stands : (m : Model) (tags : List Element) → may_stand m ListItem ≡ true → Fits m tags → stands_in ListItem tags ≡ true
item-stands Blocks tags h f = absurd (false≢true h)
item-stands (Phrases true) tags h f = absurd (false≢true h)
item-stands (Phrases false) tags h f = absurd (false≢true h)
item-stands Items tags h f = f
item-stands Parts tags h f = absurd (false≢true h)
item-stands Rows tags h f = absurd (false≢true h)
item-stands Cells tags h f = absurd (false≢true h)
item-stands BeforeCode tags h f = absurd (false≢true h)
item-stands BehindCode tags h f = absurd (false≢true h)
item-stands Words tags h f = absurd (false≢true h)

-- a part of a table
part-stands : (m : Model) (e : Element) (tags : List Element) → may_stand Blocks e ≡ false → may_stand (Phrases true) e ≡ false → may_stand (Phrases false) e ≡ false → may_stand Items e ≡ false
    → may_stand Rows e ≡ false → may_stand Cells e ≡ false → may_stand BeforeCode e ≡ false → may_stand m e ≡ true → Fits m tags → holds_parts tags ≡ true
part-stands Blocks e tags b p q i r c k h f = absurd (false≢true (sym b ∙ h))
part-stands (Phrases true) e tags b p q i r c k h f = absurd (false≢true (sym p ∙ h))
part-stands (Phrases false) e tags b p q i r c k h f = absurd (false≢true (sym q ∙ h))
part-stands Items e tags b p q i r c k h f = absurd (false≢true (sym i ∙ h))
part-stands Parts e tags b p q i r c k h f = f
part-stands Rows e tags b p q i r c k h f = absurd (false≢true (sym r ∙ h))
part-stands Cells e tags b p q i r c k h f = absurd (false≢true (sym c ∙ h))
part-stands BeforeCode e tags b p q i r c k h f = absurd (false≢true (sym k ∙ h))
part-stands BehindCode e tags b p q i r c k h f = absurd (false≢true h)
part-stands Words e tags b p q i r c k h f = absurd (false≢true h)

row-stands : (m : Model) (tags : List Element) → may_stand m TableRow ≡ true → Fits m tags → holds_rows tags ≡ true
row-stands Blocks tags h f = absurd (false≢true h)
row-stands (Phrases true) tags h f = absurd (false≢true h)
row-stands (Phrases false) tags h f = absurd (false≢true h)
row-stands Items tags h f = absurd (false≢true h)
row-stands Parts tags h f = absurd (false≢true h)
row-stands Rows tags h f = f
row-stands Cells tags h f = absurd (false≢true h)
row-stands BeforeCode tags h f = absurd (false≢true h)
row-stands BehindCode tags h f = absurd (false≢true h)
row-stands Words tags h f = absurd (false≢true h)

cell-stands : (m : Model) (e : Element) (tags : List Element) → may_stand Blocks e ≡ false → may_stand (Phrases true) e ≡ false → may_stand (Phrases false) e ≡ false → may_stand Items e ≡ false
    → may_stand Parts e ≡ false → may_stand Rows e ≡ false → may_stand BeforeCode e ≡ false → may_stand m e ≡ true → Fits m tags → holds_cells tags ≡ true
cell-stands Blocks e tags b p q i r c k h f = absurd (false≢true (sym b ∙ h))
cell-stands (Phrases true) e tags b p q i r c k h f = absurd (false≢true (sym p ∙ h))
cell-stands (Phrases false) e tags b p q i r c k h f = absurd (false≢true (sym q ∙ h))
cell-stands Items e tags b p q i r c k h f = absurd (false≢true (sym i ∙ h))
cell-stands Parts e tags b p q i r c k h f = absurd (false≢true (sym r ∙ h))
cell-stands Rows e tags b p q i r c k h f = absurd (false≢true (sym c ∙ h))
cell-stands Cells e tags b p q i r c k h f = f
cell-stands BeforeCode e tags b p q i r c k h f = absurd (false≢true (sym k ∙ h))
cell-stands BehindCode e tags b p q i r c k h f = absurd (false≢true h)
cell-stands Words e tags b p q i r c k h f = absurd (false≢true h)

-- an element of text: it stands in no table or list directly
abbrev IsOfText : Element → Type 0
IsOfText e = (may_stand Items e ≡ false) × (may_stand Parts e ≡ false) × (may_stand Rows e ≡ false) × (may_stand Cells e ≡ false)

phrase-stands : (m : Model) (e : Element) (tags : List Element) → IsOfText e → may_stand m e ≡ true → Fits m tags → holds_text tags ≡ true
phrase-stands Blocks e tags n h f = blocks-text tags f
phrase-stands (Phrases in_link) e tags n h f = f
phrase-stands Items e tags n h f = absurd (false≢true (sym n.0 ∙ h))
phrase-stands Parts e tags n h f = absurd (false≢true (sym n.1 ∙ h))
phrase-stands Rows e tags n h f = absurd (false≢true (sym n.2 ∙ h))
phrase-stands Cells e tags n h f = absurd (false≢true (sym n.3 ∙ h))
phrase-stands BeforeCode e tags n h f = f
phrase-stands BehindCode e tags n h f = f
phrase-stands Words e tags n h f = f

-- an element that stands among blocks alone
block-stands : (m : Model) (e : Element) (tags : List Element) → may_stand (Phrases true) e ≡ false → may_stand (Phrases false) e ≡ false → IsOfText e → may_stand BeforeCode e ≡ false
    → may_stand m e ≡ true → Fits m tags → holds_blocks tags ≡ true
block-stands Blocks e tags p q n c h f = f
block-stands (Phrases true) e tags p q n c h f = absurd (false≢true (sym p ∙ h))
block-stands (Phrases false) e tags p q n c h f = absurd (false≢true (sym q ∙ h))
block-stands Items e tags p q n c h f = absurd (false≢true (sym n.0 ∙ h))
block-stands Parts e tags p q n c h f = absurd (false≢true (sym n.1 ∙ h))
block-stands Rows e tags p q n c h f = absurd (false≢true (sym n.2 ∙ h))
block-stands Cells e tags p q n c h f = absurd (false≢true (sym n.3 ∙ h))
block-stands BeforeCode e tags p q n c h f = absurd (false≢true (sym c ∙ h))
block-stands BehindCode e tags p q n c h f = absurd (false≢true h)
block-stands Words e tags p q n c h f = absurd (false≢true h)

stands : (m : Model) (e : Element) (tags : List Element) → may_stand m e ≡ true → Fits m tags → stands_in e tags ≡ true
stands m Anchor tags h f = phrase-stands m Anchor tags (refl, refl, refl, refl) h f
stands m BlockQuote tags h f = block-stands m BlockQuote tags refl refl (refl, refl, refl, refl) refl h f
stands m Break tags h f = phrase-stands m Break tags (refl, refl, refl, refl) h f
stands m Checkbox tags h f = phrase-stands m Checkbox tags (refl, refl, refl, refl) h f
stands m Code tags h f = phrase-stands m Code tags (refl, refl, refl, refl) h f
stands m DataCell tags h f = cell-stands m DataCell tags refl refl refl refl refl refl refl h f
stands m Deleted tags h f = phrase-stands m Deleted tags (refl, refl, refl, refl) h f
stands m Emphasis tags h f = phrase-stands m Emphasis tags (refl, refl, refl, refl) h f
stands m HeaderCell tags h f = cell-stands m HeaderCell tags refl refl refl refl refl refl refl h f
stands m Heading1 tags h f = block-stands m Heading1 tags refl refl (refl, refl, refl, refl) refl h f
stands m Heading2 tags h f = block-stands m Heading2 tags refl refl (refl, refl, refl, refl) refl h f
stands m Heading3 tags h f = block-stands m Heading3 tags refl refl (refl, refl, refl, refl) refl h f
stands m Heading4 tags h f = block-stands m Heading4 tags refl refl (refl, refl, refl, refl) refl h f
stands m Heading5 tags h f = block-stands m Heading5 tags refl refl (refl, refl, refl, refl) refl h f
stands m Heading6 tags h f = block-stands m Heading6 tags refl refl (refl, refl, refl, refl) refl h f
stands m Image tags h f = phrase-stands m Image tags (refl, refl, refl, refl) h f
stands m ListItem tags h f = item-stands m tags h f
stands m OrderedList tags h f = block-stands m OrderedList tags refl refl (refl, refl, refl, refl) refl h f
stands m Paragraph tags h f = block-stands m Paragraph tags refl refl (refl, refl, refl, refl) refl h f
stands m Preformatted tags h f = block-stands m Preformatted tags refl refl (refl, refl, refl, refl) refl h f
stands m Section tags h f = block-stands m Section tags refl refl (refl, refl, refl, refl) refl h f
stands m Superscript tags h f = phrase-stands m Superscript tags (refl, refl, refl, refl) h f
stands m Strong tags h f = phrase-stands m Strong tags (refl, refl, refl, refl) h f
stands m Table tags h f = block-stands m Table tags refl refl (refl, refl, refl, refl) refl h f
stands m TableBody tags h f = part-stands m TableBody tags refl refl refl refl refl refl refl h f
stands m TableHead tags h f = part-stands m TableHead tags refl refl refl refl refl refl refl h f
stands m TableRow tags h f = row-stands m tags h f
stands m ThematicBreak tags h f = block-stands m ThematicBreak tags refl refl (refl, refl, refl, refl) refl h f
stands m UnorderedList tags h f = block-stands m UnorderedList tags refl refl (refl, refl, refl, refl) refl h f

phrases-fit : (m : Model) (tags : List Element) → holds_text tags ≡ true → Fits (phrases_in m) tags
phrases-fit Blocks tags h = h
phrases-fit (Phrases in_link) tags h = h
phrases-fit Items tags h = h
phrases-fit Parts tags h = h
phrases-fit Rows tags h = h
phrases-fit Cells tags h = h
phrases-fit BeforeCode tags h = h
phrases-fit BehindCode tags h = h
phrases-fit Words tags h = h

inside-fits : (m : Model) (e : Element) (tags : List Element) → Fits (inside m e) (e ∷ tags)
inside-fits m Anchor tags = refl
inside-fits m BlockQuote tags = refl
inside-fits m Break tags = refl
inside-fits m Checkbox tags = refl
inside-fits m Code tags = refl
inside-fits m DataCell tags = refl
inside-fits m Deleted tags = phrases-fit m (Deleted ∷ tags) refl
inside-fits m Emphasis tags = phrases-fit m (Emphasis ∷ tags) refl
inside-fits m HeaderCell tags = refl
inside-fits m Heading1 tags = refl
inside-fits m Heading2 tags = refl
inside-fits m Heading3 tags = refl
inside-fits m Heading4 tags = refl
inside-fits m Heading5 tags = refl
inside-fits m Heading6 tags = refl
inside-fits m Image tags = refl
inside-fits m ListItem tags = refl
inside-fits m OrderedList tags = refl
inside-fits m Paragraph tags = refl
inside-fits m Preformatted tags = refl
inside-fits m Section tags = refl
inside-fits m Superscript tags = phrases-fit m (Superscript ∷ tags) refl
inside-fits m Strong tags = phrases-fit m (Strong ∷ tags) refl
inside-fits m Table tags = refl
inside-fits m TableBody tags = refl
inside-fits m TableHead tags = refl
inside-fits m TableRow tags = refl
inside-fits m ThematicBreak tags = refl
inside-fits m UnorderedList tags = refl

after-fits : (m : Model) (tags : List Element) → Fits m tags → Fits (after m) tags
after-fits Blocks tags f = f
after-fits (Phrases in_link) tags f = f
after-fits Items tags f = f
after-fits Parts tags f = f
after-fits Rows tags f = f
after-fits Cells tags f = f
after-fits BeforeCode tags f = f
after-fits BehindCode tags f = f
after-fits Words tags f = f

free-missing : (a : AttributeName) → may_be_missing a ≡ true → must_be_given a ≡ false
free-missing name.Align h = refl
free-missing name.Alt h = refl
free-missing name.Checked h = refl
free-missing name.Class h = refl
free-missing name.Disabled h = absurd (false≢true h)
free-missing name.FootnoteBack h = refl
free-missing name.FootnoteCall h = refl
free-missing name.FootnoteClass h = refl
free-missing name.Footnotes h = refl
free-missing name.Id h = refl
free-missing name.Label h = refl
free-missing name.Href h = refl
free-missing name.InputType h = absurd (false≢true h)
free-missing name.Src h = refl
free-missing name.Start h = refl
free-missing name.Title h = refl

given-are : (names : List AttributeName) (l : List ℕ) → AreGiven names l → AreAttributes names l
given-are names l flow.AreGiven.none = safe.AreAttributes.none
given-are names l (flow.AreGiven.missing a more m it) = safe.AreAttributes.missing a more (free-missing a m) (given-are more l it)
given-are names l (flow.AreGiven.given a more value rest e v it) = safe.AreAttributes.given a more value rest e v (given-are more rest it)

content-safe : (m : Model) (l : List ℕ) → IsContent m l → (tags : List Element) → Fits m tags → (r : List ℕ) → IsSafeHtml tags r → IsSafeHtml tags (l ++ r)
content-safe m l (flow.IsContent.end n e) tags f r s = s
content-safe m l (flow.IsContent.text n b h e k t it) tags f r s =
    safe.IsSafeHtml.text tags b (h ++ r) (ap (λ (x : List ℕ). x ++ r) e) (said-fits m tags b k f) (text-more b h r t) (content-safe m h it tags f r s)
content-safe m l (flow.IsContent.element n e attributes content h is v st a inner it) tags f r s =
    let rest = content-safe (after m) h it tags (after-fits m tags f) r s in
    let closed = safe.IsSafeHtml.closed tags e (h ++ r) refl rest in
    safe.IsSafeHtml.opened tags e attributes (content ++ (close_tag e ++ (h ++ r)))
    (ap (λ (x : List ℕ). x ++ r) is ∙ append_assoc (open_tag e attributes) (content ++ (close_tag e ++ h)) r
    ∙ ap (λ x. open_tag e attributes ++ x) (append_assoc content (close_tag e ++ h) r ∙ ap (λ x. content ++ x) (append_assoc (close_tag e) h r)))
    v (stands m e tags st f) (given-are (attributes_of e) attributes a) (content-safe (inside m e) content inner (e ∷ tags) (inside-fits m e tags) (close_tag e ++ (h ++ r)) closed)
content-safe m l (flow.IsContent.void n e attributes h is v st a it) tags f r s =
    safe.IsSafeHtml.void tags e attributes (h ++ r) (ap (λ (x : List ℕ). x ++ r) is ∙ append_assoc (void_tag e attributes) h r) v (stands m e tags st f) (given-are (attributes_of e) attributes a)
    (content-safe (after m) h it tags (after-fits m tags f) r s)

pub flow-safe : FlowIsSafe
flow-safe h it = subst (IsSafeHtml []) (append-nil h) (content-safe Blocks h it [] refl [] safe.IsSafeHtml.end)
