-- The events of a link or an image, piece by piece.
use Rattle.std.proofs.Common.{◌≡◌, ◌<◌, ◌∙◌, List, [], ◌∷◌, ◌++◌, Bool, true, false, cond, ap, append-nil, append_assoc, arith, length, refl, sym}
use Rattle.markdown_base.specs.declared.event.Event.{Event}
use Rattle.markdown_base.specs.declared.event.Kind.TheVariants.{Enter, Exit}
use Rattle.markdown_base.specs.declared.event.Name.TheVariants.{Label, LabelImage, LabelText}
use Rattle.markdown_base.specs.declared.event.Point.{Point}
use Rattle.mdinline_emphasis.specs.Emphasis.{unlinked_event}
use Rattle.mdinline_links.specs.Linked.{Part, around, emphasised_parts, is_named, label_text, last_place, made}
use Rattle.mdinline_links.specs.Pieces.{closing_events, opening_events, tail_events, whole}

pub last-append : (p : Point) (xs : List Event) (c : Event) (cs : List Event) → last_place p (xs ++ c ∷ cs) ≡ last_place c.point cs
last-append p [] c cs = refl
last-append p (x ∷ xs) c cs = last-append x.point xs c cs

-- something is between a bracket and its end
abbrev pub is_filled : List Part → Bool
is_filled [] = false
is_filled (p ∷ ps) = true

abbrev pub is_last : List Event → Bool
is_last [] = true
is_last (e ∷ es) = false

last-both : (p : Point) (xs ys : List Event) → last_place p (xs ++ ys) ≡ last_place (last_place p xs) ys
last-both p [] ys = refl
last-both p (x ∷ xs) ys = last-both x.point xs ys

label-text-is : (o c : Event) (os cs : List Event) (behind : List Part)
    → label_text (o ∷ os) (c ∷ cs) behind
    ≡ cond (is_filled behind) (unlinked_event Enter LabelText (last_place o.point os) ∷ []) [] ++ (emphasised_parts behind ++ cond (is_filled behind) (unlinked_event Exit LabelText (last_place (last_place o.point os) (emphasised_parts behind)) ∷ []) [])
label-text-is o c os cs [] = refl
label-text-is o c os cs (p ∷ ps) = refl

regroup-last : (E A T Z C : List Event) (x y : Event)
    → (((E ++ ((A ++ (T ++ Z)) ++ C)) ++ x ∷ []) ++ []) ++ y ∷ [] ≡ (E ++ A) ++ (T ++ ((Z ++ (C ++ x ∷ y ∷ [])) ++ []))
regroup-last E A T Z C x y = simp (append_assoc, append-nil)

regroup-tail : (E A T Z C S : List Event) (x y : Event)
    → (((E ++ ((A ++ (T ++ Z)) ++ C)) ++ x ∷ []) ++ S) ++ y ∷ [] ≡ (E ++ A) ++ (T ++ ((Z ++ (C ++ x ∷ [])) ++ (S ++ y ∷ [])))
regroup-tail E A T Z C S x y = simp append_assoc

module _ (o : Event) (os : List Event) (c : Event) (cs : List Event) (behind : List Part) (image : Bool) where
  abbrev L : List Event
  L = (o ∷ os) ++ (label_text (o ∷ os) (c ∷ cs) behind ++ c ∷ cs)

  abbrev x : Event
  x = unlinked_event Exit Label (last_place c.point cs)

  abbrev y : Point → Event
  y p = unlinked_event Exit (whole image) p

  -- where the text ends
  abbrev text_end : List Event
  text_end = cond (is_filled behind) (unlinked_event Exit LabelText (last_place (last_place o.point os) (emphasised_parts behind)) ∷ []) []

  abbrev Pieces : (ends : List Event) → List Event → List Event
  Pieces ends tail =
      opening_events image (is_filled behind) (o ∷ os)
      ++ (emphasised_parts behind ++ ((ends ++ ((c ∷ cs) ++ x ∷ cond (is_last tail) (y (last_place c.point cs) ∷ []) [])) ++ tail_events image tail))

  abbrev Around : List Event → List Event
  Around tail = around (whole image) (around Label L ++ tail)

  -- the label ends where its end does
  label-end : last_place o.point (os ++ (label_text (o ∷ os) (c ∷ cs) behind ++ c ∷ cs)) ≡ last_place c.point cs
  label-end =
      ap (last_place o.point) (sym (append_assoc os (label_text (o ∷ os) (c ∷ cs) behind) (c ∷ cs)))
      ∙ last-append o.point (os ++ label_text (o ∷ os) (c ∷ cs) behind) c cs

  abbrev Whole : (tail : List Event) → (label all : Point) → List Event
  Whole tail q r = unlinked_event Enter (whole image) o.point ∷ unlinked_event Enter Label o.point ∷ (((L ++ unlinked_event Exit Label q ∷ []) ++ tail) ++ y r ∷ [])

  abbrev end_all : (tail : List Event) → Point → Point
  end_all tail q = last_place o.point ((L ++ unlinked_event Exit Label q ∷ []) ++ tail)

  around-is : (tail : List Event) → Around tail ≡ Whole tail (last_place c.point cs) (end_all tail (last_place c.point cs))
  around-is tail = ap (λ q. Whole tail q (end_all tail q)) label-end

  around-pieces : (tail : List Event) → Around tail ≡ Pieces text_end tail
  around-pieces [] =
      let q = last_place c.point cs in
      let end : end_all [] q ≡ q = ap (last_place o.point) (append-nil (L ++ x ∷ [])) ∙ last-append o.point L x [] in
      let A = cond (is_filled behind) (unlinked_event Enter LabelText (last_place o.point os) ∷ []) [] in
      let Z = text_end in
      around-is []
      ∙ ap (λ r. Whole [] q r) end
      ∙ ap (λ t. unlinked_event Enter (whole image) o.point ∷ unlinked_event Enter Label o.point ∷ (((((o ∷ os) ++ (t ++ c ∷ cs)) ++ x ∷ []) ++ []) ++ y q ∷ [])) (label-text-is o c os cs behind)
      ∙ ap (λ xs. unlinked_event Enter (whole image) o.point ∷ unlinked_event Enter Label o.point ∷ xs) (regroup-last (o ∷ os) A (emphasised_parts behind) Z (c ∷ cs) x (y q))
  around-pieces (t ∷ ts) =
      let q = last_place c.point cs in
      let end : end_all (t ∷ ts) q ≡ last_place t.point ts = last-append o.point (L ++ x ∷ []) t ts in
      let A = cond (is_filled behind) (unlinked_event Enter LabelText (last_place o.point os) ∷ []) [] in
      let Z = text_end in
      around-is (t ∷ ts)
      ∙ ap (λ r. Whole (t ∷ ts) q r) end
      ∙ ap (λ u. unlinked_event Enter (whole image) o.point ∷ unlinked_event Enter Label o.point ∷ (((((o ∷ os) ++ (u ++ c ∷ cs)) ++ x ∷ []) ++ t ∷ ts) ++ y (last_place t.point ts) ∷ [])) (label-text-is o c os cs behind)
      ∙ ap (λ xs. unlinked_event Enter (whole image) o.point ∷ unlinked_event Enter Label o.point ∷ xs) (regroup-tail (o ∷ os) A (emphasised_parts behind) Z (c ∷ cs) (t ∷ ts) x (y (last_place t.point ts)))

-- the text ends where the events before the end of the label do
text-ends : (o c : Event) (os before : List Event) (behind : List Part) (image : Bool)
    → cond (is_filled behind) (unlinked_event Exit LabelText (last_place (last_place o.point os) (emphasised_parts behind)) ∷ []) []
    ≡ cond (is_filled behind) (unlinked_event Exit LabelText (last_place c.point ((before ++ opening_events image (is_filled behind) (o ∷ os)) ++ emphasised_parts behind)) ∷ []) []
text-ends o c os before [] image = refl
text-ends o c os before (p ∷ ps) image =
    let text = emphasised_parts (p ∷ ps) in
    let front = unlinked_event Enter (whole image) o.point ∷ unlinked_event Enter Label o.point ∷ (o ∷ os) in
    let enter = unlinked_event Enter LabelText (last_place o.point os) in
    let first : last_place c.point (before ++ (front ++ enter ∷ [])) ≡ last_place o.point os =
    ap (last_place c.point) (sym (append_assoc before front (enter ∷ []))) ∙ last-append c.point (before ++ front) enter [] in
    ap (λ q. unlinked_event Exit LabelText q ∷ []) (sym (last-both c.point (before ++ (front ++ enter ∷ [])) text ∙ ap (λ q. last_place q text) first))

-- A link or an image is its bracket, its text, its end and its tail, each with what is around it; whatever is before it
pub made-is : (opener close tail before : List Event) (behind : List Part) → 0 < length opener → 0 < length close
    → let image = is_named LabelImage opener in
    let opens = opening_events image (is_filled behind) opener in
    let text = emphasised_parts behind in
    made opener behind close tail ≡ opens ++ (text ++ (closing_events ((before ++ opens) ++ text) image (is_filled behind) (is_last tail) close ++ tail_events image tail))
made-is [] close tail before behind a b = absurd (omega (arith, a))
made-is (o ∷ os) [] tail before behind a b = absurd (omega (arith, b))
made-is (o ∷ os) (c ∷ cs) tail before behind a b =
    let image = is_named LabelImage (o ∷ os) in
    around-pieces o os c cs behind image tail ∙ ap (λ ends. Pieces o os c cs behind image ends tail) (text-ends o c os before behind image)
