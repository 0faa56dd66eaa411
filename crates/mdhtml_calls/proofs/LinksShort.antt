-- Links back are short, if numbers have few digits.
use Rattle.std.proofs.Common.{◌≡◌, ℕ, suc, ◌+◌, ◌*◌, ◌≤◌, Bool, true, false, cond, List, [], ◌∷◌, ◌++◌, length, refl, arith}
use Rattle.std.proofs.Math.Nat.{mul-le-mul_right}
use Rattle.std.specs.Fmt.{decimal}
use Rattle.std.specs.List.{flat_map}
use Rattle.std.specs.Prelude.{zero, ◌==◌, codes}
use native.Mathlib.Nat.{add-mul, suc-mul}
use Rattle.markdown_base.specs.declared.configuration.CompileOptions.{CompileOptions}
use Rattle.mdhtml_document.specs.Html.{Known, note_blocks, note_pieces, notes_from, section_by}
use Rattle.mdhtml_document.specs.Notes.{back_link, back_links, back_links_from, call_id, classed, note_id, note_of, notes_of, repeated}
use Rattle.mdhtml_document.specs.Spans.{Spans}
use Rattle.mdhtml_document.proofs.ShortCalls.{call-link, number-short}
use Rattle.mdhtml_document.proofs.ShortShapes.{first-short, longs, longs-append, quoted-short, tag-long}
use Rattle.mdhtml_markup.specs.declared.elements.AttributeName.TheVariants as attr
use Rattle.mdhtml_markup.specs.declared.elements.Element.TheVariants.{Anchor, ListItem, OrderedList, Section, Superscript}
use Rattle.mdhtml_markup.specs.Pieces.{Attribute, Classed, Close, Feed, FootnoteBack, Href, Id, Label, Open, Text, attribute}
use Rattle.mdhtml_calls.proofs.Brief.{notes-few}
use Rattle.mdhtml_calls.proofs.Distinct.{calls-often, notes-distinct, often, sum}
use Rattle.mdhtml_calls.proofs.NotesShort.{blocks-short, defined-once, here_of}
use Rattle.mdhtml_calls.proofs.OwnShort.{total}

-- digits of numbers up to the number of calls
abbrev pub AreFew : (digits most : ℕ) → Type 0
AreFew digits most = (n : ℕ) → n ≤ most → length (decimal n) ≤ digits

repeat-short : (one : Bool) (digits r : ℕ) → length (decimal r) ≤ digits
    → longs (cond one [] (Open Superscript (classed (codes "footnote-ref")) ∷ Text (decimal r) ∷ Close Superscript ∷ [])) ≤ 40 + digits
repeat-short true digits r h = omega arith
repeat-short false digits r h = let number = number-short r in omega (arith, number, h)

link-short : (digits n r : ℕ) → length (decimal n) ≤ digits → length (decimal r) ≤ digits → longs (back_link n r) ≤ 200 + 3 * digits
link-short digits n r h k =
    let href = Href (codes "#" ++ call_id n r) in
    let rest : List Attribute = Classed (codes "footnote-backref") ∷ FootnoteBack ∷ Label (codes "Back to content") ∷ [] in
    let tag = tag-long Anchor (flat_map attribute (href ∷ rest)) in
    let one = first-short href rest in
    let link = call-link digits n r h k in
    let again = repeat-short (r == 1) digits r k in
    let all = longs-append (repeated r) (Close Anchor ∷ []) in
    omega (arith, tag, one, link, again, all)

space-short : (first : Bool) → longs (cond first [] (Text (codes " ") ∷ [])) ≤ 1
space-short true = omega arith
space-short false = omega arith

links-short : (digits most n first many : ℕ) → AreFew digits most → n ≤ most → first + many ≤ suc most → longs (back_links_from n first many) ≤ many * (3 * digits + 201)
links-short digits most n first zero few h k = omega arith
links-short digits most n first (suc many) few h k =
    let one = suc-mul many (3 * digits + 201) in
    let space = space-short (first == 1) in
    let link = link-short digits n first (few n h) (few first (omega (arith, k))) in
    let rest = links-short digits most n (suc first) many few h (omega (arith, k)) in
    let a = longs-append (cond (first == 1) [] (Text (codes " ") ∷ [])) (back_link n first ++ back_links_from n (suc first) many) in
    let b = longs-append (back_link n first) (back_links_from n (suc first) many) in
    omega (arith, one, space, link, rest, a, b)

item-short : (digits n : ℕ) → length (decimal n) ≤ digits → longs (Open ListItem (Id (note_id n) ∷ []) ∷ Feed ∷ []) ≤ 40 + digits
item-short digits n h =
    let id = Id (note_id n) in
    let tag = tag-long ListItem (flat_map attribute (id ∷ [])) in
    let one = first-short id [] in
    let q = quoted-short attr.Id (note_id n) tt in
    omega (arith, tag, one, q, h)

module _ (options : CompileOptions) (bytes : List ℕ) (known : Known) (tab digits most : ℕ) (few : AreFew digits most) where
  note-short : (definitions : List (List ℕ × Spans)) (called : List (List ℕ)) (number : ℕ) (label : List ℕ) → number ≤ most → often called label ≤ most
      → longs (note_pieces options bytes known tab definitions called number label)
      ≤ (here_of options bytes known tab (note_of label definitions) + often called label * (3 * digits + 201)) + (digits + 50)
  note-short definitions called number l h k =
      let many = often called l in
      let backs = back_links number many in
      let blocks = note_blocks options bytes known tab backs (note_of l definitions) in
      let item = item-short digits number (few number h) in
      let links = links-short digits most number 1 many few h (omega (arith, k)) in
      let short = blocks-short options bytes known tab backs (note_of l definitions) in
      let all = longs-append blocks (Close ListItem ∷ Feed ∷ []) in
      omega (arith, item, links, short, all)

  notes-short : (definitions : List (List ℕ × Spans)) (called : List (List ℕ)) (number : ℕ) (labels : List (List ℕ)) → number + length labels ≤ suc most → ((l : List ℕ) → often called l ≤ most)
      → longs (notes_from options bytes known tab definitions called number labels)
      ≤ (sum (λ l. here_of options bytes known tab (note_of l definitions)) labels + sum (often called) labels * (3 * digits + 201)) + length labels * (digits + 50)
  notes-short definitions called number [] h k = omega arith
  notes-short definitions called number (l ∷ ls) h k =
      let one = note-short definitions called number l (omega (arith, h)) (k l) in
      let rest = notes-short definitions called (suc number) ls (omega (arith, h)) k in
      let a = longs-append (note_pieces options bytes known tab definitions called number l) (notes_from options bytes known tab definitions called (suc number) ls) in
      let b = add-mul (often called l) (sum (often called) ls) (3 * digits + 201) in
      let c = suc-mul (length ls) (digits + 50) in
      omega (arith, one, rest, a, b, c)

often-few : (called : List (List ℕ)) (label : List ℕ) → often called label ≤ length called
often-few called label = let h = calls-often called (label ∷ []) (refl, tt) in omega (arith, h)

times : (k d : ℕ) → k * (4 * d + 371) ≡ (k * (3 * d + 201) + k * (d + 50)) + 120 * k
times zero d = omega arith
times (suc k) d =
    let one = suc-mul k (4 * d + 371) in
    let other = suc-mul k (3 * d + 201) in
    let third = suc-mul k (d + 50) in
    let more = times k d in
    omega (arith, one, other, third, more)

all-short : (long notes here calls labels k a b c total : ℕ) → long ≤ notes + 120 → notes ≤ (here + calls) + labels → here ≤ total → calls ≤ a → labels ≤ b → c ≡ (a + b) + 120 * k → 1 ≤ k → long ≤ total + c
all-short long notes here calls labels k a b c total h i j l m n o = omega arith

pub section-short : (options : CompileOptions) (bytes : List ℕ) (known : Known) (tab digits : ℕ) (definitions : List (List ℕ × Spans)) (called : List (List ℕ)) → AreFew digits (length called)
    → longs (section_by options bytes known tab definitions called) ≤ total options bytes known tab definitions + length called * (4 * digits + 371)
section-short options bytes known tab digits definitions [] few = omega arith
section-short options bytes known tab digits definitions (l ∷ ls) few =
    let called = l ∷ ls in
    let labels = notes_of called in
    let k = length called in
    let distinct = notes-distinct called in
    let count = notes-few called in
    let notes = notes_from options bytes known tab definitions called 1 labels in
    let short = notes-short options bytes known tab digits k few definitions called 1 labels (omega (arith, count)) (often-few called) in
    let once = defined-once options bytes known tab definitions labels distinct in
    let calls = mul-le-mul_right {m = sum (often called) labels} {n = k} (3 * digits + 201) (calls-often called labels distinct) in
    let many = mul-le-mul_right {m = length labels} {n = k} (digits + 50) count in
    let all = longs-append notes (Close OrderedList ∷ Feed ∷ Close Section ∷ Feed ∷ []) in
    all-short (longs (section_by options bytes known tab definitions called)) (longs notes) (sum (λ x. here_of options bytes known tab (note_of x definitions)) labels)
    (sum (often called) labels * (3 * digits + 201)) (length labels * (digits + 50)) k (k * (3 * digits + 201)) (k * (digits + 50)) (k * (4 * digits + 371))
    (total options bytes known tab definitions) (omega (arith, all)) short once calls many (times k digits) (omega arith)
