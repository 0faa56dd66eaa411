-- Sections with others in the place of some: the document that is kept then, and what changed.
use Rattle.mddocument_editing.proofs.Prelude.{◌≡◌, ◌⊎◌, ℕ, ◌+◌, ◌-◌, ◌≤◌, ◌<◌, List, [], ◌++◌, length, get_or, take, drop, subst, sym, ap, ◌∙◌, arith, map-id, YieldsList-from_vec, drop-map, drop_at, get_or-append_right, get_or_append_left, length-append, length-take-le, map-append, take-map, take_at, AllByRecursion, Contains, into_iter_items, into_iter_len, into_iter_steps, Global, Vec, every-append, every-drop, every-take, IsWithinLimit, every-back, every-front, document_of, Divided, IsDivided, is_key_of, IsChange, IsWhy, KeepsEvents, KeepsTargets, ascend_from, numbers_of, section_of, Other, IsKept, IsRead, bytes_of_sections, divided_of, AreTrimmed, Kept, Section, knows, Key}
use Rattle.std.proofs.lemmas.Iterator.{items_from_drains}
use Rattle.std.proofs.lemmas.List.{append_assoc}
use Rattle.std.specs.Iterator.{Drains}
use Rattle.std.specs.declared.vec.IntoIter.{IntoIter}
use Rattle.mddocument_editing.proofs.SectionBytes.{sections-within}

-- a vector that was drained gave its elements
pub drained : {A Z : Type 0} (it : IntoIter A Z) (all xs : List A) → into_iter_items it ≡ all → into_iter_len it ≡ length all → Drains into_iter_steps it xs → xs ≡ all
drained it all xs items len h = sym (map-id xs) ∙ items_from_drains xs (h.1.0, h.1.1, λ _. (h.0, h.1.2)) (YieldsList-from_vec all items len)

-- sections with those of a vector that was drained in the place of some
pub spliced : (from end : ℕ) (items read now : List Section) (it : IntoIter Section Global) (xs : List Section) → into_iter_items it ≡ read → into_iter_len it ≡ length read → Drains into_iter_steps it xs
    → now ≡ take from items ++ (xs ++ drop end items) → now ≡ take from items ++ (read ++ drop end items)
spliced from end items read now it xs are len drains is = is ∙ ap (λ ys. take from items ++ (ys ++ drop end items)) (drained it read xs are len drains)

-- parts of a document within the limit are within it
pub parts-within : (t : ℕ) (front parts behind : List (List ℕ)) → IsWithinLimit t (document_of (front ++ (parts ++ behind))) → AllByRecursion (IsWithinLimit t) parts
parts-within t front parts behind limit =
    every-front (IsWithinLimit t) parts behind (every-back (IsWithinLimit t) front (parts ++ behind) (sections-within t (front ++ (parts ++ behind)) limit))

-- what is kept, if it is this document
pub kept-as : (k : Kept) (d : Divided) → divided_of k ≡ d → IsDivided d → ((key : Key) → knows k.known key ≡ is_key_of d key)
    → AllByRecursion (IsRead k.options (knows k.known)) k.sections.items → IsKept k
kept-as k d is divided labels read = record {
  divided = subst IsDivided (sym is) divided;
  labels = λ key. labels key ∙ ap (λ (e : Divided). is_key_of e key) (sym is);
  read = read;
}

-- what holds of sections and of others holds of these in the place of some of them
pub every-put : (P : Section → Type 0) (from end : ℕ) (items read : List Section) → AllByRecursion P items → AllByRecursion P read → AllByRecursion P (take from items ++ (read ++ drop end items))
every-put P from end items read all more =
    every-append P (take from items) (read ++ drop end items) (every-take P from items all) (every-append P read (drop end items) more (every-drop P end items all))

-- the bytes of sections in three parts
pub bytes-three : (front read behind : List Section) → bytes_of_sections (front ++ (read ++ behind)) ≡ bytes_of_sections front ++ (bytes_of_sections read ++ bytes_of_sections behind)
bytes-three front read behind =
    map-append (λ section. section.part.bytes.items) front (read ++ behind) ∙ ap (λ ss. bytes_of_sections front ++ ss) (map-append (λ section. section.part.bytes.items) read behind)

pub bytes-put : (from end : ℕ) (items read : List Section) (parts : List (List ℕ)) → bytes_of_sections read ≡ parts
    → bytes_of_sections (take from items ++ (read ++ drop end items)) ≡ take from (bytes_of_sections items) ++ (parts ++ drop end (bytes_of_sections items))
bytes-put from end items read parts is =
    bytes-three (take from items) read (drop end items)
    ∙ ap (λ ss. ss ++ (bytes_of_sections read ++ bytes_of_sections (drop end items))) (sym (take-map (λ section. section.part.bytes.items) from items))
    ∙ ap (λ ss. take from (bytes_of_sections items) ++ (ss ++ bytes_of_sections (drop end items))) is
    ∙ ap (λ ss. take from (bytes_of_sections items) ++ (parts ++ ss)) (sym (drop-map (λ section. section.part.bytes.items) end items))

module _ (old : Divided) (from end : ℕ) (parts : List (List ℕ)) where
  -- the document with parts in the place of some of its sections
  abbrev pub replaced : Divided
  replaced = record { options = old.options; sections = take from old.sections ++ (parts ++ drop end old.sections) }

  -- what changes, if of these others something is new
  pub change-of : (new_to : ℕ) (others : Vec Other Global) → from ≤ end → end ≤ length old.sections → new_to ≡ from + length parts → AreTrimmed old.sections from end parts → ascend_from 0 (numbers_of others.items)
      → AllByRecursion (λ (other : Other). (other.section < length replaced.sections) × ((other.section < from) ⊎ (new_to ≤ other.section))) others.items
      → AllByRecursion (λ (other : Other). IsWhy old replaced (section_of replaced other.section) other.why) others.items
      → ((i : ℕ) → i < length replaced.sections → (i < from) ⊎ (new_to ≤ i) → ¬ Contains (numbers_of others.items) i → KeepsEvents old replaced (section_of replaced i) × KeepsTargets old replaced (section_of replaced i))
      → IsChange old replaced (record { from = from; old_to = end; new_to = new_to; others = others })
  change-of new_to others order within is trimmed up outside why same =
      let front = take from old.sections in
      let behind = drop end old.sections in
      let size : length front ≡ from = length-take-le from old.sections (omega arith) in
      let all = length-append front (parts ++ behind) in
      let more = length-append parts behind in
      let both : length (front ++ parts) ≡ new_to = length-append front parts ∙ ap (λ n. n + length parts) size ∙ sym is in
      -- one of the parts, by its number among all
      let one : (k : ℕ) → k < length parts → get_or (front ++ (parts ++ behind)) (from + k) [] ≡ get_or parts k [] = λ k lt.
      let e : from + k - from ≡ k = omega arith in
      get_or-append_right front (parts ++ behind) from (from + k) [] size (omega arith) ∙ ap (λ j. get_or (parts ++ behind) j []) e ∙ get_or_append_left parts behind [] k lt
      in
      record {
        old_within = (order, within);
        new_within = (omega arith, omega arith);
        front = take_at front (parts ++ behind) from size;
        behind = ap (drop new_to) (sym (append_assoc front parts behind)) ∙ drop_at (front ++ parts) behind new_to both;
        first = λ gone come alike.
            let some : 0 < length parts = omega arith in
            let e : from ≡ from + 0 = omega arith in
            trimmed.first gone some (sym (ap (λ j. get_or (front ++ (parts ++ behind)) j []) e ∙ one 0 some) ∙ alike);
        last = λ gone come alike.
            let some : 0 < length parts = omega arith in
            let lt : length parts - 1 < length parts = omega arith in
            let e : new_to - 1 ≡ from + (length parts - 1) = omega arith in
            trimmed.last gone some (sym (ap (λ j. get_or (front ++ (parts ++ behind)) j []) e ∙ one (length parts - 1) lt) ∙ alike);
        ascend = up;
        outside = outside;
        why = why;
        same = same;
      }
