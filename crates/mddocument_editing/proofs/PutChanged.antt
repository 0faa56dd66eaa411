-- Sections with others in the place of some, where labels change: the document that is kept then, and what changed.
use Rattle.mddocument_editing.proofs.Prelude.{◌≡◌, ◌⊎◌, ℕ, zero, suc, ◌+◌, ◌-◌, ◌≤◌, ◌<◌, List, [], ◌∷◌, ◌++◌, length, get_or, take, drop, refl, subst, sym, ap, ◌∙◌, arith, append_assoc, inl, inr, get_or-append_right, get_or-map, get_or_append_left, length-append, length-map, length-take-le, AllByRecursion, Contains, Global, Vec, every-append, every-drop, every-map, every-take, Event, part_events, Divided, is_key_of, IsChange, IsWhy, KeepsEvents, KeepsTargets, ascend_from, numbers_of, section_events, section_of, Option, IsKept, IsRead, IsRecut, bytes_of_sections, divided_of, recut_document, AreReread, HasEvents, put_all, AreTrimmed, Kept, Other, Reread, Section, Why, knows, Key, Defined}
use Rattle.mddocument_editing.specs.Listed.{Listed}
use Rattle.mddocument_editing.proofs.PutSections.{bytes-put, change-of, kept-as}
use Rattle.mddocument_link_targets.specs.declared.targets.Parts.{Parts}
use Rattle.mddocument_editing.specs.declared.edit.Why.TheVariants as why
use Rattle.mddocument_editing.specs.Leading.{first_said, leads_to, section_targets, targets_in}
use Rattle.mddocument_editing.specs.Told.{AreToldAround, HasTargets, IsNew}
use Rattle.mddocument_editing.proofs.Rereads.{IsReadBySome, put-again, rereads-each}
use Rattle.mddocument_editing.proofs.ToldOthers.{ascend-append, in-first, in-last, told-ascend, told-each, told-same}
use Rattle.mddocument_editing.proofs.SectionBytes.{every-at}

-- an element of a list, by its number
at-element : {X : Type 0} {G : Type 0} (xs : List X) (i : ℕ) → i < length xs → ((x : X) → x ≡ get_or xs i x → G) → G
at-element [] i lt f = absurd (omega (arith, lt))
at-element (x ∷ xs) zero lt f = f x refl
at-element (x ∷ xs) (suc i) lt f = at-element xs i (omega (arith, lt)) f

-- Parts were read by the labels that are defined now, and so were the others that have other events by them; then the sections that were read are put in
-- the place of some
pub record ArePutIn (k : Kept) (known : Defined) (from end new_to : ℕ) (parts : List (List ℕ)) (read sections : List Section) (others : List Reread) (told : List Other) : Type 0 where
  pub kept : IsKept k
  pub recut : IsRecut k from end parts
  pub trimmed : AreTrimmed (bytes_of_sections k.sections.items) from end parts
  pub labels : (key : Key) → knows known key ≡ is_key_of (recut_document k from end parts) key
  pub bytes : bytes_of_sections read ≡ parts
  pub are_read : AllByRecursion (IsRead k.options (knows known)) read
  pub ends : new_to ≡ from + length read
  pub rereads_are : AreReread (part_events k.options (knows known)) 0 (take from k.sections.items ++ (read ++ drop end k.sections.items)) others
  pub sections_are : sections ≡ take from k.sections.items ++ (read ++ drop end k.sections.items)
  pub told_are : AreToldAround (part_events k.options (knows known)) (first_said (part_events k.options (knows k.known)) (bytes_of_sections k.sections.items))
      (first_said (part_events k.options (knows known)) (bytes_of_sections (take from k.sections.items ++ (read ++ drop end k.sections.items)))) new_to (take from k.sections.items) (drop end k.sections.items) told

module _ {k : Kept} {known : Defined} {from end new_to : ℕ} {parts : List (List ℕ)} {read sections : List Section} {others : List Reread} {told : List Other}
    (are : ArePutIn k known from end new_to parts read sections others told) where
  abbrev front : List Section
  front = take from k.sections.items

  abbrev behind : List Section
  behind = drop end k.sections.items

  abbrev all : List Section
  all = front ++ (read ++ behind)

  abbrev by_old : Section → Type 0
  by_old = IsRead k.options (knows k.known)

  abbrev by_new : List ℕ → List Event
  by_new = part_events k.options (knows known)

  count : length front ≡ from
  count = length-take-le from k.sections.items (omega (arith, are.recut.order, are.recut.within))

  -- the numbers of those that were read again are those of sections
  pub below : AllByRecursion (λ (other : Reread). other.section < length sections) others
  below =
      subst (λ (ss : List Section). AllByRecursion (λ (other : Reread). other.section < length ss) others) (sym are.sections_are)
      (rereads-each by_new (λ i. i < length all) 0 all others are.rereads_are (λ i s lt there differs. omega (arith, lt)))

  some-read : AllByRecursion (IsReadBySome k.options) all
  some-read =
      let P = IsReadBySome k.options in
      let old = every-map by_old P (λ s is. (knows k.known, is)) k.sections.items are.kept.read in
      let new = every-map (IsRead k.options (knows known)) P (λ s is. (knows known, is)) read are.are_read in
      every-append P front (read ++ behind) (every-take P from k.sections.items old) (every-append P read behind new (every-drop P end k.sections.items old))

  -- a section in front of those that were put in, or behind them, is one that was kept
  was-read : (i : ℕ) (s : Section) → i < length all → s ≡ get_or all i s → (i < from) ⊎ (new_to ≤ i) → by_old s
  was-read i s lt there (inl less) =
      let few : i < length front = omega (arith, count, less) in
      subst by_old (sym (there ∙ get_or_append_left front (read ++ behind) s i few)) (every-at by_old front i s (every-take by_old from k.sections.items are.kept.read) few)
  was-read i s lt there (inr more) =
      let long : length (front ++ read) ≡ new_to = length-append front read ∙ ap (λ n. n + length read) count ∙ sym are.ends in
      let e : all ≡ (front ++ read) ++ behind = sym (append_assoc front read behind) in
      let few : i - new_to < length behind = omega (arith, lt, more, ap length e, length-append (front ++ read) behind, long) in
      subst by_old (sym (there ∙ ap (λ ss. get_or ss i s) e ∙ get_or-append_right (front ++ read) behind new_to i s long more))
      (every-at by_old behind (i - new_to) s (every-drop by_old end k.sections.items are.kept.read) few)

  -- one between has its events
  now-has : (i : ℕ) (s : Section) → s ≡ get_or all i s → from ≤ i → i < new_to → HasEvents by_new s
  now-has i s there least less =
      let few : i - from < length read = omega (arith, least, less, are.ends) in
      let is = every-at (IsRead k.options (knows known)) read (i - from) s are.are_read few in
      let same : s ≡ get_or read (i - from) s = there ∙ get_or-append_right front (read ++ behind) from i s count least ∙ get_or_append_left read behind s (i - from) few in
      subst (HasEvents by_new) (sym same) (sym is.events)

  -- the events of those that were read again are put in
  module _ (after : Listed) (put : after.items ≡ put_all sections others) where
    abbrev kept_then : Kept
    kept_then = record { options = k.options; known = known; sections = after }

    abbrev again : (ss : List Section) × ((put_all all others ≡ ss) × ((bytes_of_sections ss ≡ bytes_of_sections all) × AllByRecursion (IsRead k.options (knows known)) ss))
    again = put-again k.options (knows known) [] all 0 others refl are.rereads_are some-read

    now : after.items ≡ again.0
    now = put ∙ ap (λ ss. put_all ss others) are.sections_are ∙ again.1.0

    -- the document is the one with the parts in place
    pub then-document : divided_of kept_then ≡ recut_document k from end parts
    then-document =
        ap (λ (ss : List (List ℕ)). record { options = k.options; sections = ss }) (ap bytes_of_sections now ∙ again.1.1.0 ∙ bytes-put from end k.sections.items read parts are.bytes)

    -- it is kept
    pub then-kept : IsKept kept_then
    then-kept =
        kept-as kept_then (recut_document k from end parts) then-document are.recut.divided are.labels (subst (AllByRecursion (IsRead k.options (knows known))) (sym now) again.1.1.1)

    abbrev old : Divided
    old = divided_of k

    abbrev new : Divided
    new = recut_document k from end parts

    abbrev bytes : Section → List ℕ
    bytes section = section.part.bytes.items

    placed : bytes_of_sections all ≡ new.sections
    placed = bytes-put from end k.sections.items read parts are.bytes

    same-count : length all ≡ length new.sections
    same-count = sym (length-map all bytes) ∙ ap length placed

    -- its bytes are those of the section with its number
    section-is : (i : ℕ) (s : Section) → i < length all → s ≡ get_or all i s → section_of new i ≡ bytes s
    section-is i s lt there = ap (λ ss. get_or ss i []) (sym placed) ∙ get_or-map bytes all i s [] lt ∙ ap bytes (sym there)

    by_new-is : by_new ≡ part_events k.options (is_key_of new)
    by_new-is = let same : knows known ≡ is_key_of new = λ i key. are.labels key i in ap (part_events k.options) same

    by_old-is : part_events k.options (knows k.known) ≡ part_events k.options (is_key_of old)
    by_old-is = let same : knows k.known ≡ is_key_of old = λ i key. are.kept.labels key i in ap (part_events k.options) same

    -- it keeps its events, if they are those that the new labels give, and only then
    keeps : (s : Section) → by_old s → HasEvents by_new s → KeepsEvents old new (bytes s)
    keeps s is has = ap (λ (read_by : List ℕ → List Event). read_by (bytes s)) (sym by_new-is) ∙ has ∙ is.events ∙ ap (λ (read_by : List ℕ → List Event). read_by (bytes s)) by_old-is

    has-kept : (s : Section) → by_old s → KeepsEvents old new (bytes s) → HasEvents by_new s
    has-kept s is same =
        ap (λ (read_by : List ℕ → List Event). read_by (bytes s)) by_new-is ∙ same ∙ ap (λ (read_by : List ℕ → List Event). read_by (bytes s)) (sym by_old-is) ∙ sym is.events

    -- what labels led to, and what they lead to
    abbrev old_leads : List ℕ → Option Parts
    old_leads = first_said (part_events k.options (knows k.known)) (bytes_of_sections k.sections.items)

    abbrev new_leads : List ℕ → Option Parts
    new_leads = first_said by_new (bytes_of_sections all)

    old-leads-are : leads_to old ≡ old_leads
    old-leads-are = ap (λ (read_by : List ℕ → List Event). first_said read_by old.sections) (sym by_old-is)

    new-leads-are : leads_to new ≡ new_leads
    new-leads-are = ap (λ (read_by : List ℕ → List Event). first_said read_by new.sections) (sym by_new-is) ∙ ap (first_said by_new) (sym placed)

    -- what the links of a section lead to, by the events that it has
    old-targets : (s : Section) → by_old s → section_targets old (bytes s) ≡ targets_in old_leads (bytes s) s.events
    old-targets s is =
        ap (λ leads. targets_in leads (bytes s) (section_events old (bytes s))) old-leads-are
        ∙ ap (targets_in old_leads (bytes s)) (ap (λ (read_by : List ℕ → List Event). read_by (bytes s)) (sym by_old-is) ∙ sym is.events)

    new-targets : (s : Section) → HasEvents by_new s → section_targets new (bytes s) ≡ targets_in new_leads (bytes s) s.events
    new-targets s has =
        ap (λ leads. targets_in leads (bytes s) (section_events new (bytes s))) new-leads-are
        ∙ ap (targets_in new_leads (bytes s)) (ap (λ (read_by : List ℕ → List Event). read_by (bytes s)) (sym by_new-is) ∙ has)

    -- what is new of a section
    news : (s : Section) (w : Why) → by_old s → IsNew by_new old_leads new_leads s w → IsWhy old new (bytes s) w
    news s why.Events is differs = λ same. differs (has-kept s is same)
    news s why.Targets is differ = (keeps s is differ.0, λ same. differ.1 (sym (new-targets s differ.0) ∙ same ∙ old-targets s is))

    -- and nothing is
    no-news : (s : Section) → by_old s → HasEvents by_new s × HasTargets by_new old_leads new_leads s → KeepsEvents old new (bytes s) × KeepsTargets old new (bytes s)
    no-news s is has = (keeps s is has.0, new-targets s has.0 ∙ has.1 ∙ sym (old-targets s is))

    -- a section in front or behind, among all
    in-front : (i : ℕ) (s : Section) → i < length front → s ≡ get_or front i s → s ≡ get_or all i s
    in-front i s lt there = there ∙ sym (get_or_append_left front (read ++ behind) s i lt)

    at-behind : (i : ℕ) (s : Section) → s ≡ get_or behind i s → s ≡ get_or all (new_to + i) s
    at-behind i s there =
        let long : length (front ++ read) ≡ new_to = length-append front read ∙ ap (λ n. n + length read) count ∙ sym are.ends in
        let e : all ≡ (front ++ read) ++ behind = sym (append_assoc front read behind) in
        let same : new_to + i - new_to ≡ i = omega arith in
        there ∙ sym (ap (λ ss. get_or ss (new_to + i) s) e ∙ get_or-append_right (front ++ read) behind new_to (new_to + i) s long (omega arith) ∙ ap (λ j. get_or behind j s) same)

    sizes : length all ≡ new_to + length behind
    sizes = length-append front (read ++ behind) ∙ ap (λ n. length front + n) (length-append read behind) ∙ omega (arith, count, are.ends)

    abbrev IsTold : Other → Type 0
    IsTold other = ((other.section < length new.sections) × ((other.section < from) ⊎ (new_to ≤ other.section))) × IsWhy old new (section_of new other.section) other.why

    one-told : (i : ℕ) (s : Section) (w : Why) → i < length all → s ≡ get_or all i s → (i < from) ⊎ (new_to ≤ i) → IsNew by_new old_leads new_leads s w → IsTold (record { section = i; why = w })
    one-told i s w lt there side is =
        ((omega (arith, lt, same-count), side), subst (λ bs. IsWhy old new bs w) (sym (section-is i s lt there)) (news s w (was-read i s lt there side) is))

    told-front : AllByRecursion (λ (other : Other). IsTold other × (other.section < from)) are.told_are.first
    told-front =
        told-each by_new old_leads new_leads (λ (other : Other). IsTold other × (other.section < from)) 0 front are.told_are.first are.told_are.told
        (λ i s w lt there is.
        let e : i ≡ 0 + i = omega arith in
        let few : i < from = omega (arith, lt, count) in
        subst (λ k. IsTold (record { section = k; why = w }) × (k < from)) e ((one-told i s w (omega (arith, few, sizes, are.ends)) (in-front i s lt there) (inl few) is), few))

    told-behind : AllByRecursion IsTold are.told_are.last
    told-behind =
        told-each by_new old_leads new_leads IsTold new_to behind are.told_are.last are.told_are.told_behind
        (λ i s w lt there is. one-told (new_to + i) s w (omega (arith, lt, sizes)) (at-behind i s there) (inr (omega arith)) is)

    told-all : AllByRecursion IsTold told
    told-all =
        subst (AllByRecursion IsTold) (sym are.told_are.both)
        (every-append IsTold are.told_are.first are.told_are.last (every-map (λ (other : Other). IsTold other × (other.section < from)) IsTold (λ other is. is.0) are.told_are.first told-front) told-behind)

    told-up : ascend_from 0 (numbers_of told)
    told-up =
        subst (λ os. ascend_from 0 (numbers_of os)) (sym are.told_are.both)
        (ascend-append 0 new_to are.told_are.first are.told_are.last (omega arith) (told-ascend by_new old_leads new_leads 0 front are.told_are.first are.told_are.told)
        (every-map (λ (other : Other). IsTold other × (other.section < from)) (λ (other : Other). other.section < new_to) (λ other is. omega (arith, is.1, are.ends)) are.told_are.first told-front)
        (told-ascend by_new old_leads new_leads new_to behind are.told_are.last are.told_are.told_behind))

    -- of a section that is not told nothing is new
    untold : (i : ℕ) (s : Section) → i < length all → s ≡ get_or all i s → (i < from) ⊎ (new_to ≤ i) → ¬ Contains (numbers_of told) i → HasEvents by_new s × HasTargets by_new old_leads new_leads s
    untold i s lt there (inl less) unnamed =
        let e : 0 + i ≡ i = omega arith in
        let few : i < length front = omega (arith, less, count) in
        told-same by_new old_leads new_leads 0 front are.told_are.first are.told_are.told i s few (there ∙ get_or_append_left front (read ++ behind) s i few)
        (λ has. unnamed (subst (λ os. Contains (numbers_of os) i) (sym are.told_are.both) (in-first are.told_are.first are.told_are.last i (subst (Contains (numbers_of are.told_are.first)) e has))))
    untold i s lt there (inr more) unnamed =
        let long : length (front ++ read) ≡ new_to = length-append front read ∙ ap (λ n. n + length read) count ∙ sym are.ends in
        let a : all ≡ (front ++ read) ++ behind = sym (append_assoc front read behind) in
        let e : new_to + (i - new_to) ≡ i = omega arith in
        told-same by_new old_leads new_leads new_to behind are.told_are.last are.told_are.told_behind (i - new_to) s (omega (arith, lt, more, sizes))
        (there ∙ ap (λ ss. get_or ss i s) a ∙ get_or-append_right (front ++ read) behind new_to i s long more)
        (λ has. unnamed (subst (λ os. Contains (numbers_of os) i) (sym are.told_are.both) (in-last are.told_are.first are.told_are.last i (subst (Contains (numbers_of are.told_are.last)) e has))))

    -- and this changed
    pub then-change : (changed : Vec Other Global) → changed.items ≡ told → IsChange (divided_of k) (divided_of kept_then) (record { from = from; old_to = end; new_to = new_to; others = changed })
    then-change changed named =
        let all_told = subst (AllByRecursion IsTold) (sym named) told-all in
        let parts_end : new_to ≡ from + length parts = are.ends ∙ ap (λ n. from + n) (sym (length-map read bytes) ∙ ap length are.bytes) in
        let long = length-map k.sections.items bytes in
        let same : (i : ℕ) → i < length new.sections → (i < from) ⊎ (new_to ≤ i) → ¬ Contains (numbers_of changed.items) i → KeepsEvents old new (section_of new i) × KeepsTargets old new (section_of new i) = λ i within side unnamed.
        let lt : i < length all = omega (arith, within, same-count) in
        at-element all i lt
        (λ s there.
        subst (λ bs. KeepsEvents old new bs × KeepsTargets old new bs) (sym (section-is i s lt there))
        (no-news s (was-read i s lt there side) (untold i s lt there side (λ has. unnamed (subst (λ os. Contains (numbers_of os) i) (sym named) has)))))
        in
        subst (λ (d : Divided). IsChange old d (record { from = from; old_to = end; new_to = new_to; others = changed })) (sym then-document)
        (change-of old from end parts new_to changed are.recut.order (omega (arith, are.recut.within, long)) parts_end are.trimmed
        (subst (λ os. ascend_from 0 (numbers_of os)) (sym named) told-up)
        (every-map IsTold (λ (other : Other). (other.section < length new.sections) × ((other.section < from) ⊎ (new_to ≤ other.section))) (λ other is. is.0) changed.items all_told)
        (every-map IsTold (λ (other : Other). IsWhy old new (section_of new other.section) other.why) (λ other is. is.1) changed.items all_told) same)
