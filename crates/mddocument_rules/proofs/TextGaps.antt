-- Between two chunks of a text of a document is space: what is between the lines of its block, as in the skeleton.
use Rattle.mddocument_rules.proofs.Prelude.{◌≡◌, ◌∙◌, ℕ, zero, suc, ◌+◌, ◌-◌, Bool, true, false, List, [], ◌∷◌, ◌++◌, ◌⊎◌, append-nil, None, Option, Some, ap, arith, between, drop, every-all, every-append, every-drop, false≢true, flow_events, is_wanted, inl, inr, is_some, length, map, option_and_then, option_map, refl, slice_get, subst, sym, take, drop-at, AllByRecursion, Content, Enter, Event, Exit, content_at, content_of, next_of, relinked, with_ends, Fits, Given, IsDocument, IsReady, begins, blocks-are-those, chunk, document_blocks, document_skeleton, fits_next, fitting_starts}
use Rattle.std.proofs.lemmas.Option.{none-some, same_Some}
use Rattle.markdown_base.proofs.Common.{every-get, every-take}
use Rattle.markdown_base.specs.Events.{IsVoidTight}
use Rattle.markdown_base.specs.declared.event.Content.TheVariants as content
use Rattle.markdown_base.specs.declared.event.Link.{Link}
use Rattle.markdown_children.proofs.ChainOrder.Spaced.{changes_are_apart}
use Rattle.markdown_children.proofs.Parts.Kept.{after_changes, joined, part_after, untagged, untagged-olds, with_children_holds}
use Rattle.markdown_children.specs.Children.{child_changes, part_changes}
use Rattle.markdown_children.specs.LawStatements.{AreSpaced, LeadOnFrom}
use Rattle.markdown_children.specs.Parts.{Divided, divided_over}
use Rattle.markdown_edits.proofs.Edits.Passes.{woven-pass}
use Rattle.markdown_edits.specs.Links.{IsChunk, IsLinkedEnter}
use Rattle.markdown_edits.specs.Woven.{AreApart, Change, Tagged, placed_end, placed_in, woven}
use Rattle.mdblock_leaf_blocks.proofs.Marks.BlocksFormed.{blocks-are-formed}
use Rattle.mdblock_leaf_blocks.proofs.Marks.ChunksJoin.{blocks-meet}
use Rattle.mdblock_leaf_blocks.specs.ChunksJoin.{AcrossGap, ChunksMeet}
use Rattle.mddocument.proofs.Emphasis.Pairs.{Opens, Shut}
use Rattle.mddocument.proofs.Emphasis.Runs.{balanced-opens, balanced-shut}
use Rattle.mdblock_definitions.proofs.SectionsReady.{skeletons-are-ready, skeletons-have-one-content}
use Rattle.mdblock_table_marks.specs.Cells.{celled, enters_cell}
use Rattle.mdblock_text_lines.specs.DocumentBlocks.{document_leaf_blocks}
use Rattle.mdinline_text_machine.specs.ChainTexts.{chain_text}
use Rattle.mddocument.proofs.InContainers.CellsKeep.{with-cells-by}
use Rattle.mddocument.proofs.InContainers.Skeletons.{skeleton-laws, skeleton_chains}
use Rattle.mddocument.proofs.InContainers.TextsFormed.{content-ready}
use Rattle.mddocument.proofs.InContainers.Tight.{all-start, each-leaf}
use Rattle.mddocument.proofs.InContainers.Blocks.{blocks_at, shown, starts-are, texts-are}
use Rattle.mdinline_labels.specs.Labels.{is_label_white}
use Rattle.mdinline_text_machine.proofs.Paragraphs.ChainEvents.{is-content}
use Rattle.mddocument_link_targets.specs.Strings.{as_written}
use Rattle.mddocument_rules.proofs.AddedSpace.{told}
use Rattle.mddocument_rules.proofs.AlikeTexts.{AreWhite}
use Rattle.mddocument_rules.proofs.BlocksPlain.{blocks-minor}
use Rattle.mddocument_rules.proofs.Gaps.{AllOk}
use Rattle.mddocument_rules.proofs.TextsLead.{AreSpaces}
use Rattle.mddocument_rules.proofs.TightSpans.{no-chunks}
use Rattle.mddocument_rules.proofs.WhiteGaps.{GivesWhite, exit-white, skeleton-white, sum-is, told_sum}
use Rattle.mddocument_rules.proofs.WrittenSpans.{exit-gives}
use Rattle.mddocument_rules.specs.SegmentLaws.{BeginsWithAnEnter, leading_names}

-- ---- chunks of text
abbrev text_next : Content → Option ℕ → Option Bool
text_next content.Text next = Some (is_some next)
text_next content.Content next = None
text_next content.String next = None
text_next content.Flow next = None

-- whether a chunk of text that begins has a next one
abbrev linked_next : Option Link → Option Bool
linked_next None = None
linked_next (Some l) = text_next l.content l.next

abbrev begins_text : Event → Option Bool
begins_text e = linked_next e.link

-- whether a chunk of text has a next one, behind an event that begins one or does not; and whether something is asked of the event
abbrev waits_behind : Option Bool → Bool → Bool
waits_behind None waits = waits
waits_behind (Some next) waits = next

abbrev is_asked : Option Bool → Bool → Bool
is_asked None waits = waits
is_asked (Some next) waits = false

-- no chunk of text begins
abbrev AreOthers : List Event → Type 0
AreOthers es = AllByRecursion (λ (e : Event). begins_text e ≡ None) es

-- Events of a leaf block: behind a chunk that has a next one is nothing but its exit
abbrev Direct : Bool → List Event → Type 0
Direct waits [] = waits ≡ false
Direct waits (e ∷ es) = (is_asked (begins_text e) waits ≡ true → e.kind ≡ Exit) × Direct (waits_behind (begins_text e) waits) es

module _ (bytes : List ℕ) where
  -- Between chunks of a text events give white space
  abbrev Spaced : Bool → List Event → Type 0
  Spaced waits [] = Unit {0}
  Spaced waits (e ∷ es) = (is_asked (begins_text e) waits ≡ true → GivesWhite bytes e es) × Spaced (waits_behind (begins_text e) waits) es

  -- some of a leaf block's, before others
  direct-before : (waits : Bool) (xs zs ys : List Event) → Direct waits (xs ++ zs) → ((w : Bool) → Direct w zs → Spaced w ys) → Spaced waits (xs ++ ys)
  direct-before waits [] zs ys h more = more waits h
  direct-before waits (x ∷ xs) zs ys h more = ((λ asked. exit-white bytes x (xs ++ ys) (h.0 asked)), direct-before (waits_behind (begins_text x) waits) xs zs ys h.1 more)

  unlinked-other : (e : Event) → e.link ≡ None → begins_text e ≡ None
  unlinked-other e h = ap linked_next h

  other-first : (e : Event) (es : List Event) (waits : Bool) → begins_text e ≡ None → (waits ≡ true → GivesWhite bytes e es) → Spaced waits es → Spaced waits (e ∷ es)
  other-first e es waits other white h = subst (λ (o : Option Bool). (is_asked o waits ≡ true → GivesWhite bytes e es) × Spaced (waits_behind o waits) es) (sym other) (white, h)

  -- what is between two chunks of the skeleton
  gap-before : (gap : List Event) (waits : Bool) (ys : List Event) → AllOk (GivesWhite bytes) gap → Shut gap → Spaced waits ys → Spaced waits (gap ++ ys)
  gap-before [] waits ys ok shut h = h
  gap-before (e ∷ []) waits ys ok shut h = other-first e ys waits (unlinked-other e ok.0.1) (λ w. exit-white bytes e ys shut) h
  gap-before (e ∷ f ∷ es) waits ys ok shut h = other-first e (f ∷ (es ++ ys)) waits (unlinked-other e ok.0.1) (λ w. ok.0.0) (gap-before (f ∷ es) waits ys ok.1 shut h)

  others-before : (xs ys : List Event) → AreOthers xs → Spaced false ys → Spaced false (xs ++ ys)
  others-before [] ys other h = h
  others-before (x ∷ xs) ys other h = other-first x (xs ++ ys) false other.0 (λ e. absurd (false≢true e)) (others-before xs ys other.1 h)

  -- ---- where ends of links change
  some-next : (f : ℕ → Option ℕ) (o : Option ℕ) → is_some (option_and_then f o) ≡ true → is_some o ≡ true
  some-next f None h = h
  some-next f (Some n) h = refl

  text-fewer : (c : Content) (f : ℕ → Option ℕ) (next : Option ℕ) (w v : Bool) → (v ≡ true → w ≡ true)
      → (is_asked (text_next c (option_and_then f next)) v ≡ true → is_asked (text_next c next) w ≡ true) × (waits_behind (text_next c (option_and_then f next)) v ≡ true → waits_behind (text_next c next) w ≡ true)
  text-fewer content.Text f next w v h = ((λ e. e), some-next f next)
  text-fewer content.Content f next w v h = (h, h)
  text-fewer content.String f next w v h = (h, h)
  text-fewer content.Flow f next w v h = (h, h)

  link-fewer : (o : Option Link) (f : ℕ → Option ℕ) (w v : Bool) → (v ≡ true → w ≡ true)
      → (is_asked (linked_next (option_map (with_ends f) o)) v ≡ true → is_asked (linked_next o) w ≡ true) × (waits_behind (linked_next (option_map (with_ends f) o)) v ≡ true → waits_behind (linked_next o) w ≡ true)
  link-fewer None f w v h = (h, h)
  link-fewer (Some l) f w v h = text-fewer l.content f l.next w v h

  spaced-placed : (ts us : List Tagged) (w v : Bool) → (v ≡ true → w ≡ true) → Spaced w (untagged us) → Spaced v (placed_in ts us)
  spaced-placed ts [] w v h s = tt
  spaced-placed ts (u ∷ us) w v h s =
      let fewer = link-fewer u.event.link (placed_end ts u.identity) w v h in
      ((λ asked. same us (s.0 (fewer.0 asked))), spaced-placed ts us (waits_behind (begins_text u.event) w) (waits_behind (begins_text (relinked (placed_end ts u.identity) u.event)) v) fewer.1 s.1)
    where
      same : (us : List Tagged) → GivesWhite bytes u.event (untagged us) → GivesWhite bytes (relinked (placed_end ts u.identity) u.event) (placed_in ts us)
      same [] h = tt
      same (x ∷ us) h = h

  -- ---- where texts of cells come to be chains
  fewer : (o : Option Bool) (w v : Bool) → (v ≡ true → w ≡ true) → (is_asked o v ≡ true → is_asked o w ≡ true) × (waits_behind o v ≡ true → waits_behind o w ≡ true)
  fewer None w v h = (h, h)
  fewer (Some next) w v h = ((λ e. e), (λ e. e))

  celled-spaced : (b : Bool) (es : List Event) (w v : Bool) → (v ≡ true → w ≡ true) → Spaced w es → Spaced v (celled b es)
  celled-spaced b [] w v h s = tt
  celled-spaced true (e ∷ es) w v h s = ((λ asked. absurd (false≢true asked)), celled-spaced (enters_cell e) es (waits_behind (begins_text e) w) false (λ f. absurd (false≢true f)) s.1)
  celled-spaced false (e ∷ es) w v h s =
      let less = fewer (begins_text e) w v h in
      ((λ asked. white (enters_cell e) es (s.0 (less.0 asked))), celled-spaced (enters_cell e) es (waits_behind (begins_text e) w) (waits_behind (begins_text e) v) less.1 s.1)
    where
      white : (b : Bool) (es : List Event) → GivesWhite bytes e es → GivesWhite bytes e (celled b es)
      white b [] k = k
      white true (f ∷ es) k = k
      white false (f ∷ es) k = k

-- ---- contents and ends of links
text-content : (c : Content) (next : Option ℕ) (b : Bool) → text_next c next ≡ Some b → c ≡ content.Text
text-content content.Text next b h = refl
text-content content.Content next b h = absurd (none-some b h)
text-content content.String next b h = absurd (none-some b h)
text-content content.Flow next b h = absurd (none-some b h)

begins-content : (e : Event) (b : Bool) → begins_text e ≡ Some b → content_of e ≡ Some content.Text
begins-content e b h = by e.link h
  where
    by : (o : Option Link) → linked_next o ≡ Some b → option_map (λ (l : Link). l.content) o ≡ Some content.Text
    by None h = absurd (none-some b h)
    by (Some l) h = ap Some (text-content l.content l.next b h)

content-begins : (e : Event) → content_of e ≡ Some content.Text → (b : Bool) × (begins_text e ≡ Some b)
content-begins e h = by e.link h
  where
    by : (o : Option Link) → option_map (λ (l : Link). l.content) o ≡ Some content.Text → (b : Bool) × (linked_next o ≡ Some b)
    by None h = absurd (none-some content.Text h)
    by (Some l) h = (is_some l.next, ap (λ c. text_next c l.next) (same_Some l.content content.Text h))

-- where a chunk of text has a next one, its link says which
waits-next : (e : Event) → begins_text e ≡ Some true → (d : ℕ) × (option_and_then (λ (l : Link). l.next) e.link ≡ Some d)
waits-next e h = by e.link h
  where
    some-is : (o : Option ℕ) → is_some o ≡ true → (d : ℕ) × (o ≡ Some d)
    some-is None h = absurd (false≢true h)
    some-is (Some d) h = (d, refl)

    with-content : (c : Content) (o : Option ℕ) → text_next c o ≡ Some true → is_some o ≡ true
    with-content content.Text o h = same_Some (is_some o) true h
    with-content content.Content o h = absurd (none-some true h)
    with-content content.String o h = absurd (none-some true h)
    with-content content.Flow o h = absurd (none-some true h)

    by : (o : Option Link) → linked_next o ≡ Some true → (d : ℕ) × (option_and_then (λ (l : Link). l.next) o ≡ Some d)
    by None h = absurd (none-some true h)
    by (Some l) h = some-is l.next (with-content l.content l.next h)

next-waits : (e : Event) (d : ℕ) → content_of e ≡ Some content.Text → option_and_then (λ (l : Link). l.next) e.link ≡ Some d → begins_text e ≡ Some true
next-waits e d h k = by e.link h k
  where
    by : (o : Option Link) → option_map (λ (l : Link). l.content) o ≡ Some content.Text → option_and_then (λ (l : Link). l.next) o ≡ Some d → linked_next o ≡ Some true
    by None h k = absurd (none-some content.Text h)
    by (Some l) h k = (λ i. text_next (same_Some l.content content.Text h i) (k i))

no-content : (e : Event) → ((c : Content) → content_of e ≡ Some c → ⊥) → begins_text e ≡ None
no-content e none = by (begins_text e) refl
  where
    by : (o : Option Bool) → begins_text e ≡ o → o ≡ None
    by None is = refl
    by (Some b) is = absurd (none content.Text (begins-content e b is))

-- ---- a list from an index on
behind-drop : (es : List Event) (k : ℕ) (e : Event) (rest : List Event) → drop k es ≡ e ∷ rest → (slice_get es k ≡ Some e) × (drop (suc k) es ≡ rest)
behind-drop [] zero e rest is = absurd (cc)
behind-drop [] (suc k) e rest is = absurd (cc)
behind-drop (x ∷ es) zero e rest is = let same : x ≡ e = cc in let more : es ≡ rest = cc in (ap Some same, more)
behind-drop (x ∷ es) (suc k) e rest is = behind-drop es k e rest is

-- chunks that meet, in events whose void spans are empty
flow-chunks : (es : List Event) → ChunksMeet AcrossGap es → IsVoidTight es → (k : ℕ) (c : Content) → content_at es k ≡ Some c → IsChunk es k
flow-chunks es meets tight k c said = by (slice_get es k) refl
  where
    by : (o : Option Event) → slice_get es k ≡ o → IsChunk es k
    by None at = absurd (none-some c (sym (ap (option_and_then content_of) at) ∙ said))
    by (Some e) at = elim (every-get (λ (e : Event). (e.link ≡ None) ⊎ IsLinkedEnter e) es k e meets.each at) [
      | inl none ↦ absurd (none-some c (sym (ap (option_map (λ (l : Link). l.content)) none) ∙ sym (ap (option_and_then content_of) at) ∙ said))
      | inr l ↦
          let (f, there, exits, same) = tight k e at l.enter l.void in
          record { enter = e; exit = f; enter_at = at; exit_at = there; linked = l; ended = record { exits = exits; same = same } }
    ]

module _ (es : List Event) (chunks : (k : ℕ) (c : Content) → content_at es k ≡ Some c → IsChunk es k) where
  -- an exit begins no chunk
  exit-other : (k : ℕ) (e : Event) → slice_get es k ≡ Some e → e.kind ≡ Exit → begins_text e ≡ None
  exit-other k e at exits = no-content e (λ c said.
      let chunk = chunks k c (ap (option_and_then content_of) at ∙ said) in
      let same : chunk.enter ≡ e = same_Some chunk.enter e (sym chunk.enter_at ∙ at) in
      let no : Enter ≡ Exit = sym chunk.linked.enter ∙ ap (λ (x : Event). x.kind) same ∙ exits in
      cc)

  -- ---- leaf blocks, of which each chunk with a next one is directly before it
  module _ (meets : (k d : ℕ) → next_of es k ≡ Some d → (d ≡ k + 2) × (content_at es d ≡ content_at es k)) where
    at-chunk : (x : Event) (b : Bool) (rest : List Event) (w v : Bool) → begins_text x ≡ Some b → Direct w (x ∷ rest) → Direct v (x ∷ rest)
    at-chunk x b rest w v is h =
        ((λ a. absurd (false≢true (sym (ap (λ o. is_asked o v) is) ∙ a))), subst (λ (o : Option Bool). Direct (waits_behind o v) rest) (sym is) (subst (λ (o : Option Bool). Direct (waits_behind o w) rest) is h.1))

    directly : (e : Event) (k : ℕ) (rest : List Event) → slice_get es k ≡ Some e → drop (suc k) es ≡ rest → begins_text e ≡ Some true → Direct false rest → Direct true rest
    directly e k rest at is begins more =
        let as_text = begins-content e true begins in
        let here : content_at es k ≡ Some content.Text = ap (option_and_then content_of) at ∙ as_text in
        let chunk = chunks k content.Text here in
        let next = waits-next e begins in
        let meet = meets k next.0 (ap (option_and_then (λ (x : Event). option_and_then (λ (l : Link). l.next) x.link)) at ∙ next.1) in
        let second = chunks next.0 content.Text (meet.1 ∙ here) in
        let two : suc (suc k) ≡ next.0 = (let m = meet.0 in omega (arith, m)) in
        let one : suc k ≡ k + 1 = omega arith in
        let exit_at : slice_get es (suc k) ≡ Some chunk.exit = ap (slice_get es) one ∙ chunk.exit_at in
        let enter_at : slice_get es (suc (suc k)) ≡ Some second.enter = ap (slice_get es) two ∙ second.enter_at in
        let are : drop (suc k) es ≡ chunk.exit ∷ second.enter ∷ drop (suc (suc (suc k))) es = drop-at es (suc k) chunk.exit exit_at ∙ ap (λ l. chunk.exit ∷ l) (drop-at es (suc (suc k)) second.enter enter_at) in
        let last = drop (suc (suc (suc k))) es in
        let plain = exit-other (suc k) chunk.exit exit_at chunk.ended.exits in
        let there : content_of second.enter ≡ Some content.Text = sym (ap (option_and_then content_of) second.enter_at) ∙ meet.1 ∙ here in
        let behind = content-begins second.enter there in
        let old : Direct false (chunk.exit ∷ second.enter ∷ last) = subst (Direct false) (sym is ∙ are) more in
        let rest_old : Direct false (second.enter ∷ last) = subst (λ (o : Option Bool). Direct (waits_behind o false) (second.enter ∷ last)) plain old.1 in
        let new : Direct true (chunk.exit ∷ second.enter ∷ last) =
        ((λ a. chunk.ended.exits), subst (λ (o : Option Bool). Direct (waits_behind o true) (second.enter ∷ last)) (sym plain) (at-chunk second.enter behind.0 last false true behind.1 rest_old)) in
        subst (Direct true) (sym are ∙ is) new

    direct-from : (k : ℕ) (rest : List Event) → drop k es ≡ rest → Direct false rest
    direct-from k [] is = refl
    direct-from k (e ∷ rest) is =
        let here = behind-drop es k e rest is in
        by (begins_text e) refl here.0 here.1 (direct-from (suc k) rest here.1)
      where
        by : (o : Option Bool) → begins_text e ≡ o → slice_get es k ≡ Some e → drop (suc k) es ≡ rest → Direct false rest → Direct false (e ∷ rest)
        by None is at behind more = subst (λ (o : Option Bool). (is_asked o false ≡ true → e.kind ≡ Exit) × Direct (waits_behind o false) rest) (sym is) ((λ a. absurd (false≢true a)), more)
        by (Some false) is at behind more = subst (λ (o : Option Bool). (is_asked o false ≡ true → e.kind ≡ Exit) × Direct (waits_behind o false) rest) (sym is) ((λ a. absurd (false≢true a)), more)
        by (Some true) is at behind more =
            subst (λ (o : Option Bool). (is_asked o false ≡ true → e.kind ≡ Exit) × Direct (waits_behind o false) rest) (sym is) ((λ a. absurd (false≢true a)), directly e k rest at behind is more)

-- ---- a document
-- no event of some is read as text
all-other : (es : List Event) → ((k : ℕ) (c : Content) → content_at es k ≡ Some c → c ≡ content.Content) → AreOthers es
all-other [] h = tt
all-other (e ∷ es) h =
    (no-text (begins_text e) refl, all-other es (λ k c is. h (suc k) c is))
  where
    no-text : (o : Option Bool) → begins_text e ≡ o → begins_text e ≡ None
    no-text None is = is
    no-text (Some b) is = absurd (let no : content.Text ≡ content.Content = h 0 content.Text (begins-content e b is) in cc)

module _ (g : Given) (is : IsDocument g) where
  abbrev sk : List Event
  sk = document_skeleton g

  abbrev of_content : Option Content
  of_content = Some content.Content

  bare-ready : IsReady g.tab g.bytes of_content sk
  bare-ready = skeletons-are-ready g is of_content

  others : AreOthers sk
  others = all-other sk (skeletons-have-one-content g is)

  some-others : (i k : ℕ) → AreOthers (between i k sk)
  some-others i k = every-take (λ (e : Event). begins_text e ≡ None) (k - i) (drop i sk) (every-drop (λ (e : Event). begins_text e ≡ None) i sk others)

  abbrev Keeps : List Change → ℕ → Type 0
  Keeps ws i = Spaced g.bytes false (after_changes sk ws i)

  last-keeps : (i : ℕ) → Keeps [] i
  last-keeps i =
      subst (Spaced g.bytes false) (append-nil (drop i sk) ∙ sym (untagged-olds i (drop i sk))) (others-before g.bytes (drop i sk) [] (every-drop (λ (e : Event). begins_text e ≡ None) i sk others) tt)

  through : (c j k : ℕ) (ks more : List ℕ) (ps : List (List Event)) (ws : List Change) (waits : Bool) → Fits of_content sk k → LeadOnFrom sk k ks → length ks ≡ length ps → AreSpaced (k + 2) (ks ++ more) (length sk)
      → ((m : ℕ) → AreSpaced m more (length sk) → Keeps ws m) → Direct waits (joined ps) → Spaced g.bytes waits (after_changes sk (part_changes c j ks ps ++ ws) (k + 2))
  through c j k [] more [] ws waits fit lead e sp keeps h = subst (λ w. Spaced g.bytes w (after_changes sk ws (k + 2))) (sym h) (keeps (k + 2) sp)
  through c j k (d ∷ ks) more (p ∷ ps) ws waits fit lead e sp keeps h =
      let gap = between (k + 2) d sk in
      let fit_next = fits_next g.tab g.bytes of_content sk bare-ready k d fit lead.0 in
      let rest = after_changes sk (part_changes c (j + length p) ks ps ++ ws) (d + 2) in
      let behind : Spaced g.bytes waits (p ++ rest) =
      direct-before g.bytes waits p (joined ps) rest h (λ w k. through c (j + length p) d ks more ps ws w fit_next lead.2 (omega (arith, e)) sp.1 keeps k) in
      subst (Spaced g.bytes waits) (sym (part_after sk c j (k + 2) d ks p ps ws sp.0))
      (gap-before g.bytes gap waits (p ++ rest) (skeleton-white g is k d lead.0) (balanced-shut (bare-ready.gaps k d fit lead.0).balanced) behind)
  through c j k [] more (p ∷ ps) ws waits fit lead e sp keeps h = absurd (omega (arith, e))
  through c j k (d ∷ ks) more [] ws waits fit lead e sp keeps h = absurd (omega (arith, e))

  one-chain : (c i : ℕ) (ks more : List ℕ) (ps : List (List Event)) (ws : List Change) → Fits of_content sk c → LeadOnFrom sk c ks → length (c ∷ ks) ≡ length ps → Direct false (joined ps) → Unit {0}
      → AreSpaced i (c ∷ (ks ++ more)) (length sk) → ((m : ℕ) → AreSpaced m more (length sk) → Keeps ws m) → Keeps (part_changes c 0 (c ∷ ks) ps ++ ws) i
  one-chain c i ks more [] ws fit lead e direct u sp keeps = absurd (omega (arith, e))
  one-chain c i ks more (p ∷ ps) ws fit lead e direct u sp keeps =
      let first = between i c sk in
      let rest = after_changes sk (part_changes c (0 + length p) ks ps ++ ws) (c + 2) in
      let behind : Spaced g.bytes false (p ++ rest) = direct-before g.bytes false p (joined ps) rest direct (λ w k. through c (0 + length p) c ks more ps ws w fit lead (omega (arith, e)) sp.1 keeps k) in
      subst (Spaced g.bytes false) (sym (part_after sk c 0 i c ks p ps ws sp.0)) (others-before g.bytes first (p ++ rest) (some-others i c) behind)

  -- the leaf blocks of its chains, whether the texts of cells are chains or not
  abbrev leaf_at : ℕ → List Event
  leaf_at c = let s = shown skeleton-laws g is in flow_events g.options.constructs s.bytes (chain_text s sk c).seats

  same-leaves : (cs : List ℕ) → map (blocks_at skeleton-laws g is) cs ≡ map leaf_at cs
  same-leaves [] = refl
  same-leaves (c ∷ cs) = λ i. flow_events g.options.constructs (shown skeleton-laws g is).bytes (texts-are skeleton-laws g is (shown skeleton-laws g is) c i).seats ∷ same-leaves cs i

  each-direct : AllByRecursion (Direct false) (map leaf_at (fitting_starts of_content sk))
  each-direct =
      subst (AllByRecursion (Direct false)) (same-leaves (fitting_starts of_content (skeleton_chains g)) ∙ ap (map leaf_at) (starts-are skeleton-laws g is))
      (each-leaf skeleton-laws g is (Direct false)
      (λ text one.
      let s = shown skeleton-laws g is in
      let es = flow_events g.options.constructs s.bytes text.seats in
      let meets = blocks-meet s text one in
      direct-from es (flow-chunks es meets (blocks-are-formed.blocks s text one).void_tight) (λ k d next. let m = meets.next k d next in (m.is, m.content)) 0 es refl)
      (fitting_starts of_content (skeleton_chains g)) (all-start skeleton-laws g is))

  leaf-blocks-spaced : Spaced g.bytes false (document_leaf_blocks g)
  leaf-blocks-spaced =
      let n = length sk in
      let children = map leaf_at (fitting_starts of_content sk) in
      let ws : List Change = child_changes of_content sk children in
      let kept : Keeps ws 0 =
      with_children_holds g.tab g.bytes of_content sk bare-ready Keeps (Direct false) (λ ks ps. Unit {0}) last-keeps one-chain children each-direct (every-all (λ (d : Divided). Unit {0}) (λ d. tt) (divided_over sk (fitting_starts of_content sk) children)) in
      let z : n ≡ 0 + n = omega arith in
      let apart = subst (AreApart 0 ws) z (changes_are_apart g.tab g.bytes of_content sk children bare-ready).apart in
      let ts = woven ws 0 sk in
      subst (Spaced g.bytes false) (sym (blocks-are-those g is))
      (spaced-placed g.bytes ts ts false false (λ e. e) (subst (λ (us : List Tagged). Spaced g.bytes false (untagged us)) (sym (woven-pass ws 0 sk apart)) kept))

  blocks-spaced : Spaced g.bytes false (document_blocks g)
  blocks-spaced = with-cells-by (Spaced g.bytes false) g.options.constructs (document_leaf_blocks g) (celled-spaced g.bytes false (document_leaf_blocks g) false false (λ e. e) leaf-blocks-spaced) leaf-blocks-spaced

  -- ---- between two chunks of a text
  abbrev blocks : List Event
  blocks = document_blocks g

  abbrev of_text : Option Content
  of_text = Some content.Text

  texts-ready : IsReady g.tab g.bytes of_text blocks
  texts-ready = content-ready skeleton-laws g is content.Text

  reach : (es : List Event) (waits : Bool) (k d : ℕ) → Spaced g.bytes waits es → content_at es k ≡ Some content.Text → next_of es k ≡ Some d → Spaced g.bytes true (drop (suc k) es)
  reach [] waits zero d s c next = absurd (none-some content.Text c)
  reach [] waits (suc k) d s c next = absurd (none-some content.Text c)
  reach (e ∷ es) waits zero d s c next = subst (λ (o : Option Bool). Spaced g.bytes (waits_behind o waits) es) (next-waits e d c next) s.1
  reach (e ∷ es) waits (suc k) d s c next = reach es (waits_behind (begins_text e) waits) k d s.1 c next

  -- behind events that begin no chunk
  along : (n : ℕ) (es : List Event) → Spaced g.bytes true es → AreOthers (take n es) → AreWhite (told_sum g.bytes (take n es) [])
  along zero es s other = tt
  along (suc n) [] s other = tt
  along (suc n) (e ∷ es) s other =
      let here : GivesWhite g.bytes e es = s.0 (ap (λ o. is_asked o true) other.0) in
      every-append (λ (c : ℕ). is_label_white c ≡ true) (told g.bytes e (take n es ++ [])) (told_sum g.bytes (take n es) []) (fewer n es here)
      (along n es (subst (λ (o : Option Bool). Spaced g.bytes (waits_behind o true) es) other.0 s.1) other.1)
    where
      fewer : (n : ℕ) (es : List Event) → GivesWhite g.bytes e es → GivesWhite g.bytes e (take n es ++ [])
      fewer zero es h = tt
      fewer (suc n) [] h = tt
      fewer (suc n) (f ∷ fs) h = h

  sum-shut : (es zs : List Event) → Shut es → told_sum g.bytes es zs ≡ told_sum g.bytes es []
  sum-shut [] zs h = refl
  sum-shut (e ∷ []) zs h = ap (λ l. l ++ []) (exit-gives g.bytes e zs h)
  sum-shut (e ∷ f ∷ es) zs h = ap (λ l. told g.bytes e (f ∷ es) ++ l) (sum-shut (f ∷ es) zs h)

  bare-other : (es : List Event) → AllByRecursion (λ (e : Event). content_of e ≡ None) es → AreOthers es
  bare-other [] h = tt
  bare-other (e ∷ es) h = (no-content e (λ c said. none-some c (sym h.0 ∙ said)), bare-other es h.1)

  -- Between two chunks of a text of a document is space
  pub text-gaps : AreSpaces g is
  text-gaps k d fit next some =
      let ready = texts-ready.gaps k d fit next in
      let gap = between (k + 2) d blocks in
      let as_text = is-content content.Text (content_at blocks k) fit in
      let c = chunk g.tab g.bytes of_text blocks texts-ready k fit in
      let behind = reach blocks false k d blocks-spaced as_text next in
      let one : suc k ≡ k + 1 = omega arith in
      let two : suc (suc k) ≡ k + 2 = omega arith in
      let exit_at : slice_get blocks (suc k) ≡ Some c.exit = ap (slice_get blocks) one ∙ c.exit_at in
      let plain = exit-other blocks texts-ready.chunks (suc k) c.exit exit_at c.ended.exits in
      let from_exit : Spaced g.bytes true (c.exit ∷ drop (suc (suc k)) blocks) = subst (Spaced g.bytes true) (drop-at blocks (suc k) c.exit exit_at) behind in
      let rest : Spaced g.bytes true (drop (suc (suc k)) blocks) = subst (λ (o : Option Bool). Spaced g.bytes (waits_behind o true) (drop (suc (suc k)) blocks)) plain from_exit.1 in
      let other = bare-other gap (no-chunks blocks (k + 2) (d - (k + 2)) (λ m low high. ready.no_link m low (omega (arith, low, high)))) in
      let minor = every-take (λ (e : Event). is_wanted leading_names e.name ≡ false) (d - (k + 2)) (drop (k + 2) blocks) (every-drop (λ (e : Event). is_wanted leading_names e.name ≡ false) (k + 2) blocks (blocks-minor g)) in
      let shut = balanced-shut ready.balanced in
      record {
        balanced = ready.balanced;
        begins = opens gap some (balanced-opens ready.balanced);
        minor = minor;
        text = told_sum g.bytes gap [];
        white = along (d - (k + 2)) (drop (k + 2) blocks) (subst (λ n. Spaced g.bytes true (drop n blocks)) two rest) other;
        gives = λ zs. sum-is g.bytes gap zs ∙ ap (λ l. l ++ as_written g.bytes zs) (sum-shut gap zs shut);
      }
    where
      opens : (es : List Event) → (es ≡ [] → ⊥) → Opens es → BeginsWithAnEnter es
      opens [] some h = some refl
      opens (e ∷ es) some h = h
