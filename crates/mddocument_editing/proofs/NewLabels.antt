-- The labels of a document with parts in the place of some of its sections.
use Rattle.mddocument_editing.proofs.Prelude.{◌≡◌, ℕ, ◌+◌, ◌-◌, ◌≤◌, Bool, false, List, ◌++◌, length, take, drop, sym, ap, ◌∙◌, subst, arith, drop-drop, drop-map, map-append, take-append-drop, take-map, take_rest, list_any-append, or-false, AllByRecursion, divided_of, flat_map, ◌||◌, every-map, ParseOptions, is_one_of, is_same, is_key_of, IsKept, IsLabelled, IsRead, IsRecut, bytes_of_parts, bytes_of_sections, recut_document, Kept, Section, knows, IsDocument, Key, bytes_of, document, is_written, label_of, written}
use Rattle.std.proofs.lemmas.Grind.{flat_map-append}
use Rattle.mddocument_editing.specs.declared.section.Part.{Part}
use Rattle.mddocument_editing.proofs.SectionLabels.{labels-divided}

-- a list is what is in front, between and behind
three : {A : Type 0} (from end : ℕ) (xs : List A) → from ≤ end → xs ≡ take from xs ++ (take (end - from) (drop from xs) ++ drop end xs)
three from end xs order = let e : from + (end - from) ≡ end = omega arith in grind (arith, drop-drop (end - from) from xs, take-append-drop (end - from) (drop from xs), take-append-drop from xs)

turned : (a b c : Bool) → (c || (b || (a || false))) ≡ (a || (b || c))
turned a b c = grind arith

module _ (options : ParseOptions) where
  written-append : (xs ys : List (List ℕ)) (key : Key) → is_written options (xs ++ ys) key ≡ (is_written options xs key || is_written options ys key)
  written-append xs ys key =
      ap (λ all. is_one_of all (label_of key)) (flat_map-append (written options key) xs ys)
      ∙ list_any-append (λ one. is_same (label_of key) one) (flat_map (written options key) xs) (flat_map (written options key) ys)

  -- what is written in three parts
  written-three : (front parts behind : List (List ℕ)) (key : Key)
      → is_written options (front ++ (parts ++ behind)) key ≡ (is_written options front key || (is_written options parts key || is_written options behind key))
  written-three front parts behind key =
      written-append front (parts ++ behind) key ∙ ap (λ b. is_written options front key || b) (written-append parts behind key)

  module _ (items : List Section) (from end : ℕ) (parts : List Part) where
    -- the labels of the document with the parts
    abbrev pub recut_written : Key → Bool
    recut_written key = is_written options (take from (bytes_of_sections items) ++ (bytes_of_parts parts ++ drop end (bytes_of_sections items))) key

    recut-three : (key : Key)
        → recut_written key ≡ (is_written options (bytes_of_sections (take from items)) key || (is_written options (bytes_of_parts parts) key || is_written options (bytes_of_sections (drop end items)) key))
    recut-three key =
        written-three (take from (bytes_of_sections items)) (bytes_of_parts parts) (drop end (bytes_of_sections items)) key
        ∙ ap (λ ss. is_written options ss key || (is_written options (bytes_of_parts parts) key || is_written options (drop end (bytes_of_sections items)) key)) (take-map (λ section. section.part.bytes.items) from items)
        ∙ ap (λ ss. is_written options (bytes_of_sections (take from items)) key || (is_written options (bytes_of_parts parts) key || is_written options ss key)) (drop-map (λ section. section.part.bytes.items) end items)

    -- where all others and the parts are defined
    all-defined : (key : Key) (last more first none : Bool) → last ≡ (is_written options (bytes_of_sections (take (length items - end) (drop end items))) key || more)
        → more ≡ (is_written options (bytes_of_parts parts) key || first) → first ≡ (is_written options (bytes_of_sections (take from items)) key || none) → none ≡ false
        → last ≡ recut_written key
    all-defined key last more first none is-last is-more is-first is-none =
        let b = is_written options (bytes_of_sections (drop end items)) key in
        let p = is_written options (bytes_of_parts parts) key in
        let f = is_written options (bytes_of_sections (take from items)) key in
        is-last ∙ ap (λ ss. is_written options (bytes_of_sections ss) key || more) (take_rest items end)
        ∙ ap (λ x. b || x) (is-more ∙ ap (λ x. p || x) (is-first ∙ ap (λ x. f || x) is-none)) ∙ turned f p b ∙ sym (recut-three key)

    -- where the sections that go and the parts define a label, or neither do
    pub none-changed : from ≤ end → (key : Key) → is_written options (bytes_of_sections (take (end - from) (drop from items))) key ≡ is_written options (bytes_of_parts parts) key
        → is_written options (bytes_of_sections items) key ≡ recut_written key
    none-changed order key same =
        let between = bytes_of_sections (take (end - from) (drop from items)) in
        let f = is_written options (bytes_of_sections (take from items)) key in
        let b = is_written options (bytes_of_sections (drop end items)) key in
        ap (λ xs. is_written options (bytes_of_sections xs) key) (three from end items order)
        ∙ ap (λ ss. is_written options ss key)
        (map-append (λ section. section.part.bytes.items) (take from items) (take (end - from) (drop from items) ++ drop end items)
        ∙ ap (λ ss. bytes_of_sections (take from items) ++ ss) (map-append (λ section. section.part.bytes.items) (take (end - from) (drop from items)) (drop end items)))
        ∙ written-three (bytes_of_sections (take from items)) between (bytes_of_sections (drop end items)) key
        ∙ ap (λ x. f || (x || b)) same ∙ sym (recut-three key)

-- what is known of a label behind nothing
alone : (b none : Bool) → none ≡ false → (b || none) ≡ b
alone b none is = ap (λ x. b || x) is ∙ or-false b

-- where labels are defined alike, they are written alike
pub alike : (gone come written_gone written_come none_gone none_come : Bool) → gone ≡ (written_gone || none_gone) → none_gone ≡ false → come ≡ (written_come || none_come) → none_come ≡ false
    → come ≡ gone → written_gone ≡ written_come
alike gone come written_gone written_come none_gone none_come is_gone empty_gone is_come empty_come same =
    sym (alone written_gone none_gone empty_gone) ∙ sym is_gone ∙ sym same ∙ is_come ∙ alone written_come none_come empty_come

-- ---- what is kept, with parts in the place of some of its sections
module _ (k : Kept) {xs : List Section} (same : xs ≡ k.sections.items) where
  -- its sections have the labels that they define
  pub kept-labelled : IsKept k → AllByRecursion (λ (section : Section). IsLabelled k.options section.part) xs
  kept-labelled kept =
      subst (AllByRecursion (λ (section : Section). IsLabelled k.options section.part)) (sym same)
      (every-map (IsRead k.options (knows k.known)) (λ section. IsLabelled k.options section.part) (λ section is. is.labels) k.sections.items kept.read)

  module _ {from end : ℕ} (parts : List Part) (recut : IsRecut k from end (bytes_of_parts parts)) (possible : IsDocument (document k.options (bytes_of (recut_document k from end (bytes_of_parts parts))))) (key : Key) where
    -- what is written there is a label of the document
    pub written-recut : recut_written k.options xs from end parts key ≡ is_key_of (recut_document k from end (bytes_of_parts parts)) key
    written-recut = ap (λ ys. recut_written k.options ys from end parts key) same ∙ labels-divided (recut_document k from end (bytes_of_parts parts)) possible recut.divided key

    -- so is a label of the document as it was, if the sections that go and the parts define it alike
    pub kept-recut : IsDocument (document k.options (bytes_of (divided_of k))) → IsKept k → is_written k.options (bytes_of_sections (take (end - from) (drop from xs))) key ≡ is_written k.options (bytes_of_parts parts) key
        → knows k.known key ≡ is_key_of (recut_document k from end (bytes_of_parts parts)) key
    kept-recut before kept alike =
        kept.labels key ∙ sym (labels-divided (divided_of k) before kept.divided key) ∙ ap (λ ys. is_written k.options (bytes_of_sections ys) key) (sym same)
        ∙ none-changed k.options xs from end parts recut.order key alike ∙ written-recut

    -- so is what all others and the parts define
    pub defined-recut : {last more first none : Bool} → last ≡ (is_written k.options (bytes_of_sections (take (length xs - end) (drop end xs))) key || more)
        → more ≡ (is_written k.options (bytes_of_parts parts) key || first) → first ≡ (is_written k.options (bytes_of_sections (take from xs)) key || none) → none ≡ false
        → last ≡ is_key_of (recut_document k from end (bytes_of_parts parts)) key
    defined-recut {last} {more} {first} {none} is-last is-more is-first is-none = all-defined k.options xs from end parts key last more first none is-last is-more is-first is-none ∙ written-recut
