-- Each line of a stretch is alike with letters: what a container's prefix leaves of it, and its text alone; and the first one directly behind definitions, without its white space.
use Rattle.std.proofs.Common.{◌≡◌, ℕ, Bool, true, false, cond, List, [], ◌∷◌, ◌++◌, ap, drop, length, map, refl, sym, ◌∙◌}
use Rattle.std.specs.Prelude.{◌==◌, ◌&&◌, is_some, nat_le, not, None}
use Rattle.std.specs.List.{AllByRecursion, list_any}
use Rattle.std.proofs.lemmas.Bool.{false≢true, and_parts, eqb-true}
use Rattle.std.proofs.lemmas.List.{map-append}
use Rattle.markdown_base.proofs.Common.{every-append, every-map}
use Rattle.markdown_base.specs.declared.configuration.Constructs.{Constructs}
use Rattle.markdown_base.specs.Virtual.{Seat}
use Rattle.mdconstructs_tables.specs.Breaks.{is_white}
use Rattle.mdconstructs_machines.specs.LineEvents.{is_line_ending, line_text}
use Rattle.mdblock_leaf_blocks.proofs.Looks.ByteClasses.{white-no-feed}
use Rattle.mdblock_leaf_blocks.specs.HtmlLines.{ends}
use Rattle.mdblock_leaf_blocks.specs.LeafBlocks.{Line, text_of}
use Rattle.mdblock_leaf_blocks.specs.LineKinds.{begins_with, closes, indent, is_blank_line, is_far, line_kind, run, text, underline_rank, unindented}
use Rattle.mdblock_containers.specs.Letters.{letter, lettered_seat}
use Rattle.mdblock_text_lines.proofs.LetterBlocks.{IsAlike, IsBehind}
use Rattle.mdblock_text_lines.proofs.LetterKinds.{IsCalm, IsFenceByte, all-white-calm, blank-is, closes-is, ends-not, far-is, indent-is, letter-kind, letter-no-fence, letter-rank, mark-calm, mark-no-fence, marks-calm, rest-is, run-is, underline-is}
use Rattle.mdblock_text_lines.proofs.LetterMarks.{IsKept, lettered}

-- no letter is there
abbrev pub IsBare : List ℕ → Seat → Type 0
IsBare at s = list_any (λ i. i == s.point.index) at ≡ false

bare-seat : (at : List ℕ) (s : Seat) → IsBare at s → lettered_seat at s ≡ s
bare-seat at s h = λ i. record s { byte = cond (h i) letter s.byte }

pub bare-line : (at : List ℕ) (ss : List Seat) → AllByRecursion (IsBare at) ss → lettered at ss ≡ ss
bare-line at [] h = refl
bare-line at (s ∷ ss) h = λ i. bare-seat at s h.0 i ∷ bare-line at ss h.1 i

pub bare-kept : (at : List ℕ) (ss : List Seat) → AllByRecursion (IsBare at) ss → AllByRecursion (IsKept at) ss
bare-kept at ss h = every-map (IsBare at) (IsKept at) (λ s k. ap is_line_ending (bare-seat at s k)) ss h

-- the text of a line, by what is in front of a byte and behind it
pub text-parts : (front : List Seat) (y : Seat) (behind : List Seat) → AllByRecursion (λ (s : Seat). is_white s.byte ≡ true) front → is_line_ending y ≡ false
    → line_text (front ++ y ∷ behind) ≡ front ++ y ∷ line_text behind
text-parts [] y behind h e = ap (λ b. cond (not b) (y ∷ line_text behind) (line_text behind)) e
text-parts (s ∷ ss) y behind h e =
    ap (λ b. cond (not b) (s ∷ line_text (ss ++ y ∷ behind)) (line_text (ss ++ y ∷ behind))) (white-no-feed s.byte h.0) ∙ ap (λ l. s ∷ l) (text-parts ss y behind h.1 e)

white-bytes : (front : List Seat) → AllByRecursion (λ (s : Seat). is_white s.byte ≡ true) front → AllByRecursion (λ (b : ℕ). is_white b ≡ true) (map (λ (s : Seat). s.byte) front)
white-bytes [] h = tt
white-bytes (s ∷ ss) h = (h.0, white-bytes ss h.1)

-- ---- a line that is text: white space, its first byte, which gets the letter, and more
module _ (on : Constructs) (is_text : Line → Bool) (at : List ℕ) (front : List Seat) (y : Seat) (behind : List Seat)
    (white : AllByRecursion (λ (s : Seat). is_white s.byte ≡ true) front) (plain : is_white y.byte ≡ false) (in_line : is_line_ending y ≡ false)
    (before : AllByRecursion (IsBare at) front) (hit : list_any (λ i. i == y.point.index) at ≡ true) (after : AllByRecursion (IsBare at) behind)
    (told : is_text (front ++ y ∷ behind) ≡ true) where
  abbrev l : Line
  l = front ++ y ∷ behind

  abbrev w : List ℕ
  w = map (λ (s : Seat). s.byte) front

  abbrev rest : List ℕ
  rest = map (λ (s : Seat). s.byte) (line_text behind)

  abbrev y' : Seat
  y' = record y { byte = letter }

  whites : AllByRecursion (λ (b : ℕ). is_white b ≡ true) w
  whites = white-bytes front white

  lettered-is : lettered at l ≡ front ++ y' ∷ behind
  lettered-is =
      map-append (lettered_seat at) front (y ∷ behind)
      ∙ (λ i. bare-line at front before i ++ record y { byte = cond (hit i) letter y.byte } ∷ bare-line at behind after i)

  text-is : text_of l ≡ w ++ y.byte ∷ rest
  text-is = ap (map (λ (s : Seat). s.byte)) (text-parts front y behind white in_line) ∙ map-append (λ (s : Seat). s.byte) front (y ∷ line_text behind)

  lettered-text : text_of (lettered at l) ≡ w ++ 97 ∷ rest
  lettered-text =
      ap text_of lettered-is ∙ ap (map (λ (s : Seat). s.byte)) (text-parts front y' behind white refl) ∙ map-append (λ (s : Seat). s.byte) front (y' ∷ line_text behind)

  kept : AllByRecursion (IsKept at) l
  kept = every-append (IsKept at) front (y ∷ behind) (bare-kept at front before) (ap (λ b. cond b letter y.byte == 10) hit ∙ sym in_line, bare-kept at behind after)

  -- if it is not far to the right
  pub text-alike : (on.code_indented && nat_le 4 (length w)) ≡ false → IsAlike on is_text at l
  text-alike near = record {
    kept = kept;
    plain = λ e. absurd (false≢true (sym e ∙ told));
    kind = ap (line_kind on) lettered-text ∙ letter-kind on w whites rest near ∙ sym (ap (λ b. cond b text (line_kind on (text_of l))) told);
    rank = ap (underline_rank on) lettered-text ∙ letter-rank on w whites rest ∙ sym (ap (λ b. cond b None (underline_rank on (text_of l))) told);
  }

  -- an underline
  pub underline-behind : is_some (underline_rank on (text_of l)) ≡ true → IsBehind on is_text at l
  underline-behind some =
      let (m, is, marks, near) = underline-is on (text_of l) some in
      let unind : unindented (text_of l) ≡ y.byte ∷ rest = ap unindented text-is ∙ rest-is w whites y.byte rest plain in
      let of-mark : (begins_with m (y.byte ∷ rest) && is_blank_line (drop (run m (y.byte ∷ rest)) (y.byte ∷ rest))) ≡ true =
      sym (ap (λ u. begins_with m u && is_blank_line (drop (run m u) u)) unind) ∙ marks in
      let both = and_parts (begins_with m (y.byte ∷ rest)) (is_blank_line (drop (run m (y.byte ∷ rest)) (y.byte ∷ rest))) of-mark in
      let mark : y.byte ≡ m = eqb-true y.byte m both.0 in
      let calm-mark : IsCalm m = mark-calm m is in
      let calm : AllByRecursion IsCalm (y.byte ∷ rest) = marks-calm m calm-mark (y.byte ∷ rest) both.1 in
      let calm-before : AllByRecursion IsCalm (w ++ y.byte ∷ rest) = every-append IsCalm w (y.byte ∷ rest) (all-white-calm w whites) calm in
      let calm-after : AllByRecursion IsCalm (w ++ 97 ∷ rest) = every-append IsCalm w (97 ∷ rest) (all-white-calm w whites) ((refl, refl), calm.1) in
      let no-fence : (q : ℕ) → IsFenceByte q → (y.byte == q) ≡ false = λ q f. ap (λ b. b == q) mark ∙ mark-no-fence m q is f in
      let close : (on.code_indented && nat_le 4 (length w)) ≡ false = sym (ap (is_far on) text-is ∙ far-is w whites y.byte rest plain on) ∙ near in
      record {
        alike = text-alike close;
        white = ap indent lettered-text ∙ indent-is w whites 97 rest refl ∙ sym (ap indent text-is ∙ indent-is w whites y.byte rest plain);
        blank = ap is_blank_line lettered-text ∙ blank-is w whites 97 rest refl ∙ sym (ap is_blank_line text-is ∙ blank-is w whites y.byte rest plain);
        ends = λ kind. ap (ends kind) lettered-text ∙ ends-not kind (w ++ 97 ∷ rest) calm-after ∙ sym (ap (ends kind) text-is ∙ ends-not kind (w ++ y.byte ∷ rest) calm-before);
        closes = λ f q. ap (closes on f) lettered-text ∙ closes-is w whites 97 rest refl on f (letter-no-fence f.byte q) ∙ sym (ap (closes on f) text-is ∙ closes-is w whites y.byte rest plain on f (no-fence f.byte q));
        marks = λ q f. ap (λ t. run q (unindented t)) lettered-text ∙ run-is w whites 97 rest refl q (letter-no-fence q f) ∙ sym (ap (λ t. run q (unindented t)) text-is ∙ run-is w whites y.byte rest plain q (no-fence q f));
      }
