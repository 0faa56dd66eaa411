use Rattle.std.proofs.Common.{◌≡◌, ◌-◌, ◌++◌, ℕ, map, take, sym, ap, ◌∙◌, subst}
use Rattle.mdblock_containers.specs.Views.{open_of}
use Rattle.mdblock_containers.specs.SeatPlaces.{events_of}
use Rattle.mdinline_labels.specs.Definitions.{end, end_of}
use Rattle.mdblock_definitions.specs.Cursor.{FitsGap, FitsTitle, Goes, left_at, title_length, title_marks}
use Rattle.mdblock_definitions.specs.Definitions.{gap_marks}
use Rattle.mdblock_definitions.proofs.MarksParts.{destination-fits, gap-fits, is-marked, left-fits, parts-written, title-fits, to-whole}
use Rattle.mdblock_definitions.proofs.marks.write_parts.Goals as goal

pub write_gap-requires : goal.write_gap-requires
write_gap-requires g c =
    let t = c.args.tab in
    let bytes = c.args.bytes.now in
    let stack = map open_of c.args.stack.now in
    let xs = c.args.rows.now in
    let d = c.args.definition in
    let fits = c.requires.fits in
    let cur = c.args.cursor in
    let colon = c.in_ok-colon.colon in
    let gap = d.destination.from - c.end_of_stretch.result - 1 in
    let gap_is : gap ≡ d.destination.from - end d.label - 1 = ap (λ n. d.destination.from - n - 1) c.end_of_stretch.ensures in
    let g1 = c.in_ok-colon.ensures.goes in
    record { cursor = g1.at; gap = gap-fits t bytes stack xs cur colon colon colon colon colon d gap gap_is fits g1 }

pub write_destination-requires : goal.write_destination-requires
write_destination-requires g c =
    let t = c.args.tab in
    let bytes = c.args.bytes.now in
    let stack = map open_of c.args.stack.now in
    let xs = c.args.rows.now in
    let d = c.args.definition in
    let fits = c.requires.fits in
    let cur = c.args.cursor in
    let colon = c.in_ok-colon.colon in
    let gap = d.destination.from - c.end_of_stretch.result - 1 in
    let gap_is : gap ≡ d.destination.from - end d.label - 1 = ap (λ n. d.destination.from - n - 1) c.end_of_stretch.ensures in
    let g1 = c.in_ok-colon.ensures.goes in
    let begin = c.in_ok-begin.begin in
    let g2 = c.in_ok-begin.ensures.goes in
    record {
      cursor = g2.at;
      fits = destination-fits t bytes stack xs cur colon begin begin begin begin d gap gap_is fits g1 g2;
      marks = is-marked t bytes stack xs cur colon begin begin begin begin d gap gap_is fits g1 g2 c.args.is_marked c.requires.marks;
    }

pub write_title-requires : goal.write_title-requires
write_title-requires g c =
    let t = c.args.tab in
    let bytes = c.args.bytes.now in
    let stack = map open_of c.args.stack.now in
    let xs = c.args.rows.now in
    let d = c.args.definition in
    let fits = c.requires.fits in
    let cur = c.args.cursor in
    let colon = c.in_ok-colon.colon in
    let gap = d.destination.from - c.end_of_stretch.result - 1 in
    let gap_is : gap ≡ d.destination.from - end d.label - 1 = ap (λ n. d.destination.from - n - 1) c.end_of_stretch.ensures in
    let g1 = c.in_ok-colon.ensures.goes in
    let begin = c.in_ok-begin.begin in
    let g2 = c.in_ok-begin.ensures.goes in
    let behind = c.in_ok-end.end in
    let g3 = c.in_ok-end.ensures.goes in
    let to_is : c.end_of_stretch-to.result ≡ end d.destination = c.end_of_stretch-to.ensures in
    record {
      cursor = g3.at;
      title = subst (λ (n : ℕ). FitsTitle d.title n (left_at t bytes stack xs behind)) (sym to_is) (title-fits t bytes stack xs cur colon begin behind behind behind d gap gap_is fits g1 g2 g3);
    }

pub write_gap-requires-2 : goal.write_gap-requires-2
write_gap-requires-2 g c =
    let t = c.args.tab in
    let bytes = c.args.bytes.now in
    let stack = map open_of c.args.stack.now in
    let xs = c.args.rows.now in
    let d = c.args.definition in
    let fits = c.requires.fits in
    let cur = c.args.cursor in
    let colon = c.in_ok-colon.colon in
    let gap = d.destination.from - c.end_of_stretch.result - 1 in
    let gap_is : gap ≡ d.destination.from - end d.label - 1 = ap (λ n. d.destination.from - n - 1) c.end_of_stretch.ensures in
    let g1 = c.in_ok-colon.ensures.goes in
    let begin = c.in_ok-begin.begin in
    let g2 = c.in_ok-begin.ensures.goes in
    let behind = c.in_ok-end.end in
    let g3 = c.in_ok-end.ensures.goes in
    let to_is : c.end_of_stretch-to.result ≡ end d.destination = c.end_of_stretch-to.ensures in
    let last = c.in_ok-last.last in
    let g4 = subst (λ (n : ℕ). Goes t bytes stack xs behind (title_length d.title n) last) to_is c.in_ok-last.ensures.goes in
    let left_is : d.size - c.end_of_parts.result ≡ d.size - end_of d.title d.destination = ap (λ n. d.size - n) c.end_of_parts.ensures in
    record { cursor = g4.at; gap = subst (λ (n : ℕ). FitsGap n (left_at t bytes stack xs last)) (sym left_is) (left-fits t bytes stack xs cur colon begin behind last last d gap gap_is fits g1 g2 g3 g4) }

pub returns-clause-events : goal.returns-clause-events
returns-clause-events g c =
    let t = c.args.tab in
    let bytes = c.args.bytes.now in
    let stack = map open_of c.args.stack.now in
    let xs = c.args.rows.now in
    let d = c.args.definition in
    let fits = c.requires.fits in
    let cur = c.args.cursor in
    let colon = c.in_ok-colon.colon in
    let gap = d.destination.from - c.end_of_stretch.result - 1 in
    let gap_is : gap ≡ d.destination.from - end d.label - 1 = ap (λ n. d.destination.from - n - 1) c.end_of_stretch.ensures in
    let g1 = c.in_ok-colon.ensures.goes in
    let begin = c.in_ok-begin.begin in
    let g2 = c.in_ok-begin.ensures.goes in
    let behind = c.in_ok-end.end in
    let g3 = c.in_ok-end.ensures.goes in
    let to_is : c.end_of_stretch-to.result ≡ end d.destination = c.end_of_stretch-to.ensures in
    let last = c.in_ok-last.last in
    let g4 = subst (λ (n : ℕ). Goes t bytes stack xs behind (title_length d.title n) last) to_is c.in_ok-last.ensures.goes in
    let left_is : d.size - c.end_of_parts.result ≡ d.size - end_of d.title d.destination = ap (λ n. d.size - n) c.end_of_parts.ensures in
    let to = c.in_ok-whole.whole in
    let g5 = subst (λ (n : ℕ). Goes t bytes stack xs last n to) left_is c.in_ok-whole.ensures.goes in
    let e3 = c.write_destination.new.events.items in
    let e4 = c.write_title.new.events.items in
    let a4 = c.in_ok-last.ensures.events ∙ ap (λ n. e3 ++ events_of (title_marks bytes d.title n (left_at t bytes stack xs behind))) to_is in
    let a5 = c.in_ok-whole.ensures.events ∙ ap (λ n. e4 ++ events_of (gap_marks bytes (take n (left_at t bytes stack xs last)))) left_is in
    parts-written t bytes stack xs cur colon begin behind last to d gap gap_is fits g1 g2 g3 g4 c.args.events.now.items _ _ e3 e4 _ c.in_ok-colon.ensures.events c.in_ok-begin.ensures.events c.in_ok-end.ensures.events a4 a5

pub returns-clause-goes : goal.returns-clause-goes
returns-clause-goes g c =
    let t = c.args.tab in
    let bytes = c.args.bytes.now in
    let stack = map open_of c.args.stack.now in
    let xs = c.args.rows.now in
    let d = c.args.definition in
    let fits = c.requires.fits in
    let cur = c.args.cursor in
    let colon = c.in_ok-colon.colon in
    let gap = d.destination.from - c.end_of_stretch.result - 1 in
    let gap_is : gap ≡ d.destination.from - end d.label - 1 = ap (λ n. d.destination.from - n - 1) c.end_of_stretch.ensures in
    let g1 = c.in_ok-colon.ensures.goes in
    let begin = c.in_ok-begin.begin in
    let g2 = c.in_ok-begin.ensures.goes in
    let behind = c.in_ok-end.end in
    let g3 = c.in_ok-end.ensures.goes in
    let to_is : c.end_of_stretch-to.result ≡ end d.destination = c.end_of_stretch-to.ensures in
    let last = c.in_ok-last.last in
    let g4 = subst (λ (n : ℕ). Goes t bytes stack xs behind (title_length d.title n) last) to_is c.in_ok-last.ensures.goes in
    let left_is : d.size - c.end_of_parts.result ≡ d.size - end_of d.title d.destination = ap (λ n. d.size - n) c.end_of_parts.ensures in
    let to = c.in_ok-whole.whole in
    let g5 = subst (λ (n : ℕ). Goes t bytes stack xs last n to) left_is c.in_ok-whole.ensures.goes in
    to-whole t bytes stack xs cur colon begin behind last to d gap gap_is fits g1 g2 g3 g4 g5
