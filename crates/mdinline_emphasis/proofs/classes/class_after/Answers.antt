use Rattle.mdinline_emphasis.proofs.Prelude.{◌-◌, length, take, drop, ap, ◌∙◌, class_at_end, first_char}
use Rattle.mdinline_emphasis.proofs.Chars.{bytes-from}
use Rattle.mdinline_emphasis.proofs.classes.class_after.Goals as goal

pub returns : goal.returns
returns c =
    let bytes = c.args.bytes.now in
    let part = take (length bytes - c.min.result) (drop c.min.result bytes) in
    c.class_at_end.ensures ∙ ap (class_at_end part) c.first_char.ensures ∙ ap (λ xs. class_at_end xs (first_char xs)) (bytes-from bytes c.args.index c.min.result c.min.ensures)
