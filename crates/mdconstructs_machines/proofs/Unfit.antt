-- Two tables without misfits that are not lawful do not meet the conditions of the law about tables.
use Rattle.mdconstructs_machines.proofs.Prelude.{◌≡◌, [], true, false, Option, Some, None, refl, arith, IsFit, misfits, IsPlainTable, WritesPlain, LineByte, line_ending, other, uncounted_lines, editing, breaking, is_ending, at_bytes_or_end, Sight, Text, Configuration, start_configuration}

pub uncounted : (previous current : Option LineByte) → misfits uncounted_lines previous current ≡ []
uncounted previous None = refl
uncounted previous (Some line_ending) = refl
uncounted previous (Some other) = refl

-- a state that is called at line endings and at the end
pub at-endings : (previous current : Option LineByte) → misfits (breaking (at_bytes_or_end is_ending)) previous current ≡ []
at-endings previous None = refl
at-endings previous (Some line_ending) = refl
at-endings previous (Some other) = refl

-- no byte was pushed
abbrev no_text : Text
no_text = record { start = record { line = 1; column = 1; index = 0; vs = 0 }; seats = []; end = record { line = 1; column = 1; index = 0; vs = 0 } }

-- a call at the end of no text costs one, and the machine says that it costs nothing
pub unpaid : ¬ IsFit uncounted_lines
unpaid fit = let paid = fit.paid.0 None None no_text 0 refl (omega arith) refl refl in absurd (omega (arith, paid))

pub editing-fits : (previous current : Option LineByte) → misfits editing previous current ≡ []
editing-fits previous None = refl
editing-fits previous (Some line_ending) = refl
editing-fits previous (Some other) = refl

pub not-plain : ¬ IsPlainTable editing
not-plain is = let e : false ≡ true = is.rows None None in absurd (cc)

-- what is written makes an edit where there was none
pub writes : ¬ WritesPlain editing
writes is =
    let k : Configuration Unit Unit = start_configuration false in
    let p = no_text.start in
    let s : Sight = record { previous = None; current = None; point = p; enter_place = p; exit_place = p; next = p } in
    let edits = ((is.rows None None).0 s k (refl, refl, tt)).1 in
    absurd (cc)
