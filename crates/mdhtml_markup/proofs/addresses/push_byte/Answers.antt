use Rattle.std.proofs.Common.{◌++◌, ◌∷◌, [], ◌∙◌, ◌/◌, ap, sym}
use Rattle.mdhtml_markup.specs.Addresses.{hex_digit}
use Rattle.mdhtml_markup.proofs.AddressLemmas.{other_written}
use Rattle.mdhtml_markup.proofs.addresses.push_byte.Goals as goal

pub returns-in_ok-extend_from_slice-in-None : goal.returns-in_ok-extend_from_slice-in-None
returns-in_ok-extend_from_slice-in-None c =
    let b = c.args.byte in
    c.in_ok-extend_from_slice-in-None.ensures.items
    ∙ ap (λ x. c.args.out.now.items ++ x)
    (ap (λ x. 37 ∷ x ∷ c.hex_digit-in-None.result ∷ []) c.hex_digit.ensures ∙ ap (λ x. 37 ∷ hex_digit (b / 16) ∷ x ∷ []) c.hex_digit-in-None.ensures
    ∙ sym (other_written b c.requires c.in-None.ensures))
