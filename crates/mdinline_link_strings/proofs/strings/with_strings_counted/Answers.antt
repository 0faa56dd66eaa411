use Rattle.std.proofs.Common.{◌++◌, false, ap, arith, length, subst, sym}
use Rattle.markdown_tokenizer.specs.AtPlaces.{AreAtPlaces}
use Rattle.mdinline_link_strings.specs.Costs.{string_size_from}
use Rattle.mdinline_link_strings.specs.Strings.{with_strings_from}
use Rattle.mdinline_link_strings.proofs.strings.with_strings_counted.Goals as goal

pub loop-alloc-init : goal.loop-alloc-init
loop-alloc-init g c =
    let on = c.args.on.now in
    let t = c.args.tab in
    let bytes = c.args.bytes.now in
    let is = c.new-list.ensures in
    let size = ap (λ v. string_size_from t bytes false v.1) is in
    let long = ap (λ v. length v.1) is in (
      ap (λ v. v.0 ++ with_strings_from on t bytes false v.1) is,
      subst (AreAtPlaces t bytes) (sym (ap (λ v. v.1) is)) c.requires.places,
      omega (arith, size, long),
    )
