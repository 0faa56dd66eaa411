use Rattle.mdinline_emphasis.proofs.AsciiClasses.{ascii-has-its-classes}
use Rattle.mdinline_emphasis.proofs.laws.ascii_has_its_classes.Goals as goal

pub returns : goal.returns
returns c = ascii-has-its-classes
