use Rattle.markdown_children.proofs.ChildReads.AsFunction.{are-children-of, just-children-of}
use Rattle.markdown_children.proofs.laws.children_are_a_function.Goals as goal

pub returns-clause-given : goal.returns-clause-given
returns-clause-given g c = λ m given wanted events balanced. are-children-of given (g.M.Machine.rules m) wanted events balanced

pub returns-clause-just : goal.returns-clause-just
returns-clause-just g c = λ m given wanted events ready each. just-children-of given (g.M.Machine.rules m) wanted events ready each
