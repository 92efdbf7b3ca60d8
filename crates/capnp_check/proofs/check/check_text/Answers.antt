use Rattle.std.proofs.Common.{◌∙◌}
use Rattle.capnp_check.proofs.Layouts.{any_lines}
use Rattle.capnp_check.proofs.check.check_text.Goals as goal

pub returns : goal.returns
returns c = λ indented. c.check_root.ensures ∙ any_lines indented c.args.value
