-- A point is there and is taken away, or no steps are there.
use Rattle.std.proofs.Common.{None, Some, arith, sym, ◌∙◌}
use Rattle.std.proofs.lemmas.Str.Pattern.{strip_prefix_char}
use Rattle.riftcalico_core.proofs.HeadedLines.{no_point, without_point}
use Rattle.riftcalico_core.proofs.get.get_path_word.Goals as goal

pub returns-in-Some : goal.returns-in-Some
returns-in-Some c = λ path e. without_point path c.in-Some.path.now (sym e ∙ strip_prefix_char 46 c.args.words.now (Some c.in-Some.path) c.in-Some.ensures.cases (omega arith))

pub returns-in-None : goal.returns-in-None
returns-in-None c = λ path e. no_point path (λ word k. strip_prefix_char 46 c.args.words.now None c.in-None.ensures.cases (omega arith) word (e ∙ k))
