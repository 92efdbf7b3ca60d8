-- Words that begin with no point are not told.
use Rattle.std.proofs.Common.{None, arith, refl, sym, ◌∙◌}
use Rattle.std.proofs.lemmas.Str.Pattern.{strip_prefix_char}
use Rattle.riftcalico_core.proofs.Told.{at_unstripped}
use Rattle.riftcalico_core.proofs.note.get_at.Goals as goal

pub returns-in-None-clause-note : goal.returns-in-None-clause-note
returns-in-None-clause-note c =
    c.new.ensures.bytes ∙ sym (at_unstripped c.args.words.now None (strip_prefix_char 46 c.args.words.now None c.in-None.ensures.cases (omega arith)) refl)
