use Rattle.std.proofs.Common.{eqb-true, sym}
use Rattle.capnp_wire.proofs.NoPointers.{no_faults_below, no_words_below}
use Rattle.capnp_wire.proofs.parts.block.have_no_pointers.Goals as goal

pub returns-clause-faults : goal.returns-clause-faults
returns-clause-faults c = λ none. sym (no_faults_below _ _ c.args.elements (eqb-true _ _ none))

pub returns-clause-words : goal.returns-clause-words
returns-clause-words c = λ none. sym (no_words_below _ _ c.args.elements (eqb-true _ _ none))
