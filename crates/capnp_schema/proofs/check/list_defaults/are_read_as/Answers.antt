use Rattle.std.proofs.Common.{true, false, refl}
use Rattle.capnp_schema.proofs.Checking.ReadDefaults.{read_decides}
use Rattle.capnp_schema.proofs.check.list_defaults.are_read_as.Goals as goal

pub returns-in-Ok : goal.returns-in-Ok
returns-in-Ok c = read_decides true _ c.args.element c.args.words.now _ _ _ refl c.in-Ok.ensures.read c.expected_element_size.ensures c.from_words-root.ensures.tree c.from_words-root.ensures.levels

pub returns-in-Err : goal.returns-in-Err
returns-in-Err c = read_decides false _ c.args.element c.args.words.now _ _ _ refl c.in-Err.ensures.read c.expected_element_size.ensures c.from_words-root.ensures.tree c.from_words-root.ensures.levels
