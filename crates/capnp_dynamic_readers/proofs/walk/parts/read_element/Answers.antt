use Rattle.capnp_dynamic_readers.proofs.StyledParts.{element_read, element_unread}
use Rattle.capnp_dynamic_readers.proofs.walk.parts.read_element.Goals as goal

pub returns-clause-read : goal.returns-clause-read
returns-clause-read c = element_read c.args.list c.args.index c.get.result c.get.ensures.value c.get.ensures.under

pub returns-clause-refused : goal.returns-clause-refused
returns-clause-refused c = element_unread c.args.list c.args.index c.get.result c.get.ensures.value
