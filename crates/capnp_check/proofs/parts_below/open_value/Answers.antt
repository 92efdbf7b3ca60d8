-- Structs and lists open one level further down, and where no level is left they are too deep; all other values are leaves.
use Rattle.capnp_check.proofs.OpenValues.{leaf_opened, list_deepest, list_opened, struct_deepest, struct_opened}
use Rattle.capnp_check.proofs.parts_below.open_value.Goals as goal

pub returns-then-left-eq0 : goal.returns-then-left-eq0
returns-then-left-eq0 c = struct_deepest c.args.left c.args.value c.in-Struct.reader c.in-Struct.is c.if-left-eq0.true

pub returns-else-left-eq0 : goal.returns-else-left-eq0
returns-else-left-eq0 c = struct_opened c.args.left c.args.value c.in-Struct.reader c.in-Struct.is c.if-left-eq0.false

pub returns-then-left-eq0-2 : goal.returns-then-left-eq0-2
returns-then-left-eq0-2 c = list_deepest c.args.left c.args.value c.in-List.list c.in-List.is c.if-left-eq0-2.true

pub returns-else-left-eq0-2 : goal.returns-else-left-eq0-2
returns-else-left-eq0-2 c = list_opened c.args.left c.args.value c.in-List.list c.in-List.is c.if-left-eq0-2.false

pub returns-in_default : goal.returns-in_default
returns-in_default c = leaf_opened c.args.left c.args.value c.in_default.not-Struct c.in_default.not-List
