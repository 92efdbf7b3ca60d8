-- Lists along a path: what the code knows of one, and what a call does from it on: steps of the code.
use Rattle.std.specs.Prelude.{ℕ, List}
use Rattle.capnp_wire.specs.Reading.{list_length}
use Rattle.capnp_wire.specs.Tree.{Tree}
use Rattle.capnp_schema.specs.Schema.{Schemas}
use Rattle.capnp_schema.specs.Types.{ListType, SchemaType}
use Rattle.capnp_device.specs.declared.error.ErrorKind.{ErrorKind}
use Rattle.capnp_device.specs.declared.error.ErrorKind.TheVariants.{NoSuchElement, NotAContainer}
use Rattle.capnp_records.specs.Call.{ElementAt, FieldNamed, FieldNumber, PathStep}
use Rattle.capnp_records.specs.Record.{values_from}
use Rattle.capnp_records.specs.Step.{StepTarget, element_target, passed_target}
use Rattle.capnp_records.specs.Writes.Stand.{OnList}
use Rattle.capnp_records.specs.Steps.Stand.{seen_element}
use Rattle.capnp_records.specs.Writes.TreeEnds.{TreeDoes}
use Rattle.capnp_records.specs.Writes.TreeRun.{TreePasses, TreeWalks}
use Rattle.capnp_call.specs.Seen.{op_seen, path_seen, reply_seen}
use Rattle.capnp_call.specs.Walks.{EndsAt}
use Rattle.capnp_call.specs.declared.calls.Op.{Op}
use Rattle.capnp_call.specs.declared.calls.Reply.{Reply}
use Rattle.capnp_call.specs.declared.calls.Step.{Step}
use Rattle.capnp_call.specs.declared.calls.Ending.{Ending}

-- what a step names at a list without elements
abbrev pub refusal_at_nothing : PathStep → ErrorKind
refusal_at_nothing (FieldNumber i) = NotAContainer
refusal_at_nothing (FieldNamed name) = NotAContainer
refusal_at_nothing (ElementAt i) = NoSuchElement

-- a path is walked from a list of elements of a type, and the operation is done at its end
unfoldable pub ListWalks : Schemas → SchemaType → List Step → Ending → Tree → Reply → Tree → Type 0
ListWalks set e path end old reply new = TreeWalks set (EndsAt set end) (path_seen path) (ListType e) (OnList old) (reply_seen reply) (OnList new)

-- an element of a list as the target of a step
abbrev pub element_at : Schemas → SchemaType → Tree → ℕ → StepTarget
element_at set e x i = element_target e (values_from (seen_element set x e) 0 (list_length x)) i

-- the same into an element that is there, and along the rest of the path
unfoldable pub ElementWalks : Schemas → SchemaType → ℕ → List Step → Ending → Tree → Reply → Tree → Type 0
ElementWalks set e i rest end old reply new =
    TreePasses set (TreeWalks set (EndsAt set end) (path_seen rest)) (ListType e) (OnList old) (ElementAt i) (passed_target (element_at set e old i)) (reply_seen reply) (OnList new)

-- an operation is done to an element that is there
abbrev pub ElementDoes : Schemas → SchemaType → ℕ → Op → Tree → Reply → Tree → Type 0
ElementDoes set e i op old reply new = TreeDoes set (op_seen op) (element_at set e old i) (ListType e) (OnList old) (ElementAt i) (reply_seen reply) (OnList new)
