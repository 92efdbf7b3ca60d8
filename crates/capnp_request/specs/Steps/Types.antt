-- The types that a request's types are converted to, and the numbers of what they name: steps of the code.
use Rattle.std.specs.Prelude.{Bool, true, false}
use Rattle.capnp_request.specs.Terms.{AnnotationNode, EnumNode, NodeKind, OtherNode, StructNode}

abbrev pub is_annotation : NodeKind → Bool
is_annotation (StructNode part) = false
is_annotation (EnumNode enumerants) = false
is_annotation (AnnotationNode t) = true
is_annotation OtherNode = false
