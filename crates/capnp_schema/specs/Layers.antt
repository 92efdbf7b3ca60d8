-- What a type is, a layer at a time.
use Rattle.std.specs.Prelude.{◌≡◌}
use Rattle.capnp_base.specs.declared.introspect.«Type».{«Type» as TypeHandle}
use Rattle.capnp_base.specs.Types.{variant_of}
use Rattle.capnp_schema.specs.Types.{seen_type, seen_variant}

-- one layer of a type stands for what the type stands for: what names entries of the type names those of the layer, and a
-- list's layer those of its elements
abbrev pub TypesGoByLayers : Type 0
TypesGoByLayers = (t : TypeHandle) → seen_variant (variant_of t) ≡ seen_type t
