-- What the lists of the type hold at last decides: a struct names its brand, an enum has an
-- index below the enums' count, and others name nothing.
use Rattle.std.proofs.Common.{arith, rules}
use Rattle.std.proofs.lemmas.Bool.{ltb-true, lt-ltb}
use Rattle.std.proofs.lemmas.List.{length-map}
use Rattle.capnp_base.specs.declared.introspect.TypeVariant.TheVariants as variant
use Rattle.capnp_schema.specs.Schema.{seen_enum}
use Rattle.capnp_schema.specs.Entries.{lists_seen}
use Rattle.capnp_schema.proofs.Checking.InnermostTypes.{names_innermost, other_named}
use Rattle.capnp_schema.proofs.check.fields.names_entry.Goals as goal

pub returns-in-Struct : goal.returns-in-Struct
returns-in-Struct c = names_innermost (lists_seen c.args.lists.now) c.args.of.now (variant.Struct c.in-Struct.schema) _ c.in-Struct.ensures (search rules)

pub returns-in-Enum : goal.returns-in-Enum
returns-in-Enum c = let l = length-map c.args.lists.now.enums.items seen_enum in
    names_innermost (lists_seen c.args.lists.now) c.args.of.now (variant.Enum c.in-Enum.schema) _ c.in-Enum.ensures (λ e. let h = ltb-true _ _ e in omega arith, λ h. lt-ltb _ _ (omega arith))

pub returns-in_default : goal.returns-in_default
returns-in_default c = other_named (lists_seen c.args.lists.now) c.args.of.now c.innermost.result c.innermost.ensures c.in_default.not-Struct c.in_default.not-Enum
