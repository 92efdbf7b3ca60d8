-- A number under an enum is read as one of 64 bits and then narrowed to 16, which gives the
-- same in range or refusal as reading 16 bits.
use Rattle.std.proofs.Common.{◌∙◌, sym, ap}
use Rattle.capnp_schema.specs.Types.{EnumType}
use Rattle.capnp_schema.specs.Enums.{enum_number}
use Rattle.capnp_from_json.specs.LeafReads.{under}
use Rattle.capnp_from_json.specs.Looks.{look_seen}
use Rattle.capnp_from_json.specs.Records.{value_of_json}
use Rattle.capnp_from_json.proofs.LeafReads.{enum_narrow}
use Rattle.capnp_from_json.proofs.leaves.read_enum.Goals as goal

pub returns-in-Number-clause-read : goal.returns-in-Number-clause-read
returns-in-Number-clause-read c = λ rules e whole levels part is_float form.
    c.enum_leaf.ensures.read ∙ enum_narrow c.args.place c.in-Number.token.now
    ∙ ap (λ l. value_of_json rules (look_seen whole c.args.place l) levels (under (EnumType (enum_number c.args.schema)) part is_float form)) (sym c.in-Number.is)
