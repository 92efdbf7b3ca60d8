-- The older enums unmoved and the newer ones moved behind the ends of the older set are the enums of the joined set.
use Rattle.std.proofs.Common.{◌≡◌, List, All, map, IfErr, IfOk, subst}
use Rattle.capnp_schema.specs.Schema.{Enum, seen_enum}
use Rattle.capnp_schema.specs.Entries.{lists_seen}
use Rattle.capnp_joined_sets.specs.Refusals.{IsMoveRefusal, EnumFits}
use Rattle.capnp_joined_sets.proofs.Kept.{enums_joined}
use Rattle.capnp_joined_sets.proofs.sets.join_enums.Goals as goal

pub returns-clause-joined : goal.returns-clause-joined
returns-clause-joined c =
    subst (λ (xs : List Enum). IfOk c.both.result (λ out. map seen_enum out.items ≡ xs))
    (enums_joined (lists_seen c.args.older.now) (lists_seen c.args.newer.now) c.ends_of.result _ _ c.enums.ensures c.enums-2.ensures c.ends_of.ensures)
    c.both.ensures.joined

pub returns-clause-refused : goal.returns-clause-refused
returns-clause-refused c =
    subst (λ (xs : List Enum). IfErr c.both.result (IsMoveRefusal (All EnumFits xs)))
    (enums_joined (lists_seen c.args.older.now) (lists_seen c.args.newer.now) c.ends_of.result _ _ c.enums.ensures c.enums-2.ensures c.ends_of.ensures)
    c.both.ensures.refused
