-- The older brands unmoved and the newer ones moved behind the ends of the older set are the brands of the joined set.
use Rattle.std.proofs.Common.{◌≡◌, List, All, map, IfErr, IfOk, subst}
use Rattle.capnp_schema.specs.Schema.{Brand, seen_brand}
use Rattle.capnp_schema.specs.Entries.{lists_seen}
use Rattle.capnp_joined_sets.specs.Refusals.{IsMoveRefusal, BrandFits}
use Rattle.capnp_joined_sets.proofs.Kept.{brands_joined}
use Rattle.capnp_joined_sets.proofs.sets.join_brands.Goals as goal

pub returns-clause-joined : goal.returns-clause-joined
returns-clause-joined c =
    subst (λ (xs : List Brand). IfOk c.both.result (λ out. map seen_brand out.items ≡ xs))
    (brands_joined (lists_seen c.args.older.now) (lists_seen c.args.newer.now) c.ends_of.result _ _ c.brands.ensures c.brands-2.ensures c.ends_of.ensures)
    c.both.ensures.joined

pub returns-clause-refused : goal.returns-clause-refused
returns-clause-refused c =
    subst (λ (xs : List Brand). IfErr c.both.result (IsMoveRefusal (All BrandFits xs)))
    (brands_joined (lists_seen c.args.older.now) (lists_seen c.args.newer.now) c.ends_of.result _ _ c.brands.ensures c.brands-2.ensures c.ends_of.ensures)
    c.both.ensures.refused
