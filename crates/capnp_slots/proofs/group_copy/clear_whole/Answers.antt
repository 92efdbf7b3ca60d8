-- As many groups as there are brands are all.
use Rattle.std.proofs.Common.{◌∙◌, ap, length, sym}
use Rattle.std.proofs.lemmas.List.{length-map}
use Rattle.capnp_schema.specs.Schema.{Schemas, seen_brand}
use Rattle.capnp_slots.proofs.GroupCopies.{cleared_counted}
use Rattle.capnp_slots.proofs.group_copy.clear_whole.Goals as goal

pub returns-clause-cleared : goal.returns-clause-cleared
returns-clause-cleared c =
    cleared_counted c.args.schema _ _ _ (sym (length-map c.brands.result.now seen_brand) ∙ (ap length c.brands.ensures ∙ ap (λ (z : Schemas). length z.brands) c.get_set.ensures)) c.clear_group.ensures.cleared
