-- Whether the brand's record is there decides: with it the records are those of the node
-- that it names, without it there are none.
use Rattle.std.proofs.Common.{◌∙◌, ap, slice_get, sym}
use Rattle.std.specs.Option.{option_copied, option_map}
use Rattle.capnp_schema.specs.declared.lists.Lists.{Lists}
use Rattle.capnp_schema.specs.Schema.{seen_brand}
use Rattle.capnp_schema.specs.Entries.{lists_seen}
use Rattle.capnp_schema.proofs.LookUps.{accepted_seen, no_records, records_here}
use Rattle.capnp_schema.proofs.set.SchemaSet.node_number.Goals as goal

pub returns-in-Some : goal.returns-in-Some
returns-in-Some c =
    records_here (lists_seen c.args.self.now) (accepted_seen c.self.view_is c.self.invariant.0) c.args.brand (seen_brand c.in-Some.record.now)
    (ap (λ o. option_map seen_brand (option_copied o)) (sym c.in-Some.is) ∙ c.brand_at.ensures ∙ ap (λ (l : Lists). slice_get (lists_seen l).brands c.args.brand) c.self.view_is)

pub returns-in-None : goal.returns-in-None
returns-in-None c =
    no_records (lists_seen c.args.self.now) c.args.brand
    (ap (λ o. option_map seen_brand (option_copied o)) (sym c.in-None.is) ∙ c.brand_at.ensures ∙ ap (λ (l : Lists). slice_get (lists_seen l).brands c.args.brand) c.self.view_is)
