-- The walk keeps that all fields before the index fit; the field read there does too, so it is so of one field more.
use Rattle.std.proofs.Common.{arith, map}
use Rattle.std.proofs.lemmas.List.{length-map}
use Rattle.capnp_schema.specs.Schema.{Field, seen_field}
use Rattle.capnp_schema.specs.Steps.EntryRanges.{FieldFits}
use Rattle.capnp_schema.proofs.EntryWalk.{all_stand, is_so_here, more_stand, none_stand, seen_read}
use Rattle.capnp_schema.proofs.ranges.fields_fit.Goals as goal

abbrev Fits : Field → Type 0
Fits a = FieldFits a

pub loop-i-init : goal.loop-i-init
loop-i-init c = none_stand _ Fits

pub loop-i-preserved : goal.loop-i-preserved
loop-i-preserved c = more_stand _ Fits _ c.loop-i.invariant (is_so_here (map seen_field c.args.fields.now) Fits c.loop-i.i _ (seen_read seen_field c.args.fields.now c.loop-i.i c.index-fields-i.result c.loop-i-test.true c.index-fields-i.is) c.field_fits.ensures)

pub returns : goal.returns
returns c = all_stand _ Fits _ c.loop-i.invariant (let n = length-map c.args.fields.now seen_field in omega arith)
