-- The walk keeps that the list defaults of all the brand's fields before the index are read; it goes on while the next one's is.
use Rattle.std.proofs.Common.{arith}
use Rattle.capnp_schema.specs.Accepted.{ReadsDefault}
use Rattle.capnp_schema.proofs.EntryWalk.{all_stand, more_stand, none_stand}
use Rattle.capnp_schema.proofs.check.list_defaults.check_brand_defaults.Goals as goal

pub loop-i-init : goal.loop-i-init
loop-i-init c = none_stand _ ReadsDefault

pub loop-i-preserved : goal.loop-i-preserved
loop-i-preserved c = more_stand _ ReadsDefault _ c.loop-i.invariant c.in_ok-check_list_default.ensures

pub returns : goal.returns
returns c = all_stand _ ReadsDefault _ c.loop-i.invariant (omega arith)
