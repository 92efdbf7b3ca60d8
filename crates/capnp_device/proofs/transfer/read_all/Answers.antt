use Rattle.capnp_device.proofs.Known.{consumes_both, on_err_always}
use Rattle.capnp_device.proofs.transfer.read_all.Goals as goal

pub returns-in_err-extend_from_slice-clause-beginning :
    goal.returns-in_err-extend_from_slice-clause-beginning
returns-in_err-extend_from_slice-clause-beginning g c =
    on_err_always c.from_residual.result
    (_, consumes_both _ _ _ _ _ c.loop-count.invariant.taken c.in-Ok.ensures.bytes.0)
