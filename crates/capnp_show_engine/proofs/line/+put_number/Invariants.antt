-- The number has fewer digits each time.
use Rattle.capnp_show_engine.proofs.line.+put_number.Given as goal

abbrev pub decreases-put_number : goal.decreases-put_number
decreases-put_number l = l.number
