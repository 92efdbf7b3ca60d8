-- What is written is zeros.
use Rattle.std.proofs.Common.{ℕ, ◌++◌, take, ap, ◌∙◌, rules}
use Rattle.capnp_packed.proofs.Filled.{zeros_taken}
use Rattle.capnp_packed.proofs.received.put_zeros.Goals as goal

pub returns-clause-bytes : goal.returns-clause-bytes
returns-clause-bytes c =
    c.put.ensures.bytes
    ∙ ap (λ x. take c.put.result (◌++◌ {A = ℕ} (take c.args.at c.args.out.now) x)) (c.part.ensures ∙ zeros_taken c.args.count (search rules))
