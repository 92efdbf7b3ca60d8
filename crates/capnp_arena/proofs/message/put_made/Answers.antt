use Rattle.std.proofs.Common.{◌≡◌, ◌∙◌}
use Rattle.capnp_device.specs.declared.error.ErrorKind.TheVariants.{WriteFailed}
use Rattle.capnp_arena.specs.Forest.{tree}
use Rattle.capnp_arena.proofs.Sent.{cut_short, if_err_so}
use Rattle.capnp_arena.proofs.message.put_made.Goals as goal

pub returns-clause-beginning : goal.returns-clause-beginning
returns-clause-beginning g c =
    if_err_so (λ e. e.kind ≡ WriteFailed) c.write_all.result (cut_short (tree c.args.bytes.now 0) c.deref.result.now _ _ (c.deref.ensures.value ∙ c.in_ok-append_made.ensures.bytes)) c.write_all.ensures.beginning
