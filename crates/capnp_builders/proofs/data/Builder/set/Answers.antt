-- The byte is that of the data.
use Rattle.std.proofs.Common.{IsOk, ap, subst, sym, refl, ◌∙◌}
use Rattle.capnp_wire.specs.Reading.{as_data}
use Rattle.capnp_wire.specs.Tree.{Tree}
use Rattle.capnp_builders.specs.Blobs.{bytes_in, data_there}
use Rattle.capnp_builders.proofs.Writes.{data_put}
use Rattle.capnp_builders.proofs.data.Builder.set.Goals as goal

pub returns-clause-bytes : goal.returns-clause-bytes
returns-clause-bytes c =
    ap (λ (t : Tree). bytes_in (as_data t)) c.set_data_element.ensures.leaves.tree
    ∙ ap bytes_in (data_put (data_there c.args.self.now) c.args.index c.args.byte c.ranges.byte.fits c.requires.there.bytes c.requires.inside)

pub returns-clause-there : goal.returns-clause-there
returns-clause-there c =
    record {
      forest = c.set_data_element.ensures.leaves.forest;
      bytes = subst (λ (t : Tree). IsOk (as_data t)) (sym c.set_data_element.ensures.leaves.tree)
          (subst IsOk (sym (data_put (data_there c.args.self.now) c.args.index c.args.byte c.ranges.byte.fits c.requires.there.bytes c.requires.inside)) refl);
    }
