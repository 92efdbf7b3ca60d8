-- The byte is that of the text.
use Rattle.std.proofs.Common.{IsOk, ap, subst, sym, refl, ◌∙◌}
use Rattle.capnp_wire.specs.Reading.{as_text}
use Rattle.capnp_wire.specs.Tree.{Tree}
use Rattle.capnp_builders.specs.Blobs.{bytes_in, position, text_there}
use Rattle.capnp_builders.proofs.Writes.{text_put}
use Rattle.capnp_builders.proofs.text.Builder.push_byte.Goals as goal

pub returns-clause-bytes : goal.returns-clause-bytes
returns-clause-bytes c =
    ap (λ (t : Tree). bytes_in (as_text t)) c.set_data_element.ensures.leaves.tree
    ∙ ap bytes_in (text_put (text_there c.args.self.now) (position c.args.self.now) c.args.byte c.ranges.byte.fits c.requires.there.text c.requires.room)

pub returns-clause-there : goal.returns-clause-there
returns-clause-there c =
    record {
      forest = c.set_data_element.ensures.leaves.forest;
      text = subst (λ (t : Tree). IsOk (as_text t)) (sym c.set_data_element.ensures.leaves.tree)
          (subst IsOk (sym (text_put (text_there c.args.self.now) (position c.args.self.now) c.args.byte c.ranges.byte.fits c.requires.there.text c.requires.room)) refl);
    }
