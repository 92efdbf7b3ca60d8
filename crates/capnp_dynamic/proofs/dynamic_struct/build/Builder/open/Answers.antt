-- The struct that was entered stands at its place.
use Rattle.std.proofs.Common.{refl}
use Rattle.capnp_wire.specs.Edits.{struct_in}
use Rattle.capnp_arena.specs.Forest.{tree}
use Rattle.capnp_arena.specs.Segment.{segment}
use Rattle.capnp_dynamic.proofs.Opened.{entered_is, entered_stands}
use Rattle.capnp_dynamic.proofs.dynamic_struct.build.Builder.open.Goals as goal

pub returns : goal.returns
returns c =
    let old = struct_in (tree (segment c.args.pointer.arena.now) c.args.pointer.at) in
    let e = c.in_ok-place.ensures in (
      (refl, λ w. refl, tt),
      record {
        rests = tt;
        same = refl;
        ready = entered_stands c.args.schema c.size_of-size.result old c.get_struct.new.self c.args.pointer.at c.in_ok-place.place c.size_of-size.ensures e.forest e.place e.tree;
        schema = refl;
        frame = record { forest = e.forest; changes = e.changes };
        place = e.place;
        now = entered_is c.args.schema c.size_of-size.result old c.get_struct.new.self c.args.pointer.at c.in_ok-place.place c.size_of-size.ensures e.forest e.place e.tree;
        cause = tt;
      },
    )
