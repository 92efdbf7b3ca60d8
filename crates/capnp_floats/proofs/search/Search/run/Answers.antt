-- Each advance follows from the start and leaves a search going.
-- While it is open, below is less than one and grows tenfold, so the space between them shrinks.
use Rattle.std.proofs.Common.{rules}
use Rattle.capnp_floats.specs.Steps.Going.{IsSearchOpen}
use Rattle.capnp_floats.proofs.Going.{going_on, follows_first, follows_on, open_again, shrinks}
use Rattle.capnp_floats.proofs.search.Search.run.Goals as goal

pub going-init : goal.going-init
going-init c = record {
  going = going_on c.args.self.now c.advance.new.self c.requires.begun c.advance.ensures;
  follows = follows_first c.args.self.now c.advance.new.self c.requires.digits c.requires.tenths c.advance.ensures;
}

pub going-smaller : goal.going-smaller
going-smaller c =
    let o : IsSearchOpen c.going.self = open_again c.going.self c.going.invariant.going (search (rules, c.is_open.ensures.down)) (search (rules, c.is_open.ensures.up)) in
    shrinks c.going.self c.advance-in-going.new.self o c.advance-in-going.ensures

pub going-preserved : goal.going-preserved
going-preserved c =
    let o : IsSearchOpen c.going.self = open_again c.going.self c.going.invariant.going (search (rules, c.is_open.ensures.down)) (search (rules, c.is_open.ensures.up)) in
    record {
      going = going_on c.going.self c.advance-in-going.new.self o c.advance-in-going.ensures;
      follows = follows_on c.args.self.now c.going.self c.advance-in-going.new.self c.going.invariant.follows c.advance-in-going.ensures;
    }
