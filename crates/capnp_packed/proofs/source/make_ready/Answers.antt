-- What is left stays, and at the end nothing is left.
use Rattle.std.proofs.Common.{ℕ, List, sym, subst}
use Rattle.std.specs.Io.KnownBytes.{IsAtEnd}
use Rattle.capnp_packed.specs.Sources.{held, left_unpacked}
use Rattle.capnp_packed.proofs.Left.{cut_end}
use Rattle.capnp_packed.proofs.source.make_ready.Goals as goal

pub returns-then-count-eq0-clause-ended : goal.returns-then-count-eq0-clause-ended
returns-then-count-eq0-clause-ended g c = λ e.
    let P : List ℕ → Type 0 = λ x. IsAtEnd (left_unpacked x (held c.read_more.new.self) (g.S.Source.left c.read_more.new.source)) in
    subst P (sym e) (cut_end (held c.unpack.new.packed) (held c.read_more.new.self) _ _ c.in-Ok.count c.in-Ok.ensures.read c.if-count-eq0.true (c.unpack.ensures.none e))
