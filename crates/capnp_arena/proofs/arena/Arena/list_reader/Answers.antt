use Rattle.std.proofs.Common.{subst, sym, ◌∙◌}
use Rattle.capnp_arena.specs.Forest.{tree}
use Rattle.capnp_arena.specs.Same.{IsCutOf}
use Rattle.capnp_arena.specs.Segment.{segment}
use Rattle.capnp_arena.proofs.arena.Arena.list_reader.Goals as goal

pub returns-clause-cut : goal.returns-clause-cut
returns-clause-cut c =
    subst (λ t. IsCutOf t (tree (segment c.args.self.now) c.args.at)) (sym (c.new.ensures.list ∙ (c.look.ensures ∙ c.pointer.ensures))) c.get_pointer_reader-pointer.ensures.cut
