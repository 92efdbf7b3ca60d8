-- The one word that was appended is zero, so the root is a null.
use Rattle.std.proofs.Common.{rules, arith, ◌≡◌, replicate, refl, sym, subst}
use Rattle.capnp_wire.specs.Tree.{Null}
use Rattle.capnp_arena.specs.Forest.{Forest, tree}
use Rattle.capnp_arena.specs.Facts.Calls.{null_forest, null_tree}
use Rattle.capnp_arena.proofs.arena.Arena.with_limit.Goals as goal

pub returns-clause-forest : goal.returns-clause-forest
returns-clause-forest c =
    let e : c.append_zeros.new.out.items ≡ replicate 8 0 = search rules in
    subst (λ b. Forest b 0) (sym e) (null_forest (replicate 8 0) 0 (omega arith, refl))

pub returns-clause-null : goal.returns-clause-null
returns-clause-null c =
    let e : c.append_zeros.new.out.items ≡ replicate 8 0 = search rules in
    subst (λ b. tree b 0 ≡ Null) (sym e) (null_tree (replicate 8 0) 0 (omega arith, refl))
