-- The pointer word and the start computed are those of a new struct, be it one without words, so the zeroed words make it.
use Rattle.std.proofs.Common.{replicate, ◌*◌, rules, arith, ◌≡◌, ◌+◌, ◌/◌, ◌<◌, ◌^◌, List, ℕ, sym, ap, ◌∙◌, subst}
use Rattle.capnp_arena.specs.Steps.Made.{IsObjectMade, struct_pointer, struct_start}
use Rattle.capnp_arena.specs.Shape.{word_count}
use Rattle.capnp_arena.proofs.Made.{IsNewStruct, struct_made}
use Rattle.capnp_arena.proofs.arena.Arena.init_struct.Goals as goal

made : (old new : List ℕ) (at d p end word start : ℕ) → d < 2 ^ 16 → p < 2 ^ 16 → end ≡ word_count old → word ≡ struct_pointer end at d p → IsObjectMade old new (replicate (8 * (d + p)) 0) at word → start ≡ struct_start end at (d + p) → IsNewStruct old new at start d p
made old new at d p end word start hd hp e w h s =
    let h2 : IsObjectMade old new (replicate (8 * (d + p)) 0) at (struct_pointer (word_count old) at d p) = subst (IsObjectMade old new (replicate (8 * (d + p)) 0) at) (w ∙ ap (λ x. struct_pointer x at d p) e) h in
    subst (λ x. IsNewStruct old new at x d p) (sym (s ∙ ap (λ x. struct_start x at (d + p)) e)) (struct_made old new at d p hd hp h2)

pub returns-clause-forest : goal.returns-clause-forest
returns-clause-forest c = (made _ _ _ _ _ _ _ _ (omega arith) (omega arith) (ap (λ n. n / 8) (search rules)) c.get_struct_pointer.ensures c.in_ok-make.ensures.made c.get_struct_start.ensures).forest

pub returns-clause-place : goal.returns-clause-place
returns-clause-place c = (made _ _ _ _ _ _ _ _ (omega arith) (omega arith) (ap (λ n. n / 8) (search rules)) c.get_struct_pointer.ensures c.in_ok-make.ensures.made c.get_struct_start.ensures).place

pub returns-clause-tree : goal.returns-clause-tree
returns-clause-tree c = (made _ _ _ _ _ _ _ _ (omega arith) (omega arith) (ap (λ n. n / 8) (search rules)) c.get_struct_pointer.ensures c.in_ok-make.ensures.made c.get_struct_start.ensures).tree

pub returns-clause-changes : goal.returns-clause-changes
returns-clause-changes c = (made _ _ _ _ _ _ _ _ (omega arith) (omega arith) (ap (λ n. n / 8) (search rules)) c.get_struct_pointer.ensures c.in_ok-make.ensures.made c.get_struct_start.ensures).changes
