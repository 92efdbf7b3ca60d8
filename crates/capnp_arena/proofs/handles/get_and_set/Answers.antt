use Rattle.std.proofs.Common.{rules, subst, arith, ap, ◌∙◌, ◌≡◌, ◌≤◌, ◌+◌, ◌-◌, ◌*◌, List, ℕ, length, replicate}
use Rattle.std.proofs.lemmas.List.{length-append, length-replicate}
use Rattle.capnp_wire.specs.Edits.{extended_struct, struct_in, with_bytes, with_number}
use Rattle.capnp_wire.specs.Place.{struct_tree}
use Rattle.capnp_wire.specs.Tree.{StructTree}
use Rattle.capnp_wire.specs.declared.size.StructSize.{StructSize}
use Rattle.capnp_arena.specs.Facts.Calls.{one_by_one}
use Rattle.capnp_arena.specs.Facts.Laws.{in_struct, struct_is, struct_planted}
use Rattle.capnp_arena.specs.Facts.Places.{data_of}
use Rattle.capnp_arena.specs.Forest.{Changes, Forest, PartChanges, Planted, struct_from, tree}
use Rattle.capnp_arena.specs.Segment.{segment}
use Rattle.capnp_arena.specs.Shape.{StructIn, shape_at}
use Rattle.capnp_arena.proofs.handles.get_and_set.Goals as goal

-- the struct has the data that were asked
module _ (m : List ℕ) (at a d p : ℕ) (f : Forest m at) (e : shape_at m at ≡ StructIn a d p) (size : StructSize) (u : StructTree) (t : tree m at ≡ struct_tree (extended_struct size u)) where
  large : 8 * size.data_words ≤ 8 * d
  large =
      let n : length (extended_struct size u).bytes ≡ length u.bytes + (8 * size.data_words - length u.bytes) =
      length-append u.bytes (replicate (8 * size.data_words - length u.bytes) 0) ∙ ap (λ k. length u.bytes + k) (length-replicate (8 * size.data_words - length u.bytes) 0) in
      let same : length (struct_from m a d p).bytes ≡ length (extended_struct size u).bytes = ap (λ s. length s.bytes) (struct_is m at a d p (extended_struct size u) f e t) in
      let l : length (struct_from m a d p).bytes ≡ 8 * d = data_of m a d p (struct_planted m at a d p f e) in
      omega (arith, n, same, l)

-- and the number once it is set
module _ (m n : List ℕ) (at a d p : ℕ) (f : Forest m at) (e : shape_at m at ≡ StructIn a d p) (h : Planted n (StructIn a d p)) (c : PartChanges (StructIn a d p) m n) where
  has_number : (s : StructTree) (width offset k : ℕ) → tree m at ≡ struct_tree s → struct_from n a d p ≡ with_bytes (struct_from m a d p) (with_number width offset k (struct_from m a d p).bytes)
      → tree n at ≡ struct_tree (with_bytes s (with_number width offset k s.bytes))
  has_number s width offset k t q =
      (in_struct m n at a d p f e h c).tree ∙ ap struct_tree (q ∙ ap (λ x. with_bytes x (with_number width offset k x.bytes)) (struct_is m at a d p s f e t))

pub set_data_field-requires-clause-planted : goal.set_data_field-requires-clause-planted
set_data_field-requires-clause-planted g c = struct_planted _ _ _ _ _ c.in_ok-built.ensures.forest c.in_ok-built.ensures.place

pub set_data_field-requires-clause-inside : goal.set_data_field-requires-clause-inside
set_data_field-requires-clause-inside g c =
    let l = large _ _ _ _ _ c.in_ok-built.ensures.forest c.in_ok-built.ensures.place c.args.size _ c.in_ok-built.ensures.tree in
    let i = c.requires.inside in
    omega (arith, l, i)

pub returns-clause-forest : goal.returns-clause-forest
returns-clause-forest g c =
    subst (λ b. Forest b c.args.at) (search rules)
    (in_struct (segment c.in_ok-built.built.arena.now) (segment c.set_data_field.new.self.arena.now) _ _ _ _ c.in_ok-built.ensures.forest c.in_ok-built.ensures.place c.set_data_field.ensures.planted c.set_data_field.ensures.changes).forest

pub returns-clause-tree : goal.returns-clause-tree
returns-clause-tree g c =
    let s : StructTree = extended_struct c.args.size (struct_in (tree (segment c.args.arena.now) c.args.at)) in
    subst (λ b. tree b c.args.at ≡ struct_tree (with_bytes s (with_number g.T.PrimitiveElement.width c.args.offset (g.T.PrimitiveElement.to_number c.args.value) s.bytes))) (search rules)
    (has_number (segment c.in_ok-built.built.arena.now) (segment c.set_data_field.new.self.arena.now) _ _ _ _ c.in_ok-built.ensures.forest c.in_ok-built.ensures.place c.set_data_field.ensures.planted c.set_data_field.ensures.changes
    s g.T.PrimitiveElement.width c.args.offset (g.T.PrimitiveElement.to_number c.args.value) c.in_ok-built.ensures.tree c.set_data_field.ensures.tree)

pub returns-clause-changes : goal.returns-clause-changes
returns-clause-changes g c =
    subst (λ b. Changes c.args.at (segment c.args.arena.now) b) (search rules)
    (one_by_one _ _ _ _ c.in_ok-built.ensures.changes
    (in_struct (segment c.in_ok-built.built.arena.now) (segment c.set_data_field.new.self.arena.now) _ _ _ _ c.in_ok-built.ensures.forest c.in_ok-built.ensures.place c.set_data_field.ensures.planted c.set_data_field.ensures.changes).changes)
