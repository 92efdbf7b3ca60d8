use Rattle.std.proofs.Common.{arith, ◌≡◌, ◌*◌, ◌<◌, ◌≤◌, ◌^◌, ℕ, List, suc, length, sym, ap, subst, ◌∙◌}
use Rattle.capnp_wire.specs.Encoding.{encoding_of}
use Rattle.capnp_wire.specs.Facts.EncodedSizes.{length_encoding}
use Rattle.capnp_wire.specs.WellFormed.{IsWellFormed}
use Rattle.capnp_wire.specs.Words.{words_of}
use Rattle.capnp_arena.specs.Forest.{Forest, tree}
use Rattle.capnp_arena.proofs.NewTrees.{IsWhole, encoding_whole}
use Rattle.capnp_arena.proofs.Whole.{forest_whole}
use Rattle.capnp_arena.proofs.arena.Arena.compact.Goals as goal

-- the new segment is the encoding of the tree, which stands there
module _ (old part new : List ℕ) (limit : ℕ) (low : limit < 2 ^ 29) (e : part ≡ old) (f : Forest old 0) (h : new ≡ encoding_of (tree part 0)) (w : IsWellFormed (tree part 0)) (l : suc (words_of (tree part 0)) ≤ limit) where
  is : new ≡ encoding_of (tree old 0)
  is = h ∙ ap (λ b. encoding_of (tree b 0)) e

  held : IsWellFormed (tree old 0)
  held = subst (λ b. IsWellFormed (tree b 0)) e w

  within : suc (words_of (tree old 0)) ≤ limit
  within = subst (λ b. suc (words_of (tree b 0)) ≤ limit) e l

  few : suc (words_of (tree old 0)) < 2 ^ 29
  few = omega (arith, within, low)

  whole : IsWhole new (tree old 0)
  whole = subst (λ b. IsWhole b (tree old 0)) (sym is) (encoding_whole (tree old 0) held (forest_whole old 0 f) few)

  size : length new ≡ 8 * suc (words_of (tree old 0))
  size = ap length is ∙ length_encoding (tree old 0) held

pub invariant_of-self : goal.invariant_of-self
invariant_of-self c =
    let n = size _ _ _ _ c.args.self.now.low c.as_slice.ensures.value c.requires.forest c.in_ok-encoded.ensures.bytes c.in_ok-encoded.ensures.held.0 c.in_ok-encoded.ensures.held.1 in
    let l = within _ _ _ _ c.args.self.now.low c.as_slice.ensures.value c.requires.forest c.in_ok-encoded.ensures.bytes c.in_ok-encoded.ensures.held.0 c.in_ok-encoded.ensures.held.1 in
    record { whole = omega (arith, n); few = omega (arith, n, l, c.args.self.now.low); within = omega (arith, n, l); low = c.args.self.now.low; some = c.args.self.now.some }

pub returns-clause-bytes : goal.returns-clause-bytes
returns-clause-bytes c = is _ _ _ _ c.args.self.now.low c.as_slice.ensures.value c.requires.forest c.in_ok-encoded.ensures.bytes c.in_ok-encoded.ensures.held.0 c.in_ok-encoded.ensures.held.1

pub returns-clause-forest : goal.returns-clause-forest
returns-clause-forest c = (whole _ _ _ _ c.args.self.now.low c.as_slice.ensures.value c.requires.forest c.in_ok-encoded.ensures.bytes c.in_ok-encoded.ensures.held.0 c.in_ok-encoded.ensures.held.1).forest

pub returns-clause-tree : goal.returns-clause-tree
returns-clause-tree c = (whole _ _ _ _ c.args.self.now.low c.as_slice.ensures.value c.requires.forest c.in_ok-encoded.ensures.bytes c.in_ok-encoded.ensures.held.0 c.in_ok-encoded.ensures.held.1).tree

pub returns-clause-depth : goal.returns-clause-depth
returns-clause-depth c = rw c.as_slice.ensures.value at c.in_ok-encoded.ensures.depth
