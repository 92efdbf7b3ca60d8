-- an iterator over a list that answers its items by their indices
use Rattle.std.specs.Prelude.{ℕ, ◌≡◌, List}
use Rattle.capnp_base.specs.Taking.{indices}
use Rattle.capnp_base.specs.declared.traits.iterators.IndexIter.{IndexIter}

-- the list that answers its items
unfoldable pub source : {T I U : Type 0} {g h : _} → IndexIter T I U g h → T
source s = s.list

-- the indices still to come
unfoldable pub to_come : {T I U : Type 0} {g h : _} → IndexIter T I U g h → List ℕ
to_come s = indices s.index s.size

-- all items of a list are still to come, of which there are so many
abbrev pub GoesOverAll : {T I U : Type 0} {g h : _} → T → ℕ → IndexIter T I U g h → Type 0
GoesOverAll list count items = (source items ≡ list) × (to_come items ≡ indices 0 count)
