-- Structs by their places, where a call was refused.
use Rattle.std.proofs.Common.{Err, Ok, OnErr, Result, ◌≡◌, ap}
use Rattle.capnp_arena.specs.Built.{built_at}
use Rattle.capnp_arena.specs.Forest.{struct_from}
use Rattle.capnp_arena.specs.Segment.{segment}
use Rattle.capnp_arena.specs.declared.arena.Arena.{Arena}
use Rattle.capnp_arena.specs.declared.arena.Place.{Place}

-- where a call is refused the struct is as it was
pub same_struct : {A E : Type 0} (p : Place) (a b : Arena) (r : Result A E) → OnErr r (segment b ≡ segment a) → OnErr r (built_at b p ≡ built_at a p)
same_struct p a b (Ok x) e = e
same_struct p a b (Err x) e = ap (λ s. struct_from s p.start p.data_words p.pointers) e
