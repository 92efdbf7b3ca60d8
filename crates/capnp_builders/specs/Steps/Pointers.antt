-- What stands at an untyped pointer that is built: steps of the code.
use Rattle.std.specs.Prelude.{[]}
use Rattle.std.specs.Borrow.{Fml, Lends, MutBor}
use mir.Syntax.{named}
use Rattle.capnp_arena.specs.declared.arena.Arena.{Arena}
use Rattle.capnp_arena.specs.contracts.arena.Arena.{the_row as arena_row}
use Rattle.capnp_builders.specs.declared.any_pointer.Builder.{Builder}
use Rattle.capnp_builders.specs.contracts.any_pointer.Builder.{the_row as builder_row}

-- a builder that is lent for a shorter time ends as itself, with the message as it was left
abbrev pub untyped_with : Builder → Arena → Builder
untyped_with b a = record b { arena = record b.arena { now = a } }

abbrev pub LendsPointer : MutBor Builder → MutBor Arena → Fml
LendsPointer b a = Lends (builder_row (record { mir = named 0; lft = [] })) arena_row b a (untyped_with b.now)
