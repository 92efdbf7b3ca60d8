-- What is read of a text, as the definitions have it: steps of the code.
use Rattle.std.specs.Prelude.{ℕ, List, Bool, map}
use Rattle.std.specs.Borrow.{Bor}
use Rattle.std.specs.declared.alloc.Global.{Global}
use Rattle.std.specs.declared.vec.Vec.{Vec}
use Rattle.capnp_value_texts.specs.Seen.{parts_of, shown_view}
use Rattle.capnp_value_texts.specs.Written.{Name, OnePart, Parts, Written}
use Rattle.capnp_value_texts.specs.declared.parts.Name.{Name as NameRead}
use Rattle.capnp_value_texts.specs.declared.shown.OnePart.{OnePart as PartRead}
use Rattle.capnp_value_texts.specs.declared.shown.Shown.{Shown}

abbrev pub name_seen : NameRead → Name
name_seen n = (n.place, n.bytes.now)

abbrev pub parts_view : List (NameRead × Shown) → Parts
parts_view ps = parts_of (map (λ p. (p.0, shown_view p.1)) ps)

-- ---- with what is left ----

abbrev pub name_read : NameRead × Bor (List ℕ) → Name × List ℕ
name_read r = (name_seen r.0, r.1.now)

abbrev pub rest_read : Bool × Bor (List ℕ) → Bool × List ℕ
rest_read r = (r.0, r.1.now)

abbrev pub written_read : Shown × Bor (List ℕ) → Written × List ℕ
written_read r = (shown_view r.0, r.1.now)

abbrev pub parts_read : Vec (NameRead × Shown) Global × Bor (List ℕ) → Parts × List ℕ
parts_read r = (parts_view r.0.items, r.1.now)

abbrev pub part_read : PartRead → OnePart × List ℕ
part_read r = (((name_seen r.part.0, shown_view r.part.1), r.goes_on), r.rest.now)
