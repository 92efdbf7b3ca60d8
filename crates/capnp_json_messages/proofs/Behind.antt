-- What stands behind an item is shorter.
use Rattle.std.proofs.Common.{ℕ, ◌≡◌, ◌<◌, ◌≤◌, List, Option, None, Some, length, arith, sym}
use Rattle.capnp_json_text.specs.Values.{following_item, most_items}
use Rattle.capnp_from_json.proofs.Shorter.{following_shorter}

pub fewer_behind : (at : Option (List ℕ)) (bs : List ℕ) → at ≡ following_item bs → most_items at ≤ length bs
fewer_behind None bs e = omega arith
fewer_behind (Some more) bs e = let shorter : length more < length bs = following_shorter bs more (sym e) in omega (arith, shorter)
