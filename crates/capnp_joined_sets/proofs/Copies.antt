-- What has no numbers of entries stays as it is.
use Rattle.std.proofs.Common.{◌≡◌, List, map}
use Rattle.std.proofs.lemmas.List.{map-id}

pub same_entries : {X Y : Type 0} (g : X → Y) (xs : List X) → map (λ (y : Y). y) (map g xs) ≡ map g xs
same_entries g xs = map-id (map g xs)
