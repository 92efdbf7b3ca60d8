-- Entries that move one after another where they stand.
use Rattle.std.proofs.Common.{ℕ, zero, suc, ◌≡◌, ◌<◌, ◌≤◌, refl, List, [], ◌∷◌, All, map, length, get_or, set, arith, ap, subst}
use Rattle.std.proofs.lemmas.List.Elements.{All-head, All-tail}

-- a list of which the first so many have moved
abbrev pub moved_to : {Y : Type 0} → (Y → Y) → ℕ → List Y → List Y
moved_to move zero ys = ys
moved_to move (suc i) [] = []
moved_to move (suc i) (y ∷ ys) = move y ∷ moved_to move i ys

-- once they all have
pub all_moved : {Y : Type 0} (move : Y → Y) (i : ℕ) (ys : List Y) → length ys ≤ i → moved_to move i ys ≡ map move ys
all_moved move zero [] le = refl
all_moved move zero (y ∷ ys) le = absurd (omega arith)
all_moved move (suc i) [] le = refl
all_moved move (suc i) (y ∷ ys) le = ap (λ zs. move y ∷ zs) (all_moved move i ys (omega arith))

-- one more
pub one_more : {X Y : Type 0} (seen : X → Y) (move : Y → Y) (i : ℕ) (now : List X) (ys : List Y) (v d : X)
    → i < length now → map seen now ≡ moved_to move i ys → seen v ≡ move (seen (get_or now i d)) → map seen (set now i v) ≡ moved_to move (suc i) ys
one_more seen move i [] ys v d below h e = absurd (omega arith)
one_more seen move zero (n ∷ ns) [] v d below h e = cc
one_more seen move zero (n ∷ ns) (y ∷ ys) v d below h e = cc
one_more seen move (suc i) (n ∷ ns) [] v d below h e = cc
one_more seen move (suc i) (n ∷ ns) (y ∷ ys) v d below h e =
    let less : map seen ns ≡ moved_to move i ys = cc in
    let rest = one_more seen move i ns ys v d (omega arith) less e in cc

-- what fits of all of them, moved, does so of the next one
pub next_fits : {X Y : Type 0} (P : Y → Type 0) (seen : X → Y) (move : Y → Y) (i : ℕ) (now : List X) (ys : List Y) (d : X)
    → i < length now → map seen now ≡ moved_to move i ys → All P (map move ys) → P (move (seen (get_or now i d)))
next_fits P seen move i [] ys d below h all = absurd (omega arith)
next_fits P seen move zero (n ∷ ns) [] d below h all = cc
next_fits P seen move zero (n ∷ ns) (y ∷ ys) d below h all =
    let same : y ≡ seen n = cc in subst (λ z. P (move z)) same (All-head P (move y) (map move ys) all)
next_fits P seen move (suc i) (n ∷ ns) [] d below h all = cc
next_fits P seen move (suc i) (n ∷ ns) (y ∷ ys) d below h all =
    let less : map seen ns ≡ moved_to move i ys = cc in next_fits P seen move i ns ys d (omega arith) less (All-tail P (move y) (map move ys) all)
