-- Worked rows: what texts say, with places, and the places of what can't stand.
use Rattle.std.proofs.Common.{◌≡◌, [], ◌∷◌, Ok, refl, codes, map}
use Rattle.capnp_value_texts.specs.Errors.{refused}
use Rattle.capnp_value_texts.specs.Written.{Fields, Items, Leaf, NoPart, Part, parts_within, written, written_within}
use Rattle.capnp_value_texts.specs.declared.error.RefusalKind.TheVariants.{CannotStand, TooDeep}

leaf : written (codes " a(=b\n") ≡ Ok (Leaf 1 (codes "a(=b"))
unfolding written_within parts_within
leaf = refl

in_quotes : map written (codes "\"a, \\\") b\"" ∷ codes "0x\"00 ff\"" ∷ codes "\"\\\\\"" ∷ codes "\"open" ∷ [])
    ≡ Ok (Leaf 0 (codes "\"a, \\\") b\"")) ∷ Ok (Leaf 0 (codes "0x\"00 ff\"")) ∷ Ok (Leaf 0 (codes "\"\\\\\"")) ∷ Ok (Leaf 0 (codes "\"open")) ∷ []
unfolding written_within parts_within
in_quotes = refl

nothing_held : map written (codes "()" ∷ codes "( \n)" ∷ codes "[]" ∷ codes " [ ] " ∷ [])
    ≡ Ok (Fields 0 NoPart) ∷ Ok (Fields 0 NoPart) ∷ Ok (Items 0 NoPart) ∷ Ok (Items 1 NoPart) ∷ []
unfolding written_within parts_within
nothing_held = refl

held : written (codes "( a = [1, \"x, )\"],b=() )")
    ≡ Ok (Fields 0 (Part 2 (codes "a") (Items 6 (Part 7 [] (Leaf 7 (codes "1")) (Part 10 [] (Leaf 10 (codes "\"x, )\"")) NoPart))) (Part 18 (codes "b") (Fields 20 NoPart) NoPart)))
unfolding written_within parts_within
held = refl

cannot_stand : map written (codes "" ∷ codes "  " ∷ codes "a b" ∷ codes "a," ∷ codes ")" ∷ codes "<opaque pointer>" ∷ [])
    ≡ refused CannotStand 0 ∷ refused CannotStand 2 ∷ refused CannotStand 2 ∷ refused CannotStand 1 ∷ refused CannotStand 0 ∷ refused CannotStand 0 ∷ []
unfolding written_within parts_within
cannot_stand = refl

fields_end : map written (codes "(" ∷ codes "(a" ∷ codes "(a =" ∷ codes "(a = 1" ∷ codes "(a = 1,)" ∷ codes "(a = 1 b" ∷ codes "(a 1)" ∷ codes "(= 1)" ∷ codes "(a = )" ∷ codes "(a = 1]" ∷ codes "(a = 1))" ∷ [])
    ≡ refused CannotStand 1 ∷ refused CannotStand 2 ∷ refused CannotStand 4 ∷ refused CannotStand 6 ∷ refused CannotStand 7 ∷ refused CannotStand 7 ∷ refused CannotStand 3 ∷ refused CannotStand 1
    ∷ refused CannotStand 5 ∷ refused CannotStand 6 ∷ refused CannotStand 7 ∷ []
unfolding written_within parts_within
fields_end = refl

items_end : map written (codes "[" ∷ codes "[1" ∷ codes "[1," ∷ codes "[1,]" ∷ codes "[,1]" ∷ codes "[1 2]" ∷ codes "[1)" ∷ codes "[\"a]" ∷ [])
    ≡ refused CannotStand 1 ∷ refused CannotStand 2 ∷ refused CannotStand 3 ∷ refused CannotStand 3 ∷ refused CannotStand 1 ∷ refused CannotStand 3 ∷ refused CannotStand 2 ∷ refused CannotStand 4 ∷ []
unfolding written_within parts_within
items_end = refl

-- a bracket within two others, where two may stand in one another
too_deep : map (written_within 2 7) (codes "[(a=1)]" ∷ codes "[(a=[])" ∷ []) ≡ Ok (Items 0 (Part 1 [] (Fields 1 (Part 2 (codes "a") (Leaf 4 (codes "1")) NoPart)) NoPart), []) ∷ refused TooDeep 4 ∷ []
unfolding written_within parts_within
too_deep = refl
