-- A refusal of a part is one of the whole.
use Rattle.std.proofs.Common.{ℕ, ◌≡◌, ◌<◌, List, [], ◌∷◌, ◌++◌, zero, suc, All, map, length, get_or, subst, sym, arith, Result, Ok, Err, IfErr}
use Rattle.std.proofs.lemmas.List.Elements.{All-cons, All-head, All-nil, All-tail}
use Rattle.capnp_device.specs.declared.error.Error.{Error}
use Rattle.capnp_device.specs.declared.error.ErrorKind.{ErrorKind}
use Rattle.capnp_device.specs.declared.error.ErrorKind.TheVariants as error
use Rattle.capnp_joined_sets.specs.Refusals.{IsMoveKind, IsMoveRefusal}

-- what is refused for a part is refused for what fits only where the part fits
pub of_whole : (P Q : Type 0) (k : ErrorKind) → (Q → P) → IsMoveKind P k → IsMoveKind Q k
of_whole P Q error.OutOfMemory parts h = h
of_whole P Q error.TooManyTypes parts h = λ q. h (parts q)
of_whole P Q k parts h = h

pub err_of_whole : {X : Type 0} (P Q : Type 0) (r : Result X Error) → (Q → P) → IfErr r (IsMoveRefusal P) → IfErr r (IsMoveRefusal Q)
err_of_whole P Q (Ok x) parts h = tt
err_of_whole P Q (Err e) parts h = of_whole P Q e.kind parts h

-- an element of a list
pub of_each : {X Y Z : Type 0} (P : Z → Type 0) (f : Y → Z) (g : X → Y) (xs : List X) (i : ℕ) (x : X) → i < length xs → x ≡ get_or xs i x → All P (map f (map g xs)) → P (f (g x))
of_each P f g [] i x below is all = absurd (omega arith)
of_each P f g (y ∷ ys) zero x below is all = subst (λ z. P (f (g z))) (sym is) (All-head P (f (g y)) (map f (map g ys)) all)
of_each P f g (y ∷ ys) (suc i) x below is all = of_each P f g ys i x (omega arith) is (All-tail P (f (g y)) (map f (map g ys)) all)

-- the first and the second of two lists
pub of_first : {X : Type 0} (P : X → Type 0) (xs ys : List X) → All P (xs ++ ys) → All P xs
of_first P [] ys all = All-nil P
of_first P (x ∷ xs) ys all = All-cons P x xs (All-head P x (xs ++ ys) all) (of_first P xs ys (All-tail P x (xs ++ ys) all))

pub of_second : {X : Type 0} (P : X → Type 0) (xs ys : List X) → All P (xs ++ ys) → All P ys
of_second P [] ys all = all
of_second P (x ∷ xs) ys all = of_second P xs ys (All-tail P x (xs ++ ys) all)
