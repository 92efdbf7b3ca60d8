-- The name of a list's type, in pieces.
use Rattle.std.proofs.Common.{ℕ, zero, suc, Bool, List, [], ◌∷◌, ◌++◌, codes, ◌≡◌, ◌∙◌, ap, append_assoc, refl, sym, Result, Ok, Err, OnOk}
use Rattle.capnp_device.specs.declared.error.Error.{Error}
use Rattle.capnp_base.specs.Types.{base_of, list_depth}
use Rattle.capnp_base.specs.declared.introspect.«Type».{«Type» as TypeHandle}
use Rattle.capnp_schema.specs.Schema.{Schemas}
use Rattle.capnp_schema.specs.Types.{SchemaType, lists_of, seen_base, seen_type}
use Rattle.capnp_structs.specs.Fields.{type_text}
use Rattle.capnp_structs.specs.Steps.Fields.{repeated_words}

nothing_behind : (xs : List ℕ) → xs ++ [] ≡ xs
nothing_behind [] = refl
nothing_behind (x ∷ xs) = ap (λ ys. x ∷ ys) (nothing_behind xs)

-- one more in front is one more behind
repeated_behind : (n : ℕ) (piece : List ℕ) → repeated_words n piece ++ piece ≡ piece ++ repeated_words n piece
repeated_behind zero piece = sym (nothing_behind piece)
repeated_behind (suc n) piece = append_assoc piece (repeated_words n piece) piece ∙ ap (λ xs. piece ++ xs) (repeated_behind n piece)

-- what opens the lists, what stands inside, and what closes them
lists_text : (q : Bool) (set : Schemas) (n : ℕ) (t : SchemaType) → (repeated_words n (codes "List(") ++ type_text q set t) ++ repeated_words n (codes ")") ≡ type_text q set (lists_of n t)
lists_text q set zero t = nothing_behind (type_text q set t)
lists_text q set (suc n) t =
    ap (λ xs. xs ++ (codes ")" ++ repeated_words n (codes ")"))) (append_assoc (codes "List(") (repeated_words n (codes "List(")) (type_text q set t))
    ∙ (append_assoc (codes "List(") (repeated_words n (codes "List(") ++ type_text q set t) (codes ")" ++ repeated_words n (codes ")"))
    ∙ ap (λ xs. codes "List(" ++ xs)
    (ap (λ xs. (repeated_words n (codes "List(") ++ type_text q set t) ++ xs) (sym (repeated_behind n (codes ")")))
    ∙ (sym (append_assoc (repeated_words n (codes "List(") ++ type_text q set t) (repeated_words n (codes ")")) (codes ")"))
    ∙ ap (λ xs. xs ++ codes ")") (lists_text q set n t))))

type_whole : (q : Bool) (set : Schemas) (t : TypeHandle) (old mid mid' new : List ℕ) → mid ≡ old ++ repeated_words (list_depth t) (codes "List(") → mid' ≡ mid ++ type_text q set (seen_base (base_of t)) →
    new ≡ mid' ++ repeated_words (list_depth t) (codes ")") → new ≡ old ++ type_text q set (seen_type t)
type_whole q set t old mid mid' new first then last =
    let n = list_depth t in
    let inner = type_text q set (seen_base (base_of t)) in
    last
    ∙ (ap (λ xs. xs ++ repeated_words n (codes ")")) (then ∙ (ap (λ xs. xs ++ inner) first ∙ append_assoc old (repeated_words n (codes "List(")) inner))
    ∙ (append_assoc old (repeated_words n (codes "List(") ++ inner) (repeated_words n (codes ")")) ∙ ap (λ xs. old ++ xs) (lists_text q set n (seen_base (base_of t)))))

pub type_put : {A : Type 0} (r : Result A Error) (q : Bool) (set : Schemas) (t : TypeHandle) (old mid mid' new : List ℕ) → mid ≡ old ++ repeated_words (list_depth t) (codes "List(") → mid' ≡ mid ++ type_text q set (seen_base (base_of t)) →
    OnOk r (new ≡ mid' ++ repeated_words (list_depth t) (codes ")")) → OnOk r (new ≡ old ++ type_text q set (seen_type t))
type_put (Ok a) q set t old mid mid' new first then last = type_whole q set t old mid mid' new first then last
type_put (Err e) q set t old mid mid' new first then last = tt
