-- The active member of a node, by the number at the discriminant's place. A field that is no member stands behind the members.
use Rattle.std.proofs.Common.{ℕ, ◌+◌, ◌<◌, ◌≤◌, ◌≡◌, ◌∙◌, zero, suc, arith, ap, refl, sym, Bool, true, false, ◌==◌, cond, Option, Some, None}
use Rattle.std.proofs.lemmas.Bool.{eqb-true}
use Rattle.capnp_wire.specs.Standing.{struct_levels, struct_of}
use Rattle.capnp_wire.specs.declared.struct_reader.StructReader.{StructReader}
use Rattle.capnp_schema.specs.Schema.{field_at, fields_of}
use Rattle.capnp_schema.specs.SlotValue.{bits_at}
use Rattle.capnp_records.specs.Part.{which_of}
use Rattle.capnp_records.specs.Reading.{non_union_parts, part_of, values_of}
use Rattle.capnp_records.specs.Record.{Active, Left, Parts, Union, Unknown, Value, Values}
use Rattle.capnp_known.specs.Known.{record_in}
use Rattle.capnp_request.specs.RequestSet.{request_set}

-- the first of six that is so
abbrev first_of : (a b c d e f : Bool) → Option ℕ
first_of a b c d e f = cond a (Some 5) (cond b (Some 6) (cond c (Some 7) (cond d (Some 8) (cond e (Some 9) (cond f (Some 10) None)))))

abbrev member_by : ℕ → Option ℕ
member_by n = first_of (0 == n) (1 == n) (2 == n) (3 == n) (4 == n) (5 == n)

abbrev union_of : (part : ℕ → Value) → ℕ → (a b c d e f : Bool) → Union
union_of part n a b c d e f = elim a as (λ _. Union) [
  | true ↦ Active 5 (part 5)
  | false ↦ elim b as (λ _. Union) [
    | true ↦ Active 6 (part 6)
    | false ↦ elim c as (λ _. Union) [
      | true ↦ Active 7 (part 7)
      | false ↦ elim d as (λ _. Union) [
        | true ↦ Active 8 (part 8)
        | false ↦ elim e as (λ _. Union) [
          | true ↦ Active 9 (part 9)
          | false ↦ elim f as (λ _. Union) [ true ↦ Active 10 (part 10) | false ↦ Unknown n ]
        ]
      ]
    ]
  ]
]

six_of : (vs : Values) (part : ℕ → Value) (n : ℕ) (a b c d e f : Bool) → which_of (Parts vs (union_of part n a b c d e f)) ≡ first_of a b c d e f
six_of vs part n true b c d e f = refl
six_of vs part n false true c d e f = refl
six_of vs part n false false true d e f = refl
six_of vs part n false false false true e f = refl
six_of vs part n false false false false true f = refl
six_of vs part n false false false false false true = refl
six_of vs part n false false false false false false = refl

number_here : (n : ℕ) → n < 6 → Some (5 + n) ≡ member_by n
number_here zero h = refl
number_here (suc zero) h = refl
number_here (suc (suc zero)) h = refl
number_here (suc (suc (suc zero))) h = refl
number_here (suc (suc (suc (suc zero)))) h = refl
number_here (suc (suc (suc (suc (suc zero))))) h = refl
number_here (suc (suc (suc (suc (suc (suc n)))))) h = absurd (omega (arith, h))

differs : (k n : ℕ) → k < n → (k == n) ≡ false
differs k n h = go (k == n) refl
  where
    go : (q : Bool) → (k == n) ≡ q → (k == n) ≡ false
    go true e = absurd (omega (arith, eqb-true k n e, h))
    go false e = e

none_of : (a b c d e f : Bool) → a ≡ false → b ≡ false → c ≡ false → d ≡ false → e ≡ false → f ≡ false → None ≡ first_of a b c d e f
none_of true b c d e f p q r s t u = cc
none_of false true c d e f p q r s t u = cc
none_of false false true d e f p q r s t u = cc
none_of false false false true e f p q r s t u = cc
none_of false false false false true f p q r s t u = cc
none_of false false false false false true p q r s t u = cc
none_of false false false false false false p q r s t u = refl

number_past : (n : ℕ) → 6 ≤ n → None ≡ member_by n
number_past n h =
    none_of (0 == n) (1 == n) (2 == n) (3 == n) (4 == n) (5 == n) (differs 0 n (omega (arith, h))) (differs 1 n (omega (arith, h))) (differs 2 n (omega (arith, h)))
    (differs 3 n (omega (arith, h))) (differs 4 n (omega (arith, h))) (differs 5 n (omega (arith, h)))

module _ (x : StructReader) (number : ℕ) (e : number ≡ bits_at (struct_of x).bytes 96 16) where
  abbrev part_in : ℕ → Value
  part_in i = part_of request_set (Left (struct_levels x)) (struct_of x).bytes (values_of request_set (struct_of x).pointers) (field_at request_set 2 i)

  abbrev plain_in : Values
  plain_in = non_union_parts (part_of request_set (Left (struct_levels x)) (struct_of x).bytes (values_of request_set (struct_of x).pointers)) (fields_of request_set 2)

  member_seen : which_of (record_in request_set 2 x) ≡ member_by number
  member_seen =
      let n : ℕ = bits_at (struct_of x).bytes 96 16 in
      six_of plain_in part_in n (0 == n) (1 == n) (2 == n) (3 == n) (4 == n) (5 == n) ∙ ap member_by (sym e)

  pub node_member_here : number < 6 → Some (5 + number) ≡ which_of (record_in request_set 2 x)
  node_member_here h = number_here number h ∙ sym member_seen

  pub node_member_past : 6 ≤ number → None ≡ which_of (record_in request_set 2 x)
  node_member_past h = number_past number h ∙ sym member_seen
