-- What a list has more by its last element, and what is left without it.
use Rattle.std.proofs.Common.{ℕ, ◌+◌, ◌<◌, ◌≡◌, ◌∙◌, inl, inr, arith, ap, length, map, refl, slice_get, sym, List, [], ◌∷◌, ◌++◌, Some, None}
use Rattle.std.specs.List.{sum_by}
use Rattle.std.proofs.lemmas.List.Sums.{sum_by-cons, sum_by_push}
use Rattle.capnp_schema.specs.Schema.{seen_enum, seen_node}
use Rattle.capnp_schema.specs.declared.record.EnumRecord.{EnumRecord}
use Rattle.capnp_schema.specs.declared.record.NodeRecord.{NodeRecord}
use Rattle.capnp_request.specs.Sizes.{enum_bytes, node_bytes}
use Rattle.capnp_request.specs.Steps.Sizes.{HasGrown, bytes_of, enum_bytes_at, made_bytes, node_bytes_at}
use Rattle.capnp_request.specs.declared.conversion.Converted.{Converted}

-- a sum over what records are seen as
sum_seen : {A B : Type 0} (f : B → ℕ) (g : A → B) (xs : List A) → sum_by f (map g xs) ≡ sum_by (λ x. f (g x)) xs
sum_seen f g [] = refl
sum_seen f g (x ∷ xs) = sum_by-cons f (g x) (map g xs) ∙ (ap (λ n. f (g x) + n) (sum_seen f g xs) ∙ sym (sum_by-cons (λ y. f (g y)) x xs))

none_past : {A : Type 0} (xs : List A) → slice_get xs (length xs) ≡ None
none_past [] = refl
none_past (x ∷ xs) = none_past xs

last_there : {A : Type 0} (xs : List A) (y : A) → slice_get (xs ++ y ∷ []) (length xs) ≡ Some y
last_there [] y = refl
last_there (x ∷ xs) y = last_there xs y

grown_sum : {A : Type 0} (f : A → ℕ) (old new : List A) → HasGrown old new → sum_by f new ≡ sum_by f old + bytes_of f (slice_get new (length old))
grown_sum f old new (inl same) = let none : bytes_of f (slice_get new (length old)) ≡ 0 = ap (λ xs. bytes_of f (slice_get xs (length old))) same ∙ ap (bytes_of f) (none_past old) in
    omega (arith, none, ap (sum_by f) same)
grown_sum f old new (inr (one, e)) = let last : bytes_of f (slice_get new (length old)) ≡ f one = ap (λ xs. bytes_of f (slice_get xs (length old))) e ∙ ap (bytes_of f) (last_there old one) in
    omega (arith, last, ap (sum_by f) e, sum_by_push f old one)

-- what a step makes
step_bytes : (old new : Converted) → HasGrown old.nodes.items new.nodes.items → HasGrown old.enums.items new.enums.items →
    made_bytes new ≡ made_bytes old + (node_bytes_at new.nodes.items (length old.nodes.items) + enum_bytes_at new.enums.items (length old.enums.items))
step_bytes old new structs enums =
    omega (
      arith,
      sum_seen node_bytes seen_node old.nodes.items,
      sum_seen node_bytes seen_node new.nodes.items,
      sum_seen enum_bytes seen_enum old.enums.items,
      sum_seen enum_bytes seen_enum new.enums.items,
      grown_sum (λ (x : NodeRecord). node_bytes (seen_node x)) old.nodes.items new.nodes.items structs,
      grown_sum (λ (x : EnumRecord). enum_bytes (seen_enum x)) old.enums.items new.enums.items enums,
    )

module _ (old new : Converted) (n e : ℕ) (at : n ≡ length old.nodes.items) (at_enum : e ≡ length old.enums.items) (structs : HasGrown old.nodes.items new.nodes.items) (enums : HasGrown old.enums.items new.enums.items) where
  bytes_at : made_bytes new ≡ made_bytes old + (node_bytes_at new.nodes.items n + enum_bytes_at new.enums.items e)
  bytes_at = omega (arith, step_bytes old new structs enums, ap (node_bytes_at new.nodes.items) at, ap (enum_bytes_at new.enums.items) at_enum)

  pub left_after : (left rest : ℕ) → rest + (node_bytes_at new.nodes.items n + enum_bytes_at new.enums.items e) ≡ left → rest + made_bytes new ≡ left + made_bytes old
  left_after left rest h = omega (arith, bytes_at, h)

  pub more_than_left : (left : ℕ) → left < node_bytes_at new.nodes.items n + enum_bytes_at new.enums.items e → left + made_bytes old < made_bytes new
  more_than_left left h = omega (arith, bytes_at, h)
