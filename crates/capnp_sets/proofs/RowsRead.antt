-- Reading a row of values one after another: what was read, and what is still to be read.
use Rattle.std.proofs.Common.{ℕ, ◌+◌, ◌-◌, ◌<◌, ◌≡◌, ◌∙◌, suc, arith, ap, refl, subst, sym, List, [], ◌∷◌, ◌++◌, append_assoc, append-nil, Ok, Err}
use Rattle.capnp_device.specs.declared.error.ErrorKind.{ErrorKind}
use Rattle.capnp_records.specs.Record.{Left, MoreValues, NoValues, Value, Values, values_from}
use Rattle.capnp_wire.specs.Standing.{list_levels, list_of}
use Rattle.capnp_wire.specs.declared.list_reader.ListReader.{ListReader}
use Rattle.capnp_schema.specs.Meta.{meta}
use Rattle.capnp_schema.specs.Schema.{VoidValue}
use Rattle.capnp_schema.specs.Types.{SchemaType}
use Rattle.capnp_records.specs.Default.{read_of}
use Rattle.capnp_records.specs.Facts.ListValues.{below_of}
use Rattle.capnp_records.specs.Reading.{element_value}
use Rattle.capnp_sets.specs.Causes.{HasCause, SetRead, ◌<*>◌}
use Rattle.capnp_sets.specs.Parts.{all_of}
use Rattle.capnp_sets.proofs.AppliedReads.{cause_left, cause_right}

-- what was read so far stands before what the rest stands for
abbrev pub before_rest : {A : Type 0} → List A → SetRead (List A) → SetRead (List A)
before_rest xs rest = Ok (λ ys. xs ++ ys) <*> rest

abbrev prepended : {A : Type 0} → SetRead A → SetRead (List A) → SetRead (List A)
prepended y rest = Ok (λ a others. a ∷ others) <*> y <*> rest

begin : {A : Type 0} (rest : SetRead (List A)) → rest ≡ before_rest [] rest
unfolding ◌<*>◌
begin (Ok ys) = refl
begin (Err causes) = refl

step : {A : Type 0} (xs : List A) (x : A) (rest : SetRead (List A)) → before_rest xs (prepended (Ok x) rest) ≡ before_rest (xs ++ x ∷ []) rest
unfolding ◌<*>◌
step xs x (Ok ys) = ap (λ zs. Ok zs) (sym (append_assoc xs (x ∷ []) ys))
step xs x (Err causes) = refl

end : {A : Type 0} (xs : List A) → before_rest xs (Ok []) ≡ Ok xs
unfolding ◌<*>◌
end xs = ap (λ zs. Ok zs) (append-nil xs)

pub none_left : {A : Type 0} (f : Value → SetRead A) → all_of f NoValues ≡ Ok []
unfolding all_of
none_left f = refl

one_more : {A : Type 0} (f : Value → SetRead A) (v : Value) (vs : Values) → all_of f (MoreValues v vs) ≡ prepended (f v) (all_of f vs)
unfolding all_of
one_more f v vs = refl

module _ {A : Type 0} (f : Value → SetRead A) (g : ℕ → Value) (n : ℕ) where
  -- what a row stands for, where some of it was read up to an index
  abbrev pub IsReadTo : SetRead (List A) → List A → ℕ → Type 0
  IsReadTo whole xs i = whole ≡ before_rest xs (all_of f (values_from g i (n - i)))

  pub read_none : IsReadTo (all_of f (values_from g 0 n)) [] 0
  read_none = begin _ ∙ ap (λ k. before_rest [] (all_of f (values_from g 0 k))) (omega arith)

  next : (i : ℕ) → i < n → values_from g i (n - i) ≡ MoreValues (g i) (values_from g (i + 1) (n - (i + 1)))
  next i inside =
      let count : n - i ≡ suc (n - (i + 1)) = omega (arith, inside) in
      let index : suc i ≡ i + 1 = omega arith in
      ap (values_from g i) count ∙ ap (λ j. MoreValues (g i) (values_from g j (n - (i + 1)))) index

  pub read_more : (whole : SetRead (List A)) (xs : List A) (x : A) (i : ℕ) → i < n → IsReadTo whole xs i → f (g i) ≡ Ok x → IsReadTo whole (xs ++ x ∷ []) (i + 1)
  read_more whole xs x i inside is here =
      let rest : SetRead (List A) = all_of f (values_from g (i + 1) (n - (i + 1))) in
      is ∙ (ap (λ vs. before_rest xs (all_of f vs)) (next i inside)
      ∙ (ap (before_rest xs) (one_more f _ _)
      ∙ (ap (λ y. before_rest xs (prepended y rest)) here ∙ step xs x rest)))

  pub read_all : (whole : SetRead (List A)) (xs : List A) (i : ℕ) → i ≡ n → IsReadTo whole xs i → whole ≡ Ok xs
  read_all whole xs i last is =
      let left : n - i ≡ 0 = omega (arith, last) in
      is ∙ (ap (λ k. before_rest xs (all_of f (values_from g i k))) left ∙ (ap (before_rest xs) (none_left f) ∙ end xs))

  pub read_stopped : (whole : SetRead (List A)) (xs : List A) (i : ℕ) (kind : ErrorKind) → i < n → IsReadTo whole xs i → HasCause (f (g i)) kind → HasCause whole kind
  read_stopped whole xs i kind inside is here =
      subst (λ z. HasCause z kind) (sym (is ∙ (ap (λ vs. before_rest xs (all_of f vs)) (next i inside) ∙ ap (before_rest xs) (one_more f _ _))))
      (cause_right _ _ kind (cause_left _ _ kind (cause_right _ _ kind here)))

-- an element in the value of a list
abbrev pub element_in : SchemaType → ListReader → ℕ → Value
element_in t l i = element_value meta (list_of l) (below_of meta (list_of l)) (Left (list_levels l)) t i

-- the read of an element
abbrev pub element_seen : SchemaType → ListReader → ℕ → Value
element_seen t l i = read_of meta VoidValue t (element_in t l i)
