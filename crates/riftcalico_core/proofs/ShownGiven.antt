-- A root that is a struct is read as that, with 63 levels, and what it is of the value.
use Rattle.std.proofs.Common.{◌≡◌, ℕ, Result, Ok, Err, ap, ◌∙◌}
use Rattle.capnp_device.specs.declared.error.ErrorKind.{ErrorKind}
use Rattle.capnp_wire.specs.Edits.{struct_in}
use Rattle.capnp_wire.specs.Place.{struct_tree}
use Rattle.capnp_wire.specs.Reading.{as_struct}
use Rattle.capnp_wire.specs.Tree.{StructTree, Tree}
use Rattle.capnp_schema.specs.Types.{SchemaType}
use Rattle.capnp_records.specs.Call.{ListSource, StructSource}
use Rattle.capnp_records.specs.Record.{Left}

abbrev there : StructTree → Result StructTree ErrorKind
there s = Ok s

module _ (x u : Tree) (n : ℕ) (tree : u ≡ x) (levels : n ≡ 64) (root : x ≡ struct_tree (struct_in x)) where
  root_there : as_struct u n ≡ there (struct_in x)
  root_there = ap (λ (y : Tree). as_struct y n) (tree ∙ root) ∙ ap (as_struct (struct_tree (struct_in x))) levels

  pub never_refused : (kind : ErrorKind) → Err kind ≡ as_struct u n → ⊥
  never_refused kind h = no_both (h ∙ root_there)
    where
      no_both : {k : ErrorKind} {s : StructTree} → Err k ≡ there s → ⊥
      no_both e = cc

  pub root_is : (s : StructTree) → Ok s ≡ as_struct u n → s ≡ struct_in x
  root_is s h = one_struct (h ∙ root_there)
    where
      one_struct : {a b : StructTree} → there a ≡ there b → a ≡ b
      one_struct e = cc

pub struct_source : (l l' b b' : ℕ) (s s' : StructTree) → l ≡ l' → s ≡ s' → b ≡ b' → StructSource (Left l) s b ≡ StructSource (Left l') s' b'
struct_source l l' b b' s s' levels is brand = ap (λ (n : ℕ). StructSource (Left n) s b) levels ∙ (ap (λ (x : StructTree). StructSource (Left l') x b) is ∙ ap (StructSource (Left l') s') brand)

pub list_source : (l l' : ℕ) (x x' : Tree) (e e' : SchemaType) → l ≡ l' → x ≡ x' → e ≡ e' → ListSource (Left l) x e ≡ ListSource (Left l') x' e'
list_source l l' x x' e e' levels is element = ap (λ (n : ℕ). ListSource (Left n) x e) levels ∙ (ap (λ (y : Tree). ListSource (Left l') y e) is ∙ ap (ListSource (Left l') x') element)
