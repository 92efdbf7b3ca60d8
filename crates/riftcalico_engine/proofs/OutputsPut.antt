-- An output was written, or a beginning of it.
use Rattle.std.specs.Prelude.{⊤}
use Rattle.std.proofs.Common.{◌≡◌, ◌≢◌, ◌⊎◌, ◌<◌, ℕ, suc, List, Option, Result, Ok, Err, IfErr, OnErr, OnOk, inl, inr, refl, string_bytes, subst, sym}
use Rattle.std.specs.Io.KnownBytes.{Appends}
use Rattle.capnp_arena.specs.Message.{message_tree}
use Rattle.capnp_device.specs.Device.{HasFailed}
use Rattle.capnp_device.specs.declared.error.Error.{Error}
use Rattle.capnp_device.specs.declared.error.ErrorKind.TheVariants.{OutOfMemory, WriteFailed}
use Rattle.capnp_wire.specs.Encoding.{message_of}
use Rattle.capnp_wire.specs.Locate.{words_past_format}
use Rattle.capnp_wire.specs.Message.{IsCutShort, IsReadAs, IsWritten}
use Rattle.capnp_patch.specs.Patches.{IsBeginning, IsMessageOf}
use Rattle.capnp_wire.specs.Tree.{Tree}
use Rattle.capnp_wire.specs.WellFormed.{IsWellFormed}
use Rattle.capnp_wire.specs.Words.{words_of}
use Rattle.riftcalico_core.specs.declared.answer.Output.{Output}
use Rattle.riftcalico_core.specs.declared.answer.Output.TheVariants as output
use Rattle.riftcalico_engine.proofs.ByKind.{by_write}
use Rattle.riftcalico_engine.specs.Outputs.{IsNotPut, IsOutputCut, IsOutputPut, IsPartPut}

by_device : {K A B R : Type 0} → (K × (A × B)) ⊎ R → (K × A × B) ⊎ R
by_device (inl x) = inl (x.0, x.1.0, x.1.1)
by_device (inr y) = inr y

module _ {W : Type 0} (written : W → Option (List ℕ)) (writes : W → ℕ) where
  abbrev Whole : Output → W → W → Type 0
  Whole o w w' = IsOutputPut o (w' ≡ w) (written w) (written w')

  -- it was written, or the sink failed in the midst of it, or there was no memory for it
  abbrev pub IsPutOrNot : Output → (w w' : W) → Result ⊤ Error → Type 0
  IsPutOrNot o w w' (Ok x) = Whole o w w'
  IsPutOrNot o w w' (Err e) = IsNotPut o (w' ≡ w) (written w) (written w') (writes w) (writes w') e.kind

  -- where branches join
  pub joined : (o : Output) (w mid w' : W) (r r' : Result ⊤ Error) → w' ≡ mid → r' ≡ r → IsPutOrNot o w mid r → IsPutOrNot o w w' r'
  joined o w mid w' r r' e e' put =
      subst (λ (x : W). IsPutOrNot o w x r') (sym e) (subst (λ (x : Result ⊤ Error). IsPutOrNot o w mid x) (sym e') put)

  pub nothing_put : (o : Output) (w : W) (x : ⊤) → o ≡ output.Nothing → IsPutOrNot o w w (Ok x)
  nothing_put o w x e = subst (λ (y : Output). Whole y w w) (sym e) refl

  bytes_written : (o : Output) (bytes : List ℕ) (w w' : W) (r : Result ⊤ Error) → (Appends (written w) (written w') bytes → Whole o w w')
      → (IsPartPut bytes (written w) (written w') → IsOutputCut o (written w) (written w'))
      → OnOk r (Appends (written w) (written w') bytes) → IfErr r (λ e. e.kind ≡ WriteFailed) → OnErr r (HasFailed (writes w) (writes w'))
      → OnErr r (IsPartPut bytes (written w) (written w')) → IsPutOrNot o w w' r
  bytes_written o bytes w w' (Ok x) all part whole kind failed cut = all whole
  bytes_written o bytes w w' (Err e) all part whole kind failed cut = inl (kind, failed, part cut)

  -- these are the bytes of an output that is one of bytes
  abbrev pub IsOfBytes : Output → (bytes : List ℕ) → Type 0
  IsOfBytes (output.Fixed text) bytes = bytes ≡ text.now
  IsOfBytes (output.Text text) bytes = bytes ≡ string_bytes text
  IsOfBytes (output.Bytes v) bytes = bytes ≡ v.items
  IsOfBytes output.Nothing bytes = ⊥
  IsOfBytes (output.Message m) bytes = ⊥

  all_put : (o : Output) (bytes : List ℕ) (w w' : W) → IsOfBytes o bytes → Appends (written w) (written w') bytes → Whole o w w'
  all_put (output.Fixed text) bytes w w' e h = subst (λ (b : List ℕ). Appends (written w) (written w') b) e h
  all_put (output.Text text) bytes w w' e h = subst (λ (b : List ℕ). Appends (written w) (written w') b) e h
  all_put (output.Bytes v) bytes w w' e h = subst (λ (b : List ℕ). Appends (written w) (written w') b) e h
  all_put output.Nothing bytes w w' e h = absurd e
  all_put (output.Message m) bytes w w' e h = absurd e

  part_put : (o : Output) (bytes : List ℕ) (w w' : W) → IsOfBytes o bytes → IsPartPut bytes (written w) (written w') → IsOutputCut o (written w) (written w')
  part_put (output.Fixed text) bytes w w' e h = subst (λ (b : List ℕ). IsPartPut b (written w) (written w')) e h
  part_put (output.Text text) bytes w w' e h = subst (λ (b : List ℕ). IsPartPut b (written w) (written w')) e h
  part_put (output.Bytes v) bytes w w' e h = subst (λ (b : List ℕ). IsPartPut b (written w) (written w')) e h
  part_put output.Nothing bytes w w' e h = absurd e
  part_put (output.Message m) bytes w w' e h = absurd e

  pub bytes_put : (o like : Output) (bytes : List ℕ) (w w' : W) (r : Result ⊤ Error) → o ≡ like → IsOfBytes like bytes
      → OnOk r (Appends (written w) (written w') bytes) → IfErr r (λ e. e.kind ≡ WriteFailed) → OnErr r (HasFailed (writes w) (writes w'))
      → OnErr r (IsPartPut bytes (written w) (written w')) → IsPutOrNot o w w' r
  bytes_put o like bytes w w' r e is whole kind failed cut =
      subst (λ (y : Output). IsPutOrNot y w w' r) (sym e) (bytes_written like bytes w w' r (all_put like bytes w w' is) (part_put like bytes w w' is) whole kind failed cut)

  -- this is the tree of an output that is a message
  abbrev pub IsOfTree : Output → Tree → Type 0
  IsOfTree (output.Message m) t = t ≡ message_tree m
  IsOfTree output.Nothing t = ⊥
  IsOfTree (output.Fixed text) t = ⊥
  IsOfTree (output.Text text) t = ⊥
  IsOfTree (output.Bytes v) t = ⊥

  tree_put : (o : Output) (t : Tree) (w w' : W) → IsOfTree o t → Appends (written w) (written w') (message_of t) → IsMessageOf t (message_of t) → Whole o w w'
  tree_put (output.Message m) t w w' e h is = (message_of t, subst (λ (x : Tree). IsMessageOf x (message_of t)) e is, h)
  tree_put output.Nothing t w w' e h is = absurd e
  tree_put (output.Fixed text) t w w' e h is = absurd e
  tree_put (output.Text text) t w w' e h is = absurd e
  tree_put (output.Bytes v) t w w' e h is = absurd e

  tree_cut : (o : Output) (t : Tree) (w w' : W) → IsOfTree o t → IsBeginning t (written w) (written w') → IsOutputCut o (written w) (written w')
  tree_cut (output.Message m) t w w' e h = subst (λ (x : Tree). IsBeginning x (written w) (written w')) e h
  tree_cut output.Nothing t w w' e h = absurd e
  tree_cut (output.Fixed text) t w w' e h = absurd e
  tree_cut (output.Text text) t w w' e h = absurd e
  tree_cut (output.Bytes v) t w w' e h = absurd e

  pub message_put : (o : Output) (t : Tree) (w w' : W) (r : Result ⊤ Error) → IsOfTree o t → OnOk r (IsWritten t (written w) (written w'))
      → OnOk r (IsWellFormed t × (suc (words_of t) < words_past_format)) → OnOk r (IsReadAs t (message_of t))
      → IfErr r (λ e. e.kind ≢ OutOfMemory → e.kind ≡ WriteFailed) → IfErr r (λ e. e.kind ≢ WriteFailed → w' ≡ w)
      → IfErr r (λ e. e.kind ≡ WriteFailed → HasFailed (writes w) (writes w')) → IfErr r (λ e. e.kind ≡ WriteFailed → IsCutShort t (written w) (written w'))
      → IsPutOrNot o w w' r
  message_put o t w w' (Ok x) is whole fits read kind nothing failed cut =
      tree_put o t w w' is whole (record { fits = fits.1; encoding = refl; read_back = read })
  message_put o t w w' (Err e) is whole fits read kind nothing failed cut =
      by_device (by_write {A = HasFailed (writes w) (writes w') × IsOutputCut o (written w) (written w')} {B = w' ≡ w} e.kind kind (λ k. (failed k, tree_cut o t w w' is (cut k))) nothing)
