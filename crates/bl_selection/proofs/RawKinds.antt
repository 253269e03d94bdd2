-- The kind of a raw node is the same after it was written, and numbers of a kind have bytes.
use Rattle.std.proofs.Common.{◌≡◌, ℕ, suc, ◌≤◌, Bool, true, false, cond, All, List, ◌++◌, length, drop, refl, ap, ◌∙◌, arith}
use Rattle.std.specs.Prelude.{nat_le}
use Rattle.std.specs.List.{enumerate_from}
use Rattle.std.proofs.lemmas.Bool.{leb-true}
use Rattle.std.proofs.lemmas.List.{length-append, length-drop}
use Rattle.bl_num.specs.declared.number.Form.{Form}
use Rattle.bl_num.specs.Numbers.{bytes_of, number_of}
use Rattle.bl_num.proofs.BytesOf.{length-bytes_of}
use Rattle.bl_format.specs.declared.file.Header.{Header}
use Rattle.bl_format.specs.declared.raw.RawKind.{RawKind}
use Rattle.bl_format.specs.declared.raw.RawKind.TheVariants as raw
use Rattle.bl_format.specs.declared.raw.View.{View}
use Rattle.bl_format.specs.Nodes.{File, is_pair_code, viewed_kind, pair_length, raw_kind}
use Rattle.bl_format.specs.Graph.{Target, Naming, views_of, contents_by}
use Rattle.bl_format.proofs.KindsSaid.{All-flat_map, cells_say, raw_kind-such}
use Rattle.bl_selection.specs.declared.draft.Draft.{Draft}
use Rattle.bl_selection.specs.declared.draft.Entry.{Entry}
use Rattle.bl_selection.specs.Selection.{entry_cells, entry_views, selection_views}
use Rattle.bl_selection.specs.Written.{contents_written}
use Rattle.bl_selection.proofs.ContentsFit.{HasBytes}

-- ---- the kinds of raw entries

module _ (P : RawKind → Type 0) (bytes : P raw.Bytes) (numbers : (n : ℕ) → P (raw.Numbers (suc (suc n)))) (pointers : P raw.Pointers) where
  views_such : (files : List File) (d : Draft) → All (λ (v : View). P v.kind) (selection_views files d)
  unfolding selection_views
  views_such files d =
      let IsSuch : View → Type 0 = λ v. P v.kind in
      All-flat_map IsSuch (λ (p : ℕ × Entry). entry_views files d p.0 p.1) (enumerate_from 0 d.entries)
      (λ p. All-flat_map IsSuch (views_of d.catalogue) (entry_cells files d p.0 p.1) (cells_say P bytes numbers pointers d.catalogue))

  -- what is so of all kinds that pointers may say, and of a pair that is long enough, is so of the kind of an entry
  pub entry_kind-such : (files : List File) (d : Draft) (code : List ℕ) (len n : ℕ) → (nat_le pair_length len ≡ true → P raw.Pair)
      → P (raw_kind (selection_views files d) code len n)
  entry_kind-such files d code len n pair =
      raw_kind-such P bytes numbers pointers (selection_views files d) code len n (views_such files d) pair

-- the numbers of a raw entry have bytes
pub raw_kind-bytes : (files : List File) (d : Draft) (code : List ℕ) (len n : ℕ) → HasBytes (raw_kind (selection_views files d) code len n)
raw_kind-bytes files d code len n = entry_kind-such HasBytes tt (λ k. omega arith) tt files d code len n (λ long. tt)

-- a payload of so many bytes can be of a kind
abbrev pub HasRoomFor : ℕ → RawKind → Type 0
HasRoomFor len raw.Bytes = Unit {0}
HasRoomFor len (raw.Numbers n) = Unit {0}
HasRoomFor len raw.Pointers = Unit {0}
HasRoomFor len raw.Pair = pair_length ≤ len

-- the kind of a raw entry is one of which its payload can be
pub raw_kind-room : (files : List File) (d : Draft) (code : List ℕ) (len n : ℕ) → HasRoomFor len (raw_kind (selection_views files d) code len n)
raw_kind-room files d code len n =
    entry_kind-such (HasRoomFor len) tt (λ k. tt) tt files d code len n (λ long. leb-true pair_length len long)

-- ---- the kind again

module _ (h : Header) (names : Naming Target) (form : Form) (bytes : List ℕ) where
  -- how long contents are that are read as a kind and written again
  abbrev pub again : RawKind → ℕ
  again kind = length (contents_written h kind (contents_by kind names form bytes))

  bytes_again : again raw.Bytes ≡ length bytes
  unfolding contents_written contents_by
  bytes_again = refl

  -- a pair that is long enough is as long as it was
  pub pair_again : 8 ≤ length bytes → again raw.Pair ≡ length bytes
  unfolding contents_written contents_by
  pair_again enough =
      let a : List ℕ = bytes_of h.order 4 (number_of form.order 4 bytes) in
      let b : List ℕ = bytes_of h.order 4 (number_of form.order 4 (drop 4 bytes)) in
      omega (arith, enough, length-append (a ++ b) (drop 8 bytes), length-append a b, length-bytes_of h.order 4 (number_of form.order 4 bytes), length-bytes_of h.order 4 (number_of form.order 4 (drop 4 bytes)), length-drop 8 bytes)

  -- a raw node that is written again has the same kind
  pub raw_kind-again : (views : List View) (code : List ℕ) (n : ℕ)
      → raw_kind views code (again (raw_kind views code (length bytes) n)) n ≡ raw_kind views code (length bytes) n
  unfolding raw_kind
  raw_kind-again views code n = by_code (is_pair_code code)
    where
      by_length : (b : Bool) → nat_le 8 (length bytes) ≡ b
          → cond (nat_le 8 (again (cond b raw.Pair raw.Bytes))) raw.Pair raw.Bytes ≡ cond b raw.Pair raw.Bytes
      by_length true is =
          let same : again raw.Pair ≡ length bytes = pair_again (leb-true 8 (length bytes) is) in
          ap (λ (k : ℕ). cond (nat_le 8 k) raw.Pair raw.Bytes) same ∙ ap (λ (b : Bool). cond b raw.Pair raw.Bytes) is
      by_length false is =
          ap (λ (k : ℕ). cond (nat_le 8 k) raw.Pair raw.Bytes) bytes_again ∙ ap (λ (b : Bool). cond b raw.Pair raw.Bytes) is

      by_code : (pair : Bool)
          → cond pair (cond (nat_le 8 (again (cond pair (cond (nat_le 8 (length bytes)) raw.Pair raw.Bytes) (viewed_kind views n)))) raw.Pair raw.Bytes) (viewed_kind views n)
          ≡ cond pair (cond (nat_le 8 (length bytes)) raw.Pair raw.Bytes) (viewed_kind views n)
      by_code true = by_length (nat_le 8 (length bytes)) refl
      by_code false = refl
