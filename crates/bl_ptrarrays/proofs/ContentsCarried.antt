-- What is written of a raw block's contents, where they are carried from one form to another.
use Rattle.std.proofs.Common.{◌≡◌, ℕ, ◌*◌, ◌/◌, ◌<◌, All, List, ◌++◌, length, drop, refl, sym, ap, ◌∙◌}
use Rattle.std.specs.Prelude.{map}
use Rattle.std.proofs.lemmas.List.Folds.{flat_map-map}
use Rattle.bl_num.specs.declared.number.Form.{Form}
use Rattle.bl_num.specs.Numbers.{number_of, bytes_of, pointer_bytes}
use Rattle.bl_format.specs.declared.file.Header.{Header}
use Rattle.bl_format.specs.declared.raw.RawKind.{RawKind}
use Rattle.bl_format.specs.declared.raw.RawKind.TheVariants as raw
use Rattle.bl_format.specs.Words.{numbers_below}
use Rattle.bl_format.specs.Graph.{Target, Naming, Contents, IsBytes, IsNumbers, IsPointers, IsPair, contents_by, form_of}
use Rattle.bl_selection.specs.Written.{address_of, contents_written}
use Rattle.bl_ptrarrays.specs.Pieces.{piece, pieces_by}
use Rattle.bl_ptrarrays.specs.Carried.{IsKept, header_with, numbers_carried, pair_carried, pointers_carried}
use Rattle.bl_ptrarrays.proofs.NumbersCarried.{numbers-same, pair-same}

-- ---- by kind

module _ (h : Header) (names : Naming Target) (from : Form) (bytes : List ℕ) where
  -- what is written of bytes that are read as a kind
  abbrev pub carried : RawKind → List ℕ
  carried kind = contents_written h kind (contents_by kind names from bytes)

  pub carried-bytes : carried raw.Bytes ≡ bytes
  unfolding contents_written contents_by
  carried-bytes = refl

  pub carried-numbers : (n : ℕ) → carried (raw.Numbers n) ≡ numbers_carried n from.order h.order bytes
  unfolding contents_written contents_by pieces_by
  carried-numbers n =
      let below : List ℕ = numbers_below (length bytes / n) in
      ap (λ (ys : List ℕ). ys ++ drop (length bytes / n * n) bytes)
      (flat_map-map (bytes_of h.order n) (number_of from.order n) (map (piece n bytes) below)
      ∙ flat_map-map (λ (p : List ℕ). bytes_of h.order n (number_of from.order n p)) (piece n bytes) below)

  pub carried-pointers : carried raw.Pointers ≡ pointers_carried names from (form_of h) bytes
  unfolding contents_written contents_by pieces_by
  carried-pointers =
      let w : ℕ = pointer_bytes from.width in
      let below : List ℕ = numbers_below (length bytes / w) in
      flat_map-map (λ o. bytes_of h.order (pointer_bytes h.width) (address_of o)) (λ (p : List ℕ). names (number_of from.order w p)) (map (piece w bytes) below)
      ∙ flat_map-map (λ (p : List ℕ). bytes_of h.order (pointer_bytes h.width) (address_of (names (number_of from.order w p)))) (piece w bytes) below

  pub carried-pair : carried raw.Pair ≡ pair_carried from.order h.order bytes
  unfolding contents_written contents_by
  carried-pair = refl

-- ---- the laws

-- what is written of contents doesn't look at the version of a header
pub contents_written-form : (h : Header) (kind : RawKind) (x : Contents)
    → contents_written h kind x ≡ contents_written (header_with (form_of h)) kind x
unfolding contents_written
contents_written-form h kind (IsBytes bytes) = refl
contents_written-form h raw.Bytes (IsNumbers patterns rest) = refl
contents_written-form h (raw.Numbers n) (IsNumbers patterns rest) = refl
contents_written-form h raw.Pointers (IsNumbers patterns rest) = refl
contents_written-form h raw.Pair (IsNumbers patterns rest) = refl
contents_written-form h kind (IsPointers to) = refl
contents_written-form h kind (IsPair first second rest) = refl

-- a payload without pointers is written in its own form as it was read
pub contents_kept : (h : Header) (kind : RawKind) (names : Naming Target) (bytes : List ℕ)
    → IsKept kind (length bytes) → All (λ b. b < 256) bytes
    → contents_written h kind (contents_by kind names (form_of h) bytes) ≡ bytes
contents_kept h raw.Bytes names bytes kept all = carried-bytes h names (form_of h) bytes
contents_kept h (raw.Numbers n) names bytes kept all =
    carried-numbers h names (form_of h) bytes n ∙ sym (numbers-same bytes all n h.order)
contents_kept h raw.Pointers names bytes kept all = absurd kept
contents_kept h raw.Pair names bytes kept all =
    carried-pair h names (form_of h) bytes ∙ pair-same bytes all h.order kept
