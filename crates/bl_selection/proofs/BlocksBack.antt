-- A block that is written spells its head, and its payload is read at its place.
use Rattle.std.proofs.Common.{◌≡◌, ℕ, ◌+◌, ◌^◌, ◌<◌, false, List, ◌++◌, length, take, drop, refl, sym, ap, ◌∙◌, append_assoc, arith}
use Rattle.std.specs.Prelude.{codes}
use Rattle.std.specs.Str.{bytes_eq}
use Rattle.std.proofs.lemmas.List.{take_at, drop_at, drop-drop, length-append}
use Rattle.bl_num.specs.Numbers.{pointer_bytes}
use Rattle.bl_format.specs.declared.file.Header.{Header}
use Rattle.bl_format.specs.declared.file.Head.{Head}
use Rattle.bl_format.specs.Blocks.{head_size, head_written, code_meant, code_written, IsCount, IsSpelling}
use Rattle.bl_format.specs.Nodes.{payload}
use Rattle.bl_format.proofs.StepBack.{code_written_back}
use Rattle.bl_format.proofs.FileBack.{length-spelling}
use Rattle.bl_selection.specs.Written.{block_written}

-- the head as which a written block reads at a place
abbrev pub block_head : List ℕ → ℕ → ℕ → ℕ → ℕ → ℕ → Head
block_head code len address index count at = record {
  code = code;
  len = len;
  address = address;
  index = index;
  count = count;
  at = at;
}

-- a head that can be written: its code reads back and isn't that of the end, and its numbers fit
pub record HeadCanStand (h : Header) (x : Head) : Type 0 where
  pub code_len : length x.code ≡ 4
  pub code : code_meant x.code ≡ x.code
  pub no_end : bytes_eq x.code (codes "ENDB") ≡ false
  pub len : IsCount x.len
  pub address : x.address < 256 ^ pointer_bytes h.width
  pub index : IsCount x.index
  pub count : IsCount x.count

module _ (h : Header) (code : List ℕ) (address index count : ℕ) (bytes : List ℕ) (at : ℕ) where
  -- a block that is written spells its head
  pub spells_block : HeadCanStand h (block_head code (length bytes) address index count at)
      → IsSpelling h (block_head code (length bytes) address index count at) (block_written h code address index count bytes)
  unfolding head_written
  spells_block can =
      let written = code_written_back h.order code can.code_len can.code in
      record {
        code = code_written h.order code;
        payload = bytes;
        code_len = written.length;
        no_end = written.no_end can.no_end;
        means = written.meant;
        len = can.len;
        address = can.address;
        index = can.index;
        count = can.count;
        payload_len = refl;
        text_is = refl;
      }

  -- where it stands in a file, its payload is the one that was written
  pub payload_of_block : HeadCanStand h (block_head code (length bytes) address index count at)
      → (b rest : List ℕ) → drop at b ≡ block_written h code address index count bytes ++ rest
      → payload h b (block_head code (length bytes) address index count at) ≡ bytes
  payload_of_block can b rest stands =
      let head : List ℕ = head_written h (block_head code (length bytes) address index count 0) in
      let whole = length-spelling h (block_head code (length bytes) address index count at) (head ++ bytes) (spells_block can) in
      let long : length head ≡ head_size h = omega (arith, whole, length-append head bytes) in
      let behind : drop (at + head_size h) b ≡ bytes ++ rest = sym (drop-drop (head_size h) at b) ∙ ap (drop (head_size h)) (stands ∙ simp append_assoc) ∙ drop_at head (bytes ++ rest) (head_size h) long in
      ap (take (length bytes)) behind ∙ take_at bytes rest (length bytes) refl
