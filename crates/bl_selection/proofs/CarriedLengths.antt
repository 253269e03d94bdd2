-- How long a source's node is where it is carried over: its payload has the bytes that its head, its kind and the output's
-- catalogue and form give.
use Rattle.std.proofs.Common.{◌≡◌, ◌≢◌, ℕ, ◌+◌, ◌*◌, ◌/◌, Bool, true, false, cond, All, List, ◌++◌, length, get_or, drop, None, refl, sym, ap, subst, ◌∙◌, arith}
use Rattle.std.specs.Prelude.{◌==◌, map, flat_map}
use Rattle.std.proofs.Math.Nat.{div-mul-le_self}
use Rattle.std.proofs.lemmas.Bool.{eqb-false}
use Rattle.std.proofs.lemmas.List.{length-append, length-drop, length-map}
use Rattle.bl_num.specs.declared.number.Form.{Form}
use Rattle.bl_num.specs.Numbers.{pointer_bytes, number_of, bytes_of}
use Rattle.bl_num.proofs.BytesOf.{length-bytes_of}
use Rattle.bl_format.specs.declared.file.Header.{Header}
use Rattle.bl_format.specs.declared.file.Head.{Head}
use Rattle.bl_format.specs.declared.catalogue.Catalogue.{Catalogue}
use Rattle.bl_format.specs.declared.raw.RawKind.{RawKind}
use Rattle.bl_format.specs.declared.raw.RawKind.TheVariants as raw
use Rattle.bl_format.specs.Words.{numbers_below}
use Rattle.bl_format.specs.Blocks.{head_size, head_written, code_meant, code_written}
use Rattle.bl_format.specs.Layout.{struct_length, first_fault}
use Rattle.bl_format.specs.Nodes.{File, payload}
use Rattle.bl_format.specs.Graph.{Target, Naming, node_elements, pieces, contents_by, form_of, raw_length}
use Rattle.bl_format.proofs.StepBack.{code_written_back}
use Rattle.bl_selection.specs.Selection.{index_under}
use Rattle.bl_selection.specs.Written.{address_of, contents_written}
use Rattle.bl_selection.specs.Carried.{struct_form, carried_element, carried_elements, carried_contents, carried_payload, carried_length, carried_head, carried_block}
use Rattle.bl_selection.proofs.CarriedValues.{length-carried_element}
use Rattle.bl_selection.proofs.ElementsBack.{length-flat_map_even}
use Rattle.bl_selection.proofs.EntriesAsNodes.{length-numbers_below}
use Rattle.bl_selection.proofs.OwnFormLengths.{numbers_long}
use Rattle.bl_selection.proofs.RawKinds.{HasRoomFor, pair_again}
use Rattle.bl_selection.proofs.RebuiltStands.{NodeStands, payload_len, holds_elements}
use Rattle.bl_selection.proofs.SourcesFit.{HoldsElements, node_elements-long}

-- ---- raw contents

-- what bytes hold as a kind is as long in another form as the kind says
pub length-contents : (h : Header) (kind : RawKind) (names : Naming Target) (form : Form) (bytes : List ℕ) → HasRoomFor (length bytes) kind
    → length (contents_written h kind (contents_by kind names form bytes)) ≡ raw_length kind (length bytes) form.width h.width
unfolding contents_written contents_by
length-contents h raw.Bytes names form bytes room = refl
length-contents h (raw.Numbers n) names form bytes room =
    let patterns : List ℕ = map (number_of form.order n) (pieces n bytes) in
    let rest : List ℕ = drop (length bytes / n * n) bytes in
    omega (arith, div-mul-le_self (length bytes) n, numbers_long h.order n n (λ p. p) (number_of form.order n) bytes, length-append (flat_map (bytes_of h.order n) patterns) rest, length-drop (length bytes / n * n) bytes)
length-contents h raw.Pointers names form bytes room =
    let v : ℕ = pointer_bytes form.width in
    numbers_long h.order v (pointer_bytes h.width) address_of (λ p. names (number_of form.order v p)) bytes
length-contents h raw.Pair names form bytes room = pair_again h names form bytes room

-- ---- one node

-- a source's node is whole: its code reads back, its payload is there, and where it isn't raw it holds its elements
pub record IsWholeNode (f : File) (x : Head) : Type 0 where
  pub code_len : length x.code ≡ 4
  pub code : code_meant x.code ≡ x.code
  pub len : length (payload f.header f.bytes x) ≡ x.len
  pub holds : x.index ≢ 0 → HoldsElements f x

-- a node that stands in a file is whole
pub node-whole : (f : File) (x : Head) → NodeStands f x → IsWholeNode f x
node-whole f x own = record {
  code_len = own.block.code_len;
  code = own.block.code;
  len = payload_len f x own;
  holds = holds_elements f x own;
}

-- a head that can be written has its size
pub length-head_written : (h : Header) (x : Head) → length x.code ≡ 4 → code_meant x.code ≡ x.code → length (head_written h x) ≡ head_size h
unfolding head_written
length-head_written h x len meant =
    let code = code_written h.order x.code in
    let w = pointer_bytes h.width in
    let a = bytes_of h.order 4 x.len in
    let b = bytes_of h.order w x.address in
    let c = bytes_of h.order 4 x.index in
    let d = bytes_of h.order 4 x.count in
    omega (arith, (code_written_back h.order x.code len meant).length, length-append (((code ++ a) ++ b) ++ c) d, length-append ((code ++ a) ++ b) c, length-append (code ++ a) b, length-append code a, length-bytes_of h.order 4 x.len, length-bytes_of h.order w x.address, length-bytes_of h.order 4 x.index, length-bytes_of h.order 4 x.count)

module _ (names : Naming Target) (f : File) (h : Header) (c : Catalogue) (x : Head)
    (old : first_fault f.catalogue f.header.width ≡ None) (new : first_fault c h.width ≡ None) (whole : IsWholeNode f x) where
  -- the number of the struct in the output's catalogue
  abbrev t : ℕ
  t = index_under c f.catalogue x.index

  elements_long : HoldsElements f x → length (carried_elements names f h c x) ≡ x.count * struct_length c t
  elements_long holds =
      let size : ℕ = struct_length c t in
      let bytes : List (List ℕ) = node_elements f x in
      let carried : List ℕ → List ℕ = carried_element names (struct_form f.header.order f.catalogue f.header.width x.index) (struct_form h.order c h.width t) in
      let each : All (λ b. length (carried b) ≡ size) bytes =
      λ i d lt. length-carried_element names f.header.order h.order f.catalogue c f.header.width h.width x.index t (get_or bytes i d) old new (node_elements-long f x holds i d lt) in
      length-flat_map_even carried size bytes each
      ∙ ap (λ (k : ℕ). k * size) (length-map (numbers_below x.count) _ ∙ length-numbers_below x.count)

  -- a payload that is carried over has the bytes that the head and the kind give
  pub length-carried_payload : (kind : RawKind) → ((x.index == 0) ≡ true → HasRoomFor x.len kind)
      → length (carried_payload names f h c kind x) ≡ carried_length f h c kind x
  length-carried_payload kind room = by_index (x.index == 0) refl
    where
      by_index : (b : Bool) → (x.index == 0) ≡ b
          → length (cond b (carried_contents names f h kind x) (carried_elements names f h c x)) ≡ cond b (raw_length kind x.len f.header.width h.width) (x.count * struct_length c t)
      by_index true is =
          length-contents h kind names (form_of f.header) (payload f.header f.bytes x) (subst (λ (n : ℕ). HasRoomFor n kind) (sym whole.len) (room is))
          ∙ ap (λ (n : ℕ). raw_length kind n f.header.width h.width) whole.len
      by_index false is = elements_long (whole.holds (eqb-false x.index 0 is))

  -- and so has a block, behind its head
  pub length-carried_block : (e : ℕ) (kind : RawKind) → ((x.index == 0) ≡ true → HasRoomFor x.len kind)
      → length (carried_block names f h c e kind x) ≡ head_size h + carried_length f h c kind x
  length-carried_block e kind room =
      let bytes : List ℕ = carried_payload names f h c kind x in
      let head : Head = carried_head f c e x (length bytes) in
      omega (arith, length-append (head_written h head) bytes, length-head_written h head whole.code_len whole.code, length-carried_payload kind room)
