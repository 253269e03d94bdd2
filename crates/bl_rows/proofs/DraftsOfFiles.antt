-- Which drafts are well-formed, and what is written of made nodes.
use Rattle.std.proofs.Common.{◌≡◌, ℕ, List, [], ◌∷◌, ◌++◌, Bool, true, false, refl}
use Rattle.std.specs.Prelude.{map, codes}
use Rattle.bl_format.specs.declared.raw.RawKind.{RawKind}
use Rattle.bl_format.specs.declared.raw.RawKind.TheVariants.{Bytes, Numbers, Pointers}
use Rattle.bl_selection.specs.declared.draft.Draft.{Draft}
use Rattle.bl_selection.specs.declared.draft.Entry.TheVariants as entries
use Rattle.bl_selection.specs.declared.draft.Made.{Made}
use Rattle.bl_selection.specs.declared.draft.MadeValue.{MadeValue}
use Rattle.bl_selection.specs.declared.draft.MadeTo.{MadeTo}
use Rattle.bl_selection.specs.declared.draft.MadeTo.TheVariants as to
use Rattle.bl_selection.specs.declared.draft.Override.{Override}
use Rattle.bl_format.specs.Words.{zeros}
use Rattle.bl_format.specs.Graph.{Node, Struct, Raw}
use Rattle.bl_selection.specs.Selection.{selection_graph, whole_selection, draft_of}
use Rattle.bl_selection.specs.Written.{written_form}
use Rattle.bl_selection.specs.Drafts.{is_well_formed}
use Rattle.bl_linking.specs.Append.{merge_of, source, appended_draft}
use Rattle.bl_linking.specs.Link.{linked_draft}
use Rattle.bl_linking.specs.Resolve.{OpenFile, resolved_draft}
use Rattle.bl_rows.proofs.Evaluation.{selecting, writing, drafts, merging}
use Rattle.bl_rows.proofs.Literals.{hex, code, header_4, header_4_big}
use Rattle.bl_rows.proofs.SmallFiles.{small, arrays, into, lib, ring_a, ring_b, ring_c}
use Rattle.bl_rows.proofs.OddFiles.{headless, wide_lib}

-- ---- the drafts of the commands are well-formed

whole_file : is_well_formed (wide_lib ∷ []) (whole_selection wide_lib (header_4 405) small) ≡ true
unfolding drafts
whole_file = refl

of_append : is_well_formed (into ∷ lib
    ∷ []) (appended_draft (merge_of (source into) (source lib) (codes "OBa" ∷ [])))
    ≡ true
unfolding merging drafts
of_append = refl

-- to a library that is there, and to a made one
of_link : map (λ path. is_well_formed (into ∷ []) (linked_draft (source into) path (codes "OBn"
    ∷ codes "OBz" ∷ []))) (codes "p" ∷ codes "new/q" ∷ [])
    ≡ true ∷ true ∷ []
unfolding merging drafts
of_link = refl

abbrev ring : List OpenFile
ring = record { name = codes "a"; at = source ring_a } ∷ record { name = codes "c"; at = source ring_c }
    ∷ record { name = codes "b"; at = source ring_b } ∷ []

of_resolve : is_well_formed (map (λ (o : OpenFile). o.at.file) ring) (resolved_draft ring) ≡ true
unfolding merging drafts
of_resolve = refl

-- ---- others aren't

-- some nodes of a file of eight nodes, with their images
abbrev chosen : List ℕ → List ℕ → Bool
chosen nodes images = is_well_formed (headless
    ∷ []) (draft_of (header_4 405) small (map (entries.Source 0) nodes) (images ∷ []))

-- the group without a head alone; a group that isn't whole; that group not in front; a node that isn't its
-- own image
whole_groups : chosen (0 ∷ []) (1 ∷ 0 ∷ 0 ∷ 0 ∷ 0 ∷ 0 ∷ 0 ∷ 0 ∷ []) ∷ chosen (0 ∷ 1 ∷ []) (1 ∷ 2 ∷ 0 ∷ 0 ∷ 0
    ∷ 0 ∷ 0 ∷ 0 ∷ []) ∷ chosen (1 ∷ 2 ∷ 0 ∷ []) (3 ∷ 1 ∷ 2 ∷ 0 ∷ 0 ∷ 0 ∷ 0 ∷ 0 ∷ []) ∷ chosen (0 ∷ []) (0
    ∷ 0 ∷ 0 ∷ 0 ∷ 0 ∷ 0 ∷ 0 ∷ 0 ∷ []) ∷ []
    ≡ true ∷ false ∷ false ∷ false ∷ []
unfolding drafts
whole_groups = refl

-- ---- made nodes and overrides

abbrev given : ℕ → ℕ → MadeTo → MadeValue
given leaf element value = record { leaf = leaf; element = element; value = value }

-- a mesh named `MEn` with 70000 in `us`, which names the raw node behind it
abbrev made_mesh : Made
made_mesh = record {
  code = code "ME";
  s = 4;
  values = given 4 0 (to.Number 77) ∷ given 4 1 (to.Number 69) ∷ given 4 2 (to.Number 110)
      ∷ given 6 0 (to.Number 70000) ∷ given 7 0 (to.Node 5) ∷ [];
}

abbrev override : ℕ → ℕ → MadeTo → Override
override leaf element value = record { entry = 0; part = 0; leaf = leaf; element = element; value = value }

-- the mesh of `arrays` with its three raw nodes and two pointers, its `us` and a byte of its name
-- overridden; and the made mesh with a made raw node
abbrev draft : Draft
draft = record {
  header = header_4_big 300;
  catalogue = small;
  entries = map (entries.Source 0) (0 ∷ 1 ∷ 2 ∷ 3 ∷ []) ++ entries.Made made_mesh
      ∷ entries.Raw (codes "DATA") (hex "0100000002") ∷ [];
  images = (1 ∷ 2 ∷ 3 ∷ 4 ∷ []) ∷ [];
  overrides = override 8 0 (to.Node 3) ∷ override 9 0 (to.Node 1) ∷ override 6 0 (to.Number 4294967294)
      ∷ override 4 1 (to.Number 66) ∷ [];
}

made_draft : is_well_formed (arrays ∷ []) draft ≡ true
unfolding drafts
made_draft = refl

abbrev kind_of : Node → RawKind
kind_of (Struct code name group es) = Bytes
kind_of (Raw code group n kind contents) = kind

-- kinds go by the pointers as they are overridden
made_kinds : map kind_of (selection_graph (arrays ∷ []) draft)
    ≡ Bytes ∷ Bytes ∷ Numbers 4 ∷ Pointers ∷ Bytes ∷ Numbers 4 ∷ []
unfolding selecting
made_kinds = refl

-- the file that is to be written
abbrev made_bytes : List ℕ
made_bytes =
    codes "BLENDER_V300"
    ++ hex "00004d4500000032000000100000000400000001"
    ++ zeros 16 ++ hex "4d4261" ++ zeros 15 ++ hex "fffffffe000000300000004000000020"
    ++ hex "444154410000000e000000200000000000000001"
    ++ hex "1000000000000000100000000400"
    ++ hex "4441544100000009000000300000000000000001"
    ++ hex "0000000100000002ff"
    ++ hex "4441544100000004000000400000000000000001"
    ++ hex "00000000"
    ++ hex "00004d4500000032000000500000000400000001"
    ++ zeros 16 ++ hex "4d456e" ++ zeros 16 ++ hex "011170000000600000000000000000"
    ++ hex "4441544100000005000000600000000000000001"
    ++ hex "0100000002"
    ++ hex "444e413100000158000000000000000000000001"
    ++ hex "53444e414e414d450000000d2a6e657874002a70726576002a6e65776964002a6c6962006e616d655b31365d"
    ++ hex "00666c6167007573006964002a706172656e74002a64617461002a696e646578002a2a7573657273002a6578"
    ++ hex "747261005459504500000012636861720075636861720073686f7274007573686f727400696e74006c6f6e67"
    ++ hex "00756c6f6e6700666c6f617400646f75626c6500696e7436345f740075696e7436345f7400766f696400696e"
    ++ hex "74385f74005a65726f004944004c696272617279004f626a656374004d65736800000000544c454e00010001"
    ++ hex "00020002000400040004000400080008000800000001000000260036002e00325354524300000005000d0000"
    ++ hex "000e0007000b0000000b0001000e0002000f0003000000040002000500040006000f0002000e000700000004"
    ++ hex "00100003000e0007001000080011000900110004000e00070004000a0010000b000b000c"
    ++ codes "ENDB" ++ zeros 16

made_written : written_form draft.header small (selection_graph (arrays ∷ []) draft) ≡ made_bytes
unfolding selecting writing
made_written = refl
