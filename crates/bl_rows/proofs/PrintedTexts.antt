-- The texts that the commands print.
use Rattle.std.proofs.Common.{◌≡◌, [], ◌∷◌, ◌++◌, refl}
use Rattle.std.specs.Prelude.{flat_map, map, codes, negsuc}
use Rattle.std.specs.Fmt.{digits}
use Rattle.bl_num.specs.declared.number.Width.TheVariants.{Four, Eight}
use Rattle.bl_commands.specs.declared.report.Row.{Row}
use Rattle.bl_commands.specs.declared.report.Value.TheVariants.{Whole, Bits, Bytes, Chars}
use Rattle.bl_format.specs.declared.file.HeadFault.TheVariants.{BadMark}
use Rattle.bl_format.specs.Graph.{graph}
use Rattle.bl_selection.specs.Fate.{fate_of}
use Rattle.bl_commands.specs.declared.ending.Ending.TheVariants.{NoCommand, Absent, BadFile, Missing, FloatCast, PastLimit}
use Rattle.bl_commands.specs.declared.ending.FileFault.TheVariants.{Overrun}
use Rattle.bl_commands.specs.declared.ending.Lack.TheVariants.{MissingDatablock, NotStruct}
use Rattle.bl_commands.specs.declared.ending.Quantity.TheVariants.{BlockBytes}
use Rattle.bl_commands.specs.Texts.{shown_bytes, shown_code, value_text, summary_line, row_text, plain_form, tab_form, fault_line, head_ending}
use Rattle.bl_answers.specs.Schema.{struct_line, member_line_by, struct_lines}
use Rattle.bl_answers.specs.Fates.{common_struct_line, fate_line_by, fate_lines}
use Rattle.bl_answers.specs.ListIds.{list_text}
use Rattle.bl_answers.specs.Dump.{node_rows, graph_rows, dump_text}
use Rattle.bl_rows.proofs.Evaluation.{leaves, graphs, linking}
use Rattle.bl_rows.proofs.Literals.{hex, lines}
use Rattle.bl_rows.proofs.Example.{example_8, example_4, one_object, three_objects, with_changes}

-- ---- what schema, fates, list and dump print

-- struct `Object` at either width
schema_lines : struct_lines example_8 Eight 3 ++ struct_lines example_4 Four 3 ≡ lines
    (codes "struct 3 Object 136" ∷ codes "  0 104 ID id" ∷ codes "  104 8 Object *parent"
    ∷ codes "  112 8 Mesh *data" ∷ codes "  120 12 float loc[3]" ∷ codes "  132 2 short type"
    ∷ codes "  134 2 char _pad[2]" ∷ codes "struct 3 Object 112" ∷ codes "  0 88 ID id"
    ∷ codes "  88 4 Object *parent" ∷ codes "  92 4 Mesh *data" ∷ codes "  96 12 float loc[3]"
    ∷ codes "  108 2 short type" ∷ codes "  110 2 char _pad[2]" ∷ [])
unfolding leaves struct_line member_line_by digits
schema_lines = refl

-- struct `ID`, with a shorter name, a `short` in place of an `int`, and a new pointer
lines_of_fates : fate_lines example_8 Eight with_changes Eight 1 ≡ lines
    (codes "struct ID" ∷ codes "  *next kept" ∷ codes "  *prev kept" ∷ codes "  *newid kept"
    ∷ codes "  *lib kept" ∷ codes "  name[24] cut" ∷ codes "  flag kept" ∷ codes "  us cast"
    ∷ codes "  *orig_id fresh" ∷ [])
unfolding leaves fate_of common_struct_line fate_line_by digits
lines_of_fates = refl

listed : list_text example_8 (graph three_objects) ≡ lines
    (codes "#0 OB \"OBo0\" Object users 1" ∷ codes "#1 ME \"MEm0\" Mesh users 1"
    ∷ codes "#3 OB \"OBo1\" Object users 1" ∷ codes "#4 ME \"MEm1\" Mesh users 1"
    ∷ codes "#6 OB \"OBo2\" Object users 0" ∷ codes "#7 ME \"MEm2\" Mesh users 1" ∷ [])
unfolding graphs linking list_text digits
listed = refl

dumped : dump_text plain_form example_8 Eight (graph one_object) ≡ lines
    (codes "#0 OB Object[0] id.next = null" ∷ codes "#0 OB Object[0] id.prev = null"
    ∷ codes "#0 OB Object[0] id.newid = null" ∷ codes "#0 OB Object[0] id.lib = null"
    ∷ codes "#0 OB Object[0] id.name = \"OBo0\"" ∷ codes "#0 OB Object[0] id.flag = 0"
    ∷ codes "#0 OB Object[0] id.us = 0" ∷ codes "#0 OB Object[0] parent = null"
    ∷ codes "#0 OB Object[0] data = #1" ∷ codes "#0 OB Object[0] loc[0] = 0x00000000"
    ∷ codes "#0 OB Object[0] loc[1] = 0x00000000" ∷ codes "#0 OB Object[0] loc[2] = 0x00000000"
    ∷ codes "#0 OB Object[0] type = 1" ∷ codes "#0 OB Object[0] _pad = \"\""
    ∷ codes "#1 ME Mesh[0] id.next = null" ∷ codes "#1 ME Mesh[0] id.prev = null"
    ∷ codes "#1 ME Mesh[0] id.newid = null" ∷ codes "#1 ME Mesh[0] id.lib = null"
    ∷ codes "#1 ME Mesh[0] id.name = \"MEm0\"" ∷ codes "#1 ME Mesh[0] id.flag = 0"
    ∷ codes "#1 ME Mesh[0] id.us = 1" ∷ codes "#1 ME Mesh[0] index = #2"
    ∷ codes "#1 ME Mesh[0] co = null" ∷ codes "#1 ME Mesh[0] users = null"
    ∷ codes "#1 ME Mesh[0] extra = null" ∷ codes "#1 ME Mesh[0] totindex = 3"
    ∷ codes "#1 ME Mesh[0] totco = 0" ∷ codes "#2 DATA raw[0] [0] = 0x000041c6"
    ∷ codes "#2 DATA raw[0] [1] = 0x000041c7" ∷ codes "#2 DATA raw[0] [2] = 0x000041c8" ∷ [])
unfolding graphs dump_text graph_rows node_rows row_text value_text digits
dumped = refl

-- the last of these rows
abbrev a_row : Row
a_row = record {
  node = 2;
  code = codes "DATA";
  struct_name = codes "raw";
  element = 0;
  path = codes "[2]";
  value = Bits 4 16840;
}

rows_by_form : row_text plain_form a_row ∷ row_text tab_form a_row ∷ []
    ≡ codes "#2 DATA raw[0] [2] = 0x000041c8\n" ∷ codes "2\tDATA\traw\t0\t[2]\t0x000041c8\n" ∷ []
unfolding row_text value_text digits
rows_by_form = refl

-- ---- shown bytes and values

bytes_shown : shown_bytes (hex "4f00225c7e7f201fc3") ∷ shown_code (hex "00410000") ∷ []
    ≡ codes "O\\x00\\x22\\x5c~\\x7f \\x1f\\xc3" ∷ codes "\\x00A" ∷ []
bytes_shown = refl

values_shown : map value_text (Whole (negsuc 127) ∷ Bits 8 255 ∷ Bytes (hex "00ab") ∷ Chars (codes "a b")
    ∷ [])
    ≡ codes "-128" ∷ codes "0x00000000000000ff" ∷ codes "00ab" ∷ codes "\"a b\"" ∷ []
unfolding value_text digits
values_shown = refl

-- ---- other lines

summary : summary_line 9 1540 ≡ codes "blocks 9 bytes 1540\n"
unfolding summary_line digits
summary = refl

fault_lines : flat_map fault_line (NoCommand ∷ Absent (codes "b.blend")
    ∷ head_ending (codes "a") (BadMark 7) ∷ BadFile (codes "a") (Overrun (codes "Object") (codes "_pad[2]"))
    ∷ Missing (MissingDatablock (codes "OBRig") (codes "b.blend")) ∷ Missing (NotStruct 11)
    ∷ FloatCast (codes "Mesh") (codes "totco") ∷ PastLimit BlockBytes 2621400000 ∷ [])
    ≡ lines (codes "usage" ∷ codes "absent b.blend" ∷ codes "bad file a: BadMark 7"
    ∷ codes "bad file a: Overrun Object _pad[2]" ∷ codes "missing MissingDatablock OBRig in b.blend"
    ∷ codes "missing NotStruct 11" ∷ codes "float cast Mesh.totco" ∷ codes "limit block bytes 2621400000"
    ∷ [])
unfolding fault_line digits
fault_lines = refl
