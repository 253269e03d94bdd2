-- Groups of definitions for the rows to unfold: a row is proved by computing both its sides, and names the
-- groups that it computes with.
use Rattle.std.specs.Prelude.{ℕ}
use Rattle.std.specs.Fmt.{digits}
use Rattle.bl_num.specs.Numbers.{number_meant, bits_of}
use Rattle.bl_format.specs.Words.{numbers_reached}
use Rattle.bl_format.specs.Blocks.{header_of, head_in, step_in, blocks_within, blocks_of, head_written, header_written}
use Rattle.bl_format.specs.Schema.{catalogue_of, tag_at, count_at, index_at, name_at, many_at, type_names_at, member_at, structs_at, catalogue_written}
use Rattle.bl_format.specs.Members.{member_name, extents}
use Rattle.bl_format.specs.Layout.{struct_named, name_of, basic_named, content_of, inner_struct, element_size, member_size, member_offset, kind_of, member_leaves, leaves_within, named_leaves, member_fault, first_fault, nesting_within, nesting, depth_fault, leaves_below, leaves_fault, layout_fault}
use Rattle.bl_format.specs.Rewidth.{tail_of, length_within, rewidth}
use Rattle.bl_format.specs.Nodes.{has_id_part, is_id, marks, target_of, view_of, raw_kind}
use Rattle.bl_format.specs.Graph.{leaf_value, cells, contents_by, node_cells, file_views, node_of, graph}
use Rattle.bl_selection.specs.Fate.{carried_value}
use Rattle.bl_selection.specs.Selection.{entry_is_id, entry_names, entry_cells, selection_views, entry_node, selection_graph, is_kept, rebuilt_graph}
use Rattle.bl_selection.specs.Written.{element_written, contents_written, node_written, written_form}
use Rattle.bl_selection.specs.Drafts.{is_good_entry, is_well_formed}
use Rattle.bl_linking.specs.Fresh.{cut, base_of, suffix_of, candidate, least_free, fresh_name}
use Rattle.bl_linking.specs.References.{node_is_id, id_whole, full_name, nodes_named_by, references_of, references, library_of, leads_to, closure_of, is_fake, users_of, with_users_of, with_users, with_name, path_array, library_path, with_path}
use Rattle.bl_linking.specs.Append.{local_named, plain_nodes, new_libraries, new_placeholders, branches, appended_entries, appended_draft, old_name, fresh_names, with_old_texts, appended_graph}
use Rattle.bl_linking.specs.Link.{given_values, made_placeholder, made_library, linked_entries, linked_draft, linked_graph}
use Rattle.bl_linking.specs.Resolve.{original_of, leads_over, needed_ids, needed_placeholders, next_path, with_next_file, files_opened_within, opened_files, resolved_entries, resolved_draft, resolved_from}

-- the header and the blocks of a file
unfoldable pub blocks : ℕ
unfolding header_of head_in step_in blocks_within blocks_of
blocks = 0

-- a catalogue's payload
unfoldable pub payloads : ℕ
unfolding catalogue_of tag_at count_at index_at name_at many_at type_names_at member_at structs_at catalogue_written
payloads = 0

-- sizes, offsets and leaves
unfoldable pub leaves : ℕ
unfolding struct_named name_of basic_named content_of inner_struct element_size member_size member_offset member_name extents kind_of member_leaves leaves_within named_leaves
leaves = 0

-- the faults of a layout
unfoldable pub faults : ℕ
unfolding leaves numbers_reached member_fault first_fault nesting_within nesting depth_fault leaves_below leaves_fault layout_fault
faults = 0

-- another width
unfoldable pub widths : ℕ
unfolding leaves tail_of length_within rewidth
widths = 0

-- a file's graph
unfoldable pub graphs : ℕ
unfolding leaves has_id_part is_id marks target_of view_of raw_kind leaf_value cells contents_by node_cells file_views node_of graph number_meant bits_of
graphs = 0

-- the written form
unfoldable pub writing : ℕ
unfolding leaves bits_of element_written contents_written node_written written_form head_written header_written catalogue_written
writing = 0

-- a selection's graph
unfoldable pub selecting : ℕ
unfolding graphs carried_value entry_is_id entry_names entry_cells selection_views entry_node selection_graph is_kept rebuilt_graph
selecting = 0

-- well-formed drafts
unfoldable pub drafts : ℕ
unfolding selecting is_good_entry is_well_formed
drafts = 0

-- fresh names
unfoldable pub naming : ℕ
unfolding cut base_of suffix_of candidate least_free fresh_name digits
naming = 0

-- IDs, references and users
unfoldable pub linking : ℕ
unfolding leaves numbers_reached node_is_id id_whole full_name nodes_named_by references_of references library_of leads_to closure_of is_fake users_of with_users_of with_users with_name path_array library_path with_path
linking = 0

-- append, link and resolve
unfoldable pub merging : ℕ
unfolding selecting linking naming local_named plain_nodes new_libraries new_placeholders branches appended_entries appended_draft old_name fresh_names with_old_texts appended_graph given_values made_placeholder made_library linked_entries linked_draft linked_graph original_of leads_over needed_ids needed_placeholders next_path with_next_file files_opened_within opened_files resolved_entries resolved_draft resolved_from
merging = 0
