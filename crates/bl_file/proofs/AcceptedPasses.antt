-- A file that is accepted, and within the limits, passes all checks of its opening; and one that passes them is within
-- the limit on blocks.
use Rattle.std.proofs.Common.{◌≡◌, ◌≤◌, ◌<◌, ◌+◌, ℕ, Bool, true, false, cond, List, [], ◌∷◌, length, Option, Some, None, Ok, ap, ◌∙◌, arith}
use Rattle.std.specs.Prelude.{option_map, nat_lt}
use Rattle.std.specs.Result.{result_err}
use Rattle.bl_format.specs.Words.{find_map}
use Rattle.bl_format.specs.Limits.{most_blocks, most_input_bytes}
use Rattle.bl_format.specs.Blocks.{header_of, blocks_of}
use Rattle.bl_format.specs.Nodes.{File, catalogues_in, nodes_in, node_fault, Accepted}
use Rattle.bl_format.proofs.BlocksOf.{blocks_of_few}
use Rattle.bl_file.specs.declared.fault.OpenFault.{OpenFault}
use Rattle.bl_file.specs.declared.fault.OpenFault.TheVariants.{TooLarge, Head as InHead, Block as InBlock, Sdna}
use Rattle.bl_file.proofs.Checks.{no_fault, passes, value_of, one_catalogue, all_blocks_counted, accepted-passes, fits_checked}
use Rattle.bl_file.specs.Opening.{header_in, blocks_in, catalogue_read, catalogue_in, file_in, catalogue_fault, named_fault, fault_of_node, first_of, format_fault, open_fault}
use Rattle.bl_format.specs.Layout.{layout_fault}

-- a file that is accepted has no fault that keeps it from being opened
pub accepted_opens : (used : ℕ) (b : List ℕ) (f : File) → used + length b ≤ most_input_bytes → Accepted b f → length f.nodes < most_blocks → open_fault used (Some b) ≡ None
accepted_opens used b f small accepted few = fits_checked used b small ∙ accepted-passes b f accepted few

-- ---- what passes

module _ (b : List ℕ) where
  abbrev later : List (Option OpenFault)
  later = option_map Sdna (result_err (catalogue_read b))
      ∷ option_map (named_fault (catalogue_in b)) (layout_fault (catalogue_in b) (header_in b).width)
      ∷ option_map fault_of_node (find_map (node_fault (catalogue_in b)) (nodes_in (blocks_in b)))
      ∷ []

  abbrev header_check : Option OpenFault
  header_check = option_map InHead (result_err (header_of b))

  abbrev block_check : Option OpenFault
  block_check = option_map InBlock (result_err (blocks_of (header_in b) b))

  abbrev one_check : Option OpenFault
  one_check = catalogue_fault (catalogues_in (blocks_in b))

  few_by : first_of (header_check ∷ block_check ∷ one_check ∷ later) ≡ None → length (nodes_in (blocks_in b)) < most_blocks
  few_by all =
      let behind = passes block_check (one_check ∷ later) (passes header_check (block_check ∷ one_check ∷ later) all).1 in
      let read : blocks_of (header_in b) b ≡ Ok (blocks_in b) = value_of (blocks_of (header_in b) b) [] (no_fault InBlock (result_err (blocks_of (header_in b) b)) behind.0) in
      let few : length (blocks_in b) ≤ most_blocks = blocks_of_few b (header_in b) (blocks_in b) read in
      let one : length (catalogues_in (blocks_in b)) ≡ 1 = ap length (one_catalogue (catalogues_in (blocks_in b)) (passes one_check later behind.1).0).1 in
      let counted : length (nodes_in (blocks_in b)) + length (catalogues_in (blocks_in b)) ≡ length (blocks_in b) = all_blocks_counted (blocks_in b) in
      omega (arith, few, one, counted)

-- a file that passes all checks has fewer nodes than blocks may be
pub passes_few : (b : List ℕ) → format_fault b ≡ None → length (file_in b).nodes < most_blocks
unfolding format_fault
passes_few b all = few_by b all

opens_passes : (large : Bool) (fault : OpenFault) (o : Option OpenFault) → cond large (Some fault) o ≡ None → o ≡ None
opens_passes true fault o is = cc
opens_passes false fault o is = is

-- so of a file that is opened
pub opens_few : (used : ℕ) (b : List ℕ) → open_fault used (Some b) ≡ None → length (file_in b).nodes < most_blocks
unfolding open_fault
opens_few used b is = passes_few b (opens_passes (nat_lt most_input_bytes (used + length b)) (TooLarge (used + length b)) (format_fault b) is)
