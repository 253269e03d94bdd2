-- The bytes of an output, added block by block.
use Rattle.std.proofs.Common.{◌≡◌, ℕ, ◌+◌, List, [], ◌++◌, length, Option, option_map, sym, ap, subst, ◌∙◌}
use Rattle.std.specs.Prelude.{flat_map, codes}
use Rattle.bl_format.specs.Words.{numbers_below}
use Rattle.bl_format.specs.Blocks.{header_size, head_size, header_written}
use Rattle.bl_format.specs.Schema.{catalogue_written}
use Rattle.bl_format.proofs.HeaderBack.{length-header_written}
use Rattle.bl_selection.specs.Written.{block_written}
use Rattle.bl_shelf.specs.Told.{Told, push_in}
use Rattle.bl_file.specs.Seen.{Namings}
use Rattle.bl_writer.specs.declared.output.Output.{Output}
use Rattle.bl_writer.specs.Outputs.{block_bytes, block_length, output_form, target_of}
use Rattle.bl_writer.specs.Lengths.{blocks_length, form_length}
use Rattle.bl_writer.specs.Rendering.{Adds, AddsOf, end_written}
use Rattle.bl_writer.proofs.BlockLengths.{blocks_length-more}
use Rattle.bl_writer.proofs.ElementPieces.{flat_map-next}
use Rattle.bl_writer.proofs.Renderings.{adds_all, adds_more_of}

-- ---- what is added

-- the text of one number more is added
pub adds_number : (o : Output) (text : ℕ → List ℕ) (k : ℕ) (t t1 t2 : Option Told) (p p1 p2 : List ℕ)
    → AddsOf t p (flat_map text (numbers_below k)) (blocks_length o k) t1 p1 → AddsOf t1 p1 (text k) (block_length o k) t2 p2
    → AddsOf t p (flat_map text (numbers_below (k + 1))) (blocks_length o (k + 1)) t2 p2
adds_number o text k t t1 t2 p p1 p2 first second =
    let both = adds_more_of t t1 t2 p p1 p2 (flat_map text (numbers_below k)) (text k) (blocks_length o k) (block_length o k) first second in
    let whole : flat_map text (numbers_below (k + 1)) ≡ flat_map text (numbers_below k) ++ text k = flat_map-next text k in
    record {
      adds = subst (λ (x : List ℕ). Adds t p x t2 p2) (sym whole) both.adds;
      length = ap length whole ∙ both.length ∙ sym (blocks_length-more o k);
    }

-- all parts are added and pushed
pub record Pushes (form : List ℕ) (t t' : Option Told) (n : ℕ) : Type 0 where
  pub pushed : t' ≡ option_map (push_in form) t
  pub length : length form ≡ n

module _ (names : Namings) (o : Output) (b header catalogue : List ℕ) (t t1 t2 t3 t4 t5 : Option Told) (p1 p2 p3 p4 : List ℕ) where
  pub all_pushed : header ≡ header_written o.header → catalogue ≡ catalogue_written o.header.order (target_of o)
      → Adds t [] header t1 p1
      → AddsOf t1 p1 (flat_map (λ k. block_bytes (names k) o b k) (numbers_below (length o.nodes.now))) (blocks_length o (length o.nodes.now)) t2 p2
      → AddsOf t2 p2 (block_written o.header (codes "DNA1") 0 0 1 catalogue) (head_size o.header + length catalogue) t3 p3
      → AddsOf t3 p3 (end_written o.header) (head_size o.header) t4 p4
      → t5 ≡ option_map (push_in p4) t4
      → Pushes (output_form names o b) t t5 (form_length o.header (blocks_length o (length o.nodes.now)) (length catalogue))
  all_pushed header_is catalogue_is first second third fourth push =
      let h = o.header in
      let n = blocks_length o (length o.nodes.now) in
      let blocks = flat_map (λ k. block_bytes (names k) o b k) (numbers_below (length o.nodes.now)) in
      let block = block_written h (codes "DNA1") 0 0 1 catalogue in
      let start : AddsOf t [] header (header_size h) t1 p1 = record { adds = first; length = ap length header_is ∙ length-header_written h } in
      let two = adds_more_of t t1 t2 [] p1 p2 header blocks (header_size h) n start second in
      let three = adds_more_of t t2 t3 [] p2 p3 (header ++ blocks) block (header_size h + n) (head_size h + length catalogue) two third in
      let four = adds_more_of t t3 t4 [] p3 p4 ((header ++ blocks) ++ block) (end_written h) (header_size h + n + (head_size h + length catalogue)) (head_size h) three fourth in
      let whole : ((header ++ blocks) ++ block) ++ end_written h ≡ output_form names o b =
      ap (λ (x : List ℕ). ((x ++ blocks) ++ block) ++ end_written h) header_is
      ∙ ap (λ (x : List ℕ). ((header_written h ++ blocks) ++ block_written h (codes "DNA1") 0 0 1 x) ++ end_written h) catalogue_is in
      record {
        pushed = adds_all t t4 t5 p4 (((header ++ blocks) ++ block) ++ end_written h) four.adds push ∙ ap (λ (x : List ℕ). option_map (push_in x) t) whole;
        length = sym (ap length whole) ∙ four.length;
      }
