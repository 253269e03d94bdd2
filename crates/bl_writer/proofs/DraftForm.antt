-- What is staged of an output of a draft is the written form of the draft's selection, and it is as long.
use Rattle.std.proofs.Common.{◌≡◌, ◌≢◌, ℕ, ◌<◌, ◌≤◌, All, List, [], ◌∷◌, ◌++◌, length, get_or, Option, option_map, sym, ap, subst, ◌∙◌}
use Rattle.std.specs.Prelude.{map, flat_map}
use Rattle.std.proofs.lemmas.List.{length-map}
use Rattle.bl_format.specs.declared.file.Header.{Header}
use Rattle.bl_format.specs.declared.file.Head.{Head}
use Rattle.bl_format.specs.declared.catalogue.Catalogue.{Catalogue}
use Rattle.bl_format.specs.declared.raw.RawKind.TheVariants.{Bytes}
use Rattle.bl_num.specs.declared.number.Width.{Width}
use Rattle.bl_format.specs.Limits.{most_output_nodes}
use Rattle.bl_format.specs.Layout.{HasLayout, struct_numbers}
use Rattle.bl_format.specs.Words.{numbers_below}
use Rattle.bl_format.specs.Blocks.{header_written}
use Rattle.bl_format.specs.Nodes.{File}
use Rattle.bl_selection.specs.declared.draft.Draft.{Draft}
use Rattle.bl_selection.specs.Carried.{struct_form, carried_block}
use Rattle.bl_selection.specs.Selection.{no_head, index_under}
use Rattle.bl_selection.specs.Written.{catalogue_block}
use Rattle.bl_selection.proofs.NumberedTexts.{texts-same}
use Rattle.bl_layout.specs.LaidOut.{LaidOut}
use Rattle.bl_shelf.specs.Told.{Told}
use Rattle.bl_file.specs.declared.outline.Outline.{Outline}
use Rattle.bl_file.specs.Held.{IsHeldAnd}
use Rattle.bl_file.specs.Opening.{file_in}
use Rattle.bl_file.specs.Outlines.{ArePairsLong, IsNodeIn, IsSound, StandsFor}
use Rattle.bl_file.specs.Seen.{Namings}
use Rattle.bl_plan.specs.Plans.{Carries, no_plan}
use Rattle.bl_draft.specs.Structs.{AreStructsOf}
use Rattle.bl_draft.specs.Own.{IsSourceDraft, own_names, outlined, entry_head, entry_heads, entry_kinds}
use Rattle.bl_writer.specs.declared.output.Output.{Output}
use Rattle.bl_writer.specs.Outputs.{IsOutput, IsPlanned, block_bytes, output_form, selection_form, target_of}
use Rattle.bl_writer.specs.Rendering.{end_written, staged_as}
use Rattle.bl_writer.proofs.CarriedOutput.{known_block, selection_form-known}
use Rattle.bl_writer.proofs.Renderings.{IsHeldAnd-both}

-- an output is that of a draft of an opened file, but for what addresses name and kinds
pub record IsOutputOf (o : Outline) (d : Draft) (out : Output) : Type 0 where
  pub from : out.from ≡ o.header
  pub source : out.source.now ≡ o.layout
  pub header : out.header ≡ d.header
  pub target : target_of out ≡ d.catalogue
  pub nodes : out.nodes.now ≡ entry_heads o.nodes d.entries

module _ (o : Outline) (d : Draft) (out : Output) (names : Namings) (draft : IsSourceDraft o d) (of : IsOutputOf o d out)
    (named : (e : ℕ) → e < length d.entries → names e ≡ own_names (outlined o []) d e) where
  -- by the source's bytes, a block of the output is that of the entry
  block_is : (b : List ℕ) → out.kinds.now ≡ entry_kinds (outlined o b) d → (e : ℕ) → e < length d.entries
      → block_bytes (names e) out b e ≡ known_block b o d e
  block_is b kinds e lt = λ i.
      carried_block (named e lt i) (record { header = of.from i; catalogue = (of.source i).catalogue; nodes = []; bytes = b }) (of.header i) (of.target i)
      e (get_or (kinds i) e Bytes) (get_or (of.nodes i) e no_head)

  -- and all of it is the draft's selection
  form_is : (b : List ℕ) → StandsFor b o → out.kinds.now ≡ entry_kinds (outlined o b) d → output_form names out b ≡ selection_form (file_in b ∷ []) d
  form_is b stands kinds =
      let count : length out.nodes.now ≡ length d.entries = ap (λ (xs : List Head). length xs) of.nodes ∙ length-map d.entries (entry_head o.nodes) in
      let blocks : ℕ → List ℕ = λ e. block_bytes (names e) out b e in
      let text : List ℕ → Header → Catalogue → List ℕ = λ xs h c. ((header_written h ++ xs) ++ catalogue_block h c) ++ end_written h in
      ap (λ (m : ℕ). text (flat_map blocks (numbers_below m)) out.header (target_of out)) count
      ∙ ap (λ (xs : List ℕ). text xs out.header (target_of out)) (texts-same blocks (known_block b o d) (length d.entries) (block_is b kinds))
      ∙ (λ i. text (flat_map (known_block b o d) (numbers_below (length d.entries))) (of.header i) (of.target i))
      ∙ sym (selection_form-known b o d draft.no_overrides draft.sources)
      ∙ sym (ap (λ (f : File). selection_form (f ∷ []) d) stands.file)

  module _ (t t1 : Option Told) (file file1 : List ℕ) (told : t1 ≡ t) (name_is : file1 ≡ file)
      (stands : IsHeldAnd t file (λ b. StandsFor b o)) (kinds : IsHeldAnd t file (λ b. out.kinds.now ≡ entry_kinds (outlined o b) d)) where
    forms : IsHeldAnd t file (λ b. output_form names out b ≡ selection_form (file_in b ∷ []) d)
    forms = IsHeldAnd-both t file _ _ _ (λ b known are. form_is b known are) stands kinds

    here : (Such : Option Told → List ℕ → Type 0) → IsHeldAnd t1 file1 (Such t1) → IsHeldAnd t file (Such t)
    here Such is = subst (λ (x : Option Told). IsHeldAnd x file (Such x)) told (subst (λ (n : List ℕ). IsHeldAnd t1 n (Such t1)) name_is is)

    -- so what is staged is the written form
    pub draft_staged : (t' : Option Told) (name : List ℕ) → IsHeldAnd t1 file1 (λ b. t' ≡ option_map (staged_as name (output_form names out b)) t1)
        → IsHeldAnd t file (λ b. t' ≡ option_map (staged_as name (selection_form (file_in b ∷ []) d)) t)
    draft_staged t' name staged =
        IsHeldAnd-both t file _ _ _ (λ b is same. is ∙ ap (λ (x : List ℕ). option_map (staged_as name x) t) same)
        (here (λ x b. t' ≡ option_map (staged_as name (output_form names out b)) x) staged) forms

    -- and as long
    pub draft_bytes : (n : ℕ) → IsHeldAnd t1 file1 (λ b. n ≡ length (output_form names out b))
        → IsHeldAnd t file (λ b. n ≡ length (selection_form (file_in b ∷ []) d))
    draft_bytes n bytes =
        IsHeldAnd-both t file _ _ _ (λ b is same. is ∙ ap (λ (x : List ℕ). length x) same) (here (λ x b. n ≡ length (output_form names out b)) bytes) forms

-- ---- it can be written

module _ (o : Outline) (d : Draft) (out : Output) (draft : IsSourceDraft o d) (of : IsOutputOf o d out) (structs : AreStructsOf o d out.structs.now) where
  planned_by : All (IsPlanned out) out.nodes.now
  planned_by = subst (λ (T : Type 0). T)
      (λ i. All (λ (x : Head). x.index ≢ 0 → (index_under (sym of.target i) (sym of.source i).catalogue x.index < length (sym of.target i).structs)
      × Carries (struct_form (sym of.from i).order (sym of.source i).catalogue (sym of.from i).width x.index)
      (struct_form (sym of.header i).order (sym of.target i) (sym of.header i).width (index_under (sym of.target i) (sym of.source i).catalogue x.index))
      (get_or out.structs.now.plans.items x.index no_plan)) (sym of.nodes i))
      structs.carries

  -- an output of few nodes of an opened file can be written
  pub output_of : (size : ℕ) → IsSound o → length out.nodes.now ≤ most_output_nodes → size ≡ o.size
      → All (IsNodeIn o.header o.layout.catalogue o.size) out.nodes.now → length out.kinds.now ≡ length out.nodes.now → ArePairsLong out.nodes.now out.kinds.now
      → IsOutput out size
  output_of size sound few long all kinds pairs = record {
    version = rw of.header draft.version;
    width = structs.width ∙ ap (λ (h : Header). h.width) (sym of.header);
    has_layout = rw (of.target, of.header) draft.has_layout;
    short = rw (of.target, of.header) draft.short;
    source_width = ap (λ (l : LaidOut). l.width) of.source ∙ sound.width ∙ ap (λ (h : Header). h.width) (sym of.from);
    source_layout = subst (λ (w : Width). HasLayout out.source.now.catalogue w) (ap (λ (l : LaidOut). l.width) of.source ∙ sound.width ∙ ap (λ (h : Header). h.width) (sym of.from))
        (subst (λ (l : LaidOut). HasLayout l.catalogue l.width) (sym of.source) sound.has_layout);
    numbers = structs.numbers ∙ (λ i. map (index_under (sym of.target i) (sym of.source i).catalogue) (struct_numbers (sym of.source i).catalogue));
    plans = structs.plans ∙ ap (λ (l : LaidOut). length l.catalogue.structs) (sym of.source);
    planned = planned_by;
    few = few;
    small = rw long sound.size;
    nodes = rw (of.from, of.source, long) all;
    kinds = kinds;
    pairs = pairs;
  }
