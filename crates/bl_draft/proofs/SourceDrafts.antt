-- What a draft of one file's nodes has: fewer entries than there are numbers for them, one list of images in range, and
-- entries that are nodes of the file, which the draft's catalogue keeps.
use Rattle.std.proofs.Common.{◌≡◌, ◌≢◌, ◌<◌, ◌≤◌, ◌^◌, ℕ, true, All, List, [], ◌∷◌, length, get_or, refl, ap, ◌∙◌}
use Rattle.bl_format.specs.declared.file.Head.{Head}
use Rattle.bl_format.specs.declared.catalogue.Catalogue.{Catalogue}
use Rattle.bl_format.specs.Nodes.{File}
use Rattle.bl_selection.specs.declared.draft.Draft.{Draft}
use Rattle.bl_selection.specs.declared.draft.Entry.{Entry}
use Rattle.bl_selection.specs.declared.draft.Entry.TheVariants as entries
use Rattle.bl_selection.specs.Drafts.{is_well_formed}
use Rattle.bl_selection.specs.Selection.{index_under}
use Rattle.bl_selection.proofs.DraftFacts.{entries-few, images-one, images-long, images-within, source-within, source-kept}
use Rattle.bl_selection.proofs.RebuiltStands.{kept_struct}
use Rattle.bl_file.specs.declared.outline.Outline.{Outline}
use Rattle.bl_draft.specs.Own.{IsSourceDraft, IsOfSource, entry_head, outlined}
use Rattle.bl_draft.specs.Entries.{IsNodeBelow}

-- an entry's node is raw, or a catalogue has its struct at a number other than 0
abbrev pub HasNamesake : Catalogue → Catalogue → List Head → Entry → Type 0
HasNamesake c from nodes x = (entry_head nodes x).index ≢ 0 → index_under c from (entry_head nodes x).index ≢ 0

-- what is so of a draft of nodes that stand under a catalogue
pub record IsDraftOf (from : Catalogue) (nodes : List Head) (d : Draft) : Type 0 where
  pub entries : All (IsNodeBelow (length nodes)) d.entries
  pub kept : All (HasNamesake d.catalogue from nodes) d.entries
  pub few : length d.entries < 2 ^ 32
  pub one_row : length d.images ≡ 1
  pub images_long : length (get_or d.images 0 []) ≡ length nodes
  pub images_few : All (λ image. image ≤ length d.entries) (get_or d.images 0 [])

module _ (f : File) (d : Draft) (well_formed : is_well_formed (f ∷ []) d ≡ true) where
  entry_below : (k : ℕ) (z x : Entry) → k < length d.entries → get_or d.entries k z ≡ x → IsOfSource x
      → IsNodeBelow (length f.nodes) x
  entry_below k z (entries.Source i n) lt at is =
      (is, source-within f d k n z well_formed lt (at ∙ ap (λ (j : ℕ). entries.Source j n) is))
  entry_below k z (entries.Made m) lt at is = absurd is
  entry_below k z (entries.Raw code bytes) lt at is = absurd is

  entry_kept : (k : ℕ) (z x : Entry) → k < length d.entries → get_or d.entries k z ≡ x → IsOfSource x
      → HasNamesake d.catalogue f.catalogue f.nodes x
  entry_kept k z (entries.Source i n) lt at is =
      kept_struct d.catalogue f n (source-kept f d k n z well_formed lt (at ∙ ap (λ (j : ℕ). entries.Source j n) is))
  entry_kept k z (entries.Made m) lt at is = absurd is
  entry_kept k z (entries.Raw code bytes) lt at is = absurd is

  pub IsDraftOf-well_formed : All IsOfSource d.entries → IsDraftOf f.catalogue f.nodes d
  IsDraftOf-well_formed sources =
      record {
        entries = λ k z lt. entry_below k z (get_or d.entries k z) lt refl (sources k z lt);
        kept = λ k z lt. entry_kept k z (get_or d.entries k z) lt refl (sources k z lt);
        few = entries-few (f ∷ []) d well_formed;
        one_row = ap (λ (rows : List (List ℕ)). length rows) (images-one f d well_formed);
        images_long = images-long f d well_formed;
        images_few = images-within f d well_formed;
      }

-- a draft of an outline's nodes is one of its nodes and its catalogue
pub IsDraftOf-source : (o : Outline) (d : Draft) → IsSourceDraft o d → IsDraftOf o.layout.catalogue o.nodes d
IsDraftOf-source o d source = IsDraftOf-well_formed (outlined o []) d source.well_formed source.sources
