-- The draft of all nodes of a file under the header and a copy of the catalogue of a file, which tests make, has that file's form.
use Rattle.std.proofs.Common.{◌≡◌, ◌<◌, ◌^◌, ℕ, List, [], length, sym, ap, subst, ◌∙◌}
use Rattle.std.specs.Prelude.{Result, IfOk}
use Rattle.std.proofs.lemmas.Result.{IfOk-weaker}
use Rattle.bl_format.specs.declared.catalogue.Catalogue.{Catalogue}
use Rattle.bl_format.specs.Layout.{HasLayout}
use Rattle.bl_format.specs.Schema.{catalogue_written}
use Rattle.bl_selection.specs.declared.draft.Draft.{Draft}
use Rattle.bl_selection.specs.Selection.{whole_selection}
use Rattle.bl_file.specs.declared.outline.Outline.{Outline}
use Rattle.bl_file.specs.Outlines.{IsSound}
use Rattle.bl_draft.specs.Own.{outlined}

module _ (q : Outline) (copy : Catalogue) (same : copy ≡ q.layout.catalogue) (sound : IsSound q) where
  pub copy_layout : HasLayout copy q.header.width
  copy_layout =
      subst (λ (c : Catalogue). HasLayout c q.header.width) (sym same)
      (subst (HasLayout q.layout.catalogue) sound.width sound.has_layout)

  pub copy_short : length (catalogue_written q.header.order copy) < 2 ^ 31
  copy_short = subst (λ (c : Catalogue). length (catalogue_written q.header.order c) < 2 ^ 31) (sym same) sound.short

  module _ (o : Outline) {E : Type 0} (r : Result Draft E) (made : IfOk r (λ d. (b : List ℕ) → d ≡ whole_selection (outlined o b) q.header copy)) where
    pub copy_catalogue : IfOk r (λ d. q.layout.catalogue ≡ d.catalogue)
    copy_catalogue = IfOk-weaker r _ _ (λ d is. sym (ap (λ (x : Draft). x.catalogue) (is []) ∙ same)) made

    pub copy_width : IfOk r (λ d. q.layout.width ≡ d.header.width)
    copy_width = IfOk-weaker r _ _ (λ d is. sound.width ∙ sym (ap (λ (x : Draft). x.header.width) (is []))) made
